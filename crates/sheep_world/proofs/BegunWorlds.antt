-- What holds when a script opens, and is kept by each event and each client's read, holds of each world that a run of it reaches.
use Rattle.std.proofs.Common.{◌≡◌, ℕ, List, [], ◌∷◌, ◌++◌, Option, Some, None, option_and_then, option_map, refl, ap, subst, ◌∙◌}
use Rattle.std.proofs.lemmas.Option.{same_Some}
use Rattle.cluster_script.specs.declared.statement.Statement.{Statement}
use Rattle.sheep_node.specs.declared.event.Event.{Event}
use Rattle.sheep_world.specs.World.{Host, World}
use Rattle.sheep_world.specs.Opening.{initial_world}
use Rattle.sheep_world.specs.Run.{Moment, initial_moment, moment_with_made}
use Rattle.sheep_world.specs.RunsWithAsks.{Move, Happens, made_by, event_of_move, next_move, moves_from}
use Rattle.sheep_world.specs.Step.{EventOutcome, step}
use Rattle.sheep_world.specs.Began.{Began, MakesMove, IsInvariant}
use Rattle.sheep_world.specs.HostChanges.{HoldsOfEachHost, HostsKeep}
use Rattle.sheep_world.proofs.HostChangeLaws.{each_kept, each_opens}

module _ (statements : List Statement) where
  append_from : (moves later : List Move) (o : Option Moment)
      → ((moment : Moment) → moves_from statements (moves ++ later) moment
      ≡ option_and_then (moves_from statements later) (moves_from statements moves moment))
      → option_and_then (moves_from statements (moves ++ later)) o
      ≡ option_and_then (moves_from statements later) (option_and_then (moves_from statements moves) o)
  append_from moves later None rest = refl
  append_from moves later (Some after) rest = rest after

  moves-append : (moves later : List Move) (moment : Moment)
      → moves_from statements (moves ++ later) moment ≡ option_and_then (moves_from statements later) (moves_from statements moves moment)
  unfolding moves_from
  moves-append [] later moment = refl
  moves-append (move ∷ moves) later moment = append_from moves later (next_move statements move moment) (moves-append moves later)

  opens_began : Began statements (initial_world statements)
  unfolding moves_from
  opens_began = record { moves = []; moment = initial_moment statements; runs = refl; world_so = refl }

  -- one move more
  pub moves_on : (move : Move) (world : World) (made : EventOutcome) → Began statements world → made_by statements move world ≡ Some made
      → Began statements made.world
  unfolding moves_from
  moves_on move world made began is =
      let here : made_by statements move began.moment.world ≡ Some made = ap (made_by statements move) began.world_so ∙ is in
      record {
        moves = began.moves ++ move ∷ [];
        moment = moment_with_made began.moment.history made;
        runs =
            moves-append began.moves (move ∷ []) (initial_moment statements)
            ∙ ap (option_and_then (moves_from statements (move ∷ []))) began.runs
            ∙ ap (λ (o : Option EventOutcome). option_and_then (moves_from statements []) (option_map (moment_with_made began.moment.history) o))
            here;
        world_so = refl;
      }

  -- whatever goes on
  pub goes_on : (event : Event) (world : World) (made : EventOutcome) → Began statements world → MakesMove statements event world made
      → Began statements made.world
  goes_on event world made began goes = moves_on goes.move world made began goes.made_so

  -- what a move makes goes on, and so does what an event makes
  pub goes_by_move : (move : Move) (world : World) (made : EventOutcome) → made_by statements move world ≡ Some made
      → MakesMove statements (event_of_move move) world made
  goes_by_move move world made is = record { move = move; event_so = refl; made_so = is }

  pub goes_by_event : (event : Event) (world : World) (made : EventOutcome) → step statements event world ≡ Some made
      → MakesMove statements event world made
  goes_by_event event world made is = record { move = Happens event; event_so = refl; made_so = is }

module _ (statements : List Statement) (I : World → Type 0) (invariant : IsInvariant statements I) where
  abbrev Holds : Moment → Type 0
  Holds moment = Began statements moment.world × I moment.world

  holds_if : (move : Move) (moves : List Move) (moment last : Moment) (o : Option EventOutcome) → made_by statements move moment.world ≡ o
      → ((next : Moment) → Holds next → moves_from statements moves next ≡ Some last → Holds last)
      → Holds moment → option_and_then (moves_from statements moves) (option_map (moment_with_made moment.history) o) ≡ Some last → Holds last
  holds_if move moves moment last None at later here is = absurd (cc (is))
  holds_if move moves moment last (Some made) at later here is =
      let goes = goes_by_move statements move moment.world made at in
      later (moment_with_made moment.history made) (
        moves_on statements move moment.world made here.0 at,
        invariant.keeps (event_of_move move) moment.world made here.0 goes here.1,
      ) is

  holds_from : (moves : List Move) (moment last : Moment) → Holds moment → moves_from statements moves moment ≡ Some last → Holds last
  unfolding moves_from
  holds_from [] moment last here is = subst Holds (same_Some moment last is) here
  holds_from (move ∷ moves) moment last here is =
      holds_if move moves moment last (made_by statements move moment.world) refl
      (λ (next : Moment) (there : Holds next) (so : moves_from statements moves next ≡ Some last). holds_from moves next last there so) here is

  pub by_induction : (world : World) → Began statements world → I world
  by_induction world began =
      subst I began.world_so
      (holds_from began.moves (initial_moment statements) began.moment (opens_began statements, invariant.opens) began.runs).1

-- what is kept of each host holds of each host of each such world, where what it needs of worlds holds there
pub each_where : (statements : List Statement) (I : World → Type 0) (P : World → ℕ → Host → Type 0)
    → ((world : World) → Began statements world → I world) → HostsKeep statements I P → (world : World) → Began statements world → HoldsOfEachHost P world
each_where statements I P holds kept =
    by_induction statements (HoldsOfEachHost P) (record {
      opens = each_opens statements I P kept;
      keeps = λ event world made began is each. each_kept statements I P kept event world made is (holds world began) each;
    })

-- where it needs nothing
pub each_began : (statements : List Statement) (P : World → ℕ → Host → Type 0) → HostsKeep statements (λ (world : World). Unit {0}) P
    → (world : World) → Began statements world → HoldsOfEachHost P world
each_began statements P kept = each_where statements (λ (world : World). Unit {0}) P (λ world began. tt) kept
