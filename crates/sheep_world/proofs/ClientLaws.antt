-- A client's asks between the events of a run, the events that bring their replies, and what a check's write adds.
use Rattle.std.proofs.Common.{◌≡◌, ◌⊎◌, ℕ, zero, suc, ◌<◌, ◌/◌, nat_lt, Bool, true, false, cond, List, [], ◌∷◌, ◌++◌, append-nil, length, map, filter, flat_map, Contains, Option, Some, None, is_some, refl, sym, ap, ◌∙◌, ⊎_elim, subst}
use Rattle.std.specs.List.{range_with_len}
use Rattle.std.specs.Option.{option_map, option_map_or, option_and_then}
use Rattle.std.proofs.lemmas.Bool.{ltb-true}
use Rattle.std.proofs.lemmas.Option.{same_Some}
use Rattle.proof_tools.proofs.Lists.{Contains-nil, Contains-first, Contains-cons, Contains-cons_cases, find-contains}
use Rattle.object_id.specs.declared.limits.TheConstants.{BLOCK_BYTES}
use Rattle.object_id.specs.declared.node.NodeId.{NodeId}
use Rattle.object_id.specs.declared.oid.Kind.TheVariants.{Block}
use Rattle.gf256.specs.Part.{is_in_strips}
use Rattle.disk_history.specs.declared.event.HistEvent.{HistEvent}
use Rattle.disk_history.specs.declared.event.HistEvent.TheVariants.{WriteStart, Read}
use Rattle.cluster_script.specs.declared.statement.Statement.{Statement}
use Rattle.sheep_node.specs.declared.ask.Ask.{Ask}
use Rattle.sheep_node.specs.declared.event.Event.{Event}
use Rattle.sheep_node.specs.declared.check_write.CheckWrite.{CheckWrite}
use Rattle.sheep_world.specs.World.{World}
use Rattle.sheep_world.specs.HistoryAdditions.{replies_grown, block_in, is_on_disk, block_written, block_checked, check_write_adds}
use Rattle.sheep_world.specs.ClientAsks.{answer_of}
use Rattle.sheep_world.specs.ClientSteps.{ask_effect, brings_answers, next_driven, world_with_event, world_turned, world_driven}
use Rattle.sheep_world.specs.Enabled.{enabled_events}
use Rattle.sheep_world.specs.Run.{Moment, next, run_from, initial_moment, moment_with_made, run}
use Rattle.sheep_world.specs.Step.{EventOutcome, with_replies}
use Rattle.sheep_world.proofs.AskReplies.{read-adds_nothing}
use Rattle.sheep_world.proofs.ClientReads.{may_read, read_made}
use Rattle.sheep_world.specs.RunsWithAsks.{Happens, Asks, may_read_object, next_move, moves_from, run_with_asks}
use Rattle.sheep_world.specs.Began.{Began}

-- ---- runs with asks

moves-events : (statements : List Statement) (events : List Event) (moment : Moment)
    → moves_from statements (map Happens events) moment ≡ run_from statements events moment
unfolding moves_from run_from
moves-events statements [] moment = refl
moves-events statements (event ∷ events) moment =
    by_next (next statements event moment) (λ (moment : Moment). moves-events statements events moment)
  where
    by_next : (o : Option Moment)
        → ((moment : Moment) → moves_from statements (map Happens events) moment ≡ run_from statements events moment)
        → option_and_then (moves_from statements (map Happens events)) o ≡ option_and_then (run_from statements events) o
    by_next None same = refl
    by_next (Some moment) same = same moment

pub run-events : (statements : List Statement) (events : List Event) → run_with_asks statements (map Happens events) ≡ run statements events
run-events statements events = moves-events statements events (initial_moment statements)

-- so each world that a run of events reaches is reached
pub events-began : (statements : List Statement) (events : List Event) (moment : Moment) → run statements events ≡ Some moment
    → Began statements moment.world
events-began statements events moment is =
    record { moves = map Happens events; moment = moment; runs = run-events statements events ∙ is; world_so = refl }

pub asks-silent : (statements : List Statement) (node : NodeId) (ask : Ask) (moment after : Moment)
    → next_move statements (Asks node ask) moment ≡ Some after → after.history ≡ moment.history
asks-silent statements node ask moment after = by_may (may_read_object statements node ask moment.world) refl
  where
    made : EventOutcome
    made = with_replies statements moment.world (ask_effect node.0 ask moment.world)

    by_may : (b : Bool) → may_read_object statements node ask moment.world ≡ b
        → option_map (moment_with_made moment.history) (cond b (Some made) None) ≡ Some after → after.history ≡ moment.history
    by_may true may is =
        let (host, there, up, caused) = may_read statements node ask moment.world may in
        let none : made.grown ≡ []
        = ap (replies_grown statements moment.world None) (read_made statements node.0 host ask moment.world there caused.none)
        ∙ read-adds_nothing statements moment.world host ask caused.none in
        ap (λ (m : Moment). m.history) (sym (same_Some (moment_with_made moment.history made) after is))
        ∙ ap (λ (grown : List HistEvent). moment.history ++ grown) none
        ∙ append-nil moment.history
    by_may false may is = absurd (cc (is))

-- ---- the events that bring an answer

pub driven-may : (statements : List Statement) (world : World) (event : Event) → next_driven statements world ≡ Some event
    → Contains (enabled_events statements world) event × (brings_answers world event ≡ true)
driven-may statements world event is = find-contains (brings_answers world) (enabled_events statements world) event is

pub driven-answered : (statements : List Statement) (turns : ℕ) (world : World) → is_some (answer_of world) ≡ true
    → world_driven statements turns world ≡ world
unfolding world_driven
driven-answered statements zero world is = refl
driven-answered statements (suc turns) world is =
    ap (λ (b : Bool). cond b world (world_driven statements turns (world_turned statements world))) is

pub turned-still : (statements : List Statement) (world : World) → next_driven statements world ≡ None
    → world_turned statements world ≡ world
turned-still statements world none =
    ap (λ (o : Option Event). option_map_or (λ (event : Event). world_with_event statements event world) o world) none

pub driven-still : (statements : List Statement) (turns : ℕ) (world : World) → next_driven statements world ≡ None
    → world_driven statements turns world ≡ world
unfolding world_driven
driven-still statements zero world none = refl
driven-still statements (suc turns) world none =
    ap (λ (after : World). cond (is_some (answer_of world)) world (world_driven statements turns after)) (turned-still statements world none)
    ∙ ap (λ (after : World). cond (is_some (answer_of world)) world after) (driven-still statements turns world none)
    ∙ either (is_some (answer_of world))
  where
    either : (b : Bool) → cond b world world ≡ world
    either true = refl
    either false = refl

pub driven-zero : (statements : List Statement) (world : World) → world_driven statements 0 world ≡ world
unfolding world_driven
driven-zero statements world = refl

pub driven-turn : (statements : List Statement) (turns : ℕ) (world : World) → is_some (answer_of world) ≡ false
    → world_driven statements (suc turns) world ≡ world_driven statements turns (world_turned statements world)
unfolding world_driven
driven-turn statements turns world is =
    ap (λ (b : Bool). cond b world (world_driven statements turns (world_turned statements world))) is

-- ---- the write of a check

module _ (write : CheckWrite) (req disk block : ℕ) (coded : Bool) (bytes : List ℕ) where
  abbrev begins : HistEvent
  begins = WriteStart req disk block coded bytes

  abbrev IsChecked : List HistEvent → Type 0
  IsChecked events = (block < write.spec.size / BLOCK_BYTES) × Contains events (Read disk block bytes)

  -- more events before these
  behind : (first second : HistEvent) (events : List HistEvent) → IsChecked events → IsChecked (first ∷ second ∷ events)
  behind first second events is =
      (is.0, Contains-cons first (second ∷ events) (Read disk block bytes) (Contains-cons second events (Read disk block bytes) is.1))

  checked-among : (places : List ℕ) → Contains (flat_map (block_checked write) (filter (is_on_disk write) places)) begins
      → IsChecked (flat_map (block_checked write) (filter (is_on_disk write) places))
  checked-among [] there = absurd (Contains-nil begins there)
  checked-among (place ∷ places) there = by_on (is_on_disk write place) refl (λ inside. checked-among places inside) there
    where
      own : Bool
      own = is_in_strips write.spec.policy Block

      piece : List ℕ
      piece = block_in write.value place

      later : List HistEvent
      later = flat_map (block_checked write) (filter (is_on_disk write) places)

      reads : HistEvent
      reads = Read write.vid.0 (block_written write place) piece

      writes : HistEvent
      writes = WriteStart write.req write.vid.0 (block_written write place) own piece

      by_on : (b : Bool) → is_on_disk write place ≡ b → (Contains later begins → IsChecked later)
          → Contains (flat_map (block_checked write) (cond b (place ∷ filter (is_on_disk write) places) (filter (is_on_disk write) places))) begins
          → IsChecked (flat_map (block_checked write) (cond b (place ∷ filter (is_on_disk write) places) (filter (is_on_disk write) places)))
      by_on false off among there = among there
      by_on true on among there = ⊎_elim
          (λ (is : reads ≡ begins). absurd (cc (is)))
          (λ (rest : Contains (writes ∷ later) begins). ⊎_elim
          (λ (is : writes ≡ begins).
          let number : block_written write place ≡ block = cc (is) in
          let same : reads ≡ Read disk block bytes = cc (is) in
          let below : block_written write place < write.spec.size / BLOCK_BYTES
          = ltb-true (block_written write place) (write.spec.size / BLOCK_BYTES) on in (
            subst (λ (k : ℕ). k < write.spec.size / BLOCK_BYTES) number below,
            Contains-first reads (Read disk block bytes) (writes ∷ later) same,
          ))
          (λ (inside : Contains later begins). behind reads writes later (among inside))
          (Contains-cons_cases writes later begins rest))
          (Contains-cons_cases reads (writes ∷ later) begins there)

  pub checked-block : Contains (check_write_adds write) begins → IsChecked (check_write_adds write)
  checked-block there = checked-among (range_with_len 0 (length write.value / BLOCK_BYTES)) there
