-- In every run in range, at the end of every event, of disks that were available: what the inode of an id may come to have, that is
-- reserved to take a disk's place, is all that the disk's inode may come to have, which was created.
use Rattle.std.specs.FinMap as tree
use Rattle.std.proofs.Common.{◌≡◌, ◌≢◌, ⊎_elim, ℕ, Bool, true, false, List, [], ◌∷◌, ◌++◌, Some}
use Rattle.std.proofs.Common.{refl, sym, ap, subst, ◌∙◌}
use Rattle.std.proofs.lemmas.Bool.{cases_eq}
use Rattle.std.proofs.lemmas.Option.{same_Some}
use Rattle.proof_tools.proofs.FiniteMaps.{get-insert_same, get-insert_other}
use Rattle.object_id.specs.declared.oid.Vid.{Vid}
use Rattle.cluster_script.specs.declared.statement.Statement.{Statement}
use Rattle.vdi_directory.specs.declared.effect.Source.TheVariants as sources
use Rattle.vdi_directory.specs.Decisions.{log_effects}
use Rattle.vdi_directory.specs.Effects.{is_used}
use Rattle.sheep_world.specs.Began.{Began}
use Rattle.sheep_world.specs.NodeCauses.{host_with_node}
use Rattle.sheep_world.specs.World.{Host}
use Rattle.sheep_world.specs.RunsWithAsks.{Move}
use Rattle.overlap_law.specs.Attempts.{AttemptRecord}
use Rattle.overlap_law.specs.Drafts.{IsReservedEntry}
use Rattle.overlap_law.specs.Groups.{CoursesAreKept}
use Rattle.overlap_law.specs.MomentChanges as moments
use Rattle.overlap_law.specs.MomentChanges.{MomentChange, MomentTrail, RunsAreInRange}
use Rattle.overlap_law.specs.Past.{MomentWithPast, first_moment, moment_after, next_moment, run_on, run_with_past}
use Rattle.overlap_law.specs.StayingDrafts.{PlacesStayDrawn}
use Rattle.overlap_law.specs.Tables.{entry_by}
use Rattle.overlap_law.specs.ToCome.{IsEntryToCome}
use Rattle.overlap_law.proofs.AnswersInMoments.{not_lost}
use Rattle.overlap_law.proofs.CarriedDrafts.{none_reserved}
use Rattle.overlap_law.proofs.CarriedTables.{good_id_at}
use Rattle.overlap_law.proofs.CoursesKept.{courses_kept}
use Rattle.overlap_law.proofs.CreatedInodes.{header_is}
use Rattle.overlap_law.proofs.DraftsOfMoments.{draft_was}
use Rattle.overlap_law.proofs.EndTests.{was_good_id}
use Rattle.overlap_law.proofs.GuestsInMoments.{IsGoingOn}
use Rattle.overlap_law.proofs.LogsReservable.{LogIsReservable, kept_reservable}
use Rattle.overlap_law.proofs.MomentTrails.{event_trail}
use Rattle.overlap_law.proofs.NewAttempts.{WasAttempt}
use Rattle.overlap_law.proofs.NoRecoveredDue.{began-with_past}
use Rattle.overlap_law.proofs.PlacesAwaited.{PlacesAreAwaited, awaited_places, inode_used}
use Rattle.overlap_law.proofs.PlacesKept.{IsNotUp}
use Rattle.overlap_law.proofs.PlacesOfTheLost.{place_of_lost}
use Rattle.overlap_law.proofs.PlacesOfTheUp.{IsAllOfDisk, place_of_up}
use Rattle.overlap_law.proofs.ReservedHosts.{MembersWereUp, were_up}
use Rattle.overlap_law.proofs.ReservedMembers.{reserver_there}
use Rattle.overlap_law.proofs.RunsByChanges.{on_the_way}
use Rattle.overlap_law.proofs.RunsByEvents.{KeptByEvents, run-kept_by_events}
use Rattle.overlap_law.proofs.RunsWithOneMore.{run_with_one_more}
use Rattle.overlap_law.proofs.GoingOn.{next_by}

-- ---- commands place what is awaited

module _ (script : List Statement) (range : RunsAreInRange script) where
  awaited_along : (events : List Move) (start : MomentWithPast) → run_with_past script events ≡ Some start → {moment : MomentWithPast}
      → MomentTrail script start moment → PlacesAreAwaited start → PlacesAreAwaited moment
  awaited_along events start ran moments.Still all = all
  awaited_along events start ran (moments.Then {moment} {next} trail change) all =
      awaited_places script range events start moment next ran trail change (awaited_along events start ran trail all)

  abbrev AreAwaitedAt : MomentWithPast → Type 0
  AreAwaitedAt moment = (events : List Move) × (run_with_past script events ≡ Some moment) × PlacesAreAwaited moment

  opens_awaited : AreAwaitedAt (first_moment script)
  unfolding run_with_past run_on
  opens_awaited = ([], refl, λ j attempt got vid r p host there up. absurd (cc (got)))

  events_await : KeptByEvents script AreAwaitedAt
  events_await event before made begun is holds =
      let next : next_moment script is.move before ≡ Some (moment_after script event before made) = next_by script event before made is in (
        holds.0 ++ is.move ∷ [],
        run_with_one_more script event made holds.0 before is holds.1,
        awaited_along holds.0 before holds.1 (event_trail script is.move before (moment_after script event before made) next) holds.2,
      )

  awaited-in_run : (events : List Move) (moment : MomentWithPast) → run_with_past script events ≡ Some moment → PlacesAreAwaited moment
  awaited-in_run events moment is = (run-kept_by_events script AreAwaitedAt opens_awaited events_await events moment is).2

  -- ---- over a change

  -- what is to take a disk's place has all of it, of sessions whose nodes are as a test says
  abbrev PlacesWhere : (ℕ → Bool) → (MomentWithPast → ℕ → Type 0) → MomentWithPast → Type 0
  PlacesWhere good_id Where moment = (vid index : ℕ) (draft : IsReservedEntry (log_effects moment.world.log) good_id vid index) (old : Vid)
      (tag : List ℕ) → draft.reservation.source ≡ sources.Snapshot old tag → (j : ℕ) (attempt : AttemptRecord)
      → IsEntryToCome moment.world.hosts moment.past.attempts vid index j attempt → Where moment draft.reservation.by.0
      → IsAllOfDisk moment old index (entry_by index attempt) draft.reservation

  abbrev IsDown : MomentWithPast → ℕ → Type 0
  IsDown moment n = IsNotUp moment.world.hosts n

  abbrev IsAny : MomentWithPast → ℕ → Type 0
  IsAny moment n = Unit {0}

  module _ (events : List Move) (start before after : MomentWithPast) (ran : run_with_past script events ≡ Some start)
      (trail : MomentTrail script start before) (change : MomentChange script start before after) (good_id : ℕ → Bool)
      (first : PlacesWhere good_id IsAny start) (all : PlacesWhere good_id IsDown before) where
    began : Began script start.world
    began = began-with_past script events start ran

    module _ (vid index : ℕ) (draft : IsReservedEntry (log_effects after.world.log) good_id vid index) (old : Vid) (tag : List ℕ)
        (from : draft.reservation.source ≡ sources.Snapshot old tag) (j : ℕ) (attempt : AttemptRecord)
        (down : IsNotUp after.world.hosts draft.reservation.by.0) where
      module _ (w : WasAttempt before j attempt) (comes : IsEntryToCome before.world.hosts before.past.attempts vid index j w.was) where
        used : is_used (log_effects before.world.log) vid ≡ true
        used =
            let reservable = (on_the_way script LogIsReservable (kept_reservable script range) events start after ran
            (moments.Then trail change)).all in
            inode_used script range events start before ran trail vid
            (header_is after.world.log reservable vid draft.spec draft.made_with).0 j w.was comes.there comes.object

        abbrev then : IsReservedEntry (log_effects before.world.log) good_id vid index
        then = draft_was script range events start before after ran trail change good_id vid index used draft

        -- a node that isn't up then wasn't before, in the middle of a step
        was_down : IsGoingOn script start before after → IsNotUp before.world.hosts draft.reservation.by.0
        was_down g host there up = ⊎_elim
            (λ (own : draft.reservation.by.0 ≡ g.stepping.n).
            down (host_with_node g.stepping.host g.next.node)
            (ap (λ (m : MomentWithPast). tree.get m.world.hosts draft.reservation.by.0) g.after_so
            ∙ ap (tree.get (tree.insert start.world.hosts g.stepping.n (host_with_node g.stepping.host g.next.node))) own
            ∙ get-insert_same start.world.hosts g.stepping.n (host_with_node g.stepping.host g.next.node))
            (not_lost g.stepping.host g.is.up))
            (λ (apart : draft.reservation.by.0 ≢ g.stepping.n).
            down host
            (ap (λ (m : MomentWithPast). tree.get m.world.hosts draft.reservation.by.0) g.after_so
            ∙ get-insert_other start.world.hosts g.stepping.n (host_with_node g.stepping.host g.next.node) draft.reservation.by.0 apart
            ∙ sym (get-insert_other start.world.hosts g.stepping.n (host_with_node g.stepping.host g.so_far.node) draft.reservation.by.0
            apart)
            ∙ sym (ap (λ (m : MomentWithPast). tree.get m.world.hosts draft.reservation.by.0) g.before_so) ∙ there) up)
            (cases_eq draft.reservation.by.0 g.stepping.n)

        was_so : IsAllOfDisk before old index (entry_by index w.was) draft.reservation
        was_so = ⊎_elim
            (λ (g : IsGoingOn script start before after). all vid index then old tag from j w.was comes (was_down g))
            (λ (rests : (before ≡ start) × MembersWereUp script range start began after.world.hosts).
            subst (PlacesWhere good_id IsAny) (sym rests.0) first vid index then old tag from j w.was comes tt)
            (were_up script range start began change)

      now_so : IsEntryToCome after.world.hosts after.past.attempts vid index j attempt
          → IsAllOfDisk after old index (entry_by index attempt) draft.reservation
      now_so comes =
          place_of_lost script range events start before after ran trail change good_id vid index draft old tag from down j attempt comes
          was_so

    lost_after : PlacesWhere good_id IsDown after
    lost_after vid index draft old tag from j attempt comes down = now_so vid index draft old tag from j attempt down comes

  -- ---- over an event

  lost_along : (events : List Move) (start : MomentWithPast) → run_with_past script events ≡ Some start → (good_id : ℕ → Bool)
      → PlacesWhere good_id IsAny start → {moment : MomentWithPast} → MomentTrail script start moment → PlacesWhere good_id IsDown moment
  lost_along events start ran good_id first moments.Still =
      λ vid index draft old tag from j attempt comes down. first vid index draft old tag from j attempt comes tt
  lost_along events start ran good_id first (moments.Then {moment} {next} trail change) =
      lost_after events start moment next ran trail change good_id first (lost_along events start ran good_id first trail)

  abbrev PlacesAt : MomentWithPast → Type 0
  PlacesAt moment = PlacesWhere (good_id_at moment) IsAny moment

  module _ (events : List Move) (event : Move) (start end : MomentWithPast) (ran : run_with_past script events ≡ Some start)
      (happens : next_moment script event start ≡ Some end) (later : List Move) (ran_then : run_with_past script later ≡ Some end)
      (all : PlacesAt start) where
    -- by the test of the end
    first : PlacesWhere (good_id_at end) IsAny start
    first vid index draft old tag from j attempt comes any =
        all vid index (record {
          reservation = draft.reservation;
          stands = draft.stands;
          good = was_good_id script event start end happens vid draft.good;
          spec = draft.spec;
          made_with = draft.made_with;
          within = draft.within;
        }) old tag from j attempt comes tt

    at_end : PlacesAt end
    at_end vid index draft old tag from j attempt comes any =
        let (host, there) = reserver_there script range later end ran_then vid draft.reservation draft.stands in
        by_lost host there host.is_lost refl
      where
        by_lost : (host : Host) → tree.get end.world.hosts draft.reservation.by.0 ≡ Some host → (b : Bool) → host.is_lost ≡ b
            → IsAllOfDisk end old index (entry_by index attempt) draft.reservation
        by_lost host there true lost =
            lost_along events start ran (good_id_at end) first (event_trail script event start end happens) vid index draft old tag from j
            attempt comes
            (λ other other_there up.
            let same : other ≡ host = same_Some other host (sym other_there ∙ there) in
            let gone : other.is_lost ≡ true = ap (λ (h : Host). h.is_lost) same ∙ lost in
            absurd (cc (gone, up)))
        by_lost host there false up =
            place_of_up script range later end ran_then vid index draft old tag from j attempt comes host there up
            (awaited-in_run later end ran_then)

  -- ---- in every run

  abbrev HoldsInRun : MomentWithPast → Type 0
  HoldsInRun moment = (events : List Move) × (run_with_past script events ≡ Some moment) × PlacesAt moment

  opens : HoldsInRun (first_moment script)
  unfolding run_with_past run_on
  opens = (
    [],
    refl,
    λ vid index draft old tag from j attempt comes any. none_reserved script vid draft.reservation draft.stands,
  )

  keeps : KeptByEvents script HoldsInRun
  keeps event before made begun is holds =
      let after : MomentWithPast = moment_after script event before made in
      let next : next_moment script is.move before ≡ Some after = next_by script event before made is in
      let ran = run_with_one_more script event made holds.0 before is holds.1 in (
        holds.0 ++ is.move ∷ [],
        ran,
        at_end holds.0 is.move before after holds.1 next (holds.0 ++ is.move ∷ []) ran holds.2,
      )

  module _ (events : List Move) (moment : MomentWithPast) (is : run_with_past script events ≡ Some moment) where
    pub places_drawn-in_run : PlacesStayDrawn (log_effects moment.world.log) (good_id_at moment) moment.world.hosts moment.past.attempts
    places_drawn-in_run vid index draft old tag from j attempt comes =
        let drawn = (run-kept_by_events script HoldsInRun opens keeps events moment is).2 vid index draft old tag from j attempt comes tt in
        ((drawn.epoch, drawn.created), drawn.all)

    pub courses_kept-in_run : CoursesAreKept moment.world.log (log_effects moment.world.log) (good_id_at moment) moment.world.hosts
        moment.past.attempts
    courses_kept-in_run = courses_kept script range events moment is places_drawn-in_run
