-- The tests for live and good objects and good ids that an event ends with serve at its beginning too: what they call so there was so by
-- the tests of the beginning, if the moment speaks of it at all. For what is dead or was once not available stays so, and what isn't born
-- yet is nowhere.
use Rattle.std.proofs.Common.{◌≡◌, ⊎_elim, ℕ, ◌==◌, Bool, true, false, not, cond, All, IfSome, List, [], ◌∷◌, ◌++◌, Option, Some, None}
use Rattle.std.proofs.Common.{refl, sym, ap, subst, ◌∙◌, append-nil, append_assoc}
use Rattle.std.specs.List.{list_any}
use Rattle.std.proofs.lemmas.Bool.{eqb-true, and_parts, and_from, or_cases, or_left, or_right}
use Rattle.std.proofs.lemmas.Option.{same_Some}
use Rattle.std.proofs.lemmas.List.Elements.{All-head, All-tail}
use Rattle.object_id.specs.declared.entry.Entry.{Entry}
use Rattle.object_id.specs.Oid.{vid_of}
use Rattle.vdi_directory.specs.Chains.{is_above}
use Rattle.vdi_directory.specs.Decisions.{log_effects}
use Rattle.cluster_script.specs.declared.statement.Statement.{Statement}
use Rattle.sheep_world.specs.Step.{EventOutcome}
use Rattle.sheep_world.specs.RunsWithAsks.{Move, event_of_move}
use Rattle.recovery.specs.Shown.{is_pending_object}
use Rattle.recovery.specs.State.{Search, still_on}
use Rattle.overlap_law.specs.BornObjects.{IsBorn, ObjectsWereBorn, AttemptsAreOfTheBorn}
use Rattle.overlap_law.specs.Holders.{is_object_among, born_objects, is_live_object, is_good, is_of_chain, is_available_disk}
use Rattle.overlap_law.specs.Holders.{is_dead_by_log}
use Rattle.overlap_law.specs.MomentChanges.{MomentTrail, Still, Then, RunsAreInRange}
use Rattle.overlap_law.specs.Overlap.{Overlap, OverlapAt, CallsFewer}
use Rattle.overlap_law.specs.Past.{MomentWithPast, past_after_event, next_moment, moment_after, run_with_past}
use Rattle.overlap_law.specs.ToldRows.{IsRowUnderWay, IsRowKept}
use Rattle.overlap_law.proofs.BornInRuns.{born-in_run}
use Rattle.overlap_law.proofs.ChainsStay.{above_stays}
use Rattle.overlap_law.proofs.FewerObjects.{CallsFewerOf, SpeaksOf, overlap_of_fewer_there}
use Rattle.overlap_law.proofs.LogsInMoments.{log_grows}
use Rattle.overlap_law.proofs.MomentTrails.{event_trail}
use Rattle.overlap_law.proofs.StayingRows.{alive_before, not_dead}
use Rattle.overlap_law.proofs.GoingOn.{has_gone}

-- ---- lists

pub any_so : (p q : ℕ → Bool) → ((x : ℕ) → p x ≡ true → q x ≡ true) → (xs : List ℕ) → list_any p xs ≡ true → list_any q xs ≡ true
any_so p q so [] is = is
any_so p q so (x ∷ xs) is = ⊎_elim
    (λ (first : p x ≡ true). or_left (q x) (list_any q xs) (so x first))
    (λ (later : list_any p xs ≡ true). or_right (q x) (list_any q xs) (any_so p q so xs later))
    (or_cases (p x) (list_any p xs) is)

any_in_front : (p : ℕ → Bool) (xs ys : List ℕ) → list_any p xs ≡ true → list_any p (xs ++ ys) ≡ true
any_in_front p [] ys is = absurd (cc (is))
any_in_front p (x ∷ xs) ys is = ⊎_elim
    (λ (first : p x ≡ true). or_left (p x) (list_any p (xs ++ ys)) first)
    (λ (later : list_any p xs ≡ true). or_right (p x) (list_any p (xs ++ ys)) (any_in_front p xs ys later))
    (or_cases (p x) (list_any p xs) is)

all_any : (K : ℕ → Type 0) (xs : List ℕ) (x : ℕ) → All K xs → list_any (λ other. other == x) xs ≡ true → K x
all_any K [] x all is = absurd (cc (is))
all_any K (first ∷ rest) x all is = ⊎_elim
    (λ (own : (first == x) ≡ true). subst K (eqb-true first x own) (All-head K first rest all))
    (λ (later : list_any (λ other. other == x) rest ≡ true). all_any K rest x (All-tail K first rest all) later)
    (or_cases (first == x) (list_any (λ other. other == x) rest) is)

-- where a test holds of more, what is false of these was false of those
pub still_not : (few many : Bool) → (few ≡ true → many ≡ true) → not many ≡ true → not few ≡ true
still_not true many more is =
    let so = more refl in
    absurd (cc (so, is))
still_not false many more is = refl

-- ---- over an event

-- what an event leaves of the log and of what was once not available
record GoesOn (before after : MomentWithPast) : Type 0 where
  pub entries : List Entry
  pub log_so : after.world.log ≡ before.world.log ++ entries
  pub lacking : List ℕ
  pub lacking_so : after.past.unavailable ≡ before.past.unavailable ++ lacking

module _ (script : List Statement) (event : Move) (before after : MomentWithPast)
    (next : next_moment script event before ≡ Some after) where
  log_on : {moment : MomentWithPast} → MomentTrail script before moment
      → (rest : List Entry) × (moment.world.log ≡ before.world.log ++ rest)
  log_on Still = ([], sym (append-nil before.world.log))
  log_on (Then trail change) =
      let so_far = log_on trail in
      let grows = log_grows script change in (
        so_far.0 ++ grows.rest,
        grows.is ∙ ap (λ (log : List Entry). log ++ grows.rest) so_far.1 ∙ append_assoc before.world.log so_far.0 grows.rest,
      )

  lacking_then : (made : EventOutcome) → moment_after script (event_of_move event) before made ≡ after
      → (rest : List ℕ) × (after.past.unavailable ≡ before.past.unavailable ++ rest)
  unfolding past_after_event
  lacking_then made same =
      subst (λ (moment : MomentWithPast). (rest : List ℕ) × (moment.past.unavailable ≡ before.past.unavailable ++ rest)) same (_, refl)

  goes_on : GoesOn before after
  goes_on =
      let log = log_on (event_trail script event before after next) in
      let gone = has_gone script event before after next in
      let lacking = lacking_then gone.made gone.after_so in
      record { entries = log.0; log_so = log.1; lacking = lacking.0; lacking_so = lacking.1 }

  -- ---- the tests

  abbrev live : MomentWithPast → ℕ → Bool
  live moment = is_live_object moment.world.log moment.past.attempts

  abbrev good : MomentWithPast → ℕ → Bool
  good moment = is_good moment.world.log moment.past.attempts moment.past.unavailable

  abbrev good_id : MomentWithPast → ℕ → Bool
  good_id moment = is_available_disk moment.world.log moment.past.unavailable

  alive_then : (oid : ℕ) → is_dead_by_log after.world.log oid ≡ false → is_dead_by_log before.world.log oid ≡ false
  alive_then oid alive =
      alive_before before.world.log goes_on.entries (vid_of oid)
      (ap (λ (log : List Entry). is_dead_by_log log oid) (sym goes_on.log_so) ∙ alive)

  pub lived : CallsFewerOf (IsBorn before.past.attempts) (live after) (live before)
  lived oid is born =
      and_from (is_object_among oid (born_objects before.past.attempts)) (not (is_dead_by_log before.world.log oid)) born
      (ap not (alive_then oid (not_dead after.world.log after.past.attempts oid is)))

  pub was_available : (oid : ℕ) → not (is_object_among oid after.past.unavailable) ≡ true
      → not (is_object_among oid before.past.unavailable) ≡ true
  was_available oid is =
      still_not (is_object_among oid before.past.unavailable) (is_object_among oid after.past.unavailable)
      (λ among. ap (is_object_among oid) goes_on.lacking_so
      ∙ any_in_front (λ other. other == oid) before.past.unavailable goes_on.lacking among) is

  pub was_good : CallsFewerOf (IsBorn before.past.attempts) (good after) (good before)
  was_good oid is born =
      let parts = and_parts (live after oid) (not (is_object_among oid after.past.unavailable)) is in
      and_from (live before oid) (not (is_object_among oid before.past.unavailable)) (lived oid parts.0 born) (was_available oid parts.1)

  of_chain_on : (vid oid : ℕ) → is_of_chain (log_effects before.world.log) vid oid ≡ true
      → is_of_chain (log_effects after.world.log) vid oid ≡ true
  of_chain_on vid oid is = ⊎_elim
      (λ (own : (vid_of oid == vid) ≡ true). or_left (vid_of oid == vid) (is_above (log_effects after.world.log) (vid_of oid) vid) own)
      (λ (above : is_above (log_effects before.world.log) (vid_of oid) vid ≡ true).
      or_right (vid_of oid == vid) (is_above (log_effects after.world.log) (vid_of oid) vid)
      (ap (λ (log : List Entry). is_above (log_effects log) (vid_of oid) vid) goes_on.log_so
      ∙ above_stays (vid_of oid) vid before.world.log goes_on.entries above))
      (or_cases (vid_of oid == vid) (is_above (log_effects before.world.log) (vid_of oid) vid) is)

  pub was_good_id : CallsFewer (good_id after) (good_id before)
  unfolding is_available_disk
  was_good_id vid is =
      still_not (list_any (is_of_chain (log_effects before.world.log) vid) before.past.unavailable)
      (list_any (is_of_chain (log_effects after.world.log) vid) after.past.unavailable)
      (λ lacks.
      let on = any_so (is_of_chain (log_effects before.world.log) vid) (is_of_chain (log_effects after.world.log) vid) (of_chain_on vid)
      before.past.unavailable lacks in
      ap (list_any (is_of_chain (log_effects after.world.log) vid)) goes_on.lacking_so
      ∙ any_in_front (is_of_chain (log_effects after.world.log) vid) before.past.unavailable goes_on.lacking on) is

-- ---- the invariant

module _ (script : List Statement) (range : RunsAreInRange script) (events : List Move) (event : Move) (before after : MomentWithPast)
    (run : run_with_past script events ≡ Some before) (next : next_moment script event before ≡ Some after)
    (attempted : AttemptsAreOfTheBorn before.past.attempts) where
  born : ObjectsWereBorn before.world.hosts before.world.wire before.past.attempts
  born = born-in_run script range events before run

  pending_born : (o : Option (List ℕ)) → IfSome o (All (IsBorn before.past.attempts)) → (oid : ℕ) → is_pending_object oid o ≡ true
      → IsBorn before.past.attempts oid
  pending_born None all oid is = absurd (cc (is))
  pending_born (Some oids) all oid is = all_any (IsBorn before.past.attempts) oids oid all is

  searched_born : (pending : Option (List ℕ)) (o : Option Search) → IfSome o (λ (search : Search). IsBorn before.past.attempts search.oid)
      → (search : Search) → still_on pending o ≡ Some search → IsBorn before.past.attempts search.oid
  searched_born pending None own search is = absurd (cc (is))
  searched_born pending (Some found) own search is = by_test (is_pending_object found.oid pending) is
    where
      by_test : (b : Bool) → cond b (Some found) None ≡ Some search → IsBorn before.past.attempts search.oid
      by_test true same = subst (λ (one : Search). IsBorn before.past.attempts one.oid) (same_Some found search same) own
      by_test false none = absurd (cc (none))

  pub speaks : SpeaksOf (IsBorn before.past.attempts) before.world.hosts before.world.wire before.past.attempts
  speaks = record {
    attempted = attempted;
    rows = born.rows;
    pending = λ n host at up oid is. pending_born host.node.peer.pending (born.pending n host at) oid is;
    searched = λ n host at up search on.
        searched_born host.node.peer.pending host.node.recovery.search (born.searched n host at) search on;
    told = λ n host at up from epoch oid level row told. ⊎_elim
        (λ (under_way : IsRowUnderWay before.world.wire n host.node.recovery from epoch oid level row).
        born.asked n host at under_way.place oid (record { 0 = level }) under_way.message under_way.unanswered under_way.asked)
        (λ (kept : IsRowKept host.node from epoch oid level row).
        subst (IsBorn before.past.attempts) kept.of_object
        (subst (λ (o : Option Search). IfSome o (λ (search : Search). IsBorn before.past.attempts search.oid)) kept.there
        (born.searched n host at)))
        told;
  }

  pub holds_before : Overlap before → OverlapAt (is_live_object after.world.log after.past.attempts)
      (is_good after.world.log after.past.attempts after.past.unavailable) (is_available_disk after.world.log after.past.unavailable) before
  holds_before overlap =
      overlap_of_fewer_there (IsBorn before.past.attempts) (lived script event before after next) (was_good script event before after next)
      (was_good_id script event before after next) before speaks overlap
