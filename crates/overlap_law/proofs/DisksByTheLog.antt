-- The disks that the history has, and that aren't deleted, are there by the log: what makes one in the history publishes its id, and what
-- deletes an id deletes the disk.
use Rattle.std.proofs.Common.{◌≡◌, ℕ, ◌==◌, ◌&&◌, Bool, true, false, cond, List, [], ◌∷◌, ◌++◌, fold, Option, Some, None, is_some}
use Rattle.std.proofs.Common.{option_map, refl, sym, ap, ◌∙◌}
use Rattle.std.specs.Prelude.{Result, Ok, Err}
use Rattle.std.specs.Option.{option_map_or}
use Rattle.std.proofs.lemmas.Bool.{both_ways, eqb-true, eq-eqb}
use Rattle.std.proofs.lemmas.List.Sums.{fold-append}
use Rattle.object_id.specs.declared.cause.Cause.{Cause}
use Rattle.object_id.specs.declared.entry.Entry.{Entry}
use Rattle.object_id.specs.declared.entry.Entry.TheVariants as entries
use Rattle.object_id.specs.declared.entry.Origin.{Origin}
use Rattle.object_id.specs.declared.entry.VdiSpec.{VdiSpec}
use Rattle.object_id.specs.declared.node.NodeId.{NodeId}
use Rattle.object_id.specs.declared.oid.Vid.{Vid}
use Rattle.cluster_script.specs.declared.statement.Statement.{Statement}
use Rattle.disk_history.specs.declared.event.HistEvent.{HistEvent}
use Rattle.disk_history.specs.declared.event.HistEvent.TheVariants.{Copy}
use Rattle.disk_history.specs.Ledger.{changed_at}
use Rattle.disk_lock.specs.declared.holder.Holder.{Holder}
use Rattle.sheep_world.specs.Granted.{granted_header, disk_made, disk_cloned, decided_adds, entry_adds}
use Rattle.sheep_world.specs.HistoryAdditions.{writers_lost}
use Rattle.vdi_directory.specs.declared.effect.Effect.{Effect}
use Rattle.vdi_directory.specs.declared.effect.Effect.TheVariants as effects
use Rattle.vdi_directory.specs.declared.effect.Reservation.{Reservation}
use Rattle.vdi_directory.specs.declared.effect.Source.{Source}
use Rattle.vdi_directory.specs.declared.header.Header.{Header}
use Rattle.vdi_directory.specs.Decisions.{nothing, silent_outcome, grant_outcome, outcome, log_effects, is_held_by, is_reserved_by}
use Rattle.vdi_directory.specs.Decisions.{grant_of, reserve_outcome, publication, replacement, snapshot_outcome, target, deletion, lock}
use Rattle.vdi_directory.specs.Decisions.{release}
use Rattle.vdi_directory.specs.declared.decision.Outcome.{Outcome}
use Rattle.vdi_directory.specs.Sources.{is_for, tag_for}
use Rattle.vdi_directory.specs.Effects.{is_used, reservations_of, reservation_on, holder_of}
use Rattle.vdi_directory.specs.Sound.{IsLawful}
use Rattle.vdi_directory.specs.States.{VdiState, Unused, Reserved, Working, Snapshot, Deleted, Freed, state_of, is_live_state, freed_state}
use Rattle.vdi_directory.specs.States.{state_after, state_after_leave}
use Rattle.vdi_directory.proofs.DeadLemmas.{live-used}
use Rattle.vdi_directory.proofs.LawfulEntries.{lawful-outcome, sound-log_effects}
use Rattle.vdi_directory.proofs.StateLemmas.{log_effects-push}
use Rattle.vdi_directory.proofs.SoundEffects.{state_of-push}
use Rattle.overlap_law.specs.Headline.{ledger_of}
use Rattle.overlap_law.specs.HistoryGrowth.{added_at_cause, added_by_reply, HistoryGrows, NothingIsAdded, WritesBegin, RequestIsReplied}
use Rattle.overlap_law.specs.HistoryGrowth.{EntryAdds, WritersAreLost}
use Rattle.overlap_law.specs.MomentChanges.{RunsAreInRange, KeptByChanges}
use Rattle.overlap_law.specs.Past.{MomentWithPast}
use Rattle.overlap_law.specs.StayingBlocks.{DisksAreLive}
use Rattle.overlap_law.proofs.ClosedReservations.{reserves_so}
use Rattle.overlap_law.proofs.HistoryInMoments.{history_grows}
use Rattle.overlap_law.proofs.DiskShapes.{Shapes, shape, shapes_after, shapes, shapes_so, among_shapes, behind_shapes, cause_plain}
use Rattle.overlap_law.proofs.DiskShapes.{reply_plain, lost_plain}
use Rattle.overlap_law.proofs.LogsOfMoments.{log_before}

-- ---- what an entry makes of an id

left_live : (node : ℕ) (state : VdiState) → is_live_state state ≡ true → is_live_state (state_after_leave node state) ≡ true
left_live node Unused live = absurd (cc (live))
left_live node (Reserved by) live = absurd (cc (live))
left_live node Working live = refl
left_live node (Snapshot tag) live = refl
left_live node Deleted live = absurd (cc (live))
left_live node Freed live = absurd (cc (live))

freed_live : (state : VdiState) → is_live_state state ≡ true → is_live_state (freed_state state) ≡ true
freed_live Unused live = absurd (cc (live))
freed_live (Reserved by) live = absurd (cc (live))
freed_live Working live = refl
freed_live (Snapshot tag) live = refl
freed_live Deleted live = absurd (cc (live))
freed_live Freed live = absurd (cc (live))

cond_live : (b : Bool) (state other : VdiState) → is_live_state state ≡ true → is_live_state other ≡ true
    → is_live_state (cond b state other) ≡ true
cond_live true state other here there = here
cond_live false state other here there = there

module _ (log : List Entry) (f : Shapes) (are : (v : ℕ) → f v ≡ Some false → is_live_state (state_of (log_effects log) v) ≡ true) where
  abbrev before : List Effect
  before = log_effects log

  -- who is there behind an effect, and what a history gets with it, is live
  abbrev Fits : Effect → List HistEvent → Type 0
  Fits effect added = (v : ℕ) → fold shapes_after f added v ≡ Some false → is_live_state (state_after v (state_of before v) effect) ≡ true

  abbrev FitsOutcome : Entry → Outcome → Type 0
  FitsOutcome entry o = Fits o.effect (decided_adds log entry o.decision)

  -- ---- a reservation

  module _ (by : NodeId) (session : ℕ) (name : List ℕ) (origin : Origin) where
    abbrev FitsReserve : Outcome → Type 0
    FitsReserve o = IsLawful before o.effect → FitsOutcome (entries.Reserve by session name origin) o

    granted_fits : (source : Source) (parent : Option Vid) (spec : VdiSpec) (vid : ℕ)
        → FitsReserve (grant_of before by session name source parent spec vid)
    granted_fits source parent spec vid (real, unused, named, based, child, room) v is = by_test (vid == v) refl
      where
        by_test : (b : Bool) → (vid == v) ≡ b → is_live_state (cond b (Reserved by) (state_of before v)) ≡ true
        by_test true same =
            let used = live-used before (sound-log_effects log) v (are v is) in
            let none = ap (is_used before) (sym (eqb-true vid v same)) ∙ unused in
            absurd (both_ways (is_used before v) none used)
        by_test false apart = are v is

    reserves : (origin : Origin) → FitsReserve (reserve_outcome before by session name origin)
    reserves = reserves_so before by session name FitsReserve (λ cause is lawful. are) (λ lawful. are) granted_fits

  -- ---- a publication

  -- the id of a new disk
  new_or_old : (vid v : ℕ) (shown : Option Bool) (state : VdiState) → is_live_state state ≡ true → changed_at vid shown f v ≡ Some false
      → is_live_state (cond (vid == v) state (state_of before v)) ≡ true
  new_or_old vid v shown state live is = by_state (vid == v) refl
    where
      by_shape : (b : Bool) → (v == vid) ≡ b → (vid == v) ≡ false → cond b shown (f v) ≡ Some false
          → is_live_state (state_of before v) ≡ true
      by_shape true same apart is = absurd (both_ways (vid == v) apart (eq-eqb vid v (sym (eqb-true v vid same))))
      by_shape false other apart is = are v is

      by_state : (b : Bool) → (vid == v) ≡ b → is_live_state (cond b state (state_of before v)) ≡ true
      by_state true same = live
      by_state false apart = by_shape (v == vid) refl apart is

  only_old : (vid v : ℕ) (state : VdiState) → is_live_state state ≡ true → f v ≡ Some false
      → is_live_state (cond (vid == v) state (state_of before v)) ≡ true
  only_old vid v state live is = cond_live (vid == v) state (state_of before v) live (are v is)

  publishes : (by : NodeId) (vid : Vid) (o : Option Reservation) → FitsOutcome (entries.Publish by vid) (publication by (is_for false) o)
  publishes by vid None = are
  publishes by vid (Some r) = by_test (r.by.0 == by.0 && is_for false r.source)
    where
      by_header : (header : Option Header) → Fits (effects.Published r.vid r.name) (option_map_or (disk_made r.vid) header [])
      by_header None v is = only_old r.vid.0 v Working refl is
      by_header (Some header) v is = new_or_old r.vid.0 v (Some false) Working refl is

      by_test : (b : Bool) → FitsOutcome (entries.Publish by vid) (cond b (grant_outcome r.vid (effects.Published r.vid r.name)) nothing)
      by_test true = by_header (granted_header log r.vid)
      by_test false = are

  clones : (by : NodeId) (vid : Vid) (o : Option Reservation) → FitsOutcome (entries.Clone by vid) (publication by (is_for true) o)
  clones by vid None = are
  clones by vid (Some r) = by_test (r.by.0 == by.0 && is_for true r.source)
    where
      by_parent : (parent : Option Vid)
          → Fits (effects.Published r.vid r.name) (option_map_or (λ (parent : Vid). Copy parent.0 r.vid.0 ∷ []) parent [])
      by_parent None v is = only_old r.vid.0 v Working refl is
      by_parent (Some parent) v is = new_or_old r.vid.0 v (option_map (λ (b : Bool). false) (f parent.0)) Working refl is

      by_header : (header : Option Header) → Fits (effects.Published r.vid r.name) (option_map_or (disk_cloned r.vid) header [])
      by_header None v is = only_old r.vid.0 v Working refl is
      by_header (Some header) v is = by_parent header.parent v is

      by_test : (b : Bool) → FitsOutcome (entries.Clone by vid) (cond b (grant_outcome r.vid (effects.Published r.vid r.name)) nothing)
      by_test true = by_header (granted_header log r.vid)
      by_test false = are

  snapshots : (by : NodeId) (old vid : Vid) (o : Option Reservation)
      → FitsOutcome (entries.Snapshot by old vid) (snapshot_outcome before by old o)
  snapshots by old vid None = are
  snapshots by old vid (Some r) = by_test (r.by.0 == by.0)
    where
      replaced : (tag : Option (List ℕ)) (holder : Option Holder) → FitsOutcome (entries.Snapshot by old vid) (replacement r old tag holder)
      replaced None holder v is = are v is
      replaced (Some tag) None v is = are v is
      replaced (Some tag) (Some holder) v is = by_old (old.0 == v)
        where
          by_old : (b : Bool) → is_live_state (cond b (Snapshot tag) (cond (r.vid.0 == v) Working (state_of before v))) ≡ true
          by_old true = refl
          by_old false = new_or_old r.vid.0 v (option_map (λ (b : Bool). false) (f old.0)) Working refl is

      by_test : (b : Bool)
          → FitsOutcome (entries.Snapshot by old vid) (cond b (replacement r old (tag_for old r.source) (holder_of before old.0)) nothing)
      by_test true = replaced (tag_for old r.source) (holder_of before old.0)
      by_test false = are

  -- ---- the others

  deletes : (by : NodeId) (session : ℕ) (name : List ℕ) (tag : Option (List ℕ)) (r : Result Vid Cause)
      → FitsOutcome (entries.Delete by session name tag) (deletion name r)
  deletes by session name tag (Err cause) v is = are v is
  deletes by session name tag (Ok vid) v is = by_shape (v == vid.0) refl is
    where
      none_left : (o : Option Bool) → option_map (λ (b : Bool). true) o ≡ Some false → ⊥
      none_left None gone = cc (gone)
      none_left (Some b) gone = cc (gone)

      by_state : (b : Bool) → (vid.0 == v) ≡ b → (v == vid.0) ≡ false → f v ≡ Some false
          → is_live_state (cond b Deleted (state_of before v)) ≡ true
      by_state true same apart is = absurd (both_ways (v == vid.0) apart (eq-eqb v vid.0 (sym (eqb-true vid.0 v same))))
      by_state false other apart is = are v is

      by_shape : (b : Bool) → (v == vid.0) ≡ b → cond b (option_map (λ (b : Bool). true) (f vid.0)) (f v) ≡ Some false
          → is_live_state (cond (vid.0 == v) Deleted (state_of before v)) ≡ true
      by_shape true same is = absurd (none_left (f vid.0) is)
      by_shape false apart is = by_state (vid.0 == v) refl apart is

  locks : (by : NodeId) (session : ℕ) (name : List ℕ) (tag : Option (List ℕ)) (is_snapshot : Bool) (r : Result Vid Cause)
      → FitsOutcome (entries.Lock by session name tag) (lock (record { node = by; session = session }) is_snapshot r)
  locks by session name tag is_snapshot (Err cause) = are
  locks by session name tag true (Ok vid) = are
  locks by session name tag false (Ok vid) = are

  unlocks : (by : NodeId) (session : ℕ) (vid : Vid) → FitsOutcome (entries.Unlock by session vid) (release before by session vid)
  unlocks by session vid = by_held (is_held_by by session (holder_of before vid.0))
    where
      by_reserved : (b : Bool) → FitsOutcome (entries.Unlock by session vid) (cond b (silent_outcome (effects.Withdrawn vid)) nothing)
      by_reserved true = λ v is. cond_live (vid.0 == v) (freed_state (state_of before v)) (state_of before v)
          (freed_live (state_of before v) (are v is)) (are v is)
      by_reserved false = are

      by_held : (b : Bool) → FitsOutcome (entries.Unlock by session vid) (cond b (silent_outcome (effects.Freed vid))
          (cond (is_reserved_by by session (reservation_on vid (reservations_of before))) (silent_outcome (effects.Withdrawn vid)) nothing))
      by_held true = are
      by_held false = by_reserved (is_reserved_by by session (reservation_on vid (reservations_of before)))

  outcome_fits : (entry : Entry) → FitsOutcome entry (outcome before entry)
  outcome_fits (entries.Format members) = are
  outcome_fits (entries.Join node zone vnodes) = are
  outcome_fits (entries.Leave node) = λ v is. left_live node.0 (state_of before v) (are v is)
  outcome_fits (entries.Reweight node vnodes) = are
  outcome_fits (entries.Recovered node epoch) = are
  outcome_fits (entries.Reserve by session name origin) =
      reserves by session name origin origin (lawful-outcome before (sound-log_effects log) (entries.Reserve by session name origin))
  outcome_fits (entries.Publish by vid) = publishes by vid (reservation_on vid (reservations_of before))
  outcome_fits (entries.Clone by vid) = clones by vid (reservation_on vid (reservations_of before))
  outcome_fits (entries.Snapshot by old vid) = snapshots by old vid (reservation_on vid (reservations_of before))
  outcome_fits (entries.Delete by session name tag) = deletes by session name tag (target before name tag)
  outcome_fits (entries.Lock by session name tag) = locks by session name tag (is_some tag) (target before name tag)
  outcome_fits (entries.Unlock by session vid) = unlocks by session vid

  pub entry_fits : (entry : Entry) (v : ℕ) → fold shapes_after f (entry_adds log entry) v ≡ Some false
      → is_live_state (state_of (log_effects (log ++ entry ∷ [])) v) ≡ true
  unfolding entry_adds
  entry_fits entry v is =
      ap (λ (all : List Effect). is_live_state (state_of all v)) (log_effects-push log entry)
      ∙ ap is_live_state (state_of-push before (outcome before entry).effect v)
      ∙ outcome_fits entry v is

-- ---- at each moment

-- those that are there by the history are so by the log
abbrev pub AreThere : MomentWithPast → Type 0
AreThere moment = (v : ℕ) → shapes moment.past.history v ≡ Some false → is_live_state (state_of (log_effects moment.world.log) v) ≡ true

module _ (script : List Statement) where
  module _ (start before after : MomentWithPast) (same : before.world.log ≡ start.world.log) (were : AreThere before) where
    abbrev IsThereBy : List HistEvent → Type 0
    IsThereBy history = (v : ℕ) → shapes history v ≡ Some false → is_live_state (state_of (log_effects after.world.log) v) ≡ true

    plainly : (history : List HistEvent) → after.world.log ≡ start.world.log → shapes history ≡ shapes before.past.history
        → IsThereBy history
    plainly history log alike v is =
        ap (λ (entries : List Entry). is_live_state (state_of (log_effects entries) v)) (log ∙ sym same)
        ∙ were v (ap (λ (f : Shapes). f v) (sym alike) ∙ is)

    by_growth : (history later : List HistEvent) → before.past.history ≡ history
        → HistoryGrows script start.world after.world.log history later
        → IsThereBy later
    by_growth history later is (NothingIsAdded log) = plainly history log (ap shapes (sym is))
    by_growth history later is (WritesBegin cause log) =
        plainly (history ++ added_at_cause script start.world cause) log
        (behind_shapes history (added_at_cause script start.world cause) (cause_plain script start.world cause) ∙ ap shapes (sym is))
    by_growth history later is (RequestIsReplied cause reply front back log parts apart) =
        plainly (front ++ added_by_reply script start.world cause reply ++ back) log
        (among_shapes front (added_by_reply script start.world cause reply) back (reply_plain script start.world cause reply)
        ∙ ap shapes (sym parts ∙ sym is))
    by_growth history later is (EntryAdds entry log) = λ v there.
        ap (λ (entries : List Entry). is_live_state (state_of (log_effects entries) v)) log
        ∙ entry_fits start.world.log (shapes history)
        (λ v there. ap (λ (entries : List Entry). is_live_state (state_of (log_effects entries) v)) (sym same)
        ∙ were v (ap (λ (events : List HistEvent). shapes events v) is ∙ there)) entry v
        (ap (λ (f : Shapes). f v) (sym (fold-append shapes_after (λ (v : ℕ). None) history (entry_adds start.world.log entry))) ∙ there)
    by_growth history later is (WritersAreLost n host log) =
        plainly (history ++ writers_lost script start.world n (Some host)) log
        (behind_shapes history (writers_lost script start.world n (Some host)) (lost_plain script start.world n host) ∙ ap shapes (sym is))

  pub kept_there : RunsAreInRange script → KeptByChanges script AreThere
  kept_there range = record {
    opens = λ v is. absurd (cc (is));
    keeps = λ start before after began change were.
        by_growth start before after (log_before script change) were before.past.history after.past.history refl
        (history_grows script range start began change);
  }

pub disks_live : (moment : MomentWithPast) → AreThere moment → DisksAreLive (ledger_of moment.past.history) (log_effects moment.world.log)
disks_live moment are = record {
  each = λ vid disk there kept.
      are vid (sym (shapes_so moment.past.history vid) ∙ ap shape there ∙ ap (λ (b : Bool). Some b) kept);
}
