-- The disks that the history has, deleted or not, were published: what makes one in the history publishes its id.
use Rattle.std.proofs.Common.{◌≡◌, ◌⊎◌, inl, inr, ⊎_elim, ℕ, ◌==◌, ◌&&◌, ◌||◌, Bool, true, false, cond, List, [], ◌∷◌, ◌++◌, fold, Option}
use Rattle.std.proofs.Common.{Some, None, option_map, refl, sym, ap, ◌∙◌}
use Rattle.std.specs.Option.{option_map_or}
use Rattle.std.proofs.lemmas.Bool.{eqb-true, eq-eqb, or_left, or_right}
use Rattle.std.proofs.lemmas.List.Sums.{fold-append}
use Rattle.object_id.specs.declared.entry.Entry.{Entry}
use Rattle.object_id.specs.declared.entry.Entry.TheVariants as entries
use Rattle.object_id.specs.declared.node.NodeId.{NodeId}
use Rattle.object_id.specs.declared.oid.Vid.{Vid}
use Rattle.cluster_script.specs.declared.statement.Statement.{Statement}
use Rattle.disk_history.specs.declared.event.HistEvent.{HistEvent}
use Rattle.disk_history.specs.declared.event.HistEvent.TheVariants.{Copy}
use Rattle.disk_history.specs.Ledger.{changed_at}
use Rattle.disk_lock.specs.declared.holder.Holder.{Holder}
use Rattle.sheep_world.specs.Granted.{granted_header, disk_made, disk_cloned, granted_adds, decided_adds, entry_adds}
use Rattle.sheep_world.specs.HistoryAdditions.{writers_lost}
use Rattle.vdi_directory.specs.declared.decision.Decision.{Decision}
use Rattle.vdi_directory.specs.declared.decision.Decision.TheVariants as decisions
use Rattle.vdi_directory.specs.declared.decision.Outcome.{Outcome}
use Rattle.vdi_directory.specs.declared.effect.Effect.{Effect}
use Rattle.vdi_directory.specs.declared.effect.Effect.TheVariants as effects
use Rattle.vdi_directory.specs.declared.effect.Reservation.{Reservation}
use Rattle.vdi_directory.specs.declared.header.Header.{Header}
use Rattle.vdi_directory.specs.Decisions.{nothing, grant_outcome, outcome, log_effects, publication, replacement, snapshot_outcome}
use Rattle.vdi_directory.specs.Effects.{reservations_of, reservation_on, holder_of}
use Rattle.vdi_directory.specs.Sources.{is_for, tag_for}
use Rattle.overlap_law.specs.Grants.{publishes}
use Rattle.overlap_law.specs.Headline.{ledger_of}
use Rattle.overlap_law.specs.HistoryGrowth.{added_at_cause, added_by_reply, HistoryGrows, NothingIsAdded, WritesBegin, RequestIsReplied}
use Rattle.overlap_law.specs.HistoryGrowth.{EntryAdds, WritersAreLost}
use Rattle.overlap_law.specs.MomentChanges.{RunsAreInRange, KeptByChanges}
use Rattle.overlap_law.specs.Past.{MomentWithPast}
use Rattle.overlap_law.specs.StayingBlocks.{DisksArePublished}
use Rattle.overlap_law.proofs.DiskShapes.{Shapes, shape, shapes_after, shapes, shapes_so, among_shapes, behind_shapes, cause_plain}
use Rattle.overlap_law.proofs.DiskShapes.{reply_plain, lost_plain}
use Rattle.overlap_law.proofs.LogsOfMoments.{log_before}
use Rattle.overlap_law.proofs.HistoryInMoments.{history_grows}
use Rattle.overlap_law.proofs.PublishedInodes.{was_published, published-push}

-- ---- what an entry makes

module _ (log : List Entry) (f : Shapes) (are : (v : ℕ) (b : Bool) → f v ≡ Some b → was_published log v ≡ true) where
  abbrev before : List Effect
  before = log_effects log

  -- an id was published, or is so by an effect
  abbrev IsOut : Effect → ℕ → Type 0
  IsOut effect v = (was_published log v ≡ true) ⊎ (publishes v effect ≡ true)

  -- whatever disk a history has then is
  abbrev Fits : Effect → List HistEvent → Type 0
  Fits effect added = (v : ℕ) (b : Bool) → fold shapes_after f added v ≡ Some b → IsOut effect v

  abbrev FitsOutcome : Entry → Outcome → Type 0
  FitsOutcome entry o = Fits o.effect (decided_adds log entry o.decision)

  were : (effect : Effect) → Fits effect []
  were effect v b is = inl (are v b is)

  -- what adds nothing if it is granted
  plain : (entry : Entry) → ((vid : Vid) → granted_adds log vid entry ≡ []) → (effect : Effect) (d : Decision)
      → Fits effect (decided_adds log entry d)
  plain entry none effect decisions.None v b is = inl (are v b is)
  plain entry none effect (decisions.Granted vid) v b is =
      inl (are v b (ap (λ (added : List HistEvent). fold shapes_after f added v) (sym (none vid)) ∙ is))
  plain entry none effect (decisions.Refused cause) v b is = inl (are v b is)

  -- one disk is made, and its id published
  made_out : (effect : Effect) (vid v : ℕ) (shown : Option Bool) (b : Bool) → ((vid == v) ≡ true → publishes v effect ≡ true)
      → changed_at vid shown f v ≡ Some b → IsOut effect v
  made_out effect vid v shown b publishing is = by_test (v == vid) refl is
    where
      by_test : (t : Bool) → (v == vid) ≡ t → cond t shown (f v) ≡ Some b → IsOut effect v
      by_test true same is = inr (publishing (eq-eqb vid v (sym (eqb-true v vid same))))
      by_test false apart is = inl (are v b is)

  deleted_out : (effect : Effect) (vid : Vid) (v : ℕ) (b : Bool)
      → changed_at vid.0 (option_map (λ (b : Bool). true) (f vid.0)) f v ≡ Some b → IsOut effect v
  deleted_out effect vid v b is = by_test (v == vid.0) refl is
    where
      by_shape : (o : Option Bool) → f vid.0 ≡ o → (v == vid.0) ≡ true → option_map (λ (b : Bool). true) o ≡ Some b → IsOut effect v
      by_shape None found same is = absurd (cc (is))
      by_shape (Some was) found same is = inl (are v was (ap f (eqb-true v vid.0 same) ∙ found))

      by_test : (t : Bool) → (v == vid.0) ≡ t → cond t (option_map (λ (b : Bool). true) (f vid.0)) (f v) ≡ Some b → IsOut effect v
      by_test true same is = by_shape (f vid.0) refl same is
      by_test false apart is = inl (are v b is)

  news : (by : NodeId) (vid : Vid) (o : Option Reservation) → FitsOutcome (entries.Publish by vid) (publication by (is_for false) o)
  news by vid None = were effects.Nothing
  news by vid (Some r) = by_test (r.by.0 == by.0 && is_for false r.source)
    where
      by_header : (header : Option Header) → Fits (effects.Published r.vid r.name) (option_map_or (disk_made r.vid) header [])
      by_header None v b is = inl (are v b is)
      by_header (Some header) v b is = made_out (effects.Published r.vid r.name) r.vid.0 v (Some false) b (λ same. same) is

      by_test : (b : Bool) → FitsOutcome (entries.Publish by vid) (cond b (grant_outcome r.vid (effects.Published r.vid r.name)) nothing)
      by_test true = by_header (granted_header log r.vid)
      by_test false = were effects.Nothing

  clones : (by : NodeId) (vid : Vid) (o : Option Reservation) → FitsOutcome (entries.Clone by vid) (publication by (is_for true) o)
  clones by vid None = were effects.Nothing
  clones by vid (Some r) = by_test (r.by.0 == by.0 && is_for true r.source)
    where
      by_parent : (parent : Option Vid)
          → Fits (effects.Published r.vid r.name) (option_map_or (λ (parent : Vid). Copy parent.0 r.vid.0 ∷ []) parent [])
      by_parent None v b is = inl (are v b is)
      by_parent (Some parent) v b is =
          made_out (effects.Published r.vid r.name) r.vid.0 v (option_map (λ (b : Bool). false) (f parent.0)) b (λ same. same) is

      by_header : (header : Option Header) → Fits (effects.Published r.vid r.name) (option_map_or (disk_cloned r.vid) header [])
      by_header None v b is = inl (are v b is)
      by_header (Some header) v b is = by_parent header.parent v b is

      by_test : (b : Bool) → FitsOutcome (entries.Clone by vid) (cond b (grant_outcome r.vid (effects.Published r.vid r.name)) nothing)
      by_test true = by_header (granted_header log r.vid)
      by_test false = were effects.Nothing

  snapshots : (by : NodeId) (old vid : Vid) (o : Option Reservation)
      → FitsOutcome (entries.Snapshot by old vid) (snapshot_outcome before by old o)
  snapshots by old vid None = were effects.Nothing
  snapshots by old vid (Some r) = by_test (r.by.0 == by.0)
    where
      replaced : (tag : Option (List ℕ)) (holder : Option Holder) → FitsOutcome (entries.Snapshot by old vid) (replacement r old tag holder)
      replaced None holder v b is = inl (are v b is)
      replaced (Some tag) None v b is = inl (are v b is)
      replaced (Some tag) (Some holder) v b is =
          made_out (replacement r old (Some tag) (Some holder)).effect r.vid.0 v (option_map (λ (b : Bool). false) (f old.0)) b
          (λ same. same) is

      by_test : (b : Bool)
          → FitsOutcome (entries.Snapshot by old vid) (cond b (replacement r old (tag_for old r.source) (holder_of before old.0)) nothing)
      by_test true = replaced (tag_for old r.source) (holder_of before old.0)
      by_test false = were effects.Nothing

  deletes : (by : NodeId) (session : ℕ) (name : List ℕ) (tag : Option (List ℕ)) (effect : Effect) (d : Decision)
      → Fits effect (decided_adds log (entries.Delete by session name tag) d)
  deletes by session name tag effect decisions.None v b is = inl (are v b is)
  deletes by session name tag effect (decisions.Granted vid) v b is = deleted_out effect vid v b is
  deletes by session name tag effect (decisions.Refused cause) v b is = inl (are v b is)

  outcome_out : (entry : Entry) → FitsOutcome entry (outcome before entry)
  outcome_out (entries.Publish by vid) = news by vid (reservation_on vid (reservations_of before))
  outcome_out (entries.Clone by vid) = clones by vid (reservation_on vid (reservations_of before))
  outcome_out (entries.Snapshot by old vid) = snapshots by old vid (reservation_on vid (reservations_of before))
  outcome_out (entries.Delete by session name tag) =
      deletes by session name tag (outcome before (entries.Delete by session name tag)).effect
      (outcome before (entries.Delete by session name tag)).decision
  outcome_out (entries.Format members) = were (outcome before (entries.Format members)).effect
  outcome_out (entries.Join node zone vnodes) = were (outcome before (entries.Join node zone vnodes)).effect
  outcome_out (entries.Leave node) = were (outcome before (entries.Leave node)).effect
  outcome_out (entries.Reweight node vnodes) = were (outcome before (entries.Reweight node vnodes)).effect
  outcome_out (entries.Recovered node epoch) = were (outcome before (entries.Recovered node epoch)).effect
  outcome_out (entries.Reserve by session name origin) =
      plain (entries.Reserve by session name origin) (λ vid. refl) (outcome before (entries.Reserve by session name origin)).effect
      (outcome before (entries.Reserve by session name origin)).decision
  outcome_out (entries.Lock by session name tag) =
      plain (entries.Lock by session name tag) (λ vid. refl) (outcome before (entries.Lock by session name tag)).effect
      (outcome before (entries.Lock by session name tag)).decision
  outcome_out (entries.Unlock by session vid) =
      plain (entries.Unlock by session vid) (λ vid. refl) (outcome before (entries.Unlock by session vid)).effect
      (outcome before (entries.Unlock by session vid)).decision

  pub entry_out : (entry : Entry) (v : ℕ) (b : Bool) → fold shapes_after f (entry_adds log entry) v ≡ Some b
      → was_published (log ++ entry ∷ []) v ≡ true
  unfolding entry_adds
  entry_out entry v b is =
      published-push log entry v
      ∙ ⊎_elim
      (λ (was : was_published log v ≡ true). or_left (was_published log v) (publishes v (outcome before entry).effect || false) was)
      (λ (now : publishes v (outcome before entry).effect ≡ true).
      or_right (was_published log v) (publishes v (outcome before entry).effect || false)
      (or_left (publishes v (outcome before entry).effect) false now))
      (outcome_out entry v b is)

-- ---- at each moment

-- the disks of the history were published
abbrev pub AreOut : MomentWithPast → Type 0
AreOut moment = (v : ℕ) (b : Bool) → shapes moment.past.history v ≡ Some b → was_published moment.world.log v ≡ true

module _ (script : List Statement) where
  module _ (start before after : MomentWithPast) (same : before.world.log ≡ start.world.log) (were_out : AreOut before) where
    abbrev IsOutBy : List HistEvent → Type 0
    IsOutBy history = (v : ℕ) (b : Bool) → shapes history v ≡ Some b → was_published after.world.log v ≡ true

    plainly : (history : List HistEvent) → after.world.log ≡ start.world.log → shapes history ≡ shapes before.past.history
        → IsOutBy history
    plainly history log alike v b is =
        ap (λ (all : List Entry). was_published all v) (log ∙ sym same) ∙ were_out v b (ap (λ (f : Shapes). f v) (sym alike) ∙ is)

    by_growth : (history later : List HistEvent) → before.past.history ≡ history
        → HistoryGrows script start.world after.world.log history later
        → IsOutBy later
    by_growth history later is (NothingIsAdded log) = plainly history log (ap shapes (sym is))
    by_growth history later is (WritesBegin cause log) =
        plainly (history ++ added_at_cause script start.world cause) log
        (behind_shapes history (added_at_cause script start.world cause) (cause_plain script start.world cause) ∙ ap shapes (sym is))
    by_growth history later is (RequestIsReplied cause reply front back log parts apart) =
        plainly (front ++ added_by_reply script start.world cause reply ++ back) log
        (among_shapes front (added_by_reply script start.world cause reply) back (reply_plain script start.world cause reply)
        ∙ ap shapes (sym parts ∙ sym is))
    by_growth history later is (EntryAdds entry log) = λ v b there.
        ap (λ (all : List Entry). was_published all v) log
        ∙ entry_out start.world.log (shapes history)
        (λ v b there. ap (λ (all : List Entry). was_published all v) (sym same)
        ∙ were_out v b (ap (λ (events : List HistEvent). shapes events v) is ∙ there)) entry v b
        (ap (λ (f : Shapes). f v) (sym (fold-append shapes_after (λ (v : ℕ). None) history (entry_adds start.world.log entry))) ∙ there)
    by_growth history later is (WritersAreLost n host log) =
        plainly (history ++ writers_lost script start.world n (Some host)) log
        (behind_shapes history (writers_lost script start.world n (Some host)) (lost_plain script start.world n host) ∙ ap shapes (sym is))

  pub kept_out : RunsAreInRange script → KeptByChanges script AreOut
  kept_out range = record {
    opens = λ v b is. absurd (cc (is));
    keeps = λ start before after began change were.
        by_growth start before after (log_before script change) were before.past.history after.past.history refl
        (history_grows script range start began change);
  }

pub disks_out : (moment : MomentWithPast) → AreOut moment → DisksArePublished (ledger_of moment.past.history) (log_effects moment.world.log)
disks_out moment are = record {
  each = λ vid disk there. are vid disk.deleted (sym (shapes_so moment.past.history vid) ∙ ap shape there);
}
