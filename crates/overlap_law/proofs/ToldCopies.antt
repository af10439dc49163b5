-- In each run in range, and in the middle of its steps, copies are of attempts, in stores and as they were told to recoveries: a row that
-- is told is one of the teller's, and what a search finds is of the rows that were told, or an own one.
use Rattle.std.proofs.Common.{◌≡◌, ℕ, Bool, true, List, slice_get, Some, refl, sym, ap, subst, ◌∙◌}
use Rattle.std.proofs.lemmas.Option.{same_Some}
use Rattle.object_id.specs.declared.node.NodeId.{NodeId}
use Rattle.object_id.specs.declared.policy.Policy.{Policy}
use Rattle.object_store.specs.declared.row.RowCopy.{RowCopy}
use Rattle.object_store.specs.Store.{SeenRow, rows_of, row_bytes, copy_of}
use Rattle.object_store.proofs.CopyLaws.{row_bytes-copy_of}
use Rattle.cluster_script.specs.declared.statement.Statement.{Statement}
use Rattle.vdi_directory.specs.Decisions.{log_effects}
use Rattle.sheep_world.specs.Began.{Began}
use Rattle.sheep_world.specs.RunsWithAsks.{Move}
use Rattle.object_id.specs.declared.entry.Entry.{Entry}
use Rattle.overlap_law.specs.Attempts.{attempts_on}
use Rattle.overlap_law.specs.Each.{policy_in}
use Rattle.overlap_law.specs.Fates.{AttemptsAreWhole}
use Rattle.overlap_law.specs.Past.{MomentWithPast, run_with_past}
use Rattle.overlap_law.specs.MomentChanges.{MomentChange, MomentTrail, RunsAreInRange, KeptByChanges}
use Rattle.overlap_law.specs.Searches.{ToldCopiesAreOfAttempts}
use Rattle.overlap_law.specs.Since.{IsCopyOfAttempts, CopiesAreOfAttempts}
use Rattle.overlap_law.proofs.AllAnswersInMoments.{AreAllTold, kept_all_told}
use Rattle.overlap_law.proofs.CopiesInMoments.{copies_after}
use Rattle.overlap_law.proofs.GrownAttempts.{traffic_goes_on, grows-object}
use Rattle.overlap_law.proofs.LogsInMoments.{LogGrows, log_grows}
use Rattle.overlap_law.proofs.PendingOfNodes.{policy_stays}
use Rattle.overlap_law.proofs.PlacedInMoments.{RowsArePlaced, kept_placed}
use Rattle.overlap_law.proofs.PlacedRows.{IsPlaced}
use Rattle.overlap_law.proofs.ReadingLaws.{AttemptsGrow}
use Rattle.overlap_law.proofs.RowSteps.{all_at, none_at_first}
use Rattle.overlap_law.proofs.RunsByChanges.{on_the_way}
use Rattle.overlap_law.proofs.ToldInMoments.{RowsToldSo, IsTelling, told-after, told-opening}
use Rattle.overlap_law.proofs.TrafficOfChanges.{traffic}
use Rattle.overlap_law.proofs.WholeInRuns.{change_whole}

-- the policy of the object is known, and a copy is of attempts
pub record IsToldCopy (moment : MomentWithPast) (from : NodeId) (epoch oid level : ℕ) (row : RowCopy) : Type 0 where
  pub policy : Policy
  pub made : policy_in (log_effects moment.world.log) oid ≡ Some policy
  pub of_attempts : IsCopyOfAttempts policy oid moment.past.attempts row.index (row_bytes row)

-- of every object
abbrev of_any : ℕ → Bool
of_any oid = true

-- what holds of a moment together
pub record CopiesHold (moment : MomentWithPast) : Type 0 where
  pub told : AreAllTold moment
  pub placed : RowsArePlaced moment
  pub whole : AttemptsAreWhole (log_effects moment.world.log) moment.past.attempts
  pub copies : CopiesAreOfAttempts (log_effects moment.world.log) of_any moment.world.hosts moment.past.attempts
  pub rows : RowsToldSo IsToldCopy moment

-- as the invariant says it, of objects that pass a test
pub copies-of : (live : ℕ → Bool) (moment : MomentWithPast) → CopiesHold moment
    → CopiesAreOfAttempts (log_effects moment.world.log) live moment.world.hosts moment.past.attempts
copies-of live moment holds = record {
  each = λ n host there oid i row got policy alive known. holds.copies.each n host there oid i row got policy refl known;
}

pub told_copies-of : (live : ℕ → Bool) (moment : MomentWithPast) → CopiesHold moment
    → ToldCopiesAreOfAttempts (log_effects moment.world.log) live moment.world.hosts moment.world.wire moment.past.attempts
told_copies-of live moment holds = record {
  each = λ n host there up from epoch oid level row policy is_told alive known.
      let is : IsToldCopy moment from epoch oid level row = holds.rows.each n host there up from epoch oid level row is_told in
      let same : is.policy ≡ policy = same_Some is.policy policy (sym is.made ∙ known) in
      subst (λ (p : Policy). IsCopyOfAttempts p oid moment.past.attempts row.index (row_bytes row)) same is.of_attempts;
}

-- ---- over a change of a moment

module _ (script : List Statement) (range : RunsAreInRange script) (start before after : MomentWithPast) (began : Began script start.world)
    (change : MomentChange script start before after) (holds : CopiesHold before) where
  grows : LogGrows before.world.log after.world.log
  grows = log_grows script change

  -- the row of the teller that is told
  telling : (from : NodeId) (epoch oid level : ℕ) (row : SeenRow) → IsTelling before from epoch oid level row
      → IsToldCopy before from epoch oid level (copy_of row)
  telling from epoch oid level row is =
      let peer_rows : List SeenRow = rows_of is.teller.node.peer.rows oid in
      let own : IsPlaced before.world.log from.0 is.teller.node.peer.epoch oid row
      = all_at (IsPlaced before.world.log from.0 is.teller.node.peer.epoch oid) peer_rows is.place row is.row_there
      (holds.placed.placed from.0 is.teller is.teller_there oid) in
      record {
        policy = own.policy;
        made = own.made;
        of_attempts = subst (IsCopyOfAttempts own.policy oid before.past.attempts row.index) (sym (row_bytes-copy_of row))
            (holds.copies.each from.0 is.teller is.teller_there oid is.place row is.row_there own.policy refl own.made);
      }

  -- it stays so
  staying : (from : NodeId) (epoch oid level : ℕ) (row : RowCopy) → IsToldCopy before from epoch oid level row
      → IsToldCopy after from epoch oid level row
  staying from epoch oid level row is =
      let grow : AttemptsGrow (attempts_on oid before.past.attempts) (attempts_on oid after.past.attempts)
      = grows-object oid before.past.attempts after.past.attempts
      (traffic_goes_on before.world.hosts after.world.hosts before.world.wire before.past.attempts
      (traffic script range start began change)) in
      record {
        policy = is.policy;
        made = ap (λ (log : List Entry). policy_in (log_effects log) oid) grows.is
            ∙ policy_stays before.world.log grows.rest oid is.policy is.made;
        of_attempts = λ whole_copies. record {
          each = λ unit ends.
              let (k, attempt, at, has) = (is.of_attempts whole_copies).each unit ends in
              let (fates, now, muter) = grow.stays k attempt at in
              (k, record attempt { fates = fates }, now, has);
        };
      }

  rows_after : RowsToldSo IsToldCopy after
  rows_after = told-after IsToldCopy script range start before after began change holds.told holds.rows staying telling

  stored_after : CopiesAreOfAttempts (log_effects after.world.log) of_any after.world.hosts after.past.attempts
  stored_after =
      copies_after script range start before after began change of_any holds.placed.shaped holds.placed.makers holds.whole
      (told_copies-of of_any before holds) holds.copies

-- ---- every moment

module _ (script : List Statement) (range : RunsAreInRange script) where
  pub kept_copies : KeptByChanges script CopiesHold
  kept_copies = record {
    opens = record {
      told = (kept_all_told script range).opens;
      placed = (kept_placed script range).opens;
      whole = record { each = λ j attempt got. absurd (cc (got)) };
      copies = record {
        each = λ n host there oid i row got.
            let none = ap (λ (rows : List SeenRow). slice_get rows i) (none_at_first script n host there oid) in
            absurd (cc (none, got));
      };
      rows = told-opening IsToldCopy script;
    };
    keeps = λ start before after began change holds. record {
      told = (kept_all_told script range).keeps start before after began change holds.told;
      placed = (kept_placed script range).keeps start before after began change holds.placed;
      whole = change_whole script range start before after began change holds.placed.shaped holds.whole;
      copies = stored_after script range start before after began change holds;
      rows = rows_after script range start before after began change holds;
    };
  }

  module _ (events : List Move) (start moment : MomentWithPast) (is : run_with_past script events ≡ Some start)
      (trail : MomentTrail script start moment) where
    copies_hold : CopiesHold moment
    copies_hold = on_the_way script CopiesHold kept_copies events start moment is trail

    pub copies-on_the_way : (live : ℕ → Bool)
        → CopiesAreOfAttempts (log_effects moment.world.log) live moment.world.hosts moment.past.attempts
    copies-on_the_way live = copies-of live moment copies_hold

    pub told_copies-on_the_way : (live : ℕ → Bool)
        → ToldCopiesAreOfAttempts (log_effects moment.world.log) live moment.world.hosts moment.world.wire moment.past.attempts
    told_copies-on_the_way live = told_copies-of live moment copies_hold
