-- In each run in range, and in the middle of its steps, a row that was told to a recovery covers its level at its node's index there. Each
-- member of the recovery's epoch came to it, since a row is asked for with a finished list, and so did the node that told the row.
use Rattle.std.proofs.Common.{◌≡◌, arith, ℕ, ◌<◌, ◌≤◌, nat_le, Bool, true, List, Option, Some, None, sym, ap, subst}
use Rattle.std.proofs.Common.{◌∙◌}
use Rattle.std.proofs.lemmas.Bool.{and_from, and_parts, le-leb, leb-true}
use Rattle.std.proofs.lemmas.List.Elements.{Contains-append_left}
use Rattle.std.proofs.lemmas.Option.{same_Some}
use Rattle.object_id.specs.declared.entry.Entry.{Entry}
use Rattle.object_id.specs.declared.node.Epoch.{Epoch}
use Rattle.object_id.specs.declared.node.NodeId.{NodeId}
use Rattle.object_id.specs.declared.policy.Policy.{Policy}
use Rattle.object_id.specs.Oid.{kind_of}
use Rattle.epoch_log.specs.Epochs.{epoch_of}
use Rattle.gf256.specs.Part.{index_among}
use Rattle.object_store.specs.declared.row.RowCopy.{RowCopy}
use Rattle.object_store.specs.Rows.{reaches}
use Rattle.object_store.specs.Store.{SeenRow, rows_of, copy_of}
use Rattle.cluster_script.specs.declared.statement.Statement.{Statement}
use Rattle.vdi_directory.specs.Decisions.{log_effects}
use Rattle.sheep_world.specs.Began.{Began}
use Rattle.sheep_world.specs.RunsWithAsks.{Move}
use Rattle.overlap_law.specs.Each.{end_of_row, row_covers, has_reached, policy_in}
use Rattle.overlap_law.specs.Holders.{targets_by}
use Rattle.overlap_law.specs.Past.{MomentWithPast, run_with_past}
use Rattle.overlap_law.specs.MomentChanges.{MomentChange, MomentTrail, RunsAreInRange, KeptByChanges}
use Rattle.overlap_law.specs.Searches.{IsTrueRow, ToldRowsAreTrue}
use Rattle.overlap_law.proofs.AllAnswersInMoments.{AreAllTold, kept_all_told}
use Rattle.overlap_law.proofs.AskedRows.{AsksForRowsSo, EachAsksSo, kept_asks}
use Rattle.overlap_law.proofs.BegunInMoments.{AllCame, RowsBegin, waits_for_none, came_still, kept_begun}
use Rattle.overlap_law.proofs.EpochsRise.{epochs_rise}
use Rattle.overlap_law.proofs.LogsInMoments.{LogGrows, log_grows}
use Rattle.overlap_law.proofs.PendingOfNodes.{policy_stays}
use Rattle.overlap_law.proofs.PlacedInMoments.{RowsArePlaced, kept_placed}
use Rattle.overlap_law.proofs.PlacedRows.{IsPlaced}
use Rattle.overlap_law.proofs.ReadInMoments.{IsSoundHost, epoch_within, recovery_members}
use Rattle.overlap_law.proofs.RowSteps.{all_at}
use Rattle.overlap_law.proofs.RunsByChanges.{on_the_way}
use Rattle.overlap_law.proofs.ShapedAttempts.{targets_stay}
use Rattle.overlap_law.proofs.ToldBefore.{reached_by, still_reached}
use Rattle.overlap_law.proofs.ToldInMoments.{RowsToldSo, IsTelling, told-after, told-opening}

-- the policy of the object is known, each member of the epoch came to it, and so did the node, whose row covers the level, before the epoch
pub record IsToldTruly (moment : MomentWithPast) (from : NodeId) (epoch oid level : ℕ) (row : RowCopy) : Type 0 where
  pub policy : Policy
  pub made : policy_in (log_effects moment.world.log) oid ≡ Some policy
  pub below : level < epoch
  pub came : AllCame moment.world.log moment.world.hosts epoch
  pub reached : has_reached moment.world.hosts epoch from ≡ true
  pub is_true : IsTrueRow (targets_by moment.world.log) policy from oid level row

-- what holds of a moment together
pub record TruthHolds (moment : MomentWithPast) : Type 0 where
  pub told : AreAllTold moment
  pub begins : RowsBegin moment
  pub placed : RowsArePlaced moment
  pub asks : EachAsksSo moment
  pub rows : RowsToldSo IsToldTruly moment

-- a row that reaches a level covers it, at a node behind it
pub reaching : (level epoch : ℕ) → level < epoch → (to : Option Epoch) → reaches level to ≡ true → nat_le level (end_of_row epoch to) ≡ true
reaching level epoch below None high = le-leb level epoch (omega (arith, below))
reaching level epoch below (Some to) high = high

-- ---- as it is told

module _ (moment : MomentWithPast) (holds : TruthHolds moment) (from : NodeId) (epoch oid level : ℕ) (row : SeenRow)
    (is : IsTelling moment from epoch oid level row) where
  asks : AsksForRowsSo is.host.node.recovery
  asks = holds.asks is.n is.host is.there

  abbrev asked_level : Epoch
  asked_level = record { 0 = level }

  epoch_so : is.host.node.recovery.epoch ≡ epoch
  epoch_so = sym (asks.of_epoch is.message is.among) ∙ is.of_epoch

  told_below : level < epoch
  told_below =
      subst (λ (k : ℕ). level < k) is.of_epoch
      (asks.past is.message
      (Contains-append_left is.host.node.recovery.unanswered is.host.node.recovery.older is.message is.among) oid asked_level is.asked)

  told_came : AllCame moment.world.log moment.world.hosts epoch
  told_came = subst (AllCame moment.world.log moment.world.hosts) epoch_so (record {
    begun =
        let entered = sound.sound.recovers.entered in
        let within = epoch_within moment.world.log is.n is.host.node.me is.host.node.peer sound.read in
        omega (arith, entered, within);
    each = λ node member.
        let (listed, later) = asks.listed is.message is.among oid asked_level is.asked in
        holds.begins.terms.answers.answered.each is.n is.host is.there (record { 0 = node })
        (recovery_members moment.world.log is.n is.host sound (record { 0 = node }) later ∙ member)
        (waits_for_none is.host.node.recovery.lists.waiting (record { 0 = node }) listed);
  })
    where
      sound : IsSoundHost moment.world.log is.n is.host
      sound = holds.begins.terms.sound.each is.n is.host is.there

  own : IsPlaced moment.world.log from.0 is.teller.node.peer.epoch oid row
  own =
      all_at (IsPlaced moment.world.log from.0 is.teller.node.peer.epoch oid) (rows_of is.teller.node.peer.rows oid) is.place row
      is.row_there (holds.placed.placed from.0 is.teller is.teller_there oid)

  covers : row_covers is.teller.node.peer.epoch level row ≡ true
  covers =
      let parts = and_parts (nat_le row.from.0 level) (reaches level row.to) is.held in
      let below = told_below in
      let at = is.own_epoch in
      and_from (nat_le row.from.0 level) (nat_le level (end_of_row is.teller.node.peer.epoch row.to)) parts.0
      (reaching level is.teller.node.peer.epoch (omega (arith, below, at)) row.to parts.1)

  pub telling : IsToldTruly moment from epoch oid level (copy_of row)
  telling = record {
    policy = own.policy;
    made = own.made;
    below = told_below;
    came = told_came;
    reached =
        let at = is.own_epoch in
        reached_by moment.world.hosts epoch from is.teller is.teller_there (omega (arith, at));
    is_true = record {
      low = leb-true row.from.0 level (and_parts (nat_le row.from.0 level) (reaches level row.to) is.held).0;
      high = (and_parts (nat_le row.from.0 level) (reaches level row.to) is.held).1;
      index = own.placed level covers;
    };
  }

-- ---- over a change of a moment

module _ (script : List Statement) (range : RunsAreInRange script) (start before after : MomentWithPast) (began : Began script start.world)
    (change : MomentChange script start before after) (holds : TruthHolds before) where
  grows : LogGrows before.world.log after.world.log
  grows = log_grows script change

  pub staying : (from : NodeId) (epoch oid level : ℕ) (row : RowCopy) → IsToldTruly before from epoch oid level row
      → IsToldTruly after from epoch oid level row
  staying from epoch oid level row is = record {
    policy = is.policy;
    made = ap (λ (log : List Entry). policy_in (log_effects log) oid) grows.is
        ∙ policy_stays before.world.log grows.rest oid is.policy is.made;
    below = is.below;
    came = came_still script range start before after began change holds.begins epoch is.came;
    reached = still_reached before.world.hosts after.world.hosts (epochs_rise script range start began change) epoch from is.reached;
    is_true = record {
      low = is.is_true.low;
      high = is.is_true.high;
      index = ap (λ (nodes : List NodeId). index_among from nodes is.policy (kind_of oid)) same_targets ∙ is.is_true.index;
    };
  }
    where
      within : level ≤ epoch_of before.world.log
      within = let below = is.below in let begun = is.came.begun in omega (arith, below, begun)

      same_targets : targets_by after.world.log level oid is.policy ≡ targets_by before.world.log level oid is.policy
      same_targets =
          ap (λ (log : List Entry). targets_by log level oid is.policy) grows.is
          ∙ targets_stay before.world.log grows.rest level oid is.policy holds.begins.terms.stood.some within

  rows_after : RowsToldSo IsToldTruly after
  rows_after =
      told-after IsToldTruly script range start before after began change holds.told holds.rows staying
      (λ from epoch oid level row is. telling before holds from epoch oid level row is)

-- ---- every moment

module _ (script : List Statement) (range : RunsAreInRange script) where
  pub kept_truth : KeptByChanges script TruthHolds
  kept_truth = record {
    opens = record {
      told = (kept_all_told script range).opens;
      begins = (kept_begun script range).opens;
      placed = (kept_placed script range).opens;
      asks = (kept_asks script range).opens;
      rows = told-opening IsToldTruly script;
    };
    keeps = λ start before after began change holds. record {
      told = (kept_all_told script range).keeps start before after began change holds.told;
      begins = (kept_begun script range).keeps start before after began change holds.begins;
      placed = (kept_placed script range).keeps start before after began change holds.placed;
      asks = (kept_asks script range).keeps start before after began change holds.asks;
      rows = rows_after script range start before after began change holds;
    };
  }

  module _ (events : List Move) (start moment : MomentWithPast) (is : run_with_past script events ≡ Some start)
      (trail : MomentTrail script start moment) where
    pub truth-on_the_way : TruthHolds moment
    truth-on_the_way = on_the_way script TruthHolds kept_truth events start moment is trail

    -- as the invariant says it, whichever objects are called good
    pub rows_true-on_the_way : (good : ℕ → Bool)
        → ToldRowsAreTrue (targets_by moment.world.log) (log_effects moment.world.log) good moment.world.hosts moment.world.wire
    rows_true-on_the_way good = record {
      each = λ n host there up from epoch oid level row policy is_told is_good known.
          let so : IsToldTruly moment from epoch oid level row
          = truth-on_the_way.rows.each n host there up from epoch oid level row is_told in
          let same : so.policy ≡ policy = same_Some so.policy policy (sym so.made ∙ known) in
          subst (λ (p : Policy). IsTrueRow (targets_by moment.world.log) p from oid level row) same so.is_true;
    }
