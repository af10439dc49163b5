-- In each moment on the way of an event of a run in range a row's node is a target of the object in each epoch that the row covers, at the
-- row's index.
use Rattle.std.proofs.Common.{◌≡◌, ⊎_elim, arith, ℕ, suc, ◌+◌, ◌<◌, ◌≤◌, true, List, [], ◌∷◌, ◌++◌, length, Some, None, slice_get, sym, ap}
use Rattle.std.proofs.Common.{subst, ◌∙◌, append_assoc}
use Rattle.std.specs.FinMap as tree
use Rattle.std.proofs.lemmas.Bool.{cases_lt}
use Rattle.std.proofs.lemmas.Option.{same_Some}
use Rattle.object_id.specs.declared.entry.Entry.{Entry}
use Rattle.object_id.specs.declared.entry.Member.{Member}
use Rattle.object_id.specs.declared.node.NodeId.{NodeId}
use Rattle.object_id.specs.declared.policy.Policy.{Policy}
use Rattle.object_id.specs.Oid.{kind_of}
use Rattle.object_id.specs.Policy.{wanted_of}
use Rattle.epoch_log.specs.Epochs.{begins_epoch, epoch_of, members_in}
use Rattle.gf256.specs.Part.{index_at}
use Rattle.hash_ring.specs.Circle.{hash_of_object}
use Rattle.hash_ring.specs.Placement.{targets_of}
use Rattle.object_store.specs.declared.key.Key.{Key}
use Rattle.object_store.specs.Store.{SeenRow, rows_of}
use Rattle.object_store.proofs.StoreLaws.{rows_of-empty}
use Rattle.cluster_script.specs.declared.statement.Statement.{Statement}
use Rattle.peer_proto.specs.declared.ask.PeerAsk.TheVariants as asks
use Rattle.peer_proto.specs.declared.ask.PeerReq.{PeerReq}
use Rattle.peer_proto.specs.Work.{policy_of}
use Rattle.vdi_directory.specs.Decisions.{log_effects}
use Rattle.peer_service.specs.State.{Peer, object_policy}
use Rattle.peer_service.specs.Fence.{epoch_refusal}
use Rattle.peer_service.specs.LogReading.{without_objects, read_entry}
use Rattle.vnode_table.specs.Epochs.{EpochMembers, members_at}
use Rattle.vnode_table.specs.Targets.{targets_in}
use Rattle.recovery.specs.Shown.{first_in}
use Rattle.sheep_node.specs.declared.input.Input.{Input}
use Rattle.sheep_node.specs.declared.input.Input.TheVariants as inputs
use Rattle.sheep_node.specs.LogReading.{epochs_with_entry, entry_read}
use Rattle.sheep_node.specs.RecoveryView.{shown_node}
use Rattle.sheep_node.specs.Changes.{input_received}
use Rattle.sheep_node.specs.NodeInvariant.{IsSoundNode}
use Rattle.sheep_node.specs.State.{Node}
use Rattle.sheep_node.specs.StepFacts.{read_after, epochs_of, IsByTheLog}
use Rattle.sheep_node.specs.StepState.{at_first}
use Rattle.sheep_node.proofs.LogLaws.{epoch_more}
use Rattle.sheep_node.proofs.StepResults.{step_epochs, step_reads}
use Rattle.sheep_world.specs.World.{Host}
use Rattle.sheep_world.specs.Began.{Began}
use Rattle.sheep_world.proofs.LogAtOpening.{log-holds}
use Rattle.sheep_world.proofs.NodesByTheLog.{by_the_log}
use Rattle.sheep_world.specs.RunsWithAsks.{Move}
use Rattle.overlap_law.specs.Attempts.{object_of}
use Rattle.overlap_law.specs.Each.{policy_in, index_of_part}
use Rattle.overlap_law.specs.Holders.{targets_by}
use Rattle.overlap_law.specs.Past.{MomentWithPast, first_moment, run_with_past}
use Rattle.overlap_law.specs.ShapedAttempts.{AreShaped}
use Rattle.overlap_law.specs.Rows.{RowsAreAtTargets}
use Rattle.overlap_law.specs.MomentChanges.{MomentChange, MomentTrail, RunsAreInRange, KeptByChanges}
use Rattle.overlap_law.specs.Traffic.{asks_making}
use Rattle.overlap_law.proofs.AskedKeys.{own_epoch, key_asked}
use Rattle.overlap_law.proofs.DistinctTargets.{index-of_place}
use Rattle.overlap_law.proofs.EpochsInRuns.{members_read}
use Rattle.overlap_law.proofs.EpochsRise.{epochs_rise}
use Rattle.overlap_law.proofs.LogsInMoments.{LogGrows, log_grows}
use Rattle.overlap_law.proofs.MakersInTraffic.{HasMakersOfAttempts, kept_makers}
use Rattle.overlap_law.proofs.PendingInRuns.{knows_pending}
use Rattle.overlap_law.proofs.PendingOfNodes.{KnowsPending, policy_stays}
use Rattle.overlap_law.proofs.PlacedRows.{IsPlaced, ArePlacedAt, HasPlace, grown_placed, grown_place, IsPlacedView, StepIsPlaced}
use Rattle.overlap_law.proofs.PlacedRows.{keeps_placed}
use Rattle.overlap_law.proofs.RangeOfRuns.{nodes_sound}
use Rattle.overlap_law.proofs.ReadInMoments.{HostsAreSound, epoch_within, kept_sound}
use Rattle.overlap_law.proofs.RowSteps.{IsRowStep, RowsChange, RowsStay, RowsStep, RowsAreNew, none_at_first, all_at, rows_change}
use Rattle.overlap_law.proofs.RunsByChanges.{run-kept, on_the_way}
use Rattle.overlap_law.proofs.ShapedAttempts.{entered_newest, kept_shaped}
use Rattle.overlap_law.proofs.StoredRows.{IsRecovering, step-rows_while_pending}

-- the rows of each node are placed, by the log
abbrev pub EachIsPlaced : MomentWithPast → Type 0
EachIsPlaced moment = (n : ℕ) (host : Host) → tree.get moment.world.hosts n ≡ Some host → (oid : ℕ)
    → ArePlacedAt moment.world.log n host.node.peer.epoch oid (rows_of host.node.peer.rows oid)

-- what holds of a moment together
pub record RowsArePlaced (moment : MomentWithPast) : Type 0 where
  pub sound : HostsAreSound moment
  pub shaped : AreShaped moment
  pub makers : HasMakersOfAttempts moment
  pub placed : EachIsPlaced moment

-- the targets of an epoch that was entered are those of the log
same_targets : (log : List Entry) (epochs : List EpochMembers) (epoch oid : ℕ) (policy : Policy)
    → members_at epochs epoch ≡ members_in log epoch → targets_in epochs epoch oid policy ≡ targets_by log epoch oid policy
unfolding targets_in targets_by
same_targets log epochs epoch oid policy same =
    ap (λ (list : List Member). targets_of list (hash_of_object oid) (wanted_of policy (kind_of oid))) same

-- who is in a later epoch than the first has read something
some_read : (entries : List Entry) → 1 < epoch_of entries → 1 ≤ length entries
some_read [] later = absurd (omega (arith, later))
some_read (first ∷ rest) later = omega arith

one_more : (entries : List Entry) (entry : Entry) → 1 ≤ length (entries ++ entry ∷ [])
one_more [] entry = omega arith
one_more (first ∷ later) entry = omega arith

-- ---- over a change of a moment

module _ (script : List Statement) (range : RunsAreInRange script) (start before after : MomentWithPast) (began : Began script start.world)
    (change : MomentChange script start before after) (holds : RowsArePlaced before) (sound_after : HostsAreSound after) where
  grows : LogGrows before.world.log after.world.log
  grows = log_grows script change

  -- by the longer log
  placed_before : (n : ℕ) (was : Host) → tree.get before.world.hosts n ≡ Some was → (oid : ℕ)
      → ArePlacedAt after.world.log n was.node.peer.epoch oid (rows_of was.node.peer.rows oid)
  placed_before n was there oid =
      let rows : List SeenRow = rows_of was.node.peer.rows oid in
      subst (λ (log : List Entry). ArePlacedAt log n was.node.peer.epoch oid rows) (sym grows.is)
      (grown_placed before.world.log grows.rest n was.node.peer.epoch oid
      (epoch_within before.world.log n was.node.me was.node.peer (holds.sound.each n was there).read) rows (holds.placed n was there oid))

  module _ (n : ℕ) (was host : Host) (there : tree.get before.world.hosts n ≡ Some was) (got : tree.get after.world.hosts n ≡ Some host)
      (step : IsRowStep script before after n was host) where
    abbrev node : Node
    node = was.node

    abbrev entries : List Entry
    entries = was.node.peer.entries

    knows : KnowsPending was.node
    knows = knows_pending script range before.world step.began n was there

    by_log : IsByTheLog was.node
    by_log = by_the_log script range.is_script range.room before.world step.began n was there

    sound : IsSoundNode was.node
    sound =
        nodes_sound script range.is_script range.room (λ world begun. (range.messages world begun).replies) before.world step.began n was
        there

    -- what the node had read is the log's beginning
    abbrev rest : List Entry
    rest = (holds.sound.each n was there).read.front.rest ++ grows.rest

    log_so : after.world.log ≡ entries ++ rest
    log_so =
        let front = (holds.sound.each n was there).read.front in
        grows.is ∙ ap (λ (all : List Entry). all ++ grows.rest) front.is ∙ append_assoc entries front.rest grows.rest

    -- and so is what it has read then
    reads : host.node.peer.entries ≡ read_after step.input entries
    reads = ap (λ (peer : Peer). peer.entries) (sym step.peer_so) ∙ step_reads step.input was.node

    reading : (entry : Entry) → step.input ≡ inputs.LogEntry entry
        → after.world.log ≡ (entries ++ entry ∷ []) ++ (sound_after.each n host got).read.front.rest
    reading entry comes =
        let front = (sound_after.each n host got).read.front in
        front.is ∙ ap (λ (all : List Entry). all ++ front.rest) (reads ∙ ap (λ (at : Input). read_after at entries) comes)

    -- ---- its recovery

    view : IsRecovering node step.input → IsPlacedView after.world.log n node.recovery.me node.recovery.epoch (shown_node node)
    view recovering = record {
      me_so = ap (λ (k : NodeId). k.0) sound.recovery.own ∙ (holds.sound.each n was there).read.own;
      own = own;
      policies = λ oid policy known.
          ap (λ (log : List Entry). policy_in (log_effects log) oid) log_so ∙ policy_stays entries rest oid policy known;
      targets = λ oid policy. same_targets after.world.log node.epochs node.peer.epoch oid policy members;
      pending = knows.targets;
    }
      where
        later : 1 < node.recovery.epoch
        later = ⊎_elim
            (λ (above : 1 < node.recovery.epoch). above)
            (λ (most : node.recovery.epoch ≤ 1).
            let some = knows.some in
            let none = ap first_in (knows.first (omega (arith, most, some))).0 in
            let pending = recovering.first in
            absurd (cc (none, pending)))
            (cases_lt 1 node.recovery.epoch)

        own : node.recovery.epoch ≡ node.peer.epoch
        own = knows.own later

        members : members_at node.epochs node.peer.epoch ≡ members_in after.world.log node.peer.epoch
        members =
            let epoch : node.peer.epoch ≡ epoch_of entries = by_log.epoch_so in
            let above = later in
            let aim = own in
            (λ i. members_at (by_log.epochs_so i) (by_log.epoch_so i))
            ∙ members_read entries rest (epoch_of entries) (entered_newest entries (some_read entries (omega (arith, epoch, above, aim))))
            ∙ ap (λ (k : ℕ). members_in (entries ++ rest) k) (sym epoch)
            ∙ ap (λ (log : List Entry). members_in log node.peer.epoch) (sym log_so)

    -- ---- what it is asked to create

    created : (request : PeerReq) (key : Key) (size offset : ℕ) (bytes : List ℕ) → step.input ≡ inputs.Request request
        → request.ask ≡ asks.Create key size offset bytes → epoch_refusal node.peer.epoch request.epoch.0 ≡ None
        → HasPlace after.world.log n node.peer.epoch key.oid key.index
    created request key size offset bytes comes asked fence =
        let serving = step.serves request comes in
        let (j, attempt, at, is) = holds.makers.each serving.name serving.to request serving.asking (ap asks_making asked) in
        let shape = holds.shaped.shape in
        let index : ℕ = index_at (policy_of attempt.work) (kind_of (object_of attempt)) is.place in
        let begun : attempt.epoch ≤ epoch_of before.world.log = shape.begun j attempt at in
        let epoch : node.peer.epoch ≡ attempt.epoch
        = own_epoch node.peer.epoch request.epoch.0 fence ∙ ap (λ (r : PeerReq). r.epoch.0) is.request_so in
        let key_so : key ≡ record { oid = object_of attempt; index = index }
        = key_asked key size offset bytes attempt.work index (shape.making j attempt at)
        (sym asked ∙ ap (λ (r : PeerReq). r.ask) is.request_so) in
        let among : slice_get (targets_by before.world.log attempt.epoch (object_of attempt) (policy_of attempt.work)) is.place
        ≡ Some serving.to
        = ap (λ (targets : List NodeId). slice_get targets is.place) (sym (shape.targets j attempt at)) ∙ is.among in
        let place : index_of_part (targets_by before.world.log) attempt.epoch (object_of attempt) (policy_of attempt.work) serving.to
        ≡ Some index
        = index-of_place before.world.log attempt.epoch (object_of attempt) (policy_of attempt.work) serving.to is.place
        (log-holds script range.is_script range.room before.world step.began).log begun among in
        let own : HasPlace before.world.log n attempt.epoch (object_of attempt) index
        = record {
          policy = policy_of attempt.work;
          made = shape.policy j attempt at;
          at = ap (λ (k : ℕ).
              index_of_part (targets_by before.world.log) attempt.epoch (object_of attempt) (policy_of attempt.work) (record { 0 = k }))
              (sym serving.here) ∙ place;
        } in
        let now : HasPlace after.world.log n attempt.epoch (object_of attempt) index
        = subst (λ (log : List Entry). HasPlace log n attempt.epoch (object_of attempt) index) (sym grows.is)
        (grown_place before.world.log grows.rest n attempt.epoch (object_of attempt) index begun own) in
        subst (λ (k : Key). HasPlace after.world.log n node.peer.epoch k.oid k.index) (sym key_so)
        (subst (λ (k : ℕ). HasPlace after.world.log n k (object_of attempt) index) (sym epoch) now)

    -- ---- what it reads

    policies : (entry : Entry) → step.input ≡ inputs.LogEntry entry → (oid : ℕ) (policy : Policy)
        → object_policy (read_entry entry node.peer) oid ≡ Some policy → policy_in (log_effects after.world.log) oid ≡ Some policy
    unfolding read_entry without_objects
    policies entry comes oid policy known =
        ap (λ (log : List Entry). policy_in (log_effects log) oid) (reading entry comes)
        ∙ policy_stays (entries ++ entry ∷ []) (sound_after.each n host got).read.front.rest oid policy known

    entered : (entry : Entry) → step.input ≡ inputs.LogEntry entry → begins_epoch entry ≡ true → (oid : ℕ) (policy : Policy)
        → targets_in (epochs_with_entry entry node) (node.peer.epoch + 1) oid policy
        ≡ targets_by after.world.log (node.peer.epoch + 1) oid policy
    unfolding entry_read
    entered entry comes begins oid policy =
        let all : List Entry = entries ++ entry ∷ [] in
        let epochs : epochs_with_entry entry node ≡ epochs_of all
        = ap (λ (at : Input). (input_received at (at_first node)).node.epochs) (sym comes) ∙ sym (step_epochs step.input node)
        ∙ step.follows.epochs_so ∙ ap epochs_of (step_reads step.input node ∙ ap (λ (at : Input). read_after at entries) comes) in
        let own : node.peer.epoch ≡ epoch_of entries = by_log.epoch_so in
        let next : epoch_of all ≡ suc (epoch_of entries) = epoch_more entries entry begins in
        let epoch : node.peer.epoch + 1 ≡ epoch_of all = omega (arith, own, next) in
        let front = (sound_after.each n host got).read.front in
        same_targets after.world.log (epochs_with_entry entry node) (node.peer.epoch + 1) oid policy
        ((λ i. members_at (epochs i) (epoch i)) ∙ members_read all front.rest (epoch_of all) (entered_newest all (one_more entries entry))
        ∙ ap (λ (k : ℕ). members_in (all ++ front.rest) k) (sym epoch)
        ∙ ap (λ (log : List Entry). members_in log (node.peer.epoch + 1)) (sym (reading entry comes)))

    back_later : (back : List Entry) → step.input ≡ inputs.Back back → node.peer.epoch ≤ epoch_of back
    back_later back comes =
        let (now, at, more) = epochs_rise script range start began change n was there in
        let same : now ≡ host = same_Some now host (sym at ∙ got) in
        let rises : node.peer.epoch ≤ host.node.peer.epoch = subst (λ (h : Host). node.peer.epoch ≤ h.node.peer.epoch) same more in
        let epoch : host.node.peer.epoch ≡ epoch_of back
        = (sound_after.each n host got).read.epoch_so ∙ ap epoch_of (reads ∙ ap (λ (at : Input). read_after at entries) comes) in
        omega (arith, rises, epoch)

    step_is_placed : StepIsPlaced after.world.log n node step.input
    step_is_placed = record {
      own = (holds.sound.each n was there).read.own;
      view = view;
      created = created;
      policies = policies;
      entered = entered;
      later = back_later;
    }

    stepped : (oid : ℕ) → ArePlacedAt after.world.log n host.node.peer.epoch oid (rows_of host.node.peer.rows oid)
    stepped oid =
        subst (λ (peer : Peer). ArePlacedAt after.world.log n peer.epoch oid (rows_of peer.rows oid)) step.peer_so
        (step-rows_while_pending (IsPlacedView after.world.log n) (ArePlacedAt after.world.log n) node step.input
        (keeps_placed after.world.log n node step.input step_is_placed) (placed_before n was there) oid)

  placed_after : EachIsPlaced after
  placed_after n host got oid = by_change (rows_change script range start began change n host got)
    where
      by_change : RowsChange script before after n host
          → ArePlacedAt after.world.log n host.node.peer.epoch oid (rows_of host.node.peer.rows oid)
      by_change (RowsStay was there same) =
          subst (λ (peer : Peer). ArePlacedAt after.world.log n peer.epoch oid (rows_of peer.rows oid)) same (placed_before n was there oid)
      by_change (RowsStep was there step) = stepped n was host there got step oid
      by_change (RowsAreNew tries same) =
          subst (λ (peer : Peer). ArePlacedAt after.world.log n peer.epoch oid (rows_of peer.rows oid)) same
          (subst (ArePlacedAt after.world.log n 1 oid) (sym (rows_of-empty oid)) tt)

-- ---- every moment

module _ (script : List Statement) (range : RunsAreInRange script) where
  pub kept_placed : KeptByChanges script RowsArePlaced
  kept_placed = record {
    opens = record {
      sound = (kept_sound script range).opens;
      shaped = (kept_shaped script range).opens;
      makers = (kept_makers script range).opens;
      placed = λ n host got oid.
          subst (ArePlacedAt (first_moment script).world.log n host.node.peer.epoch oid) (sym (none_at_first script n host got oid)) tt;
    };
    keeps = λ start before after began change holds.
        let sound : HostsAreSound after = (kept_sound script range).keeps start before after began change holds.sound in
        record {
          sound = sound;
          shaped = (kept_shaped script range).keeps start before after began change holds.shaped;
          makers = (kept_makers script range).keeps start before after began change holds.makers;
          placed = placed_after script range start before after began change holds sound;
        };
  }

-- where rows are placed, they are at targets
at_targets : (moment : MomentWithPast) → RowsArePlaced moment
    → RowsAreAtTargets (targets_by moment.world.log) (log_effects moment.world.log) moment.world.hosts
at_targets moment holds = record {
  each = λ n host there oid i row got policy epoch made covers.
      let own : IsPlaced moment.world.log n host.node.peer.epoch oid row
      = all_at (IsPlaced moment.world.log n host.node.peer.epoch oid) (rows_of host.node.peer.rows oid) i row got
      (holds.placed n host there oid) in
      let same : own.policy ≡ policy = same_Some own.policy policy (sym own.made ∙ made) in
      subst (λ (p : Policy). index_of_part (targets_by moment.world.log) epoch oid p (record { 0 = n }) ≡ Some row.index) same
      (own.placed epoch covers);
}

module _ (script : List Statement) (range : RunsAreInRange script) (events : List Move) where
  pub placed-in_run : (moment : MomentWithPast) → run_with_past script events ≡ Some moment
      → RowsAreAtTargets (targets_by moment.world.log) (log_effects moment.world.log) moment.world.hosts
  placed-in_run moment is = at_targets moment (run-kept script RowsArePlaced (kept_placed script range) events moment is)

  pub placed-on_the_way : (start moment : MomentWithPast) → run_with_past script events ≡ Some start → MomentTrail script start moment
      → RowsAreAtTargets (targets_by moment.world.log) (log_effects moment.world.log) moment.world.hosts
  placed-on_the_way start moment is trail =
      at_targets moment (on_the_way script RowsArePlaced (kept_placed script range) events start moment is trail)
