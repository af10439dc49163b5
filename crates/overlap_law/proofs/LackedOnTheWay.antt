-- At each moment on the way of an event of a run in range, if in each run rows are at their targets, a pending object is one of which the
-- node is a target and has no open row, and whose id it knows.
use Rattle.std.proofs.Common.{◌≡◌, ℕ, Bool, true, false, List, [], Option, Some, None, option_map, refl, sym, ap, subst, ◌∙◌}
use Rattle.std.specs.FinMap as tree
use Rattle.std.proofs.lemmas.Option.{same_Some}
use Rattle.object_id.specs.Oid.{kind_of}
use Rattle.object_id.specs.Policy.{wanted_of}
use Rattle.object_id.specs.declared.entry.Entry.{Entry}
use Rattle.object_id.specs.declared.node.NodeId.{NodeId}
use Rattle.object_id.specs.declared.policy.Policy.{Policy}
use Rattle.epoch_log.specs.Epochs.{members_in}
use Rattle.epoch_log.specs.Members as members
use Rattle.hash_ring.specs.Circle.{hash_of_object}
use Rattle.object_list.specs.Gathered.{has_node}
use Rattle.object_store.specs.Rows.{is_open}
use Rattle.object_store.specs.Store.{rows_of}
use Rattle.cluster_script.specs.declared.statement.Statement.{Statement}
use Rattle.peer_service.specs.State.{Peer, object_policy}
use Rattle.vnode_table.specs.Epochs.{EpochMembers, is_entered, members_at}
use Rattle.vnode_table.specs.Targets.{targets_in}
use Rattle.vdi_directory.specs.Decisions.{log_effects}
use Rattle.recovery.specs.State.{Recovery}
use Rattle.sheep_node.specs.State.{Node}
use Rattle.sheep_node.specs.StepFacts.{epochs_of}
use Rattle.sheep_world.specs.World.{Host, World}
use Rattle.sheep_world.specs.Run.{Moment}
use Rattle.sheep_world.specs.Began.{Began}
use Rattle.sheep_world.proofs.NodesByTheLog.{by_the_log}
use Rattle.sheep_world.specs.RunsWithAsks.{Move}
use Rattle.overlap_law.specs.Each.{policy_in}
use Rattle.overlap_law.specs.Holders.{targets_by}
use Rattle.overlap_law.specs.Lists.{PendingIsLacked}
use Rattle.overlap_law.specs.MomentChanges.{MomentTrail, RunsAreInRange}
use Rattle.overlap_law.specs.Past.{MomentWithPast, without_past, run_with_past}
use Rattle.overlap_law.specs.Rows.{RowsAreAtTargets}
use Rattle.overlap_law.proofs.EpochsInRuns.{members_read}
use Rattle.overlap_law.proofs.LackedAtEntries.{policy_stays}
use Rattle.overlap_law.proofs.LackedInRuns.{IsAmong, among_members, none_entered, index-has_node, policy-known, own_name, lacks-in_world}
use Rattle.overlap_law.proofs.LackedServed.{PeerLacks, NodeLacks}
use Rattle.overlap_law.proofs.NodePartsInMoments.{HasPartsOf}
use Rattle.overlap_law.proofs.NodesOnTheWay.{nodes-on_the_way}
use Rattle.overlap_law.proofs.ReadInMoments.{HasReadOf, HostsAreSound, kept_sound}
use Rattle.overlap_law.proofs.RunLemmas.{past-follows}
use Rattle.overlap_law.proofs.RunsByChanges.{on_the_way}
use Rattle.overlap_law.proofs.StandingRows.{stands_at}

-- what holds of the world of each run holds of each world that a run reaches
pub of_each_run : (script : List Statement) (P : World → Type 0)
    → ((events : List Move) (moment : MomentWithPast) → run_with_past script events ≡ Some moment → P moment.world)
    → (world : World) → Began script world → P world
of_each_run script P holds world began =
    subst P began.world_so
    (by_past (run_with_past script began.moves) refl (past-follows script began.moves ∙ began.runs))
  where
    by_past : (o : Option MomentWithPast) → run_with_past script began.moves ≡ o → option_map without_past o ≡ Some began.moment
        → P began.moment.world
    by_past None is same = absurd (cc (same))
    by_past (Some moment) is same =
        subst (λ (m : Moment). P m.world) (same_Some (without_past moment) began.moment same) (holds began.moves moment is)

-- what is pending at a node of this number is lacked, its recovery is in its name, and its epochs are by what it has read
record LacksAt (n : ℕ) (node : Node) : Type 0 where
  lacks : NodeLacks node
  own : node.recovery.me ≡ record { 0 = n }
  epochs_so : node.epochs ≡ epochs_of node.peer.entries

parts_lack : (old new : Node) → HasPartsOf old new → NodeLacks old → NodeLacks new
parts_lack old new parts lacks =
    subst (λ (r : Recovery). PeerLacks r.me r.epoch (targets_in new.epochs) new.peer) (sym parts.recovery)
    (subst (λ (peer : Peer). PeerLacks old.recovery.me old.recovery.epoch (targets_in new.epochs) peer) (sym parts.peer)
    (subst (λ (epochs : List EpochMembers). PeerLacks old.recovery.me old.recovery.epoch (targets_in epochs) old.peer) (sym parts.epochs)
    lacks))

same_lacks : (n : ℕ) (old new : Node) → HasPartsOf old new → LacksAt n old → LacksAt n new
same_lacks n old new parts is = record {
  lacks = parts_lack old new parts is.lacks;
  own = ap (λ (r : Recovery). r.me) parts.recovery ∙ is.own;
  epochs_so = parts.epochs ∙ is.epochs_so ∙ ap (λ (peer : Peer). epochs_of peer.entries) (sym parts.peer);
}

-- the targets of an epoch that a node entered are those of the log
module _ (log : List Entry) (n : ℕ) (node : Node) (read : HasReadOf log n node.me node.peer) (is : LacksAt n node) where
  entered_targets : (epoch oid : ℕ) (policy : Policy) (other : NodeId) → has_node other (targets_in node.epochs epoch oid policy) ≡ true
      → has_node other (targets_by log epoch oid policy) ≡ true
  unfolding targets_in targets_by
  entered_targets epoch oid policy other among = by_entered (is_entered node.epochs epoch) refl
    where
      by_entered : (b : Bool) → is_entered node.epochs epoch ≡ b → IsAmong oid policy other (members_in log epoch)
      by_entered true entered =
          subst (IsAmong oid policy other)
          (ap (λ (epochs : List EpochMembers). members_at epochs epoch) is.epochs_so
          ∙ members_read node.peer.entries read.front.rest epoch
          (ap (λ (epochs : List EpochMembers). is_entered epochs epoch) (sym is.epochs_so) ∙ entered)
          ∙ ap (λ (all : List Entry). members_in all epoch) (sym read.front.is)) among
      by_entered false none =
          let nobody : members.is_member other.0 [] ≡ true
          = among_members [] (hash_of_object oid) (wanted_of policy (kind_of oid)) other
          (subst (IsAmong oid policy other) (none_entered node.epochs epoch none) among) in
          absurd (cc (nobody))

  known_then : (oid : ℕ) (policy : Policy) → object_policy node.peer oid ≡ Some policy → policy_in (log_effects log) oid ≡ Some policy
  known_then oid policy known =
      ap (λ (all : List Entry). policy_in (log_effects all) oid) read.front.is
      ∙ policy_stays node.peer.entries read.front.rest oid policy known

module _ (script : List Statement) (range : RunsAreInRange script)
    (placed : (world : World) → Began script world → RowsAreAtTargets (targets_by world.log) (log_effects world.log) world.hosts) where
  lacks_at : (world : World) → Began script world → (n : ℕ) (host : Host) → tree.get world.hosts n ≡ Some host → LacksAt n host.node
  lacks_at world began n host there = record {
    lacks = lacks-in_world script range placed world began n host there;
    own = own_name script range placed world began n host there;
    epochs_so = (by_the_log script range.is_script range.room world began n host there).epochs_so;
  }

  module _ (events : List Move) (start moment : MomentWithPast) (is : run_with_past script events ≡ Some start)
      (trail : MomentTrail script start moment) where
    lacking : (n : ℕ) (host : Host) → tree.get moment.world.hosts n ≡ Some host → LacksAt n host.node
    lacking = nodes-on_the_way script LacksAt same_lacks lacks_at events start moment is trail

    sound : HostsAreSound moment
    sound = on_the_way script HostsAreSound (kept_sound script range) events start moment is trail

    pub pending-on_the_way : (live : ℕ → Bool)
        → PendingIsLacked (targets_by moment.world.log) (log_effects moment.world.log) live moment.world.hosts
    pending-on_the_way live = record {
      target = λ n host there up oid policy pending lives known.
          let is_lacking = lacking n host there in
          let read = (sound.each n host there).read in
          let lacked = is_lacking.lacks oid pending in
          let same : lacked.policy ≡ policy
          = same_Some lacked.policy policy
          (sym (known_then moment.world.log n host.node read is_lacking oid lacked.policy lacked.policy_so) ∙ known) in
          let among : has_node host.node.recovery.me (targets_in host.node.epochs host.node.recovery.epoch oid lacked.policy) ≡ true
          = index-has_node host.node.recovery.me (targets_in host.node.epochs host.node.recovery.epoch oid lacked.policy) lacked.policy
          (kind_of oid) lacked.index lacked.index_so in
          entered_targets moment.world.log n host.node read is_lacking host.node.recovery.epoch oid policy (record { 0 = n })
          (subst (λ (p : Policy). has_node (record { 0 = n }) (targets_in host.node.epochs host.node.recovery.epoch oid p) ≡ true) same
          (subst (λ (me : NodeId). has_node me (targets_in host.node.epochs host.node.recovery.epoch oid lacked.policy) ≡ true)
          is_lacking.own among));
      lacked = λ n host there up oid pending lives. record {
        each = λ i row got.
            stands_at (λ row. is_open row ≡ false) (rows_of host.node.peer.rows oid) i row got
            ((lacking n host there).lacks oid pending).shut;
      };
      known = λ n host there up oid pending lives.
          let lacked = (lacking n host there).lacks oid pending in
          policy-known host.node.peer oid lacked.policy lacked.policy_so;
    }
