-- The messages of an attempt that begins: there are zones enough, so the targets are as many as its work asks for.
use Rattle.std.proofs.Common.{◌≡◌, ℕ, ◌≤◌, nat_lt, Bool, true, false, cond, List, length, min, refl, sym, subst, arith}
use Rattle.std.proofs.lemmas.Bool.{ltb-false}
use Rattle.object_id.specs.declared.cause.Cause.TheVariants.{Halt}
use Rattle.object_id.specs.declared.node.Epoch.{Epoch}
use Rattle.object_id.specs.declared.node.NodeId.{NodeId}
use Rattle.object_id.specs.Oid.{kind_of}
use Rattle.object_id.specs.Policy.{wanted_of}
use Rattle.hash_ring.specs.Placement.{zone_count}
use Rattle.vnode_table.specs.Epochs.{EpochMembers, members_at}
use Rattle.vnode_table.specs.Targets.{targets_in}
use Rattle.peer_proto.specs.declared.work.ObjWork.{ObjWork}
use Rattle.peer_proto.specs.Work.{IsWork, oid_of, policy_of}
use Rattle.gateway.specs.declared.act.Sends.{Sends}
use Rattle.gateway.specs.declared.beginning.Beginning.TheVariants as beginnings
use Rattle.gateway.specs.declared.message.Message.{Message}
use Rattle.gateway.specs.Work.{zones_for}
use Rattle.gateway.specs.Attempt.{messages_of}
use Rattle.gateway.specs.Messages.{AreMessagesFor}
use Rattle.gateway.specs.Kept.{sends_beginning, beginning_of}
use Rattle.gateway.proofs.AskersKept.{messages-sent}
use Rattle.gateway.proofs.AskingLemmas.{AreMessagesFor-messages_of, targets-count, targets-most, zones_wanted, policy_is}

-- an attempt is sent only where there are zones enough
zones-sent : (epochs : List EpochMembers) (me : NodeId) (work : ObjWork) (ended : ℕ) (touched : Bool) (first : ℕ) (epoch : Epoch)
    (messages : List Message) (sends : Sends) → beginnings.Sends messages sends ≡ beginning_of epochs me work ended touched first epoch
    → zones_for work ≤ zone_count (members_at epochs epoch.0)
zones-sent epochs me work ended touched first epoch messages sends is =
    ltb-false (zone_count (members_at epochs epoch.0)) (zones_for work)
    (by_test (nat_lt (zone_count (members_at epochs epoch.0)) (zones_for work)) touched is)
  where
    by_test : (b t : Bool)
        → beginnings.Sends messages sends
        ≡ cond b (cond t beginnings.Waits (beginnings.Refused (Halt (zone_count (members_at epochs epoch.0)) (zones_for work))))
        (sends_beginning me epoch work (messages_of work ended first (targets_in epochs epoch.0 (oid_of work) (policy_of work))))
        → b ≡ false
    by_test true true is = absurd (cc (is))
    by_test true false is = absurd (cc (is))
    by_test false t is = refl

pub AreMessagesFor-sent : (epochs : List EpochMembers) (me : NodeId) (work : ObjWork) (ended : ℕ) (touched : Bool) (first : ℕ) (epoch : Epoch)
    (messages : List Message) (sends : Sends) → IsWork work
    → beginnings.Sends messages sends ≡ beginning_of epochs me work ended touched first epoch → AreMessagesFor work messages
AreMessagesFor-sent epochs me work ended touched first epoch messages sends is_work is =
    let targets : List NodeId = targets_in epochs epoch.0 (oid_of work) (policy_of work) in
    let wanted : ℕ = wanted_of (policy_of work) (kind_of (oid_of work)) in
    let zones : ℕ = zone_count (members_at epochs epoch.0) in
    let count : length targets ≡ min wanted zones = targets-count epochs epoch.0 (oid_of work) (policy_of work) in
    let some : zones_for work ≤ zones = zones-sent epochs me work ended touched first epoch messages sends is in
    let few : zones_for work ≤ wanted = zones_wanted work is_work in
    subst (AreMessagesFor work) (sym (messages-sent epochs me work ended touched first epoch messages sends is))
    (AreMessagesFor-messages_of work ended first targets
    (targets-most epochs epoch.0 (oid_of work) (policy_of work) (policy_is work is_work))
    (omega (arith, count, some, few))
    (omega (arith, count)))
