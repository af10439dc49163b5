-- An object that was created stays so over each change of a moment: a made create stays made.
use Rattle.std.proofs.Common.{◌≡◌, arith, ℕ, ◌≤◌, List, [], ◌∷◌, ◌++◌, sym, ap, subst, ◌∙◌}
use Rattle.object_id.specs.declared.node.NodeId.{NodeId}
use Rattle.cluster_script.specs.declared.statement.Statement.{Statement}
use Rattle.message_wire.specs.declared.packet.Packet.TheVariants.{Request, Reply}
use Rattle.sheep_world.specs.Began.{Began}
use Rattle.overlap_law.specs.Attempts.{AttemptRecord, MessageFate, Doomed, attempt_with_fate, attempts_with_fate, fate_of_say, object_of}
use Rattle.overlap_law.specs.Fates.{IsCreated}
use Rattle.overlap_law.specs.Holders.{creates}
use Rattle.overlap_law.specs.MomentChanges.{MomentChange, RunsAreInRange}
use Rattle.overlap_law.specs.Packets.{Wire}
use Rattle.overlap_law.specs.Past.{MomentWithPast}
use Rattle.overlap_law.specs.Reached.{Hosts}
use Rattle.overlap_law.specs.Traffic.{Traffic, NothingMoves, MessageIsLost, ReplyIsReceived, RequestIsAnswered, RequestsAreSent}
use Rattle.overlap_law.specs.Traffic.{AttemptBegins, RepliesGo}
use Rattle.overlap_law.proofs.AttemptLists.{got_still, map_got, marked_shape, fates_told}
use Rattle.overlap_law.proofs.FateLemmas.{made-marked}
use Rattle.overlap_law.proofs.TrafficOfChanges.{traffic}

marked_created : (told : MessageFate) (sender : NodeId) (number : ℕ) (attempts : List AttemptRecord) (oid epoch : ℕ)
    → IsCreated attempts oid epoch
    → IsCreated (attempts_with_fate told sender number attempts) oid epoch
unfolding attempts_with_fate
marked_created told sender number attempts oid epoch was =
    let now : AttemptRecord = attempt_with_fate told sender number was.create in
    let shape : now ≡ record was.create { fates = fates_told told sender number was.create }
    = marked_shape told sender number was.create in
    record {
      place = was.place;
      create = now;
      there = map_got (attempt_with_fate told sender number) attempts was.place was.create was.there;
      object = ap (λ (a : AttemptRecord). object_of a) shape ∙ was.object;
      creating = ap (λ (a : AttemptRecord). creates a) shape ∙ was.creating;
      made = made-marked told sender number was.create was.made;
      epoch_of_it = subst (λ (a : AttemptRecord). a.epoch ≤ epoch) (sym shape) was.epoch_of_it;
    }

-- with an attempt more
pub created-more : (attempts : List AttemptRecord) (new : AttemptRecord) (oid epoch : ℕ) → IsCreated attempts oid epoch
    → IsCreated (attempts ++ new ∷ []) oid epoch
created-more attempts new oid epoch was = record {
  place = was.place;
  create = was.create;
  there = got_still attempts new was.place was.create was.there;
  object = was.object;
  creating = was.creating;
  made = was.made;
  epoch_of_it = was.epoch_of_it;
}

-- by a later epoch too
pub created-by : (attempts : List AttemptRecord) (oid epoch later : ℕ) → epoch ≤ later → IsCreated attempts oid epoch
    → IsCreated attempts oid later
created-by attempts oid epoch later rises was = record {
  place = was.place;
  create = was.create;
  there = was.there;
  object = was.object;
  creating = was.creating;
  made = was.made;
  epoch_of_it = (let most = was.epoch_of_it in omega (arith, most, rises));
}

traffic_created : (hosts hosts_after : Hosts) (wire later : Wire) (attempts after : List AttemptRecord) (oid epoch : ℕ)
    → Traffic hosts hosts_after wire attempts later after → IsCreated attempts oid epoch → IsCreated after oid epoch
traffic_created hosts hosts_after wire later attempts after oid epoch NothingMoves was = was
traffic_created hosts hosts_after wire later attempts after oid epoch (MessageIsLost name (Request to bytes) there) was =
    marked_created Doomed name.sender name.number attempts oid epoch was
traffic_created hosts hosts_after wire later attempts after oid epoch (MessageIsLost name (Reply from bytes) there) was = was
traffic_created hosts hosts_after wire later attempts after oid epoch (ReplyIsReceived name from bytes there) was = was
traffic_created hosts hosts_after wire later attempts after oid epoch (RequestIsAnswered name to bytes up rsp there answer) was =
    marked_created (fate_of_say rsp.say) name.sender name.number attempts oid epoch was
traffic_created hosts hosts_after wire later attempts after oid epoch (RequestsAreSent n sends by nothing) was = was
traffic_created hosts hosts_after wire later attempts after oid epoch (AttemptBegins n sends new begun) was =
    created-more attempts new oid epoch was
traffic_created hosts hosts_after wire later attempts after oid epoch (RepliesGo n) was = was

pub created_stays : (script : List Statement) → RunsAreInRange script → (start before after : MomentWithPast) → Began script start.world
    → MomentChange script start before after → (oid epoch : ℕ) → IsCreated before.past.attempts oid epoch
    → IsCreated after.past.attempts oid epoch
created_stays script range start before after began change oid epoch was =
    traffic_created before.world.hosts after.world.hosts before.world.wire after.world.wire before.past.attempts after.past.attempts oid
    epoch
    (traffic script range start began change) was
