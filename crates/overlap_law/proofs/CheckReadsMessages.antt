-- In each run in range, where a check comes to a write by a reply: each message of the work gave the part of its place, as long as that is,
-- which has what its teller owed; and the value is that of what they all gave.
use Rattle.std.proofs.Common.{◌≡◌, arith, ℕ, ◌^◌, ◌<◌, ◌≤◌, true, false, List, length, map, slice_get, Option, Some, sym, ap, subst, ◌∙◌}
use Rattle.std.specs.FinMap as tree
use Rattle.object_id.specs.declared.entry.VdiSpec.{VdiSpec}
use Rattle.object_id.specs.declared.node.NodeId.{NodeId}
use Rattle.object_id.specs.declared.oid.Kind.{Kind}
use Rattle.object_id.specs.declared.oid.Kind.TheVariants.{Block}
use Rattle.object_id.specs.Oid.{kind_of, object_number}
use Rattle.object_id.specs.Policy.{wanted_of}
use Rattle.gf256.specs.Part.{index_at, part_size}
use Rattle.cluster_script.specs.declared.statement.Statement.{Statement}
use Rattle.disk_check.specs.Check.{read_copies}
use Rattle.disk_check.specs.Value.{pieces_in, target_bytes, value_of}
use Rattle.peer_proto.specs.declared.say.PeerRsp.{PeerRsp}
use Rattle.peer_proto.specs.declared.work.ObjWork.{ObjWork}
use Rattle.peer_proto.specs.declared.work.ObjWork.TheVariants.{ReadAll}
use Rattle.peer_proto.specs.Work.{oid_of}
use Rattle.message_wire.specs.declared.name.MessageName.{MessageName}
use Rattle.gateway.specs.declared.message.Message.{Message}
use Rattle.gateway.specs.Attempt.{bytes_given, bytes_in, is_done, is_success}
use Rattle.gateway.specs.Messages.{AreMessagesFor, HaveLength}
use Rattle.gateway.specs.Work.{asks_all, is_making}
use Rattle.sheep_node.specs.declared.check_write.CheckWrite.{CheckWrite}
use Rattle.sheep_world.specs.NodeCauses.{ReplyIsHere}
use Rattle.sheep_world.specs.World.{Host}
use Rattle.sheep_world.specs.RunsWithAsks.{Move}
use Rattle.overlap_law.specs.Attempts.{AttemptRecord, object_of}
use Rattle.overlap_law.specs.MomentChanges.{RunsAreInRange, Still}
use Rattle.overlap_law.specs.Packets.{HasPacket}
use Rattle.overlap_law.specs.Past.{MomentWithPast, run_with_past}
use Rattle.overlap_law.proofs.CarriedRows.{good_at}
use Rattle.overlap_law.proofs.CheckReadsComing.{ComesByReply, messages_heard}
use Rattle.overlap_law.proofs.CheckReadsGiven.{given_to_check, heard_sound, index_heard}
use Rattle.overlap_law.proofs.CheckReadsIndexes.{index_asked}
use Rattle.overlap_law.proofs.CheckReadsValue.{each_succeeded, have_succeeded, long_piece, piece_of, pieces_came}
use Rattle.overlap_law.proofs.LastReads.{open_reads-in_run}
use Rattle.overlap_law.proofs.StripReadsHeard.{IsGiven}
use Rattle.overlap_law.proofs.StripReadsThrough.{long_at}
use Rattle.overlap_law.specs.RequestsOfScript.{is_of_client}
use Rattle.overlap_law.specs.Sessions.{is_of_client_at}
use Rattle.sheep_node.specs.declared.course.Request.{Request}
use Rattle.std.specs.Option.{option_map_or}

-- a message gave the part of its place
pub record IsReadPart (moment : MomentWithPast) (spec : VdiSpec) (oid epoch place : ℕ) (m : Message) : Type 0 where
  pub long : length (bytes_in m.status) ≡ target_bytes spec
  pub index_so : m.index ≡ index_at spec.policy (kind_of oid) place
  pub given : 1 ≤ target_bytes spec
      → IsGiven (good_at moment) moment (ReadAll oid spec.policy (2 ^ spec.shift)) epoch m.index (bytes_in m.status)

-- all messages of an open read of all of an object did, behind each attempt on it
pub record IsAllRead (moment : MomentWithPast) (spec : VdiSpec) (oid epoch : ℕ) (heard : List Message) : Type 0 where
  pub count : length heard ≡ wanted_of spec.policy Block
  pub parts : (place : ℕ) (m : Message) → slice_get heard place ≡ Some m → IsReadPart moment spec oid epoch place m
  pub earlier : (k : ℕ) (other : AttemptRecord) → slice_get moment.past.attempts k ≡ Some other → object_of other ≡ oid
      → other.epoch ≤ epoch
  pub flying : (k : ℕ) (other : AttemptRecord) → slice_get moment.past.attempts k ≡ Some other → object_of other ≡ oid → (place : ℕ)
      (node : NodeId) → HasPacket moment.world.wire other place node → other.epoch < epoch

module _ (script : List Statement) (range : RunsAreInRange script) (events : List Move) (start : MomentWithPast)
    (run : run_with_past script events ≡ Some start) (n : ℕ) (host : Host) (there : tree.get start.world.hosts n ≡ Some host)
    (up : host.is_lost ≡ false) (name : MessageName) (from : NodeId) (rsp : PeerRsp) (caused : ReplyIsHere start.world n name from rsp)
    (write : CheckWrite) (comes : ComesByReply write rsp host.node) (index : ℕ)
    (work_so : comes.work.work ≡ read_copies comes.check index)
    (kind_so : kind_of (object_number comes.check.vid index) ≡ Block) where
  abbrev spec : VdiSpec
  spec = comes.check.spec

  abbrev oid : ℕ
  oid = object_number comes.check.vid index

  abbrev epoch : ℕ
  epoch = comes.attempt.epoch.0

  abbrev heard : List Message
  heard = messages_heard rsp comes.attempt

  reads : is_making comes.work.work ≡ false
  reads = ap (λ (w : ObjWork). is_making w) work_so

  -- by a check, which is no client's
  own : is_of_client_at write.req host.node ≡ false
  own = ap (λ (o : Option Request). option_map_or (λ (request : Request). is_of_client request.course) o false) comes.there

  of_read : AreMessagesFor (read_copies comes.check index) (messages_heard rsp comes.attempt)
  of_read =
      subst (λ (w : ObjWork). AreMessagesFor w heard) work_so
      (heard_sound script range events start run n host there up name from rsp caused write comes)

  long : HaveLength (target_bytes comes.check.spec) (messages_heard rsp comes.attempt)
  long = subst (λ (k : Kind). HaveLength (part_size spec.policy k (2 ^ spec.shift)) heard) kind_so of_read.pieces

  count_so : length (messages_heard rsp comes.attempt) ≡ wanted_of comes.check.spec.policy Block
  count_so = of_read.count ∙ ap (wanted_of spec.policy) kind_so

  all : have_succeeded (messages_heard rsp comes.attempt) ≡ true
  all = sym (ap (λ (w : ObjWork). is_done w heard) work_so) ∙ comes.done

  -- the value is that of what they gave
  pub value_read : value_of comes.check.spec.policy
      (pieces_in comes.check.spec (bytes_given comes.work.work (messages_heard rsp comes.attempt)))
      ≡ value_of comes.check.spec.policy (map piece_of (messages_heard rsp comes.attempt))
  value_read =
      ap (λ (w : ObjWork). value_of spec.policy (pieces_in spec (bytes_given w heard))) work_so
      ∙ ap (value_of spec.policy) (pieces_came spec heard long all count_so)

  -- what one of them gave
  module _ (place : ℕ) (m : Message) (at : slice_get (messages_heard rsp comes.attempt) place ≡ Some m) where
    succeeded : is_success m.status ≡ true
    succeeded = each_succeeded heard all place m at

    gave_long : length (bytes_in m.status) ≡ target_bytes comes.check.spec
    gave_long = long_piece (target_bytes spec) m.status succeeded (long_at (target_bytes spec) heard place m long at)

    part_read : IsReadPart start comes.check.spec (object_number comes.check.vid index) comes.attempt.epoch.0 place m
    part_read = record {
      long = gave_long;
      index_so = index_heard script range events start run n host there up name from rsp caused write comes
          (ap (λ (w : ObjWork). asks_all w) work_so) place m at
          ∙ ap (λ (w : ObjWork). index_asked w place) work_so;
      given = λ wide.
          subst (λ (w : ObjWork). IsGiven (good_at start) start w epoch m.index (bytes_in m.status)) work_so
          (given_to_check script range events start run n host there up name from rsp caused write comes reads place m at succeeded
          (let same = gave_long in omega (arith, wide, same)));
    }

  pub all_read : IsAllRead start comes.check.spec (object_number comes.check.vid index) comes.attempt.epoch.0
      (messages_heard rsp comes.attempt)
  all_read = record {
    count = count_so;
    parts = part_read;
    earlier = λ k other at on.
        (open_reads-in_run script range events start start run Still n host there up write.req comes.work comes.attempt comes.got reads
        own comes.stage k other at (on ∙ ap (λ (w : ObjWork). oid_of w) (sym work_so))).epochs;
    flying = λ k other at on place node packet.
        (open_reads-in_run script range events start start run Still n host there up write.req comes.work comes.attempt comes.got reads
        own comes.stage k other at (on ∙ ap (λ (w : ObjWork). oid_of w) (sym work_so))).flying place node packet;
  }
