-- Cases that are worked out by computing.
use Rattle.std.proofs.Common.{◌≡◌, ℕ, ◌+◌, ◌^◌, true, false, List, [], ◌∷◌, Some, cond, refl, ap}
use Rattle.std.specs.Ordering.{nat_cmp}
use Rattle.std.specs.FinSet.{contains-empty}
use Rattle.object_id.specs.declared.cause.Cause.TheVariants as causes
use Rattle.object_id.specs.declared.entry.Member.{Member}
use Rattle.object_id.specs.declared.node.Epoch.{Epoch}
use Rattle.object_id.specs.declared.node.NodeId.{NodeId}
use Rattle.object_id.specs.declared.policy.Policy.TheVariants.{Copies, Coded}
use Rattle.hash_ring.specs.Placement.{zone_count}
use Rattle.vnode_table.specs.Epochs.{EpochMembers, members_at}
use Rattle.peer_proto.specs.declared.say.Refusal.TheVariants as refusals
use Rattle.peer_proto.specs.declared.work.ObjWork.{ObjWork}
use Rattle.peer_proto.specs.declared.work.ObjWork.TheVariants.{Create, Write, Read, ReadAll}
use Rattle.gateway.specs.declared.act.Act.TheVariants as acts
use Rattle.gateway.specs.declared.message.Message.{Message}
use Rattle.gateway.specs.declared.message.Status.{Status}
use Rattle.gateway.specs.declared.message.Status.TheVariants.{Unanswered, Succeeded, Refused, Lost}
use Rattle.peer_proto.specs.declared.ask.PeerAsk.TheVariants as asks
use Rattle.gf256.specs.Part.{bytes_of_parts}
use Rattle.gateway.specs.Work.{targets_asked, ask_for}
use Rattle.gateway.specs.Attempt.{is_over, is_done, bytes_given, first_failure}
use Rattle.gateway.specs.State.{Ended, WaitsForMembers, Work, initial_gateway}
use Rattle.gateway.specs.Step.{attempt_step, refusal_step, waiting_step, with_work}

abbrev node : ℕ → NodeId
node n = record { 0 = n }

abbrev epoch : ℕ → Epoch
epoch n = record { 0 = n }

abbrev three : List NodeId
three = node 4 ∷ node 7 ∷ node 2 ∷ []

-- object 0 of disk 1, and its inode
abbrev object : ℕ
object = 2 ^ 32

abbrev inode : ℕ
inode = 2 ^ 63 + 2 ^ 32

abbrev message : ℕ → Status → Message
message number status = record { number = number; node = node number; index = 0; status = status }

abbrev write : ObjWork
write = Write object (Copies 3) 0 []

-- whole reads ask the targets in turn: the first attempt the first one, the fifth of three the second
whole_reads_go_round : targets_asked (Read object (Copies 3) 0 512) 0 three ≡ (0, node 4) ∷ []
whole_reads_go_round = refl

and_round : targets_asked (Read object (Copies 3) 0 512) 4 three ≡ (1, node 7) ∷ []
and_round = refl

-- the inode of a coded disk is kept whole, its data in strips
inodes_are_whole : targets_asked (Read inode (Coded 2 2) 0 512) 1 three ≡ (1, node 7) ∷ []
inodes_are_whole = refl

strips_are_read_everywhere : targets_asked (Read object (Coded 2 1) 0 512) 1 three ≡ (0, node 4) ∷ (1, node 7) ∷ (2, node 2) ∷ []
strips_are_read_everywhere = refl

writes_go_everywhere : targets_asked write 1 three ≡ (0, node 4) ∷ (1, node 7) ∷ (2, node 2) ∷ []
writes_go_everywhere = refl

-- an attempt isn't over while a message is unanswered
not_over : is_over (message 1 (Succeeded []) ∷ message 2 Unanswered ∷ message 3 Lost ∷ []) ≡ false
not_over = refl

-- all but one is not enough for a write, and for a read of strips d are
one_short : is_done write (message 1 (Succeeded []) ∷ message 2 Lost ∷ message 3 (Succeeded []) ∷ []) ≡ false
one_short = refl

two_strips : is_done (Read object (Coded 2 1) 0 512) (message 1 Lost ∷ message 2 (Succeeded []) ∷ message 3 (Succeeded []) ∷ []) ≡ true
two_strips = refl

-- a read of all parts asks every target for its part, wants all of them, and gives their pieces in order
all_parts_are_read_everywhere : targets_asked (ReadAll object (Copies 3) 512) 1 three ≡ (0, node 4) ∷ (1, node 7) ∷ (2, node 2) ∷ []
all_parts_are_read_everywhere = refl

half_of_each_block : ask_for (ReadAll object (Coded 2 1) 1024) 2 ≡ asks.Read (record { oid = object; index = 2 }) 0 512
half_of_each_block = refl

one_piece_short : is_done (ReadAll object (Coded 2 1) 512) (message 1 Lost ∷ message 2 (Succeeded []) ∷ message 3 (Succeeded []) ∷ []) ≡ false
one_piece_short = refl

two_pieces : bytes_given (ReadAll object (Copies 2) 2) (message 1 (Succeeded (1 ∷ 2 ∷ [])) ∷ message 2 (Succeeded (1 ∷ 3 ∷ [])) ∷ []) ≡ 1 ∷ 2 ∷ 1 ∷ 3 ∷ []
two_pieces = refl

-- a read gives what the first message that succeeded gave, not what the first one did
the_first_that_came : bytes_given (Read object (Copies 2) 0 512) (message 1 Lost ∷ message 2 (Succeeded (7 ∷ [])) ∷ []) ≡ 7 ∷ []
unfolding bytes_of_parts
the_first_that_came = refl

-- a target of strips is asked for its part: of 2,048 bytes from 1,024 on, half from 512 on
half_is_asked : ask_for (Read object (Coded 2 1) 1024 2048) 1 ≡ asks.Read (record { oid = object; index = 1 }) 512 1024
half_is_asked = refl

-- the cause is that of the first message that didn't succeed
first_of_three : first_failure write (epoch 5)
    (message 1 (Succeeded []) ∷ message 2 (Refused (refusals.NewEpoch (epoch 4))) ∷ message 3 Lost ∷ [])
    ≡ Some (causes.NewEpoch (node 2) (epoch 5) (epoch 4))
first_of_three = refl

a_lost_link : first_failure write (epoch 5) (message 1 Lost ∷ message 2 (Refused refusals.NoObj) ∷ []) ≡ Some (causes.Link (node 1))
a_lost_link = refl

-- four nodes, of which three stand in one zone, are too few for three copies, and enough for two
abbrev member : ℕ → ℕ → Member
member n zone = record { node = node n; zone = zone; vnodes = 64 }

abbrev four : List EpochMembers
four = record { epoch = 1; members = member 0 9 ∷ member 1 9 ∷ member 2 9 ∷ member 3 3 ∷ [] } ∷ []

two_zones : zone_count (members_at four 1) ≡ 2
unfolding zone_count
two_zones = refl

abbrev create : ℕ → Work
create copies = record { work = Create inode (Copies copies) 4198968 0 []; ended = 0; stage = Ended }

too_few_zones : (attempt_step four (initial_gateway (node 0) 4) 1 (create 3) 0 (epoch 1)).act ≡ acts.Refused (create 3).work 1 (causes.Halt 2 3)
unfolding attempt_step zone_count
too_few_zones =
    ap (λ touched. (cond touched
    (waiting_step (with_work 1 (record (create 3) { stage = WaitsForMembers (epoch 1) }) (initial_gateway (node 0) 4)))
    (refusal_step (initial_gateway (node 0) 4) 1 (create 3).work (causes.Halt 2 3))).act)
    (contains-empty nat_cmp 1)
