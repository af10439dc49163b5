-- Cases that are worked out by computing: an object of 1,024 bytes with two copies, of which three attempts are made or tried.
use Rattle.std.proofs.Common.{◌≡◌, ℕ, ◌+◌, ◌^◌, ◌==◌, true, false, List, [], ◌∷◌, replicate, Some, None, refl}
use Rattle.object_id.specs.declared.node.NodeId.{NodeId}
use Rattle.object_id.specs.declared.entry.Entry.TheVariants.{Format}
use Rattle.object_id.specs.declared.oid.Kind.TheVariants.{Block, Inode}
use Rattle.object_id.specs.declared.policy.Policy.TheVariants.{Copies}
use Rattle.disk_history.specs.declared.event.HistEvent.TheVariants as acts
use Rattle.vdi_directory.specs.Chains.{chain_of, is_above}
use Rattle.vdi_directory.specs.Decisions.{log_effects}
use Rattle.peer_proto.specs.declared.work.ObjWork.{ObjWork}
use Rattle.peer_proto.specs.declared.work.ObjWork.TheVariants.{Create, Write}
use Rattle.peer_proto.specs.declared.say.PeerSay.TheVariants as says
use Rattle.peer_proto.specs.declared.say.Refusal.TheVariants as refusals
use Rattle.cluster_script.specs.declared.statement.Statement.{Statement}
use Rattle.sheep_node.specs.declared.event.Event.TheVariants.{LoseRequest}
use Rattle.sheep_world.specs.World.{Host, World}
use Rattle.overlap_law.specs.Attempts.{MessageFate, Flying, Served, Doomed, AttemptRecord, attempts_with_fate, fate_of_say}
use Rattle.overlap_law.specs.BegunAttempts.{attempts_begun, attempts_after}
use Rattle.overlap_law.specs.Reached.{has_come_in}
use Rattle.overlap_law.specs.PastWords.{is_counted}
use Rattle.overlap_law.specs.Words.{is_made, is_mute, covers_unit, unit_start, unit_size, unit_of, base_of, own_base_of, later_on, is_quiet}
use Rattle.overlap_law.specs.Words.{has_served}
use Rattle.overlap_law.specs.Holders.{has_enough, is_available_since, birth_of, is_available_disk, born_objects}

abbrev node : ℕ → NodeId
node n = record { 0 = n }

-- object 0 of disk 1
abbrev object : ℕ
object = 2 ^ 32

-- an attempt of node 3 on the object, to nodes 4 and 7
abbrev attempt : ObjWork → ℕ → ℕ → MessageFate → MessageFate → AttemptRecord
attempt work epoch first four seven = record {
  req = 1;
  session = 1;
  gateway = node 3;
  incarnation = 1;
  work = work;
  epoch = epoch;
  first = first;
  targets = node 4 ∷ node 7 ∷ [];
  fates = four ∷ seven ∷ [];
}

-- the object is created, its second block is written, and then its first one
abbrev created : AttemptRecord
created = attempt (Create object (Copies 2) 1024 0 []) 1 10 Served Served

abbrev written : MessageFate → MessageFate → AttemptRecord
written four seven = attempt (Write object (Copies 2) 512 (replicate 512 1)) 1 20 four seven

abbrev tried : AttemptRecord
tried = attempt (Write object (Copies 2) 0 (replicate 512 2)) 2 30 Flying Doomed

abbrev all : List AttemptRecord
all = created ∷ written Served Served ∷ tried ∷ []

-- an attempt flies until both targets have served it
one_served_isn't_made : is_made (written Served Flying) ≡ false
one_served_isn't_made = refl

both_served_is_made : is_made (written Served Served) ≡ true
both_served_is_made = refl

none_served_is_mute : is_mute tried ≡ true
none_served_is_mute = refl

-- message 21 of node 3 is the one to node 7
a_message_is_found_by_its_number :
    attempts_with_fate Served (node 3) 21 (created ∷ written Served Flying ∷ tried ∷ []) ≡ created ∷ written Served Served ∷ tried ∷ []
unfolding attempts_with_fate
a_message_is_found_by_its_number = refl

-- what is known of a message stays
a_fate_stays : attempts_with_fate Doomed (node 3) 20 all ≡ all
unfolding attempts_with_fate
a_fate_stays = refl

another_sender's_number : attempts_with_fate Served (node 4) 30 all ≡ all
unfolding attempts_with_fate
another_sender's_number = refl

-- an attempt whose request to node 4 is lost isn't made any more; what the node then begins stands behind it
a_lost_request_dooms : (script : List Statement) (old new : World)
    → attempts_after script (LoseRequest (node 3) 20) old new (written Flying Flying ∷ []) ≡ written Doomed Flying
    ∷ attempts_begun 3 old new
unfolding attempts_after attempts_with_fate
a_lost_request_dooms script old new = refl

-- only Success says that the target has served it
what_answers_tell : (fate_of_say says.Success ≡ Served) × (fate_of_say says.NoRow ≡ Doomed)
    × (fate_of_say (says.Refused refusals.Recovery) ≡ Doomed)
what_answers_tell = (refl, refl, refl)

-- whoever is lost is beyond each epoch
the_lost_are_beyond : (epoch : ℕ) (host : Host) → has_come_in epoch (record host { is_lost = true }) ≡ true
the_lost_are_beyond epoch host = refl

-- of two targets of which one counts there is enough for a copy, and not for two strips
one_of_two : (has_enough (λ target epoch. target.0 == 4) 1 (node 4 ∷ node 7 ∷ []) 1 ≡ true)
    × (has_enough (λ target epoch. target.0 == 4) 2 (node 4 ∷ node 7 ∷ []) 1 ≡ false)
one_of_two = (refl, refl)

-- in epoch 1 no holders are asked of an object that is born with epoch 2
before_the_birth : is_available_since (λ target epoch. false) (Format [] ∷ []) object (Copies 2) 2 ≡ true
before_the_birth = refl

-- a read of disk 1 is left out where its object wasn't available, and one of disk 2 is not
which_reads_are_left_out : (is_counted [] (object ∷ []) (acts.Read 1 0 []) ≡ false)
    × (is_counted [] (object ∷ []) (acts.Read 2 0 []) ≡ true)
unfolding is_available_disk log_effects is_above chain_of
which_reads_are_left_out = (refl, refl)

node_4_served_the_write : has_served (node 4) (written Served Flying) ≡ true
node_4_served_the_write = refl

node_7_didn't : has_served (node 7) (written Served Flying) ≡ false
node_7_didn't = refl

-- the create covers both blocks and no third one, each write one
what_a_create_covers : (covers_unit 0 created ≡ true) × (covers_unit 1 created ≡ true) × (covers_unit 2 created ≡ false)
what_a_create_covers = (refl, refl, refl)

what_a_write_covers : (covers_unit 0 (written Served Served) ≡ false) × (covers_unit 1 (written Served Served) ≡ true)
what_a_write_covers = (refl, refl)

-- the base is the write that is made; the first block's own base is the create
the_base : base_of all ≡ Some (written Served Served)
the_base = refl

own_bases : (own_base_of 0 all ≡ Some created) × (own_base_of 1 all ≡ Some (written Served Served))
own_bases = (refl, refl)

-- the first block isn't quiet, since a write of it was tried; the second one is
what_is_quiet : (is_quiet 0 all ≡ false) × (is_quiet 1 all ≡ true)
what_is_quiet = (refl, refl)

later_attempts : later_on 0 all ≡ tried ∷ []
later_attempts = refl

-- an object is born with its first create
the_birth : (birth_of object all ≡ Some 1) × (birth_of (object + 1) all ≡ None)
the_birth = (refl, refl)

who_is_born : born_objects all ≡ object ∷ []
who_is_born = refl

-- the table's entry 2 has the four bytes from 4,672 on
an_entry : (unit_start Inode (4664 + 2) ≡ 4672) × (unit_size Inode (4664 + 2) ≡ 4) × (unit_of Inode 4675 ≡ 4664 + 2)
an_entry = (refl, refl, refl)

a_byte_of_the_header : (unit_start Inode 300 ≡ 300) × (unit_size Inode 300 ≡ 1) × (unit_of Inode 300 ≡ 300)
a_byte_of_the_header = (refl, refl, refl)

a_block : (unit_start Block 3 ≡ 1536) × (unit_of Block 2047 ≡ 3)
a_block = (refl, refl)
