-- The wire without the replies to a node, and a node that has read nothing.
use Rattle.std.proofs.Common.{◌≡◌, ◌≢◌, ℕ, Bool, true, false, not, cond, List, [], ◌++◌, flat_map, Option, Some, None, refl, sym, ap, ◌∙◌}
use Rattle.std.specs.Ordering.{nat_cmp}
use Rattle.std.specs.FinMap as tree
use Rattle.std.proofs.lemmas.Bool.{ne_eqb}
use Rattle.std.proofs.lemmas.List.{nil_from_length}
use Rattle.object_id.specs.declared.node.NodeId.{NodeId}
use Rattle.gateway.specs.State.{Work}
use Rattle.sheep_node.specs.State as nodes
use Rattle.sheep_node.specs.State.{Node}
use Rattle.message_wire.specs.declared.name.MessageName.{MessageName}
use Rattle.message_wire.specs.declared.packet.Packet.{Packet}
use Rattle.message_wire.specs.declared.packet.Packet.TheVariants.{Request, Reply}
use Rattle.message_wire.specs.Message.{name_cmp, is_reply_to, without_replies}
use Rattle.sheep_world.specs.WireMatch.{asked_by, unanswered_in}
use Rattle.message_wire.proofs.NameOrder.{same_name}

-- what a map has at a key that stays
pub retained : {X : Type 0} (m : tree.FinMap name_cmp X) (stays : MessageName → Bool) (q : MessageName)
    → tree.get (tree.retain_keys m stays) q ≡ cond (stays q) (tree.get m q) None
retained m stays q = tree.get-retain_keys m stays q (λ x tie. ap stays (sym (same_name q x tie)))

-- what a map has after some keys went, it had before
got_retain : {X : Type 0} (m : tree.FinMap name_cmp X) (stays : MessageName → Bool) (q : MessageName) (x : X)
    → tree.get (tree.retain_keys m stays) q ≡ Some x → tree.get m q ≡ Some x
got_retain m stays q x is = by_test (stays q) (sym (retained m stays q) ∙ is)
  where
    by_test : (b : Bool) → cond b (tree.get m q) None ≡ Some x → tree.get m q ≡ Some x
    by_test true got = got
    by_test false got = absurd (cc (got))

-- a node that has read nothing waits for nothing
pub asked_by-opening : (me : NodeId) (tries : ℕ) → asked_by (nodes.initial_node me tries) ≡ []
asked_by-opening me tries = ap
    (λ (works : List (ℕ × Work)). flat_map (λ (entry : ℕ × Work). unanswered_in me entry.1 entry.1.stage) works ++ [])
    (nil_from_length (tree.entries {R = nat_cmp} (tree.empty {X = Work})) (sym (tree.len-entries tree.empty) ∙ tree.len-empty nat_cmp Work))

-- a reply to another node stays
other_stays : (node : ℕ) (name : MessageName) (o : Option Packet) → name.sender.0 ≢ node → not (is_reply_to node name o) ≡ true
other_stays node name None apart = refl
other_stays node name (Some (Request to bytes)) apart = refl
other_stays node name (Some (Reply from bytes)) apart = ap not (ne_eqb name.sender.0 node apart)

pub same_without : (node : ℕ) (wire : tree.FinMap name_cmp Packet) (name : MessageName) → name.sender.0 ≢ node
    → tree.get (without_replies node wire) name ≡ tree.get wire name
same_without node wire name apart =
    retained wire (λ name. not (is_reply_to node name (tree.get wire name))) name
    ∙ ap (λ b. cond b (tree.get wire name) None) (other_stays node name (tree.get wire name) apart)

-- without the replies to a node the wire has nothing new
pub got_before : (node : ℕ) (wire : tree.FinMap name_cmp Packet) (name : MessageName) (packet : Packet) → tree.get (without_replies node wire) name ≡ Some packet
    → tree.get wire name ≡ Some packet
got_before node wire name packet = got_retain wire (λ name. not (is_reply_to node name (tree.get wire name))) name packet
