-- The targets of an epoch are different nodes, so a target's index is that of its one place among them.
use Rattle.std.proofs.Common.{◌≡◌, ◌≢◌, arith, ℕ, zero, suc, ◌+◌, ◌<◌, ◌≤◌, ◌==◌, nat_lt, Bool, not, cond, List, [], ◌∷◌, length, get_or}
use Rattle.std.proofs.Common.{AllPairs, Some, None, slice_get, sym, ap, ◌∙◌}
use Rattle.std.specs.List.{position, position_or_len}
use Rattle.std.specs.Option.{option_map}
use Rattle.std.proofs.lemmas.Bool.{eq-eqb, ne_eqb, lt-ltb}
use Rattle.std.proofs.lemmas.List.{length-map, get_or-map}
use Rattle.std.proofs.lemmas.List.Kept.{AllPairs-from_increasing}
use Rattle.std.proofs.lemmas.Option.{same_Some, get_or_from_slice_get, slice_get_within}
use Rattle.object_id.specs.declared.entry.Entry.{Entry}
use Rattle.object_id.specs.declared.entry.Member.{Member}
use Rattle.object_id.specs.declared.node.NodeId.{NodeId}
use Rattle.object_id.specs.declared.policy.Policy.{Policy}
use Rattle.object_id.specs.Oid.{kind_of}
use Rattle.object_id.specs.Policy.{wanted_of}
use Rattle.epoch_log.specs.Appending.{IsLog}
use Rattle.epoch_log.specs.Epochs.{epoch_of, members_in}
use Rattle.epoch_log.specs.Members.{node_numbers}
use Rattle.epoch_log.proofs.MembersLemmas.{IsLog-members, IsLog-weights}
use Rattle.gf256.specs.Part.{index_at}
use Rattle.hash_ring.specs.Circle.{hash_of_object}
use Rattle.hash_ring.specs.Placement.{AreWeighted}
use Rattle.hash_ring.proofs.TargetLaws.{targets_different}
use Rattle.overlap_law.specs.Each.{index_of_part}
use Rattle.overlap_law.specs.Holders.{targets_by}

-- no two nodes are one
abbrev pub AreDifferent : List NodeId → Type 0
AreDifferent nodes = AllPairs (λ (a b : NodeId). a ≢ b) nodes

-- those behind the first aren't either
pub different_behind : (first : NodeId) (nodes : List NodeId) → AreDifferent (first ∷ nodes) → AreDifferent nodes
different_behind first nodes are i j d before within = are (suc i) (suc j) d (omega (arith, before)) (omega (arith, within))

-- nor is the first one of them
first_apart : (first : NodeId) (nodes : List NodeId) (place : ℕ) (node : NodeId) → AreDifferent (first ∷ nodes)
    → slice_get nodes place ≡ Some node → first ≢ node
first_apart first nodes place node are got same =
    let inside : place < length nodes = slice_get_within nodes place node got in
    are zero (suc place) first (omega arith) (omega (arith, inside)) (same ∙ sym (get_or_from_slice_get nodes place node first got))

first_place : (node : NodeId) (nodes : List NodeId) (place : ℕ) → AreDifferent nodes → slice_get nodes place ≡ Some node
    → position_or_len (λ (other : NodeId). other.0 == node.0) nodes ≡ place
first_place node [] place are got = absurd (cc (got))
first_place node (first ∷ nodes) zero are got =
    ap (λ (b : Bool). cond (not b) (1 + position_or_len (λ (other : NodeId). other.0 == node.0) nodes) 0)
    (eq-eqb first.0 node.0 (ap (λ (k : NodeId). k.0) (same_Some first node got)))
first_place node (first ∷ nodes) (suc place) are got =
    let rest : position_or_len (λ (other : NodeId). other.0 == node.0) nodes ≡ place
    = first_place node nodes place (different_behind first nodes are) got in
    let other : first.0 ≢ node.0 = λ same. first_apart first nodes place node are got (λ i. record { 0 = same i }) in
    let behind : 1 + position_or_len (λ (other : NodeId). other.0 == node.0) nodes ≡ suc place = omega (arith, rest) in
    ap (λ (b : Bool). cond (not b) (1 + position_or_len (λ (other : NodeId). other.0 == node.0) nodes) 0)
    (ne_eqb first.0 node.0 other) ∙ behind

place_of : (node : NodeId) (nodes : List NodeId) (place : ℕ) → AreDifferent nodes → slice_get nodes place ≡ Some node
    → position (λ (other : NodeId). other.0 == node.0) nodes ≡ Some place
place_of node nodes place are got =
    let at = first_place node nodes place are got in
    let inside : place < length nodes = slice_get_within nodes place node got in
    ap (λ (k : ℕ). cond (nat_lt k (length nodes)) (Some k) None) at
    ∙ ap (λ (b : Bool). cond b (Some place) None) (lt-ltb place (length nodes) inside)

-- ---- the targets of an epoch

-- the members of an epoch of a log are different nodes, with weights
weighted : (log : List Entry) (epoch : ℕ) → IsLog log → epoch ≤ epoch_of log → AreWeighted (members_in log epoch)
weighted log epoch is begun =
    let members : List Member = members_in log epoch in
    let up = AllPairs-from_increasing (node_numbers members) (IsLog-members log epoch is begun).0.ascending in
    let long : length (node_numbers members) ≡ length members = length-map members (λ (member : Member). member.node.0) in
    record {
      different = λ i j d before within same.
          let less : get_or (node_numbers members) i d.node.0 < get_or (node_numbers members) j d.node.0
          = up i j d.node.0 before (omega (arith, within, long)) in
          let first : get_or (node_numbers members) i d.node.0 ≡ (get_or members i d).node.0
          = get_or-map (λ (member : Member). member.node.0) members i d d.node.0 (omega (arith, before, within)) in
          let second : get_or (node_numbers members) j d.node.0 ≡ (get_or members j d).node.0
          = get_or-map (λ (member : Member). member.node.0) members j d d.node.0 within in
          omega (arith, less, first, second, same);
      weights = IsLog-weights log epoch is begun;
    }

pub different_targets : (log : List Entry) (epoch oid : ℕ) (policy : Policy) → IsLog log → epoch ≤ epoch_of log
    → AreDifferent (targets_by log epoch oid policy)
unfolding targets_by
different_targets log epoch oid policy is begun =
    targets_different (members_in log epoch) (hash_of_object oid) (wanted_of policy (kind_of oid)) (weighted log epoch is begun)

-- a target has the index of its place
pub index-of_place : (log : List Entry) (epoch oid : ℕ) (policy : Policy) (node : NodeId) (place : ℕ) → IsLog log → epoch ≤ epoch_of log
    → slice_get (targets_by log epoch oid policy) place ≡ Some node
    → index_of_part (targets_by log) epoch oid policy node ≡ Some (index_at policy (kind_of oid) place)
index-of_place log epoch oid policy node place is begun among =
    ap (option_map (index_at policy (kind_of oid)))
    (place_of node (targets_by log epoch oid policy) place (different_targets log epoch oid policy is begun) among)
