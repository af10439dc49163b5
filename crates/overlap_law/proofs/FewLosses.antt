-- Few losses leave enough live holders: targets are different members, so no more of them than of the members don't count, and as many as a
-- read needs are left.
use Rattle.std.proofs.Common.{◌≡◌, ◌≢◌, arith, ℕ, zero, suc, ◌+◌, ◌-◌, ◌≤◌, ◌<◌, max, not, Bool, true, false, cond, List, [], ◌∷◌, length}
use Rattle.std.proofs.Common.{map, filter, Contains, inl, inr, Option, Some, None, refl, sym, ap, subst, ◌∙◌}
use Rattle.std.specs.Prelude.{nat_eq}
use Rattle.std.specs.List.{list_all, range_with_len, AllByRecursion, IsDistinct}
use Rattle.std.specs.Option.{option_map_or}
use Rattle.std.specs.Cmp.{nat_eq_equiv}
use Rattle.std.proofs.lemmas.Bool.{eqb-true, eq-eqb, ne_eqb, and_from, le-leb}
use Rattle.std.proofs.lemmas.List.{length-map}
use Rattle.std.proofs.lemmas.List.Filters.{length-filter_both}
use Rattle.std.proofs.lemmas.Map.Made.{length-le_from_is_member, is_member-Decides}
use Rattle.proof_tools.proofs.Lists.{Contains-nil, Contains-head, Contains-cons, Contains-cons_cases, Contains-map, Contains-filter}
use Rattle.proof_tools.proofs.Lists.{filter-contains}
use Rattle.object_id.specs.declared.node.NodeId.{NodeId}
use Rattle.object_id.specs.declared.entry.Entry.{Entry}
use Rattle.object_id.specs.declared.entry.Member.{Member}
use Rattle.object_id.specs.declared.policy.Policy.{Policy}
use Rattle.object_id.specs.Oid.{kind_of}
use Rattle.object_id.specs.Policy.{wanted_of, need_of}
use Rattle.epoch_log.specs.Appending.{IsLog}
use Rattle.epoch_log.specs.Epochs.{epoch_of, settled_of, members_in}
use Rattle.hash_ring.specs.Circle.{hash_of_object}
use Rattle.hash_ring.specs.Placement.{zone_count}
use Rattle.hash_ring.proofs.TargetLaws.{targets_are_members, length-targets_of}
use Rattle.peer_proto.specs.Work.{policy_of}
use Rattle.overlap_law.specs.Attempts.{AttemptRecord}
use Rattle.overlap_law.specs.FewLosses.{lost_members, LossesAreFew, LossesStayFew}
use Rattle.overlap_law.specs.Holders.{targets_by, first_create, is_kept_in, is_available_since, is_available}
use Rattle.overlap_law.proofs.DistinctTargets.{AreDifferent, different_behind, different_targets}

-- the number of a node
abbrev number : NodeId → ℕ
number node = node.0

-- ---- different nodes have different numbers, also those that pass a test

others : (p : NodeId → Bool) (first : NodeId) (nodes : List NodeId) → ((node : NodeId) → Contains nodes node → first ≢ node)
    → AllByRecursion (λ y. nat_eq first.0 y ≡ false) (map number (filter p nodes))
others p first [] apart = tt
others p first (node ∷ nodes) apart =
    by_test (p node) (others p first nodes (λ other there. apart other (Contains-cons node nodes other there)))
  where
    by_test : (b : Bool) → AllByRecursion (λ y. nat_eq first.0 y ≡ false) (map number (filter p nodes))
        → AllByRecursion (λ y. nat_eq first.0 y ≡ false) (map number (cond b (node ∷ filter p nodes) (filter p nodes)))
    by_test true rest =
        (ne_eqb first.0 node.0 (λ same. apart node (Contains-head node nodes) (λ i. record { 0 = same i })), rest)
    by_test false rest = rest

distinct_passing : (p : NodeId → Bool) (nodes : List NodeId) → AreDifferent nodes → IsDistinct nat_eq (map number (filter p nodes))
unfolding IsDistinct
distinct_passing p [] are = tt
distinct_passing p (first ∷ nodes) are = by_test (p first) (distinct_passing p nodes (different_behind first nodes are))
  where
    apart : (node : NodeId) → Contains nodes node → first ≢ node
    apart node there same =
        are zero (suc there.0) node (omega arith) (let within = there.1 in omega (arith, within)) (same ∙ sym there.2)

    by_test : (b : Bool) → IsDistinct nat_eq (map number (filter p nodes))
        → IsDistinct nat_eq (map number (cond b (first ∷ filter p nodes) (filter p nodes)))
    by_test true rest = (others p first nodes apart, rest)
    by_test false rest = rest

node_of_number : (nodes : List NodeId) (n : ℕ) → Contains (map number nodes) n → (node : NodeId) × Contains nodes node × (node.0 ≡ n)
node_of_number [] n there = absurd (Contains-nil n there)
node_of_number (first ∷ nodes) n there = elim (Contains-cons_cases first.0 (map number nodes) n there) [
  | inl same ↦ (first, Contains-head first nodes, same)
  | inr behind ↦ (let (node, among, is) = node_of_number nodes n behind in (node, Contains-cons first nodes node among, is))
]

same_number : (a b : ℕ) → (nat_eq a b ≡ true → a ≡ b) × (a ≡ b → nat_eq a b ≡ true)
same_number a b = (eqb-true a b, eq-eqb a b)

-- ---- the targets of an epoch

module _ (counts : NodeId → ℕ → Bool) (log : List Entry) (oid : ℕ) (policy : Policy) (epoch : ℕ) (is : IsLog log)
    (begun : epoch ≤ epoch_of log) where
  abbrev targets : List NodeId
  targets = targets_by log epoch oid policy

  abbrev is_counted : NodeId → Bool
  is_counted node = counts node epoch

  abbrev is_lost : NodeId → Bool
  is_lost node = not (counts node epoch)

  abbrev member_number : Member → ℕ
  member_number member = member.node.0

  -- a target that doesn't count is a lost member
  lost_member : (node : NodeId) → Contains (filter is_lost targets) node
      → Contains (map member_number (lost_members counts log epoch)) node.0
  unfolding targets_by
  lost_member node there =
      let (among, lost) = filter-contains is_lost targets node there in
      let (place, member, within, at, same) = targets_are_members (members_in log epoch) (hash_of_object oid)
      (wanted_of policy (kind_of oid)) node among in
      let stands : Contains (lost_members counts log epoch) member
      = Contains-filter (λ (m : Member). not (counts m.node epoch)) (members_in log epoch) member (place, within, at)
      (ap is_lost same ∙ lost) in
      subst (λ (k : ℕ). Contains (map member_number (lost_members counts log epoch)) k) (ap number same)
      (Contains-map member_number (lost_members counts log epoch) member stands)

  few_targets : length (filter is_lost targets) ≤ length (lost_members counts log epoch)
  few_targets =
      let ours = map number (filter is_lost targets) in
      let theirs = map member_number (lost_members counts log epoch) in
      let most : length ours ≤ length theirs
      = length-le_from_is_member nat_eq_equiv ours theirs
      (distinct_passing is_lost targets (different_targets log epoch oid policy is begun))
      (λ n member.
      let (node, there, same) = node_of_number (filter is_lost targets) n ((is_member-Decides same_number ours n).0 member) in
      (is_member-Decides same_number theirs n).1 (subst (λ (k : ℕ). Contains theirs k) same (lost_member node there))) in
      let left : length ours ≡ length (filter is_lost targets) = length-map (filter is_lost targets) number in
      let right : length theirs ≡ length (lost_members counts log epoch) = length-map (lost_members counts log epoch) member_number in
      omega (arith, most, left, right)

  all_wanted : wanted_of policy (kind_of oid) ≤ zone_count (members_in log epoch) → length targets ≡ wanted_of policy (kind_of oid)
  unfolding targets_by
  all_wanted zones =
      let count = length-targets_of (members_in log epoch) (hash_of_object oid) (wanted_of policy (kind_of oid)) in
      omega (arith, count, zones)

  pub kept_by_few : LossesAreFew counts log oid policy epoch → is_kept_in counts log oid policy epoch ≡ true
  kept_by_few losses =
      let both : length (filter is_counted targets) + length (filter is_lost targets) ≡ length targets
      = length-filter_both is_counted is_lost (λ node. refl) targets in
      let all = all_wanted losses.zones in
      let few = losses.few in
      let most = few_targets in
      le-leb (need_of policy (kind_of oid)) (length (filter is_counted targets)) (omega (arith, both, all, few, most))

-- what holds of each number of a range
each_in_range : (p : ℕ → Bool) (start count : ℕ) → ((k : ℕ) → start ≤ k → k < start + count → p k ≡ true)
    → list_all p (range_with_len start count) ≡ true
each_in_range p start zero each = refl
each_in_range p start (suc count) each =
    and_from (p start) (list_all p (range_with_len (start + 1) count)) (each start (omega arith) (omega arith))
    (each_in_range p (start + 1) count (λ k from below. each k (omega (arith, from)) (omega (arith, below))))

pub available_by_few : (counts : NodeId → ℕ → Bool) (log : List Entry) (attempts : List AttemptRecord) (oid : ℕ) → IsLog log
    → LossesStayFew counts log attempts oid → is_available counts log attempts oid ≡ true
unfolding is_available
available_by_few counts log attempts oid is few = by_first (first_create oid attempts) refl
  where
    by_first : (o : Option AttemptRecord) → first_create oid attempts ≡ o
        → option_map_or (λ (create : AttemptRecord). is_available_since counts log oid (policy_of create.work) create.epoch) o true ≡ true
    by_first None none = refl
    by_first (Some create) found =
        let first = max create.epoch (settled_of log) in
        each_in_range (is_kept_in counts log oid (policy_of create.work)) first (epoch_of log + 1 - first)
        (λ epoch from below.
        let begun : epoch ≤ epoch_of log = omega (arith, from, below) in
        kept_by_few counts log oid (policy_of create.work) epoch is begun (few create found epoch from begun))
