-- Where a recovery can find an object at a level, the rows there are of as many different indexes as a read needs: each target of the level
-- that is a member of the recovery's epoch has the row of its own index.
use Rattle.std.proofs.Common.{◌≡◌, ◌≢◌, ⊎_elim, arith, ℕ, zero, suc, ◌+◌, ◌≤◌, ◌<◌, ◌==◌, ◌||◌, nat_lt, not, Bool, true, false, cond, List}
use Rattle.std.proofs.Common.{[], ◌∷◌, ◌++◌, fold, length, filter, filter_map, get_or, Option, Some, None, refl, sym, ap, ◌∙◌, slice_get}
use Rattle.std.specs.List.{find, list_any, position, prefix_len, cons_option}
use Rattle.std.specs.Option.{option_map}
use Rattle.std.specs.FinMap as tree
use Rattle.std.proofs.lemmas.Bool.{eqb-true, eq-eqb, ne_eqb, lt-ltb, or_cases}
use Rattle.std.proofs.lemmas.List.{length-append, length-map, get_or-map}
use Rattle.std.proofs.lemmas.List.Folds.{list_any-append}
use Rattle.std.proofs.lemmas.List.Kept.{AllPairs-from_increasing}
use Rattle.std.proofs.lemmas.Option.{same_Some, slice_get_within, get_or_from_slice_get}
use Rattle.object_id.specs.declared.node.NodeId.{NodeId}
use Rattle.object_id.specs.declared.entry.Entry.{Entry}
use Rattle.object_id.specs.declared.entry.Member.{Member}
use Rattle.object_id.specs.declared.oid.Kind.{Kind}
use Rattle.object_id.specs.declared.oid.Kind.TheVariants.{Block, Inode}
use Rattle.object_id.specs.declared.policy.Policy.{Policy}
use Rattle.object_id.specs.declared.policy.Policy.TheVariants.{Copies, Coded}
use Rattle.object_id.specs.Oid.{kind_of}
use Rattle.object_id.specs.Policy.{wanted_of, need_of}
use Rattle.epoch_log.specs.Members.{is_member, node_numbers}
use Rattle.epoch_log.specs.Epochs.{epoch_of, members_in}
use Rattle.epoch_log.specs.Appending.{IsLog}
use Rattle.epoch_log.proofs.MembersLemmas.{IsLog-members, IsLog-weights}
use Rattle.hash_ring.specs.Circle.{hash_of_object}
use Rattle.hash_ring.specs.Placement.{AreWeighted, targets_of}
use Rattle.hash_ring.proofs.TargetLaws.{targets_different}
use Rattle.gf256.specs.Part.{is_in_strips, index_at}
use Rattle.object_store.specs.Store.{SeenRow, rows_of}
use Rattle.vdi_directory.specs.declared.effect.Effect.{Effect}
use Rattle.sheep_world.specs.World.{Host}
use Rattle.overlap_law.specs.Reached.{Hosts}
use Rattle.overlap_law.specs.Holders.{targets_by}
use Rattle.overlap_law.specs.Each.{row_covers, holds_level, policy_in, index_of_part}
use Rattle.overlap_law.specs.Rows.{RowsAreAtTargets}
use Rattle.overlap_law.specs.Searches.{index_held, with_number, indexes_held}
use Rattle.overlap_law.specs.HeldLevels.{CanBeFoundAt}
use Rattle.overlap_law.proofs.BeyondInMoments.{got-among}

-- ---- different numbers

-- numbers that are all below one
abbrev pub AllBelow : ℕ → List ℕ → Type 0
AllBelow bound numbers = (k : ℕ) → list_any (λ other. other == k) numbers ≡ true → k < bound

-- a number that is new is one more
pub new_number : (numbers : List ℕ) (number : ℕ) → AllBelow number numbers → with_number numbers number ≡ numbers ++ number ∷ []
new_number numbers number below = by_test (list_any (λ other. other == number) numbers) refl
  where
    by_test : (b : Bool) → list_any (λ other. other == number) numbers ≡ b
        → cond b numbers (numbers ++ number ∷ []) ≡ numbers ++ number ∷ []
    by_test true among = let less = below number among in absurd (omega (arith, less))
    by_test false none = refl

pub one_more_below : (numbers : List ℕ) (number : ℕ) → AllBelow number numbers → AllBelow (number + 1) (numbers ++ number ∷ [])
one_more_below numbers number below k among = ⊎_elim
    (λ (old : list_any (λ other. other == k) numbers ≡ true). let less = below k old in omega (arith, less))
    (λ (new : ((number == k) || false) ≡ true). ⊎_elim
    (λ (own : (number == k) ≡ true). let same = eqb-true number k own in omega (arith, same))
    (λ (none : false ≡ true). absurd (cc (none)))
    (or_cases (number == k) false new))
    (or_cases (list_any (λ other. other == k) numbers) ((number == k) || false)
    (sym (list_any-append (λ (other : ℕ). other == k) numbers (number ∷ [])) ∙ among))

-- no number is lost
longer_with : (numbers : List ℕ) (number : ℕ) → length numbers ≤ length (with_number numbers number)
longer_with numbers number = by_test (list_any (λ other. other == number) numbers)
  where
    by_test : (b : Bool) → length numbers ≤ length (cond b numbers (numbers ++ number ∷ []))
    by_test true = omega arith
    by_test false = let sum = length-append numbers (number ∷ []) in omega (arith, sum)

pub longer_fold : (numbers more : List ℕ) → length numbers ≤ length (fold with_number numbers more)
longer_fold numbers [] = omega arith
longer_fold numbers (number ∷ more) =
    let one = longer_with numbers number in
    let rest = longer_fold (with_number numbers number) more in
    omega (arith, one, rest)

-- ---- the indexes of some nodes

module _ (indexes : NodeId → Option ℕ) (member : NodeId → Bool) where
  abbrev pub held : List ℕ → List NodeId → List ℕ
  held numbers nodes = fold with_number numbers (filter_map indexes (filter member nodes))

  -- where each has its place for an index they are as many as the nodes
  count_places : (numbers : List ℕ) (first : ℕ) (nodes : List NodeId) → AllBelow first numbers
      → ((i : ℕ) (node : NodeId) → slice_get nodes i ≡ Some node → member node ≡ true → indexes node ≡ Some (first + i))
      → length numbers + length (filter member nodes) ≤ length (held numbers nodes)
  count_places numbers first [] below placed = omega arith
  count_places numbers first (node ∷ nodes) below placed =
      by_test (member node) refl (λ more below_more. count_places more (first + 1) nodes below_more later)
    where
      later : (i : ℕ) (other : NodeId) → slice_get nodes i ≡ Some other → member other ≡ true → indexes other ≡ Some (first + 1 + i)
      later i other at is =
          let sum : first + suc i ≡ first + 1 + i = omega arith in
          placed (suc i) other at is ∙ ap (λ (k : ℕ). Some k) sum

      by_test : (b : Bool) → member node ≡ b
          → ((more : List ℕ) → AllBelow (first + 1) more → length more + length (filter member nodes) ≤ length (held more nodes))
          → length numbers + length (cond b (node ∷ filter member nodes) (filter member nodes))
          ≤ length (fold with_number numbers (filter_map indexes (cond b (node ∷ filter member nodes) (filter member nodes))))
      by_test true is counts =
          let zero_more : first + 0 ≡ first = omega arith in
          let own : indexes node ≡ Some first = placed zero node refl is ∙ ap (λ (k : ℕ). Some k) zero_more in
          let sum : length (numbers ++ first ∷ []) ≡ length numbers + 1 = length-append numbers (first ∷ []) in
          let rest : length (numbers ++ first ∷ []) + length (filter member nodes) ≤ length (held (numbers ++ first ∷ []) nodes)
          = counts (numbers ++ first ∷ []) (one_more_below numbers first below) in
          let same : length (fold with_number numbers (cons_option (indexes node) (filter_map indexes (filter member nodes))))
          ≡ length (held (numbers ++ first ∷ []) nodes)
          = ap (λ (o : Option ℕ). length (fold with_number numbers (cons_option o (filter_map indexes (filter member nodes))))) own
          ∙ ap (λ (ks : List ℕ). length (fold with_number ks (filter_map indexes (filter member nodes))))
          (new_number numbers first below) in
          omega (arith, sum, rest, same)
      by_test false is counts = counts numbers (λ k among. (let less = below k among in omega (arith, less)))

  -- and where each has one, there is one
  some_index : (nodes : List NodeId) → 1 ≤ length (filter member nodes)
      → ((i : ℕ) (node : NodeId) → slice_get nodes i ≡ Some node → member node ≡ true → (k : ℕ) × (indexes node ≡ Some k))
      → 1 ≤ length (held [] nodes)
  some_index [] some placed = absurd (omega (arith, some))
  some_index (node ∷ nodes) some placed =
      by_test (member node) refl some (λ more. some_index nodes more (λ i other at member_so. placed (suc i) other at member_so))
    where
      by_test : (b : Bool) → member node ≡ b → 1 ≤ length (cond b (node ∷ filter member nodes) (filter member nodes))
          → (1 ≤ length (filter member nodes) → 1 ≤ length (held [] nodes))
          → 1 ≤ length (fold with_number [] (filter_map indexes (cond b (node ∷ filter member nodes) (filter member nodes))))
      by_test true is some_so others =
          let (k, own) = placed zero node refl is in
          let rest : length (k ∷ []) ≤ length (fold with_number (k ∷ []) (filter_map indexes (filter member nodes)))
          = longer_fold (k ∷ []) (filter_map indexes (filter member nodes)) in
          let same : length (fold with_number [] (cons_option (indexes node) (filter_map indexes (filter member nodes))))
          ≡ length (fold with_number (k ∷ []) (filter_map indexes (filter member nodes)))
          = ap (λ (o : Option ℕ). length (fold with_number [] (cons_option o (filter_map indexes (filter member nodes))))) own in
          omega (arith, rest, same)
      by_test false is some_so others = others some_so

-- ---- places of different nodes

-- a list in which no node stands twice
abbrev pub AreApart : List NodeId → Type 0
AreApart nodes = (i k : ℕ) (node other : NodeId) → slice_get nodes i ≡ Some node → slice_get nodes k ≡ Some other → i < k → node.0 ≢ other.0

-- the place of a node is before it none of its number
place_so : (nodes : List NodeId) (i : ℕ) (node : NodeId) → AreApart nodes → slice_get nodes i ≡ Some node
    → prefix_len (λ (target : NodeId). not (target.0 == node.0)) nodes ≡ i
place_so [] i node apart at = absurd (cc (at))
place_so (first ∷ nodes) zero node apart at =
    ap (λ (b : Bool). cond (not b) (1 + prefix_len (λ (target : NodeId). not (target.0 == node.0)) nodes) 0)
    (eq-eqb first.0 node.0 (ap (λ (n : NodeId). n.0) (same_Some first node at)))
place_so (first ∷ nodes) (suc i) node apart at =
    let other : first.0 ≢ node.0 = apart zero (suc i) first node refl at (omega arith) in
    let rest : prefix_len (λ (target : NodeId). not (target.0 == node.0)) nodes ≡ i
    = place_so nodes i node (λ a b one two at_one at_two less. apart (suc a) (suc b) one two at_one at_two (omega (arith, less))) at in
    ap (λ (b : Bool). cond (not b) (1 + prefix_len (λ (target : NodeId). not (target.0 == node.0)) nodes) 0) (ne_eqb first.0 node.0 other)
    ∙ ap (λ (k : ℕ). 1 + k) rest ∙ one_plus i
  where
    one_plus : (k : ℕ) → 1 + k ≡ suc k
    one_plus k = omega arith

pub place_of : (nodes : List NodeId) (i : ℕ) (node : NodeId) → AreApart nodes → slice_get nodes i ≡ Some node
    → position (λ (target : NodeId). target.0 == node.0) nodes ≡ Some i
place_of nodes i node apart at =
    let so : prefix_len (λ (target : NodeId). not (target.0 == node.0)) nodes ≡ i = place_so nodes i node apart at in
    ap (λ (k : ℕ). cond (nat_lt k (length nodes)) (Some k) None) so
    ∙ ap (λ (b : Bool). cond b (Some i) None) (lt-ltb i (length nodes) (slice_get_within nodes i node at))

-- the targets of an epoch are different
weighted_in : (entries : List Entry) (epoch : ℕ) → IsLog entries → epoch ≤ epoch_of entries → AreWeighted (members_in entries epoch)
weighted_in entries epoch log begun =
    let list : List Member = members_in entries epoch in
    let up = AllPairs-from_increasing (node_numbers list) (IsLog-members entries epoch log begun).0.ascending in
    let long : length (node_numbers list) ≡ length list = length-map list (λ (member : Member). member.node.0) in
    record {
      different = λ i j d before within same.
          let less : get_or (node_numbers list) i d.node.0 < get_or (node_numbers list) j d.node.0 = up i j d.node.0 before (omega arith) in
          let first : get_or (node_numbers list) i d.node.0 ≡ (get_or list i d).node.0
          = get_or-map (λ (member : Member). member.node.0) list i d d.node.0 (omega arith) in
          let second : get_or (node_numbers list) j d.node.0 ≡ (get_or list j d).node.0
          = get_or-map (λ (member : Member). member.node.0) list j d d.node.0 within in
          (omega arith);
      weights = IsLog-weights entries epoch log begun;
    }

pub targets_apart_in : (log : List Entry) (epoch oid : ℕ) (policy : Policy) → IsLog log → epoch ≤ epoch_of log
    → AreApart (targets_by log epoch oid policy)
unfolding targets_by
targets_apart_in log epoch oid policy is begun i k node other at_i at_k less same =
    let nodes : List NodeId = targets_of (members_in log epoch) (hash_of_object oid) (wanted_of policy (kind_of oid)) in
    let within = slice_get_within (targets_of (members_in log epoch) (hash_of_object oid) (wanted_of policy (kind_of oid))) k other at_k in
    let different = targets_different (members_in log epoch) (hash_of_object oid) (wanted_of policy (kind_of oid))
    (weighted_in log epoch is begun)
    i k node less within in
    let first : get_or nodes i node ≡ node = get_or_from_slice_get nodes i node node at_i in
    let second : get_or nodes k node ≡ other = get_or_from_slice_get nodes k other node at_k in
    different (first ∙ (λ j. record { 0 = same j }) ∙ sym second)

-- a copy needs one
pub need_of_copy : (policy : Policy) (kind : Kind) → is_in_strips policy kind ≡ false → need_of policy kind ≡ 1
need_of_copy (Copies copies) kind is = refl
need_of_copy (Coded d p) Block is = absurd (cc (is))
need_of_copy (Coded d p) Inode is = refl

-- ---- the row of a target

-- what some row passes is found
pub any_found : (p : SeenRow → Bool) (rows : List SeenRow) → list_any p rows ≡ true
    → (i : ℕ) × (row : SeenRow) × (slice_get rows i ≡ Some row) × (find p rows ≡ Some row) × (p row ≡ true)
any_found p [] any = absurd (cc (any))
any_found p (first ∷ rows) any = by_test (p first) refl any (λ later. any_found p rows later)
  where
    by_test : (b : Bool) → p first ≡ b → (b || list_any p rows) ≡ true
        → (list_any p rows ≡ true → (i : ℕ) × (row : SeenRow) × (slice_get rows i ≡ Some row) × (find p rows ≡ Some row) × (p row ≡ true))
        → (i : ℕ) × (row : SeenRow) × (slice_get (first ∷ rows) i ≡ Some row) × (cond b (Some first) (find p rows) ≡ Some row)
        × (p row ≡ true)
    by_test true is any rest = (zero, first, refl, refl, is)
    by_test false is any rest = let (i, row, at, found, passes) = rest any in (suc i, row, at, found, passes)

module _ (log : List Entry) (effects : List Effect) (hosts : Hosts) (placed : RowsAreAtTargets (targets_by log) effects hosts)
    (oid level : ℕ)
    (policy : Policy) (policy_so : policy_in effects oid ≡ Some policy) where
  -- it is of the target's index
  pub index_of_target : (target : NodeId) → holds_level (tree.get hosts target.0) oid level ≡ true
      → index_held (tree.get hosts target.0) oid level ≡ index_of_part (targets_by log) level oid policy target
  index_of_target target holds = by_host (tree.get hosts target.0) refl holds
    where
      by_host : (o : Option Host) → tree.get hosts target.0 ≡ o → holds_level o oid level ≡ true
          → index_held o oid level ≡ index_of_part (targets_by log) level oid policy target
      by_host None is holds = absurd (cc (holds))
      by_host (Some host) is holds =
          let (i, row, at, found, covers) = any_found (row_covers host.node.peer.epoch level) (rows_of host.node.peer.rows oid) holds in
          ap (option_map (λ (r : SeenRow). r.index)) found ∙ sym (placed.each target.0 host is oid i row at policy level policy_so covers)

  module _ (is_log : IsLog log) (begun : level ≤ epoch_of log) (epoch : ℕ)
      (found : CanBeFoundAt (targets_by log) log hosts oid level epoch policy) where
    abbrev targets : List NodeId
    targets = targets_by log level oid policy

    abbrev in_epoch : NodeId → Bool
    in_epoch node = is_member node.0 (members_in log epoch)

    abbrev index_there : NodeId → Option ℕ
    index_there node = index_held (tree.get hosts node.0) oid level

    -- each target that is a member has the row of its place
    at_place : (i : ℕ) (node : NodeId) → slice_get targets i ≡ Some node → in_epoch node ≡ true
        → index_there node ≡ Some (index_at policy (kind_of oid) i)
    at_place i node at member =
        index_of_target node (found.rows node (got-among targets i node at) member)
        ∙ ap (option_map (index_at policy (kind_of oid))) (place_of targets i node (targets_apart_in log level oid policy is_log begun) at)

    pub enough_indexes : need_of policy (kind_of oid) ≤ length (indexes_held (targets_by log) log hosts oid level epoch policy)
    enough_indexes = by_strips (is_in_strips policy (kind_of oid)) refl
      where
        by_strips : (b : Bool) → is_in_strips policy (kind_of oid) ≡ b
            → need_of policy (kind_of oid) ≤ length (indexes_held (targets_by log) log hosts oid level epoch policy)
        by_strips true strips =
            let enough = found.enough in
            let counted : 0 + length (filter in_epoch targets) ≤ length (held index_there in_epoch [] targets)
            = count_places index_there in_epoch [] 0 targets (λ k among. absurd (cc (among)))
            (λ i node at member.
            let from_zero : i ≡ 0 + i = omega arith in
            at_place i node at member ∙ ap (λ (b : Bool). Some (cond b i 0)) strips ∙ ap (λ (k : ℕ). Some k) from_zero) in
            omega (arith, enough, counted)
        by_strips false copies =
            let enough = found.enough in
            let one = need_of_copy policy (kind_of oid) copies in
            let some : 1 ≤ length (held index_there in_epoch [] targets)
            = some_index index_there in_epoch targets (omega (arith, enough, one))
            (λ i node at member. (index_at policy (kind_of oid) i, at_place i node at member)) in
            omega (arith, one, some)
