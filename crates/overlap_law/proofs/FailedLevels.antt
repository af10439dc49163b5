-- At a level that ended with too few rows, of which each node that was asked has told what is so, there are rows of fewer indexes than a
-- read needs, at the targets that are members of the recovery's epoch.
use Rattle.std.proofs.Common.{◌≡◌, ⊎_elim, arith, ℕ, zero, suc, ◌+◌, ◌≤◌, ◌<◌, ◌==◌, ◌&&◌, ◌||◌, nat_le, nat_lt, Bool, true, false, cond}
use Rattle.std.proofs.Common.{List, [], ◌∷◌, ◌++◌, fold, length, filter, filter_map, Contains, Option, Some, None, is_some, refl, sym, ap}
use Rattle.std.proofs.Common.{◌∙◌, slice_get}
use Rattle.std.specs.List.{AllByRecursion, find, list_any, cons_option}
use Rattle.std.specs.Option.{option_map}
use Rattle.std.specs.FinMap as tree
use Rattle.std.proofs.lemmas.Bool.{and_parts, eq-eqb, eqb-true, le-leb, leb-false, lt-ltb, le-ltb, ne_eqb, or_cases}
use Rattle.std.proofs.lemmas.List.{length-append}
use Rattle.std.proofs.lemmas.Option.{same_Some}
use Rattle.proof_tools.proofs.Lists.{Contains-head, Contains-cons}
use Rattle.object_id.specs.declared.node.NodeId.{NodeId}
use Rattle.object_id.specs.declared.node.Epoch.{Epoch}
use Rattle.object_id.specs.declared.entry.Entry.{Entry}
use Rattle.object_id.specs.declared.entry.VdiSpec.{VdiSpec}
use Rattle.object_id.specs.declared.oid.Kind.{Kind}
use Rattle.object_id.specs.declared.oid.Kind.TheVariants.{Block, Inode}
use Rattle.object_id.specs.declared.policy.Policy.{Policy}
use Rattle.object_id.specs.declared.policy.Policy.TheVariants.{Copies, Coded}
use Rattle.object_id.specs.Oid.{kind_of}
use Rattle.object_id.specs.Policy.{need_of, wanted_of}
use Rattle.epoch_log.specs.Members.{is_member}
use Rattle.epoch_log.specs.Epochs.{epoch_of, members_in}
use Rattle.epoch_log.specs.Appending.{IsLog}
use Rattle.object_list.specs.Gathered.{is_same_node, has_node}
use Rattle.object_store.specs.declared.row.RowCopy.{RowCopy}
use Rattle.object_store.specs.Rows.{reaches, holds, row_holding}
use Rattle.object_store.specs.Store.{SeenRow, rows_of, copy_of}
use Rattle.object_store.proofs.CopyLaws.{row_at-none}
use Rattle.gf256.specs.Part.{index_at}
use Rattle.vdi_directory.specs.Decisions.{log_effects}
use Rattle.peer_service.specs.State.{spec_of, row_size}
use Rattle.recovery.specs.declared.search.RowAnswer.{RowAnswer}
use Rattle.recovery.specs.Level.{answered_row, row_of_target, put_by_index, rows_in_order, are_enough}
use Rattle.recovery.specs.Shown.{is_asked_row, fitting, own_row}
use Rattle.sheep_node.specs.RecoveryView.{shown_node}
use Rattle.sheep_node.specs.State.{Node}
use Rattle.sheep_world.specs.World.{Host}
use Rattle.overlap_law.specs.Each.{row_covers, end_of_row, has_row_at, holds_level, policy_in, index_of_part}
use Rattle.overlap_law.specs.Holders.{targets_by}
use Rattle.overlap_law.specs.Rows.{RowsAreAtTargets}
use Rattle.overlap_law.specs.Searches.{has_kept_answer, index_held, indexes_held}
use Rattle.overlap_law.specs.Words.{Hosts}
use Rattle.overlap_law.proofs.BeyondInMoments.{got-among}
use Rattle.overlap_law.proofs.IndexesHeld.{place_of, targets_apart_in}
use Rattle.overlap_law.proofs.PassedStays.{no_more_fold}
use Rattle.overlap_law.proofs.SpelledReplies.{held_among}

-- ---- the node's own row of a level

-- what covers a level holds it
covers_holds : (epoch level : ℕ) (row : SeenRow) → row_covers epoch level row ≡ true → holds level row ≡ true
covers_holds epoch level row covers = by_end row.to covers
  where
    by_end : (to : Option Epoch) → (nat_le row.from.0 level && nat_le level (end_of_row epoch to)) ≡ true
        → (nat_le row.from.0 level && reaches level to) ≡ true
    by_end None covers = ap (λ (b : Bool). b && true) (and_parts (nat_le row.from.0 level) (nat_le level epoch) covers).0
    by_end (Some last) covers = covers

holds_covers : (epoch level : ℕ) (row : SeenRow) → level ≤ epoch → holds level row ≡ true → row_covers epoch level row ≡ true
holds_covers epoch level row within is = by_end row.to is
  where
    by_end : (to : Option Epoch) → (nat_le row.from.0 level && reaches level to) ≡ true
        → (nat_le row.from.0 level && nat_le level (end_of_row epoch to)) ≡ true
    by_end None is =
        ap (λ (b : Bool). b && nat_le level epoch) (and_parts (nat_le row.from.0 level) true is).0 ∙ le-leb level epoch within
    by_end (Some last) is = is

none_holds : (epoch level : ℕ) (rows : List SeenRow) → AllByRecursion (λ row. holds level row ≡ false) rows
    → list_any (row_covers epoch level) rows ≡ true → ⊥
none_holds epoch level [] none any = cc (any)
none_holds epoch level (row ∷ rows) none any = ⊎_elim
    (λ (here : row_covers epoch level row ≡ true).
    (let is = covers_holds epoch level row here in let no = none.0 in cc (is, no)))
    (λ (later : list_any (row_covers epoch level) rows ≡ true). none_holds epoch level rows none.1 later)
    (or_cases (row_covers epoch level row) (list_any (row_covers epoch level) rows) any)

-- the rows of a node's object are as those of its object
abbrev pub RowsFit : Node → ℕ → Policy → VdiSpec → Type 0
RowsFit node oid policy spec = (i : ℕ) (row : SeenRow) → slice_get (rows_of node.peer.rows oid) i ≡ Some row
    → (row.index < wanted_of policy (kind_of oid)) × (length row.bytes ≡ row_size (kind_of oid) spec)

module _ (node : Node) (oid level : ℕ) (spec : VdiSpec) (known : spec_of node.peer oid ≡ Some spec) where
  abbrev found : Option SeenRow
  found = row_holding level (rows_of node.peer.rows oid)

  own_by : (o : Option SeenRow) → Option RowCopy
  own_by o = fitting level (Some spec.policy) (Some (row_size (kind_of oid) spec)) oid (option_map copy_of o)

  own_so : own_row (shown_node node) oid level ≡ fitting level (Some spec.policy) (Some (row_size (kind_of oid) spec)) oid
      (option_map copy_of found)
  own_so = ap (λ (o : Option VdiSpec). fitting level (option_map (λ (s : VdiSpec). s.policy) o) (option_map (row_size (kind_of oid)) o) oid
      (option_map copy_of found)) known

  -- a row that covers the level is found
  pub own_there : RowsFit node oid spec.policy spec → has_row_at node.peer.epoch node.peer.rows oid level ≡ true
      → is_some (own_row (shown_node node) oid level) ≡ true
  own_there fit covers = ap (λ (o : Option RowCopy). is_some o) own_so ∙ by_found found refl
    where
      by_found : (o : Option SeenRow) → row_holding level (rows_of node.peer.rows oid) ≡ o
          → is_some (fitting level (Some spec.policy) (Some (row_size (kind_of oid) spec)) oid (option_map copy_of o)) ≡ true
      by_found None is =
          absurd (none_holds node.peer.epoch level (rows_of node.peer.rows oid) (row_at-none level (rows_of node.peer.rows oid) is) covers)
      by_found (Some row) is =
          let (place, got, held) = held_among node.peer.rows oid level row is in
          let (index, long) = fit place row got in
          ap (λ (b : Bool). is_some (cond b (Some (copy_of row)) None)) (asked row held index long)
        where
          asked : (row : SeenRow) → holds level row ≡ true → row.index < wanted_of spec.policy (kind_of oid)
              → length row.bytes ≡ row_size (kind_of oid) spec
              → is_asked_row level (wanted_of spec.policy (kind_of oid)) (Some (row_size (kind_of oid) spec)) (copy_of row) ≡ true
          asked row held index long =
              ap (λ (b : Bool). b && nat_lt row.index (wanted_of spec.policy (kind_of oid)) && length row.bytes == row_size
              (kind_of oid) spec) held
              ∙ ap (λ (b : Bool). b && length row.bytes == row_size (kind_of oid) spec)
              (lt-ltb row.index (wanted_of spec.policy (kind_of oid)) index)
              ∙ eq-eqb (length row.bytes) (row_size (kind_of oid) spec) long

  -- what is found is the copy of a row that holds the level
  pub own_of : (row : RowCopy) → own_row (shown_node node) oid level ≡ Some row
      → (i : ℕ) × (seen : SeenRow) × (slice_get (rows_of node.peer.rows oid) i ≡ Some seen) × (holds level seen ≡ true)
      × (seen.index ≡ row.index)
  own_of row is = by_found found refl (sym own_so ∙ is)
    where
      by_test : (seen : SeenRow) → row_holding level (rows_of node.peer.rows oid) ≡ Some seen → (b : Bool)
          → cond b (Some (copy_of seen)) None ≡ Some row
          → (i : ℕ) × (other : SeenRow) × (slice_get (rows_of node.peer.rows oid) i ≡ Some other) × (holds level other ≡ true)
          × (other.index ≡ row.index)
      by_test seen at true is =
          let (place, got, held) = held_among node.peer.rows oid level seen at in
          (place, seen, got, held, ap (λ (r : RowCopy). r.index) (same_Some (copy_of seen) row is))
      by_test seen at false is = absurd (cc (is))

      by_found : (o : Option SeenRow) → row_holding level (rows_of node.peer.rows oid) ≡ o
          → fitting level (Some spec.policy) (Some (row_size (kind_of oid) spec)) oid (option_map copy_of o) ≡ Some row
          → (i : ℕ) × (seen : SeenRow) × (slice_get (rows_of node.peer.rows oid) i ≡ Some seen) × (holds level seen ≡ true)
          × (seen.index ≡ row.index)
      by_found None at is = absurd (cc (is))
      by_found (Some seen) at is =
          by_test seen at
          (is_asked_row level (wanted_of spec.policy (kind_of oid)) (Some (row_size (kind_of oid) spec)) (copy_of seen)) is

-- ---- what was answered

-- a node's answer is the first that is kept of it
pub answered_of : (node : NodeId) (answers : List RowAnswer) → has_kept_answer answers node ≡ true
    → (answer : RowAnswer) × Contains answers answer × (answer.from ≡ node) × (answered_row node answers ≡ answer.row)
answered_of node [] kept = absurd (cc (kept))
answered_of node (answer ∷ answers) kept = by_node (is_same_node node answer.from) refl kept (λ later. answered_of node answers later)
  where
    by_node : (b : Bool) → is_same_node node answer.from ≡ b → (b || has_kept_answer answers node) ≡ true
        → (has_kept_answer answers node ≡ true
        → (one : RowAnswer) × Contains answers one × (one.from ≡ node) × (answered_row node answers ≡ one.row))
        → (one : RowAnswer) × Contains (answer ∷ answers) one × (one.from ≡ node)
        × (cond b answer.row (answered_row node answers) ≡ one.row)
    by_node true same kept rest =
        (answer, Contains-head answer answers, (λ i. record { 0 = eqb-true answer.from.0 node.0 same i }), refl)
    by_node false other kept rest =
        let (one, there, from, is) = rest kept in
        (one, Contains-cons answer answers one there, from, is)

-- and what was told of a node's row was answered by it
pub told_of : (node : NodeId) (answers : List RowAnswer) (row : RowCopy) → answered_row node answers ≡ Some row
    → (answer : RowAnswer) × Contains answers answer × (answer.from ≡ node) × (answer.row ≡ Some row)
told_of node [] row is = absurd (cc (is))
told_of node (answer ∷ answers) row is = by_node (is_same_node node answer.from) refl is (λ later. told_of node answers row later)
  where
    by_node : (b : Bool) → is_same_node node answer.from ≡ b → cond b answer.row (answered_row node answers) ≡ Some row
        → (answered_row node answers ≡ Some row
        → (one : RowAnswer) × Contains answers one × (one.from ≡ node) × (one.row ≡ Some row))
        → (one : RowAnswer) × Contains (answer ∷ answers) one × (one.from ≡ node) × (one.row ≡ Some row)
    by_node true same is rest =
        (answer, Contains-head answer answers, (λ i. record { 0 = eqb-true answer.from.0 node.0 same i }), is)
    by_node false other is rest =
        let (one, there, from, told) = rest is in
        (one, Contains-cons answer answers one there, from, told)

-- ---- how many rows

-- an index that is greater than all is put last
abbrev AllLess : ℕ → List RowCopy → Type 0
AllLess bound rows = AllByRecursion (λ (row : RowCopy). row.index < bound) rows

put_last : (rows : List RowCopy) (row : RowCopy) → AllLess row.index rows → put_by_index rows row ≡ rows ++ row ∷ []
put_last [] row less = refl
put_last (first ∷ rows) row less =
    let below = less.0 in
    ap (λ (b : Bool). cond b (row ∷ first ∷ rows) (cond (row.index == first.index) (first ∷ rows) (first ∷ put_by_index rows row)))
    (le-ltb row.index first.index (omega (arith, below)))
    ∙ ap (λ (b : Bool). cond b (first ∷ rows) (first ∷ put_by_index rows row))
    (ne_eqb row.index first.index (λ (same : row.index ≡ first.index). omega (arith, below, same)))
    ∙ ap (λ (more : List RowCopy). first ∷ more) (put_last rows row less.1)

less_more : (bound more : ℕ) (rows : List RowCopy) → bound ≤ more → AllLess bound rows → AllLess more rows
less_more bound more [] le less = tt
less_more bound more (row ∷ rows) le less = (let one = less.0 in omega (arith, le, one), less_more bound more rows le less.1)

less_push : (bound : ℕ) (rows : List RowCopy) (row : RowCopy) → AllLess bound rows → row.index < bound → AllLess bound (rows ++ row ∷ [])
less_push bound [] row less one = (one, tt)
less_push bound (first ∷ rows) row less one = (less.0, less_push bound rows row less.1 one)

-- rows of nodes in the order of their places are as many by index
module _ (f : NodeId → Option RowCopy) where
  pub count_by_index : (rows : List RowCopy) (first : ℕ) (nodes : List NodeId) → AllLess first rows
      → ((i : ℕ) (node : NodeId) → slice_get nodes i ≡ Some node → (row : RowCopy) → f node ≡ Some row → row.index ≡ first + i)
      → length (fold put_by_index rows (filter_map f nodes)) ≡ length rows + length (filter_map f nodes)
  count_by_index rows first [] less placed = omega arith
  count_by_index rows first (node ∷ nodes) less placed =
      by_row (f node) refl (λ more less_so. count_by_index more (first + 1) nodes less_so later)
    where
      later : (i : ℕ) (other : NodeId) → slice_get nodes i ≡ Some other → (row : RowCopy) → f other ≡ Some row
          → row.index ≡ first + 1 + i
      later i other at row is = let so = placed (suc i) other at row is in omega (arith, so)

      by_row : (o : Option RowCopy) → f node ≡ o
          → ((more : List RowCopy) → AllLess (first + 1) more
          → length (fold put_by_index more (filter_map f nodes)) ≡ length more + length (filter_map f nodes))
          → length (fold put_by_index rows (cons_option o (filter_map f nodes)))
          ≡ length rows + length (cons_option o (filter_map f nodes))
      by_row None is rest = rest rows (less_more first (first + 1) rows (omega arith) less)
      by_row (Some row) is rest =
          let own : row.index ≡ first + 0 = placed zero node refl row is in
          let before : AllLess row.index rows = less_more first row.index rows (omega (arith, own)) less in
          let last : AllLess (first + 1) (rows ++ row ∷ [])
          = less_push (first + 1) rows row (less_more first (first + 1) rows (omega arith) less) (omega (arith, own)) in
          let sum : length (rows ++ row ∷ []) ≡ length rows + 1 = length-append rows (row ∷ []) in
          let counted : length (fold put_by_index (rows ++ row ∷ []) (filter_map f nodes)) ≡ length (rows ++ row ∷ []) + length
          (filter_map f nodes)
          = rest (rows ++ row ∷ []) last in
          let same : length (fold put_by_index (put_by_index rows row) (filter_map f nodes))
          ≡ length (fold put_by_index (rows ++ row ∷ []) (filter_map f nodes))
          = ap (λ (more : List RowCopy). length (fold put_by_index more (filter_map f nodes))) (put_last rows row before) in
          omega (arith, sum, counted, same)

  -- where each of some nodes that has an index has a row, there are no more indexes
  pub no_more_indexes : (member : NodeId → Bool) (g : NodeId → Option ℕ) (nodes : List NodeId)
      → ((i : ℕ) (node : NodeId) → slice_get nodes i ≡ Some node → member node ≡ true → is_some (g node) ≡ true → is_some (f node) ≡ true)
      → length (filter_map g (filter member nodes)) ≤ length (filter_map f nodes)
  no_more_indexes member g [] more = omega arith
  no_more_indexes member g (node ∷ nodes) more =
      by_member (member node) refl (no_more_indexes member g nodes (λ i other at is some. more (suc i) other at is some))
    where
      by_options : (o : Option ℕ) (p : Option RowCopy) (xs : List ℕ) (ys : List RowCopy) → (is_some o ≡ true → is_some p ≡ true)
          → length xs ≤ length ys → length (cons_option o xs) ≤ length (cons_option p ys)
      by_options None None xs ys some less = less
      by_options None (Some row) xs ys some less = omega (arith, less)
      by_options (Some k) None xs ys some less = let is = some refl in absurd (cc (is))
      by_options (Some k) (Some row) xs ys some less = omega (arith, less)

      by_member : (b : Bool) → member node ≡ b → length (filter_map g (filter member nodes)) ≤ length (filter_map f nodes)
          → length (filter_map g (cond b (node ∷ filter member nodes) (filter member nodes)))
          ≤ length (cons_option (f node) (filter_map f nodes))
      by_member true is less =
          by_options (g node) (f node) (filter_map g (filter member nodes)) (filter_map f nodes) (λ some. more zero node refl is some) less
      by_member false is less = longer (f node) less
        where
          longer : (p : Option RowCopy) → length (filter_map g (filter member nodes)) ≤ length (filter_map f nodes)
              → length (filter_map g (filter member nodes)) ≤ length (cons_option p (filter_map f nodes))
          longer None less = less
          longer (Some row) less = omega (arith, less)

-- the rows in the order in which they are taken are as many as there are, where strips are of the places of their nodes
pub count_in_order : (policy : Policy) (kind : Kind) (f : NodeId → Option RowCopy) (nodes : List NodeId)
    → ((i : ℕ) (node : NodeId) → slice_get nodes i ≡ Some node → (row : RowCopy) → f node ≡ Some row → row.index ≡ index_at policy kind i)
    → length (rows_in_order policy kind (filter_map f nodes)) ≡ length (filter_map f nodes)
count_in_order (Copies copies) kind f nodes placed = refl
count_in_order (Coded d p) Block f nodes placed =
    let counted : length (rows_in_order (Coded d p) Block (filter_map f nodes)) ≡ 0 + length (filter_map f nodes)
    = count_by_index f [] 0 nodes tt (λ i node at row is. placed i node at row is ∙ zero_more i) in
    counted ∙ sym (zero_more (length (filter_map f nodes)))
  where
    zero_more : (i : ℕ) → i ≡ 0 + i
    zero_more i = omega arith
count_in_order (Coded d p) Inode f nodes placed = refl

-- ---- a level that failed

module _ (log : List Entry) (hosts : Hosts) (placed : RowsAreAtTargets (targets_by log) (log_effects log) hosts) (is_log : IsLog log)
    (n : ℕ) (host : Host) (there : tree.get hosts n ≡ Some host) (me_so : host.node.recovery.me ≡ record { 0 = n }) (oid level : ℕ)
    (begun : level ≤ epoch_of log) (own : level ≤ host.node.peer.epoch) (policy : Policy)
    (policy_so : policy_in (log_effects log) oid ≡ Some policy) (spec : VdiSpec) (known : spec_of host.node.peer oid ≡ Some spec)
    (spec_so : spec.policy ≡ policy) (fit : RowsFit host.node oid spec.policy spec) (answers : List RowAnswer) where
  abbrev targets : List NodeId
  targets = targets_by log level oid policy

  abbrev row_there : NodeId → Option RowCopy
  row_there = row_of_target host.node.recovery.me (own_row (shown_node host.node) oid level) answers

  abbrev index_there : NodeId → Option ℕ
  index_there node = index_held (tree.get hosts node.0) oid level

  -- what has an index covers the level
  holds_there : (o : Option Host) → is_some (index_held o oid level) ≡ true → holds_level o oid level ≡ true
  holds_there None is = absurd (cc (is))
  holds_there (Some other) is = by_rows (rows_of other.node.peer.rows oid) is
    where
      by_rows : (rows : List SeenRow) → is_some (option_map (λ (row : SeenRow). row.index)
          (find (row_covers other.node.peer.epoch level) rows)) ≡ true
          → list_any (row_covers other.node.peer.epoch level) rows ≡ true
      by_rows [] is = absurd (cc (is))
      by_rows (row ∷ rows) is = by_test (row_covers other.node.peer.epoch level row) is (λ later. by_rows rows later)
        where
          by_test : (b : Bool)
              → is_some (option_map (λ (r : SeenRow). r.index) (cond b (Some row) (find (row_covers other.node.peer.epoch level) rows)))
              ≡ true
              → (is_some (option_map (λ (r : SeenRow). r.index) (find (row_covers other.node.peer.epoch level) rows)) ≡ true
              → list_any (row_covers other.node.peer.epoch level) rows ≡ true)
              → (b || list_any (row_covers other.node.peer.epoch level) rows) ≡ true
          by_test true is rest = refl
          by_test false is rest = rest is

  module _ (epoch : ℕ)
      (asked : (other : NodeId) → has_node other targets ≡ true → is_member other.0 (members_in log epoch) ≡ true
      → (is_same_node host.node.recovery.me other ≡ false) → has_kept_answer answers other ≡ true)
      (true_row : (answer : RowAnswer) (row : RowCopy) → Contains answers answer → answer.row ≡ Some row
      → index_of_part (targets_by log) level oid policy answer.from ≡ Some row.index)
      (true_none : (answer : RowAnswer) → Contains answers answer → answer.row ≡ None
      → holds_level (tree.get hosts answer.from.0) oid level ≡ false)
    where
      -- the row of a target has the index of its place
      at_place : (i : ℕ) (node : NodeId) → slice_get targets i ≡ Some node → (row : RowCopy) → row_there node ≡ Some row
          → row.index ≡ index_at policy (kind_of oid) i
      at_place i node at row is = by_own (is_same_node host.node.recovery.me node) refl is
        where
          part_so : index_of_part (targets_by log) level oid policy node ≡ Some (index_at policy (kind_of oid) i)
          part_so =
              ap (option_map (index_at policy (kind_of oid)))
              (place_of targets i node (targets_apart_in log level oid policy is_log begun) at)

          by_own : (b : Bool) → is_same_node host.node.recovery.me node ≡ b
              → cond b (own_row (shown_node host.node) oid level) (answered_row node answers) ≡ Some row
              → row.index ≡ index_at policy (kind_of oid) i
          by_own true same is =
              let (k, seen, got, held, index) = own_of host.node oid level spec known row is in
              let own_node : node ≡ record { 0 = n } = (λ j. record { 0 = eqb-true node.0 host.node.recovery.me.0 same j }) ∙ me_so in
              let part : index_of_part (targets_by log) level oid policy node ≡ Some seen.index
              = ap (index_of_part (targets_by log) level oid policy) own_node
              ∙ placed.each n host there oid k seen got policy level policy_so (holds_covers host.node.peer.epoch level seen own held) in
              sym index ∙ same_Some seen.index (index_at policy (kind_of oid) i) (sym part ∙ part_so)
          by_own false other is =
              let (answer, among, from, told) = told_of node answers row is in
              same_Some row.index (index_at policy (kind_of oid) i)
              (sym (ap (index_of_part (targets_by log) level oid policy) (sym from) ∙ true_row answer row among told) ∙ part_so)

      -- a target that is a member and has a row of the level is found
      found_there : (i : ℕ) (node : NodeId) → slice_get targets i ≡ Some node → is_member node.0 (members_in log epoch) ≡ true
          → is_some (index_there node) ≡ true → is_some (row_there node) ≡ true
      found_there i node at member some = by_own (is_same_node host.node.recovery.me node) refl
        where
          held : holds_level (tree.get hosts node.0) oid level ≡ true
          held = holds_there (tree.get hosts node.0) some

          by_own : (b : Bool) → is_same_node host.node.recovery.me node ≡ b
              → is_some (cond b (own_row (shown_node host.node) oid level) (answered_row node answers)) ≡ true
          by_own true same =
              let own_node : node.0 ≡ n = eqb-true node.0 host.node.recovery.me.0 same ∙ ap (λ (q : NodeId). q.0) me_so in
              own_there host.node oid level spec known fit
              (ap (λ (o : Option Host). holds_level o oid level) (sym (ap (tree.get hosts) own_node ∙ there)) ∙ held)
          by_own false other =
              let (answer, among, from, is) = answered_of node answers (asked node (got-among targets i node at) member other) in
              ap (λ (o : Option RowCopy). is_some o) is ∙ by_row answer among from answer.row refl
            where
              by_row : (answer : RowAnswer) → Contains answers answer → answer.from ≡ node → (o : Option RowCopy) → answer.row ≡ o
                  → is_some o ≡ true
              by_row answer among from None none =
                  let no : holds_level (tree.get hosts node.0) oid level ≡ false
                  = ap (λ (q : NodeId). holds_level (tree.get hosts q.0) oid level) (sym from) ∙ true_none answer among none in
                  absurd (cc (no, held))
              by_row answer among from (Some row) told = refl

      pub few_indexes : are_enough policy (kind_of oid) (filter_map row_there targets) ≡ false
          → length (indexes_held (targets_by log) log hosts oid level epoch policy) < need_of policy (kind_of oid)
      few_indexes few =
          let counted : length (rows_in_order policy (kind_of oid) (filter_map row_there targets)) ≡ length (filter_map row_there targets)
          = count_in_order policy (kind_of oid) row_there targets at_place in
          let less : length (rows_in_order policy (kind_of oid) (filter_map row_there targets)) < need_of policy (kind_of oid)
          = leb-false (need_of policy (kind_of oid)) (length (rows_in_order policy (kind_of oid) (filter_map row_there targets))) few in
          let indexes : length (filter_map index_there (filter (λ (node : NodeId). is_member node.0 (members_in log epoch)) targets))
          ≤ length (filter_map row_there targets)
          = no_more_indexes row_there (λ (node : NodeId). is_member node.0 (members_in log epoch)) index_there targets found_there in
          let folded = no_more_fold [] (filter_map index_there
          (filter (λ (node : NodeId). is_member node.0 (members_in log epoch)) targets)) in
          omega (arith, counted, less, indexes, folded)
