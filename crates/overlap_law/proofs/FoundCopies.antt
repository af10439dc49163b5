-- The part that a search finds of an object whose rows are copies is one of the rows that it found: the node's own at the level, or one
-- that was told.
use Rattle.std.proofs.Common.{◌≡◌, ℕ, suc, Bool, true, false, cond, List, [], ◌∷◌, ◌++◌, length, slice_get, Option, Some, None, refl, ap}
use Rattle.std.proofs.Common.{◌∙◌}
use Rattle.std.specs.List.{filter_map, cons_option}
use Rattle.std.specs.Option.{IfSome, option_map}
use Rattle.object_id.specs.declared.node.NodeId.{NodeId}
use Rattle.object_id.specs.declared.oid.Kind.{Kind}
use Rattle.object_id.specs.declared.oid.Kind.TheVariants.{Block, Inode}
use Rattle.object_id.specs.declared.policy.Policy.{Policy}
use Rattle.object_id.specs.declared.policy.Policy.TheVariants.{Copies, Coded}
use Rattle.object_id.specs.Oid.{kind_of}
use Rattle.object_id.specs.Policy.{wanted_of}
use Rattle.gf256.specs.Part.{part, bytes_of_parts, is_in_strips}
use Rattle.object_list.specs.Gathered.{is_same_node}
use Rattle.object_store.specs.declared.row.RowCopy.{RowCopy}
use Rattle.object_store.specs.Rows.{row_holding, holds}
use Rattle.object_store.specs.Store.{SeenRow, rows_of, row_bytes, copy_of}
use Rattle.object_store.proofs.CopyLaws.{row_at-some}
use Rattle.recovery.specs.declared.search.RowAnswer.{RowAnswer}
use Rattle.recovery.specs.Shown.{NodeView, is_asked_row, fitting, own_row}
use Rattle.recovery.specs.State.{Search, RecoveryState}
use Rattle.recovery.specs.Level.{answered_row, row_of_target, rows_found, rows_taken, are_enough, part_from_rows}
use Rattle.recovery.proofs.TakenParts.{Each}

-- ---- what is found

each-found : (P : RowCopy → Type 0) (f : NodeId → Option RowCopy) (nodes : List NodeId) → ((node : NodeId) → IfSome (f node) P)
    → Each P (filter_map f nodes)
each-found P f [] all = tt
each-found P f (node ∷ nodes) all = by_row (f node) (all node) (each-found P f nodes all)
  where
    by_row : (o : Option RowCopy) → IfSome o P → Each P (filter_map f nodes) → Each P (cons_option o (filter_map f nodes))
    by_row None one rest = rest
    by_row (Some row) one rest = (one, rest)

-- the node's own row of the level is the copy of a row that it has, and that holds the level
own-copy : (P : RowCopy → Type 0) (shown : NodeView) (oid level : ℕ)
    → ((i : ℕ) (row : SeenRow) → slice_get (rows_of shown.rows oid) i ≡ Some row → holds level row ≡ true → P (copy_of row))
    → IfSome (own_row shown oid level) P
own-copy P shown oid level each = by_policy (shown.policy_of oid) (row_holding level (rows_of shown.rows oid)) refl
  where
    place : (before after : List SeenRow) (row : SeenRow) → slice_get (before ++ row ∷ after) (length before) ≡ Some row
    place [] after row = refl
    place (first ∷ before) after row = place before after row

    by_test : (row : SeenRow) → P (copy_of row) → (size : Option ℕ) (wanted : ℕ) (b : Bool)
        → IfSome (cond b (Some (copy_of row)) None) P
    by_test row is size wanted true = is
    by_test row is size wanted false = tt

    by_policy : (o : Option Policy) (found : Option SeenRow) → row_holding level (rows_of shown.rows oid) ≡ found
        → IfSome (fitting level o (shown.size_of oid) oid (option_map copy_of found)) P
    by_policy None found is = tt
    by_policy (Some policy) None is = tt
    by_policy (Some policy) (Some row) is =
        let stands = row_at-some level (rows_of shown.rows oid) row is in
        let got : slice_get (rows_of shown.rows oid) (length stands.0) ≡ Some row
        = ap (λ (rows : List SeenRow). slice_get rows (length stands.0)) stands.2 ∙ place stands.0 stands.1 row in
        by_test row (each (length stands.0) row got stands.3) (shown.size_of oid) (wanted_of policy (kind_of oid))
        (is_asked_row level (wanted_of policy (kind_of oid)) (shown.size_of oid) (copy_of row))

answered-told : (P : RowCopy → Type 0) (node : NodeId) (answers : List RowAnswer)
    → ((place : ℕ) (answer : RowAnswer) → slice_get answers place ≡ Some answer → (row : RowCopy) → answer.row ≡ Some row → P row)
    → IfSome (answered_row node answers) P
answered-told P node [] each = tt
answered-told P node (answer ∷ answers) each =
    by_node (is_same_node node answer.from) (answered-told P node answers (λ place one got. each (suc place) one got))
  where
    some : (o : Option RowCopy) → answer.row ≡ o → IfSome o P
    some None is = tt
    some (Some row) is = each 0 answer refl row is

    by_node : (b : Bool) → IfSome (answered_row node answers) P → IfSome (cond b answer.row (answered_row node answers)) P
    by_node true rest = some answer.row refl
    by_node false rest = rest

-- each row that is found is the copy of an own one, or was told
pub found-rows : (P : RowCopy → Type 0) (state : RecoveryState) (policy : Policy) (search : Search)
    → ((i : ℕ) (row : SeenRow) → slice_get (rows_of state.shown.rows search.oid) i ≡ Some row → holds search.level row ≡ true
    → P (copy_of row))
    → ((place : ℕ) (answer : RowAnswer) → slice_get search.answers place ≡ Some answer → (row : RowCopy) → answer.row ≡ Some row → P row)
    → Each P (rows_found state policy search)
found-rows P state policy search own told =
    each-found P (row_of_target state.recovery.me (own_row state.shown search.oid search.level) search.answers)
    (state.shown.targets search.level search.oid policy)
    (λ node. by_node node (is_same_node state.recovery.me node))
  where
    by_node : (node : NodeId) (b : Bool)
        → IfSome (cond b (own_row state.shown search.oid search.level) (answered_row node search.answers)) P
    by_node node true = own-copy P state.shown search.oid search.level own
    by_node node false = answered-told P node search.answers told

-- ---- the part of a copy

-- it is the bytes of one of the rows
pub part-of_copy : (P : RowCopy → Type 0) (policy : Policy) (kind : Kind) (index : ℕ) (rows : List RowCopy)
    → is_in_strips policy kind ≡ false → are_enough policy kind rows ≡ true → Each P rows
    → (row : RowCopy) × P row × (part_from_rows policy kind index (rows_taken policy kind rows) ≡ row_bytes row)
unfolding part bytes_of_parts
part-of_copy P (Copies copies) kind index [] whole enough all = absurd (cc (enough))
part-of_copy P (Copies copies) kind index (row ∷ rows) whole enough all = (row, all.0, refl)
part-of_copy P (Coded d p) Block index rows whole enough all = absurd (cc (whole))
part-of_copy P (Coded d p) Inode index [] whole enough all = absurd (cc (enough))
part-of_copy P (Coded d p) Inode index (row ∷ rows) whole enough all = (row, all.0, refl)
