-- What the worked recovery needs of a store without rows.
use Rattle.std.proofs.Common.{◌≡◌, ℕ, not, cond, List, [], ◌∷◌, filter, map, None, is_some, ap, sym, ◌∙◌}
use Rattle.std.specs.FinMap as tree
use Rattle.std.proofs.lemmas.List.{nil_from_length}
use Rattle.std.specs.Ordering.{nat_cmp}
use Rattle.object_store.specs.Rows.{open_at}
use Rattle.object_store.specs.Store.{SeenRow, rows_of, create_in}
use Rattle.object_store.proofs.StoreLaws.{rows_of-empty, rows_of-insert_same}
use Rattle.object_list.specs.Union.{union}
use Rattle.gf256.specs.Part.{part, bytes_of_parts}
use Rattle.recovery.specs.Shown.{is_to_recover, shown_with_unfinished_list, shown_with_pending}
use Rattle.recovery.specs.Level.{level_over}
use Rattle.recovery.specs.Tick.{tick_messages, state_after_tick}
use Rattle.recovery.specs.Steps.{recovery_from_epoch, recovery_on_reply}
use Rattle.recovery.specs.Example.{node, object, new_node, with_object_named, with_object_pending, found_at_both}

no_keys : tree.keys new_node.shown.rows ≡ []
no_keys =
    ap (map (λ (e : ℕ × List SeenRow). e.0))
    (nil_from_length (tree.entries new_node.shown.rows) (sym (tree.len-entries new_node.shown.rows) ∙ tree.len-empty nat_cmp (List SeenRow)))

pub both_named : with_object_named ≡ with_object_pending
unfolding recovery_from_epoch recovery_on_reply tick_messages state_after_tick
both_named =
    ap (λ (keys : List ℕ). record with_object_named {
      shown = shown_with_pending (filter (is_to_recover (node 2) 3 (shown_with_unfinished_list new_node.shown)) (union (object ∷ []) keys)) (shown_with_unfinished_list new_node.shown);
    }) no_keys
    ∙ ap (λ (rows : List SeenRow). record with_object_named {
      shown = shown_with_pending (cond (not (is_some (open_at 0 rows))) (object ∷ []) []) (shown_with_unfinished_list new_node.shown);
    }) (rows_of-empty object)

pub row_found : rows_of found_at_both.shown.rows object
    ≡ record { index = 0; from = record { 0 = 3 }; to = None; bytes = 5 ∷ 0 ∷ [] } ∷ []
unfolding recovery_from_epoch recovery_on_reply tick_messages state_after_tick level_over part bytes_of_parts
row_found =
    rows_of-insert_same new_node.shown.rows object (create_in 0 3 2 0 (5 ∷ 0 ∷ []) (rows_of new_node.shown.rows object))
    ∙ ap (create_in 0 3 2 0 (5 ∷ 0 ∷ [])) (rows_of-empty object)
