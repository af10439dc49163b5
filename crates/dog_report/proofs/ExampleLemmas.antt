-- A node without rows, as it is listed.
use Rattle.std.proofs.Common.{◌≡◌, ℕ, List, [], ◌∷◌, length, map, codes, decimal, refl, sym, ap, ◌∙◌}
use Rattle.std.specs.Prelude.{sum_by}
use Rattle.std.specs.Fmt.{digits}
use Rattle.std.specs.Ordering.{nat_cmp}
use Rattle.std.specs.FinMap as tree
use Rattle.std.proofs.lemmas.List.{nil_from_length}
use Rattle.object_store.specs.Store.{SeenRow, AllRows}
use Rattle.sheep_node.specs.State.{initial_node}
use Rattle.sheep_world.specs.Opening.{initial_host}
use Rattle.dog_report.specs.Words.{spaced_words}
use Rattle.object_store.specs.Store.{row_count}
use Rattle.dog_report.specs.Lists.{host_words}
use Rattle.dog_report.specs.Example.{node, member}

no_rows : AllRows
no_rows = tree.empty

no_entries : tree.entries no_rows ≡ []
unfolding no_rows
no_entries = nil_from_length (tree.entries no_rows) (sym (tree.len-entries no_rows) ∙ tree.len-empty nat_cmp (List SeenRow))

abbrev listed_with : ℕ → List ℕ
listed_with rows = spaced_words
    (codes "node" ∷ decimal 3 ∷ codes "vnodes" ∷ decimal 64 ∷ codes "epoch" ∷ decimal 1 ∷ codes "rows" ∷ decimal rows
    ∷ codes "pending" ∷ decimal 0 ∷ [])

no_count : row_count (initial_node (node 3) 8).peer.rows ≡ 0
unfolding no_rows
no_count = ap (λ (entries : List (ℕ × List SeenRow)). sum_by length (map (λ (e : ℕ × List SeenRow). e.1) entries)) no_entries

with_none : listed_with 0 ≡ codes "node 3 vnodes 64 epoch 1 rows 0 pending 0"
unfolding digits
with_none = refl

pub joined-listed : spaced_words (host_words (member 3) (initial_host (initial_node (node 3) 8))) ≡ codes "node 3 vnodes 64 epoch 1 rows 0 pending 0"
joined-listed = ap listed_with no_count ∙ with_none
