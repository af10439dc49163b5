-- The cells are kept by ascending numbers of their nodes.
use Rattle.std.proofs.Common.{◌≡◌, ℕ, ◌+◌, ◌<◌, ◌≤◌, List, [], All, false, map, sym, ap, subst, ◌∙◌, arith}
use Rattle.std.specs.Ordering.{nat_cmp}
use Rattle.std.specs.FinMap as tree
use Rattle.std.proofs.lemmas.List.{nil_from_length}
use Rattle.std.proofs.lemmas.List.Elements.{All-nil}
use Rattle.proof_tools.proofs.FiniteMaps.{All-keys-insert}
use Rattle.live_cells.specs.Cell.{CellState}
use Rattle.schedule.specs.Merged.{Kept, KeptStep}
use Rattle.live_merge.specs.Steps.{kept_step}
use Rattle.live_run.specs.KeptSteps.{nothing_kept, with_cell}
use Rattle.live_workers.specs.Cells.{IsCellOf}

-- nothing that is kept has no key
pub no_keys : tree.keys (tree.empty {K = ℕ} {X = List KeptStep} {R = nat_cmp}) ≡ []
no_keys =
    ap (map (λ (e : ℕ × List KeptStep). e.0))
    (nil_from_length (tree.entries (tree.empty {K = ℕ} {X = List KeptStep} {R = nat_cmp}))
    (sym (tree.len-entries (tree.empty {K = ℕ} {X = List KeptStep} {R = nat_cmp})) ∙ tree.len-empty nat_cmp (List KeptStep)))

pub none_below : (kept : Kept) → kept ≡ nothing_kept → All (λ (number : ℕ). number < 0) (tree.keys kept.cells)
none_below kept none =
    let below = λ (number : ℕ). number < 0 in
    subst (λ (kept : Kept). All below (tree.keys kept.cells)) (sym none) (subst (All below) (sym no_keys) (All-nil below))

pub all_below : (keys : List ℕ) (low high : ℕ) → low ≤ high → All (λ (number : ℕ). number < low) keys → All (λ (number : ℕ). number < high) keys
all_below keys low high order below = λ k d within. omega (arith, below k d within)

-- a cell of a number that isn't below those to come stands behind the cells that are kept
pub cell_is_later : (kept : Kept) (cell : CellState) (number least : ℕ) → IsCellOf number cell → cell.spent ≡ false → least ≤ number
    → All (λ (key : ℕ). key < least) (tree.keys kept.cells) → All (λ (key : ℕ). key < cell.node.me.0) (tree.keys kept.cells)
cell_is_later kept cell number least of live order below =
    let is = of live in all_below (tree.keys kept.cells) least cell.node.me.0 (omega (arith, is)) below

-- and then the numbers to come are above its own
pub kept_below : (kept new : Kept) (cell : CellState) (number least : ℕ) → new ≡ with_cell cell kept → IsCellOf number cell → cell.spent ≡ false
    → least ≤ number → All (λ (key : ℕ). key < least) (tree.keys kept.cells) → All (λ (key : ℕ). key < number + 1) (tree.keys new.cells)
kept_below kept new cell number least made of live order below =
    let is = of live in
    subst (λ (after : Kept). All (λ (key : ℕ). key < number + 1) (tree.keys after.cells)) (sym made)
    (All-keys-insert (λ (key : ℕ). key < number + 1) kept.cells cell.node.me.0 (map kept_step cell.steps) (omega (arith, is))
    (all_below (tree.keys kept.cells) least (number + 1) (omega arith) below))
