-- What is kept: its steps in order, cell by cell and then by stamp; and one cell more.
use Rattle.std.proofs.Common.{◌≡◌, ℕ, zero, suc, ◌+◌, ◌<◌, Bool, true, false, cond, T, List, [], ◌∷◌, ◌++◌, All, length, take, append-nil, map, flat_map, filter, get_or, Option, Some, None, nat_cmp, is_lt, is_eq, refl, sym, ap, subst, ◌∙◌, arith}
use Rattle.std.specs.declared.cmp.Ordering.TheVariants.{Less}
use Rattle.std.specs.Cmp.{nat_cmp_total}
use Rattle.std.specs.FinMap as tree
use Rattle.std.specs.List.{AllByRecursion}
use Rattle.std.specs.List.Sorted.{IsPermutation, IsSortedByKey, IsStableByKey, IsStrictlySortedBy}
use Rattle.std.specs.Map.{keys_of}
use Rattle.std.proofs.lemmas.Bool.Decides.{nat_tests}
use Rattle.std.proofs.lemmas.List.Concat.{flat_map-append}
use Rattle.std.proofs.lemmas.List.Elements.{All-head, All-tail, All-push}
use Rattle.std.proofs.lemmas.List.Sorted.{IsPermutation-map}
use Rattle.std.proofs.lemmas.List.{map-append, length-map, take_more}
use Rattle.proof_tools.proofs.FiniteMaps.{is_sorted-from_keys, entries-from_entries}
use Rattle.live_cells.specs.declared.step.Step.{Step}
use Rattle.live_cells.specs.Cell.{CellState}
use Rattle.schedule.specs.Merged.{Kept, KeptStep, all_steps, stamp_of, IsByStamp}
use Rattle.live_merge.specs.Steps.{kept_step}
use Rattle.live_workers.specs.OtherSteps.{IsOther}
use Rattle.live_run.specs.KeptSteps.{cell_entry, steps_in, kept_steps_of, with_cell, with_other, IsWellKept}

-- the cells are the map's entries
pub entries_cells : (cells : List CellState) (others : List Step) → IsWellKept cells others
    → tree.entries (kept_steps_of cells others).cells ≡ map cell_entry cells
entries_cells cells others are = entries-from_entries (map cell_entry cells) (is_sorted-from_keys (map cell_entry cells) are.ascending)

steps_in_kept : (cells : List CellState) → map kept_step (steps_in cells) ≡ flat_map (λ (cell : ℕ × List KeptStep). cell.1) (map cell_entry cells)
steps_in_kept [] = refl
steps_in_kept (cell ∷ cells) =
    map-append kept_step cell.steps (steps_in cells)
    ∙ ap (λ (later : List KeptStep). map kept_step cell.steps ++ later) (steps_in_kept cells)

pub all_in_order : (cells : List CellState) (others : List Step) → IsWellKept cells others
    → map kept_step (steps_in cells ++ others) ≡ all_steps (kept_steps_of cells others)
all_in_order cells others are =
    map-append kept_step (steps_in cells) others
    ∙ ap (λ (first : List KeptStep). first ++ map kept_step others)
    (steps_in_kept cells
    ∙ ap (flat_map (λ (cell : ℕ × List KeptStep). cell.1)) (sym (entries_cells cells others are)))

-- the steps by stamp, as a merge looks at them

-- a step that a merge looks at so
abbrev step_as : KeptStep → Step
step_as kept = record { stamp = kept.stamp; event = kept.event; input = kept.input; outputs = kept.outputs; used = [] }

kept-at : (steps : List Step) (place : ℕ) (none : Step) → get_or (map kept_step steps) place (kept_step none) ≡ kept_step (get_or steps place none)
kept-at [] place none = refl
kept-at (step ∷ steps) zero none = refl
kept-at (step ∷ steps) (suc place) none = kept-at steps place none

sorted-kept : (steps : List Step) → IsSortedByKey (λ (step : Step). step.stamp) nat_cmp steps → IsSortedByKey stamp_of nat_cmp (map kept_step steps)
sorted-kept steps sorted k d low high =
    ap (λ (kept : KeptStep). is_lt (nat_cmp kept.stamp (get_or (map kept_step steps) k d).stamp)) (kept-at steps (k + 1) (step_as d))
    ∙ ap (λ (kept : KeptStep). is_lt (nat_cmp (get_or steps (k + 1) (step_as d)).stamp kept.stamp)) (kept-at steps k (step_as d))
    ∙ sorted k (step_as d) low (subst (λ (n : ℕ). k + 1 < n) (length-map steps kept_step) high)

filter-kept : (test : KeptStep → Bool) (steps : List Step) → filter test (map kept_step steps) ≡ map kept_step (filter (λ (step : Step). test (kept_step step)) steps)
filter-kept test [] = refl
filter-kept test (step ∷ steps) = by_test (filter-kept test steps) (test (kept_step step))
  where
    by_test : filter test (map kept_step steps) ≡ map kept_step (filter (λ (step : Step). test (kept_step step)) steps) → (passes : Bool)
        → cond passes (kept_step step ∷ filter test (map kept_step steps)) (filter test (map kept_step steps))
        ≡ map kept_step (cond passes (step ∷ filter (λ (step : Step). test (kept_step step)) steps) (filter (λ (step : Step). test (kept_step step)) steps))
    by_test later true = ap (λ (kept : List KeptStep). kept_step step ∷ kept) later
    by_test later false = later

stable-kept : (before after : List Step) → IsStableByKey (λ (step : Step). step.stamp) nat_cmp before after
    → IsStableByKey stamp_of nat_cmp (map kept_step before) (map kept_step after)
stable-kept before after stable x =
    filter-kept _ after ∙ ap (map kept_step) (stable (step_as x)) ∙ sym (filter-kept _ before)

pub by_stamp_kept : (kept : Kept) (before after : List Step) → map kept_step before ≡ all_steps kept → IsPermutation before after
    → IsSortedByKey (λ (step : Step). step.stamp) nat_cmp after → IsStableByKey (λ (step : Step). step.stamp) nat_cmp before after
    → IsByStamp kept (map kept_step after)
by_stamp_kept kept before after all same sorted stable = record {
  same = subst (λ (steps : List KeptStep). IsPermutation steps (map kept_step after)) all (IsPermutation-map kept_step before after same);
  ascending = sorted-kept after sorted;
  ties = subst (λ (steps : List KeptStep). IsStableByKey stamp_of nat_cmp steps (map kept_step after)) all (stable-kept before after stable);
}

-- nothing is kept yet
pub none_kept : (cells : List CellState) (others : List Step) → cells ≡ [] → others ≡ [] → IsWellKept cells others
unfolding IsStrictlySortedBy
none_kept cells others no_cell no_other =
    subst (λ (cells : List CellState). IsWellKept cells others) (sym no_cell)
    (subst (λ (others : List Step). IsWellKept [] others) (sym no_other)
    (record { live = λ k d within. absurd (omega arith); ascending = tt; of_no_node = λ k d within. absurd (omega arith) }))

-- one cell more

all-push : {X : Type 0} (P : X → Type 0) (xs : List X) (x : X) → AllByRecursion P xs → P x → AllByRecursion P (xs ++ x ∷ [])
all-push P [] x all one = (one, tt)
all-push P (first ∷ xs) x all one = (all.0, all-push P xs x all.1 one)

less : (low high : ℕ) → low < high → nat_cmp low high ≡ Less
less low high below = grind (arith, nat_tests)

other : (low high : ℕ) → low < high → is_eq (nat_cmp high low) ≡ false
other low high below = grind (arith, nat_tests)

sorted-push : (keys : List ℕ) (number : ℕ) → IsStrictlySortedBy nat_cmp keys → All (λ (key : ℕ). key < number) keys
    → IsStrictlySortedBy nat_cmp (keys ++ number ∷ [])
unfolding IsStrictlySortedBy
sorted-push [] number sorted below = (tt, tt)
sorted-push (key ∷ keys) number sorted below = (
  all-push (λ y. nat_cmp key y ≡ Less) keys number sorted.0 (less key number (All-head (λ (key : ℕ). key < number) key keys below)),
  sorted-push keys number sorted.1 (All-tail (λ (key : ℕ). key < number) key keys below),
)

find-none : (entries : List (ℕ × List KeptStep)) (number : ℕ) → All (λ (key : ℕ). key < number) (keys_of entries)
    → tree.find nat_cmp number entries ≡ None
find-none [] number below = refl
find-none (entry ∷ entries) number below =
    ap (λ (same : Bool). cond same (Some entry.1) (tree.find nat_cmp number entries))
    (other entry.0 number (All-head (λ (key : ℕ). key < number) entry.0 (keys_of entries) below))
    ∙ find-none entries number (All-tail (λ (key : ℕ). key < number) entry.0 (keys_of entries) below)

keys-push : (entries : List (ℕ × List KeptStep)) (entry : ℕ × List KeptStep) → keys_of (entries ++ entry ∷ []) ≡ keys_of entries ++ entry.0 ∷ []
keys-push [] entry = refl
keys-push (first ∷ entries) entry = ap (λ (keys : List ℕ). first.0 ∷ keys) (keys-push entries entry)

module _ (cells : List CellState) (others : List Step) (cell : CellState) (are : IsWellKept cells others)
    (later : All (λ (number : ℕ). number < cell.node.me.0) (tree.keys (kept_steps_of cells others).cells)) where
  below-it : All (λ (number : ℕ). number < cell.node.me.0) (keys_of (map cell_entry cells))
  below-it = subst (λ (entries : List (ℕ × List KeptStep)). All (λ (number : ℕ). number < cell.node.me.0) (keys_of entries)) (entries_cells cells others are) later

  pub cells_more : cell.spent ≡ false → IsWellKept (cells ++ cell ∷ []) others
  cells_more live = record {
    live = All-push (λ (cell : CellState). cell.spent ≡ false) cells cell are.live live;
    ascending =
        subst (IsStrictlySortedBy nat_cmp)
        (sym (ap keys_of (map-append cell_entry cells (cell ∷ [])) ∙ keys-push (map cell_entry cells) (cell_entry cell)))
        (sorted-push (keys_of (map cell_entry cells)) cell.node.me.0 are.ascending below-it);
    of_no_node = are.of_no_node;
  }

  pub kept_more : kept_steps_of (cells ++ cell ∷ []) others ≡ with_cell cell (kept_steps_of cells others)
  kept_more =
      ap (λ (entries : List (ℕ × List KeptStep)). record { cells = tree.from_entries {R = nat_cmp} entries; others = map kept_step others })
      (map-append cell_entry cells (cell ∷ []))
      ∙ ap (λ (entries : tree.FinMap nat_cmp (List KeptStep)). record { cells = entries; others = map kept_step others })
      (tree.from_entries_push nat_cmp_total tree.nat_cmp-IsAntisymmetric (map cell_entry cells) cell.node.me.0 (map kept_step cell.steps)
      (find-none (map cell_entry cells) cell.node.me.0 below-it))

-- one other step more
pub others_more : (cells : List CellState) (others : List Step) (step : Step) → IsWellKept cells others → IsOther step
    → IsWellKept cells (others ++ step ∷ [])
others_more cells others step are one = record { live = are.live; ascending = are.ascending; of_no_node = All-push IsOther others step are.of_no_node one }

pub kept_other : (cells : List CellState) (others : List Step) (step : Step)
    → kept_steps_of cells (others ++ step ∷ []) ≡ with_other step (kept_steps_of cells others)
kept_other cells others step =
    ap (λ (steps : List KeptStep). record { cells = tree.from_entries {R = nat_cmp} (map cell_entry cells); others = steps })
    (map-append kept_step others (step ∷ []))

-- the steps of one cell more
pub steps_more : (cells : List CellState) (place : ℕ) (cell : CellState) → place < length cells → cell ≡ get_or cells place cell
    → steps_in (take (place + 1) cells) ≡ steps_in (take place cells) ++ cell.steps
steps_more cells place cell within is =
    ap steps_in (take_more cells place cell within ∙ ap (λ (c : CellState). take place cells ++ c ∷ []) (sym is))
    ∙ flat_map-append (λ (cell : CellState). cell.steps) (take place cells) (cell ∷ [])
    ∙ ap (λ (steps : List Step). steps_in (take place cells) ++ steps) (append-nil cell.steps)
