-- What holds of each of some rows holds of each as they are changed one by one, or fewer or one more.
use Rattle.std.proofs.Common.{◌≡◌, ℕ, zero, suc, Bool, true, false, cond, List, [], ◌∷◌, ◌++◌, map, filter, slice_get, Some, refl, sym, ap}
use Rattle.std.proofs.Common.{subst, ◌∙◌}
use Rattle.std.specs.List.{AllByRecursion, find}
use Rattle.std.proofs.lemmas.Option.{same_Some}
use Rattle.proof_tools.proofs.Booleans.{cond_either}
use Rattle.object_store.specs.Rows.{changed}
use Rattle.object_store.specs.Store.{SeenRow}

pub all_mapped : (P Q : SeenRow → Type 0) (f : SeenRow → SeenRow) → ((row : SeenRow) → P row → Q (f row)) → (rows : List SeenRow)
    → AllByRecursion P rows → AllByRecursion Q (map f rows)
all_mapped P Q f so [] all = tt
all_mapped P Q f so (row ∷ rows) all = (so row all.0, all_mapped P Q f so rows all.1)

pub all_filtered : (P : SeenRow → Type 0) (test : SeenRow → Bool) (rows : List SeenRow) → AllByRecursion P rows
    → AllByRecursion P (filter test rows)
all_filtered P test [] all = tt
all_filtered P test (row ∷ rows) all =
    cond_either (AllByRecursion P) (test row) (row ∷ filter test rows) (filter test rows) (all.0, all_filtered P test rows all.1)
    (all_filtered P test rows all.1)

pub all_pushed : (P : SeenRow → Type 0) (rows : List SeenRow) (new : SeenRow) → AllByRecursion P rows → P new
    → AllByRecursion P (rows ++ new ∷ [])
all_pushed P [] new all is = (is, tt)
all_pushed P (row ∷ rows) new all is = (all.0, all_pushed P rows new all.1 is)

-- the first row that passes is changed
pub all_changed : (P : SeenRow → Type 0) (test : SeenRow → Bool) (change : List ℕ → List ℕ) (found : SeenRow)
    → (test found ≡ true → P found → P (record found { bytes = change found.bytes })) → (rows : List SeenRow)
    → find test rows ≡ Some found → AllByRecursion P rows → AllByRecursion P (changed test change rows)
all_changed P test change found so [] on all = tt
all_changed P test change found so (row ∷ rows) on all =
    by_test (test row) refl on (λ later. all_changed P test change found so rows later all.1)
  where
    by_test : (b : Bool) → test row ≡ b → cond b (Some row) (find test rows) ≡ Some found
        → (find test rows ≡ Some found → AllByRecursion P (changed test change rows))
        → AllByRecursion P (cond b ((record row { bytes = change row.bytes }) ∷ rows) (row ∷ changed test change rows))
    by_test true is on later =
        let same : found ≡ row = sym (same_Some row found on) in (
          subst (λ (r : SeenRow). P (record r { bytes = change r.bytes })) same
              (so (ap test same ∙ is) (subst P (sym same) all.0)),
          all.1,
        )
    by_test false is on later = (all.0, later on)

pub all_at : (P : SeenRow → Type 0) (rows : List SeenRow) (i : ℕ) (row : SeenRow) → slice_get rows i ≡ Some row → AllByRecursion P rows
    → P row
all_at P [] i row got all = absurd (cc (got))
all_at P (first ∷ rows) zero row got all = subst P (same_Some first row got) all.0
all_at P (first ∷ rows) (suc i) row got all = all_at P rows i row got all.1

pub all_from : (P : SeenRow → Type 0) (rows : List SeenRow) → ((i : ℕ) (row : SeenRow) → slice_get rows i ≡ Some row → P row)
    → AllByRecursion P rows
all_from P [] each = tt
all_from P (row ∷ rows) each = (each 0 row refl, all_from P rows (λ i one got. each (suc i) one got))
