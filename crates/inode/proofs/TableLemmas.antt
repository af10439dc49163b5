-- Tables: how many entries are read, and that a table of entries passes the test.
use Rattle.std.proofs.Common.{◌≡◌, ℕ, suc, ◌+◌, ◌-◌, ◌*◌, ◌^◌, ◌<◌, ◌≤◌, Bool, true, false, ◌&&◌, List, [], ◌∷◌, refl, sym, ap, ◌∙◌, arith, All}
use Rattle.std.specs.List.{list_all, AllByRecursion}
use Rattle.std.specs.Int.{w32}
use Rattle.std.proofs.lemmas.Bool.{leb-true, le-leb, and_parts, and_from, and_left}
use Rattle.std.proofs.lemmas.List.Elements.{recursion_from_All, All-from_recursion}
use Rattle.object_id.specs.declared.limits.TheConstants.{VID_MAX}
use Rattle.object_id.specs.Fields.{number_at, numbers_at}
use Rattle.inode.specs.Layout.{IsEntry}
use Rattle.inode.specs.Reading.{is_entry}

entries-by_test : (table : List ℕ) → list_all is_entry table ≡ true → AllByRecursion IsEntry table
entries-by_test [] h = tt
entries-by_test (e ∷ es) h =
    let both = and_parts (is_entry e) (list_all is_entry es) h in
    (leb-true e VID_MAX both.0, entries-by_test es both.1)

pub entries-pass : (table : List ℕ) → list_all is_entry table ≡ true → All IsEntry table
entries-pass table h = All-from_recursion IsEntry table (entries-by_test table h)

test-by_entries : (table : List ℕ) → AllByRecursion IsEntry table → list_all is_entry table ≡ true
test-by_entries [] h = refl
test-by_entries (e ∷ es) h = and_from (is_entry e) (list_all is_entry es) (le-leb e VID_MAX h.0) (test-by_entries es h.1)

pub pass-entries : (table : List ℕ) → All IsEntry table → list_all is_entry table ≡ true
pass-entries table h = test-by_entries table (recursion_from_All IsEntry table h)

entries-small : (table : List ℕ) → AllByRecursion IsEntry table → AllByRecursion (λ n. n < 2 ^ 32) table
entries-small [] h = tt
entries-small (e ∷ es) h = (omega (arith, h.0), entries-small es h.1)

pub entries-fit : (table : List ℕ) → All IsEntry table → AllByRecursion (λ n. n < 2 ^ 32) table
entries-fit table h = entries-small table (recursion_from_All IsEntry table h)

-- ---- the loop that tests: what is left tells the answer

pub test-goes_on : (count place at : ℕ) (bytes : List ℕ) (total : Bool) → place < count → is_entry (number_at w32 (at + 4 * place) bytes) ≡ true
    → list_all is_entry (numbers_at w32 (count - place) (at + 4 * place) bytes) ≡ total
    → list_all is_entry (numbers_at w32 (count - (place + 1)) (at + 4 * (place + 1)) bytes) ≡ total
test-goes_on count place at bytes total lt one so_far =
    let left : count - place ≡ suc (count - (place + 1)) = omega arith in
    let next : at + 4 * place + 4 ≡ at + 4 * (place + 1) = omega arith in
    let rest : List ℕ = numbers_at w32 (count - (place + 1)) (at + 4 * place + 4) bytes in
    let here : list_all is_entry (numbers_at w32 (count - place) (at + 4 * place) bytes) ≡ list_all is_entry rest
    = ap (λ n. list_all is_entry (numbers_at w32 n (at + 4 * place) bytes)) left ∙ ap (λ b. b && list_all is_entry rest) one in
    ap (λ n. list_all is_entry (numbers_at w32 (count - (place + 1)) n bytes)) (sym next) ∙ sym here ∙ so_far

pub test-fails : (count place at : ℕ) (bytes : List ℕ) (total : Bool) → place < count → is_entry (number_at w32 (at + 4 * place) bytes) ≡ false
    → list_all is_entry (numbers_at w32 (count - place) (at + 4 * place) bytes) ≡ total → false ≡ total
test-fails count place at bytes total lt one so_far =
    let left : count - place ≡ suc (count - (place + 1)) = omega arith in
    let rest : List ℕ = numbers_at w32 (count - (place + 1)) (at + 4 * place + 4) bytes in
    let here : list_all is_entry (numbers_at w32 (count - place) (at + 4 * place) bytes) ≡ false
    = ap (λ n. list_all is_entry (numbers_at w32 n (at + 4 * place) bytes)) left ∙ and_left _ (list_all is_entry rest) one in
    sym here ∙ so_far

pub test-ends : (count place at : ℕ) (bytes : List ℕ) (total : Bool) → count ≤ place
    → list_all is_entry (numbers_at w32 (count - place) (at + 4 * place) bytes) ≡ total → true ≡ total
test-ends count place at bytes total le so_far =
    let none : count - place ≡ 0 = omega arith in
    sym (ap (λ n. list_all is_entry (numbers_at w32 n (at + 4 * place) bytes)) none) ∙ so_far
