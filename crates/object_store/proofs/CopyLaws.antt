-- Which row is an object's at a level, and what a copy has of a row's bytes.
use Rattle.std.proofs.Common.{◌≡◌, ◌≢◌, ◌⊎◌, inl, inr, ℕ, suc, ◌+◌, ◌-◌, ◌<◌, ◌≤◌, Bool, true, false, ◌&&◌, cond, nat_eq, List, [], ◌∷◌, ◌++◌, length, take, drop, min, get_or, fold, Option, None, Some, unwrap_or, refl, ap, ap₂, sym, ◌∙◌, subst, arith, length-append}
use Rattle.std.proofs.lemmas.Bool.{leb-true, leb-false, and_parts, eqb-true}
use Rattle.std.proofs.lemmas.Bool.Decides.{nat_tests}
use Rattle.std.specs.List.{AllByRecursion}
use Rattle.std.proofs.Math.Bool.{and-true}
use Rattle.std.proofs.lemmas.List.{nil_from_length, take_all, length-take, length-replicate}
use Rattle.object_store.specs.declared.row.Row.{Row}
use Rattle.object_store.specs.declared.row.RowCopy.{RowCopy}
use Rattle.object_store.specs.Store.{SeenRow, copy_of, row_bytes}
use Rattle.object_id.specs.Fields.{zeros}
use Rattle.object_store.specs.Bytes.{trimmed_bytes}
use Rattle.object_store.specs.Rows.{holds, is_no_later, better, row_holding, IsRowAt}

both : (a b : Bool) → (a && b) ≡ false → a ≡ true → b ≡ false
both true b is held = is
both false b is held = absurd (cc held)

module _ {B : Type 0} (level : ℕ) where
  -- the row stands in the list as the one at the level, and is from no earlier epoch than the best so far
  abbrev Stands : Option (Row B) → List (Row B) → Row B → Type 0
  Stands best rows row = IsRowAt level rows row × (is_no_later best row ≡ true)

  -- the best so far is the row, and each further one that holds the level is from an earlier epoch
  abbrev Stays : Option (Row B) → List (Row B) → Row B → Type 0
  Stays best rows row = (best ≡ Some row) × AllByRecursion (λ r. holds level r ≡ true → r.from.0 < row.from.0) rows

  later : (best : Option (Row B)) (x row : Row B) → is_no_later best x ≡ true → x.from.0 ≤ row.from.0 → is_no_later best row ≡ true
  later None x row no_later le = refl
  later (Some b) x row no_later le = grind (arith, nat_tests)

  below : (b x : Row B) → is_no_later (Some b) x ≡ false → x.from.0 < b.from.0
  below b x is = leb-false b.from.0 x.from.0 is

  passed : (best : Option (Row B)) (x row : Row B) → is_no_later best x ≡ false → is_no_later best row ≡ true → x.from.0 ≤ row.from.0
  passed None x row earlier no_later = absurd (cc earlier)
  passed (Some b) x row earlier no_later = grind (arith, nat_tests)

  pub best_of : (rows : List (Row B)) (best : Option (Row B)) (row : Row B) → fold (better level) best rows ≡ Some row → Stays best rows row ⊎ Stands best rows row
  best_of [] best row is = inl (is, tt)
  best_of (x ∷ rows) best row is = go (λ b. best_of rows b row) (holds level x && is_no_later best x) refl is
    where
      taken : (holds level x && is_no_later best x) ≡ true → Stays (Some x) rows row ⊎ Stands (Some x) rows row → Stays best (x ∷ rows) row ⊎ Stands best (x ∷ rows) row
      taken test (inl stays) =
          let same : x ≡ row = ap (λ o. unwrap_or o x) stays.0 in
          let held = and_parts (holds level x) (is_no_later best x) test in
          inr (([], rows, ap (λ r. r ∷ rows) same, subst (λ r. holds level r ≡ true) same held.0, tt, stays.1), subst (λ r. is_no_later best r ≡ true) same held.1)
      taken test (inr stands) =
          let held = and_parts (holds level x) (is_no_later best x) test in
          let le : x.from.0 ≤ row.from.0 = leb-true x.from.0 row.from.0 stands.1 in
          let at = stands.0 in
          inr ((x ∷ at.0, at.1, ap (λ rs. x ∷ rs) at.2, at.3, (λ _. le, at.4), at.5), later best x row held.1 le)

      left : (holds level x && is_no_later best x) ≡ false → Stays best rows row ⊎ Stands best rows row → Stays best (x ∷ rows) row ⊎ Stands best (x ∷ rows) row
      left test (inl stays) =
          inl (stays.0, (λ held. below row x (subst (λ o. is_no_later o x ≡ false) stays.0 (both (holds level x) (is_no_later best x) test held)), stays.1))
      left test (inr stands) =
          let at = stands.0 in
          inr (
            (
              x ∷ at.0,
              at.1,
              ap (λ rs. x ∷ rs) at.2,
              at.3,
              (λ held. passed best x row (both (holds level x) (is_no_later best x) test held) stands.1, at.4),
              at.5,
            ),
            stands.1,
          )

      go : ((b : Option (Row B)) → fold (better level) b rows ≡ Some row → Stays b rows row ⊎ Stands b rows row)
          → (t : Bool) → (holds level x && is_no_later best x) ≡ t → fold (better level) (cond t (Some x) best) rows ≡ Some row → Stays best (x ∷ rows) row ⊎ Stands best (x ∷ rows) row
      go rest true test is' = taken test (rest (Some x) is')
      go rest false test is' = left test (rest best is')

  pub row_at-some : (rows : List (Row B)) (row : Row B) → row_holding level rows ≡ Some row → IsRowAt level rows row
  row_at-some rows row is = go (best_of rows None row is)
    where
      go : Stays None rows row ⊎ Stands None rows row → IsRowAt level rows row
      go (inl stays) = absurd (cc stays.0)
      go (inr stands) = stands.0

  none_of : (rows : List (Row B)) (best : Option (Row B)) → fold (better level) best rows ≡ None → (best ≡ None) × AllByRecursion (λ r. holds level r ≡ false) rows
  none_of [] best is = (is, tt)
  none_of (x ∷ rows) best is = go (none_of rows) (holds level x && is_no_later best x) refl is
    where
      go : ((b : Option (Row B)) → fold (better level) b rows ≡ None → (b ≡ None) × AllByRecursion (λ r. holds level r ≡ false) rows)
          → (t : Bool) → (holds level x && is_no_later best x) ≡ t → fold (better level) (cond t (Some x) best) rows ≡ None → (best ≡ None) × AllByRecursion (λ r. holds level r ≡ false) (x ∷ rows)
      go rest true test is' = let none = rest (Some x) is' in absurd (cc none.0)
      go rest false test is' =
          let none = rest best is' in
          (none.0, (sym (and-true (holds level x)) ∙ (subst (λ o. (holds level x && is_no_later o x) ≡ false) none.0 test), none.1))

  pub row_at-none : (rows : List (Row B)) → row_holding level rows ≡ None → AllByRecursion (λ r. holds level r ≡ false) rows
  row_at-none rows is = (none_of rows None is).1

-- ---- bytes up to the last that isn't 0

abbrev Padded : List ℕ → Type 0
Padded bytes = trimmed_bytes bytes ++ zeros (length bytes - length (trimmed_bytes bytes)) ≡ bytes

pub trimmed_bytes-padded : (bytes : List ℕ) → Padded bytes
trimmed_bytes-padded [] = refl
trimmed_bytes-padded (byte ∷ bytes) = go (trimmed_bytes-padded bytes) (nat_eq byte 0) (nat_eq (length (trimmed_bytes bytes)) 0) refl refl
  where
    longer : length (byte ∷ bytes) - length (byte ∷ trimmed_bytes bytes) ≡ length bytes - length (trimmed_bytes bytes)
    longer = omega arith

    kept : Padded bytes → (byte ∷ trimmed_bytes bytes) ++ zeros (length (byte ∷ bytes) - length (byte ∷ trimmed_bytes bytes)) ≡ byte ∷ bytes
    kept rest = ap (λ n. byte ∷ (trimmed_bytes bytes ++ zeros n)) longer ∙ ap (λ xs. byte ∷ xs) rest

    go : Padded bytes → (z e : Bool) → nat_eq byte 0 ≡ z → nat_eq (length (trimmed_bytes bytes)) 0 ≡ e
        → cond (z && e) [] (byte ∷ trimmed_bytes bytes) ++ zeros (length (byte ∷ bytes) - length (cond (z && e) [] (byte ∷ trimmed_bytes bytes))) ≡ byte ∷ bytes
    go rest true true is_zero none =
        let nil : trimmed_bytes bytes ≡ [] = nil_from_length (trimmed_bytes bytes) (eqb-true (length (trimmed_bytes bytes)) 0 none) in
        let whole : length bytes - 0 ≡ length bytes = omega arith in
        let more : length (byte ∷ bytes) - 0 ≡ suc (length bytes) = omega arith in
        let all : zeros (length bytes) ≡ bytes = ap zeros (sym whole) ∙ subst (λ t. t ++ zeros (length bytes - length t) ≡ bytes) nil rest in
        let zero_first : 0 ≡ byte = grind (arith, nat_tests) in
        ap zeros more ∙ ap (λ xs. 0 ∷ xs) all ∙ ap (λ b. b ∷ bytes) zero_first
    go rest true false is_zero some = kept rest
    go rest false true other none = kept rest
    go rest false false other some = kept rest

-- a copy has all the row's bytes
pub row_bytes-copy_of : (row : SeenRow) → row_bytes (copy_of row) ≡ row.bytes
row_bytes-copy_of row =
    ap (λ (bytes : List ℕ). bytes ++ zeros (length row.bytes - length (trimmed_bytes row.bytes)))
    (take_all (length row.bytes) (trimmed_bytes row.bytes) within)
    ∙ trimmed_bytes-padded row.bytes
  where
    within : length (trimmed_bytes row.bytes) ≤ length row.bytes
    within =
        let sum : length (trimmed_bytes row.bytes) + (length row.bytes - length (trimmed_bytes row.bytes)) ≡ length row.bytes
        = ap (λ (n : ℕ). length (trimmed_bytes row.bytes) + n) (sym (length-replicate (length row.bytes - length (trimmed_bytes row.bytes)) 0))
        ∙ sym (length-append (trimmed_bytes row.bytes) (zeros (length row.bytes - length (trimmed_bytes row.bytes))))
        ∙ ap (λ (bytes : List ℕ). length bytes) (trimmed_bytes-padded row.bytes) in
        omega arith

-- whatever bytes a copy has, its row has its length
pub length-row_bytes : (copy : RowCopy) → length (row_bytes copy) ≡ copy.length
length-row_bytes copy =
    length-append (take copy.length copy.bytes) (zeros (copy.length - length copy.bytes))
    ∙ ap₂ (λ (m n : ℕ). m + n) (length-take copy.length copy.bytes) (length-replicate (copy.length - length copy.bytes) 0)
    ∙ (let sum : min copy.length (length copy.bytes) + (copy.length - length copy.bytes) ≡ copy.length = omega arith in sum)

abbrev NoZeroAtEnd : List ℕ → Type 0
NoZeroAtEnd bytes = (front : List ℕ) → trimmed_bytes bytes ≢ front ++ 0 ∷ []

pub trimmed_bytes-last : (bytes : List ℕ) → NoZeroAtEnd bytes
trimmed_bytes-last [] [] is = absurd (cc is)
trimmed_bytes-last [] (f ∷ front) is = absurd (cc is)
trimmed_bytes-last (byte ∷ bytes) front is = go (trimmed_bytes-last bytes) (nat_eq byte 0) (nat_eq (length (trimmed_bytes bytes)) 0) refl refl front is
  where
    empty : (xs : List ℕ) → [] ≢ xs ++ 0 ∷ []
    empty [] is = absurd (cc is)
    empty (x ∷ xs) is = absurd (cc is)

    kept : NoZeroAtEnd bytes → (front : List ℕ) → (nat_eq byte 0 && nat_eq (length (trimmed_bytes bytes)) 0) ≡ false → byte ∷ trimmed_bytes bytes ≢ front ++ 0 ∷ []
    kept rest [] test is =
        let same : byte ≡ 0 = ap (λ xs. get_or xs 0 0) is in
        let nil : trimmed_bytes bytes ≡ [] = ap (drop 1) is in
        absurd (cc (test, ap (λ b. nat_eq b 0) same, ap (λ xs. nat_eq (length xs) 0) nil))
    kept rest (f ∷ front) test is = rest front (ap (drop 1) is)

    go : NoZeroAtEnd bytes → (z e : Bool) → nat_eq byte 0 ≡ z → nat_eq (length (trimmed_bytes bytes)) 0 ≡ e → (front : List ℕ) → cond (z && e) [] (byte ∷ trimmed_bytes bytes) ≢ front ++ 0 ∷ []
    go rest true true is_zero none front is = empty front is
    go rest true false is_zero some front is = kept rest front (ap (λ e. nat_eq byte 0 && e) some ∙ ap (λ z. z && false) is_zero) is
    go rest false true other none front is = kept rest front (ap (λ z. z && nat_eq (length (trimmed_bytes bytes)) 0) other) is
    go rest false false other some front is = kept rest front (ap (λ z. z && nat_eq (length (trimmed_bytes bytes)) 0) other) is
