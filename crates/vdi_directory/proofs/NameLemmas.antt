-- The tree of names, asked by bytes, and what a name stands for in it.
use Rattle.std.proofs.Common.{◌≡◌, ℕ, Bool, true, false, cond, nat_eq, List, [], ◌∷◌, Some, None, refl, ap, sym, ◌∙◌, Ordering, arith}
use Rattle.std.specs.declared.vec.Vec.{Vec}
use Rattle.std.specs.declared.alloc.Global.{Global}
use Rattle.std.specs.declared.cmp.Ordering.TheVariants.{Less, Equal, Greater}
use Rattle.std.specs.Ordering.{is_eq, nat_cmp, match_ordering}
use Rattle.std.specs.Cmp.{tied_itself, Equal-is}
use Rattle.std.specs.Cmp.Lexicographic.{slice_cmp, pointwise}
use Rattle.std.specs.FinMap as tree
use Rattle.std.specs.Map.{lookup, set_value, remove_entry}
use Rattle.std.specs.BTreeMap.{is_at, insert_entry}
use Rattle.std.proofs.lemmas.Bool.{both_ways}
use Rattle.std.proofs.lemmas.Bool.Decides.{nat_tests}
use Rattle.std.proofs.lemmas.Cmp.{nat_list_cmp_total, same_from_slice_cmp}
use Rattle.vdi_directory.specs.declared.named.Named.{Named}
use Rattle.vdi_directory.specs.Names.{is_same_bytes}
use Rattle.vdi_directory.specs.NameRows.{Standing, no_standing, standing_in, standing_or_none}

abbrev pub Key : Type 0
Key = Vec ℕ Global

abbrev pub is_key : List ℕ → Key → Bool
is_key name key = is_at (λ (k : Key). slice_cmp nat_cmp name k.items) key

abbrev pub key_cmp : Key → Key → Ordering
key_cmp a b = slice_cmp nat_cmp a.items b.items

key-is : (name : List ℕ) (key : Key) → is_key name key ≡ true → name ≡ key.items
key-is name key e = tree.slice_cmp-IsAntisymmetric tree.nat_cmp-IsAntisymmetric name key.items ((Equal-is _).0 e)

pub is-key : (name : List ℕ) (key : Key) → name ≡ key.items → is_key name key ≡ true
is-key name key e = ap (λ bytes. is_eq (slice_cmp nat_cmp name bytes)) (sym e) ∙ ap is_eq (tied_itself nat_list_cmp_total name)

same-cmp : (a b : List ℕ) → is_eq (slice_cmp nat_cmp a b) ≡ is_same_bytes a b
same-cmp a b = same_from_slice_cmp nat_cmp is_eq (pointwise nat_eq) refl (λ _ _. refl) (λ _ _. refl) (λ x y xs ys o h. grind (arith, nat_tests)) a b _ refl

pub same-is : (a b : List ℕ) → is_same_bytes a b ≡ true → a ≡ b
same-is a b e = tree.slice_cmp-IsAntisymmetric tree.nat_cmp-IsAntisymmetric a b ((Equal-is _).0 (same-cmp a b ∙ e))

pub is-same : (a b : List ℕ) → a ≡ b → is_same_bytes a b ≡ true
is-same a b e = ap (is_same_bytes a) (sym e) ∙ sym (same-cmp a a) ∙ ap is_eq (tied_itself nat_list_cmp_total a)

pub is-key-turned : (name : List ℕ) (key : Key) → is_key name key ≡ is_same_bytes key.items name
is-key-turned name key = by_tests (is_key name key) (is_same_bytes key.items name) refl refl
  where
    by_tests : (b c : Bool) → is_key name key ≡ b → is_same_bytes key.items name ≡ c → b ≡ c
    by_tests true true here there = refl
    by_tests true false here there =
        absurd (both_ways (is_same_bytes key.items name) there (is-same key.items name (sym (key-is name key here))))
    by_tests false true here there = absurd (both_ways (is_key name key) here (is-key name key (sym (same-is key.items name there))))
    by_tests false false here there = refl

-- what one name has, once another's value was written
pub set-row : (es : List (Key × Named)) (name other : List ℕ) (old new : Named) → lookup (is_key name) es ≡ Some old
    → standing_or_none (lookup (is_key other) (set_value (is_key name) es new))
    ≡ cond (is_same_bytes name other) (standing_in new) (standing_or_none (lookup (is_key other) es))
set-row [] name other old new there = cc
set-row (e ∷ es) name other old new there =
    by_test (is_key name e.0) (is_key other e.0) (is_same_bytes name other) refl refl refl there (set-row es name other old new)
  where
    by_test : (b c d : Bool) → is_key name e.0 ≡ b → is_key other e.0 ≡ c → is_same_bytes name other ≡ d
        → cond b (Some e.1) (lookup (is_key name) es) ≡ Some old
        → (lookup (is_key name) es ≡ Some old → standing_or_none (lookup (is_key other) (set_value (is_key name) es new))
        ≡ cond (is_same_bytes name other) (standing_in new) (standing_or_none (lookup (is_key other) es)))
        → standing_or_none (lookup (is_key other) (cond b ((e.0, new) ∷ es) (e ∷ set_value (is_key name) es new)))
        ≡ cond d (standing_in new) (standing_or_none (cond c (Some e.1) (lookup (is_key other) es)))
    by_test true true true here too same is later = ap (λ t. standing_or_none (cond t (Some new) (lookup (is_key other) es))) too
    by_test true true false here too apart is later =
        absurd (both_ways (is_same_bytes name other) apart (is-same name other (key-is name e.0 here ∙ sym (key-is other e.0 too))))
    by_test true false true here not same is later =
        absurd (both_ways (is_key other e.0) not (is-key other e.0 (sym (same-is name other same) ∙ key-is name e.0 here)))
    by_test true false false here not apart is later = ap (λ t. standing_or_none (cond t (Some new) (lookup (is_key other) es))) not
    by_test false true true not too same is later =
        absurd (both_ways (is_key name e.0) not (is-key name e.0 (same-is name other same ∙ key-is other e.0 too)))
    by_test false true false not too apart is later =
        ap (λ t. standing_or_none (cond t (Some e.1) (lookup (is_key other) (set_value (is_key name) es new)))) too
    by_test false false true not neither same is later =
        ap (λ t. standing_or_none (cond t (Some e.1) (lookup (is_key other) (set_value (is_key name) es new)))) neither
        ∙ later is ∙ ap (λ t. cond t (standing_in new) (standing_or_none (lookup (is_key other) es))) same
    by_test false false false not neither apart is later =
        ap (λ t. standing_or_none (cond t (Some e.1) (lookup (is_key other) (set_value (is_key name) es new)))) neither
        ∙ later is ∙ ap (λ t. cond t (standing_in new) (standing_or_none (lookup (is_key other) es))) apart

-- one name changes as its value does
pub change-row : (es new : List (Key × Named)) (name other : List ℕ) (old value : Named) (change : Standing → Standing)
    → lookup (is_key name) es ≡ Some old → standing_in value ≡ change (standing_in old) → new ≡ set_value (is_key name) es value
    → standing_or_none (lookup (is_key other) new)
    ≡ cond (is_same_bytes name other) (change (standing_or_none (lookup (is_key other) es))) (standing_or_none (lookup (is_key other) es))
change-row es new name other old value change there is put =
    ap (λ rows. standing_or_none (lookup (is_key other) rows)) put ∙ set-row es name other old value there
    ∙ by_test (is_same_bytes name other) refl
  where
    by_test : (b : Bool) → is_same_bytes name other ≡ b
        → cond b (standing_in value) (standing_or_none (lookup (is_key other) es))
        ≡ cond b (change (standing_or_none (lookup (is_key other) es))) (standing_or_none (lookup (is_key other) es))
    by_test true same =
        is ∙ ap change (sym (ap (λ q. standing_or_none (lookup (is_key q) es)) (sym (same-is name other same)) ∙ ap standing_or_none there))
    by_test false apart = refl

-- what a key finds, once one has a place
pub insert-row : {X : Type 0} (es : List (Key × X)) (key : Key) (value : X) (other : List ℕ)
    → lookup (is_key other) (insert_entry key_cmp es key value) ≡ cond (is_key other key) (Some value) (lookup (is_key other) es)
insert-row [] key value other = refl
insert-row (f ∷ fs) key value other = by_order (key_cmp key f.0) refl (is_key other key) (is_key other f.0) refl refl (insert-row fs key value other)
  where
    tied : (a b : List ℕ) → slice_cmp nat_cmp a b ≡ Equal → a ≡ b
    tied a b e = tree.slice_cmp-IsAntisymmetric tree.nat_cmp-IsAntisymmetric a b e

    apart : Greater ≡ Equal → ⊥
    apart e = cc

    by_order : (r : Ordering) → key_cmp key f.0 ≡ r → (b c : Bool) → is_key other key ≡ b → is_key other f.0 ≡ c
        → lookup (is_key other) (insert_entry key_cmp fs key value) ≡ cond (is_key other key) (Some value) (lookup (is_key other) fs)
        → lookup (is_key other) (match_ordering r ((key, value) ∷ f ∷ fs) ((f.0, value) ∷ fs) (f ∷ insert_entry key_cmp fs key value))
        ≡ cond (is_key other key) (Some value) (lookup (is_key other) (f ∷ fs))
    by_order Less at b c here there rest = refl
    by_order Equal at true c here there rest =
        let ours : is_key other f.0 ≡ true = is-key other f.0 (key-is other key here ∙ tied key.items f.0.items at) in
        ap (λ t. cond t (Some value) (lookup (is_key other) fs)) ours ∙ sym (ap (λ t. cond t (Some value) (lookup (is_key other) (f ∷ fs))) here)
    by_order Equal at false c here there rest =
        let ours : is_key other f.0 ≡ false = ap (λ bytes. is_eq (slice_cmp nat_cmp other bytes)) (sym (tied key.items f.0.items at)) ∙ here in
        ap (λ t. cond t (Some value) (lookup (is_key other) fs)) ours ∙ sym (ap (λ t. cond t (Some f.1) (lookup (is_key other) fs)) ours)
        ∙ sym (ap (λ t. cond t (Some value) (lookup (is_key other) (f ∷ fs))) here)
    by_order Greater at true true here there rest =
        absurd (apart (sym at ∙ ap (slice_cmp nat_cmp key.items) (sym (key-is other f.0 there) ∙ key-is other key here) ∙ tied_itself nat_list_cmp_total key.items))
    by_order Greater at true false here there rest =
        ap (λ t. cond t (Some f.1) (lookup (is_key other) (insert_entry key_cmp fs key value))) there
        ∙ rest ∙ ap (λ t. cond t (Some value) (lookup (is_key other) fs)) here
        ∙ sym (ap (λ t. cond t (Some value) (lookup (is_key other) (f ∷ fs))) here)
    by_order Greater at false c here there rest =
        ap (cond (is_key other f.0) (Some f.1)) (rest ∙ ap (λ t. cond t (Some value) (lookup (is_key other) fs)) here)
        ∙ sym (ap (λ t. cond t (Some value) (lookup (is_key other) (f ∷ fs))) here)

-- so that a name stands for nothing, as before
pub add-row : (es : List (Key × Named)) (key : Key) (none : Named) (name other : List ℕ) → standing_in none ≡ no_standing → key.items ≡ name
    → lookup (is_key name) es ≡ None
    → standing_or_none (lookup (is_key other) (insert_entry key_cmp es key none)) ≡ standing_or_none (lookup (is_key other) es)
add-row es key none name other empty is absent = ap standing_or_none (insert-row es key none other) ∙ by_test (is_key other key) refl
  where
    by_test : (b : Bool) → is_key other key ≡ b
        → standing_or_none (cond b (Some none) (lookup (is_key other) es)) ≡ standing_or_none (lookup (is_key other) es)
    by_test true here =
        let same : other ≡ name = key-is other key here ∙ is in
        empty ∙ sym (ap (λ q. standing_or_none (lookup (is_key q) es)) same ∙ ap standing_or_none absent)
    by_test false apart = refl

-- what a key finds, once another was removed
pub remove-row : {X : Type 0} (es : List (Key × X)) (name other : List ℕ) → is_same_bytes name other ≡ false
    → lookup (is_key other) (remove_entry (is_key name) es) ≡ lookup (is_key other) es
remove-row [] name other apart = refl
remove-row (e ∷ es) name other apart = by_test (is_key name e.0) refl (remove-row es name other apart)
  where
    by_test : (b : Bool) → is_key name e.0 ≡ b → lookup (is_key other) (remove_entry (is_key name) es) ≡ lookup (is_key other) es
        → lookup (is_key other) (cond b es (e ∷ remove_entry (is_key name) es)) ≡ lookup (is_key other) (e ∷ es)
    by_test true here later = by_other (is_key other e.0) refl
      where
        by_other : (c : Bool) → is_key other e.0 ≡ c → lookup (is_key other) es ≡ cond c (Some e.1) (lookup (is_key other) es)
        by_other true too =
            absurd (both_ways (is_same_bytes name other) apart (is-same name other (key-is name e.0 here ∙ sym (key-is other e.0 too))))
        by_other false not = refl
    by_test false there later = ap (cond (is_key other e.0) (Some e.1)) later
