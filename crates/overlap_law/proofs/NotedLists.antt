-- Who has some row of an object has the object among those of which it has rows.
use Rattle.std.proofs.Common.{◌≡◌, ⊎_elim, ℕ, ◌==◌, Bool, true, List, [], ◌∷◌, Contains, Option, Some, None, unwrap_or, refl}
use Rattle.std.specs.List.{list_any}
use Rattle.std.specs.FinMap as tree
use Rattle.std.proofs.lemmas.Bool.{eq-eqb, or_left, or_right}
use Rattle.proof_tools.proofs.Lists.{Contains-nil, Contains-cons_cases}
use Rattle.proof_tools.proofs.FiniteMaps.{keys-contain}
use Rattle.object_store.specs.Store.{SeenRow, AllRows, rows_of}
use Rattle.overlap_law.specs.Holders.{is_object_among}

among_contained : (oids : List ℕ) (oid : ℕ) → Contains oids oid → is_object_among oid oids ≡ true
among_contained [] oid there = absurd (Contains-nil oid there)
among_contained (first ∷ oids) oid there = ⊎_elim
    (λ (same : first ≡ oid). or_left (first == oid) (is_object_among oid oids) (eq-eqb first oid same))
    (λ (later : Contains oids oid). or_right (first == oid) (is_object_among oid oids) (among_contained oids oid later))
    (Contains-cons_cases first oids oid there)

-- who has some row of an object has the object
pub row_among : (rows : AllRows) (oid : ℕ) (p : SeenRow → Bool) → list_any p (rows_of rows oid) ≡ true
    → is_object_among oid (tree.keys rows) ≡ true
row_among rows oid p any = by_rows (tree.get rows oid) refl any
  where
    by_rows : (o : Option (List SeenRow)) → tree.get rows oid ≡ o → list_any p (unwrap_or o []) ≡ true
        → is_object_among oid (tree.keys rows) ≡ true
    by_rows None is any = absurd (cc (any))
    by_rows (Some own) is any = among_contained (tree.keys rows) oid (keys-contain tree.nat_cmp-IsAntisymmetric rows oid own is)
