-- The ascending union of lists of object ids.
use Rattle.std.specs.Prelude.{ℕ, ◌==◌, nat_lt, List, [], ◌∷◌, fold, if◌then◌else◌}

-- the ids with one more, at its place; the same ids where it is there already
abbrev pub with_id : List ℕ → ℕ → List ℕ
with_id [] oid = oid ∷ []
with_id (first ∷ rest) oid =
    if nat_lt oid first then oid ∷ first ∷ rest else if oid == first then first ∷ rest else first ∷ with_id rest oid

-- the ids with each of the others
abbrev pub union : List ℕ → List ℕ → List ℕ
union oids others = fold with_id oids others
