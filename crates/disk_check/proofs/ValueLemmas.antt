-- What pieces tell: those of one value give it and agree, and whole copies are compared with the first.
use Rattle.std.proofs.Common.{◌≡◌, ◌↔◌, ℕ, zero, suc, ◌+◌, ◌≤◌, not, Bool, true, false, ◌||◌, List, [], ◌∷◌, length, map, All, bytes_eq, refl, sym, ap, ◌∙◌, arith}
use Rattle.std.specs.List.{list_any, range_with_len, enumerate_from}
use Rattle.std.proofs.lemmas.List.Elements.{All-cons, All-head, All-tail}
use Rattle.std.proofs.lemmas.List.FromFn.{length-range_with_len, take-map-range_with_len}
use Rattle.std.proofs.lemmas.Slice.Eq.{bytes_eq-Decides}
use Rattle.object_id.specs.declared.oid.Kind.TheVariants.{Block}
use Rattle.object_id.specs.declared.policy.Policy.{Policy}
use Rattle.object_id.specs.declared.policy.Policy.TheVariants.{Copies, Coded}
use Rattle.object_id.specs.Policy.{IsPolicy, wanted_of}
use Rattle.object_id.specs.Fields.{AreBytes}
use Rattle.gf256.proofs.Points.{range_points, points_to}
use Rattle.gf256.specs.Part.{IsAligned, part, bytes_of_parts, index_at}
use Rattle.gf256.proofs.PartLaws.{bytes_of_parts-part}
use Rattle.gf256.proofs.Widths.{width_most}
use Rattle.disk_check.specs.Value.{value_of, is_other_piece, differ}

-- what the target at a place keeps of bytes
abbrev kept : Policy → List ℕ → ℕ → List ℕ
kept policy bytes place = part policy Block (index_at policy Block place) bytes

first_copy : (copies : ℕ) (bytes : List ℕ) → 1 ≤ copies
    → value_of (Copies copies) (map (kept (Copies copies) bytes) (range_with_len 0 copies)) ≡ bytes
unfolding bytes_of_parts part
first_copy zero bytes some = absurd (omega arith)
first_copy (suc copies) bytes some = refl

pub value_of-parts : (policy : Policy) (bytes : List ℕ) → IsPolicy policy → AreBytes bytes → IsAligned policy Block (length bytes)
    → value_of policy (map (λ place. part policy Block (index_at policy Block place) bytes) (range_with_len 0 (wanted_of policy Block))) ≡ bytes
value_of-parts (Copies copies) bytes is are whole = first_copy copies bytes is.0
value_of-parts (Coded d p) bytes is are whole =
    let most : d ≤ 16 = width_most d is.0 in
    ap (bytes_of_parts (Coded d p) Block (range_with_len 0 d))
    (take-map-range_with_len (λ place. part (Coded d p) Block place bytes) 0 (d + p) d (omega arith))
    ∙ bytes_of_parts-part (Coded d p) Block (range_with_len 0 d) bytes is
    (points_to (range_with_len 0 d) (range_points 0 d (omega arith))) (length-range_with_len 0 d) are whole

equal_bytes : (bytes : List ℕ) → bytes_eq bytes bytes ≡ true
equal_bytes bytes = (bytes_eq-Decides bytes bytes).1 refl

none_other : (policy : Policy) (bytes : List ℕ) (first count : ℕ)
    → list_any (is_other_piece policy bytes) (enumerate_from first (map (kept policy bytes) (range_with_len first count))) ≡ false
none_other policy bytes first zero = refl
none_other policy bytes first (suc count) =
    ap (λ b. not b || list_any (is_other_piece policy bytes) (enumerate_from (first + 1) (map (kept policy bytes) (range_with_len (first + 1) count))))
    (equal_bytes (kept policy bytes first))
    ∙ none_other policy bytes (first + 1) count

pub differ-parts : (policy : Policy) (bytes : List ℕ) → IsPolicy policy → AreBytes bytes → IsAligned policy Block (length bytes)
    → differ policy (map (λ place. part policy Block (index_at policy Block place) bytes) (range_with_len 0 (wanted_of policy Block))) ≡ false
differ-parts policy bytes is are whole =
    ap (λ value. list_any (is_other_piece policy value) (enumerate_from 0 (map (kept policy bytes) (range_with_len 0 (wanted_of policy Block)))))
    (value_of-parts policy bytes is are whole)
    ∙ none_other policy bytes 0 (wanted_of policy Block)

pub value_of-copies : (copies : ℕ) (first : List ℕ) (others : List (List ℕ)) → value_of (Copies copies) (first ∷ others) ≡ first
unfolding bytes_of_parts
value_of-copies copies first others = refl

-- whether a copy is among these that isn't the first
abbrev other_among : ℕ → List ℕ → ℕ → List (List ℕ) → Bool
other_among copies first place pieces = list_any (is_other_piece (Copies copies) first) (enumerate_from place pieces)

all_same : (copies : ℕ) (first : List ℕ) (place : ℕ) (pieces : List (List ℕ)) → other_among copies first place pieces ≡ false
    → All (λ (piece : List ℕ). piece ≡ first) pieces
unfolding part
all_same copies first place [] none = λ k d within. absurd (omega arith)
all_same copies first place (piece ∷ pieces) none =
    by (bytes_eq piece first) (other_among copies first (place + 1) pieces) (bytes_eq-Decides piece first).0
    (all_same copies first (place + 1) pieces) none
  where
    by : (same any : Bool) → (same ≡ true → piece ≡ first) → (any ≡ false → All (λ (p : List ℕ). p ≡ first) pieces)
        → (not same || any) ≡ false → All (λ (p : List ℕ). p ≡ first) (piece ∷ pieces)
    by true any is rest e = All-cons (λ (p : List ℕ). p ≡ first) piece pieces (is refl) (rest e)
    by false any is rest e = absurd (cc (e))

none_differs : (copies : ℕ) (first : List ℕ) (place : ℕ) (pieces : List (List ℕ)) → All (λ (piece : List ℕ). piece ≡ first) pieces
    → other_among copies first place pieces ≡ false
unfolding part
none_differs copies first place [] all = refl
none_differs copies first place (piece ∷ pieces) all =
    ap (λ b. not b || other_among copies first (place + 1) pieces)
    ((bytes_eq-Decides piece first).1 (All-head (λ (p : List ℕ). p ≡ first) piece pieces all))
    ∙ none_differs copies first (place + 1) pieces (All-tail (λ (p : List ℕ). p ≡ first) piece pieces all)

pub differ-copies : (copies : ℕ) (first : List ℕ) (others : List (List ℕ))
    → (differ (Copies copies) (first ∷ others) ≡ false) ↔ All (λ (piece : List ℕ). piece ≡ first) others
unfolding bytes_of_parts part
differ-copies copies first others = (
  (λ none. all_same copies first 1 others
      (ap (λ b. not b || other_among copies first 1 others) (sym (equal_bytes first)) ∙ none)),
  λ all. ap (λ b. not b || other_among copies first 1 others) (equal_bytes first) ∙ none_differs copies first 1 others all,
)
