-- Texts that end at a 0: what is read before it, and that a text in its field is read.
use Rattle.std.proofs.Common.{◌≡◌, ◌≢◌, ℕ, ◌+◌, ◌-◌, ◌<◌, ◌≤◌, Bool, true, false, cond, eqb, ltb, List, [], ◌∷◌, ◌++◌, length, take, drop, get_or, Option, Some, None, Result, Ok, refl, sym, ap, subst, ◌∙◌, arith, All}
use Rattle.std.specs.List.{position, position_or_len, AllByRecursion}
use Rattle.std.proofs.lemmas.Bool.{eqb-true, eqb-false, ne_eqb, lt-ltb}
use Rattle.std.proofs.lemmas.List.{take-append-drop, take_at, drop_more, get_or-take, get_or_default, length-append, length-take-le}
use Rattle.std.proofs.lemmas.List.Quantifiers.{position-Some}
use Rattle.std.proofs.lemmas.List.Elements.{recursion_from_All}
use Rattle.object_id.specs.Fields.{Stands}
use Rattle.object_id.proofs.FieldLemmas.{stands-as, range-is, part-length, range-stands}
use Rattle.inode.specs.declared.layout.TheConstants.{TEXT_BYTES}
use Rattle.inode.specs.declared.fault.InodeFault.{InodeFault}
use Rattle.inode.specs.Layout.{text_bytes, IsFieldText}
use Rattle.inode.specs.Reading.{is_end, cut_at, text_in_field, text_at}

-- what is known of a field whose text was read
pub record IsCut (field text : List ℕ) : Type 0 where
  pub after : List ℕ
  pub whole : field ≡ text_bytes text after
  pub inside : length text < length field
  pub no_end : All (λ byte. byte ≢ 0) text

abbrev done : List ℕ → Result (List ℕ) InodeFault
done text = Ok text

-- a text that ends at the first 0 of its field
pub cut-ends : (field : List ℕ) (end : ℕ) → position is_end field ≡ Some end → (length (take end field) < length field) × All (λ byte. byte ≢ 0) (take end field)
cut-ends field end at =
    let first = position-Some is_end field end 0 at in
    let inside : end < length field = first.0 in
    let long : length (take end field) ≡ end = length-take-le end field (omega arith) in (
      omega arith,
      λ k d within none.
          let within_end : k < end = omega arith in
          let byte_is : get_or (take end field) k d ≡ get_or field k 0 = get_or-take end field k d within_end ∙ get_or_default field k d 0 (omega arith) in
          eqb-false (get_or field k 0) 0 (first.2 k within_end) (sym byte_is ∙ none),
    )

pub text-cut : (field text : List ℕ) → text_in_field field ≡ Ok text → IsCut field text
text-cut field text e = go (position is_end field) refl e
  where
    go : (found : Option ℕ) → position is_end field ≡ found → cut_at field found ≡ Ok text → IsCut field text
    go None at h = absurd cc
    go (Some end) at h =
        let same : take end field ≡ text = let ok : done (take end field) ≡ done text = h in cc in
        let first = position-Some is_end field end 0 at in
        let ends = cut-ends field end at in
        subst (λ (t : List ℕ). IsCut field t) same (record {
          after = drop (end + 1) field;
          whole = sym (take-append-drop end field) ∙ ap (λ (rest : List ℕ). take end field ++ rest) (drop_more field end 0 first.0 ∙ ap (λ (b : ℕ). b ∷ drop (end + 1) field) (eqb-true (get_or field end 0) 0 first.1));
          inside = ends.0;
          no_end = ends.1;
        })

text-position : (text after : List ℕ) → AllByRecursion (λ byte. byte ≢ 0) text → position_or_len is_end (text ++ 0 ∷ after) ≡ length text
text-position [] after h = refl
text-position (b ∷ bs) after h =
    let byte : eqb b 0 ≡ false = ne_eqb b 0 h.0 in
    let later : position_or_len is_end (bs ++ 0 ∷ after) ≡ length bs = text-position bs after h.1 in
    rw (byte, later) (omega arith)

found-case : (there : Bool) (at place : ℕ) → there ≡ true → at ≡ place → cond there (Some at) None ≡ Some place
found-case there at place a b = rw (a, b) refl

pub text-again : (text after : List ℕ) → All (λ byte. byte ≢ 0) text → text_in_field (text_bytes text after) ≡ Ok text
text-again text after h =
    let at : position_or_len is_end (text ++ 0 ∷ after) ≡ length text = text-position text after (recursion_from_All (λ byte. byte ≢ 0) text h) in
    let inside : ltb (position_or_len is_end (text ++ 0 ∷ after)) (length (text ++ 0 ∷ after)) ≡ true
    = lt-ltb _ _ (omega (arith, at, length-append text (0 ∷ after))) in
    let found : position is_end (text ++ 0 ∷ after) ≡ Some (length text) = found-case _ _ (length text) inside at in
    ap (cut_at (text ++ 0 ∷ after)) found ∙ ap done (take_at text (0 ∷ after) (length text) refl)

-- ---- the same in its place

pub record StandsText (bytes : List ℕ) (at : ℕ) (text : List ℕ) : Type 0 where
  pub after : List ℕ
  pub stands : Stands bytes at (at + TEXT_BYTES) (text_bytes text after)
  pub long : length (text_bytes text after) ≡ TEXT_BYTES
  pub valid : IsFieldText text

pub text-stands : (bytes : List ℕ) (at : ℕ) (text : List ℕ) → at + TEXT_BYTES ≤ length bytes → text_at at bytes ≡ Ok text → StandsText bytes at text
unfolding text_at
text-stands bytes at text within e =
    let field : List ℕ = take (at + TEXT_BYTES - at) (drop at bytes) in
    let same : field ≡ take TEXT_BYTES (drop at bytes) = range-is bytes at TEXT_BYTES in
    let field_long : length field ≡ TEXT_BYTES = ap length same ∙ part-length bytes at TEXT_BYTES within in
    let cut = text-cut field text e in
    record {
      after = cut.after;
      stands = stands-as bytes at TEXT_BYTES (text_bytes text cut.after) (sym cut.whole ∙ same);
      long = sym (ap length cut.whole) ∙ field_long;
      valid = (omega (arith, cut.inside, field_long), cut.no_end);
    }

pub text-is_read : (bytes : List ℕ) (at to : ℕ) (text after : List ℕ) → IsFieldText text → length (text_bytes text after) ≡ TEXT_BYTES
    → Stands bytes at to (text_bytes text after) → text_at at bytes ≡ Ok text
unfolding text_at
text-is_read bytes at to text after valid long stands =
    ap text_in_field (range-stands bytes at to TEXT_BYTES (text_bytes text after) long stands) ∙ text-again text after valid.1
