-- Edits of used ranges at a place, as what they make of the list.
use Rattle.std.proofs.Common.{◌≡◌, ◌≢◌, ℕ, zero, suc, ◌+◌, ◌<◌, cond, List, [], ◌∷◌, ◌++◌, length, get_or, set, take, drop, refl, ap, sym, ◌∙◌, arith}
use Rattle.std.specs.List.{remove}
use Rattle.std.proofs.lemmas.Bool.{eq-eqb, ne_eqb}
use Rattle.std.proofs.lemmas.List.{get_or_default}
use Rattle.vdi_directory.specs.declared.vid_range.VidRange.{VidRange}
use Rattle.vdi_directory.specs.Vids.{ranges_with}

-- a range reaches to the id, and takes the next one in
pub extend-join : (ranges : List VidRange) (place first vid : ℕ) (d : VidRange) → suc place < length ranges
    → (get_or ranges (suc place) d).first ≡ vid + 1
    → set (remove ranges (suc place)) place (record { first = first; last = (get_or ranges (suc place) d).last })
    ≡ take place ranges ++ ranges_with first vid (drop (suc place) ranges)
extend-join [] place first vid d within touches = absurd (omega arith)
extend-join (range ∷ []) place first vid d within touches = absurd (omega arith)
extend-join (range ∷ next ∷ ranges) zero first vid d within touches =
    sym (ap (λ b. cond b (record { first = first; last = next.last } ∷ ranges) (record { first = first; last = vid } ∷ next ∷ ranges)) (eq-eqb next.first (vid + 1) touches))
extend-join (range ∷ next ∷ ranges) (suc place) first vid d within touches =
    ap (λ rest. range ∷ rest) (extend-join (next ∷ ranges) place first vid d (omega arith) touches)

-- a range reaches to the id, and touches none
pub extend-only : (ranges : List VidRange) (place first vid : ℕ) → place < length ranges
    → ((d : VidRange) → suc place < length ranges → (get_or ranges (suc place) d).first ≢ vid + 1)
    → set ranges place (record { first = first; last = vid }) ≡ take place ranges ++ ranges_with first vid (drop (suc place) ranges)
extend-only [] place first vid within apart = absurd (omega arith)
extend-only (range ∷ []) zero first vid within apart = refl
extend-only (range ∷ []) (suc place) first vid within apart = absurd (omega arith)
extend-only (range ∷ next ∷ ranges) zero first vid within apart =
    sym (ap (λ b. cond b (record { first = first; last = next.last } ∷ ranges) (record { first = first; last = vid } ∷ next ∷ ranges)) (ne_eqb next.first (vid + 1) (apart range (omega arith))))
extend-only (range ∷ next ∷ ranges) (suc place) first vid within apart =
    ap (λ rest. range ∷ rest) (extend-only (next ∷ ranges) place first vid (omega arith) (λ d there. apart d (omega arith)))

-- the range at the place begins earlier
pub insert-join : (ranges : List VidRange) (place vid : ℕ) (d : VidRange) → place < length ranges → (get_or ranges place d).first ≡ vid + 1
    → set ranges place (record { first = vid; last = (get_or ranges place d).last }) ≡ take place ranges ++ ranges_with vid vid (drop place ranges)
insert-join [] place vid d within touches = absurd (omega arith)
insert-join (range ∷ ranges) zero vid d within touches =
    sym (ap (λ b. cond b (record { first = vid; last = range.last } ∷ ranges) (record { first = vid; last = vid } ∷ range ∷ ranges)) (eq-eqb range.first (vid + 1) touches))
insert-join (range ∷ ranges) (suc place) vid d within touches =
    ap (λ rest. range ∷ rest) (insert-join ranges place vid d (omega arith) touches)

-- the same as the code has it
abbrev Extended : List VidRange → List VidRange → ℕ → ℕ → ℕ → VidRange → VidRange → VidRange → Type 0
Extended items new place next vid range last d =
    set new place (record { first = range.first; last = last.last }) ≡ take place items ++ ranges_with (get_or items place d).first vid (drop next items)

pub extended-ranges_with : (items new : List VidRange) (place next vid : ℕ) (range behind last d : VidRange) → next ≡ place + 1 → next < length items
    → range ≡ get_or items place range → behind ≡ get_or items next behind → behind.first ≡ vid + 1 → last ≡ get_or items next last
    → new ≡ remove items next → Extended items new place next vid range last d
extended-ranges_with items new place next vid range behind last d step within here there touches same removed =
    let up : suc place ≡ next = omega arith in
    let first : range.first ≡ (get_or items place d).first = ap (λ (r : VidRange). r.first) (here ∙ get_or_default items place range d (omega arith)) in
    let end : last.last ≡ (get_or items (suc place) d).last
    = ap (λ (r : VidRange). r.last) (same ∙ get_or_default items next last d within) ∙ ap (λ n. (get_or items n d).last) (sym up) in
    let begin : (get_or items (suc place) d).first ≡ vid + 1
    = ap (λ n. (get_or items n d).first) up ∙ ap (λ (r : VidRange). r.first) (get_or_default items next d behind within) ∙ ap (λ (r : VidRange). r.first) (sym there) ∙ touches in
    (λ i. set (removed i) place (record { first = first i; last = end i }))
    ∙ ap (λ n. set (remove items n) place (record { first = (get_or items place d).first; last = (get_or items (suc place) d).last })) (sym up)
    ∙ extend-join items place (get_or items place d).first vid d (omega arith) begin
    ∙ ap (λ n. take place items ++ ranges_with (get_or items place d).first vid (drop n items)) up

pub extended-only : (items : List VidRange) (place next vid : ℕ) (range d : VidRange) → next ≡ place + 1 → place < length items
    → range ≡ get_or items place range → ((e : VidRange) → next < length items → (get_or items next e).first ≢ vid + 1)
    → set items place (record { first = range.first; last = vid }) ≡ take place items ++ ranges_with (get_or items place d).first vid (drop next items)
extended-only items place next vid range d step within here apart =
    let up : suc place ≡ next = omega arith in
    let first : range.first ≡ (get_or items place d).first = ap (λ (r : VidRange). r.first) (here ∙ get_or_default items place range d within) in
    (λ i. set items place (record { first = first i; last = vid }))
    ∙ extend-only items place (get_or items place d).first vid within
    (λ e there. λ touches. apart e (omega arith) (ap (λ n. (get_or items n e).first) (sym up) ∙ touches))
    ∙ ap (λ n. take place items ++ ranges_with (get_or items place d).first vid (drop n items)) up

pub inserted-ranges_with : (items : List VidRange) (place vid : ℕ) (behind last : VidRange) → place < length items
    → behind ≡ get_or items place behind → behind.first ≡ vid + 1 → last ≡ get_or items place last
    → set items place (record { first = vid; last = last.last }) ≡ take place items ++ ranges_with vid vid (drop place items)
inserted-ranges_with items place vid behind last within there touches same =
    let end : last.last ≡ (get_or items place behind).last = ap (λ (r : VidRange). r.last) (same ∙ get_or_default items place last behind within) in
    (λ i. set items place (record { first = vid; last = end i }))
    ∙ insert-join items place vid behind within (ap (λ (r : VidRange). r.first) (sym there) ∙ touches)
