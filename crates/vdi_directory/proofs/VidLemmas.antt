-- The search for a free id, and ranges of ids.
use Rattle.std.proofs.Common.{◌≡◌, ◌≢◌, ◌⊎◌, inl, inr, ℕ, zero, suc, ◌+◌, ◌-◌, ◌<◌, ◌≤◌, ◌==◌, ◌&&◌, ◌||◌, nat_le, Bool, true, false, cond, List, [], ◌∷◌, ◌++◌, length, get_or, take, drop, Option, Some, None, refl, ap, sym, ◌∙◌, subst, arith}
use Rattle.std.specs.List.Sorted.{IsNonDecreasingBy}
use Rattle.std.proofs.lemmas.Bool.{eq-eqb, ne_eqb, le-leb, lt-leb, cases_eq, cases_lt, both_ways, or_parts}
use Rattle.std.proofs.lemmas.Bool.Decides.{nat_tests}
use Rattle.std.proofs.lemmas.List.{get_or_default}
use Rattle.std.proofs.Math.Bool.{or-true, or_assoc, or_comm}
use Rattle.vdi_directory.specs.declared.vid_range.VidRange.{VidRange}
use Rattle.object_id.specs.declared.limits.TheConstants.{VID_MAX}
use Rattle.vdi_directory.specs.Vids.{next_vid, first_unused, VID_COUNT, in_range, is_in, ranges_with, with_vid, AreRangesFrom, AreRanges}

pub VID_COUNT-is : VID_COUNT ≡ VID_MAX
unfolding VID_COUNT
VID_COUNT-is = refl

module _ (used : ℕ → Bool) where
  pub unused-here : (count vid : ℕ) → 1 ≤ count → used vid ≡ false → first_unused used vid count ≡ Some vid
  unused-here zero vid some free = absurd (omega arith)
  unused-here (suc count) vid some free = ap (λ b. cond b (first_unused used (next_vid vid) count) (Some vid)) free

  used-here : (count vid : ℕ) → used vid ≡ true → first_unused used vid (suc count) ≡ first_unused used (next_vid vid) count
  used-here count vid taken = ap (λ b. cond b (first_unused used (next_vid vid) count) (Some vid)) taken

  pub next-within : (vid : ℕ) → vid < VID_MAX → next_vid vid ≡ vid + 1
  next-within vid below = ap (λ b. cond b 1 (vid + 1)) (ne_eqb vid VID_MAX (λ same. (omega arith)))

  next-last : next_vid VID_MAX ≡ 1
  next-last = ap (λ b. cond b 1 (VID_MAX + 1)) (eq-eqb VID_MAX VID_MAX refl)

  next-is-id : (vid : ℕ) → vid ≤ VID_MAX → (vid ≡ VID_MAX) ⊎ (vid ≢ VID_MAX) → (1 ≤ next_vid vid) × (next_vid vid ≤ VID_MAX)
  next-is-id vid last (inl end) = let at : next_vid vid ≡ 1 = ap next_vid end ∙ next-last in (omega arith, omega arith)
  next-is-id vid last (inr before) = let at : next_vid vid ≡ vid + 1 = next-within vid (omega arith) in (omega arith, omega arith)

  -- a run of used ids is passed
  pub run-passed : (run count rest vid : ℕ) → count ≡ run + rest → vid + run ≤ VID_MAX
      → ((other : ℕ) → vid ≤ other → other < vid + run → used other ≡ true)
      → first_unused used vid count ≡ first_unused used (vid + run) rest
  run-passed zero count rest vid is within taken =
      let same : count ≡ rest = omega arith in
      let here : vid ≡ vid + 0 = omega arith in
      ap (first_unused used vid) same ∙ ap (λ at. first_unused used at rest) here
  run-passed (suc run) zero rest vid is within taken = absurd (omega arith)
  run-passed (suc run) (suc count) rest vid is within taken =
      let further : vid + 1 + run ≡ vid + suc run = omega arith in
      used-here count vid (taken vid (omega arith) (omega arith))
      ∙ ap (λ at. first_unused used at count) (next-within vid (omega arith))
      ∙ run-passed run count rest (vid + 1) (omega arith) (omega arith) (λ other from below. taken other (omega arith) (omega arith))
      ∙ ap (λ at. first_unused used at rest) further

  -- the search goes on with the first id
  pub wrapped : (count rest vid : ℕ) → count + vid ≡ VID_MAX + 1 + rest → vid ≤ VID_MAX
      → ((other : ℕ) → vid ≤ other → other ≤ VID_MAX → used other ≡ true)
      → first_unused used vid count ≡ first_unused used 1 rest
  wrapped count rest vid is within taken =
      let further : vid + (VID_MAX - vid) ≡ VID_MAX = omega arith in
      run-passed (VID_MAX - vid) count (suc rest) vid (omega arith) (omega arith) (λ other from below. taken other from (omega arith))
      ∙ ap (λ at. first_unused used at (suc rest)) further
      ∙ used-here rest VID_MAX (taken VID_MAX within (omega arith))
      ∙ ap (λ at. first_unused used at rest) next-last

  pub all-used : (count vid : ℕ) → 1 ≤ vid → vid ≤ VID_MAX → ((other : ℕ) → 1 ≤ other → other ≤ VID_MAX → used other ≡ true)
      → first_unused used vid count ≡ None
  all-used zero vid first last taken = refl
  all-used (suc count) vid first last taken =
      used-here count vid (taken vid first last)
      ∙ all-used count (next_vid vid) ((next-is-id vid last (cases_eq vid VID_MAX)).0) ((next-is-id vid last (cases_eq vid VID_MAX)).1) taken

  -- what is found is an id, and not used
  pub found-unused : (count vid found : ℕ) → 1 ≤ vid → vid ≤ VID_MAX → first_unused used vid count ≡ Some found
      → (1 ≤ found) × (found ≤ VID_MAX) × (used found ≡ false)
  found-unused zero vid found first last is = absurd (cc)
  found-unused (suc count) vid found first last is =
      by_test (used vid) refl is
      (found-unused count (next_vid vid) found ((next-is-id vid last (cases_eq vid VID_MAX)).0) ((next-is-id vid last (cases_eq vid VID_MAX)).1))
    where
      by_test : (b : Bool) → used vid ≡ b → cond b (first_unused used (next_vid vid) count) (Some vid) ≡ Some found
          → (first_unused used (next_vid vid) count ≡ Some found → (1 ≤ found) × (found ≤ VID_MAX) × (used found ≡ false))
          → (1 ≤ found) × (found ≤ VID_MAX) × (used found ≡ false)
      by_test true taken is later = later is
      by_test false free is later =
          let same : vid ≡ found = cc in
          (omega arith, omega arith, subst (λ v. used v ≡ false) same free)

-- what is known of the range at a place
pub range-within : (low : ℕ) (ranges : List VidRange) (k : ℕ) (d : VidRange) → AreRangesFrom low ranges → k < length ranges
    → (low ≤ (get_or ranges k d).first) × ((get_or ranges k d).first ≤ (get_or ranges k d).last) × ((get_or ranges k d).last ≤ VID_MAX)
range-within low [] k d are within = absurd (omega arith)
range-within low (range ∷ ranges) zero d are within = (are.0, are.1, are.2)
range-within low (range ∷ ranges) (suc k) d are within =
    let rest = range-within (range.last + 2) ranges k d are.3 (omega arith) in
    let first : low ≤ range.first = are.0 in
    let last : range.first ≤ range.last = are.1 in
    (omega (arith, rest.0), rest.1, rest.2)

-- a later range begins at least two behind the end of an earlier one
pub ranges-apart : (low : ℕ) (ranges : List VidRange) (i j : ℕ) (d : VidRange) → AreRangesFrom low ranges → i < j → j < length ranges
    → (get_or ranges i d).last + 2 ≤ (get_or ranges j d).first
ranges-apart low [] i j d are before within = absurd (omega arith)
ranges-apart low (range ∷ ranges) i zero d are before within = absurd (omega arith)
ranges-apart low (range ∷ ranges) zero (suc j) d are before within = (range-within (range.last + 2) ranges j d are.3 (omega arith)).0
ranges-apart low (range ∷ ranges) (suc i) (suc j) d are before within = ranges-apart (range.last + 2) ranges i j d are.3 (omega arith) (omega arith)

pub ranges-ascend : (ranges : List VidRange) → AreRanges ranges → IsNonDecreasingBy (λ (range : VidRange). range.last) ranges
ranges-ascend ranges are i j d upto within = by_place (cases_eq i j)
  where
    by_place : (i ≡ j) ⊎ (i ≢ j) → (get_or ranges i d).last ≤ (get_or ranges j d).last
    by_place (inl same) = let e : (get_or ranges i d).last ≡ (get_or ranges j d).last = ap (λ k. (get_or ranges k d).last) same in omega arith
    by_place (inr apart) =
        let between = ranges-apart 1 ranges i j d are (omega arith) within in
        let there = range-within 1 ranges j d are within in
        omega (arith, there.1)

in-test : (range : VidRange) (vid : ℕ) → range.first ≤ vid → vid ≤ range.last → in_range vid range ≡ true
in-test range vid from upto = grind (arith, nat_tests)

out-test : (range : VidRange) (vid : ℕ) → (vid < range.first) ⊎ (range.last < vid) → in_range vid range ≡ false
out-test range vid (inl before) = grind (arith, nat_tests)
out-test range vid (inr behind) = grind (arith, nat_tests)

-- an id of the range at a place is used
pub in-ranges : (ranges : List VidRange) (k : ℕ) (d : VidRange) (vid : ℕ) → k < length ranges
    → (get_or ranges k d).first ≤ vid → vid ≤ (get_or ranges k d).last → is_in ranges vid ≡ true
in-ranges [] k d vid within from upto = absurd (omega arith)
in-ranges (range ∷ ranges) zero d vid within from upto = ap (λ b. b || is_in ranges vid) (in-test range vid from upto)
in-ranges (range ∷ ranges) (suc k) d vid within from upto =
    ap (λ b. in_range vid range || b) (in-ranges ranges k d vid (omega arith) from upto) ∙ or-true (in_range vid range)

-- an id that is in no range isn't
pub not-in-ranges : (ranges : List VidRange) (vid : ℕ)
    → ((k : ℕ) (d : VidRange) → k < length ranges → (vid < (get_or ranges k d).first) ⊎ ((get_or ranges k d).last < vid))
    → is_in ranges vid ≡ false
not-in-ranges [] vid out = refl
not-in-ranges (range ∷ ranges) vid out =
    ap (λ b. b || is_in ranges vid) (out-test range vid (out 0 range (omega arith)))
    ∙ not-in-ranges ranges vid (λ k d within. out (suc k) d (omega arith))

-- one id more

in-split : (a b c v : ℕ) → a ≤ b + 1 → b ≤ c → (nat_le a v && nat_le v c) ≡ ((nat_le a v && nat_le v b) || (nat_le (b + 1) v && nat_le v c))
in-split a b c v from upto = by_place (cases_lt b v)
  where
    by_place : (b < v) ⊎ (v ≤ b) → (nat_le a v && nat_le v c) ≡ ((nat_le a v && nat_le v b) || (nat_le (b + 1) v && nat_le v c))
    by_place (inl behind) = grind (arith, nat_tests)
    by_place (inr before) = grind (arith, nat_tests)

in-ranges_with : (first vid : ℕ) (ranges : List VidRange) (v : ℕ) → first ≤ vid → AreRangesFrom (vid + 1) ranges
    → is_in (ranges_with first vid ranges) v ≡ ((nat_le first v && nat_le v vid) || is_in ranges v)
in-ranges_with first vid [] v upto are = refl
in-ranges_with first vid (range ∷ ranges) v upto are = by_test (cases_eq range.first (vid + 1))
  where
    by_test : (range.first ≡ vid + 1) ⊎ (range.first ≢ vid + 1)
        → is_in (ranges_with first vid (range ∷ ranges)) v ≡ ((nat_le first v && nat_le v vid) || is_in (range ∷ ranges) v)
    by_test (inl touches) =
        let both : range.first ≤ range.last = are.1 in
        ap (λ b. is_in (cond b (record { first = first; last = range.last } ∷ ranges) (record { first = first; last = vid } ∷ range ∷ ranges)) v)
        (eq-eqb range.first (vid + 1) touches)
        ∙ ap (λ b. b || is_in ranges v) (in-split first vid range.last v (omega arith) (omega arith))
        ∙ ap (λ n. ((nat_le first v && nat_le v vid) || (nat_le n v && nat_le v range.last)) || is_in ranges v) (sym touches)
        ∙ or_assoc (nat_le first v && nat_le v vid) (in_range v range) (is_in ranges v)
    by_test (inr apart) =
        ap (λ b. is_in (cond b (record { first = first; last = range.last } ∷ ranges) (record { first = first; last = vid } ∷ range ∷ ranges)) v)
        (ne_eqb range.first (vid + 1) apart)

AreRanges-ranges_with : (low first vid : ℕ) (ranges : List VidRange) → low ≤ first → first ≤ vid → vid ≤ VID_MAX → AreRangesFrom (vid + 1) ranges
    → AreRangesFrom low (ranges_with first vid ranges)
AreRanges-ranges_with low first vid [] from upto last are = (from, upto, last, tt)
AreRanges-ranges_with low first vid (range ∷ ranges) from upto last are = by_test (cases_eq range.first (vid + 1))
  where
    by_test : (range.first ≡ vid + 1) ⊎ (range.first ≢ vid + 1) → AreRangesFrom low (ranges_with first vid (range ∷ ranges))
    by_test (inl touches) =
        let least : vid + 1 ≤ range.first = are.0 in
        let both : range.first ≤ range.last = are.1 in
        let all : AreRangesFrom low (record { first = first; last = range.last } ∷ ranges) = (from, omega arith, are.2, are.3) in
        subst (λ b. AreRangesFrom low (cond b (record { first = first; last = range.last } ∷ ranges) (record { first = first; last = vid } ∷ range ∷ ranges)))
        (sym (eq-eqb range.first (vid + 1) touches)) all
    by_test (inr apart) =
        let least : vid + 1 ≤ range.first = are.0 in
        let all : AreRangesFrom low (record { first = first; last = vid } ∷ range ∷ ranges) = (from, upto, last, (omega arith, are.1, are.2, are.3)) in
        subst (λ b. AreRangesFrom low (cond b (record { first = first; last = range.last } ∷ ranges) (record { first = first; last = vid } ∷ range ∷ ranges)))
        (sym (ne_eqb range.first (vid + 1) apart)) all

-- ranges that begin where they must, once an id is in none of them
AreRanges-behind : (low vid : ℕ) (ranges : List VidRange) → AreRangesFrom low ranges → is_in ranges vid ≡ false
    → ((range : VidRange) (rest : List VidRange) → ranges ≡ range ∷ rest → vid ≤ range.last) → AreRangesFrom (vid + 1) ranges
AreRanges-behind low vid [] are out behind = tt
AreRanges-behind low vid (range ∷ ranges) are out behind =
    let upto : vid ≤ range.last = behind range ranges refl in
    let first : vid < range.first = by_place (cases_lt vid range.first) in
    (omega arith, are.1, are.2, are.3)
  where
    by_place : (vid < range.first) ⊎ (range.first ≤ vid) → vid < range.first
    by_place (inl before) = before
    by_place (inr inside) = absurd (both_ways (is_in (range ∷ ranges) vid) out (ap (λ b. b || is_in ranges vid) (in-test range vid inside (behind range ranges refl))))

-- ranges that begin later begin as early as less asks
AreRanges-later : (low high : ℕ) (ranges : List VidRange) → high ≤ low → AreRangesFrom low ranges → AreRangesFrom high ranges
AreRanges-later low high [] less are = tt
AreRanges-later low high (range ∷ ranges) less are = let from : low ≤ range.first = are.0 in (omega arith, are.1, are.2, are.3)

single : (vid v : ℕ) → (nat_le vid v && nat_le v vid) ≡ (vid == v)
single vid v = by_place (cases_eq vid v)
  where
    by_place : (vid ≡ v) ⊎ (vid ≢ v) → (nat_le vid v && nat_le v vid) ≡ (vid == v)
    by_place (inl same) = grind (arith, nat_tests)
    by_place (inr apart) = grind (arith, nat_tests)

-- one id more is in the ranges, and they are as ranges must be
pub with_vid-is : (low vid : ℕ) (ranges : List VidRange) → AreRangesFrom low ranges → low ≤ vid → vid ≤ VID_MAX → is_in ranges vid ≡ false
    → AreRangesFrom low (with_vid vid ranges) × ((v : ℕ) → is_in (with_vid vid ranges) v ≡ (is_in ranges v || vid == v))
with_vid-is low vid [] are from last out = ((from, omega arith, last, tt), λ v. or_comm (nat_le vid v && nat_le v vid) false ∙ single vid v)
with_vid-is low vid (range ∷ ranges) are from last out = by_place (cases_lt range.last vid) (cases_eq vid (range.last + 1))
    (λ behind. with_vid-is (range.last + 2) vid ranges are.3 behind last ((or_parts (in_range vid range) (is_in ranges vid) out).1))
  where
    AreWith : List VidRange → Type 0
    AreWith new = AreRangesFrom low new × ((v : ℕ) → is_in new v ≡ (is_in (range ∷ ranges) v || vid == v))

    outside : is_in (range ∷ ranges) vid ≡ false
    outside = out

    by_test : (b c : Bool) → nat_le vid range.last ≡ b → (vid == range.last + 1) ≡ c
        → AreWith (cond b (ranges_with vid vid (range ∷ ranges)) (cond c (ranges_with range.first vid ranges) (range ∷ with_vid vid ranges)))
        → AreWith (with_vid vid (range ∷ ranges))
    by_test b c first second all =
        subst (λ t. AreWith (cond t (ranges_with vid vid (range ∷ ranges)) (cond (vid == range.last + 1) (ranges_with range.first vid ranges) (range ∷ with_vid vid ranges)))) (sym first)
        (subst (λ t. AreWith (cond b (ranges_with vid vid (range ∷ ranges)) (cond t (ranges_with range.first vid ranges) (range ∷ with_vid vid ranges)))) (sym second) all)

    by_place : (range.last < vid) ⊎ (vid ≤ range.last) → (vid ≡ range.last + 1) ⊎ (vid ≢ range.last + 1)
        → (range.last + 2 ≤ vid → AreRangesFrom (range.last + 2) (with_vid vid ranges) × ((v : ℕ) → is_in (with_vid vid ranges) v ≡ (is_in ranges v || vid == v)))
        → AreWith (with_vid vid (range ∷ ranges))
    by_place (inr upto) second later =
        let behind : AreRangesFrom (vid + 1) (range ∷ ranges)
        = AreRanges-behind low vid (range ∷ ranges) are out (λ r rs is. (let same : range ≡ r = cc in subst (λ (x : VidRange). vid ≤ x.last) same upto)) in
        by_test true (vid == range.last + 1) (le-leb vid range.last upto) refl (
          AreRanges-ranges_with low vid vid (range ∷ ranges) from (omega arith) last behind,
          λ v. in-ranges_with vid vid (range ∷ ranges) v (omega arith) behind
              ∙ ap (λ b. b || is_in (range ∷ ranges) v) (single vid v) ∙ or_comm (vid == v) (is_in (range ∷ ranges) v),
        )
    by_place (inl above) (inl touches) later =
        let behind : AreRangesFrom (vid + 1) ranges = subst (λ n. AreRangesFrom n ranges) (let e : range.last + 2 ≡ vid + 1 = omega arith in e) are.3 in
        let both : range.first ≤ range.last = are.1 in
        by_test false true (lt-leb vid range.last above) (eq-eqb vid (range.last + 1) touches) (
          AreRanges-ranges_with low range.first vid ranges are.0 (omega arith) last behind,
          λ v. in-ranges_with range.first vid ranges v (omega arith) behind
              ∙ ap (λ b. b || is_in ranges v) (ap (λ n. nat_le range.first v && nat_le v n) touches ∙ in-split range.first range.last (range.last + 1) v (omega arith) (omega arith))
              ∙ ap (λ n. ((in_range v range) || (nat_le (range.last + 1) v && nat_le v (range.last + 1))) || is_in ranges v) touches
              ∙ ap (λ b. (in_range v range || b) || is_in ranges v) (single (range.last + 1) v ∙ ap (λ n. n == v) (sym touches))
              ∙ or_assoc (in_range v range) (vid == v) (is_in ranges v)
              ∙ ap (λ b. in_range v range || b) (or_comm (vid == v) (is_in ranges v))
              ∙ sym (or_assoc (in_range v range) (is_in ranges v) (vid == v)),
        )
    by_place (inl above) (inr apart) later =
        let rest = later (omega arith) in
        by_test false false (lt-leb vid range.last above) (ne_eqb vid (range.last + 1) apart) (
          (are.0, are.1, are.2, rest.0),
          λ v. ap (λ b. in_range v range || b) (rest.1 v) ∙ sym (or_assoc (in_range v range) (is_in ranges v) (vid == v)),
        )

-- where the one id more stands, by the place of the first range that ends behind it
pub with_vid-insert : (low vid place : ℕ) (ranges : List VidRange) → AreRangesFrom low ranges → place ≤ length ranges
    → ((k : ℕ) (d : VidRange) → k < place → (get_or ranges k d).last < vid)
    → ((k : ℕ) (d : VidRange) → place ≤ k → k < length ranges → vid ≤ (get_or ranges k d).last)
    → ((d : VidRange) → 0 < place → (get_or ranges (place - 1) d).last + 1 ≢ vid)
    → with_vid vid ranges ≡ take place ranges ++ ranges_with vid vid (drop place ranges)
with_vid-insert low vid zero [] are within before behind apart = refl
with_vid-insert low vid (suc place) [] are within before behind apart = absurd (omega arith)
with_vid-insert low vid zero (range ∷ ranges) are within before behind apart =
    ap (λ b. cond b (ranges_with vid vid (range ∷ ranges)) (cond (vid == range.last + 1) (ranges_with range.first vid ranges) (range ∷ with_vid vid ranges)))
    (le-leb vid range.last (behind 0 range (omega arith) (omega arith)))
with_vid-insert low vid (suc place) (range ∷ ranges) are within before behind apart =
    ap (λ b. cond b (ranges_with vid vid (range ∷ ranges)) (cond (vid == range.last + 1) (ranges_with range.first vid ranges) (range ∷ with_vid vid ranges)))
    (lt-leb vid range.last (before 0 range (omega arith)))
    ∙ ap (λ b. cond b (ranges_with range.first vid ranges) (range ∷ with_vid vid ranges)) (ne_eqb vid (range.last + 1) (not_here place refl))
    ∙ ap (λ rest. range ∷ rest) (with_vid-insert (range.last + 2) vid place ranges are.3 (omega arith)
    (λ k d below. before (suc k) d (omega arith)) (λ k d from upto. behind (suc k) d (omega arith) (omega arith))
    (λ d some. shifted place d some (apart d (omega arith))))
  where
    shifted : (n : ℕ) (d : VidRange) → 0 < n → (get_or (range ∷ ranges) (suc n - 1) d).last + 1 ≢ vid → (get_or ranges (n - 1) d).last + 1 ≢ vid
    shifted zero d some away = absurd (omega arith)
    shifted (suc n) d some away =
        let step : suc (suc n) - 1 ≡ suc (suc n - 1) = omega arith in
        λ same. away (ap (λ k. (get_or (range ∷ ranges) k d).last + 1) step ∙ same)

    first_last : (n : ℕ) → place ≡ n → n ≡ 0 → (get_or (range ∷ ranges) (suc place - 1) range).last ≡ range.last
    first_last n is none = ap (λ k. (get_or (range ∷ ranges) (suc k - 1) range).last) (is ∙ none)

    not_here : (n : ℕ) → place ≡ n → vid ≢ range.last + 1
    not_here zero is same = apart range (omega arith) (ap (λ last. last + 1) (first_last 0 is refl) ∙ sym same)
    not_here (suc n) is same =
        let next = range-within (range.last + 2) ranges 0 range are.3 (omega arith) in
        let below : (get_or ranges 0 range).last < vid = before 1 range (omega arith) in
        omega (arith, next.0, next.1)

pub with_vid-extend : (low vid place : ℕ) (ranges : List VidRange) (d : VidRange) → AreRangesFrom low ranges → place < length ranges
    → (get_or ranges place d).last + 1 ≡ vid
    → with_vid vid ranges ≡ take place ranges ++ ranges_with (get_or ranges place d).first vid (drop (suc place) ranges)
with_vid-extend low vid place [] d are within touches = absurd (omega arith)
with_vid-extend low vid zero (range ∷ ranges) d are within touches =
    ap (λ b. cond b (ranges_with vid vid (range ∷ ranges)) (cond (vid == range.last + 1) (ranges_with range.first vid ranges) (range ∷ with_vid vid ranges)))
    (lt-leb vid range.last (omega arith))
    ∙ ap (λ b. cond b (ranges_with range.first vid ranges) (range ∷ with_vid vid ranges)) (eq-eqb vid (range.last + 1) (sym touches))
with_vid-extend low vid (suc place) (range ∷ ranges) d are within touches =
    let there = range-within (range.last + 2) ranges place d are.3 (omega arith) in
    ap (λ b. cond b (ranges_with vid vid (range ∷ ranges)) (cond (vid == range.last + 1) (ranges_with range.first vid ranges) (range ∷ with_vid vid ranges)))
    (lt-leb vid range.last (omega (arith, there.0, there.1)))
    ∙ ap (λ b. cond b (ranges_with range.first vid ranges) (range ∷ with_vid vid ranges)) (ne_eqb vid (range.last + 1) (λ same. (omega (arith, there.0, there.1))))
    ∙ ap (λ rest. range ∷ rest) (with_vid-extend (range.last + 2) vid place ranges d are.3 (omega arith) touches)

-- the search over ranges, by the place of the first range that ends at the id or behind it
module _ (ranges : List VidRange) (own place : ℕ) (d : VidRange) (are : AreRanges ranges)
    (before : (k : ℕ) (d : VidRange) → k < place → (get_or ranges k d).last < own)
    (behind : (k : ℕ) (d : VidRange) → place ≤ k → k < length ranges → own ≤ (get_or ranges k d).last) where
  abbrev Search : ℕ → Option ℕ
  Search vid = first_unused (is_in ranges) vid VID_COUNT

  -- what is behind a range at the place or later
  later-first : (vid : ℕ) (k : ℕ) (e : VidRange) → place ≤ k → k < length ranges → place < length ranges → vid < (get_or ranges place e).first
      → vid < (get_or ranges k e).first
  later-first vid k e from within there below = by_place (cases_eq k place)
    where
      by_place : (k ≡ place) ⊎ (k ≢ place) → vid < (get_or ranges k e).first
      by_place (inl same) = subst (λ j. vid < (get_or ranges j e).first) (sym same) below
      by_place (inr apart) =
          let gap = ranges-apart 1 ranges place k e are (omega arith) within in
          let own_range = range-within 1 ranges place e are there in
          omega (arith, own_range.1)

  pub own-found : 1 ≤ own → (length ranges ≤ place) ⊎ ((e : VidRange) → own < (get_or ranges place e).first) → Search own ≡ Some own
  own-found first out = unused-here (is_in ranges) VID_COUNT own (omega (arith, VID_COUNT-is)) (not-in-ranges ranges own (λ k e within. by_place k e within (cases_lt k place) out))
    where
      by_place : (k : ℕ) (e : VidRange) → k < length ranges → (k < place) ⊎ (place ≤ k) → (length ranges ≤ place) ⊎ ((e : VidRange) → own < (get_or ranges place e).first)
          → (own < (get_or ranges k e).first) ⊎ ((get_or ranges k e).last < own)
      by_place k e within (inl below) out = inr (before k e below)
      by_place k e within (inr from) (inl past) = absurd (omega arith)
      by_place k e within (inr from) (inr less) = inl (later-first own k e from within (omega arith) (less e))

  -- the first id behind the range at the place is free
  behind-unused : place < length ranges → is_in ranges ((get_or ranges place d).last + 1) ≡ false
  behind-unused there = not-in-ranges ranges ((get_or ranges place d).last + 1) (λ k e within. by_place k e within (cases_lt k place) (cases_eq k place))
    where
      same_range : (e : VidRange) → (get_or ranges place e) ≡ (get_or ranges place d)
      same_range e = get_or_default ranges place e d there

      by_place : (k : ℕ) (e : VidRange) → k < length ranges → (k < place) ⊎ (place ≤ k) → (k ≡ place) ⊎ (k ≢ place)
          → ((get_or ranges place d).last + 1 < (get_or ranges k e).first) ⊎ ((get_or ranges k e).last < (get_or ranges place d).last + 1)
      by_place k e within (inl below) which =
          let gap = ranges-apart 1 ranges k place e are below there in
          let own_range = range-within 1 ranges place e are there in
          let same : (get_or ranges place e).last ≡ (get_or ranges place d).last = ap (λ (r : VidRange). r.last) (same_range e) in
          inr (omega (arith, own_range.1))
      by_place k e within (inr from) (inl here) =
          let same : (get_or ranges k e).last ≡ (get_or ranges place d).last
          = ap (λ j. (get_or ranges j e).last) here ∙ ap (λ (r : VidRange). r.last) (same_range e) in
          inr (omega arith)
      by_place k e within (inr from) (inr apart) =
          let gap = ranges-apart 1 ranges place k e are (omega arith) within in
          let same : (get_or ranges place e).last ≡ (get_or ranges place d).last = ap (λ (r : VidRange). r.last) (same_range e) in
          inl (omega arith)

  run-used : place < length ranges → (get_or ranges place d).first ≤ own → (other : ℕ) → own ≤ other → other ≤ (get_or ranges place d).last
      → is_in ranges other ≡ true
  run-used there from other above upto = in-ranges ranges place d other there (omega arith) upto

  pub next-found : place < length ranges → (get_or ranges place d).first ≤ own → (get_or ranges place d).last < VID_MAX → 1 ≤ own
      → Search own ≡ Some ((get_or ranges place d).last + 1)
  next-found there from below first =
      let upto : own ≤ (get_or ranges place d).last = behind place d (omega arith) there in
      let run : ℕ = (get_or ranges place d).last + 1 - own in
      let rest : ℕ = VID_COUNT - run in
      let end : own + run ≡ (get_or ranges place d).last + 1 = omega arith in
      run-passed (is_in ranges) run VID_COUNT rest own (omega (arith, VID_COUNT-is)) (omega arith) (λ other above within. run-used there from other above (omega arith))
      ∙ unused-here (is_in ranges) rest (own + run) (omega (arith, VID_COUNT-is)) (ap (is_in ranges) end ∙ behind-unused there)
      ∙ ap Some end

  all-behind : place < length ranges → (get_or ranges place d).first ≤ own → VID_MAX ≤ (get_or ranges place d).last → 1 ≤ own
      → Search own ≡ first_unused (is_in ranges) 1 (own - 1)
  all-behind there from whole first =
      let last = range-within 1 ranges place d are there in
      let upto : own ≤ (get_or ranges place d).last = behind place d (omega arith) there in
      wrapped (is_in ranges) VID_COUNT (own - 1) own (omega (arith, VID_COUNT-is)) (omega (arith, last.2))
      (λ other above within. run-used there from other above (omega arith))

  pub first-found : place < length ranges → (get_or ranges place d).first ≤ own → VID_MAX ≤ (get_or ranges place d).last → 1 ≤ own
      → 1 < (get_or ranges 0 d).first → Search own ≡ Some 1
  first-found there from whole first free =
      let least : (get_or ranges 0 d).first ≤ (get_or ranges place d).first = by_place (cases_eq 0 place) in
      all-behind there from whole first
      ∙ unused-here (is_in ranges) (own - 1) 1 (omega arith) (not-in-ranges ranges 1 (λ k e within. inl (above k e within (cases_eq 0 k))))
    where
      by_place : (0 ≡ place) ⊎ (0 ≢ place) → (get_or ranges 0 d).first ≤ (get_or ranges place d).first
      by_place (inl same) = let e : (get_or ranges 0 d).first ≡ (get_or ranges place d).first = ap (λ j. (get_or ranges j d).first) same in omega arith
      by_place (inr apart) =
          let gap = ranges-apart 1 ranges 0 place d are (omega arith) there in
          let own_range = range-within 1 ranges 0 d are (omega arith) in
          omega (arith, own_range.1)

      above : (k : ℕ) (e : VidRange) → k < length ranges → (0 ≡ k) ⊎ (0 ≢ k) → 1 < (get_or ranges k e).first
      above k e within (inl same) =
          let is : (get_or ranges 0 d).first ≡ (get_or ranges k e).first
          = ap (λ (r : VidRange). r.first) (get_or_default ranges 0 d e (omega arith)) ∙ ap (λ j. (get_or ranges j e).first) same in
          omega arith
      above k e within (inr apart) =
          let gap = ranges-apart 1 ranges 0 k e are (omega arith) within in
          let own_range = range-within 1 ranges 0 e are (omega arith) in
          omega (arith, own_range.0, own_range.1)

  first-used : 0 < length ranges → (get_or ranges 0 d).first ≤ 1 → (other : ℕ) → 1 ≤ other → other ≤ (get_or ranges 0 d).last → is_in ranges other ≡ true
  first-used some from other above upto = in-ranges ranges 0 d other some (omega arith) upto

  pub none-found : place < length ranges → (get_or ranges 0 d).first ≤ 1 → VID_MAX ≤ (get_or ranges 0 d).last → 1 ≤ own → own ≤ VID_MAX
      → Search own ≡ None
  none-found there from whole first last =
      all-used (is_in ranges) VID_COUNT own first last (λ other above upto. first-used (omega arith) from other above (omega arith))

-- the same where the first range begins with the first id, and the free id is behind it
pub behind-first-found : (ranges : List VidRange) (own place : ℕ) (d : VidRange) → AreRanges ranges
    → ((k : ℕ) (d : VidRange) → k < place → (get_or ranges k d).last < own)
    → ((k : ℕ) (d : VidRange) → place ≤ k → k < length ranges → own ≤ (get_or ranges k d).last)
    → place < length ranges → (get_or ranges place d).first ≤ own → VID_MAX ≤ (get_or ranges place d).last → 1 ≤ own
    → (get_or ranges 0 d).first ≤ 1 → (get_or ranges 0 d).last < VID_MAX
    → first_unused (is_in ranges) own VID_COUNT ≡ Some ((get_or ranges 0 d).last + 1)
behind-first-found ranges own place d are before behind there from whole first begins below =
    let m : ℕ = (get_or ranges 0 d).last in
    let far : 0 < place = by_place (cases_eq 0 place) in
    let gap = ranges-apart 1 ranges 0 place d are far there in
    let none_before : (k : ℕ) (e : VidRange) → k < 0 → (get_or ranges k e).last < 1 = λ k e less. absurd (omega arith) in
    let one_more : 1 + m ≡ m + 1 = omega arith in
    all-behind ranges own place d are before behind there from whole first
    ∙ run-passed (is_in ranges) m (own - 1) (own - 1 - m) 1 (omega arith) (omega arith)
    (λ other above within. in-ranges ranges 0 d other (omega arith) (omega arith) (omega arith))
    ∙ unused-here (is_in ranges) (own - 1 - m) (1 + m) (omega arith)
    (ap (is_in ranges) one_more ∙ behind-unused ranges 1 0 d are none_before (λ k e from within. (let r = range-within 1 ranges k e are within in omega (arith, r.0, r.1))) (omega arith))
    ∙ ap Some one_more
  where
    by_place : (0 ≡ place) ⊎ (0 ≢ place) → 0 < place
    by_place (inl same) = let e : (get_or ranges 0 d).last ≡ (get_or ranges place d).last = ap (λ j. (get_or ranges j d).last) same in absurd (omega arith)
    by_place (inr apart) = omega arith

-- what holds of the range at a place, whatever stands for a range that is not there
pub range-same : (ranges : List VidRange) (k : ℕ) (d e : VidRange) (P : VidRange → Type 0) → k < length ranges → P (get_or ranges k d) → P (get_or ranges k e)
range-same ranges k d e P within holds = subst P (get_or_default ranges k d e within) holds
