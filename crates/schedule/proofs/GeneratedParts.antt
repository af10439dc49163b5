-- The text of a generated script by its parts: what is written with what is left, and the words that each round draws.
use Rattle.std.proofs.Common.{◌≡◌, ℕ, zero, suc, ◌+◌, ◌-◌, ◌*◌, ◌<◌, ◌≤◌, List, [], ◌∷◌, ◌++◌, take, drop, map, codes, refl, sym, ap, ap₂, ◌∙◌, append_assoc, arith}
use Rattle.std.specs.Prelude.{flat_map}
use Rattle.std.specs.List.{range_with_len}
use Rattle.std.proofs.lemmas.Grind.{flat_map-append}
use Rattle.std.proofs.lemmas.List.{append-nil}
use Rattle.rand_xoshiro.specs.SplitMix64.{mix_u64}
use Rattle.schedule.specs.Generated.{words_from, rng_after, control_lines, request_line, round_lines, opening_lines, generated_lines}
use Rattle.schedule.specs.GeneratedScript.{text_of_lines, generated_text}

pub text-append : (first rest : List (List ℕ)) → text_of_lines (first ++ rest) ≡ text_of_lines first ++ text_of_lines rest
text-append first rest = flat_map-append (λ (line : List ℕ). line ++ codes "\n") first rest

-- the numbers that are left of a range, by the first of them, and none at its end
pub range-left : (first end : ℕ) → first < end → range_with_len first (end - first) ≡ first ∷ range_with_len (first + 1) (end - (first + 1))
range-left first end some =
    let more : end - first ≡ suc (end - (first + 1)) = omega (arith, some) in
    ap (range_with_len first) more

pub range-end : (first end : ℕ) → end ≤ first → range_with_len first (end - first) ≡ []
range-end first end past =
    let none : end - first ≡ 0 = omega (arith, past) in
    ap (range_with_len first) none

-- so too the words that are left, and the state behind them, with the next word and the state after it
pub words-left : (count most rng word next : ℕ) → count < most → word ≡ (mix_u64 rng).0 → next ≡ (mix_u64 rng).1
    → words_from (most - count) rng ≡ word ∷ words_from (most - (count + 1)) next
unfolding words_from
words-left count most rng word next some drawn is =
    let more : most - count ≡ suc (most - (count + 1)) = omega (arith, some) in
    ap (λ (n : ℕ). words_from n rng) more
    ∙ ap₂ (λ (first state : ℕ). first ∷ words_from (most - (count + 1)) state) (sym drawn) (sym is)

pub words-end : (count most rng : ℕ) → most ≤ count → words_from (most - count) rng ≡ []
unfolding words_from
words-end count most rng past =
    let none : most - count ≡ 0 = omega (arith, past) in
    ap (λ (n : ℕ). words_from n rng) none

pub state-left : (count most rng next : ℕ) → count < most → next ≡ (mix_u64 rng).1
    → rng_after (most - count) rng ≡ rng_after (most - (count + 1)) next
unfolding rng_after
state-left count most rng next some is =
    let more : most - count ≡ suc (most - (count + 1)) = omega (arith, some) in
    ap (λ (n : ℕ). rng_after n rng) more ∙ ap (rng_after (most - (count + 1))) (sym is)

pub state-end : (count most rng : ℕ) → most ≤ count → rng_after (most - count) rng ≡ rng
unfolding rng_after
state-end count most rng past =
    let none : most - count ≡ 0 = omega (arith, past) in
    ap (λ (n : ℕ). rng_after n rng) none

-- one more piece is written: what is written with what is left stays the whole
pub one-written : (written : List ℕ → List ℕ) (all left : List ℕ) (first : ℕ) (piece text later whole : List ℕ) → all ≡ first ∷ left
    → written (first ∷ left) ≡ piece ++ written left → later ≡ text ++ piece → text ++ written all ≡ whole → later ++ written left ≡ whole
one-written written all left first piece text later whole is parts more kept =
    ap (λ (t : List ℕ). t ++ written left) more ∙ append_assoc text piece (written left)
    ∙ ap (λ (rest : List ℕ). text ++ rest) (sym (ap written is ∙ parts)) ∙ kept

-- and all is written where nothing is left
pub all-written : (written : List ℕ → List ℕ) (left text whole : List ℕ) → left ≡ [] → written [] ≡ [] → text ++ written left ≡ whole
    → text ≡ whole
all-written written left text whole is none kept =
    sym (append-nil text) ∙ ap (λ (rest : List ℕ). text ++ rest) (sym (ap written is ∙ none)) ∙ kept

-- the words and the state behind others
drop-words : (before count rng : ℕ) → drop before (words_from (before + count) rng) ≡ words_from count (rng_after before rng)
unfolding words_from rng_after
drop-words zero count rng =
    let same : 0 + count ≡ count = omega arith in
    ap (λ (n : ℕ). words_from n rng) same
drop-words (suc before) count rng =
    let same : suc before + count ≡ suc (before + count) = omega arith in
    ap (λ (n : ℕ). drop (suc before) (words_from n rng)) same ∙ drop-words before count (mix_u64 rng).1

take-words : (count more rng : ℕ) → take count (words_from (count + more) rng) ≡ words_from count rng
unfolding words_from
take-words zero more rng = refl
take-words (suc count) more rng =
    let same : suc count + more ≡ suc (count + more) = omega arith in
    ap (λ (n : ℕ). take (suc count) (words_from n rng)) same
    ∙ ap (λ (words : List ℕ). (mix_u64 rng).0 ∷ words) (take-words count more (mix_u64 rng).1)

pub state-behind : (before count rng : ℕ) → rng_after count (rng_after before rng) ≡ rng_after (before + count) rng
unfolding rng_after
state-behind zero count rng =
    let same : count ≡ 0 + count = omega arith in
    ap (λ (n : ℕ). rng_after n rng) same
state-behind (suc before) count rng =
    let same : suc (before + count) ≡ suc before + count = omega arith in
    state-behind before count (mix_u64 rng).1 ∙ ap (λ (n : ℕ). rng_after n rng) same

-- a round's words are the fifty behind those of the rounds before it
words-of-round : (round rng : ℕ) → round < 4 → take 50 (drop (50 * round) (words_from 200 rng)) ≡ words_from 50 (rng_after (50 * round) rng)
words-of-round round rng below =
    let rest : 50 * round + (50 + (150 - 50 * round)) ≡ 200 = omega (arith, below) in
    ap (λ (n : ℕ). take 50 (drop (50 * round) (words_from n rng))) (sym rest)
    ∙ ap (take 50) (drop-words (50 * round) (50 + (150 - 50 * round)) rng)
    ∙ take-words 50 (150 - 50 * round) (rng_after (50 * round) rng)

pub round-drawn : (round rng number : ℕ) → round < 4 → rng ≡ rng_after (50 * round) number
    → control_lines round ++ map request_line (words_from 50 rng) ++ codes "settle" ∷ [] ≡ round_lines (words_from 200 number) round
round-drawn round rng number below is =
    ap (λ (words : List ℕ). control_lines round ++ map request_line words ++ codes "settle" ∷ [])
    (ap (words_from 50) is ∙ sym (words-of-round round number below))

-- what stands before the rounds, and the rounds
pub lines-in-parts : (number : ℕ)
    → generated_lines number ≡ opening_lines ++ flat_map (round_lines (words_from 200 number)) (range_with_len 0 4)
unfolding generated_lines
lines-in-parts number = refl

pub text-in-parts : (number : ℕ) → text_of_lines opening_lines
    ++ text_of_lines (flat_map (round_lines (words_from 200 number)) (range_with_len 0 4)) ≡ generated_text number
text-in-parts number =
    sym (ap text_of_lines (lines-in-parts number)
    ∙ text-append opening_lines (flat_map (round_lines (words_from 200 number)) (range_with_len 0 4)))
