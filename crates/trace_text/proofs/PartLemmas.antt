-- Lines, cut at the first that passes a test, and joined by LF again.
use Rattle.std.proofs.Common.{◌≡◌, ℕ, suc, ◌+◌, ◌<◌, ◌==◌, ◌||◌, Bool, true, false, not, cond, List, [], ◌∷◌, ◌++◌, length, take, drop, refl, sym, ap, subst, ◌∙◌, arith}
use Rattle.std.specs.List.{list_any, AllByRecursion, onto_first, join_with_byte, position_or_len, before_first, after_first}
use Rattle.std.proofs.lemmas.List.Elements.{All-cons, All-nil}
use Rattle.std.proofs.lemmas.List.Splits.{slice_split_none, slice_split_at, length-slice_split}
use Rattle.cluster_script.specs.Words.{lines_of}
use Rattle.trace_text.proofs.LineLaws.{IsLine}

abbrev is_feed : ℕ → Bool
is_feed byte = byte == 10

-- no part between two LFs has one
onto_first-plain : (byte : ℕ) (parts : List (List ℕ)) → is_feed byte ≡ false → AllByRecursion IsLine parts
    → AllByRecursion IsLine (onto_first byte parts)
onto_first-plain byte [] other plain = (All-cons (λ (b : ℕ). is_feed b ≡ false) byte [] other (All-nil (λ (b : ℕ). is_feed b ≡ false)), tt)
onto_first-plain byte (part ∷ parts) other plain = (All-cons (λ (b : ℕ). is_feed b ≡ false) byte part other plain.0, plain.1)

pub lines-plain : (text : List ℕ) → AllByRecursion IsLine (lines_of text)
lines-plain [] = (All-nil (λ (b : ℕ). is_feed b ≡ false), tt)
lines-plain (byte ∷ text) = by_feed (lines-plain text) (is_feed byte) refl
  where
    by_feed : AllByRecursion IsLine (lines_of text) → (feed : Bool) → is_feed byte ≡ feed
        → AllByRecursion IsLine (cond feed ([] ∷ lines_of text) (onto_first byte (lines_of text)))
    by_feed plain true e = (All-nil (λ (b : ℕ). is_feed b ≡ false), plain)
    by_feed plain false e = onto_first-plain byte (lines_of text) e plain

-- lines that are joined are the lines of the text that they make
pub joined-lines : (lines : List (List ℕ)) → 0 < length lines → AllByRecursion IsLine lines → lines_of (join_with_byte 10 lines) ≡ lines
joined-lines [] some plain = absurd (omega (arith, some))
joined-lines (line ∷ []) some plain = slice_split_none is_feed line plain.0
joined-lines (line ∷ next ∷ lines) some plain =
    slice_split_at is_feed line 10 (join_with_byte 10 (next ∷ lines)) plain.0 refl
    ∙ ap (λ (later : List (List ℕ)). line ∷ later) (joined-lines (next ∷ lines) (omega arith) plain.1)

-- a text goes on behind an LF with the lines of what follows
pub lines-append : (text rest : List ℕ) → lines_of (text ++ 10 ∷ rest) ≡ lines_of text ++ lines_of rest
lines-append [] rest = refl
lines-append (byte ∷ text) rest = by_feed (lines-append text rest) (is_feed byte)
  where
    onto : (parts later : List (List ℕ)) → 0 < length parts → onto_first byte (parts ++ later) ≡ onto_first byte parts ++ later
    onto [] later some = absurd (omega (arith, some))
    onto (part ∷ parts) later some = refl

    by_feed : lines_of (text ++ 10 ∷ rest) ≡ lines_of text ++ lines_of rest → (feed : Bool)
        → cond feed ([] ∷ lines_of (text ++ 10 ∷ rest)) (onto_first byte (lines_of (text ++ 10 ∷ rest)))
        ≡ cond feed ([] ∷ lines_of text) (onto_first byte (lines_of text)) ++ lines_of rest
    by_feed same true = ap (λ (later : List (List ℕ)). [] ∷ later) same
    by_feed same false =
        ap (onto_first byte) same ∙ onto (lines_of text) (lines_of rest) (omega (arith, length-slice_split is_feed text))

one-more : (n : ℕ) → 1 + n ≡ suc n
one-more n = omega arith

one-each : (n : ℕ) → 1 + n + 1 ≡ suc (n + 1)
one-each n = omega arith

module _ {X : Type 0} (test : X → Bool) where
  -- where the first is found, and where it is looked for further on
  pub before_first-here : (x : X) (xs : List X) → test x ≡ true → before_first test (x ∷ xs) ≡ []
  before_first-here x xs e = ap (λ b. take (cond (not b) (1 + position_or_len test xs) 0) (x ∷ xs)) e

  pub before_first-later : (x : X) (xs : List X) → test x ≡ false → before_first test (x ∷ xs) ≡ x ∷ before_first test xs
  before_first-later x xs e =
      ap (λ b. take (cond (not b) (1 + position_or_len test xs) 0) (x ∷ xs)) e
      ∙ ap (λ n. take n (x ∷ xs)) (one-more (position_or_len test xs))

  pub after_first-here : (x : X) (xs : List X) → test x ≡ true → after_first test (x ∷ xs) ≡ xs
  after_first-here x xs e = ap (λ b. drop (cond (not b) (1 + position_or_len test xs) 0 + 1) (x ∷ xs)) e

  pub after_first-later : (x : X) (xs : List X) → test x ≡ false → after_first test (x ∷ xs) ≡ after_first test xs
  after_first-later x xs e =
      ap (λ b. drop (cond (not b) (1 + position_or_len test xs) 0 + 1) (x ∷ xs)) e
      ∙ ap (λ n. drop n (x ∷ xs)) (one-each (position_or_len test xs))

  none-first : (x : X) (xs : List X) → list_any test (x ∷ xs) ≡ false → (test x ≡ false) × (list_any test xs ≡ false)
  none-first x xs none = by_test (test x) none
    where
      by_test : (b : Bool) → (b || list_any test xs) ≡ false → (b ≡ false) × (list_any test xs ≡ false)
      by_test true h = absurd (cc)
      by_test false h = (refl, h)

  -- where none passes, all stands before it and nothing behind it
  pub before_first-none : (xs : List X) → list_any test xs ≡ false → before_first test xs ≡ xs
  before_first-none [] none = refl
  before_first-none (x ∷ xs) none =
      let first = none-first x xs none in
      before_first-later x xs first.0 ∙ ap (λ (later : List X). x ∷ later) (before_first-none xs first.1)

  pub after_first-none : (xs : List X) → list_any test xs ≡ false → after_first test xs ≡ []
  after_first-none [] none = refl
  after_first-none (x ∷ xs) none =
      let first = none-first x xs none in after_first-later x xs first.0 ∙ after_first-none xs first.1

  -- where one passes behind those of which none does, they are parted there
  pub before_first-at : (xs : List X) (y : X) (ys : List X) → list_any test xs ≡ false → test y ≡ true → before_first test (xs ++ y ∷ ys) ≡ xs
  before_first-at [] y ys none e = before_first-here y ys e
  before_first-at (x ∷ xs) y ys none e =
      let first = none-first x xs none in
      before_first-later x (xs ++ y ∷ ys) first.0 ∙ ap (λ (later : List X). x ∷ later) (before_first-at xs y ys first.1 e)

  pub after_first-at : (xs : List X) (y : X) (ys : List X) → list_any test xs ≡ false → test y ≡ true → after_first test (xs ++ y ∷ ys) ≡ ys
  after_first-at [] y ys none e = after_first-here y ys e
  after_first-at (x ∷ xs) y ys none e =
      let first = none-first x xs none in after_first-later x (xs ++ y ∷ ys) first.0 ∙ after_first-at xs y ys first.1 e

  module _ (P : X → Type 0) where
    -- what holds of all holds of those before and behind
    pub All-before_first : (xs : List X) → AllByRecursion P xs → AllByRecursion P (before_first test xs)
    All-before_first [] all = tt
    All-before_first (x ∷ xs) all = by_test (All-before_first xs all.1) (test x) refl
      where
        by_test : AllByRecursion P (before_first test xs) → (b : Bool) → test x ≡ b → AllByRecursion P (before_first test (x ∷ xs))
        by_test later true e = subst (AllByRecursion P) (sym (before_first-here x xs e)) tt
        by_test later false e = subst (AllByRecursion P) (sym (before_first-later x xs e)) (all.0, later)

    pub All-after_first : (xs : List X) → AllByRecursion P xs → AllByRecursion P (after_first test xs)
    All-after_first [] all = tt
    All-after_first (x ∷ xs) all = by_test (All-after_first xs all.1) (test x) refl
      where
        by_test : AllByRecursion P (after_first test xs) → (b : Bool) → test x ≡ b → AllByRecursion P (after_first test (x ∷ xs))
        by_test later true e = subst (AllByRecursion P) (sym (after_first-here x xs e)) all.1
        by_test later false e = subst (AllByRecursion P) (sym (after_first-later x xs e)) later
