-- What the words are where a small reader answers, and what holds of its value.
use Rattle.std.proofs.Common.{◌≡◌, ℕ, ◌%◌, ◌≤◌, ◌==◌, Bool, true, false, ◌&&◌, List, [], ◌∷◌, refl, sym, ap, subst, ◌∙◌, inl, inr, Result, Ok, Err}
use Rattle.std.specs.Prelude.{◌⊎◌, bytes_eq, nat_le, if◌then◌else◌}
use Rattle.std.proofs.lemmas.Bool.{and_parts, leb-true, eqb-true}
use Rattle.std.proofs.lemmas.Slice.Eq.{bytes_eq-Decides}
use Rattle.cluster_script.specs.declared.fault.LineCause.{LineCause}
use Rattle.cluster_script.specs.declared.fault.LineCause.TheVariants as causes
use Rattle.object_id.specs.declared.limits.TheConstants.{BLOCK_BYTES}
use Rattle.cluster_script.specs.Language.{IsPrintedName}
use Rattle.cluster_script.specs.ReadResults.{◌>>=◌}
use Rattle.cluster_script.specs.Words.{Word, word_at, keyword_at, is_next_word, option_at, end_of_words, is_printed_name, name_word_at}
use Rattle.cluster_script.specs.Numbers.{number_of, size_of_word, number_in_range, aligned_number, plain_number_at, blocks_at}
use Rattle.cluster_script.proofs.PrintedNames.{name_of_test}

-- what has a value where reading went on behind it
pub read-on : {A B P : Type 0} (r : Result A LineCause) (f : A → Result B LineCause) (y : B) → (r >>= f) ≡ Ok y
    → ((x : A) → r ≡ Ok x → f x ≡ Ok y → P) → P
read-on (Ok x) f y e k = k x refl e
read-on (Err cause) f y e k = absurd cc

-- a test that has to pass
pub test-passed : {A : Type 0} (b : Bool) (x y : A) (cause : LineCause) → (if b then Ok x else Err cause) ≡ Ok y → (b ≡ true) × (x ≡ y)
test-passed true x y cause e = (refl, cc)
test-passed false x y cause e = absurd cc

-- a test that must not pass
pub test-failed : {A : Type 0} (b : Bool) (x y : A) (cause : LineCause) → (if b then Err cause else Ok x) ≡ Ok y → (b ≡ false) × (x ≡ y)
test-failed true x y cause e = absurd cc
test-failed false x y cause e = (refl, cc)

-- one of two ways to read
pub either-way : {A P : Type 0} (b : Bool) (r t : Result A LineCause) (y : A) → (if b then r else t) ≡ Ok y
    → (b ≡ true → r ≡ Ok y → P) → (b ≡ false → t ≡ Ok y → P) → P
either-way true r t y e taken other = taken refl e
either-way false r t y e taken other = other refl e

pub same-word : (a b : Word) → bytes_eq a b ≡ true → a ≡ b
same-word a b same = (bytes_eq-Decides a b).0 same

-- the way to read that a word names
pub word-chosen : {A : Type 0} (P : Word → Type 0) (first word : Word) (r t : Result A LineCause) (y : A)
    → (if bytes_eq first word then r else t) ≡ Ok y → (r ≡ Ok y → P word) → (t ≡ Ok y → P first) → P first
word-chosen P first word r t y e taken other =
    either-way (bytes_eq first word) r t y e (λ same read. subst P (sym (same-word first word same)) (taken read))
    (λ differs read. other read)

pub word-read : (words : List Word) (word : Word × List Word) → word_at words ≡ Ok word → words ≡ word.0 ∷ word.1
word-read [] word e = absurd cc
word-read (first ∷ rest) word e =
    let same : (first, rest) ≡ word = cc in ap (λ (w : Word × List Word). w.0 ∷ w.1) same

pub keyword-read : (expected : Word) (words rest : List Word) → keyword_at expected words ≡ Ok rest → words ≡ expected ∷ rest
unfolding keyword_at
keyword-read expected words rest e =
    read-on _ _ _ e (λ word read tested.
    let passed = test-passed (bytes_eq word.0 expected) word.1 rest causes.Word tested in
    let same = same-word word.0 expected passed.0 in
    word-read words word read ∙ ap (λ (w : Word). w ∷ word.1) same ∙ ap (λ (t : List Word). expected ∷ t) passed.1)

pub end-read : (words : List Word) (end : Unit {0}) → end_of_words words ≡ Ok end → words ≡ []
end-read [] end e = refl
end-read (first ∷ rest) end e = absurd cc

pub name-read : (words : List Word) (name : Word × List Word) → name_word_at words ≡ Ok name → (words ≡ name.0 ∷ name.1) × IsPrintedName name.0
unfolding name_word_at
name-read words name e =
    read-on _ _ _ e (λ word read tested.
    let passed = test-passed (is_printed_name word.0) word name causes.Word tested in (
      word-read words word read ∙ ap (λ (w : Word × List Word). w.0 ∷ w.1) passed.1,
      subst (λ (w : Word × List Word). IsPrintedName w.0) passed.1 (name_of_test word.0 passed.0),
    ))

-- what an option gives: its default, or what is read behind its name
pub option-read : {A : Type 0} (name : Word) (read : List Word → Result (A × List Word) LineCause) (default : A)
    (words : List Word) (value : A × List Word)
    → option_at name read default words ≡ Ok value
    → ((words ≡ value.1) × (value.0 ≡ default)) ⊎ ((rest : List Word) × (words ≡ name ∷ rest) × (read rest ≡ Ok value))
option-read {A = A} name read default words value e =
    either-way (is_next_word name words) _ _ value e
    (λ next given. read-on _ _ _ given (λ rest keyword answers. inr (rest, keyword-read name words rest keyword, answers)))
    (λ absent left.
    let same : (default, words) ≡ value = cc in
    inl (ap (λ (v : A × List Word). v.1) same, ap (λ (v : A × List Word). v.0) (sym same)))

pub range-kept : (low high number within : ℕ) → number_in_range low high number ≡ Ok within → (number ≡ within) × (low ≤ within) × (within ≤ high)
range-kept low high number within e =
    let passed = test-passed (nat_le low number && nat_le number high) number within causes.Range e in
    let parts = and_parts (nat_le low number) (nat_le number high) passed.0 in (
      passed.1,
      subst (λ (n : ℕ). low ≤ n) passed.1 (leb-true low number parts.0),
      subst (λ (n : ℕ). n ≤ high) passed.1 (leb-true number high parts.1),
    )

pub blocks-whole : (number whole : ℕ) → aligned_number number ≡ Ok whole → (number ≡ whole) × (whole % BLOCK_BYTES ≡ 0)
blocks-whole number whole e =
    let passed = test-passed (number % BLOCK_BYTES == 0) number whole causes.Unaligned e in
    (passed.1, subst (λ (n : ℕ). n % BLOCK_BYTES ≡ 0) passed.1 (eqb-true (number % BLOCK_BYTES) 0 passed.0))

-- words begin with a word that spells a number within limits
pub record IsNumberRead (low high : ℕ) (words : List Word) (number : ℕ × List Word) : Type 0 where
  pub word : Word
  pub parted : words ≡ word ∷ number.1
  pub spelled : number_of word ≡ Ok number.0
  pub least : low ≤ number.0
  pub most : number.0 ≤ high

pub number-read : (low high : ℕ) (words : List Word) (number : ℕ × List Word) → plain_number_at low high words ≡ Ok number
    → IsNumberRead low high words number
unfolding plain_number_at
number-read low high words number e =
    read-on _ _ _ e (λ word read e1. read-on _ _ _ e1 (λ plain spelled e2. read-on _ _ _ e2 (λ within kept e3.
    let same : (within, word.1) ≡ number = cc in
    let kept-in = range-kept low high plain within kept in
    subst (IsNumberRead low high words) same (record {
      word = word.0;
      parted = word-read words word read;
      spelled = spelled ∙ ap (λ (n : ℕ). Ok n) kept-in.0;
      least = kept-in.1;
      most = kept-in.2;
    }))))

-- words begin with a word that spells a size in whole blocks within limits
pub record IsBlocksRead (low high : ℕ) (words : List Word) (size : ℕ × List Word) : Type 0 where
  pub word : Word
  pub parted : words ≡ word ∷ size.1
  pub spelled : size_of_word word ≡ Ok size.0
  pub least : low ≤ size.0
  pub most : size.0 ≤ high
  pub whole : size.0 % BLOCK_BYTES ≡ 0

pub blocks-read : (low high : ℕ) (words : List Word) (size : ℕ × List Word) → blocks_at low high words ≡ Ok size
    → IsBlocksRead low high words size
unfolding blocks_at
blocks-read low high words size e =
    read-on _ _ _ e (λ word read e1. read-on _ _ _ e1 (λ plain spelled e2. read-on _ _ _ e2 (λ within kept e3.
    read-on _ _ _ e3 (λ whole aligns e4.
    let same : (whole, word.1) ≡ size = cc in
    let kept-in = range-kept low high plain within kept in
    let in-blocks = blocks-whole within whole aligns in
    subst (IsBlocksRead low high words) same (record {
      word = word.0;
      parted = word-read words word read;
      spelled = spelled ∙ ap (λ (n : ℕ). Ok n) (kept-in.0 ∙ in-blocks.0);
      least = subst (λ (n : ℕ). low ≤ n) in-blocks.0 kept-in.1;
      most = subst (λ (n : ℕ). n ≤ high) in-blocks.0 kept-in.2;
      whole = in-blocks.1;
    })))))
