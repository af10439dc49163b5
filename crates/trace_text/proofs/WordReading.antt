-- A line is read by its word and by what is named behind it.
use Rattle.std.proofs.Common.{◌≡◌, ◌≢◌, ℕ, ◌<◌, ◌≤◌, ◌^◌, true, false, List, [], ◌∷◌, ◌++◌, length, codes, decimal, bytes_eq, Option, Some, None, refl, sym, ap, subst, ◌∙◌, arith, append_assoc, All}
use Rattle.std.proofs.lemmas.Slice.Eq.{bytes_eq-Decides}
use Rattle.std.proofs.lemmas.Fmt.{decimal_injective}
use Rattle.std.proofs.lemmas.List.Elements.{All-cons, All-nil}
use Rattle.object_id.specs.declared.node.NodeId.{NodeId}
use Rattle.sheep_node.specs.declared.event.Event.{Event}
use Rattle.sheep_node.specs.declared.event.Event.TheVariants.{Deliver, LoseRequest, LoseReply, Phase}
use Rattle.trace_text.specs.Spelling.{name_text, event_text}
use Rattle.trace_text.specs.EventReading.{numbers_of, events_of, event_in, IsNamed}
use Rattle.trace_text.specs.EventWords.{event_word, event_of}
use Rattle.trace_text.proofs.NumberLemmas.{first-fits, second-fits}
use Rattle.trace_text.proofs.ReadingLaws.{text-read, read-text, found, events-named}
use Rattle.trace_text.proofs.SeparatorLemmas.{Lacks, lacks-seen, has-one, same-parts, number-lacks}

-- how numbers are spelled behind an event's word
abbrev pub numbers_text : List ℕ → List ℕ
numbers_text [] = []
numbers_text (number ∷ []) = decimal number
numbers_text (sender ∷ number ∷ rest) = decimal sender ++ 46 ∷ decimal number

with_name : (before : List ℕ) (sender : NodeId) (number : ℕ)
    → before ++ name_text sender number ≡ before ++ numbers_text (sender.0 ∷ number ∷ [])
with_name before sender number =
    ap (λ (name : List ℕ). before ++ name) (append_assoc (decimal sender.0) (codes ".") (decimal number))

-- an event's text is its word and, where it has numbers, a space and these
text-parts : (event : Event) → 0 < length (numbers_of event)
    → event_text event ≡ event_word event ++ 32 ∷ numbers_text (numbers_of event)
text-parts Phase some = absurd (omega (arith, some))
text-parts (Deliver sender number) some = with_name (codes "deliver ") sender number
text-parts (LoseRequest sender number) some = with_name (codes "loserequest ") sender number
text-parts (LoseReply sender number) some = with_name (codes "losereply ") sender number
text-parts event some = refl

-- no word has a space
word-lacks : (event : Event) → Lacks 32 (event_word event)
word-lacks Phase = lacks-seen 32 (codes "phase") refl
word-lacks event = lacks-seen 32 (event_word event) refl

-- an event is the one with its word and numbers
word-found : (event : Event) → event_of (event_word event) (numbers_of event) ≡ Some event
word-found Phase = refl
word-found event = refl

few-numbers : (event : Event) → length (numbers_of event) ≤ 2
few-numbers Phase = omega arith
few-numbers event = omega arith

-- a text with a space has numbers
has-numbers : (word name : List ℕ) (event : Event) → word ++ 32 ∷ name ≡ event_text event → 0 < length (numbers_of event)
has-numbers word name Phase text = absurd (has-one 32 word name (subst (Lacks 32) (sym text) (lacks-seen 32 (codes "phase") refl)))
has-numbers word name event text = omega arith

-- a word and a name are those of an event
record Named (word name : List ℕ) (event : Event) : Type 0 where
  is_word : word ≡ event_word event
  is_name : name ≡ numbers_text (numbers_of event)
  some : 0 < length (numbers_of event)
  fits : All (λ number. number < 2 ^ 32) (numbers_of event)

named : (word name : List ℕ) (event : Event) → Lacks 32 word → event_in (word ++ 32 ∷ name) ≡ Some event → Named word name event
named word name event lacks is =
    let read : (word ++ 32 ∷ name ≡ event_text event) × IsNamed event = read-text (word ++ 32 ∷ name) event is in
    let some : 0 < length (numbers_of event) = has-numbers word name event read.0 in
    let same : (word ≡ event_word event) × (name ≡ numbers_text (numbers_of event)) =
    same-parts 32 word name (event_word event) (numbers_text (numbers_of event)) lacks (word-lacks event)
    (read.0 ∙ text-parts event some) in
    record { is_word = same.0; is_name = same.1; some = some; fits = read.1 }

-- one number is spelled as no other numbers are
one-number : (number : ℕ) (others : List ℕ) → number < 2 ^ 32 → 0 < length others → All (λ n. n < 2 ^ 32) others
    → decimal number ≡ numbers_text others → number ∷ [] ≡ others
one-number number [] lt some fits same = absurd (omega (arith, some))
one-number number (other ∷ []) lt some fits same =
    ap (λ (n : ℕ). n ∷ []) (decimal_injective number other (omega (arith, lt)) (omega (arith, first-fits other [] fits)) same)
one-number number (sender ∷ other ∷ rest) lt some fits same =
    absurd (has-one 46 (decimal sender) (decimal other) (subst (Lacks 46) same (number-lacks 46 (omega arith) number lt)))

-- nor are two
two-numbers : (sender number : ℕ) (others : List ℕ) → sender < 2 ^ 32 → number < 2 ^ 32 → 0 < length others → length others ≤ 2
    → All (λ n. n < 2 ^ 32) others → decimal sender ++ 46 ∷ decimal number ≡ numbers_text others → sender ∷ number ∷ [] ≡ others
two-numbers sender number [] s_lt n_lt some few fits same = absurd (omega (arith, some))
two-numbers sender number (other ∷ []) s_lt n_lt some few fits same =
    absurd (has-one 46 (decimal sender) (decimal number)
    (subst (Lacks 46) (sym same) (number-lacks 46 (omega arith) other (first-fits other [] fits))))
two-numbers sender number (other ∷ last ∷ []) s_lt n_lt some few fits same =
    let o_lt : other < 2 ^ 32 = first-fits other (last ∷ []) fits in
    let l_lt : last < 2 ^ 32 = second-fits other last fits in
    let parts : (decimal sender ≡ decimal other) × (decimal number ≡ decimal last) =
    same-parts 46 (decimal sender) (decimal number) (decimal other) (decimal last)
    (number-lacks 46 (omega arith) sender s_lt) (number-lacks 46 (omega arith) other o_lt) same in
    ap (λ (n : ℕ). n ∷ number ∷ []) (decimal_injective sender other (omega (arith, s_lt)) (omega (arith, o_lt)) parts.0)
    ∙ ap (λ (n : ℕ). other ∷ n ∷ []) (decimal_injective number last (omega (arith, n_lt)) (omega (arith, l_lt)) parts.1)
two-numbers sender number (other ∷ last ∷ more ∷ rest) s_lt n_lt some few fits same = absurd (omega (arith, few))

same-if : {X : Type 0} (one other : Option X) → ((x : X) → one ≡ Some x → other ≡ Some x) → ((x : X) → other ≡ Some x → one ≡ Some x)
    → one ≡ other
same-if None None to from = refl
same-if None (Some x) to from = from x refl
same-if (Some x) other to from = sym (to x refl)

none-if : {X : Type 0} (one : Option X) → ((x : X) → one ≡ Some x → ⊥) → one ≡ None
none-if None never = refl
none-if (Some x) never = absurd (never x refl)

-- a line with such numbers is read by its word
by-word : (word numbers : List ℕ) → Lacks 32 word → 0 < length numbers → All (λ n. n < 2 ^ 32) numbers
    → ((others : List ℕ) → 0 < length others → length others ≤ 2 → All (λ n. n < 2 ^ 32) others
    → numbers_text numbers ≡ numbers_text others → numbers ≡ others)
    → event_in (word ++ 32 ∷ numbers_text numbers) ≡ event_of word numbers
by-word word numbers lacks some fits only =
    same-if (event_in (word ++ 32 ∷ numbers_text numbers)) (event_of word numbers) to from
  where
    to : (event : Event) → event_in (word ++ 32 ∷ numbers_text numbers) ≡ Some event → event_of word numbers ≡ Some event
    to event is =
        let one : Named word (numbers_text numbers) event = named word (numbers_text numbers) event lacks is in
        ap (λ (w : List ℕ). event_of w numbers) one.is_word
        ∙ ap (event_of (event_word event)) (only (numbers_of event) one.some (few-numbers event) one.fits one.is_name)
        ∙ word-found event

    from : (event : Event) → event_of word numbers ≡ Some event → event_in (word ++ 32 ∷ numbers_text numbers) ≡ Some event
    from event is =
        let one : (numbers_of event ≡ numbers) × (bytes_eq word (event_word event) ≡ true) =
        found (λ (other : Event). bytes_eq word (event_word other)) (λ other. numbers_of other ≡ numbers)
        (events_of numbers) event (events-named numbers) is in
        let text : word ++ 32 ∷ numbers_text numbers ≡ event_text event =
        ap (λ (w : List ℕ). w ++ 32 ∷ numbers_text numbers) ((bytes_eq-Decides word (event_word event)).0 one.1)
        ∙ ap (λ (ns : List ℕ). event_word event ++ 32 ∷ numbers_text ns) (sym one.0)
        ∙ sym (text-parts event (subst (λ (ns : List ℕ). 0 < length ns) (sym one.0) some)) in
        ap event_in text ∙ text-read event (subst (λ (ns : List ℕ). All (λ n. n < 2 ^ 32) ns) (sym one.0) fits)

-- a word and a number
pub number-read : (word : List ℕ) (number : ℕ) → Lacks 32 word → number < 2 ^ 32
    → event_in (word ++ 32 ∷ decimal number) ≡ event_of word (number ∷ [])
number-read word number lacks lt =
    by-word word (number ∷ []) lacks (omega arith)
    (All-cons (λ (n : ℕ). n < 2 ^ 32) number [] lt (All-nil (λ (n : ℕ). n < 2 ^ 32)))
    (λ others some few fits same. one-number number others lt some fits same)

-- a word and the name of a message
pub name-read : (word : List ℕ) (sender number : ℕ) → Lacks 32 word → sender < 2 ^ 32 → number < 2 ^ 32
    → event_in (word ++ 32 ∷ (decimal sender ++ 46 ∷ decimal number)) ≡ event_of word (sender ∷ number ∷ [])
name-read word sender number lacks s_lt n_lt =
    by-word word (sender ∷ number ∷ []) lacks (omega arith)
    (All-cons (λ (n : ℕ). n < 2 ^ 32) sender (number ∷ []) s_lt
    (All-cons (λ (n : ℕ). n < 2 ^ 32) number [] n_lt (All-nil (λ (n : ℕ). n < 2 ^ 32))))
    (λ others some few fits same. two-numbers sender number others s_lt n_lt some few fits same)

-- what is named by no number, where it has no dot
pub no-number : (word name : List ℕ) → Lacks 32 word → Lacks 46 name → ((number : ℕ) → number < 2 ^ 32 → name ≢ decimal number)
    → event_in (word ++ 32 ∷ name) ≡ None
no-number word name lacks dotless never =
    none-if (event_in (word ++ 32 ∷ name)) (λ event is. by_event event (named word name event lacks is))
  where
    by_numbers : (numbers : List ℕ) → 0 < length numbers → All (λ n. n < 2 ^ 32) numbers → name ≡ numbers_text numbers → ⊥
    by_numbers [] some fits is = omega (arith, some)
    by_numbers (number ∷ []) some fits is = never number (first-fits number [] fits) is
    by_numbers (sender ∷ number ∷ rest) some fits is = has-one 46 (decimal sender) (decimal number) (subst (Lacks 46) is dotless)

    by_event : (event : Event) → Named word name event → ⊥
    by_event event one = by_numbers (numbers_of event) one.some one.fits one.is_name

-- and what is no two numbers, where it has a dot
pub no-name : (word sender number : List ℕ) → Lacks 32 word → Lacks 46 sender
    → ((s n : ℕ) → s < 2 ^ 32 → n < 2 ^ 32 → sender ≡ decimal s → number ≡ decimal n → ⊥)
    → event_in (word ++ 32 ∷ (sender ++ 46 ∷ number)) ≡ None
no-name word sender number lacks dotless never =
    none-if (event_in (word ++ 32 ∷ (sender ++ 46 ∷ number)))
    (λ event is. by_event event (named word (sender ++ 46 ∷ number) event lacks is))
  where
    by_numbers : (numbers : List ℕ) → 0 < length numbers → length numbers ≤ 2 → All (λ n. n < 2 ^ 32) numbers
        → sender ++ 46 ∷ number ≡ numbers_text numbers → ⊥
    by_numbers [] some few fits is = omega (arith, some)
    by_numbers (n ∷ []) some few fits is =
        has-one 46 sender number (subst (Lacks 46) (sym is) (number-lacks 46 (omega arith) n (first-fits n [] fits)))
    by_numbers (s ∷ n ∷ []) some few fits is =
        let s_lt : s < 2 ^ 32 = first-fits s (n ∷ []) fits in
        let parts : (sender ≡ decimal s) × (number ≡ decimal n) =
        same-parts 46 sender number (decimal s) (decimal n) dotless (number-lacks 46 (omega arith) s s_lt) is in
        never s n s_lt (second-fits s n fits) parts.0 parts.1
    by_numbers (s ∷ n ∷ more ∷ rest) some few fits is = omega (arith, few)

    by_event : (event : Event) → Named word (sender ++ 46 ∷ number) event → ⊥
    by_event event one = by_numbers (numbers_of event) one.some (few-numbers event) one.fits one.is_name

-- the word `phase` alone
pub phase-read : (line : List ℕ) → bytes_eq line (codes "phase") ≡ true → event_in line ≡ Some Phase
phase-read line is =
    ap event_in ((bytes_eq-Decides line (codes "phase")).0 is) ∙ text-read Phase (All-nil (λ (n : ℕ). n < 2 ^ 32))

-- and no other line without a space
pub nothing-read : (line : List ℕ) → Lacks 32 line → bytes_eq line (codes "phase") ≡ false → event_in line ≡ None
nothing-read line lacks other = none-if (event_in line) (λ event is. by_event event (read-text line event is).0)
  where
    by_event : (event : Event) → line ≡ event_text event → ⊥
    by_event Phase text =
        let is : bytes_eq line (codes "phase") ≡ true = (bytes_eq-Decides line (codes "phase")).1 text in
        cc
    by_event event text =
        has-one 32 (event_word event) (numbers_text (numbers_of event)) (subst (Lacks 32) (text ∙ text-parts event (omega arith)) lacks)
