-- The lines of a trace are the texts of its events.
use Rattle.std.proofs.Common.{◌≡◌, ℕ, ◌<◌, ◌≤◌, ◌^◌, ◌==◌, not, true, false, List, [], ◌∷◌, ◌++◌, length, map, codes, decimal, refl, sym, ap, subst, ◌∙◌, arith}
use Rattle.std.specs.List.{list_all, AllByRecursion, join_with_byte}
use Rattle.std.proofs.lemmas.List.{append_assoc, length-append}
use Rattle.std.proofs.lemmas.List.Elements.{All-nil, All-append}
use Rattle.std.proofs.lemmas.List.Splits.{slice_split_none, slice_split_at, length-slice_split, join_with_byte-slice_split}
use Rattle.trace_text.proofs.NumberLemmas.{first-fits, second-fits}
use Rattle.trace_text.proofs.SeparatorLemmas.{Lacks, lacks-seen, number-lacks}
use Rattle.object_id.specs.declared.node.NodeId.{NodeId}
use Rattle.sheep_node.specs.declared.event.Event.{Event}
use Rattle.sheep_node.specs.declared.event.Event.TheVariants.{Guest, Deliver, LoseRequest, LoseReply, LogNext, Put, RecoverTick, RetryTick, Lost, Leave, Join, Reweight, Back, Phase}
use Rattle.cluster_script.specs.Words.{lines_of}
use Rattle.trace_text.specs.Spelling.{name_text, event_text, trace_text_of}
use Rattle.trace_text.specs.EventReading.{IsNamed}
use Rattle.trace_text.specs.Lines.{whole_lines, lines_in}

-- a line has no LF
abbrev pub IsLine : List ℕ → Type 0
IsLine bytes = Lacks 10 bytes

-- a written word with more behind it
word : (bytes rest : List ℕ) → list_all (λ byte. not (byte == 10)) bytes ≡ true → IsLine rest → IsLine (bytes ++ rest)
word bytes rest seen line = All-append (λ (byte : ℕ). (byte == 10) ≡ false) bytes rest (lacks-seen 10 bytes seen) line

number : (n : ℕ) → n < 2 ^ 32 → IsLine (decimal n)
number n lt = number-lacks 10 (omega arith) n lt

name : (sender : NodeId) (n : ℕ) → sender.0 < 2 ^ 32 → n < 2 ^ 32 → IsLine (name_text sender n)
name sender n s_lt n_lt =
    subst IsLine (sym (append_assoc (decimal sender.0) (codes ".") (decimal n)))
    (All-append (λ (byte : ℕ). (byte == 10) ≡ false) (decimal sender.0) (46 ∷ decimal n) (number sender.0 s_lt)
    (word (codes ".") (decimal n) refl (number n n_lt)))

one-line : (event : Event) → IsNamed event → IsLine (event_text event)
one-line (Guest session) h = word (codes "guest ") (decimal session) refl (number session (first-fits session [] h))
one-line (Deliver sender n) h = word (codes "deliver ") (name_text sender n) refl (name sender n (first-fits sender.0 (n ∷ []) h) (second-fits sender.0 n h))
one-line (LoseRequest sender n) h = word (codes "loserequest ") (name_text sender n) refl (name sender n (first-fits sender.0 (n ∷ []) h) (second-fits sender.0 n h))
one-line (LoseReply sender n) h = word (codes "losereply ") (name_text sender n) refl (name sender n (first-fits sender.0 (n ∷ []) h) (second-fits sender.0 n h))
one-line (LogNext node) h = word (codes "log ") (decimal node.0) refl (number node.0 (first-fits node.0 [] h))
one-line (Put node) h = word (codes "put ") (decimal node.0) refl (number node.0 (first-fits node.0 [] h))
one-line (RecoverTick node) h = word (codes "recover ") (decimal node.0) refl (number node.0 (first-fits node.0 [] h))
one-line (RetryTick node) h = word (codes "retry ") (decimal node.0) refl (number node.0 (first-fits node.0 [] h))
one-line (Lost node) h = word (codes "lost ") (decimal node.0) refl (number node.0 (first-fits node.0 [] h))
one-line (Leave node) h = word (codes "leave ") (decimal node.0) refl (number node.0 (first-fits node.0 [] h))
one-line (Join node) h = word (codes "join ") (decimal node.0) refl (number node.0 (first-fits node.0 [] h))
one-line (Reweight node) h = word (codes "reweight ") (decimal node.0) refl (number node.0 (first-fits node.0 [] h))
one-line (Back node) h = word (codes "back ") (decimal node.0) refl (number node.0 (first-fits node.0 [] h))
one-line Phase h = word (codes "phase") [] refl (All-nil (λ (byte : ℕ). (byte == 10) ≡ false))

-- a line with more behind it
goes-on : (line : List ℕ) (lines : List (List ℕ)) → 0 < length lines → whole_lines (line ∷ lines) ≡ line ∷ whole_lines lines
goes-on line [] lt = absurd (omega (arith, lt))
goes-on line (next ∷ lines) lt = refl

-- the first line of a text
pub first-line : (text line rest : List ℕ) → text ≡ line ++ 10 ∷ rest → IsLine line → lines_in text ≡ line ∷ lines_in rest
first-line text line rest is plain =
    ap lines_in is
    ∙ ap whole_lines (slice_split_at (λ (byte : ℕ). byte == 10) line 10 rest plain refl)
    ∙ goes-on line (lines_of rest) (omega (arith, length-slice_split (λ (byte : ℕ). byte == 10) rest))

-- the only line of a text that doesn't end it
pub only-line : (text : List ℕ) → (length text == 0) ≡ false → IsLine text → lines_in text ≡ text ∷ []
only-line [] some plain = absurd (cc)
only-line (byte ∷ bytes) some plain = ap whole_lines (slice_split_none (λ (byte : ℕ). byte == 10) (byte ∷ bytes) plain)

-- a text has no more lines than bytes
parts-fit : (parts : List (List ℕ)) → length (whole_lines parts) ≤ length (join_with_byte 10 parts)
parts-fit [] = omega arith
parts-fit ([] ∷ []) = omega arith
parts-fit ((byte ∷ bytes) ∷ []) = omega arith
parts-fit (line ∷ next ∷ parts) =
    omega (arith, parts-fit (next ∷ parts), length-append line (10 ∷ join_with_byte 10 (next ∷ parts)))

pub lines-fit : (text : List ℕ) → length (lines_in text) ≤ length text
lines-fit text =
    subst (λ (bytes : List ℕ). length (lines_in text) ≤ length bytes) (join_with_byte-slice_split 10 text) (parts-fit (lines_of text))

-- no event's text is empty
last_one : (event : Event) → whole_lines (event_text event ∷ []) ≡ event_text event ∷ []
last_one (Guest session) = refl
last_one event = refl

line_more : (event : Event) (rest : List ℕ) → IsNamed event → lines_in (event_text event ++ codes "\n" ++ rest) ≡ event_text event ∷ lines_in rest
line_more event rest h =
    first-line (event_text event ++ codes "\n" ++ rest) (event_text event) rest
    (append_assoc (event_text event) (codes "\n") rest) (one-line event h)

-- a line each
pub lines-are-texts : (events : List Event) → AllByRecursion IsNamed events → lines_in (trace_text_of events) ≡ map event_text events
lines-are-texts [] h = refl
lines-are-texts (event ∷ events) h =
    line_more event (trace_text_of events) h.0 ∙ ap (λ (lines : List (List ℕ)). event_text event ∷ lines) (lines-are-texts events h.1)

-- also where the last lacks its LF
pub last-may-lack : (events : List Event) (event : Event) → AllByRecursion IsNamed events → IsNamed event
    → lines_in (trace_text_of events ++ event_text event) ≡ map event_text events ++ event_text event ∷ []
last-may-lack [] event h k =
    ap whole_lines (slice_split_none (λ (byte : ℕ). byte == 10) (event_text event) (one-line event k)) ∙ last_one event
last-may-lack (first-fits ∷ events) event h k =
    ap lines_in (append_assoc (event_text first-fits ++ codes "\n") (trace_text_of events) (event_text event))
    ∙ line_more first-fits (trace_text_of events ++ event_text event) h.0
    ∙ ap (λ (lines : List (List ℕ)). event_text first-fits ∷ lines) (last-may-lack events event h.1 k)
