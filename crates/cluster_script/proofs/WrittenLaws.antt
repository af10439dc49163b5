-- Each script has a text, which is read as it.
use Rattle.std.proofs.Common.{◌≡◌, ℕ, ◌*◌, ◌≤◌, ◌<◌, ◌^◌, true, List, [], ◌∷◌, ◌++◌, codes, decimal, refl, sym, ap, subst, arith, inr, Option, Some, None, Ok}
use Rattle.std.specs.List.{join_with_byte}
use Rattle.std.proofs.Math.Nat.{pow-le-pow_right}
use Rattle.std.proofs.lemmas.Str.{is_utf8-from_IsUtf8, IsUtf8-nil}
use Rattle.cluster_script.specs.declared.statement.Pattern.{Pattern}
use Rattle.cluster_script.specs.declared.statement.Pattern.TheVariants as patterns
use Rattle.cluster_script.specs.declared.statement.Statement.{Statement}
use Rattle.cluster_script.specs.declared.statement.Statement.TheVariants.{Cluster, Vnodes, Tries, Limit, Session, Create, OpenDisk, Close, Read, Write, Snapshot, Clone, Delete, Fail, Join, Lose, Zone, Reweight, Back, Check}
use Rattle.object_id.specs.Span.{IsSpan}
use Rattle.cluster_script.specs.Language.{MayAsk, IsPrintedName, IsPrintedTag, MayStand, EachMayStand, IsScript}
use Rattle.cluster_script.specs.Words.{Word, lines_of}
use Rattle.cluster_script.specs.Script.{script_in}
use Rattle.cluster_script.specs.Spelling.{IsNumber, IsOneNumber, IsTwoNumbers, IsRequestWords, IsAskedOfDisk, IsPatternWords, IsSpelled, IsLine, AreLines, statements_said}
use Rattle.cluster_script.specs.Writing.{policy_word, tag_words, asked_words, words_for, text_for}
use Rattle.cluster_script.proofs.ScriptFacts.{is_session_declared-session, used-node, failed-node}
use Rattle.cluster_script.proofs.WritingLemmas.{is_word, are_words, printed-is-word, words-joined, joined-text, joined-line, decimal-is-number, decimal-is-size, decimal-is-word, policy-is-read, policy-is-word}
use Rattle.cluster_script.proofs.SpelledLemmas.{each-printed}
use Rattle.cluster_script.proofs.TextLaws.{script-with_statement, text-script}

-- the words for a statement spell it, and each is a word
abbrev IsWritten : Statement → Type 0
IsWritten s = IsSpelled s (words_for s) × (are_words (words_for s) ≡ true)

-- a name is a word
name-word : (name : Word) → IsPrintedName name → is_word name ≡ true
name-word name named = printed-is-word name named.some (each-printed name named.printed)

-- a keyword and numbers
one-number : (keyword : Word) (number : ℕ) → is_word keyword ≡ true → number < 2 ^ 64
    → IsOneNumber keyword number (keyword ∷ decimal number ∷ []) × (are_words (keyword ∷ decimal number ∷ []) ≡ true)
one-number keyword number is lt = ((decimal number, refl, decimal-is-number number lt), rw (is, decimal-is-word number lt) refl)

two-numbers : (keyword : Word) (first second : ℕ) → is_word keyword ≡ true → first < 2 ^ 64 → second < 2 ^ 64
    → IsTwoNumbers keyword first second (keyword ∷ decimal first ∷ decimal second ∷ [])
    × (are_words (keyword ∷ decimal first ∷ decimal second ∷ []) ≡ true)
two-numbers keyword first second is first_lt second_lt = (
  (decimal first, decimal second, refl, decimal-is-number first first_lt, decimal-is-number second second_lt),
  rw (is, decimal-is-word first first_lt, decimal-is-word second second_lt) refl,
)

-- the number of a session that may ask is small
session-below : (before : List Statement) (session : ℕ) → IsScript before → MayAsk before session → session < 2 ^ 64
session-below before session script may = let most = (is_session_declared-session before session script may.declared).0.1 in omega (arith, most)

-- what a session asks, in words
asked : (before : List Statement) (session : ℕ) (verb : Word) (rest : List Word) → IsScript before → MayAsk before session
    → are_words (verb ∷ rest) ≡ true
    → IsRequestWords session verb rest (asked_words session verb rest) × (are_words (asked_words session verb rest) ≡ true)
asked before session verb rest script may are =
    let lt = session-below before session script may in
    ((decimal session, refl, decimal-is-number session lt), rw (decimal-is-word session lt) are)

asked-of-disk : (before : List Statement) (session : ℕ) (verb name : Word) (tag : Option Word) → IsScript before → MayAsk before session
    → is_word verb ≡ true → IsPrintedName name → IsPrintedTag tag
    → IsAskedOfDisk session verb name tag (asked_words session verb (tag_words tag ++ name ∷ []))
    × (are_words (asked_words session verb (tag_words tag ++ name ∷ [])) ≡ true)
asked-of-disk before session verb name None script may is named tagged =
    asked before session verb (name ∷ []) script may (rw (is, name-word name named) refl)
asked-of-disk before session verb name (Some tag) script may is named tagged =
    asked before session verb (codes "-s" ∷ tag ∷ name ∷ []) script may (rw (is, name-word tag tagged, name-word name named) refl)

-- a write, with its pattern in two words
abbrev write_words : ℕ → ℕ → ℕ → Word → ℕ → List Word
write_words session offset bytes name byte =
    asked_words session (codes "write") (decimal offset ∷ decimal bytes ∷ name ∷ decimal byte ∷ [])

write-in-words : (before : List Statement) (session offset bytes : ℕ) (pattern : Pattern) (name : Word) (byte : ℕ) → IsScript before
    → MayAsk before session → IsSpan offset bytes → is_word name ≡ true → byte < 2 ^ 8
    → (IsNumber byte (decimal byte) → IsPatternWords pattern name (decimal byte))
    → IsSpelled (Write session offset bytes pattern) (write_words session offset bytes name byte)
    × (are_words (write_words session offset bytes name byte) ≡ true)
write-in-words before session offset bytes pattern name byte script may span is below says =
    let bytes_lt : bytes < 2 ^ 64 = omega (arith, span.most) in
    let byte_lt : byte < 2 ^ 64 = omega (arith, below) in
    let asks = asked before session (codes "write") (decimal offset ∷ decimal bytes ∷ name ∷ decimal byte ∷ []) script may
    (rw (decimal-is-word offset span.below, decimal-is-word bytes bytes_lt, is, decimal-is-word byte byte_lt) refl) in (
      (
        decimal offset,
        decimal bytes,
        name,
        decimal byte,
        asks.0,
        decimal-is-size offset span.below,
        decimal-is-size bytes bytes_lt,
        says (decimal-is-number byte byte_lt),
      ),
      asks.1,
    )

-- the size of a disk is that of 2^20 objects of at most 2^24 bytes
size-below : (shift size : ℕ) → shift ≤ 24 → size ≤ 2 ^ 20 * 2 ^ shift → size < 2 ^ 64
size-below shift size most fits = let object : 2 ^ shift ≤ 2 ^ 24 = pow-le-pow_right (omega arith) most in omega (arith, object, fits)

-- a statement that may stand behind a script is written in words that spell it
written : (before : List Statement) (s : Statement) → IsScript before → MayStand before s → IsWritten s
written before (Cluster nodes) script may = one-number (codes "cluster") nodes refl (omega (arith, may.2))
written before (Vnodes vnodes) script may = one-number (codes "vnodes") vnodes refl (omega (arith, may.2))
written before (Tries tries) script may = one-number (codes "tries") tries refl (omega (arith, may.2))
written before (Limit limit) script may = one-number (codes "limit") limit refl (omega (arith, may.2))
written before (Session session node) script may =
    let session_lt : session < 2 ^ 64 = omega (arith, may.3) in
    let node_lt : node < 2 ^ 64 = omega (arith, used-node before node script may.4.used) in (
      (decimal session, decimal node, refl, decimal-is-number session session_lt, decimal-is-number node node_lt),
      rw (decimal-is-word session session_lt, decimal-is-word node node_lt) refl,
    )
written before (Create session policy shift name size) script may =
    let shift_lt : shift < 2 ^ 64 = omega (arith, may.2.shift.1) in
    let size_lt : size < 2 ^ 64 = size-below shift size may.2.shift.1 may.2.size.1 in
    let options = codes "-c" ∷ policy_word policy ∷ codes "-z" ∷ decimal shift ∷ [] in
    let asks = asked before session (codes "create") (options ++ name ∷ decimal size ∷ []) script may.0
    (rw (policy-is-word policy may.2.policy, decimal-is-word shift shift_lt, name-word name may.1, decimal-is-word size size_lt) refl) in (
      (
        codes "-c" ∷ policy_word policy ∷ [],
        codes "-z" ∷ decimal shift ∷ [],
        decimal size,
        asks.0,
        inr (policy_word policy, refl, policy-is-read policy may.2.policy),
        inr (decimal shift, refl, decimal-is-number shift shift_lt),
        decimal-is-size size size_lt,
      ),
      asks.1,
    )
written before (OpenDisk session name tag) script may = asked-of-disk before session (codes "open") name tag script may.0 refl may.1 may.2
written before (Close session) script may = asked before session (codes "close") [] script may refl
written before (Read session offset bytes) script may =
    let bytes_lt : bytes < 2 ^ 64 = omega (arith, may.1.most) in
    let asks = asked before session (codes "read") (decimal offset ∷ decimal bytes ∷ []) script may.0
    (rw (decimal-is-word offset may.1.below, decimal-is-word bytes bytes_lt) refl) in
    ((decimal offset, decimal bytes, asks.0, decimal-is-size offset may.1.below, decimal-is-size bytes bytes_lt), asks.1)
written before (Write session offset bytes (patterns.Fill byte)) script may =
    write-in-words before session offset bytes (patterns.Fill byte) (codes "fill") byte script may.0 may.1 refl may.2 (λ is. (refl, is))
written before (Write session offset bytes (patterns.Step byte)) script may =
    write-in-words before session offset bytes (patterns.Step byte) (codes "step") byte script may.0 may.1 refl may.2 (λ is. (refl, is))
written before (Snapshot session tag) script may =
    asked before session (codes "snapshot") (codes "-s" ∷ tag ∷ []) script may.0 (rw (name-word tag may.1) refl)
written before (Clone session base tag name) script may =
    asked before session (codes "clone") (codes "-s" ∷ tag ∷ base ∷ name ∷ []) script may.0
    (rw (name-word tag may.2, name-word base may.1, name-word name may.3) refl)
written before (Delete session name tag) script may = asked-of-disk before session (codes "delete") name tag script may.0 refl may.1 may.2
written before (Fail node) script may = one-number (codes "fail") node refl (omega (arith, used-node before node script may.1.used))
written before (Join node) script may = one-number (codes "join") node refl (omega (arith, may.1))
written before (Lose count) script may = one-number (codes "lose") count refl (omega (arith, may.1))
written before (Zone node zone) script may = two-numbers (codes "zone") node zone refl (omega (arith, may.1)) (omega (arith, may.2))
written before (Reweight node vnodes) script may =
    two-numbers (codes "reweight") node vnodes refl (omega (arith, used-node before node script may.1.used)) (omega (arith, may.3))
written before (Back node) script may = one-number (codes "back") node refl (omega (arith, failed-node before node script may.1))
written before (Check session) script may = asked before session (codes "check") [] script may.0 refl
written before s script may = (refl, refl)

-- what the lines of a text say: a statement each, and the empty one at its end nothing
abbrev said_by : List Statement → List (Option Statement)
said_by [] = None ∷ []
said_by (s ∷ rest) = Some s ∷ said_by rest

-- which is these statements
said-again : (statements : List Statement) → statements_said (said_by statements) ≡ statements
said-again [] = refl
said-again (s ∷ rest) = ap (λ (later : List Statement). s ∷ later) (said-again rest)

-- the line of a statement says it
line-for : (before : List Statement) (s : Statement) → IsScript before → MayStand before s
    → IsLine (join_with_byte 32 (words_for s)) (Some s)
line-for before s script may =
    let is = written before s script may in
    record {
      text = joined-text (words_for s) is.1;
      words = subst (λ (words : List Word). IsSpelled s words) (sym (words-joined (words_for s) is.1)) is.0;
    }

-- and so do the lines of a text
lines-for : (before rest : List Statement) → IsScript before → EachMayStand before rest → AreLines (lines_of (text_for rest)) (said_by rest)
lines-for before [] script each = (record { text = is_utf8-from_IsUtf8 [] IsUtf8-nil; words = refl }, tt)
lines-for before (s ∷ rest) script each =
    let are = (written before s script each.0).1 in
    subst (λ (lines : List (List ℕ)). AreLines lines (said_by (s ∷ rest))) (sym (joined-line (words_for s) (text_for rest) are))
    (line-for before s script each.0, lines-for (before ++ s ∷ []) rest (script-with_statement before (Some s) script each.0) each.1)

-- the text of a script is read as it
pub written-script : (statements : List Statement) → IsScript statements → script_in (text_for statements) ≡ Ok statements
written-script statements script =
    (text-script (text_for statements) statements).1
    (script, (said_by statements, lines-for [] statements tt script, said-again statements))
