-- A text is read as the script that its lines say, once a line is read as the statement that its words spell.
use Rattle.std.proofs.Common.{◌≡◌, ◌↔◌, ℕ, ◌+◌, false, List, [], ◌∷◌, ◌++◌, length, refl, sym, ap, subst, ◌∙◌, arith, Option, Some, None, Result, Ok, Err, append_assoc, add-zero}
use Rattle.std.specs.Prelude.{codes, nat_eq, nat_le}
use Rattle.std.specs.List.{list_all, starts_with}
use Rattle.std.specs.Char.{is_ascii_digit}
use Rattle.std.specs.Str.{is_utf8}
use Rattle.std.proofs.lemmas.Bool.{and_parts, leb-true, ne_eqb}
use Rattle.std.proofs.lemmas.List.{append-nil}
use Rattle.cluster_script.specs.declared.statement.Statement.{Statement}
use Rattle.cluster_script.specs.declared.statement.Statement.TheVariants as lines
use Rattle.cluster_script.specs.declared.fault.LineCause.{LineCause}
use Rattle.cluster_script.specs.Language.{MayStand, EachMayStand, IsScript}
use Rattle.cluster_script.specs.Words.{Word, has_bytes, lines_of, words_of, says_nothing}
use Rattle.cluster_script.specs.Numbers.{number_of}
use Rattle.cluster_script.specs.Script.{statement_at, statement_of_words, line_at, with_statement, script_of, script_in}
use Rattle.cluster_script.specs.Spelling.{IsRequestWords, IsSpelled, IsSaid, IsLine, AreLines, statements_said, IsScriptText, IsBadLine}
use Rattle.cluster_script.proofs.ReadingParts.{read-on, either-way}
use Rattle.cluster_script.proofs.ReadLemmas.{what-reads}
use Rattle.cluster_script.proofs.SpelledLemmas.{number-digits, what-is-spelled}
use Rattle.cluster_script.proofs.LineSteps.{script_takes, script_stops}
use Rattle.cluster_script.proofs.LanguageLaws.{statement-stands}

-- digits don't begin a comment
digits-say : (number : ℕ) (word : Word) → number_of word ≡ Ok number → starts_with nat_eq word (codes "#") ≡ false
digits-say number [] read = refl
digits-say number (byte ∷ rest) read =
    let all = and_parts (has_bytes (byte ∷ rest)) (list_all is_ascii_digit (byte ∷ rest)) (number-digits (byte ∷ rest) number read) in
    let one = and_parts (is_ascii_digit byte) (list_all is_ascii_digit rest) all.1 in
    let low = leb-true 48 byte (and_parts (nat_le 48 byte) (nat_le byte 57) one.0).0 in
    rw (ne_eqb 35 byte (λ same. omega (arith, same, low)))

asked-says : (session : ℕ) {verb : Word} {rest words : List Word} → IsRequestWords session verb rest words → says_nothing words ≡ false
asked-says session asked = rw asked.1 (digits-say session asked.0 asked.2)

-- words that spell a statement say something
says-something : (s : Statement) (words : List Word) → IsSpelled s words → says_nothing words ≡ false
says-something (lines.Session session node) words spells = rw spells.2
says-something (lines.Create session policy shift name size) words spells = asked-says session spells.3
says-something (lines.OpenDisk session name None) words spells = asked-says session spells
says-something (lines.OpenDisk session name (Some tag)) words spells = asked-says session spells
says-something (lines.Close session) words spells = asked-says session spells
says-something (lines.Read session offset bytes) words spells = asked-says session spells.2
says-something (lines.Write session offset bytes pattern) words spells = asked-says session spells.4
says-something (lines.Snapshot session tag) words spells = asked-says session spells
says-something (lines.Clone session base tag name) words spells = asked-says session spells
says-something (lines.Delete session name None) words spells = asked-says session spells
says-something (lines.Delete session name (Some tag)) words spells = asked-says session spells
says-something lines.Settle words spells = rw spells
says-something lines.ListNodes words spells = rw spells
says-something lines.ListVdis words spells = rw spells
says-something lines.ClusterInfo words spells = rw spells
says-something lines.Dump words spells = rw spells
says-something (lines.Zone node zone) words spells = rw spells.2
says-something (lines.Reweight node vnodes) words spells = rw spells.2
says-something (lines.Check session) words spells = asked-says session spells
says-something s words spells = rw spells.1

nothing-says : (s : Statement) → IsSpelled s [] → ⊥
nothing-says s spells = let something = says-something s [] spells in absurd cc

-- a statement more
each-more : (before rest : List Statement) (s : Statement) → EachMayStand before rest → MayStand (before ++ rest) s
    → EachMayStand before (rest ++ s ∷ [])
each-more before [] s each may = (subst (λ (b : List Statement). MayStand b s) (append-nil before) may, tt)
each-more before (first ∷ rest) s each may =
    let now = subst (λ (b : List Statement). MayStand b s) (sym (append_assoc before (first ∷ []) rest)) may in
    (each.0, each-more (before ++ first ∷ []) rest s each.1 now)

-- the first statements of a script are one
each-begins : (before first rest : List Statement) → EachMayStand before (first ++ rest) → EachMayStand before first
each-begins before [] rest each = tt
each-begins before (s ∷ first) rest each = (each.0, each-begins (before ++ s ∷ []) first rest each.1)

-- what a line says may stand behind the statements before it
abbrev MaySay : List Statement → Option Statement → Type 0
MaySay before None = Unit {0}
MaySay before (Some s) = MayStand before s

pub script-with_statement : (before : List Statement) (said : Option Statement) → IsScript before → MaySay before said → IsScript (with_statement before said)
script-with_statement before None script may = script
script-with_statement before (Some s) script may = each-more [] before s script may

-- the statements that lines say, and those of one line before them
said-with_statement : (before : List Statement) (said : Option Statement) (later : List (Option Statement))
    → with_statement before said ++ statements_said later ≡ before ++ statements_said (said ∷ later)
said-with_statement before None later = refl
said-with_statement before (Some s) later = append_assoc before (s ∷ []) (statements_said later)

-- what a line says in a script may stand there
may-say : (before rest : List Statement) (said : Option Statement) → IsScript (with_statement before said ++ rest) → MaySay before said
may-say before rest None script = tt
may-say before rest (Some s) script = statement-stands before [] s (each-begins [] (with_statement before (Some s)) rest script)

words-taken : (before : List Statement) (words : List Word) (said : Option Statement) → statement_of_words statement_at before words ≡ Ok said
    → IsSaid said words × MaySay before said
unfolding statement_of_words
words-taken before [] None taken = (refl, tt)
words-taken before [] (Some s) taken = absurd cc
words-taken before (first ∷ rest) said taken =
    either-way (says_nothing (first ∷ rest)) _ _ said taken
    (λ nothing e1.
    let same : None ≡ said = cc in
    subst (λ (x : Option Statement). IsSaid x (first ∷ rest) × MaySay before x) same (nothing, tt))
    (λ some e1. read-on _ _ said e1 (λ s stated e2.
    let same : Some s ≡ said = cc in
    subst (λ (x : Option Statement). IsSaid x (first ∷ rest) × MaySay before x) same (what-reads before first rest s stated)))

line-taken : (before : List Statement) (line : List ℕ) (said : Option Statement) → line_at statement_at before line ≡ Ok said
    → IsLine line said × MaySay before said
unfolding line_at
line-taken before line said taken =
    either-way (is_utf8 line) _ _ said taken
    (λ text e1. let words = words-taken before (words_of line) said e1 in (record { text = text; words = words.0 }, words.1))
    (λ none e1. absurd cc)

words-said : (before : List Statement) (words : List Word) (said : Option Statement) → IsScript before → IsSaid said words
    → MaySay before said → statement_of_words statement_at before words ≡ Ok said
unfolding statement_of_words
words-said before words None script says may = rw says
words-said before [] (Some s) script says may = absurd (nothing-says s says)
words-said before (first ∷ rest) (Some s) script says may =
    rw (says-something s (first ∷ rest) says, what-is-spelled before first rest s script says may)

line-said : (before : List Statement) (line : List ℕ) (said : Option Statement) → IsScript before → IsLine line said
    → MaySay before said → line_at statement_at before line ≡ Ok said
unfolding line_at
line-said before line said script says may = rw says.text (words-said before (words_of line) said script says.words may)

-- lines that say statements of a script are taken, one after another
lines-said : (first later : List (List ℕ)) (said : List (Option Statement)) (before : List Statement) (number : ℕ)
    → AreLines first said → IsScript (before ++ statements_said said)
    → script_of statement_at before number (first ++ later)
    ≡ script_of statement_at (before ++ statements_said said) (number + length first) later
unfolding script_of
lines-said [] later [] before number says script = rw (append-nil before, add-zero)
lines-said [] later (said ∷ others) before number says script = absurd says
lines-said (line ∷ first) later [] before number says script = absurd says
lines-said (line ∷ first) later (said ∷ others) before number says script =
    let whole = subst (λ (b : List Statement). IsScript b) (sym (said-with_statement before said others)) script in
    let may = may-say before (statements_said others) said whole in
    let now = each-begins [] before (statements_said (said ∷ others)) script in
    script_takes statement_at before number line (first ++ later) said (line-said before line said now says.0 may)
    ∙ lines-said first later others (with_statement before said) (number + 1) says.1 whole
    ∙ counted
  where
    counted : script_of statement_at (with_statement before said ++ statements_said others) (number + 1 + length first) later
        ≡ script_of statement_at (before ++ statements_said (said ∷ others)) (number + length (line ∷ first)) later
    counted =
        let passed : number + 1 + length first ≡ number + length (line ∷ first) = omega arith in
        ap (λ (b : List Statement). script_of statement_at b (number + 1 + length first) later) (said-with_statement before said others)
        ∙ ap (λ (n : ℕ). script_of statement_at (before ++ statements_said (said ∷ others)) n later) passed

-- lines say statements that make a script of those before them
abbrev AreTaken : List Statement → List (List ℕ) → List Statement → Type 0
AreTaken before text statements =
    IsScript statements × ((said : List (Option Statement)) × AreLines text said × (before ++ statements_said said ≡ statements))

lines-taken : (text : List (List ℕ)) (before : List Statement) (number : ℕ) (statements : List Statement)
    → IsScript before → script_of statement_at before number text ≡ Ok statements
    → AreTaken before text statements
unfolding script_of
lines-taken [] before number statements script taken =
    let same : before ≡ statements = cc in
    (subst (λ (b : List Statement). IsScript b) same script, ([], tt, append-nil before ∙ same))
lines-taken (line ∷ rest) before number statements script taken =
    go (line_at statement_at before line) refl (λ said now. lines-taken rest (with_statement before said) (number + 1) statements now)
  where
    go : (read : Result (Option Statement) LineCause) → line_at statement_at before line ≡ read
        → ((said : Option Statement) → IsScript (with_statement before said)
        → script_of statement_at (with_statement before said) (number + 1) rest ≡ Ok statements → AreTaken (with_statement before said) rest statements)
        → AreTaken before (line ∷ rest) statements
    go (Ok said) reading goes_on =
        let says = line-taken before line said reading in
        let others = goes_on said (script-with_statement before said script says.1)
        (sym (script_takes statement_at before number line rest said reading) ∙ taken) in
        (others.0, (said ∷ others.1.0, (says.0, others.1.1), sym (said-with_statement before said others.1.0) ∙ others.1.2))
    go (Err cause) reading goes_on =
        let stops = script_stops statement_at before number line rest cause reading in
        absurd cc

-- a line of these is the first bad one, behind statements
record BadBehind (before : List Statement) (from : ℕ) (text : List (List ℕ)) (number : ℕ) (cause : LineCause) : Type 0 where
  first : List (List ℕ)
  line : List ℕ
  later : List (List ℕ)
  parted : text ≡ first ++ line ∷ later
  counted : number ≡ from + length first
  said : List (Option Statement)
  good : AreLines first said
  script : IsScript (before ++ statements_said said)
  bad : line_at statement_at (before ++ statements_said said) line ≡ Err cause

lines-bad : (text : List (List ℕ)) (before : List Statement) (from number : ℕ) (cause : LineCause)
    → IsScript before → script_of statement_at before from text ≡ Err (number, cause) → BadBehind before from text number cause
unfolding script_of
lines-bad [] before from number cause script stopped = absurd cc
lines-bad (line ∷ rest) before from number cause script stopped =
    go (line_at statement_at before line) refl (λ s now. lines-bad rest (with_statement before s) (from + 1) number cause now)
  where
    go : (read : Result (Option Statement) LineCause) → line_at statement_at before line ≡ read
        → ((s : Option Statement) → IsScript (with_statement before s)
        → script_of statement_at (with_statement before s) (from + 1) rest ≡ Err (number, cause)
        → BadBehind (with_statement before s) (from + 1) rest number cause)
        → BadBehind before from (line ∷ rest) number cause
    go (Ok s) reading goes_on =
        let says = line-taken before line s reading in
        let behind = goes_on s (script-with_statement before s script says.1)
        (sym (script_takes statement_at before from line rest s reading) ∙ stopped) in
        record {
          first = line ∷ behind.first;
          line = behind.line;
          later = behind.later;
          parted = ap (λ (t : List (List ℕ)). line ∷ t) behind.parted;
          counted = omega (arith, behind.counted);
          said = s ∷ behind.said;
          good = (says.0, behind.good);
          script = rw (← said-with_statement before s behind.said) behind.script;
          bad = rw (← said-with_statement before s behind.said) behind.bad;
        }
    go (Err other) reading goes_on =
        let stops = script_stops statement_at before from line rest other reading in
        let same : ◌≡◌ {A = ℕ × LineCause} (from, other) (number, cause) = cc in
        let same_number : from ≡ number = ap (λ (found : ℕ × LineCause). found.0) same in
        record {
          first = [];
          line = line;
          later = rest;
          parted = refl;
          counted = omega (arith, same_number);
          said = [];
          good = tt;
          script = rw (append-nil before) script;
          bad = rw (append-nil before) (reading ∙ ap (λ (found : ℕ × LineCause). Err found.1) same);
        }

-- a text is read as the script that its lines say
pub text-script : (text : List ℕ) (statements : List Statement)
    → script_in text ≡ Ok statements ↔ IsScript statements × IsScriptText text statements
unfolding script_of
text-script text statements = (
  λ taken. let all = lines-taken (lines_of text) [] 1 statements tt taken in (all.0, all.1),
  λ says. back says.0 says.1,
)
  where
    back : IsScript statements → IsScriptText text statements → script_in text ≡ Ok statements
    back script says =
        ap (script_of statement_at [] 1) (sym (append-nil (lines_of text)))
        ∙ lines-said (lines_of text) [] says.0 [] 1 says.1 (subst (λ (b : List Statement). IsScript b) (sym says.2) script)
        ∙ ap (λ (b : List Statement). Ok b) says.2

-- where reading stops, a line is the first bad one
pub text-bad : (text : List ℕ) (number : ℕ) (cause : LineCause)
    → script_in text ≡ Err (number, cause) ↔ IsBadLine text number cause
unfolding script_of
text-bad text number cause = (λ stopped. forth (lines-bad (lines_of text) [] 1 number cause tt stopped), back)
  where
    forth : BadBehind [] 1 (lines_of text) number cause → IsBadLine text number cause
    forth behind = record {
      before = behind.first;
      line = behind.line;
      later = behind.later;
      parted = behind.parted;
      counted = omega (arith, behind.counted);
      said = behind.said;
      good = behind.good;
      script = behind.script;
      bad = behind.bad;
    }

    back : IsBadLine text number cause → script_in text ≡ Err (number, cause)
    back found =
        let counted : 1 + length found.before ≡ number = omega (arith, found.counted) in
        ap (script_of statement_at [] 1) found.parted
        ∙ lines-said found.before (found.line ∷ found.later) found.said [] 1 found.good found.script
        ∙ script_stops statement_at (statements_said found.said) (1 + length found.before) found.line found.later cause found.bad
        ∙ ap (λ (n : ℕ). Err (n, cause)) counted
