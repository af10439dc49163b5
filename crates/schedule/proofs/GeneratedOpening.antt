-- What stands before the rounds of a generated script: its lines are read as its statements, and so are the lines that these are
-- written as.
use Rattle.std.proofs.Common.{◌≡◌, ℕ, ◌+◌, true, false, List, [], ◌∷◌, ◌++◌, length, map, codes, Some, Ok, refl, sym, ap, ◌∙◌, append_assoc, arith}
use Rattle.std.specs.Fmt.{digits}
use Rattle.std.specs.List.{list_all, join_with_byte}
use Rattle.std.proofs.lemmas.Bool.{and_parts}
use Rattle.std.proofs.lemmas.List.{append-nil}
use Rattle.cluster_script.specs.declared.statement.Statement.{Statement}
use Rattle.cluster_script.specs.Words.{Word, lines_of, says_nothing, keyword_at, name_word_at}
use Rattle.cluster_script.specs.Numbers.{scaled_number, size_of_word, plain_number_at, blocks_at}
use Rattle.cluster_script.specs.Requests as requests
use Rattle.cluster_script.specs.ClusterLines as cluster
use Rattle.cluster_script.specs.Script.{asking_session, session_request_at, statement_behind_cluster, statement_at, statement_of_words, line_at, script_of, script_in}
use Rattle.cluster_script.specs.Writing.{words_for, text_for}
use Rattle.cluster_script.specs.Language.{EachMayStand}
use Rattle.cluster_script.proofs.LineSteps.{script_takes}
use Rattle.cluster_script.proofs.ReadLemmas.{what-reads}
use Rattle.cluster_script.proofs.WritingLemmas.{are_words, words-joined, joined-text, joined-line}
use Rattle.schedule.specs.Generated.{opening_lines}
use Rattle.schedule.specs.GeneratedScript.{text_of_lines, opening_statements}

-- lines, as the words of each, are read as these statements, one after another
abbrev AreRead : List Statement → List (List Word) → List Statement → Type 0
AreRead before [] [] = Unit {0}
AreRead before [] (s ∷ rest) = ⊥
AreRead before ([] ∷ lines) statements = ⊥
AreRead before ((first ∷ words) ∷ lines) [] = ⊥
AreRead before ((first ∷ words) ∷ lines) (s ∷ rest) =
    (says_nothing (first ∷ words) ≡ false) × (statement_at before first words ≡ Ok s) × AreRead (before ++ s ∷ []) lines rest

-- the text of lines of words
abbrev pub text_of_words : List (List Word) → List ℕ
text_of_words lines = text_of_lines (map (join_with_byte 32) lines)

line-taken : (before : List Statement) (first : Word) (words : List Word) (s : Statement) → are_words (first ∷ words) ≡ true
    → says_nothing (first ∷ words) ≡ false → statement_at before first words ≡ Ok s
    → line_at statement_at before (join_with_byte 32 (first ∷ words)) ≡ Ok (Some s)
unfolding line_at statement_of_words
line-taken before first words s are says stated = rw (joined-text (first ∷ words) are, words-joined (first ∷ words) are, says, stated) refl

-- behind such lines a script goes on after their statements
lines-taken : (before : List Statement) (lines : List (List Word)) (statements : List Statement) (number : ℕ) (later : List ℕ)
    → list_all are_words lines ≡ true → AreRead before lines statements
    → script_of statement_at before number (lines_of (text_of_words lines ++ later))
    ≡ script_of statement_at (before ++ statements) (number + length lines) (lines_of later)
lines-taken before [] [] number later are read =
    let none : number ≡ number + 0 = omega arith in
    ap (λ (b : List Statement). script_of statement_at b number (lines_of later)) (sym (append-nil before))
    ∙ ap (λ (n : ℕ). script_of statement_at (before ++ []) n (lines_of later)) none
lines-taken before [] (s ∷ rest) number later are read = absurd read
lines-taken before ([] ∷ lines) statements number later are read = absurd read
lines-taken before ((first ∷ words) ∷ lines) [] number later are read = absurd read
lines-taken before ((first ∷ words) ∷ lines) (s ∷ rest) number later are read =
    let each = and_parts (are_words (first ∷ words)) (list_all are_words lines) are in
    let line : List ℕ = join_with_byte 32 (first ∷ words) in
    let passed : number + 1 + length lines ≡ number + length ((first ∷ words) ∷ lines) = omega arith in
    ap (λ (text : List ℕ). script_of statement_at before number (lines_of text)) (append_assoc (line ++ codes "\n") (text_of_words lines) later)
    ∙ ap (script_of statement_at before number) (joined-line (first ∷ words) (text_of_words lines ++ later) each.0)
    ∙ script_takes statement_at before number line (lines_of (text_of_words lines ++ later)) (Some s)
    (line-taken before first words s each.0 read.0 read.1)
    ∙ lines-taken (before ++ s ∷ []) lines rest (number + 1) later each.1 read.2
    ∙ ap (λ (b : List Statement). script_of statement_at b (number + 1 + length lines) (lines_of later)) (append_assoc before (s ∷ []) rest)
    ∙ ap (λ (n : ℕ). script_of statement_at (before ++ s ∷ rest) n (lines_of later)) passed

-- and each may stand
lines-stand : (before : List Statement) (lines : List (List Word)) (statements : List Statement) → AreRead before lines statements
    → EachMayStand before statements
lines-stand before [] [] read = tt
lines-stand before [] (s ∷ rest) read = absurd read
lines-stand before ([] ∷ lines) statements read = absurd read
lines-stand before ((first ∷ words) ∷ lines) [] read = absurd read
lines-stand before ((first ∷ words) ∷ lines) (s ∷ rest) read =
    ((what-reads before first words s read.1).1, lines-stand (before ++ s ∷ []) lines rest read.2)

-- the words of the lines before the rounds, line by line: those of a session, and of a disk's create and open
abbrev session_words : Word → Word → List Word
session_words session node = codes "session" ∷ session ∷ codes "node" ∷ node ∷ []

abbrev create_words : Word → Word → Word → List Word
create_words session policy name =
    session ∷ codes "vdi" ∷ codes "create" ∷ codes "-c" ∷ policy ∷ codes "-z" ∷ codes "20" ∷ name ∷ codes "64M" ∷ []

abbrev open_words : Word → Word → List Word
open_words session name = session ∷ codes "vdi" ∷ codes "open" ∷ name ∷ []

abbrev spelled_words : List (List Word)
spelled_words =
    (codes "cluster" ∷ codes "6" ∷ []) ∷ (codes "tries" ∷ codes "1000" ∷ [])
    ∷ session_words (codes "1") (codes "0") ∷ session_words (codes "2") (codes "1")
    ∷ session_words (codes "3") (codes "2") ∷ session_words (codes "4") (codes "3")
    ∷ create_words (codes "1") (codes "3") (codes "g1") ∷ open_words (codes "1") (codes "g1")
    ∷ create_words (codes "2") (codes "2:2") (codes "g2") ∷ open_words (codes "2") (codes "g2")
    ∷ create_words (codes "3") (codes "3") (codes "g3") ∷ open_words (codes "3") (codes "g3")
    ∷ create_words (codes "4") (codes "2:2") (codes "g4") ∷ open_words (codes "4") (codes "g4")
    ∷ (codes "settle" ∷ []) ∷ []

abbrev written_words : List (List Word)
written_words = map words_for opening_statements

spelled-again : map (join_with_byte 32) spelled_words ≡ opening_lines
unfolding digits
spelled-again = refl

spelled-are-words : list_all are_words spelled_words ≡ true
unfolding digits
spelled-are-words = refl

written-are-words : list_all are_words written_words ≡ true
unfolding digits
written-are-words = refl

spelled-are-read : AreRead [] spelled_words opening_statements
unfolding digits statement_at cluster.setting_at statement_behind_cluster cluster.zone_at cluster.happening_at session_request_at cluster.barrier_at cluster.session_line_at cluster.fail_at cluster.join_at asking_session cluster.there_at cluster.alone_at plain_number_at scaled_number keyword_at requests.vdi_request_at requests.verb_at requests.create_request_at requests.open_request_at name_word_at requests.policy_option_at requests.disk_words_at blocks_at requests.strips_in requests.tag_at size_of_word requests.copies_in
spelled-are-read =
    (refl, refl, (refl, refl, (refl, refl, (refl, refl, (refl, refl, (refl, refl, (refl, refl, (refl, refl, (refl, refl, (refl, refl, (refl, refl, (refl, refl, (refl, refl, (refl, refl, (refl, refl, tt)))))))))))))))

written-are-read : AreRead [] written_words opening_statements
unfolding digits statement_at cluster.setting_at statement_behind_cluster cluster.zone_at cluster.happening_at session_request_at cluster.barrier_at cluster.session_line_at cluster.fail_at cluster.join_at asking_session cluster.there_at cluster.alone_at plain_number_at scaled_number keyword_at requests.vdi_request_at requests.verb_at requests.create_request_at requests.open_request_at name_word_at requests.policy_option_at requests.disk_words_at blocks_at requests.strips_in requests.tag_at size_of_word requests.copies_in
written-are-read =
    (refl, refl, (refl, refl, (refl, refl, (refl, refl, (refl, refl, (refl, refl, (refl, refl, (refl, refl, (refl, refl, (refl, refl, (refl, refl, (refl, refl, (refl, refl, (refl, refl, (refl, refl, tt)))))))))))))))

pub opening-stands : EachMayStand [] opening_statements
opening-stands = lines-stand [] spelled_words opening_statements spelled-are-read

-- a text that begins with these lines is read as one that begins with what their statements are written as
pub opening-read : (later : List ℕ)
    → script_in (text_of_lines opening_lines ++ later) ≡ script_in (text_for opening_statements ++ later)
opening-read later =
    ap (λ (lines : List (List ℕ)). script_in (text_of_lines lines ++ later)) (sym spelled-again)
    ∙ lines-taken [] spelled_words opening_statements 1 later spelled-are-words spelled-are-read
    ∙ sym (lines-taken [] written_words opening_statements 1 later written-are-words written-are-read)
    ∙ ap (λ (text : List ℕ). script_in (text ++ later)) written-text
  where
    written-text : text_of_words written_words ≡ text_for opening_statements
    written-text = refl
