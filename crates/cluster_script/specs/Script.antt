-- What a script is: each line in turn, after the statements of the lines before it.
use Rattle.std.specs.Prelude.{◌≡◌, ℕ, ◌+◌, ◌&&◌, not, List, [], ◌∷◌, ◌++◌, bytes_eq, codes, Option, Some, None, Result, Ok, Err}
use Rattle.std.specs.Prelude.{◌<◌, IfErr, if◌then◌else◌}
use Rattle.std.specs.Str.{is_utf8}
use Rattle.cluster_script.specs.declared.statement.Statement.{Statement}
use Rattle.cluster_script.specs.declared.statement.Statement.TheVariants.{Cluster, Vnodes, Tries, Limit}
use Rattle.cluster_script.specs.declared.fault.LineCause.{LineCause}
use Rattle.cluster_script.specs.declared.fault.LineCause.TheVariants as causes
use Rattle.cluster_script.specs.declared.fault.ScriptFault.{ScriptFault}
use Rattle.cluster_script.specs.declared.fault.ScriptFault.TheVariants as faults
use Rattle.object_id.specs.declared.limits.TheConstants.{NODES_MAX, VNODES_MAX, TRIES_MAX, LIMIT_MAX, SESSIONS_MAX}
use Rattle.cluster_script.specs.Statements.{is_cluster, is_session_declared, has}
use Rattle.cluster_script.specs.Settings.{nodes_set, vnodes_set, tries_set, limit_set}
use Rattle.cluster_script.specs.ReadResults.{◌>>=◌}
use Rattle.cluster_script.specs.Words.{Word, lines_of, words_of, says_nothing, word_at, is_next_word}
use Rattle.cluster_script.specs.Numbers.{is_digits, number_of, number_in_range}
use Rattle.cluster_script.specs.Requests.{vdi_request_at}
use Rattle.cluster_script.specs.ClusterLines.{setting_at, zone_at, happening_at}

-- the number of a declared session
unfoldable pub asking_session : List Statement → Word → Result ℕ LineCause
asking_session before word = do
  number ← number_of word
  session ← number_in_range 1 SESSIONS_MAX number
  if is_session_declared session before then Ok session else Err causes.Unknown

-- digits alone begin a request of the session of that number
unfoldable pub session_request_at : List Statement → Word → List Word → Result Statement LineCause
session_request_at before first words = do
  session ← asking_session before first
  vdi_request_at before session words

-- behind `cluster` a statement that is no setting may stand
unfoldable pub statement_behind_cluster : List Statement → Word → List Word → Result Statement LineCause
statement_behind_cluster before first words =
    if not (has is_cluster before) then Err causes.Word
    else if is_digits first then session_request_at before first words
    else happening_at before first words

-- the statement that the first word begins; `cluster info` is no setting
unfoldable pub statement_at : List Statement → Word → List Word → Result Statement LineCause
statement_at before first words =
    if bytes_eq first (codes "cluster") && not (is_next_word (codes "info") words)
    then setting_at (λ nodes. Cluster nodes) nodes_set NODES_MAX before words
    else if bytes_eq first (codes "vnodes") then setting_at (λ vnodes. Vnodes vnodes) vnodes_set VNODES_MAX before words
    else if bytes_eq first (codes "tries") then setting_at (λ tries. Tries tries) tries_set TRIES_MAX before words
    else if bytes_eq first (codes "limit") then setting_at (λ limit. Limit limit) limit_set LIMIT_MAX before words
    else if bytes_eq first (codes "zone") then zone_at before words
    else statement_behind_cluster before first words

-- how the statement of a line is read, from its first word and the words after it, behind the statements before it
abbrev pub StatementReader : Type 0
StatementReader = List Statement → Word → List Word → Result Statement LineCause

-- a line's words: a statement, or none
unfoldable pub statement_of_words : StatementReader → List Statement → List Word → Result (Option Statement) LineCause
statement_of_words reader before words = if says_nothing words then Ok None else (do
  first ← word_at words
  s ← reader before first.0 first.1
  Ok (Some s))

-- a line is UTF-8, or no word of it is read
unfoldable pub line_at : StatementReader → List Statement → List ℕ → Result (Option Statement) LineCause
line_at reader before line = if is_utf8 line then statement_of_words reader before (words_of line) else Err causes.NotUtf8

-- the statements with that of one line more, if it has one
abbrev pub with_statement : List Statement → Option Statement → List Statement
with_statement before None = before
with_statement before (Some s) = before ++ s ∷ []

-- a line was taken: its statement, if it has one, stands after those before it
abbrev pub IsLineTaken : List Statement → List Statement → Result (Option Statement) LineCause → Type 0
IsLineTaken old new read = (s : Option Statement) × (read ≡ Ok s) × (new ≡ with_statement old s)

-- the statements of the lines, or the number and the cause of the first bad line
unfoldable pub script_of : StatementReader → List Statement → ℕ → List (List ℕ) → Result (List Statement) (ℕ × LineCause)
script_of reader before number [] = Ok before
script_of reader before number (line ∷ lines) = elim (line_at reader before line) [
  | Ok s ↦ script_of reader (with_statement before s) (number + 1) lines
  | Err cause ↦ Err (number, cause)
]

-- the script that a text is, or its first bad line, from 1, and the cause
abbrev pub script_in : List ℕ → Result (List Statement) (ℕ × LineCause)
script_in text = script_of statement_at [] 1 (lines_of text)

-- the answer to a text: what it spells, or its first bad line and the cause; memory can be wanting for what it spells, or for the lines
-- before its first bad one
abbrev pub AnswersText : Result (List Statement) ScriptFault → Result (List Statement) (ℕ × LineCause) → Type 0
AnswersText (Ok statements) read = read ≡ Ok statements
AnswersText (Err (faults.BadLine line cause)) read = read ≡ Err (line, cause)
AnswersText (Err faults.NoMemory) read = IfErr read (λ bad. 1 < bad.0)
