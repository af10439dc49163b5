-- The sessions of a script, each with its gateway and the incarnation of it that the session belongs to.
use Rattle.std.specs.Prelude.{ℕ, ◌+◌, ◌==◌, nat_lt, Bool, false, List, [], ◌∷◌, ◌++◌, count_by, Option, Some, None, if◌then◌else◌}
use Rattle.std.specs.Option.{option_map_or}
use Rattle.std.specs.List.{find}
use Rattle.cluster_script.specs.declared.statement.Statement.{Statement}
use Rattle.cluster_script.specs.declared.statement.Statement.TheVariants as lines

-- a session: its number, the node that is its gateway, and which incarnation of the node
pub record ScriptSession : Type 0 where
  pub number : ℕ
  pub node : ℕ
  pub incarnation : ℕ

-- a statement brings this node back
abbrev pub brings_back : ℕ → Statement → Bool
brings_back node (lines.Back number) = number == node
brings_back node s = false

-- the incarnation of a node after these statements, from 1; coming back begins the next one
abbrev pub incarnation_after : List Statement → ℕ → ℕ
incarnation_after before node = 1 + count_by (brings_back node) before

-- the session that a statement declares after those before it
abbrev pub declared_session : List Statement → Statement → Option ScriptSession
declared_session before (lines.Session number node) =
    Some (record { number = number; node = node; incarnation = incarnation_after before node })
declared_session before s = None

-- sessions with one more, before the first of a greater number
abbrev pub sessions_with : ScriptSession → List ScriptSession → List ScriptSession
sessions_with session [] = session ∷ []
sessions_with session (first ∷ rest) =
    if nat_lt session.number first.number then session ∷ first ∷ rest else first ∷ sessions_with session rest

-- sessions with the one that was declared, if one was
abbrev pub with_declared : Option ScriptSession → List ScriptSession → List ScriptSession
with_declared declared sessions = option_map_or (λ session. sessions_with session sessions) declared sessions

-- the sessions that statements declare after those before them
abbrev pub sessions_from : List Statement → List Statement → List ScriptSession
sessions_from before [] = []
sessions_from before (s ∷ rest) = with_declared (declared_session before s) (sessions_from (before ++ s ∷ []) rest)

-- the sessions of a script, ascending by number
abbrev pub sessions_of : List Statement → List ScriptSession
sessions_of statements = sessions_from [] statements

-- a session has this number
abbrev pub has_session_number : ℕ → ScriptSession → Bool
has_session_number number session = session.number == number

-- the session of a number, where it is declared
abbrev pub session_numbered : List Statement → ℕ → Option ScriptSession
session_numbered statements number = find (has_session_number number) (sessions_of statements)
