-- The sessions of a script are those that its statements declare.
use Rattle.std.proofs.Common.{◌≡◌, ℕ, ◌≤◌, ◌==◌, Bool, true, false, cond, ◌||◌, List, [], ◌∷◌, ◌++◌, All, refl, ap, ◌∙◌, arith, if◌then◌else◌}
use Rattle.std.specs.Prelude.{nat_lt, is_some, Some}
use Rattle.std.specs.List.{find, list_any, AllPairs}
use Rattle.std.proofs.lemmas.Bool.{ltb-true, ltb-false}
use Rattle.std.proofs.lemmas.List.Elements.{All-nil, All-cons}
use Rattle.std.proofs.lemmas.List.Kept.{AllPairs-cons}
use Rattle.proof_tools.proofs.Booleans.{or_left_comm}
use Rattle.cluster_script.specs.declared.statement.Statement.{Statement}
use Rattle.cluster_script.specs.declared.statement.Statement.TheVariants as lines
use Rattle.cluster_script.specs.Statements.{is_session_declared}
use Rattle.cluster_script.specs.Sessions.{ScriptSession, sessions_with, sessions_from, sessions_of, has_session_number, session_numbered}

find-any : (p : ScriptSession → Bool) (sessions : List ScriptSession) → is_some (find p sessions) ≡ list_any p sessions
find-any p [] = refl
find-any p (first ∷ rest) = go (p first) (find-any p rest)
  where
    go : (here : Bool) → is_some (find p rest) ≡ list_any p rest → is_some (cond here (Some first) (find p rest)) ≡ (here || list_any p rest)
    go true later = refl
    go false later = later

any-sessions_with : (p : ScriptSession → Bool) (session : ScriptSession) (sessions : List ScriptSession)
    → list_any p (sessions_with session sessions) ≡ (p session || list_any p sessions)
any-sessions_with p session [] = refl
any-sessions_with p session (first ∷ rest) = go (nat_lt session.number first.number) (any-sessions_with p session rest)
  where
    go : (before : Bool) → list_any p (sessions_with session rest) ≡ (p session || list_any p rest)
        → list_any p (if before then session ∷ first ∷ rest else first ∷ sessions_with session rest)
        ≡ (p session || (p first || list_any p rest))
    go true later = refl
    go false later = ap (λ b. p first || b) later ∙ or_left_comm (p first) (p session) (list_any p rest)

any-is_session_declared : (number : ℕ) (before rest : List Statement) → list_any (has_session_number number) (sessions_from before rest) ≡ is_session_declared number rest
any-is_session_declared number before [] = refl
any-is_session_declared number before (lines.Session session node ∷ rest) =
    any-sessions_with (has_session_number number) _ (sessions_from (before ++ lines.Session session node ∷ []) rest)
    ∙ ap (λ b. (session == number) || b) (any-is_session_declared number (before ++ lines.Session session node ∷ []) rest)
any-is_session_declared number before (s ∷ rest) = any-is_session_declared number (before ++ s ∷ []) rest

-- a session of a number is there exactly where one is declared
pub session-is_session_declared : (statements : List Statement) (number : ℕ) → is_some (session_numbered statements number) ≡ is_session_declared number statements
session-is_session_declared statements number = find-any (has_session_number number) (sessions_of statements) ∙ any-is_session_declared number [] statements

-- the numbers don't fall, and none is below this one
unfoldable pub Ascend : ℕ → List ScriptSession → Type 0
Ascend least [] = Unit {0}
Ascend least (first ∷ rest) = (least ≤ first.number) × Ascend first.number rest

Ascend-sessions_with : (least : ℕ) (session : ScriptSession) (sessions : List ScriptSession) → least ≤ session.number → Ascend least sessions
    → Ascend least (sessions_with session sessions)
unfolding Ascend
Ascend-sessions_with least session [] below up = (below, tt)
Ascend-sessions_with least session (first ∷ rest) below up =
    go (nat_lt session.number first.number) refl (λ above. Ascend-sessions_with first.number session rest above up.1)
  where
    go : (before : Bool) → nat_lt session.number first.number ≡ before
        → (first.number ≤ session.number → Ascend first.number (sessions_with session rest))
        → Ascend least (if before then session ∷ first ∷ rest else first ∷ sessions_with session rest)
    go true h later = let less = ltb-true session.number first.number h in (below, (omega (arith, less), up.1))
    go false h later = (up.0, later (ltb-false session.number first.number h))

pub Ascend-sessions_from : (before rest : List Statement) → Ascend 0 (sessions_from before rest)
unfolding Ascend
Ascend-sessions_from before [] = tt
Ascend-sessions_from before (lines.Session session node ∷ rest) =
    Ascend-sessions_with 0 _ (sessions_from (before ++ lines.Session session node ∷ []) rest) (omega arith)
    (Ascend-sessions_from (before ++ lines.Session session node ∷ []) rest)
Ascend-sessions_from before (s ∷ rest) = Ascend-sessions_from (before ++ s ∷ []) rest

-- none behind is below
all-above : (least : ℕ) (sessions : List ScriptSession) → Ascend least sessions → All (λ (session : ScriptSession). least ≤ session.number) sessions
unfolding Ascend
all-above least [] up = All-nil (λ (session : ScriptSession). least ≤ session.number)
all-above least (first ∷ rest) up = All-cons (λ (session : ScriptSession). least ≤ session.number) first rest up.0 (all-above least rest (lower rest up.1))
  where
    lower : (sessions : List ScriptSession) → Ascend first.number sessions → Ascend least sessions
    lower [] above = tt
    lower (next ∷ later) above = (omega (arith, above.0, up.0), above.1)

pairs : (least : ℕ) (sessions : List ScriptSession) → Ascend least sessions → AllPairs (λ (a b : ScriptSession). a.number ≤ b.number) sessions
unfolding Ascend
pairs least [] up = λ i j d lt within. absurd (omega arith)
pairs least (first ∷ rest) up =
    AllPairs-cons (λ (a b : ScriptSession). a.number ≤ b.number) first rest (all-above first.number rest up.1) (pairs first.number rest up.1)

-- the sessions ascend by number
pub sessions-ascend : (statements : List Statement) → AllPairs (λ (a b : ScriptSession). a.number ≤ b.number) (sessions_of statements)
sessions-ascend statements = pairs 0 (sessions_of statements) (Ascend-sessions_from [] statements)
