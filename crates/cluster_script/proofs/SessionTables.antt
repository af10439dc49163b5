-- The table of the sessions of statements, with one statement more.
use Rattle.std.proofs.Common.{◌≡◌, ℕ, ◌+◌, ◌<◌, ◌==◌, Bool, true, false, cond, List, [], ◌∷◌, ◌++◌, replicate, refl, sym, ap, ◌∙◌, arith, append_assoc, Option, Some, None, if◌then◌else◌}
use Rattle.std.specs.Prelude.{nat_lt, count_by}
use Rattle.std.specs.List.{find}
use Rattle.std.specs.Option.{option_map, option_or}
use Rattle.std.proofs.lemmas.Bool.{ltb-true, eqb-true, ne_eqb}
use Rattle.std.proofs.lemmas.List.{append-nil}
use Rattle.cluster_script.specs.declared.statement.Statement.{Statement}
use Rattle.cluster_script.specs.declared.statement.Statement.TheVariants as lines
use Rattle.cluster_script.specs.declared.session_table.SessionTable.{SessionTable}
use Rattle.cluster_script.specs.Sessions.{ScriptSession, brings_back, declared_session, sessions_with, with_declared, sessions_from, has_session_number, session_numbered}
use Rattle.cluster_script.specs.Index.{session_seen}
use Rattle.cluster_script.specs.KeptIndex.{session_kept, backs_kept, session_by, IsSessionTable}
use Rattle.cluster_script.proofs.Counting.{sum_more}
use Rattle.cluster_script.proofs.TableLemmas.{get_or-same}
use Rattle.cluster_script.proofs.SessionLaws.{Ascend, Ascend-sessions_from}

-- among sessions that ascend from above a number there is none of it
none-below : (number least : ℕ) (sessions : List ScriptSession) → number < least → Ascend least sessions
    → find (has_session_number number) sessions ≡ None
unfolding Ascend
none-below number least [] below up = refl
none-below number least (first ∷ rest) below up =
    rw (ne_eqb first.number number (λ e. absurd (omega (arith, up.0, e)))) (none-below number first.number rest (omega (arith, up.0)) up.1)

-- a session, if it has the number
abbrev chosen : ℕ → ScriptSession → Option ScriptSession
chosen number session = if session.number == number then Some session else None

or-none : (o : Option ScriptSession) → option_or o None ≡ o
or-none None = refl
or-none (Some x) = refl

-- of one number, the one that was there is found
find-sessions_with : (number least : ℕ) (session : ScriptSession) (sessions : List ScriptSession) → Ascend least sessions
    → find (has_session_number number) (sessions_with session sessions)
    ≡ option_or (find (has_session_number number) sessions) (chosen number session)
unfolding Ascend
find-sessions_with number least session [] up = refl
find-sessions_with number least session (first ∷ rest) up =
    go (nat_lt session.number first.number) refl (find-sessions_with number first.number session rest up.1)
  where
    found : (same : Bool) → (session.number == number) ≡ same → session.number < first.number
        → cond same (Some session) (find (has_session_number number) (first ∷ rest))
        ≡ option_or (find (has_session_number number) (first ∷ rest)) (if same then Some session else None)
    found true is less =
        let none : find (has_session_number number) (first ∷ rest) ≡ None
        = none-below number first.number (first ∷ rest) (omega (arith, less, eqb-true session.number number is)) (omega arith, up.1) in
        rw none refl
    found false is less = sym (or-none (find (has_session_number number) (first ∷ rest)))

    later : (here : Bool) (tail other : Option ScriptSession) → tail ≡ option_or other (chosen number session)
        → cond here (Some first) tail ≡ option_or (cond here (Some first) other) (chosen number session)
    later true tail other is = refl
    later false tail other is = is

    go : (before : Bool) → nat_lt session.number first.number ≡ before
        → find (has_session_number number) (sessions_with session rest)
        ≡ option_or (find (has_session_number number) rest) (chosen number session)
        → find (has_session_number number) (if before then session ∷ first ∷ rest else first ∷ sessions_with session rest)
        ≡ option_or (find (has_session_number number) (first ∷ rest)) (chosen number session)
    go true is behind = found (session.number == number) refl (ltb-true session.number first.number is)
    go false is behind =
        later (first.number == number) (find (has_session_number number) (sessions_with session rest))
        (find (has_session_number number) rest) behind

-- the session of a number where one more is declared
abbrev session_after : ℕ → Option ScriptSession → Option ScriptSession → Option ScriptSession
session_after number None was = was
session_after number (Some session) was = if session.number == number then Some session else was

or-after : (number : ℕ) (declared was other : Option ScriptSession)
    → option_or (session_after number declared was) other ≡ session_after number declared (option_or was other)
or-after number None was other = refl
or-after number (Some session) was other = go (session.number == number)
  where
    go : (same : Bool) → option_or (if same then Some session else was) other ≡ (if same then Some session else option_or was other)
    go true = refl
    go false = refl

-- a session that is declared, if it has the number
own : ℕ → Option ScriptSession → Option ScriptSession
own number None = None
own number (Some session) = chosen number session

find-with_declared : (number : ℕ) (declared : Option ScriptSession) (before rest : List Statement)
    → find (has_session_number number) (with_declared declared (sessions_from before rest))
    ≡ option_or (find (has_session_number number) (sessions_from before rest)) (own number declared)
unfolding own
find-with_declared number None before rest = sym (or-none (find (has_session_number number) (sessions_from before rest)))
find-with_declared number (Some session) before rest =
    find-sessions_with number 0 session (sessions_from before rest) (Ascend-sessions_from before rest)

last-declared : (number : ℕ) (declared : Option ScriptSession)
    → find (has_session_number number) (with_declared declared []) ≡ session_after number declared None
last-declared number None = refl
last-declared number (Some session) = refl

numbered-more : (number : ℕ) (before rest : List Statement) (s : Statement)
    → find (has_session_number number) (sessions_from before (rest ++ s ∷ []))
    ≡ session_after number (declared_session (before ++ rest) s) (find (has_session_number number) (sessions_from before rest))
numbered-more number before [] s =
    last-declared number (declared_session before s)
    ∙ ap (λ (b : List Statement). session_after number (declared_session b s) None) (sym (append-nil before))
numbered-more number before (x ∷ rest) s =
    let next : List Statement = before ++ x ∷ [] in
    let declared : Option ScriptSession = declared_session before x in
    let last : Option ScriptSession = declared_session (next ++ rest) s in
    find-with_declared number declared next (rest ++ s ∷ [])
    ∙ ap (λ (o : Option ScriptSession). option_or o (own number declared)) (numbered-more number next rest s)
    ∙ or-after number last (find (has_session_number number) (sessions_from next rest)) (own number declared)
    ∙ ap (λ (o : Option ScriptSession). session_after number last o) (sym (find-with_declared number declared next rest))
    ∙ ap (λ (b : List Statement). session_after number (declared_session b s) (find (has_session_number number) (sessions_from before (x ∷ rest))))
    (append_assoc before (x ∷ []) rest)

declared-more : (number : ℕ) (before : List Statement) (old : SessionTable) (s : Statement) → IsSessionTable before old
    → option_map session_seen (session_by number old s) ≡ session_after number (declared_session before s) (session_numbered before number)
declared-more number before old (lines.Session session node) table = go (session == number)
  where
    go : (same : Bool)
        → option_map session_seen (if same then Some (record { number = session; node = node; incarnation = 1 + backs_kept node old })
        else session_kept number old)
        ≡ (if same then Some (record { number = session; node = node; incarnation = 1 + count_by (brings_back node) before })
        else session_numbered before number)
    go true = ap (λ (n : ℕ). Some (record { number = session; node = node; incarnation = 1 + n })) (table.backs node)
    go false = table.sessions number
declared-more number before old s table = table.sessions number

pub table-more : (before : List Statement) (old new : SessionTable) (s : Statement) → IsSessionTable before old
    → ((number : ℕ) → session_kept number new ≡ session_by number old s)
    → ((node : ℕ) → backs_kept node new ≡ backs_kept node old + (if brings_back node s then 1 else 0))
    → IsSessionTable (before ++ s ∷ []) new
table-more before old new s table kept counted = record {
  sessions = λ number. ap (option_map session_seen) (kept number) ∙ declared-more number before old s table
      ∙ sym (numbered-more number [] before s);
  backs = λ node. counted node ∙ sum_more (λ x. cond (brings_back node x) 1 0) (backs_kept node old) before s (table.backs node);
}

-- a table without entries is that of no statements
pub table-none : (numbers nodes : ℕ) → IsSessionTable [] (record { sessions = replicate numbers None; backs = replicate nodes 0 })
table-none numbers nodes = record {
  sessions = λ number. ap (option_map session_seen) (get_or-same numbers number None);
  backs = λ node. get_or-same nodes node 0;
}
