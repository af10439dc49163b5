-- The next request of a session is a statement of the script, which is the session's and asks something.
use Rattle.std.proofs.Common.{◌≡◌, ℕ, zero, suc, ◌+◌, ◌==◌, Bool, true, false, cond, List, [], ◌∷◌, map, Option, Some, None, refl, ap, ◌∙◌, arith}
use Rattle.std.specs.List.{slice_get}
use Rattle.std.specs.Option.{option_map_or}
use Rattle.std.proofs.lemmas.Bool.{eqb-true}
use Rattle.std.proofs.lemmas.Option.{same_Some}
use Rattle.cluster_script.specs.declared.statement.Statement.{Statement}
use Rattle.cluster_script.specs.declared.statement.Statement.TheVariants as lines
use Rattle.cluster_script.specs.NumberedRequests.{session_of, is_of_session, request_at, numbers_of_session}
use Rattle.cluster_script.specs.Statements.{requests_of}
use Rattle.sheep_node.specs.declared.ask.Ask.{Ask}
use Rattle.sheep_world.specs.Asking.{ask_of_statement}
use Rattle.sheep_world.proofs.SessionNumbers.{numbers_from, those_of}

-- a statement of a session at a place
pub record IsAt (requests : List Statement) (first session req : ℕ) : Type 0 where
  pub place : ℕ
  pub line : Statement
  pub number : req ≡ first + place
  pub stands : slice_get requests place ≡ Some line
  pub own : is_of_session session line ≡ true

later_at : (s : Statement) (rest : List Statement) (first session req : ℕ) → IsAt rest (first + 1) session req → IsAt (s ∷ rest) first session req
later_at s rest first session req at = record {
  place = suc at.place;
  line = at.line;
  number = let n : req ≡ (first + 1) + at.place = at.number in omega (arith, n);
  stands = at.stands;
  own = at.own;
}

first_or_later : (s : Statement) (rest : List Statement) (first session place req : ℕ) (b : Bool) → is_of_session session s ≡ b
    → ((k : ℕ) → slice_get (numbers_from (first + 1) rest session) k ≡ Some req → IsAt rest (first + 1) session req)
    → slice_get (map (λ (request : ℕ × Statement). request.0) (cond b ((first, s) ∷ those_of (first + 1) rest session) (those_of (first + 1) rest session))) place ≡ Some req
    → IsAt (s ∷ rest) first session req
first_or_later s rest first session zero req true own later is = record {
  place = zero;
  line = s;
  number = let n : first ≡ req = same_Some first req is in omega (arith, n);
  stands = refl;
  own = own;
}
first_or_later s rest first session (suc place) req true own later is = later_at s rest first session req (later place is)
first_or_later s rest first session place req false own later is = later_at s rest first session req (later place is)

stands_at : (first : ℕ) (requests : List Statement) (session place req : ℕ) → slice_get (numbers_from first requests session) place ≡ Some req
    → IsAt requests first session req
stands_at first [] session place req is = absurd (cc (is))
stands_at first (s ∷ rest) session place req is = first_or_later
    s rest first session place req (is_of_session session s) refl
    (λ (k : ℕ) (there : slice_get (numbers_from (first + 1) rest session) k ≡ Some req). stands_at (first + 1) rest session k req there) is

-- a statement of a session asks something
pub record Asks (statements : List Statement) (session req : ℕ) : Type 0 where
  pub line : Statement
  pub ask : Ask
  pub stands : request_at statements req ≡ Some line
  pub own : session_of line ≡ Some session
  pub asks : ask_of_statement line ≡ Some ask

of_session : (session : ℕ) (o : Option ℕ) → option_map_or (λ (number : ℕ). number == session) o false ≡ true → o ≡ Some session
of_session session None is = absurd (cc (is))
of_session session (Some number) is = ap (λ (k : ℕ). Some k) (eqb-true number session is)

some_ask : (line : Statement) (session : ℕ) → session_of line ≡ Some session → (ask : Ask) × (ask_of_statement line ≡ Some ask)
some_ask (lines.Create session policy shift name size) of is = (_, refl)
some_ask (lines.OpenDisk session name tag) of is = (_, refl)
some_ask (lines.Close session) of is = (_, refl)
some_ask (lines.Read session offset length) of is = (_, refl)
some_ask (lines.Write session offset length pattern) of is = (_, refl)
some_ask (lines.Snapshot session tag) of is = (_, refl)
some_ask (lines.Clone session base tag name) of is = (_, refl)
some_ask (lines.Delete session name tag) of is = (_, refl)
some_ask (lines.Check session) of is = (_, refl)
some_ask line of is = absurd (cc (is))

request_there : (statements : List Statement) (req place : ℕ) → req ≡ 1 + place → request_at statements req ≡ slice_get (requests_of statements) place
request_there statements req place is = ap (request_at statements) (let e : req ≡ suc place = omega (arith, is) in e)

-- a session's number of a request is of a statement that asks
pub next_asks : (statements : List Statement) (session place req : ℕ) → slice_get (numbers_of_session statements session) place ≡ Some req
    → Asks statements session req
next_asks statements session place req is =
    let at = stands_at 1 (requests_of statements) session place req is in
    let own = of_session session (session_of at.line) at.own in
    let (ask, asks) = some_ask at.line session own in
    record {
      line = at.line;
      ask = ask;
      stands = request_there statements req at.place at.number ∙ at.stands;
      own = own;
      asks = asks;
    }
