-- A session begins its requests by ascending number: each that it has begun has a lower one than its next.
use Rattle.std.proofs.Common.{◌≡◌, ℕ, zero, suc, ◌+◌, ◌<◌, ◌≤◌, Bool, true, false, cond, List, [], ◌∷◌, map, slice_get, Some, sym, ap}
use Rattle.std.proofs.Common.{subst, ◌∙◌, arith}
use Rattle.std.specs.Option.{option_and_then}
use Rattle.std.specs.FinMap as tree
use Rattle.std.proofs.lemmas.Option.{same_Some}
use Rattle.cluster_script.specs.declared.statement.Statement.{Statement}
use Rattle.cluster_script.specs.Language.{IsScript}
use Rattle.cluster_script.specs.NumberedRequests.{is_of_session, session_of}
use Rattle.cluster_script.specs.Sessions.{ScriptSession}
use Rattle.cluster_script.specs.Statements.{requests_of}
use Rattle.sheep_node.specs.declared.ask.Ask.{Ask}
use Rattle.sheep_node.specs.declared.course.Request.{Request}
use Rattle.sheep_world.specs.Asking.{session_asking}
use Rattle.sheep_world.specs.Began.{Began}
use Rattle.sheep_world.specs.BegunRequests.{WasBegun}
use Rattle.sheep_node.specs.declared.input.Input.TheVariants as inputs
use Rattle.sheep_world.specs.NodeCauses.{NodeCause, GuestAsks, RequestComes, ReplyComes, LossIsTold, EntryIsRead, EntryIsPut, RecoveryTicks}
use Rattle.sheep_world.specs.NodeCauses.{WorkIsRetried, ClientAsks, input_of_cause, IsCause}
use Rattle.sheep_world.specs.World.{Host, World}
use Rattle.sheep_world.proofs.AskedStatements.{next_asks}
use Rattle.sheep_world.proofs.BegunRequestLaws.{were_begun}
use Rattle.sheep_world.proofs.SessionNumbers.{those_of, numbers_from}
use Rattle.overlap_law.proofs.SessionsOfRequests.{asked_in_session, of_asking}
use Rattle.sheep_world.proofs.AsksInSteps.{session_above}
use Rattle.sheep_world.proofs.AsksNumbers.{below_next}
use Rattle.sheep_world.specs.ClientAsks.{next_ask_number}

abbrev numbers : List (ℕ × Statement) → List ℕ
numbers requests = map (λ (request : ℕ × Statement). request.0) requests

-- the numbers of the later requests are above the first one
at_least : (first : ℕ) (requests : List Statement) (session place req : ℕ)
    → slice_get (numbers_from first requests session) place ≡ Some req → first ≤ req
at_least first [] session place req is = absurd (cc (is))
at_least first (s ∷ rest) session place req is =
    by_test (is_of_session session s) place (at_least (first + 1) rest session) is
  where
    by_test : (b : Bool) (place : ℕ)
        → ((i : ℕ) (k : ℕ) → slice_get (numbers_from (first + 1) rest session) i ≡ Some k → first + 1 ≤ k)
        → slice_get (numbers (cond b ((first, s) ∷ those_of (first + 1) rest session) (those_of (first + 1) rest session))) place ≡ Some req
        → first ≤ req
    by_test true zero later is = let same = same_Some first req is in omega (arith, same)
    by_test true (suc i) later is = let more = later i req is in omega (arith, more)
    by_test false i later is = let more = later i req is in omega (arith, more)

-- a number stands at a place, where this says whether the first request is the session's
abbrev IsListed : ℕ → Statement → List Statement → ℕ → Bool → ℕ → ℕ → Type 0
IsListed first s rest session b i k =
    slice_get (numbers (cond b ((first, s) ∷ those_of (first + 1) rest session) (those_of (first + 1) rest session))) i ≡ Some k

-- they ascend
ascend : (first : ℕ) (requests : List Statement) (session place behind req next : ℕ) → place < behind
    → slice_get (numbers_from first requests session) place ≡ Some req
    → slice_get (numbers_from first requests session) behind ≡ Some next → req < next
ascend first [] session place behind req next less is too = absurd (cc (is))
ascend first (s ∷ rest) session place behind req next less is too =
    by_test (is_of_session session s) place behind less (at_least (first + 1) rest session) (ascend (first + 1) rest session) is too
  where
    by_test : (b : Bool) (place behind : ℕ) → place < behind
        → ((i : ℕ) (k : ℕ) → slice_get (numbers_from (first + 1) rest session) i ≡ Some k → first + 1 ≤ k)
        → ((i j one two : ℕ) → i < j → slice_get (numbers_from (first + 1) rest session) i ≡ Some one
        → slice_get (numbers_from (first + 1) rest session) j ≡ Some two → one < two)
        → IsListed first s rest session b place req → IsListed first s rest session b behind next → req < next
    by_test true zero zero less above later is too = absurd (omega (arith, less))
    by_test true zero (suc j) less above later is too =
        let same = same_Some first req is in
        let more = above j next too in
        omega (arith, same, more)
    by_test true (suc i) zero less above later is too = absurd (omega (arith, less))
    by_test true (suc i) (suc j) less above later is too = later i j req next (omega (arith, less)) is too
    by_test false i j less above later is too = later i j req next less is too

-- what a session has begun has a lower number than its next request
module _ (script : List Statement) (is_script : IsScript script) (world : World) (began : Began script world) (n : ℕ) (host : Host)
    (there : tree.get world.hosts n ≡ Some host) where
  pub before_next : (session : ScriptSession) (next : ℕ) (ask : Ask) (m : ℕ) (other : Host)
      → IsCause script world m other (GuestAsks session next ask) → (req : ℕ) (request : Request)
      → tree.get host.node.requests req ≡ Some request → request.session ≡ session.number → req < next
  before_next session next ask m other caused req request got of =
      let here = asked_in_session script world began n host there req request got
      (λ zero. let above = session_above script is_script session.number session caused.declared in omega (arith, above, zero, of)) in
      let begun = were_begun script world began n host there req request got (of_asking script req request.session here.asking) in
      let asks = next_asks script begun.session.number begun.begun.place req begun.begun.there in
      let asking : session_asking script req ≡ Some begun.session.number
      = ap (option_and_then session_of) asks.stands ∙ asks.own in
      let same : begun.session.number ≡ session.number
      = same_Some begun.session.number session.number (sym asking ∙ here.asking ∙ ap (λ (k : ℕ). Some k) of) in
      let was : WasBegun script world.guests session.number req
      = subst (λ (k : ℕ). WasBegun script world.guests k req) same begun.begun in
      ascend 1 (requests_of script) session.number was.place _ req next was.before was.there caused.next

  -- so has what the node had before, where a guest asks
  pub before_asked : (cause : NodeCause) → IsCause script world n host cause → (next session : ℕ) (ask : Ask)
      → input_of_cause cause ≡ inputs.Guest next session ask → (req : ℕ) (request : Request)
      → tree.get host.node.requests req ≡ Some request → request.session ≡ session → req < next
  before_asked (GuestAsks of begins own_ask) caused next session ask from req request got belongs =
      let same : begins ≡ next = cc (from) in
      let own : of.number ≡ session = cc (from) in
      subst (λ (k : ℕ). req < k) same (before_next of begins own_ask n host caused req request got (belongs ∙ sym own))
  before_asked (RequestComes name to served) caused next session ask from req request got belongs = absurd (cc (from))
  before_asked (ReplyComes name to rsp) caused next session ask from req request got belongs = absurd (cc (from))
  before_asked (LossIsTold name packet) caused next session ask from req request got belongs = absurd (cc (from))
  before_asked (EntryIsRead entry) caused next session ask from req request got belongs = absurd (cc (from))
  before_asked (EntryIsPut entry) caused next session ask from req request got belongs = absurd (cc (from))
  before_asked RecoveryTicks caused next session ask from req request got belongs = absurd (cc (from))
  before_asked WorkIsRetried caused next session ask from req request got belongs = absurd (cc (from))
  before_asked (ClientAsks begins what) caused next session ask from req request got belongs =
      let same : begins ≡ next = cc (from) in
      let number : next_ask_number world ≡ begins = caused.number in
      let below : req < next_ask_number world = below_next script is_script world began n host there req request got in
      omega (arith, same, number, below)
