-- The requests of a node that isn't lost, over a change of a moment: one that is there was there before, or the event begins with it; and
-- one that is touched stays so.
use Rattle.std.proofs.Common.{◌≡◌, ◌⊎◌, inl, inr, ⊎_elim, ℕ, ◌++◌, true, false, List, Some, refl, sym, ap, ◌∙◌, append-nil}
use Rattle.std.specs.FinMap as tree
use Rattle.cluster_script.specs.declared.statement.Statement.{Statement}
use Rattle.gateway.specs.State.{is_touched}
use Rattle.sheep_node.specs.declared.ask.Ask.{Ask}
use Rattle.sheep_node.specs.declared.course.Request.{Request}
use Rattle.sheep_node.specs.declared.input.Input.TheVariants as inputs
use Rattle.sheep_node.specs.State.{Node}
use Rattle.sheep_node.specs.StepState.{StepState, at_first}
use Rattle.sheep_node.specs.Step.{node_step}
use Rattle.sheep_node.specs.Changes.{input_received}
use Rattle.sheep_node.proofs.NumberChanges.{both_in_chain}
use Rattle.sheep_node.proofs.OneWorkParts.{Requests}
use Rattle.sheep_world.specs.World.{Host}
use Rattle.sheep_world.specs.NodeCauses.{NodeCause, GuestAsks, RequestComes, ReplyComes, LossIsTold, EntryIsRead, EntryIsPut, RecoveryTicks}
use Rattle.sheep_world.specs.NodeCauses.{WorkIsRetried, ClientAsks, input_of_cause, host_with_node}
use Rattle.sheep_world.specs.Began.{Began}
use Rattle.overlap_law.specs.Attempts.{AttemptRecord}
use Rattle.overlap_law.specs.Past.{MomentWithPast, past_after_event}
use Rattle.overlap_law.specs.PastWords.{refused_in}
use Rattle.overlap_law.specs.StepMoments.{SteppingNode, IsStepping, StepsByChanges, StepsAtOnce, IsWithinStep}
use Rattle.overlap_law.specs.StepMoments.{moment_in_step, attempts_at_cause}
use Rattle.overlap_law.specs.MomentChanges.{MomentChange, RunsAreInRange}
use Rattle.overlap_law.proofs.AttemptsInSteps.{attempts-in_step}
use Rattle.overlap_law.proofs.BegunNumbers.{begun-at_first}
use Rattle.overlap_law.proofs.ClosedToAsks.{received_alike, made_alike}
use Rattle.overlap_law.proofs.KnownSteps.{known_step}
use Rattle.overlap_law.proofs.TouchedStay.{Arrives, change_touched, change_came}
use Rattle.overlap_law.proofs.WorkedCourses.{HadNoWork, may_have_worked, change_from}
use Rattle.overlap_law.proofs.ClosedHosts.{IsNewer, each_host}

-- ---- what leaves the requests as they are

pub received_requests : (cause : NodeCause) (node : Node) → StepsByChanges cause
    → (input_received (input_of_cause cause) (at_first node)).node.requests ≡ node.requests
received_requests cause node by = (received_alike cause node by).1

pub made_requests : (cause : NodeCause) (node : Node) → StepsAtOnce cause
    → (node_step (input_of_cause cause) node).node.requests ≡ node.requests
made_requests cause node by = (made_alike cause node by).1

-- a guest's request tells nothing of attempts
guest_tells_nothing : (node : Node) (cause : NodeCause) (attempts : List AttemptRecord) (req session : ℕ) (ask : Ask)
    → input_of_cause cause ≡ inputs.Guest req session ask
    → attempts_at_cause node cause attempts ≡ attempts
guest_tells_nothing node (GuestAsks s r a) attempts req session ask from = refl
guest_tells_nothing node (RequestComes name to request) attempts req session ask from = absurd (cc (from))
guest_tells_nothing node (ReplyComes name to rsp) attempts req session ask from = refl
guest_tells_nothing node (LossIsTold name packet) attempts req session ask from = absurd (cc (from))
guest_tells_nothing node (EntryIsRead entry) attempts req session ask from = refl
guest_tells_nothing node (EntryIsPut entry) attempts req session ask from = refl
guest_tells_nothing node RecoveryTicks attempts req session ask from = refl
guest_tells_nothing node WorkIsRetried attempts req session ask from = refl
guest_tells_nothing node (ClientAsks number asks) attempts req session ask from = refl

-- what is refused at a point of a step
pub refused_in_step : (script : List Statement) (stepping : SteppingNode) (start : MomentWithPast) (so_far : StepState)
    → (moment_in_step script stepping start so_far).past.refused ≡ start.past.refused ++ refused_in script so_far.outputs.replies
unfolding past_after_event
refused_in_step script stepping start so_far = refl

-- ---- the nodes that aren't lost

-- an event begins with a request, before any attempt
pub record BeginsWith (script : List Statement) (start before : MomentWithPast) (req : ℕ) : Type 0 where
  pub stepping : SteppingNode
  pub is : IsStepping script start.world stepping
  pub session : ℕ
  pub ask : Ask
  pub from : input_of_cause stepping.cause ≡ inputs.Guest req session ask
  pub attempts_so : before.past.attempts ≡ start.past.attempts
  pub refused_so : before.past.refused ≡ start.past.refused

-- a request was there, and had no work yet
pub record WasUnworked (host : Host) (req : ℕ) : Type 0 where
  pub request : Request
  pub there : tree.get host.node.requests req ≡ Some request
  pub unworked : may_have_worked request.course ≡ false

-- what is there of a node's requests, and what is touched
pub record HadRequests (script : List Statement) (start before : MomentWithPast) (n : ℕ) (host : Host) : Type 0 where
  pub old : Host
  pub there : tree.get before.world.hosts n ≡ Some old
  pub up : old.is_lost ≡ false
  pub requests : (req : ℕ) → tree.contains_key host.node.requests req ≡ true
      → (tree.contains_key old.node.requests req ≡ true) ⊎ BeginsWith script start before req
  pub touched : (req : ℕ) → is_touched req old.node.gateway ≡ true
      → (is_touched req host.node.gateway ≡ true) ⊎ (tree.contains_key host.node.requests req ≡ false)
  pub courses : (req : ℕ) (request : Request) → tree.get host.node.requests req ≡ Some request → may_have_worked request.course ≡ false
      → WasUnworked old req ⊎ BeginsWith script start before req

module _ (script : List Statement) (start : MomentWithPast) where
  abbrev pub EachHadRequests : MomentWithPast → MomentWithPast → Type 0
  EachHadRequests before after = (n : ℕ) (host : Host) → tree.get after.world.hosts n ≡ Some host → host.is_lost ≡ false
      → HadRequests script start before n host ⊎ IsNewer before n host

  same_node : (before : MomentWithPast) (n : ℕ) (old host : Host) → tree.get before.world.hosts n ≡ Some old → old.is_lost ≡ false
      → host.node.gateway ≡ old.node.gateway → host.node.requests ≡ old.node.requests → HadRequests script start before n host
  same_node before n old host there up gateway requests = record {
    old = old;
    there = there;
    up = up;
    requests = λ req is. inl (ap (λ (all : Requests). tree.contains_key all req) (sym requests) ∙ is);
    touched = λ req still. inl (ap (is_touched req) gateway ∙ still);
    courses = λ req request got unworked.
        inl (record { request = request; there = ap (λ (all : Requests). tree.get all req) (sym requests) ∙ got; unworked = unworked });
  }

-- ---- every change

module _ (script : List Statement) (range : RunsAreInRange script) (start : MomentWithPast) (began : Began script start.world) where
  -- a request that arrives in the middle of a step
  pub begins : (stepping : SteppingNode) (so_far : StepState) → IsStepping script start.world stepping → StepsByChanges stepping.cause
      → (req : ℕ)
      → Arrives req (input_of_cause stepping.cause) stepping.host.node so_far
      → BeginsWith script start (moment_in_step script stepping start so_far) req
  begins stepping so_far is by req arrives = record {
    stepping = stepping;
    is = is;
    session = arrives.session;
    ask = arrives.ask;
    from = arrives.from;
    attempts_so = attempts-in_step script start stepping is by so_far
        ∙ ap (λ (begun : List AttemptRecord). attempts_at_cause stepping.host.node stepping.cause start.past.attempts ++ begun)
        (begun-at_first stepping.host so_far.node (ap (λ (s : StepState). s.node.sends) arrives.first))
        ∙ append-nil (attempts_at_cause stepping.host.node stepping.cause start.past.attempts)
        ∙ guest_tells_nothing stepping.host.node stepping.cause start.past.attempts req arrives.session arrives.ask arrives.from;
    refused_so = refused_in_step script stepping start so_far
        ∙ ap (λ (s : StepState). start.past.refused ++ refused_in script s.outputs.replies) arrives.first
        ∙ append-nil start.past.refused;
  }

  abbrev HadOrIsNewer : MomentWithPast → MomentWithPast → ℕ → Host → Type 0
  HadOrIsNewer before after n host = HadRequests script start before n host ⊎ IsNewer before n host

  goes_on_had : (stepping : SteppingNode) (so_far next : StepState) → IsStepping script start.world stepping → StepsByChanges stepping.cause
      → IsWithinStep stepping so_far next
      → tree.get (moment_in_step script stepping start so_far).world.hosts stepping.n ≡ Some (host_with_node stepping.host so_far.node)
      → stepping.host.is_lost ≡ false
      → HadOrIsNewer (moment_in_step script stepping start so_far) (moment_in_step script stepping start next) stepping.n
      (host_with_node stepping.host next.node)
  goes_on_had stepping so_far next is by within there up =
      let known = known_step script range start.world began stepping is in
      let good = (both_in_chain (input_of_cause stepping.cause) stepping.host.node known.sound so_far within.leads).0 in
      inl (record {
        old = host_with_node stepping.host so_far.node;
        there = there;
        up = up;
        requests = λ req there. ⊎_elim
            (λ (old : tree.contains_key so_far.node.requests req ≡ true). inl old)
            (λ arrives. inr (begins stepping so_far is by req arrives))
            (change_came req (input_of_cause stepping.cause) stepping.host.node so_far next within.change there);
        touched = λ req still. change_touched req so_far next good within.change still;
        courses = λ req request got unworked. ⊎_elim
            (λ (had : HadNoWork req so_far).
            inl (record { request = had.request; there = had.there; unworked = had.unworked }))
            (λ arrives. inr (begins stepping so_far is by req arrives))
            (change_from req (input_of_cause stepping.cause) stepping.host.node so_far next within.change request got unworked);
      })

  pub each_had_requests : {before after : MomentWithPast} → MomentChange script start before after
      → EachHadRequests script start before after
  each_had_requests change =
      each_host script range start began HadOrIsNewer
      (λ before after n old host there up me asked. inl (same_node script start before n old host there up asked.0 asked.1))
      goes_on_had (λ before after n host newer none. inr newer) change
