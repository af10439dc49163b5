-- An event begins with a request that wasn't started: so no attempt is for it.
use Rattle.std.proofs.Common.{◌≡◌, ℕ, List, Some, slice_get, sym, ap, ◌∙◌}
use Rattle.cluster_script.specs.declared.statement.Statement.{Statement}
use Rattle.sheep_node.specs.declared.ask.Ask.{Ask}
use Rattle.sheep_node.specs.declared.input.Input.TheVariants as inputs
use Rattle.sheep_world.specs.World.{Host, World}
use Rattle.sheep_world.specs.NodeCauses.{NodeCause, GuestAsks, RequestComes, ReplyComes, LossIsTold, EntryIsRead, EntryIsPut, RecoveryTicks}
use Rattle.sheep_world.specs.NodeCauses.{WorkIsRetried, ClientAsks, input_of_cause, IsCause}
use Rattle.overlap_law.specs.Attempts.{AttemptRecord}
use Rattle.overlap_law.specs.Past.{MomentWithPast}
use Rattle.overlap_law.proofs.StartedAttempts.{IsStarted, StartedAt, next_is_new}
use Rattle.overlap_law.proofs.TouchedInMoments.{BeginsWith}
use Rattle.overlap_law.proofs.AsksInCauses.{not_begun}

-- the request with which an event begins was begun by no session: it is the next of one, or a client's
pub guest_new : (script : List Statement) (world : World) (n : ℕ) (host : Host) (cause : NodeCause) → IsCause script world n host cause
    → (req session : ℕ) (ask : Ask) → input_of_cause cause ≡ inputs.Guest req session ask → IsStarted script world.guests req → ⊥
guest_new script world n host (GuestAsks asking begins a) so req session ask from started =
    let same : begins ≡ req = cc (from) in
    next_is_new script world.guests asking.number req (so.next ∙ ap (λ (k : ℕ). Some k) same) started
guest_new script world n host (RequestComes name to request) so req session ask from started = absurd (cc (from))
guest_new script world n host (ReplyComes name to rsp) so req session ask from started = absurd (cc (from))
guest_new script world n host (LossIsTold name packet) so req session ask from started = absurd (cc (from))
guest_new script world n host (EntryIsRead entry) so req session ask from started = absurd (cc (from))
guest_new script world n host (EntryIsPut entry) so req session ask from started = absurd (cc (from))
guest_new script world n host RecoveryTicks so req session ask from started = absurd (cc (from))
guest_new script world n host WorkIsRetried so req session ask from started = absurd (cc (from))
guest_new script world n host (ClientAsks begins what) so req session ask from started =
    let same : begins ≡ req = cc (from) in not_begun so started.0 req same started.1

module _ (script : List Statement) (start before : MomentWithPast) where
  -- the request wasn't started
  pub begins_new : (req : ℕ) → BeginsWith script start before req → IsStarted script start.world.guests req → ⊥
  begins_new req b =
      guest_new script start.world b.stepping.n b.stepping.host b.stepping.cause b.is.caused req b.session b.ask b.from

  -- and no attempt is for it
  pub none_for_new : StartedAt script start → (j : ℕ) (was : AttemptRecord) → slice_get before.past.attempts j ≡ Some was
      → BeginsWith script start before was.req → ⊥
  none_for_new started j was at b =
      begins_new was.req b (started j was (ap (λ (all : List AttemptRecord). slice_get all j) (sym b.attempts_so) ∙ at))
