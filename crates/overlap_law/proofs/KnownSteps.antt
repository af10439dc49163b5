-- What is known of a node's step in a world of a run: it is sound, is told of messages that were sent, and sends what can be read.
use Rattle.std.proofs.Common.{◌≡◌, ℕ, ◌<◌, true, List, Some, sym, ap, subst, ◌∙◌}
use Rattle.cluster_script.specs.declared.statement.Statement.{Statement}
use Rattle.message_wire.specs.declared.packet.Packet.TheVariants.{Reply}
use Rattle.sheep_node.specs.Changes.{IsSoundStep}
use Rattle.sheep_world.specs.World.{Host, World, host_at, is_host_up}
use Rattle.sheep_world.specs.OneWork.{IsSentInRange}
use Rattle.sheep_world.specs.Began.{Began}
use Rattle.sheep_world.specs.HoldsTogether.{HoldsTogether}
use Rattle.sheep_world.specs.NodeCauses.{NodeCause, GuestAsks, RequestComes, ReplyComes, LossIsTold, EntryIsRead, EntryIsPut, RecoveryTicks}
use Rattle.sheep_world.specs.NodeCauses.{WorkIsRetried, ClientAsks, input_of_cause, event_of_cause, IsCause, world_after_cause}
use Rattle.sheep_world.specs.EventKinds.{outcome_of_step}
use Rattle.sheep_world.proofs.AskedWorks.{ToldIsBelow}
use Rattle.sheep_world.proofs.BegunWorlds.{goes_on}
use Rattle.sheep_world.proofs.NodeConditions.{reply_numbered}
use Rattle.sheep_world.proofs.RangeAtEvents.{ticks_in_range}
use Rattle.sheep_world.proofs.SenderMatch.{packets_of}
use Rattle.sheep_world.proofs.StepsByCause.{StaysAt, IsReady, sound_step, step_asks}
use Rattle.sheep_world.proofs.TogetherInRuns.{holds_together}
use Rattle.sheep_world.proofs.WireAfterSends.{Asking}
use Rattle.sheep_world.proofs.WireAtEvents.{is_ready}
use Rattle.overlap_law.specs.StepMoments.{SteppingNode, IsStepping, last_in_step}
use Rattle.overlap_law.specs.MomentChanges.{RunsAreInRange}

-- what a node is told of in a step is a message that it sent
pub told_below : (script : List Statement) (world : World) (n : ℕ) (host : Host) (cause : NodeCause) → IsCause script world n host cause
    → IsReady script world n host
    → ToldIsBelow (input_of_cause cause) host.node.sends
told_below script world n host (GuestAsks session req ask) so ready number status told = absurd told
told_below script world n host (RequestComes name to request) so ready number status told = absurd told
told_below script world n host (ReplyComes name from rsp) so ready number status told =
    let got = ap (λ (k : ℕ). packets_of world.wire k name.number) (sym so.here) ∙ so.there in
    let numbered = reply_numbered n name.number host (packets_of world.wire n) from so.bytes rsp ready.matches got so.read in
    subst (λ (k : ℕ). k < host.node.sends) (sym numbered ∙ told.0) (ready.matches.given name.number (Reply from so.bytes) got)
told_below script world n host (LossIsTold name packet) so ready number status told =
    subst (λ (k : ℕ). k < host.node.sends) told.0
    (ready.matches.given name.number packet (ap (λ (k : ℕ). packets_of world.wire k name.number) (sym so.here) ∙ so.there))
told_below script world n host (EntryIsRead entry) so ready number status told = absurd told
told_below script world n host (EntryIsPut entry) so ready number status told = absurd told
told_below script world n host RecoveryTicks so ready number status told = absurd told
told_below script world n host WorkIsRetried so ready number status told = absurd told
told_below script world n host (ClientAsks req ask) so ready number status told = absurd told

-- what holds of a step in a world of a run, and what it sends
pub record IsKnownStep (script : List Statement) (world : World) (stepping : SteppingNode) : Type 0 where
  pub up : is_host_up stepping.host ≡ true
  pub ready : IsReady script world stepping.n stepping.host
  pub sound : IsSoundStep (input_of_cause stepping.cause) stepping.host.node
  pub given : ToldIsBelow (input_of_cause stepping.cause) stepping.host.node.sends
  pub asking : Asking (StaysAt stepping.cause) stepping.host.node (last_in_step stepping).node (last_in_step stepping).outputs.sends
  pub numbered : stepping.host.node.me.0 ≡ stepping.n

module _ (script : List Statement) (range : RunsAreInRange script) (world : World) (began : Began script world) where
  pub together : HoldsTogether script world
  together = holds_together script range.is_script range.room range.messages world began

  -- what a step sends can be spelled
  sent_in_range : (n : ℕ) (host : Host) (there : host_at n world ≡ Some host) (up : is_host_up host ≡ true) (cause : NodeCause)
      → IsCause script world n host cause
      → Began script (world_after_cause script n host cause world) → IsSentInRange (world_after_cause script n host cause world)
  sent_in_range n host there up (GuestAsks session req ask) so next =
      (range.messages (world_after_cause script n host (GuestAsks session req ask) world) next).sent (λ same. absurd (cc (same)))
  sent_in_range n host there up (RequestComes name to request) so next =
      (range.messages (world_after_cause script n host (RequestComes name to request) world) next).sent (λ same. absurd (cc (same)))
  sent_in_range n host there up (ReplyComes name from rsp) so next =
      (range.messages (world_after_cause script n host (ReplyComes name from rsp) world) next).sent (λ same. absurd (cc (same)))
  sent_in_range n host there up (LossIsTold name packet) so next =
      (range.messages (world_after_cause script n host (LossIsTold name packet) world) next).sent (λ same. absurd (cc (same)))
  sent_in_range n host there up (EntryIsRead entry) so next =
      (range.messages (world_after_cause script n host (EntryIsRead entry) world) next).sent (λ same. absurd (cc (same)))
  sent_in_range n host there up (EntryIsPut entry) so next =
      (range.messages (world_after_cause script n host (EntryIsPut entry) world) next).sent (λ same. absurd (cc (same)))
  sent_in_range n host there up RecoveryTicks so next = ticks_in_range script range.is_script range.room world began n host there up so
  sent_in_range n host there up WorkIsRetried so next =
      (range.messages (world_after_cause script n host WorkIsRetried world) next).sent (λ same. absurd (cc (same)))
  sent_in_range n host there up (ClientAsks req ask) so next =
      (range.messages (world_after_cause script n host (ClientAsks req ask) world) next).sent (λ same. absurd (cc (same)))

  pub known_at : (n : ℕ) (host : Host) (cause : NodeCause) → host_at n world ≡ Some host → is_host_up host ≡ true
      → IsCause script world n host cause
      → Began script (world_after_cause script n host cause world) → IsKnownStep script world (record { n = n; host = host; cause = cause })
  known_at n host cause there up so next =
      let ready = is_ready script world together n host there up in
      record {
        up = up;
        ready = ready;
        sound = sound_step script world n host cause so ready;
        given = told_below script world n host cause so ready;
        asking = step_asks script world n host cause so ready (sent_in_range n host there up cause so next);
        numbered = together.wired.numbered n host there;
      }

  pub known_step : (stepping : SteppingNode) → IsStepping script world stepping → IsKnownStep script world stepping
  known_step stepping is =
      known_at stepping.n stepping.host stepping.cause is.there is.up is.caused
      (goes_on script (event_of_cause stepping.n stepping.cause) world
      (outcome_of_step script stepping.n stepping.host stepping.cause world) began is.made)
