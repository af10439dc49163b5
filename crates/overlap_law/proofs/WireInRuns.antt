-- In each run in range the wire goes with what nodes wait for: what they wait for is linked with it, replies are of the epochs that their
-- says need, and the gone are fenced.
use Rattle.std.proofs.Common.{◌≡◌, ℕ, List, Some, sym, subst, ◌∙◌, arith, refl}
use Rattle.cluster_script.specs.declared.statement.Statement.{Statement}
use Rattle.cluster_script.specs.Settings.{tries_of}
use Rattle.peer_proto.specs.declared.say.PeerRsp.{PeerRsp}
use Rattle.message_wire.specs.declared.packet.Packet.TheVariants.{Reply}
use Rattle.recovery.specs.State as recoveries
use Rattle.sheep_node.specs.declared.input.Input.TheVariants as inputs
use Rattle.sheep_node.specs.State as nodes
use Rattle.sheep_world.specs.World.{Host, World}
use Rattle.sheep_world.specs.Opening.{format_entry}
use Rattle.sheep_world.specs.Began.{Began}
use Rattle.sheep_world.specs.WireMatch.{asked_by}
use Rattle.sheep_world.specs.HostChanges.{HostsKeep}
use Rattle.sheep_world.specs.NodeCauses.{NodeCause, GuestAsks, RequestComes, ReplyComes, LossIsTold, EntryIsRead, EntryIsPut, RecoveryTicks}
use Rattle.sheep_world.specs.NodeCauses.{WorkIsRetried, ClientAsks, input_of_cause, IsCause}
use Rattle.sheep_world.specs.EventKinds.{log_after_return}
use Rattle.sheep_world.proofs.BegunWorlds.{each_began}
use Rattle.sheep_world.proofs.RecoveryMessages.{same_said}
use Rattle.sheep_world.specs.RunsWithAsks.{Move}
use Rattle.overlap_law.specs.Flight.{PacketsAreAwaited, RepliersHaveCome, IsSaidSo, RepliesAreOfTheirEpoch, TheGoneAreFenced}
use Rattle.overlap_law.specs.MomentChanges.{MomentChange, RunsAreInRange, KeptByChanges}
use Rattle.overlap_law.specs.Past.{MomentWithPast, run_with_past}
use Rattle.overlap_law.proofs.AttemptMessages.{contains_at}
use Rattle.overlap_law.proofs.AwaitedPackets.{packets_go}
use Rattle.overlap_law.proofs.EpochsRise.{epochs_rise}
use Rattle.overlap_law.proofs.GoneInRuns.{all_fenced}
use Rattle.overlap_law.proofs.KnownSteps.{together}
use Rattle.overlap_law.proofs.NoRecoveredDue.{began-with_past}
use Rattle.overlap_law.proofs.PastInRuns.{past_in_run}
use Rattle.overlap_law.proofs.RecoveryMessages.{AsksSo, TicksIfMay, step_asks_so, none_asked_yet, asks_so-of}
use Rattle.overlap_law.proofs.RunsByChanges.{run-kept}
use Rattle.overlap_law.proofs.TiedInRuns.{none_yet}
use Rattle.overlap_law.proofs.TrafficOfChanges.{traffic}
use Rattle.overlap_law.proofs.TrafficRepliers.{traffic_repliers}

-- ---- the messages of recoveries

ticks_if_may : (script : List Statement) (world : World) (n : ℕ) (host : Host) (cause : NodeCause) → IsCause script world n host cause
    → TicksIfMay (input_of_cause cause) host.node
ticks_if_may script world n host (GuestAsks session req ask) so = tt
ticks_if_may script world n host (RequestComes name to request) so = tt
ticks_if_may script world n host (ReplyComes name from rsp) so = tt
ticks_if_may script world n host (LossIsTold name packet) so = tt
ticks_if_may script world n host (EntryIsRead entry) so = tt
ticks_if_may script world n host (EntryIsPut entry) so = tt
ticks_if_may script world n host RecoveryTicks so = so
ticks_if_may script world n host WorkIsRetried so = tt
ticks_if_may script world n host (ClientAsks req ask) so = tt

pub recoveries_ask_so : (script : List Statement)
    → HostsKeep script (λ (world : World). Unit {0}) (λ (world : World) (n : ℕ) (host : Host). AsksSo host.node.recovery)
recoveries_ask_so script = record {
  opens = λ member.
      step_asks_so (inputs.LogEntry (format_entry script)) (nodes.initial_node member.node (tries_of script)) tt
      (none_asked_yet (recoveries.initial_recovery member.node) refl);
  stays = λ event world made h i n host so. so;
  steps = λ world n host cause i there up caused so. step_asks_so (input_of_cause cause) host.node
      (ticks_if_may script world n host cause caused) so;
  fails = λ world n host i so. so;
  returns = λ world n host i there so. step_asks_so (inputs.Back (log_after_return script n world)) host.node tt so;
  joins = λ world n i control. none_asked_yet (recoveries.initial_recovery (record { 0 = n })) refl;
}

-- ---- who replied

module _ (script : List Statement) (range : RunsAreInRange script) where
  abbrev HaveCome : MomentWithPast → Type 0
  HaveCome moment = RepliersHaveCome moment.world.hosts moment.world.wire

  pub change_come : (start before after : MomentWithPast) → Began script start.world → MomentChange script start before after
      → HaveCome before → HaveCome after
  change_come start before after began change come =
      traffic_repliers before.world.hosts after.world.hosts before.world.wire before.past.attempts
      (epochs_rise script range start began change) come (traffic script range start began change)

  pub kept_come : KeptByChanges script HaveCome
  kept_come = record {
    opens = λ name from reply answering. absurd (none_yet script name (Reply from answering.bytes) answering.there);
    keeps = λ start before after began change come. change_come start before after began change come;
  }

  -- ---- every run

  module _ (events : List Move) (moment : MomentWithPast) (is : run_with_past script events ≡ Some moment) where
    abbrev world : World
    world = moment.world

    began : Began script world
    began = began-with_past script events moment is

    pub linked-in_run : PacketsAreAwaited world.hosts world.wire
    linked-in_run =
        let wired = (together script range world began).wired in
        record {
          spelled = wired.spelled;
          numbered = wired.numbered;
          there = λ n host there up. wired.on_the_way n host there up;
          awaited = λ n host there up number packet got. (packets_go script range world began n host there up number packet got).awaited;
          recovery = λ n host there up.
              asks_so-of host.node
              (each_began script (λ (world : World) (n : ℕ) (host : Host). AsksSo host.node.recovery) (recoveries_ask_so script) world began
              n host there);
        }

    pub said-in_run : RepliesAreOfTheirEpoch world.hosts world.wire
    said-in_run = record {
      said = λ n host there up to request reply asks answering.
          let goes = packets_go script range world began n host there up request.number (Reply to answering.bytes) answering.there in
          let (rsp, read, so) = goes.as_sent (to, request) (contains_at (asked_by host.node) asks.place (to, request) asks.among) refl in
          subst (λ (r : PeerRsp). IsSaidSo request.epoch.0 r.epoch.0 r.say) (same_said rsp reply (sym read ∙ answering.spelled)) so;
      reached = run-kept script HaveCome kept_come events moment is;
    }

    pub fenced-in_run : TheGoneAreFenced world.log world.hosts world.wire
    fenced-in_run = record {
      each = λ n host there number to request left lost leaves asking.
          let asked = (past_in_run script range events moment is).flying n host there number to request asking in
          let before = ((all_fenced script range world began).each n host there).before left leaves in
          omega (arith, asked, before);
    }
