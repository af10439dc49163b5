-- In each world of a run in range what nodes have at work is on disks that they know.
use Rattle.std.proofs.Common.{◌≡◌, arith, ℕ, zero, suc, ◌==◌, ◌%◌, ◌&&◌, not, Bool, List, [], ◌∷◌, ◌++◌, All, Some, IsTrue, sym, ap, subst}
use Rattle.std.proofs.Common.{◌∙◌, true}
use Rattle.std.specs.FinMap as tree
use Rattle.std.proofs.lemmas.Bool.{eq-eqb, ne_eqb}
use Rattle.std.proofs.lemmas.List.Elements.{All-nil, All-cons, All-filter}
use Rattle.object_id.specs.Span.{IsSpan}
use Rattle.epoch_log.specs.Appending.{IsReservable}
use Rattle.vdi_directory.specs.declared.effect.Effect.{Effect}
use Rattle.cluster_script.specs.declared.statement.Statement.{Statement}
use Rattle.cluster_script.specs.declared.statement.Statement.TheVariants as lines
use Rattle.cluster_script.specs.Language.{MayStand, EachMayStand, IsScript}
use Rattle.cluster_script.specs.NumberedRequests.{request_at}
use Rattle.cluster_script.specs.Settings.{tries_of}
use Rattle.cluster_script.specs.Statements.{is_request, requests_of}
use Rattle.cluster_script.proofs.PhaseLaws.{length-payload_of}
use Rattle.peer_service.specs.State.{effects_of}
use Rattle.sheep_node.specs.declared.ask.Ask.{Ask}
use Rattle.sheep_node.specs.declared.input.Input.TheVariants as inputs
use Rattle.sheep_node.specs.State as nodes
use Rattle.sheep_node.specs.Step.{node_step}
use Rattle.sheep_node.specs.StepFacts.{read_after}
use Rattle.sheep_node.proofs.StepResults.{step_reads}
use Rattle.sheep_node.proofs.ValidLaws.{valid_disks_stay, valid_disks_at_opening}
use Rattle.sheep_node.proofs.ValidSteps.{given}
use Rattle.sheep_world.specs.World.{Host, World}
use Rattle.sheep_world.specs.Opening.{format_entry}
use Rattle.sheep_world.specs.Asking.{ask_of_statement}
use Rattle.sheep_world.specs.NodeCauses.{NodeCause, GuestAsks, RequestComes, ReplyComes, LossIsTold, EntryIsRead, EntryIsPut, RecoveryTicks}
use Rattle.sheep_world.specs.NodeCauses.{WorkIsRetried, ClientAsks, input_of_cause, IsCause, host_with_node, world_after_cause}
use Rattle.sheep_world.specs.EventKinds.{log_after_return, world_after_return}
use Rattle.sheep_world.specs.HostChanges.{HostsKeep, host_after_return}
use Rattle.sheep_world.specs.Began.{Began}
use Rattle.sheep_world.specs.LogHolds.{MayGrow}
use Rattle.sheep_world.proofs.BegunWorlds.{each_where}
use Rattle.sheep_world.proofs.LogAtOpening.{nodes-valid}
use Rattle.sheep_world.proofs.ValidNodes.{got_is, read_valid}
use Rattle.proof_tools.proofs.FiniteMaps.{get-insert_same}
use Rattle.overlap_law.specs.MomentChanges.{RunsAreInRange}
use Rattle.overlap_law.proofs.KnownDiskSteps.{AreOnKnown, IsKnownAsk, IsKnownInput, effects_after, none_known, stepped_known}
use Rattle.overlap_law.proofs.AsksInCauses.{read_makes_none}
use Rattle.sheep_node.specs.declared.ask.Ask.TheVariants as asks
use Rattle.sheep_world.specs.ClientAsks.{is_read_ask}
use Rattle.sheep_node.specs.ValidDisks.{HasValidDisks, IsValidAsk}
use Rattle.overlap_law.proofs.KnownDisks.{read_known}

-- ---- what a script asks

span_asked : (offset size : ℕ) → IsSpan offset size → IsTrue ((offset % 512 == 0) && (size % 512 == 0) && not (size == 0))
span_asked offset size span =
    let least = span.least in
    ap (λ (b : Bool). b && (size % 512 == 0) && not (size == 0)) (eq-eqb (offset % 512) 0 span.start)
    ∙ ap (λ (b : Bool). b && not (size == 0)) (eq-eqb (size % 512) 0 span.whole)
    ∙ ap not (ne_eqb size 0 (λ (none : size ≡ 0). absurd (omega (arith, least, none))))

asked_known : (known : List Effect) (before : List Statement) (line : Statement) (ask : Ask) → MayStand before line
    → ask_of_statement line ≡ Some ask → IsKnownAsk known ask
asked_known known before (lines.Create session policy shift name size) ask may is = given (IsKnownAsk known) is tt
asked_known known before (lines.OpenDisk session name tag) ask may is = given (IsKnownAsk known) is tt
asked_known known before (lines.Close session) ask may is = given (IsKnownAsk known) is tt
asked_known known before (lines.Read session offset size) ask may is = given (IsKnownAsk known) is (span_asked offset size may.1)
asked_known known before (lines.Write session offset size pattern) ask may is =
    given (IsKnownAsk known) is (subst (λ (n : ℕ). IsTrue ((offset % 512 == 0) && (n % 512 == 0) && not (n == 0)))
    (sym (length-payload_of pattern size)) (span_asked offset size may.1))
asked_known known before (lines.Snapshot session tag) ask may is = given (IsKnownAsk known) is tt
asked_known known before (lines.Clone session base tag name) ask may is = given (IsKnownAsk known) is tt
asked_known known before (lines.Delete session name tag) ask may is = given (IsKnownAsk known) is tt
asked_known known before (lines.Check session) ask may is = given (IsKnownAsk known) is tt
asked_known known before _ ask may is = absurd (cc (is))

abbrev pub MayStandSomewhere : Statement → Type 0
MayStandSomewhere line = (before : List Statement) × MayStand before line

pub each_stands : (before rest : List Statement) → EachMayStand before rest → All MayStandSomewhere rest
each_stands before [] may = All-nil MayStandSomewhere
each_stands before (line ∷ rest) may = All-cons MayStandSomewhere line rest (before, may.0) (each_stands (before ++ line ∷ []) rest may.1)

request_known : (script : List Statement) → IsScript script → (known : List Effect) (req : ℕ) (line : Statement) (ask : Ask)
    → request_at script req ≡ Some line
    → ask_of_statement line ≡ Some ask → IsKnownAsk known ask
request_known script is_script known zero line ask at is = absurd (cc (at))
request_known script is_script known (suc place) line ask at is =
    let (before, may) = got_is MayStandSomewhere (requests_of script) place line
    (All-filter is_request MayStandSomewhere script (each_stands [] script is_script)) at in
    asked_known known before line ask may is

-- and what a client reads
read_ask_known : (known : List Effect) (ask : Ask) → IsValidAsk ask → is_read_ask ask ≡ true → IsKnownAsk known ask
read_ask_known known (asks.Disk ask) valid reads = absurd (cc (reads))
read_ask_known known (asks.Vdi ask) valid reads = tt
read_ask_known known (asks.Object work) valid reads = read_known known work valid (read_makes_none work reads)
read_ask_known known (asks.Entry entry) valid reads = tt

pub caused_known : (script : List Statement) → IsScript script
    → (known : List Effect) (world : World) (n : ℕ) (host : Host) (cause : NodeCause)
    → HasValidDisks host.node → IsCause script world n host cause → IsKnownInput known (input_of_cause cause)
caused_known script is_script known world n host (GuestAsks session req ask) valid so =
    request_known script is_script known req so.line ask so.stands so.asks
caused_known script is_script known world n host (RequestComes name to request) valid so = tt
caused_known script is_script known world n host (ReplyComes name from rsp) valid so = tt
caused_known script is_script known world n host (LossIsTold name packet) valid so = tt
caused_known script is_script known world n host (EntryIsRead entry) valid so = tt
caused_known script is_script known world n host (EntryIsPut entry) valid so = tt
caused_known script is_script known world n host RecoveryTicks valid so = tt
caused_known script is_script known world n host WorkIsRetried valid so = tt
caused_known script is_script known world n host (ClientAsks req ask) valid so =
    read_ask_known known ask (read_valid host.node ask valid so.asks so.reads) so.reads

-- ---- every world

module _ (script : List Statement) (is_script : IsScript script) (grows : (world : World) → Began script world → MayGrow world) where
  abbrev KnownWhereBegun : World → ℕ → Host → Type 0
  KnownWhereBegun world n host = Began script world → AreOnKnown (effects_of host.node.peer) host.node

  -- what a node will have read by the end of its step may be reserved
  read_reservable_by : (world : World) (n : ℕ) (host : Host) (cause : NodeCause)
      → Began script (world_after_cause script n host cause world)
      → All IsReservable (read_after (input_of_cause cause) host.node.peer.entries)
  read_reservable_by world n host cause next =
      let after = host_with_node host (node_step (input_of_cause cause) host.node).node in
      subst (All IsReservable) (step_reads (input_of_cause cause) host.node)
      (nodes-valid script is_script grows (world_after_cause script n host cause world) next n after
      (get-insert_same world.hosts n after)).read

  known_kept : HostsKeep script (Began script) KnownWhereBegun
  known_kept = record {
    opens = λ member begun.
        let new = nodes.initial_node member.node (tries_of script) in
        let input = inputs.LogEntry (format_entry script) in
        stepped_known input new
        (subst (All IsReservable) (step_reads input new) (valid_disks_stay input new tt
        (valid_disks_at_opening member.node (tries_of script))).read) tt (none_known (effects_of new.peer));
    stays = λ event world made h began n host so begun. so began;
    steps = λ world n host cause began there up caused so next.
        stepped_known (input_of_cause cause) host.node (read_reservable_by world n host cause next)
        (caused_known script is_script (effects_after (input_of_cause cause) host.node) world n host cause
        (nodes-valid script is_script grows world began n host there) caused) (so began);
    fails = λ world n host began so. so;
    returns = λ world n host began there so next.
        let log = log_after_return script n world in
        let after = host_after_return log host in
        stepped_known (inputs.Back log) host.node
        (subst (All IsReservable) (step_reads (inputs.Back log) host.node)
        (nodes-valid script is_script grows (world_after_return script n host world) next n after
        (get-insert_same world.hosts n after)).read) tt (so began);
    joins = λ world n began control next. none_known (effects_of (nodes.initial_node (record { 0 = n }) (tries_of script)).peer);
  }

  pub nodes_know_by : (world : World) → Began script world → (n : ℕ) (host : Host) → tree.get world.hosts n ≡ Some host
      → AreOnKnown (effects_of host.node.peer) host.node
  nodes_know_by world began n host there =
      each_where script (Began script) KnownWhereBegun (λ world begun. begun) known_kept world began n host there began

module _ (script : List Statement) (range : RunsAreInRange script) where
  pub read_reservable : (world : World) (n : ℕ) (host : Host) (cause : NodeCause)
      → Began script (world_after_cause script n host cause world)
      → All IsReservable (read_after (input_of_cause cause) host.node.peer.entries)
  read_reservable = read_reservable_by script range.is_script range.room

  pub nodes_know : (world : World) → Began script world → (n : ℕ) (host : Host) → tree.get world.hosts n ≡ Some host
      → AreOnKnown (effects_of host.node.peer) host.node
  nodes_know = nodes_know_by script range.is_script range.room
