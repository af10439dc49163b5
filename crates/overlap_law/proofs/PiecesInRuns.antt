-- In each world of a run in range the requests in the wire ask for pieces inside the rows of their objects.
use Rattle.std.proofs.Common.{◌≡◌, ℕ, true, List, ◌++◌, All, Option, None, Some, refl, sym, ap, subst, ◌∙◌}
use Rattle.std.specs.Option.{option_map}
use Rattle.std.specs.FinMap as tree
use Rattle.proof_tools.proofs.FiniteMaps.{get-insert_same}
use Rattle.object_id.specs.declared.entry.Entry.{Entry}
use Rattle.object_id.specs.declared.entry.VdiSpec.{VdiSpec}
use Rattle.object_id.specs.declared.node.NodeId.{NodeId}
use Rattle.object_id.specs.Spec.{IsSpec}
use Rattle.epoch_log.specs.Appending.{IsReservable}
use Rattle.vdi_directory.proofs.ValidLemmas.{header-valid}
use Rattle.vdi_directory.specs.declared.header.Header.{Header}
use Rattle.vdi_directory.specs.Effects.{header_of}
use Rattle.cluster_script.specs.declared.statement.Statement.{Statement}
use Rattle.peer_proto.specs.declared.ask.PeerAsk.{PeerAsk}
use Rattle.peer_proto.specs.declared.ask.PeerReq.{PeerReq}
use Rattle.gateway.specs.Work.{ask_for}
use Rattle.vdi_directory.specs.declared.effect.Effect.{Effect}
use Rattle.vdi_directory.specs.Decisions.{log_effects}
use Rattle.sheep_node.specs.declared.input.Input.{Input}
use Rattle.sheep_node.specs.StepState.{at_first}
use Rattle.sheep_node.specs.StepFacts.{read_after}
use Rattle.sheep_node.specs.Step.{node_step}
use Rattle.sheep_node.specs.Changes.{input_received}
use Rattle.sheep_node.proofs.StepResults.{step_reads}
use Rattle.sheep_world.specs.World.{Host, World, is_host_up}
use Rattle.sheep_world.specs.NodeCauses.{NodeCause, input_of_cause, IsCause, world_after_cause}
use Rattle.sheep_world.specs.HostChanges.{host_after_step}
use Rattle.sheep_world.specs.Began.{Began, IsInvariant}
use Rattle.sheep_world.proofs.BegunWorlds.{goes_on, by_induction}
use Rattle.sheep_world.proofs.LogFrontLaws.{all_read}
use Rattle.sheep_world.proofs.LogAtOpening.{nodes-valid}
use Rattle.overlap_law.specs.MomentChanges.{RunsAreInRange}
use Rattle.overlap_law.specs.PiecesInRange.{PiecesEndInRows, PiecesAreInRange}
use Rattle.overlap_law.proofs.CausedWorks.{IsNotServed}
use Rattle.overlap_law.proofs.GrantedEpochs.{spec_known}
use Rattle.overlap_law.proofs.KnownDiskSteps.{effects_after, work_known}
use Rattle.overlap_law.proofs.KnownDisksInRuns.{caused_known, read_reservable, nodes_know}
use Rattle.overlap_law.proofs.SendsOfWorks.{SendIs, attempt_sends, step_sends}
use Rattle.overlap_law.proofs.SentByTheLog.{StepsSendSo, step_so, opens_so, asks_after}
use Rattle.overlap_law.proofs.SentPieces.{pieces_asked, asks_no_piece, pieces_stay}
use Rattle.overlap_law.proofs.WholeInRuns.{sound_world, from_beginning}
use Rattle.overlap_law.proofs.WholeSteps.{turn_whole}

-- by a log
abbrev IsPieceBy : List Entry → NodeId → PeerReq → Type 0
IsPieceBy log to request = PiecesEndInRows (log_effects log) request.ask

-- what is sent is so
abbrev PieceIs : List Effect → NodeId × PeerReq → Type 0
PieceIs effects = SendIs (PiecesEndInRows effects)

-- what is known of a disk is valid
pub spec_valid : (log : List Entry) → All IsReservable log → (vid : ℕ) (spec : VdiSpec) → spec_known (log_effects log) vid ≡ Some spec
    → IsSpec spec
spec_valid log reservable vid spec known = by_header (header_of (log_effects log) vid) refl known
  where
    by_header : (o : Option Header) → header_of (log_effects log) vid ≡ o → option_map (λ (header : Header). header.spec) o ≡ Some spec
        → IsSpec spec
    by_header None there known = absurd (cc (known))
    by_header (Some header) there known =
        let same : header.spec ≡ spec = cc (known) in
        subst IsSpec same (header-valid log reservable vid header there).spec

module _ (script : List Statement) (range : RunsAreInRange script) where
  module _ (world : World) (began : Began script world) where
    -- what a step sends
    module _ (n : ℕ) (host : Host) (there : tree.get world.hosts n ≡ Some host) (up : is_host_up host ≡ true) (cause : NodeCause)
        (caused : IsCause script world n host cause) (next : Began script (world_after_cause script n host cause world)) where
      abbrev input : Input
      input = input_of_cause cause

      abbrev entries : List Entry
      entries = read_after input host.node.peer.entries

      abbrev log_then : List Entry
      log_then = (world_after_cause script n host cause world).log

      reservable : All IsReservable entries
      reservable = read_reservable script range world n host cause next

      -- by what the log is then
      grown : (ask : PeerAsk) → PiecesEndInRows (log_effects entries) ask → PiecesEndInRows (log_effects log_then) ask
      grown ask is =
          let front = all_read script (world_after_cause script n host cause world) next n (host_after_step cause host)
          (get-insert_same world.hosts n (host_after_step cause host)) in
          let read : log_then ≡ entries ++ front.rest
          = front.is ∙ ap (λ (entries : List Entry). entries ++ front.rest) (step_reads input host.node) in
          subst (λ (log : List Entry). PiecesEndInRows (log_effects log) ask) (sym read) (pieces_stay entries front.rest ask is)

      by_works : IsNotServed cause → All (PieceIs (log_effects log_then)) (input_received input (at_first host.node)).outputs.sends
          → All (PieceIs (log_effects log_then)) (node_step input host.node).outputs.sends
      by_works not received =
          step_sends (PiecesEndInRows (log_effects log_then)) input host.node
          (λ so_far leads session req asked lined comes enough onward.
          attempt_sends (PiecesEndInRows (log_effects log_then)) asked lined.node
          (λ index. grown (ask_for asked.work index)
          (pieces_asked (log_effects entries) (spec_valid entries reservable) asked.work
          (from_beginning script range world began n host there up cause not caused (turn_whole input host.node) so_far leads session req
          asked lined comes)
          (work_known input host.node reservable
          (caused_known script range.is_script (effects_after input host.node) world n host cause
          (nodes-valid script range.is_script range.room world began n host there) caused)
          (nodes_know script range world began n host there) so_far leads session req asked lined comes) index))) received

    steps_send_pieces : StepsSendSo IsPieceBy script world
    steps_send_pieces n host there up cause caused next =
        step_so (IsPieceBy (world_after_cause script n host cause world).log)
        (λ known to request wanted is.
        asks_no_piece (log_effects (world_after_cause script n host cause world).log) known request.ask wanted is) cause host.node
        (λ not received. by_works n host there up cause caused next not received)

  -- ---- every world

  pieces_kept : IsInvariant script PiecesAreInRange
  pieces_kept = record {
    opens = record { each = opens_so IsPieceBy script };
    keeps = λ event world made began happened pieces. record {
      each = asks_after IsPieceBy (λ log more to request is. pieces_stay log more request.ask is) script world began
          (steps_send_pieces world began) pieces.each event made happened
          (sound_world script range made.world (goes_on script event world made began happened)).sent;
    };
  }

  pub pieces_in_range : (world : World) → Began script world → PiecesAreInRange world
  pieces_in_range world began = by_induction script PiecesAreInRange pieces_kept world began
