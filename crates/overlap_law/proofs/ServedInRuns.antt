-- In each world of a run in range an up node may serve each request in the wire to it, and take each other step that an event has it take.
use Rattle.std.proofs.Common.{◌≡◌, ℕ, ◌+◌, ◌≤◌, true, List, length, Option, None, Some, refl, sym, ap, subst, ◌∙◌}
use Rattle.std.specs.FinMap as tree
use Rattle.std.proofs.lemmas.Option.{same_Some}
use Rattle.object_id.specs.Oid.{kind_of}
use Rattle.object_id.specs.declared.entry.VdiSpec.{VdiSpec}
use Rattle.object_store.specs.declared.key.Key.{Key}
use Rattle.object_store.specs.Store.{SeenRow, open_row}
use Rattle.cluster_script.specs.declared.statement.Statement.{Statement}
use Rattle.peer_proto.specs.declared.ask.PeerAsk.{PeerAsk}
use Rattle.peer_proto.specs.declared.ask.PeerAsk.TheVariants as asks
use Rattle.peer_service.specs.State.{row_size}
use Rattle.peer_service.specs.Serve.{EndsInside, MayServe}
use Rattle.vdi_directory.specs.Decisions.{log_effects}
use Rattle.sheep_node.specs.May.{May}
use Rattle.sheep_world.specs.World.{Host, World, is_host_up}
use Rattle.sheep_world.specs.NodeCauses.{NodeCause, GuestAsks, RequestComes, ReplyComes, LossIsTold, EntryIsRead, EntryIsPut, RecoveryTicks}
use Rattle.sheep_world.specs.NodeCauses.{WorkIsRetried, ClientAsks, input_of_cause, IsCause}
use Rattle.sheep_world.specs.Began.{Began}
use Rattle.sheep_world.proofs.StepsByCause.{steps_on_may}
use Rattle.sheep_world.proofs.WireAtEvents.{is_ready}
use Rattle.overlap_law.specs.MomentChanges.{RunsAreInRange}
use Rattle.overlap_law.specs.PiecesInRange.{EndsInRows, PiecesEndInRows}
use Rattle.overlap_law.proofs.CausedWorks.{caused_may}
use Rattle.overlap_law.proofs.KnownSteps.{together}
use Rattle.overlap_law.proofs.PiecesInRuns.{pieces_in_range}
use Rattle.overlap_law.proofs.RangeOfFewObjects.{rows_told}
use Rattle.overlap_law.proofs.SpelledReplies.{open_among}

module _ (script : List Statement) (range : RunsAreInRange script) (world : World) (began : Began script world) (n : ℕ) (host : Host)
    (there : tree.get world.hosts n ≡ Some host) (up : is_host_up host ≡ true) where
  -- what ends inside the rows of an object ends inside the open one
  ends_inside : (key : Key) (end : ℕ) → EndsInRows (log_effects world.log) key.oid end → EndsInside end (open_row host.node.peer.rows key)
  ends_inside key end is = by_row (open_row host.node.peer.rows key) refl
    where
      by_row : (o : Option SeenRow) → open_row host.node.peer.rows key ≡ o → EndsInside end o
      by_row None on = tt
      by_row (Some row) on =
          let (place, got) = open_among host.node.peer.rows key row on in
          let row_is = (rows_told script range.is_script range.room world began).rows n host there key.oid place row got in
          let same : is.spec ≡ row_is.spec = same_Some is.spec row_is.spec (sym is.made ∙ row_is.made) in
          let long : length row.bytes ≡ row_size (kind_of key.oid) is.spec
          = row_is.size ∙ ap (λ (spec : VdiSpec). row_size (kind_of key.oid) spec) (sym same) in
          subst (λ (m : ℕ). end ≤ m) (sym long) is.inside

  may_serve : (ask : PeerAsk) → PiecesEndInRows (log_effects world.log) ask → MayServe host.node.peer ask
  may_serve (asks.Create key size offset bytes) is = is
  may_serve (asks.Write key offset bytes) is = ends_inside key (offset + length bytes) is
  may_serve (asks.Read key offset size) is = ends_inside key (offset + size) is
  may_serve asks.List is = tt
  may_serve (asks.RecoverRead oid level) is = tt

  pub may-in_run : (cause : NodeCause) → IsCause script world n host cause → May (input_of_cause cause) host.node
  may-in_run (GuestAsks session req ask) caused =
      caused_may script range world began n host there up (GuestAsks session req ask) tt caused
  may-in_run (RequestComes name to request) caused =
      steps_on_may script world n host (RequestComes name to request) caused
      (is_ready script world (together script range world began) n host there up)
      (may_serve request.ask
      ((pieces_in_range script range world began).each name to caused.bytes request caused.there caused.read))
  may-in_run (ReplyComes name from rsp) caused =
      caused_may script range world began n host there up (ReplyComes name from rsp) tt caused
  may-in_run (LossIsTold name packet) caused = caused_may script range world began n host there up (LossIsTold name packet) tt caused
  may-in_run (EntryIsRead entry) caused = caused_may script range world began n host there up (EntryIsRead entry) tt caused
  may-in_run (EntryIsPut entry) caused = caused_may script range world began n host there up (EntryIsPut entry) tt caused
  may-in_run RecoveryTicks caused = caused_may script range world began n host there up RecoveryTicks tt caused
  may-in_run WorkIsRetried caused = caused_may script range world began n host there up WorkIsRetried tt caused
  may-in_run (ClientAsks req ask) caused = caused_may script range world began n host there up (ClientAsks req ask) tt caused
