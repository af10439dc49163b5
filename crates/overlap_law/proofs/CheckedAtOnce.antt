-- A step that is made at once begins no write.
use Rattle.std.proofs.Common.{◌≡◌, ℕ, false, List, [], ◌++◌, Option, None, ap, ◌∙◌}
use Rattle.std.specs.Prelude.{flat_map}
use Rattle.std.specs.List.{list_any}
use Rattle.std.specs.Option.{option_map_or}
use Rattle.cluster_script.specs.declared.statement.Statement.{Statement}
use Rattle.sheep_node.specs.declared.check_write.CheckWrite.{CheckWrite}
use Rattle.sheep_node.specs.StepState.{StepState}
use Rattle.sheep_world.specs.HistoryAdditions.{check_write_grown, reply_grown}
use Rattle.sheep_world.specs.NodeCauses.{NodeCause, GuestAsks, RequestComes, ReplyComes, LossIsTold, EntryIsRead, EntryIsPut, RecoveryTicks}
use Rattle.sheep_world.specs.NodeCauses.{WorkIsRetried, ClientAsks, history_of_cause}
use Rattle.sheep_world.specs.World.{Host, World, node_at}
use Rattle.overlap_law.specs.StepMoments.{StepsAtOnce, world_in_step}
use Rattle.overlap_law.proofs.ItemsAtBegin.{entry_none, served_comes_to_none}
use Rattle.overlap_law.proofs.ItemsOfReplies.{replies_none}
use Rattle.overlap_law.proofs.ItemsOfRequests.{begins_write_of}

module _ (script : List Statement) (world : World) where
  pub once_none : (cause : NodeCause) → StepsAtOnce cause → (n : ℕ) (host : Host) (last : StepState) (req : ℕ)
      → list_any (begins_write_of req)
      (history_of_cause script cause world (world_in_step script (record { n = n; host = host; cause = cause }) world last))
      ≡ false
  once_none (RequestComes name to request) at_once n host last req =
      ap (λ (write : Option CheckWrite).
      list_any (begins_write_of req)
      (option_map_or (check_write_grown script) write [] ++ flat_map (reply_grown script world write) last.outputs.replies))
      (served_comes_to_none request (node_at name.sender.0 world))
      ∙ replies_none script req world None last.outputs.replies
  once_none (EntryIsPut entry) at_once n host last req = entry_none req world.log entry
  once_none RecoveryTicks at_once n host last req = replies_none script req world None last.outputs.replies
  once_none (GuestAsks session other ask) at_once n host last req = absurd at_once
  once_none (ReplyComes name from rsp) at_once n host last req = absurd at_once
  once_none (LossIsTold name packet) at_once n host last req = absurd at_once
  once_none (EntryIsRead entry) at_once n host last req = absurd at_once
  once_none WorkIsRetried at_once n host last req = absurd at_once
  once_none (ClientAsks number asks) at_once n host last req = absurd at_once
