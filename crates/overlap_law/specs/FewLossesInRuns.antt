-- Few losses at each moment of a run: of the members of each epoch since an object's birth, or since the settled one, few are lost. So it
-- is where no node is lost, leaves or joins.
use Rattle.std.specs.Prelude.{◌≡◌, ℕ, Bool, true, false, List, ◌++◌, Some}
use Rattle.cluster_script.specs.declared.statement.Statement.{Statement}
use Rattle.sheep_node.specs.declared.event.Event.{Event}
use Rattle.sheep_node.specs.declared.event.Event.TheVariants.{Guest, Deliver, LoseRequest, LoseReply, LogNext, Put, RecoverTick, RetryTick}
use Rattle.sheep_node.specs.declared.event.Event.TheVariants.{Lost, Leave, Join, Reweight, Back, Phase}
use Rattle.sheep_world.specs.RunsWithAsks.{Move}
use Rattle.overlap_law.specs.FewLosses.{LossesStayFew}
use Rattle.overlap_law.specs.Holders.{is_live_object}
use Rattle.overlap_law.specs.Past.{MomentWithPast, run_with_past}
use Rattle.overlap_law.specs.PastWords.{counts}

-- at a moment, of each object that was born and whose disk isn't dead
pub record LossesAreFewAt (moment : MomentWithPast) : Type 0 where
  pub each : (oid : ℕ) → is_live_object moment.world.log moment.past.attempts oid ≡ true
      → LossesStayFew (counts moment.past.ended moment.world) moment.world.log moment.past.attempts oid

-- at each moment that a run comes by, its end among them
pub record LossesAreFewInRun (script : List Statement) (moves : List Move) : Type 0 where
  pub at : (earlier later : List Move) (moment : MomentWithPast) → moves ≡ earlier ++ later
      → run_with_past script earlier ≡ Some moment → LossesAreFewAt moment

-- whether an event takes a node away or brings one. One that comes back was lost before, and who gets another weight stays
abbrev pub changes_nodes : Event → Bool
changes_nodes (Guest session) = false
changes_nodes (Deliver node number) = false
changes_nodes (LoseRequest node number) = false
changes_nodes (LoseReply node number) = false
changes_nodes (LogNext node) = false
changes_nodes (Put node) = false
changes_nodes (RecoverTick node) = false
changes_nodes (RetryTick node) = false
changes_nodes (Lost node) = true
changes_nodes (Leave node) = true
changes_nodes (Join node) = true
changes_nodes (Reweight node) = false
changes_nodes (Back node) = false
changes_nodes Phase = false
