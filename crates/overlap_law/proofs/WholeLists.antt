-- At each moment on the way of an event of a run in range a list that was told has each object of which its node has a row from before the
-- recovery's epoch, whether or not the object is live.
use Rattle.std.proofs.Common.{◌≡◌, ⊎_elim, ℕ, ◌<◌, ◌==◌, Bool, List, Some, sym, ap, subst, ◌∙◌}
use Rattle.std.specs.List.{list_any}
use Rattle.std.specs.FinMap as tree
use Rattle.object_id.specs.declared.node.NodeId.{NodeId}
use Rattle.object_store.specs.Store.{rows_of}
use Rattle.cluster_script.specs.declared.statement.Statement.{Statement}
use Rattle.peer_service.specs.State.{Peer}
use Rattle.peer_service.specs.Serve.{tells_refusal}
use Rattle.recovery.specs.State.{Message, Recovery, all_unanswered}
use Rattle.sheep_world.specs.World.{Host, World}
use Rattle.sheep_world.specs.Began.{Began}
use Rattle.sheep_world.proofs.NodesByTheLog.{knows_its_number}
use Rattle.sheep_world.specs.RunsWithAsks.{Move}
use Rattle.overlap_law.specs.Past.{MomentWithPast, run_with_past}
use Rattle.overlap_law.specs.MomentChanges.{MomentTrail, RunsAreInRange}
use Rattle.overlap_law.specs.Lists.{ListsAreWhole}
use Rattle.overlap_law.specs.ToldRows.{IsListUnderWay, IsListJoined}
use Rattle.overlap_law.proofs.AttemptMessages.{contains_at}
use Rattle.overlap_law.proofs.KnownSteps.{together}
use Rattle.overlap_law.proofs.ListsStand.{ListsHold, kept_lists}
use Rattle.overlap_law.proofs.RecoveriesInWorlds.{recoveries-on_the_way}
use Rattle.overlap_law.proofs.RunsByChanges.{on_the_way}
use Rattle.overlap_law.proofs.StandingRows.{stands_at}
use Rattle.overlap_law.proofs.ToldOfRows.{IsListedBefore, ListTells}

-- a recovery is in its node's name
abbrev IsOwn : ℕ → Recovery → Peer → Type 0
IsOwn n recovery peer = recovery.me.0 ≡ n

module _ (script : List Statement) (range : RunsAreInRange script) (events : List Move) (start moment : MomentWithPast)
    (is : run_with_past script events ≡ Some start) (trail : MomentTrail script start moment) where
  holds : ListsHold moment
  holds = on_the_way script ListsHold (kept_lists script range) events start moment is trail

  own_in_world : (world : World) → Began script world → (n : ℕ) (host : Host) → tree.get world.hosts n ≡ Some host
      → IsOwn n host.node.recovery host.node.peer
  own_in_world world began n host there =
      ap (λ (q : NodeId). q.0) ((together script range world began).recoveries n host there).own
      ∙ knows_its_number script world began n host there

  pub own : (n : ℕ) (host : Host) → tree.get moment.world.hosts n ≡ Some host → host.node.recovery.me.0 ≡ n
  own = recoveries-on_the_way script IsOwn own_in_world events start moment is trail

  pub lists_whole-on_the_way : (live : ℕ → Bool) → ListsAreWhole live moment.world.hosts moment.world.wire
  lists_whole-on_the_way live = record {
    each = λ n host there up q teller at oids told oid lives i row got below. ⊎_elim
        (λ (way : IsListUnderWay moment.world.wire n host.node.recovery (record { 0 = q }) host.node.recovery.epoch oids).
        let message : Message = way.message in
        let all = holds.told.stand.each n host there up message
        (contains_at (all_unanswered host.node.recovery) way.place message way.unanswered) (record { 0 = q }) way.reply way.answering
        (ap tells_refusal way.said) teller at in
        let listed : ListTells message.request way.reply.say oid row
        = stands_at (ListTells message.request way.reply.say oid) (rows_of teller.node.peer.rows oid) i row got (all oid) in
        listed oids way.asked way.said (subst (λ (k : ℕ). row.from.0 < k) (sym way.of_epoch) below))
        (λ (joined : IsListJoined host.node.recovery (record { 0 = q }) oids).
        let all = holds.joined.each n host there (record { 0 = q })
        (λ (same : q ≡ n). joined.other (same ∙ sym (own n host there))) joined.member joined.answered teller at in
        ap (list_any (λ other. other == oid)) (sym joined.joined)
        ∙ stands_at (IsListedBefore host.node.recovery.epoch host.node.recovery.lists.objects oid) (rows_of teller.node.peer.rows oid) i row
        got (all oid) below)
        told;
  }
