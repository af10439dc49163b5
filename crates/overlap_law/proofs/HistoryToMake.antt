-- What works to do would make of a block may be read of it, where what open works would make may be, whichever requests are refused: what
-- waits in the line of a session is on an inode.
use Rattle.std.proofs.Common.{◌≡◌, ⊎_elim, ℕ, Bool, true, false, All, Contains, List, Option, Some, unwrap_or, sym, ap, subst, ◌∙◌}
use Rattle.std.proofs.lemmas.Bool.{both_ways}
use Rattle.std.proofs.lemmas.List.Elements.{All-contains}
use Rattle.epoch_log.specs.Appending.{IsReservable}
use Rattle.object_id.specs.declared.entry.VdiSpec.{VdiSpec}
use Rattle.object_id.specs.declared.oid.Kind.TheVariants.{Block}
use Rattle.object_id.specs.Oid.{kind_of, object_number}
use Rattle.cluster_script.specs.declared.statement.Statement.{Statement}
use Rattle.disk_history.specs.Ledger.{Disk}
use Rattle.peer_proto.specs.declared.work.ObjWork.{ObjWork}
use Rattle.peer_proto.specs.Work.{oid_of}
use Rattle.guest_driver.specs.InodeQueue.{is_inode, is_on_inode}
use Rattle.sheep_node.specs.declared.session.Session.{Session}
use Rattle.sheep_node.specs.OneWork.{waiting_in}
use Rattle.sheep_node.specs.OpenLines.{IsOnInode}
use Rattle.sheep_node.specs.State.{new_session}
use Rattle.sheep_world.specs.Began.{Began}
use Rattle.sheep_world.specs.RunsWithAsks.{Move}
use Rattle.vdi_directory.specs.Decisions.{log_effects}
use Rattle.overlap_law.specs.Headline.{ledger_of}
use Rattle.overlap_law.specs.MomentChanges.{RunsAreInRange, Still}
use Rattle.overlap_law.specs.Past.{MomentWithPast, run_with_past}
use Rattle.overlap_law.specs.StayingBlocks.{WorksMayStay}
use Rattle.overlap_law.specs.ToDo.{IsOpen, IsInLine, WorksMayBeMade}
use Rattle.overlap_law.specs.Units.{covers_by, bytes_by}
use Rattle.overlap_law.specs.WrittenBlocks.{IsBlockOfDisk, is_allowed, items_at}
use Rattle.overlap_law.proofs.AttemptMessages.{contains_at}
use Rattle.overlap_law.proofs.BlocksOfAnyDisk.{any_block}
use Rattle.overlap_law.proofs.CreatedInodes.{header_is}
use Rattle.overlap_law.proofs.KnownDisks.{kind-of_object}
use Rattle.overlap_law.proofs.LiveIds.{few_objects}
use Rattle.overlap_law.proofs.LogsReservable.{LogIsReservable, kept_reservable}
use Rattle.overlap_law.proofs.NoRecoveredDue.{began-with_past}
use Rattle.overlap_law.proofs.QueuesInMoments.{queues_in_world}
use Rattle.overlap_law.proofs.ReadableBlocks.{may_allowed}
use Rattle.overlap_law.proofs.RunsByChanges.{on_the_way}

module _ (script : List Statement) (range : RunsAreInRange script) (events : List Move) (moment : MomentWithPast)
    (run : run_with_past script events ≡ Some moment) (good_id : ℕ → Bool)
    (stay : WorksMayStay (ledger_of moment.past.history) (log_effects moment.world.log) good_id moment.world.hosts moment.past.attempts)
  where
    began : Began script moment.world
    began = began-with_past script events moment run

    reservable : All IsReservable moment.world.log
    reservable = (on_the_way script LogIsReservable (kept_reservable script range) events moment moment run Still).all

    -- an object of a disk's block is no inode
    no_inode : (vid index unit : ℕ) (disk : Disk) (spec : VdiSpec) (work : ObjWork) → oid_of work ≡ object_number vid index
        → IsBlockOfDisk (ledger_of moment.past.history) (log_effects moment.world.log) good_id vid disk spec index unit
        → is_on_inode work ≡ false
    no_inode vid index unit disk spec work object block =
        let kind : kind_of (object_number vid index) ≡ Block
        = kind-of_object vid index (header_is moment.world.log reservable vid spec block.made_with).0
        (few_objects moment.world.log reservable vid index spec block.made_with block.object) in
        ap (λ (oid : ℕ). is_inode (kind_of oid)) object ∙ ap is_inode kind

    pub works_made : WorksMayBeMade (ledger_of moment.past.history) (log_effects moment.world.log) good_id moment.world.hosts
    works_made = record {
      each = λ n host there up work vid index unit disk spec to_do object block covers whole. ⊎_elim
          (λ (opened : IsOpen host.node work).
          subst (λ (w : ObjWork). is_allowed (items_at disk spec index unit) (bytes_by unit w) ≡ true) opened.same
          (may_allowed moment.past.attempts (items_at disk spec index unit) (Some opened.req) (bytes_by unit opened.open_work.work)
          (stay.each n host there up opened.req vid index unit opened.open_work disk spec opened.there (ap oid_of opened.same ∙ object)
          (any_block (ledger_of moment.past.history) (log_effects moment.world.log) good_id vid disk spec index unit block)
          (ap (covers_by unit) opened.same ∙ covers) whole)))
          (λ (lined : IsInLine host.node work).
          let on : is_on_inode lined.waiting.work ≡ true
          = All-contains IsOnInode (waiting_in lined.number host.node.sessions) lined.waiting
          ((queues_in_world script range moment.world began n host there).lines.waiting lined.number)
          (subst (λ (o : Option Session). Contains (unwrap_or o new_session).inode_queue.waiting lined.waiting) (sym lined.there)
          (contains_at lined.session.inode_queue.waiting lined.place lined.waiting lined.among)) in
          let off : is_on_inode work ≡ false = no_inode vid index unit disk spec work object block in
          absurd (both_ways (is_on_inode lined.waiting.work) (ap is_on_inode lined.same ∙ off) on))
          to_do;
    }
