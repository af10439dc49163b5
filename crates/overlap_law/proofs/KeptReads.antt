-- What the beginning of a step adds to the history keeps what was read of blocks, and so does a reply, if the write that it ends does.
use Rattle.std.proofs.Common.{◌≡◌, ℕ, Bool, true, false, List, [], ◌∷◌, Option, Some, None}
use Rattle.std.specs.List.{list_any}
use Rattle.std.specs.List.{All as Each}
use Rattle.std.proofs.lemmas.List.Elements.{All-head, All-tail}
use Rattle.cluster_script.specs.declared.statement.Statement.{Statement}
use Rattle.cluster_script.specs.declared.statement.Statement.TheVariants as lines
use Rattle.cluster_script.specs.NumberedRequests.{request_at}
use Rattle.disk_history.specs.declared.event.HistEvent.{HistEvent}
use Rattle.disk_history.specs.Ledger.{Ledger, ledger_after}
use Rattle.peer_proto.specs.declared.guest.GuestRsp.{GuestRsp}
use Rattle.sheep_world.specs.World.{World}
use Rattle.sheep_world.specs.HistoryAdditions.{added_by, blocks_read, disk_of, has_begun_check_write, reply_adds, write_ended}
use Rattle.sheep_world.specs.NodeCauses.{NodeCause}
use Rattle.overlap_law.specs.Attempts.{AttemptRecord}
use Rattle.overlap_law.specs.DiskEvents.{ends_write_of}
use Rattle.overlap_law.specs.HistoryGrowth.{added_at_cause, added_by_reply, check_write_at, world_at_cause}
use Rattle.overlap_law.specs.ToldReads.{AllKeepReadsOf, KeepsReadsOf}
use Rattle.overlap_law.proofs.ClosedAdditions.{cause_adds, reads_add}
use Rattle.overlap_law.proofs.FollowingEvents.{own_end}

module _ (attempts : List AttemptRecord) (vid block : ℕ) where
  abbrev All : Ledger → List HistEvent → Type 0
  All ledger events = AllKeepReadsOf attempts ledger vid block events

  -- events that keep it of any ledger
  abbrev KeepAlways : List HistEvent → Type 0
  KeepAlways events = (ledger : Ledger) → All ledger events

  abbrev Kept : HistEvent → Type 0
  Kept event = (ledger : Ledger) → KeepsReadsOf attempts ledger vid block event

  in_turn : (events : List HistEvent) → Each Kept events → KeepAlways events
  in_turn [] each ledger = tt
  in_turn (event ∷ events) each ledger = (
    All-head Kept event events each ledger,
    in_turn events (All-tail Kept event events each) (ledger_after ledger event),
  )

  pub cause_keeps_reads : (script : List Statement) (world : World) (cause : NodeCause) → KeepAlways (added_at_cause script world cause)
  cause_keeps_reads script world cause =
      in_turn (added_at_cause script world cause)
      (cause_adds Kept (λ disk at bytes ledger. tt) script (λ req disk at coded bytes ledger. tt) world cause)

  -- ---- what a reply ends or reads

  module _ (ledger : Ledger) (req : ℕ) (rsp : GuestRsp) where
    adds_keep : (written : Bool) (disk : ℕ) (s : Statement)
        → (list_any (ends_write_of req) (reply_adds written req rsp disk s) ≡ true
        → KeepsReadsOf attempts ledger vid block (write_ended req rsp))
        → All ledger (reply_adds written req rsp disk s)
    adds_keep written disk (lines.Read session offset size) ends =
        in_turn (blocks_read disk offset rsp) (reads_add Kept (λ disk at bytes ledger. tt) disk offset rsp) ledger
    adds_keep written disk (lines.Write session offset size pattern) ends = (ends (own_end req rsp), tt)
    adds_keep true disk (lines.Check session) ends = (ends (own_end req rsp), tt)
    adds_keep false disk (lines.Check session) ends = tt
    adds_keep written disk s ends = tt

    added_keep : (written : Bool) (disk : Option ℕ) (s : Option Statement)
        → (list_any (ends_write_of req) (added_by written req rsp disk s) ≡ true
        → KeepsReadsOf attempts ledger vid block (write_ended req rsp))
        → All ledger (added_by written req rsp disk s)
    added_keep written None s ends = tt
    added_keep written (Some disk) None ends = tt
    added_keep written (Some disk) (Some s) ends = adds_keep written disk s ends

  pub reply_keeps_reads : (script : List Statement) (world : World) (cause : NodeCause) (ledger : Ledger) (reply : ℕ × GuestRsp)
      → (list_any (ends_write_of reply.0) (added_by_reply script world cause reply) ≡ true
      → KeepsReadsOf attempts ledger vid block (write_ended reply.0 reply.1))
      → All ledger (added_by_reply script world cause reply)
  reply_keeps_reads script world cause ledger reply ends =
      added_keep ledger reply.0 reply.1
      (has_begun_check_write script reply.0 (world_at_cause world cause) (check_write_at world cause))
      (disk_of script reply.0 (world_at_cause world cause)) (request_at script reply.0) ends
