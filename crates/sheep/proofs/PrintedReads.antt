-- What is printed as done of reads, writes and checks is done on open disks: by a law of every run in range, and by what its reply added.
use Rattle.std.proofs.Common.{◌≡◌, ℕ, true, false, List, map, Some, refl, ap, ◌∙◌}
use Rattle.std.specs.Option.{option_and_then}
use Rattle.cluster_script.specs.declared.statement.Pattern.{Pattern}
use Rattle.cluster_script.specs.declared.statement.Statement.{Statement}
use Rattle.cluster_script.specs.declared.statement.Statement.TheVariants as lines
use Rattle.cluster_script.specs.NumberedRequests.{payload_of, request_at}
use Rattle.disk_history.specs.declared.event.HistEvent.{HistEvent}
use Rattle.peer_proto.specs.declared.guest.DiskAsk.{DiskAsk}
use Rattle.peer_proto.specs.declared.guest.DiskAsk.TheVariants as disk_asks
use Rattle.peer_proto.specs.declared.guest.GuestRsp.{GuestRsp}
use Rattle.peer_proto.specs.declared.guest.GuestRsp.TheVariants as replies
use Rattle.peer_proto.specs.declared.guest.VdiAsk.TheVariants as disk_commands
use Rattle.sheep_node.specs.declared.ask.Ask.TheVariants as asks
use Rattle.sheep_node.specs.declared.event.Event.{Event}
use Rattle.sheep_world.specs.Asking.{ask_of_statement}
use Rattle.sheep_world.specs.RunsWithAsks.{Happens}
use Rattle.sheep_world.proofs.ClientLaws.{run-events}
use Rattle.overlap_law.specs.MomentChanges.{RunsAreInRange}
use Rattle.overlap_law.specs.PastWords.{is_refusal}
use Rattle.overlap_law.specs.DoneOnDisks.{IsCheckedOnDisk, IsDoneOnDisk}
use Rattle.overlap_law.specs.StandingReads.{asked_in}
use Rattle.overlap_law.proofs.CheckRepliesInFull.{checked_on_disk}
use Rattle.overlap_law.proofs.RepliesInFull.{done_on_disk}
use Rattle.dog_report.specs.Fates.{Answered}
use Rattle.dog_report.specs.Counts.{is_ok}
use Rattle.sheep.specs.PrintedReads.{IsReadDone, IsWriteDone, IsCheckDone, DoneAreOnOpenDisks}
use Rattle.sheep.specs.PrintedReplies.{IsGiven, world_asked, disk_begun_on, has_written}
use Rattle.sheep.proofs.AddedByReplies.{write-done, blocks-read, check-done}

unrefused : (rsp : GuestRsp) → is_ok (Answered rsp) ≡ true → is_refusal rsp ≡ false
unrefused replies.Done is = refl
unrefused (replies.Piece bytes) is = refl
unrefused (replies.Refused cause) is = absurd (cc (is))
unrefused (replies.Granted vid) is = refl
unrefused (replies.Checked found) is = refl

module _ (statements : List Statement) (range : RunsAreInRange statements) (all : List Event) (history : List HistEvent) where
  module _ (req : ℕ) (rsp : GuestRsp) (given : IsGiven statements all history req rsp) (fine : is_ok (Answered rsp) ≡ true) where
    on_open : (ask : DiskAsk) → asked_in statements req ≡ Some (asks.Disk ask)
        → IsDoneOnDisk statements (world_asked given) req ask rsp
    on_open ask asked =
        done_on_disk statements range (map Happens given.earlier) given.moment (run-events statements given.earlier ∙ given.reached)
        given.event given.made (record { move = Happens given.event; event_so = refl; made_so = given.happens }) req ask rsp asked
        given.replied (unrefused rsp fine)

    read_done : (session offset size : ℕ) → request_at statements req ≡ Some (lines.Read session offset size)
        → IsReadDone history (disk_begun_on given) rsp offset size
    read_done session offset size at =
        let is = on_open (disk_asks.Read offset size) (ap (option_and_then ask_of_statement) at) in
        let (bytes, told, long) = is.told in
        record {
          disk = is.disk;
          began = is.began;
          bytes = bytes;
          told = told;
          long = long;
          read = blocks-read statements all history req rsp given is.disk is.began session offset size bytes at told;
        }

    write_done : (session offset size : ℕ) (pattern : Pattern) → request_at statements req ≡ Some (lines.Write session offset size pattern)
        → IsWriteDone history (disk_begun_on given) req
    write_done session offset size pattern at =
        let is = on_open (disk_asks.Write offset (payload_of pattern size)) (ap (option_and_then ask_of_statement) at) in
        record {
          disk = is.disk;
          began = is.began;
          done = write-done statements all history req rsp given is.disk is.began session offset size pattern at fine;
        }

    check_done : (session : ℕ) → request_at statements req ≡ Some (lines.Check session)
        → IsCheckDone history (disk_begun_on given) (has_written given) req rsp
    check_done session at =
        let asked : asked_in statements req ≡ Some (asks.Vdi disk_commands.Check) = ap (option_and_then ask_of_statement) at in
        let is : IsCheckedOnDisk statements (world_asked given) req rsp
        = checked_on_disk statements range (map Happens given.earlier) given.moment (run-events statements given.earlier ∙ given.reached)
        given.event given.made (record { move = Happens given.event; event_so = refl; made_so = given.happens }) req rsp asked
        given.replied (unrefused rsp fine) in
        record {
          disk = is.disk;
          began = is.began;
          found = is.found;
          told = is.told;
          done = check-done statements all history req rsp given is.disk is.began session at fine;
        }

  pub done-on_open_disks : DoneAreOnOpenDisks statements all history
  done-on_open_disks = record { reads = read_done; writes = write_done; checks = check_done }
