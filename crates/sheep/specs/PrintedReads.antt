-- What a report prints as done of reads, writes and checks is done on a disk that the session had open: the history has its events.
use Rattle.std.specs.Prelude.{◌≡◌, ℕ, Bool, true, List, length, Contains, Option, Some}
use Rattle.cluster_script.specs.declared.statement.Pattern.{Pattern}
use Rattle.cluster_script.specs.declared.statement.Statement.{Statement}
use Rattle.cluster_script.specs.declared.statement.Statement.TheVariants as lines
use Rattle.cluster_script.specs.NumberedRequests.{request_at}
use Rattle.disk_history.specs.declared.event.HistEvent.{HistEvent}
use Rattle.disk_history.specs.declared.event.HistEvent.TheVariants.{WriteDone, Read}
use Rattle.peer_proto.specs.declared.guest.Checked.{Checked}
use Rattle.peer_proto.specs.declared.guest.GuestRsp.{GuestRsp}
use Rattle.peer_proto.specs.declared.guest.GuestRsp.TheVariants as replies
use Rattle.peer_proto.specs.declared.guest.GuestRsp.TheVariants.{Piece}
use Rattle.sheep_node.specs.declared.event.Event.{Event}
use Rattle.sheep_world.specs.HistoryAdditions.{each_block}
use Rattle.dog_report.specs.Fates.{Answered}
use Rattle.dog_report.specs.Counts.{is_ok}
use Rattle.sheep.specs.PrintedReplies.{IsGiven, disk_begun_on, has_written, HasPart}

-- a read is done that began on what was open: that is a disk, as many bytes are told as were asked for, and the history has the reads of
-- their blocks of this disk
pub record IsReadDone (history : List HistEvent) (opened : Option ℕ) (rsp : GuestRsp) (offset size : ℕ) : Type 0 where
  pub disk : ℕ
  pub began : opened ≡ Some disk
  pub bytes : List ℕ
  pub told : rsp ≡ Piece bytes
  pub long : length bytes ≡ size
  pub read : HasPart history (each_block (λ block piece. Read disk block piece) offset bytes)

-- so is a write: the history has that it is done
pub record IsWriteDone (history : List HistEvent) (opened : Option ℕ) (req : ℕ) : Type 0 where
  pub disk : ℕ
  pub began : opened ≡ Some disk
  pub done : Contains history (WriteDone req)

-- so is a check: it tells what it found, and if it came to a write, then the history has that it is done
pub record IsCheckDone (history : List HistEvent) (opened : Option ℕ) (written : Bool) (req : ℕ) (rsp : GuestRsp) : Type 0 where
  pub disk : ℕ
  pub began : opened ≡ Some disk
  pub found : Checked
  pub told : rsp ≡ replies.Checked found
  pub done : written ≡ true → Contains history (WriteDone req)

-- each read, write and check of which a run gives a reply that is printed as done is
pub record DoneAreOnOpenDisks (statements : List Statement) (all : List Event) (history : List HistEvent) : Type 0 where
  pub reads : (req : ℕ) (rsp : GuestRsp) (given : IsGiven statements all history req rsp) → is_ok (Answered rsp) ≡ true
      → (session offset size : ℕ) → request_at statements req ≡ Some (lines.Read session offset size)
      → IsReadDone history (disk_begun_on given) rsp offset size
  pub writes : (req : ℕ) (rsp : GuestRsp) (given : IsGiven statements all history req rsp) → is_ok (Answered rsp) ≡ true
      → (session offset size : ℕ) (pattern : Pattern) → request_at statements req ≡ Some (lines.Write session offset size pattern)
      → IsWriteDone history (disk_begun_on given) req
  pub checks : (req : ℕ) (rsp : GuestRsp) (given : IsGiven statements all history req rsp) → is_ok (Answered rsp) ≡ true
      → (session : ℕ) → request_at statements req ≡ Some (lines.Check session)
      → IsCheckDone history (disk_begun_on given) (has_written given) req rsp
