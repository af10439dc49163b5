-- The replies that a report prints, and the events of its run that gave them.
use Rattle.std.specs.Prelude.{◌≡◌, ℕ, Bool, List, ◌∷◌, ◌++◌, Contains, Option, Some, None}
use Rattle.cluster_script.specs.declared.statement.Statement.{Statement}
use Rattle.disk_history.specs.declared.event.HistEvent.{HistEvent}
use Rattle.peer_proto.specs.declared.guest.GuestRsp.{GuestRsp}
use Rattle.sheep_node.specs.declared.event.Event.{Event}
use Rattle.sheep_node.specs.declared.event.Event.TheVariants as events
use Rattle.sheep_node.specs.declared.check_write.CheckWrite.{CheckWrite}
use Rattle.sheep_world.specs.World.{World}
use Rattle.sheep_world.specs.Step.{EventOutcome, step}
use Rattle.sheep_world.specs.HistoryAdditions.{check_write_by, disk_of, has_begun_check_write, reply_grown}
use Rattle.sheep_world.specs.Run.{Moment, run}
use Rattle.overlap_law.specs.DoneOnDisks.{world_without_reply}
use Rattle.dog_report.specs.Fates.{ReportLine, Answered, Told}
use Rattle.dog_report.specs.Report.{report_of}

-- An event of a run gives a reply: the events before it led to a moment, there it happens, and the world that it makes replies so. The
-- history of the run is that of the moment, then what the event added, then more.
pub record IsGiven (statements : List Statement) (all : List Event) (history : List HistEvent) (req : ℕ) (rsp : GuestRsp) : Type 0 where
  pub earlier : List Event
  pub event : Event
  pub later : List Event
  pub among : all ≡ earlier ++ event ∷ later
  pub moment : Moment
  pub reached : run statements earlier ≡ Some moment
  pub made : EventOutcome
  pub happens : step statements event moment.world ≡ Some made
  pub replied : Contains made.world.outputs.replies (req, rsp)
  pub more : List HistEvent
  pub kept : history ≡ moment.history ++ made.grown ++ more

-- lines tell of a request that it has this reply
abbrev pub HasReplyLine : List ReportLine → ℕ → GuestRsp → Type 0
HasReplyLine lines req rsp = Contains lines (Told req (Answered rsp))

-- the report of a run prints the replies that its events gave, each of them and no others
pub record PrintsReplies (statements : List Statement) (all : List Event) (history : List HistEvent) : Type 0 where
  pub given : (req : ℕ) (rsp : GuestRsp) → HasReplyLine (report_of statements all) req rsp → IsGiven statements all history req rsp
  pub printed : (req : ℕ) (rsp : GuestRsp) → IsGiven statements all history req rsp → HasReplyLine (report_of statements all) req rsp

-- ---- what a reply that was given added to the history

-- the write that a check comes to by an event
abbrev pub check_write_at : Event → World → World → Option CheckWrite
check_write_at (events.Deliver node number) before after = check_write_by (record { sender = node; number = number }) before after
check_write_at event before after = None

module _ {statements : List Statement} {all : List Event} {history : List HistEvent} {req : ℕ} {rsp : GuestRsp}
    (given : IsGiven statements all history req rsp) where
  -- the world at the event
  abbrev pub world_asked : World
  world_asked = world_without_reply statements given.event given.moment.world

  -- the disk on which the request began, if it began on one
  abbrev pub disk_begun_on : Option ℕ
  disk_begun_on = disk_of statements req world_asked

  -- whether the request is a check that had come to a write by then, or comes to one by the event
  abbrev pub has_written : Bool
  has_written = has_begun_check_write statements req world_asked (check_write_at given.event given.moment.world given.made.world)

  -- what the reply added
  abbrev pub reply_added : List HistEvent
  reply_added = reply_grown statements world_asked (check_write_at given.event given.moment.world given.made.world) (req, rsp)

-- a list has another one in it, all of it in a row
pub record HasPart {X : Type 0} (whole part : List X) : Type 0 where
  pub before : List X
  pub behind : List X
  pub parted : whole ≡ before ++ part ++ behind
