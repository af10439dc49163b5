-- What a reply adds to the history is told so that it stays, if it tells all of its read so; and a reply to a read is one of a read that
-- begins or goes on.
use Rattle.std.proofs.Common.{◌≡◌, ⊎_elim, ℕ, Bool, true, false, List, [], ◌∷◌, Option, None, Some, refl, sym, ap, ◌∙◌}
use Rattle.std.specs.Option.{option_and_then}
use Rattle.cluster_script.specs.declared.statement.Statement.{Statement}
use Rattle.cluster_script.specs.declared.statement.Statement.TheVariants as lines
use Rattle.cluster_script.specs.NumberedRequests.{request_at}
use Rattle.disk_history.specs.Ledger.{Ledger}
use Rattle.guest_driver.specs.declared.disk.Disk.{Disk}
use Rattle.peer_proto.specs.declared.guest.DiskAsk.{DiskAsk}
use Rattle.peer_proto.specs.declared.guest.DiskAsk.TheVariants as disk_asks
use Rattle.peer_proto.specs.declared.guest.GuestRsp.{GuestRsp}
use Rattle.peer_proto.specs.declared.guest.GuestRsp.TheVariants as answers
use Rattle.vdi_directory.specs.declared.effect.Effect.{Effect}
use Rattle.sheep_node.specs.declared.ask.Ask.{Ask}
use Rattle.sheep_node.specs.declared.ask.Ask.TheVariants as asks
use Rattle.sheep_node.specs.declared.course.Course.{Course}
use Rattle.sheep_node.specs.declared.course.Course.TheVariants.{Waiting, Driving, Commanding, Checking, DoingWork, AwaitingDecision}
use Rattle.sheep_node.specs.declared.input.Input.{Input}
use Rattle.sheep_node.specs.declared.input.Input.TheVariants as inputs
use Rattle.sheep_node.specs.Changes.{HasRequest, Outcome, RequestSteps, DiskBegins, DiskGoesOn, CommandBegins, CommandGoesOn}
use Rattle.sheep_node.specs.Changes.{CommandDecided}
use Rattle.sheep_node.specs.Changes.{CheckBegins, CheckGoesOn, ObjectBegins, ObjectIsDone, EntryBegins, EntryDecided}
use Rattle.sheep_node.specs.May.{is_disk_course}
use Rattle.sheep_node.specs.State.{Node}
use Rattle.sheep_node.specs.StepState.{StepState}
use Rattle.sheep_world.specs.Asking.{ask_of_statement}
use Rattle.sheep_world.specs.ClientAsks.{is_read_ask}
use Rattle.sheep_world.specs.HistoryAdditions.{added_by, blocks_read, reply_adds, write_ended}
use Rattle.overlap_law.specs.StandingReads.{asked_in, IsBroughtBy, IsToldAll, ReadsStand}
use Rattle.overlap_law.specs.ToldReads.{IsDiskOf, Reading}
use Rattle.overlap_law.proofs.ToldBlocks.{AreReadAs, all_read}
use Rattle.std.proofs.lemmas.Option.{same_Some}

-- ---- what a reply adds

module _ (script : List Statement) (May_be : Reading) (ledger : Ledger) (good_id : ℕ → Bool) (req : ℕ) where
  -- an end reads nothing
  end_read : (rsp : GuestRsp) → AreReadAs May_be ledger good_id (write_ended req rsp ∷ [])
  end_read answers.Done = (tt, tt)
  end_read (answers.Piece bytes) = (tt, tt)
  end_read (answers.Refused cause) = (tt, tt)
  end_read (answers.Granted vid) = (tt, tt)
  end_read (answers.Checked found) = (tt, tt)

  -- so it is if a read reads so
  line_read : (written : Bool) (rsp : GuestRsp) (vid : ℕ) (line : Statement) → request_at script req ≡ Some line
      → ((session offset size : ℕ) → request_at script req ≡ Some (lines.Read session offset size)
      → AreReadAs May_be ledger good_id (blocks_read vid offset rsp))
      → AreReadAs May_be ledger good_id (reply_adds written req rsp vid line)
  line_read written rsp vid (lines.Read session offset size) at reads = reads session offset size at
  line_read written rsp vid (lines.Write session offset size pattern) at reads = end_read rsp
  line_read true rsp vid (lines.Check session) at reads = end_read rsp
  line_read false rsp vid (lines.Check session) at reads = tt
  line_read written rsp vid line at reads = tt

  pub reply_read : (written : Bool) (rsp : GuestRsp) (began : Option ℕ) (o : Option Statement) → request_at script req ≡ o
      → ((vid session offset size : ℕ) → began ≡ Some vid → request_at script req ≡ Some (lines.Read session offset size)
      → AreReadAs May_be ledger good_id (blocks_read vid offset rsp))
      → AreReadAs May_be ledger good_id (added_by written req rsp began o)
  reply_read written rsp None o at reads = tt
  reply_read written rsp (Some vid) None at reads = tt
  reply_read written rsp (Some vid) (Some line) at reads =
      line_read written rsp vid line at (λ session offset size is. reads vid session offset size refl is)

  -- it does, where it tells all of itself
  pub read_read : (effects : List Effect) (disk : Disk) → IsDiskOf ledger effects disk.inode → (session offset size : ℕ)
      → request_at script req ≡ Some (lines.Read session offset size) → (reply : GuestRsp)
      → IsToldAll May_be ledger effects good_id disk.inode (asked_in script req) reply
      → (rsp : GuestRsp) → reply ≡ rsp → AreReadAs May_be ledger good_id (blocks_read disk.inode.vid offset rsp)
  read_read effects disk of session offset size at reply all answers.Done is = tt
  read_read effects disk of session offset size at reply all (answers.Piece told) is =
      let asked : asked_in script req ≡ Some (asks.Disk (disk_asks.Read offset size)) = ap (option_and_then ask_of_statement) at in
      let now = all offset size told asked is in
      all_read May_be ledger effects good_id disk.inode offset size now.0 now.1 of told now.2
  read_read effects disk of session offset size at reply all (answers.Refused cause) is = tt
  read_read effects disk of session offset size at reply all (answers.Granted vid) is = tt
  read_read effects disk of session offset size at reply all (answers.Checked found) is = tt

-- ---- whose reply it is

-- a read or write is there that hasn't ended
pub record IsOfReadOrWrite (so_far : StepState) (session req : ℕ) : Type 0 where
  pub course : Course
  pub there : HasRequest session req course so_far
  pub is_disk : is_disk_course course ≡ true

module _ (May_be : Reading) (ledger : Ledger) (effects : List Effect) (good_id : ℕ → Bool) (asked : ℕ → Option Ask) (input : Input)
    (node : Node) (so_far : StepState)
    (brought : (req session : ℕ) (ask : Ask) → input ≡ inputs.Guest req session ask → IsBroughtBy asked req ask)
    (stand : ReadsStand May_be ledger effects good_id asked so_far.node) where
  -- where a read or write is asked under its number, what comes is that
  comes_as : (session req : ℕ) (own : Ask) → input ≡ inputs.Guest req session own → (ask : DiskAsk) → asked req ≡ Some (asks.Disk ask)
      → own ≡ asks.Disk ask
  comes_as session req own from ask is = ⊎_elim
      (λ (so : asked req ≡ Some own). same_Some own (asks.Disk ask) (sym so ∙ is))
      (λ (none : (asked req ≡ None) × (is_read_ask own ≡ true)). let nothing = none.0 in absurd (cc (nothing, is)))
      (brought req session own from)

  pub of_read_or_write : (session req : ℕ) (next : Outcome) (moved : StepState) → RequestSteps input node so_far session req next moved
      → (ask : DiskAsk) → asked req ≡ Some (asks.Disk ask) → IsOfReadOrWrite so_far session req
  of_read_or_write session req next moved (DiskBegins own disk there on runs) ask is =
      record { course = Waiting own; there = there; is_disk = refl }
  of_read_or_write session req next moved (DiskGoesOn number work attempt status bytes driver disk step ends on done) ask is =
      record { course = Driving driver; there = ends.ends.request; is_disk = refl }
  of_read_or_write session req next moved (CommandBegins own step arrival begun) ask is =
      let so = comes_as session req (asks.Vdi own) arrival.from ask is in absurd (cc (so))
  of_read_or_write session req next moved (CommandGoesOn number work attempt status bytes op step ends done) ask is =
      absurd (stand.each req (record { session = session; course = Commanding op }) ends.ends.request ask is)
  of_read_or_write session req next moved (CommandDecided entry op step from read there waits done) ask is =
      absurd (stand.each req (record { session = session; course = Commanding op }) there ask is)
  of_read_or_write session req next moved (CheckBegins inode arrival on) ask is =
      let so = comes_as session req _ arrival.from ask is in absurd (cc (so))
  of_read_or_write session req next moved (CheckGoesOn number work attempt status bytes check step ends done) ask is =
      absurd (stand.each req (record { session = session; course = Checking check }) ends.ends.request ask is)
  of_read_or_write session req next moved (ObjectBegins object arrival) ask is =
      let so = comes_as session req (asks.Object object) arrival.from ask is in absurd (cc (so))
  of_read_or_write session req next moved (ObjectIsDone number work attempt status bytes object ends) ask is =
      absurd (stand.each req (record { session = session; course = DoingWork object }) ends.ends.request ask is)
  of_read_or_write session req next moved (EntryBegins entry arrival) ask is =
      let so = comes_as session req (asks.Entry entry) arrival.from ask is in absurd (cc (so))
  of_read_or_write session req next moved (EntryDecided entry wanted from read there waits) ask is =
      absurd (stand.each req (record { session = session; course = AwaitingDecision wanted }) there ask is)
