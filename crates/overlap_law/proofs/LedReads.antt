-- What a step of a read leads to stands, or replies with all told as is asked of the read's blocks: as it begins, and as it goes on.
use Rattle.std.proofs.Common.{◌≡◌, ℕ, ◌+◌, ◌<◌, ◌≤◌, Bool, false, List, [], ◌∷◌, ◌++◌, length, Option, Some, None, refl, sym, ap, subst}
use Rattle.std.proofs.Common.{◌∙◌}
use Rattle.std.specs.Prelude.{◌==◌}
use Rattle.std.proofs.lemmas.Option.{same_Some}
use Rattle.proof_tools.proofs.Booleans.{cond_either}
use Rattle.object_id.specs.Fields.{zeros}
use Rattle.object_id.specs.declared.cause.Cause.{Cause}
use Rattle.object_id.specs.declared.entry.VdiSpec.{VdiSpec}
use Rattle.object_id.specs.Spec.{IsSpec}
use Rattle.disk_history.specs.Ledger as histories
use Rattle.disk_history.specs.Ledger.{Ledger}
use Rattle.inode.specs.Layout.{Content}
use Rattle.vdi_directory.specs.declared.effect.Effect.{Effect}
use Rattle.peer_proto.specs.declared.guest.DiskAsk.{DiskAsk}
use Rattle.peer_proto.specs.declared.guest.DiskAsk.TheVariants as disk_asks
use Rattle.peer_proto.specs.declared.guest.GuestRsp.{GuestRsp}
use Rattle.peer_proto.specs.declared.guest.GuestRsp.TheVariants as answers
use Rattle.guest_driver.specs.declared.act.DriverAct.TheVariants as driver_acts
use Rattle.guest_driver.specs.declared.disk.Disk.{Disk}
use Rattle.guest_driver.specs.declared.extent.Extent.{Extent}
use Rattle.guest_driver.specs.Driver.{Driver, Reads, Writes, Answered, DriverStep, begin_driver, driver_on_done, read_on, work_step}
use Rattle.guest_driver.specs.PieceWorks.{entry_of, read_piece}
use Rattle.guest_driver.specs.Extent.{IsExtent, Touches, first_index_of, last_index_of, piece_at_index, pieces_from, place_at}
use Rattle.guest_driver.specs.Pieces.{Piece, pieces}
use Rattle.guest_driver.specs.Refusals.{refusal_on}
use Rattle.guest_driver.proofs.BeginLemmas.{asks-blocks, asks-some, begin-read, begin-refused, ends-inside, extent-is}
use Rattle.guest_driver.proofs.ExtentLemmas.{pieces_from-first}
use Rattle.sheep_node.specs.declared.ask.Ask.{Ask}
use Rattle.sheep_node.specs.declared.ask.Ask.TheVariants as asks
use Rattle.sheep_node.specs.declared.course.Course.{Course}
use Rattle.sheep_node.specs.declared.course.Course.TheVariants.{Waiting, Driving, Commanding, Checking, DoingWork, AwaitingDecision}
use Rattle.sheep_node.proofs.WantedSteps.{driver_begins-wanted, driver_goes_on-wanted}
use Rattle.overlap_law.specs.Pieces.{IsInPiece, bytes_for}
use Rattle.overlap_law.specs.StandingReads.{IsDriverStanding, IsAskStanding, IsCourseStanding, IsToldAll}
use Rattle.overlap_law.specs.ToldReads.{Reading, ReadStands, IsReadUpTo, PieceMayBeRead, HolesMayBeRead, extent_on}
use Rattle.overlap_law.specs.WrittenBlocks.{IsBlockOfDisk, items_at}
use Rattle.overlap_law.proofs.ReadsGoOn.{begins, goes_on}

-- ---- a read that goes on replies nothing

abbrev HasNoReplyYet : DriverStep → Type 0
HasNoReplyYet step = (told : List ℕ) (piece : Piece) (rest : List Piece) → step.driver ≡ Reads told piece rest → (reply : GuestRsp)
    → step.act ≡ driver_acts.Reply reply → ⊥

reads_work : (inode : Content) (told : List ℕ) (rest : List Piece) → HasNoReplyYet (read_on inode told rest)
unfolding read_on
reads_work inode told [] = λ so_far piece rest goes reply act. cc (goes)
reads_work inode told (piece ∷ rest) =
    cond_either HasNoReplyYet (entry_of inode piece == 0) (read_on inode (told ++ zeros piece.size) rest)
    (work_step inode (Reads told piece rest) (read_piece inode piece (entry_of inode piece)))
    (reads_work inode (told ++ zeros piece.size) rest) (λ so_far next later goes reply act. cc (act))

begun_works : (disk : Disk) (offset size : ℕ) → refusal_on disk false (disk_asks.Read offset size) ≡ None
    → HasNoReplyYet (begin_driver disk (disk_asks.Read offset size))
begun_works disk offset size unrefused =
    subst HasNoReplyYet (sym (begin-read disk (disk_asks.Read offset size) offset size refl unrefused))
    (reads_work disk.inode [] (pieces disk.inode.spec.shift offset size))

gone_on_works : (inode : Content) (bytes told : List ℕ) (piece : Piece) (rest : List Piece) (step : DriverStep)
    → driver_on_done inode bytes (Reads told piece rest) ≡ Some step → HasNoReplyYet step
unfolding driver_on_done
gone_on_works inode bytes told piece rest step is =
    subst HasNoReplyYet (same_Some (read_on inode (told ++ bytes) rest) step is) (reads_work inode (told ++ bytes) rest)

none_on_answered : (inode : Content) (bytes : List ℕ) (step : DriverStep) → driver_on_done inode bytes Answered ≡ Some step → ⊥
unfolding driver_on_done
none_on_answered inode bytes step is = cc (is)

module _ (May_be : Reading) (ledger : Ledger) (effects : List Effect) (good_id : ℕ → Bool) where
  -- ---- the table of an inode makes no difference

  -- what was told, by the id of a disk and what it was made with
  abbrev IsToldOn : ℕ × VdiSpec → ℕ → ℕ → ℕ → List ℕ → Type 0
  IsToldOn made offset size index told =
      (length told ≡ place_at (record { shift = made.1.shift; offset = offset; size = size }) index)
      × ((k unit : ℕ) (disk : histories.Disk) → first_index_of (record { shift = made.1.shift; offset = offset; size = size }) ≤ k
      → k < index
      → IsInPiece (piece_at_index (record { shift = made.1.shift; offset = offset; size = size }) k) unit
      → IsBlockOfDisk ledger effects good_id made.0 disk made.1 k unit
      → May_be (items_at disk made.1 k unit)
      (bytes_for told (piece_at_index (record { shift = made.1.shift; offset = offset; size = size }) k) unit))

  told_alike : (old new : Content) → new.vid ≡ old.vid → new.spec ≡ old.spec → (offset size index : ℕ) (told : List ℕ)
      → IsReadUpTo May_be ledger effects good_id old (extent_on old offset size) index told
      → IsReadUpTo May_be ledger effects good_id new (extent_on new offset size) index told
  told_alike old new vid spec offset size index told is =
      let now = subst (λ (made : ℕ × VdiSpec). IsToldOn made offset size index told)
      (λ i. ((sym vid) i, (sym spec) i)) (is.long, is.each) in
      record { long = now.0; each = now.1 }

  -- a driver's
  driver_alike : (old new : Content) → new.vid ≡ old.vid → new.spec ≡ old.spec → (offset size : ℕ) (driver : Driver)
      → IsDriverStanding May_be ledger effects good_id old offset size driver
      → IsDriverStanding May_be ledger effects good_id new offset size driver
  driver_alike old new vid spec offset size (Reads told piece rest) is =
      let e : extent_on old offset size ≡ extent_on new offset size
      = ap (λ (s : VdiSpec). record { shift = s.shift; offset = offset; size = size }) (sym spec) in (
        subst IsExtent e is.0,
        subst (λ (s : VdiSpec). offset + size ≤ s.size) (sym spec) is.1,
        λ act.
            let (index, at, same, behind, up) = is.2 act in (
              index,
              subst (λ (x : Extent). Touches x index) e at,
              same ∙ ap (λ (x : Extent). piece_at_index x index) e,
              behind ∙ ap (λ (x : Extent). pieces_from x (index + 1)) e,
              told_alike old new vid spec offset size index told up,
            ),
      )
  driver_alike old new vid spec offset size (Writes payload stage piece rest) is = absurd is
  driver_alike old new vid spec offset size Answered is = tt

  ask_alike : (old new : Content) → new.vid ≡ old.vid → new.spec ≡ old.spec → (ask : DiskAsk) (driver : Driver)
      → IsAskStanding May_be ledger effects good_id old ask driver → IsAskStanding May_be ledger effects good_id new ask driver
  ask_alike old new vid spec (disk_asks.Read offset size) driver is = driver_alike old new vid spec offset size driver is
  ask_alike old new vid spec (disk_asks.Write offset payload) driver is = tt

  module _ (asked : Option Ask) where
    abbrev Stands : Option Disk → Course → Type 0
    Stands opened course = IsCourseStanding May_be ledger effects good_id asked opened course

    pub course_alike : (old new : Disk) → new.inode.vid ≡ old.inode.vid → new.inode.spec ≡ old.inode.spec → (course : Course)
        → Stands (Some old) course → Stands (Some new) course
    course_alike old new vid spec (Waiting ask) is = is
    course_alike old new vid spec (Driving driver) is = (is.0, is.1, ask_alike old.inode new.inode vid spec is.0 driver is.2)
    course_alike old new vid spec (Commanding op) is = is
    course_alike old new vid spec (Checking check) is = is
    course_alike old new vid spec (DoingWork work) is = is
    course_alike old new vid spec (AwaitingDecision entry) is = is

    -- ---- a driver's steps

    -- what a step leads to: the read stands, and its reply tells all
    pub record IsLed (disk : Disk) (step : DriverStep) : Type 0 where
      pub stands : Stands (Some (record disk { inode = step.inode })) (Driving step.driver)
      pub told : (reply : GuestRsp) → step.act ≡ driver_acts.Reply reply → IsToldAll May_be ledger effects good_id disk.inode asked reply

    -- of a read that stands behind the step on the inode as it was before
    led : (disk : Disk) (offset size : ℕ) → asked ≡ Some (asks.Disk (disk_asks.Read offset size)) → (step : DriverStep)
        → step.inode.vid ≡ disk.inode.vid → step.inode.spec ≡ disk.inode.spec → IsExtent (extent_on disk.inode offset size)
        → offset + size ≤ disk.inode.spec.size
        → ReadStands May_be ledger effects good_id disk.inode (extent_on disk.inode offset size) step.driver step.act → HasNoReplyYet step
        → IsLed disk step
    led disk offset size asks_so step vid spec is fits stands works = record {
      stands = (
        disk_asks.Read offset size,
        asks_so,
        driver_alike disk.inode step.inode vid spec offset size step.driver (of_driver step.driver stands),
      );
      told = λ reply act from long told asks_too tells.
          let same : disk_asks.Read offset size ≡ disk_asks.Read from long = cc (asks_so, asks_too) in
          let start : offset ≡ from = cc (same) in
          let many : size ≡ long = cc (same) in
          of_reply step.driver refl stands reply act from long told start many tells;
    }
      where
        of_driver : (driver : Driver)
            → ReadStands May_be ledger effects good_id disk.inode (extent_on disk.inode offset size) driver step.act
            → IsDriverStanding May_be ledger effects good_id disk.inode offset size driver
        of_driver (Reads told piece rest) stands = (is, fits, λ act. stands)
        of_driver (Writes payload stage piece rest) stands = stands
        of_driver Answered stands = tt

        -- a read that goes on replies nothing
        of_reply : (driver : Driver) → step.driver ≡ driver
            → ReadStands May_be ledger effects good_id disk.inode (extent_on disk.inode offset size) driver step.act
            → (reply : GuestRsp) → step.act ≡ driver_acts.Reply reply → (from long : ℕ) (told : List ℕ) → offset ≡ from → size ≡ long
            → reply ≡ answers.Piece told
            → IsExtent (extent_on disk.inode from long) × (from + long ≤ disk.inode.spec.size)
            × IsReadUpTo May_be ledger effects good_id disk.inode (extent_on disk.inode from long)
            (last_index_of (extent_on disk.inode from long) + 1) told
        of_reply (Reads so_far piece rest) goes stands reply act from long told start many tells =
            absurd (works so_far piece rest goes reply act)
        of_reply (Writes payload stage piece rest) goes stands reply act from long told start many tells = absurd stands
        of_reply Answered goes (all, acts, up) reply act from long told start many tells =
            let replies : answers.Piece all ≡ answers.Piece told = cc (acts, act, tells) in
            let bytes : all ≡ told = cc (replies) in
            subst (λ (at : ℕ × ℕ). IsExtent (extent_on disk.inode at.0 at.1) × (at.0 + at.1 ≤ disk.inode.spec.size)
            × IsReadUpTo May_be ledger effects good_id disk.inode (extent_on disk.inode at.0 at.1)
            (last_index_of (extent_on disk.inode at.0 at.1) + 1) told)
            (λ i. (start i, many i)) (
              is,
              fits,
              subst (λ (list : List ℕ). IsReadUpTo May_be ledger effects good_id disk.inode (extent_on disk.inode offset size)
                  (last_index_of (extent_on disk.inode offset size) + 1) list) bytes up,
            )

    -- ---- a request begins

    pub begins_led : (disk : Disk) (ask : DiskAsk) → IsSpec disk.inode.spec
        → ((offset size : ℕ) → ask ≡ disk_asks.Read offset size
        → HolesMayBeRead May_be ledger effects good_id disk.inode (pieces disk.inode.spec.shift offset size))
        → Stands (Some disk) (Waiting ask) → IsLed disk (begin_driver disk ask)
    begins_led disk (disk_asks.Write offset payload) sound holes waits = record {
      stands = (disk_asks.Write offset payload, waits.0, tt);
      told = λ reply act from long told asks_too tells.
          let none : disk_asks.Write offset payload ≡ disk_asks.Read from long = cc (waits.0, asks_too) in
          absurd (cc (none));
    }
    begins_led disk (disk_asks.Read offset size) sound holes waits =
        by_refusal (refusal_on disk false (disk_asks.Read offset size)) refl
      where
        ask : DiskAsk
        ask = disk_asks.Read offset size

        wanted_vid : (begin_driver disk ask).inode.vid ≡ disk.inode.vid
        wanted_vid = (driver_begins-wanted disk ask).vid

        wanted_spec : (begin_driver disk ask).inode.spec ≡ disk.inode.spec
        wanted_spec = (driver_begins-wanted disk ask).spec

        by_refusal : (o : Option Cause) → refusal_on disk false ask ≡ o → IsLed disk (begin_driver disk ask)
        by_refusal None unrefused =
            let extent = extent-is disk.inode.spec disk.inode.spec.shift offset size sound refl (asks-some ask waits.1)
            (asks-blocks ask waits.1) (ends-inside disk ask unrefused) in
            led disk offset size waits.0 (begin_driver disk ask) wanted_vid wanted_spec extent (ends-inside disk ask unrefused)
            (subst (λ (step : DriverStep).
            ReadStands May_be ledger effects good_id disk.inode (extent_on disk.inode offset size) step.driver step.act)
            (sym (begin-read disk ask offset size refl unrefused
            ∙ ap (read_on disk.inode []) (pieces_from-first (extent_on disk.inode offset size))))
            (begins May_be ledger effects good_id disk.inode (extent_on disk.inode offset size) extent
            (subst (HolesMayBeRead May_be ledger effects good_id disk.inode) (pieces_from-first (extent_on disk.inode offset size))
            (holes offset size refl))))
            (begun_works disk offset size unrefused)
        by_refusal (Some cause) refused =
            let is = begin-refused disk ask cause refused in
            subst (λ (step : DriverStep). IsLed disk step) (sym is) (record {
              stands = (ask, waits.0, tt);
              told = λ reply act from long told asks_too tells.
                  let never : answers.Refused cause ≡ answers.Piece told = cc (act, tells) in
                  absurd (cc (never));
            })

    -- ---- a request goes on

    pub goes_led : (disk : Disk) (bytes : List ℕ) (driver : Driver) (step : DriverStep) → driver_on_done disk.inode bytes driver ≡ Some step
        → ((told : List ℕ) (piece : Piece) (rest : List Piece) → driver ≡ Reads told piece rest
        → PieceMayBeRead May_be ledger effects good_id disk.inode piece bytes
        × HolesMayBeRead May_be ledger effects good_id disk.inode rest)
        → Stands (Some disk) (Driving driver) → IsLed disk step
    goes_led disk bytes driver step is pieces_so (disk_asks.Write offset payload, asks_so, stands) = record {
      stands = (disk_asks.Write offset payload, asks_so, tt);
      told = λ reply act from long told asks_too tells.
          let none : disk_asks.Write offset payload ≡ disk_asks.Read from long = cc (asks_so, asks_too) in
          absurd (cc (none));
    }
    goes_led disk bytes driver step is pieces_so (disk_asks.Read offset size, asks_so, stands) = by_driver driver is pieces_so stands
      where
        by_driver : (driver : Driver) → driver_on_done disk.inode bytes driver ≡ Some step
            → ((told : List ℕ) (piece : Piece) (rest : List Piece) → driver ≡ Reads told piece rest
            → PieceMayBeRead May_be ledger effects good_id disk.inode piece bytes
            × HolesMayBeRead May_be ledger effects good_id disk.inode rest)
            → IsDriverStanding May_be ledger effects good_id disk.inode offset size driver → IsLed disk step
        by_driver (Reads told piece rest) is pieces_so stands =
            let wanted = driver_goes_on-wanted disk.inode bytes (Reads told piece rest) step is in
            led disk offset size asks_so step wanted.vid wanted.spec stands.0 stands.1
            (goes_on May_be ledger effects good_id disk.inode (extent_on disk.inode offset size) stands.0 told bytes piece rest step
            (stands.2 step.act) (pieces_so told piece rest refl).0 (pieces_so told piece rest refl).1 is)
            (gone_on_works disk.inode bytes told piece rest step is)
        by_driver (Writes payload stage piece rest) is pieces_so stands = absurd stands
        by_driver Answered is pieces_so stands = absurd (none_on_answered disk.inode bytes step is)
