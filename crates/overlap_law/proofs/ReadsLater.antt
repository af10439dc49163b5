-- Where the reads of a node stand by a history they stand by a later one, which keeps what they were told.
use Rattle.std.proofs.Common.{◌≡◌, ℕ, ◌+◌, ◌*◌, ◌<◌, ◌≤◌, Bool, List, ◌++◌, Option, Some, None, refl, sym, ap, subst, ◌∙◌, arith}
use Rattle.std.specs.FinMap as tree
use Rattle.object_id.specs.declared.entry.VdiSpec.{VdiSpec}
use Rattle.disk_history.specs.declared.event.HistEvent.{HistEvent}
use Rattle.disk_history.specs.Ledger as histories
use Rattle.disk_history.specs.Ledger.{Item, Ledger}
use Rattle.inode.specs.Layout.{Content}
use Rattle.vdi_directory.specs.declared.effect.Effect.{Effect}
use Rattle.peer_proto.specs.declared.guest.DiskAsk.TheVariants as disk_asks
use Rattle.guest_driver.specs.declared.disk.Disk.{Disk}
use Rattle.guest_driver.specs.Driver.{Driver, Reads, Writes, Answered}
use Rattle.guest_driver.specs.Extent.{first_index_of}
use Rattle.guest_driver.specs.Pieces.{Piece}
use Rattle.sheep_node.specs.declared.ask.Ask.{Ask}
use Rattle.sheep_node.specs.declared.ask.Ask.TheVariants as asks
use Rattle.sheep_node.specs.declared.course.Course.{Course}
use Rattle.sheep_node.specs.declared.course.Course.TheVariants.{Waiting, Driving, Commanding, Checking, DoingWork, AwaitingDecision}
use Rattle.sheep_node.specs.declared.course.Request.{Request}
use Rattle.sheep_node.specs.State.{Node, session_at}
use Rattle.overlap_law.specs.Attempts.{AttemptRecord}
use Rattle.overlap_law.specs.Headline.{ledger_of}
use Rattle.overlap_law.specs.Overlap.{CallsFewer}
use Rattle.overlap_law.specs.StandingReads.{IsDriverStanding, IsCourseStanding, ReadsStand, ReadsAreKept, DisksWereThere}
use Rattle.overlap_law.specs.ToldReads.{AllKeepReadsOf, MayStayReadAs, Reading, IsReadUpTo, extent_on}
use Rattle.overlap_law.specs.WrittenBlocks.{IsBlockOfDisk, blocks_per_object, items_at}
use Rattle.overlap_law.proofs.ReadsStay.{stood}

-- ---- by another ledger

module _ (May_be Later : Reading) (ledger later : Ledger) (effects after : List Effect) (good_id good_after : ℕ → Bool) where
  -- a block was one before, and what might be read of it may be
  record WasBlock (vid : ℕ) (spec : VdiSpec) (index unit : ℕ) (disk : histories.Disk) : Type 0 where
    was : histories.Disk
    block : IsBlockOfDisk ledger effects good_id vid was spec index unit
    stays : (bytes : List ℕ) → May_be (items_at was spec index unit) bytes → Later (items_at disk spec index unit) bytes

  -- so it is of each disk that has the block now
  abbrev Keeps : ℕ → VdiSpec → ℕ → ℕ → Type 0
  Keeps vid spec index unit = (disk : histories.Disk) → IsBlockOfDisk later after good_after vid disk spec index unit
      → WasBlock vid spec index unit disk

  told_by : (inode : Content) (offset size index : ℕ) (told : List ℕ)
      → ((k unit : ℕ) → first_index_of (extent_on inode offset size) ≤ k → k < index → Keeps inode.vid inode.spec k unit)
      → IsReadUpTo May_be ledger effects good_id inode (extent_on inode offset size) index told
      → IsReadUpTo Later later after good_after inode (extent_on inode offset size) index told
  told_by inode offset size index told keep is = record {
    long = is.long;
    each = λ k unit disk low less inside block.
        let before = keep k unit low less disk block in
        before.stays _ (is.each k unit before.was low less inside before.block);
  }

  driver_by : (inode : Content) (offset size : ℕ) (driver : Driver)
      → ((told : List ℕ) (piece : Piece) (rest : List Piece) → driver ≡ Reads told piece rest → (k unit : ℕ)
      → first_index_of (extent_on inode offset size) ≤ k → k < piece.index → Keeps inode.vid inode.spec k unit)
      → IsDriverStanding May_be ledger effects good_id inode offset size driver
      → IsDriverStanding Later later after good_after inode offset size driver
  driver_by inode offset size (Reads told piece rest) keep is = (
    is.0,
    is.1,
    λ act.
        let (index, at, same, behind, up) = is.2 act in
        let place : piece.index ≡ index = ap (λ (p : Piece). p.index) same in (
          index,
          at,
          same,
          behind,
          told_by inode offset size index told (λ k unit low less. keep told piece rest refl k unit low (omega (arith, less, place))) up,
        ),
  )
  driver_by inode offset size (Writes payload stage piece rest) keep is = absurd is
  driver_by inode offset size Answered keep is = tt

  course_by : (asked : Option Ask) (opened : Option Disk) (course : Course)
      → ((offset size : ℕ) (told : List ℕ) (piece : Piece) (rest : List Piece) (disk : Disk)
      → asked ≡ Some (asks.Disk (disk_asks.Read offset size)) → course ≡ Driving (Reads told piece rest) → opened ≡ Some disk
      → (k unit : ℕ) → first_index_of (extent_on disk.inode offset size) ≤ k → k < piece.index
      → Keeps disk.inode.vid disk.inode.spec k unit)
      → IsCourseStanding May_be ledger effects good_id asked opened course
      → IsCourseStanding Later later after good_after asked opened course
  course_by asked opened (Waiting ask) keep is = is
  course_by asked None (Driving driver) keep is = is
  course_by asked (Some disk) (Driving driver) keep (disk_asks.Write offset payload, asks_so, is) =
      (disk_asks.Write offset payload, asks_so, tt)
  course_by asked (Some disk) (Driving driver) keep (disk_asks.Read offset size, asks_so, is) = (
    disk_asks.Read offset size,
    asks_so,
    driver_by disk.inode offset size driver (λ told piece rest same. keep offset size told piece rest disk asks_so (ap Driving same) refl)
        is,
  )
  course_by asked opened (Commanding op) keep is = is
  course_by asked opened (Checking check) keep is = is
  course_by asked opened (DoingWork work) keep is = is
  course_by asked opened (AwaitingDecision entry) keep is = is

  stand_by : (asked : ℕ → Option Ask) (node : Node)
      → ((req offset size : ℕ) (request : Request) (told : List ℕ) (piece : Piece) (rest : List Piece) (disk : Disk)
      → tree.get node.requests req ≡ Some request → request.course ≡ Driving (Reads told piece rest)
      → asked req ≡ Some (asks.Disk (disk_asks.Read offset size)) → (session_at request.session node).disk ≡ Some disk
      → (k unit : ℕ) → first_index_of (extent_on disk.inode offset size) ≤ k → k < piece.index
      → Keeps disk.inode.vid disk.inode.spec k unit)
      → ReadsStand May_be ledger effects good_id asked node → ReadsStand Later later after good_after asked node
  stand_by asked node kept stand = record {
    each = λ req request got.
        course_by (asked req) (session_at request.session node).disk request.course
        (λ offset size told piece rest disk asks_so course on k unit low less.
        kept req offset size request told piece rest disk got course asks_so on k unit low less)
        (stand.each req request got);
  }

-- ---- by one that has the same disks

module _ (May_be : Reading) (ledger later : Ledger) (effects : List Effect) (good_id : ℕ → Bool)
    (alike : (v : ℕ) → later.disks v ≡ ledger.disks v) where
  pub stand_alike : (asked : ℕ → Option Ask) (node : Node) → ReadsStand May_be ledger effects good_id asked node
      → ReadsStand May_be later effects good_id asked node
  stand_alike asked node stand =
      stand_by May_be May_be ledger later effects effects good_id good_id asked node
      (λ req offset size request told piece rest disk got course asks_so on k unit low less now block. record {
        was = now;
        block = record {
          there = sym (alike disk.inode.vid) ∙ block.there;
          kept = block.kept;
          live = block.live;
          good = block.good;
          made_with = block.made_with;
          object = block.object;
          inside = block.inside;
          block = block.block;
        };
        stays = λ bytes may. may;
      })
      stand

-- ---- of fewer disks

module _ (May_be : Reading) (ledger : Ledger) (effects : List Effect) (many few : ℕ → Bool) (fewer : CallsFewer few many) where
  pub stand_fewer : (asked : ℕ → Option Ask) (node : Node) → ReadsStand May_be ledger effects many asked node
      → ReadsStand May_be ledger effects few asked node
  stand_fewer asked node stand =
      stand_by May_be May_be ledger ledger effects effects many few asked node
      (λ req offset size request told piece rest disk got course asks_so on k unit low less now block. record {
        was = now;
        block = record {
          there = block.there;
          kept = block.kept;
          live = block.live;
          good = fewer disk.inode.vid block.good;
          made_with = block.made_with;
          object = block.object;
          inside = block.inside;
          block = block.block;
        };
        stays = λ bytes may. may;
      })
      stand

-- ---- by a later history

module _ (attempts later : List AttemptRecord)
    (goes : (items : List Item) (bytes : List ℕ) → MayStayReadAs attempts items bytes → MayStayReadAs later items bytes)
    (history grown : List HistEvent) (effects after : List Effect) (good_id : ℕ → Bool) (were : DisksWereThere effects after history) where
  was_block : (vid : ℕ) (spec : VdiSpec) (index unit : ℕ)
      → (unit < blocks_per_object spec
      → AllKeepReadsOf attempts (ledger_of history) vid (index * blocks_per_object spec + unit) grown)
      → Keeps (MayStayReadAs attempts) (MayStayReadAs later) (ledger_of history) (ledger_of (history ++ grown)) effects after good_id
      good_id vid spec index unit
  was_block vid spec index unit keep disk block =
      let before = stood attempts history grown vid (index * blocks_per_object spec + unit) disk (keep block.inside) block.there
      block.kept in
      record {
        was = before.was;
        block = record {
          there = before.there;
          kept = before.kept;
          live = were.live vid before.was before.there before.kept;
          good = block.good;
          made_with = were.made vid before.was spec before.there before.kept block.made_with;
          object = block.object;
          inside = block.inside;
          block = subst (λ (many : ℕ). index * blocks_per_object spec + unit < many) before.blocks block.block;
        };
        stays = λ bytes may. goes (items_at disk spec index unit) bytes (before.stays bytes may);
      }

  pub stand_later : (asked : ℕ → Option Ask) (node : Node) → ReadsAreKept attempts asked history grown node
      → ReadsStand (MayStayReadAs attempts) (ledger_of history) effects good_id asked node
      → ReadsStand (MayStayReadAs later) (ledger_of (history ++ grown)) after good_id asked node
  stand_later asked node kept stand =
      stand_by (MayStayReadAs attempts) (MayStayReadAs later) (ledger_of history) (ledger_of (history ++ grown)) effects after good_id
      good_id asked node
      (λ req offset size request told piece rest disk got course asks_so on k unit low less.
      was_block disk.inode.vid disk.inode.spec k unit
      (λ inside. kept.each req offset size request told piece rest disk got course asks_so on k unit low less inside))
      stand
