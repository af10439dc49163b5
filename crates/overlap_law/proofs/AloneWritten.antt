-- In each run in range, at the end of every event: of each block that a write has behind it, the disk's inode has the own entry alone, and
-- each outcome has the bytes of the write's item.
use Rattle.std.proofs.Common.{◌≡◌, ℕ, ◌<◌, ◌==◌, ◌||◌, Bool, true, false, List, [], ◌∷◌, length, Option, Some, None, slice_index, slice_get}
use Rattle.std.proofs.Common.{refl}
use Rattle.std.proofs.Common.{sym, ap, subst, ◌∙◌}
use Rattle.std.specs.List.{list_all, list_any}
use Rattle.std.specs.FinMap as tree
use Rattle.disk_history.specs.Ledger.{Item, is_item_of}
use Rattle.disk_history.specs.Ledger as histories
use Rattle.cluster_script.specs.declared.statement.Statement.{Statement}
use Rattle.vdi_directory.specs.Decisions.{log_effects}
use Rattle.guest_driver.specs.declared.disk.Disk.{Disk}
use Rattle.guest_driver.specs.Driver.{Writes, DriverStage}
use Rattle.guest_driver.specs.Pieces.{Piece}
use Rattle.sheep_node.specs.declared.course.Course.TheVariants.{Driving}
use Rattle.sheep_node.specs.declared.course.Request.{Request}
use Rattle.sheep_world.specs.World.{Host}
use Rattle.sheep_world.specs.RunsWithAsks.{Move}
use Rattle.overlap_law.specs.AloneEntries.{IsOwnByTable}
use Rattle.overlap_law.specs.Headline.{ledger_of}
use Rattle.overlap_law.specs.Holders.{is_available_disk}
use Rattle.overlap_law.specs.MomentChanges as moments
use Rattle.overlap_law.specs.MomentChanges.{RunsAreInRange}
use Rattle.overlap_law.specs.Past.{MomentWithPast, run_with_past}
use Rattle.overlap_law.specs.Pieces.{IsOn, WhatIsWrittenIsAlone}
use Rattle.overlap_law.specs.Tables.{AreAmong, candidates, TablesAreTheInodes}
use Rattle.overlap_law.specs.WrittenBlocks.{IsBlockOfDisk, items_at}
use Rattle.overlap_law.proofs.AloneHolders.{write_yet}
use Rattle.overlap_law.proofs.AloneInRuns.{own-in_run}
use Rattle.overlap_law.proofs.AlonePieces.{items_of_pieces-in_run}
use Rattle.overlap_law.proofs.BlocksOfAnyDisk.{live_alive}
use Rattle.overlap_law.proofs.CreatesFirst.{session_of}
use Rattle.overlap_law.proofs.WrittenOutcomes.{bytes_alone, is_before}

-- an id told twice is told once
told_once : (b : Bool) → (b || (b || false)) ≡ (b || false)
told_once true = refl
told_once false = refl

among_once : (vid : ℕ) (o : Option (List ℕ)) → AreAmong (vid ∷ vid ∷ []) o → AreAmong (vid ∷ []) o
among_once vid None is = is
among_once vid (Some entries) is = sym (λ i. list_all (λ (entry : ℕ). told_once (vid == entry) i) entries) ∙ is

module _ (script : List Statement) (range : RunsAreInRange script) (events : List Move) (moment : MomentWithPast)
    (ran : run_with_past script events ≡ Some moment) (good_id : ℕ → Bool)
    (tables : TablesAreTheInodes (log_effects moment.world.log) good_id moment.world.hosts moment.past.attempts) where
  module _ (n : ℕ) (host : Host) (at_host : tree.get moment.world.hosts n ≡ Some host) (up : host.is_lost ≡ false)
      (req index unit place : ℕ) (request : Request) (opened : Disk) (disk : histories.Disk) (item : Item) (payload : List ℕ)
      (stage : DriverStage) (piece : Piece) (rest : List Piece)
      (on : IsOn (ledger_of moment.past.history) host.node req request opened disk)
      (course : request.course ≡ Driving (Writes payload stage piece rest)) (less : index < piece.index)
      (block : IsBlockOfDisk (ledger_of moment.past.history) (log_effects moment.world.log) good_id opened.inode.vid disk
      opened.inode.spec index unit) (got : slice_get (items_at disk opened.inode.spec index unit) place ≡ Some item)
      (own : is_item_of req item ≡ true) where
    -- the object is the disk's own by the table
    own_object : IsOwnByTable opened.inode index
    own_object =
        let behind = (own-in_run script range events moment moment ran moments.Still).each n host at_host up req request opened payload
        stage
        piece rest on.there on.on course in
        let is = (items_of_pieces-in_run script range events moment ran).each n host at_host up req index unit place behind.offset request
        opened disk item payload stage piece rest behind.before on course behind.cut block.inside got own in
        subst (IsOwnByTable opened.inode) is.at
        (behind.each is.one
        (is_before opened.inode.spec.shift behind.offset (length payload) behind.before rest piece is.one behind.cut is.among
        (subst (λ (k : ℕ). k < piece.index) (sym is.at) less)))

    own_entry : AreAmong (opened.inode.vid ∷ []) (candidates moment.past.attempts opened.inode.vid index)
    own_entry =
        let (session, there, at) = session_of host.node request.session opened on.on in
        let of_table = tables.each n host at_host up request.session index session opened there at block.good
        (live_alive (log_effects moment.world.log) opened.inode.vid block.live) block.object
        (write_yet script range events moment moment ran moments.Still n host at_host up req request on.there opened on.on payload stage
        piece rest course) in
        among_once opened.inode.vid (candidates moment.past.attempts opened.inode.vid index)
        (subst (λ (entry : ℕ). AreAmong (entry ∷ opened.inode.vid ∷ []) (candidates moment.past.attempts opened.inode.vid index))
        (own_object block.object) of_table.kept)

  pub alone-in_run : WhatIsWrittenIsAlone (ledger_of moment.past.history) (log_effects moment.world.log) good_id moment.world.hosts
      moment.past.attempts
  alone-in_run = record {
    entry = λ n host at_host up req index unit place request opened disk item payload stage piece rest on course less block got own.
        own_entry n host at_host up req index unit place request opened disk item payload stage piece rest on course less block got own;
    bytes = λ n host at_host up req index unit place request opened disk item payload stage piece rest on course less block got own.
        bytes_alone script range events moment moment ran moments.Still (items_of_pieces-in_run script range events moment ran) n host
        at_host up req index unit place request opened disk item payload stage piece rest on course less block.inside got own;
  }
