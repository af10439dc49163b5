-- In every run in range no block of an object that a check hasn't compared yet is being written: who writes it is of the check's session,
-- which holds the disk, and in which the check is alone; and the check has begun no write of the block.
use Rattle.std.proofs.Common.{◌≡◌, inr, ℕ, ◌*◌, ◌<◌, ◌≤◌, true, false, Contains, List, Option, Some, refl, sym, ap, subst, ◌∙◌}
use Rattle.std.specs.Prelude.{slice_get}
use Rattle.std.specs.List.{list_any}
use Rattle.std.specs.Option.{option_map_or}
use Rattle.std.specs.FinMap as tree
use Rattle.std.proofs.lemmas.Bool.{both_ways, lt-ltb}
use Rattle.std.proofs.lemmas.Option.{same_Some}
use Rattle.cluster_script.specs.declared.statement.Statement.{Statement}
use Rattle.cluster_script.specs.NumberedRequests.{request_at}
use Rattle.cluster_script.specs.Statements.{is_check}
use Rattle.disk_check.specs.Check.{Check, left_of}
use Rattle.disk_history.specs.Ledger as histories
use Rattle.disk_history.specs.Ledger.{has_block, is_item_of}
use Rattle.disk_history.specs.Changes.{items_in}
use Rattle.disk_lock.specs.declared.holder.Holder.{Holder}
use Rattle.guest_driver.specs.declared.disk.Disk.{Disk}
use Rattle.sheep_node.specs.declared.course.Course.TheVariants.{Checking}
use Rattle.sheep_node.specs.declared.course.Request.{Request}
use Rattle.sheep_node.specs.SessionQueues.{session_among}
use Rattle.sheep_world.specs.Began.{Began}
use Rattle.sheep_world.specs.World.{Host}
use Rattle.sheep_world.specs.RunsWithAsks.{Move}
use Rattle.vdi_directory.specs.Decisions.{log_effects}
use Rattle.vdi_directory.specs.Effects.{holder_of}
use Rattle.overlap_law.specs.Headline.{ledger_of}
use Rattle.overlap_law.specs.MomentChanges.{RunsAreInRange}
use Rattle.overlap_law.specs.Past.{MomentWithPast, run_with_past}
use Rattle.overlap_law.specs.SoundItems.{IsUnderWayOn}
use Rattle.overlap_law.specs.SoundUnwritten.{IsBeingWritten}
use Rattle.overlap_law.specs.ToldReads.{begins_write_at}
use Rattle.overlap_law.specs.Writers.{session_holder}
use Rattle.overlap_law.specs.WrittenBlocks.{blocks_per_object}
use Rattle.overlap_law.proofs.AheadInRuns.{checks-in_run}
use Rattle.overlap_law.proofs.CausedWorks.{HasWellWorks}
use Rattle.overlap_law.proofs.CheckReadsItems.{unbegun_none-in_run}
use Rattle.overlap_law.proofs.DisksOfWriters.{IsWriterAt, no_command}
use Rattle.overlap_law.proofs.HoldersInWorlds.{working_held}
use Rattle.overlap_law.proofs.ItemsStayOpen.{own_item}
use Rattle.overlap_law.proofs.NoRecoveredDue.{began-with_past}
use Rattle.overlap_law.proofs.SoundAlike.{any_at}
use Rattle.overlap_law.proofs.SoundInRuns.{item_writer, open_under_way-in_run}
use Rattle.overlap_law.proofs.StandingItems.{stands_among}
use Rattle.overlap_law.proofs.WorksInMoments.{well_in_world}

module _ (script : List Statement) (range : RunsAreInRange script) (events : List Move) (moment : MomentWithPast)
    (run : run_with_past script events ≡ Some moment) (n : ℕ) (host : Host) (there : tree.get moment.world.hosts n ≡ Some host)
    (up : host.is_lost ≡ false) (req session : ℕ) (check : Check)
    (got : tree.get host.node.requests req ≡ Some (record { session = session; course = Checking check }))
    (checks : option_map_or is_check (request_at script req) false ≡ true) (opened : Disk)
    (on_disk : (session_among session host.node.sessions).disk ≡ Some opened) (working : opened.snapshot ≡ false)
    (vid_so : check.vid ≡ opened.inode.vid) where
  began : Began script moment.world
  began = began-with_past script events moment run

  abbrev request : Request
  request = record { session = session; course = Checking check }

  writer : IsWriterAt script req
  writer = inr checks

  well : HasWellWorks host.node
  well = well_in_world script range moment.world began n host there

  -- its session holds the disk
  own_held : holder_of (log_effects moment.world.log) opened.inode.vid ≡ Some (session_holder n session)
  own_held =
      working_held script range moment.world began n host there up session opened on_disk working
      (no_command script range moment.world began n host there req request got writer)

  module _ (index block : ℕ) (ahead : Contains (left_of check.stage) index) (from : index * blocks_per_object check.spec ≤ block)
      (disk : histories.Disk) (known : (ledger_of moment.past.history).disks opened.inode.vid ≡ Some disk) (below : block < disk.blocks)
      (being : IsBeingWritten moment.past.attempts (disk.items block)) where
    abbrev q : ℕ
    q = being.attempt.req

    found : (at : ℕ) × (slice_get (disk.items block) at ≡ Some being.item)
    found = stands_among (disk.items block) being.place being.item being.among

    its : is_item_of being.attempt.req being.item ≡ true
    its = own_item being.attempt.req being.item being.of

    way : IsUnderWayOn moment.world.hosts being.attempt.req opened.inode.vid
    way =
        let all = open_under_way-in_run script range events moment run in
        all.each q opened.inode.vid block found.0 disk being.item known below found.1 its
        (all.unended q opened.inode.vid block found.0 disk being.item known found.1 its being.mark)

    its_writer : IsWriterAt script being.attempt.req
    its_writer = item_writer script range events moment run q opened.inode.vid block found.0 disk being.item known below found.1 its

    held : holder_of (log_effects moment.world.log) opened.inode.vid ≡ Some (session_holder way.n way.way.request.session)
    held =
        ap (holder_of (log_effects moment.world.log)) (sym way.on)
        ∙ working_held script range moment.world began way.n way.host way.there way.up way.way.request.session way.opened way.way.on
        way.way.working (no_command script range moment.world began way.n way.host way.there q way.way.request way.way.there its_writer)

    -- so who writes it is of the same session
    same_holder : session_holder way.n way.way.request.session ≡ session_holder n session
    same_holder = same_Some (session_holder way.n way.way.request.session) (session_holder n session) (sym held ∙ own_held)

    node_so : way.n ≡ n
    node_so = ap (λ (h : Holder). h.node.0) same_holder

    session_so : way.way.request.session ≡ session
    session_so = ap (λ (h : Holder). h.session) same_holder

    host_so : way.host ≡ host
    host_so = same_Some way.host host (sym way.there ∙ ap (tree.get moment.world.hosts) node_so ∙ there)

    got_too : tree.get host.node.requests being.attempt.req ≡ Some way.way.request
    got_too = ap (λ (h : Host). tree.get h.node.requests q) (sym host_so) ∙ way.way.there

    -- it is the check itself
    same : being.attempt.req ≡ req
    same = well.alone.alone session req q way.way.request (well.alone.named req request got refl) got_too session_so

    -- which has begun no write of the block
    unbegun : list_any (begins_write_at req opened.inode.vid block) moment.past.history ≡ false
    unbegun =
        subst (λ (vid : ℕ). list_any (begins_write_at req vid block) moment.past.history ≡ false) vid_so
        ((checks-in_run script range events moment run).each n host there req session check got index block ahead from)

    none : list_any (is_item_of req) (disk.items block) ≡ false
    none =
        ap (λ (o : Option histories.Disk). list_any (is_item_of req) (items_in o block)) (sym known)
        ∙ unbegun_none-in_run script range req writer events moment run n host there up opened
        (record { request = request; there = got; on = on_disk; working = working }) block unbegun
        (ap (λ (o : Option histories.Disk). has_block o block) known ∙ lt-ltb block disk.blocks below)

    pub unwritten : ⊥
    unwritten =
        both_ways (list_any (is_item_of req) (disk.items block)) none
        (any_at (is_item_of req) (disk.items block) found.0 being.item found.1
        (ap (λ (k : ℕ). is_item_of k being.item) (sym same) ∙ its))
