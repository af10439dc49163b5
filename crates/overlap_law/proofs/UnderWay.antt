-- What holds of the history and the working disk that a write's or check's session has open: an event keeps it at a node that still has the
-- request, if it does so where the disk is the session's and the event doesn't end the request.
use Rattle.std.proofs.Common.{◌≡◌, ℕ, Bool, true, false, List, ◌++◌, Contains, Some, refl, sym, ap, subst, ◌∙◌}
use Rattle.std.specs.List.{list_any}
use Rattle.std.specs.FinMap as tree
use Rattle.std.proofs.lemmas.Option.{same_Some}
use Rattle.disk_history.specs.declared.event.HistEvent.{HistEvent}
use Rattle.object_id.specs.declared.entry.Entry.{Entry}
use Rattle.vdi_ops.specs.Op.{Op}
use Rattle.cluster_script.specs.declared.statement.Statement.{Statement}
use Rattle.guest_driver.specs.declared.disk.Disk.{Disk}
use Rattle.sheep_node.specs.declared.course.Course.TheVariants.{Commanding}
use Rattle.sheep_node.specs.declared.course.Request.{Request}
use Rattle.sheep_node.specs.SessionQueues.{session_among}
use Rattle.sheep_world.specs.declared.progress.StartedRequest.{StartedRequest}
use Rattle.sheep_world.specs.World.{Host, World}
use Rattle.sheep_world.specs.Began.{Began, MakesMove}
use Rattle.sheep_world.specs.Step.{EventOutcome}
use Rattle.sheep_node.specs.declared.event.Event.{Event}
use Rattle.overlap_law.specs.DiskEvents.{is_anothers, ends_write_of, IsUnderWay}
use Rattle.overlap_law.specs.MomentChanges.{RunsAreInRange}
use Rattle.overlap_law.specs.WriterClaims.{IsGivenNoMore}
use Rattle.overlap_law.specs.Writers.{session_holder}
use Rattle.overlap_law.proofs.DiskEventsOfHolders.{event_none}
use Rattle.overlap_law.proofs.DisksOfWriters.{IsWriterAt, IsOnOpenDisk, no_more_then, no_command, on_open_disk}
use Rattle.overlap_law.proofs.HoldersInWorlds.{held_given, snapshot_no_more, working_held}
use Rattle.overlap_law.proofs.LogsGrow.{GrowsTo}
use Rattle.overlap_law.proofs.UnansweredRequests.{unanswered_in}

module _ (script : List Statement) (range : RunsAreInRange script) (req : ℕ) (writer : IsWriterAt script req)
    (P : List Entry → List HistEvent → ℕ → Type 0) where
  -- it holds of the disk on which the request is under way at a node
  abbrev pub HoldsFor : List Entry → List HistEvent → Host → Type 0
  HoldsFor log history host = (opened : Disk) → IsUnderWay host.node req opened → P log history opened.inode.vid

  -- an event keeps it where the disk is the session's
  abbrev pub IsKeptOnHeld : Type 0
  IsKeptOnHeld = (world : World) → Began script world → (event : Event) (made : EventOutcome) → MakesMove script event world made
      → GrowsTo world.log made.world.log → (n : ℕ) (host : Host) → tree.get world.hosts n ≡ Some host → host.is_lost ≡ false
      → (request : Request)
      → tree.get host.node.requests req ≡ Some request → (disk : Disk)
      → (session_among request.session host.node.sessions).disk ≡ Some disk → disk.snapshot ≡ false
      → list_any (is_anothers script disk.inode.vid request.session) made.grown ≡ false
      → list_any (ends_write_of req) made.grown ≡ false → (history : List HistEvent) → P world.log history disk.inode.vid
      → P made.world.log (history ++ made.grown) disk.inode.vid

  -- ---- one event, at a node that has the request behind it

  module _ (world : World) (began : Began script world) (event : Event) (made : EventOutcome)
      (happened : MakesMove script event world made) (later : Began script made.world) (grows : GrowsTo world.log made.world.log)
      (n : ℕ) (now : Host) (there_now : tree.get made.world.hosts n ≡ Some now) (up_now : now.is_lost ≡ false) where
    -- the disk that it has open then isn't given no more
    pub not_given : (opened : Disk) → IsUnderWay now.node req opened → IsGivenNoMore world.log opened.inode.vid → ⊥
    not_given opened way no_more =
        let held = working_held script range made.world later n now there_now up_now way.request.session opened way.on way.working
        (no_command script range made.world later n now there_now req way.request way.there writer) in
        held_given made.world.log opened.inode.vid (session_holder n way.request.session) held
        (subst (λ (log : List Entry). IsGivenNoMore log opened.inode.vid) (sym grows.1)
        (no_more_then world.log grows.0 opened.inode.vid no_more))

    -- a working disk that a session has open in which no command goes on is the session's
    pub on_held : (host : Host) → tree.get world.hosts n ≡ Some host → host.is_lost ≡ false → (session : ℕ) (disk : Disk)
        → (session_among session host.node.sessions).disk ≡ Some disk → disk.snapshot ≡ false
        → ((other : ℕ) (request : Request) (op : Op) → tree.get host.node.requests other ≡ Some request → request.session ≡ session
        → request.course ≡ Commanding op → ⊥)
        → list_any (is_anothers script disk.inode.vid session) made.grown ≡ false
    on_held host there up session disk opened working alone =
        event_none script range world began disk.inode.vid (session_holder n session)
        (working_held script range world began n host there up session disk opened working alone) event made happened

    -- the node had the request before, which has no reply behind the event
    module _ (keeps : IsKeptOnHeld) (history : List HistEvent) (ends : list_any (ends_write_of req) made.grown ≡ false) (host : Host)
        (there : tree.get world.hosts n ≡ Some host) (up : host.is_lost ≡ false) (request : Request)
        (got : tree.get host.node.requests req ≡ Some request)
        (stays : (q : ℕ) (started : StartedRequest) → Contains (unanswered_in q world.guests) started → started.req ≡ req
        → Contains (unanswered_in q made.world.guests) started)
        (single : (q : ℕ) (one other : StartedRequest) → Contains (unanswered_in q made.world.guests) one
        → Contains (unanswered_in q made.world.guests) other → one.req ≡ req → other.req ≡ req → one.disk ≡ other.disk)
        (before : HoldsFor world.log history host) where
      -- on the same disk
      same_id : (opened : Disk) → IsUnderWay now.node req opened
          → (on_open_disk script range world began n host there req request got writer).disk.inode.vid ≡ opened.inode.vid
      same_id opened way =
          let was = on_open_disk script range world began n host there req request got writer in
          let is = on_open_disk script range made.world later n now there_now req way.request way.there writer in
          let session : was.on.session ≡ is.on.session
          = same_Some was.on.session is.on.session (sym was.on.asking ∙ is.on.asking) in
          let there_then : Contains (unanswered_in is.on.session made.world.guests) was.on.started
          = subst (λ (k : ℕ). Contains (unanswered_in k made.world.guests) was.on.started) session
          (stays was.on.session was.on.started was.on.there was.on.number) in
          let disk : was.on.started.disk ≡ is.on.started.disk
          = single is.on.session was.on.started is.on.started there_then is.on.there was.on.number is.on.number in
          same_Some was.disk.inode.vid is.disk.inode.vid (sym was.on.on ∙ disk ∙ is.on.on)
          ∙ ap (λ (d : Disk). d.inode.vid) (same_Some is.disk opened (sym is.opened ∙ way.on))

      pub still_holds : HoldsFor made.world.log (history ++ made.grown) now
      still_holds opened way = by_kind was.disk.snapshot refl
        where
          was : IsOnOpenDisk script range world began n host there req request got writer
          was = on_open_disk script range world began n host there req request got writer

          same : (on_open_disk script range world began n host there req request got writer).disk.inode.vid ≡ opened.inode.vid
          same = same_id opened way

          by_kind : (b : Bool) → was.disk.snapshot ≡ b → P made.world.log (history ++ made.grown) opened.inode.vid
          by_kind true snapshot =
              absurd (not_given opened way (subst (IsGivenNoMore world.log) same
              (snapshot_no_more script range world began n host there up request.session was.disk was.opened snapshot)))
          by_kind false working =
              let none = on_held host there up request.session was.disk was.opened working
              (no_command script range world began n host there req request got writer) in
              subst (P made.world.log (history ++ made.grown)) same
              (keeps world began event made happened grows n host there up request got was.disk was.opened working none ends history
              (before was.disk (record { request = request; there = got; on = was.opened; working = working })))
