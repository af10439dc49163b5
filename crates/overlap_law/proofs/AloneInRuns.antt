-- So in each run in range, at each moment on the way of an event, the table says of the objects that a write has behind it that they are
-- the disk's own; and nothing else is to come of their entries, where the disk's inode may come to have what the table has.
use Rattle.std.proofs.Common.{◌≡◌, ⊎_elim, ℕ, ◌<◌, Bool, true, false, List, ◌∷◌, ◌++◌, length, Contains, Some, slice_index, refl, sym, ap}
use Rattle.std.proofs.Common.{subst, ◌∙◌}
use Rattle.std.specs.Ordering.{nat_cmp}
use Rattle.std.specs.FinMap as tree
use Rattle.object_id.specs.Spec.{objects_of}
use Rattle.cluster_script.specs.declared.statement.Statement.{Statement}
use Rattle.guest_driver.specs.declared.disk.Disk.{Disk}
use Rattle.guest_driver.specs.Driver.{Writes, DriverStage}
use Rattle.guest_driver.specs.Pieces.{Piece, pieces}
use Rattle.vdi_directory.specs.Dead.{is_dead}
use Rattle.vdi_directory.specs.Decisions.{log_effects}
use Rattle.vdi_directory.specs.declared.effect.Effect.{Effect}
use Rattle.sheep_node.specs.State.{Node}
use Rattle.sheep_node.specs.declared.course.Course.TheVariants.{Driving}
use Rattle.sheep_node.specs.declared.course.Request.{Request}
use Rattle.sheep_node.specs.SessionQueues.{session_among}
use Rattle.sheep_node.proofs.OneWorkParts.{Requests, Sessions}
use Rattle.sheep_world.specs.World.{Host}
use Rattle.sheep_world.specs.RunsWithAsks.{Move}
use Rattle.overlap_law.specs.AloneEntries.{IsOwnByTable, HasOwnBehind, OwnObjectsAreBehind}
use Rattle.overlap_law.specs.Attempts.{AttemptRecord}
use Rattle.overlap_law.specs.MomentChanges.{MomentChange, MomentTrail, RunsAreInRange}
use Rattle.overlap_law.specs.Past.{MomentWithPast, run_with_past}
use Rattle.overlap_law.specs.Tables.{entry_by, IsYetOf}
use Rattle.overlap_law.specs.ToCome.{IsEntryToCome, IsBeingEntered, TablesStayTheInodes}
use Rattle.overlap_law.specs.Words.{Hosts}
use Rattle.overlap_law.proofs.AloneHolders.{write_yet}
use Rattle.overlap_law.proofs.AloneInSteps.{goes_on_own}
use Rattle.overlap_law.proofs.CreatesFirst.{session_of}
use Rattle.overlap_law.proofs.GuestsInMoments.{GuestsChange, GuestsStay, GuestsAreNone, IsGoingOn, IsBetween, between}
use Rattle.overlap_law.proofs.KeptInRuns.{kept_on_the_way}
use Rattle.overlap_law.proofs.OpeningOverlap.{no_request}
use Rattle.overlap_law.proofs.PiecesBehind.{cut_once}

-- ---- each change

abbrev OwnBehind : MomentWithPast → Type 0
OwnBehind moment = OwnObjectsAreBehind moment.world.hosts

module _ (script : List Statement) (range : RunsAreInRange script) (events : List Move) (start before after : MomentWithPast)
    (ran : run_with_past script events ≡ Some start) (trail : MomentTrail script start before)
    (change : MomentChange script start before after) (all : OwnObjectsAreBehind before.world.hosts) where
  by_guests : (n : ℕ) (host : Host) → host.is_lost ≡ false → (req : ℕ) (request : Request) (opened : Disk) (payload : List ℕ)
      (stage : DriverStage) (piece : Piece) (rest : List Piece) → tree.get host.node.requests req ≡ Some request
      → (session_among request.session host.node.sessions).disk ≡ Some opened
      → request.course ≡ Driving (Writes payload stage piece rest) → GuestsChange before n host
      → HasOwnBehind opened.inode payload piece rest
  by_guests n host up req request opened payload stage piece rest there at course
      (GuestsStay was was_there still gateway sessions requests) =
      all.each n was was_there (still up) req request opened payload stage piece rest
      (ap (λ (r : Requests). tree.get r req) (sym requests) ∙ there)
      (ap (λ (s : Sessions). (session_among request.session s).disk) (sym sessions) ∙ at) course
  by_guests n host up req request opened payload stage piece rest there at course (GuestsAreNone none requests) =
      let empty = ap (λ (r : Requests). tree.get r req) requests ∙ tree.get-empty {X = Request} nat_cmp req in
      absurd (cc (empty, there))

  goes : IsGoingOn script start before after → OwnObjectsAreBehind after.world.hosts
  goes g =
      subst OwnBehind (sym g.after_so)
      (goes_on_own script range events start ran g.stepping g.is g.by g.so_far g.next g.within
      (subst (MomentTrail script start) g.before_so trail) (subst OwnBehind g.before_so all))

  own_stays : OwnObjectsAreBehind after.world.hosts
  own_stays = ⊎_elim
      (λ (g : IsGoingOn script start before after). goes g)
      (λ (b : IsBetween before after). record {
        each = λ n host at_host host_up req request opened payload stage piece rest there at course.
            by_guests n host host_up req request opened payload stage piece rest there at course (b.0 n host at_host);
      })
      (between script start change)

-- ---- every run

module _ (script : List Statement) (range : RunsAreInRange script) where
  pub own-in_run : (events : List Move) (start moment : MomentWithPast) → run_with_past script events ≡ Some start
      → MomentTrail script start moment → OwnObjectsAreBehind moment.world.hosts
  own-in_run =
      kept_on_the_way script OwnBehind
      (record {
        each = λ n host at_host host_up req request opened payload stage piece rest there at course.
            no_request script n host at_host req request there;
      })
      (λ events start before after ran trail change all. own_stays script range events start before after ran trail change all)

-- ---- what is to come of the entries

-- of an object that is the disk's own by the table nothing else may come, nor while the entry is being written
module _ (effects : List Effect) (good_id : ℕ → Bool) (hosts : Hosts) (attempts : List AttemptRecord)
    (tables : TablesStayTheInodes effects good_id hosts attempts) (n : ℕ) (host : Host) (at_host : tree.get hosts n ≡ Some host)
    (up : host.is_lost ≡ false) (number : ℕ) (opened : Disk) (at : (session_among number host.node.sessions).disk ≡ Some opened)
    (good : good_id opened.inode.vid ≡ true) (alive : is_dead effects opened.inode.vid ≡ false)
    (yet : IsYetOf effects n number opened) where
  pub own_alone : (index : ℕ) → index < objects_of opened.inode.spec → IsOwnByTable opened.inode index → (j : ℕ) (entry : AttemptRecord)
      → IsEntryToCome hosts attempts opened.inode.vid index j entry → entry_by index entry ≡ opened.inode.vid
  own_alone index inside own j entry comes =
      let (session, got, on) = session_of host.node number opened at in ⊎_elim
      (λ (by_table : entry_by index entry ≡ slice_index opened.inode.table index). by_table ∙ own inside)
      (λ (entered : (opened.snapshot ≡ false) × IsBeingEntered n host.node opened.inode.vid index entry). entered.1.own)
      (tables.each n host at_host up number index session opened got on good alive inside yet j entry comes)

module _ (script : List Statement) (range : RunsAreInRange script) (events : List Move) (start moment : MomentWithPast)
    (ran : run_with_past script events ≡ Some start) (trail : MomentTrail script start moment) (good_id : ℕ → Bool)
    (tables : TablesStayTheInodes (log_effects moment.world.log) good_id moment.world.hosts moment.past.attempts) (n : ℕ) (host : Host)
    (at_host : tree.get moment.world.hosts n ≡ Some host) (up : host.is_lost ≡ false) (req : ℕ) (request : Request) (opened : Disk)
    (payload : List ℕ) (stage : DriverStage) (piece : Piece) (rest : List Piece)
    (there : tree.get host.node.requests req ≡ Some request)
    (at : (session_among request.session host.node.sessions).disk ≡ Some opened)
    (course : request.course ≡ Driving (Writes payload stage piece rest)) (good : good_id opened.inode.vid ≡ true)
    (alive : is_dead (log_effects moment.world.log) opened.inode.vid ≡ false) where
  -- of an object that is the disk's own by the table
  pub write_alone : (index : ℕ) → index < objects_of opened.inode.spec → IsOwnByTable opened.inode index → (j : ℕ)
      (entry : AttemptRecord) → IsEntryToCome moment.world.hosts moment.past.attempts opened.inode.vid index j entry
      → entry_by index entry ≡ opened.inode.vid
  write_alone =
      own_alone (log_effects moment.world.log) good_id moment.world.hosts moment.past.attempts tables n host at_host up request.session
      opened at good alive
      (write_yet script range events start moment ran trail n host at_host up req request there opened at payload stage piece rest course)

  -- of each that the write has behind it
  pub entered_alone : (offset index j : ℕ) (front : List Piece) (one : Piece) (entry : AttemptRecord)
      → pieces opened.inode.spec.shift offset (length payload) ≡ front ++ piece ∷ rest → Contains front one → one.index ≡ index
      → index < objects_of opened.inode.spec → IsEntryToCome moment.world.hosts moment.past.attempts opened.inode.vid index j entry
      → entry_by index entry ≡ opened.inode.vid
  entered_alone offset index j front one entry cut among at_index inside comes =
      let own = (own-in_run script range events start moment ran trail).each n host at_host up req request opened payload stage piece rest
      there at course in
      let same : front ≡ own.before
      = cut_once opened.inode.spec.shift own.offset offset (length payload) own.before front rest piece own.cut cut in
      write_alone index inside
      (subst (IsOwnByTable opened.inode) at_index (own.each one (subst (λ (list : List Piece). Contains list one) same among))) j entry
      comes
