-- What a refused command leaves behind: no entry that it put publishes, replaces or deletes a disk, and what it was given is given back.
use Rattle.std.specs.Prelude.{◌≡◌, ◌⊎◌, ℕ, ◌<◌, ◌==◌, Bool, true, false, List, [], ◌∷◌, ◌++◌, Contains, Option, Some, None}
use Rattle.std.specs.FinMap as tree
use Rattle.object_id.specs.declared.node.NodeId.{NodeId}
use Rattle.object_id.specs.declared.entry.Entry.{Entry}
use Rattle.object_id.specs.declared.entry.Entry.TheVariants.{Unlock}
use Rattle.vdi_directory.specs.declared.effect.Effect.{Effect}
use Rattle.vdi_directory.specs.declared.effect.Effect.TheVariants.{Reserved, Published, Snapped, Deleted, Held, Freed, Withdrawn}
use Rattle.vdi_directory.specs.Decisions.{outcome, log_effects}
use Rattle.vdi_ops.specs.Entries.{unlock_of}
use Rattle.cluster_script.specs.declared.statement.Statement.{Statement}
use Rattle.sheep_node.specs.declared.course.Request.{Request}
use Rattle.sheep_node.specs.declared.event.Event.TheVariants.{Put}
use Rattle.sheep_node.specs.AwaitedEntry.{waits_for_entry}
use Rattle.sheep_world.specs.RunsWithAsks.{Move, Happens}
use Rattle.sheep_world.specs.World.{Host, World, host_at}
use Rattle.overlap_law.specs.Holders.{is_object_among}
use Rattle.overlap_law.specs.Past.{MomentWithPast, run_on, run_with_past}
use Rattle.overlap_law.specs.WriterClaims.{IsGivenNoMore}

-- ---- what entries do

-- what an entry does behind others
abbrev pub effect_behind : List Entry → Entry → Effect
effect_behind earlier entry = (outcome (log_effects earlier) entry).effect

-- whether a disk is published, makes room for one that takes its place, or is deleted
abbrev pub changes_disks : Effect → Bool
changes_disks (Published vid name) = true
changes_disks (Snapped snap) = true
changes_disks (Deleted vid name) = true
changes_disks _ = false

-- the entry that gives back what a session was given: an id that was reserved for it, or a lock
abbrev pub giving_back : Effect → Option Entry
giving_back (Reserved grant) = Some (unlock_of grant.reservation.by grant.reservation.session grant.reservation.vid.0)
giving_back (Held vid holder) = Some (unlock_of holder.node holder.session vid.0)
giving_back _ = None

-- whether the lock or the reservation of an id is given back
abbrev pub is_freed_by : ℕ → Effect → Bool
is_freed_by vid (Freed of) = of.0 == vid
is_freed_by vid (Withdrawn of) = of.0 == vid
is_freed_by vid _ = false

-- by an unlock behind these entries its id is given back; or nobody is given that again by then. Other entries have none
abbrev pub FreesItsId : List Entry → Entry → Type 0
FreesItsId earlier (Unlock by session vid) =
    (is_freed_by vid.0 (effect_behind earlier (Unlock by session vid)) ≡ true) ⊎ IsGivenNoMore earlier vid.0
FreesItsId earlier entry = Unit {0}

-- ---- for whom an entry was put

-- an entry is the next that a node is to put, in this incarnation of it, and a request there waits for the decision on it
pub record IsToPutFor (world : World) (node : NodeId) (incarnation : ℕ) (entry : Entry) (req : ℕ) : Type 0 where
  pub host : Host
  pub there : host_at node.0 world ≡ Some host
  pub lived : host.incarnation ≡ incarnation
  pub later : List Entry
  pub next : host.node.outbox ≡ entry ∷ later
  pub request : Request
  pub asked : tree.get host.node.requests req ≡ Some request
  pub waits : waits_for_entry entry request.course ≡ true

-- the run came by the event at which a node put this entry, behind these, for a request
pub record WasPutFor (script : List Statement) (moment : MomentWithPast) (earlier : List Entry) (entry : Entry) (node : NodeId)
    (incarnation req : ℕ) : Type 0 where
  pub moves : List Move
  pub before : MomentWithPast
  pub ran : run_with_past script moves ≡ Some before
  pub behind : before.world.log ≡ earlier
  pub to_put : IsToPutFor before.world node incarnation entry req
  pub more : List Move
  pub led : run_on script before (Happens (Put node) ∷ more) ≡ Some moment

-- ---- what is given back

-- a host's node is in a later incarnation, or lost
abbrev pub IsOver : ℕ → Host → Type 0
IsOver incarnation host = (incarnation < host.incarnation) ⊎ (host.is_lost ≡ true)

-- among the later entries of a log an unlock stands, and frees its id
pub record IsFreedIn (earlier later : List Entry) (unlock : Entry) : Type 0 where
  pub front : List Entry
  pub behind : List Entry
  pub stands : later ≡ front ++ unlock ∷ behind
  pub frees : FreesItsId (earlier ++ front) unlock

-- an unlock among the later entries of the log frees its id, or is to be put by the node; or this incarnation of it is over, with which its
-- locks go
pub data IsGivenBack (world : World) (node : NodeId) (incarnation : ℕ) (earlier later : List Entry) (unlock : Entry) : Type 0 where
  StandsInTheLog : IsFreedIn earlier later unlock → IsGivenBack world node incarnation earlier later unlock
  IsToBePut : (host : Host) → host_at node.0 world ≡ Some host → host.is_lost ≡ false → Contains host.node.outbox unlock
      → IsGivenBack world node incarnation earlier later unlock
  EndedBefore : (host : Host) → host_at node.0 world ≡ Some host → IsOver incarnation host
      → IsGivenBack world node incarnation earlier later unlock

-- An entry that publishes, replaces or deletes a disk was put for a request, and for none that is refused. And where an entry that was put
-- for a refused one reserved an id, or gave a lock, the unlock was put behind it by which that is given back, or is to be.
pub record RefusedCommandsChangeNothing (script : List Statement) (moment : MomentWithPast) : Type 0 where
  pub put : (earlier later : List Entry) (entry : Entry) → moment.world.log ≡ earlier ++ entry ∷ later
      → changes_disks (effect_behind earlier entry) ≡ true
      → (node : NodeId) × (incarnation : ℕ) × (req : ℕ) × WasPutFor script moment earlier entry node incarnation req
  pub nothing : (earlier : List Entry) (entry : Entry) (node : NodeId) (incarnation req : ℕ)
      → WasPutFor script moment earlier entry node incarnation req → is_object_among req moment.past.refused ≡ true
      → changes_disks (effect_behind earlier entry) ≡ false
  pub given_back : (earlier later : List Entry) (entry unlock : Entry) (node : NodeId) (incarnation req : ℕ)
      → WasPutFor script moment earlier entry node incarnation req → is_object_among req moment.past.refused ≡ true
      → moment.world.log ≡ earlier ++ entry ∷ later → giving_back (effect_behind earlier entry) ≡ Some unlock
      → IsGivenBack moment.world node incarnation (earlier ++ entry ∷ []) later unlock
