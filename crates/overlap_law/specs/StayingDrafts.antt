-- What the inodes of reserved ids may come to have, and what the works that are to create them have: it is drawn from what the ids are
-- made from.
use Rattle.std.specs.Prelude.{◌≡◌, ◌≢◌, ℕ, ◌<◌, Bool, true, List, Option, Some, None}
use Rattle.std.specs.FinMap as tree
use Rattle.std.specs.List.{list_any}
use Rattle.object_id.specs.declared.entry.Entry.{Entry}
use Rattle.object_id.specs.declared.limits.TheConstants.{OBJECTS_MAX}
use Rattle.object_id.specs.declared.oid.Vid.{Vid}
use Rattle.object_id.specs.Oid.{IsVid, inode_number, object_number}
use Rattle.cluster_script.specs.declared.statement.Statement.{Statement}
use Rattle.inode.specs.Layout.{Content}
use Rattle.vdi_directory.specs.declared.effect.Effect.{Effect}
use Rattle.vdi_directory.specs.declared.effect.Source.{Source}
use Rattle.vdi_directory.specs.declared.effect.Source.TheVariants.{Fresh, Snapshot, Clone}
use Rattle.vdi_directory.specs.Decisions.{log_effects}
use Rattle.vdi_directory.specs.References.{parent_of}
use Rattle.peer_proto.specs.declared.work.ObjWork.{ObjWork}
use Rattle.guest_driver.specs.Driver.{Driver}
use Rattle.vdi_ops.specs.InodeWorks.{create_inode}
use Rattle.vdi_directory.specs.declared.header.Header.{Header}
use Rattle.vdi_ops.specs.Op.{Copying, Working, Publishing, Op}
use Rattle.vdi_ops.specs.Tables.{table_in, inode_by}
use Rattle.gateway.specs.declared.message.Status.{Status}
use Rattle.gateway.specs.Attempt.{Attempt}
use Rattle.gateway.specs.State.{Work}
use Rattle.sheep_node.specs.declared.course.Course.TheVariants.{Driving, Commanding}
use Rattle.sheep_node.specs.declared.course.Request.{Request}
use Rattle.sheep_node.specs.declared.input.Input.{Input}
use Rattle.sheep_node.specs.Changes.{ToWork, EndsWork, RequestSteps}
use Rattle.sheep_node.specs.State.{Node}
use Rattle.sheep_node.specs.StepState.{StepState}
use Rattle.sheep_node.specs.WantedWorks.{HasWork}
use Rattle.sheep_world.specs.NodeCauses.{input_of_cause}
use Rattle.overlap_law.specs.Attempts.{AttemptRecord, object_of}
use Rattle.overlap_law.specs.Drafts.{IsReservedEntry}
use Rattle.overlap_law.specs.Each.{EachUp, EachAttempt}
use Rattle.overlap_law.specs.Fates.{IsCreated}
use Rattle.overlap_law.specs.Grants.{publishes, writer_of}
use Rattle.overlap_law.specs.Holders.{is_create_work}
use Rattle.overlap_law.specs.NamedWorks.{HasEntry}
use Rattle.overlap_law.specs.Past.{MomentWithPast}
use Rattle.overlap_law.specs.Reached.{Hosts}
use Rattle.overlap_law.specs.StepMoments.{SteppingNode, IsStepping, StepsByChanges, LeadsInStep, first_in_step, moment_in_step}
use Rattle.overlap_law.specs.Tables.{entry_by}
use Rattle.overlap_law.specs.ToCome.{IsEntryToCome}
use Rattle.overlap_law.specs.ToDo.{entry_made}
use Rattle.overlap_law.specs.Writers.{session_holder}

-- all that an id's inode may come to have of an index is this entry
abbrev pub IsAllToCome : Hosts → List AttemptRecord → ℕ → ℕ → ℕ → Type 0
IsAllToCome hosts attempts vid index entry =
    (k : ℕ) (other : AttemptRecord) → IsEntryToCome hosts attempts vid index k other → entry_by index other ≡ entry

-- an entry that the inode of a reserved id may have: of a new disk a hole, and of a clone all that its base may come to have
abbrev pub StaysDrawnFrom : Hosts → List AttemptRecord → Source → Option Vid → ℕ → ℕ → Type 0
StaysDrawnFrom hosts attempts source None index entry = source ≡ Fresh → entry ≡ 0
StaysDrawnFrom hosts attempts source (Some base) index entry = source ≡ Clone → IsAllToCome hosts attempts base.0 index entry

-- a work that is to create the inode of a reserved id has such entries
abbrev pub CreatesDrawn : List Effect → (ℕ → Bool) → Hosts → List AttemptRecord → ObjWork → Type 0
CreatesDrawn effects good_id hosts attempts work =
    (vid index : ℕ) (draft : IsReservedEntry effects good_id vid index) → is_create_work work ≡ true → HasEntry work vid index
    → StaysDrawnFrom hosts attempts draft.reservation.source (parent_of effects vid) index (entry_made index work)

pub record DraftsStayDrawn (effects : List Effect) (good_id : ℕ → Bool) (hosts : Hosts) (attempts : List AttemptRecord) : Type 0 where
  -- at each index the base of a clone may come to have one entry alone, as long as the clone's id is reserved
  pub bases : (vid index : ℕ) (draft : IsReservedEntry effects good_id vid index) → draft.reservation.source ≡ Clone → (base : Vid)
      → parent_of effects vid ≡ Some base → (i j : ℕ) (one other : AttemptRecord) → IsEntryToCome hosts attempts base.0 index i one
      → IsEntryToCome hosts attempts base.0 index j other → entry_by index one ≡ entry_by index other
  -- the inodes of reserved ids may come to have what is so drawn
  pub inodes : (vid index : ℕ) (draft : IsReservedEntry effects good_id vid index) (j : ℕ) (attempt : AttemptRecord)
      → IsEntryToCome hosts attempts vid index j attempt
      → StaysDrawnFrom hosts attempts draft.reservation.source (parent_of effects vid) index (entry_by index attempt)
  -- and the works that are to create them have such entries
  pub works : EachUp hosts (λ n node. (req : ℕ) (work : ObjWork) → HasWork req work node.gateway.works node.sessions
      → CreatesDrawn effects good_id hosts attempts work)

-- of an id that is to take the place of a disk: what its inode may come to have is all that the disk's may come to have
abbrev pub PlacesStayDrawn : List Effect → (ℕ → Bool) → Hosts → List AttemptRecord → Type 0
PlacesStayDrawn effects good_id hosts attempts = (vid index : ℕ) (draft : IsReservedEntry effects good_id vid index) (old : Vid)
    (tag : List ℕ) → draft.reservation.source ≡ Snapshot old tag → (j : ℕ) (attempt : AttemptRecord)
    → IsEntryToCome hosts attempts vid index j attempt
    → ((epoch : ℕ) × IsCreated attempts (inode_number old.0) epoch)
    × IsAllToCome hosts attempts old.0 index (entry_by index attempt)

-- a session whose command waits for the publication of an inode, that it is to have open then, may write the inode's id
abbrev pub PublishersMayWrite : List Effect → Hosts → Type 0
PublishersMayWrite effects hosts = EachUp hosts (λ n node. (req : ℕ) (request : Request) (op : Op) (entry : Entry) (inode : Content)
    → tree.get node.requests req ≡ Some request → request.course ≡ Commanding op → op.stage ≡ Publishing entry (Some inode)
    → writer_of effects inode.vid ≡ Some (session_holder n request.session))

-- each attempt on an object of a disk, that is no inode, is of an id that was published: of a reserved id there is none
abbrev pub DataIsOfThePublished : List Entry → List AttemptRecord → Type 0
DataIsOfThePublished log attempts = EachAttempt attempts (λ j attempt. (vid index : ℕ) → IsVid vid → index < OBJECTS_MAX
    → object_of attempt ≡ object_number vid index → list_any (publishes vid) (log_effects log) ≡ true)

-- what a good id is made from is good
abbrev pub ParentsAreGood : List Effect → (ℕ → Bool) → Type 0
ParentsAreGood effects good_id =
    (vid : ℕ) (base : Vid) → parent_of effects vid ≡ Some base → good_id vid ≡ true → good_id base.0 ≡ true

-- in the middle of whatever step of an event an inode that a command creates next is so drawn
abbrev pub NewInodesAreDrawn : List Statement → (ℕ → Bool) → MomentWithPast → MomentWithPast → Type 0
NewInodesAreDrawn script good_id start before = (stepping : SteppingNode) (so_far : StepState)
    → IsStepping script start.world stepping → StepsByChanges stepping.cause → LeadsInStep stepping (first_in_step stepping) so_far
    → before ≡ moment_in_step script stepping start so_far
    → (session req : ℕ) (inode : Content) (moved : StepState)
    → RequestSteps (input_of_cause stepping.cause) stepping.host.node so_far session req (ToWork (create_inode inode)) moved
    → ((driver : Driver) → tree.get moved.node.requests req ≢ Some (record { session = session; course = Driving driver }))
    → CreatesDrawn (log_effects before.world.log) good_id before.world.hosts before.past.attempts (create_inode inode)

-- where the reading of a clone's base ends in the middle of a step, the inode is so drawn that the command creates of what was read
abbrev pub CopiesAreDrawn : List Effect → (ℕ → Bool) → Hosts → List AttemptRecord → Input → Node → StepState → Type 0
CopiesAreDrawn effects good_id hosts attempts input node so_far = (session req number : ℕ) (work : Work) (attempt : Attempt)
    (status : Status) (op : Op) (bytes : List ℕ) (vid : Vid) (ids : List ℕ) (header : Header)
    → EndsWork input node so_far session req number work attempt status (Commanding op) bytes
    → op.stage ≡ Working vid (Copying ids header)
    → CreatesDrawn effects good_id hosts attempts (create_inode (inode_by header vid.0 (table_in ids header.spec bytes)))

-- so it is in the middle of whatever step of an event
abbrev pub NewClonesAreDrawn : List Statement → (ℕ → Bool) → MomentWithPast → MomentWithPast → Type 0
NewClonesAreDrawn script good_id start before = (stepping : SteppingNode) (so_far : StepState)
    → IsStepping script start.world stepping → StepsByChanges stepping.cause → LeadsInStep stepping (first_in_step stepping) so_far
    → before ≡ moment_in_step script stepping start so_far
    → CopiesAreDrawn (log_effects before.world.log) good_id before.world.hosts before.past.attempts (input_of_cause stepping.cause)
    stepping.host.node so_far
