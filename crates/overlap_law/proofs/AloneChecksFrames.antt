-- What a check has written stays written over whatever change of a moment that leaves nothing else to be written there; and all of it stays
-- where the check's node keeps its works.
use Rattle.std.proofs.Common.{◌≡◌, inl, ℕ, ◌+◌, ◌*◌, ◌^◌, ◌<◌, Bool, false, List, Contains, Option, Some, refl, sym, ap, subst, ◌∙◌, arith}
use Rattle.std.specs.FinMap as tree
use Rattle.object_id.specs.declared.entry.VdiSpec.{VdiSpec}
use Rattle.object_id.specs.declared.limits.TheConstants.{OBJECTS_MAX}
use Rattle.object_id.specs.Oid.{object_number}
use Rattle.cluster_script.specs.declared.statement.Statement.{Statement}
use Rattle.disk_check.specs.Check.{Check, CheckStage, Comparing, WritingBack, Answered, write_value}
use Rattle.disk_history.specs.declared.event.HistEvent.TheVariants.{WriteStart}
use Rattle.peer_proto.specs.Work.{oid_of}
use Rattle.peer_proto.specs.declared.work.ObjWork.{ObjWork}
use Rattle.peer_proto.specs.declared.work.ObjWork.TheVariants.{Write}
use Rattle.gateway.specs.State.{Gateway, Work, Open}
use Rattle.gateway.specs.Work.{is_making}
use Rattle.guest_driver.specs.declared.disk.Disk.{Disk}
use Rattle.sheep_node.specs.declared.course.Course.{Course}
use Rattle.sheep_node.specs.declared.course.Course.TheVariants.{Checking}
use Rattle.sheep_node.specs.declared.course.Request.{Request}
use Rattle.sheep_node.specs.Changes.{attempt_in}
use Rattle.sheep_node.specs.Courses.{inode_open}
use Rattle.sheep_node.specs.SessionQueues.{session_among}
use Rattle.sheep_node.specs.State.{Node}
use Rattle.sheep_node.specs.WantedWorks.{HasWork, IsWantedAt, IsWorkOfCheck, IsWorkWanted}
use Rattle.sheep_node.proofs.OneWorkParts.{Requests, Sessions}
use Rattle.sheep_world.specs.World.{Host}
use Rattle.sheep_world.specs.RunsWithAsks.{Move}
use Rattle.overlap_law.specs.AloneChecksWritten.{ChecksHaveWritten, IsOfValue, IsWritten, MakesNone, NoneComes, whole_object}
use Rattle.overlap_law.specs.AloneChecksWritten.{WillBeWritten, IsBeingWritten, WasWritten}
use Rattle.overlap_law.specs.Attempts.{AttemptRecord, object_of}
use Rattle.overlap_law.specs.MomentChanges.{MomentChange, MomentTrail, Then, RunsAreInRange}
use Rattle.overlap_law.specs.Past.{MomentWithPast, run_with_past}
use Rattle.overlap_law.specs.Units.{bytes_by}
use Rattle.overlap_law.specs.WrittenBlocks.{blocks_per_object}
use Rattle.overlap_law.specs.WrittenPieces.{IsWrittenAlone}
use Rattle.overlap_law.proofs.AloneCheckers.{check_begins_there}
use Rattle.overlap_law.proofs.CausedWorks.{HasWellWorks}
use Rattle.overlap_law.proofs.CheckedSteps.{IsSameDisk}
use Rattle.overlap_law.proofs.NewAttempts.{IsOpened}
use Rattle.overlap_law.proofs.NoRecoveredDue.{began-with_past}
use Rattle.overlap_law.proofs.WorksInMoments.{well_along}
use Rattle.overlap_law.proofs.WrittenAlone.{alone_later}

-- ---- a check and its works

-- each work of a check's request is one that the check waits for
pub check_wants : (node : Node) → HasWellWorks node → (req : ℕ) (request : Request) → tree.get node.requests req ≡ Some request
    → (check : Check) → request.course ≡ Checking check → (work : ObjWork) → HasWork req work node.gateway.works node.sessions
    → IsWorkOfCheck check check.stage work
check_wants node well req request there check course work has =
    subst (λ (c : Course). IsWorkWanted (inode_open (session_among request.session node.sessions).disk) c work) course
    (subst (λ (o : Option Request). IsWantedAt node.sessions o work) there (well.wanted req work has))

-- the write of a value is the same for a check that is of the same disk
pub write_same : (one other : Check) (index : ℕ) (value : List ℕ) → IsSameDisk one other
    → write_value one index value ≡ write_value other index value
write_same one other index value same = λ i. Write (object_number (same.vid i) index) (same.spec i).policy 0 value

-- what a check wrote is so of such a one
pub alone_same : (attempts : List AttemptRecord) (one other : Check) (index : ℕ) (value : List ℕ) → IsSameDisk one other
    → IsWrittenAlone attempts other.vid value (whole_object other.spec index)
    → IsWrittenAlone attempts one.vid value (whole_object one.spec index)
alone_same attempts one other index value same is =
    subst (λ (v : ℕ). IsWrittenAlone attempts v value (whole_object one.spec index)) (sym same.vid)
    (subst (λ (s : VdiSpec). IsWrittenAlone attempts other.vid value (whole_object s index)) (sym same.spec) is)

-- what is carried to another moment, where its value is
pub carried : (Comes May : ℕ → List ℕ → Type 0) (old new : List AttemptRecord) (was node : Node) (opened : Disk) (req : ℕ)
    (check then : Check) (block : ℕ) (bytes : List ℕ) → IsSameDisk then check → (v : IsOfValue Comes old was opened req check block bytes)
    → IsWritten (May v.index v.value) new node req then v.index v.value → IsOfValue May new node opened req then block bytes
carried Comes May old new was node opened req check then block bytes same v is = record {
  index = v.index;
  unit = v.unit;
  value = v.value;
  vid = same.vid ∙ v.vid;
  spec = same.spec ∙ v.spec;
  own = v.own;
  few = v.few;
  long = v.long ∙ ap (λ (s : VdiSpec). 2 ^ s.shift) (sym same.spec);
  inside = subst (λ (s : VdiSpec). v.unit < blocks_per_object s) (sym same.spec) v.inside;
  at = v.at ∙ ap (λ (s : VdiSpec). v.index * blocks_per_object s + v.unit) (sym same.spec);
  same = v.same ∙ ap (bytes_by v.unit) (sym (write_same then check v.index v.value same));
  is = is;
}

pub itself : (check : Check) → IsSameDisk check check
itself check = record { vid = refl; spec = refl }

-- ---- whatever the change

module _ (script : List Statement) (range : RunsAreInRange script) (events : List Move) (start before after : MomentWithPast)
    (ran : run_with_past script events ≡ Some start) (trail : MomentTrail script start before)
    (change : MomentChange script start before after) (n : ℕ) (host : Host) (at_host : tree.get after.world.hosts n ≡ Some host)
    (up : host.is_lost ≡ false) (req : ℕ) (request : Request) (there : tree.get host.node.requests req ≡ Some request) (opened : Disk)
    (at : (session_among request.session host.node.sessions).disk ≡ Some opened) (check : Check)
    (course : request.course ≡ Checking check) where
  well : HasWellWorks host.node
  well = well_along script range start (began-with_past script events start ran) (Then trail change) n host at_host

  -- no attempt begins on an object over which no value is to be written
  module _ (index : ℕ) (few : index < OBJECTS_MAX) (vid : check.vid ≡ opened.inode.vid) (none : MakesNone host.node req check index)
      (new : AttemptRecord) (o : IsOpened script start after new) (object : object_of new ≡ object_number check.vid index) where
    abbrev work : Work
    work = record o.asked { stage = Open (attempt_in o.asked o.lined.node) }

    at_gateway : tree.get host.node.gateway.works req ≡ Some (record o.asked { stage = Open (attempt_in o.asked o.lined.node) })
    at_gateway =
        let its = check_begins_there script range events start before after ran trail change n host at_host up req index request there
        opened
        at check course few new o (object ∙ ap (λ (v : ℕ). object_number v index) vid) in
        ap (tree.get host.node.gateway.works) its.1 ∙ ap (λ (h : Host). tree.get h.node.gateway.works o.req) (sym its.0) ∙ o.at_gateway

    on_object : oid_of o.asked.work ≡ object_number check.vid index
    on_object = ap (λ (a : AttemptRecord). object_of a) o.opened ∙ object

    by_stage : (stage : CheckStage) → IsWorkOfCheck check stage o.asked.work → ⊥
    by_stage (Comparing i later) reads =
        let making = o.making in
        let none : is_making o.asked.work ≡ false = ap is_making reads in
        cc (making, none)
    by_stage (WritingBack later) (i, value, writes) =
        let both : object_number check.vid i ≡ object_number check.vid index = ap oid_of (sym writes) ∙ on_object in
        let own : i ≡ index = omega (arith, both) in
        none value (inl (work, at_gateway, writes ∙ ap (λ (k : ℕ). write_value check k value) own))
    by_stage Answered never = never

    none_opens : ⊥
    none_opens =
        by_stage check.stage
        (check_wants host.node well req request there check course o.asked.work (inl (work, at_gateway, refl)))

  pub still_alone : (index : ℕ) (value : List ℕ) → index < OBJECTS_MAX → check.vid ≡ opened.inode.vid
      → MakesNone host.node req check index
      → IsWrittenAlone before.past.attempts check.vid value (whole_object check.spec index)
      → IsWrittenAlone after.past.attempts check.vid value (whole_object check.spec index)
  still_alone index value few vid none =
      alone_later script range start before after (began-with_past script events start ran) change check.vid value
      (whole_object check.spec index) (λ new o object. none_opens index few vid none new o object)

  -- ---- where its node keeps its works, its sessions and its requests

  module _ (all : ChecksHaveWritten NoneComes before.past.history before.world.hosts before.past.attempts)
      (May : ℕ → List ℕ → Type 0) (was : Host) (was_there : tree.get before.world.hosts n ≡ Some was) (was_up : was.is_lost ≡ false)
      (gateway : host.node.gateway ≡ was.node.gateway) (sessions : host.node.sessions ≡ was.node.sessions)
      (requests : host.node.requests ≡ was.node.requests) where
    had : (work : ObjWork) → HasWork req work host.node.gateway.works host.node.sessions
        → HasWork req work was.node.gateway.works was.node.sessions
    had work has =
        subst (λ (s : Sessions). HasWork req work was.node.gateway.works s) sessions
        (subst (λ (g : Gateway). HasWork req work g.works host.node.sessions) gateway has)

    stays : (index : ℕ) (value : List ℕ) → index < OBJECTS_MAX → check.vid ≡ opened.inode.vid
        → IsWritten ⊥ before.past.attempts was.node req check index value
        → IsWritten (May index value) after.past.attempts host.node req check index value
    stays index value few vid (WillBeWritten later stage never) = absurd never
    stays index value few vid (IsBeingWritten later stage apart only) =
        IsBeingWritten later stage apart (λ work has making. only work (had work has) making)
    stays index value few vid (WasWritten apart none alone) =
        let none_then : MakesNone host.node req check index
        = λ other has. none other (had (write_value check index other) has) in
        WasWritten apart none_then (still_alone index value few vid none_then alone)

    pub stays_there : (vid block : ℕ) (coded : Bool) (bytes : List ℕ)
        → Contains before.past.history (WriteStart req vid block coded bytes)
        → IsOfValue May after.past.attempts host.node opened req check block bytes
    stays_there vid block coded bytes among =
        let v : IsOfValue (NoneComes n req) before.past.attempts was.node opened req check block bytes
        = all.each n was was_there was_up req vid block coded bytes request opened check
        (ap (λ (r : Requests). tree.get r req) (sym requests) ∙ there)
        (ap (λ (s : Sessions). (session_among request.session s).disk) (sym sessions) ∙ at) course among in
        carried (NoneComes n req) May before.past.attempts after.past.attempts was.node host.node opened req check check block bytes
        (itself check) v (stays v.index v.value v.few v.vid v.is)
