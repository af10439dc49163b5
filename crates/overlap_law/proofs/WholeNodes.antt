-- A node's works are whole: its writes go to whole units inside their objects, its reads lie inside theirs, and its open disks have tables
-- of their own chain. It stays so as the node reads more of the log.
use Rattle.std.proofs.Common.{◌≡◌, ℕ, true, List, Option, Some, None, IfSome}
use Rattle.std.specs.FinMap as tree
use Rattle.std.proofs.lemmas.List.Elements.{All-weaker}
use Rattle.object_id.specs.declared.entry.Entry.{Entry}
use Rattle.object_id.specs.declared.entry.VdiSpec.{VdiSpec}
use Rattle.peer_proto.specs.declared.work.ObjWork.{ObjWork}
use Rattle.peer_proto.specs.declared.work.ObjWork.TheVariants as works
use Rattle.vdi_directory.specs.declared.effect.Effect.{Effect}
use Rattle.vdi_directory.specs.Chains.{is_above}
use Rattle.gateway.specs.State.{Work}
use Rattle.guest_driver.specs.declared.disk.Disk.{Disk}
use Rattle.guest_driver.specs.InodeQueue as lines
use Rattle.sheep_node.specs.declared.course.Request.{Request}
use Rattle.sheep_node.specs.State.{Node}
use Rattle.sheep_node.specs.Validity.{Validity, IsValidSessionBy, AreValidBy}
use Rattle.sheep_node.specs.WorkRange.{IsWorkInRange}
use Rattle.sheep_node.specs.StepState.{StepState}
use Rattle.sheep_node.proofs.ValidityChanges.{AnySent, none_is, IsValidStepBy}
use Rattle.overlap_law.proofs.ChainTables.{HasChainTable, table_grows}
use Rattle.overlap_law.proofs.GrantedEpochs.{spec_known}
use Rattle.overlap_law.proofs.ReadCommands.{IsTabledCourse, course_grows}
use Rattle.overlap_law.proofs.ReadWorks.{ReadsOn}
use Rattle.overlap_law.proofs.WholeWorks.{WritesWhole}

-- a work can be asked for, writes whole units, and reads inside its object
abbrev pub IsWholeWork : List Effect → ObjWork → Type 0
IsWholeWork known work = IsWorkInRange work × WritesWhole known work × ReadsOn known work

-- in this sense; a table has none but the ids of its own chain; and of what is to be put nothing is asked
abbrev pub whole_validity : List Effect → Validity
whole_validity known = record {
  inode = HasChainTable known;
  asked = IsWholeWork known;
  at_gateway = λ (work : Work). IsWholeWork known work.work;
  course = IsTabledCourse known;
  put = λ (entry : Entry). Unit {0};
}

-- a node's works are
abbrev pub AreWholeOn : List Effect → Node → Type 0
AreWholeOn known node = AreValidBy (whole_validity known) node.gateway.works node.requests node.sessions

abbrev pub IsWholeSoFar : List Effect → ℕ → StepState → Type 0
IsWholeSoFar known = IsValidStepBy (whole_validity known) AnySent

-- ---- what is known grows

module _ (old new : List Effect)
    (grows : (vid : ℕ) (spec : VdiSpec) → spec_known old vid ≡ Some spec → spec_known new vid ≡ Some spec)
    (above : (elder vid : ℕ) → is_above old elder vid ≡ true → is_above new elder vid ≡ true) where
  writes_grow : (work : ObjWork) → WritesWhole old work → WritesWhole new work
  writes_grow (works.Create oid policy size offset bytes) is = tt
  writes_grow (works.Write oid policy offset bytes) is = record { spec = is.spec; made = grows _ is.spec is.made; whole = is.whole }
  writes_grow (works.Read oid policy offset size) is = tt
  writes_grow (works.ReadAll oid policy size) is = tt

  reads_grow : (work : ObjWork) → ReadsOn old work → ReadsOn new work
  reads_grow (works.Create oid policy size offset bytes) is = tt
  reads_grow (works.Write oid policy offset bytes) is = tt
  reads_grow (works.Read oid policy offset size) is =
      record { spec = is.spec; made = grows _ is.spec is.made; policy_so = is.policy_so; inside = is.inside }
  reads_grow (works.ReadAll oid policy size) is =
      record { spec = is.spec; made = grows _ is.spec is.made; policy_so = is.policy_so; inside = is.inside }

  work_grows : (work : ObjWork) → IsWholeWork old work → IsWholeWork new work
  work_grows work is = (is.0, writes_grow work is.1, reads_grow work is.2)

  open_grows : (o : Option Disk) → IfSome o (λ (disk : Disk). HasChainTable old disk.inode)
      → IfSome o (λ (disk : Disk). HasChainTable new disk.inode)
  open_grows None is = tt
  open_grows (Some disk) is = table_grows old new above disk.inode is

  pub whole_grows : (node : Node) → AreWholeOn old node → AreWholeOn new node
  whole_grows node all = record {
    open_works = λ req work got. work_grows work.work (all.open_works req work got);
    courses = λ req request got. course_grows old new above request.course (all.courses req request got);
    each_session = λ number session got.
        let is = all.each_session number session got in
        record {
          disk = open_grows session.disk is.disk;
          waiting = All-weaker (λ (waiting : lines.Waiting). IsWholeWork old waiting.work)
              (λ (waiting : lines.Waiting). IsWholeWork new waiting.work) (λ waiting so. work_grows waiting.work so)
              session.inode_queue.waiting is.waiting;
        };
  }

pub none_whole : (known : List Effect) → AreValidBy (whole_validity known) tree.empty tree.empty tree.empty
none_whole known = record {
  open_works = none_is (λ (work : Work). IsWholeWork known work.work);
  courses = none_is (λ (request : Request). IsTabledCourse known request.course);
  each_session = none_is (IsValidSessionBy (whole_validity known));
}
