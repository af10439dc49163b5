-- A write, and a check, is on the disk that its session has open, on which it began; and no command goes on beside it in the session.
use Rattle.std.proofs.Common.{◌≡◌, ◌⊎◌, inl, inr, ℕ, true, false, List, ◌++◌, Option, Some, None, refl, sym, ap, subst, ◌∙◌, arith}
use Rattle.std.specs.Option.{option_map_or, option_and_then}
use Rattle.std.specs.FinMap as tree
use Rattle.std.proofs.lemmas.Option.{same_Some}
use Rattle.object_id.specs.declared.entry.Entry.{Entry}
use Rattle.cluster_script.specs.declared.statement.Statement.{Statement}
use Rattle.cluster_script.specs.declared.statement.Statement.TheVariants as lines
use Rattle.cluster_script.specs.NumberedRequests.{request_at}
use Rattle.cluster_script.specs.Statements.{is_check}
use Rattle.guest_driver.specs.declared.disk.Disk.{Disk}
use Rattle.peer_proto.specs.declared.guest.DiskAsk.TheVariants as disk_asks
use Rattle.peer_proto.specs.declared.guest.VdiAsk.{VdiAsk}
use Rattle.peer_proto.specs.declared.guest.VdiAsk.TheVariants as disk_commands
use Rattle.vdi_directory.proofs.DecisionLaws.{states-forward}
use Rattle.vdi_ops.specs.Op as commands
use Rattle.vdi_ops.specs.Op.{Op, OpStage, Asked, Working, Publishing, Task, Opening, WritingBack, Tagging, Copying, Making}
use Rattle.object_id.specs.declared.node.NodeId.{NodeId}
use Rattle.sheep_node.specs.declared.ask.Ask.{Ask}
use Rattle.sheep_node.specs.declared.ask.Ask.TheVariants as asks
use Rattle.sheep_node.specs.declared.course.Course.{Course}
use Rattle.sheep_node.specs.declared.course.Course.TheVariants.{Waiting, Driving, Commanding, Checking, DoingWork, AwaitingDecision}
use Rattle.sheep_node.specs.declared.course.Request.{Request}
use Rattle.sheep_node.specs.May.{is_disk_course}
use Rattle.sheep_node.specs.SessionQueues.{command_in, session_among}
use Rattle.sheep_world.specs.World.{Host, World}
use Rattle.sheep_world.specs.Asking.{ask_of_statement}
use Rattle.sheep_world.specs.Began.{Began}
use Rattle.sheep_world.specs.BegunRequests.{IsOfScript}
use Rattle.sheep_world.specs.HistoryAdditions.{is_write}
use Rattle.overlap_law.specs.MomentChanges.{RunsAreInRange}
use Rattle.overlap_law.specs.RequestsOfScript.{IsCourseOfAsk, IsOnDisk, IsStageOfAsk}
use Rattle.overlap_law.specs.WriterClaims.{IsGivenNoMore}
use Rattle.overlap_law.proofs.CoursesOfScript.{asked_by, BeganOn}
use Rattle.overlap_law.proofs.ItemsOfReplies.{is_write_at, is_check_at}
use Rattle.overlap_law.proofs.PlacedOfScript.{placed_of_script}
use Rattle.overlap_law.proofs.SessionsOfRequests.{of_test}
use Rattle.overlap_law.proofs.WholeInRuns.{sound_world}

-- no later entry gives the id again
pub no_more_then : (log later : List Entry) (vid : ℕ) → IsGivenNoMore log vid → IsGivenNoMore (log ++ later) vid
no_more_then log later vid is = let on = states-forward log later vid in omega (arith, is, on)

-- a request is a write or a check
abbrev pub IsWriterAt : List Statement → ℕ → Type 0
IsWriterAt script req = (is_write_at script req ≡ true) ⊎ (is_check_at script req ≡ true)

-- it is of the script
pub of_writer : (script : List Statement) (req : ℕ) → IsWriterAt script req → IsOfScript script req
of_writer script req (inl writes) = of_test script is_write req writes
of_writer script req (inr checks) = of_test script is_check req checks

-- it asks to write, or for a check
abbrev pub AsksToWrite : Option Ask → Type 0
AsksToWrite asked = ((offset : ℕ) × (payload : List ℕ) × (asked ≡ Some (asks.Disk (disk_asks.Write offset payload))))
    ⊎ (asked ≡ Some (asks.Vdi disk_commands.Check))

-- either way it asks for something
pub some_asked : (asked : Option Ask) → AsksToWrite asked → (ask : Ask) × (asked ≡ Some ask)
some_asked asked (inl (offset, payload, is)) = (asks.Disk (disk_asks.Write offset payload), is)
some_asked asked (inr is) = (asks.Vdi disk_commands.Check, is)

write_asks : (o : Option Statement) → option_map_or is_write o false ≡ true → AsksToWrite (option_and_then ask_of_statement o)
write_asks None is = absurd (cc (is))
write_asks (Some (lines.Write session offset length pattern)) is = inl (_, _, refl)
write_asks (Some s) is = absurd (cc (is))

check_asks : (o : Option Statement) → option_map_or is_check o false ≡ true → AsksToWrite (option_and_then ask_of_statement o)
check_asks None is = absurd (cc (is))
check_asks (Some (lines.Check session)) is = inr refl
check_asks (Some s) is = absurd (cc (is))

-- no command is for a check
task_none : (task : Task) → IsStageOfAsk (record { 0 = 0 }) 0 disk_commands.Check (Working (record { 0 = 0 }) task) → ⊥
task_none (Opening snapshot ids header) is = is
task_none (WritingBack inode) is = is
task_none (Tagging old inode) is = is
task_none (Copying ids header) is = is
task_none (Making entry opened) is = is

pub stage_none : (by : NodeId) (session : ℕ) (stage : OpStage) → IsStageOfAsk by session disk_commands.Check stage → ⊥
stage_none by session (Asked entry) (disk, is) = absurd (cc (is))
stage_none by session (Working vid task) is = task_none task is
stage_none by session (Publishing entry opened) is = is
stage_none by session (commands.Answered change) is = is

-- so it is on a disk, and no command
pub record IsPlain (opened : Option Disk) (began : Option ℕ) (course : Course) : Type 0 where
  pub on : IsOnDisk opened began
  pub plain : (op : Op) → course ≡ Commanding op → ⊥

pub plain_course : (asked : Option Ask) → AsksToWrite asked → (opened : Option Disk) (began : Option ℕ) (course : Course)
    → IsCourseOfAsk asked opened began course → IsPlain opened began course
plain_course asked writes opened began (Waiting ask) is = record { on = is.1; plain = λ op same. absurd (cc (same)) }
plain_course asked writes opened began (Driving driver) is = record { on = is.on; plain = λ op same. absurd (cc (same)) }
plain_course asked (inl (offset, payload, writes)) opened began (Commanding op) is =
    let of = is.of in absurd (cc (writes, of))
plain_course asked (inr checks) opened began (Commanding op) is =
    let same : is.ask ≡ disk_commands.Check = cc (checks, is.of) in
    absurd (stage_none op.by op.session op.stage (subst (λ (a : VdiAsk). IsStageOfAsk op.by op.session a op.stage) same is.is))
plain_course asked writes opened began (Checking check) is = record { on = is.on; plain = λ op same. absurd (cc (same)) }
plain_course asked writes opened began (DoingWork work) is = absurd is
plain_course asked writes opened began (AwaitingDecision entry) is = absurd is

module _ (script : List Statement) (range : RunsAreInRange script) (world : World) (began : Began script world) (n : ℕ) (host : Host)
    (there : tree.get world.hosts n ≡ Some host) (req : ℕ) (request : Request) (got : tree.get host.node.requests req ≡ Some request)
    (writer : IsWriterAt script req) where
  pub asks_to_write : IsWriterAt script req → AsksToWrite (asked_by script req)
  asks_to_write (inl is) = write_asks (request_at script req) is
  asks_to_write (inr is) = check_asks (request_at script req) is

  -- the disk that its session has open, on which it began
  pub record IsOnOpenDisk : Type 0 where
    pub disk : Disk
    pub opened : (session_among request.session host.node.sessions).disk ≡ Some disk
    pub on : BeganOn script world.guests req (Some disk.inode.vid)
    pub plain : (op : Op) → request.course ≡ Commanding op → ⊥

  pub on_open_disk : IsOnOpenDisk
  on_open_disk =
      let (start, at, course) = placed_of_script script range world began n host there req request got (of_writer script req writer) in
      let is = plain_course (asked_by script req) (asks_to_write writer) (session_among request.session host.node.sessions).disk start
      request.course course in
      record {
        disk = is.on.disk;
        opened = is.on.there;
        on = subst (BeganOn script world.guests req) is.on.same at;
        plain = is.plain;
      }

  -- no command goes on in its session
  pub no_command : (other : ℕ) (second : Request) (op : Op) → tree.get host.node.requests other ≡ Some second
      → second.session ≡ request.session → second.course ≡ Commanding op → ⊥
  no_command other second op found of command =
      let sole = ((sound_world script range world began).hosts n host there).node.sole_commands in
      let named : command_in request.session host.node.sessions ≡ Some other
      = ap (λ (k : ℕ). command_in k host.node.sessions) (sym of) ∙ sole.named other second found (ap is_disk_course command) in
      let same : req ≡ other = sole.alone request.session other req request named got refl in
      let is : request ≡ second
      = same_Some request second (sym got ∙ ap (tree.get host.node.requests) same ∙ found) in
      on_open_disk.plain op (ap (λ (r : Request). r.course) is ∙ command)
