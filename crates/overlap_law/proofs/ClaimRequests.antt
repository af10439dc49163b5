-- What a request that begins, goes on or ends leaves of what sessions rest on, and what its step owes; and what a step knows of the log.
use Rattle.std.proofs.Common.{◌≡◌, ◌≢◌, inl, ⊎_elim, ℕ, zero, suc, ◌+◌, ◌≤◌, Bool, true, false, List, [], ◌∷◌, ◌++◌, drop, take, Option}
use Rattle.std.proofs.Common.{Some, None, refl, sym, ap, subst, ◌∙◌, arith, ◌==◌}
use Rattle.std.specs.List.{list_any, slice_get}
use Rattle.std.specs.FinMap as tree
use Rattle.std.proofs.lemmas.Option.{same_Some}
use Rattle.proof_tools.proofs.FiniteMaps.{get-insert_same}
use Rattle.std.proofs.lemmas.Bool.{and_from, both_ways, eq-eqb, or_parts}
use Rattle.object_id.specs.declared.cause.Cause.{Cause}
use Rattle.object_id.specs.declared.node.NodeId.{NodeId}
use Rattle.object_id.specs.declared.entry.Entry.{Entry}
use Rattle.object_id.specs.Same.{is_same_entry}
use Rattle.epoch_log.specs.Epochs.{epoch_of}
use Rattle.inode.specs.Layout.{Content}
use Rattle.vdi_directory.specs.declared.header.Header.{Header}
use Rattle.vdi_directory.specs.Decisions.{log_effects}
use Rattle.vdi_directory.specs.Effects.{header_of}
use Rattle.peer_proto.specs.declared.guest.GuestRsp.{GuestRsp}
use Rattle.gateway.specs.State.{Work}
use Rattle.gateway.specs.declared.message.Status.{Status}
use Rattle.guest_driver.specs.declared.disk.Disk.{Disk}
use Rattle.guest_driver.specs.Driver as drivers
use Rattle.guest_driver.specs.declared.act.DriverAct.{DriverAct}
use Rattle.guest_driver.specs.declared.act.DriverAct.TheVariants as driver_acts
use Rattle.disk_check.specs.declared.act.CheckAct.{CheckAct}
use Rattle.disk_check.specs.declared.act.CheckAct.TheVariants as check_acts
use Rattle.vdi_ops.specs.declared.act.OpAct.TheVariants as op_acts
use Rattle.vdi_ops.specs.Entries.{unlock_of}
use Rattle.vdi_ops.specs.Op.{OpStage, Asked, Working, Publishing, Answered, disk_change_at, Op, OpStep, IsAwaitedAtOpStage}
use Rattle.vdi_ops.specs.Steps.{op_on_done, done_at}
use Rattle.disk_check.specs.Check.{Check}
use Rattle.sheep_node.specs.declared.ask.Ask.{Ask}
use Rattle.sheep_node.specs.declared.input.Input.{Input}
use Rattle.sheep_node.specs.declared.input.Input.TheVariants as inputs
use Rattle.sheep_node.specs.declared.course.Course.{Course}
use Rattle.sheep_node.specs.declared.course.Request.{Request}
use Rattle.sheep_node.specs.declared.session.Session.{Session}
use Rattle.sheep_node.specs.declared.course.Course.TheVariants.{Driving, Commanding, Checking}
use Rattle.sheep_node.specs.State.{Node}
use Rattle.sheep_node.specs.StepState.{StepState, session_in}
use Rattle.sheep_node.specs.Courses.{disk_after, after_driver_step, after_command_step}
use Rattle.sheep_node.specs.Changes.{Arrival, Outcome, ToWork, ToEntry, ToReply, outcome_of_driver, outcome_of_check, without_ended_work}
use Rattle.sheep_node.proofs.WantedSteps.{IsWantedStep}
use Rattle.overlap_law.specs.CommandDisks.{opened_in}
use Rattle.overlap_law.specs.WriterClaims.{IsNamed, IsStageKept, LetsGo, IsLetGo, IsDiskKept, HasClaims, HasLock, IsPublicationKept}
use Rattle.overlap_law.specs.WriterClaims.{HasLockYet}
use Rattle.overlap_law.specs.Writers.{unlocks}
use Rattle.overlap_law.proofs.AwaitedChanges.{Requests, AreAwaitedSoFar}
use Rattle.overlap_law.proofs.AwaitedCommands.{is_command}
use Rattle.overlap_law.proofs.AwaitedSteps.{entry_of_input, MeetsCommands}
use Rattle.overlap_law.proofs.KeptIds.{lock_yet}
use Rattle.overlap_law.proofs.ClaimChanges.{Sessions, disk_of, LetsNothingGo, IsOfSession, one_alike, retabled_claims, put_claims}
use Rattle.overlap_law.proofs.ClaimChanges.{stepped_claims}
use Rattle.overlap_law.proofs.ClaimCommands.{IsDiskSafe, AreSafe, IsStepKept}
use Rattle.overlap_law.proofs.ClaimTransport.{PutsNoMore}
use Rattle.overlap_law.proofs.CountedEntries.{times, once_if, times-cons, times-push, itself, same_entry, times-none}

-- an entry that stands in a log from a place on is counted there
pub counted_from : (log : List Entry) (from place : ℕ) (entry : Entry) → from ≤ place → slice_get log place ≡ Some entry
    → 1 ≤ times entry (drop from log)
counted_from [] from place entry after got = absurd (cc (got))
counted_from (first ∷ log) zero zero entry after got =
    let same : first ≡ entry = same_Some first entry got in
    let one : times entry (first ∷ log) ≡ 1 + times entry log
    = times-cons entry first log ∙ ap (λ (e : Entry). once_if (is_same_entry entry e) + times entry log) same
    ∙ ap (λ (b : Bool). once_if b + times entry log) (itself entry) in
    omega (arith, one)
counted_from (first ∷ log) zero (suc place) entry after got =
    let later = counted_from log zero place entry (omega arith) got in
    let all = times-cons entry first log in
    omega (arith, later, all)
counted_from (first ∷ log) (suc from) zero entry after got = absurd (omega (arith, after))
counted_from (first ∷ log) (suc from) (suc place) entry after got = counted_from log from place entry (omega (arith, after)) got

-- where there is no unlock of an id, there is none of this session of this node
pub none_kept : (me : NodeId) (session vid : ℕ) (outbox : List Entry) → list_any (unlocks session vid) outbox ≡ false
    → times (unlock_of me session vid) outbox ≡ 0
none_kept me session vid [] none = times-none (unlock_of me session vid)
none_kept me session vid (first ∷ later) none =
    let parts = or_parts (unlocks session vid first) (list_any (unlocks session vid) later) none in
    let rest = none_kept me session vid later parts.1 in
    let all : times (unlock_of me session vid) (first ∷ later) ≡ 0 + times (unlock_of me session vid) later
    = times-cons (unlock_of me session vid) first later
    ∙ ap (λ (b : Bool). once_if b + times (unlock_of me session vid) later)
    (apart (is_same_entry (unlock_of me session vid) first) refl parts.0) in
    omega (arith, rest, all)
  where
    apart : (b : Bool) → is_same_entry (unlock_of me session vid) first ≡ b → unlocks session vid first ≡ false
        → is_same_entry (unlock_of me session vid) first ≡ false
    apart true same other =
        let itself : unlocks session vid (unlock_of me session vid) ≡ true
        = and_from (session == session) (vid == vid) (eq-eqb session session refl) (eq-eqb vid vid refl) in
        absurd (both_ways (unlocks session vid first) other
        (ap (unlocks session vid) (sym (same_entry (unlock_of me session vid) first same)) ∙ itself))
    apart false is other = is

-- what a step knows of the log: which entry it reads, and that what isn't read stands behind
pub record IsReadOf (log read unread : List Entry) (from : ℕ) (input : Input) (node : Node) : Type 0 where
  pub unread_so : ((entry : Entry) → entry_of_input input ≢ Some entry) → drop from log ≡ unread
  pub got : (entry : Entry) → input ≡ inputs.LogEntry entry → slice_get log from ≡ Some entry
  pub before : (entry : Entry) → input ≡ inputs.LogEntry entry → take from log ≡ node.peer.entries
  pub upto : (entry : Entry) → input ≡ inputs.LogEntry entry → take (from + 1) log ≡ read
  pub named : (vid : ℕ) (header : Header) → header_of (log_effects read) vid ≡ Some header → IsNamed log vid header.name

module _ (read unread : List Entry) (input : Input) (node : Node) (meets : MeetsCommands read input node) (log : List Entry) (from : ℕ)
    (reads : IsReadOf log read unread from input node) where
  abbrev me : NodeId
  me = node.me

  abbrev Is : StepState → Type 0
  Is = AreAwaitedSoFar read node.me unread (entry_of_input input)

  abbrev pub HasSoFar : StepState → Type 0
  HasSoFar so_far = HasClaims log so_far.node.outbox read from node.me so_far.node.requests so_far.node.sessions

  -- what is owed where a request takes a step to this
  abbrev pub IsNextKept : StepState → ℕ → Outcome → Type 0
  IsNextKept moved req (ToWork work) = Unit {0}
  IsNextKept moved req (ToEntry entry) =
      HasClaims log (moved.node.outbox ++ entry ∷ []) read from node.me moved.node.requests moved.node.sessions
  IsNextKept moved req (ToReply reply) = LetsNothingGo moved.node.requests req

  -- ---- requests that are no commands

  pub plain_lets : (course : Course) (op : Op) → is_command course ≡ false → course ≡ Commanding op → ⊥
  plain_lets course op plain is = let command = ap is_command is in absurd (cc (plain, command))

  -- a request that isn't there, or is no command, lets nothing go
  pub not_there_lets : (requests : Requests) (req : ℕ) → tree.get requests req ≡ None → LetsNothingGo requests req
  not_there_lets requests req none old op vid got command lets = absurd (cc (none, got))

  pub plain_there_lets : (requests : Requests) (session req : ℕ) (course : Course) → is_command course ≡ false
      → tree.get requests req ≡ Some (record { session = session; course = course }) → LetsNothingGo requests req
  plain_there_lets requests session req course plain there old op vid got command lets =
      let same : record { session = session; course = course } ≡ old = same_Some _ old (sym there ∙ got) in
      plain_lets course op plain (ap (λ (r : Request). r.course) same ∙ command)

  -- nor does one that was just put so
  pub plain_put_lets : (requests : Requests) (session req : ℕ) (course : Course) → is_command course ≡ false
      → LetsNothingGo (tree.insert requests req (record { session = session; course = course })) req
  plain_put_lets requests session req course plain =
      plain_there_lets (tree.insert requests req (record { session = session; course = course })) session req course plain
      (get-insert_same requests req (record { session = session; course = course }))

  pub plain_kept : (outbox : List Entry) (requests : Requests) (sessions : Sessions)
      → HasClaims log outbox read from node.me requests sessions
      → (session req : ℕ) (course : Course) → is_command course ≡ false → LetsNothingGo requests req
      → HasClaims log outbox read from node.me (tree.insert requests req (record { session = session; course = course })) sessions
  plain_kept outbox requests sessions has session req course plain nothing =
      put_claims log read from node.me outbox requests sessions has req nothing session course
      (λ op is. absurd (plain_lets course op plain is))

  pub freed_kept : (session req : ℕ) (work : Work) (status : Status) (so_far : StepState) → HasSoFar so_far
      → HasSoFar (without_ended_work session req work status so_far)
  freed_kept session req work status so_far has =
      one_alike log read from node.me so_far.node.outbox so_far.node.requests so_far.node.sessions session _ refl has

  pub arrived_lets : (so_far : StepState) (session req : ℕ) (ask : Ask) {refusal : Option Cause}
      → Arrival input node so_far session req ask refusal
      → LetsNothingGo so_far.node.requests req
  arrived_lets so_far session req ask arrival =
      not_there_lets so_far.node.requests req (arrival.none (meets.sound req session ask arrival.from))

  -- one that is alone in its session
  pub sole_kept : (session req : ℕ) (course : Course) (so_far : StepState) → is_command course ≡ false
      → LetsNothingGo so_far.node.requests req
      → HasSoFar so_far → HasClaims log so_far.node.outbox read from node.me
      (tree.insert so_far.node.requests req (record { session = session; course = course }))
      (tree.insert so_far.node.sessions session (record (session_in session so_far) { command = Some req }))
  sole_kept session req course so_far plain nothing has =
      one_alike log read from node.me so_far.node.outbox (tree.insert so_far.node.requests req
      (record { session = session; course = course })) so_far.node.sessions session _ refl
      (plain_kept so_far.node.outbox so_far.node.requests so_far.node.sessions has session req course plain nothing)

  -- a read or write goes on
  pub driven_kept : (session req : ℕ) (disk : Disk) (step : drivers.DriverStep) (so_far : StepState)
      → (session_in session so_far).disk ≡ Some disk
      → IsWantedStep disk.inode step → step.inode.name ≡ disk.inode.name → LetsNothingGo so_far.node.requests req → HasSoFar so_far
      → HasSoFar (after_driver_step session req disk step so_far)
  driven_kept session req disk step so_far on wanted name nothing has =
      let after : Session = record (session_in session so_far) { disk = Some (record disk { inode = step.inode }) } in
      plain_kept so_far.node.outbox so_far.node.requests (tree.insert so_far.node.sessions session after)
      (retabled_claims log read from node.me so_far.node.outbox so_far.node.requests so_far.node.sessions session after disk
      (record disk { inode = step.inode }) on refl refl wanted.vid name has)
      session req (Driving step.driver) refl nothing

  pub driver_next : (act : DriverAct) (moved : StepState) (session req : ℕ) (driver : drivers.Driver)
      → tree.get moved.node.requests req ≡ Some (record { session = session; course = Driving driver })
      → IsNextKept moved req (outcome_of_driver act)
  driver_next (driver_acts.Work work) moved session req driver there = tt
  driver_next (driver_acts.Reply reply) moved session req driver there =
      plain_there_lets moved.node.requests session req (Driving driver) refl there

  pub check_next : (act : CheckAct) (moved : StepState) (session req : ℕ) (check : Check)
      → tree.get moved.node.requests req ≡ Some (record { session = session; course = Checking check })
      → IsNextKept moved req (outcome_of_check act)
  check_next (check_acts.Work work) moved session req check there = tt
  check_next (check_acts.Reply found) moved session req check there =
      plain_there_lets moved.node.requests session req (Checking check) refl there

  -- ---- commands

  -- a command that is replied to lets nothing go
  pub reply_lets : (reply : GuestRsp) (stage : OpStage) → IsAwaitedAtOpStage (op_acts.Reply reply) stage → (vid : ℕ) → LetsGo vid stage → ⊥
  reply_lets reply (Asked entry) awaited vid lets = absurd (cc (awaited))
  reply_lets reply (Working of task) awaited vid lets = lets
  reply_lets reply (Publishing entry made) awaited vid lets = absurd (cc (awaited))
  reply_lets reply (Answered change) awaited vid lets = lets

  pub done_lets : (bytes : List ℕ) (op : Op) (step : OpStep) → op_on_done bytes op ≡ Some step → (vid : ℕ) → LetsGo vid op.stage → ⊥
  unfolding op_on_done
  done_lets bytes op step is vid = by_stage op.stage is
    where
      by_stage : (stage : OpStage) → done_at bytes op stage ≡ Some step → LetsGo vid stage → ⊥
      by_stage (Asked entry) is lets = absurd (cc (is))
      by_stage (Working of task) is lets = lets
      by_stage (Publishing entry made) is lets = absurd (cc (is))
      by_stage (Answered change) is lets = lets

  -- the disks of a session are safe, whose command lets none go
  pub safe_disks : (outbox : List Entry) (requests : Requests) (sessions : Sessions)
      → HasClaims log outbox read from node.me requests sessions → (session : ℕ)
      → ((vid : ℕ) → IsLetGo requests session vid → ⊥) → AreSafe log outbox read from node.me session (disk_of session sessions)
  safe_disks outbox requests sessions has session none disk opened = by_kind disk.snapshot (has.disks session disk opened)
    where
      by_kind : (b : Bool) → IsDiskKept log outbox read node.me requests session b disk.inode
          → IsDiskSafe log outbox read from node.me session b disk.inode
      by_kind true is = is
      by_kind false (named, is) = (
        named,
        ⊎_elim (λ (lock : HasLock log outbox node.me session (epoch_of read) disk.inode.vid). lock)
            (λ (goes : IsLetGo requests session disk.inode.vid). absurd (none disk.inode.vid goes)) is,
      )

  pub kept_of_safe : (outbox : List Entry) (requests : Requests) (session : ℕ) (snapshot : Bool) (inode : Content)
      → IsDiskSafe log outbox read from node.me session snapshot inode → IsDiskKept log outbox read node.me requests session snapshot inode
  kept_of_safe outbox requests session true inode is = is
  kept_of_safe outbox requests session false inode (named, lock) = (named, inl lock)

  yet_of_safe : (outbox : List Entry) (session : ℕ) (snapshot : Bool) (inode : Content)
      → IsDiskSafe log outbox read from node.me session snapshot inode → snapshot ≡ false
      → HasLockYet log node.me session (epoch_of read) inode.vid
  yet_of_safe outbox session true inode is working = absurd (cc (working))
  yet_of_safe outbox session false inode (named, lock) working = lock_yet log outbox node.me session (epoch_of read) inode.vid lock

  -- no other request is a command of the session
  abbrev pub IsSoleIn : Requests → ℕ → ℕ → Type 0
  IsSoleIn requests req session =
      (other : ℕ) (request : Request) → tree.get requests other ≡ Some request → is_command request.course ≡ true → request.session
      ≡ session
      → other ≡ req

  -- who lets a disk go is the session's one command
  pub its_stage : (requests : Requests) (session req : ℕ) (op : Op)
      → tree.get requests req ≡ Some (record { session = session; course = Commanding op })
      → IsSoleIn requests req session → (vid : ℕ) → IsLetGo requests session vid → LetsGo vid op.stage
  its_stage requests session req op there sole vid goes =
      let same : goes.req ≡ req = sole goes.req goes.request goes.there (ap is_command goes.command) goes.of in
      let one : record { session = session; course = Commanding op } ≡ goes.request
      = same_Some _ goes.request (sym there ∙ ap (tree.get requests) (sym same) ∙ goes.there) in
      let course : Commanding op ≡ Commanding goes.op = ap (λ (r : Request). r.course) one ∙ goes.command in
      let its : op ≡ goes.op = cc (course) in
      subst (λ (o : Op). LetsGo vid o.stage) (sym its) goes.lets

  -- a command is put with its step
  pub stepped : (outbox : List Entry) (so_far : StepState)
      → HasClaims log outbox read from node.me so_far.node.requests so_far.node.sessions
      → (session req : ℕ) (step : OpStep) → IsOfSession so_far.node.requests req session → IsSoleIn so_far.node.requests req session
      → IsStepKept log outbox read from node.me session (session_in session so_far).disk step
      → HasClaims log outbox read from node.me (after_command_step session req step so_far).node.requests
      (after_command_step session req step so_far).node.sessions
  stepped outbox so_far has session req step own sole kept =
      stepped_claims log read from node.me outbox so_far.node.requests so_far.node.sessions has req session own sole step.op
      (record (session_in session so_far) {
        disk = disk_after (disk_change_at step.op.stage) (session_in session so_far).disk;
        command = Some req;
      })
      kept.stage
      (λ disk opened. kept_of_safe outbox (tree.insert so_far.node.requests req (record { session = session; course = Commanding step.op }))
      session disk.snapshot disk.inode (kept.safe disk opened))
      (λ disk opened working there. yet_of_safe outbox session disk.snapshot disk.inode (kept.safe disk opened) working)

  pub put_there : (so_far : StepState) (session req : ℕ) (step : OpStep)
      → tree.get (after_command_step session req step so_far).node.requests req
      ≡ Some (record { session = session; course = Commanding step.op })
  put_there so_far session req step = get-insert_same so_far.node.requests req (record { session = session; course = Commanding step.op })

  pub reply_next : (so_far : StepState) (session req : ℕ) (step : OpStep) (reply : GuestRsp)
      → IsAwaitedAtOpStage (op_acts.Reply reply) step.op.stage
      → LetsNothingGo (after_command_step session req step so_far).node.requests req
  reply_next so_far session req step reply awaited old op vid got command lets =
      let same : record { session = session; course = Commanding step.op }
      ≡ old = same_Some _ old (sym (put_there so_far session req step) ∙ got) in
      let course : Commanding step.op ≡ Commanding op = ap (λ (r : Request). r.course) same ∙ command in
      let its : step.op ≡ op = cc (course) in
      reply_lets reply step.op.stage awaited vid (subst (λ (o : Op). LetsGo vid o.stage) (sym its) lets)

  -- an entry that isn't this one is no more often there
  pub no_more_of : (outbox : List Entry) (last : Entry) (stage : OpStage) → ((made : Option Content) → stage ≡ Publishing last made → ⊥)
      → PutsNoMore outbox (outbox ++ last ∷ []) stage
  no_more_of outbox last stage apart entry made at there = by_test (is_same_entry entry last) refl
    where
      by_test : (b : Bool) → is_same_entry entry last ≡ b → 1 ≤ times entry outbox
      by_test true same = absurd (apart made (at ∙ ap (λ (e : Entry). Publishing e made) (same_entry entry last same)))
      by_test false other =
          let more : times entry (outbox ++ last ∷ []) ≡ times entry outbox + 0
          = times-push entry outbox last ∙ ap (λ (b : Bool). times entry outbox + once_if b) other in
          omega (arith, more, there)

  -- of an entry that no command publishes
  pub unpublished : (outbox : List Entry) (requests : Requests) (sessions : Sessions)
      → HasClaims log outbox read from node.me requests sessions → (last : Entry)
      → ((session : ℕ) (opened : Option (Bool × ℕ)) (made : Option Content)
      → IsPublicationKept log outbox read from node.me session opened last made → ⊥)
      → (req : ℕ) (request : Request) (op : Op) → tree.get requests req ≡ Some request → request.course ≡ Commanding op
      → PutsNoMore outbox (outbox ++ last ∷ []) op.stage
  unpublished outbox requests sessions has last never req request op there command =
      no_more_of outbox last op.stage (λ made at.
      never request.session (opened_in request.session sessions) made
      (subst (IsStageKept log outbox read from node.me request.session (opened_in request.session sessions)) at
      (has.commands req request op there command)))
