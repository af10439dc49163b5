-- What the inodes of reserved ids may come to have stays drawn from what the ids are made from over each change of a moment on the way of
-- an event, if the inodes do that commands create next in the middle of a step.
use Rattle.std.proofs.Common.{◌≡◌, ◌≢◌, ⊎_elim, ℕ, Bool, List, Some, sym, subst, ◌∙◌}
use Rattle.std.specs.FinMap as tree
use Rattle.proof_tools.proofs.FiniteMaps.{get-insert_same, get-insert_other, get-insert_cases}
use Rattle.cluster_script.specs.declared.statement.Statement.{Statement}
use Rattle.peer_proto.specs.declared.work.ObjWork.{ObjWork}
use Rattle.vdi_directory.specs.Decisions.{log_effects}
use Rattle.sheep_node.specs.StepState.{StepState}
use Rattle.sheep_node.specs.WantedWorks.{HasWork}
use Rattle.sheep_world.specs.NodeCauses.{input_of_cause, host_with_node}
use Rattle.sheep_world.specs.World.{Host}
use Rattle.sheep_world.specs.RunsWithAsks.{Move}
use Rattle.overlap_law.specs.MomentChanges.{MomentChange, MomentTrail, RunsAreInRange}
use Rattle.overlap_law.specs.MomentChanges as moments
use Rattle.overlap_law.specs.Past.{MomentWithPast, run_with_past}
use Rattle.overlap_law.specs.StayingDrafts.{CreatesDrawn, DraftsStayDrawn, ParentsAreGood, NewInodesAreDrawn}
use Rattle.overlap_law.specs.StepMoments.{SteppingNode, IsStepping, StepsByChanges, IsWithinStep, moment_in_step}
use Rattle.overlap_law.specs.ToCome.{SnapshotsStayFrozen}
use Rattle.overlap_law.proofs.AnswersInMoments.{not_lost}
use Rattle.overlap_law.proofs.DrawnWorks.{asked_draw}
use Rattle.overlap_law.proofs.GuestsInMoments.{IsGoingOn, IsBetween, between}
use Rattle.overlap_law.proofs.WorksCome.{ComesNow, works_come}
use Rattle.overlap_law.proofs.DraftsOfMoments.{used_now, creates_stays, kept_works, drafts_by}

-- ---- a node goes on in its step

module _ (script : List Statement) (range : RunsAreInRange script) (events : List Move) (start : MomentWithPast)
    (is : run_with_past script events ≡ Some start) (good_id : ℕ → Bool) (on : SteppingNode) (so_far next : StepState)
    (steps : IsStepping script start.world on) (by : StepsByChanges on.cause) (within : IsWithinStep on so_far next)
    (trail : MomentTrail script start (moment_in_step script on start so_far))
    (drafts : DraftsStayDrawn (log_effects (moment_in_step script on start so_far).world.log) good_id
    (moment_in_step script on start so_far).world.hosts (moment_in_step script on start so_far).past.attempts)
    (frozen : SnapshotsStayFrozen (log_effects (moment_in_step script on start so_far).world.log) good_id
    (moment_in_step script on start so_far).world.hosts (moment_in_step script on start so_far).past.attempts)
    (parents : ParentsAreGood (log_effects (moment_in_step script on start next).world.log) good_id)
    (inodes : NewInodesAreDrawn script good_id start (moment_in_step script on start so_far)) where
  abbrev here : MomentWithPast
  here = moment_in_step script on start so_far

  abbrev then : MomentWithPast
  then = moment_in_step script on start next

  change_so : MomentChange script start (moment_in_step script on start so_far) (moment_in_step script on start next)
  change_so = moments.StepGoesOn on so_far next steps by within

  abbrev was : Host
  was = host_with_node on.host so_far.node

  stays : (work : ObjWork)
      → CreatesDrawn (log_effects (moment_in_step script on start so_far).world.log) good_id
      (moment_in_step script on start so_far).world.hosts (moment_in_step script on start so_far).past.attempts work
      → CreatesDrawn (log_effects (moment_in_step script on start next).world.log) good_id
      (moment_in_step script on start next).world.hosts (moment_in_step script on start next).past.attempts work
  stays work = creates_stays script range events start here then is trail change_so good_id drafts frozen parents work
      (λ vid index draft creates has. used_now script range events start here then is trail change_so good_id vid index draft)

  own : (req : ℕ) (work : ObjWork) → HasWork req work next.node.gateway.works next.node.sessions
      → CreatesDrawn (log_effects (moment_in_step script on start next).world.log) good_id
      (moment_in_step script on start next).world.hosts (moment_in_step script on start next).past.attempts work
  own req work has = stays work (⊎_elim
      (λ (had : HasWork req work so_far.node.gateway.works so_far.node.sessions).
      drafts.works on.n was (get-insert_same start.world.hosts on.n was) (not_lost on.host steps.up) req work had)
      (λ (comes : ComesNow (input_of_cause on.cause) on.host.node so_far req work).
      asked_draw script range events start is on steps by so_far within.leads trail good_id inodes comes.session req work comes.moved
      comes.steps)
      (works_come (input_of_cause on.cause) on.host.node so_far next within.change req work has))

  pub going_on : DraftsStayDrawn (log_effects (moment_in_step script on start next).world.log) good_id
      (moment_in_step script on start next).world.hosts (moment_in_step script on start next).past.attempts
  going_on = drafts_by script range events start here then is trail change_so good_id drafts frozen parents
      (λ n host at up req work has. ⊎_elim
      (λ (mine : (n ≡ on.n) × (host_with_node on.host next.node ≡ host)).
      own req work (subst (λ (h : Host). HasWork req work h.node.gateway.works h.node.sessions) (sym mine.1) has))
      (λ (other : (n ≢ on.n) × (tree.get start.world.hosts n ≡ Some host)).
      stays work (drafts.works n host (get-insert_other start.world.hosts on.n was n other.0 ∙ other.1) up req work has))
      (get-insert_cases start.world.hosts on.n (host_with_node on.host next.node) n host at))

-- ---- every change

pub drafts_stay : (script : List Statement) → RunsAreInRange script → (events : List Move) (start before after : MomentWithPast)
    → run_with_past script events ≡ Some start → MomentTrail script start before → MomentChange script start before after
    → (good_id : ℕ → Bool) → NewInodesAreDrawn script good_id start before → ParentsAreGood (log_effects after.world.log) good_id
    → SnapshotsStayFrozen (log_effects before.world.log) good_id before.world.hosts before.past.attempts
    → DraftsStayDrawn (log_effects before.world.log) good_id before.world.hosts before.past.attempts
    → DraftsStayDrawn (log_effects after.world.log) good_id after.world.hosts after.past.attempts
drafts_stay script range events start before after is trail change good_id inodes parents frozen drafts = ⊎_elim
    (λ (g : IsGoingOn script start before after).
    subst (λ (m : MomentWithPast). DraftsStayDrawn (log_effects m.world.log) good_id m.world.hosts m.past.attempts) (sym g.after_so)
    (going_on script range events start is good_id g.stepping g.so_far g.next g.is g.by g.within
    (subst (MomentTrail script start) g.before_so trail)
    (subst (λ (m : MomentWithPast). DraftsStayDrawn (log_effects m.world.log) good_id m.world.hosts m.past.attempts) g.before_so drafts)
    (subst (λ (m : MomentWithPast). SnapshotsStayFrozen (log_effects m.world.log) good_id m.world.hosts m.past.attempts) g.before_so frozen)
    (subst (λ (m : MomentWithPast). ParentsAreGood (log_effects m.world.log) good_id) g.after_so parents)
    (subst (NewInodesAreDrawn script good_id start) g.before_so inodes)))
    (λ (b : IsBetween before after).
    drafts_by script range events start before after is trail change good_id drafts frozen parents
    (λ n host at up. kept_works script range events start before after is trail change good_id drafts frozen parents n host at up
    (b.0 n host at)))
    (between script start change)
