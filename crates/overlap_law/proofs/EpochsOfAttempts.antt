-- Each attempt is of an epoch that has begun: when a script opens, after each change of a moment, and so in every run in range.
use Rattle.std.proofs.Common.{◌≡◌, arith, ℕ, ◌≤◌, List, [], ◌∷◌, ◌++◌, Some, sym, ap, subst, ◌∙◌, ⊎_elim}
use Rattle.std.specs.Option.{option_to_list}
use Rattle.std.specs.FinMap as tree
use Rattle.proof_tools.proofs.FiniteMaps.{get-insert_same}
use Rattle.object_id.specs.declared.entry.Entry.{Entry}
use Rattle.epoch_log.specs.Epochs.{epoch_of}
use Rattle.epoch_log.proofs.EpochLemmas.{epoch_of-append}
use Rattle.cluster_script.specs.declared.statement.Statement.{Statement}
use Rattle.peer_service.specs.State.{Peer}
use Rattle.gateway.specs.State.{Work, Open}
use Rattle.sheep_node.specs.declared.input.Input.{Input}
use Rattle.sheep_node.specs.State.{Node}
use Rattle.sheep_node.specs.StepState.{StepState}
use Rattle.sheep_node.specs.Changes as changes
use Rattle.sheep_node.specs.Changes.{Change, attempt_in}
use Rattle.sheep_node.proofs.StepResults.{step_peer}
use Rattle.sheep_world.specs.World.{Host, World}
use Rattle.sheep_world.specs.NodeCauses.{input_of_cause, event_of_cause, host_with_node, log_after_cause, world_after_cause}
use Rattle.sheep_world.specs.EventKinds.{outcome_of_step}
use Rattle.sheep_world.specs.Began.{Began}
use Rattle.sheep_world.proofs.BegunWorlds.{goes_on}
use Rattle.sheep_world.proofs.LogFrontLaws.{all_read}
use Rattle.sheep_world.proofs.NodesByTheLog.{by_the_log}
use Rattle.sheep_world.specs.RunsWithAsks.{Move}
use Rattle.overlap_law.specs.Attempts.{AttemptRecord, MessageFate, beginning_with}
use Rattle.overlap_law.specs.Past.{MomentWithPast, run_with_past}
use Rattle.overlap_law.specs.StepMoments.{SteppingNode, IsStepping, StepsByChanges, last_in_step, IsWithinStep, attempts_of_change}
use Rattle.overlap_law.specs.MomentChanges.{MomentChange, RunsAreInRange, KeptByChanges}
use Rattle.overlap_law.specs.Writers.{AttemptsHaveBegun}
use Rattle.overlap_law.proofs.DatedEffects.{epoch_rises}
use Rattle.overlap_law.proofs.EachAttemptKept.{begun-is, AllAttempts, attempts_kept}
use Rattle.overlap_law.proofs.EpochsRise.{same_so_far}
use Rattle.overlap_law.proofs.LogsOfMoments.{IsOrGrows, log_by_changes, log_of_change, log_since}
use Rattle.overlap_law.proofs.RunsByChanges.{run-kept}

-- an attempt is of an epoch up to this one
abbrev IsUpTo : ℕ → AttemptRecord → Type 0
IsUpTo most attempt = attempt.epoch ≤ most

up_told : (most : ℕ) (attempt : AttemptRecord) (fates : List MessageFate) → IsUpTo most attempt
    → IsUpTo most (record attempt { fates = fates })
up_told most attempt fates is = is

-- the log doesn't fall behind
grown_epoch : (log later : List Entry) → IsOrGrows log later → epoch_of log ≤ epoch_of later
grown_epoch log later grows = ⊎_elim
    (λ (same : later ≡ log). let is = ap epoch_of same in omega (arith, is))
    (λ (more : (entry : Entry) × (later ≡ log ++ entry ∷ [])).
    let is = ap epoch_of more.1 in let rises = epoch_rises log more.0 in omega (arith, is, rises))
    grows

module _ (host : Host) (most : ℕ) where
  opened_up : (req : ℕ) (asked : Work) (lined : StepState) → lined.node.peer.epoch ≤ most
      → AllAttempts (IsUpTo most) (option_to_list
      (beginning_with (host_with_node host lined.node) lined.node.sends req asked.work (Open (attempt_in asked lined.node))))
  opened_up req asked lined below j attempt got =
      let (request, there, same) = begun-is (host_with_node host lined.node) lined.node.sends req asked.work (attempt_in asked lined.node) j
      attempt got in
      subst (IsUpTo most) same below

  none_up : AllAttempts (IsUpTo most) []
  none_up j attempt got = absurd (cc (got))

  -- what begins is of its node's epoch
  begun_up : {input : Input} {node : Node} (so_far next : StepState) (change : Change input node so_far next) → next.node.peer.epoch ≤ most
      → AllAttempts (IsUpTo most) (attempts_of_change host so_far next change)
  begun_up so_far next (changes.Marks req number work attempt status learns over) below = none_up
  begun_up so_far next (changes.Fails session req number work attempt status course ends done why) below = none_up
  begun_up so_far next (changes.Stops session req number work attempt status course bytes ends over) below = none_up
  begun_up so_far next (changes.Refuses session req number work attempt status course cause ends done why) below = none_up
  begun_up so_far next (changes.Opens session req asked lined comes enough) below = opened_up req asked lined below
  begun_up so_far next (changes.Holds session req asked lined comes short touched) below = none_up
  begun_up so_far next (changes.Denies session req asked lined request comes short untouched there own) below = none_up
  begun_up so_far next (changes.Strays req work gateway there none apart) below = none_up
  begun_up so_far next (changes.Lines session req work moved steps waits) below = none_up
  begun_up so_far next (changes.Appends session req entry moved steps) below = none_up
  begun_up so_far next (changes.Replies session req reply moved steps) below = none_up
  begun_up so_far next (changes.Arrives session req ask disk arrival on) below = none_up
  begun_up so_far next (changes.Rejects session req ask cause arrival) below = none_up
  begun_up so_far next (changes.Recovers due) below = none_up

module _ (script : List Statement) (range : RunsAreInRange script) where
  -- a node is in no later epoch than the log
  node_behind : (world : World) → Began script world → (n : ℕ) (host : Host) → tree.get world.hosts n ≡ Some host
      → host.node.peer.epoch ≤ epoch_of world.log
  node_behind world began n host there =
      let front = all_read script world began n host there in
      let own = (by_the_log script range.is_script range.room world began n host there).epoch_so in
      let whole = ap epoch_of front.is ∙ epoch_of-append host.node.peer.entries front.rest in
      omega (arith, own, whole)

  module _ (start : MomentWithPast) (began : Began script start.world) where
    -- nor in the middle of its step
    pub behind_so_far : (stepping : SteppingNode) (so_far next : StepState) → IsStepping script start.world stepping
        → StepsByChanges stepping.cause
        → IsWithinStep stepping so_far next → next.node.peer.epoch ≤ epoch_of (log_after_cause stepping.cause start.world.log)
    behind_so_far stepping so_far next is by within =
        let made = world_after_cause script stepping.n stepping.host stepping.cause start.world in
        let last = last_in_step stepping in
        let then = goes_on script (event_of_cause stepping.n stepping.cause) start.world
        (outcome_of_step script stepping.n stepping.host stepping.cause start.world) began is.made in
        let end : last.node.peer.epoch ≤ epoch_of (log_after_cause stepping.cause start.world.log)
        = node_behind made then stepping.n (host_with_node stepping.host last.node)
        (get-insert_same start.world.hosts stepping.n (host_with_node stepping.host last.node)) in
        let same : next.node.peer ≡ last.node.peer
        = same_so_far script range start began stepping next (changes.Then within.leads within.change)
        ∙ sym (step_peer (input_of_cause stepping.cause) stepping.host.node) in
        subst (λ (peer : Peer). peer.epoch ≤ epoch_of (log_after_cause stepping.cause start.world.log)) (sym same) end

    pub change_begun : {before after : MomentWithPast} → MomentChange script start before after
        → AttemptsHaveBegun before.world.log before.past.attempts
        → AttemptsHaveBegun after.world.log after.past.attempts
    change_begun {before} {after} change begun =
        let most = epoch_of after.world.log in
        let grows = grown_epoch before.world.log after.world.log (log_of_change script change) in
        let since = grown_epoch start.world.log after.world.log (log_since script change) in
        attempts_kept (IsUpTo most) (up_told most) script range start began change
        (λ stepping so_far next is by within.
        let behind = behind_so_far stepping so_far next is by within in
        let same = ap epoch_of (log_by_changes stepping.cause by start.world.log) in
        begun_up stepping.host most so_far next within.change (omega (arith, behind, same, since)))
        (λ j attempt got. let before_it = begun j attempt got in omega (arith, before_it, grows))

  abbrev HaveBegun : MomentWithPast → Type 0
  HaveBegun moment = AttemptsHaveBegun moment.world.log moment.past.attempts

  kept_begun : KeptByChanges script HaveBegun
  kept_begun = record {
    opens = λ j attempt got. absurd (cc (got));
    keeps = λ start before after began change begun. change_begun start began change begun;
  }

  pub begun_in_run : (events : List Move) (moment : MomentWithPast) → run_with_past script events ≡ Some moment
      → AttemptsHaveBegun moment.world.log moment.past.attempts
  begun_in_run events moment is = run-kept script HaveBegun kept_begun events moment is
