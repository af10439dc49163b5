-- Each attempt of an incarnation that left is of an epoch before that of its `Leave`: a `Leave` begins an epoch behind all that have begun,
-- and an attempt begins at a node that is up, of which the present incarnation hasn't left.
use Rattle.std.proofs.Common.{◌≡◌, arith, ℕ, ◌+◌, ◌-◌, ◌≤◌, ◌<◌, Bool, true, false, cond, List, [], ◌∷◌, ◌++◌, length, Some, inl, inr, ◌⊎◌}
use Rattle.std.proofs.Common.{refl, sym, ap, subst, ◌∙◌, ⊎_elim, slice_get}
use Rattle.std.specs.Option.{option_to_list}
use Rattle.object_id.specs.declared.entry.Entry.{Entry}
use Rattle.epoch_log.specs.Epochs.{epoch_of, begins_epoch}
use Rattle.epoch_log.proofs.EpochLemmas.{epoch_of-append}
use Rattle.cluster_script.specs.declared.statement.Statement.{Statement}
use Rattle.gateway.specs.State.{Work, Open}
use Rattle.sheep_node.specs.declared.input.Input.{Input}
use Rattle.sheep_node.specs.State.{Node}
use Rattle.sheep_node.specs.StepState.{StepState}
use Rattle.sheep_node.specs.Changes as changes
use Rattle.sheep_node.specs.Changes.{Change, attempt_in}
use Rattle.sheep_world.specs.World.{Host}
use Rattle.sheep_world.specs.NodeCauses.{host_with_node}
use Rattle.sheep_world.specs.Began.{Began}
use Rattle.sheep_world.specs.RunsWithAsks.{Move}
use Rattle.overlap_law.specs.Attempts.{AttemptRecord, MessageFate, beginning_with}
use Rattle.overlap_law.specs.Grants.{leave_of}
use Rattle.overlap_law.specs.Past.{MomentWithPast, run_with_past}
use Rattle.overlap_law.specs.StepMoments.{SteppingNode, IsStepping, attempts_of_change}
use Rattle.overlap_law.specs.MomentChanges.{MomentChange, RunsAreInRange, KeptByChanges}
use Rattle.overlap_law.specs.Writers.{AttemptsHaveBegun}
use Rattle.overlap_law.proofs.EachAttemptKept.{begun-is, AllAttempts, attempts_kept}
use Rattle.overlap_law.proofs.EpochsInRuns.{up_are_members}
use Rattle.overlap_law.proofs.EpochsOfAttempts.{behind_so_far, change_begun}
use Rattle.overlap_law.proofs.GoneInRuns.{not_left, up_so, all_fenced}
use Rattle.overlap_law.proofs.KnownSteps.{known_step}
use Rattle.overlap_law.proofs.LeavesAndGrants.{leave_either}
use Rattle.overlap_law.proofs.LeavesOfLog.{leaves_plain}
use Rattle.overlap_law.proofs.LogsOfMoments.{IsOrGrows, log_by_changes, log_of_change, log_since}
use Rattle.overlap_law.proofs.OpeningTraffic.{me_so_far}
use Rattle.overlap_law.proofs.RunsByChanges.{run-kept}

-- an attempt is of an epoch before that of the leave of its gateway's incarnation, if that has left
abbrev IsEarly : List Entry → AttemptRecord → Type 0
IsEarly log attempt = (left : ℕ) → leave_of log attempt.gateway.0 attempt.incarnation ≡ Some left → attempt.epoch < left

early_told : (log : List Entry) (attempt : AttemptRecord) (fates : List MessageFate) → IsEarly log attempt
    → IsEarly log (record attempt { fates = fates })
early_told log attempt fates is = is

-- a leave was there, or it is of an epoch behind all that had begun
left_later : (log later : List Entry) → IsOrGrows log later → (node incarnation left : ℕ) → leave_of later node incarnation ≡ Some left
    → (leave_of log node incarnation ≡ Some left) ⊎ (epoch_of log < left)
left_later log later grows node incarnation left is = ⊎_elim
    (λ (same : later ≡ log). inl (ap (λ (l : List Entry). leave_of l node incarnation) (sym same) ∙ is))
    (λ (more : (entry : Entry) × (later ≡ log ++ entry ∷ [])).
    by_kind more.0 (begins_epoch more.0) refl (ap (λ (l : List Entry). leave_of l node incarnation) (sym more.1) ∙ is))
    grows
  where
    by_kind : (entry : Entry) (b : Bool) → begins_epoch entry ≡ b → leave_of (log ++ entry ∷ []) node incarnation ≡ Some left
        → (leave_of log node incarnation ≡ Some left) ⊎ (epoch_of log < left)
    by_kind entry false plain now =
        inl (ap (λ (leaves : List ℕ). slice_get leaves (incarnation - 1)) (sym (leaves_plain log entry node plain)) ∙ now)
    by_kind entry true begins now = ⊎_elim
        (λ (old : leave_of log node incarnation ≡ Some left). inl old)
        (λ new. inr (
        let newest = new.newest in
        let next : epoch_of (log ++ entry ∷ []) ≡ epoch_of log + 1
        = epoch_of-append log (entry ∷ []) ∙ ap (λ (b : Bool). epoch_of log + length (cond b (entry ∷ []) [])) begins in
        omega (arith, newest, next)))
        (leave_either log entry node incarnation left now)

-- ---- what begins in a step

module _ (host : Host) (later : List Entry) (n most : ℕ)
    (fresh : (left : ℕ) → leave_of later n host.incarnation ≡ Some left → most < left) where
  opened_early : (req : ℕ) (asked : Work) (lined : StepState) → lined.node.peer.epoch ≤ most → lined.node.me.0 ≡ n
      → AllAttempts (IsEarly later) (option_to_list
      (beginning_with (host_with_node host lined.node) lined.node.sends req asked.work (Open (attempt_in asked lined.node))))
  opened_early req asked lined below me j attempt got =
      let (request, there, same) = begun-is (host_with_node host lined.node) lined.node.sends req asked.work (attempt_in asked lined.node) j
      attempt got in
      subst (IsEarly later) same (λ left is.
      let behind = fresh left (ap (λ (k : ℕ). leave_of later k host.incarnation) (sym me) ∙ is) in
      omega (arith, below, behind))

  none_early : AllAttempts (IsEarly later) []
  none_early j attempt got = absurd (cc (got))

  begun_early : {input : Input} {node : Node} (so_far next : StepState) (change : Change input node so_far next)
      → next.node.peer.epoch ≤ most
      → next.node.me.0 ≡ n → AllAttempts (IsEarly later) (attempts_of_change host so_far next change)
  begun_early so_far next (changes.Marks req number work attempt status learns over) below me = none_early
  begun_early so_far next (changes.Fails session req number work attempt status course ends done why) below me = none_early
  begun_early so_far next (changes.Stops session req number work attempt status course bytes ends over) below me = none_early
  begun_early so_far next (changes.Refuses session req number work attempt status course cause ends done why) below me = none_early
  begun_early so_far next (changes.Opens session req asked lined comes enough) below me = opened_early req asked lined below me
  begun_early so_far next (changes.Holds session req asked lined comes short touched) below me = none_early
  begun_early so_far next (changes.Denies session req asked lined request comes short untouched there own) below me = none_early
  begun_early so_far next (changes.Strays req work gateway there none apart) below me = none_early
  begun_early so_far next (changes.Lines session req work moved steps waits) below me = none_early
  begun_early so_far next (changes.Appends session req entry moved steps) below me = none_early
  begun_early so_far next (changes.Replies session req reply moved steps) below me = none_early
  begun_early so_far next (changes.Arrives session req ask disk arrival on) below me = none_early
  begun_early so_far next (changes.Rejects session req ask cause arrival) below me = none_early
  begun_early so_far next (changes.Recovers due) below me = none_early

module _ (script : List Statement) (range : RunsAreInRange script) where
  module _ (start : MomentWithPast) (began : Began script start.world) where
    -- of a node that is up the present incarnation hasn't left, or it leaves in an epoch behind all that had begun
    fresh_of : {before after : MomentWithPast} → MomentChange script start before after → (stepping : SteppingNode)
        → IsStepping script start.world stepping → (left : ℕ)
        → leave_of after.world.log stepping.n stepping.host.incarnation ≡ Some left → epoch_of start.world.log < left
    fresh_of {before} {after} change stepping is left now = ⊎_elim
        (λ (old : leave_of start.world.log stepping.n stepping.host.incarnation ≡ Some left).
        not_left start.world.log stepping.n stepping.host.incarnation left
        ((all_fenced script range start.world began).each stepping.n stepping.host is.there).counted
        ((up_are_members script range start.world began).each stepping.n stepping.host is.there (up_so stepping.host is.up)) old)
        (λ (new : epoch_of start.world.log < left). new)
        (left_later start.world.log after.world.log (log_since script change) stepping.n stepping.host.incarnation left now)

    change_early : {before after : MomentWithPast} → MomentChange script start before after
        → AttemptsHaveBegun before.world.log before.past.attempts → AllAttempts (IsEarly before.world.log) before.past.attempts
        → AllAttempts (IsEarly after.world.log) after.past.attempts
    change_early {before} {after} change begun early =
        attempts_kept (IsEarly after.world.log) (early_told after.world.log) script range start began change
        (λ stepping so_far next is by within.
        let behind = behind_so_far script range start began stepping so_far next is by within in
        let same = ap epoch_of (log_by_changes stepping.cause by start.world.log) in
        begun_early stepping.host after.world.log stepping.n (epoch_of start.world.log) (fresh_of change stepping is) so_far next
        within.change (omega (arith, behind, same))
        (me_so_far script start.world stepping (known_step script range start.world began stepping is) next
        (changes.Then within.leads within.change)))
        (λ j attempt got left now. ⊎_elim
        (λ (old : leave_of before.world.log attempt.gateway.0 attempt.incarnation ≡ Some left). early j attempt got left old)
        (λ (new : epoch_of before.world.log < left). let most = begun j attempt got in omega (arith, most, new))
        (left_later before.world.log after.world.log (log_of_change script change) attempt.gateway.0 attempt.incarnation left now))

  -- attempts are of epochs that have begun, and early
  record AreEarly (moment : MomentWithPast) : Type 0 where
    begun : AttemptsHaveBegun moment.world.log moment.past.attempts
    early : AllAttempts (IsEarly moment.world.log) moment.past.attempts

  kept_early : KeptByChanges script AreEarly
  kept_early = record {
    opens = record { begun = λ j attempt got. absurd (cc (got)); early = λ j attempt got. absurd (cc (got)) };
    keeps = λ start before after began change are. record {
      begun = change_begun script range start began change are.begun;
      early = change_early start began change are.begun are.early;
    };
  }

  pub early_in_run : (events : List Move) (moment : MomentWithPast) → run_with_past script events ≡ Some moment
      → AllAttempts (IsEarly moment.world.log) moment.past.attempts
  early_in_run events moment is = (run-kept script AreEarly kept_early events moment is).early
