-- Of each work that is open after a change of a node's step: it was there before as it is, or it learns what became of a message of its
-- attempt, or its attempt opens now.
use Rattle.std.proofs.Common.{◌≡◌, ◌≢◌, ⊎_elim, ℕ, ◌+◌, Some, sym, ap, subst, ◌∙◌, refl}
use Rattle.std.specs.FinMap as tree
use Rattle.proof_tools.proofs.FiniteMaps.{get-insert_cases}
use Rattle.object_id.specs.declared.cause.Cause.TheVariants.{Halt}
use Rattle.gateway.specs.declared.message.Status.{Status}
use Rattle.gateway.specs.Work.{zones_for}
use Rattle.gateway.specs.Attempt as gateways
use Rattle.gateway.specs.State.{Work, Open, Ended, WaitsForMembers}
use Rattle.gateway.specs.Step.{with_work, attempt_with_status}
use Rattle.sheep_node.specs.declared.input.Input.{Input}
use Rattle.sheep_node.specs.State.{Node}
use Rattle.sheep_node.specs.StepState.{StepState, with_gateway}
use Rattle.sheep_node.specs.Changes as changes
use Rattle.sheep_node.specs.Changes.{LearnsStatus, gateway_with_touch, without_ended_work, ToWork, ToEntry, ToReply, attempt_in}
use Rattle.sheep_node.specs.Changes.{with_open_attempt, without_denied_work, zones_of_members, WorkIsNext, Change}
use Rattle.sheep_node.proofs.AwaitedWorks.{Works}
use Rattle.sheep_node.proofs.OneWorkChanges.{StepHasOneWork, never_alone}
use Rattle.overlap_law.proofs.OpenAttempts.{Fewer, FewerIn, gone_fewer, ended_fewer, refused_fewer, denied_fewer, all_stay, steps_fewer}
use Rattle.overlap_law.proofs.OpenAttempts.{next_fewer, open_of}

-- how a request's work comes to be open with this attempt
pub data OpenWork (input : Input) (node : Node) (so_far next : StepState) (q : ℕ) (work : Work) (current : gateways.Attempt)
    : Type 0 where
  Stayed : tree.get so_far.node.gateway.works q ≡ Some work → OpenWork input node so_far next q work current
  Learnt : (number : ℕ) (was : Work) (attempt : gateways.Attempt) (status : Status)
      → LearnsStatus input node so_far q number was attempt status
      → work ≡ record was { stage = Open (attempt_with_status number status attempt) }
      → current ≡ attempt_with_status number status attempt → OpenWork input node so_far next q work current
  Opened : (session : ℕ) (asked : Work) (lined : StepState) → WorkIsNext input node so_far session q asked lined
      → next ≡ with_open_attempt q asked lined → work ≡ record asked { stage = Open (attempt_in asked lined.node) }
      → current ≡ attempt_in asked lined.node → OpenWork input node so_far next q work current

-- so it is of each
abbrev AllCame : Input → Node → StepState → StepState → Type 0
AllCame input node so_far next = (q : ℕ) (work : Work) (current : gateways.Attempt) → tree.get next.node.gateway.works q ≡ Some work
    → work.stage ≡ Open current → OpenWork input node so_far next q work current

module _ {input : Input} {node : Node} where
  few : (so_far next : StepState) → FewerIn so_far.node.gateway.works next → AllCame input node so_far next
  few so_far next less q work current got stage = Stayed (less q work got)

  -- a work is put that isn't open
  shut : (so_far next : StepState) (middle : Works) (req : ℕ) (now : Work) → Fewer so_far.node.gateway.works middle
      → next.node.gateway.works ≡ tree.insert middle req now → ((current : gateways.Attempt) → now.stage ≢ Open current)
      → AllCame input node so_far next
  shut so_far next middle req now less put never q work current got stage = ⊎_elim
      (λ (own : (q ≡ req) × (now ≡ work)). absurd (never current (ap (λ (w : Work). w.stage) own.1 ∙ stage)))
      (λ (other : (q ≢ req) × (tree.get middle q ≡ Some work)). Stayed (less q work other.1))
      (get-insert_cases middle req now q work (ap (λ (works : Works). tree.get works q) (sym put) ∙ got))

  learnt : (so_far : StepState) (req number : ℕ) (work : Work) (attempt : gateways.Attempt) (status : Status)
      → LearnsStatus input node so_far req number work attempt status
      → AllCame input node so_far (with_gateway (with_work req (record work {
        stage = Open (attempt_with_status number status attempt);
      }) (gateway_with_touch req work status so_far)) so_far)
  learnt so_far req number work attempt status learns q other current got stage =
      let now : Work = record work { stage = Open (attempt_with_status number status attempt) } in
      ⊎_elim
      (λ (own : (q ≡ req) × (now ≡ other)).
      Learnt number work attempt status
      (subst (λ (k : ℕ). LearnsStatus input node so_far k number work attempt status) (sym own.0) learns) (sym own.1)
      (open_of current (attempt_with_status number status attempt) (sym stage ∙ ap (λ (w : Work). w.stage) (sym own.1))))
      (λ (elsewhere : (q ≢ req) × (tree.get so_far.node.gateway.works q ≡ Some other)). Stayed elsewhere.1)
      (get-insert_cases so_far.node.gateway.works req now q other got)

  opened : (so_far : StepState) (session req : ℕ) (asked : Work) (lined : StepState)
      → WorkIsNext input node so_far session req asked lined → AllCame input node so_far (with_open_attempt req asked lined)
  opened so_far session req asked lined comes q other current got stage =
      let now : Work = record asked { stage = Open (attempt_in asked lined.node) } in
      ⊎_elim
      (λ (own : (q ≡ req) × (now ≡ other)).
      Opened session asked lined (subst (λ (k : ℕ). WorkIsNext input node so_far session k asked lined) (sym own.0) comes)
      (ap (λ (k : ℕ). with_open_attempt k asked lined) (sym own.0)) (sym own.1)
      (open_of current (attempt_in asked lined.node) (sym stage ∙ ap (λ (w : Work). w.stage) (sym own.1))))
      (λ (elsewhere : (q ≢ req) × (tree.get lined.node.gateway.works q ≡ Some other)).
      Stayed (next_fewer so_far session req asked lined comes q other elsewhere.1))
      (get-insert_cases lined.node.gateway.works req now q other got)

  pub open_work : (so_far next : StepState) → StepHasOneWork so_far → Change input node so_far next → (q : ℕ) (work : Work)
      (current : gateways.Attempt) → tree.get next.node.gateway.works q ≡ Some work → work.stage ≡ Open current
      → OpenWork input node so_far next q work current
  open_work so_far next good (changes.Marks req number work attempt status learns over) =
      learnt so_far req number work attempt status learns
  open_work so_far next good (changes.Fails session req number work attempt status course ends done why) =
      shut so_far next so_far.node.gateway.works req (record work { ended = work.ended + 1; stage = Ended })
      (all_stay so_far.node.gateway.works) refl (λ current is. absurd (cc (is)))
  open_work so_far next good (changes.Stops session req number work attempt status course bytes ends over) =
      few so_far next (gone_fewer so_far.node.gateway.works req)
  open_work so_far next good (changes.Refuses session req number work attempt status course cause ends done why) =
      few so_far next
      (refused_fewer so_far.node.gateway.works session req cause course (without_ended_work session req work status so_far)
      (gone_fewer so_far.node.gateway.works req))
  open_work so_far next good (changes.Opens session req asked lined comes enough) = opened so_far session req asked lined comes
  open_work so_far next good (changes.Holds session req asked lined comes short touched) =
      shut so_far next lined.node.gateway.works req (record asked { stage = WaitsForMembers (record { 0 = lined.node.peer.epoch }) })
      (next_fewer so_far session req asked lined comes) refl (λ current is. absurd (cc (is)))
  open_work so_far next good (changes.Denies session req asked lined request comes short untouched there own) =
      few so_far next
      (denied_fewer so_far.node.gateway.works req (Halt (zones_of_members lined.node) (zones_for asked.work)) request
      (without_denied_work session req asked lined)
      (λ q other got. next_fewer so_far session req asked lined comes q other (gone_fewer lined.node.gateway.works req q other got)))
  open_work so_far next good (changes.Strays req work gateway there none apart) = absurd (never_alone req work so_far there none good)
  open_work so_far next good (changes.Lines session req work moved steps waits) =
      few so_far next (steps_fewer so_far session req (ToWork work) moved steps)
  open_work so_far next good (changes.Appends session req entry moved steps) =
      few so_far next (steps_fewer so_far session req (ToEntry entry) moved steps)
  open_work so_far next good (changes.Replies session req reply moved steps) =
      few so_far next
      (ended_fewer so_far.node.gateway.works session req reply moved (steps_fewer so_far session req (ToReply reply) moved steps))
  open_work so_far next good (changes.Arrives session req ask disk arrival on) =
      few so_far next (all_stay so_far.node.gateway.works)
  open_work so_far next good (changes.Rejects session req ask cause arrival) = few so_far next (all_stay so_far.node.gateway.works)
  open_work so_far next good (changes.Recovers due) = few so_far next (all_stay so_far.node.gateway.works)
