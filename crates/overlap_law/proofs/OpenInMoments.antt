-- The open creates and writes after a change of a moment: each was open before, or has just begun.
use Rattle.std.proofs.Common.{◌≡◌, ◌⊎◌, inl, inr, ℕ, true, false, List, [], ◌∷◌, ◌++◌, Some, ⊎_elim, sym, ap, ◌∙◌}
use Rattle.std.specs.FinMap as tree
use Rattle.proof_tools.proofs.FiniteMaps.{get-insert_same}
use Rattle.object_id.specs.declared.node.NodeId.{NodeId}
use Rattle.cluster_script.specs.declared.statement.Statement.{Statement}
use Rattle.gateway.specs.Work.{is_making}
use Rattle.gateway.specs.Attempt as gateways
use Rattle.gateway.specs.State.{Work, Gateway, Open}
use Rattle.sheep_node.specs.State.{Node}
use Rattle.sheep_node.specs.StepState.{StepState, at_first}
use Rattle.sheep_node.specs.Step.{node_step}
use Rattle.sheep_node.specs.Changes as changes
use Rattle.sheep_node.specs.Changes.{input_received}
use Rattle.sheep_node.proofs.NumberChanges.{both_in_chain}
use Rattle.sheep_world.specs.World.{Host}
use Rattle.sheep_world.specs.NodeCauses.{NodeCause, input_of_cause, host_with_node}
use Rattle.sheep_world.specs.Began.{Began}
use Rattle.overlap_law.specs.Attempts.{AttemptRecord}
use Rattle.overlap_law.specs.Past.{MomentWithPast}
use Rattle.overlap_law.specs.OpenWorks.{IsTheSame}
use Rattle.overlap_law.specs.StepMoments.{SteppingNode, IsStepping, StepsByChanges, StepsAtOnce, IsWithinStep}
use Rattle.overlap_law.specs.StepMoments.{moment_in_step}
use Rattle.overlap_law.specs.MomentChanges.{MomentChange, RunsAreInRange}
use Rattle.overlap_law.specs.Traffic.{OpenAttemptsHaveMessages}
use Rattle.overlap_law.proofs.AttemptsInSteps.{attempts-grow}
use Rattle.overlap_law.proofs.OpenAttempts.{WasOpen, same_open, change_opens}
use Rattle.overlap_law.proofs.ClosedToAsks.{received_alike, made_alike}
use Rattle.overlap_law.proofs.KnownSteps.{known_step}
use Rattle.overlap_law.proofs.OpeningTraffic.{me_so_far}
use Rattle.overlap_law.proofs.ClosedHosts.{each_host}

-- an open create or write of a node was open before at its host, or has just begun
abbrev pub WasOpenOrBegins : MomentWithPast → MomentWithPast → ℕ → Node → ℕ → Work → gateways.Attempt → Type 0
WasOpenOrBegins before after n node req work current =
    ((old : Host) × (tree.get before.world.hosts n ≡ Some old) × (old.is_lost ≡ false) × (node.me ≡ old.node.me)
    × WasOpen old.node.gateway.works req work current)
    ⊎ ((new : AttemptRecord) × (after.past.attempts ≡ before.past.attempts ++ new ∷ []) × IsTheSame node req work.work current new)

-- so it is of each that is up
abbrev pub EachWasOpenOrBegins : MomentWithPast → MomentWithPast → Type 0
EachWasOpenOrBegins before after =
    (n : ℕ) (host : Host) (req : ℕ) (work : Work) (current : gateways.Attempt) → tree.get after.world.hosts n ≡ Some host → host.is_lost
    ≡ false
    → tree.get host.node.gateway.works req ≡ Some work → is_making work.work ≡ true → work.stage ≡ Open current
    → WasOpenOrBegins before after n host.node req work current

-- a node that has the same works
same_works : (before after : MomentWithPast) (n : ℕ) (host : Host) (node : Node) → tree.get before.world.hosts n ≡ Some host
    → node.me ≡ host.node.me
    → node.gateway ≡ host.node.gateway → (req : ℕ) (work : Work) (current : gateways.Attempt) → host.is_lost ≡ false
    → tree.get node.gateway.works req ≡ Some work
    → work.stage ≡ Open current → WasOpenOrBegins before after n node req work current
same_works before after n host node there me gateway req work current up got stage =
    inl (
      host,
      there,
      up,
      me,
      same_open host.node.gateway.works req work current
          (ap (λ (g : Gateway). tree.get g.works req) (sym gateway) ∙ got) stage,
    )

-- ---- what leaves the gateway as it is

pub received_gateway : (cause : NodeCause) (node : Node) → StepsByChanges cause
    → (input_received (input_of_cause cause) (at_first node)).node.gateway ≡ node.gateway
received_gateway cause node by = (received_alike cause node by).0

pub made_gateway : (cause : NodeCause) (node : Node) → StepsAtOnce cause
    → (node_step (input_of_cause cause) node).node.gateway ≡ node.gateway
made_gateway cause node by = (made_alike cause node by).0

-- a node of a number
pub same_node : (one other : NodeId) (n : ℕ) → one.0 ≡ n → other.0 ≡ n → one ≡ other
same_node one other n is too = λ i. record { 0 = (is ∙ sym too) i }

-- ---- every change

module _ (script : List Statement) (range : RunsAreInRange script) (start : MomentWithPast) (began : Began script start.world) where
  abbrev WereOpen : MomentWithPast → MomentWithPast → ℕ → Host → Type 0
  WereOpen before after n host =
      OpenAttemptsHaveMessages after.world.hosts → (req : ℕ) (work : Work) (current : gateways.Attempt)
      → tree.get host.node.gateway.works req ≡ Some work → is_making work.work ≡ true → work.stage ≡ Open current
      → WasOpenOrBegins before after n host.node req work current

  goes_on_open : (stepping : SteppingNode) (so_far next : StepState) → IsStepping script start.world stepping
      → StepsByChanges stepping.cause → IsWithinStep stepping so_far next
      → tree.get (moment_in_step script stepping start so_far).world.hosts stepping.n ≡ Some (host_with_node stepping.host so_far.node)
      → stepping.host.is_lost ≡ false
      → WereOpen (moment_in_step script stepping start so_far) (moment_in_step script stepping start next) stepping.n
      (host_with_node stepping.host next.node)
  goes_on_open stepping so_far next is by within there up have req work current got making stage =
      let known = known_step script range start.world began stepping is in
      let now = host_with_node stepping.host next.node in
      let before = moment_in_step script stepping start so_far in
      let there_now = get-insert_same start.world.hosts stepping.n now in
      let good = (both_in_chain (input_of_cause stepping.cause) stepping.host.node known.sound so_far within.leads).0 in
      ⊎_elim
      (λ kept. inl (
        host_with_node stepping.host so_far.node,
        there,
        up,
        same_node next.node.me so_far.node.me stepping.n
            (me_so_far script start.world stepping known next (changes.Then within.leads within.change))
            (me_so_far script start.world stepping known so_far within.leads),
        kept,
      ))
      (λ begun. inr (
        begun.0,
        attempts-grow script start stepping is known.sound known.given by so_far next within
            ∙ ap (λ (more : List AttemptRecord). before.past.attempts ++ more) begun.1,
        begun.2,
      ))
      (change_opens stepping.host known.sound so_far next good within.change
      (λ q w c got making stage. have.each stepping.n now there_now up q w c got making stage) req work current got making stage)

  pub open_or_begins : {before after : MomentWithPast} → MomentChange script start before after → OpenAttemptsHaveMessages after.world.hosts
      → EachWasOpenOrBegins before after
  open_or_begins change have n host req work current there up got making stage =
      each_host script range start began WereOpen
      (λ before after n old host there up me asked have req work current got making stage.
      same_works before after n old host.node there me asked.0 req work current up got stage)
      goes_on_open (λ before after n host newer none have req work current got making stage. absurd (none req work got))
      change n host there up have req work current got making stage
