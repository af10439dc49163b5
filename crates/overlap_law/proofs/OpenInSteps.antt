-- The open works after a change of a moment, reads too: each was open before, in the same epoch, or has begun in its node's epoch.
use Rattle.std.proofs.Common.{◌≡◌, ◌⊎◌, inl, inr, ⊎_elim, ℕ, false, List, Some, refl, sym, ap, ◌∙◌}
use Rattle.std.specs.FinMap as tree
use Rattle.cluster_script.specs.declared.statement.Statement.{Statement}
use Rattle.gateway.specs.Attempt as gateways
use Rattle.gateway.specs.State.{Work, Gateway, Open}
use Rattle.sheep_node.specs.declared.input.Input.{Input}
use Rattle.sheep_node.specs.State.{Node}
use Rattle.sheep_node.specs.StepState.{StepState}
use Rattle.sheep_node.specs.Changes.{Change}
use Rattle.sheep_node.proofs.AwaitedWorks.{Works}
use Rattle.sheep_node.proofs.NumberChanges.{both_in_chain}
use Rattle.sheep_node.proofs.OneWorkChanges.{StepHasOneWork}
use Rattle.sheep_world.specs.World.{Host}
use Rattle.sheep_world.specs.NodeCauses.{input_of_cause, host_with_node}
use Rattle.sheep_world.specs.Began.{Began}
use Rattle.overlap_law.specs.Past.{MomentWithPast}
use Rattle.overlap_law.specs.StepMoments.{moment_in_step}
use Rattle.overlap_law.specs.MomentChanges.{MomentChange, RunsAreInRange}
use Rattle.overlap_law.proofs.KnownSteps.{known_step}
use Rattle.overlap_law.proofs.ClosedAttempts.{OpenWork, Stayed, Learnt, Opened, open_work}
use Rattle.overlap_law.proofs.ClosedHosts.{each_host}
use Rattle.overlap_law.specs.StepMoments.{SteppingNode, IsStepping, StepsByChanges, IsWithinStep}

-- ---- a change of a node

-- an open work was open before, in the same epoch
pub record WasOpenIn (old : Works) (req : ℕ) (work : Work) (current : gateways.Attempt) : Type 0 where
  pub was : Work
  pub before : gateways.Attempt
  pub there : tree.get old req ≡ Some was
  pub stage : was.stage ≡ Open before
  pub work_so : work.work ≡ was.work
  pub epoch_so : current.epoch ≡ before.epoch

-- what is as it was, was open
same_open : (old : Works) (req : ℕ) (work : Work) (current : gateways.Attempt) → tree.get old req ≡ Some work → work.stage ≡ Open current
    → WasOpenIn old req work current
same_open old req work current there stage =
    record { was = work; before = current; there = there; stage = stage; work_so = refl; epoch_so = refl }

-- or has begun in the epoch
abbrev pub WasOpenOrNew : Works → ℕ → ℕ → Work → gateways.Attempt → Type 0
WasOpenOrNew old epoch req work current = WasOpenIn old req work current ⊎ (current.epoch.0 ≡ epoch)

-- so it is of each work that is open then
abbrev pub WereOpenOrNew : StepState → StepState → Type 0
WereOpenOrNew so_far next =
    (q : ℕ) (work : Work) (current : gateways.Attempt) → tree.get next.node.gateway.works q ≡ Some work → work.stage ≡ Open current
    → WasOpenOrNew so_far.node.gateway.works next.node.peer.epoch q work current

change_open : {input : Input} {node : Node} → (so_far next : StepState) → StepHasOneWork so_far → Change input node so_far next
    → WereOpenOrNew so_far next
change_open {input} {node} so_far next good change q work current got stage =
    by_origin (open_work so_far next good change q work current got stage)
  where
    by_origin : OpenWork input node so_far next q work current → WasOpenOrNew so_far.node.gateway.works next.node.peer.epoch q work current
    by_origin (Stayed there) = inl (same_open so_far.node.gateway.works q work current there stage)
    by_origin (Learnt number was attempt status learns put same) = inl (record {
      was = was;
      before = attempt;
      there = learns.there;
      stage = learns.open_so;
      work_so = ap (λ (w : Work). w.work) put;
      epoch_so = ap (λ (a : gateways.Attempt). a.epoch) same;
    })
    by_origin (Opened session asked lined comes next_so put same) =
        inr (ap (λ (a : gateways.Attempt). a.epoch.0) same ∙ ap (λ (s : StepState). s.node.peer.epoch) (sym next_so))

-- ---- a change of a moment

-- an open work of a node was open before at its host, or has begun in the node's epoch
pub record WasOpenAt (before : MomentWithPast) (n req : ℕ) (work : Work) (current : gateways.Attempt) : Type 0 where
  pub old : Host
  pub there : tree.get before.world.hosts n ≡ Some old
  pub up : old.is_lost ≡ false
  pub opened : WasOpenIn old.node.gateway.works req work current

abbrev pub EachWasOpenOrNew : MomentWithPast → MomentWithPast → Type 0
EachWasOpenOrNew before after =
    (n : ℕ) (host : Host) (req : ℕ) (work : Work) (current : gateways.Attempt) → tree.get after.world.hosts n ≡ Some host
    → host.is_lost ≡ false → tree.get host.node.gateway.works req ≡ Some work → work.stage ≡ Open current
    → WasOpenAt before n req work current ⊎ (current.epoch.0 ≡ host.node.peer.epoch)

-- a node that has the same works
same_works : (before : MomentWithPast) (n : ℕ) (old host : Host) → tree.get before.world.hosts n ≡ Some old → old.is_lost ≡ false
    → host.node.gateway ≡ old.node.gateway → (req : ℕ) (work : Work) (current : gateways.Attempt)
    → tree.get host.node.gateway.works req ≡ Some work
    → work.stage ≡ Open current → WasOpenAt before n req work current
same_works before n old host there up same req work current got stage = record {
  old = old;
  there = there;
  up = up;
  opened = same_open old.node.gateway.works req work current (ap (λ (g : Gateway). tree.get g.works req) (sym same) ∙ got) stage;
}

module _ (script : List Statement) (range : RunsAreInRange script) (start : MomentWithPast) (began : Began script start.world) where
  abbrev WereOpen : MomentWithPast → MomentWithPast → ℕ → Host → Type 0
  WereOpen before after n host =
      (req : ℕ) (work : Work) (current : gateways.Attempt) → tree.get host.node.gateway.works req ≡ Some work → work.stage ≡ Open current
      → WasOpenAt before n req work current ⊎ (current.epoch.0 ≡ host.node.peer.epoch)

  goes_on_open : (stepping : SteppingNode) (so_far next : StepState) → IsStepping script start.world stepping
      → StepsByChanges stepping.cause → IsWithinStep stepping so_far next
      → tree.get (moment_in_step script stepping start so_far).world.hosts stepping.n ≡ Some (host_with_node stepping.host so_far.node)
      → stepping.host.is_lost ≡ false
      → WereOpen (moment_in_step script stepping start so_far) (moment_in_step script stepping start next) stepping.n
      (host_with_node stepping.host next.node)
  goes_on_open stepping so_far next is by within there up req work current got stage =
      let known = known_step script range start.world began stepping is in
      let good = (both_in_chain (input_of_cause stepping.cause) stepping.host.node known.sound so_far within.leads).0 in
      ⊎_elim
      (λ (old : WasOpenIn so_far.node.gateway.works req work current).
      inl (record { old = host_with_node stepping.host so_far.node; there = there; up = up; opened = old }))
      (λ (new : current.epoch.0 ≡ next.node.peer.epoch). inr new)
      (change_open so_far next good within.change req work current got stage)

  pub each_was_open : {before after : MomentWithPast} → MomentChange script start before after → EachWasOpenOrNew before after
  each_was_open change n host req work current there up got stage =
      each_host script range start began WereOpen
      (λ before after n old host there up me asked req work current got stage.
      inl (same_works before n old host there up asked.0 req work current got stage))
      goes_on_open (λ before after n host newer none req work current got stage. absurd (none req work got))
      change n host there up req work current got stage
