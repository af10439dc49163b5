-- The parts in which the code makes the step of a node are the step.
use Rattle.std.proofs.Common.{◌≡◌, ℕ, List, Option, Some, None, refl, sym, ap, ◌∙◌}
use Rattle.std.specs.Option.{option_map_or}
use Rattle.std.specs.Ordering.{nat_cmp}
use Rattle.std.specs.FinMap as tree
use Rattle.cluster_script.specs.declared.statement.Statement.{Statement}
use Rattle.sheep_node.specs.declared.input.Input.{Input}
use Rattle.sheep_node.specs.declared.outputs.Outputs.{Outputs}
use Rattle.sheep_node.specs.Step.{node_step}
use Rattle.sheep_world.specs.World.{Host, World}
use Rattle.sheep_world.specs.NodeSteps.{world_after_step, node_stepped}
use Rattle.sheep_world.specs.MembershipChanges.{host_changed}
use Rattle.sheep_world.specs.StepsInParts.{with_outputs}
use Rattle.sheep_world.proofs.TakenValues.{insert-remove, remove-none}

module _ (statements : List Statement) (node : ℕ) (input : Input) (world : World) where
  abbrev by_host : Option Host → World
  by_host host = option_map_or (λ (host : Host). world_after_step statements node input host (node_step input host.node) world) host world

  unfolded : node_stepped statements node input world ≡ by_host (tree.get world.hosts node)
  unfolding node_stepped
  unfolded = refl

  log_by_host : (host : Option Host) → (by_host host).log ≡ world.log
  log_by_host None = refl
  log_by_host (Some host) = refl

  -- a step leaves the log
  pub node_stepped-log : (node_stepped statements node input world).log ≡ world.log
  node_stepped-log = ap (λ (world : World). world.log) unfolded ∙ log_by_host (tree.get world.hosts node)

  -- a node that doesn't exist makes none
  pub node_stepped-none : (hosts : tree.FinMap nat_cmp Host) → hosts ≡ tree.remove world.hosts node → tree.get world.hosts node ≡ None
      → record world { hosts = hosts } ≡ node_stepped statements node input world
  node_stepped-none hosts is none =
      ap (λ (hosts : tree.FinMap nat_cmp Host). record world { hosts = hosts }) (is ∙ remove-none world.hosts node none)
      ∙ sym (unfolded ∙ ap by_host none)

  -- a node that was taken out steps, and is put back
  pub node_stepped-some : (host stepped : Host) (taken hosts : tree.FinMap nat_cmp Host) (kept : Input) (outputs : Outputs)
      → tree.get world.hosts node ≡ Some host → taken ≡ tree.remove world.hosts node
      → stepped ≡ record host { node = (node_step input host.node).node } → outputs ≡ (node_step input host.node).outputs
      → hosts ≡ tree.insert taken node stepped → kept ≡ input
      → with_outputs statements kept outputs (record world { hosts = hosts }) ≡ node_stepped statements node input world
  node_stepped-some host stepped taken hosts kept outputs there others steps gives put copy =
      rw (put, others, steps, gives, copy, insert-remove world.hosts node (record host { node = (node_step input host.node).node }))
      (sym (unfolded ∙ ap by_host there))

-- a node that was taken out is changed, and put back
module _ (change : Host → Host) (node : ℕ) (world : World) where
  pub host_changed-none : (hosts : tree.FinMap nat_cmp Host) → hosts ≡ tree.remove world.hosts node → tree.get world.hosts node ≡ None
      → record world { hosts = hosts } ≡ host_changed change node (tree.get world.hosts node) world
  host_changed-none hosts is none =
      ap (λ (hosts : tree.FinMap nat_cmp Host). record world { hosts = hosts }) (is ∙ remove-none world.hosts node none)
      ∙ sym (ap (λ (host : Option Host). host_changed change node host world) none)

  pub host_changed-some : (host changed : Host) (taken hosts : tree.FinMap nat_cmp Host) → tree.get world.hosts node ≡ Some host
      → taken ≡ tree.remove world.hosts node → changed ≡ change host → hosts ≡ tree.insert taken node changed
      → record world { hosts = hosts } ≡ host_changed change node (tree.get world.hosts node) world
  host_changed-some host changed taken hosts there others is put =
      rw (put, others, is, insert-remove world.hosts node (change host))
      (sym (ap (λ (host : Option Host). host_changed change node host world) there))
