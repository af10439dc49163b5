-- The nodes with which a script opens: how many there are, and their hosts, put from the last to the first.
use Rattle.std.proofs.Common.{◌≡◌, ℕ, suc, ◌+◌, ◌-◌, ◌<◌, ◌≤◌, List, [], ◌∷◌, ◌++◌, map, ap, ◌∙◌, arith}
use Rattle.std.specs.Prelude.{unwrap_or}
use Rattle.std.specs.Ordering.{nat_cmp}
use Rattle.std.specs.List.{range_with_len}
use Rattle.std.specs.FinMap as tree
use Rattle.object_id.specs.declared.limits.TheConstants.{NODES_DEFAULT}
use Rattle.cluster_script.specs.declared.statement.Statement.{Statement}
use Rattle.cluster_script.specs.declared.statement.Statement.TheVariants.{Cluster}
use Rattle.cluster_script.specs.Language.{MayStand, EachMayStand, IsScript}
use Rattle.cluster_script.specs.Settings.{nodes_set, setting_of, nodes_of, new_member}
use Rattle.sheep_world.specs.World.{Host}
use Rattle.sheep_world.specs.Opening.{initial_host, initial_member_node, initial_member_host}

one_set : (before : List Statement) (s : Statement) (rest : ℕ) → MayStand before s → rest ≤ 64 → unwrap_or (nodes_set s) rest ≤ 64
one_set before (Cluster nodes) rest may within = omega (arith, may.2)
one_set before s rest may within = within

set_within : (before rest : List Statement) → EachMayStand before rest → setting_of nodes_set NODES_DEFAULT rest ≤ 64
set_within before [] each = omega arith
set_within before (s ∷ rest) each =
    one_set before s (setting_of nodes_set NODES_DEFAULT rest) each.0 (set_within (before ++ s ∷ []) rest each.1)

-- a script opens with as many nodes as there may be, or fewer
pub nodes_within : (statements : List Statement) → IsScript statements → nodes_of statements ≤ 64
nodes_within statements script = set_within [] statements script

module _ (statements : List Statement) where
  -- the hosts of so many opening members from a number on
  abbrev pub hosts_from : ℕ → ℕ → tree.FinMap nat_cmp Host
  hosts_from start count = tree.from_entries (map (initial_member_host statements) (map (new_member statements) (range_with_len start count)))

  -- one more of them, before those that are there
  pub hosts_from-more : (count placed : ℕ) (hosts after : tree.FinMap nat_cmp Host) (host : Host) → placed < count
      → hosts ≡ hosts_from (count - placed) placed
      → host ≡ initial_host (initial_member_node statements (new_member statements (count - 1 - placed)))
      → after ≡ tree.insert hosts (count - 1 - placed) host → after ≡ hosts_from (count - (placed + 1)) (placed + 1)
  hosts_from-more count placed hosts after host within so own put =
      let next : count - placed ≡ count - 1 - placed + 1 = omega (arith, within) in
      let same : count - 1 - placed ≡ count - (placed + 1) = omega (arith, within) in
      let more : suc placed ≡ placed + 1 = omega arith in
      put
      ∙ ap (λ (m : tree.FinMap nat_cmp Host). tree.insert m (count - 1 - placed) host) so
      ∙ ap (tree.insert (hosts_from (count - placed) placed) (count - 1 - placed)) own
      ∙ ap
      (λ (start : ℕ). tree.insert (hosts_from start placed) (count - 1 - placed)
      (initial_host (initial_member_node statements (new_member statements (count - 1 - placed)))))
      next
      ∙ ap (hosts_from (count - 1 - placed)) more
      ∙ ap (λ (start : ℕ). hosts_from start (placed + 1)) same
