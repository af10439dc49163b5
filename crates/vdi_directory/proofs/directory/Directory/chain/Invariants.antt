use Rattle.std.proofs.Common.{◌≡◌, ◌++◌, map, length}
use Rattle.object_id.specs.declared.oid.Vid.{Vid}
use Rattle.vdi_directory.specs.Decisions.{log_effects}
use Rattle.vdi_directory.specs.Chains.{chain_from, chain_of}
use Rattle.vdi_directory.proofs.directory.Directory.chain.Given as goal

-- the next parent's own chain is still to come
abbrev pub invariant-loop-next : goal.invariant-loop-next
invariant-loop-next l =
    map (λ (id : Vid). id.0) l.chain.items ++ chain_from (chain_of (log_effects l.self)) l.next ≡ chain_of (log_effects l.self) l.fn.vid.0

abbrev pub decreases-loop-next : goal.decreases-loop-next
decreases-loop-next l = length (chain_from (chain_of (log_effects l.self)) l.next)
