use Rattle.std.proofs.Common.{◌≡◌, ◌++◌, drop}
use Rattle.cluster_script.specs.KeptIndex.{control_places}
use Rattle.cluster_script.proofs.phase_entry.control_places.Given as goal

-- the places so far, and those of the statements that are left, are the places
abbrev pub invariant-loop-s : goal.invariant-loop-s
invariant-loop-s l = record {
  place : l.place ≡ l.s-index;
  places : l.places ++ control_places l.place (drop l.s-index l.statements) ≡ control_places 0 l.statements;
}
