use Rattle.std.proofs.Common.{◌≡◌, ◌≤◌, ◌++◌, drop}
use Rattle.cluster_script.specs.KeptIndex.{request_entries}
use Rattle.cluster_script.proofs.request_entry.request_entries.Given as goal

-- the entries so far, and those of the statements that are left, are the entries
abbrev pub invariant-loop-s : goal.invariant-loop-s
invariant-loop-s l = record {
  place : l.place ≡ l.s-index;
  phase : l.phase ≤ l.place;
  entries : l.entries ++ request_entries l.place l.phase (drop l.s-index l.statements) ≡ request_entries 0 0 l.statements;
}
