use Rattle.std.proofs.Common.{◌≡◌, ◌+◌, ◌++◌, drop}
use Rattle.cluster_script.specs.KeptIndex.{numbers_asked}
use Rattle.cluster_script.proofs.request_entry.numbers_of.Given as goal

-- the numbers so far, and those among the entries that are left, are the numbers
abbrev pub invariant-loop-entry : goal.invariant-loop-entry
invariant-loop-entry l = record {
  number : l.number ≡ l.entry-index + 1;
  numbers : l.numbers ++ numbers_asked l.session l.number (drop l.entry-index l.entries) ≡ numbers_asked l.session 1 l.entries;
}
