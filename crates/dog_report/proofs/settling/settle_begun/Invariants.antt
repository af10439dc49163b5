use Rattle.std.proofs.Common.{◌≡◌, ◌≤◌, ◌-◌, suc, length, fold}
use Rattle.std.specs.List.{range_with_len}
use Rattle.cluster_script.specs.Statements.{requests_of}
use Rattle.dog_report.specs.Settling.{settling_of, settling_after}
use Rattle.dog_report.proofs.settling.settle_begun.Given as goal

-- the requests from the first one up to the next are gone through
abbrev pub invariant-loop-lines : goal.invariant-loop-lines
invariant-loop-lines l = record {
  settled : settling_of l.lines l.kept
      ≡ fold (settling_after l.script l.world.world) (settling_of l.fn.lines l.fn.kept) (range_with_len l.first (l.next - l.first));
  behind : l.first ≤ l.next;
  within : l.first ≤ suc (length (requests_of l.script)) → l.next ≤ suc (length (requests_of l.script));
}

abbrev pub decreases-loop-lines : goal.decreases-loop-lines
decreases-loop-lines l = suc (length (requests_of l.script)) - l.next
