use Rattle.std.proofs.Common.{◌≡◌, ◌≤◌, ◌-◌, suc, length, fold}
use Rattle.std.specs.List.{range_with_len}
use Rattle.cluster_script.specs.Statements.{requests_of}
use Rattle.dog_report.specs.Settling.{lines_with_last}
use Rattle.dog_report.proofs.settling.tell_later.Given as goal

-- the requests from the next one on are left
abbrev pub invariant-loop-lines : goal.invariant-loop-lines
invariant-loop-lines l = record {
  left : fold (lines_with_last l.script l.world.world) l.lines (range_with_len l.next (suc (length (requests_of l.script)) - l.next))
      ≡ fold (lines_with_last l.script l.world.world) l.fn.lines (range_with_len l.first (suc (length (requests_of l.script)) - l.first));
  behind : l.first ≤ l.next;
}

abbrev pub decreases-loop-lines : goal.decreases-loop-lines
decreases-loop-lines l = suc (length (requests_of l.script)) - l.next
