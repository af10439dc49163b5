use Rattle.std.proofs.Common.{◌≡◌, ◌≤◌, ◌+◌, length}
use Rattle.cluster_script.specs.Words.{lines_of}
use Rattle.cluster_script.specs.Script.{script_of, script_in, statement_at}
use Rattle.cluster_script.proofs.script.parse.Given as goal

-- what is left is read after the statements so far as the text is read after none
abbrev pub invariant-loop-rest : goal.invariant-loop-rest
invariant-loop-rest l = record {
  exact : script_of statement_at l.draft l.number (lines_of l.rest) ≡ script_in l.text;
  first : 1 ≤ l.number;
  numbered : l.number + length l.rest ≤ length l.text + 1;
  count : length l.draft + length l.rest ≤ length l.text;
}

abbrev pub decreases-loop-rest : goal.decreases-loop-rest
decreases-loop-rest l = length l.rest
