use Rattle.std.proofs.Common.{◌≡◌, ◌++◌, drop, map}
use Rattle.dog_report.specs.ListParts.{lines_text, summary_words}
use Rattle.dog_report.proofs.dump.push_rows.Given as goal

-- what was added, with the lines of the rows that are left, is all of them
abbrev pub invariant-loop-row : goal.invariant-loop-row
invariant-loop-row l =
    l.text.items ++ lines_text (map (summary_words l.node.0 l.oid) (drop l.row-index l.rows))
    ≡ l.fn.text.items ++ lines_text (map (summary_words l.node.0 l.oid) l.rows)
