use Rattle.std.specs.Prelude.{codes}
use Rattle.dog_report.specs.ListParts.{summary_details}
use Rattle.dog_report.proofs.WordLemmas.{line-pushed}
use Rattle.dog_report.proofs.dump.push_row.Goals as goal

pub returns : goal.returns
returns c =
    line-pushed _ (codes "row") _ _ _ _ (summary_details c.args.node.0 c.args.oid c.args.row.now)
    c.in_ok-extend_from_slice.ensures.items c.in_ok-push_details.ensures c.in_ok-end_line.ensures
