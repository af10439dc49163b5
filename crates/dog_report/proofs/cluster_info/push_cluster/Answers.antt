use Rattle.std.specs.Prelude.{codes}
use Rattle.dog_report.specs.ListParts.{cluster_details}
use Rattle.dog_report.proofs.WordLemmas.{line-pushed}
use Rattle.dog_report.proofs.cluster_info.push_cluster.Goals as goal

pub returns : goal.returns
returns c =
    line-pushed _ (codes "cluster") _ _ _ _ (cluster_details c.args.newest.0 c.args.settled.0 c.args.members.now)
    c.in_ok-extend_from_slice.ensures.items c.in_ok-push_details.ensures c.in_ok-end_line.ensures
