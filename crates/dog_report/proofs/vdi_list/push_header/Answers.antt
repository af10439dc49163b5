use Rattle.std.specs.Prelude.{codes}
use Rattle.dog_report.specs.ListParts.{header_details}
use Rattle.dog_report.proofs.WordLemmas.{line-pushed}
use Rattle.dog_report.proofs.vdi_list.push_header.Goals as goal

pub returns : goal.returns
returns c =
    line-pushed _ (codes "vdi") _ _ _ _ (header_details c.args.vid.0 c.args.header.now c.args.holder)
    c.in_ok-extend_from_slice.ensures.items c.in_ok-push_details.ensures c.in_ok-end_line.ensures
