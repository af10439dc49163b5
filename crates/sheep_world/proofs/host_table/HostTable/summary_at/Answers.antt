use Rattle.std.proofs.Common.{◌<◌, List, length, get_or, ap, ◌∙◌, arith}
use Rattle.std.proofs.lemmas.List.{get_or_read}
use Rattle.sheep_world.specs.declared.host_summary.HostSummary.{HostSummary}
use Rattle.sheep_world.specs.HostSummaries.{no_summary}
use Rattle.sheep_world.proofs.host_table.HostTable.summary_at.Goals as goal

pub index-requires : goal.index-requires
index-requires c =
    let all = c.self.invariant.0 in
    omega (arith, all, c.requires, c.self.inside.by_number.ok.0)

pub returns : goal.returns
returns c =
    let all = c.self.invariant.0 in
    let within : c.args.node < length c.self.inside.by_number.items = omega (arith, all, c.requires) in
    get_or_read c.self.inside.by_number.items c.args.node _ within c.index.ensures no_summary
    ∙ ap (λ (summaries : List HostSummary). get_or summaries c.args.node no_summary) c.self.view_is
