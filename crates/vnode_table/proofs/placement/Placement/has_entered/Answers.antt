use Rattle.std.proofs.Common.{◌∙◌}
use Rattle.vnode_table.proofs.TermLaws.{is_some-found}
use Rattle.vnode_table.proofs.placement.Placement.has_entered.Goals as goal

pub returns : goal.returns
returns c = c.is_some.ensures ∙ is_some-found c.term_of.result c.args.self.now c.args.epoch.0 c.term_of.ensures
