use Rattle.std.proofs.Common.{not, ap, ◌∙◌, rules}
use Rattle.std.proofs.lemmas.Fn.{filter_same}
use Rattle.epoch_log.specs.Members.{is_member_node, members_without}
use Rattle.epoch_log.proofs.roster.Roster.remove.Goals as goal

pub returns : goal.returns
returns c =
    filter_same _ (λ member. not (is_member_node c.args.node.0 member)) _ (λ x b f' k. search rules) _ _ c.retain.ensures.filtered
    ∙ ap (members_without c.args.node.0) c.self.view_is
