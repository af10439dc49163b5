use Rattle.std.proofs.Common.{List, length, option_copied, sym, ap, ◌∙◌}
use Rattle.object_id.specs.declared.node.NodeId.{NodeId}
use Rattle.object_id.specs.Policy.{wanted_of}
use Rattle.vnode_table.proofs.TermLaws.{is_some-found, members_at-found, targets_in-parts}
use Rattle.vnode_table.proofs.placement.Placement.targets_at.Goals as goal

pub unwrap-term-requires : goal.unwrap-term-requires
unwrap-term-requires c = is_some-found c.term_of.result c.args.self.now c.args.epoch.0 c.term_of.ensures ∙ c.requires.entered

pub returns-clause-count : goal.returns-clause-count
returns-clause-count c =
    let members = members_at-found c.unwrap-term.result c.args.self.now c.args.epoch.0
    (sym (ap option_copied c.unwrap-term.ensures) ∙ c.term_of.ensures) in
    c.targets.ensures.count
    ∙ ap (λ (nodes : List NodeId). length nodes)
    (targets_in-parts c.args.self.now c.args.epoch.0 c.args.oid c.args.policy c.unwrap-term.result.now.members c.object_hash.result
    c.from-wanted.result members c.object_hash.ensures (c.from-wanted.ensures ∙ c.wanted.ensures ∙ ap (wanted_of c.args.policy) c.kind.ensures))

pub returns-clause-filled : goal.returns-clause-filled
returns-clause-filled c =
    let members = members_at-found c.unwrap-term.result c.args.self.now c.args.epoch.0
    (sym (ap option_copied c.unwrap-term.ensures) ∙ c.term_of.ensures) in
    c.targets.ensures.filled
    ∙ targets_in-parts c.args.self.now c.args.epoch.0 c.args.oid c.args.policy c.unwrap-term.result.now.members c.object_hash.result
    c.from-wanted.result members c.object_hash.ensures (c.from-wanted.ensures ∙ c.wanted.ensures ∙ ap (wanted_of c.args.policy) c.kind.ensures)
