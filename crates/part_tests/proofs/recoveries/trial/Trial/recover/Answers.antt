use Rattle.std.proofs.Common.{◌≡◌, true, sym, subst, ◌∙◌}
use Rattle.object_id.specs.declared.node.NodeId.{NodeId}
use Rattle.object_list.specs.Gathered.{has_node}
use Rattle.part_tests.proofs.TrialLemmas.{IsOfNode2, node-after_begin}
use Rattle.part_tests.proofs.recoveries.trial.Trial.recover.Goals as goal

pub invariant_of-self-then-is_member : goal.invariant_of-self-then-is_member
invariant_of-self-then-is_member c =
    subst IsOfNode2 (sym c.in_ok-begin.ensures.ok)
    (node-after_begin c.epoch-epoch.result.0 c.args.members.now _
    (record {
      own_epoch = c.epoch-epoch.ensures;
      above_1 = c.if-epoch-gt1.true;
      ascend = c.requires.ascend;
      nodes = c.requires.nodes;
      member = subst (λ (node : NodeId). has_node node c.args.members.now ≡ true) (sym c.self.invariant.0) (sym c.is_member.ensures ∙ c.if-is_member.true);
    })
    c.self.invariant)

pub invariant_of-self : goal.invariant_of-self
invariant_of-self c = subst IsOfNode2 (sym c.in_err-begin.ensures.err) c.self.invariant
