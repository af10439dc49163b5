use Rattle.std.proofs.Common.{◌≡◌, ℕ, ◌≤◌, Some, arith, ap, sym, subst, ◌∙◌}
use Rattle.std.specs.Option.{IfSome}
use Rattle.std.proofs.lemmas.Option.{same_Some}
use Rattle.std.proofs.lemmas.List.Elements.{All-nil}
use Rattle.object_id.specs.declared.limits.TheConstants.{TARGETS_MAX}
use Rattle.object_id.specs.declared.node.NodeId.{NodeId}
use Rattle.object_id.specs.declared.policy.Policy.{Policy}
use Rattle.object_id.specs.Policy.{IsPolicy}
use Rattle.recovery.specs.Shown.{NodeView}
use Rattle.recovery.specs.State.{Recovery, Message, initial_recovery}
use Rattle.recovery.specs.Kept.{recovery_state}
use Rattle.recovery.specs.Step.{MayStep, IsPartSize}
use Rattle.part_tests.proofs.recoveries.trial.Trial.new.Goals as goal

-- before its first recovery a node that has read a settled epoch, and is in it or behind, may step
before_first : (me : NodeId) (recovery : Recovery) (shown : NodeView) → recovery ≡ initial_recovery me → 1 ≤ shown.settled → shown.settled ≤ shown.epoch
    → ((oid : ℕ) → IfSome (shown.policy_of oid) IsPolicy)
    → ((oid : ℕ) (policy : Policy) (size : ℕ) → shown.policy_of oid ≡ Some policy → shown.size_of oid ≡ Some size → IsPartSize policy oid size)
    → MayStep (recovery_state recovery shown)
before_first me recovery shown first settled entered policies sizes = subst (λ (recovery : Recovery). MayStep (recovery_state recovery shown)) (sym first) (record {
  epoch = omega arith;
  entered = omega (arith, settled, entered);
  settled = settled;
  waiting = omega arith;
  policies = policies;
  sizes = sizes;
  search = tt;
  wanted = All-nil (λ (message : Message). message.wanted ≤ TARGETS_MAX);
})

pub invariant_of-result : goal.invariant_of-result
invariant_of-result c = (
  ap (λ (recovery : Recovery). recovery.me) c.new-recovery.ensures,
  before_first _ _ _ c.new-recovery.ensures c.if-settled-ge1.true
      (subst (λ epoch. c.args.node.settled.0 ≤ epoch) c.epoch.ensures c.if-settled-epoch.true)
      (λ oid. subst IsPolicy c.policy-policy.ensures.value c.policy-policy.ensures.valid)
      (λ oid policy size has is.
      subst (λ (policy : Policy). IsPartSize policy oid size) (same_Some _ policy has)
      (subst (IsPartSize _ oid) (c.length-length.ensures.value ∙ same_Some _ size is) (c.length-length.ensures.parts oid))),
)
