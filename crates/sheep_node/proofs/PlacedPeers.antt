-- A node that has not entered an epoch knows no targets of it.
use Rattle.std.proofs.Common.{◌≡◌, ℕ, ◌==◌, Bool, true, false, ◌||◌, cond, List, [], ◌∷◌, refl, ap, ◌∙◌}
use Rattle.std.proofs.Math.Seq.{take-nil}
use Rattle.hash_ring.specs.Circle.{hash_of_object}
use Rattle.hash_ring.specs.Placement.{targets_of}
use Rattle.object_id.specs.declared.entry.Member.{Member}
use Rattle.object_id.specs.declared.policy.Policy.{Policy}
use Rattle.object_id.specs.Oid.{kind_of}
use Rattle.object_id.specs.Policy.{wanted_of}
use Rattle.vnode_table.specs.Epochs.{EpochMembers, is_entered, members_at}
use Rattle.vnode_table.specs.Targets.{targets_in}

no_members : (epochs : List EpochMembers) (epoch : ℕ) → is_entered epochs epoch ≡ false → members_at epochs epoch ≡ []
no_members [] epoch lacks = refl
no_members (entered ∷ earlier) epoch lacks = by_first (entered.epoch == epoch) (no_members earlier epoch) lacks
  where
    by_first : (is : Bool) → (is_entered earlier epoch ≡ false → members_at earlier epoch ≡ [])
        → (is || is_entered earlier epoch) ≡ false → cond is entered.members (members_at earlier epoch) ≡ []
    by_first true rest lacks = absurd (cc (lacks))
    by_first false rest lacks = rest lacks

pub no_targets : (epochs : List EpochMembers) (epoch oid : ℕ) (policy : Policy) → is_entered epochs epoch ≡ false
    → targets_in epochs epoch oid policy ≡ []
unfolding targets_in targets_of
no_targets epochs epoch oid policy lacks =
    ap (λ (members : List Member). targets_of members (hash_of_object oid) (wanted_of policy (kind_of oid))) (no_members epochs epoch lacks)
    ∙ take-nil (wanted_of policy (kind_of oid))
