-- What is pending once the list is finished.
use Rattle.std.proofs.Common.{◌≡◌, ◌↔◌, ◌⊎◌, ℕ, Bool, true, List, Contains}
use Rattle.std.specs.FinMap as tree
use Rattle.std.specs.List.Sorted.{IsStrictlyIncreasing}
use Rattle.std.proofs.lemmas.List.Kept.{IsStrictlyIncreasing-filter}
use Rattle.proof_tools.proofs.Lists.{Contains-filter, filter-contains}
use Rattle.object_list.specs.Union.{union}
use Rattle.object_list.proofs.UnionLemmas.{union-ascending, union-has, union-only}
use Rattle.recovery.specs.Shown.{is_to_recover}
use Rattle.recovery.specs.State.{RecoveryState}
use Rattle.recovery.specs.Steps.{to_recover}

abbrev test : RecoveryState → ℕ → Bool
test state = is_to_recover state.recovery.me state.recovery.epoch state.shown

abbrev both : RecoveryState → List ℕ
both state = union state.recovery.lists.objects (tree.keys state.shown.rows)

pub pending_ascends : (state : RecoveryState) → IsStrictlyIncreasing state.recovery.lists.objects → IsStrictlyIncreasing (to_recover state)
pending_ascends state up =
    IsStrictlyIncreasing-filter (test state) (both state) (union-ascending state.recovery.lists.objects (tree.keys state.shown.rows) up)

pub pending_has : (state : RecoveryState) (oid : ℕ) → Contains (to_recover state) oid
    ↔ ((Contains state.recovery.lists.objects oid ⊎ Contains (tree.keys state.shown.rows) oid)
    × (is_to_recover state.recovery.me state.recovery.epoch state.shown oid ≡ true))
pending_has state oid = (
  λ there. (
    union-only state.recovery.lists.objects (tree.keys state.shown.rows) oid (filter-contains (test state) (both state) oid there).0,
    (filter-contains (test state) (both state) oid there).1,
  ),
  λ is. Contains-filter (test state) (both state) oid (union-has state.recovery.lists.objects (tree.keys state.shown.rows) oid is.0) is.1,
)
