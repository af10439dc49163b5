use Rattle.std.proofs.Common.{sym, subst, arith}
use Rattle.std.specs.List.Sorted.{IsStrictlyIncreasing}
use Rattle.object_store.proofs.OidLemmas.{IsStrictlyIncreasing-picked}
use Rattle.object_store.proofs.oid_list.OidList.retain.Goals as goal

pub invariant_of-self : goal.invariant_of-self
invariant_of-self g c =
    let kept = c.retain.ensures.filtered in (
      omega arith,
      subst IsStrictlyIncreasing (sym kept.4)
          (IsStrictlyIncreasing-picked kept.0 c.move_to_front.new.items.items (subst IsStrictlyIncreasing (sym c.move_to_front.ensures) c.self.invariant.1)),
    )
