-- What a live cluster kept stands by stamp in one order, and merges to one run at most.
use Rattle.std.proofs.Common.{◌≡◌, List, subst}
use Rattle.cluster_script.specs.declared.statement.Statement.{Statement}
use Rattle.sheep_node.specs.declared.event.Event.{Event}
use Rattle.sheep_world.specs.Run.{IsRun}
use Rattle.schedule.specs.Merged.{KeptStep, Kept, all_steps, stamp_of, IsByStamp, Merges, IsMergeOf}
use Rattle.schedule.proofs.StampOrder.{by_key, by_key-permutation, by_key-sorted, by_key-stable, one-order}
use Rattle.schedule.proofs.MergeLaws.{merge-is-run, one-merge}

-- what was kept, by stamp
abbrev pub by_stamp : Kept → List KeptStep
by_stamp kept = by_key stamp_of (all_steps kept)

pub by_stamp-is : (kept : Kept) → IsByStamp kept (by_stamp kept)
by_stamp-is kept = record {
  same = by_key-permutation stamp_of (all_steps kept);
  ascending = by_key-sorted stamp_of (all_steps kept);
  ties = by_key-stable stamp_of (all_steps kept);
}

pub one-by_stamp : (kept : Kept) (steps others : List KeptStep) → IsByStamp kept steps → IsByStamp kept others → steps ≡ others
one-by_stamp kept steps others h k = one-order stamp_of (all_steps kept) steps others h.ascending h.ties k.ascending k.ties

pub kept-run : (statements : List Statement) (kept : Kept) (events : List Event) → IsMergeOf statements kept events → IsRun statements events
kept-run statements kept events h = merge-is-run statements h.0 events h.2

pub kept-merge : (statements : List Statement) (kept : Kept) (events others : List Event)
    → IsMergeOf statements kept events → IsMergeOf statements kept others → events ≡ others
kept-merge statements kept events others h k =
    one-merge statements k.0 events others
    (subst (λ (steps : List KeptStep). Merges statements steps events) (one-by_stamp kept h.0 k.0 h.1 k.1) h.2) k.2
