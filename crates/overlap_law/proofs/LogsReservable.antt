-- At each moment on the way of an event what the log reserves may be reserved.
use Rattle.std.proofs.Common.{◌≡◌, ⊎_elim, List, All, sym, subst}
use Rattle.cluster_script.specs.declared.statement.Statement.{Statement}
use Rattle.epoch_log.specs.Appending.{IsReservable}
use Rattle.sheep_world.specs.Began.{Began}
use Rattle.sheep_world.specs.World.{World}
use Rattle.sheep_world.proofs.LogAtOpening.{log-holds}
use Rattle.sheep_world.proofs.ValidNodes.{log_reservable}
use Rattle.overlap_law.specs.MomentChanges.{RunsAreInRange, KeptByChanges}
use Rattle.overlap_law.specs.Past.{MomentWithPast, first_moment}
use Rattle.overlap_law.proofs.LogsInMoments.{ends_or_same}
use Rattle.overlap_law.proofs.ReadInMoments.{opening_began}

pub record LogIsReservable (moment : MomentWithPast) : Type 0 where
  pub all : All IsReservable moment.world.log

module _ (script : List Statement) (range : RunsAreInRange script) where
  pub in_world : (world : World) → Began script world → All IsReservable world.log
  in_world world began = log_reservable world.log (log-holds script range.is_script range.room world began).log

  pub kept_reservable : KeptByChanges script LogIsReservable
  kept_reservable = record {
    opens = record { all = in_world (first_moment script).world (opening_began script range) };
    keeps = λ start before after began change was. record {
      all = ⊎_elim
          (λ (ended : Began script after.world). in_world after.world ended)
          (λ (same : after.world.log ≡ before.world.log). subst (All IsReservable) (sym same) was.all)
          (ends_or_same script began change);
    };
  }
