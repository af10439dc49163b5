-- No open row of a peer is from a later epoch than the peer's, whatever the calls of its store make of its rows.
use Rattle.std.proofs.Common.{◌≡◌, ℕ, ◌+◌, Bool, List, sym, subst, arith}
use Rattle.object_store.specs.declared.key.Key.{Key}
use Rattle.object_store.specs.Rows.{closed_all, purged, advanced}
use Rattle.object_store.specs.Store.{AllRows, each, OpenUpTo}
use Rattle.object_store.proofs.StoreLaws.{OpenUpTo-advance, OpenUpTo-close_all, OpenUpTo-purge, OpenUpTo-later}
use Rattle.peer_service.specs.LogReading.{rows_but}
use Rattle.peer_service.proofs.EpochLemmas.{without_up_to}

pub purged_rows : (epoch settled : ℕ) (all new : AllRows) → new ≡ each (λ q. purged settled) all → OpenUpTo epoch all → OpenUpTo epoch new
purged_rows epoch settled all new is had = subst (OpenUpTo epoch) (sym is) (OpenUpTo-purge epoch all settled had)

pub advanced_rows : (epoch : ℕ) (keeps : List Key) (all new : AllRows) → new ≡ each (advanced keeps (epoch + 1)) all → OpenUpTo epoch all
    → OpenUpTo (epoch + 1) new
advanced_rows epoch keeps all new is had = subst (OpenUpTo (epoch + 1)) (sym is)
    (OpenUpTo-later epoch (epoch + 1) (each (advanced keeps (epoch + 1)) all) (omega arith) (OpenUpTo-advance epoch all keeps (epoch + 1) had))

pub dropped_rows : (epoch : ℕ) (goes : ℕ → Bool) (all new : AllRows) → new ≡ each (rows_but goes) all → OpenUpTo epoch all → OpenUpTo epoch new
dropped_rows epoch goes all new is had = subst (OpenUpTo epoch) (sym is) (without_up_to goes epoch all had)

-- rows that were all closed, whatever the epoch
pub closed_rows : (epoch last settled : ℕ) (goes : ℕ → Bool) (all : AllRows)
    → OpenUpTo epoch (each (rows_but goes) (each (λ q. purged settled) (each (λ q. closed_all last) all)))
closed_rows epoch last settled goes all =
    let shut : AllRows = each (λ q. closed_all last) all in
    without_up_to goes epoch (each (λ q. purged settled) shut) (OpenUpTo-purge epoch shut settled (OpenUpTo-close_all epoch all last))
