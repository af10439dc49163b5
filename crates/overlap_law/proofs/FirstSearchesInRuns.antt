-- At each moment on the way of an event of a run in range nothing is known to be pending, nothing is searched, and nothing is missing,
-- before a recovery's list is finished; and a search is of the first pending object, at a level from 1 to the one before the recovery's
-- epoch.
use Rattle.std.proofs.Common.{◌≡◌, ℕ, ◌<◌, ◌≤◌, List, [], Option, Some, None, subst}
use Rattle.std.specs.Option.{IfSome}
use Rattle.std.specs.FinMap as tree
use Rattle.object_id.specs.declared.node.NodeId.{NodeId}
use Rattle.cluster_script.specs.declared.statement.Statement.{Statement}
use Rattle.peer_service.specs.State.{Peer}
use Rattle.recovery.specs.State.{Search, Recovery, initial_recovery, still_on}
use Rattle.recovery.specs.Step.{AnswersFit}
use Rattle.sheep_node.specs.RecoveryView.{shown_node}
use Rattle.sheep_world.specs.World.{Host, World}
use Rattle.sheep_world.specs.Began.{Began}
use Rattle.sheep_world.specs.RunsWithAsks.{Move}
use Rattle.overlap_law.specs.Past.{MomentWithPast, run_with_past}
use Rattle.overlap_law.specs.MomentChanges.{MomentTrail, RunsAreInRange}
use Rattle.overlap_law.specs.Lists.{ListsComeFirst}
use Rattle.overlap_law.specs.Searches.{SearchesAreOfTheFirst}
use Rattle.overlap_law.proofs.FirstSearches.{SearchesInOrder, searches_kept, is_on}
use Rattle.overlap_law.proofs.MissingLater.{MissesLater, misses_kept}
use Rattle.overlap_law.proofs.RangeOfRuns.{nodes_sound}
use Rattle.overlap_law.proofs.RecoveriesInWorlds.{recoveries_so, recoveries-on_the_way}

-- a search is at a level from 1 to the one before the recovery's epoch
abbrev pub IsWithinLevels : ℕ → Search → Type 0
IsWithinLevels epoch search = (1 ≤ search.level) × (search.level < epoch)

-- the searches of a recovery are in order, and within the levels
abbrev SearchesWithin : ℕ → Recovery → Peer → Type 0
SearchesWithin n recovery peer = SearchesInOrder recovery peer.pending × IfSome recovery.search (IsWithinLevels recovery.epoch)

module _ (script : List Statement) (range : RunsAreInRange script) where
  first_in_order : (me : NodeId) → SearchesInOrder (initial_recovery me) (Some [])
  first_in_order me = (λ unlisted. absurd (cc (unlisted)), λ on is. absurd (cc (is)))

  pub in_order-in_world : (world : World) → Began script world → (n : ℕ) (host : Host) → tree.get world.hosts n ≡ Some host
      → SearchesInOrder host.node.recovery host.node.peer.pending
  in_order-in_world = recoveries_so script range SearchesInOrder searches_kept first_in_order

  pub levels-in_world : (world : World) → Began script world → (n : ℕ) (host : Host) → tree.get world.hosts n ≡ Some host
      → IfSome host.node.recovery.search (IsWithinLevels host.node.recovery.epoch)
  levels-in_world world began n host there =
      by_search host.node.recovery.search
      (nodes_sound script range.is_script range.room (λ w b. (range.messages w b).replies) world began n host there).recovery.may.search
    where
      by_search : (o : Option Search)
          → IfSome o (λ search. (1 ≤ search.level) × (search.level < host.node.recovery.epoch)
          × AnswersFit (shown_node host.node) search.oid search.answers)
          → IfSome o (IsWithinLevels host.node.recovery.epoch)
      by_search None fits = tt
      by_search (Some search) fits = (fits.0, fits.1)

  within-in_world : (world : World) → Began script world → (n : ℕ) (host : Host) → tree.get world.hosts n ≡ Some host
      → SearchesWithin n host.node.recovery host.node.peer
  within-in_world world began n host there = (in_order-in_world world began n host there, levels-in_world world began n host there)

  abbrev MissesLaterAt : ℕ → Recovery → Peer → Type 0
  MissesLaterAt n recovery peer = MissesLater recovery peer.pending

  misses-in_world : (world : World) → Began script world → (n : ℕ) (host : Host) → tree.get world.hosts n ≡ Some host
      → MissesLater host.node.recovery host.node.peer.pending
  misses-in_world =
      recoveries_so script range MissesLater misses_kept (λ me. (λ unlisted. absurd (cc (unlisted)), λ unlisted. absurd (cc (unlisted))))

  module _ (events : List Move) (start moment : MomentWithPast) (is : run_with_past script events ≡ Some start)
      (trail : MomentTrail script start moment) where
    within : (n : ℕ) (host : Host) → tree.get moment.world.hosts n ≡ Some host → SearchesWithin n host.node.recovery host.node.peer
    within = recoveries-on_the_way script SearchesWithin within-in_world events start moment is trail

    pub listing-on_the_way : ListsComeFirst moment.world.hosts
    listing-on_the_way = record {
      pending = λ n host there up unlisted. ((within n host there).0.0 unlisted).0;
      search = λ n host there up unlisted. ((within n host there).0.0 unlisted).1;
      missing = λ n host there up unlisted.
          (recoveries-on_the_way script MissesLaterAt misses-in_world events start moment is trail n host there).1 unlisted;
    }

    levels_of : (n : ℕ) (host : Host) → tree.get moment.world.hosts n ≡ Some host → (search : Search)
        → still_on host.node.peer.pending host.node.recovery.search ≡ Some search → IsWithinLevels host.node.recovery.epoch search
    levels_of n host there search on =
        let found = is_on host.node.peer.pending host.node.recovery.search search on in
        subst (λ (o : Option Search). IfSome o (IsWithinLevels host.node.recovery.epoch)) found.search (within n host there).1

    pub search_first-on_the_way : SearchesAreOfTheFirst moment.world.hosts
    search_first-on_the_way = record {
      first = λ n host there up search on. (within n host there).0.1 search on;
      below = λ n host there up search on. (levels_of n host there search on).1;
      above = λ n host there up search on. (levels_of n host there search on).0;
    }
