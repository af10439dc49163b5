-- A cluster's run begins in the opening world of its script.
use Rattle.std.proofs.Common.{◌≡◌, false, List, []}
use Rattle.cluster_script.specs.declared.statement.Statement.{Statement}
use Rattle.sheep_world.specs.SpentWorld.{WorldOrSpent}
use Rattle.sheep_world.specs.Run.{Run}
use Rattle.live_merge.specs.Merging.{EndsIn}
use Rattle.live_merge.proofs.OpeningLemmas as openings

pub opening_live : (statements : List Statement) (seen : WorldOrSpent) → openings.Opens statements seen → seen.spent ≡ false
opening_live statements seen opens = openings.opening_live statements seen opens

pub opening_ends : (statements : List Statement) (seen : WorldOrSpent) (kept : Run) → openings.Opens statements seen
    → kept ≡ record { events = []; history = [] } → EndsIn statements kept seen.world
opening_ends statements seen kept opens none = openings.opening_ends statements seen kept opens none
