-- What the checks at gateways have begun to write, by the events of the history: no object that they haven't compared yet.
use Rattle.std.specs.Prelude.{◌≡◌, ℕ, ◌*◌, ◌≤◌, Bool, true, false, nat_lt, List, Contains, Some}
use Rattle.std.specs.List.{list_any}
use Rattle.std.specs.FinMap as tree
use Rattle.disk_history.specs.declared.event.HistEvent.{HistEvent}
use Rattle.disk_history.specs.declared.event.HistEvent.TheVariants.{WriteStart}
use Rattle.disk_check.specs.Check.{Check, left_of}
use Rattle.sheep_node.specs.declared.course.Course.TheVariants.{Checking}
use Rattle.sheep_world.specs.World.{Host}
use Rattle.overlap_law.specs.ToldReads.{begins_write_at}
use Rattle.overlap_law.specs.Words.{Hosts}
use Rattle.overlap_law.specs.WrittenBlocks.{blocks_per_object}

-- a check, of the request of a number, has begun no write of a block from the first of an object on that it hasn't compared yet
abbrev pub HasBegunNoneAhead : ℕ → List HistEvent → Check → Type 0
HasBegunNoneAhead req history check =
    (index block : ℕ) → Contains (left_of check.stage) index → index * blocks_per_object check.spec ≤ block
    → list_any (begins_write_at req check.vid block) history ≡ false

-- each check at a node
pub record ChecksHaveBegunNoneAhead (history : List HistEvent) (hosts : Hosts) : Type 0 where
  pub each : (n : ℕ) (host : Host) → tree.get hosts n ≡ Some host → (req session : ℕ) (check : Check)
      → tree.get host.node.requests req ≡ Some (record { session = session; course = Checking check })
      → HasBegunNoneAhead req history check

-- a request has begun a write of a block
pub record HasBegunAWrite (req : ℕ) (history : List HistEvent) : Type 0 where
  pub vid : ℕ
  pub block : ℕ
  pub coded : Bool
  pub bytes : List ℕ
  pub among : Contains history (WriteStart req vid block coded bytes)

-- a check that has counted an own object has
pub record ChecksHaveBegunIfFound (history : List HistEvent) (hosts : Hosts) : Type 0 where
  pub each : (n : ℕ) (host : Host) → tree.get hosts n ≡ Some host → (req session : ℕ) (check : Check)
      → tree.get host.node.requests req ≡ Some (record { session = session; course = Checking check })
      → nat_lt 0 check.found.objects ≡ true → HasBegunAWrite req history
