-- When the checker's state shows a ledger, and what an entry into it says of an event.
use Rattle.std.specs.Prelude.{◌≡◌, ℕ, Bool, true, List, length, reverse}
use Rattle.std.specs.Option.{option_map}
use Rattle.std.specs.Ordering.{nat_cmp}
use Rattle.std.specs.BTreeMap.{get, BTreeMap}
use Rattle.std.specs.BTreeSet.{contains}
use Rattle.disk_history.specs.declared.event.HistEvent.{HistEvent}
use Rattle.disk_history.specs.declared.requests.Requests.{Requests}
use Rattle.disk_history.specs.declared.disks.DiskState.{DiskState}
use Rattle.disk_history.specs.declared.writes.Write.{Write}
use Rattle.disk_history.specs.declared.checker_state.CheckerState.{CheckerState}
use Rattle.disk_history.specs.Ledger.{Ledger, ledger_after}
use Rattle.disk_history.specs.Legal.{has_place, may_follow}
use Rattle.disk_history.specs.CheckerState.{fate_of, place_cmp, shown_disk, ShowsRequest, AreWithin, IsLinked}

-- the requests, disks and writes that are kept show the ledger
pub record ShowsAll (requests : Requests) (disks : BTreeMap ℕ DiskState) (writes : List Write) (ledger : Ledger) : Type 0 where
  pub of_disk : (disk : ℕ) → ledger.disks disk ≡ option_map (shown_disk (fate_of requests) writes) (get nat_cmp disks disk)
  pub of_request : (req : ℕ) → ShowsRequest (get nat_cmp requests.states req) (ledger.requests req)
  pub of_place : (req disk block : ℕ) → has_place (ledger.requests req) disk block
      ≡ contains place_cmp requests.places (record { req = req; disk = disk; block = block })
  pub linked : IsLinked (reverse writes)
  pub within : (disk : ℕ) → AreWithin (get nat_cmp disks disk) (length writes)

abbrev pub Shows : CheckerState → Ledger → Type 0
Shows checker_state ledger = ShowsAll checker_state.requests checker_state.disks checker_state.writes.items ledger

-- The answer is whether the event may follow, and where it may, the state then shows what it leaves.
abbrev pub Enters : CheckerState → CheckerState → HistEvent → Bool → Type 0
Enters old new event legal = (ledger : Ledger) → Shows old ledger → (legal ≡ may_follow ledger event)
    × (legal ≡ true → Shows new (ledger_after ledger event))

-- the state shows some ledger
abbrev pub ShowSome : CheckerState → Type 0
ShowSome checker_state = (ledger : Ledger) × Shows checker_state ledger

-- what a write that begins leaves, in the state of a ledger
abbrev pub BeginsWrite : CheckerState → CheckerState → HistEvent → Type 0
BeginsWrite old new event = (ledger : Ledger) → Shows old ledger → Shows new (ledger_after ledger event)
