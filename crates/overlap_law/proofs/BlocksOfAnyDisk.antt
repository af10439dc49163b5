-- A block of a disk that is there is one of a disk whose id isn't dead.
use Rattle.std.proofs.Common.{◌≡◌, ℕ, ◌&&◌, not, Bool, true, false, List, refl, ap}
use Rattle.std.specs.List.{list_any}
use Rattle.object_id.specs.declared.entry.VdiSpec.{VdiSpec}
use Rattle.disk_history.specs.Ledger.{Disk, Ledger}
use Rattle.vdi_directory.specs.declared.effect.Effect.{Effect}
use Rattle.vdi_directory.specs.Dead.{is_gone, is_heir, granted_ids, is_dead}
use Rattle.vdi_directory.specs.States.{VdiState, Unused, Reserved, Working, Snapshot, Deleted, Freed, state_of, is_live_state}
use Rattle.overlap_law.specs.StayingBlocks.{IsBlockOfAnyDisk}
use Rattle.overlap_law.specs.WrittenBlocks.{IsBlockOfDisk}

not_gone : (state : VdiState) → is_live_state state ≡ true → is_gone state ≡ false
not_gone Unused live = absurd (cc (live))
not_gone (Reserved by) live = absurd (cc (live))
not_gone Working live = refl
not_gone (Snapshot tag) live = refl
not_gone Deleted live = absurd (cc (live))
not_gone Freed live = absurd (cc (live))

pub live_alive : (effects : List Effect) (vid : ℕ) → is_live_state (state_of effects vid) ≡ true → is_dead effects vid ≡ false
unfolding is_dead
live_alive effects vid live =
    ap (λ (b : Bool). b && not (list_any (is_heir effects vid) (granted_ids effects))) (not_gone (state_of effects vid) live)

pub any_block : (ledger : Ledger) (effects : List Effect) (good_id : ℕ → Bool) (vid : ℕ) (disk : Disk) (spec : VdiSpec) (index unit : ℕ)
    → IsBlockOfDisk ledger effects good_id vid disk spec index unit → IsBlockOfAnyDisk ledger effects good_id vid disk spec index unit
any_block ledger effects good_id vid disk spec index unit block = record {
  there = block.there;
  alive = live_alive effects vid block.live;
  good = block.good;
  made_with = block.made_with;
  object = block.object;
  inside = block.inside;
  block = block.block;
}
