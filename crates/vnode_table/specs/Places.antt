-- Where each epoch stands among those that were entered, so that a look-up scans none.
use Rattle.std.specs.Prelude.{◌≡◌, ℕ, ◌<◌, ◌==◌, Bool, List, length, reverse, find, slice_get, Option, Some, None}
use Rattle.std.specs.Ordering.{nat_cmp}
use Rattle.std.specs.BTreeMap.{BTreeMap, get}
use Rattle.vnode_table.specs.Epochs.{EpochMembers}

abbrev pub is_of : ℕ → EpochMembers → Bool
is_of epoch entered = entered.epoch == epoch

-- what stands at a place
abbrev pub entered_at : List EpochMembers → Option ℕ → Option EpochMembers
entered_at terms None = None
entered_at terms (Some place) = slice_get terms place

-- the map leads to the last one entered of each epoch, where they stand in the order in which they were entered
pub record ArePlaces (terms : List EpochMembers) (places : BTreeMap ℕ ℕ) : Type 0 where
  pub within : (epoch place : ℕ) → get nat_cmp places epoch ≡ Some place → place < length terms
  pub found : (epoch : ℕ) → entered_at terms (get nat_cmp places epoch) ≡ find (is_of epoch) (reverse terms)
