-- The epochs that were entered, the last entered first.
use Rattle.std.specs.Prelude.{ℕ, ◌==◌, Bool, List, [], ◌∷◌, if◌then◌else◌}
use Rattle.std.specs.List.{list_any}
use Rattle.object_id.specs.declared.entry.Member.{Member}

-- an epoch that was entered, with its members
pub record EpochMembers : Type 0 where
  pub epoch : ℕ
  pub members : List Member

-- whether an epoch was entered
abbrev pub is_entered : List EpochMembers → ℕ → Bool
is_entered epochs epoch = list_any (λ (entered : EpochMembers). entered.epoch == epoch) epochs

-- the members with which an epoch was entered
abbrev pub members_at : List EpochMembers → ℕ → List Member
members_at [] epoch = []
members_at (entered ∷ earlier) epoch = if entered.epoch == epoch then entered.members else members_at earlier epoch
