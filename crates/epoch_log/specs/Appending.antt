-- Which entry may stand after which, and which lists are logs.
use Rattle.std.specs.Prelude.{◌≡◌, ◌<◌, ◌≤◌, Bool, true, false, IsTrue, List, [], ◌∷◌, ◌++◌, length}
use Rattle.object_id.specs.declared.entry.Member.{Member}
use Rattle.object_id.specs.declared.entry.Entry.{Entry}
use Rattle.object_id.specs.declared.entry.Entry.TheVariants.{Format, Join, Leave, Reweight, Reserve}
use Rattle.object_id.specs.declared.limits.TheConstants.{EPOCH_MAX}
use Rattle.object_id.specs.Node.{IsNode, IsWeight}
use Rattle.object_id.specs.Spec.{IsName, IsOrigin}
use Rattle.epoch_log.specs.Members.{is_member, HaveWeights, AreMembers}
use Rattle.epoch_log.specs.Epochs.{epoch_of, members_in}

abbrev pub is_format : Entry → Bool
is_format (Format members) = true
is_format _ = false

-- a reservation has a name, and an origin that a disk may be made from; no other entry is asked for anything
abbrev pub IsReservable : Entry → Type 0
IsReservable (Reserve by session name origin) = IsName name × IsOrigin origin
IsReservable _ = Unit {0}

-- a node that joins is no member yet; one that leaves, or gets another weight, is a member; numbers and weights are such as
-- there may be
abbrev pub FitsMembers : List Member → Entry → Type 0
FitsMembers members (Join node zone vnodes) = IsNode node.0 × IsWeight vnodes × (is_member node.0 members ≡ false)
FitsMembers members (Leave node) = IsTrue (is_member node.0 members)
FitsMembers members (Reweight node vnodes) = IsWeight vnodes × IsTrue (is_member node.0 members)
FitsMembers members _ = Unit {0}

-- what an entry must meet to stand after these
pub record MayAppend (entries : List Entry) (entry : Entry) : Type 0 where
  pub later : is_format entry ≡ false
  pub reservable : IsReservable entry
  pub fits : FitsMembers (members_in entries (epoch_of entries)) entry
  pub room : epoch_of entries < EPOCH_MAX

-- each of these entries may stand after those before it
abbrev pub AreAppended : List Entry → List Entry → Type 0
AreAppended before [] = Unit {0}
AreAppended before (entry ∷ later) = MayAppend before entry × AreAppended (before ++ entry ∷ []) later

-- some members may open a log, in ascending order, so as many as there may be nodes at most
pub record MayOpen (members : List Member) : Type 0 where
  pub some : 1 ≤ length members
  pub ordered : AreMembers members
  pub weights : HaveWeights members

-- a log: the opening members, then entries each of which may stand there
abbrev pub IsLog : List Entry → Type 0
IsLog [] = ⊥
IsLog (Format members ∷ later) = MayOpen members × AreAppended (Format members ∷ []) later
IsLog _ = ⊥
