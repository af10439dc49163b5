-- The members of an epoch, ascending by number, and what an entry of the log makes of them.
use Rattle.std.specs.Prelude.{ℕ, ◌==◌, nat_lt, Bool, not, List, [], ◌∷◌, map, filter, All, if◌then◌else◌}
use Rattle.std.specs.List.{list_any}
use Rattle.std.specs.List.Sorted.{IsStrictlyIncreasing}
use Rattle.object_id.specs.declared.entry.Member.{Member}
use Rattle.object_id.specs.declared.entry.Entry.{Entry}
use Rattle.object_id.specs.declared.entry.Entry.TheVariants.{Format, Join, Leave, Reweight, Recovered, Reserve, Publish, Clone, Snapshot}
use Rattle.object_id.specs.declared.entry.Entry.TheVariants.{Delete, Lock, Unlock}
use Rattle.object_id.specs.Node.{IsNode, IsWeight}

-- whether the member is the node of this number
abbrev pub is_member_node : ℕ → Member → Bool
is_member_node node member = member.node.0 == node

-- whether a node is one of the members
abbrev pub is_member : ℕ → List Member → Bool
is_member node members = list_any (is_member_node node) members

-- the members with one more, before the first of a greater number
abbrev pub members_with : Member → List Member → List Member
members_with member [] = member ∷ []
members_with member (first ∷ rest) =
    if nat_lt member.node.0 first.node.0 then member ∷ first ∷ rest else first ∷ members_with member rest

-- the members without a node
abbrev pub members_without : ℕ → List Member → List Member
members_without node members = filter (λ member. not (is_member_node node member)) members

-- the members, with another weight for a node
abbrev pub members_reweighted : ℕ → ℕ → List Member → List Member
members_reweighted node vnodes members =
    map (λ member. if is_member_node node member then record member { vnodes = vnodes } else member) members

-- what an entry makes of the members
abbrev pub members_after : List Member → Entry → List Member
members_after members (Format opening) = members
members_after members (Join node zone vnodes) = members_with (record { node = node; zone = zone; vnodes = vnodes }) members
members_after members (Leave node) = members_without node.0 members
members_after members (Reweight node vnodes) = members_reweighted node.0 vnodes members
members_after members (Recovered node epoch) = members
members_after members (Reserve by session name origin) = members
members_after members (Publish by vid) = members
members_after members (Clone by vid) = members
members_after members (Snapshot by old vid) = members
members_after members (Delete by session name tag) = members
members_after members (Lock by session name tag) = members
members_after members (Unlock by session vid) = members

-- the nodes of members, by number
abbrev pub node_numbers : List Member → List ℕ
node_numbers members = map (λ (member : Member). member.node.0) members

-- each member has a weight that there may be
abbrev pub HaveWeights : List Member → Type 0
HaveWeights members = All (λ (member : Member). IsWeight member.vnodes) members

-- ascending, so all different, and each a number that a node may have
pub record AreMembers (members : List Member) : Type 0 where
  pub ascending : IsStrictlyIncreasing (node_numbers members)
  pub nodes : All IsNode (node_numbers members)
