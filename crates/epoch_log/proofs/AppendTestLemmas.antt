-- The tests of entries and of opening members hold exactly if these may stand.
use Rattle.std.proofs.Common.{ℕ, ◌<◌, nat_lt, List, [], ◌∷◌, length, refl}
use Rattle.std.specs.Bool.{Decides}
use Rattle.std.specs.List.Sorted.{IsStrictlyIncreasing}
use Rattle.std.proofs.lemmas.Bool.Decides.{Decides-ltb}
use Rattle.proof_tools.proofs.AscendingNumbers.{IsStrictlyIncreasing-nil, IsStrictlyIncreasing-first, IsStrictlyIncreasing-tail, IsStrictlyIncreasing-cons}
use Rattle.proof_tools.proofs.Deciding.{itself, always, both, said_as, all_three, at_most, is_not, each}
use Rattle.object_id.specs.declared.entry.Entry.{Entry}
use Rattle.object_id.specs.declared.entry.Entry.TheVariants.{Join, Leave, Reweight, Reserve}
use Rattle.object_id.specs.declared.entry.Member.{Member}
use Rattle.object_id.specs.declared.limits.TheConstants.{EPOCH_MAX}
use Rattle.object_id.specs.Node.{IsNode, IsWeight}
use Rattle.object_id.specs.Tests.{is_node, is_weight}
use Rattle.object_id.proofs.TestLemmas.{name_tested, origin_tested, node_tested, weight_tested}
use Rattle.epoch_log.specs.Members.{is_member, node_numbers}
use Rattle.epoch_log.specs.Epochs.{epoch_of, members_in}
use Rattle.epoch_log.specs.Appending.{is_format, IsReservable, FitsMembers, MayAppend, MayOpen}
use Rattle.epoch_log.specs.AppendTests as tests

ascending : (numbers : List ℕ) → Decides (tests.is_strictly_increasing numbers) (IsStrictlyIncreasing numbers)
ascending [] = (λ is. IsStrictlyIncreasing-nil, λ holds. refl)
ascending (first ∷ later) =
    said_as (λ holds. IsStrictlyIncreasing-cons first later holds.0 holds.1)
    (λ up. (IsStrictlyIncreasing-first first later up, IsStrictlyIncreasing-tail first later up))
    (both (each (λ (y : ℕ). first < y) (nat_lt first) (Decides-ltb first) later) (ascending later))

pub open_tested : (members : List Member) → Decides (tests.may_open members) (MayOpen members)
open_tested members =
    said_as (λ holds. record { some = holds.0; ordered = record { ascending = holds.1.0.0; nodes = holds.1.0.1 }; weights = holds.1.1 })
    (λ may. (may.some, ((may.ordered.ascending, may.ordered.nodes), may.weights)))
    (both (at_most 1 (length members))
    (both (both (ascending (node_numbers members)) (each IsNode is_node node_tested (node_numbers members)))
    (each (λ (member : Member). IsWeight member.vnodes) (λ (member : Member). is_weight member.vnodes) (λ member. weight_tested member.vnodes) members)))

reservable_tested : (entry : Entry) → Decides (tests.is_reservable entry) (IsReservable entry)
reservable_tested (Reserve by session name origin) = both (name_tested name) (origin_tested origin)
reservable_tested _ = always

members_tested : (members : List Member) (entry : Entry) → Decides (tests.fits_members members entry) (FitsMembers members entry)
members_tested members (Join node zone vnodes) =
    all_three (node_tested node.0) (weight_tested vnodes) (is_not (is_member node.0 members))
members_tested members (Leave node) = itself (is_member node.0 members)
members_tested members (Reweight node vnodes) = both (weight_tested vnodes) (itself (is_member node.0 members))
members_tested members _ = always

pub append_tested : (entries : List Entry) (entry : Entry) → Decides (tests.may_append entries entry) (MayAppend entries entry)
append_tested entries entry =
    said_as (λ holds. record { later = holds.0; reservable = holds.1.0; fits = holds.1.1.0; room = holds.1.1.1 })
    (λ may. (may.later, (may.reservable, (may.fits, may.room))))
    (both (is_not (is_format entry))
    (both (reservable_tested entry) (both (members_tested (members_in entries (epoch_of entries)) entry) (Decides-ltb (epoch_of entries) EPOCH_MAX))))
