-- Where no entry of a log is a Join or a Leave, the members of each epoch are the same nodes in the same zones, and each is in its first
-- incarnation.
use Rattle.std.proofs.Common.{◌≡◌, ℕ, zero, suc, ◌+◌, ◌-◌, ◌==◌, Bool, true, false, ◌||◌, cond, List, [], ◌∷◌, ◌++◌, length, map, filter}
use Rattle.std.proofs.Common.{fold, take, Contains, refl, sym, ap, ◌∙◌}
use Rattle.std.specs.Prelude.{nat_lt}
use Rattle.std.specs.List.{list_any}
use Rattle.std.proofs.lemmas.Bool.{eq-eqb, or_parts}
use Rattle.std.proofs.lemmas.List.Sums.{length-filter}
use Rattle.proof_tools.proofs.Lists.{list_any-none}
use Rattle.object_id.specs.declared.entry.Entry.{Entry}
use Rattle.object_id.specs.declared.entry.Entry.TheVariants as entries
use Rattle.object_id.specs.declared.entry.Member.{Member}
use Rattle.epoch_log.specs.Appending.{AreAppended, IsLog, is_format}
use Rattle.epoch_log.specs.Epochs.{begins_epoch, initial_members, members_in}
use Rattle.epoch_log.specs.Members as members
use Rattle.hash_ring.specs.Placement.{zone_count}
use Rattle.sheep_world.specs.Incarnations.{begins_incarnation, incarnation_in, up_to_epoch}

-- whether an entry makes a node a member, or takes one from the members
abbrev pub moves_member : Entry → Bool
moves_member (entries.Join node zone vnodes) = true
moves_member (entries.Leave node) = true
moves_member _ = false

-- what begins no epoch does neither
pub plain_moves_none : (entry : Entry) → begins_epoch entry ≡ false → moves_member entry ≡ false
plain_moves_none (entries.Join node zone vnodes) plain = absurd (cc (plain))
plain_moves_none (entries.Leave node) plain = absurd (cc (plain))
plain_moves_none entry plain = refl

-- ---- lists

none_taken : (p : Entry → Bool) (count : ℕ) (list : List Entry) → list_any p list ≡ false → list_any p (take count list) ≡ false
none_taken p zero list none = refl
none_taken p (suc count) [] none = refl
none_taken p (suc count) (entry ∷ list) none =
    let parts = or_parts (p entry) (list_any p list) none in
    let first = parts.0 in
    let rest = none_taken p count list parts.1 in
    λ i. first i || rest i

none_passing : (p q : Entry → Bool) (list : List Entry) → list_any p list ≡ false → list_any p (filter q list) ≡ false
none_passing p q [] none = refl
none_passing p q (entry ∷ list) none =
    let parts = or_parts (p entry) (list_any p list) none in
    by_test (q entry) parts.0 (none_passing p q list parts.1)
  where
    by_test : (b : Bool) → p entry ≡ false → list_any p (filter q list) ≡ false
        → list_any p (cond b (entry ∷ filter q list) (filter q list)) ≡ false
    by_test true first rest = λ i. first i || rest i
    by_test false first rest = rest

-- ---- numbers and zones

-- the number and zone of a member
abbrev place_of : Member → ℕ × ℕ
place_of member = (member.node.0, member.zone)

abbrev places : List Member → List (ℕ × ℕ)
places list = map place_of list

reweighted_same : (node vnodes : ℕ) (list : List Member) → places (members.members_reweighted node vnodes list) ≡ places list
reweighted_same node vnodes [] = refl
reweighted_same node vnodes (member ∷ list) =
    let first = by_test (members.is_member_node node member) in
    let rest = reweighted_same node vnodes list in
    λ i. first i ∷ rest i
  where
    by_test : (b : Bool) → place_of (cond b (record member { vnodes = vnodes }) member) ≡ place_of member
    by_test true = refl
    by_test false = refl

after_same : (list : List Member) (entry : Entry) → moves_member entry ≡ false → places (members.members_after list entry) ≡ places list
after_same list (entries.Join node zone vnodes) none = absurd (cc (none))
after_same list (entries.Leave node) none = absurd (cc (none))
after_same list (entries.Reweight node vnodes) none = reweighted_same node.0 vnodes list
after_same list entry none = refl

all_same : (list : List Member) (log : List Entry) → list_any moves_member log ≡ false
    → places (fold members.members_after list log) ≡ places list
all_same list [] none = refl
all_same list (entry ∷ log) none =
    let parts = or_parts (moves_member entry) (list_any moves_member log) none in
    all_same (members.members_after list entry) log parts.1 ∙ after_same list entry parts.0

same_places : (log : List Entry) → list_any moves_member log ≡ false → (epoch : ℕ)
    → places (members_in log epoch) ≡ places (initial_members log)
same_places log none epoch =
    all_same (initial_members log) (take (epoch - 1) (filter begins_epoch log))
    (none_taken moves_member (epoch - 1) (filter begins_epoch log) (none_passing moves_member begins_epoch log none))

-- ---- so each epoch has as many zones

in_zone : (zone : ℕ) (list : List Member)
    → list_any (λ (m : Member). m.zone == zone) list ≡ list_any (λ (place : ℕ × ℕ). place.1 == zone) (places list)
in_zone zone [] = refl
in_zone zone (member ∷ list) = let rest = in_zone zone list in λ i. (member.zone == zone) || rest i

abbrev zones_of : List (ℕ × ℕ) → ℕ
zones_of [] = 0
zones_of (place ∷ list) = zones_of list + cond (list_any (λ (other : ℕ × ℕ). other.1 == place.1) list) 0 1

count_so : (list : List Member) → zone_count list ≡ zones_of (places list)
unfolding zone_count
count_so [] = refl
count_so (member ∷ list) =
    let rest = count_so list in
    let zone = in_zone member.zone list in
    λ i. rest i + cond (zone i) 0 1

pub same_zones : (log : List Entry) → list_any moves_member log ≡ false → (epoch other : ℕ)
    → zone_count (members_in log epoch) ≡ zone_count (members_in log other)
same_zones log none epoch other =
    count_so (members_in log epoch) ∙ ap zones_of (same_places log none epoch ∙ sym (same_places log none other))
    ∙ sym (count_so (members_in log other))

-- ---- and the same nodes

listed_so : (n : ℕ) (list : List Member) → members.is_member n list ≡ list_any (λ (place : ℕ × ℕ). place.0 == n) (places list)
listed_so n [] = refl
listed_so n (member ∷ list) = let rest = listed_so n list in λ i. (member.node.0 == n) || rest i

pub same_member : (log : List Entry) → list_any moves_member log ≡ false → (n epoch other : ℕ)
    → members.is_member n (members_in log epoch) ≡ members.is_member n (members_in log other)
same_member log none n epoch other =
    listed_so n (members_in log epoch)
    ∙ ap (list_any (λ (place : ℕ × ℕ). place.0 == n)) (same_places log none epoch ∙ sym (same_places log none other))
    ∙ sym (listed_so n (members_in log other))

-- a member of a list is one of its nodes
pub is_listed : (member : Member) (list : List Member) → Contains list member → members.is_member member.node.0 list ≡ true
is_listed member list among = by_value (members.is_member member.node.0 list) refl
  where
    by_value : (b : Bool) → members.is_member member.node.0 list ≡ b → members.is_member member.node.0 list ≡ true
    by_value true is = is
    by_value false none =
        let off : (member.node.0 == member.node.0) ≡ false
        = list_any-none (members.is_member_node member.node.0) list member none among in
        let same = eq-eqb member.node.0 member.node.0 refl in
        absurd (cc (off, same))

-- ---- in their first incarnation

-- what stands behind the first entry begins none
begins_none : (node : ℕ) (entry : Entry) → is_format entry ≡ false → moves_member entry ≡ false → begins_incarnation node entry ≡ false
begins_none node (entries.Format opening) later none = absurd (cc (later))
begins_none node (entries.Join other zone vnodes) later none = absurd (cc (none))
begins_none node entry later none = refl

none_begin : (node epoch newest : ℕ) (before later : List Entry) → AreAppended before later → list_any moves_member later ≡ false
    → filter (begins_incarnation node) (up_to_epoch epoch newest later) ≡ []
none_begin node epoch newest before [] are none = refl
none_begin node epoch newest before (entry ∷ later) are none =
    let parts = or_parts (moves_member entry) (list_any moves_member later) none in
    by_test (begins_epoch entry) (nat_lt newest epoch) (begins_none node entry are.0.later parts.0)
    (up_to_epoch epoch (newest + 1) later) (none_begin node epoch (newest + 1) (before ++ entry ∷ []) later are.1 parts.1)
    (up_to_epoch epoch newest later) (none_begin node epoch newest (before ++ entry ∷ []) later are.1 parts.1)
  where
    passing : List Entry → List Entry
    passing list = filter (begins_incarnation node) list

    with_it : (list : List Entry) → begins_incarnation node entry ≡ false → filter (begins_incarnation node) list ≡ []
        → filter (begins_incarnation node) (entry ∷ list) ≡ []
    with_it list own rest = ap (λ (b : Bool). cond b (entry ∷ passing list) (passing list)) own ∙ rest

    by_test : (a b : Bool) → begins_incarnation node entry ≡ false → (one : List Entry) → filter (begins_incarnation node) one ≡ []
        → (two : List Entry) → filter (begins_incarnation node) two ≡ []
        → filter (begins_incarnation node) (cond a (cond b (entry ∷ one) []) (entry ∷ two)) ≡ []
    by_test true true own one first two second = with_it one own first
    by_test true false own one first two second = refl
    by_test false b own one first two second = with_it two own second

pub first_incarnation : (log : List Entry) → IsLog log → list_any moves_member log ≡ false → (n epoch : ℕ)
    → members.is_member n (members_in log epoch) ≡ true → incarnation_in log epoch n ≡ 1
first_incarnation [] is none n epoch member = absurd is
first_incarnation (entries.Format opening ∷ later) is none n epoch member =
    let begins = begins_incarnation n in
    let rest = filter begins (up_to_epoch epoch 1 later) in
    let own : members.is_member n opening ≡ true = same_member (entries.Format opening ∷ later) none n 1 epoch ∙ member in
    sym (length-filter begins (up_to_epoch epoch 1 (entries.Format opening ∷ later)))
    ∙ ap (λ (b : Bool). length (cond b (entries.Format opening ∷ rest) rest)) own
    ∙ ap (λ (list : List Entry). length (entries.Format opening ∷ list))
    (none_begin n epoch 1 (entries.Format opening ∷ []) later is.1 none)
first_incarnation (entry ∷ later) is none n epoch member = absurd is
