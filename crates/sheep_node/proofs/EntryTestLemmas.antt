-- What is told of entries one by one is so of all of them: how many begin an epoch, who is a member, and which may be read.
use Rattle.std.proofs.Common.{◌≡◌, ℕ, ◌+◌, ◌-◌, ◌<◌, ◌≤◌, ◌==◌, nat_lt, ◌&&◌, ◌||◌, not, Bool, true, false, cond, List, [], ◌∷◌, length, take, drop, get_or}
use Rattle.std.proofs.Common.{filter, fold, Some, None, refl, ap, ap₂, sym, ◌∙◌, arith}
use Rattle.std.proofs.lemmas.Bool.{eqb-true}
use Rattle.std.proofs.lemmas.Bool.Decides.{Decides-eqb, same_from_decides}
use Rattle.std.proofs.lemmas.List.{take_all, take_more, drop_more, drop_all}
use Rattle.std.proofs.lemmas.List.Filters.{length-filter_more}
use Rattle.std.proofs.lemmas.Map.Views.{any-filter_same}
use Rattle.proof_tools.proofs.Booleans.{cond_either, cond_same}
use Rattle.proof_tools.proofs.Deciding.{said_as}
use Rattle.object_id.specs.declared.entry.Member.{Member}
use Rattle.object_id.specs.declared.entry.Entry.{Entry}
use Rattle.object_id.specs.declared.entry.Entry.TheVariants.{Format, Join, Leave, Reweight, Recovered, Reserve, Publish, Clone, Snapshot}
use Rattle.object_id.specs.declared.entry.Entry.TheVariants.{Delete, Lock, Unlock}
use Rattle.object_id.specs.Same.{is_same_entry}
use Rattle.epoch_log.specs.Members.{is_member_node, is_member, members_with, members_without, members_reweighted, members_after}
use Rattle.epoch_log.specs.Epochs.{begins_epoch, epoch_of, initial_members, members_in}
use Rattle.sheep_node.specs.EntryTests.{begun_by, is_member_after}
use Rattle.sheep_node.specs.MayTests.{may_read_entry, may_read_entries, rest_behind}

-- ---- who is a member

or_last : (a b c : Bool) → (a || (b || c)) ≡ ((b || c) || a)
or_last true true c = refl
or_last true false true = refl
or_last true false false = refl
or_last false true c = refl
or_last false false true = refl
or_last false false false = refl

or_within : (b c a : Bool) → (b || (c || a)) ≡ ((b || c) || a)
or_within true c a = refl
or_within false c a = refl

and_swapped : (a b : Bool) → (a && b) ≡ (b && a)
and_swapped true true = refl
and_swapped true false = refl
and_swapped false true = refl
and_swapped false false = refl

or_none : (a : Bool) → (a || false) ≡ (false || a)
or_none true = refl
or_none false = refl

member_with : (node : ℕ) (member : Member) (members : List Member)
    → is_member node (members_with member members) ≡ (is_member node members || member.node.0 == node)
member_with node member [] = or_none (member.node.0 == node)
member_with node member (first ∷ rest) = by_place (nat_lt member.node.0 first.node.0) (member_with node member rest)
  where
    by_place : (b : Bool) → is_member node (members_with member rest) ≡ (is_member node rest || member.node.0 == node)
        → is_member node (cond b (member ∷ first ∷ rest) (first ∷ members_with member rest)) ≡ (is_member node (first ∷ rest) || member.node.0 == node)
    by_place true h = or_last (member.node.0 == node) (first.node.0 == node) (is_member node rest)
    by_place false h = ap (λ b. first.node.0 == node || b) h ∙ or_within (first.node.0 == node) (is_member node rest) (member.node.0 == node)

member_without : (node other : ℕ) (members : List Member) → is_member node (members_without other members) ≡ (is_member node members && not (other == node))
member_without node other members =
    any-filter_same (is_member_node node) (λ member. not (is_member_node other member)) (not (other == node))
    (λ (member : Member) is.
    let same : member.node.0 ≡ node = eqb-true member.node.0 node is in
    ap (λ n. not (n == other)) same ∙ ap not (same_from_decides (node == other) (other == node) (Decides-eqb node other) (said_as sym sym (Decides-eqb other node))))
    members
    ∙ and_swapped (not (other == node)) (is_member node members)

member_reweighted : (node other vnodes : ℕ) (members : List Member) → is_member node (members_reweighted other vnodes members) ≡ is_member node members
member_reweighted node other vnodes [] = refl
member_reweighted node other vnodes (first ∷ rest) =
    cond_either (λ (member : Member). (is_member_node node member || is_member node (members_reweighted other vnodes rest)) ≡ (is_member_node node first || is_member node rest))
    (is_member_node other first) (record first { vnodes = vnodes }) first
    (ap (λ b. first.node.0 == node || b) (member_reweighted node other vnodes rest))
    (ap (λ b. first.node.0 == node || b) (member_reweighted node other vnodes rest))

members_folded : (node : ℕ) (members : List Member) (entries : List Entry)
    → fold (is_member_after node) (is_member node members) entries ≡ is_member node (fold members_after members (filter begins_epoch entries))
members_folded node members [] = refl
members_folded node members (Join other zone vnodes ∷ later) =
    let joined : List Member = members_with (record { node = other; zone = zone; vnodes = vnodes }) members in
    ap (λ b. fold (is_member_after node) b later) (sym (member_with node (record { node = other; zone = zone; vnodes = vnodes }) members))
    ∙ members_folded node joined later
members_folded node members (Leave other ∷ later) =
    ap (λ b. fold (is_member_after node) b later) (sym (member_without node other.0 members))
    ∙ members_folded node (members_without other.0 members) later
members_folded node members (Reweight other vnodes ∷ later) =
    ap (λ b. fold (is_member_after node) b later) (sym (member_reweighted node other.0 vnodes members))
    ∙ members_folded node (members_reweighted other.0 vnodes members) later
members_folded node members (Format opening ∷ later) = members_folded node members later
members_folded node members (Recovered by epoch ∷ later) = members_folded node members later
members_folded node members (Reserve by session name origin ∷ later) = members_folded node members later
members_folded node members (Publish by vid ∷ later) = members_folded node members later
members_folded node members (Clone by vid ∷ later) = members_folded node members later
members_folded node members (Snapshot by old vid ∷ later) = members_folded node members later
members_folded node members (Delete by session name tag ∷ later) = members_folded node members later
members_folded node members (Lock by session name tag ∷ later) = members_folded node members later
members_folded node members (Unlock by session vid ∷ later) = members_folded node members later

pub newest_member : (node : ℕ) (entries : List Entry)
    → fold (is_member_after node) (is_member node (initial_members entries)) entries ≡ is_member node (members_in entries (epoch_of entries))
newest_member node entries =
    let begun : List Entry = filter begins_epoch entries in
    members_folded node (initial_members entries) entries
    ∙ ap (λ (changes : List Entry). is_member node (fold members_after (initial_members entries) changes)) (sym (take_all (epoch_of entries - 1) begun (omega arith)))

-- ---- which entries may be read one after the other

pub read_here : (entries : List Entry) (place : ℕ) (d : Entry) → place < length entries
    → may_read_entries (take place entries) (drop place entries)
    ≡ (may_read_entry (take place entries) (get_or entries place d) && may_read_entries (take (place + 1) entries) (drop (place + 1) entries))
read_here entries place d within =
    ap (may_read_entries (take place entries)) (drop_more entries place d within)
    ∙ ap (λ (before : List Entry). may_read_entry (take place entries) (get_or entries place d) && may_read_entries before (drop (place + 1) entries))
    (sym (take_more entries place d within))

pub read_on : (entries : List Entry) (place : ℕ) (d : Entry) (may : Bool) → place < length entries
    → may ≡ may_read_entry (take place entries) (get_or entries place d) → may ≡ true
    → may_read_entries (take place entries) (drop place entries) ≡ may_read_entries (take (place + 1) entries) (drop (place + 1) entries)
read_on entries place d may within is passes =
    read_here entries place d within
    ∙ ap (λ b. b && may_read_entries (take (place + 1) entries) (drop (place + 1) entries)) (sym is ∙ passes)

pub read_no_more : (entries : List Entry) (place : ℕ) (d : Entry) (may : Bool) → place < length entries
    → may ≡ may_read_entry (take place entries) (get_or entries place d) → may ≡ false
    → may_read_entries (take place entries) (drop place entries) ≡ false
read_no_more entries place d may within is fails =
    read_here entries place d within
    ∙ ap (λ b. b && may_read_entries (take (place + 1) entries) (drop (place + 1) entries)) (sym is ∙ fails)

pub all_read : (entries : List Entry) (place : ℕ) → length entries ≤ place → may_read_entries (take place entries) (drop place entries) ≡ true
all_read entries place past = ap (may_read_entries (take place entries)) (drop_all place entries past)

-- ---- entries that begin with others

rest_here : (own entries : List Entry) (place : ℕ) (d e : Entry) → place < length own → place < length entries
    → rest_behind (drop place own) (drop place entries)
    ≡ cond (is_same_entry (get_or own place d) (get_or entries place e)) (rest_behind (drop (place + 1) own) (drop (place + 1) entries)) None
rest_here own entries place d e in_own within =
    ap₂ rest_behind (drop_more own place d in_own) (drop_more entries place e within)

pub rest_on : (own entries : List Entry) (place : ℕ) (d e : Entry) (same : Bool) → place < length own → place < length entries
    → same ≡ is_same_entry (get_or own place d) (get_or entries place e) → same ≡ true
    → rest_behind (drop place own) (drop place entries) ≡ rest_behind (drop (place + 1) own) (drop (place + 1) entries)
rest_on own entries place d e same in_own within is passes =
    rest_here own entries place d e in_own within
    ∙ ap (λ b. cond b (rest_behind (drop (place + 1) own) (drop (place + 1) entries)) None) (sym is ∙ passes)

pub rest_no_more : (own entries : List Entry) (place : ℕ) (d e : Entry) (same : Bool) → place < length own → place < length entries
    → same ≡ is_same_entry (get_or own place d) (get_or entries place e) → same ≡ false
    → rest_behind (drop place own) (drop place entries) ≡ None
rest_no_more own entries place d e same in_own within is fails =
    rest_here own entries place d e in_own within
    ∙ ap (λ b. cond b (rest_behind (drop (place + 1) own) (drop (place + 1) entries)) None) (sym is ∙ fails)

pub rest_at_end : (own entries : List Entry) (place : ℕ) → length own ≤ place → rest_behind (drop place own) (drop place entries) ≡ Some (drop place entries)
rest_at_end own entries place past = ap (λ (own : List Entry). rest_behind own (drop place entries)) (drop_all place own past)

pub rest_of_short : (own entries : List Entry) → length entries < length own → rest_behind own entries ≡ None
rest_of_short [] entries short = absurd (omega arith)
rest_of_short (first ∷ own) [] short = refl
rest_of_short (first ∷ own) (entry ∷ entries) short =
    ap (λ rest. cond (is_same_entry first entry) rest None) (rest_of_short own entries (omega arith)) ∙ cond_same (is_same_entry first entry) None

-- ---- how many begin an epoch

pub begun_more : (entries : List Entry) (place : ℕ) (d : Entry) → place < length entries
    → begun_by (take (place + 1) entries) ≡ begun_by (take place entries) + cond (begins_epoch (get_or entries place d)) 1 0
begun_more entries place d within = length-filter_more begins_epoch entries place d within

pub begun_within : (entries : List Entry) → begun_by entries ≤ length entries
begun_within [] = omega arith
begun_within (first ∷ later) = by_test (begins_epoch first) (begun_within later)
  where
    by_test : (b : Bool) → begun_by later ≤ length later → length (cond b (first ∷ filter begins_epoch later) (filter begins_epoch later)) ≤ length (first ∷ later)
    by_test true h = omega arith
    by_test false h = omega arith
