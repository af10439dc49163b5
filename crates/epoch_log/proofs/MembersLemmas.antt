-- The members of an epoch ascend and are below 64, whatever entries made them.
use Rattle.std.proofs.Common.{◌≡◌, ◌⊎◌, inl, inr, ℕ, zero, suc, ◌+◌, ◌<◌, ◌≤◌, nat_lt, not, Bool, true, false, cond, List, [], ◌∷◌, ◌++◌, length, get_or, slice_index, ◌-◌, filter, fold, All, refl, ap, sym, ◌∙◌, subst, arith}
use Rattle.std.specs.List.Sorted.{IsStrictlyIncreasing}
use Rattle.std.proofs.lemmas.Bool.{ltb-true, ltb-false, eqb-false, or_parts, cases_lt}
use Rattle.std.proofs.lemmas.List.Elements.{All-head, All-tail, All-cons, All-nil, All-filter}
use Rattle.std.proofs.lemmas.List.{append_assoc, append-nil, length_push, take_all}
use Rattle.object_id.specs.declared.entry.Member.{Member}
use Rattle.object_id.specs.declared.entry.Entry.{Entry}
use Rattle.object_id.specs.declared.entry.Entry.TheVariants.{Format, Join, Leave, Reweight}
use Rattle.object_id.specs.Node.{IsWeight}
use Rattle.epoch_log.specs.Members.{is_member_node, is_member, members_with, members_reweighted, members_after, node_numbers, HaveWeights, AreMembers}
use Rattle.epoch_log.specs.Epochs.{begins_epoch, epoch_of, members_in}
use Rattle.object_id.specs.declared.limits.TheConstants.{EPOCH_MAX}
use Rattle.epoch_log.specs.Appending.{FitsMembers, MayAppend, MayOpen, AreAppended, IsLog}
use Rattle.epoch_log.proofs.EpochLemmas.{members_in-append, members_in-begun, epoch_of-append}

-- the same by recursion: from the least number that may come next
Ascend : ℕ → List Member → Type 0
Ascend least [] = Unit {0}
Ascend least (member ∷ members) = (least ≤ member.node.0) × (member.node.0 < 64) × Ascend (suc member.node.0) members

Ascend-weaker : (low least : ℕ) (members : List Member) → low ≤ least → Ascend least members → Ascend low members
unfolding Ascend
Ascend-weaker low least [] below up = tt
Ascend-weaker low least (member ∷ members) below up =
    let first : least ≤ member.node.0 = up.0 in
    (omega arith, up.1, up.2)

Ascend-length : (least : ℕ) (members : List Member) → least ≤ 64 → Ascend least members → length members + least ≤ 64
unfolding Ascend
Ascend-length least [] below up = omega arith
Ascend-length least (member ∷ members) below up =
    let first : least ≤ member.node.0 = up.0 in
    let last : member.node.0 < 64 = up.1 in
    let rest : length members + suc member.node.0 ≤ 64 = Ascend-length (suc member.node.0) members (omega arith) up.2 in
    omega arith

Ascend-members_with : (least : ℕ) (member : Member) (members : List Member) → least ≤ member.node.0 → member.node.0 < 64
    → is_member member.node.0 members ≡ false → Ascend least members → Ascend least (members_with member members)
unfolding Ascend
Ascend-members_with least member [] below small absent up = (below, small, tt)
Ascend-members_with least member (other ∷ members) below small absent up =
    by_order (nat_lt member.node.0 other.node.0) refl
    (λ above. Ascend-members_with (suc other.node.0) member members above small (or_parts (is_member_node member.node.0 other) (is_member member.node.0 members) absent).1 up.2)
  where
    by_order : (b : Bool) → nat_lt member.node.0 other.node.0 ≡ b
        → (suc other.node.0 ≤ member.node.0 → Ascend (suc other.node.0) (members_with member members))
        → Ascend least (cond b (member ∷ other ∷ members) (other ∷ members_with member members))
    by_order true less rest = (below, small, (let l : member.node.0 < other.node.0 = ltb-true member.node.0 other.node.0 less in (omega arith, up.1, up.2)))
    by_order false less rest =
        let l : other.node.0 ≤ member.node.0 = ltb-false member.node.0 other.node.0 less in
        let apart : other.node.0 ≡ member.node.0 → ⊥ = eqb-false other.node.0 member.node.0 (or_parts (is_member_node member.node.0 other) (is_member member.node.0 members) absent).0 in
        let above : suc other.node.0 ≤ member.node.0 = next other.node.0 member.node.0 l apart in
        (up.0, up.1, rest above)
      where
        next : (a b : ℕ) → a ≤ b → (a ≡ b → ⊥) → suc a ≤ b
        next a b at_most apart = elim (cases_lt a b) [
          | inl less ↦ less
          | inr least ↦ absurd (apart (omega arith))
        ]

Ascend-filter : (p : Member → Bool) (least : ℕ) (members : List Member) → Ascend least members → Ascend least (filter p members)
unfolding Ascend
Ascend-filter p least [] up = tt
Ascend-filter p least (member ∷ members) up = by_test (p member) (Ascend-filter p (suc member.node.0) members up.2)
  where
    by_test : (b : Bool) → Ascend (suc member.node.0) (filter p members) → Ascend least (cond b (member ∷ filter p members) (filter p members))
    by_test true rest = (up.0, up.1, rest)
    by_test false rest =
        let first : least ≤ member.node.0 = up.0 in
        Ascend-weaker least (suc member.node.0) (filter p members) (omega arith) rest

Ascend-members_reweighted : (node vnodes least : ℕ) (members : List Member) → Ascend least members → Ascend least (members_reweighted node vnodes members)
unfolding Ascend
Ascend-members_reweighted node vnodes least [] up = tt
Ascend-members_reweighted node vnodes least (member ∷ members) up = by_test (is_member_node node member) (Ascend-members_reweighted node vnodes (suc member.node.0) members up.2)
  where
    by_test : (b : Bool) → Ascend (suc member.node.0) (members_reweighted node vnodes members)
        → Ascend least (cond b (record member { vnodes = vnodes }) member ∷ members_reweighted node vnodes members)
    by_test true rest = (up.0, up.1, rest)
    by_test false rest = (up.0, up.1, rest)

Ascend-members_after : (members : List Member) (entry : Entry) → FitsMembers members entry → Ascend 0 members → Ascend 0 (members_after members entry)
unfolding Ascend
Ascend-members_after members (Join node zone vnodes) fits up = Ascend-members_with 0 (record { node = node; zone = zone; vnodes = vnodes }) members (omega arith) fits.0 fits.2 up
Ascend-members_after members (Leave node) fits up = Ascend-filter (λ member. not (is_member_node node.0 member)) 0 members up
Ascend-members_after members (Reweight node vnodes) fits up = Ascend-members_reweighted node.0 vnodes 0 members up
Ascend-members_after members entry fits up = up

-- the next number, one place on
one_on : (x : ℕ) (xs : List ℕ) (k : ℕ) → slice_index xs k < slice_index xs (k + 1) → slice_index (x ∷ xs) (suc k) < slice_index (x ∷ xs) (suc k + 1)
one_on x xs k less =
    let same : suc k + 1 ≡ suc (k + 1) = omega arith in
    subst (λ (j : ℕ). slice_index (x ∷ xs) (suc k) < slice_index (x ∷ xs) j) (sym same) less

one_back : (x : ℕ) (xs : List ℕ) (k : ℕ) → slice_index (x ∷ xs) (suc k) < slice_index (x ∷ xs) (suc k + 1) → slice_index xs k < slice_index xs (k + 1)
one_back x xs k less =
    let same : suc k + 1 ≡ suc (k + 1) = omega arith in
    subst (λ (j : ℕ). slice_index (x ∷ xs) (suc k) < slice_index (x ∷ xs) j) same less

-- between the two forms
Ascend-to : (least : ℕ) (members : List Member) → Ascend least members → IsStrictlyIncreasing (node_numbers members)
unfolding Ascend
Ascend-to least [] up k within = absurd (omega arith)
Ascend-to least (member ∷ []) up k within = absurd (omega arith)
Ascend-to least (member ∷ other ∷ members) up zero within =
    let next : suc member.node.0 ≤ other.node.0 = up.2.0 in omega arith
Ascend-to least (member ∷ other ∷ members) up (suc k) within =
    one_on member.node.0 (node_numbers (other ∷ members)) k (Ascend-to (suc member.node.0) (other ∷ members) up.2 k (omega arith))

Ascend-below : (least : ℕ) (members : List Member) → Ascend least members → All (λ node. node < 64) (node_numbers members)
unfolding Ascend
Ascend-below least [] up = All-nil (λ node. node < 64)
Ascend-below least (member ∷ members) up =
    All-cons (λ node. node < 64) member.node.0 (node_numbers members) up.1 (Ascend-below (suc member.node.0) members up.2)

Ascend-from : (least : ℕ) (members : List Member) → ((d : ℕ) → 0 < length members → least ≤ get_or (node_numbers members) 0 d)
    → IsStrictlyIncreasing (node_numbers members) → All (λ node. node < 64) (node_numbers members) → Ascend least members
unfolding Ascend
Ascend-from least [] first up small = tt
Ascend-from least (member ∷ members) first up small = (
  first 0 (omega arith),
  All-head (λ node. node < 64) member.node.0 (node_numbers members) small,
  Ascend-from (suc member.node.0) members (next members up) (λ k within. one_back member.node.0 (node_numbers members) k (up (suc k) (omega arith)))
      (All-tail (λ node. node < 64) member.node.0 (node_numbers members) small),
)
  where
    next : (rest : List Member) → IsStrictlyIncreasing (node_numbers (member ∷ rest)) → (d : ℕ) → 0 < length rest → suc member.node.0 ≤ get_or (node_numbers rest) 0 d
    next [] up d some = absurd (omega arith)
    next (other ∷ rest) up d some = let less : member.node.0 < other.node.0 = up 0 (omega arith) in omega arith

-- what each entry that fits keeps is true of the members of every epoch
module _ (P : List Member → Type 0) (kept : (members : List Member) (entry : Entry) → FitsMembers members entry → P members → P (members_after members entry)) where
  holds-push : (entries : List Entry) (entry : Entry) → 1 ≤ length entries → ((epoch : ℕ) → epoch ≤ epoch_of entries → P (members_in entries epoch))
      → MayAppend entries entry → (epoch : ℕ) → epoch ≤ epoch_of (entries ++ entry ∷ []) → P (members_in (entries ++ entry ∷ []) epoch)
  holds-push entries entry some up may epoch begun = by_place (cases_lt (epoch_of entries) epoch)
    where
      by_test : (b : Bool) → begins_epoch entry ≡ b → epoch_of entries < epoch → epoch ≡ epoch_of entries + 1
      by_test true begins_one above =
          let grown : epoch_of (entries ++ entry ∷ []) ≡ epoch_of entries + length (filter begins_epoch (entry ∷ [])) = epoch_of-append entries (entry ∷ []) in
          let one : length (filter begins_epoch (entry ∷ [])) ≡ 1 = ap (λ b. length (cond b (entry ∷ []) [])) begins_one in
          omega arith
      by_test false begins_none above =
          let grown : epoch_of (entries ++ entry ∷ []) ≡ epoch_of entries + length (filter begins_epoch (entry ∷ [])) = epoch_of-append entries (entry ∷ []) in
          let none : length (filter begins_epoch (entry ∷ [])) ≡ 0 = ap (λ b. length (cond b (entry ∷ []) [])) begins_none in
          absurd (omega arith)

      must_begin : (b : Bool) → begins_epoch entry ≡ b → epoch_of entries < epoch → begins_epoch entry ≡ true
      must_begin true begins_one above = begins_one
      must_begin false begins_none above =
          let grown : epoch_of (entries ++ entry ∷ []) ≡ epoch_of entries + length (filter begins_epoch (entry ∷ [])) = epoch_of-append entries (entry ∷ []) in
          let none : length (filter begins_epoch (entry ∷ [])) ≡ 0 = ap (λ b. length (cond b (entry ∷ []) [])) begins_none in
          absurd (omega arith)

      by_place : (epoch_of entries < epoch) ⊎ (epoch ≤ epoch_of entries) → P (members_in (entries ++ entry ∷ []) epoch)
      by_place (inl above) =
          let is_one : epoch ≡ epoch_of entries + 1 = by_test (begins_epoch entry) refl above in
          let made : members_in (entries ++ entry ∷ []) (epoch_of entries + 1) ≡ members_after (members_in entries (epoch_of entries)) entry
          = members_in-begun entries entry some (must_begin (begins_epoch entry) refl above) in
          subst P (sym (ap (members_in (entries ++ entry ∷ [])) is_one ∙ made))
          (kept (members_in entries (epoch_of entries)) entry may.fits (up (epoch_of entries) (omega arith)))
      by_place (inr within) = subst P (sym (members_in-append entries (entry ∷ []) epoch some within)) (up epoch within)

  holds-along : (before later : List Entry) → 1 ≤ length before → ((epoch : ℕ) → epoch ≤ epoch_of before → P (members_in before epoch))
      → AreAppended before later → (epoch : ℕ) → epoch ≤ epoch_of (before ++ later) → P (members_in (before ++ later) epoch)
  holds-along before [] some up may =
      subst (λ (entries : List Entry). (epoch : ℕ) → epoch ≤ epoch_of entries → P (members_in entries epoch)) (sym (append-nil before)) up
  holds-along before (entry ∷ later) some up may =
      let long : length (before ++ entry ∷ []) ≡ length before + 1 = length_push before entry in
      subst (λ (entries : List Entry). (epoch : ℕ) → epoch ≤ epoch_of entries → P (members_in entries epoch)) (append_assoc before (entry ∷ []) later)
      (holds-along (before ++ entry ∷ []) later (omega arith) (holds-push before entry some up may.0) may.1)

-- how a log begins
IsLog-opens : (entries : List Entry) → IsLog entries
    → (members : List Member) × (later : List Entry) × (entries ≡ Format members ∷ later) × MayOpen members × AreAppended (Format members ∷ []) later
IsLog-opens (Format members ∷ later) log = (members, later, refl, log.0, log.1)
IsLog-opens entries log = absurd log

pub IsLog-some : (entries : List Entry) → IsLog entries → 1 ≤ length entries
IsLog-some entries log =
    let opens = IsLog-opens entries log in
    let long : length entries ≡ length (Format opens.0 ∷ opens.1) = ap length opens.2 in
    omega arith

-- so it is true of every epoch of a log, where it is of those that may open one
IsLog-holds : (P : List Member → Type 0) → ((members : List Member) (entry : Entry) → FitsMembers members entry → P members → P (members_after members entry))
    → ((members : List Member) → MayOpen members → P members)
    → (entries : List Entry) → IsLog entries → (epoch : ℕ) → epoch ≤ epoch_of entries → P (members_in entries epoch)
IsLog-holds P kept opening entries log =
    let opens = IsLog-opens entries log in
    let first : P opens.0 = opening opens.0 opens.3 in
    subst (λ (all : List Entry). (epoch : ℕ) → epoch ≤ epoch_of all → P (members_in all epoch)) (sym opens.2)
    (holds-along P kept (Format opens.0 ∷ []) opens.1 (omega arith)
    (λ epoch _. subst (λ (changes : List Entry). P (fold members_after opens.0 changes)) (sym (take_all (epoch - 1) [] (omega arith))) first) opens.4)

IsLog-ascends : (entries : List Entry) → IsLog entries → (epoch : ℕ) → epoch ≤ epoch_of entries → Ascend 0 (members_in entries epoch)
IsLog-ascends = IsLog-holds (Ascend 0) Ascend-members_after (λ members opens. Ascend-from 0 members (λ d _. omega arith) opens.ordered.ascending opens.ordered.nodes)

weights-members_with : (member : Member) (members : List Member) → IsWeight member.vnodes → HaveWeights members → HaveWeights (members_with member members)
weights-members_with member [] weight had = All-cons (λ (m : Member). IsWeight m.vnodes) member [] weight had
weights-members_with member (other ∷ members) weight had =
    by_order (nat_lt member.node.0 other.node.0)
    (weights-members_with member members weight (All-tail (λ (m : Member). IsWeight m.vnodes) other members had))
  where
    by_order : (b : Bool) → HaveWeights (members_with member members) → HaveWeights (cond b (member ∷ other ∷ members) (other ∷ members_with member members))
    by_order true rest = All-cons (λ (m : Member). IsWeight m.vnodes) member (other ∷ members) weight had
    by_order false rest =
        All-cons (λ (m : Member). IsWeight m.vnodes) other (members_with member members) (All-head (λ (m : Member). IsWeight m.vnodes) other members had) rest

weights-members_reweighted : (node vnodes : ℕ) (members : List Member) → IsWeight vnodes → HaveWeights members → HaveWeights (members_reweighted node vnodes members)
weights-members_reweighted node vnodes [] weight had = had
weights-members_reweighted node vnodes (member ∷ members) weight had =
    by_test (is_member_node node member) (weights-members_reweighted node vnodes members weight (All-tail (λ (m : Member). IsWeight m.vnodes) member members had))
  where
    by_test : (b : Bool) → HaveWeights (members_reweighted node vnodes members)
        → HaveWeights (cond b (record member { vnodes = vnodes }) member ∷ members_reweighted node vnodes members)
    by_test true rest = All-cons (λ (m : Member). IsWeight m.vnodes) (record member { vnodes = vnodes }) (members_reweighted node vnodes members) weight rest
    by_test false rest =
        All-cons (λ (m : Member). IsWeight m.vnodes) member (members_reweighted node vnodes members) (All-head (λ (m : Member). IsWeight m.vnodes) member members had) rest

weights-members_after : (members : List Member) (entry : Entry) → FitsMembers members entry → HaveWeights members → HaveWeights (members_after members entry)
weights-members_after members (Join node zone vnodes) fits had = weights-members_with (record { node = node; zone = zone; vnodes = vnodes }) members fits.1 had
weights-members_after members (Leave node) fits had = All-filter (λ member. not (is_member_node node.0 member)) (λ (m : Member). IsWeight m.vnodes) members had
weights-members_after members (Reweight node vnodes) fits had = weights-members_reweighted node.0 vnodes members fits.0 had
weights-members_after members entry fits had = had

pub IsLog-weights : (entries : List Entry) (epoch : ℕ) → IsLog entries → epoch ≤ epoch_of entries → HaveWeights (members_in entries epoch)
IsLog-weights entries epoch log begun = IsLog-holds HaveWeights weights-members_after (λ members opens. opens.weights) entries log epoch begun

pub IsLog-members : (entries : List Entry) (epoch : ℕ) → IsLog entries → epoch ≤ epoch_of entries
    → AreMembers (members_in entries epoch) × (length (members_in entries epoch) ≤ 64)
IsLog-members entries epoch log begun =
    let up : Ascend 0 (members_in entries epoch) = IsLog-ascends entries log epoch begun in
    let most : length (members_in entries epoch) + 0 ≤ 64 = Ascend-length 0 (members_in entries epoch) (omega arith) up in
    (record { ascending = Ascend-to 0 (members_in entries epoch) up; nodes = Ascend-below 0 (members_in entries epoch) up }, omega arith)

AreAppended-push : (before later : List Entry) (entry : Entry) → AreAppended before later → MayAppend (before ++ later) entry
    → AreAppended before (later ++ entry ∷ [])
AreAppended-push before [] entry ok may = (subst (λ (entries : List Entry). MayAppend entries entry) (append-nil before) may, tt)
AreAppended-push before (first ∷ later) entry ok may =
    (ok.0, AreAppended-push (before ++ first ∷ []) later entry ok.1 (subst (λ (entries : List Entry). MayAppend entries entry) (sym (append_assoc before (first ∷ []) later)) may))

pub IsLog-push : (entries : List Entry) (entry : Entry) → IsLog entries → MayAppend entries entry → IsLog (entries ++ entry ∷ [])
IsLog-push entries entry log may =
    let opens = IsLog-opens entries log in
    subst (λ (all : List Entry). IsLog (all ++ entry ∷ [])) (sym opens.2)
    (opens.3, AreAppended-push (Format opens.0 ∷ []) opens.1 entry opens.4 (subst (λ (all : List Entry). MayAppend all entry) opens.2 may))

AreAppended-join : (before first later : List Entry) → AreAppended before first → AreAppended (before ++ first) later
    → AreAppended before (first ++ later)
AreAppended-join before [] later ok rest = subst (λ (entries : List Entry). AreAppended entries later) (append-nil before) rest
AreAppended-join before (entry ∷ first) later ok rest = (
  ok.0,
  AreAppended-join (before ++ entry ∷ []) first later ok.1
      (subst (λ (entries : List Entry). AreAppended entries later) (sym (append_assoc before (entry ∷ []) first)) rest),
)

AreAppended-split : (before first later : List Entry) → AreAppended before (first ++ later)
    → AreAppended before first × AreAppended (before ++ first) later
AreAppended-split before [] later ok = (tt, subst (λ (entries : List Entry). AreAppended entries later) (sym (append-nil before)) ok)
AreAppended-split before (entry ∷ first) later ok =
    let rest : AreAppended (before ++ entry ∷ []) first × AreAppended (before ++ entry ∷ [] ++ first) later
    = AreAppended-split (before ++ entry ∷ []) first later ok.1 in
    ((ok.0, rest.0), subst (λ (entries : List Entry). AreAppended entries later) (append_assoc before (entry ∷ []) first) rest.1)

pub IsLog-append : (entries later : List Entry) → IsLog entries → AreAppended entries later → IsLog (entries ++ later)
IsLog-append entries later log ok =
    let opens = IsLog-opens entries log in
    subst (λ (all : List Entry). IsLog (all ++ later)) (sym opens.2) (
      opens.3,
      AreAppended-join (Format opens.0 ∷ []) opens.1 later opens.4
          (subst (λ (all : List Entry). AreAppended all later) opens.2 ok),
    )

pub IsLog-prefix : (entries later : List Entry) → 1 ≤ length entries → IsLog (entries ++ later) → IsLog entries × AreAppended entries later
IsLog-prefix [] later some log = absurd (omega arith)
IsLog-prefix (Format members ∷ rest) later some log =
    let parts : AreAppended (Format members ∷ []) rest × AreAppended (Format members ∷ rest) later
    = AreAppended-split (Format members ∷ []) rest later log.1 in
    ((log.0, parts.0), parts.1)
IsLog-prefix (Join node zone vnodes ∷ rest) later some log = absurd log
IsLog-prefix entries later some log = absurd log

AreAppended-epochs : (before later : List Entry) → epoch_of before ≤ EPOCH_MAX → AreAppended before later → epoch_of (before ++ later) ≤ EPOCH_MAX
AreAppended-epochs before [] most are = subst (λ (all : List Entry). epoch_of all ≤ EPOCH_MAX) (sym (append-nil before)) most
AreAppended-epochs before (entry ∷ later) most are =
    subst (λ (all : List Entry). epoch_of all ≤ EPOCH_MAX) (append_assoc before (entry ∷ []) later)
    (AreAppended-epochs (before ++ entry ∷ []) later (one_more (begins_epoch entry) (epoch_of-append before (entry ∷ []))) are.1)
  where
    one_more : (b : Bool) → epoch_of (before ++ entry ∷ []) ≡ epoch_of before + length (cond b (entry ∷ []) []) → epoch_of (before ++ entry ∷ []) ≤ EPOCH_MAX
    one_more true is = let below : epoch_of before < EPOCH_MAX = are.0.room in omega arith
    one_more false is = omega arith

-- epochs are numbers of 32 bits
pub IsLog-epochs : (entries : List Entry) → IsLog entries → epoch_of entries ≤ EPOCH_MAX
IsLog-epochs entries log =
    let opens = IsLog-opens entries log in
    subst (λ (all : List Entry). epoch_of all ≤ EPOCH_MAX) (sym opens.2) (AreAppended-epochs (Format opens.0 ∷ []) opens.1 (omega arith) opens.4)
