-- How often an entry stands in a list, where entries are put behind others; and which entries a node's commands have.
use Rattle.std.proofs.Common.{◌≡◌, ℕ, ◌+◌, Bool, true, false, cond, List, [], ◌∷◌, ◌++◌, refl, sym, subst, ◌∙◌, arith}
use Rattle.std.specs.List.{count_by}
use Rattle.std.proofs.lemmas.List.Sums.{sum_by-append, sum_by-cons}
use Rattle.object_id.specs.declared.node.NodeId.{NodeId}
use Rattle.object_id.specs.declared.entry.Entry.{Entry}
use Rattle.object_id.specs.declared.entry.Entry.TheVariants.{Format, Join, Leave, Reweight, Recovered, Reserve, Publish, Clone, Snapshot}
use Rattle.object_id.specs.declared.entry.Entry.TheVariants.{Delete, Lock, Unlock}
use Rattle.object_id.specs.Same.{is_same_entry}
use Rattle.object_id.proofs.SameLemmas.{entries_decided}
use Rattle.sheep_node.specs.OwnEntries.{IsEntryOf}
use Rattle.overlap_law.specs.AwaitedEntries.{IsCommandEntry}

abbrev pub times : Entry → List Entry → ℕ
times entry list = count_by (is_same_entry entry) list

-- one entry counts once, or not at all
abbrev pub once_if : Bool → ℕ
once_if same = cond same 1 0

pub times-append : (entry : Entry) (xs ys : List Entry) → times entry (xs ++ ys) ≡ times entry xs + times entry ys
times-append entry = sum_by-append (λ other. once_if (is_same_entry entry other))

pub times-cons : (entry first : Entry) (later : List Entry)
    → times entry (first ∷ later) ≡ once_if (is_same_entry entry first) + times entry later
times-cons entry = sum_by-cons (λ other. once_if (is_same_entry entry other))

pub times-none : (entry : Entry) → times entry [] ≡ 0
times-none entry =
    let twice : times entry ([] ++ []) ≡ times entry [] + times entry [] = times-append entry [] [] in
    omega (arith, twice)

pub times-push : (entry : Entry) (xs : List Entry) (last : Entry)
    → times entry (xs ++ last ∷ []) ≡ times entry xs + once_if (is_same_entry entry last)
times-push entry xs last =
    let more = times-append entry xs (last ∷ []) in
    let one = times-cons entry last [] in
    let none = times-none entry in
    omega (arith, more, one, none)

pub same_entry : (entry other : Entry) → is_same_entry entry other ≡ true → entry ≡ other
same_entry entry other = (entries_decided entry other).0

pub itself : (entry : Entry) → is_same_entry entry entry ≡ true
itself entry = (entries_decided entry entry).1 refl

-- what is no entry of a node's commands is none of them
pub none_of_them : (me : NodeId) (entry other : Entry) → IsCommandEntry me entry → (IsCommandEntry me other → ⊥)
    → is_same_entry entry other ≡ false
none_of_them me entry other is not = by_test (is_same_entry entry other) refl
  where
    by_test : (b : Bool) → is_same_entry entry other ≡ b → is_same_entry entry other ≡ false
    by_test true same = absurd (not (subst (IsCommandEntry me) (same_entry entry other same) is))
    by_test false apart = apart

-- nor is one that another node puts
pub of_one_node : (me other : NodeId) (entry : Entry) → IsCommandEntry me entry → IsEntryOf other entry → other ≡ me
of_one_node me other (Format members) is own = absurd is
of_one_node me other (Join node zone vnodes) is own = absurd is
of_one_node me other (Leave node) is own = absurd is
of_one_node me other (Reweight node vnodes) is own = absurd is
of_one_node me other (Recovered node epoch) is own = absurd is
of_one_node me other (Reserve by session name origin) is own = sym own ∙ is
of_one_node me other (Publish by vid) is own = sym own ∙ is
of_one_node me other (Clone by vid) is own = sym own ∙ is
of_one_node me other (Snapshot by old vid) is own = sym own ∙ is
of_one_node me other (Delete by session name tag) is own = sym own ∙ is
of_one_node me other (Lock by session name tag) is own = sym own ∙ is
of_one_node me other (Unlock by session vid) is own = absurd is
