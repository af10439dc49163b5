-- Epochs, members and settled epochs of a list of entries that grows.
use Rattle.std.proofs.Common.{◌≡◌, ℕ, zero, suc, ◌+◌, ◌-◌, ◌≤◌, ◌==◌, ◌&&◌, ◌||◌, not, Bool, true, false, cond, List, [], ◌∷◌, ◌++◌, length, take, drop, filter, fold, length-append, refl, ap, sym, subst, ◌∙◌, arith}
use Rattle.std.proofs.lemmas.List.{take-append-le, take_all, take-append-drop, length_push, take-take}
use Rattle.std.proofs.lemmas.Bool.{eqb-true}
use Rattle.std.proofs.lemmas.List.Elements.{filter-append, filter_agree}
use Rattle.std.proofs.lemmas.List.Folds.{list_any-append}
use Rattle.std.proofs.lemmas.Grind.{fold-append}
use Rattle.proof_tools.proofs.Lists.{filter-filter}
use Rattle.proof_tools.proofs.Booleans.{not-or}
use Rattle.object_id.specs.declared.entry.Member.{Member}
use Rattle.object_id.specs.declared.entry.Entry.{Entry}
use Rattle.epoch_log.specs.Members.{members_after}
use Rattle.epoch_log.specs.Epochs.{begins_epoch, epoch_of, initial_members, members_in, recovers, has_recovered, missing_in, is_settled, settled_of, epoch_at, settled_at}
use Rattle.epoch_log.proofs.GreatestLemmas.{greatest-most, greatest-bound, greatest-grows}

pub initial_members-append : (entries later : List Entry) → 1 ≤ length entries → initial_members (entries ++ later) ≡ initial_members entries
initial_members-append [] later some = absurd (omega arith)
initial_members-append (entry ∷ entries) later some = refl

pub epoch_of-append : (entries later : List Entry) → epoch_of (entries ++ later) ≡ epoch_of entries + length (filter begins_epoch later)
epoch_of-append entries later =
    let parts : length (filter begins_epoch (entries ++ later)) ≡ length (filter begins_epoch entries ++ filter begins_epoch later) = ap length (filter-append begins_epoch entries later) in
    omega (arith, length-append (filter begins_epoch entries) (filter begins_epoch later))

-- the members of an epoch that has begun never change
pub members_in-append : (entries later : List Entry) (epoch : ℕ) → 1 ≤ length entries → epoch ≤ epoch_of entries
    → members_in (entries ++ later) epoch ≡ members_in entries epoch
members_in-append entries later epoch some begun =
    let changes : take (epoch - 1) (filter begins_epoch (entries ++ later)) ≡ take (epoch - 1) (filter begins_epoch entries)
    = ap (take (epoch - 1)) (filter-append begins_epoch entries later) ∙ take-append-le (epoch - 1) (filter begins_epoch entries) (filter begins_epoch later) (omega arith) in
    ap (λ first. fold members_after first (take (epoch - 1) (filter begins_epoch (entries ++ later)))) (initial_members-append entries later some)
    ∙ ap (fold members_after (initial_members entries)) changes

-- those of the epoch that an entry begins are what the entry makes of the members before
pub members_in-begun : (entries : List Entry) (entry : Entry) → 1 ≤ length entries → begins_epoch entry ≡ true
    → members_in (entries ++ entry ∷ []) (epoch_of entries + 1) ≡ members_after (members_in entries (epoch_of entries)) entry
members_in-begun entries entry some begun =
    let old : List Entry = filter begins_epoch entries in
    let one : filter begins_epoch (entry ∷ []) ≡ entry ∷ [] = ap (λ b. cond b (entry ∷ []) []) begun in
    let all : filter begins_epoch (entries ++ entry ∷ []) ≡ old ++ entry ∷ [] = filter-append begins_epoch entries (entry ∷ []) ∙ ap (λ last. old ++ last) one in
    let long : length (old ++ entry ∷ []) ≡ length old + 1 = length_push old entry in
    let whole : take (epoch_of entries + 1 - 1) (filter begins_epoch (entries ++ entry ∷ [])) ≡ old ++ entry ∷ []
    = ap (take (epoch_of entries + 1 - 1)) all ∙ take_all (epoch_of entries + 1 - 1) (old ++ entry ∷ []) (omega arith) in
    let before : take (epoch_of entries - 1) old ≡ old = take_all (epoch_of entries - 1) old (omega arith) in
    ap (λ first. fold members_after first (take (epoch_of entries + 1 - 1) (filter begins_epoch (entries ++ entry ∷ [])))) (initial_members-append entries (entry ∷ []) some)
    ∙ ap (fold members_after (initial_members entries)) whole
    ∙ fold-append members_after (initial_members entries) old (entry ∷ [])
    ∙ sym (ap (λ changes. members_after (fold members_after (initial_members entries) changes) entry) before)

pub missing_in-same : (old new : List Entry) (epoch : ℕ) → members_in new epoch ≡ members_in old epoch
    → ((node : ℕ) → has_recovered new epoch node ≡ has_recovered old epoch node) → missing_in new epoch ≡ missing_in old epoch
missing_in-same old new epoch members same =
    ap (filter (λ (member : Member). not (has_recovered new epoch member.node.0))) members
    ∙ filter_agree (λ (member : Member). not (has_recovered new epoch member.node.0)) (λ (member : Member). not (has_recovered old epoch member.node.0)) (λ member. ap not (same member.node.0)) (members_in old epoch)

-- the same of the entries before a place
pub members_in-take : (entries : List Entry) (place epoch : ℕ) → 1 ≤ place → epoch ≤ epoch_of (take place entries)
    → members_in (take place entries) epoch ≡ members_in entries epoch
members_in-take [] place epoch some begun = ap (λ entries. members_in entries epoch) (take_all place [] (omega arith))
members_in-take (entry ∷ entries) zero epoch some begun = absurd (omega arith)
members_in-take (entry ∷ entries) (suc place) epoch some begun =
    sym (members_in-append (entry ∷ take place entries) (drop place entries) epoch (omega arith) begun)
    ∙ ap (λ rest. members_in (entry ∷ rest) epoch) (take-append-drop place entries)

-- later entries take from the missing ones those that they name
pub missing_in-append : (entries later : List Entry) (epoch : ℕ) → 1 ≤ length entries → epoch ≤ epoch_of entries
    → missing_in (entries ++ later) epoch ≡ filter (λ (member : Member). not (has_recovered later epoch member.node.0)) (missing_in entries epoch)
missing_in-append entries later epoch some begun =
    ap (filter (λ (member : Member). not (has_recovered (entries ++ later) epoch member.node.0))) (members_in-append entries later epoch some begun)
    ∙ filter_agree (λ (member : Member). not (has_recovered (entries ++ later) epoch member.node.0)) (λ (member : Member). not (has_recovered entries epoch member.node.0) && not (has_recovered later epoch member.node.0)) (λ member. ap not (list_any-append (recovers epoch member.node.0) entries later) ∙ not-or (has_recovered entries epoch member.node.0) (has_recovered later epoch member.node.0)) (members_in entries epoch)
    ∙ sym (filter-filter (λ (member : Member). not (has_recovered entries epoch member.node.0)) (λ (member : Member). not (has_recovered later epoch member.node.0)) (members_in entries epoch))

-- an epoch that is settled stays so
pub is_settled-append : (entries later : List Entry) (epoch : ℕ) → 1 ≤ length entries → epoch ≤ epoch_of entries
    → is_settled entries epoch ≡ true → is_settled (entries ++ later) epoch ≡ true
is_settled-append entries later epoch some begun settled = by_test (epoch == 1) (missing_in entries epoch) settled (missing_in-append entries later epoch some begun)
  where
    rest : List Member → List Member
    rest missing = filter (λ (member : Member). not (has_recovered later epoch member.node.0)) missing

    by_test : (b : Bool) (missing : List Member) → (b || length missing == 0) ≡ true → missing_in (entries ++ later) epoch ≡ rest missing
        → (b || length (missing_in (entries ++ later) epoch) == 0) ≡ true
    by_test true missing was now = refl
    by_test false [] was now = ap (λ left. length left == 0) now
    by_test false (m ∷ ms) was now = let none : length (m ∷ ms) ≡ 0 = eqb-true (length (m ∷ ms)) 0 was in absurd (omega arith)

pub settled_of-begun : (entries : List Entry) → (1 ≤ settled_of entries) × (settled_of entries ≤ epoch_of entries)
settled_of-begun entries =
    (greatest-bound (is_settled entries) (epoch_of entries) 1 (omega arith) (omega arith) refl, greatest-most (is_settled entries) (epoch_of entries))

-- the settled epoch never falls
pub settled_of-append : (entries later : List Entry) → 1 ≤ length entries → settled_of entries ≤ settled_of (entries ++ later)
settled_of-append entries later some =
    let grown : epoch_of (entries ++ later) ≡ epoch_of entries + length (filter begins_epoch later) = epoch_of-append entries later in
    greatest-grows (is_settled entries) (is_settled (entries ++ later)) (epoch_of entries) (epoch_of (entries ++ later)) (omega arith)
    (λ epoch _ begun. is_settled-append entries later epoch some begun)

-- the entries before a later place are those before an earlier one and more
take-more : (entries : List Entry) (place later : ℕ) → place ≤ later
    → take place entries ++ drop place (take later entries) ≡ take later entries
take-more entries place later order =
    ap (λ (front : List Entry). front ++ drop place (take later entries)) (sym (take-take place later entries order))
    ∙ take-append-drop place (take later entries)

pub epoch_at-grows : (entries : List Entry) (place later : ℕ) → place ≤ later → epoch_at entries place ≤ epoch_at entries later
epoch_at-grows entries place later order =
    let grown : epoch_of (take place entries ++ drop place (take later entries)) ≡ epoch_of (take place entries) + length (filter begins_epoch (drop place (take later entries)))
    = epoch_of-append (take place entries) (drop place (take later entries)) in
    subst (λ (all : List Entry). epoch_of (take place entries) ≤ epoch_of all) (take-more entries place later order) (omega arith)

pub settled_at-grows : (entries : List Entry) (place later : ℕ) → 1 ≤ place → place ≤ later → settled_at entries place ≤ settled_at entries later
settled_at-grows [] place later some order =
    let same : settled_at [] place ≡ settled_at [] later = ap settled_of (take_all place [] (omega arith) ∙ sym (take_all later [] (omega arith))) in
    omega arith
settled_at-grows (entry ∷ entries) zero later some order = absurd (omega arith)
settled_at-grows (entry ∷ entries) (suc place) later some order =
    subst (λ (all : List Entry). settled_of (entry ∷ take place entries) ≤ settled_of all) (take-more (entry ∷ entries) (suc place) later order)
    (settled_of-append (entry ∷ take place entries) (drop (suc place) (take later (entry ∷ entries))) (omega arith))
