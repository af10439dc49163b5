-- A settled epoch and the entries by which its members have recovered.
use Rattle.std.proofs.Common.{◌≡◌, ℕ, ◌<◌, ◌==◌, ◌||◌, not, Bool, true, false, cond, List, [], ◌∷◌, length, get_or, filter, All, Contains, refl, ap, sym, ◌∙◌, subst, arith}
use Rattle.std.proofs.lemmas.Bool.{eqb-true, eq-eqb, ne_eqb, and_parts, not-false}
use Rattle.std.proofs.lemmas.List.{get_or_default}
use Rattle.std.proofs.lemmas.List.Elements.{All-head, All-tail, All-cons, All-nil, All-contains}
use Rattle.std.proofs.lemmas.List.Folds.{Any-from_list_any, list_any_at}
use Rattle.object_id.specs.declared.node.NodeId.{NodeId}
use Rattle.object_id.specs.declared.entry.Member.{Member}
use Rattle.object_id.specs.declared.entry.Entry.{Entry}
use Rattle.object_id.specs.declared.entry.Entry.TheVariants.{Recovered}
use Rattle.epoch_log.specs.Epochs.{members_in, recovers, has_recovered, missing_in, is_settled}

-- what a filter loses, where it keeps nothing
filter-nil : {X : Type 0} (p : X → Bool) (xs : List X) → length (filter p xs) ≡ 0 → All (λ x. p x ≡ false) xs
filter-nil p [] none = All-nil (λ x. p x ≡ false)
filter-nil p (x ∷ xs) none = by_test (p x) refl none (filter-nil p xs)
  where
    by_test : (b : Bool) → p x ≡ b → length (cond b (x ∷ filter p xs) (filter p xs)) ≡ 0
        → (length (filter p xs) ≡ 0 → All (λ x. p x ≡ false) xs) → All (λ x. p x ≡ false) (x ∷ xs)
    by_test true kept none rest = absurd (omega arith)
    by_test false lost none rest = All-cons (λ x. p x ≡ false) x xs lost (rest none)

filter-none : {X : Type 0} (p : X → Bool) (xs : List X) → All (λ x. p x ≡ false) xs → filter p xs ≡ []
filter-none p [] lost = refl
filter-none p (x ∷ xs) lost =
    ap (λ b. cond b (x ∷ filter p xs) (filter p xs)) (All-head (λ x. p x ≡ false) x xs lost)
    ∙ filter-none p xs (All-tail (λ x. p x ≡ false) x xs lost)

-- the one entry that says so
pub recovers-is : (epoch : ℕ) (node : NodeId) (entry : Entry) → recovers epoch node.0 entry ≡ true → entry ≡ Recovered node (record { 0 = epoch })
recovers-is epoch node (Recovered by of) says =
    let parts = and_parts (of.0 == epoch) (by.0 == node.0) says in
    let epochs : of.0 ≡ epoch = eqb-true of.0 epoch parts.0 in
    let nodes : by.0 ≡ node.0 = eqb-true by.0 node.0 parts.1 in
    λ i. Recovered (record { 0 = nodes i }) (record { 0 = epochs i })
recovers-is epoch node entry says = cc

pub has_recovered-from : (entries : List Entry) (epoch : ℕ) (node : NodeId) → Contains entries (Recovered node (record { 0 = epoch }))
    → has_recovered entries epoch node.0 ≡ true
has_recovered-from entries epoch node there =
    let entry : Entry = Recovered node (record { 0 = epoch }) in
    let says : recovers epoch node.0 entry ≡ true = rw (eq-eqb epoch epoch refl, eq-eqb node.0 node.0 refl) refl in
    list_any_at (recovers epoch node.0) entries there.0 entry there.1 (ap (recovers epoch node.0) there.2 ∙ says)

pub has_recovered-to : (entries : List Entry) (epoch : ℕ) (node : NodeId) → has_recovered entries epoch node.0 ≡ true
    → Contains entries (Recovered node (record { 0 = epoch }))
has_recovered-to entries epoch node says =
    let found = Any-from_list_any (recovers epoch node.0) entries says in
    let same : found.1 ≡ Recovered node (record { 0 = epoch }) = recovers-is epoch node found.1 found.4 in
    subst (Contains entries) same (found.0, found.2, found.3)

pub settled-recovered : (entries : List Entry) (epoch : ℕ) → 1 < epoch → is_settled entries epoch ≡ true → (member : Member)
    → Contains (members_in entries epoch) member → Contains entries (Recovered member.node (record { 0 = epoch }))
settled-recovered entries epoch above settled member there =
    let later : (epoch == 1) ≡ false = ne_eqb epoch 1 (λ same. (omega arith)) in
    let none : length (missing_in entries epoch) ≡ 0 = eqb-true (length (missing_in entries epoch)) 0 (sym (ap (λ b. b || length (missing_in entries epoch) == 0) later) ∙ settled) in
    let lost = filter-nil (λ (m : Member). not (has_recovered entries epoch m.node.0)) (members_in entries epoch) none in
    has_recovered-to entries epoch member.node
    (not-false (has_recovered entries epoch member.node.0)
    (All-contains (λ (m : Member). not (has_recovered entries epoch m.node.0) ≡ false) (members_in entries epoch) member lost there))

pub recovered-settled : (entries : List Entry) (epoch : ℕ)
    → ((member : Member) → Contains (members_in entries epoch) member → Contains entries (Recovered member.node (record { 0 = epoch })))
    → is_settled entries epoch ≡ true
recovered-settled entries epoch each = by_test (epoch == 1)
  where
    lost : All (λ (m : Member). not (has_recovered entries epoch m.node.0) ≡ false) (members_in entries epoch)
    lost k d within =
        let member : Member = get_or (members_in entries epoch) k d in
        ap not (has_recovered-from entries epoch member.node (each member (k, within, get_or_default (members_in entries epoch) k member d within)))

    by_test : (b : Bool) → (b || length (missing_in entries epoch) == 0) ≡ true
    by_test true = refl
    by_test false = ap (λ left. length left == 0) (filter-none (λ (m : Member). not (has_recovered entries epoch m.node.0)) (members_in entries epoch) lost)
