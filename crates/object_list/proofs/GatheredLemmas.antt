-- What was gathered after a list of answers.
use Rattle.std.proofs.Common.{◌≡◌, ◌↔◌, ◌⊎◌, inl, inr, ℕ, zero, suc, ◌<◌, not, ◌&&◌, ◌||◌, Bool, true, false, cond, List, [], ◌∷◌, length, get_or, filter, fold, All, Contains, Any, refl, ap, sym, subst, ◌∙◌, arith}
use Rattle.std.specs.List.{list_all}
use Rattle.std.specs.List.Sorted.{IsStrictlyIncreasing}
use Rattle.std.proofs.lemmas.Bool.{cases_Bool, and_right, eqb-true, eq-eqb}
use Rattle.std.proofs.lemmas.List.Elements.{filter_agree, All-head, All-tail}
use Rattle.std.proofs.lemmas.List.Folds.{list_any_at}
use Rattle.proof_tools.proofs.AscendingNumbers.{IsStrictlyIncreasing-nil}
use Rattle.proof_tools.proofs.Lists.{Contains-nil, filter-filter}
use Rattle.proof_tools.proofs.Booleans.{not-or}
use Rattle.object_id.specs.declared.node.NodeId.{NodeId}
use Rattle.object_list.specs.Union.{union}
use Rattle.object_list.specs.Gathered.{GatheredLists, ListAnswer, is_same_node, has_node, gathered_of_none, gathered_with_answer, gathered_after, has_answered}
use Rattle.object_list.proofs.UnionLemmas.{union-ascending, union-has, union-only}

abbrev from_there : GatheredLists → List ListAnswer → GatheredLists
from_there gathered answers = fold (λ gathered (answer : ListAnswer). gathered_with_answer answer.from answer.list gathered) gathered answers

filter-all : {X : Type 0} (xs : List X) → filter (λ x. true) xs ≡ xs
filter-all [] = refl
filter-all (x ∷ xs) = ap (λ rest. x ∷ rest) (filter-all xs)

waiting_from : (gathered : GatheredLists) (answers : List ListAnswer)
    → (from_there gathered answers).waiting ≡ filter (λ node. not (has_answered node answers)) gathered.waiting
waiting_from gathered [] = sym (filter-all gathered.waiting)
waiting_from gathered (answer ∷ answers) =
    waiting_from (gathered_with_answer answer.from answer.list gathered) answers
    ∙ filter-filter (λ node. not (is_same_node answer.from node)) (λ node. not (has_answered node answers)) gathered.waiting
    ∙ filter_agree (λ node. not (is_same_node answer.from node) && not (has_answered node answers)) (λ node. not (has_answered node (answer ∷ answers)))
    (λ node. sym (not-or (is_same_node answer.from node) (has_answered node answers))) gathered.waiting

pub waiting_after : (me : NodeId) (members : List NodeId) (answers : List ListAnswer)
    → (gathered_after me members answers).waiting ≡ filter (λ node. not (is_same_node me node) && not (has_answered node answers)) members
waiting_after me members answers =
    waiting_from (gathered_of_none me members) answers
    ∙ filter-filter (λ node. not (is_same_node me node)) (λ node. not (has_answered node answers)) members

-- nodes of one number are the same
node_from : (node other : NodeId) → is_same_node node other ≡ true → node ≡ other
node_from node other here = let same : other.0 ≡ node.0 = eqb-true other.0 node.0 here in λ i. record { 0 = sym same i }

-- a test of a node by its number picks from a list as it judges that node
pub has_node-filter : (p : NodeId → Bool) (node : NodeId) (nodes : List NodeId) → has_node node (filter p nodes) ≡ (has_node node nodes && p node)
has_node-filter p node [] = refl
has_node-filter p node (first ∷ nodes) = by_test (has_node-filter p node nodes) (cases_Bool (is_same_node node first)) (p first) refl
  where
    by_test : has_node node (filter p nodes) ≡ (has_node node nodes && p node) → (is_same_node node first ≡ true) ⊎ (is_same_node node first ≡ false)
        → (b : Bool) → p first ≡ b
        → has_node node (cond b (first ∷ filter p nodes) (filter p nodes)) ≡ ((is_same_node node first || has_node node nodes) && p node)
    by_test rest (inl here) true passes =
        let same : p node ≡ true = ap p (node_from node first here) ∙ passes in
        ap (λ t. t || has_node node (filter p nodes)) here ∙ sym (ap (λ t. (t || has_node node nodes) && p node) here ∙ same)
    by_test rest (inl here) false fails =
        let same : p node ≡ false = ap p (node_from node first here) ∙ fails in
        rest ∙ and_right (has_node node nodes) (p node) same ∙ sym (and_right (is_same_node node first || has_node node nodes) (p node) same)
    by_test rest (inr other) true passes =
        ap (λ t. t || has_node node (filter p nodes)) other ∙ rest ∙ sym (ap (λ t. (t || has_node node nodes) && p node) other)
    by_test rest (inr other) false fails =
        rest ∙ sym (ap (λ t. (t || has_node node nodes) && p node) other)

pub waits_for_after : (me : NodeId) (members : List NodeId) (answers : List ListAnswer) (node : NodeId)
    → has_node node (gathered_after me members answers).waiting ≡ (has_node node members && (not (is_same_node me node) && not (has_answered node answers)))
waits_for_after me members answers node =
    ap (has_node node) (waiting_after me members answers)
    ∙ has_node-filter (λ other. not (is_same_node me other) && not (has_answered other answers)) node members

-- two tests that agree on the elements of a list keep the same of it
filter-on : {X : Type 0} (p q : X → Bool) (xs : List X) → All (λ x. p x ≡ q x) xs → filter p xs ≡ filter q xs
filter-on p q [] same = refl
filter-on p q (x ∷ xs) same =
    ap (λ b. cond b (x ∷ filter p xs) (filter p xs)) (All-head (λ x. p x ≡ q x) x xs same)
    ∙ ap (λ rest. cond (q x) (x ∷ rest) rest) (filter-on p q xs (All-tail (λ x. p x ≡ q x) x xs same))

pub in_order_after : (me : NodeId) (members : List NodeId) (answers : List ListAnswer)
    → filter (λ node. has_node node (gathered_after me members answers).waiting) members ≡ (gathered_after me members answers).waiting
in_order_after me members answers =
    filter-on (λ node. has_node node (gathered_after me members answers).waiting) (λ node. not (is_same_node me node) && not (has_answered node answers)) members
    (λ k d within.
    (let node : NodeId = get_or members k d in
    waits_for_after me members answers node
    ∙ ap (λ b. b && (not (is_same_node me node) && not (has_answered node answers))) (list_any_at (is_same_node node) members k d within (eq-eqb node.0 node.0 refl))))
    ∙ sym (waiting_after me members answers)

none_left : (p q : NodeId → Bool) (nodes : List NodeId) → ((node : NodeId) → p node ≡ not (q node)) → (filter p nodes ≡ []) ↔ (list_all q nodes ≡ true)
none_left p q [] other = (λ _. refl, λ _. refl)
none_left p q (node ∷ nodes) other = by_test (none_left p q nodes other) (q node) (p node) (other node)
  where
    by_test : ((filter p nodes ≡ []) ↔ (list_all q nodes ≡ true)) → (b pass : Bool) → pass ≡ not b
        → (cond pass (node ∷ filter p nodes) (filter p nodes) ≡ []) ↔ ((b && list_all q nodes) ≡ true)
    by_test rest true true is = absurd (cc)
    by_test rest true false is = rest
    by_test rest false true is = (λ none. absurd (cc), λ no. absurd (cc))
    by_test rest false false is = absurd (cc)

pub finished_after : (me : NodeId) (members : List NodeId) (answers : List ListAnswer)
    → ((gathered_after me members answers).waiting ≡ []) ↔ (list_all (λ node. is_same_node me node || has_answered node answers) members ≡ true)
finished_after me members answers =
    subst (λ (nodes : List NodeId). (nodes ≡ []) ↔ (list_all (λ node. is_same_node me node || has_answered node answers) members ≡ true))
    (sym (waiting_after me members answers))
    (none_left (λ node. not (is_same_node me node) && not (has_answered node answers)) (λ node. is_same_node me node || has_answered node answers) members
    (λ node. sym (not-or (is_same_node me node) (has_answered node answers))))

ascending_from : (gathered : GatheredLists) (answers : List ListAnswer) → IsStrictlyIncreasing gathered.objects → IsStrictlyIncreasing (from_there gathered answers).objects
ascending_from gathered [] up = up
ascending_from gathered (answer ∷ answers) up =
    ascending_from (gathered_with_answer answer.from answer.list gathered) answers (union-ascending gathered.objects answer.list up)

pub ascending_after : (me : NodeId) (members : List NodeId) (answers : List ListAnswer) → IsStrictlyIncreasing (gathered_after me members answers).objects
ascending_after me members answers = ascending_from (gathered_of_none me members) answers IsStrictlyIncreasing-nil

abbrev Named : List ListAnswer → ℕ → Type 0
Named answers oid = Any (λ (answer : ListAnswer). Contains answer.list oid) answers

named-here : (answer : ListAnswer) (answers : List ListAnswer) (oid : ℕ) → Contains answer.list oid → Named (answer ∷ answers) oid
named-here answer answers oid there = (0, answer, omega arith, refl, there)

named-later : (answer : ListAnswer) (answers : List ListAnswer) (oid : ℕ) → Named answers oid → Named (answer ∷ answers) oid
named-later answer answers oid named = (suc named.0, named.1, (let within : named.0 < length answers = named.2 in omega arith), named.3, named.4)

named-cases : (answer : ListAnswer) (answers : List ListAnswer) (oid : ℕ) → Named (answer ∷ answers) oid → Contains answer.list oid ⊎ Named answers oid
named-cases answer answers oid named = by_place named.0 named.1 named.2 named.3 named.4
  where
    by_place : (k : ℕ) (one : ListAnswer) → k < length (answer ∷ answers) → get_or (answer ∷ answers) k one ≡ one → Contains one.list oid → Contains answer.list oid ⊎ Named answers oid
    by_place zero one within is there = inl (subst (λ (a : ListAnswer). Contains a.list oid) (sym is) there)
    by_place (suc k) one within is there = inr (k, one, omega arith, is, there)

objects_from : (gathered : GatheredLists) (answers : List ListAnswer) (oid : ℕ)
    → Contains (from_there gathered answers).objects oid ↔ (Contains gathered.objects oid ⊎ Named answers oid)
objects_from gathered [] oid = (λ there. inl there, none)
  where
    none : Contains gathered.objects oid ⊎ Named [] oid → Contains gathered.objects oid
    none (inl there) = there
    none (inr named) = absurd (let within : named.0 < 0 = named.2 in omega arith)
objects_from gathered (answer ∷ answers) oid = (
  λ there. only ((objects_from (gathered_with_answer answer.from answer.list gathered) answers oid).0 there),
  has (objects_from (gathered_with_answer answer.from answer.list gathered) answers oid).1,
)
  where
    in_union : Contains gathered.objects oid ⊎ Contains answer.list oid → Contains gathered.objects oid ⊎ Named (answer ∷ answers) oid
    in_union (inl there) = inl there
    in_union (inr there) = inr (named-here answer answers oid there)

    only : Contains (union gathered.objects answer.list) oid ⊎ Named answers oid → Contains gathered.objects oid ⊎ Named (answer ∷ answers) oid
    only (inl there) = in_union (union-only gathered.objects answer.list oid there)
    only (inr named) = inr (named-later answer answers oid named)

    has : (Contains (union gathered.objects answer.list) oid ⊎ Named answers oid → Contains (from_there (gathered_with_answer answer.from answer.list gathered) answers).objects oid)
        → Contains gathered.objects oid ⊎ Named (answer ∷ answers) oid → Contains (from_there (gathered_with_answer answer.from answer.list gathered) answers).objects oid
    has later (inl there) = later (inl (union-has gathered.objects answer.list oid (inl there)))
    has later (inr named) = elim (named-cases answer answers oid named) [
      | inl there ↦ later (inl (union-has gathered.objects answer.list oid (inr there)))
      | inr more ↦ later (inr more)
    ]

pub objects_after : (me : NodeId) (members : List NodeId) (answers : List ListAnswer) (oid : ℕ)
    → Contains (gathered_after me members answers).objects oid ↔ Any (λ (answer : ListAnswer). Contains answer.list oid) answers
objects_after me members answers oid = (
  λ there. named ((objects_from (gathered_of_none me members) answers oid).0 there),
  λ by. (objects_from (gathered_of_none me members) answers oid).1 (inr by),
)
  where
    named : Contains [] oid ⊎ Named answers oid → Named answers oid
    named (inl none) = absurd (Contains-nil oid none)
    named (inr by) = by
