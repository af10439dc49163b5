-- The request that waits for an entry is the first that does among those with a mark of the number that the entry is about.
use Rattle.std.proofs.Common.{◌≡◌, ◌⊎◌, inl, inr, ℕ, ◌-◌, ◌^◌, ◌<◌, ◌≤◌, ◌==◌, ◌&&◌, not, Bool, true, false, cond, T, List, [], ◌∷◌, Contains, Option, Some, None, is_some, Ordering, refl, sym, ap, subst, ◌∙◌, arith}
use Rattle.std.specs.declared.cmp.Ordering.TheVariants.{Less, Equal, Greater}
use Rattle.std.specs.declared.ops.Bound.TheVariants.{Included}
use Rattle.std.specs.List.{find, AllByRecursion}
use Rattle.std.specs.List.Sorted.{IsStrictlySortedBy}
use Rattle.std.specs.Option.{option_map}
use Rattle.std.specs.Ordering.{nat_cmp, ordering_then, is_lt, is_le, is_gt, MatchOrdering}
use Rattle.std.specs.Cmp.{nat_cmp_total, ranked}
use Rattle.std.specs.BTreeMap.{is_at}
use Rattle.std.specs.BTreeMap.Range.{range_contains}
use Rattle.std.specs.BTreeSet.{BTreeSet, contains, keys_between}
use Rattle.std.specs.FinMap as tree
use Rattle.std.specs.FinMap.Entries.{below_all, is_sorted}
use Rattle.std.proofs.lemmas.Bool.{eqb-true, eq-eqb}
use Rattle.std.proofs.lemmas.Cmp.{tied_itself}
use Rattle.std.proofs.lemmas.List.Kept.{IsStrictlySortedBy-filter}
use Rattle.std.proofs.lemmas.Map.Keys.{sorted_head, sorted_tail}
use Rattle.std.proofs.lemmas.Map.Views.{Contains-from_any}
use Rattle.std.proofs.lemmas.Option.{same_Some}
use Rattle.proof_tools.proofs.Booleans.{T_and_left, T_and_right}
use Rattle.proof_tools.proofs.FiniteMaps.{less_from_test, entries-contain, get-entry}
use Rattle.proof_tools.proofs.Lists.{Contains-nil, Contains-cons_cases, Contains-filter, filter-contains, find-contains}
use Rattle.object_id.specs.declared.entry.Entry.{Entry}
use Rattle.object_id.proofs.SameLemmas.{entries_decided}
use Rattle.vdi_ops.specs.Subject.{subject_number}
use Rattle.sheep_node.specs.declared.course.Course.{Course}
use Rattle.sheep_node.specs.declared.course.Course.TheVariants.{Waiting, Driving, Commanding, Checking, DoingWork, AwaitingDecision}
use Rattle.sheep_node.specs.declared.course.Request.{Request}
use Rattle.sheep_node.specs.AwaitedEntry.{waits_for_entry}
use Rattle.sheep_node.specs.AwaitedNumbers.{awaited_number, is_number, waits_about, waits_there, mark_cmp, AreRequestMarks}
use Rattle.sheep_node.specs.KeptLog.{asker_among}
use Rattle.sheep_node.proofs.AwaitedEntryLaws.{waits_only}
use Rattle.sheep_node.proofs.RequestMarks.{is_mark-at}

-- ---- the first of a list in order

module _ {X : Type 0} (p : X → Bool) where
  -- where none is found, none passes
  find-none : (xs : List X) (x : X) → find p xs ≡ None → Contains xs x → p x ≡ false
  find-none [] x none there = absurd (Contains-nil x there)
  find-none (y ∷ ys) x none there = by_test (p y) refl none (find-none ys x)
    where
      by_test : (b : Bool) → p y ≡ b → cond b (Some y) (find p ys) ≡ None → (find p ys ≡ None → Contains ys x → p x ≡ false) → p x ≡ false
      by_test true now is rest = absurd (cc (is))
      by_test false now is rest = elim (Contains-cons_cases y ys x there) [
        | inl same ↦ ap p (sym same) ∙ now
        | inr later ↦ rest is later
      ]

  below_later : (R : X → X → Ordering) (x : X) (xs : List X) (y : X) → AllByRecursion (λ z. R x z ≡ Less) xs → Contains xs y → R x y ≡ Less
  below_later R x [] y below there = absurd (Contains-nil y there)
  below_later R x (z ∷ zs) y below there = elim (Contains-cons_cases z zs y there) [
    | inl same ↦ subst (λ (w : X). R x w ≡ Less) same below.0
    | inr later ↦ below_later R x zs y below.1 later
  ]

  -- what is found is the least that passes
  find-least : (R : X → X → Ordering) (xs : List X) (x y : X) → IsStrictlySortedBy R xs → find p xs ≡ Some x → Contains xs y → p y ≡ true
      → (x ≡ y) ⊎ (R x y ≡ Less)
  find-least R [] x y sorted found there passes = absurd (Contains-nil y there)
  find-least R (z ∷ zs) x y sorted found there passes =
      by_test (p z) refl found (λ is later. find-least R zs x y (sorted_tail R z zs sorted) is later passes)
    where
      by_test : (b : Bool) → p z ≡ b → cond b (Some z) (find p zs) ≡ Some x
          → (find p zs ≡ Some x → Contains zs y → (x ≡ y) ⊎ (R x y ≡ Less)) → (x ≡ y) ⊎ (R x y ≡ Less)
      by_test true now is rest = elim (Contains-cons_cases z zs y there) [
        | inl same ↦ inl (sym (same_Some z x is) ∙ same)
        | inr later ↦ inr (subst (λ (w : X). R w y ≡ Less) (same_Some z x is) (below_later R z zs y (sorted_head R z zs sorted) later))
      ]
      by_test false now is rest = elim (Contains-cons_cases z zs y there) [
        | inl same ↦
            let wrong : false ≡ true = sym now ∙ ap p same ∙ passes in
            absurd (cc (wrong))
        | inr later ↦ rest is later
      ]

abbrev by_key : ℕ × Request → ℕ × Request → Ordering
by_key one other = nat_cmp one.0 other.0

entries-sorted : (es : List (ℕ × Request)) → T (is_sorted nat_cmp es) → IsStrictlySortedBy by_key es
unfolding IsStrictlySortedBy
entries-sorted [] sorted = tt
entries-sorted (e ∷ es) sorted = (
  each_below es (T_and_left (below_all nat_cmp e.0 es) (is_sorted nat_cmp es) sorted),
  entries-sorted es (T_and_right (below_all nat_cmp e.0 es) (is_sorted nat_cmp es) sorted),
)
  where
    each_below : (fs : List (ℕ × Request)) → T (below_all nat_cmp e.0 fs) → AllByRecursion (λ f. by_key e f ≡ Less) fs
    each_below [] below = tt
    each_below (f ∷ fs) below = (
      less_from_test (nat_cmp e.0 f.0) (T_and_left (is_lt (nat_cmp e.0 f.0)) (below_all nat_cmp e.0 fs) below),
      each_below fs (T_and_right (is_lt (nat_cmp e.0 f.0)) (below_all nat_cmp e.0 fs) below),
    )

-- ---- the order of marks

le-test : (a b : ℕ) → a ≤ b → is_le (nat_cmp a b) ≡ true
le-test a b le = by_order (nat_cmp a b) (ranked a b (nat_cmp a b) refl)
  where
    by_order : (o : Ordering) → MatchOrdering o (a < b) (a ≡ b) (b < a) → is_le o ≡ true
    by_order Less is = refl
    by_order Equal is = refl
    by_order Greater is = absurd (omega arith)

not_lt-test : (a b : ℕ) → b ≤ a → is_lt (nat_cmp a b) ≡ false
not_lt-test a b le = by_order (nat_cmp a b) (ranked a b (nat_cmp a b) refl)
  where
    by_order : (o : Ordering) → MatchOrdering o (a < b) (a ≡ b) (b < a) → is_lt o ≡ false
    by_order Less is = absurd (omega arith)
    by_order Equal is = refl
    by_order Greater is = refl

lt-less : (a b : ℕ) → nat_cmp a b ≡ Less → a < b
lt-less a b is = by_order (nat_cmp a b) (ranked a b (nat_cmp a b) refl) is
  where
    by_order : (o : Ordering) → MatchOrdering o (a < b) (a ≡ b) (b < a) → o ≡ Less → a < b
    by_order Less less is = less
    by_order Equal same is = absurd (cc (is))
    by_order Greater more is = absurd (cc (is))

-- marks of one number are in the order of the requests
mark_cmp-same : (number req by : ℕ) → mark_cmp (number, req) (number, by) ≡ nat_cmp req by
mark_cmp-same number req by = ap (λ o. ordering_then o (nat_cmp req by)) (tied_itself nat_cmp_total number)

pub is_forward : (number : ℕ) → is_gt (mark_cmp (number, 0) (number, 2 ^ 32 - 1)) ≡ false
is_forward number = ap is_gt (mark_cmp-same number 0 (2 ^ 32 - 1))

same_mark : (one other : ℕ × ℕ) → is_at (mark_cmp one) other ≡ true → one ≡ other
same_mark (number, req) (n, by) is = both (number == n) (req == by) refl refl (sym (is_mark-at number req n by) ∙ is)
  where
    both : (b c : Bool) → (number == n) ≡ b → (req == by) ≡ c → (b && c) ≡ true → ◌≡◌ {A = ℕ × ℕ} (number, req) (n, by)
    both true true one other is = λ i. (eqb-true number n one i, eqb-true req by other i)
    both true false one other is = absurd (cc (is))
    both false c one other is = absurd (cc (is))

-- the marks of a number, among which the code looks
abbrev pub marks_of : ℕ → BTreeSet (ℕ × ℕ) → List (ℕ × ℕ)
marks_of number marks = keys_between mark_cmp (Included (number, 0)) (Included (number, 2 ^ 32 - 1)) marks

abbrev in_range : ℕ → ℕ × ℕ → Bool
in_range number key = range_contains mark_cmp (Included (number, 0)) (Included (number, 2 ^ 32 - 1)) key

in_range-own : (number req : ℕ) → req < 2 ^ 32 → in_range number (number, req) ≡ true
in_range-own number req below =
    ap (λ o. is_le o && not (is_lt (mark_cmp (number, 2 ^ 32 - 1) (number, req)))) (mark_cmp-same number 0 req)
    ∙ ap (λ b. b && not (is_lt (mark_cmp (number, 2 ^ 32 - 1) (number, req)))) (le-test 0 req (omega arith))
    ∙ ap (λ o. not (is_lt o)) (mark_cmp-same number (2 ^ 32 - 1) req) ∙ ap not (not_lt-test (2 ^ 32 - 1) req (omega arith))

in_range-only : (number n req : ℕ) → in_range number (n, req) ≡ true → n ≡ number
in_range-only number n req is = by_order (nat_cmp number n) refl is
  where
    by_order : (o : Ordering) → nat_cmp number n ≡ o
        → (is_le (ordering_then o (nat_cmp 0 req)) && not (is_lt (ordering_then o (nat_cmp (2 ^ 32 - 1) req)))) ≡ true → n ≡ number
    by_order Less tie is = absurd (cc (is))
    by_order Equal tie is = sym (tree.nat_cmp-IsAntisymmetric number n tie)
    by_order Greater tie is = absurd (cc (is))

-- ---- who waits for an entry has the mark of its number

waits-about : (entry : Entry) (course : Course) → waits_for_entry entry course ≡ true → is_number (subject_number entry) (awaited_number course) ≡ true
waits-about entry (Waiting ask) waits = absurd (cc (waits))
waits-about entry (Driving driver) waits = absurd (cc (waits))
waits-about entry (Commanding op) waits =
    ap (λ (o : Option Entry). is_number (subject_number entry) (option_map subject_number o)) (waits_only entry op waits)
    ∙ eq-eqb (subject_number entry) (subject_number entry) refl
waits-about entry (Checking check) waits = absurd (cc (waits))
waits-about entry (DoingWork work) waits = absurd (cc (waits))
waits-about entry (AwaitingDecision wanted) waits =
    eq-eqb (subject_number wanted) (subject_number entry) (ap subject_number ((entries_decided wanted entry).0 waits))

module _ (marks : BTreeSet (ℕ × ℕ)) (requests : tree.FinMap nat_cmp Request) (entry : Entry) (number : ℕ)
    (are : AreRequestMarks marks requests) (is : number ≡ subject_number entry) where
  has-mark : (req : ℕ) → waits_there entry (tree.get requests req) ≡ true → Contains (marks_of number marks) (number, req)
  has-mark req waits = by_there (tree.get requests req) refl waits
    where
      by_there : (there : Option Request) → tree.get requests req ≡ there → waits_there entry there ≡ true → Contains (marks_of number marks) (number, req)
      by_there None at waits = absurd (cc (waits))
      by_there (Some request) at waits =
          let marked : contains mark_cmp marks (number, req) ≡ true
          = are.each number req ∙ ap (waits_about number) at ∙ ap (λ n. is_number n (awaited_number request.course)) is
          ∙ waits-about entry request.course waits in
          Contains-filter (in_range number) marks.keys (number, req)
          (Contains-from_any {eq = λ one other. is_at (mark_cmp one) other} same_mark (number, req) marks.keys marked)
          (in_range-own number req (are.fits req (ap is_some at)))

  abbrev waits_at : ℕ × ℕ → Bool
  waits_at mark = waits_there entry (tree.get requests mark.1)

  abbrev waits : ℕ × Request → Bool
  waits found = waits_for_entry entry found.1.course

  -- what stands among the requests and waits
  waits-got : (found : ℕ × Request) → Contains (tree.entries requests) found → waits found ≡ true → waits_there entry (tree.get requests found.0) ≡ true
  waits-got found there is = ap (waits_there entry) (get-entry requests found there) ∙ is

  pub found-marked : IsStrictlySortedBy mark_cmp marks.keys
      → option_map (λ (mark : ℕ × ℕ). mark.1) (find waits_at (marks_of number marks)) ≡ asker_among entry requests
  found-marked sorted = by_found (find waits_at (marks_of number marks)) (find waits (tree.entries requests)) refl refl
    where
      -- a mark leads to a request
      entry_of : (mark : ℕ × ℕ) → waits_at mark ≡ true → (request : Request) × Contains (tree.entries requests) (mark.1, request) × (waits (mark.1, request) ≡ true)
      entry_of mark passes = by_there (tree.get requests mark.1) refl passes
        where
          by_there : (there : Option Request) → tree.get requests mark.1 ≡ there → waits_there entry there ≡ true
              → (request : Request) × Contains (tree.entries requests) (mark.1, request) × (waits (mark.1, request) ≡ true)
          by_there None at passes = absurd (cc (passes))
          by_there (Some request) at passes = (request, entries-contain tree.nat_cmp-IsAntisymmetric requests mark.1 request at, passes)

      least : (a b : ℕ) → (a ≡ b) ⊎ (nat_cmp a b ≡ Less) → (a ≡ b) ⊎ (nat_cmp b a ≡ Less) → a ≡ b
      least a b (inl same) other = same
      least a b (inr below) (inl same) = same
      least a b (inr below) (inr above) = absurd (omega (arith, lt-less a b below, lt-less b a above))

      by_found : (mark : Option (ℕ × ℕ)) (found : Option (ℕ × Request)) → find waits_at (marks_of number marks) ≡ mark
          → find waits (tree.entries requests) ≡ found → option_map (λ (m : ℕ × ℕ). m.1) mark ≡ option_map (λ (f : ℕ × Request). f.0) found
      by_found None None one other = refl
      by_found None (Some found) one other =
          let at = find-contains waits (tree.entries requests) found other in
          let passes : waits_there entry (tree.get requests found.0) ≡ true = waits-got found at.0 at.1 in
          let wrong : false ≡ true
          = sym (find-none waits_at (marks_of number marks) (number, found.0) one (has-mark found.0 passes)) ∙ passes in
          absurd (cc (wrong))
      by_found (Some mark) None one other =
          let at = find-contains waits_at (marks_of number marks) mark one in
          let leads = entry_of mark at.1 in
          let wrong : false ≡ true = sym (find-none waits (tree.entries requests) (mark.1, leads.0) other leads.1) ∙ leads.2 in
          absurd (cc (wrong))
      by_found (Some (n, req)) (Some found) one other =
          let at = find-contains waits_at (marks_of number marks) (n, req) one in
          let leads = entry_of (n, req) at.1 in
          let there = find-contains waits (tree.entries requests) found other in
          let passes : waits_there entry (tree.get requests found.0) ≡ true = waits-got found there.0 there.1 in
          let own : n ≡ number = in_range-only number n req (filter-contains (in_range number) marks.keys (n, req) at.0).1 in
          let in_marks : (req ≡ found.0) ⊎ (nat_cmp req found.0 ≡ Less)
          = elim (find-least waits_at mark_cmp (marks_of number marks) (n, req) (number, found.0)
          (IsStrictlySortedBy-filter mark_cmp (in_range number) marks.keys sorted) one (has-mark found.0 passes) passes) [
            | inl same ↦ inl (ap (λ (m : ℕ × ℕ). m.1) same)
            | inr below ↦ inr (sym (mark_cmp-same number req found.0) ∙ subst (λ (k : ℕ). mark_cmp (k, req) (number, found.0) ≡ Less) own below)
          ] in
          let in_requests : (req ≡ found.0) ⊎ (nat_cmp found.0 req ≡ Less)
          = elim (find-least waits by_key (tree.entries requests) found (req, leads.0)
          (entries-sorted (tree.entries requests) (tree.entries_sorted requests)) other leads.1 leads.2) [
            | inl same ↦ inl (sym (ap (λ (f : ℕ × Request). f.0) same))
            | inr below ↦ inr below
          ] in
          ap (λ (k : ℕ). Some k) (least req found.0 in_marks in_requests)
