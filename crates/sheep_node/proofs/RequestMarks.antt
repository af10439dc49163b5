-- The marks of the requests that wait for an entry, as the requests change.
use Rattle.std.proofs.Common.{◌≡◌, ℕ, ◌^◌, ◌<◌, ◌==◌, ◌&&◌, Bool, true, false, cond, List, [], Option, Some, None, is_some, refl, sym, ap, subst, ◌∙◌}
use Rattle.std.specs.List.{list_any}
use Rattle.std.specs.Ordering.{nat_cmp, is_eq}
use Rattle.std.specs.Cmp.{nat_cmp_total, unsigned_tied, tied_then}
use Rattle.std.specs.Map.{lookup}
use Rattle.std.specs.BTreeMap.{is_at}
use Rattle.std.specs.BTreeSet.{BTreeSet, contains}
use Rattle.std.specs.FinMap as tree
use Rattle.std.proofs.lemmas.Bool.{eqb-true, eqb-false}
use Rattle.proof_tools.proofs.FiniteMaps.{get-from_entries, get-insert_same, get-insert_other, get-remove_same, get-remove_other}
use Rattle.sheep_node.specs.declared.course.Request.{Request}
use Rattle.sheep_node.specs.AwaitedNumbers.{awaited_number, is_number, waits_about, mark_cmp, is_mark, AreRequestMarks}

abbrev Marks : Type 0
Marks = BTreeSet (ℕ × ℕ)

-- ---- one mark

pub is_mark-at : (number req n by : ℕ) → is_at (mark_cmp (number, req)) (n, by) ≡ is_mark (Some number) req n by
is_mark-at number req n by =
    sym (tied_then (nat_cmp number n) (nat_cmp req by))
    ∙ ap (λ b. b && is_eq (nat_cmp req by)) (unsigned_tied number n) ∙ ap (λ b. number == n && b) (unsigned_tied req by)

pub contains-changed : (old new : Marks) (awaited : Option ℕ) (number req : ℕ) (b : Bool) → awaited ≡ Some number
    → ((key : ℕ × ℕ) → contains mark_cmp new key ≡ cond (is_at (mark_cmp (number, req)) key) b (contains mark_cmp old key))
    → (n by : ℕ) → contains mark_cmp new (n, by) ≡ cond (is_mark awaited req n by) b (contains mark_cmp old (n, by))
contains-changed old new awaited number req b one is n by =
    is (n, by)
    ∙ ap (λ at. cond at b (contains mark_cmp old (n, by))) (is_mark-at number req n by ∙ ap (λ (o : Option ℕ). is_mark o req n by) (sym one))

is_mark-split : (awaited : Option ℕ) (req number by : ℕ) → is_mark awaited req number by ≡ (req == by && is_number number awaited)
is_mark-split None req number by = without (req == by)
  where
    without : (b : Bool) → false ≡ (b && false)
    without true = refl
    without false = refl
is_mark-split (Some own) req number by = swap (own == number) (req == by)
  where
    swap : (a b : Bool) → (a && b) ≡ (b && a)
    swap true true = refl
    swap true false = refl
    swap false true = refl
    swap false false = refl

-- ---- the marks stay those of the requests

module _ (marks next : Marks) (requests : tree.FinMap nat_cmp Request) (req : ℕ) where
  -- one request more
  pub AreRequestMarks-put : (request : Request) → AreRequestMarks marks requests → tree.get requests req ≡ None → req < 2 ^ 32
      → ((n by : ℕ) → contains mark_cmp next (n, by)
      ≡ cond (is_mark (awaited_number request.course) req n by) true (contains mark_cmp marks (n, by)))
      → AreRequestMarks next (tree.insert requests req request)
  AreRequestMarks-put request are none below is = record {
    each = λ n by.
        is n by ∙ ap (λ b. cond b true (contains mark_cmp marks (n, by))) (is_mark-split (awaited_number request.course) req n by)
        ∙ ap (cond (req == by && is_number n (awaited_number request.course)) true) (are.each n by)
        ∙ one_more n by (req == by) refl;
    fits = λ by there. each_fits by (req == by) refl there;
  }
    where
      only : (b : Bool) → cond b true false ≡ b
      only true = refl
      only false = refl

      one_more : (n by : ℕ) (b : Bool) → (req == by) ≡ b
          → cond (b && is_number n (awaited_number request.course)) true (waits_about n (tree.get requests by))
          ≡ waits_about n (tree.get (tree.insert requests req request) by)
      one_more n by true is =
          let same : req ≡ by = eqb-true req by is in
          ap (λ there. cond (is_number n (awaited_number request.course)) true (waits_about n there)) (ap (tree.get requests) (sym same) ∙ none)
          ∙ only (is_number n (awaited_number request.course))
          ∙ sym (ap (waits_about n) (ap (tree.get (tree.insert requests req request)) (sym same) ∙ get-insert_same requests req request))
      one_more n by false is =
          sym (ap (waits_about n) (get-insert_other requests req request by (λ same. eqb-false req by is (sym same))))

      each_fits : (by : ℕ) (b : Bool) → (req == by) ≡ b → is_some (tree.get (tree.insert requests req request) by) ≡ true → by < 2 ^ 32
      each_fits by true is there = subst (λ (n : ℕ). n < 2 ^ 32) (eqb-true req by is) below
      each_fits by false is there =
          are.fits by
          (sym (ap is_some (get-insert_other requests req request by (λ same. eqb-false req by is (sym same)))) ∙ there)

  -- one less
  pub AreRequestMarks-remove : (request : Request) → AreRequestMarks marks requests → tree.get requests req ≡ Some request
      → ((n by : ℕ) → contains mark_cmp next (n, by)
      ≡ cond (is_mark (awaited_number request.course) req n by) false (contains mark_cmp marks (n, by)))
      → AreRequestMarks next (tree.remove requests req)
  AreRequestMarks-remove request are at is = record {
    each = λ n by.
        is n by ∙ ap (λ b. cond b false (contains mark_cmp marks (n, by))) (is_mark-split (awaited_number request.course) req n by)
        ∙ ap (cond (req == by && is_number n (awaited_number request.course)) false) (are.each n by)
        ∙ one_less n by (req == by) refl;
    fits = λ by there. each_fits by (req == by) refl there;
  }
    where
      nothing : (b : Bool) → cond b false b ≡ false
      nothing true = refl
      nothing false = refl

      one_less : (n by : ℕ) (b : Bool) → (req == by) ≡ b
          → cond (b && is_number n (awaited_number request.course)) false (waits_about n (tree.get requests by))
          ≡ waits_about n (tree.get (tree.remove requests req) by)
      one_less n by true is =
          let same : req ≡ by = eqb-true req by is in
          ap (λ there. cond (is_number n (awaited_number request.course)) false (waits_about n there)) (ap (tree.get requests) (sym same) ∙ at)
          ∙ nothing (is_number n (awaited_number request.course))
          ∙ sym (ap (waits_about n) (ap (tree.get (tree.remove requests req)) (sym same) ∙ get-remove_same requests req))
      one_less n by false is =
          sym (ap (waits_about n) (get-remove_other requests req by (λ same. eqb-false req by is (sym same))))

      each_fits : (by : ℕ) (b : Bool) → (req == by) ≡ b → is_some (tree.get (tree.remove requests req) by) ≡ true → by < 2 ^ 32
      each_fits by true is there =
          let wrong : false ≡ true
          = sym (ap is_some (ap (tree.get (tree.remove requests req)) (sym (eqb-true req by is)) ∙ get-remove_same requests req)) ∙ there in
          absurd (cc (wrong))
      each_fits by false is there =
          are.fits by (sym (ap is_some (get-remove_other requests req by (λ same. eqb-false req by is (sym same)))) ∙ there)

  -- a mark of none that is there is set, and taken out again
  pub AreRequestMarks-undone : (last : Marks) (awaited : Option ℕ) → AreRequestMarks marks requests → tree.get requests req ≡ None
      → ((n by : ℕ) → contains mark_cmp next (n, by) ≡ cond (is_mark awaited req n by) true (contains mark_cmp marks (n, by)))
      → ((n by : ℕ) → contains mark_cmp last (n, by) ≡ cond (is_mark awaited req n by) false (contains mark_cmp next (n, by)))
      → AreRequestMarks last requests
  AreRequestMarks-undone last awaited are none set undone = record {
    each = λ n by.
        undone n by ∙ ap (cond (is_mark awaited req n by) false) (set n by)
        ∙ ap (λ b. cond b false (cond b true (contains mark_cmp marks (n, by)))) (is_mark-split awaited req n by)
        ∙ ap (λ was. cond (req == by && is_number n awaited) false (cond (req == by && is_number n awaited) true was)) (are.each n by)
        ∙ as_before n by (req == by) (is_number n awaited) refl;
    fits = are.fits;
  }
    where
      as_before : (n by : ℕ) (b m : Bool) → (req == by) ≡ b
          → cond (b && m) false (cond (b && m) true (waits_about n (tree.get requests by))) ≡ waits_about n (tree.get requests by)
      as_before n by true true is = sym (ap (waits_about n) (ap (tree.get requests) (sym (eqb-true req by is)) ∙ none))
      as_before n by true false is = refl
      as_before n by false m is = refl

-- at first there is nothing
pub AreRequestMarks-empty : (marks : Marks) (entries : List (ℕ × Request)) → marks.keys ≡ [] → entries ≡ [] → AreRequestMarks marks (tree.from_entries entries)
AreRequestMarks-empty marks entries no_marks none = record {
  each = λ n by. ap (list_any (is_at (mark_cmp (n, by)))) no_marks ∙ sym (ap (waits_about n) (nothing by));
  fits = λ by there.
      let wrong : false ≡ true = sym (ap is_some (nothing by)) ∙ there in
      absurd (cc (wrong));
}
  where
    nothing : (by : ℕ) → tree.get (tree.from_entries {R = nat_cmp} entries) by ≡ None
    nothing by = get-from_entries entries by ∙ ap (lookup (is_at (nat_cmp by))) none

-- what takes another's place might as well stand alone
pub insert-remove : (requests : tree.FinMap nat_cmp Request) (req : ℕ) (request : Request)
    → tree.insert (tree.remove requests req) req request ≡ tree.insert requests req request
insert-remove requests req request =
    tree.same_map nat_cmp_total tree.nat_cmp-IsAntisymmetric (tree.insert (tree.remove requests req) req request) (tree.insert requests req request)
    (λ by.
    tree.get-insert nat_cmp_total (tree.remove requests req) req request by
    ∙ by_tie (is_at (nat_cmp by) req) (tree.get requests by) (tree.get (tree.remove requests req) by) (tree.get-remove nat_cmp_total requests req by)
    ∙ sym (tree.get-insert nat_cmp_total requests req request by))
  where
    by_tie : (b : Bool) (old left : Option Request) → left ≡ cond b None old → cond b (Some request) left ≡ cond b (Some request) old
    by_tie true old left is = refl
    by_tie false old left is = is
