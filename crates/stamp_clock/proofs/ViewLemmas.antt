-- Sums and facts over the views of a clock, where one view is another one or a view is added.
use Rattle.std.proofs.Common.{arith, ◌≡◌, ◌+◌, ◌<◌, ◌≤◌, ℕ, zero, suc, List, [], ◌∷◌, All, sum_by, length, set, get_or, slice_get, Some, sym, ap, subst, refl}
use Rattle.std.proofs.lemmas.List.Elements.{All-get_or, All-set, All-weaker, All-head, All-tail}
use Rattle.std.proofs.lemmas.List.Sums.{sum_by-set, sum_by-cons, get_or-le-sum_by}
use mathlib.Core.Option.{some, some-injective, some-ne-none}
use lib.ListN.{get_elem?}
use Rattle.stamp_clock.specs.declared.rule.View.{View}
use Rattle.stamp_clock.specs.Stamps.{occurrences, draws_of, HasSeenUpTo}
use Rattle.stamp_clock.proofs.TimesLemmas.{occurrences-above}

-- a view as the table finds it
pub found_at : (views : List View) (at : ℕ) (view : View) → slice_get views at ≡ Some view → get_elem? views at ≡ some view
found_at [] at view is = absurd (cc)
found_at (x ∷ xs) zero view is = let same : x ≡ view = cc in ap some same
found_at (x ∷ xs) (suc at) view is = found_at xs at view is

stands_at : (views : List View) (at : ℕ) (view : View) → get_elem? views at ≡ some view → (at < length views) × (get_or views at view ≡ view)
stands_at [] at view is = absurd (some-ne-none view (sym is))
stands_at (x ∷ xs) zero view is = (omega arith, some-injective x view is)
stands_at (x ∷ xs) (suc at) view is = let rest = stands_at xs at view is in (omega (arith, rest.0), rest.1)

pub sum_by-set_view : (f : View → ℕ) (views : List View) (at : ℕ) (view new : View) → get_elem? views at ≡ some view
    → sum_by f (set views at new) + f view ≡ sum_by f views + f new
sum_by-set_view f views at view new is =
    let here = stands_at views at view is in
    let P : View → Type 0 = λ other. sum_by f (set views at new) + f other ≡ sum_by f views + f new in
    subst P here.1 (sum_by-set f views at new view here.0)

pub view-le-sum_by : (f : View → ℕ) (views : List View) (at : ℕ) (view : View) → get_elem? views at ≡ some view → f view ≤ sum_by f views
view-le-sum_by f views at view is =
    let here = stands_at views at view is in
    let P : View → Type 0 = λ other. f other ≤ sum_by f views in
    subst P here.1 (get_or-le-sum_by f views at view here.0)

pub up_to_at : (word : ℕ) (views : List View) (at : ℕ) (view : View) → All (HasSeenUpTo word) views → get_elem? views at ≡ some view → HasSeenUpTo word view
up_to_at word views at view each is =
    let here = stands_at views at view is in
    let P : View → Type 0 = λ other. HasSeenUpTo word other in
    subst P here.1 (All-get_or (HasSeenUpTo word) views at view here.0 each)

pub up_to-set : (word later : ℕ) (views : List View) (at : ℕ) (new : View) → word ≤ later → All (HasSeenUpTo word) views → HasSeenUpTo later new
    → All (HasSeenUpTo later) (set views at new)
up_to-set word later views at new le each is =
    All-set (HasSeenUpTo later) views at new is
    (All-weaker (HasSeenUpTo word) (HasSeenUpTo later) (λ view up. record { seen = omega (arith, up.seen); mine = up.mine }) views each)

-- the next number was drawn by nobody yet
pub draws_of-word : (word : ℕ) (views : List View) → All (HasSeenUpTo word) views → draws_of word views ≡ 0
draws_of-word word [] each = refl
draws_of-word word (x ∷ xs) each =
    let here : HasSeenUpTo word x = All-head (HasSeenUpTo word) x xs each in
    let none : occurrences word x.mine ≡ 0 = occurrences-above x.seen word x.mine here.mine here.seen in
    let rest : draws_of word xs ≡ 0 = draws_of-word word xs (All-tail (HasSeenUpTo word) x xs each) in
    let whole : draws_of word (x ∷ xs) ≡ occurrences word x.mine + draws_of word xs = sum_by-cons (λ view. occurrences word view.mine) x xs in
    omega (arith, none, rest, whole)
