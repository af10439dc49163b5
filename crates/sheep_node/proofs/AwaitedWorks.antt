-- The works that await a message, by its number.
use Rattle.std.proofs.Common.{◌≡◌, ℕ, Bool, true, false, cond, List, [], ◌∷◌, find, Contains, Option, Some, is_some, refl, ap, ◌∙◌, ⊎_elim}
use Rattle.std.specs.Ordering.{nat_cmp}
use Rattle.std.specs.FinMap as tree
use Rattle.proof_tools.proofs.Lists.{Contains-nil, Contains-cons_cases, find-contains}
use Rattle.proof_tools.proofs.FiniteMaps.{entries-contain, get-entry}
use Rattle.gateway.specs.State.{Work, is_awaited_in}

abbrev pub Works : Type 0
Works = tree.FinMap nat_cmp Work

abbrev pub found_by : (Work → Bool) → List (ℕ × Work) → Option (ℕ × Work)
found_by test es = find (λ (entry : ℕ × Work). test entry.1) es

-- a work that is found to await a number is there, and awaits it
pub found_got : (q : ℕ) (m : Works) (found : ℕ × Work) → found_by (is_awaited_in q) (tree.entries m) ≡ Some found
    → (tree.get m found.0 ≡ Some found.1) × (is_awaited_in q found.1 ≡ true)
found_got q m found is =
    let (there, awaits) = find-contains (λ (entry : ℕ × Work). is_awaited_in q entry.1) (tree.entries m) found is in
    (get-entry m found there, awaits)

any_found : (q : ℕ) (es : List (ℕ × Work)) (e : ℕ × Work) → Contains es e → is_awaited_in q e.1 ≡ true → is_some (found_by (is_awaited_in q) es) ≡ true
any_found q [] e there awaited = absurd (Contains-nil e there)
any_found q (f ∷ es) e there awaited = ⊎_elim
    (λ (same : f ≡ e). here (is_awaited_in q f.1) (ap (λ (g : ℕ × Work). is_awaited_in q g.1) same ∙ awaited))
    (λ (later : Contains es e). behind (is_awaited_in q f.1) (any_found q es e later awaited))
    (Contains-cons_cases f es e there)
  where
    here : (b : Bool) → b ≡ true → is_some (cond b (Some f) (found_by (is_awaited_in q) es)) ≡ true
    here true is = refl
    here false is = absurd (cc (is))

    behind : (b : Bool) → is_some (found_by (is_awaited_in q) es) ≡ true → is_some (cond b (Some f) (found_by (is_awaited_in q) es)) ≡ true
    behind true is = refl
    behind false is = is

-- a number that a work awaits is found
pub got_found : (q : ℕ) (m : Works) (req : ℕ) (work : Work) → tree.get m req ≡ Some work → is_awaited_in q work ≡ true
    → is_some (found_by (is_awaited_in q) (tree.entries m)) ≡ true
got_found q m req work there awaited =
    any_found q (tree.entries m) (req, work) (entries-contain tree.nat_cmp-IsAntisymmetric m req work there) awaited
