-- The number of a request is of one session, and stands once among the numbers of the session's requests.
use Rattle.std.proofs.Common.{◌≡◌, ◌⊎◌, inl, inr, ℕ, zero, suc, ◌+◌, ◌≤◌, ◌==◌, Bool, true, false, cond, List, [], ◌∷◌, map, filter, Option, Some, None, refl, sym, ap, ◌∙◌, ⊎_elim}
use native.Mathlib.Omega.{arith}
use Rattle.std.specs.List.{slice_get, enumerate_from}
use Rattle.std.specs.Option.{option_map_or}
use Rattle.std.proofs.lemmas.Bool.{eqb-true}
use Rattle.std.proofs.lemmas.Option.{same_Some}
use Rattle.cluster_script.specs.declared.statement.Statement.{Statement}
use Rattle.cluster_script.specs.NumberedRequests.{session_of, is_of_session}

-- the numbers of a session's requests among some, counted from `first`
abbrev pub those_of : ℕ → List Statement → ℕ → List (ℕ × Statement)
those_of first requests session = filter (λ (request : ℕ × Statement). is_of_session session request.1) (enumerate_from first requests)

abbrev pub numbers_from : ℕ → List Statement → ℕ → List ℕ
numbers_from first requests session = map (λ (request : ℕ × Statement). request.0) (those_of first requests session)

-- a number at a place is that of the first request, or one of the later ones
abbrev IsFirst : Bool → ℕ → ℕ → ℕ → Type 0
IsFirst takes first place req = (takes ≡ true) × (place ≡ 0) × (first ≡ req)

abbrev IsLater : Bool → List ℕ → ℕ → ℕ → Type 0
IsLater takes later place req =
    (behind : ℕ) × (slice_get later behind ≡ Some req) × (takes ≡ true → place ≡ behind + 1) × (takes ≡ false → place ≡ behind)

listed : (takes : Bool) (first : ℕ × Statement) (later : List (ℕ × Statement)) (place req : ℕ)
    → slice_get (map (λ (request : ℕ × Statement). request.0) (cond takes (first ∷ later) later)) place ≡ Some req
    → IsFirst takes first.0 place req ⊎ IsLater takes (map (λ (request : ℕ × Statement). request.0) later) place req
listed true first later zero req is = inl (refl, refl, same_Some first.0 req is)
listed true first later (suc behind) req is = inr (behind, is, λ so. omega arith, λ never. absurd (cc (never)))
listed false first later place req is = inr (place, is, λ never. absurd (cc (never)), λ so. refl)

at_least : (first : ℕ) (requests : List Statement) (session place req : ℕ) → slice_get (numbers_from first requests session) place ≡ Some req
    → first ≤ req
at_least first [] session place req is = absurd (cc (is))
at_least first (s ∷ rest) session place req is = ⊎_elim
    (λ (here : IsFirst (is_of_session session s) first place req). let same : first ≡ req = here.2 in omega (arith, same))
    (λ (later : IsLater (is_of_session session s) (numbers_from (first + 1) rest session) place req).
    let more : first + 1 ≤ req = at_least (first + 1) rest session later.0 req later.1 in omega (arith, more))
    (listed (is_of_session session s) (first, s) (those_of (first + 1) rest session) place req is)

one_session : (one other : ℕ) (of : Option ℕ) → option_map_or (λ (number : ℕ). number == one) of false ≡ true
    → option_map_or (λ (number : ℕ). number == other) of false ≡ true → one ≡ other
one_session one other None is there = absurd (cc (is))
one_session one other (Some number) is there = sym (eqb-true number one is) ∙ eqb-true number other there

-- a number is of one session, and at one place of its numbers
pub once : (first : ℕ) (requests : List Statement) (one other place behind req : ℕ) → slice_get (numbers_from first requests one) place ≡ Some req
    → slice_get (numbers_from first requests other) behind ≡ Some req → (one ≡ other) × (place ≡ behind)
once first [] one other place behind req is there = absurd (cc (is))
once first (s ∷ rest) one other place behind req is there = ⊎_elim
    (λ (here : IsFirst (is_of_session one s) first place req). ⊎_elim
    (λ (too : IsFirst (is_of_session other s) first behind req). (one_session one other (session_of s) here.0 too.0, here.1 ∙ sym too.1))
    (λ (later : IsLater (is_of_session other s) (numbers_from (first + 1) rest other) behind req).
    let same : first ≡ req = here.2 in
    let more : first + 1 ≤ req = at_least (first + 1) rest other later.0 req later.1 in
    absurd (omega (arith, same, more)))
    (listed (is_of_session other s) (first, s) (those_of (first + 1) rest other) behind req there))
    (λ (later : IsLater (is_of_session one s) (numbers_from (first + 1) rest one) place req). ⊎_elim
    (λ (here : IsFirst (is_of_session other s) first behind req).
    let same : first ≡ req = here.2 in
    let more : first + 1 ≤ req = at_least (first + 1) rest one later.0 req later.1 in
    absurd (omega (arith, same, more)))
    (λ (too : IsLater (is_of_session other s) (numbers_from (first + 1) rest other) behind req).
    let same = once (first + 1) rest one other later.0 too.0 req later.1 too.1 in
    (same.0, by_first (is_of_session one s) refl later too same))
    (listed (is_of_session other s) (first, s) (those_of (first + 1) rest other) behind req there))
    (listed (is_of_session one s) (first, s) (those_of (first + 1) rest one) place req is)
  where
    by_first : (b : Bool) → is_of_session one s ≡ b → (later : IsLater (is_of_session one s) (numbers_from (first + 1) rest one) place req)
        → (too : IsLater (is_of_session other s) (numbers_from (first + 1) rest other) behind req)
        → (one ≡ other) × (later.0 ≡ too.0) → place ≡ behind
    by_first true takes later too same =
        later.2 takes ∙ ap (λ (n : ℕ). n + 1) same.1 ∙ sym (too.2 (ap (λ (k : ℕ). is_of_session k s) (sym same.0) ∙ takes))
    by_first false takes later too same =
        later.3 takes ∙ same.1 ∙ sym (too.3 (ap (λ (k : ℕ). is_of_session k s) (sym same.0) ∙ takes))
