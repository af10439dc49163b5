-- Histories in two parts, one event more, and the first place at which one isn't legal.
use Rattle.std.proofs.Common.{◌≡◌, ℕ, zero, suc, ◌+◌, ◌<◌, ◌≤◌, ◌⊎◌, inl, inr, true, false, List, [], ◌∷◌, ◌++◌, length, take, drop, get_or, refl, sym, ap, ◌∙◌, subst, cond, rules, arith}
use Rattle.std.specs.Prelude.{Option, Some, None, IsSome}
use Rattle.std.specs.Option.{option_and_then}
use Rattle.std.proofs.lemmas.List.{take_more, take_all, take-append-drop, take-append-le, length-take-le}
use Rattle.std.proofs.lemmas.Bool.{cases_order}
use Rattle.disk_history.specs.declared.event.HistEvent.{HistEvent}
use Rattle.disk_history.specs.Ledger.{Ledger, empty_ledger, ledger_after}
use Rattle.disk_history.specs.Legal.{IsLegal, IsFirstIllegal, ledger_from, may_follow, ledger_step}

-- two steps, one after the other
and_then-both : (both first second : Ledger → Option Ledger) (reached : Option Ledger)
    → ((ledger : Ledger) → both ledger ≡ option_and_then second (first ledger))
    → option_and_then both reached ≡ option_and_then second (option_and_then first reached)
and_then-both both first second None same = refl
and_then-both both first second (Some ledger) same = same ledger

pub ledger_from-append : (ledger : Ledger) (before later : List HistEvent)
    → ledger_from ledger (before ++ later) ≡ option_and_then (λ next. ledger_from next later) (ledger_from ledger before)
ledger_from-append ledger [] later = refl
ledger_from-append ledger (event ∷ before) later =
    and_then-both (λ next. ledger_from next (before ++ later)) (λ next. ledger_from next before) (λ next. ledger_from next later)
    (ledger_step ledger event) (λ next. ledger_from-append next before later)

-- what leads on was there
and_then-some : (second : Ledger → Option Ledger) (reached : Option Ledger)
    → IsSome (option_and_then second reached) → IsSome reached
and_then-some second None there = there
and_then-some second (Some ledger) there = search rules

pub IsLegal-prefix : (before later : List HistEvent) → IsLegal (before ++ later) → IsLegal before
IsLegal-prefix before later legal =
    and_then-some (λ next. ledger_from next later) (ledger_from empty_ledger before)
    (subst (λ (reached : Option Ledger). IsSome reached) (ledger_from-append empty_ledger before later) legal)

-- ---- one event more

option_id : (found : Option Ledger) → option_and_then (λ (next : Ledger). Some next) found ≡ found
option_id None = refl
option_id (Some ledger) = refl

pub ledger_from-more : (events : List HistEvent) (place : ℕ) (event : HistEvent) (ledger : Ledger) → place < length events → event ≡ get_or events place event
    → ledger_from empty_ledger (take place events) ≡ Some ledger
    → ledger_from empty_ledger (take (place + 1) events) ≡ ledger_step ledger event
ledger_from-more events place event ledger within is so_far =
    ap (ledger_from empty_ledger) (take_more events place event within ∙ ap (λ (event : HistEvent). take place events ++ event ∷ []) (sym is))
    ∙ ledger_from-append empty_ledger (take place events) (event ∷ [])
    ∙ ap (option_and_then (λ next. ledger_from next (event ∷ []))) so_far
    ∙ option_id (ledger_step ledger event)

pub legal_on : (events : List HistEvent) (place : ℕ) (event : HistEvent) (ledger : Ledger) → place < length events → event ≡ get_or events place event
    → ledger_from empty_ledger (take place events) ≡ Some ledger → may_follow ledger event ≡ true
    → ledger_from empty_ledger (take (place + 1) events) ≡ Some (ledger_after ledger event)
legal_on events place event ledger within is so_far may =
    ledger_from-more events place event ledger within is so_far
    ∙ ap (λ b. cond b (Some (ledger_after ledger event)) None) may

pub illegal_at : (events : List HistEvent) (place : ℕ) (event : HistEvent) (ledger : Ledger) → place < length events → event ≡ get_or events place event
    → ledger_from empty_ledger (take place events) ≡ Some ledger → may_follow ledger event ≡ false
    → IsFirstIllegal events place
illegal_at events place event ledger within is so_far may_not = (
  within,
  subst (λ (reached : Option Ledger). IsSome reached) (sym so_far) (search rules),
  λ legal. let none : ledger_from empty_ledger (take (place + 1) events) ≡ None =
      ledger_from-more events place event ledger within is so_far ∙ ap (λ b. cond b (Some (ledger_after ledger event)) None) may_not in
      not_some (subst (λ (reached : Option Ledger). IsSome reached) none legal),
)
  where
    not_some : IsSome {T = Ledger} None → ⊥
    not_some there = search rules

-- ---- the first place at which a history isn't legal

IsLegal-decided : (events : List HistEvent) → IsLegal events ⊎ ¬ IsLegal events
IsLegal-decided events = go (ledger_from empty_ledger events)
  where
    go : (reached : Option Ledger) → IsSome reached ⊎ ¬ IsSome reached
    go None = inr (λ there. search rules)
    go (Some ledger) = inl (search rules)

take_none : (events : List HistEvent) → take 0 events ≡ []
take_none [] = refl
take_none (event ∷ events) = refl

judged_up_to : (events : List HistEvent) (k : ℕ) → k ≤ length events → IsLegal (take k events) ⊎ ((place : ℕ) × IsFirstIllegal events place)
judged_up_to events zero within = inl (subst IsLegal (sym (take_none events)) (search rules))
judged_up_to events (suc k) within = go (judged_up_to events k (omega (arith, within)))
  where
    at : suc k ≡ k + 1
    at = omega arith

    further : IsLegal (take k events) → IsLegal (take (k + 1) events) ⊎ ¬ IsLegal (take (k + 1) events)
        → IsLegal (take (suc k) events) ⊎ ((place : ℕ) × IsFirstIllegal events place)
    further legal (inl more) = inl (subst (λ n. IsLegal (take n events)) (sym at) more)
    further legal (inr no_more) = inr (k, (omega (arith, within), legal, no_more))

    go : IsLegal (take k events) ⊎ ((place : ℕ) × IsFirstIllegal events place) → IsLegal (take (suc k) events) ⊎ ((place : ℕ) × IsFirstIllegal events place)
    go (inl legal) = further legal (IsLegal-decided (take (k + 1) events))
    go (inr found) = inr found

pub judged : (events : List HistEvent) → IsLegal events ⊎ ((place : ℕ) × IsFirstIllegal events place)
judged events = go (judged_up_to events (length events) (omega arith))
  where
    go : IsLegal (take (length events) events) ⊎ ((place : ℕ) × IsFirstIllegal events place) → IsLegal events ⊎ ((place : ℕ) × IsFirstIllegal events place)
    go (inl legal) = inl (subst IsLegal (take_all (length events) events (omega arith)) legal)
    go (inr found) = inr found

pub first_illegal_is_illegal : (events : List HistEvent) (place : ℕ) → IsFirstIllegal events place → ¬ IsLegal events
first_illegal_is_illegal events place first legal =
    first.2 (IsLegal-prefix (take (place + 1) events) (drop (place + 1) events) (subst IsLegal (sym (take-append-drop (place + 1) events)) legal))

-- a shorter front of a legal front is legal
legal_shorter : (events : List HistEvent) (k n : ℕ) → k ≤ n → n ≤ length events → IsLegal (take n events) → IsLegal (take k events)
legal_shorter events k n shorter within legal =
    let front : take k (take n events) ≡ take k events =
    sym (take-append-le k (take n events) (drop n events) (let e : length (take n events) ≡ n = length-take-le n events within in omega (arith, e, shorter)))
    ∙ ap (take k) (take-append-drop n events) in
    subst IsLegal front (IsLegal-prefix (take k (take n events)) (drop k (take n events)) (subst IsLegal (sym (take-append-drop k (take n events))) legal))

pub one_first_illegal : (events : List HistEvent) (place other : ℕ) → IsFirstIllegal events place → IsFirstIllegal events other → place ≡ other
one_first_illegal events place other first second = go (cases_order place other)
  where
    go : (place ≡ other) ⊎ ((place < other) ⊎ (other < place)) → place ≡ other
    go (inl same) = same
    go (inr (inl below)) = absurd (first.2 (legal_shorter events (place + 1) other (omega (arith, below)) (let e = second.0 in omega (arith, e)) second.1))
    go (inr (inr above)) = absurd (second.2 (legal_shorter events (other + 1) place (omega (arith, above)) (let e = first.0 in omega (arith, e)) first.1))
