use Rattle.std.proofs.Common.{◌≡◌, ℕ, ◌<◌, ◌≤◌, List, length, get_or, is_some, true, false, ap, sym, subst, ◌∙◌}
use Rattle.recovery.specs.Kept.{node_of}
use Rattle.recovery.proofs.FlightLemmas.{Sent, found-at, stays, without-one}
use Rattle.recovery.proofs.in_flight.remove.Goals as goal

abbrev none : Sent
none = (0, record { 0 = 0 })

pub remove-requires : goal.remove-requires
remove-requires c =
    let sent : List Sent = c.args.sent.now.items in
    let place : ℕ = c.place_of-place.result in
    let same : c.as_slice.result.now ≡ sent = c.as_slice.ensures.value in
    let low : (k : ℕ) → k < place → (get_or sent k none).0 < c.args.number
    = λ k below. subst (λ (xs : List Sent). (get_or xs k none).0 < c.args.number) same (c.place_of-place.ensures.before k none below) in
    let high : (k : ℕ) → place ≤ k → k < length sent → c.args.number ≤ (get_or sent k none).0
    = λ k from within. subst (λ (xs : List Sent). c.args.number ≤ (get_or xs k none).0) same
    (c.place_of-place.ensures.behind k none from (subst (λ (xs : List Sent). k < length xs) (sym same) within)) in
    let some : is_some (node_of c.args.number sent) ≡ true
    = sym (ap is_some (c.find.ensures ∙ ap (node_of c.args.number) c.as_slice-2.ensures.value)) ∙ sym c.is_some.ensures ∙ c.if-is_some.true in
    let found = found-at c.args.number place sent none low high c.requires some in
    subst (λ (n : ℕ). place < n) c.as_slice.ensures.len (subst (λ (xs : List Sent). place < length xs) (sym same) found.0)

pub returns-then-is_some : goal.returns-then-is_some
returns-then-is_some c =
    let sent : List Sent = c.args.sent.now.items in
    let place : ℕ = c.place_of-place.result in
    let same : c.as_slice.result.now ≡ sent = c.as_slice.ensures.value in
    let low : (k : ℕ) → k < place → (get_or sent k none).0 < c.args.number
    = λ k below. subst (λ (xs : List Sent). (get_or xs k none).0 < c.args.number) same (c.place_of-place.ensures.before k none below) in
    let high : (k : ℕ) → place ≤ k → k < length sent → c.args.number ≤ (get_or sent k none).0
    = λ k from within. subst (λ (xs : List Sent). c.args.number ≤ (get_or xs k none).0) same
    (c.place_of-place.ensures.behind k none from (subst (λ (xs : List Sent). k < length xs) (sym same) within)) in
    let some : is_some (node_of c.args.number sent) ≡ true
    = sym (ap is_some (c.find.ensures ∙ ap (node_of c.args.number) c.as_slice-2.ensures.value)) ∙ sym c.is_some.ensures ∙ c.if-is_some.true in
    let found = found-at c.args.number place sent none low high c.requires some in
    c.remove.ensures.items ∙ sym (without-one c.args.number place sent none low high c.requires found.0 found.1)

pub returns-else-is_some : goal.returns-else-is_some
returns-else-is_some c =
    let sent : List Sent = c.args.sent.now.items in
    let place : ℕ = c.place_of-place.result in
    let same : c.as_slice.result.now ≡ sent = c.as_slice.ensures.value in
    let low : (k : ℕ) → k < place → (get_or sent k none).0 < c.args.number
    = λ k below. subst (λ (xs : List Sent). (get_or xs k none).0 < c.args.number) same (c.place_of-place.ensures.before k none below) in
    let high : (k : ℕ) → place ≤ k → k < length sent → c.args.number ≤ (get_or sent k none).0
    = λ k from within. subst (λ (xs : List Sent). c.args.number ≤ (get_or xs k none).0) same
    (c.place_of-place.ensures.behind k none from (subst (λ (xs : List Sent). k < length xs) (sym same) within)) in
    let lacks : is_some (node_of c.args.number sent) ≡ false
    = sym (ap is_some (c.find.ensures ∙ ap (node_of c.args.number) c.as_slice-2.ensures.value)) ∙ sym c.is_some.ensures ∙ c.if-is_some.false in
    sym (stays c.args.number place sent none low high c.requires lacks)
