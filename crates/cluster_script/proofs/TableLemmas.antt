-- Tables: entries that are all the same, one per number, and those of the requests.
use Rattle.std.proofs.Common.{◌≡◌, ℕ, zero, suc, ◌+◌, ◌-◌, ◌<◌, ◌≤◌, Bool, true, false, List, [], ◌∷◌, ◌++◌, length, drop, get_or, replicate, refl, sym, ap, ◌∙◌, arith, drop-cons, if◌then◌else◌}
use Rattle.std.specs.Prelude.{map, unwrap_or}
use Rattle.std.specs.List.{range_with_len}
use Rattle.std.proofs.lemmas.List.{map-append}
use Rattle.proof_tools.proofs.Lists.{range_with_len-append}
use Rattle.cluster_script.specs.declared.statement.Statement.{Statement}
use Rattle.cluster_script.specs.declared.request_entry.RequestEntry.{RequestEntry}
use Rattle.cluster_script.specs.Statements.{is_request}
use Rattle.cluster_script.specs.Settings.{zone_set, zone_of}
use Rattle.cluster_script.specs.KeptIndex.{phase_after, request_entries}

-- within and behind a table of one entry there is that entry
pub get_or-same : {X : Type 0} (count k : ℕ) (x : X) → get_or (replicate count x) k x ≡ x
get_or-same zero k x = refl
get_or-same (suc count) zero x = refl
get_or-same (suc count) (suc k) x = get_or-same count k x

-- one number more
pub map-more : {X : Type 0} (f : ℕ → X) (count : ℕ) (x : X) → x ≡ f (count + 1)
    → map f (range_with_len 1 count) ++ x ∷ [] ≡ map f (range_with_len 1 (count + 1))
map-more f count x is =
    let e : count + 1 ≡ 1 + count = omega arith in
    ap (λ y. map f (range_with_len 1 count) ++ y ∷ []) (is ∙ ap f e)
    ∙ sym (map-append f (range_with_len 1 count) (range_with_len (1 + count) 1))
    ∙ ap (map f) (range_with_len-append 1 count 1)

-- one statement more in front sets a zone, or leaves it
pub zone-step : (statements : List Statement) (count node : ℕ) (s : Statement) → count < length statements
    → s ≡ get_or statements (length statements - 1 - count) s
    → unwrap_or (zone_set node s) (zone_of (drop (length statements - count) statements) node)
    ≡ zone_of (drop (length statements - (count + 1)) statements) node
zone-step statements count node s within is =
    let at : ℕ = length statements - 1 - count in
    let before : length statements - (count + 1) ≡ at = omega (arith, within) in
    let behind : suc at ≡ length statements - count = omega (arith, within) in
    let below : at < length statements = omega (arith, within) in
    sym (ap (λ k. zone_of (drop k statements) node) before
    ∙ ap (λ xs. zone_of xs node) (drop-cons statements at s below)
    ∙ ap (λ k. unwrap_or (zone_set node (get_or statements at s)) (zone_of (drop k statements) node)) behind
    ∙ ap (λ x. unwrap_or (zone_set node x) (zone_of (drop (length statements - count) statements) node)) (sym is))

-- there are no more entries than statements
pub few-entries : (place phase : ℕ) (statements : List Statement) → length (request_entries place phase statements) ≤ length statements
few-entries place phase [] = omega arith
few-entries place phase (s ∷ rest) = go (is_request s) _ (few-entries (place + 1) (phase_after phase s) rest)
  where
    go : (asked : Bool) (entry : RequestEntry) → length (request_entries (place + 1) (phase_after phase s) rest) ≤ length rest
        → length ((if asked then entry ∷ [] else []) ++ request_entries (place + 1) (phase_after phase s) rest) ≤ length (s ∷ rest)
    go true entry few = omega (arith, few)
    go false entry few = omega (arith, few)
