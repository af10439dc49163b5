-- What the index of a script has at a place: a request, a session's numbers, a node's zone.
use Rattle.std.proofs.Common.{◌≡◌, ℕ, zero, suc, ◌+◌, ◌<◌, ◌≤◌, List, [], ◌∷◌, length, refl, ap, ◌∙◌, arith, Option, Some, None, ◌⊎◌, inl, inr}
use Rattle.std.specs.Prelude.{unwrap_or, slice_get}
use Rattle.std.specs.Option.{option_map}
use Rattle.std.specs.List.{range_with_len, enumerate_from}
use Rattle.std.proofs.lemmas.List.FromFn.{length-range_with_len}
use Rattle.std.proofs.lemmas.Option.{slice_get-map}
use Rattle.object_id.specs.declared.limits.TheConstants.{NODES_MAX, SESSIONS_MAX}
use Rattle.cluster_script.specs.declared.statement.Statement.{Statement}
use Rattle.cluster_script.specs.Statements.{requests_of}
use Rattle.cluster_script.specs.NumberedRequests.{request_at, numbered_requests, numbers_of_session}
use Rattle.cluster_script.specs.Settings.{zone_of}
use Rattle.cluster_script.specs.Index.{script_index, indexed_at, indexed_numbers, indexed_request}

-- at a place both lists have nothing, or a place among the statements and the statement there
abbrev pub AreTogether : ℕ → List Statement → Option ℕ → Option Statement → Type 0
AreTogether first statements place request =
    ((place ≡ None) × (request ≡ None)) ⊎ ((i : ℕ) × (place ≡ Some (first + i)) × (request ≡ slice_get statements i))

pub together-behind : (first : ℕ) (s : Statement) (rest : List Statement) (place : Option ℕ) (request : Option Statement)
    → AreTogether (first + 1) rest place request → AreTogether first (s ∷ rest) place request
together-behind first s rest place request (inl none) = inl none
together-behind first s rest place request (inr found) =
    let e : first + 1 + found.0 ≡ first + suc found.0 = omega arith in inr (suc found.0, found.1 ∙ ap Some e, found.2)

-- a numbered list, looked at
slice_get-enumerate_from : {X : Type 0} (n : ℕ) (xs : List X) (k : ℕ) → slice_get (enumerate_from n xs) k ≡ option_map (λ x. (n + k, x)) (slice_get xs k)
slice_get-enumerate_from n [] k = refl
slice_get-enumerate_from n (x ∷ xs) zero = let e : n ≡ n + 0 = omega arith in ap (λ (m : ℕ). Some (m, x)) e
slice_get-enumerate_from n (x ∷ xs) (suc k) =
    let e : n + 1 + k ≡ n + suc k = omega arith in slice_get-enumerate_from (n + 1) xs k ∙ ap (λ (m : ℕ). option_map (λ x. (m, x)) (slice_get xs k)) e

option_map-option_map : {X Y Z : Type 0} (f : X → Y) (g : Y → Z) (o : Option X) → option_map g (option_map f o) ≡ option_map (λ x. g (f x)) o
option_map-option_map f g None = refl
option_map-option_map f g (Some x) = refl

-- a request in the index is that of its number
pub indexed_at-request_at : (statements : List Statement) (number : ℕ)
    → indexed_at (script_index statements) number ≡ option_map (λ s. indexed_request statements (number, s)) (request_at statements number)
indexed_at-request_at statements zero = refl
indexed_at-request_at statements (suc k) =
    slice_get-map (indexed_request statements) (numbered_requests statements) k
    ∙ ap (option_map (indexed_request statements)) (slice_get-enumerate_from 1 (requests_of statements) k)
    ∙ option_map-option_map (λ s. (1 + k, s)) (indexed_request statements) (slice_get (requests_of statements) k)
    ∙ ap (λ (m : ℕ). option_map (λ s. indexed_request statements (m, s)) (slice_get (requests_of statements) k)) one_more
  where
    one_more : 1 + k ≡ suc k
    one_more = omega arith

-- without a request there is none in the index
pub request-none : (statements : List Statement) (number : ℕ) → request_at statements number ≡ None → indexed_at (script_index statements) number ≡ None
request-none statements number none =
    indexed_at-request_at statements number ∙ ap (option_map (λ line. indexed_request statements (number, line))) none

pub range-at : (first count k : ℕ) → k < count → slice_get (range_with_len first count) k ≡ Some (first + k)
range-at first zero k within = absurd (omega arith)
range-at first (suc count) zero within = let e : first ≡ first + 0 = omega arith in ap Some e
range-at first (suc count) (suc k) within = let e : first + 1 + k ≡ first + suc k = omega arith in range-at (first + 1) count k (omega arith) ∙ ap Some e

pub get-past : {X : Type 0} (xs : List X) (k : ℕ) → length xs ≤ k → slice_get xs k ≡ None
get-past [] k past = refl
get-past (x ∷ xs) zero past = absurd (omega arith)
get-past (x ∷ xs) (suc k) past = get-past xs k (omega arith)

pub range-past : (first count k : ℕ) → count ≤ k → slice_get (range_with_len first count) k ≡ None
range-past first count k past = get-past (range_with_len first count) k (omega (arith, past, length-range_with_len first count))

-- the index has the requests of each session, and the zone of each node
pub indexed_numbers-numbers_of_session : (statements : List Statement) (session : ℕ) → 1 ≤ session → session ≤ SESSIONS_MAX
    → indexed_numbers (script_index statements) session ≡ numbers_of_session statements session
indexed_numbers-numbers_of_session statements zero above below = absurd (omega (arith, above))
indexed_numbers-numbers_of_session statements (suc place) above below =
    let e : 1 + place ≡ suc place = omega arith in
    ap (λ found. unwrap_or found []) (slice_get-map (numbers_of_session statements) (range_with_len 1 SESSIONS_MAX) place
    ∙ ap (option_map (numbers_of_session statements)) (range-at 1 SESSIONS_MAX place (omega (arith, below)) ∙ ap Some e))

pub zones-zone_of : (statements : List Statement) (node : ℕ) → node < NODES_MAX
    → slice_get (script_index statements).zones node ≡ Some (zone_of statements node)
zones-zone_of statements node below =
    let e : 0 + node ≡ node = omega arith in
    slice_get-map (zone_of statements) (range_with_len 0 NODES_MAX) node
    ∙ ap (option_map (zone_of statements)) (range-at 0 NODES_MAX node below ∙ ap Some e)
