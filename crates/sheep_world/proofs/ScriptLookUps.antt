-- What the readers of a script tell of a request, in the words of the world.
use Rattle.std.proofs.Common.{◌≡◌, ◌≢◌, ℕ, zero, suc, ◌+◌, ◌<◌, ◌≤◌, ◌==◌, Bool, true, false, not, cond, ◌||◌}
use Rattle.std.proofs.Common.{List, [], ◌∷◌, ◌++◌, append_assoc, replicate, take, ◌-◌, ◌/◌, ◌%◌, length, get_or, Option, Some, None, refl, ap, ap₂, sym, ◌∙◌, arith}
use Rattle.std.specs.Prelude.{◌^◌, filter, slice_get, unwrap_or, is_some, flat_map, IfSome}
use Rattle.std.specs.List.{list_any, range_with_len, position_or_len}
use Rattle.std.specs.Option.{option_map, option_and_then}
use Rattle.std.proofs.lemmas.Bool.{false≢true, ne_eqb}
use Rattle.std.proofs.lemmas.List.{length-map, append-nil, replicate-append-replicate, take_all}
use Rattle.std.proofs.lemmas.List.Folds.{list_any-append}
use Rattle.std.proofs.lemmas.List.FromFn.{length-enumerate_from, length-map-range_with_len, map-range_with_len_more}
use Rattle.std.proofs.lemmas.Option.{none-some, same_Some, slice_get-get_or, slice_get_within}
use Rattle.object_id.specs.declared.limits.TheConstants.{BLOCK_BYTES, INPUT_BYTES_MAX}
use Rattle.cluster_script.specs.declared.statement.Pattern.{Pattern}
use Rattle.cluster_script.specs.declared.statement.Statement.{Statement}
use Rattle.cluster_script.specs.declared.statement.Statement.TheVariants.{Settle}
use Rattle.cluster_script.specs.Statements.{is_request, requests_of}
use Rattle.cluster_script.specs.NumberedRequests.{session_of, is_of_session, request_at, numbered_requests}
use Rattle.cluster_script.specs.NumberedRequests.{numbers_of_session, byte_of, payload_of}
use Rattle.cluster_script.specs.Phases.{Phase, phases_of, has_request, phase_of_request}
use Rattle.cluster_script.specs.Index.{IndexedRequest, script_index, indexed_at, indexed_request}
use Rattle.cluster_script.proofs.IndexLemmas.{indexed_at-request_at}
use Rattle.cluster_script.proofs.PhaseLaws.{session_of-there, phases-numbers}
use Rattle.sheep_world.specs.Asking.{ask_of_statement, input_by, input_of, session_asking}
use Rattle.sheep_world.proofs.AskedInputs.{request_is}

-- the session of a request has a number
own_session : (asking : Option ℕ) → is_some asking ≡ true → Some (unwrap_or asking 0) ≡ asking
own_session None none = absurd (false≢true none)
own_session (Some session) there = refl

-- the statement that the index has of a request is the request
pub statement-indexed_at : (statements : List Statement) (req : ℕ)
    → option_map (λ (request : IndexedRequest). request.statement) (indexed_at (script_index statements) req) ≡ request_at statements req
statement-indexed_at statements req =
    ap (option_map (λ (request : IndexedRequest). request.statement)) (indexed_at-request_at statements req)
    ∙ go (request_at statements req)
  where
    go : (found : Option Statement)
        → option_map (λ (request : IndexedRequest). request.statement) (option_map (λ s. indexed_request statements (req, s)) found) ≡ found
    go None = refl
    go (Some s) = refl

-- the session that the index has of a request is the one that asks it
pub session-indexed_at : (statements : List Statement) (req : ℕ)
    → option_map (λ (request : IndexedRequest). request.session) (indexed_at (script_index statements) req) ≡ session_asking statements req
session-indexed_at statements req =
    ap (option_map (λ (request : IndexedRequest). request.session)) (indexed_at-request_at statements req)
    ∙ go (request_at statements req) refl
  where
    go : (found : Option Statement) → request_at statements req ≡ found
        → option_map (λ (request : IndexedRequest). request.session) (option_map (λ s. indexed_request statements (req, s)) found)
        ≡ option_and_then session_of found
    go None at = refl
    go (Some s) at = own_session (session_of s) (session_of-there s ∙ request_is statements req s at)

-- what the index has of a request, where it has something, is of a statement of the script
pub record IsOfRequest (statements : List Statement) (req : ℕ) (request : IndexedRequest) : Type 0 where
  pub stands : request_at statements req ≡ Some request.statement
  pub session : session_of request.statement ≡ Some request.session
  pub phase : phase_of_request statements req ≡ request.phase

pub request-indexed_at : (statements : List Statement) (req : ℕ) (request : IndexedRequest)
    → Some request ≡ indexed_at (script_index statements) req → IsOfRequest statements req request
request-indexed_at statements req request there =
    go (request_at statements req) refl (there ∙ indexed_at-request_at statements req)
  where
    go : (found : Option Statement) → request_at statements req ≡ found
        → Some request ≡ option_map (λ s. indexed_request statements (req, s)) found → IsOfRequest statements req request
    go None at is = absurd (none-some request (sym is))
    go (Some s) at is =
        let same : request ≡ indexed_request statements (req, s) = same_Some request (indexed_request statements (req, s)) is in
        let statement : request.statement ≡ s = ap (λ (r : IndexedRequest). r.statement) same in
        let session : request.session ≡ unwrap_or (session_of s) 0 = ap (λ (r : IndexedRequest). r.session) same in
        record {
          stands = at ∙ ap Some (sym statement);
          session =
              ap session_of statement
              ∙ sym (own_session (session_of s) (session_of-there s ∙ request_is statements req s at)) ∙ ap Some (sym session);
          phase = sym (ap (λ (r : IndexedRequest). r.phase) same);
        }

-- where the index has nothing, the script has no such request
pub none-indexed_at : (statements : List Statement) (req : ℕ)
    → None ≡ indexed_at (script_index statements) req → request_at statements req ≡ None
none-indexed_at statements req none =
    sym (statement-indexed_at statements req) ∙ ap (option_map (λ (request : IndexedRequest). request.statement)) (sym none)

-- the input of a request, by its session and its statement
pub input_of-request : (statements : List Statement) (req : ℕ) (request : IndexedRequest)
    → Some request ≡ indexed_at (script_index statements) req
    → input_of statements req ≡ input_by req (Some request.session) (ask_of_statement request.statement)
input_of-request statements req request there =
    let is : IsOfRequest statements req request = request-indexed_at statements req request there in
    ap (option_and_then (λ s. input_by req (session_of s) (ask_of_statement s))) is.stands
    ∙ ap (λ session. input_by req session (ask_of_statement request.statement)) is.session

pub input_of-none : (statements : List Statement) (req : ℕ)
    → None ≡ indexed_at (script_index statements) req → input_of statements req ≡ None
input_of-none statements req none =
    ap (option_and_then (λ s. input_by req (session_of s) (ask_of_statement s))) (none-indexed_at statements req none)

-- ---- the phase of a number that no request has

-- some phase has a number where it stands among the numbers of all
any-phase : (req : ℕ) (phases : List Phase)
    → list_any (has_request req) phases ≡ list_any (λ other. other == req) (flat_map (λ (phase : Phase). phase.requests) phases)
any-phase req [] = refl
any-phase req (phase ∷ phases) =
    ap (λ b. has_request req phase || b) (any-phase req phases)
    ∙ sym (list_any-append (λ other. other == req) phase.requests (flat_map (λ (phase : Phase). phase.requests) phases))

-- a number that isn't in a row
any-row : (req first count : ℕ) → ((k : ℕ) → k < count → first + k ≢ req)
    → list_any (λ other. other == req) (range_with_len first count) ≡ false
any-row req first zero apart = refl
any-row req first (suc count) apart =
    let here : first ≢ req = λ e. apart 0 (omega arith) (let same : first + 0 ≡ req = omega (arith, e) in same) in
    ap (λ b. b || list_any (λ other. other == req) (range_with_len (first + 1) count)) (ne_eqb first req here)
    ∙ any-row req (first + 1) count
    (λ k within e. apart (suc k) (omega (arith, within)) (let same : first + suc k ≡ req = omega (arith, e) in same))

-- without one that passes, the place is behind all
place-none : {X : Type 0} (p : X → Bool) (xs : List X) → list_any p xs ≡ false → position_or_len p xs ≡ length xs
place-none p [] none = refl
place-none p (x ∷ xs) none = go (p x) (place-none p xs) none
  where
    go : (b : Bool) → (list_any p xs ≡ false → position_or_len p xs ≡ length xs) → (b || list_any p xs) ≡ false
        → cond (not b) (1 + position_or_len p xs) 0 ≡ suc (length xs)
    go true behind none = absurd (false≢true (sym none))
    go false behind none = let e : position_or_len p xs ≡ length xs = behind none in omega (arith, e)

-- a number that no request has is of no phase
pub phase_of_request-none : (statements : List Statement) (req : ℕ) → request_at statements req ≡ None
    → phase_of_request statements req ≡ length (phases_of statements)
phase_of_request-none statements req none =
    place-none (has_request req) (phases_of statements)
    (any-phase req (phases_of statements) ∙ ap (list_any (λ other. other == req)) (phases-numbers statements)
    ∙ any-row req 1 (length (requests_of statements)) (apart req none))
  where
    apart : (req : ℕ) → request_at statements req ≡ None → (k : ℕ) → k < length (requests_of statements) → 1 + k ≢ req
    apart zero none k within e = absurd (omega (arith, e))
    apart (suc place) none k within e =
        let same : k ≡ place = omega (arith, e) in
        let inside : place < length (requests_of statements) = omega (arith, same, within) in
        absurd (none-some (get_or (requests_of statements) place Settle)
        (sym none ∙ slice_get-get_or (requests_of statements) place Settle inside))

-- ---- how many requests a session has

pub filter-shorter : {X : Type 0} (p : X → Bool) (xs : List X) → length (filter p xs) ≤ length xs
filter-shorter p [] = omega arith
filter-shorter p (x ∷ xs) = go (p x) (filter-shorter p xs)
  where
    go : (b : Bool) → length (filter p xs) ≤ length xs → length (cond b (x ∷ filter p xs) (filter p xs)) ≤ suc (length xs)
    go true few = omega (arith, few)
    go false few = omega (arith, few)

few-numbers : (statements : List Statement) (session : ℕ) → length (numbers_of_session statements session) ≤ length statements
few-numbers statements session =
    omega (
      arith,
      length-map (filter (λ (request : ℕ × Statement). is_of_session session request.1) (numbered_requests statements))
          (λ (request : ℕ × Statement). request.0),
      filter-shorter (λ (request : ℕ × Statement). is_of_session session request.1) (numbered_requests statements),
      length-enumerate_from 1 (requests_of statements),
      filter-shorter is_request statements,
    )

-- where there is a next request, the count of those that were begun may grow
pub few-begun : (statements : List Statement) (session begun : ℕ) (next : Option ℕ)
    → next ≡ slice_get (numbers_of_session statements session) begun → length statements ≤ INPUT_BYTES_MAX
    → IfSome next (λ req. begun + 1 < 2 ^ 32)
few-begun statements session begun None is few = tt
few-begun statements session begun (Some req) is few =
    omega (arith, slice_get_within (numbers_of_session statements session) begun req (sym is), few-numbers statements session, few)

-- ---- the bytes of a write

module _ (pattern : Pattern) where
  -- one byte more
  payload_of-more : (place byte : ℕ) → byte ≡ byte_of pattern (place / BLOCK_BYTES)
      → payload_of pattern place ++ byte ∷ [] ≡ payload_of pattern (place + 1)
  payload_of-more place byte is =
      let next : 0 + place ≡ place = omega arith in
      ap (λ (last : ℕ). payload_of pattern place ++ last ∷ []) is
      ∙ sym (map-range_with_len_more (λ place. byte_of pattern (place / BLOCK_BYTES)) 0 place place next)

  -- more bytes of one block
  in-block : (place byte count : ℕ) → byte ≡ byte_of pattern (place / BLOCK_BYTES) → place % BLOCK_BYTES + count ≤ BLOCK_BYTES
      → payload_of pattern place ++ replicate count byte ≡ payload_of pattern (place + count)
  in-block place byte zero is within =
      let same : place ≡ place + 0 = omega arith in append-nil (payload_of pattern place) ∙ ap (payload_of pattern) same
  in-block place byte (suc count) is within =
      let fewer : place % BLOCK_BYTES + count ≤ BLOCK_BYTES = omega (arith, within) in
      let block : place / BLOCK_BYTES ≡ (place + count) / BLOCK_BYTES = omega (arith, within) in
      let more : count + 1 ≡ suc count = omega arith in
      let behind : place + count + 1 ≡ place + suc count = omega arith in
      ap (λ (n : ℕ). payload_of pattern place ++ replicate n byte) (sym more)
      ∙ ap (λ (bytes : List ℕ). payload_of pattern place ++ bytes) (sym (replicate-append-replicate count 1 byte))
      ∙ sym (append_assoc (payload_of pattern place) (replicate count byte) (byte ∷ []))
      ∙ ap (λ (bytes : List ℕ). bytes ++ byte ∷ []) (in-block place byte count is fewer)
      ∙ payload_of-more (place + count) byte (is ∙ ap (byte_of pattern) block)
      ∙ ap (payload_of pattern) behind

  -- so it is with all bytes up to the end of a block, or before it
  pub payload_of-block : (place byte count held : ℕ) (so_far : List ℕ) → byte ≡ byte_of pattern (place / BLOCK_BYTES)
      → place % BLOCK_BYTES + count ≤ BLOCK_BYTES → held ≡ place → so_far ≡ payload_of pattern place
      → take (place + count) so_far ++ replicate (place + count - held) byte ≡ payload_of pattern (place + count)
  payload_of-block place byte count held so_far is within holds was =
      let long : length so_far ≡ place = ap length was ∙ length-map-range_with_len (λ place. byte_of pattern (place / BLOCK_BYTES)) 0 place in
      let rest : place + count - held ≡ count = omega (arith, holds) in
      ap₂ (λ (front : List ℕ) (n : ℕ). front ++ replicate n byte) (take_all (place + count) so_far (omega (arith, long))) rest
      ∙ ap (λ (front : List ℕ). front ++ replicate count byte) was ∙ in-block place byte count is within
