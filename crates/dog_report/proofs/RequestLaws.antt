-- What the readers of a script tell of a request without line: its phase, whether its gateway is lost, and whether it was started.
use Rattle.std.proofs.Common.{◌≡◌, ℕ, zero, suc, ◌+◌, ◌-◌, ◌<◌, ◌≤◌, ◌==◌, nat_le, Bool, true, false, not, cond, ◌||◌, List, [], ◌∷◌, length, take, map}
use Rattle.std.proofs.Common.{Option, Some, None, is_some, refl, sym, ap, ◌∙◌, arith}
use Rattle.std.specs.Prelude.{slice_get, filter, count_by, unwrap_or}
use Rattle.std.specs.List.{list_any, range_with_len, position_or_len}
use Rattle.std.specs.Option.{option_map, option_map_or, option_and_then}
use Rattle.std.proofs.lemmas.Bool.{false≢true, eqb-true, eqb-false, eq-eqb, ne_eqb, leb-true, leb-false, le-leb, lt-leb}
use Rattle.std.proofs.lemmas.Option.{none-some, same_Some, slice_get-get_or, slice_get_within}
use Rattle.cluster_script.specs.declared.statement.Statement.{Statement}
use Rattle.cluster_script.specs.declared.statement.Statement.TheVariants.{Settle}
use Rattle.cluster_script.specs.Statements.{is_request, is_setting, requests_of}
use Rattle.cluster_script.specs.NumberedRequests.{session_of, is_of_session, request_at, numbers_of_session}
use Rattle.cluster_script.specs.Phases.{stretches, phase_from, phases_from, has_request, phase_of_request}
use Rattle.cluster_script.specs.Sessions.{ScriptSession, session_numbered}
use Rattle.cluster_script.specs.Index.{IndexedRequest, script_index, indexed_at, indexed_request}
use Rattle.cluster_script.proofs.IndexLemmas.{indexed_at-request_at}
use Rattle.cluster_script.proofs.PhaseLaws.{session_of-there}
use Rattle.sheep_world.specs.World.{World, progress_at}
use Rattle.sheep_world.specs.Asking.{session_asking}
use Rattle.sheep_world.specs.Incarnations.{is_session_gone}
use Rattle.sheep_world.proofs.AskedInputs.{request_is}
use Rattle.sheep_world.proofs.SessionNumbers.{those_of, numbers_from}
use Rattle.dog_report.specs.Report.{is_lost_request, has_begun, is_begun}
use Rattle.dog_report.specs.Settling.{is_phase_begun, is_session_lost, is_among_first}

-- ---- the phases of requests ascend

-- a number in a row is below its end, and one behind its first that isn't in it is behind its end
row-below : (number first count : ℕ) → list_any (λ other. other == number) (range_with_len first count) ≡ true → number < first + count
row-below number first zero within = absurd (false≢true within)
row-below number first (suc count) within = go (first == number) refl within (row-below number (first + 1) count)
  where
    go : (here : Bool) → (first == number) ≡ here → (here || list_any (λ other. other == number) (range_with_len (first + 1) count)) ≡ true
        → (list_any (λ other. other == number) (range_with_len (first + 1) count) ≡ true → number < (first + 1) + count)
        → number < first + suc count
    go true is within later = let same : first ≡ number = eqb-true first number is in omega (arith, same)
    go false is within later = let below : number < (first + 1) + count = later within in omega (arith, below)

row-behind : (number first count : ℕ) → list_any (λ other. other == number) (range_with_len first count) ≡ false → first ≤ number
    → first + count ≤ number
row-behind number first zero apart from = omega (arith, from)
row-behind number first (suc count) apart from = go (first == number) refl apart (row-behind number (first + 1) count)
  where
    go : (here : Bool) → (first == number) ≡ here → (here || list_any (λ other. other == number) (range_with_len (first + 1) count)) ≡ false
        → (list_any (λ other. other == number) (range_with_len (first + 1) count) ≡ false → first + 1 ≤ number → (first + 1) + count ≤ number)
        → first + suc count ≤ number
    go true is apart later = absurd (false≢true (sym apart))
    go false is apart later =
        let above : first + 1 ≤ number = omega (arith, from, eqb-false first number is) in
        let behind : (first + 1) + count ≤ number = later apart above in omega (arith, behind)

abbrev place_among : ℕ → ℕ → List (List Statement) → ℕ
place_among number first parts = position_or_len (has_request number) (phases_from first parts)

-- how many requests are among statements
abbrev asked_in : List Statement → ℕ
asked_in statements = count_by is_request statements

-- the phase of a request is there, or behind that of an earlier one
places-ascend : (number other first : ℕ) (parts : List (List Statement)) → first ≤ number → number ≤ other
    → place_among number first parts ≤ place_among other first parts
places-ascend number other first [] from before = omega arith
places-ascend number other first (stretch ∷ rest) from before =
    by_place (has_request number (phase_from first stretch)) (has_request other (phase_from first stretch)) refl refl
    (λ (behind : first + asked_in stretch ≤ number). places-ascend number other (first + asked_in stretch) rest behind before)
  where
    by_place : (here there : Bool) → has_request number (phase_from first stretch) ≡ here → has_request other (phase_from first stretch) ≡ there
        → (first + asked_in stretch ≤ number → place_among number (first + asked_in stretch) rest ≤ place_among other (first + asked_in stretch) rest)
        → cond (not here) (1 + place_among number (first + asked_in stretch) rest) 0
        ≤ cond (not there) (1 + place_among other (first + asked_in stretch) rest) 0
    by_place true there is too later = omega arith
    by_place false true is too later =
        let behind : first + asked_in stretch ≤ number = row-behind number first (asked_in stretch) is from in
        let below : other < first + asked_in stretch = row-below other first (asked_in stretch) too in
        absurd (omega (arith, behind, below, before))
    by_place false false is too later =
        let rest_ascends : place_among number (first + asked_in stretch) rest ≤ place_among other (first + asked_in stretch) rest
        = later (row-behind number first (asked_in stretch) is from) in
        omega (arith, rest_ascends)

module _ (statements : List Statement) where
  -- what the index has of a request, by its statement
  abbrev of_statement : ℕ → Option Statement → Option IndexedRequest
  of_statement number found = option_map (λ s. indexed_request statements (number, s)) found

  abbrev begun_by : ℕ → Option IndexedRequest → Bool
  begun_by phase found = option_map_or (λ (request : IndexedRequest). nat_le request.phase phase) found false

  -- the phase of a request has begun where its place isn't behind the present one
  pub phase_begun-is : (phase number : ℕ) → 1 ≤ number → number ≤ length (requests_of statements)
      → is_phase_begun statements phase number ≡ nat_le (phase_of_request statements number) phase
  phase_begun-is phase zero from within = absurd (omega (arith, from))
  phase_begun-is phase (suc place) from within =
      ap (begun_by phase) (indexed_at-request_at statements (suc place)
      ∙ ap (of_statement (suc place)) (slice_get-get_or (requests_of statements) place Settle (omega (arith, within))))

  -- there is a request of a number whose phase has begun
  pub begun-within : (phase number : ℕ) → is_phase_begun statements phase number ≡ true → number ≤ length (requests_of statements)
  begun-within phase zero begun = omega arith
  begun-within phase (suc place) begun = by_request (slice_get (requests_of statements) place) refl
    where
      by_request : (found : Option Statement) → slice_get (requests_of statements) place ≡ found → suc place ≤ length (requests_of statements)
      by_request None none = absurd (false≢true
          (sym (ap (begun_by phase) (indexed_at-request_at statements (suc place) ∙ ap (of_statement (suc place)) none)) ∙ begun))
      by_request (Some s) there =
          let within : place < length (requests_of statements) = slice_get_within (requests_of statements) place s there in
          omega (arith, within)

  -- where the phase of a request hasn't begun, that of no later one has
  pub not_begun-later : (phase next number : ℕ) → 1 ≤ next → is_phase_begun statements phase next ≡ false → next ≤ number
      → number ≤ length (requests_of statements) → nat_le (phase_of_request statements number) phase ≡ false
  not_begun-later phase next number first not_begun behind within =
      let here : nat_le (phase_of_request statements next) phase ≡ false
      = sym (phase_begun-is phase next first (omega (arith, behind, within))) ∙ not_begun in
      let above : phase < phase_of_request statements next = leb-false (phase_of_request statements next) phase here in
      let ascends : phase_of_request statements next ≤ phase_of_request statements number
      = places-ascend next number 1 (stretches (filter (λ s. not (is_setting s)) statements)) first behind in
      lt-leb (phase_of_request statements number) phase (omega (arith, above, ascends))

  -- ---- whether there is a request

  abbrev is_there : Option IndexedRequest → Bool
  is_there found = is_some found

  pub there-within : (number : ℕ) → is_some (indexed_at (script_index statements) number) ≡ true
      → (1 ≤ number) × (number ≤ length (requests_of statements))
  there-within zero there = absurd (false≢true there)
  there-within (suc place) there = (omega arith, by_request (slice_get (requests_of statements) place) refl)
    where
      by_request : (found : Option Statement) → slice_get (requests_of statements) place ≡ found → suc place ≤ length (requests_of statements)
      by_request None none = absurd (false≢true
          (sym (ap is_there (indexed_at-request_at statements (suc place) ∙ ap (of_statement (suc place)) none)) ∙ there))
      by_request (Some s) is =
          let within : place < length (requests_of statements) = slice_get_within (requests_of statements) place s is in
          omega (arith, within)

  pub there-none : (number : ℕ) → 1 ≤ number → is_some (indexed_at (script_index statements) number) ≡ false
      → length (requests_of statements) < number
  there-none zero from none = absurd (omega (arith, from))
  there-none (suc place) from none = by_order (nat_le (suc place) (length (requests_of statements))) refl
    where
      by_order : (b : Bool) → nat_le (suc place) (length (requests_of statements)) ≡ b → length (requests_of statements) < suc place
      by_order true is =
          let within : suc place ≤ length (requests_of statements) = leb-true (suc place) (length (requests_of statements)) is in
          absurd (false≢true (sym none ∙ ap is_there (indexed_at-request_at statements (suc place)
          ∙ ap (of_statement (suc place)) (slice_get-get_or (requests_of statements) place Settle (omega (arith, within))))))
      by_order false is = leb-false (suc place) (length (requests_of statements)) is

  -- ---- the session that asks

  own_session : (asking : Option ℕ) → is_some asking ≡ true → asking ≡ Some (unwrap_or asking 0)
  own_session None none = absurd (false≢true none)
  own_session (Some session) there = refl

  -- a request in the index is a statement of the script, and its session asks
  pub asking-indexed : (number : ℕ) (request : IndexedRequest) → indexed_at (script_index statements) number ≡ Some request
      → (request_at statements number ≡ Some request.statement) × (session_of request.statement ≡ Some request.session)
  asking-indexed number request is = by_statement (request_at statements number) refl
    where
      by_statement : (found : Option Statement) → request_at statements number ≡ found
          → (request_at statements number ≡ Some request.statement) × (session_of request.statement ≡ Some request.session)
      by_statement None none =
          absurd (none-some request (sym (ap (of_statement number) none) ∙ sym (indexed_at-request_at statements number) ∙ is))
      by_statement (Some s) there =
          let same : indexed_request statements (number, s) ≡ request
          = same_Some (indexed_request statements (number, s)) request
          (sym (ap (of_statement number) there) ∙ sym (indexed_at-request_at statements number) ∙ is) in
          let line : s ≡ request.statement = ap (λ (r : IndexedRequest). r.statement) same in
          let session : unwrap_or (session_of s) 0 ≡ request.session = ap (λ (r : IndexedRequest). r.session) same in (
            there ∙ ap (λ (s : Statement). Some s) line,
            ap session_of (sym line) ∙ own_session (session_of s) (session_of-there s ∙ request_is statements number s there)
                ∙ ap (λ (n : ℕ). Some n) session,
          )

  pub session-indexed : (number : ℕ) (request : IndexedRequest) → indexed_at (script_index statements) number ≡ Some request
      → session_asking statements number ≡ Some request.session
  session-indexed number request is =
      let asks = asking-indexed number request is in ap (option_and_then session_of) asks.0 ∙ asks.1

  pub session-none : (number : ℕ) → indexed_at (script_index statements) number ≡ None → session_asking statements number ≡ None
  session-none number none = by_statement (request_at statements number) refl
    where
      by_statement : (found : Option Statement) → request_at statements number ≡ found → session_asking statements number ≡ None
      by_statement None is = ap (option_and_then session_of) is
      by_statement (Some s) is =
          absurd (none-some (indexed_request statements (number, s))
          (sym none ∙ indexed_at-request_at statements number ∙ ap (of_statement number) is))

  -- ---- whether its gateway is lost

  abbrev lost_by : World → Option ℕ → Bool
  lost_by world asking =
      option_map_or (λ (session : ScriptSession). is_session_gone session world) (option_and_then (session_numbered statements) asking) false

  pub lost-indexed : (number : ℕ) (request : IndexedRequest) (world : World) → indexed_at (script_index statements) number ≡ Some request
      → is_session_lost statements world request.session ≡ is_lost_request statements number world
  lost-indexed number request world is = sym (ap (lost_by world) (session-indexed number request is))

  pub lost-none : (number : ℕ) (world : World) → indexed_at (script_index statements) number ≡ None
      → false ≡ is_lost_request statements number world
  lost-none number world none = sym (ap (lost_by world) (session-none number none))

-- ---- whether it was started

-- numbers ascend, from one on
abbrev AreFrom : ℕ → List ℕ → Type 0
AreFrom least [] = Unit {0}
AreFrom least (number ∷ later) = (least ≤ number) × AreFrom (number + 1) later

from-weaker : (least lower : ℕ) (numbers : List ℕ) → lower ≤ least → AreFrom least numbers → AreFrom lower numbers
from-weaker least lower [] below are = tt
from-weaker least lower (number ∷ later) below are = (let from : least ≤ number = are.0 in omega (arith, below, from), are.1)

from-at : (least : ℕ) (numbers : List ℕ) (place number : ℕ) → AreFrom least numbers → slice_get numbers place ≡ Some number → least ≤ number
from-at least [] place number are is = absurd (none-some number is)
from-at least (first ∷ later) zero number are is =
    let same : first ≡ number = same_Some first number is in
    let from : least ≤ first = are.0 in omega (arith, same, from)
from-at least (first ∷ later) (suc place) number are is =
    let above : first + 1 ≤ number = from-at (first + 1) later place number are.1 is in
    let from : least ≤ first = are.0 in omega (arith, above, from)

numbers-from : (first : ℕ) (requests : List Statement) (session : ℕ) → AreFrom first (numbers_from first requests session)
numbers-from first [] session = tt
numbers-from first (s ∷ rest) session = go (is_of_session session s) (numbers-from (first + 1) rest session)
  where
    go : (b : Bool) → AreFrom (first + 1) (numbers_from (first + 1) rest session)
        → AreFrom first (map (λ (request : ℕ × Statement). request.0)
        (cond b ((first, s) ∷ those_of (first + 1) rest session) (those_of (first + 1) rest session)))
    go true later = (omega arith, later)
    go false later = from-weaker (first + 1) first (numbers_from (first + 1) rest session) (omega arith) later

-- a request of a session stands at a place of its numbers
standing-number : (first : ℕ) (requests : List Statement) (session place : ℕ) (s : Statement) → slice_get requests place ≡ Some s
    → is_of_session session s ≡ true → (at : ℕ) × (slice_get (numbers_from first requests session) at ≡ Some (first + place))
standing-number first [] session place s there own = absurd (none-some s there)
standing-number first (other ∷ rest) session zero s there own =
    let taken : is_of_session session other ≡ true = ap (is_of_session session) (same_Some other s there) ∙ own in
    let number : first ≡ first + 0 = omega arith in (
      0,
      ap (λ (b : Bool). slice_get (map (λ (request : ℕ × Statement). request.0)
          (cond b ((first, other) ∷ those_of (first + 1) rest session) (those_of (first + 1) rest session))) 0) taken
          ∙ ap (λ (n : ℕ). Some n) number,
    )
standing-number first (other ∷ rest) session (suc place) s there own =
    go (is_of_session session other) (standing-number (first + 1) rest session place s there own)
  where
    go : (b : Bool) → (at : ℕ) × (slice_get (numbers_from (first + 1) rest session) at ≡ Some ((first + 1) + place))
        → (at : ℕ) × (slice_get (map (λ (request : ℕ × Statement). request.0)
        (cond b ((first, other) ∷ those_of (first + 1) rest session) (those_of (first + 1) rest session))) at ≡ Some (first + suc place))
    go true later =
        let number : (first + 1) + place ≡ first + suc place = omega arith in (suc later.0, later.1 ∙ ap (λ (n : ℕ). Some n) number)
    go false later =
        let number : (first + 1) + place ≡ first + suc place = omega arith in (later.0, later.1 ∙ ap (λ (n : ℕ). Some n) number)

-- whether a number is among the first ones of a list, by the last of these
abbrev is_up_to : Option ℕ → ℕ → Bool
is_up_to last number = option_map_or (λ last. nat_le number last) last true

abbrev is_in : ℕ → List ℕ → Bool
is_in number numbers = list_any (λ other. other == number) numbers

-- of ascending numbers, one is among the first ones where it isn't above the last of these
among-first : (least : ℕ) (numbers : List ℕ) (at before number : ℕ) → AreFrom least numbers → slice_get numbers at ≡ Some number
    → is_up_to (slice_get numbers before) number ≡ is_in number (take (suc before) numbers)
among-first least [] at before number are is = absurd (none-some number is)
among-first least (first ∷ later) zero zero number are is =
    let same : first ≡ number = same_Some first number is in
    let order : number ≤ first = omega (arith, same) in
    le-leb number first order ∙ sym (ap (λ b. b || is_in number []) (eq-eqb first number same))
among-first least (first ∷ later) zero (suc before) number are is = by_last (slice_get later before) refl
  where
    same : first ≡ number
    same = same_Some first number is

    here : is_in number (take (suc (suc before)) (first ∷ later)) ≡ true
    here = ap (λ b. b || is_in number (take (suc before) later)) (eq-eqb first number same)

    by_last : (last : Option ℕ) → slice_get later before ≡ last
        → is_up_to last number ≡ is_in number (take (suc (suc before)) (first ∷ later))
    by_last None none = sym here
    by_last (Some last) there =
        let above : first + 1 ≤ last = from-at (first + 1) later before last are.1 there in
        let is_first : first ≡ number = same in
        le-leb number last (omega (arith, above, is_first)) ∙ sym here
among-first least (first ∷ later) (suc at) zero number are is =
    let above : first + 1 ≤ number = from-at (first + 1) later at number are.1 is in
    lt-leb number first (omega (arith, above))
    ∙ sym (ap (λ b. b || is_in number []) (ne_eqb first number (λ same. omega (arith, above, same))))
among-first least (first ∷ later) (suc at) (suc before) number are is =
    let above : first + 1 ≤ number = from-at (first + 1) later at number are.1 is in
    among-first (first + 1) later at before number are.1 is
    ∙ sym (ap (λ b. b || is_in number (take (suc before) later)) (ne_eqb first number (λ same. omega (arith, above, same))))

module _ (statements : List Statement) where
  of_session : (session : ℕ) (s : Statement) → session_of s ≡ Some session → is_of_session session s ≡ true
  of_session session s is = ap (λ (of : Option ℕ). option_map_or (λ number. number == session) of false) is ∙ eq-eqb session session refl

  -- a request stands among the numbers of the session that asks it
  numbered : (session number : ℕ) (s : Statement) → request_at statements number ≡ Some s → session_of s ≡ Some session
      → (at : ℕ) × (slice_get (numbers_of_session statements session) at ≡ Some number)
  numbered session zero s there asks = absurd (none-some s there)
  numbered session (suc place) s there asks =
      let at = standing-number 1 (requests_of statements) session place s there (of_session session s asks) in
      let number : 1 + place ≡ suc place = omega arith in (at.0, at.1 ∙ ap (λ (n : ℕ). Some n) number)

  among-is : (session begun number : ℕ) (s : Statement) → request_at statements number ≡ Some s → session_of s ≡ Some session
      → is_among_first statements session begun number ≡ is_in number (take begun (numbers_of_session statements session))
  among-is session zero number s there asks = refl
  among-is session (suc before) number s there asks =
      let at = numbered session number s there asks in
      let last : (suc before - 1) ≡ before = omega arith in
      ap (λ (b : Bool). cond b false (is_up_to (slice_get (numbers_of_session statements session) (suc before - 1)) number))
      (ne_eqb (suc before) 0 (λ none. omega (arith, none)))
      ∙ ap (λ (n : ℕ). is_up_to (slice_get (numbers_of_session statements session) n) number) last
      ∙ among-first 1 (numbers_of_session statements session) at.0 before number (numbers-from 1 (requests_of statements) session) at.1

  -- a request was started where it isn't above the last that its session has started
  pub begun-indexed : (number begun : ℕ) (request : IndexedRequest) (world : World)
      → indexed_at (script_index statements) number ≡ Some request → begun ≡ (progress_at request.session world).begun
      → is_among_first statements request.session begun number ≡ is_begun statements number world
  begun-indexed number begun request world is so_many =
      let asks = asking-indexed statements number request is in
      ap (λ (n : ℕ). is_among_first statements request.session n number) so_many
      ∙ among-is request.session (progress_at request.session world).begun number request.statement asks.0 asks.1
      ∙ sym (ap (λ (asking : Option ℕ). option_map_or (has_begun statements number world) asking false)
      (session-indexed statements number request is))

  pub begun-none : (number : ℕ) (world : World) → indexed_at (script_index statements) number ≡ None → false ≡ is_begun statements number world
  begun-none number world none =
      sym (ap (λ (asking : Option ℕ). option_map_or (has_begun statements number world) asking false) (session-none statements number none))
