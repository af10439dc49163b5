-- The messages in flight, by their numbers.
use Rattle.std.proofs.Common.{◌≡◌, ℕ, zero, suc, ◌+◌, ◌<◌, ◌≤◌, ◌==◌, not, ◌&&◌, ◌||◌, ◌⊎◌, inl, inr, All, Bool, true, false, cond, List, [], ◌∷◌, ◌++◌, length, take, drop, map, filter, get_or, Option, None, Some, is_some, refl, ap, ap₂, sym, subst, ◌∙◌, arith, append-nil, reverse}
use Rattle.std.specs.List.{find, list_any, enumerate_from}
use Rattle.std.specs.List.Sorted.{IsStrictlyIncreasing, IsNonDecreasingBy}
use Rattle.std.specs.Option.{option_map}
use Rattle.std.proofs.lemmas.List.{length-map, get_or-map, reverse-append}
use Rattle.std.proofs.lemmas.List.Folds.{list_any-append}
use Rattle.std.proofs.lemmas.List.Elements.{All-nil, All-cons}
use Rattle.std.proofs.lemmas.List.Kept.{IsStrictlyIncreasing-filter}
use Rattle.std.proofs.lemmas.Bool.{ne_eqb, eq-eqb, cases_eq, cases_lt}
use Rattle.proof_tools.proofs.AscendingWithout.{IsNonDecreasing-from_strict}
use Rattle.proof_tools.proofs.AscendingNumbers.{IsStrictlyIncreasing-nil, IsStrictlyIncreasing-cons, IsStrictlyIncreasing-far}
use Rattle.object_id.specs.declared.node.NodeId.{NodeId}
use Rattle.recovery.specs.declared.in_flight.Asked.{Asked}
use Rattle.recovery.specs.declared.in_flight.Asked.TheVariants as asked_for
use Rattle.recovery.specs.State.{Message, message_of}
use Rattle.recovery.specs.Steps.{messages_without}
use Rattle.recovery.specs.Level.{is_of_search}
use Rattle.recovery.specs.Kept.{InFlight, sent_number, has_sent_number, node_of, sent_without, flight_without, has_others, message_to, messages_in, current_in, older_in, current_node, is_current_read, is_read_by, AscendByNumber, sent_by, sent_to, fits_asked}
use Rattle.recovery.specs.Shown.{NodeView}
use Rattle.recovery.specs.Fits.{fits_message}
use Rattle.peer_proto.specs.declared.say.PeerSay.{PeerSay}
use Rattle.peer_proto.specs.declared.say.PeerSay.TheVariants as says

abbrev pub Sent : Type 0
Sent = ℕ × NodeId

-- ---- a message is found by its number

-- at a place before which all numbers are lower, and from which on none is
found-in : (number place : ℕ) (sent : List Sent) (none : Sent) → ((k : ℕ) → k < place → (get_or sent k none).0 < number)
    → place < length sent → (get_or sent place none).0 ≡ number → find (has_sent_number number) sent ≡ Some (get_or sent place none)
found-in number place [] none low within here = absurd (omega arith)
found-in number zero (x ∷ xs) none low within here =
    ap (λ b. cond b (Some x) (find (has_sent_number number) xs)) (eq-eqb x.0 number here)
found-in number (suc place) (x ∷ xs) none low within here =
    let less = low 0 (omega arith) in
    ap (λ b. cond b (Some x) (find (has_sent_number number) xs)) (ne_eqb x.0 number (λ same. absurd (omega (arith, less, same))))
    ∙ found-in number place xs none (λ k below. low (suc k) (omega arith)) (omega arith) here

none-in : (number : ℕ) (sent : List Sent) (none : Sent) → ((k : ℕ) → k < length sent → (get_or sent k none).0 ≡ number → ⊥)
    → find (has_sent_number number) sent ≡ None
none-in number [] none apart = refl
none-in number (x ∷ xs) none apart =
    ap (λ b. cond b (Some x) (find (has_sent_number number) xs)) (ne_eqb x.0 number (apart 0 (omega arith)))
    ∙ none-in number xs none (λ k within. apart (suc k) (omega arith))

-- what is kept of messages where one of them goes, or none
none-goes : (number : ℕ) (sent : List Sent) (none : Sent) → ((k : ℕ) → k < length sent → (get_or sent k none).0 ≡ number → ⊥)
    → sent_without number sent ≡ sent
none-goes number [] none apart = refl
none-goes number (x ∷ xs) none apart =
    ap (λ b. cond (not b) (x ∷ sent_without number xs) (sent_without number xs)) (ne_eqb x.0 number (apart 0 (omega arith)))
    ∙ ap (λ rest. x ∷ rest) (none-goes number xs none (λ k within. apart (suc k) (omega arith)))

one-goes : (number place : ℕ) (sent : List Sent) (none : Sent) → ((k : ℕ) → k < place → (get_or sent k none).0 < number)
    → place < length sent → (get_or sent place none).0 ≡ number
    → ((k : ℕ) → place < k → k < length sent → number < (get_or sent k none).0)
    → sent_without number sent ≡ take place sent ++ drop (suc place) sent
one-goes number place [] none low within here high = absurd (omega arith)
one-goes number zero (x ∷ xs) none low within here high =
    ap (λ b. cond (not b) (x ∷ sent_without number xs) (sent_without number xs)) (eq-eqb x.0 number here)
    ∙ none-goes number xs none (λ k inside same. let more = high (suc k) (omega arith) (omega arith) in absurd (omega (arith, more, same)))
one-goes number (suc place) (x ∷ xs) none low within here high =
    let less = low 0 (omega arith) in
    ap (λ b. cond (not b) (x ∷ sent_without number xs) (sent_without number xs)) (ne_eqb x.0 number (λ same. absurd (omega (arith, less, same))))
    ∙ ap (λ rest. x ∷ rest) (one-goes number place xs none (λ k below. low (suc k) (omega arith)) (omega arith) here
    (λ k over inside. high (suc k) (omega arith) (omega arith)))

-- they don't fall
pub numbers-rise : (sent : List Sent) → AscendByNumber sent → IsNonDecreasingBy sent_number sent
numbers-rise sent ascend i j d most within =
    let long : length (map sent_number sent) ≡ length sent = length-map sent sent_number in
    let low : get_or (map sent_number sent) i 0 ≡ (get_or sent i d).0 = get_or-map sent_number sent i d 0 (omega (arith, most, within)) in
    let high : get_or (map sent_number sent) j 0 ≡ (get_or sent j d).0 = get_or-map sent_number sent j d 0 within in
    let up : get_or (map sent_number sent) i 0 ≤ get_or (map sent_number sent) j 0
    = IsNonDecreasing-from_strict (map sent_number sent) ascend i j 0 most (omega (arith, long, within)) in
    omega (arith, low, high, up)

-- the numbers ascend behind a place
behind-place : (place : ℕ) (sent : List Sent) (none : Sent) (k : ℕ) → AscendByNumber sent → place < k → k < length sent
    → (get_or sent place none).0 < (get_or sent k none).0
behind-place place sent none k ascend over within =
    let long : length (map sent_number sent) ≡ length sent = length-map sent sent_number in
    let far : get_or (map sent_number sent) place 0 < get_or (map sent_number sent) k 0
    = IsStrictlyIncreasing-far (map sent_number sent) place k ascend over (omega (arith, long, within)) in
    let low : get_or (map sent_number sent) place 0 ≡ (get_or sent place none).0 = get_or-map sent_number sent place none 0 (omega (arith, over, within)) in
    let high : get_or (map sent_number sent) k 0 ≡ (get_or sent k none).0 = get_or-map sent_number sent k none 0 within in
    omega (arith, far, low, high)

module _ (number place : ℕ) (sent : List Sent) (none : Sent) (low : (k : ℕ) → k < place → (get_or sent k none).0 < number)
    (high : (k : ℕ) → place ≤ k → k < length sent → number ≤ (get_or sent k none).0) (ascend : AscendByNumber sent) where
  apart-from-all : (place < length sent → (get_or sent place none).0 ≡ number → ⊥) → (k : ℕ) → k < length sent → (get_or sent k none).0 ≡ number → ⊥
  apart-from-all other k within same = elim (cases_lt k place) [
    | inl before ↦ (let less = low k before in absurd (omega (arith, less, same)))
    | inr from ↦ (elim (cases_eq k place) [
      | inl here ↦ other (omega (arith, here, within)) (ap (λ (j : ℕ). (get_or sent j none).0) (sym here) ∙ same)
      | inr more ↦ (
          let over : place < k = omega (arith, from, more) in
          let least = high place (omega arith) (omega (arith, over, within)) in
          let less = behind-place place sent none k ascend over within in
          absurd (omega (arith, least, less, same)))
    ])
  ]

  pub node-at : place < length sent → (get_or sent place none).0 ≡ number → node_of number sent ≡ Some (get_or sent place none).1
  node-at within here = ap (option_map (λ (x : Sent). x.1)) (found-in number place sent none low within here)

  pub no-node : (place < length sent → (get_or sent place none).0 ≡ number → ⊥) → node_of number sent ≡ None
  no-node other = ap (option_map (λ (x : Sent). x.1)) (none-in number sent none (apart-from-all other))

  pub without-one : place < length sent → (get_or sent place none).0 ≡ number → sent_without number sent ≡ take place sent ++ drop (suc place) sent
  without-one within here = one-goes number place sent none low within here
      (λ k over inside. let less = behind-place place sent none k ascend over inside in omega (arith, less, here))

  pub without-none : (place < length sent → (get_or sent place none).0 ≡ number → ⊥) → sent_without number sent ≡ sent
  without-none other = none-goes number sent none (apart-from-all other)

module _ (number place : ℕ) (sent : List Sent) (none : Sent) (low : (k : ℕ) → k < place → (get_or sent k none).0 < number)
    (high : (k : ℕ) → place ≤ k → k < length sent → number ≤ (get_or sent k none).0) (ascend : AscendByNumber sent) where
  place-cases : ((place < length sent) × ((get_or sent place none).0 ≡ number)) ⊎ (place < length sent → (get_or sent place none).0 ≡ number → ⊥)
  place-cases = elim (cases_lt place (length sent)) [
    | inl within ↦ (elim (cases_eq (get_or sent place none).0 number) [
      | inl here ↦ inl (within, here)
      | inr other ↦ inr (λ _ same. other same)
    ])
    | inr past ↦ inr (λ within same. absurd (omega (arith, past, within)))
  ]

  pub found-at : is_some (node_of number sent) ≡ true → (place < length sent) × ((get_or sent place none).0 ≡ number)
  found-at some = elim place-cases [
    | inl both ↦ both
    | inr other ↦ (let no = no-node number place sent none low high ascend other in absurd (cc (some, no)))
  ]

  pub stays : is_some (node_of number sent) ≡ false → sent_without number sent ≡ sent
  stays lacks = elim place-cases [
    | inl both ↦ (let at = node-at number place sent none low high ascend both.0 both.1 in absurd (cc (lacks, at)))
    | inr other ↦ without-none number place sent none low high ascend other
  ]

-- ---- numbers that are kept, and numbers upwards, ascend

numbers-without : (number : ℕ) (sent : List Sent) → map sent_number (sent_without number sent) ≡ filter (λ k. not (k == number)) (map sent_number sent)
numbers-without number [] = refl
numbers-without number (x ∷ xs) = by_test (x.0 == number) (numbers-without number xs)
  where
    by_test : (b : Bool) → map sent_number (sent_without number xs) ≡ filter (λ k. not (k == number)) (map sent_number xs)
        → map sent_number (cond (not b) (x ∷ sent_without number xs) (sent_without number xs))
        ≡ cond (not b) (x.0 ∷ filter (λ k. not (k == number)) (map sent_number xs)) (filter (λ k. not (k == number)) (map sent_number xs))
    by_test true rest = rest
    by_test false rest = ap (λ (ks : List ℕ). x.0 ∷ ks) rest

pub ascend-without : (number : ℕ) (sent : List Sent) → AscendByNumber sent → AscendByNumber (sent_without number sent)
ascend-without number sent ascend =
    subst IsStrictlyIncreasing (sym (numbers-without number sent)) (IsStrictlyIncreasing-filter (λ k. not (k == number)) (map sent_number sent) ascend)

above-all : (m n : ℕ) (nodes : List NodeId) → m < n → All (λ k. m < k) (map sent_number (enumerate_from n nodes))
above-all m n [] less = All-nil (λ k. m < k)
above-all m n (node ∷ nodes) less =
    All-cons (λ k. m < k) n (map sent_number (enumerate_from (n + 1) nodes)) less (above-all m (n + 1) nodes (omega (arith, less)))

pub ascend-upwards : (n : ℕ) (nodes : List NodeId) → AscendByNumber (enumerate_from n nodes)
ascend-upwards n [] = IsStrictlyIncreasing-nil
ascend-upwards n (node ∷ nodes) =
    IsStrictlyIncreasing-cons n (map sent_number (enumerate_from (n + 1) nodes)) (above-all n (n + 1) nodes (omega arith)) (ascend-upwards (n + 1) nodes)

pub enumerate-push : (n : ℕ) (xs : List NodeId) (x : NodeId) → enumerate_from n (xs ++ x ∷ []) ≡ enumerate_from n xs ++ (n + length xs, x) ∷ []
enumerate-push n [] x = let e : n ≡ n + 0 = omega arith in ap (λ k. (k, x) ∷ []) e
enumerate-push n (y ∷ xs) x =
    let e : n + 1 + length xs ≡ n + suc (length xs) = omega arith in
    ap (λ (ys : List Sent). (n, y) ∷ ys) (enumerate-push (n + 1) xs x ∙ ap (λ k. enumerate_from (n + 1) xs ++ (k, x) ∷ []) e)

-- ---- the list of messages by what is kept of them

and-nothing : (b : Bool) → (b && false) ≡ false
and-nothing true = refl
and-nothing false = refl

one-or-more : (b c : Bool) → (b || (b && c)) ≡ (b && true)
one-or-more true c = refl
one-or-more false c = refl

read-of : (me : NodeId) (epoch oid : ℕ) (x : Sent) (asked : Asked) → is_of_search oid (message_to me epoch asked x) ≡ is_read_by oid asked
read-of me epoch oid x asked_for.Lists = refl
read-of me epoch oid x (asked_for.Rows other level wanted) = refl

fits-one : (shown : NodeView) (me : NodeId) (epoch : ℕ) (x : Sent) (asked : Asked) (say : PeerSay)
    → fits_message shown (Some (message_to me epoch asked x)) say ≡ fits_asked shown asked say
fits-one shown me epoch x asked says.Success = refl
fits-one shown me epoch x asked (says.Piece bytes) = refl
fits-one shown me epoch x asked (says.Objects oids) = refl
fits-one shown me epoch x asked_for.Lists (says.Row row) = refl
fits-one shown me epoch x (asked_for.Rows oid level wanted) (says.Row row) = refl
fits-one shown me epoch x asked says.NoRow = refl
fits-one shown me epoch x asked (says.Refused refusal) = refl

module _ (me : NodeId) (epoch : ℕ) (asked : Asked) where
  abbrev pub messages-kept : List Sent → List Message
  messages-kept sent = map (message_to me epoch asked) sent

  find-message : (number : ℕ) (sent : List Sent)
      → message_of number (messages-kept sent) ≡ option_map (message_to me epoch asked) (find (has_sent_number number) sent)
  find-message number [] = refl
  find-message number (x ∷ xs) = by_test (x.0 == number) (find-message number xs)
    where
      by_test : (b : Bool) → message_of number (messages-kept xs) ≡ option_map (message_to me epoch asked) (find (has_sent_number number) xs)
          → cond b (Some (message_to me epoch asked x)) (message_of number (messages-kept xs))
          ≡ option_map (message_to me epoch asked) (cond b (Some x) (find (has_sent_number number) xs))
      by_test true rest = refl
      by_test false rest = rest

  pub without-message : (number : ℕ) (sent : List Sent)
      → messages_without number (messages-kept sent) ≡ messages-kept (sent_without number sent)
  without-message number [] = refl
  without-message number (x ∷ xs) = by_test (x.0 == number) (without-message number xs)
    where
      by_test : (b : Bool) → messages_without number (messages-kept xs) ≡ messages-kept (sent_without number xs)
          → cond (not b) (message_to me epoch asked x ∷ messages_without number (messages-kept xs)) (messages_without number (messages-kept xs))
          ≡ messages-kept (cond (not b) (x ∷ sent_without number xs) (sent_without number xs))
      by_test true rest = rest
      by_test false rest = ap (λ (ms : List Message). message_to me epoch asked x ∷ ms) rest

  pub others-of-search : (oid number : ℕ) (sent : List Sent)
      → list_any (is_of_search oid) (messages_without number (messages-kept sent)) ≡ (is_read_by oid asked && has_others number sent)
  others-of-search oid number [] = sym (and-nothing (is_read_by oid asked))
  others-of-search oid number (x ∷ xs) = by_test (x.0 == number) (others-of-search oid number xs)
    where
      by_test : (b : Bool) → list_any (is_of_search oid) (messages_without number (messages-kept xs)) ≡ (is_read_by oid asked && has_others number xs)
          → list_any (is_of_search oid)
          (cond (not b) (message_to me epoch asked x ∷ messages_without number (messages-kept xs)) (messages_without number (messages-kept xs)))
          ≡ (is_read_by oid asked && (not b || has_others number xs))
      by_test true rest = rest
      by_test false rest = ap₂ ◌||◌ (read-of me epoch oid x asked) rest ∙ one-or-more (is_read_by oid asked) (has_others number xs)

-- ---- and as they are of this recovery or of older ones

module _ (me : NodeId) (flight : InFlight) where
  abbrev kept : List Message
  kept = messages_in me flight

  pub all_kept : current_in me flight ++ older_in me flight ≡ messages_in me flight
  all_kept = by_age flight.is_older
    where
      by_age : (b : Bool) → cond b [] kept ++ cond b kept [] ≡ kept
      by_age true = refl
      by_age false = append-nil kept

  pub is_awaited : (number : ℕ) → is_some (message_of number (messages_in me flight)) ≡ is_some (node_of number flight.nodes)
  is_awaited number = ap is_some (find-message me flight.epoch flight.asked number flight.nodes) ∙ by_found (find (has_sent_number number) flight.nodes)
    where
      by_found : (o : Option Sent) → is_some (option_map (message_to me flight.epoch flight.asked) o) ≡ is_some (option_map (λ (x : Sent). x.1) o)
      by_found None = refl
      by_found (Some x) = refl

  pub current_message : (number : ℕ) → option_map sent_to (message_of number (current_in me flight))
      ≡ option_map (λ (node : NodeId). sent_by (node, flight.asked)) (current_node number flight)
  current_message number = by_age flight.is_older
    where
      by_found : (o : Option Sent) → option_map sent_to (option_map (message_to me flight.epoch flight.asked) o)
          ≡ option_map (λ (node : NodeId). sent_by (node, flight.asked)) (option_map (λ (x : Sent). x.1) o)
      by_found None = refl
      by_found (Some x) = refl

      by_age : (b : Bool) → option_map sent_to (message_of number (cond b [] kept))
          ≡ option_map (λ (node : NodeId). sent_by (node, flight.asked)) (cond b None (node_of number flight.nodes))
      by_age true = refl
      by_age false =
          ap (option_map sent_to) (find-message me flight.epoch flight.asked number flight.nodes) ∙ by_found (find (has_sent_number number) flight.nodes)

  pub without_current : (number : ℕ) → messages_without number (current_in me flight) ≡ current_in me (flight_without number flight)
  without_current number = by_age flight.is_older
    where
      by_age : (b : Bool) → messages_without number (cond b [] kept) ≡ cond b [] (messages_in me (flight_without number flight))
      by_age true = refl
      by_age false = without-message me flight.epoch flight.asked number flight.nodes

  pub without_older : (number : ℕ) → messages_without number (older_in me flight) ≡ older_in me (flight_without number flight)
  without_older number = by_age flight.is_older
    where
      by_age : (b : Bool) → messages_without number (cond b kept []) ≡ cond b (messages_in me (flight_without number flight)) []
      by_age true = without-message me flight.epoch flight.asked number flight.nodes
      by_age false = refl

  pub others_of_current : (oid number : ℕ)
      → list_any (is_of_search oid) (messages_without number (current_in me flight)) ≡ (is_current_read oid flight && has_others number flight.nodes)
  others_of_current oid number = by_age flight.is_older
    where
      by_age : (b : Bool) → list_any (is_of_search oid) (messages_without number (cond b [] kept))
          ≡ (cond b false (is_read_by oid flight.asked) && has_others number flight.nodes)
      by_age true = refl
      by_age false = others-of-search me flight.epoch flight.asked oid number flight.nodes

  pub fits_kept : (shown : NodeView) (number : ℕ) (say : PeerSay) → fits_message shown (message_of number (messages_in me flight)) say
      ≡ (is_some (node_of number flight.nodes) && fits_asked shown flight.asked say)
  fits_kept shown number say =
      ap (λ m. fits_message shown m say) (find-message me flight.epoch flight.asked number flight.nodes) ∙ by_found (find (has_sent_number number) flight.nodes)
    where
      by_found : (o : Option Sent) → fits_message shown (option_map (message_to me flight.epoch flight.asked) o) say
          ≡ (is_some (option_map (λ (x : Sent). x.1) o) && fits_asked shown flight.asked say)
      by_found None = refl
      by_found (Some x) = fits-one shown me flight.epoch x flight.asked say

  pub awaits_kept : (number : ℕ) → is_some (message_of number (current_in me flight ++ older_in me flight)) ≡ is_some (node_of number flight.nodes)
  awaits_kept number = ap (λ (ms : List Message). is_some (message_of number ms)) all_kept ∙ is_awaited number

  pub fits_all : (shown : NodeView) (number : ℕ) (say : PeerSay)
      → fits_message shown (message_of number (current_in me flight ++ older_in me flight)) say
      ≡ (is_some (node_of number flight.nodes) && fits_asked shown flight.asked say)
  fits_all shown number say = ap (λ (ms : List Message). fits_message shown (message_of number ms) say) all_kept ∙ fits_kept shown number say

  pub length_kept : length (current_in me flight ++ older_in me flight) ≡ length flight.nodes
  length_kept = ap length all_kept ∙ length-map flight.nodes (message_to me flight.epoch flight.asked)

-- ---- any of a list turned round

pub any_reversed : (oid : ℕ) (oids : List ℕ) → list_any (λ other. other == oid) (reverse oids) ≡ list_any (λ other. other == oid) oids
any_reversed oid [] = refl
any_reversed oid (x ∷ xs) =
    ap (list_any (λ other. other == oid)) (reverse-append (x ∷ []) xs)
    ∙ list_any-append (λ other. other == oid) (reverse xs) (x ∷ [])
    ∙ ap (λ b. b || ((x == oid) || false)) (any_reversed oid xs)
    ∙ turned (list_any (λ other. other == oid) xs) (x == oid)
  where
    turned : (b c : Bool) → (b || (c || false)) ≡ (c || b)
    turned true true = refl
    turned true false = refl
    turned false true = refl
    turned false false = refl
