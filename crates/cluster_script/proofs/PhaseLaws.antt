-- What is asked: sessions, bytes of writes, and the numbers of requests over the phases.
use Rattle.std.proofs.Common.{◌≡◌, ℕ, ◌+◌, ◌/◌, Bool, true, false, not, cond, List, [], ◌∷◌, ◌++◌, length, refl, sym, ap, ◌∙◌, arith, if◌then◌else◌}
use Rattle.std.specs.Prelude.{filter, count_by, is_some}
use Rattle.std.specs.List.{flat_map, range_with_len}
use Rattle.std.proofs.lemmas.List.FromFn.{length-map-range_with_len}
use Rattle.std.proofs.lemmas.List.Sums.{length-filter, sum_by-append}
use Rattle.proof_tools.proofs.Lists.{range_with_len-append}
use Rattle.object_id.specs.declared.limits.TheConstants.{BLOCK_BYTES}
use Rattle.cluster_script.specs.declared.statement.Pattern.{Pattern}
use Rattle.cluster_script.specs.declared.statement.Statement.{Statement}
use Rattle.cluster_script.specs.declared.statement.Statement.TheVariants.{Cluster, Vnodes, Tries, Limit, Zone}
use Rattle.cluster_script.specs.Statements.{is_setting, is_request, requests_of}
use Rattle.cluster_script.specs.NumberedRequests.{session_of, byte_of, payload_of}
use Rattle.cluster_script.specs.Phases.{Phase, is_barrier, stretches_with, stretches, phases_from, phases_of}

-- a statement is a request exactly where a session asks
pub session_of-there : (s : Statement) → is_some (session_of s) ≡ is_request s
session_of-there (Cluster nodes) = refl
session_of-there s = refl

pub length-payload_of : (pattern : Pattern) (count : ℕ) → length (payload_of pattern count) ≡ count
length-payload_of pattern count = length-map-range_with_len (λ place. byte_of pattern (place / BLOCK_BYTES)) 0 count

-- a setting is no request
setting-no_request : (s : Statement) → is_setting s ≡ true → is_request s ≡ false
setting-no_request (Cluster nodes) setting = refl
setting-no_request (Vnodes vnodes) setting = refl
setting-no_request (Tries tries) setting = refl
setting-no_request (Limit limit) setting = refl
setting-no_request (Zone node zone) setting = refl
setting-no_request s setting = absurd cc

abbrev pub one : Statement → ℕ
one s = cond (is_request s) 1 0

pub count-cons : (s : Statement) (rest : List Statement) → count_by is_request (s ∷ rest) ≡ one s + count_by is_request rest
count-cons s rest = omega (arith, sum_by-append (λ x. cond (is_request x) 1 0) (s ∷ []) rest)

-- settings aside, the requests are the same
pub count-filter : (statements : List Statement) → count_by is_request (filter (λ s. not (is_setting s)) statements) ≡ count_by is_request statements
count-filter [] = refl
count-filter (s ∷ rest) = go (is_setting s) refl (count-filter rest)
  where
    go : (setting : Bool) → is_setting s ≡ setting
        → count_by is_request (filter (λ s. not (is_setting s)) rest) ≡ count_by is_request rest
        → count_by is_request (filter (λ s. not (is_setting s)) (s ∷ rest)) ≡ count_by is_request (s ∷ rest)
    go true h kept =
        let no : is_request s ≡ false = setting-no_request s h in
        let none : one s ≡ 0 = rw no refl in
        let more : count_by is_request (s ∷ rest) ≡ count_by is_request rest = omega (arith, count-cons s rest, none) in
        rw h (kept ∙ sym more)
    go false h kept = rw h (count-cons s (filter (λ s. not (is_setting s)) rest) ∙ ap (λ n. one s + n) kept ∙ sym (count-cons s rest))

-- how many requests stretches have
unfoldable pub total : List (List Statement) → ℕ
total [] = 0
total (stretch ∷ rest) = count_by is_request stretch + total rest

total-stretches_with : (s : Statement) (parts : List (List Statement)) → total (stretches_with s parts) ≡ one s + total parts
unfolding total
total-stretches_with s [] = omega (arith, count-cons s [])
total-stretches_with s (first ∷ rest) = go (is_barrier s)
  where
    go : (ends : Bool) → total (if ends then (s ∷ []) ∷ first ∷ rest else (s ∷ first) ∷ rest) ≡ one s + total (first ∷ rest)
    go true = omega (arith, count-cons s [])
    go false = omega (arith, count-cons s first)

pub total-stretches : (statements : List Statement) → total (stretches statements) ≡ count_by is_request statements
unfolding total
total-stretches [] = refl
total-stretches (s ∷ rest) = total-stretches_with s (stretches rest) ∙ ap (λ n. one s + n) (total-stretches rest) ∙ sym (count-cons s rest)

numbers : (number : ℕ) (parts : List (List Statement)) → flat_map (λ (phase : Phase). phase.requests) (phases_from number parts) ≡ range_with_len number (total parts)
unfolding total
numbers number [] = refl
numbers number (first ∷ rest) =
    ap (λ xs. range_with_len number (count_by is_request first) ++ xs) (numbers (number + count_by is_request first) rest)
    ∙ range_with_len-append number (count_by is_request first) (total rest)

-- phase after phase, the requests have their numbers
pub phases-numbers : (statements : List Statement) → flat_map (λ (phase : Phase). phase.requests) (phases_of statements) ≡ range_with_len 1 (length (requests_of statements))
phases-numbers statements =
    numbers 1 (stretches (filter (λ s. not (is_setting s)) statements))
    ∙ ap (range_with_len 1) (total-stretches (filter (λ s. not (is_setting s)) statements) ∙ count-filter statements ∙ sym (length-filter is_request statements))
