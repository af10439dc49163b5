-- Sums by lanes: one strip more, 32 bytes more, and the rest.
use Rattle.std.proofs.Common.{◌≡◌, ◌∙◌, ℕ, ◌+◌, ◌-◌, ◌*◌, ◌<◌, ◌≤◌, ◌⊎◌, inl, inr, List, length, get_or, take, ap, sym, arith, bit_xor, add_assoc}
use Rattle.std.proofs.lemmas.Bool.{cases_lt}
use Rattle.std.specs.Simd.Lanes.{zip2, put_chunk}
use Rattle.std.proofs.lemmas.Simd.{length-put_chunk, get_or-put_chunk_below, get_or-put_chunk_at}
use Rattle.gf256.specs.Field.{plus, times}
use Rattle.strip_coding.specs.Sums.{sum_at}
use Rattle.strip_coding.proofs.WeightedSums.{weighted_sum-more}
use Rattle.strip_lanes.specs.Lanes.{HasLanes, IsSummed}
use Rattle.strip_lanes.proofs.LaneLemmas.{HasLanes-same, HasLanes-zip2}

-- one strip more
pub byte_more : (cs places strips : List ℕ) (m width k : ℕ) → m < length cs → length cs ≡ length places
    → sum_at (take (m + 1) cs) (take (m + 1) places) strips width k
    ≡ plus (sum_at (take m cs) (take m places) strips width k) (times (get_or cs m 0) (get_or strips (get_or places m 0 * width + k) 0))
byte_more cs places strips m width k below both =
    weighted_sum-more cs places (λ place. get_or strips (place * width + k) 0) m below (omega arith)

pub lanes_more : (cs places strips : List ℕ) (m width at : ℕ) (total bytes products : List ℕ)
    → m < length cs → length cs ≡ length places
    → HasLanes total (λ k. sum_at (take m cs) (take m places) strips width (at + k))
    → HasLanes bytes (λ k. get_or strips (get_or places m 0 * width + at + k) 0)
    → HasLanes products (λ k. times (get_or cs m 0) (get_or bytes k 0))
    → HasLanes (zip2 bit_xor total products) (λ k. sum_at (take (m + 1) cs) (take (m + 1) places) strips width (at + k))
lanes_more cs places strips m width at total bytes products below both so_far of_bytes of_products =
    HasLanes-same _ _ _ (HasLanes-zip2 bit_xor total products _ _ so_far of_products)
    (λ k l.
    ap (λ byte. plus (sum_at (take m cs) (take m places) strips width (at + k)) (times (get_or cs m 0) byte))
    (of_bytes.each k l ∙ ap (λ i. get_or strips i 0) (add_assoc (get_or places m 0 * width) at k))
    ∙ sym (byte_more cs places strips m width (at + k) below both))

-- 32 bytes more
lanes_put-inside : (f : ℕ → ℕ) (old sum total : List ℕ) (at k : ℕ) → at + 32 ≤ length sum → IsSummed f old sum 0 at
    → HasLanes total (λ k. f (at + k)) → k < at + 32 → (k < at) ⊎ (at ≤ k) → get_or (put_chunk at sum total) k 0 ≡ f k
lanes_put-inside f old sum total at k room so_far here to (inl l) =
    get_or-put_chunk_below at sum total k 0 l ∙ so_far.inside k (omega arith) l
lanes_put-inside f old sum total at k room so_far here to (inr le) =
    let j : ℕ = k - at in
    let l : j < 32 = omega arith in
    let place : at + j ≡ k = omega arith in
    ap (λ i. get_or (put_chunk at sum total) i 0) (sym place)
    ∙ get_or-put_chunk_at at sum total j 0 (omega (arith, here.long)) (omega arith)
    ∙ here.each j l
    ∙ ap f place

pub lanes_put : (f : ℕ → ℕ) (old sum total : List ℕ) (at : ℕ) → at + 32 ≤ length sum → IsSummed f old sum 0 at
    → HasLanes total (λ k. f (at + k)) → IsSummed f old (put_chunk at sum total) 0 (at + 32)
lanes_put f old sum total at room so_far here = record {
  long = length-put_chunk at sum total ∙ so_far.long;
  inside = λ k from to. lanes_put-inside f old sum total at k room so_far here to (cases_lt k at);
  before = λ k l. absurd (omega arith);
}

-- the rest
all_summed-at : (f : ℕ → ℕ → ℕ) (old sum new : List ℕ) (until from k : ℕ) → from ≤ until → IsSummed (f (length old)) old sum 0 until
    → IsSummed (f (length sum)) sum new from (length sum) → k < length old → (k < from) ⊎ (from ≤ k) → get_or new k 0 ≡ f (length old) k
all_summed-at f old sum new until from k no_gap so_far rest below (inl l) = rest.before k l ∙ so_far.inside k (omega arith) (omega arith)
all_summed-at f old sum new until from k no_gap so_far rest below (inr le) =
    rest.inside k le (omega (arith, so_far.long)) ∙ ap (λ width. f width k) so_far.long

pub all_summed : (f : ℕ → ℕ → ℕ) (old sum new : List ℕ) (until from : ℕ) → from ≤ until → IsSummed (f (length old)) old sum 0 until
    → IsSummed (f (length sum)) sum new from (length sum) → (k : ℕ) → k < length old → get_or new k 0 ≡ f (length old) k
all_summed f old sum new until from no_gap so_far rest k below =
    all_summed-at f old sum new until from k no_gap so_far rest below (cases_lt k from)
