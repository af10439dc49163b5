-- What each entry did, with its epoch, for one entry more: so the epoch of a grant, and that no such epoch is beyond the log's.
use Rattle.std.proofs.Common.{◌≡◌, ◌≤◌, ◌<◌, arith, ℕ, zero, suc, ◌+◌, Bool, true, false, cond, List, [], ◌∷◌, ◌++◌, length, map, fold}
use Rattle.std.proofs.Common.{refl, sym, ap, subst, ◌∙◌, append_assoc}
use Rattle.std.specs.List.{filter_map, range_with_len, zip}
use Rattle.std.proofs.lemmas.List.{length-append, take-append-le, take_all}
use Rattle.std.proofs.lemmas.List.Elements.{filter_map-append}
use Rattle.std.proofs.lemmas.List.FromFn.{length-map-range_with_len, map-range_with_len_more}
use Rattle.std.proofs.lemmas.List.Sums.{fold-append}
use Rattle.object_id.specs.declared.entry.Entry.{Entry}
use Rattle.epoch_log.specs.Epochs.{epoch_of, epoch_at}
use Rattle.epoch_log.proofs.EpochLemmas.{epoch_of-append}
use Rattle.vdi_directory.specs.declared.effect.Effect.{Effect}
use Rattle.vdi_directory.specs.Decisions.{outcome, happens, log_effects}
use Rattle.vdi_directory.proofs.StateLemmas.{log_effects-push}
use Rattle.overlap_law.specs.Grants.{epochs_at_entries, dated_effects, later_if, last_epoch, leave_epoch_of, leaves_of}

-- ---- what holds of no entry, and of one more where it holds before

pub by_entries : (P : List Entry → Type 0) → P [] → ((log : List Entry) (entry : Entry) → P log → P (log ++ entry ∷ []))
    → (log : List Entry) → P log
by_entries P none more log = from [] log none
  where
    from : (before later : List Entry) → P before → P (before ++ later)
    from before [] holds = subst P (sym (append_nil before)) holds
      where
        append_nil : (xs : List Entry) → xs ++ [] ≡ xs
        append_nil [] = refl
        append_nil (x ∷ xs) = ap (λ (rest : List Entry). x ∷ rest) (append_nil xs)
    from before (entry ∷ later) holds =
        subst P (append_assoc before (entry ∷ []) later) (from (before ++ entry ∷ []) later (more before entry holds))

-- ---- each entry has an effect, and a date

effects_as_many : (before : List Effect) (entries : List Entry) → length (fold happens before entries) ≡ length before + length entries
effects_as_many before [] = omega arith
effects_as_many before (entry ∷ entries) =
    let more = effects_as_many (happens before entry) entries in
    let one : length (happens before entry) ≡ length before + 1 = length-append before ((outcome before entry).effect ∷ []) in
    omega (arith, more, one)

pub length-log_effects : (log : List Entry) → length (log_effects log) ≡ length log
unfolding log_effects
length-log_effects log = let all : length (fold happens [] log) ≡ 0 + length log = effects_as_many [] log in omega (arith, all)

zip-push : {A B : Type 0} (xs : List A) (ys : List B) (x : A) (y : B) → length xs ≡ length ys
    → zip (xs ++ x ∷ []) (ys ++ y ∷ []) ≡ zip xs ys ++ (x, y) ∷ []
zip-push [] [] x y same = refl
zip-push [] (z ∷ zs) x y same = absurd (omega (arith, same))
zip-push (z ∷ zs) [] x y same = absurd (omega (arith, same))
zip-push (w ∷ ws) (z ∷ zs) x y same =
    let rest : length ws ≡ length zs = omega (arith, same) in
    ap (λ tail. (w, z) ∷ tail) (zip-push ws zs x y rest)

same_below : (f g : ℕ → ℕ) (a n : ℕ) → ((k : ℕ) → k < a + n → f k ≡ g k) → map f (range_with_len a n) ≡ map g (range_with_len a n)
same_below f g a zero same = refl
same_below f g a (suc n) same =
    (λ i. same a (omega arith) i ∷ same_below f g (a + 1) n (λ k below. same k (omega (arith, below))) i)

dates-push : (log : List Entry) (entry : Entry)
    → epochs_at_entries (log ++ entry ∷ []) ≡ epochs_at_entries log ++ epoch_of (log ++ entry ∷ []) ∷ []
dates-push log entry =
    let all = log ++ entry ∷ [] in
    let longer : length all ≡ length log + 1 = length-append log (entry ∷ []) in
    ap (λ (n : ℕ). map (λ place. epoch_at all (place + 1)) (range_with_len 0 n)) longer
    ∙ map-range_with_len_more (λ place. epoch_at all (place + 1)) 0 (length log) (length log) (omega arith)
    ∙ (λ i. same_below (λ place. epoch_at all (place + 1)) (λ place. epoch_at log (place + 1)) 0 (length log)
    (λ k below. ap epoch_of (take-append-le (k + 1) log (entry ∷ []) (omega (arith, below)))) i
    ++ epoch_of (take_all (length log + 1) all (omega (arith, longer)) i) ∷ [])

length-dates : (log : List Entry) → length (epochs_at_entries log) ≡ length log
length-dates log = length-map-range_with_len (λ place. epoch_at log (place + 1)) 0 (length log)

pub dated-push : (log : List Entry) (entry : Entry)
    → dated_effects (log ++ entry ∷ []) ≡ dated_effects log ++ (epoch_of (log ++ entry ∷ []), (outcome (log_effects log) entry).effect) ∷ []
unfolding dated_effects
dated-push log entry =
    (λ i. zip (dates-push log entry i) (log_effects-push log entry i))
    ∙ zip-push (epochs_at_entries log) (log_effects log) (epoch_of (log ++ entry ∷ [])) (outcome (log_effects log) entry).effect
    (length-dates log ∙ sym (length-log_effects log))

-- ---- the last epoch of a kind of effect, and the leaves of a node

pub last_epoch-push : (passes : Effect → Bool) (log : List Entry) (entry : Entry)
    → last_epoch passes (log ++ entry ∷ []) ≡ cond (passes (outcome (log_effects log) entry).effect) (epoch_of (log ++ entry ∷ []))
    (last_epoch passes log)
last_epoch-push passes log entry =
    ap (fold (later_if passes) 0) (dated-push log entry)
    ∙ fold-append (later_if passes) 0 (dated_effects log) ((epoch_of (log ++ entry ∷ []), (outcome (log_effects log) entry).effect) ∷ [])

pub epoch_rises : (log : List Entry) (entry : Entry) → epoch_of log ≤ epoch_of (log ++ entry ∷ [])
epoch_rises log entry = let more = epoch_of-append log (entry ∷ []) in omega (arith, more)

none_yet : (passes : Effect → Bool) → last_epoch passes [] ≤ epoch_of []
unfolding dated_effects log_effects
none_yet passes = omega arith

-- no grant, reservation or publication is of a later epoch than the log
pub last_epoch-most : (passes : Effect → Bool) (log : List Entry) → last_epoch passes log ≤ epoch_of log
last_epoch-most passes = by_entries (λ (log : List Entry). last_epoch passes log ≤ epoch_of log) (none_yet passes) more
  where
    more : (log : List Entry) (entry : Entry) → last_epoch passes log ≤ epoch_of log
        → last_epoch passes (log ++ entry ∷ []) ≤ epoch_of (log ++ entry ∷ [])
    more log entry most = by_test (passes (outcome (log_effects log) entry).effect) (last_epoch-push passes log entry)
      where
        by_test : (b : Bool) → last_epoch passes (log ++ entry ∷ []) ≡ cond b (epoch_of (log ++ entry ∷ [])) (last_epoch passes log)
            → last_epoch passes (log ++ entry ∷ []) ≤ epoch_of (log ++ entry ∷ [])
        by_test true is = omega (arith, is)
        by_test false is = let rises = epoch_rises log entry in omega (arith, is, most, rises)

-- it rises with the log
pub last_epoch-rises : (passes : Effect → Bool) (log : List Entry) (entry : Entry)
    → last_epoch passes log ≤ last_epoch passes (log ++ entry ∷ [])
last_epoch-rises passes log entry = by_test (passes (outcome (log_effects log) entry).effect) (last_epoch-push passes log entry)
  where
    by_test : (b : Bool) → last_epoch passes (log ++ entry ∷ []) ≡ cond b (epoch_of (log ++ entry ∷ [])) (last_epoch passes log)
        → last_epoch passes log ≤ last_epoch passes (log ++ entry ∷ [])
    by_test true is = let most = last_epoch-most passes log in let rises = epoch_rises log entry in omega (arith, is, most, rises)
    by_test false is = omega (arith, is)

pub leaves-push : (log : List Entry) (entry : Entry) (node : ℕ)
    → leaves_of (log ++ entry ∷ []) node
    ≡ leaves_of log node ++ filter_map (λ (effect : ℕ × Effect). leave_epoch_of node effect.0 effect.1)
    ((epoch_of (log ++ entry ∷ []), (outcome (log_effects log) entry).effect) ∷ [])
leaves-push log entry node =
    ap (filter_map (λ (effect : ℕ × Effect). leave_epoch_of node effect.0 effect.1)) (dated-push log entry)
    ∙ filter_map-append (λ (effect : ℕ × Effect). leave_epoch_of node effect.0 effect.1) (dated_effects log)
    ((epoch_of (log ++ entry ∷ []), (outcome (log_effects log) entry).effect) ∷ [])
