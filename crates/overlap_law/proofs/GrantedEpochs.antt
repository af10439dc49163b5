-- Where a log that grows has an id reserved, and what disk the id is of: no later entry changes it. And where incarnations left.
use Rattle.std.proofs.Common.{◌≡◌, arith, ℕ, zero, suc, ◌+◌, ◌≤◌, ◌<◌, ◌==◌, ◌||◌, Bool, true, false, cond, List, [], ◌∷◌, ◌++◌, length}
use Rattle.std.proofs.Common.{map, fold, filter, zip, Option, Some, None, is_some, refl, sym, ap, subst, ◌∙◌, append_assoc, append-nil}
use Rattle.std.specs.Option.{option_map}
use Rattle.std.specs.List.{filter_map, range_with_len}
use Rattle.std.proofs.lemmas.Bool.{eqb-true}
use Rattle.std.proofs.lemmas.List.{take-append-le, take_all, length_push}
use Rattle.std.proofs.lemmas.List.Elements.{filter_map-append}
use Rattle.std.proofs.lemmas.List.FromFn.{map-range_with_len_more, length-map-range_with_len}
use Rattle.std.proofs.lemmas.List.Sums.{fold-append}
use Rattle.object_id.specs.declared.entry.Entry.{Entry}
use Rattle.object_id.specs.declared.entry.VdiSpec.{VdiSpec}
use Rattle.epoch_log.specs.Epochs.{begins_epoch, epoch_of, epoch_at}
use Rattle.epoch_log.proofs.EpochLemmas.{epoch_of-append}
use Rattle.vdi_directory.specs.declared.header.Header.{Header}
use Rattle.vdi_directory.specs.declared.effect.Effect.{Effect}
use Rattle.vdi_directory.specs.declared.effect.Effect.TheVariants as effects
use Rattle.vdi_directory.specs.declared.effect.Grant.{Grant}
use Rattle.vdi_directory.specs.Effects.{grants, is_used, header_after, header_of}
use Rattle.vdi_directory.specs.Decisions.{outcome, log_effects}
use Rattle.vdi_directory.proofs.DecisionLaws.{grant_outcome-unused}
use Rattle.vdi_directory.proofs.LineLemmas.{line-log_effects}
use Rattle.vdi_directory.proofs.StateLemmas.{log_effects-none, log_effects-push, is_used-push, header_of-push}
use Rattle.overlap_law.specs.Grants.{epochs_at_entries, dated_effects, later_if, reserved_in, leave_epoch_of, leaves_of}

-- what each entry more keeps, all later ones keep
pub from_front : (P : List Entry → Type 0) → ((log : List Entry) (entry : Entry) → P log → P (log ++ entry ∷ [])) → (log later : List Entry)
    → P log
    → P (log ++ later)
from_front P next log [] holds = subst P (sym (append-nil log)) holds
from_front P next log (entry ∷ later) holds =
    subst P (append_assoc log (entry ∷ []) later) (from_front P next (log ++ entry ∷ []) later (next log entry holds))

-- ---- one effect more

abbrev effect_of : List Entry → Entry → Effect
effect_of log entry = (outcome (log_effects log) entry).effect

length_of_effects : (log : List Entry) → length (log_effects log) ≡ length log
length_of_effects log = from_front (λ (log : List Entry). length (log_effects log) ≡ length log)
    (λ log entry is.
    let here : length (log_effects (log ++ entry ∷ [])) ≡ length (log_effects log) + 1
    = ap length (log_effects-push log entry) ∙ length_push (log_effects log) (effect_of log entry) in
    let there : length (log ++ entry ∷ []) ≡ length log + 1 = length_push log entry in
    omega (arith, is, here, there)) [] log (ap length log_effects-none)

zip_push : {X Y : Type 0} (xs : List X) (ys : List Y) (x : X) (y : Y) → length xs ≡ length ys
    → zip (xs ++ x ∷ []) (ys ++ y ∷ []) ≡ zip xs ys ++ (x, y) ∷ []
zip_push [] [] x y same = refl
zip_push [] (first ∷ ys) x y same = absurd (omega (arith, same))
zip_push (first ∷ xs) [] x y same = absurd (omega (arith, same))
zip_push (first ∷ xs) (other ∷ ys) x y same = ap (λ rest. (first, other) ∷ rest) (zip_push xs ys x y (omega (arith, same)))

ranges_agree : {X : Type 0} (f g : ℕ → X) (a n : ℕ) → ((place : ℕ) → place < a + n → f place ≡ g place)
    → map f (range_with_len a n) ≡ map g (range_with_len a n)
ranges_agree f g a zero same = refl
ranges_agree f g a (suc n) same =
    λ i. same a (omega arith) i ∷ ranges_agree f g (a + 1) n (λ place below. same place (omega (arith, below))) i

epochs_push : (log : List Entry) (entry : Entry)
    → epochs_at_entries (log ++ entry ∷ []) ≡ epochs_at_entries log ++ epoch_of (log ++ entry ∷ []) ∷ []
epochs_push log entry =
    let all = log ++ entry ∷ [] in
    let count : length all ≡ length log + 1 = length_push log entry in
    ap (λ (n : ℕ). map (λ place. epoch_at all (place + 1)) (range_with_len 0 n)) count
    ∙ map-range_with_len_more (λ place. epoch_at all (place + 1)) 0 (length log) (length log) (omega arith)
    ∙ (λ i. ranges_agree (λ place. epoch_at all (place + 1)) (λ place. epoch_at log (place + 1)) 0 (length log)
    (λ place below. ap epoch_of (take-append-le (place + 1) log (entry ∷ []) (omega (arith, below)))) i
    ++ epoch_of (take_all (length log + 1) all (omega (arith, count)) i) ∷ [])

pub dated_push : (log : List Entry) (entry : Entry)
    → dated_effects (log ++ entry ∷ []) ≡ dated_effects log ++ (epoch_of (log ++ entry ∷ []), effect_of log entry) ∷ []
unfolding dated_effects
dated_push log entry =
    (λ i. zip (epochs_push log entry i) (log_effects-push log entry i))
    ∙ zip_push (epochs_at_entries log) (log_effects log) (epoch_of (log ++ entry ∷ [])) (effect_of log entry)
    (length-map-range_with_len (λ place. epoch_at log (place + 1)) 0 (length log) ∙ sym (length_of_effects log))

-- ---- the epoch in which an id was reserved

reserved_push : (log : List Entry) (entry : Entry) (vid : ℕ)
    → reserved_in (log ++ entry ∷ []) vid ≡ cond (grants vid (effect_of log entry)) (epoch_of (log ++ entry ∷ [])) (reserved_in log vid)
reserved_push log entry vid =
    ap (fold (later_if (grants vid)) 0) (dated_push log entry)
    ∙ fold-append (later_if (grants vid)) 0 (dated_effects log) ((epoch_of (log ++ entry ∷ []), effect_of log entry) ∷ [])

pub used_push : (log : List Entry) (entry : Entry) (vid : ℕ)
    → is_used (log_effects (log ++ entry ∷ [])) vid ≡ (is_used (log_effects log) vid || grants vid (effect_of log entry))
used_push log entry vid =
    ap (λ (known : List Effect). is_used known vid) (log_effects-push log entry) ∙ is_used-push (log_effects log) (effect_of log entry) vid

-- an id that is used is granted by no later entry
pub not_again : (log : List Entry) (entry : Entry) (vid : ℕ) → is_used (log_effects log) vid ≡ true
    → grants vid (effect_of log entry) ≡ false
not_again log entry vid used = by_effect (effect_of log entry) refl
  where
    by_tie : (grant : Grant) → effect_of log entry ≡ effects.Reserved grant → (b : Bool) → (grant.reservation.vid.0 == vid) ≡ b → b ≡ false
    by_tie grant what true same =
        let new : is_used (log_effects log) grant.reservation.vid.0 ≡ false = (grant_outcome-unused log entry grant what).1 in
        let unused : is_used (log_effects log) vid ≡ false
        = ap (is_used (log_effects log)) (sym (eqb-true grant.reservation.vid.0 vid same)) ∙ new in
        absurd (cc (used, unused))
    by_tie grant what false other = refl

    by_effect : (effect : Effect) → effect_of log entry ≡ effect → grants vid effect ≡ false
    by_effect effects.Nothing what = refl
    by_effect (effects.Reserved grant) what = by_tie grant what (grant.reservation.vid.0 == vid) refl
    by_effect (effects.Published id name) what = refl
    by_effect (effects.Snapped snap) what = refl
    by_effect (effects.Deleted id name) what = refl
    by_effect (effects.Held id holder) what = refl
    by_effect (effects.Freed id) what = refl
    by_effect (effects.Withdrawn id) what = refl
    by_effect (effects.Left node) what = refl

pub used_next : (log : List Entry) (entry : Entry) (vid : ℕ) → is_used (log_effects log) vid ≡ true
    → is_used (log_effects (log ++ entry ∷ [])) vid ≡ true
used_next log entry vid used = used_push log entry vid ∙ ap (λ (b : Bool). b || grants vid (effect_of log entry)) used

abbrev AsReserved : List Entry → ℕ → List Entry → Type 0
AsReserved log vid all = (is_used (log_effects all) vid ≡ true) × (reserved_in all vid ≡ reserved_in log vid)

-- what is reserved stays so in that epoch
pub reserved_stays : (log later : List Entry) (vid : ℕ) → is_used (log_effects log) vid ≡ true
    → reserved_in (log ++ later) vid ≡ reserved_in log vid
reserved_stays log later vid used =
    (from_front (AsReserved log vid)
    (λ all entry is. (
      used_next all entry vid is.0,
      reserved_push all entry vid
          ∙ ap (λ (b : Bool). cond b (epoch_of (all ++ entry ∷ [])) (reserved_in all vid)) (not_again all entry vid is.0) ∙ is.1,
    )) log later (used, refl)).1

none_used : (vid : ℕ) → is_used [] vid ≡ false
unfolding is_used
none_used vid = refl

-- and that is one of the log's epochs
abbrev pub IsReservedWithin : List Entry → ℕ → Type 0
IsReservedWithin log vid = (1 ≤ reserved_in log vid) × (reserved_in log vid ≤ epoch_of log)

pub reserved_within : (log : List Entry) (vid : ℕ) → is_used (log_effects log) vid ≡ true → IsReservedWithin log vid
reserved_within log vid = from_front (λ (log : List Entry). is_used (log_effects log) vid ≡ true → IsReservedWithin log vid)
    (λ log entry before used.
    let all = log ++ entry ∷ [] in
    by_grant log entry before (grants vid (effect_of log entry)) (reserved_push log entry vid) (sym (used_push log entry vid) ∙ used)) []
    log (λ used. let none = ap (λ (known : List Effect). is_used known vid) log_effects-none ∙ none_used vid in absurd (cc (used, none)))
  where
    by_grant : (log : List Entry) (entry : Entry) → (is_used (log_effects log) vid ≡ true → IsReservedWithin log vid) → (b : Bool)
        → reserved_in (log ++ entry ∷ []) vid ≡ cond b (epoch_of (log ++ entry ∷ [])) (reserved_in log vid)
        → (is_used (log_effects log) vid || b) ≡ true
        → IsReservedWithin (log ++ entry ∷ []) vid
    by_grant log entry before true is used = (omega (arith, is), omega (arith, is))
    by_grant log entry before false is used =
        let was = before (by_used (is_used (log_effects log) vid) used) in
        let least = was.0 in
        let most = was.1 in
        let grows : epoch_of (log ++ entry ∷ []) ≡ epoch_of log + length (filter begins_epoch (entry ∷ [])) = epoch_of-append log
        (entry ∷ []) in
        (omega (arith, is, least), omega (arith, is, most, grows))
      where
        by_used : (u : Bool) → (u || false) ≡ true → u ≡ true
        by_used true is = refl
        by_used false is = is

-- what isn't used yet is reserved in no earlier epoch
pub unused_later : (log later : List Entry) (vid : ℕ) → is_used (log_effects log) vid ≡ false
    → is_used (log_effects (log ++ later)) vid ≡ true → epoch_of log ≤ reserved_in (log ++ later) vid
unused_later log later vid unused =
    (from_front IsNoEarlier
    (λ all entry is.
    (let grows : epoch_of (all ++ entry ∷ []) ≡ epoch_of all + length (filter begins_epoch (entry ∷ [])) = epoch_of-append all
    (entry ∷ []) in
    let most = is.0 in (
      omega (arith, most, grows),
      λ used.
          by_grant all entry is (omega (arith, most, grows)) (grants vid (effect_of all entry)) (reserved_push all entry vid)
          (sym (used_push all entry vid) ∙ used),
    ))) log later
    (same_epoch (epoch_of log), λ used. absurd (cc (used, unused)))).1
  where
    IsNoEarlier : List Entry → Type 0
    IsNoEarlier all = (epoch_of log ≤ epoch_of all) × (is_used (log_effects all) vid ≡ true → epoch_of log ≤ reserved_in all vid)

    same_epoch : (k : ℕ) → k ≤ k
    same_epoch k = omega arith

    by_grant : (all : List Entry) (entry : Entry) → IsNoEarlier all → epoch_of log ≤ epoch_of (all ++ entry ∷ []) → (b : Bool)
        → reserved_in (all ++ entry ∷ []) vid ≡ cond b (epoch_of (all ++ entry ∷ [])) (reserved_in all vid)
        → (is_used (log_effects all) vid || b) ≡ true → epoch_of log ≤ reserved_in (all ++ entry ∷ []) vid
    by_grant all entry is most true so used = omega (arith, so, most)
    by_grant all entry is most false so used =
        let before = is.1 (by_used (is_used (log_effects all) vid) used) in omega (arith, so, before)
      where
        by_used : (u : Bool) → (u || false) ≡ true → u ≡ true
        by_used true known = refl
        by_used false known = known

-- ---- what the disk of an id was made with

abbrev pub spec_known : List Effect → ℕ → Option VdiSpec
spec_known known vid = option_map (λ (header : Header). header.spec) (header_of known vid)

spec_after : (vid : ℕ) (header : Option Header) (effect : Effect) → grants vid effect ≡ false
    → option_map (λ (header : Header). header.spec) (header_after vid header effect) ≡ option_map (λ (header : Header). header.spec) header
spec_after vid header effects.Nothing other = refl
spec_after vid header (effects.Reserved grant) other =
    ap (λ (b : Bool). option_map (λ (header : Header). header.spec) (cond b (Some grant.header) header)) other
spec_after vid header (effects.Published id name) other = refl
spec_after vid header (effects.Snapped snap) other = by_tie (snap.old.0 == vid) header
  where
    by_tie : (b : Bool) (header : Option Header)
        → option_map (λ (header : Header). header.spec) (cond b (option_map (λ (old : Header). record old { tag = snap.tag }) header)
        header)
        ≡ option_map (λ (header : Header). header.spec) header
    by_tie true None = refl
    by_tie true (Some old) = refl
    by_tie false header = refl
spec_after vid header (effects.Deleted id name) other = refl
spec_after vid header (effects.Held id holder) other = refl
spec_after vid header (effects.Freed id) other = refl
spec_after vid header (effects.Withdrawn id) other = refl
spec_after vid header (effects.Left node) other = refl

-- whose disk is known is used
pub spec_used : (log : List Entry) (vid : ℕ) (spec : VdiSpec) → spec_known (log_effects log) vid ≡ Some spec
    → is_used (log_effects log) vid ≡ true
spec_used log vid spec is = (line-log_effects log).known vid ∙ by_header (header_of (log_effects log) vid) is
  where
    by_header : (o : Option Header) → option_map (λ (header : Header). header.spec) o ≡ Some spec → is_some o ≡ true
    by_header None is = absurd (cc (is))
    by_header (Some header) is = refl

-- it stays so
pub spec_stays : (log later : List Entry) (vid : ℕ) (spec : VdiSpec) → spec_known (log_effects log) vid ≡ Some spec
    → spec_known (log_effects (log ++ later)) vid ≡ Some spec
spec_stays log later vid spec = from_front (λ (log : List Entry). spec_known (log_effects log) vid ≡ Some spec)
    (λ log entry is.
    ap (λ (known : List Effect). spec_known known vid) (log_effects-push log entry)
    ∙ ap (option_map (λ (header : Header). header.spec)) (header_of-push (log_effects log) (effect_of log entry) vid)
    ∙ spec_after vid (header_of (log_effects log) vid) (effect_of log entry) (not_again log entry vid (spec_used log vid spec is))
    ∙ is) log later

-- ---- the epochs that began with a node's leaves

pub leaves_push : (log : List Entry) (entry : Entry) (node : ℕ)
    → leaves_of (log ++ entry ∷ []) node ≡ leaves_of log node ++ filter_map (λ (effect : ℕ × Effect). leave_epoch_of node effect.0 effect.1)
    ((epoch_of (log ++ entry ∷ []), effect_of log entry) ∷ [])
leaves_push log entry node =
    ap (filter_map (λ (effect : ℕ × Effect). leave_epoch_of node effect.0 effect.1)) (dated_push log entry)
    ∙ filter_map-append (λ (effect : ℕ × Effect). leave_epoch_of node effect.0 effect.1) (dated_effects log)
    ((epoch_of (log ++ entry ∷ []), effect_of log entry) ∷ [])
