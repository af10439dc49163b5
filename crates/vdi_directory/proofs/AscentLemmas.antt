-- The live ids strictly ascend: an id is put among them only once.
use Rattle.std.proofs.Common.{◌≡◌, ◌⊎◌, inl, inr, ℕ, zero, suc, ◌+◌, ◌<◌, ◌≤◌, ◌==◌, not, Bool, true, false, cond, List, [], ◌∷◌, length, get_or, filter, ap, sym, ◌∙◌, subst, arith, add-one}
use Rattle.std.specs.List.{list_any}
use Rattle.std.specs.List.Sorted.{IsStrictlyIncreasing}
use Rattle.std.proofs.lemmas.Bool.{le-ltb, lt-ltb, cases_lt, eqb-false, or_parts}
use Rattle.object_id.specs.declared.entry.Entry.{Entry}
use Rattle.vdi_directory.specs.declared.effect.Effect.{Effect}
use Rattle.vdi_directory.specs.declared.effect.Effect.TheVariants.{Published, Snapped, Deleted}
use Rattle.vdi_directory.specs.Effects.{ids_with, live_after, live_of}
use Rattle.vdi_directory.specs.Decisions.{outcome, log_effects}
use Rattle.vdi_directory.specs.States.{is_live_state}
use Rattle.vdi_directory.specs.Sound.{IsLawful}
use Rattle.vdi_directory.proofs.StateLemmas.{log_effects-none, live_of-push}
use Rattle.vdi_directory.proofs.LawfulEntries.{lawful-outcome, sound-log_effects}
use Rattle.vdi_directory.proofs.DecisionLaws.{kept-later, live-is}

-- strictly ascending from a number on
StrictFrom : ℕ → List ℕ → Type 0
StrictFrom low [] = Unit {0}
StrictFrom low (first ∷ rest) = (low ≤ first) × StrictFrom (first + 1) rest

strict-less : (low high : ℕ) (live : List ℕ) → low ≤ high → StrictFrom high live → StrictFrom low live
unfolding StrictFrom
strict-less low high [] less up = tt
strict-less low high (first ∷ rest) less up = let from : high ≤ first = up.0 in (omega arith, up.1)

strict-ids_with : (low vid : ℕ) (live : List ℕ) → low ≤ vid → list_any (λ other. other == vid) live ≡ false → StrictFrom low live → StrictFrom low (ids_with vid live)
unfolding StrictFrom
strict-ids_with low vid [] from new up = (from, tt)
strict-ids_with low vid (first ∷ rest) from new up =
    let parts = or_parts (first == vid) (list_any (λ other. other == vid) rest) new in
    by_place (cases_lt vid first) (eqb-false first vid parts.0) (λ above. strict-ids_with (first + 1) vid rest above parts.1 up.1)
  where
    by_place : (vid < first) ⊎ (first ≤ vid) → (first ≡ vid → ⊥) → (first + 1 ≤ vid → StrictFrom (first + 1) (ids_with vid rest)) → StrictFrom low (ids_with vid (first ∷ rest))
    by_place (inl below) apart later =
        subst (λ b. StrictFrom low (cond b (vid ∷ first ∷ rest) (first ∷ ids_with vid rest))) (sym (lt-ltb vid first below)) (from, (omega arith, up.1))
    by_place (inr above) apart later =
        subst (λ b. StrictFrom low (cond b (vid ∷ first ∷ rest) (first ∷ ids_with vid rest))) (sym (le-ltb vid first above)) (up.0, later (omega arith))

strict-filter : (keep : ℕ → Bool) (low : ℕ) (live : List ℕ) → StrictFrom low live → StrictFrom low (filter keep live)
unfolding StrictFrom
strict-filter keep low [] up = tt
strict-filter keep low (first ∷ rest) up = by_test (keep first) (strict-filter keep (first + 1) rest up.1)
  where
    by_test : (b : Bool) → StrictFrom (first + 1) (filter keep rest) → StrictFrom low (cond b (first ∷ filter keep rest) (filter keep rest))
    by_test true later = (up.0, later)
    by_test false later = let from : low ≤ first = up.0 in strict-less low (first + 1) (filter keep rest) (omega arith) later

strict-next : (low : ℕ) (live : List ℕ) → StrictFrom low live → (k : ℕ) → suc k < length live → get_or live k 0 < get_or live (suc k) 0
unfolding StrictFrom
strict-next low [] up k within = absurd (omega arith)
strict-next low (first ∷ []) up k within = absurd (omega arith)
strict-next low (first ∷ second ∷ rest) up zero within = let next : first + 1 ≤ second = (up.1).0 in omega arith
strict-next low (first ∷ second ∷ rest) up (suc k) within = strict-next (first + 1) (second ∷ rest) up.1 k (omega arith)

strict-after : (entries : List Entry) (effect : Effect) → IsLawful (log_effects entries) effect → StrictFrom 0 (live_of (log_effects entries))
    → StrictFrom 0 (live_after (live_of (log_effects entries)) effect)
strict-after entries (Published vid name) lawful up =
    strict-ids_with 0 vid.0 (live_of (log_effects entries)) (omega arith) (live-is entries vid.0 ∙ ap is_live_state ((lawful.0).1)) up
strict-after entries (Snapped snap) lawful up =
    strict-ids_with 0 snap.vid.0 (live_of (log_effects entries)) (omega arith) (live-is entries snap.vid.0 ∙ ap is_live_state ((lawful.1).1)) up
strict-after entries (Deleted vid name) lawful up = strict-filter (λ other. not (other == vid.0)) 0 (live_of (log_effects entries)) up
strict-after entries effect lawful up = up

none-strict : StrictFrom 0 (live_of [])
unfolding StrictFrom live_of
none-strict = tt

strict-log_effects : (entries : List Entry) → StrictFrom 0 (live_of (log_effects entries))
strict-log_effects entries =
    kept-later (λ before. StrictFrom 0 (live_of before))
    (λ es entry is. subst (StrictFrom 0) (sym (live_of-push (log_effects es) (outcome (log_effects es) entry).effect))
    (strict-after es (outcome (log_effects es) entry).effect (lawful-outcome (log_effects es) (sound-log_effects es) entry) is))
    entries [] (subst (λ before. StrictFrom 0 (live_of before)) (sym log_effects-none) none-strict)

pub live-ascends : (entries : List Entry) → IsStrictlyIncreasing (live_of (log_effects entries))
live-ascends entries k within =
    subst (λ next. get_or (live_of (log_effects entries)) k 0 < get_or (live_of (log_effects entries)) next 0) (sym (add-one k))
    (strict-next 0 (live_of (log_effects entries)) (strict-log_effects entries) k (omega arith))
