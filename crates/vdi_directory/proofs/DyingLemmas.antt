-- Which ids an entry makes dead: those that lose their last reference by it.
use Rattle.std.proofs.Common.{◌≡◌, ◌≢◌, ◌⊎◌, inl, inr, ℕ, ◌==◌, ◌||◌, ◌&&◌, not, nat_lt, Bool, true, false, cond, List, [], ◌∷◌, ◌++◌, refl, ap, sym, ◌∙◌, subst, arith}
use Rattle.std.proofs.lemmas.Bool.{cases_eq, eq-eqb, ne_eqb, lt-ltb, both_ways}
use Rattle.std.proofs.Math.Bool.{or-false}
use Rattle.object_id.specs.declared.oid.Vid.{Vid}
use Rattle.object_id.specs.declared.entry.Entry.{Entry}
use Rattle.vdi_directory.specs.declared.effect.Effect.{Effect}
use Rattle.vdi_directory.specs.declared.effect.Effect.TheVariants as effects
use Rattle.vdi_directory.specs.declared.directory_state.DirectoryState.{DirectoryState}
use Rattle.vdi_directory.specs.Effects.{grants, is_used}
use Rattle.vdi_directory.specs.Decisions.{outcome, log_effects}
use Rattle.vdi_directory.specs.States.{VdiState, Reserved, Working, Snapshot, state_after, state_of}
use Rattle.vdi_directory.specs.Sound.{IsLawful}
use Rattle.vdi_directory.specs.Dead.{is_gone, IsDead, is_dead}
use Rattle.vdi_directory.specs.References.{parent_of, own_of, count_in, has_vid, AreReferenceCounts}
use Rattle.vdi_directory.specs.DirectoryState.{IsDirectoryState, lost_by, IsDeadList}
use Rattle.vdi_directory.proofs.StateLemmas.{log_effects-push, is_used-push}
use Rattle.vdi_directory.proofs.SoundEffects.{state_of-push}
use Rattle.vdi_directory.proofs.LawfulEntries.{lawful-outcome, sound-log_effects}
use Rattle.vdi_directory.proofs.DeadLemmas.{chained, dead-before}
use Rattle.vdi_directory.proofs.DeadTests.{test-finds-dead}
use Rattle.vdi_directory.proofs.LineLemmas.{line-log_effects}
use Rattle.vdi_directory.proofs.UnreferencedLemmas.{dead-unreferenced, unreferenced-dead}
use Rattle.vdi_directory.proofs.ReferencesByEffect.{reserved-log_effects, unused-unreferenced, frees, counts-freed, counts-kept}

and-is : (a b c d : Bool) → a ≡ c → b ≡ d → (a && b) ≡ (c && d)
and-is a b c d one two = λ i. one i && two i

and-false : (b : Bool) → (b && false) ≡ false
and-false true = refl
and-false false = refl

-- an effect that frees no id makes none gone
kept-cond : (before : List Effect) (vid : ℕ) (b : Bool) (s : VdiState) → is_gone (cond b s (state_of before vid)) ≡ true → is_gone s ≡ false
    → is_gone (state_of before vid) ≡ true
kept-cond before vid true s gone stands = absurd (both_ways (is_gone s) stands gone)
kept-cond before vid false s gone stands = gone

kept-snapped : (before : List Effect) (vid : ℕ) (a b : Bool) (tag : List ℕ) → is_gone (cond a (Snapshot tag) (cond b Working (state_of before vid))) ≡ true
    → is_gone (state_of before vid) ≡ true
kept-snapped before vid true b tag gone = cc
kept-snapped before vid false true tag gone = cc
kept-snapped before vid false false tag gone = gone

keeps-gone : (before : List Effect) (vid : ℕ) (effect : Effect) → frees effect ≡ false → is_gone (state_after vid (state_of before vid) effect) ≡ true
    → is_gone (state_of before vid) ≡ true
keeps-gone before vid (effects.Reserved grant) kept_all gone = kept-cond before vid (grant.reservation.vid.0 == vid) (Reserved grant.reservation.by) gone refl
keeps-gone before vid (effects.Published of name) kept_all gone = kept-cond before vid (of.0 == vid) Working gone refl
keeps-gone before vid (effects.Snapped snap) kept_all gone = kept-snapped before vid (snap.old.0 == vid) (snap.vid.0 == vid) snap.tag gone
keeps-gone before vid (effects.Deleted of name) kept_all gone = cc
keeps-gone before vid (effects.Withdrawn of) kept_all gone = cc
keeps-gone before vid (effects.Left node) kept_all gone = cc
keeps-gone before vid effect kept_all gone = gone

grants-none : (vid : ℕ) (effect : Effect) → frees effect ≡ true → grants vid effect ≡ false
grants-none vid (effects.Reserved grant) freed = cc
grants-none vid effect freed = refl

-- with the counts of references before and after, an id dies where it has some before and none after
module _ (entries later : List Entry) (counts left : ℕ → ℕ)
    (are : AreReferenceCounts (parent_of (log_effects entries)) (own_of (log_effects entries)) counts)
    (unused : (vid : ℕ) → is_used (log_effects entries) vid ≡ false → counts vid ≡ 0) (vid : ℕ) where
  abbrev old : List Effect
  old = log_effects entries

  abbrev new : List Effect
  new = log_effects later

  used-where : counts vid ≢ 0 → is_used old vid ≡ true
  used-where some = by_test (is_used old vid) refl
    where
      by_test : (b : Bool) → is_used old vid ≡ b → is_used old vid ≡ true
      by_test true is = is
      by_test false is = absurd (some (unused vid is))

  dead-none : counts vid ≡ 0 → is_used old vid ≡ true → is_dead old vid ≡ true
  dead-none none used = (test-finds-dead entries vid).1 (unreferenced-dead old (line-log_effects entries) (chained entries) counts are vid used none)

  not-dead-some : counts vid ≢ 0 → is_dead old vid ≡ false
  not-dead-some some = by_test (is_dead old vid) refl
    where
      by_test : (b : Bool) → is_dead old vid ≡ b → is_dead old vid ≡ false
      by_test true is = absurd (some (dead-unreferenced old (line-log_effects entries) (chained entries) counts are vid ((test-finds-dead entries vid).0 is)))
      by_test false is = is

  module _ (after : AreReferenceCounts (parent_of new) (own_of new) left) (used_same : is_used new vid ≡ is_used old vid) where
    not-dead-unused : is_used old vid ≡ false → is_dead new vid ≡ false
    not-dead-unused out = by_test (is_dead new vid) refl
      where
        by_test : (b : Bool) → is_dead new vid ≡ b → is_dead new vid ≡ false
        by_test true is =
            absurd (both_ways (is_gone (state_of new vid)) (ap is_gone ((sound-log_effects later).unused vid (used_same ∙ out)))
            (((test-finds-dead later vid).0 is).gone))
        by_test false is = is

    not-dead-left : left vid ≢ 0 → is_dead new vid ≡ false
    not-dead-left more = by_test (is_dead new vid) refl
      where
        by_test : (b : Bool) → is_dead new vid ≡ b → is_dead new vid ≡ false
        by_test true is = absurd (more (dead-unreferenced new (line-log_effects later) (chained later) left after vid ((test-finds-dead later vid).0 is)))
        by_test false is = is

    pub dies-where : (nat_lt 0 (counts vid) && left vid == 0) ≡ (is_dead new vid && not (is_dead old vid))
    dies-where = by_place (cases_eq (counts vid) 0) (cases_eq (left vid) 0)
      where
        by_used : counts vid ≡ 0 → (b : Bool) → is_used old vid ≡ b → (is_dead new vid && not (is_dead old vid)) ≡ false
        by_used none true used = ap (λ b. is_dead new vid && not b) (dead-none none used) ∙ and-false (is_dead new vid)
        by_used none false out = ap (λ b. b && not (is_dead old vid)) (not-dead-unused out)

        by_place : (counts vid ≡ 0) ⊎ (counts vid ≢ 0) → (left vid ≡ 0) ⊎ (left vid ≢ 0)
            → (nat_lt 0 (counts vid) && left vid == 0) ≡ (is_dead new vid && not (is_dead old vid))
        by_place (inl none) rest = ap (λ n. nat_lt 0 n && left vid == 0) none ∙ sym (by_used none (is_used old vid) refl)
        by_place (inr some) (inl last) =
            let dead : is_dead new vid ≡ true
            = (test-finds-dead later vid).1
            (unreferenced-dead new (line-log_effects later) (chained later) left after vid (used_same ∙ used-where some) last) in
            and-is (nat_lt 0 (counts vid)) (left vid == 0) true true (lt-ltb 0 (counts vid) (omega (arith, some))) (eq-eqb (left vid) 0 last)
            ∙ sym (and-is (is_dead new vid) (not (is_dead old vid)) true true dead (ap not (not-dead-some some)))
        by_place (inr some) (inr more) =
            ap (λ b. nat_lt 0 (counts vid) && b) (ne_eqb (left vid) 0 more) ∙ and-false (nat_lt 0 (counts vid))
            ∙ sym (ap (λ b. b && not (is_dead old vid)) (not-dead-left more))

  -- where no references go, no id dies
  module _ (same : AreReferenceCounts (parent_of old) (own_of old) left) (kept : IsDead new vid → IsDead old vid) where
    pub dies-nowhere : (nat_lt 0 (counts vid) && left vid == 0) ≡ (is_dead new vid && not (is_dead old vid))
    dies-nowhere = by_place (cases_eq (counts vid) 0) (cases_eq (left vid) 0) ∙ sym (by_test (is_dead new vid) refl)
      where
        by_place : (counts vid ≡ 0) ⊎ (counts vid ≢ 0) → (left vid ≡ 0) ⊎ (left vid ≢ 0) → (nat_lt 0 (counts vid) && left vid == 0) ≡ false
        by_place (inl none) rest = ap (λ n. nat_lt 0 n && left vid == 0) none
        by_place (inr some) (inl last) =
            let dead = unreferenced-dead old (line-log_effects entries) (chained entries) left same vid (used-where some) last in
            absurd (some (dead-unreferenced old (line-log_effects entries) (chained entries) counts are vid dead))
        by_place (inr some) (inr more) = ap (λ b. nat_lt 0 (counts vid) && b) (ne_eqb (left vid) 0 more) ∙ and-false (nat_lt 0 (counts vid))

        by_test : (b : Bool) → is_dead new vid ≡ b → (is_dead new vid && not (is_dead old vid)) ≡ false
        by_test true is =
            ap (λ b. is_dead new vid && not b) ((test-finds-dead entries vid).1 (kept ((test-finds-dead later vid).0 is))) ∙ and-false (is_dead new vid)
        by_test false is = ap (λ b. b && not (is_dead old vid)) is

module _ (entries : List Entry) (entry : Entry) (state : DirectoryState) (is : IsDirectoryState (log_effects entries) state) (vid : ℕ) where
  abbrev before : List Effect
  before = log_effects entries

  abbrev made : Effect
  made = (outcome (log_effects entries) entry).effect

  after-is : log_effects (entries ++ entry ∷ []) ≡ before ++ made ∷ []
  after-is = log_effects-push entries entry

  lawful : IsLawful before made
  lawful = lawful-outcome before (sound-log_effects entries) entry

  used-same : frees made ≡ true → is_used (log_effects (entries ++ entry ∷ [])) vid ≡ is_used before vid
  used-same freed =
      ap (λ all. is_used all vid) after-is ∙ is_used-push before made vid ∙ ap (λ b. is_used before vid || b) (grants-none vid made freed) ∙ or-false (is_used before vid)

  was-dead : frees made ≡ false → IsDead (log_effects (entries ++ entry ∷ [])) vid → IsDead before vid
  was-dead kept_all dead =
      dead-before before (sound-log_effects entries) made lawful (chained entries)
      (λ other gone. keeps-gone before other made kept_all (sym (ap is_gone (state_of-push before made other)) ∙ gone)) vid
      (subst (λ (all : List Effect). IsDead all vid) after-is dead)

  pub dead-by : (ids : List Vid) → IsDeadList (lost_by made state.reservations.items) state ids
      → has_vid vid ids ≡ (is_dead (log_effects (entries ++ entry ∷ [])) vid && not (is_dead (log_effects entries) vid))
  dead-by ids list = (list.are).lost vid ∙ by_test (frees made) refl
    where
      unused : (other : ℕ) → is_used before other ≡ false → count_in state.references other ≡ 0
      unused = unused-unreferenced before (sound-log_effects entries) (reserved-log_effects entries) (line-log_effects entries) state is

      by_test : (b : Bool) → frees made ≡ b → (nat_lt 0 (count_in state.references vid) && list.left vid == 0)
          ≡ (is_dead (log_effects (entries ++ entry ∷ [])) vid && not (is_dead (log_effects entries) vid))
      by_test true freed =
          dies-where entries (entries ++ entry ∷ []) (count_in state.references) list.left is.references unused vid
          (subst (λ (all : List Effect). AreReferenceCounts (parent_of all) (own_of all) list.left) (sym after-is)
          (counts-freed before (sound-log_effects entries) (reserved-log_effects entries) (line-log_effects entries) state is made lawful freed list.left list.loses))
          (used-same freed)
      by_test false kept_all =
          dies-nowhere entries (entries ++ entry ∷ []) (count_in state.references) list.left is.references unused vid
          (counts-kept before (sound-log_effects entries) (reserved-log_effects entries) (line-log_effects entries) state is made kept_all list.left list.loses)
          (was-dead kept_all)
