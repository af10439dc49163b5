-- What was born of a disk that was available, and is neither deleted nor given back, or of one above it, is good.
use Rattle.std.proofs.Common.{◌≡◌, ◌⊎◌, inl, inr, ⊎_elim, arith, ℕ, ◌≤◌, ◌==◌, not, Bool, true, false, List, [], ◌∷◌, ◌++◌, refl, ap, ◌∙◌}
use Rattle.std.specs.List.{list_any}
use Rattle.std.proofs.lemmas.Bool.{and_from, eq-eqb, eqb-true, or_cases, or_left, or_right}
use Rattle.object_id.specs.declared.entry.Entry.{Entry}
use Rattle.object_id.specs.Oid.{vid_of}
use Rattle.vdi_directory.specs.Chains.{is_above}
use Rattle.vdi_directory.specs.Dead.{is_gone, is_dead}
use Rattle.vdi_directory.specs.Decisions.{log_effects}
use Rattle.vdi_directory.specs.States as States
use Rattle.vdi_directory.specs.States.{VdiState, rank, state_of}
use Rattle.vdi_directory.proofs.DecisionLaws.{states-forward}
use Rattle.vdi_directory.proofs.DeadTests.{test-finds-dead}
use Rattle.overlap_law.specs.Attempts.{AttemptRecord}
use Rattle.overlap_law.specs.BornObjects.{IsBorn}
use Rattle.overlap_law.specs.Holders.{is_object_among, born_objects, is_live_object, is_dead_by_log, is_good, is_of_chain}
use Rattle.overlap_law.specs.Holders.{is_available_disk}
use Rattle.overlap_law.proofs.MadeForDisks.{stands_alive}

-- an object of the disk, or of one above it
abbrev pub IsBelow : List Entry → ℕ → ℕ → Type 0
IsBelow log vid oid = (vid_of oid ≡ vid) ⊎ (is_above (log_effects log) (vid_of oid) vid ≡ true)

-- what is among some and passes a test
found_among : (passes : ℕ → Bool) (oid : ℕ) (oids : List ℕ) → is_object_among oid oids ≡ true → passes oid ≡ true
    → list_any passes oids ≡ true
found_among passes oid [] among is = absurd (cc (among))
found_among passes oid (first ∷ later) among is = ⊎_elim
    (λ (here : (first == oid) ≡ true).
    or_left (passes first) (list_any passes later) (ap passes (eqb-true first oid here) ∙ is))
    (λ (there : is_object_among oid later ≡ true).
    or_right (passes first) (list_any passes later) (found_among passes oid later there is))
    (or_cases (first == oid) (is_object_among oid later) among)

-- what is above an id that stands isn't dead
pub above_lives : (log : List Entry) (elder vid : ℕ) → is_gone (state_of (log_effects log) vid) ≡ false
    → is_above (log_effects log) elder vid ≡ true → is_dead (log_effects log) elder ≡ false
above_lives log elder vid stands above = by_test (is_dead (log_effects log) elder) refl
  where
    by_test : (b : Bool) → is_dead (log_effects log) elder ≡ b → b ≡ false
    by_test true dead =
        let gone = (test-finds-dead log elder).0 dead in
        let never = gone.heirs vid above in
        absurd (cc (never, stands))
    by_test false alive = refl

module _ (log : List Entry) (vid oid : ℕ) where
  -- it was never lacking
  pub never_lacked : (unavailable : List ℕ) → is_available_disk log unavailable vid ≡ true → IsBelow log vid oid
      → not (is_object_among oid unavailable) ≡ true
  unfolding is_available_disk
  never_lacked unavailable available below = by_test (is_object_among oid unavailable) refl
    where
      of_chain : IsBelow log vid oid → is_of_chain (log_effects log) vid oid ≡ true
      of_chain (inl own) = or_left (vid_of oid == vid) (is_above (log_effects log) (vid_of oid) vid) (eq-eqb (vid_of oid) vid own)
      of_chain (inr above) = or_right (vid_of oid == vid) (is_above (log_effects log) (vid_of oid) vid) above

      by_test : (b : Bool) → is_object_among oid unavailable ≡ b → not b ≡ true
      by_test true among =
          let lacking = ap not (found_among (is_of_chain (log_effects log) vid) oid unavailable among (of_chain below)) in
          absurd (cc (lacking, available))
      by_test false none = refl

module _ (log : List Entry) (vid oid : ℕ) (stands : is_gone (state_of (log_effects log) vid) ≡ false) where
  -- its disk isn't dead
  below_alive : IsBelow log vid oid → is_dead_by_log log oid ≡ false
  below_alive (inl own) = ap (is_dead (log_effects log)) own ∙ stands_alive (log_effects log) vid stands
  below_alive (inr above) = above_lives log (vid_of oid) vid stands above

  pub good_below : (attempts : List AttemptRecord) (unavailable : List ℕ) → is_available_disk log unavailable vid ≡ true
      → IsBelow log vid oid
      → IsBorn attempts oid → is_good log attempts unavailable oid ≡ true
  good_below attempts unavailable available below born =
      and_from (is_live_object log attempts oid) (not (is_object_among oid unavailable))
      (and_from (is_object_among oid (born_objects attempts)) (not (is_dead_by_log log oid)) born (ap not (below_alive below)))
      (never_lacked log vid oid unavailable available below)

-- ---- as the log grows

gone_rank : (state : VdiState) → is_gone state ≡ true → 4 ≤ rank state
gone_rank States.Unused gone = absurd (cc (gone))
gone_rank (States.Reserved by) gone = absurd (cc (gone))
gone_rank States.Working gone = absurd (cc (gone))
gone_rank (States.Snapshot tag) gone = absurd (cc (gone))
gone_rank States.Deleted gone = omega arith
gone_rank States.Freed gone = omega arith

rank_gone : (state : VdiState) → 4 ≤ rank state → is_gone state ≡ true
rank_gone States.Unused most = absurd (omega (arith, most))
rank_gone (States.Reserved by) most = absurd (omega (arith, most))
rank_gone States.Working most = absurd (omega (arith, most))
rank_gone (States.Snapshot tag) most = absurd (omega (arith, most))
rank_gone States.Deleted most = refl
rank_gone States.Freed most = refl

-- what is gone stays so
pub stood_before : (log more : List Entry) (vid : ℕ) → is_gone (state_of (log_effects (log ++ more)) vid) ≡ false
    → is_gone (state_of (log_effects log) vid) ≡ false
stood_before log more vid stands = by_test (is_gone (state_of (log_effects log) vid)) refl
  where
    by_test : (b : Bool) → is_gone (state_of (log_effects log) vid) ≡ b → b ≡ false
    by_test false is = refl
    by_test true gone =
        let four = gone_rank (state_of (log_effects log) vid) gone in
        let grows = states-forward log more vid in
        let never = rank_gone (state_of (log_effects (log ++ more)) vid) (omega (arith, four, grows)) in
        absurd (cc (never, stands))
