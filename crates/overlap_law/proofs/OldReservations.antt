-- A reservation on an id that was used already stood then: no id is reserved twice, so no later entry makes it.
use Rattle.std.proofs.Common.{◌≡◌, ℕ, ◌==◌, Bool, true, false, not, cond, List, [], ◌∷◌, ◌++◌, filter, Option, Some, None, refl, sym, ap}
use Rattle.std.proofs.Common.{◌∙◌}
use Rattle.std.specs.List.{find}
use Rattle.std.specs.Option.{option_or}
use Rattle.std.proofs.lemmas.Bool.{eqb-true}
use Rattle.std.proofs.lemmas.List.Folds.{find-append}
use Rattle.object_id.specs.declared.entry.Entry.{Entry}
use Rattle.object_id.specs.declared.node.NodeId.{NodeId}
use Rattle.vdi_directory.specs.declared.effect.Effect.{Effect}
use Rattle.vdi_directory.specs.declared.effect.Effect.TheVariants as effects
use Rattle.vdi_directory.specs.declared.effect.Reservation.{Reservation}
use Rattle.vdi_directory.specs.Decisions.{outcome, log_effects}
use Rattle.vdi_directory.specs.Effects.{grants, is_used, reservations_after, reservations_of, reservation_on}
use Rattle.vdi_directory.specs.Sound.{In, IsSound}
use Rattle.vdi_directory.specs.States.{VdiState, Reserved, state_of}
use Rattle.vdi_directory.proofs.LawfulEntries.{in-find, sound-log_effects}
use Rattle.vdi_directory.proofs.SoundEffects.{in-filter}
use Rattle.vdi_directory.proofs.StateLemmas.{log_effects-push, reservations_of-push}
use Rattle.overlap_law.proofs.GrantedEpochs.{from_front, not_again, used_next}
use Rattle.overlap_law.proofs.WriterChanges.{find-kept, find-kept_none, none_or}

-- what is found among those that are kept is found among all, where all that pass are kept with it
find-was : {X : Type 0} (p q : X → Bool) (xs : List X) (r : X)
    → ((x y : X) → In x xs → In y xs → p x ≡ true → p y ≡ true → q y ≡ true → q x ≡ true)
    → find p (filter q xs) ≡ Some r → find p xs ≡ Some r
find-was {X} p q xs r alike found = by_found (find p xs) refl
  where
    kept : In r (filter q xs) × (p r ≡ true)
    kept = in-find p r (filter q xs) found

    among : In r xs × (q r ≡ true)
    among = in-filter q r xs kept.0

    by_found : (o : Option X) → find p xs ≡ o → find p xs ≡ Some r
    by_found None none = let gone = find-kept_none p q xs none in absurd (cc (found, gone))
    by_found (Some x) there =
        let at = in-find p x xs there in
        there ∙ sym (find-kept p q x xs there (alike x r at.0 among.0 at.1 kept.1 among.1)) ∙ found

module _ (before : List Effect) (sound : IsSound before) (vid : ℕ) where
  abbrev all : List Reservation
  all = reservations_of before

  abbrev is_on : Reservation → Bool
  is_on r = r.vid.0 == vid

  reserver_of : (by other : NodeId) → Reserved by ≡ Reserved other → by ≡ other
  reserver_of by other is = ap of_state is
    where
      of_state : VdiState → NodeId
      of_state (Reserved one) = one
      of_state state = by

  -- those on the id are of one node
  one_node : (x y : Reservation) → In x all → In y all → is_on x ≡ true → is_on y ≡ true → x.by ≡ y.by
  one_node x y in_x in_y on_x on_y =
      reserver_of x.by y.by
      (sym (sound.reservations x in_x).state
      ∙ ap (state_of before) (eqb-true x.vid.0 vid on_x ∙ sym (eqb-true y.vid.0 vid on_y)) ∙ (sound.reservations y in_y).state)

  but_was : (of : ℕ) (r : Reservation) → find is_on (filter (λ (r : Reservation). not (r.vid.0 == of)) all) ≡ Some r
      → find is_on all ≡ Some r
  but_was of r =
      find-was is_on (λ (r : Reservation). not (r.vid.0 == of)) all r
      (λ x y in_x in_y on_x on_y kept.
      ap (λ (n : ℕ). not (n == of)) (eqb-true x.vid.0 vid on_x ∙ sym (eqb-true y.vid.0 vid on_y)) ∙ kept)

  was_after : (effect : Effect) → grants vid effect ≡ false → (r : Reservation) → find is_on (reservations_after all effect) ≡ Some r
      → find is_on all ≡ Some r
  was_after effects.Nothing other r found = found
  was_after (effects.Reserved grant) other r found =
      sym (none_or (find is_on all))
      ∙ (λ i. option_or (find is_on all) (cond (sym other i) (Some grant.reservation) None))
      ∙ sym (find-append is_on all (grant.reservation ∷ [])) ∙ found
  was_after (effects.Published of name) other r found = but_was of.0 r found
  was_after (effects.Snapped snap) other r found = but_was snap.vid.0 r found
  was_after (effects.Deleted of name) other r found = found
  was_after (effects.Held of holder) other r found = found
  was_after (effects.Freed of) other r found = found
  was_after (effects.Withdrawn of) other r found = but_was of.0 r found
  was_after (effects.Left node) other r found =
      find-was is_on (λ (r : Reservation). not (r.by.0 == node.0)) all r
      (λ x y in_x in_y on_x on_y kept. ap (λ (by : NodeId). not (by.0 == node.0)) (one_node x y in_x in_y on_x on_y) ∙ kept) found

abbrev StoodThen : List Entry → ℕ → List Entry → Type 0
StoodThen log vid all = (is_used (log_effects all) vid ≡ true)
    × ((r : Reservation) → reservation_on (record { 0 = vid }) (reservations_of (log_effects all)) ≡ Some r
    → reservation_on (record { 0 = vid }) (reservations_of (log_effects log)) ≡ Some r)

next_stood : (log : List Entry) (vid : ℕ) (all : List Entry) (entry : Entry) → StoodThen log vid all → StoodThen log vid (all ++ entry ∷ [])
next_stood log vid all entry is =
    let made : Effect = (outcome (log_effects all) entry).effect in (
      used_next all entry vid is.0,
      λ r found.
          let there : reservation_on (record { 0 = vid }) (reservations_after (reservations_of (log_effects all)) made) ≡ Some r
          = ap (reservation_on (record { 0 = vid }))
          (sym (reservations_of-push (log_effects all) made) ∙ ap reservations_of (sym (log_effects-push all entry))) ∙ found in
          is.1 r (was_after (log_effects all) (sound-log_effects all) vid made (not_again all entry vid is.0) r there),
    )

pub reservation_was : (log later : List Entry) (vid : ℕ) (r : Reservation) → is_used (log_effects log) vid ≡ true
    → reservation_on (record { 0 = vid }) (reservations_of (log_effects (log ++ later))) ≡ Some r
    → reservation_on (record { 0 = vid }) (reservations_of (log_effects log)) ≡ Some r
reservation_was log later vid r used =
    (from_front (StoodThen log vid) (next_stood log vid) log later (used, λ r found. found)).1 r
