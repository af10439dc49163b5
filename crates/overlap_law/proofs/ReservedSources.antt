-- What holds by its source of each id as it is reserved, and stays so of ids that are used, holds of all that is reserved, whatever the
-- log.
use Rattle.std.proofs.Common.{◌≡◌, inl, inr, ℕ, ◌==◌, not, Bool, true, false, cond, List, [], ◌∷◌, ◌++◌, Some, refl, sym, ap, subst, ◌∙◌}
use Rattle.std.proofs.lemmas.Bool.{eq-eqb}
use Rattle.object_id.specs.declared.entry.Entry.{Entry}
use Rattle.object_id.specs.declared.node.NodeId.{NodeId}
use Rattle.vdi_directory.specs.declared.effect.Effect.{Effect}
use Rattle.vdi_directory.specs.declared.effect.Effect.TheVariants as effects
use Rattle.vdi_directory.specs.declared.effect.Reservation.{Reservation}
use Rattle.vdi_directory.specs.declared.effect.Source.{Source}
use Rattle.vdi_directory.specs.declared.header.Header.{Header}
use Rattle.vdi_directory.specs.Decisions.{outcome, log_effects}
use Rattle.vdi_directory.specs.Effects.{is_used, header_of, header_after, reservations_of, reservations_after}
use Rattle.vdi_directory.specs.Sound.{In, IsParent, IsLawful}
use Rattle.vdi_directory.proofs.LawfulEntries.{lawful-outcome, sound-log_effects}
use Rattle.vdi_directory.proofs.SoundEffects.{in-filter, in-push}
use Rattle.vdi_directory.proofs.StateLemmas.{log_effects-none, log_effects-push, header_of-push, reservations_of-push}
use Rattle.vdi_directory.specs.States.{Unused, Reserved, state_of}
use Rattle.overlap_law.proofs.GrantedEpochs.{from_front}
use Rattle.overlap_law.proofs.MadeEffects.{IsOfSource, IsMadeSo, outcome_so}

-- what an entry has changed is used, and so is what is reserved
pub used_by : (log : List Entry) (vid : ℕ) → (state_of (log_effects log) vid ≡ Unused → ⊥) → is_used (log_effects log) vid ≡ true
used_by log vid moved = by_test (is_used (log_effects log) vid) refl
  where
    by_test : (b : Bool) → is_used (log_effects log) vid ≡ b → b ≡ true
    by_test true is = refl
    by_test false is = absurd (moved ((sound-log_effects log).unused vid is))

pub reserved_used : (log : List Entry) (vid : ℕ) (by : NodeId) → state_of (log_effects log) vid ≡ Reserved by
    → is_used (log_effects log) vid ≡ true
reserved_used log vid by is = used_by log vid (λ unused. apart (sym unused ∙ is))
  where
    apart : Unused ≡ Reserved by → ⊥
    apart same = cc (same)

module _ (Is : List Effect → ℕ → Source → Type 0)
    (stays : (log : List Entry) (entry : Entry) (vid : ℕ) (source : Source) → is_used (log_effects log) vid ≡ true
    → Is (log_effects log) vid source → Is (log_effects (log ++ entry ∷ [])) vid source)
    (reserves : (log : List Entry) (entry : Entry) (source : Source) (vid : ℕ) (header : Header)
    → header_of (log_effects (log ++ entry ∷ [])) vid ≡ Some header → IsOfSource (log_effects log) source header.parent header.spec
    → IsParent (log_effects log) header.parent → Is (log_effects (log ++ entry ∷ [])) vid source) where
  abbrev pub ReservationsAre : List Entry → Type 0
  ReservationsAre log = (reservation : Reservation) → In reservation (reservations_of (log_effects log))
      → Is (log_effects log) reservation.vid.0 reservation.source

  module _ (log : List Entry) (entry : Entry) (before : ReservationsAre log) where
    old_so : (reservation : Reservation) → In reservation (reservations_of (log_effects log))
        → Is (log_effects (log ++ entry ∷ [])) reservation.vid.0 reservation.source
    old_so reservation there =
        stays log entry reservation.vid.0 reservation.source
        (reserved_used log reservation.vid.0 reservation.by ((sound-log_effects log).reservations reservation there).state)
        (before reservation there)

    by_effect : (effect : Effect) → (outcome (log_effects log) entry).effect ≡ effect → IsMadeSo (log_effects log) effect
        → IsLawful (log_effects log) effect
        → (reservation : Reservation) → In reservation (reservations_after (reservations_of (log_effects log)) effect)
        → Is (log_effects (log ++ entry ∷ [])) reservation.vid.0 reservation.source
    by_effect (effects.Reserved grant) is so lawful reservation there = elim (in-push reservation grant.reservation
        (reservations_of (log_effects log)) there) as
        (λ _. Is (log_effects (log ++ entry ∷ [])) reservation.vid.0 reservation.source) [
          | inl old ↦ old_so reservation old
          | inr new ↦ subst (λ (r : Reservation). Is (log_effects (log ++ entry ∷ [])) r.vid.0 r.source) new
              (reserves log entry grant.reservation.source grant.reservation.vid.0 grant.header
              (ap (λ (known : List Effect). header_of known grant.reservation.vid.0) (log_effects-push log entry)
              ∙ header_of-push (log_effects log) (outcome (log_effects log) entry).effect grant.reservation.vid.0
              ∙ ap (header_after grant.reservation.vid.0 (header_of (log_effects log) grant.reservation.vid.0)) is
              ∙ ap (λ (b : Bool). cond b (Some grant.header) (header_of (log_effects log) grant.reservation.vid.0))
              (eq-eqb grant.reservation.vid.0 grant.reservation.vid.0 refl)) so.1 lawful.4)
        ]
    by_effect effects.Nothing is so lawful reservation there = old_so reservation there
    by_effect (effects.Published vid name) is so lawful reservation there =
        old_so reservation
        (in-filter (λ (r : Reservation). not (r.vid.0 == vid.0)) reservation (reservations_of (log_effects log)) there).0
    by_effect (effects.Snapped snap) is so lawful reservation there =
        old_so reservation
        (in-filter (λ (r : Reservation). not (r.vid.0 == snap.vid.0)) reservation (reservations_of (log_effects log)) there).0
    by_effect (effects.Deleted vid name) is so lawful reservation there = old_so reservation there
    by_effect (effects.Held vid holder) is so lawful reservation there = old_so reservation there
    by_effect (effects.Freed vid) is so lawful reservation there = old_so reservation there
    by_effect (effects.Withdrawn vid) is so lawful reservation there =
        old_so reservation
        (in-filter (λ (r : Reservation). not (r.vid.0 == vid.0)) reservation (reservations_of (log_effects log)) there).0
    by_effect (effects.Left node) is so lawful reservation there =
        old_so reservation
        (in-filter (λ (r : Reservation). not (r.by.0 == node.0)) reservation (reservations_of (log_effects log)) there).0

    one_more : ReservationsAre (log ++ entry ∷ [])
    one_more reservation there =
        by_effect (outcome (log_effects log) entry).effect refl (outcome_so (log_effects log) (sound-log_effects log) entry)
        (lawful-outcome (log_effects log) (sound-log_effects log) entry) reservation
        (subst (In reservation) (ap reservations_of (log_effects-push log entry)
        ∙ reservations_of-push (log_effects log) (outcome (log_effects log) entry).effect) there)

  pub reservations_are : (log : List Entry) → ReservationsAre log
  unfolding reservations_of
  reservations_are log = from_front ReservationsAre one_more [] log none
    where
      none : ReservationsAre []
      none reservation there =
          absurd (subst (In reservation) (ap reservations_of log_effects-none) there)
