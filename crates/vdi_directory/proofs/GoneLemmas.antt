-- An id is gone where it is known, not live, and has no reservation.
use Rattle.std.proofs.Common.{◌≡◌, ◌≤◌, ◌==◌, true, false, List, Some, None, is_some, refl, ap, sym, ◌∙◌, arith}
use Rattle.std.specs.List.{list_any}
use Rattle.std.proofs.lemmas.Bool.{eqb-true, both_ways}
use Rattle.object_id.specs.declared.oid.Vid.{Vid}
use Rattle.object_id.specs.declared.entry.Entry.{Entry}
use Rattle.vdi_directory.specs.declared.effect.Reservation.{Reservation}
use Rattle.vdi_directory.specs.declared.effect.Effect.{Effect}
use Rattle.vdi_directory.specs.Effects.{is_used, header_of, reservations_of, reservation_on, live_of}
use Rattle.vdi_directory.specs.Decisions.{log_effects}
use Rattle.vdi_directory.specs.States.{VdiState, Unused, Reserved, Working, Snapshot, Deleted, Freed, rank, state_of, is_live_state}
use Rattle.vdi_directory.specs.Dead.{is_gone}
use Rattle.vdi_directory.proofs.LawfulEntries.{in-find, sound-log_effects}
use Rattle.vdi_directory.proofs.DecisionLaws.{live-is}
use Rattle.vdi_directory.proofs.LineLemmas.{line-log_effects}
use Rattle.vdi_directory.proofs.ReferencesByEffect.{reserved-log_effects, reserved-found}

live-stands : (s : VdiState) → is_live_state s ≡ true → is_gone s ≡ false
live-stands Unused live = cc
live-stands (Reserved by) live = cc
live-stands Working live = refl
live-stands (Snapshot tag) live = refl
live-stands Deleted live = cc
live-stands Freed live = cc

module _ (entries : List Entry) (vid : Vid) where
  abbrev before : List Effect
  before = log_effects entries

  pub unknown-stands : is_some (header_of before vid.0) ≡ false → is_gone (state_of before vid.0) ≡ false
  unknown-stands none = ap is_gone ((sound-log_effects entries).unused vid.0 ((line-log_effects entries).known vid.0 ∙ none))

  pub live-is-here : list_any (λ other. other == vid.0) (live_of before) ≡ true → is_gone (state_of before vid.0) ≡ false
  live-is-here there = live-stands (state_of before vid.0) (sym (live-is entries vid.0) ∙ there)

  pub reserved-stands : (reservation : Reservation) → reservation_on vid (reservations_of before) ≡ Some reservation → is_gone (state_of before vid.0) ≡ false
  reserved-stands reservation there =
      let found = in-find (λ (r : Reservation). r.vid.0 == vid.0) reservation (reservations_of before) there in
      ap (λ v. is_gone (state_of before v)) (sym (eqb-true reservation.vid.0 vid.0 found.1))
      ∙ ap is_gone (((sound-log_effects entries).reservations reservation found.0).state)

  pub rest-is-gone : is_some (header_of before vid.0) ≡ true → list_any (λ other. other == vid.0) (live_of before) ≡ false
      → reservation_on vid (reservations_of before) ≡ None → is_gone (state_of before vid.0) ≡ true
  rest-is-gone known dead none = by_state (state_of before vid.0) refl
    where
      used : is_used before vid.0 ≡ true
      used = (line-log_effects entries).known vid.0 ∙ known

      granted : 1 ≤ rank (state_of before vid.0)
      granted = (line-log_effects entries).granted vid.0 used

      by_state : (s : VdiState) → state_of before vid.0 ≡ s → is_gone (state_of before vid.0) ≡ true
      by_state Unused is = let some = granted in let low : rank (state_of before vid.0) ≡ 0 = ap rank is in absurd (omega (arith, some, low))
      by_state (Reserved by) is = absurd (reserved-found before (reserved-log_effects entries) vid by is none)
      by_state Working is = absurd (both_ways (is_live_state (state_of before vid.0)) (sym (live-is entries vid.0) ∙ dead) (ap is_live_state is))
      by_state (Snapshot tag) is = absurd (both_ways (is_live_state (state_of before vid.0)) (sym (live-is entries vid.0) ∙ dead) (ap is_live_state is))
      by_state Deleted is = ap is_gone is
      by_state Freed is = ap is_gone is
