use Rattle.std.proofs.Common.{◌≡◌, ◌==◌, true, false, is_some, List, Some, None, ap, sym, subst, ◌∙◌}
use Rattle.std.specs.Option.{option_copied}
use Rattle.std.specs.List.{list_any}
use Rattle.std.specs.List.Sorted.{IsNonDecreasing}
use Rattle.object_id.specs.declared.entry.Entry.{Entry}
use Rattle.vdi_directory.specs.declared.effect.Reservation.{Reservation}
use Rattle.vdi_directory.specs.Effects.{header_of, reservations_of, reservation_on, live_of}
use Rattle.vdi_directory.specs.Decisions.{log_effects}
use Rattle.vdi_directory.specs.States.{state_of}
use Rattle.vdi_directory.specs.Dead.{is_gone}
use Rattle.vdi_directory.proofs.LiveLemmas.{live_of-sorted}
use Rattle.vdi_directory.proofs.GoneLemmas.{unknown-stands, live-is-here, reserved-stands, rest-is-gone}
use Rattle.vdi_directory.proofs.directory.Directory.is_gone.Goals as goal

pub returns-then-not-contains_key : goal.returns-then-not-contains_key
returns-then-not-contains_key c =
    let entries : List Entry = c.self.inside.entries.items in
    let none : is_some (header_of (log_effects entries) c.args.vid.0) ≡ false
    = sym (ap is_some (c.self.invariant.headers c.args.vid.0)) ∙ sym c.contains_key.ensures ∙ c.if-not-contains_key.true in
    subst (λ (all : List Entry). false ≡ is_gone (state_of (log_effects all) c.args.vid.0)) c.self.view_is (sym (unknown-stands entries c.args.vid none))

pub has_id-requires : goal.has_id-requires
has_id-requires c =
    subst IsNonDecreasing (sym (c.as_slice.ensures.value ∙ c.self.invariant.live)) (live_of-sorted (log_effects c.self.inside.entries.items))

pub returns-then-has_id : goal.returns-then-has_id
returns-then-has_id c =
    let entries : List Entry = c.self.inside.entries.items in
    let there : list_any (λ other. other == c.args.vid.0) (live_of (log_effects entries)) ≡ true
    = sym (ap (list_any (λ other. other == c.args.vid.0)) (c.as_slice.ensures.value ∙ c.self.invariant.live)) ∙ sym c.has_id.ensures ∙ c.if-has_id.true in
    subst (λ (all : List Entry). false ≡ is_gone (state_of (log_effects all) c.args.vid.0)) c.self.view_is (sym (live-is-here entries c.args.vid there))

pub returns-in-Some : goal.returns-in-Some
returns-in-Some c =
    let entries : List Entry = c.self.inside.entries.items in
    let there : reservation_on c.args.vid (reservations_of (log_effects entries)) ≡ Some c.in-Some._reservation.now
    = sym (ap (reservation_on c.args.vid) (c.deref.ensures.value ∙ c.self.invariant.reservations)) ∙ sym c.reservation_on.ensures
    ∙ ap (option_copied {T = Reservation}) c.in-Some.is in
    subst (λ (all : List Entry). false ≡ is_gone (state_of (log_effects all) c.args.vid.0)) c.self.view_is
    (sym (reserved-stands entries c.args.vid c.in-Some._reservation.now there))

pub returns-in-None : goal.returns-in-None
returns-in-None c =
    let entries : List Entry = c.self.inside.entries.items in
    let known : is_some (header_of (log_effects entries) c.args.vid.0) ≡ true
    = sym (ap is_some (c.self.invariant.headers c.args.vid.0)) ∙ sym c.contains_key.ensures ∙ c.if-not-contains_key.false in
    let dead : list_any (λ other. other == c.args.vid.0) (live_of (log_effects entries)) ≡ false
    = sym (ap (list_any (λ other. other == c.args.vid.0)) (c.as_slice.ensures.value ∙ c.self.invariant.live)) ∙ sym c.has_id.ensures ∙ c.if-has_id.false in
    let none : reservation_on c.args.vid (reservations_of (log_effects entries)) ≡ None
    = sym (ap (reservation_on c.args.vid) (c.deref.ensures.value ∙ c.self.invariant.reservations)) ∙ sym c.reservation_on.ensures
    ∙ ap (option_copied {T = Reservation}) c.in-None.is in
    subst (λ (all : List Entry). true ≡ is_gone (state_of (log_effects all) c.args.vid.0)) c.self.view_is (sym (rest-is-gone entries c.args.vid known dead none))
