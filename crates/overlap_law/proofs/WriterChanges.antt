-- The writer of an id stays while no effect takes the id from it; and who becomes its writer is given the id by an effect.
use Rattle.std.proofs.Common.{◌≡◌, ◌⊎◌, inl, inr, ℕ, ◌==◌, Bool, true, false, not, cond, List, [], ◌∷◌, ◌++◌, filter, Option, Some, None}
use Rattle.std.proofs.Common.{refl, sym, ap, ◌∙◌}
use Rattle.std.specs.List.{find}
use Rattle.std.specs.Option.{option_or, option_map_or}
use Rattle.std.proofs.lemmas.Bool.{eqb-true, eq-eqb, both_ways, or_parts, or_right}
use Rattle.std.proofs.lemmas.List.Folds.{find-append}
use Rattle.std.proofs.lemmas.Option.{same_Some}
use Rattle.object_id.specs.declared.oid.Vid.{Vid}
use Rattle.object_id.specs.declared.node.NodeId.{NodeId}
use Rattle.object_id.specs.declared.entry.Entry.{Entry}
use Rattle.disk_lock.specs.declared.holder.Holder.{Holder}
use Rattle.disk_lock.specs.Locks.{is_of_node, without_node}
use Rattle.vdi_directory.specs.declared.effect.Reservation.{Reservation}
use Rattle.vdi_directory.specs.declared.effect.Effect.{Effect}
use Rattle.vdi_directory.specs.declared.effect.Effect.TheVariants as effects
use Rattle.vdi_directory.specs.Decisions.{outcome, log_effects}
use Rattle.vdi_directory.specs.Effects.{reservations_after, reservations_of, reservation_on, holder_after, holder_of}
use Rattle.vdi_directory.specs.Holders.{takes_disk}
use Rattle.vdi_directory.specs.States.{VdiState, Unused, Reserved, Working, state_of}
use Rattle.vdi_directory.specs.Sound.{In, IsSound, IsLawful}
use Rattle.vdi_directory.proofs.HolderLemmas.{stays-after}
use Rattle.vdi_directory.proofs.LawfulEntries.{in-find, lawful-outcome, sound-log_effects}
use Rattle.vdi_directory.proofs.SoundEffects.{in-filter, other-id}
use Rattle.vdi_directory.proofs.StateLemmas.{log_effects-push, reservations_of-push, holder_of-push}
use Rattle.overlap_law.specs.Grants.{gives, reserver, writer_of, takes_writer, given_to}

-- ---- what is found among some that are kept

module _ {X : Type 0} (p q : X → Bool) where
  -- the first that passes is found there, where it is kept
  pub find-kept : (x : X) (xs : List X) → find p xs ≡ Some x → q x ≡ true → find p (filter q xs) ≡ Some x
  find-kept x [] found kept = absurd (cc (found))
  find-kept x (y ∷ ys) found kept = by_test (p y) (q y) refl refl found (find-kept x ys)
    where
      by_test : (a b : Bool) → p y ≡ a → q y ≡ b → cond a (Some y) (find p ys) ≡ Some x
          → (find p ys ≡ Some x → q x ≡ true → find p (filter q ys) ≡ Some x)
          → find p (cond b (y ∷ filter q ys) (filter q ys)) ≡ Some x
      by_test true true passes keeps found later = ap (λ c. cond c (Some y) (find p (filter q ys))) passes ∙ found
      by_test true false passes loses found later = absurd (both_ways (q y) loses (ap q (same_Some y x found) ∙ kept))
      by_test false true fails keeps found later = ap (λ c. cond c (Some y) (find p (filter q ys))) fails ∙ later found kept
      by_test false false fails loses found later = later found kept

  -- where none passes, none is found there
  pub find-kept_none : (xs : List X) → find p xs ≡ None → find p (filter q xs) ≡ None
  find-kept_none [] none = refl
  find-kept_none (y ∷ ys) none = by_test (p y) (q y) refl none (find-kept_none ys)
    where
      by_test : (a b : Bool) → p y ≡ a → cond a (Some y) (find p ys) ≡ None → (find p ys ≡ None → find p (filter q ys) ≡ None)
          → find p (cond b (y ∷ filter q ys) (filter q ys)) ≡ None
      by_test true b passes none later = absurd (cc (none))
      by_test false true fails none later = ap (λ c. cond c (Some y) (find p (filter q ys))) fails ∙ later none
      by_test false false fails none later = later none

  -- where all that pass are kept, the same is found
  pub find-kept_same : ((x : X) → p x ≡ true → q x ≡ true) → (xs : List X) → find p (filter q xs) ≡ find p xs
  find-kept_same kept xs = by_found (find p xs) refl
    where
      by_found : (o : Option X) → find p xs ≡ o → find p (filter q xs) ≡ find p xs
      by_found None none = find-kept_none xs none ∙ sym none
      by_found (Some x) found = find-kept x xs found (kept x (in-find p x xs found).1) ∙ sym found

  -- where none that passes is kept, none is found
  pub find-lost : (xs : List X) → ((x : X) → In x xs → p x ≡ true → q x ≡ false) → find p (filter q xs) ≡ None
  find-lost xs lost = by_found (find p (filter q xs)) refl
    where
      by_found : (o : Option X) → find p (filter q xs) ≡ o → find p (filter q xs) ≡ None
      by_found None none = none
      by_found (Some x) found =
          let (there, passes) = in-find p x (filter q xs) found in
          let (among, keeps) = in-filter q x xs there in
          absurd (both_ways (q x) (lost x among passes) keeps)

-- ---- the writer, by its reservation and its lock

abbrev id_of : ℕ → Vid
id_of vid = record { 0 = vid }

abbrev is_on : ℕ → Reservation → Bool
is_on vid reservation = reservation.vid.0 == vid

abbrev reserved_on : List Effect → ℕ → Option Reservation
reserved_on effects vid = reservation_on (id_of vid) (reservations_of effects)

-- who may write by a reservation, or else by a lock
abbrev pub writer_by : Option Reservation → Option Holder → Option Holder
writer_by reservation holder = option_map_or (λ (reservation : Reservation). Some (reserver reservation)) reservation holder

pub writer-by : (effects : List Effect) (vid : ℕ) → writer_of effects vid ≡ writer_by (reserved_on effects vid) (holder_of effects vid)
unfolding writer_of
writer-by effects vid = refl

pub writer-after : (before : List Effect) (effect : Effect) (vid : ℕ) → writer_of (before ++ effect ∷ []) vid
    ≡ writer_by (reservation_on (id_of vid) (reservations_after (reservations_of before) effect))
    (holder_after vid (holder_of before vid) effect)
unfolding writer_of
writer-after before effect vid =
    λ i. writer_by (reservation_on (id_of vid) (reservations_of-push before effect i)) (holder_of-push before effect vid i)

pub takes_less : (vid : ℕ) (node : NodeId) (effect : Effect) → takes_writer vid node effect ≡ false → takes_disk vid node effect ≡ false
takes_less vid node effects.Nothing is = refl
takes_less vid node (effects.Reserved grant) is = refl
takes_less vid node (effects.Published of name) is = refl
takes_less vid node (effects.Snapped snap) is = (or_parts (snap.old.0 == vid) (snap.vid.0 == vid) is).0
takes_less vid node (effects.Deleted of name) is = refl
takes_less vid node (effects.Held of holder) is = refl
takes_less vid node (effects.Freed of) is = is
takes_less vid node (effects.Withdrawn of) is = refl
takes_less vid node (effects.Left of) is = is

-- an id that isn't this one
kept_apart : (a b c : ℕ) → (a == b) ≡ true → (c == b) ≡ false → not (a == c) ≡ true
kept_apart a b c same apart = by_test (a == c) refl
  where
    by_test : (t : Bool) → (a == c) ≡ t → not (a == c) ≡ true
    by_test true is = absurd (both_ways (c == b) apart (eq-eqb c b (sym (eqb-true a c is) ∙ eqb-true a b same)))
    by_test false is = ap not is

lost_same : (a b c : ℕ) → (a == b) ≡ true → (c == b) ≡ true → not (a == c) ≡ false
lost_same a b c same too = ap not (eq-eqb a c (eqb-true a b same ∙ sym (eqb-true c b too)))

pub none_or : {X : Type 0} (o : Option X) → option_or o None ≡ o
none_or None = refl
none_or (Some x) = refl

module _ (before : List Effect) (sound : IsSound before) (vid : ℕ) where
  abbrev all : List Reservation
  all = reservations_of before

  abbrev now : Option Reservation
  now = find (is_on vid) all

  state_reserved : (reservation : Reservation) → In reservation all → is_on vid reservation ≡ true
      → state_of before vid ≡ Reserved reservation.by
  state_reserved reservation there on =
      ap (state_of before) (sym (eqb-true reservation.vid.0 vid on)) ∙ (sound.reservations reservation there).state

  pub found_reserved : (reservation : Reservation) → now ≡ Some reservation → state_of before vid ≡ Reserved reservation.by
  found_reserved reservation found =
      let (there, on) = in-find (is_on vid) reservation all found in state_reserved reservation there on

  -- a working disk has no reservation, and a reserved id no lock
  pub working_free : state_of before vid ≡ Working → now ≡ None
  working_free works = by_found now refl
    where
      by_found : (o : Option Reservation) → now ≡ o → now ≡ None
      by_found None none = none
      by_found (Some reservation) found = let reserved = found_reserved reservation found in absurd (cc (works, reserved))

  pub reserved_unheld : (by : NodeId) → state_of before vid ≡ Reserved by → holder_of before vid ≡ None
  reserved_unheld by reserved = by_holder (holder_of before vid) refl
    where
      by_holder : (o : Option Holder) → holder_of before vid ≡ o → holder_of before vid ≡ None
      by_holder None none = none
      by_holder (Some holder) held = let works = sound.held vid holder held in absurd (cc (works, reserved))

  -- ---- the writer stays

  pub reservation_stays : (reservation : Reservation) (effect : Effect) → now ≡ Some reservation
      → takes_writer vid reservation.by effect ≡ false
      → find (is_on vid) (reservations_after all effect) ≡ Some reservation
  reservation_stays reservation effects.Nothing found is = found
  reservation_stays reservation (effects.Reserved grant) found is =
      find-append (is_on vid) all (grant.reservation ∷ [])
      ∙ ap (λ (o : Option Reservation). option_or o (find (is_on vid) (grant.reservation ∷ []))) found
  reservation_stays reservation (effects.Published of name) found is =
      find-kept (is_on vid) (λ (r : Reservation). not (r.vid.0 == of.0)) reservation all found
      (kept_apart reservation.vid.0 vid of.0 (in-find (is_on vid) reservation all found).1 is)
  reservation_stays reservation (effects.Snapped snap) found is =
      find-kept (is_on vid) (λ (r : Reservation). not (r.vid.0 == snap.vid.0)) reservation all found
      (kept_apart reservation.vid.0 vid snap.vid.0 (in-find (is_on vid) reservation all found).1
      (or_parts (snap.old.0 == vid) (snap.vid.0 == vid) is).1)
  reservation_stays reservation (effects.Deleted of name) found is = found
  reservation_stays reservation (effects.Held of holder) found is = found
  reservation_stays reservation (effects.Freed of) found is = found
  reservation_stays reservation (effects.Withdrawn of) found is =
      find-kept (is_on vid) (λ (r : Reservation). not (r.vid.0 == of.0)) reservation all found
      (kept_apart reservation.vid.0 vid of.0 (in-find (is_on vid) reservation all found).1 is)
  reservation_stays reservation (effects.Left node) found is =
      find-kept (is_on vid) (λ (r : Reservation). not (r.by.0 == node.0)) reservation all found (ap not is)

  -- no reservation comes on a working disk
  none_comes : (effect : Effect) → IsLawful before effect → state_of before vid ≡ Working
      → find (is_on vid) (reservations_after all effect) ≡ None
  none_comes effects.Nothing lawful works = working_free works
  none_comes (effects.Reserved grant) lawful works =
      find-append (is_on vid) all (grant.reservation ∷ [])
      ∙ ap (λ (o : Option Reservation). option_or o (find (is_on vid) (grant.reservation ∷ []))) (working_free works)
      ∙ ap (λ b. cond b (Some grant.reservation) None)
      (other-id before sound grant.reservation.vid.0 vid Unused Working (sound.unused grant.reservation.vid.0 lawful.1) works (λ e. cc))
  none_comes (effects.Published of name) lawful works =
      find-kept_none (is_on vid) (λ (r : Reservation). not (r.vid.0 == of.0)) all (working_free works)
  none_comes (effects.Snapped snap) lawful works =
      find-kept_none (is_on vid) (λ (r : Reservation). not (r.vid.0 == snap.vid.0)) all (working_free works)
  none_comes (effects.Deleted of name) lawful works = working_free works
  none_comes (effects.Held of holder) lawful works = working_free works
  none_comes (effects.Freed of) lawful works = working_free works
  none_comes (effects.Withdrawn of) lawful works =
      find-kept_none (is_on vid) (λ (r : Reservation). not (r.vid.0 == of.0)) all (working_free works)
  none_comes (effects.Left node) lawful works =
      find-kept_none (is_on vid) (λ (r : Reservation). not (r.by.0 == node.0)) all (working_free works)

  module _ (effect : Effect) (lawful : IsLawful before effect) where
    abbrev later : Option Reservation
    later = find (is_on vid) (reservations_after all effect)

    pub writer_stays : (writer : Holder) → writer_of before vid ≡ Some writer → takes_writer vid writer.node effect ≡ false
        → writer_of (before ++ effect ∷ []) vid ≡ Some writer
    unfolding writer_of
    writer_stays writer is other = writer-after before effect vid ∙ by_found now refl is
      where
        by_found : (o : Option Reservation) → now ≡ o → writer_by o (holder_of before vid) ≡ Some writer
            → writer_by later (holder_after vid (holder_of before vid) effect) ≡ Some writer
        by_found None none held =
            let works = sound.held vid writer held in
            ap (λ (o : Option Reservation). writer_by o (holder_after vid (holder_of before vid) effect)) (none_comes effect lawful works)
            ∙ ap (λ (o : Option Holder). holder_after vid o effect) held
            ∙ stays-after before sound vid writer held effect lawful (takes_less vid writer.node effect other)
        by_found (Some reservation) found own =
            let same : reserver reservation ≡ writer = same_Some (reserver reservation) writer own in
            ap (λ (o : Option Reservation). writer_by o (holder_after vid (holder_of before vid) effect))
            (reservation_stays reservation effect found (ap (λ (h : Holder). takes_writer vid h.node effect) same ∙ other))
            ∙ ap Some same

  -- ---- a new writer is given the id

  nothing_left : {P : Type 0} (writer : Holder) → None ≡ Some writer → P
  nothing_left writer is = absurd (cc (is))

  -- a reserved id loses its reservation: nobody writes it
  freed_none : {P : Type 0} (writer : Holder) (of : Vid) → (of.0 == vid) ≡ true → (by : NodeId) → state_of before of.0 ≡ Reserved by
      → writer_by (find (is_on vid) (filter (λ (r : Reservation). not (r.vid.0 == of.0)) all)) (holder_of before vid) ≡ Some writer → P
  freed_none writer of same by reserved is =
      let none : find (is_on vid) (filter (λ (r : Reservation). not (r.vid.0 == of.0)) all) ≡ None
      = find-lost (is_on vid) (λ (r : Reservation). not (r.vid.0 == of.0)) all (λ r there on. lost_same r.vid.0 vid of.0 on same) in
      let unheld = reserved_unheld by (ap (state_of before) (sym (eqb-true of.0 vid same)) ∙ reserved) in
      nothing_left writer (sym (λ i. writer_by (none i) (unheld i)) ∙ is)

  kept_there : (of : Vid) → (of.0 == vid) ≡ false → find (is_on vid) (filter (λ (r : Reservation). not (r.vid.0 == of.0)) all) ≡ now
  kept_there of apart =
      find-kept_same (is_on vid) (λ (r : Reservation). not (r.vid.0 == of.0)) (λ r on. kept_apart r.vid.0 vid of.0 on apart) all

  by_of : (one other : NodeId) → Reserved one ≡ Reserved other → one ≡ other
  by_of one other is = ap reserver_of is
    where
      reserver_of : VdiState → NodeId
      reserver_of (Reserved by) = by
      reserver_of state = one

  abbrev stays_with : NodeId → Reservation → Bool
  stays_with node r = not (r.by.0 == node.0)

  -- a node leaves
  left_was : (writer : Holder) (node : NodeId)
      → writer_by (find (is_on vid) (filter (λ (r : Reservation). not (r.by.0 == node.0)) all)) (without_node node.0 (holder_of before vid))
      ≡ Some writer
      → writer_by now (holder_of before vid) ≡ Some writer
  left_was writer node is = by_found now refl
    where
      by_found : (o : Option Reservation) → now ≡ o → writer_by o (holder_of before vid) ≡ Some writer
      by_found None none =
          without_some_of node.0 (holder_of before vid) writer
          (sym (ap (λ (o : Option Reservation). writer_by o (without_node node.0 (holder_of before vid)))
          (find-kept_none (is_on vid) (stays_with node) all none)) ∙ is)
        where
          without_some_of : (node : ℕ) (held : Option Holder) (holder : Holder) → without_node node held ≡ Some holder → held ≡ Some holder
          without_some_of node None holder is = absurd (cc (is))
          without_some_of node (Some own) holder is = by_test (is_of_node node own) is
            where
              by_test : (b : Bool) → cond b None (Some own) ≡ Some holder → Some own ≡ Some holder
              by_test true is = absurd (cc (is))
              by_test false is = is
      by_found (Some reservation) found = by_test (reservation.by.0 == node.0) refl
        where
          by_test : (b : Bool) → (reservation.by.0 == node.0) ≡ b → Some (reserver reservation) ≡ Some writer
          by_test true goes =
              let reserved = found_reserved reservation found in
              let none : find (is_on vid) (filter (stays_with node) all) ≡ None
              = find-lost (is_on vid) (stays_with node) all (λ r there on.
              let same : r.by ≡ reservation.by = by_of r.by reservation.by (sym (state_reserved r there on) ∙ reserved) in
              ap not (ap (λ (n : NodeId). n.0 == node.0) same ∙ goes)) in
              let unheld = reserved_unheld reservation.by reserved in
              nothing_left writer (sym (λ i. writer_by (none i) (without_node node.0 (unheld i))) ∙ is)
          by_test false keeps =
              sym (ap (λ (o : Option Reservation). writer_by o (without_node node.0 (holder_of before vid)))
              (find-kept (is_on vid) (stays_with node) reservation all found (ap not keeps))) ∙ is

  -- who may write an id after an effect might before, or is given it by the effect
  pub writer_given : (effect : Effect) → IsLawful before effect → (writer : Holder) → writer_of (before ++ effect ∷ []) vid ≡ Some writer
      → (writer_of before vid ≡ Some writer) ⊎ (gives vid effect ≡ true)
  unfolding writer_of
  writer_given effect lawful writer is = by_effect effect lawful (sym (writer-after before effect vid) ∙ is)
    where
      held_apart : (of : ℕ) (other : Option Holder) → (of == vid) ≡ false
          → writer_by now (cond (of == vid) other (holder_of before vid)) ≡ Some writer
          → writer_by now (holder_of before vid) ≡ Some writer
      held_apart of other apart is = sym (ap (λ b. writer_by now (cond b other (holder_of before vid))) apart) ∙ is

      by_effect : (effect : Effect) → IsLawful before effect
          → writer_by (find (is_on vid) (reservations_after all effect)) (holder_after vid (holder_of before vid) effect) ≡ Some writer
          → (writer_by now (holder_of before vid) ≡ Some writer) ⊎ (gives vid effect ≡ true)
      by_effect effects.Nothing lawful is = inl is
      by_effect (effects.Reserved grant) lawful is = by_test (grant.reservation.vid.0 == vid) refl
        where
          by_test : (b : Bool) → (grant.reservation.vid.0 == vid) ≡ b
              → (writer_by now (holder_of before vid) ≡ Some writer) ⊎ ((grant.reservation.vid.0 == vid) ≡ true)
          by_test true same = inr same
          by_test false apart =
              let same : find (is_on vid) (all ++ grant.reservation ∷ []) ≡ now
              = find-append (is_on vid) all (grant.reservation ∷ [])
              ∙ ap (λ b. option_or now (cond b (Some grant.reservation) None)) apart ∙ none_or now in
              inl (sym (ap (λ (o : Option Reservation). writer_by o (holder_of before vid)) same) ∙ is)
      by_effect (effects.Published of name) ((by, reserved), owner, room) is = by_test (of.0 == vid) refl
        where
          by_test : (b : Bool) → (of.0 == vid) ≡ b → (writer_by now (holder_of before vid) ≡ Some writer) ⊎ (false ≡ true)
          by_test true same = freed_none writer of same by reserved is
          by_test false apart = inl (sym (ap (λ (o : Option Reservation). writer_by o (holder_of before vid)) (kept_there of apart)) ∙ is)
      by_effect (effects.Snapped snap) (works, reserved, owner, holds) is = by_test (snap.vid.0 == vid) (snap.old.0 == vid) refl refl
        where
          by_test : (b c : Bool) → (snap.vid.0 == vid) ≡ b → (snap.old.0 == vid) ≡ c
              → (writer_by now (holder_of before vid) ≡ Some writer) ⊎ ((snap.vid.0 == vid) ≡ true)
          by_test true c same old = inr same
          by_test false true apart old =
              let free = working_free (ap (state_of before) (sym (eqb-true snap.old.0 vid old)) ∙ works.state) in
              let none = kept_there snap.vid apart ∙ free in
              nothing_left writer (sym (λ i. writer_by (none i) (cond (old i) None
              (cond (snap.vid.0 == vid) (Some snap.holder) (holder_of before vid)))) ∙ is)
          by_test false false apart other =
              inl (sym (λ i. writer_by (kept_there snap.vid apart i) (cond (other i) None
              (cond (apart i) (Some snap.holder) (holder_of before vid)))) ∙ is)
      by_effect (effects.Deleted of name) lawful is = inl is
      by_effect (effects.Held of holder) lawful is = by_test (of.0 == vid) refl
        where
          by_test : (b : Bool) → (of.0 == vid) ≡ b → (writer_by now (holder_of before vid) ≡ Some writer) ⊎ ((of.0 == vid) ≡ true)
          by_test true same = inr same
          by_test false apart = inl (held_apart of.0 (Some holder) apart is)
      by_effect (effects.Freed of) lawful is = by_test (of.0 == vid) refl
        where
          by_test : (b : Bool) → (of.0 == vid) ≡ b → (writer_by now (holder_of before vid) ≡ Some writer) ⊎ (false ≡ true)
          by_test true same = inl (by_found now refl (sym (ap (λ b. writer_by now (cond b None (holder_of before vid))) same) ∙ is))
            where
              by_found : (o : Option Reservation) → now ≡ o → writer_by o None ≡ Some writer
                  → writer_by o (holder_of before vid) ≡ Some writer
              by_found None none is = nothing_left writer is
              by_found (Some reservation) found is = is
          by_test false apart = inl (held_apart of.0 None apart is)
      by_effect (effects.Withdrawn of) (by, reserved) is = by_test (of.0 == vid) refl
        where
          by_test : (b : Bool) → (of.0 == vid) ≡ b → (writer_by now (holder_of before vid) ≡ Some writer) ⊎ (false ≡ true)
          by_test true same = freed_none writer of same by reserved is
          by_test false apart = inl (sym (ap (λ (o : Option Reservation). writer_by o (holder_of before vid)) (kept_there of apart)) ∙ is)
      by_effect (effects.Left node) lawful is = inl (left_was writer node is)

  -- ---- the one to whom it is given

  pub unused_free : state_of before vid ≡ Unused → now ≡ None
  unused_free unused = by_found now refl
    where
      by_found : (o : Option Reservation) → now ≡ o → now ≡ None
      by_found None none = none
      by_found (Some reservation) found = let reserved = found_reserved reservation found in absurd (cc (unused, reserved))

  pub unused_unheld : state_of before vid ≡ Unused → holder_of before vid ≡ None
  unused_unheld unused = by_holder (holder_of before vid) refl
    where
      by_holder : (o : Option Holder) → holder_of before vid ≡ o → holder_of before vid ≡ None
      by_holder None none = none
      by_holder (Some holder) held = let works = sound.held vid holder held in absurd (cc (works, unused))

  pub given_writer : (effect : Effect) → IsLawful before effect → gives vid effect ≡ true
      → writer_of (before ++ effect ∷ []) vid ≡ given_to effect
  given_writer effects.Nothing lawful is = absurd (cc (is))
  given_writer (effects.Reserved grant) lawful is =
      let unused = ap (state_of before) (sym (eqb-true grant.reservation.vid.0 vid is)) ∙ sound.unused grant.reservation.vid.0 lawful.1 in
      let found : find (is_on vid) (all ++ grant.reservation ∷ []) ≡ Some grant.reservation
      = find-append (is_on vid) all (grant.reservation ∷ [])
      ∙ (λ i. option_or (unused_free unused i) (cond (is i) (Some grant.reservation) None)) in
      writer-after before (effects.Reserved grant) vid ∙ ap (λ (o : Option Reservation). writer_by o (holder_of before vid)) found
  given_writer (effects.Published of name) lawful is = absurd (cc (is))
  given_writer (effects.Snapped snap) (works, (by, reserved), owner, holds) is =
      let none : find (is_on vid) (filter (λ (r : Reservation). not (r.vid.0 == snap.vid.0)) all) ≡ None
      = find-lost (is_on vid) (λ (r : Reservation). not (r.vid.0 == snap.vid.0)) all
      (λ r there on. lost_same r.vid.0 vid snap.vid.0 on is) in
      let own = ap (state_of before) (sym (eqb-true snap.vid.0 vid is)) ∙ reserved in
      let apart = other-id before sound snap.old.0 vid Working (Reserved by) works.state own (λ e. cc) in
      writer-after before (effects.Snapped snap) vid
      ∙ (λ i. writer_by (none i) (cond (apart i) None (cond (is i) (Some snap.holder) (holder_of before vid))))
  given_writer (effects.Deleted of name) lawful is = absurd (cc (is))
  given_writer (effects.Held of holder) lawful is =
      let free = working_free (ap (state_of before) (sym (eqb-true of.0 vid is)) ∙ lawful.0) in
      writer-after before (effects.Held of holder) vid ∙ (λ i. writer_by (free i) (cond (is i) (Some holder) (holder_of before vid)))
  given_writer (effects.Freed of) lawful is = absurd (cc (is))
  given_writer (effects.Withdrawn of) lawful is = absurd (cc (is))
  given_writer (effects.Left node) lawful is = absurd (cc (is))

  -- what somebody may write is given to nobody, unless it is taken
  pub given_takes : (effect : Effect) → IsLawful before effect → gives vid effect ≡ true → (writer : Holder)
      → writer_of before vid ≡ Some writer
      → takes_writer vid writer.node effect ≡ true
  unfolding writer_of
  given_takes effects.Nothing lawful given writer is = absurd (cc (given))
  given_takes (effects.Reserved grant) lawful given writer is =
      let unused = ap (state_of before) (sym (eqb-true grant.reservation.vid.0 vid given))
      ∙ sound.unused grant.reservation.vid.0 lawful.1 in
      nothing_left writer (sym (λ i. writer_by (unused_free unused i) (unused_unheld unused i)) ∙ is)
  given_takes (effects.Published of name) lawful given writer is = absurd (cc (given))
  given_takes (effects.Snapped snap) lawful given writer is = or_right (snap.old.0 == vid) (snap.vid.0 == vid) given
  given_takes (effects.Deleted of name) lawful given writer is = absurd (cc (given))
  given_takes (effects.Held of holder) lawful given writer is =
      let free = working_free (ap (state_of before) (sym (eqb-true of.0 vid given)) ∙ lawful.0) in
      let unheld = ap (holder_of before) (sym (eqb-true of.0 vid given)) ∙ lawful.1 in
      nothing_left writer (sym (λ i. writer_by (free i) (unheld i)) ∙ is)
  given_takes (effects.Freed of) lawful given writer is = absurd (cc (given))
  given_takes (effects.Withdrawn of) lawful given writer is = absurd (cc (given))
  given_takes (effects.Left node) lawful given writer is = absurd (cc (given))

-- ---- the same of the entries of a log

module _ (log : List Entry) (entry : Entry) (vid : ℕ) where
  abbrev before : List Effect
  before = log_effects log

  abbrev effect : Effect
  effect = (outcome (log_effects log) entry).effect

  pushed : writer_of (log_effects (log ++ entry ∷ [])) vid ≡ writer_of (log_effects log ++ (outcome (log_effects log) entry).effect ∷ [])
      vid
  pushed = ap (λ (all : List Effect). writer_of all vid) (log_effects-push log entry)

  pub entry_keeps_writer : (writer : Holder) → writer_of (log_effects log) vid ≡ Some writer
      → takes_writer vid writer.node (outcome (log_effects log) entry).effect ≡ false
      → writer_of (log_effects (log ++ entry ∷ [])) vid ≡ Some writer
  entry_keeps_writer writer is other =
      pushed ∙ writer_stays before (sound-log_effects log) vid effect (lawful-outcome before (sound-log_effects log) entry) writer is other

  pub entry_gives_writer : (writer : Holder) → writer_of (log_effects (log ++ entry ∷ [])) vid ≡ Some writer
      → (writer_of (log_effects log) vid ≡ Some writer) ⊎ (gives vid (outcome (log_effects log) entry).effect ≡ true)
  entry_gives_writer writer is =
      writer_given before (sound-log_effects log) vid effect (lawful-outcome before (sound-log_effects log) entry) writer (sym pushed ∙ is)

  pub entry_gives_to : gives vid (outcome (log_effects log) entry).effect ≡ true
      → writer_of (log_effects (log ++ entry ∷ [])) vid ≡ given_to (outcome (log_effects log) entry).effect
  entry_gives_to is =
      pushed ∙ given_writer before (sound-log_effects log) vid effect (lawful-outcome before (sound-log_effects log) entry) is

  pub entry_gives_taken : gives vid (outcome (log_effects log) entry).effect ≡ true → (writer : Holder)
      → writer_of (log_effects log) vid ≡ Some writer
      → takes_writer vid writer.node (outcome (log_effects log) entry).effect ≡ true
  entry_gives_taken given writer is =
      given_takes before (sound-log_effects log) vid effect (lawful-outcome before (sound-log_effects log) entry) given writer is
