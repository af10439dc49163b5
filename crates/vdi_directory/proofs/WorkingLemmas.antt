-- Every working disk is the one of its name: a name is given to one disk at a time.
use Rattle.std.proofs.Common.{◌≡◌, ◌⊎◌, inl, inr, ℕ, ◌==◌, not, Bool, true, false, cond, List, [], ◌∷◌, ◌++◌, Option, Some, None, is_some, refl, ap, sym, ◌∙◌, subst}
use Rattle.std.specs.List.{list_any}
use Rattle.std.proofs.lemmas.Bool.{eqb-true, eq-eqb, ne_eqb, both_ways, or_parts, cond_both}
use Rattle.std.proofs.lemmas.Option.{same_Some}
use Rattle.object_id.specs.declared.oid.Vid.{Vid}
use Rattle.object_id.specs.declared.entry.Entry.{Entry}
use Rattle.vdi_directory.specs.declared.effect.Source.{Source}
use Rattle.vdi_directory.specs.declared.effect.Source.TheVariants as sources
use Rattle.vdi_directory.specs.declared.effect.Reservation.{Reservation}
use Rattle.vdi_directory.specs.declared.effect.Grant.{Grant}
use Rattle.vdi_directory.specs.declared.effect.Effect.{Effect}
use Rattle.vdi_directory.specs.declared.effect.Effect.TheVariants as effects
use Rattle.vdi_directory.specs.Names.{Name, is_same_bytes, name_with_working, name_with_snapshot, unless, name_without}
use Rattle.vdi_directory.specs.Effects.{grants, name_after, name_of, reservations_after, reservations_of}
use Rattle.vdi_directory.specs.Decisions.{names_reservation, is_taken, outcome, log_effects}
use Rattle.vdi_directory.specs.States.{VdiState, Unused, Reserved, Working, Snapshot, Deleted, Freed, freed_state, state_after_leave, state_after, state_of, owner_of}
use Rattle.vdi_directory.specs.Sound.{In, IsWorking, takes_name, HasRoom, IsLawful}
use Rattle.vdi_directory.proofs.NameLemmas.{same-is, is-same}
use Rattle.vdi_directory.proofs.StateLemmas.{log_effects-none, name_of-push, reservations_of-push}
use Rattle.vdi_directory.proofs.SoundEffects.{state_of-push, owner-kept, in-filter, in-push}
use Rattle.vdi_directory.proofs.LawfulEntries.{lawful-outcome, sound-log_effects}
use Rattle.vdi_directory.proofs.DecisionLaws.{kept-later}

abbrev WorkingOf : List Effect → List ℕ → Option Vid
WorkingOf before name = (name_of before name).working

-- while a new disk of a name is reserved, the name has no working disk, and no other reservation
record IsAlone (before : List Effect) (reservation : Reservation) : Type 0 where
  free : WorkingOf before reservation.name ≡ None
  only : (other : Reservation) → In other (reservations_of before) → other.name ≡ reservation.name → other.vid.0 ≡ reservation.vid.0

record AreNamed (before : List Effect) : Type 0 where
  working : (name : List ℕ) (vid : Vid) → IsWorking before name vid.0 → WorkingOf before name ≡ Some vid
  alone : (reservation : Reservation) → In reservation (reservations_of before) → takes_name reservation.source ≡ true → IsAlone before reservation

named-none : AreNamed []
unfolding state_of reservations_of
named-none = record {
  working = λ name vid is. absurd (never is.state);
  alone = λ reservation there new. absurd there;
}
  where
    never : Unused ≡ Working → ⊥
    never e = cc

kept-apart : (a b : ℕ) → not (a == b) ≡ true → a ≡ b → ⊥
kept-apart a b kept same = never (sym (ap not (eq-eqb a b same)) ∙ kept)
  where
    never : false ≡ true → ⊥
    never e = cc

none-some : {X : Type 0} (x : X) (o : Option X) → o ≡ None → o ≡ Some x → ⊥
none-some x o none some = cc

-- what works after an effect, and not by it
working-freed_state : (s : VdiState) → freed_state s ≡ Working → s ≡ Working
working-freed_state (Reserved by) is = cc
working-freed_state s is = is

working-state_after_leave : (node : ℕ) (s : VdiState) → state_after_leave node s ≡ Working → s ≡ Working
working-state_after_leave node (Reserved by) is = by_test (by.0 == node) is
  where
    by_test : (b : Bool) → cond b Freed (Reserved by) ≡ Working → Reserved by ≡ Working
    by_test true is = cc
    by_test false is = is
working-state_after_leave node s is = is

-- a reservation of a name that isn't reserved
not-reserved : (name : List ℕ) (reservation : Reservation) (reservations : List Reservation) → list_any (names_reservation name) reservations ≡ false → In reservation reservations → is_same_bytes reservation.name name ≡ false
not-reserved name reservation [] none there = absurd there
not-reserved name reservation (first ∷ reservations) none there =
    by_place (or_parts (is_same_bytes first.name name) (list_any (names_reservation name) reservations) none) there (not-reserved name reservation reservations)
  where
    by_place : (is_same_bytes first.name name ≡ false) × (list_any (names_reservation name) reservations ≡ false) → In reservation (first ∷ reservations)
        → (list_any (names_reservation name) reservations ≡ false → In reservation reservations → is_same_bytes reservation.name name ≡ false) → is_same_bytes reservation.name name ≡ false
    by_place parts (inl same) later = ap (λ (c : Reservation). is_same_bytes c.name name) (sym same) ∙ parts.0
    by_place parts (inr there) later = later parts.1 there

none-is : {X : Type 0} (o : Option X) → is_some o ≡ false → o ≡ None
none-is None is = refl
none-is (Some x) is = cc

pub vid-is : (a b : Vid) → a.0 ≡ b.0 → a ≡ b
vid-is a b same = λ i. record { 0 = same i }

pub some-vid : (a b : Vid) → Some a ≡ Some b → a.0 ≡ b.0
some-vid a b e = let same : a ≡ b = cc in ap (λ (v : Vid). v.0) same

module _ (before : List Effect) (named : AreNamed before) (effect : Effect) (lawful : IsLawful before effect) where
  abbrev later : List Effect
  later = before ++ effect ∷ []

  -- a disk that worked before
  was-working : (name : List ℕ) (vid : Vid) → grants vid.0 effect ≡ false → owner_of later vid.0 ≡ Some name → state_of before vid.0 ≡ Working
      → WorkingOf before name ≡ Some vid
  was-working name vid none owner was =
      named.working name vid (record { state = was; owner = sym (owner-kept before effect vid.0 none) ∙ owner })

-- the working disks after an effect
module _ (before : List Effect) (named : AreNamed before) (name : List ℕ) (vid : Vid) where
  Finds : Name → Type 0
  Finds now = now.working ≡ Some vid

  works-step : (effect : Effect) → IsLawful before effect → state_after vid.0 (state_of before vid.0) effect ≡ Working
      → owner_of (before ++ effect ∷ []) vid.0 ≡ Some name → Finds (name_after name (name_of before name) effect)
  unfolding Finds
  works-step effects.Nothing lawful is owner = was-working before named effects.Nothing lawful name vid refl owner is
  works-step (effects.Reserved grant) lawful is owner = by_test (grant.reservation.vid.0 == vid.0) refl is
    where
      by_test : (b : Bool) → (grant.reservation.vid.0 == vid.0) ≡ b → cond b (Reserved grant.reservation.by) (state_of before vid.0) ≡ Working → WorkingOf before name ≡ Some vid
      by_test true here is = cc
      by_test false there is = was-working before named (effects.Reserved grant) lawful name vid there owner is
  works-step (effects.Published of other) lawful is owner = by_test (of.0 == vid.0) refl is
    where
      by_test : (b : Bool) → (of.0 == vid.0) ≡ b → cond b Working (state_of before vid.0) ≡ Working
          → (cond (is_same_bytes other name) (name_with_working of (name_of before name)) (name_of before name)).working ≡ Some vid
      by_test true here is =
          let owns : Some other ≡ Some name
          = sym lawful.1 ∙ sym (owner-kept before (effects.Published of other) of.0 refl)
          ∙ ap (owner_of (before ++ effects.Published of other ∷ [])) (eqb-true of.0 vid.0 here) ∙ owner in
          ap (λ b. (cond b (name_with_working of (name_of before name)) (name_of before name)).working) (is-same other name (same_Some other name owns))
          ∙ ap Some (vid-is of vid (eqb-true of.0 vid.0 here))
      by_test false there is =
          let was : WorkingOf before name ≡ Some vid = was-working before named (effects.Published of other) lawful name vid refl owner is in
          cond_both (is_same_bytes other name) (name_with_working of (name_of before name)) (name_of before name) (λ (now : Name). now.working ≡ Some vid)
          (λ same. absurd (none-some vid (WorkingOf before name)
          (ap (WorkingOf before) (sym ((lawful.2).3 ∙ same-is other name same)) ∙ (named.alone ((lawful.2).0) ((lawful.2).1) ((lawful.2).4)).free) was))
          (λ apart. was)
  works-step (effects.Snapped snap) lawful is owner = by_test (snap.old.0 == vid.0) (snap.vid.0 == vid.0) refl refl is
    where
      by_test : (a b : Bool) → (snap.old.0 == vid.0) ≡ a → (snap.vid.0 == vid.0) ≡ b → cond a (Snapshot snap.tag) (cond b Working (state_of before vid.0)) ≡ Working
          → (cond (is_same_bytes snap.name name) (name_with_snapshot snap.old snap.vid snap.tag (name_of before name)) (name_of before name)).working ≡ Some vid
      by_test true b here new is = cc
      by_test false true other here is =
          let owns : Some snap.name ≡ Some name
          = sym lawful.2 ∙ sym (owner-kept before (effects.Snapped snap) snap.vid.0 refl)
          ∙ ap (owner_of (before ++ effects.Snapped snap ∷ [])) (eqb-true snap.vid.0 vid.0 here) ∙ owner in
          ap (λ b. (cond b (name_with_snapshot snap.old snap.vid snap.tag (name_of before name)) (name_of before name)).working) (is-same snap.name name (same_Some snap.name name owns))
          ∙ ap Some (vid-is snap.vid vid (eqb-true snap.vid.0 vid.0 here))
      by_test false false other there is =
          let was : WorkingOf before name ≡ Some vid = was-working before named (effects.Snapped snap) lawful name vid refl owner is in
          cond_both (is_same_bytes snap.name name) (name_with_snapshot snap.old snap.vid snap.tag (name_of before name)) (name_of before name) (λ (now : Name). now.working ≡ Some vid)
          (λ same. absurd (both_ways (snap.old.0 == vid.0) other (eq-eqb snap.old.0 vid.0
          (some-vid snap.old vid (sym (named.working snap.name snap.old lawful.0) ∙ ap (WorkingOf before) (same-is snap.name name same) ∙ was)))))
          (λ apart. was)
  works-step (effects.Deleted of other) lawful is owner = by_test (of.0 == vid.0) refl is
    where
      by_test : (b : Bool) → (of.0 == vid.0) ≡ b → cond b Deleted (state_of before vid.0) ≡ Working
          → (cond (is_same_bytes other name) (name_without of (name_of before name)) (name_of before name)).working ≡ Some vid
      by_test true here is = cc
      by_test false apart is =
          let was : WorkingOf before name ≡ Some vid = was-working before named (effects.Deleted of other) lawful name vid refl owner is in
          cond_both (is_same_bytes other name) (name_without of (name_of before name)) (name_of before name) (λ (now : Name). now.working ≡ Some vid)
          (λ same. ap (unless of) was
          ∙ ap (λ b. cond b None (Some vid)) (ne_eqb vid.0 of.0 (λ is. both_ways (of.0 == vid.0) apart (eq-eqb of.0 vid.0 (sym is)))))
          (λ no. was)
  works-step (effects.Held of holder) lawful is owner = was-working before named (effects.Held of holder) lawful name vid refl owner is
  works-step (effects.Freed of) lawful is owner = was-working before named (effects.Freed of) lawful name vid refl owner is
  works-step (effects.Withdrawn of) lawful is owner = was-working before named (effects.Withdrawn of) lawful name vid refl owner (by_test (of.0 == vid.0) is)
    where
      by_test : (b : Bool) → cond b (freed_state (state_of before vid.0)) (state_of before vid.0) ≡ Working → state_of before vid.0 ≡ Working
      by_test true is = working-freed_state (state_of before vid.0) is
      by_test false is = is
  works-step (effects.Left node) lawful is owner =
      was-working before named (effects.Left node) lawful name vid refl owner (working-state_after_leave node.0 (state_of before vid.0) is)

-- the reservations after an effect
module _ (before : List Effect) (named : AreNamed before) where
  -- some reservations go, and the name of this one stays without a disk
  fewer-reservations : (effect : Effect) (reservation : Reservation) → In reservation (reservations_of before) → takes_name reservation.source ≡ true
      → (WorkingOf before reservation.name ≡ None → (name_after reservation.name (name_of before reservation.name) effect).working ≡ None)
      → ((other : Reservation) → In other (reservations_after (reservations_of before) effect) → In other (reservations_of before)) → IsAlone (before ++ effect ∷ []) reservation
  fewer-reservations effect reservation there new free less =
      let alone = named.alone reservation there new in
      record {
        free = ap (λ (now : Name). now.working) (name_of-push before effect reservation.name) ∙ free alone.free;
        only = λ other in_later same. alone.only other (less other (subst (In other) (reservations_of-push before effect) in_later)) same;
      }

  other-name : (name : List ℕ) (reservation : Reservation) (now : Name) (changed : Name) → (name ≡ reservation.name → ⊥)
      → now.working ≡ None → (cond (is_same_bytes name reservation.name) changed now).working ≡ None
  other-name name reservation now changed apart free =
      cond_both (is_same_bytes name reservation.name) changed now (λ (n : Name). n.working ≡ None) (λ same. absurd (apart (same-is name reservation.name same))) (λ no. free)

  -- a name with room for a new disk has no reservation
  room-free : (name : List ℕ) → is_taken before name ≡ false → (WorkingOf before name ≡ None) × (list_any (names_reservation name) (reservations_of before) ≡ false)
  room-free name room =
      let parts = or_parts (is_some (WorkingOf before name)) (list_any (names_reservation name) (reservations_of before)) room in
      (none-is (WorkingOf before name) parts.0, parts.1)

  -- no reservation of the name stands beside a new disk's
  no-other : (grant : Grant) (source : Source) → HasRoom before grant.reservation.name source → (reservation : Reservation) → In reservation (reservations_of before)
      → grant.reservation.name ≡ reservation.name → (takes_name source ≡ true) ⊎ (takes_name reservation.source ≡ true) → ⊥
  no-other grant sources.Fresh room reservation there same which =
      both_ways (is_same_bytes reservation.name grant.reservation.name)
      (not-reserved grant.reservation.name reservation (reservations_of before) ((room-free grant.reservation.name room).1) there) (is-same reservation.name grant.reservation.name (sym same))
  no-other grant (sources.Snapshot old tag) room reservation there same (inl new) = cc
  no-other grant (sources.Snapshot old tag) room reservation there same (inr new) =
      none-some old (WorkingOf before grant.reservation.name) (ap (WorkingOf before) same ∙ (named.alone reservation there new).free) room
  no-other grant sources.Clone room reservation there same which =
      both_ways (is_same_bytes reservation.name grant.reservation.name)
      (not-reserved grant.reservation.name reservation (reservations_of before) ((room-free grant.reservation.name room).1) there) (is-same reservation.name grant.reservation.name (sym same))

  room-none : (name : List ℕ) (source : Source) → HasRoom before name source → takes_name source ≡ true → WorkingOf before name ≡ None
  room-none name sources.Fresh room new = (room-free name room).0
  room-none name (sources.Snapshot old tag) room new = cc
  room-none name sources.Clone room new = (room-free name room).0

  alone-reserved : (grant : Grant) → IsLawful before (effects.Reserved grant) → (reservation : Reservation)
      → In reservation (reservations_of before ++ grant.reservation ∷ []) → takes_name reservation.source ≡ true → IsAlone (before ++ effects.Reserved grant ∷ []) reservation
  alone-reserved grant lawful reservation there new = by_place (in-push reservation grant.reservation (reservations_of before) there)
    where
      places : (other : Reservation) → In other (reservations_of (before ++ effects.Reserved grant ∷ [])) → In other (reservations_of before) ⊎ (grant.reservation ≡ other)
      places other in_later = in-push other grant.reservation (reservations_of before) (subst (In other) (reservations_of-push before (effects.Reserved grant)) in_later)

      by_place : In reservation (reservations_of before) ⊎ (grant.reservation ≡ reservation) → IsAlone (before ++ effects.Reserved grant ∷ []) reservation
      by_place (inl old) = record {
        free = ap (λ (now : Name). now.working) (name_of-push before (effects.Reserved grant) reservation.name) ∙ (named.alone reservation old new).free;
        only = λ other in_later same. by_other other same (places other in_later);
      }
        where
          by_other : (other : Reservation) → other.name ≡ reservation.name → In other (reservations_of before) ⊎ (grant.reservation ≡ other) → other.vid.0 ≡ reservation.vid.0
          by_other other same (inl was) = (named.alone reservation old new).only other was same
          by_other other same (inr is) =
              absurd (no-other grant grant.reservation.source lawful.5 reservation old (ap (λ (c : Reservation). c.name) is ∙ same) (inr new))
      by_place (inr it) = record {
        free = ap (λ (now : Name). now.working) (name_of-push before (effects.Reserved grant) reservation.name)
            ∙ subst (λ (c : Reservation). WorkingOf before c.name ≡ None) it (room-none grant.reservation.name grant.reservation.source lawful.5 takes);
        only = λ other in_later same. by_other other same (places other in_later);
      }
        where
          takes : takes_name grant.reservation.source ≡ true
          takes = ap (λ (c : Reservation). takes_name c.source) it ∙ new

          by_other : (other : Reservation) → other.name ≡ reservation.name → In other (reservations_of before) ⊎ (grant.reservation ≡ other) → other.vid.0 ≡ reservation.vid.0
          by_other other same (inl was) =
              absurd (no-other grant grant.reservation.source lawful.5 other was (ap (λ (c : Reservation). c.name) it ∙ sym same) (inl takes))
          by_other other same (inr is) = ap (λ (c : Reservation). c.vid.0) (sym is) ∙ ap (λ (c : Reservation). c.vid.0) it

  alone-step : (effect : Effect) → IsLawful before effect → (reservation : Reservation) → In reservation (reservations_after (reservations_of before) effect)
      → takes_name reservation.source ≡ true → IsAlone (before ++ effect ∷ []) reservation
  alone-step effects.Nothing lawful reservation there new = fewer-reservations effects.Nothing reservation there new (λ free. free) (λ other is. is)
  alone-step (effects.Reserved grant) lawful reservation there new = alone-reserved grant lawful reservation there new
  alone-step (effects.Published of other) lawful reservation there new =
      let parts = in-filter (λ (c : Reservation). not (c.vid.0 == of.0)) reservation (reservations_of before) there in
      fewer-reservations (effects.Published of other) reservation parts.0 new
      (other-name other reservation (name_of before reservation.name) (name_with_working of (name_of before reservation.name))
      (λ same. kept-apart reservation.vid.0 of.0 parts.1
      (sym ((named.alone reservation parts.0 new).only ((lawful.2).0) ((lawful.2).1) ((lawful.2).3 ∙ same)) ∙ (lawful.2).2)))
      (λ one is. (in-filter (λ (c : Reservation). not (c.vid.0 == of.0)) one (reservations_of before) is).0)
  alone-step (effects.Snapped snap) lawful reservation there new =
      let parts = in-filter (λ (c : Reservation). not (c.vid.0 == snap.vid.0)) reservation (reservations_of before) there in
      fewer-reservations (effects.Snapped snap) reservation parts.0 new
      (other-name snap.name reservation (name_of before reservation.name) (name_with_snapshot snap.old snap.vid snap.tag (name_of before reservation.name))
      (λ same. none-some snap.old (WorkingOf before snap.name) (ap (WorkingOf before) same ∙ (named.alone reservation parts.0 new).free) (named.working snap.name snap.old lawful.0)))
      (λ one is. (in-filter (λ (c : Reservation). not (c.vid.0 == snap.vid.0)) one (reservations_of before) is).0)
  alone-step (effects.Deleted of other) lawful reservation there new =
      fewer-reservations (effects.Deleted of other) reservation there new
      (λ free. cond_both (is_same_bytes other reservation.name) (name_without of (name_of before reservation.name)) (name_of before reservation.name) (λ (n : Name). n.working ≡ None)
      (λ same. ap (unless of) free) (λ no. free)) (λ one is. is)
  alone-step (effects.Held of holder) lawful reservation there new = fewer-reservations (effects.Held of holder) reservation there new (λ free. free) (λ other is. is)
  alone-step (effects.Freed of) lawful reservation there new = fewer-reservations (effects.Freed of) reservation there new (λ free. free) (λ other is. is)
  alone-step (effects.Withdrawn of) lawful reservation there new =
      fewer-reservations (effects.Withdrawn of) reservation ((in-filter (λ (c : Reservation). not (c.vid.0 == of.0)) reservation (reservations_of before) there).0) new (λ free. free)
      (λ one is. (in-filter (λ (c : Reservation). not (c.vid.0 == of.0)) one (reservations_of before) is).0)
  alone-step (effects.Left node) lawful reservation there new =
      fewer-reservations (effects.Left node) reservation ((in-filter (λ (c : Reservation). not (c.by.0 == node.0)) reservation (reservations_of before) there).0) new (λ free. free)
      (λ one is. (in-filter (λ (c : Reservation). not (c.by.0 == node.0)) one (reservations_of before) is).0)

named-later : (before : List Effect) (effect : Effect) → IsLawful before effect → AreNamed before → AreNamed (before ++ effect ∷ [])
unfolding Finds
named-later before effect lawful named = record {
  working = λ name vid is. ap (λ (now : Name). now.working) (name_of-push before effect name)
      ∙ works-step before named name vid effect lawful (sym (state_of-push before effect vid.0) ∙ is.state) is.owner;
  alone = λ reservation there new. alone-step before named effect lawful reservation (subst (In reservation) (reservations_of-push before effect) there) new;
}

named-log_effects : (entries : List Entry) → AreNamed (log_effects entries)
named-log_effects entries =
    kept-later AreNamed
    (λ es entry is. named-later (log_effects es) (outcome (log_effects es) entry).effect (lawful-outcome (log_effects es) (sound-log_effects es) entry) is)
    entries [] (subst AreNamed (sym log_effects-none) named-none)

pub found-working : (entries : List Entry) (name : List ℕ) (vid : Vid) → IsWorking (log_effects entries) name vid.0 → (name_of (log_effects entries) name).working ≡ Some vid
found-working entries = (named-log_effects entries).working
