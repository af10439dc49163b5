-- What is true of whatever entries did stays true with one effect more.
use Rattle.std.proofs.Common.{◌≡◌, ◌⊎◌, inl, inr, ℕ, ◌==◌, not, Bool, true, false, cond, List, [], ◌∷◌, ◌++◌, filter, Option, Some, None, refl, ap, sym, ◌∙◌, subst}
use Rattle.std.specs.Option.{option_map}
use Rattle.std.proofs.lemmas.Bool.{eqb-true, eq-eqb, ne_eqb, both_ways, cond-false, or_parts, not-true}
use Rattle.std.proofs.lemmas.List.Sums.{fold-append}
use Rattle.std.proofs.lemmas.Option.{same_Some}
use Rattle.object_id.specs.declared.oid.Vid.{Vid}
use Rattle.object_id.specs.declared.node.NodeId.{NodeId}
use Rattle.disk_lock.specs.declared.holder.Holder.{Holder}
use Rattle.disk_lock.specs.Locks.{is_of_node, without_node}
use Rattle.vdi_directory.specs.declared.header.Header.{Header}
use Rattle.vdi_directory.specs.declared.live_snapshot.LiveSnapshot.{LiveSnapshot}
use Rattle.vdi_directory.specs.declared.effect.Source.{Source}
use Rattle.vdi_directory.specs.declared.effect.Source.TheVariants as sources
use Rattle.vdi_directory.specs.declared.effect.Reservation.{Reservation}
use Rattle.vdi_directory.specs.declared.effect.Grant.{Grant}
use Rattle.vdi_directory.specs.declared.effect.Snap.{Snap}
use Rattle.vdi_directory.specs.declared.effect.Effect.{Effect}
use Rattle.vdi_directory.specs.declared.effect.Effect.TheVariants as effects
use Rattle.vdi_directory.specs.Names.{Name, is_same_bytes, name_with_working, name_with_snapshot, unless, name_without}
use Rattle.vdi_directory.specs.Effects.{grants, is_used, header_after, header_of, name_after, name_of, reservations_after, reservations_of, holder_after, holder_of}
use Rattle.vdi_directory.specs.States.{VdiState, Unused, Reserved, Working, Snapshot, Deleted, Freed, freed_state, state_after_leave, state_after, state_of, owner_of}
use Rattle.vdi_directory.specs.Sound.{In, IsLiveSnapshot, OwnsBase, IsReservation, IsWorking, IsNameTaken, IsSound, IsLawful}
use Rattle.vdi_directory.proofs.NameLemmas.{same-is, is-same}
use Rattle.vdi_directory.proofs.StateLemmas.{is_used-push, header_of-push, name_of-push, reservations_of-push, holder_of-push}

pub state_of-push : (before : List Effect) (effect : Effect) (vid : ℕ) → state_of (before ++ effect ∷ []) vid ≡ state_after vid (state_of before vid) effect
unfolding state_of
state_of-push before effect vid = fold-append (state_after vid) Unused before (effect ∷ [])

-- membership
pub in-filter : {X : Type 0} (p : X → Bool) (x : X) (xs : List X) → In x (filter p xs) → In x xs × (p x ≡ true)
in-filter p x [] there = absurd there
in-filter p x (y ∷ ys) there = by_test (p y) refl there (in-filter p x ys)
  where
    by_test : (b : Bool) → p y ≡ b → In x (cond b (y ∷ filter p ys) (filter p ys)) → (In x (filter p ys) → In x ys × (p x ≡ true))
        → In x (y ∷ ys) × (p x ≡ true)
    by_test true kept (inl same) later = (inl same, ap p (sym same) ∙ kept)
    by_test true kept (inr there) later = (inr ((later there).0), (later there).1)
    by_test false lost there later = (inr ((later there).0), (later there).1)

pub in-push : {X : Type 0} (x y : X) (xs : List X) → In x (xs ++ y ∷ []) → In x xs ⊎ (y ≡ x)
in-push x y [] (inl same) = inr same
in-push x y [] (inr none) = absurd none
in-push x y (z ∷ zs) (inl same) = inl (inl same)
in-push x y (z ∷ zs) (inr there) = elim (in-push x y zs there) as (λ _. In x (z ∷ zs) ⊎ (y ≡ x)) [ inl old ↦ inl (inr old) | inr new ↦ inr new ]

-- an owner stays
tag-only : (b : Bool) (tag : List ℕ) (header : Option Header)
    → option_map (λ (h : Header). h.name) (cond b (option_map (λ (old : Header). record old { tag = tag }) header) header) ≡ option_map (λ (h : Header). h.name) header
tag-only true tag None = refl
tag-only true tag (Some header) = refl
tag-only false tag header = refl

owner-after : (vid : ℕ) (header : Option Header) (effect : Effect) → grants vid effect ≡ false
    → option_map (λ (h : Header). h.name) (header_after vid header effect) ≡ option_map (λ (h : Header). h.name) header
owner-after vid header (effects.Reserved grant) other = ap (λ b. option_map (λ (h : Header). h.name) (cond b (Some grant.header) header)) other
owner-after vid header (effects.Snapped snap) other = tag-only (snap.old.0 == vid) snap.tag header
owner-after vid header effect other = refl

pub owner-kept : (before : List Effect) (effect : Effect) (vid : ℕ) → grants vid effect ≡ false → owner_of (before ++ effect ∷ []) vid ≡ owner_of before vid
owner-kept before effect vid other =
    ap (option_map (λ (h : Header). h.name)) (header_of-push before effect vid) ∙ owner-after vid (header_of before vid) effect other

module _ (before : List Effect) (sound : IsSound before) where
  -- an id that is known is not granted again
  pub not-granted : (effect : Effect) → IsLawful before effect → (vid : ℕ) (name : List ℕ) → owner_of before vid ≡ Some name → grants vid effect ≡ false
  not-granted (effects.Reserved grant) lawful vid name owner = by_test (grant.reservation.vid.0 == vid) refl
    where
      by_test : (b : Bool) → (grant.reservation.vid.0 == vid) ≡ b → (grant.reservation.vid.0 == vid) ≡ false
      by_test true same = absurd (none (sym (sound.unknown grant.reservation.vid.0 lawful.1) ∙ ap (owner_of before) (eqb-true grant.reservation.vid.0 vid same) ∙ owner))
        where
          none : None ≡ Some name → ⊥
          none e = cc
      by_test false apart = apart
  not-granted effect lawful vid name owner = refl

  owner-stays : (effect : Effect) → IsLawful before effect → (vid : ℕ) (name : List ℕ) → owner_of before vid ≡ Some name
      → owner_of (before ++ effect ∷ []) vid ≡ Some name
  owner-stays effect lawful vid name owner = owner-kept before effect vid (not-granted effect lawful vid name owner) ∙ owner

  base-stays : (effect : Effect) → IsLawful before effect → (name : List ℕ) (source : Source) → OwnsBase before name source
      → OwnsBase (before ++ effect ∷ []) name source
  base-stays effect lawful name sources.Fresh base = tt
  base-stays effect lawful name (sources.Snapshot old tag) base = owner-stays effect lawful old.0 name base
  base-stays effect lawful name sources.Clone base = tt

  reservation-stays : (effect : Effect) → IsLawful before effect → (reservation : Reservation) → IsReservation before reservation
      → state_after reservation.vid.0 (state_of before reservation.vid.0) effect ≡ state_of before reservation.vid.0 → IsReservation (before ++ effect ∷ []) reservation
  reservation-stays effect lawful reservation is same = record {
    state = state_of-push before effect reservation.vid.0 ∙ same ∙ is.state;
    owner = owner-stays effect lawful reservation.vid.0 reservation.name is.owner;
    base = base-stays effect lawful reservation.name reservation.source is.base;
  }

  works : (effect : Effect) → IsLawful before effect → (name : List ℕ) (vid : ℕ) → owner_of before vid ≡ Some name
      → state_after vid (state_of before vid) effect ≡ Working → IsWorking (before ++ effect ∷ []) name vid
  works effect lawful name vid owner is = record {
    state = state_of-push before effect vid ∙ is;
    owner = owner-stays effect lawful vid name owner;
  }

  takes : (effect : Effect) → IsLawful before effect → (name : List ℕ) (vid : ℕ) → owner_of before vid ≡ Some name
      → IsLiveSnapshot (state_after vid (state_of before vid) effect) → IsNameTaken (before ++ effect ∷ []) name vid
  takes effect lawful name vid owner is = record {
    state = (is.0, state_of-push before effect vid ∙ is.1);
    owner = owner-stays effect lawful vid name owner;
  }

  -- the parts of what is true after an effect
  after : (effect : Effect) → IsLawful before effect
      → ((vid : ℕ) → state_of before vid ≡ Unused → grants vid effect ≡ false → state_after vid (state_of before vid) effect ≡ Unused)
      → ((reservation : Reservation) → In reservation (reservations_after (reservations_of before) effect) → IsReservation (before ++ effect ∷ []) reservation)
      → ((name : List ℕ) (vid : Vid) → (name_after name (name_of before name) effect).working ≡ Some vid → IsWorking (before ++ effect ∷ []) name vid.0)
      → ((name : List ℕ) (live_snapshot : LiveSnapshot) → In live_snapshot ((name_after name (name_of before name) effect).live_snapshots) → IsNameTaken (before ++ effect ∷ []) name live_snapshot.vid.0)
      → ((vid : ℕ) (holder : Holder) → holder_after vid (holder_of before vid) effect ≡ Some holder → state_after vid (state_of before vid) effect ≡ Working)
      → IsSound (before ++ effect ∷ [])
  after effect lawful unused reservations working live_snapshots held = record {
    unused = λ vid out.
        let parts = or_parts (is_used before vid) (grants vid effect) (sym (is_used-push before effect vid) ∙ out) in
        state_of-push before effect vid ∙ unused vid (sound.unused vid parts.0) parts.1;
    unknown = λ vid out.
        let parts = or_parts (is_used before vid) (grants vid effect) (sym (is_used-push before effect vid) ∙ out) in
        owner-kept before effect vid parts.1 ∙ sound.unknown vid parts.0;
    reservations = λ reservation there. reservations reservation (subst (In reservation) (reservations_of-push before effect) there);
    working = λ name vid is. working name vid (sym (ap (λ (n : Name). n.working) (name_of-push before effect name)) ∙ is);
    live_snapshots = λ name live_snapshot there. live_snapshots name live_snapshot (subst (λ (n : Name). In live_snapshot n.live_snapshots) (name_of-push before effect name) there);
    held = λ vid holder is. state_of-push before effect vid ∙ held vid holder (sym (holder_of-push before effect vid) ∙ is);
  }

  -- an id in another state is another id
  pub other-id : (a b : ℕ) (s t : VdiState) → state_of before a ≡ s → state_of before b ≡ t → (s ≡ t → ⊥) → (a == b) ≡ false
  other-id a b s t is at apart = ne_eqb a b (λ same. apart (sym is ∙ ap (state_of before) same ∙ at))

  sound-Nothing : IsSound (before ++ effects.Nothing ∷ [])
  sound-Nothing = after effects.Nothing tt
      (λ vid is other. is)
      (λ reservation there. reservation-stays effects.Nothing tt reservation (sound.reservations reservation there) refl)
      (λ name vid is. let w = sound.working name vid is in works effects.Nothing tt name vid.0 w.owner w.state)
      (λ name live_snapshot there. let t = sound.live_snapshots name live_snapshot there in takes effects.Nothing tt name live_snapshot.vid.0 t.owner t.state)
      (λ vid holder is. sound.held vid holder is)

  sound-Reserved : (grant : Grant) → IsLawful before (effects.Reserved grant) → IsSound (before ++ effects.Reserved grant ∷ [])
  sound-Reserved grant lawful = after (effects.Reserved grant) lawful
      (λ vid is other. cond-false (grant.reservation.vid.0 == vid) (Reserved grant.reservation.by) (state_of before vid) other ∙ is)
      (λ reservation there. by_place reservation (in-push reservation grant.reservation (reservations_of before) there))
      (λ name vid is. let w = sound.working name vid is in
      works (effects.Reserved grant) lawful name vid.0 w.owner (kept vid.0 Working w.state (λ e. cc) ∙ w.state))
      (λ name live_snapshot there. let t = sound.live_snapshots name live_snapshot there in
      takes (effects.Reserved grant) lawful name live_snapshot.vid.0 t.owner ((t.state).0, kept live_snapshot.vid.0 (Snapshot ((t.state).0)) ((t.state).1) (λ e. cc) ∙ (t.state).1))
      (λ vid holder is. let w = sound.held vid holder is in kept vid Working w (λ e. cc) ∙ w)
    where
      new : state_of before grant.reservation.vid.0 ≡ Unused
      new = sound.unused grant.reservation.vid.0 lawful.1

      kept : (vid : ℕ) (s : VdiState) → state_of before vid ≡ s → (Unused ≡ s → ⊥) → state_after vid (state_of before vid) (effects.Reserved grant) ≡ state_of before vid
      kept vid s is apart = cond-false (grant.reservation.vid.0 == vid) (Reserved grant.reservation.by) (state_of before vid) (other-id grant.reservation.vid.0 vid Unused s new is apart)

      by_place : (reservation : Reservation) → In reservation (reservations_of before) ⊎ (grant.reservation ≡ reservation) → IsReservation (before ++ effects.Reserved grant ∷ []) reservation
      by_place reservation (inl old) =
          let is = sound.reservations reservation old in
          reservation-stays (effects.Reserved grant) lawful reservation is (kept reservation.vid.0 (Reserved reservation.by) is.state (λ e. cc))
      by_place reservation (inr same) = subst (λ (c : Reservation). IsReservation (before ++ effects.Reserved grant ∷ []) c) same (record {
        state = state_of-push before (effects.Reserved grant) grant.reservation.vid.0
            ∙ ap (λ b. cond b (Reserved grant.reservation.by) (state_of before grant.reservation.vid.0)) (eq-eqb grant.reservation.vid.0 grant.reservation.vid.0 refl);
        owner = ap (option_map (λ (h : Header). h.name)) (header_of-push before (effects.Reserved grant) grant.reservation.vid.0)
            ∙ ap (λ b. option_map (λ (h : Header). h.name) (cond b (Some grant.header) (header_of before grant.reservation.vid.0))) (eq-eqb grant.reservation.vid.0 grant.reservation.vid.0 refl)
            ∙ ap Some lawful.2;
        base = base-stays (effects.Reserved grant) lawful grant.reservation.name grant.reservation.source lawful.3;
      })

-- two ids that a filter tells apart
pub apart-ids : (a b : ℕ) → not (a == b) ≡ true → (b == a) ≡ false
apart-ids a b is = ne_eqb b a (λ same. both_ways (a == b) (not-true (a == b) is) (eq-eqb a b (sym same)))

both-same : {A : Type 0} (b : Bool) (x y : A) → y ≡ x → cond b x y ≡ x
both-same true x y same = refl
both-same false x y same = same

-- a working disk that is left was the working disk, and is another
unless-is : (vid : Vid) (working : Option Vid) (state_after_leave : Vid) → unless vid working ≡ Some state_after_leave → (working ≡ Some state_after_leave) × ((state_after_leave.0 == vid.0) ≡ false)
unless-is vid None state_after_leave is = cc
unless-is vid (Some now) state_after_leave is = by_test (now.0 == vid.0) refl is
  where
    by_test : (b : Bool) → (now.0 == vid.0) ≡ b → cond b None (Some now) ≡ Some state_after_leave → (Some now ≡ Some state_after_leave) × ((state_after_leave.0 == vid.0) ≡ false)
    by_test true same is = cc
    by_test false apart is = (is, ap (λ (v : Vid). v.0 == vid.0) (sym (same_Some now state_after_leave is)) ∙ apart)

name_without-some : (node : ℕ) (held : Option Holder) (holder : Holder) → without_node node held ≡ Some holder → held ≡ Some holder
name_without-some node None holder is = cc
name_without-some node (Some now) holder is = by_test (is_of_node node now) is
  where
    by_test : (b : Bool) → cond b None (Some now) ≡ Some holder → Some now ≡ Some holder
    by_test true is = cc
    by_test false is = is

module _ (before : List Effect) (sound : IsSound before) where
  -- disks of different names are different
  other-owner : (a b : ℕ) (n m : List ℕ) → owner_of before a ≡ Some n → owner_of before b ≡ Some m → is_same_bytes n m ≡ false → (a == b) ≡ false
  other-owner a b n m of_a of_b apart =
      ne_eqb a b (λ same. both_ways (is_same_bytes n m) apart (is-same n m (same_Some n m (sym of_a ∙ ap (owner_of before) same ∙ of_b))))

  sound-Published : (vid : Vid) (name : List ℕ) → IsLawful before (effects.Published vid name) → IsSound (before ++ effects.Published vid name ∷ [])
  sound-Published vid name lawful = after before sound effect lawful
      (λ w is other. kept w Unused is (λ e. cc) ∙ is)
      (λ reservation there. let parts = in-filter (λ (c : Reservation). not (c.vid.0 == vid.0)) reservation (reservations_of before) there in
      reservation-stays before sound effect lawful reservation (sound.reservations reservation parts.0)
      (cond-false (vid.0 == reservation.vid.0) Working (state_of before reservation.vid.0) (apart-ids reservation.vid.0 vid.0 parts.1)))
      (λ n w is. by_name n w (is_same_bytes name n) refl is)
      (λ n live_snapshot there. let t = sound.live_snapshots n live_snapshot (same_live_snapshots n (is_same_bytes name n) live_snapshot there) in
      takes before sound effect lawful n live_snapshot.vid.0 t.owner ((t.state).0, kept live_snapshot.vid.0 (Snapshot ((t.state).0)) ((t.state).1) (λ e. cc) ∙ (t.state).1))
      (λ w holder is. both-same (vid.0 == w) Working (state_of before w) (sound.held w holder is))
    where
      effect : Effect
      effect = effects.Published vid name

      kept : (w : ℕ) (s : VdiState) → state_of before w ≡ s → (Reserved ((lawful.0).0) ≡ s → ⊥) → state_after w (state_of before w) effect ≡ state_of before w
      kept w s is apart = cond-false (vid.0 == w) Working (state_of before w)
          (other-id before sound vid.0 w (Reserved ((lawful.0).0)) s ((lawful.0).1) is apart)

      by_name : (n : List ℕ) (w : Vid) (b : Bool) → is_same_bytes name n ≡ b → (cond b (name_with_working vid (name_of before n)) (name_of before n)).working ≡ Some w
          → IsWorking (before ++ effect ∷ []) n w.0
      by_name n w true same is =
          let here : vid ≡ w = same_Some vid w is in
          subst (λ (v : Vid). IsWorking (before ++ effect ∷ []) n v.0) here
          (works before sound effect lawful n vid.0 (lawful.1 ∙ ap Some (same-is name n same))
          (ap (λ b. cond b Working (state_of before vid.0)) (eq-eqb vid.0 vid.0 refl)))
      by_name n w false apart is =
          let old = sound.working n w is in
          works before sound effect lawful n w.0 old.owner (both-same (vid.0 == w.0) Working (state_of before w.0) old.state)

      same_live_snapshots : (n : List ℕ) (b : Bool) (live_snapshot : LiveSnapshot) → In live_snapshot ((cond b (name_with_working vid (name_of before n)) (name_of before n)).live_snapshots) → In live_snapshot (name_of before n).live_snapshots
      same_live_snapshots n true live_snapshot there = there
      same_live_snapshots n false live_snapshot there = there

  sound-Snapped : (snap : Snap) → IsLawful before (effects.Snapped snap) → IsSound (before ++ effects.Snapped snap ∷ [])
  sound-Snapped snap lawful = after before sound effect lawful
      (λ w is other. kept w Unused is (λ e. cc) (λ e. cc) ∙ is)
      (λ reservation there. let parts = in-filter (λ (c : Reservation). not (c.vid.0 == snap.vid.0)) reservation (reservations_of before) there in
      let was = sound.reservations reservation parts.0 in
      reservation-stays before sound effect lawful reservation was
      (cond-false (snap.old.0 == reservation.vid.0) (Snapshot snap.tag) (cond (snap.vid.0 == reservation.vid.0) Working (state_of before reservation.vid.0))
      (other-id before sound snap.old.0 reservation.vid.0 Working (Reserved reservation.by) old_state was.state (λ e. cc))
      ∙ cond-false (snap.vid.0 == reservation.vid.0) Working (state_of before reservation.vid.0) (apart-ids reservation.vid.0 snap.vid.0 parts.1)))
      (λ n w is. by_name n w (is_same_bytes snap.name n) refl is)
      (λ n live_snapshot there. live_snapshot_of n live_snapshot (is_same_bytes snap.name n) refl there)
      (λ w holder is. by_holder w holder (snap.old.0 == w) (snap.vid.0 == w) is)
    where
      effect : Effect
      effect = effects.Snapped snap

      old_state : state_of before snap.old.0 ≡ Working
      old_state = (lawful.0).state

      kept : (w : ℕ) (s : VdiState) → state_of before w ≡ s → (Working ≡ s → ⊥) → (Reserved ((lawful.1).0) ≡ s → ⊥)
          → state_after w (state_of before w) effect ≡ state_of before w
      kept w s is one two =
          cond-false (snap.old.0 == w) (Snapshot snap.tag) (cond (snap.vid.0 == w) Working (state_of before w)) (other-id before sound snap.old.0 w Working s old_state is one)
          ∙ cond-false (snap.vid.0 == w) Working (state_of before w) (other-id before sound snap.vid.0 w (Reserved ((lawful.1).0)) s ((lawful.1).1) is two)

      by_name : (n : List ℕ) (w : Vid) (b : Bool) → is_same_bytes snap.name n ≡ b
          → (cond b (name_with_snapshot snap.old snap.vid snap.tag (name_of before n)) (name_of before n)).working ≡ Some w → IsWorking (before ++ effect ∷ []) n w.0
      by_name n w true same is =
          subst (λ (v : Vid). IsWorking (before ++ effect ∷ []) n v.0) (same_Some snap.vid w is)
          (works before sound effect lawful n snap.vid.0 (lawful.2 ∙ ap Some (same-is snap.name n same))
          (cond-false (snap.old.0 == snap.vid.0) (Snapshot snap.tag) (cond (snap.vid.0 == snap.vid.0) Working (state_of before snap.vid.0))
          (other-id before sound snap.old.0 snap.vid.0 Working (Reserved ((lawful.1).0)) old_state ((lawful.1).1) (λ e. cc))
          ∙ ap (λ b. cond b Working (state_of before snap.vid.0)) (eq-eqb snap.vid.0 snap.vid.0 refl)))
      by_name n w false apart is =
          let was = sound.working n w is in
          works before sound effect lawful n w.0 was.owner
          (cond-false (snap.old.0 == w.0) (Snapshot snap.tag) (cond (snap.vid.0 == w.0) Working (state_of before w.0))
          (other-owner snap.old.0 w.0 snap.name n ((lawful.0).owner) was.owner apart)
          ∙ both-same (snap.vid.0 == w.0) Working (state_of before w.0) was.state)

      old_live_snapshot : (n : List ℕ) (live_snapshot : LiveSnapshot) → In live_snapshot (name_of before n).live_snapshots → IsNameTaken (before ++ effect ∷ []) n live_snapshot.vid.0
      old_live_snapshot n live_snapshot there =
          let t = sound.live_snapshots n live_snapshot there in
          takes before sound effect lawful n live_snapshot.vid.0 t.owner ((t.state).0, kept live_snapshot.vid.0 (Snapshot ((t.state).0)) ((t.state).1) (λ e. cc) (λ e. cc) ∙ (t.state).1)

      new_live_snapshot : LiveSnapshot
      new_live_snapshot = record { vid = snap.old; tag = snap.tag }

      live_snapshot_of : (n : List ℕ) (live_snapshot : LiveSnapshot) (b : Bool) → is_same_bytes snap.name n ≡ b
          → In live_snapshot ((cond b (name_with_snapshot snap.old snap.vid snap.tag (name_of before n)) (name_of before n)).live_snapshots) → IsNameTaken (before ++ effect ∷ []) n live_snapshot.vid.0
      live_snapshot_of n live_snapshot true same there = elim (in-push live_snapshot new_live_snapshot (name_of before n).live_snapshots there) as (λ _. IsNameTaken (before ++ effect ∷ []) n live_snapshot.vid.0) [
        | inl old ↦ old_live_snapshot n live_snapshot old
        | inr new ↦ subst (λ (s : LiveSnapshot). IsNameTaken (before ++ effect ∷ []) n s.vid.0) new
            (takes before sound effect lawful n snap.old.0 ((lawful.0).owner ∙ ap Some (same-is snap.name n same))
            (snap.tag, ap (λ b. cond b (Snapshot snap.tag) (cond (snap.vid.0 == snap.old.0) Working (state_of before snap.old.0))) (eq-eqb snap.old.0 snap.old.0 refl)))
      ]
      live_snapshot_of n live_snapshot false apart there = old_live_snapshot n live_snapshot there

      by_holder : (w : ℕ) (holder : Holder) (b c : Bool) → cond b None (cond c (Some snap.holder) (holder_of before w)) ≡ Some holder
          → cond b (Snapshot snap.tag) (cond c Working (state_of before w)) ≡ Working
      by_holder w holder true c is = cc
      by_holder w holder false true is = refl
      by_holder w holder false false is = sound.held w holder is

  sound-Deleted : (vid : Vid) (name : List ℕ) → IsLawful before (effects.Deleted vid name) → IsSound (before ++ effects.Deleted vid name ∷ [])
  sound-Deleted vid name lawful = after before sound effect lawful
      (λ w is other. kept w (by_kind w Unused is (λ e. cc) (λ tag e. cc)) ∙ is)
      (λ reservation there. let was = sound.reservations reservation there in
      reservation-stays before sound effect lawful reservation was (kept reservation.vid.0 (by_kind reservation.vid.0 (Reserved reservation.by) was.state (λ e. cc) (λ tag e. cc))))
      (λ n w is. by_name n w (is_same_bytes name n) refl is)
      (λ n live_snapshot there. live_snapshot_of n live_snapshot (is_same_bytes name n) refl there)
      (λ w holder is. kept w (by_holder w holder is lawful) ∙ sound.held w holder is)
    where
      effect : Effect
      effect = effects.Deleted vid name

      owner : owner_of before vid.0 ≡ Some name
      owner = elim lawful as (λ _. owner_of before vid.0 ≡ Some name) [ inl w ↦ (w.0).owner | inr t ↦ t.owner ]

      kept : (w : ℕ) → (vid.0 == w) ≡ false → state_after w (state_of before w) effect ≡ state_of before w
      kept w apart = cond-false (vid.0 == w) Deleted (state_of before w) apart

      by_kind : (w : ℕ) (s : VdiState) → state_of before w ≡ s → (Working ≡ s → ⊥) → ((tag : List ℕ) → Snapshot tag ≡ s → ⊥) → (vid.0 == w) ≡ false
      by_kind w s is one two = elim lawful as (λ _. (vid.0 == w) ≡ false) [
        | inl works ↦ other-id before sound vid.0 w Working s ((works.0).state) is one
        | inr taken ↦ other-id before sound vid.0 w (Snapshot ((taken.state).0)) s ((taken.state).1) is (two ((taken.state).0))
      ]

      by_name : (n : List ℕ) (w : Vid) (b : Bool) → is_same_bytes name n ≡ b → (cond b (name_without vid (name_of before n)) (name_of before n)).working ≡ Some w
          → IsWorking (before ++ effect ∷ []) n w.0
      by_name n w true same is =
          let parts = unless-is vid (name_of before n).working w is in
          let was = sound.working n w parts.0 in
          works before sound effect lawful n w.0 was.owner
          (kept w.0 (ne_eqb vid.0 w.0 (λ here. both_ways (w.0 == vid.0) parts.1 (eq-eqb w.0 vid.0 (sym here)))) ∙ was.state)
      by_name n w false apart is =
          let was = sound.working n w is in
          works before sound effect lawful n w.0 was.owner (kept w.0 (other-owner vid.0 w.0 name n owner was.owner apart) ∙ was.state)

      live_snapshot_of : (n : List ℕ) (live_snapshot : LiveSnapshot) (b : Bool) → is_same_bytes name n ≡ b → In live_snapshot ((cond b (name_without vid (name_of before n)) (name_of before n)).live_snapshots)
          → IsNameTaken (before ++ effect ∷ []) n live_snapshot.vid.0
      live_snapshot_of n live_snapshot true same there =
          let parts = in-filter (λ (s : LiveSnapshot). not (s.vid.0 == vid.0)) live_snapshot (name_of before n).live_snapshots there in
          let was = sound.live_snapshots n live_snapshot parts.0 in
          takes before sound effect lawful n live_snapshot.vid.0 was.owner ((was.state).0, kept live_snapshot.vid.0 (apart-ids live_snapshot.vid.0 vid.0 parts.1) ∙ (was.state).1)
      live_snapshot_of n live_snapshot false apart there =
          let was = sound.live_snapshots n live_snapshot there in
          takes before sound effect lawful n live_snapshot.vid.0 was.owner ((was.state).0, kept live_snapshot.vid.0 (other-owner vid.0 live_snapshot.vid.0 name n owner was.owner apart) ∙ (was.state).1)

      by_holder : (w : ℕ) (holder : Holder) → holder_of before w ≡ Some holder → IsLawful before effect → (vid.0 == w) ≡ false
      by_holder w holder is (inl works) =
          ne_eqb vid.0 w (λ here. none (sym works.1 ∙ ap (holder_of before) here ∙ is))
        where
          none : None ≡ Some holder → ⊥
          none e = cc
      by_holder w holder is (inr taken) = other-id before sound vid.0 w (Snapshot ((taken.state).0)) Working ((taken.state).1) (sound.held w holder is) (λ e. cc)

  sound-Held : (vid : Vid) (by : Holder) → IsLawful before (effects.Held vid by) → IsSound (before ++ effects.Held vid by ∷ [])
  sound-Held vid by lawful = after before sound (effects.Held vid by) lawful
      (λ w is other. is)
      (λ reservation there. reservation-stays before sound (effects.Held vid by) lawful reservation (sound.reservations reservation there) refl)
      (λ n w is. let was = sound.working n w is in works before sound (effects.Held vid by) lawful n w.0 was.owner was.state)
      (λ n live_snapshot there. let was = sound.live_snapshots n live_snapshot there in takes before sound (effects.Held vid by) lawful n live_snapshot.vid.0 was.owner was.state)
      (λ w holder is. by_test w holder (vid.0 == w) refl is)
    where
      by_test : (w : ℕ) (holder : Holder) (b : Bool) → (vid.0 == w) ≡ b → cond b (Some by) (holder_of before w) ≡ Some holder → state_of before w ≡ Working
      by_test w holder true here is = ap (state_of before) (sym (eqb-true vid.0 w here)) ∙ lawful.0
      by_test w holder false apart is = sound.held w holder is

  sound-Freed : (vid : Vid) → IsSound (before ++ effects.Freed vid ∷ [])
  sound-Freed vid = after before sound (effects.Freed vid) tt
      (λ w is other. is)
      (λ reservation there. reservation-stays before sound (effects.Freed vid) tt reservation (sound.reservations reservation there) refl)
      (λ n w is. let was = sound.working n w is in works before sound (effects.Freed vid) tt n w.0 was.owner was.state)
      (λ n live_snapshot there. let was = sound.live_snapshots n live_snapshot there in takes before sound (effects.Freed vid) tt n live_snapshot.vid.0 was.owner was.state)
      (λ w holder is. by_test w holder (vid.0 == w) is)
    where
      by_test : (w : ℕ) (holder : Holder) (b : Bool) → cond b None (holder_of before w) ≡ Some holder → state_of before w ≡ Working
      by_test w holder true is = cc
      by_test w holder false is = sound.held w holder is

  -- only a reservation can be freed
  sound-Withdrawn : (vid : Vid) → IsLawful before (effects.Withdrawn vid) → IsSound (before ++ effects.Withdrawn vid ∷ [])
  sound-Withdrawn vid lawful = after before sound effect lawful
      (λ w is other. kept w Unused is refl ∙ is)
      (λ reservation there. let parts = in-filter (λ (c : Reservation). not (c.vid.0 == vid.0)) reservation (reservations_of before) there in
      reservation-stays before sound effect lawful reservation (sound.reservations reservation parts.0)
      (cond-false (vid.0 == reservation.vid.0) (freed_state (state_of before reservation.vid.0)) (state_of before reservation.vid.0) (apart-ids reservation.vid.0 vid.0 parts.1)))
      (λ n w is. let was = sound.working n w is in works before sound effect lawful n w.0 was.owner (kept w.0 Working was.state refl ∙ was.state))
      (λ n live_snapshot there. let was = sound.live_snapshots n live_snapshot there in
      takes before sound effect lawful n live_snapshot.vid.0 was.owner ((was.state).0, kept live_snapshot.vid.0 (Snapshot ((was.state).0)) ((was.state).1) refl ∙ (was.state).1))
      (λ w holder is. let was = sound.held w holder is in kept w Working was refl ∙ was)
    where
      effect : Effect
      effect = effects.Withdrawn vid

      same : (b : Bool) (s : VdiState) → freed_state s ≡ s → cond b (freed_state s) s ≡ s
      same true s is = is
      same false s is = refl

      kept : (w : ℕ) (s : VdiState) → state_of before w ≡ s → freed_state s ≡ s → state_after w (state_of before w) effect ≡ state_of before w
      kept w s is stays = same (vid.0 == w) (state_of before w) (ap freed_state is ∙ stays ∙ sym is)

  sound-Left : (node : NodeId) → IsSound (before ++ effects.Left node ∷ [])
  sound-Left node = after before sound effect tt
      (λ w is other. kept w Unused is refl ∙ is)
      (λ reservation there. let parts = in-filter (λ (c : Reservation). not (c.by.0 == node.0)) reservation (reservations_of before) there in
      let was = sound.reservations reservation parts.0 in
      reservation-stays before sound effect tt reservation was
      (kept reservation.vid.0 (Reserved reservation.by) was.state (cond-false (reservation.by.0 == node.0) Freed (Reserved reservation.by) (not-true (reservation.by.0 == node.0) parts.1))))
      (λ n w is. let was = sound.working n w is in works before sound effect tt n w.0 was.owner (kept w.0 Working was.state refl ∙ was.state))
      (λ n live_snapshot there. let was = sound.live_snapshots n live_snapshot there in
      takes before sound effect tt n live_snapshot.vid.0 was.owner ((was.state).0, kept live_snapshot.vid.0 (Snapshot ((was.state).0)) ((was.state).1) refl ∙ (was.state).1))
      (λ w holder is. let was = sound.held w holder (name_without-some node.0 (holder_of before w) holder is) in kept w Working was refl ∙ was)
    where
      effect : Effect
      effect = effects.Left node

      kept : (w : ℕ) (s : VdiState) → state_of before w ≡ s → state_after_leave node.0 s ≡ s → state_after w (state_of before w) effect ≡ state_of before w
      kept w s is stays = ap (state_after_leave node.0) is ∙ stays ∙ sym is

  pub sound-push : (effect : Effect) → IsLawful before effect → IsSound (before ++ effect ∷ [])
  sound-push effects.Nothing lawful = sound-Nothing before sound
  sound-push (effects.Reserved grant) lawful = sound-Reserved before sound grant lawful
  sound-push (effects.Published vid name) lawful = sound-Published vid name lawful
  sound-push (effects.Snapped snap) lawful = sound-Snapped snap lawful
  sound-push (effects.Deleted vid name) lawful = sound-Deleted vid name lawful
  sound-push (effects.Held vid holder) lawful = sound-Held vid holder lawful
  sound-push (effects.Freed vid) lawful = sound-Freed vid
  sound-push (effects.Withdrawn vid) lawful = sound-Withdrawn vid lawful
  sound-push (effects.Left node) lawful = sound-Left node
