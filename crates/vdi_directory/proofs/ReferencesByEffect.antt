-- Who bears an id, effect by effect.
use Rattle.std.proofs.Common.{◌≡◌, ◌≢◌, ◌⊎◌, inl, inr, ℕ, ◌+◌, ◌<◌, ◌≤◌, ◌==◌, not, nat_lt, Bool, true, false, cond, List, [], ◌∷◌, ◌++◌, filter, Option, Some, None, refl, ap, sym, ◌∙◌, subst, arith}
use Rattle.std.proofs.lemmas.Bool.{cases_eq, eqb-true, eq-eqb, ne_eqb, both_ways}
use Rattle.object_id.specs.declared.oid.Vid.{Vid}
use Rattle.object_id.specs.declared.node.NodeId.{NodeId}
use Rattle.object_id.specs.declared.entry.Entry.{Entry}
use Rattle.vdi_directory.specs.declared.effect.Reservation.{Reservation}
use Rattle.vdi_directory.specs.declared.effect.Grant.{Grant}
use Rattle.vdi_directory.specs.declared.effect.Snap.{Snap}
use Rattle.vdi_directory.specs.declared.effect.Effect.{Effect}
use Rattle.vdi_directory.specs.declared.effect.Effect.TheVariants as effects
use Rattle.vdi_directory.specs.declared.directory_state.DirectoryState.{DirectoryState}
use Rattle.vdi_directory.specs.Effects.{is_used, header_of, reservations_but, reservations_after, reservations_of, reservation_on}
use Rattle.vdi_directory.specs.Decisions.{outcome, log_effects}
use Rattle.vdi_directory.specs.States.{VdiState, Unused, Reserved, Working, Snapshot, Deleted, Freed, freed_state, state_after_leave, state_after, state_of, is_live_state}
use Rattle.vdi_directory.specs.Sound.{IsParent, IsSound, IsLawful}
use Rattle.vdi_directory.specs.References.{one_if, one, one_parent_reference, references_by, KEY_COUNT, child_references, AreReferenceCounts, stands, header_parent, parent_of, own_of, parent_in, count_in, reserved_once, reserved_by, LosesReferences, IsReferenced}
use Rattle.vdi_directory.specs.DirectoryState.{IsDirectoryState, AreReferencesMade, CanMake, lost_by}
use Rattle.vdi_directory.proofs.StateLemmas.{log_effects-none, reservations_of-push}
use Rattle.vdi_directory.proofs.SoundEffects.{state_of-push}
use Rattle.vdi_directory.proofs.LawfulEntries.{lawful-outcome, sound-log_effects}
use Rattle.vdi_directory.proofs.DecisionLaws.{kept-later}
use Rattle.vdi_directory.proofs.ReferenceLemmas.{one-other, total-zero, total-most, references_by-most, key-below, key-most, child-more}
use Rattle.vdi_directory.proofs.LineLemmas.{IsLine, parent-tagged, parent_of-push}

-- whether an effect frees ids
abbrev pub frees : Effect → Bool
frees (effects.Deleted vid name) = true
frees (effects.Withdrawn vid) = true
frees (effects.Left node) = true
frees _ = false

-- each reserved id has its reservation, once
abbrev reservation_of : NodeId → VdiState → ℕ
reservation_of node Unused = 0
reservation_of node (Reserved by) = one_if (by.0 == node.0)
reservation_of node Working = 0
reservation_of node (Snapshot tag) = 0
reservation_of node Deleted = 0
reservation_of node Freed = 0

no-number : (b : Bool) → ◌≡◌ {A = ℕ} 0 (cond b 0 0)
no-number true = refl
no-number false = refl

reserved-push : (node : NodeId) (reservations : List Reservation) (reservation : Reservation) (vid : ℕ)
    → reserved_by node (reservations ++ reservation ∷ []) vid ≡ reserved_by node reservations vid + reserved_once node reservation vid
reserved-push node [] reservation vid = omega arith
reserved-push node (first ∷ reservations) reservation vid =
    let rest : reserved_by node (reservations ++ reservation ∷ []) vid ≡ reserved_by node reservations vid + reserved_once node reservation vid = reserved-push node reservations reservation vid in
    omega (arith, rest)

-- a claim's part where its id is told apart
reserved-other : (node : NodeId) (reservation : Reservation) (vid : ℕ) → (reservation.vid.0 == vid) ≡ false → reserved_once node reservation vid ≡ 0
reserved-other node reservation vid apart = ap (λ b. cond (reservation.by.0 == node.0) (one_if b) 0) apart ∙ by_test (reservation.by.0 == node.0)
  where
    by_test : (b : Bool) → cond b (one_if false) 0 ≡ 0
    by_test true = refl
    by_test false = refl

filter-first : (b : Bool) (node : NodeId) (first : Reservation) (reservations : List Reservation) (vid : ℕ)
    → reserved_by node (cond b (first ∷ reservations) reservations) vid ≡ cond b (reserved_once node first vid) 0 + reserved_by node reservations vid
filter-first true node first reservations vid = refl
filter-first false node first reservations vid = omega arith

reserved-but : (node : NodeId) (gone : Vid) (reservations : List Reservation) (vid : ℕ)
    → reserved_by node (reservations_but gone reservations) vid ≡ cond (gone.0 == vid) 0 (reserved_by node reservations vid)
reserved-but node gone [] vid = no-number (gone.0 == vid)
reserved-but node gone (first ∷ reservations) vid =
    let rest : reserved_by node (reservations_but gone reservations) vid ≡ cond (gone.0 == vid) 0 (reserved_by node reservations vid) = reserved-but node gone reservations vid in
    filter-first (not (first.vid.0 == gone.0)) node first (reservations_but gone reservations) vid ∙ ap (λ n. cond (not (first.vid.0 == gone.0)) (reserved_once node first vid) 0 + n) rest
    ∙ by_test (first.vid.0 == gone.0) (gone.0 == vid) refl refl
  where
    by_test : (a b : Bool) → (first.vid.0 == gone.0) ≡ a → (gone.0 == vid) ≡ b
        → cond (not a) (reserved_once node first vid) 0 + cond b 0 (reserved_by node reservations vid) ≡ cond b 0 (reserved_once node first vid + reserved_by node reservations vid)
    by_test true true same here = refl
    by_test true false same apart =
        let none : reserved_once node first vid ≡ 0 = reserved-other node first vid (ap (λ v. v == vid) (eqb-true first.vid.0 gone.0 same) ∙ apart) in
        omega (arith, none)
    by_test false true other here =
        let none : reserved_once node first vid ≡ 0
        = reserved-other node first vid (ap (λ v. first.vid.0 == v) (sym (eqb-true gone.0 vid here)) ∙ other) in
        omega (arith, none)
    by_test false false other apart = refl

reserved-state_after_leave : (node gone : NodeId) (reservations : List Reservation) (vid : ℕ)
    → reserved_by node (filter (λ (reservation : Reservation). not (reservation.by.0 == gone.0)) reservations) vid ≡ cond (gone.0 == node.0) 0 (reserved_by node reservations vid)
reserved-state_after_leave node gone [] vid = no-number (gone.0 == node.0)
reserved-state_after_leave node gone (first ∷ reservations) vid =
    let rest : reserved_by node (filter (λ (reservation : Reservation). not (reservation.by.0 == gone.0)) reservations) vid ≡ cond (gone.0 == node.0) 0 (reserved_by node reservations vid)
    = reserved-state_after_leave node gone reservations vid in
    filter-first (not (first.by.0 == gone.0)) node first (filter (λ (reservation : Reservation). not (reservation.by.0 == gone.0)) reservations) vid
    ∙ ap (λ n. cond (not (first.by.0 == gone.0)) (reserved_once node first vid) 0 + n) rest
    ∙ by_test (first.by.0 == gone.0) (gone.0 == node.0) refl refl
  where
    by_test : (a b : Bool) → (first.by.0 == gone.0) ≡ a → (gone.0 == node.0) ≡ b
        → cond (not a) (reserved_once node first vid) 0 + cond b 0 (reserved_by node reservations vid) ≡ cond b 0 (reserved_once node first vid + reserved_by node reservations vid)
    by_test true true same here = refl
    by_test true false same apart =
        let none : reserved_once node first vid ≡ 0
        = ap (λ b. cond b (one first.vid.0 vid) 0) (ap (λ n. n == node.0) (eqb-true first.by.0 gone.0 same) ∙ apart) in
        omega (arith, none)
    by_test false true other here =
        let none : reserved_once node first vid ≡ 0
        = ap (λ b. cond b (one first.vid.0 vid) 0) (ap (λ n. first.by.0 == n) (sym (eqb-true gone.0 node.0 here)) ∙ other) in
        omega (arith, none)
    by_test false false other apart = refl

pub AreReserved : List Effect → Type 0
AreReserved before = (node : NodeId) (vid : ℕ) → reserved_by node (reservations_of before) vid ≡ reservation_of node (state_of before vid)

-- a reserved id has its reservation
find-none : (vid : Vid) (node : NodeId) (reservations : List Reservation) → reservation_on vid reservations ≡ None → reserved_by node reservations vid.0 ≡ 0
find-none vid node [] none = refl
find-none vid node (first ∷ reservations) none = by_test (first.vid.0 == vid.0) refl none (find-none vid node reservations)
  where
    by_test : (b : Bool) → (first.vid.0 == vid.0) ≡ b → cond b (Some first) (reservation_on vid reservations) ≡ None
        → (reservation_on vid reservations ≡ None → reserved_by node reservations vid.0 ≡ 0)
        → reserved_once node first vid.0 + reserved_by node reservations vid.0 ≡ 0
    by_test true here is later = cc
    by_test false apart is later =
        let one : reserved_once node first vid.0 ≡ 0 = reserved-other node first vid.0 apart in
        let rest : reserved_by node reservations vid.0 ≡ 0 = later is in
        omega (arith, one, rest)

pub reserved-found : (before : List Effect) → AreReserved before → (vid : Vid) (by : NodeId) → state_of before vid.0 ≡ Reserved by
    → reservation_on vid (reservations_of before) ≡ None → ⊥
unfolding AreReserved
reserved-found before are vid by state none =
    let nothing : reserved_by by (reservations_of before) vid.0 ≡ 0 = find-none vid by (reservations_of before) none in
    let some : reserved_by by (reservations_of before) vid.0 ≡ 1
    = are by vid.0 ∙ ap (reservation_of by) state ∙ ap one_if (eq-eqb by.0 by.0 refl) in
    absurd (omega (arith, nothing, some))

reserved-none : AreReserved []
unfolding AreReserved reservations_of state_of
reserved-none = λ node vid. refl

module _ (before : List Effect) (sound : IsSound before) (is : AreReserved before) (node : NodeId) (vid : ℕ) where
  -- an id in a state without reservations
  at-state : (other : ℕ) (s : VdiState) → (other == vid) ≡ true → state_of before other ≡ s → reservation_of node s ≡ 0 → reserved_by node (reservations_of before) vid ≡ 0
  unfolding AreReserved
  at-state other s same state none =
      is node vid ∙ ap (λ v. reservation_of node (state_of before v)) (sym (eqb-true other vid same)) ∙ ap (reservation_of node) state ∙ none

  reservation-freed : (s : VdiState) → reservation_of node (freed_state s) ≡ 0
  reservation-freed Unused = refl
  reservation-freed s = refl

  reservation-left : (gone : NodeId) (s : VdiState) → reservation_of node (state_after_leave gone.0 s) ≡ cond (gone.0 == node.0) 0 (reservation_of node s)
  reservation-left gone (Reserved by) = by_test (by.0 == gone.0) (gone.0 == node.0) refl refl
    where
      by_test : (a b : Bool) → (by.0 == gone.0) ≡ a → (gone.0 == node.0) ≡ b → reservation_of node (cond a Freed (Reserved by)) ≡ cond b 0 (one_if (by.0 == node.0))
      by_test true true same here = refl
      by_test true false same apart = sym (ap one_if (ap (λ n. n == node.0) (eqb-true by.0 gone.0 same) ∙ apart))
      by_test false true other here = ap one_if (ap (λ n. by.0 == n) (sym (eqb-true gone.0 node.0 here)) ∙ other)
      by_test false false other apart = refl
  reservation-left gone s = no-number (gone.0 == node.0)

  reserved-step : (effect : Effect) → IsLawful before effect
      → reserved_by node (reservations_after (reservations_of before) effect) vid ≡ reservation_of node (state_after vid (state_of before vid) effect)
  unfolding AreReserved
  reserved-step (effects.Reserved grant) lawful = reserved-push node (reservations_of before) grant.reservation vid ∙ by_test (grant.reservation.vid.0 == vid) refl
    where
      by_test : (b : Bool) → (grant.reservation.vid.0 == vid) ≡ b
          → reserved_by node (reservations_of before) vid + reserved_once node grant.reservation vid ≡ reservation_of node (cond b (Reserved grant.reservation.by) (state_of before vid))
      by_test true same =
          let none : reserved_by node (reservations_of before) vid ≡ 0
          = at-state grant.reservation.vid.0 Unused same (sound.unused grant.reservation.vid.0 lawful.1) refl in
          let once : reserved_once node grant.reservation vid ≡ one_if (grant.reservation.by.0 == node.0)
          = ap (λ b. cond (grant.reservation.by.0 == node.0) (one_if b) 0) same in
          omega (arith, none, once)
      by_test false apart =
          let none : reserved_once node grant.reservation vid ≡ 0 = reserved-other node grant.reservation vid apart in
          let was : reserved_by node (reservations_of before) vid ≡ reservation_of node (state_of before vid) = is node vid in
          omega (arith, none, was)
  reserved-step (effects.Published of name) lawful = reserved-but node of (reservations_of before) vid ∙ by_test (of.0 == vid)
    where
      by_test : (b : Bool) → cond b 0 (reserved_by node (reservations_of before) vid) ≡ reservation_of node (cond b Working (state_of before vid))
      by_test true = refl
      by_test false = is node vid
  reserved-step (effects.Snapped snap) lawful = reserved-but node snap.vid (reservations_of before) vid ∙ by_test (snap.old.0 == vid) (snap.vid.0 == vid) refl
    where
      by_test : (a b : Bool) → (snap.old.0 == vid) ≡ a → cond b 0 (reserved_by node (reservations_of before) vid)
          ≡ reservation_of node (cond a (Snapshot snap.tag) (cond b Working (state_of before vid)))
      by_test true true same = refl
      by_test true false same = at-state snap.old.0 Working same ((lawful.0).state) refl
      by_test false true other = refl
      by_test false false other = is node vid
  reserved-step (effects.Deleted of name) lawful = by_test (of.0 == vid) refl lawful
    where
      by_test : (b : Bool) → (of.0 == vid) ≡ b → IsLawful before (effects.Deleted of name)
          → reserved_by node (reservations_of before) vid ≡ reservation_of node (cond b Deleted (state_of before vid))
      by_test true same (inl works) = at-state of.0 Working same ((works.0).state) refl
      by_test true same (inr taken) = at-state of.0 (Snapshot ((taken.state).0)) same ((taken.state).1) refl
      by_test false apart how = is node vid
  reserved-step (effects.Withdrawn of) lawful = reserved-but node of (reservations_of before) vid ∙ by_test (of.0 == vid)
    where
      by_test : (b : Bool) → cond b 0 (reserved_by node (reservations_of before) vid) ≡ reservation_of node (cond b (freed_state (state_of before vid)) (state_of before vid))
      by_test true = sym (reservation-freed (state_of before vid))
      by_test false = is node vid
  reserved-step (effects.Left gone) lawful =
      reserved-state_after_leave node gone (reservations_of before) vid ∙ ap (λ n. cond (gone.0 == node.0) 0 n) (is node vid) ∙ sym (reservation-left gone (state_of before vid))
  reserved-step effect lawful = is node vid

reserved-later : (before : List Effect) → IsSound before → (effect : Effect) → IsLawful before effect → AreReserved before → AreReserved (before ++ effect ∷ [])
unfolding AreReserved
reserved-later before sound effect lawful is node vid =
    ap (λ reservations. reserved_by node reservations vid) (reservations_of-push before effect) ∙ reserved-step before sound is node vid effect lawful
    ∙ sym (ap (reservation_of node) (state_of-push before effect vid))

pub reserved-log_effects : (entries : List Entry) → AreReserved (log_effects entries)
reserved-log_effects entries =
    kept-later AreReserved
    (λ es entry is. reserved-later (log_effects es) (sound-log_effects es) (outcome (log_effects es) entry).effect (lawful-outcome (log_effects es) (sound-log_effects es) entry) is)
    entries [] (subst AreReserved (sym log_effects-none) reserved-none)

-- what bears itself, effect by effect
stands-freed_state : (s : VdiState) (by : NodeId) → s ≡ Reserved by → one_if (stands s) ≡ one_if (stands (freed_state s)) + 1
stands-freed_state s by is = ap (λ (t : VdiState). one_if (stands t)) is ∙ sym (ap (λ (t : VdiState). one_if (stands (freed_state t)) + 1) is)

stands-state_after_leave : (node : NodeId) (s : VdiState) → one_if (stands s) ≡ one_if (stands (state_after_leave node.0 s)) + reservation_of node s
stands-state_after_leave node (Reserved by) = by_test (by.0 == node.0)
  where
    by_test : (b : Bool) → 1 ≡ one_if (stands (cond b Freed (Reserved by))) + one_if b
    by_test true = refl
    by_test false = refl
stands-state_after_leave node s = refl

live-stands : (s : VdiState) → is_live_state s ≡ true → one_if (stands s) ≡ 1
live-stands Working live = refl
live-stands (Snapshot tag) live = refl
live-stands s live = cc

plus-none : (n : ℕ) → n ≡ n + 0
plus-none n = omega arith

module _ (before : List Effect) (sound : IsSound before) (reserved : AreReserved before) (line : IsLine before) where
  own_of-push : (effect : Effect) (vid : ℕ) → own_of (before ++ effect ∷ []) vid ≡ one_if (stands (state_after vid (state_of before vid) effect))
  own_of-push effect vid = ap (λ (s : VdiState). one_if (stands s)) (state_of-push before effect vid)

  -- at an id whose state is known
  own-at : (other vid : ℕ) (s : VdiState) → (other == vid) ≡ true → state_of before other ≡ s → own_of before vid ≡ one_if (stands s)
  own-at other vid s same is = ap (λ v. own_of before v) (sym (eqb-true other vid same)) ∙ ap (λ (t : VdiState). one_if (stands t)) is

  own-published : (of : Vid) (name : List ℕ) → IsLawful before (effects.Published of name) → (vid : ℕ)
      → own_of (before ++ effects.Published of name ∷ []) vid ≡ own_of before vid
  own-published of name lawful vid = own_of-push (effects.Published of name) vid ∙ by_test (of.0 == vid) refl
    where
      by_test : (b : Bool) → (of.0 == vid) ≡ b → one_if (stands (cond b Working (state_of before vid))) ≡ own_of before vid
      by_test true same = sym (own-at of.0 vid (Reserved ((lawful.0).0)) same ((lawful.0).1))
      by_test false apart = refl

  own-snapped : (snap : Snap) → IsLawful before (effects.Snapped snap) → (vid : ℕ)
      → own_of (before ++ effects.Snapped snap ∷ []) vid ≡ own_of before vid
  own-snapped snap lawful vid = own_of-push (effects.Snapped snap) vid ∙ by_test (snap.old.0 == vid) (snap.vid.0 == vid) refl refl
    where
      by_test : (a b : Bool) → (snap.old.0 == vid) ≡ a → (snap.vid.0 == vid) ≡ b
          → one_if (stands (cond a (Snapshot snap.tag) (cond b Working (state_of before vid)))) ≡ own_of before vid
      by_test true b same here = sym (own-at snap.old.0 vid Working same ((lawful.0).state))
      by_test false true other here = sym (own-at snap.vid.0 vid (Reserved ((lawful.1).0)) here ((lawful.1).1))
      by_test false false other apart = refl

  own-reserved : (grant : Grant) → IsLawful before (effects.Reserved grant) → (vid : ℕ)
      → own_of (before ++ effects.Reserved grant ∷ []) vid ≡ own_of before vid + one grant.reservation.vid.0 vid
  own-reserved grant lawful vid = own_of-push (effects.Reserved grant) vid ∙ by_test (grant.reservation.vid.0 == vid) refl
    where
      by_test : (b : Bool) → (grant.reservation.vid.0 == vid) ≡ b → one_if (stands (cond b (Reserved grant.reservation.by) (state_of before vid))) ≡ own_of before vid + one_if b
      by_test true same =
          let none : own_of before vid ≡ 0 = own-at grant.reservation.vid.0 vid Unused same (sound.unused grant.reservation.vid.0 lawful.1) in
          omega (arith, none)
      by_test false apart = plus-none (own_of before vid)

  own-deleted : (of : Vid) (name : List ℕ) → IsLawful before (effects.Deleted of name) → (vid : ℕ)
      → own_of before vid ≡ own_of (before ++ effects.Deleted of name ∷ []) vid + one of.0 vid
  own-deleted of name lawful vid = by_test (of.0 == vid) refl lawful ∙ ap (λ n. n + one of.0 vid) (sym (own_of-push (effects.Deleted of name) vid))
    where
      by_test : (b : Bool) → (of.0 == vid) ≡ b → IsLawful before (effects.Deleted of name)
          → own_of before vid ≡ one_if (stands (cond b Deleted (state_of before vid))) + one_if b
      by_test true same (inl works) = own-at of.0 vid Working same ((works.0).state)
      by_test true same (inr taken) = own-at of.0 vid (Snapshot ((taken.state).0)) same ((taken.state).1)
      by_test false apart how = plus-none (own_of before vid)

  own-withdrawn : (of : Vid) → IsLawful before (effects.Withdrawn of) → (vid : ℕ)
      → own_of before vid ≡ own_of (before ++ effects.Withdrawn of ∷ []) vid + one of.0 vid
  own-withdrawn of lawful vid = by_test (of.0 == vid) refl ∙ ap (λ n. n + one of.0 vid) (sym (own_of-push (effects.Withdrawn of) vid))
    where
      by_test : (b : Bool) → (of.0 == vid) ≡ b → own_of before vid ≡ one_if (stands (cond b (freed_state (state_of before vid)) (state_of before vid))) + one_if b
      by_test true same = stands-freed_state (state_of before vid) lawful.0 (ap (state_of before) (sym (eqb-true of.0 vid same)) ∙ lawful.1)
      by_test false apart = plus-none (own_of before vid)

  own-left : (node : NodeId) (vid : ℕ) → own_of before vid ≡ own_of (before ++ effects.Left node ∷ []) vid + reserved_by node (reservations_of before) vid
  unfolding AreReserved
  own-left node vid =
      stands-state_after_leave node (state_of before vid)
      ∙ ap (λ n. n + reservation_of node (state_of before vid)) (sym (own_of-push (effects.Left node) vid))
      ∙ ap (λ n. own_of (before ++ effects.Left node ∷ []) vid + n) (sym (reserved node vid))

  module _ (state : DirectoryState) (is : IsDirectoryState before state) where
    parents-are : parent_of before ≡ parent_in state.headers
    parents-are = λ i vid. header_parent (sym (is.headers vid) i)

    -- so many can be taken
    lost : (lost : ℕ → ℕ) (own : ℕ → ℕ) → ((vid : ℕ) → own_of before vid ≡ own vid + lost vid)
        → AreReferenceCounts (parent_in state.headers) (λ vid. own vid + lost vid) (count_in state.references)
    lost less own each =
        let owns : own_of before ≡ (λ vid. own vid + less vid) = λ i vid. each vid i in
        subst (λ (parent : ℕ → Option Vid). AreReferenceCounts parent (λ vid. own vid + less vid) (count_in state.references)) parents-are
        (subst (λ (all : ℕ → ℕ). AreReferenceCounts (parent_of before) all (count_in state.references)) owns is.references)

    -- a new id bears nothing yet
    pub unused-unreferenced : (vid : ℕ) → is_used before vid ≡ false → count_in state.references vid ≡ 0
    unused-unreferenced vid unused =
        let own : own_of before vid ≡ 0 = ap (λ (s : VdiState). one_if (stands s)) (sound.unused vid unused) in
        let children : child_references (parent_of before) (count_in state.references) vid ≡ 0
        = total-zero (λ child. references_by (parent_of before child) (count_in state.references child) vid) KEY_COUNT (λ child below. childless child (parent_of before child) refl) in
        let all : count_in state.references vid ≡ own_of before vid + child_references (parent_of before) (count_in state.references) vid = is.references vid in
        omega (arith, own, children, all)
      where
        no-part : (b : Bool) (n : ℕ) → n ≡ 0 → cond b n 0 ≡ 0
        no-part true n none = none
        no-part false n none = refl

        childless : (child : ℕ) (parent : Option Vid) → parent_of before child ≡ parent → references_by parent (count_in state.references child) vid ≡ 0
        childless child None there = no-part (nat_lt 0 (count_in state.references child)) 0 refl
        childless child (Some parent) there =
            no-part (nat_lt 0 (count_in state.references child)) (one parent.0 vid)
            (one-other parent.0 vid (λ same. both_ways (is_used before vid) unused (ap (is_used before) (sym same) ∙ line.parents child parent there)))

    parent-referenced : (parent : Option Vid) → IsParent before parent → IsReferenced parent (count_in state.references)
    parent-referenced None live = tt
    parent-referenced (Some parent) live =
        let own : own_of before parent.0 ≡ 1 = live-stands (state_of before parent.0) live in
        let most : child_references (parent_of before) (count_in state.references) parent.0 ≤ KEY_COUNT
        = total-most (λ child. references_by (parent_of before child) (count_in state.references child) parent.0) KEY_COUNT
        (λ child. references_by-most (parent_of before child) (count_in state.references child) parent.0) in
        let all : count_in state.references parent.0 ≡ own_of before parent.0 + child_references (parent_of before) (count_in state.references) parent.0 = is.references parent.0 in
        let keys = key-most in
        (omega (arith, own, all), omega (arith, own, most, all, keys))

    own-left-kept : (node : NodeId) (vid : ℕ) → own_of before vid ≡ own_of (before ++ effects.Left node ∷ []) vid + reserved_by node state.reservations.items vid
    own-left-kept node vid =
        own-left node vid ∙ ap (λ (reservations : List Reservation). own_of (before ++ effects.Left node ∷ []) vid + reserved_by node reservations vid) (sym is.reservations)

    pub can-make : (effect : Effect) → IsLawful before effect → CanMake effect state
    can-make (effects.Reserved grant) lawful = (unused-unreferenced grant.reservation.vid.0 lawful.1, parent-referenced grant.header.parent lawful.4)
    can-make (effects.Deleted of name) lawful =
        (own_of (before ++ effects.Deleted of name ∷ []), lost (one of.0) (own_of (before ++ effects.Deleted of name ∷ [])) (own-deleted of name lawful))
    can-make (effects.Withdrawn of) lawful =
        (own_of (before ++ effects.Withdrawn of ∷ []), lost (one of.0) (own_of (before ++ effects.Withdrawn of ∷ [])) (own-withdrawn of lawful))
    can-make (effects.Left node) lawful =
        (own_of (before ++ effects.Left node ∷ []), lost (reserved_by node state.reservations.items) (own_of (before ++ effects.Left node ∷ [])) (own-left-kept node))
    can-make effect lawful = tt

    -- once so many were taken
    counts-less : (effect : Effect) (less counts : ℕ → ℕ) → ((vid : ℕ) → parent_of (before ++ effect ∷ []) vid ≡ parent_of before vid)
        → ((vid : ℕ) → own_of before vid ≡ own_of (before ++ effect ∷ []) vid + less vid)
        → LosesReferences less (parent_in state.headers) (count_in state.references) counts
        → AreReferenceCounts (parent_of (before ++ effect ∷ [])) (own_of (before ++ effect ∷ [])) counts
    counts-less effect less counts parents owns loses =
        let to_parents : parent_in state.headers ≡ parent_of (before ++ effect ∷ [])
        = λ i vid. (sym (ap (λ (parent : ℕ → Option Vid). parent vid) parents-are) ∙ sym (parents vid)) i in
        subst (λ (parent : ℕ → Option Vid). AreReferenceCounts parent (own_of (before ++ effect ∷ [])) counts) to_parents
        (loses (own_of (before ++ effect ∷ [])) (lost less (own_of (before ++ effect ∷ [])) owns))

    pub counts-freed : (effect : Effect) → IsLawful before effect → frees effect ≡ true → (counts : ℕ → ℕ)
        → LosesReferences (lost_by effect state.reservations.items) (parent_in state.headers) (count_in state.references) counts
        → AreReferenceCounts (parent_of (before ++ effect ∷ [])) (own_of (before ++ effect ∷ [])) counts
    counts-freed (effects.Deleted of name) lawful freed counts loses =
        counts-less (effects.Deleted of name) (one of.0) counts (parent_of-push before (effects.Deleted of name)) (own-deleted of name lawful) loses
    counts-freed (effects.Withdrawn of) lawful freed counts loses =
        counts-less (effects.Withdrawn of) (one of.0) counts (parent_of-push before (effects.Withdrawn of)) (own-withdrawn of lawful) loses
    counts-freed (effects.Left node) lawful freed counts loses =
        counts-less (effects.Left node) (reserved_by node state.reservations.items) counts (parent_of-push before (effects.Left node)) (own-left-kept node) loses
    counts-freed effect lawful freed counts loses = cc

    -- no reference is taken by another effect
    counts-same : (counts : ℕ → ℕ) → LosesReferences (λ vid. 0) (parent_in state.headers) (count_in state.references) counts
        → AreReferenceCounts (parent_of before) (own_of before) counts
    counts-same counts loses =
        subst (λ (parent : ℕ → Option Vid). AreReferenceCounts parent (own_of before) counts) (sym parents-are)
        (loses (own_of before) (lost (λ vid. 0) (own_of before) (λ vid. plus-none (own_of before vid))))

    pub counts-kept : (effect : Effect) → frees effect ≡ false → (counts : ℕ → ℕ)
        → LosesReferences (lost_by effect state.reservations.items) (parent_in state.headers) (count_in state.references) counts
        → AreReferenceCounts (parent_of before) (own_of before) counts
    counts-kept (effects.Deleted of name) kept counts loses = cc
    counts-kept (effects.Withdrawn of) kept counts loses = cc
    counts-kept (effects.Left node) kept counts loses = cc
    counts-kept effect kept counts loses = counts-same counts loses

    -- once the effect was made
    module _ (effect : Effect) (new : DirectoryState) where
      abbrev Bear : Type 0
      Bear = AreReferenceCounts (parent_of (before ++ effect ∷ [])) (own_of (before ++ effect ∷ [])) (count_in new.references)

      bear-same : ((vid : ℕ) → parent_of (before ++ effect ∷ []) vid ≡ parent_of before vid) → ((vid : ℕ) → own_of (before ++ effect ∷ []) vid ≡ own_of before vid)
          → ((vid : ℕ) → count_in new.references vid ≡ count_in state.references vid) → Bear
      bear-same parents owns counts =
          let to_parents : parent_of before ≡ parent_of (before ++ effect ∷ []) = λ i vid. sym (parents vid) i in
          let to_owns : own_of before ≡ own_of (before ++ effect ∷ []) = λ i vid. sym (owns vid) i in
          let to_counts : count_in state.references ≡ count_in new.references = λ i vid. sym (counts vid) i in
          subst (λ (parent : ℕ → Option Vid). AreReferenceCounts parent (own_of (before ++ effect ∷ [])) (count_in new.references)) to_parents
          (subst (λ (own : ℕ → ℕ). AreReferenceCounts (parent_of before) own (count_in new.references)) to_owns
          (subst (λ (counts : ℕ → ℕ). AreReferenceCounts (parent_of before) (own_of before) counts) to_counts is.references))

    bear-more : (grant : Grant) → IsLawful before (effects.Reserved grant) → (new : DirectoryState) → AreReferencesMade (effects.Reserved grant) state new
        → AreReferenceCounts (parent_of (before ++ effects.Reserved grant ∷ [])) (own_of (before ++ effects.Reserved grant ∷ [])) (count_in new.references)
    bear-more grant lawful new made =
        let to_owns : (λ vid. own_of before vid + one grant.reservation.vid.0 vid) ≡ own_of (before ++ effects.Reserved grant ∷ [])
        = λ i vid. sym (own-reserved grant lawful vid) i in
        let most = (lawful.0).1 in
        subst (λ (own : ℕ → ℕ). AreReferenceCounts (parent_of (before ++ effects.Reserved grant ∷ [])) own (count_in new.references)) to_owns
        (child-more (parent_of before) (parent_of (before ++ effects.Reserved grant ∷ [])) (own_of before) (count_in state.references) (count_in new.references)
        grant.reservation.vid.0 grant.header.parent (key-below grant.reservation.vid.0 (omega (arith, most))) made (unused-unreferenced grant.reservation.vid.0 lawful.1)
        (referenced grant.header.parent lawful.4)
        (parent_of-push before (effects.Reserved grant) grant.reservation.vid.0
        ∙ ap (λ b. header_parent (cond b (Some grant.header) (header_of before grant.reservation.vid.0))) (eq-eqb grant.reservation.vid.0 grant.reservation.vid.0 refl))
        (λ vid apart. parent_of-push before (effects.Reserved grant) vid
        ∙ ap (λ b. header_parent (cond b (Some grant.header) (header_of before vid))) (ne_eqb grant.reservation.vid.0 vid (λ same. apart (sym same))))
        is.references)
      where
        referenced : (parent : Option Vid) → IsParent before parent → (vid : ℕ) → (one_parent_reference parent vid ≡ 0) ⊎ (0 < count_in state.references vid)
        referenced None live vid = inl refl
        referenced (Some parent) live vid = by_place (cases_eq parent.0 vid)
          where
            by_place : (parent.0 ≡ vid) ⊎ (parent.0 ≢ vid) → (one parent.0 vid ≡ 0) ⊎ (0 < count_in state.references vid)
            by_place (inl same) = inr (subst (λ v. 0 < count_in state.references v) same ((parent-referenced (Some parent) live).0))
            by_place (inr apart) = inl (one-other parent.0 vid apart)

    pub bear-push : (effect : Effect) → IsLawful before effect → (new : DirectoryState) → AreReferencesMade effect state new
        → AreReferenceCounts (parent_of (before ++ effect ∷ [])) (own_of (before ++ effect ∷ [])) (count_in new.references)
    bear-push effects.Nothing lawful new made =
        bear-same effects.Nothing new (parent_of-push before effects.Nothing) (own_of-push effects.Nothing) made
    bear-push (effects.Reserved grant) lawful new made = bear-more grant lawful new made
    bear-push (effects.Published of name) lawful new made =
        bear-same (effects.Published of name) new (parent_of-push before (effects.Published of name)) (own-published of name lawful) made
    bear-push (effects.Snapped snap) lawful new made =
        bear-same (effects.Snapped snap) new
        (λ vid. parent_of-push before (effects.Snapped snap) vid ∙ parent-tagged (snap.old.0 == vid) snap.tag (header_of before vid)) (own-snapped snap lawful) made
    bear-push (effects.Deleted of name) lawful new made =
        counts-less (effects.Deleted of name) (one of.0) (count_in new.references) (parent_of-push before (effects.Deleted of name)) (own-deleted of name lawful) made
    bear-push (effects.Held of holder) lawful new made =
        bear-same (effects.Held of holder) new (parent_of-push before (effects.Held of holder)) (own_of-push (effects.Held of holder)) made
    bear-push (effects.Freed of) lawful new made =
        bear-same (effects.Freed of) new (parent_of-push before (effects.Freed of)) (own_of-push (effects.Freed of)) made
    bear-push (effects.Withdrawn of) lawful new made =
        counts-less (effects.Withdrawn of) (one of.0) (count_in new.references) (parent_of-push before (effects.Withdrawn of)) (own-withdrawn of lawful) made
    bear-push (effects.Left node) lawful new made =
        counts-less (effects.Left node) (reserved_by node state.reservations.items) (count_in new.references) (parent_of-push before (effects.Left node)) (own-left-kept node) made
