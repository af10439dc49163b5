-- The laws of decisions, from what is true of whatever entries did.
use Rattle.std.proofs.Common.{◌≡◌, ℕ, ◌≤◌, ◌==◌, ◌||◌, not, nat_lt, Bool, true, false, cond, List, [], ◌∷◌, ◌++◌, filter, fold, Option, Some, None, refl, ap, sym, ◌∙◌, subst, arith, append_assoc}
use Rattle.std.specs.List.{list_any}
use Rattle.std.proofs.lemmas.Bool.{eqb-true, eq-eqb, ne_eqb, both_ways, not-true, cond_both}
use Rattle.std.proofs.lemmas.List.{append-nil}
use Rattle.std.proofs.lemmas.List.Sums.{fold-append}
use Rattle.std.proofs.Math.Bool.{or-true}
use Rattle.proof_tools.proofs.Booleans.{or_left_comm, cond_same}
use Rattle.object_id.specs.Oid.{IsVid}
use Rattle.object_id.specs.declared.oid.Vid.{Vid}
use Rattle.object_id.specs.declared.node.NodeId.{NodeId}
use Rattle.object_id.specs.declared.entry.Entry.{Entry}
use Rattle.object_id.specs.declared.entry.Entry.TheVariants as the_entries
use Rattle.disk_lock.specs.declared.holder.Holder.{Holder}
use Rattle.disk_lock.specs.Locks.{is_of_node, without_node}
use Rattle.vdi_directory.specs.declared.effect.Reservation.{Reservation}
use Rattle.vdi_directory.specs.declared.effect.Grant.{Grant}
use Rattle.vdi_directory.specs.declared.effect.Effect.{Effect}
use Rattle.vdi_directory.specs.declared.effect.Effect.TheVariants as effects
use Rattle.vdi_directory.specs.Effects.{grants, is_used, reservations_of, ids_with, live_after, live_of, holder_of}
use Rattle.vdi_directory.specs.Decisions.{outcome, happens, log_effects}
use Rattle.vdi_directory.specs.States.{VdiState, Unused, Reserved, Working, Snapshot as SnapshotState, Deleted, Freed, freed_state, state_after_leave, state_after, state_of, rank, is_live_state}
use Rattle.vdi_directory.specs.Sound.{In, IsSound, IsLawful}
use Rattle.vdi_directory.proofs.StateLemmas.{log_effects-none, log_effects-push, is_used-push, reservations_of-push, live_of-push, holder_of-push}
use Rattle.vdi_directory.proofs.SoundEffects.{state_of-push, in-filter}
use Rattle.vdi_directory.proofs.LawfulEntries.{lawful-outcome, sound-log_effects}

log_effects-append : (entries later : List Entry) → log_effects (entries ++ later) ≡ fold happens (log_effects entries) later
unfolding log_effects
log_effects-append entries later = fold-append happens [] entries later

-- what each entry keeps, all later entries keep
module _ (P : List Effect → Type 0) (step : (entries : List Entry) (entry : Entry) → P (log_effects entries) → P (happens (log_effects entries) entry)) where
  pub kept-later : (later entries : List Entry) → P (log_effects entries) → P (log_effects (entries ++ later))
  kept-later [] entries holds = subst (λ (all : List Entry). P (log_effects all)) (sym (append-nil entries)) holds
  kept-later (entry ∷ later) entries holds =
      subst (λ (all : List Entry). P (log_effects all)) (append_assoc entries (entry ∷ []) later)
      (kept-later later (entries ++ entry ∷ []) (subst P (sym (log_effects-push entries entry)) (step entries entry holds)))

-- an id is granted once
pub grant_outcome-unused : (entries : List Entry) (entry : Entry) (grant : Grant) → (outcome (log_effects entries) entry).effect ≡ effects.Reserved grant
    → IsVid grant.reservation.vid.0 × (is_used (log_effects entries) grant.reservation.vid.0 ≡ false)
grant_outcome-unused entries entry grant is =
    let lawful : IsLawful (log_effects entries) (effects.Reserved grant)
    = subst (IsLawful (log_effects entries)) is (lawful-outcome (log_effects entries) (sound-log_effects entries) entry) in
    (lawful.0, lawful.1)

pub grant_outcome-used : (entries : List Entry) (entry : Entry) (grant : Grant) → (outcome (log_effects entries) entry).effect ≡ effects.Reserved grant
    → is_used (log_effects (entries ++ entry ∷ [])) grant.reservation.vid.0 ≡ true
grant_outcome-used entries entry grant is =
    ap (λ before. is_used before grant.reservation.vid.0) (log_effects-push entries entry)
    ∙ is_used-push (log_effects entries) (outcome (log_effects entries) entry).effect grant.reservation.vid.0
    ∙ ap (λ (effect : Effect). is_used (log_effects entries) grant.reservation.vid.0 || grants grant.reservation.vid.0 effect) is
    ∙ ap (λ b. is_used (log_effects entries) grant.reservation.vid.0 || b) (eq-eqb grant.reservation.vid.0 grant.reservation.vid.0 refl)
    ∙ or-true (is_used (log_effects entries) grant.reservation.vid.0)

pub used-stays : (entries later : List Entry) (vid : ℕ) → is_used (log_effects entries) vid ≡ true → is_used (log_effects (entries ++ later)) vid ≡ true
used-stays entries later vid used =
    kept-later (λ before. is_used before vid ≡ true)
    (λ es entry is. is_used-push (log_effects es) (outcome (log_effects es) entry).effect vid ∙ ap (λ b. b || grants vid (outcome (log_effects es) entry).effect) is)
    later entries used

-- states move forward
rank-most : (state : VdiState) → rank state ≤ 4
rank-most Unused = omega arith
rank-most state = omega arith

rank-freed_state : (state : VdiState) → rank state ≤ rank (freed_state state)
rank-freed_state Unused = omega arith
rank-freed_state state = omega arith

rank-state_after_leave : (node : ℕ) (state : VdiState) → rank state ≤ rank (state_after_leave node state)
rank-state_after_leave node (Reserved by) = cond_both (by.0 == node) Freed (Reserved by) (λ (s : VdiState). 1 ≤ rank s) (λ t. (omega arith)) (λ f. (omega arith))
rank-state_after_leave node state = omega arith

module _ (before : List Effect) (sound : IsSound before) where
  pub rank-grows : (effect : Effect) → IsLawful before effect → (vid : ℕ) → rank (state_of before vid) ≤ rank (state_after vid (state_of before vid) effect)
  rank-grows (effects.Reserved grant) lawful vid =
      cond_both (grant.reservation.vid.0 == vid) (Reserved grant.reservation.by) (state_of before vid) (λ (s : VdiState). rank (state_of before vid) ≤ rank s)
      (λ here. (let is : rank (state_of before vid) ≡ 0
      = ap (λ v. rank (state_of before v)) (sym (eqb-true grant.reservation.vid.0 vid here)) ∙ ap rank (sound.unused grant.reservation.vid.0 lawful.1) in omega arith))
      (λ there. (omega arith))
  rank-grows (effects.Published of name) lawful vid =
      cond_both (of.0 == vid) Working (state_of before vid) (λ (s : VdiState). rank (state_of before vid) ≤ rank s)
      (λ here. (let is : rank (state_of before vid) ≡ 1 = ap (λ v. rank (state_of before v)) (sym (eqb-true of.0 vid here)) ∙ ap rank ((lawful.0).1) in omega arith))
      (λ there. (omega arith))
  rank-grows (effects.Snapped snap) lawful vid =
      cond_both (snap.old.0 == vid) (SnapshotState snap.tag) (cond (snap.vid.0 == vid) Working (state_of before vid)) (λ (s : VdiState). rank (state_of before vid) ≤ rank s)
      (λ here. (let is : rank (state_of before vid) ≡ 2 = ap (λ v. rank (state_of before v)) (sym (eqb-true snap.old.0 vid here)) ∙ ap rank ((lawful.0).state) in omega arith))
      (λ there. cond_both (snap.vid.0 == vid) Working (state_of before vid) (λ (s : VdiState). rank (state_of before vid) ≤ rank s)
      (λ here. (let is : rank (state_of before vid) ≡ 1 = ap (λ v. rank (state_of before v)) (sym (eqb-true snap.vid.0 vid here)) ∙ ap rank ((lawful.1).1) in omega arith))
      (λ other. (omega arith)))
  rank-grows (effects.Deleted of name) lawful vid =
      cond_both (of.0 == vid) Deleted (state_of before vid) (λ (s : VdiState). rank (state_of before vid) ≤ rank s)
      (λ here. rank-most (state_of before vid)) (λ there. (omega arith))
  rank-grows (effects.Withdrawn of) lawful vid =
      cond_both (of.0 == vid) (freed_state (state_of before vid)) (state_of before vid) (λ (s : VdiState). rank (state_of before vid) ≤ rank s)
      (λ here. rank-freed_state (state_of before vid)) (λ there. (omega arith))
  rank-grows (effects.Left node) lawful vid = rank-state_after_leave node.0 (state_of before vid)
  rank-grows effect lawful vid = omega arith

pub states-forward : (entries later : List Entry) (vid : ℕ) → rank (state_of (log_effects entries) vid) ≤ rank (state_of (log_effects (entries ++ later)) vid)
states-forward entries later vid =
    kept-later (λ before. rank (state_of (log_effects entries) vid) ≤ rank (state_of before vid))
    (λ es entry below. (let grows = rank-grows (log_effects es) (sound-log_effects es) (outcome (log_effects es) entry).effect (lawful-outcome (log_effects es) (sound-log_effects es) entry) vid in
    let is : rank (state_of (happens (log_effects es) entry) vid) ≡ rank (state_after vid (state_of (log_effects es) vid) (outcome (log_effects es) entry).effect)
    = ap rank (state_of-push (log_effects es) (outcome (log_effects es) entry).effect vid) in
    omega (arith, below, grows, is)))
    later entries (omega arith)

-- the live ids are those in a live state
is_one : ℕ → ℕ → Bool
is_one vid other = other == vid

abbrev has : ℕ → List ℕ → Bool
has vid live = list_any (λ other. other == vid) live

has-ids_with : (vid new : ℕ) (live : List ℕ) → has vid (ids_with new live) ≡ ((new == vid) || has vid live)
has-ids_with vid new [] = refl
has-ids_with vid new (first ∷ rest) = by_test (nat_lt new first) (has-ids_with vid new rest)
  where
    by_test : (b : Bool) → has vid (ids_with new rest) ≡ ((new == vid) || has vid rest)
        → has vid (cond b (new ∷ first ∷ rest) (first ∷ ids_with new rest)) ≡ ((new == vid) || ((first == vid) || has vid rest))
    by_test true later = refl
    by_test false later = ap (λ b. (first == vid) || b) later ∙ or_left_comm (first == vid) (new == vid) (has vid rest)

has-filter : (vid gone : ℕ) (live : List ℕ) → has vid (filter (λ other. not (other == gone)) live) ≡ cond (gone == vid) false (has vid live)
has-filter vid gone [] = sym (cond_same (gone == vid) false)
has-filter vid gone (first ∷ rest) = by_test (first == gone) (gone == vid) refl refl (has-filter vid gone rest)
  where
    by_test : (b c : Bool) → (first == gone) ≡ b → (gone == vid) ≡ c
        → has vid (filter (λ other. not (other == gone)) rest) ≡ cond (gone == vid) false (has vid rest)
        → has vid (cond (not b) (first ∷ filter (λ other. not (other == gone)) rest) (filter (λ other. not (other == gone)) rest))
        ≡ cond c false ((first == vid) || has vid rest)
    by_test true true is one later = later ∙ ap (λ t. cond t false (has vid rest)) one
    by_test true false is apart later =
        later ∙ ap (λ t. cond t false (has vid rest)) apart
        ∙ sym (ap (λ t. t || has vid rest) (ap (λ n. n == vid) (eqb-true first gone is) ∙ apart))
    by_test false true other one later =
        ap (λ t. t || has vid (filter (λ other. not (other == gone)) rest)) (ne_eqb first vid (λ same. both_ways (first == gone) other (eq-eqb first gone (same ∙ sym (eqb-true gone vid one)))))
        ∙ later ∙ ap (λ t. cond t false (has vid rest)) one
    by_test false false other apart later = ap (λ t. (first == vid) || t) (later ∙ ap (λ t. cond t false (has vid rest)) apart)

live-freed_state : (state : VdiState) → is_live_state (freed_state state) ≡ is_live_state state
live-freed_state Unused = refl
live-freed_state state = refl

live-state_after_leave : (node : ℕ) (state : VdiState) → is_live_state (state_after_leave node state) ≡ is_live_state state
live-state_after_leave node (Reserved by) = cond_both (by.0 == node) Freed (Reserved by) (λ (s : VdiState). is_live_state s ≡ false) (λ t. refl) (λ f. refl)
live-state_after_leave node state = refl

module _ (before : List Effect) (sound : IsSound before) (vid : ℕ) (is : has vid (live_of before) ≡ is_live_state (state_of before vid)) where
  live-step : (effect : Effect) → IsLawful before effect → has vid (live_after (live_of before) effect) ≡ is_live_state (state_after vid (state_of before vid) effect)
  live-step (effects.Reserved grant) lawful =
      cond_both (grant.reservation.vid.0 == vid) (Reserved grant.reservation.by) (state_of before vid) (λ (s : VdiState). has vid (live_of before) ≡ is_live_state s)
      (λ here. is ∙ ap (λ v. is_live_state (state_of before v)) (sym (eqb-true grant.reservation.vid.0 vid here)) ∙ ap is_live_state (sound.unused grant.reservation.vid.0 lawful.1))
      (λ there. is)
  live-step (effects.Published of name) lawful = has-ids_with vid of.0 (live_of before) ∙ by_test (of.0 == vid)
    where
      by_test : (b : Bool) → (b || has vid (live_of before)) ≡ is_live_state (cond b Working (state_of before vid))
      by_test true = refl
      by_test false = is
  live-step (effects.Snapped snap) lawful = has-ids_with vid snap.vid.0 (live_of before) ∙ by_test (snap.old.0 == vid) (snap.vid.0 == vid) refl
    where
      by_test : (b c : Bool) → (snap.old.0 == vid) ≡ b → (c || has vid (live_of before)) ≡ is_live_state (cond b (SnapshotState snap.tag) (cond c Working (state_of before vid)))
      by_test true c here =
          ap (λ t. c || t) (is ∙ ap (λ v. is_live_state (state_of before v)) (sym (eqb-true snap.old.0 vid here)) ∙ ap is_live_state ((lawful.0).state)) ∙ or-true c
      by_test false true there = refl
      by_test false false there = is
  live-step (effects.Deleted of name) lawful = has-filter vid of.0 (live_of before) ∙ by_test (of.0 == vid)
    where
      by_test : (b : Bool) → cond b false (has vid (live_of before)) ≡ is_live_state (cond b Deleted (state_of before vid))
      by_test true = refl
      by_test false = is
  live-step (effects.Withdrawn of) lawful =
      cond_both (of.0 == vid) (freed_state (state_of before vid)) (state_of before vid) (λ (s : VdiState). has vid (live_of before) ≡ is_live_state s)
      (λ here. is ∙ sym (live-freed_state (state_of before vid))) (λ there. is)
  live-step (effects.Left node) lawful = is ∙ sym (live-state_after_leave node.0 (state_of before vid))
  live-step effect lawful = is

live-none : (vid : ℕ) → has vid (live_of []) ≡ is_live_state (state_of [] vid)
unfolding live_of state_of
live-none vid = refl

pub live-is : (entries : List Entry) (vid : ℕ) → has vid (live_of (log_effects entries)) ≡ is_live_state (state_of (log_effects entries) vid)
live-is entries vid =
    kept-later (λ before. has vid (live_of before) ≡ is_live_state (state_of before vid))
    (λ es entry is. ap (has vid) (live_of-push (log_effects es) (outcome (log_effects es) entry).effect)
    ∙ live-step (log_effects es) (sound-log_effects es) vid is (outcome (log_effects es) entry).effect (lawful-outcome (log_effects es) (sound-log_effects es) entry)
    ∙ sym (ap is_live_state (state_of-push (log_effects es) (outcome (log_effects es) entry).effect vid)))
    entries [] (subst (λ before. has vid (live_of before) ≡ is_live_state (state_of before vid)) (sym log_effects-none) (live-none vid))

-- a lock is granted where nobody holds the disk
pub held-was-free : (entries : List Entry) (entry : Entry) (vid : Vid) (holder : Holder) → (outcome (log_effects entries) entry).effect ≡ effects.Held vid holder
    → (state_of (log_effects entries) vid.0 ≡ Working) × (holder_of (log_effects entries) vid.0 ≡ None)
held-was-free entries entry vid holder is =
    subst (IsLawful (log_effects entries)) is (lawful-outcome (log_effects entries) (sound-log_effects entries) entry)

pub held-works : (entries : List Entry) (vid : ℕ) (holder : Holder) → holder_of (log_effects entries) vid ≡ Some holder → state_of (log_effects entries) vid ≡ Working
held-works entries vid holder is = (sound-log_effects entries).held vid holder is

-- what a node's leave takes
without-other : (node : ℕ) (held : Option Holder) (holder : Holder) → without_node node held ≡ Some holder → (holder.node.0 == node) ≡ false
without-other node None holder is = cc
without-other node (Some now) holder is = by_test (is_of_node node now) refl is
  where
    by_test : (b : Bool) → is_of_node node now ≡ b → cond b None (Some now) ≡ Some holder → (holder.node.0 == node) ≡ false
    by_test true of is = cc
    by_test false of is = let same : now ≡ holder = cc in ap (is_of_node node) (sym same) ∙ of

pub state_after_leave-holds-nothing : (entries : List Entry) (node : NodeId) (vid : ℕ) (holder : Holder)
    → holder_of (log_effects (entries ++ the_entries.Leave node ∷ [])) vid ≡ Some holder → (holder.node.0 == node.0) ≡ false
state_after_leave-holds-nothing entries node vid holder is =
    without-other node.0 (holder_of (log_effects entries) vid) holder
    (sym (ap (λ before. holder_of before vid) (log_effects-push entries (the_entries.Leave node)) ∙ holder_of-push (log_effects entries) (effects.Left node) vid) ∙ is)

pub state_after_leave-reservations-nothing : (entries : List Entry) (node : NodeId) (reservation : Reservation)
    → In reservation (reservations_of (log_effects (entries ++ the_entries.Leave node ∷ []))) → (reservation.by.0 == node.0) ≡ false
state_after_leave-reservations-nothing entries node reservation there =
    not-true (reservation.by.0 == node.0) ((in-filter (λ (c : Reservation). not (c.by.0 == node.0)) reservation (reservations_of (log_effects entries))
    (subst (In reservation) (ap reservations_of (log_effects-push entries (the_entries.Leave node)) ∙ reservations_of-push (log_effects entries) (effects.Left node)) there)).1)
