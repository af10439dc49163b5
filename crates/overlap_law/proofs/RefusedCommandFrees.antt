-- An unlock that a node puts frees the lock or the reservation of its id, or nobody is given that again by then.
use Rattle.std.proofs.Common.{◌≡◌, ◌⊎◌, inl, inr, ⊎_elim, ℕ, ◌+◌, ◌≤◌, ◌==◌, Bool, true, false, ◌&&◌, cond, List, ◌∷◌, All, Option, Some}
use Rattle.std.proofs.Common.{None, refl, sym, ap, subst, ◌∙◌, arith}
use Rattle.std.specs.Option.{option_map_or}
use Rattle.std.specs.FinMap as tree
use Rattle.std.proofs.lemmas.Bool.{eq-eqb}
use Rattle.std.proofs.lemmas.List.Elements.{All-head}
use Rattle.std.proofs.lemmas.Option.{same_Some}
use Rattle.proof_tools.proofs.Booleans.{cond_either}
use Rattle.object_id.specs.declared.oid.Vid.{Vid}
use Rattle.object_id.specs.declared.node.NodeId.{NodeId}
use Rattle.object_id.specs.declared.entry.Entry.{Entry}
use Rattle.object_id.specs.declared.entry.Entry.TheVariants.{Format, Join, Leave, Reweight, Recovered, Reserve, Publish, Clone, Snapshot}
use Rattle.object_id.specs.declared.entry.Entry.TheVariants.{Delete, Lock, Unlock}
use Rattle.cluster_script.specs.declared.statement.Statement.{Statement}
use Rattle.disk_lock.specs.declared.holder.Holder.{Holder}
use Rattle.vdi_directory.specs.declared.decision.Outcome.{Outcome}
use Rattle.vdi_directory.specs.declared.effect.Effect.{Effect}
use Rattle.vdi_directory.specs.declared.effect.Effect.TheVariants as effects
use Rattle.vdi_directory.specs.declared.effect.Reservation.{Reservation}
use Rattle.vdi_directory.specs.Decisions.{outcome, log_effects, nothing, silent_outcome, is_held_by, is_reserved_by}
use Rattle.vdi_directory.specs.Effects.{reservations_of, reservation_on, holder_of}
use Rattle.vdi_ops.specs.Entries.{unlock_of}
use Rattle.sheep_node.specs.OwnEntries.{IsEntryOf}
use Rattle.sheep_world.specs.Began.{Began}
use Rattle.sheep_world.specs.World.{Host, World}
use Rattle.overlap_law.specs.Grants.{reserver, writer_of}
use Rattle.overlap_law.specs.MomentChanges.{RunsAreInRange}
use Rattle.overlap_law.specs.RefusedCommands.{is_freed_by, FreesItsId}
use Rattle.overlap_law.specs.WriterClaims.{holder_at, IsGivenNoMore}
use Rattle.overlap_law.proofs.AwaitedEntriesInMoments.{own_entries}
use Rattle.overlap_law.proofs.ClaimsInRuns.{claimed_in_worlds}
use Rattle.overlap_law.proofs.CountedEntries.{times, once_if, times-cons, itself}

module _ (before : List Effect) (me : NodeId) (session : ℕ) (vid : Vid) where
  abbrev Frees : Outcome → Type 0
  Frees done = is_freed_by vid.0 done.effect ≡ true

  both_hold : (a b : Bool) → a ≡ true → b ≡ true → (a && b) ≡ true
  both_hold a b one two = λ i. one i && two i

  -- the unlock of the id's writer frees it
  frees_own : writer_of before vid.0 ≡ Some (holder_at me session) → is_freed_by vid.0 (outcome before (Unlock me session vid)).effect ≡ true
  unfolding writer_of
  frees_own writer = by_reservation (reservation_on vid (reservations_of before)) refl writer
    where
      by_reservation : (o : Option Reservation) → reservation_on vid (reservations_of before) ≡ o
          → option_map_or (λ (reservation : Reservation). Some (reserver reservation)) o (holder_of before vid.0) ≡ Some (holder_at me session)
          → is_freed_by vid.0 (outcome before (Unlock me session vid)).effect ≡ true
      by_reservation (Some reservation) at is =
          let same : reserver reservation ≡ holder_at me session = same_Some (reserver reservation) (holder_at me session) is in
          let here : is_reserved_by me session (reservation_on vid (reservations_of before)) ≡ true
          = ap (is_reserved_by me session) at
          ∙ both_hold (reservation.by.0 == me.0) (reservation.session == session)
          (eq-eqb reservation.by.0 me.0 (ap (λ (h : Holder). h.node.0) same))
          (eq-eqb reservation.session session (ap (λ (h : Holder). h.session) same)) in
          cond_either Frees (is_held_by me session (holder_of before vid.0)) (silent_outcome (effects.Freed vid))
          (cond (is_reserved_by me session (reservation_on vid (reservations_of before))) (silent_outcome (effects.Withdrawn vid)) nothing)
          (eq-eqb vid.0 vid.0 refl)
          (ap (λ (b : Bool). is_freed_by vid.0 (cond b (silent_outcome (effects.Withdrawn vid)) nothing).effect) here
          ∙ eq-eqb vid.0 vid.0 refl)
      by_reservation None at is =
          let here : is_held_by me session (holder_of before vid.0) ≡ true
          = ap (is_held_by me session) is ∙ both_hold (me.0 == me.0) (session == session) (eq-eqb me.0 me.0 refl) (eq-eqb session session refl) in
          ap (λ (b : Bool). is_freed_by vid.0 (cond b (silent_outcome (effects.Freed vid))
          (cond (is_reserved_by me session (reservation_on vid (reservations_of before))) (silent_outcome (effects.Withdrawn vid)) nothing)).effect)
          here ∙ eq-eqb vid.0 vid.0 refl

module _ (script : List Statement) (range : RunsAreInRange script) (world : World) (began : Began script world) (n : ℕ) (host : Host)
    (there : tree.get world.hosts n ≡ Some host) (up : host.is_lost ≡ false) where
  pub put_frees : (put : Entry) (later : List Entry) → host.node.outbox ≡ put ∷ later → FreesItsId world.log put
  put_frees (Format members) later is = tt
  put_frees (Join node zone vnodes) later is = tt
  put_frees (Leave node) later is = tt
  put_frees (Reweight node vnodes) later is = tt
  put_frees (Recovered node epoch) later is = tt
  put_frees (Reserve by session name origin) later is = tt
  put_frees (Publish by vid) later is = tt
  put_frees (Clone by vid) later is = tt
  put_frees (Snapshot by old vid) later is = tt
  put_frees (Delete by session name tag) later is = tt
  put_frees (Lock by session name tag) later is = tt
  put_frees (Unlock by session vid) later is =
      let put = Unlock by session vid in
      let whose : by ≡ host.node.me
      = All-head (IsEntryOf host.node.me) put later
      (subst (All (IsEntryOf host.node.me)) is (own_entries script world began n host there).entries) in
      let same : unlock_of host.node.me session vid.0 ≡ put = sym (λ i. Unlock (whose i) session vid) in
      let first : times (unlock_of host.node.me session vid.0) host.node.outbox ≡ times (unlock_of host.node.me session vid.0) (put ∷ later)
      = ap (times (unlock_of host.node.me session vid.0)) is in
      let more : times (unlock_of host.node.me session vid.0) (put ∷ later) ≡ 1 + times (unlock_of host.node.me session vid.0) later
      = ap (λ (e : Entry). times (unlock_of host.node.me session vid.0) (e ∷ later)) (sym same)
      ∙ times-cons (unlock_of host.node.me session vid.0) (unlock_of host.node.me session vid.0) later
      ∙ ap (λ (b : Bool). once_if b + times (unlock_of host.node.me session vid.0) later) (itself (unlock_of host.node.me session vid.0)) in
      let claims = claimed_in_worlds script range world began n host there up in
      ⊎_elim
      (λ (no_more : IsGivenNoMore world.log vid.0). inr no_more)
      (λ (writer : (writer_of (log_effects world.log) vid.0 ≡ Some (holder_at host.node.me session))
      × (times (unlock_of host.node.me session vid.0) host.node.outbox ≤ 1)).
      inl (subst (λ (m : NodeId). is_freed_by vid.0 (outcome (log_effects world.log) (Unlock m session vid)).effect ≡ true) (sym whose)
      (frees_own (log_effects world.log) host.node.me session vid writer.0)))
      (claims.unlocked session vid.0 (omega (arith, first, more)))
