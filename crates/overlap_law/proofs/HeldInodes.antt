-- The inode of a disk that a session holds was created by the epoch of the session's node, which has read the grant: a disk is locked only
-- once it is published, and no later publication is of the same id.
use Rattle.std.proofs.Common.{◌≡◌, ◌==◌, ◌⊎◌, inl, inr, ⊎_elim, arith, ℕ, ◌≤◌, Bool, true, false, cond, List, [], ◌∷◌, ◌++◌, Option}
use Rattle.std.proofs.Common.{Some, None, refl, sym, ap, subst, ◌∙◌}
use Rattle.std.proofs.lemmas.Bool.{eqb-true}
use Rattle.object_id.specs.declared.entry.Entry.{Entry}
use Rattle.object_id.specs.Oid.{inode_number}
use Rattle.cluster_script.specs.declared.statement.Statement.{Statement}
use Rattle.disk_lock.specs.declared.holder.Holder.{Holder}
use Rattle.disk_lock.specs.Locks.{is_of_node, without_node}
use Rattle.epoch_log.specs.Epochs.{epoch_of}
use Rattle.sheep_world.specs.World.{Host}
use Rattle.sheep_world.specs.RunsWithAsks.{Move}
use Rattle.vdi_directory.specs.declared.effect.Effect.{Effect}
use Rattle.vdi_directory.specs.declared.effect.Effect.TheVariants as effects
use Rattle.vdi_directory.specs.Decisions.{outcome, log_effects}
use Rattle.vdi_directory.specs.Effects.{holder_after, holder_of}
use Rattle.vdi_directory.specs.Sound.{IsLawful, IsSound}
use Rattle.vdi_directory.specs.States.{is_live_state}
use Rattle.vdi_directory.proofs.LawfulEntries.{lawful-outcome, sound-log_effects}
use Rattle.vdi_directory.proofs.StateLemmas.{log_effects-none, log_effects-push, holder_of-push}
use Rattle.overlap_law.specs.Fates.{IsCreated}
use Rattle.overlap_law.specs.Grants.{gives, publishes, granted_in, published_in}
use Rattle.overlap_law.specs.MomentChanges.{MomentTrail, RunsAreInRange}
use Rattle.overlap_law.specs.Past.{MomentWithPast, run_with_past}
use Rattle.overlap_law.specs.Sessions.{HoldsDisk}
use Rattle.overlap_law.specs.Writers.{session_holder}
use Rattle.overlap_law.proofs.CreatedStays.{created-by}
use Rattle.overlap_law.proofs.DatedEffects.{by_entries, last_epoch-push, last_epoch-most, last_epoch-rises}
use Rattle.overlap_law.proofs.PublishedInodes.{live_was}
use Rattle.overlap_law.proofs.PublishedInRuns.{published-on_the_way}

name_without-some : (node : ℕ) (held : Option Holder) (holder : Holder) → without_node node held ≡ Some holder → held ≡ Some holder
name_without-some node None holder is = cc
name_without-some node (Some now) holder is = by_test (is_of_node node now) is
  where
    by_test : (b : Bool) → cond b None (Some now) ≡ Some holder → Some now ≡ Some holder
    by_test true is = cc
    by_test false is = is

-- ---- what gives an id's lock

module _ (before : List Effect) (vid : ℕ) (sound : IsSound before) (holder : Holder) where
  -- an id was held before, and the effect didn't publish it
  abbrev WasHeld : Effect → Type 0
  WasHeld effect = (publishes vid effect ≡ false) × (holder_of before vid ≡ Some holder)

  -- one who holds an id after an effect was given it by the effect, or held it before
  held_from : (effect : Effect) → IsLawful before effect → holder_after vid (holder_of before vid) effect ≡ Some holder
      → (gives vid effect ≡ true) ⊎ WasHeld effect
  held_from effects.Nothing lawful is = inr (refl, is)
  held_from (effects.Reserved grant) lawful is = inr (refl, is)
  held_from (effects.Published of name) lawful is = by_test (of.0 == vid) refl
    where
      by_test : (b : Bool) → (of.0 == vid) ≡ b → (gives vid (effects.Published of name) ≡ true) ⊎ WasHeld (effects.Published of name)
      by_test true here =
          let works = sound.held vid holder is in
          let waits = lawful.0.1 in
          let same = eqb-true of.0 vid here in
          absurd (cc (works, waits, same))
      by_test false apart = inr (apart, is)
  held_from (effects.Snapped snap) lawful is = by_old (snap.old.0 == vid) is
    where
      by_new : (b : Bool) → (snap.vid.0 == vid) ≡ b → cond b (Some snap.holder) (holder_of before vid) ≡ Some holder
          → (gives vid (effects.Snapped snap) ≡ true) ⊎ WasHeld (effects.Snapped snap)
      by_new true here is = inl here
      by_new false apart is = inr (apart, is)

      by_old : (b : Bool) → cond b None (cond (snap.vid.0 == vid) (Some snap.holder) (holder_of before vid)) ≡ Some holder
          → (gives vid (effects.Snapped snap) ≡ true) ⊎ WasHeld (effects.Snapped snap)
      by_old true is = absurd (cc (is))
      by_old false is = by_new (snap.vid.0 == vid) refl is
  held_from (effects.Deleted of name) lawful is = inr (refl, is)
  held_from (effects.Held of by) lawful is = by_test (of.0 == vid) refl is
    where
      by_test : (b : Bool) → (of.0 == vid) ≡ b → cond b (Some by) (holder_of before vid) ≡ Some holder
          → (gives vid (effects.Held of by) ≡ true) ⊎ WasHeld (effects.Held of by)
      by_test true here is = inl here
      by_test false apart is = inr (refl, is)
  held_from (effects.Freed of) lawful is = by_test (of.0 == vid) is
    where
      by_test : (b : Bool) → cond b None (holder_of before vid) ≡ Some holder
          → (gives vid (effects.Freed of) ≡ true) ⊎ WasHeld (effects.Freed of)
      by_test true is = absurd (cc (is))
      by_test false is = inr (refl, is)
  held_from (effects.Withdrawn of) lawful is = inr (refl, is)
  held_from (effects.Left node) lawful is = inr (refl, name_without-some node.0 (holder_of before vid) holder is)

none_held : (vid : ℕ) (holder : Holder) → holder_of [] vid ≡ Some holder → ⊥
unfolding holder_of
none_held vid holder is = cc (is)

-- as long as an id is held, it was published by the epoch of its grant
module _ (vid : ℕ) (holder : Holder) (log : List Entry) (entry : Entry) where
  abbrev IsByGrant : List Entry → Type 0
  IsByGrant all = published_in all vid ≤ granted_in all vid

  abbrev effect : Effect
  effect = (outcome (log_effects log) entry).effect

  is_given : gives vid effect ≡ true → IsByGrant (log ++ entry ∷ [])
  is_given given =
      let granted = last_epoch-push (gives vid) log entry
      ∙ ap (λ (b : Bool). cond b (epoch_of (log ++ entry ∷ [])) (granted_in log vid)) given in
      subst (λ (e : ℕ). published_in (log ++ entry ∷ []) vid ≤ e) (sym granted) (last_epoch-most (publishes vid) (log ++ entry ∷ []))

  is_as_before : publishes vid effect ≡ false → IsByGrant log → IsByGrant (log ++ entry ∷ [])
  is_as_before none known =
      let same = last_epoch-push (publishes vid) log entry
      ∙ ap (λ (b : Bool). cond b (epoch_of (log ++ entry ∷ [])) (published_in log vid)) none in
      let rises = last_epoch-rises (gives vid) log entry in
      subst (λ (e : ℕ). e ≤ granted_in (log ++ entry ∷ []) vid) (sym same) (omega (arith, known, rises))

  one_grant_more : (holder_of (log_effects log) vid ≡ Some holder → IsByGrant log)
      → holder_of (log_effects (log ++ entry ∷ [])) vid ≡ Some holder → IsByGrant (log ++ entry ∷ [])
  one_grant_more known is =
      ⊎_elim
      (λ (given : gives vid effect ≡ true). is_given given)
      (λ (was : WasHeld (log_effects log) vid (sound-log_effects log) holder effect). is_as_before was.0 (known was.1))
      (held_from (log_effects log) vid (sound-log_effects log) holder effect
      (lawful-outcome (log_effects log) (sound-log_effects log) entry)
      (sym (ap (λ (all : List Effect). holder_of all vid) (log_effects-push log entry)
      ∙ holder_of-push (log_effects log) effect vid) ∙ is))

pub published_by_grant : (vid : ℕ) (holder : Holder) (log : List Entry) → holder_of (log_effects log) vid ≡ Some holder
    → published_in log vid ≤ granted_in log vid
published_by_grant vid holder = by_entries
    (λ (log : List Entry). holder_of (log_effects log) vid ≡ Some holder → published_in log vid ≤ granted_in log vid)
    (λ is. absurd (none_held vid holder (subst (λ (all : List Effect). holder_of all vid ≡ Some holder) log_effects-none is)))
    (λ log entry known is. one_grant_more vid holder log entry known is)

-- ---- so what is held was created

module _ (script : List Statement) (range : RunsAreInRange script) (events : List Move) (start moment : MomentWithPast)
    (is : run_with_past script events ≡ Some start) (trail : MomentTrail script start moment) where
  pub held_inode : (n number vid : ℕ) (host : Host) → HoldsDisk moment.world.log n number vid host.node
      → IsCreated moment.past.attempts (inode_number vid) host.node.peer.epoch
  held_inode n number vid host holds =
      let works = (sound-log_effects moment.world.log).held vid (session_holder n number) holds.holder in
      let grant = published_by_grant vid (session_holder n number) moment.world.log holds.holder in
      let read = holds.read in
      created-by moment.past.attempts (inode_number vid) (published_in moment.world.log vid) host.node.peer.epoch
      (omega (arith, grant, read))
      (published-on_the_way script range events start moment is trail vid (live_was vid moment.world.log (ap is_live_state works)))
