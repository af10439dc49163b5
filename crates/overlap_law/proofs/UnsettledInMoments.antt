-- The settled epoch is below that of a node that recovers: else the node would be one of those who recovered in it.
use Rattle.std.proofs.Common.{◌≡◌, ◌≢◌, ⊎_elim, arith, ℕ, ◌≤◌, ◌<◌, ◌==◌, ◌&&◌, ◌||◌, not, Bool, true, false, Some, is_some, refl, sym, ap}
use Rattle.std.proofs.Common.{◌∙◌}
use Rattle.std.specs.FinMap as tree
use Rattle.std.proofs.lemmas.Bool.{cases_lt, eqb-false, or_parts}
use Rattle.epoch_log.specs.Members.{is_member}
use Rattle.epoch_log.specs.Epochs.{members_in, settled_of}
use Rattle.epoch_log.proofs.EpochLemmas.{settled_of-begun}
use Rattle.recovery.specs.Shown.{first_in}
use Rattle.recovery.specs.State.{RecoveryState, is_listed, is_finished}
use Rattle.sheep_node.specs.RecoveryView.{recovery_state_of}
use Rattle.sheep_world.specs.World.{Host}
use Rattle.overlap_law.specs.Reached.{has_finished}
use Rattle.overlap_law.specs.Past.{MomentWithPast}
use Rattle.overlap_law.specs.NodeEpochs.{TheUnfinishedAreUnsettled}
use Rattle.overlap_law.proofs.FinishedInMoments.{TermsHold}
use Rattle.overlap_law.proofs.ListMessages.{IsDoneIn}
use Rattle.overlap_law.proofs.OverlapLemmas.{settled-recovered}
use Rattle.overlap_law.proofs.ReadInMoments.{recovery_own, recovery_present}
use Rattle.overlap_law.proofs.RecoveredInMoments.{node_of}

-- what is done is finished
done_finished : (state : RecoveryState) → IsDoneIn state → is_finished state ≡ true
done_finished state done = by_epoch (state.recovery.epoch == 1)
  where
    by_epoch : (b : Bool) → (b || (is_listed state.recovery && not (is_some (first_in state.shown.pending)))) ≡ true
    by_epoch true = refl
    by_epoch false = λ i. (done.0 i && not (is_some (first_in (done.1 i))))

module _ (moment : MomentWithPast) (terms : TermsHold moment) (n : ℕ) (host : Host) (there : tree.get moment.world.hosts n ≡ Some host)
    (up : host.is_lost ≡ false) (unfinished : is_finished (recovery_state_of host.node) ≡ false) where
  -- its recovery isn't that of the first epoch
  later : 1 < host.node.recovery.epoch
  later =
      let begun = (terms.sound.each n host there).sound.recovers.begun in
      let apart : host.node.recovery.epoch ≢ 1 = eqb-false host.node.recovery.epoch 1
      (or_parts (host.node.recovery.epoch == 1) (is_listed host.node.recovery && not (is_some (first_in host.node.peer.pending)))
      unfinished).0 in
      omega (arith, begun, apart)

  -- it is a member since it came to its epoch
  joined : (terms.stood.stood n host there up).joined ≤ host.node.peer.epoch
  joined =
      let stood = terms.stood.stood n host there up in
      let entered = (terms.sound.each n host there).sound.recovers.entered in
      ⊎_elim
      (λ (came : stood.joined ≤ host.node.peer.epoch). came)
      (λ (none : (k : ℕ) → k < stood.joined → is_member n (members_in moment.world.log k) ≡ false). ⊎_elim
      (λ (below : host.node.recovery.epoch < stood.joined).
      let no = none host.node.recovery.epoch below in
      let yes = recovery_own moment.world.log n host (terms.sound.each n host there) later in
      absurd (cc (no, yes)))
      (λ (above : stood.joined ≤ host.node.recovery.epoch). omega (arith, above, entered))
      (cases_lt host.node.recovery.epoch stood.joined))
      stood.before

  -- an epoch that is settled no earlier would have it as one of those who recovered
  not_settled : host.node.peer.epoch ≤ settled_of moment.world.log → ⊥
  not_settled above =
      let stood = terms.stood.stood n host there up in
      let sound = terms.sound.each n host there in
      let entered = sound.sound.recovers.entered in
      let late = later in
      let own = joined in
      let within = (settled_of-begun moment.world.log).1 in
      let settled = settled_of moment.world.log in
      let member : is_member n (members_in moment.world.log settled) ≡ true
      = stood.since settled (omega (arith, own, above)) within in
      let finished : has_finished moment.world.hosts moment.world.log settled (node_of n) ≡ true
      = (settled-recovered moment.world.log moment.world.hosts).each (node_of n) (omega (arith, late, entered, above)) member in
      let most = terms.came.reached n settled host finished there in
      let same : settled ≡ host.node.peer.epoch = omega (arith, above, most) in
      let present : host.node.recovery.epoch ≡ host.node.peer.epoch = ⊎_elim
      (λ (is : host.node.recovery.epoch ≡ host.node.peer.epoch). is)
      (λ (out : is_member n (members_in moment.world.log host.node.peer.epoch) ≡ false).
      let yes = ap (λ (k : ℕ). is_member n (members_in moment.world.log k)) (sym same) ∙ member in
      absurd (cc (out, yes)))
      (recovery_present moment.world.log n host sound) in
      let at : has_finished moment.world.hosts moment.world.log host.node.recovery.epoch (node_of n) ≡ true
      = ap (λ (k : ℕ). has_finished moment.world.hosts moment.world.log k (node_of n)) (present ∙ sym same) ∙ finished in
      let put = terms.came.put n host there up at in
      let done = done_finished (recovery_state_of host.node) (sound.sound.lists.done put late) in
      absurd (cc (done, unfinished))

  below_own : settled_of moment.world.log < host.node.peer.epoch
  below_own = ⊎_elim
      (λ (below : settled_of moment.world.log < host.node.peer.epoch). below)
      (λ (above : host.node.peer.epoch ≤ settled_of moment.world.log). absurd (not_settled above))
      (cases_lt (settled_of moment.world.log) host.node.peer.epoch)

pub are_unsettled : (moment : MomentWithPast) → TermsHold moment → TheUnfinishedAreUnsettled moment.world.log moment.world.hosts
are_unsettled moment terms = record { each = λ n host there up unfinished. below_own moment terms n host there up unfinished }
