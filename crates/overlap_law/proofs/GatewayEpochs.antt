-- Each attempt is of an epoch that its gateway came to: over each change of a moment, and so in every run in range.
use Rattle.std.proofs.Common.{◌≡◌, ⊎_elim, arith, ℕ, ◌≤◌, List, Some, refl, sym, ap, ◌∙◌}
use Rattle.std.specs.FinMap as tree
use Rattle.std.proofs.lemmas.Option.{same_Some}
use Rattle.proof_tools.proofs.FiniteMaps.{get-insert_same}
use Rattle.cluster_script.specs.declared.statement.Statement.{Statement}
use Rattle.sheep_world.specs.Began.{Began}
use Rattle.sheep_world.specs.NodeCauses.{host_with_node}
use Rattle.sheep_world.specs.World.{Host}
use Rattle.overlap_law.specs.Attempts.{AttemptRecord}
use Rattle.overlap_law.specs.LastReads.{AttemptsAreOfThePast}
use Rattle.overlap_law.specs.MomentChanges.{MomentChange, RunsAreInRange}
use Rattle.overlap_law.specs.Past.{MomentWithPast}
use Rattle.overlap_law.specs.TiedAttempts.{IsTied}
use Rattle.overlap_law.proofs.EpochsRise.{epochs_rise}
use Rattle.overlap_law.proofs.NewAttempts.{WasAttempt, IsOpened, come_from}
use Rattle.overlap_law.proofs.ReadInMoments.{hosts_after_sound}

module _ (script : List Statement) (range : RunsAreInRange script) (start : MomentWithPast) (began : Began script start.world)
    {before after : MomentWithPast} (change : MomentChange script start before after) where
  -- one that has just begun is of the node's epoch
  pub opened_now : (attempt : AttemptRecord) (n : ℕ) (host : Host) → IsOpened script start after attempt → attempt.gateway.0 ≡ n
      → tree.get after.world.hosts n ≡ Some host → attempt.epoch ≡ host.node.peer.epoch
  opened_now attempt n host o gateway there =
      let then = host_with_node o.stepping.host o.next.node in
      let at : tree.get after.world.hosts o.stepping.n ≡ Some then
      = ap (λ (m : MomentWithPast). tree.get m.world.hosts o.stepping.n) o.moment_so
      ∙ get-insert_same start.world.hosts o.stepping.n then in
      let own : then.node.me.0 ≡ o.stepping.n = ((hosts_after_sound script range start began change).each o.stepping.n then at).read.own in
      let number : attempt.gateway.0 ≡ o.stepping.n
      = ap (λ (a : AttemptRecord). a.gateway.0) (sym o.opened) ∙ ap (λ m. m.0) (sym o.me_so) ∙ own in
      let same : then ≡ host
      = same_Some then host (sym at ∙ ap (tree.get after.world.hosts) (sym number ∙ gateway) ∙ there) in
      ap (λ (a : AttemptRecord). a.epoch) (sym o.opened) ∙ sym o.epoch_so ∙ ap (λ (h : Host). h.node.peer.epoch) same

  module _ (tied : IsTied before) (past : AttemptsAreOfThePast before.world.hosts before.past.attempts) where
    was_past : (j : ℕ) (attempt : AttemptRecord) (n : ℕ) (host : Host) → WasAttempt before j attempt → attempt.gateway.0 ≡ n
        → tree.get after.world.hosts n ≡ Some host → attempt.epoch ≤ host.node.peer.epoch
    was_past j attempt n host w gateway there =
        let (old, at) = tied.there.each j w.was w.at in
        let (now, there_now, rises) = epochs_rise script range start began change w.was.gateway.0 old at in
        let before_it = past w.was.gateway.0 old at j w.was w.at refl in
        let own : w.was.gateway.0 ≡ n = ap (λ (a : AttemptRecord). a.gateway.0) w.same ∙ gateway in
        let same : now.node.peer.epoch ≡ host.node.peer.epoch
        = ap (λ (h : Host). h.node.peer.epoch) (same_Some now host (sym there_now ∙ ap (tree.get after.world.hosts) own ∙ there)) in
        let epoch : w.was.epoch ≡ attempt.epoch = ap (λ (a : AttemptRecord). a.epoch) w.same in
        omega (arith, rises, before_it, same, epoch)

    pub keeps_past : AttemptsAreOfThePast after.world.hosts after.past.attempts
    keeps_past n host there j attempt got gateway = ⊎_elim
        (λ (w : WasAttempt before j attempt). was_past j attempt n host w gateway there)
        (λ (o : IsOpened script start after attempt). let now = opened_now attempt n host o gateway there in omega (arith, now))
        (come_from script range start began change j attempt got)
