-- The gateway of an attempt came to the attempt's epoch; and an attempt that begins is of the epoch in which its gateway is.
use Rattle.std.proofs.Common.{◌≡◌, ⊎_elim, ◌≤◌, List, Some, sym, ap, subst, ◌∙◌, arith}
use Rattle.std.specs.FinMap as tree
use Rattle.std.proofs.lemmas.Option.{same_Some}
use Rattle.proof_tools.proofs.FiniteMaps.{get-insert_same}
use Rattle.cluster_script.specs.declared.statement.Statement.{Statement}
use Rattle.sheep_world.specs.Began.{Began}
use Rattle.sheep_world.specs.NodeCauses.{host_with_node}
use Rattle.sheep_world.specs.World.{Host}
use Rattle.overlap_law.specs.Attempts.{AttemptRecord}
use Rattle.overlap_law.specs.Each.{EachAttempt}
use Rattle.overlap_law.specs.MomentChanges.{MomentChange, RunsAreInRange}
use Rattle.overlap_law.specs.Past.{MomentWithPast}
use Rattle.overlap_law.specs.Reached.{Hosts}
use Rattle.overlap_law.specs.TiedAttempts.{IsTied}
use Rattle.overlap_law.proofs.EpochsRise.{epochs_rise}
use Rattle.overlap_law.proofs.NewAttempts.{WasAttempt, IsOpened, come_from}
use Rattle.overlap_law.proofs.ReadInMoments.{hosts_after_sound}

abbrev pub GatewaysCame : Hosts → List AttemptRecord → Type 0
GatewaysCame hosts attempts =
    EachAttempt attempts (λ j attempt. (host : Host) → tree.get hosts attempt.gateway.0 ≡ Some host → attempt.epoch ≤ host.node.peer.epoch)

module _ (script : List Statement) (range : RunsAreInRange script) (start : MomentWithPast) (began : Began script start.world)
    {before after : MomentWithPast}
    (change : MomentChange script start before after) where
  -- an attempt that begins
  pub opened_epoch : (attempt : AttemptRecord) → IsOpened script start after attempt → (host : Host)
      → tree.get after.world.hosts attempt.gateway.0 ≡ Some host → attempt.epoch ≡ host.node.peer.epoch
  opened_epoch attempt o =
      subst (λ (a : AttemptRecord). (host : Host) → tree.get after.world.hosts a.gateway.0 ≡ Some host → a.epoch ≡ host.node.peer.epoch)
      o.opened (λ host at.
      let then = host_with_node o.stepping.host o.next.node in
      let there : tree.get after.world.hosts o.stepping.n ≡ Some then
      = ap (λ (m : MomentWithPast). tree.get m.world.hosts o.stepping.n) o.moment_so
      ∙ get-insert_same start.world.hosts o.stepping.n then in
      let read = ((hosts_after_sound script range start began change).each o.stepping.n then there).read in
      let number : o.stepping.n ≡ o.lined.node.me.0 = sym read.own ∙ ap (λ m. m.0) o.me_so in
      let same : then ≡ host = same_Some then host (sym there ∙ ap (tree.get after.world.hosts) number ∙ at) in
      sym o.epoch_so ∙ ap (λ (h : Host). h.node.peer.epoch) same)

  pub gateways_come : IsTied before → GatewaysCame before.world.hosts before.past.attempts
      → GatewaysCame after.world.hosts after.past.attempts
  gateways_come tied came j now got host at = ⊎_elim
      (λ (w : WasAttempt before j now).
      let (old, was_there) = tied.there.each j w.was w.at in
      let (then, there, rises) = epochs_rise script range start began change w.was.gateway.0 old was_there in
      let gateway : w.was.gateway.0 ≡ now.gateway.0 = ap (λ (a : AttemptRecord). a.gateway.0) w.same in
      let same : then ≡ host = same_Some then host (sym there ∙ ap (tree.get after.world.hosts) gateway ∙ at) in
      let epoch : w.was.epoch ≡ now.epoch = ap (λ (a : AttemptRecord). a.epoch) w.same in
      let reached : then.node.peer.epoch ≡ host.node.peer.epoch = ap (λ (h : Host). h.node.peer.epoch) same in
      let before_it = came j w.was w.at old was_there in
      omega (arith, rises, epoch, reached, before_it))
      (λ (o : IsOpened script start after now). let is = opened_epoch now o host at in omega (arith, is))
      (come_from script range start began change j now got)
