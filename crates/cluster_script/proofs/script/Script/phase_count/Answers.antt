use Rattle.std.proofs.Common.{length, sym, ap, ◌∙◌}
use Rattle.cluster_script.proofs.PhaseReaders.{length-kept_phases}
use Rattle.cluster_script.proofs.script.Script.phase_count.Goals as goal

pub returns : goal.returns
returns c = rw (sym c.self.view_is) (c.len.ensures ∙ ap length c.self.invariant.2.phases ∙ length-kept_phases c.self.inside.statements)
