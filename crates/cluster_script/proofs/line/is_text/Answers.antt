use Rattle.std.proofs.Common.{◌∙◌}
use Rattle.cluster_script.proofs.LineSteps.{is_text}
use Rattle.cluster_script.proofs.line.is_text.Goals as goal

pub returns : goal.returns
returns c = c.is_ok.ensures.value ∙ is_text c.from_utf8.result c.args.line.now _ _ c.from_utf8.ensures.cases
