use Rattle.std.proofs.Common.{sym, ◌∙◌}
use Rattle.live_merge.proofs.OpeningLemmas.{ends_whole}
use Rattle.live_merge.proofs.merge.whole_merge.Goals as goal

pub returns-then-is_whole-clause-whole : goal.returns-then-is_whole-clause-whole
returns-then-is_whole-clause-whole c =
    ends_whole c.args.script.now c.in-Ok.world.world c.in-Ok.run' c.in-Ok.ensures.end (sym c.ended-is_whole.ensures ∙ c.if-is_whole.true)
