use Rattle.std.proofs.Common.{ap, ◌∙◌}
use Rattle.dog_report.specs.Words.{hex}
use Rattle.dog_report.proofs.WordLemmas.{words-step}
use Rattle.dog_report.proofs.fates.push_oids.Goals as goal

pub loop-oid-preserved : goal.loop-oid-preserved
loop-oid-preserved c =
    words-step (hex 16) c.args.oids.now c.loop-oid.oid-index _ _ _ _ _ c.loop-oid-test.true
    (ap (hex 16) (c.as_u64.ensures.value ∙ c.oid-item.is)) c.in_ok-push_hex_word.ensures c.loop-oid.invariant
