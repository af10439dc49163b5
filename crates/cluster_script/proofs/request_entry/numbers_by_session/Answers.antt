use Rattle.std.proofs.Common.{◌++◌, ◌∷◌, [], ap, ◌∙◌}
use Rattle.cluster_script.specs.KeptIndex.{numbers_asked}
use Rattle.cluster_script.proofs.TableLemmas.{map-more}
use Rattle.cluster_script.proofs.request_entry.numbers_by_session.Goals as goal

pub loop-count-preserved : goal.loop-count-preserved
loop-count-preserved c =
    c.in_ok-push.ensures.ok
    ∙ ap (λ lists. lists ++ c.in_ok-numbers_of.field-0 ∷ []) c.loop-count.invariant
    ∙ map-more (λ session. numbers_asked session 1 c.args.entries.now) c.loop-count.count c.in_ok-numbers_of.field-0
    c.in_ok-numbers_of.ensures
