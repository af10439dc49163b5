use Rattle.std.proofs.Common.{[], ◌∷◌, ◌++◌, ap, ◌∙◌}
use Rattle.std.specs.Prelude.{codes, decimal}
use Rattle.dog_report.specs.Words.{following_words}
use Rattle.dog_report.proofs.WordLemmas.{more_words}
use Rattle.dog_report.proofs.fates.push_counts.Goals as goal

pub returns : goal.returns
returns c =
    let text = c.args.text.now.items in
    more_words text c.push_named.new.text.items c.push_named-2.new.text.items (codes "objects" ∷ decimal c.args.objects ∷ [])
    (codes "inherited" ∷ decimal c.args.inherited ∷ [])
    (c.in_ok-push_named.ensures ∙ ap (λ number. text ++ following_words (codes "objects" ∷ decimal number ∷ [])) c.from.ensures)
    (c.in_ok-push_named-2.ensures
    ∙ ap (λ number. c.push_named.new.text.items ++ following_words (codes "inherited" ∷ decimal number ∷ [])) c.from-2.ensures)
