use Rattle.std.proofs.Common.{ℕ, List, [], ◌∷◌, ◌++◌, map, ap, ◌∙◌}
use Rattle.std.specs.Prelude.{codes, decimal, length}
use Rattle.dog_report.specs.Words.{Words, hex, following_words}
use Rattle.dog_report.proofs.WordLemmas.{more_words}
use Rattle.dog_report.proofs.fates.push_checked.Goals as goal

-- the own objects whose copies differed
abbrev differed_words : List ℕ → Words
differed_words oids = codes "differed" ∷ decimal (length oids) ∷ map (hex 16) oids

pub returns : goal.returns
returns c =
    let found = c.args.found.now in
    more_words c.args.text.now.items c.push_counts.new.text.items c.push_differed.new.text.items
    (codes "objects" ∷ decimal found.objects ∷ codes "inherited" ∷ decimal found.inherited ∷ []) (differed_words found.differed)
    c.in_ok-push_counts.ensures
    (c.in_ok-push_differed.ensures
    ∙ ap (λ (oids : List ℕ). c.push_counts.new.text.items ++ following_words (differed_words oids)) c.as_slice.ensures.value)
