use Rattle.std.proofs.Common.{rules, ◌≡◌, ◌∙◌, ap, true, map, string_bytes, List}
use Rattle.clap.specs.Simple.{is_simple, subcommand_of}
use Rattle.clap.specs.Takes.{takes}
use Rattle.clap.specs.declared.error.kind.ErrorKind.TheVariants.{OutOfMemory}
use Rattle.sheep_words.specs.Found.{mode_found}
use Rattle.clap.specs.Words.{Text}
use Rattle.sheep_words.proofs.WordLaws.{read_exactly, refused_means_none, sheep_is_simple}
use Rattle.sheep_words.proofs.mode.mode_of.Goals as goal

pub returns-then-is_some : goal.returns-then-is_some
returns-then-is_some c =
    let words : List Text = map (λ w. string_bytes w) c.args.words.now in
    let app_is = c.in-Ok.ensures in
    let found = (c.in-Ok-matches.ensures.matches (ap is_simple app_is ∙ sheep_is_simple)).1 in
    c.mode_found.ensures ∙ ap mode_found (found ∙ ap (λ a. subcommand_of a words) app_is) ∙ read_exactly words (search rules)

pub returns : goal.returns
returns c =
    let words : List Text = map (λ w. string_bytes w) c.args.words.now in
    refused_means_none words (λ taken.
    let kind_is : c.kind.result ≡ OutOfMemory = c.kind.ensures ∙ c.in-Err.ensures.passes (ap (λ a. takes a words) c.in-Ok.ensures ∙ taken) in
    let same : c.eq.result ≡ true = rw kind_is at c.eq.ensures in
    cc)
