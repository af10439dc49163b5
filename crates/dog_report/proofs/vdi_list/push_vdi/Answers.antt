use Rattle.std.proofs.Common.{◌≡◌, ◌∷◌, [], ◌++◌, sym, ap, ◌∙◌}
use Rattle.std.specs.Prelude.{codes}
use Rattle.std.specs.Option.{option_map_or}
use Rattle.std.proofs.lemmas.Result.{on_ok_weaker}
use Rattle.vdi_directory.specs.Decisions.{log_effects}
use Rattle.vdi_directory.specs.Effects.{header_of}
use Rattle.dog_report.specs.Words.{Words, spaced_words}
use Rattle.dog_report.specs.Lists.{vdi_words}
use Rattle.dog_report.specs.ListParts.{header_details}
use Rattle.dog_report.proofs.VdiLemmas.{vdi_words-header}
use Rattle.dog_report.proofs.vdi_list.push_vdi.Goals as goal

pub returns-in-Some : goal.returns-in-Some
returns-in-Some c =
    let effects = log_effects c.args.directory.now in
    let header = c.in-Some.header.now in
    let text = c.args.text.now.items in
    let line = vdi_words-header c.args.directory.now c.args.vid.0 header c.holder.result (sym c.in-Some.ensures.value)
    c.in-Some.ensures.valid c.requires.live (c.holder.ensures ∙ c.requires.locks c.args.vid.0) in
    on_ok_weaker {
    P = c.push_header.new.text.items ≡ text ++ spaced_words (codes "vdi" ∷ header_details c.args.vid.0 header c.holder.result) ++ codes "\n"
    } {
    Q = c.push_header.new.text.items
    ≡ text ++ spaced_words (option_map_or (vdi_words effects c.args.vid.0) (header_of effects c.args.vid.0) []) ++ codes "\n"
    } c.push_header.result (λ told. told ∙ ap (λ (words : Words). text ++ spaced_words words ++ codes "\n") line) c.push_header.ensures
