use Rattle.std.proofs.Common.{◌++◌, [], arith}
use Rattle.std.specs.Option.{option_map_or}
use Rattle.std.proofs.lemmas.Option.{slice_get_within}
use Rattle.vdi_directory.specs.Decisions.{log_effects}
use Rattle.vdi_directory.specs.Effects.{header_of, live_of}
use Rattle.dog_report.specs.Lists.{vdi_words, vdis_words}
use Rattle.dog_report.specs.ListParts.{lines_text}
use Rattle.dog_report.proofs.VdiLemmas.{id-at, live-at, live-step, live-end}
use Rattle.dog_report.proofs.vdi_list.push_vdis.Goals as goal

pub push_vdi-requires-clause-live : goal.push_vdi-requires-clause-live
push_vdi-requires-clause-live c = live-at _ _ _ c.in-Some.ensures

pub loop-vid-smaller : goal.loop-vid-smaller
loop-vid-smaller c =
    let live = live_of (log_effects c.args.directory.now) in
    let within = slice_get_within live c.loop-vid.place c.in-Some.vid.0 (id-at live c.loop-vid.place c.in-Some.vid c.in-Some.ensures) in
    omega (arith, c.in_ok-place.ensures, within)

pub loop-vid-preserved : goal.loop-vid-preserved
loop-vid-preserved c = live-step _ _ _ _ _ _ _ _ c.in-Some.ensures c.in_ok-push_vdi.ensures c.in_ok-place.ensures c.loop-vid.invariant

pub returns : goal.returns
returns c =
    let effects = log_effects c.args.directory.now in
    live-end (λ vid. option_map_or (vdi_words effects vid) (header_of effects vid) []) (live_of effects) c.loop-vid.place
    c.loop-vid.text.items (c.args.text.now.items ++ lines_text (vdis_words effects)) c.in_default.ensures c.loop-vid.invariant
