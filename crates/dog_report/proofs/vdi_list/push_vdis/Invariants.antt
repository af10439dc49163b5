use Rattle.std.proofs.Common.{◌≡◌, ◌++◌, ◌-◌, [], length, drop, map}
use Rattle.std.specs.Option.{option_map_or}
use Rattle.vdi_directory.specs.Decisions.{log_effects}
use Rattle.vdi_directory.specs.Effects.{header_of, live_of}
use Rattle.dog_report.specs.Lists.{vdi_words, vdis_words}
use Rattle.dog_report.specs.ListParts.{lines_text}
use Rattle.dog_report.proofs.vdi_list.push_vdis.Given as goal

-- what was added, with the lines of the ids that are left, is all of them
abbrev pub invariant-loop-vid : goal.invariant-loop-vid
invariant-loop-vid l =
    l.text.items
    ++ lines_text (map (λ vid. option_map_or (vdi_words (log_effects l.directory) vid) (header_of (log_effects l.directory) vid) [])
    (drop l.place (live_of (log_effects l.directory))))
    ≡ l.fn.text.items ++ lines_text (vdis_words (log_effects l.directory))

abbrev pub decreases-loop-vid : goal.decreases-loop-vid
decreases-loop-vid l = length (live_of (log_effects l.directory)) - l.place
