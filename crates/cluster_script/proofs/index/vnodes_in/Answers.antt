use Rattle.std.proofs.Common.{◌∙◌, rules, tests}
use Rattle.object_id.specs.declared.limits.TheConstants.{VNODES_DEFAULT}
use Rattle.cluster_script.specs.Settings.{vnodes_set}
use Rattle.cluster_script.proofs.SettingLemmas.{setting_of-found}
use Rattle.cluster_script.proofs.index.vnodes_in.Goals as goal

pub returns : goal.returns
returns c =
    c.unwrap_or.ensures
    ∙ setting_of-found vnodes_set VNODES_DEFAULT (λ x answer after called. search (rules, tests)) c.find_map.result _ _
    c.iter.ensures.runs c.iter.ensures.rest c.find_map.ensures.runs
