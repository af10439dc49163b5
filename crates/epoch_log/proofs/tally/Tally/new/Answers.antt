use Rattle.std.proofs.Common.{◌≡◌, ◌∷◌, [], ◌++◌, List, refl, ap, ◌∙◌}
use Rattle.epoch_log.specs.declared.epoch_record.EpochRecord.{EpochRecord}
use Rattle.epoch_log.proofs.TallyLemmas.{tally-new}
use Rattle.epoch_log.proofs.tally.Tally.new.Goals as goal

pub returns : goal.returns
returns c =
    let pushed : c.push.new.self.items ≡ c.new-terms.result.items ++ record { members = c.in_ok-from_slice.field-0; missing = c.in_ok-from_slice-2.field-0 } ∷ []
    = c.in_ok-push.ensures.items in
    let members : c.in_ok-from_slice.field-0 ≡ c.args.members.now = c.in_ok-from_slice.ensures in
    let missing : c.in_ok-from_slice-2.field-0 ≡ c.args.members.now = c.in_ok-from_slice-2.ensures in
    let terms : c.push.new.self.items ≡ record { members = c.args.members.now; missing = c.args.members.now } ∷ []
    = pushed ∙ ap (λ (none : List EpochRecord). none ++ record { members = c.in_ok-from_slice.field-0; missing = c.in_ok-from_slice-2.field-0 } ∷ []) c.new-terms.ensures.items
    ∙ (λ i. record { members = members i; missing = missing i } ∷ []) in
    tally-new c.args.members.now (record { terms = c.push.new.self; early = c.new.result; settled = record { 0 = 1 } }) terms c.new.ensures.empty refl
