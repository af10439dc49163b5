use Rattle.std.proofs.Common.{◌≡◌, ◌+◌, ◌-◌, length, true, sym, ap, ◌∙◌, arith}
use Rattle.epoch_log.specs.declared.epoch_record.EpochRecord.{EpochRecord}
use Rattle.epoch_log.specs.Members.{members_after}
use Rattle.epoch_log.specs.Epochs.{begins_epoch, epoch_of}
use Rattle.epoch_log.specs.Tally.{IsTally, term_in}
use Rattle.epoch_log.proofs.TallyLemmas.{tally-begins_epoch, tally-other, next-Some, next-None}
use Rattle.epoch_log.proofs.tally.Tally.count.Goals as goal

pub returns-in_ok-begin-in-Some-2-clause-ok : goal.returns-in_ok-begin-in-Some-2-clause-ok
returns-in_ok-begin-in-Some-2-clause-ok c =
    let t : IsTally c.args.before.now c.args.self.now = c.requires.tally in
    let count : length c.args.self.now.terms.items ≡ epoch_of c.args.before.now = t.epochs in
    let term : EpochRecord = c.index.result.now in
    let place : c.len-newest.result - 1 + 1 ≡ epoch_of c.args.before.now = omega arith in
    let newest : term ≡ term_in c.args.before.now (epoch_of c.args.before.now)
    = c.index.ensures ∙ t.terms (c.len-newest.result - 1) term (omega arith) ∙ ap (term_in c.args.before.now) place in
    let made : (begins_epoch c.args.entry.now ≡ true) × (c.in-Some-2.members ≡ members_after term.members c.args.entry.now)
    = next-Some (begins_epoch c.args.entry.now) (members_after term.members c.args.entry.now) c.in-Some-2.members (sym c.in-Some-2.is ∙ c.in_ok-members.ensures) in
    tally-begins_epoch c.args.before.now c.args.entry.now c.args.self.now c.begin.new.self c.in-Some-2.members c.requires.log c.requires.fits
    made.0 t (made.1 ∙ ap (λ (newest : EpochRecord). members_after newest.members c.args.entry.now) newest)
    c.in_ok-begin-in-Some-2.ensures.terms c.in_ok-begin-in-Some-2.ensures.settled c.in_ok-begin-in-Some-2.ensures.early

pub returns-in-None-clause-ok : goal.returns-in-None-clause-ok
returns-in-None-clause-ok c =
    tally-other c.args.before.now c.args.entry.now c.args.self.now c.requires.log
    (next-None (begins_epoch c.args.entry.now) (members_after c.index.result.now.members c.args.entry.now) (sym c.in-None.is ∙ c.in_ok-members.ensures))
    (sym c.in_default.ensures) c.requires.tally
