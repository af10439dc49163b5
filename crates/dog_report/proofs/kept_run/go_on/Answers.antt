use Rattle.std.proofs.Common.{◌≡◌, Err, ap, ◌∙◌}
use Rattle.std.proofs.lemmas.Result.{on_ok_weaker}
use Rattle.sheep_world.specs.declared.fault.ApplyFault.{ApplyFault}
use Rattle.sheep_world.specs.declared.fault.ApplyFault.TheVariants as faults
use Rattle.sheep_world.specs.SpentWorld.{WorldOrSpent}
use Rattle.dog_report.proofs.ReporterLaws.{event-made, event-none}
use Rattle.dog_report.proofs.kept_run.go_on.Goals as goal

pub returns-in-Ok-clause-told : goal.returns-in-Ok-clause-told
returns-in-Ok-clause-told c =
    on_ok_weaker c.add_made.result
    (λ on report here has. event-made c.args.script.now report c.args.event c.args.world.now.world c.apply.new.self.world c.in-Ok._grown
    c.tell_before.new.self c.add_made.new.self here c.in-Ok.ensures.made (c.in_ok-tell_before.ensures report here has) (on c.args.script.now))
    c.add_made.ensures

pub returns-in-Err-NotEnabled-clause-told : goal.returns-in-Err-NotEnabled-clause-told
returns-in-Err-NotEnabled-clause-told c = λ report here has.
    let is : c.apply.result ≡ Err faults.NotEnabled
    = c.in-Err-NotEnabled.is ∙ ap (λ (fault : ApplyFault). Err fault) c.in-Err-NotEnabled.field-0-is in
    event-none c.args.script.now report c.args.event c.args.world.now.world c.apply.new.self.world c.tell_before.new.self here
    (c.apply.ensures.refused.0 is) (ap (λ (world : WorldOrSpent). world.world) (c.apply.ensures.unchanged is))
    (c.in_ok-tell_before.ensures report here has)
