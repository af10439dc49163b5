use Rattle.std.proofs.Common.{ap, sym, cond, ◌∙◌}
use Rattle.std.specs.FinSet as set
use Rattle.std.proofs.lemmas.Bool.{cond-true}
use Rattle.gateway.proofs.KeptMaps.{set-insert-seen}
use Rattle.gateway.proofs.touched.Touched.touch.Goals as goal

pub returns-in_ok-insert-clause-ok : goal.returns-in_ok-insert-clause-ok
returns-in_ok-insert-clause-ok c =
    set-insert-seen c.self.inside.requests.keys c.insert.new.self.keys c.args.req c.in_ok-insert.ensures.updates.0
    ∙ ap (λ seen. set.insert seen c.args.req) c.self.view_is
    ∙ sym (cond-true c.args.made (set.insert c.args.self.now c.args.req) c.args.self.now c.if-made.true)
