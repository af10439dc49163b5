use Rattle.std.proofs.Common.{◌≡◌, ◌+◌, ◌==◌, true, cond, ap, sym, ◌∙◌}
use Rattle.std.proofs.lemmas.Result.{on_ok_weaker}
use Rattle.vdi_directory.specs.References.{one, child_references, parent_in, left_in}
use Rattle.vdi_directory.proofs.losses.Losses.drop_reserved.Goals as goal

pub returns-then-eq-clause-loses : goal.returns-then-eq-clause-loses
returns-then-eq-clause-loses c =
    let is : (c.args.reservation.now.by.0 == c.args.node.0) ≡ true = sym c.eq.ensures ∙ c.if-eq.true in
    on_ok_weaker c.drop_reference.result
    (λ loses own are. loses own
    (λ vid. are vid ∙ ap (λ b. own vid + cond b (one c.args.reservation.now.vid.0 vid) 0
    + child_references (parent_in c.args.headers.now) (left_in c.args.references.now c.args.self.now.left) vid) is))
    c.drop_reference.ensures.loses
