use Rattle.std.proofs.Common.{◌≡◌, ◌+◌, ◌==◌, true, cond, ap, sym, ◌∙◌}
use Rattle.vdi_directory.specs.References.{one, child_references, parent_in, count_in}
use Rattle.vdi_directory.proofs.references.drop_reserved.Goals as goal

pub drop_reference-requires : goal.drop_reference-requires
drop_reference-requires c =
    let is : (c.args.reservation.now.by.0 == c.args.node.0) ≡ true = sym c.eq.ensures ∙ c.if-eq.true in (
      c.requires.0,
      λ vid. c.requires.1 vid
          ∙ ap (λ b. c.requires.0 vid + cond b (one c.args.reservation.now.vid.0 vid) 0 + child_references (parent_in c.args.headers.now) (count_in c.args.references.now) vid) is,
    )

pub returns-then-eq : goal.returns-then-eq
returns-then-eq c =
    let is : (c.args.reservation.now.by.0 == c.args.node.0) ≡ true = sym c.eq.ensures ∙ c.if-eq.true in
    λ own are. c.drop_reference.ensures own
    (λ vid. are vid ∙ ap (λ b. own vid + cond b (one c.args.reservation.now.vid.0 vid) 0 + child_references (parent_in c.args.headers.now) (count_in c.args.references.now) vid) is)
