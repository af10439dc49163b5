use Rattle.std.proofs.Common.{◌≡◌, OnOk, ap, subst, ◌∙◌}
use Rattle.std.specs.Ordering.{nat_cmp}
use Rattle.std.specs.FinMap as tree
use Rattle.proof_tools.proofs.FiniteMaps.{get-remove_same}
use Rattle.sheep_node.specs.declared.course.Request.{Request}
use Rattle.sheep_node.proofs.RequestMarks.{insert-remove}
use Rattle.sheep_node.proofs.requests.Requests.put.Goals as goal

pub put_new-requires : goal.put_new-requires
put_new-requires c =
    ap (λ (requests : tree.FinMap nat_cmp Request). tree.get requests c.args.req) c.remove.ensures.gone ∙ get-remove_same c.args.self.now c.args.req

pub returns : goal.returns
returns c =
    subst (λ (requests : tree.FinMap nat_cmp Request). OnOk c.put_new.result (c.put_new.new.self ≡ requests))
    (ap (λ (requests : tree.FinMap nat_cmp Request). tree.insert requests c.args.req c.args.request) c.remove.ensures.gone
    ∙ insert-remove c.args.self.now c.args.req c.args.request) c.put_new.ensures
