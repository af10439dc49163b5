use Rattle.std.proofs.Common.{refl, ◌≡◌, ◌∙◌, ℕ, Some, None, IsSome, cond, ap, sym, subst}
use Rattle.std.specs.Option.{option_copied_mut}
use Rattle.std.specs.Map.{lookup}
use Rattle.std.specs.BTreeMap.{is_at}
use Rattle.std.specs.Ordering.{nat_cmp}
use Rattle.std.specs.FinMap as tree
use Rattle.proof_tools.proofs.FiniteMaps.{get-from_entries}
use Rattle.gateway.specs.State.{Work}
use Rattle.gateway.specs.Stage.{work_stage, IsStageFor}
use Rattle.proof_tools.proofs.SeenMaps.{insert-seen}
use Rattle.gateway.proofs.WorkLemmas.{if_none, if_some, some_if}
use Rattle.gateway.proofs.works.Works.set_stage.Goals as goal

pub returns-in_default : goal.returns-in_default
returns-in_default c =
    let none : tree.get c.args.self.now c.args.req ≡ None =
    ap (λ (m : tree.FinMap nat_cmp Work). tree.get m c.args.req) (sym c.self.view_is) ∙ get-from_entries c.self.inside.by_request.entries c.args.req
    ∙ sym c.get_mut.ensures.value ∙ ap option_copied_mut c.in_default.is in
    if_none (tree.get c.args.self.now c.args.req) _ none

pub set_stage-requires : goal.set_stage-requires
set_stage-requires c =
    let found : tree.get c.args.self.now c.args.req ≡ Some c.in-Some.work.now =
    ap (λ (m : tree.FinMap nat_cmp Work). tree.get m c.args.req) (sym c.self.view_is) ∙ get-from_entries c.self.inside.by_request.entries c.args.req
    ∙ sym c.get_mut.ensures.value ∙ ap option_copied_mut c.in-Some.is in
    some_if (tree.get c.args.self.now c.args.req) (λ (work : Work). IsStageFor work.work work.ended (work_stage c.args.stage)) c.in-Some.work.now found c.requires

pub returns : goal.returns
returns c =
    let es = c.self.inside.by_request.entries in
    let req : ℕ = c.args.req in
    let new = c.set_stage.new.self in
    let there : lookup (is_at (nat_cmp req)) es ≡ Some c.in-Some.work.now = sym c.get_mut.ensures.value ∙ ap option_copied_mut c.in-Some.is in
    let found : tree.get c.args.self.now req ≡ Some c.in-Some.work.now =
    ap (λ (m : tree.FinMap nat_cmp Work). tree.get m req) (sym c.self.view_is) ∙ get-from_entries es req ∙ there in
    if_some (tree.get c.args.self.now req) _ c.in-Some.work.now found
    (insert-seen es (c.get_mut.follows.lender new).entries req new (λ q. ((c.get_mut.follows.holds new).3 (subst IsSome (sym there) refl)).0 q)
    ∙ ap (λ (m : tree.FinMap nat_cmp Work). tree.insert m req new) c.self.view_is
    ∙ ap (tree.insert c.args.self.now req) c.set_stage.ensures)
