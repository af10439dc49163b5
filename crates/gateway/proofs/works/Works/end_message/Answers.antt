use Rattle.std.proofs.Common.{refl, ◌≡◌, ◌∙◌, ℕ, true, Some, None, IsSome, IsOk, IfOk, IfSome, cond, ap, sym, subst}
use Rattle.std.specs.Option.{option_copied_mut}
use Rattle.std.specs.Map.{lookup}
use Rattle.std.specs.BTreeMap.{is_at}
use Rattle.std.specs.Ordering.{nat_cmp}
use Rattle.std.specs.FinMap as tree
use Rattle.std.proofs.lemmas.Map.Steps.{set_value_same}
use Rattle.std.proofs.lemmas.Result.{IfOk-weaker, on_err_weaker}
use Rattle.proof_tools.proofs.FiniteMaps.{get-from_entries}
use Rattle.gateway.specs.declared.outcome.Outcome.{Outcome}
use Rattle.gateway.specs.State.{Work, is_awaited_in}
use Rattle.gateway.specs.Messages.{IsPieceFor}
use Rattle.gateway.specs.Kept.{work_with_status, work_by, outcome_at}
use Rattle.proof_tools.proofs.SeenMaps.{insert-seen}
use Rattle.gateway.proofs.WorkLemmas.{if_none, if_some, some_if}
use Rattle.gateway.proofs.works.Works.end_message.Goals as goal

pub returns-in_default-clause-outcome : goal.returns-in_default-clause-outcome
returns-in_default-clause-outcome c =
    if_none (tree.get c.args.self.now c.args.req) _
    (ap (λ (m : tree.FinMap nat_cmp Work). tree.get m c.args.req) (sym c.self.view_is) ∙ get-from_entries c.self.inside.by_request.entries c.args.req
    ∙ sym c.get_mut.ensures.value ∙ ap option_copied_mut c.in_default.is)

pub returns-in_default-clause-ok : goal.returns-in_default-clause-ok
returns-in_default-clause-ok c =
    if_none (tree.get c.args.self.now c.args.req) _
    (ap (λ (m : tree.FinMap nat_cmp Work). tree.get m c.args.req) (sym c.self.view_is) ∙ get-from_entries c.self.inside.by_request.entries c.args.req
    ∙ sym c.get_mut.ensures.value ∙ ap option_copied_mut c.in_default.is)

pub end_message-requires-clause-awaited : goal.end_message-requires-clause-awaited
end_message-requires-clause-awaited c =
    let found : tree.get c.args.self.now c.args.req ≡ Some c.in-Some.work.now =
    ap (λ (m : tree.FinMap nat_cmp Work). tree.get m c.args.req) (sym c.self.view_is) ∙ get-from_entries c.self.inside.by_request.entries c.args.req
    ∙ sym c.get_mut.ensures.value ∙ ap option_copied_mut c.in-Some.is in
    some_if (tree.get c.args.self.now c.args.req) (λ (work : Work). is_awaited_in c.args.number work ≡ true) c.in-Some.work.now found c.requires.awaited

pub end_message-requires-clause-piece : goal.end_message-requires-clause-piece
end_message-requires-clause-piece c =
    let found : tree.get c.args.self.now c.args.req ≡ Some c.in-Some.work.now =
    ap (λ (m : tree.FinMap nat_cmp Work). tree.get m c.args.req) (sym c.self.view_is) ∙ get-from_entries c.self.inside.by_request.entries c.args.req
    ∙ sym c.get_mut.ensures.value ∙ ap option_copied_mut c.in-Some.is in
    some_if (tree.get c.args.self.now c.args.req) (λ (work : Work). IsPieceFor work.work c.args.status) c.in-Some.work.now found c.requires.piece

pub returns-clause-outcome : goal.returns-clause-outcome
returns-clause-outcome c =
    let found : tree.get c.args.self.now c.args.req ≡ Some c.in-Some.work.now =
    ap (λ (m : tree.FinMap nat_cmp Work). tree.get m c.args.req) (sym c.self.view_is) ∙ get-from_entries c.self.inside.by_request.entries c.args.req
    ∙ sym c.get_mut.ensures.value ∙ ap option_copied_mut c.in-Some.is in
    IfOk-weaker c.end_message.result _ _
    (λ (outcome : Outcome) is. if_some (tree.get c.args.self.now c.args.req)
    (λ (work : Work). outcome ≡ outcome_at c.args.tries c.args.touched work (work_with_status c.args.number c.args.status work).stage) c.in-Some.work.now found is)
    c.end_message.ensures.outcome

pub returns-clause-ok : goal.returns-clause-ok
returns-clause-ok c =
    let es = c.self.inside.by_request.entries in
    let req : ℕ = c.args.req in
    let new = c.end_message.new.self in
    let there : lookup (is_at (nat_cmp req)) es ≡ Some c.in-Some.work.now = sym c.get_mut.ensures.value ∙ ap option_copied_mut c.in-Some.is in
    let found : tree.get c.args.self.now req ≡ Some c.in-Some.work.now =
    ap (λ (m : tree.FinMap nat_cmp Work). tree.get m req) (sym c.self.view_is) ∙ get-from_entries es req ∙ there in
    IfOk-weaker c.end_message.result (λ (outcome : Outcome). new ≡ work_by outcome (work_with_status c.args.number c.args.status c.in-Some.work.now)) _
    (λ (outcome : Outcome) is. if_some (tree.get c.args.self.now req) _ c.in-Some.work.now found
    (insert-seen es (c.get_mut.follows.lender new).entries req new (λ q. ((c.get_mut.follows.holds new).3 (subst IsSome (sym there) refl)).0 q)
    ∙ ap (λ (m : tree.FinMap nat_cmp Work). tree.insert m req new) c.self.view_is
    ∙ ap (tree.insert c.args.self.now req) is))
    c.end_message.ensures.ok

pub returns-clause-err : goal.returns-clause-err
returns-clause-err c =
    let es = c.self.inside.by_request.entries in
    let req : ℕ = c.args.req in
    let new = c.end_message.new.self in
    let there : lookup (is_at (nat_cmp req)) es ≡ Some c.in-Some.work.now = sym c.get_mut.ensures.value ∙ ap option_copied_mut c.in-Some.is in
    on_err_weaker c.end_message.result
    (λ (same : new ≡ c.in-Some.work.now). ap (tree.from_entries {R = nat_cmp}) ((c.get_mut.follows.holds new).0 ∙ set_value_same (is_at (nat_cmp req)) es new (there ∙ ap Some (sym same))) ∙ c.self.view_is)
    c.end_message.ensures.err

pub returns-clause-memory : goal.returns-clause-memory
returns-clause-memory c =
    let found : tree.get c.args.self.now c.args.req ≡ Some c.in-Some.work.now =
    ap (λ (m : tree.FinMap nat_cmp Work). tree.get m c.args.req) (sym c.self.view_is) ∙ get-from_entries c.self.inside.by_request.entries c.args.req
    ∙ sym c.get_mut.ensures.value ∙ ap option_copied_mut c.in-Some.is in
    if_some (tree.get c.args.self.now c.args.req) _ c.in-Some.work.now found c.end_message.ensures.memory

pub returns-clause-undone : goal.returns-clause-undone
returns-clause-undone c =
    let found : tree.get c.args.self.now c.args.req ≡ Some c.in-Some.work.now =
    ap (λ (m : tree.FinMap nat_cmp Work). tree.get m c.args.req) (sym c.self.view_is) ∙ get-from_entries c.self.inside.by_request.entries c.args.req
    ∙ sym c.get_mut.ensures.value ∙ ap option_copied_mut c.in-Some.is in
    if_some (tree.get c.args.self.now c.args.req) _ c.in-Some.work.now found c.end_message.ensures.undone
