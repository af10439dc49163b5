use Rattle.std.proofs.Common.{◌≡◌, ℕ, ◌&&◌, Bool, true, false, cond, Some, Result, Err, IsOk, refl, ap, sym, subst, ◌∙◌}
use Rattle.std.specs.Option.{option_map}
use Rattle.std.specs.Ordering.{nat_cmp}
use Rattle.std.specs.FinMap as tree
use Rattle.std.specs.FinSet as set
use Rattle.peer_proto.specs.declared.work.ObjWork.{ObjWork}
use Rattle.gateway.specs.Work.{is_making}
use Rattle.gateway.specs.Attempt.{may_be_made}
use Rattle.gateway.specs.Step.{touched_by, message_ended}
use Rattle.gateway.specs.Outcomes.{RefusesWork}
use Rattle.gateway.specs.Kept.{AreAskers, MessageEnds, work_with_status, outcome_at, act_by, IsUndone}
use Rattle.gateway.proofs.AskersKept.{AreAskers-told}
use Rattle.gateway.specs.Messages.{IsPieceFor}
use Rattle.gateway.specs.State.{Work, Gateway, asker, is_awaited_in, is_touched}
use Rattle.gateway.proofs.AskerLemmas.{asker-has, on_err}
use Rattle.gateway.proofs.StepLemmas.{message_ended-none, told-step}
use Rattle.gateway.proofs.RefusalLemmas.{refused-undone, refused-untouched, refusal-told, touched-now}
use Rattle.gateway.proofs.WorkLemmas.{if_some, some_if, told-gives}
use Rattle.gateway.proofs.gateway.Gateway.message_ended.Goals as goal

pub returns-in_default-clause-ok : goal.returns-in_default-clause-ok
returns-in_default-clause-ok c =
    message_ended-none c.args.self.now c.args.number c.args.status
    (sym c.asked.ensures ∙ ap (option_map (λ found. (found.0, found.1.now))) c.in_default.is)

pub end_and_tell-requires-clause-awaited : goal.end_and_tell-requires-clause-awaited
end_and_tell-requires-clause-awaited c =
    let found : asker c.args.number c.args.self.now ≡ Some (c.in-Some.req, c.in-Some.work.now)
    = sym c.asked.ensures ∙ ap (option_map (λ found. (found.0, found.1.now))) c.in-Some.is in
    let has = asker-has c.args.number c.args.self.now c.in-Some.req c.in-Some.work.now found in
    let at : tree.get c.self.inside.works c.in-Some.req ≡ Some c.in-Some.work.now
    = ap (λ (g : Gateway). tree.get g.works c.in-Some.req) c.self.view_is ∙ has.0 in
    if_some (tree.get c.self.inside.works c.in-Some.req) (λ (work : Work). is_awaited_in c.args.number work ≡ true) c.in-Some.work.now at has.1

pub end_and_tell-requires-clause-piece : goal.end_and_tell-requires-clause-piece
end_and_tell-requires-clause-piece c =
    let found : asker c.args.number c.args.self.now ≡ Some (c.in-Some.req, c.in-Some.work.now)
    = sym c.asked.ensures ∙ ap (option_map (λ found. (found.0, found.1.now))) c.in-Some.is in
    let has = asker-has c.args.number c.args.self.now c.in-Some.req c.in-Some.work.now found in
    let at : tree.get c.self.inside.works c.in-Some.req ≡ Some c.in-Some.work.now
    = ap (λ (g : Gateway). tree.get g.works c.in-Some.req) c.self.view_is ∙ has.0 in
    if_some (tree.get c.self.inside.works c.in-Some.req) (λ (work : Work). IsPieceFor work.work c.args.status) c.in-Some.work.now at
    (some_if (asker c.args.number c.args.self.now) (λ (f : ℕ × Work). IsPieceFor f.1.work c.args.status) (c.in-Some.req, c.in-Some.work.now) found c.requires.piece)

pub returns-in_err-touch-clause-memory : goal.returns-in_err-touch-clause-memory
returns-in_err-touch-clause-memory c refuses =
    let number : ℕ = c.args.number in
    let req : ℕ = c.in-Some.req in
    let work : Work = c.in-Some.work.now in
    let gateway : Gateway = c.args.self.now in
    let found : asker number gateway ≡ Some (req, work) = sym c.asked.ensures ∙ ap (option_map (λ found. (found.0, found.1.now))) c.in-Some.is in
    let has = asker-has number gateway req work found in
    let made_is : c.touches-made.result ≡ (is_making work.work && may_be_made c.args.status)
    = c.touches-made.ensures ∙ ap (λ (w : ObjWork). is_making w && may_be_made c.args.status) c.work.ensures.value in
    let wrong : false ≡ true
    = by_made c.touches-made.result refl c.in_err-touch.ensures.memory
    (λ made. refused-untouched req gateway.tries (is_touched req (touched_by req work.work c.args.status gateway)) work
    (work_with_status number c.args.status work).stage
    (touched-now gateway req work.work c.args.status (sym made_is ∙ made))
    (refusal-told gateway number c.args.status req work found has.1 refuses)) in
    absurd (cc (wrong))
  where
    by_made : {A : Type 0} (b : Bool) → b ≡ b → (b ≡ false → A) → (b ≡ true → ⊥) → A
    by_made true _ none some = absurd (some refl)
    by_made false _ none some = none refl

pub returns-in_err-act-clause-memory : goal.returns-in_err-act-clause-memory
returns-in_err-act-clause-memory c refuses =
    let number : ℕ = c.args.number in
    let req : ℕ = c.in-Some.req in
    let work : Work = c.in-Some.work.now in
    let seen : Gateway = record { me = c.self.inside.me; tries = c.self.inside.tries; works = c.self.inside.works; touched = c.self.inside.touched } in
    let found : asker number seen ≡ Some (req, work)
    = ap (asker number) c.self.view_is ∙ sym c.asked.ensures ∙ ap (option_map (λ found. (found.0, found.1.now))) c.in-Some.is in
    let has = asker-has number seen req work found in
    let touched_is : c.touch.new.self ≡ (touched_by req work.work c.args.status seen).touched
    = c.in_ok-touch.ensures.ok
    ∙ ap (λ (b : Bool). cond b (set.insert c.self.inside.touched req) c.self.inside.touched)
    (c.touches-made.ensures ∙ ap (λ (w : ObjWork). is_making w && may_be_made c.args.status) c.work.ensures.value) in
    let touched : c.has-touched.result ≡ is_touched req (touched_by req work.work c.args.status seen)
    = c.has-touched.ensures ∙ ap (λ (t : set.FinSet nat_cmp). set.contains t req) touched_is in
    let told = refusal-told seen number c.args.status req work found has.1
    (subst (λ (g : Gateway). RefusesWork (message_ended g number c.args.status).act) (sym c.self.view_is) refuses) in
    let undone : IsUndone (outcome_at c.self.inside.tries c.has-touched.result work (work_with_status number c.args.status work).stage)
    = refused-undone req work.work _ (subst (λ (b : Bool). RefusesWork (act_by req work.work
    (outcome_at c.self.inside.tries b work (work_with_status number c.args.status work).stage))) (sym touched) told) in
    let ok : IsOk c.end_and_tell.result
    = some_if (tree.get c.self.inside.works req) (λ (w : Work).
    IsUndone (outcome_at c.self.inside.tries c.has-touched.result w (work_with_status number c.args.status w).stage) → IsOk c.end_and_tell.result)
    work has.0 c.end_and_tell.ensures.undone undone in
    let wrong : false ≡ true = subst IsOk c.in_err-act.was ok in
    absurd (cc (wrong))

pub returns-clause-ok : goal.returns-clause-ok
returns-clause-ok c =
    let number : ℕ = c.args.number in
    let req : ℕ = c.in-Some.req in
    let work : Work = c.in-Some.work.now in
    let seen : Gateway = record { me = c.self.inside.me; tries = c.self.inside.tries; works = c.self.inside.works; touched = c.self.inside.touched } in
    let found : asker number seen ≡ Some (req, work)
    = ap (asker number) c.self.view_is ∙ sym c.asked.ensures ∙ ap (option_map (λ found. (found.0, found.1.now))) c.in-Some.is in
    let has = asker-has number seen req work found in
    let touched_is : c.touch.new.self ≡ (touched_by req work.work c.args.status seen).touched
    = c.in_ok-touch.ensures.ok
    ∙ ap (λ (b : Bool). cond b (set.insert c.self.inside.touched req) c.self.inside.touched)
    (c.touches-made.ensures ∙ ap (λ (w : ObjWork). is_making w && may_be_made c.args.status) c.work.ensures.value) in
    let touched : c.has-touched.result ≡ is_touched req (touched_by req work.work c.args.status seen)
    = c.has-touched.ensures ∙ ap (λ (t : set.FinSet nat_cmp). set.contains t req) touched_is in
    let ends : MessageEnds req number c.args.status c.self.inside.tries c.has-touched.result work c.self.inside.works c.end_and_tell.new.self c.in_ok-act.act
    = some_if (tree.get c.self.inside.works req) (λ (w : Work). MessageEnds req number c.args.status c.self.inside.tries c.has-touched.result w c.self.inside.works c.end_and_tell.new.self c.in_ok-act.act)
    work has.0 c.in_ok-act.ensures.ok in
    subst (λ (g : Gateway). message_ended g number c.args.status ≡ record {
      gateway = record { me = c.self.inside.me; tries = c.self.inside.tries; works = c.end_and_tell.new.self; touched = c.touch.new.self };
      act = c.in_ok-act.act;
    }) c.self.view_is
    (told-step seen number c.args.status req work c.end_and_tell.new.self c.touch.new.self c.in_ok-act.act found has.1 touched_is
    (subst (λ (b : Bool). MessageEnds req number c.args.status c.self.inside.tries b work c.self.inside.works c.end_and_tell.new.self c.in_ok-act.act) touched ends))

pub returns-clause-given : goal.returns-clause-given
returns-clause-given c =
    let number : ℕ = c.args.number in
    let req : ℕ = c.in-Some.req in
    let work : Work = c.in-Some.work.now in
    let found : asker number c.args.self.now ≡ Some (req, work)
    = sym c.asked.ensures ∙ ap (option_map (λ found. (found.0, found.1.now))) c.in-Some.is in
    let has = asker-has number c.args.self.now req work found in
    let at : tree.get c.self.inside.works req ≡ Some work = ap (λ (g : Gateway). tree.get g.works req) c.self.view_is ∙ has.0 in
    let ends : MessageEnds req number c.args.status c.self.inside.tries c.has-touched.result work c.self.inside.works c.end_and_tell.new.self c.in_ok-act.act
    = some_if (tree.get c.self.inside.works req) (λ (w : Work). MessageEnds req number c.args.status c.self.inside.tries c.has-touched.result w c.self.inside.works c.end_and_tell.new.self c.in_ok-act.act)
    work at c.in_ok-act.ensures.ok in
    told-gives req number c.args.status c.self.inside.tries c.has-touched.result work c.self.inside.works c.end_and_tell.new.self c.in_ok-act.act
    c.work.ensures.open
    (some_if (asker number c.args.self.now) (λ (f : ℕ × Work). IsPieceFor f.1.work c.args.status) (req, work) found c.requires.piece) ends

pub invariant_of-self-2 : goal.invariant_of-self-2
invariant_of-self-2 c =
    let number : ℕ = c.args.number in
    let req : ℕ = c.in-Some.req in
    let work : Work = c.in-Some.work.now in
    let seen : Gateway = record { me = c.self.inside.me; tries = c.self.inside.tries; works = c.self.inside.works; touched = c.self.inside.touched } in
    let found : asker number seen ≡ Some (req, work)
    = ap (asker number) c.self.view_is ∙ sym c.asked.ensures ∙ ap (option_map (λ found. (found.0, found.1.now))) c.in-Some.is in
    let has = asker-has number seen req work found in
    let ends : MessageEnds req number c.args.status c.self.inside.tries c.has-touched.result work c.self.inside.works c.end_and_tell.new.self c.in_ok-act.act
    = some_if (tree.get c.self.inside.works req) (λ (w : Work). MessageEnds req number c.args.status c.self.inside.tries c.has-touched.result w c.self.inside.works c.end_and_tell.new.self c.in_ok-act.act)
    work has.0 c.in_ok-act.ensures.ok in
    subst (λ (askers : tree.FinMap nat_cmp ℕ). AreAskers askers c.end_and_tell.new.self) (sym c.remove.ensures)
    (subst (λ (works : tree.FinMap nat_cmp Work). AreAskers (tree.remove c.self.inside.askers number) works) (sym ends.0)
    (AreAskers-told c.self.inside.askers c.self.inside.works number req c.args.status work _ c.self.invariant has.0 has.1 c.requires.known))

pub returns-in_err-act-clause-err : goal.returns-in_err-act-clause-err
returns-in_err-act-clause-err c =
    let number : ℕ = c.args.number in
    let req : ℕ = c.in-Some.req in
    let work : Work = c.in-Some.work.now in
    let seen : Gateway = record { me = c.self.inside.me; tries = c.self.inside.tries; works = c.self.inside.works; touched = c.self.inside.touched } in
    let found : asker number seen ≡ Some (req, work)
    = ap (asker number) c.self.view_is ∙ sym c.asked.ensures ∙ ap (option_map (λ found. (found.0, found.1.now))) c.in-Some.is in
    let has = asker-has number seen req work found in
    let memory : is_making work.work ≡ true → IsOk c.end_and_tell.result
    = some_if (tree.get c.self.inside.works req) (λ (w : Work). is_making w.work ≡ true → IsOk c.end_and_tell.result) work has.0 c.end_and_tell.ensures.memory in
    let made_is : c.touches-made.result ≡ (is_making work.work && may_be_made c.args.status)
    = c.touches-made.ensures ∙ ap (λ (w : ObjWork). is_making w && may_be_made c.args.status) c.work.ensures.value in
    let same : c.touch.new.self ≡ c.self.inside.touched
    = c.in_ok-touch.ensures.ok
    ∙ ap (λ (b : Bool). cond b (set.insert c.self.inside.touched req) c.self.inside.touched)
    (made_is ∙ ap (λ (b : Bool). b && may_be_made c.args.status) (not_making (is_making work.work) refl c.end_and_tell.result _ c.in_err-act.was memory)) in
    on_err c.from_residual-in_err-act.result
    ((λ i. record { me = c.self.inside.me; tries = c.self.inside.tries; works = c.in_err-act.ensures.err i; touched = same i }) ∙ c.self.view_is)
  where
    not_making : {A E : Type 0} (b : Bool) → b ≡ b → (r : Result A E) (e : E) → r ≡ Err e → (b ≡ true → IsOk r) → b ≡ false
    not_making true _ r e is ok = let wrong : false ≡ true = subst IsOk is (ok refl) in absurd (cc (wrong))
    not_making false _ r e is ok = refl
