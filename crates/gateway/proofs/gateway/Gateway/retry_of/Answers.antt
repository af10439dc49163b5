use Rattle.std.proofs.Common.{◌≡◌, ℕ, ◌<◌, ◌==◌, nat_lt, true, false, cond, List, Option, Some, None, is_some, not, IsTrue, refl, ap, ap₂, sym, subst, ◌∙◌, arith}
use Rattle.std.specs.List.{list_any, list_all}
use Rattle.std.specs.Option.{option_copied}
use Rattle.std.specs.Ordering.{nat_cmp}
use Rattle.std.specs.FinMap as tree
use Rattle.vnode_table.specs.Targets.{targets_in}
use Rattle.object_id.specs.declared.node.NodeId.{NodeId}
use Rattle.peer_proto.specs.Work.{oid_of, policy_of}
use Rattle.gateway.specs.declared.message.Message.{Message}
use Rattle.gateway.specs.declared.beginning.Beginning.{Beginning}
use Rattle.gateway.specs.declared.beginning.Beginning.TheVariants as beginnings
use Rattle.gateway.specs.declared.act.Act.TheVariants as acts
use Rattle.gateway.specs.Attempt.{messages_of}
use Rattle.gateway.specs.Stage.{IsStageFor}
use Rattle.gateway.proofs.WorkLemmas.{if_some, some_if}
use Rattle.gateway.specs.State.{Work, Open, Ended, WaitsForMembers, Gateway, is_awaited_in, open_numbers, is_touched}
use Rattle.gateway.specs.Step.{GatewayStep, retry_step}
use Rattle.gateway.specs.Outcomes.{RefusesWork}
use Rattle.gateway.specs.Work.{zones_for}
use Rattle.hash_ring.specs.Placement.{zone_count}
use Rattle.vnode_table.specs.Epochs.{members_at}
use Rattle.gateway.specs.Kept.{AreAskers, beginning_of, next_req}
use Rattle.gateway.proofs.MessageLemmas.{has_number}
use Rattle.gateway.proofs.BeginningLemmas.{AreMessagesFor-sent}
use Rattle.gateway.proofs.AskersKept.{messages-sent, sent-others, AreAskers-some, AreAskers-open, AreAskers-quiet, AreAskers-without, awaited-open}
use Rattle.gateway.proofs.StepLemmas.{retry-from, next-there, refused-short-again}
use Rattle.gateway.proofs.gateway.Gateway.retry_of.Goals as goal

pub returns-in_default-clause-ok : goal.returns-in_default-clause-ok
returns-in_default-clause-ok c =
    let none : tree.get c.self.inside.works c.args.req ≡ None = sym c.get.ensures ∙ ap option_copied c.in_default.is in
    let next : next_req c.args.epoch c.self.inside.works ≡ Some c.args.req
    = ap (λ (g : Gateway). next_req c.args.epoch g.works) c.self.view_is ∙ c.requires.next in
    absurd (next-there c.args.epoch c.self.inside.works c.args.req _ refl next none)

pub invariant_of-self : goal.invariant_of-self
invariant_of-self c =
    let work : Work = c.in-Some.work.now in
    let seen : Gateway = record { me = c.self.inside.me; tries = c.self.inside.tries; works = c.self.inside.works; touched = c.self.inside.touched } in
    let at : tree.get c.self.inside.works c.args.req ≡ Some work = sym c.get.ensures ∙ ap option_copied c.in-Some.is in
    let targets : List NodeId = targets_in c.args.place.now c.args.epoch.0 (oid_of work.work) (policy_of work.work) in
    let all : list_all (λ (number : ℕ). nat_lt number c.args.first) (open_numbers seen) ≡ true
    = ap (λ (g : Gateway). list_all (λ (number : ℕ). nat_lt number c.args.first) (open_numbers g)) c.self.view_is ∙ c.requires.may_send.numbers in
    let is : c.in-Sends.messages ≡ messages_of work.work work.ended c.args.first targets
    = messages-sent c.args.place.now c.self.inside.me work.work work.ended c.has-touched.result c.args.first c.args.epoch c.in-Sends.messages c.in-Sends.sends
    (sym c.in-Sends.is ∙ c.in_ok-beginning.ensures.beginning
    ∙ ap₂ (λ w e. beginning_of c.args.place.now c.self.inside.me w e c.has-touched.result c.args.first c.args.epoch) c.work.ensures.value c.ended-count.ensures) in
    AreAskers-some c.self.inside.askers c.put_all.new.self c.self.inside.works c.in-Sends.messages c.self.invariant
    (λ number none. c.in_err-put_all-in-Sends.ensures.err number (ap (list_any (has_number number)) c.as_slice.ensures ∙ none))
    (sent-others seen work.work work.ended c.args.first targets c.in-Sends.messages all is)

pub set_stage-requires : goal.set_stage-requires
set_stage-requires c =
    let work : Work = c.in-Some.work.now in
    let at : tree.get c.self.inside.works c.args.req ≡ Some work = sym c.get.ensures ∙ ap option_copied c.in-Some.is in
    if_some (tree.get c.self.inside.works c.args.req) _ work at (
      AreMessagesFor-sent c.args.place.now c.self.inside.me work.work work.ended c.has-touched.result c.args.first c.args.epoch c.in-Sends.messages c.in-Sends.sends
          c.work.ensures.valid
          (sym c.in-Sends.is ∙ c.in_ok-beginning.ensures.beginning
          ∙ ap₂ (λ w e. beginning_of c.args.place.now c.self.inside.me w e c.has-touched.result c.args.first c.args.epoch) c.work.ensures.value c.ended-count.ensures),
      omega (arith, c.if-count.false, c.ended-count.ensures, c.ended-count.type_inv),
    )

pub invariant_of-self-in-Sends : goal.invariant_of-self-in-Sends
invariant_of-self-in-Sends c =
    let work : Work = c.in-Some.work.now in
    let seen : Gateway = record { me = c.self.inside.me; tries = c.self.inside.tries; works = c.self.inside.works; touched = c.self.inside.touched } in
    let at : tree.get c.self.inside.works c.args.req ≡ Some work = sym c.get.ensures ∙ ap option_copied c.in-Some.is in
    let targets : List NodeId = targets_in c.args.place.now c.args.epoch.0 (oid_of work.work) (policy_of work.work) in
    let all : list_all (λ (number : ℕ). nat_lt number c.args.first) (open_numbers seen) ≡ true
    = ap (λ (g : Gateway). list_all (λ (number : ℕ). nat_lt number c.args.first) (open_numbers g)) c.self.view_is ∙ c.requires.may_send.numbers in
    let is : c.in-Sends.messages ≡ messages_of work.work work.ended c.args.first targets
    = messages-sent c.args.place.now c.self.inside.me work.work work.ended c.has-touched.result c.args.first c.args.epoch c.in-Sends.messages c.in-Sends.sends
    (sym c.in-Sends.is ∙ c.in_ok-beginning.ensures.beginning
    ∙ ap₂ (λ w e. beginning_of c.args.place.now c.self.inside.me w e c.has-touched.result c.args.first c.args.epoch) c.work.ensures.value c.ended-count.ensures) in
    let new : Work = record { work = work.work; ended = work.ended; stage = Open (record { epoch = c.args.epoch; messages = c.in-Sends.messages }) } in
    let put : c.set_stage.new.self ≡ tree.insert c.self.inside.works c.args.req new
    = some_if (tree.get c.self.inside.works c.args.req)
    (λ (w : Work). c.set_stage.new.self ≡ tree.insert c.self.inside.works c.args.req (record w { stage = new.stage })) work at c.set_stage.ensures in
    subst (λ (works : tree.FinMap nat_cmp Work). AreAskers c.put_all.new.self works) (sym put)
    (AreAskers-open c.self.inside.askers c.put_all.new.self c.self.inside.works c.args.req new c.in-Sends.messages c.self.invariant
    (λ number. c.in_ok-put_all-in-Sends.ensures.ok number
    ∙ ap (λ (ms : List Message). cond (list_any (has_number number) ms) (Some c.args.req) (tree.get c.self.inside.askers number)) c.as_slice.ensures)
    (sent-others seen work.work work.ended c.args.first targets c.in-Sends.messages all is)
    (λ number there. awaited-open number new.stage c.in-Sends.messages refl there))

pub invariant_of-self-in-Waits : goal.invariant_of-self-in-Waits
invariant_of-self-in-Waits c =
    let work : Work = c.in-Some.work.now in
    let seen : Gateway = record { me = c.self.inside.me; tries = c.self.inside.tries; works = c.self.inside.works; touched = c.self.inside.touched } in
    let at : tree.get c.self.inside.works c.args.req ≡ Some work = sym c.get.ensures ∙ ap option_copied c.in-Some.is in
    let new : Work = record { work = work.work; ended = work.ended; stage = WaitsForMembers c.args.epoch } in
    let put : c.set_stage-in-Waits.new.self ≡ tree.insert c.self.inside.works c.args.req new
    = some_if (tree.get c.self.inside.works c.args.req)
    (λ (w : Work). c.set_stage-in-Waits.new.self ≡ tree.insert c.self.inside.works c.args.req (record w { stage = new.stage })) work at c.set_stage-in-Waits.ensures in
    subst (λ (works : tree.FinMap nat_cmp Work). AreAskers c.self.inside.askers works) (sym put)
    (AreAskers-quiet c.self.inside.askers c.self.inside.works c.args.req new c.self.invariant (λ number. refl))

pub invariant_of-self-in-Refused : goal.invariant_of-self-in-Refused
invariant_of-self-in-Refused c =
    subst (λ (works : tree.FinMap nat_cmp Work). AreAskers c.self.inside.askers works) (sym c.refuse.ensures.works)
    (AreAskers-without c.self.inside.askers c.self.inside.works c.args.req c.self.invariant)

pub returns-in_ok-put_all-in-Sends-clause-ok : goal.returns-in_ok-put_all-in-Sends-clause-ok
returns-in_ok-put_all-in-Sends-clause-ok c =
    let work : Work = c.in-Some.work.now in
    let seen : Gateway = record { me = c.self.inside.me; tries = c.self.inside.tries; works = c.self.inside.works; touched = c.self.inside.touched } in
    let at : tree.get c.self.inside.works c.args.req ≡ Some work = sym c.get.ensures ∙ ap option_copied c.in-Some.is in
    let next : next_req c.args.epoch seen.works ≡ Some c.args.req
    = ap (λ (g : Gateway). next_req c.args.epoch g.works) c.self.view_is ∙ c.requires.next in
    let is : beginnings.Sends c.in-Sends.messages c.in-Sends.sends ≡ beginning_of c.args.place.now seen.me work.work work.ended (is_touched c.args.req seen) c.args.first c.args.epoch
    = sym c.in-Sends.is ∙ c.in_ok-beginning.ensures.beginning
    ∙ ap₂ (λ w e. beginning_of c.args.place.now c.self.inside.me w e c.has-touched.result c.args.first c.args.epoch) c.work.ensures.value c.ended-count.ensures
    ∙ ap (λ b. beginning_of c.args.place.now seen.me work.work work.ended b c.args.first c.args.epoch) c.has-touched.ensures in
    let new : Work = record { work = work.work; ended = work.ended; stage = Open (record { epoch = c.args.epoch; messages = c.in-Sends.messages }) } in
    let put : c.set_stage.new.self ≡ tree.insert c.self.inside.works c.args.req new
    = some_if (tree.get c.self.inside.works c.args.req)
    (λ (w : Work). c.set_stage.new.self ≡ tree.insert c.self.inside.works c.args.req (record w { stage = new.stage })) work at c.set_stage.ensures in
    ap (λ (g : Gateway). retry_step c.args.place.now g c.args.first c.args.epoch) (sym c.self.view_is)
    ∙ retry-from c.args.place.now seen c.args.req work c.args.first c.args.epoch (beginnings.Sends c.in-Sends.messages c.in-Sends.sends) next at is
    ∙ (λ i. record {
      gateway = record { me = c.self.inside.me; tries = c.self.inside.tries; works = sym put i; touched = c.self.inside.touched };
      act = acts.Send c.in-Sends.sends;
    })

pub returns-in-Waits-clause-ok : goal.returns-in-Waits-clause-ok
returns-in-Waits-clause-ok c =
    let work : Work = c.in-Some.work.now in
    let seen : Gateway = record { me = c.self.inside.me; tries = c.self.inside.tries; works = c.self.inside.works; touched = c.self.inside.touched } in
    let at : tree.get c.self.inside.works c.args.req ≡ Some work = sym c.get.ensures ∙ ap option_copied c.in-Some.is in
    let next : next_req c.args.epoch seen.works ≡ Some c.args.req
    = ap (λ (g : Gateway). next_req c.args.epoch g.works) c.self.view_is ∙ c.requires.next in
    let is : beginnings.Waits ≡ beginning_of c.args.place.now seen.me work.work work.ended (is_touched c.args.req seen) c.args.first c.args.epoch
    = sym c.in-Waits.is ∙ c.in_ok-beginning.ensures.beginning
    ∙ ap₂ (λ w e. beginning_of c.args.place.now c.self.inside.me w e c.has-touched.result c.args.first c.args.epoch) c.work.ensures.value c.ended-count.ensures
    ∙ ap (λ b. beginning_of c.args.place.now seen.me work.work work.ended b c.args.first c.args.epoch) c.has-touched.ensures in
    let new : Work = record { work = work.work; ended = work.ended; stage = WaitsForMembers c.args.epoch } in
    let put : c.set_stage-in-Waits.new.self ≡ tree.insert c.self.inside.works c.args.req new
    = some_if (tree.get c.self.inside.works c.args.req)
    (λ (w : Work). c.set_stage-in-Waits.new.self ≡ tree.insert c.self.inside.works c.args.req (record w { stage = new.stage })) work at c.set_stage-in-Waits.ensures in
    ap (λ (g : Gateway). retry_step c.args.place.now g c.args.first c.args.epoch) (sym c.self.view_is)
    ∙ retry-from c.args.place.now seen c.args.req work c.args.first c.args.epoch beginnings.Waits next at is
    ∙ (λ i. record {
      gateway = record { me = c.self.inside.me; tries = c.self.inside.tries; works = sym put i; touched = c.self.inside.touched };
      act = acts.Wait;
    })

pub returns-in-Refused-clause-ok : goal.returns-in-Refused-clause-ok
returns-in-Refused-clause-ok c =
    let work : Work = c.in-Some.work.now in
    let seen : Gateway = record { me = c.self.inside.me; tries = c.self.inside.tries; works = c.self.inside.works; touched = c.self.inside.touched } in
    let at : tree.get c.self.inside.works c.args.req ≡ Some work = sym c.get.ensures ∙ ap option_copied c.in-Some.is in
    let next : next_req c.args.epoch seen.works ≡ Some c.args.req
    = ap (λ (g : Gateway). next_req c.args.epoch g.works) c.self.view_is ∙ c.requires.next in
    let is : beginnings.Refused c.in-Refused.cause ≡ beginning_of c.args.place.now seen.me work.work work.ended (is_touched c.args.req seen) c.args.first c.args.epoch
    = sym c.in-Refused.is ∙ c.in_ok-beginning.ensures.beginning
    ∙ ap₂ (λ w e. beginning_of c.args.place.now c.self.inside.me w e c.has-touched.result c.args.first c.args.epoch) c.work.ensures.value c.ended-count.ensures
    ∙ ap (λ b. beginning_of c.args.place.now seen.me work.work work.ended b c.args.first c.args.epoch) c.has-touched.ensures in
    let told : c.refuse.result ≡ acts.Refused work.work c.args.req c.in-Refused.cause
    = some_if (tree.get c.self.inside.works c.args.req) (λ (w : Work). c.refuse.result ≡ acts.Refused w.work c.args.req c.in-Refused.cause) work at c.refuse.ensures.act in
    ap (λ (g : Gateway). retry_step c.args.place.now g c.args.first c.args.epoch) (sym c.self.view_is)
    ∙ retry-from c.args.place.now seen c.args.req work c.args.first c.args.epoch (beginnings.Refused c.in-Refused.cause) next at is
    ∙ (λ i. record {
      gateway = record { me = c.self.inside.me; tries = c.self.inside.tries; works = sym c.refuse.ensures.works i; touched = c.self.inside.touched };
      act = sym told i;
    })

pub returns-in_err-beginning-clause-memory : goal.returns-in_err-beginning-clause-memory
returns-in_err-beginning-clause-memory c refuses =
    let work : Work = c.in-Some.work.now in
    let at : tree.get c.args.self.now.works c.args.req ≡ Some work
    = ap (λ (g : Gateway). tree.get g.works c.args.req) (sym c.self.view_is) ∙ sym c.get.ensures ∙ ap option_copied c.in-Some.is in
    let short : nat_lt (zone_count (members_at c.args.place.now c.args.epoch.0)) (zones_for work.work) ≡ true
    = refused-short-again c.args.place.now c.args.self.now c.args.req work c.args.first c.args.epoch c.requires.next at refuses in
    absurd (cc (c.in_err-beginning.ensures.memory
    (ap (λ w. nat_lt (zone_count (members_at c.args.place.now c.args.epoch.0)) (zones_for w)) c.work.ensures.value ∙ short)))

pub returns-then-count-clause-memory : goal.returns-then-count-clause-memory
returns-then-count-clause-memory c refuses =
    let work : Work = c.in-Some.work.now in
    let seen : Gateway = record { me = c.self.inside.me; tries = c.self.inside.tries; works = c.self.inside.works; touched = c.self.inside.touched } in
    let at : tree.get c.self.inside.works c.args.req ≡ Some work = sym c.get.ensures ∙ ap option_copied c.in-Some.is in
    let next : next_req c.args.epoch seen.works ≡ Some c.args.req
    = ap (λ (g : Gateway). next_req c.args.epoch g.works) c.self.view_is ∙ c.requires.next in
    let is : beginnings.Sends c.in-Sends.messages c.in-Sends.sends ≡ beginning_of c.args.place.now seen.me work.work work.ended (is_touched c.args.req seen) c.args.first c.args.epoch
    = sym c.in-Sends.is ∙ c.in_ok-beginning.ensures.beginning
    ∙ ap₂ (λ w e. beginning_of c.args.place.now c.self.inside.me w e c.has-touched.result c.args.first c.args.epoch) c.work.ensures.value c.ended-count.ensures
    ∙ ap (λ b. beginning_of c.args.place.now seen.me work.work work.ended b c.args.first c.args.epoch) c.has-touched.ensures in
    absurd (subst (λ (step : GatewayStep). RefusesWork step.act)
    (ap (λ (g : Gateway). retry_step c.args.place.now g c.args.first c.args.epoch) (sym c.self.view_is)
    ∙ retry-from c.args.place.now seen c.args.req work c.args.first c.args.epoch (beginnings.Sends c.in-Sends.messages c.in-Sends.sends) next at is)
    refuses)

pub returns-in_err-put_all-in-Sends-clause-memory : goal.returns-in_err-put_all-in-Sends-clause-memory
returns-in_err-put_all-in-Sends-clause-memory c refuses =
    let work : Work = c.in-Some.work.now in
    let seen : Gateway = record { me = c.self.inside.me; tries = c.self.inside.tries; works = c.self.inside.works; touched = c.self.inside.touched } in
    let at : tree.get c.self.inside.works c.args.req ≡ Some work = sym c.get.ensures ∙ ap option_copied c.in-Some.is in
    let next : next_req c.args.epoch seen.works ≡ Some c.args.req
    = ap (λ (g : Gateway). next_req c.args.epoch g.works) c.self.view_is ∙ c.requires.next in
    let is : beginnings.Sends c.in-Sends.messages c.in-Sends.sends ≡ beginning_of c.args.place.now seen.me work.work work.ended (is_touched c.args.req seen) c.args.first c.args.epoch
    = sym c.in-Sends.is ∙ c.in_ok-beginning.ensures.beginning
    ∙ ap₂ (λ w e. beginning_of c.args.place.now c.self.inside.me w e c.has-touched.result c.args.first c.args.epoch) c.work.ensures.value c.ended-count.ensures
    ∙ ap (λ b. beginning_of c.args.place.now seen.me work.work work.ended b c.args.first c.args.epoch) c.has-touched.ensures in
    absurd (subst (λ (step : GatewayStep). RefusesWork step.act)
    (ap (λ (g : Gateway). retry_step c.args.place.now g c.args.first c.args.epoch) (sym c.self.view_is)
    ∙ retry-from c.args.place.now seen c.args.req work c.args.first c.args.epoch (beginnings.Sends c.in-Sends.messages c.in-Sends.sends) next at is)
    refuses)
