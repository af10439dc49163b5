use Rattle.std.proofs.Common.{◌≡◌, ℕ, ◌<◌, ◌==◌, nat_lt, true, false, cond, List, Option, Some, None, is_some, not, IsTrue, refl, ap, sym, subst, ◌∙◌, arith}
use Rattle.std.specs.List.{list_any, list_all}
use Rattle.std.specs.Ordering.{nat_cmp}
use Rattle.std.specs.FinMap as tree
use Rattle.vnode_table.specs.Targets.{targets_in}
use Rattle.object_id.specs.declared.node.NodeId.{NodeId}
use Rattle.peer_proto.specs.Work.{oid_of, policy_of}
use Rattle.gateway.specs.declared.message.Message.{Message}
use Rattle.gateway.specs.declared.beginning.Beginning.{Beginning}
use Rattle.gateway.specs.declared.beginning.Beginning.TheVariants as beginnings
use Rattle.gateway.specs.declared.act.Act.TheVariants as acts
use Rattle.gateway.specs.Attempt.{messages_of}
use Rattle.gateway.specs.State.{Work, Open, Ended, WaitsForMembers, Gateway, is_awaited_in, open_numbers, is_touched}
use Rattle.gateway.specs.Step.{GatewayStep, start_step}
use Rattle.gateway.specs.Outcomes.{RefusesWork}
use Rattle.gateway.specs.Kept.{AreAskers, step_from, beginning_of}
use Rattle.gateway.proofs.MessageLemmas.{has_number}
use Rattle.gateway.proofs.BeginningLemmas.{AreMessagesFor-sent}
use Rattle.gateway.proofs.AskersKept.{messages-sent, sent-others, AreAskers-some, AreAskers-open, AreAskers-quiet, awaited-open}
use Rattle.gateway.proofs.StepLemmas.{start-from, refused-start, refused-short}
use Rattle.gateway.proofs.gateway.Gateway.start.Goals as goal

pub invariant_of-self : goal.invariant_of-self
invariant_of-self c =
    let targets : List NodeId = targets_in c.args.place.now c.args.epoch.0 (oid_of c.args.work) (policy_of c.args.work) in
    let seen : Gateway = record { me = c.self.inside.me; tries = c.self.inside.tries; works = c.self.inside.works; touched = c.self.inside.touched } in
    let all : list_all (λ (number : ℕ). nat_lt number c.args.first) (open_numbers seen) ≡ true
    = ap (λ (g : Gateway). list_all (λ (number : ℕ). nat_lt number c.args.first) (open_numbers g)) c.self.view_is ∙ c.requires.may_send.numbers in
    let is : c.in-Sends.messages ≡ messages_of c.args.work 0 c.args.first targets
    = messages-sent c.args.place.now c.self.inside.me c.args.work 0 c.has-touched.result c.args.first c.args.epoch c.in-Sends.messages c.in-Sends.sends
    (sym c.in-Sends.is ∙ c.in_ok-beginning.ensures.beginning) in
    AreAskers-some c.self.inside.askers c.put_all.new.self c.self.inside.works c.in-Sends.messages c.self.invariant
    (λ number none. c.in_err-put_all-in-Sends.ensures.err number (ap (list_any (has_number number)) c.as_slice.ensures ∙ none))
    (sent-others seen c.args.work 0 c.args.first targets c.in-Sends.messages all is)

pub new-requires-clause-stage : goal.new-requires-clause-stage
new-requires-clause-stage c = (
  AreMessagesFor-sent c.args.place.now c.self.inside.me c.args.work 0 c.has-touched.result c.args.first c.args.epoch c.in-Sends.messages c.in-Sends.sends
      c.requires.may_start.is_work (sym c.in-Sends.is ∙ c.in_ok-beginning.ensures.beginning),
  omega arith,
)

pub invariant_of-self-in_err-put-in-Sends : goal.invariant_of-self-in_err-put-in-Sends
invariant_of-self-in_err-put-in-Sends c =
    let targets : List NodeId = targets_in c.args.place.now c.args.epoch.0 (oid_of c.args.work) (policy_of c.args.work) in
    let seen : Gateway = record { me = c.self.inside.me; tries = c.self.inside.tries; works = c.self.inside.works; touched = c.self.inside.touched } in
    let all : list_all (λ (number : ℕ). nat_lt number c.args.first) (open_numbers seen) ≡ true
    = ap (λ (g : Gateway). list_all (λ (number : ℕ). nat_lt number c.args.first) (open_numbers g)) c.self.view_is ∙ c.requires.may_send.numbers in
    let is : c.in-Sends.messages ≡ messages_of c.args.work 0 c.args.first targets
    = messages-sent c.args.place.now c.self.inside.me c.args.work 0 c.has-touched.result c.args.first c.args.epoch c.in-Sends.messages c.in-Sends.sends
    (sym c.in-Sends.is ∙ c.in_ok-beginning.ensures.beginning) in
    subst (λ (works : tree.FinMap nat_cmp Work). AreAskers c.put_all.new.self works) (sym c.in_err-put-in-Sends.ensures.err)
    (AreAskers-some c.self.inside.askers c.put_all.new.self c.self.inside.works c.in-Sends.messages c.self.invariant
    (λ number none. c.in_ok-put_all-in-Sends.ensures.ok number
    ∙ ap (λ b. cond b (Some c.args.req) (tree.get c.self.inside.askers number)) (ap (list_any (has_number number)) c.as_slice.ensures ∙ none))
    (sent-others seen c.args.work 0 c.args.first targets c.in-Sends.messages all is))

pub invariant_of-self-in-Sends : goal.invariant_of-self-in-Sends
invariant_of-self-in-Sends c =
    let targets : List NodeId = targets_in c.args.place.now c.args.epoch.0 (oid_of c.args.work) (policy_of c.args.work) in
    let seen : Gateway = record { me = c.self.inside.me; tries = c.self.inside.tries; works = c.self.inside.works; touched = c.self.inside.touched } in
    let all : list_all (λ (number : ℕ). nat_lt number c.args.first) (open_numbers seen) ≡ true
    = ap (λ (g : Gateway). list_all (λ (number : ℕ). nat_lt number c.args.first) (open_numbers g)) c.self.view_is ∙ c.requires.may_send.numbers in
    let is : c.in-Sends.messages ≡ messages_of c.args.work 0 c.args.first targets
    = messages-sent c.args.place.now c.self.inside.me c.args.work 0 c.has-touched.result c.args.first c.args.epoch c.in-Sends.messages c.in-Sends.sends
    (sym c.in-Sends.is ∙ c.in_ok-beginning.ensures.beginning) in
    let new : Work = record { work = c.args.work; ended = 0; stage = Open (record { epoch = c.args.epoch; messages = c.in-Sends.messages }) } in
    subst (λ (works : tree.FinMap nat_cmp Work). AreAskers c.put_all.new.self works)
    (sym (c.in_ok-put-in-Sends.ensures.ok ∙ ap (tree.insert c.self.inside.works c.args.req) c.new.ensures))
    (AreAskers-open c.self.inside.askers c.put_all.new.self c.self.inside.works c.args.req new c.in-Sends.messages c.self.invariant
    (λ number. c.in_ok-put_all-in-Sends.ensures.ok number
    ∙ ap (λ (ms : List Message). cond (list_any (has_number number) ms) (Some c.args.req) (tree.get c.self.inside.askers number)) c.as_slice.ensures)
    (sent-others seen c.args.work 0 c.args.first targets c.in-Sends.messages all is)
    (λ number there. awaited-open number new.stage c.in-Sends.messages refl there))

pub invariant_of-self-in-Waits : goal.invariant_of-self-in-Waits
invariant_of-self-in-Waits c =
    subst (λ (works : tree.FinMap nat_cmp Work). AreAskers c.self.inside.askers works)
    (sym (c.in_ok-put-in-Waits.ensures.ok ∙ ap (tree.insert c.self.inside.works c.args.req) c.new-in-Waits.ensures))
    (AreAskers-quiet c.self.inside.askers c.self.inside.works c.args.req
    (record { work = c.args.work; ended = 0; stage = WaitsForMembers c.args.epoch }) c.self.invariant (λ number. refl))

pub returns-in_ok-put-in-Sends-clause-ok : goal.returns-in_ok-put-in-Sends-clause-ok
returns-in_ok-put-in-Sends-clause-ok c =
    let seen : Gateway = record { me = c.self.inside.me; tries = c.self.inside.tries; works = c.self.inside.works; touched = c.self.inside.touched } in
    let put : c.put.new.self ≡ tree.insert c.self.inside.works c.args.req
    (record { work = c.args.work; ended = 0; stage = Open (record { epoch = c.args.epoch; messages = c.in-Sends.messages }) })
    = c.in_ok-put-in-Sends.ensures.ok ∙ ap (tree.insert c.self.inside.works c.args.req) c.new.ensures in
    let is : beginnings.Sends c.in-Sends.messages c.in-Sends.sends ≡ beginning_of c.args.place.now seen.me c.args.work 0 (is_touched c.args.req seen) c.args.first c.args.epoch
    = sym c.in-Sends.is ∙ c.in_ok-beginning.ensures.beginning
    ∙ ap (λ b. beginning_of c.args.place.now seen.me c.args.work 0 b c.args.first c.args.epoch) c.has-touched.ensures in
    ap (λ (g : Gateway). start_step c.args.place.now g c.args.req c.args.work c.args.first c.args.epoch) (sym c.self.view_is)
    ∙ start-from c.args.place.now seen c.args.req c.args.work c.args.first c.args.epoch (beginnings.Sends c.in-Sends.messages c.in-Sends.sends) is
    ∙ (λ i. record {
      gateway = record { me = c.self.inside.me; tries = c.self.inside.tries; works = sym put i; touched = c.self.inside.touched };
      act = acts.Send c.in-Sends.sends;
    })

pub returns-in_ok-put-in-Waits-clause-ok : goal.returns-in_ok-put-in-Waits-clause-ok
returns-in_ok-put-in-Waits-clause-ok c =
    let seen : Gateway = record { me = c.self.inside.me; tries = c.self.inside.tries; works = c.self.inside.works; touched = c.self.inside.touched } in
    let put : c.put-in-Waits.new.self ≡ tree.insert c.self.inside.works c.args.req
    (record { work = c.args.work; ended = 0; stage = WaitsForMembers c.args.epoch })
    = c.in_ok-put-in-Waits.ensures.ok ∙ ap (tree.insert c.self.inside.works c.args.req) c.new-in-Waits.ensures in
    let is : beginnings.Waits ≡ beginning_of c.args.place.now seen.me c.args.work 0 (is_touched c.args.req seen) c.args.first c.args.epoch
    = sym c.in-Waits.is ∙ c.in_ok-beginning.ensures.beginning
    ∙ ap (λ b. beginning_of c.args.place.now seen.me c.args.work 0 b c.args.first c.args.epoch) c.has-touched.ensures in
    ap (λ (g : Gateway). start_step c.args.place.now g c.args.req c.args.work c.args.first c.args.epoch) (sym c.self.view_is)
    ∙ start-from c.args.place.now seen c.args.req c.args.work c.args.first c.args.epoch beginnings.Waits is
    ∙ (λ i. record {
      gateway = record { me = c.self.inside.me; tries = c.self.inside.tries; works = sym put i; touched = c.self.inside.touched };
      act = acts.Wait;
    })

pub returns-in-Refused-clause-ok : goal.returns-in-Refused-clause-ok
returns-in-Refused-clause-ok c =
    let seen : Gateway = record { me = c.self.inside.me; tries = c.self.inside.tries; works = c.self.inside.works; touched = c.self.inside.touched } in
    let none : tree.get seen.works c.args.req ≡ None
    = ap (λ (g : Gateway). tree.get g.works c.args.req) c.self.view_is ∙ nothing (tree.get c.args.self.now.works c.args.req) c.requires.may_start.first_one in
    let is : beginnings.Refused c.in-Refused.cause ≡ beginning_of c.args.place.now seen.me c.args.work 0 (is_touched c.args.req seen) c.args.first c.args.epoch
    = sym c.in-Refused.is ∙ c.in_ok-beginning.ensures.beginning
    ∙ ap (λ b. beginning_of c.args.place.now seen.me c.args.work 0 b c.args.first c.args.epoch) c.has-touched.ensures in
    ap (λ (g : Gateway). start_step c.args.place.now g c.args.req c.args.work c.args.first c.args.epoch) (sym c.self.view_is)
    ∙ start-from c.args.place.now seen c.args.req c.args.work c.args.first c.args.epoch (beginnings.Refused c.in-Refused.cause) is
    ∙ (λ i. record { gateway = (refused-start seen c.args.req none ∙ c.self.view_is) i; act = acts.Refused c.args.work c.args.req c.in-Refused.cause })
  where
    nothing : (o : Option Work) → IsTrue (not (is_some o)) → o ≡ None
    nothing None is = refl
    nothing (Some work) is = absurd (cc (is))

pub returns-in_err-beginning-clause-memory : goal.returns-in_err-beginning-clause-memory
returns-in_err-beginning-clause-memory c refuses =
    absurd (cc (c.in_err-beginning.ensures.memory
    (refused-short c.args.place.now c.args.self.now c.args.req c.args.work c.args.first c.args.epoch refuses)))

pub returns-in_err-put_all-in-Sends-clause-memory : goal.returns-in_err-put_all-in-Sends-clause-memory
returns-in_err-put_all-in-Sends-clause-memory c refuses =
    let seen : Gateway = record { me = c.self.inside.me; tries = c.self.inside.tries; works = c.self.inside.works; touched = c.self.inside.touched } in
    let is : beginnings.Sends c.in-Sends.messages c.in-Sends.sends ≡ beginning_of c.args.place.now seen.me c.args.work 0 (is_touched c.args.req seen) c.args.first c.args.epoch
    = sym c.in-Sends.is ∙ c.in_ok-beginning.ensures.beginning
    ∙ ap (λ b. beginning_of c.args.place.now seen.me c.args.work 0 b c.args.first c.args.epoch) c.has-touched.ensures in
    absurd (subst (λ (step : GatewayStep). RefusesWork step.act)
    (ap (λ (g : Gateway). start_step c.args.place.now g c.args.req c.args.work c.args.first c.args.epoch) (sym c.self.view_is)
    ∙ start-from c.args.place.now seen c.args.req c.args.work c.args.first c.args.epoch (beginnings.Sends c.in-Sends.messages c.in-Sends.sends) is)
    refuses)

pub returns-in_err-put-in-Sends-clause-memory : goal.returns-in_err-put-in-Sends-clause-memory
returns-in_err-put-in-Sends-clause-memory c refuses =
    let seen : Gateway = record { me = c.self.inside.me; tries = c.self.inside.tries; works = c.self.inside.works; touched = c.self.inside.touched } in
    let is : beginnings.Sends c.in-Sends.messages c.in-Sends.sends ≡ beginning_of c.args.place.now seen.me c.args.work 0 (is_touched c.args.req seen) c.args.first c.args.epoch
    = sym c.in-Sends.is ∙ c.in_ok-beginning.ensures.beginning
    ∙ ap (λ b. beginning_of c.args.place.now seen.me c.args.work 0 b c.args.first c.args.epoch) c.has-touched.ensures in
    absurd (subst (λ (step : GatewayStep). RefusesWork step.act)
    (ap (λ (g : Gateway). start_step c.args.place.now g c.args.req c.args.work c.args.first c.args.epoch) (sym c.self.view_is)
    ∙ start-from c.args.place.now seen c.args.req c.args.work c.args.first c.args.epoch (beginnings.Sends c.in-Sends.messages c.in-Sends.sends) is)
    refuses)

pub returns-in_err-put-in-Waits-clause-memory : goal.returns-in_err-put-in-Waits-clause-memory
returns-in_err-put-in-Waits-clause-memory c refuses =
    let seen : Gateway = record { me = c.self.inside.me; tries = c.self.inside.tries; works = c.self.inside.works; touched = c.self.inside.touched } in
    let is : beginnings.Waits ≡ beginning_of c.args.place.now seen.me c.args.work 0 (is_touched c.args.req seen) c.args.first c.args.epoch
    = sym c.in-Waits.is ∙ c.in_ok-beginning.ensures.beginning
    ∙ ap (λ b. beginning_of c.args.place.now seen.me c.args.work 0 b c.args.first c.args.epoch) c.has-touched.ensures in
    absurd (subst (λ (step : GatewayStep). RefusesWork step.act)
    (ap (λ (g : Gateway). start_step c.args.place.now g c.args.req c.args.work c.args.first c.args.epoch) (sym c.self.view_is)
    ∙ start-from c.args.place.now seen c.args.req c.args.work c.args.first c.args.epoch beginnings.Waits is)
    refuses)
