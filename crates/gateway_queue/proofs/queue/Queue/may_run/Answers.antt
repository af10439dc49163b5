use Rattle.std.proofs.Common.{◌≡◌, true, not, ap, sym, ◌∙◌}
use Rattle.std.proofs.Common.{Some}
use Rattle.std.specs.List.{position}
use Rattle.std.specs.Option.{is_some}
use Rattle.gateway_queue.specs.Queue.{has_request_number, is_queued, is_queue, may_run}
use Rattle.gateway_queue.proofs.QueueLemmas.{position-there, may_run-place, MayRun-from, may_run-from}
use Rattle.gateway_queue.proofs.queue.Queue.may_run.Goals as goal

pub unwrap-place-requires : goal.unwrap-place-requires
unwrap-place-requires c =
    let same : c.as_slice-queue.result.now ≡ c.args.self.now = c.as_slice-queue.ensures.value ∙ c.self.view_is in
    ap is_some c.place_of.ensures ∙ position-there c.args.req c.as_slice-queue.result.now (ap (is_queued c.args.req) same ∙ c.requires)

pub returns-clause-value : goal.returns-clause-value
returns-clause-value c =
    let same : c.as_slice-queue.result.now ≡ c.args.self.now = c.as_slice-queue.ensures.value ∙ c.self.view_is in
    let found : position (has_request_number c.args.req) c.as_slice-queue.result.now ≡ Some c.unwrap-place.result = sym c.place_of.ensures ∙ c.unwrap-place.ensures in
    ap not c.meets_any.ensures ∙ sym (may_run-place c.args.req c.as_slice-queue.result.now c.unwrap-place.result (record { req = 0; first = 0; last = 0 }) found) ∙ ap (may_run c.args.req) same

pub returns-clause-exact : goal.returns-clause-exact
returns-clause-exact c =
    let same : c.as_slice-queue.result.now ≡ c.args.self.now = c.as_slice-queue.ensures.value ∙ c.self.view_is in
    let found : position (has_request_number c.args.req) c.as_slice-queue.result.now ≡ Some c.unwrap-place.result = sym c.place_of.ensures ∙ c.unwrap-place.ensures in
    let kept : is_queue c.args.self.now ≡ true = sym (ap is_queue c.self.view_is) ∙ c.self.invariant in
    let value : not c.meets_any.result ≡ may_run c.args.req c.args.self.now
    = ap not c.meets_any.ensures ∙ sym (may_run-place c.args.req c.as_slice-queue.result.now c.unwrap-place.result (record { req = 0; first = 0; last = 0 }) found) ∙ ap (may_run c.args.req) same in (
      λ runs. MayRun-from c.args.req c.args.self.now kept (sym value ∙ runs),
      λ free. value ∙ may_run-from c.args.req c.args.self.now kept c.requires free,
    )
