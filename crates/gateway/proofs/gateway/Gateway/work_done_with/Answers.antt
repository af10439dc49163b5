use Rattle.std.proofs.Common.{◌≡◌, ℕ, List, length, Some, None, ap, sym, ◌∙◌}
use Rattle.std.specs.Option.{option_map}
use Rattle.gateway.specs.Work.{bytes_of_work}
use Rattle.gateway.specs.Messages.{IsPieceFor}
use Rattle.gateway.specs.State.{Work, asker}
use Rattle.gateway.specs.Kept.{stage_with_status, bytes_if_done_at, work_done_of, work_if_done}
use Rattle.gateway.proofs.AskerLemmas.{asker-has}
use Rattle.gateway.proofs.DoneWorks.{work_done-is}
use Rattle.gateway.proofs.WorkLemmas.{some_if}
use Rattle.gateway.proofs.gateway.Gateway.work_done_with.Goals as goal

pub returns-in_default-clause-done : goal.returns-in_default-clause-done
returns-in_default-clause-done c =
    let none : asker c.args.number c.args.self.now ≡ None
    = sym c.asked.ensures ∙ ap (option_map (λ found. (found.0, found.1.now))) c.in_default.is in
    sym (work_done-is c.args.self.now c.args.number c.args.status ∙ ap (work_if_done c.args.number c.args.status) none)

pub bytes_if_done-requires : goal.bytes_if_done-requires
bytes_if_done-requires c =
    let found : asker c.args.number c.args.self.now ≡ Some (c.in-Some.req, c.in-Some.work.now)
    = sym c.asked.ensures ∙ ap (option_map (λ found. (found.0, found.1.now))) c.in-Some.is in
    some_if (asker c.args.number c.args.self.now) (λ (f : ℕ × Work). IsPieceFor f.1.work c.args.status) (c.in-Some.req, c.in-Some.work.now) found c.requires

pub returns-in-Some-2-clause-done : goal.returns-in-Some-2-clause-done
returns-in-Some-2-clause-done c =
    let work : Work = c.in-Some.work.now in
    let found : asker c.args.number c.args.self.now ≡ Some (c.in-Some.req, work)
    = sym c.asked.ensures ∙ ap (option_map (λ found. (found.0, found.1.now))) c.in-Some.is in
    let given : bytes_if_done_at work.work (stage_with_status c.args.number c.args.status work.stage) ≡ Some c.in-Some-2.bytes
    = sym c.in_ok-bytes.ensures.done ∙ c.in-Some-2.is in
    sym
    (work_done-is c.args.self.now c.args.number c.args.status ∙ ap (work_if_done c.args.number c.args.status) found
    ∙ ap (option_map (work_done_of c.in-Some.req)) given)

pub returns-in-Some-2-clause-given : goal.returns-in-Some-2-clause-given
returns-in-Some-2-clause-given c =
    let work : Work = c.in-Some.work.now in
    let found : asker c.args.number c.args.self.now ≡ Some (c.in-Some.req, work)
    = sym c.asked.ensures ∙ ap (option_map (λ found. (found.0, found.1.now))) c.in-Some.is in
    record {
      work = work;
      stands = (asker-has c.args.number c.args.self.now c.in-Some.req work found).0;
      given = some_if c.in_ok-bytes.field-0 (λ (bytes : List ℕ). length bytes ≡ bytes_of_work work.work) c.in-Some-2.bytes c.in-Some-2.is c.in_ok-bytes.ensures.given;
    }

pub returns-in-None-clause-done : goal.returns-in-None-clause-done
returns-in-None-clause-done c =
    let work : Work = c.in-Some.work.now in
    let found : asker c.args.number c.args.self.now ≡ Some (c.in-Some.req, work)
    = sym c.asked.ensures ∙ ap (option_map (λ found. (found.0, found.1.now))) c.in-Some.is in
    let given : bytes_if_done_at work.work (stage_with_status c.args.number c.args.status work.stage) ≡ None
    = sym c.in_ok-bytes.ensures.done ∙ c.in-None.is in
    sym
    (work_done-is c.args.self.now c.args.number c.args.status ∙ ap (work_if_done c.args.number c.args.status) found
    ∙ ap (option_map (work_done_of c.in-Some.req)) given)
