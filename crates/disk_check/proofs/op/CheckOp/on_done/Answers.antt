use Rattle.std.proofs.Common.{◌≡◌, ℕ, List, drop, length, Some, ◌∙◌, sym, ap, subst}
use Rattle.std.proofs.lemmas.Result.{IfOk-weaker}
use Rattle.object_id.specs.Spec.{IsSpec}
use Rattle.disk_check.specs.Value.{pieces_in}
use Rattle.disk_check.specs.Check.{Check, CheckStep, Comparing, WritingBack, later_of, check_on, write_back_step, check_on_done, CheckBeginsWork}
use Rattle.disk_check.specs.Stage.{check_stage}
use Rattle.disk_check.proofs.OpLemmas.{done-comparing, done-writing, waits-writing}
use Rattle.disk_check.proofs.WorkLemmas.{done-work}
use Rattle.disk_check.proofs.op.CheckOp.on_done.Goals as goal

pub returns-in-Comparing-clause-ok : goal.returns-in-Comparing-clause-ok
returns-in-Comparing-clause-ok c =
    let later : List ℕ = drop c.self.inside.begun c.self.inside.own.items in
    let check : Check = c.args.self.now in
    let at : check.stage ≡ Comparing c.in-Comparing.index later =
    ap (λ (ck : Check). ck.stage) (sym c.self.view_is) ∙ ap (λ stage. check_stage stage later) c.in-Comparing.is in
    IfOk-weaker c.write_back.result
    (λ act. write_back_step check c.in-Comparing.index (later_of check.stage) (pieces_in check.spec c.as_slice.result.now)
    ≡ record { check = c.write_back.new.self; act = act })
    (λ act. check_on_done c.args.done.now.bytes check ≡ Some (record { check = c.write_back.new.self; act = act }))
    (λ act made. done-comparing check c.args.done.now.bytes c.in-Comparing.index later at
    ∙ ap (λ bytes. Some (write_back_step check c.in-Comparing.index (later_of check.stage) (pieces_in check.spec bytes))) (sym c.as_slice.ensures)
    ∙ ap (λ (step : CheckStep). Some step) made)
    c.write_back.ensures.ok

pub returns-in-Comparing-clause-work : goal.returns-in-Comparing-clause-work
returns-in-Comparing-clause-work c =
    let check : Check = c.args.self.now in
    let valid : IsSpec check.spec = subst (λ (ck : Check). IsSpec ck.spec) c.self.view_is c.self.invariant.spec in
    IfOk-weaker c.write_back.result
    (λ act. check_on_done c.args.done.now.bytes check ≡ Some (record { check = c.write_back.new.self; act = act }))
    CheckBeginsWork
    (λ act made. done-work c.args.done.now.bytes check (record { check = c.write_back.new.self; act = act }) valid c.requires made)
    (returns-in-Comparing-clause-ok c)

pub returns-in_default : goal.returns-in_default
returns-in_default c =
    let later : List ℕ = drop c.self.inside.begun c.self.inside.own.items in
    let check : Check = c.args.self.now in
    let at : check.stage ≡ WritingBack later =
    ap (λ (ck : Check). ck.stage) (sym c.self.view_is)
    ∙ waits-writing c.self.inside.stage later c.self.inside.spec (length c.args.done.now.bytes) c.in_default.not-Comparing (rw (← c.self.view_is) at c.requires) in
    let valid : IsSpec check.spec = subst (λ (ck : Check). IsSpec ck.spec) c.self.view_is c.self.invariant.spec in
    let ok =
    IfOk-weaker c.go_on.result
    (λ act. check_on check (later_of check.stage) ≡ record { check = c.go_on.new.self; act = act })
    (λ act. check_on_done c.args.done.now.bytes check ≡ Some (record { check = c.go_on.new.self; act = act }))
    (λ act made. done-writing check c.args.done.now.bytes later at ∙ ap (λ (step : CheckStep). Some step) made)
    c.go_on.ensures.ok in
    record {
      ok = ok;
      work =
          IfOk-weaker c.go_on.result
          (λ act. check_on_done c.args.done.now.bytes check ≡ Some (record { check = c.go_on.new.self; act = act }))
          CheckBeginsWork
          (λ act made. done-work c.args.done.now.bytes check (record { check = c.go_on.new.self; act = act }) valid c.requires made)
          ok;
      err = c.go_on.ensures.err;
      memory = c.go_on.ensures.memory;
    }
