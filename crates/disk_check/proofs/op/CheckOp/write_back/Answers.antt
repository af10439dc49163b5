use Rattle.std.proofs.Common.{◌≡◌, ℕ, List, drop}
use Rattle.disk_check.specs.Check.{Comparing}
use Rattle.disk_check.specs.Stage.{check_stage}
use Rattle.disk_check.proofs.OpLemmas.{comparing, compared, behind-last}
use Rattle.disk_check.proofs.op.CheckOp.write_back.Goals as goal

pub add_object-requires-clause-above : goal.add_object-requires-clause-above
add_object-requires-clause-above c =
    let later : List ℕ = drop c.self.inside.begun c.self.inside.own.items in
    let at : check_stage c.self.inside.stage later ≡ Comparing c.args.index later =
    comparing c.self.inside.stage c.args.index later (rw (← c.self.view_is) at c.requires.stage) in
    rw c.object-oid.ensures (behind-last (record {
      vid = c.self.inside.vid.0;
      spec = c.self.inside.spec;
      found = c.self.inside.found;
      stage = check_stage c.self.inside.stage later;
    }) c.args.index later at c.self.invariant)

pub invariant_of-self-2 : goal.invariant_of-self-2
invariant_of-self-2 c =
    let later : List ℕ = drop c.self.inside.begun c.self.inside.own.items in
    let at : check_stage c.self.inside.stage later ≡ Comparing c.args.index later =
    comparing c.self.inside.stage c.args.index later (rw (← c.self.view_is) at c.requires.stage) in
    compared (record {
      vid = c.self.inside.vid.0;
      spec = c.self.inside.spec;
      found = c.self.inside.found;
      stage = check_stage c.self.inside.stage later;
    }) c.args.index later c.add_object.new.found c.in_ok-differs.differs at
    (rw (← c.object-oid.ensures) c.in_ok-add_object.ensures.ok) c.self.invariant
