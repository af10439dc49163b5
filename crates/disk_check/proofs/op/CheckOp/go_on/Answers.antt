use Rattle.std.proofs.Common.{◌≡◌, ℕ, ◌+◌, ◌<◌, ◌≤◌, List, [], ◌∷◌, length, drop, sym, ap, subst, ◌∙◌, arith}
use Rattle.std.proofs.lemmas.List.{drop_all}
use Rattle.disk_check.specs.Check.{Comparing, WritingBack, left_of}
use Rattle.disk_check.specs.Stage.{check_stage}
use Rattle.disk_check.proofs.OpLemmas.{writing_back, with_left, drop-place, none_differed}
use Rattle.disk_check.proofs.op.CheckOp.go_on.Goals as goal

pub invariant_of-self : goal.invariant_of-self
invariant_of-self c =
    let later : List ℕ = drop c.self.inside.begun c.self.inside.own.items in
    let at : check_stage c.self.inside.stage later ≡ WritingBack later =
    writing_back c.self.inside.stage later (rw (← c.self.view_is) at c.requires) in
    let front : later ≡ c.in-Some.index.now ∷ drop (c.self.inside.begun + 1) c.self.inside.own.items =
    let within : c.self.inside.begun < length c.deref.result.now = omega (arith, c.in-Some.ensures.lookup) in
    subst (λ (xs : List ℕ). drop c.self.inside.begun xs ≡ c.in-Some.index.now ∷ drop (c.self.inside.begun + 1) xs) c.deref.ensures.value
    (drop-place c.deref.result.now c.self.inside.begun c.in-Some.index.now within c.in-Some.ensures.lookup.1) in
    with_left (record {
      vid = c.self.inside.vid.0;
      spec = c.self.inside.spec;
      found = c.self.inside.found;
      stage = check_stage c.self.inside.stage later;
    }) (Comparing c.in-Some.index.now (drop (c.self.inside.begun + 1) c.self.inside.own.items)) (sym (ap left_of at ∙ front)) c.self.invariant

pub returns-in_err-found-in-None-clause-memory : goal.returns-in_err-found-in-None-clause-memory
returns-in_err-found-in-None-clause-memory c none =
    let later : List ℕ = drop c.self.inside.begun c.self.inside.own.items in
    let at : check_stage c.self.inside.stage later ≡ WritingBack later =
    writing_back c.self.inside.stage later (rw (← c.self.view_is) at c.requires) in
    let past : length c.deref.result.now ≤ c.self.inside.begun = omega (arith, c.in-None.ensures.lookup) in
    let gone : later ≡ [] =
    subst (λ (xs : List ℕ). drop c.self.inside.begun xs ≡ []) c.deref.ensures.value (drop_all c.self.inside.begun c.deref.result.now past) in
    let wrong = c.in_err-found-in-None.ensures.none
    (none_differed c.self.inside.found (check_stage c.self.inside.stage later) later at gone (rw (← c.self.view_is) at none)) in
    absurd (cc (wrong))
