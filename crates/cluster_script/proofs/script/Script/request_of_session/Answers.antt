use Rattle.std.proofs.Common.{◌≡◌, ◌-◌, ◌≤◌, ℕ, List, Some, None, sym, ap, ◌∙◌, arith}
use Rattle.std.specs.Prelude.{slice_get}
use Rattle.std.specs.Option.{option_copied}
use Rattle.cluster_script.specs.declared.statement.Statement.{Statement}
use Rattle.cluster_script.proofs.RequestReaders.{kept_numbers, numbers-zero, numbers-none, numbers-found}
use Rattle.cluster_script.proofs.script.Script.request_of_session.Goals as goal

pub returns-then-session-eq0 : goal.returns-then-session-eq0
returns-then-session-eq0 c =
    let xs : List Statement = c.self.inside.statements in
    rw (sym c.self.view_is, c.if-session-eq0.true) (sym (ap (λ (numbers : List ℕ). slice_get numbers c.args.place) (numbers-zero xs c.self.invariant.1)))

pub returns-in_err-numbers : goal.returns-in_err-numbers
returns-in_err-numbers c =
    let xs : List Statement = c.self.inside.statements in
    let none : slice_get (kept_numbers xs) (c.args.session - 1) ≡ None
    = ap (λ (lists : List (List ℕ)). slice_get lists (c.args.session - 1)) (sym c.self.invariant.2.numbers) ∙ sym c.get.ensures ∙ ap option_copied c.in_err-numbers.was in
    let some : 1 ≤ c.args.session = omega (arith, c.if-session-eq0.false) in
    c.from_residual.ensures
    ∙ rw (sym c.self.view_is) (sym (ap (λ (numbers : List ℕ). slice_get numbers c.args.place) (numbers-none xs c.args.session c.self.invariant.1 some none)))

pub returns : goal.returns
returns c =
    let xs : List Statement = c.self.inside.statements in
    let is : slice_get (kept_numbers xs) (c.args.session - 1) ≡ Some c.in_ok-numbers.numbers.now
    = ap (λ (lists : List (List ℕ)). slice_get lists (c.args.session - 1)) (sym c.self.invariant.2.numbers) ∙ sym c.get.ensures ∙ ap option_copied c.in_ok-numbers.was in
    let some : 1 ≤ c.args.session = omega (arith, c.if-session-eq0.false) in
    c.copied.ensures ∙ c.get-2.ensures
    ∙ rw (sym c.self.view_is) (sym (ap (λ (numbers : List ℕ). slice_get numbers c.args.place) (numbers-found xs c.args.session c.in_ok-numbers.numbers.now some is)))
