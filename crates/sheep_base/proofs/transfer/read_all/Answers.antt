use Rattle.std.proofs.Common.{◌≡◌, ℕ, ◌+◌, ◌≤◌, ◌++◌, refl, length, take, arith, length-append, length-take}
use Rattle.std.proofs.KnownBytes.{Consumes-trans}
use Rattle.std.proofs.lemmas.Result.{err_from_is_err_and}
use Rattle.sheep_base.proofs.transfer.read_all.Goals as goal

pub returns-then-taken-limit-clause-stopped : goal.returns-then-taken-limit-clause-stopped
returns-then-taken-limit-clause-stopped g c =
    let text = c.loop-text.text.items in
    let piece = take c.in_ok-taken.taken c.take.new.buf in
    let bytes = Consumes-trans _ _ _ _ _ c.loop-text.invariant.text c.in_ok-taken.ensures.bytes.0 in
    let count : length text + length piece ≡ c.args.limit + 1 = omega (arith, c.in_ok-taken.ensures.bound, length-take {A = ℕ}) in
    (c.args.limit + 1, (text ++ piece, bytes, simp length-append count), refl)

pub returns-in_err-extend_from_slice-clause-stopped :
    goal.returns-in_err-extend_from_slice-clause-stopped
returns-in_err-extend_from_slice-clause-stopped g c =
    let text = c.loop-text.text.items in
    let piece = take c.in_ok-taken.taken c.take.new.buf in
    let bytes = Consumes-trans _ _ _ _ _ c.loop-text.invariant.text c.in_ok-taken.ensures.bytes.0 in
    let count : length text + length piece ≤ c.args.limit = omega (arith, c.in_ok-taken.ensures.bound) in
    let exit = c.from_residual-in_err-extend_from_slice in
    let error = err_from_is_err_and exit.result exit.ensures.1 in
    rw (error.1, error.2) (length (text ++ piece), (text ++ piece, bytes, refl), simp length-append count)
