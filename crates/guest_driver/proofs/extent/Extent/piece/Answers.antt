use Rattle.std.proofs.Common.{◌≡◌, ℕ, ◌+◌, ◌*◌, ◌%◌, ◌^◌, ◌≤◌, max, min, ap, ap₂, sym, subst, ◌∙◌, arith}
use Rattle.std.proofs.Math.Pow.{pow_mono}
use Rattle.std.proofs.Math.Nat.{mod-eq_of_lt}
use Rattle.object_id.specs.declared.limits.TheConstants.{OBJECT_BYTES_MAX}
use Rattle.guest_driver.specs.Pieces.{Piece, AreBlocks}
use Rattle.guest_driver.proofs.PieceLemmas.{Meets, meets, between}
use Rattle.guest_driver.proofs.ExtentLemmas.{piece-most, piece-blocks}
use Rattle.guest_driver.proofs.extent.Extent.piece.Goals as goal

pub returns-clause-value : goal.returns-clause-value
returns-clause-value c =
    let shift : ℕ = c.args.self.shift in
    let offset : ℕ = c.args.self.offset in
    let size : ℕ = c.args.self.size in
    let index : ℕ = c.args.index in
    let met : Meets shift offset size index = meets shift offset size index c.requires.is.some c.requires.first c.requires.last in
    let there = met.there in
    let most = c.requires.is.end in
    let wide : 2 ^ shift ≤ 2 ^ 24 = pow_mono c.requires.is.shift.1 in
    let low : c.from.result * 2 ^ shift % 18446744073709551616 ≡ index * 2 ^ shift
    = ap (λ n. n * 2 ^ shift % 18446744073709551616) c.from.ensures ∙ mod-eq_of_lt (omega (arith, there, most)) in
    let step : index * 2 ^ shift + 2 ^ shift ≡ (index + 1) * 2 ^ shift = grind arith in
    let one : 1 * 2 ^ shift % 18446744073709551616 ≡ 2 ^ shift
    = mod-eq_of_lt (omega (arith, wide)) ∙ omega arith in
    let start : c.max-start.result ≡ max offset (index * 2 ^ shift) = c.max-start.ensures ∙ ap (max offset) low in
    let end : c.min-end.result ≡ min (offset + size) ((index + 1) * 2 ^ shift)
    = c.min-end.ensures ∙ ap (min (offset + size)) (ap₂ (λ a b. a + b) low one ∙ step) in
    ap (λ l. between index offset l c.max-start.result c.min-end.result) low
    ∙ ap (λ s. between index offset (index * 2 ^ shift) s c.min-end.result) start
    ∙ ap (λ e. between index offset (index * 2 ^ shift) (max offset (index * 2 ^ shift)) e) end

pub returns-clause-inside : goal.returns-clause-inside
returns-clause-inside c =
    subst (λ (piece : Piece). piece.offset + piece.size ≤ OBJECT_BYTES_MAX) (sym (returns-clause-value c)) (piece-most c.args.self c.args.index c.requires)

pub returns-clause-blocks : goal.returns-clause-blocks
returns-clause-blocks c = subst AreBlocks (sym (returns-clause-value c)) (piece-blocks c.args.self c.args.index c.requires)
