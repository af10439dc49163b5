use Rattle.std.proofs.Common.{◌≡◌, ℕ, List, [], ◌++◌, length, take, ap, ap₂, sym, subst, ◌∙◌, arith}
use Rattle.std.proofs.lemmas.List.{take_all, length-replicate, drop-replicate}
use Rattle.object_id.specs.Fields.{zeros}
use Rattle.guest_driver.specs.Extent.{place_at}
use Rattle.guest_driver.specs.Progress.{IsToldUpTo}
use Rattle.guest_driver.proofs.reads.begin_read.Goals as goal

-- where all bytes are zeros nothing is told behind any place
nothing-told : (size place : ℕ) (told : List ℕ) → told ≡ zeros size → IsToldUpTo size told place
nothing-told size place told e =
    subst (λ (told : List ℕ). IsToldUpTo size told place) (sym e)
    (record { whole = length-replicate size 0; untold = drop-replicate place size 0 })

pub read_on-requires-clause-told : goal.read_on-requires-clause-told
read_on-requires-clause-told c =
    let size : ℕ = c.args.extent.size in
    let none : length c.new-told.result.items ≡ 0 = ap length c.new-told.ensures.items in
    let told : c.resize.new.self.items ≡ zeros size
    = c.in_ok-resize.ensures.items
    ∙ ap₂ (λ (xs : List ℕ) (n : ℕ). xs ++ zeros n)
    (ap (take size) c.new-told.ensures.items ∙ take_all size [] (omega arith)) (omega (arith, none, c.new-told.ensures.len)) in
    nothing-told size (place_at c.args.extent c.first.result) c.resize.new.self.items told
