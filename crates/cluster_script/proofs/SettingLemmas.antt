-- A setting is that of the first statement that sets it: what `find_map` finds among the statements.
use Rattle.std.proofs.Common.{◌≡◌, ℕ, zero, suc, ◌+◌, ◌<◌, true, List, [], ◌∷◌, length, slice_index_or, Option, Some, None, Iter, refl, ap, sym, ◌∙◌, subst, arith, Bor}
use Rattle.std.specs.Prelude.{unwrap_or, MatchOption, IfSome, IsSomeAnd}
use Rattle.std.specs.Option.{option_map, is_some}
use Rattle.std.specs.Fn.{Called}
use Rattle.std.specs.Slice.Iter.{iter_rest, iter_steps}
use Rattle.std.specs.Iterator.Adapters.{IterYieldsInOrder}
use Rattle.std.specs.Iterator.Runs.{Run, SomeRun, CallKeepsClosure, AllItemsGive, IsFirstToGive, ItemsMapTo}
use Rattle.std.proofs.lemmas.Bool.{false≢true}
use Rattle.cluster_script.specs.declared.statement.Statement.{Statement}
use Rattle.cluster_script.specs.Settings.{setting_of}
use denote.Param.Members.{Mut}

module _ (set : Statement → Option ℕ) (default : ℕ) where
  -- no statement sets it
  none-sets : (all : List Statement) → ((k : ℕ) (d : Statement) → k < length all → set (slice_index_or all k d) ≡ None)
      → setting_of set default all ≡ default
  none-sets [] none = refl
  none-sets (s ∷ rest) none =
      ap (λ found. unwrap_or found (setting_of set default rest)) (none 0 s (omega arith))
      ∙ none-sets rest (λ k d within. none (suc k) d (omega arith))

  -- the one at place i is the first that sets it
  first-sets : (all : List Statement) (i value : ℕ) → i < length all
      → ((k : ℕ) (d : Statement) → k < i → set (slice_index_or all k d) ≡ None)
      → ((d : Statement) → set (slice_index_or all i d) ≡ Some value) → setting_of set default all ≡ value
  first-sets [] i value within none sets = absurd (omega arith)
  first-sets (s ∷ rest) zero value within none sets = ap (λ found. unwrap_or found (setting_of set default rest)) (sets s)
  first-sets (s ∷ rest) (suc i) value within none sets =
      ap (λ found. unwrap_or found (setting_of set default rest)) (none 0 s (omega arith))
      ∙ first-sets rest i value (omega arith) (λ k d before. none (suc k) d (omega arith)) sets

  module _ {F : Type 0} {g : Mut F (Bor Statement × Unit {0}) (Option ℕ)} {f : F}
      (told : (x : Bor Statement) (answer : Option ℕ) (after : F) → Called g f (x, tt) answer after → (after ≡ f) × (answer ≡ set x.now)) where
    -- what f answers at a reference to s is what s sets
    set-if : (item : Option (Bor Statement)) (s : Statement) (answer : Option ℕ) → option_map (λ x. x.now) item ≡ Some s
        → IfSome item (λ x. Called g f (x, tt) answer f) → set s ≡ answer
    set-if None s answer is gave = absurd (false≢true (ap is_some is))
    set-if (Some x) s answer is gave = ap (λ o. set (unwrap_or o s)) (sym is) ∙ sym (told x answer f gave).1

    set-at : (item : Option (Bor Statement)) (s : Statement) (answer : Option ℕ) → option_map (λ x. x.now) item ≡ Some s
        → IsSomeAnd item (λ x. Called g f (x, tt) answer f) → set s ≡ answer
    set-at None s answer is gave = absurd gave
    set-at (Some x) s answer is gave = set-if (Some x) s answer is gave

    -- what `find_map` ensures of its answer: over all items f gave `None`, or it gave the answer at the last of them alone
    abbrev Answered : Run (iter_steps {A = Statement}) → Option ℕ → Type 0
    Answered p found = MatchOption found ((p.whole ≡ true) × AllItemsGive p g f None)
        (λ value. (i : ℕ) × (i < p.len) × (p.len ≡ i + 1) × IsFirstToGive p g f (Some value) None i)

    -- calls leave f as it was
    keeps : CallKeepsClosure g f
    keeps call answer after called = (told call.0 answer after called).0

    found-first : (p : Run iter_steps) (all : List Statement) (found : Option ℕ) → ItemsMapTo p (λ x. x.now) all → Answered p found
        → unwrap_or found default ≡ setting_of set default all
    found-first p all None are none = sym (none-sets all (λ k d within. set-if (p.at k) _ None (are.2 k d (omega (arith, are.1 none.0))) (none.1 keeps k)))
    found-first p all (Some value) are first =
        let gives = first.3 keeps in
        sym (first-sets all first.0 value (omega (arith, are.0, first.1))
        (λ k d before. set-at (p.at k) _ None (are.2 k d (omega (arith, first.1))) (gives.1 k before))
        (λ d. set-at (p.at first.0) _ (Some value) (are.2 first.0 d first.1) gives.0))

    pub setting_of-found : (found : Option ℕ) (from : Iter Statement) (all : List Statement) → IterYieldsInOrder Statement → iter_rest from ≡ all
        → SomeRun iter_steps from (λ p. Answered p found) → unwrap_or found default ≡ setting_of set default all
    setting_of-found found from all orderly rest run =
        found-first run.0 all found (subst (ItemsMapTo run.0 (λ x. x.now)) (ap iter_rest run.1 ∙ rest) (orderly run.0 run.0.seen)) run.2
