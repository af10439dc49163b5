-- Counters of a list with one statement more.
use Rattle.std.proofs.Common.{◌≡◌, ℕ, ◌+◌, Bool, ◌&&◌, ◌||◌, List, [], ◌∷◌, ◌++◌, refl, sym, ◌∙◌, arith}
use Rattle.std.specs.Prelude.{sum_by}
use Rattle.std.specs.List.{list_all, list_any}
use Rattle.std.proofs.lemmas.List.Folds.{list_all-append, list_any-append}
use Rattle.std.proofs.lemmas.List.Sums.{sum_by-append}
use Rattle.std.proofs.Math.Bool.{and-true, or-false}
use Rattle.cluster_script.specs.declared.statement.Statement.{Statement}

pub all_more : (p : Statement → Bool) (b : Bool) (before : List Statement) (s : Statement) → b ≡ list_all p before → (b && p s) ≡ list_all p (before ++ s ∷ [])
all_more p b before s so_far = rw (so_far, list_all-append p before (s ∷ []), and-true (p s)) refl

pub any_more : (p : Statement → Bool) (b : Bool) (before : List Statement) (s : Statement) → b ≡ list_any p before → (b || p s) ≡ list_any p (before ++ s ∷ [])
any_more p b before s so_far = rw (so_far, list_any-append p before (s ∷ []), or-false (p s)) refl

pub sum_more : (f : Statement → ℕ) (n : ℕ) (before : List Statement) (s : Statement) → n ≡ sum_by f before → n + f s ≡ sum_by f (before ++ s ∷ [])
sum_more f n before s so_far = so_far_plus ∙ sym (sum_by-append f before (s ∷ []))
  where
    so_far_plus : n + f s ≡ sum_by f before + sum_by f (s ∷ [])
    so_far_plus = omega arith
