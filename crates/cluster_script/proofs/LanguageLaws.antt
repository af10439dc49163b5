-- Each statement of a script may stand where it does.
use Rattle.std.proofs.Common.{List, [], ◌∷◌, ◌++◌, sym, subst, append_assoc}
use Rattle.std.proofs.lemmas.List.{append-nil}
use Rattle.cluster_script.specs.declared.statement.Statement.{Statement}
use Rattle.cluster_script.specs.Language.{MayStand, EachMayStand, IsScript}

each-of : (first before rest : List Statement) (s : Statement) → EachMayStand first (before ++ s ∷ rest) → MayStand (first ++ before) s
each-of first [] rest s each = subst (λ (b : List Statement). MayStand b s) (sym (append-nil first)) each.0
each-of first (next ∷ before) rest s each =
    subst (λ (b : List Statement). MayStand b s) (append_assoc first (next ∷ []) before) (each-of (first ++ next ∷ []) before rest s each.1)

-- each statement of a script may stand after those before it
pub statement-stands : (before rest : List Statement) (s : Statement) → IsScript (before ++ s ∷ rest) → MayStand before s
statement-stands before rest s script = each-of [] before rest s script
