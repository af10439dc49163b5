-- What each statement of a script is, by its place.
use Rattle.std.proofs.Common.{◌≡◌, ℕ, suc, ◌<◌, List, [], ◌∷◌, ◌++◌, length, take, drop, get_or, sym, ap, subst, ◌∙◌, drop-cons}
use Rattle.std.proofs.lemmas.List.{take-append-drop}
use Rattle.cluster_script.specs.declared.statement.Statement.{Statement}
use Rattle.cluster_script.specs.declared.statement.Statement.TheVariants.{Session, Back}
use Rattle.cluster_script.specs.Language.{MayStand, EachMayStand, IsScript}
use Rattle.cluster_script.specs.Marks.{MayBeMarked}
use Rattle.cluster_script.specs.KeptIndex.{MayBeNoted}
use Rattle.cluster_script.proofs.LanguageLaws.{statement-stands}
use Rattle.cluster_script.proofs.ScriptFacts.{used-node, failed-node}
use Rattle.cluster_script.proofs.Noted.{may-be-marked}

parted : (statements : List Statement) (i : ℕ) (d : Statement) → i < length statements
    → take i statements ++ get_or statements i d ∷ drop (suc i) statements ≡ statements
parted statements i d within = ap (λ xs. take i statements ++ xs) (sym (drop-cons statements i d within)) ∙ take-append-drop i statements

front : (before first rest : List Statement) → EachMayStand before (first ++ rest) → EachMayStand before first
front before [] rest each = tt
front before (s ∷ first) rest each = (each.0, front (before ++ s ∷ []) first rest each.1)

-- the statements before one of them are a script
pub script-before : (statements : List Statement) (i : ℕ) → IsScript statements → IsScript (take i statements)
script-before statements i script =
    front [] (take i statements) (drop i statements) (subst IsScript (sym (take-append-drop i statements)) script)

-- each statement may stand behind those before it
pub stands-at : (statements : List Statement) (i : ℕ) (d : Statement) → IsScript statements → i < length statements
    → MayStand (take i statements) (get_or statements i d)
stands-at statements i d script within =
    statement-stands (take i statements) (drop (suc i) statements) (get_or statements i d)
    (subst IsScript (sym (parted statements i d within)) script)

pub marked-at : (statements : List Statement) (i : ℕ) (d : Statement) → IsScript statements → i < length statements
    → MayBeMarked (get_or statements i d)
marked-at statements i d script within =
    may-be-marked (take i statements) (get_or statements i d) (script-before statements i script) (stands-at statements i d script within)

may-be-noted : (before : List Statement) (s : Statement) → IsScript before → MayStand before s → MayBeNoted s
may-be-noted before (Session session node) script may = (may.3, used-node before node script may.4.used)
may-be-noted before (Back node) script may = failed-node before node script may.1
may-be-noted before s script may = tt

pub noted-at : (statements : List Statement) (i : ℕ) (d : Statement) → IsScript statements → i < length statements
    → MayBeNoted (get_or statements i d)
noted-at statements i d script within =
    may-be-noted (take i statements) (get_or statements i d) (script-before statements i script) (stands-at statements i d script within)
