-- In every run of a script a node whose join is to come isn't there, and joins once: the controls to come fit the nodes.
use Rattle.std.proofs.Common.{◌≡◌, ℕ, zero, suc, Bool, true, false, ◌||◌, List, [], ◌∷◌, Option, Some, None, is_some, slice_get, refl, ap}
use Rattle.std.proofs.Common.{subst, ◌∙◌}
use Rattle.std.proofs.lemmas.Bool.{eq-eqb}
use Rattle.std.proofs.lemmas.Option.{same_Some}
use Rattle.cluster_script.specs.declared.statement.Statement.{Statement}
use Rattle.cluster_script.specs.declared.statement.Statement.TheVariants as lines
use Rattle.cluster_script.specs.Language.{IsScript}
use Rattle.sheep_world.specs.World.{Host, host_at, is_lost}
use Rattle.sheep_world.specs.Conditions.{joins}
use Rattle.sheep_world.specs.ControlsToCome.{FitsNodes, EachFits, used_after, failed_after, has_host, controls_to_come}
use Rattle.sheep_world.proofs.ScriptControls.{controls-fit}
use Rattle.sheep_world.specs.RunsWithAsks.{Move}
use Rattle.overlap_law.specs.Past.{MomentWithPast, run_with_past}
use Rattle.overlap_law.specs.RequestsOfScript.{JoinsAreNew}
use Rattle.overlap_law.proofs.NoRecoveredDue.{began-with_past}

-- what wasn't used after a control wasn't before, and doesn't join by it
not_used : (a b : Bool) → (a || b) ≡ false → (a ≡ false) × (b ≡ false)
not_used true b none = absurd (cc (none))
not_used false b none = (refl, none)

-- who joins by one of some controls that fit, is new
joins_new : (controls : List Statement) (used lost : ℕ → Bool) → EachFits used lost controls → (place node : ℕ)
    → slice_get controls place ≡ Some (lines.Join node) → used node ≡ false
joins_new [] used lost fit place node got = absurd (cc (got))
joins_new (s ∷ rest) used lost fit zero node got =
    (subst (FitsNodes used lost) (same_Some s (lines.Join node) got) fit.0).1
joins_new (s ∷ rest) used lost fit (suc place) node got =
    (not_used (used node) (joins node s) (joins_new rest (used_after s used) (failed_after s lost) fit.1 place node got)).0

-- one that joins by a control joins by none behind it
joined_before : (s : Statement) (rest : List Statement) (used lost : ℕ → Bool) → EachFits (used_after s used) (failed_after s lost) rest
    → (place node : ℕ)
    → s ≡ lines.Join node → slice_get rest place ≡ Some (lines.Join node) → ⊥
joined_before s rest used lost fit place node same got =
    let none = (not_used (used node) (joins node s) (joins_new rest (used_after s used) (failed_after s lost) fit place node got)).1 in
    let own : joins node s ≡ true = ap (joins node) same ∙ eq-eqb node node refl in
    absurd (cc (none, own))

-- and joins by no other
joins_once : (controls : List Statement) (used lost : ℕ → Bool) → EachFits used lost controls → (place other node : ℕ)
    → slice_get controls place ≡ Some (lines.Join node) → slice_get controls other ≡ Some (lines.Join node) → place ≡ other
joins_once [] used lost fit place other node got again = absurd (cc (got))
joins_once (s ∷ rest) used lost fit zero zero node got again = refl
joins_once (s ∷ rest) used lost fit zero (suc other) node got again =
    absurd (joined_before s rest used lost fit.1 other node (same_Some s (lines.Join node) got) again)
joins_once (s ∷ rest) used lost fit (suc place) zero node got again =
    absurd (joined_before s rest used lost fit.1 place node (same_Some s (lines.Join node) again) got)
joins_once (s ∷ rest) used lost fit (suc place) (suc other) node got again =
    ap suc (joins_once rest (used_after s used) (failed_after s lost) fit.1 place other node got again)

none_there : (o : Option Host) → is_some o ≡ false → o ≡ None
none_there None none = refl
none_there (Some host) none = absurd (cc (none))

pub joins_in_run : (script : List Statement) → IsScript script → (events : List Move) (moment : MomentWithPast)
    → run_with_past script events ≡ Some moment → JoinsAreNew script moment.world
joins_in_run script is_script events moment is =
    let world = moment.world in
    let fit = controls-fit script world is_script (began-with_past script events moment is) in
    record {
      absent = λ place node got.
          none_there (host_at node world)
          (joins_new (controls_to_come script world) (has_host world) (λ (node : ℕ). is_lost node world) fit place node got);
      once = joins_once (controls_to_come script world) (has_host world) (λ (node : ℕ). is_lost node world) fit;
    }
