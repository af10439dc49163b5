-- The controls that are still to come fit the nodes, at every event.
use Rattle.std.proofs.Common.{◌≡◌, ◌≢◌, ⊎_elim, arith, ℕ, zero, suc, ◌+◌, ◌==◌, Bool, true, false, ◌||◌, cond, List, [], ◌∷◌, ◌++◌, drop, Option, Some, None, is_some, refl, sym, ap, subst, ◌∙◌, append_assoc}
use Rattle.proof_tools.proofs.FiniteMaps.{get-insert_same, get-insert_other}
use Rattle.std.proofs.lemmas.Bool.{cases_eq}
use Rattle.std.specs.Ordering.{nat_cmp}
use Rattle.std.specs.List.{slice_get}
use Rattle.std.specs.Option.{option_map_or}
use Rattle.std.specs.FinMap as tree
use Rattle.std.proofs.lemmas.Bool.{eqb-true, ne_eqb, eq-eqb}
use Rattle.std.proofs.lemmas.Option.{same_Some}
use Rattle.cluster_script.specs.declared.statement.Statement.{Statement}
use Rattle.cluster_script.specs.declared.statement.Statement.TheVariants as lines
use Rattle.cluster_script.specs.Phases.{Phase, phases_of}
use Rattle.sheep_node.specs.declared.event.Event.{Event}
use Rattle.sheep_world.specs.World.{Host, World, is_lost, next_control}
use Rattle.sheep_world.specs.Opening.{controls_at}
use Rattle.sheep_world.specs.MembershipChanges.{lost_host}
use Rattle.sheep_world.specs.Step.{EventOutcome}
use Rattle.sheep_world.specs.EventKinds.{log_after_return, EventKind, NodeStep, UntoldLoss, UnreadDelivery, NodeLoss, NodeLeave, NodeReweight, NodeJoin, NodeReturn, PhaseEnd}
use Rattle.sheep_world.specs.HostChanges.{host_after_step, host_after_return, joined_host}
use Rattle.sheep_world.specs.ControlsToCome.{controls_behind, controls_to_come, FitsNodes, used_after, failed_after, EachFits, has_host, ControlsFit}

-- ---- the controls of the phases

behind_suc : (phases : List Phase) (place : ℕ)
    → option_map_or (λ (phase : Phase). phase.controls) (slice_get phases place) [] ++ controls_behind phases (suc place) ≡ controls_behind phases place
behind_suc [] zero = refl
behind_suc [] (suc place) = refl
behind_suc (phase ∷ phases) zero = refl
behind_suc (phase ∷ phases) (suc place) = behind_suc phases place

pub behind_next : (phases : List Phase) (place : ℕ)
    → option_map_or (λ (phase : Phase). phase.controls) (slice_get phases place) [] ++ controls_behind phases (place + 1) ≡ controls_behind phases place
behind_next phases place =
    let more : place + 1 ≡ suc place = omega arith in
    ap (λ (k : ℕ). option_map_or (λ (phase : Phase). phase.controls) (slice_get phases place) [] ++ controls_behind phases k) more
    ∙ behind_suc phases place

-- ---- what a world has at numbers

abbrev pub seated : tree.FinMap nat_cmp Host → ℕ → Bool
seated hosts q = is_some (tree.get hosts q)

abbrev lost : tree.FinMap nat_cmp Host → ℕ → Bool
lost hosts q = option_map_or (λ (host : Host). host.is_lost) (tree.get hosts q) false

or_true : (a b : Bool) → b ≡ true → (a || b) ≡ true
or_true true b is = refl
or_true false b is = is

or_false : (a b : Bool) → b ≡ false → (a || b) ≡ a
or_false true b is = refl
or_false false b is = is

-- a number without a host isn't lost
unseated : (hosts : tree.FinMap nat_cmp Host) (n q : ℕ) → seated hosts n ≡ false → cond (n == q) false (lost hosts q) ≡ lost hosts q
unseated hosts n q none = by_tie (n == q) refl
  where
    none_lost : (o : Option Host) → is_some o ≡ false → false ≡ option_map_or (λ (host : Host). host.is_lost) o false
    none_lost None is = refl
    none_lost (Some host) is = absurd (cc (is))

    by_tie : (b : Bool) → (n == q) ≡ b → cond b false (lost hosts q) ≡ lost hosts q
    by_tie true tie = none_lost (tree.get hosts q) (ap (seated hosts) (sym (eqb-true n q tie)) ∙ none)
    by_tie false tie = refl

module _ (hosts : tree.FinMap nat_cmp Host) (n : ℕ) (host : Host) where
  -- with a host that is there the same numbers are used
  seated_same : (old : Host) → tree.get hosts n ≡ Some old → (q : ℕ) → seated (tree.insert hosts n host) q ≡ seated hosts q
  seated_same old there q = ⊎_elim
      (λ (own : q ≡ n). ap (seated (tree.insert hosts n host)) own ∙ ap (λ (o : Option Host). is_some o) (get-insert_same hosts n host)
      ∙ sym (ap (seated hosts) own ∙ ap (λ (o : Option Host). is_some o) there))
      (λ (other : q ≢ n). ap (λ (o : Option Host). is_some o) (get-insert_other hosts n host q other))
      (cases_eq q n)

  -- and the same ones are lost, where its own loss is the same
  lost_same : (old : Host) → tree.get hosts n ≡ Some old → host.is_lost ≡ old.is_lost → (q : ℕ) → lost (tree.insert hosts n host) q ≡ lost hosts q
  lost_same old there same q = ⊎_elim
      (λ (own : q ≡ n). ap (lost (tree.insert hosts n host)) own
      ∙ ap (λ (o : Option Host). option_map_or (λ (host : Host). host.is_lost) o false) (get-insert_same hosts n host) ∙ same
      ∙ sym (ap (lost hosts) own ∙ ap (λ (o : Option Host). option_map_or (λ (host : Host). host.is_lost) o false) there))
      (λ (other : q ≢ n). ap (λ (o : Option Host). option_map_or (λ (host : Host). host.is_lost) o false) (get-insert_other hosts n host q other))
      (cases_eq q n)

  -- else its own is this
  lost_now : (q : ℕ) → lost (tree.insert hosts n host) q ≡ cond (n == q) host.is_lost (lost hosts q)
  lost_now q = ⊎_elim
      (λ (own : q ≡ n). ap (lost (tree.insert hosts n host)) own
      ∙ ap (λ (o : Option Host). option_map_or (λ (host : Host). host.is_lost) o false) (get-insert_same hosts n host)
      ∙ sym (ap (λ (b : Bool). cond b host.is_lost (lost hosts q)) (eq-eqb n q (sym own))))
      (λ (other : q ≢ n). ap (λ (o : Option Host). option_map_or (λ (host : Host). host.is_lost) o false) (get-insert_other hosts n host q other)
      ∙ sym (ap (λ (b : Bool). cond b host.is_lost (lost hosts q)) (ne_eqb n q (λ (e : n ≡ q). other (sym e)))))
      (cases_eq q n)

  pub seated_now : (q : ℕ) → seated (tree.insert hosts n host) q ≡ (seated hosts q || n == q)
  seated_now q = ⊎_elim
      (λ (own : q ≡ n). ap (seated (tree.insert hosts n host)) own ∙ ap (λ (o : Option Host). is_some o) (get-insert_same hosts n host)
      ∙ sym (or_true (seated hosts q) (n == q) (eq-eqb n q (sym own))))
      (λ (other : q ≢ n). ap (λ (o : Option Host). is_some o) (get-insert_other hosts n host q other)
      ∙ sym (or_false (seated hosts q) (n == q) (ne_eqb n q (λ (e : n ≡ q). other (sym e)))))
      (cases_eq q n)

-- what fits, fits by tests that say the same
pub fits_by : (used lost_host used' failed' : ℕ → Bool) (controls : List Statement) → ((q : ℕ) → used' q ≡ used q) → ((q : ℕ) → failed' q ≡ lost_host q)
    → EachFits used lost_host controls → EachFits used' failed' controls
fits_by used lost_host used' failed' controls same_used same_failed fits =
    let u : used ≡ used' = λ i q. sym (same_used q) i in
    let f : lost_host ≡ failed' = λ i q. sym (same_failed q) i in
    subst (λ (t : (ℕ → Bool) × (ℕ → Bool)). EachFits t.0 t.1 controls) (λ i. (u i, f i)) fits

-- a number isn't used by what joins nobody
pub or_false_right : (b : Bool) → (b || false) ≡ b
or_false_right true = refl
or_false_right false = refl

-- the next control, and those behind it
taken_next : (controls : List Statement) (control : Statement) → slice_get controls 0 ≡ Some control → controls ≡ control ∷ drop 1 controls
taken_next [] control is = absurd (cc (is))
taken_next (first ∷ later) control is = ap (λ (s : Statement). s ∷ later) (same_Some first control is)

module _ (script : List Statement) (world : World) (control : Statement) (next : next_control world ≡ Some control)
    (fit : ControlsFit script world) where
  parts : FitsNodes (has_host world) (λ (node : ℕ). is_lost node world) control
      × EachFits (used_after control (has_host world)) (failed_after control (λ (node : ℕ). is_lost node world))
      (drop 1 world.controls ++ controls_behind (phases_of script) (world.phase + 1))
  parts = subst
      (λ (controls : List Statement). EachFits (has_host world) (λ (node : ℕ). is_lost node world) (controls ++ controls_behind (phases_of script) (world.phase + 1)))
      (taken_next world.controls control next) fit

  -- the next control fits
  pub next_fits : FitsNodes (has_host world) (λ (node : ℕ). is_lost node world) control
  next_fits = parts.0

  -- once it is taken the others do, by tests that say the same as those after it
  taken_fits : (used lost_host : ℕ → Bool) → ((q : ℕ) → used q ≡ used_after control (has_host world) q)
      → ((q : ℕ) → lost_host q ≡ failed_after control (λ (node : ℕ). is_lost node world) q)
      → EachFits used lost_host (drop 1 world.controls ++ controls_behind (phases_of script) (world.phase + 1))
  taken_fits used lost_host same_used same_failed = fits_by
      (used_after control (has_host world)) (failed_after control (λ (node : ℕ). is_lost node world)) used lost_host
      (drop 1 world.controls ++ controls_behind (phases_of script) (world.phase + 1)) same_used same_failed parts.1

module _ (script : List Statement) (event : Event) (world : World) (made : EventOutcome) (fit : ControlsFit script world) where
  pub keeps_fit : EventKind script event world made → ControlsFit script made.world
  keeps_fit (NodeStep h) =
      subst (λ (m : EventOutcome). ControlsFit script m.world) h.made_so
      (fits_by (has_host world) (λ (node : ℕ). is_lost node world)
      (λ (q : ℕ). seated (tree.insert world.hosts h.n (host_after_step h.cause h.host)) q)
      (λ (q : ℕ). lost (tree.insert world.hosts h.n (host_after_step h.cause h.host)) q)
      (controls_to_come script world) (seated_same world.hosts h.n (host_after_step h.cause h.host) h.host h.there)
      (lost_same world.hosts h.n (host_after_step h.cause h.host) h.host h.there refl) fit)
  keeps_fit (UntoldLoss h) = subst (λ (m : EventOutcome). ControlsFit script m.world) h.made_so fit
  keeps_fit (UnreadDelivery h) = subst (λ (m : EventOutcome). ControlsFit script m.world) h.made_so fit
  keeps_fit (NodeLoss h) =
      subst (λ (m : EventOutcome). ControlsFit script m.world) h.made_so
      (taken_fits script world (lines.Fail h.n) h.control fit
      (λ (q : ℕ). seated (tree.insert world.hosts h.n (lost_host h.host)) q)
      (λ (q : ℕ). lost (tree.insert world.hosts h.n (lost_host h.host)) q)
      (λ q. seated_same world.hosts h.n (lost_host h.host) h.host h.there q ∙ sym (or_false_right (has_host world q)))
      (lost_now world.hosts h.n (lost_host h.host)))
  keeps_fit (NodeLeave h) = subst (λ (m : EventOutcome). ControlsFit script m.world) h.made_so fit
  keeps_fit (NodeReweight h) =
      subst (λ (m : EventOutcome). ControlsFit script m.world) h.made_so
      (taken_fits script world (lines.Reweight h.n h.vnodes) h.control fit (has_host world) (λ (node : ℕ). is_lost node world)
      (λ q. sym (or_false_right (has_host world q))) (λ q. refl))
  keeps_fit (NodeJoin h) =
      let new = joined_host script h.n in
      let none : has_host world h.n ≡ false = (next_fits script world (lines.Join h.n) h.control fit).1 in
      subst (λ (m : EventOutcome). ControlsFit script m.world) h.made_so
      (taken_fits script world (lines.Join h.n) h.control fit
      (λ (q : ℕ). seated (tree.insert world.hosts h.n new) q)
      (λ (q : ℕ). lost (tree.insert world.hosts h.n new) q)
      (seated_now world.hosts h.n new)
      (λ q. lost_now world.hosts h.n new q ∙ unseated world.hosts h.n q none))
  keeps_fit (NodeReturn h) =
      let again = host_after_return (log_after_return script h.n world) h.host in
      subst (λ (m : EventOutcome). ControlsFit script m.world) h.made_so
      (taken_fits script world (lines.Back h.n) h.control fit
      (λ (q : ℕ). seated (tree.insert world.hosts h.n again) q)
      (λ (q : ℕ). lost (tree.insert world.hosts h.n again) q)
      (λ q. seated_same world.hosts h.n again h.host h.there q ∙ sym (or_false_right (has_host world q)))
      (lost_now world.hosts h.n again))
  keeps_fit (PhaseEnd h) =
      subst (λ (m : EventOutcome). ControlsFit script m.world) h.made_so
      (subst (EachFits (has_host world) (λ (node : ℕ). is_lost node world))
      (ap (λ (later : List Statement). world.controls ++ later) (sym (behind_next (phases_of script) (world.phase + 1)))
      ∙ sym (append_assoc world.controls (controls_at script (world.phase + 1)) (controls_behind (phases_of script) ((world.phase + 1) + 1)))) fit)
