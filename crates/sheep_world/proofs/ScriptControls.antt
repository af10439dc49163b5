-- The controls of a script fit the nodes with which it opens.
use Rattle.std.proofs.Common.{◌≡◌, ◌≢◌, arith, ℕ, zero, suc, ◌+◌, ◌<◌, ◌≤◌, ◌==◌, nat_lt, Bool, true, false, not, ◌||◌, cond, List, [], ◌∷◌, ◌++◌, map, filter, flat_map, count_by, Option, Some, None, is_some, refl, sym, ap, subst, ◌∙◌, append_assoc}
use Rattle.std.specs.Ordering.{nat_cmp}
use Rattle.std.specs.Cmp.{nat_cmp_total, unsigned_tied}
use Rattle.std.specs.List.{list_any, range_with_len}
use Rattle.std.specs.Option.{option_map_or}
use Rattle.std.specs.FinMap as tree
use Rattle.std.proofs.lemmas.List.Folds.{list_any-append}
use Rattle.std.proofs.lemmas.Bool.{eqb-true, eqb-false, ltb-true, ltb-false}
use Rattle.object_id.specs.declared.limits.TheConstants.{NODES_DEFAULT}
use Rattle.cluster_script.specs.declared.statement.Statement.{Statement}
use Rattle.cluster_script.specs.declared.statement.Statement.TheVariants.{Cluster, Fail, Join, Reweight, Back}
use Rattle.cluster_script.specs.Language.{MayStand, EachMayStand, IsScript}
use Rattle.cluster_script.specs.Nodes.{uses_node, is_node_used, failed_by, failed_from, is_failed}
use Rattle.cluster_script.specs.Phases.{Phase, is_barrier, is_control, stretches_with, stretches, phases_from, phases_of}
use Rattle.cluster_script.specs.Settings.{nodes_set, setting_of, is_set, nodes_of, new_member, opening_members}
use Rattle.cluster_script.specs.Statements.{is_setting, is_cluster, has, is_request}
use Rattle.sheep_world.specs.World.{Host, World, host_at, is_lost}
use Rattle.sheep_world.specs.Opening.{initial_member_node, initial_host, initial_member_host, before_phases, initial_world}
use Rattle.sheep_world.specs.Conditions.{joins}
use Rattle.sheep_world.proofs.WireAtOpening.{opening_found}
use Rattle.sheep_world.specs.ControlsToCome.{controls_to_come, used_after, failed_after, EachFits, has_host, ControlsFit}
use Rattle.sheep_world.specs.Began.{Began}
use Rattle.sheep_world.proofs.ClientReads.{goes_by_kind}
use Rattle.sheep_world.proofs.BegunWorlds.{by_induction}
use Rattle.sheep_world.proofs.ControlLaws.{fits_by, or_false_right, behind_next, keeps_fit}

-- ---- the controls of the phases are those of the script

abbrev controls_of : List Statement → List Statement
controls_of statements = filter is_control statements

one_stretched : (s : Statement) (first : List Statement) (b : Bool) → is_control s ≡ b
    → cond b (s ∷ controls_of first) (controls_of first) ≡ cond b (s ∷ []) [] ++ controls_of first
one_stretched s first true is = refl
one_stretched s first false is = refl

stretched_if : (s : Statement) (first : List Statement) (rest : List (List Statement)) (b : Bool)
    → flat_map controls_of (cond b ((s ∷ []) ∷ first ∷ rest) ((s ∷ first) ∷ rest))
    ≡ controls_of (s ∷ []) ++ flat_map controls_of (first ∷ rest)
stretched_if s first rest true = refl
stretched_if s first rest false =
    ap (λ (controls : List Statement). controls ++ flat_map controls_of rest) (one_stretched s first (is_control s) refl)
    ∙ append_assoc (controls_of (s ∷ [])) (controls_of first) (flat_map controls_of rest)

stretched_controls : (s : Statement) (rest : List (List Statement))
    → flat_map controls_of (stretches_with s rest) ≡ controls_of (s ∷ []) ++ flat_map controls_of rest
stretched_controls s [] = refl
stretched_controls s (first ∷ rest) = stretched_if s first rest (is_barrier s)

stretches_controls : (statements : List Statement) → flat_map controls_of (stretches statements) ≡ controls_of statements
stretches_controls [] = refl
stretches_controls (s ∷ rest) =
    stretched_controls s (stretches rest)
    ∙ ap (λ (controls : List Statement). controls_of (s ∷ []) ++ controls) (stretches_controls rest)
    ∙ sym (one_stretched s rest (is_control s) refl)

phases_controls : (stretches : List (List Statement)) (number : ℕ)
    → flat_map (λ (phase : Phase). phase.controls) (phases_from number stretches) ≡ flat_map controls_of stretches
phases_controls [] number = refl
phases_controls (stretch ∷ rest) number =
    ap (λ (controls : List Statement). controls_of stretch ++ controls) (phases_controls rest (number + count_by is_request stretch))

setting_no_control : (s : Statement) → is_setting s ≡ true → is_control s ≡ false
setting_no_control (Fail node) is = absurd (cc (is))
setting_no_control (Join node) is = absurd (cc (is))
setting_no_control (Reweight node vnodes) is = absurd (cc (is))
setting_no_control (Back node) is = absurd (cc (is))
setting_no_control s is = refl

without_setting : (s : Statement) (rest left : List Statement) (b : Bool) → is_setting s ≡ b → controls_of left ≡ controls_of rest
    → controls_of (cond (not b) (s ∷ left) left) ≡ controls_of (s ∷ rest)
without_setting s rest left true is same = same ∙ sym (ap (λ (c : Bool). cond c (s ∷ controls_of rest) (controls_of rest)) (setting_no_control s is))
without_setting s rest left false is same = ap (λ (controls : List Statement). cond (is_control s) (s ∷ controls) controls) same

without_settings : (statements : List Statement) → controls_of (filter (λ s. not (is_setting s)) statements) ≡ controls_of statements
without_settings [] = refl
without_settings (s ∷ rest) = without_setting s rest (filter (λ s. not (is_setting s)) rest) (is_setting s) refl (without_settings rest)

to_come_at_first : (statements : List Statement) → controls_to_come statements (initial_world statements) ≡ controls_of statements
unfolding initial_world
to_come_at_first statements =
    behind_next (phases_of statements) 0
    ∙ phases_controls (stretches (filter (λ s. not (is_setting s)) statements)) 1
    ∙ stretches_controls (filter (λ s. not (is_setting s)) statements) ∙ without_settings statements

-- ---- who is there at first

module _ (statements : List Statement) (q : ℕ) where
  abbrev found_in : ℕ → ℕ → Option Host
  found_in start count = tree.find nat_cmp q (map (initial_member_host statements) (map (new_member statements) (range_with_len start count)))

  found_if : (start count : ℕ) → (q == start) ≡ true → is_some (found_in start (suc count)) ≡ true
  found_if start count tie =
      ap (λ (b : Bool). is_some (cond b (Some (initial_host (initial_member_node statements (new_member statements start)))) (found_in (start + 1) count)))
      (unsigned_tied q start ∙ tie)

  found_later : (start count : ℕ) → (q == start) ≡ false → is_some (found_in start (suc count)) ≡ is_some (found_in (start + 1) count)
  found_later start count tie =
      ap (λ (b : Bool). is_some (cond b (Some (initial_host (initial_member_node statements (new_member statements start)))) (found_in (start + 1) count)))
      (unsigned_tied q start ∙ tie)

  in_tie : (start count : ℕ) (b : Bool) → (q == start) ≡ b → start ≤ q
      → (start + 1 ≤ q → is_some (found_in (start + 1) count) ≡ true) → is_some (found_in start (suc count)) ≡ true
  in_tie start count true tie low later = found_if start count tie
  in_tie start count false tie low later =
      let apart : q ≢ start = eqb-false q start tie in
      found_later start count tie ∙ later (omega (arith, apart, low))

  found_within : (start count : ℕ) → start ≤ q → q < start + count → is_some (found_in start count) ≡ true
  found_within start zero low high = absurd (omega (arith, low, high))
  found_within start (suc count) low high =
      in_tie start count (q == start) refl low (λ (more : start + 1 ≤ q). found_within (start + 1) count more (omega (arith, high)))

  out_tie : (start count : ℕ) (b : Bool) → (q == start) ≡ b → start + 1 ≤ q → is_some (found_in (start + 1) count) ≡ false
      → is_some (found_in start (suc count)) ≡ false
  out_tie start count true tie past later = let same : q ≡ start = eqb-true q start tie in absurd (omega (arith, same, past))
  out_tie start count false tie past later = found_later start count tie ∙ later

  found_past : (start count : ℕ) → start + count ≤ q → is_some (found_in start count) ≡ false
  found_past start zero past = refl
  found_past start (suc count) past =
      out_tie start count (q == start) refl (omega (arith, past)) (found_past (start + 1) count (omega (arith, past)))

  pub seated_at_first : has_host (initial_world statements) q ≡ nat_lt q (nodes_of statements)
  unfolding initial_world
  seated_at_first =
      ap (λ (o : Option Host). is_some o) (tree.get-from_entries nat_cmp_total (map (initial_member_host statements) (opening_members statements)) q)
      ∙ by_count (nat_lt q (nodes_of statements)) refl
    where
      by_count : (b : Bool) → nat_lt q (nodes_of statements) ≡ b → is_some (found_in 0 (nodes_of statements)) ≡ b
      by_count true less =
          let below : q < nodes_of statements = ltb-true q (nodes_of statements) less in
          found_within 0 (nodes_of statements) (omega arith) (omega (arith, below))
      by_count false more =
          let past : nodes_of statements ≤ q = ltb-false q (nodes_of statements) more in
          found_past 0 (nodes_of statements) (omega (arith, past))

  lost_at_first : is_lost q (initial_world statements) ≡ false
  unfolding initial_world
  lost_at_first = by_host (host_at q (before_phases statements)) refl
    where
      by_host : (o : Option Host) → host_at q (before_phases statements) ≡ o → option_map_or (λ (host : Host). host.is_lost) o false ≡ false
      by_host None at = refl
      by_host (Some host) at = let (member, own, is) = opening_found statements q host at in ap (λ (host : Host). host.is_lost) (sym is)

-- ---- each control fits

any_more : (test : Statement → Bool) (before : List Statement) (s : Statement) → list_any test (before ++ s ∷ []) ≡ (list_any test before || test s)
any_more test before s =
    list_any-append test before (s ∷ []) ∙ ap (λ (b : Bool). list_any test before || b) (or_false_right (test s))

failed_more : (node : ℕ) (was : Bool) (before : List Statement) (s : Statement)
    → failed_from node was (before ++ s ∷ []) ≡ failed_by node (failed_from node was before) s
failed_more node was [] s = refl
failed_more node was (first ∷ before) s = failed_more node (failed_by node was first) before s

set_where_cluster : (before : List Statement) → has is_cluster before ≡ true → is_set nodes_set before ≡ true
set_where_cluster [] is = absurd (cc (is))
set_where_cluster (Cluster nodes ∷ before) is = refl
set_where_cluster (s ∷ before) is = set_where_cluster before is

uses_joins : (q : ℕ) (before : List Statement) (s : Statement) → MayStand before s → has is_cluster before ≡ true → uses_node q s ≡ joins q s
uses_joins q before (Cluster nodes) may cluster = absurd (cc (may.0.once, set_where_cluster before cluster))
uses_joins q before s may cluster = refl

one_more : (before : List Statement) (s : Statement) (used failed : ℕ → Bool) → MayStand before s
    → ((q : ℕ) → is_node_used q before ≡ used q) → ((q : ℕ) → is_failed q before ≡ failed q)
    → (rest : List Statement) → EachFits (used_after s used) (failed_after s failed) rest → EachFits used failed (cond (is_control s) (s ∷ rest) rest)
one_more before (Fail node) used failed may u f rest fits = ((sym (u node) ∙ may.1.used, sym (f node) ∙ may.1.stands), fits)
one_more before (Join node) used failed may u f rest fits = ((may.1, sym (u node) ∙ may.2), fits)
one_more before (Reweight node vnodes) used failed may u f rest fits =
    ((sym (u node) ∙ may.1.used, sym (f node) ∙ may.1.stands, (may.2, may.3)), fits)
one_more before (Back node) used failed may u f rest fits = (sym (f node) ∙ may.1, fits)
one_more before s used failed may u f rest fits =
    fits_by (used_after s used) (failed_after s failed) used failed rest (λ q. sym (or_false_right (used q))) (λ q. refl) fits

fits_from : (before rest : List Statement) (used failed : ℕ → Bool) → has is_cluster before ≡ true
    → ((q : ℕ) → is_node_used q before ≡ used q) → ((q : ℕ) → is_failed q before ≡ failed q) → EachMayStand before rest
    → EachFits used failed (controls_of rest)
fits_from before [] used failed cluster u f each = tt
fits_from before (s ∷ rest) used failed cluster u f each =
    one_more before s used failed each.0 u f (controls_of rest)
    (fits_from (before ++ s ∷ []) rest (used_after s used) (failed_after s failed)
    (any_more is_cluster before s ∙ ap (λ (b : Bool). b || is_cluster s) cluster)
    (λ q. any_more (uses_node q) before s ∙ (λ i. u q i || uses_joins q before s each.0 cluster i))
    (λ q. failed_more q false before s ∙ ap (λ (b : Bool). failed_by q b s) (f q))
    each.1)

-- before a `cluster` there are no nodes
pub record NoNodes (before : List Statement) : Type 0 where
  pub none : has is_cluster before ≡ false
  pub unused : (q : ℕ) → is_node_used q before ≡ false
  pub unfailed : (q : ℕ) → is_failed q before ≡ false

still_none : (before : List Statement) (s : Statement) → NoNodes before → is_cluster s ≡ false → ((q : ℕ) → uses_node q s ≡ false)
    → ((q : ℕ) → failed_by q false s ≡ false) → NoNodes (before ++ s ∷ [])
still_none before s bare c us fs = record {
  none = any_more is_cluster before s ∙ (λ i. bare.none i || c i);
  unused = λ q. any_more (uses_node q) before s ∙ (λ i. bare.unused q i || us q i);
  unfailed = λ q. failed_more q false before s ∙ ap (λ (b : Bool). failed_by q b s) (bare.unfailed q) ∙ fs q;
}

-- the nodes with which a script opens
abbrev OpensFit : List Statement → Type 0
OpensFit rest = EachFits (λ q. nat_lt q (setting_of nodes_set NODES_DEFAULT rest)) (λ q. false) (controls_of rest)

one_opens : (before : List Statement) (s : Statement) (rest : List Statement) → NoNodes before → MayStand before s
    → EachMayStand (before ++ s ∷ []) rest → (NoNodes (before ++ s ∷ []) → OpensFit rest) → OpensFit (s ∷ rest)
one_opens before (Cluster nodes) rest bare may each later =
    fits_from (before ++ Cluster nodes ∷ []) rest (λ q. nat_lt q nodes) (λ q. false)
    (any_more is_cluster before (Cluster nodes) ∙ (λ i. bare.none i || true))
    (λ q. any_more (uses_node q) before (Cluster nodes) ∙ (λ i. bare.unused q i || nat_lt q nodes))
    (λ q. failed_more q false before (Cluster nodes) ∙ bare.unfailed q) each
one_opens before (Fail node) rest bare may each later = absurd (cc (may.0, bare.none))
one_opens before (Join node) rest bare may each later = absurd (cc (may.0, bare.none))
one_opens before (Reweight node vnodes) rest bare may each later = absurd (cc (may.0, bare.none))
one_opens before (Back node) rest bare may each later = absurd (cc (may.0, bare.none))
one_opens before s rest bare may each later = later (still_none before s bare refl (λ q. refl) (λ q. refl))

opens_fit : (before rest : List Statement) → NoNodes before → EachMayStand before rest → OpensFit rest
opens_fit before [] bare each = tt
opens_fit before (s ∷ rest) bare each =
    one_opens before s rest bare each.0 each.1 (λ (on : NoNodes (before ++ s ∷ [])). opens_fit (before ++ s ∷ []) rest on each.1)

pub opening_fits : (statements : List Statement) → IsScript statements → ControlsFit statements (initial_world statements)
opening_fits statements script =
    subst (EachFits (has_host (initial_world statements)) (λ (node : ℕ). is_lost node (initial_world statements))) (sym (to_come_at_first statements))
    (fits_by (λ q. nat_lt q (nodes_of statements)) (λ q. false) (has_host (initial_world statements)) (λ (node : ℕ). is_lost node (initial_world statements))
    (controls_of statements) (seated_at_first statements) (lost_at_first statements)
    (opens_fit [] statements (record { none = refl; unused = λ q. refl; unfailed = λ q. refl }) script))

pub controls-fit : (statements : List Statement) (world : World) → IsScript statements → Began statements world → ControlsFit statements world
controls-fit statements world script =
    by_induction statements (ControlsFit statements) (record {
      opens = opening_fits statements script;
      keeps = λ event world made began is fit. keeps_fit statements event world made fit (goes_by_kind statements event world made is);
    }) world
