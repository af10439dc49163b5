-- The summaries of hosts: how they and the set of nodes that are up follow a change at one number, and what conditions read in them.
use Rattle.std.proofs.Common.{◌≡◌, ℕ, ◌<◌, ◌≤◌, ◌==◌, ◌&&◌, ◌||◌, Bool, true, false, not, cond, List, [], length, get_or, set, replicate, nat_lt, Option, Some, None, refl, sym, ap, subst, ◌∙◌, arith}
use Rattle.std.specs.Ordering.{nat_cmp}
use Rattle.std.specs.Option.{option_map_or}
use Rattle.std.specs.FinMap as tree
use Rattle.std.proofs.lemmas.Bool.{lt-ltb, eqb-true, eqb-false}
use Rattle.std.proofs.lemmas.List.{get_or-replicate, get_or-set_same, get_or-set_other, length-set}
use Rattle.proof_tools.proofs.FiniteMaps.{get-insert_same, get-insert_other, get-remove_same, get-remove_other}
use Rattle.cluster_script.specs.Sessions.{ScriptSession}
use Rattle.message_wire.specs.declared.node_set.NodeSet.{NodeSet}
use Rattle.message_wire.specs.NodeSet.{contains_node}
use Rattle.sheep_world.specs.declared.host_summary.HostSummary.{HostSummary}
use Rattle.sheep_world.specs.World.{Host, is_host_up}
use Rattle.sheep_world.specs.Conditions.{serves}
use Rattle.sheep_world.specs.HostSummaries.{summary_of, no_summary, AreUpIn, AreSummariesOf}

or-true : (b : Bool) → (b || true) ≡ true
or-true true = refl
or-true false = refl

or-false : (b : Bool) → (b || false) ≡ b
or-false true = refl
or-false false = refl

and-true : (b : Bool) → (b && true) ≡ b
and-true true = refl
and-true false = refl

and-false : (b : Bool) → (b && false) ≡ false
and-false true = refl
and-false false = refl

-- ---- a set of nodes, with a node in it or not

module _ (nodes new : NodeSet) (node : ℕ) (is_in : Bool) where
  pub set-with : node < 64 → is_in ≡ true
      → ((other : ℕ) → contains_node other new ≡ (contains_node other nodes || (other == node && nat_lt node 64)))
      → (other : ℕ) → contains_node other new ≡ cond (other == node) is_in (contains_node other nodes)
  set-with below is change other = change other ∙ by_test (other == node)
    where
      by_test : (b : Bool) → (contains_node other nodes || (b && nat_lt node 64)) ≡ cond b is_in (contains_node other nodes)
      by_test true =
          ap (λ (b : Bool). contains_node other nodes || b) (lt-ltb node 64 below) ∙ or-true (contains_node other nodes) ∙ sym is
      by_test false = or-false (contains_node other nodes)

  pub set-without : is_in ≡ false
      → ((other : ℕ) → contains_node other new ≡ (contains_node other nodes && not (other == node)))
      → (other : ℕ) → contains_node other new ≡ cond (other == node) is_in (contains_node other nodes)
  set-without is change other = change other ∙ by_test (other == node)
    where
      by_test : (b : Bool) → (contains_node other nodes && not b) ≡ cond b is_in (contains_node other nodes)
      by_test true = and-false (contains_node other nodes) ∙ sym is
      by_test false = and-true (contains_node other nodes)

-- ---- the table, with a summary at a number

-- the summaries of no hosts
pub none-up : (empty : HostSummary) (summaries : List HostSummary) (up : NodeSet) → empty ≡ no_summary → summaries ≡ replicate 64 empty
    → ((node : ℕ) → contains_node node up ≡ false) → AreUpIn summaries up
none-up empty summaries up is all none =
    let same : summaries ≡ replicate 64 no_summary = all ∙ ap (replicate 64) is in
    subst (λ (summaries : List HostSummary). AreUpIn summaries up) (sym same) (
      refl,
      λ node below. none node ∙ sym (ap (λ (summary : HostSummary). summary.is_up) (get_or-replicate 64 node no_summary no_summary below)),
    )

module _ (summaries : List HostSummary) (up : NodeSet) (node : ℕ) (summary : HostSummary) (are : AreUpIn summaries up) (below : node < 64) where
  within : node < length summaries
  within = let all = are.0 in omega (arith, all, below)

  pub summary-there : (other : ℕ)
      → get_or (set summaries node summary) other no_summary ≡ cond (other == node) summary (get_or summaries other no_summary)
  summary-there other = by_test (other == node) refl
    where
      by_test : (b : Bool) → (other == node) ≡ b
          → get_or (set summaries node summary) other no_summary ≡ cond b summary (get_or summaries other no_summary)
      by_test true test =
          ap (λ (place : ℕ). get_or (set summaries node summary) place no_summary) (eqb-true other node test)
          ∙ get_or-set_same summaries node summary no_summary within
      by_test false test = get_or-set_other summaries node other summary no_summary (eqb-false other node test)

  pub up-there : (new : NodeSet) → ((other : ℕ) → contains_node other new ≡ cond (other == node) summary.is_up (contains_node other up))
      → AreUpIn (set summaries node summary) new
  up-there new change = (
    length-set summaries node summary ∙ are.0,
    λ other low.
        change other ∙ ap (cond (other == node) summary.is_up) (are.1 other low)
        ∙ by_test (other == node) (get_or summaries other no_summary)
        ∙ sym (ap (λ (there : HostSummary). there.is_up) (summary-there other)),
  )
    where
      by_test : (b : Bool) (old : HostSummary) → cond b summary.is_up old.is_up ≡ (cond b summary old).is_up
      by_test true old = refl
      by_test false old = refl

-- a number of 64 or more has no place
pub beyond-there : (summaries : List HostSummary) (node : ℕ) (summary : HostSummary) → 64 ≤ node → (other : ℕ) → other < 64
    → get_or summaries other no_summary ≡ cond (other == node) summary (get_or summaries other no_summary)
beyond-there summaries node summary beyond other below = by_test (other == node) refl
  where
    by_test : (b : Bool) → (other == node) ≡ b → get_or summaries other no_summary ≡ cond b summary (get_or summaries other no_summary)
    by_test true test = let same = eqb-true other node test in absurd (omega (arith, same, below, beyond))
    by_test false test = refl

-- ---- the summaries of the hosts

pub summaries-none : (es : List (ℕ × Host)) (table : List HostSummary) → es ≡ [] → table ≡ replicate 64 no_summary
    → AreSummariesOf (tree.from_entries es) table
summaries-none es table no_hosts empty = λ node below.
    ap (λ (summaries : List HostSummary). get_or summaries node no_summary) empty
    ∙ get_or-replicate 64 node no_summary no_summary below
    ∙ sym (ap (λ (es : List (ℕ × Host)). summary_of (tree.get (tree.from_entries {R = nat_cmp} es) node)) no_hosts
    ∙ ap summary_of (tree.get-empty nat_cmp node))

module _ (hosts : tree.FinMap nat_cmp Host) (old new : List HostSummary) (node : ℕ) (summary : HostSummary) (are : AreSummariesOf hosts old)
    (change : (other : ℕ) → other < 64 → get_or new other no_summary ≡ cond (other == node) summary (get_or old other no_summary)) where
  pub summaries-insert : (host : Host) → summary ≡ summary_of (Some host) → AreSummariesOf (tree.insert hosts node host) new
  summaries-insert host is other below = change other below ∙ by_test (other == node) refl
    where
      by_test : (b : Bool) → (other == node) ≡ b
          → cond b summary (get_or old other no_summary) ≡ summary_of (tree.get (tree.insert hosts node host) other)
      by_test true test =
          is ∙ sym (ap (λ (k : ℕ). summary_of (tree.get (tree.insert hosts node host) k)) (eqb-true other node test)
          ∙ ap summary_of (get-insert_same hosts node host))
      by_test false test = are other below ∙ sym (ap summary_of (get-insert_other hosts node host other (eqb-false other node test)))

  pub summaries-remove : summary ≡ no_summary → AreSummariesOf (tree.remove hosts node) new
  summaries-remove is other below = change other below ∙ by_test (other == node) refl
    where
      by_test : (b : Bool) → (other == node) ≡ b
          → cond b summary (get_or old other no_summary) ≡ summary_of (tree.get (tree.remove hosts node) other)
      by_test true test =
          is ∙ sym (ap (λ (k : ℕ). summary_of (tree.get (tree.remove hosts node) k)) (eqb-true other node test)
          ∙ ap summary_of (get-remove_same hosts node))
      by_test false test = are other below ∙ sym (ap summary_of (get-remove_other hosts node other (eqb-false other node test)))

-- ---- what conditions read in a summary

pub behind-by_summary : (found : Option Host) (entries : ℕ) → ((summary_of found).is_up && nat_lt (summary_of found).read_len entries)
    ≡ option_map_or (λ (host : Host). is_host_up host && nat_lt (length host.node.peer.entries) entries) found false
behind-by_summary None entries = refl
behind-by_summary (Some host) entries = refl

pub serves-by_summary : (found : Option Host) (session : ScriptSession)
    → ((summary_of found).is_up && (summary_of found).incarnation == session.incarnation && (summary_of found).is_member)
    ≡ option_map_or (serves session) found false
serves-by_summary None session = refl
serves-by_summary (Some host) session = refl
