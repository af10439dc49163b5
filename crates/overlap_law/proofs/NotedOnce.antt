-- What is noted of a finished list is of an epoch that its node has left since, or in which its list is finished still. So a node finishes
-- no list of an epoch twice.
use Rattle.std.proofs.Common.{◌≡◌, ◌⊎◌, inl, inr, ⊎_elim, arith, ℕ, ◌<◌, ◌==◌, ◌&&◌, not, Bool, true, false, cond, List, [], ◌∷◌}
use Rattle.std.proofs.Common.{filter_map, Contains, Option, Some, None, refl, sym, ap, subst, ◌∙◌}
use Rattle.std.specs.List.{find, cons_option}
use Rattle.std.specs.FinMap as tree
use Rattle.std.proofs.lemmas.Bool.{and_parts, eqb-true}
use Rattle.std.proofs.lemmas.List.Elements.{Contains-append_cases}
use Rattle.std.proofs.lemmas.Option.{same_Some}
use Rattle.proof_tools.proofs.FiniteMaps.{get-entry}
use Rattle.proof_tools.proofs.Lists.{Contains-nil, Contains-cons, Contains-cons_cases, Contains-first, find-contains}
use Rattle.cluster_script.specs.declared.statement.Statement.{Statement}
use Rattle.recovery.specs.State.{Recovery, is_listed}
use Rattle.sheep_node.specs.declared.event.Event.{Event}
use Rattle.sheep_world.specs.Began.{Began, MakesMove}
use Rattle.sheep_world.specs.Step.{EventOutcome}
use Rattle.sheep_world.specs.World.{Host, World, host_at}
use Rattle.sheep_world.proofs.BegunWorlds.{goes_on}
use Rattle.sheep_world.proofs.NodesByTheLog.{knows_its_number}
use Rattle.sheep_world.specs.RunsWithAsks.{Move}
use Rattle.overlap_law.specs.Facts.{is_list_of}
use Rattle.overlap_law.specs.MomentChanges.{RunsAreInRange}
use Rattle.overlap_law.specs.Past.{MomentWithPast, FinishedList, first_moment, moment_after, next_moment, past_after_event, run_with_past}
use Rattle.overlap_law.specs.PastWords.{finishes, listed_in, listed_by}
use Rattle.overlap_law.proofs.ListsGoOn.{ListGoes, lists_go_along}
use Rattle.overlap_law.proofs.MomentTrails.{event_trail}
use Rattle.overlap_law.proofs.RunsByEvents.{run-kept_by_events}
use Rattle.overlap_law.proofs.GoingOn.{next_by}

-- ---- lists

-- what a list gives comes from one of it
from_one : (f : ℕ × Host → Option FinishedList) (entries : List (ℕ × Host)) (one : FinishedList) → Contains (filter_map f entries) one
    → (entry : ℕ × Host) × Contains entries entry × (f entry ≡ Some one)
from_one f [] one there = absurd (Contains-nil one there)
from_one f (entry ∷ entries) one there = by_first (f entry) refl there (λ later. from_one f entries one later)
  where
    by_later : (Contains (filter_map f entries) one → (e : ℕ × Host) × Contains entries e × (f e ≡ Some one))
        → Contains (filter_map f entries) one
        → (e : ℕ × Host) × Contains (entry ∷ entries) e × (f e ≡ Some one)
    by_later rest later = let (e, among, gives) = rest later in (e, Contains-cons entry entries e among, gives)

    by_first : (o : Option FinishedList) → f entry ≡ o → Contains (cons_option o (filter_map f entries)) one
        → (Contains (filter_map f entries) one → (e : ℕ × Host) × Contains entries e × (f e ≡ Some one))
        → (e : ℕ × Host) × Contains (entry ∷ entries) e × (f e ≡ Some one)
    by_first None gives there rest = by_later rest there
    by_first (Some first) gives there rest = ⊎_elim
        (λ (same : first ≡ one).
        (entry, Contains-first entry entry entries refl, gives ∙ ap (λ (l : FinishedList). Some l) same))
        (λ (later : Contains (filter_map f entries) one). by_later rest later)
        (Contains-cons_cases first (filter_map f entries) one there)

-- ---- at the end of each event

-- the list of an epoch that a recovery has left, or in which it is finished
abbrev IsBehind : ℕ → Recovery → Type 0
IsBehind epoch recovery = (epoch < recovery.epoch) ⊎ ((recovery.epoch ≡ epoch) × (is_listed recovery ≡ true))

record IsNoted (world : World) (one : FinishedList) : Type 0 where
  pub host : Host
  pub there : tree.get world.hosts one.node.0 ≡ Some host
  pub behind : IsBehind one.epoch host.node.recovery

abbrev AreNoted : MomentWithPast → Type 0
AreNoted moment = (one : FinishedList) → Contains moment.past.listed one → IsNoted moment.world one

behind_later : (epoch : ℕ) (old new : Recovery) → IsBehind epoch old → ListGoes old new → IsBehind epoch new
behind_later epoch old new (inl left) (inl rises) = inl (omega (arith, left, rises))
behind_later epoch old new (inl left) (inr same) = let is = same.0 in inl (omega (arith, left, is))
behind_later epoch old new (inr own) (inl rises) = let is = own.0 in inl (omega (arith, is, rises))
behind_later epoch old new (inr own) (inr same) = inr (same.0 ∙ own.0, (same.1 own.1).listed)

module _ (script : List Statement) (range : RunsAreInRange script) where
  opens : AreNoted (first_moment script)
  opens one there = absurd (Contains-nil one there)

  module _ (event : Event) (before : MomentWithPast) (made : EventOutcome) (began : Began script before.world)
      (is : MakesMove script event before.world made) (noted : AreNoted before) where
    abbrev after : MomentWithPast
    after = moment_after script event before made

    next : next_moment script is.move before ≡ Some (moment_after script event before made)
    next = next_by script event before made is

    -- it was noted before
    old_noted : (one : FinishedList) → IsNoted before.world one → IsNoted made.world one
    old_noted one was =
        let (now, there, goes) = lists_go_along script range before began (event_trail script is.move before after next) one.node.0 was.host
        was.there in
        record { host = now; there = there; behind = behind_later one.epoch was.host.node.recovery now.node.recovery was.behind goes }

    -- or is noted by the event
    new_noted : (one : FinishedList) → Contains (listed_by before.world made.world) one → IsNoted made.world one
    new_noted one among =
        let (entry, there, gives) = from_one (λ (e : ℕ × Host). listed_in (host_at e.0 before.world) e.1) (tree.entries made.world.hosts)
        one among in
        by_old entry there (host_at entry.0 before.world) gives
      where
        by_finishes : (entry : ℕ × Host) → Contains (tree.entries made.world.hosts) entry → (old : Host) → (b : Bool)
            → finishes old.node.recovery entry.1.node.recovery ≡ b
            → cond b (Some (record { node = entry.1.node.me; epoch = entry.1.node.recovery.epoch; own = tree.keys entry.1.node.peer.rows }))
            None
            ≡ Some one
            → IsNoted made.world one
        by_finishes entry there old true finished gives =
            let list : FinishedList
            = record { node = entry.1.node.me; epoch = entry.1.node.recovery.epoch; own = tree.keys entry.1.node.peer.rows } in
            let same : ◌≡◌ {A = FinishedList}
            (record { node = entry.1.node.me; epoch = entry.1.node.recovery.epoch; own = tree.keys entry.1.node.peer.rows }) one
            = same_Some list one gives in
            let at : tree.get made.world.hosts entry.0 ≡ Some entry.1 = get-entry made.world.hosts entry there in
            let number : entry.1.node.me.0 ≡ entry.0
            = knows_its_number script made.world (goes_on script event before.world made began is) entry.0 entry.1 at in
            record {
              host = entry.1;
              there = ap (λ (l : FinishedList). tree.get made.world.hosts l.node.0) (sym same) ∙ ap (tree.get made.world.hosts) number ∙ at;
              behind = inr (
                ap (λ (l : FinishedList). l.epoch) same,
                (and_parts (is_listed entry.1.node.recovery)
                    (not (is_listed old.node.recovery && old.node.recovery.epoch == entry.1.node.recovery.epoch)) finished).0,
              );
            }
        by_finishes entry there old false finished gives = absurd (cc (gives))

        by_old : (entry : ℕ × Host) → Contains (tree.entries made.world.hosts) entry → (o : Option Host) → listed_in o entry.1 ≡ Some one
            → IsNoted made.world one
        by_old entry there None gives = absurd (cc (gives))
        by_old entry there (Some old) gives = by_finishes entry there old (finishes old.node.recovery entry.1.node.recovery) refl gives

    keeps : AreNoted (moment_after script event before made)
    unfolding past_after_event
    keeps one there = ⊎_elim
        (λ (old : Contains before.past.listed one). old_noted one (noted one old))
        (λ (new : Contains (listed_by before.world made.world) one). new_noted one new)
        (Contains-append_cases before.past.listed (listed_by before.world made.world) one there)

  are_noted : (events : List Move) (moment : MomentWithPast) → run_with_past script events ≡ Some moment → AreNoted moment
  are_noted events moment is =
      run-kept_by_events script AreNoted opens (λ event before made began happened noted. keeps event before made began happened noted)
      events moment is

  -- no list is noted of an epoch that a recovery hasn't come to, or in which its list isn't finished
  pub none_noted : (events : List Move) (moment : MomentWithPast) → run_with_past script events ≡ Some moment → (n : ℕ) (host : Host)
      → tree.get moment.world.hosts n ≡ Some host → (epoch : ℕ)
      → (host.node.recovery.epoch < epoch) ⊎ ((epoch ≡ host.node.recovery.epoch) × (is_listed host.node.recovery ≡ false))
      → find (is_list_of n epoch) moment.past.listed ≡ None
  none_noted events moment is n host there epoch ahead = by_found (find (is_list_of n epoch) moment.past.listed) refl
    where
      by_found : (o : Option FinishedList) → find (is_list_of n epoch) moment.past.listed ≡ o → o ≡ None
      by_found None none = refl
      by_found (Some one) found =
          let (among, passes) = find-contains (is_list_of n epoch) moment.past.listed one found in
          let parts = and_parts (one.node.0 == n) (one.epoch == epoch) passes in
          let noted = are_noted events moment is one among in
          let same : noted.host ≡ host
          = same_Some noted.host host (sym noted.there ∙ ap (tree.get moment.world.hosts) (eqb-true one.node.0 n parts.0) ∙ there) in
          let epochs : one.epoch ≡ epoch = eqb-true one.epoch epoch parts.1 in
          absurd (apart epochs (subst (λ (h : Host). IsBehind one.epoch h.node.recovery) same noted.behind) ahead)
        where
          apart : one.epoch ≡ epoch → IsBehind one.epoch host.node.recovery
              → (host.node.recovery.epoch < epoch) ⊎ ((epoch ≡ host.node.recovery.epoch) × (is_listed host.node.recovery ≡ false)) → ⊥
          apart same (inl left) (inl later) = omega (arith, same, left, later)
          apart same (inl left) (inr own) = let is = own.0 in omega (arith, same, left, is)
          apart same (inr own) (inl later) = let is = own.0 in omega (arith, same, is, later)
          apart same (inr own) (inr unlisted) = let yes = own.1 in let no = unlisted.1 in cc (yes, no)
