-- What is noted of a node's list of an epoch, at a moment on the way of an event: what was noted before the event; or what the node has
-- then, where its list is finished since.
use Rattle.std.proofs.Common.{◌≡◌, ◌≢◌, ◌⊎◌, inl, inr, ⊎_elim, ℕ, ◌==◌, ◌&&◌, Bool, true, false, cond, List, [], ◌∷◌, ◌++◌, filter_map}
use Rattle.std.proofs.Common.{Contains, Option, Some, None, refl, sym, ap, ◌∙◌}
use Rattle.std.specs.List.{find, cons_option}
use Rattle.std.specs.Option.{option_map_or, option_or}
use Rattle.std.specs.FinMap as tree
use Rattle.std.proofs.lemmas.Bool.{cases_eq, ne_eqb}
use Rattle.std.proofs.lemmas.List.Folds.{find-append}
use Rattle.std.proofs.lemmas.Option.{same_Some}
use Rattle.proof_tools.proofs.FiniteMaps.{get-entry, entries-contain}
use Rattle.proof_tools.proofs.Lists.{Contains-nil, Contains-cons, Contains-cons_cases, Contains-first}
use Rattle.object_id.specs.declared.node.NodeId.{NodeId}
use Rattle.object_store.specs.Store.{AllRows}
use Rattle.cluster_script.specs.declared.statement.Statement.{Statement}
use Rattle.recovery.specs.State.{Recovery}
use Rattle.sheep_node.specs.declared.event.Event.{Event}
use Rattle.sheep_node.specs.StepState.{StepState}
use Rattle.sheep_world.specs.Step.{EventOutcome}
use Rattle.sheep_world.specs.NodeCauses.{event_of_cause}
use Rattle.sheep_world.specs.World.{Host, World, host_at}
use Rattle.overlap_law.specs.Facts.{is_list_of, own_at}
use Rattle.overlap_law.specs.MomentChanges.{MomentChange}
use Rattle.overlap_law.specs.Past.{MomentWithPast, FinishedList, moment_after, past_after_event}
use Rattle.overlap_law.specs.PastWords.{finishes, listed_in, listed_by}
use Rattle.overlap_law.specs.StepMoments.{SteppingNode, outcome_in_step, moment_in_step}
use Rattle.overlap_law.proofs.EventsOfChanges.{behind_change}

-- what passes a test
abbrev pub passed : (FinishedList → Bool) → Option FinishedList → Option FinishedList
passed p None = None
passed p (Some one) = cond (p one) (Some one) None

-- ---- lists

find_none : (f : ℕ × Host → Option FinishedList) (p : FinishedList → Bool) (entries : List (ℕ × Host))
    → ((e : ℕ × Host) → Contains entries e → passed p (f e) ≡ None) → find p (filter_map f entries) ≡ None
find_none f p [] none = refl
find_none f p (e ∷ entries) none =
    by_first (f e) (none e (Contains-first e e entries refl))
    (find_none f p entries (λ other among. none other (Contains-cons e entries other among)))
  where
    by_test : (one : FinishedList) (b : Bool) → cond b (Some one) None ≡ None → find p (filter_map f entries) ≡ None
        → cond b (Some one) (find p (filter_map f entries)) ≡ None
    by_test one true is rest = absurd (cc (is))
    by_test one false is rest = rest

    by_first : (o : Option FinishedList) → passed p o ≡ None → find p (filter_map f entries) ≡ None
        → find p (cons_option o (filter_map f entries)) ≡ None
    by_first None is rest = rest
    by_first (Some one) is rest = by_test one (p one) is rest

find_some : (f : ℕ × Host → Option FinishedList) (p : FinishedList → Bool) (one : FinishedList) (own : ℕ × Host) (entries : List (ℕ × Host))
    → p one ≡ true → ((e : ℕ × Host) → Contains entries e → (passed p (f e) ≡ None) ⊎ (f e ≡ Some one)) → Contains entries own
    → f own ≡ Some one → find p (filter_map f entries) ≡ Some one
find_some f p one own [] passes each there is = absurd (Contains-nil own there)
find_some f p one own (e ∷ entries) passes each there is =
    by_first (f e) refl (each e (Contains-first e e entries refl)) (Contains-cons_cases e entries own there)
    (λ later. find_some f p one own entries passes (λ other among. each other (Contains-cons e entries other among)) later is)
  where
    found : find p (one ∷ filter_map f entries) ≡ Some one
    found = ap (λ (b : Bool). cond b (Some one) (find p (filter_map f entries))) passes

    by_own : (o : Option FinishedList) → f e ≡ o → (e ≡ own) ⊎ Contains entries own
        → (Contains entries own → find p (filter_map f entries) ≡ Some one) → passed p o ≡ None
        → find p (cons_option o (filter_map f entries)) ≡ Some one
    by_own o gives (inl same) rest none =
        let is_one : o ≡ Some one = sym gives ∙ ap f same ∙ is in
        let no : passed p (Some one) ≡ None = ap (passed p) (sym is_one) ∙ none in
        let yes : passed p (Some one) ≡ Some one = ap (λ (b : Bool). cond b (Some one) None) passes in
        absurd (cc (no, yes))
    by_own None gives (inr later) rest none = rest later
    by_own (Some other) gives (inr later) rest none = by_test (p other) none (rest later)
      where
        by_test : (b : Bool) → cond b (Some other) None ≡ None → find p (filter_map f entries) ≡ Some one
            → cond b (Some other) (find p (filter_map f entries)) ≡ Some one
        by_test true fails found_later = absurd (cc (fails))
        by_test false fails found_later = found_later

    by_first : (o : Option FinishedList) → f e ≡ o → (passed p (f e) ≡ None) ⊎ (f e ≡ Some one) → (e ≡ own) ⊎ Contains entries own
        → (Contains entries own → find p (filter_map f entries) ≡ Some one)
        → find p (cons_option o (filter_map f entries)) ≡ Some one
    by_first o gives (inl none) either rest = by_own o gives either rest (ap (passed p) (sym gives) ∙ none)
    by_first o gives (inr is_one) either rest =
        ap (λ (other : Option FinishedList). find p (cons_option other (filter_map f entries))) (sym gives ∙ is_one) ∙ found

-- ---- at a moment

-- what is noted of a node that is so
abbrev pub listed_with : Option Host → NodeId → Recovery → AllRows → Option FinishedList
listed_with None me recovery rows = None
listed_with (Some old) me recovery rows =
    cond (finishes old.node.recovery recovery) (Some (record { node = me; epoch = recovery.epoch; own = tree.keys rows })) None

pub same_listed : (o : Option Host) (host : Host)
    → listed_in o host ≡ listed_with o host.node.me host.node.recovery host.node.peer.rows
same_listed None host = refl
same_listed (Some old) host = refl

module _ (start world : World) (numbered : (n : ℕ) (host : Host) → tree.get world.hosts n ≡ Some host → host.node.me.0 ≡ n) (n epoch : ℕ)
    (now : Host) (there : tree.get world.hosts n ≡ Some now) where
  abbrev noted : ℕ × Host → Option FinishedList
  noted entry = listed_in (host_at entry.0 start) entry.1

  abbrev is_its : FinishedList → Bool
  is_its list = is_list_of n epoch list

  others : (e : ℕ × Host) → tree.get world.hosts e.0 ≡ Some e.1 → e.0 ≢ n → passed is_its (noted e) ≡ None
  others e at apart = by_old (host_at e.0 start)
    where
      not_its : (e.1.node.me.0 == n) ≡ false
      not_its = ne_eqb e.1.node.me.0 n (λ same. apart (sym (numbered e.0 e.1 at) ∙ same))

      by_test : (b : Bool)
          → passed is_its (cond b (Some (record {
            node = e.1.node.me;
            epoch = e.1.node.recovery.epoch;
            own = tree.keys e.1.node.peer.rows;
          })) None) ≡ None
      by_test true = ap (λ (b : Bool). cond (b && e.1.node.recovery.epoch == epoch)
          (Some (record { node = e.1.node.me; epoch = e.1.node.recovery.epoch; own = tree.keys e.1.node.peer.rows })) None) not_its
      by_test false = refl

      by_old : (o : Option Host) → passed is_its (listed_in o e.1) ≡ None
      by_old None = refl
      by_old (Some old) = by_test (finishes old.node.recovery e.1.node.recovery)

  each : (e : ℕ × Host) → Contains (tree.entries world.hosts) e → (passed is_its (noted e) ≡ None) ⊎ (noted e ≡ noted (n, now))
  each e among =
      let at : tree.get world.hosts e.0 ≡ Some e.1 = get-entry world.hosts e among in
      ⊎_elim
      (λ (own : e.0 ≡ n).
      let same : e.1 ≡ now = same_Some e.1 now (sym at ∙ ap (tree.get world.hosts) own ∙ there) in
      inr (λ i. listed_in (host_at (own i) start) (same i)))
      (λ (apart : e.0 ≢ n). inl (others e at apart))
      (cases_eq e.0 n)

  found_new : find is_its (listed_by start world) ≡ passed is_its (noted (n, now))
  found_new = by_own (noted (n, now)) refl
    where
      by_test : (one : FinishedList) → noted (n, now) ≡ Some one → (b : Bool) → is_its one ≡ b
          → find is_its (filter_map noted (tree.entries world.hosts)) ≡ cond b (Some one) None
      by_test one gives true passes =
          find_some noted is_its one (n, now) (tree.entries world.hosts) passes
          (λ e among. ⊎_elim
          (λ (none : passed is_its (noted e) ≡ None). inl none)
          (λ (same : noted e ≡ noted (n, now)). inr (same ∙ gives))
          (each e among))
          (entries-contain tree.nat_cmp-IsAntisymmetric world.hosts n now there) gives
      by_test one gives false fails =
          find_none noted is_its (tree.entries world.hosts)
          (λ e among. ⊎_elim
          (λ (none : passed is_its (noted e) ≡ None). none)
          (λ (same : noted e ≡ noted (n, now)).
          ap (passed is_its) (same ∙ gives) ∙ ap (λ (b : Bool). cond b (Some one) None) fails)
          (each e among))

      by_own : (o : Option FinishedList) → noted (n, now) ≡ o → find is_its (filter_map noted (tree.entries world.hosts)) ≡ passed is_its o
      by_own None gives =
          find_none noted is_its (tree.entries world.hosts)
          (λ e among. ⊎_elim
          (λ (none : passed is_its (noted e) ≡ None). none)
          (λ (same : noted e ≡ noted (n, now)). ap (passed is_its) (same ∙ gives))
          (each e among))
      by_own (Some one) gives = by_test one gives (is_its one) refl

  -- what is noted of the node's list of the epoch
  pub own_is : (listed : List FinishedList) → own_at (listed ++ listed_by start world) n epoch
      ≡ option_map_or (λ (list : FinishedList). list.own)
      (option_or (find (is_list_of n epoch) listed)
      (passed (is_list_of n epoch) (listed_with (host_at n start) now.node.me now.node.recovery now.node.peer.rows))) []
  own_is listed =
      ap (λ (o : Option FinishedList). option_map_or (λ (list : FinishedList). list.own) o [])
      (find-append (is_list_of n epoch) listed (listed_by start world)
      ∙ ap (option_or (find (is_list_of n epoch) listed))
      (found_new ∙ ap (passed (is_list_of n epoch)) (same_listed (host_at n start) now)))

-- what was noted before an event is noted first
pub own_first : (start world : World) (listed : List FinishedList) (n epoch : ℕ) (one : FinishedList)
    → find (is_list_of n epoch) listed ≡ Some one
    → own_at (listed ++ listed_by start world) n epoch ≡ own_at listed n epoch
own_first start world listed n epoch one found =
    ap (λ (o : Option FinishedList). option_map_or (λ (list : FinishedList). list.own) o [])
    (find-append (is_list_of n epoch) listed (listed_by start world)
    ∙ ap (λ (o : Option FinishedList). option_or o (find (is_list_of n epoch) (listed_by start world))) found ∙ sym found)

-- ---- what each moment on the way of an event notes

after_notes : (script : List Statement) (event : Event) (start : MomentWithPast) (made : EventOutcome)
    → (moment_after script event start made).past.listed ≡ start.past.listed ++ listed_by start.world made.world
unfolding past_after_event
after_notes script event start made = refl

pub notes : (script : List Statement) {start before after : MomentWithPast} → MomentChange script start before after
    → after.past.listed ≡ start.past.listed ++ listed_by start.world after.world
notes script {start} change =
    behind_change script start
    (λ (moment : MomentWithPast). moment.past.listed ≡ start.past.listed ++ listed_by start.world moment.world)
    (λ event made. after_notes script event start made) change

pub notes_in_step : (script : List Statement) (start : MomentWithPast) (stepping : SteppingNode) (so_far : StepState)
    → (moment_in_step script stepping start so_far).past.listed
    ≡ start.past.listed ++ listed_by start.world (moment_in_step script stepping start so_far).world
notes_in_step script start stepping so_far =
    after_notes script (event_of_cause stepping.n stepping.cause) start (outcome_in_step script stepping start.world so_far)
