-- What is good is available at each moment, and so of each epoch that counts the newest one has as many targets as a read needs, if no
-- attempt is of an epoch before its object's birth.
use Rattle.std.proofs.Common.{◌≡◌, ◌≢◌, ◌⊎◌, inl, inr, ⊎_elim, arith, ℕ, zero, suc, ◌+◌, ◌-◌, ◌≤◌, ◌<◌, ◌==◌, ◌&&◌, max, not, Bool, true}
use Rattle.std.proofs.Common.{false, cond, List, [], ◌∷◌, ◌++◌, length, filter, map, Option, Some, None, refl, sym, ap, subst, ◌∙◌}
use Rattle.std.proofs.Common.{slice_get}
use Rattle.std.specs.List.{find, list_all, range_with_len}
use Rattle.std.specs.Option.{option_map, option_map_or}
use Rattle.std.specs.FinMap as tree
use Rattle.std.proofs.lemmas.Bool.{and_parts, and_from, cases_eq, eqb-true, leb-true, not-true, or_cases, or_left, or_right, or_parts}
use Rattle.std.proofs.lemmas.List.Folds.{list_any-append}
use Rattle.std.proofs.lemmas.Option.{same_Some}
use Rattle.object_id.specs.declared.node.NodeId.{NodeId}
use Rattle.object_id.specs.declared.entry.Entry.{Entry}
use Rattle.object_id.specs.declared.policy.Policy.{Policy}
use Rattle.object_id.specs.Oid.{kind_of}
use Rattle.object_id.specs.Policy.{need_of}
use Rattle.epoch_log.specs.Members.{is_member}
use Rattle.epoch_log.specs.Epochs.{epoch_of, members_in, settled_of}
use Rattle.cluster_script.specs.declared.statement.Statement.{Statement}
use Rattle.vdi_directory.specs.Decisions.{log_effects}
use Rattle.peer_proto.specs.Work.{policy_of}
use Rattle.sheep_node.specs.declared.event.Event.{Event}
use Rattle.sheep_world.specs.World.{Host, World}
use Rattle.sheep_world.specs.Step.{EventOutcome}
use Rattle.sheep_world.specs.Incarnations.{EndedIncarnation, incarnation_in, is_incarnation_kept}
use Rattle.sheep_world.specs.RunsWithAsks.{Move}
use Rattle.overlap_law.specs.Attempts.{AttemptRecord, object_of, attempts_on}
use Rattle.overlap_law.specs.Holders.{targets_by, creates, first_create, is_kept_in, is_available_since, is_available, born_objects}
use Rattle.overlap_law.specs.Holders.{is_dead_by_log, lacks_holders, unavailable_in, is_object_among, is_live_object, is_good}
use Rattle.overlap_law.specs.Past.{MomentWithPast, run_with_past, past_after_event, moment_after, counts}
use Rattle.overlap_law.specs.Each.{EachAttempt, policy_in}
use Rattle.overlap_law.specs.Fates.{AttemptsAreShaped}
use Rattle.overlap_law.specs.NodeEpochs.{TheUpAreMembers}
use Rattle.overlap_law.specs.ShapedAttempts.{AreShaped}
use Rattle.overlap_law.specs.Rows.{common}
use Rattle.overlap_law.specs.HeldLevels.{NewestHasTargets, NoneIsBeforeBirth}
use Rattle.overlap_law.specs.MomentChanges.{MomentChange, MomentTrail, RunsAreInRange}
use Rattle.overlap_law.proofs.EventsOfChanges.{behind_change}
use Rattle.overlap_law.proofs.FinishedInMoments.{TermsHold, kept_terms}
use Rattle.overlap_law.proofs.OverlapLemmas.{filter-passed}
use Rattle.overlap_law.proofs.NoRecoveredDue.{began-with_past}
use Rattle.overlap_law.proofs.RunsByChanges.{on_the_way}
use Rattle.overlap_law.proofs.ShapedAttempts.{kept_shaped}

-- ---- lists

filter_more : (p q : NodeId → Bool) (nodes : List NodeId) → ((node : NodeId) → p node ≡ true → q node ≡ true)
    → length (filter p nodes) ≤ length (filter q nodes)
filter_more p q [] more = omega arith
filter_more p q (node ∷ nodes) more = by_tests (p node) (q node) refl refl (filter_more p q nodes more)
  where
    by_tests : (b c : Bool) → p node ≡ b → q node ≡ c → length (filter p nodes) ≤ length (filter q nodes)
        → length (cond b (node ∷ filter p nodes) (filter p nodes)) ≤ length (cond c (node ∷ filter q nodes) (filter q nodes))
    by_tests true true is so rest = omega (arith, rest)
    by_tests true false is so rest = let passes = more node is in absurd (cc (passes, so))
    by_tests false true is so rest = omega (arith, rest)
    by_tests false false is so rest = rest

-- an object among some that passes a test is among those that do
among_filter : (p : ℕ → Bool) (oids : List ℕ) (oid : ℕ) → is_object_among oid oids ≡ true → p oid ≡ true
    → is_object_among oid (filter p oids) ≡ true
among_filter p [] oid among passes = absurd (cc (among))
among_filter p (first ∷ oids) oid among passes =
    by_test (p first) refl (or_cases (first == oid) (is_object_among oid oids) among) (λ later. among_filter p oids oid later passes)
  where
    by_test : (b : Bool) → p first ≡ b → ((first == oid) ≡ true) ⊎ (is_object_among oid oids ≡ true)
        → (is_object_among oid oids ≡ true → is_object_among oid (filter p oids) ≡ true)
        → is_object_among oid (cond b (first ∷ filter p oids) (filter p oids)) ≡ true
    by_test true is (inl here) rest = or_left (first == oid) (is_object_among oid (filter p oids)) here
    by_test true is (inr later) rest = or_right (first == oid) (is_object_among oid (filter p oids)) (rest later)
    by_test false is (inl here) rest = let own : p first ≡ p oid = ap p (eqb-true first oid here) in absurd (cc (own, is, passes))
    by_test false is (inr later) rest = rest later

-- what holds of each number of a range
all_in_range : (p : ℕ → Bool) (start count k : ℕ) → list_all p (range_with_len start count) ≡ true → start ≤ k → k < start + count
    → p k ≡ true
all_in_range p start zero k all from below = absurd (omega (arith, from, below))
all_in_range p start (suc count) k all from below =
    let parts = and_parts (p start) (list_all p (range_with_len (start + 1) count)) all in
    ⊎_elim
    (λ (same : k ≡ start). ap p same ∙ parts.0)
    (λ (apart : k ≢ start). all_in_range p (start + 1) count k parts.1 (omega (arith, from, apart)) (omega (arith, below)))
    (cases_eq k start)

-- what is found stands there and passes
found_at : (p : AttemptRecord → Bool) (attempts : List AttemptRecord) (found : AttemptRecord) → find p attempts ≡ Some found
    → (k : ℕ) × (slice_get attempts k ≡ Some found)
found_at p [] found is = absurd (cc (is))
found_at p (attempt ∷ attempts) found is = by_test (p attempt) is (λ later. found_at p attempts found later)
  where
    by_test : (b : Bool) → cond b (Some attempt) (find p attempts) ≡ Some found
        → (find p attempts ≡ Some found → (k : ℕ) × (slice_get attempts k ≡ Some found))
        → (k : ℕ) × (slice_get (attempt ∷ attempts) k ≡ Some found)
    by_test true is others = (zero, is)
    by_test false is others = let (k, at) = others is in (suc k, at)

-- ---- births

-- an object that was born has a first create
pub first_there : (oid : ℕ) (attempts : List AttemptRecord) → is_object_among oid (born_objects attempts) ≡ true
    → (create : AttemptRecord) × (first_create oid attempts ≡ Some create)
first_there oid [] born = absurd (cc (born))
first_there oid (attempt ∷ attempts) born =
    by_tests (creates attempt) (object_of attempt == oid) refl refl born (λ later. first_there oid attempts later)
  where
    by_tests : (b c : Bool) → creates attempt ≡ b → (object_of attempt == oid) ≡ c
        → is_object_among oid (map object_of (cond b (attempt ∷ filter creates attempts) (filter creates attempts))) ≡ true
        → (is_object_among oid (born_objects attempts) ≡ true → (create : AttemptRecord) × (first_create oid attempts ≡ Some create))
        → (create : AttemptRecord) × (find creates (cond c (attempt ∷ attempts_on oid attempts) (attempts_on oid attempts)) ≡ Some create)
    by_tests true true creating own born rest =
        (attempt, ap (λ (b : Bool). cond b (Some attempt) (find creates (attempts_on oid attempts))) creating)
    by_tests true false creating other born rest = ⊎_elim
        (λ (here : (object_of attempt == oid) ≡ true). absurd (cc (here, other)))
        (λ (later : is_object_among oid (born_objects attempts) ≡ true). rest later)
        (or_cases (object_of attempt == oid) (is_object_among oid (born_objects attempts)) born)
    by_tests false true not_creating own born rest =
        let (create, is) = rest born in
        (create, ap (λ (b : Bool). cond b (Some attempt) (find creates (attempts_on oid attempts))) not_creating ∙ is)
    by_tests false false not_creating other born rest = rest born

-- it stands among the attempts, on the object
pub first_at : (oid : ℕ) (attempts : List AttemptRecord) (create : AttemptRecord) → first_create oid attempts ≡ Some create
    → (place : ℕ) × (slice_get attempts place ≡ Some create) × (object_of create ≡ oid)
first_at oid attempts create is =
    let (k, at) = found_at creates (attempts_on oid attempts) create is in
    let passed = filter-passed (λ (attempt : AttemptRecord). object_of attempt == oid) attempts k create at in
    (passed.place, passed.there, eqb-true (object_of create) oid passed.passed)

-- the object of an attempt was born, in no later epoch
pub record IsBornBy (attempts : List AttemptRecord) (attempt : AttemptRecord) : Type 0 where
  pub create : AttemptRecord
  pub first : first_create (object_of attempt) attempts ≡ Some create
  pub early : create.epoch ≤ attempt.epoch

-- ---- by what counts

module _ (log : List Entry) (attempts : List AttemptRecord) (counts_in : NodeId → ℕ → Bool) (good : ℕ → Bool)
    (counted : (node : NodeId) (epoch : ℕ) → counts_in node epoch ≡ true → is_member node.0 (members_in log (epoch_of log)) ≡ true)
    (shape : AttemptsAreShaped (targets_by log) log attempts)
    (births : EachAttempt attempts (λ j attempt. good (object_of attempt) ≡ true → IsBornBy attempts attempt))
    (available : (oid : ℕ) → good oid ≡ true → is_available counts_in log attempts oid ≡ true) where
  -- it is kept in each epoch since its birth that counts
  kept_since : (oid : ℕ) (create : AttemptRecord) → good oid ≡ true → first_create oid attempts ≡ Some create → (epoch : ℕ)
      → create.epoch ≤ epoch → settled_of log ≤ epoch → epoch ≤ epoch_of log
      → is_kept_in counts_in log oid (policy_of create.work) epoch ≡ true
  unfolding is_available
  kept_since oid create good_so is epoch from settled within =
      let since : is_available_since counts_in log oid (policy_of create.work) create.epoch ≡ true
      = ap (λ (o : Option AttemptRecord). option_map_or
      (λ (c : AttemptRecord). is_available_since counts_in log oid (policy_of c.work) c.epoch) o true) (sym is)
      ∙ available oid good_so in
      let least : max create.epoch (settled_of log) ≤ epoch = omega (arith, from, settled) in
      all_in_range (is_kept_in counts_in log oid (policy_of create.work)) (max create.epoch (settled_of log))
      (epoch_of log + 1 - max create.epoch (settled_of log)) epoch since least (omega (arith, least, within))

  pub available_has : NewestHasTargets (targets_by log) log (log_effects log) good attempts
  available_has = record {
    each = λ j attempt got policy epoch good_so policy_so settled from within.
        let oid : ℕ = object_of attempt in
        let b : IsBornBy attempts attempt = births j attempt got good_so in
        let (place, at, own) = first_at (object_of attempt) attempts b.create b.first in
        let birth = b.early in
        let same : policy_of b.create.work ≡ policy
        = same_Some (policy_of b.create.work) policy
        (sym (shape.policy place b.create at) ∙ ap (policy_in (log_effects log)) own ∙ policy_so) in
        subst (λ (p : Policy). need_of p (kind_of oid) ≤ common (targets_by log) log epoch (epoch_of log) oid p) same
        (enough oid (policy_of b.create.work) epoch
        (kept_since oid b.create good_so b.first epoch (omega (arith, birth, from)) settled within));
  }
    where
      enough : (oid : ℕ) (policy : Policy) (epoch : ℕ) → is_kept_in counts_in log oid policy epoch ≡ true
          → need_of policy (kind_of oid) ≤ common (targets_by log) log epoch (epoch_of log) oid policy
      enough oid policy epoch kept =
          let targets : List NodeId = targets_by log epoch oid policy in
          let counting : need_of policy (kind_of oid) ≤ length (filter (λ (node : NodeId). counts_in node epoch)
          (targets_by log epoch oid policy))
          = leb-true (need_of policy (kind_of oid)) (length (filter (λ (node : NodeId). counts_in node epoch) targets)) kept in
          let more : length (filter (λ (node : NodeId). counts_in node epoch) (targets_by log epoch oid policy))
          ≤ common (targets_by log) log epoch (epoch_of log) oid policy
          = filter_more (λ (node : NodeId). counts_in node epoch) (λ (node : NodeId). is_member node.0 (members_in log (epoch_of log)))
          targets (λ node is. counted node epoch is) in
          omega (arith, counting, more)

-- ---- what is good is available

module _ (log : List Entry) (attempts : List AttemptRecord) (counts_in : NodeId → ℕ → Bool) (before : List ℕ) where
  abbrev unavailable_now : List ℕ
  unavailable_now = before ++ filter (λ (oid : ℕ). not (is_object_among oid before)) (unavailable_in counts_in log attempts)

  good_available : (oid : ℕ) → is_good log attempts unavailable_now oid ≡ true → is_available counts_in log attempts oid ≡ true
  unfolding unavailable_in
  good_available oid is = by_test (is_available counts_in log attempts oid) refl
    where
      parts : (is_live_object log attempts oid ≡ true) × (not (is_object_among oid unavailable_now) ≡ true)
      parts = and_parts (is_live_object log attempts oid) (not (is_object_among oid unavailable_now)) is

      live : (is_object_among oid (born_objects attempts) ≡ true) × (not (is_dead_by_log log oid) ≡ true)
      live = and_parts (is_object_among oid (born_objects attempts)) (not (is_dead_by_log log oid)) parts.0

      none : (is_object_among oid before ≡ false)
          × (is_object_among oid (filter (λ (o : ℕ). not (is_object_among o before)) (unavailable_in counts_in log attempts)) ≡ false)
      none =
          or_parts (is_object_among oid before)
          (is_object_among oid (filter (λ (o : ℕ). not (is_object_among o before)) (unavailable_in counts_in log attempts)))
          (sym (list_any-append (λ (other : ℕ). other == oid) before
          (filter (λ (o : ℕ). not (is_object_among o before)) (unavailable_in counts_in log attempts)))
          ∙ not-true (is_object_among oid unavailable_now) parts.1)

      by_test : (b : Bool) → is_available counts_in log attempts oid ≡ b → b ≡ true
      by_test true available = refl
      by_test false lacking =
          let lacks : lacks_holders counts_in log attempts oid ≡ true
          = and_from (not (is_dead_by_log log oid)) (not (is_available counts_in log attempts oid)) live.1 (ap not lacking) in
          let among : is_object_among oid (filter (λ (o : ℕ). not (is_object_among o before)) (unavailable_in counts_in log attempts))
          ≡ true
          = among_filter (λ (o : ℕ). not (is_object_among o before)) (unavailable_in counts_in log attempts) oid
          (among_filter (lacks_holders counts_in log attempts) (born_objects attempts) oid live.0 lacks) (ap not none.0) in
          let no = none.1 in
          absurd (cc (among, no))

-- who counts is up, and so a member of the newest epoch
pub counted_member : (log : List Entry) (ended : List EndedIncarnation) (world : World) → TheUpAreMembers log world.hosts
    → (node : NodeId) (epoch : ℕ)
    → counts ended world node epoch ≡ true → is_member node.0 (members_in log (epoch_of log)) ≡ true
counted_member log ended world members node epoch is = by_host (tree.get world.hosts node.0) refl is
  where
    by_host : (o : Option Host) → tree.get world.hosts node.0 ≡ o
        → option_map_or (λ (host : Host). not host.is_lost
        && is_incarnation_kept node.0 epoch ended (incarnation_in world.log epoch node.0) host) o false ≡ true
        → is_member node.0 (members_in log (epoch_of log)) ≡ true
    by_host None at is = absurd (cc (is))
    by_host (Some host) at is =
        let parts = and_parts (not host.is_lost) (is_incarnation_kept node.0 epoch ended (incarnation_in world.log epoch node.0) host) is in
        members.each node.0 host at (not-true host.is_lost parts.0)

-- ---- at each moment after a change

abbrev pub IsAvailableNow : MomentWithPast → Type 0
IsAvailableNow moment = (oid : ℕ) → is_good moment.world.log moment.past.attempts moment.past.unavailable oid ≡ true
    → is_available (counts moment.past.ended moment.world) moment.world.log moment.past.attempts oid ≡ true

pub after_event : (script : List Statement) (event : Event) (start : MomentWithPast) (made : EventOutcome)
    → IsAvailableNow (moment_after script event start made)
unfolding past_after_event
after_event script event start made oid is =
    good_available made.world.log (moment_after script event start made).past.attempts
    (counts (moment_after script event start made).past.ended made.world) start.past.unavailable oid is

pub available_now : (script : List Statement) {start before after : MomentWithPast} → MomentChange script start before after
    → IsAvailableNow after
available_now script {start} change = behind_change script start IsAvailableNow (λ event made. after_event script event start made) change

module _ (script : List Statement) (range : RunsAreInRange script) (events : List Move) (start before after : MomentWithPast)
    (is : run_with_past script events ≡ Some start) (trail : MomentTrail script start before)
    (change : MomentChange script start before after) where
  abbrev good_now : ℕ → Bool
  good_now = is_good after.world.log after.past.attempts after.past.unavailable

  pub has-on_the_way : NoneIsBeforeBirth good_now after.past.attempts
      → NewestHasTargets (targets_by after.world.log) after.world.log (log_effects after.world.log) good_now after.past.attempts
  has-on_the_way births =
      let terms : TermsHold after
      = (kept_terms script range).keeps start before after (began-with_past script events start is) change
      (on_the_way script TermsHold (kept_terms script range) events start before is trail) in
      let shaped : AreShaped after
      = (kept_shaped script range).keeps start before after (began-with_past script events start is) change
      (on_the_way script AreShaped (kept_shaped script range) events start before is trail) in
      available_has after.world.log after.past.attempts (counts after.past.ended after.world) good_now
      (counted_member after.world.log after.past.ended after.world terms.stood.members) shaped.shape
      (λ j attempt got good.
      let oid : ℕ = object_of attempt in
      let (create, first) = first_there (object_of attempt) after.past.attempts
      (and_parts (is_object_among oid (born_objects after.past.attempts)) (not (is_dead_by_log after.world.log oid))
      (and_parts (is_live_object after.world.log after.past.attempts oid) (not (is_object_among oid after.past.unavailable)) good).0).0 in
      record {
        create = create;
        first = first;
        early = births.each j attempt got create.epoch good (ap (option_map (λ (c : AttemptRecord). c.epoch)) first);
      })
      (available_now script change)
