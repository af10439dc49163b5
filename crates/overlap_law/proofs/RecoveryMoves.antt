-- Over a change of a moment a recovery stays as it is; or it is of a node that isn't lost, had it so as the event began, and puts no
-- `Recovered` by the change. And what was noted of a node's finished list stays noted.
use Rattle.std.proofs.Common.{◌≡◌, ◌≢◌, ◌⊎◌, inl, inr, ⊎_elim, ℕ, true, false, List, [], ◌∷◌, ◌++◌, Option, Some, None, refl, sym, ap}
use Rattle.std.proofs.Common.{subst, ◌∙◌}
use Rattle.std.specs.List.{find, list_any}
use Rattle.std.specs.Option.{option_map_or, option_or}
use Rattle.std.specs.FinMap as tree
use Rattle.std.proofs.lemmas.Bool.{cases_eq, or_cases}
use Rattle.std.proofs.lemmas.List.Folds.{list_any-append}
use Rattle.std.proofs.lemmas.Option.{same_Some}
use Rattle.proof_tools.proofs.FiniteMaps.{get-insert_same, get-insert_other, insert-insert}
use Rattle.object_id.specs.declared.entry.Entry.{Entry}
use Rattle.cluster_script.specs.declared.statement.Statement.{Statement}
use Rattle.cluster_script.specs.declared.statement.Statement.TheVariants as lines
use Rattle.epoch_log.specs.Epochs.{recovers, has_recovered}
use Rattle.sheep_node.specs.State.{Node}
use Rattle.sheep_node.specs.StepState.{StepState, at_first}
use Rattle.sheep_node.specs.Step.{on_request, on_put}
use Rattle.sheep_node.specs.Changes as changes
use Rattle.sheep_node.specs.Changes.{input_received}
use Rattle.sheep_node.proofs.StepChain.{step_chain}
use Rattle.sheep_node.proofs.StepEffects.{Untouched, untouched_in}
use Rattle.sheep_world.specs.Began.{Began}
use Rattle.sheep_world.specs.EventKinds.{log_after_return}
use Rattle.sheep_world.specs.HostChanges.{joined_host, host_after_return}
use Rattle.sheep_world.specs.MembershipChanges.{join_of, last_weight, lost_host}
use Rattle.sheep_world.specs.NodeCauses.{NodeCause, GuestAsks, RequestComes, ReplyComes, LossIsTold, EntryIsRead, EntryIsPut, RecoveryTicks}
use Rattle.sheep_world.specs.NodeCauses.{WorkIsRetried, ClientAsks, input_of_cause, log_after_cause, host_with_node}
use Rattle.sheep_world.specs.Step.{EventOutcome}
use Rattle.sheep_world.specs.World.{Host, host_at}
use Rattle.sheep_world.proofs.ControlLaws.{next_fits}
use Rattle.overlap_law.specs.Facts.{is_list_of, own_at}
use Rattle.overlap_law.specs.Holders.{is_object_among}
use Rattle.overlap_law.specs.MomentChanges as moments
use Rattle.overlap_law.specs.MomentChanges.{MomentChange, RunsAreInRange}
use Rattle.overlap_law.specs.Past.{MomentWithPast, FinishedList}
use Rattle.overlap_law.specs.PastWords.{listed_by}
use Rattle.overlap_law.specs.Reached.{Hosts}
use Rattle.overlap_law.specs.StepMoments.{SteppingNode, IsStepping, StepsAtOnce, first_in_step, last_in_step, LeadsInStep, moment_in_step}
use Rattle.overlap_law.proofs.AnswersInMoments.{not_lost}
use Rattle.overlap_law.proofs.HostsInMoments.{none_there}
use Rattle.overlap_law.proofs.KnownSteps.{together}
use Rattle.overlap_law.proofs.ListsGoOn.{untouched}
use Rattle.overlap_law.proofs.LogsOfMoments.{log_by_changes}
use Rattle.overlap_law.proofs.NotedRows.{passed, listed_with, own_is, own_first, notes, notes_in_step}
use Rattle.overlap_law.proofs.ReadInMoments.{HostsAreSound}
use Rattle.overlap_law.proofs.SendsOfChanges.{in_order_so_far}

-- ---- a recovery

-- a recovery that isn't as it was
pub record HasMoved (start after : MomentWithPast) (n : ℕ) (was now : Host) : Type 0 where
  pub up : now.is_lost ≡ false
  pub at_start : tree.get start.world.hosts n ≡ Some was
  pub log_so : (epoch : ℕ) → has_recovered after.world.log epoch n ≡ true → has_recovered start.world.log epoch n ≡ true

abbrev pub Moves : MomentWithPast → MomentWithPast → ℕ → Host → Host → Type 0
Moves start after n was now = (now.node.recovery ≡ was.node.recovery) ⊎ HasMoved start after n was now

abbrev pub AllMove : MomentWithPast → MomentWithPast → MomentWithPast → Type 0
AllMove start before after = (n : ℕ) (was now : Host) → tree.get before.world.hosts n ≡ Some was → tree.get after.world.hosts n ≡ Some now
    → Moves start after n was now

same_moves : (start before after : MomentWithPast) → after.world.hosts ≡ before.world.hosts → AllMove start before after
same_moves start before after same n was now there at =
    let one : now ≡ was = same_Some now was (sym at ∙ ap (λ (hosts : Hosts). tree.get hosts n) same ∙ there) in
    inl (ap (λ (h : Host). h.node.recovery) one)

one_moves : (start before after : MomentWithPast) (k : ℕ) (new : Host) → after.world.hosts ≡ tree.insert before.world.hosts k new
    → ((was : Host) → tree.get before.world.hosts k ≡ Some was → Moves start after k was new) → AllMove start before after
one_moves start before after k new hosts moves n was now there at = ⊎_elim
    (λ (own : n ≡ k).
    let same : new ≡ now
    = same_Some new now (sym (get-insert_same before.world.hosts k new) ∙ ap (tree.get (tree.insert before.world.hosts k new)) (sym own)
    ∙ ap (λ (all : Hosts). tree.get all n) (sym hosts) ∙ at) in
    subst (λ (q : ℕ). Moves start after q was now) (sym own)
    (subst (Moves start after k was) same (moves was (ap (tree.get before.world.hosts) (sym own) ∙ there))))
    (λ (apart : n ≢ k).
    let one : now ≡ was
    = same_Some now was (sym at ∙ ap (λ (all : Hosts). tree.get all n) hosts ∙ get-insert_other before.world.hosts k new n apart ∙ there) in
    inl (ap (λ (h : Host). h.node.recovery) one))
    (cases_eq n k)

-- a step that is one change leaves the recovery, or the log
quiet : (node : Node) (cause : NodeCause) → StepsAtOnce cause
    → ((input_received (input_of_cause cause) (at_first node)).node.recovery ≡ node.recovery)
    ⊎ ((log : List Entry) → log_after_cause cause log ≡ log)
unfolding on_request
quiet node (GuestAsks session req ask) by = absurd by
quiet node (RequestComes name to request) by = inl refl
quiet node (ReplyComes name from rsp) by = absurd by
quiet node (LossIsTold name packet) by = absurd by
quiet node (EntryIsRead entry) by = absurd by
quiet node (EntryIsPut entry) by = inl (by_outbox node.outbox)
  where
    by_outbox : (outbox : List Entry) → (on_put outbox (at_first node)).node.recovery ≡ node.recovery
    by_outbox [] = refl
    by_outbox (first ∷ later) = refl
quiet node RecoveryTicks by = inr (λ log. refl)
quiet node WorkIsRetried by = absurd by
quiet node (ClientAsks req ask) by = absurd by

-- nobody has recovered by an entry that is none of that
not_by_join : (log : List Entry) (entry : Entry) (epoch n : ℕ) → recovers epoch n entry ≡ false
    → has_recovered (log ++ entry ∷ []) epoch n ≡ true
    → has_recovered log epoch n ≡ true
not_by_join log entry epoch n plain is = ⊎_elim
    (λ (old : list_any (recovers epoch n) log ≡ true). old)
    (λ (new : list_any (recovers epoch n) (entry ∷ []) ≡ true). ⊎_elim
    (λ (own : recovers epoch n entry ≡ true). absurd (cc (own, plain)))
    (λ (none : list_any (recovers epoch n) [] ≡ true). absurd (cc (none)))
    (or_cases (recovers epoch n entry) (list_any (recovers epoch n) []) new))
    (or_cases (list_any (recovers epoch n) log) (list_any (recovers epoch n) (entry ∷ []))
    (sym (list_any-append (recovers epoch n) log (entry ∷ [])) ∙ is))

module _ (script : List Statement) (range : RunsAreInRange script) (start : MomentWithPast) (began : Began script start.world) where
  module _ (stepping : SteppingNode) (is : IsStepping script start.world stepping) where
    abbrev at : StepState → MomentWithPast
    at so_far = moment_in_step script stepping start so_far

    moved : (so_far : StepState) → ((log : List Entry) → log_after_cause stepping.cause log ≡ log) → (was : Host)
        → tree.get start.world.hosts stepping.n ≡ Some was
        → Moves start (at so_far) stepping.n was (host_with_node stepping.host so_far.node)
    moved so_far log was there = inr (record {
      up = not_lost stepping.host is.up;
      at_start = there;
      log_so = λ epoch recovered. ap (λ (all : List Entry). has_recovered all epoch stepping.n) (sym (log start.world.log)) ∙ recovered;
    })

    kept : (so_far : StepState) → LeadsInStep stepping (first_in_step stepping) so_far
        → (first_in_step stepping).node.recovery ≡ stepping.host.node.recovery → (was : Host)
        → tree.get start.world.hosts stepping.n ≡ Some was
        → Moves start (at so_far) stepping.n was (host_with_node stepping.host so_far.node)
    kept so_far leads same was there =
        let one : stepping.host ≡ was = same_Some stepping.host was (sym is.there ∙ there) in
        inl (untouched script range start began stepping is so_far leads ∙ same ∙ ap (λ (h : Host). h.node.recovery) one)

  pub moves : {before after : MomentWithPast} → MomentChange script start before after → AllMove start before after
  moves (moments.StepBegins stepping is by) =
      one_moves start start (moment_in_step script stepping start (first_in_step stepping)) stepping.n
      (host_with_node stepping.host (first_in_step stepping).node) refl
      (moved stepping is (first_in_step stepping) (log_by_changes stepping.cause by))
  moves (moments.StepGoesOn stepping so_far next is by within) =
      let was = host_with_node stepping.host so_far.node in
      let now = host_with_node stepping.host next.node in
      one_moves start (moment_in_step script stepping start so_far) (moment_in_step script stepping start next) stepping.n now
      (sym (insert-insert start.world.hosts stepping.n was now))
      (λ old there.
      let same : host_with_node stepping.host so_far.node ≡ old
      = same_Some (host_with_node stepping.host so_far.node) old (sym (get-insert_same start.world.hosts stepping.n was) ∙ there) in
      inl (untouched script range start began stepping is next (changes.Then within.leads within.change)
      ∙ sym (untouched script range start began stepping is so_far within.leads) ∙ ap (λ (h : Host). h.node.recovery) same))
  moves (moments.StepIsMade stepping is by) =
      one_moves start start (moment_in_step script stepping start (last_in_step stepping)) stepping.n
      (host_with_node stepping.host (last_in_step stepping).node) refl
      (⊎_elim
      (λ (same : (first_in_step stepping).node.recovery ≡ stepping.host.node.recovery).
      kept stepping is (last_in_step stepping) (step_chain (input_of_cause stepping.cause) stepping.host.node) same)
      (λ (log : (log : List Entry) → log_after_cause stepping.cause log ≡ log). moved stepping is (last_in_step stepping) log)
      (quiet stepping.host.node stepping.cause by))
  moves {before} {after} (moments.LossIsUntold event made happened h) =
      same_moves start before after (ap (λ (m : EventOutcome). m.world.hosts) (sym h.made_so))
  moves {before} {after} (moments.DeliveryIsUnread event made happened h) =
      same_moves start before after (ap (λ (m : EventOutcome). m.world.hosts) (sym h.made_so))
  moves {before} {after} (moments.NodeIsLost event made happened h) =
      one_moves start before after h.n (lost_host h.host) (ap (λ (m : EventOutcome). m.world.hosts) (sym h.made_so))
      (λ was there. inl (ap (λ (host : Host). host.node.recovery) (same_Some h.host was (sym h.there ∙ there))))
  moves {before} {after} (moments.NodeLeaves event made happened h) =
      same_moves start before after (ap (λ (m : EventOutcome). m.world.hosts) (sym h.made_so))
  moves {before} {after} (moments.NodeIsReweighted event made happened h) =
      same_moves start before after (ap (λ (m : EventOutcome). m.world.hosts) (sym h.made_so))
  moves {before} {after} (moments.NodeJoins event made happened h) =
      one_moves start before after h.n (joined_host script h.n) (ap (λ (m : EventOutcome). m.world.hosts) (sym h.made_so))
      (λ was there.
      none_there (tree.get start.world.hosts h.n) was
      (next_fits script start.world (lines.Join h.n) h.control (together script range start.world began).fit).1 there)
  moves {before} {after} (moments.NodeComesBack event made happened h) =
      let now = host_after_return (log_after_return script h.n start.world) h.host in
      one_moves start before after h.n now (ap (λ (m : EventOutcome). m.world.hosts) (sym h.made_so))
      (λ was there. inr (record {
        up = refl;
        at_start = there;
        log_so = λ epoch recovered.
            not_by_join start.world.log (join_of script h.n (last_weight start.world.log h.n)) epoch h.n refl
            (ap (λ (m : EventOutcome). has_recovered m.world.log epoch h.n) h.made_so ∙ recovered);
      }))
  moves {before} {after} (moments.PhaseEnds event made happened h) =
      same_moves start before after (ap (λ (m : EventOutcome). m.world.hosts) (sym h.made_so))

  -- ---- what is noted

  abbrev pub StaysNoted : MomentWithPast → MomentWithPast → Type 0
  StaysNoted before after = (n : ℕ) (was now : Host) → tree.get before.world.hosts n ≡ Some was → tree.get after.world.hosts n ≡ Some now
      → (epoch oid : ℕ) → is_object_among oid (own_at before.past.listed n epoch) ≡ true
      → is_object_among oid (own_at after.past.listed n epoch) ≡ true

  from_start : (after : MomentWithPast) → after.past.listed ≡ start.past.listed ++ listed_by start.world after.world
      → StaysNoted start after
  from_start after noted n was now there at epoch oid among =
      ap (λ (all : List FinishedList). is_object_among oid (own_at all n epoch)) noted
      ∙ by_found (find (is_list_of n epoch) start.past.listed) refl
    where
      by_found : (o : Option FinishedList) → find (is_list_of n epoch) start.past.listed ≡ o
          → is_object_among oid (own_at (start.past.listed ++ listed_by start.world after.world) n epoch) ≡ true
      by_found None none =
          let nothing : is_object_among oid [] ≡ true
          = ap (λ (o : Option FinishedList). is_object_among oid (option_map_or (λ (list : FinishedList). list.own) o [])) (sym none)
          ∙ among in
          absurd (cc (nothing))
      by_found (Some one) found =
          ap (is_object_among oid) (own_first start.world after.world start.past.listed n epoch one found) ∙ among

  in_step : (stepping : SteppingNode) → IsStepping script start.world stepping → (so_far next : StepState)
      → LeadsInStep stepping (first_in_step stepping) so_far → LeadsInStep stepping (first_in_step stepping) next
      → HostsAreSound (moment_in_step script stepping start so_far) → HostsAreSound (moment_in_step script stepping start next)
      → StaysNoted (moment_in_step script stepping start so_far) (moment_in_step script stepping start next)
  in_step stepping is so_far next leads leads_next sound sound_next n was now there at epoch oid among =
      ap (is_object_among oid) (sym same_own) ∙ among
    where
      both : untouched_in so_far ≡ untouched_in next
      both =
          (in_order_so_far so_far leads).same ∙ sym (in_order_so_far next leads_next).same

      same_listed : listed_with (host_at n start.world) was.node.me was.node.recovery was.node.peer.rows
          ≡ listed_with (host_at n start.world) now.node.me now.node.recovery now.node.peer.rows
      same_listed = ⊎_elim
          (λ (own : n ≡ stepping.n).
          let old : host_with_node stepping.host so_far.node ≡ was
          = same_Some (host_with_node stepping.host so_far.node) was
          (sym (get-insert_same start.world.hosts stepping.n (host_with_node stepping.host so_far.node))
          ∙ ap (tree.get (moment_in_step script stepping start so_far).world.hosts) (sym own) ∙ there) in
          let new : host_with_node stepping.host next.node ≡ now
          = same_Some (host_with_node stepping.host next.node) now
          (sym (get-insert_same start.world.hosts stepping.n (host_with_node stepping.host next.node))
          ∙ ap (tree.get (moment_in_step script stepping start next).world.hosts) (sym own) ∙ at) in
          ap (λ (h : Host). listed_with (host_at n start.world) h.node.me h.node.recovery h.node.peer.rows) (sym old)
          ∙ ap (λ (u : Untouched). listed_with (host_at n start.world) u.me u.recovery u.peer.rows) both
          ∙ ap (λ (h : Host). listed_with (host_at n start.world) h.node.me h.node.recovery h.node.peer.rows) new)
          (λ (apart : n ≢ stepping.n).
          let one : was ≡ now
          = same_Some was now (sym there ∙ get-insert_other start.world.hosts stepping.n (host_with_node stepping.host so_far.node) n apart
          ∙ sym (get-insert_other start.world.hosts stepping.n (host_with_node stepping.host next.node) n apart) ∙ at) in
          ap (λ (h : Host). listed_with (host_at n start.world) h.node.me h.node.recovery h.node.peer.rows) one)
          (cases_eq n stepping.n)

      same_own : own_at (moment_in_step script stepping start so_far).past.listed n epoch
          ≡ own_at (moment_in_step script stepping start next).past.listed n epoch
      same_own =
          ap (λ (all : List FinishedList). own_at all n epoch) (notes_in_step script start stepping so_far)
          ∙ own_is start.world (moment_in_step script stepping start so_far).world (λ q host got. (sound.each q host got).read.own) n epoch
          was there start.past.listed
          ∙ ap (λ (o : Option FinishedList). option_map_or (λ (list : FinishedList). list.own)
          (option_or (find (is_list_of n epoch) start.past.listed) (passed (is_list_of n epoch) o)) []) same_listed
          ∙ sym (own_is start.world (moment_in_step script stepping start next).world (λ q host got. (sound_next.each q host got).read.own)
          n epoch now at start.past.listed)
          ∙ sym (ap (λ (all : List FinishedList). own_at all n epoch) (notes_in_step script start stepping next))

  pub stays_noted : {before after : MomentWithPast} → HostsAreSound before → HostsAreSound after → MomentChange script start before after
      → StaysNoted before after
  stays_noted {before} {after} sound sound_after (moments.StepBegins stepping is by) =
      from_start after (notes script (moments.StepBegins stepping is by))
  stays_noted {before} {after} sound sound_after (moments.StepGoesOn stepping so_far next is by within) =
      in_step stepping is so_far next within.leads (changes.Then within.leads within.change) sound sound_after
  stays_noted {before} {after} sound sound_after (moments.StepIsMade stepping is by) =
      from_start after (notes script (moments.StepIsMade stepping is by))
  stays_noted {before} {after} sound sound_after (moments.LossIsUntold event made happened h) =
      from_start after (notes script (moments.LossIsUntold event made happened h))
  stays_noted {before} {after} sound sound_after (moments.DeliveryIsUnread event made happened h) =
      from_start after (notes script (moments.DeliveryIsUnread event made happened h))
  stays_noted {before} {after} sound sound_after (moments.NodeIsLost event made happened h) =
      from_start after (notes script (moments.NodeIsLost event made happened h))
  stays_noted {before} {after} sound sound_after (moments.NodeLeaves event made happened h) =
      from_start after (notes script (moments.NodeLeaves event made happened h))
  stays_noted {before} {after} sound sound_after (moments.NodeIsReweighted event made happened h) =
      from_start after (notes script (moments.NodeIsReweighted event made happened h))
  stays_noted {before} {after} sound sound_after (moments.NodeJoins event made happened h) =
      from_start after (notes script (moments.NodeJoins event made happened h))
  stays_noted {before} {after} sound sound_after (moments.NodeComesBack event made happened h) =
      from_start after (notes script (moments.NodeComesBack event made happened h))
  stays_noted {before} {after} sound sound_after (moments.PhaseEnds event made happened h) =
      from_start after (notes script (moments.PhaseEnds event made happened h))
