-- A client's read leaves the past of a run as it is: it begins no attempt, refuses no request of the script, finishes no list, makes no
-- object less available, and adds nothing to the history.
use Rattle.std.proofs.Common.{◌≡◌, ◌≢◌, ◌⊎◌, inl, inr, ⊎_elim, ℕ, ◌==◌, Bool, true, false, not, ◌&&◌, cond, List, [], ◌∷◌, ◌++◌, append-nil}
use Rattle.std.proofs.Common.{map}
use Rattle.std.proofs.Common.{filter, Contains, Option, Some, None, is_some, option_map, option_and_then, refl, sym, ap, ◌∙◌}
use Rattle.std.specs.FinMap as tree
use Rattle.std.specs.List.{cons_option, filter_map}
use Rattle.std.specs.Option.{option_map_or}
use Rattle.std.proofs.lemmas.Bool.{cases_eq, eq-eqb}
use Rattle.std.proofs.lemmas.Option.{same_Some}
use Rattle.proof_tools.proofs.FiniteMaps.{get-entry}
use Rattle.proof_tools.proofs.Lists.{Contains-head, Contains-cons, Contains-filter, list_any-none}
use Rattle.object_id.specs.declared.entry.Entry.{Entry}
use Rattle.object_id.specs.declared.node.NodeId.{NodeId}
use Rattle.cluster_script.specs.declared.statement.Statement.{Statement}
use Rattle.cluster_script.specs.NumberedRequests.{session_of}
use Rattle.disk_history.specs.declared.event.HistEvent.{HistEvent}
use Rattle.peer_proto.specs.declared.guest.GuestRsp.{GuestRsp}
use Rattle.recovery.specs.State.{Recovery, is_listed}
use Rattle.sheep_node.specs.declared.ask.Ask.{Ask}
use Rattle.sheep_node.specs.declared.event.Event.{Event}
use Rattle.sheep_node.specs.declared.event.Event.TheVariants as events
use Rattle.sheep_node.specs.declared.input.Input.TheVariants as inputs
use Rattle.sheep_node.specs.OneWork.{NumbersAreBelow}
use Rattle.sheep_node.specs.Step.{node_step}
use Rattle.sheep_world.specs.Asking.{session_asking}
use Rattle.sheep_world.specs.Began.{Began}
use Rattle.sheep_world.specs.ClientAsks.{is_read_ask, may_be_asked, may_client_ask, next_ask_number}
use Rattle.sheep_world.specs.ClientSteps.{ask_effect}
use Rattle.sheep_world.specs.HistoryAdditions.{replies_grown}
use Rattle.sheep_world.specs.Incarnations.{incarnation_in, incarnations_after, is_incarnation_kept}
use Rattle.sheep_world.specs.NodeCauses.{ClientMayRead}
use Rattle.sheep_world.specs.RunsWithAsks.{Move, Asks, may_read_object}
use Rattle.sheep_world.specs.Step.{EventOutcome, with_replies}
use Rattle.sheep_world.specs.World.{Host, World, host_at}
use Rattle.sheep_world.proofs.AskReplies.{AreToIt, guest-replies, read-adds_nothing}
use Rattle.sheep_world.proofs.ClientReads.{may_read, read_made}
use Rattle.sheep_world.proofs.ReadMoves.{read_is_made}
use Rattle.overlap_law.specs.Attempts.{AttemptRecord}
use Rattle.overlap_law.specs.BegunAttempts.{attempts_after, attempts_begun}
use Rattle.overlap_law.specs.Holders.{is_object_among, unavailable_in}
use Rattle.overlap_law.specs.MomentChanges.{RunsAreInRange}
use Rattle.overlap_law.specs.Past.{Past, MomentWithPast, moment_after, next_moment, first_moment, run_with_past, past_after_event}
use Rattle.overlap_law.specs.PastWords.{FinishedList, counts, finishes, is_counted, is_refusal, listed_by, listed_in, refused_in}
use Rattle.overlap_law.specs.PastWords.{refuses_request}
use Rattle.overlap_law.specs.PastWords.{unavailable_at}
use Rattle.overlap_law.proofs.AskedReads.{StepsOnAsk, read_behind, host_then, read-begins_none, ask-hosts, ask-leaves_others}
use Rattle.overlap_law.proofs.AskedReads.{ask-leaves_log}
use Rattle.overlap_law.proofs.KnownSteps.{together}
use Rattle.overlap_law.proofs.NoRecoveredDue.{began-with_past}
use Rattle.overlap_law.proofs.RefusedInMoments.{among_of}
use Rattle.overlap_law.proofs.RunsByEvents.{run-kept_by_events}
use Rattle.overlap_law.proofs.RunsWithOneMore.{run_with_next}

-- ---- lists

-- what passes no test of a list is left out of it
pub none_passes : (p : ℕ → Bool) (xs : List ℕ) → ((x : ℕ) → Contains xs x → p x ≡ false) → filter p xs ≡ []
none_passes p [] none = refl
none_passes p (x ∷ xs) none =
    ap (λ (b : Bool). cond b (x ∷ filter p xs) (filter p xs)) (none x (Contains-head x xs))
    ∙ none_passes p xs (λ y there. none y (Contains-cons x xs y there))

none_given : {X Y : Type 0} (f : X → Option Y) (xs : List X) → ((x : X) → Contains xs x → f x ≡ None) → filter_map f xs ≡ []
none_given f [] none = refl
none_given f (x ∷ xs) none =
    let here : f x ≡ None = none x (Contains-head x xs) in
    let later = none_given f xs (λ y there. none y (Contains-cons x xs y there)) in
    λ i. cons_option (here i) (later i)

-- an object of a list is among it
pub among_itself : (oid : ℕ) (oids : List ℕ) → Contains oids oid → is_object_among oid oids ≡ true
among_itself oid oids there = by_test (is_object_among oid oids) refl
  where
    by_test : (b : Bool) → is_object_among oid oids ≡ b → is_object_among oid oids ≡ true
    by_test true is = is
    by_test false none =
        let off : (oid == oid) ≡ false = list_any-none (λ (other : ℕ). other == oid) oids oid none there in
        let same : (oid == oid) ≡ true = eq-eqb oid oid refl in
        absurd (cc (off, same))

-- ---- what isn't available at the end of an event is noted

abbrev IsNoted : MomentWithPast → Type 0
IsNoted moment = unavailable_at moment.past.ended moment.world moment.past.attempts moment.past.unavailable ≡ []

module _ (before xs : List ℕ) where
  abbrev new : List ℕ
  new = filter (λ (oid : ℕ). not (is_object_among oid before)) xs

  noted_now : filter (λ (oid : ℕ). not (is_object_among oid (before ++ new))) xs ≡ []
  noted_now =
      none_passes (λ (oid : ℕ). not (is_object_among oid (before ++ new))) xs
      (λ oid there. ap not (by_test oid there (is_object_among oid before) refl))
    where
      by_test : (oid : ℕ) → Contains xs oid → (b : Bool) → is_object_among oid before ≡ b → is_object_among oid (before ++ new) ≡ true
      by_test oid there true is = among_of oid before new (inl is)
      by_test oid there false none =
          among_of oid before new (inr (among_itself oid new
          (Contains-filter (λ (oid : ℕ). not (is_object_among oid before)) xs oid there (ap not none))))

noted_then : (script : List Statement) (event : Event) (before : MomentWithPast) (made : EventOutcome)
    → IsNoted (moment_after script event before made)
unfolding past_after_event
noted_then script event before made =
    let ended = incarnations_after before.world before.past.ended event in
    noted_now before.past.unavailable
    (unavailable_in (counts ended made.world) made.world.log
    (attempts_after script event before.world made.world before.past.attempts))

noted_first : (script : List Statement) → IsNoted (first_moment script)
unfolding unavailable_in
noted_first script = refl

noted-in_run : (script : List Statement) (moves : List Move) (moment : MomentWithPast) → run_with_past script moves ≡ Some moment
    → IsNoted moment
noted-in_run script moves moment is =
    run-kept_by_events script IsNoted (noted_first script) (λ event before made began goes noted. noted_then script event before made) moves
    moment is

-- ---- lists that are finished

unfinished : (old new : Recovery) → new ≡ old → finishes old new ≡ false
unfinished old new same =
    ap (finishes old) same
    ∙ ap (λ (b : Bool). is_listed old && not (is_listed old && b)) (eq-eqb old.epoch old.epoch refl)
    ∙ either (is_listed old)
  where
    either : (b : Bool) → (b && not (b && true)) ≡ false
    either true = refl
    either false = refl

none_finished : (old new : Host) → new.node.recovery ≡ old.node.recovery → listed_in (Some old) new ≡ None
none_finished old new same =
    ap (λ (b : Bool).
    cond b (Some (record { node = new.node.me; epoch = new.node.recovery.epoch; own = tree.keys new.node.peer.rows })) None)
    (unfinished old.node.recovery new.node.recovery same)

-- ---- a client's read

module _ (script : List Statement) (node : NodeId) (ask : Ask) (before : MomentWithPast) (host : Host)
    (there : host_at node.0 before.world ≡ Some host)
    (caused : ClientMayRead script before.world host (next_ask_number before.world) ask)
    (given : NumbersAreBelow host.node.sends host.node.gateway.works) (noted : IsNoted before) where
  abbrev req : ℕ
  req = next_ask_number before.world

  abbrev then : World
  then = ask_effect node.0 ask before.world

  abbrev made : EventOutcome
  made = with_replies script before.world then

  -- its replies are to it, which the script has no request of
  none_refused : (told : List (ℕ × GuestRsp)) → AreToIt 0 req told → refused_in script told ≡ []
  none_refused [] are = refl
  none_refused (reply ∷ later) are =
      ap (λ (b : Bool). map (λ (answer : ℕ × GuestRsp). answer.0)
      (cond b (reply ∷ filter (refuses_request script) later) (filter (refuses_request script) later))) passes
      ∙ none_refused later are.1
    where
      none : session_asking script reply.0 ≡ None
      none = ap (session_asking script) are.0 ∙ ap (option_and_then session_of) caused.none

      either : (b : Bool) → (b && false) ≡ false
      either true = refl
      either false = refl

      passes : refuses_request script reply ≡ false
      passes = ap (λ (o : Option ℕ). is_refusal reply.1 && is_some o) none ∙ either (is_refusal reply.1)

  replies_so : then.outputs.replies ≡ (node_step (inputs.Guest req 0 ask) host.node).outputs.replies
  replies_so = ap (λ (world : World). world.outputs.replies) (read_made script node.0 host ask before.world there caused.none)

  refused_none : refused_in script then.outputs.replies ≡ []
  refused_none =
      ap (refused_in script) replies_so
      ∙ none_refused (node_step (inputs.Guest req 0 ask) host.node).outputs.replies (guest-replies 0 req ask host.node)

  grown_none : made.grown ≡ []
  grown_none =
      ap (replies_grown script before.world None) (read_made script node.0 host ask before.world there caused.none)
      ∙ read-adds_nothing script before.world host ask caused.none

  begun_none : attempts_begun node.0 before.world then ≡ []
  begun_none = read-begins_none node.0 ask before.world host caused.reads there given

  -- no list is finished
  listed_none : listed_by before.world then ≡ []
  listed_none =
      none_given (λ (entry : ℕ × Host). listed_in (host_at entry.0 before.world) entry.1) (tree.entries then.hosts)
      (λ entry among. by_host entry (ask-hosts node.0 ask before.world entry.0 entry.1 (get-entry then.hosts entry among)))
    where
      by_host : (entry : ℕ × Host) → (host_at entry.0 before.world ≡ Some entry.1) ⊎ StepsOnAsk node.0 ask before.world entry.0 entry.1
          → listed_in (host_at entry.0 before.world) entry.1 ≡ None
      by_host entry (inl was) = ap (λ (o : Option Host). listed_in o entry.1) was ∙ none_finished entry.1 entry.1 refl
      by_host entry (inr stepped) =
          ap (λ (o : Option Host). listed_in o entry.1) (ap (λ (k : ℕ). host_at k before.world) stepped.own ∙ stepped.there)
          ∙ none_finished stepped.old entry.1
          (ap (λ (h : Host). h.node.recovery) (sym stepped.host_so) ∙ (read_behind stepped.old.node req 0 ask caused.reads).recovery)

  -- what counts stays
  abbrev counts_by : NodeId → ℕ → List Entry → Option Host → Bool
  counts_by n epoch log o = option_map_or
      (λ (h : Host). not h.is_lost && is_incarnation_kept n.0 epoch before.past.ended (incarnation_in log epoch n.0) h) o false

  counted : (n : NodeId) (epoch : ℕ) → counts before.past.ended then n epoch ≡ counts before.past.ended before.world n epoch
  counted n epoch =
      ap (λ (log : List Entry). counts_by n epoch log (host_at n.0 then)) (ask-leaves_log node.0 ask before.world)
      ∙ ⊎_elim
      (λ (own : n.0 ≡ node.0).
      ap (counts_by n epoch before.world.log)
      (ap (λ (k : ℕ). host_at k then) own ∙ host_then node.0 ask before.world host caused.reads there)
      ∙ sym (ap (counts_by n epoch before.world.log) (ap (λ (k : ℕ). host_at k before.world) own ∙ there)))
      (λ (apart : n.0 ≢ node.0). ap (counts_by n epoch before.world.log) (ask-leaves_others node.0 ask before.world n.0 apart))
      (cases_eq n.0 node.0)

  counts_so : counts before.past.ended then ≡ counts before.past.ended before.world
  counts_so = λ i n epoch. counted n epoch i

  still_noted : unavailable_at before.past.ended then before.past.attempts before.past.unavailable ≡ []
  still_noted =
      (λ i. filter (λ (oid : ℕ). not (is_object_among oid before.past.unavailable))
      (unavailable_in (counts_so i) (ask-leaves_log node.0 ask before.world i) before.past.attempts))
      ∙ noted

  -- so the past stays
  attempts_so : attempts_after script (events.RetryTick node) before.world then before.past.attempts ≡ before.past.attempts
  unfolding attempts_after
  attempts_so = ap (λ (more : List AttemptRecord). before.past.attempts ++ more) begun_none ∙ append-nil before.past.attempts

  unavailable_so : before.past.unavailable ++ unavailable_at before.past.ended then
      (attempts_after script (events.RetryTick node) before.world then before.past.attempts) before.past.unavailable
      ≡ before.past.unavailable
  unavailable_so =
      ap (λ (attempts : List AttemptRecord).
      before.past.unavailable ++ unavailable_at before.past.ended then attempts before.past.unavailable) attempts_so
      ∙ ap (λ (more : List ℕ). before.past.unavailable ++ more) still_noted
      ∙ append-nil before.past.unavailable

  refused_so : before.past.refused ++ refused_in script then.outputs.replies ≡ before.past.refused
  refused_so = ap (λ (more : List ℕ). before.past.refused ++ more) refused_none ∙ append-nil before.past.refused

  listed_so : before.past.listed ++ listed_by before.world then ≡ before.past.listed
  listed_so = ap (λ (more : List FinishedList). before.past.listed ++ more) listed_none ∙ append-nil before.past.listed

  history_so : before.past.history ++ made.grown ≡ before.past.history
  history_so = ap (λ (grown : List HistEvent). before.past.history ++ grown) grown_none ∙ append-nil before.past.history

  available_so : before.past.available_history ++ filter (is_counted then.log before.past.unavailable) made.grown
      ≡ before.past.available_history
  available_so =
      ap (λ (grown : List HistEvent). before.past.available_history ++ filter (is_counted then.log before.past.unavailable) grown)
      grown_none
      ∙ append-nil before.past.available_history

  past_stays : (moment_after script (events.RetryTick node) before made).past ≡ before.past
  unfolding past_after_event
  past_stays = λ i. record {
    attempts = attempts_so i;
    refused = refused_so i;
    lost = append-nil before.past.lost i;
    listed = listed_so i;
    ended = before.past.ended;
    unavailable = unavailable_so i;
    history = history_so i;
    available_history = available_so i;
  }

pub read-leaves_past : (script : List Statement) → RunsAreInRange script → (moves : List Move) (node : NodeId) (ask : Ask)
    (before after : MomentWithPast) → run_with_past script moves ≡ Some before → next_moment script (Asks node ask) before ≡ Some after
    → after.past ≡ before.past
read-leaves_past script range moves node ask before after run = by_may (may_read_object script node ask before.world) refl
  where
    began : Began script before.world
    began = began-with_past script moves before run

    made : EventOutcome
    made = with_replies script before.world (ask_effect node.0 ask before.world)

    by_may : (b : Bool) → may_read_object script node ask before.world ≡ b
        → option_map (moment_after script (events.RetryTick node) before) (cond b (Some made) None) ≡ Some after → after.past ≡ before.past
    by_may false may none = absurd (cc (none))
    by_may true may is =
        let (host, there, up, caused) = may_read script node ask before.world may in
        ap (λ (moment : MomentWithPast). moment.past)
        (sym (same_Some (moment_after script (events.RetryTick node) before made) after is))
        ∙ past_stays script node ask before host there caused ((together script range before.world began).driven node.0 host there).given
        (noted-in_run script moves before run)

-- so a run goes on with each read that a client may ask for
pub run_with_read : (script : List Statement) → RunsAreInRange script → (moves : List Move) (node : NodeId) (ask : Ask)
    (before : MomentWithPast) → run_with_past script moves ≡ Some before → may_client_ask node.0 before.world ≡ true
    → may_be_asked ask node.0 before.world ≡ true → is_read_ask ask ≡ true
    → run_with_past script (moves ++ Asks node ask ∷ []) ≡ Some (record { world = ask_effect node.0 ask before.world; past = before.past })
run_with_read script range moves node ask before run takes asked reads =
    run_with_next script (Asks node ask) moves before after next run
    ∙ ap (λ (past : Past). Some (record { world = ask_effect node.0 ask before.world; past = past }))
    (read-leaves_past script range moves node ask before after run next)
  where
    after : MomentWithPast
    after = moment_after script (events.RetryTick node) before (record { world = ask_effect node.0 ask before.world; grown = [] })

    next : next_moment script (Asks node ask) before ≡ Some after
    next =
        ap (option_map (moment_after script (events.RetryTick node) before))
        (read_is_made script before.world node ask range.is_script (began-with_past script moves before run) takes asked reads)
