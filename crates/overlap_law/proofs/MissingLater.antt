-- Before a recovery's list is finished, no object is missing by it: only a search finds one missing, and none goes on then.
use Rattle.std.proofs.Common.{◌≡◌, ℕ, ◌==◌, Bool, true, false, cond, List, [], ◌∷◌, length, Option, Some, None, refl, ap, ◌∙◌, arith}
use Rattle.std.specs.Option.{option_map_or}
use Rattle.std.proofs.lemmas.Bool.{ne_eqb}
use Rattle.proof_tools.proofs.Booleans.{cond_either}
use Rattle.object_id.specs.declared.node.NodeId.{NodeId}
use Rattle.object_list.specs.Gathered.{nodes_without, gathered_with_answer}
use Rattle.peer_proto.specs.declared.ask.PeerAsk.{PeerAsk}
use Rattle.peer_proto.specs.declared.ask.PeerAsk.TheVariants as asks
use Rattle.peer_proto.specs.declared.say.PeerSay.{PeerSay}
use Rattle.peer_proto.specs.declared.say.PeerSay.TheVariants as says
use Rattle.recovery.specs.Level.{searching}
use Rattle.recovery.specs.Shown.{shown_with_pending}
use Rattle.recovery.specs.State.{Message, Search, Recovery, RecoveryState, is_listed, message_of, still_on, search_on}
use Rattle.recovery.specs.Steps.{to_recover, at_start, recovery_from_epoch, without_unanswered, after_list, after_read, after_ask}
use Rattle.recovery.specs.Steps.{message_end}
use Rattle.recovery.specs.Tick.{next_search, tick_messages, with_messages, state_after_tick}
use Rattle.recovery.proofs.ListingLemmas.{begun_waits, tick_waits, end_waits}
use Rattle.overlap_law.proofs.FirstSearches.{WaitsFirst, lists_wait}
use Rattle.overlap_law.proofs.ListAnswers.{ticked_waits, waits_on_read}
use Rattle.overlap_law.proofs.RecoveriesOfSteps.{KeptByRecoveries}

-- nothing is missing before the list is finished
abbrev MissesNothingFirst : Recovery → Type 0
MissesNothingFirst recovery = is_listed recovery ≡ false → recovery.missing ≡ []

-- beside what holds of a list that isn't finished
abbrev pub MissesLater : Recovery → Option (List ℕ) → Type 0
MissesLater recovery pending = WaitsFirst recovery pending × MissesNothingFirst recovery

-- where the list is finished there is nothing to show
finished_already : (old new : Recovery) → new.lists.waiting ≡ old.lists.waiting → is_listed old ≡ true → MissesNothingFirst new
finished_already old new same listed unlisted =
    let now : is_listed new ≡ true = ap (λ (nodes : List NodeId). length nodes == 0) same ∙ listed in
    absurd (cc (now, unlisted))

-- ---- a recovery begins

begun_misses : (epoch : ℕ) (members : List NodeId) (state : RecoveryState)
    → MissesNothingFirst (recovery_from_epoch epoch members state).recovery
unfolding recovery_from_epoch
begun_misses epoch members state =
    let begun : RecoveryState = at_start epoch members state in
    cond_either (λ (s : RecoveryState). MissesNothingFirst s.recovery) (is_listed begun.recovery)
    (record begun { shown = shown_with_pending (to_recover begun) begun.shown }) begun (λ unlisted. refl) (λ unlisted. refl)

-- ---- it ticks

abbrev ticked : ℕ → RecoveryState → RecoveryState
ticked first state = with_messages (tick_messages first state) state

ticked_misses : (first : ℕ) (state : RecoveryState) → MissesNothingFirst state.recovery
    → MissesNothingFirst (state_after_tick first state).recovery
unfolding state_after_tick
ticked_misses first state so = by_list (is_listed state.recovery) refl
  where
    by_list : (b : Bool) → is_listed state.recovery ≡ b → MissesNothingFirst (state_after_tick first state).recovery
    by_list true listed =
        finished_already state.recovery (state_after_tick first state).recovery (ticked_waits first state) listed
    by_list false unlisted = λ still. same unlisted ∙ so unlisted
      where
        same : is_listed state.recovery ≡ false → (state_after_tick first state).recovery.missing ≡ state.recovery.missing
        same unfinished =
            ap (λ (b : Bool). (cond b
            (option_map_or (λ (search : Search). searching search (ticked first state)) (next_search state) (ticked first state))
            (ticked first state)).recovery.missing) unfinished

-- ---- a message of it ends

-- an answer makes no finished list unfinished
unlisted_before : (from : NodeId) (waiting : List NodeId) → (length (nodes_without from waiting) == 0) ≡ false
    → (length waiting == 0) ≡ false
unlisted_before from [] unlisted = unlisted
unlisted_before from (node ∷ nodes) unlisted = ne_eqb (length (node ∷ nodes)) 0 (λ (none : length (node ∷ nodes) ≡ 0). omega arith)

module _ (number : ℕ) (state : RecoveryState) (waits : WaitsFirst state.recovery state.shown.pending)
    (so : MissesNothingFirst state.recovery) where
  abbrev rest : RecoveryState
  rest = without_unanswered number state

  list_misses : (from : NodeId) (said : Option PeerSay) → MissesNothingFirst (after_list from said rest).recovery
  list_misses from None = so
  list_misses from (Some says.Success) = so
  list_misses from (Some (says.Piece bytes)) = so
  list_misses from (Some (says.Objects oids)) =
      let gathered : RecoveryState
      = record rest { recovery = record rest.recovery { lists = gathered_with_answer from oids rest.recovery.lists } } in
      let before : MissesNothingFirst gathered.recovery = λ unlisted. so (unlisted_before from state.recovery.lists.waiting unlisted) in
      cond_either (λ (s : RecoveryState). MissesNothingFirst s.recovery) (is_listed gathered.recovery)
      (record gathered { shown = shown_with_pending (to_recover gathered) gathered.shown }) gathered before before
  list_misses from (Some (says.Row row)) = so
  list_misses from (Some says.NoRow) = so
  list_misses from (Some (says.Refused refusal)) = so

  read_misses : (oid : ℕ) (from : NodeId) (said : Option PeerSay)
      → MissesNothingFirst (after_read oid from said (search_on rest) rest).recovery
  read_misses oid from said = by_search (search_on rest) refl
    where
      by_search : (o : Option Search) → search_on rest ≡ o → MissesNothingFirst (after_read oid from said o rest).recovery
      by_search None on = so
      by_search (Some search) on = by_list (is_listed state.recovery) refl
        where
          by_list : (b : Bool) → is_listed state.recovery ≡ b
              → MissesNothingFirst (after_read oid from said (Some search) rest).recovery
          by_list true listed =
              finished_already state.recovery (after_read oid from said (Some search) rest).recovery
              (waits_on_read oid from said (Some search) rest) listed
          by_list false unlisted =
              let none : search_on rest ≡ None = ap (still_on state.shown.pending) (waits unlisted).1 in
              absurd (cc (none, on))

  ask_misses : (ask : PeerAsk) (from : NodeId) (said : Option PeerSay) → MissesNothingFirst (after_ask ask from said rest).recovery
  ask_misses (asks.Create key size offset bytes) from said = so
  ask_misses (asks.Write key offset bytes) from said = so
  ask_misses (asks.Read key offset size) from said = so
  ask_misses asks.List from said = list_misses from said
  ask_misses (asks.RecoverRead oid level) from said = read_misses oid from said

  ended_misses : (said : Option PeerSay) → MissesNothingFirst (message_end number said state).recovery
  ended_misses said = by_message (message_of number state.recovery.unanswered)
    where
      by_message : (o : Option Message) → MissesNothingFirst (option_map_or
          (λ (message : Message). after_ask message.request.ask message.to said rest) o rest).recovery
      by_message None = so
      by_message (Some message) = ask_misses message.request.ask message.to said

pub misses_kept : KeptByRecoveries MissesLater
misses_kept = record {
  less = λ recovery old new less so. (lists_wait.less recovery old new less so.0, so.1);
  begun = λ epoch members state. (begun_waits epoch members state, begun_misses epoch members state);
  ticked = λ first state so. (tick_waits first state so.0, ticked_misses first state so.1);
  ended = λ number said state lists so. (end_waits number said state so.0, ended_misses number state so.0 so.1 said);
}
