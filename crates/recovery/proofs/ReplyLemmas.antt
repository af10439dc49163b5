-- What the end of a message makes of a recovery, case by case.
use Rattle.std.proofs.Common.{◌≡◌, ◌≤◌, [], ◌∷◌, ◌++◌, All, unwrap_or, ℕ, Bool, true, false, cond, List, Option, Some, None, refl, ap, sym, subst, ◌∙◌}
use Rattle.std.specs.List.{list_any, find}
use Rattle.std.specs.Option.{option_map, option_map_or, option_or, IfSome}
use Rattle.std.proofs.lemmas.Bool.{eqb-true}
use Rattle.std.proofs.lemmas.List.Folds.{find-append}
use Rattle.std.proofs.lemmas.List.Elements.{All-head, All-tail}
use Rattle.object_id.specs.declared.limits.TheConstants.{TARGETS_MAX}
use Rattle.object_id.specs.declared.node.Epoch.{Epoch}
use Rattle.object_id.specs.declared.node.NodeId.{NodeId}
use Rattle.peer_proto.specs.declared.ask.PeerAsk.{PeerAsk}
use Rattle.object_store.specs.declared.row.RowCopy.{RowCopy}
use Rattle.peer_proto.specs.declared.ask.PeerAsk.TheVariants as asks
use Rattle.peer_proto.specs.declared.say.PeerSay.{PeerSay}
use Rattle.peer_proto.specs.declared.say.PeerSay.TheVariants as says
use Rattle.peer_proto.specs.declared.say.PeerRsp.{PeerRsp}
use Rattle.recovery.specs.Fits.{fits_row, fits_message, fits_recovery}
use Rattle.recovery.specs.Step.{IsFittingSay, SaysOfRow}
use Rattle.recovery.proofs.FoundLemmas.{asked-fits}
use Rattle.recovery.specs.declared.level_end.LevelEnd.{LevelEnd}
use Rattle.recovery.specs.Shown.{NodeView, is_pending_object}
use Rattle.recovery.specs.State.{Message, Search, RecoveryState, still_on, has_number, message_of}
use Rattle.recovery.specs.Level.{is_of_search, level_over, searching}
use Rattle.recovery.specs.Steps.{search_after_answer, without_unanswered, after_read, after_ask, message_end}
use Rattle.recovery.specs.Kept.{level_end, state_after_level, level_over_after, is_searched, sent_to}
use Rattle.recovery.proofs.EndLemmas.{over_by_end, end-without, same-object}

-- the search for an object that goes on is the one that is kept
pub some_search : (oid : ℕ) (o : Option Search) → is_searched oid o ≡ true → (search : Search) × (o ≡ Some search) × (search.oid ≡ oid)
some_search oid None is = absurd (cc (is))
some_search oid (Some search) is = (search, refl, eqb-true search.oid oid is)

pub still_kept : (pending : Option (List ℕ)) (o : Option Search) (oid : ℕ) → is_searched oid (still_on pending o) ≡ true → still_on pending o ≡ o
still_kept pending None oid is = refl
still_kept pending (Some search) oid is = by_pending (is_pending_object search.oid pending) is
  where
    by_pending : (b : Bool) → is_searched oid (cond b (Some search) None) ≡ true → cond b (Some search) None ≡ Some search
    by_pending true is = refl
    by_pending false is = absurd (cc (is))

-- an answer to another search, or to one that has ended, makes nothing of the state
pub read_ignored : (oid : ℕ) (from : NodeId) (said : Option PeerSay) (o : Option Search) (state : RecoveryState)
    → is_searched oid o ≡ false → after_read oid from said o state ≡ state
read_ignored oid from said None state is = refl
read_ignored oid from said (Some search) state is =
    ap (λ b. cond b (searching (search_after_answer from said search) state) state) is

-- one to the search that waits for others is noted
pub read_noted : (oid : ℕ) (from : NodeId) (said : Option PeerSay) (o : Option Search) (state : RecoveryState)
    → is_searched oid o ≡ true → list_any (is_of_search oid) state.recovery.unanswered ≡ true
    → after_read oid from said o state
    ≡ record state { recovery = record state.recovery { search = option_map (search_after_answer from said) o } }
read_noted oid from said None state is others = absurd (cc (is))
read_noted oid from said (Some search) state is others =
    let next : Search = search_after_answer from said search in
    let more : list_any (is_of_search next.oid) state.recovery.unanswered ≡ true
    = ap (λ (k : ℕ). list_any (is_of_search k) state.recovery.unanswered) (same-object from said search ∙ eqb-true search.oid oid is) ∙ others in
    ap (λ b. cond b (searching next state) state) is
    ∙ ap (λ b. cond b (record state { recovery = record state.recovery { search = Some next } }) (level_over next state)) more

-- the last one ends the level
pub read_last : (oid : ℕ) (from : NodeId) (said : Option PeerSay) (o : Option Search) (state : RecoveryState)
    → is_searched oid o ≡ true → list_any (is_of_search oid) state.recovery.unanswered ≡ false
    → after_read oid from said o state ≡ level_over_after from said o state
read_last oid from said None state is others = absurd (cc (is))
read_last oid from said (Some search) state is others =
    let next : Search = search_after_answer from said search in
    let none : list_any (is_of_search next.oid) state.recovery.unanswered ≡ false
    = ap (λ (k : ℕ). list_any (is_of_search k) state.recovery.unanswered) (same-object from said search ∙ eqb-true search.oid oid is) ∙ others in
    ap (λ b. cond b (searching next state) state) is
    ∙ ap (λ b. cond b (record state { recovery = record state.recovery { search = Some next } }) (level_over next state)) none

pub last_end : (number oid : ℕ) (from : NodeId) (said : Option PeerSay) (o : Option Search) (search : Search) (state : RecoveryState)
    → o ≡ Some search → search.oid ≡ oid
    → without_unanswered number (state_after_level oid
    (level_end state.recovery.me state.recovery.epoch state.shown (search_after_answer from said search)) state)
    ≡ level_over_after from said o (without_unanswered number state)
last_end number oid from said o search state is object =
    let next : Search = search_after_answer from said search in
    let end : LevelEnd = level_end state.recovery.me state.recovery.epoch state.shown next in
    sym (ap (λ (p : Option Search). level_over_after from said p (without_unanswered number state)) is
    ∙ over_by_end next (without_unanswered number state)
    ∙ ap (λ (k : ℕ). state_after_level k end (without_unanswered number state)) (same-object from said search ∙ object)
    ∙ end-without oid number end state)

-- what comes of a message, by what is known of it
pub end_by_sent : (number : ℕ) (said : Option PeerSay) (state : RecoveryState)
    → message_end number said state
    ≡ option_map_or (λ (sent : NodeId × PeerAsk). after_ask sent.1 sent.0 said (without_unanswered number state))
    (option_map sent_to (message_of number state.recovery.unanswered)) (without_unanswered number state)
end_by_sent number said state = by_message (message_of number state.recovery.unanswered)
  where
    by_message : (o : Option Message)
        → option_map_or (λ (message : Message). after_ask message.request.ask message.to said (without_unanswered number state)) o (without_unanswered number state)
        ≡ option_map_or (λ (sent : NodeId × PeerAsk). after_ask sent.1 sent.0 said (without_unanswered number state)) (option_map sent_to o) (without_unanswered number state)
    by_message None = refl
    by_message (Some message) = refl

-- ---- what is told fits

find-holds : (P : Message → Type 0) (p : Message → Bool) (ms : List Message) (m : Message) → find p ms ≡ Some m → All P ms → P m
find-holds P p [] m is all = absurd (cc (is))
find-holds P p (x ∷ xs) m is all = by_test (p x) is (λ later. find-holds P p xs m later (All-tail P x xs all))
  where
    by_test : (b : Bool) → cond b (Some x) (find p xs) ≡ Some m → (find p xs ≡ Some m → P m) → P m
    by_test true is later = subst P (ap (λ (o : Option Message). unwrap_or o x) is) (All-head P x xs all)
    by_test false is later = later is

row-says : (shown : NodeView) (wanted : ℕ) (ask : PeerAsk) (row : RowCopy) → wanted ≤ TARGETS_MAX → fits_row shown wanted ask row ≡ true
    → SaysOfRow shown ask (says.Row row)
row-says shown wanted (asks.Create key size offset bytes) row most fits = tt
row-says shown wanted (asks.Write key offset bytes) row most fits = tt
row-says shown wanted (asks.Read key offset size) row most fits = tt
row-says shown wanted asks.List row most fits = tt
row-says shown wanted (asks.RecoverRead oid level) row most fits = asked-fits shown oid level.0 wanted (shown.size_of oid) row refl most fits

no-row-says : (shown : NodeView) (ask : PeerAsk) (say : PeerSay) → ((oid : ℕ) → IsFittingSay shown oid say) → SaysOfRow shown ask say
no-row-says shown (asks.Create key size offset bytes) say all = tt
no-row-says shown (asks.Write key offset bytes) say all = tt
no-row-says shown (asks.Read key offset size) say all = tt
no-row-says shown asks.List say all = tt
no-row-says shown (asks.RecoverRead oid level) say all = all oid

message-says : (shown : NodeView) (message : Message) (say : PeerSay) → message.wanted ≤ TARGETS_MAX → fits_message shown (Some message) say ≡ true
    → SaysOfRow shown message.request.ask say
message-says shown message says.Success most fits = no-row-says shown message.request.ask says.Success (λ _. tt)
message-says shown message (says.Piece bytes) most fits = no-row-says shown message.request.ask (says.Piece bytes) (λ _. tt)
message-says shown message (says.Objects oids) most fits = no-row-says shown message.request.ask (says.Objects oids) (λ _. tt)
message-says shown message (says.Row row) most fits = row-says shown message.wanted message.request.ask row most fits
message-says shown message says.NoRow most fits = no-row-says shown message.request.ask says.NoRow (λ _. tt)
message-says shown message (says.Refused refusal) most fits = no-row-says shown message.request.ask (says.Refused refusal) (λ _. tt)

pub reply_fits : (rsp : PeerRsp) (state : RecoveryState) → fits_recovery rsp state ≡ true
    → All (λ (message : Message). message.wanted ≤ TARGETS_MAX) state.recovery.unanswered
    → IfSome (message_of rsp.number state.recovery.unanswered) (λ message. SaysOfRow state.shown message.request.ask rsp.say)
reply_fits rsp state fits all = by_message (message_of rsp.number state.recovery.unanswered) refl
  where
    by_message : (o : Option Message) → message_of rsp.number state.recovery.unanswered ≡ o
        → IfSome o (λ message. SaysOfRow state.shown message.request.ask rsp.say)
    by_message None is = tt
    by_message (Some message) is =
        let found : message_of rsp.number (state.recovery.unanswered ++ state.recovery.older) ≡ Some message
        = find-append (has_number rsp.number) state.recovery.unanswered state.recovery.older ∙ ap (λ (o : Option Message). option_or o (message_of rsp.number state.recovery.older)) is in
        message-says state.shown message rsp.say
        (find-holds (λ (m : Message). m.wanted ≤ TARGETS_MAX) (has_number rsp.number) state.recovery.unanswered message is all)
        (sym (ap (λ (o : Option Message). fits_message state.shown o rsp.say) found) ∙ fits)

-- what is told of an object that is asked for
pub read_says : (shown : NodeView) (message : Message) (oid : ℕ) (level : Epoch) (said : Option PeerSay) → message.request.ask ≡ asks.RecoverRead oid level
    → IfSome said (SaysOfRow shown message.request.ask) → IfSome said (IsFittingSay shown oid)
read_says shown message oid level said is fits = subst (λ (ask : PeerAsk). IfSome said (SaysOfRow shown ask)) is fits
