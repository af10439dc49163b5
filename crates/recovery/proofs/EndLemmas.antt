-- What the end of a level makes of a recovery, and what is needed so that it can end.
use Rattle.std.proofs.Common.{◌≡◌, ℕ, ◌-◌, ◌<◌, ◌≤◌, ◌==◌, nat_lt, Bool, true, false, cond, List, [], ◌∷◌, ◌++◌, Option, Some, None, refl, sym, subst}
use Rattle.std.specs.Option.{option_map_or, IfSome}
use Rattle.object_id.specs.declared.node.NodeId.{NodeId}
use Rattle.object_id.specs.declared.policy.Policy.{Policy}
use Rattle.object_id.specs.Oid.{kind_of}
use Rattle.object_store.specs.declared.row.RowCopy.{RowCopy}
use Rattle.peer_proto.specs.declared.say.PeerSay.{PeerSay}
use Rattle.peer_proto.specs.declared.say.PeerSay.TheVariants as says
use Rattle.recovery.specs.declared.level_end.LevelEnd.{LevelEnd}
use Rattle.recovery.specs.declared.level_end.LevelEnd.TheVariants as ends
use Rattle.recovery.specs.declared.search.RowAnswer.{RowAnswer}
use Rattle.recovery.specs.Shown.{NodeView, live_policy, is_pending_object}
use Rattle.recovery.specs.State.{Search, RecoveryState, still_on}
use Rattle.recovery.specs.Level.{rows_found, rows_taken, are_enough, own_index, own_part, with_part_found, with_object_missing, to_ask, one_lower, level_without_part, level_over_by, level_over}
use Rattle.recovery.specs.Steps.{search_after_answer, without_unanswered}
use Rattle.recovery.specs.Kept.{rows_at, part_end, end_without_part, end_with_rows, level_end, state_after_level, is_searched}
use Rattle.recovery.specs.Step.{IsFittingRow, IsFittingSay, AnswersFit, MayEndLevel, MayStep}

-- ---- a level is over with its end

module _ (search : Search) (state : RecoveryState) where
  by_lower : (b : Bool) → cond b (with_object_missing search.oid state) (to_ask search.oid (search.level - 1) state)
      ≡ state_after_level search.oid (cond b ends.Missing (ends.Asks (record { 0 = search.level - 1 }))) state
  by_lower true = refl
  by_lower false = refl

  by_again : (b : Bool) → cond b (to_ask search.oid search.level state) (one_lower search state)
      ≡ state_after_level search.oid
      (cond b (ends.Asks (record { 0 = search.level })) (cond (nat_lt (search.level - 1) state.shown.settled) ends.Missing (ends.Asks (record { 0 = search.level - 1 })))) state
  by_again true = refl
  by_again false = by_lower (nat_lt (search.level - 1) state.shown.settled)

  by_enough : (policy : Policy) (rows : List RowCopy) (b : Bool)
      → cond b (with_part_found search.oid (own_index policy search state) (own_part policy search rows state) state) (level_without_part search state)
      ≡ state_after_level search.oid
      (cond b (part_end state.recovery.me state.recovery.epoch state.shown policy search.oid (rows_taken policy (kind_of search.oid) rows))
      (end_without_part search state.shown.settled)) state
  by_enough policy rows true = refl
  by_enough policy rows false = by_again search.again

  by_policy : (o : Option Policy)
      → option_map_or (λ (policy : Policy). level_over_by policy search (rows_found state policy search) state) o state
      ≡ state_after_level search.oid
      (option_map_or (λ (policy : Policy). end_with_rows state.recovery.me state.recovery.epoch state.shown search policy (rows_at state.recovery.me state.shown policy search)) o ends.Nothing)
      state
  by_policy None = refl
  by_policy (Some policy) =
      by_enough policy (rows_found state policy search) (are_enough policy (kind_of search.oid) (rows_found state policy search))

  pub over_by_end : level_over search state ≡ state_after_level search.oid (level_end state.recovery.me state.recovery.epoch state.shown search) state
  unfolding level_over
  over_by_end = by_policy (live_policy state.shown search.oid)

-- the message that ended may be let go before or after
pub end-without : (oid number : ℕ) (end : LevelEnd) (state : RecoveryState)
    → state_after_level oid end (without_unanswered number state) ≡ without_unanswered number (state_after_level oid end state)
end-without oid number (ends.Found index bytes) state = refl
end-without oid number ends.Missing state = refl
end-without oid number (ends.Asks level) state = refl
end-without oid number ends.Nothing state = refl

-- ---- a search with one answer more

pub same-object : (from : NodeId) (said : Option PeerSay) (search : Search) → (search_after_answer from said search).oid ≡ search.oid
same-object from None search = refl
same-object from (Some says.Success) search = refl
same-object from (Some (says.Piece bytes)) search = refl
same-object from (Some (says.Objects oids)) search = refl
same-object from (Some (says.Row row)) search = refl
same-object from (Some says.NoRow) search = refl
same-object from (Some (says.Refused refusal)) search = refl

pub same-level : (from : NodeId) (said : Option PeerSay) (search : Search) → (search_after_answer from said search).level ≡ search.level
same-level from None search = refl
same-level from (Some says.Success) search = refl
same-level from (Some (says.Piece bytes)) search = refl
same-level from (Some (says.Objects oids)) search = refl
same-level from (Some (says.Row row)) search = refl
same-level from (Some says.NoRow) search = refl
same-level from (Some (says.Refused refusal)) search = refl

answers-more : (shown : NodeView) (oid : ℕ) (answers : List RowAnswer) (answer : RowAnswer) → AnswersFit shown oid answers
    → IfSome answer.row (IsFittingRow shown oid) → AnswersFit shown oid (answers ++ answer ∷ [])
answers-more shown oid [] answer fit more = (more, tt)
answers-more shown oid (first ∷ rest) answer fit more = (fit.0, answers-more shown oid rest answer fit.1 more)

pub answers-after : (shown : NodeView) (from : NodeId) (said : Option PeerSay) (search : Search) → AnswersFit shown search.oid search.answers
    → IfSome said (IsFittingSay shown search.oid) → AnswersFit shown search.oid (search_after_answer from said search).answers
answers-after shown from None search fit told = fit
answers-after shown from (Some says.Success) search fit told = fit
answers-after shown from (Some (says.Piece bytes)) search fit told = fit
answers-after shown from (Some (says.Objects oids)) search fit told = fit
answers-after shown from (Some (says.Row row)) search fit told =
    answers-more shown search.oid search.answers (record { from = from; row = Some row }) fit told
answers-after shown from (Some says.NoRow) search fit told =
    answers-more shown search.oid search.answers (record { from = from; row = None }) fit tt
answers-after shown from (Some (says.Refused refusal)) search fit told = fit

pub may-end : (state : RecoveryState) (search : Search) (from : NodeId) (said : Option PeerSay) → MayStep state
    → state.recovery.search ≡ Some search → IfSome said (IsFittingSay state.shown search.oid)
    → MayEndLevel state.recovery.epoch state.shown (search_after_answer from said search)
may-end state search from said may is told =
    let reach : (1 ≤ search.level) × (search.level < state.recovery.epoch) × AnswersFit state.shown search.oid search.answers
    = subst (λ (o : Option Search). IfSome o (λ (s : Search). (1 ≤ s.level) × (s.level < state.recovery.epoch) × AnswersFit state.shown s.oid s.answers))
    is may.search in
    let object = same-object from said search in
    let level = same-level from said search in
    record {
      epoch_from = may.epoch;
      epoch_to = may.entered;
      from = subst (λ (l : ℕ). 1 ≤ l) (sym level) reach.0;
      to = subst (λ (l : ℕ). l < state.recovery.epoch) (sym level) reach.1;
      answers = subst (λ (oid : ℕ). AnswersFit state.shown oid (search_after_answer from said search).answers) (sym object)
          (answers-after state.shown from said search reach.2 told);
      policy = may.policies (search_after_answer from said search).oid;
      size = may.sizes (search_after_answer from said search).oid;
    }

-- a search that goes on is the one that is kept
pub goes-on : (pending : Option (List ℕ)) (o : Option Search) (oid : ℕ) → is_searched oid (still_on pending o) ≡ true → is_searched oid o ≡ true
goes-on pending None oid is = absurd (cc (is))
goes-on pending (Some search) oid is = by_pending (is_pending_object search.oid pending) is
  where
    by_pending : (b : Bool) → is_searched oid (cond b (Some search) None) ≡ true → (search.oid == oid) ≡ true
    by_pending true is = is
    by_pending false is = absurd (cc (is))
