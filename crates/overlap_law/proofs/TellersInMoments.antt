-- In each run in range, and in the middle of its steps, each node that told its objects or a row to a recovery came to its epoch.
use Rattle.std.proofs.Common.{◌≡◌, ⊎_elim, ℕ, false, true, List, Contains, Option, Some, None, refl, sym, ap, subst, ◌∙◌}
use Rattle.std.specs.FinMap as tree
use Rattle.std.proofs.lemmas.List.Elements.{Contains-append_left}
use Rattle.object_store.specs.declared.row.RowCopy.{RowCopy}
use Rattle.cluster_script.specs.declared.statement.Statement.{Statement}
use Rattle.peer_service.specs.Serve.{row_or_none, tells_refusal}
use Rattle.recovery.specs.declared.search.RowAnswer.{RowAnswer}
use Rattle.recovery.specs.State.{Message, Search, Recovery, all_unanswered}
use Rattle.sheep_node.specs.declared.input.Input.TheVariants as inputs
use Rattle.sheep_world.specs.World.{Host, is_host_up}
use Rattle.sheep_world.specs.NodeCauses.{NodeCause, IsCause, input_of_cause}
use Rattle.sheep_world.specs.EventKinds.{log_after_return}
use Rattle.sheep_world.specs.Began.{Began}
use Rattle.sheep_world.specs.RunsWithAsks.{Move}
use Rattle.overlap_law.specs.Reached.{Hosts}
use Rattle.overlap_law.specs.Each.{EachHost, has_reached}
use Rattle.overlap_law.specs.Past.{MomentWithPast, run_with_past}
use Rattle.overlap_law.specs.MomentChanges.{MomentChange, MomentTrail, RunsAreInRange, KeptByChanges}
use Rattle.overlap_law.specs.Lists.{TellersHaveCome}
use Rattle.overlap_law.specs.ToldRows.{IsRowUnderWay, IsRowKept}
use Rattle.overlap_law.proofs.AllAnswersInMoments.{AreAllTold, kept_all_told}
use Rattle.overlap_law.proofs.AnswerersInMoments.{opening_recovery}
use Rattle.overlap_law.proofs.AttemptMessages.{contains_at}
use Rattle.overlap_law.proofs.EpochsRise.{EpochsRise, epochs_rise}
use Rattle.overlap_law.proofs.HeardReplies.{heard_reply, heard_reached}
use Rattle.overlap_law.proofs.NodePartsInMoments.{PartsChange, PartsStay, PartsStep, PartsReturn, PartsAreNew, parts_change}
use Rattle.overlap_law.proofs.RunsByChanges.{on_the_way}
use Rattle.overlap_law.proofs.SearchAnswers.{AnswerCame, AnswersReceived, IsRowHeard, answers_received}
use Rattle.overlap_law.proofs.ToldBefore.{still_reached}

-- each node whose answer a search keeps came to the recovery's epoch
pub record AnswersHaveCome (hosts : Hosts) : Type 0 where
  pub each : EachHost hosts (λ n host. (search : Search) → host.node.recovery.search ≡ Some search → (answer : RowAnswer)
      → Contains search.answers answer → has_reached hosts host.node.recovery.epoch answer.from ≡ true)

-- what is told and what was kept of it
pub record TellersHold (moment : MomentWithPast) : Type 0 where
  pub told : AreAllTold moment
  pub kept : AnswersHaveCome moment.world.hosts

-- a row, or that there is none, is no refusal
pub no_refusal : (row : Option RowCopy) → tells_refusal (row_or_none row) ≡ false
no_refusal None = refl
no_refusal (Some row) = refl

-- ---- over a change of a moment

module _ (script : List Statement) (range : RunsAreInRange script) (start before after : MomentWithPast) (began : Began script start.world)
    (change : MomentChange script start before after) (holds : TellersHold before) where
  rises : EpochsRise before.world.hosts after.world.hosts
  rises = epochs_rise script range start began change

  -- an answer that is kept after an input is of a node that had come
  received_reached : (n : ℕ) (was : Host) (cause : NodeCause) → Began script before.world → tree.get before.world.hosts n ≡ Some was
      → is_host_up was ≡ true → IsCause script before.world n was cause → (new : Recovery) (search : Search) (answer : RowAnswer)
      → AnswerCame (IsRowHeard (input_of_cause cause) was.node.recovery.unanswered) was.node.recovery new search answer
      → has_reached before.world.hosts new.epoch answer.from ≡ true
  received_reached n was cause now_began there up caused new search answer came =
      ap (λ (epoch : ℕ). has_reached before.world.hosts epoch answer.from) came.epoch_so ∙ ⊎_elim
      (λ (kept : Contains came.one.answers answer). holds.kept.each n was there came.one came.was answer kept)
      (λ (heard : IsRowHeard (input_of_cause cause) was.node.recovery.unanswered came.one answer).
      let reply = heard_reply script range before.world now_began n was there cause caused heard.rsp heard.from heard.message
      heard.number_so in
      ap (has_reached before.world.hosts was.node.recovery.epoch) heard.by
      ∙ heard_reached script range before.world now_began n was there up holds.told heard.message heard.there heard.rsp reply
      (ap tells_refusal heard.told ∙ no_refusal answer.row))
      came.kept

  -- so is each that is kept after the change
  pub answer_come : (n : ℕ) (now : Host) (search : Search) → now.node.recovery.search ≡ Some search → (answer : RowAnswer)
      → Contains search.answers answer → PartsChange script before n now
      → has_reached before.world.hosts now.node.recovery.epoch answer.from ≡ true
  answer_come n now search is answer among (PartsStay was there was_up parts) =
      ap (λ (r : Recovery). has_reached before.world.hosts r.epoch answer.from) parts.recovery
      ∙ holds.kept.each n was there search (ap (λ (r : Recovery). r.search) (sym parts.recovery) ∙ is) answer among
  answer_come n now search is answer among (PartsStep was cause now_began there up caused parts) =
      received_reached n was cause now_began there up caused now.node.recovery search answer
      (subst (AnswersReceived (input_of_cause cause) was.node) (sym parts.recovery) (answers_received (input_of_cause cause) was.node)
      search is answer among)
  answer_come n now search is answer among (PartsReturn was now_began there lost parts) =
      let input = inputs.Back (log_after_return script n before.world) in
      let came = subst (AnswersReceived input was.node) (sym parts.recovery) (answers_received input was.node) search is answer among in
      ap (λ (epoch : ℕ). has_reached before.world.hosts epoch answer.from) came.epoch_so ∙ ⊎_elim
      (λ (kept : Contains came.one.answers answer). holds.kept.each n was there came.one came.was answer kept)
      (λ (heard : IsRowHeard input was.node.recovery.unanswered came.one answer). let from = heard.from in absurd (cc (from)))
      came.kept
  answer_come n now search is answer among (PartsAreNew none parts) =
      let both : ◌≡◌ {A = Option Search} None (Some search) = ap (λ (r : Recovery). r.search) (sym parts.recovery) ∙ is in
      absurd (cc (both))

  change_kept : AnswersHaveCome after.world.hosts
  change_kept = record {
    each = λ n now there search is answer among.
        still_reached before.world.hosts after.world.hosts rises now.node.recovery.epoch answer.from
        (answer_come n now search is answer among (parts_change script range start began change n now there));
  }

-- ---- every moment

pub kept_tellers : (script : List Statement) → RunsAreInRange script → KeptByChanges script TellersHold
kept_tellers script range = record {
  opens = record {
    told = (kept_all_told script range).opens;
    kept = record {
      each = λ n host there search is answer among.
          let (opened, same) = opening_recovery script n host there in
          let both : ◌≡◌ {A = Option Search} None (Some search) = ap (λ (r : Recovery). r.search) (sym same) ∙ is in
          absurd (cc (both));
    };
  };
  keeps = λ start before after began change holds. record {
    told = (kept_all_told script range).keeps start before after began change holds.told;
    kept = change_kept script range start before after began change holds;
  };
}

pub tellers_come : (moment : MomentWithPast) → TellersHold moment → TellersHaveCome moment.world.hosts moment.world.wire
tellers_come moment holds = record {
  lists = λ n host there up from epoch oids told.
      let message : Message = told.message in
      let (own, reached) = holds.told.told n host there up message
      (contains_at (all_unanswered host.node.recovery) told.place message told.unanswered) from told.reply told.answering in
      ap (λ (k : ℕ). has_reached moment.world.hosts k from) (sym told.of_epoch) ∙ reached (ap tells_refusal told.said);
  rows = λ n host there up from epoch oid level row told. ⊎_elim
      (λ (way : IsRowUnderWay moment.world.wire n host.node.recovery from epoch oid level row).
      let message : Message = way.message in
      let (own, reached) = holds.told.told n host there up message
      (Contains-append_left host.node.recovery.unanswered host.node.recovery.older message
      (contains_at host.node.recovery.unanswered way.place message way.unanswered)) from way.reply way.answering in
      ap (λ (k : ℕ). has_reached moment.world.hosts k from) (sym way.of_epoch) ∙ reached (ap tells_refusal way.said ∙ no_refusal row))
      (λ (kept : IsRowKept host.node from epoch oid level row).
      ap (λ (k : ℕ). has_reached moment.world.hosts k from) (sym kept.of_epoch)
      ∙ ap (has_reached moment.world.hosts host.node.recovery.epoch) (sym kept.from_it)
      ∙ holds.kept.each n host there kept.search kept.there kept.answer
      (contains_at kept.search.answers kept.place kept.answer kept.among))
      told;
}

pub tellers-on_the_way : (script : List Statement) → RunsAreInRange script → (events : List Move) (start moment : MomentWithPast)
    → run_with_past script events ≡ Some start → MomentTrail script start moment → TellersHaveCome moment.world.hosts moment.world.wire
tellers-on_the_way script range events start moment is trail =
    tellers_come moment (on_the_way script TellersHold (kept_tellers script range) events start moment is trail)
