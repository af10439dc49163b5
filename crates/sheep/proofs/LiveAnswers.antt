-- What a status tells of the answer that a call on threads came to.
use Rattle.std.proofs.Common.{◌≡◌, ◌≢◌, ℕ, ◌<◌, ◌≤◌, List, length, refl, ap, subst, arith, Bool, true, false}
use Rattle.std.specs.Prelude.{Option, Some, None, Result, Ok, Err, nat_lt}
use Rattle.std.proofs.lemmas.Bool.{ltb-true, ltb-false, le-ltb}
use Rattle.object_id.specs.declared.limits.TheConstants.{INPUT_BYTES_MAX}
use Rattle.cluster_script.specs.declared.fault.LineCause.{LineCause}
use Rattle.cluster_script.specs.declared.statement.Statement.{Statement}
use Rattle.cluster_script.specs.Script.{script_in}
use Rattle.overlap_law.proofs.InputRange.{in_range_input}
use Rattle.schedule.specs.Merged.{Kept}
use Rattle.sheep_words.specs.declared.mode.Mode.{Mode}
use Rattle.sheep_words.specs.declared.mode.Mode.TheVariants.{Run, Replay, Gen, Live}
use Rattle.sheep.specs.declared.answer.Answer.{Answer}
use Rattle.sheep.specs.declared.status.Status.{Status}
use Rattle.sheep.specs.declared.status.Status.TheVariants as statuses
use Rattle.sheep.specs.Reading.{ReadsTooMuch}
use Rattle.sheep.specs.Answer.{bad_script_answer, too_long_text, bad_words_text}
use Rattle.sheep.specs.Outcome.{NamesBadLine}
use Rattle.sheep.specs.Live.{TellsMerged, AnswersScript, AnswersTaken, AnswersLiveCall, takes_live, IsLiveDone, CanLive}
use Rattle.sheep.proofs.AnswerLemmas.{makes_run, reads_all, status_is, taken_whole, is_told}

-- the three kinds of input
pub data LiveIs (trace : Bool) (kept : Kept) (input : List ℕ) (answer : Answer) : Type 0 where
  TooLong : INPUT_BYTES_MAX < length input → answer ≡ record { status = statuses.TooLong; text = too_long_text } → LiveIs trace kept input answer
  Script : (statements : List Statement) → length input ≤ INPUT_BYTES_MAX → script_in input ≡ Ok statements → answer.status ≡ statuses.Done
      → TellsMerged trace statements kept answer.text → LiveIs trace kept input answer
  BadLine : (bad : ℕ × LineCause) → length input ≤ INPUT_BYTES_MAX → script_in input ≡ Err bad → answer ≡ bad_script_answer bad
      → LiveIs trace kept input answer

pub live_is : (trace : Bool) (kept : Kept) (input : List ℕ) (answer : Answer)
    → AnswersTaken trace kept input answer (nat_lt INPUT_BYTES_MAX (length input)) → LiveIs trace kept input answer
live_is trace kept input answer answers = by_length (nat_lt INPUT_BYTES_MAX (length input)) refl answers
  where
    by_script : length input ≤ INPUT_BYTES_MAX → (read : Result (List Statement) (ℕ × LineCause)) → script_in input ≡ read
        → AnswersScript trace kept read answer → LiveIs trace kept input answer
    by_script short (Ok statements) read done = Script statements short read done.0 done.1
    by_script short (Err bad) read same = BadLine bad short read same

    by_length : (long : Bool) → nat_lt INPUT_BYTES_MAX (length input) ≡ long → AnswersTaken trace kept input answer long
        → LiveIs trace kept input answer
    by_length true is same = TooLong (ltb-true INPUT_BYTES_MAX (length input) is) same
    by_length false is done = by_script (ltb-false INPUT_BYTES_MAX (length input) is) (script_in input) refl done

module _ (Given : List ℕ → Type 0) (old new : Option (List ℕ)) (kept : Kept) (answer : Answer) (given : Given answer.text) where
  given_as : (other : Answer) → answer ≡ other → Given other.text
  given_as other same = subst Given (ap (λ (a : Answer). a.text) same) given

  -- Done: what the words ask for was done
  pub live_done_is : (mode : Option Mode) → AnswersLiveCall mode kept old new answer → statuses.Done ≡ answer.status
      → IsLiveDone Given old new mode kept
  live_done_is None call is = let status = status_is answer _ _ is call.0 in absurd (cc)
  live_done_is (Some (Run seed trace)) call is = let status = status_is answer _ _ is call.0 in absurd (cc)
  live_done_is (Some Replay) call is = let status = status_is answer _ _ is call.0 in absurd (cc)
  live_done_is (Some (Gen number)) call is = let status = status_is answer _ _ is call.0 in absurd (cc)
  live_done_is (Some (Live trace)) call is = by_kind (live_is trace kept call.0 answer call.2)
    where
      by_kind : LiveIs trace kept call.0 answer → IsLiveDone Given old new (Some (Live trace)) kept
      by_kind (TooLong long same) = let status = status_is answer _ _ is same in absurd (cc)
      by_kind (Script statements short read done tells) =
          let one = makes_run statements tells.events (in_range_input call.0 statements short read) tells.whole in
          (call.0, statements, tells.events, one.0, reads_all old new call.0 call.1 short, read, tells.merged, one.1, subst Given tells.told given)
      by_kind (BadLine bad short read same) = let status = status_is answer _ _ is same in absurd (cc)

  -- BadWords: the words don't ask for threads
  pub live_words_are : (mode : Option Mode) → AnswersLiveCall mode kept old new answer → statuses.BadWords ≡ answer.status
      → (takes_live mode ≡ false) × Given bad_words_text
  live_words_are None call is = (refl, given_as _ call.0)
  live_words_are (Some (Run seed trace)) call is = (refl, given_as _ call.0)
  live_words_are (Some Replay) call is = (refl, given_as _ call.0)
  live_words_are (Some (Gen number)) call is = (refl, given_as _ call.0)
  live_words_are (Some (Live trace)) call is = by_kind (live_is trace kept call.0 answer call.2)
    where
      by_kind : LiveIs trace kept call.0 answer → (takes_live (Some (Live trace)) ≡ false) × Given bad_words_text
      by_kind (TooLong long same) = let status = status_is answer _ _ is same in absurd (cc)
      by_kind (Script statements short read done tells) = absurd (cc)
      by_kind (BadLine bad short read same) = let status = status_is answer _ _ is same in absurd (cc)

  -- BadScript: what should be a script isn't one
  pub live_script_is : (mode : Option Mode) → AnswersLiveCall mode kept old new answer → statuses.BadScript ≡ answer.status
      → (takes_live mode ≡ true) × NamesBadLine Given old new (λ input. input)
  live_script_is None call is = let status = status_is answer _ _ is call.0 in absurd (cc)
  live_script_is (Some (Run seed trace)) call is = let status = status_is answer _ _ is call.0 in absurd (cc)
  live_script_is (Some Replay) call is = let status = status_is answer _ _ is call.0 in absurd (cc)
  live_script_is (Some (Gen number)) call is = let status = status_is answer _ _ is call.0 in absurd (cc)
  live_script_is (Some (Live trace)) call is = by_kind (live_is trace kept call.0 answer call.2)
    where
      by_kind : LiveIs trace kept call.0 answer → (takes_live (Some (Live trace)) ≡ true) × NamesBadLine Given old new (λ input. input)
      by_kind (TooLong long same) = let status = status_is answer _ _ is same in absurd (cc)
      by_kind (Script statements short read done tells) = absurd (cc)
      by_kind (BadLine bad short read same) = (refl, (call.0, bad.0, bad.1, reads_all old new call.0 call.1 short, read, given_as _ same))

  -- TooLong: one byte too much was taken
  pub live_is_too_long : (mode : Option Mode) → AnswersLiveCall mode kept old new answer → statuses.TooLong ≡ answer.status
      → (takes_live mode ≡ true) × ReadsTooMuch old new × Given too_long_text
  live_is_too_long None call is = let status = status_is answer _ _ is call.0 in absurd (cc)
  live_is_too_long (Some (Run seed trace)) call is = let status = status_is answer _ _ is call.0 in absurd (cc)
  live_is_too_long (Some Replay) call is = let status = status_is answer _ _ is call.0 in absurd (cc)
  live_is_too_long (Some (Gen number)) call is = let status = status_is answer _ _ is call.0 in absurd (cc)
  live_is_too_long (Some (Live trace)) call is = by_kind (live_is trace kept call.0 answer call.2)
    where
      by_kind : LiveIs trace kept call.0 answer → (takes_live (Some (Live trace)) ≡ true) × ReadsTooMuch old new × Given too_long_text
      by_kind (TooLong long same) = (refl, (call.0, call.1.consumed, omega (arith, call.1.bounded)), given_as _ same)
      by_kind (Script statements short read done tells) = absurd (cc)
      by_kind (BadLine bad short read same) = let status = status_is answer _ _ is same in absurd (cc)

-- what can be done has the status Done
pub can_live_is_done : (mode : Option Mode) (old new : Option (List ℕ)) (kept : Kept) (answer : Answer)
    → AnswersLiveCall mode kept old new answer → CanLive mode old → answer.status ≡ statuses.Done
can_live_is_done None old new kept answer call can = absurd can
can_live_is_done (Some (Run seed trace)) old new kept answer call can = absurd can
can_live_is_done (Some Replay) old new kept answer call can = absurd can
can_live_is_done (Some (Gen number)) old new kept answer call can = absurd can
can_live_is_done (Some (Live trace)) old new kept answer call can =
    let taken = taken_whole old new can.0 call.0 call.1 can.2 in
    let done : AnswersTaken trace kept can.0 answer (nat_lt INPUT_BYTES_MAX (length can.0)) =
    subst (λ (input : List ℕ). AnswersTaken trace kept input answer (nat_lt INPUT_BYTES_MAX (length input))) taken call.2 in
    let short : AnswersTaken trace kept can.0 answer false =
    subst (AnswersTaken trace kept can.0 answer) (le-ltb INPUT_BYTES_MAX (length can.0) can.2.short) done in
    let script : AnswersScript trace kept (Ok can.1) answer =
    subst (λ (read : Result (List Statement) (ℕ × LineCause)). AnswersScript trace kept read answer) can.3 short in
    script.0

told_live : (mode : Option Mode) (old new : Option (List ℕ)) (kept : Kept) (answer : Answer) → AnswersLiveCall mode kept old new answer
    → (is_told answer.status ≡ true) × (answer.status ≢ statuses.BadTrace)
told_live None old new kept answer call = (ap (λ (a : Answer). is_told a.status) call.0, λ is. absurd (cc))
told_live (Some (Run seed trace)) old new kept answer call = (ap (λ (a : Answer). is_told a.status) call.0, λ is. absurd (cc))
told_live (Some Replay) old new kept answer call = (ap (λ (a : Answer). is_told a.status) call.0, λ is. absurd (cc))
told_live (Some (Gen number)) old new kept answer call = (ap (λ (a : Answer). is_told a.status) call.0, λ is. absurd (cc))
told_live (Some (Live trace)) old new kept answer call = by_kind (live_is trace kept call.0 answer call.2)
  where
    by_kind : LiveIs trace kept call.0 answer → (is_told answer.status ≡ true) × (answer.status ≢ statuses.BadTrace)
    by_kind (TooLong long same) = (ap (λ (a : Answer). is_told a.status) same, λ is. absurd (cc))
    by_kind (Script statements short read done tells) = (ap is_told done, λ is. absurd (cc))
    by_kind (BadLine bad short read same) = (ap (λ (a : Answer). is_told a.status) same, λ is. absurd (cc))

module _ (mode : Option Mode) (old new : Option (List ℕ)) (kept : Kept) (answer : Answer) (call : AnswersLiveCall mode kept old new answer) where
  untold : (status : Status) → is_told status ≡ false → answer.status ≢ status
  untold status not is = let told = (told_live mode old new kept answer call).0 in let same = ap is_told is in absurd (cc)

  pub no_live_read_fault : answer.status ≢ statuses.ReadFault
  no_live_read_fault = untold statuses.ReadFault refl

  pub no_live_write_fault : answer.status ≢ statuses.WriteFault
  no_live_write_fault = untold statuses.WriteFault refl

  pub no_live_want : answer.status ≢ statuses.NoMemory
  no_live_want = untold statuses.NoMemory refl

  pub no_live_trace : answer.status ≢ statuses.BadTrace
  no_live_trace = (told_live mode old new kept answer call).1
