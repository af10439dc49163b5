-- What a status tells of the answer that the call came to.
use Rattle.std.proofs.Common.{◌≡◌, ◌≢◌, ℕ, ◌<◌, ◌≤◌, List, [], ◌++◌, length, refl, sym, ap, ◌∙◌, subst, arith, Bool, true, false}
use Rattle.std.specs.Prelude.{Option, Some, None, Result, Ok, Err, nat_lt}
use Rattle.std.specs.Option.{option_map}
use Rattle.std.proofs.lemmas.Bool.{ltb-true, ltb-false, le-ltb}
use Rattle.std.proofs.lemmas.List.{append-nil, length-append}
use Rattle.object_id.specs.declared.limits.TheConstants.{INPUT_BYTES_MAX}
use Rattle.cluster_script.specs.declared.fault.LineCause.{LineCause}
use Rattle.cluster_script.specs.declared.statement.Statement.{Statement}
use Rattle.cluster_script.specs.Script.{script_in}
use Rattle.disk_history.specs.declared.event.HistEvent.{HistEvent}
use Rattle.sheep_node.specs.declared.event.Event.{Event}
use Rattle.sheep_world.specs.Run.{Moment, IsWholeRun}
use Rattle.schedule.specs.Schedule.{schedule_of}
use Rattle.schedule.specs.GeneratedScript.{generated_statements}
use Rattle.overlap_law.specs.MomentChanges.{RunsAreInRange}
use Rattle.overlap_law.proofs.RunsKeepHeadline.{run_keeps_headline}
use Rattle.overlap_law.proofs.InputRange.{in_range_input}
use Rattle.schedule.proofs.WholeLaws.{schedule-is-whole}
use Rattle.trace_text.specs.Lines.{trace_lines}
use Rattle.trace_text.specs.InputParts.{script_part}
use Rattle.trace_text.specs.Replay.{events_in, bad_place}
use Rattle.trace_text.proofs.PartLengths.{script_part-short}
use Rattle.trace_text.proofs.ReplayLaws.{whole-run}
use Rattle.sheep_words.specs.declared.mode.Mode.{Mode}
use Rattle.sheep_words.specs.declared.mode.Mode.TheVariants.{Run, Replay, Gen, Live}
use Rattle.sheep.specs.declared.answer.Answer.{Answer}
use Rattle.sheep.specs.declared.answer.Work.{Work}
use Rattle.sheep.specs.declared.answer.Work.TheVariants as works
use Rattle.sheep.specs.declared.status.Status.{Status}
use Rattle.sheep.specs.declared.status.Status.TheVariants as statuses
use Rattle.sheep.specs.Reading.{Reads, ReadsAll, ReadsTooMuch}
use Rattle.sheep.specs.Answer.{run_answer, replayed_answer, bad_script_answer, too_long_text, bad_words_text, answer_to, AnswersCall}
use Rattle.sheep.proofs.PrintedReplies.{prints-replies}
use Rattle.sheep.proofs.PrintedReads.{done-on_open_disks}
use Rattle.sheep.proofs.GeneratedRange.{generated_in_range}
use Rattle.sheep.specs.Outcome.{reads_input, takes_words, MakesRun, IsDone, IsBadScript, NamesBadEvent, HasInput, CanBeDone}

-- a whole run in range has a history, which has the replies that are printed, and what is done by them; and they are one legal history
pub makes_run : (statements : List Statement) (events : List Event) → RunsAreInRange statements → IsWholeRun statements events
    → (history : List HistEvent) × MakesRun statements events history
makes_run statements events range whole = (
  whole.0.history,
  record {
    whole = whole;
    kept = ap (option_map (λ (moment : Moment). moment.history)) whole.1;
    replies = prints-replies statements events whole.0 range.is_script whole.1;
    done = done-on_open_disks statements range events whole.0.history;
    headline = run_keeps_headline statements range events whole.0 whole.1;
  },
)

-- the part of an input that is to be a script
abbrev pub script_of_input : Work → List ℕ → List ℕ
script_of_input (works.Run seed trace) input = input
script_of_input works.Replay input = script_part input

-- the answer, where it is one
abbrev pub script_done : Work → List ℕ → List Statement → Answer
script_done (works.Run seed trace) input statements = run_answer seed trace (Ok statements)
script_done works.Replay input statements = replayed_answer statements (trace_lines input) (bad_place statements (trace_lines input))

-- the three kinds of input
pub data InputIs (work : Work) (input : List ℕ) (answer : Answer) : Type 0 where
  TooLong : INPUT_BYTES_MAX < length input → answer ≡ record { status = statuses.TooLong; text = too_long_text } → InputIs work input answer
  Script : (statements : List Statement) → length input ≤ INPUT_BYTES_MAX → script_in (script_of_input work input) ≡ Ok statements
      → answer ≡ script_done work input statements → InputIs work input answer
  BadLine : (bad : ℕ × LineCause) → length input ≤ INPUT_BYTES_MAX → script_in (script_of_input work input) ≡ Err bad
      → answer ≡ bad_script_answer bad → InputIs work input answer

pub input_is : (work : Work) (input : List ℕ) (answer : Answer) → answer ≡ answer_to work input → InputIs work input answer
input_is (works.Run seed trace) input answer is = by_kind (nat_lt INPUT_BYTES_MAX (length input)) refl (script_in input) refl
  where
    by_kind : (long : Bool) → nat_lt INPUT_BYTES_MAX (length input) ≡ long → (read : Result (List Statement) (ℕ × LineCause)) → script_in input ≡ read
        → InputIs (works.Run seed trace) input answer
    by_kind true h read r = TooLong (ltb-true INPUT_BYTES_MAX (length input) h) (is ∙ rw h refl)
    by_kind false h (Ok statements) r = Script statements (ltb-false INPUT_BYTES_MAX (length input) h) r (is ∙ rw (h, r) refl)
    by_kind false h (Err bad) r = BadLine bad (ltb-false INPUT_BYTES_MAX (length input) h) r (is ∙ rw (h, r) refl)
input_is works.Replay input answer is = by_kind (nat_lt INPUT_BYTES_MAX (length input)) refl (script_in (script_part input)) refl
  where
    by_kind : (long : Bool) → nat_lt INPUT_BYTES_MAX (length input) ≡ long → (read : Result (List Statement) (ℕ × LineCause))
        → script_in (script_part input) ≡ read → InputIs works.Replay input answer
    by_kind true h read r = TooLong (ltb-true INPUT_BYTES_MAX (length input) h) (is ∙ rw h refl)
    by_kind false h (Ok statements) r = Script statements (ltb-false INPUT_BYTES_MAX (length input) h) r (is ∙ rw (h, r) refl)
    by_kind false h (Err bad) r = BadLine bad (ltb-false INPUT_BYTES_MAX (length input) h) r (is ∙ rw (h, r) refl)

-- what was read, where it isn't too long
pub reads_all : (old new : Option (List ℕ)) (input : List ℕ) → Reads old new input → length input ≤ INPUT_BYTES_MAX → ReadsAll old new input
reads_all old new input reads short = record { consumed = reads.consumed; ended = reads.ended short; short = short }

pub status_is : (answer other : Answer) (status : Status) → status ≡ answer.status → answer ≡ other → status ≡ other.status
status_is answer other status is same = is ∙ ap (λ (a : Answer). a.status) same

module _ (Given : List ℕ → Type 0) (old new : Option (List ℕ)) (answer : Answer) (given : Given answer.text) where
  given_as : (other : Answer) → answer ≡ other → Given other.text
  given_as other same = subst Given (ap (λ (a : Answer). a.text) same) given

  -- Done: what the words ask for was done
  pub done_is : (mode : Option Mode) → AnswersCall mode old new answer → statuses.Done ≡ answer.status → IsDone Given old new mode
  done_is None call is = let status = status_is answer _ _ is call.0 in absurd (cc)
  done_is (Some (Run seed trace)) call is = by_kind (input_is (works.Run seed trace) call.0 answer call.2)
    where
      by_kind : InputIs (works.Run seed trace) call.0 answer → IsDone Given old new (Some (Run seed trace))
      by_kind (TooLong long same) = let status = status_is answer _ _ is same in absurd (cc)
      by_kind (Script statements short read same) =
          let one = makes_run statements (schedule_of statements seed) (in_range_input call.0 statements short read)
          (schedule-is-whole statements seed) in
          (call.0, statements, one.0, reads_all old new call.0 call.1 short, read, one.1, given_as _ same)
      by_kind (BadLine bad short read same) = let status = status_is answer _ _ is same in absurd (cc)
  done_is (Some Replay) call is = by_kind (input_is works.Replay call.0 answer call.2)
    where
      by_place : (statements : List Statement) → length call.0 ≤ INPUT_BYTES_MAX → script_in (script_part call.0) ≡ Ok statements
          → (place : Option ℕ) → bad_place statements (trace_lines call.0) ≡ place
          → answer ≡ replayed_answer statements (trace_lines call.0) place → IsDone Given old new (Some Replay)
      by_place statements short read None good same =
          let whole = whole-run statements (trace_lines call.0) good in
          let range = in_range_input (script_part call.0) statements (script_part-short call.0 INPUT_BYTES_MAX short) read in
          let one = makes_run statements (events_in (trace_lines call.0)) range whole.0 in
          (call.0, statements, events_in (trace_lines call.0), one.0, reads_all old new call.0 call.1 short, read, whole.1, one.1, given_as _ same)
      by_place statements short read (Some place) bad same = let status = status_is answer _ _ is same in absurd (cc)

      by_kind : InputIs works.Replay call.0 answer → IsDone Given old new (Some Replay)
      by_kind (TooLong long same) = let status = status_is answer _ _ is same in absurd (cc)
      by_kind (Script statements short read same) = by_place statements short read (bad_place statements (trace_lines call.0)) refl same
      by_kind (BadLine bad short read same) = let status = status_is answer _ _ is same in absurd (cc)
  done_is (Some (Gen number)) call is =
      let one = makes_run (generated_statements number) (schedule_of (generated_statements number) number) (generated_in_range number)
      (schedule-is-whole (generated_statements number) number) in
      (one.0, call.1, one.1, given_as _ call.0)
  done_is (Some (Live trace)) call is = let status = status_is answer _ _ is call.0 in absurd (cc)

  -- BadWords: the words aren't this call's
  pub bad_words_is : (mode : Option Mode) → AnswersCall mode old new answer → statuses.BadWords ≡ answer.status
      → (takes_words mode ≡ false) × Given bad_words_text
  bad_words_is None call is = (refl, given_as _ call.0)
  bad_words_is (Some (Run seed trace)) call is = by_kind (input_is (works.Run seed trace) call.0 answer call.2)
    where
      by_kind : InputIs (works.Run seed trace) call.0 answer → (takes_words (Some (Run seed trace)) ≡ false) × Given bad_words_text
      by_kind (TooLong long same) = let status = status_is answer _ _ is same in absurd (cc)
      by_kind (Script statements short read same) = let status = status_is answer _ _ is same in absurd (cc)
      by_kind (BadLine bad short read same) = let status = status_is answer _ _ is same in absurd (cc)
  bad_words_is (Some Replay) call is = by_kind (input_is works.Replay call.0 answer call.2)
    where
      by_place : (statements : List Statement) (place : Option ℕ) → answer ≡ replayed_answer statements (trace_lines call.0) place
          → (takes_words (Some Replay) ≡ false) × Given bad_words_text
      by_place statements None same = let status = status_is answer _ _ is same in absurd (cc)
      by_place statements (Some place) same = let status = status_is answer _ _ is same in absurd (cc)

      by_kind : InputIs works.Replay call.0 answer → (takes_words (Some Replay) ≡ false) × Given bad_words_text
      by_kind (TooLong long same) = let status = status_is answer _ _ is same in absurd (cc)
      by_kind (Script statements short read same) = by_place statements (bad_place statements (trace_lines call.0)) same
      by_kind (BadLine bad short read same) = let status = status_is answer _ _ is same in absurd (cc)
  bad_words_is (Some (Gen number)) call is = let status = status_is answer _ _ is call.0 in absurd (cc)
  bad_words_is (Some (Live trace)) call is = (refl, given_as _ call.0)

  -- BadScript: what should be a script isn't one
  pub bad_script_is : (mode : Option Mode) → AnswersCall mode old new answer → statuses.BadScript ≡ answer.status → IsBadScript Given old new mode
  bad_script_is None call is = let status = status_is answer _ _ is call.0 in absurd (cc)
  bad_script_is (Some (Run seed trace)) call is = by_kind (input_is (works.Run seed trace) call.0 answer call.2)
    where
      by_kind : InputIs (works.Run seed trace) call.0 answer → IsBadScript Given old new (Some (Run seed trace))
      by_kind (TooLong long same) = let status = status_is answer _ _ is same in absurd (cc)
      by_kind (Script statements short read same) = let status = status_is answer _ _ is same in absurd (cc)
      by_kind (BadLine bad short read same) = (call.0, bad.0, bad.1, reads_all old new call.0 call.1 short, read, given_as _ same)
  bad_script_is (Some Replay) call is = by_kind (input_is works.Replay call.0 answer call.2)
    where
      by_place : (statements : List Statement) (place : Option ℕ) → answer ≡ replayed_answer statements (trace_lines call.0) place
          → IsBadScript Given old new (Some Replay)
      by_place statements None same = let status = status_is answer _ _ is same in absurd (cc)
      by_place statements (Some place) same = let status = status_is answer _ _ is same in absurd (cc)

      by_kind : InputIs works.Replay call.0 answer → IsBadScript Given old new (Some Replay)
      by_kind (TooLong long same) = let status = status_is answer _ _ is same in absurd (cc)
      by_kind (Script statements short read same) = by_place statements (bad_place statements (trace_lines call.0)) same
      by_kind (BadLine bad short read same) = (call.0, bad.0, bad.1, reads_all old new call.0 call.1 short, read, given_as _ same)
  bad_script_is (Some (Gen number)) call is = let status = status_is answer _ _ is call.0 in absurd (cc)
  bad_script_is (Some (Live trace)) call is = let status = status_is answer _ _ is call.0 in absurd (cc)

  -- BadTrace: the trace is no whole run
  pub bad_trace_is : (mode : Option Mode) → AnswersCall mode old new answer → statuses.BadTrace ≡ answer.status
      → (mode ≡ Some Replay) × NamesBadEvent Given old new
  bad_trace_is None call is = let status = status_is answer _ _ is call.0 in absurd (cc)
  bad_trace_is (Some (Run seed trace)) call is = by_kind (input_is (works.Run seed trace) call.0 answer call.2)
    where
      by_kind : InputIs (works.Run seed trace) call.0 answer → (Some (Run seed trace) ≡ Some Replay) × NamesBadEvent Given old new
      by_kind (TooLong long same) = let status = status_is answer _ _ is same in absurd (cc)
      by_kind (Script statements short read same) = let status = status_is answer _ _ is same in absurd (cc)
      by_kind (BadLine bad short read same) = let status = status_is answer _ _ is same in absurd (cc)
  bad_trace_is (Some Replay) call is = by_kind (input_is works.Replay call.0 answer call.2)
    where
      by_place : (statements : List Statement) → length call.0 ≤ INPUT_BYTES_MAX → script_in (script_part call.0) ≡ Ok statements
          → (place : Option ℕ) → bad_place statements (trace_lines call.0) ≡ place
          → answer ≡ replayed_answer statements (trace_lines call.0) place → (Some Replay ≡ Some Replay) × NamesBadEvent Given old new
      by_place statements short read None good same = let status = status_is answer _ _ is same in absurd (cc)
      by_place statements short read (Some place) bad same =
          (refl, (call.0, statements, place, reads_all old new call.0 call.1 short, read, bad, given_as _ same))

      by_kind : InputIs works.Replay call.0 answer → (Some Replay ≡ Some Replay) × NamesBadEvent Given old new
      by_kind (TooLong long same) = let status = status_is answer _ _ is same in absurd (cc)
      by_kind (Script statements short read same) = by_place statements short read (bad_place statements (trace_lines call.0)) refl same
      by_kind (BadLine bad short read same) = let status = status_is answer _ _ is same in absurd (cc)
  bad_trace_is (Some (Gen number)) call is = let status = status_is answer _ _ is call.0 in absurd (cc)
  bad_trace_is (Some (Live trace)) call is = let status = status_is answer _ _ is call.0 in absurd (cc)

  -- TooLong: one byte too much was taken
  pub too_long_is : (mode : Option Mode) → AnswersCall mode old new answer → statuses.TooLong ≡ answer.status
      → (reads_input mode ≡ true) × ReadsTooMuch old new × Given too_long_text
  too_long_is None call is = let status = status_is answer _ _ is call.0 in absurd (cc)
  too_long_is (Some (Run seed trace)) call is = by_kind (input_is (works.Run seed trace) call.0 answer call.2)
    where
      by_kind : InputIs (works.Run seed trace) call.0 answer
          → (reads_input (Some (Run seed trace)) ≡ true) × ReadsTooMuch old new × Given too_long_text
      by_kind (TooLong long same) = (refl, (call.0, call.1.consumed, omega (arith, call.1.bounded)), given_as _ same)
      by_kind (Script statements short read same) = let status = status_is answer _ _ is same in absurd (cc)
      by_kind (BadLine bad short read same) = let status = status_is answer _ _ is same in absurd (cc)
  too_long_is (Some Replay) call is = by_kind (input_is works.Replay call.0 answer call.2)
    where
      by_place : (statements : List Statement) (place : Option ℕ) → answer ≡ replayed_answer statements (trace_lines call.0) place
          → (reads_input (Some Replay) ≡ true) × ReadsTooMuch old new × Given too_long_text
      by_place statements None same = let status = status_is answer _ _ is same in absurd (cc)
      by_place statements (Some place) same = let status = status_is answer _ _ is same in absurd (cc)

      by_kind : InputIs works.Replay call.0 answer → (reads_input (Some Replay) ≡ true) × ReadsTooMuch old new × Given too_long_text
      by_kind (TooLong long same) = (refl, (call.0, call.1.consumed, omega (arith, call.1.bounded)), given_as _ same)
      by_kind (Script statements short read same) = by_place statements (bad_place statements (trace_lines call.0)) same
      by_kind (BadLine bad short read same) = let status = status_is answer _ _ is same in absurd (cc)
  too_long_is (Some (Gen number)) call is = let status = status_is answer _ _ is call.0 in absurd (cc)
  too_long_is (Some (Live trace)) call is = let status = status_is answer _ _ is call.0 in absurd (cc)

-- what a source has is taken whole, where it isn't too long
pub taken_whole : (old new : Option (List ℕ)) (input taken : List ℕ) → Reads old new taken → HasInput old input → taken ≡ input
taken_whole None new input taken reads has = let none = has.whole in absurd (cc)
taken_whole (Some xs) None input taken reads has = absurd reads.consumed
taken_whole (Some xs) (Some ys) input taken reads has = whole (reads.ended (omega (arith, fits, has.short)))
  where
    same : input ≡ taken ++ ys
    same = let is = has.whole in let consumed = reads.consumed in cc

    fits : length taken ≤ length input
    fits = subst (λ (all : List ℕ). length taken ≤ length all) (sym same) (omega (arith, length-append taken ys))

    whole : ys ≡ [] → taken ≡ input
    whole none = sym (append-nil taken) ∙ ap (λ (rest : List ℕ). taken ++ rest) (sym none) ∙ sym same

-- what can be done has the status Done
pub can_is_done : (mode : Option Mode) (old new : Option (List ℕ)) (answer : Answer) → AnswersCall mode old new answer → CanBeDone mode old
    → answer.status ≡ statuses.Done
can_is_done None old new answer call can = absurd can
can_is_done (Some (Run seed trace)) old new answer call can =
    let taken = taken_whole old new can.0 call.0 call.1 can.2 in
    let long = le-ltb INPUT_BYTES_MAX (length can.0) can.2.short in
    let same : answer ≡ run_answer seed trace (Ok can.1) = call.2 ∙ ap (answer_to (works.Run seed trace)) taken ∙ rw (long, can.3) refl in
    ap (λ (a : Answer). a.status) same
can_is_done (Some Replay) old new answer call can =
    let taken = taken_whole old new can.0 call.0 call.1 can.2 in
    let long = le-ltb INPUT_BYTES_MAX (length can.0) can.2.short in
    let same : answer ≡ replayed_answer can.1 (trace_lines can.0) None =
    call.2 ∙ ap (answer_to works.Replay) taken ∙ rw (long, can.3, can.4) refl in
    ap (λ (a : Answer). a.status) same
can_is_done (Some (Gen number)) old new answer call can = ap (λ (a : Answer). a.status) call.0
can_is_done (Some (Live trace)) old new answer call can = absurd can

-- whether an answer may have this status: the others come of faults and of want of memory
abbrev pub is_told : Status → Bool
is_told statuses.Done = true
is_told statuses.BadWords = true
is_told statuses.BadScript = true
is_told statuses.ReadFault = false
is_told statuses.WriteFault = false
is_told statuses.NoMemory = false
is_told statuses.BadTrace = true
is_told statuses.TooLong = true

told_status : (mode : Option Mode) (old new : Option (List ℕ)) (answer : Answer) → AnswersCall mode old new answer → is_told answer.status ≡ true
told_status None old new answer call = ap (λ (a : Answer). is_told a.status) call.0
told_status (Some (Run seed trace)) old new answer call = by_kind (input_is (works.Run seed trace) call.0 answer call.2)
  where
    by_kind : InputIs (works.Run seed trace) call.0 answer → is_told answer.status ≡ true
    by_kind (TooLong long same) = ap (λ (a : Answer). is_told a.status) same
    by_kind (Script statements short read same) = ap (λ (a : Answer). is_told a.status) same
    by_kind (BadLine bad short read same) = ap (λ (a : Answer). is_told a.status) same
told_status (Some Replay) old new answer call = by_kind (input_is works.Replay call.0 answer call.2)
  where
    by_place : (statements : List Statement) (place : Option ℕ) → answer ≡ replayed_answer statements (trace_lines call.0) place
        → is_told answer.status ≡ true
    by_place statements None same = ap (λ (a : Answer). is_told a.status) same
    by_place statements (Some place) same = ap (λ (a : Answer). is_told a.status) same

    by_kind : InputIs works.Replay call.0 answer → is_told answer.status ≡ true
    by_kind (TooLong long same) = ap (λ (a : Answer). is_told a.status) same
    by_kind (Script statements short read same) = by_place statements (bad_place statements (trace_lines call.0)) same
    by_kind (BadLine bad short read same) = ap (λ (a : Answer). is_told a.status) same
told_status (Some (Gen number)) old new answer call = ap (λ (a : Answer). is_told a.status) call.0
told_status (Some (Live trace)) old new answer call = ap (λ (a : Answer). is_told a.status) call.0

pub no_read_fault : (mode : Option Mode) (old new : Option (List ℕ)) (answer : Answer) → AnswersCall mode old new answer
    → answer.status ≢ statuses.ReadFault
no_read_fault mode old new answer call is =
    let told : true ≡ false = sym (told_status mode old new answer call) ∙ ap is_told is in absurd (cc)

pub no_write_fault : (mode : Option Mode) (old new : Option (List ℕ)) (answer : Answer) → AnswersCall mode old new answer
    → answer.status ≢ statuses.WriteFault
no_write_fault mode old new answer call is =
    let told : true ≡ false = sym (told_status mode old new answer call) ∙ ap is_told is in absurd (cc)

pub no_want : (mode : Option Mode) (old new : Option (List ℕ)) (answer : Answer) → AnswersCall mode old new answer
    → answer.status ≢ statuses.NoMemory
no_want mode old new answer call is =
    let told : true ≡ false = sym (told_status mode old new answer call) ∙ ap is_told is in absurd (cc)
