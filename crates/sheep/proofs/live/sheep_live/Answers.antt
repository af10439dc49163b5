use Rattle.std.proofs.Common.{inl, sym}
use Rattle.sheep_base.specs.Sink.{Gains}
use Rattle.sheep_words.specs.Mode.{mode_asked_for}
use Rattle.sheep.proofs.LiveAnswers.{live_done_is, live_words_are, live_script_is, live_is_too_long, can_live_is_done}
use Rattle.sheep.proofs.LiveAnswers.{no_live_read_fault, no_live_write_fault, no_live_want, no_live_trace}
use Rattle.sheep.proofs.live.sheep_live.Goals as goal

pub returns-in-Ok-put_all-clause-done : goal.returns-in-Ok-put_all-clause-done
returns-in-Ok-put_all-clause-done g c =
    let whole = c.in-Ok-put_all.ensures.whole in
    let given = rw c.as_slice.ensures at whole in
    λ is. live_done_is (Gains g.K.Sink.stops (g.K.Sink.given c.args.sink.now) (g.K.Sink.given c.put_all.new.sink)) _ _ _
    c.in-Ok.answer given (mode_asked_for c.args.words.now) c.in-Ok.ensures.answered (sym is)

pub returns-in-Ok-put_all-clause-bad_words : goal.returns-in-Ok-put_all-clause-bad_words
returns-in-Ok-put_all-clause-bad_words g c =
    let whole = c.in-Ok-put_all.ensures.whole in
    let given = rw c.as_slice.ensures at whole in
    λ is. live_words_are (Gains g.K.Sink.stops (g.K.Sink.given c.args.sink.now) (g.K.Sink.given c.put_all.new.sink)) _ _ _
    c.in-Ok.answer given (mode_asked_for c.args.words.now) c.in-Ok.ensures.answered (sym is)

pub returns-in-Ok-put_all-clause-bad_script : goal.returns-in-Ok-put_all-clause-bad_script
returns-in-Ok-put_all-clause-bad_script g c =
    let whole = c.in-Ok-put_all.ensures.whole in
    let given = rw c.as_slice.ensures at whole in
    λ is. live_script_is (Gains g.K.Sink.stops (g.K.Sink.given c.args.sink.now) (g.K.Sink.given c.put_all.new.sink)) _ _ _
    c.in-Ok.answer given (mode_asked_for c.args.words.now) c.in-Ok.ensures.answered (sym is)

pub returns-in-Ok-put_all-clause-too_long : goal.returns-in-Ok-put_all-clause-too_long
returns-in-Ok-put_all-clause-too_long g c =
    let whole = c.in-Ok-put_all.ensures.whole in
    let given = rw c.as_slice.ensures at whole in
    λ is. live_is_too_long (Gains g.K.Sink.stops (g.K.Sink.given c.args.sink.now) (g.K.Sink.given c.put_all.new.sink)) _ _ _
    c.in-Ok.answer given (mode_asked_for c.args.words.now) c.in-Ok.ensures.answered (sym is)

pub returns-in-Ok-put_all-clause-no_trace : goal.returns-in-Ok-put_all-clause-no_trace
returns-in-Ok-put_all-clause-no_trace g c = λ is.
    absurd (no_live_trace (mode_asked_for c.args.words.now) _ _ _ c.in-Ok.answer c.in-Ok.ensures.answered is)

pub returns-in-Ok-put_all-clause-read_fault : goal.returns-in-Ok-put_all-clause-read_fault
returns-in-Ok-put_all-clause-read_fault g c = λ is.
    absurd (no_live_read_fault (mode_asked_for c.args.words.now) _ _ _ c.in-Ok.answer c.in-Ok.ensures.answered is)

pub returns-in-Ok-put_all-clause-write_fault : goal.returns-in-Ok-put_all-clause-write_fault
returns-in-Ok-put_all-clause-write_fault g c = λ is.
    absurd (no_live_write_fault (mode_asked_for c.args.words.now) _ _ _ c.in-Ok.answer c.in-Ok.ensures.answered is)

pub returns-in-Ok-put_all-clause-no_memory : goal.returns-in-Ok-put_all-clause-no_memory
returns-in-Ok-put_all-clause-no_memory g c = λ is.
    absurd (no_live_want (mode_asked_for c.args.words.now) _ _ _ c.in-Ok.answer c.in-Ok.ensures.answered is)

pub returns-in-Ok-put_all-clause-complete : goal.returns-in-Ok-put_all-clause-complete
returns-in-Ok-put_all-clause-complete g c = λ can source_calm sink_calm.
    inl (can_live_is_done (mode_asked_for c.args.words.now) _ _ _ c.in-Ok.answer c.in-Ok.ensures.answered can)
