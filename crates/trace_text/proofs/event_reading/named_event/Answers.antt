use Rattle.std.proofs.Common.{◌∷◌, ◌++◌, List, ℕ, decimal, ◌∙◌, sym, ap, arith}
use Rattle.trace_text.specs.EventReading.{event_in}
use Rattle.trace_text.proofs.WordReading.{number-read, name-read, no-number, no-name}
use Rattle.trace_text.proofs.event_reading.named_event.Goals as goal

pub returns-in_err-number_in-in-Some : goal.returns-in_err-number_in-in-Some
returns-in_err-number_in-in-Some c lacks =
    c.from_residual.ensures
    ∙ sym (ap (λ (name : List ℕ). event_in (c.args.word.now ++ 32 ∷ name)) c.in-Some.ensures.parts
    ∙ no-name c.args.word.now c.in-Some.sender.now c.in-Some.number.now lacks c.in-Some.ensures.first
    (λ s n s_lt n_lt is also. c.in_err-number_in-in-Some.ensures.none s s_lt is))

pub returns-in_err-number_in-in-Some-2 : goal.returns-in_err-number_in-in-Some-2
returns-in_err-number_in-in-Some-2 c lacks =
    c.from_residual-in_err-number_in-in-Some-2.ensures
    ∙ sym (ap (λ (name : List ℕ). event_in (c.args.word.now ++ 32 ∷ name)) c.in-Some.ensures.parts
    ∙ no-name c.args.word.now c.in-Some.sender.now c.in-Some.number.now lacks c.in-Some.ensures.first
    (λ s n s_lt n_lt is also. c.in_err-number_in-in-Some-2.ensures.none n n_lt also))

pub returns-in_err-number_in-in-None : goal.returns-in_err-number_in-in-None
returns-in_err-number_in-in-None c lacks =
    c.from_residual-in_err-number_in-in-None.ensures
    ∙ sym (no-number c.args.word.now c.args.name.now lacks c.in-None.ensures.none c.in_err-number_in-in-None.ensures.none)

pub returns-in_ok-number_in-in-Some-2 : goal.returns-in_ok-number_in-in-Some-2
returns-in_ok-number_in-in-Some-2 c lacks =
    c.message_event.ensures
    ∙ sym (ap (λ (name : List ℕ). event_in (c.args.word.now ++ 32 ∷ name))
    (c.in-Some.ensures.parts
    ∙ ap (λ (s : List ℕ). s ++ 46 ∷ c.in-Some.number.now) c.in_ok-number_in-in-Some.ensures.spelled
    ∙ ap (λ (n : List ℕ). decimal c.in_ok-number_in-in-Some.field-0 ++ 46 ∷ n) c.in_ok-number_in-in-Some-2.ensures.spelled)
    ∙ name-read c.args.word.now c.in_ok-number_in-in-Some.field-0 c.in_ok-number_in-in-Some-2.field-0 lacks (omega arith) (omega arith))

pub returns-in_ok-number_in-in-None : goal.returns-in_ok-number_in-in-None
returns-in_ok-number_in-in-None c lacks =
    c.numbered_event.ensures
    ∙ sym (ap (λ (name : List ℕ). event_in (c.args.word.now ++ 32 ∷ name)) c.in_ok-number_in-in-None.ensures.spelled
    ∙ number-read c.args.word.now c.in_ok-number_in-in-None.field-0 lacks (omega arith))
