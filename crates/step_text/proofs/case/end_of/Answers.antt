use Rattle.std.proofs.Common.{◌≡◌, ℕ, List, Ok, ap, subst, ◌∙◌}
use Rattle.std.proofs.lemmas.Result.{on_ok_weaker}
use Rattle.cluster_script.specs.Script.{script_in}
use Rattle.trace_text.specs.InputParts.{script_part, trace_part}
use Rattle.trace_text.specs.Lines.{lines_in}
use Rattle.step_text.specs.Cases.{HasEnd, IsCase}
use Rattle.step_text.proofs.case.end_of.Goals as goal

-- the text has its script and its trace
pub returns-clause-told : goal.returns-clause-told
returns-clause-told c =
    on_ok_weaker {
    Q = IsCase c.args.case.now
    } c.told.result (λ end. record {
      statements = c.in_ok-script.script;
      script =
          subst (λ (text : List ℕ). script_in text ≡ Ok c.in_ok-script.script)
          (c.input_parts.ensures.script ∙ ap script_part c.as_bytes.ensures.value) c.in_ok-script.ensures.read;
      end =
          subst (λ (trace : List ℕ). HasEnd c.in_ok-script.script (lines_in trace))
          (c.input_parts.ensures.trace ∙ ap trace_part c.as_bytes.ensures.value) end;
    }) c.told.ensures.taken
