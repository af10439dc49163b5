use Rattle.std.specs.Prelude.{IsOk}
use Rattle.std.proofs.Common.{rules, ◌≡◌, ◌+◌, ◌≤◌, Ok, Err, [], length, sym, ap, ◌∙◌, arith}
use Rattle.std.proofs.lemmas.List.{nil_from_length}
use Rattle.std.specs.List.{before_first}
use Rattle.cluster_script.specs.Words.{lines_of}
use Rattle.cluster_script.specs.Script.{statement_at, line_at, script_of, IsLineTaken}
use Rattle.cluster_script.proofs.LineSteps.{is_feed, script_ends, script_is_bad, script_after, bad_line_is_later, stopped_by, wanting_for}
use Rattle.cluster_script.proofs.script.parse.Goals as goal

pub returns-in-Err-Cause-clause-exact : goal.returns-in-Err-Cause-clause-exact
returns-in-Err-Cause-clause-exact c =
    let fails = c.in-Err-Cause.ensures.err in
    let bad = stopped_by c.in-Err-Cause.field-0 c.in-Err-Cause.cause _ c.in-Err-Cause.field-0-is fails in
    let first : line_at statement_at c.loop-rest.draft (before_first is_feed c.loop-rest.rest.now) ≡ Err c.in-Err-Cause.cause = rw (sym c.cut.ensures.before) bad in
    sym c.loop-rest.invariant.exact ∙ script_is_bad statement_at c.loop-rest.draft c.loop-rest.number c.loop-rest.rest.now c.in-Err-Cause.cause first ∙ cc c.in-Err-Cause.cause-is

-- memory was wanting for a line that is read, so a bad line stands behind it
pub returns-in-Err-NoMemory-clause-exact : goal.returns-in-Err-NoMemory-clause-exact
returns-in-Err-NoMemory-clause-exact c =
    let wanting = wanting_for c.in-Err-NoMemory.field-0 _ c.in-Err-NoMemory.field-0-is c.in-Err-NoMemory.ensures.err in
    let is_read : IsOk (line_at statement_at c.loop-rest.draft (before_first is_feed c.loop-rest.rest.now)) = rw (sym c.cut.ensures.before) wanting in
    rw (sym c.loop-rest.invariant.exact)
    (bad_line_is_later statement_at c.loop-rest.draft c.loop-rest.number c.loop-rest.rest.now c.loop-rest.invariant.first is_read)

pub loop-rest-preserved : goal.loop-rest-preserved
loop-rest-preserved c =
    let taken : IsLineTaken c.loop-rest.draft c.take_line.new.draft (line_at statement_at c.loop-rest.draft (before_first is_feed c.loop-rest.rest.now)) = rw (sym c.cut.ensures.before) c.in-Ok.ensures.ok in
    let after = script_after statement_at c.loop-rest.draft c.take_line.new.draft c.loop-rest.number c.loop-rest.rest.now taken in
    let shorter : length c.cut.result.1.now + 1 ≤ length c.loop-rest.rest.now = search rules in
    record {
      exact = rw c.cut.ensures.after (sym after.0 ∙ c.loop-rest.invariant.exact);
      first = omega (arith, c.loop-rest.invariant.first);
      numbered = omega (arith, c.loop-rest.invariant.numbered);
      count = omega (arith, after.1, c.loop-rest.invariant.count);
    }

pub returns-in-Ok-of-clause-exact : goal.returns-in-Ok-of-clause-exact
returns-in-Ok-of-clause-exact c =
    let e : c.loop-rest.rest.now ≡ [] = nil_from_length c.loop-rest.rest.now (search rules) in
    sym c.loop-rest.invariant.exact
    ∙ ap (λ t. script_of statement_at c.loop-rest.draft c.loop-rest.number (lines_of t)) e
    ∙ script_ends statement_at c.loop-rest.draft c.loop-rest.number
    ∙ ap Ok (sym c.into_statements.ensures.statements ∙ sym c.in-Ok-of.ensures)

-- every line was read, so no line is bad
pub returns-in-Err-clause-exact : goal.returns-in-Err-clause-exact
returns-in-Err-clause-exact c =
    let e : c.loop-rest.rest.now ≡ [] = nil_from_length c.loop-rest.rest.now (search rules) in
    let whole = sym c.loop-rest.invariant.exact
    ∙ ap (λ t. script_of statement_at c.loop-rest.draft c.loop-rest.number (lines_of t)) e
    ∙ script_ends statement_at c.loop-rest.draft c.loop-rest.number in
    rw whole tt
