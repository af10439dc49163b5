use Rattle.trace_text.proofs.SeparatorLemmas.{parts-at, before-lacks, all-lacks}
use Rattle.trace_text.proofs.split.split_once.Goals as goal

pub returns-in-Some-clause-parts : goal.returns-in-Some-clause-parts
returns-in-Some-clause-parts c = parts-at c.args.separator c.args.bytes.now c.in-Some.place c.in-Some.ensures

pub returns-in-Some-clause-first : goal.returns-in-Some-clause-first
returns-in-Some-clause-first c = before-lacks c.args.separator c.args.bytes.now c.in-Some.place c.in-Some.ensures

pub returns-in-None-clause-none : goal.returns-in-None-clause-none
returns-in-None-clause-none c = all-lacks c.args.separator c.args.bytes.now c.in-None.ensures
