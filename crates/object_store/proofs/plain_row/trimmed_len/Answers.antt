use Rattle.std.proofs.Common.{◌∙◌, sym, arith}
use Rattle.std.proofs.lemmas.Bool.Decides.{nat_tests}
use Rattle.object_store.proofs.ByteLemmas.{trimmed_bytes-take_zero, trimmed_bytes-take_other}
use Rattle.object_store.proofs.plain_row.trimmed_len.Goals as goal

pub loop-end-preserved : goal.loop-end-preserved
loop-end-preserved c = record {
  value = trimmed_bytes-take_zero c.args.bytes.now c.loop-end.end (omega arith) c.loop-end.invariant.within c.if-bytes-end-eq0.true ∙ c.loop-end.invariant.value;
  within = omega arith;
}

pub returns-else-bytes-end-eq0-clause-value : goal.returns-else-bytes-end-eq0-clause-value
returns-else-bytes-end-eq0-clause-value c =
    sym (trimmed_bytes-take_other c.args.bytes.now c.loop-end.end (omega arith) c.loop-end.invariant.within (grind (arith, nat_tests))) ∙ c.loop-end.invariant.value
