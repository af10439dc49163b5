use Rattle.std.proofs.Common.{◌∙◌, sym, ◌/◌, length}
use Rattle.peer_proto.specs.Ids.{are_ids_above, ids_in}
use Rattle.peer_proto.proofs.IdLemmas.{ids-refused, ids-go_on}
use Rattle.peer_proto.proofs.ids.are_id_bytes.Goals as goal

pub returns-then-not-is_next : goal.returns-then-not-is_next
returns-then-not-is_next c =
    ids-refused c.loop-k.k c.loop-k.last c.u64_at-oid.result c.args.bytes.now c.loop-k-test.true c.u64_at-oid.ensures (sym c.is_next.ensures ∙ c.if-not-is_next.true) c.loop-k.invariant

pub loop-k-preserved : goal.loop-k-preserved
loop-k-preserved c =
    ids-go_on (length c.args.bytes.now / 8) c.loop-k.k c.loop-k.last c.u64_at-oid.result c.args.bytes.now (are_ids_above 0 (ids_in c.args.bytes.now))
    c.loop-k-test.true c.u64_at-oid.ensures (sym c.is_next.ensures ∙ c.if-not-is_next.false) c.loop-k.invariant
