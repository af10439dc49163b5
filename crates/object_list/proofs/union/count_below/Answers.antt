use Rattle.std.proofs.Common.{◌≡◌, ◌≤◌, nat_lt, get_or, sym, ◌∙◌, arith}
use Rattle.std.proofs.lemmas.Bool.{lt-ltb, le-ltb}
use Rattle.std.proofs.lemmas.List.{get_or_read}
use Rattle.std.proofs.lemmas.List.Sums.{prefix_len_is}
use Rattle.std.proofs.lemmas.Map.Keys.{le_from_is_le}
use Rattle.object_list.proofs.union.count_below.Goals as goal

pub returns-then-le : goal.returns-then-le
returns-then-le c =
    let above : c.args.oid ≤ c.index-oids-place.result = le_from_is_le c.args.oid c.index-oids-place.result (sym c.le.ensures ∙ c.if-le.true) in
    let here : c.index-oids-place.result ≡ get_or c.args.oids.now c.loop-place.place 0
    = get_or_read c.args.oids.now c.loop-place.place c.index-oids-place.result c.loop-place-test.true c.index-oids-place.is 0 in
    sym (prefix_len_is (λ other. nat_lt other c.args.oid) c.args.oids.now c.loop-place.place 0 c.loop-place.auto.place-end
    (λ k within. lt-ltb (get_or c.args.oids.now k 0) c.args.oid (c.loop-place.invariant k within))
    (λ _. le-ltb (get_or c.args.oids.now c.loop-place.place 0) c.args.oid (omega arith)))

pub returns : goal.returns
returns c =
    sym (prefix_len_is (λ other. nat_lt other c.args.oid) c.args.oids.now _ 0 (omega arith)
    (λ k within. lt-ltb (get_or c.args.oids.now k 0) c.args.oid (c.loop-place.invariant k (omega arith)))
    (λ past. absurd (omega arith)))
