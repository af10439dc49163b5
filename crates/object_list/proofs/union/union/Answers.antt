use Rattle.std.proofs.Common.{◌≡◌, ◌<◌, ◌≤◌, take, get_or, ap, sym, subst, ◌∙◌, arith}
use Rattle.std.specs.List.Sorted.{IsStrictlyIncreasing}
use Rattle.std.proofs.lemmas.List.{get_or_read, take_all}
use Rattle.std.proofs.lemmas.List.Sums.{fold_more}
use Rattle.proof_tools.proofs.AscendingNumbers.{IsStrictlyIncreasing-far}
use Rattle.object_list.specs.Union.{with_id, union}
use Rattle.object_list.proofs.UnionLemmas.{union-ascending}
use Rattle.object_list.proofs.union.union.Goals as goal

pub loop-oid-preserved : goal.loop-oid-preserved
loop-oid-preserved c =
    let here : c.oid-item.result ≡ get_or c.args.others.now c.loop-oid.oid-index 0
    = get_or_read c.args.others.now c.loop-oid.oid-index c.oid-item.result c.loop-oid-test.true c.oid-item.is 0 in
    record {
      sum = c.in_ok-rest.ensures.sum ∙ ap (λ oids. with_id oids c.oid-item.result) c.loop-oid.invariant.sum
          ∙ ap (with_id (union c.args.oids.now (take c.loop-oid.oid-index c.args.others.now))) here
          ∙ sym (fold_more with_id c.args.oids.now c.args.others.now c.loop-oid.oid-index 0 c.loop-oid-test.true);
      below = λ k later within j d there.
          (let above : get_or c.args.others.now c.loop-oid.oid-index 0 < get_or c.args.others.now k 0
          = IsStrictlyIncreasing-far c.args.others.now c.loop-oid.oid-index k c.requires.others (omega arith) within in
          let most : get_or c.put_up_to.new.all.items j d ≤ c.oid-item.result = c.in_ok-rest.ensures.most j d there in
          omega arith);
    }

pub from_vec-requires : goal.from_vec-requires
from_vec-requires c =
    let whole : c.extend_from_slice.new.self.items ≡ union c.args.oids.now c.args.others.now
    = c.in_ok-extend_from_slice.ensures.items ∙ c.loop-oid.invariant.sum
    ∙ ap (union c.args.oids.now) (take_all c.loop-oid.oid-index c.args.others.now c.loop-oid-test.false) in
    subst IsStrictlyIncreasing (sym whole) (union-ascending c.args.oids.now c.args.others.now c.requires.oids)
