use Rattle.std.proofs.Common.{◌≡◌, ◌++◌, ◌∷◌, [], ◌/◌, length, ap, sym, ◌∙◌, subst, List, ℕ, arith}
use Rattle.std.specs.Int.{w64}
use Rattle.std.specs.List.Sorted.{IsStrictlyIncreasing}
use Rattle.object_id.specs.Fields.{numbers_at}
use Rattle.peer_proto.specs.Ids.{is_oid, ids_in}
use Rattle.peer_proto.proofs.IdLemmas.{id_in, ids_ascend, numbers-push}
use Rattle.peer_proto.proofs.ids.ids_in.Goals as goal

pub oid_of-requires : goal.oid_of-requires
oid_of-requires c = ap is_oid c.u64_at.ensures ∙ id_in c.args.bytes.now c.loop-k.k c.requires c.loop-k-test.true

pub loop-k-preserved : goal.loop-k-preserved
loop-k-preserved c =
    c.in_ok-push.ensures.items ∙ ap (λ (oids : List ℕ). oids ++ c.oid_of.result ∷ []) c.loop-k.invariant
    ∙ ap (λ (oid : ℕ). numbers_at w64 c.loop-k.k 0 c.args.bytes.now ++ oid ∷ []) (c.oid_of.ensures ∙ c.u64_at.ensures)
    ∙ numbers-push c.loop-k.k c.args.bytes.now

pub from_vec-requires : goal.from_vec-requires
from_vec-requires c =
    let whole : c.loop-k.k ≡ length c.args.bytes.now / 8 = omega arith in
    let all : c.loop-k.oids.items ≡ ids_in c.args.bytes.now = c.loop-k.invariant ∙ ap (λ (n : ℕ). numbers_at w64 n 0 c.args.bytes.now) whole in
    subst IsStrictlyIncreasing (sym all) (ids_ascend c.args.bytes.now c.requires)
