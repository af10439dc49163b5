use Rattle.std.proofs.Common.{◌≡◌, ℕ, ◌<◌, ◌≤◌, nat_lt, List, [], ◌∷◌, ◌++◌, length, take, drop, All, ap, sym, subst, ◌∙◌}
use Rattle.std.specs.List.{prefix_len}
use Rattle.std.proofs.lemmas.List.Sums.{prefix_len-le-length}
use Rattle.object_list.proofs.UnionLemmas.{All-below, All-put, prefix_len-after, with_id-put}
use Rattle.object_list.proofs.union.put_up_to.Goals as goal

pub split_at-requires : goal.split_at-requires
split_at-requires c =
    subst (λ n. n ≤ length c.args.oids.now) (sym c.count_below.ensures) (prefix_len-le-length (λ other. nat_lt other c.args.oid) c.args.oids.now)

pub behind-requires : goal.behind-requires
behind-requires c =
    ap (prefix_len (λ other. nat_lt other c.args.oid)) (c.split_at.ensures.back ∙ ap (λ n. drop n c.args.oids.now) c.count_below.ensures)
    ∙ prefix_len-after (λ other. nat_lt other c.args.oid) c.args.oids.now

pub returns-clause-sum : goal.returns-clause-sum
returns-clause-sum c =
    let below : List ℕ = c.split_at.result.0.now in
    let items : c.push.new.self.items ≡ (c.args.all.now.items ++ below) ++ c.args.oid ∷ []
    = c.in_ok-push.ensures.items ∙ ap (λ xs. xs ++ c.args.oid ∷ []) c.in_ok-extend_from_slice.ensures.items in
    let lower : All (λ other. other < c.args.oid) below
    = subst (All (λ other. other < c.args.oid)) (sym (c.split_at.ensures.front ∙ ap (λ n. take n c.args.oids.now) c.count_below.ensures))
    (All-below c.args.oid c.args.oids.now) in
    ap (λ xs. xs ++ c.behind.result.now) items
    ∙ with_id-put c.args.all.now.items c.args.oids.now below c.split_at.result.1.now c.behind.result.now c.args.oid
    c.requires lower c.split_at.ensures.by_index.0 c.behind.ensures

pub returns-clause-most : goal.returns-clause-most
returns-clause-most c =
    let below : List ℕ = c.split_at.result.0.now in
    let items : c.push.new.self.items ≡ (c.args.all.now.items ++ below) ++ c.args.oid ∷ []
    = c.in_ok-push.ensures.items ∙ ap (λ xs. xs ++ c.args.oid ∷ []) c.in_ok-extend_from_slice.ensures.items in
    let lower : All (λ other. other < c.args.oid) below
    = subst (All (λ other. other < c.args.oid)) (sym (c.split_at.ensures.front ∙ ap (λ n. take n c.args.oids.now) c.count_below.ensures))
    (All-below c.args.oid c.args.oids.now) in
    subst (All (λ other. other ≤ c.args.oid)) (sym items) (All-put c.args.all.now.items below c.args.oid c.requires lower)
