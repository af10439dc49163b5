use Rattle.std.proofs.Common.{◌≡◌, ℕ, ◌+◌, ◌∷◌, ◌++◌, [], List, sym, ap, ◌∙◌, arith}
use Rattle.std.specs.Prelude.{map}
use Rattle.std.specs.List.{range_with_len}
use Rattle.std.proofs.lemmas.List.FromFn.{map-range_with_len_more}
use Rattle.object_id.specs.declared.entry.Member.{Member}
use Rattle.cluster_script.specs.Settings.{new_member}
use Rattle.sheep_world.proofs.opening.opening_members.Goals as goal

pub loop-node-preserved : goal.loop-node-preserved
loop-node-preserved c =
    let node : ℕ = c.loop-node.node in
    let next : 0 + node ≡ node = omega arith in
    let so_far : List Member = map (new_member c.args.script.now) (range_with_len 0 node) in
    c.in_ok-push.ensures.ok
    ∙ ap (λ (xs : List Member). xs ++ c.new_member.result ∷ []) c.loop-node.invariant
    ∙ ap (λ (member : Member). so_far ++ member ∷ []) c.new_member.ensures
    ∙ sym (map-range_with_len_more (new_member c.args.script.now) 0 node node next)

pub returns : goal.returns
returns c =
    let all : c.loop-node.node ≡ c.opening_count-count.result = omega (arith, c.loop-node-test.false, c.loop-node.auto.node-end) in
    c.loop-node.invariant
    ∙ ap (λ (count : ℕ). map (new_member c.args.script.now) (range_with_len 0 count)) (all ∙ c.opening_count-count.ensures.value)
