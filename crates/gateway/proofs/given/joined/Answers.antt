use Rattle.std.proofs.Common.{◌≡◌, ◌*◌, ◌≤◌, ℕ, List, ◌++◌, length, map, take, drop, flat_map, sym, ap, subst, ◌∙◌, rules}
use Rattle.std.proofs.Math.Seq.{take-append_seam}
use Rattle.object_id.specs.Policy.{need_of}
use Rattle.gf256.specs.Part.{part_size}
use Rattle.gf256.specs.Polynomial.{ArePoints}
use Rattle.gateway.specs.declared.message.Message.{Message}
use Rattle.gateway.specs.Attempt.{successes, bytes_in}
use Rattle.gateway.proofs.GivenLemmas.{points-first, length-first, joined-is}
use Rattle.gateway.proofs.given.joined.Goals as goal

pub bytes_of_parts-requires-clause-indexes : goal.bytes_of_parts-requires-clause-indexes
bytes_of_parts-requires-clause-indexes c =
    subst ArePoints (sym (c.as_slice.ensures.value ∙ c.in_ok-parts.ensures.indexes)) (points-first c.need-need.result c.args.messages.now c.requires.indexes)

pub bytes_of_parts-requires-clause-parts : goal.bytes_of_parts-requires-clause-parts
bytes_of_parts-requires-clause-parts c =
    let need : ℕ = need_of c.args.policy c.args.kind in
    let whole : length c.as_mut_slice.result.now ≡ c.args.size = search rules in
    ap length (c.as_slice-2.ensures.value ∙ c.in_ok-parts.ensures.bytes)
    ∙ ap (λ (n : ℕ). length (flat_map (λ (message : Message). bytes_in message.status) (take n (successes c.args.messages.now)))) c.need-need.ensures
    ∙ length-first (part_size c.args.policy c.args.kind c.args.size) need c.args.messages.now c.requires.pieces c.requires.enough
    ∙ ap (λ (n : ℕ). need * part_size c.args.policy c.args.kind n) (sym whole)

pub returns : goal.returns
returns c =
    let whole : length c.as_mut_slice.result.now ≡ c.args.size = search rules in
    let out : List ℕ = c.bytes_of_parts.new.out in
    let long : c.resize.new.self.len ≡ length out = sym c.as_mut_slice.ensures.len ∙ sym c.bytes_of_parts.auto.out in
    let made : c.from_vec.result ≡ out
    = c.from_vec.ensures ∙ ap (λ (n : ℕ). take n (out ++ drop (length out) c.resize.new.self.items)) long
    ∙ take-append_seam out (drop (length out) c.resize.new.self.items) in
    made ∙ c.bytes_of_parts.ensures
    ∙ joined-is c.args.policy c.args.kind c.args.size (length c.as_mut_slice.result.now) c.args.messages.now c.as_slice.result.now c.as_slice-2.result.now
    whole c.requires.pieces c.requires.enough
    (c.as_slice.ensures.value ∙ c.in_ok-parts.ensures.indexes
    ∙ ap (λ (n : ℕ). map (λ (message : Message). message.index) (take n (successes c.args.messages.now))) c.need-need.ensures)
    (c.as_slice-2.ensures.value ∙ c.in_ok-parts.ensures.bytes
    ∙ ap (λ (n : ℕ). flat_map (λ (message : Message). bytes_in message.status) (take n (successes c.args.messages.now))) c.need-need.ensures)
