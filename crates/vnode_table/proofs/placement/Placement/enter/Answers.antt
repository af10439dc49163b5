use Rattle.std.proofs.Common.{◌≡◌, ◌∷◌, ◌++◌, [], List, length, Some, cond, ap, ap₂, subst, sym, ◌∙◌}
use Rattle.std.specs.Ordering.{nat_cmp}
use Rattle.std.specs.Prelude.{◌==◌}
use Rattle.std.specs.BTreeMap.{get}
use Rattle.std.specs.Cmp.{unsigned_tied}
use Rattle.vnode_table.specs.Epochs.{EpochMembers}
use Rattle.vnode_table.specs.Places.{ArePlaces}
use Rattle.vnode_table.proofs.PlaceLemmas.{ArePlaces-push}
use Rattle.vnode_table.proofs.placement.Placement.enter.Goals as goal

pub invariant_of-self-2 : goal.invariant_of-self-2
invariant_of-self-2 c =
    let terms : List EpochMembers = c.self.inside.terms.items in
    let term : EpochMembers = c.in_ok-term.term in
    let count : c.len.result ≡ length terms = c.len.ensures ∙ c.reserve.new.self.ok.0 ∙ ap (λ (ts : List EpochMembers). length ts) c.reserve.ensures.items in
    let is : (term.epoch ≡ c.args.epoch.0) = ap (λ (t : EpochMembers). t.epoch) c.in_ok-term.ensures in
    subst (λ ts. ArePlaces ts c.insert.new.self)
    (sym (c.push_reserved.ensures.items ∙ ap (λ (ts : List EpochMembers). ts ++ term ∷ []) c.reserve.ensures.items))
    (ArePlaces-push terms term c.self.inside.places c.insert.new.self c.self.invariant
    (λ epoch. c.in_ok-insert.ensures.updates.0 epoch
    ∙ ap₂ (λ b at. cond b (Some at) (get nat_cmp c.self.inside.places epoch))
    (unsigned_tied c.args.epoch.0 epoch ∙ ap (λ e. e == epoch) (sym is)) count))
