use Rattle.std.proofs.Common.{◌≡◌, inl, inr, ◌≤◌, ◌<◌, length, ◌∷◌, [], ◌++◌, sym, subst, refl, ap, arith}
use Rattle.std.proofs.lemmas.Bool.{cases_lt, both_ways}
use Rattle.object_id.specs.declared.entry.Entry.{Entry}
use Rattle.epoch_log.specs.declared.tally.Tally.{Tally}
use Rattle.epoch_log.specs.Tally.{IsTally}
use Rattle.epoch_log.proofs.TallyLemmas.{tally-recovers, tally-early}
use Rattle.epoch_log.proofs.tally.Tally.recover.Goals as goal

pub returns-then-has_begun-clause-ok : goal.returns-then-has_begun-clause-ok
returns-then-has_begun-clause-ok c =
    let new : Tally = record { terms = c.settle-self.new.terms; early = c.args.self.now.early; settled = c.settle-self.result } in
    let begun : (1 ≤ c.args.epoch.0) × (c.args.epoch.0 ≤ length c.as_slice.result.now) = c.has_begun.ensures.0 c.if-has_begun.true in
    let long : length c.as_slice.result.now ≡ length c.args.self.now.terms.items = ap length c.as_slice.ensures.value in
    subst (λ (entry : Entry). IsTally (c.args.before.now ++ entry ∷ []) new) (sym c.requires.is)
    (tally-recovers c.args.before.now c.args.node c.args.epoch c.args.self.now new c.requires.log c.requires.tally
    begun.0 (omega (arith, begun.1)) c.settle-self.ensures.terms c.settle-self.ensures.settled refl)

pub returns-in_ok-keep_early-clause-ok : goal.returns-in_ok-keep_early-clause-ok
returns-in_ok-keep_early-clause-ok c =
    let new : Tally = record { terms = c.args.self.now.terms; early = c.keep_early.new.early; settled = c.args.self.now.settled } in
    let long : length c.as_slice.result.now ≡ length c.args.self.now.terms.items = ap length c.as_slice.ensures.value in
    let ahead : 1 ≤ c.args.epoch.0 → length c.args.self.now.terms.items < c.args.epoch.0
    = λ (first : 1 ≤ c.args.epoch.0). elim (cases_lt (length c.args.self.now.terms.items) c.args.epoch.0) [
      | inl above ↦ above
      | inr within ↦ absurd (both_ways c.has_begun.result c.if-has_begun.false (c.has_begun.ensures.1 (first, omega arith)))
    ] in
    subst (λ (entry : Entry). IsTally (c.args.before.now ++ entry ∷ []) new) (sym c.requires.is)
    (tally-early c.args.before.now c.args.node c.args.epoch c.args.self.now new c.requires.log c.requires.tally
    ahead c.in_ok-keep_early.ensures.ok refl refl)
