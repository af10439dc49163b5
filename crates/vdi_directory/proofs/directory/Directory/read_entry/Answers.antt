use Rattle.std.proofs.Common.{◌≡◌, List, [], ◌∷◌, ◌++◌, ap, sym, subst, ◌∙◌}
use Rattle.std.specs.List.Sorted.{IsNonDecreasing, IsStrictlyIncreasing}
use Rattle.object_id.specs.declared.entry.Entry.{Entry}
use Rattle.vdi_directory.specs.declared.effect.Effect.{Effect}
use Rattle.vdi_directory.specs.declared.decision.Outcome.{Outcome}
use Rattle.vdi_directory.specs.Decisions.{outcome as outcome_of, log_effects}
use Rattle.vdi_directory.specs.DirectoryState.{IsDirectoryState, AreMade, AreLocksMade, AreLocks, IsFresh, CanMake, HasItsTag}
use Rattle.vdi_directory.proofs.LiveLemmas.{live_of-sorted}
use Rattle.vdi_directory.proofs.AscentLemmas.{live-ascends}
use Rattle.vdi_directory.proofs.StateLemmas.{log_effects-push, state-push, locks-push, fresh-outcome}
use Rattle.vdi_directory.proofs.LawfulEntries.{lawful-outcome, sound-log_effects}
use Rattle.vdi_directory.proofs.LineLemmas.{line-log_effects}
use Rattle.vdi_directory.proofs.ValidLemmas.{known-happens}
use Rattle.vdi_directory.proofs.ReferencesByEffect.{reserved-log_effects, can-make, bear-push}
use Rattle.vdi_directory.proofs.TagLemmas.{standing-outcome, its-tag-outcome}
use Rattle.vdi_directory.proofs.directory.Directory.read_entry.Goals as goal

pub make-requires-clause-fresh : goal.make-requires-clause-fresh
make-requires-clause-fresh c =
    let before : List Entry = c.self.inside.entries.items in
    let is : c.in_ok-outcome.outcome ≡ outcome_of (log_effects before) c.args.entry.now
    = c.in_ok-outcome.ensures.ok ∙ ap (λ (all : List Entry). outcome_of (log_effects all) c.args.entry.now) c.reserve.ensures.items in
    subst (λ (o : Outcome). IsFresh o.effect c.self.inside.state) (sym is)
    (fresh-outcome (log_effects before) c.self.inside.state c.self.invariant c.args.entry.now)

pub make-requires-clause-references : goal.make-requires-clause-references
make-requires-clause-references c =
    let entries : List Entry = c.self.inside.entries.items in
    let is : c.in_ok-outcome.outcome ≡ outcome_of (log_effects entries) c.args.entry.now
    = c.in_ok-outcome.ensures.ok ∙ ap (λ (all : List Entry). outcome_of (log_effects all) c.args.entry.now) c.reserve.ensures.items in
    subst (λ (o : Outcome). CanMake o.effect c.self.inside.state) (sym is)
    (can-make (log_effects entries) (sound-log_effects entries) (reserved-log_effects entries) (line-log_effects entries) c.self.inside.state c.self.invariant
    (outcome_of (log_effects entries) c.args.entry.now).effect (lawful-outcome (log_effects entries) (sound-log_effects entries) c.args.entry.now))

pub make-requires-clause-tag : goal.make-requires-clause-tag
make-requires-clause-tag c =
    let entries : List Entry = c.self.inside.entries.items in
    let is : c.in_ok-outcome.outcome ≡ outcome_of (log_effects entries) c.args.entry.now
    = c.in_ok-outcome.ensures.ok ∙ ap (λ (all : List Entry). outcome_of (log_effects all) c.args.entry.now) c.reserve.ensures.items in
    subst (λ (o : Outcome). HasItsTag o.effect c.self.inside.state) (sym is)
    (its-tag-outcome entries c.self.inside.state c.self.invariant c.args.entry.now)

pub make-requires-clause-sorted : goal.make-requires-clause-sorted
make-requires-clause-sorted c = subst IsNonDecreasing (sym c.self.invariant.live) (live_of-sorted (log_effects c.self.inside.entries.items))

pub make-requires-clause-strict : goal.make-requires-clause-strict
make-requires-clause-strict c = subst IsStrictlyIncreasing (sym c.self.invariant.live) (live-ascends c.self.inside.entries.items)

pub invariant_of-self-3 : goal.invariant_of-self-3
invariant_of-self-3 c =
    let before : List Entry = c.self.inside.entries.items in
    let is : c.in_ok-outcome.outcome ≡ outcome_of (log_effects before) c.args.entry.now
    = c.in_ok-outcome.ensures.ok ∙ ap (λ (all : List Entry). outcome_of (log_effects all) c.args.entry.now) c.reserve.ensures.items in
    let later : c.push_reserved.new.self.items ≡ before ++ c.args.entry.now ∷ []
    = c.push_reserved.ensures.items ∙ (λ i. c.reserve.ensures.items i ++ c.in_ok-copy.ensures i ∷ []) in
    let made : AreMade ((outcome_of (log_effects before) c.args.entry.now).effect) c.self.inside.state c.make.new.self
    = subst (λ (o : Outcome). AreMade o.effect c.self.inside.state c.make.new.self) is c.in_ok-make.ensures.ok in
    subst (λ (before : List Effect). IsDirectoryState before c.make.new.self) (sym (ap log_effects later ∙ log_effects-push before c.args.entry.now))
    (state-push (log_effects before) ((outcome_of (log_effects before) c.args.entry.now).effect) c.self.inside.state c.make.new.self c.self.invariant made
    (standing-outcome before c.args.entry.now)
    (bear-push (log_effects before) (sound-log_effects before) (reserved-log_effects before) (line-log_effects before) c.self.inside.state c.self.invariant
    (outcome_of (log_effects before) c.args.entry.now).effect (lawful-outcome (log_effects before) (sound-log_effects before) c.args.entry.now) c.make.new.self made.references)
    (known-happens (log_effects before) (line-log_effects before) c.self.invariant.known (sound-log_effects before) c.args.entry.now c.requires.reservable))

pub returns-clause-locks : goal.returns-clause-locks
returns-clause-locks c =
    let before : List Entry = c.self.inside.entries.items in
    let is : c.in_ok-outcome.outcome ≡ outcome_of (log_effects before) c.args.entry.now
    = c.in_ok-outcome.ensures.ok ∙ ap (λ (all : List Entry). outcome_of (log_effects all) c.args.entry.now) c.reserve.ensures.items in
    let later : c.push_reserved.new.self.items ≡ before ++ c.args.entry.now ∷ []
    = c.push_reserved.ensures.items ∙ (λ i. c.reserve.ensures.items i ++ c.in_ok-copy.ensures i ∷ []) in
    let made : AreLocksMade ((outcome_of (log_effects before) c.args.entry.now).effect) c.args.locks.now c.make.new.locks
    = subst (λ (o : Outcome). AreLocksMade o.effect c.args.locks.now c.make.new.locks) is c.in_ok-make.ensures.locks in
    let were : AreLocks (log_effects before) c.args.locks.now
    = subst (λ (all : List Entry). AreLocks (log_effects all) c.args.locks.now) (sym c.self.view_is) c.requires.locks in
    subst (λ (before : List Effect). AreLocks before c.make.new.locks) (sym (ap log_effects later ∙ log_effects-push before c.args.entry.now))
    (locks-push (log_effects before) ((outcome_of (log_effects before) c.args.entry.now).effect) c.args.locks.now c.make.new.locks were made)
