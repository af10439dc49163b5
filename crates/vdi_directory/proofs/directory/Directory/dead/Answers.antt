use Rattle.std.proofs.Common.{◌≡◌, ℕ, ◌==◌, true, false, is_some, ap, sym, subst, ◌∙◌, List}
use Rattle.std.proofs.lemmas.Bool.{eq-eqb, eqb-true, both_ways}
use Rattle.object_id.specs.declared.entry.Entry.{Entry}
use Rattle.vdi_directory.specs.declared.effect.Effect.{Effect}
use Rattle.vdi_directory.specs.Effects.{is_used}
use Rattle.vdi_directory.specs.Decisions.{log_effects}
use Rattle.vdi_directory.specs.States.{state_of}
use Rattle.vdi_directory.specs.Dead.{is_gone, IsDead}
use Rattle.vdi_directory.specs.References.{count_in}
use Rattle.vdi_directory.proofs.LawfulEntries.{sound-log_effects}
use Rattle.vdi_directory.proofs.DeadLemmas.{chained}
use Rattle.vdi_directory.proofs.LineLemmas.{line-log_effects}
use Rattle.vdi_directory.proofs.UnreferencedLemmas.{dead-unreferenced, unreferenced-dead}
use Rattle.vdi_directory.proofs.directory.Directory.dead.Goals as goal

pub returns-then-contains_key : goal.returns-then-contains_key
returns-then-contains_key c =
    let entries : List Entry = c.self.inside.entries.items in
    let vid : ℕ = c.args.vid.0 in
    let before : List Effect = log_effects entries in
    let counts : ℕ → ℕ = count_in c.self.inside.state.references in
    let used : is_used before vid ≡ true
    = (line-log_effects entries).known vid ∙ sym (ap is_some (c.self.invariant.headers vid)) ∙ sym c.contains_key.ensures ∙ c.if-contains_key.true in
    subst (λ (all : List Entry). (((c.count_of.result == 0) ≡ true) → IsDead (log_effects all) vid) × (IsDead (log_effects all) vid → ((c.count_of.result == 0) ≡ true))) c.self.view_is (
      λ none. unreferenced-dead before (line-log_effects entries) (chained entries) counts c.self.invariant.references vid used
          (sym c.count_of.ensures ∙ eqb-true c.count_of.result 0 none),
      λ dead. eq-eqb c.count_of.result 0 (c.count_of.ensures ∙ dead-unreferenced before (line-log_effects entries) (chained entries) counts c.self.invariant.references vid dead),
    )

pub returns-else-contains_key : goal.returns-else-contains_key
returns-else-contains_key c =
    let entries : List Entry = c.self.inside.entries.items in
    let vid : ℕ = c.args.vid.0 in
    let unused : is_used (log_effects entries) vid ≡ false
    = (line-log_effects entries).known vid ∙ sym (ap is_some (c.self.invariant.headers vid)) ∙ sym c.contains_key.ensures ∙ c.if-contains_key.false in
    let not_dead : IsDead (log_effects entries) vid → ⊥
    = λ dead. both_ways (is_gone (state_of (log_effects entries) vid)) (ap is_gone ((sound-log_effects entries).unused vid unused)) dead.gone in (
      λ known. absurd (both_ways c.contains_key.result c.if-contains_key.false known),
      λ dead. absurd (subst (λ (all : List Entry). IsDead (log_effects all) vid → ⊥) c.self.view_is not_dead dead),
    )
