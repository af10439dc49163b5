use Rattle.std.proofs.Common.{List, sym, subst}
use Rattle.std.proofs.lemmas.Result.{IfOk-weaker}
use Rattle.object_id.specs.declared.entry.Entry.{Entry}
use Rattle.vdi_directory.specs.declared.decision.Outcome.{Outcome}
use Rattle.vdi_directory.specs.Decisions.{outcome as outcome_of, log_effects}
use Rattle.vdi_directory.specs.DirectoryState.{IsDirectoryState, CanMake, lost_by, IsDeadList}
use Rattle.vdi_directory.proofs.LawfulEntries.{lawful-outcome, sound-log_effects}
use Rattle.vdi_directory.proofs.LineLemmas.{line-log_effects}
use Rattle.vdi_directory.proofs.ReferencesByEffect.{reserved-log_effects, can-make}
use Rattle.vdi_directory.proofs.DyingLemmas.{dead-by}
use Rattle.vdi_directory.proofs.directory.Directory.dead_by.Goals as goal

pub dead_by-requires : goal.dead_by-requires
dead_by-requires c =
    let entries : List Entry = c.args.self.now in
    let state : IsDirectoryState (log_effects entries) c.self.inside.state
    = subst (λ (all : List Entry). IsDirectoryState (log_effects all) c.self.inside.state) c.self.view_is c.self.invariant in
    subst (λ (o : Outcome). CanMake o.effect c.self.inside.state) (sym c.in_ok-outcome.ensures.ok)
    (can-make (log_effects entries) (sound-log_effects entries) (reserved-log_effects entries) (line-log_effects entries) c.self.inside.state state
    (outcome_of (log_effects entries) c.args.entry.now).effect (lawful-outcome (log_effects entries) (sound-log_effects entries) c.args.entry.now))

pub returns-clause-dead : goal.returns-clause-dead
returns-clause-dead c =
    let entries : List Entry = c.args.self.now in
    let state : IsDirectoryState (log_effects entries) c.self.inside.state
    = subst (λ (all : List Entry). IsDirectoryState (log_effects all) c.self.inside.state) c.self.view_is c.self.invariant in
    IfOk-weaker c.dead_by.result _ _
    (λ dead list vid. dead-by entries c.args.entry.now c.self.inside.state state vid dead.items
    (subst (λ (o : Outcome). IsDeadList (lost_by o.effect c.self.inside.state.reservations.items) c.self.inside.state dead.items) c.in_ok-outcome.ensures.ok list))
    c.dead_by.ensures.dead

pub returns-clause-once : goal.returns-clause-once
returns-clause-once c = IfOk-weaker c.dead_by.result _ _ (λ dead list. list.are.once) c.dead_by.ensures.dead
