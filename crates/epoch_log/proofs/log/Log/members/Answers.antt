use Rattle.std.proofs.Common.{◌≡◌, ◌≤◌, length, ap, subst, ◌∙◌, arith}
use Rattle.object_id.specs.declared.entry.Entry.{Entry}
use Rattle.std.specs.Prelude.{List}
use Rattle.epoch_log.specs.Epochs.{members_in}
use Rattle.epoch_log.specs.Appending.{IsLog}
use Rattle.epoch_log.proofs.MembersLemmas.{IsLog-members, IsLog-weights}
use Rattle.epoch_log.proofs.log.Log.members.Goals as goal

pub fill-requires : goal.fill-requires
fill-requires c =
    let seen : c.as_slice.result.now ≡ c.args.self.now = c.as_slice.ensures.value ∙ c.self.view_is in
    let members : length c.members.result.now ≡ length (members_in c.args.self.now c.args.epoch.0)
    = ap length (c.members.ensures ∙ ap (λ (all : List Entry). members_in all c.args.epoch.0) seen) in
    let most : length (members_in c.args.self.now c.args.epoch.0) ≤ 64
    = (IsLog-members c.args.self.now c.args.epoch.0 (subst IsLog c.self.view_is c.self.invariant.0) c.requires.1).1 in
    omega arith

pub returns-clause-members : goal.returns-clause-members
returns-clause-members c = (IsLog-members c.args.self.now c.args.epoch.0 (subst IsLog c.self.view_is c.self.invariant.0) c.requires.1).0

pub returns-clause-weights : goal.returns-clause-weights
returns-clause-weights c = IsLog-weights c.args.self.now c.args.epoch.0 (subst IsLog c.self.view_is c.self.invariant.0) c.requires.1
