-- Which entry a request waits for, as a command goes on: the one that its step puts; and behind a decision none is put.
use Rattle.std.proofs.Common.{◌≡◌, ℕ, Bool, true, false, List, Option, Some, None, IfSome, option_map, option_and_then, refl, sym, ap}
use Rattle.std.proofs.Common.{subst, ◌∙◌}
use Rattle.std.specs.Option.{option_map_or}
use Rattle.object_id.specs.declared.cause.Cause.{Cause}
use Rattle.object_id.specs.declared.oid.Vid.{Vid}
use Rattle.object_id.specs.declared.node.NodeId.{NodeId}
use Rattle.object_id.specs.declared.entry.Entry.{Entry}
use Rattle.object_id.specs.declared.entry.Entry.TheVariants as entries
use Rattle.object_id.specs.declared.entry.Entry.TheVariants.{Format, Join, Leave, Reweight, Recovered, Reserve, Publish, Lock, Unlock}
use Rattle.object_id.specs.declared.entry.Origin.TheVariants.{Fresh, SnapshotOf, CloneOf}
use Rattle.object_id.specs.Same.{is_same_entry}
use Rattle.inode.specs.Layout.{Content}
use Rattle.vdi_directory.specs.declared.header.Header.{Header}
use Rattle.vdi_directory.specs.declared.effect.Effect.{Effect}
use Rattle.vdi_directory.specs.declared.decision.Decision.{Decision}
use Rattle.vdi_directory.specs.declared.decision.Decision.TheVariants as decisions
use Rattle.vdi_directory.specs.Chains.{chain_of}
use Rattle.vdi_directory.specs.Effects.{header_of}
use Rattle.vdi_ops.specs.declared.act.OpAct.{OpAct}
use Rattle.vdi_ops.specs.declared.act.OpAct.TheVariants as op_acts
use Rattle.vdi_ops.specs.declared.end.OpEnd.{OpEnd}
use Rattle.vdi_ops.specs.Op.{OpStage, Asked, Working, Publishing, Answered, Op, OpStep, entry_wanted_at, IsAwaitedAtOpStage}
use Rattle.vdi_ops.specs.Steps.{tag_step, copy_step, step_after_grant, step_after_decision, decided_at, on_decision, done_at, op_on_done}
use Rattle.vdi_ops.specs.Steps.{refused_at, on_refusal}
use Rattle.sheep_node.specs.declared.course.Course.{Course}
use Rattle.sheep_node.specs.declared.course.Course.TheVariants.{Waiting, Driving, Commanding, Checking, DoingWork, AwaitingDecision}
use Rattle.overlap_law.specs.AwaitedEntries.{IsCommandEntry, IsSessionsEntry, IsSessionsStage}
use Rattle.overlap_law.proofs.CountedEntries.{same_entry, itself}

-- whether the decision on an entry is waited for at a stage
abbrev pub waits_at : Entry → OpStage → Bool
waits_at entry stage = option_map_or (λ (wanted : Entry). is_same_entry wanted entry) (entry_wanted_at stage) false

-- whether a request is a command
abbrev pub is_command : Course → Bool
is_command (Waiting ask) = false
is_command (Driving driver) = false
is_command (Commanding op) = true
is_command (Checking check) = false
is_command (DoingWork work) = false
is_command (AwaitingDecision entry) = false

-- an entry that is waited for is the session's
pub waited_own : (known : List Effect) (me : NodeId) (session : ℕ) (entry : Entry) (stage : OpStage)
    → IsSessionsStage known me session stage
    → waits_at entry stage ≡ true → IsSessionsEntry known me session entry
waited_own known me session entry (Asked wanted) own waits = subst (IsSessionsEntry known me session) (same_entry wanted entry waits) own
waited_own known me session entry (Working vid task) own waits = absurd (cc (waits))
waited_own known me session entry (Publishing wanted opened) own waits =
    subst (IsSessionsEntry known me session) (same_entry wanted entry waits) own
waited_own known me session entry (Answered change) own waits = absurd (cc (waits))

-- at most one entry is waited for
pub one_is_waited_for : (entry other : Entry) (stage : OpStage) → waits_at entry stage ≡ true → waits_at other stage ≡ true → entry ≡ other
one_is_waited_for entry other (Asked wanted) one two = sym (same_entry wanted entry one) ∙ same_entry wanted other two
one_is_waited_for entry other (Working vid task) one two = absurd (cc (one))
one_is_waited_for entry other (Publishing wanted opened) one two = sym (same_entry wanted entry one) ∙ same_entry wanted other two
one_is_waited_for entry other (Answered change) one two = absurd (cc (one))

-- ---- what is put is waited for, and where a reply is given none is

pub put_waited : (entry : Entry) (stage : OpStage) → IsAwaitedAtOpStage (op_acts.Append entry) stage → waits_at entry stage ≡ true
put_waited entry (Asked wanted) awaited =
    let same : entry ≡ wanted = cc (awaited) in ap (λ (e : Entry). is_same_entry e entry) (sym same) ∙ itself entry
put_waited entry (Working vid task) awaited = absurd (cc (awaited.1))
put_waited entry (Publishing wanted opened) awaited =
    let same : entry ≡ wanted = cc (awaited) in ap (λ (e : Entry). is_same_entry e entry) (sym same) ∙ itself entry
put_waited entry (Answered change) awaited = absurd (cc (awaited.1))

-- of an act that puts nothing nothing is waited for
abbrev pub PutsNothing : OpAct → Type 0
PutsNothing (op_acts.Append entry) = ⊥
PutsNothing (op_acts.Work work) = Unit {0}
PutsNothing (op_acts.Reply reply) = Unit {0}

pub none_waited : (act : OpAct) (stage : OpStage) → PutsNothing act → IsAwaitedAtOpStage act stage → (entry : Entry)
    → waits_at entry stage ≡ false
none_waited (op_acts.Append put) stage nothing awaited entry = absurd nothing
none_waited (op_acts.Work work) (Asked wanted) nothing awaited entry = absurd (cc (awaited))
none_waited (op_acts.Work work) (Working vid task) nothing awaited entry = refl
none_waited (op_acts.Work work) (Publishing wanted opened) nothing awaited entry = absurd (cc (awaited))
none_waited (op_acts.Work work) (Answered change) nothing awaited entry = refl
none_waited (op_acts.Reply reply) (Asked wanted) nothing awaited entry = absurd (cc (awaited))
none_waited (op_acts.Reply reply) (Working vid task) nothing awaited entry = refl
none_waited (op_acts.Reply reply) (Publishing wanted opened) nothing awaited entry = absurd (cc (awaited))
none_waited (op_acts.Reply reply) (Answered change) nothing awaited entry = refl

-- ---- a command whose work is done or refused waited for no entry

pub done_waits_not : (bytes : List ℕ) (op : Op) (step : OpStep) → op_on_done bytes op ≡ Some step → (entry : Entry)
    → waits_at entry op.stage ≡ false
unfolding op_on_done
done_waits_not bytes op step is entry = by_stage op.stage is
  where
    by_stage : (stage : OpStage) → done_at bytes op stage ≡ Some step → waits_at entry stage ≡ false
    by_stage (Asked wanted) is = absurd (cc (is))
    by_stage (Working vid task) is = refl
    by_stage (Publishing wanted opened) is = absurd (cc (is))
    by_stage (Answered change) is = absurd (cc (is))

-- and a refusal puts no entry of a command, but gives back what was granted
pub record EndsWaitingForNone (me : NodeId) (op : Op) (end : OpEnd) : Type 0 where
  pub waits : (entry : Entry) → waits_at entry op.stage ≡ false
  pub unlock : IfSome end.unlock (λ (entry : Entry). IsCommandEntry me entry → ⊥)

pub refused_waits_not : (me : NodeId) (cause : Cause) (op : Op) → IfSome (on_refusal cause op) (EndsWaitingForNone me op)
unfolding on_refusal
refused_waits_not me cause op = by_stage op.stage refl
  where
    by_stage : (stage : OpStage) → op.stage ≡ stage → IfSome (refused_at cause op stage) (EndsWaitingForNone me op)
    by_stage (Asked entry) is = tt
    by_stage (Working vid task) is = record { waits = λ entry. ap (waits_at entry) is; unlock = λ never. never }
    by_stage (Publishing entry opened) is = tt
    by_stage (Answered change) is = tt

-- ---- behind a decision no entry is put

abbrev PutsNothingStep : OpStep → Type 0
PutsNothingStep step = PutsNothing step.act

module _ (op : Op) where
  granted_puts_nothing : (vid : Vid) (chain : List ℕ) (disk : Option Content) (entry : Entry) (header : Header)
      → IfSome (step_after_grant op vid chain disk entry header) PutsNothingStep
  granted_puts_nothing vid chain disk (Reserve by session name (Fresh spec)) header = tt
  granted_puts_nothing vid chain disk (Reserve by session name (SnapshotOf tag)) header = by_disk disk
    where
      by_disk : (disk : Option Content) → IfSome (option_map (tag_step op vid tag header) disk) PutsNothingStep
      by_disk None = tt
      by_disk (Some old) = tt
  granted_puts_nothing vid chain disk (Reserve by session name (CloneOf base tag)) header = by_parent header.parent
    where
      by_parent : (parent : Option Vid) → IfSome (option_map (copy_step op vid chain header) parent) PutsNothingStep
      by_parent None = tt
      by_parent (Some parent) = tt
  granted_puts_nothing vid chain disk (Lock by session name tag) header = tt
  granted_puts_nothing vid chain disk (Unlock by session id) header = tt
  granted_puts_nothing vid chain disk (entries.Delete by session name tag) header = tt
  granted_puts_nothing vid chain disk (Format members) header = tt
  granted_puts_nothing vid chain disk (Join node zone vnodes) header = tt
  granted_puts_nothing vid chain disk (Leave node) header = tt
  granted_puts_nothing vid chain disk (Reweight node vnodes) header = tt
  granted_puts_nothing vid chain disk (Recovered node epoch) header = tt
  granted_puts_nothing vid chain disk (Publish by id) header = tt
  granted_puts_nothing vid chain disk (entries.Clone by id) header = tt
  granted_puts_nothing vid chain disk (entries.Snapshot by old id) header = tt

  decision_puts_nothing : (known : List Effect) (disk : Option Content) (entry : Entry) (decision : Decision)
      → IfSome (step_after_decision known disk op entry decision) PutsNothingStep
  decision_puts_nothing known disk entry decisions.None = tt
  decision_puts_nothing known disk entry (decisions.Granted vid) = by_header (header_of known vid.0)
    where
      by_header : (header : Option Header)
          → IfSome (option_and_then (step_after_grant op vid (chain_of known vid.0) disk entry) header) PutsNothingStep
      by_header None = tt
      by_header (Some header) = granted_puts_nothing vid (chain_of known vid.0) disk entry header
  decision_puts_nothing known disk entry (decisions.Refused cause) = tt

  pub decided_puts_nothing : (known : List Effect) (disk : Option Content) (decision : Decision) (step : OpStep)
      → on_decision known disk decision op ≡ Some step → PutsNothing step.act
  unfolding on_decision
  decided_puts_nothing known disk decision step is =
      subst (λ (o : Option OpStep). IfSome o PutsNothingStep) is (by_stage op.stage)
    where
      by_stage : (stage : OpStage) → IfSome (decided_at known disk decision op stage) PutsNothingStep
      by_stage (Asked entry) = decision_puts_nothing known disk entry decision
      by_stage (Working vid task) = tt
      by_stage (Publishing entry opened) = tt
      by_stage (Answered change) = tt
