-- What a command comes to once its entry was put: as that is decided it goes on with what it was given, or it is refused and the entry did
-- nothing; and if it is refused later, what it was given is given back.
use Rattle.std.proofs.Common.{◌≡◌, ℕ, Bool, true, false, cond, List, Option, Some, None, refl, sym, subst}
use Rattle.std.specs.Option.{option_map, option_and_then}
use Rattle.std.specs.Prelude.{is_some, Result, Ok, Err}
use Rattle.std.proofs.lemmas.Option.{same_Some}
use Rattle.proof_tools.proofs.Booleans.{cond_either}
use Rattle.object_id.specs.declared.cause.Cause.{Cause}
use Rattle.object_id.specs.declared.cause.Cause.TheVariants as causes
use Rattle.object_id.specs.declared.oid.Vid.{Vid}
use Rattle.object_id.specs.declared.node.NodeId.{NodeId}
use Rattle.object_id.specs.declared.entry.VdiSpec.{VdiSpec}
use Rattle.object_id.specs.declared.entry.Entry.{Entry}
use Rattle.object_id.specs.declared.entry.Entry.TheVariants.{Format, Join, Leave, Reweight, Recovered, Reserve, Publish, Lock, Unlock}
use Rattle.object_id.specs.declared.entry.Entry.TheVariants as entries
use Rattle.object_id.specs.declared.entry.Origin.{Origin}
use Rattle.object_id.specs.declared.entry.Origin.TheVariants.{Fresh, SnapshotOf, CloneOf}
use Rattle.inode.specs.Layout.{Content}
use Rattle.peer_proto.specs.declared.guest.GuestRsp.{GuestRsp}
use Rattle.peer_proto.specs.declared.guest.GuestRsp.TheVariants as replies
use Rattle.peer_proto.specs.declared.work.ObjWork.{ObjWork}
use Rattle.vdi_directory.specs.declared.header.Header.{Header}
use Rattle.vdi_directory.specs.declared.effect.Effect.{Effect}
use Rattle.vdi_directory.specs.declared.effect.Effect.TheVariants as effects
use Rattle.vdi_directory.specs.declared.effect.Source.{Source}
use Rattle.vdi_directory.specs.declared.effect.Source.TheVariants as sources
use Rattle.vdi_directory.specs.declared.decision.Decision.{Decision}
use Rattle.vdi_directory.specs.declared.decision.Decision.TheVariants as decisions
use Rattle.vdi_directory.specs.declared.decision.Outcome.{Outcome}
use Rattle.vdi_directory.specs.Chains.{chain_of}
use Rattle.vdi_directory.specs.Decisions.{outcome, log_effects, nothing, silent_outcome, refusal_outcome, grant_of, or_full}
use Rattle.vdi_directory.specs.Decisions.{reservation_outcome, with_spec, held_disk, reserved_snapshot, reserved_clone, reserve_outcome}
use Rattle.vdi_directory.specs.Decisions.{is_taken, target, deletion, lock, is_held_by, is_reserved_by}
use Rattle.vdi_directory.specs.Effects.{is_used, header_of, name_of, reservations_of, reservation_on, holder_of}
use Rattle.vdi_directory.specs.Names.{snapshot_with_tag, is_live_name}
use Rattle.vdi_directory.specs.Vids.{free_id}
use Rattle.vdi_ops.specs.declared.act.OpAct.{OpAct}
use Rattle.vdi_ops.specs.declared.act.OpAct.TheVariants as op_acts
use Rattle.vdi_ops.specs.Entries.{unlock_of}
use Rattle.vdi_ops.specs.Op.{DiskChange, Task, Opening, WritingBack, Tagging, Copying, Making, OpStage, Asked, Working, Publishing}
use Rattle.vdi_ops.specs.Op.{Answered, Op, OpStep}
use Rattle.vdi_ops.specs.Steps.{task_done, done_at, op_on_done, step_after_grant, step_after_decision, decided_at, on_decision, tag_step}
use Rattle.vdi_ops.specs.Steps.{copy_step}
use Rattle.sheep_node.specs.declared.course.Course.{Course}
use Rattle.sheep_node.specs.declared.course.Course.TheVariants.{Waiting, Driving, Commanding, Checking, DoingWork, AwaitingDecision}
use Rattle.overlap_law.specs.AwaitedEntries.{IsCommandEntry, IsSessionsEntry}
use Rattle.overlap_law.specs.PastWords.{is_refusal}
use Rattle.overlap_law.specs.WriterClaims.{IsFirstEntry}
use Rattle.overlap_law.specs.RefusedCommands.{effect_behind, changes_disks, giving_back}

-- ---- what a decision says of the effect

-- nothing was changed, and nothing given
abbrev pub IsUndone : Effect → Type 0
IsUndone effect = (changes_disks effect ≡ false) × (giving_back effect ≡ None)

-- no disk was changed, and what was given is given back by the unlock of this id
abbrev pub IsGiven : NodeId → ℕ → Vid → Effect → Type 0
IsGiven by session vid effect =
    (changes_disks effect ≡ false) × ((unlock : Entry) → giving_back effect ≡ Some unlock → unlock_of by session vid.0 ≡ unlock)

-- of an entry that a session asks an id or a lock by
abbrev Gives : NodeId → ℕ → Decision → Effect → Type 0
Gives by session decisions.None effect = Unit {0}
Gives by session (decisions.Granted vid) effect = IsGiven by session vid effect
Gives by session (decisions.Refused cause) effect = IsUndone effect

abbrev GivesBy : NodeId → ℕ → Outcome → Type 0
GivesBy by session done = Gives by session done.decision done.effect

-- of one that it deletes by
abbrev Deletes : Decision → Effect → Type 0
Deletes decisions.None effect = Unit {0}
Deletes (decisions.Granted vid) effect = Unit {0}
Deletes (decisions.Refused cause) effect = IsUndone effect

module _ (before : List Effect) (by : NodeId) (session : ℕ) where
  module _ (name : List ℕ) (source : Source) (parent : Option Vid) (spec : VdiSpec) where
    free_gives : (free : Option ℕ) → GivesBy by session (or_full free (grant_of before by session name source parent spec))
    free_gives None = (refl, refl)
    free_gives (Some vid) = (refl, λ unlock is. same_Some (unlock_of by session vid) unlock is)

    reservation_gives : GivesBy by session (reservation_outcome before by session name source parent spec)
    reservation_gives = free_gives (free_id name (is_used before))

  header_gives : (header : Option Header) (make : VdiSpec → Outcome) → ((spec : VdiSpec) → GivesBy by session (make spec))
      → GivesBy by session (with_spec header make)
  header_gives None make each = tt
  header_gives (Some header) make each = each header.spec

  snapshot_gives : (name tag : List ℕ) (old : Option Vid) → GivesBy by session (reserved_snapshot before by session name tag old)
  snapshot_gives name tag None = (refl, refl)
  snapshot_gives name tag (Some old) =
      cond_either (GivesBy by session) (is_some (snapshot_with_tag tag (name_of before name))) (refusal_outcome causes.VdiExist)
      (with_spec (header_of before old.0) (reservation_outcome before by session name (sources.Snapshot old tag) (Some old)))
      (refl, refl)
      (header_gives (header_of before old.0) (reservation_outcome before by session name (sources.Snapshot old tag) (Some old))
      (reservation_gives name (sources.Snapshot old tag) (Some old)))

  clone_gives : (name : List ℕ) (base : Option Vid) → GivesBy by session (reserved_clone before by session name base)
  clone_gives name None = (refl, refl)
  clone_gives name (Some base) =
      cond_either (GivesBy by session) (is_taken before name) (refusal_outcome causes.VdiExist)
      (with_spec (header_of before base.0) (reservation_outcome before by session name sources.Clone (Some base)))
      (refl, refl)
      (header_gives (header_of before base.0) (reservation_outcome before by session name sources.Clone (Some base))
      (reservation_gives name sources.Clone (Some base)))

  reserve_gives : (name : List ℕ) (origin : Origin) → GivesBy by session (reserve_outcome before by session name origin)
  reserve_gives name (Fresh spec) =
      cond_either (GivesBy by session) (is_taken before name) (refusal_outcome causes.VdiExist)
      (reservation_outcome before by session name sources.Fresh None spec) (refl, refl) (reservation_gives name sources.Fresh None spec)
  reserve_gives name (SnapshotOf tag) = snapshot_gives name tag (held_disk before by session (name_of before name).working)
  reserve_gives name (CloneOf base tag) =
      cond_either (GivesBy by session) (is_live_name (name_of before base))
      (reserved_clone before by session name (snapshot_with_tag tag (name_of before base))) (refusal_outcome causes.NoBaseVdi)
      (clone_gives name (snapshot_with_tag tag (name_of before base))) (refl, refl)

  lock_gives : (is_snapshot : Bool) (meant : Result Vid Cause) → GivesBy by session
      (lock (record { node = by; session = session }) is_snapshot meant)
  lock_gives is_snapshot (Err cause) = (refl, refl)
  lock_gives true (Ok vid) = (refl, λ unlock is. absurd (cc (is)))
  lock_gives false (Ok vid) = (refl, λ unlock is. same_Some (unlock_of by session vid.0) unlock is)

delete_deletes : (name : List ℕ) (meant : Result Vid Cause) → Deletes (deletion name meant).decision (deletion name meant).effect
delete_deletes name (Err cause) = (refl, refl)
delete_deletes name (Ok vid) = tt

-- a lock or a reservation that is given back gives nothing, and changes no disk
pub unlock_undone : (before : List Effect) (by : NodeId) (session : ℕ) (vid : Vid) → IsUndone
    (outcome before (Unlock by session vid)).effect
unlock_undone before by session vid =
    cond_either (λ (done : Outcome). IsUndone done.effect) (is_held_by by session (holder_of before vid.0))
    (silent_outcome (effects.Freed vid))
    (cond (is_reserved_by by session (reservation_on vid (reservations_of before))) (silent_outcome (effects.Withdrawn vid)) nothing)
    (refl, refl)
    (cond_either (λ (done : Outcome). IsUndone done.effect) (is_reserved_by by session (reservation_on vid (reservations_of before)))
    (silent_outcome (effects.Withdrawn vid)) nothing (refl, refl) (refl, refl))

-- ---- where a command is

-- the entry that was put behind these, and whose it is; and what is known at first of a command that waits for it
module _ (earlier : List Entry) (entry : Entry) (me : NodeId) (session : ℕ) (AtFirst : Type 0) where
  -- it waits for that decision, or goes on with what it was given, or waits for its last decision, or has its reply
  abbrev pub IsComeTo : OpStage → Type 0
  IsComeTo (Asked wanted) = (wanted ≡ entry) × AtFirst
  IsComeTo (Working vid task) = IsGiven me session vid (effect_behind earlier entry)
  IsComeTo (Publishing wanted made) = Unit {0}
  IsComeTo (Answered change) = Unit {0}

  pub record IsComeSo (op : Op) : Type 0 where
    pub by : op.by ≡ me
    pub of : op.session ≡ session
    pub stage : IsComeTo op.stage

  abbrev pub IsOnCourse : Course → Type 0
  IsOnCourse (Waiting ask) = ⊥
  IsOnCourse (Driving driver) = ⊥
  IsOnCourse (Commanding op) = IsComeSo op
  IsOnCourse (Checking check) = ⊥
  IsOnCourse (DoingWork work) = ⊥
  IsOnCourse (AwaitingDecision wanted) = ⊥

  -- an act that refuses the request does so where the entry did nothing
  abbrev pub IsFair : OpAct → Type 0
  IsFair (op_acts.Append wanted) = Unit {0}
  IsFair (op_acts.Work work) = Unit {0}
  IsFair (op_acts.Reply reply) = is_refusal reply ≡ true → IsUndone (effect_behind earlier entry)

-- whether a command waits for the decision on its first entry
abbrev pub is_first : OpStage → Bool
is_first (Asked entry) = true
is_first (Working vid task) = false
is_first (Publishing entry made) = false
is_first (Answered change) = false

abbrev pub is_asked : Course → Bool
is_asked (Waiting ask) = false
is_asked (Driving driver) = false
is_asked (Commanding op) = is_first op.stage
is_asked (Checking check) = false
is_asked (DoingWork work) = false
is_asked (AwaitingDecision entry) = false

module _ (earlier : List Entry) (entry : Entry) (me : NodeId) (session : ℕ) (AtFirst : Type 0) where
  -- a command takes a step
  pub record IsLedOn (step : OpStep) : Type 0 where
    pub come : IsComeSo earlier entry me session AtFirst step.op
    pub past : is_first step.op.stage ≡ false
    pub fair : IsFair earlier entry me session AtFirst step.act

  abbrev LeadsOn : Option OpStep → Type 0
  LeadsOn None = Unit {0}
  LeadsOn (Some step) = IsLedOn step

  led : (one : Option OpStep) (step : OpStep) → LeadsOn one → one ≡ Some step → IsLedOn step
  led one step leads is = subst LeadsOn is leads

  module _ (op : Op) (by : op.by ≡ me) (of : op.session ≡ session) where
    -- ---- its entry is decided

    done_refuses_not : is_refusal replies.Done ≡ true → IsUndone (effect_behind earlier entry)
    done_refuses_not refuses = absurd (cc (refuses))

    ended : (change : DiskChange) (reply : GuestRsp) → IsFair earlier entry me session AtFirst (op_acts.Reply reply)
        → IsLedOn (record { op = record op { stage = Answered change }; act = op_acts.Reply reply })
    ended change reply fair = record { come = record { by = by; of = of; stage = tt }; past = refl; fair = fair }

    worked : (vid : Vid) (task : Task) (work : ObjWork) → IsGiven me session vid (effect_behind earlier entry)
        → IsLedOn (record { op = record op { stage = Working vid task }; act = op_acts.Work work })
    worked vid task work given = record { come = record { by = by; of = of; stage = given }; past = refl; fair = tt }

    module _ (vid : Vid) (chain : List ℕ) (disk : Option Content) (header : Header)
        (given : IsGiven me session vid (effect_behind earlier entry)) where
      tagged : (tag : List ℕ) (disk : Option Content) → LeadsOn (option_map (tag_step op vid tag header) disk)
      tagged tag None = tt
      tagged tag (Some old) = worked vid _ _ given

      copied : (parent : Option Vid) → LeadsOn (option_map (copy_step op vid chain header) parent)
      copied None = tt
      copied (Some parent) = worked vid _ _ given

      reserved : (by_node : NodeId) (number : ℕ) (name : List ℕ) (origin : Origin)
          → LeadsOn (step_after_grant op vid chain disk (Reserve by_node number name origin) header)
      reserved by_node number name (Fresh spec) = worked vid _ _ given
      reserved by_node number name (SnapshotOf tag) = tagged tag disk
      reserved by_node number name (CloneOf base tag) = copied header.parent

    headed : (vid : Vid) (disk : Option Content) (wanted : Entry) (chain : List ℕ) (header : Option Header)
        → ((header : Header) → LeadsOn (step_after_grant op vid chain disk wanted header))
        → LeadsOn (option_and_then (step_after_grant op vid chain disk wanted) header)
    headed vid disk wanted chain None each = tt
    headed vid disk wanted chain (Some header) each = each header

    -- by the decision, where that says what the entry did
    asked_id : (known : List Effect) (disk : Option Content) (decision : Decision) (by_node : NodeId) (number : ℕ) (name : List ℕ)
        (origin : Origin)
        → Gives me session decision (effect_behind earlier entry)
        → LeadsOn (step_after_decision known disk op (Reserve by_node number name origin) decision)
    asked_id known disk decisions.None by_node number name origin gives = ended _ replies.Done done_refuses_not
    asked_id known disk (decisions.Granted vid) by_node number name origin gives =
        headed vid disk (Reserve by_node number name origin) (chain_of known vid.0) (header_of known vid.0)
        (λ header. reserved vid (chain_of known vid.0) disk header gives by_node number name origin)
    asked_id known disk (decisions.Refused cause) by_node number name origin gives = ended _ (replies.Refused cause) (λ refuses. gives)

    asked_lock : (known : List Effect) (disk : Option Content) (decision : Decision) (by_node : NodeId) (number : ℕ) (name : List ℕ)
        (tag : Option (List ℕ))
        → Gives me session decision (effect_behind earlier entry)
        → LeadsOn (step_after_decision known disk op (Lock by_node number name tag) decision)
    asked_lock known disk decisions.None by_node number name tag gives = ended _ replies.Done done_refuses_not
    asked_lock known disk (decisions.Granted vid) by_node number name tag gives =
        headed vid disk (Lock by_node number name tag) (chain_of known vid.0) (header_of known vid.0) (λ header. worked vid _ _ gives)
    asked_lock known disk (decisions.Refused cause) by_node number name tag gives = ended _ (replies.Refused cause) (λ refuses. gives)

    asked_deletion : (known : List Effect) (disk : Option Content) (decision : Decision) (by_node : NodeId) (number : ℕ) (name : List ℕ)
        (tag : Option (List ℕ))
        → Deletes decision (effect_behind earlier entry)
        → LeadsOn (step_after_decision known disk op (entries.Delete by_node number name tag) decision)
    asked_deletion known disk decisions.None by_node number name tag deletes = ended _ replies.Done done_refuses_not
    asked_deletion known disk (decisions.Granted vid) by_node number name tag deletes =
        headed vid disk (entries.Delete by_node number name tag) (chain_of known vid.0) (header_of known vid.0)
        (λ header. ended _ replies.Done done_refuses_not)
    asked_deletion known disk (decisions.Refused cause) by_node number name tag deletes = ended _ (replies.Refused cause)
        (λ refuses. deletes)

    -- the entry is the session's, and no unlock
    by_entry : (known mine : List Effect) (disk : Option Content) (asked : Entry) → entry ≡ asked → IsSessionsEntry mine me session asked
        → IsFirstEntry asked
        → IsCommandEntry me asked
        → LeadsOn (step_after_decision known disk op asked (outcome (log_effects earlier) asked).decision)
    by_entry known mine disk (Reserve by_node number name origin) same own first command =
        asked_id known disk (outcome (log_effects earlier) (Reserve by_node number name origin)).decision by_node number name origin
        (subst (λ (e : Entry). Gives me session (outcome (log_effects earlier) (Reserve by_node number name origin)).decision
        (effect_behind earlier e))
        (sym same)
        (subst (λ (b : NodeId). Gives b session (outcome (log_effects earlier) (Reserve by_node number name origin)).decision
        (effect_behind earlier (Reserve by_node number name origin))) own.0
        (subst (λ (s : ℕ). Gives by_node s (outcome (log_effects earlier) (Reserve by_node number name origin)).decision
        (effect_behind earlier (Reserve by_node number name origin))) own.1
        (reserve_gives (log_effects earlier) by_node number name origin))))
    by_entry known mine disk (Lock by_node number name tag) same own first command =
        asked_lock known disk (outcome (log_effects earlier) (Lock by_node number name tag)).decision by_node number name tag
        (subst (λ (e : Entry). Gives me session (outcome (log_effects earlier) (Lock by_node number name tag)).decision
        (effect_behind earlier e))
        (sym same)
        (subst (λ (b : NodeId). Gives b session (outcome (log_effects earlier) (Lock by_node number name tag)).decision
        (effect_behind earlier (Lock by_node number name tag))) own.0
        (subst (λ (s : ℕ). Gives by_node s (outcome (log_effects earlier) (Lock by_node number name tag)).decision
        (effect_behind earlier (Lock by_node number name tag))) own.1
        (lock_gives (log_effects earlier) by_node number (is_some tag) (target (log_effects earlier) name tag)))))
    by_entry known mine disk (entries.Delete by_node number name tag) same own first command =
        asked_deletion known disk (outcome (log_effects earlier) (entries.Delete by_node number name tag)).decision by_node number name tag
        (subst (λ (e : Entry). Deletes (outcome (log_effects earlier) (entries.Delete by_node number name tag)).decision
        (effect_behind earlier e))
        (sym same) (delete_deletes name (target (log_effects earlier) name tag)))
    by_entry known mine disk (Format members) same own first command = absurd first
    by_entry known mine disk (Join node zone vnodes) same own first command = absurd first
    by_entry known mine disk (Leave node) same own first command = absurd first
    by_entry known mine disk (Reweight node vnodes) same own first command = absurd first
    by_entry known mine disk (Recovered node epoch) same own first command = absurd first
    by_entry known mine disk (Publish by_node vid) same own first command = absurd first
    by_entry known mine disk (entries.Clone by_node vid) same own first command = absurd first
    by_entry known mine disk (entries.Snapshot by_node old vid) same own first command = absurd first
    by_entry known mine disk (Unlock by_node number vid) same own first command = absurd command

    -- the command's entry is decided, as the entries before it say
    pub decided_leads : (known mine : List Effect) (disk : Option Content) (decision : Decision) (step : OpStep)
        → IsComeTo earlier entry me session AtFirst op.stage → IsSessionsEntry mine me session entry
        → (AtFirst → IsFirstEntry entry) → IsCommandEntry me entry
        → ((wanted : Entry) → op.stage ≡ Asked wanted → AtFirst → decision ≡ (outcome (log_effects earlier) entry).decision)
        → on_decision known disk decision op ≡ Some step → IsLedOn step
    unfolding on_decision
    decided_leads known mine disk decision step come own firstly command decides is =
        led (decided_at known disk decision op op.stage) step (by_stage op.stage refl come) is
      where
        by_stage : (stage : OpStage) → op.stage ≡ stage → IsComeTo earlier entry me session AtFirst stage → LeadsOn
            (decided_at known disk decision op stage)
        by_stage (Asked wanted) at come =
            subst (λ (e : Entry). LeadsOn (step_after_decision known disk op e decision)) (sym come.0)
            (subst (λ (d : Decision). LeadsOn (step_after_decision known disk op entry d)) (sym (decides wanted at come.1))
            (by_entry known mine disk entry refl own (firstly come.1) command))
        by_stage (Working vid task) at come = tt
        by_stage (Publishing wanted made) at come = ended _ replies.Done done_refuses_not
        by_stage (Answered change) at come = tt

    -- ---- its work is done

    task_leads : (vid : Vid) (bytes : List ℕ) (task : Task) → IsGiven me session vid (effect_behind earlier entry)
        → IsLedOn (task_done op vid bytes task)
    task_leads vid bytes (Opening true ids header) given = ended _ replies.Done done_refuses_not
    task_leads vid bytes (Opening false ids header) given = worked vid _ _ given
    task_leads vid bytes (WritingBack inode) given = ended _ replies.Done done_refuses_not
    task_leads vid bytes (Tagging old inode) given = worked vid _ _ given
    task_leads vid bytes (Copying ids header) given = worked vid _ _ given
    task_leads vid bytes (Making wanted made) given = record { come = record { by = by; of = of; stage = tt }; past = refl; fair = tt }

    pub done_leads : (bytes : List ℕ) (step : OpStep) → IsComeTo earlier entry me session AtFirst op.stage → op_on_done bytes op ≡ Some step
        → IsLedOn step
    unfolding op_on_done
    done_leads bytes step come is = led (done_at bytes op op.stage) step (by_stage op.stage come) is
      where
        by_stage : (stage : OpStage) → IsComeTo earlier entry me session AtFirst stage → LeadsOn (done_at bytes op stage)
        by_stage (Asked wanted) come = tt
        by_stage (Working vid task) come = task_leads vid bytes task come
        by_stage (Publishing wanted made) come = tt
        by_stage (Answered change) come = tt
