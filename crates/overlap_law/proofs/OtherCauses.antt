-- Who refuses a request for another reason than what became of a message of its work doesn't name an object that a node lacks.
use Rattle.std.proofs.Common.{◌≡◌, Bool, true, false, cond, ℕ, ◌==◌, ◌&&◌, List, Option, Some, None, is_some, Result, Ok, Err, refl, subst}
use Rattle.std.specs.Option.{option_map, option_and_then}
use Rattle.proof_tools.proofs.Booleans.{cond_either}
use Rattle.object_id.specs.declared.cause.Cause.{Cause}
use Rattle.object_id.specs.declared.cause.Cause.TheVariants as causes
use Rattle.object_id.specs.declared.entry.Entry.{Entry}
use Rattle.object_id.specs.declared.entry.Entry.TheVariants as entries
use Rattle.object_id.specs.declared.entry.Origin.{Origin}
use Rattle.object_id.specs.declared.entry.Origin.TheVariants.{Fresh, SnapshotOf, CloneOf}
use Rattle.object_id.specs.declared.node.NodeId.{NodeId}
use Rattle.object_id.specs.declared.oid.Vid.{Vid}
use Rattle.inode.specs.Layout.{Content}
use Rattle.peer_proto.specs.declared.guest.DiskAsk.{DiskAsk}
use Rattle.peer_proto.specs.declared.guest.DiskAsk.TheVariants as disk_asks
use Rattle.peer_proto.specs.declared.guest.GuestRsp.{GuestRsp}
use Rattle.peer_proto.specs.declared.guest.GuestRsp.TheVariants as replies
use Rattle.peer_proto.specs.declared.guest.VdiAsk.{VdiAsk}
use Rattle.peer_proto.specs.declared.guest.VdiAsk.TheVariants as disk_commands
use Rattle.vdi_directory.specs.declared.decision.Decision.{Decision}
use Rattle.vdi_directory.specs.declared.decision.Outcome.{Outcome}
use Rattle.vdi_directory.specs.declared.decision.Decision.TheVariants as decisions
use Rattle.vdi_directory.specs.declared.effect.Effect.{Effect}
use Rattle.vdi_directory.specs.declared.effect.Reservation.{Reservation}
use Rattle.vdi_directory.specs.declared.effect.Source.{Source}
use Rattle.vdi_directory.specs.declared.header.Header.{Header}
use Rattle.vdi_directory.specs.Chains.{chain_of}
use Rattle.vdi_directory.specs.declared.effect.Effect.TheVariants as effects
use Rattle.vdi_directory.specs.Names.{snapshot_with_tag, is_live_name}
use Rattle.vdi_directory.specs.Sources.{is_for, tag_for}
use Rattle.vdi_directory.specs.Effects.{header_of, name_of, reservations_of, reservation_on, holder_of}
use Rattle.vdi_directory.specs.Decisions.{nothing, reserve_outcome, publication, replacement, snapshot_outcome, unheld, free_disk}
use Rattle.vdi_directory.specs.Decisions.{or_no_tag, target, deletion, lock, release, silent_outcome, grant_outcome, is_held_by}
use Rattle.vdi_directory.specs.Decisions.{is_reserved_by, outcome}
use Rattle.disk_lock.specs.declared.holder.Holder.{Holder}
use Rattle.guest_driver.specs.declared.disk.Disk.{Disk}
use Rattle.guest_driver.specs.Refusals.{past_end, refusal_on, disk_refusal}
use Rattle.vdi_ops.specs.Entries.{OpenDisk, command_refusal}
use Rattle.vdi_ops.specs.Op.{OpStage, Asked, Working, Publishing, Answered, Op, OpStep}
use Rattle.vdi_ops.specs.Steps.{tag_step, copy_step, step_after_grant, step_after_decision, decided_at, on_decision}
use Rattle.sheep_node.specs.Changes as outcomes
use Rattle.overlap_law.specs.PastWords.{is_refusal}
use Rattle.overlap_law.proofs.ClosedReservations.{refuses_reservation, reserves_so}

-- whether a cause names an object that a node lacks
abbrev pub names_lack : Cause → Bool
names_lack (causes.NoObj node oid) = true
names_lack _ = false

-- whether a reply does
abbrev pub tells_lack : GuestRsp → Bool
tells_lack (replies.Refused cause) = names_lack cause
tells_lack _ = false

-- none does that refuses nothing
pub no_refusal_lacks : (reply : GuestRsp) → is_refusal reply ≡ false → tells_lack reply ≡ false
no_refusal_lacks replies.Done is = refl
no_refusal_lacks (replies.Piece bytes) is = refl
no_refusal_lacks (replies.Refused cause) is = absurd (cc (is))
no_refusal_lacks (replies.Granted vid) is = refl
no_refusal_lacks (replies.Checked found) is = refl

-- ---- refusals on the spot

abbrev pub IsOther : Option Cause → Type 0
IsOther None = Unit {0}
IsOther (Some cause) = names_lack cause ≡ false

end_other : (inode : Content) (ask : DiskAsk) → IsOther (past_end inode ask)
end_other inode ask = cond_either IsOther _ None (Some causes.InvalidParms) tt refl

pub disk_other : (disk : Disk) (deleted : Bool) (ask : DiskAsk) → IsOther (refusal_on disk deleted ask)
disk_other disk deleted (disk_asks.Read offset size) =
    cond_either IsOther _ (Some causes.NoVdi) (past_end disk.inode (disk_asks.Read offset size)) refl
    (end_other disk.inode (disk_asks.Read offset size))
disk_other disk deleted (disk_asks.Write offset bytes) =
    cond_either IsOther _ (Some causes.Readonly) (past_end disk.inode (disk_asks.Write offset bytes)) refl
    (end_other disk.inode (disk_asks.Write offset bytes))

pub open_other : (disk : Option Disk) (deleted : Bool) (ask : DiskAsk) → IsOther (disk_refusal disk deleted ask)
open_other None deleted ask = refl
open_other (Some disk) deleted ask = disk_other disk deleted ask

pub command_other : (disk : Option OpenDisk) (ask : VdiAsk) → IsOther (command_refusal disk ask)
command_other disk (disk_commands.Create name spec) = tt
command_other None (disk_commands.Attach name tag) = tt
command_other (Some disk) (disk_commands.Attach name tag) = refl
command_other None disk_commands.Close = refl
command_other (Some disk) disk_commands.Close = tt
command_other None (disk_commands.Snapshot tag) = refl
command_other (Some disk) (disk_commands.Snapshot tag) = cond_either IsOther disk.snapshot (Some causes.Readonly) None refl tt
command_other disk (disk_commands.Clone base tag name) = tt
command_other disk (disk_commands.Delete name tag) = tt
command_other None disk_commands.Check = refl
command_other (Some disk) disk_commands.Check =
    cond_either IsOther disk.snapshot (Some causes.Readonly) _ refl (cond_either IsOther _ None (Some causes.InvalidParms) tt refl)

-- ---- what the directory decides

abbrev pub DecidesOther : Decision → Type 0
DecidesOther decisions.None = Unit {0}
DecidesOther (decisions.Granted vid) = Unit {0}
DecidesOther (decisions.Refused cause) = names_lack cause ≡ false

module _ (before : List Effect) where
  abbrev Other : Outcome → Type 0
  Other o = DecidesOther o.decision

  no_lack : (cause : Cause) → refuses_reservation cause ≡ true → names_lack cause ≡ false
  no_lack (causes.NoObj node oid) is = absurd (cc (is))
  no_lack cause is = refl

  origin_other : (by : NodeId) (session : ℕ) (name : List ℕ) (origin : Origin) → Other (reserve_outcome before by session name origin)
  origin_other by session name = reserves_so before by session name Other no_lack tt (λ source parent spec id. tt)

  published_other : (by : NodeId) (right : Source → Bool) (reserved : Option Reservation) → Other (publication by right reserved)
  published_other by right None = tt
  published_other by right (Some reservation) =
      cond_either Other (reservation.by.0 == by.0 && right reservation.source)
      (grant_outcome reservation.vid (effects.Published reservation.vid reservation.name)) nothing tt tt

  replaced_other : (reservation : Reservation) (old : Vid) (tag : Option (List ℕ)) (holder : Option Holder)
      → Other (replacement reservation old tag holder)
  replaced_other reservation old None holder = tt
  replaced_other reservation old (Some tag) None = tt
  replaced_other reservation old (Some tag) (Some holder) = tt

  taken_other : (by : NodeId) (old : Vid) (reserved : Option Reservation) → Other (snapshot_outcome before by old reserved)
  taken_other by old None = tt
  taken_other by old (Some reservation) =
      let tag = tag_for old reservation.source in
      let holder = holder_of before old.0 in
      cond_either Other (reservation.by.0 == by.0) (replacement reservation old tag holder) nothing
      (replaced_other reservation old tag holder) tt

  abbrev IsOtherTarget : Result Vid Cause → Type 0
  IsOtherTarget (Ok vid) = Unit {0}
  IsOtherTarget (Err cause) = names_lack cause ≡ false

  unheld_other : (vid : Vid) (holder : Option Holder) → IsOtherTarget (unheld vid holder)
  unheld_other vid None = tt
  unheld_other vid (Some holder) = refl

  free_other : (working : Option Vid) → IsOtherTarget (free_disk before working)
  free_other None = refl
  free_other (Some vid) = unheld_other vid (holder_of before vid.0)

  tag_other : (found : Option Vid) → IsOtherTarget (or_no_tag found)
  tag_other None = refl
  tag_other (Some vid) = tt

  target_other : (name : List ℕ) (tag : Option (List ℕ)) → IsOtherTarget (target before name tag)
  target_other name None = free_other (name_of before name).working
  target_other name (Some tag) =
      let found = snapshot_with_tag tag (name_of before name) in
      cond_either IsOtherTarget (is_live_name (name_of before name)) (or_no_tag found) (Err causes.NoVdi) (tag_other found) refl

  deleted_other : (name : List ℕ) (found : Result Vid Cause) → IsOtherTarget found → Other (deletion name found)
  deleted_other name (Ok vid) other = tt
  deleted_other name (Err cause) other = other

  locked_other : (holder : Holder) (snapshot : Bool) (found : Result Vid Cause) → IsOtherTarget found → Other (lock holder snapshot found)
  locked_other holder snapshot (Ok vid) other =
      cond_either Other snapshot (grant_outcome vid effects.Nothing) (grant_outcome vid (effects.Held vid holder)) tt tt
  locked_other holder snapshot (Err cause) other = other

  released_other : (by : NodeId) (session : ℕ) (vid : Vid) → Other (release before by session vid)
  released_other by session vid =
      let withdrawn = silent_outcome (effects.Withdrawn vid) in
      let reserved = is_reserved_by by session (reservation_on vid (reservations_of before)) in
      cond_either Other (is_held_by by session (holder_of before vid.0)) (silent_outcome (effects.Freed vid))
      (cond reserved withdrawn nothing) tt
      (cond_either Other reserved withdrawn nothing tt tt)

  pub outcome_other : (entry : Entry) → Other (outcome before entry)
  outcome_other (entries.Format members) = tt
  outcome_other (entries.Join node zone vnodes) = tt
  outcome_other (entries.Leave node) = tt
  outcome_other (entries.Reweight node vnodes) = tt
  outcome_other (entries.Recovered node epoch) = tt
  outcome_other (entries.Reserve by session name origin) = origin_other by session name origin
  outcome_other (entries.Publish by vid) =
      published_other by (is_for false) (reservation_on vid (reservations_of before))
  outcome_other (entries.Clone by vid) = published_other by (is_for true) (reservation_on vid (reservations_of before))
  outcome_other (entries.Snapshot by old vid) = taken_other by old (reservation_on vid (reservations_of before))
  outcome_other (entries.Delete by session name tag) = deleted_other name (target before name tag) (target_other name tag)
  outcome_other (entries.Lock by session name tag) =
      locked_other (record { node = by; session = session }) (is_some tag) (target before name tag) (target_other name tag)
  outcome_other (entries.Unlock by session vid) = released_other by session vid

-- ---- what a command comes to by a decision

-- an outcome tells of no such object
abbrev pub TellsOther : outcomes.Outcome → Type 0
TellsOther (outcomes.ToWork work) = Unit {0}
TellsOther (outcomes.ToEntry entry) = Unit {0}
TellsOther (outcomes.ToReply reply) = tells_lack reply ≡ false

abbrev StepTellsOther : OpStep → Type 0
StepTellsOther step = TellsOther (outcomes.outcome_of_command step.act)

abbrev MaybeTellsOther : Option OpStep → Type 0
MaybeTellsOther None = Unit {0}
MaybeTellsOther (Some step) = StepTellsOther step

maybe_mapped : {X : Type 0} (o : Option X) (make : X → OpStep) → ((x : X) → StepTellsOther (make x)) → MaybeTellsOther (option_map make o)
maybe_mapped None make each = tt
maybe_mapped (Some x) make each = each x

grant_tells_other : (op : Op) (vid : Vid) (chain : List ℕ) (disk : Option Content) (entry : Entry) (header : Header)
    → MaybeTellsOther (step_after_grant op vid chain disk entry header)
grant_tells_other op vid chain disk (entries.Format members) header = tt
grant_tells_other op vid chain disk (entries.Join node zone vnodes) header = tt
grant_tells_other op vid chain disk (entries.Leave node) header = tt
grant_tells_other op vid chain disk (entries.Reweight node vnodes) header = tt
grant_tells_other op vid chain disk (entries.Recovered node epoch) header = tt
grant_tells_other op vid chain disk (entries.Reserve by session name (Fresh spec)) header = tt
grant_tells_other op vid chain disk (entries.Reserve by session name (SnapshotOf tag)) header =
    maybe_mapped disk (tag_step op vid tag header) (λ old. tt)
grant_tells_other op vid chain disk (entries.Reserve by session name (CloneOf base tag)) header =
    maybe_mapped header.parent (copy_step op vid chain header) (λ parent. tt)
grant_tells_other op vid chain disk (entries.Publish by id) header = tt
grant_tells_other op vid chain disk (entries.Clone by id) header = tt
grant_tells_other op vid chain disk (entries.Snapshot by old id) header = tt
grant_tells_other op vid chain disk (entries.Delete by session name tag) header = refl
grant_tells_other op vid chain disk (entries.Lock by session name tag) header = tt
grant_tells_other op vid chain disk (entries.Unlock by session id) header = refl

decision_tells_other : (known : List Effect) (disk : Option Content) (op : Op) (entry : Entry) (decision : Decision) → DecidesOther decision
    → MaybeTellsOther (step_after_decision known disk op entry decision)
decision_tells_other known disk op entry decisions.None other = refl
decision_tells_other known disk op entry (decisions.Granted vid) other = by_header (header_of known vid.0)
  where
    by_header : (header : Option Header)
        → MaybeTellsOther (option_and_then (step_after_grant op vid (chain_of known vid.0) disk entry) header)
    by_header None = tt
    by_header (Some header) = grant_tells_other op vid (chain_of known vid.0) disk entry header
decision_tells_other known disk op entry (decisions.Refused cause) other = other

pub decided_other : (known : List Effect) (disk : Option Content) (decision : Decision) (op : Op) (step : OpStep) → DecidesOther decision
    → on_decision known disk decision op ≡ Some step → TellsOther (outcomes.outcome_of_command step.act)
unfolding on_decision
decided_other known disk decision op step other is = subst MaybeTellsOther is (by_stage op.stage)
  where
    by_stage : (stage : OpStage) → MaybeTellsOther (decided_at known disk decision op stage)
    by_stage (Asked entry) = decision_tells_other known disk op entry decision other
    by_stage (Working vid task) = tt
    by_stage (Publishing entry opened) = refl
    by_stage (Answered change) = tt
