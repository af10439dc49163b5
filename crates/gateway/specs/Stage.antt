-- Where a work stands, as its code keeps it, and what always holds of a work.
use Rattle.std.specs.Prelude.{ℕ, ◌-◌, ◌^◌, ◌<◌}
use Rattle.peer_proto.specs.declared.work.ObjWork.{ObjWork}
use Rattle.peer_proto.specs.Work.{IsWork}
use Rattle.gateway.specs.declared.stage.Stage.{Stage}
use Rattle.gateway.specs.declared.stage.Stage.TheVariants as stages
use Rattle.gateway.specs.State.{WorkStage, Open, Ended, WaitsForMembers, Work}
use Rattle.gateway.specs.Messages.{NumbersDiffer, AreMessagesFor}

abbrev pub work_stage : Stage → WorkStage
work_stage (stages.Open epoch messages) = Open (record { epoch = epoch; messages = messages })
work_stage stages.Ended = Ended
work_stage (stages.WaitsForMembers epoch) = WaitsForMembers epoch

-- an open attempt has messages for its work, and it can be counted when it has ended
abbrev pub IsStageFor : ObjWork → ℕ → WorkStage → Type 0
IsStageFor work ended (Open attempt) = AreMessagesFor work attempt.messages × (ended < 2 ^ 64 - 1)
IsStageFor work ended Ended = Unit {0}
IsStageFor work ended (WaitsForMembers epoch) = Unit {0}

pub record IsOpenWork (work : Work) : Type 0 where
  pub is_work : IsWork work.work
  pub stage : IsStageFor work.work work.ended work.stage

-- no two messages of an open attempt have one number
abbrev pub NumbersDifferAt : WorkStage → Type 0
NumbersDifferAt (Open attempt) = NumbersDiffer attempt.messages
NumbersDifferAt Ended = Unit {0}
NumbersDifferAt (WaitsForMembers epoch) = Unit {0}

-- the last attempt is open
abbrev pub IsOpenStage : WorkStage → Type 0
IsOpenStage (Open attempt) = Unit {0}
IsOpenStage Ended = ⊥
IsOpenStage (WaitsForMembers epoch) = ⊥
