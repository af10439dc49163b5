-- So each block in which a request has an item is alone behind the reply to it, if that is so of checks: as a change of a moment says it.
use Rattle.std.proofs.Common.{◌≡◌, ℕ, Bool, List, Some, sym, subst}
use Rattle.cluster_script.specs.declared.statement.Statement.{Statement}
use Rattle.vdi_directory.specs.Decisions.{log_effects}
use Rattle.overlap_law.specs.Headline.{ledger_of}
use Rattle.overlap_law.specs.KeptHistory.{RepliesAreAlone}
use Rattle.overlap_law.specs.MomentChanges.{MomentTrail, RunsAreInRange}
use Rattle.overlap_law.specs.Past.{MomentWithPast, run_with_past}
use Rattle.overlap_law.specs.RepliedChecks.{RepliesToChecksAreAlone}
use Rattle.overlap_law.specs.StayingBlocks.{IsAloneWhereWritten}
use Rattle.overlap_law.specs.StepMoments.{moment_in_step}
use Rattle.overlap_law.specs.ToCome.{TablesStayTheInodes}
use Rattle.overlap_law.proofs.RepliedSteps.{reply_alone}
use Rattle.sheep_world.specs.RunsWithAsks.{Move}

-- a request is alone behind a change where it was written
abbrev pub IsAloneBehind : (ℕ → Bool) → ℕ → MomentWithPast → MomentWithPast → Type 0
IsAloneBehind good_id req before after =
    IsAloneWhereWritten (log_effects after.world.log) good_id after.world.hosts after.past.attempts (ledger_of before.past.history) req

-- the tables of open disks may come
abbrev pub TablesStay : (ℕ → Bool) → MomentWithPast → Type 0
TablesStay good_id moment =
    TablesStayTheInodes (log_effects moment.world.log) good_id moment.world.hosts moment.past.attempts

module _ (script : List Statement) (range : RunsAreInRange script) where
  pub replies-by_tables : (events : List Move) (start before after : MomentWithPast) → run_with_past script events ≡ Some start
      → MomentTrail script start before → (good_id : ℕ → Bool) → TablesStay good_id before
      → RepliesToChecksAreAlone script good_id start before after → RepliesAreAlone script good_id start before after
  replies-by_tables events start before after ran trail good_id tables owed =
      λ on so_far next is by within was will reply among free accepts.
      let here : MomentWithPast = moment_in_step script on start so_far in
      let later : MomentWithPast = moment_in_step script on start next in
      let alone : IsAloneBehind good_id reply.0 here later
      = reply_alone script range events start ran on is by so_far next within (subst (MomentTrail script start) was trail) good_id
      (subst (TablesStay good_id) was tables) reply among free accepts
      (λ checked. subst (IsAloneBehind good_id reply.0 here) will
      (subst (λ (m : MomentWithPast). IsAloneBehind good_id reply.0 m after) was
      (owed on so_far next is by within was will reply among free accepts checked))) in
      subst (IsAloneBehind good_id reply.0 before) (sym will)
      (subst (λ (m : MomentWithPast). IsAloneBehind good_id reply.0 m later) (sym was) alone)
