-- What stands beside the invariant at each moment that a run in range leads to: conjuncts of it that hold of any objects, and what it
-- doesn't say.
use Rattle.std.specs.Prelude.{ℕ, Bool, List}
use Rattle.cluster_script.specs.declared.statement.Statement.{Statement}
use Rattle.vdi_directory.specs.Decisions.{log_effects}
use Rattle.overlap_law.specs.Holders.{targets_by}
use Rattle.overlap_law.specs.Lists.{ListsAreWhole, PendingIsLacked}
use Rattle.overlap_law.specs.Past.{MomentWithPast}
use Rattle.overlap_law.specs.RequestsOfScript.{RequestsAreWithoutReply}
use Rattle.overlap_law.specs.Searches.{LevelsAreAsked, NoRowIsTrue, PassedLevelsLackRows, ToldCopiesAreOfAttempts, ToldRowsAreTrue}
use Rattle.overlap_law.specs.Sessions.{MakersAreApart, SessionsWorkApart}
use Rattle.overlap_law.specs.Since.{CopiesAreOfAttempts}
use Rattle.overlap_law.specs.TiedAttempts.{GatewaysAreThere}
use Rattle.overlap_law.specs.Traffic.{OpenAttemptsHaveMessages}
use Rattle.overlap_law.specs.Writers.{AttemptsHaveBegun}

-- the gateway of each attempt is there, and its epoch has begun; each open create or write has a message; no two open works of a session
-- are on one object, nor two open creates or writes of a node; the requests of lost nodes have no reply either; and what the invariant says
-- of rows and recoveries, of live or good objects, is so of any
pub record HoldsBesideOverlap (script : List Statement) (moment : MomentWithPast) : Type 0 where
  pub gateways : GatewaysAreThere moment.world.hosts moment.past.attempts
  pub messages : OpenAttemptsHaveMessages moment.world.hosts
  pub begun : AttemptsHaveBegun moment.world.log moment.past.attempts
  pub unanswered : RequestsAreWithoutReply script moment.world
  pub works_apart : SessionsWorkApart moment.world.hosts
  pub makers_apart : MakersAreApart moment.world.hosts
  -- of any objects
  pub of_attempts : (live : ℕ → Bool) → CopiesAreOfAttempts (log_effects moment.world.log) live moment.world.hosts moment.past.attempts
  pub list_told : (live : ℕ → Bool) → ListsAreWhole live moment.world.hosts moment.world.wire
  pub pending : (live : ℕ → Bool) → PendingIsLacked (targets_by moment.world.log) (log_effects moment.world.log) live moment.world.hosts
  pub row_told : (good : ℕ → Bool) → ToldRowsAreTrue (targets_by moment.world.log) (log_effects moment.world.log) good
      moment.world.hosts moment.world.wire
  pub told_of_attempts : (live : ℕ → Bool) → ToldCopiesAreOfAttempts (log_effects moment.world.log) live moment.world.hosts
      moment.world.wire moment.past.attempts
  pub norow_told : (good : ℕ → Bool) → NoRowIsTrue good moment.world.hosts moment.world.wire
  pub levels_asked : (good : ℕ → Bool) → LevelsAreAsked (targets_by moment.world.log) moment.world.log (log_effects moment.world.log) good
      moment.world.hosts
  pub passed : (good : ℕ → Bool) → PassedLevelsLackRows (targets_by moment.world.log) moment.world.log (log_effects moment.world.log) good
      moment.world.hosts
