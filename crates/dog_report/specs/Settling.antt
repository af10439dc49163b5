-- How requests that have no line yet get theirs, from the lines that are held: at the end of a phase, and at the end of the run.
use Rattle.std.specs.Prelude.{ℕ, ◌-◌, ◌==◌, nat_le, Bool, true, false, List, [], ◌∷◌, ◌++◌, Option, Some, None, slice_get, if◌then◌else◌}
use Rattle.std.specs.Option.{option_map_or}
use Rattle.std.specs.FinMap as tree
use Rattle.cluster_script.specs.declared.statement.Statement.{Statement}
use Rattle.cluster_script.specs.NumberedRequests.{numbers_of_session}
use Rattle.cluster_script.specs.Index.{IndexedRequest, script_index, indexed_at}
use Rattle.cluster_script.specs.Sessions.{ScriptSession, session_numbered}
use Rattle.sheep_world.specs.World.{World}
use Rattle.sheep_world.specs.Incarnations.{is_session_gone}
use Rattle.dog_report.specs.declared.held_line.HeldLine.{HeldLine}
use Rattle.dog_report.specs.declared.settling.Lines.{Lines}
use Rattle.dog_report.specs.Fates.{RequestFate, Gone, Pending, Unsent}
use Rattle.dog_report.specs.Report.{is_lost_request, is_begun}
use Rattle.dog_report.specs.ToldPart.{ToldPart, told_with, told_with_held}

-- whether the phase of a request has begun where this one is the present one; not where the script has no such request
abbrev pub is_phase_begun : List Statement → ℕ → ℕ → Bool
is_phase_begun statements phase number =
    option_map_or (λ (request : IndexedRequest). nat_le request.phase phase) (indexed_at (script_index statements) number) false

-- whether the incarnation that a session of this number belongs to is gone
abbrev pub is_session_lost : List Statement → World → ℕ → Bool
is_session_lost statements world session =
    option_map_or (λ (session : ScriptSession). is_session_gone session world) (session_numbered statements session) false

-- whether a number isn't above the last of the first requests of a session, so many
abbrev pub is_among_first : List Statement → ℕ → ℕ → ℕ → Bool
is_among_first statements session begun number =
    if begun == 0 then false
    else option_map_or (λ last. nat_le number last) (slice_get (numbers_of_session statements session) (begun - 1)) true

-- the lines of a report in the making, and the requests that were kept so far, since nothing is settled of them
pub record Settling : Type 0 where
  pub lines : Lines
  pub kept : List ℕ

-- the lines, and the requests that were kept so far
abbrev pub settling_of : Lines → List ℕ → Settling
settling_of lines kept = record { lines = lines; kept = kept }

-- a request is kept
abbrev pub kept_with : Settling → ℕ → Settling
kept_with settling number = record settling { kept = settling.kept ++ number ∷ [] }

-- a request without reply is told of, if its gateway is lost
abbrev pub told_if_gone : ToldPart → ℕ → Bool → ToldPart
told_if_gone told number true = told_with told number Gone
told_if_gone told number false = told

-- and else it is kept
abbrev pub kept_unless_gone : List ℕ → ℕ → Bool → List ℕ
kept_unless_gone kept number true = kept
kept_unless_gone kept number false = kept ++ number ∷ []

-- a phase ends, and a request whose phase has begun is told of, or kept: by the line that is held, and whether its gateway is lost
abbrev pub settled_by : Settling → ℕ → Option HeldLine → Bool → Settling
settled_by settling number (Some line) lost = record settling {
  lines = record { held = tree.remove settling.lines.held number; told = told_with_held settling.lines.told line };
}
settled_by settling number None lost = record {
  lines = record { held = tree.remove settling.lines.held number; told = told_if_gone settling.lines.told number lost };
  kept = kept_unless_gone settling.kept number lost;
}

-- the same of any request
abbrev pub settling_after : List Statement → World → Settling → ℕ → Settling
settling_after statements world settling number =
    if is_phase_begun statements world.phase number
    then settled_by settling number (tree.get settling.lines.held number) (is_lost_request statements number world)
    else kept_with settling number

-- what became of a request without reply in the end
abbrev pub fate_without_reply : Bool → Bool → RequestFate
fate_without_reply true begun = Gone
fate_without_reply false true = Pending
fate_without_reply false false = Unsent

-- the run has ended, and a request is told of
abbrev pub told_last : ToldPart → ℕ → Option HeldLine → Bool → Bool → ToldPart
told_last told number (Some line) lost begun = told_with_held told line
told_last told number None lost begun = told_with told number (fate_without_reply lost begun)

-- the lines behind that
abbrev pub lines_with_last : List Statement → World → Lines → ℕ → Lines
lines_with_last statements world lines number = record {
  held = tree.remove lines.held number;
  told = told_last lines.told number (tree.get lines.held number) (is_lost_request statements number world)
      (is_begun statements number world);
}
