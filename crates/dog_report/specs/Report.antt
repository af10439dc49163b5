-- The report of a run: what became of each request, and the lists of the barriers.
use Rattle.std.specs.Prelude.{ℕ, ◌==◌, nat_le, Bool, true, false, not, List, [], ◌++◌, length, take, map, flat_map, filter, fold, codes}
use Rattle.std.specs.Prelude.{Option, Some, None, is_some, unwrap_or, if◌then◌else◌}
use Rattle.std.specs.Ordering.{nat_cmp}
use Rattle.std.specs.List.{filter_map, list_any, range_with_len}
use Rattle.std.specs.Option.{option_map, option_map_or, option_and_then}
use Rattle.std.specs.FinMap as tree
use Rattle.cluster_script.specs.declared.statement.Statement.{Statement}
use Rattle.cluster_script.specs.Statements.{requests_of}
use Rattle.cluster_script.specs.NumberedRequests.{numbers_of_session}
use Rattle.cluster_script.specs.Phases.{Phase, phase_of_request}
use Rattle.cluster_script.specs.Sessions.{ScriptSession, session_numbered}
use Rattle.peer_proto.specs.declared.guest.GuestRsp.{GuestRsp}
use Rattle.sheep_node.specs.declared.event.Event.{Event}
use Rattle.sheep_node.specs.declared.event.Event.TheVariants as events
use Rattle.sheep_world.specs.World.{World, progress_at}
use Rattle.sheep_world.specs.Opening.{initial_world, phase_at}
use Rattle.sheep_world.specs.Asking.{session_asking}
use Rattle.sheep_world.specs.Step.{EventOutcome, step}
use Rattle.sheep_world.specs.Incarnations.{is_session_gone}
use Rattle.dog_report.specs.Words.{Words, spaced_words}
use Rattle.dog_report.specs.Fates.{RequestFate, Answered, Gone, Pending, Unsent, ReportLine, Told, Listed, line_words}
use Rattle.dog_report.specs.Lists.{list_of}

-- a report in the making: the world so far, the replies so far by request, the requests that have no line yet, ascending,
-- and the lines
pub record Report : Type 0 where
  pub world : World
  pub replies : tree.FinMap nat_cmp GuestRsp
  pub left : List ℕ
  pub lines : List ReportLine

-- before the first event
abbrev pub empty_report : List Statement → Report
empty_report statements = record {
  world = initial_world statements;
  replies = tree.empty;
  left = range_with_len 1 (length (requests_of statements));
  lines = [];
}

-- whether the incarnation of a request's gateway is lost
abbrev pub is_lost_request : List Statement → ℕ → World → Bool
is_lost_request statements req world =
    option_map_or (λ (session : ScriptSession). is_session_gone session world)
    (option_and_then (session_numbered statements) (session_asking statements req)) false

-- whether a session has started a request
abbrev pub has_begun : List Statement → ℕ → World → ℕ → Bool
has_begun statements req world session =
    list_any (λ other. other == req) (take (progress_at session world).begun (numbers_of_session statements session))

-- whether a request was started
abbrev pub is_begun : List Statement → ℕ → World → Bool
is_begun statements req world = option_map_or (has_begun statements req world) (session_asking statements req) false

-- what is settled of a request: its reply, or that its gateway's incarnation is lost
abbrev pub fate_settled_by : Option GuestRsp → Bool → Option RequestFate
fate_settled_by (Some rsp) gone = Some (Answered rsp)
fate_settled_by None true = Some Gone
fate_settled_by None false = None

-- what is settled of a request by now
abbrev pub settled_fate : List Statement → Report → ℕ → Option RequestFate
settled_fate statements report req = fate_settled_by (tree.get report.replies req) (is_lost_request statements req report.world)

-- the same, once the request's own phase has begun
abbrev pub fate_due : List Statement → Report → ℕ → Option RequestFate
fate_due statements report req =
    if nat_le (phase_of_request statements req) report.world.phase then settled_fate statements report req else None

-- the list of the barrier that ends the present phase
abbrev pub barrier_list : List Statement → World → List Words
barrier_list statements world =
    option_map_or (λ (phase : Phase). list_of phase.barrier world) (phase_at statements world.phase) []

-- a phase ends: the lines that are due and weren't printed before, by number, then the barrier's list
abbrev pub phase_told : List Statement → Report → Report
phase_told statements report = record report {
  left = filter (λ req. not (is_some (fate_due statements report req))) report.left;
  lines = report.lines
      ++ filter_map (λ req. option_map (Told req) (fate_due statements report req)) report.left
      ++ map Listed (barrier_list statements report.world);
}

-- whether an event ends a phase
abbrev pub is_phase : Event → Bool
is_phase events.Phase = true
is_phase event = false

-- the replies, with those of a step
abbrev pub replies_with : tree.FinMap nat_cmp GuestRsp → ℕ × GuestRsp → tree.FinMap nat_cmp GuestRsp
replies_with replies reply = tree.insert replies reply.0 reply.1

-- an event was made
abbrev pub report_with_made : Option EventOutcome → Report → Report
report_with_made None report = report
report_with_made (Some made) report =
    record report { world = made.world; replies = fold replies_with report.replies made.world.outputs.replies }

-- what is told before an event: a phase that it ends
abbrev pub report_before_event : List Statement → Event → Report → Report
report_before_event statements event report = if is_phase event then phase_told statements report else report

-- one event more
abbrev pub report_after : List Statement → Report → Event → Report
report_after statements report event =
    report_with_made (step statements event report.world) (report_before_event statements event report)

-- what became of a request in the end
abbrev pub last_fate : List Statement → Report → ℕ → RequestFate
last_fate statements report req =
    unwrap_or (settled_fate statements report req) (if is_begun statements req report.world then Pending else Unsent)

-- after the last event each request that has no line yet gets one
abbrev pub finished_report : List Statement → Report → List ReportLine
finished_report statements report = report.lines ++ map (λ req. Told req (last_fate statements report req)) report.left

-- the report of a run, by its lines
unfoldable pub report_of : List Statement → List Event → List ReportLine
report_of statements run = finished_report statements (fold (report_after statements) (empty_report statements) run)

-- its text
abbrev pub report_text : List ReportLine → List ℕ
report_text lines = flat_map (λ line. spaced_words (line_words line) ++ codes "\n") lines

-- the text of a barrier's list
abbrev pub list_text : Statement → World → List ℕ
list_text statement world = report_text (map Listed (list_of statement world))
