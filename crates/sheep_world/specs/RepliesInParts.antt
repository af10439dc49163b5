-- What the replies of a step add to the history, in the parts in which the code makes it. Which checks have come to a write is told
-- before the step, since a step may end them.
use Rattle.std.specs.Prelude.{◌≡◌, ℕ, ◌==◌, Bool, false, ◌||◌, List, ◌++◌, map, flat_map, filter, find, Option, unwrap_or}
use Rattle.std.specs.List.{list_any}
use Rattle.std.specs.Option.{option_map, option_map_or, option_and_then}
use Rattle.std.specs.Ordering.{nat_cmp}
use Rattle.std.specs.FinMap as tree
use Rattle.cluster_script.specs.declared.statement.Statement.{Statement}
use Rattle.cluster_script.specs.Statements.{is_check}
use Rattle.cluster_script.specs.NumberedRequests.{request_at}
use Rattle.disk_history.specs.declared.event.HistEvent.{HistEvent}
use Rattle.peer_proto.specs.declared.guest.GuestRsp.{GuestRsp}
use Rattle.sheep_node.specs.declared.check_write.CheckWrite.{CheckWrite}
use Rattle.sheep_node.specs.CheckWrites.{has_check_written}
use Rattle.sheep_world.specs.declared.progress.StartedRequest.{StartedRequest}
use Rattle.sheep_world.specs.declared.progress.SessionProgress.{SessionProgress}
use Rattle.sheep_world.specs.World.{World, no_progress}
use Rattle.sheep_world.specs.Asking.{session_asking}
use Rattle.sheep_world.specs.HistoryAdditions.{is_started_request, added_by, gateway_of, replies_grown}

-- whether the request of a number is a check
abbrev pub is_check_request : List Statement → ℕ → Bool
is_check_request statements req = option_map_or is_check (request_at statements req) false

-- the checks among a session's requests without reply
abbrev pub checks_among : List Statement → List StartedRequest → List ℕ
checks_among statements unanswered =
    filter (is_check_request statements) (map (λ (started : StartedRequest). started.req) unanswered)

-- those of a session by its number
abbrev pub checks_of_session : List Statement → ℕ × SessionProgress → List ℕ
checks_of_session statements session = checks_among statements session.1.unanswered

-- those of all sessions
abbrev pub unanswered_checks : List Statement → tree.FinMap nat_cmp SessionProgress → List ℕ
unanswered_checks statements guests = flat_map (checks_of_session statements) (tree.entries guests)

-- whether a request's gateway has it as a check that has come to a write
abbrev pub is_written_check : List Statement → World → ℕ → Bool
is_written_check statements world req = option_map_or (has_check_written req) (gateway_of statements req world) false

-- the checks without reply that have come to a write
abbrev pub written_checks : List Statement → World → List ℕ
written_checks statements world = filter (is_written_check statements world) (unanswered_checks statements world.guests)

-- whether a request is a check that had come to a write, one of these, or comes to one now
abbrev pub is_writing_check : List ℕ → Option ℕ → ℕ → Bool
is_writing_check written write req = list_any (λ other. other == req) written || option_map_or (λ number. number == req) write false

-- a request without reply, among those of its session
abbrev pub started_among : List Statement → ℕ → tree.FinMap nat_cmp SessionProgress → Option StartedRequest
started_among statements req guests = option_and_then
    (λ session. find (is_started_request req) (unwrap_or (tree.get guests session) no_progress).unanswered)
    (session_asking statements req)

-- the disk on which it began
abbrev pub disk_began : List Statement → ℕ → tree.FinMap nat_cmp SessionProgress → Option ℕ
disk_began statements req guests = option_and_then (λ (started : StartedRequest). started.disk) (started_among statements req guests)

-- what a reply adds, where these checks had come to a write, and the one of this request comes to one now
abbrev pub reply_events : List Statement → tree.FinMap nat_cmp SessionProgress → List ℕ → Option ℕ → ℕ × GuestRsp → List HistEvent
reply_events statements guests written write reply =
    added_by (is_writing_check written write reply.0) reply.0 reply.1 (disk_began statements reply.0 guests) (request_at statements reply.0)

-- these are the events before, and behind them what the replies of a step add, whichever write the check of this request comes to by it
abbrev pub AreRepliesAdded : List Statement → World → Option ℕ → World → List HistEvent → List HistEvent → Type 0
AreRepliesAdded statements before write after earlier events =
    (made : Option CheckWrite) → option_map (λ (made : CheckWrite). made.req) made ≡ write
    → events ≡ earlier ++ replies_grown statements before made after
