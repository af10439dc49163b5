-- The index of a script: what a cluster looks up in it, so that no look-up goes through the statements.
use Rattle.std.specs.Prelude.{ℕ, zero, suc, List, [], map, length, Option, None, unwrap_or}
use Rattle.std.specs.List.{slice_get, range_with_len}
use Rattle.std.specs.Option.{option_map, option_and_then}
use Rattle.object_id.specs.declared.limits.TheConstants.{NODES_MAX, SESSIONS_MAX}
use Rattle.cluster_script.specs.declared.statement.Statement.{Statement}
use Rattle.cluster_script.specs.declared.index.RequestOfScript.{RequestOfScript}
use Rattle.cluster_script.specs.declared.index.SessionOfScript.{SessionOfScript}
use Rattle.cluster_script.specs.declared.index.PhaseOfScript.{PhaseOfScript}
use Rattle.cluster_script.specs.Settings.{nodes_of, vnodes_of, tries_of, limit_of, zone_of}
use Rattle.cluster_script.specs.NumberedRequests.{session_of, numbered_requests, numbers_of_session}
use Rattle.cluster_script.specs.Phases.{Phase, phases_of, phase_of_request}
use Rattle.cluster_script.specs.Sessions.{ScriptSession, sessions_of}

-- a request: its statement, the session that asks, and the place of its phase, from 0
pub record IndexedRequest : Type 0 where
  pub statement : Statement
  pub session : ℕ
  pub phase : ℕ

-- the settings that a script has for all of its cluster
pub record ScriptSettings : Type 0 where
  pub nodes : ℕ
  pub vnodes : ℕ
  pub tries : ℕ
  pub limit : ℕ

-- the index: settings; the zones of nodes 0 up; the sessions, ascending; the requests, by number from 1 up; the numbers of
-- the requests of sessions 1 up, ascending; and the phases
pub record ScriptIndex : Type 0 where
  pub settings : ScriptSettings
  pub zones : List ℕ
  pub sessions : List ScriptSession
  pub requests : List IndexedRequest
  pub by_session : List (List ℕ)
  pub phases : List Phase

-- a numbered request of a script, in its index
abbrev pub indexed_request : List Statement → (ℕ × Statement) → IndexedRequest
indexed_request statements request = record {
  statement = request.1;
  session = unwrap_or (session_of request.1) 0;
  phase = phase_of_request statements request.0;
}

-- the settings of a script
abbrev pub settings_of : List Statement → ScriptSettings
settings_of statements = record {
  nodes = nodes_of statements;
  vnodes = vnodes_of statements;
  tries = tries_of statements;
  limit = limit_of statements;
}

-- the index of a script
abbrev pub script_index : List Statement → ScriptIndex
script_index statements = record {
  settings = settings_of statements;
  zones = map (zone_of statements) (range_with_len 0 NODES_MAX);
  sessions = sessions_of statements;
  requests = map (indexed_request statements) (numbered_requests statements);
  by_session = map (numbers_of_session statements) (range_with_len 1 SESSIONS_MAX);
  phases = phases_of statements;
}

-- the request of a number; the first one is number 1
abbrev pub indexed_at : ScriptIndex → ℕ → Option IndexedRequest
indexed_at index zero = None
indexed_at index (suc place) = slice_get index.requests place

-- the numbers of a session's requests, ascending
abbrev pub indexed_numbers : ScriptIndex → ℕ → List ℕ
indexed_numbers index zero = []
indexed_numbers index (suc place) = unwrap_or (slice_get index.by_session place) []

-- a phase's control at a place
abbrev pub control_at : List Statement → ℕ → ℕ → Option Statement
control_at statements phase place =
    option_and_then (λ (found : Phase). slice_get found.controls place) (slice_get (phases_of statements) phase)

-- the number of a phase's request at a place
abbrev pub phase_request_at : List Statement → ℕ → ℕ → Option ℕ
phase_request_at statements phase place =
    option_and_then (λ (found : Phase). slice_get found.requests place) (slice_get (phases_of statements) phase)

-- the barrier that ends a phase
abbrev pub phase_barrier_at : List Statement → ℕ → Option Statement
phase_barrier_at statements phase = option_map (λ (found : Phase). found.barrier) (slice_get (phases_of statements) phase)

-- how many controls, losses and requests a phase has
abbrev pub phase_counts : Phase → PhaseOfScript
phase_counts phase = record { controls = length phase.controls; losses = phase.losses; requests = length phase.requests }

-- a request as a reader gives it
abbrev pub request_seen : RequestOfScript → IndexedRequest
request_seen request = record { statement = request.statement.now; session = request.session; phase = request.phase }

-- a session as a reader gives it
abbrev pub session_seen : SessionOfScript → ScriptSession
session_seen session = record { number = session.number; node = session.node; incarnation = session.incarnation }
