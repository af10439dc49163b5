-- What a script keeps beside its statements, so that no look-up goes through them, and what each part is of that list.
use Rattle.std.specs.Prelude.{◌≡◌, ℕ, zero, suc, ◌+◌, ◌<◌, ◌≤◌, ◌==◌, List, [], ◌∷◌, ◌++◌, map, filter, not, count_by, sum_by, Option, Some, None, unwrap_or}
use Rattle.std.specs.Prelude.{slice_get, slice_index_or, if◌then◌else◌}
use Rattle.std.specs.List.{find, range_with_len}
use Rattle.std.specs.Option.{option_map}
use Rattle.object_id.specs.declared.limits.TheConstants.{NODES_MAX, SESSIONS_MAX}
use Rattle.object_id.specs.Node.{IsNode}
use Rattle.cluster_script.specs.declared.statement.Statement.{Statement}
use Rattle.cluster_script.specs.declared.statement.Statement.TheVariants.{Session, Settle, Back}
use Rattle.cluster_script.specs.declared.index.SessionOfScript.{SessionOfScript}
use Rattle.cluster_script.specs.declared.request_entry.RequestEntry.{RequestEntry}
use Rattle.cluster_script.specs.declared.session_table.SessionTable.{SessionTable}
use Rattle.cluster_script.specs.declared.phase_entry.PhaseEntry.{PhaseEntry}
use Rattle.cluster_script.specs.declared.script_index.Index.{Index}
use Rattle.cluster_script.specs.Statements.{is_setting, is_request}
use Rattle.cluster_script.specs.Settings.{nodes_of, vnodes_of, tries_of, limit_of, zone_of}
use Rattle.cluster_script.specs.NumberedRequests.{session_of}
use Rattle.cluster_script.specs.Phases.{is_barrier, is_control, losses_in, stretches}
use Rattle.cluster_script.specs.Sessions.{brings_back, session_numbered}
use Rattle.cluster_script.specs.Index.{session_seen}

-- where a statement stands, if it is a request
abbrev pub statement_entry : ℕ → ℕ → Statement → List RequestEntry
statement_entry place phase s =
    if is_request s then record { place = place; session = unwrap_or (session_of s) 0; phase = phase } ∷ [] else []

-- the place of the phase that goes on behind a statement
abbrev pub phase_after : ℕ → Statement → ℕ
phase_after phase s = if is_barrier s then phase + 1 else phase

-- where the requests stand among statements, of which the first has this place and is of the phase of this place
abbrev pub request_entries : ℕ → ℕ → List Statement → List RequestEntry
request_entries place phase [] = []
request_entries place phase (s ∷ rest) = statement_entry place phase s ++ request_entries (place + 1) (phase_after phase s) rest

-- the entry of a request by its number
abbrev pub entry_numbered : List RequestEntry → ℕ → Option RequestEntry
entry_numbered entries zero = None
entry_numbered entries (suc place) = slice_get entries place

-- a number, if its request is of this session
abbrev pub number_asked : ℕ → ℕ → RequestEntry → List ℕ
number_asked session number entry = if entry.session == session then number ∷ [] else []

-- the numbers of a session's requests among entries, of which the first has this number
abbrev pub numbers_asked : ℕ → ℕ → List RequestEntry → List ℕ
numbers_asked session number [] = []
numbers_asked session number (entry ∷ rest) = number_asked session number entry ++ numbers_asked session (number + 1) rest

-- the places of the controls among statements, of which the first has this place
abbrev pub control_places : ℕ → List Statement → List ℕ
control_places place [] = []
control_places place (s ∷ rest) = (if is_control s then place ∷ [] else []) ++ control_places (place + 1) rest

-- the phase that a stretch is, behind so many controls and requests
abbrev pub phase_entry : ℕ → ℕ → List Statement → PhaseEntry
phase_entry controls requests stretch = record {
  controls_before = controls;
  controls = count_by is_control stretch;
  losses = sum_by losses_in stretch;
  requests_before = requests;
  requests = count_by is_request stretch;
  barrier = unwrap_or (find is_barrier stretch) Settle;
}

-- the phases that stretches are, one after another
abbrev pub phase_entries : ℕ → ℕ → List (List Statement) → List PhaseEntry
phase_entries controls requests [] = []
phase_entries controls requests (stretch ∷ rest) =
    phase_entry controls requests stretch
    ∷ phase_entries (controls + count_by is_control stretch) (requests + count_by is_request stretch) rest

-- the session of a number in a table
abbrev pub session_kept : ℕ → SessionTable → Option SessionOfScript
session_kept number table = slice_index_or table.sessions number None

-- how often a table saw a node come back
abbrev pub backs_kept : ℕ → SessionTable → ℕ
backs_kept node table = slice_index_or table.backs node 0

-- the session of a number after a statement
abbrev pub session_by : ℕ → SessionTable → Statement → Option SessionOfScript
session_by number table (Session session node) =
    if session == number
    then Some (record { number = session; node = node; incarnation = 1 + backs_kept node table })
    else session_kept number table
session_by number table s = session_kept number table

-- the numbers of a session, of its node and of a node that comes back are such as there may be
abbrev pub MayBeNoted : Statement → Type 0
MayBeNoted (Session session node) = (session ≤ SESSIONS_MAX) × IsNode node
MayBeNoted (Back node) = IsNode node
MayBeNoted s = Unit {0}

-- a table has the sessions of statements, and counts which nodes came back
pub record IsSessionTable (before : List Statement) (table : SessionTable) : Type 0 where
  pub sessions : (number : ℕ) → option_map session_seen (session_kept number table) ≡ session_numbered before number
  pub backs : (node : ℕ) → backs_kept node table ≡ count_by (brings_back node) before

-- what a script keeps is of its statements
pub record IsIndex (statements : List Statement) (index : Index) : Type 0 where
  pub nodes : index.nodes ≡ nodes_of statements
  pub vnodes : index.vnodes ≡ vnodes_of statements
  pub tries : index.tries ≡ tries_of statements
  pub limit : index.limit ≡ limit_of statements
  pub zones : (node : ℕ) → node < NODES_MAX → slice_index_or index.zones node 0 ≡ zone_of statements node
  pub sessions : IsSessionTable statements index.sessions
  pub requests : index.requests ≡ request_entries 0 0 statements
  pub numbers : index.numbers ≡ map (λ session. numbers_asked session 1 (request_entries 0 0 statements)) (range_with_len 1 SESSIONS_MAX)
  pub controls : index.controls ≡ control_places 0 statements
  pub phases : index.phases ≡ phase_entries 0 0 (stretches (filter (λ s. not (is_setting s)) statements))
