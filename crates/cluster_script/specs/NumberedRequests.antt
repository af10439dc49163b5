-- What a script asks for: its requests by number and by session, and the bytes of its writes.
use Rattle.std.specs.Prelude.{ℕ, zero, suc, ◌+◌, ◌/◌, ◌%◌, ◌==◌, Bool, true, false, List, map, filter, Option, Some, None}
use Rattle.std.specs.List.{slice_get, range_with_len, enumerate_from}
use Rattle.std.specs.Option.{option_map_or}
use Rattle.object_id.specs.declared.limits.TheConstants.{BLOCK_BYTES}
use Rattle.cluster_script.specs.declared.statement.Pattern.{Pattern}
use Rattle.cluster_script.specs.declared.statement.Pattern.TheVariants.{Fill, Step}
use Rattle.cluster_script.specs.declared.statement.Statement.{Statement}
use Rattle.cluster_script.specs.declared.statement.Statement.TheVariants.{Create, OpenDisk, Close, Read, Write}
use Rattle.cluster_script.specs.declared.statement.Statement.TheVariants.{Snapshot, Clone, Delete, Check}
use Rattle.cluster_script.specs.Statements.{requests_of}

-- the session that asks, where a statement is a request
abbrev pub session_of : Statement → Option ℕ
session_of (Create session policy shift name size) = Some session
session_of (OpenDisk session name tag) = Some session
session_of (Close session) = Some session
session_of (Read session offset length) = Some session
session_of (Write session offset length pattern) = Some session
session_of (Snapshot session tag) = Some session
session_of (Clone session base tag name) = Some session
session_of (Delete session name tag) = Some session
session_of (Check session) = Some session
session_of s = None

-- a statement is a request of this session
abbrev pub is_of_session : ℕ → Statement → Bool
is_of_session session s = option_map_or (λ number. number == session) (session_of s) false

-- a request reads or writes an open disk
abbrev pub is_disk_request : Statement → Bool
is_disk_request (Read session offset length) = true
is_disk_request (Write session offset length pattern) = true
is_disk_request s = false

-- the request of a number; the first one is number 1
abbrev pub request_at : List Statement → ℕ → Option Statement
request_at statements zero = None
request_at statements (suc place) = slice_get (requests_of statements) place

-- the requests, each with its number
abbrev pub numbered_requests : List Statement → List (ℕ × Statement)
numbered_requests statements = enumerate_from 1 (requests_of statements)

-- the numbers of a session's requests, ascending
abbrev pub numbers_of_session : List Statement → ℕ → List ℕ
numbers_of_session statements session =
    map (λ request. request.0) (filter (λ request. is_of_session session request.1) (numbered_requests statements))

-- the byte that a block of what is written is full of: the same one, or one more for each block; 0 follows 255
abbrev pub byte_of : Pattern → ℕ → ℕ
byte_of (Fill byte) block = byte
byte_of (Step byte) block = (byte + block) % 256

-- the bytes of a write of this length
abbrev pub payload_of : Pattern → ℕ → List ℕ
payload_of pattern length = map (λ place. byte_of pattern (place / BLOCK_BYTES)) (range_with_len 0 length)
