-- Words over lists of statements: what kinds there are among them, and what they read and write.
use Rattle.std.specs.Prelude.{ℕ, ◌==◌, Bool, true, false, List, filter}
use Rattle.std.specs.List.{list_any}
use Rattle.cluster_script.specs.declared.statement.Statement.{Statement}
use Rattle.cluster_script.specs.declared.statement.Statement.TheVariants.{Cluster, Vnodes, Tries, Limit, Session, Create, OpenDisk, Close}
use Rattle.cluster_script.specs.declared.statement.Statement.TheVariants.{Read, Write, Snapshot, Clone, Delete, Fail, Join, Lose, Settle}
use Rattle.cluster_script.specs.declared.statement.Statement.TheVariants.{ListNodes, ListVdis, ClusterInfo, Dump, Zone, Reweight, Back}
use Rattle.cluster_script.specs.declared.statement.Statement.TheVariants.{Check}

-- a statement says how many nodes there are
abbrev pub is_cluster : Statement → Bool
is_cluster (Cluster nodes) = true
is_cluster s = false

-- settings stand before every other statement
abbrev pub is_setting : Statement → Bool
is_setting (Cluster nodes) = true
is_setting (Vnodes vnodes) = true
is_setting (Tries tries) = true
is_setting (Limit limit) = true
is_setting (Zone node zone) = true
is_setting s = false

-- a statement declares this session
abbrev pub declares : ℕ → Statement → Bool
declares number (Session session node) = session == number
declares number s = false

-- a statement checks the disk that its session has open
abbrev pub is_check : Statement → Bool
is_check (Check session) = true
is_check s = false

-- a request is what a session asks for; requests are numbered from 1
abbrev pub is_request : Statement → Bool
is_request (Cluster nodes) = false
is_request (Vnodes vnodes) = false
is_request (Tries tries) = false
is_request (Limit limit) = false
is_request (Session session node) = false
is_request (Create session policy shift name size) = true
is_request (OpenDisk session name tag) = true
is_request (Close session) = true
is_request (Read session offset length) = true
is_request (Write session offset length pattern) = true
is_request (Snapshot session tag) = true
is_request (Clone session base tag name) = true
is_request (Delete session name tag) = true
is_request (Fail node) = false
is_request (Join node) = false
is_request (Lose count) = false
is_request Settle = false
is_request ListNodes = false
is_request ListVdis = false
is_request ClusterInfo = false
is_request Dump = false
is_request (Zone node zone) = false
is_request (Reweight node vnodes) = false
is_request (Back node) = false
is_request (Check session) = true

-- how many bytes a statement reads
abbrev pub read_bytes : Statement → ℕ
read_bytes (Read session offset length) = length
read_bytes s = 0

-- how many bytes a statement writes
abbrev pub write_bytes : Statement → ℕ
write_bytes (Write session offset length pattern) = length
write_bytes s = 0

-- whether a statement of a kind is among them
abbrev pub has : (Statement → Bool) → List Statement → Bool
has kind statements = list_any kind statements

-- whether a session is declared by one of them
abbrev pub is_session_declared : ℕ → List Statement → Bool
is_session_declared number statements = list_any (declares number) statements

-- the requests among them, in order
abbrev pub requests_of : List Statement → List Statement
requests_of statements = filter is_request statements
