-- Which lists of statements are scripts.
use Rattle.std.specs.Prelude.{◌≡◌, ◌≢◌, ℕ, ◌+◌, ◌^◌, ◌<◌, ◌≤◌, true, false, List, [], ◌∷◌, ◌++◌, length, All, Option, Some, None, count_by, sum_by}
use Rattle.std.specs.Prelude.{slice_get}
use Rattle.std.specs.List.{list_all}
use Rattle.object_id.specs.Node.{IsNode, IsZone}
use Rattle.object_id.specs.Spec.{IsSpec}
use Rattle.cluster_script.specs.declared.statement.Pattern.{Pattern}
use Rattle.cluster_script.specs.declared.statement.Pattern.TheVariants as patterns
use Rattle.cluster_script.specs.declared.statement.Statement.{Statement}
use Rattle.cluster_script.specs.declared.statement.Statement.TheVariants.{Cluster, Vnodes, Tries, Limit, Session, Create, OpenDisk, Close}
use Rattle.cluster_script.specs.declared.statement.Statement.TheVariants.{Read, Write, Snapshot, Clone, Delete, Fail, Join, Lose, Settle}
use Rattle.cluster_script.specs.declared.statement.Statement.TheVariants.{ListNodes, ListVdis, ClusterInfo, Dump, Zone, Reweight, Back}
use Rattle.cluster_script.specs.declared.statement.Statement.TheVariants.{Check}
use Rattle.object_id.specs.declared.limits.TheConstants.{NAME_BYTES_MAX, NODES_MAX, VNODES_MAX, TRIES_MAX, LIMIT_MAX, SESSIONS_MAX, LOSSES_MAX}
use Rattle.object_id.specs.declared.limits.TheConstants.{REQUESTS_MAX, READ_BYTES_MAX, WRITE_BYTES_MAX}
use Rattle.object_id.specs.declared.limits.TheConstants.{CHECKS_MAX}
use Rattle.cluster_script.specs.Statements.{is_setting, is_cluster, is_session_declared, is_check, is_request, read_bytes, write_bytes, has}
use Rattle.object_id.specs.Span.{IsSpan}
use Rattle.cluster_script.specs.Settings.{is_set, nodes_set, vnodes_set, tries_set, limit_set, zone_set}
use Rattle.cluster_script.specs.Phases.{losses_from}
use Rattle.cluster_script.specs.Nodes.{is_node_used, is_failed, IsNodeThere}

-- a setting stands before every other statement, and nothing before it sets the same
pub record MaySet (before : List Statement) (set : Statement → Option ℕ) : Type 0 where
  pub first : list_all is_setting before ≡ true
  pub once : is_set set before ≡ false

-- every other statement stands behind a `cluster`
abbrev pub HasCluster : List Statement → Type 0
HasCluster before = has is_cluster before ≡ true

-- one request more of a session that is declared, so behind a `cluster`
pub record MayAsk (before : List Statement) (session : ℕ) : Type 0 where
  pub declared : is_session_declared session before ≡ true
  pub room : count_by is_request before < REQUESTS_MAX

-- 1 to 255 printed bytes without a blank, of which the first isn't `-` (45)
pub record IsPrintedName (name : List ℕ) : Type 0 where
  pub some : 1 ≤ length name
  pub short : length name ≤ NAME_BYTES_MAX
  pub printed : All (λ byte. (33 ≤ byte) × (byte ≤ 126)) name
  pub no_option : slice_get name 0 ≢ Some 45

-- a tag, where one is given, is printed like a name
abbrev pub IsPrintedTag : Option (List ℕ) → Type 0
IsPrintedTag None = Unit {0}
IsPrintedTag (Some tag) = IsPrintedName tag

-- the byte that a pattern says is one
abbrev pub IsByte : Pattern → Type 0
IsByte (patterns.Fill byte) = byte < 2 ^ 8
IsByte (patterns.Step byte) = byte < 2 ^ 8

-- a statement that may stand after the statements before it
abbrev pub MayStand : List Statement → Statement → Type 0
MayStand before (Cluster nodes) = MaySet before nodes_set × (1 ≤ nodes) × (nodes ≤ NODES_MAX)
MayStand before (Vnodes vnodes) = MaySet before vnodes_set × (1 ≤ vnodes) × (vnodes ≤ VNODES_MAX)
MayStand before (Tries tries) = MaySet before tries_set × (1 ≤ tries) × (tries ≤ TRIES_MAX)
MayStand before (Limit limit) = MaySet before limit_set × (1 ≤ limit) × (limit ≤ LIMIT_MAX)
MayStand before (Session session node) =
    HasCluster before × (is_session_declared session before ≡ false) × (1 ≤ session) × (session ≤ SESSIONS_MAX) × IsNodeThere node before
MayStand before (Create session policy shift name size) =
    MayAsk before session × IsPrintedName name × IsSpec (record { size = size; policy = policy; shift = shift })
MayStand before (OpenDisk session name tag) = MayAsk before session × IsPrintedName name × IsPrintedTag tag
MayStand before (Close session) = MayAsk before session
MayStand before (Read session offset length) =
    MayAsk before session × IsSpan offset length × (sum_by read_bytes before + length ≤ READ_BYTES_MAX)
MayStand before (Write session offset length pattern) =
    MayAsk before session × IsSpan offset length × IsByte pattern × (sum_by write_bytes before + length ≤ WRITE_BYTES_MAX)
MayStand before (Snapshot session tag) = MayAsk before session × IsPrintedName tag
MayStand before (Clone session base tag name) = MayAsk before session × IsPrintedName base × IsPrintedName tag × IsPrintedName name
MayStand before (Delete session name tag) = MayAsk before session × IsPrintedName name × IsPrintedTag tag
MayStand before (Fail node) = HasCluster before × IsNodeThere node before
MayStand before (Join node) = HasCluster before × IsNode node × (is_node_used node before ≡ false)
MayStand before (Lose count) = HasCluster before × (losses_from 0 before + count ≤ LOSSES_MAX)
MayStand before Settle = HasCluster before
MayStand before ListNodes = HasCluster before
MayStand before ListVdis = HasCluster before
MayStand before ClusterInfo = HasCluster before
MayStand before Dump = HasCluster before
MayStand before (Zone node zone) = MaySet before (zone_set node) × IsNode node × IsZone zone
MayStand before (Reweight node vnodes) = HasCluster before × IsNodeThere node before × (1 ≤ vnodes) × (vnodes ≤ VNODES_MAX)
MayStand before (Back node) = HasCluster before × (is_failed node before ≡ true)
MayStand before (Check session) = MayAsk before session × (count_by is_check before < CHECKS_MAX)

-- each statement may stand after those before it
abbrev pub EachMayStand : List Statement → List Statement → Type 0
EachMayStand before [] = Unit {0}
EachMayStand before (s ∷ rest) = MayStand before s × EachMayStand (before ++ s ∷ []) rest

-- the statements are a script
abbrev pub IsScript : List Statement → Type 0
IsScript statements = EachMayStand [] statements
