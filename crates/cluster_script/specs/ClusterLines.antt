-- The lines that say what a cluster is and what happens to it: settings, sessions, controls, losses and barriers.
use Rattle.std.specs.Prelude.{ℕ, ◌+◌, ◌-◌, ◌&&◌, not, nat_le, List, bytes_eq, codes, Option, Result, Ok, Err, if◌then◌else◌}
use Rattle.std.specs.List.{list_all}
use Rattle.cluster_script.specs.declared.statement.Statement.{Statement}
use Rattle.cluster_script.specs.declared.statement.Statement.TheVariants.{Session, Fail, Join, Lose, Settle, ListNodes, ListVdis}
use Rattle.cluster_script.specs.declared.statement.Statement.TheVariants.{ClusterInfo, Dump, Zone, Reweight, Back}
use Rattle.cluster_script.specs.declared.fault.LineCause.{LineCause}
use Rattle.cluster_script.specs.declared.fault.LineCause.TheVariants as causes
use Rattle.object_id.specs.declared.limits.TheConstants.{NODES_MAX, VNODES_MAX, SESSIONS_MAX, LOSSES_MAX, ZONES_MAX}
use Rattle.cluster_script.specs.Statements.{is_setting, is_session_declared}
use Rattle.cluster_script.specs.Settings.{is_set, zone_set}
use Rattle.cluster_script.specs.Phases.{losses_from}
use Rattle.cluster_script.specs.Nodes.{is_node_used, is_failed, is_node_there}
use Rattle.cluster_script.specs.ReadResults.{◌>>=◌}
use Rattle.cluster_script.specs.Words.{Word, word_at, keyword_at, end_of_words}
use Rattle.cluster_script.specs.Numbers.{number_of, plain_number_at}

-- a setting of one number, from 1 on; it stands before every other statement, and once
unfoldable pub setting_at : (ℕ → Statement) → (Statement → Option ℕ) → ℕ → List Statement → List Word → Result Statement LineCause
setting_at statement set most before words = do
  turn ← if list_all is_setting before && not (is_set set before) then Ok words else Err causes.Word
  number ← plain_number_at 1 most turn
  end ← end_of_words number.1
  Ok (statement number.0)

-- the number of a node, and the words after it
abbrev pub node_number_at : List Word → Result (ℕ × List Word) LineCause
node_number_at words = plain_number_at 0 (NODES_MAX - 1) words

-- the number of a zone, and the words after it
abbrev pub zone_number_at : List Word → Result (ℕ × List Word) LineCause
zone_number_at words = plain_number_at 0 (ZONES_MAX - 1) words

-- `N Z`: the zone of a node, once
unfoldable pub zone_at : List Statement → List Word → Result Statement LineCause
zone_at before words = do
  turn ← if list_all is_setting before then Ok words else Err causes.Word
  node ← node_number_at turn
  rest ← if is_set (zone_set node.0) before then Err causes.Twice else Ok node.1
  zone ← zone_number_at rest
  end ← end_of_words zone.1
  Ok (Zone node.0 zone.0)

-- a node that is there, and the words after it
unfoldable pub there_at : List Statement → List Word → Result (ℕ × List Word) LineCause
there_at before words = do
  node ← node_number_at words
  if is_node_there node.0 before then Ok node else Err causes.Unknown

-- `S node N`: a session that is new, and its gateway, which is there
unfoldable pub session_line_at : List Statement → List Word → Result Statement LineCause
session_line_at before words = do
  session ← plain_number_at 1 SESSIONS_MAX words
  rest ← if is_session_declared session.0 before then Err causes.Twice else Ok session.1
  place ← keyword_at (codes "node") rest
  node ← there_at before place
  end ← end_of_words node.1
  Ok (Session session.0 node.0)

-- `N`: a node that is there
unfoldable pub fail_at : List Statement → List Word → Result Statement LineCause
fail_at before words = do
  node ← there_at before words
  end ← end_of_words node.1
  Ok (Fail node.0)

-- `N`: a number that wasn't used
unfoldable pub join_at : List Statement → List Word → Result Statement LineCause
join_at before words = do
  node ← node_number_at words
  rest ← if is_node_used node.0 before then Err causes.Twice else Ok node.1
  end ← end_of_words rest
  Ok (Join node.0)

-- `N V`: a node that is there, and its weight
unfoldable pub reweight_at : List Statement → List Word → Result Statement LineCause
reweight_at before words = do
  node ← there_at before words
  vnodes ← plain_number_at 1 VNODES_MAX node.1
  end ← end_of_words vnodes.1
  Ok (Reweight node.0 vnodes.0)

-- `N`: a node that is failed
unfoldable pub back_at : List Statement → List Word → Result Statement LineCause
back_at before words = do
  node ← node_number_at words
  rest ← if is_failed node.0 before then Ok node.1 else Err causes.Unknown
  end ← end_of_words rest
  Ok (Back node.0)

-- `K`: so many messages more, as long as a phase doesn't lose too many
unfoldable pub lose_at : List Statement → List Word → Result Statement LineCause
lose_at before words = do
  word ← word_at words
  count ← number_of word.0
  end ← end_of_words word.1
  if nat_le (losses_from 0 before + count) LOSSES_MAX then Ok (Lose count) else Err causes.TooMany

-- no word follows
unfoldable pub alone_at : Statement → List Word → Result Statement LineCause
alone_at s words = do
  end ← end_of_words words
  Ok s

-- this word follows
unfoldable pub followed_at : Word → Statement → List Word → Result Statement LineCause
followed_at expected s words = do
  rest ← keyword_at expected words
  alone_at s rest

-- a barrier, by its first word
unfoldable pub barrier_at : Word → List Word → Result Statement LineCause
barrier_at first words =
    if bytes_eq first (codes "settle") then alone_at Settle words
    else if bytes_eq first (codes "node") then followed_at (codes "list") ListNodes words
    else if bytes_eq first (codes "vdi") then followed_at (codes "list") ListVdis words
    else if bytes_eq first (codes "cluster") then followed_at (codes "info") ClusterInfo words
    else if bytes_eq first (codes "dump") then alone_at Dump words
    else Err causes.Word

-- a session, a control, losses or a barrier, by its first word
unfoldable pub happening_at : List Statement → Word → List Word → Result Statement LineCause
happening_at before first words =
    if bytes_eq first (codes "session") then session_line_at before words
    else if bytes_eq first (codes "fail") then fail_at before words
    else if bytes_eq first (codes "join") then join_at before words
    else if bytes_eq first (codes "reweight") then reweight_at before words
    else if bytes_eq first (codes "back") then back_at before words
    else if bytes_eq first (codes "lose") then lose_at before words
    else barrier_at first words
