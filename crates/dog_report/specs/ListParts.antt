-- The lines of the lists by the parts that the code has: members, headers with their tags, and rows without their bytes.
use Rattle.std.specs.Prelude.{ℕ, ◌==◌, nat_lt, Bool, ◌&&◌, ◌||◌, List, [], ◌∷◌, map, flat_map, fold, codes, decimal, Option, if◌then◌else◌}
use Rattle.std.specs.Option.{option_map_or}
use Rattle.std.specs.FinMap as tree
use Rattle.object_id.specs.declared.oid.Vid.{Vid}
use Rattle.object_id.specs.declared.entry.Member.{Member}
use Rattle.object_store.specs.declared.row.RowSummary.{RowSummary}
use Rattle.object_store.specs.Store.{SeenRow, AllRows, row_count}
use Rattle.epoch_log.specs.Members.{node_numbers}
use Rattle.disk_lock.specs.declared.holder.Holder.{Holder}
use Rattle.vdi_directory.specs.declared.header.Header.{Header}
use Rattle.peer_service.specs.State.{Peer}
use Rattle.cluster_script.specs.Writing.{policy_word}
use Rattle.dog_report.specs.Words.{Words, hex}
use Rattle.dog_report.specs.Fates.{Listed}
use Rattle.sheep_world.specs.World.{Host, is_host_up}
use Rattle.dog_report.specs.Lists.{pending_word, holder_words, to_word, row_words, ordered_rows, node_rows}
use Rattle.dog_report.specs.Report.{report_text}

-- the text of a list: each line's words, and its end
abbrev pub lines_text : List Words → List ℕ
lines_text lines = report_text (map Listed lines)

-- `cluster info` behind its first word, by the epochs and the members
abbrev pub cluster_details : ℕ → ℕ → List Member → Words
cluster_details newest settled members =
    codes "epoch" ∷ decimal newest ∷ codes "settled" ∷ decimal settled ∷ codes "members"
    ∷ map decimal (node_numbers members)

-- what is told of a node that isn't lost, behind its number
abbrev pub peer_words : ℕ → Peer → Words
peer_words vnodes peer =
    codes "vnodes" ∷ decimal vnodes ∷ codes "epoch" ∷ decimal peer.epoch ∷ codes "rows" ∷ decimal (row_count peer.rows)
    ∷ codes "pending" ∷ pending_word peer.pending ∷ []

-- the tag of a header, which a working disk hasn't
abbrev pub header_tag_word : List ℕ → List ℕ
header_tag_word [] = codes "-"
header_tag_word (byte ∷ bytes) = byte ∷ bytes

-- what a live id is, by its header's tag
abbrev pub header_state_words : List ℕ → Option Holder → Words
header_state_words [] holder = holder_words holder
header_state_words (byte ∷ bytes) holder = codes "snapshot" ∷ []

-- a live id behind the line's first word, by its header alone
abbrev pub header_details : ℕ → Header → Option Holder → Words
header_details vid header holder =
    hex 6 vid ∷ header.name ∷ header_tag_word header.tag ∷ decimal header.spec.size ∷ policy_word header.spec.policy
    ∷ decimal header.spec.shift ∷ hex 6 (option_map_or (λ (parent : Vid). parent.0) header.parent 0)
    ∷ header_state_words header.tag holder

-- a row behind the line's first word, without its bytes
abbrev pub summary_details : ℕ → ℕ → RowSummary → Words
summary_details node oid row =
    decimal node ∷ hex 16 oid ∷ decimal row.index ∷ decimal row.from.0 ∷ to_word row.to ∷ hex 16 row.hash ∷ []

-- the whole line of a row
abbrev pub summary_words : ℕ → ℕ → RowSummary → Words
summary_words node oid row = codes "row" ∷ summary_details node oid row

-- whether a row is listed before another one, as `comes_before` has it
abbrev pub summary_before : RowSummary → RowSummary → Bool
summary_before one other = nat_lt one.index other.index || (one.index == other.index && nat_lt one.from.0 other.from.0)

-- ordered rows with one more, as `put_in_order` has them
abbrev pub summaries_with : List RowSummary → RowSummary → List RowSummary
summaries_with [] row = row ∷ []
summaries_with (first ∷ later) row = if summary_before row first then row ∷ first ∷ later else first ∷ summaries_with later row

-- rows in that order
abbrev pub ordered_summaries : List RowSummary → List RowSummary
ordered_summaries rows = fold summaries_with [] rows

-- the rows of an object of a node
abbrev pub object_rows : ℕ → ℕ → List SeenRow → List Words
object_rows node oid rows = map (row_words node oid) (ordered_rows rows)

-- the rows of a store, by object
abbrev pub stored_rows : ℕ → AllRows → List Words
stored_rows node all = flat_map (λ (rows : ℕ × List SeenRow). object_rows node rows.0 rows.1) (tree.entries all)

-- what is told of a member behind its number: that its node is lost, or what it has
abbrev pub member_words : Bool → ℕ → Peer → Words
member_words lost vnodes peer = if lost then codes "lost" ∷ [] else peer_words vnodes peer

-- the rows of a host's node, if it is up
abbrev pub rows_if_up : ℕ → Host → List Words
rows_if_up number host = if is_host_up host then node_rows number host.node else []
