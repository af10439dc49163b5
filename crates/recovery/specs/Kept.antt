-- How the code of a recovery keeps its messages and its search, and what the end of a level comes to.
use Rattle.std.specs.Prelude.{ℕ, suc, ◌-◌, ◌^◌, ◌==◌, ◌<◌, nat_lt, Bool, true, false}
use Rattle.std.specs.Prelude.{not, List, [], ◌∷◌, ◌++◌, length, map, filter}
use Rattle.std.specs.Prelude.{Option, None, Some, unwrap_or, if◌then◌else◌}
use Rattle.std.specs.Borrow.{Bor}
use Rattle.std.specs.List.{find, filter_map, list_any}
use Rattle.std.specs.List.Sorted.{IsStrictlyIncreasing}
use Rattle.std.specs.Option.{option_map, option_map_or}
use Rattle.std.specs.FinMap as tree
use Rattle.object_id.specs.declared.node.NodeId.{NodeId}
use Rattle.object_id.specs.declared.policy.Policy.{Policy}
use Rattle.object_id.specs.declared.policy.Policy.TheVariants.{Copies, Coded}
use Rattle.object_id.specs.declared.oid.Kind.{Kind}
use Rattle.object_id.specs.declared.oid.Kind.TheVariants.{Block, Inode}
use Rattle.object_id.specs.Oid.{kind_of}
use Rattle.object_list.specs.Gathered.{GatheredLists}
use Rattle.object_list.specs.Union.{union}
use Rattle.object_store.specs.declared.row.RowCopy.{RowCopy}
use Rattle.peer_proto.specs.declared.ask.PeerAsk.{PeerAsk}
use Rattle.peer_proto.specs.declared.ask.PeerAsk.TheVariants as asks
use Rattle.peer_proto.specs.declared.say.PeerSay.{PeerSay}
use Rattle.peer_proto.specs.declared.say.PeerSay.TheVariants as says
use Rattle.recovery.specs.declared.in_flight.Asked.{Asked}
use Rattle.recovery.specs.declared.in_flight.Asked.TheVariants as asked_for
use Rattle.recovery.specs.declared.level_end.LevelEnd.{LevelEnd}
use Rattle.recovery.specs.declared.level_end.LevelEnd.TheVariants as ends
use Rattle.recovery.specs.Shown.{NodeView, live_policy, index_in, own_row, is_asked_row, is_to_recover, shown_with_pending}
use Rattle.recovery.specs.State.{Message, Search, Recovery, RecoveryState}
use Rattle.recovery.specs.Level.{row_of_target, put_by_index, rows_taken, are_enough}
use Rattle.recovery.specs.Level.{part_from_rows, with_part_found, with_object_missing, to_ask, level_over}
use Rattle.recovery.specs.Steps.{search_after_answer}
use Rattle.recovery.specs.Fits.{is_list, is_recover_read}

-- a recovery and what it sees of its node
abbrev pub recovery_state : Recovery → NodeView → RecoveryState
recovery_state recovery shown = record { recovery = recovery; shown = shown }

-- ---- the messages of a tick, which all ask for the same

-- what they ask for
abbrev pub ask_of : Asked → PeerAsk
ask_of asked_for.Lists = asks.List
ask_of (asked_for.Rows oid level wanted) = asks.RecoverRead oid level

abbrev pub wanted_by : Asked → ℕ
wanted_by asked_for.Lists = 0
wanted_by (asked_for.Rows oid level wanted) = wanted

-- the messages that aren't answered: what they ask for, of which epoch's recovery they are and whether a newer one began since, and the
-- number of each with the node that it goes to
pub record InFlight : Type 0 where
  pub asked : Asked
  pub epoch : ℕ
  pub is_older : Bool
  pub nodes : List (ℕ × NodeId)

-- before the first tick
abbrev pub no_messages : InFlight
no_messages = record { asked = asked_for.Lists; epoch = 1; is_older = false; nodes = [] }

abbrev pub sent_number : ℕ × NodeId → ℕ
sent_number sent = sent.0

abbrev pub has_sent_number : ℕ → ℕ × NodeId → Bool
has_sent_number number sent = sent.0 == number

-- the node that the message of a number goes to
abbrev pub node_of : ℕ → List (ℕ × NodeId) → Option NodeId
node_of number nodes = option_map (λ (sent : ℕ × NodeId). sent.1) (find (has_sent_number number) nodes)

abbrev pub sent_without : ℕ → List (ℕ × NodeId) → List (ℕ × NodeId)
sent_without number nodes = filter (λ (sent : ℕ × NodeId). not (has_sent_number number sent)) nodes

-- whether there is a message beside that of a number
abbrev pub has_others : ℕ → List (ℕ × NodeId) → Bool
has_others number nodes = list_any (λ (sent : ℕ × NodeId). not (has_sent_number number sent)) nodes

abbrev pub flight_without : ℕ → InFlight → InFlight
flight_without number flight = record flight { nodes = sent_without number flight.nodes }

-- a message, as its node's recovery knows it
abbrev pub message_to : NodeId → ℕ → Asked → ℕ × NodeId → Message
message_to me epoch asked sent = record {
  to = sent.1;
  request = record { from = me; number = sent.0; epoch = record { 0 = epoch }; ask = ask_of asked };
  wanted = wanted_by asked;
}

abbrev pub messages_in : NodeId → InFlight → List Message
messages_in me flight = map (message_to me flight.epoch flight.asked) flight.nodes

-- those of the recovery itself, and those of older ones
abbrev pub current_in : NodeId → InFlight → List Message
current_in me flight = if flight.is_older then [] else messages_in me flight

abbrev pub older_in : NodeId → InFlight → List Message
older_in me flight = if flight.is_older then messages_in me flight else []

-- the message of a number goes to this node, and is of the recovery itself
abbrev pub current_node : ℕ → InFlight → Option NodeId
current_node number flight = if flight.is_older then None else node_of number flight.nodes

-- whether the messages are of the recovery itself, and ask for the rows of this object
abbrev pub is_read_by : ℕ → Asked → Bool
is_read_by oid asked_for.Lists = false
is_read_by oid (asked_for.Rows other level wanted) = other == oid

abbrev pub is_current_read : ℕ → InFlight → Bool
is_current_read oid flight = if flight.is_older then false else is_read_by oid flight.asked

abbrev pub AscendByNumber : List (ℕ × NodeId) → Type 0
AscendByNumber nodes = IsStrictlyIncreasing (map sent_number nodes)

-- ---- what a message of this ask may be told

abbrev pub fits_asked_row : NodeView → Asked → RowCopy → Bool
fits_asked_row shown asked_for.Lists row = false
fits_asked_row shown (asked_for.Rows oid level wanted) row = is_asked_row level.0 wanted (shown.size_of oid) row

abbrev pub fits_asked : NodeView → Asked → PeerSay → Bool
fits_asked shown asked says.Success = false
fits_asked shown asked (says.Piece bytes) = false
fits_asked shown asked (says.Objects oids) = is_list (ask_of asked)
fits_asked shown asked (says.Row row) = fits_asked_row shown asked row
fits_asked shown asked says.NoRow = is_recover_read (ask_of asked)
fits_asked shown asked (says.Refused refusal) = true

-- ---- what is pending once all lists have come

abbrev pub ids_to_recover : NodeId → ℕ → GatheredLists → NodeView → List ℕ
ids_to_recover me epoch lists shown = filter (is_to_recover me epoch shown) (union lists.objects (tree.keys shown.rows))

abbrev pub ids_when_listed : NodeId → ℕ → GatheredLists → NodeView → Option (List ℕ)
ids_when_listed me epoch lists shown = if length lists.waiting == 0 then Some (ids_to_recover me epoch lists shown) else None

abbrev pub shown_with_list : Option (List ℕ) → NodeView → NodeView
shown_with_list None shown = shown
shown_with_list (Some oids) shown = shown_with_pending oids shown

-- ---- the end of a level

-- what is known of the message of a number: the node that it goes to, and what it asks for
abbrev pub sent_to : Message → NodeId × PeerAsk
sent_to message = (message.to, message.request.ask)

abbrev pub sent_by : NodeId × Asked → NodeId × PeerAsk
sent_by sent = (sent.0, ask_of sent.1)

-- whether the search for an object goes on
abbrev pub is_searched : ℕ → Option Search → Bool
is_searched oid None = false
is_searched oid (Some search) = search.oid == oid

-- how many rows at the front have an index below this one, and whether a row has it
abbrev pub count_below : ℕ → List RowCopy → ℕ
count_below index [] = 0
count_below index (row ∷ rows) = if nat_lt row.index index then suc (count_below index rows) else 0

abbrev pub has_index_at : ℕ → Option RowCopy → Bool
has_index_at index None = false
has_index_at index (Some row) = row.index == index

-- rows with one more, in the order in which they are taken
abbrev pub with_row_in_order : Policy → Kind → List RowCopy → RowCopy → List RowCopy
with_row_in_order (Copies copies) kind rows row = rows ++ row ∷ []
with_row_in_order (Coded d p) Block rows row = put_by_index rows row
with_row_in_order (Coded d p) Inode rows row = rows ++ row ∷ []

abbrev pub put_if_some : Policy → Kind → List RowCopy → Option RowCopy → List RowCopy
put_if_some policy kind rows None = rows
put_if_some policy kind rows (Some row) = with_row_in_order policy kind rows row

-- the rows that count, by what the node sees
abbrev pub rows_at : NodeId → NodeView → Policy → Search → List RowCopy
rows_at me shown policy search =
    filter_map (row_of_target me (own_row shown search.oid search.level) search.answers) (shown.targets search.level search.oid policy)

-- too few rows
abbrev pub end_without_part : Search → ℕ → LevelEnd
end_without_part search settled =
    if search.again then ends.Asks (record { 0 = search.level }) else
    if nat_lt (search.level - 1) settled then ends.Missing else ends.Asks (record { 0 = search.level - 1 })

-- the index of the node's own part in an epoch
abbrev pub index_of_own : NodeId → ℕ → NodeView → Policy → ℕ → ℕ
index_of_own me epoch shown policy oid = unwrap_or (index_in shown epoch oid policy me) 0

-- the node's own part, by the rows that are taken
abbrev pub part_end : NodeId → ℕ → NodeView → Policy → ℕ → List RowCopy → LevelEnd
part_end me epoch shown policy oid taken =
    ends.Found (index_of_own me epoch shown policy oid)
    (part_from_rows policy (kind_of oid) (index_of_own me epoch shown policy oid) taken)

abbrev pub end_with_rows : NodeId → ℕ → NodeView → Search → Policy → List RowCopy → LevelEnd
end_with_rows me epoch shown search policy rows =
    if are_enough policy (kind_of search.oid) rows
    then part_end me epoch shown policy search.oid (rows_taken policy (kind_of search.oid) rows)
    else end_without_part search shown.settled

-- what the level of a search comes to, in the recovery of an epoch
abbrev pub level_end : NodeId → ℕ → NodeView → Search → LevelEnd
level_end me epoch shown search =
    option_map_or (λ (policy : Policy). end_with_rows me epoch shown search policy (rows_at me shown policy search))
    (live_policy shown search.oid) ends.Nothing

-- the bytes that a level ends with have a length of 32 bits
abbrev pub IsSmallEnd : LevelEnd → Type 0
IsSmallEnd (ends.Found index bytes) = length bytes < 2 ^ 32
IsSmallEnd ends.Missing = Unit {0}
IsSmallEnd (ends.Asks level) = Unit {0}
IsSmallEnd ends.Nothing = Unit {0}

-- the state after that
abbrev pub state_after_level : ℕ → LevelEnd → RecoveryState → RecoveryState
state_after_level oid (ends.Found index bytes) state = with_part_found oid index bytes state
state_after_level oid ends.Missing state = with_object_missing oid state
state_after_level oid (ends.Asks level) state = to_ask oid level.0 state
state_after_level oid ends.Nothing state = state

-- the rows that references lead to
abbrev pub rows_of_refs : List (Bor RowCopy) → List RowCopy
rows_of_refs rows = map (λ row. row.now) rows

-- the last message of the level of a search has ended
abbrev pub level_over_after : NodeId → Option PeerSay → Option Search → RecoveryState → RecoveryState
level_over_after from said None state = state
level_over_after from said (Some search) state = level_over (search_after_answer from said search) state
