-- What a step on an input may make of each row of a node's store, and of which rows a recovery finds: what is to be kept of each.
use Rattle.std.proofs.Common.{◌≡◌, ℕ, ◌+◌, ◌-◌, ◌≤◌, nat_eq, Bool, true, false, cond, List, length, Option, Some, None, refl, sym, ap, ◌∙◌}
use Rattle.std.specs.List.{AllByRecursion}
use Rattle.std.proofs.lemmas.Option.{same_Some}
use Rattle.object_id.specs.declared.entry.Entry.{Entry}
use Rattle.object_id.specs.declared.node.Epoch.{Epoch}
use Rattle.object_id.specs.declared.node.NodeId.{NodeId}
use Rattle.object_id.specs.declared.policy.Policy.{Policy}
use Rattle.object_id.specs.Fields.{zeros}
use Rattle.object_id.specs.Oid.{kind_of}
use Rattle.object_id.specs.Piece.{laid_over}
use Rattle.epoch_log.specs.Epochs.{begins_epoch, epoch_of}
use Rattle.object_store.specs.declared.key.Key.{Key}
use Rattle.object_store.specs.Rows.{is_open, is_open_at, closed}
use Rattle.object_store.specs.Store.{AllRows, SeenRow, rows_of, open_row}
use Rattle.peer_proto.specs.declared.ask.PeerAsk.TheVariants as asks
use Rattle.peer_proto.specs.declared.ask.PeerReq.{PeerReq}
use Rattle.peer_proto.specs.declared.say.PeerSay.{PeerSay}
use Rattle.peer_proto.specs.declared.say.PeerSay.TheVariants as says
use Rattle.peer_service.specs.State.{Peer}
use Rattle.peer_service.specs.Epochs.{stays_open}
use Rattle.peer_service.specs.Fence.{epoch_refusal}
use Rattle.peer_service.specs.LogReading.{read_entry}
use Rattle.vnode_table.specs.Targets.{targets_in}
use Rattle.recovery.specs.Shown.{live_policy, is_pending_object}
use Rattle.recovery.specs.State.{Message, Search, Recovery, RecoveryState, search_at, still_on, search_on, message_of}
use Rattle.recovery.specs.Level.{are_enough, own_index, own_part, rows_found}
use Rattle.recovery.specs.Steps.{search_after_answer}
use Rattle.sheep_node.specs.declared.input.Input.{Input}
use Rattle.sheep_node.specs.declared.input.Input.TheVariants as inputs
use Rattle.sheep_node.specs.State.{Node}
use Rattle.sheep_node.specs.RecoveryView.{shown_node, recovery_state_of}
use Rattle.sheep_node.specs.LogReading.{epochs_with_entry}

-- ---- what an input tells of a message

abbrev pub TellsOf : Input → ℕ → Option PeerSay → Type 0
TellsOf (inputs.Guest req session ask) number said = ⊥
TellsOf (inputs.Request request) number said = ⊥
TellsOf (inputs.Reply rsp) number said = (rsp.number ≡ number) × (Some rsp.say ≡ said)
TellsOf (inputs.Lost lost) number said = (lost ≡ number) × (None ≡ said)
TellsOf (inputs.LogEntry entry) number said = ⊥
TellsOf inputs.Put number said = ⊥
TellsOf inputs.RecoverTick number said = ⊥
TellsOf inputs.RetryTick number said = ⊥
TellsOf (inputs.Back entries) number said = ⊥

-- a recovery may find a row as a message of it is answered or lost, and as it ticks
abbrev pub MayFind : Input → Type 0
MayFind (inputs.Guest req session ask) = ⊥
MayFind (inputs.Request request) = ⊥
MayFind (inputs.Reply rsp) = Unit {0}
MayFind (inputs.Lost lost) = Unit {0}
MayFind (inputs.LogEntry entry) = ⊥
MayFind inputs.Put = ⊥
MayFind inputs.RecoverTick = Unit {0}
MayFind inputs.RetryTick = ⊥
MayFind (inputs.Back entries) = ⊥

-- a search that goes on is of a pending object
pub on_pending : (pending : Option (List ℕ)) (o : Option Search) (search : Search) → still_on pending o ≡ Some search
    → is_pending_object search.oid pending ≡ true
on_pending pending None search is = absurd (cc (is))
on_pending pending (Some one) search is = by_pending (is_pending_object one.oid pending) refl is
  where
    by_pending : (b : Bool) → is_pending_object one.oid pending ≡ b → cond b (Some one) None ≡ Some search
        → is_pending_object search.oid pending ≡ true
    by_pending true so is = ap (λ (s : Search). is_pending_object s.oid pending) (sym (same_Some one search is)) ∙ so
    by_pending false so is = absurd (cc (is))

-- a search stays one of its object
pub same_object : (from : NodeId) (said : Option PeerSay) (search : Search) → (search_after_answer from said search).oid ≡ search.oid
same_object from None search = refl
same_object from (Some says.Success) search = refl
same_object from (Some (says.Piece bytes)) search = refl
same_object from (Some (says.Objects oids)) search = refl
same_object from (Some (says.Row row)) search = refl
same_object from (Some says.NoRow) search = refl
same_object from (Some (says.Refused refusal)) search = refl

-- R says something of a row, with its node's epoch and its object, and Q of what a search was told
module _ (Q : Search → Type 0) (R : ℕ → ℕ → SeenRow → Type 0) (node : Node) where
  abbrev now : ℕ
  now = node.peer.epoch

  -- a state of the recovery that sees the node as it is
  abbrev at : Recovery → RecoveryState
  at recovery = record { recovery = recovery; shown = shown_node node }

  -- they are kept in each way in which a step on an input may change a row
  pub record KeepsEachRow (input : Input) : Type 0 where
    -- where a row is made an open one from an earlier epoch ends
    pub ended : (oid : ℕ) (row : SeenRow) → is_open row ≡ true → nat_eq row.from.0 now ≡ false → R now oid row
        → R now oid (record row { to = Some (record { 0 = now - 1 }) })
    -- the create of a request is served
    pub created : (request : PeerReq) (key : Key) (size offset : ℕ) (bytes : List ℕ) → input ≡ inputs.Request request
        → request.ask ≡ asks.Create key size offset bytes → epoch_refusal now request.epoch.0 ≡ None
        → R now key.oid (record { index = key.index; from = record { 0 = now }; to = None; bytes = laid_over (zeros size) offset bytes })
    -- a write is served, which ends inside the open row
    pub written : (request : PeerReq) (key : Key) (offset : ℕ) (bytes : List ℕ) (row : SeenRow) → input ≡ inputs.Request request
        → request.ask ≡ asks.Write key offset bytes → epoch_refusal now request.epoch.0 ≡ None
        → open_row node.peer.rows key ≡ Some row → is_open_at key.index row ≡ true
        → offset + length bytes ≤ length row.bytes → R now key.oid row
        → R now key.oid (record row { bytes = laid_over row.bytes offset bytes })
    -- an answer counts in a search
    pub answered : (number : ℕ) (said : Option PeerSay) → TellsOf input number said → (message : Message)
        → message_of number node.recovery.unanswered ≡ Some message → (oid : ℕ) (level : Epoch)
        → message.request.ask ≡ asks.RecoverRead oid level → (search : Search) → search_on (recovery_state_of node) ≡ Some search
        → search.oid ≡ oid → Q (search_after_answer message.to said search)
    -- a tick begins the search that is on anew, or that of the first pending object, below the recovery's epoch
    pub anew : (search : Search) → search_on (recovery_state_of node) ≡ Some search → Q (search_at search.oid search.level)
    pub first : (oid : ℕ) → Q (search_at oid (node.recovery.epoch - 1))
    -- the recovery finds the row of an object
    pub found : MayFind input → (recovery : Recovery) → recovery.me ≡ node.recovery.me → recovery.epoch ≡ node.recovery.epoch
        → (search : Search)
        (policy : Policy) → Q search → live_policy (shown_node node) search.oid ≡ Some policy
        → is_pending_object search.oid node.peer.pending ≡ true
        → are_enough policy (kind_of search.oid) (rows_found (at recovery) policy search) ≡ true
        → R now search.oid (record {
          index = own_index policy search (at recovery);
          from = record { 0 = now };
          to = None;
          bytes = own_part policy search (rows_found (at recovery) policy search) (at recovery);
        })
    -- the node reads an entry that begins an epoch: the row stays open, or ends
    pub stays : (entry : Entry) → input ≡ inputs.LogEntry entry → begins_epoch entry ≡ true → (oid : ℕ) (row : SeenRow)
        → stays_open node.me (targets_in (epochs_with_entry entry node)) (read_entry entry node.peer) oid row.index ≡ true → R now oid row
        → R (now + 1) oid row
    pub shut : (entry : Entry) → input ≡ inputs.LogEntry entry → begins_epoch entry ≡ true → (oid : ℕ) (row : SeenRow) → R now oid row
        → R (now + 1) oid (closed now row)
    -- the node comes back
    pub returned : (entries : List Entry) → input ≡ inputs.Back entries → (oid : ℕ) (row : SeenRow) → R now oid row
        → R (epoch_of entries) oid (closed now row)

  abbrev pub RowsSo : ℕ → AllRows → Type 0
  RowsSo epoch rows = (oid : ℕ) → AllByRecursion (R epoch oid) (rows_of rows oid)

  abbrev pub PeerRowsSo : Peer → Type 0
  PeerRowsSo peer = RowsSo peer.epoch peer.rows
