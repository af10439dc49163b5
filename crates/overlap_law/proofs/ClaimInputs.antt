-- What an input by itself leaves of what a node's sessions rest on, and what its step knows of the log.
use Rattle.std.proofs.Common.{◌≡◌, ◌≢◌, ℕ, ◌≤◌, List, [], ◌∷◌, ◌++◌, All, drop, take, length, Option, Some, None, option_map, unwrap_or}
use Rattle.std.proofs.Common.{refl, sym, ap, subst, ◌∙◌, append_assoc, append-nil, arith}
use Rattle.std.specs.Ordering.{nat_cmp}
use Rattle.std.specs.FinMap as tree
use Rattle.std.specs.List.{slice_get}
use Rattle.std.proofs.lemmas.List.{length-append, take-append-le, take_all}
use Rattle.proof_tools.proofs.Booleans.{cond_either}
use Rattle.object_id.specs.declared.entry.Entry.{Entry}
use Rattle.object_id.specs.declared.node.NodeId.{NodeId}
use Rattle.vdi_directory.specs.declared.header.Header.{Header}
use Rattle.vdi_directory.specs.Decisions.{log_effects}
use Rattle.vdi_directory.specs.Effects.{header_of}
use Rattle.gateway.specs.State as gateways
use Rattle.recovery.specs.Steps as recovery_steps
use Rattle.guest_driver.specs.declared.disk.Disk.{Disk}
use Rattle.vdi_ops.specs.Entries.{unlock_of}
use Rattle.sheep_node.specs.declared.input.Input.{Input}
use Rattle.sheep_node.specs.declared.input.Input.TheVariants as inputs
use Rattle.sheep_node.specs.declared.course.Request.{Request}
use Rattle.sheep_node.specs.declared.session.Session.{Session}
use Rattle.sheep_node.specs.State.{Node, new_session}
use Rattle.sheep_node.specs.OwnEntries.{IsEntryOf}
use Rattle.sheep_node.specs.RecoveryView.{recovery_state_of}
use Rattle.sheep_node.specs.StepState.{StepState, at_first}
use Rattle.sheep_node.specs.StepFacts.{read_after}
use Rattle.sheep_node.specs.LogReading.{entry_read, on_back}
use Rattle.sheep_node.specs.Step.{on_request, recovery_stepped, on_put, on_recover_tick}
use Rattle.sheep_node.specs.Changes.{input_received}
use Rattle.overlap_law.specs.WriterClaims.{IsNamed, HasClaims}
use Rattle.overlap_law.proofs.AwaitedChanges.{Requests, AreAwaited}
use Rattle.overlap_law.proofs.AwaitedInputs.{AreAwaitedAt}
use Rattle.overlap_law.proofs.ClaimChanges.{Sessions, disk_of}
use Rattle.overlap_law.proofs.ClaimsAtPuts.{put_kept}
use Rattle.overlap_law.proofs.ClaimsLater.{claims_read}
use Rattle.overlap_law.proofs.ClaimRequests.{IsReadOf}
use Rattle.overlap_law.proofs.CountedEntries.{times-none}
use Rattle.overlap_law.proofs.DatedEffects.{epoch_rises}
use Rattle.overlap_law.proofs.GrantedEpochs.{from_front}
use Rattle.overlap_law.proofs.KeptIds.{named_stays}

-- a node at rest
abbrev pub HasClaimsAt : List Entry → Node → Type 0
HasClaimsAt log node = HasClaims log node.outbox node.peer.entries (length node.peer.entries) node.me node.requests node.sessions

-- one without requests
pub no_claims : (log read : List Entry) (from : ℕ) (me : NodeId) → HasClaims log [] read from me tree.empty tree.empty
no_claims log read from me = record {
  unlocked = λ session vid there. let none = times-none (unlock_of me session vid) in absurd (omega (arith, none, there));
  commands = λ req request op got command. let none = tree.get-empty {X = Request} nat_cmp req in absurd (cc (none, got));
  disks = λ session disk opened. absurd (no_disk session disk opened);
  held_yet = λ session disk opened. absurd (no_disk session disk opened);
}
  where
    no_disk : (session : ℕ) (disk : Disk) → disk_of session tree.empty ≡ Some disk → ⊥
    no_disk session disk opened =
        let none = ap (λ (o : Option Session). (unwrap_or o new_session).disk) (tree.get-empty {X = Session} nat_cmp session) in
        absurd (cc (none, opened))

-- a log before a step, and with it
abbrev pub LogGoes : Input → Node → List Entry → List Entry → Type 0
LogGoes inputs.Put node log after = (entry : Entry) × (later : List Entry) × (node.outbox ≡ entry ∷ later) × (after ≡ log ++ entry ∷ [])
LogGoes input node log after = after ≡ log

module _ (log after unread : List Entry) (node : Node) (has : HasClaimsAt log node) (own : All (IsEntryOf node.me) node.outbox)
    (awaited : AreAwaitedAt unread node) where
  -- the step's state, as the input leaves it
  abbrev pub IsThenClaimed : Input → StepState → Type 0
  IsThenClaimed input so_far =
      HasClaims after so_far.node.outbox (read_after input node.peer.entries) (length node.peer.entries) node.me so_far.node.requests
      so_far.node.sessions

  same_log : after ≡ log → HasClaims after node.outbox node.peer.entries (length node.peer.entries) node.me node.requests node.sessions
  same_log same =
      subst (λ (all : List Entry). HasClaims all node.outbox node.peer.entries (length node.peer.entries) node.me node.requests
      node.sessions) (sym same) has

  put_claimed : (entry : Entry) (later : List Entry) → node.outbox ≡ entry ∷ later → after ≡ log ++ entry ∷ []
      → HasClaims after later node.peer.entries (length node.peer.entries) node.me node.requests node.sessions
  put_claimed entry later first goes =
      subst (λ (all : List Entry). HasClaims all later node.peer.entries (length node.peer.entries) node.me node.requests node.sessions)
      (sym goes) (put_kept log later node.peer.entries (length node.peer.entries) node.me unread node.requests node.sessions entry
      (subst (All (IsEntryOf node.me)) first own)
      (subst (λ (outbox : List Entry). AreAwaited node.peer.entries node.me unread None node.me node.requests outbox) first awaited)
      (subst (λ (outbox : List Entry). HasClaims log outbox node.peer.entries (length node.peer.entries) node.me node.requests
      node.sessions) first has))

  pub received_claimed : (input : Input) → LogGoes input node log after → IsThenClaimed input (input_received input (at_first node))
  unfolding entry_read on_request on_recover_tick on_back
  received_claimed (inputs.Guest req session ask) goes = same_log goes
  received_claimed (inputs.Request request) goes = same_log goes
  received_claimed (inputs.Reply rsp) goes =
      cond_either (IsThenClaimed (inputs.Reply rsp)) (gateways.gateway_awaits rsp.number node.gateway) (at_first node)
      (recovery_stepped (recovery_steps.recovery_on_reply rsp (recovery_state_of node)) (at_first node)) (same_log goes) (same_log goes)
  received_claimed (inputs.Lost number) goes =
      cond_either (IsThenClaimed (inputs.Lost number)) (gateways.gateway_awaits number node.gateway) (at_first node)
      (recovery_stepped (recovery_steps.recovery_on_loss number (recovery_state_of node)) (at_first node)) (same_log goes) (same_log goes)
  received_claimed (inputs.LogEntry entry) goes =
      claims_read after node.outbox node.peer.entries (node.peer.entries ++ entry ∷ []) (length node.peer.entries)
      (length node.peer.entries) (epoch_rises node.peer.entries entry) (omega arith) node.me node.requests node.sessions (same_log goes)
  received_claimed inputs.Put (entry, later, first, goes) =
      subst (λ (outbox : List Entry). IsThenClaimed inputs.Put (on_put outbox (at_first node))) (sym first)
      (put_claimed entry later first goes)
  received_claimed inputs.RecoverTick goes = same_log goes
  received_claimed inputs.RetryTick goes = same_log goes
  received_claimed (inputs.Back entries) goes = no_claims after entries (length node.peer.entries) node.me

-- a node that comes back
pub back_received : (log : List Entry) (node : Node)
    → HasClaims log (input_received (inputs.Back log) (at_first node)).node.outbox log (length log) node.me
    (input_received (inputs.Back log) (at_first node)).node.requests (input_received (inputs.Back log) (at_first node)).node.sessions
unfolding on_back
back_received log node = no_claims log log (length log) node.me

-- at rest again: the node is to know of what it hasn't read
pub rests_claimed : (log outbox read : List Entry) (from : ℕ) (me : NodeId) (requests : Requests) (sessions : Sessions) → from ≤ length read
    → HasClaims log outbox read from me requests sessions → HasClaims log outbox read (length read) me requests sessions
rests_claimed log outbox read from me requests sessions on has =
    claims_read log outbox read read from (length read) (omega arith) on me requests sessions has

-- ---- what a step knows of a log that begins with what the node has read

front_taken : (read rest log : List Entry) → log ≡ read ++ rest → take (length read) log ≡ read
front_taken read rest log is =
    ap (take (length read)) is ∙ take-append-le (length read) read rest (omega arith) ∙ take_all (length read) read (omega arith)

named_in : (read rest log : List Entry) → log ≡ read ++ rest → (vid : ℕ) (header : Header) → header_of (log_effects read) vid ≡ Some header
    → IsNamed log vid header.name
named_in read rest log is vid header found =
    subst (λ (all : List Entry). IsNamed all vid header.name) (sym is)
    (from_front (λ (all : List Entry). IsNamed all vid header.name) (λ all entry named. named_stays all entry vid header.name named) read
    rest (ap (option_map (λ (h : Header). h.name)) found))

-- that of an entry that is read
pub reads_entry : (log later : List Entry) (entry : Entry) (node : Node) → log ≡ node.peer.entries ++ entry ∷ later
    → IsReadOf log (node.peer.entries ++ entry ∷ []) (drop (length (node.peer.entries ++ entry ∷ [])) log) (length node.peer.entries)
    (inputs.LogEntry entry) node
reads_entry log later entry node is = record {
  unread_so = λ not. absurd (not entry refl);
  got = λ other from.
      let same : entry ≡ other = cc (from) in
      ap (λ (all : List Entry). slice_get all (length read)) is ∙ at_seam read ∙ ap (λ (e : Entry). Some e) same;
  before = λ other from. front_taken read (entry ∷ later) log is;
  upto = λ other from.
      ap (λ (k : ℕ). take k log) (sym (length-append read (entry ∷ []))) ∙ front_taken (read ++ entry ∷ []) later log longer;
  named = named_in (read ++ entry ∷ []) later log longer;
}
  where
    read : List Entry
    read = node.peer.entries

    longer : log ≡ (read ++ entry ∷ []) ++ later
    longer = is ∙ sym (append_assoc read (entry ∷ []) later)

    at_seam : (front : List Entry) → slice_get (front ++ entry ∷ later) (length front) ≡ Some entry
    at_seam [] = refl
    at_seam (first ∷ front) = at_seam front

-- that of any other input
pub reads_none : (log rest : List Entry) (input : Input) (node : Node) → ((entry : Entry) → input ≢ inputs.LogEntry entry)
    → (read : List Entry) → length read ≡ length node.peer.entries → log ≡ read ++ rest
    → IsReadOf log read (drop (length read) log) (length node.peer.entries) input node
reads_none log rest input node not read count is = record {
  unread_so = λ none. ap (λ (k : ℕ). drop k log) (sym count);
  got = λ entry from. absurd (not entry from);
  before = λ entry from. absurd (not entry from);
  upto = λ entry from. absurd (not entry from);
  named = named_in read rest log is;
}

-- that of a node that comes back: it has read all
pub reads_all : (log : List Entry) (node : Node) → IsReadOf log log (drop (length log) log) (length log) (inputs.Back log) node
reads_all log node = record {
  unread_so = λ none. refl;
  got = λ entry from. absurd (cc (from));
  before = λ entry from. absurd (cc (from));
  upto = λ entry from. absurd (cc (from));
  named = named_in log [] log (sym (append-nil log));
}
