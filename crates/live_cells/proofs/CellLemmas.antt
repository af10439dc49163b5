-- A cell of a node opens as one, and stays one at each step of its node; its opening node stays the same.
use Rattle.std.proofs.Common.{◌≡◌, ◌≢◌, ℕ, ◌<◌, nat_lt, Bool, true, false, List, [], ◌∷◌, ◌++◌, length, All, refl, sym, ap, ap₂, subst, ◌∙◌}
use Rattle.std.proofs.lemmas.List.{append-nil}
use Rattle.object_id.specs.declared.node.NodeId.{NodeId}
use Rattle.object_id.specs.declared.entry.Entry.{Entry}
use Rattle.sheep_node.specs.declared.event.Event.{Event}
use Rattle.sheep_node.specs.declared.input.Input.{Input}
use Rattle.sheep_node.specs.declared.input.Input.TheVariants as inputs
use Rattle.sheep_node.specs.State.{Node, initial_node}
use Rattle.sheep_node.specs.SpentNode.{NodeOrSpent}
use Rattle.sheep_node.specs.Step.{node_step}
use Rattle.sheep_node.specs.StepFacts.{read_after}
use Rattle.sheep_node.specs.May.{May}
use Rattle.sheep_node.specs.OneWork.{HasOneWorkPerRequest}
use Rattle.sheep_node.specs.OwnEntries.{HasOnlyOwnEntries}
use Rattle.sheep_node.specs.ValidDisks.{HasValidDisks}
use Rattle.sheep_node.proofs.NumberChanges.{one_work_at_opening, one_work_stays}
use Rattle.sheep_node.proofs.OwnEntryChanges.{asks_for_own, own_entries_stay, own_entries_at_opening}
use Rattle.sheep_node.proofs.ValidLaws.{valid_input, valid_disks_stay, valid_disks_at_opening}
use Rattle.sheep_node.proofs.StepResults.{step_reads, step_me}
use Rattle.live_cells.specs.declared.step.Step.{Step}
use Rattle.live_cells.specs.Opening.{node_as_made, node_with_first, opening_node, IsOpeningWith, IsOpening}
use Rattle.live_cells.specs.History.{made_step, Replays}
use Rattle.live_cells.specs.Cell.{IsCell}
use Rattle.live_cells.proofs.KeptTries.{tries_stay}
use Rattle.live_cells.proofs.HistoryLemmas.{replays_more}

-- a node that isn't spent
abbrev pub live_node : Node → NodeOrSpent
live_node node = record { spent = false; node = node }

abbrev seen_node : Node → Bool → NodeOrSpent
seen_node node spent = record { spent = spent; node = node }

pub node_is_live : (seen : NodeOrSpent) → seen.spent ≡ false → seen ≡ live_node seen.node
node_is_live seen live = ap (seen_node seen.node) live

-- ---- a cell opens

-- a node that may open a cell is its own opening node
opening_is : (entries : List Entry) (node : Node) → node.peer.entries ≡ entries → IsOpeningWith entries node
    → opening_node (nat_lt 0 (length entries)) node ≡ node
opening_is [] node read is = sym is
opening_is (first ∷ []) node read is = ap (λ (entries : List Entry). node_with_first entries (node_as_made node)) read ∙ sym is.1
opening_is (first ∷ second ∷ later) node read is = absurd is

pub opening_is_itself : (node : Node) → IsOpening node → opening_node (nat_lt 0 (length node.peer.entries)) node ≡ node
opening_is_itself node is = opening_is node.peer.entries node refl is

-- what steps keep, it has
module _ (P : Node → Type 0) (opens : (me : NodeId) (tries : ℕ) → P (initial_node me tries))
    (stays : (input : Input) (node : Node) → May input node → P node → P (node_step input node).node) where
  kept_if : (entries : List Entry) (node : Node) → IsOpeningWith entries node → P node
  kept_if [] node is = subst P (sym is) (opens node.me node.gateway.tries)
  kept_if (first ∷ []) node is =
      subst P (sym is.1) (stays (inputs.LogEntry first) (node_as_made node) is.0 (opens node.me node.gateway.tries))
  kept_if (first ∷ second ∷ later) node is = absurd is

own_stay : (input : Input) (node : Node) → May input node → HasOnlyOwnEntries node → HasOnlyOwnEntries (node_step input node).node
own_stay input node may own = own_entries_stay input node (asks_for_own input node may) own

valid_stay : (input : Input) (node : Node) → May input node → HasValidDisks node → HasValidDisks (node_step input node).node
valid_stay input node may valid = valid_disks_stay input node (valid_input input node may.condition valid.read) valid

some_read : (entries : List Entry) → nat_lt 0 (length entries) ≡ true → entries ≢ []
some_read [] is none = cc (is)
some_read (first ∷ later) is none = cc (none)

pub cell_opens : (node : Node) → IsOpening node → IsCell (nat_lt 0 (length node.peer.entries)) node []
cell_opens node is =
    let own = opening_is_itself node is in
    record {
      opening = subst IsOpening (sym own) is;
      read = some_read node.peer.entries;
      history = own;
      one_work = kept_if HasOneWorkPerRequest one_work_at_opening one_work_stays node.peer.entries node is;
      own_entries = kept_if HasOnlyOwnEntries own_entries_at_opening own_stay node.peer.entries node is;
      valid_disks = kept_if HasValidDisks valid_disks_at_opening valid_stay node.peer.entries node is;
    }

-- ---- and goes on

-- what a node has read stays, and is followed by more
goes_on : (input : Input) (node : Node) → May input node
    → (later : List Entry) × (read_after input node.peer.entries ≡ node.peer.entries ++ later)
goes_on (inputs.Guest req session ask) node may = ([], sym (append-nil node.peer.entries))
goes_on (inputs.Request request) node may = ([], sym (append-nil node.peer.entries))
goes_on (inputs.Reply rsp) node may = ([], sym (append-nil node.peer.entries))
goes_on (inputs.Lost number) node may = ([], sym (append-nil node.peer.entries))
goes_on (inputs.LogEntry entry) node may = (entry ∷ [], refl)
goes_on inputs.Put node may = ([], sym (append-nil node.peer.entries))
goes_on inputs.RecoverTick node may = ([], sym (append-nil node.peer.entries))
goes_on inputs.RetryTick node may = ([], sym (append-nil node.peer.entries))
goes_on (inputs.Back entries) node may = (may.condition.later, may.condition.goes_on)

-- the first entry stays the first
first_stays : (before later : List Entry) (node : Node) → before ≢ [] → node_with_first (before ++ later) node ≡ node_with_first before node
first_stays [] later node some = absurd (some refl)
first_stays (first ∷ rest) later node some = refl

some_stay : (before later : List Entry) → before ≢ [] → before ++ later ≢ []
some_stay [] later some none = some refl
some_stay (first ∷ rest) later some none = cc (none)

module _ (input : Input) (node : Node) (may : May input node) (driven : HasOneWorkPerRequest node) where
  read_more : (later : List Entry) × ((node_step input node).node.peer.entries ≡ node.peer.entries ++ later)
  read_more = let more = goes_on input node may in (more.0, step_reads input node ∙ more.1)

  made_stays : node_as_made (node_step input node).node ≡ node_as_made node
  made_stays = ap₂ initial_node (step_me input node) (tries_stay input node may driven)

  pub opening_stays : (has_read : Bool) → (has_read ≡ true → node.peer.entries ≢ [])
      → opening_node has_read (node_step input node).node ≡ opening_node has_read node
  opening_stays false some = made_stays
  opening_stays true some =
      ap₂ node_with_first read_more.1 made_stays ∙ first_stays node.peer.entries read_more.0 (node_as_made node) (some refl)

  still_read : (has_read : Bool) → (has_read ≡ true → node.peer.entries ≢ [])
      → has_read ≡ true → (node_step input node).node.peer.entries ≢ []
  still_read has_read some is =
      subst (λ (entries : List Entry). entries ≢ []) (sym read_more.1) (some_stay node.peer.entries read_more.0 (some is))

-- a cell is one behind a step that its node may take, with a stamp above those that were brought to it
pub cell_stays : (has_read : Bool) (node : Node) (steps : List Step) (stamp : ℕ) (event : Event) (input : Input) (used : List ℕ)
    → May input node → All (λ (earlier : ℕ). earlier < stamp) used → IsCell has_read node steps
    → IsCell has_read (node_step input node).node (steps ++ made_step stamp event input used node ∷ [])
cell_stays has_read node steps stamp event input used may above is =
    let stays = opening_stays input node may is.one_work has_read is.read in
    let step : Step = made_step stamp event input used node in
    record {
      opening = subst IsOpening (sym stays) is.opening;
      read = still_read input node may is.one_work has_read is.read;
      history =
          subst (λ (opening : Node). Replays opening (steps ++ step ∷ []) (node_step input node).node) (sym stays)
          (replays_more (opening_node has_read node) steps node step is.history (record { given = (may, refl); above = above }));
      one_work = one_work_stays input node may is.one_work;
      own_entries = own_stay input node may is.own_entries;
      valid_disks = valid_stay input node may is.valid_disks;
    }
