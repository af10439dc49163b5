-- A sound node that serves a request stays one, whatever the request asks; and its epoch can be spelled.
use Rattle.std.proofs.Common.{◌≡◌, arith, ℕ, ◌<◌, ◌^◌, false, List, [], ◌∷◌, All, None, refl, sym, ap, subst, ◌∙◌}
use Rattle.std.specs.FinMap as tree
use Rattle.std.proofs.lemmas.List.Elements.{All-push}
use Rattle.proof_tools.proofs.Booleans.{cond_either}
use Rattle.object_id.specs.declared.entry.Entry.{Entry}
use Rattle.object_id.specs.declared.entry.Entry.TheVariants.{Recovered}
use Rattle.epoch_log.specs.Appending.{IsReservable}
use Rattle.epoch_log.specs.Epochs.{epoch_of}
use Rattle.epoch_log.proofs.MembersLemmas.{IsLog-epochs}
use Rattle.peer_proto.specs.declared.ask.PeerReq.{PeerReq}
use Rattle.peer_service.specs.State.{Peer}
use Rattle.peer_service.specs.Serve.{peer_step}
use Rattle.recovery.specs.State.{Recovery}
use Rattle.recovery.specs.Step.{MayStep}
use Rattle.sheep_node.specs.declared.input.Input.TheVariants as inputs
use Rattle.sheep_node.specs.State.{Node}
use Rattle.sheep_node.specs.StepState.{StepState, at_first}
use Rattle.sheep_node.specs.Step.{on_request, is_due, with_recovered, recovered_put, on_input, node_step}
use Rattle.sheep_node.specs.StepFacts.{IsByTheLog, IsLogSoFar, HasReadLog, FollowsLog, HasReadIfAsked}
use Rattle.sheep_node.specs.OneWork.{HasOneWorkPerRequest}
use Rattle.sheep_node.specs.GivenNumbers.{NumbersWereGiven}
use Rattle.sheep_node.specs.OwnEntries.{IsEntryOf, HasOnlyOwnEntries}
use Rattle.sheep_node.specs.ValidDisks.{HasValidDisks}
use Rattle.sheep_node.specs.SoundWorks.{HasSoundWorks}
use Rattle.sheep_node.specs.OpenLines.{HasOpenLines}
use Rattle.sheep_node.specs.SessionQueues.{QueuesAreDiskRequests, QueuesAreShort, CommandsAreAlone, RequestsAreInTurn}
use Rattle.sheep_node.specs.WantedWorks.{WorksAreWanted}
use Rattle.sheep_node.specs.DrivenDisks.{RequestsAreOnDisks}
use Rattle.sheep_node.specs.RecoveryView.{shown_peer, recovery_state_of}
use Rattle.sheep_node.specs.RecoveryRange.{RecoveryMayStep}
use Rattle.sheep_node.specs.NodeInvariant.{IsSoundNode}
use Rattle.sheep_node.proofs.PeerLog.{Log, log_of, served_same}
use Rattle.sheep_node.proofs.StepResults.{step_not_due}

-- the epoch of a sound node can be spelled
epoch_small : (entries : List Entry) → IsLogSoFar entries → epoch_of entries < 2 ^ 32
epoch_small [] log = omega arith
epoch_small (first ∷ later) log = let most = IsLog-epochs (first ∷ later) log in omega (arith, most)

pub sound_epoch : (node : Node) → IsSoundNode node → node.peer.epoch < 2 ^ 32
sound_epoch node is = subst (λ (epoch : ℕ). epoch < 2 ^ 32) (sym is.by_the_log.epoch_so) (epoch_small node.peer.entries is.log)

-- a node that is one, but for a `Recovered` that may be due
record IsSoundOrDue (node : Node) : Type 0 where
  one_work : HasOneWorkPerRequest node
  given : NumbersWereGiven node
  own_entries : HasOnlyOwnEntries node
  queues : QueuesAreDiskRequests node
  short_queues : QueuesAreShort node
  sole_commands : CommandsAreAlone node
  wanted_works : WorksAreWanted node
  on_disks : RequestsAreOnDisks node
  in_turn : RequestsAreInTurn node
  log : HasReadLog node
  by_the_log : IsByTheLog node
  read : HasReadIfAsked node
  valid_disks : HasValidDisks node
  sound_works : HasSoundWorks node
  lines : HasOpenLines node
  recovery : RecoveryMayStep node

-- none is due
rested : (node : Node) → IsSoundOrDue node → is_due node ≡ false → IsSoundNode node
rested node is none = record {
  one_work = is.one_work;
  given = is.given;
  own_entries = is.own_entries;
  queues = is.queues;
  short_queues = is.short_queues;
  sole_commands = is.sole_commands;
  wanted_works = is.wanted_works;
  on_disks = is.on_disks;
  in_turn = is.in_turn;
  log = is.log;
  by_the_log = is.by_the_log;
  read = is.read;
  none_due = none;
  valid_disks = is.valid_disks;
  sound_works = is.sound_works;
  lines = is.lines;
  recovery = is.recovery;
}

-- ---- all that a recovery needs of a peer is what that has of the log

abbrev peer_of_log : Log → Peer
peer_of_log log = record { epoch = log.epoch; settled = log.settled; rows = tree.empty; pending = None; entries = log.entries }

abbrev StepsBy : Recovery → Log → Type 0
StepsBy recovery log = MayStep (record { recovery = recovery; shown = shown_peer (record { peer = peer_of_log log; epochs = [] }) })

by_log : (node : Node) → MayStep (recovery_state_of node) → StepsBy node.recovery (log_of node.peer)
by_log node is = record {
  epoch = is.epoch;
  entered = is.entered;
  settled = is.settled;
  waiting = is.waiting;
  policies = is.policies;
  sizes = is.sizes;
  search = is.search;
  wanted = is.wanted;
}

from_log : (node : Node) → StepsBy node.recovery (log_of node.peer) → MayStep (recovery_state_of node)
from_log node is = record {
  epoch = is.epoch;
  entered = is.entered;
  settled = is.settled;
  waiting = is.waiting;
  policies = is.policies;
  sizes = is.sizes;
  search = is.search;
  wanted = is.wanted;
}

-- ---- a request is served

module _ (node : Node) (peer : Peer) (same : log_of peer ≡ log_of node.peer) (is : IsSoundNode node) where
  abbrev now : Node
  now = record node { peer = peer }

  served : IsSoundOrDue now
  served = record {
    one_work = record {
      own = is.one_work.own;
      driven = is.one_work.driven;
      once = is.one_work.once;
      given = is.one_work.given;
      recovers = is.one_work.recovers;
      recovering = is.one_work.recovering;
    };
    given = is.given;
    own_entries = is.own_entries;
    queues = is.queues;
    short_queues = is.short_queues;
    sole_commands = is.sole_commands;
    wanted_works = is.wanted_works;
    on_disks = is.on_disks;
    in_turn = is.in_turn;
    log = subst (λ (log : Log). IsLogSoFar log.entries) (sym same) is.log;
    by_the_log = subst (λ (log : Log). FollowsLog log.epoch log.settled node.epochs log.entries) (sym same) is.by_the_log;
    read = λ req request there none. is.read req request there (ap (λ (log : Log). log.entries) (sym same) ∙ none);
    valid_disks = record {
      read = subst (λ (log : Log). All IsReservable log.entries) (sym same) is.valid_disks.read;
      to_put = is.valid_disks.to_put;
      kept = is.valid_disks.kept;
    };
    sound_works = is.sound_works;
    lines = is.lines;
    recovery = record {
      own = is.recovery.own;
      may = from_log now (subst (StepsBy node.recovery) (sym same) (by_log node is.recovery.may));
    };
  }

-- ---- and its `Recovered` is put

recovered_sound : (so_far : StepState) → IsSoundOrDue so_far.node → IsSoundOrDue (with_recovered so_far).node
recovered_sound so_far is =
    let node = so_far.node in
    let entry : Entry = Recovered node.me (record { 0 = node.recovery.epoch }) in
    record {
      one_work = record {
        own = is.one_work.own;
        driven = is.one_work.driven;
        once = is.one_work.once;
        given = is.one_work.given;
        recovers = is.one_work.recovers;
        recovering = is.one_work.recovering;
      };
      given = is.given;
      own_entries = record {
        own_so = is.own_entries.own_so;
        commands = is.own_entries.commands;
        entries = All-push (IsEntryOf node.me) node.outbox entry is.own_entries.entries refl;
      };
      queues = is.queues;
      short_queues = is.short_queues;
      sole_commands = is.sole_commands;
      wanted_works = is.wanted_works;
      on_disks = is.on_disks;
      in_turn = is.in_turn;
      log = is.log;
      by_the_log = is.by_the_log;
      read = is.read;
      valid_disks = record {
        read = is.valid_disks.read;
        to_put = All-push IsReservable node.outbox entry is.valid_disks.to_put tt;
        kept = is.valid_disks.kept;
      };
      sound_works = is.sound_works;
      lines = is.lines;
      recovery = record { own = is.recovery.own; may = is.recovery.may };
    }

due_sound : (so_far : StepState) → IsSoundOrDue so_far.node → IsSoundOrDue (recovered_put so_far).node
unfolding recovered_put
due_sound so_far is =
    cond_either (λ (now : StepState). IsSoundOrDue now.node) (is_due so_far.node) (with_recovered so_far) so_far (recovered_sound so_far is)
    is

pub served_stays_sound : (request : PeerReq) (node : Node) → IsSoundNode node → IsSoundNode (node_step (inputs.Request request) node).node
unfolding node_step on_input on_request
served_stays_sound request node is =
    rested (node_step (inputs.Request request) node).node
    (due_sound (on_request request (at_first node)) (served node (peer_step node.peer request).peer (served_same node.peer request) is))
    (step_not_due (inputs.Request request) node)
