-- What a node has at work is sound at its opening and after each step that it may take.
use Rattle.std.proofs.Common.{◌≡◌, ℕ, ◌^◌, ◌<◌, ◌≤◌, List, All, ap, sym, subst, ◌∙◌, arith}
use Rattle.object_id.specs.Oid.{IsOid, kind_of}
use Rattle.object_id.specs.declared.entry.Entry.{Entry}
use Rattle.epoch_log.specs.Appending.{IsReservable}
use Rattle.peer_proto.specs.Work.{oid_of}
use Rattle.peer_proto.specs.declared.work.ObjWork.{ObjWork}
use Rattle.peer_proto.specs.declared.work.ObjWork.TheVariants.{Create, Write, Read, ReadAll}
use Rattle.peer_service.specs.State.{Peer, effects_of, object_size}
use Rattle.sheep_node.specs.declared.ask.Ask.{Ask}
use Rattle.sheep_node.specs.declared.ask.Ask.TheVariants as asks
use Rattle.sheep_node.specs.declared.input.Input.{Input}
use Rattle.sheep_node.specs.declared.input.Input.TheVariants as inputs
use Rattle.sheep_node.specs.State.{Node}
use Rattle.sheep_node.specs.StepState.{StepState, at_first}
use Rattle.sheep_node.specs.LogReading.{entry_read}
use Rattle.sheep_node.specs.StepFacts.{read_after}
use Rattle.sheep_node.specs.Step.{node_step}
use Rattle.sheep_node.specs.May.{IsGuestAsk, Meets, May}
use Rattle.sheep_node.specs.OutsideAsks.{IsObjectAsk, NamesAnObject, InputNamesObjects}
use Rattle.sheep_node.specs.Changes.{input_received, Leads}
use Rattle.sheep_node.specs.WorkRange.{size_made, IsWorkInRange}
use Rattle.sheep_node.specs.NodeInvariant.{IsSoundNode}
use Rattle.sheep_node.specs.SoundWorks.{HasSoundWorks}
use Rattle.sheep_node.proofs.DrivenChanges.{on_disks_in_chain}
use Rattle.sheep_node.proofs.KnownChains.{headers_are_sound}
use Rattle.sheep_node.proofs.NumberChanges.{meets_numbers}
use Rattle.sheep_node.proofs.OutsideAskLaws.{asked_work, known_spec, size_most}
use Rattle.sheep_node.proofs.PeerLog.{entries_reading}
use Rattle.sheep_node.proofs.SoundChanges.{IsKnown, IsSoundAsk, IsSoundInput, sound_in_chain}
use Rattle.sheep_node.proofs.SoundCommands.{HeadersAreSound}
use Rattle.sheep_node.proofs.StepChain.{step_chain}
use Rattle.sheep_node.proofs.ValidLaws.{reservable_after, valid_input}
use Rattle.sheep_node.proofs.WantedChanges.{waits_well_in_chain}

-- what a client may ask on an object can be asked for
asked_range : (peer : Peer) (work : ObjWork) → All IsReservable peer.entries → IsObjectAsk peer work → IsOid (oid_of work) → IsWorkInRange work
asked_range peer work reservable asked named =
    record { is_work = asked_work peer work reservable asked; oid = named; size = by_kind work asked }
  where
    by_kind : (work : ObjWork) → IsObjectAsk peer work → size_made work < 2 ^ 32
    by_kind (Create oid policy size offset bytes) asked =
        let is = known_spec peer oid asked.spec reservable asked.known in
        let same : size ≡ object_size asked.spec (kind_of oid) = asked.whole in
        let most = size_most (kind_of oid) asked.spec is in
        omega (arith, same, most)
    by_kind (Write oid policy offset bytes) asked = omega arith
    by_kind (Read oid policy offset size) asked = omega arith
    by_kind (ReadAll oid policy size) asked = omega arith

ask_sound : (node : Node) (ask : Ask) → IsGuestAsk node ask → NamesAnObject ask → All IsReservable node.peer.entries → IsSoundAsk ask
ask_sound node (asks.Disk ask) may named are = tt
ask_sound node (asks.Vdi ask) may named are = may
ask_sound node (asks.Object work) may named are = asked_range node.peer work are may named
ask_sound node (asks.Entry entry) may named are = tt

pub input_sound : (input : Input) (node : Node) → Meets input node → InputNamesObjects input → All IsReservable node.peer.entries
    → IsSoundInput input
input_sound (inputs.Guest req session ask) node meets named are = ask_sound node ask meets.asked named are
input_sound (inputs.Request request) node meets named are = tt
input_sound (inputs.Reply rsp) node meets named are = tt
input_sound (inputs.Lost number) node meets named are = tt
input_sound (inputs.LogEntry entry) node meets named are = tt
input_sound inputs.Put node meets named are = tt
input_sound inputs.RecoverTick node meets named are = tt
input_sound inputs.RetryTick node meets named are = tt
input_sound (inputs.Back entries) node meets named are = tt

module _ (input : Input) (node : Node) (may : May input node) (named : InputNamesObjects input) (is : IsSoundNode node) where
  reservable : All IsReservable (read_after input node.peer.entries)
  reservable = reservable_after input node.peer.entries (valid_input input node may.condition is.valid_disks.read) is.valid_disks.read

  pub headers : (entry : Entry) → input ≡ inputs.LogEntry entry → HeadersAreSound (effects_of (entry_read entry node).peer)
  headers entry from =
      let entries : read_after input node.peer.entries ≡ (entry_read entry node).peer.entries
      = ap (λ (input : Input). read_after input node.peer.entries) from ∙ sym (entries_reading entry node) in
      headers_are_sound (entry_read entry node).peer.entries (subst (All IsReservable) entries reservable)

  pub known : (so_far : StepState) → Leads input node (input_received input (at_first node)) so_far → IsKnown so_far
  known so_far leads = (
    waits_well_in_chain input node may is.one_work is.queues is.sole_commands is.wanted_works so_far leads,
    on_disks_in_chain input node may is.queues is.sole_commands is.on_disks so_far leads,
  )

  -- and in the middle of it
  pub works_sound_in_chain : (so_far : StepState) → Leads input node (input_received input (at_first node)) so_far → HasSoundWorks so_far.node
  works_sound_in_chain =
      sound_in_chain input node (meets_numbers input node may.condition, is.one_work) headers
      (input_sound input node may.condition named is.valid_disks.read) known is.sound_works

  pub sound_works_stay : HasSoundWorks (node_step input node).node
  sound_works_stay = works_sound_in_chain (node_step input node) (step_chain input node)
