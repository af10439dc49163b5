-- A client's ask without a script's sessions, and the events that bring its answer, made turn by turn.
use Rattle.std.proofs.Common.{◌≡◌, ℕ, zero, suc, not, ◌&&◌, Bool, true, false, List, [], ◌∷◌, fold, Option, Some, None, is_some, refl, sym, ap, ◌∙◌}
use Rattle.std.specs.Option.{option_map_or}
use Rattle.std.specs.Ordering.{nat_cmp}
use Rattle.std.specs.FinMap as tree
use Rattle.std.proofs.lemmas.Bool.{and_parts}
use Rattle.proof_tools.proofs.Lists.{filter-contains}
use Rattle.cluster_script.specs.declared.statement.Statement.{Statement}
use Rattle.peer_proto.specs.declared.guest.GuestRsp.{GuestRsp}
use Rattle.sheep_node.specs.declared.ask.Ask.{Ask}
use Rattle.sheep_node.specs.declared.event.Event.{Event}
use Rattle.sheep_node.specs.declared.input.Input.{Input}
use Rattle.sheep_node.specs.declared.input.Input.TheVariants as inputs
use Rattle.sheep_node.specs.declared.outputs.Outputs.{Outputs}
use Rattle.sheep_node.specs.State.{Node, session_at}
use Rattle.sheep_node.specs.LogReading.{is_epoch_member}
use Rattle.sheep_node.specs.May.{has_numbers, has_room_for}
use Rattle.sheep_node.specs.MayTests.{is_guest_ask, may}
use Rattle.sheep_world.specs.declared.progress.SessionProgress.{SessionProgress}
use Rattle.sheep_world.specs.World.{Host, World, host_at, is_host_up, is_up_with}
use Rattle.sheep_world.specs.HostSummaries.{summary_of}
use Rattle.sheep_world.specs.NodeSteps.{progress_after_reply}
use Rattle.sheep_world.specs.StepsInParts.{with_client_outputs, with_outputs}
use Rattle.sheep_world.specs.ClientAsks.{next_ask_number, is_answered, may_client_ask, may_be_asked}
use Rattle.sheep_world.specs.Enabled.{is_enabled, looked_at, enabled_events}
use Rattle.sheep_world.specs.ClientSteps.{next_driven, world_with_event, world_turned}
use Rattle.sheep_world.specs.Step.{EventOutcome, step}
use Rattle.disk_history.specs.declared.event.HistEvent.{HistEvent}
use Rattle.sheep_world.proofs.ClientLaws.{driven-may}

-- ---- no script, no session

-- where there are no statements no session asked what is replied to
no_sessions : (guests : tree.FinMap nat_cmp SessionProgress) (reply : ℕ × GuestRsp) → progress_after_reply [] guests reply ≡ guests
no_sessions guests (zero, rsp) = refl
no_sessions guests (suc req, rsp) = refl

sessions_stay : (replies : List (ℕ × GuestRsp)) (guests : tree.FinMap nat_cmp SessionProgress)
    → fold (progress_after_reply []) guests replies ≡ guests
sessions_stay [] guests = refl
sessions_stay (reply ∷ replies) guests =
    ap (λ (guests : tree.FinMap nat_cmp SessionProgress). fold (progress_after_reply []) guests replies) (no_sessions guests reply)
    ∙ sessions_stay replies guests

pub outputs-without_script : (input : Input) (outputs : Outputs) (world : World)
    → with_client_outputs input outputs world ≡ with_outputs [] input outputs world
outputs-without_script input outputs world =
    ap (λ (guests : tree.FinMap nat_cmp SessionProgress). record (with_client_outputs input outputs world) { guests = guests })
    (sym (sessions_stay outputs.replies world.guests))

-- what a client's ask needs of a node, read in a summary
pub ask-by_summary : (found : Option Host) (answered : Bool)
    → ((summary_of found).is_up && (summary_of found).is_member && answered)
    ≡ (option_map_or (λ (host : Host). is_host_up host && is_epoch_member host.node) found false && answered)
ask-by_summary None answered = refl
ask-by_summary (Some host) answered = refl

-- ---- a node that takes an ask

and-true : (b : Bool) → (b && true) ≡ b
and-true true = refl
and-true false = refl

-- what is left of the condition of a step, where the node has numbers, is a member, and may be asked so
condition_left : (numbers room new member asked : Bool) → numbers ≡ true → member ≡ true → asked ≡ true
    → (numbers && (room && (new && (member && asked)))) ≡ (room && new)
condition_left numbers room new member asked by_numbers by_member by_ask =
    ap (λ (b : Bool). b && (room && (new && (member && asked)))) by_numbers
    ∙ ap (λ (b : Bool). room && (new && (b && asked))) by_member
    ∙ ap (λ (b : Bool). room && (new && b)) by_ask
    ∙ ap (λ (b : Bool). room && b) (and-true new)

pub ask-may : (node : ℕ) (ask : Ask) (world : World) (host : Host) → host_at node world ≡ Some host → may_client_ask node world ≡ true
    → may_be_asked ask node world ≡ true → may (inputs.Guest (next_ask_number world) 0 ask) host.node
    ≡ (has_room_for ask (session_at 0 host.node) && not (tree.contains_key host.node.requests (next_ask_number world)))
ask-may node ask world host there takes asked =
    let found : (passes : Node → Bool) → is_up_with passes node world ≡ (is_host_up host && passes host.node)
    = λ passes. ap (λ (o : Option Host). option_map_or (λ (host : Host). is_host_up host && passes host.node) o false) there in
    let member = and_parts (is_host_up host) (is_epoch_member host.node)
    (sym (found is_epoch_member) ∙ (and_parts (is_up_with is_epoch_member node world) (is_answered world) takes).0) in
    let own = and_parts (is_host_up host) (is_guest_ask host.node ask) (sym (found (λ (node : Node). is_guest_ask node ask)) ∙ asked) in
    let up = and_parts (not host.is_lost) (has_numbers host.node) own.0 in
    condition_left (has_numbers host.node) (has_room_for ask (session_at 0 host.node))
    (not (tree.contains_key host.node.requests (next_ask_number world))) (is_epoch_member host.node) (is_guest_ask host.node ask)
    up.1 member.1 own.1

-- ---- an event that brings an answer

module _ (statements : List Statement) (world : World) where
  -- it may happen
  pub driven-enabled : (event : Event) → next_driven statements world ≡ Some event → is_enabled statements world event ≡ true
  unfolding enabled_events
  driven-enabled event is =
      (filter-contains (is_enabled statements world) (looked_at statements world) event (driven-may statements world event is).0).1

  -- and where it was made, that was the turn
  pub turned-made : (event : Event) (after : World) (grown : List HistEvent) → next_driven statements world ≡ Some event
      → step statements event world ≡ Some (record { world = after; grown = grown }) → after ≡ world_turned statements world
  turned-made event after grown next made =
      sym (ap (λ (o : Option Event). option_map_or (λ (event : Event). world_with_event statements event world) o world) next
      ∙ ap (λ (o : Option EventOutcome). option_map_or (λ (made : EventOutcome). made.world) o world) made)

  -- where none was made, none may be
  pub driven-none : (made : Bool) → made ≡ is_some (next_driven statements world) → made ≡ false → next_driven statements world ≡ None
  driven-none made is off = by_event (next_driven statements world) (sym is ∙ off)
    where
      by_event : (o : Option Event) → is_some o ≡ false → o ≡ None
      by_event None none = refl
      by_event (Some event) none = absurd (cc (none))
