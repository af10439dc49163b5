-- A client's read is a step of the node that is asked, and what each move makes is of one of the kinds.
use Rattle.std.proofs.Common.{◌≡◌, ℕ, Bool, true, false, cond, not, ◌&&◌, List, Option, Some, None, is_some, refl, sym, ap, subst, ◌∙◌}
use Rattle.std.proofs.lemmas.Bool.{and_parts}
use Rattle.std.proofs.lemmas.Option.{same_Some}
use Rattle.object_id.specs.declared.node.NodeId.{NodeId}
use Rattle.cluster_script.specs.declared.statement.Statement.{Statement}
use Rattle.cluster_script.specs.NumberedRequests.{request_at}
use Rattle.sheep_node.specs.declared.ask.Ask.{Ask}
use Rattle.sheep_node.specs.declared.event.Event.{Event}
use Rattle.sheep_node.specs.declared.input.Input.TheVariants as inputs
use Rattle.sheep_node.specs.LogReading.{is_epoch_member}
use Rattle.sheep_node.specs.MayTests.{is_guest_ask}
use Rattle.sheep_node.specs.State.{Node}
use Rattle.sheep_world.specs.Began.{MakesMove}
use Rattle.sheep_world.specs.World.{Host, World, host_at, is_host_up, is_up_with}
use Rattle.sheep_world.specs.ClientAsks.{next_ask_number, is_answered, may_client_ask, may_be_asked, is_read_ask}
use Rattle.sheep_world.specs.ClientSteps.{ask_begun, ask_effect}
use Rattle.sheep_world.specs.EventKinds.{EventKind, NodeStep}
use Rattle.sheep_world.specs.NodeCauses.{ClientAsks, ClientMayRead, world_after_cause}
use Rattle.sheep_world.specs.RunsWithAsks.{Move, Happens, Asks, may_read_object, made_by, event_of_move}
use Rattle.sheep_world.specs.Step.{EventOutcome, with_replies}
use Rattle.sheep_world.proofs.AskReplies.{ask-by_script}
use Rattle.sheep_world.proofs.EventInversion.{happens}
use Rattle.sheep_world.proofs.HostSteps.{steps_at, up_there}

-- ---- a client's read

module _ (statements : List Statement) where
  -- it is the step of the node that is asked
  pub read_made : (n : ℕ) (host : Host) (ask : Ask) (world : World) → host_at n world ≡ Some host
      → request_at statements (next_ask_number world) ≡ None
      → ask_effect n ask world ≡ world_after_cause statements n host (ClientAsks (next_ask_number world) ask) world
  read_made n host ask world there none =
      ask-by_script statements n ask world none
      ∙ steps_at statements n (inputs.Guest (next_ask_number world) 0 ask) host (ask_begun world) there

  -- where it may be made, its node is there
  pub may_read : (node : NodeId) (ask : Ask) (world : World) → may_read_object statements node ask world ≡ true
      → (host : Host) × (host_at node.0 world ≡ Some host) × (is_host_up host ≡ true)
      × ClientMayRead statements world host (next_ask_number world) ask
  may_read node ask world may =
      let one = and_parts (may_client_ask node.0 world && may_be_asked ask node.0 world && is_read_ask ask)
      (not (is_some (request_at statements (next_ask_number world)))) may in
      let two = and_parts (may_client_ask node.0 world && may_be_asked ask node.0 world) (is_read_ask ask) one.0 in
      let three = and_parts (may_client_ask node.0 world) (may_be_asked ask node.0 world) two.0 in
      let takes = and_parts (is_up_with is_epoch_member node.0 world) (is_answered world) three.0 in
      let member = up_there is_epoch_member node.0 world takes.0 in
      let asked = up_there (λ (at : Node). is_guest_ask at ask) node.0 world three.1 in
      let same : asked.host ≡ member.host = same_Some asked.host member.host (sym asked.there ∙ member.there) in (
        member.host,
        member.there,
        member.up,
        record {
          number = refl;
          none = none_of (request_at statements (next_ask_number world)) one.1;
          answered = takes.1;
          member = member.passed;
          asks = ap (λ (host : Host). is_guest_ask host.node ask) (sym same) ∙ asked.passed;
          reads = two.1;
        },
      )
    where
      none_of : (o : Option Statement) → not (is_some o) ≡ true → o ≡ None
      none_of None is = refl
      none_of (Some line) is = absurd (cc (is))

  kind_by_move : (move : Move) (world : World) (made : EventOutcome) → made_by statements move world ≡ Some made
      → EventKind statements (event_of_move move) world made
  kind_by_move (Happens event) world made is = happens statements event world made is
  kind_by_move (Asks node ask) world made is = by_may (may_read_object statements node ask world) refl is
    where
      by_may : (b : Bool) → may_read_object statements node ask world ≡ b
          → cond b (Some (with_replies statements world (ask_effect node.0 ask world))) None ≡ Some made
          → EventKind statements (event_of_move (Asks node ask)) world made
      by_may false may none = absurd (cc (none))
      by_may true may so =
          let (host, there, up, caused) = may_read node ask world may in
          NodeStep (record {
            n = node.0;
            host = host;
            cause = ClientAsks (next_ask_number world) ask;
            there = there;
            up = up;
            caused = caused;
            event_so = refl;
            made_so =
                ap (with_replies statements world) (sym (read_made node.0 host ask world there caused.none))
                ∙ same_Some (with_replies statements world (ask_effect node.0 ask world)) made so;
          })

-- whatever goes on is of a kind
pub goes_by_kind : (statements : List Statement) (event : Event) (world : World) (made : EventOutcome)
    → MakesMove statements event world made
    → EventKind statements event world made
goes_by_kind statements event world made goes =
    subst (λ (e : Event). EventKind statements e world made) goes.event_so (kind_by_move statements goes.move world made goes.made_so)
