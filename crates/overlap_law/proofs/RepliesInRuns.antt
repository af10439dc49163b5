-- What is so of each refusal, and of each reply that a request's step gives in a step of a node, is so of each reply that an event of a run
-- gives.
use Rattle.std.proofs.Common.{◌≡◌, ℕ, List, [], Contains, Option, Some, None, option_map, refl, sym, ap, subst, ◌∙◌}
use Rattle.std.specs.Option.{option_map_or}
use Rattle.std.proofs.lemmas.Option.{same_Some}
use Rattle.proof_tools.proofs.Lists.{Contains-nil}
use Rattle.object_id.specs.declared.cause.Cause.{Cause}
use Rattle.cluster_script.specs.declared.statement.Statement.{Statement}
use Rattle.cluster_script.specs.Sessions.{ScriptSession}
use Rattle.message_wire.specs.declared.packet.Packet.TheVariants.{Request, Reply}
use Rattle.peer_proto.specs.declared.guest.GuestRsp.{GuestRsp}
use Rattle.peer_proto.specs.declared.guest.GuestRsp.TheVariants.{Refused}
use Rattle.sheep_node.specs.declared.event.Event.{Event}
use Rattle.sheep_node.specs.Changes as changes
use Rattle.sheep_node.specs.Changes.{ToReply, RequestSteps}
use Rattle.sheep_node.specs.StepState.{StepState}
use Rattle.sheep_node.proofs.StepChain.{step_chain}
use Rattle.sheep_node.proofs.StepReplies.{put-silent, back-silent}
use Rattle.sheep_world.specs.EventKinds.{EventKind, NodeStep, UntoldLoss, UnreadDelivery, NodeLoss, NodeLeave, NodeReweight, NodeJoin}
use Rattle.sheep_world.specs.EventKinds.{NodeReturn, PhaseEnd, log_after_return, outcome_of_step}
use Rattle.sheep_world.specs.NodeCauses.{NodeCause, GuestAsks, RequestComes, ReplyComes, LossIsTold, EntryIsRead, EntryIsPut, RecoveryTicks}
use Rattle.sheep_world.specs.NodeCauses.{WorkIsRetried, ClientAsks, IsCause, event_of_cause, input_of_cause}
use Rattle.sheep_world.specs.Began.{MakesMove}
use Rattle.sheep_world.specs.Conditions.{next_request}
use Rattle.sheep_world.specs.Effects.{request_started}
use Rattle.sheep_world.specs.Run as runs
use Rattle.sheep_world.specs.RunsWithAsks.{Move, run_with_asks}
use Rattle.sheep_world.specs.Step.{EventOutcome}
use Rattle.sheep_world.specs.World.{Host, World}
use Rattle.sheep_world.proofs.ClientReads.{goes_by_kind}
use Rattle.overlap_law.specs.HistoryGrowth.{world_at_cause}
use Rattle.overlap_law.specs.MomentChanges.{MomentTrail}
use Rattle.overlap_law.specs.Past.{MomentWithPast, run_with_past, without_past}
use Rattle.overlap_law.specs.DoneOnDisks.{world_without_reply}
use Rattle.overlap_law.specs.StepMoments.{SteppingNode, IsStepping, StepsByChanges, LeadsInStep, IsWithinStep, first_in_step, last_in_step}
use Rattle.overlap_law.specs.StepMoments.{moment_in_step}
use Rattle.overlap_law.proofs.GoingOn.{goes_as}
use Rattle.overlap_law.proofs.HistoryInMoments.{request_silent, tick_silent}
use Rattle.overlap_law.proofs.MomentTrails.{leads_joined, to_point}
use Rattle.overlap_law.proofs.ReadsToldNew.{HowTold, WasTold, Refuses, Answers, new_told}
use Rattle.overlap_law.proofs.RequestsInSteps.{received_replies}
use Rattle.overlap_law.proofs.RunLemmas.{past-follows}

-- the world by which an event's replies are told is that of its cause
world_so : (script : List Statement) (world : World) (n : ℕ) (host : Host) (cause : NodeCause) → IsCause script world n host cause
    → world_without_reply script (event_of_cause n cause) world ≡ world_at_cause world cause
world_so script world n host (GuestAsks session req ask) caused =
    ap (λ (o : Option ScriptSession).
    option_map_or (λ (s : ScriptSession). request_started s (next_request script s.number world) world) o world) caused.declared
    ∙ ap (λ (o : Option ℕ). request_started session o world) caused.next
world_so script world n host (RequestComes name to request) caused = refl
world_so script world n host (ReplyComes name from rsp) caused = refl
world_so script world n host (LossIsTold name (Request to bytes)) caused = refl
world_so script world n host (LossIsTold name (Reply from bytes)) caused = refl
world_so script world n host (EntryIsRead entry) caused = refl
world_so script world n host (EntryIsPut entry) caused = refl
world_so script world n host RecoveryTicks caused = refl
world_so script world n host WorkIsRetried caused = refl
world_so script world n host (ClientAsks req ask) caused = refl

module _ (script : List Statement) (Tells : World → ℕ → GuestRsp → Type 0)
    (refuses : (world : World) (req : ℕ) (cause : Cause) → Tells world req (Refused cause)) where
  -- what the steps of requests give tells so
  abbrev pub StepsTell : MomentWithPast → Type 0
  StepsTell start =
      (stepping : SteppingNode) → IsStepping script start.world stepping → StepsByChanges stepping.cause → (so_far next : StepState)
      → IsWithinStep stepping so_far next → MomentTrail script start (moment_in_step script stepping start so_far)
      → (session req : ℕ) (rsp : GuestRsp) (moved : StepState)
      → RequestSteps (input_of_cause stepping.cause) stepping.host.node so_far session req (ToReply rsp) moved
      → Tells (world_at_cause start.world stepping.cause) req rsp

  -- replies tell so by a world
  abbrev TellAllBy : World → List (ℕ × GuestRsp) → Type 0
  TellAllBy world replies = (reply : ℕ × GuestRsp) → Contains replies reply → Tells world reply.0 reply.1

  none_tell : (world : World) (replies : List (ℕ × GuestRsp)) → replies ≡ [] → TellAllBy world replies
  none_tell world replies none reply among =
      absurd (Contains-nil reply (subst (λ (list : List (ℕ × GuestRsp)). Contains list reply) none among))

  module _ (start : MomentWithPast) (tell : StepsTell start) where
    -- ---- in a step

    module _ (stepping : SteppingNode) (is : IsStepping script start.world stepping) (by : StepsByChanges stepping.cause) where
      abbrev here : World
      here = world_at_cause start.world stepping.cause

      next_tells : (so_far next : StepState) → IsWithinStep stepping so_far next
          → MomentTrail script start (moment_in_step script stepping start so_far)
          → TellAllBy here so_far.outputs.replies → TellAllBy here next.outputs.replies
      next_tells so_far next within trail before reply among =
          by_how (new_told (input_of_cause stepping.cause) stepping.host.node so_far next within.change reply among)
        where
          by_how : HowTold (input_of_cause stepping.cause) stepping.host.node so_far reply → Tells here reply.0 reply.1
          by_how (WasTold old) = before reply old
          by_how (Refuses (cause, same)) =
              subst (λ (rsp : GuestRsp). Tells here reply.0 rsp) (sym same) (refuses here reply.0 cause)
          by_how (Answers session moved steps) = tell stepping is by so_far next within trail session reply.0 reply.1 moved steps

      along : {so_far : StepState} → LeadsInStep stepping (first_in_step stepping) so_far
          → LeadsInStep stepping so_far (last_in_step stepping) → TellAllBy here so_far.outputs.replies
      along changes.Still rest =
          none_tell here (first_in_step stepping).outputs.replies (received_replies (input_of_cause stepping.cause) stepping.host.node)
      along (changes.Then {so_far} {next} leads change) rest =
          next_tells so_far next (record { leads = leads; change = change; rest = rest })
          (to_point script start stepping is by leads (leads_joined (changes.Then changes.Still change) rest))
          (along leads (leads_joined (changes.Then changes.Still change) rest))

      step_tells : TellAllBy here (last_in_step stepping).outputs.replies
      step_tells = along (step_chain (input_of_cause stepping.cause) stepping.host.node) changes.Still

    -- ---- at an event

    one_tells : (n : ℕ) (host : Host) (cause : NodeCause) → IsStepping script start.world (record { n = n; host = host; cause = cause })
        → TellAllBy (world_at_cause start.world cause) (outcome_of_step script n host cause start.world).world.outputs.replies
    one_tells n host (GuestAsks session req ask) is =
        step_tells (record { n = n; host = host; cause = GuestAsks session req ask }) is tt
    one_tells n host (RequestComes name to request) is = none_tell start.world _ (request_silent request host.node)
    one_tells n host (ReplyComes name from rsp) is = step_tells (record { n = n; host = host; cause = ReplyComes name from rsp }) is tt
    one_tells n host (LossIsTold name packet) is = step_tells (record { n = n; host = host; cause = LossIsTold name packet }) is tt
    one_tells n host (EntryIsRead entry) is = step_tells (record { n = n; host = host; cause = EntryIsRead entry }) is tt
    one_tells n host (EntryIsPut entry) is = none_tell start.world _ (put-silent host.node)
    one_tells n host RecoveryTicks is = none_tell start.world _ (tick_silent host.node)
    one_tells n host WorkIsRetried is = step_tells (record { n = n; host = host; cause = WorkIsRetried }) is tt
    one_tells n host (ClientAsks req ask) is = step_tells (record { n = n; host = host; cause = ClientAsks req ask }) is tt

    silent : (event : Event) (made other : EventOutcome) → other ≡ made → other.world.outputs.replies ≡ []
        → TellAllBy (world_without_reply script event start.world) made.world.outputs.replies
    silent event made other same none =
        none_tell (world_without_reply script event start.world) made.world.outputs.replies
        (sym (ap (λ (m : EventOutcome). m.world.outputs.replies) same) ∙ none)

    pub kind_tells : (event : Event) (made : EventOutcome) → MakesMove script event start.world made
        → EventKind script event start.world made → TellAllBy (world_without_reply script event start.world) made.world.outputs.replies
    kind_tells event made happened (NodeStep h) =
        let stepped : EventOutcome = outcome_of_step script h.n h.host h.cause start.world in
        subst (λ (m : EventOutcome). TellAllBy (world_without_reply script event start.world) m.world.outputs.replies) h.made_so
        (subst (λ (e : Event). TellAllBy (world_without_reply script e start.world) stepped.world.outputs.replies) h.event_so
        (subst (λ (world : World). TellAllBy world stepped.world.outputs.replies)
        (sym (world_so script start.world h.n h.host h.cause h.caused))
        (one_tells h.n h.host h.cause (record {
          there = h.there;
          up = h.up;
          caused = h.caused;
          made = goes_as script start.world h.event_so h.made_so happened;
        }))))
    kind_tells event made happened (UntoldLoss h) = silent event made _ h.made_so refl
    kind_tells event made happened (UnreadDelivery h) = silent event made _ h.made_so refl
    kind_tells event made happened (NodeLoss h) = silent event made _ h.made_so refl
    kind_tells event made happened (NodeLeave h) = silent event made _ h.made_so refl
    kind_tells event made happened (NodeReweight h) = silent event made _ h.made_so refl
    kind_tells event made happened (NodeJoin h) = silent event made _ h.made_so refl
    kind_tells event made happened (NodeReturn h) =
        silent event made _ h.made_so (back-silent (log_after_return script h.n start.world) h.host.node)
    kind_tells event made happened (PhaseEnd h) = silent event made _ h.made_so refl

  -- in each run
  pub each_reply_tells : ((moves : List Move) (start : MomentWithPast) → run_with_past script moves ≡ Some start → StepsTell start)
      → (moves : List Move) (last : runs.Moment) → run_with_asks script moves ≡ Some last → (event : Event) (made : EventOutcome)
      → MakesMove script event last.world made → (req : ℕ) (rsp : GuestRsp) → Contains made.world.outputs.replies (req, rsp)
      → Tells (world_without_reply script event last.world) req rsp
  each_reply_tells tell moves last run event made goes req rsp among = by_past (run_with_past script moves) refl
    where
      by_past : (o : Option MomentWithPast) → run_with_past script moves ≡ o → Tells (world_without_reply script event last.world) req rsp
      by_past None none =
          let no_run : None ≡ Some last = sym (ap (option_map without_past) none) ∙ past-follows script moves ∙ run in absurd (cc (no_run))
      by_past (Some moment) led =
          let there : Some (without_past moment) ≡ Some last = sym (ap (option_map without_past) led) ∙ past-follows script moves ∙ run in
          let same : moment.world ≡ last.world = ap (λ (m : runs.Moment). m.world) (same_Some (without_past moment) last there) in
          let now : MakesMove script event moment.world made = subst (λ (world : World). MakesMove script event world made) (sym same) goes in
          subst (λ (world : World). Tells (world_without_reply script event world) req rsp) same
          (kind_tells moment (tell moves moment led) event made now (goes_by_kind script event moment.world made now) (req, rsp) among)
