-- In each world of a run in range each request of a node that is of the script is without reply in the session that asked it, and a read or
-- write there exactly if its statement is one.
use Rattle.std.proofs.Common.{◌≡◌, ◌≢◌, ⊎_elim, ℕ, ◌==◌, Bool, true, false, not, List, [], ◌∷◌, ◌++◌, filter, fold, Contains, Option, Some}
use Rattle.std.proofs.Common.{None, is_some, refl, sym, ap, subst, ◌∙◌}
use Rattle.std.specs.Prelude.{unwrap_or}
use Rattle.std.specs.Option.{option_map_or}
use Rattle.std.specs.Ordering.{nat_cmp}
use Rattle.std.specs.FinMap as tree
use Rattle.std.proofs.lemmas.Bool.{cases_eq, ne_eqb}
use Rattle.std.proofs.lemmas.List.Elements.{Contains-push, Contains-append_left}
use Rattle.proof_tools.proofs.FiniteMaps.{get-insert_same, get-insert_other, get-insert_cases}
use Rattle.proof_tools.proofs.Lists.{Contains-nil, Contains-head, Contains-cons, Contains-filter}
use Rattle.object_id.specs.declared.node.NodeId.{NodeId}
use Rattle.object_id.specs.declared.entry.Entry.{Entry}
use Rattle.cluster_script.specs.declared.statement.Statement.{Statement}
use Rattle.cluster_script.specs.declared.statement.Statement.TheVariants as lines
use Rattle.cluster_script.specs.NumberedRequests.{is_disk_request}
use Rattle.cluster_script.specs.Sessions.{ScriptSession, session_numbered}
use Rattle.cluster_script.specs.Settings.{tries_of}
use Rattle.peer_proto.specs.declared.guest.GuestRsp.{GuestRsp}
use Rattle.sheep_node.specs.declared.ask.Ask.{Ask}
use Rattle.sheep_node.specs.declared.event.Event.{Event}
use Rattle.sheep_node.specs.declared.input.Input.TheVariants as inputs
use Rattle.sheep_node.specs.declared.course.Request.{Request}
use Rattle.sheep_node.specs.State as nodes
use Rattle.sheep_node.specs.State.{Node}
use Rattle.sheep_node.specs.May.{is_disk_course}
use Rattle.sheep_node.specs.Step.{node_step}
use Rattle.sheep_node.specs.LogReading.{on_back}
use Rattle.sheep_node.specs.Changes.{IsSoundStep}
use Rattle.sheep_node.proofs.StepChain.{kept_by_chain, step_chain}
use Rattle.sheep_world.specs.declared.progress.StartedRequest.{StartedRequest}
use Rattle.sheep_world.specs.declared.progress.SessionProgress.{SessionProgress}
use Rattle.sheep_world.specs.World.{Host, World, no_progress, progress_at, is_host_up}
use Rattle.sheep_world.specs.Asking.{ask_of_statement, session_asking}
use Rattle.sheep_world.specs.Conditions.{is_disk_request_at}
use Rattle.sheep_world.specs.NodeSteps.{progress_without_request, progress_after_reply_in, progress_after_reply}
use Rattle.sheep_world.specs.Effects.{disk_open, progress_with_started}
use Rattle.sheep_world.specs.MembershipChanges.{lost_host}
use Rattle.sheep_world.specs.Opening.{initial_world, format_entry}
use Rattle.sheep_world.specs.Step.{EventOutcome}
use Rattle.sheep_world.specs.NodeCauses.{NodeCause, GuestAsks, RequestComes, ReplyComes, LossIsTold, EntryIsRead, EntryIsPut, RecoveryTicks}
use Rattle.sheep_world.specs.NodeCauses.{WorkIsRetried, ClientAsks, input_of_cause, IsCause, progress_at_cause, world_after_cause}
use Rattle.sheep_world.specs.NodeCauses.{host_with_node}
use Rattle.sheep_world.specs.EventKinds.{log_after_return, world_after_return, EventKind, NodeStep, UntoldLoss, UnreadDelivery, NodeLoss}
use Rattle.sheep_world.specs.EventKinds.{NodeLeave, NodeReweight, NodeJoin, NodeReturn, PhaseEnd}
use Rattle.sheep_world.specs.HostChanges.{joined_host, host_after_return}
use Rattle.sheep_world.specs.Began.{Began, IsInvariant}
use Rattle.sheep_world.specs.HoldsTogether.{HoldsTogether}
use Rattle.sheep_world.specs.BegunRequests.{IsOfScript}
use Rattle.sheep_world.proofs.BegunWorlds.{by_induction}
use Rattle.sheep_world.proofs.ClientReads.{goes_by_kind}
use Rattle.sheep_world.proofs.StepsByCause.{sound_step}
use Rattle.sheep_world.proofs.WireAtEvents.{is_ready}
use Rattle.sheep_world.proofs.WireAtOpening.{opening_found}
use Rattle.overlap_law.specs.MomentChanges.{RunsAreInRange}
use Rattle.overlap_law.proofs.AsksInCauses.{no_request}
use Rattle.overlap_law.proofs.KnownSteps.{together}
use Rattle.overlap_law.proofs.RepliesApart.{step_apart}
use Rattle.overlap_law.proofs.RequestsInSteps.{received_replies, is_disk_ask, KnownIn, received_none, change_known}
use Rattle.overlap_law.proofs.SessionsOfRequests.{IsAskedIn, IsAskedBy, brought, asked_so_far, are_asked, by_line, are_asked_by_line}

abbrev pub Guests : Type 0
Guests = tree.FinMap nat_cmp SessionProgress

abbrev pub unanswered_in : ℕ → Guests → List StartedRequest
unanswered_in session guests = (unwrap_or (tree.get guests session) no_progress).unanswered

-- a request is among those of a session that have no reply
pub record IsUnanswered (guests : Guests) (req session : ℕ) : Type 0 where
  pub started : StartedRequest
  pub there : Contains (unanswered_in session guests) started
  pub number : started.req ≡ req

-- and is a read or write exactly if its statement is one
pub record IsTied (script : List Statement) (guests : Guests) (req session : ℕ) (disk : Bool) : Type 0 where
  pub unanswered : IsUnanswered guests req session
  pub kind : disk ≡ is_disk_request_at script req

-- each request of a node that is of the script is; the others are a client's
abbrev pub RequestsAreTied : List Statement → Guests → Node → Type 0
RequestsAreTied script guests node = (req : ℕ) (request : Request) → tree.get node.requests req ≡ Some request → IsOfScript script req
    → IsTied script guests req request.session (is_disk_course request.course)

-- ---- what stays without reply

stays_by_one : (req : ℕ) (asking : Option ℕ) (guests : Guests) (q : ℕ) (started : StartedRequest) → req ≢ started.req
    → Contains (unanswered_in q guests) started → Contains (unanswered_in q (progress_after_reply_in req asking guests)) started
stays_by_one req None guests q started other there = there
stays_by_one req (Some session) guests q started other there = ⊎_elim
    (λ (own : q ≡ session).
    let guest = unwrap_or (tree.get guests session) no_progress in
    let is : unanswered_in q (tree.insert guests session (progress_without_request req guest))
    ≡ filter (λ (s : StartedRequest). not (s.req == req)) guest.unanswered
    = ap (λ (k : ℕ). unanswered_in k (tree.insert guests session (progress_without_request req guest))) own
    ∙ ap (λ (o : Option SessionProgress). (unwrap_or o no_progress).unanswered)
    (get-insert_same guests session (progress_without_request req guest)) in
    subst (λ (list : List StartedRequest). Contains list started) (sym is)
    (Contains-filter (λ (s : StartedRequest). not (s.req == req)) guest.unanswered started
    (subst (λ (k : ℕ). Contains (unanswered_in k guests) started) own there)
    (ap not (ne_eqb started.req req (λ (same : started.req ≡ req). other (sym same))))))
    (λ (apart : q ≢ session).
    let guest = unwrap_or (tree.get guests session) no_progress in
    let is : unanswered_in q (tree.insert guests session (progress_without_request req guest)) ≡ unanswered_in q guests
    = ap (λ (o : Option SessionProgress). (unwrap_or o no_progress).unanswered)
    (get-insert_other guests session (progress_without_request req guest) q apart) in
    subst (λ (list : List StartedRequest). Contains list started) (sym is) there)
    (cases_eq q session)

module _ (script : List Statement) where
  -- what is of the script is tied
  abbrev IfOfScript : Guests → ℕ → ℕ → Bool → Type 0
  IfOfScript guests req session disk = IsOfScript script req → IsTied script guests req session disk

  pub stays_by : (replies : List (ℕ × GuestRsp)) (guests : Guests) (q : ℕ) (started : StartedRequest)
      → ((reply : ℕ × GuestRsp) → Contains replies reply → reply.0 ≢ started.req) → Contains (unanswered_in q guests) started
      → Contains (unanswered_in q (fold (progress_after_reply script) guests replies)) started
  stays_by [] guests q started others there = there
  stays_by (first ∷ later) guests q started others there =
      stays_by later (progress_after_reply script guests first) q started
      (λ reply among. others reply (Contains-cons first later reply among))
      (stays_by_one first.0 (session_asking script first.0) guests q started (others first (Contains-head first later)) there)

  still_tied : (guests : Guests) (replies : List (ℕ × GuestRsp)) (req session : ℕ) (disk : Bool)
      → ((reply : ℕ × GuestRsp) → Contains replies reply → reply.0 ≢ req) → IsTied script guests req session disk
      → IsTied script (fold (progress_after_reply script) guests replies) req session disk
  still_tied guests replies req session disk others is = record {
    unanswered = record {
      started = is.unanswered.started;
      there = stays_by replies guests session is.unanswered.started
          (λ reply among same. others reply among (same ∙ is.unanswered.number)) is.unanswered.there;
      number = is.unanswered.number;
    };
    kind = is.kind;
  }

  -- ---- a step finds the requests tied, and that of its guest

  -- a statement asks for a read or write exactly if it is one
  abbrev kind_asked : Option Ask → Bool
  kind_asked None = false
  kind_asked (Some ask) = is_disk_ask ask

  kind_of_ask : (line : Statement) (ask : Ask) → ask_of_statement line ≡ Some ask → is_disk_ask ask ≡ is_disk_request line
  kind_of_ask (lines.Create session policy shift name size) ask is = ap kind_asked (sym is)
  kind_of_ask (lines.OpenDisk session name tag) ask is = ap kind_asked (sym is)
  kind_of_ask (lines.Close session) ask is = ap kind_asked (sym is)
  kind_of_ask (lines.Read session offset length) ask is = ap kind_asked (sym is)
  kind_of_ask (lines.Write session offset length pattern) ask is = ap kind_asked (sym is)
  kind_of_ask (lines.Snapshot session tag) ask is = ap kind_asked (sym is)
  kind_of_ask (lines.Clone session base tag name) ask is = ap kind_asked (sym is)
  kind_of_ask (lines.Delete session name tag) ask is = ap kind_asked (sym is)
  kind_of_ask (lines.Check session) ask is = ap kind_asked (sym is)
  kind_of_ask line ask is = absurd (cc (is))

  module _ (world : World) (n : ℕ) (host : Host) where
    -- the session that asks has one more without reply
    more_unanswered : (session : ScriptSession) (new : StartedRequest) (q : ℕ) (started : StartedRequest)
        → Contains (unanswered_in q world.guests) started
        → Contains (unanswered_in q (tree.insert world.guests session.number
        (progress_with_started new (progress_at session.number world)))) started
    more_unanswered session new q started there = ⊎_elim
        (λ (own : q ≡ session.number).
        let guest = progress_with_started new (progress_at session.number world) in
        let is : unanswered_in q (tree.insert world.guests session.number guest) ≡ (progress_at session.number world).unanswered ++ new ∷ []
        = ap (λ (k : ℕ). unanswered_in k (tree.insert world.guests session.number guest)) own
        ∙ ap (λ (o : Option SessionProgress). (unwrap_or o no_progress).unanswered) (get-insert_same world.guests session.number guest) in
        subst (λ (list : List StartedRequest). Contains list started) (sym is)
        (Contains-append_left (progress_at session.number world).unanswered (new ∷ []) started
        (subst (λ (k : ℕ). Contains (unanswered_in k world.guests) started) own there)))
        (λ (apart : q ≢ session.number).
        let guest = progress_with_started new (progress_at session.number world) in
        let is : unanswered_in q (tree.insert world.guests session.number guest) ≡ unanswered_in q world.guests
        = ap (λ (o : Option SessionProgress). (unwrap_or o no_progress).unanswered)
        (get-insert_other world.guests session.number guest q apart) in
        subst (λ (list : List StartedRequest). Contains list started) (sym is) there)
        (cases_eq q session.number)

    pub found_unanswered : (cause : NodeCause) (q : ℕ) (started : StartedRequest) → Contains (unanswered_in q world.guests) started
        → Contains (unanswered_in q (progress_at_cause cause world)) started
    found_unanswered (GuestAsks session req ask) q started there =
        more_unanswered session (record { req = req; disk = disk_open session world }) q started there
    found_unanswered (RequestComes name to request) q started there = there
    found_unanswered (ReplyComes name to rsp) q started there = there
    found_unanswered (LossIsTold name packet) q started there = there
    found_unanswered (EntryIsRead entry) q started there = there
    found_unanswered (EntryIsPut entry) q started there = there
    found_unanswered RecoveryTicks q started there = there
    found_unanswered WorkIsRetried q started there = there
    found_unanswered (ClientAsks req ask) q started there = there

    found_tied : (cause : NodeCause) (req session : ℕ) (disk : Bool) → IsTied script world.guests req session disk
        → IsTied script (progress_at_cause cause world) req session disk
    found_tied cause req session disk is = record {
      unanswered = record {
        started = is.unanswered.started;
        there = found_unanswered cause session is.unanswered.started is.unanswered.there;
        number = is.unanswered.number;
      };
      kind = is.kind;
    }

    -- the request that a cause brings is tied
    new_tied : (session : ScriptSession) (req : ℕ) (ask : Ask) → IsCause script world n host (GuestAsks session req ask)
        → IsTied script (progress_at_cause (GuestAsks session req ask) world) req session.number (is_disk_ask ask)
    new_tied session req ask asked =
        let new : StartedRequest = record { req = req; disk = disk_open session world } in
        let guest = progress_with_started new (progress_at session.number world) in
        let is : unanswered_in session.number (tree.insert world.guests session.number guest)
        ≡ (progress_at session.number world).unanswered ++ new ∷ []
        = ap (λ (o : Option SessionProgress). (unwrap_or o no_progress).unanswered) (get-insert_same world.guests session.number guest) in
        record {
          unanswered = record {
            started = new;
            there = subst (λ (list : List StartedRequest). Contains list new) (sym is)
                (Contains-push (progress_at session.number world).unanswered new);
            number = refl;
          };
          kind = kind_of_ask asked.line ask asked.asks ∙ sym (ap (λ (o : Option Statement). option_map_or is_disk_request o false)
              asked.stands);
        }

    pub brings_tied : (cause : NodeCause) → IsCause script world n host cause → (req session : ℕ) (ask : Ask)
        → input_of_cause cause ≡ inputs.Guest req session ask
        → IsOfScript script req → IsTied script (progress_at_cause cause world) req session (is_disk_ask ask)
    brings_tied (GuestAsks session begins asks) asked req number ask from of_script =
        let same : begins ≡ req = cc (from) in
        let own : session.number ≡ number = cc (from) in
        let what : asks ≡ ask = cc (from) in
        let found = progress_at_cause (GuestAsks session begins asks) world in
        subst (λ (k : ℕ). IsTied script found k number (is_disk_ask ask)) same
        (subst (λ (k : ℕ). IsTied script found begins k (is_disk_ask ask)) own
        (subst (λ (a : Ask). IsTied script found begins session.number (is_disk_ask a)) what (new_tied session begins asks asked)))
    brings_tied (RequestComes name to request) so req number ask from of_script = absurd (cc (from))
    brings_tied (ReplyComes name to rsp) so req number ask from of_script = absurd (cc (from))
    brings_tied (LossIsTold name packet) so req number ask from of_script = absurd (cc (from))
    brings_tied (EntryIsRead entry) so req number ask from of_script = absurd (cc (from))
    brings_tied (EntryIsPut entry) so req number ask from of_script = absurd (cc (from))
    brings_tied RecoveryTicks so req number ask from of_script = absurd (cc (from))
    brings_tied WorkIsRetried so req number ask from of_script = absurd (cc (from))
    brings_tied (ClientAsks begins what) so req number ask from of_script =
        let none = no_request so req (cc (from)) in
        absurd (cc (ap (λ (o : Option Statement). is_some o) none, of_script))

    -- the node's own requests at the end of its step
    own_tied : (cause : NodeCause) → IsCause script world n host cause → IsSoundStep (input_of_cause cause) host.node
        → RequestsAreTied script world.guests host.node
        → RequestsAreTied script (world_after_cause script n host cause world).guests (node_step (input_of_cause cause) host.node).node
    own_tied cause caused sound are req request got of_script =
        let known = kept_by_chain (KnownIn (IfOfScript (progress_at_cause cause world)))
        (change_known (IfOfScript (progress_at_cause cause world)) (input_of_cause cause) host.node (brings_tied cause caused))
        (step_chain (input_of_cause cause) host.node)
        (received_none (IfOfScript (progress_at_cause cause world)) (input_of_cause cause) host.node
        (received_replies (input_of_cause cause) host.node) (λ req request got of_script. found_tied cause req request.session
        (is_disk_course request.course) (are req request got of_script))) in
        still_tied (progress_at_cause cause world) (node_step (input_of_cause cause) host.node).outputs.replies req request.session
        (is_disk_course request.course) (λ reply among. step_apart (input_of_cause cause) host.node sound req request reply got among)
        (known.asked req request got of_script)

  -- a request of another node isn't replied to
  pub others_unreplied : (n m one other req session again : ℕ) → m ≢ n → IsAskedIn script n one req session
      → IsAskedIn script m other req again → ⊥
  others_unreplied n m one other req session again apart here there =
      let same : session ≡ again = cc (here.asking, there.asking) in
      let of : here.of ≡ there.of = cc (sym here.declared ∙ ap (λ (k : ℕ). session_numbered script k) same ∙ there.declared) in
      apart (sym there.of_node ∙ ap (λ (s : ScriptSession). s.node) (sym of) ∙ here.of_node)

  -- each node's are
  abbrev pub AllTied : World → Type 0
  AllTied world = (m : ℕ) (host : Host) → tree.get world.hosts m ≡ Some host → RequestsAreTied script world.guests host.node

  none_there : (guests : Guests) (req : ℕ) (request : Request) → tree.get (tree.empty {X = Request} {R = nat_cmp}) req ≡ Some request
      → IfOfScript guests req request.session (is_disk_course request.course)
  none_there guests req request got of_script = let none = tree.get-empty {X = Request} nat_cmp req in absurd (cc (none, got))

  -- a node that comes back has no requests, and replies to nobody
  pub back_empty : (log : List Entry) (node : Node) → KnownIn (λ req session disk. ⊥) (node_step (inputs.Back log) node)
  unfolding on_back
  back_empty log node =
      kept_by_chain (KnownIn (λ req session disk. ⊥)) (change_known (λ req session disk. ⊥) (inputs.Back log) node
      (λ req session ask from. absurd (cc (from)))) (step_chain (inputs.Back log) node)
      (record {
        asked = λ req request got. let none = tree.get-empty {X = Request} nat_cmp req in absurd (cc (none, got));
        replied = λ one there. absurd (Contains-nil one there);
      })

  -- nor has an opening member any
  pub first_empty : (me : NodeId)
      → KnownIn (λ req session disk. ⊥) (node_step (inputs.LogEntry (format_entry script)) (nodes.initial_node me (tries_of script)))
  first_empty me =
      let node = nodes.initial_node me (tries_of script) in
      kept_by_chain (KnownIn (λ req session disk. ⊥)) (change_known (λ req session disk. ⊥) (inputs.LogEntry (format_entry script)) node
      (λ req session ask from. absurd (cc (from)))) (step_chain (inputs.LogEntry (format_entry script)) node)
      (received_none (λ req session disk. ⊥) (inputs.LogEntry (format_entry script)) node
      (received_replies (inputs.LogEntry (format_entry script)) node)
      (λ req request got. let none = tree.get-empty {X = Request} nat_cmp req in absurd (cc (none, got))))

  pub opens_tied : AllTied (initial_world script)
  unfolding initial_world
  opens_tied m host got =
      let (member, own, is) = opening_found script m host got in
      subst (λ (h : Host). RequestsAreTied script tree.empty h.node) is
      (λ req request has of_script. absurd ((first_empty member.node).asked req request has))

  module _ (world : World) (began : Began script world) (holds : HoldsTogether script world) (are : AllTied world) where
    step_tied : (n : ℕ) (host : Host) (cause : NodeCause) → tree.get world.hosts n ≡ Some host → is_host_up host ≡ true
        → IsCause script world n host cause
        → (m : ℕ) (now : Host) → tree.get (world_after_cause script n host cause world).hosts m ≡ Some now
        → RequestsAreTied script (world_after_cause script n host cause world).guests now.node
    step_tied n host cause there up caused m now got = ⊎_elim
        (λ (own : (m ≡ n) × (host_with_node host (node_step (input_of_cause cause) host.node).node ≡ now)).
        let ready = is_ready script world holds n host there up in
        subst (λ (h : Host). RequestsAreTied script (world_after_cause script n host cause world).guests h.node) own.1
        (own_tied world n host cause caused (sound_step script world n host cause caused ready) (are n host there)))
        (λ (other : (m ≢ n) × (tree.get world.hosts m ≡ Some now)).
        λ req request has of_script.
        let replied = (asked_so_far script n host.incarnation (input_of_cause cause) host.node (brought script world n host cause caused)
        (are_asked script world began n host there) (step_chain (input_of_cause cause) host.node)).replied in
        let asked = are_asked_by_line script world began m now other.1 req request has of_script in
        still_tied (progress_at_cause cause world) (node_step (input_of_cause cause) host.node).outputs.replies req request.session
        (is_disk_course request.course) (λ reply among same.
        let (session, disk, here) = replied reply among in
        others_unreplied n m host.incarnation now.incarnation req session request.session other.0
        (by_line script n host.incarnation req session (subst (λ (k : ℕ). IsAskedBy script n host.incarnation k session) same here)
        of_script) asked) (found_tied world n host cause req request.session (is_disk_course request.course)
        (are m now other.1 req request has of_script))) (get-insert_cases world.hosts n
        (host_with_node host (node_step (input_of_cause cause) host.node).node) m now got)

    return_tied : (n : ℕ) (host : Host) → (m : ℕ) (now : Host) → tree.get (world_after_return script n host world).hosts m ≡ Some now
        → RequestsAreTied script (world_after_return script n host world).guests now.node
    return_tied n host m now got = ⊎_elim
        (λ (own : (m ≡ n) × (host_after_return (log_after_return script n world) host ≡ now)).
        subst (λ (h : Host). RequestsAreTied script (world_after_return script n host world).guests h.node) own.1
        (λ req request has of_script. absurd ((back_empty (log_after_return script n world) host.node).asked req request has)))
        (λ (other : (m ≢ n) × (tree.get world.hosts m ≡ Some now)). λ req request has of_script.
        still_tied world.guests (node_step (inputs.Back (log_after_return script n world)) host.node).outputs.replies req request.session
        (is_disk_course request.course)
        (λ reply among same. ((back_empty (log_after_return script n world) host.node).replied reply among).2)
        (are m now other.1 req request has of_script)) (get-insert_cases world.hosts n
        (host_after_return (log_after_return script n world) host) m now got)

    one_tied : (n : ℕ) (new : Host) → RequestsAreTied script world.guests new.node → (m : ℕ) (now : Host)
        → tree.get (tree.insert world.hosts n new) m ≡ Some now → RequestsAreTied script world.guests now.node
    one_tied n new is m now got = ⊎_elim
        (λ (own : (m ≡ n) × (new ≡ now)). subst (λ (h : Host). RequestsAreTied script world.guests h.node) own.1 is)
        (λ (other : (m ≢ n) × (tree.get world.hosts m ≡ Some now)). are m now other.1)
        (get-insert_cases world.hosts n new m now got)

    pub kind_tied : (event : Event) (made : EventOutcome) → EventKind script event world made → AllTied made.world
    kind_tied event made (NodeStep h) =
        subst (λ (m : EventOutcome). AllTied m.world) h.made_so (step_tied h.n h.host h.cause h.there h.up h.caused)
    kind_tied event made (UntoldLoss h) = subst (λ (m : EventOutcome). AllTied m.world) h.made_so are
    kind_tied event made (UnreadDelivery h) = subst (λ (m : EventOutcome). AllTied m.world) h.made_so are
    kind_tied event made (NodeLoss h) =
        subst (λ (m : EventOutcome). AllTied m.world) h.made_so (one_tied h.n (lost_host h.host) (are h.n h.host h.there))
    kind_tied event made (NodeLeave h) = subst (λ (m : EventOutcome). AllTied m.world) h.made_so are
    kind_tied event made (NodeReweight h) = subst (λ (m : EventOutcome). AllTied m.world) h.made_so are
    kind_tied event made (NodeJoin h) =
        subst (λ (m : EventOutcome). AllTied m.world) h.made_so (one_tied h.n (joined_host script h.n) (none_there world.guests))
    kind_tied event made (NodeReturn h) = subst (λ (m : EventOutcome). AllTied m.world) h.made_so (return_tied h.n h.host)
    kind_tied event made (PhaseEnd h) = subst (λ (m : EventOutcome). AllTied m.world) h.made_so are

  module _ (range : RunsAreInRange script) where
    tied_invariant : IsInvariant script AllTied
    tied_invariant = record {
      opens = opens_tied;
      keeps = λ event world made began is are. kind_tied world began (together script range world began) are event made
          (goes_by_kind script event world made is);
    }

    pub requests_tied : (world : World) → Began script world → (m : ℕ) (host : Host) → tree.get world.hosts m ≡ Some host
        → RequestsAreTied script world.guests host.node
    requests_tied = by_induction script AllTied tied_invariant
