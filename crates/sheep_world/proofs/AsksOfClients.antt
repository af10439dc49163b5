-- A client's request is at one node at most; and where that isn't lost it is the last ask, and has no reply.
use Rattle.std.proofs.Common.{◌≡◌, ◌≢◌, ⊎_elim, arith, ℕ, ◌<◌, ◌≤◌, ◌==◌, true, false, List, [], find, Contains, Option, Some, None}
use Rattle.std.proofs.Common.{is_some, refl, sym, ap, subst, ◌∙◌}
use Rattle.std.specs.Option.{option_map, option_map_or}
use Rattle.std.specs.Ordering.{nat_cmp}
use Rattle.std.specs.FinMap as tree
use Rattle.std.proofs.lemmas.Bool.{cases_eq, eqb-true}
use Rattle.std.proofs.lemmas.Option.{same_Some}
use Rattle.proof_tools.proofs.FiniteMaps.{get-insert_same, get-insert_other}
use Rattle.proof_tools.proofs.Lists.{find-contains}
use Rattle.object_id.specs.declared.limits.TheConstants.{REQUESTS_MAX}
use Rattle.cluster_script.specs.declared.statement.Statement.{Statement}
use Rattle.cluster_script.specs.Language.{IsScript}
use Rattle.cluster_script.specs.Settings.{tries_of}
use Rattle.peer_proto.specs.declared.guest.GuestRsp.{GuestRsp}
use Rattle.sheep_node.specs.declared.ask.Ask.{Ask}
use Rattle.sheep_node.specs.declared.course.Request.{Request}
use Rattle.sheep_node.specs.declared.event.Event.{Event}
use Rattle.sheep_node.specs.declared.input.Input.TheVariants as inputs
use Rattle.sheep_node.specs.State as nodes
use Rattle.sheep_node.specs.Step.{node_step}
use Rattle.sheep_node.proofs.RequestChanges.{AllAre, requests_stay, requests_back}
use Rattle.sheep_node.proofs.StepReplies.{replied-once, back-silent}
use Rattle.sheep_world.specs.declared.progress.ClientAsk.{ClientAsk}
use Rattle.sheep_world.specs.AsksOfClients.{HasRequestOf, ClientsAsk}
use Rattle.sheep_world.specs.Began.{Began}
use Rattle.sheep_world.specs.BegunRequests.{RequestsWereBegun}
use Rattle.sheep_world.specs.ClientAsks.{next_ask_number, is_answered}
use Rattle.sheep_world.specs.EventKinds.{log_after_return, EventKind, IsNodeStep, NodeStep, UntoldLoss, UnreadDelivery, NodeLoss, NodeLeave}
use Rattle.sheep_world.specs.EventKinds.{NodeReweight, NodeJoin, NodeReturn, PhaseEnd}
use Rattle.sheep_world.specs.HostChanges.{host_after_step, HostChange, Stays, Steps, IsLost, ComesBack, Joins}
use Rattle.sheep_world.specs.NodeCauses.{NodeCause, GuestAsks, RequestComes, ReplyComes, LossIsTold, EntryIsRead, EntryIsPut, RecoveryTicks}
use Rattle.sheep_world.specs.NodeCauses.{WorkIsRetried, ClientAsks, input_of_cause, IsCause, asked_at_cause, world_after_cause}
use Rattle.sheep_world.specs.NodeSteps.{reply_among, ask_after_replies}
use Rattle.sheep_world.specs.Opening.{initial_world, format_entry}
use Rattle.sheep_world.specs.Step.{EventOutcome}
use Rattle.sheep_world.specs.World.{Host, World, host_at}
use Rattle.sheep_world.proofs.AsksInSteps.{serves_clients}
use Rattle.sheep_world.proofs.AsksNumbers.{number_of_request, below_next, next_is_new}
use Rattle.sheep_world.proofs.BegunRequestLaws.{were_begun, new-begun}
use Rattle.sheep_world.proofs.BegunWorlds.{by_induction}
use Rattle.sheep_world.proofs.ClientReads.{goes_by_kind}
use Rattle.sheep_world.proofs.HostChangeLaws.{became}
use Rattle.sheep_world.proofs.WireAtOpening.{opening_found}

-- ---- a reply among some

-- a request without a reply among some has none by them
unreplied : (number : ℕ) (replies : List (ℕ × GuestRsp)) → ((rsp : GuestRsp) → Contains replies (number, rsp) → ⊥)
    → reply_among number replies ≡ None
unreplied number replies none = by_found (find (λ (reply : ℕ × GuestRsp). reply.0 == number) replies) refl
  where
    by_found : (o : Option (ℕ × GuestRsp)) → find (λ (reply : ℕ × GuestRsp). reply.0 == number) replies ≡ o
        → option_map (λ (reply : ℕ × GuestRsp). reply.1) o ≡ None
    by_found None is = refl
    by_found (Some reply) is =
        let (there, test) = find-contains (λ (reply : ℕ × GuestRsp). reply.0 == number) replies reply is in
        let same : reply.0 ≡ number = eqb-true reply.0 number test in
        absurd (none reply.1 (subst (λ (k : ℕ). Contains replies (k, reply.1)) same there))

-- the ask of a number, without reply
abbrev unanswered : ℕ → Option ClientAsk
unanswered number = Some (record { req = number; reply = None })

stays_unanswered : (number : ℕ) (replies : List (ℕ × GuestRsp)) → ((rsp : GuestRsp) → Contains replies (number, rsp) → ⊥)
    → Some (ask_after_replies replies (record { req = number; reply = None })) ≡ unanswered number
stays_unanswered number replies none =
    ap (λ (reply : Option GuestRsp). Some (record { req = number; reply = reply })) (unreplied number replies none)

none_are : (P : ℕ → Type 0) → AllAre P (tree.empty {X = Request} {R = nat_cmp})
none_are P req request got = let none = tree.get-empty {X = Request} nat_cmp req in absurd (cc (none, got))

module _ (statements : List Statement) (script : IsScript statements) where
  -- ---- what a node steps on as a request

  -- one that is above a script's is a client's next
  comes_high : (world : World) (n : ℕ) (host : Host) (cause : NodeCause) → IsCause statements world n host cause
      → (req session : ℕ) (ask : Ask) → input_of_cause cause ≡ inputs.Guest req session ask → REQUESTS_MAX < req
      → (asked : Ask) × (cause ≡ ClientAsks req asked) × (next_ask_number world ≡ req)
  comes_high world n host (GuestAsks asking begins asked) caused req session ask from above =
      let low : begins ≤ REQUESTS_MAX = number_of_request statements script begins caused.line caused.stands in
      let same : begins ≡ req = cc (from) in
      absurd (omega (arith, low, same, above))
  comes_high world n host (RequestComes name to request) caused req session ask from above = absurd (cc (from))
  comes_high world n host (ReplyComes name to rsp) caused req session ask from above = absurd (cc (from))
  comes_high world n host (LossIsTold name packet) caused req session ask from above = absurd (cc (from))
  comes_high world n host (EntryIsRead entry) caused req session ask from above = absurd (cc (from))
  comes_high world n host (EntryIsPut entry) caused req session ask from above = absurd (cc (from))
  comes_high world n host RecoveryTicks caused req session ask from above = absurd (cc (from))
  comes_high world n host WorkIsRetried caused req session ask from above = absurd (cc (from))
  comes_high world n host (ClientAsks begins asked) caused req session ask from above =
      let same : begins ≡ req = cc (from) in
      (asked, ap (λ (k : ℕ). ClientAsks k asked) same, caused.number ∙ same)

  -- no node has a request of the next number
  abbrev NextIsNew : World → Type 0
  NextIsNew world = (q : ℕ) (host : Host) → host_at q world ≡ Some host → tree.get host.node.requests (next_ask_number world) ≡ None

  -- a request that comes is new to the node
  pub comes_new : (world : World) → RequestsWereBegun statements world → NextIsNew world → (n : ℕ) (host : Host) → host_at n world ≡ Some host
      → (cause : NodeCause) → IsCause statements world n host cause
      → (req session : ℕ) (ask : Ask) → input_of_cause cause ≡ inputs.Guest req session ask → tree.get host.node.requests req ≡ None
  comes_new world begun new n host there (GuestAsks asking begins asked) caused req session ask from =
      let first : begins ≡ req = cc (from) in
      subst (λ (k : ℕ). tree.get host.node.requests k ≡ None) first
      (new-begun statements asking.number world begun asking begins host caused.declared caused.next
      (ap (λ (k : ℕ). tree.get world.hosts k) caused.gateway ∙ there))
  comes_new world begun new n host there (RequestComes name to request) caused req session ask from = absurd (cc (from))
  comes_new world begun new n host there (ReplyComes name to rsp) caused req session ask from = absurd (cc (from))
  comes_new world begun new n host there (LossIsTold name packet) caused req session ask from = absurd (cc (from))
  comes_new world begun new n host there (EntryIsRead entry) caused req session ask from = absurd (cc (from))
  comes_new world begun new n host there (EntryIsPut entry) caused req session ask from = absurd (cc (from))
  comes_new world begun new n host there RecoveryTicks caused req session ask from = absurd (cc (from))
  comes_new world begun new n host there WorkIsRetried caused req session ask from = absurd (cc (from))
  comes_new world begun new n host there (ClientAsks begins asked) caused req session ask from =
      let first : begins ≡ req = cc (from) in
      subst (λ (k : ℕ). tree.get host.node.requests k ≡ None) (caused.number ∙ first) (new n host there)

  -- what is so of a client's requests
  pub record AreClients (world : World) : Type 0 where
    pub alone : (n q number : ℕ) (host other : Host) → REQUESTS_MAX < number → HasRequestOf world number n host
        → HasRequestOf world number q other → n ≡ q
    pub waits : (n number : ℕ) (host : Host) → REQUESTS_MAX < number → HasRequestOf world number n host → host.is_lost ≡ false
        → world.asked ≡ unanswered number

  module _ (event : Event) (world : World) (made : EventOutcome) (kind : EventKind statements event world made)
      (begun : RequestsWereBegun statements world) (new : NextIsNew world) (are : AreClients world) where
    -- a client's request that a node has then it had, or it is the client's read on which it steps
    data Comes (number q : ℕ) (host : Host) : Type 0 where
      Was : (old : Host) → HasRequestOf world number q old → (host.is_lost ≡ false → old.is_lost ≡ false) → Comes number q host
      IsNew : (old : Host) (ask : Ask) → host_at q world ≡ Some old → next_ask_number world ≡ number
          → world_after_cause statements q old (ClientAsks number ask) world ≡ made.world → Comes number q host

    comes : (number q : ℕ) (host : Host) → REQUESTS_MAX < number → HasRequestOf made.world number q host → Comes number q host
    comes number q host above has = by_change (became statements event world made q host kind has.there)
      where
        got_in : (other : Host) → other ≡ host → tree.get other.node.requests number ≡ Some has.request
        got_in other same = ap (λ (host : Host). tree.get host.node.requests number) same ∙ has.has

        by_change : HostChange statements world made.world q host → Comes number q host
        by_change (Stays there) = Was host (record { there = there; request = has.request; has = has.has }) (λ is. is)
        by_change (Steps s) =
            requests_stay (λ (req : ℕ). req ≡ number → Comes number q host) (input_of_cause s.cause) s.old.node
            (λ req session ask from same.
            let (asked, cause_so, next) = comes_high world q s.old s.cause s.caused req session ask from
            (subst (λ (k : ℕ). REQUESTS_MAX < k) (sym same) above) in
            IsNew s.old asked s.there (next ∙ same)
            (ap (λ (cause : NodeCause). world_after_cause statements q s.old cause world)
            (sym (cause_so ∙ ap (λ (k : ℕ). ClientAsks k asked) same)) ∙ s.world_so))
            (λ req request got same. Was s.old
            (record { there = s.there; request = request; has = ap (tree.get s.old.node.requests) (sym same) ∙ got })
            (λ is. ap (λ (host : Host). host.is_lost) s.host_so ∙ is))
            number has.request (got_in (host_after_step s.cause s.old) s.host_so) refl
        by_change (IsLost f) =
            Was f.old (record { there = f.there; request = has.request; has = got_in _ f.host_so })
            (λ is. let lost : host.is_lost ≡ true = sym (ap (λ (host : Host). host.is_lost) f.host_so) in absurd (cc (is, lost)))
        by_change (ComesBack r) =
            absurd (requests_back (λ (req : ℕ). ⊥) (log_after_return statements q world) r.old.node number has.request (got_in _ r.host_so))
        by_change (Joins j) = absurd (none_are (λ (req : ℕ). ⊥) number has.request (got_in _ j.host_so))

    -- no node had the new one
    not_had : (number q : ℕ) (old : Host) → next_ask_number world ≡ number → HasRequestOf world number q old → ⊥
    not_had number q old is has =
        let none = ap (tree.get old.node.requests) (sym is) ∙ new q old has.there in
        let some = has.has in
        absurd (cc (none, some))

    -- ---- at one node

    -- where a node at another number stepped on the read this one stays, so it hasn't the request
    read_at : (number q n : ℕ) (host old : Host) (ask : Ask) → HasRequestOf made.world number q host → next_ask_number world ≡ number
        → world_after_cause statements n old (ClientAsks number ask) world ≡ made.world → q ≡ n
    read_at number q n host old ask has is made_so = ⊎_elim
        (λ (own : q ≡ n). own)
        (λ (other : q ≢ n).
        let stays : host_at q made.world ≡ host_at q world
        = ap (λ (world : World). host_at q world) (sym made_so)
        ∙ get-insert_other world.hosts n (host_after_step (ClientAsks number ask) old) q other in
        absurd (not_had number q host is (record { there = sym stays ∙ has.there; request = has.request; has = has.has })))
        (cases_eq q n)

    alone_after : (one two number : ℕ) (first second : Host) → REQUESTS_MAX < number → HasRequestOf made.world number one first
        → HasRequestOf made.world number two second → Comes number one first → Comes number two second → one ≡ two
    alone_after one two number first second above has too (Was old had lives) (Was other had_too later) =
        are.alone one two number old other above had had_too
    alone_after one two number first second above has too (Was old had lives) (IsNew other ask there is made_so) =
        absurd (not_had number one old is had)
    alone_after one two number first second above has too (IsNew old ask there is made_so) later =
        sym (read_at number two one second old ask too is made_so)

    -- ---- while it has no reply

    -- a step that isn't on it replies to no request of a client that some node has then
    silent : (h : IsNodeStep statements event world made) (number q : ℕ) (host old : Host) → REQUESTS_MAX < number
        → HasRequestOf made.world number q host → HasRequestOf world number q old → (rsp : GuestRsp)
        → Contains (node_step (input_of_cause h.cause) h.host.node).outputs.replies (number, rsp) → ⊥
    silent h number q host old above has before rsp replied =
        let once = replied-once (input_of_cause h.cause) h.host.node number (comes_new world begun new h.n h.host h.there h.cause h.caused) in
        ⊎_elim
        (λ (had : (request : Request) × (tree.get h.host.node.requests number ≡ Some request)).
        let same : q ≡ h.n = are.alone q h.n number old h.host above before
        (record { there = h.there; request = had.0; has = had.1 }) in
        let there : host_at q made.world ≡ Some (host_after_step h.cause h.host)
        = subst (λ (m : EventOutcome). host_at q m.world ≡ Some (host_after_step h.cause h.host)) h.made_so
        (ap (tree.get (tree.insert world.hosts h.n (host_after_step h.cause h.host))) same
        ∙ get-insert_same world.hosts h.n (host_after_step h.cause h.host)) in
        let is : host ≡ host_after_step h.cause h.host = same_Some host (host_after_step h.cause h.host) (sym has.there ∙ there) in
        let none : tree.get host.node.requests number ≡ None
        = ap (λ (host : Host). tree.get host.node.requests number) is ∙ once.gone rsp replied in
        let some = has.has in
        absurd (cc (none, some)))
        (λ (comes : (session : ℕ) × (ask : Ask) × (input_of_cause h.cause ≡ inputs.Guest number session ask)).
        let (asked, cause_so, next) = comes_high world h.n h.host h.cause h.caused number comes.0 comes.1 comes.2 above in
        absurd (not_had number q old next before))
        (once.own rsp replied)

    abbrev AskStays : ℕ → EventOutcome → Type 0
    AskStays number m = m.world.asked ≡ unanswered number

    -- where an ask has no reply no other begins
    asked_still : (number n : ℕ) (host : Host) (cause : NodeCause) → IsCause statements world n host cause → world.asked ≡ unanswered number
        → asked_at_cause cause world.asked ≡ world.asked
    asked_still number n host (GuestAsks session req ask) caused was = refl
    asked_still number n host (RequestComes name to request) caused was = refl
    asked_still number n host (ReplyComes name from rsp) caused was = refl
    asked_still number n host (LossIsTold name packet) caused was = refl
    asked_still number n host (EntryIsRead entry) caused was = refl
    asked_still number n host (EntryIsPut entry) caused was = refl
    asked_still number n host RecoveryTicks caused was = refl
    asked_still number n host WorkIsRetried caused was = refl
    asked_still number n host (ClientAsks req ask) caused was =
        let waits : is_answered world ≡ false
        = ap (λ (asked : Option ClientAsk). option_map_or (λ (ask : ClientAsk). is_some ask.reply) asked true) was in
        let answered = caused.answered in
        absurd (cc (waits, answered))

    -- the last ask stays without reply
    still_waits : (q number : ℕ) (host old : Host) → REQUESTS_MAX < number → HasRequestOf made.world number q host → HasRequestOf world number q old
        → world.asked ≡ unanswered number → EventKind statements event world made → made.world.asked ≡ unanswered number
    still_waits q number host old above has before was (NodeStep h) =
        let replies : List (ℕ × GuestRsp) = (node_step (input_of_cause h.cause) h.host.node).outputs.replies in
        subst (AskStays number) h.made_so
        (ap (option_map (ask_after_replies replies)) (asked_still number h.n h.host h.cause h.caused was ∙ was)
        ∙ stays_unanswered number replies (silent h number q host old above has before))
    still_waits q number host old above has before was (UntoldLoss h) = subst (AskStays number) h.made_so was
    still_waits q number host old above has before was (UnreadDelivery h) = subst (AskStays number) h.made_so was
    still_waits q number host old above has before was (NodeLoss h) = subst (AskStays number) h.made_so was
    still_waits q number host old above has before was (NodeLeave h) = subst (AskStays number) h.made_so was
    still_waits q number host old above has before was (NodeReweight h) = subst (AskStays number) h.made_so was
    still_waits q number host old above has before was (NodeJoin h) = subst (AskStays number) h.made_so was
    still_waits q number host old above has before was (NodeReturn h) =
        subst (AskStays number) h.made_so
        (ap (λ (replies : List (ℕ × GuestRsp)). option_map (ask_after_replies replies) world.asked)
        (back-silent (log_after_return statements h.n world) h.host.node)
        ∙ ap (option_map (ask_after_replies [])) was)
    still_waits q number host old above has before was (PhaseEnd h) = subst (AskStays number) h.made_so was

    -- the new one has no reply while it is there
    new_silent : (number q : ℕ) (host old : Host) (ask : Ask) → HasRequestOf made.world number q host → host_at q world ≡ Some old
        → next_ask_number world ≡ number → world_after_cause statements q old (ClientAsks number ask) world ≡ made.world → (rsp : GuestRsp)
        → Contains (node_step (inputs.Guest number 0 ask) old.node).outputs.replies (number, rsp) → ⊥
    new_silent number q host old ask has there is made_so rsp replied =
        let once = replied-once (inputs.Guest number 0 ask) old.node number
        (λ req session asked from.
        let same : number ≡ req = cc (from) in
        ap (tree.get old.node.requests) (sym (is ∙ same)) ∙ new q old there) in
        let now : Host = host_after_step (ClientAsks number ask) old in
        let same : now ≡ host
        = same_Some now host (sym (ap (λ (world : World). host_at q world) (sym made_so) ∙ get-insert_same world.hosts q now) ∙ has.there) in
        let none : tree.get host.node.requests number ≡ None
        = ap (λ (host : Host). tree.get host.node.requests number) (sym same) ∙ once.gone rsp replied in
        let some = has.has in
        absurd (cc (none, some))

    waits_after : (q number : ℕ) (host : Host) → REQUESTS_MAX < number → HasRequestOf made.world number q host → host.is_lost ≡ false
        → Comes number q host → made.world.asked ≡ unanswered number
    waits_after q number host above has up (Was old had lives) =
        still_waits q number host old above has had (are.waits q number old above had (lives up)) kind
    waits_after q number host above has up (IsNew old ask there is made_so) =
        ap (λ (world : World). world.asked) (sym made_so)
        ∙ stays_unanswered number (node_step (inputs.Guest number 0 ask) old.node).outputs.replies
        (new_silent number q host old ask has there is made_so)

    clients_after : AreClients made.world
    clients_after = record {
      alone = λ n q number host other above has too.
          alone_after n q number host other above has too (comes number n host above has) (comes number q other above too);
      waits = λ n number host above has up. waits_after n number host above has up (comes number n host above has);
    }

  -- ---- at first

  opens_with_none : (number q : ℕ) (host : Host) → HasRequestOf (initial_world statements) number q host → ⊥
  unfolding initial_world
  opens_with_none number q host has =
      let (member, own, is) = opening_found statements q host has.there in
      requests_stay (λ (req : ℕ). ⊥) (inputs.LogEntry (format_entry statements)) (nodes.initial_node member.node (tries_of statements))
      (λ req session ask from. absurd (cc (from))) (none_are (λ (req : ℕ). ⊥)) number has.request
      (ap (λ (host : Host). tree.get host.node.requests number) is ∙ has.has)

  are_clients : (world : World) → Began statements world → AreClients world
  are_clients = by_induction statements AreClients (record {
    opens = record {
      alone = λ n q number host other above has too. absurd (opens_with_none number n host has);
      waits = λ n number host above has up. absurd (opens_with_none number n host has);
    };
    keeps = λ event world made began is are.
        clients_after event world made (goes_by_kind statements event world made is) (were_begun statements world began)
        (next_is_new statements script world began) are;
  })

  -- so it is in each world of a run
  pub clients_ask : (world : World) → Began statements world → ClientsAsk world
  clients_ask world began =
      let are = are_clients world began in
      record {
        served = serves_clients statements script world began;
        below = λ n number host has. below_next statements script world began n host has.there number has.request has.has;
        alone = are.alone;
        waits = are.waits;
      }
