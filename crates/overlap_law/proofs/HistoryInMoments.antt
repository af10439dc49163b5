-- What each change of a moment adds to the history: a node's step adds as it begins, and whenever it replies to a guest.
use Rattle.std.proofs.Common.{◌≡◌, ℕ, Contains, Bool, true, false, cond, List, [], ◌∷◌, ◌++◌, append_assoc, append-nil, Option, Some, None}
use Rattle.std.proofs.Common.{refl, sym, ap, subst, ◌∙◌}
use Rattle.std.specs.Prelude.{flat_map, nat_lt}
use Rattle.std.specs.List.{list_all}
use Rattle.std.specs.Option.{option_map_or, option_and_then}
use Rattle.std.proofs.lemmas.List.Elements.{Contains-append_right}
use Rattle.proof_tools.proofs.Booleans.{cond_either}
use Rattle.proof_tools.proofs.Lists.{Contains-head}
use Rattle.object_id.specs.declared.entry.Entry.{Entry}
use Rattle.cluster_script.specs.declared.statement.Statement.{Statement}
use Rattle.disk_history.specs.declared.event.HistEvent.{HistEvent}
use Rattle.peer_proto.specs.declared.ask.PeerReq.{PeerReq}
use Rattle.peer_proto.specs.declared.guest.GuestRsp.{GuestRsp}
use Rattle.sheep_node.specs.declared.check_write.CheckWrite.{CheckWrite}
use Rattle.sheep_node.specs.declared.event.Event.{Event}
use Rattle.sheep_node.specs.declared.input.Input.TheVariants as inputs
use Rattle.sheep_node.specs.CheckWrites.{check_write_on}
use Rattle.sheep_node.specs.State.{Node}
use Rattle.sheep_node.specs.StepState.{StepState, at_first, replies_in_order}
use Rattle.sheep_node.specs.Step.{is_due, with_recovered, on_input, recovered_put, node_step}
use Rattle.sheep_node.specs.Changes.{input_received}
use Rattle.sheep_world.specs.World.{Host, host_at, is_host_up, node_at}
use Rattle.vdi_directory.specs.declared.decision.Decision.{Decision}
use Rattle.vdi_directory.specs.declared.decision.Decision.TheVariants as decisions
use Rattle.vdi_directory.specs.Decisions.{decision_after}
use Rattle.cluster_script.specs.Settings.{vnodes_of}
use Rattle.object_id.specs.declared.entry.Entry.TheVariants as entries
use Rattle.object_id.specs.declared.oid.Vid.{Vid}
use Rattle.sheep_world.specs.MembershipChanges.{join_of, last_weight}
use Rattle.sheep_world.specs.Granted.{granted_adds, decided_adds, entry_adds}
use Rattle.overlap_law.proofs.LogsOfMoments.{log_by_changes}
use Rattle.overlap_law.proofs.KnownSteps.{known_step}
use Rattle.overlap_law.proofs.RepliesApart.{apart_so_far}
use Rattle.sheep_world.specs.Began.{Began}
use Rattle.sheep_world.specs.HistoryAdditions.{check_write_grown, reply_grown, writers_lost}
use Rattle.sheep_world.specs.Step.{EventOutcome}
use Rattle.sheep_world.specs.NodeCauses.{NodeCause, GuestAsks, RequestComes, ReplyComes, LossIsTold, EntryIsRead, EntryIsPut, RecoveryTicks}
use Rattle.sheep_world.specs.NodeCauses.{WorkIsRetried, ClientAsks, input_of_cause, history_of_cause, log_after_cause}
use Rattle.overlap_law.specs.HistoryGrowth.{added_at_cause, added_by_reply, HistoryGrows, NothingIsAdded, WritesBegin, RequestIsReplied}
use Rattle.overlap_law.specs.HistoryGrowth.{EntryAdds, WritersAreLost}
use Rattle.overlap_law.specs.MomentChanges as moments
use Rattle.overlap_law.specs.MomentChanges.{MomentChange, RunsAreInRange}
use Rattle.overlap_law.specs.Past.{MomentWithPast, past_after_event, moment_after}
use Rattle.overlap_law.specs.StayingBlocks.{are_apart}
use Rattle.overlap_law.specs.StepMoments.{SteppingNode, IsStepping, IsWithinStep, StepsByChanges, StepsAtOnce, first_in_step, last_in_step}
use Rattle.overlap_law.specs.StepMoments.{world_in_step, moment_in_step}
use Rattle.overlap_law.proofs.RequestsInSteps.{received_replies}
use Rattle.overlap_law.proofs.RepliesOfChanges.{IsFree, RepliesGrow, Silent, Replied, RepliesIn, change_replies}
use Rattle.overlap_law.proofs.RepliesOfTwo.{replies_apart, behind_free}

-- ---- steps that are made at once

recovered_silent : (so_far : StepState) → (recovered_put so_far).outputs.replies ≡ so_far.outputs.replies
unfolding recovered_put
recovered_silent so_far =
    cond_either (λ (next : StepState). next.outputs.replies ≡ so_far.outputs.replies) (is_due so_far.node)
    (with_recovered so_far) so_far refl refl

pub request_silent : (request : PeerReq) (node : Node) → (node_step (inputs.Request request) node).outputs.replies ≡ []
unfolding node_step on_input
request_silent request node =
    recovered_silent (input_received (inputs.Request request) (at_first node)) ∙ received_replies (inputs.Request request) node

pub tick_silent : (node : Node) → (node_step inputs.RecoverTick node).outputs.replies ≡ []
unfolding node_step on_input
tick_silent node = recovered_silent (input_received inputs.RecoverTick (at_first node)) ∙ received_replies inputs.RecoverTick node

pub no_write : (request : PeerReq) (o : Option Node) → option_and_then (check_write_on (inputs.Request request)) o ≡ None
unfolding check_write_on
no_write request None = refl
no_write request (Some node) = refl

-- ---- what is told of replies

module _ {X Y : Type 0} where
  flat_one : (make : X → List Y) (front back : List X) (x : X)
      → flat_map make (front ++ x ∷ back) ≡ flat_map make front ++ (make x ++ flat_map make back)
  flat_one make [] back x = refl
  flat_one make (y ∷ front) back x =
      ap (λ (rest : List Y). make y ++ rest) (flat_one make front back x)
      ∙ sym (append_assoc (make y) (flat_map make front) (make x ++ flat_map make back))

  flat_joined : (make : X → List Y) (front back : List X) → flat_map make (front ++ back) ≡ flat_map make front ++ flat_map make back
  flat_joined make [] back = refl
  flat_joined make (y ∷ front) back =
      ap (λ (rest : List Y). make y ++ rest) (flat_joined make front back)
      ∙ sym (append_assoc (make y) (flat_map make front) (flat_map make back))

-- a reply is put among others
record IsPutAmong (reply : ℕ × GuestRsp) (replies : List (ℕ × GuestRsp)) : Type 0 where
  pub front : List (ℕ × GuestRsp)
  pub back : List (ℕ × GuestRsp)
  pub were : replies ≡ front ++ back
  pub now : replies_in_order reply replies ≡ front ++ reply ∷ back

put_among : (reply : ℕ × GuestRsp) (replies : List (ℕ × GuestRsp)) → IsPutAmong reply replies
put_among reply [] = record { front = []; back = []; were = refl; now = refl }
put_among reply (first ∷ later) = by_test (nat_lt reply.0 first.0) refl (put_among reply later)
  where
    by_test : (b : Bool) → nat_lt reply.0 first.0 ≡ b → IsPutAmong reply later → IsPutAmong reply (first ∷ later)
    by_test true is rest = record {
      front = [];
      back = first ∷ later;
      were = refl;
      now = ap (λ (b : Bool). cond b (reply ∷ first ∷ later) (first ∷ replies_in_order reply later)) is;
    }
    by_test false is rest = record {
      front = first ∷ rest.front;
      back = rest.back;
      were = ap (λ (list : List (ℕ × GuestRsp)). first ∷ list) rest.were;
      now = ap (λ (b : Bool). cond b (reply ∷ first ∷ later) (first ∷ replies_in_order reply later)) is
          ∙ ap (λ (list : List (ℕ × GuestRsp)). first ∷ list) rest.now;
    }

-- ---- what entries of members add

module _ (log : List Entry) (entry : Entry) (none : (vid : Vid) → granted_adds log vid entry ≡ []) where
  adds_none : entry_adds log entry ≡ []
  unfolding entry_adds
  adds_none = by_decision (decision_after log entry)
    where
      by_decision : (decision : Decision) → decided_adds log entry decision ≡ []
      by_decision decisions.None = refl
      by_decision (decisions.Granted vid) = none vid
      by_decision (decisions.Refused cause) = refl

-- ---- each change

module _ (script : List Statement) (range : RunsAreInRange script) (start : MomentWithPast) (began : Began script start.world) where
  module _ (stepping : SteppingNode) where
    abbrev pub at : StepState → MomentWithPast
    at so_far = moment_in_step script stepping start so_far

    abbrev pub base : List HistEvent
    base = start.past.history ++ added_at_cause script start.world stepping.cause

    abbrev pub told : List (ℕ × GuestRsp) → List HistEvent
    told replies = flat_map (added_by_reply script start.world stepping.cause) replies

    -- the history so far
    pub by_cause : (cause : NodeCause) → StepsByChanges cause → (so_far : StepState)
        → history_of_cause script cause start.world
        (world_in_step script (record { n = stepping.n; host = stepping.host; cause = cause }) start.world so_far)
        ≡ added_at_cause script start.world cause ++ flat_map (added_by_reply script start.world cause) so_far.outputs.replies
    by_cause (GuestAsks session req ask) by so_far = refl
    by_cause (RequestComes name to request) by so_far = absurd by
    by_cause (ReplyComes name from rsp) by so_far = refl
    by_cause (LossIsTold name packet) by so_far = refl
    by_cause (EntryIsRead entry) by so_far = refl
    by_cause (EntryIsPut entry) by so_far = absurd by
    by_cause RecoveryTicks by so_far = absurd by
    by_cause WorkIsRetried by so_far = refl
    by_cause (ClientAsks req ask) by so_far = refl

    pub history_so : StepsByChanges stepping.cause → (so_far : StepState) → (at so_far).past.history ≡ base ++ told so_far.outputs.replies
    unfolding past_after_event
    history_so by so_far =
        ap (λ (events : List HistEvent). start.past.history ++ events) (by_cause stepping.cause by so_far)
        ∙ sym (append_assoc start.past.history (added_at_cause script start.world stepping.cause) (told so_far.outputs.replies))

    -- a reply of the step, to a request that had none in it, stands among what it adds
    pub record IsTold (so_far next : StepState) (reply : ℕ × GuestRsp) : Type 0 where
      pub free : IsFree reply.0 so_far.outputs.replies
      pub among : Contains next.outputs.replies reply
      pub front : List HistEvent
      pub back : List HistEvent
      pub were : (at so_far).past.history ≡ front ++ back
      pub now : (at next).past.history ≡ front ++ added_by_reply script start.world stepping.cause reply ++ back
      pub apart : list_all (λ (one : HistEvent). list_all (are_apart one) back) (added_by_reply script start.world stepping.cause reply)
          ≡ true

    pub is_told : StepsByChanges stepping.cause → (so_far next : StepState) (reply : ℕ × GuestRsp) → IsFree reply.0 so_far.outputs.replies
        → next.outputs.replies ≡ replies_in_order reply so_far.outputs.replies → IsTold so_far next reply
    is_told by so_far next reply free grown =
        let put = put_among reply so_far.outputs.replies in
        record {
          free = free;
          among = subst (λ (list : List (ℕ × GuestRsp)). Contains list reply) (sym (grown ∙ put.now))
              (Contains-append_right put.front (reply ∷ put.back) reply (Contains-head reply put.back));
          front = base ++ told put.front;
          back = told put.back;
          were = history_so by so_far ∙ ap (λ (list : List (ℕ × GuestRsp)). base ++ told list) put.were
              ∙ ap (λ (events : List HistEvent). base ++ events)
              (flat_joined (added_by_reply script start.world stepping.cause) put.front put.back)
              ∙ sym (append_assoc base (told put.front) (told put.back));
          now = history_so by next ∙ ap (λ (list : List (ℕ × GuestRsp)). base ++ told list) (grown ∙ put.now)
              ∙ ap (λ (events : List HistEvent). base ++ events)
              (flat_one (added_by_reply script start.world stepping.cause) put.front put.back reply)
              ∙ sym (append_assoc base (told put.front) (added_by_reply script start.world stepping.cause reply ++ told put.back))
              ∙ sym (append_assoc (base ++ told put.front) (added_by_reply script start.world stepping.cause reply) (told put.back));
          apart = replies_apart script start.world stepping.cause reply put.back
              (behind_free reply.0 put.front put.back so_far.outputs.replies put.were free);
        }

  -- what has to be shown of two moments, by what the history gets between them, so that it holds of each change
  pub record GrowthRules (P : MomentWithPast → MomentWithPast → Type 0) : Type 0 where
    pub still : (before after : MomentWithPast) → after.world.log ≡ start.world.log → after.past.history ≡ before.past.history
        → P before after
    pub begins : (cause : NodeCause) (after : MomentWithPast) → after.world.log ≡ start.world.log
        → after.past.history ≡ start.past.history ++ added_at_cause script start.world cause → P start after
    pub replies : (stepping : SteppingNode) (is : IsStepping script start.world stepping) → StepsByChanges stepping.cause
        → (so_far next : StepState) (within : IsWithinStep stepping so_far next) (reply : ℕ × GuestRsp)
        → IsTold stepping so_far next reply → (at stepping next).world.log ≡ start.world.log → P (at stepping so_far) (at stepping next)
    pub adds : (entry : Entry) (after : MomentWithPast) → after.world.log ≡ start.world.log ++ entry ∷ []
        → after.past.history ≡ start.past.history ++ entry_adds start.world.log entry → P start after
    pub loses : (n : ℕ) (host : Host) → host_at n start.world ≡ Some host → is_host_up host ≡ true → (after : MomentWithPast)
        → after.world.log ≡ start.world.log → after.past.history ≡ start.past.history ++ writers_lost script start.world n (Some host)
        → P start after

  module _ (P : MomentWithPast → MomentWithPast → Type 0) (rules : GrowthRules P) where
    begins_so : (stepping : SteppingNode) → StepsByChanges stepping.cause → P start (at stepping (first_in_step stepping))
    begins_so stepping by =
        rules.begins stepping.cause (at stepping (first_in_step stepping)) (log_by_changes stepping.cause by start.world.log)
        (history_so stepping by (first_in_step stepping)
        ∙ ap (λ (replies : List (ℕ × GuestRsp)). base stepping ++ told stepping replies)
        (received_replies (input_of_cause stepping.cause) stepping.host.node)
        ∙ append-nil (base stepping))

    goes_on : (stepping : SteppingNode) → IsStepping script start.world stepping → StepsByChanges stepping.cause
        → (so_far next : StepState) → IsWithinStep stepping so_far next → RepliesIn so_far next
        → P (at stepping so_far) (at stepping next)
    goes_on stepping is by so_far next within grows = by_replies so_far.outputs.replies next.outputs.replies refl refl grows
      where
        by_replies : (replies later : List (ℕ × GuestRsp)) → so_far.outputs.replies ≡ replies → next.outputs.replies ≡ later
            → RepliesGrow replies later → P (at stepping so_far) (at stepping next)
        by_replies replies later were now Silent =
            rules.still (at stepping so_far) (at stepping next) (log_by_changes stepping.cause by start.world.log)
            (history_so stepping by next
            ∙ ap (λ (list : List (ℕ × GuestRsp)). base stepping ++ told stepping list) (now ∙ sym were)
            ∙ sym (history_so stepping by so_far))
        by_replies replies later were now (Replied reply free) =
            rules.replies stepping is by so_far next within reply
            (is_told stepping by so_far next reply (subst (IsFree reply.0) (sym were) free) (now ∙ ap (replies_in_order reply) (sym were)))
            (log_by_changes stepping.cause by start.world.log)

    -- a step that is made at once adds what its entry does
    made_by : (cause : NodeCause) → StepsAtOnce cause → (n : ℕ) (host : Host) (after : MomentWithPast)
        → after.world.log ≡ log_after_cause cause start.world.log
        → after.past.history ≡ start.past.history ++ history_of_cause script cause start.world
        (world_in_step script (record { n = n; host = host; cause = cause }) start.world (node_step (input_of_cause cause) host.node))
        → P start after
    made_by (GuestAsks session req ask) by n host after same so = absurd by
    made_by (RequestComes name to request) by n host after same so =
        rules.still start after same
        (so ∙ ap (λ (write : Option CheckWrite). start.past.history
        ++ (option_map_or (check_write_grown script) write []
        ++ flat_map (reply_grown script start.world write) (node_step (inputs.Request request) host.node).outputs.replies))
        (no_write request (node_at name.sender.0 start.world))
        ∙ ap (λ (replies : List (ℕ × GuestRsp)). start.past.history ++ flat_map (reply_grown script start.world None) replies)
        (request_silent request host.node)
        ∙ append-nil start.past.history)
    made_by (ReplyComes name from rsp) by n host after same so = absurd by
    made_by (LossIsTold name packet) by n host after same so = absurd by
    made_by (EntryIsRead entry) by n host after same so = absurd by
    made_by (EntryIsPut entry) by n host after same so = rules.adds entry after same so
    made_by RecoveryTicks by n host after same so =
        rules.still start after same
        (so ∙ ap (λ (replies : List (ℕ × GuestRsp)). start.past.history ++ flat_map (reply_grown script start.world None) replies)
        (tick_silent host.node)
        ∙ append-nil start.past.history)
    made_by WorkIsRetried by n host after same so = absurd by
    made_by (ClientAsks req ask) by n host after same so = absurd by

    made_at_once : (stepping : SteppingNode) → StepsAtOnce stepping.cause → P start (at stepping (last_in_step stepping))
    unfolding past_after_event
    made_at_once stepping by = made_by stepping.cause by stepping.n stepping.host (at stepping (last_in_step stepping)) refl refl

    -- an event at which no node steps
    by_event : (event : Event) (made : EventOutcome) (grown : List HistEvent) → made.grown ≡ grown
        → (moment_after script event start made).past.history ≡ start.past.history ++ grown
    unfolding past_after_event
    by_event event made grown so = ap (λ (events : List HistEvent). start.past.history ++ events) so

    adds_nothing : (event : Event) (made : EventOutcome) → made.grown ≡ [] → made.world.log ≡ start.world.log
        → P start (moment_after script event start made)
    adds_nothing event made none same =
        rules.still start (moment_after script event start made) same (by_event event made [] none ∙ append-nil start.past.history)

    adds_entry : (event : Event) (made : EventOutcome) (entry : Entry) → ((vid : Vid) → granted_adds start.world.log vid entry ≡ [])
        → made.grown ≡ [] → made.world.log ≡ start.world.log ++ entry ∷ []
        → P start (moment_after script event start made)
    adds_entry event made entry silent none longer =
        rules.adds entry (moment_after script event start made) longer
        (by_event event made [] none
        ∙ ap (λ (events : List HistEvent). start.past.history ++ events) (sym (adds_none start.world.log entry silent)))

    abbrev grown_of : EventOutcome → List HistEvent
    grown_of made = made.grown

    abbrev log_of : EventOutcome → List Entry
    log_of made = made.world.log

    join_silent : (n vnodes : ℕ) (vid : Vid) → granted_adds start.world.log vid (join_of script n vnodes) ≡ []
    join_silent n vnodes vid = refl

    pub by_rules : {before after : MomentWithPast} → MomentChange script start before after → P before after
    by_rules (moments.StepBegins stepping is by) = begins_so stepping by
    by_rules (moments.StepGoesOn stepping so_far next is by within) =
        goes_on stepping is by so_far next within
        (change_replies (input_of_cause stepping.cause) stepping.host.node so_far next within.change
        (apart_so_far (input_of_cause stepping.cause) stepping.host.node
        (known_step script range start.world began stepping is).sound within.leads))
    by_rules (moments.StepIsMade stepping is by) = made_at_once stepping by
    by_rules (moments.LossIsUntold event made happened h) =
        adds_nothing event made (ap grown_of (sym h.made_so)) (ap log_of (sym h.made_so))
    by_rules (moments.DeliveryIsUnread event made happened h) =
        adds_nothing event made (ap grown_of (sym h.made_so)) (ap log_of (sym h.made_so))
    by_rules (moments.NodeIsLost event made happened h) =
        rules.loses h.n h.host h.there h.up (moment_after script event start made) (ap log_of (sym h.made_so))
        (by_event event made (writers_lost script start.world h.n (Some h.host)) (ap grown_of (sym h.made_so)))
    by_rules (moments.NodeLeaves event made happened h) =
        adds_entry event made (entries.Leave (record { 0 = h.n })) (λ vid. refl) (ap grown_of (sym h.made_so)) (ap log_of (sym h.made_so))
    by_rules (moments.NodeIsReweighted event made happened h) =
        adds_entry event made (entries.Reweight (record { 0 = h.n }) h.vnodes) (λ vid. refl) (ap grown_of (sym h.made_so))
        (ap log_of (sym h.made_so))
    by_rules (moments.NodeJoins event made happened h) =
        adds_entry event made (join_of script h.n (vnodes_of script)) (join_silent h.n (vnodes_of script)) (ap grown_of (sym h.made_so))
        (ap log_of (sym h.made_so))
    by_rules (moments.NodeComesBack event made happened h) =
        adds_entry event made (join_of script h.n (last_weight start.world.log h.n)) (join_silent h.n (last_weight start.world.log h.n))
        (ap grown_of (sym h.made_so)) (ap log_of (sym h.made_so))
    by_rules (moments.PhaseEnds event made happened h) =
        adds_nothing event made (ap grown_of (sym h.made_so)) (ap log_of (sym h.made_so))

  -- ---- so the history grows in one of five kinds

  abbrev Grows : MomentWithPast → MomentWithPast → Type 0
  Grows before after = HistoryGrows script start.world after.world.log before.past.history after.past.history

  -- where it is this one behind the change
  as_now : (before after : MomentWithPast) (later : List HistEvent) → after.past.history ≡ later
      → HistoryGrows script start.world after.world.log before.past.history later → Grows before after
  as_now before after later so grows = subst (HistoryGrows script start.world after.world.log before.past.history) (sym so) grows

  kinds_of_growth : GrowthRules Grows
  kinds_of_growth = record {
    still = λ before after same so. as_now before after before.past.history so (NothingIsAdded same);
    begins = λ cause after same so.
        as_now start after (start.past.history ++ added_at_cause script start.world cause) so (WritesBegin cause same);
    replies = λ stepping is by so_far next within reply told same.
        as_now (at stepping so_far) (at stepping next)
        (told.front ++ added_by_reply script start.world stepping.cause reply ++ told.back) told.now
        (RequestIsReplied stepping.cause reply told.front told.back same told.were told.apart);
    adds = λ entry after longer so.
        as_now start after (start.past.history ++ entry_adds start.world.log entry) so (EntryAdds entry longer);
    loses = λ n host there up after same so.
        as_now start after (start.past.history ++ writers_lost script start.world n (Some host)) so (WritersAreLost n host same);
  }

  pub history_grows : {before after : MomentWithPast} → MomentChange script start before after → Grows before after
  history_grows change = by_rules Grows kinds_of_growth change
