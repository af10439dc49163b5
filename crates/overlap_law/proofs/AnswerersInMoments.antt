-- In each run in range, and in the middle of its steps, a member that a recovery doesn't wait for came to its epoch.
use Rattle.std.proofs.Common.{◌≡◌, ◌≢◌, ◌⊎◌, inl, inr, ⊎_elim, ℕ, ◌≤◌, ◌&&◌, not, Bool, true, false, List, Some, Contains, refl, sym, ap}
use Rattle.std.proofs.Common.{subst, ◌∙◌}
use Rattle.std.specs.FinMap as tree
use Rattle.std.proofs.lemmas.Bool.{cases_eq, eqb-true}
use Rattle.std.proofs.lemmas.Option.{same_Some}
use Rattle.proof_tools.proofs.FiniteMaps.{get-insert_same, get-insert_other, insert-insert}
use Rattle.proof_tools.proofs.Lists.{Contains-nil}
use Rattle.object_id.specs.declared.entry.Member.{Member}
use Rattle.object_id.specs.declared.node.NodeId.{NodeId}
use Rattle.object_list.specs.Gathered.{has_node, is_same_node}
use Rattle.object_list.proofs.GatheredLemmas.{has_node-filter}
use Rattle.cluster_script.specs.declared.statement.Statement.{Statement}
use Rattle.cluster_script.specs.Settings.{tries_of}
use Rattle.peer_proto.specs.declared.say.PeerRsp.{PeerRsp}
use Rattle.peer_service.specs.Serve.{tells_refusal}
use Rattle.recovery.specs.State as recoveries
use Rattle.recovery.specs.State.{Message, Recovery}
use Rattle.message_wire.specs.declared.packet.Packet.TheVariants.{Reply}
use Rattle.message_wire.specs.Message.{message_name}
use Rattle.sheep_node.specs.declared.input.Input.{Input}
use Rattle.sheep_node.specs.declared.input.Input.TheVariants as inputs
use Rattle.sheep_node.specs.State as nodes
use Rattle.sheep_node.specs.StepState.{StepState}
use Rattle.sheep_node.specs.LogReading.{entry_read}
use Rattle.sheep_node.specs.Changes as changes
use Rattle.sheep_node.proofs.StepEffects.{Untouched}
use Rattle.sheep_node.proofs.StepResults.{step_recovery}
use Rattle.sheep_world.specs.World.{Host}
use Rattle.sheep_world.specs.Opening.{format_entry, initial_member_node, initial_world}
use Rattle.sheep_world.specs.MembershipChanges.{lost_host}
use Rattle.sheep_world.specs.Step.{EventOutcome}
use Rattle.sheep_world.specs.NodeCauses.{NodeCause, GuestAsks, RequestComes, ReplyComes, LossIsTold, EntryIsRead, EntryIsPut, RecoveryTicks}
use Rattle.sheep_world.specs.NodeCauses.{WorkIsRetried, ClientAsks, input_of_cause, IsCause, host_with_node}
use Rattle.sheep_world.specs.EventKinds.{log_after_return}
use Rattle.sheep_world.specs.HostChanges.{host_after_return, joined_host}
use Rattle.sheep_world.specs.Began.{Began}
use Rattle.sheep_world.proofs.NodesByTheLog.{knows_its_number}
use Rattle.sheep_world.proofs.RecoveryMessages.{same_said}
use Rattle.sheep_world.proofs.WireAtOpening.{opening_found}
use Rattle.overlap_law.specs.Reached.{Hosts}
use Rattle.overlap_law.specs.Each.{has_reached}
use Rattle.overlap_law.specs.Packets.{IsAnswering}
use Rattle.overlap_law.specs.Past.{MomentWithPast, first_moment}
use Rattle.overlap_law.specs.StepMoments.{SteppingNode, IsStepping, first_in_step, last_in_step, moment_in_step}
use Rattle.overlap_law.specs.MomentChanges as moments
use Rattle.overlap_law.specs.MomentChanges.{MomentChange, RunsAreInRange, KeptByChanges}
use Rattle.overlap_law.specs.NodeEpochs.{AnswerersHaveCome}
use Rattle.overlap_law.proofs.AnswersInMoments.{MessagesAreTold, not_lost, change_told}
use Rattle.overlap_law.proofs.EpochsRise.{EpochsRise, epochs_rise}
use Rattle.overlap_law.proofs.KnownSteps.{together, known_step}
use Rattle.overlap_law.proofs.ListAnswers.{IsHeard, IsGoingOn, IsBegun, recovery_moves, back_begun}
use Rattle.overlap_law.proofs.ReadInMoments.{IsSoundHost, HostsAreSound, sound_hosts, hosts_after_sound}
use Rattle.overlap_law.proofs.SendsOfChanges.{in_order_so_far}
use Rattle.overlap_law.proofs.ToldBefore.{reached_by, still_reached, same_reached}

-- of one recovery, in a moment with these hosts
abbrev HaveCome : Hosts → Recovery → Type 0
HaveCome hosts recovery = (other : NodeId) → has_node other recovery.members ≡ true → has_node other recovery.lists.waiting ≡ false
    → has_reached hosts recovery.epoch other ≡ true

-- where one host is another, the recoveries of the others have come as before
one_answers : (before after : MomentWithPast) (k : ℕ) (new : Host) → EpochsRise before.world.hosts after.world.hosts
    → after.world.hosts ≡ tree.insert before.world.hosts k new → AnswerersHaveCome before.world.hosts
    → HaveCome after.world.hosts new.node.recovery
    → AnswerersHaveCome after.world.hosts
one_answers before after k new rises hosts holds own = record {
  each = λ n now there other member none. ⊎_elim
      (λ (is : n ≡ k).
      let at : tree.get after.world.hosts k ≡ Some new = ap (λ (held : Hosts). tree.get held k) hosts
      ∙ get-insert_same before.world.hosts k new in
      let same : new ≡ now = same_Some new now (sym at ∙ ap (tree.get after.world.hosts) (sym is) ∙ there) in
      subst (λ (h : Host). HaveCome after.world.hosts h.node.recovery) same own other member none)
      (λ (apart : n ≢ k).
      still_reached before.world.hosts after.world.hosts rises now.node.recovery.epoch other
      (holds.each n now (sym (ap (λ (held : Hosts). tree.get held n) hosts ∙ get-insert_other before.world.hosts k new n apart) ∙ there)
      other member none)) (cases_eq n k);
}

same_answers : (before after : MomentWithPast) → EpochsRise before.world.hosts after.world.hosts → after.world.hosts ≡ before.world.hosts
    → AnswerersHaveCome before.world.hosts → AnswerersHaveCome after.world.hosts
same_answers before after rises same holds = record {
  each = λ n now there other member none.
      still_reached before.world.hosts after.world.hosts rises now.node.recovery.epoch other
      (holds.each n now (ap (λ (held : Hosts). tree.get held n) (sym same) ∙ there) other member none);
}

-- a recovery that began waits for every other member
begun_answers : (hosts : Hosts) (n : ℕ) (host : Host) (me : NodeId) → tree.get hosts n ≡ Some host → me.0 ≡ n
    → host.node.recovery.epoch ≤ host.node.peer.epoch
    → IsBegun me host.node.recovery → HaveCome hosts host.node.recovery
begun_answers hosts n host me there own entered begun other member none =
    let waits : (has_node other host.node.recovery.members && not (is_same_node me other)) ≡ false
    = sym (has_node-filter (λ (q : NodeId). not (is_same_node me q)) other host.node.recovery.members)
    ∙ ap (has_node other) (sym begun.waiting) ∙ none in
    by_node (has_node other host.node.recovery.members) (is_same_node me other) refl member waits
  where
    by_node : (a b : Bool) → is_same_node me other ≡ b → a ≡ true → (a && not b) ≡ false
        → has_reached hosts host.node.recovery.epoch other ≡ true
    by_node true true same member waits =
        let is : other.0 ≡ n = eqb-true other.0 me.0 same ∙ own in
        reached_by hosts host.node.recovery.epoch other host (ap (tree.get hosts) is ∙ there) entered
    by_node true false same member waits = absurd (cc (waits))
    by_node false b same member waits = absurd (cc (member))

abbrev rsp_or : PeerRsp → Input → PeerRsp
rsp_or none (inputs.Reply rsp) = rsp
rsp_or none _ = none

module _ (script : List Statement) (range : RunsAreInRange script) (start : MomentWithPast) (began : Began script start.world) where
  -- ---- a step

  module _ (stepping : SteppingNode) (is : IsStepping script start.world stepping)
      (told : MessagesAreTold start.world.hosts start.world.wire) where
    abbrev hosts : Hosts
    hosts = start.world.hosts

    own_sound : IsSoundHost start.world.log stepping.n stepping.host
    own_sound = (sound_hosts script range start began).each stepping.n stepping.host is.there

    -- who was heard is in the recovery's epoch
    heard_reached : (cause : NodeCause) → IsCause script start.world stepping.n stepping.host cause → (other : NodeId)
        → IsHeard (input_of_cause cause) stepping.host.node.recovery.unanswered other
        → has_reached hosts stepping.host.node.recovery.epoch other ≡ true
    heard_reached (GuestAsks session req ask) so other heard = let from = heard.from in absurd (cc (from))
    heard_reached (RequestComes name to request) so other heard = let from = heard.from in absurd (cc (from))
    heard_reached (ReplyComes name from rsp) so other heard =
        let same : rsp ≡ heard.rsp = ap (rsp_or rsp) heard.from in
        let (said, says, spelled) = (together script range start.world began).wired.spelled name (Reply from so.bytes) so.there in
        let is_said : said ≡ rsp = same_said said rsp (sym says ∙ so.read) in
        let number : name.number ≡ heard.message.request.number
        = sym spelled ∙ ap (λ (r : PeerRsp). r.number) is_said ∙ ap (λ (r : PeerRsp). r.number) same ∙ sym heard.number in
        let name_so : name ≡ message_name stepping.n heard.message.request.number = λ i.
        record { sender = record { 0 = so.here i }; number = number i } in
        let answering : IsAnswering start.world.wire (message_name stepping.n heard.message.request.number) from rsp
        = record { bytes = so.bytes; there = ap (tree.get start.world.wire) (sym name_so) ∙ so.there; spelled = so.read } in
        let (own, reached) = told.told stepping.n stepping.host is.there
        (not_lost stepping.host (known_step script range start.world began stepping is).up)
        heard.message heard.there from rsp answering in
        let no : tells_refusal rsp.say ≡ false = ap (λ (r : PeerRsp). tells_refusal r.say) same ∙ ap tells_refusal heard.said in
        let epoch : heard.message.request.epoch.0 ≡ stepping.host.node.recovery.epoch
        = own_sound.sound.lists.asks_so.of_epoch heard.message heard.there in
        same_reached hosts stepping.host.node.recovery.epoch other from (heard.by ∙ ap (λ (q : NodeId). q.0) (sym own))
        (ap (λ (e : ℕ). has_reached hosts e from) (sym epoch) ∙ reached no)
    heard_reached (LossIsTold name packet) so other heard = let from = heard.from in absurd (cc (from))
    heard_reached (EntryIsRead entry) so other heard = let from = heard.from in absurd (cc (from))
    heard_reached (EntryIsPut entry) so other heard = let from = heard.from in absurd (cc (from))
    heard_reached RecoveryTicks so other heard = let from = heard.from in absurd (cc (from))
    heard_reached WorkIsRetried so other heard = let from = heard.from in absurd (cc (from))
    heard_reached (ClientAsks req ask) so other heard = let from = heard.from in absurd (cc (from))

    module _ (so_far : StepState) (same : so_far.node.recovery ≡ (first_in_step stepping).node.recovery)
        (rises : EpochsRise hosts (moment_in_step script stepping start so_far).world.hosts)
        (sound : HostsAreSound (moment_in_step script stepping start so_far)) (holds : AnswerersHaveCome hosts) where
      abbrev then : Hosts
      then = (moment_in_step script stepping start so_far).world.hosts

      abbrev now : Host
      now = host_with_node stepping.host so_far.node

      now_there : tree.get then stepping.n ≡ Some now
      now_there = get-insert_same start.world.hosts stepping.n now

      going_answers : IsGoingOn (input_of_cause stepping.cause) stepping.host.node so_far.node.recovery → HaveCome then so_far.node.recovery
      going_answers going other member none =
          let was_member : has_node other stepping.host.node.recovery.members ≡ true = ap (has_node other) (sym going.members) ∙ member in
          let before : has_reached hosts stepping.host.node.recovery.epoch other ≡ true = ⊎_elim
          (λ (old : has_node other stepping.host.node.recovery.lists.waiting ≡ false). holds.each stepping.n stepping.host is.there other
          was_member old) (λ (heard : IsHeard (input_of_cause stepping.cause) stepping.host.node.recovery.unanswered other). heard_reached
          stepping.cause is.caused other heard) (going.heard other none) in
          ap (λ (e : ℕ). has_reached then e other) going.epoch ∙ still_reached hosts then rises stepping.host.node.recovery.epoch other
          before

      anew_answers : (me : NodeId) → me.0 ≡ stepping.n → IsBegun me so_far.node.recovery → HaveCome then so_far.node.recovery
      anew_answers me own begun =
          begun_answers then stepping.n now me now_there own (sound.each stepping.n now now_there).sound.recovers.entered begun

      step_answers : HaveCome then so_far.node.recovery
      step_answers = by_moves (recovery_moves (input_of_cause stepping.cause) stepping.host.node)
        where
          by_moves : IsGoingOn (input_of_cause stepping.cause) stepping.host.node (first_in_step stepping).node.recovery
              ⊎ IsBegun stepping.host.node.recovery.me (first_in_step stepping).node.recovery
              ⊎ IsBegun stepping.host.node.me (first_in_step stepping).node.recovery
              → HaveCome then so_far.node.recovery
          by_moves (inl going) = going_answers (subst (IsGoingOn (input_of_cause stepping.cause) stepping.host.node) (sym same) going)
          by_moves (inr (inl begun)) =
              let own : stepping.host.node.recovery.me ≡ stepping.host.node.me
              = ((together script range start.world began).recoveries stepping.n stepping.host is.there).own in
              anew_answers stepping.host.node.recovery.me (ap (λ (q : NodeId). q.0) own ∙ own_sound.read.own)
              (subst (IsBegun stepping.host.node.recovery.me) (sym same) begun)
          by_moves (inr (inr begun)) =
              anew_answers stepping.host.node.me own_sound.read.own (subst (IsBegun stepping.host.node.me) (sym same) begun)

  -- ---- each change

  change_answered : {before after : MomentWithPast} → MomentChange script start before after
      → MessagesAreTold before.world.hosts before.world.wire
      → AnswerersHaveCome before.world.hosts → AnswerersHaveCome after.world.hosts
  change_answered {before} {after} (moments.StepBegins stepping is by) told holds =
      let change : MomentChange script start before after = moments.StepBegins stepping is by in
      let rises = epochs_rise script range start began change in
      one_answers start (moment_in_step script stepping start (first_in_step stepping)) stepping.n
      (host_with_node stepping.host (first_in_step stepping).node) rises refl holds
      (step_answers stepping is told (first_in_step stepping) refl rises (hosts_after_sound script range start began change) holds)
  change_answered (moments.StepGoesOn stepping so_far next is by within) told holds =
      let was = host_with_node stepping.host so_far.node in
      let now = host_with_node stepping.host next.node in
      let before = moment_in_step script stepping start so_far in
      let after = moment_in_step script stepping start next in
      let rises = epochs_rise script range start began (moments.StepGoesOn stepping so_far next is by within) in
      let same : so_far.node.recovery ≡ next.node.recovery
      = ap (λ (u : Untouched). u.recovery) ((in_order_so_far so_far within.leads).same
      ∙ sym (in_order_so_far next (changes.Then within.leads within.change)).same) in
      one_answers before after stepping.n now rises (sym (insert-insert start.world.hosts stepping.n was now)) holds
      (λ other member none. still_reached before.world.hosts after.world.hosts rises next.node.recovery.epoch other
      (subst (HaveCome before.world.hosts) same (holds.each stepping.n was (get-insert_same start.world.hosts stepping.n was)) other member
      none))
  change_answered {before} {after} (moments.StepIsMade stepping is by) told holds =
      let change : MomentChange script start before after = moments.StepIsMade stepping is by in
      let rises = epochs_rise script range start began change in
      one_answers start (moment_in_step script stepping start (last_in_step stepping)) stepping.n
      (host_with_node stepping.host (last_in_step stepping).node) rises refl holds
      (step_answers stepping is told (last_in_step stepping) (step_recovery (input_of_cause stepping.cause) stepping.host.node) rises
      (hosts_after_sound script range start began change) holds)
  change_answered {before} {after} (moments.LossIsUntold event made happened h) told holds =
      same_answers before after (epochs_rise script range start began (moments.LossIsUntold event made happened h))
      (ap (λ (m : EventOutcome). m.world.hosts) (sym h.made_so)) holds
  change_answered {before} {after} (moments.DeliveryIsUnread event made happened h) told holds =
      same_answers before after (epochs_rise script range start began (moments.DeliveryIsUnread event made happened h))
      (ap (λ (m : EventOutcome). m.world.hosts) (sym h.made_so)) holds
  change_answered {before} {after} (moments.NodeIsLost event made happened h) told holds =
      let rises = epochs_rise script range start began (moments.NodeIsLost event made happened h) in
      one_answers before after h.n (lost_host h.host) rises (ap (λ (m : EventOutcome). m.world.hosts) (sym h.made_so)) holds
      (λ other member none. still_reached before.world.hosts after.world.hosts rises h.host.node.recovery.epoch other
      (holds.each h.n h.host h.there other member none))
  change_answered {before} {after} (moments.NodeLeaves event made happened h) told holds =
      same_answers before after (epochs_rise script range start began (moments.NodeLeaves event made happened h))
      (ap (λ (m : EventOutcome). m.world.hosts) (sym h.made_so)) holds
  change_answered {before} {after} (moments.NodeIsReweighted event made happened h) told holds =
      same_answers before after (epochs_rise script range start began (moments.NodeIsReweighted event made happened h))
      (ap (λ (m : EventOutcome). m.world.hosts) (sym h.made_so)) holds
  change_answered {before} {after} (moments.NodeJoins event made happened h) told holds =
      one_answers before after h.n (joined_host script h.n) (epochs_rise script range start began (moments.NodeJoins event made happened h))
      (ap (λ (m : EventOutcome). m.world.hosts) (sym h.made_so)) holds (λ other member none. absurd (cc (member)))
  change_answered {before} {after} (moments.NodeComesBack event made happened h) told holds =
      let change : MomentChange script start before after = moments.NodeComesBack event made happened h in
      let log = log_after_return script h.n start.world in
      let now = host_after_return log h.host in
      let hosts_so : after.world.hosts ≡ tree.insert before.world.hosts h.n now = ap (λ (m : EventOutcome). m.world.hosts)
      (sym h.made_so) in
      let there : tree.get after.world.hosts h.n ≡ Some now = ap (λ (held : Hosts). tree.get held h.n) hosts_so
      ∙ get-insert_same before.world.hosts h.n now in
      let begun : IsBegun h.host.node.me now.node.recovery
      = subst (IsBegun h.host.node.me) (sym (step_recovery (inputs.Back log) h.host.node)) (back_begun log h.host.node) in
      one_answers before after h.n now (epochs_rise script range start began change) hosts_so holds
      (begun_answers after.world.hosts h.n now h.host.node.me there (knows_its_number script start.world began h.n h.host h.there)
      ((hosts_after_sound script range start began change).each h.n now there).sound.recovers.entered begun)
  change_answered {before} {after} (moments.PhaseEnds event made happened h) told holds =
      same_answers before after (epochs_rise script range start began (moments.PhaseEnds event made happened h))
      (ap (λ (m : EventOutcome). m.world.hosts) (sym h.made_so)) holds

-- ---- every moment

-- the messages of recoveries are told, and who answered came
pub record AnswersHold (moment : MomentWithPast) : Type 0 where
  pub told : MessagesAreTold moment.world.hosts moment.world.wire
  pub answered : AnswerersHaveCome moment.world.hosts

-- an opening member has recovered nothing yet
member_recovery : (script : List Statement) (member : Member)
    → (initial_member_node script member).recovery ≡ recoveries.initial_recovery member.node
unfolding entry_read
member_recovery script member = step_recovery (inputs.LogEntry (format_entry script)) (nodes.initial_node member.node (tries_of script))

pub opening_recovery : (script : List Statement) (n : ℕ) (host : Host) → tree.get (first_moment script).world.hosts n ≡ Some host
    → (member : Member) × (host.node.recovery ≡ recoveries.initial_recovery member.node)
unfolding initial_world
opening_recovery script n host there =
    let (member, own, is) = opening_found script n host there in
    (member, ap (λ (h : Host). h.node.recovery) (sym is) ∙ member_recovery script member)

opening_answers : (script : List Statement) → AnswersHold (first_moment script)
opening_answers script = record {
  told = record {
    given = λ n host there up message among. absurd (nothing n host there message among);
    asked = λ n host there up message among. absurd (nothing n host there message among);
    told = λ n host there up message among. absurd (nothing n host there message among);
  };
  answered = record {
    each = λ n host there other member none.
        let (opened, is) = opening_recovery script n host there in
        let no : has_node other host.node.recovery.members ≡ false = ap (λ (r : Recovery). has_node other r.members) is in
        absurd (cc (no, member));
  };
}
  where
    nothing : (n : ℕ) (host : Host) → tree.get (first_moment script).world.hosts n ≡ Some host → (message : Message)
        → Contains host.node.recovery.unanswered message → ⊥
    nothing n host there message among =
        let (opened, is) = opening_recovery script n host there in
        Contains-nil message (subst (λ (r : Recovery). Contains r.unanswered message) is among)

pub kept_answers : (script : List Statement) → RunsAreInRange script → KeptByChanges script AnswersHold
kept_answers script range = record {
  opens = opening_answers script;
  keeps = λ start before after began change holds. record {
    told = change_told script range start began change holds.told;
    answered = change_answered script range start began change holds.told holds.answered;
  };
}
