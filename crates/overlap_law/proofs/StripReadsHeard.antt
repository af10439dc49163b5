-- What an open read was given of a good object has what its teller owed, over each change: what was heard before stays so, and what is
-- heard now was told so, by what was good as the event began.
use Rattle.std.proofs.Common.{◌≡◌, ◌≢◌, ◌⊎◌, inl, inr, ⊎_elim, ℕ, zero, suc, ◌≤◌, ◌==◌, Bool, true, false, List, [], ◌∷◌, length, None}
use Rattle.std.proofs.Common.{Some}
use Rattle.std.proofs.Common.{slice_get, refl, sym, ap, subst, ◌∙◌}
use Rattle.std.specs.FinMap as tree
use Rattle.std.specs.List.{list_any}
use Rattle.std.specs.Ordering.{nat_cmp}
use Rattle.std.proofs.lemmas.Bool.{both_ways, eq-eqb}
use Rattle.std.proofs.lemmas.Option.{same_Some}
use Rattle.proof_tools.proofs.FiniteMaps.{get-insert_cases, get-insert_other, get-insert_same}
use Rattle.object_id.specs.declared.node.Epoch.{Epoch}
use Rattle.object_id.specs.declared.node.NodeId.{NodeId}
use Rattle.object_id.specs.declared.policy.Policy.{Policy}
use Rattle.object_id.specs.declared.entry.Entry.{Entry}
use Rattle.cluster_script.specs.declared.statement.Statement.{Statement}
use Rattle.vdi_directory.specs.Decisions.{log_effects}
use Rattle.peer_proto.specs.declared.say.PeerRsp.{PeerRsp}
use Rattle.peer_proto.specs.declared.work.ObjWork.{ObjWork}
use Rattle.peer_proto.specs.Work.{oid_of, policy_of}
use Rattle.gateway.specs.declared.message.Message.{Message}
use Rattle.gateway.specs.declared.message.Status.{Status}
use Rattle.gateway.specs.declared.message.Status.TheVariants as statuses
use Rattle.gateway.specs.Attempt as gateways
use Rattle.gateway.specs.Attempt.{is_awaited_message}
use Rattle.gateway.specs.Messages.{AreMessagesFor, HasNoNumber, NumbersDiffer}
use Rattle.gateway.specs.State.{Gateway, Work, Open}
use Rattle.gateway.specs.Work.{is_making}
use Rattle.sheep_node.specs.declared.course.Request.{Request}
use Rattle.sheep_node.specs.Changes.{IsTold}
use Rattle.sheep_node.specs.SoundWorks.{HasMessagesFor}
use Rattle.sheep_node.specs.StepState.{StepState}
use Rattle.sheep_node.proofs.NumberChanges.{both_in_chain}
use Rattle.sheep_world.specs.Began.{Began}
use Rattle.sheep_world.specs.NodeCauses.{host_with_node, input_of_cause}
use Rattle.sheep_world.specs.World.{Host}
use Rattle.sheep_world.specs.RunsWithAsks.{Move}
use Rattle.overlap_law.specs.Each.{policy_in}
use Rattle.overlap_law.specs.MomentChanges.{MomentChange, MomentTrail, Then, RunsAreInRange}
use Rattle.overlap_law.specs.Past.{MomentWithPast, run_with_past}
use Rattle.overlap_law.specs.StepMoments.{SteppingNode, IsStepping, StepsByChanges, LeadsInStep, IsWithinStep, first_in_step}
use Rattle.overlap_law.specs.StepMoments.{moment_in_step}
use Rattle.overlap_law.specs.StripReadsGiven.{HasGiven}
use Rattle.overlap_law.specs.ToldPieces.{IsUnansweredOf, offset_read, ToldPiecesAreSince}
use Rattle.overlap_law.proofs.AnswersInMoments.{not_lost}
use Rattle.overlap_law.proofs.ClientsInMoments.{own_before}
use Rattle.overlap_law.proofs.DoneReads.{awaited_at}
use Rattle.overlap_law.proofs.GuestsInMoments.{GuestsChange, GuestsStay, GuestsAreNone, IsGoingOn, IsBetween, between}
use Rattle.overlap_law.proofs.HeardPieces.{heard_piece}
use Rattle.overlap_law.proofs.KnownSteps.{known_step}
use Rattle.overlap_law.proofs.LogsGrow.{logs_grow}
use Rattle.overlap_law.proofs.LogsOfMoments.{log_by_changes}
use Rattle.overlap_law.proofs.MessagesInSteps.{BeginsNow, IsMessageOf, WasMessageOf, change_messages}
use Rattle.overlap_law.proofs.NoRecoveredDue.{began-with_past}
use Rattle.overlap_law.proofs.OpeningReads.{told_reply}
use Rattle.overlap_law.proofs.PendingOfNodes.{policy_stays}
use Rattle.overlap_law.proofs.TablesOfReads.{reading_along}
use Rattle.overlap_law.proofs.TellersOfPieces.{IsToldBy, teller_stays}
use Rattle.overlap_law.proofs.ToldPiecesSince.{IsWorkSince}
use Rattle.overlap_law.proofs.ToldPiecesStay.{WasOpenAt, since-piece_stays}
use Rattle.overlap_law.proofs.WorksInMoments.{well_along}
use Rattle.overlap_law.proofs.WritersOfWorks.{asked_for}
use Rattle.overlap_law.specs.Sessions.{is_of_client_at}

-- ---- one message of a number

none_of_number : (number : ℕ) (messages : List Message) (place : ℕ) (message : Message) → HasNoNumber number messages
    → slice_get messages place ≡ Some message → message.number ≡ number → ⊥
none_of_number number [] place message none at same = cc (at)
none_of_number number (first ∷ later) zero message none at same =
    both_ways (first.number == number) none.0
    (eq-eqb first.number number (ap (λ (m : Message). m.number) (same_Some first message at) ∙ same))
none_of_number number (first ∷ later) (suc place) message none at same = none_of_number number later place message none.1 at same

pub one_of_number : (messages : List Message) (i j : ℕ) (one other : Message) → NumbersDiffer messages
    → slice_get messages i ≡ Some one → slice_get messages j ≡ Some other → one.number ≡ other.number → one ≡ other
one_of_number [] i j one other differ at at_other same = absurd (cc (at))
one_of_number (first ∷ later) zero zero one other differ at at_other same = sym (same_Some first one at) ∙ same_Some first other at_other
one_of_number (first ∷ later) zero (suc j) one other differ at at_other same =
    absurd (none_of_number first.number later j other differ.0 at_other
    (sym same ∙ ap (λ (m : Message). m.number) (sym (same_Some first one at))))
one_of_number (first ∷ later) (suc i) zero one other differ at at_other same =
    absurd (none_of_number first.number later i one differ.0 at
    (same ∙ ap (λ (m : Message). m.number) (sym (same_Some first other at_other))))
one_of_number (first ∷ later) (suc i) (suc j) one other differ at at_other same =
    one_of_number later i j one other differ.1 at at_other same

-- ---- what was given

-- a piece of a work's object was told by a target of it, and has what that owed, if the object is good
pub record IsGiven (good : ℕ → Bool) (moment : MomentWithPast) (work : ObjWork) (epoch index : ℕ) (bytes : List ℕ) : Type 0 where
  pub from : NodeId
  pub teller : IsToldBy moment work epoch from
  pub since : good (oid_of work) ≡ true → policy_in (log_effects moment.world.log) (oid_of work) ≡ Some (policy_of work)
      → IsWorkSince moment work epoch from index bytes

-- so is each that an open read was given
abbrev pub AllGiven : (ℕ → Bool) → MomentWithPast → Type 0
AllGiven good moment = (n : ℕ) (now : Host) → tree.get moment.world.hosts n ≡ Some now → now.is_lost ≡ false → (req place : ℕ)
    (work : Work) (current : gateways.Attempt) (message : Message) (bytes : List ℕ)
    → HasGiven now.node.gateway.works req work current place message bytes → is_making work.work ≡ false
    → is_of_client_at req now.node ≡ false → IsGiven good moment work.work current.epoch.0 message.index bytes

module _ (script : List Statement) (range : RunsAreInRange script) (events : List Move) (start : MomentWithPast)
    (is_run : run_with_past script events ≡ Some start) (good : ℕ → Bool)
    (told : ToldPiecesAreSince (log_effects start.world.log) good start.world.hosts start.world.wire start.past.attempts) where
  began : Began script start.world
  began = began-with_past script events start is_run

  -- ---- what is heard now

  module _ (stepping : SteppingNode) (is : IsStepping script start.world stepping) (by : StepsByChanges stepping.cause) (so_far : StepState)
      (leads : LeadsInStep stepping (first_in_step stepping) so_far)
      (trail : MomentTrail script start (moment_in_step script stepping start so_far)) (req place : ℕ) (work : Work)
      (attempt : gateways.Attempt) (message : Message) (there : tree.get so_far.node.gateway.works req ≡ Some work)
      (stage : work.stage ≡ Open attempt) (at : slice_get attempt.messages place ≡ Some message)
      (awaited : list_any (is_awaited_message message.number) attempt.messages ≡ true) (bytes : List ℕ) (some : 1 ≤ length bytes)
      (heard : IsTold (input_of_cause stepping.cause) message.number (statuses.Succeeded bytes))
      (own : is_of_client_at req so_far.node ≡ false) where
    abbrev here : MomentWithPast
    here = moment_in_step script stepping start so_far

    abbrev was : Host
    was = host_with_node stepping.host so_far.node

    at_host : tree.get here.world.hosts stepping.n ≡ Some was
    at_host = get-insert_same start.world.hosts stepping.n was

    differ : NumbersDiffer attempt.messages
    differ =
        (subst (HasMessagesFor work.work) stage
        ((reading_along script range start began trail stepping.n was at_host).sound.open_works req work there).messages).numbers

    pub given_now : IsGiven good here work.work attempt.epoch.0 message.index bytes
    given_now =
        let (other_place, other, other_at, number_so, unanswered) = awaited_at message.number attempt.messages awaited in
        let same : other ≡ message
        = one_of_number attempt.messages other_place place other message differ other_at at number_so in
        let (from, rsp, answering, said) = told_reply script range events start is_run stepping is by so_far leads trail stepping.cause
        is.caused message.number bytes some heard in
        let low = (known_step script range start.world began stepping is).given message.number (statuses.Succeeded bytes) heard in
        let held = heard_piece script range events start is_run good told stepping.n stepping.host is.there message.number low from rsp
        bytes
        answering said here trail was at_host (not_lost stepping.host is.up) req other_place work attempt other
        (record { there = there; stage = stage; at = other_at; unanswered = unanswered }) own number_so in
        record {
          from = from;
          teller = held.teller;
          since = λ is_good known.
              subst (λ (m : Message). IsWorkSince here work.work attempt.epoch.0 from m.index bytes) same
              (held.since is_good
              (ap (λ (log : List Entry). policy_in (log_effects log) (oid_of work.work))
              (sym (log_by_changes stepping.cause by start.world.log)) ∙ known));
        }

  -- ---- over a change

  module _ (before after : MomentWithPast) (trail : MomentTrail script start before) (change : MomentChange script start before after)
      (n : ℕ) (now : Host) (there : tree.get after.world.hosts n ≡ Some now) (up : now.is_lost ≡ false) (req place : ℕ) (work : Work)
      (current : gateways.Attempt) (message : Message) (bytes : List ℕ)
      (of : HasGiven now.node.gateway.works req work current place message bytes) (no_client : is_of_client_at req now.node ≡ false) where
    -- what was given before, to a message of the same work
    stays_given : (opened : WasOpenAt before.world.hosts n req work current) (index : ℕ) → index ≡ message.index
        → IsGiven good before opened.was.work opened.before.epoch.0 index bytes
        → IsGiven good after work.work current.epoch.0 message.index bytes
    stays_given opened index same_index old =
        let had : IsGiven good before work.work current.epoch.0 message.index bytes
        = subst (λ (k : ℕ). IsGiven good before work.work current.epoch.0 k bytes) same_index
        (subst (λ (e : Epoch). IsGiven good before work.work e.0 index bytes) (sym opened.epoch_so)
        (subst (λ (w : ObjWork). IsGiven good before w opened.before.epoch.0 index bytes) (sym opened.work_so) old)) in
        let grows = logs_grow script change in
        record {
          from = had.from;
          teller = teller_stays script range start before after began change work.work current.epoch.0 had.from had.teller;
          since = λ is_good known.
              let then : policy_in (log_effects after.world.log) (oid_of work.work) ≡ Some had.teller.policy
              = ap (λ (log : List Entry). policy_in (log_effects log) (oid_of work.work)) grows.1
              ∙ policy_stays before.world.log grows.0 (oid_of work.work) had.teller.policy had.teller.made in
              since-piece_stays script range events start before after is_run trail change n now there up req work current of.there of.stage
              opened had.from had.teller no_client (policy_of work.work) message.index (offset_read work.work) bytes
              (had.since is_good (had.teller.made ∙ sym then ∙ known));
        }

    -- with the gateway that the node had
    same_given : (was : Host) → tree.get before.world.hosts n ≡ Some was → was.is_lost ≡ false
        → now.node.gateway ≡ was.node.gateway → is_making work.work ≡ false → AllGiven good before
        → IsGiven good after work.work current.epoch.0 message.index bytes
    same_given was was_there was_up gateway reads all =
        let before_so : tree.get was.node.gateway.works req ≡ Some work
        = ap (λ (g : Gateway). tree.get g.works req) (sym gateway) ∙ of.there in
        stays_given (record {
          old = was;
          there = was_there;
          up = was_up;
          was = work;
          before = current;
          got = before_so;
          stage = of.stage;
          work_so = refl;
          epoch_so = refl;
        }) message.index refl
        (all n was was_there was_up req place work current message bytes
        (record { there = before_so; stage = of.stage; at = of.at; given = of.given; some = of.some }) reads
        (own_before script range start began change n now was there was_there req work of.there no_client))

  pub given_after : (before after : MomentWithPast) → MomentTrail script start before → MomentChange script start before after
      → AllGiven good before → AllGiven good after
  given_after before after trail change all n now there up req place work current message bytes of reads no_client = ⊎_elim going_on
      (λ (b : IsBetween before after). by_guests (b.0 n now there)) (between script start change)
    where
      by_guests : GuestsChange before n now → IsGiven good after work.work current.epoch.0 message.index bytes
      by_guests (GuestsStay was was_there was_up gateway sessions requests) =
          same_given before after trail change n now there up req place work current message bytes of no_client was was_there (was_up up)
          gateway reads
          all
      by_guests (GuestsAreNone sessions none) =
          let (request, asked) = asked_for now.node (well_along script range start began (Then trail change) n now there) req work
          of.there in
          let empty : tree.get now.node.requests req ≡ None
          = ap (λ (r : tree.FinMap nat_cmp Request). tree.get r req) none ∙ tree.get-empty {X = Request} nat_cmp req in
          absurd (cc (empty, asked))

      going_on : IsGoingOn script start before after → IsGiven good after work.work current.epoch.0 message.index bytes
      going_on g = ⊎_elim own
          (λ (other : (n ≢ g.stepping.n) × (tree.get start.world.hosts n ≡ Some now)).
          same_given before after trail change n now there up req place work current message bytes of no_client now
          (ap (λ (m : MomentWithPast). tree.get m.world.hosts n) g.before_so
          ∙ get-insert_other start.world.hosts g.stepping.n (host_with_node g.stepping.host g.so_far.node) n other.0 ∙ other.1) up refl
          reads all)
          (get-insert_cases start.world.hosts g.stepping.n (host_with_node g.stepping.host g.next.node) n now
          (ap (λ (m : MomentWithPast). tree.get m.world.hosts n) (sym g.after_so) ∙ there))
        where
          own : (n ≡ g.stepping.n) × (host_with_node g.stepping.host g.next.node ≡ now)
              → IsGiven good after work.work current.epoch.0 message.index bytes
          own (here, same) = ⊎_elim was_one
              (λ (new : BeginsNow work place message).
              let unanswered = new.unanswered in
              let given = of.given in absurd (cc (unanswered, given)))
              (change_messages (input_of_cause g.stepping.cause) g.so_far g.next
              (both_in_chain (input_of_cause g.stepping.cause) g.stepping.host.node
              (known_step script range start.world began g.stepping g.is).sound g.so_far g.within.leads).0 g.within.change req work current
              place message
              (record { there = ap (λ (h : Host). tree.get h.node.gateway.works req) same ∙ of.there; stage = of.stage; at = of.at }))
            where
              here_before : tree.get before.world.hosts n ≡ Some (host_with_node g.stepping.host g.so_far.node)
              here_before =
                  ap (λ (m : MomentWithPast). tree.get m.world.hosts n) g.before_so
                  ∙ ap (tree.get (tree.insert start.world.hosts g.stepping.n (host_with_node g.stepping.host g.so_far.node))) here
                  ∙ get-insert_same start.world.hosts g.stepping.n (host_with_node g.stepping.host g.so_far.node)

              own_then : is_of_client_at req g.so_far.node ≡ false
              own_then =
                  own_before script range start began change n now (host_with_node g.stepping.host g.so_far.node) there here_before req work
                  of.there no_client

              was_one : WasMessageOf (input_of_cause g.stepping.cause) g.so_far.node.gateway.works req work current place message
                  → IsGiven good after work.work current.epoch.0 message.index bytes
              was_one was =
                  stays_given before after trail change n now there up req place work current message bytes of no_client (record {
                    old = host_with_node g.stepping.host g.so_far.node;
                    there = here_before;
                    up = not_lost g.stepping.host g.is.up;
                    was = was.was;
                    before = was.before;
                    got = was.is.there;
                    stage = was.is.stage;
                    work_so = was.work_so;
                    epoch_so = was.epoch_so;
                  }) was.m.index (sym was.index_so) (by_status was.status_so)
                where
                  by_status : (message.status ≡ was.m.status) ⊎ (IsTold (input_of_cause g.stepping.cause) message.number message.status
                      × (list_any (is_awaited_message message.number) was.before.messages ≡ true))
                      → IsGiven good before was.was.work was.before.epoch.0 was.m.index bytes
                  by_status (inl same_status) =
                      all n (host_with_node g.stepping.host g.so_far.node) here_before (not_lost g.stepping.host g.is.up) req place was.was
                      was.before was.m bytes (record {
                        there = was.is.there;
                        stage = was.is.stage;
                        at = was.is.at;
                        given = sym same_status ∙ of.given;
                        some = of.some;
                      }) (ap (λ (w : ObjWork). is_making w) (sym was.work_so) ∙ reads) own_then
                  by_status (inr (heard, awaited)) =
                      subst (λ (m : MomentWithPast). IsGiven good m was.was.work was.before.epoch.0 was.m.index bytes) (sym g.before_so)
                      (given_now g.stepping g.is g.by g.so_far g.within.leads (subst (MomentTrail script start) g.before_so trail) req place
                      was.was was.before was.m was.is.there was.is.stage was.is.at
                      (ap (λ (k : ℕ). list_any (is_awaited_message k) was.before.messages) (sym was.number_so) ∙ awaited) bytes of.some
                      (subst (λ (k : ℕ). IsTold (input_of_cause g.stepping.cause) k (statuses.Succeeded bytes)) was.number_so
                      (subst (IsTold (input_of_cause g.stepping.cause) message.number) of.given heard)) own_then)
