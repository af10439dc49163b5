-- What a step of a node leaves of a request that may have items: it wasn't refused, was begun, and where it has no reply it began on a
-- disk; and it is a write, or a check that has come to one at each node that has it.
use Rattle.std.proofs.Common.{◌≡◌, ◌≢◌, ◌⊎◌, inl, inr, ⊎_elim, arith, ℕ, ◌<◌, Bool, true, false, List, [], ◌++◌, fold, Contains, Option}
use Rattle.std.proofs.Common.{Some, None, is_some, option_map, refl, sym, ap, subst, ◌∙◌}
use Rattle.std.specs.List.{list_any}
use Rattle.std.specs.Option.{option_map_or, option_and_then}
use Rattle.std.specs.FinMap as tree
use Rattle.std.proofs.lemmas.Bool.{cases_eq, eq-eqb, or_right}
use Rattle.std.proofs.lemmas.Option.{same_Some}
use Rattle.disk_history.specs.declared.event.HistEvent.{HistEvent}
use Rattle.cluster_script.specs.Statements.{is_check}
use Rattle.cluster_script.specs.declared.statement.Statement.{Statement}
use Rattle.cluster_script.specs.NumberedRequests.{request_at}
use Rattle.cluster_script.specs.Sessions.{ScriptSession}
use Rattle.cluster_script.specs.Statements.{requests_of}
use Rattle.message_wire.specs.declared.name.MessageName.{MessageName}
use Rattle.object_id.specs.declared.node.NodeId.{NodeId}
use Rattle.peer_proto.specs.declared.guest.GuestRsp.{GuestRsp}
use Rattle.peer_proto.specs.declared.say.PeerRsp.{PeerRsp}
use Rattle.sheep_node.specs.declared.ask.Ask.{Ask}
use Rattle.sheep_node.specs.declared.check_write.CheckWrite.{CheckWrite}
use Rattle.sheep_node.specs.declared.course.Course.TheVariants.{Checking}
use Rattle.sheep_node.specs.declared.input.Input.TheVariants as inputs
use Rattle.sheep_node.specs.CheckWrites.{check_write_on, has_check_written}
use Rattle.sheep_node.specs.Step.{node_step}
use Rattle.sheep_node.proofs.StepReplies.{put-silent}
use Rattle.sheep_world.specs.declared.progress.StartedRequest.{StartedRequest}
use Rattle.sheep_world.specs.World.{Host, World, node_at, progress_at}
use Rattle.sheep_world.specs.Asking.{session_asking}
use Rattle.sheep_world.specs.Began.{Began}
use Rattle.sheep_world.specs.BegunRequests.{WasBegun}
use Rattle.sheep_world.specs.Effects.{open_disk_at, disk_open, request_started}
use Rattle.sheep_world.specs.Granted.{entry_adds}
use Rattle.sheep_world.specs.HistoryAdditions.{is_write, gateway_of, has_begun_check_write, is_write_of, request_grown, check_write_grown}
use Rattle.sheep_world.specs.HistoryAdditions.{check_write_by, replies_grown}
use Rattle.sheep_world.specs.NodeCauses.{NodeCause, GuestAsks, RequestComes, ReplyComes, LossIsTold, EntryIsRead, EntryIsPut, RecoveryTicks}
use Rattle.sheep_world.specs.NodeCauses.{WorkIsRetried, ClientAsks, input_of_cause, IsCause, progress_at_cause, world_after_cause}
use Rattle.sheep_world.specs.NodeCauses.{history_of_cause}
use Rattle.sheep_world.specs.NodeSteps.{progress_after_reply}
use Rattle.sheep_world.proofs.SessionNumbers.{once}
use Rattle.overlap_law.specs.Holders.{is_object_among}
use Rattle.overlap_law.specs.MomentChanges.{RunsAreInRange}
use Rattle.overlap_law.specs.PastWords.{refused_in}
use Rattle.overlap_law.proofs.ComingWrites.{IsComing, coming}
use Rattle.overlap_law.proofs.CoursesOfAsks.{IsPlacedIn}
use Rattle.overlap_law.proofs.CoursesOfScript.{asked_by, BeganOn, requests_placed}
use Rattle.overlap_law.proofs.ItemsAtBegin.{BeginsWrite, ComesToWrite, check_begins, entry_none, on_open_disk, request_begins}
use Rattle.overlap_law.proofs.ItemsAtBegin.{served_comes_to_none}
use Rattle.overlap_law.proofs.ItemsOfReplies.{is_write_at, is_check_at, check_does, IsKnown}
use Rattle.overlap_law.proofs.ItemsOfRequests.{begins_write_of, may_have_after, none_behind, might_before, might_or_begins}
use Rattle.overlap_law.proofs.ItemsOfWriters.{Writes, silent_known, replies_open, IsWritingIn, write_stays, stays_writing, IsLeft}
use Rattle.overlap_law.proofs.ItemsOfWriters.{told_known, plain_known}
use Rattle.overlap_law.proofs.RefusedInRuns.{AreAnswered, begun_asking, found_brings, found_grows, new_or_was, node_begun, still_begun}
use Rattle.overlap_law.proofs.SessionsOfRequests.{of_test}
use Rattle.overlap_law.proofs.UnansweredRequests.{unanswered_in, requests_tied}
use Rattle.overlap_law.proofs.WrittenInWorlds.{HaveWritten, reply_written}
use Rattle.overlap_law.proofs.AsksInCauses.{no_such}

module _ (script : List Statement) (range : RunsAreInRange script) (req : ℕ) where
  module _ (world : World) (began : Began script world) (n : ℕ) (host : Host) (there : tree.get world.hosts n ≡ Some host)
      (refused : List ℕ) (may : Bool) (are : AreAnswered script world.guests refused) (known : IsKnown script req world.guests refused may)
      (writes : Writes script range req world.hosts may) where
    abbrev after : NodeCause → World
    after cause = world_after_cause script n host cause world

    abbrev replies : NodeCause → List (ℕ × GuestRsp)
    replies cause = (node_step (input_of_cause cause) host.node).outputs.replies

    -- ---- a guest's request begins

    module _ (session : ScriptSession) (other : ℕ) (ask : Ask) (caused : IsCause script world n host (GuestAsks session other ask)) where
      abbrev new : StartedRequest
      new = record { req = other; disk = disk_open session world }

      abbrev found : World
      found = request_started session (Some other) world

      abbrev starts : List HistEvent
      starts = request_grown script world session (Some other)

      unbegun : (q : ℕ) → WasBegun script world.guests q other → ⊥
      unbegun q begun =
          let same = once 1 (requests_of script) session.number q
          (progress_at session.number world).begun begun.place other caused.next begun.there in
          let place : (progress_at session.number world).begun ≡ begun.place = same.1 in
          let below : begun.place < (progress_at session.number world).begun
          = subst (λ (k : ℕ). begun.place < (progress_at k world).begun) (sym same.0) begun.before in
          omega (arith, place, below)

      -- who was begun isn't the new one
      pub old_apart : (q : ℕ) → WasBegun script world.guests q req → other ≡ req → ⊥
      old_apart q begun same = unbegun q (subst (λ (k : ℕ). WasBegun script world.guests q k) (sym same) begun)

      starts_are : list_any (begins_write_of req) starts ≡ true
          → BeginsWrite req other (open_disk_at session world) (request_at script other)
      starts_are is = request_begins req other (open_disk_at session world) (request_at script other) is

      was_or_starts : fold (may_have_after req) may starts ≡ true
          → (may ≡ true) ⊎ BeginsWrite req other (open_disk_at session world) (request_at script other)
      was_or_starts now = ⊎_elim
          (λ (was : may ≡ true). inl was)
          (λ (begins : list_any (begins_write_of req) starts ≡ true). inr (starts_are begins))
          (might_or_begins req starts may now)

      refused_then : is_object_among req refused ≡ true → fold (may_have_after req) may starts ≡ false
      refused_then is = by_value (list_any (begins_write_of req) starts) refl
        where
          by_value : (b : Bool) → list_any (begins_write_of req) starts ≡ b → fold (may_have_after req) may starts ≡ false
          by_value false none = none_behind req starts may none (known.unrefused is)
          by_value true begins = let (q, begun) = are.started req is in absurd (old_apart q begun (starts_are begins).0)

      begun_then : fold (may_have_after req) may starts ≡ true → (q : ℕ) × WasBegun script found.guests q req
      begun_then now = ⊎_elim
          (λ (was : may ≡ true).
          let (q, begun) = known.begun was in (
            q,
            still_begun script world.guests found.guests (found_grows script world began n host there
                (GuestAsks session other ask)) q req begun,
          ))
          (λ (begins : BeginsWrite req other (open_disk_at session world) (request_at script other)). (
            session.number,
            subst (λ (k : ℕ). WasBegun script found.guests session.number k) begins.0
                (found_brings script world began n host there (GuestAsks session other ask) caused other session.number ask refl
                (ap (λ (o : Option Statement). is_some o) caused.stands)),
          ))
          (was_or_starts now)

      -- what has no reply then is the new one, or had none and isn't it
      abbrev IsNewOrOld : ℕ → StartedRequest → Type 0
      IsNewOrOld q started = ((q ≡ session.number) × (new ≡ started)) ⊎ Contains (unanswered_in q world.guests) started

      newer : (q : ℕ) (started : StartedRequest) → Contains (unanswered_in q found.guests) started → IsNewOrOld q started
      newer q started among = new_or_was script world.guests refused session.number new caused.next are q started among

      old_other : (q : ℕ) (started : StartedRequest) → Contains (unanswered_in q world.guests) started → started.req ≡ other → ⊥
      old_other q started old own =
          unbegun q (subst (λ (k : ℕ). WasBegun script world.guests q k) own (are.unanswered q started old))

      disk_then : fold (may_have_after req) may starts ≡ true → (q : ℕ) (started : StartedRequest)
          → Contains (unanswered_in q found.guests) started
          → started.req ≡ req → is_some started.disk ≡ true
      disk_then now q started among own = ⊎_elim
          (λ (was : may ≡ true). ⊎_elim
          (λ (first : (q ≡ session.number) × (new ≡ started)).
          let (k, begun) = known.begun was in
          absurd (old_apart k begun (ap (λ (one : StartedRequest). one.req) first.1 ∙ own)))
          (λ (old : Contains (unanswered_in q world.guests) started). known.on_disk was q started old own)
          (newer q started among))
          (λ (begins : BeginsWrite req other (open_disk_at session world) (request_at script other)). ⊎_elim
          (λ (first : (q ≡ session.number) × (new ≡ started)).
          ap (λ (one : StartedRequest). is_some one.disk) (sym first.1) ∙ on_open_disk (open_disk_at session world) begins.1)
          (λ (old : Contains (unanswered_in q world.guests) started). absurd (old_other q started old (own ∙ sym begins.0)))
          (newer q started among))
          (was_or_starts now)

      single_then : (q : ℕ) (one again : StartedRequest) → Contains (unanswered_in q found.guests) one
          → Contains (unanswered_in q found.guests) again → one.req ≡ req → again.req ≡ req → one.disk ≡ again.disk
      single_then q one again among too own same = by_kinds (newer q one among) (newer q again too)
        where
          by_kinds : IsNewOrOld q one → IsNewOrOld q again → one.disk ≡ again.disk
          by_kinds (inl first) (inl second) = ap (λ (s : StartedRequest). s.disk) (sym first.1 ∙ second.1)
          by_kinds (inl first) (inr old) =
              absurd (old_other q again old (same ∙ sym own ∙ sym (ap (λ (s : StartedRequest). s.req) first.1)))
          by_kinds (inr old) (inl second) =
              absurd (old_other q one old (own ∙ sym same ∙ sym (ap (λ (s : StartedRequest). s.req) second.1)))
          by_kinds (inr first) (inr second) = known.single q one again first second own same

      begins_known : IsKnown script req found.guests refused (fold (may_have_after req) may starts)
      begins_known = record { unrefused = refused_then; begun = begun_then; on_disk = disk_then; single = single_then }

      begins_writing : fold (may_have_after req) may starts ≡ true
          → IsWritingIn script range req world began n host there (GuestAsks session other ask) found None
      begins_writing now = ⊎_elim
          (λ (was : may ≡ true).
          let (q, begun) = known.begun was in
          stays_writing script range req world began n host there (GuestAsks session other ask) caused
          (λ number asks from. old_apart q begun (cc (from))) found there None (writes was))
          (λ (begins : BeginsWrite req other (open_disk_at session world) (request_at script other)).
          write_stays script range req world began n host there (GuestAsks session other ask) found None
          (ap (λ (k : ℕ). is_write_at script k) (sym begins.0) ∙ begins.2))
          (was_or_starts now)

    -- ---- a check comes to a write

    module _ (name : MessageName) (from : NodeId) (rsp : PeerRsp) (caused : IsCause script world n host (ReplyComes name from rsp)) where
      abbrev cause : NodeCause
      cause = ReplyComes name from rsp

      abbrev write : Option CheckWrite
      write = check_write_by name world (after cause)

      abbrev begins : List HistEvent
      begins = option_map_or (check_write_grown script) write []

      write_is : write ≡ check_write_on (inputs.Reply rsp) host.node
      write_is =
          ap (λ (k : ℕ). option_and_then (check_write_on (inputs.Reply rsp)) (node_at k world)) caused.here
          ∙ ap (λ (o : Option Host). option_and_then (check_write_on (inputs.Reply rsp)) (option_map (λ (h : Host). h.node) o)) there

      -- what the node has of it
      record IsComingHere : Type 0 where
        comes : CheckWrite
        is : write ≡ Some comes
        own : comes.req ≡ req
        checks : is_check_at script req ≡ true
        has : IsComing comes host.node

      here : ComesToWrite script req write → IsComingHere
      here (comes, is, own, checks) = record {
        comes = comes;
        is = is;
        own = own;
        checks = checks;
        has = coming comes rsp host.node (sym write_is ∙ is);
      }

      module _ (now : IsComingHere) where
        course_there : tree.get host.node.requests req
            ≡ Some (record { session = now.has.session; course = Checking now.has.check })
        course_there = ap (tree.get host.node.requests) (sym now.own) ∙ now.has.there

        coming_unrefused : is_object_among req refused ≡ false
        coming_unrefused =
            let tied = requests_tied script range world began n host there req
            (record { session = now.has.session; course = Checking now.has.check }) course_there (of_test script is_check req now.checks) in
            ap (λ (k : ℕ). is_object_among k refused) (sym tied.unanswered.number)
            ∙ are.answered now.has.session tied.unanswered.started tied.unanswered.there

        coming_begun : WasBegun script world.guests now.has.session req
        coming_begun =
            node_begun script world began n host there req (record { session = now.has.session; course = Checking now.has.check })
            course_there (of_test script is_check req now.checks)

        coming_on_disk : (session : ℕ) (started : StartedRequest) → Contains (unanswered_in session world.guests) started
            → started.req ≡ req → is_some started.disk ≡ true
        coming_on_disk session started among own =
            let (disk, at, course) = subst (IsPlacedIn (asked_by script) (BeganOn script world.guests) req host.node.sessions) course_there
            (requests_placed script range world began n host there req) in
            let asks : session_asking script req ≡ Some session
            = ap (session_asking script) (sym own)
            ∙ begun_asking script world.guests session started.req (are.unanswered session started among) in
            let same : at.session ≡ session = same_Some at.session session (sym at.asking ∙ asks) in
            let too : Contains (unanswered_in session world.guests) at.started
            = subst (λ (k : ℕ). Contains (unanswered_in k world.guests) at.started) same at.there in
            ap is_some (known.single session started at.started among too own at.number ∙ at.on ∙ course.on.same)

        coming_writing : IsWritingIn script range req world began n host there cause world write
        coming_writing = record {
          does = λ reply among same.
              let by_write : option_map_or (is_write_of reply.0) write false ≡ true
              = ap (λ (o : Option CheckWrite). option_map_or (is_write_of reply.0) o false) now.is
              ∙ eq-eqb now.comes.req reply.0 (now.own ∙ sym same) in
              check_does script (has_begun_check_write script reply.0 world write) reply.0 (ap (is_check_at script) same ∙ now.checks)
              (or_right (option_map_or (has_check_written reply.0) (gateway_of script reply.0 world) false)
              (option_map_or (is_write_of reply.0) write false) by_write);
          left = inr (
            now.checks,
            subst (λ (k : ℕ). HaveWritten k (after cause).hosts) now.own
                (reply_written script range.is_script world began n host there rsp now.comes (sym write_is ∙ now.is)),
          );
        }

      was_or_comes : fold (may_have_after req) may begins ≡ true → (may ≡ true) ⊎ IsComingHere
      was_or_comes now = ⊎_elim
          (λ (was : may ≡ true). inl was)
          (λ (is : list_any (begins_write_of req) begins ≡ true). inr (here (check_begins script req write is)))
          (might_or_begins req begins may now)

      comes_unrefused : is_object_among req refused ≡ true → fold (may_have_after req) may begins ≡ false
      comes_unrefused is = by_value (list_any (begins_write_of req) begins) refl
        where
          by_value : (b : Bool) → list_any (begins_write_of req) begins ≡ b → fold (may_have_after req) may begins ≡ false
          by_value false none = none_behind req begins may none (known.unrefused is)
          by_value true so =
              let no = coming_unrefused (here (check_begins script req write so)) in
              absurd (cc (is, no))

      comes_known : IsKnown script req world.guests refused (fold (may_have_after req) may begins)
      comes_known = record {
        unrefused = comes_unrefused;
        begun = λ now. ⊎_elim
            (λ (was : may ≡ true). known.begun was)
            (λ (comes : IsComingHere). (comes.has.session, coming_begun comes))
            (was_or_comes now);
        on_disk = λ now session started among own. ⊎_elim
            (λ (was : may ≡ true). known.on_disk was session started among own)
            (λ (comes : IsComingHere). coming_on_disk comes session started among own)
            (was_or_comes now);
        single = known.single;
      }

      comes_writing : fold (may_have_after req) may begins ≡ true → IsWritingIn script range req world began n host there cause world write
      comes_writing now = ⊎_elim
          (λ (was : may ≡ true).
          stays_writing script range req world began n host there cause caused (λ session ask is. absurd (cc (is))) world there write
          (writes was))
          (λ (comes : IsComingHere). coming_writing comes)
          (was_or_comes now)

    -- ---- every step

    plain : (cause : NodeCause) → IsCause script world n host cause → progress_at_cause cause world ≡ world.guests
        → ((session : ℕ) (ask : Ask) → input_of_cause cause ≢ inputs.Guest req session ask)
        → IsKnown script req (fold (progress_after_reply script) world.guests (replies cause))
        (refused ++ refused_in script (replies cause))
        (fold (may_have_after req) may (replies_grown script world None (after cause)))
        × Writes script range req (after cause).hosts (fold (may_have_after req) may (replies_grown script world None (after cause)))
    plain cause caused same old = plain_known script range req world began n host there refused may cause caused same old known writes

    -- a client's read writes nothing
    client_known : (number : ℕ) (asks : Ask) → IsCause script world n host (ClientAsks number asks) → number ≡ req
        → IsLeft script range req world began n host there refused may (ClientAsks number asks)
        (history_of_cause script (ClientAsks number asks) world (after (ClientAsks number asks)))
    client_known number asks caused own =
        told_known script range req world began n host there refused may (ClientAsks number asks) world None []
        (replies_open script range req world began n host there (ClientAsks number asks) caused) known
        (λ was. absurd (⊎_elim
        (λ (is : is_write_at script req ≡ true). no_such caused is_write req own is)
        (λ (is : (is_check_at script req ≡ true) × HaveWritten req world.hosts). no_such caused is_check req own is.0)
        (writes was)))

    pub step_known : (cause : NodeCause) → IsCause script world n host cause
        → IsLeft script range req world began n host there refused may cause (history_of_cause script cause world (after cause))
    step_known (GuestAsks session other ask) caused =
        told_known script range req world began n host there refused may (GuestAsks session other ask)
        (request_started session (Some other) world) None (request_grown script world session (Some other))
        (replies_open script range req world began n host there (GuestAsks session other ask) caused)
        (begins_known session other ask caused) (begins_writing session other ask caused)
    step_known (RequestComes name to request) caused =
        let cause = RequestComes name to request in
        let none : check_write_by name world (after cause) ≡ None = served_comes_to_none request (node_at name.sender.0 world) in
        subst (λ (o : Option CheckWrite).
        IsLeft script range req world began n host there refused may cause
        (option_map_or (check_write_grown script) o [] ++ replies_grown script world o (after cause))) (sym none)
        (plain cause caused refl (λ session ask is. absurd (cc (is))))
    step_known (ReplyComes name from rsp) caused =
        let cause = ReplyComes name from rsp in
        let write = check_write_by name world (after cause) in
        told_known script range req world began n host there refused may cause world write
        (option_map_or (check_write_grown script) write []) (replies_open script range req world began n host there cause caused)
        (comes_known name from rsp caused) (comes_writing name from rsp caused)
    step_known (LossIsTold name packet) caused = plain (LossIsTold name packet) caused refl (λ session ask is. absurd (cc (is)))
    step_known (EntryIsRead entry) caused = plain (EntryIsRead entry) caused refl (λ session ask is. absurd (cc (is)))
    step_known (EntryIsPut entry) caused = (
      silent_known script range req world.guests refused may (replies (EntryIsPut entry)) (entry_adds world.log entry)
          (put-silent host.node) (entry_none req world.log entry) known,
      λ now.
          (stays_writing script range req world began n host there (EntryIsPut entry) caused (λ session ask is. absurd (cc (is))) world
          there None (writes (might_before req (entry_adds world.log entry) may (entry_none req world.log entry) now))).left,
    )
    step_known RecoveryTicks caused = plain RecoveryTicks caused refl (λ session ask is. absurd (cc (is)))
    step_known WorkIsRetried caused = plain WorkIsRetried caused refl (λ session ask is. absurd (cc (is)))
    step_known (ClientAsks number asks) caused = ⊎_elim
        (λ (own : number ≡ req). client_known number asks caused own)
        (λ (apart : number ≢ req). plain (ClientAsks number asks) caused refl (λ session ask is. apart (cc (is))))
        (cases_eq number req)
