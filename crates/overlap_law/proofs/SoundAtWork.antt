-- A request that writes on a disk stays at its gateway over whatever event that doesn't end its writes: who has a reply has ended them, and
-- who is lost with its gateway.
use Rattle.std.proofs.Common.{◌≡◌, ◌≢◌, inl, inr, ⊎_elim, ℕ, Bool, true, false, not, List, [], ◌∷◌, ◌++◌, fold, Contains, Option, Some}
use Rattle.std.proofs.Common.{None, is_some, refl, sym, ap, subst, ◌∙◌}
use Rattle.std.specs.Prelude.{flat_map}
use Rattle.std.specs.List.{list_any}
use Rattle.std.specs.Option.{option_map_or}
use Rattle.std.specs.FinMap as tree
use Rattle.std.proofs.lemmas.Bool.{both_ways, cases_eq, or_right}
use Rattle.std.proofs.lemmas.List.Folds.{list_any-append}
use Rattle.std.proofs.lemmas.Option.{same_Some}
use Rattle.proof_tools.proofs.FiniteMaps.{get-insert_same, get-insert_other}
use Rattle.proof_tools.proofs.Lists.{Contains-nil}
use Rattle.cluster_script.specs.declared.statement.Statement.{Statement}
use Rattle.cluster_script.specs.declared.statement.Statement.TheVariants as lines
use Rattle.disk_history.specs.declared.event.HistEvent.{HistEvent}
use Rattle.peer_proto.specs.declared.guest.GuestRsp.{GuestRsp}
use Rattle.sheep_node.specs.declared.ask.Ask.{Ask}
use Rattle.sheep_node.specs.declared.check_write.CheckWrite.{CheckWrite}
use Rattle.sheep_node.specs.declared.event.Event.{Event}
use Rattle.sheep_node.specs.declared.course.Request.{Request}
use Rattle.sheep_node.specs.declared.input.Input.TheVariants as inputs
use Rattle.sheep_node.specs.Changes.{IsSoundStep}
use Rattle.sheep_node.specs.Step.{node_step}
use Rattle.sheep_node.proofs.StepReplies.{back-silent, put-silent}
use Rattle.sheep_world.specs.World.{Host, World, is_host_up}
use Rattle.sheep_world.specs.Began.{Began}
use Rattle.sheep_world.specs.Effects.{request_started}
use Rattle.sheep_world.specs.EventKinds.{log_after_return, EventKind, NodeStep, UntoldLoss, UnreadDelivery, NodeLoss, NodeLeave}
use Rattle.sheep_world.specs.EventKinds.{NodeReweight, NodeJoin, NodeReturn, PhaseEnd}
use Rattle.sheep_world.specs.HistoryAdditions.{check_write_by, check_write_grown, has_begun_check_write, replies_grown, reply_grown}
use Rattle.sheep_world.specs.HistoryAdditions.{request_grown, writers_lost}
use Rattle.sheep_world.specs.HostChanges.{joined_host, host_after_return}
use Rattle.sheep_world.specs.MembershipChanges.{lost_host}
use Rattle.sheep_world.specs.NodeCauses.{NodeCause, GuestAsks, RequestComes, ReplyComes, LossIsTold, EntryIsRead, EntryIsPut, RecoveryTicks}
use Rattle.sheep_world.specs.NodeCauses.{WorkIsRetried, ClientAsks, input_of_cause, IsCause, history_of_cause, host_with_node}
use Rattle.sheep_world.specs.NodeCauses.{progress_at_cause, world_after_cause}
use Rattle.sheep_world.specs.NodeSteps.{progress_after_reply}
use Rattle.sheep_world.specs.Step.{EventOutcome}
use Rattle.sheep_world.proofs.BegunRequestLaws.{new-begun, were_begun}
use Rattle.sheep_world.proofs.ControlLaws.{next_fits}
use Rattle.sheep_world.proofs.StepsByCause.{sound_step}
use Rattle.sheep_world.proofs.WireAtEvents.{is_ready}
use Rattle.overlap_law.specs.DiskEvents.{ends_write_of}
use Rattle.overlap_law.specs.MomentChanges.{RunsAreInRange}
use Rattle.overlap_law.specs.Words.{Hosts}
use Rattle.overlap_law.proofs.AnswersInMoments.{not_lost}
use Rattle.overlap_law.proofs.CoursesOfScript.{BeganOn, still_began, found_began}
use Rattle.overlap_law.proofs.ItemsOfReplies.{does_write_at}
use Rattle.overlap_law.proofs.ItemsOfWriters.{Writing, IsWritingIn, stays_writing}
use Rattle.overlap_law.proofs.KnownSteps.{together}
use Rattle.overlap_law.proofs.RefusedInRuns.{AreAnswered}
use Rattle.overlap_law.proofs.RepliesApart.{step_apart}
use Rattle.overlap_law.proofs.SessionsOfRequests.{are_asked_by_line, of_asking}
use Rattle.overlap_law.proofs.SoundEnds.{replied_ends, lost_ends}
use Rattle.overlap_law.proofs.SoundReplies.{there_or_replied}
use Rattle.overlap_law.proofs.StartedOnce.{UnansweredAreOnce, caused_once, disk_of_began}
use Rattle.overlap_law.proofs.UnansweredRequests.{Guests}
use Rattle.sheep_world.proofs.AsksNumbers.{next_is_new}
use Rattle.overlap_law.proofs.RepliesElsewhere.{unreplied_elsewhere}

-- a request is at a gateway that isn't lost, and began on a disk
pub record IsAtWork (script : List Statement) (hosts : Hosts) (guests : Guests) (req vid : ℕ) : Type 0 where
  pub n : ℕ
  pub host : Host
  pub there : tree.get hosts n ≡ Some host
  pub up : host.is_lost ≡ false
  pub request : Request
  pub got : tree.get host.node.requests req ≡ Some request
  pub on : BeganOn script guests req (Some vid)

module _ (script : List Statement) (range : RunsAreInRange script) (world : World) (began : Began script world) (refused : List ℕ)
    (are : AreAnswered script world.guests refused) (once : UnansweredAreOnce world.guests) (req : ℕ) where
  abbrev pub Ends : List HistEvent → Type 0
  Ends events = list_any (ends_write_of req) events ≡ true

  -- ---- a step

  module _ (n : ℕ) (host : Host) (there : tree.get world.hosts n ≡ Some host) (up : is_host_up host ≡ true) where
    abbrev pub after : NodeCause → World
    after cause = world_after_cause script n host cause world

    abbrev pub stepped : NodeCause → Host
    stepped cause = host_with_node host (node_step (input_of_cause cause) host.node).node

    abbrev pub replies : NodeCause → List (ℕ × GuestRsp)
    replies cause = (node_step (input_of_cause cause) host.node).outputs.replies

    pub sound : (cause : NodeCause) → IsCause script world n host cause → IsSoundStep (input_of_cause cause) host.node
    sound cause caused =
        sound_step script world n host cause caused (is_ready script world (together script range world began) n host there up)

    -- what a reply ends, with what the step begins
    pub told_ends : (found : World) (write : Option CheckWrite) (cause : NodeCause) (vid : ℕ) (rsp : GuestRsp)
        → Contains (replies cause) (req, rsp) → UnansweredAreOnce found.guests → BeganOn script found.guests req (Some vid)
        → does_write_at script (has_begun_check_write script req found write) req ≡ true
        → Ends (flat_map (reply_grown script found write) (replies cause))
    told_ends found write cause vid rsp among single on does =
        replied_ends script req found write (replies cause) rsp among
        (ap is_some (disk_of_began script found single req (Some vid) on)) does

    pub behind : (starts ends : List HistEvent) → Ends ends → Ends (starts ++ ends)
    behind starts ends is =
        list_any-append (ends_write_of req) starts ends
        ∙ or_right (list_any (ends_write_of req) starts) (list_any (ends_write_of req) ends) is

    module _ (cause : NodeCause) (caused : IsCause script world n host cause) (vid : ℕ) (request : Request)
        (got : tree.get host.node.requests req ≡ Some request) (on : BeganOn script world.guests req (Some vid)) where
      -- it isn't the one that is asked now
      old : (session : ℕ) (ask : Ask) → input_of_cause cause ≢ inputs.Guest req session ask
      old = by_cause cause caused
        where
          by_cause : (cause : NodeCause) → IsCause script world n host cause → (session : ℕ) (ask : Ask)
              → input_of_cause cause ≢ inputs.Guest req session ask
          by_cause (GuestAsks session other asks) caused number ask from =
              let same : other ≡ req = cc (from) in
              let found : tree.get world.hosts session.node ≡ Some host = ap (tree.get world.hosts) caused.gateway ∙ there in
              let free : tree.get host.node.requests other ≡ None
              = new-begun script session.number world (were_begun script world began) session other host caused.declared caused.next
              found in
              let both : None ≡ Some request = sym free ∙ ap (tree.get host.node.requests) same ∙ got in
              cc (both)
          by_cause (RequestComes name to asked) caused number ask from = cc (from)
          by_cause (ReplyComes name to rsp) caused number ask from = cc (from)
          by_cause (LossIsTold name packet) caused number ask from = cc (from)
          by_cause (EntryIsRead entry) caused number ask from = cc (from)
          by_cause (EntryIsPut entry) caused number ask from = cc (from)
          by_cause RecoveryTicks caused number ask from = cc (from)
          by_cause WorkIsRetried caused number ask from = cc (from)
          by_cause (ClientAsks begins what) caused number ask from =
              let same : begins ≡ req = cc (from) in
              let free : tree.get host.node.requests begins ≡ None
              = subst (λ (k : ℕ). tree.get host.node.requests k ≡ None) caused.number
              (next_is_new script range.is_script world began n host there) in
              let both : None ≡ Some request = sym free ∙ ap (tree.get host.node.requests) same ∙ got in
              cc (both)

      -- where it isn't replied to it stays at work
      unreplied : (later : Host) (m : ℕ) → tree.get (after cause).hosts m ≡ Some later → later.is_lost ≡ false → (now : Request)
          → tree.get later.node.requests req ≡ Some now
          → ((reply : ℕ × GuestRsp) → Contains (replies cause) reply → reply.0 ≢ req)
          → IsAtWork script (after cause).hosts (after cause).guests req vid
      unreplied later m at at_up now got_now others = record {
        n = m;
        host = later;
        there = at;
        up = at_up;
        request = now;
        got = got_now;
        on = still_began script (progress_at_cause cause world) (replies cause) req (Some vid) others
            (found_began script world n host cause req (Some vid) on);
      }

      -- a reply to it ends its writes, where it writes as the step goes on
      replied_here : ((found : World) → tree.get found.hosts n ≡ Some host → (write : Option CheckWrite)
          → IsWritingIn script range req world began n host there cause found write) → (rsp : GuestRsp)
          → Contains (replies cause) (req, rsp) → Ends (history_of_cause script cause world (after cause))
      replied_here writes rsp among =
          by_cause cause caused (found_began script world n host cause req (Some vid) on)
          (caused_once script world n host refused cause caused are once) writes among
        where
          by_cause : (cause : NodeCause) → IsCause script world n host cause → BeganOn script (progress_at_cause cause world) req (Some vid)
              → UnansweredAreOnce (progress_at_cause cause world)
              → ((found : World) → tree.get found.hosts n ≡ Some host → (write : Option CheckWrite)
              → IsWritingIn script range req world began n host there cause found write)
              → Contains (replies cause) (req, rsp) → Ends (history_of_cause script cause world (after cause))
          by_cause (GuestAsks session other ask) caused at single writes among =
              let found = request_started session (Some other) world in
              behind (request_grown script world session (Some other))
              (replies_grown script found None (after (GuestAsks session other ask)))
              (told_ends found None (GuestAsks session other ask) vid rsp among single at
              ((writes found there None).does (req, rsp) among refl))
          by_cause (RequestComes name to asked) caused at single writes among =
              let write = check_write_by name world (after (RequestComes name to asked)) in
              behind (option_map_or (check_write_grown script) write [])
              (replies_grown script world write (after (RequestComes name to asked)))
              (told_ends world write (RequestComes name to asked) vid rsp among single at
              ((writes world there write).does (req, rsp) among refl))
          by_cause (ReplyComes name from rsp_here) caused at single writes among =
              let write = check_write_by name world (after (ReplyComes name from rsp_here)) in
              behind (option_map_or (check_write_grown script) write [])
              (replies_grown script world write (after (ReplyComes name from rsp_here)))
              (told_ends world write (ReplyComes name from rsp_here) vid rsp among single at
              ((writes world there write).does (req, rsp) among refl))
          by_cause (LossIsTold name packet) caused at single writes among =
              told_ends world None (LossIsTold name packet) vid rsp among single at ((writes world there None).does (req, rsp) among refl)
          by_cause (EntryIsRead entry) caused at single writes among =
              told_ends world None (EntryIsRead entry) vid rsp among single at ((writes world there None).does (req, rsp) among refl)
          by_cause (EntryIsPut entry) caused at single writes among =
              absurd (Contains-nil (req, rsp)
              (subst (λ (list : List (ℕ × GuestRsp)). Contains list (req, rsp)) (put-silent host.node) among))
          by_cause RecoveryTicks caused at single writes among =
              told_ends world None RecoveryTicks vid rsp among single at ((writes world there None).does (req, rsp) among refl)
          by_cause WorkIsRetried caused at single writes among =
              told_ends world None WorkIsRetried vid rsp among single at ((writes world there None).does (req, rsp) among refl)
          by_cause (ClientAsks number asks) caused at single writes among =
              told_ends world None (ClientAsks number asks) vid rsp among single at ((writes world there None).does (req, rsp) among refl)

      -- at the node that steps
      pub own_stays : ((rsp : GuestRsp) → Contains (replies cause) (req, rsp) → Ends (history_of_cause script cause world (after cause)))
          → list_any (ends_write_of req) (history_of_cause script cause world (after cause)) ≡ false
          → IsAtWork script (after cause).hosts (after cause).guests req vid
      own_stays ends unended = ⊎_elim
          (λ (still : (now : Request) × (tree.get (stepped cause).node.requests req ≡ Some now)).
          unreplied (stepped cause) n (get-insert_same world.hosts n (stepped cause)) (not_lost host up) still.0 still.1
          (λ reply among. step_apart (input_of_cause cause) host.node (sound cause caused) req still.0 reply still.1 among))
          (λ (replied : (rsp : GuestRsp) × Contains (replies cause) (req, rsp)).
          absurd (both_ways (list_any (ends_write_of req) (history_of_cause script cause world (after cause))) unended
          (ends replied.0 replied.1)))
          (there_or_replied req cause host.node request got)

    -- at another node
    pub other_stays : (cause : NodeCause) → IsCause script world n host cause → (vid : ℕ)
        → (work : IsAtWork script world.hosts world.guests req vid) → work.n ≢ n
        → IsAtWork script (after cause).hosts (after cause).guests req vid
    other_stays cause caused vid work apart =
        unreplied_other
        (λ reply among.
        unreplied_elsewhere script range.is_script world began n work.n host work.host there work.there apart req work.request work.got
        cause caused reply among)
      where
        unreplied_other : ((reply : ℕ × GuestRsp) → Contains (replies cause) reply → reply.0 ≢ req)
            → IsAtWork script (after cause).hosts (after cause).guests req vid
        unreplied_other others = record {
          n = work.n;
          host = work.host;
          there = get-insert_other world.hosts n (stepped cause) work.n apart ∙ work.there;
          up = work.up;
          request = work.request;
          got = work.got;
          on = still_began script (progress_at_cause cause world) (replies cause) req (Some vid) others
              (found_began script world n host cause req (Some vid) work.on);
        }

    -- wherever it is
    pub step_stays : (cause : NodeCause) → IsCause script world n host cause → Writing script range req world.hosts → (vid : ℕ)
        → IsAtWork script world.hosts world.guests req vid
        → list_any (ends_write_of req) (history_of_cause script cause world (after cause)) ≡ false
        → IsAtWork script (after cause).hosts (after cause).guests req vid
    step_stays cause caused writes vid work unended = ⊎_elim
        (λ (same : work.n ≡ n).
        let found : work.host ≡ host = same_Some work.host host (sym work.there ∙ ap (tree.get world.hosts) same ∙ there) in
        let got : tree.get host.node.requests req ≡ Some work.request
        = ap (λ (h : Host). tree.get h.node.requests req) (sym found) ∙ work.got in
        own_stays cause caused vid work.request got work.on
        (replied_here cause caused vid work.request got work.on
        (λ other has write.
        stays_writing script range req world began n host there cause caused (old cause caused vid work.request got work.on) other has
        write writes)) unended)
        (λ (apart : work.n ≢ n). other_stays cause caused vid work apart)
        (cases_eq work.n n)

  -- ---- other events

  abbrev StaysThen : ℕ → EventOutcome → Type 0
  StaysThen vid m = list_any (ends_write_of req) m.grown ≡ false → IsAtWork script m.world.hosts m.world.guests req vid

  none_there : (o : Option Host) (host : Host) → is_some o ≡ false → o ≡ Some host → ⊥
  none_there None host none there = cc (there)
  none_there (Some other) host none there = cc (none)

  module _ (writes : Writing script range req world.hosts) (vid : ℕ) (work : IsAtWork script world.hosts world.guests req vid) where
    -- with another host for another node
    moved : (n : ℕ) (new : Host) (guests : Guests) → work.n ≢ n → BeganOn script guests req (Some vid)
        → IsAtWork script (tree.insert world.hosts n new) guests req vid
    moved n new guests apart on = record {
      n = work.n;
      host = work.host;
      there = get-insert_other world.hosts n new work.n apart ∙ work.there;
      up = work.up;
      request = work.request;
      got = work.got;
      on = on;
    }

    pub work_stays : (event : Event) (made : EventOutcome) → EventKind script event world made → StaysThen vid made
    work_stays event made (NodeStep h) =
        subst (StaysThen vid) h.made_so (λ unended. step_stays h.n h.host h.there h.up h.cause h.caused writes vid work unended)
    work_stays event made (UntoldLoss h) = subst (StaysThen vid) h.made_so (λ unended. work)
    work_stays event made (UnreadDelivery h) = subst (StaysThen vid) h.made_so (λ unended. work)
    work_stays event made (NodeLoss h) = subst (StaysThen vid) h.made_so (λ unended. ⊎_elim
        (λ (same : work.n ≡ h.n).
        let found : work.host ≡ h.host = same_Some work.host h.host (sym work.there ∙ ap (tree.get world.hosts) same ∙ h.there) in
        let got : tree.get h.host.node.requests req ≡ Some work.request
        = ap (λ (host : Host). tree.get host.node.requests req) (sym found) ∙ work.got in
        absurd (both_ways (list_any (ends_write_of req) (writers_lost script world h.n (Some h.host))) unended
        (lost_ends script range world h.n h.host h.there req work.request got
        (are_asked_by_line script world began h.n h.host h.there req work.request got
        (of_asking script req work.on.session work.on.asking)) writes
        (ap is_some (disk_of_began script world once req (Some vid) work.on)))))
        (λ (apart : work.n ≢ h.n). moved h.n (lost_host h.host) world.guests apart work.on)
        (cases_eq work.n h.n))
    work_stays event made (NodeLeave h) = subst (StaysThen vid) h.made_so (λ unended. work)
    work_stays event made (NodeReweight h) = subst (StaysThen vid) h.made_so (λ unended. work)
    work_stays event made (NodeJoin h) = subst (StaysThen vid) h.made_so (λ unended.
        moved h.n (joined_host script h.n) world.guests
        (λ same.
        none_there (tree.get world.hosts h.n) work.host
        (next_fits script world (lines.Join h.n) h.control (together script range world began).fit).1
        (ap (tree.get world.hosts) (sym same) ∙ work.there)) work.on)
    work_stays event made (NodeReturn h) =
        let log = log_after_return script h.n world in
        subst (StaysThen vid) h.made_so (λ unended.
        moved h.n (host_after_return log h.host) (fold (progress_after_reply script) world.guests
        (node_step (inputs.Back log) h.host.node).outputs.replies)
        (λ same.
        let found : work.host ≡ h.host = same_Some work.host h.host (sym work.there ∙ ap (tree.get world.hosts) same ∙ h.there) in
        let lost = ap (λ (host : Host). host.is_lost) found ∙ h.lost in
        both_ways work.host.is_lost work.up lost)
        (still_began script world.guests (node_step (inputs.Back log) h.host.node).outputs.replies req (Some vid)
        (λ reply among.
        absurd (Contains-nil reply
        (subst (λ (list : List (ℕ × GuestRsp)). Contains list reply) (back-silent log h.host.node) among))) work.on))
    work_stays event made (PhaseEnd h) = subst (StaysThen vid) h.made_so (λ unended. work)
