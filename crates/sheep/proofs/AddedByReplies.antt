-- What a reply that was given added is a part of the history: of a write that began on an open disk its end, of a read the blocks read.
use Rattle.std.proofs.Common.{◌≡◌, ℕ, Bool, true, List, [], ◌∷◌, ◌++◌, Contains, Option, Some, None, is_some, refl, sym, ap, subst, ◌∙◌, append-nil}
use Rattle.std.specs.Option.{option_map_or}
use Rattle.std.proofs.lemmas.Option.{same_Some}
use Rattle.proof_tools.proofs.Lists.{Contains-nil}
use Rattle.cluster_script.specs.declared.statement.Statement.{Statement}
use Rattle.cluster_script.specs.declared.statement.Statement.TheVariants as lines
use Rattle.cluster_script.specs.declared.statement.Pattern.{Pattern}
use Rattle.cluster_script.specs.NumberedRequests.{request_at}
use Rattle.disk_history.specs.declared.event.HistEvent.{HistEvent}
use Rattle.disk_history.specs.declared.event.HistEvent.TheVariants.{WriteDone, WriteRefused, Read}
use Rattle.peer_proto.specs.declared.guest.GuestRsp.{GuestRsp}
use Rattle.peer_proto.specs.declared.guest.GuestRsp.TheVariants as replies
use Rattle.sheep_node.specs.declared.check_write.CheckWrite.{CheckWrite}
use Rattle.sheep_node.specs.declared.event.Event.{Event}
use Rattle.sheep_node.specs.declared.event.Event.TheVariants as events
use Rattle.sheep_node.specs.declared.input.Input.{Input}
use Rattle.sheep_node.specs.declared.input.Input.TheVariants as inputs
use Rattle.sheep_node.specs.State.{Node}
use Rattle.sheep_node.specs.Step.{node_step}
use Rattle.sheep_world.specs.World.{Host, World, host_at}
use Rattle.sheep_world.specs.Enabled.{is_enabled}
use Rattle.sheep_world.specs.Effects.{guest_begun, with_entries, put_effect}
use Rattle.sheep_world.specs.NodeSteps.{world_after_step, node_stepped, at_rest}
use Rattle.sheep_world.specs.MembershipChanges.{host_changed, lost_host, control_taken, node_lost, node_left, node_joined, node_reweighted, revived_host}
use Rattle.sheep_world.specs.MembershipChanges.{join_of, last_weight, node_rejoined, came_back, phase_ended}
use Rattle.sheep_world.specs.HistoryAdditions.{writes_grown, each_block, write_ended, reply_adds, added_by, reply_grown}
use Rattle.sheep_world.specs.HistoryAdditions.{check_write_grown, check_write_by, replies_grown}
use Rattle.sheep_world.specs.MadeWorlds.{world_after_event, event_adds}
use Rattle.sheep_world.specs.Step.{EventOutcome, step}
use Rattle.sheep_world.proofs.EnabledLaws.{is_some-step}
use Rattle.sheep_world.proofs.MadeWorlds.{event-made}
use Rattle.dog_report.specs.Fates.{Answered}
use Rattle.dog_report.specs.Counts.{is_ok, is_refused}
use Rattle.message_wire.specs.declared.name.MessageName.{MessageName}
use Rattle.message_wire.specs.Message.{without_replies}
use Rattle.overlap_law.specs.DoneOnDisks.{world_without_reply}
use Rattle.sheep.specs.PrintedReplies.{IsGiven, check_write_at, world_asked, disk_begun_on, has_written, reply_added, HasPart}
use Rattle.sheep.proofs.ReplyLists.{flat_map-part, part-between, part-contains}
use Rattle.sheep_node.proofs.StepReplies.{put-silent, back-silent}

module _ (statements : List Statement) where
  -- ---- events that reply nothing

  silent_step : (node : ℕ) (input : Input) (world : World) → world.outputs.replies ≡ []
      → ((node : Node) → (node_step input node).outputs.replies ≡ []) → (node_stepped statements node input world).outputs.replies ≡ []
  unfolding node_stepped
  silent_step node input world none silent = by_host (host_at node world)
    where
      by_host : (o : Option Host)
          → (option_map_or (λ (host : Host). world_after_step statements node input host (node_step input host.node) world) o world).outputs.replies
          ≡ []
      by_host None = none
      by_host (Some host) = silent host.node

  changed_silent : (change : Host → Host) (node : ℕ) (host : Option Host) (world : World) → world.outputs.replies ≡ []
      → (host_changed change node host world).outputs.replies ≡ []
  changed_silent change node None world none = none
  changed_silent change node (Some host) world none = none

  -- ---- what is added

  -- what a reply adds, if it is among those of a world after an event
  abbrev IsAdded : Event → World → World → ℕ × GuestRsp → Type 0
  IsAdded event before after reply =
      HasPart (event_adds statements event before after)
      (reply_grown statements (world_without_reply statements event before) (check_write_at event before after) reply)

  never : (after : World) (reply : ℕ × GuestRsp) → after.outputs.replies ≡ [] → Contains after.outputs.replies reply → ⊥
  never after reply none there =
      Contains-nil reply (subst (λ (replies : List (ℕ × GuestRsp)). Contains replies reply) none there)

  among_replies : (before : World) (write : Option CheckWrite) (after : World) (reply : ℕ × GuestRsp) → Contains after.outputs.replies reply
      → HasPart (replies_grown statements before write after) (reply_grown statements before write reply)
  among_replies before write after reply there = flat_map-part (reply_grown statements before write) after.outputs.replies reply there

  behind : (front whole part : List HistEvent) → HasPart whole part → HasPart (front ++ whole) part
  behind front whole part has =
      subst (λ (all : List HistEvent). HasPart all part) (append-nil (front ++ whole)) (part-between front whole [] part has)

  added : (event : Event) (before : World) (reply : ℕ × GuestRsp)
      → Contains (world_after_event statements event before).outputs.replies reply
      → IsAdded event before (world_after_event statements event before) reply
  unfolding put_effect node_lost node_left node_joined node_reweighted came_back phase_ended
  added (events.Guest session) before reply there =
      behind (writes_grown statements session before) _ _
      (among_replies (guest_begun statements session before) None (world_after_event statements (events.Guest session) before) reply there)
  added (events.Deliver node number) before reply there =
      let name : MessageName = record { sender = node; number = number } in
      let after = world_after_event statements (events.Deliver node number) before in
      behind (option_map_or (check_write_grown statements) (check_write_by name before after) []) _ _
      (among_replies before (check_write_by name before after) after reply there)
  added (events.LoseRequest node number) before reply there =
      among_replies before None (world_after_event statements (events.LoseRequest node number) before) reply there
  added (events.LoseReply node number) before reply there =
      among_replies before None (world_after_event statements (events.LoseReply node number) before) reply there
  added (events.LogNext node) before reply there =
      among_replies before None (world_after_event statements (events.LogNext node) before) reply there
  added (events.Put node) before reply there =
      absurd (never (world_after_event statements (events.Put node) before) reply (silent_step node.0 inputs.Put (at_rest before) refl put-silent) there)
  added (events.RecoverTick node) before reply there =
      among_replies before None (world_after_event statements (events.RecoverTick node) before) reply there
  added (events.RetryTick node) before reply there =
      among_replies before None (world_after_event statements (events.RetryTick node) before) reply there
  added (events.Lost node) before reply there =
      absurd (never (world_after_event statements (events.Lost node) before) reply
      (changed_silent lost_host node.0 (host_at node.0 before)
      (record (control_taken (at_rest before)) { wire = without_replies node.0 before.wire }) refl) there)
  added (events.Leave node) before reply there = absurd (Contains-nil reply there)
  added (events.Join node) before reply there = absurd (Contains-nil reply there)
  added (events.Reweight node) before reply there = absurd (Contains-nil reply there)
  added (events.Back node) before reply there =
      absurd (never (world_after_event statements (events.Back node) before) reply
      (silent_step node.0 (inputs.Back (node_rejoined statements node.0 before).log) (node_rejoined statements node.0 before)
      (changed_silent revived_host node.0 (host_at node.0 before)
      (with_entries (join_of statements node.0 (last_weight before.log node.0) ∷ []) (control_taken (at_rest before))) refl)
      (back-silent (node_rejoined statements node.0 before).log)) there)
  added events.Phase before reply there = absurd (Contains-nil reply there)

  -- an event that happened made this, and added this
  made_so : (event : Event) (world : World) (made : EventOutcome) → step statements event world ≡ Some made
      → made ≡ record {
        world = world_after_event statements event world;
        grown = event_adds statements event world (world_after_event statements event world);
      }
  made_so event world made happens =
      let may : is_enabled statements world event ≡ true
      = sym (is_some-step statements world event) ∙ ap (λ (o : Option EventOutcome). is_some o) happens in
      same_Some made _
      (sym happens ∙ event-made statements event world (world_after_event statements event world) _ may refl refl)

  -- what a reply of an event adds is a part of what the event adds
  pub reply-added : (event : Event) (world : World) (made : EventOutcome) (reply : ℕ × GuestRsp) → step statements event world ≡ Some made
      → Contains made.world.outputs.replies reply
      → HasPart made.grown (reply_grown statements (world_without_reply statements event world) (check_write_at event world made.world) reply)
  reply-added event world made reply happens there =
      let so = made_so event world made happens in
      subst (λ (made : EventOutcome).
      HasPart made.grown (reply_grown statements (world_without_reply statements event world) (check_write_at event world made.world) reply))
      (sym so)
      (added event world reply (subst (λ (made : EventOutcome). Contains made.world.outputs.replies reply) so there))

-- ---- what it says

-- the end of a write that is told as done, and as refused
write_done : (req : ℕ) (rsp : GuestRsp) → is_ok (Answered rsp) ≡ true → write_ended req rsp ≡ WriteDone req
write_done req replies.Done is = refl
write_done req (replies.Piece bytes) is = refl
write_done req (replies.Refused cause) is = absurd (cc (is))
write_done req (replies.Granted vid) is = refl
write_done req (replies.Checked found) is = refl

write_refused : (req : ℕ) (rsp : GuestRsp) → is_refused (Answered rsp) ≡ true → write_ended req rsp ≡ WriteRefused req
write_refused req replies.Done is = absurd (cc (is))
write_refused req (replies.Piece bytes) is = absurd (cc (is))
write_refused req (replies.Refused cause) is = refl
write_refused req (replies.Granted vid) is = absurd (cc (is))
write_refused req (replies.Checked found) is = absurd (cc (is))

module _ (statements : List Statement) (all : List Event) (history : List HistEvent) (req : ℕ) (rsp : GuestRsp)
    (given : IsGiven statements all history req rsp) where
  -- what the reply added is a part of the history
  pub given-added : HasPart history (reply_added given)
  given-added =
      subst (λ (history : List HistEvent). HasPart history (reply_added given)) (sym given.kept)
      (part-between given.moment.history given.made.grown given.more (reply_added given)
      (reply-added statements given.event given.moment.world given.made (req, rsp) given.happens given.replied))

  module _ (disk : ℕ) (on : disk_begun_on given ≡ Some disk) where
    -- of a request of the script that began on a disk
    added_of : (s : Statement) → request_at statements req ≡ Some s
        → reply_added given ≡ reply_adds (has_written given) req rsp disk s
    added_of s asks =
        ap (λ (o : Option ℕ). added_by (has_written given) req rsp o (request_at statements req)) on
        ∙ ap (λ (o : Option Statement). added_by (has_written given) req rsp (Some disk) o) asks

    write_part : (session offset length : ℕ) (pattern : Pattern) → request_at statements req ≡ Some (lines.Write session offset length pattern)
        → HasPart history (write_ended req rsp ∷ [])
    write_part session offset length pattern asks =
        subst (λ (part : List HistEvent). HasPart history part) (added_of (lines.Write session offset length pattern) asks) given-added

    pub write-done : (session offset length : ℕ) (pattern : Pattern) → request_at statements req ≡ Some (lines.Write session offset length pattern)
        → is_ok (Answered rsp) ≡ true → Contains history (WriteDone req)
    write-done session offset length pattern asks ok =
        subst (λ (event : HistEvent). Contains history event) (write_done req rsp ok)
        (part-contains history (write_ended req rsp) (write_part session offset length pattern asks))

    pub write-refused : (session offset length : ℕ) (pattern : Pattern) → request_at statements req ≡ Some (lines.Write session offset length pattern)
        → is_refused (Answered rsp) ≡ true → Contains history (WriteRefused req)
    write-refused session offset length pattern asks refused =
        subst (λ (event : HistEvent). Contains history event) (write_refused req rsp refused)
        (part-contains history (write_ended req rsp) (write_part session offset length pattern asks))

    pub blocks-read : (session offset length : ℕ) (bytes : List ℕ) → request_at statements req ≡ Some (lines.Read session offset length)
        → rsp ≡ replies.Piece bytes → HasPart history (each_block (λ block piece. Read disk block piece) offset bytes)
    blocks-read session offset length bytes asks is =
        subst (λ (part : List HistEvent). HasPart history part)
        (added_of (lines.Read session offset length) asks
        ∙ ap (λ (rsp : GuestRsp). reply_adds (has_written given) req rsp disk (lines.Read session offset length)) is)
        given-added

    pub check-done : (session : ℕ) → request_at statements req ≡ Some (lines.Check session) → is_ok (Answered rsp) ≡ true
        → has_written given ≡ true → Contains history (WriteDone req)
    check-done session asks ok written =
        let added : reply_added given ≡ write_ended req rsp ∷ []
        = added_of (lines.Check session) asks ∙ ap (λ (b : Bool). reply_adds b req rsp disk (lines.Check session)) written in
        subst (λ (event : HistEvent). Contains history event) (write_done req rsp ok)
        (part-contains history (write_ended req rsp) (subst (λ (part : List HistEvent). HasPart history part) added given-added))
