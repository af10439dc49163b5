-- What Lost, Phase and a write of a guest make, part by part.
use Rattle.std.proofs.Common.{◌≡◌, ⊎_elim, arith, ℕ, zero, suc, ◌+◌, ◌/◌, ◌==◌, Bool, true, false, not, ◌&&◌, cond, List, [], ◌∷◌, ◌++◌, length, map, filter, Contains, Option, Some, None, is_some, refl, sym, ap, subst, ◌∙◌}
use Rattle.std.specs.List.{range_with_len}
use Rattle.std.specs.Option.{option_map_or}
use Rattle.std.specs.FinMap as tree
use Rattle.std.proofs.lemmas.Bool.{eqb-true, and_parts}
use Rattle.std.proofs.lemmas.Option.{cond_some}
use Rattle.object_id.specs.declared.node.NodeId.{NodeId}
use Rattle.object_id.specs.declared.limits.TheConstants.{BLOCK_BYTES}
use Rattle.cluster_script.specs.declared.statement.Statement.{Statement}
use Rattle.cluster_script.specs.NumberedRequests.{session_of, numbered_requests}
use Rattle.cluster_script.specs.Sessions.{ScriptSession, session_numbered}
use Rattle.disk_history.specs.declared.event.HistEvent.{HistEvent}
use Rattle.disk_history.specs.declared.event.HistEvent.TheVariants.{WriteStart, WriterLost}
use Rattle.guest_driver.specs.declared.disk.Disk.{Disk}
use Rattle.object_id.specs.declared.oid.Kind.TheVariants.{Block}
use Rattle.gf256.specs.Part.{is_in_strips}
use Rattle.proof_tools.proofs.Lists.{Contains-nil, Contains-head, Contains-cons, Contains-cons_cases, filter-contains}
use Rattle.sheep_node.specs.declared.event.Event.TheVariants as events
use Rattle.message_wire.specs.declared.name.MessageName.{MessageName}
use Rattle.message_wire.specs.declared.packet.Packet.{Packet}
use Rattle.message_wire.specs.Message.{is_reply_to, without_replies}
use Rattle.sheep_world.specs.World.{Host, World, host_at, message_at}
use Rattle.sheep_world.specs.Opening.{controls_at, losses_at}
use Rattle.sheep_world.specs.Conditions.{may_lose_node, may_end_phase}
use Rattle.sheep_world.specs.MembershipChanges.{lost_host, control_taken, host_changed, node_lost, phase_ended}
use Rattle.sheep_world.specs.HistoryAdditions.{begun_block, block_in, writes_begin, is_write, is_of_incarnation, disk_of, is_lost_write, writers_lost, IsLostWrite, is_writing_request}
use Rattle.sheep_world.specs.NodeSteps.{at_rest}
use Rattle.sheep_world.specs.Step.{EventOutcome, only, loss_made, step}
use Rattle.sheep_world.proofs.EnabledLaws.{looked_up}
use Rattle.sheep_world.proofs.LostReplies.{retained}

-- what is among mapped elements is of one of them
map-contains : {X Y : Type 0} (f : X → Y) (xs : List X) (y : Y) → Contains (map f xs) y → (x : X) × Contains xs x × (f x ≡ y)
map-contains f [] y there = absurd (Contains-nil y there)
map-contains {X} {Y} f (x ∷ xs) y there = ⊎_elim
    (λ (here : f x ≡ y). (x, Contains-head x xs, here))
    (λ (later : Contains (map f xs) y).
    let (found, among, same) = map-contains f xs y later in
    (found, Contains-cons x xs found among, same))
    (Contains-cons_cases (f x) (map f xs) y there)

module _ (statements : List Statement) (world : World) (made : EventOutcome) (node : NodeId) (is : step statements (events.Lost node) world ≡ Some made) where
  loss_is : loss_made statements node.0 world (node_lost node.0 world) ≡ made
  unfolding step
  loss_is = (cond_some (may_lose_node node.0 world) (loss_made statements node.0 world (node_lost node.0 world)) made is).1

  -- the replies to the node go, and all else stays
  pub replies_go : (name : MessageName) → message_at name made.world ≡ cond (is_reply_to node.0 name (message_at name world)) None (message_at name world)
  unfolding node_lost
  replies_go name =
      sym (ap (λ (m : EventOutcome). message_at name m.world) loss_is) ∙ by_host (host_at node.0 world)
      ∙ retained world.wire (λ name. not (is_reply_to node.0 name (tree.get world.wire name))) name
      ∙ turned (is_reply_to node.0 name (message_at name world)) (message_at name world)
    where
      turned : (b : Bool) (o : Option Packet) → cond (not b) o None ≡ cond b None o
      turned true o = refl
      turned false o = refl

      by_host : (o : Option Host)
          → message_at name (host_changed lost_host node.0 o (record (control_taken (at_rest world)) { wire = without_replies node.0 world.wire }))
          ≡ tree.get (without_replies node.0 world.wire) name
      by_host None = refl
      by_host (Some host) = refl

  -- a writer that is lost is a write of the present incarnation that has no reply
  pub writers_are : (event : HistEvent) → Contains made.grown event
      → (request : ℕ × Statement) × (event ≡ WriterLost request.0) × IsLostWrite statements world node.0 request
  writers_are event there = by_host (host_at node.0 world) refl (subst (λ (m : EventOutcome). Contains m.grown event) (sym loss_is) there)
    where
      by_host : (o : Option Host) → host_at node.0 world ≡ o → Contains (writers_lost statements world node.0 o) event
          → (request : ℕ × Statement) × (event ≡ WriterLost request.0) × IsLostWrite statements world node.0 request
      by_host None at none = absurd (Contains-nil event none)
      by_host (Some host) at lost =
          let (request, among, same) = map-contains (λ (request : ℕ × Statement). WriterLost request.0)
          (filter (is_lost_write statements world node.0 host) (numbered_requests statements)) event lost in
          let (asked, passes) = filter-contains (is_lost_write statements world node.0 host) (numbered_requests statements) request among in
          let parts = and_parts (is_writing_request host.node request && option_map_or (is_of_incarnation statements node.0 host.incarnation) (session_of request.1) false)
          (is_some (disk_of statements request.0 world)) passes in
          let writes = and_parts (is_writing_request host.node request) (option_map_or (is_of_incarnation statements node.0 host.incarnation) (session_of request.1) false) parts.0 in
          let (number, of, own) = looked_up (is_of_incarnation statements node.0 host.incarnation) (session_of request.1) writes.1 in
          let (session, declared, is_own) = looked_up (λ (of : ScriptSession). of.node == node.0 && of.incarnation == host.incarnation)
          (session_numbered statements number) own in
          let ends = and_parts (session.node == node.0) (session.incarnation == host.incarnation) is_own in (
            request,
            sym same,
            record {
              host = host;
              there = at;
              asked = asked;
              writes = writes.0;
              number = number;
              of = of;
              session = session;
              declared = declared;
              gateway = eqb-true session.node node.0 ends.0;
              lived = eqb-true session.incarnation host.incarnation ends.1;
              on_disk = parts.1;
            },
          )

-- the next phase is present, with its own losses, and its controls behind those that are left
pub phase_is_present : (statements : List Statement) (world : World) (made : EventOutcome) → step statements events.Phase world ≡ Some made
    → (made.world.phase ≡ world.phase + 1) × (made.world.losses ≡ losses_at statements (world.phase + 1))
    × (made.world.controls ≡ world.controls ++ controls_at statements (world.phase + 1))
unfolding step phase_ended
phase_is_present statements world made is = subst
    (λ (m : EventOutcome). (m.world.phase ≡ world.phase + 1) × (m.world.losses ≡ losses_at statements (world.phase + 1))
    × (m.world.controls ≡ world.controls ++ controls_at statements (world.phase + 1)))
    (cond_some (may_end_phase statements world) (only (phase_ended statements world)) made is).1 (refl, refl, refl)

-- ---- the blocks of a write

row_of : (f : ℕ → HistEvent) (first start count : ℕ) → ((place : ℕ) → begun_block (f place) ≡ Some (first + place))
    → map begun_block (map f (range_with_len start count)) ≡ map (λ (block : ℕ). Some block) (range_with_len (first + start) count)
row_of f first start zero blocks = refl
row_of f first start (suc count) blocks =
    let next : first + (start + 1) ≡ (first + start) + 1 = omega arith in
    (λ i. blocks start i ∷ (row_of f first (start + 1) count blocks
    ∙ ap (λ (from : ℕ). map (λ (block : ℕ). Some block) (range_with_len from count)) next) i)

-- of each block of a piece one write begins, in order
pub begins-blocks : (req offset : ℕ) (bytes : List ℕ) (disk : Disk)
    → map begun_block (writes_begin req offset bytes disk)
    ≡ map (λ (block : ℕ). Some block) (range_with_len (offset / BLOCK_BYTES) (length bytes / BLOCK_BYTES))
begins-blocks req offset bytes disk =
    let same : (offset / BLOCK_BYTES) + 0 ≡ offset / BLOCK_BYTES = omega arith in
    row_of (λ (place : ℕ). WriteStart req disk.inode.vid (offset / BLOCK_BYTES + place) (is_in_strips disk.inode.spec.policy Block) (block_in bytes place))
    (offset / BLOCK_BYTES) 0 (length bytes / BLOCK_BYTES) (λ place. refl)
    ∙ ap (λ (from : ℕ). map (λ (block : ℕ). Some block) (range_with_len from (length bytes / BLOCK_BYTES))) same
