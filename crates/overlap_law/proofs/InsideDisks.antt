-- The disk that a session has open is of the spec that the log says, and a write that isn't refused as it comes ends inside its disk.
use Rattle.std.proofs.Common.{◌≡◌, ℕ, ◌+◌, ◌≤◌, Bool, true, false, cond, List, length, Option, Some, None, refl, sym, ap, subst, ◌∙◌}
use Rattle.std.specs.Prelude.{nat_le, unwrap_or, IfSome}
use Rattle.std.specs.FinMap as tree
use Rattle.std.proofs.lemmas.Bool.{leb-true}
use Rattle.proof_tools.proofs.Booleans.{cond_either}
use Rattle.object_id.specs.declared.cause.Cause.{Cause}
use Rattle.object_id.specs.declared.cause.Cause.TheVariants.{InvalidParms, Readonly}
use Rattle.object_id.specs.declared.entry.Entry.{Entry}
use Rattle.vdi_directory.specs.Decisions.{log_effects}
use Rattle.cluster_script.specs.declared.statement.Statement.{Statement}
use Rattle.guest_driver.specs.declared.disk.Disk.{Disk}
use Rattle.guest_driver.specs.Refusals.{refusal_on}
use Rattle.peer_proto.specs.declared.guest.DiskAsk.TheVariants as disk_asks
use Rattle.sheep_node.specs.declared.ask.Ask.{Ask}
use Rattle.sheep_node.specs.declared.course.Request.{Request}
use Rattle.sheep_node.specs.declared.input.Input.TheVariants as inputs
use Rattle.sheep_node.specs.declared.session.Session.{Session}
use Rattle.sheep_node.specs.Guests.{on_guest, request_refusal, request_taken_unless}
use Rattle.sheep_node.specs.SessionQueues.{session_among}
use Rattle.sheep_node.specs.State.{Node, new_session}
use Rattle.sheep_node.specs.Step.{is_due, node_step, on_input, recovered_put, with_recovered}
use Rattle.sheep_node.specs.StepState.{StepState, at_first}
use Rattle.sheep_node.proofs.OneWorkParts.{Requests}
use Rattle.sheep_world.specs.World.{Host, World}
use Rattle.sheep_world.specs.Began.{Began}
use Rattle.sheep_world.proofs.LogFrontLaws.{all_read}
use Rattle.overlap_law.specs.Each.{spec_in}
use Rattle.overlap_law.specs.MomentChanges.{RunsAreInRange}
use Rattle.overlap_law.proofs.GrantedEpochs.{spec_stays}
use Rattle.overlap_law.proofs.KnownDisks.{IsKnownInode}
use Rattle.overlap_law.proofs.KnownDisksInRuns.{nodes_know}
use Rattle.peer_service.specs.State.{effects_of}

-- ---- the disk that is open

module _ (script : List Statement) (range : RunsAreInRange script) (world : World) (began : Began script world) (n : ℕ) (host : Host)
    (there : tree.get world.hosts n ≡ Some host) (number : ℕ) (disk : Disk)
    (opened : (session_among number host.node.sessions).disk ≡ Some disk) where
  pub known_here : IsKnownInode (effects_of host.node.peer) disk.inode
  known_here = by_session (tree.get host.node.sessions number) refl
    where
      by_session : (o : Option Session) → tree.get host.node.sessions number ≡ o → IsKnownInode (effects_of host.node.peer) disk.inode
      by_session None got =
          let closed : (session_among number host.node.sessions).disk ≡ None
          = ap (λ (o : Option Session). (unwrap_or o new_session).disk) got in
          absurd (cc (opened, closed))
      by_session (Some session) got =
          let own : session.disk ≡ Some disk
          = sym (ap (λ (o : Option Session). (unwrap_or o new_session).disk) got) ∙ opened in
          subst (λ (o : Option Disk). IfSome o (λ (d : Disk). IsKnownInode (effects_of host.node.peer) d.inode)) own
          ((nodes_know script range world began n host there).each_session number session got).disk

  pub open_spec : spec_in (log_effects world.log) disk.inode.vid ≡ Some disk.inode.spec
  open_spec =
      let front = all_read script world began n host there in
      ap (λ (log : List Entry). spec_in (log_effects log) disk.inode.vid) front.is
      ∙ spec_stays host.node.peer.entries front.rest disk.inode.vid disk.inode.spec known_here.disk.made

-- ---- a request that isn't refused

due_same : (so_far : StepState) → (recovered_put so_far).node.requests ≡ so_far.node.requests
unfolding recovered_put
due_same so_far =
    cond_either (λ (now : StepState). now.node.requests ≡ so_far.node.requests) (is_due so_far.node) (with_recovered so_far) so_far
    refl refl

pub not_refused : (req session : ℕ) (ask : Ask) (node : Node) (request : Request) → tree.get node.requests req ≡ None
    → tree.get (node_step (inputs.Guest req session ask) node).node.requests req ≡ Some request
    → request_refusal node.peer (session_among session node.sessions).disk ask ≡ None
unfolding node_step on_input on_guest
not_refused req session ask node request free got =
    by_refusal (request_refusal node.peer (session_among session node.sessions).disk ask) refl got
  where
    by_refusal : (o : Option Cause) → request_refusal node.peer (session_among session node.sessions).disk ask ≡ o
        → tree.get (recovered_put (request_taken_unless o session req ask (at_first node))).node.requests req ≡ Some request
        → request_refusal node.peer (session_among session node.sessions).disk ask ≡ None
    by_refusal None is got = is
    by_refusal (Some cause) is got =
        let same = due_same (request_taken_unless (Some cause) session req ask (at_first node)) in
        let none : None ≡ Some request = sym free ∙ sym (ap (λ (requests : Requests). tree.get requests req) same) ∙ got in
        absurd (cc (none))

-- it ends inside the disk
pub write_fits : (disk : Disk) (deleted : Bool) (offset : ℕ) (payload : List ℕ) → disk.snapshot ≡ false
    → refusal_on disk deleted (disk_asks.Write offset payload) ≡ None → offset + length payload ≤ disk.inode.spec.size
write_fits disk deleted offset payload working none =
    leb-true (offset + length payload) disk.inode.spec.size (by_fit (nat_le (offset + length payload) disk.inode.spec.size) refl)
  where
    by_fit : (b : Bool) → nat_le (offset + length payload) disk.inode.spec.size ≡ b
        → nat_le (offset + length payload) disk.inode.spec.size ≡ true
    by_fit true is = is
    by_fit false over =
        let past : refusal_on disk deleted (disk_asks.Write offset payload) ≡ Some InvalidParms
        = λ i. cond (working i) (Some Readonly) (cond (over i) None (Some InvalidParms)) in
        absurd (cc (past, none))
