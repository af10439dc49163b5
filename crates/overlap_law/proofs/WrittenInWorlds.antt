-- A check that has come to a write has come to one at each node that has it: its own node's steps keep that, no other node has it, and a
-- node that is lost keeps what it had.
use Rattle.std.proofs.Common.{refl, ◌≡◌, ◌≢◌, ⊎_elim, ℕ, List, Some, subst}
use Rattle.std.specs.FinMap as tree
use Rattle.proof_tools.proofs.FiniteMaps.{get-insert_cases}
use Rattle.cluster_script.specs.declared.statement.Statement.{Statement}
use Rattle.peer_proto.specs.declared.say.PeerRsp.{PeerRsp}
use Rattle.sheep_node.specs.declared.ask.Ask.{Ask}
use Rattle.sheep_node.specs.declared.check_write.CheckWrite.{CheckWrite}
use Rattle.sheep_node.specs.declared.course.Course.TheVariants.{Checking}
use Rattle.sheep_node.specs.declared.input.Input.{Input}
use Rattle.sheep_node.specs.declared.input.Input.TheVariants as inputs
use Rattle.sheep_node.specs.CheckWrites.{check_write_on}
use Rattle.sheep_node.specs.Step.{node_step}
use Rattle.sheep_world.specs.World.{Host, World}
use Rattle.sheep_world.specs.Began.{Began}
use Rattle.sheep_world.specs.NodeCauses.{host_with_node}
use Rattle.overlap_law.specs.Words.{Hosts}
use Rattle.overlap_law.proofs.ComingWrites.{coming}
use Rattle.overlap_law.proofs.SessionsOfRequests.{are_scripts, are_asked_by_line, of_asking}
use Rattle.overlap_law.proofs.UnansweredRequests.{others_unreplied}
use Rattle.overlap_law.proofs.WrittenChecks.{HasWritten, step-written}
use Rattle.overlap_law.proofs.WritingChecks.{reply-written}
use Rattle.cluster_script.specs.Language.{IsScript}

module _ (req : ℕ) where
  -- the request, at each node that has it, has come to a write
  abbrev pub HaveWritten : Hosts → Type 0
  HaveWritten hosts = (m : ℕ) (host : Host) → tree.get hosts m ≡ Some host → HasWritten req host.node.requests

  -- where the host of one node is another
  pub changed_written : (hosts : Hosts) (n : ℕ) (new : Host) → HasWritten req new.node.requests
      → ((m : ℕ) (host : Host) → m ≢ n → tree.get hosts m ≡ Some host → HasWritten req host.node.requests)
      → HaveWritten (tree.insert hosts n new)
  changed_written hosts n new own others m host got = ⊎_elim
      (λ (same : (m ≡ n) × (new ≡ host)). subst (λ (h : Host). HasWritten req h.node.requests) same.1 own)
      (λ (apart : (m ≢ n) × (tree.get hosts m ≡ Some host)). others m host apart.0 apart.1)
      (get-insert_cases hosts n new m host got)

  pub one_written : (hosts : Hosts) (n : ℕ) (new : Host) → HasWritten req new.node.requests → HaveWritten hosts
      → HaveWritten (tree.insert hosts n new)
  one_written hosts n new own have = changed_written hosts n new own (λ m host apart got. have m host got)

  -- a node steps, on anything but this request
  pub stepped_written : (hosts : Hosts) (n : ℕ) (host : Host) (input : Input) → tree.get hosts n ≡ Some host
      → ((session : ℕ) (ask : Ask) → input ≢ inputs.Guest req session ask) → HaveWritten hosts
      → HaveWritten (tree.insert hosts n (host_with_node host (node_step input host.node).node))
  stepped_written hosts n host input there old have =
      one_written hosts n (host_with_node host (node_step input host.node).node)
      (step-written req input host.node old (have n host there)) have

-- a check that comes to a write by a reply has come to one at its node, and no other node has it
pub reply_written : (script : List Statement) → IsScript script → (world : World) → Began script world → (n : ℕ) (host : Host)
    → tree.get world.hosts n ≡ Some host → (rsp : PeerRsp) (write : CheckWrite) → check_write_on (inputs.Reply rsp) host.node ≡ Some write
    → HaveWritten write.req (tree.insert world.hosts n (host_with_node host (node_step (inputs.Reply rsp) host.node).node))
reply_written script is_script world began n host there rsp write is =
    let comes = coming write rsp host.node is in
    let here = are_scripts script is_script world began n host there write.req
    (record { session = comes.session; course = Checking comes.check }) comes.there refl in
    changed_written write.req world.hosts n (host_with_node host (node_step (inputs.Reply rsp) host.node).node)
    (reply-written write rsp host.node is)
    (λ m other apart got request has.
    absurd (others_unreplied script n m host.incarnation other.incarnation write.req comes.session request.session apart here
    (are_asked_by_line script world began m other got write.req request has (of_asking script write.req comes.session here.asking))))
