-- Each work that a node has to do as an event begins is known, of what the node has read.
use Rattle.std.proofs.Common.{◌≡◌, inl, inr, ℕ, true, Contains, List, Option, Some, None, unwrap_or, refl, subst}
use Rattle.std.specs.FinMap as tree
use Rattle.std.proofs.lemmas.List.Elements.{All-contains}
use Rattle.proof_tools.proofs.Lists.{Contains-nil}
use Rattle.cluster_script.specs.declared.statement.Statement.{Statement}
use Rattle.gateway.specs.Work.{is_making}
use Rattle.guest_driver.specs.InodeQueue as lines
use Rattle.peer_proto.specs.declared.work.ObjWork.{ObjWork}
use Rattle.peer_proto.specs.declared.work.ObjWork.TheVariants as works
use Rattle.peer_service.specs.State.{effects_of}
use Rattle.sheep_node.specs.declared.session.Session.{Session}
use Rattle.sheep_node.specs.State.{new_session}
use Rattle.sheep_node.specs.WantedWorks.{HasWork}
use Rattle.sheep_world.specs.Began.{Began}
use Rattle.sheep_world.specs.World.{Host, World}
use Rattle.overlap_law.specs.Holders.{is_create_work}
use Rattle.overlap_law.specs.MomentChanges.{RunsAreInRange}
use Rattle.overlap_law.proofs.KnownDisks.{IsKnownWork}
use Rattle.overlap_law.proofs.KnownDisksInRuns.{nodes_know}

-- a create is to make something
pub creates-making : (work : ObjWork) → is_create_work work ≡ true → is_making work ≡ true
creates-making (works.Create oid policy size offset bytes) is = refl
creates-making (works.Write oid policy offset bytes) is = absurd (cc (is))
creates-making (works.Read oid policy offset size) is = absurd (cc (is))
creates-making (works.ReadAll oid policy size) is = absurd (cc (is))

module _ (script : List Statement) (range : RunsAreInRange script) (world : World) (began : Began script world) (n : ℕ) (host : Host)
    (at : tree.get world.hosts n ≡ Some host) (req : ℕ) (work : ObjWork) where
  pub work_known : HasWork req work host.node.gateway.works host.node.sessions → IsKnownWork (effects_of host.node.peer) work
  work_known (inl (one, got, same)) =
      subst (IsKnownWork (effects_of host.node.peer)) same
      ((nodes_know script range world began n host at).open_works req one got)
  work_known (inr (number, among)) = by_session (tree.get host.node.sessions number) refl among
    where
      by_session : (o : Option Session) → tree.get host.node.sessions number ≡ o
          → Contains (unwrap_or o new_session).inode_queue.waiting (record { req = req; work = work })
          → IsKnownWork (effects_of host.node.peer) work
      by_session None none among = absurd (Contains-nil (record { req = req; work = work }) among)
      by_session (Some session) got among =
          All-contains (λ (waiting : lines.Waiting). IsKnownWork (effects_of host.node.peer) waiting.work)
          session.inode_queue.waiting (record { req = req; work = work })
          ((nodes_know script range world began n host at).each_session number session got).waiting among
