-- What is among some objects is among more of them: what a node has, asks and is told, and its requests.
use Rattle.std.proofs.Common.{ℕ, List, ◌∷◌, length, All, Option, Some, None, IfSome}
use Rattle.std.specs.FinMap as tree
use Rattle.std.proofs.lemmas.List.Elements.{All-weaker}
use Rattle.inode.specs.Layout.{Content}
use Rattle.peer_proto.specs.declared.ask.PeerAsk.{PeerAsk}
use Rattle.peer_proto.specs.declared.ask.PeerAsk.TheVariants as asks
use Rattle.peer_proto.specs.declared.guest.DiskAsk.{DiskAsk}
use Rattle.peer_proto.specs.declared.guest.DiskAsk.TheVariants as disk_asks
use Rattle.peer_proto.specs.declared.say.PeerSay.{PeerSay}
use Rattle.peer_proto.specs.declared.say.PeerSay.TheVariants as says
use Rattle.peer_proto.specs.declared.work.ObjWork.{ObjWork}
use Rattle.peer_proto.specs.declared.work.ObjWork.TheVariants as works
use Rattle.guest_driver.specs.Driver as drivers
use Rattle.guest_driver.specs.Driver.{Driver, Reads, Writes}
use Rattle.guest_driver.specs.Pieces.{pieces}
use Rattle.recovery.specs.State.{Search}
use Rattle.sheep_node.specs.declared.course.Course.{Course}
use Rattle.sheep_node.specs.declared.course.Course.TheVariants.{Waiting, Driving, Commanding, Checking, DoingWork, AwaitingDecision}
use Rattle.sheep_node.specs.declared.course.Request.{Request}
use Rattle.sheep_node.specs.State.{Node}
use Rattle.sheep_node.specs.SessionQueues.{session_among}
use Rattle.sheep_node.proofs.OneWorkParts.{Requests, Sessions}
use Rattle.sheep_node.proofs.SessionViews.{open_in, IsSeen}
use Rattle.overlap_law.proofs.ObjectsOfRequests.{IsOwn, CreatesWithin, IsAskWithin, IsLeftWithin, IsCourseWithin, AreWithin}
use Rattle.overlap_law.proofs.ObjectsOfRows.{AskWithin, IsRowAskWithin, IsAskedWithin, SaidWithin, HasWithin}

module _ (K L : ℕ → Type 0) (more : (oid : ℕ) → K oid → L oid) where
  pub ask_grows : (ask : PeerAsk) → AskWithin K ask → AskWithin L ask
  ask_grows (asks.Create key size offset bytes) is = more key.oid is
  ask_grows (asks.Write key offset bytes) is = tt
  ask_grows (asks.Read key offset size) is = tt
  ask_grows asks.List is = tt
  ask_grows (asks.RecoverRead oid level) is = tt

  pub said_grows : (say : PeerSay) → SaidWithin K say → SaidWithin L say
  said_grows says.Success is = tt
  said_grows (says.Piece bytes) is = tt
  said_grows (says.Objects oids) is = All-weaker K L more oids is
  said_grows (says.Row row) is = tt
  said_grows says.NoRow is = tt
  said_grows (says.Refused refusal) is = tt

  pub node_grows : (node : Node) → HasWithin K node → HasWithin L node
  node_grows node is = record {
    rows = All-weaker K L more (tree.keys node.peer.rows) is.rows;
    pending = by_pending node.peer.pending is.pending;
    listed = All-weaker K L more node.recovery.lists.objects is.listed;
    searched = by_search node.recovery.search is.searched;
    asked = All-weaker (IsAskedWithin K) (IsAskedWithin L) (λ message asked. asked_grows message.request.ask asked) node.recovery.unanswered
        is.asked;
  }
    where
      asked_grows : (ask : PeerAsk) → IsRowAskWithin K ask → IsRowAskWithin L ask
      asked_grows (asks.Create key size offset bytes) own = tt
      asked_grows (asks.Write key offset bytes) own = tt
      asked_grows (asks.Read key offset size) own = tt
      asked_grows asks.List own = tt
      asked_grows (asks.RecoverRead oid level) own = more oid own

      by_pending : (o : Option (List ℕ)) → IfSome o (All K) → IfSome o (All L)
      by_pending None all = tt
      by_pending (Some oids) all = All-weaker K L more oids all

      by_search : (o : Option Search) → IfSome o (λ (search : Search). K search.oid) → IfSome o (λ (search : Search). L search.oid)
      by_search None own = tt
      by_search (Some search) own = more search.oid own

  creates_grow : (work : ObjWork) → CreatesWithin K work → CreatesWithin L work
  creates_grow (works.Create oid policy size offset bytes) is = more oid is
  creates_grow (works.Write oid policy offset bytes) is = tt
  creates_grow (works.Read oid policy offset size) is = tt
  creates_grow (works.ReadAll oid policy size) is = tt

  new_grows : (inode : Content) (ask : DiskAsk) → IsAskWithin K inode ask → IsAskWithin L inode ask
  new_grows inode (disk_asks.Read offset size) is = tt
  new_grows inode (disk_asks.Write offset payload) is =
      All-weaker (IsOwn K inode.vid) (IsOwn L inode.vid) (λ piece own. more _ own) (pieces inode.spec.shift offset (length payload)) is

  left_grows : (vid : ℕ) (driver : Driver) → IsLeftWithin K vid driver → IsLeftWithin L vid driver
  left_grows vid (Reads told piece rest) is = tt
  left_grows vid (Writes payload stage piece rest) is = All-weaker (IsOwn K vid) (IsOwn L vid) (λ piece own. more _ own) (piece ∷ rest) is
  left_grows vid drivers.Answered is = tt

  course_grows : (inode : Option Content) (course : Course) → IsCourseWithin K inode course → IsCourseWithin L inode course
  course_grows None (Waiting ask) is = tt
  course_grows (Some inode) (Waiting ask) is = new_grows inode ask is
  course_grows None (Driving driver) is = tt
  course_grows (Some inode) (Driving driver) is = left_grows inode.vid driver is
  course_grows inode (Commanding op) is = tt
  course_grows inode (Checking check) is = tt
  course_grows inode (DoingWork asked) is = creates_grow asked is
  course_grows inode (AwaitingDecision entry) is = tt

  pub requests_grow : (requests : Requests) (sessions : Sessions) → AreWithin K requests sessions → AreWithin L requests sessions
  requests_grow requests sessions all req = by_request (tree.get requests req) (all req)
    where
      by_request : (o : Option Request) → IsSeen open_in (IsCourseWithin K) sessions o → IsSeen open_in (IsCourseWithin L) sessions o
      by_request None is = tt
      by_request (Some request) is = course_grows (open_in (session_among request.session sessions)) request.course is
