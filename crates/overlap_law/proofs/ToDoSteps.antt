-- The works that a node has to do, open or in a line, are those that its requests have; so what holds of each stays over a change of the
-- node, if it holds of the work that a request asks for next.
use Rattle.std.proofs.Common.{◌≡◌, inl, inr, ℕ, Contains, Option, Some, None, unwrap_or, refl, sym, subst}
use Rattle.std.specs.Ordering.{nat_cmp}
use Rattle.std.specs.FinMap as tree
use Rattle.proof_tools.proofs.Lists.{Contains-nil}
use Rattle.peer_proto.specs.declared.work.ObjWork.{ObjWork}
use Rattle.gateway.specs.State.{Work}
use Rattle.guest_driver.specs.InodeQueue as lines
use Rattle.sheep_node.specs.declared.session.Session.{Session}
use Rattle.sheep_node.specs.State.{Node, new_session}
use Rattle.sheep_node.specs.OneWork.{waiting_in}
use Rattle.sheep_node.specs.WantedWorks.{HasWork}
use Rattle.sheep_node.proofs.AwaitedWorks.{Works}
use Rattle.sheep_node.proofs.OneWorkParts.{Sessions}
use Rattle.overlap_law.specs.ToDo.{IsToDo, IsInLine}
use Rattle.overlap_law.proofs.AttemptLists.{place_of}
use Rattle.overlap_law.proofs.AttemptMessages.{contains_at}
use Rattle.overlap_law.proofs.WorksCome.{AreAll}

-- it holds of each work, whichever request has it
abbrev pub AreToDo : (ObjWork → Type 0) → Works → Sessions → Type 0
AreToDo P works sessions = AreAll (λ req work. P work) works sessions

-- a work to do is a request's
pub request_of : (node : Node) (work : ObjWork) → IsToDo node work → (req : ℕ) × HasWork req work node.gateway.works node.sessions
request_of node work (inl is) = (is.req, inl (is.open_work, is.there, is.same))
request_of node work (inr is) = (is.waiting.req, inr (is.number, among))
  where
    among : Contains (waiting_in is.number node.sessions) (record { req = is.waiting.req; work = work })
    among =
        subst (λ (work : ObjWork). Contains (waiting_in is.number node.sessions) (record { req = is.waiting.req; work = work })) is.same
        (subst (λ (o : Option Session). Contains (unwrap_or o new_session).inode_queue.waiting is.waiting) (sym is.there)
        (contains_at is.session.inode_queue.waiting is.place is.waiting is.among))

-- and a request's work is to do
pub to_do_of : (node : Node) (req : ℕ) (work : ObjWork) → HasWork req work node.gateway.works node.sessions → IsToDo node work
to_do_of node req work (inl (one, got, same)) = inl (record { req = req; open_work = one; there = got; same = same })
to_do_of node req work (inr (number, there)) = inr (by_got (tree.get node.sessions number) refl there)
  where
    here : lines.Waiting
    here = record { req = req; work = work }

    by_got : (o : Option Session) → tree.get node.sessions number ≡ o → Contains (unwrap_or o new_session).inode_queue.waiting here
        → IsInLine node work
    by_got None got there = absurd (Contains-nil here there)
    by_got (Some session) got there =
        let (place, at) = place_of session.inode_queue.waiting here there in
        record { number = number; session = session; place = place; waiting = here; there = got; among = at; same = refl }

-- a node that has just begun has none
pub none_to_do : (P : ObjWork → Type 0) → AreToDo P tree.empty tree.empty
none_to_do P req work (inl (one, got, same)) =
    let none : tree.get (tree.empty {X = Work} {R = nat_cmp}) req ≡ None = tree.get-empty {X = Work} nat_cmp req in
    absurd (cc (got, none))
none_to_do P req work (inr (number, there)) =
    absurd (Contains-nil (record { req = req; work = work })
    (subst (λ (o : Option Session). Contains (unwrap_or o new_session).inode_queue.waiting (record { req = req; work = work }))
    (tree.get-empty {X = Session} nat_cmp number) there))
