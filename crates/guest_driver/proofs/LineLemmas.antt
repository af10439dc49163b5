-- The line of works on an inode: who comes later stands behind, and one work is open at a time.
use Rattle.std.proofs.Common.{◌≡◌, ℕ, ◌||◌, not, Bool, true, false, List, [], ◌∷◌, ◌++◌, map, option_to_list, Option, Some, None, is_none, refl, ap, sym, ◌∙◌, append_assoc}
use Rattle.std.proofs.lemmas.Bool.{cond-true}
use Rattle.std.proofs.lemmas.List.{map-append}
use Rattle.peer_proto.specs.declared.work.ObjWork.{ObjWork}
use Rattle.guest_driver.specs.InodeQueue.{is_on_inode, Waiting, InodeQueue, requests_in, may_open_work, queue_with_waiting, queue_after_end, queue_after_start}

pub queued_behind : (inode_queue : InodeQueue) (req : ℕ) (work : ObjWork) → requests_in (queue_with_waiting inode_queue req work) ≡ requests_in inode_queue ++ req ∷ []
queued_behind inode_queue req work =
    ap (λ reqs. option_to_list inode_queue.current ++ reqs)
    (map-append (λ (waiting : Waiting). waiting.req) inode_queue.waiting (record { req = req; work = work } ∷ []))
    ∙ sym (append_assoc (option_to_list inode_queue.current) (map (λ (waiting : Waiting). waiting.req) inode_queue.waiting) (req ∷ []))

next_stays : (current : Option ℕ) (waiting : List Waiting)
    → requests_in (queue_after_start (record { current = current; waiting = waiting })) ≡ requests_in (record { current = current; waiting = waiting })
next_stays None [] = refl
next_stays None (first ∷ later) = refl
next_stays (Some req) waiting = refl

pub next_in_order : (inode_queue : InodeQueue) → requests_in (queue_after_start inode_queue) ≡ requests_in inode_queue
next_in_order inode_queue = next_stays inode_queue.current inode_queue.waiting

pub ends_in_front : (inode_queue : InodeQueue) (req : ℕ) (work : ObjWork) → is_on_inode work ≡ true → inode_queue.current ≡ Some req
    → requests_in inode_queue ≡ req ∷ requests_in (queue_after_end inode_queue work)
ends_in_front inode_queue req work on is =
    ap (λ current. option_to_list current ++ map (λ (waiting : Waiting). waiting.req) inode_queue.waiting) is
    ∙ ap (λ reqs. req ∷ reqs)
    (sym (ap (λ current. option_to_list current ++ map (λ (waiting : Waiting). waiting.req) inode_queue.waiting)
    (cond-true (is_on_inode work) None inode_queue.current on)))

one_open : (on : Bool) (current : Option ℕ) → on ≡ true → (not on || is_none current) ≡ true → current ≡ None
one_open true None is may = refl
one_open true (Some req) is may = absurd (cc)
one_open false current is may = absurd (cc)

pub one_at_a_time : (inode_queue : InodeQueue) (work : ObjWork) → is_on_inode work ≡ true → may_open_work inode_queue work ≡ true → inode_queue.current ≡ None
one_at_a_time inode_queue work on may = one_open (is_on_inode work) inode_queue.current on may
