-- The line of a session's works on its disk's inode: one is done at a time, the others wait in the order in which they came.
use Rattle.std.specs.Prelude.{ℕ, ◌||◌, not, Bool, true, false, List, [], ◌∷◌, ◌++◌, map, option_to_list, Option, Some, None, is_none}
use Rattle.std.specs.Prelude.{if◌then◌else◌}
use Rattle.object_id.specs.declared.oid.Kind.{Kind}
use Rattle.object_id.specs.declared.oid.Kind.TheVariants.{Block, Inode}
use Rattle.object_id.specs.Oid.{kind_of}
use Rattle.peer_proto.specs.declared.work.ObjWork.{ObjWork}
use Rattle.peer_proto.specs.Work.{oid_of}

-- whether an object is an inode
abbrev pub is_inode : Kind → Bool
is_inode Block = false
is_inode Inode = true

-- whether a work is on an inode
abbrev pub is_on_inode : ObjWork → Bool
is_on_inode work = is_inode (kind_of (oid_of work))

-- a work, with the number of the request that it is of
pub record Waiting : Type 0 where
  pub req : ℕ
  pub work : ObjWork

-- the request whose work on the inode is open, and the works that wait, the first to come in front
pub record InodeQueue : Type 0 where
  pub current : Option ℕ
  pub waiting : List Waiting

-- the requests in the line, in their order
abbrev pub requests_in : InodeQueue → List ℕ
requests_in inode_queue = option_to_list inode_queue.current ++ map (λ (waiting : Waiting). waiting.req) inode_queue.waiting

-- nobody is in the line
abbrev pub empty_inode_queue : InodeQueue
empty_inode_queue = record { current = None; waiting = [] }

-- whether a work may begin at once: one on a data object always, one on the inode where no other is open
abbrev pub may_open_work : InodeQueue → ObjWork → Bool
may_open_work inode_queue work = not (is_on_inode work) || is_none inode_queue.current

-- the line once a request came to a work that began at once
abbrev pub queue_with_open : InodeQueue → ℕ → ObjWork → InodeQueue
queue_with_open inode_queue req work =
    record inode_queue { current = if is_on_inode work then Some req else inode_queue.current }

-- the line once a request came to a work that has to wait
abbrev pub queue_with_waiting : InodeQueue → ℕ → ObjWork → InodeQueue
queue_with_waiting inode_queue req work = record inode_queue { waiting = inode_queue.waiting ++ record { req = req; work = work } ∷ [] }

-- the line once a work is done or refused
abbrev pub queue_after_end : InodeQueue → ObjWork → InodeQueue
queue_after_end inode_queue work =
    record inode_queue { current = if is_on_inode work then None else inode_queue.current }

-- the first that waits
abbrev pub first_waiting : List Waiting → Option Waiting
first_waiting [] = None
first_waiting (first ∷ later) = Some first

-- which work begins next: where none is open, the first that waits
abbrev pub next_work : InodeQueue → Option Waiting
next_work inode_queue = if is_none inode_queue.current then first_waiting inode_queue.waiting else None

-- the line once the first that waits began
abbrev pub taken_from : InodeQueue → List Waiting → InodeQueue
taken_from inode_queue [] = inode_queue
taken_from inode_queue (first ∷ later) = record { current = Some first.req; waiting = later }

-- the line once its next work began
abbrev pub queue_after_start : InodeQueue → InodeQueue
queue_after_start inode_queue = if is_none inode_queue.current then taken_from inode_queue inode_queue.waiting else inode_queue
