-- What holds of where each request is, by what is seen of its session, as requests take other courses or go, and sessions change.
use Rattle.std.proofs.Common.{◌≡◌, ◌≢◌, ⊎_elim, ℕ, None, sym, ap, subst, ◌∙◌}
use Rattle.std.specs.FinMap as tree
use Rattle.std.proofs.lemmas.Bool.{cases_eq}
use Rattle.proof_tools.proofs.FiniteMaps.{get-insert_other, get-remove_other, get-remove_same}
use Rattle.guest_driver.specs.InodeQueue.{InodeQueue}
use Rattle.sheep_node.specs.declared.course.Course.{Course}
use Rattle.sheep_node.specs.declared.session.Session.{Session}
use Rattle.sheep_node.specs.Changes.{HasRequest}
use Rattle.sheep_node.specs.SessionQueues.{session_among}
use Rattle.sheep_node.specs.StepState.{StepState, session_in}
use Rattle.sheep_node.proofs.OneWorkParts.{Requests, Sessions}
use Rattle.sheep_node.proofs.SessionViews.{IsSeen, same_seen, own_seen}

module _ {X : Type 0} (view : Session → X) (Q : ℕ → X → Course → Type 0) where
  -- each request is so
  abbrev pub AreSeen : Requests → Sessions → Type 0
  AreSeen requests sessions = (req : ℕ) → IsSeen view (Q req) sessions (tree.get requests req)

  abbrev pub AreSeenSoFar : StepState → Type 0
  AreSeenSoFar so_far = AreSeen so_far.node.requests so_far.node.sessions

  -- ---- sessions and requests

  pub session_seen : (requests : Requests) (sessions : Sessions) (number : ℕ) (session : Session)
      → view session ≡ view (session_among number sessions) → AreSeen requests sessions
      → AreSeen requests (tree.insert sessions number session)
  session_seen requests sessions number session same all q =
      same_seen view (Q q) sessions number session same (tree.get requests q) (all q)

  -- a request is in another course, and its session changes so that others stay where they are
  pub moved_seen : (req number : ℕ) (course : Course) (session : Session) (so_far : StepState) → Q req (view session) course
      → ((q : ℕ) → q ≢ req → IsSeen view (Q q) so_far.node.sessions (tree.get so_far.node.requests q)
      → IsSeen view (Q q) (tree.insert so_far.node.sessions number session) (tree.get so_far.node.requests q))
      → AreSeenSoFar so_far
      → AreSeen (tree.insert so_far.node.requests req (record { session = number; course = course }))
      (tree.insert so_far.node.sessions number session)
  moved_seen req number course session so_far is others all q = ⊎_elim
      (λ (own : q ≡ req).
      subst (λ (k : ℕ). IsSeen view (Q k) (tree.insert so_far.node.sessions number session)
      (tree.get (tree.insert so_far.node.requests req (record { session = number; course = course })) k)) (sym own)
      (own_seen view (Q req) so_far.node.sessions number session req course so_far.node.requests is))
      (λ (other : q ≢ req).
      subst (IsSeen view (Q q) (tree.insert so_far.node.sessions number session))
      (sym (get-insert_other so_far.node.requests req (record { session = number; course = course }) q other)) (others q other (all q)))
      (cases_eq q req)

  -- a request is gone, and its session changes so that others stay where they are
  pub gone_seen : (req number : ℕ) (session : Session) (so_far : StepState)
      → ((q : ℕ) → q ≢ req → IsSeen view (Q q) so_far.node.sessions (tree.get so_far.node.requests q)
      → IsSeen view (Q q) (tree.insert so_far.node.sessions number session) (tree.get so_far.node.requests q))
      → AreSeenSoFar so_far → AreSeen (tree.remove so_far.node.requests req) (tree.insert so_far.node.sessions number session)
  gone_seen req number session so_far others all q = ⊎_elim
      (λ (own : q ≡ req).
      let none : tree.get (tree.remove so_far.node.requests req) q ≡ None
      = ap (tree.get (tree.remove so_far.node.requests req)) own ∙ get-remove_same so_far.node.requests req in
      subst (IsSeen view (Q q) (tree.insert so_far.node.sessions number session)) (sym none) tt)
      (λ (other : q ≢ req).
      subst (IsSeen view (Q q) (tree.insert so_far.node.sessions number session))
      (sym (get-remove_other so_far.node.requests req q other)) (others q other (all q)))
      (cases_eq q req)

  -- where a request is
  pub course_seen : (number req : ℕ) (course : Course) (so_far : StepState) → HasRequest number req course so_far → AreSeenSoFar so_far
      → Q req (view (session_in number so_far)) course
  course_seen number req course so_far there all = subst (IsSeen view (Q req) so_far.node.sessions) there (all req)

  -- what is seen has nothing of the line of works on the inode
  pub lined_seen : ((session : Session) (queue : InodeQueue) → view (record session { inode_queue = queue }) ≡ view session)
      → (requests : Requests) (sessions : Sessions) (number : ℕ) (queue : InodeQueue) → AreSeen requests sessions
      → AreSeen requests (tree.insert sessions number (record (session_among number sessions) { inode_queue = queue }))
  lined_seen same requests sessions number queue =
      session_seen requests sessions number (record (session_among number sessions) { inode_queue = queue })
      (same (session_among number sessions) queue)
