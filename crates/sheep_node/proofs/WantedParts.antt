-- Works and what their requests wait for, as works begin and end, and as their sessions change.
use Rattle.std.proofs.Common.{◌≡◌, ◌≢◌, ℕ, List, [], ◌∷◌, ◌++◌, Contains, Option, Some, None, unwrap_or, refl, sym, ap, subst, ◌∙◌, inl, inr, ⊎_elim}
use Rattle.std.specs.FinMap as tree
use Rattle.std.proofs.lemmas.Bool.{cases_eq}
use Rattle.std.proofs.lemmas.List.Elements.{Contains-push_cases}
use Rattle.proof_tools.proofs.FiniteMaps.{get-insert_cases, get-insert_other, get-insert_same, get-remove_other, get-remove_same}
use Rattle.inode.specs.Layout.{Content}
use Rattle.peer_proto.specs.declared.work.ObjWork.{ObjWork}
use Rattle.peer_proto.specs.declared.guest.GuestRsp.{GuestRsp}
use Rattle.gateway.specs.declared.message.Status.{Status}
use Rattle.gateway.specs.State.{Work, Gateway}
use Rattle.gateway_queue.specs.Queue.{queue_without}
use Rattle.guest_driver.specs.InodeQueue as lines
use Rattle.guest_driver.specs.InodeQueue.{queue_with_open, queue_with_waiting, queue_after_end}
use Rattle.sheep_node.specs.declared.course.Course.{Course}
use Rattle.sheep_node.specs.declared.course.Request.{Request}
use Rattle.sheep_node.specs.declared.session.Session.{Session}
use Rattle.sheep_node.specs.declared.course.Course.TheVariants.{Waiting, Driving, Commanding, Checking, DoingWork, AwaitingDecision}
use Rattle.sheep_node.specs.State.{new_session}
use Rattle.sheep_node.specs.StepState.{StepState, session_in, request_ended}
use Rattle.sheep_node.specs.Courses.{inode_open}
use Rattle.sheep_node.specs.OneWork.{waiting_in}
use Rattle.sheep_node.specs.SessionQueues.{session_among}
use Rattle.sheep_node.specs.WantedWorks.{IsWorkWanted, IsWantedAt, HasWork, HaveWantedWorks}
use Rattle.sheep_node.specs.Changes.{IsApart, without_ended_work}
use Rattle.sheep_node.proofs.AwaitedWorks.{Works}
use Rattle.sheep_node.proofs.OneWorkParts.{Requests, Sessions, same_waiting}
use Rattle.sheep_node.proofs.SessionViews.{open_in, same_seen}
use Rattle.sheep_node.proofs.WantedSteps.{work_of_driver-alike}

abbrev pub AreWanted : StepState → Type 0
AreWanted so_far = HaveWantedWorks so_far.node.gateway.works so_far.node.requests so_far.node.sessions

-- that a course waits for a work
abbrev pub Waits : ObjWork → Option Content → Course → Type 0
Waits work inode course = IsWorkWanted inode course work

-- and so it does once its disk has another table
pub still_waits : (old new : Content) (work : ObjWork) → new.spec ≡ old.spec → new.vid ≡ old.vid → (course : Course) → Waits work (Some old) course
    → Waits work (Some new) course
still_waits old new work spec vid (Waiting ask) is = is
still_waits old new work spec vid (Driving driver) is = work_of_driver-alike old new driver work spec vid is
still_waits old new work spec vid (Commanding op) is = is
still_waits old new work spec vid (Checking check) is = is
still_waits old new work spec vid (DoingWork asked) is = is
still_waits old new work spec vid (AwaitingDecision entry) is = is

-- ---- works that stay

-- a work of a request is at the gateway, with another stage
pub stage_had : (works : Works) (sessions : Sessions) (req : ℕ) (was now : Work) → tree.get works req ≡ Some was → now.work ≡ was.work → (q : ℕ) (work : ObjWork)
    → HasWork q work (tree.insert works req now) sessions → HasWork q work works sessions
stage_had works sessions req was now there same q work (inl (one, got, is)) = ⊎_elim
    (λ (own : (q ≡ req) × (now ≡ one)).
    inl (was, ap (tree.get works) own.0 ∙ there, sym same ∙ ap (λ (work : Work). work.work) own.1 ∙ is))
    (λ (other : (q ≢ req) × (tree.get works q ≡ Some one)). inl (one, other.1, is))
    (get-insert_cases works req now q one got)
stage_had works sessions req was now there same q work (inr waits) = inr waits

-- a work is no more
pub gone_had : (works : Works) (sessions : Sessions) (req q : ℕ) (work : ObjWork) → HasWork q work (tree.remove works req) sessions
    → HasWork q work works sessions
gone_had works sessions req q work (inl (one, got, is)) = ⊎_elim
    (λ (own : q ≡ req).
    let none : tree.get (tree.remove works req) q ≡ None = ap (tree.get (tree.remove works req)) own ∙ get-remove_same works req in
    absurd (cc (none, got)))
    (λ (other : q ≢ req). inl (one, sym (get-remove_other works req q other) ∙ got, is))
    (cases_eq q req)
gone_had works sessions req q work (inr waits) = inr waits

-- a session's line stays as it is
pub line_had : (works : Works) (sessions : Sessions) (number : ℕ) (session : Session) → session.inode_queue.waiting ≡ waiting_in number sessions → (q : ℕ) (work : ObjWork)
    → HasWork q work works (tree.insert sessions number session) → HasWork q work works sessions
line_had works sessions number session same q work (inl one) = inl one
line_had works sessions number session same q work (inr (k, there)) =
    inr (k, subst (λ (list : List lines.Waiting). Contains list (record { req = q; work = work })) (same_waiting sessions number session same k) there)

-- a session that keeps its line and the inode that it has open
pub session_wanted : (works : Works) (requests : Requests) (sessions : Sessions) (number : ℕ) (session : Session)
    → session.inode_queue.waiting ≡ waiting_in number sessions → inode_open session.disk ≡ inode_open (session_among number sessions).disk
    → HaveWantedWorks works requests sessions → HaveWantedWorks works requests (tree.insert sessions number session)
session_wanted works requests sessions number session line same all q work has =
    same_seen open_in (Waits work) sessions number session same (tree.get requests q) (all q work (line_had works sessions number session line q work has))

-- a work comes to a request that waits for it
pub work_wanted : (works : Works) (requests : Requests) (sessions : Sessions) (req : ℕ) (now : Work) → IsWantedAt sessions (tree.get requests req) now.work
    → HaveWantedWorks works requests sessions → HaveWantedWorks (tree.insert works req now) requests sessions
work_wanted works requests sessions req now is all q work (inl (one, got, same)) = ⊎_elim
    (λ (own : (q ≡ req) × (now ≡ one)).
    subst (λ (work : ObjWork). IsWantedAt sessions (tree.get requests q) work) (ap (λ (work : Work). work.work) own.1 ∙ same)
    (subst (λ (k : ℕ). IsWantedAt sessions (tree.get requests k) now.work) (sym own.0) is))
    (λ (other : (q ≢ req) × (tree.get works q ≡ Some one)). all q work (inl (one, other.1, same)))
    (get-insert_cases works req now q one got)
work_wanted works requests sessions req now is all q work (inr waits) = all q work (inr waits)

-- ---- a work or a request ends

pub freed_wanted : (number req : ℕ) (work : Work) (status : Status) (so_far : StepState) → AreWanted so_far
    → AreWanted (without_ended_work number req work status so_far)
freed_wanted number req work status so_far all =
    session_wanted (tree.remove so_far.node.gateway.works req) so_far.node.requests so_far.node.sessions number
    (record (session_in number so_far) { inode_queue = queue_after_end (session_in number so_far).inode_queue work.work }) refl refl
    (λ q work has. all q work (gone_had so_far.node.gateway.works so_far.node.sessions req q work has))

pub ended_wanted : (number req : ℕ) (reply : GuestRsp) (so_far : StepState) → AreWanted so_far → AreWanted (request_ended number req reply so_far)
unfolding request_ended
ended_wanted number req reply so_far all =
    session_wanted so_far.node.gateway.works (tree.remove so_far.node.requests req) so_far.node.sessions number
    (record (session_in number so_far) { queue = queue_without req (session_in number so_far).queue; command = None }) refl refl
    (λ q work has. ⊎_elim
    (λ (own : q ≡ req).
    let none : tree.get (tree.remove so_far.node.requests req) q ≡ None
    = ap (tree.get (tree.remove so_far.node.requests req)) own ∙ get-remove_same so_far.node.requests req in
    subst (λ (o : Option Request). IsWantedAt so_far.node.sessions o work) (sym none) tt)
    (λ (other : q ≢ req).
    subst (λ (o : Option Request). IsWantedAt so_far.node.sessions o work) (sym (get-remove_other so_far.node.requests req q other)) (all q work has))
    (cases_eq q req))

-- a work whose request isn't there goes on in the gateway alone
pub strayed_wanted : (req : ℕ) (gateway : Gateway) (so_far : StepState) → tree.get so_far.node.requests req ≡ None
    → IsApart req so_far.node.gateway gateway → AreWanted so_far → HaveWantedWorks gateway.works so_far.node.requests so_far.node.sessions
strayed_wanted req gateway so_far none apart all q other (inl (one, got, is)) = ⊎_elim
    (λ (own : q ≡ req).
    let gone : tree.get so_far.node.requests q ≡ None = ap (tree.get so_far.node.requests) own ∙ none in
    subst (λ (o : Option Request). IsWantedAt so_far.node.sessions o other) (sym gone) tt)
    (λ (later : q ≢ req). all q other (inl (one, sym (apart.others q later) ∙ got, is)))
    (cases_eq q req)
strayed_wanted req gateway so_far none apart all q other (inr waits) = all q other (inr waits)

-- a work waits in its session's line
module _ (session req : ℕ) (work : ObjWork) (so_far : StepState) (all : AreWanted so_far)
    (is_wanted : IsWantedAt so_far.node.sessions (tree.get so_far.node.requests req) work) where
  abbrev new_waiting : lines.Waiting
  new_waiting = record { req = req; work = work }

  abbrev session_lined : Session
  session_lined = record (session_in session so_far) { inode_queue = queue_with_waiting (session_in session so_far).inode_queue req work }

  in_longer_line : (q : ℕ) (other : ObjWork)
      → Contains (waiting_in session so_far.node.sessions ++ new_waiting ∷ []) (record { req = q; work = other })
      → IsWantedAt so_far.node.sessions (tree.get so_far.node.requests q) other
  in_longer_line q other there = ⊎_elim
      (λ (before : Contains (waiting_in session so_far.node.sessions) (record { req = q; work = other })). all q other (inr (session, before)))
      (λ (is : new_waiting ≡ record { req = q; work = other }).
      subst (λ (waiting : lines.Waiting). IsWantedAt so_far.node.sessions (tree.get so_far.node.requests waiting.req) waiting.work) is is_wanted)
      (Contains-push_cases (waiting_in session so_far.node.sessions) new_waiting (record { req = q; work = other }) there)

  had_or_lined : (q : ℕ) (other : ObjWork) → HasWork q other so_far.node.gateway.works (tree.insert so_far.node.sessions session session_lined)
      → IsWantedAt so_far.node.sessions (tree.get so_far.node.requests q) other
  had_or_lined q other (inl one) = all q other (inl one)
  had_or_lined q other (inr (k, there)) = ⊎_elim
      (λ (here : k ≡ session).
      let is : waiting_in k (tree.insert so_far.node.sessions session session_lined) ≡ waiting_in session so_far.node.sessions ++ new_waiting ∷ []
      = ap (λ (k : ℕ). waiting_in k (tree.insert so_far.node.sessions session session_lined)) here
      ∙ ap (λ (o : Option Session). (unwrap_or o new_session).inode_queue.waiting) (get-insert_same so_far.node.sessions session session_lined) in
      in_longer_line q other (subst (λ (list : List lines.Waiting). Contains list (record { req = q; work = other })) is there))
      (λ (apart : k ≢ session).
      let is : waiting_in k (tree.insert so_far.node.sessions session session_lined) ≡ waiting_in k so_far.node.sessions
      = ap (λ (o : Option Session). (unwrap_or o new_session).inode_queue.waiting) (get-insert_other so_far.node.sessions session session_lined k apart) in
      all q other (inr (k, subst (λ (list : List lines.Waiting). Contains list (record { req = q; work = other })) is there)))
      (cases_eq k session)

  pub lined_wanted : HaveWantedWorks so_far.node.gateway.works so_far.node.requests (tree.insert so_far.node.sessions session session_lined)
  lined_wanted q other has =
      same_seen open_in (Waits other) so_far.node.sessions session session_lined refl (tree.get so_far.node.requests q) (had_or_lined q other has)
