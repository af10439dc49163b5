-- Works, requests and lines that change one by one, and stay driven.
use Rattle.std.proofs.Common.{◌≡◌, ◌≢◌, ◌⊎◌, inl, inr, ℕ, ◌==◌, true, false, List, [], ◌∷◌, ◌++◌, Contains, Option, Some, None, unwrap_or, refl, sym, ap, subst, ◌∙◌, ⊎_elim}
use Rattle.std.specs.Ordering.{nat_cmp}
use Rattle.std.specs.FinMap as tree
use Rattle.std.proofs.lemmas.Bool.{eqb-true, and_parts, cases_eq}
use Rattle.std.proofs.lemmas.List.Elements.{Contains-push_cases}
use Rattle.proof_tools.proofs.Lists.{Contains-cons, Contains-first, Contains-nil}
use Rattle.proof_tools.proofs.FiniteMaps.{get-insert_other, get-insert_same, get-remove_other, get-remove_same}
use Rattle.gateway.specs.State.{Work}
use Rattle.guest_driver.specs.InodeQueue as lines
use Rattle.sheep_node.specs.declared.course.Request.{Request}
use Rattle.sheep_node.specs.declared.session.Session.{Session}
use Rattle.sheep_node.specs.State.{new_session}
use Rattle.sheep_node.specs.OneWork.{may_work, may_work_at, may_work_of, waiting_in, AreOfDifferentRequests, HaveOneWorkPerRequest, HasNoWork}
use Rattle.sheep_node.proofs.AwaitedWorks.{Works}

abbrev pub Requests : Type 0
Requests = tree.FinMap nat_cmp Request

abbrev pub Sessions : Type 0
Sessions = tree.FinMap nat_cmp Session

-- a session that is changed but for what waits in its line
pub same_waiting : (sessions : Sessions) (number : ℕ) (session : Session) → session.inode_queue.waiting ≡ waiting_in number sessions → (q : ℕ)
    → waiting_in q (tree.insert sessions number session) ≡ waiting_in q sessions
same_waiting sessions number session same q = ⊎_elim
    (λ (own : q ≡ number).
    ap (λ (k : ℕ). waiting_in k (tree.insert sessions number session)) own
    ∙ ap (λ (o : Option Session). (unwrap_or o new_session).inode_queue.waiting) (get-insert_same sessions number session)
    ∙ same ∙ ap (λ (k : ℕ). waiting_in k sessions) (sym own))
    (λ (other : q ≢ number). ap (λ (o : Option Session). (unwrap_or o new_session).inode_queue.waiting) (get-insert_other sessions number session q other))
    (cases_eq q number)

pub driven_session : (works : Works) (requests : Requests) (sessions : Sessions) (number : ℕ) (session : Session)
    → session.inode_queue.waiting ≡ waiting_in number sessions → HaveOneWorkPerRequest works requests sessions → HaveOneWorkPerRequest works requests (tree.insert sessions number session)
driven_session works requests sessions number session same driven =
    let so = same_waiting sessions number session same in
    record {
      open_works = driven.open_works;
      waiting_works = λ q waiting there. driven.waiting_works q waiting (subst (λ (list : List lines.Waiting). Contains list waiting) (so q) there);
      waiting_free = λ q waiting there. driven.waiting_free q waiting (subst (λ (list : List lines.Waiting). Contains list waiting) (so q) there);
      apart = λ q. subst AreOfDifferentRequests (sym (so q)) (driven.apart q);
    }

pub free_session : (req : ℕ) (works : Works) (sessions : Sessions) (number : ℕ) (session : Session)
    → session.inode_queue.waiting ≡ waiting_in number sessions → HasNoWork req works sessions → HasNoWork req works (tree.insert sessions number session)
free_session req works sessions number session same free = record {
  idle = free.idle;
  out = λ q waiting there.
      free.out q waiting (subst (λ (list : List lines.Waiting). Contains list waiting) (same_waiting sessions number session same q) there);
}

pub may_at : (number : ℕ) (request : Option Request) → may_work_of number request ≡ true → may_work_at request ≡ true
may_at number None may = absurd (cc (may))
may_at number (Some request) may = (and_parts (request.session == number) (may_work request.course) may).1

-- a work of a request that may have one is open
pub driven_insert : (works : Works) (requests : Requests) (sessions : Sessions) (req : ℕ) (work : Work)
    → may_work_at (tree.get requests req) ≡ true
    → ((number : ℕ) (waiting : lines.Waiting) → Contains (waiting_in number sessions) waiting → waiting.req ≢ req)
    → HaveOneWorkPerRequest works requests sessions → HaveOneWorkPerRequest (tree.insert works req work) requests sessions
driven_insert works requests sessions req work may out driven = record {
  open_works = λ q other_work there. ⊎_elim
      (λ (own : q ≡ req). ap (λ (k : ℕ). may_work_at (tree.get requests k)) own ∙ may)
      (λ (other : q ≢ req). driven.open_works q other_work (sym (get-insert_other works req work q other) ∙ there))
      (cases_eq q req);
  waiting_works = driven.waiting_works;
  waiting_free = λ number waiting there. get-insert_other works req work waiting.req (out number waiting there) ∙ driven.waiting_free number waiting there;
  apart = driven.apart;
}

pushed_apart : (list : List lines.Waiting) (new : lines.Waiting) → ((waiting : lines.Waiting) → Contains list waiting → waiting.req ≢ new.req)
    → AreOfDifferentRequests list → AreOfDifferentRequests (list ++ new ∷ [])
pushed_apart [] new out apart = (λ other there. absurd (Contains-nil other there), tt)
pushed_apart (first ∷ later) new out apart = (
  λ other there. ⊎_elim
      (λ (old : Contains later other). apart.0 other old)
      (λ (own : new ≡ other) (same : other.req ≡ first.req).
      out first (Contains-first first first later refl) (sym same ∙ ap (λ (w : lines.Waiting). w.req) (sym own)))
      (Contains-push_cases later new other there),
  pushed_apart later new (λ waiting there. out waiting (Contains-cons first later waiting there)) apart.1,
)

-- a work waits behind the others of its session
module _ (works : Works) (requests : Requests) (sessions : Sessions) (number : ℕ) (session : Session) (new : lines.Waiting)
    (behind : session.inode_queue.waiting ≡ waiting_in number sessions ++ new ∷ []) where
  own_inode_queue : (q : ℕ) → q ≡ number → waiting_in q (tree.insert sessions number session) ≡ waiting_in number sessions ++ new ∷ []
  own_inode_queue q own =
      ap (λ (k : ℕ). waiting_in k (tree.insert sessions number session)) own
      ∙ ap (λ (o : Option Session). (unwrap_or o new_session).inode_queue.waiting) (get-insert_same sessions number session)
      ∙ behind

  other_inode_queue : (q : ℕ) → q ≢ number → waiting_in q (tree.insert sessions number session) ≡ waiting_in q sessions
  other_inode_queue q other = ap (λ (o : Option Session). (unwrap_or o new_session).inode_queue.waiting) (get-insert_other sessions number session q other)

  pub waits_there : (q : ℕ) (waiting : lines.Waiting) → Contains (waiting_in q (tree.insert sessions number session)) waiting
      → Contains (waiting_in q sessions) waiting ⊎ ((q ≡ number) × (new ≡ waiting))
  waits_there q waiting there = ⊎_elim
      (λ (own : q ≡ number). ⊎_elim
      (λ (old : Contains (waiting_in number sessions) waiting).
      inl (subst (λ (k : ℕ). Contains (waiting_in k sessions) waiting) (sym own) old))
      (λ (same : new ≡ waiting). inr (own, same))
      (Contains-push_cases (waiting_in number sessions) new waiting
      (subst (λ (list : List lines.Waiting). Contains list waiting) (own_inode_queue q own) there)))
      (λ (other : q ≢ number). inl (subst (λ (list : List lines.Waiting). Contains list waiting) (other_inode_queue q other) there))
      (cases_eq q number)

  pub driven_queued : may_work_of number (tree.get requests new.req) ≡ true → HasNoWork new.req works sessions → HaveOneWorkPerRequest works requests sessions
      → HaveOneWorkPerRequest works requests (tree.insert sessions number session)
  driven_queued may free driven = record {
    open_works = driven.open_works;
    waiting_works = λ q waiting there. ⊎_elim
        (λ (old : Contains (waiting_in q sessions) waiting). driven.waiting_works q waiting old)
        (λ (own : (q ≡ number) × (new ≡ waiting)).
        ap (λ (k : ℕ). may_work_of k (tree.get requests waiting.req)) own.0
        ∙ ap (λ (w : lines.Waiting). may_work_of number (tree.get requests w.req)) (sym own.1) ∙ may)
        (waits_there q waiting there);
    waiting_free = λ q waiting there. ⊎_elim
        (λ (old : Contains (waiting_in q sessions) waiting). driven.waiting_free q waiting old)
        (λ (own : (q ≡ number) × (new ≡ waiting)). ap (λ (w : lines.Waiting). tree.get works w.req) (sym own.1) ∙ free.idle)
        (waits_there q waiting there);
    apart = λ q. ⊎_elim
        (λ (own : q ≡ number). subst AreOfDifferentRequests (sym (own_inode_queue q own))
        (pushed_apart (waiting_in number sessions) new (free.out number) (driven.apart number)))
        (λ (other : q ≢ number). subst AreOfDifferentRequests (sym (other_inode_queue q other)) (driven.apart q))
        (cases_eq q number);
  }

-- the first work that waits leaves its line
module _ (works : Works) (requests : Requests) (sessions : Sessions) (number : ℕ) (session : Session) (first : lines.Waiting) (later : List lines.Waiting)
    (was : waiting_in number sessions ≡ first ∷ later) (now : session.inode_queue.waiting ≡ later) (driven : HaveOneWorkPerRequest works requests sessions) where
  left_inode_queue_of : (q : ℕ) → q ≡ number → waiting_in q (tree.insert sessions number session) ≡ later
  left_inode_queue_of q own =
      ap (λ (k : ℕ). waiting_in k (tree.insert sessions number session)) own
      ∙ ap (λ (o : Option Session). (unwrap_or o new_session).inode_queue.waiting) (get-insert_same sessions number session)
      ∙ now

  kept_inode_queue : (q : ℕ) → q ≢ number → waiting_in q (tree.insert sessions number session) ≡ waiting_in q sessions
  kept_inode_queue q other = ap (λ (o : Option Session). (unwrap_or o new_session).inode_queue.waiting) (get-insert_other sessions number session q other)

  waited_before : (q : ℕ) (waiting : lines.Waiting) → Contains (waiting_in q (tree.insert sessions number session)) waiting
      → Contains (waiting_in q sessions) waiting
  waited_before q waiting there = ⊎_elim
      (λ (own : q ≡ number).
      subst (λ (list : List lines.Waiting). Contains list waiting) (sym (ap (λ (k : ℕ). waiting_in k sessions) own ∙ was))
      (Contains-cons first later waiting (subst (λ (list : List lines.Waiting). Contains list waiting) (left_inode_queue_of q own) there)))
      (λ (other : q ≢ number). subst (λ (list : List lines.Waiting). Contains list waiting) (kept_inode_queue q other) there)
      (cases_eq q number)

  apart_there : AreOfDifferentRequests (first ∷ later)
  apart_there = subst AreOfDifferentRequests was (driven.apart number)

  pub driven_taken : HaveOneWorkPerRequest works requests (tree.insert sessions number session)
  driven_taken = record {
    open_works = driven.open_works;
    waiting_works = λ q waiting there. driven.waiting_works q waiting (waited_before q waiting there);
    waiting_free = λ q waiting there. driven.waiting_free q waiting (waited_before q waiting there);
    apart = λ q. ⊎_elim
        (λ (own : q ≡ number). subst AreOfDifferentRequests (sym (left_inode_queue_of q own)) apart_there.1)
        (λ (other : q ≢ number). subst AreOfDifferentRequests (sym (kept_inode_queue q other)) (driven.apart q))
        (cases_eq q number);
  }

  first_waits : Contains (waiting_in number sessions) first
  first_waits = subst (λ (list : List lines.Waiting). Contains list first) (sym was) (Contains-first first first later refl)

  -- a request is of one session
  one_session : (q : ℕ) (request : Option Request) → may_work_of q request ≡ true → may_work_of number request ≡ true → q ≡ number
  one_session q None one other = absurd (cc (one))
  one_session q (Some request) one other =
      let a : request.session ≡ q = eqb-true request.session q (and_parts (request.session == q) (may_work request.course) one).0 in
      let b : request.session ≡ number = eqb-true request.session number (and_parts (request.session == number) (may_work request.course) other).0 in
      sym a ∙ b

  pub free_taken : HasNoWork first.req works (tree.insert sessions number session)
  free_taken = record {
    idle = driven.waiting_free number first first_waits;
    out = λ q waiting there same. ⊎_elim
        (λ (own : q ≡ number).
        apart_there.0 waiting (subst (λ (list : List lines.Waiting). Contains list waiting) (left_inode_queue_of q own) there) same)
        (λ (other : q ≢ number).
        other (one_session q (tree.get requests first.req)
        (ap (λ (req : ℕ). may_work_of q (tree.get requests req)) (sym same)
        ∙ driven.waiting_works q waiting (subst (λ (list : List lines.Waiting). Contains list waiting) (kept_inode_queue q other) there))
        (driven.waiting_works number first first_waits)))
        (cases_eq q number);
  }

-- requests keep their works but for the one that ends
pub driven_removed : (works : Works) (requests : Requests) (sessions : Sessions) (req : ℕ) → HaveOneWorkPerRequest works requests sessions
    → HaveOneWorkPerRequest (tree.remove works req) requests sessions
driven_removed works requests sessions req driven = record {
  open_works = λ q work there. ⊎_elim
      (λ (own : q ≡ req).
      let none : tree.get (tree.remove works req) q ≡ None = ap (tree.get (tree.remove works req)) own ∙ get-remove_same works req in
      absurd (cc (there, none)))
      (λ (other : q ≢ req). driven.open_works q work (sym (get-remove_other works req q other) ∙ there))
      (cases_eq q req);
  waiting_works = driven.waiting_works;
  waiting_free = λ number waiting there. ⊎_elim
      (λ (own : waiting.req ≡ req). ap (tree.get (tree.remove works req)) own ∙ get-remove_same works req)
      (λ (other : waiting.req ≢ req). get-remove_other works req waiting.req other ∙ driven.waiting_free number waiting there)
      (cases_eq waiting.req req);
  apart = driven.apart;
}

-- a request without a work is there, in whatever course
module _ (works : Works) (requests : Requests) (sessions : Sessions) (req : ℕ) (free : HasNoWork req works sessions) (driven : HaveOneWorkPerRequest works requests sessions) where
  none_open : {P : Type 0} (work : Work) (q : ℕ) → q ≡ req → tree.get works q ≡ Some work → P
  none_open work q own there = let none : tree.get works q ≡ None = ap (tree.get works) own ∙ free.idle in absurd (cc (there, none))

  pub driven_course : (request : Request) → HaveOneWorkPerRequest works (tree.insert requests req request) sessions
  driven_course request = record {
    open_works = λ q work there. ⊎_elim (λ (own : q ≡ req). none_open work q own there)
        (λ (other : q ≢ req). ap may_work_at (get-insert_other requests req request q other) ∙ driven.open_works q work there)
        (cases_eq q req);
    waiting_works = λ inode_queue waiting there.
        ap (may_work_of inode_queue) (get-insert_other requests req request waiting.req (free.out inode_queue waiting there)) ∙ driven.waiting_works inode_queue waiting there;
    waiting_free = driven.waiting_free;
    apart = driven.apart;
  }

  -- and it may reached_by
  pub driven_gone : HaveOneWorkPerRequest works (tree.remove requests req) sessions
  driven_gone = record {
    open_works = λ q work there. ⊎_elim (λ (own : q ≡ req). none_open work q own there)
        (λ (other : q ≢ req). ap may_work_at (get-remove_other requests req q other) ∙ driven.open_works q work there)
        (cases_eq q req);
    waiting_works = λ inode_queue waiting there.
        ap (may_work_of inode_queue) (get-remove_other requests req waiting.req (free.out inode_queue waiting there)) ∙ driven.waiting_works inode_queue waiting there;
    waiting_free = driven.waiting_free;
    apart = driven.apart;
  }

-- a request that may have no work has none
pub free_at : (works : Works) (requests : Requests) (sessions : Sessions) (req : ℕ) → may_work_at (tree.get requests req) ≡ false
    → HaveOneWorkPerRequest works requests sessions → HasNoWork req works sessions
free_at works requests sessions req never driven = record {
  idle = by_work (tree.get works req) refl;
  out = λ number waiting waits same.
      let may : may_work_at (tree.get requests req) ≡ true
      = may_at number (tree.get requests req) (ap (λ (q : ℕ). may_work_of number (tree.get requests q)) (sym same) ∙ driven.waiting_works number waiting waits) in
      absurd (cc (may, never));
}
  where
    by_work : (o : Option Work) → tree.get works req ≡ o → tree.get works req ≡ None
    by_work None none = none
    by_work (Some work) there = let may = driven.open_works req work there in absurd (cc (may, never))

-- without its work a request is free
pub free_removed : (works : Works) (requests : Requests) (sessions : Sessions) (req : ℕ) (work : Work) → tree.get works req ≡ Some work
    → HaveOneWorkPerRequest works requests sessions → HasNoWork req (tree.remove works req) sessions
free_removed works requests sessions req work there driven = record {
  idle = get-remove_same works req;
  out = λ inode_queue waiting waits same.
      let none : tree.get works req ≡ None = ap (tree.get works) (sym same) ∙ driven.waiting_free inode_queue waiting waits in
      absurd (cc (there, none));
}
