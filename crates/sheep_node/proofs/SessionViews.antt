-- What is seen of a request with its session, as sessions and requests change.
use Rattle.std.proofs.Common.{◌≡◌, ◌≢◌, ℕ, Option, Some, None, IfSome, unwrap_or, refl, sym, ap, subst, ◌∙◌, ⊎_elim}
use Rattle.std.specs.FinMap as tree
use Rattle.std.proofs.lemmas.Bool.{cases_eq}
use Rattle.proof_tools.proofs.FiniteMaps.{get-insert_other, get-insert_same}
use Rattle.inode.specs.Layout.{Content}
use Rattle.sheep_node.specs.declared.course.Course.{Course}
use Rattle.sheep_node.specs.declared.course.Request.{Request}
use Rattle.sheep_node.specs.declared.session.Session.{Session}
use Rattle.sheep_node.specs.State.{new_session}
use Rattle.sheep_node.specs.Courses.{inode_open}
use Rattle.sheep_node.specs.SessionQueues.{session_among}
use Rattle.sheep_node.proofs.OneWorkParts.{Requests, Sessions}
use Rattle.sheep_node.proofs.QueueChanges.{same_view}
use Rattle.sheep_node.proofs.SoleParts.{IsFreeFor}

-- the inode that a session has open
abbrev pub open_in : Session → Option Content
open_in session = inode_open session.disk

module _ {X : Type 0} (f : Session → X) (Q : X → Course → Type 0) where
  -- it holds of a request that was looked up, if that is there
  abbrev pub IsSeen : Sessions → Option Request → Type 0
  IsSeen sessions request = IfSome request (λ (request : Request). Q (f (session_among request.session sessions)) request.course)

  module _ (sessions : Sessions) (number : ℕ) (session : Session) where
    -- the session keeps what is seen of it
    pub same_seen : f session ≡ f (session_among number sessions) → (request : Option Request)
        → IsSeen sessions request → IsSeen (tree.insert sessions number session) request
    same_seen same None is = tt
    same_seen same (Some request) is =
        subst (λ (x : X). Q x request.course) (sym (same_view f sessions number session same request.session)) is

    other_session : (request : Request) → request.session ≢ number → IsSeen sessions (Some request)
        → IsSeen (tree.insert sessions number session) (Some request)
    other_session request apart is =
        subst (λ (o : Option Session). Q (f (unwrap_or o new_session)) request.course)
        (sym (get-insert_other sessions number session request.session apart)) is

    -- what is seen of it is another, of which the same holds
    pub alike_seen : (old new : X) → f (session_among number sessions) ≡ old → f session ≡ new
        → ((course : Course) → Q old course → Q new course) → (request : Option Request)
        → IsSeen sessions request → IsSeen (tree.insert sessions number session) request
    alike_seen old new was now alike None is = tt
    alike_seen old new was now alike (Some request) is = ⊎_elim
        (λ (here : request.session ≡ number).
        let before : f (session_among request.session sessions) ≡ old = ap (λ (k : ℕ). f (session_among k sessions)) here ∙ was in
        let after : f (session_among request.session (tree.insert sessions number session)) ≡ new
        = ap (λ (k : ℕ). f (session_among k (tree.insert sessions number session))) here
        ∙ ap (λ (o : Option Session). f (unwrap_or o new_session)) (get-insert_same sessions number session) ∙ now in
        subst (λ (x : X). Q x request.course) (sym after) (alike request.course (subst (λ (x : X). Q x request.course) before is)))
        (λ (apart : request.session ≢ number). other_session request apart is)
        (cases_eq request.session number)

    -- none but one request is of the session
    pub free_seen : (req q : ℕ) (requests : Requests) → IsFreeFor number req requests → q ≢ req
        → IsSeen sessions (tree.get requests q) → IsSeen (tree.insert sessions number session) (tree.get requests q)
    free_seen req q requests free apart is = by_got (tree.get requests q) refl is
      where
        by_got : (o : Option Request) → tree.get requests q ≡ o → IsSeen sessions o → IsSeen (tree.insert sessions number session) o
        by_got None got is = tt
        by_got (Some request) got is = ⊎_elim
            (λ (here : request.session ≡ number). absurd (apart (free q request got here)))
            (λ (other : request.session ≢ number). other_session request other is)
            (cases_eq request.session number)

    -- the request that is now in this course
    pub own_seen : (req : ℕ) (course : Course) (requests : Requests) → Q (f session) course
        → IsSeen (tree.insert sessions number session)
        (tree.get (tree.insert requests req (record { session = number; course = course })) req)
    own_seen req course requests is =
        subst (IsSeen (tree.insert sessions number session))
        (sym (get-insert_same requests req (record { session = number; course = course })))
        (subst (λ (o : Option Session). Q (f (unwrap_or o new_session)) course) (sym (get-insert_same sessions number session)) is)
