-- A reply ends the writes of its request, and so does the loss of its node, where the request writes on a disk.
use Rattle.std.proofs.Common.{◌≡◌, inl, inr, ⊎_elim, arith, ℕ, ◌+◌, zero, suc, ◌==◌, ◌&&◌, ◌||◌, Bool, true, false, List, [], ◌∷◌, ◌++◌}
use Rattle.std.proofs.Common.{map, filter, Contains, Option, Some, None, is_some, slice_get, refl, sym, ap, subst, ◌∙◌}
use Rattle.std.specs.Prelude.{flat_map}
use Rattle.std.specs.List.{list_any, enumerate_from}
use Rattle.std.specs.Option.{option_map_or, option_and_then}
use Rattle.std.specs.FinMap as tree
use Rattle.std.proofs.lemmas.Bool.{and_from, eq-eqb, or_left, or_right}
use Rattle.std.proofs.lemmas.List.Folds.{list_any-append}
use Rattle.std.proofs.lemmas.Option.{same_Some}
use Rattle.proof_tools.proofs.Lists.{Contains-head, Contains-cons, Contains-cons_cases, Contains-nil, Contains-filter, Contains-map}
use Rattle.proof_tools.proofs.Lists.{list_any-none}
use Rattle.cluster_script.specs.declared.statement.Statement.{Statement}
use Rattle.cluster_script.specs.Sessions.{ScriptSession, session_numbered}
use Rattle.cluster_script.specs.Statements.{is_check, requests_of}
use Rattle.cluster_script.specs.NumberedRequests.{numbered_requests, request_at, session_of}
use Rattle.disk_history.specs.declared.event.HistEvent.{HistEvent}
use Rattle.disk_history.specs.declared.event.HistEvent.TheVariants.{WriterLost}
use Rattle.peer_proto.specs.declared.guest.GuestRsp.{GuestRsp}
use Rattle.sheep_node.specs.declared.check_write.CheckWrite.{CheckWrite}
use Rattle.sheep_node.specs.declared.course.Request.{Request}
use Rattle.sheep_node.specs.CheckWrites.{has_check_written, has_course_written}
use Rattle.sheep_world.specs.World.{Host, World}
use Rattle.sheep_world.specs.HistoryAdditions.{added_by, disk_of, has_begun_check_write, is_lost_write, is_of_incarnation, is_write}
use Rattle.sheep_world.specs.HistoryAdditions.{is_writing_request, reply_grown, write_ended, writers_lost}
use Rattle.overlap_law.specs.DiskEvents.{ends_write_of}
use Rattle.overlap_law.specs.MomentChanges.{RunsAreInRange}
use Rattle.overlap_law.proofs.FollowingEvents.{own_end}
use Rattle.overlap_law.proofs.ItemsOfReplies.{is_write_at, is_check_at, does_write_at, write_adds}
use Rattle.overlap_law.proofs.ItemsOfWriters.{Writing}
use Rattle.overlap_law.proofs.SessionsOfRequests.{IsAskedIn}

-- ---- lists

-- one that passes is found
any_among : {X : Type 0} (p : X → Bool) (xs : List X) (x : X) → Contains xs x → p x ≡ true → list_any p xs ≡ true
any_among p xs x among passes = by_value (list_any p xs) refl
  where
    by_value : (b : Bool) → list_any p xs ≡ b → list_any p xs ≡ true
    by_value true is = is
    by_value false none = let fails = list_any-none p xs x none among in absurd (cc (fails, passes))

any_flat : {X : Type 0} (p : HistEvent → Bool) (make : X → List HistEvent) (xs : List X) (x : X) → Contains xs x
    → list_any p (make x) ≡ true → list_any p (flat_map make xs) ≡ true
any_flat p make [] x among is = absurd (Contains-nil x among)
any_flat {X} p make (y ∷ ys) x among is =
    list_any-append p (make y) (flat_map make ys) ∙ ⊎_elim
    (λ (same : y ≡ x).
    or_left (list_any p (make y)) (list_any p (flat_map make ys)) (ap (λ (z : X). list_any p (make z)) same ∙ is))
    (λ (behind : Contains ys x).
    or_right (list_any p (make y)) (list_any p (flat_map make ys)) (any_flat p make ys x behind is))
    (Contains-cons_cases y ys x among)

enumerated : (first : ℕ) (list : List Statement) (place : ℕ) (s : Statement) → slice_get list place ≡ Some s → (k : ℕ)
    → k ≡ first + place → Contains (enumerate_from first list) (k, s)
enumerated first [] place s got k is = absurd (cc (got))
enumerated first (line ∷ later) zero s got k is =
    let here : first ≡ k = omega (arith, is) in
    let own : line ≡ s = same_Some line s got in
    subst (λ (one : ℕ × Statement). Contains (enumerate_from first (line ∷ later)) one) (λ i. (here i, own i))
    (Contains-head (first, line) (enumerate_from (first + 1) later))
enumerated first (line ∷ later) (suc place) s got k is =
    Contains-cons (first, line) (enumerate_from (first + 1) later) (k, s)
    (enumerated (first + 1) later place s got k (omega (arith, is)))

module _ (script : List Statement) where
  -- a request of the script is among those that are numbered
  is_numbered : (req : ℕ) (s : Statement) → request_at script req ≡ Some s → Contains (numbered_requests script) (req, s)
  is_numbered zero s at = absurd (cc (at))
  is_numbered (suc place) s at = enumerated 1 (requests_of script) place s at (suc place) (omega arith)

  -- ---- replies

  pub replied_ends : (req : ℕ) (found : World) (write : Option CheckWrite) (replies : List (ℕ × GuestRsp)) (rsp : GuestRsp)
      → Contains replies (req, rsp) → is_some (disk_of script req found) ≡ true
      → does_write_at script (has_begun_check_write script req found write) req ≡ true
      → list_any (ends_write_of req) (flat_map (reply_grown script found write) replies) ≡ true
  replied_ends req found write replies rsp among on does =
      any_flat (ends_write_of req) (reply_grown script found write) replies (req, rsp) among
      (ap (list_any (ends_write_of req))
      (write_adds script (has_begun_check_write script req found write) req rsp (disk_of script req found) (request_at script req) on does)
      ∙ own_end req rsp)

  -- ---- a node that is lost

  module _ (range : RunsAreInRange script) (world : World) (n : ℕ) (host : Host) (there : tree.get world.hosts n ≡ Some host)
      (req : ℕ) (request : Request) (got : tree.get host.node.requests req ≡ Some request)
      (asked : IsAskedIn script n host.incarnation req request.session) (writes : Writing script range req world.hosts)
      (on : is_some (disk_of script req world) ≡ true) where
    stands : (o : Option Statement) → request_at script req ≡ o → option_and_then session_of o ≡ Some request.session
        → (s : Statement) × (request_at script req ≡ Some s) × (session_of s ≡ Some request.session)
    stands None at asks = absurd (cc (asks))
    stands (Some s) at asks = (s, at, asks)

    module _ (s : Statement) (at : request_at script req ≡ Some s) (asks : session_of s ≡ Some request.session) where
      writing : is_writing_request host.node (req, s) ≡ true
      writing = by_kind writes
        where
          by_kind : Writing script range req world.hosts → is_writing_request host.node (req, s) ≡ true
          by_kind (inl write) =
              let own : is_write s ≡ true = sym (ap (λ (o : Option Statement). option_map_or is_write o false) at) ∙ write in
              or_left (is_write s) (is_check s && has_check_written req host.node) own
          by_kind (inr (checks, have)) =
              let own : is_check s ≡ true = sym (ap (λ (o : Option Statement). option_map_or is_check o false) at) ∙ checks in
              let came : has_check_written req host.node ≡ true
              = ap (λ (o : Option Request). option_map_or (λ (r : Request). has_course_written r.course) o false) got
              ∙ have n host there request got in
              or_right (is_write s) (is_check s && has_check_written req host.node)
              (and_from (is_check s) (has_check_written req host.node) own came)

      of_it : option_map_or (is_of_incarnation script n host.incarnation) (session_of s) false ≡ true
      of_it =
          ap (λ (o : Option ℕ). option_map_or (is_of_incarnation script n host.incarnation) o false) asks
          ∙ ap (λ (o : Option ScriptSession).
          option_map_or (λ (of : ScriptSession). of.node == n && of.incarnation == host.incarnation) o false) asked.declared
          ∙ and_from (asked.of.node == n) (asked.of.incarnation == host.incarnation) (eq-eqb asked.of.node n asked.of_node)
          (eq-eqb asked.of.incarnation host.incarnation asked.of_incarnation)

      passes : is_lost_write script world n host (req, s) ≡ true
      passes =
          and_from (is_writing_request host.node (req, s)
          && option_map_or (is_of_incarnation script n host.incarnation) (session_of s) false) (is_some (disk_of script req world))
          (and_from (is_writing_request host.node (req, s))
          (option_map_or (is_of_incarnation script n host.incarnation) (session_of s) false) writing of_it) on

      ends : list_any (ends_write_of req) (writers_lost script world n (Some host)) ≡ true
      ends =
          any_among (ends_write_of req)
          (map (λ (one : ℕ × Statement). WriterLost one.0) (filter (is_lost_write script world n host) (numbered_requests script)))
          (WriterLost req)
          (Contains-map (λ (one : ℕ × Statement). WriterLost one.0) (filter (is_lost_write script world n host) (numbered_requests script))
          (req, s)
          (Contains-filter (is_lost_write script world n host) (numbered_requests script) (req, s) (is_numbered req s at) passes))
          (eq-eqb req req refl)

    pub lost_ends : list_any (ends_write_of req) (writers_lost script world n (Some host)) ≡ true
    lost_ends =
        let (s, at, asks) = stands (request_at script req) refl asked.asking in
        ends s at asks
