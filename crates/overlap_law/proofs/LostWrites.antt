-- The loss of a node ends writes that had begun and hadn't ended.
use Rattle.std.proofs.Common.{◌≡◌, ◌≢◌, ⊎_elim, ℕ, ◌+◌, ◌==◌, ◌&&◌, ◌||◌, Bool, true, false, cond, List, [], ◌∷◌, ◌++◌, map, filter, find}
use Rattle.std.proofs.Common.{Contains, Option, Some, None, is_some, refl, sym, ap, subst, arith, ◌∙◌}
use Rattle.std.specs.List.{enumerate_from, list_any}
use Rattle.std.specs.Option.{option_map_or, option_and_then}
use Rattle.std.specs.FinMap as tree
use Rattle.std.proofs.lemmas.Bool.{and_parts, eqb-true, ne_eqb, or_cases}
use Rattle.std.proofs.lemmas.List.Sums.{fold-append}
use Rattle.std.proofs.lemmas.Option.{same_Some}
use Rattle.proof_tools.proofs.Lists.{Contains-cons, Contains-head, filter-contains}
use Rattle.disk_history.specs.declared.event.HistEvent.{HistEvent}
use Rattle.disk_history.specs.declared.event.HistEvent.TheVariants.{WriterLost}
use Rattle.disk_history.specs.Ledger.{Ledger, empty_ledger, ledger_after}
use Rattle.cluster_script.specs.declared.statement.Statement.{Statement}
use Rattle.cluster_script.specs.NumberedRequests.{request_at, session_of, numbered_requests}
use Rattle.cluster_script.specs.Sessions.{ScriptSession, session_numbered}
use Rattle.cluster_script.specs.Statements.{is_check, requests_of}
use Rattle.sheep_node.specs.declared.course.Request.{Request}
use Rattle.sheep_node.specs.CheckWrites.{has_check_written, has_course_written}
use Rattle.sheep_world.specs.declared.progress.StartedRequest.{StartedRequest}
use Rattle.sheep_world.specs.World.{Host, World, progress_at}
use Rattle.sheep_world.specs.Asking.{session_asking}
use Rattle.sheep_world.specs.HistoryAdditions.{disk_of, is_lost_write, is_of_incarnation, is_started_request, is_write, is_writing_request}
use Rattle.sheep_world.specs.HistoryAdditions.{writers_lost}
use Rattle.overlap_law.specs.DiskEvents.{ends_write_of}
use Rattle.overlap_law.specs.Headline.{ledger_of}
use Rattle.overlap_law.specs.ToldReads.{AllElseMayFollow}
use Rattle.overlap_law.proofs.EndsOfWrites.{numbered_at, stands_at}
use Rattle.overlap_law.proofs.FoundInSteps.{AllBegunIfFound}
use Rattle.overlap_law.proofs.FollowingEvents.{MayEnd, lost_follows}
use Rattle.overlap_law.proofs.ItemsOfReplies.{is_write_at}
use Rattle.overlap_law.proofs.ItemsOfRequests.{begins_write_of}
use Rattle.overlap_law.proofs.StandingWriters.{AreStanding, none_ended, still_begun}
use Rattle.overlap_law.proofs.UnansweredRequests.{unanswered_in}

-- each number is of one
abbrev AreOnce : List (ℕ × Statement) → Type 0
AreOnce [] = Unit {0}
AreOnce (first ∷ later) = ((other : ℕ × Statement) → Contains later other → other.0 ≢ first.0) × AreOnce later

numbered_once : (script : List Statement) (first : ℕ) (list : List Statement) → AreOnce (enumerate_from first list)
numbered_once script first [] = tt
numbered_once script first (line ∷ later) = (
  λ other among same.
      let (place, is, got) = numbered_at 0 script (first + 1) later other.0 other.1 among in omega (arith, is, same),
  numbered_once script (first + 1) later,
)

filtered_once : (keeps : ℕ × Statement → Bool) (list : List (ℕ × Statement)) → AreOnce list → AreOnce (filter keeps list)
filtered_once keeps [] once = tt
filtered_once keeps (first ∷ later) once = by_test (keeps first) (filtered_once keeps later once.1)
  where
    by_test : (b : Bool) → AreOnce (filter keeps later) → AreOnce (cond b (first ∷ filter keeps later) (filter keeps later))
    by_test true rest = (λ other among. once.0 other (filter-contains keeps later other among).0, rest)
    by_test false rest = rest

all_lost : (list : List (ℕ × Statement)) (history : List HistEvent) → AreOnce list
    → ((request : ℕ × Statement) → Contains list request → MayEnd history request.0)
    → AllElseMayFollow (ledger_of history) (map (λ (request : ℕ × Statement). WriterLost request.0) list)
all_lost [] history once may = tt
all_lost (first ∷ later) history once may = (
  lost_follows history first.0 (may first (Contains-head first later)),
  subst (λ (ledger : Ledger). AllElseMayFollow ledger (map (λ (request : ℕ × Statement). WriterLost request.0) later))
      (fold-append ledger_after empty_ledger history (WriterLost first.0 ∷ []))
      (all_lost later (history ++ WriterLost first.0 ∷ []) once.1
      (λ other among.
      let was = may other (Contains-cons first later other among) in
      let apart : (first.0 == other.0) ≡ false
      = ne_eqb first.0 other.0 (λ (same : first.0 ≡ other.0). once.0 other among (sym same)) in
      record {
        begun = still_begun other.0 history (WriterLost first.0 ∷ []) was.begun;
        unended = none_ended other.0 history (WriterLost first.0 ∷ []) was.unended (λ i. apart i || false);
      })),
)

-- what is found is among the others
found_among : (p : StartedRequest → Bool) (xs : List StartedRequest) (x : StartedRequest) → find p xs ≡ Some x
    → Contains xs x × (p x ≡ true)
found_among p [] x is = absurd (cc (is))
found_among p (first ∷ later) x is = by_test (p first) refl (found_among p later x) is
  where
    by_test : (b : Bool) → p first ≡ b → (find p later ≡ Some x → Contains later x × (p x ≡ true))
        → cond b (Some first) (find p later) ≡ Some x → Contains (first ∷ later) x × (p x ≡ true)
    by_test true passes behind is =
        let same : first ≡ x = same_Some first x is in
        (subst (Contains (first ∷ later)) same (Contains-head first later), ap p (sym same) ∙ passes)
    by_test false fails behind is = let (among, passes) = behind is in (Contains-cons first later x among, passes)

module _ (script : List Statement) (world : World) (req : ℕ) where
  -- a request with a disk is without reply in its session
  record IsStartedOnDisk : Type 0 where
    session : ℕ
    asking : session_asking script req ≡ Some session
    started : StartedRequest
    there : Contains (unanswered_in session world.guests) started
    number : started.req ≡ req
    on : is_some started.disk ≡ true

  started_on_disk : is_some (disk_of script req world) ≡ true → IsStartedOnDisk
  started_on_disk is = by_session (session_asking script req) refl is
    where
      by_started : (q : ℕ) → session_asking script req ≡ Some q → (o : Option StartedRequest)
          → find (is_started_request req) (progress_at q world).unanswered ≡ o
          → is_some (option_and_then (λ (started : StartedRequest). started.disk) o) ≡ true → IsStartedOnDisk
      by_started q asking None got is = absurd (cc (is))
      by_started q asking (Some started) got is =
          let (among, passes) = found_among (is_started_request req) (progress_at q world).unanswered started got in
          record {
            session = q;
            asking = asking;
            started = started;
            there = among;
            number = eqb-true started.req req passes;
            on = is;
          }

      by_session : (o : Option ℕ) → session_asking script req ≡ o
          → is_some (option_and_then (λ (started : StartedRequest). started.disk)
          (option_and_then (λ (session : ℕ). find (is_started_request req) (progress_at session world).unanswered) o)) ≡ true
          → IsStartedOnDisk
      by_session None asking is = absurd (cc (is))
      by_session (Some q) asking is = by_started q asking (find (is_started_request req) (progress_at q world).unanswered) refl is

-- a session of the node's incarnation
record IsOfIncarnation (script : List Statement) (n incarnation session : ℕ) : Type 0 where
  of : ScriptSession
  declared : session_numbered script session ≡ Some of
  of_node : of.node ≡ n
  of_incarnation : of.incarnation ≡ incarnation

of_session : (script : List Statement) (n incarnation session : ℕ) → is_of_incarnation script n incarnation session ≡ true
    → IsOfIncarnation script n incarnation session
of_session script n incarnation session is = by_session (session_numbered script session) refl is
  where
    by_session : (o : Option ScriptSession) → session_numbered script session ≡ o
        → option_map_or (λ (of : ScriptSession). of.node == n && of.incarnation == incarnation) o false ≡ true
        → IsOfIncarnation script n incarnation session
    by_session None declared is = absurd (cc (is))
    by_session (Some of) declared is =
        let parts = and_parts (of.node == n) (of.incarnation == incarnation) is in
        record {
          of = of;
          declared = declared;
          of_node = eqb-true of.node n parts.0;
          of_incarnation = eqb-true of.incarnation incarnation parts.1;
        }

module _ (script : List Statement) (world : World) (history : List HistEvent)
    (standing : AreStanding script world.hosts world.guests history) (counted : (req : ℕ) → AllBegunIfFound req history world.hosts)
    (n : ℕ) (host : Host) (there : tree.get world.hosts n ≡ Some host) (up : host.is_lost ≡ false) where
  -- a check that has come to a write has begun one
  check_begun : (req : ℕ) → has_check_written req host.node ≡ true → list_any (begins_write_of req) history ≡ true
  check_begun req counts = by_got (tree.get host.node.requests req) refl counts
    where
      by_got : (o : Option Request) → tree.get host.node.requests req ≡ o
          → option_map_or (λ (request : Request). has_course_written request.course) o false ≡ true
          → list_any (begins_write_of req) history ≡ true
      by_got None got counts = absurd (cc (counts))
      by_got (Some request) got counts = counted req n host there request got counts

  one_lost : (request : ℕ × Statement) → Contains (filter (is_lost_write script world n host) (numbered_requests script)) request
      → MayEnd history request.0
  one_lost request among =
      let (listed, passes) = filter-contains (is_lost_write script world n host) (numbered_requests script) request among in
      let of_lost = option_map_or (is_of_incarnation script n host.incarnation) (session_of request.1) false in
      let parts = and_parts (is_writing_request host.node request && of_lost) (is_some (disk_of script request.0 world)) passes in
      let both = and_parts (is_writing_request host.node request) of_lost parts.0 in
      let stands : request_at script request.0 ≡ Some request.1 = stands_at 0 script request.0 request.1 listed in
      let started = started_on_disk script world request.0 parts.1 in
      let asks : session_of request.1 ≡ Some started.session
      = sym (ap (option_and_then session_of) stands) ∙ started.asking in
      let of = of_session script n host.incarnation started.session
      (sym (ap (λ (o : Option ℕ). option_map_or (is_of_incarnation script n host.incarnation) o false) asks) ∙ both.1) in
      let is = standing started.session started.started started.there of.of of.declared in
      let same : is.host ≡ host = same_Some is.host host (sym is.there ∙ ap (tree.get world.hosts) of.of_node ∙ there) in
      record {
        begun = ⊎_elim
            (λ (writes : is_write request.1 ≡ true).
            subst (λ (k : ℕ). list_any (begins_write_of k) history ≡ true) started.number
            (is.begun
            (ap (is_write_at script) started.number ∙ ap (λ (o : Option Statement). option_map_or is_write o false) stands ∙ writes)
            started.on))
            (λ (checks : (is_check request.1 && has_check_written request.0 host.node) ≡ true).
            check_begun request.0 (and_parts (is_check request.1) (has_check_written request.0 host.node) checks).1)
            (or_cases (is_write request.1) (is_check request.1 && has_check_written request.0 host.node) both.0);
        unended = subst (λ (k : ℕ). list_any (ends_write_of k) history ≡ false) started.number
            (is.unended (ap (λ (h : Host). h.is_lost) same ∙ up) (ap (λ (h : Host). h.incarnation) same ∙ sym of.of_incarnation));
      }

  pub lost_follow : AllElseMayFollow (ledger_of history) (writers_lost script world n (Some host))
  lost_follow =
      all_lost (filter (is_lost_write script world n host) (numbered_requests script)) history
      (filtered_once (is_lost_write script world n host) (numbered_requests script) (numbered_once script 1 (requests_of script))) one_lost
