-- A request that began on a disk and has no reply: so is each writer that a lost node leaves without one, in the node's incarnation.
use Rattle.std.proofs.Common.{◌≡◌, ℕ, ◌==◌, ◌&&◌, true, false, List, Contains, Option, Some, None, is_some, refl, sym, ap, ◌∙◌}
use Rattle.std.specs.List.{find}
use Rattle.std.specs.Option.{option_and_then, option_map_or}
use Rattle.std.proofs.lemmas.Bool.{and_parts, eqb-true}
use Rattle.proof_tools.proofs.Lists.{find-contains}
use Rattle.cluster_script.specs.declared.statement.Statement.{Statement}
use Rattle.cluster_script.specs.NumberedRequests.{numbered_requests, session_of}
use Rattle.cluster_script.specs.Sessions.{ScriptSession, session_numbered}
use Rattle.sheep_world.specs.declared.progress.StartedRequest.{StartedRequest}
use Rattle.sheep_world.specs.World.{Host, World, progress_at}
use Rattle.sheep_world.specs.Asking.{session_asking}
use Rattle.sheep_world.specs.HistoryAdditions.{disk_of, is_lost_write, is_of_incarnation, is_started_request, is_writing_request}
use Rattle.overlap_law.proofs.EndsOfWrites.{stands_at}
use Rattle.overlap_law.proofs.SessionsOfRequests.{IsAskedIn}
use Rattle.overlap_law.proofs.UnansweredRequests.{unanswered_in}

-- a request that began on a disk, and has no reply
pub record IsOnDisk (script : List Statement) (world : World) (req : ℕ) : Type 0 where
  pub session : ℕ
  pub asking : session_asking script req ≡ Some session
  pub started : StartedRequest
  pub there : Contains (unanswered_in session world.guests) started
  pub number : started.req ≡ req

-- and is asked at a node, in an incarnation of it
pub record IsAskedOnDisk (script : List Statement) (world : World) (n incarnation req : ℕ) : Type 0 where
  pub session : ℕ
  pub asked : IsAskedIn script n incarnation req session
  pub started : StartedRequest
  pub there : Contains (unanswered_in session world.guests) started
  pub number : started.req ≡ req

module _ (script : List Statement) where
  pub on_disk : (world : World) (req : ℕ) → is_some (disk_of script req world) ≡ true → IsOnDisk script world req
  on_disk world req is = by_session (session_asking script req) refl is
    where
      by_started : (session : ℕ) → session_asking script req ≡ Some session → (o : Option StartedRequest)
          → find (is_started_request req) (progress_at session world).unanswered ≡ o
          → is_some (option_and_then (λ (started : StartedRequest). started.disk) o) ≡ true → IsOnDisk script world req
      by_started session asking None found is = absurd (cc (is))
      by_started session asking (Some started) found is =
          let (there, passes) = find-contains (is_started_request req) (progress_at session world).unanswered started found in
          record { session = session; asking = asking; started = started; there = there; number = eqb-true started.req req passes }

      by_session : (o : Option ℕ) → session_asking script req ≡ o
          → is_some (option_and_then (λ (started : StartedRequest). started.disk)
          (option_and_then (λ (session : ℕ). find (is_started_request req) (progress_at session world).unanswered) o)) ≡ true
          → IsOnDisk script world req
      by_session None asking is = absurd (cc (is))
      by_session (Some session) asking is =
          by_started session asking (find (is_started_request req) (progress_at session world).unanswered) refl is

  -- so is a writer that a lost node leaves without reply
  pub lost_asked : (world : World) (n : ℕ) (host : Host) (request : ℕ × Statement) → Contains (numbered_requests script) request
      → is_lost_write script world n host request ≡ true → IsAskedOnDisk script world n host.incarnation request.0
  lost_asked world n host request listed passes = by_session (session_numbered script found.session) refl lives
    where
      parts : (is_writing_request host.node request
          && option_map_or (is_of_incarnation script n host.incarnation) (session_of request.1) false ≡ true)
          × (is_some (disk_of script request.0 world) ≡ true)
      parts = and_parts
          (is_writing_request host.node request && option_map_or (is_of_incarnation script n host.incarnation) (session_of request.1) false)
          (is_some (disk_of script request.0 world)) passes

      found : IsOnDisk script world request.0
      found = on_disk world request.0 parts.1

      asks : session_of request.1 ≡ Some found.session
      asks = sym (ap (option_and_then session_of) (stands_at request.0 script request.0 request.1 listed)) ∙ found.asking

      lives : option_map_or (λ (of : ScriptSession). of.node == n && of.incarnation == host.incarnation)
          (session_numbered script found.session) false ≡ true
      lives = sym (ap (λ (o : Option ℕ). option_map_or (is_of_incarnation script n host.incarnation) o false) asks)
          ∙ (and_parts (is_writing_request host.node request)
          (option_map_or (is_of_incarnation script n host.incarnation) (session_of request.1) false) parts.0).1

      by_session : (o : Option ScriptSession) → session_numbered script found.session ≡ o
          → option_map_or (λ (of : ScriptSession). of.node == n && of.incarnation == host.incarnation) o false ≡ true
          → IsAskedOnDisk script world n host.incarnation request.0
      by_session None declared is = absurd (cc (is))
      by_session (Some of) declared is =
          let both = and_parts (of.node == n) (of.incarnation == host.incarnation) is in
          record {
            session = found.session;
            asked = record {
              asking = found.asking;
              of = of;
              declared = declared;
              of_node = eqb-true of.node n both.0;
              of_incarnation = eqb-true of.incarnation host.incarnation both.1;
            };
            started = found.started;
            there = found.there;
            number = found.number;
          }
