-- A write, or a check that has come to one, that may have items, began on a disk and has no reply has none where its reply refuses it: what
-- the replies of an event leave of a request that may have items.
use Rattle.std.proofs.Common.{◌≡◌, ⊎_elim, ℕ, ◌+◌, ◌==◌, Bool, true, false, ◌||◌, ◌&&◌, cond, List, [], ◌∷◌, ◌++◌, map, filter, fold}
use Rattle.std.proofs.Common.{length, Contains, Option, Some, None, is_some, refl, sym, ap, subst, ◌∙◌}
use Rattle.std.specs.Prelude.{◌/◌, flat_map, find}
use Rattle.std.specs.List.{range_with_len}
use Rattle.std.specs.Option.{option_map_or, option_and_then}
use Rattle.std.proofs.lemmas.Bool.{and_parts, eqb-true, eq-eqb, or_cases, or_right}
use Rattle.std.proofs.lemmas.List.Folds.{list_any-append}
use Rattle.proof_tools.proofs.Lists.{Contains-nil, Contains-cons, Contains-cons_cases, Contains-head, Contains-flat_map}
use Rattle.disk_history.specs.declared.event.HistEvent.{HistEvent}
use Rattle.disk_history.specs.declared.event.HistEvent.TheVariants.{WriteRefused}
use Rattle.object_id.specs.declared.limits.TheConstants.{BLOCK_BYTES}
use Rattle.cluster_script.specs.declared.statement.Statement.{Statement}
use Rattle.cluster_script.specs.declared.statement.Statement.TheVariants as lines
use Rattle.cluster_script.specs.NumberedRequests.{request_at}
use Rattle.cluster_script.specs.Statements.{is_check}
use Rattle.peer_proto.specs.declared.guest.GuestRsp.{GuestRsp}
use Rattle.peer_proto.specs.declared.guest.GuestRsp.TheVariants as answers
use Rattle.sheep_node.specs.declared.check_write.CheckWrite.{CheckWrite}
use Rattle.sheep_world.specs.declared.progress.StartedRequest.{StartedRequest}
use Rattle.sheep_world.specs.World.{World, progress_at}
use Rattle.sheep_world.specs.Asking.{session_asking}
use Rattle.sheep_world.specs.HistoryAdditions.{is_write, is_started_request, write_ended, added_by, disk_of, reply_grown}
use Rattle.sheep_world.specs.HistoryAdditions.{has_begun_check_write, block_in, each_block}
use Rattle.sheep_world.specs.NodeSteps.{progress_after_reply}
use Rattle.sheep_world.specs.BegunRequests.{WasBegun, IsOfScript}
use Rattle.overlap_law.specs.Holders.{is_object_among}
use Rattle.overlap_law.specs.PastWords.{is_refusal, refuses_request, refused_in}
use Rattle.overlap_law.proofs.ClosedAdditions.{none_of, reply_add, end_so}
use Rattle.overlap_law.proofs.ItemsOfRequests.{begins_write_of, may_have_after, BeginNone, might_before, none_behind, none_refused}
use Rattle.overlap_law.proofs.ItemsOfRequests.{flat_none, map_none}
use Rattle.overlap_law.proofs.RefusedInRuns.{still_begun, replies_grow, left_by}
use Rattle.overlap_law.proofs.SessionsOfRequests.{of_test}
use Rattle.overlap_law.proofs.UnansweredRequests.{Guests, unanswered_in, IsUnanswered}

-- ---- what replies add

-- an event for each block of a piece
pub each_block-none : (req : ℕ) (event : ℕ → List ℕ → HistEvent)
    → ((block : ℕ) (piece : List ℕ) → begins_write_of req (event block piece) ≡ false)
    → (offset : ℕ) (bytes : List ℕ) → BeginNone req (each_block event offset bytes)
each_block-none req event none offset bytes =
    map_none req (λ (place : ℕ). event (offset / BLOCK_BYTES + place) (block_in bytes place))
    (λ place. none (offset / BLOCK_BYTES + place) (block_in bytes place)) (range_with_len 0 (length bytes / BLOCK_BYTES))

pub added_none : (req : ℕ) (written : Bool) (other : ℕ) (rsp : GuestRsp) (disk : Option ℕ) (s : Option Statement)
    → BeginNone req (added_by written other rsp disk s)
added_none req written other rsp disk s =
    none_of (begins_write_of req) (added_by written other rsp disk s)
    (reply_add (λ (event : HistEvent). begins_write_of req event ≡ false) (λ disk block bytes. refl) written other rsp
    (end_so (λ (event : HistEvent). begins_write_of req event ≡ false) other rsp (λ done. refl) refl) disk s)

module _ (script : List Statement) where
  -- replies begin no write
  pub replies_none : (req : ℕ) (before : World) (write : Option CheckWrite) (replies : List (ℕ × GuestRsp))
      → BeginNone req (flat_map (reply_grown script before write) replies)
  replies_none req before write replies = flat_none req (reply_grown script before write)
      (λ reply. added_none req (has_begun_check_write script reply.0 before write) reply.0 reply.1 (disk_of script reply.0 before)
      (request_at script reply.0))
      replies

  -- whether a request is a write
  abbrev pub is_write_at : ℕ → Bool
  is_write_at req = option_map_or is_write (request_at script req) false

  -- or a check
  abbrev pub is_check_at : ℕ → Bool
  is_check_at req = option_map_or is_check (request_at script req) false

  -- whether a statement's request writes, where this says of a check that it has come to a write
  abbrev pub does_write : Bool → Statement → Bool
  does_write written s = is_write s || (is_check s && written)

  abbrev pub does_write_at : Bool → ℕ → Bool
  does_write_at written req = option_map_or (does_write written) (request_at script req) false

  pub write_does : (written : Bool) (req : ℕ) → is_write_at req ≡ true → does_write_at written req ≡ true
  write_does written req is = by_statement (request_at script req) is
    where
      by_statement : (s : Option Statement) → option_map_or is_write s false ≡ true → option_map_or (does_write written) s false ≡ true
      by_statement None is = is
      by_statement (Some s) is = λ i. is i || (is_check s && written)

  pub check_does : (written : Bool) (req : ℕ) → is_check_at req ≡ true → written ≡ true → does_write_at written req ≡ true
  check_does written req is has = by_statement (request_at script req) is
    where
      by_statement : (s : Option Statement) → option_map_or is_check s false ≡ true → option_map_or (does_write written) s false ≡ true
      by_statement None is = is
      by_statement (Some s) is = or_right (is_write s) (is_check s && written) (λ i. is i && has i)

  -- a reply that refuses a request that writes and began on a disk adds its refusal
  refusal_ends : (req : ℕ) (rsp : GuestRsp) → is_refusal rsp ≡ true → write_ended req rsp ≡ WriteRefused req
  refusal_ends req (answers.Refused cause) is = refl
  refusal_ends req rsp is = absurd (cc (is))

  pub write_adds : (written : Bool) (req : ℕ) (rsp : GuestRsp) (disk : Option ℕ) (s : Option Statement) → is_some disk ≡ true
      → option_map_or (does_write written) s false ≡ true → added_by written req rsp disk s ≡ write_ended req rsp ∷ []
  write_adds written req rsp None s on writes = absurd (cc (on))
  write_adds written req rsp (Some disk) None on writes = absurd (cc (writes))
  write_adds written req rsp (Some disk) (Some (lines.Write session offset length pattern)) on writes = refl
  write_adds true req rsp (Some disk) (Some (lines.Check session)) on writes = refl
  write_adds false req rsp (Some disk) (Some (lines.Check session)) on writes = absurd (cc (writes))
  write_adds written req rsp (Some disk) (Some s) on writes = absurd (cc (writes))

  -- what is looked up among requests without reply
  started_on_disk : (req : ℕ) (list : List StartedRequest) (started : StartedRequest) → Contains list started → started.req ≡ req
      → ((one : StartedRequest) → Contains list one → one.req ≡ req → is_some one.disk ≡ true)
      → is_some (option_and_then (λ (one : StartedRequest). one.disk) (find (is_started_request req) list)) ≡ true
  started_on_disk req [] started there own each = absurd (Contains-nil started there)
  started_on_disk req (first ∷ later) started there own each = by_test (first.req == req) refl
      (λ behind. started_on_disk req later started behind own (λ one among. each one (Contains-cons first later one among)))
    where
      is_here : first ≡ started → (first.req == req) ≡ true
      is_here same = eq-eqb first.req req (ap (λ (one : StartedRequest). one.req) same ∙ own)

      by_test : (b : Bool) → (first.req == req) ≡ b
          → (Contains later started → is_some (option_and_then (λ (one : StartedRequest). one.disk)
          (find (is_started_request req) later)) ≡ true)
          → is_some (option_and_then (λ (one : StartedRequest). one.disk)
          (cond b (Some first) (find (is_started_request req) later))) ≡ true
      by_test true is rest = each first (Contains-head first later) (eqb-true first.req req is)
      by_test false is rest = ⊎_elim
          (λ (same : first ≡ started). absurd (cc (is, is_here same)))
          (λ (behind : Contains later started). rest behind)
          (Contains-cons_cases first later started there)

  -- ---- what is known of a request that may have items

  -- it wasn't refused, and was begun; where it has no reply it began on a disk, and on one alone
  pub record IsKnown (req : ℕ) (guests : Guests) (refused : List ℕ) (may : Bool) : Type 0 where
    pub unrefused : is_object_among req refused ≡ true → may ≡ false
    pub begun : may ≡ true → (session : ℕ) × WasBegun script guests session req
    pub on_disk : may ≡ true → (session : ℕ) (started : StartedRequest) → Contains (unanswered_in session guests) started
        → started.req ≡ req
        → is_some started.disk ≡ true
    pub single : (session : ℕ) (one other : StartedRequest) → Contains (unanswered_in session guests) one
        → Contains (unanswered_in session guests) other → one.req ≡ req → other.req ≡ req → one.disk ≡ other.disk

  -- ---- what an event's replies leave

  -- the refused are so by a reply
  pub refusal_among : (req : ℕ) (replies : List (ℕ × GuestRsp)) → is_object_among req (refused_in script replies) ≡ true
      → (reply : ℕ × GuestRsp) × Contains replies reply × (reply.0 ≡ req) × (is_refusal reply.1 ≡ true)
  refusal_among req [] is = absurd (cc (is))
  refusal_among req (first ∷ later) is = by_test (refuses_request script first) refl is (refusal_among req later)
    where
      behind : ((reply : ℕ × GuestRsp) × Contains later reply × (reply.0 ≡ req) × (is_refusal reply.1 ≡ true))
          → (reply : ℕ × GuestRsp) × Contains (first ∷ later) reply × (reply.0 ≡ req) × (is_refusal reply.1 ≡ true)
      behind (reply, there, same, refuses) = (reply, Contains-cons first later reply there, same, refuses)

      by_test : (b : Bool) → refuses_request script first ≡ b
          → is_object_among req (map (λ (answer : ℕ × GuestRsp). answer.0)
          (cond b (first ∷ filter (refuses_request script) later) (filter (refuses_request script) later))) ≡ true
          → (is_object_among req (refused_in script later) ≡ true
          → (reply : ℕ × GuestRsp) × Contains later reply × (reply.0 ≡ req) × (is_refusal reply.1 ≡ true))
          → (reply : ℕ × GuestRsp) × Contains (first ∷ later) reply × (reply.0 ≡ req) × (is_refusal reply.1 ≡ true)
      by_test true refuses is rest = ⊎_elim
          (λ (own : (first.0 == req) ≡ true). (
            first,
            Contains-head first later,
            eqb-true first.0 req own,
            (and_parts (is_refusal first.1) (is_some (session_asking script first.0)) refuses).0,
          ))
          (λ (other : is_object_among req (refused_in script later) ≡ true). behind (rest other))
          (or_cases (first.0 == req) (is_object_among req (refused_in script later)) is)
      by_test false refuses is rest = behind (rest is)

  module _ (req : ℕ) (guests : Guests) (refused : List ℕ) (may : Bool) (known : IsKnown req guests refused may)
      (replies : List (ℕ × GuestRsp)) (ends : List HistEvent) (none : BeginNone req ends)
      (told : (reply : ℕ × GuestRsp) → Contains replies reply → reply.0 ≡ req → is_refusal reply.1 ≡ true → may ≡ true
      → Contains ends (WriteRefused req)) where
    abbrev may_then : Bool
    may_then = fold (may_have_after req) may ends

    replied_unrefused : is_object_among req (refused ++ refused_in script replies) ≡ true → may_then ≡ false
    replied_unrefused is = ⊎_elim
        (λ (old : is_object_among req refused ≡ true). none_behind req ends may none (known.unrefused old))
        (λ (new : is_object_among req (refused_in script replies) ≡ true). by_may may refl new)
        (or_cases (is_object_among req refused) (is_object_among req (refused_in script replies))
        (sym (list_any-append (λ other. other == req) refused (refused_in script replies)) ∙ is))
      where
        by_may : (b : Bool) → may ≡ b → is_object_among req (refused_in script replies) ≡ true → may_then ≡ false
        by_may false was new = none_behind req ends may none was
        by_may true was new =
            let (reply, among, same, refuses) = refusal_among req replies new in
            none_refused req ends may none (told reply among same refuses was)

    pub replied_known : IsKnown req (fold (progress_after_reply script) guests replies) (refused ++ refused_in script replies) may_then
    replied_known = record {
      unrefused = replied_unrefused;
      begun = λ now.
          let (session, begun) = known.begun (might_before req ends may none now) in (
            session,
            still_begun script guests (fold (progress_after_reply script) guests replies)
                (replies_grow script replies guests) session req begun,
          );
      on_disk = λ now session started there own.
          known.on_disk (might_before req ends may none now) session started (left_by script replies guests session started there).0 own;
      single = λ session one other there again.
          known.single session one other (left_by script replies guests session one there).0
          (left_by script replies guests session other again).0;
    }

  -- a request has no reply, in the session that asks it
  pub record IsOpenRequest (guests : Guests) (req : ℕ) : Type 0 where
    pub session : ℕ
    pub unanswered : IsUnanswered guests req session
    pub asking : session_asking script req ≡ Some session

  -- what a request leaves that begins nothing, and isn't replied to
  pub quiet_known : (req : ℕ) (guests : Guests) (refused : List ℕ) (may : Bool) (events : List HistEvent) → BeginNone req events
      → IsKnown req guests refused may → IsKnown req guests refused (fold (may_have_after req) may events)
  quiet_known req guests refused may events none known = record {
    unrefused = λ is. none_behind req events may none (known.unrefused is);
    begun = λ now. known.begun (might_before req events may none now);
    on_disk = λ now. known.on_disk (might_before req events may none now);
    single = known.single;
  }

  -- what the replies of a step add ends what they refuse
  module _ (req : ℕ) (found : World) (refused : List ℕ) (may : Bool) (known : IsKnown req found.guests refused may)
      (replies : List (ℕ × GuestRsp))
      (waits : (reply : ℕ × GuestRsp) → Contains replies reply → IsOfScript script reply.0 → IsOpenRequest found.guests reply.0)
      (write : Option CheckWrite)
      (writes : (reply : ℕ × GuestRsp) → Contains replies reply → reply.0 ≡ req → may ≡ true
      → does_write_at (has_begun_check_write script reply.0 found write) reply.0 ≡ true) where
    reply_ends : (reply : ℕ × GuestRsp) → IsOpenRequest found.guests reply.0 → reply.0 ≡ req → is_refusal reply.1 ≡ true → may ≡ true
        → does_write_at (has_begun_check_write script reply.0 found write) reply.0 ≡ true
        → Contains (reply_grown script found write reply) (WriteRefused req)
    reply_ends reply asked same refuses was does =
        let on : is_some (disk_of script reply.0 found) ≡ true
        = ap (λ (o : Option ℕ). is_some (option_and_then (λ (one : StartedRequest). one.disk)
        (option_and_then (λ session. find (is_started_request reply.0) (progress_at session found).unanswered) o))) asked.asking
        ∙ started_on_disk reply.0
        (unanswered_in asked.session found.guests) asked.unanswered.started asked.unanswered.there asked.unanswered.number
        (λ one among own. known.on_disk was asked.session one among (own ∙ same)) in
        let is : reply_grown script found write reply ≡ WriteRefused req ∷ []
        = write_adds (has_begun_check_write script reply.0 found write) reply.0 reply.1 (disk_of script reply.0 found)
        (request_at script reply.0) on does
        ∙ ap (λ (event : HistEvent). event ∷ []) (refusal_ends reply.0 reply.1 refuses ∙ ap (λ (k : ℕ). WriteRefused k) same) in
        subst (λ (events : List HistEvent). Contains events (WriteRefused req)) (sym is) (Contains-head (WriteRefused req) [])

    pub ends_known : IsKnown req (fold (progress_after_reply script) found.guests replies) (refused ++ refused_in script replies)
        (fold (may_have_after req) may (flat_map (reply_grown script found write) replies))
    ends_known =
        replied_known req found.guests refused may known replies (flat_map (reply_grown script found write) replies)
        (replies_none req found write replies)
        (λ reply among same refuses was.
        Contains-flat_map (reply_grown script found write) replies reply (WriteRefused req) among
        (reply_ends reply
        (waits reply among
        (of_test script (does_write (has_begun_check_write script reply.0 found write)) reply.0 (writes reply among same was)))
        same refuses was (writes reply among same was)))
