-- What two replies of a step add to the history ends two requests.
use Rattle.std.proofs.Common.{◌≡◌, ◌≢◌, ◌==◌, ◌&&◌, not, map, length, Contains, ℕ, Bool, true, false, List, [], ◌∷◌, ◌++◌, Option, Some}
use Rattle.std.proofs.Common.{None, refl, sym, ap, subst, ◌∙◌}
use Rattle.std.specs.Prelude.{◌/◌, ◌+◌, flat_map}
use Rattle.std.specs.Option.{option_map_or}
use Rattle.cluster_script.specs.declared.statement.Statement.{Statement}
use Rattle.disk_history.specs.declared.event.HistEvent.{HistEvent}
use Rattle.peer_proto.specs.declared.guest.GuestRsp.{GuestRsp}
use Rattle.peer_proto.specs.declared.guest.GuestRsp.TheVariants as refusals
use Rattle.sheep_world.specs.World.{World}
use Rattle.overlap_law.specs.StayingBlocks.{ends_or_reads, are_two, are_apart}
use Rattle.disk_history.specs.Changes.{ended_request}
use Rattle.disk_history.specs.declared.event.HistEvent.TheVariants.{Read}
use Rattle.cluster_script.specs.declared.statement.Statement.TheVariants as lines
use Rattle.cluster_script.specs.NumberedRequests.{request_at}
use Rattle.object_id.specs.declared.limits.TheConstants.{BLOCK_BYTES}
use Rattle.std.specs.List.{list_all, range_with_len}
use Rattle.std.proofs.lemmas.Bool.{and_parts, and_from, eq-eqb, eqb-true, ne_eqb}
use Rattle.std.proofs.lemmas.List.Elements.{Contains-append_right}
use Rattle.proof_tools.proofs.Lists.{Contains-head, Contains-cons}
use Rattle.sheep_world.specs.HistoryAdditions.{block_in, blocks_read, write_ended, reply_adds, added_by, has_begun_check_write, disk_of}
use Rattle.sheep_world.specs.NodeCauses.{NodeCause}
use Rattle.overlap_law.specs.HistoryGrowth.{check_write_at, world_at_cause, added_by_reply}
use Rattle.overlap_law.proofs.RepliesOfChanges.{IsFree}

-- ---- what replies add is of their requests

-- whether an event reads, or ends this request
abbrev is_of : ℕ → HistEvent → Bool
is_of req event = ends_or_reads event && option_map_or (λ (other : ℕ). other == req) (ended_request event) true

joined_all : (test : HistEvent → Bool) (front back : List HistEvent) → list_all test front ≡ true → list_all test back ≡ true
    → list_all test (front ++ back) ≡ true
joined_all test [] back all rest = rest
joined_all test (event ∷ front) back all rest =
    let parts = and_parts (test event) (list_all test front) all in
    and_from (test event) (list_all test (front ++ back)) parts.0 (joined_all test front back parts.1 rest)

all_weaker : (test other : HistEvent → Bool) → ((event : HistEvent) → test event ≡ true → other event ≡ true) → (events : List HistEvent)
    → list_all test events ≡ true → list_all other events ≡ true
all_weaker test other so [] all = refl
all_weaker test other so (event ∷ events) all =
    let parts = and_parts (test event) (list_all test events) all in
    and_from (other event) (list_all other events) (so event parts.0) (all_weaker test other so events parts.1)

mapped_of : {X : Type 0} (req : ℕ) (make : X → HistEvent) → ((x : X) → is_of req (make x) ≡ true) → (xs : List X)
    → list_all (is_of req) (map make xs) ≡ true
mapped_of req make each [] = refl
mapped_of req make each (x ∷ xs) =
    and_from (is_of req (make x)) (list_all (is_of req) (map make xs)) (each x) (mapped_of req make each xs)

ended_of : (req : ℕ) (rsp : GuestRsp) → list_all (is_of req) (write_ended req rsp ∷ []) ≡ true
ended_of req rsp = and_from (is_of req (write_ended req rsp)) true (by_reply rsp) refl
  where
    same : (req == req) ≡ true
    same = eq-eqb req req refl

    by_reply : (rsp : GuestRsp) → is_of req (write_ended req rsp) ≡ true
    by_reply refusals.Done = same
    by_reply (refusals.Piece bytes) = same
    by_reply (refusals.Refused cause) = same
    by_reply (refusals.Granted vid) = same
    by_reply (refusals.Checked found) = same

read_of : (req disk offset : ℕ) (rsp : GuestRsp) → list_all (is_of req) (blocks_read disk offset rsp) ≡ true
read_of req disk offset refusals.Done = refl
read_of req disk offset (refusals.Piece bytes) =
    mapped_of req (λ (place : ℕ). Read disk (offset / BLOCK_BYTES + place) (block_in bytes place)) (λ place. refl)
    (range_with_len 0 (length bytes / BLOCK_BYTES))
read_of req disk offset (refusals.Refused cause) = refl
read_of req disk offset (refusals.Granted vid) = refl
read_of req disk offset (refusals.Checked found) = refl

adds_of : (written : Bool) (req : ℕ) (rsp : GuestRsp) (disk : ℕ) (s : Statement)
    → list_all (is_of req) (reply_adds written req rsp disk s) ≡ true
adds_of written req rsp disk (lines.Read session offset count) = read_of req disk offset rsp
adds_of written req rsp disk (lines.Write session offset count pattern) = ended_of req rsp
adds_of true req rsp disk (lines.Check session) = ended_of req rsp
adds_of false req rsp disk (lines.Check session) = refl
adds_of written req rsp disk s = refl

added_of : (written : Bool) (req : ℕ) (rsp : GuestRsp) (disk : Option ℕ) (s : Option Statement)
    → list_all (is_of req) (added_by written req rsp disk s) ≡ true
added_of written req rsp None s = refl
added_of written req rsp (Some disk) None = refl
added_of written req rsp (Some disk) (Some s) = adds_of written req rsp disk s

two_apart : (p q : ℕ) → p ≢ q → (one other : HistEvent) → is_of p one ≡ true → is_of q other ≡ true → are_apart one other ≡ true
two_apart p q differ one other of_one of_other =
    let first = and_parts (ends_or_reads one) (option_map_or (λ (n : ℕ). n == p) (ended_request one) true) of_one in
    let second = and_parts (ends_or_reads other) (option_map_or (λ (n : ℕ). n == q) (ended_request other) true) of_other in
    and_from (ends_or_reads one) (ends_or_reads other && are_two (ended_request one) (ended_request other)) first.0
    (and_from (ends_or_reads other) (are_two (ended_request one) (ended_request other)) second.0
    (by_ended (ended_request one) (ended_request other) first.1 second.1))
  where
    by_ended : (a b : Option ℕ) → option_map_or (λ (n : ℕ). n == p) a true ≡ true → option_map_or (λ (n : ℕ). n == q) b true ≡ true
        → are_two a b ≡ true
    by_ended None b is so = refl
    by_ended (Some n) None is so = refl
    by_ended (Some n) (Some m) is so =
        ap not (ne_eqb n m (λ (same : n ≡ m). differ (sym (eqb-true n p is) ∙ same ∙ eqb-true m q so)))

module _ (script : List Statement) (world : World) (cause : NodeCause) where
  abbrev make : ℕ × GuestRsp → List HistEvent
  make = added_by_reply script world cause

  reply_of : (reply : ℕ × GuestRsp) → list_all (is_of reply.0) (make reply) ≡ true
  reply_of reply =
      added_of (has_begun_check_write script reply.0 (world_at_cause world cause) (check_write_at world cause)) reply.0 reply.1
      (disk_of script reply.0 (world_at_cause world cause)) (request_at script reply.0)

  one_apart : (req : ℕ) (one : HistEvent) → is_of req one ≡ true → (back : List (ℕ × GuestRsp)) → IsFree req back
      → list_all (are_apart one) (flat_map make back) ≡ true
  one_apart req one of [] free = refl
  one_apart req one of (reply ∷ back) free =
      joined_all (are_apart one) (make reply) (flat_map make back)
      (all_weaker (is_of reply.0) (are_apart one)
      (λ event of_other. two_apart req reply.0
      (λ (same : req ≡ reply.0). free reply (Contains-head reply back) (sym same)) one event of of_other)
      (make reply) (reply_of reply))
      (one_apart req one of back (λ other among. free other (Contains-cons reply back other among)))

  pub replies_apart : (reply : ℕ × GuestRsp) (back : List (ℕ × GuestRsp)) → IsFree reply.0 back
      → list_all (λ (one : HistEvent). list_all (are_apart one) (flat_map make back)) (make reply) ≡ true
  replies_apart reply back free =
      all_weaker (is_of reply.0) (λ (one : HistEvent). list_all (are_apart one) (flat_map make back))
      (λ one of. one_apart reply.0 one of back free) (make reply) (reply_of reply)

pub behind_free : (req : ℕ) (front back replies : List (ℕ × GuestRsp)) → replies ≡ front ++ back → IsFree req replies → IsFree req back
behind_free req front back replies were free one among =
    free one (subst (λ (list : List (ℕ × GuestRsp)). Contains list one) (sym were) (Contains-append_right front back one among))
