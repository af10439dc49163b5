-- Events that may come next in a history, by what it tells of their requests: writes begin that hadn't begun, and those end that had begun
-- and hadn't ended.
use Rattle.std.proofs.Common.{◌≡◌, ◌≢◌, ⊎_elim, ℕ, zero, suc, ◌+◌, ◌<◌, ◌≤◌, ◌==◌, ◌&&◌, ◌||◌, not, Bool, true, false, List, [], ◌∷◌, ◌++◌}
use Rattle.std.proofs.Common.{map, fold, length, Contains, Option, Some, None, refl, sym, ap, subst, arith, ◌∙◌}
use Rattle.std.specs.Prelude.{◌/◌, flat_map}
use Rattle.std.specs.List.{list_any, range_with_len}
use Rattle.std.proofs.Math.Bool.{or-false}
use Rattle.std.proofs.lemmas.Bool.{and_from, and_parts, eq-eqb, eqb-true, ne_eqb, or_cases, or_left}
use Rattle.std.proofs.lemmas.List.Folds.{list_any-append}
use Rattle.std.proofs.lemmas.List.Sums.{fold-append}
use Rattle.proof_tools.proofs.Lists.{Contains-cons, Contains-head}
use Rattle.object_id.specs.declared.limits.TheConstants.{BLOCK_BYTES}
use Rattle.disk_history.specs.declared.event.HistEvent.{HistEvent}
use Rattle.disk_history.specs.declared.event.HistEvent.TheVariants.{Create, Copy, Delete, WriteStart, WriteDone, WriteRefused, WriterLost}
use Rattle.disk_history.specs.declared.event.HistEvent.TheVariants.{Read}
use Rattle.disk_history.specs.Ledger.{Ledger, empty_ledger, ledger_after}
use Rattle.disk_history.specs.Legal.{has_begun_to_write, has_place, may_follow}
use Rattle.cluster_script.specs.declared.statement.Statement.{Statement}
use Rattle.cluster_script.specs.declared.statement.Statement.TheVariants as lines
use Rattle.cluster_script.specs.NumberedRequests.{request_at}
use Rattle.peer_proto.specs.declared.guest.GuestRsp.{GuestRsp}
use Rattle.peer_proto.specs.declared.guest.GuestRsp.TheVariants as answers
use Rattle.sheep_node.specs.declared.check_write.CheckWrite.{CheckWrite}
use Rattle.sheep_world.specs.World.{World}
use Rattle.sheep_world.specs.HistoryAdditions.{block_in, write_ended, blocks_read, reply_adds, added_by, disk_of, has_begun_check_write}
use Rattle.sheep_world.specs.HistoryAdditions.{reply_grown}
use Rattle.overlap_law.specs.DiskEvents.{ends_write_of}
use Rattle.overlap_law.specs.Headline.{ledger_of}
use Rattle.overlap_law.specs.PastWords.{is_refusal}
use Rattle.overlap_law.specs.ToldReads.{MayFollowUnlessRead, AllElseMayFollow, begins_write_at}
use Rattle.overlap_law.proofs.EndsOfWrites.{added_none as ends_none}
use Rattle.overlap_law.proofs.ItemsOfReplies.{added_none as begins_none}
use Rattle.overlap_law.proofs.ItemsOfRequests.{begins_write_of}
use Rattle.overlap_law.proofs.RepliesOfChanges.{IsFree}
use Rattle.overlap_law.proofs.RequestsTold.{ended_after, ended_told, place_after}
use Rattle.overlap_law.proofs.WritesTold.{begun_after, begun_along, begun_told, on_along}

-- ---- one list behind another

then_follow : (front back : List HistEvent) (ledger : Ledger) → AllElseMayFollow ledger front
    → AllElseMayFollow (fold ledger_after ledger front) back → AllElseMayFollow ledger (front ++ back)
then_follow [] back ledger first rest = rest
then_follow (event ∷ front) back ledger first rest = (first.0, then_follow front back (ledger_after ledger event) first.1 rest)

pub both_follow : (history front back : List HistEvent) → AllElseMayFollow (ledger_of history) front
    → AllElseMayFollow (ledger_of (history ++ front)) back → AllElseMayFollow (ledger_of history) (front ++ back)
both_follow history front back first rest =
    then_follow front back (ledger_of history) first
    (subst (λ (ledger : Ledger). AllElseMayFollow ledger back) (fold-append ledger_after empty_ledger history front) rest)

-- ---- writes that begin

and_none : (a b c : Bool) → c ≡ false → (a && (b && c)) ≡ false
and_none true true c none = none
and_none true false c none = refl
and_none false b c none = refl

module _ (req vid first : ℕ) (coded : Bool) (piece : ℕ → List ℕ) where
  abbrev pub event : ℕ → HistEvent
  event place = WriteStart req vid (first + place) coded (piece place)

  -- the request hasn't ended, and began none of the blocks from one on
  pub record IsNewFrom (from : ℕ) (ledger : Ledger) : Type 0 where
    pub unended : (ledger.requests req).ended ≡ false
    pub none : (place : ℕ) → from ≤ place → has_place (ledger.requests req) vid (first + place) ≡ false

  -- it is so of the later ones once it begins one
  pub later_new : (from : ℕ) (ledger : Ledger) → IsNewFrom from ledger → IsNewFrom (from + 1) (ledger_after ledger (event from))
  later_new from ledger new = record {
    unended = ended_after req (event from) ledger ∙ or-false (ledger.requests req).ended ∙ new.unended;
    none = λ place further.
        let was : has_place (ledger.requests req) vid (first + place) ≡ false = new.none place (omega (arith, further)) in
        let apart : (first + from == first + place) ≡ false
        = ne_eqb (first + from) (first + place) (λ (same : first + from ≡ first + place). omega (arith, same, further)) in
        let other : begins_write_at req vid (first + place) (event from) ≡ false
        = and_none (req == req) (vid == vid) (first + from == first + place) apart in
        place_after req vid (first + place) (event from) ledger ∙ (λ i. was i || other i);
  }

  pub start_follows : (place : ℕ) (ledger : Ledger) → length (piece place) ≡ BLOCK_BYTES → (ledger.requests req).ended ≡ false
      → has_place (ledger.requests req) vid (first + place) ≡ false → may_follow ledger (event place) ≡ true
  start_follows place ledger whole unended none =
      and_from (length (piece place) == BLOCK_BYTES && not (ledger.requests req).ended)
      (not (has_place (ledger.requests req) vid (first + place)))
      (and_from (length (piece place) == BLOCK_BYTES) (not (ledger.requests req).ended) (eq-eqb (length (piece place)) BLOCK_BYTES whole)
      (ap not unended))
      (ap not none)

  pub starts_follow : (from count : ℕ) (ledger : Ledger) → ((place : ℕ) → place < from + count → length (piece place) ≡ BLOCK_BYTES)
      → IsNewFrom from ledger → AllElseMayFollow ledger (map event (range_with_len from count))
  starts_follow from zero ledger whole new = tt
  starts_follow from (suc count) ledger whole new = (
    start_follows from ledger (whole from (omega arith)) new.unended (new.none from (omega arith)),
    starts_follow (from + 1) count (ledger_after ledger (event from)) (λ place below. whole place (omega (arith, below)))
        (later_new from ledger new),
  )

-- ---- writes that end

-- a request began to write, and hasn't ended
pub record MayEnd (history : List HistEvent) (req : ℕ) : Type 0 where
  pub begun : list_any (begins_write_of req) history ≡ true
  pub unended : list_any (ends_write_of req) history ≡ false

-- unless a reply refuses it, it began blocks alone that were there
abbrev pub IsOnDisksUnlessRefused : List HistEvent → ℕ → GuestRsp → Type 0
IsOnDisksUnlessRefused history req rsp = is_refusal rsp ≡ false → ((ledger_of history).requests req).stray ≡ false

module _ (history : List HistEvent) (req : ℕ) (may : MayEnd history req) where
  begun_unended : (has_begun_to_write ((ledger_of history).requests req) && not ((ledger_of history).requests req).ended) ≡ true
  begun_unended =
      and_from (has_begun_to_write ((ledger_of history).requests req)) (not ((ledger_of history).requests req).ended)
      (begun_told req history ∙ may.begun) (ap not (ended_told req history ∙ may.unended))

  pub lost_follows : may_follow (ledger_of history) (WriterLost req) ≡ true
  lost_follows = begun_unended

  done_follows : ((ledger_of history).requests req).stray ≡ false → may_follow (ledger_of history) (WriteDone req) ≡ true
  done_follows on =
      and_from (has_begun_to_write ((ledger_of history).requests req) && not ((ledger_of history).requests req).ended)
      (not ((ledger_of history).requests req).stray) begun_unended (ap not on)

  end_follows : (rsp : GuestRsp) → IsOnDisksUnlessRefused history req rsp → MayFollowUnlessRead (ledger_of history) (write_ended req rsp)
  end_follows answers.Done on = done_follows (on refl)
  end_follows (answers.Piece bytes) on = done_follows (on refl)
  end_follows (answers.Refused cause) on = begun_unended
  end_follows (answers.Granted vid) on = done_follows (on refl)
  end_follows (answers.Checked found) on = done_follows (on refl)

-- ---- replies

-- reads may come anywhere
reads_follow : {X : Type 0} (disk : ℕ) (block : X → ℕ) (bytes : X → List ℕ) (xs : List X) (ledger : Ledger)
    → AllElseMayFollow ledger (map (λ (x : X). Read disk (block x) (bytes x)) xs)
reads_follow disk block bytes [] ledger = tt
reads_follow disk block bytes (x ∷ xs) ledger = (tt, reads_follow disk block bytes xs (ledger_after ledger (Read disk (block x) (bytes x))))

read_follows : (disk offset : ℕ) (rsp : GuestRsp) (ledger : Ledger) → AllElseMayFollow ledger (blocks_read disk offset rsp)
read_follows disk offset answers.Done ledger = tt
read_follows disk offset (answers.Piece bytes) ledger =
    reads_follow disk (λ (place : ℕ). offset / BLOCK_BYTES + place) (λ (place : ℕ). block_in bytes place)
    (range_with_len 0 (length bytes / BLOCK_BYTES)) ledger
read_follows disk offset (answers.Refused cause) ledger = tt
read_follows disk offset (answers.Granted vid) ledger = tt
read_follows disk offset (answers.Checked found) ledger = tt

-- what an end wants of the history
abbrev pub IsReadyToEnd : List HistEvent → ℕ → GuestRsp → Type 0
IsReadyToEnd history req rsp = MayEnd history req × IsOnDisksUnlessRefused history req rsp

pub own_end : (req : ℕ) (rsp : GuestRsp) → list_any (ends_write_of req) (write_ended req rsp ∷ []) ≡ true
own_end req answers.Done = λ i. eq-eqb req req refl i || false
own_end req (answers.Piece bytes) = λ i. eq-eqb req req refl i || false
own_end req (answers.Refused cause) = λ i. eq-eqb req req refl i || false
own_end req (answers.Granted vid) = λ i. eq-eqb req req refl i || false
own_end req (answers.Checked found) = λ i. eq-eqb req req refl i || false

module _ (history : List HistEvent) (req : ℕ) (rsp : GuestRsp) where
  one_follows : IsReadyToEnd history req rsp → AllElseMayFollow (ledger_of history) (write_ended req rsp ∷ [])
  one_follows ready = (end_follows history req ready.0 rsp ready.1, tt)

  adds_follow : (written : Bool) (disk : ℕ) (s : Statement)
      → (list_any (ends_write_of req) (reply_adds written req rsp disk s) ≡ true → IsReadyToEnd history req rsp)
      → AllElseMayFollow (ledger_of history) (reply_adds written req rsp disk s)
  adds_follow written disk (lines.Read session offset size) ready = read_follows disk offset rsp (ledger_of history)
  adds_follow written disk (lines.Write session offset size pattern) ready = one_follows (ready (own_end req rsp))
  adds_follow true disk (lines.Check session) ready = one_follows (ready (own_end req rsp))
  adds_follow false disk (lines.Check session) ready = tt
  adds_follow written disk s ready = tt

  added_follow : (written : Bool) (disk : Option ℕ) (s : Option Statement)
      → (list_any (ends_write_of req) (added_by written req rsp disk s) ≡ true → IsReadyToEnd history req rsp)
      → AllElseMayFollow (ledger_of history) (added_by written req rsp disk s)
  added_follow written None s ready = tt
  added_follow written (Some disk) None ready = tt
  added_follow written (Some disk) (Some s) ready = adds_follow written disk s ready

-- each reply is to another request
abbrev pub AreToOthers : List (ℕ × GuestRsp) → Type 0
AreToOthers [] = Unit {0}
AreToOthers (reply ∷ later) = IsFree reply.0 later × AreToOthers later

module _ (script : List Statement) (found : World) (write : Option CheckWrite) where
  abbrev grown : ℕ × GuestRsp → List HistEvent
  grown = reply_grown script found write

  -- a reply that ends a write may
  abbrev pub IsReady : List HistEvent → ℕ × GuestRsp → Type 0
  IsReady history reply = list_any (ends_write_of reply.0) (grown reply) ≡ true → IsReadyToEnd history reply.0 reply.1

  -- behind a reply to another request it still may
  still_ready : (history : List HistEvent) (reply other : ℕ × GuestRsp) → other.0 ≢ reply.0 → IsReady history other
      → IsReady (history ++ grown reply) other
  still_ready history reply other apart ready ends =
      let (may, on) = ready ends in
      let written : Bool = has_begun_check_write script reply.0 found write in
      let none = ends_none other.0 written reply.0 reply.1 (disk_of script reply.0 found) (request_at script reply.0)
      (ne_eqb reply.0 other.0 (λ (same : reply.0 ≡ other.0). apart (sym same))) in
      let begins = begins_none other.0 written reply.0 reply.1 (disk_of script reply.0 found) (request_at script reply.0) in (
        record {
          begun = list_any-append (begins_write_of other.0) history (grown reply)
              ∙ or_left (list_any (begins_write_of other.0) history) (list_any (begins_write_of other.0) (grown reply)) may.begun;
          unended = list_any-append (ends_write_of other.0) history (grown reply) ∙ (λ i. may.unended i || none i);
        },
        λ kept. ap (λ (ledger : Ledger). (ledger.requests other.0).stray) (fold-append ledger_after empty_ledger history (grown reply))
            ∙ on_along other.0 (grown reply) (ledger_of history) begins (on kept),
      )

  pub replies_follow : (replies : List (ℕ × GuestRsp)) (history : List HistEvent) → AreToOthers replies
      → ((reply : ℕ × GuestRsp) → Contains replies reply → IsReady history reply)
      → AllElseMayFollow (ledger_of history) (flat_map grown replies)
  replies_follow [] history apart ready = tt
  replies_follow (reply ∷ later) history apart ready =
      both_follow history (grown reply) (flat_map grown later)
      (added_follow history reply.0 reply.1 (has_begun_check_write script reply.0 found write) (disk_of script reply.0 found)
      (request_at script reply.0) (ready reply (Contains-head reply later)))
      (replies_follow later (history ++ grown reply) apart.1
      (λ other among. still_ready history reply other (apart.0 other among) (ready other (Contains-cons reply later other among))))

-- ---- what ends has begun

own_begun : (req : ℕ) (event : HistEvent) (ledger : Ledger) → MayFollowUnlessRead ledger event → ends_write_of req event ≡ true
    → has_begun_to_write (ledger.requests req) ≡ true
own_begun req (Create disk blocks) ledger may ends = absurd (cc (ends))
own_begun req (Copy old new) ledger may ends = absurd (cc (ends))
own_begun req (Delete disk) ledger may ends = absurd (cc (ends))
own_begun req (WriteStart other disk block coded bytes) ledger may ends = absurd (cc (ends))
own_begun req (WriteDone other) ledger may ends =
    let first = and_parts (has_begun_to_write (ledger.requests other) && not (ledger.requests other).ended)
    (not (ledger.requests other).stray) may in
    let both = and_parts (has_begun_to_write (ledger.requests other)) (not (ledger.requests other).ended) first.0 in
    subst (λ (k : ℕ). has_begun_to_write (ledger.requests k) ≡ true) (eqb-true other req ends) both.0
own_begun req (WriteRefused other) ledger may ends =
    let both = and_parts (has_begun_to_write (ledger.requests other)) (not (ledger.requests other).ended) may in
    subst (λ (k : ℕ). has_begun_to_write (ledger.requests k) ≡ true) (eqb-true other req ends) both.0
own_begun req (WriterLost other) ledger may ends =
    let both = and_parts (has_begun_to_write (ledger.requests other)) (not (ledger.requests other).ended) may in
    subst (λ (k : ℕ). has_begun_to_write (ledger.requests k) ≡ true) (eqb-true other req ends) both.0
own_begun req (Read disk block bytes) ledger may ends = absurd (cc (ends))

ends_begun : (req : ℕ) (events : List HistEvent) (ledger : Ledger) → AllElseMayFollow ledger events
    → list_any (ends_write_of req) events ≡ true → has_begun_to_write ((fold ledger_after ledger events).requests req) ≡ true
ends_begun req [] ledger may is = absurd (cc (is))
ends_begun req (event ∷ later) ledger may is = ⊎_elim
    (λ (own : ends_write_of req event ≡ true).
    let then : has_begun_to_write ((ledger_after ledger event).requests req) ≡ true
    = begun_after req event ledger
    ∙ or_left (has_begun_to_write (ledger.requests req)) (begins_write_of req event) (own_begun req event ledger may.0 own) in
    begun_along req later (ledger_after ledger event)
    ∙ or_left (has_begun_to_write ((ledger_after ledger event).requests req)) (list_any (begins_write_of req) later) then)
    (λ (other : list_any (ends_write_of req) later ≡ true). ends_begun req later (ledger_after ledger event) may.1 other)
    (or_cases (ends_write_of req event) (list_any (ends_write_of req) later) is)

-- of a history each event of which might follow, reads aside, whoever ended had begun
pub ended_begun : (req : ℕ) (history : List HistEvent) → AllElseMayFollow empty_ledger history
    → list_any (ends_write_of req) history ≡ true → list_any (begins_write_of req) history ≡ true
ended_begun req history may is = sym (begun_told req history) ∙ ends_begun req history empty_ledger may is
