-- A session that was taken out of a step's node and put back, changed; and where a reply stands among others.
use Rattle.std.proofs.Common.{◌≡◌, ℕ, suc, ◌+◌, ◌≤◌, nat_lt, arith, if◌then◌else◌, Bool, true, false, not, ◌||◌, cond, List, [], ◌∷◌, ◌++◌, length, Option, Some, None, Result, Ok, Err, OnOk, refl, ap, sym, ◌∙◌}
use Rattle.std.specs.List.{insert, position, position_or_len}
use Rattle.std.proofs.lemmas.Bool.{ltb-false}
use Rattle.std.proofs.lemmas.Option.{same_Some}
use Rattle.std.proofs.Math.Numerals.{one-add}
use Rattle.std.specs.Ordering.{nat_cmp}
use Rattle.std.specs.Cmp.{nat_cmp_total}
use Rattle.std.specs.BTreeMap.{is_at}
use Rattle.std.specs.FinMap as tree
use Rattle.sheep_node.specs.declared.session.Session.{Session}
use Rattle.gateway_queue.specs.declared.queue.Queued.{Queued}
use Rattle.gateway_queue.specs.Queue.{has_request_number, is_queued, queue_without}
use Rattle.peer_proto.specs.declared.guest.GuestRsp.{GuestRsp}
use Rattle.sheep_node.specs.StepState.{StepState, with_session, session_in, replies_in_order}
use Rattle.sheep_node.specs.Kept.{is_reply_behind, without_session}

module _ {X : Type 0} (m : tree.FinMap nat_cmp X) (k : ℕ) where
  pub insert-remove : (x : X) → tree.insert (tree.remove m k) k x ≡ tree.insert m k x
  insert-remove x =
      tree.same_map nat_cmp_total tree.nat_cmp-IsAntisymmetric (tree.insert (tree.remove m k) k x) (tree.insert m k x) (λ q.
      tree.get-insert nat_cmp_total (tree.remove m k) k x q
      ∙ by_tie (is_at (nat_cmp q) k) (tree.get m q) (tree.get (tree.remove m k) q) (tree.get-remove nat_cmp_total m k q)
      ∙ sym (tree.get-insert nat_cmp_total m k x q))
    where
      by_tie : (b : Bool) (old mid : Option X) → mid ≡ cond b None old → cond b (Some x) mid ≡ cond b (Some x) old
      by_tie true old mid is = refl
      by_tie false old mid is = is

session_put_back : (number : ℕ) (session : Session) (so_far : StepState)
    → with_session number session (without_session number so_far) ≡ with_session number session so_far
session_put_back number session so_far =
    ap (λ (sessions : tree.FinMap nat_cmp Session). record so_far { node = record so_far.node { sessions = sessions } })
    (insert-remove so_far.node.sessions number session)

-- nothing leaves a queue with a request that isn't in it
pub none_left : (req : ℕ) (queue : List Queued) → is_queued req queue ≡ false → queue_without req queue ≡ queue
none_left req [] lacks = refl
none_left req (first ∷ queue) lacks = by_first (has_request_number req first) (none_left req queue) lacks
  where
    by_first : (b : Bool) → (is_queued req queue ≡ false → queue_without req queue ≡ queue) → (b || is_queued req queue) ≡ false
        → cond (not b) (first ∷ queue_without req queue) (queue_without req queue) ≡ first ∷ queue
    by_first true rest lacks = absurd (cc (lacks))
    by_first false rest lacks = ap (λ (queue : List Queued). first ∷ queue) (rest lacks)

-- the session that was taken out is put back, changed
pub session_changed : {A E : Type 0} (change : Session → Session) (number : ℕ) (so_far without new : StepState) (had : Session)
    (answer : Result A E) → had ≡ session_in number so_far → without ≡ without_session number so_far
    → OnOk answer (new ≡ with_session number (change had) without)
    → OnOk answer (new ≡ with_session number (change (session_in number so_far)) so_far)
session_changed change number so_far without new had (Ok value) is out now =
    now ∙ ap (with_session number (change had)) out ∙ session_put_back number (change had) so_far
    ∙ ap (λ (session : Session). with_session number (change session) so_far) is
session_changed change number so_far without new had (Err error) is out now = tt

-- a reply stands before the first one to a later request
before_later : (req : ℕ) (reply : GuestRsp) (replies : List (ℕ × GuestRsp))
    → insert replies (position_or_len (is_reply_behind req) replies) (req, reply) ≡ replies_in_order (req, reply) replies
before_later req reply [] = refl
before_later req reply (first ∷ later) = by_first (nat_lt req first.0) (before_later req reply later)
  where
    by_first : (b : Bool) → insert later (position_or_len (is_reply_behind req) later) (req, reply) ≡ replies_in_order (req, reply) later
        → insert (first ∷ later) (cond (not b) (1 + position_or_len (is_reply_behind req) later) 0) (req, reply)
        ≡ (if b then (req, reply) ∷ first ∷ later else first ∷ replies_in_order (req, reply) later)
    by_first true rest = refl
    by_first false rest =
        ap (λ (place : ℕ). insert (first ∷ later) place (req, reply)) (one-add (position_or_len (is_reply_behind req) later))
        ∙ ap (λ (replies : List (ℕ × GuestRsp)). first ∷ replies) rest

pub reply_inserted : (req place : ℕ) (reply : GuestRsp) (replies : List (ℕ × GuestRsp))
    → position (is_reply_behind req) replies ≡ Some place → insert replies place (req, reply) ≡ replies_in_order (req, reply) replies
reply_inserted req place reply replies is = by_place (nat_lt (position_or_len (is_reply_behind req) replies) (length replies)) is
  where
    by_place : (b : Bool) → cond b (Some (position_or_len (is_reply_behind req) replies)) None ≡ Some place
        → insert replies place (req, reply) ≡ replies_in_order (req, reply) replies
    by_place true is =
        ap (λ (place : ℕ). insert replies place (req, reply)) (sym (same_Some (position_or_len (is_reply_behind req) replies) place is))
        ∙ before_later req reply replies
    by_place false is = absurd (cc (is))

-- or at the end, where none is to a later request
at_end : (req : ℕ) (reply : GuestRsp) (replies : List (ℕ × GuestRsp)) → length replies ≤ position_or_len (is_reply_behind req) replies
    → replies ++ (req, reply) ∷ [] ≡ replies_in_order (req, reply) replies
at_end req reply [] none = refl
at_end req reply (first ∷ later) none = by_first (nat_lt req first.0) (at_end req reply later) none
  where
    by_first : (b : Bool) → (length later ≤ position_or_len (is_reply_behind req) later
        → later ++ (req, reply) ∷ [] ≡ replies_in_order (req, reply) later)
        → suc (length later) ≤ cond (not b) (1 + position_or_len (is_reply_behind req) later) 0
        → first ∷ (later ++ (req, reply) ∷ []) ≡ (if b then (req, reply) ∷ first ∷ later else first ∷ replies_in_order (req, reply) later)
    by_first true rest none = absurd (omega arith)
    by_first false rest none = ap (λ (replies : List (ℕ × GuestRsp)). first ∷ replies) (rest (omega arith))

pub reply_added : (req : ℕ) (reply : GuestRsp) (replies : List (ℕ × GuestRsp)) → position (is_reply_behind req) replies ≡ None
    → replies ++ (req, reply) ∷ [] ≡ replies_in_order (req, reply) replies
reply_added req reply replies is =
    at_end req reply replies (ltb-false (position_or_len (is_reply_behind req) replies) (length replies)
    (by_place (nat_lt (position_or_len (is_reply_behind req) replies) (length replies)) is))
  where
    by_place : (b : Bool) → cond b (Some (position_or_len (is_reply_behind req) replies)) None ≡ None → b ≡ false
    by_place true is = absurd (cc (is))
    by_place false is = refl
