-- The attempts of a refused request are mute, no message of them was lost, and nothing of them is in flight: each change of a moment keeps
-- that, and that a refused request is at no node any more.
use Rattle.std.proofs.Common.{◌≡◌, ◌⊎◌, inl, inr, ⊎_elim, arith, ℕ, zero, suc, not, ◌||◌, Bool, true, false, List, [], ◌∷◌, Contains}
use Rattle.std.proofs.Common.{length, Option, Some, None, is_some, slice_get, refl, sym, ap, subst, ◌∙◌}
use Rattle.std.specs.List.{list_any}
use Rattle.std.specs.FinMap as tree
use Rattle.std.proofs.lemmas.Bool.{not-true}
use Rattle.std.proofs.lemmas.Option.{same_Some}
use Rattle.object_id.specs.declared.node.NodeId.{NodeId}
use Rattle.cluster_script.specs.declared.statement.Statement.{Statement}
use Rattle.cluster_script.specs.Sessions.{ScriptSession, session_numbered}
use Rattle.message_wire.specs.declared.packet.Packet.{Packet}
use Rattle.sheep_node.specs.declared.course.Request as requests
use Rattle.sheep_node.specs.OneWork.{may_work_at}
use Rattle.sheep_world.specs.World.{Host}
use Rattle.sheep_world.specs.Began.{Began}
use Rattle.overlap_law.specs.Attempts.{AttemptRecord, MessageFate, Flying, Served, Doomed}
use Rattle.overlap_law.specs.Words.{is_served, is_mute}
use Rattle.overlap_law.specs.Holders.{is_object_among}
use Rattle.overlap_law.specs.Each.{EachUp, EachAttempt}
use Rattle.overlap_law.specs.Fates.{IsFateIn}
use Rattle.overlap_law.specs.Packets.{message_name_at, is_name_in_wire}
use Rattle.overlap_law.specs.Past.{MomentWithPast}
use Rattle.overlap_law.specs.OpenWorks.{RefusedRequestsAreMute}
use Rattle.overlap_law.specs.RequestsOfScript.{AttemptsAreTheScripts}
use Rattle.overlap_law.specs.MomentChanges.{MomentChange, RunsAreInRange}
use Rattle.overlap_law.specs.TiedAttempts.{IsTied}
use Rattle.overlap_law.proofs.AskedInMoments.{asked_after}
use Rattle.overlap_law.proofs.AwaitedInMoments.{AreOfOpenWorks}
use Rattle.overlap_law.proofs.DrivenInMoments.{RequestsHaveWorked, driven_after}
use Rattle.overlap_law.proofs.DueMessages.{HoldsBefore, TouchOrAreAwaited}
use Rattle.overlap_law.proofs.FreshRequests.{begins_new}
use Rattle.overlap_law.proofs.KnownFatesLater.{WasMarked}
use Rattle.overlap_law.proofs.LostMessages.{lost_from}
use Rattle.overlap_law.proofs.RefusedInMoments.{IsRefusedNow, refused_from}
use Rattle.overlap_law.proofs.SessionsOfRequests.{IsAskedIn, by_line, of_asking}
use Rattle.overlap_law.proofs.StartedAttempts.{IsStarted}
use Rattle.overlap_law.proofs.TouchedInMoments.{BeginsWith, HadRequests, each_had_requests}
use Rattle.overlap_law.proofs.TrafficAttempts.{HasBegun, came_from, served_before}
use Rattle.overlap_law.proofs.TrafficOfChanges.{traffic}
use Rattle.overlap_law.proofs.TrafficOrder.{traffic_fewer}
use Rattle.overlap_law.proofs.UnansweredInMoments.{IsNewer}

-- ---- mute attempts

served_at : (fates : List MessageFate) → list_any is_served fates ≡ true → (place : ℕ) × (slice_get fates place ≡ Some Served)
served_at [] is = absurd (cc (is))
served_at (fate ∷ fates) is = by_fate fate is (served_at fates)
  where
    by_fate : (fate : MessageFate) → (is_served fate || list_any is_served fates) ≡ true
        → (list_any is_served fates ≡ true → (place : ℕ) × (slice_get fates place ≡ Some Served))
        → (place : ℕ) × (slice_get (fate ∷ fates) place ≡ Some Served)
    by_fate Flying is rest = let (place, at) = rest is in (suc place, at)
    by_fate Served is rest = (zero, refl)
    by_fate Doomed is rest = let (place, at) = rest is in (suc place, at)

any_served : (fates : List MessageFate) (place : ℕ) → slice_get fates place ≡ Some Served → list_any is_served fates ≡ true
any_served [] place at = absurd (cc (at))
any_served (fate ∷ fates) zero at = ap (λ (f : MessageFate). is_served f || list_any is_served fates) (same_Some fate Served at)
any_served (Flying ∷ fates) (suc place) at = any_served fates place at
any_served (Served ∷ fates) (suc place) at = refl
any_served (Doomed ∷ fates) (suc place) at = any_served fates place at

-- an attempt is mute where nothing of it was served
mute_if : (attempt : AttemptRecord) → ((place : ℕ) → slice_get attempt.fates place ≡ Some Served → ⊥) → is_mute attempt ≡ true
mute_if attempt none = by_any (list_any is_served attempt.fates) refl
  where
    by_any : (b : Bool) → list_any is_served attempt.fates ≡ b → not b ≡ true
    by_any false is = refl
    by_any true is = let (place, at) = served_at attempt.fates is in absurd (none place at)

never_served : (attempt : AttemptRecord) → is_mute attempt ≡ true → (place : ℕ) → slice_get attempt.fates place ≡ Some Served → ⊥
never_served attempt mute place at =
    let yes = any_served attempt.fates place at in
    let no = not-true (list_any is_served attempt.fates) mute in
    cc (yes, no)

target_of : {X : Type 0} {Y : Type 0} (xs : List X) (ys : List Y) → length xs ≡ length ys → (place : ℕ) (x : X)
    → slice_get xs place ≡ Some x
    → (y : Y) × (slice_get ys place ≡ Some y)
target_of {X = X} {Y = Y} [] ys long place x at = absurd (cc (at))
target_of {X = X} {Y = Y} (z ∷ xs) [] long place x at = absurd (cc (long))
target_of {X = X} {Y = Y} (z ∷ xs) (y ∷ ys) long zero x at = (y, refl)
target_of {X = X} {Y = Y} (z ∷ xs) (y ∷ ys) long (suc place) x at =
    let same : suc (length xs) ≡ suc (length ys) = long in
    target_of {X = X} {Y = Y} xs ys (omega (arith, same)) place x at

-- ---- what holds of the refused

pub record RefusedAreOver (moment : MomentWithPast) : Type 0 where
  pub mute : RefusedRequestsAreMute moment.world.wire moment.past.refused moment.past.attempts
  pub unlost : EachAttempt moment.past.attempts (λ j attempt. is_object_among attempt.req moment.past.refused ≡ true
      → (place : ℕ) (target : NodeId)
      → slice_get attempt.targets place ≡ Some target → Contains moment.past.lost (message_name_at attempt place) → ⊥)
  pub gone : EachUp moment.world.hosts (λ n node. (req : ℕ) → is_object_among req moment.past.refused ≡ true
      → tree.contains_key node.requests req ≡ false)

module _ (script : List Statement) (range : RunsAreInRange script) (start before after : MomentWithPast) (began : Began script start.world)
    (first : HoldsBefore script start) (answered : (req : ℕ) → is_object_among req start.past.refused ≡ true
    → IsStarted script start.world.guests req) (change : MomentChange script start before after) (tied : IsTied before)
    (tied_after : IsTied after) (awaited : AreOfOpenWorks after)
    (due : TouchOrAreAwaited before) (worked : RequestsHaveWorked before) (scripts : AttemptsAreTheScripts script after.past.attempts)
    (over : RefusedAreOver before) where
  abbrev Refused : ℕ → Type 0
  Refused req = is_object_among req after.past.refused ≡ true

  abbrev WasRefused : ℕ → Type 0
  WasRefused req = is_object_among req before.past.refused ≡ true

  from : (req : ℕ) → Refused req → WasRefused req ⊎ IsRefusedNow script after req
  from = refused_from script range start began first change tied due worked

  -- ---- they are at no node

  none_of : (o : Option requests.Request) → ((request : requests.Request) → o ≡ Some request → ⊥) → is_some o ≡ false
  none_of None none = refl
  none_of (Some request) none = absurd (none request refl)

  module _ (n : ℕ) (host : Host) (there : tree.get after.world.hosts n ≡ Some host) (up : host.is_lost ≡ false) (req : ℕ) where
    old_gone : WasRefused req → (request : requests.Request) → tree.get host.node.requests req ≡ Some request → ⊥
    old_gone was request got = ⊎_elim
        (λ (r : HadRequests script start before n host). ⊎_elim
        (λ (old : tree.contains_key r.old.node.requests req ≡ true).
        let none = over.gone n r.old r.there r.up req was in cc (none, old))
        (λ (b : BeginsWith script start before req).
        begins_new script start before req b (answered req (ap (is_object_among req) (sym b.refused_so) ∙ was)))
        (r.requests req (ap (λ (o : Option requests.Request). is_some o) got)))
        (λ (newer : IsNewer before n host). newer.none req request got)
        (each_had_requests script range start began change n host there up)

    new_gone : (r : IsRefusedNow script after req) → (request : requests.Request) → tree.get host.node.requests req ≡ Some request → ⊥
    new_gone r request got =
        let asked : IsAskedIn script n host.incarnation req request.session
        = by_line script n host.incarnation req request.session (asked_after script start began change n host there req request got)
        (of_asking script req r.session r.asked.asking) in
        let session : request.session ≡ r.session = cc (asked.asking, r.asked.asking) in
        let same : asked.of ≡ r.asked.of
        = same_Some asked.of r.asked.of (sym asked.declared ∙ ap (session_numbered script) session ∙ r.asked.declared) in
        let node : n ≡ r.n = sym asked.of_node ∙ ap (λ (s : ScriptSession). s.node) same ∙ r.asked.of_node in
        let host_so : host ≡ r.host = same_Some host r.host (sym there ∙ ap (tree.get after.world.hosts) node ∙ r.there) in
        let none : tree.contains_key host.node.requests req ≡ false
        = ap (λ (h : Host). tree.contains_key h.node.requests req) host_so ∙ r.none in
        let some : tree.contains_key host.node.requests req ≡ true = ap (λ (o : Option requests.Request). is_some o) got in
        cc (none, some)

    gone_then : Refused req → tree.contains_key host.node.requests req ≡ false
    gone_then is =
        none_of (tree.get host.node.requests req)
        (λ request got. ⊎_elim (λ (was : WasRefused req). old_gone was request got)
        (λ (r : IsRefusedNow script after req). new_gone r request got) (from req is))

  -- so none of them has a work
  no_work : (n : ℕ) (host : Host) (there : tree.get after.world.hosts n ≡ Some host) → host.is_lost ≡ false → (req : ℕ)
      → tree.contains_key host.node.requests req ≡ false
      → may_work_at (tree.get host.node.requests req) ≡ true → ⊥
  no_work n host there up req none may = by_request (tree.get host.node.requests req) none may
    where
      by_request : (o : Option requests.Request) → is_some o ≡ false → may_work_at o ≡ true → ⊥
      by_request None none may = cc (may)
      by_request (Some request) none may = cc (none)

  -- ---- their attempts

  module _ (j : ℕ) (attempt : AttemptRecord) (got : slice_get after.past.attempts j ≡ Some attempt) (is : Refused attempt.req) where
    -- none begins
    none_begins : HasBegun before.world.hosts after.world.hosts attempt → ⊥
    none_begins b =
        let host = b.begun.sent_by.after in
        let none = gone_then b.n host b.begun.sent_by.there_after b.begun.up attempt.req is in
        no_work b.n host b.begun.sent_by.there_after b.begun.up attempt.req none
        ((driven_after script range start began change b.n host b.begun.sent_by.there_after).open_works attempt.req b.begun.work
        b.begun.opened.there)

    -- a request that is refused now is of the gateway's session
    now_gateway : (r : IsRefusedNow script after attempt.req) → attempt.gateway.0 ≡ r.n
    now_gateway r =
        let of = scripts.each j attempt got in
        let session : attempt.session ≡ r.session = cc (of.asking, r.asked.asking) in
        let same : of.session ≡ r.asked.of
        = same_Some of.session r.asked.of (sym of.declared ∙ ap (session_numbered script) session ∙ r.asked.declared) in
        sym of.of_node ∙ ap (λ (s : ScriptSession). s.node) same ∙ r.asked.of_node

    now_quiet : IsRefusedNow script after attempt.req → (place : ℕ) (target : NodeId) → slice_get attempt.targets place ≡ Some target
        → is_name_in_wire after.world.wire (message_name_at attempt place) ≡ true → ⊥
    now_quiet r place target among in_wire =
        let a = awaited.each r.n r.host r.there r.up j attempt got (now_gateway r) place target
        (record { among = among; there = in_wire }) in
        no_work r.n r.host r.there r.up attempt.req r.none
        ((driven_after script range start began change r.n r.host r.there).open_works attempt.req a.work a.opened.there)

    module _ (w : WasMarked before.past.attempts j attempt) (was : WasRefused attempt.req) where
      was_own : WasRefused w.was.req
      was_own = ap (λ (a : AttemptRecord). is_object_among a.req before.past.refused) w.same ∙ was

      then_quiet : (place : ℕ) (target : NodeId) → slice_get w.was.targets place ≡ Some target
          → is_name_in_wire before.world.wire (message_name_at w.was place) ≡ false
      then_quiet place target among = (over.mute.quiet j w.was w.at was_own).none place target among

      old_quiet : (place : ℕ) (target : NodeId) → slice_get attempt.targets place ≡ Some target
          → is_name_in_wire after.world.wire (message_name_at attempt place) ≡ true → ⊥
      old_quiet place target among in_wire =
          let among_then : slice_get w.was.targets place ≡ Some target = ap (λ (a : AttemptRecord). slice_get a.targets place) w.same
          ∙ among in
          let some = traffic_fewer before.world.hosts after.world.hosts before.world.wire before.past.attempts tied.incarnations
          (traffic script range start began change)
          j w.was w.at place target among_then (ap (λ (a : AttemptRecord). is_name_in_wire after.world.wire (message_name_at a place))
          w.same ∙ in_wire) in
          let none = then_quiet place target among_then in
          cc (some, none)

      old_mute : (place : ℕ) → slice_get attempt.fates place ≡ Some Served → ⊥
      old_mute place served =
          let (f, at, either) = w.fates_so place Served (ap (λ (a : AttemptRecord). slice_get a.fates place) w.same ∙ served) in
          ⊎_elim
          (λ (known : f ≡ Served). never_served w.was (over.mute.mute j w.was w.at was_own) place
          (at ∙ ap (λ (f : MessageFate). Some f) known))
          (λ (flies : f ≡ Flying).
          let (target, among) = target_of w.was.fates w.was.targets (tied.fates.whole j w.was w.at) place f at in
          let asking = subst (IsFateIn before.world.wire w.was place target) flies (tied.fates.each j w.was w.at place target f among at) in
          let some : is_name_in_wire before.world.wire (message_name_at w.was place)
          ≡ true = ap (λ (o : Option Packet). is_some o) asking.there in
          let none = then_quiet place target among in
          cc (some, none))
          (served_before w.told f Served either refl)

      -- what was lost then was in the wire, or lost before
      old_unlost : (place : ℕ) (target : NodeId) → slice_get attempt.targets place ≡ Some target
          → Contains after.past.lost (message_name_at attempt place) → ⊥
      old_unlost place target among lost =
          let among_then : slice_get w.was.targets place ≡ Some target = ap (λ (a : AttemptRecord). slice_get a.targets place) w.same
          ∙ among in
          let lost_then : Contains after.past.lost (message_name_at w.was place)
          = subst (λ (a : AttemptRecord). Contains after.past.lost (message_name_at a place)) (sym w.same) lost in
          ⊎_elim
          (λ (old : Contains before.past.lost (message_name_at w.was place)). over.unlost j w.was w.at was_own place target among_then old)
          (λ (new : (is_name_in_wire before.world.wire (message_name_at w.was place) ≡ true)
          × (is_name_in_wire after.world.wire (message_name_at w.was place) ≡ false)).
          let some = new.0 in
          let none = then_quiet place target among_then in
          cc (some, none))
          (lost_from script range start began change (message_name_at w.was place) lost_then)

    abbrev Came : Type 0
    Came = WasMarked before.past.attempts j attempt ⊎ HasBegun before.world.hosts after.world.hosts attempt

    came : Came
    came =
        came_from before.world.hosts after.world.hosts before.world.wire before.past.attempts (traffic script range start began change) j
        attempt got

    none_in_wire : (place : ℕ) (target : NodeId) → slice_get attempt.targets place ≡ Some target
        → is_name_in_wire after.world.wire (message_name_at attempt place) ≡ true → ⊥
    none_in_wire place target among in_wire = ⊎_elim
        (λ (was : WasRefused attempt.req). ⊎_elim
        (λ (w : WasMarked before.past.attempts j attempt). old_quiet w was place target among in_wire)
        none_begins
        came)
        (λ (r : IsRefusedNow script after attempt.req). now_quiet r place target among in_wire)
        (from attempt.req is)

    none_served : (place : ℕ) → slice_get attempt.fates place ≡ Some Served → ⊥
    none_served place served = ⊎_elim
        (λ (was : WasRefused attempt.req). ⊎_elim
        (λ (w : WasMarked before.past.attempts j attempt). old_mute w was place served)
        none_begins
        came)
        (λ (r : IsRefusedNow script after attempt.req).
        let (target, among) = target_of attempt.fates attempt.targets (tied_after.fates.whole j attempt got) place Served served in
        r.untouching j attempt got refl (now_gateway r) place target among (inl served))
        (from attempt.req is)

    none_lost : (place : ℕ) (target : NodeId) → slice_get attempt.targets place ≡ Some target
        → Contains after.past.lost (message_name_at attempt place) → ⊥
    none_lost place target among lost = ⊎_elim
        (λ (was : WasRefused attempt.req). ⊎_elim
        (λ (w : WasMarked before.past.attempts j attempt). old_unlost w was place target among lost)
        none_begins
        came)
        (λ (r : IsRefusedNow script after attempt.req). r.untouching j attempt got refl (now_gateway r) place target among (inr lost))
        (from attempt.req is)

    not_in_wire : (place : ℕ) (target : NodeId) → slice_get attempt.targets place ≡ Some target → (b : Bool)
        → is_name_in_wire after.world.wire (message_name_at attempt place) ≡ b
        → is_name_in_wire after.world.wire (message_name_at attempt place) ≡ false
    not_in_wire place target among false in_wire = in_wire
    not_in_wire place target among true in_wire = absurd (none_in_wire place target among in_wire)

  pub change_over : RefusedAreOver after
  change_over = record {
    mute = record {
      mute = λ j attempt got is. mute_if attempt (none_served j attempt got is);
      quiet = λ j attempt got is. record {
        none = λ place target among.
            not_in_wire j attempt got is place target among (is_name_in_wire after.world.wire (message_name_at attempt place)) refl;
      };
    };
    unlost = λ j attempt got is place target among lost. none_lost j attempt got is place target among lost;
    gone = λ n host there up req is. gone_then n host there up req is;
  }
