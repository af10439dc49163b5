-- What is known of a message of an open create or write fits its fate: kept by each step of a node, and by what is told of a message.
use Rattle.std.proofs.Common.{◌≡◌, ◌≢◌, ◌⊎◌, inl, inr, ⊎_elim, arith, ℕ, zero, suc, ◌+◌, ◌-◌, ◌≤◌, ◌&&◌, Bool, true, false, cond, List, []}
use Rattle.std.proofs.Common.{◌∷◌, ◌++◌, Option, Some, None, option_map, option_and_then, slice_get, refl, sym, ap, subst, ◌∙◌}
use Rattle.std.specs.List.{cons_option, filter_map, range_with_len}
use Rattle.std.specs.FinMap as tree
use Rattle.std.proofs.lemmas.Option.{same_Some, slice_get-map}
use Rattle.object_id.specs.declared.node.NodeId.{NodeId}
use Rattle.peer_proto.specs.declared.work.ObjWork.{ObjWork}
use Rattle.gateway.specs.declared.message.Message.{Message}
use Rattle.gateway.specs.declared.message.Status.{Status}
use Rattle.gateway.specs.declared.message.Status.TheVariants.{Unanswered, Succeeded, Refused, Lost}
use Rattle.gateway.specs.Work.{is_making}
use Rattle.gateway.specs.Attempt as gateways
use Rattle.gateway.specs.State.{WorkStage, Work, Open, Ended, WaitsForMembers, asker, is_awaited_in}
use Rattle.sheep_node.specs.declared.course.Request.{Request}
use Rattle.sheep_node.specs.State.{Node}
use Rattle.sheep_node.proofs.AwaitedWorks.{Works}
use Rattle.sheep_world.specs.World.{Host}
use Rattle.proof_tools.proofs.FiniteMaps.{get-entry}
use Rattle.proof_tools.proofs.Lists.{find-contains}
use Rattle.overlap_law.specs.Attempts.{AttemptRecord, MessageFate, Flying, Served, Doomed, known_fate, fates_with, receivers, is_first}
use Rattle.overlap_law.specs.Attempts.{has_message, beginning, beginning_with, attempt_begun_with, attempts_begun_by}
use Rattle.overlap_law.specs.OpenWorks.{IsTheSame}
use Rattle.overlap_law.proofs.AttemptLists.{got_map, fates_told}
use Rattle.overlap_law.proofs.OpenAttempts.{WasOpen}

-- what is known fits the fate; of an unanswered message nothing is
abbrev pub FitsFate : Status → MessageFate → Type 0
FitsFate Unanswered fate = Unit {0}
FitsFate (Succeeded bytes) fate = fate ≡ Served
FitsFate (Refused refusal) fate = fate ≡ Doomed
FitsFate Lost fate = fate ≢ Flying

-- ---- what is told later changes no fate that is known

fits_told : (status : Status) (told fate : MessageFate) → FitsFate status fate → FitsFate status (known_fate told fate)
fits_told Unanswered told fate is = tt
fits_told (Succeeded bytes) told fate is = ap (known_fate told) is
fits_told (Refused refusal) told fate is = ap (known_fate told) is
fits_told Lost told Flying is = absurd (is refl)
fits_told Lost told Served is = is
fits_told Lost told Doomed is = is

-- the fate at a place, once a fate is told
fate_with : (place p : ℕ) (told now : MessageFate) (fates : List MessageFate) → slice_get (fates_with p told fates) place ≡ Some now
    → (was : MessageFate) × (slice_get fates place ≡ Some was) × ((now ≡ was) ⊎ (now ≡ known_fate told was))
fate_with place p told now [] got = absurd (cc (got))
fate_with zero zero told now (fate ∷ fates) got = (fate, refl, inr (sym (same_Some (known_fate told fate) now got)))
fate_with (suc place) zero told now (fate ∷ fates) got = (now, got, inl refl)
fate_with zero (suc p) told now (fate ∷ fates) got = (fate, refl, inl (sym (same_Some fate now got)))
fate_with (suc place) (suc p) told now (fate ∷ fates) got = fate_with place p told now fates got

pub fate_told : (told : MessageFate) (sender : NodeId) (number place : ℕ) (now : MessageFate) (attempt : AttemptRecord)
    → slice_get (fates_told told sender number attempt) place ≡ Some now
    → (was : MessageFate) × (slice_get attempt.fates place ≡ Some was) × ((now ≡ was) ⊎ (now ≡ known_fate told was))
fate_told told sender number place now attempt = by_has (has_message sender number attempt)
  where
    by_has : (b : Bool) → slice_get (cond b (fates_with (number - attempt.first) told attempt.fates) attempt.fates) place ≡ Some now
        → (was : MessageFate) × (slice_get attempt.fates place ≡ Some was) × ((now ≡ was) ⊎ (now ≡ known_fate told was))
    by_has true got = fate_with place (number - attempt.first) told now attempt.fates got
    by_has false got = (now, got, inl refl)

pub fits_later : (status : Status) (told was now : MessageFate) → (now ≡ was) ⊎ (now ≡ known_fate told was) → FitsFate status was
    → FitsFate status now
fits_later status told was now either is = ⊎_elim
    (λ (same : now ≡ was). subst (FitsFate status) (sym same) is)
    (λ (later : now ≡ known_fate told was). subst (FitsFate status) (sym later) (fits_told status told was is))
    either

-- ---- the record of an attempt that was open

-- what is at a place of one list of nodes is at that of messages to these
message_at : (messages others : List Message) → receivers messages ≡ receivers others → (place : ℕ) (m : Message)
    → slice_get others place ≡ Some m
    → (message : Message) × (slice_get messages place ≡ Some message)
message_at messages others same place m got =
    let at : slice_get (receivers messages) place ≡ Some m.node
    = ap (λ (nodes : List NodeId). slice_get nodes place) same ∙ slice_get-map (λ (message : Message). message.node) others place
    ∙ ap (option_map (λ (message : Message). message.node)) got in
    let (message, found, is) = got_map (λ (message : Message). message.node) messages place m.node at in
    (message, found)

-- the record of an open attempt was that of what was open
pub was_same : (old new : Node) (works : Works) (req : ℕ) (work : Work) (current : gateways.Attempt) (attempt : AttemptRecord)
    → new.me ≡ old.me
    → (w : WasOpen works req work current) → IsTheSame new req work.work current attempt → IsTheSame old req w.was.work w.before attempt
was_same old new works req work current attempt me w same = record {
  gateway = same.gateway ∙ me;
  request = same.request;
  work = same.work ∙ w.work_so;
  epoch = same.epoch ∙ ap (λ e. e.0) w.epoch_so;
  targets = same.targets ∙ w.targets_so;
  numbers = λ place m got.
      let (message, at) = message_at current.messages w.before.messages w.targets_so place m got in
      let (n, found, is) = w.numbers_so place message at in
      let m_so : n ≡ m = same_Some n m (sym found ∙ got) in
      sym (ap (λ (m : Message). m.number) m_so) ∙ sym is ∙ same.numbers place message at;
}

-- whatever its fates are
pub refated_same : (node : Node) (req : ℕ) (asked : ObjWork) (current : gateways.Attempt) (attempt : AttemptRecord)
    (fates : List MessageFate)
    → IsTheSame node req asked current (record attempt { fates = fates }) → IsTheSame node req asked current attempt
refated_same node req asked current attempt fates same =
    record {
      gateway = same.gateway;
      request = same.request;
      work = same.work;
      epoch = same.epoch;
      targets = same.targets;
      numbers = same.numbers;
    }

-- ---- the attempts that a step began

-- what is at a place of two lists one behind the other
pub got_either : {X : Type 0} (xs ys : List X) (j : ℕ) (x : X) → slice_get (xs ++ ys) j ≡ Some x
    → (slice_get xs j ≡ Some x) ⊎ ((k : ℕ) × (slice_get ys k ≡ Some x))
got_either [] ys j x got = inr (j, got)
got_either (y ∷ xs) ys zero x got = inl got
got_either (y ∷ xs) ys (suc j) x got = got_either xs ys j x got

-- what begins is by a number that was given, of the node, and for a request of it
pub record IsBegunOf (host : Host) (low : ℕ) (attempt : AttemptRecord) : Type 0 where
  pub above : low ≤ attempt.first
  pub gateway : attempt.gateway ≡ host.node.me
  pub request : Request
  pub asked : tree.get host.node.requests attempt.req ≡ Some request
  pub work : Work
  pub at_gateway : tree.get host.node.gateway.works attempt.req ≡ Some work
  pub making : is_making work.work ≡ true

-- by a number
record IsBegunWith (host : Host) (number : ℕ) (attempt : AttemptRecord) : Type 0 where
  first_so : attempt.first ≡ number
  gateway : attempt.gateway ≡ host.node.me
  request : Request
  asked : tree.get host.node.requests attempt.req ≡ Some request
  work : Work
  at_gateway : tree.get host.node.gateway.works attempt.req ≡ Some work
  making : is_making work.work ≡ true

begun_with : (host : Host) (number : ℕ) (attempt : AttemptRecord) → attempt_begun_with host number ≡ Some attempt
    → IsBegunWith host number attempt
begun_with host number attempt = by_found (asker number host.node.gateway) refl
  where
    by_request : (req : ℕ) (work : Work) → tree.get host.node.gateway.works req ≡ Some work
        → (current : gateways.Attempt) (making first : Bool)
        → is_making work.work ≡ making → (o : Option Request) → tree.get host.node.requests req ≡ o
        → cond (making && first) (option_map (beginning host number req work.work current) o) None ≡ Some attempt
        → IsBegunWith host number attempt
    by_request req work there current true true makes None got is = absurd (cc (is))
    by_request req work there current true true makes (Some request) got is =
        let same = same_Some (beginning host number req work.work current request) attempt is in
        record {
          first_so = sym (ap (λ (a : AttemptRecord). a.first) same);
          gateway = sym (ap (λ (a : AttemptRecord). a.gateway) same);
          request = request;
          asked = sym (ap (λ (a : AttemptRecord). tree.get host.node.requests a.req) same) ∙ got;
          work = work;
          at_gateway = sym (ap (λ (a : AttemptRecord). tree.get host.node.gateway.works a.req) same) ∙ there;
          making = makes;
        }
    by_request req work there current true false makes o got is = absurd (cc (is))
    by_request req work there current false first makes o got is = absurd (cc (is))

    by_stage : (req : ℕ) (work : Work) → tree.get host.node.gateway.works req ≡ Some work → (stage : WorkStage)
        → beginning_with host number req work.work stage ≡ Some attempt → IsBegunWith host number attempt
    by_stage req work there (Open current) is =
        by_request req work there current (is_making work.work) (is_first number current.messages) refl (tree.get host.node.requests req)
        refl is
    by_stage req work there Ended is = absurd (cc (is))
    by_stage req work there (WaitsForMembers epoch) is = absurd (cc (is))

    by_found : (o : Option (ℕ × Work)) → asker number host.node.gateway ≡ o
        → option_and_then (λ (found : ℕ × Work). beginning_with host number found.0 found.1.work found.1.stage) o ≡ Some attempt
        → IsBegunWith host number attempt
    by_found None at is = absurd (cc (is))
    by_found (Some found) at is =
        let there = find-contains (λ (entry : ℕ × Work). is_awaited_in number entry.1) (tree.entries host.node.gateway.works) found at in
        by_stage found.0 found.1 (get-entry host.node.gateway.works found there.0) found.1.stage is

first_begun : (host : Host) (low : ℕ) (attempt : AttemptRecord) (rest : List AttemptRecord) (o : Option AttemptRecord)
    → attempt_begun_with host low ≡ o
    → ((k : ℕ) → slice_get rest k ≡ Some attempt → IsBegunOf host low attempt) → (k : ℕ) → slice_get (cons_option o rest) k ≡ Some attempt
    → IsBegunOf host low attempt
first_begun host low attempt rest None is later k got = later k got
first_begun host low attempt rest (Some first) is later zero got =
    let same = same_Some first attempt got in
    let own = begun_with host low attempt (is ∙ ap Some same) in
    let at = own.first_so in
    record {
      above = omega (arith, at);
      gateway = own.gateway;
      request = own.request;
      asked = own.asked;
      work = own.work;
      at_gateway = own.at_gateway;
      making = own.making;
    }
first_begun host low attempt rest (Some first) is later (suc k) got = later k got

got_begun : (host : Host) (low count k : ℕ) (attempt : AttemptRecord)
    → slice_get (filter_map (attempt_begun_with host) (range_with_len low count)) k ≡ Some attempt → IsBegunOf host low attempt
got_begun host low zero k attempt got = absurd (cc (got))
got_begun host low (suc count) k attempt got =
    first_begun host low attempt (filter_map (attempt_begun_with host) (range_with_len (low + 1) count)) (attempt_begun_with host low) refl
    (λ place here.
    let is = got_begun host (low + 1) count place attempt here in
    let above = is.above in
    record {
      above = omega (arith, above);
      gateway = is.gateway;
      request = is.request;
      asked = is.asked;
      work = is.work;
      at_gateway = is.at_gateway;
      making = is.making;
    }) k got

-- an attempt that a step began has numbers that were given in it
pub begun_above : (old new : Host) (k : ℕ) (attempt : AttemptRecord) → slice_get (attempts_begun_by old new) k ≡ Some attempt
    → (old.node.sends ≤ attempt.first) × (attempt.gateway ≡ new.node.me)
unfolding attempts_begun_by
begun_above old new k attempt got =
    let is = got_begun new old.node.sends (new.node.sends - old.node.sends) k attempt got in
    (is.above, is.gateway)

-- and is for a request that the node has
pub begun_asked : (old new : Host) (k : ℕ) (attempt : AttemptRecord) → slice_get (attempts_begun_by old new) k ≡ Some attempt
    → (request : Request) × (tree.get new.node.requests attempt.req ≡ Some request)
unfolding attempts_begun_by
begun_asked old new k attempt got =
    let is = got_begun new old.node.sends (new.node.sends - old.node.sends) k attempt got in
    (is.request, is.asked)

-- with a work that makes something
pub begun_makes : (old new : Host) (k : ℕ) (attempt : AttemptRecord) → slice_get (attempts_begun_by old new) k ≡ Some attempt
    → (work : Work) × (tree.get new.node.gateway.works attempt.req ≡ Some work) × (is_making work.work ≡ true)
unfolding attempts_begun_by
begun_makes old new k attempt got =
    let is = got_begun new old.node.sends (new.node.sends - old.node.sends) k attempt got in
    (is.work, is.at_gateway, is.making)
