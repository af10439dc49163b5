-- Which attempts begin by the numbers that a node gave in its step: in two nodes that differ at one request, by the numbers that this
-- request's work waits for in neither, the same ones.
use Rattle.std.proofs.Common.{◌≡◌, ◌≢◌, arith, ℕ, zero, suc, ◌+◌, ◌-◌, ◌≤◌, ◌<◌, true, false, ◌&&◌, cond, List, [], ◌∷◌, ◌++◌, Option, Some}
use Rattle.std.proofs.Common.{None, is_some, option_map, option_and_then, refl, sym, ap, ◌∙◌, ⊎_elim}
use Rattle.std.specs.List.{cons_option, filter_map, range_with_len}
use Rattle.std.specs.FinMap as tree
use Rattle.std.proofs.lemmas.Bool.{cases_eq}
use Rattle.std.proofs.lemmas.List.Elements.{filter_map-append}
use Rattle.std.proofs.lemmas.Option.{same_Some}
use Rattle.peer_proto.specs.declared.work.ObjWork.{ObjWork}
use Rattle.gateway.specs.Work.{is_making}
use Rattle.gateway.specs.Attempt as gateways
use Rattle.gateway.specs.State.{Work, WorkStage, Open, Ended, WaitsForMembers, asker, is_awaited_in}
use Rattle.sheep_node.specs.declared.course.Request.{Request}
use Rattle.sheep_node.specs.State.{Node}
use Rattle.sheep_node.specs.OneWork.{NumbersAreOfOneWork}
use Rattle.sheep_node.proofs.AwaitedWorks.{found_got, got_found}
use Rattle.sheep_world.specs.World.{Host}
use Rattle.sheep_world.specs.NodeCauses.{host_with_node}
use Rattle.overlap_law.specs.Attempts.{AttemptRecord, is_first, beginning, beginning_with, attempt_begun_with, attempts_begun_by}

-- ---- ranges

module _ {X : Type 0} where
  pub filter_map-same : (f g : ℕ → Option X) (low count : ℕ) → ((k : ℕ) → low ≤ k → k < low + count → f k ≡ g k)
      → filter_map f (range_with_len low count) ≡ filter_map g (range_with_len low count)
  filter_map-same f g low zero same = refl
  filter_map-same f g low (suc count) same =
      let here : f low ≡ g low = same low (omega arith) (omega arith) in
      let later = filter_map-same f g (low + 1) count (λ k from below. same k (omega (arith, from)) (omega (arith, below))) in
      λ i. cons_option (here i) (later i)

  pub filter_map-none : (f : ℕ → Option X) (low count : ℕ) → ((k : ℕ) → low ≤ k → k < low + count → f k ≡ None)
      → filter_map f (range_with_len low count) ≡ []
  filter_map-none f low zero none = refl
  filter_map-none f low (suc count) none =
      let here : f low ≡ None = none low (omega arith) (omega arith) in
      let later = filter_map-none f (low + 1) count (λ k from below. none k (omega (arith, from)) (omega (arith, below))) in
      λ i. cons_option (here i) (later i)

range_in_two : (low one other all start : ℕ) → one + other ≡ all → low + one ≡ start
    → range_with_len low all ≡ range_with_len low one ++ range_with_len start other
range_in_two low zero other all start sum from =
    let same : all ≡ other = omega (arith, sum) in
    let begins : low ≡ start = omega (arith, from) in
    λ i. range_with_len (begins i) (same i)
range_in_two low (suc one) other zero start sum from = absurd (omega (arith, sum))
range_in_two low (suc one) other (suc all) start sum from =
    ap (λ (ks : List ℕ). low ∷ ks) (range_in_two (low + 1) one other all start (omega (arith, sum)) (omega (arith, from)))

-- ---- how an attempt begins

abbrev pub session_of_request : Option Request → Option ℕ
session_of_request request = option_map (λ (request : Request). request.session) request

module _ (host : Host) (k : ℕ) where
  -- the attempt that a request's work begins with this number
  abbrev pub begins : Node → ℕ → Work → Option AttemptRecord
  begins node req work = beginning_with (host_with_node host node) k req work.work work.stage

  same_beginning : (old new : Node) → new.me ≡ old.me → (req : ℕ) (work : ObjWork) (attempt : gateways.Attempt) (was is : Option Request)
      → session_of_request is ≡ session_of_request was
      → option_map (beginning (host_with_node host new) k req work attempt) is
      ≡ option_map (beginning (host_with_node host old) k req work attempt) was
  same_beginning old new me req work attempt None None same = refl
  same_beginning old new me req work attempt None (Some r) same = absurd (cc (same))
  same_beginning old new me req work attempt (Some q) None same = absurd (cc (same))
  same_beginning old new me req work attempt (Some q) (Some r) same =
      let session : r.session ≡ q.session = same_Some r.session q.session same in
      λ i. Some (record (beginning (host_with_node host old) k req work attempt q) { session = session i; gateway = me i })

  pub begins-same : (old new : Node) → new.me ≡ old.me → (req : ℕ)
      → session_of_request (tree.get new.requests req) ≡ session_of_request (tree.get old.requests req)
      → (work : ObjWork) (stage : WorkStage)
      → beginning_with (host_with_node host new) k req work stage ≡ beginning_with (host_with_node host old) k req work stage
  begins-same old new me req same work (Open attempt) =
      ap (λ (o : Option AttemptRecord). cond (is_making work && is_first k attempt.messages) o None)
      (same_beginning old new me req work attempt (tree.get old.requests req) (tree.get new.requests req) same)
  begins-same old new me req same work Ended = refl
  begins-same old new me req same work (WaitsForMembers epoch) = refl

  -- ---- which work it is of

  -- what waits for the number in one of two nodes does in the other, and begins alike
  pub record AreAlike (old new : Node) : Type 0 where
    pub forth : (req : ℕ) (work : Work) → tree.get old.gateway.works req ≡ Some work → is_awaited_in k work ≡ true
        → (later : Work) × (tree.get new.gateway.works req ≡ Some later) × (is_awaited_in k later ≡ true)
        × (begins new req later ≡ begins old req work)
    pub back : (req : ℕ) (later : Work) → tree.get new.gateway.works req ≡ Some later → is_awaited_in k later ≡ true
        → (work : Work) × (tree.get old.gateway.works req ≡ Some work) × (is_awaited_in k work ≡ true)

  by_asker : (old new : Node) → NumbersAreOfOneWork new.gateway.works → AreAlike old new → (was is : Option (ℕ × Work))
      → asker k old.gateway ≡ was → asker k new.gateway ≡ is
      → option_and_then (λ (found : ℕ × Work). begins new found.0 found.1) is
      ≡ option_and_then (λ (found : ℕ × Work). begins old found.0 found.1) was
  by_asker old new once alike None None was is = refl
  by_asker old new once alike (Some f) None was is =
      let (got, awaits) = found_got k old.gateway.works f was in
      let (later, got_now, awaits_now, same) = alike.forth f.0 f.1 got awaits in
      let some = got_found k new.gateway.works f.0 later got_now awaits_now in
      let none : is_some (asker k new.gateway) ≡ false = ap (λ (o : Option (ℕ × Work)). is_some o) is in
      absurd (cc (some, none))
  by_asker old new once alike None (Some g) was is =
      let (got, awaits) = found_got k new.gateway.works g is in
      let (work, got_old, awaits_old) = alike.back g.0 g.1 got awaits in
      let some = got_found k old.gateway.works g.0 work got_old awaits_old in
      let none : is_some (asker k old.gateway) ≡ false = ap (λ (o : Option (ℕ × Work)). is_some o) was in
      absurd (cc (some, none))
  by_asker old new once alike (Some f) (Some g) was is =
      let (got, awaits) = found_got k old.gateway.works f was in
      let (got_g, awaits_g) = found_got k new.gateway.works g is in
      let (later, got_now, awaits_now, same) = alike.forth f.0 f.1 got awaits in
      let req : g.0 ≡ f.0 = once k g.0 f.0 g.1 later got_g got_now awaits_g awaits_now in
      let work : g.1 ≡ later = same_Some g.1 later (sym got_g ∙ ap (tree.get new.gateway.works) req ∙ got_now) in
      (λ i. begins new (req i) (work i)) ∙ same

  pub begun-alike : (old new : Node) → NumbersAreOfOneWork new.gateway.works → AreAlike old new
      → attempt_begun_with (host_with_node host new) k ≡ attempt_begun_with (host_with_node host old) k
  begun-alike old new once alike = by_asker old new once alike (asker k old.gateway) (asker k new.gateway) refl refl

  -- where each work that waits for the number begins nothing, nothing begins
  pub begun-none : (node : Node)
      → ((req : ℕ) (work : Work) → tree.get node.gateway.works req ≡ Some work → is_awaited_in k work ≡ true → begins node req work ≡ None)
      → attempt_begun_with (host_with_node host node) k ≡ None
  begun-none node none = by_found (asker k node.gateway) refl
    where
      by_found : (o : Option (ℕ × Work)) → asker k node.gateway ≡ o
          → option_and_then (λ (found : ℕ × Work). begins node found.0 found.1) o ≡ None
      by_found None is = refl
      by_found (Some f) is = let (got, awaits) = found_got k node.gateway.works f is in none f.0 f.1 got awaits

-- ---- a change at one request

-- two nodes differ at one request alone, whose work waits for none of these numbers
pub record DifferAtRequest (low high req : ℕ) (old new : Node) : Type 0 where
  pub me_so : new.me ≡ old.me
  pub works_so : (q : ℕ) → q ≢ req → tree.get new.gateway.works q ≡ tree.get old.gateway.works q
  pub sessions_so : (q : ℕ) → q ≢ req → session_of_request (tree.get new.requests q) ≡ session_of_request (tree.get old.requests q)
  pub was : (k : ℕ) → low ≤ k → k < high → (work : Work) → tree.get old.gateway.works req ≡ Some work → is_awaited_in k work ≡ false
  pub is : (k : ℕ) → low ≤ k → k < high → (work : Work) → tree.get new.gateway.works req ≡ Some work → is_awaited_in k work ≡ false

pub alike_elsewhere : (host : Host) (low high req : ℕ) (old new : Node) → DifferAtRequest low high req old new → (k : ℕ) → low ≤ k
    → k < high
    → AreAlike host k old new
alike_elsewhere host low high req old new d k from below = record {
  forth = λ q work got awaits. ⊎_elim
      (λ (own : q ≡ req).
      let none = d.was k from below work (ap (tree.get old.gateway.works) (sym own) ∙ got) in absurd (cc (awaits, none)))
      (λ (other : q ≢ req). (
        work,
        d.works_so q other ∙ got,
        awaits,
        begins-same host k old new d.me_so q (d.sessions_so q other) work.work
            work.stage,
      )) (cases_eq q req);
  back = λ q later got awaits. ⊎_elim
      (λ (own : q ≡ req).
      let none = d.is k from below later (ap (tree.get new.gateway.works) (sym own) ∙ got) in absurd (cc (awaits, none)))
      (λ (other : q ≢ req). (later, sym (d.works_so q other) ∙ got, awaits))
      (cases_eq q req);
}

pub differ_twice : (low high req : ℕ) (old middle new : Node) → DifferAtRequest low high req old middle
    → DifferAtRequest low high req middle new
    → DifferAtRequest low high req old new
differ_twice low high req old middle new one two = record {
  me_so = two.me_so ∙ one.me_so;
  works_so = λ q other. two.works_so q other ∙ one.works_so q other;
  sessions_so = λ q other. two.sessions_so q other ∙ one.sessions_so q other;
  was = one.was;
  is = two.is;
}

-- ---- all that a step has begun

pub begun-at_first : (host : Host) (node : Node) → node.sends ≡ host.node.sends → attempts_begun_by host (host_with_node host node) ≡ []
unfolding attempts_begun_by
begun-at_first host node sends =
    let none : node.sends - host.node.sends ≡ 0 = omega (arith, sends) in
    ap (λ (count : ℕ). filter_map (attempt_begun_with (host_with_node host node)) (range_with_len host.node.sends count)) none

-- where no number is given and each so far began alike, all did
pub begun-so_far : (host : Host) (old new : Node) → new.sends ≡ old.sends
    → ((k : ℕ) → host.node.sends ≤ k → k < old.sends → attempt_begun_with (host_with_node host new) k
    ≡ attempt_begun_with (host_with_node host old) k)
    → attempts_begun_by host (host_with_node host new) ≡ attempts_begun_by host (host_with_node host old)
unfolding attempts_begun_by
begun-so_far host old new sends alike =
    ap (λ (count : ℕ). filter_map (attempt_begun_with (host_with_node host new)) (range_with_len host.node.sends (count - host.node.sends)))
    sends
    ∙ filter_map-same (attempt_begun_with (host_with_node host new)) (attempt_begun_with (host_with_node host old)) host.node.sends
    (old.sends - host.node.sends) (λ k from below. alike k from (omega (arith, from, below)))

-- and where the node gave more numbers, with those that begin by these
pub begun-with_more : (host : Host) (old new : Node) (more : ℕ) → host.node.sends ≤ old.sends → new.sends ≡ old.sends + more
    → ((k : ℕ) → host.node.sends ≤ k → k < old.sends → attempt_begun_with (host_with_node host new) k
    ≡ attempt_begun_with (host_with_node host old) k)
    → attempts_begun_by host (host_with_node host new)
    ≡ attempts_begun_by host (host_with_node host old) ++ filter_map (attempt_begun_with (host_with_node host new))
    (range_with_len old.sends more)
unfolding attempts_begun_by
begun-with_more host old new more above sends alike =
    let first = host.node.sends in
    let count = old.sends - first in
    let total : count + more ≡ new.sends - first = omega (arith, above, sends) in
    let start : first + count ≡ old.sends = omega (arith, above) in
    ap (filter_map (attempt_begun_with (host_with_node host new))) (range_in_two first count more (new.sends - first) old.sends total start)
    ∙ filter_map-append (attempt_begun_with (host_with_node host new)) (range_with_len first count) (range_with_len old.sends more)
    ∙ ap (λ (front : List AttemptRecord). front ++ filter_map (attempt_begun_with (host_with_node host new))
    (range_with_len old.sends more)) (filter_map-same (attempt_begun_with (host_with_node host new))
    (attempt_begun_with (host_with_node host old)) first count (λ k from below. alike k from (omega (arith, above, below))))
