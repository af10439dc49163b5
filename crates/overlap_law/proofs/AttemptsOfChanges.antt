-- What a step has begun grows by what each change of the node begins: an attempt to create or write begins where one opens, and nowhere
-- else.
use Rattle.std.proofs.Common.{◌≡◌, ◌≢◌, arith, ℕ, ◌+◌, ◌≤◌, ◌<◌, ◌&&◌, ◌||◌, Bool, true, false, cond, List, [], ◌∷◌, ◌++◌, map, length}
use Rattle.std.proofs.Common.{Option, Some, None, option_map, option_and_then, is_some, refl, sym, ap, ◌∙◌, append-nil, ⊎_elim}
use Rattle.std.specs.List.{cons_option, filter_map, range_with_len, enumerate_from, list_any}
use Rattle.std.specs.Option.{option_to_list}
use Rattle.std.specs.FinMap as tree
use Rattle.std.proofs.lemmas.Bool.{eq-eqb, ne_eqb, cases_eq}
use Rattle.std.proofs.lemmas.Option.{same_Some}
use Rattle.proof_tools.proofs.FiniteMaps.{get-insert_same, get-insert_other, get-insert_cases}
use Rattle.object_id.specs.declared.cause.Cause.TheVariants.{Halt}
use Rattle.object_id.specs.declared.node.NodeId.{NodeId}
use Rattle.object_id.specs.declared.node.Epoch.{Epoch}
use Rattle.vnode_table.specs.Targets.{targets_in}
use Rattle.peer_proto.specs.Work.{oid_of, policy_of}
use Rattle.gateway.specs.declared.message.Status.{Status}
use Rattle.gateway.specs.Work.{is_making, targets_asked, zones_for}
use Rattle.gateway.specs.Attempt as gateways
use Rattle.gateway.specs.Attempt.{is_awaited_message, message_for, send_of}
use Rattle.gateway.specs.State.{WorkStage, Open, Ended, WaitsForMembers, Work, open_messages, is_awaited_in, asker}
use Rattle.gateway.specs.Step.{with_work, attempt_with_status}
use Rattle.sheep_node.specs.declared.course.Course.TheVariants.{Waiting}
use Rattle.sheep_node.specs.declared.input.Input.{Input}
use Rattle.sheep_node.specs.State.{Node}
use Rattle.sheep_node.specs.StepState.{StepState, at_first, with_gateway}
use Rattle.sheep_node.specs.OneWork.{NumbersAreOfOneWork, NumbersAreBelow, may_work_at}
use Rattle.sheep_node.specs.Changes as changes
use Rattle.sheep_node.specs.Changes.{input_received, IsSoundStep, LearnsStatus, gateway_with_touch, without_ended_work, ToWork, ToEntry}
use Rattle.sheep_node.specs.Changes.{ToReply, zones_of_members, attempt_in, with_open_attempt, without_denied_work, WorkIsNext, Change}
use Rattle.sheep_node.specs.Changes.{Leads}
use Rattle.sheep_node.proofs.AwaitedWorks.{found_got, got_found}
use Rattle.sheep_node.proofs.MessageNumbers.{fresh_apart}
use Rattle.sheep_node.proofs.OneWorkChanges.{never_alone}
use Rattle.sheep_node.proofs.NumberChanges.{HasOneWorkAndNumber, comes_numbered, change_keeps_both, both_in_chain}
use Rattle.sheep_world.specs.World.{Host}
use Rattle.sheep_world.specs.NodeCauses.{host_with_node}
use Rattle.sheep_world.proofs.AskedWorks.{ToldIsBelow}
use Rattle.overlap_law.specs.Attempts.{AttemptRecord, is_first, beginning, beginning_with, attempt_begun_with, attempts_begun_by}
use Rattle.overlap_law.specs.StepMoments.{attempts_of_change}
use Rattle.overlap_law.proofs.BegunNumbers.{filter_map-none, begins-same, AreAlike, begun-alike, begun-none, DifferAtRequest}
use Rattle.overlap_law.proofs.BegunNumbers.{alike_elsewhere, differ_twice, begun-so_far, begun-with_more}
use Rattle.overlap_law.proofs.MarkedMessages.{awaited-marked, begins-marked}
use Rattle.overlap_law.proofs.RequestDifferences.{awaits_none-idle, course_differs, ended_differs, refused_differs}
use Rattle.overlap_law.proofs.RequestDifferences.{refused_if_there_differs, work_differs, gone_differs, awaits_none-over}
use Rattle.overlap_law.proofs.RequestDifferences.{ended_work_differs, steps_differ, next_differs}
use Rattle.overlap_law.proofs.SendsOfChanges.{steps_send_nothing, next_sends_nothing, refusal_sends_nothing, denial_sends_nothing}
use Rattle.overlap_law.proofs.SendsOfChanges.{end_sends_nothing, count_above}

-- ---- an attempt that opens

module _ (host : Host) (req : ℕ) (asked : Work) (lined : StepState)
    (once : NumbersAreOfOneWork (with_open_attempt req asked lined).node.gateway.works)
    (given : NumbersAreBelow lined.node.sends lined.node.gateway.works) where
  abbrev first : ℕ
  first = lined.node.sends

  abbrev epoch : Epoch
  epoch = record { 0 = lined.node.peer.epoch }

  abbrev then : Node
  then = (with_open_attempt req asked lined).node

  abbrev stage : WorkStage
  stage = Open (attempt_in asked lined.node)

  abbrev now : Work
  now = record asked { stage = stage }

  abbrev places : List (ℕ × NodeId)
  places =
      targets_asked asked.work asked.ended (targets_in lined.node.epochs lined.node.peer.epoch (oid_of asked.work) (policy_of asked.work))

  -- what waits for a new number is the new work
  new_only : (k q : ℕ) (work : Work) → first ≤ k → tree.get then.gateway.works q ≡ Some work → is_awaited_in k work ≡ true
      → (q ≡ req) × (now ≡ work)
  new_only k q work from got awaits = ⊎_elim (λ own. own)
      (λ other. let below = given k q work other.1 awaits in absurd (omega (arith, below, from)))
      (get-insert_cases lined.node.gateway.works req now q work got)

  -- a number behind the first begins nothing
  later_none : (k : ℕ) → first < k → attempt_begun_with (host_with_node host then) k ≡ None
  later_none k above = begun-none host k then (λ q work got awaits.
      let (own, same) = new_only k q work (omega (arith, above)) got awaits in
      ap (λ (work : Work). beginning_with (host_with_node host then) k q work.work work.stage) (sym same)
      ∙ not_first q (tail_apart places))
    where
      -- the first message has the first number
      tail_apart : (places : List (ℕ × NodeId)) → is_first k (map (message_for asked.work) (enumerate_from first places)) ≡ false
      tail_apart [] = refl
      tail_apart (place ∷ places) = ne_eqb first k (λ (same : first ≡ k). omega (arith, above, same))

      not_first : (q : ℕ) → is_first k (attempt_in asked lined.node).messages ≡ false
          → beginning_with (host_with_node host then) k q asked.work stage ≡ None
      not_first q none = by_making (is_making asked.work) (is_first k (attempt_in asked lined.node).messages) none
        where
          by_making : (b c : Bool) → c ≡ false
              → cond (b && c) (option_map (beginning (host_with_node host then) k q asked.work (attempt_in asked lined.node))
              (tree.get then.requests q)) None ≡ None
          by_making true true none = absurd (cc (none))
          by_making true false none = refl
          by_making false c none = refl

  abbrev attempt_with : List (ℕ × NodeId) → gateways.Attempt
  attempt_with places = record { epoch = epoch; messages = map (message_for asked.work) (enumerate_from first places) }

  abbrev more : List (ℕ × NodeId) → ℕ
  more places = length (map (send_of lined.node.gateway.me epoch asked.work) (attempt_with places).messages)

  -- the first number is the new work's
  first_begun : is_awaited_in first now ≡ true
      → attempt_begun_with (host_with_node host then) first ≡ beginning_with (host_with_node host then) first req asked.work stage
  first_begun awaits = by_found (asker first then.gateway) refl
    where
      by_found : (o : Option (ℕ × Work)) → asker first then.gateway ≡ o
          → option_and_then (λ (found : ℕ × Work). beginning_with (host_with_node host then) first found.0 found.1.work found.1.stage) o
          ≡ beginning_with (host_with_node host then) first req asked.work stage
      by_found None is =
          let some = got_found first then.gateway.works req now (get-insert_same lined.node.gateway.works req now) awaits in
          let none : is_some (asker first then.gateway) ≡ false = ap (λ (o : Option (ℕ × Work)). is_some o) is in
          absurd (cc (some, none))
      by_found (Some f) is =
          let (got, awaits_f) = found_got first then.gateway.works f is in
          let (own, same) = new_only first f.0 f.1 (omega arith) got awaits_f in
          λ i. beginning_with (host_with_node host then) first (own i) (sym same i).work (sym same i).stage

  one_of : (o : Option AttemptRecord) → cons_option o [] ≡ option_to_list o
  one_of None = refl
  one_of (Some attempt) = refl

  none_first : (b : Bool) (o : Option AttemptRecord) → option_to_list (cond (b && false) o None) ≡ []
  none_first true o = refl
  none_first false o = refl

  by_places : (ps : List (ℕ × NodeId)) → places ≡ ps
      → filter_map (attempt_begun_with (host_with_node host then)) (range_with_len first (more ps))
      ≡ option_to_list (beginning_with (host_with_node host lined.node) first req asked.work (Open (attempt_with ps)))
  by_places [] is = sym (none_first (is_making asked.work)
      (option_map (beginning (host_with_node host lined.node) first req asked.work (attempt_with [])) (tree.get lined.node.requests req)))
  by_places (p ∷ ps) is =
      let rest = list_any (is_awaited_message first) (map (message_for asked.work) (enumerate_from (first + 1) ps)) in
      let awaits : is_awaited_in first now ≡ true
      = ap (λ (ps : List (ℕ × NodeId)). list_any (is_awaited_message first) (map (message_for asked.work) (enumerate_from first ps))) is
      ∙ ap (λ (b : Bool). cond b true false || rest) (eq-eqb first first refl) in
      let later = filter_map-none (attempt_begun_with (host_with_node host then)) (first + 1)
      (length (map (send_of lined.node.gateway.me epoch asked.work) (map (message_for asked.work) (enumerate_from (first + 1) ps))))
      (λ k from below. later_none k (omega (arith, from))) in
      (λ i. cons_option (first_begun awaits i) (later i))
      ∙ one_of (beginning_with (host_with_node host then) first req asked.work stage)
      ∙ ap (λ (ps : List (ℕ × NodeId)). option_to_list (beginning_with (host_with_node host lined.node) first req asked.work
      (Open (attempt_with ps)))) is

  -- those that begin by the numbers that are given
  pub begun-by_opening : filter_map (attempt_begun_with (host_with_node host then)) (range_with_len first (more places))
      ≡ option_to_list (beginning_with (host_with_node host lined.node) first req asked.work stage)
  begun-by_opening = by_places places refl

-- ---- every change

module _ (input : Input) (host : Host) (sound : IsSoundStep input host.node) (given : ToldIsBelow input host.node.sends) where
  abbrev low : ℕ
  low = host.node.sends

  -- what was begun up to a point of the step
  abbrev pub begun_at : StepState → List AttemptRecord
  begun_at so_far = attempts_begun_by host (host_with_node host so_far.node)

  -- where one request alone changes nothing begins
  none_begins : (so_far next : StepState) (req : ℕ) → HasOneWorkAndNumber next → next.node.sends ≡ so_far.node.sends
      → DifferAtRequest low so_far.node.sends req so_far.node next.node → begun_at next ≡ begun_at so_far ++ []
  none_begins so_far next req both sends d =
      begun-so_far host so_far.node next.node sends (λ k from below.
      begun-alike host k so_far.node next.node both.1.once (alike_elsewhere host low so_far.node.sends req so_far.node next.node d k from
      below))
      ∙ sym (append-nil (begun_at so_far))

  -- a message is marked
  marked_alike : (so_far : StepState) (req number : ℕ) (work : Work) (attempt : gateways.Attempt) (status : Status)
      → LearnsStatus input host.node so_far req number work attempt status
      → (k : ℕ) → k ≢ number → AreAlike host k so_far.node
      (with_gateway (with_work req (record work { stage = Open (attempt_with_status number status attempt) })
      (gateway_with_touch req work status so_far)) so_far).node
  marked_alike so_far req number work attempt status learns k apart =
      let works = so_far.node.gateway.works in
      let now : Work = record work { stage = Open (attempt_with_status number status attempt) } in
      let marked_so : is_awaited_in k now ≡ is_awaited_in k work
      = awaited-marked number status k apart attempt.messages
      ∙ sym (ap (λ (stage : WorkStage). list_any (is_awaited_message k) (open_messages stage)) learns.open_so) in
      let began = begins-marked number status host k so_far.node req work.work attempt
      ∙ ap (λ (stage : WorkStage). beginning_with (host_with_node host so_far.node) k req work.work stage) (sym learns.open_so) in
      record {
        forth = λ q other got awaits. ⊎_elim
            (λ (own : q ≡ req).
            let same : other ≡ work = same_Some other work (sym got ∙ ap (tree.get works) own ∙ learns.there) in (
              now,
              ap (tree.get (tree.insert works req now)) own ∙ get-insert_same works req now,
              marked_so ∙ ap (is_awaited_in k) (sym same) ∙ awaits,
              (λ i. beginning_with (host_with_node host so_far.node) k (own i) now.work now.stage) ∙ began
                  ∙ (λ i. beginning_with (host_with_node host so_far.node) k (sym own i) (sym same i).work (sym same i).stage),
            ))
            (λ (apart_too : q ≢ req). (other, get-insert_other works req now q apart_too ∙ got, awaits, refl))
            (cases_eq q req);
        back = λ q later got awaits. ⊎_elim
            (λ (own : (q ≡ req) × (now ≡ later)).
            (work, ap (tree.get works) own.0 ∙ learns.there, sym marked_so ∙ ap (is_awaited_in k) own.1 ∙ awaits))
            (λ (other : (q ≢ req) × (tree.get works q ≡ Some later)). (later, other.1, awaits))
            (get-insert_cases works req now q later got);
      }

  opening_begins : (so_far : StepState) (session req : ℕ) (asked : Work) (lined : StepState)
      → WorkIsNext input host.node so_far session req asked lined
      → HasOneWorkAndNumber so_far → low ≤ so_far.node.sends → HasOneWorkAndNumber (with_open_attempt req asked lined)
      → begun_at (with_open_attempt req asked lined)
      ≡ begun_at so_far ++ option_to_list (beginning_with (host_with_node host lined.node) lined.node.sends req asked.work
      (Open (attempt_in asked lined.node)))
  opening_begins so_far session req asked lined comes both above after =
      let high = so_far.node.sends in
      let then = (with_open_attempt req asked lined).node in
      let works = lined.node.gateway.works in
      let epoch : Epoch = record { 0 = lined.node.peer.epoch } in
      let sends = (next_sends_nothing so_far session req asked lined comes).0 in
      let numbered = comes_numbered so_far session req asked lined comes both.1 in
      let now : Work = record asked { stage = Open (attempt_in asked lined.node) } in
      let places = targets_asked asked.work asked.ended (targets_in lined.node.epochs lined.node.peer.epoch (oid_of asked.work)
      (policy_of asked.work)) in
      let count = length (map (send_of lined.node.gateway.me epoch asked.work) (attempt_in asked lined.node).messages) in
      let one = next_differs low high req sound given so_far session asked lined comes both.0 in
      let two : DifferAtRequest low high req lined.node then = record {
        me_so = refl;
        works_so = λ q other. get-insert_other works req now q other;
        sessions_so = λ q other. refl;
        was = one.is;
        is = λ k from below work got.
            ap (is_awaited_in k) (sym (same_Some now work (sym (get-insert_same works req now) ∙ got)))
            ∙ fresh_apart lined.node.gateway.me epoch asked.work lined.node.sends places k (omega (arith, below, sends));
      } in
      let d = differ_twice low high req so_far.node lined.node then one two in
      begun-with_more host so_far.node then count above (ap (λ (n : ℕ). n + count) sends) (λ k from below.
      begun-alike host k so_far.node then after.1.once (alike_elsewhere host low high req so_far.node then d k from below))
      ∙ ap (λ (more : List AttemptRecord). begun_at so_far ++ more)
      (ap (λ (n : ℕ). filter_map (attempt_begun_with (host_with_node host then)) (range_with_len n count)) (sym sends)
      ∙ begun-by_opening host req asked lined after.1.once numbered.given)

  pub change_begins : (so_far next : StepState) (change : Change input host.node so_far next) → HasOneWorkAndNumber so_far
      → low ≤ so_far.node.sends → HasOneWorkAndNumber next
      → begun_at next ≡ begun_at so_far ++ attempts_of_change host so_far next change
  change_begins so_far next (changes.Marks req number work attempt status learns over) both above after =
      let told : number < low = given number status learns.told in
      begun-so_far host so_far.node next.node refl (λ k from below.
      begun-alike host k so_far.node next.node after.1.once
      (marked_alike so_far req number work attempt status learns k (λ (is : k ≡ number). omega (arith, told, from, is))))
      ∙ sym (append-nil (begun_at so_far))
  change_begins so_far next (changes.Fails session req number work attempt status course ends done why) both above after =
      none_begins so_far next req after refl
      (work_differs low so_far.node.sends req (record work { ended = work.ended + 1; stage = Ended }) so_far
      (gateway_with_touch req work status so_far) refl (λ k from below. refl)
      (awaits_none-over low so_far.node.sends req sound given so_far number work attempt status ends.learns ends.over))
  change_begins so_far next (changes.Stops session req number work attempt status course bytes ends over) both above after =
      none_begins so_far next req after refl
      (ended_work_differs low so_far.node.sends req sound given so_far session number work attempt status ends.ends.learns ends.ends.over)
  change_begins so_far next (changes.Refuses session req number work attempt status course cause ends done why) both above after =
      let freed = without_ended_work session req work status so_far in
      none_begins so_far next req after (refusal_sends_nothing session req cause course freed).0
      (refused_differs low so_far.node.sends req so_far session cause course freed
      (ended_work_differs low so_far.node.sends req sound given so_far session number work attempt status ends.learns ends.over))
  change_begins so_far next (changes.Opens session req asked lined comes enough) both above after =
      opening_begins so_far session req asked lined comes both above after
  change_begins so_far next (changes.Holds session req asked lined comes short touched) both above after =
      let one = next_differs low so_far.node.sends req sound given so_far session asked lined comes both.0 in
      none_begins so_far next req after (next_sends_nothing so_far session req asked lined comes).0
      (differ_twice low so_far.node.sends req so_far.node lined.node next.node one
      (work_differs low so_far.node.sends req (record asked { stage = WaitsForMembers (record { 0 = lined.node.peer.epoch }) }) lined
      lined.node.gateway refl (λ k from below. refl) one.is))
  change_begins so_far next (changes.Denies session req asked lined request comes short untouched there own) both above after =
      let one = next_differs low so_far.node.sends req sound given so_far session asked lined comes both.0 in
      let denied = without_denied_work session req asked lined in
      let cause = Halt (zones_of_members lined.node) (zones_for asked.work) in
      none_begins so_far next req after
      ((denial_sends_nothing req cause request denied).0 ∙ (next_sends_nothing so_far session req asked lined comes).0)
      (refused_if_there_differs low so_far.node.sends req so_far cause request denied
      (differ_twice low so_far.node.sends req so_far.node lined.node denied.node one
      (gone_differs low so_far.node.sends req session asked lined one.is)))
  change_begins so_far next (changes.Strays req work gateway there none apart) both above after =
      absurd (never_alone req work so_far there none both.0)
  change_begins so_far next (changes.Lines session req work moved steps waits) both above after =
      let d = steps_differ low so_far.node.sends req sound given so_far session (ToWork work) moved steps both.0 in
      none_begins so_far next req after (steps_send_nothing so_far session req (ToWork work) moved steps).0
      (record { me_so = d.me_so; works_so = d.works_so; sessions_so = d.sessions_so; was = d.was; is = d.is })
  change_begins so_far next (changes.Appends session req entry moved steps) both above after =
      let d = steps_differ low so_far.node.sends req sound given so_far session (ToEntry entry) moved steps both.0 in
      none_begins so_far next req after (steps_send_nothing so_far session req (ToEntry entry) moved steps).0
      (record { me_so = d.me_so; works_so = d.works_so; sessions_so = d.sessions_so; was = d.was; is = d.is })
  change_begins so_far next (changes.Replies session req reply moved steps) both above after =
      none_begins so_far next req after
      ((end_sends_nothing session req reply moved).0 ∙ (steps_send_nothing so_far session req (ToReply reply) moved steps).0)
      (ended_differs low so_far.node.sends req so_far session reply moved
      (steps_differ low so_far.node.sends req sound given so_far session (ToReply reply) moved steps both.0))
  change_begins so_far next (changes.Arrives session req ask disk arrival on) both above after =
      let d = course_differs low so_far.node.sends req session (Waiting ask) so_far
      (awaits_none-idle low so_far.node.sends req so_far both.0 (ap may_work_at (arrival.none sound))) in
      none_begins so_far next req after refl
      (record { me_so = d.me_so; works_so = d.works_so; sessions_so = d.sessions_so; was = d.was; is = d.is })
  change_begins so_far next (changes.Rejects session req ask cause arrival) both above after = sym (append-nil (begun_at so_far))
  change_begins so_far next (changes.Recovers due) both above after =
      begun-so_far host so_far.node next.node refl (λ k from below.
      begun-alike host k so_far.node next.node after.1.once (record {
        forth = λ q work got awaits. (work, got, awaits, begins-same host k so_far.node next.node refl q refl work.work work.stage);
        back = λ q later got awaits. (later, got, awaits);
      }))
      ∙ sym (append-nil (begun_at so_far))

  -- in the middle of the step
  pub begun-grows : (so_far next : StepState) → Leads input host.node (input_received input (at_first host.node)) so_far
      → (change : Change input host.node so_far next) → begun_at next ≡ begun_at so_far ++ attempts_of_change host so_far next change
  begun-grows so_far next leads change =
      let both = both_in_chain input host.node sound so_far leads in
      change_begins so_far next change both (count_above so_far leads) (change_keeps_both so_far next change sound both)
