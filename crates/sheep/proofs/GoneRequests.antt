-- When the gateway of a request is gone: not as long as a node of its incarnation is up; and what is gone stays gone.
use Rattle.std.proofs.Common.{◌≡◌, ◌≢◌, ⊎_elim, arith, ℕ, ◌+◌, ◌<◌, ◌==◌, nat_lt, not, ◌&&◌, ◌||◌, Bool, true, false, List, Option, Some, is_some, option_and_then, refl, sym, ap, subst, ◌∙◌}
use Rattle.std.specs.Option.{option_map_or}
use Rattle.std.specs.Ordering.{nat_cmp}
use Rattle.std.specs.FinMap as tree
use Rattle.std.proofs.lemmas.Bool.{cases_eq, eqb-true, lt-ltb, ltb-true, le-ltb, and_parts, or_cases}
use Rattle.std.proofs.lemmas.Option.{same_Some}
use Rattle.proof_tools.proofs.FiniteMaps.{get-insert_same, get-insert_other}
use Rattle.object_id.specs.declared.entry.Entry.{Entry}
use Rattle.cluster_script.specs.declared.statement.Statement.{Statement}
use Rattle.cluster_script.specs.declared.statement.Statement.TheVariants as lines
use Rattle.cluster_script.specs.Language.{IsScript}
use Rattle.cluster_script.specs.Sessions.{ScriptSession, session_numbered}
use Rattle.sheep_node.specs.declared.event.Event.{Event}
use Rattle.sheep_node.specs.May.{has_numbers}
use Rattle.sheep_world.specs.World.{Host, World, host_at, is_host_up}
use Rattle.sheep_world.specs.Asking.{session_asking}
use Rattle.sheep_world.specs.MembershipChanges.{lost_host}
use Rattle.sheep_world.specs.Incarnations.{is_incarnation_gone, is_session_gone}
use Rattle.sheep_world.specs.Step.{EventOutcome, step}
use Rattle.sheep_world.specs.Began.{Began}
use Rattle.sheep_world.specs.EventKinds.{log_after_return, EventKind, NodeStep, UntoldLoss, UnreadDelivery, NodeLoss}
use Rattle.sheep_world.specs.EventKinds.{NodeLeave, NodeReweight, NodeJoin, NodeReturn, PhaseEnd}
use Rattle.sheep_world.specs.HostChanges.{host_after_step, host_after_return, joined_host}
use Rattle.sheep_world.specs.ControlsToCome.{has_host, ControlsFit}
use Rattle.sheep_world.proofs.EnabledLaws.{looked_up}
use Rattle.sheep_world.proofs.EventInversion.{happens}
use Rattle.sheep_world.proofs.ControlLaws.{next_fits}
use Rattle.sheep_world.proofs.ScriptControls.{controls-fit}
use Rattle.dog_report.specs.Report.{is_lost_request}

-- ---- of a node that is up nothing is gone

false_by : (b : Bool) → not b ≡ true → b ≡ false
false_by true is = absurd (cc (is))
false_by false is = refl

-- it isn't lost
pub not_lost : (host : Host) → is_host_up host ≡ true → host.is_lost ≡ false
not_lost host up = false_by host.is_lost (and_parts (not host.is_lost) (has_numbers host.node) up).0

and_false : (b : Bool) → (b && false) ≡ false
and_false true = refl
and_false false = refl

-- its present incarnation isn't gone
pub not_gone : (session : ScriptSession) (host : Host) → session.incarnation ≡ host.incarnation → host.is_lost ≡ false
    → is_incarnation_gone session host ≡ false
not_gone session host same up =
    ap (λ (k : ℕ). nat_lt k host.incarnation || (k == host.incarnation && host.is_lost)) same
    ∙ ap (λ (b : Bool). b || (host.incarnation == host.incarnation && host.is_lost)) (le-ltb host.incarnation host.incarnation (omega arith))
    ∙ ap (λ (b : Bool). host.incarnation == host.incarnation && b) up
    ∙ and_false (host.incarnation == host.incarnation)

-- ---- what is gone stays gone

module _ (statements : List Statement) (event : Event) (world : World) (made : EventOutcome) (fit : ControlsFit statements world)
    (session : ScriptSession) where
  -- the host of its gateway tells that it is gone
  record IsGone (hosts : tree.FinMap nat_cmp Host) : Type 0 where
    host : Host
    there : tree.get hosts session.node ≡ Some host
    gone : is_incarnation_gone session host ≡ true

  gone_with : (n : ℕ) (new : Host) → IsGone world.hosts
      → ((host : Host) → tree.get world.hosts n ≡ Some host → is_incarnation_gone session host ≡ true → is_incarnation_gone session new ≡ true)
      → IsGone (tree.insert world.hosts n new)
  gone_with n new is keeps = ⊎_elim
      (λ (own : session.node ≡ n). record {
        host = new;
        there = ap (tree.get (tree.insert world.hosts n new)) own ∙ get-insert_same world.hosts n new;
        gone = keeps is.host (ap (tree.get world.hosts) (sym own) ∙ is.there) is.gone;
      })
      (λ (other : session.node ≢ n). record {
        host = is.host;
        there = get-insert_other world.hosts n new session.node other ∙ is.there;
        gone = is.gone;
      })
      (cases_eq session.node n)

  of_host : (one other : Host) (n : ℕ) → tree.get world.hosts n ≡ Some one → tree.get world.hosts n ≡ Some other
      → is_incarnation_gone session other ≡ true → is_incarnation_gone session one ≡ true
  of_host one other n got too gone = ap (is_incarnation_gone session) (same_Some one other (sym got ∙ too)) ∙ gone

  when_lost : (host : Host) → is_incarnation_gone session host ≡ true → is_incarnation_gone session (lost_host host) ≡ true
  when_lost host gone = by_later (nat_lt session.incarnation host.incarnation) (session.incarnation == host.incarnation) host.is_lost gone
    where
      by_later : (later same lost : Bool) → (later || (same && lost)) ≡ true → (later || (same && true)) ≡ true
      by_later true same lost is = refl
      by_later false true lost is = refl
      by_later false false lost is = is

  gone_before : (host : Host) → is_incarnation_gone session host ≡ true → session.incarnation < host.incarnation + 1
  gone_before host gone = ⊎_elim
      (λ (later : nat_lt session.incarnation host.incarnation ≡ true).
      let below : session.incarnation < host.incarnation = ltb-true session.incarnation host.incarnation later in omega (arith, below))
      (λ (same : (session.incarnation == host.incarnation && host.is_lost) ≡ true).
      let is : session.incarnation ≡ host.incarnation
      = eqb-true session.incarnation host.incarnation (and_parts (session.incarnation == host.incarnation) host.is_lost same).0 in
      omega (arith, is))
      (or_cases (nat_lt session.incarnation host.incarnation) (session.incarnation == host.incarnation && host.is_lost) gone)

  when_back : (host : Host) (log : List Entry) → is_incarnation_gone session host ≡ true → is_incarnation_gone session (host_after_return log host) ≡ true
  when_back host log gone =
      ap (λ (b : Bool). b || (session.incarnation == (host.incarnation + 1) && false))
      (lt-ltb session.incarnation (host.incarnation + 1) (gone_before host gone))

  gone_stays : EventKind statements event world made → IsGone world.hosts → IsGone made.world.hosts
  gone_stays (NodeStep h) is =
      subst (λ (made : EventOutcome). IsGone made.world.hosts) h.made_so
      (gone_with h.n (host_after_step h.cause h.host) is (λ host got gone. of_host h.host host h.n h.there got gone))
  gone_stays (UntoldLoss h) is = subst (λ (made : EventOutcome). IsGone made.world.hosts) h.made_so is
  gone_stays (UnreadDelivery h) is = subst (λ (made : EventOutcome). IsGone made.world.hosts) h.made_so is
  gone_stays (NodeLoss h) is =
      subst (λ (made : EventOutcome). IsGone made.world.hosts) h.made_so
      (gone_with h.n (lost_host h.host) is (λ host got gone. when_lost h.host (of_host h.host host h.n h.there got gone)))
  gone_stays (NodeLeave h) is = subst (λ (made : EventOutcome). IsGone made.world.hosts) h.made_so is
  gone_stays (NodeReweight h) is = subst (λ (made : EventOutcome). IsGone made.world.hosts) h.made_so is
  gone_stays (NodeJoin h) is =
      subst (λ (made : EventOutcome). IsGone made.world.hosts) h.made_so
      (gone_with h.n (joined_host statements h.n) is (λ host got gone.
      let none : has_host world h.n ≡ false = (next_fits statements world (lines.Join h.n) h.control fit).1 in
      let some : has_host world h.n ≡ true = ap (λ (o : Option Host). is_some o) got in
      absurd (cc (none, some))))
  gone_stays (NodeReturn h) is =
      subst (λ (made : EventOutcome). IsGone made.world.hosts) h.made_so
      (gone_with h.n (host_after_return (log_after_return statements h.n world) h.host) is
      (λ host got gone. when_back h.host (log_after_return statements h.n world) (of_host h.host host h.n h.there got gone)))
  gone_stays (PhaseEnd h) is = subst (λ (made : EventOutcome). IsGone made.world.hosts) h.made_so is

-- a request whose gateway is gone stays without it
pub gone-stays : (statements : List Statement) (event : Event) (world : World) (made : EventOutcome) (q : ℕ) → IsScript statements
    → Began statements world → step statements event world ≡ Some made → is_lost_request statements q world ≡ true
    → is_lost_request statements q made.world ≡ true
gone-stays statements event world made q script began is gone =
    let (session, found, session_gone) = looked_up (λ (session : ScriptSession). is_session_gone session world)
    (option_and_then (session_numbered statements) (session_asking statements q)) gone in
    let (host, there, host_gone) = looked_up (is_incarnation_gone session) (host_at session.node world) session_gone in
    let fit = controls-fit statements world script began in
    let later = gone_stays statements event world made fit session (happens statements event world made is)
    (record { host = host; there = there; gone = host_gone }) in
    ap (λ (o : Option ScriptSession). option_map_or (λ (session : ScriptSession). is_session_gone session made.world) o false) found
    ∙ ap (λ (o : Option Host). option_map_or (is_incarnation_gone session) o false) later.there
    ∙ later.gone
