-- A gateway in which no request but 4 has an open work: its steps keep it so, and where a work may be tried again no number is open.
use Rattle.std.proofs.Common.{◌≡◌, ◌≢◌, ℕ, ◌+◌, nat_lt, true, not, List, [], ◌∷◌, ◌++◌, map, Contains, Option, Some, None, is_some, ⊎_elim, refl, sym, ap, ◌∙◌}
use Rattle.std.specs.List.{list_all, flat_map}
use Rattle.std.specs.Ordering.{nat_cmp}
use Rattle.std.specs.FinMap as tree
use Rattle.std.proofs.lemmas.Bool.{cases_eq}
use Rattle.std.proofs.lemmas.Option.{same_Some}
use Rattle.proof_tools.proofs.Booleans.{cond_either}
use Rattle.proof_tools.proofs.FiniteMaps.{get-entry, get-insert_other, get-remove_same, get-remove_other}
use Rattle.proof_tools.proofs.Lists.{Contains-first, Contains-cons, find-contains}
use Rattle.object_id.specs.declared.cause.Cause.{Cause}
use Rattle.object_id.specs.declared.cause.Cause.TheVariants.{Halt}
use Rattle.object_id.specs.declared.node.Epoch.{Epoch}
use Rattle.object_id.specs.declared.node.NodeId.{NodeId}
use Rattle.hash_ring.specs.Placement.{zone_count}
use Rattle.vnode_table.specs.Epochs.{EpochMembers, members_at}
use Rattle.vnode_table.specs.Targets.{targets_in}
use Rattle.peer_proto.specs.declared.work.ObjWork.{ObjWork}
use Rattle.peer_proto.specs.Work.{oid_of, policy_of}
use Rattle.gateway.specs.declared.message.Message.{Message}
use Rattle.gateway.specs.declared.message.Status.{Status}
use Rattle.gateway.specs.Work.{zones_for}
use Rattle.gateway.specs.Attempt.{Attempt, is_over, is_done, bytes_given}
use Rattle.gateway.specs.State.{WorkStage, Open, Ended, WaitsForMembers, Work, Gateway, initial_gateway, has_work, is_touched, is_awaited_in, asker, open_messages, open_numbers, may_try, next_try, can_retry}
use Rattle.gateway.specs.Step.{GatewayStep, with_work, without_work, waiting_step, refusal_step, done_step, failure_step, halt_step, open_step, next_attempt, attempt_step, start_step, touched_by, refusal_after_attempt, attempt_ended, attempt_continued, attempt_with_status, status_step_in, status_step_by, message_ended}
use Rattle.part_tests.specs.SoleWork.{IsSole}

abbrev LeavesSole : GatewayStep → Type 0
LeavesSole step = IsSole step.gateway

pub sole-at_first : (me : NodeId) (tries : ℕ) → IsSole (initial_gateway me tries)
sole-at_first me tries req work there =
    let none : tree.get {R = nat_cmp} (tree.empty {X = Work}) req ≡ None = tree.get-empty nat_cmp req in
    absurd (cc (none, there))

pub works-at_first : (me : NodeId) (tries req : ℕ) → not (has_work req (initial_gateway me tries)) ≡ true
works-at_first me tries req = ap (λ (work : Option Work). not (is_some work)) (tree.get-empty nat_cmp req)

with-sole : (req : ℕ) (now : Work) (gateway : Gateway) → req ≡ 4 → IsSole gateway → IsSole (with_work req now gateway)
with-sole req now gateway own sole q work there = ⊎_elim
    (λ (same : q ≡ req). same ∙ own)
    (λ (other : q ≢ req). sole q work (sym (get-insert_other gateway.works req now q other) ∙ there))
    (cases_eq q req)

without-sole : (req : ℕ) (gateway : Gateway) → IsSole gateway → IsSole (without_work req gateway)
without-sole req gateway sole q work there = ⊎_elim
    (λ (same : q ≡ req).
    let none : tree.get (tree.remove gateway.works req) q ≡ None = ap (tree.get (tree.remove gateway.works req)) same ∙ get-remove_same gateway.works req in
    absurd (cc (there, none)))
    (λ (other : q ≢ req). sole q work (sym (get-remove_other gateway.works req q other) ∙ there))
    (cases_eq q req)

pub sole-start : (epochs : List EpochMembers) (gateway : Gateway) (work : ObjWork) (first : ℕ) (epoch : Epoch) → IsSole gateway
    → LeavesSole (start_step epochs gateway 4 work first epoch)
unfolding start_step attempt_step
sole-start epochs gateway work first epoch sole =
    let begun : Work = record { work = work; ended = 0; stage = Ended } in
    let zones : ℕ = zone_count (members_at epochs epoch.0) in
    cond_either LeavesSole (nat_lt zones (zones_for work))
    (halt_step gateway 4 begun epoch zones)
    (open_step gateway 4 begun (next_attempt begun first epoch (targets_in epochs epoch.0 (oid_of work) (policy_of work))))
    (cond_either LeavesSole (is_touched 4 gateway)
    (waiting_step (with_work 4 (record begun { stage = WaitsForMembers epoch }) gateway))
    (refusal_step gateway 4 work (Halt zones (zones_for work)))
    (with-sole 4 (record begun { stage = WaitsForMembers epoch }) gateway refl sole)
    (without-sole 4 gateway sole))
    (with-sole 4 _ gateway refl sole)

failed-sole : (gateway : Gateway) (req : ℕ) (work : Work) (cause : Option Cause) → req ≡ 4 → IsSole gateway
    → LeavesSole (failure_step gateway req work cause)
failed-sole gateway req work None own sole = with-sole req _ gateway own sole
failed-sole gateway req work (Some cause) own sole = without-sole req gateway sole

continued-sole : (gateway : Gateway) (req : ℕ) (work : Work) (attempt : Attempt) → req ≡ 4 → IsSole gateway
    → LeavesSole (attempt_continued gateway req work attempt)
unfolding attempt_continued attempt_ended
continued-sole gateway req work attempt own sole =
    cond_either LeavesSole (is_over attempt.messages)
    (attempt_ended gateway req work attempt)
    (waiting_step (with_work req (record work { stage = Open attempt }) gateway))
    (cond_either LeavesSole (is_done work.work attempt.messages)
    (done_step gateway req work.work (bytes_given work.work attempt.messages))
    (failure_step gateway req work (refusal_after_attempt gateway req work.work (work.ended + 1) attempt))
    (without-sole req gateway sole)
    (failed-sole gateway req work (refusal_after_attempt gateway req work.work (work.ended + 1) attempt) own sole))
    (with-sole req _ gateway own sole)

known-sole : (gateway : Gateway) (req : ℕ) (work : Work) (number : ℕ) (status : Status) (stage : WorkStage) → req ≡ 4 → IsSole gateway
    → LeavesSole (status_step_in gateway req work number status stage)
known-sole gateway req work number status (Open attempt) own sole =
    continued-sole gateway req work (attempt_with_status number status attempt) own sole
known-sole gateway req work number status Ended own sole = sole
known-sole gateway req work number status (WaitsForMembers epoch) own sole = sole

pub sole-end : (gateway : Gateway) (number : ℕ) (status : Status) → IsSole gateway → LeavesSole (message_ended gateway number status)
unfolding message_ended
sole-end gateway number status sole = by_asker (asker number gateway) refl
  where
    by_asker : (found : Option (ℕ × Work)) → asker number gateway ≡ found → LeavesSole (status_step_by gateway number status found)
    by_asker None is = sole
    by_asker (Some found) is =
        let there = find-contains (λ (entry : ℕ × Work). is_awaited_in number entry.1) (tree.entries gateway.works) found is in
        known-sole (touched_by found.0 found.1.work status gateway) found.0 found.1 number status found.1.stage
        (sole found.0 found.1 (get-entry gateway.works found there.0)) sole

-- ---- where a work may be tried again

none-open : (epoch : Epoch) (stage : WorkStage) → may_try epoch stage ≡ true → open_messages stage ≡ []
none-open epoch (Open attempt) may = absurd (cc (may))
none-open epoch Ended may = refl
none-open epoch (WaitsForMembers since) may = refl

abbrev numbers_in : ℕ × Work → List ℕ
numbers_in entry = map (λ (message : Message). message.number) (open_messages entry.1.stage)

none-in : (entries : List (ℕ × Work)) → ((entry : ℕ × Work) → Contains entries entry → open_messages entry.1.stage ≡ [])
    → flat_map numbers_in entries ≡ []
none-in [] none = refl
none-in (entry ∷ entries) none =
    ap (λ (messages : List Message). map (λ (message : Message). message.number) messages ++ flat_map numbers_in entries)
    (none entry (Contains-first entry entry entries refl))
    ∙ none-in entries (λ other there. none other (Contains-cons entry entries other there))

pub numbers-at_first : (me : NodeId) (tries first : ℕ) → list_all (λ number. nat_lt number first) (open_numbers (initial_gateway me tries)) ≡ true
numbers-at_first me tries first =
    ap (list_all (λ number. nat_lt number first))
    (none-in (tree.entries tree.empty) (λ entry there.
    let none : tree.get {R = nat_cmp} (tree.empty {X = Work}) entry.0 ≡ None = tree.get-empty nat_cmp entry.0 in
    absurd (cc (none, get-entry tree.empty entry there))))

pub numbers-tried : (epoch : Epoch) (gateway : Gateway) (first : ℕ) → IsSole gateway → can_retry epoch gateway ≡ true
    → list_all (λ number. nat_lt number first) (open_numbers gateway) ≡ true
numbers-tried epoch gateway first sole may = by_next (next_try epoch gateway) refl may
  where
    by_next : (found : Option (ℕ × Work)) → next_try epoch gateway ≡ found → is_some found ≡ true
        → list_all (λ number. nat_lt number first) (open_numbers gateway) ≡ true
    by_next None is some = absurd (cc (some))
    by_next (Some found) is some =
        let found_there = find-contains (λ (entry : ℕ × Work). may_try epoch entry.1.stage) (tree.entries gateway.works) found is in
        let got : tree.get gateway.works found.0 ≡ Some found.1 = get-entry gateway.works found found_there.0 in
        ap (list_all (λ number. nat_lt number first))
        (none-in (tree.entries gateway.works) (λ entry there.
        let at : tree.get gateway.works entry.0 ≡ Some entry.1 = get-entry gateway.works entry there in
        let same : found.1 ≡ entry.1
        = same_Some found.1 entry.1 (sym got ∙ ap (tree.get gateway.works) (sole found.0 found.1 got ∙ sym (sole entry.0 entry.1 at)) ∙ at) in
        ap (λ (work : Work). open_messages work.stage) (sym same) ∙ none-open epoch found.1.stage found_there.1))
