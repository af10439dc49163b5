use Rattle.std.proofs.Common.{◌≡◌, ◌<◌, ◌≤◌, ℕ, nat_lt, true, false, min, List, length, take, ap, ap₂, sym, subst, ◌∙◌, arith}
use Rattle.std.proofs.lemmas.Result.{IfOk-weaker}
use Rattle.std.proofs.lemmas.Bool.{lt-ltb, le-ltb, cond-true, cond-false}
use Rattle.object_id.specs.declared.cause.Cause.TheVariants.{Halt}
use Rattle.object_id.specs.declared.node.NodeId.{NodeId}
use Rattle.object_id.specs.Oid.{kind_of}
use Rattle.object_id.specs.Policy.{wanted_of}
use Rattle.hash_ring.specs.Placement.{zone_count}
use Rattle.vnode_table.specs.Epochs.{members_at}
use Rattle.vnode_table.specs.Targets.{targets_in}
use Rattle.peer_proto.specs.Work.{oid_of, policy_of}
use Rattle.gateway.specs.Work.{zones_for}
use Rattle.gateway.specs.Attempt.{messages_of}
use Rattle.gateway.specs.Kept.{halt_beginning, sends_beginning}
use Rattle.gateway.proofs.AskingLemmas.{targets-count, zones_wanted, zones-short, zones-enough}
use Rattle.gateway.proofs.beginning.begin_attempt.Goals as goal

pub returns-then-count-zones-clause-beginning : goal.returns-then-count-zones-clause-beginning
returns-then-count-zones-clause-beginning c =
    let work = c.args.work.now in
    let zones : ℕ = zone_count (members_at c.args.place.now c.args.epoch.0) in
    let targets : List NodeId = targets_in c.args.place.now c.args.epoch.0 (oid_of work) (policy_of work) in
    let count : c.targets_at-count.result ≡ length targets =
    c.targets_at-count.ensures.count ∙ ap₂ (λ o p. length (targets_in c.args.place.now c.args.epoch.0 o p)) c.oid.ensures c.policy.ensures in
    let short : c.targets_at-count.result < zones_for work = subst (λ (n : ℕ). c.targets_at-count.result < n) c.zones_for-zones.ensures c.if-count-zones.true in
    let is : zones ≡ c.targets_at-count.result =
    zones-short c.targets_at-count.result (wanted_of (policy_of work) (kind_of (oid_of work))) zones (zones_for work)
    (count ∙ targets-count c.args.place.now c.args.epoch.0 (oid_of work) (policy_of work)) (zones_wanted work c.requires.work) short in
    let less : zones < zones_for work = subst (λ (n : ℕ). n < zones_for work) (sym is) short in
    c.halted.ensures
    ∙ ap₂ (λ (n m : ℕ). halt_beginning c.args.touched (Halt n m)) (sym is) c.zones_for-zones.ensures
    ∙ sym (cond-true (nat_lt zones (zones_for work)) (halt_beginning c.args.touched (Halt zones (zones_for work)))
    (sends_beginning c.args.me c.args.epoch work (messages_of work c.args.ended c.args.first targets)) (lt-ltb zones (zones_for work) less))

pub returns-else-count-zones-clause-beginning : goal.returns-else-count-zones-clause-beginning
returns-else-count-zones-clause-beginning c =
    let work = c.args.work.now in
    let zones : ℕ = zone_count (members_at c.args.place.now c.args.epoch.0) in
    let targets : List NodeId = targets_in c.args.place.now c.args.epoch.0 (oid_of work) (policy_of work) in
    let count : c.targets_at-count.result ≡ length targets =
    c.targets_at-count.ensures.count ∙ ap₂ (λ o p. length (targets_in c.args.place.now c.args.epoch.0 o p)) c.oid.ensures c.policy.ensures in
    let filled : take c.targets_at-count.result c.targets_at-count.new.out ≡ targets =
    c.targets_at-count.ensures.filled ∙ ap₂ (targets_in c.args.place.now c.args.epoch.0) c.oid.ensures c.policy.ensures in
    let enough : zones_for work ≤ c.targets_at-count.result = subst (λ (n : ℕ). n ≤ c.targets_at-count.result) c.zones_for-zones.ensures c.if-count-zones.false in
    let most : zones_for work ≤ zones =
    zones-enough c.targets_at-count.result (wanted_of (policy_of work) (kind_of (oid_of work))) zones (zones_for work)
    (count ∙ targets-count c.args.place.now c.args.epoch.0 (oid_of work) (policy_of work)) enough in
    IfOk-weaker c.sent.result _ _
    (λ beginning is. is
    ∙ ap (λ (ts : List NodeId). sends_beginning c.args.me c.args.epoch work (messages_of work c.args.ended c.args.first ts)) filled
    ∙ sym (cond-false (nat_lt zones (zones_for work)) (halt_beginning c.args.touched (Halt zones (zones_for work)))
    (sends_beginning c.args.me c.args.epoch work (messages_of work c.args.ended c.args.first targets)) (le-ltb zones (zones_for work) most)))
    c.sent.ensures

pub returns-else-count-zones-clause-memory : goal.returns-else-count-zones-clause-memory
returns-else-count-zones-clause-memory c short =
    let work = c.args.work.now in
    let zones : ℕ = zone_count (members_at c.args.place.now c.args.epoch.0) in
    let targets : List NodeId = targets_in c.args.place.now c.args.epoch.0 (oid_of work) (policy_of work) in
    let count : c.targets_at-count.result ≡ length targets =
    c.targets_at-count.ensures.count ∙ ap₂ (λ o p. length (targets_in c.args.place.now c.args.epoch.0 o p)) c.oid.ensures c.policy.ensures in
    let enough : zones_for work ≤ c.targets_at-count.result = subst (λ (n : ℕ). n ≤ c.targets_at-count.result) c.zones_for-zones.ensures c.if-count-zones.false in
    let most : zones_for work ≤ zones =
    zones-enough c.targets_at-count.result (wanted_of (policy_of work) (kind_of (oid_of work))) zones (zones_for work)
    (count ∙ targets-count c.args.place.now c.args.epoch.0 (oid_of work) (policy_of work)) enough in
    absurd (cc (sym short ∙ le-ltb zones (zones_for work) most))
