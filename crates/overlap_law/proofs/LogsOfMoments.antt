-- Over each change of a moment the log stays as it is, or gets one entry.
use Rattle.std.proofs.Common.{◌≡◌, ◌⊎◌, inl, inr, ⊎_elim, ℕ, true, List, [], ◌∷◌, ◌++◌, Some, refl, sym, ap, subst}
use Rattle.std.specs.FinMap as tree
use Rattle.proof_tools.proofs.FiniteMaps.{get-insert_same}
use Rattle.object_id.specs.declared.entry.Entry.{Entry}
use Rattle.object_id.specs.declared.entry.Entry.TheVariants as entries
use Rattle.cluster_script.specs.declared.statement.Statement.{Statement}
use Rattle.cluster_script.specs.Settings.{vnodes_of}
use Rattle.sheep_world.specs.Step.{EventOutcome}
use Rattle.sheep_world.specs.MembershipChanges.{join_of, last_weight}
use Rattle.sheep_world.specs.NodeCauses.{NodeCause, GuestAsks, RequestComes, ReplyComes, LossIsTold, EntryIsRead, EntryIsPut, RecoveryTicks}
use Rattle.sheep_world.specs.NodeCauses.{WorkIsRetried, ClientAsks, host_with_node, IsCause, log_after_cause}
use Rattle.sheep_world.specs.World.{Host, is_host_up}
use Rattle.overlap_law.specs.Past.{MomentWithPast}
use Rattle.overlap_law.specs.StepMoments.{SteppingNode, IsStepping, StepsByChanges, last_in_step, moment_in_step}
use Rattle.overlap_law.specs.MomentChanges as moments
use Rattle.overlap_law.specs.MomentChanges.{MomentChange}
use Rattle.overlap_law.proofs.EventsOfChanges.{by_change}

-- a log is another one, or that with one entry more
abbrev pub IsOrGrows : List Entry → List Entry → Type 0
IsOrGrows log later = (later ≡ log) ⊎ ((entry : Entry) × (later ≡ log ++ entry ∷ []))

pub log_by_changes : (cause : NodeCause) → StepsByChanges cause → (log : List Entry) → log_after_cause cause log ≡ log
log_by_changes (GuestAsks session req ask) by log = refl
log_by_changes (RequestComes name to request) by log = absurd by
log_by_changes (ReplyComes name from rsp) by log = refl
log_by_changes (LossIsTold name packet) by log = refl
log_by_changes (EntryIsRead entry) by log = refl
log_by_changes (EntryIsPut entry) by log = absurd by
log_by_changes RecoveryTicks by log = absurd by
log_by_changes WorkIsRetried by log = refl
log_by_changes (ClientAsks req ask) by log = refl

-- an entry of the membership
abbrev pub IsOfMembers : Entry → Type 0
IsOfMembers (entries.Format members) = ⊥
IsOfMembers (entries.Join node zone vnodes) = Unit {0}
IsOfMembers (entries.Leave node) = Unit {0}
IsOfMembers (entries.Reweight node vnodes) = Unit {0}
IsOfMembers (entries.Recovered node epoch) = ⊥
IsOfMembers (entries.Reserve by session name origin) = ⊥
IsOfMembers (entries.Publish by vid) = ⊥
IsOfMembers (entries.Clone by vid) = ⊥
IsOfMembers (entries.Snapshot by old vid) = ⊥
IsOfMembers (entries.Delete by session name tag) = ⊥
IsOfMembers (entries.Lock by session name tag) = ⊥
IsOfMembers (entries.Unlock by session vid) = ⊥

-- a node puts an entry as the event begins, and is up behind that
pub record IsPutHere (script : List Statement) (start before after : MomentWithPast) (entry : Entry) : Type 0 where
  pub first : before ≡ start
  pub n : ℕ
  pub host : Host
  pub there : tree.get start.world.hosts n ≡ Some host
  pub up : is_host_up host ≡ true
  pub so : IsCause script start.world n host (EntryIsPut entry)
  pub now : Host
  pub now_there : tree.get after.world.hosts n ≡ Some now
  pub now_lost : now.is_lost ≡ host.is_lost

abbrev pub GetsEntry : List Statement → MomentWithPast → MomentWithPast → MomentWithPast → Type 0
GetsEntry script start before after = (after.world.log ≡ before.world.log)
    ⊎ ((entry : Entry) × (after.world.log ≡ before.world.log ++ entry ∷ [])
    × (IsOfMembers entry ⊎ IsPutHere script start before after entry))

made_at_once : (script : List Statement) (start : MomentWithPast) (stepping : SteppingNode) → IsStepping script start.world stepping
    → (cause : NodeCause) → stepping.cause ≡ cause → IsCause script start.world stepping.n stepping.host cause
    → GetsEntry script start start (moment_in_step script stepping start (last_in_step stepping))
made_at_once script start stepping is (GuestAsks session req ask) same so =
    inl (ap (λ (c : NodeCause). log_after_cause c start.world.log) same)
made_at_once script start stepping is (RequestComes name to request) same so =
    inl (ap (λ (c : NodeCause). log_after_cause c start.world.log) same)
made_at_once script start stepping is (ReplyComes name from rsp) same so =
    inl (ap (λ (c : NodeCause). log_after_cause c start.world.log) same)
made_at_once script start stepping is (LossIsTold name packet) same so =
    inl (ap (λ (c : NodeCause). log_after_cause c start.world.log) same)
made_at_once script start stepping is (EntryIsRead entry) same so = inl (ap (λ (c : NodeCause). log_after_cause c start.world.log) same)
made_at_once script start stepping is (EntryIsPut entry) same so = inr (
  entry,
  ap (λ (c : NodeCause). log_after_cause c start.world.log) same,
  inr (record {
    first = refl;
    n = stepping.n;
    host = stepping.host;
    there = is.there;
    up = is.up;
    so = so;
    now = host_with_node stepping.host (last_in_step stepping).node;
    now_there = get-insert_same start.world.hosts stepping.n (host_with_node stepping.host (last_in_step stepping).node);
    now_lost = refl;
  }),
)
made_at_once script start stepping is RecoveryTicks same so = inl (ap (λ (c : NodeCause). log_after_cause c start.world.log) same)
made_at_once script start stepping is WorkIsRetried same so = inl (ap (λ (c : NodeCause). log_after_cause c start.world.log) same)
made_at_once script start stepping is (ClientAsks req ask) same so = inl (ap (λ (c : NodeCause). log_after_cause c start.world.log) same)

pub gets_entry : (script : List Statement) {start before after : MomentWithPast} → MomentChange script start before after
    → GetsEntry script start before after
gets_entry script {start} (moments.StepBegins stepping is by) = inl (log_by_changes stepping.cause by start.world.log)
gets_entry script (moments.StepGoesOn stepping so_far next is by within) = inl refl
gets_entry script {start} (moments.StepIsMade stepping is by) = made_at_once script start stepping is stepping.cause refl is.caused
gets_entry script (moments.LossIsUntold event made happened h) = inl (ap (λ (m : EventOutcome). m.world.log) (sym h.made_so))
gets_entry script (moments.DeliveryIsUnread event made happened h) = inl (ap (λ (m : EventOutcome). m.world.log) (sym h.made_so))
gets_entry script (moments.NodeIsLost event made happened h) = inl (ap (λ (m : EventOutcome). m.world.log) (sym h.made_so))
gets_entry script (moments.NodeLeaves event made happened h) =
    inr (entries.Leave (record { 0 = h.n }), ap (λ (m : EventOutcome). m.world.log) (sym h.made_so), inl tt)
gets_entry script (moments.NodeIsReweighted event made happened h) =
    inr (entries.Reweight (record { 0 = h.n }) h.vnodes, ap (λ (m : EventOutcome). m.world.log) (sym h.made_so), inl tt)
gets_entry script (moments.NodeJoins event made happened h) =
    inr (join_of script h.n (vnodes_of script), ap (λ (m : EventOutcome). m.world.log) (sym h.made_so), inl tt)
gets_entry script {start} (moments.NodeComesBack event made happened h) =
    inr (join_of script h.n (last_weight start.world.log h.n), ap (λ (m : EventOutcome). m.world.log) (sym h.made_so), inl tt)
gets_entry script (moments.PhaseEnds event made happened h) = inl (ap (λ (m : EventOutcome). m.world.log) (sym h.made_so))

-- the log stays, or has one entry more
pub log_of_change : (script : List Statement) {start before after : MomentWithPast} → MomentChange script start before after
    → IsOrGrows before.world.log after.world.log
log_of_change script {start} {before} {after} change = ⊎_elim
    (λ (same : after.world.log ≡ before.world.log). inl same)
    (λ (more : (entry : Entry) × (after.world.log ≡ before.world.log ++ entry ∷ [])
    × (IsOfMembers entry ⊎ IsPutHere script start before after entry)). inr (more.0, more.1))
    (gets_entry script change)

-- the log before a change is that at which the event began
pub log_before : (script : List Statement) {start before after : MomentWithPast} → MomentChange script start before after
    → before.world.log ≡ start.world.log
log_before script {start} change =
    by_change script start (λ before after. before.world.log ≡ start.world.log)
    (λ stepping is by. refl)
    (λ stepping is by so_far next within. log_by_changes stepping.cause by start.world.log)
    (λ event made happened. refl) change

-- and so it is since the event began
pub log_since : (script : List Statement) {start before after : MomentWithPast} → MomentChange script start before after
    → IsOrGrows start.world.log after.world.log
log_since script {start} {before} {after} change =
    subst (λ (log : List Entry). IsOrGrows log after.world.log) (log_before script change) (log_of_change script change)

-- the log is as it was, or the event has just begun
pub log_or_start : (script : List Statement) {start before after : MomentWithPast} → MomentChange script start before after
    → (after.world.log ≡ before.world.log) ⊎ (before ≡ start)
log_or_start script {start} change =
    by_change script start (λ before after. (after.world.log ≡ before.world.log) ⊎ (before ≡ start))
    (λ stepping is by. inr refl)
    (λ stepping is by so_far next within. inl refl)
    (λ event made happened. inr refl) change
