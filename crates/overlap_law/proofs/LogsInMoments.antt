-- Over each change of a moment the log gets at most one entry, and who is up after it was up before, or joined or came back with an epoch.
use Rattle.std.proofs.Common.{◌≡◌, ◌≢◌, ◌⊎◌, inl, inr, ⊎_elim, arith, ℕ, ◌+◌, ◌≤◌, suc, false, List, [], ◌∷◌, ◌++◌, filter, length, Some}
use Rattle.std.proofs.Common.{is_some, refl, sym, ap, subst, ◌∙◌, append-nil}
use Rattle.std.specs.FinMap as tree
use Rattle.std.proofs.lemmas.Bool.{cases_eq}
use Rattle.std.proofs.lemmas.Option.{same_Some}
use Rattle.proof_tools.proofs.Booleans.{cond_either}
use Rattle.proof_tools.proofs.FiniteMaps.{get-insert_same, get-insert_other, insert-insert}
use Rattle.object_id.specs.declared.entry.Entry.{Entry}
use Rattle.epoch_log.specs.Epochs.{begins_epoch, epoch_of, members_in}
use Rattle.epoch_log.proofs.EpochLemmas.{epoch_of-append, members_in-append}
use Rattle.cluster_script.specs.declared.statement.Statement.{Statement}
use Rattle.cluster_script.specs.declared.statement.Statement.TheVariants as lines
use Rattle.cluster_script.specs.Settings.{vnodes_of}
use Rattle.sheep_node.specs.declared.input.Input.TheVariants as inputs
use Rattle.sheep_node.proofs.LogLaws.{epoch_more}
use Rattle.sheep_node.proofs.StepResults.{step_reads}
use Rattle.sheep_world.specs.World.{Host}
use Rattle.sheep_world.specs.Step.{EventOutcome}
use Rattle.sheep_world.specs.MembershipChanges.{lost_host, join_of, last_weight}
use Rattle.sheep_world.specs.NodeCauses.{host_with_node}
use Rattle.sheep_world.specs.EventKinds.{log_after_return}
use Rattle.sheep_world.specs.HostChanges.{host_after_return, joined_host}
use Rattle.sheep_world.specs.Began.{Began}
use Rattle.sheep_world.proofs.BegunWorlds.{goes_on}
use Rattle.sheep_world.proofs.ControlLaws.{next_fits}
use Rattle.sheep_world.proofs.NodesByTheLog.{by_the_log}
use Rattle.overlap_law.specs.Reached.{Hosts}
use Rattle.overlap_law.specs.Past.{MomentWithPast}
use Rattle.overlap_law.specs.StepMoments.{first_in_step, last_in_step, moment_in_step}
use Rattle.overlap_law.specs.MomentChanges as moments
use Rattle.overlap_law.specs.MomentChanges.{MomentChange, RunsAreInRange}
use Rattle.overlap_law.proofs.KnownSteps.{together}
use Rattle.overlap_law.proofs.EventsOfChanges.{by_change}
use Rattle.overlap_law.proofs.LogsOfMoments.{log_by_changes, log_of_change}

-- ---- the log

-- a log got no more than one epoch
pub record LogGrows (log log_after : List Entry) : Type 0 where
  pub rest : List Entry
  pub is : log_after ≡ log ++ rest
  pub most : epoch_of log_after ≤ epoch_of log + 1

same_log : (log log_after : List Entry) → log_after ≡ log → LogGrows log log_after
same_log log log_after same =
    let epochs : epoch_of log_after ≡ epoch_of log = ap epoch_of same in
    record { rest = []; is = same ∙ sym (append-nil log); most = omega (arith, epochs) }

one_entry : (log log_after : List Entry) (entry : Entry) → log_after ≡ log ++ entry ∷ [] → LogGrows log log_after
one_entry log log_after entry is =
    let sum : epoch_of log_after ≡ epoch_of log + length (filter begins_epoch (entry ∷ [])) = ap epoch_of is
    ∙ epoch_of-append log (entry ∷ []) in
    let few : length (filter begins_epoch (entry ∷ [])) ≤ 1
    = cond_either (λ (es : List Entry). length es ≤ 1) (begins_epoch entry) (entry ∷ []) [] (omega arith) (omega arith) in
    record { rest = entry ∷ []; is = is; most = omega (arith, sum, few) }

pub log_grows : (script : List Statement) {start before after : MomentWithPast} → MomentChange script start before after
    → LogGrows before.world.log after.world.log
log_grows script {start} {before} {after} change = ⊎_elim
    (λ (same : after.world.log ≡ before.world.log). same_log before.world.log after.world.log same)
    (λ (one : (entry : Entry) × (after.world.log ≡ before.world.log ++ entry ∷ [])).
    one_entry before.world.log after.world.log one.0 one.1)
    (log_of_change script change)

-- the members of an epoch stay
pub same_members : (log log_after : List Entry) → LogGrows log log_after → 1 ≤ length log → (epoch : ℕ) → epoch ≤ epoch_of log
    → members_in log_after epoch ≡ members_in log epoch
same_members log log_after grows some epoch begun =
    ap (λ (all : List Entry). members_in all epoch) grows.is ∙ members_in-append log grows.rest epoch some begun

pub epochs_grow : (log log_after : List Entry) → LogGrows log log_after → epoch_of log ≤ epoch_of log_after
epochs_grow log log_after grows =
    let sum : epoch_of log_after ≡ epoch_of log + length (filter begins_epoch grows.rest) = ap epoch_of grows.is
    ∙ epoch_of-append log grows.rest in
    omega (arith, sum)

-- a moment is the end of an event, or has the log of the one before
pub ends_or_same : (script : List Statement) {start before after : MomentWithPast} → Began script start.world
    → MomentChange script start before after
    → Began script after.world ⊎ (after.world.log ≡ before.world.log)
ends_or_same script {start} began change =
    by_change script start (λ before after. Began script after.world ⊎ (after.world.log ≡ before.world.log))
    (λ stepping is by. inr (log_by_changes stepping.cause by start.world.log))
    (λ stepping is by so_far next within. inr refl)
    (λ event made happened. inl (goes_on script event start.world made began happened)) change

-- ---- who is up

-- a node was up
abbrev pub WasUp : Hosts → ℕ → Type 0
WasUp hosts n = (host : Host) × (tree.get hosts n ≡ Some host) × (host.is_lost ≡ false)

-- with it an epoch began, and the node wasn't there before, or is in that epoch
pub record IsNew (before after : MomentWithPast) (n : ℕ) (now : Host) : Type 0 where
  pub begun : epoch_of after.world.log ≡ suc (epoch_of before.world.log)
  pub fresh : (is_some (tree.get before.world.hosts n) ≡ false) ⊎ (now.node.peer.epoch ≡ epoch_of after.world.log)

-- who is up was up, or is new
abbrev pub TheUpWereUp : MomentWithPast → MomentWithPast → Type 0
TheUpWereUp before after = (n : ℕ) (now : Host) → tree.get after.world.hosts n ≡ Some now → now.is_lost ≡ false
    → WasUp before.world.hosts n ⊎ IsNew before after n now

same_up : (before after : MomentWithPast) → after.world.hosts ≡ before.world.hosts → TheUpWereUp before after
same_up before after same n now there up = inl (now, ap (λ (held : Hosts). tree.get held n) (sym same) ∙ there, up)

one_up : (before after : MomentWithPast) (k : ℕ) (new : Host) → after.world.hosts ≡ tree.insert before.world.hosts k new
    → (new.is_lost ≡ false → WasUp before.world.hosts k ⊎ IsNew before after k new) → TheUpWereUp before after
one_up before after k new hosts own n now there up = ⊎_elim
    (λ (is : n ≡ k).
    let at : tree.get after.world.hosts k ≡ Some new = ap (λ (held : Hosts). tree.get held k) hosts
    ∙ get-insert_same before.world.hosts k new in
    let same : new ≡ now = same_Some new now (sym at ∙ ap (tree.get after.world.hosts) (sym is) ∙ there) in
    let so : WasUp before.world.hosts k ⊎ IsNew before after k now
    = subst (λ (h : Host). WasUp before.world.hosts k ⊎ IsNew before after k h) same (own (ap (λ (h : Host). h.is_lost) same ∙ up)) in
    subst (λ (q : ℕ). WasUp before.world.hosts q ⊎ IsNew before after q now) (sym is) so)
    (λ (apart : n ≢ k).
    inl (now, sym (ap (λ (held : Hosts). tree.get held n) hosts ∙ get-insert_other before.world.hosts k new n apart) ∙ there, up))
    (cases_eq n k)

step_up : (before after : MomentWithPast) (k : ℕ) (old new : Host) → after.world.hosts ≡ tree.insert before.world.hosts k new
    → tree.get before.world.hosts k ≡ Some old → new.is_lost ≡ old.is_lost → TheUpWereUp before after
step_up before after k old new hosts was same = one_up before after k new hosts (λ up. inl (old, was, sym same ∙ up))

pub ups_were_up : (script : List Statement) → RunsAreInRange script → {start before after : MomentWithPast} → Began script start.world
    → MomentChange script start before after → TheUpWereUp before after
ups_were_up script range {start} began (moments.StepBegins stepping is by) =
    step_up start (moment_in_step script stepping start (first_in_step stepping)) stepping.n stepping.host
    (host_with_node stepping.host (first_in_step stepping).node) refl is.there refl
ups_were_up script range {start} began (moments.StepGoesOn stepping so_far next is by within) =
    let was = host_with_node stepping.host so_far.node in
    let now = host_with_node stepping.host next.node in
    step_up (moment_in_step script stepping start so_far) (moment_in_step script stepping start next) stepping.n was now
    (sym (insert-insert start.world.hosts stepping.n was now)) (get-insert_same start.world.hosts stepping.n was) refl
ups_were_up script range {start} began (moments.StepIsMade stepping is by) =
    step_up start (moment_in_step script stepping start (last_in_step stepping)) stepping.n stepping.host
    (host_with_node stepping.host (last_in_step stepping).node) refl is.there refl
ups_were_up script range {start} {before} {after} began (moments.LossIsUntold event made happened h) =
    same_up before after (ap (λ (m : EventOutcome). m.world.hosts) (sym h.made_so))
ups_were_up script range {start} {before} {after} began (moments.DeliveryIsUnread event made happened h) =
    same_up before after (ap (λ (m : EventOutcome). m.world.hosts) (sym h.made_so))
ups_were_up script range {start} {before} {after} began (moments.NodeIsLost event made happened h) =
    one_up before after h.n (lost_host h.host) (ap (λ (m : EventOutcome). m.world.hosts) (sym h.made_so)) (λ up. absurd (cc (up)))
ups_were_up script range {start} {before} {after} began (moments.NodeLeaves event made happened h) =
    same_up before after (ap (λ (m : EventOutcome). m.world.hosts) (sym h.made_so))
ups_were_up script range {start} {before} {after} began (moments.NodeIsReweighted event made happened h) =
    same_up before after (ap (λ (m : EventOutcome). m.world.hosts) (sym h.made_so))
ups_were_up script range {start} {before} {after} began (moments.NodeJoins event made happened h) =
    one_up before after h.n (joined_host script h.n) (ap (λ (m : EventOutcome). m.world.hosts) (sym h.made_so))
    (λ up. inr (record {
      begun = ap (λ (m : EventOutcome). epoch_of m.world.log) (sym h.made_so)
          ∙ epoch_more start.world.log (join_of script h.n (vnodes_of script)) refl;
      fresh = inl (next_fits script start.world (lines.Join h.n) h.control (together script range start.world began).fit).1;
    }))
ups_were_up script range {start} {before} {after} began (moments.NodeComesBack event made happened h) =
    let log = log_after_return script h.n start.world in
    let now = host_after_return log h.host in
    let there = ap (λ (m : EventOutcome). tree.get m.world.hosts h.n) (sym h.made_so) ∙ get-insert_same start.world.hosts h.n now in
    let follows = by_the_log script range.is_script range.room made.world (goes_on script event start.world made began happened) h.n now
    there in
    one_up before after h.n now (ap (λ (m : EventOutcome). m.world.hosts) (sym h.made_so))
    (λ up. inr (record {
      begun = ap (λ (m : EventOutcome). epoch_of m.world.log) (sym h.made_so)
          ∙ epoch_more start.world.log (join_of script h.n (last_weight start.world.log h.n)) refl;
      fresh = inr (follows.epoch_so ∙ ap epoch_of (step_reads (inputs.Back log) h.host.node)
          ∙ ap (λ (m : EventOutcome). epoch_of m.world.log) h.made_so);
    }))
ups_were_up script range {start} {before} {after} began (moments.PhaseEnds event made happened h) =
    same_up before after (ap (λ (m : EventOutcome). m.world.hosts) (sym h.made_so))
