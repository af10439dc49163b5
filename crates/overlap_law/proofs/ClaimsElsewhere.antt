-- An entry that isn't the node's own, and takes nothing from its sessions, leaves what their works rest on: another node's, and that of a
-- member that leaves, joins or gets another weight.
use Rattle.std.proofs.Common.{◌≡◌, ◌≢◌, inl, inr, ⊎_elim, ℕ, ◌==◌, Bool, true, false, ◌&&◌, ◌||◌, List, [], ◌∷◌, ◌++◌, Option, Some, refl}
use Rattle.std.proofs.Common.{sym, ap, subst, ◌∙◌}
use Rattle.std.proofs.lemmas.Bool.{eqb-true, ne_eqb}
use Rattle.std.proofs.lemmas.Option.{same_Some}
use Rattle.std.specs.FinMap as tree
use Rattle.object_id.specs.declared.entry.Entry.{Entry}
use Rattle.object_id.specs.declared.entry.Entry.TheVariants.{Format, Join, Leave, Reweight, Recovered, Reserve, Publish, Clone, Snapshot}
use Rattle.object_id.specs.declared.entry.Entry.TheVariants.{Delete, Lock, Unlock}
use Rattle.object_id.specs.declared.node.NodeId.{NodeId}
use Rattle.object_id.specs.declared.oid.Vid.{Vid}
use Rattle.disk_lock.specs.declared.holder.Holder.{Holder}
use Rattle.vdi_directory.specs.declared.effect.Effect.{Effect}
use Rattle.epoch_log.specs.Epochs.{epoch_of}
use Rattle.vdi_directory.specs.Decisions.{log_effects}
use Rattle.vdi_ops.specs.Op.{OpStage, Asked, Working, Publishing, Answered, Op}
use Rattle.sheep_node.specs.declared.course.Course.TheVariants.{Commanding}
use Rattle.sheep_node.specs.declared.course.Request.{Request}
use Rattle.sheep_node.specs.OwnEntries.{IsEntryOf}
use Rattle.overlap_law.specs.AwaitedEntries.{IsSessionsEntry, IsSessionsStage, IsSessionsCommand}
use Rattle.overlap_law.specs.CommandDisks.{opened_in}
use Rattle.overlap_law.specs.Grants.{writer_of, may_take_writer}
use Rattle.overlap_law.specs.WriterClaims.{holder_at, IsGivenNoMore, HasClaims}
use Rattle.overlap_law.proofs.AwaitedChanges.{Requests}
use Rattle.overlap_law.proofs.ClaimChanges.{Sessions}
use Rattle.overlap_law.proofs.ClaimTransport.{TakesNone, GivesStage, GivesReplaced, stage_on, disk_on}
use Rattle.overlap_law.proofs.KeptIds.{no_more_stays, not_taken, yet-writer, yet_stays}
use Rattle.overlap_law.proofs.WriterChanges.{entry_keeps_writer}

-- a session's entry is its node's
nodes_entry : (known : List Effect) (me : NodeId) (session : ℕ) (entry : Entry) → IsSessionsEntry known me session entry
    → IsEntryOf me entry
nodes_entry known me session (Format members) is = absurd is
nodes_entry known me session (Join node zone vnodes) is = absurd is
nodes_entry known me session (Leave node) is = absurd is
nodes_entry known me session (Reweight node vnodes) is = absurd is
nodes_entry known me session (Recovered node epoch) is = absurd is
nodes_entry known me session (Reserve by of name origin) is = is.0
nodes_entry known me session (Publish by vid) is = is.0
nodes_entry known me session (Clone by vid) is = is.0
nodes_entry known me session (Snapshot by old vid) is = is.0
nodes_entry known me session (Delete by of name tag) is = is.0
nodes_entry known me session (Lock by of name tag) is = is.0
nodes_entry known me session (Unlock by of vid) is = is.0

-- an entry is one node's
pub one_nodes : (one other : NodeId) (entry : Entry) → IsEntryOf one entry → IsEntryOf other entry → one ≡ other
one_nodes one other (Format members) is too = absurd is
one_nodes one other (Join node zone vnodes) is too = absurd is
one_nodes one other (Leave node) is too = absurd is
one_nodes one other (Reweight node vnodes) is too = absurd is
one_nodes one other (Recovered node epoch) is too = sym is ∙ too
one_nodes one other (Reserve by of name origin) is too = sym is ∙ too
one_nodes one other (Publish by vid) is too = sym is ∙ too
one_nodes one other (Clone by vid) is too = sym is ∙ too
one_nodes one other (Snapshot by old vid) is too = sym is ∙ too
one_nodes one other (Delete by of name tag) is too = sym is ∙ too
one_nodes one other (Lock by of name tag) is too = sym is ∙ too
one_nodes one other (Unlock by of vid) is too = sym is ∙ too

-- an entry takes nothing from a node's sessions
abbrev pub Spares : List Entry → NodeId → Entry → Type 0
Spares log me last =
    (session vid : ℕ) → writer_of (log_effects log) vid ≡ Some (holder_at me session) → may_take_writer vid (holder_at me session) last
    ≡ false

module _ (log : List Entry) (last : Entry) (outbox read : List Entry) (from : ℕ) (me : NodeId) (requests : Requests) (sessions : Sessions)
    (has : HasClaims log outbox read from me requests sessions) (spares : Spares log me last) (strange : IsEntryOf me last → ⊥)
    (commands_own : (req : ℕ) (request : Request) (op : Op) → tree.get requests req ≡ Some request → request.course ≡ Commanding op
    → IsSessionsCommand (log_effects read) me request.session op) where
  none_taken : (session : ℕ) → TakesNone log outbox me session last
  none_taken session vid writer kept = spares session vid writer

  module _ (session : ℕ) (opened : Option (Bool × ℕ)) where
    strange_published : (entry : Entry) → IsSessionsEntry (log_effects read) me session entry
        → GivesReplaced log outbox read from me session last (none_taken session) opened entry
    strange_published (Format members) own = tt
    strange_published (Join node zone vnodes) own = tt
    strange_published (Leave node) own = tt
    strange_published (Reweight node vnodes) own = tt
    strange_published (Recovered node epoch) own = tt
    strange_published (Reserve by of name origin) own = tt
    strange_published (Publish by of) own = tt
    strange_published (Clone by of) own = tt
    strange_published (Snapshot by old of) own = λ same. absurd (strange (subst (IsEntryOf me) (sym same) own.0))
    strange_published (Delete by of name tag) own = tt
    strange_published (Lock by of name tag) own = tt
    strange_published (Unlock by of id) own = tt

    strange_gives : (stage : OpStage) → IsSessionsStage (log_effects read) me session stage
        → GivesStage log outbox read from me session last (none_taken session) opened stage
    strange_gives (Asked wanted) own =
        λ same vid granted. absurd (strange (subst (IsEntryOf me) (sym same) (nodes_entry (log_effects read) me session wanted own)))
    strange_gives (Working vid task) own = tt
    strange_gives (Publishing entry made) own = strange_published entry own
    strange_gives (Answered change) own = tt

  pub elsewhere_kept : HasClaims (log ++ last ∷ []) outbox read from me requests sessions
  elsewhere_kept = record {
    unlocked = λ session vid there. ⊎_elim
        (λ (gone : IsGivenNoMore log vid). inl (no_more_stays log last vid gone))
        (λ writes. inr (
          entry_keeps_writer log last vid (holder_at me session) writes.0
              (not_taken log last vid (holder_at me session) writes.0 (spares session vid writes.0)),
          writes.1,
        ))
        (has.unlocked session vid there);
    commands = λ req request op there command.
        stage_on log outbox read from me request.session last (none_taken request.session) (opened_in request.session sessions) op.stage
        (strange_gives request.session (opened_in request.session sessions) op.stage (commands_own req request op there command).stage)
        (has.commands req request op there command);
    disks = λ session disk opened.
        disk_on log outbox read from me session last (none_taken session) requests disk.snapshot disk.inode (has.disks session disk opened);
    held_yet = λ session disk opened working there.
        let yet = has.held_yet session disk opened working there in
        yet_stays log me session (epoch_of read) disk.inode.vid yet last
        (spares session disk.inode.vid (yet-writer log me session (epoch_of read) disk.inode.vid yet));
  }

-- ---- which entries spare a node's sessions

pub leave_spares : (log : List Entry) (me node : NodeId) → me.0 ≢ node.0 → Spares log me (Leave node)
leave_spares log me node apart session vid writer = ne_eqb me.0 node.0 apart

-- an entry that another node puts isn't this one's
by_node : (me other : NodeId) → me.0 ≢ other.0 → (by : NodeId) → by ≡ other → (b : Bool) → (b && by.0 == me.0) ≡ false
by_node me other apart by own true = ne_eqb by.0 me.0 (λ same. apart (sym same ∙ ap (λ (n : NodeId). n.0) own))
by_node me other apart by own false = refl

-- another node's, whose snapshots are of disks that its own sessions have locked
pub other_spares : (log : List Entry) (me other : NodeId) → me.0 ≢ other.0 → (last : Entry) → IsEntryOf other last
    → ((by : NodeId) (old vid : Vid) → last ≡ Snapshot by old vid → (session : ℕ)
    × (writer_of (log_effects log) old.0 ≡ Some (holder_at other session)))
    → Spares log me last
other_spares log me other apart (Format members) own snaps session vid writer = absurd own
other_spares log me other apart (Join node zone vnodes) own snaps session vid writer = absurd own
other_spares log me other apart (Leave node) own snaps session vid writer = absurd own
other_spares log me other apart (Reweight node vnodes) own snaps session vid writer = absurd own
other_spares log me other apart (Recovered node epoch) own snaps session vid writer = refl
other_spares log me other apart (Reserve by of name origin) own snaps session vid writer = refl
other_spares log me other apart (Publish by of) own snaps session vid writer = by_node me other apart by own (of.0 == vid)
other_spares log me other apart (Clone by of) own snaps session vid writer = by_node me other apart by own (of.0 == vid)
other_spares log me other apart (Snapshot by old of) own snaps session vid writer = by_disk (old.0 == vid) refl
  where
    by_disk : (b : Bool) → (old.0 == vid) ≡ b → may_take_writer vid (holder_at me session) (Snapshot by old of) ≡ false
    by_disk true same =
        let (theirs, writes) = snaps by old of refl in
        let one : Some (holder_at me session) ≡ Some (holder_at other theirs)
        = sym writer ∙ ap (writer_of (log_effects log)) (sym (eqb-true old.0 vid same)) ∙ writes in
        absurd (apart (ap (λ (h : Holder). h.node.0) (same_Some (holder_at me session) (holder_at other theirs) one)))
    by_disk false away = λ i. away i || by_node me other apart by own (of.0 == vid) i
other_spares log me other apart (Delete by of name tag) own snaps session vid writer = refl
other_spares log me other apart (Lock by of name tag) own snaps session vid writer = refl
other_spares log me other apart (Unlock by of id) own snaps session vid writer = by_holder (id.0 == vid)
  where
    by_holder : (b : Bool) → (b && (me.0 == by.0 && session == of)) ≡ false
    by_holder true = λ i. ne_eqb me.0 by.0 (λ same. apart (same ∙ ap (λ (n : NodeId). n.0) own)) i && session == of
    by_holder false = refl
