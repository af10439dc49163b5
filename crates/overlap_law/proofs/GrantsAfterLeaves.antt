-- Of whatever log: an id that a session of a node may write as the node leaves is another session's behind it only by a grant of the
-- leave's epoch or a later one.
use Rattle.std.proofs.Common.{◌≡◌, ⊎_elim, arith, ℕ, ◌≤◌, Bool, true, false, cond, List, [], ◌∷◌, ◌++◌, Some, refl, sym, ap, subst, ◌∙◌}
use Rattle.object_id.specs.declared.entry.Entry.{Entry}
use Rattle.object_id.specs.declared.entry.Entry.TheVariants.{Leave}
use Rattle.object_id.specs.declared.node.NodeId.{NodeId}
use Rattle.disk_lock.specs.declared.holder.Holder.{Holder}
use Rattle.epoch_log.specs.Epochs.{epoch_of}
use Rattle.vdi_directory.specs.declared.effect.Effect.{Effect}
use Rattle.vdi_directory.specs.Decisions.{outcome, log_effects}
use Rattle.vdi_directory.proofs.StateLemmas.{log_effects-push}
use Rattle.overlap_law.specs.Facts.{HeldAtTheLeave}
use Rattle.overlap_law.specs.Grants.{gives, granted_in, writer_of}
use Rattle.overlap_law.proofs.DatedEffects.{epoch_rises, last_epoch-push}
use Rattle.overlap_law.proofs.GrantedEpochs.{from_front}
use Rattle.overlap_law.proofs.LeavesAndGrants.{left_loses}
use Rattle.overlap_law.proofs.WriterChanges.{entry_gives_writer}

module _ (front : List Entry) (node : NodeId) (vid : ℕ) (holder : Holder) (may : writer_of (log_effects front) vid ≡ Some holder)
    (own : holder.node.0 ≡ node.0) where
  abbrev left : List Entry
  left = front ++ Leave node ∷ []

  record IsGrantedLater (log : List Entry) : Type 0 where
    since : epoch_of left ≤ epoch_of log
    later : (writer : Holder) → writer_of (log_effects log) vid ≡ Some writer → epoch_of left ≤ granted_in log vid

  -- as the node leaves nobody may write it
  as_it_leaves : IsGrantedLater left
  as_it_leaves = record {
    since = omega arith;
    later = λ writer is. ⊎_elim
        (λ (was : writer_of (log_effects front) vid ≡ Some writer).
        let same : Some holder ≡ Some writer = sym may ∙ was in
        let of_node : writer.node.0 ≡ node.0 = cc (same, own) in
        absurd (left_loses (log_effects front) vid node writer of_node
        (sym (ap (λ (all : List Effect). writer_of all vid) (log_effects-push front (Leave node))) ∙ is)))
        (λ (given : gives vid (outcome (log_effects front) (Leave node)).effect ≡ true). absurd (cc (given)))
        (entry_gives_writer front (Leave node) vid writer is);
  }

  next : (log : List Entry) (entry : Entry) → IsGrantedLater log → IsGrantedLater (log ++ entry ∷ [])
  next log entry is = record {
    since = let since = is.since in let rises = epoch_rises log entry in omega (arith, since, rises);
    later = λ writer now. by_gift writer now (gives vid does) refl;
  }
    where
      does : Effect
      does = (outcome (log_effects log) entry).effect

      granted : (b : Bool) → gives vid does ≡ b
          → granted_in (log ++ entry ∷ []) vid ≡ cond b (epoch_of (log ++ entry ∷ [])) (granted_in log vid)
      granted b it = last_epoch-push (gives vid) log entry
          ∙ ap (λ c. cond c (epoch_of (log ++ entry ∷ [])) (granted_in log vid)) it

      by_gift : (writer : Holder) → writer_of (log_effects (log ++ entry ∷ [])) vid ≡ Some writer → (b : Bool) → gives vid does ≡ b
          → epoch_of left ≤ granted_in (log ++ entry ∷ []) vid
      by_gift writer now true given =
          let newest = granted true given in
          let since = is.since in
          let rises = epoch_rises log entry in
          omega (arith, newest, since, rises)
      by_gift writer now false kept = ⊎_elim
          (λ (was : writer_of (log_effects log) vid ≡ Some writer).
          let most = is.later writer was in
          let same = granted false kept in
          omega (arith, most, same))
          (λ (given : gives vid does ≡ true). absurd (cc (given, kept)))
          (entry_gives_writer log entry vid writer now)

  granted_behind : (rest : List Entry) → IsGrantedLater (left ++ rest)
  granted_behind rest = from_front IsGrantedLater next left rest as_it_leaves

pub held_at_the_leave : (log : List Entry) → HeldAtTheLeave log
held_at_the_leave log front rest node vid holder writer is may own now =
    let same : log ≡ (front ++ Leave node ∷ []) ++ rest = is in
    subst (λ (l : List Entry). epoch_of (front ++ Leave node ∷ []) ≤ granted_in l vid) (sym same)
    ((granted_behind front node vid holder may own rest).later writer
    (subst (λ (l : List Entry). writer_of (log_effects l) vid ≡ Some writer) same now))
