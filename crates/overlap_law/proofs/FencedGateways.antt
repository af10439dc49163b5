-- That lost gateways are fenced: what of their attempts still flies is of an epoch before their leave, and the next grant isn't.
use Rattle.std.proofs.Common.{◌≡◌, ◌⊎◌, inl, inr, ⊎_elim, arith, ℕ, suc, ◌+◌, ◌<◌, ◌≤◌, true, false, cond, List, [], ◌∷◌}
use Rattle.std.proofs.Common.{length, Option, Some, is_some, slice_get, refl, sym, ap, subst, ◌∙◌}
use Rattle.std.specs.List.{list_any}
use Rattle.std.proofs.lemmas.Bool.{cases_lt}
use Rattle.std.proofs.lemmas.Option.{same_Some}
use Rattle.object_id.specs.declared.entry.Entry.{Entry}
use Rattle.object_id.specs.declared.node.NodeId.{NodeId}
use Rattle.object_id.specs.Oid.{vid_of}
use Rattle.disk_lock.specs.declared.holder.Holder.{Holder}
use Rattle.epoch_log.specs.Epochs.{epoch_of}
use Rattle.vdi_directory.specs.Decisions.{log_effects}
use Rattle.overlap_law.specs.Attempts.{MessageFate, Flying, Served, Doomed, AttemptRecord, object_of}
use Rattle.overlap_law.specs.Facts.{is_flying, flies, LostGatewaysAreFenced}
use Rattle.overlap_law.specs.Flight.{RequestsAreOfThePast, TheGoneAreFenced}
use Rattle.overlap_law.specs.Each.{EachAttempt}
use Rattle.overlap_law.proofs.GrantsAfterLeaves.{held_at_the_leave}
use Rattle.overlap_law.specs.Grants.{leave_of, writer_of, granted_in}
use Rattle.overlap_law.specs.Packets.{Wire, IsQuiet, IsAsking, message_name_at, message_request_at, is_name_in_wire}
use Rattle.overlap_law.specs.TiedAttempts.{AttemptsAreTied}
use Rattle.overlap_law.specs.Words.{Hosts}
use Rattle.overlap_law.specs.Writers.{session_holder, bound_of, IsUnderTheGrant, HasEnded, IsFencedOff, ThereIsOneWriter}
use Rattle.overlap_law.proofs.GoneInRuns.{AllFenced}
use Rattle.overlap_law.proofs.LeavesAndGrants.{grants_are_later}
use Rattle.overlap_law.proofs.OverlapLemmas.{gone-fenced}

-- a message that flies, with its target
flying_at : (targets : List NodeId) (fates : List MessageFate) → length fates ≡ length targets → list_any is_flying fates ≡ true
    → (place : ℕ) × (target : NodeId) × (slice_get targets place ≡ Some target) × (slice_get fates place ≡ Some Flying)
flying_at targets [] long flies_one = absurd (cc (flies_one))
flying_at [] (fate ∷ fates) long flies_one = absurd (cc (long))
flying_at (target ∷ targets) (Flying ∷ fates) long flies_one = (0, target, refl, refl)
flying_at (target ∷ targets) (Served ∷ fates) long flies_one =
    let rest = flying_at targets fates (cc (long)) flies_one in (suc rest.0, rest.1, rest.2, rest.3)
flying_at (target ∷ targets) (Doomed ∷ fates) long flies_one =
    let rest = flying_at targets fates (cc (long)) flies_one in (suc rest.0, rest.1, rest.2, rest.3)

module _ {log : List Entry} {hosts : Hosts} {wire : Wire} {attempts : List AttemptRecord} (tied : AttemptsAreTied hosts wire attempts)
    (past : RequestsAreOfThePast hosts wire) (fenced : TheGoneAreFenced log hosts wire) (all : AllFenced log hosts)
    (writer : ThereIsOneWriter log wire attempts) where
  module _ (j : ℕ) (attempt : AttemptRecord) (there : slice_get attempts j ≡ Some attempt) (flying : flies attempt ≡ true) where
    abbrev vid : ℕ
    vid = vid_of (object_of attempt)

    message : (place : ℕ) × (target : NodeId) × (slice_get attempt.targets place ≡ Some target)
        × (slice_get attempt.fates place ≡ Some Flying)
    message = flying_at attempt.targets attempt.fates (tied.fates.whole j attempt there) flying

    asking : IsAsking wire (message_name_at attempt message.0) message.1 (message_request_at attempt message.0)
    asking = tied.fates.each j attempt there message.0 message.1 Flying message.2 message.3

    -- so the attempt isn't quiet
    loud : IsQuiet wire attempt → ⊥
    loud quiet =
        let none : is_name_in_wire wire (message_name_at attempt message.0) ≡ false = quiet.none message.0 message.1 message.2 in
        let one : is_name_in_wire wire (message_name_at attempt message.0) ≡ true = ap is_some asking.there in
        cc (none, one)

    module _ (left : ℕ) (leave : leave_of log attempt.gateway.0 attempt.incarnation ≡ Some left) where
      -- it is of an epoch before the leave of its gateway
      early : attempt.epoch < left
      early =
          let (host, at) = tied.there.each j attempt there in
          ⊎_elim
          (λ (before : attempt.incarnation < host.incarnation). absurd (loud (tied.incarnations.earlier j attempt there host at before)))
          (λ (from : host.incarnation ≤ attempt.incarnation).
          let began : attempt.incarnation ≤ host.incarnation = tied.incarnations.began j attempt there host at in
          let same : attempt.incarnation ≡ host.incarnation = omega (arith, from, began) in
          let left_now = subst (λ (i : ℕ). leave_of log attempt.gateway.0 i ≡ Some left) same leave in
          let below = (all.each attempt.gateway.0 host at).before left left_now in
          let asked : attempt.epoch ≤ host.node.peer.epoch
          = past.flying attempt.gateway.0 host at (attempt.first + message.0) message.1 (message_request_at attempt message.0) asking in
          omega (arith, below, asked))
          (cases_lt attempt.incarnation host.incarnation)

      -- and the present writer has its grant by an entry behind the leave
      granted : (holder : Holder) → writer_of (log_effects log) vid ≡ Some holder → left ≤ granted_in log vid
      granted holder may = by_writer (writer.each j attempt there)
        where
          by_writer : IsUnderTheGrant log attempt vid
              ⊎ (HasEnded wire attempt (bound_of log vid) ⊎ IsFencedOff log attempt (bound_of log vid))
              → left ≤ granted_in log vid
          by_writer (inl under) =
              grants_are_later log vid attempt.incarnation left (session_holder attempt.gateway.0 attempt.session) under.writer leave
          by_writer (inr (inl ended)) = absurd (loud ended.quiet)
          by_writer (inr (inr off)) =
              let same : off.left ≡ left = same_Some off.left left (sym off.leave ∙ leave) in
              let bound : bound_of log vid ≡ granted_in log vid
              = ap (λ (o : Option Holder). cond (is_some o) (granted_in log vid) (epoch_of log)) may in
              let most = off.granted_later in
              omega (arith, same, bound, most)

  pub lost_gateways : EachAttempt attempts (λ j attempt. (left : ℕ) → leave_of log attempt.gateway.0 attempt.incarnation ≡ Some left
      → attempt.epoch < left)
      → LostGatewaysAreFenced log hosts wire attempts
  lost_gateways before_leave = record {
    messages = gone-fenced log hosts wire fenced;
    early = before_leave;
    held = held_at_the_leave log;
    grants = λ j attempt there left holder flying leave may. granted j attempt there flying left leave holder may;
    later = λ j attempt there k other at left holder flying leave may under.
        let one = early j attempt there flying left leave in
        let two = granted j attempt there flying left leave holder may in
        let three = under.since in
        omega (arith, one, two, three);
  }
