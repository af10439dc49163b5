-- Where there is one writer, an attempt of the writer begins in its turn, if it does so among the attempts of its own session.
use Rattle.std.proofs.Common.{◌≡◌, ◌⊎◌, ⊎_elim, arith, ℕ, cond, List, Option, is_some, sym, ap, subst, ◌∙◌}
use Rattle.std.proofs.lemmas.Bool.{both_ways}
use Rattle.std.proofs.lemmas.Option.{same_Some}
use Rattle.object_id.specs.declared.entry.Entry.{Entry}
use Rattle.object_id.specs.Oid.{vid_of}
use Rattle.disk_lock.specs.declared.holder.Holder.{Holder}
use Rattle.epoch_log.specs.Epochs.{epoch_of}
use Rattle.overlap_law.specs.Attempts.{AttemptRecord, object_of}
use Rattle.overlap_law.specs.Packets.{Wire, message_name_at, is_name_in_wire}
use Rattle.overlap_law.specs.Fates.{AreInOrder}
use Rattle.overlap_law.specs.Grants.{granted_in}
use Rattle.overlap_law.specs.Traffic.{IsInTurn}
use Rattle.overlap_law.specs.Writers.{session_holder, bound_of, IsUnderTheGrant, HasEnded, IsFencedOff, ThereIsOneWriter, IsInOwnTurn}

module _ (log : List Entry) (wire : Wire) (attempts : List AttemptRecord) (attempt : AttemptRecord)
    (own : IsInOwnTurn log wire attempts attempt) where
  abbrev vid : ℕ
  vid = vid_of (object_of attempt)

  -- the bound is the epoch of the grant
  granted : bound_of log (vid_of (object_of attempt)) ≡ granted_in log (vid_of (object_of attempt))
  granted = ap (λ (o : Option Holder). cond (is_some o) (granted_in log (vid_of (object_of attempt))) (epoch_of log)) own.under.writer

  behind_ended : (other : AttemptRecord) → HasEnded wire other (bound_of log (vid_of (object_of attempt))) → AreInOrder wire other attempt
  behind_ended other ended =
      let before = ended.before in
      let since = own.under.since in
      let is = granted in
      record {
        epochs = omega (arith, before, since, is);
        flying = λ place target packet.
            absurd (both_ways (is_name_in_wire wire (message_name_at other place)) (ended.quiet.none place target packet.among)
            packet.there);
      }

  behind_fenced : (other : AttemptRecord) → IsFencedOff log other (bound_of log (vid_of (object_of attempt)))
      → AreInOrder wire other attempt
  behind_fenced other fenced =
      let before = fenced.before in
      let later = fenced.granted_later in
      let since = own.under.since in
      let is = granted in
      record { epochs = omega (arith, before, later, since, is); flying = λ place target packet. omega (arith, before, later, since, is) }

  pub writer_in_turn : ThereIsOneWriter log wire attempts → IsInTurn wire attempts attempt
  writer_in_turn one j other got same =
      let id : vid_of (object_of other) ≡ vid_of (object_of attempt) = ap vid_of same in
      ⊎_elim
      (λ (under : IsUnderTheGrant log other (vid_of (object_of attempt))).
      let writer : session_holder other.gateway.0 other.session ≡ session_holder attempt.gateway.0 attempt.session
      = same_Some (session_holder other.gateway.0 other.session) (session_holder attempt.gateway.0 attempt.session)
      (sym under.writer ∙ own.under.writer) in
      own.behind j other got same (ap (λ (h : Holder). h.node.0) writer) (ap (λ (h : Holder). h.session) writer) under.since)
      (λ (past : HasEnded wire other (bound_of log (vid_of (object_of attempt)))
      ⊎ IsFencedOff log other (bound_of log (vid_of (object_of attempt)))).
      ⊎_elim (behind_ended other) (behind_fenced other) past)
      (subst (λ (v : ℕ). IsUnderTheGrant log other v ⊎ (HasEnded wire other (bound_of log v) ⊎ IsFencedOff log other (bound_of log v))) id
      (one.each j other got))
