-- Beside an open read of a session a node has no open create or write on its object: who may write an object is one session, of which no
-- two open works are on one object; and a snapshot nobody may write.
use Rattle.std.proofs.Common.{◌≡◌, ⊎_elim, ℕ, true, refl, sym, ap, ◌∙◌}
use Rattle.std.proofs.lemmas.Option.{same_Some}
use Rattle.object_id.specs.Oid.{vid_of}
use Rattle.disk_lock.specs.declared.holder.Holder.{Holder}
use Rattle.peer_proto.specs.Work.{oid_of}
use Rattle.vdi_directory.specs.Decisions.{log_effects}
use Rattle.overlap_law.specs.Grants.{writer_of}
use Rattle.overlap_law.specs.LastReads.{was_snapped, ReadsAreKnown, ReadsAreApart}
use Rattle.overlap_law.specs.Past.{MomentWithPast}
use Rattle.overlap_law.specs.Sessions.{SessionsWorkApart}
use Rattle.overlap_law.specs.Writers.{session_holder, IsMayWriteOf, WorksMayWrite}
use Rattle.overlap_law.proofs.ClosedSnapshots.{snapped-no_writer, on_snapshot}
use Rattle.overlap_law.proofs.ReadInMoments.{HostsAreSound}

pub reads_apart : (moment : MomentWithPast) → HostsAreSound moment → WorksMayWrite moment.world.log moment.world.hosts
    → SessionsWorkApart moment.world.hosts → ReadsAreKnown moment.world.log moment.world.hosts → ReadsAreApart moment.world.hosts
reads_apart moment sound writes apart known = record {
  each = λ n host there up req other work second are same making reads own.
      let log = moment.world.log in
      let first = writes.each n host there up req work are.first_one making in
      let writer = ap (λ (oid : ℕ). writer_of (log_effects log) (vid_of oid)) (sym same) ∙ first.may.writer in
      ⊎_elim
      (λ (next : IsMayWriteOf log n other second host.node).
      let session = ap (λ (h : Holder). h.session)
      (same_Some (session_holder n next.request.session) (session_holder n first.request.session) (sym next.may.writer ∙ writer)) in
      apart n host there up first.request.session req other work second first.request next.request are
      (record { first_one = first.there; second_one = next.there; first_of = refl; second_of = session }) same)
      (λ (snapped : was_snapped host.node.peer.entries (vid_of (oid_of second.work)) ≡ true).
      let on = on_snapshot log n host.node.me host.node.peer (sound.each n host there).read (vid_of (oid_of second.work)) snapped in
      snapped-no_writer log (vid_of (oid_of second.work)) (session_holder n first.request.session) on.snapped writer)
      (known.each n host there up other second are.second_one reads own);
}
