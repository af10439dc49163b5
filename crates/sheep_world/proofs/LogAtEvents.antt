-- Each event leaves the log a log, whose members are the nodes that are there.
use Rattle.std.proofs.Common.{◌≡◌, ◌≢◌, ◌⊎◌, inl, inr, ⊎_elim, ℕ, ◌-◌, ◌^◌, ◌<◌, ◌≤◌, ◌==◌, Bool, true, false, ◌||◌, cond, List, [], ◌∷◌, ◌++◌, length, Option, Some, None, is_some, refl, sym, ap, subst, ◌∙◌}
use Rattle.std.specs.Option.{option_map_or}
use Rattle.std.specs.FinMap as tree
use Rattle.std.proofs.lemmas.Bool.{eq-eqb, or_cases}
use Rattle.std.proofs.lemmas.Option.{same_Some}
use Rattle.object_id.specs.declared.entry.Entry.{Entry}
use Rattle.object_id.specs.declared.entry.Entry.TheVariants as entries
use Rattle.object_id.specs.declared.entry.Member.{Member}
use Rattle.object_id.specs.Node.{IsWeight}
use Rattle.epoch_log.specs.Members.{is_member_node, is_member}
use Rattle.epoch_log.specs.Epochs.{epoch_of, members_in}
use Rattle.epoch_log.specs.Appending.{IsLog}
use Rattle.epoch_log.proofs.MembersLemmas.{IsLog-some, IsLog-push}
use Rattle.cluster_script.specs.declared.statement.Statement.{Statement}
use Rattle.cluster_script.specs.declared.statement.Statement.TheVariants as lines
use Rattle.cluster_script.specs.Settings.{vnodes_of, zone_of}
use Rattle.sheep_node.specs.declared.event.Event.{Event}
use Rattle.sheep_world.specs.World.{Host, World, host_at, is_lost}
use Rattle.sheep_world.specs.MembershipChanges.{lost_host, join_of, last_weight}
use Rattle.sheep_world.specs.Step.{EventOutcome}
use Rattle.sheep_world.specs.NodeCauses.{NodeCause, GuestAsks, RequestComes, ReplyComes, LossIsTold, EntryIsRead, EntryIsPut, RecoveryTicks, WorkIsRetried, ClientAsks, IsCause, log_after_cause}
use Rattle.sheep_world.specs.EventKinds.{log_after_return, EventKind, NodeStep, UntoldLoss, UnreadDelivery, NodeLoss, NodeLeave, NodeReweight, NodeJoin, NodeReturn, PhaseEnd}
use Rattle.sheep_world.specs.HostChanges.{host_after_step, host_after_return, joined_host, HostChange, Stays, Steps, IsLost, ComesBack, Joins}
use Rattle.sheep_world.specs.ControlsToCome.{has_host, ControlsFit}
use Rattle.sheep_node.specs.PuttableEntries.{IsPuttable}
use Rattle.sheep_world.proofs.PuttableEntries.{EachPuts}
use Rattle.sheep_world.specs.LogHolds.{is_member_now, IsWell, LogHolds}
use Rattle.sheep_world.proofs.HostChangeLaws.{became}
use Rattle.sheep_world.proofs.ControlLaws.{next_fits, seated_now}
use Rattle.sheep_world.proofs.MembersOfLog.{member-members_with, member-members_reweighted, member-members_without, member-before, now-plain, now-begun, weight-more, weight-plain, fits-plain}

or_right : (a b : Bool) → b ≡ true → (a || b) ≡ true
or_right true b is = refl
or_right false b is = is

or_left : (a b : Bool) → a ≡ true → (a || b) ≡ true
or_left true b is = refl
or_left false b is = absurd (cc (is))

-- ---- what one entry more makes of a log that holds

module _ (log : List Entry) (some : 1 ≤ length log) (q : ℕ) (lost : Bool) where
  well_plain : (entry : Entry) → IsPuttable entry → IsWell log q lost → IsWell (log ++ entry ∷ []) q lost
  well_plain entry puttable well = record {
    below = well.below;
    weight = subst IsWeight (sym (weight-more log entry q ∙ weight-plain q (last_weight log q) entry puttable.later puttable.plain)) well.weight;
    stands = λ up. now-plain log entry q some puttable.plain ∙ well.stands up;
  }

  -- a member leaves, who isn't one that stands
  well_left : (n : ℕ) → (lost ≡ false → n ≢ q) → IsWell log q lost → IsWell (log ++ entries.Leave (record { 0 = n }) ∷ []) q lost
  well_left n apart well =
      let entry : Entry = entries.Leave (record { 0 = n }) in
      record {
        below = well.below;
        weight = subst IsWeight (sym (weight-more log entry q)) well.weight;
        stands = λ up.
            now-begun log entry q some refl ∙ member-members_without q n (members_in log (epoch_of log)) (apart up) ∙ well.stands up;
      }

  weight_if : (b : Bool) (vnodes : ℕ) → IsWeight vnodes → IsWeight (last_weight log q) → IsWeight (cond b vnodes (last_weight log q))
  weight_if true vnodes new old = new
  weight_if false vnodes new old = old

  well_weighed : (n vnodes : ℕ) → IsWeight vnodes → IsWell log q lost → IsWell (log ++ entries.Reweight (record { 0 = n }) vnodes ∷ []) q lost
  well_weighed n vnodes weight well =
      let entry : Entry = entries.Reweight (record { 0 = n }) vnodes in
      record {
        below = well.below;
        weight = subst IsWeight (sym (weight-more log entry q)) (weight_if (n == q) vnodes weight well.weight);
        stands = λ up. now-begun log entry q some refl ∙ member-members_reweighted q n vnodes (members_in log (epoch_of log)) ∙ well.stands up;
      }

  well_joined : (n zone vnodes : ℕ) → IsWeight vnodes → IsWell log q lost → IsWell (log ++ entries.Join (record { 0 = n }) zone vnodes ∷ []) q lost
  well_joined n zone vnodes weight well =
      let entry : Entry = entries.Join (record { 0 = n }) zone vnodes in
      let member : Member = record { node = record { 0 = n }; zone = zone; vnodes = vnodes } in
      record {
        below = well.below;
        weight = subst IsWeight (sym (weight-more log entry q)) (weight_if (n == q) vnodes weight well.weight);
        stands = λ up.
            now-begun log entry q some refl ∙ member-members_with q member (members_in log (epoch_of log))
            ∙ or_right (is_member_node q member) (is_member q (members_in log (epoch_of log))) (well.stands up);
      }

  -- who joins is a member, with that weight
  well_new : (zone vnodes : ℕ) → q < 64 → IsWeight vnodes → IsWell (log ++ entries.Join (record { 0 = q }) zone vnodes ∷ []) q false
  well_new zone vnodes below weight =
      let entry : Entry = entries.Join (record { 0 = q }) zone vnodes in
      let member : Member = record { node = record { 0 = q }; zone = zone; vnodes = vnodes } in
      record {
        below = below;
        weight =
            subst IsWeight (sym (weight-more log entry q ∙ ap (λ (b : Bool). cond b vnodes (last_weight log q)) (eq-eqb q q refl))) weight;
        stands = λ up.
            now-begun log entry q some refl ∙ member-members_with q member (members_in log (epoch_of log))
            ∙ or_left (is_member_node q member) (is_member q (members_in log (epoch_of log))) (eq-eqb q q refl);
      }

-- ---- each event

module _ (statements : List Statement) (weighs : IsWeight (vnodes_of statements)) (event : Event) (world : World) (made : EventOutcome)
    (puts : EachPuts world) (room : epoch_of world.log < 2 ^ 32 - 1) (fit : ControlsFit statements world) (holds : LogHolds world) where
  some : 1 ≤ length world.log
  some = IsLog-some world.log holds.log

  -- a node with a host that isn't lost
  abbrev Standing : ℕ → Type 0
  Standing n = (host : Host) × (tree.get world.hosts n ≡ Some host) × (host.is_lost ≡ false)

  standing : (n : ℕ) → has_host world n ≡ true → is_lost n world ≡ false → Standing n
  standing n = by_host (host_at n world) refl
    where
      by_host : (o : Option Host) → host_at n world ≡ o → is_some o ≡ true → option_map_or (λ (host : Host). host.is_lost) o false ≡ false → Standing n
      by_host None at there up = absurd (cc (there))
      by_host (Some host) at there up = (host, at, up)

  -- the members are seated, so who isn't is none
  no_member : (n : ℕ) → has_host world n ≡ false → is_member_now world.log n ≡ false
  no_member n none = by_member (is_member_now world.log n) refl
    where
      by_member : (b : Bool) → is_member_now world.log n ≡ b → is_member_now world.log n ≡ false
      by_member true is = absurd (cc (none, holds.seated n is))
      by_member false is = is

  put_log : (n : ℕ) (host : Host) (cause : NodeCause) → tree.get world.hosts n ≡ Some host → IsCause statements world n host cause
      → IsLog (log_after_cause cause world.log)
  put_log n host (GuestAsks session req ask) there so = holds.log
  put_log n host (RequestComes name to request) there so = holds.log
  put_log n host (ReplyComes name from rsp) there so = holds.log
  put_log n host (LossIsTold name packet) there so = holds.log
  put_log n host (EntryIsRead entry) there so = holds.log
  put_log n host (EntryIsPut entry) there (later, first) =
      let puttable = puts n host entry later there first in
      IsLog-push world.log entry holds.log (record {
        later = puttable.later;
        reservable = puttable.reservable;
        fits = fits-plain (members_in world.log (epoch_of world.log)) entry puttable.plain;
        room = room;
      })
  put_log n host RecoveryTicks there so = holds.log
  put_log n host WorkIsRetried there so = holds.log
  put_log n host (ClientAsks req ask) there so = holds.log

  log_after : EventKind statements event world made → IsLog made.world.log
  log_after (NodeStep h) = subst (λ (m : EventOutcome). IsLog m.world.log) h.made_so (put_log h.n h.host h.cause h.there h.caused)
  log_after (UntoldLoss h) = subst (λ (m : EventOutcome). IsLog m.world.log) h.made_so holds.log
  log_after (UnreadDelivery h) = subst (λ (m : EventOutcome). IsLog m.world.log) h.made_so holds.log
  log_after (NodeLoss h) = subst (λ (m : EventOutcome). IsLog m.world.log) h.made_so holds.log
  log_after (NodeLeave h) =
      subst (λ (m : EventOutcome). IsLog m.world.log) h.made_so
      (IsLog-push world.log (entries.Leave (record { 0 = h.n })) holds.log
      (record { later = refl; reservable = tt; fits = h.member; room = room }))
  log_after (NodeReweight h) =
      let fits = next_fits statements world (lines.Reweight h.n h.vnodes) h.control fit in
      let (host, there, up) = standing h.n fits.0 fits.1 in
      subst (λ (m : EventOutcome). IsLog m.world.log) h.made_so
      (IsLog-push world.log (entries.Reweight (record { 0 = h.n }) h.vnodes) holds.log
      (record { later = refl; reservable = tt; fits = (fits.2, (holds.well h.n host there).stands up); room = room }))
  log_after (NodeJoin h) =
      let fits = next_fits statements world (lines.Join h.n) h.control fit in
      subst (λ (m : EventOutcome). IsLog m.world.log) h.made_so
      (IsLog-push world.log (join_of statements h.n (vnodes_of statements)) holds.log
      (record { later = refl; reservable = tt; fits = (fits.0, weighs, no_member h.n fits.1); room = room }))
  log_after (NodeReturn h) =
      let well = holds.well h.n h.host h.there in
      subst (λ (m : EventOutcome). IsLog m.world.log) h.made_so
      (IsLog-push world.log (join_of statements h.n (last_weight world.log h.n)) holds.log
      (record { later = refl; reservable = tt; fits = (well.below, well.weight, h.no_member); room = room }))
  log_after (PhaseEnd h) = subst (λ (m : EventOutcome). IsLog m.world.log) h.made_so holds.log

  module _ (q : ℕ) (host : Host) (there : tree.get world.hosts q ≡ Some host) where
    abbrev WellAfter : EventOutcome → Type 0
    WellAfter m = IsWell m.world.log q host.is_lost

    well : IsWell world.log q host.is_lost
    well = holds.well q host there

    by_cause : (n : ℕ) (by : Host) (cause : NodeCause) → tree.get world.hosts n ≡ Some by → IsCause statements world n by cause
        → IsWell (log_after_cause cause world.log) q host.is_lost
    by_cause n by (GuestAsks session req ask) at so = well
    by_cause n by (RequestComes name to request) at so = well
    by_cause n by (ReplyComes name from rsp) at so = well
    by_cause n by (LossIsTold name packet) at so = well
    by_cause n by (EntryIsRead entry) at so = well
    by_cause n by (EntryIsPut entry) at (later, first) = well_plain world.log some q host.is_lost entry (puts n by entry later at first) well
    by_cause n by RecoveryTicks at so = well
    by_cause n by WorkIsRetried at so = well
    by_cause n by (ClientAsks req ask) at so = well

    -- a host that was there is so by the new log
    still_well : EventKind statements event world made → WellAfter made
    still_well (NodeStep h) = subst WellAfter h.made_so (by_cause h.n h.host h.cause h.there h.caused)
    still_well (UntoldLoss h) = subst WellAfter h.made_so well
    still_well (UnreadDelivery h) = subst WellAfter h.made_so well
    still_well (NodeLoss h) = subst WellAfter h.made_so well
    still_well (NodeLeave h) =
        subst WellAfter h.made_so (well_left world.log some q host.is_lost h.n
        (λ (up : host.is_lost ≡ false) (own : h.n ≡ q).
        let same : h.host ≡ host = same_Some h.host host (sym h.there ∙ ap (tree.get world.hosts) own ∙ there) in
        absurd (cc (sym h.lost ∙ ap (λ (s : Host). s.is_lost) same ∙ up)))
        well)
    still_well (NodeReweight h) =
        subst WellAfter h.made_so
        (well_weighed world.log some q host.is_lost h.n h.vnodes
        (next_fits statements world (lines.Reweight h.n h.vnodes) h.control fit).2 well)
    still_well (NodeJoin h) =
        subst WellAfter h.made_so (well_joined world.log some q host.is_lost h.n (zone_of statements h.n) (vnodes_of statements) weighs well)
    still_well (NodeReturn h) =
        subst WellAfter h.made_so
        (well_joined world.log some q host.is_lost h.n (zone_of statements h.n) (last_weight world.log h.n)
        (holds.well h.n h.host h.there).weight well)
    still_well (PhaseEnd h) = subst WellAfter h.made_so well

  well_by : EventKind statements event world made → (q : ℕ) (host : Host) → HostChange statements world made.world q host → IsWell made.world.log q host.is_lost
  well_by h q host (Stays there) = still_well q host there h
  well_by h q host (Steps s) =
      subst (λ (host : Host). IsWell made.world.log q host.is_lost) s.host_so (still_well q s.old s.there h)
  well_by h q host (IsLost f) =
      let was = still_well q f.old f.there h in
      subst (λ (host : Host). IsWell made.world.log q host.is_lost) f.host_so
      (record { below = was.below; weight = was.weight; stands = λ up. absurd (cc (up)) })
  well_by h q host (ComesBack r) =
      let was = holds.well q r.old r.there in
      subst (λ (w : World). IsWell w.log q host.is_lost) r.world_so
      (subst (λ (host : Host). IsWell (log_after_return statements q world) q host.is_lost) r.host_so
      (well_new world.log some q false (zone_of statements q) (last_weight world.log q) was.below was.weight))
  well_by h q host (Joins j) =
      subst (λ (w : World). IsWell w.log q host.is_lost) j.world_so
      (subst (λ (host : Host). IsWell (world.log ++ join_of statements q (vnodes_of statements) ∷ []) q host.is_lost) j.host_so
      (well_new world.log some q false (zone_of statements q) (vnodes_of statements)
      (next_fits statements world (lines.Join q) j.control fit).0 weighs))

  -- who has a host keeps one, and each member has one
  module _ (q : ℕ) where
    abbrev SeatedAfter : EventOutcome → Type 0
    SeatedAfter m = has_host m.world q ≡ true

    with_one : (n : ℕ) (new : Host) → has_host world q ≡ true → is_some (tree.get (tree.insert world.hosts n new) q) ≡ true
    with_one n new is = seated_now world.hosts n new q ∙ or_left (has_host world q) (n == q) is

    with_own : (n : ℕ) (new : Host) → (n == q) ≡ true → is_some (tree.get (tree.insert world.hosts n new) q) ≡ true
    with_own n new own = seated_now world.hosts n new q ∙ or_right (has_host world q) (n == q) own

    was_member : (n : ℕ) (by : Host) (cause : NodeCause) → tree.get world.hosts n ≡ Some by → IsCause statements world n by cause
        → is_member_now (log_after_cause cause world.log) q ≡ true → is_member_now world.log q ≡ true
    was_member n by (GuestAsks session req ask) at so is = is
    was_member n by (RequestComes name to request) at so is = is
    was_member n by (ReplyComes name from rsp) at so is = is
    was_member n by (LossIsTold name packet) at so is = is
    was_member n by (EntryIsRead entry) at so is = is
    was_member n by (EntryIsPut entry) at (later, first) is =
        sym (now-plain world.log entry q some (puts n by entry later at first).plain) ∙ is
    was_member n by RecoveryTicks at so is = is
    was_member n by WorkIsRetried at so is = is
    was_member n by (ClientAsks req ask) at so is = is

    -- who is a member after a join was one, or is the one that joined
    joined_or_was : (n zone vnodes : ℕ) → is_member_now (world.log ++ entries.Join (record { 0 = n }) zone vnodes ∷ []) q ≡ true
        → ((n == q) ≡ true) ⊎ (has_host world q ≡ true)
    joined_or_was n zone vnodes is =
        let member : Member = record { node = record { 0 = n }; zone = zone; vnodes = vnodes } in
        ⊎_elim
        (λ (own : (n == q) ≡ true). inl own)
        (λ (was : is_member_now world.log q ≡ true). inr (holds.seated q was))
        (or_cases (n == q) (is_member_now world.log q)
        (sym (now-begun world.log (entries.Join (record { 0 = n }) zone vnodes) q some refl
        ∙ member-members_with q member (members_in world.log (epoch_of world.log))) ∙ is))

    seated_by : EventKind statements event world made → is_member_now made.world.log q ≡ true → has_host made.world q ≡ true
    seated_by (NodeStep h) is =
        let was = ap (λ (m : EventOutcome). is_member_now m.world.log q) h.made_so ∙ is in
        subst SeatedAfter h.made_so
        (with_one h.n (host_after_step h.cause h.host) (holds.seated q (was_member h.n h.host h.cause h.there h.caused was)))
    seated_by (UntoldLoss h) is = subst SeatedAfter h.made_so (holds.seated q (ap (λ (m : EventOutcome). is_member_now m.world.log q) h.made_so ∙ is))
    seated_by (UnreadDelivery h) is = subst SeatedAfter h.made_so (holds.seated q (ap (λ (m : EventOutcome). is_member_now m.world.log q) h.made_so ∙ is))
    seated_by (NodeLoss h) is =
        subst SeatedAfter h.made_so
        (with_one h.n (lost_host h.host) (holds.seated q (ap (λ (m : EventOutcome). is_member_now m.world.log q) h.made_so ∙ is)))
    seated_by (NodeLeave h) is =
        let was = ap (λ (m : EventOutcome). is_member_now m.world.log q) h.made_so ∙ is in
        subst SeatedAfter h.made_so
        (holds.seated q
        (member-before q h.n (members_in world.log (epoch_of world.log))
        (sym (now-begun world.log (entries.Leave (record { 0 = h.n })) q some refl) ∙ was)))
    seated_by (NodeReweight h) is =
        let was = ap (λ (m : EventOutcome). is_member_now m.world.log q) h.made_so ∙ is in
        subst SeatedAfter h.made_so
        (holds.seated q
        (sym (now-begun world.log (entries.Reweight (record { 0 = h.n }) h.vnodes) q some refl
        ∙ member-members_reweighted q h.n h.vnodes (members_in world.log (epoch_of world.log))) ∙ was))
    seated_by (NodeJoin h) is =
        let was = ap (λ (m : EventOutcome). is_member_now m.world.log q) h.made_so ∙ is in
        subst SeatedAfter h.made_so
        (⊎_elim (with_own h.n (joined_host statements h.n)) (with_one h.n (joined_host statements h.n))
        (joined_or_was h.n (zone_of statements h.n) (vnodes_of statements) was))
    seated_by (NodeReturn h) is =
        let was = ap (λ (m : EventOutcome). is_member_now m.world.log q) h.made_so ∙ is in
        let again = host_after_return (log_after_return statements h.n world) h.host in
        subst SeatedAfter h.made_so
        (⊎_elim (with_own h.n again) (with_one h.n again)
        (joined_or_was h.n (zone_of statements h.n) (last_weight world.log h.n) was))
    seated_by (PhaseEnd h) is = subst SeatedAfter h.made_so (holds.seated q (ap (λ (m : EventOutcome). is_member_now m.world.log q) h.made_so ∙ is))

  -- each event keeps it
  pub keeps_log : EventKind statements event world made → LogHolds made.world
  keeps_log h = record {
    log = log_after h;
    well = λ q host got. well_by h q host (became statements event world made q host h got);
    seated = λ q is. seated_by q h is;
  }
