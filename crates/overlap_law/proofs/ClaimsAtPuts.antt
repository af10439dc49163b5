-- By its kind, each entry that a node puts leaves what its sessions' works rest on.
use Rattle.std.proofs.Common.{◌≡◌, ◌≢◌, ◌⊎◌, inl, inr, ⊎_elim, ℕ, ◌+◌, ◌≤◌, ◌==◌, Bool, true, false, ◌&&◌, ◌||◌, List, [], ◌∷◌, ◌++◌, All}
use Rattle.std.proofs.Common.{length, take, Some, None, refl, sym, ap, subst, ◌∙◌, arith}
use Rattle.std.specs.List.{slice_get}
use Rattle.std.proofs.lemmas.Bool.{and_parts, eq-eqb, eqb-true}
use Rattle.std.proofs.lemmas.List.{take_all, length-append}
use Rattle.std.proofs.lemmas.List.Elements.{All-head}
use Rattle.object_id.specs.declared.entry.Entry.{Entry}
use Rattle.object_id.specs.declared.entry.Entry.TheVariants.{Format, Join, Leave, Reweight, Recovered, Reserve, Publish, Clone, Snapshot}
use Rattle.object_id.specs.declared.entry.Entry.TheVariants.{Delete, Lock, Unlock}
use Rattle.object_id.specs.declared.node.NodeId.{NodeId}
use Rattle.object_id.specs.declared.oid.Vid.{Vid}
use Rattle.epoch_log.specs.Epochs.{epoch_of}
use Rattle.vdi_directory.specs.Decisions.{outcome, log_effects}
use Rattle.vdi_directory.specs.Effects.{holder_of}
use Rattle.sheep_node.specs.OwnEntries.{IsEntryOf}
use Rattle.overlap_law.specs.AwaitedEntries.{IsCommandEntry}
use Rattle.overlap_law.specs.CommandDisks.{opened_in}
use Rattle.overlap_law.specs.Grants.{granted_in, writer_of, may_take_writer}
use Rattle.overlap_law.specs.LastReads.{snaps}
use Rattle.overlap_law.specs.WriterClaims.{holder_at, HasLock, IsStageKept, IsReplacing, HasClaims}
use Rattle.overlap_law.proofs.AttemptLists.{got_more}
use Rattle.overlap_law.proofs.AwaitedChanges.{Requests, AreAwaited}
use Rattle.overlap_law.proofs.ClaimChanges.{Sessions}
use Rattle.overlap_law.proofs.ClaimPuts.{kept_tail, here_once, nothing_put, unlock_put}
use Rattle.overlap_law.proofs.ClaimRefusals.{reserved_apart}
use Rattle.overlap_law.proofs.ClaimsOfPuts.{Publisher, commands_own, apart, publisher, published}
use Rattle.overlap_law.proofs.CountedEntries.{times, once_if, times-cons, itself}
use Rattle.overlap_law.proofs.GrantedIds.{replaced_effect, replaced_now}
use Rattle.overlap_law.proofs.KeptIds.{named_stays, lock-writer}

-- where it isn't left it is nowhere in the rest
left_none : (last : Entry) (later : List Entry) → times last (last ∷ later) ≤ 1 → 1 ≤ times last later → ⊥
left_none last later once there =
    let all : times last (last ∷ later) ≡ 1 + times last later
    = times-cons last last later ∙ ap (λ (b : Bool). once_if b + times last later) (itself last) in
    omega (arith, all, there, once)

module _ (log later read : List Entry) (from : ℕ) (me : NodeId) (unread : List Entry) (requests : Requests) (sessions : Sessions) where
  module _ (last : Entry) (own : All (IsEntryOf me) (last ∷ later)) (awaited : AreAwaited read me unread None me requests (last ∷ later))
      (has : HasClaims log (last ∷ later) read from me requests sessions) where
    -- what takes nothing from anybody
    plain_entry : ((by : NodeId) (old of : Vid) → last ≢ Snapshot by old of)
        → ((vid session : ℕ) (node : NodeId) → may_take_writer vid (record { node = node; session = session }) last ≡ false)
        → HasClaims (log ++ last ∷ []) later read from me requests sessions
    plain_entry unsnapped nothing =
        nothing_put log last later read from me requests sessions own has
        (commands_own log last later read from me unread requests sessions own awaited has)
        (apart log last later read from me unread requests sessions own awaited has) unsnapped
        (λ vid writer. nothing vid writer.session writer.node)

    -- it stands there once, where a request waits for it
    stands_once : IsCommandEntry me last → times last (last ∷ later) ≤ 1
    stands_once is = let once = awaited.once last is in omega (arith, once)

  -- an id that was reserved is published
  module _ (by : NodeId) (vid : Vid) (own : All (IsEntryOf me) (Publish by vid ∷ later))
      (awaited : AreAwaited read me unread None me requests (Publish by vid ∷ later))
      (has : HasClaims log (Publish by vid ∷ later) read from me requests sessions) where
    publish_entry : HasClaims (log ++ Publish by vid ∷ []) later read from me requests sessions
    publish_entry =
        let last = Publish by vid in
        let mine : by ≡ me = All-head (IsEntryOf me) last later own in
        let p = publisher log last later read from me unread requests sessions own awaited has (λ never. never) mine in
        let here = here_once log last later read from me requests sessions own has in
        let once = stands_once last own awaited has mine in
        let kept = subst (IsStageKept log (last ∷ later) read from me p.request.session (opened_in p.request.session sessions)) p.at
        (has.commands p.req p.request p.op p.there p.command) in
        published log last later read from me unread requests sessions own awaited has p (λ never. never) vid (kept here)
        (λ session opened made is. is here) once (λ of. ⊥) (λ of never. absurd never)
        (record { takes = λ of session takes. inl (sym (eqb-true vid.0 of (and_parts (vid.0 == of) (by.0 == me.0) takes).0)) })
        (λ of never. absurd never) (λ there. absurd (left_none last later once there))

  module _ (by : NodeId) (vid : Vid) (own : All (IsEntryOf me) (Clone by vid ∷ later))
      (awaited : AreAwaited read me unread None me requests (Clone by vid ∷ later))
      (has : HasClaims log (Clone by vid ∷ later) read from me requests sessions) where
    clone_entry : HasClaims (log ++ Clone by vid ∷ []) later read from me requests sessions
    clone_entry =
        let last = Clone by vid in
        let mine : by ≡ me = All-head (IsEntryOf me) last later own in
        let p = publisher log last later read from me unread requests sessions own awaited has (λ never. never) mine in
        let here = here_once log last later read from me requests sessions own has in
        let once = stands_once last own awaited has mine in
        let kept = subst (IsStageKept log (last ∷ later) read from me p.request.session (opened_in p.request.session sessions)) p.at
        (has.commands p.req p.request p.op p.there p.command) in
        published log last later read from me unread requests sessions own awaited has p (λ never. never) vid (kept here)
        (λ session opened made is. is here) once (λ of. ⊥) (λ of never. absurd never)
        (record { takes = λ of session takes. inl (sym (eqb-true vid.0 of (and_parts (vid.0 == of) (by.0 == me.0) takes).0)) })
        (λ of never. absurd never) (λ there. absurd (left_none last later once there))

  -- a snapshot's id takes the disk's place
  module _ (by : NodeId) (old vid : Vid) (own : All (IsEntryOf me) (Snapshot by old vid ∷ later))
      (awaited : AreAwaited read me unread None me requests (Snapshot by old vid ∷ later))
      (has : HasClaims log (Snapshot by old vid ∷ later) read from me requests sessions) where
    abbrev last : Entry
    last = Snapshot by old vid

    mine : by ≡ me
    mine = All-head (IsEntryOf me) last later own

    which : Publisher log (Snapshot by old vid) later read from me unread requests sessions own awaited has
    which = publisher log last later read from me unread requests sessions own awaited has (λ never. never) mine

    here : 1 ≤ times (Snapshot by old vid) (Snapshot by old vid ∷ later)
    here = here_once log last later read from me requests sessions own has

    once : times (Snapshot by old vid) (Snapshot by old vid ∷ later) ≤ 1
    once = stands_once last own awaited has mine

    module _ (session : ℕ) (kept : IsReplacing log (Snapshot by old vid ∷ later) read from me session (opened_in session sessions) old vid
        (Snapshot by old vid) which.made) where
      -- the lock that it gives
      given_lock : HasLock (log ++ Snapshot by old vid ∷ []) later me session (epoch_of (log ++ Snapshot by old vid ∷ [])) vid.0
      given_lock =
          let put : last ≡ Snapshot me old vid = λ i. Snapshot (mine i) old vid in
          let given = replaced_now log (last ∷ later) me session (epoch_of read) old vid (kept.to_put here) (kept.of_disk here) in
          record {
            held = ap (λ (e : Entry). holder_of (log_effects (log ++ e ∷ [])) vid.0) put ∙ given.held;
            kept = kept_tail log last later read from me requests sessions own has session vid.0 (kept.to_put here).has.kept;
            since =
                let at_put : granted_in (log ++ last ∷ []) vid.0 ≡ epoch_of (log ++ last ∷ [])
                = ap (λ (e : Entry). granted_in (log ++ e ∷ []) vid.0) put ∙ given.since
                ∙ ap (λ (e : Entry). epoch_of (log ++ e ∷ [])) (sym put) in
                omega (arith, at_put);
          }

      placed_then : (place : ℕ) → from ≤ place → slice_get (log ++ Snapshot by old vid ∷ []) place ≡ Some (Snapshot by old vid)
          → HasLock (log ++ Snapshot by old vid ∷ []) later me session (epoch_of (take (place + 1) (log ++ Snapshot by old vid ∷ []))) vid.0
      placed_then place after got = ⊎_elim
          (λ (there : slice_get log place ≡ Some last).
          absurd (reserved_apart log (last ∷ later) me session (epoch_of read) vid.0 (epoch_of (take (place + 1) log)) vid.0
          (kept.to_put here).has (kept.placed place after there) refl))
          (λ (new : (place ≡ length log) × (last ≡ last)).
          let count : length (log ++ last ∷ []) ≡ length log + 1 = length-append log (last ∷ []) in
          let all : take (place + 1) (log ++ last ∷ []) ≡ log ++ last ∷ []
          = ap (λ (k : ℕ). take (k + 1) (log ++ last ∷ [])) new.0 ∙ take_all (length log + 1) (log ++ last ∷ []) (omega (arith, count)) in
          subst (λ (upto : List Entry). HasLock (log ++ last ∷ []) later me session (epoch_of upto) vid.0) (sym all) given_lock)
          (got_more log last place last got)

      replaced_then : IsReplacing (log ++ Snapshot by old vid ∷ []) later read from me session (opened_in session sessions) old vid
          (Snapshot by old vid) which.made
      replaced_then = record {
        to_put = λ there. absurd (left_none last later once there);
        of_disk = λ there. absurd (left_none last later once there);
        placed = placed_then;
        named = (kept.named.0, kept.named.1, named_stays log last vid.0 kept.named.0.name kept.named.2);
      }

    snapshot_entry : HasClaims (log ++ Snapshot by old vid ∷ []) later read from me requests sessions
    snapshot_entry =
        let kept = subst (IsStageKept log (last ∷ later) read from me which.request.session (opened_in which.request.session sessions))
        which.at
        (has.commands which.req which.request which.op which.there which.command) in
        published log last later read from me unread requests sessions own awaited has which (λ never. never) vid (kept.to_put here).has
        (λ session opened made is. (is.to_put here).has) once (λ (of : ℕ). old.0 ≡ of)
        (λ of same. subst (λ (v : ℕ). HasLock log (last ∷ later) me which.request.session (epoch_of read) v) same (kept.of_disk here))
        (record { takes = λ of session takes. by_parts of (old.0 == of) refl takes }) (λ of same. same)
        (replaced_then which.request.session kept)
      where
        by_parts : (of : ℕ) (b : Bool) → (old.0 == of) ≡ b → (b || (vid.0 == of && by.0 == me.0)) ≡ true → (of ≡ vid.0) ⊎ (old.0 ≡ of)
        by_parts of true same takes = inr (eqb-true old.0 of same)
        by_parts of false other takes = inl (sym (eqb-true vid.0 of (and_parts (vid.0 == of) (by.0 == me.0) takes).0))

    -- its disk is the session's until then
    pub snapshot_writes : (session : ℕ) × (writer_of (log_effects log) old.0 ≡ Some (holder_at me session))
    snapshot_writes =
        let kept = subst (IsStageKept log (last ∷ later) read from me which.request.session (opened_in which.request.session sessions))
        which.at
        (has.commands which.req which.request which.op which.there which.command) in
        (which.request.session, lock-writer log (last ∷ later) me which.request.session (epoch_of read) old.0 (kept.of_disk here))

    -- and then becomes a snapshot
    pub snapshot_snaps : snaps old.0 (outcome (log_effects log) (Snapshot by old vid)).effect ≡ true
    snapshot_snaps =
        let kept = subst (IsStageKept log (last ∷ later) read from me which.request.session
        (opened_in which.request.session sessions)) which.at
        (has.commands which.req which.request which.op which.there which.command) in
        let put : last ≡ Snapshot me old vid = λ i. Snapshot (mine i) old vid in
        ap (λ (e : Entry). snaps old.0 (outcome (log_effects log) e).effect) put
        ∙ ap (snaps old.0)
        (replaced_effect log (last ∷ later) me which.request.session (epoch_of read) old vid (kept.to_put here) (kept.of_disk here))
        ∙ eq-eqb old.0 old.0 refl

  -- ---- each

  pub put_kept : (last : Entry) (own : All (IsEntryOf me) (last ∷ later)) → AreAwaited read me unread None me requests (last ∷ later)
      → HasClaims log (last ∷ later) read from me requests sessions → HasClaims (log ++ last ∷ []) later read from me requests sessions
  put_kept (Format members) own awaited has = absurd (All-head (IsEntryOf me) (Format members) later own)
  put_kept (Join node zone vnodes) own awaited has = absurd (All-head (IsEntryOf me) (Join node zone vnodes) later own)
  put_kept (Leave node) own awaited has = absurd (All-head (IsEntryOf me) (Leave node) later own)
  put_kept (Reweight node vnodes) own awaited has = absurd (All-head (IsEntryOf me) (Reweight node vnodes) later own)
  put_kept (Recovered node epoch) own awaited has =
      plain_entry (Recovered node epoch) own awaited has (λ by old of same. absurd (cc (same))) (λ vid session at. refl)
  put_kept (Reserve by session name origin) own awaited has =
      plain_entry (Reserve by session name origin) own awaited has (λ b old of same. absurd (cc (same))) (λ vid s at. refl)
  put_kept (Publish by vid) own awaited has = publish_entry by vid own awaited has
  put_kept (Clone by vid) own awaited has = clone_entry by vid own awaited has
  put_kept (Snapshot by old vid) own awaited has = snapshot_entry by old vid own awaited has
  put_kept (Delete by session name tag) own awaited has =
      plain_entry (Delete by session name tag) own awaited has (λ b old of same. absurd (cc (same))) (λ vid s at. refl)
  put_kept (Lock by session name tag) own awaited has =
      plain_entry (Lock by session name tag) own awaited has (λ b old of same. absurd (cc (same))) (λ vid s at. refl)
  put_kept (Unlock by session vid) own awaited has =
      let last = Unlock by session vid in
      unlock_put log last later read from me requests sessions own has
      (commands_own log last later read from me unread requests sessions own awaited has)
      (apart log last later read from me unread requests sessions own awaited has) by session vid refl
