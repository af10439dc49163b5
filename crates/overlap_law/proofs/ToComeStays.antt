-- By an attempt that was there a unit may come to be read after a change of a moment only if it might before: what comes to nothing does so
-- still, and what is made stays made.
use Rattle.std.proofs.Common.{◌≡◌, ℕ, suc, zero, ◌<◌, Bool, true, false, List, [], ◌∷◌, length, Some, refl, sym, ap, subst}
use Rattle.std.proofs.Common.{◌∙◌, slice_get}
use Rattle.std.proofs.lemmas.Bool.{and_parts, and_from}
use Rattle.std.proofs.lemmas.Option.{same_Some}
use Rattle.object_id.specs.declared.node.NodeId.{NodeId}
use Rattle.cluster_script.specs.declared.statement.Statement.{Statement}
use Rattle.message_wire.specs.declared.packet.Packet.TheVariants.{Request, Reply}
use Rattle.sheep_world.specs.Began.{Began}
use Rattle.overlap_law.specs.Attempts.{AttemptRecord, MessageFate, Doomed, attempt_with_fate, attempts_with_fate, fate_of_say, object_of}
use Rattle.overlap_law.specs.MomentChanges.{MomentChange, RunsAreInRange}
use Rattle.overlap_law.specs.Packets.{Wire}
use Rattle.overlap_law.specs.Past.{MomentWithPast}
use Rattle.overlap_law.specs.ShapedAttempts.{AreShaped}
use Rattle.overlap_law.specs.TiedAttempts.{IsTied}
use Rattle.overlap_law.specs.ToCome.{is_each_in_vain, comes_to_nothing, IsToCome}
use Rattle.overlap_law.specs.Traffic.{Traffic, NothingMoves, MessageIsLost, ReplyIsReceived, RequestIsAnswered, RequestsAreSent}
use Rattle.overlap_law.specs.Traffic.{AttemptBegins, RepliesGo}
use Rattle.overlap_law.specs.Units.{covers_unit}
use Rattle.overlap_law.specs.Words.{Hosts, is_made, is_in_vain, is_doomed}
use Rattle.overlap_law.proofs.AttemptLists.{got_still, map_got}
use Rattle.overlap_law.proofs.BeyondInMoments.{vain_later}
use Rattle.overlap_law.proofs.DoomedTraffic.{StaysInVain, doomed_by}
use Rattle.overlap_law.proofs.FateLemmas.{made-marked}
use Rattle.overlap_law.proofs.FinishedInMoments.{TermsHold}
use Rattle.overlap_law.proofs.GrownAttempts.{traffic_goes_on, goes_on-grows}
use Rattle.overlap_law.proofs.NewAttempts.{WasAttempt}
use Rattle.overlap_law.proofs.TrafficOfChanges.{traffic}

-- ---- what comes to nothing

each_later : (hosts hosts_after : Hosts) (epoch : ℕ) (targets : List NodeId) (fates later : List MessageFate) → length later ≡ length fates
    → ((place : ℕ) (target : NodeId) (fate now : MessageFate) → slice_get targets place ≡ Some target → slice_get fates place ≡ Some fate
    → slice_get later place ≡ Some now → is_in_vain hosts epoch target fate ≡ true → is_in_vain hosts_after epoch target now ≡ true)
    → is_each_in_vain hosts epoch targets fates ≡ true → is_each_in_vain hosts_after epoch targets later ≡ true
each_later hosts hosts_after epoch [] fates later long so vain = refl
each_later hosts hosts_after epoch (target ∷ targets) [] [] long so vain = refl
each_later hosts hosts_after epoch (target ∷ targets) [] (now ∷ later) long so vain = absurd (cc (long))
each_later hosts hosts_after epoch (target ∷ targets) (fate ∷ fates) [] long so vain = absurd (cc (long))
each_later hosts hosts_after epoch (target ∷ targets) (fate ∷ fates) (now ∷ later) long so vain =
    let parts = and_parts (is_in_vain hosts epoch target fate) (is_each_in_vain hosts epoch targets fates) vain in
    and_from (is_in_vain hosts_after epoch target now) (is_each_in_vain hosts_after epoch targets later)
    (so zero target fate now refl refl refl parts.0)
    (each_later hosts hosts_after epoch targets fates later (cc (long))
    (λ place other f n among got is. so (suc place) other f n among got is) parts.1)

pub nothing_by : (hosts hosts_after : Hosts) (was now : AttemptRecord) → StaysInVain hosts hosts_after was now
    → comes_to_nothing hosts was ≡ true → comes_to_nothing hosts_after now ≡ true
nothing_by hosts hosts_after was now stays nothing =
    let parts = and_parts (is_doomed hosts was) (is_each_in_vain hosts was.epoch was.targets was.fates) nothing in
    and_from (is_doomed hosts_after now) (is_each_in_vain hosts_after now.epoch now.targets now.fates)
    (doomed_by hosts hosts_after was now stays parts.0)
    (subst (λ (a : AttemptRecord). is_each_in_vain hosts_after a.epoch a.targets a.fates ≡ true) stays.same
    (each_later hosts hosts_after was.epoch was.targets was.fates now.fates stays.long stays.each parts.1))

-- ---- what is made

abbrev StaysMade : List AttemptRecord → List AttemptRecord → Type 0
StaysMade attempts after = (j : ℕ) (was now : AttemptRecord) → slice_get attempts j ≡ Some was → slice_get after j ≡ Some now
    → is_made was ≡ true → is_made now ≡ true

same_made : (attempts : List AttemptRecord) → StaysMade attempts attempts
same_made attempts j was now at at_now made = ap is_made (sym (same_Some was now (sym at ∙ at_now))) ∙ made

marked_made : (told : MessageFate) (sender : NodeId) (number : ℕ) (attempts : List AttemptRecord)
    → StaysMade attempts (attempts_with_fate told sender number attempts)
unfolding attempts_with_fate
marked_made told sender number attempts j was now at at_now made =
    ap is_made (sym (same_Some (attempt_with_fate told sender number was) now
    (sym (map_got (attempt_with_fate told sender number) attempts j was at) ∙ at_now)))
    ∙ made-marked told sender number was made

traffic_made : (hosts hosts_after : Hosts) (wire later : Wire) (attempts after : List AttemptRecord)
    → Traffic hosts hosts_after wire attempts later after → StaysMade attempts after
traffic_made hosts hosts_after wire later attempts after NothingMoves = same_made attempts
traffic_made hosts hosts_after wire later attempts after (MessageIsLost name (Request to bytes) there) =
    marked_made Doomed name.sender name.number attempts
traffic_made hosts hosts_after wire later attempts after (MessageIsLost name (Reply from bytes) there) = same_made attempts
traffic_made hosts hosts_after wire later attempts after (ReplyIsReceived name from bytes there) = same_made attempts
traffic_made hosts hosts_after wire later attempts after (RequestIsAnswered name to bytes up rsp there answer) =
    marked_made (fate_of_say rsp.say) name.sender name.number attempts
traffic_made hosts hosts_after wire later attempts after (RequestsAreSent n sends by nothing) = same_made attempts
traffic_made hosts hosts_after wire later attempts after (AttemptBegins n sends new begun) =
    λ j was now at at_now made. ap is_made (sym (same_Some was now (sym (got_still attempts new j was at) ∙ at_now))) ∙ made
traffic_made hosts hosts_after wire later attempts after (RepliesGo n) = same_made attempts

-- ---- each change

module _ (script : List Statement) (range : RunsAreInRange script) (start before after : MomentWithPast) (began : Began script start.world)
    (change : MomentChange script start before after) where
  pub made_later : (j : ℕ) (was now : AttemptRecord) → slice_get before.past.attempts j ≡ Some was
      → slice_get after.past.attempts j ≡ Some now
      → is_made was ≡ true → is_made now ≡ true
  made_later = traffic_made before.world.hosts after.world.hosts before.world.wire after.world.wire before.past.attempts after.past.attempts
      (traffic script range start began change)

  -- an attempt that was there is there still
  pub still_there : (j : ℕ) (was : AttemptRecord) → slice_get before.past.attempts j ≡ Some was
      → (fates : List MessageFate) × (slice_get after.past.attempts j ≡ Some (record was { fates = fates }))
  still_there j was at =
      let (fates, there, muter) = (goes_on-grows before.past.attempts after.past.attempts
      (traffic_goes_on before.world.hosts after.world.hosts before.world.wire before.past.attempts
      (traffic script range start began change))).stays
      j was at in
      (fates, there)

  module _ (terms : TermsHold before) (shaped : AreShaped before) (tied : IsTied before) where
    pub to_come_before : (oid unit j : ℕ) (now : AttemptRecord) → IsToCome after.world.hosts after.past.attempts oid unit j now
        → (w : WasAttempt before j now) → IsToCome before.world.hosts before.past.attempts oid unit j w.was
    to_come_before oid unit j now comes w = record {
      there = w.at;
      object = ap (λ (a : AttemptRecord). object_of a) w.same ∙ comes.object;
      covers = ap (λ (a : AttemptRecord). covers_unit unit a) w.same ∙ comes.covers;
      stands = stood (comes_to_nothing before.world.hosts w.was) refl;
      last = λ k later at behind object covers. unmade k later at behind object covers (is_made later) refl;
    }
      where
        stood : (b : Bool) → comes_to_nothing before.world.hosts w.was ≡ b → b ≡ false
        stood false is = refl
        stood true nothing =
            let still = nothing_by before.world.hosts after.world.hosts w.was now
            (vain_later script range start before after began change terms shaped tied j w.was now w.at comes.there) nothing in
            let stands = comes.stands in
            absurd (cc (still, stands))

        unmade : (k : ℕ) (later : AttemptRecord) → slice_get before.past.attempts k ≡ Some later → j < k → object_of later ≡ oid
            → covers_unit unit later ≡ true → (b : Bool) → is_made later ≡ b → b ≡ false
        unmade k later at behind object covers false is = refl
        unmade k later at behind object covers true made =
            let then : AttemptRecord = record later { fates = (still_there k later at).0 } in
            let is = made_later k later then at (still_there k later at).1 made in
            let not = comes.last k then (still_there k later at).1 behind object covers in
            absurd (cc (is, not))

    -- the attempt at the same place
    pub might_before : (oid unit j : ℕ) (was now : AttemptRecord) → slice_get before.past.attempts j ≡ Some was
        → IsToCome after.world.hosts after.past.attempts oid unit j now → IsToCome before.world.hosts before.past.attempts oid unit j was
    might_before oid unit j was now at comes =
        let (fates, there) = still_there j was at in
        to_come_before oid unit j now comes (record {
          was = was;
          at = at;
          fates = fates;
          same = same_Some (record was { fates = fates }) now (sym there ∙ comes.there);
        })
