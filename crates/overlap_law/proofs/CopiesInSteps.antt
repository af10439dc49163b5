-- A step of a node keeps that its copies are of attempts, where what it serves is asked by an attempt, and copies that its recovery was
-- told are of attempts.
use Rattle.std.proofs.Common.{◌≡◌, ⊎_elim, ℕ, ◌+◌, ◌≤◌, ◌==◌, nat_eq, nat_le, Bool, true, false, List, length, slice_get, Option, Some}
use Rattle.std.proofs.Common.{None, refl, sym, ap, subst, ◌∙◌}
use Rattle.std.specs.List.{AllByRecursion}
use Rattle.std.specs.Option.{option_map}
use Rattle.std.proofs.lemmas.Bool.{and_parts, eqb-true, eq-eqb, leb-true}
use Rattle.std.proofs.lemmas.Option.{same_Some}
use Rattle.proof_tools.proofs.Booleans.{cond_either}
use Rattle.object_id.specs.declared.entry.VdiSpec.{VdiSpec}
use Rattle.object_id.specs.declared.node.Epoch.{Epoch}
use Rattle.object_id.specs.declared.policy.Policy.{Policy}
use Rattle.object_id.specs.Fields.{zeros}
use Rattle.object_id.specs.Oid.{kind_of, vid_of}
use Rattle.object_id.specs.Piece.{laid_over}
use Rattle.object_store.specs.declared.key.Key.{Key}
use Rattle.object_store.specs.declared.row.RowCopy.{RowCopy}
use Rattle.object_store.specs.Rows.{is_open, is_open_at, closed}
use Rattle.object_store.specs.Store.{SeenRow, rows_of, row_bytes}
use Rattle.object_store.proofs.CallLaws.{length-laid_over}
use Rattle.object_store.proofs.CopyLaws.{row_bytes-copy_of}
use Rattle.gf256.specs.Part.{index_at, is_in_strips}
use Rattle.gateway.specs.Work.{ask_for}
use Rattle.peer_proto.specs.declared.ask.PeerAsk.{PeerAsk}
use Rattle.peer_proto.specs.declared.ask.PeerAsk.TheVariants as asks
use Rattle.peer_proto.specs.declared.ask.PeerReq.{PeerReq}
use Rattle.peer_proto.specs.declared.say.PeerSay.{PeerSay}
use Rattle.peer_proto.specs.declared.work.ObjWork.{ObjWork}
use Rattle.peer_proto.specs.declared.work.ObjWork.TheVariants as works
use Rattle.peer_proto.specs.Work.{oid_of, policy_of}
use Rattle.vdi_directory.specs.declared.effect.Effect.{Effect}
use Rattle.peer_service.specs.State.{object_size}
use Rattle.recovery.specs.declared.search.RowAnswer.{RowAnswer}
use Rattle.recovery.specs.Shown.{live_policy}
use Rattle.recovery.specs.State.{Message, Search, Recovery, RecoveryState, search_on, message_of}
use Rattle.recovery.specs.Level.{own_index, rows_found, rows_taken, are_enough, part_from_rows}
use Rattle.recovery.specs.Steps.{search_after_answer}
use Rattle.sheep_node.specs.declared.input.Input.{Input}
use Rattle.sheep_node.specs.declared.input.Input.TheVariants as inputs
use Rattle.sheep_node.specs.State.{Node}
use Rattle.sheep_node.specs.RecoveryView.{shown_node, recovery_state_of}
use Rattle.overlap_law.specs.Attempts.{AttemptRecord, object_of, attempts_on}
use Rattle.overlap_law.specs.Each.{SomeAttempt, EachAttempt, spec_in, policy_in}
use Rattle.overlap_law.specs.Fates.{AttemptsAreWhole, IsWhole}
use Rattle.overlap_law.specs.Packets.{message_request_at}
use Rattle.overlap_law.specs.RowsInRange.{CreatesAsRowsAre}
use Rattle.overlap_law.specs.Since.{IsOfAttempts, IsCopyOfAttempts}
use Rattle.overlap_law.specs.Traffic.{asks_making}
use Rattle.overlap_law.specs.Units.{unit_end, covers_unit, row_bytes_at, bytes_by, unit_part_by}
use Rattle.overlap_law.proofs.CopyUnits.{whole_part, key_asked, GoesByUnits, HasUnitOf, made-of, written-of}
use Rattle.overlap_law.proofs.FilteredOrder.{filter-there}
use Rattle.overlap_law.proofs.RowKeeping.{TellsOf, KeepsEachRow}
use Rattle.overlap_law.proofs.FoundCopies.{found-rows, part-of_copy}
use Rattle.overlap_law.proofs.OverlapLemmas.{filter-passed}
use Rattle.overlap_law.proofs.RowLists.{all_at}

-- ---- what an attempt's message asks

abbrev pub key_oid : PeerAsk → ℕ
key_oid ask = (key_asked ask).oid

pub asked_object : (work : ObjWork) (index : ℕ) → key_oid (ask_for work index) ≡ oid_of work
asked_object (works.Create oid policy size offset bytes) index = refl
asked_object (works.Write oid policy offset bytes) index = refl
asked_object (works.Read oid policy offset size) index = refl
asked_object (works.ReadAll oid policy size) index = refl

goes_by_units : (size : ℕ) (work : ObjWork) → IsWhole size work → GoesByUnits work
goes_by_units size (works.Create oid policy long offset bytes) is = tt
goes_by_units size (works.Write oid policy offset bytes) is = (is.1.first, is.1.last, is.1.begins, is.1.ends)
goes_by_units size (works.Read oid policy offset long) is = tt
goes_by_units size (works.ReadAll oid policy long) is = tt

known_spec : (effects : List Effect) (oid : ℕ) (policy : Policy) → policy_in effects oid ≡ Some policy
    → (spec : VdiSpec) × (spec_in effects (vid_of oid) ≡ Some spec)
known_spec effects oid policy known = by_spec (spec_in effects (vid_of oid)) refl known
  where
    by_spec : (o : Option VdiSpec) → spec_in effects (vid_of oid) ≡ o → option_map (λ (spec : VdiSpec). spec.policy) o ≡ Some policy
        → (spec : VdiSpec) × (spec_in effects (vid_of oid) ≡ Some spec)
    by_spec None is known = absurd (cc (known))
    by_spec (Some spec) is known = (spec, is)

closed_bytes : (P : ℕ → List ℕ → Type 0) (last : ℕ) (row : SeenRow) → P row.index row.bytes
    → P (closed last row).index (closed last row).bytes
closed_bytes P last row is =
    cond_either (λ (r : SeenRow). P r.index r.bytes) (is_open row) (record row { to = Some (record { 0 = last }) }) row is is

module _ (effects : List Effect) (live : ℕ → Bool) (attempts : List AttemptRecord) where
  -- a copy of an object is of attempts, by the object's policy
  abbrev pub IsSoCopy : ℕ → ℕ → List ℕ → Type 0
  IsSoCopy oid index bytes = (policy : Policy) → live oid ≡ true → policy_in effects oid ≡ Some policy
      → IsCopyOfAttempts policy oid attempts index bytes

  abbrev pub RowIsSo : ℕ → ℕ → SeenRow → Type 0
  RowIsSo epoch oid row = IsSoCopy oid row.index row.bytes

  -- what a search was told is of attempts
  abbrev pub AnswersAreSo : Search → Type 0
  AnswersAreSo search = (place : ℕ) (answer : RowAnswer) → slice_get search.answers place ≡ Some answer → (row : RowCopy)
      → answer.row ≡ Some row → IsSoCopy search.oid row.index (row_bytes row)

  -- ---- what is asked by an attempt

  -- a request to create or write is a message of an attempt, and a create ends inside its row
  pub record IsAsked (request : PeerReq) : Type 0 where
    pub of_attempt : asks_making request.ask ≡ true → SomeAttempt attempts (λ attempt. (place : ℕ)
        × (request ≡ message_request_at attempt place))
    pub inside : CreatesAsRowsAre effects request.ask

  module _ (policies : EachAttempt attempts (λ j attempt. policy_in effects (object_of attempt) ≡ Some (policy_of attempt.work)))
      (whole_units : AttemptsAreWhole effects attempts) where
    -- an attempt on the object has a unit of the bytes
    abbrev HasUnit : Policy → ℕ → ℕ → ℕ → List ℕ → Type 0
    HasUnit policy oid index unit bytes = SomeAttempt (attempts_on oid attempts) (λ attempt. (covers_unit unit attempt ≡ true)
        × (row_bytes_at policy (kind_of oid) unit bytes ≡ unit_part_by index unit attempt.work))

    -- by a work of it
    unit-of : (j : ℕ) (attempt : AttemptRecord) → slice_get attempts j ≡ Some attempt → (ask : PeerAsk) (bytes : List ℕ) (unit : ℕ)
        (policy : Policy) → object_of attempt ≡ key_oid ask → policy_of attempt.work ≡ policy → HasUnitOf attempt.work ask bytes unit
        → HasUnit policy (key_oid ask) (key_asked ask).index unit bytes
    unit-of j attempt there ask bytes unit policy object same is =
        let (k, at) = filter-there (λ (a : AttemptRecord). object_of a == key_oid ask) attempts j attempt there
        (eq-eqb (object_of attempt) (key_oid ask) object) in
        let at_unit : row_bytes_at policy (kind_of (key_oid ask)) unit bytes ≡ unit_part_by (key_asked ask).index unit attempt.work
        = subst (λ (p : Policy). row_bytes_at p (kind_of (key_oid ask)) unit bytes ≡ unit_part_by (key_asked ask).index unit attempt.work)
        same (subst (λ (oid : ℕ). row_bytes_at (policy_of attempt.work) (kind_of oid) unit bytes
        ≡ unit_part_by (key_asked ask).index unit attempt.work) object is.same) in
        (k, attempt, at, (is.covers, at_unit))

    -- the part of a copy is the same at each index
    reindexed : (policy : Policy) (oid index other unit : ℕ) (bytes : List ℕ) → policy_in effects oid ≡ Some policy
        → is_in_strips policy (kind_of oid) ≡ false → HasUnit policy oid index unit bytes → HasUnit policy oid other unit bytes
    reindexed policy oid index other unit bytes known copies (k, attempt, at, has) =
        let found = filter-passed (λ (a : AttemptRecord). object_of a == oid) attempts k attempt at in
        let object : object_of attempt ≡ oid = eqb-true (object_of attempt) oid found.passed in
        let own : policy_of attempt.work ≡ policy
        = same_Some (policy_of attempt.work) policy
        (sym (policies found.place attempt found.there) ∙ ap (policy_in effects) object ∙ known) in
        let whole : is_in_strips (policy_of attempt.work) (kind_of (oid_of attempt.work)) ≡ false
        = ap (λ (p : Policy). is_in_strips p (kind_of (oid_of attempt.work))) own
        ∙ ap (λ (q : ℕ). is_in_strips policy (kind_of q)) object ∙ copies in
        let same : row_bytes_at policy (kind_of oid) unit bytes ≡ unit_part_by other unit attempt.work
        = has.1 ∙ whole_part (policy_of attempt.work) (kind_of (oid_of attempt.work)) whole index (bytes_by unit attempt.work)
        ∙ sym (whole_part (policy_of attempt.work) (kind_of (oid_of attempt.work)) whole other (bytes_by unit attempt.work)) in
        (k, attempt, at, (has.0, same))

    module _ (node : Node) (input : Input) (asked : (request : PeerReq) → input ≡ inputs.Request request → IsAsked request)
        (told : (number : ℕ) (said : Option PeerSay) → TellsOf input number said → (message : Message)
        → message_of number node.recovery.unanswered ≡ Some message → (oid : ℕ) (level : Epoch)
        → message.request.ask ≡ asks.RecoverRead oid level → (search : Search) → search_on (recovery_state_of node) ≡ Some search
        → search.oid ≡ oid → AnswersAreSo (search_after_answer message.to said search))
        (knows : (oid : ℕ) (policy : Policy) → live_policy (shown_node node) oid ≡ Some policy → policy_in effects oid ≡ Some policy)
        (are : (oid : ℕ) → AllByRecursion (RowIsSo node.peer.epoch oid) (rows_of node.peer.rows oid)) where
      created_so : (request : PeerReq) (key : Key) (size offset : ℕ) (bytes : List ℕ) → input ≡ inputs.Request request
          → request.ask ≡ asks.Create key size offset bytes → IsSoCopy key.oid key.index (laid_over (zeros size) offset bytes)
      created_so request key size offset bytes comes is policy alive known copies =
          let of = asked request comes in
          let (j, attempt, there, message) = of.of_attempt (ap asks_making is) in
          let index = index_at (policy_of attempt.work) (kind_of (object_of attempt)) message.0 in
          let ask_so : ask_for attempt.work index ≡ asks.Create key size offset bytes
          = sym (ap (λ (r : PeerReq). r.ask) message.1) ∙ is in
          let object : object_of attempt ≡ key.oid = sym (asked_object attempt.work index) ∙ ap key_oid ask_so in
          let own : policy_of attempt.work ≡ policy
          = same_Some (policy_of attempt.work) policy (sym (policies j attempt there) ∙ ap (policy_in effects) object ∙ known) in
          let whole : is_in_strips (policy_of attempt.work) (kind_of (oid_of attempt.work)) ≡ false
          = ap (λ (p : Policy). is_in_strips p (kind_of (oid_of attempt.work))) own
          ∙ ap (λ (q : ℕ). is_in_strips policy (kind_of q)) object ∙ copies in
          let made = made-of attempt.work index whole key size offset bytes ask_so in
          let fits = (subst (CreatesAsRowsAre effects) is of.inside).inside in
          record {
            each = λ unit ends.
                let low : unit_end (kind_of key.oid) unit ≤ length (laid_over (zeros size) offset bytes)
                = leb-true (unit_end (kind_of key.oid) unit) (length (laid_over (zeros size) offset bytes)) ends in
                let own_low : unit_end (kind_of (oid_of attempt.work)) unit ≤ length (laid_over (zeros size) offset bytes)
                = subst (λ (q : ℕ). unit_end (kind_of q) unit ≤ length (laid_over (zeros size) offset bytes)) (sym object) low in
                unit-of j attempt there (asks.Create key size offset bytes) (laid_over (zeros size) offset bytes) unit policy object own
                (made.each fits unit own_low);
          }

      written_so : (request : PeerReq) (key : Key) (offset : ℕ) (bytes : List ℕ) (row : SeenRow) → input ≡ inputs.Request request
          → request.ask ≡ asks.Write key offset bytes → row.index ≡ key.index → offset + length bytes ≤ length row.bytes
          → length (laid_over row.bytes offset bytes) ≡ length row.bytes → IsSoCopy key.oid row.index row.bytes
          → IsSoCopy key.oid row.index (laid_over row.bytes offset bytes)
      written_so request key offset bytes row comes is index_so fits long had policy alive known copies =
          let of = asked request comes in
          let (j, attempt, there, message) = of.of_attempt (ap asks_making is) in
          let index = index_at (policy_of attempt.work) (kind_of (object_of attempt)) message.0 in
          let ask_so : ask_for attempt.work index ≡ asks.Write key offset bytes
          = sym (ap (λ (r : PeerReq). r.ask) message.1) ∙ is in
          let object : object_of attempt ≡ key.oid = sym (asked_object attempt.work index) ∙ ap key_oid ask_so in
          let own : policy_of attempt.work ≡ policy
          = same_Some (policy_of attempt.work) policy (sym (policies j attempt there) ∙ ap (policy_in effects) object ∙ known) in
          let whole : is_in_strips (policy_of attempt.work) (kind_of (oid_of attempt.work)) ≡ false
          = ap (λ (p : Policy). is_in_strips p (kind_of (oid_of attempt.work))) own
          ∙ ap (λ (q : ℕ). is_in_strips policy (kind_of q)) object ∙ copies in
          let (spec, made) = known_spec effects (object_of attempt) (policy_of attempt.work) (policies j attempt there) in
          let units = goes_by_units (object_size spec (kind_of (object_of attempt))) attempt.work
          (whole_units.each j attempt there spec made) in
          let over = written-of attempt.work index whole units key offset bytes ask_so in
          let was = had policy alive known copies in
          record {
            each = λ unit ends. ⊎_elim
                (λ (of : HasUnitOf attempt.work (asks.Write key offset bytes) (laid_over row.bytes offset bytes) unit).
                subst (λ (i : ℕ). HasUnit policy key.oid i unit (laid_over row.bytes offset bytes)) (sym index_so)
                (unit-of j attempt there (asks.Write key offset bytes) (laid_over row.bytes offset bytes) unit policy object own of))
                (λ (same : row_bytes_at (policy_of attempt.work) (kind_of (oid_of attempt.work)) unit (laid_over row.bytes offset bytes)
                ≡ row_bytes_at (policy_of attempt.work) (kind_of (oid_of attempt.work)) unit row.bytes).
                let (k, old, at, has)
                = was.each unit (ap (nat_le (unit_end (kind_of key.oid) unit)) (sym long) ∙ ends) in
                let stays : row_bytes_at policy (kind_of key.oid) unit (laid_over row.bytes offset bytes)
                ≡ row_bytes_at policy (kind_of key.oid) unit row.bytes
                = subst (λ (p : Policy). row_bytes_at p (kind_of key.oid) unit (laid_over row.bytes offset bytes)
                ≡ row_bytes_at p (kind_of key.oid) unit row.bytes) own
                (subst (λ (q : ℕ). row_bytes_at (policy_of attempt.work) (kind_of q) unit (laid_over row.bytes offset bytes)
                ≡ row_bytes_at (policy_of attempt.work) (kind_of q) unit row.bytes) object same) in
                (k, old, at, (has.0, stays ∙ has.1)))
                (over.each row.bytes fits unit);
          }

      -- a row that was found is one that was told, or an own one
      found_so : (recovery : Recovery) (search : Search) (shown_policy : Policy) → AnswersAreSo search
          → live_policy (shown_node node) search.oid ≡ Some shown_policy
          → are_enough shown_policy (kind_of search.oid) (rows_found
          (record { recovery = recovery; shown = shown_node node }) shown_policy search)
          ≡ true → (index : ℕ)
          → IsSoCopy search.oid index (part_from_rows shown_policy (kind_of search.oid) index
          (rows_taken shown_policy (kind_of search.oid)
          (rows_found (record { recovery = recovery; shown = shown_node node }) shown_policy search)))
      found_so recovery search shown_policy answers live_so enough index policy alive known copies =
          let state : RecoveryState = record { recovery = recovery; shown = shown_node node } in
          let same : shown_policy ≡ policy = same_Some shown_policy policy (sym (knows search.oid shown_policy live_so) ∙ known) in
          let whole : is_in_strips shown_policy (kind_of search.oid) ≡ false
          = ap (λ (p : Policy). is_in_strips p (kind_of search.oid)) same ∙ copies in
          let rows = found-rows (λ (row : RowCopy). IsSoCopy search.oid row.index (row_bytes row)) state shown_policy search
          (λ i row got held.
          subst (IsSoCopy search.oid row.index) (sym (row_bytes-copy_of row))
          (all_at (RowIsSo node.peer.epoch search.oid) (rows_of node.peer.rows search.oid) i row got (are search.oid)))
          answers in
          let (row, is, bytes_so) = part-of_copy (λ (row : RowCopy). IsSoCopy search.oid row.index (row_bytes row)) shown_policy
          (kind_of search.oid) index (rows_found state shown_policy search) whole enough rows in
          subst (IsOfAttempts (kind_of search.oid) policy (attempts_on search.oid attempts) index) (sym bytes_so) (record {
            each = λ unit ends. reindexed policy search.oid row.index index unit (row_bytes row) known copies
                ((is policy alive known copies).each unit ends);
          })

      pub copies_kept : KeepsEachRow AnswersAreSo RowIsSo node input
      copies_kept = record {
        ended = λ oid row unshut other is. is;
        created = λ request key size offset bytes comes is own. created_so request key size offset bytes comes is;
        written = λ request key offset bytes row comes is own on unshut fits had.
            written_so request key offset bytes row comes is (open_index key.index row unshut) fits
            (length-laid_over row.bytes offset bytes fits) had;
        answered = told;
        anew = λ search on place answer got. absurd (cc (got));
        first = λ oid place answer got. absurd (cc (got));
        found = λ may recovery me epoch search policy answers live_so pending enough.
            found_so recovery search policy answers live_so enough
            (own_index policy search (record { recovery = recovery; shown = shown_node node }));
        stays = λ entry comes begins oid row open_still had. had;
        shut = λ entry comes begins oid row had. closed_bytes (IsSoCopy oid) node.peer.epoch row had;
        returned = λ entries comes oid row had. closed_bytes (IsSoCopy oid) node.peer.epoch row had;
      }
        where
          open_index : (index : ℕ) (row : SeenRow) → is_open_at index row ≡ true → row.index ≡ index
          open_index index row unshut = eqb-true row.index index (and_parts (is_open row) (nat_eq row.index index) unshut).1
