-- The contents of rows: a row that reaches the epoch of its object's base owes the own base of each of its units, which is made and so
-- isn't doomed; at a quiet unit that is what the made attempts come to, and a copy has the bytes of it or of a later attempt.
use Rattle.std.proofs.Common.{◌≡◌, ⊎_elim, arith, ℕ, suc, ◌<◌, ◌≤◌, ◌==◌, ◌&&◌, nat_le, nat_lt, Bool, true, false}
use Rattle.std.proofs.Common.{List, [], ◌∷◌, filter, Any, Option, Some, None, option_map, slice_get, refl, sym, ap, subst, ◌∙◌}
use Rattle.std.specs.List.{AllByRecursion}
use Rattle.std.specs.FinMap as tree
use Rattle.std.proofs.lemmas.Bool.{and_parts, cases_lt, eq-eqb, eqb-true, le-leb, lt-ltb, or_left, or_right}
use Rattle.std.proofs.lemmas.Option.{same_Some}
use Rattle.object_id.specs.declared.entry.Entry.{Entry}
use Rattle.object_id.specs.declared.entry.VdiSpec.{VdiSpec}
use Rattle.object_id.specs.declared.node.NodeId.{NodeId}
use Rattle.object_id.specs.declared.oid.Kind.{Kind}
use Rattle.object_id.specs.declared.policy.Policy.{Policy}
use Rattle.object_id.specs.Oid.{kind_of, vid_of}
use Rattle.object_list.specs.Gathered.{has_node}
use Rattle.object_store.specs.Store.{SeenRow, rows_of}
use Rattle.gf256.specs.Part.{part, is_in_strips}
use Rattle.vdi_directory.specs.Decisions.{log_effects}
use Rattle.peer_service.specs.State.{object_size}
use Rattle.peer_proto.specs.Work.{policy_of}
use Rattle.sheep_world.specs.World.{Host}
use Rattle.overlap_law.specs.Attempts.{AttemptRecord, object_of, attempts_on}
use Rattle.overlap_law.specs.Contents.{made_part, HasBase, RowContents}
use Rattle.overlap_law.specs.Each.{Placing, end_of_row, spec_in, policy_in}
use Rattle.overlap_law.specs.Fates.{FatesAreOfTheWire, AttemptsAreShaped, AttemptsAreWhole, AttemptsAreOrdered, IsWhole, CreatesComeFirst}
use Rattle.overlap_law.specs.Packets.{Wire}
use Rattle.overlap_law.specs.Rows.{RowsHaveEnds, RowsAreAtTargets}
use Rattle.overlap_law.specs.Since.{RowsAreSince, reading_by, owes_attempt}
use Rattle.overlap_law.specs.Units.{unit_end, unit_bytes, row_bytes_at, covers_unit, laid_over_in_order, bytes_by, unit_part_by}
use Rattle.overlap_law.specs.Words.{Hosts, is_made, is_doomed, has_served, base_of, own_base_of, later_on, is_quiet}
use Rattle.overlap_law.proofs.BaseLemmas.{made-served}
use Rattle.overlap_law.proofs.FateLemmas.{made-not_doomed}
use Rattle.overlap_law.proofs.LackedInRuns.{index-has_node}
use Rattle.overlap_law.proofs.LaidAttempts.{IsWholeOn, covered_within, laid_own, starts}
use Rattle.overlap_law.proofs.LastAttempts.{IsLast, last_of_both, own_last, own_or_later, own_among, quiet_behind}
use Rattle.overlap_law.proofs.OverlapLemmas.{filter-passed}

-- ---- what may be read as of the own base

module _ (oid : ℕ) (policy : Policy) (attempts : List AttemptRecord) (unit index : ℕ) (bytes : List ℕ) (own : AttemptRecord)
    (last : IsLast (λ (a : AttemptRecord). covers_unit unit a && is_made a) attempts own) where
  -- at a quiet unit it is its part
  read_quiet : (strips : Bool) → is_quiet unit attempts ≡ true → reading_by strips attempts unit last.place index bytes
      → bytes ≡ unit_part_by index unit own.work
  read_quiet true quiet read = read.own own last.there (record {
    each = λ k later at behind covers. absurd (quiet_behind unit attempts own last quiet k later at behind covers);
  })
  read_quiet false quiet read = ⊎_elim
      (λ (behind : last.place < read.place).
      absurd (quiet_behind unit attempts own last quiet read.place read.attempt read.there behind read.covering))
      (λ (before : read.place ≤ last.place).
      let below : last.place ≤ read.place = read.no_earlier in
      let at : read.place ≡ last.place = omega (arith, before, below) in
      let there = subst (λ (k : ℕ). slice_get attempts k ≡ Some read.attempt) at read.there in
      let one : read.attempt ≡ own = cc (there, last.there) in
      read.same ∙ ap (λ (a : AttemptRecord). unit_part_by index unit a.work) one)
      (cases_lt last.place read.place)

  -- of a copy that, or the part of a later one
  read_copy : reading_by false attempts unit last.place index bytes
      → Any (λ (a : AttemptRecord). bytes ≡ unit_part_by index unit a.work) (own ∷ later_on unit attempts)
  read_copy read = ⊎_elim
      (λ (behind : last.place < read.place). own_or_later
      (λ (a : AttemptRecord). bytes ≡ unit_part_by index unit a.work) unit attempts own last
      read.place read.attempt read.there behind read.covering read.same)
      (λ (before : read.place ≤ last.place).
      let below : last.place ≤ read.place = read.no_earlier in
      let at : read.place ≡ last.place = omega (arith, before, below) in
      let there = subst (λ (k : ℕ). slice_get attempts k ≡ Some read.attempt) at read.there in
      let one : read.attempt ≡ own = cc (there, last.there) in
      own_among (λ (a : AttemptRecord). bytes ≡ unit_part_by index unit a.work) own (later_on unit attempts)
      (read.same ∙ ap (λ (a : AttemptRecord). unit_part_by index unit a.work) one))
      (cases_lt last.place read.place)

-- an object with a policy has a spec
pub spec_there : (log : List Entry) (oid : ℕ) (policy : Policy) → policy_in (log_effects log) oid ≡ Some policy
    → (spec : VdiSpec) × (spec_in (log_effects log) (vid_of oid) ≡ Some spec)
spec_there log oid policy is = by_spec (spec_in (log_effects log) (vid_of oid)) refl is
  where
    by_spec : (o : Option VdiSpec) → spec_in (log_effects log) (vid_of oid) ≡ o
        → option_map (λ (spec : VdiSpec). spec.policy) o ≡ Some policy
        → (spec : VdiSpec) × (spec_in (log_effects log) (vid_of oid) ≡ Some spec)
    by_spec None none got = absurd (cc (got))
    by_spec (Some spec) one got = (spec, one)

-- ---- what a row owes

module _ {T : Placing} {log : List Entry} {hosts : Hosts} {wire : Wire} {attempts : List AttemptRecord}
    (fates : FatesAreOfTheWire wire attempts) (shape : AttemptsAreShaped T log attempts) (ends : RowsHaveEnds hosts)
    (placed : RowsAreAtTargets T (log_effects log) hosts) where
  -- a row that reaches the epoch of a made attempt on its object owes it
  pub owes_made : (n : ℕ) (host : Host) → tree.get hosts n ≡ Some host → (oid i : ℕ) (row : SeenRow)
      → slice_get (rows_of host.node.peer.rows oid) i ≡ Some row → (j : ℕ) (attempt : AttemptRecord) → slice_get attempts j ≡ Some attempt
      → object_of attempt ≡ oid → is_made attempt ≡ true → attempt.epoch ≤ end_of_row host.node.peer.epoch row.to
      → owes_attempt (record { 0 = n }) (end_of_row host.node.peer.epoch row.to) (end_of_row host.node.peer.epoch row.to) attempt ≡ true
  owes_made n host at oid i row row_at j attempt there object made reaches = ⊎_elim
      (λ (below : attempt.epoch < end). or_left (nat_lt attempt.epoch end) (has_served node attempt && nat_le attempt.epoch end)
      (lt-ltb attempt.epoch end below))
      (λ (above : end ≤ attempt.epoch). or_right (nat_lt attempt.epoch end) (has_served node attempt && nat_le attempt.epoch end)
      (both (has_served node attempt) (nat_le attempt.epoch end) (served above) (le-leb attempt.epoch end reaches)))
      (cases_lt attempt.epoch end)
    where
      end : ℕ
      end = end_of_row host.node.peer.epoch row.to

      node : NodeId
      node = record { 0 = n }

      both : (b c : Bool) → b ≡ true → c ≡ true → (b && c) ≡ true
      both b c one other = cc (one, other)

      policy : policy_in (log_effects log) oid ≡ Some (policy_of attempt.work)
      policy = subst (λ (q : ℕ). policy_in (log_effects log) q ≡ Some (policy_of attempt.work)) object (shape.policy j attempt there)

      targets : attempt.targets ≡ T attempt.epoch oid (policy_of attempt.work)
      targets = shape.targets j attempt there ∙ ap (λ (q : ℕ). T attempt.epoch q (policy_of attempt.work)) object

      served : end ≤ attempt.epoch → has_served node attempt ≡ true
      served above =
          let same : end ≡ attempt.epoch = omega (arith, above, reaches) in
          let covers = both (nat_le row.from.0 end) (nat_le end end) (le-leb row.from.0 end (ends.order n host at oid i row row_at))
          (le-leb end end (omega arith)) in
          let placed_so = placed.each n host at oid i row row_at (policy_of attempt.work) end policy covers in
          let among = index-has_node node (T end oid (policy_of attempt.work)) (policy_of attempt.work) (kind_of oid) row.index placed_so in
          let own = subst (λ (e : ℕ). has_node node (T e oid (policy_of attempt.work)) ≡ true) same among in
          made-served node attempt (fates.whole j attempt there) made
          (subst (λ (nodes : List NodeId). has_node node nodes ≡ true) (sym targets) own)

-- ---- the contents

module _ {T : Placing} {log : List Entry} {hosts : Hosts} {wire : Wire} {attempts : List AttemptRecord} {good : ℕ → Bool}
    (fates : FatesAreOfTheWire wire attempts) (shape : AttemptsAreShaped T log attempts)
    (units : AttemptsAreWhole (log_effects log) attempts) (ordered : AttemptsAreOrdered wire attempts) (first : CreatesComeFirst attempts)
    (ends : RowsHaveEnds hosts) (placed : RowsAreAtTargets T (log_effects log) hosts)
    (since : RowsAreSince (log_effects log) good hosts attempts) where
  -- an attempt on an object stands among all
  on_object : (oid j : ℕ) (attempt : AttemptRecord) → slice_get (attempts_on oid attempts) j ≡ Some attempt
      → (k : ℕ) × (slice_get attempts k ≡ Some attempt) × (object_of attempt ≡ oid)
  on_object oid j attempt there =
      let found = filter-passed (λ (a : AttemptRecord). object_of a == oid) attempts j attempt there in
      (found.place, found.there, eqb-true (object_of attempt) oid found.passed)

  -- no made attempt on an object is of a later epoch than its base
  of_base : (oid : ℕ) (base : AttemptRecord) → base_of (attempts_on oid attempts) ≡ Some base → (k : ℕ) (own : AttemptRecord)
      → slice_get attempts k ≡ Some own → object_of own ≡ oid → is_made own ≡ true → own.epoch ≤ base.epoch
  of_base oid base is k own there object made = ⊎_elim
      (λ (behind : last.place < k).
      let fails = last.none k own there behind in
      let on = eq-eqb (object_of own) oid object in
      absurd (cc (fails, on, made)))
      (λ (before : k ≤ last.place). ⊎_elim
      (λ (less : k < last.place).
      let same : object_of own ≡ object_of base = object ∙ sym base_on in
      (ordered.each k own there last.place base last.there less same).epochs)
      (λ (least : last.place ≤ k).
      let at : last.place ≡ k = omega (arith, before, least) in
      let base_at = subst (λ (p : ℕ). slice_get attempts p ≡ Some base) at last.there in
      let one : own ≡ base = cc (there, base_at) in
      let epochs : own.epoch ≡ base.epoch = ap (λ (a : AttemptRecord). a.epoch) one in
      omega (arith, epochs))
      (cases_lt k last.place))
      (cases_lt last.place k)
    where
      last : IsLast (λ (a : AttemptRecord). (object_of a == oid) && is_made a) attempts base
      last = last_of_both (λ (a : AttemptRecord). object_of a == oid) is_made attempts base is

      base_on : object_of base ≡ oid
      base_on = eqb-true (object_of base) oid (and_parts (object_of base == oid) (is_made base) last.passed).0

  -- ---- the made attempts on it

  whole_on : (oid : ℕ) (spec : VdiSpec) → spec_in (log_effects log) (vid_of oid) ≡ Some spec → (list : List AttemptRecord)
      → ((j : ℕ) (attempt : AttemptRecord) → slice_get list j ≡ Some attempt
      → (k : ℕ) × (slice_get attempts k ≡ Some attempt) × (object_of attempt ≡ oid))
      → AllByRecursion (IsWholeOn oid (object_size spec (kind_of oid))) list
  whole_on oid spec specified [] there = tt
  whole_on oid spec specified (attempt ∷ list) there = (
    record {
      object = (there 0 attempt refl).2;
      whole = subst
          (λ (q : ℕ). spec_in (log_effects log) (vid_of q) ≡ Some spec → IsWhole (object_size spec (kind_of q)) attempt.work)
          (there 0 attempt refl).2 (units.each (there 0 attempt refl).0 attempt (there 0 attempt refl).1 spec) specified;
    },
    whole_on oid spec specified list (λ j other at. there (suc j) other at),
  )

  module _ (oid : ℕ) (is_good : good oid ≡ true) (base : AttemptRecord) (is_base : base_of (attempts_on oid attempts) ≡ Some base)
      (n : ℕ) (host : Host) (at : tree.get hosts n ≡ Some host) (i : ℕ) (row : SeenRow)
      (row_at : slice_get (rows_of host.node.peer.rows oid) i ≡ Some row)
      (reaches : base.epoch ≤ end_of_row host.node.peer.epoch row.to) where
    abbrev kind : Kind
    kind = kind_of oid

    abbrev policy : Policy
    policy = policy_of base.work

    policy_at : (k : ℕ) (attempt : AttemptRecord) → slice_get attempts k ≡ Some attempt → object_of attempt ≡ oid
        → policy_in (log_effects log) oid ≡ Some (policy_of attempt.work)
    policy_at k attempt there object =
        subst (λ (q : ℕ). policy_in (log_effects log) q ≡ Some (policy_of attempt.work)) object (shape.policy k attempt there)

    policy_is : policy_in (log_effects log) oid ≡ Some policy
    policy_is =
        let last = last_of_both (λ (a : AttemptRecord). object_of a == oid) is_made attempts base is_base in
        policy_at last.place base last.there
        (eqb-true (object_of base) oid (and_parts (object_of base == oid) (is_made base) last.passed).0)

    module _ (unit : ℕ) (own : AttemptRecord) (is_own : own_base_of unit (attempts_on oid attempts) ≡ Some own) where
      last : IsLast (λ (a : AttemptRecord). covers_unit unit a && is_made a) (attempts_on oid attempts) own
      last = own_last unit (attempts_on oid attempts) own is_own

      covers : covers_unit unit own ≡ true
      covers = (and_parts (covers_unit unit own) (is_made own) last.passed).0

      made : is_made own ≡ true
      made = (and_parts (covers_unit unit own) (is_made own) last.passed).1

      among : (k : ℕ) × (slice_get attempts k ≡ Some own) × (object_of own ≡ oid)
      among = on_object oid last.place own last.there

      own_policy : policy_of own.work ≡ policy
      own_policy = same_Some (policy_of own.work) policy (sym (policy_at among.0 own among.1 among.2) ∙ policy_is)

      abbrev bytes : List ℕ
      bytes = row_bytes_at policy kind unit row.bytes

      reads : reading_by (is_in_strips policy kind) (attempts_on oid attempts) unit last.place row.index bytes
      reads =
          let epochs = of_base oid base is_base among.0 own among.1 among.2 made in
          let far : own.epoch ≤ end_of_row host.node.peer.epoch row.to = omega (arith, epochs, reaches) in
          let owed = owes_made fates shape ends placed n host at oid i row row_at among.0 own among.1 among.2 made far in
          ⊎_elim
          (λ (doomed : is_doomed hosts own ≡ true). absurd (let not = made-not_doomed hosts own made in cc (doomed, not)))
          (λ (read : reading_by (is_in_strips policy kind) (attempts_on oid attempts) unit last.place row.index bytes). read)
          ((since.each n host at oid i row row_at policy is_good policy_is).each last.place own last.there unit covers owed)

      laid : unit_bytes kind unit (laid_over_in_order (filter is_made (attempts_on oid attempts))) ≡ bytes_by unit own.work
      laid =
          let spec = spec_there log oid policy policy_is in
          let whole = whole_on oid spec.0 spec.1 (attempts_on oid attempts) (on_object oid) in
          let one = subst (λ (q : ℕ). spec_in (log_effects log) (vid_of q) ≡ Some spec.0
          → IsWhole (object_size spec.0 (kind_of q)) own.work) among.2 (units.each among.0 own among.1 spec.0) spec.1 in
          let within = covered_within (object_size spec.0 kind) unit own.work one covers in
          let fits = subst (λ (q : ℕ). unit_end (kind_of q) unit ≤ object_size spec.0 kind) among.2 within in
          laid_own oid (object_size spec.0 kind) unit (attempts_on oid attempts) fits whole (starts oid attempts first) own is_own

      its_part : unit_part_by row.index unit own.work ≡ made_part policy kind row.index unit (attempts_on oid attempts)
      its_part =
          ap (λ (p : Policy). part p (kind_of (object_of own)) row.index (bytes_by unit own.work)) own_policy
          ∙ ap (λ (q : ℕ). part policy (kind_of q) row.index (bytes_by unit own.work)) among.2
          ∙ ap (λ (list : List ℕ). part policy kind row.index list) (sym laid)

      copies_read : is_in_strips policy kind ≡ false → reading_by false (attempts_on oid attempts) unit last.place row.index bytes
      copies_read whole = subst (λ (b : Bool). reading_by b (attempts_on oid attempts) unit last.place row.index bytes) whole reads

      has_base : HasBase policy kind (attempts_on oid attempts) row.index row.bytes unit own
      has_base = record {
        quiet =
            λ quiet. read_quiet oid policy (attempts_on oid attempts) unit row.index bytes own last (is_in_strips policy kind) quiet reads
            ∙ its_part;
        copies = λ loud whole. read_copy oid policy (attempts_on oid attempts) unit row.index bytes own last (copies_read whole);
      }

  pub contents : (oid : ℕ) → good oid ≡ true → RowContents hosts oid (attempts_on oid attempts)
  contents oid is_good = record {
    each = λ base is_base n host at i row row_at reaches unit own is_own.
        has_base oid is_good base is_base n host at i row row_at reaches unit own is_own;
  }
