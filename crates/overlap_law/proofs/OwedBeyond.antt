-- What a row owes beyond what its node served is doomed: an attempt whose epoch the row covers and reaches beyond, if the node hasn't
-- served it; and the last attempt on the object, if a row reaches beyond its epoch and nothing of the attempt is served.
use Rattle.std.proofs.Common.{◌≡◌, ◌⊎◌, inl, inr, ⊎_elim, arith, ℕ, zero, suc, ◌+◌, ◌≤◌, ◌<◌, ◌==◌, nat_lt, nat_le, not, Bool, true, false}
use Rattle.std.proofs.Common.{cond, ◌||◌, ◌&&◌, List, [], ◌∷◌, length, slice_get, Option, Some, None, is_some, refl, sym, ap, subst, ◌∙◌}
use Rattle.std.specs.List.{list_any, list_all, position_or_len}
use Rattle.std.specs.Option.{option_map, option_map_or}
use Rattle.std.specs.FinMap as tree
use Rattle.std.proofs.lemmas.Bool.{and_parts, cases_lt, eqb-true, eq-eqb, le-leb, leb-true, lt-ltb, ltb-true, or_cases, or_left, or_right}
use Rattle.std.proofs.lemmas.Option.{same_Some}
use Rattle.object_id.specs.declared.entry.Entry.{Entry}
use Rattle.object_id.specs.declared.entry.Member.{Member}
use Rattle.object_id.specs.declared.node.Epoch.{Epoch}
use Rattle.object_id.specs.declared.node.NodeId.{NodeId}
use Rattle.object_id.specs.declared.oid.Kind.{Kind}
use Rattle.object_id.specs.declared.policy.Policy.{Policy}
use Rattle.object_id.specs.Oid.{kind_of}
use Rattle.object_store.specs.Rows.{is_open}
use Rattle.object_store.specs.Store.{SeenRow, rows_of}
use Rattle.epoch_log.specs.Members.{is_member}
use Rattle.epoch_log.specs.Epochs.{epoch_of, members_in}
use Rattle.gf256.specs.Part.{index_at, index_among}
use Rattle.object_list.specs.Gathered.{has_node}
use Rattle.peer_proto.specs.Work.{policy_of}
use Rattle.vdi_directory.specs.Decisions.{log_effects}
use Rattle.sheep_world.specs.World.{Host}
use Rattle.overlap_law.specs.Attempts.{AttemptRecord, MessageFate, Flying, Served, Doomed, object_of}
use Rattle.overlap_law.specs.Words.{is_served, is_in_vain, is_one_in_vain, is_doomed, is_mute, is_served_by, has_served}
use Rattle.overlap_law.specs.Reached.{Hosts, has_come_in, has_come, is_beyond, has_entered}
use Rattle.overlap_law.specs.Holders.{targets_by}
use Rattle.overlap_law.specs.Each.{end_of_row, row_covers}
use Rattle.overlap_law.specs.Fates.{AttemptsAreShaped, AttemptsAreOrdered}
use Rattle.overlap_law.specs.NodeEpochs.{LeaversAreBeyond}
use Rattle.overlap_law.specs.Packets.{Wire}
use Rattle.overlap_law.specs.Rows.{RowsHaveEnds, RowsAreAtTargets, RowsAreBegun, HasServedACreate}
use Rattle.overlap_law.proofs.HolderLemmas.{target-member}

-- ---- a target by its index

module _ (node : NodeId) where
  abbrev is_it : NodeId → Bool
  is_it target = target.0 == node.0

  -- it stands among the nodes where its place is below their number
  first_place : (nodes : List NodeId) → nat_lt (position_or_len is_it nodes) (length nodes) ≡ true
      → (place : ℕ) × (target : NodeId) × (slice_get nodes place ≡ Some target) × (target.0 ≡ node.0)
  first_place [] below = absurd (cc (below))
  first_place (first ∷ nodes) below = by_test (is_it first) refl below (first_place nodes)
    where
      by_test : (b : Bool) → is_it first ≡ b → nat_lt (cond (not b) (1 + position_or_len is_it nodes) 0) (length (first ∷ nodes)) ≡ true
          → (nat_lt (position_or_len is_it nodes) (length nodes) ≡ true
          → (place : ℕ) × (target : NodeId) × (slice_get nodes place ≡ Some target) × (target.0 ≡ node.0))
          → (place : ℕ) × (target : NodeId) × (slice_get (first ∷ nodes) place ≡ Some target) × (target.0 ≡ node.0)
      by_test true is below later = (0, first, refl, eqb-true first.0 node.0 is)
      by_test false is below later =
          let less : 1 + position_or_len is_it nodes < length (first ∷ nodes)
          = ltb-true (1 + position_or_len is_it nodes) (length (first ∷ nodes)) below in
          let (place, target, got, own) = later
          (lt-ltb (position_or_len is_it nodes) (length nodes) (omega (arith, less))) in
          (suc place, target, got, own)

  pub placed_at : (nodes : List NodeId) (policy : Policy) (kind : Kind) (index : ℕ) → index_among node nodes policy kind ≡ Some index
      → (place : ℕ) × (target : NodeId) × (slice_get nodes place ≡ Some target) × (target.0 ≡ node.0)
  placed_at nodes policy kind index is = by_place (nat_lt (position_or_len is_it nodes) (length nodes)) refl is
    where
      by_place : (b : Bool) → nat_lt (position_or_len is_it nodes) (length nodes) ≡ b
          → option_map (index_at policy kind) (cond b (Some (position_or_len is_it nodes)) None) ≡ Some index
          → (place : ℕ) × (target : NodeId) × (slice_get nodes place ≡ Some target) × (target.0 ≡ node.0)
      by_place true below is = first_place nodes below
      by_place false past is = absurd (cc (is))

-- ---- one message in vain dooms the attempt

-- a target that is beyond the epoch and hasn't served
pub vain_at : (hosts : Hosts) (epoch : ℕ) (targets : List NodeId) (fates : List MessageFate) → length fates ≡ length targets
    → (place : ℕ) (target : NodeId) → slice_get targets place ≡ Some target → is_beyond hosts epoch target ≡ true
    → is_served_by target targets fates ≡ false → is_one_in_vain hosts epoch targets fates ≡ true
vain_at hosts epoch [] fates long place target got beyond unserved = absurd (cc (got))
vain_at hosts epoch (first ∷ targets) [] long place target got beyond unserved = absurd (cc (long))
vain_at hosts epoch (first ∷ targets) (fate ∷ fates) long zero target got beyond unserved =
    let same : first ≡ target = same_Some first target got in
    or_left (is_in_vain hosts epoch first fate) (is_one_in_vain hosts epoch targets fates)
    (by_fate fate (ap (is_beyond hosts epoch) same ∙ beyond)
    (first_unserved fate (eq-eqb first.0 target.0 (ap (λ (n : NodeId). n.0) same)) unserved))
  where
    by_fate : (fate : MessageFate) → is_beyond hosts epoch first ≡ true → is_served fate ≡ false → is_in_vain hosts epoch first fate ≡ true
    by_fate Flying beyond un = beyond
    by_fate Served beyond un = absurd (cc (un))
    by_fate Doomed beyond un = refl

    first_unserved : (fate : MessageFate) → (first.0 == target.0) ≡ true
        → ((first.0 == target.0 && is_served fate) || is_served_by target targets fates) ≡ false → is_served fate ≡ false
    first_unserved Flying own none = refl
    first_unserved Served own none =
        let some : ((first.0 == target.0 && true) || is_served_by target targets fates) ≡ true
        = or_left (first.0 == target.0 && true) (is_served_by target targets fates) (ap (λ (b : Bool). b && true) own) in
        absurd (cc (some, none))
    first_unserved Doomed own none = refl
vain_at hosts epoch (first ∷ targets) (fate ∷ fates) long (suc place) target got beyond unserved =
    or_right (is_in_vain hosts epoch first fate) (is_one_in_vain hosts epoch targets fates)
    (vain_at hosts epoch targets fates (cc (long)) place target got beyond
    (later_unserved (first.0 == target.0 && is_served fate) (is_served_by target targets fates) unserved))
  where
    later_unserved : (a b : Bool) → (a || b) ≡ false → b ≡ false
    later_unserved true b none = absurd (cc (none))
    later_unserved false b none = none

-- nobody has served what is mute
pub none_served : (node : NodeId) (targets : List NodeId) (fates : List MessageFate) → not (list_any is_served fates) ≡ true
    → is_served_by node targets fates ≡ false
none_served node [] fates mute = refl
none_served node (target ∷ targets) [] mute = refl
none_served node (target ∷ targets) (Flying ∷ fates) mute =
    no_one (target.0 == node.0) (is_served_by node targets fates) (none_served node targets fates mute)
  where
    no_one : (a b : Bool) → b ≡ false → ((a && false) || b) ≡ false
    no_one true b none = none
    no_one false b none = none
none_served node (target ∷ targets) (Served ∷ fates) mute = absurd (cc (mute))
none_served node (target ∷ targets) (Doomed ∷ fates) mute =
    no_one (target.0 == node.0) (is_served_by node targets fates) (none_served node targets fates mute)
  where
    no_one : (a b : Bool) → b ≡ false → ((a && false) || b) ≡ false
    no_one true b none = none
    no_one false b none = none

-- ---- a node that is beyond

-- one with a row that reaches beyond an epoch
row_beyond : (hosts : Hosts) → RowsHaveEnds hosts → (n : ℕ) (host : Host) → tree.get hosts n ≡ Some host → (oid i : ℕ) (row : SeenRow)
    → slice_get (rows_of host.node.peer.rows oid) i ≡ Some row → (epoch : ℕ) → epoch < end_of_row host.node.peer.epoch row.to
    → is_beyond hosts epoch (record { 0 = n }) ≡ true
row_beyond hosts ends n host there oid i row got epoch reaches =
    ap (λ (o : Option Host). option_map_or (has_come_in (epoch + 1)) o true) there ∙ by_lost host.is_lost refl
  where
    by_end : (to : Option Epoch) → row.to ≡ to → host.is_lost ≡ false → epoch < end_of_row host.node.peer.epoch to
        → epoch + 1 ≤ host.node.peer.epoch
    by_end None is up reaches = omega (arith, reaches)
    by_end (Some last) is up reaches =
        let shut : is_open row ≡ false = ap (λ (o : Option Epoch). is_open (record row { to = o })) is in
        let ended : end_of_row 0 row.to < host.node.peer.epoch = ends.closed n host there oid i row got up shut in
        let at : end_of_row 0 row.to ≡ last.0 = ap (end_of_row 0) is in
        omega (arith, reaches, ended, at)

    by_lost : (b : Bool) → host.is_lost ≡ b → (b || nat_le (epoch + 1) host.node.peer.epoch) ≡ true
    by_lost true lost = refl
    by_lost false up = le-leb (epoch + 1) host.node.peer.epoch (by_end row.to refl up reaches)

module _ (log : List Entry) (hosts : Hosts) (attempts : List AttemptRecord)
    (shaped : AttemptsAreShaped (targets_by log) log attempts)
    (whole : (j : ℕ) (attempt : AttemptRecord) → slice_get attempts j ≡ Some attempt → length attempt.fates ≡ length attempt.targets)
    (ends : RowsHaveEnds hosts) (placed : RowsAreAtTargets (targets_by log) (log_effects log) hosts) where
  -- the node of a row that covers the epoch of an attempt and reaches beyond it has served the attempt, or it is doomed
  pub unserved_is_doomed : (j : ℕ) (attempt : AttemptRecord) → slice_get attempts j ≡ Some attempt → (n : ℕ) (host : Host)
      → tree.get hosts n ≡ Some host → (i : ℕ) (row : SeenRow)
      → slice_get (rows_of host.node.peer.rows (object_of attempt)) i ≡ Some row
      → row_covers host.node.peer.epoch attempt.epoch row ≡ true → attempt.epoch < end_of_row host.node.peer.epoch row.to
      → has_served (record { 0 = n }) attempt ≡ false → is_doomed hosts attempt ≡ true
  unserved_is_doomed j attempt there n host got i row at covers reaches unserved =
      let known = shaped.policy j attempt there in
      let index = placed.each n host got (object_of attempt) i row at (policy_of attempt.work) attempt.epoch known covers in
      let (place, target, among, own) = placed_at (record { 0 = n })
      (targets_by log attempt.epoch (object_of attempt) (policy_of attempt.work)) (policy_of attempt.work) (kind_of (object_of attempt))
      row.index index in
      let target_so : target ≡ record { 0 = n } = λ k. record { 0 = own k } in
      let among_so : slice_get attempt.targets place ≡ Some (record { 0 = n })
      = ap (λ (nodes : List NodeId). slice_get nodes place) (shaped.targets j attempt there) ∙ among
      ∙ ap (λ (node : NodeId). Some node) target_so in
      vain_at hosts attempt.epoch attempt.targets attempt.fates (whole j attempt there) place (record { 0 = n }) among_so
      (row_beyond hosts ends n host got (object_of attempt) i row at attempt.epoch reaches) unserved

  -- ---- of an attempt of which nothing is served

  -- each member of an entered epoch has come to it
  entered_member : (members : List Member) (epoch n : ℕ) → list_all (λ (member : Member). has_come hosts epoch member.node) members ≡ true
      → is_member n members ≡ true → has_come hosts epoch (record { 0 = n }) ≡ true
  entered_member [] epoch n all among = absurd (cc (among))
  entered_member (first ∷ members) epoch n all among =
      let parts = and_parts (has_come hosts epoch first.node)
      (list_all (λ (member : Member). has_come hosts epoch member.node) members) all in
      ⊎_elim
      (λ (here : (first.node.0 == n) ≡ true).
      subst (λ (k : ℕ). has_come hosts epoch (record { 0 = k }) ≡ true) (eqb-true first.node.0 n here) parts.0)
      (λ (later : is_member n members ≡ true). entered_member members epoch n parts.1 later)
      (or_cases (first.node.0 == n) (is_member n members) among)

  -- who has come to a later epoch is beyond an earlier one
  come_beyond : (epoch later : ℕ) (node : NodeId) → epoch < later → has_come hosts later node ≡ true → is_beyond hosts epoch node ≡ true
  come_beyond epoch later node less came = by_host (tree.get hosts node.0) came
    where
      by_lost : (epoch_of_node : ℕ) (b : Bool) → (b || nat_le later epoch_of_node) ≡ true → (b || nat_le (epoch + 1) epoch_of_node) ≡ true
      by_lost e true came = refl
      by_lost e false came = let low = leb-true later e came in le-leb (epoch + 1) e (omega (arith, low, less))

      by_host : (o : Option Host) → option_map_or (has_come_in later) o true ≡ true → option_map_or (has_come_in (epoch + 1)) o true ≡ true
      by_host None came = refl
      by_host (Some host) came = by_lost host.node.peer.epoch host.is_lost came

  module _ (wire : Wire) (live : ℕ → Bool) (ordered : AttemptsAreOrdered wire attempts) (left : LeaversAreBeyond log hosts)
      (begun : RowsAreBegun log live hosts attempts)
      (seated : (n k : ℕ) → k ≤ epoch_of log → is_member n (members_in log k) ≡ true → is_some (tree.get hosts n) ≡ true) where
    -- its targets are beyond its epoch, where a later one was entered
    targets_beyond : (j : ℕ) (attempt : AttemptRecord) → slice_get attempts j ≡ Some attempt → (later : ℕ) → attempt.epoch < later
        → later ≤ epoch_of log → has_entered hosts log later ≡ true → (place : ℕ) (target : NodeId)
        → slice_get attempt.targets place ≡ Some target → is_beyond hosts attempt.epoch target ≡ true
    unfolding has_entered
    targets_beyond j attempt there later less most entered place target got =
        let member : is_member target.0 (members_in log attempt.epoch) ≡ true
        = target-member log attempt.epoch (object_of attempt) (policy_of attempt.work) target
        (ap (has_node target) (sym (shaped.targets j attempt there)) ∙ among attempt.targets place got) in
        come_beyond attempt.epoch later target less (by_member (is_member target.0 (members_in log later)) refl member)
      where
        among : (nodes : List NodeId) (place : ℕ) → slice_get nodes place ≡ Some target → has_node target nodes ≡ true
        among [] place got = absurd (cc (got))
        among (first ∷ nodes) zero got =
            or_left (first.0 == target.0) (has_node target nodes)
            (eq-eqb first.0 target.0 (ap (λ (n : NodeId). n.0) (same_Some first target got)))
        among (first ∷ nodes) (suc place) got = or_right (first.0 == target.0) (has_node target nodes) (among nodes place got)

        by_seat : (o : Option Host) → tree.get hosts target.0 ≡ o → is_some o ≡ true
            → is_member target.0 (members_in log attempt.epoch) ≡ true → is_member target.0 (members_in log later) ≡ false
            → has_come hosts later target ≡ true
        by_seat None is some member out = absurd (cc (some))
        by_seat (Some host) is some member out = left.each target.0 host is attempt.epoch later member less most out

        by_member : (b : Bool) → is_member target.0 (members_in log later) ≡ b → is_member target.0 (members_in log attempt.epoch) ≡ true
            → has_come hosts later target ≡ true
        by_member true still member = entered_member (members_in log later) later target.0 entered still
        by_member false out member =
            by_seat (tree.get hosts target.0) refl (seated target.0 attempt.epoch (shaped.begun j attempt there) member) member out

    -- the last attempt on an object, of which nothing is served, is doomed where a row of the object reaches beyond its epoch
    pub mute_is_doomed : (j : ℕ) (attempt : AttemptRecord) → slice_get attempts j ≡ Some attempt
        → ((k : ℕ) (other : AttemptRecord) → slice_get attempts k ≡ Some other → object_of other ≡ object_of attempt → k ≤ j)
        → is_mute attempt ≡ true → 1 ≤ length attempt.targets → live (object_of attempt) ≡ true → (n : ℕ) (host : Host)
        → tree.get hosts n ≡ Some host → (i : ℕ) (row : SeenRow)
        → slice_get (rows_of host.node.peer.rows (object_of attempt)) i ≡ Some row → row.from.0 ≤ epoch_of log
        → attempt.epoch < end_of_row host.node.peer.epoch row.to → is_doomed hosts attempt ≡ true
    mute_is_doomed j attempt there last mute some alive n host got i row at within reaches = ⊎_elim
        (λ (later : attempt.epoch < row.from.0). behind later (begun.each n host got (object_of attempt) i row at alive))
        (λ (before : row.from.0 ≤ attempt.epoch).
        unserved_is_doomed j attempt there n host got i row at
        (both (nat_le row.from.0 attempt.epoch) (nat_le attempt.epoch (end_of_row host.node.peer.epoch row.to))
        (le-leb row.from.0 attempt.epoch before)
        (le-leb attempt.epoch (end_of_row host.node.peer.epoch row.to) (omega (arith, reaches))))
        reaches (none_served (record { 0 = n }) attempt.targets attempt.fates mute))
        (cases_lt attempt.epoch row.from.0)
      where
        both : (a b : Bool) → a ≡ true → b ≡ true → (a && b) ≡ true
        both true b one other = other
        both false b one other = absurd (cc (one))

        first : (nodes : List NodeId) → 1 ≤ length nodes → (target : NodeId) × (slice_get nodes 0 ≡ Some target)
        first [] none = absurd (omega (arith, none))
        first (node ∷ nodes) some = (node, refl)

        behind : attempt.epoch < row.from.0
            → HasServedACreate attempts (object_of attempt) row.from.0 (record { 0 = n }) ⊎ (has_entered hosts log row.from.0 ≡ true)
            → is_doomed hosts attempt ≡ true
        behind later (inl create) =
            let most = last create.place create.create create.there create.object in
            let epoch = create.of_epoch in
            ⊎_elim
            (λ (less : create.place < j).
            let order = (ordered.each create.place create.create create.there j attempt there less create.object).epochs in
            absurd (omega (arith, order, epoch, later)))
            (λ (least : j ≤ create.place).
            let same : create.place ≡ j = omega (arith, most, least) in
            let one : create.create ≡ attempt
            = same_Some create.create attempt (sym create.there ∙ ap (slice_get attempts) same ∙ there) in
            let own : create.create.epoch ≡ attempt.epoch = ap (λ (a : AttemptRecord). a.epoch) one in
            absurd (omega (arith, own, epoch, later)))
            (cases_lt create.place j)
        behind later (inr entered) =
            let (target, among) = first attempt.targets some in
            vain_at hosts attempt.epoch attempt.targets attempt.fates (whole j attempt there) 0 target among
            (targets_beyond j attempt there row.from.0 later within entered 0 target among)
            (none_served target attempt.targets attempt.fates mute)
