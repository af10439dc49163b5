-- The rows of a peer are as the rows of their objects are, and from epochs so far, whatever the peer serves, reads and comes back with.
use Rattle.std.proofs.Common.{◌≡◌, ◌≢◌, ⊎_elim, arith, ℕ, ◌+◌, ◌-◌, ◌^◌, ◌<◌, ◌≤◌, nat_le, nat_eq, Bool, true, false, not, ◌&&◌, cond, List}
use Rattle.std.proofs.Common.{[], ◌∷◌, length, map, filter, All, Option, Some, None, Ok, Err, refl, sym, ap, subst, ◌∙◌}
use Rattle.std.specs.FinMap as tree
use Rattle.std.proofs.lemmas.Bool.{cases_eq, cases_lt, eq-eqb, leb-true}
use Rattle.std.proofs.lemmas.List.{length-replicate}
use Rattle.std.proofs.lemmas.List.Elements.{All-nil, All-cons, All-head, All-tail, All-push, All-filter, All-weaker, All-get_or}
use Rattle.std.proofs.lemmas.Option.{same_Some, get_or_from_slice_get, slice_get_within}
use Rattle.proof_tools.proofs.Booleans.{cond_either}
use Rattle.object_id.specs.declared.entry.Entry.{Entry}
use Rattle.object_id.specs.declared.node.NodeId.{NodeId}
use Rattle.object_id.specs.declared.policy.Policy.{Policy}
use Rattle.object_id.specs.Fields.{zeros}
use Rattle.object_id.specs.Oid.{kind_of}
use Rattle.object_id.specs.Piece.{laid_over}
use Rattle.epoch_log.specs.Epochs.{settled_of}
use Rattle.object_store.specs.declared.fault.StoreFault.TheVariants.{OutOfObject}
use Rattle.object_store.specs.declared.key.Key.{Key}
use Rattle.object_store.specs.Rows.{has_ended_below, is_open, is_open_at, closed, closed_all, is_replaced, ended, changed, purged}
use Rattle.object_store.specs.Store.{AllRows, SeenRow, rows_of, open_row, on_open, write_in, write_at, create_in, each}
use Rattle.object_store.proofs.CallLaws.{length-laid_over}
use Rattle.object_store.proofs.StoreLaws.{rows_of-insert_same, rows_of-insert_other, rows_of-each}
use Rattle.peer_proto.specs.declared.ask.PeerAsk.{PeerAsk}
use Rattle.peer_proto.specs.declared.ask.PeerAsk.TheVariants as asks
use Rattle.peer_proto.specs.declared.ask.PeerReq.{PeerReq}
use Rattle.peer_proto.specs.declared.say.Refusal.{Refusal}
use Rattle.vdi_directory.specs.declared.effect.Effect.{Effect}
use Rattle.peer_service.specs.State.{Peer, row_size, is_waiting, is_dead_object}
use Rattle.peer_service.specs.Epochs.{stays_open, row_entering, peer_in_next_epoch, peer_settled_to}
use Rattle.peer_service.specs.Fence.{epoch_refusal}
use Rattle.peer_service.specs.LogReading.{kills_object, read_entry}
use Rattle.peer_service.specs.Back.{come_back}
use Rattle.peer_service.specs.Serve as serve
use Rattle.peer_service.specs.Serve.{peer_say_step, piece_or_refusal, peer_write_step, step_if_recovered, step_behind_fence, peer_step}
use Rattle.object_store.specs.Store as stores
use Rattle.peer_service.proofs.EpochLemmas.{entered_rows, read_rows, back_rows}
use Rattle.overlap_law.specs.RowsInRange.{IsRowOfObject, IsCreateOf, CreatesAsRowsAre}
use Rattle.overlap_law.proofs.SpelledReplies.{open_among}

module _ (effects : List Effect) where
  -- a row is as those of its object are, and from an epoch so far
  abbrev pub IsRowBy : ℕ → ℕ → SeenRow → Type 0
  IsRowBy epoch oid row = IsRowOfObject effects oid row × (row.from.0 ≤ epoch)

  abbrev pub AreRowsBy : ℕ → AllRows → Type 0
  AreRowsBy epoch rows = (oid : ℕ) → All (IsRowBy epoch oid) (rows_of rows oid)

  -- an epoch that can be spelled
  abbrev pub IsNumber : ℕ → Type 0
  IsNumber epoch = (1 ≤ epoch) × (epoch < 2 ^ 32)

  pub later_rows : (epoch next : ℕ) (rows : AllRows) → epoch ≤ next → AreRowsBy epoch rows → AreRowsBy next rows
  later_rows epoch next rows less are oid =
      All-weaker (IsRowBy epoch oid) (IsRowBy next oid) (λ row is. (is.0, let from = is.1 in omega (arith, from, less))) (rows_of rows oid)
      (are oid)

  -- ---- one row

  closed_row : (epoch oid last : ℕ) (row : SeenRow) → IsNumber last → IsRowBy epoch oid row → IsRowBy epoch oid (closed last row)
  closed_row epoch oid last row number is =
      cond_either (IsRowBy epoch oid) (is_open row) (record row { to = Some (record { 0 = last }) }) row
      (record { spec = is.0.spec; made = is.0.made; index = is.0.index; size = is.0.size; from = is.0.from; to = number }, is.1) is

  -- one from an earlier epoch is closed before this one
  closed_before : (epoch oid : ℕ) (row : SeenRow) → epoch < 2 ^ 32 → is_replaced epoch row ≡ false → IsRowBy epoch oid row
      → IsRowBy epoch oid (closed (epoch - 1) row)
  closed_before epoch oid row small stays is = by_open (is_open row) stays
    where
      shut : (nat_eq row.from.0 epoch) ≡ false → IsRowBy epoch oid (record row { to = Some (record { 0 = epoch - 1 }) })
      shut other =
          let apart : row.from.0 ≢ epoch = λ same. (let is = eq-eqb row.from.0 epoch same in absurd (cc (is, other))) in
          let least = is.0.from.0 in
          let most = is.1 in
          let earlier : row.from.0 < epoch = below row.from.0 epoch most apart in (
            record {
              spec = is.0.spec;
              made = is.0.made;
              index = is.0.index;
              size = is.0.size;
              from = is.0.from;
              to = (omega (arith, least, earlier), omega (arith, small));
            },
            is.1,
          )
        where
          below : (a b : ℕ) → a ≤ b → a ≢ b → a < b
          below a b less apart =
              ⊎_elim (λ (lower : a < b). lower) (λ (over : b ≤ a). absurd (apart (omega (arith, less, over)))) (cases_lt a b)

      by_open : (b : Bool) → (b && nat_eq row.from.0 epoch) ≡ false
          → IsRowBy epoch oid (cond b (record row { to = Some (record { 0 = epoch - 1 }) }) row)
      by_open true other = shut other
      by_open false other = is

  -- ---- the rows of an object

  each_mapped : (P Q : SeenRow → Type 0) (f : SeenRow → SeenRow) → ((row : SeenRow) → P row → Q (f row)) → (rows : List SeenRow)
      → All P rows
      → All Q (map f rows)
  each_mapped P Q f so [] all = All-nil Q
  each_mapped P Q f so (row ∷ rows) all =
      All-cons Q (f row) (map f rows) (so row (All-head P row rows all)) (each_mapped P Q f so rows (All-tail P row rows all))

  ended_rows : (epoch oid : ℕ) → epoch < 2 ^ 32 → (rows : List SeenRow) → All (IsRowBy epoch oid) rows
      → All (IsRowBy epoch oid) (ended epoch rows)
  ended_rows epoch oid small [] all = All-nil (IsRowBy epoch oid)
  ended_rows epoch oid small (row ∷ rows) all =
      by_test (is_replaced epoch row) refl (ended_rows epoch oid small rows (All-tail (IsRowBy epoch oid) row rows all))
    where
      left : List SeenRow
      left = filter (λ (row : SeenRow). not (is_replaced epoch row)) rows

      by_test : (b : Bool) → is_replaced epoch row ≡ b → All (IsRowBy epoch oid) (closed_all (epoch - 1) left)
          → All (IsRowBy epoch oid) (closed_all (epoch - 1) (cond (not b) (row ∷ left) left))
      by_test true goes rest = rest
      by_test false stays rest =
          All-cons (IsRowBy epoch oid) (closed (epoch - 1) row) (closed_all (epoch - 1) left)
          (closed_before epoch oid row small stays (All-head (IsRowBy epoch oid) row rows all)) rest

  changed_rows : (P : SeenRow → Type 0) (test : SeenRow → Bool) (change : List ℕ → List ℕ)
      → ((row : SeenRow) → P row → P (record row { bytes = change row.bytes })) → (rows : List SeenRow) → All P rows
      → All P (changed test change rows)
  changed_rows P test change so [] all = All-nil P
  changed_rows P test change so (row ∷ rows) all =
      cond_either (All P) (test row) ((record row { bytes = change row.bytes }) ∷ rows) (row ∷ changed test change rows)
      (All-cons P (record row { bytes = change row.bytes }) rows (so row (All-head P row rows all)) (All-tail P row rows all))
      (All-cons P row (changed test change rows) (All-head P row rows all) (changed_rows P test change so rows (All-tail P row rows all)))

  -- ---- all rows

  inserted_rows : (epoch oid : ℕ) (rows : AllRows) (new : List SeenRow) → AreRowsBy epoch rows → All (IsRowBy epoch oid) new
      → AreRowsBy epoch (tree.insert rows oid new)
  inserted_rows epoch oid rows new are all q = ⊎_elim
      (λ (own : q ≡ oid).
      subst (λ (k : ℕ). All (IsRowBy epoch k) (rows_of (tree.insert rows oid new) k)) (sym own)
      (subst (All (IsRowBy epoch oid)) (sym (rows_of-insert_same rows oid new)) all))
      (λ (other : q ≢ oid). subst (All (IsRowBy epoch q)) (sym (rows_of-insert_other rows oid new q other)) (are q))
      (cases_eq q oid)

  -- a row is made: of a part of the object, from this epoch on
  pub made_rows : (epoch oid index size offset : ℕ) (piece : List ℕ) (rows : AllRows) → IsNumber epoch
      → IsCreateOf effects oid index size (offset + length piece) → AreRowsBy epoch rows
      → AreRowsBy epoch (tree.insert rows oid (create_in index epoch size offset piece (rows_of rows oid)))
  made_rows epoch oid index size offset piece rows number is are =
      let bytes : List ℕ = laid_over (zeros size) offset piece in
      let new : SeenRow = record { index = index; from = record { 0 = epoch }; to = None; bytes = bytes } in
      let full : length (zeros size) ≡ size = length-replicate size 0 in
      let inside = is.inside in
      let now : epoch ≤ epoch = omega arith in
      let long : length bytes ≡ row_size (kind_of oid) is.spec
      = length-laid_over (zeros size) offset piece (omega (arith, full, inside)) ∙ full ∙ is.size_so in
      inserted_rows epoch oid rows (create_in index epoch size offset piece (rows_of rows oid)) are
      (All-push (IsRowBy epoch oid) (ended epoch (rows_of rows oid)) new (ended_rows epoch oid number.1 (rows_of rows oid) (are oid)) (
        record { spec = is.spec; made = is.made; index = is.index_below; size = long; from = number; to = tt },
        now,
      ))

  -- what is written keeps each row's length, since the rows of an object have one
  written_rows : (epoch : ℕ) (key : Key) (offset : ℕ) (piece : List ℕ) (rows : AllRows) (row : SeenRow) → AreRowsBy epoch rows
      → open_row rows key ≡ Some row → offset + length piece ≤ length row.bytes
      → AreRowsBy epoch (tree.insert rows key.oid (write_in key.index offset piece (rows_of rows key.oid)))
  written_rows epoch key offset piece rows row are on inside =
      let (place, got) = open_among rows key row on in
      let own : IsRowBy epoch key.oid row
      = subst (IsRowBy epoch key.oid) (get_or_from_slice_get (rows_of rows key.oid) place row row got)
      (All-get_or (IsRowBy epoch key.oid) (rows_of rows key.oid) place row (slice_get_within (rows_of rows key.oid) place row got)
      (are key.oid)) in
      inserted_rows epoch key.oid rows (write_in key.index offset piece (rows_of rows key.oid)) are
      (changed_rows (IsRowBy epoch key.oid) (is_open_at key.index) (λ (bytes : List ℕ). laid_over bytes offset piece)
      (λ one is.
      let same : is.0.spec ≡ own.0.spec = same_Some is.0.spec own.0.spec (sym is.0.made ∙ own.0.made) in
      let alike : length one.bytes ≡ length row.bytes
      = is.0.size ∙ ap (row_size (kind_of key.oid)) same ∙ sym own.0.size in (
        record {
          spec = is.0.spec;
          made = is.0.made;
          index = is.0.index;
          size = length-laid_over one.bytes offset piece (omega (arith, inside, alike)) ∙ is.0.size;
          from = is.0.from;
          to = is.0.to;
        },
        is.1,
      )) (rows_of rows key.oid) (are key.oid))

  -- ---- what a peer serves

  abbrev pub HasRowsBy : Peer → Type 0
  HasRowsBy peer = AreRowsBy peer.epoch peer.rows

  module _ (peer : Peer) (number : IsNumber peer.epoch) (are : HasRowsBy peer) where
    if_recovered_rows : (waiting : Bool) (answer : serve.PeerStep) → HasRowsBy answer.peer
        → HasRowsBy (step_if_recovered waiting peer answer).peer
    if_recovered_rows true answer after = are
    if_recovered_rows false answer after = after

    write_rows : (key : Key) (offset : ℕ) (piece : List ℕ) → HasRowsBy (peer_write_step (write_at peer.rows key offset piece) peer).peer
    write_rows key offset piece = by_row (open_row peer.rows key) refl
      where
        new : AllRows
        new = tree.insert peer.rows key.oid (write_in key.index offset piece (rows_of peer.rows key.oid))

        by_row : (o : Option SeenRow) → open_row peer.rows key ≡ o
            → HasRowsBy (peer_write_step (on_open (offset + length piece) o (λ (row : SeenRow). new)) peer).peer
        by_row None on = are
        by_row (Some row) on = by_end (nat_le (offset + length piece) (length row.bytes)) refl
          where
            by_end : (b : Bool) → nat_le (offset + length piece) (length row.bytes) ≡ b
                → HasRowsBy (peer_write_step (cond b (Ok new) (Err OutOfObject)) peer).peer
            by_end true inside =
                written_rows peer.epoch key offset piece peer.rows row are on (leb-true (offset + length piece) (length row.bytes) inside)
            by_end false outside = are

    answered_rows : (ask : PeerAsk) → CreatesAsRowsAre effects ask → HasRowsBy (serve.own_epoch_step ask peer).peer
    unfolding serve.own_epoch_step
    answered_rows (asks.Create key size offset bytes) is = made_rows peer.epoch key.oid key.index size offset bytes peer.rows number is are
    answered_rows (asks.Write key offset bytes) is =
        if_recovered_rows (is_waiting peer key.oid) (peer_write_step (write_at peer.rows key offset bytes) peer)
        (write_rows key offset bytes)
    answered_rows (asks.Read key offset size) is =
        if_recovered_rows (is_waiting peer key.oid) (peer_say_step (piece_or_refusal (stores.read_at peer.rows key offset size)) peer) are
    answered_rows asks.List is = are
    answered_rows (asks.RecoverRead oid level) is = are

    pub served_rows : (request : PeerReq) → CreatesAsRowsAre effects request.ask → HasRowsBy (peer_step peer request).peer
    unfolding peer_step
    served_rows request is = by_fence (epoch_refusal peer.epoch request.epoch.0)
      where
        by_fence : (refusal : Option Refusal) → HasRowsBy (step_behind_fence refusal request.ask peer).peer
        by_fence None = answered_rows request.ask is
        by_fence (Some refusal) = are

    -- ---- and reads

    pub entered_are : (me : NodeId) (targets : ℕ → ℕ → Policy → List NodeId) → HasRowsBy (peer_in_next_epoch me targets peer)
    unfolding peer_in_next_epoch
    entered_are me targets oid =
        subst (All (IsRowBy (peer.epoch + 1) oid)) (sym (entered_rows me targets peer oid))
        (each_mapped (IsRowBy peer.epoch oid) (IsRowBy (peer.epoch + 1) oid) (row_entering me targets peer oid)
        (λ row is. cond_either (IsRowBy (peer.epoch + 1) oid) (stays_open me targets peer oid row.index) row (closed peer.epoch row)
        (next row is) (next (closed peer.epoch row) (closed_row peer.epoch oid peer.epoch row number is))) (rows_of peer.rows oid)
        (are oid))
      where
        next : (row : SeenRow) → IsRowBy peer.epoch oid row → IsRowBy (peer.epoch + 1) oid row
        next row is = (is.0, let from = is.1 in omega (arith, from))

    pub back_are : (entries : List Entry) → AreRowsBy peer.epoch (come_back entries peer).rows
    back_are entries oid =
        subst (All (IsRowBy peer.epoch oid)) (sym (back_rows entries peer oid))
        (cond_either (All (IsRowBy peer.epoch oid)) (is_dead_object (come_back entries peer) oid) []
        (purged (settled_of entries) (closed_all peer.epoch (rows_of peer.rows oid))) (All-nil (IsRowBy peer.epoch oid))
        (All-filter (λ (row : SeenRow). not (has_ended_below (settled_of entries) row.to)) (IsRowBy peer.epoch oid)
        (closed_all peer.epoch (rows_of peer.rows oid))
        (each_mapped (IsRowBy peer.epoch oid) (IsRowBy peer.epoch oid) (closed peer.epoch)
        (λ row is. closed_row peer.epoch oid peer.epoch row number is) (rows_of peer.rows oid) (are oid))))

  module _ (peer : Peer) (epoch : ℕ) (are : AreRowsBy epoch peer.rows) where
    pub settled_are : (settled : ℕ) → AreRowsBy epoch (peer_settled_to settled peer).rows
    unfolding peer_settled_to
    settled_are settled oid =
        subst (All (IsRowBy epoch oid)) (sym (rows_of-each (λ (oid : ℕ). purged settled) peer.rows oid refl))
        (All-filter (λ (row : SeenRow). not (has_ended_below settled row.to)) (IsRowBy epoch oid) (rows_of peer.rows oid) (are oid))

    pub read_are : (entry : Entry) → AreRowsBy epoch (read_entry entry peer).rows
    read_are entry oid =
        subst (All (IsRowBy epoch oid)) (sym (read_rows entry peer oid))
        (cond_either (All (IsRowBy epoch oid)) (kills_object entry peer oid) [] (rows_of peer.rows oid) (All-nil (IsRowBy epoch oid))
        (are oid))
