-- The rows of a node stay as the rows of their objects are, whatever its recovery finds.
use Rattle.std.proofs.Common.{◌≡◌, arith, ℕ, zero, suc, ◌+◌, ◌-◌, ◌*◌, ◌/◌, ◌%◌, ◌<◌, ◌≤◌, ◌==◌, Bool, true, false, cond, List, [], ◌∷◌}
use Rattle.std.proofs.Common.{length, map, take, drop, Option, Some, None, IfSome, unwrap_or, refl, sym, ap, subst, ◌∙◌}
use Rattle.std.specs.Prelude.{nat_lt}
use Rattle.std.specs.List.{list_any, position, position_or_len}
use Rattle.std.proofs.lemmas.Bool.{eqb-true, ltb-true}
use Rattle.std.specs.Option.{option_map, option_map_or}
use Rattle.std.proofs.lemmas.List.{length-append}
use Rattle.std.proofs.lemmas.Option.{same_Some}
use Rattle.proof_tools.proofs.Booleans.{cond_either}
use Rattle.object_id.specs.declared.entry.VdiSpec.{VdiSpec}
use Rattle.object_id.specs.declared.node.NodeId.{NodeId}
use Rattle.object_id.specs.declared.oid.Kind.{Kind}
use Rattle.object_id.specs.declared.oid.Kind.TheVariants.{Block, Inode}
use Rattle.object_id.specs.declared.policy.Policy.{Policy}
use Rattle.object_id.specs.declared.policy.Policy.TheVariants.{Copies, Coded}
use Rattle.object_id.specs.Oid.{kind_of, vid_of}
use Rattle.object_id.specs.Policy.{IsPolicy, wanted_of, need_of}
use Rattle.gf256.specs.Strip.{block_through, strip_bytes}
use Rattle.gf256.specs.Part.{IsAligned, part, first_part, blocks_through, bytes_of_parts, is_in_strips, index_at, index_among}
use Rattle.gf256.proofs.PartLaws.{length-part}
use Rattle.gf256.proofs.StripLaws.{length-block_through}
use Rattle.gf256.proofs.Widths as widths
use Rattle.object_store.specs.declared.row.RowCopy.{RowCopy}
use Rattle.object_store.specs.Store.{row_bytes}
use Rattle.object_store.proofs.CopyLaws.{length-row_bytes}
use Rattle.peer_proto.specs.declared.ask.PeerAsk.{PeerAsk}
use Rattle.peer_proto.specs.declared.ask.PeerAsk.TheVariants as asks
use Rattle.peer_proto.specs.declared.say.PeerSay.{PeerSay}
use Rattle.peer_proto.specs.declared.say.PeerSay.TheVariants as says
use Rattle.object_list.specs.Gathered.{gathered_with_answer}
use Rattle.vdi_directory.specs.declared.effect.Effect.{Effect}
use Rattle.peer_service.specs.State.{row_size}
use Rattle.recovery.specs.Shown.{NodeView, live_policy, is_pending_object, shown_with_pending}
use Rattle.recovery.specs.State.{Message, Search, RecoveryState, search_on, is_listed, message_of}
use Rattle.recovery.specs.Step.{HaveSize, IsFittingRow, IsFittingSay, SaysOfRow, MayEndLevel, MayStep}
use Rattle.recovery.specs.Steps.{to_recover, when_listed, at_start, recovery_from_epoch, without_unanswered, search_after_answer}
use Rattle.recovery.specs.Steps.{after_list, after_read, after_ask, message_end}
use Rattle.recovery.specs.Level.{indexes_of, rows_taken, rows_in_order, are_enough, part_from_rows, with_part_found, with_object_missing}
use Rattle.recovery.specs.Level.{to_ask, one_lower, level_without_part, own_index, own_part, rows_found, level_over_by, level_over}
use Rattle.recovery.specs.Level.{is_of_search, searching}
use Rattle.recovery.specs.Tick.{next_search, tick_messages, with_messages, state_after_tick}
use Rattle.recovery.specs.State as recoveries
use Rattle.recovery.proofs.EndLemmas.{may-end}
use Rattle.recovery.proofs.FoundLemmas.{live_known, valid_policy, rows-fit}
use Rattle.recovery.proofs.MayLemmas.{next_ends}
use Rattle.recovery.proofs.TakenLemmas.{taken_are_as_many}
use Rattle.recovery.proofs.TakenParts.{Each, need-some, each-ordered, each-taken}
use Rattle.overlap_law.specs.Each.{spec_in}
use Rattle.overlap_law.proofs.RowsOfPeers.{AreRowsBy, IsNumber, made_rows}

-- ---- how long a part is that was made from rows

first_long : (size : ℕ) (rows : List RowCopy) → HaveSize size rows → 1 ≤ length rows → length (first_part (map row_bytes rows)) ≡ size
first_long size [] have some = absurd (omega (arith, some))
first_long size (row ∷ rows) have some = length-row_bytes row ∙ have.0

length-blocks : (d : ℕ) (points : List ℕ) (blocks : ℕ) (parts : List (List ℕ))
    → length (blocks_through d points blocks parts) ≡ blocks * 512
unfolding blocks_through
length-blocks d points zero parts = refl
length-blocks d points (suc blocks) parts =
    let first : List ℕ = block_through d points (map (take (strip_bytes d)) parts) in
    let rest : List ℕ = blocks_through d points blocks (map (drop (strip_bytes d)) parts) in
    let one : length first ≡ 512 = length-block_through d points (map (take (strip_bytes d)) parts) in
    let others : length rest ≡ blocks * 512 = length-blocks d points blocks (map (drop (strip_bytes d)) parts) in
    let both : length first + length rest ≡ suc blocks * 512 = omega (arith, one, others) in
    length-append first rest ∙ both

-- whole blocks, of each of which a strip is kept
strips_of_2 : (size : ℕ) → size * 2 % 512 ≡ 0 → size / 256 * 512 / 2 ≡ size
strips_of_2 size w = omega (arith, w)

strips_of_4 : (size : ℕ) → size * 4 % 512 ≡ 0 → size / 128 * 512 / 4 ≡ size
strips_of_4 size w = omega (arith, w)

strips_of_8 : (size : ℕ) → size * 8 % 512 ≡ 0 → size / 64 * 512 / 8 ≡ size
strips_of_8 size w = omega (arith, w)

strips_of_16 : (size : ℕ) → size * 16 % 512 ≡ 0 → size / 32 * 512 / 16 ≡ size
strips_of_16 size w = omega (arith, w)

strips_whole : (d size : ℕ) → size * d % 512 ≡ 0 → IsPolicy (Coded d 1) → size / (512 / d) * 512 / d ≡ size
strips_whole d size whole is =
    widths.by_cases (λ (n : ℕ). size * n % 512 ≡ 0 → size / (512 / n) * 512 / n ≡ size)
    (λ w. strips_of_2 size w) (λ w. strips_of_4 size w) (λ w. strips_of_8 size w) (λ w. strips_of_16 size w) d is.0 whole

part_long : (policy : Policy) (kind : Kind) (index size : ℕ) (rows : List RowCopy) → IsPolicy policy
    → IsAligned policy kind (size * need_of policy kind) → HaveSize size rows → 1 ≤ length rows
    → length (part_from_rows policy kind index rows) ≡ size
unfolding part bytes_of_parts
part_long (Copies copies) kind index size rows is whole have some = first_long size rows have some
part_long (Coded d p) Inode index size rows is whole have some = first_long size rows have some
part_long (Coded d p) Block index size rows is whole have some =
    let parts : List (List ℕ) = map row_bytes rows in
    let blocks : ℕ = length (first_part parts) / strip_bytes d in
    let bytes : List ℕ = blocks_through d (indexes_of rows) blocks parts in
    let long : length bytes ≡ blocks * 512 = length-blocks d (indexes_of rows) blocks parts in
    let aligned : length bytes % 512 ≡ 0 = omega (arith, long) in
    length-part (Coded d p) Block index bytes is aligned
    ∙ ap (λ (n : ℕ). n / d) long
    ∙ ap (λ (n : ℕ). n / strip_bytes d * 512 / d) (first_long size rows have some)
    ∙ strips_whole d size whole (is.0, omega arith, omega arith)

-- ---- the index of the node's own part

wanted_some : (policy : Policy) (kind : Kind) → IsPolicy policy → 1 ≤ wanted_of policy kind
wanted_some (Copies copies) kind is = is.0
wanted_some (Coded d p) Block is = let some = is.1 in omega (arith, some)
wanted_some (Coded d p) Inode is = omega arith

position_inside : {X : Type 0} (test : X → Bool) (xs : List X) (place : ℕ) → position test xs ≡ Some place → place < length xs
position_inside test xs place at = by_place (nat_lt (position_or_len test xs) (length xs)) refl at
  where
    by_place : (b : Bool) → nat_lt (position_or_len test xs) (length xs) ≡ b → cond b (Some (position_or_len test xs)) None ≡ Some place
        → place < length xs
    by_place true below is =
        subst (λ (k : ℕ). k < length xs) (same_Some (position_or_len test xs) place is)
        (ltb-true (position_or_len test xs) (length xs) below)
    by_place false past is = absurd (cc (is))

pub index_small : (node : NodeId) (targets : List NodeId) (policy : Policy) (kind : Kind) → IsPolicy policy
    → length targets ≤ wanted_of policy kind
    → unwrap_or (index_among node targets policy kind) 0 < wanted_of policy kind
index_small node targets policy kind is few = by_place (position (λ (target : NodeId). target.0 == node.0) targets) refl
  where
    some : 1 ≤ wanted_of policy kind
    some = wanted_some policy kind is

    by_place : (o : Option ℕ) → position (λ (target : NodeId). target.0 == node.0) targets ≡ o
        → unwrap_or (option_map (index_at policy kind) o) 0 < wanted_of policy kind
    by_place None at = let least = some in omega (arith, least)
    by_place (Some place) at =
        let inside : place < length targets = position_inside (λ (target : NodeId). target.0 == node.0) targets place at in
        let least = some in
        cond_either (λ (n : ℕ). n < wanted_of policy kind) (is_in_strips policy kind) place 0 (omega (arith, inside, few))
        (omega (arith, least))

-- ---- a state of a recovery

module _ (effects : List Effect) where
  -- what is known of an object's policy is so by these entries, and so is the length of its rows
  pub record KnowsSpec (shown : NodeView) (oid : ℕ) (policy : Policy) : Type 0 where
    pub spec : VdiSpec
    pub made : spec_in effects (vid_of oid) ≡ Some spec
    pub policy_so : spec.policy ≡ policy
    pub size_so : shown.size_of oid ≡ Some (row_size (kind_of oid) spec)

  -- a view whose node knows objects so, has few targets of each, and is in an epoch that can be spelled
  pub record IsRowView (shown : NodeView) : Type 0 where
    pub knows : (oid : ℕ) (policy : Policy) → shown.policy_of oid ≡ Some policy → KnowsSpec shown oid policy
    pub targets : (level oid : ℕ) (policy : Policy) → length (shown.targets level oid policy) ≤ wanted_of policy (kind_of oid)
    pub number : IsNumber effects shown.epoch

  abbrev pub StateRows : RecoveryState → Type 0
  StateRows state = AreRowsBy effects state.shown.epoch state.shown.rows

  abbrev Fits : NodeView → ℕ → List RowCopy → Type 0
  Fits shown oid rows = Each (IsFittingRow shown oid) rows

  have_size : (shown : NodeView) (oid size : ℕ) (rows : List RowCopy) → shown.size_of oid ≡ Some size → Fits shown oid rows
      → HaveSize size rows
  have_size shown oid size [] is all = tt
  have_size shown oid size (row ∷ rows) is all =
      (sym (same_Some size row.length (sym is ∙ all.0.0)), have_size shown oid size rows is all.1)

  module _ (search : Search) (state : RecoveryState) (view : IsRowView state.shown)
      (may : MayEndLevel state.recovery.epoch state.shown search)
      (are : StateRows state) where
    abbrev kind : Kind
    kind = kind_of search.oid

    found_rows : (policy : Policy) → live_policy state.shown search.oid ≡ Some policy
        → are_enough policy kind (rows_found state policy search) ≡ true
        → StateRows (with_part_found search.oid (own_index policy search state)
        (own_part policy search (rows_found state policy search) state) state)
    found_rows policy live enough =
        let known = view.knows search.oid policy (live_known state.shown search.oid policy live) in
        let valid : IsPolicy policy = valid_policy state.shown search.oid policy may.policy live in
        let rows : List RowCopy = rows_taken policy kind (rows_found state policy search) in
        let size : ℕ = row_size kind known.spec in
        let fit = each-taken (IsFittingRow state.shown search.oid) (need_of policy kind)
        (rows_in_order policy kind (rows_found state policy search))
        (each-ordered (IsFittingRow state.shown search.oid) policy kind (rows_found state policy search)
        (rows-fit state.recovery.me state.recovery.epoch state.shown search policy may)) in
        let count = taken_are_as_many policy kind (rows_found state policy search) enough in
        let need = need-some policy kind valid in
        let whole = (may.size policy size (live_known state.shown search.oid policy live) known.size_so).1 in
        let bytes : List ℕ = own_part policy search (rows_found state policy search) state in
        let long : length bytes ≡ size
        = part_long policy kind (own_index policy search state) size rows valid whole
        (have_size state.shown search.oid size rows known.size_so fit)
        (omega (arith, count, need)) in
        let below : own_index policy search state < wanted_of policy kind
        = index_small state.recovery.me (state.shown.targets state.recovery.epoch search.oid policy) policy kind valid
        (view.targets state.recovery.epoch search.oid policy) in
        made_rows effects state.shown.epoch search.oid (own_index policy search state) (length bytes) 0 bytes state.shown.rows view.number
        (record {
          spec = known.spec;
          made = known.made;
          index_below = subst (λ (p : Policy). own_index policy search state < wanted_of p kind) (sym known.policy_so) below;
          size_so = long;
          inside = omega arith;
        }) are

    level_rows : StateRows (level_over search state)
    unfolding level_over
    level_rows = by_policy (live_policy state.shown search.oid) refl
      where
        by_policy : (o : Option Policy) → live_policy state.shown search.oid ≡ o
            → StateRows (option_map_or (λ (policy : Policy). level_over_by policy search (rows_found state policy search) state) o state)
        by_policy None live = are
        by_policy (Some policy) live = by_count (are_enough policy kind (rows_found state policy search)) refl
          where
            by_count : (b : Bool) → are_enough policy kind (rows_found state policy search) ≡ b
                → StateRows (cond b (with_part_found search.oid (own_index policy search state)
                (own_part policy search (rows_found state policy search) state) state) (level_without_part search state))
            by_count true enough = found_rows policy live enough
            by_count false few =
                cond_either StateRows search.again (to_ask search.oid search.level state) (one_lower search state) are
                (cond_either StateRows (nat_lt (search.level - 1) state.shown.settled) (with_object_missing search.oid state)
                (to_ask search.oid (search.level - 1) state) are are)

    searching_rows : StateRows (searching search state)
    searching_rows =
        cond_either StateRows (list_any (is_of_search search.oid) state.recovery.unanswered)
        (record state { recovery = record state.recovery { search = Some search } }) (level_over search state) are level_rows

  -- ---- steps of a recovery

  abbrev pub RowsAt : ℕ → RecoveryState → Type 0
  RowsAt epoch state = AreRowsBy effects epoch state.shown.rows

  listed_rows : (epoch : ℕ) (state : RecoveryState) → RowsAt epoch state → RowsAt epoch (when_listed state)
  listed_rows epoch state are =
      cond_either (RowsAt epoch) (is_listed state.recovery) (record state { shown = shown_with_pending (to_recover state) state.shown })
      state are are

  pub begun_rows : (at epoch : ℕ) (members : List NodeId) (state : RecoveryState) → RowsAt at state
      → RowsAt at (recovery_from_epoch epoch members state)
  unfolding recovery_from_epoch
  begun_rows at epoch members state are = listed_rows at (at_start epoch members state) are

  pub ticked_rows : (first : ℕ) (state : RecoveryState) → IsRowView state.shown → recoveries.MayTick first state → MayStep state
      → StateRows state
      → StateRows (state_after_tick first state)
  unfolding state_after_tick
  ticked_rows first state view may is are =
      cond_either StateRows (is_listed state.recovery)
      (option_map_or (λ (search : Search). searching search sent) (next_search state) sent) sent (by_search (next_search state) refl) are
    where
      sent : RecoveryState
      sent = with_messages (tick_messages first state) state

      by_search : (o : Option Search) → next_search state ≡ o
          → StateRows (option_map_or (λ (search : Search). searching search sent) o sent)
      by_search None next = are
      by_search (Some search) next = searching_rows search sent view (next_ends first state search may is next) are

  after_list_rows : (from : NodeId) (said : Option PeerSay) (state : RecoveryState) → StateRows state
      → StateRows (after_list from said state)
  after_list_rows from None state are = are
  after_list_rows from (Some says.Success) state are = are
  after_list_rows from (Some (says.Piece bytes)) state are = are
  after_list_rows from (Some (says.Objects oids)) state are =
      cond_either StateRows (is_listed named.recovery) (record named { shown = shown_with_pending (to_recover named) named.shown }) named
      are are
    where
      named : RecoveryState
      named = record state { recovery = record state.recovery { lists = gathered_with_answer from oids state.recovery.lists } }
  after_list_rows from (Some (says.Row row)) state are = are
  after_list_rows from (Some says.NoRow) state are = are
  after_list_rows from (Some (says.Refused refusal)) state are = are

  -- a search that goes on is the recovery's
  on_is : (pending : Option (List ℕ)) (o : Option Search) (search : Search) → recoveries.still_on pending o ≡ Some search → o ≡ Some search
  on_is pending None search is = absurd (cc (is))
  on_is pending (Some one) search is = by_pending (is_pending_object one.oid pending) is
    where
      by_pending : (b : Bool) → cond b (Some one) None ≡ Some search → Some one ≡ Some search
      by_pending true is = is
      by_pending false is = absurd (cc (is))

  after_read_rows : (oid : ℕ) (from : NodeId) (said : Option PeerSay) (state : RecoveryState) → IsRowView state.shown → MayStep state
      → IfSome said (IsFittingSay state.shown oid) → StateRows state → StateRows (after_read oid from said (search_on state) state)
  after_read_rows oid from said state view may told are = by_search (search_on state) refl
    where
      by_search : (o : Option Search) → search_on state ≡ o → StateRows (after_read oid from said o state)
      by_search None on = are
      by_search (Some search) on = by_object (search.oid == oid) refl
        where
          by_object : (b : Bool) → (search.oid == oid) ≡ b
              → StateRows (cond b (searching (search_after_answer from said search) state) state)
          by_object true same =
              searching_rows (search_after_answer from said search) state view
              (may-end state search from said may (on_is state.shown.pending state.recovery.search search on)
              (subst (λ (k : ℕ). IfSome said (IsFittingSay state.shown k)) (sym (eqb-true search.oid oid same)) told)) are
          by_object false other = are

  after_ask_rows : (ask : PeerAsk) (from : NodeId) (said : Option PeerSay) (state : RecoveryState) → IsRowView state.shown → MayStep state
      → IfSome said (SaysOfRow state.shown ask) → StateRows state → StateRows (after_ask ask from said state)
  after_ask_rows (asks.Create key size offset bytes) from said state view may told are = are
  after_ask_rows (asks.Write key offset bytes) from said state view may told are = are
  after_ask_rows (asks.Read key offset size) from said state view may told are = are
  after_ask_rows asks.List from said state view may told are = after_list_rows from said state are
  after_ask_rows (asks.RecoverRead oid level) from said state view may told are = after_read_rows oid from said state view may told are

  pub ended_rows_of : (number : ℕ) (said : Option PeerSay) (state : RecoveryState) → IsRowView state.shown
      → MayStep (without_unanswered number state)
      → IfSome said (λ say. IfSome (message_of number state.recovery.unanswered)
      (λ (message : Message). SaysOfRow state.shown message.request.ask say))
      → StateRows state → StateRows (message_end number said state)
  ended_rows_of number said state view may told are = by_message (message_of number state.recovery.unanswered) said told
    where
      let_go : RecoveryState
      let_go = without_unanswered number state

      turned : (message : Message) (said : Option PeerSay)
          → IfSome said (λ say. IfSome (Some message) (λ (message : Message). SaysOfRow state.shown message.request.ask say))
          → IfSome said (SaysOfRow state.shown message.request.ask)
      turned message None told = tt
      turned message (Some say) told = told

      by_message : (o : Option Message) (said : Option PeerSay)
          → IfSome said (λ say. IfSome o (λ (message : Message). SaysOfRow state.shown message.request.ask say))
          → StateRows (option_map_or (λ (message : Message). after_ask message.request.ask message.to said let_go) o let_go)
      by_message None said told = are
      by_message (Some message) said told =
          after_ask_rows message.request.ask message.to said let_go view may (turned message said told) are
