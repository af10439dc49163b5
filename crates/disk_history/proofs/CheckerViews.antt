-- What each entry into the checker's state leaves it to show.
use Rattle.std.proofs.Common.{◌≡◌, ℕ, ◌==◌, Bool, true, false, not, ◌&&◌, List, [], ◌∷◌, length, reverse, Option, Some, None, refl, sym, ap, ◌∙◌, subst, cond}
use Rattle.std.specs.Option.{option_map, option_map_or}
use Rattle.std.specs.Ordering.{nat_cmp}
use Rattle.std.specs.BTreeMap.{get, is_at, BTreeMap}
use Rattle.std.specs.BTreeSet.{contains}
use Rattle.std.specs.Map.{lookup}
use Rattle.std.proofs.Math.Path.{fun_ext}
use Rattle.std.proofs.lemmas.Bool.{true≢false, false≢true, not-true, eqb-true}
use Rattle.proof_tools.proofs.FiniteMaps.{is_at-turned}
use Rattle.disk_history.specs.declared.requests.Fate.{Fate}
use Rattle.disk_history.specs.declared.requests.Fate.TheVariants.{Unanswered}
use Rattle.disk_history.specs.declared.requests.RequestState.{RequestState}
use Rattle.disk_history.specs.declared.requests.Requests.{Requests}
use Rattle.disk_history.specs.declared.disks.DiskState.{DiskState}
use Rattle.disk_history.specs.declared.writes.Write.{Write}
use Rattle.disk_history.specs.Ledger.{Item, Disk, WriteRequest, Ledger, zeros_item, changed_at, with_items, with_ended_request}
use Rattle.disk_history.specs.Legal.{has_begun_to_write, has_place}
use Rattle.disk_history.specs.CheckerState.{fate_of, stray_of, is_answer, may_end_in, place_cmp, items_from, items_by, shown_disk, ShowsRequest, AreWithin, IsWithin}
use Rattle.disk_history.specs.CheckerLedger.{ShowsAll}
use Rattle.disk_history.proofs.ItemLemmas.{Turns, items_from-none, items_from-turned}

-- ---- a new disk

shown_new : (fates : ℕ → Fate) (writes : List Write) (blocks : ℕ) (state : DiskState)
    → state.blocks ≡ blocks → state.deleted ≡ false → state.newest.entries ≡ []
    → (let disk : Disk = record { blocks = blocks; items = λ block. zeros_item ∷ []; deleted = false } in disk ≡ shown_disk fates writes state)
shown_new fates writes blocks state blocks_is live empty =
    let items : (λ (block : ℕ). zeros_item ∷ []) ≡ (λ (block : ℕ). items_from fates (reverse writes) (get nat_cmp state.newest block)) =
    fun_ext (λ block. sym (items_from-none fates (reverse writes))
    ∙ ap (λ entries. items_from fates (reverse writes) (lookup (is_at (nat_cmp block)) entries)) (sym empty)) in
    λ i. record { blocks = sym blocks_is i; items = items i; deleted = sym live i }

pub shows-create : (requests : Requests) (disks made : BTreeMap ℕ DiskState) (writes : List Write) (ledger : Ledger) (disk blocks : ℕ) (state : DiskState)
    → ShowsAll requests disks writes ledger
    → state.blocks ≡ blocks → state.deleted ≡ false → state.newest.entries ≡ []
    → ((q : ℕ) → get nat_cmp made q ≡ cond (is_at (nat_cmp disk) q) (Some state) (get nat_cmp disks q))
    → ShowsAll requests made writes (record ledger { disks = changed_at disk (Some (record { blocks = blocks; items = λ block. zeros_item ∷ []; deleted = false })) ledger.disks })
shows-create requests disks made writes ledger disk blocks state shows blocks_is live empty gains = record {
  of_disk = λ q. of_disk q (q == disk) refl ∙ ap (option_map (shown_disk (fate_of requests) writes)) (sym (there q));
  of_request = shows.of_request;
  of_place = shows.of_place;
  linked = shows.linked;
  within = λ q. subst (λ (found : Option DiskState). AreWithin found (length writes)) (sym (there q)) (within q (q == disk));
}
  where
    there : (q : ℕ) → get nat_cmp made q ≡ cond (q == disk) (Some state) (get nat_cmp disks q)
    there q = gains q ∙ ap (λ b. cond b (Some state) (get nat_cmp disks q)) (is_at-turned disk q)

    of_disk : (q : ℕ) (b : Bool) → (q == disk) ≡ b
        → cond b (Some (record { blocks = blocks; items = λ block. zeros_item ∷ []; deleted = false })) (ledger.disks q)
        ≡ option_map (shown_disk (fate_of requests) writes) (cond b (Some state) (get nat_cmp disks q))
    of_disk q true e = ap Some (shown_new (fate_of requests) writes blocks state blocks_is live empty)
    of_disk q false e = shows.of_disk q

    within : (q : ℕ) (b : Bool) → AreWithin (cond b (Some state) (get nat_cmp disks q)) (length writes)
    within q true = λ block. subst (λ entries. IsWithin (lookup (is_at (nat_cmp block)) entries) (length writes)) (sym empty) tt
    within q false = shows.within q

-- ---- the end of a request

pub unanswered_fate : (fate : Fate) → is_answer fate ≡ false → fate ≡ Unanswered
unanswered_fate Unanswered e = refl
unanswered_fate fate e = absurd (true≢false e)

unanswered_in : (found : Option RequestState) → may_end_in found ≡ true → option_map_or (λ (state : RequestState). state.fate) found Unanswered ≡ Unanswered
unanswered_in None e = refl
unanswered_in (Some state) e = unanswered_fate state.fate (not-true (is_answer state.fate) e)

-- what became of each request, after one has ended
fate_of-end : (requests ended : Requests) (req : ℕ) (state : RequestState)
    → ((q : ℕ) → get nat_cmp ended.states q ≡ cond (is_at (nat_cmp req) q) (Some state) (get nat_cmp requests.states q))
    → (q : ℕ) → fate_of ended q ≡ cond (q == req) state.fate (fate_of requests q)
fate_of-end requests ended req state states q =
    ap (λ (found : Option RequestState). option_map_or (λ (state : RequestState). state.fate) found Unanswered)
    (states q ∙ ap (λ b. cond b (Some state) (get nat_cmp requests.states q)) (is_at-turned req q)) ∙ parts (q == req)
  where
    parts : (b : Bool) → option_map_or (λ (state : RequestState). state.fate) (cond b (Some state) (get nat_cmp requests.states q)) Unanswered ≡ cond b state.fate (fate_of requests q)
    parts true = refl
    parts false = refl

turned_disk : (fates turned : ℕ → Fate) (change : List Item → List Item) (writes : List Write)
    → ((newest : Option ℕ) → items_from turned (reverse writes) newest ≡ change (items_from fates (reverse writes) newest))
    → (found : Option DiskState)
    → option_map (λ (disk : Disk). record disk { items = λ block. change (disk.items block) }) (option_map (shown_disk fates writes) found)
    ≡ option_map (shown_disk turned writes) found
turned_disk fates turned change writes same None = refl
turned_disk fates turned change writes same (Some state) =
    let items : (λ (block : ℕ). change (items_from fates (reverse writes) (get nat_cmp state.newest block)))
    ≡ (λ (block : ℕ). items_from turned (reverse writes) (get nat_cmp state.newest block)) =
    fun_ext (λ block. sym (same (get nat_cmp state.newest block))) in
    λ i. Some (record { blocks = state.blocks; items = items i; deleted = state.deleted })

-- what a request's state says of the ledger's
pub ended_shown : (found : Option RequestState) (request : WriteRequest) → ShowsRequest found request → request.ended ≡ is_answer (option_map_or (λ (state : RequestState). state.fate) found Unanswered)
ended_shown None request shown = shown.2
ended_shown (Some state) request shown = shown.2

pub stray_shown : (found : Option RequestState) (request : WriteRequest) → ShowsRequest found request → request.stray ≡ option_map_or (λ (state : RequestState). state.stray) found false
stray_shown None request shown = shown.1
stray_shown (Some state) request shown = shown.1

started_shown : (found : Option RequestState) (request : WriteRequest) → ShowsRequest found request → may_end_in found ≡ true → has_begun_to_write request ≡ true
started_shown None request shown e = absurd (false≢true e)
started_shown (Some state) request shown e = shown.0

-- a request may end where the ledger lets it
pub may_end_shown : (found : Option RequestState) (request : WriteRequest) → ShowsRequest found request
    → may_end_in found ≡ (has_begun_to_write request && not request.ended)
may_end_shown None request shown = ap (λ b. b && not request.ended) (sym shown.0)
may_end_shown (Some state) request shown =
    ap (λ b. not b) (sym shown.2) ∙ ap (λ b. b && not request.ended) (sym shown.0)

pub may_be_done_shown : (found : Option RequestState) (request : WriteRequest) → ShowsRequest found request
    → (may_end_in found && not (option_map_or (λ (state : RequestState). state.stray) found false)) ≡ (has_begun_to_write request && not request.ended && not request.stray)
may_be_done_shown found request shown =
    ap (λ b. b && not (option_map_or (λ (state : RequestState). state.stray) found false)) (may_end_shown found request shown)
    ∙ ap (λ b. has_begun_to_write request && not request.ended && not b) (sym (stray_shown found request shown))

pub shows-end : (requests ended : Requests) (disks : BTreeMap ℕ DiskState) (writes : List Write) (ledger : Ledger) (req : ℕ) (fate : Fate)
    (change : List Item → List Item) → Turns change req fate
    → ShowsAll requests disks writes ledger → may_end_in (get nat_cmp requests.states req) ≡ true → is_answer fate ≡ true
    → ((q : ℕ) → get nat_cmp ended.states q ≡ cond (is_at (nat_cmp req) q) (Some (record { stray = stray_of requests req; fate = fate })) (get nat_cmp requests.states q))
    → ended.places ≡ requests.places
    → ShowsAll ended disks writes (record { disks = with_items change ledger.disks; requests = with_ended_request req ledger.requests })
shows-end requests ended disks writes ledger req fate change turns shows begun answer states places = record {
  of_disk = λ q. ap (option_map (λ (disk : Disk). record disk { items = λ block. change (disk.items block) })) (shows.of_disk q)
      ∙ turned_disk (fate_of requests) (fate_of ended) change writes
      (items_from-turned (fate_of requests) (fate_of ended) change turns.append turns.zeros each (reverse writes)) (get nat_cmp disks q);
  of_request = λ q. subst (λ (found : Option RequestState). ShowsRequest found (with_ended_request req ledger.requests q)) (sym (there q)) (of_request q (q == req));
  of_place = λ q disk block. of_place q disk block (q == req) refl
      ∙ ap (λ places. contains place_cmp places (record { req = q; disk = disk; block = block })) (sym places);
  linked = shows.linked;
  within = shows.within;
}
  where
    state : RequestState
    state = record { stray = stray_of requests req; fate = fate }

    there : (q : ℕ) → get nat_cmp ended.states q ≡ cond (q == req) (Some state) (get nat_cmp requests.states q)
    there q = states q ∙ ap (λ b. cond b (Some state) (get nat_cmp requests.states q)) (is_at-turned req q)

    each : (write : Write) → change (items_by (fate_of requests write.req) write) ≡ items_by (fate_of ended write.req) write
    each write = go (write.req == req) refl
      where
        go : (b : Bool) → (write.req == req) ≡ b → change (items_by (fate_of requests write.req) write) ≡ items_by (fate_of ended write.req) write
        go true e =
            ap (λ (f : Fate). change (items_by f write))
            (ap (fate_of requests) (eqb-true write.req req e) ∙ unanswered_in (get nat_cmp requests.states req) begun)
            ∙ turns.own write e
            ∙ ap (λ (f : Fate). items_by f write)
            (sym (fate_of-end requests ended req state states write.req ∙ ap (λ b. cond b fate (fate_of requests write.req)) e))
        go false e =
            turns.others write (fate_of requests write.req) e
            ∙ ap (λ (f : Fate). items_by f write)
            (sym (fate_of-end requests ended req state states write.req ∙ ap (λ b. cond b fate (fate_of requests write.req)) e))

    of_request : (q : ℕ) (b : Bool) → ShowsRequest (cond b (Some state) (get nat_cmp requests.states q)) (cond b (record (ledger.requests req) { ended = true }) (ledger.requests q))
    of_request q true = (
      started_shown (get nat_cmp requests.states req) (ledger.requests req) (shows.of_request req) begun,
      stray_shown (get nat_cmp requests.states req) (ledger.requests req) (shows.of_request req),
      sym answer,
    )
    of_request q false = shows.of_request q

    of_place : (q disk block : ℕ) (b : Bool) → (q == req) ≡ b
        → has_place (cond b (record (ledger.requests req) { ended = true }) (ledger.requests q)) disk block
        ≡ contains place_cmp requests.places (record { req = q; disk = disk; block = block })
    of_place q disk block true e =
        shows.of_place req disk block
        ∙ ap (λ (q : ℕ). contains place_cmp requests.places (record { req = q; disk = disk; block = block })) (sym (eqb-true q req e))
    of_place q disk block false e = shows.of_place q disk block

pub may_end_told : (found : Option RequestState) (request : WriteRequest) → ShowsRequest found request → may_end_in found ≡ true
    → true ≡ (has_begun_to_write request && not request.ended)
may_end_told found request shown e = sym e ∙ may_end_shown found request shown

pub may_be_done_told : (found : Option RequestState) (request : WriteRequest) → ShowsRequest found request → may_end_in found ≡ true → option_map_or (λ (state : RequestState). state.stray) found false ≡ false
    → true ≡ (has_begun_to_write request && not request.ended && not request.stray)
may_be_done_told found request shown e straight =
    ap (λ b. not b) (sym straight) ∙ ap (λ b. b && not (option_map_or (λ (state : RequestState). state.stray) found false)) (sym e) ∙ may_be_done_shown found request shown
