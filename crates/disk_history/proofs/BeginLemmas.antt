-- What a write that begins leaves the checker's state to show.
use Rattle.std.proofs.Common.{◌≡◌, ℕ, ◌+◌, ◌<◌, ◌==◌, Bool, true, false, not, ◌&&◌, ◌||◌, List, [], ◌∷◌, ◌++◌, length, reverse, Option, Some, None, refl, sym, ap, ◌∙◌, subst, cond, arith, length-append}
use Rattle.std.specs.Option.{option_map, option_map_or, option_and_then}
use Rattle.std.specs.Ordering.{nat_cmp, is_eq, ordering_then}
use Rattle.std.specs.BTreeMap.{get, is_at, BTreeMap}
use Rattle.std.specs.BTreeSet.{contains}
use Rattle.std.proofs.Math.Path.{fun_ext}
use Rattle.std.proofs.lemmas.Bool.{eqb-true, eq-eqb}
use Rattle.std.proofs.lemmas.List.{reverse-append, length-reverse}
use Rattle.std.proofs.lemmas.List.Folds.{list_any-append}
use Rattle.std.specs.Cmp.{unsigned_tied, tied_then}
use Rattle.proof_tools.proofs.FiniteMaps.{is_at-turned}
use Rattle.disk_history.specs.declared.requests.Fate.{Fate}
use Rattle.disk_history.specs.declared.requests.Fate.TheVariants.{Unanswered}
use Rattle.disk_history.specs.declared.requests.Place.{Place}
use Rattle.disk_history.specs.declared.requests.RequestState.{RequestState}
use Rattle.disk_history.specs.declared.requests.Requests.{Requests}
use Rattle.disk_history.specs.declared.disks.DiskState.{DiskState}
use Rattle.disk_history.specs.declared.writes.Write.{Write}
use Rattle.disk_history.specs.declared.event.HistEvent.TheVariants.{WriteStart}
use Rattle.disk_history.specs.Ledger.{Item, Disk, WriteRequest, Ledger, Open, ledger_after, changed_at, with_item, has_block}
use Rattle.disk_history.specs.Legal.{has_begun_to_write, has_place}
use Rattle.disk_history.specs.CheckerState.{fate_of, stray_of, is_answer, place_cmp, items_from, items_by, shown_disk, has_block_in, ShowsRequest, AreWithin, IsLinked, IsWithin, IsWritten, WritesOne}
use Rattle.disk_history.specs.CheckerLedger.{ShowsAll}
use Rattle.disk_history.proofs.ItemLemmas.{items_from-older, within_more}
use Rattle.disk_history.proofs.CheckerViews.{unanswered_fate, ended_shown, stray_shown}

-- ---- the request

-- whether the ledger's disk has the block
pub has_block_shown : (fates : ℕ → Fate) (writes : List Write) (found : Option DiskState) (disk : Option Disk) (block : ℕ)
    → disk ≡ option_map (shown_disk fates writes) found → has_block disk block ≡ has_block_in found block
has_block_shown fates writes None disk block same = ap (λ (disk : Option Disk). has_block disk block) same
has_block_shown fates writes (Some state) disk block same = ap (λ (disk : Option Disk). has_block disk block) same

-- a request that begins one more write stays unanswered, and all others as they were
same_fates : (requests begun : Requests) (req : ℕ) (stray : Bool) → is_answer (fate_of requests req) ≡ false
    → ((q : ℕ) → get nat_cmp begun.states q ≡ cond (is_at (nat_cmp req) q) (Some (record { stray = stray; fate = Unanswered })) (get nat_cmp requests.states q))
    → (fate_of begun) ≡ (fate_of requests)
same_fates requests begun req stray unanswered states =
    fun_ext (λ q. ap (λ (found : Option RequestState). option_map_or (λ (state : RequestState). state.fate) found Unanswered)
    (states q ∙ ap (λ b. cond b (Some state) (get nat_cmp requests.states q)) (is_at-turned req q)) ∙ parts q (q == req) refl)
  where
    state : RequestState
    state = record { stray = stray; fate = Unanswered }

    parts : (q : ℕ) (b : Bool) → (q == req) ≡ b → option_map_or (λ (state : RequestState). state.fate) (cond b (Some state) (get nat_cmp requests.states q)) Unanswered ≡ fate_of requests q
    parts q true e = sym (unanswered_fate (fate_of requests req) unanswered) ∙ ap (fate_of requests) (sym (eqb-true q req e))
    parts q false e = refl

started_more : (places : List (ℕ × ℕ)) (place : ℕ × ℕ) (stray ended : Bool)
    → has_begun_to_write (record { places = places ++ place ∷ []; stray = stray; ended = ended }) ≡ true
started_more [] place stray ended = refl
started_more (first ∷ places) place stray ended = refl

at_place : (place other : Place) → is_at (place_cmp place) other ≡ ((other.req == place.req) && (place.disk == other.disk && place.block == other.block))
at_place place other =
    sym (tied_then (nat_cmp place.req other.req) (ordering_then (nat_cmp place.disk other.disk) (nat_cmp place.block other.block)))
    ∙ ap (λ b. b && is_eq (ordering_then (nat_cmp place.disk other.disk) (nat_cmp place.block other.block))) (is_at-turned place.req other.req)
    ∙ ap (λ b. (other.req == place.req) && b)
    (sym (tied_then (nat_cmp place.disk other.disk) (nat_cmp place.block other.block))
    ∙ ap (λ b. b && is_eq (nat_cmp place.block other.block)) (unsigned_tied place.disk other.disk)
    ∙ ap (λ b. place.disk == other.disk && b) (unsigned_tied place.block other.block))

one_more : (had is : Bool) → (had || (is || false)) ≡ cond is true had
one_more true true = refl
one_more true false = refl
one_more false true = refl
one_more false false = refl

-- the ledger's request, with one more place
abbrev more : Ledger → Place → Bool → WriteRequest
more ledger place stray = record {
  places = (ledger.requests place.req).places ++ (place.disk, place.block) ∷ [];
  stray = (ledger.requests place.req).stray || stray;
  ended = (ledger.requests place.req).ended;
}

of_request-begin : (requests begun : Requests) (ledger : Ledger) (place : Place) (stray : Bool)
    → ((req : ℕ) → ShowsRequest (get nat_cmp requests.states req) (ledger.requests req))
    → is_answer (fate_of requests place.req) ≡ false
    → ((q : ℕ) → get nat_cmp begun.states q ≡ cond (is_at (nat_cmp place.req) q) (Some (record { stray = stray_of requests place.req || stray; fate = Unanswered })) (get nat_cmp requests.states q))
    → (q : ℕ) → ShowsRequest (get nat_cmp begun.states q) (changed_at place.req (more ledger place stray) ledger.requests q)
of_request-begin requests begun ledger place stray shows unanswered states q =
    subst (λ (found : Option RequestState). ShowsRequest found (changed_at place.req (more ledger place stray) ledger.requests q))
    (sym (states q ∙ ap (λ b. cond b (Some state) (get nat_cmp requests.states q)) (is_at-turned place.req q))) (go (q == place.req))
  where
    state : RequestState
    state = record { stray = stray_of requests place.req || stray; fate = Unanswered }

    go : (b : Bool) → ShowsRequest (cond b (Some state) (get nat_cmp requests.states q)) (cond b (more ledger place stray) (ledger.requests q))
    go true = (
      started_more (ledger.requests place.req).places (place.disk, place.block) ((ledger.requests place.req).stray || stray) (ledger.requests place.req).ended,
      ap (λ b. b || stray) (stray_shown (get nat_cmp requests.states place.req) (ledger.requests place.req) (shows place.req)),
      ended_shown (get nat_cmp requests.states place.req) (ledger.requests place.req) (shows place.req) ∙ unanswered,
    )
    go false = shows q

of_place-begin : (requests begun : Requests) (ledger : Ledger) (place : Place) (stray : Bool)
    → ((req disk block : ℕ) → has_place (ledger.requests req) disk block ≡ contains place_cmp requests.places (record { req = req; disk = disk; block = block }))
    → ((other : Place) → contains place_cmp begun.places other ≡ cond (is_at (place_cmp place) other) true (contains place_cmp requests.places other))
    → (req disk block : ℕ) → has_place (changed_at place.req (more ledger place stray) ledger.requests req) disk block
    ≡ contains place_cmp begun.places (record { req = req; disk = disk; block = block })
of_place-begin requests begun ledger place stray shows gains req disk block =
    go (req == place.req) refl
    ∙ sym (gains other ∙ ap (λ b. cond b true (contains place_cmp requests.places other)) (at_place place other))
  where
    other : Place
    other = record { req = req; disk = disk; block = block }

    is : Bool
    is = place.disk == disk && place.block == block

    go : (b : Bool) → (req == place.req) ≡ b
        → has_place (cond b (more ledger place stray) (ledger.requests req)) disk block ≡ cond (b && is) true (contains place_cmp requests.places other)
    go true e =
        list_any-append (λ place. place.0 == disk && place.1 == block) (ledger.requests place.req).places ((place.disk, place.block) ∷ [])
        ∙ one_more (has_place (ledger.requests place.req) disk block) is
        ∙ ap (cond is true) (shows place.req disk block
        ∙ ap (λ (req : ℕ). contains place_cmp requests.places (record { req = req; disk = disk; block = block })) (sym (eqb-true req place.req e)))
    go false e = shows req disk block

-- ---- a block that isn't there

pub shows-stray : (requests begun : Requests) (disks : BTreeMap ℕ DiskState) (writes : List Write) (ledger : Ledger) (place : Place) (coded : Bool) (bytes : List ℕ)
    → ShowsAll requests disks writes ledger
    → has_block_in (get nat_cmp disks place.disk) place.block ≡ false
    → is_answer (fate_of requests place.req) ≡ false
    → ((q : ℕ) → get nat_cmp begun.states q ≡ cond (is_at (nat_cmp place.req) q) (Some (record { stray = stray_of requests place.req || true; fate = Unanswered })) (get nat_cmp requests.states q))
    → ((other : Place) → contains place_cmp begun.places other ≡ cond (is_at (place_cmp place) other) true (contains place_cmp requests.places other))
    → ShowsAll begun disks writes (ledger_after ledger (WriteStart place.req place.disk place.block coded bytes))
shows-stray requests begun disks writes ledger place coded bytes shows absent unanswered states places = record {
  of_disk = λ q. ap (λ there. (cond there written ledger.disks) q) gone ∙ shows.of_disk q
      ∙ ap (λ (fates : ℕ → Fate). option_map (shown_disk fates writes) (get nat_cmp disks q))
      (sym (same_fates requests begun place.req (stray_of requests place.req || true) unanswered states));
  of_request = subst (λ there. (q : ℕ) → ShowsRequest (get nat_cmp begun.states q) (changed_at place.req (more ledger place (not there)) ledger.requests q)) (sym gone)
      (of_request-begin requests begun ledger place true shows.of_request unanswered states);
  of_place = subst (λ there. (req disk block : ℕ) → has_place (changed_at place.req (more ledger place (not there)) ledger.requests req) disk block
      ≡ contains place_cmp begun.places (record { req = req; disk = disk; block = block })) (sym gone)
      (of_place-begin requests begun ledger place true shows.of_place places);
  linked = shows.linked;
  within = shows.within;
}
  where
    item : Item
    item = record { request = Some place.req; bytes = bytes; coded = coded; mark = Open }

    written : ℕ → Option Disk
    written = changed_at place.disk (option_map (with_item place.block item) (ledger.disks place.disk)) ledger.disks

    gone : has_block (ledger.disks place.disk) place.block ≡ false
    gone = has_block_shown (fate_of requests) writes (get nat_cmp disks place.disk) (ledger.disks place.disk) place.block (shows.of_disk place.disk) ∙ absent

-- ---- a block that is there

reverse-push : (writes : List Write) (write : Write) → reverse (writes ++ write ∷ []) ≡ write ∷ reverse writes
reverse-push writes write = reverse-append writes (write ∷ [])

length-push : (writes : List Write) (write : Write) → length (writes ++ write ∷ []) ≡ length writes + 1
length-push writes write = length-append writes (write ∷ [])

-- one more write changes no block whose newest write is an older one
items_from-push : (fates : ℕ → Fate) (writes : List Write) (write : Write) (newest : Option ℕ) → IsWithin newest (length writes)
    → items_from fates (reverse (writes ++ write ∷ [])) newest ≡ items_from fates (reverse writes) newest
items_from-push fates writes write newest within =
    ap (λ (all : List Write). items_from fates all newest) (reverse-push writes write)
    ∙ items_from-older fates write (reverse writes) newest (subst (λ n. IsWithin newest n) (sym (length-reverse writes)) within)

-- the new write's own block
items_from-new : (fates : ℕ → Fate) (writes : List Write) (write : Write)
    → items_from fates (reverse (writes ++ write ∷ [])) (Some (length writes)) ≡ items_from fates (reverse writes) write.earlier ++ items_by (fates write.req) write
items_from-new fates writes write =
    ap (λ (all : List Write). items_from fates all (Some (length writes))) (reverse-push writes write)
    ∙ ap (λ b. cond b (items_from fates (reverse writes) write.earlier ++ items_by (fates write.req) write) (items_from fates (reverse writes) (Some (length writes))))
    (eq-eqb (length writes) (length (reverse writes)) (sym (length-reverse writes)))

older_disk : (fates : ℕ → Fate) (writes : List Write) (write : Write) (found : Option DiskState) → AreWithin found (length writes)
    → option_map (shown_disk fates writes) found ≡ option_map (shown_disk fates (writes ++ write ∷ [])) found
older_disk fates writes write None within = refl
older_disk fates writes write (Some state) within =
    let items : (λ (block : ℕ). items_from fates (reverse writes) (get nat_cmp state.newest block))
    ≡ (λ (block : ℕ). items_from fates (reverse (writes ++ write ∷ [])) (get nat_cmp state.newest block)) =
    fun_ext (λ block. sym (items_from-push fates writes write (get nat_cmp state.newest block) (within block))) in
    λ i. Some (record { blocks = state.blocks; items = items i; deleted = state.deleted })

written_disk : (fates : ℕ → Fate) (writes : List Write) (write : Write) (state written : DiskState) (block : ℕ)
    → IsWritten state written block (length writes)
    → AreWithin (Some state) (length writes)
    → fates write.req ≡ Unanswered
    → items_from fates (reverse writes) write.earlier ≡ items_from fates (reverse writes) (get nat_cmp state.newest block)
    → (let item : Item = record { request = Some write.req; bytes = write.bytes.now; coded = write.coded; mark = Open } in
    with_item block item (shown_disk fates writes state) ≡ shown_disk fates (writes ++ write ∷ []) written)
written_disk fates writes write state written block is_written within unanswered same =
    let items : changed_at block (under block ++ item ∷ []) under ≡ (λ (q : ℕ). items_from fates (reverse (writes ++ write ∷ [])) (get nat_cmp written.newest q)) =
    fun_ext (λ q. go q (q == block) ∙ ap (λ (at : Option ℕ). items_from fates (reverse (writes ++ write ∷ [])) at) (sym (there q))) in
    λ i. record { blocks = sym is_written.blocks i; items = items i; deleted = sym is_written.deleted i }
  where
    item : Item
    item = record { request = Some write.req; bytes = write.bytes.now; coded = write.coded; mark = Open }

    under : ℕ → List Item
    under q = items_from fates (reverse writes) (get nat_cmp state.newest q)

    there : (q : ℕ) → get nat_cmp written.newest q ≡ cond (q == block) (Some (length writes)) (get nat_cmp state.newest q)
    there q = is_written.newest.0 q ∙ ap (λ b. cond b (Some (length writes)) (get nat_cmp state.newest q)) (is_at-turned block q)

    go : (q : ℕ) (b : Bool) → cond b (under block ++ item ∷ []) (under q)
        ≡ items_from fates (reverse (writes ++ write ∷ [])) (cond b (Some (length writes)) (get nat_cmp state.newest q))
    go q true =
        ap (λ (items : List Item). items ++ item ∷ []) (sym same)
        ∙ ap (λ (fate : Fate). items_from fates (reverse writes) write.earlier ++ items_by fate write) (sym unanswered)
        ∙ sym (items_from-new fates writes write)
    go q false = sym (items_from-push fates writes write (get nat_cmp state.newest q) (within q))

disk_written : (fates : ℕ → Fate) (disks written : BTreeMap ℕ DiskState) (writes : List Write) (write : Write) (ledger : Ledger) (disk block : ℕ)
    (found : Option DiskState) → get nat_cmp disks disk ≡ found
    → ((q : ℕ) → ledger.disks q ≡ option_map (shown_disk fates writes) (get nat_cmp disks q))
    → ((q : ℕ) → AreWithin (get nat_cmp disks q) (length writes))
    → WritesOne found disks written disk block (length writes)
    → fates write.req ≡ Unanswered
    → items_from fates (reverse writes) write.earlier ≡ items_from fates (reverse writes) (option_and_then (λ (state : DiskState). get nat_cmp state.newest block) found)
    → (let item : Item = record { request = Some write.req; bytes = write.bytes.now; coded = write.coded; mark = Open } in
    (q : ℕ) → changed_at disk (option_map (with_item block item) (ledger.disks disk)) ledger.disks q
    ≡ option_map (shown_disk fates (writes ++ write ∷ [])) (get nat_cmp written q))
disk_written fates disks written writes write ledger disk block None is shows within one unanswered same = absurd one
disk_written fates disks written writes write ledger disk block (Some state) is shows within one unanswered same = λ q. go q (q == disk)
    ∙ ap (option_map (shown_disk fates (writes ++ write ∷ [])))
    (sym (one.1.0 q ∙ ap (λ b. cond b (Some one.0) (get nat_cmp disks q)) (is_at-turned disk q)))
  where
    item : Item
    item = record { request = Some write.req; bytes = write.bytes.now; coded = write.coded; mark = Open }

    go : (q : ℕ) (b : Bool) → cond b (option_map (with_item block item) (ledger.disks disk)) (ledger.disks q)
        ≡ option_map (shown_disk fates (writes ++ write ∷ [])) (cond b (Some one.0) (get nat_cmp disks q))
    go q true =
        ap (option_map (with_item block item)) (shows disk ∙ ap (option_map (shown_disk fates writes)) is)
        ∙ ap Some (written_disk fates writes write state one.0 block one.2
        (subst (λ (found : Option DiskState). AreWithin found (length writes)) is (within disk)) unanswered same)
    go q false = shows q ∙ older_disk fates writes write (get nat_cmp disks q) (within q)

within_written : (disks written : BTreeMap ℕ DiskState) (count disk block : ℕ) (found : Option DiskState) → get nat_cmp disks disk ≡ found
    → ((q : ℕ) → AreWithin (get nat_cmp disks q) count) → WritesOne found disks written disk block count
    → (q : ℕ) → AreWithin (get nat_cmp written q) (count + 1)
within_written disks written count disk block None is within one = absurd one
within_written disks written count disk block (Some state) is within one = λ q.
    subst (λ (found : Option DiskState). AreWithin found (count + 1))
    (sym (one.1.0 q ∙ ap (λ b. cond b (Some one.0) (get nat_cmp disks q)) (is_at-turned disk q))) (go q (q == disk))
  where
    more_within : (found : Option DiskState) → AreWithin found count → AreWithin found (count + 1)
    more_within None old = tt
    more_within (Some state) old = λ b. within_more (get nat_cmp state.newest b) count (count + 1) (old b) (omega arith)

    each : (b : ℕ) (is_here : Bool) → IsWithin (cond is_here (Some count) (get nat_cmp state.newest b)) (count + 1)
    each b true = let below : count < count + 1 = omega arith in below
    each b false = more_within (Some state) (subst (λ (found : Option DiskState). AreWithin found count) is (within disk)) b

    go : (q : ℕ) (b : Bool) → AreWithin (cond b (Some one.0) (get nat_cmp disks q)) (count + 1)
    go q true = λ b. subst (λ (newest : Option ℕ). IsWithin newest (count + 1))
        (sym (one.2.newest.0 b ∙ ap (λ is_here. cond is_here (Some count) (get nat_cmp state.newest b)) (is_at-turned block b))) (each b (b == block))
    go q false = more_within (get nat_cmp disks q) (within q)

pub shows-begin : (requests begun : Requests) (disks written : BTreeMap ℕ DiskState) (writes : List Write) (ledger : Ledger) (place : Place) (write : Write)
    → ShowsAll requests disks writes ledger
    → write.req ≡ place.req
    → has_block_in (get nat_cmp disks place.disk) place.block ≡ true
    → is_answer (fate_of requests place.req) ≡ false
    → IsWithin write.earlier (length writes)
    → items_from (fate_of requests) (reverse writes) write.earlier ≡ items_from (fate_of requests) (reverse writes) (option_and_then (λ (state : DiskState). get nat_cmp state.newest place.block) (get nat_cmp disks place.disk))
    → WritesOne (get nat_cmp disks place.disk) disks written place.disk place.block (length writes)
    → ((q : ℕ) → get nat_cmp begun.states q ≡ cond (is_at (nat_cmp place.req) q) (Some (record { stray = stray_of requests place.req || false; fate = Unanswered })) (get nat_cmp requests.states q))
    → ((other : Place) → contains place_cmp begun.places other ≡ cond (is_at (place_cmp place) other) true (contains place_cmp requests.places other))
    → ShowsAll begun written (writes ++ write ∷ []) (ledger_after ledger (WriteStart place.req place.disk place.block write.coded write.bytes.now))
shows-begin requests begun disks written writes ledger place write shows own there unanswered earlier same one states places = record {
  of_disk = λ q. ap (λ b. (cond b changed ledger.disks) q) here
      ∙ ap (λ (req : ℕ). changed_at place.disk (option_map (with_item place.block (item_of req)) (ledger.disks place.disk)) ledger.disks q) (sym own)
      ∙ disk_written (fate_of requests) disks written writes write ledger place.disk place.block (get nat_cmp disks place.disk) refl
      shows.of_disk shows.within one (ap (fate_of requests) own ∙ unanswered_fate (fate_of requests place.req) unanswered) same q
      ∙ ap (λ (fates : ℕ → Fate). option_map (shown_disk fates (writes ++ write ∷ [])) (get nat_cmp written q))
      (sym (same_fates requests begun place.req (stray_of requests place.req || false) unanswered states));
  of_request = subst (λ b. (q : ℕ) → ShowsRequest (get nat_cmp begun.states q) (changed_at place.req (more ledger place (not b)) ledger.requests q)) (sym here)
      (of_request-begin requests begun ledger place false shows.of_request unanswered states);
  of_place = subst (λ b. (req disk block : ℕ) → has_place (changed_at place.req (more ledger place (not b)) ledger.requests req) disk block
      ≡ contains place_cmp begun.places (record { req = req; disk = disk; block = block })) (sym here)
      (of_place-begin requests begun ledger place false shows.of_place places);
  linked = subst IsLinked (sym (reverse-push writes write)) (subst (λ n. IsWithin write.earlier n) (sym (length-reverse writes)) earlier, shows.linked);
  within = λ q. subst (λ n. AreWithin (get nat_cmp written q) n) (sym (length-push writes write))
      (within_written disks written (length writes) place.disk place.block (get nat_cmp disks place.disk) refl shows.within one q);
}
  where
    item_of : ℕ → Item
    item_of req = record { request = Some req; bytes = write.bytes.now; coded = write.coded; mark = Open }

    changed : ℕ → Option Disk
    changed = changed_at place.disk (option_map (with_item place.block (item_of place.req)) (ledger.disks place.disk)) ledger.disks

    here : has_block (ledger.disks place.disk) place.block ≡ true
    here = has_block_shown (fate_of requests) writes (get nat_cmp disks place.disk) (ledger.disks place.disk) place.block (shows.of_disk place.disk) ∙ there

-- the same, of what the calls on the way gave
pub shows-begin-told : (requests begun : Requests) (disks written : BTreeMap ℕ DiskState) (writes slice pushed : List Write) (count : ℕ) (newest : Option ℕ)
    (ledger : Ledger) (place : Place) (write : Write)
    → slice ≡ writes → pushed ≡ writes ++ write ∷ [] → count ≡ length slice
    → newest ≡ option_and_then (λ (state : DiskState). get nat_cmp state.newest place.block) (get nat_cmp disks place.disk)
    → ShowsAll requests disks writes ledger
    → write.req ≡ place.req
    → has_block_in (get nat_cmp disks place.disk) place.block ≡ true
    → is_answer (fate_of requests place.req) ≡ false
    → IsWithin write.earlier (length slice)
    → items_from (fate_of requests) (reverse slice) write.earlier ≡ items_from (fate_of requests) (reverse slice) newest
    → WritesOne (get nat_cmp disks place.disk) disks written place.disk place.block count
    → ((q : ℕ) → get nat_cmp begun.states q ≡ cond (is_at (nat_cmp place.req) q) (Some (record { stray = stray_of requests place.req || false; fate = Unanswered })) (get nat_cmp requests.states q))
    → ((other : Place) → contains place_cmp begun.places other ≡ cond (is_at (place_cmp place) other) true (contains place_cmp requests.places other))
    → ShowsAll begun written pushed (ledger_after ledger (WriteStart place.req place.disk place.block write.coded write.bytes.now))
shows-begin-told requests begun disks written writes slice pushed count newest ledger place write slice_is pushed_is count_is newest_is shows own there unanswered earlier same one states places =
    subst (λ (all : List Write). ShowsAll begun written all (ledger_after ledger (WriteStart place.req place.disk place.block write.coded write.bytes.now))) (sym pushed_is)
    (shows-begin requests begun disks written writes ledger place write shows own there unanswered
    (subst (λ (all : List Write). IsWithin write.earlier (length all)) slice_is earlier)
    (subst (λ (all : List Write). items_from (fate_of requests) (reverse all) write.earlier
    ≡ items_from (fate_of requests) (reverse all) (option_and_then (λ (state : DiskState). get nat_cmp state.newest place.block) (get nat_cmp disks place.disk))) slice_is
    (same ∙ ap (λ (at : Option ℕ). items_from (fate_of requests) (reverse slice) at) newest_is))
    (subst (λ n. WritesOne (get nat_cmp disks place.disk) disks written place.disk place.block n) (count_is ∙ ap (λ (all : List Write). length all) slice_is) one)
    states places)

-- the tests that the code makes are those of the ledger
pub may_start_told : (count : ℕ) (found : Option RequestState) (request : WriteRequest) (disk block : ℕ) (had : Bool) → count ≡ 512
    → ShowsRequest found request → is_answer (option_map_or (λ (state : RequestState). state.fate) found Unanswered) ≡ false → has_place request disk block ≡ had → had ≡ false
    → true ≡ (count == 512 && not request.ended && not (has_place request disk block))
may_start_told count found request disk block had long shown unanswered same new =
    ap (λ b. not b) (sym (same ∙ new))
    ∙ ap (λ b. not b && not (has_place request disk block)) (sym (ended_shown found request shown ∙ unanswered))
    ∙ ap (λ b. b && not request.ended && not (has_place request disk block)) (sym (eq-eqb count 512 long))
