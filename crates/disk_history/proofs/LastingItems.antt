-- What stays through a legal history: disks with their blocks, and acknowledged items.
use Rattle.std.proofs.Common.{◌≡◌, ℕ, ◌==◌, Bool, true, false, not, ◌&&◌, ◌||◌, List, [], ◌∷◌, ◌++◌, map, filter, Option, Some, None, refl, sym, ap, ◌∙◌, subst, cond, arith}
use Rattle.std.specs.Prelude.{is_some, is_none}
use Rattle.std.specs.Option.{option_and_then, option_map}
use Rattle.std.specs.List.{Contains, All}
use Rattle.std.proofs.lemmas.Bool.{true≢false, false≢true, not-true, eqb-true, and_parts}
use Rattle.std.proofs.lemmas.List.Elements.{All-nil, All-cons, All-push, All-map, All-filter, All-weaker, All-contains, Contains-append_left}
use Rattle.std.proofs.lemmas.Option.{same_Some, none-some}
use Rattle.proof_tools.proofs.Lists.{Contains-map, Contains-filter}
use Rattle.disk_history.specs.declared.event.HistEvent.{HistEvent}
use Rattle.disk_history.specs.declared.event.HistEvent.TheVariants.{Create, Copy, Delete, WriteStart, WriteDone, WriteRefused, WriterLost, Read}
use Rattle.disk_history.specs.Ledger.{Mark, Item, Disk, WriteRequest, Ledger, Open, Acknowledged, Lost, empty_ledger, zeros_item, is_item_of, item_with_mark, ledger_after, changed_at, with_items, with_item, with_ended_request, has_block}
use Rattle.disk_history.specs.Legal.{is_acknowledged, has_begun_to_write, may_follow, ledger_from}
use Rattle.disk_history.specs.Changes.{items_in, blocks_in}

-- ---- steps of a legal history

-- what one event keeps, a legal history keeps
pub kept_through : (P : Ledger → Type 0) → ((ledger : Ledger) (event : HistEvent) → P ledger → may_follow ledger event ≡ true → P (ledger_after ledger event))
    → (events : List HistEvent) (ledger next : Ledger) → P ledger → ledger_from ledger events ≡ Some next → P next
kept_through P step [] ledger next holds reached = subst P (same_Some ledger next reached) holds
kept_through P step (event ∷ events) ledger next holds reached =
    go (may_follow ledger event) refl (kept_through P step events (ledger_after ledger event) next)
  where
    go : (b : Bool) → may_follow ledger event ≡ b → (P (ledger_after ledger event) → ledger_from (ledger_after ledger event) events ≡ Some next → P next) → P next
    go true may rest = rest (step ledger event holds may)
        (sym (ap (λ b. option_and_then (λ next. ledger_from next events) (cond b (Some (ledger_after ledger event)) None)) may) ∙ reached)
    go false may rest = absurd (none-some next
        (sym (ap (λ b. option_and_then (λ next. ledger_from next events) (cond b (Some (ledger_after ledger event)) None)) may) ∙ reached))

-- the parts of what an event asks
open_by_done : (ledger : Ledger) (req : ℕ) → may_follow ledger (WriteDone req) ≡ true → (ledger.requests req).ended ≡ false
open_by_done ledger req may = not-true (ledger.requests req).ended
    (and_parts (has_begun_to_write (ledger.requests req)) (not (ledger.requests req).ended)
    (and_parts (has_begun_to_write (ledger.requests req) && not (ledger.requests req).ended) (not (ledger.requests req).stray) may).0).1

open_by_end : (ledger : Ledger) (req : ℕ) → (has_begun_to_write (ledger.requests req) && not (ledger.requests req).ended) ≡ true → (ledger.requests req).ended ≡ false
open_by_end ledger req may = not-true (ledger.requests req).ended
    (and_parts (has_begun_to_write (ledger.requests req)) (not (ledger.requests req).ended) may).1

-- ---- disks stay, with as many blocks

absent_blocks : (found : Option Disk) (blocks : ℕ) → is_none found ≡ true → blocks_in found ≡ Some blocks → ⊥
absent_blocks None blocks gone there = let never : None ≡ Some blocks → ⊥ = λ e. cc in never there
absent_blocks (Some disk) blocks gone there = false≢true gone

abbrev HasBlocks : ℕ → ℕ → Ledger → Type 0
HasBlocks disk blocks ledger = blocks_in (ledger.disks disk) ≡ Some blocks

kept_blocks : (change : Disk → Disk) → ((disk : Disk) → (change disk).blocks ≡ disk.blocks) → (found : Option Disk) → blocks_in (option_map change found) ≡ blocks_in found
kept_blocks change same None = refl
kept_blocks change same (Some disk) = ap Some (same disk)

blocks_step : (disk blocks : ℕ) (ledger : Ledger) (event : HistEvent) → HasBlocks disk blocks ledger → may_follow ledger event ≡ true
    → HasBlocks disk blocks (ledger_after ledger event)
blocks_step q blocks ledger (Create disk many) there may = go (q == disk) refl
  where
    made : Option Disk
    made = Some (record { blocks = many; items = λ block. zeros_item ∷ []; deleted = false })

    go : (b : Bool) → (q == disk) ≡ b → blocks_in (cond b made (ledger.disks q)) ≡ Some blocks
    go true e = absurd (absent_blocks (ledger.disks disk) blocks may (ap (λ q. blocks_in (ledger.disks q)) (sym (eqb-true q disk e)) ∙ there))
    go false e = there
blocks_step q blocks ledger (Copy old new) there may = go (q == new) refl
  where
    gone : is_none (ledger.disks new) ≡ true
    gone = (and_parts (is_some (ledger.disks old)) (is_none (ledger.disks new)) may).1

    go : (b : Bool) → (q == new) ≡ b → blocks_in (cond b (option_map (λ (disk : Disk). record disk { deleted = false }) (ledger.disks old)) (ledger.disks q)) ≡ Some blocks
    go true e = absurd (absent_blocks (ledger.disks new) blocks gone (ap (λ q. blocks_in (ledger.disks q)) (sym (eqb-true q new e)) ∙ there))
    go false e = there
blocks_step q blocks ledger (Delete disk) there may = go (q == disk) refl
  where
    go : (b : Bool) → (q == disk) ≡ b → blocks_in (cond b (option_map (λ (disk : Disk). record disk { deleted = true }) (ledger.disks disk)) (ledger.disks q)) ≡ Some blocks
    go true e = kept_blocks (λ disk. record disk { deleted = true }) (λ disk. refl) (ledger.disks disk)
        ∙ ap (λ q. blocks_in (ledger.disks q)) (sym (eqb-true q disk e)) ∙ there
    go false e = there
blocks_step q blocks ledger (WriteStart req disk block coded bytes) there may = whole (has_block (ledger.disks disk) block)
  where
    item : Item
    item = record { request = Some req; bytes = bytes; coded = coded; mark = Open }

    written : Option Disk
    written = option_map (with_item block item) (ledger.disks disk)

    go : (b : Bool) → (q == disk) ≡ b → blocks_in (cond b written (ledger.disks q)) ≡ Some blocks
    go true e = kept_blocks (with_item block item) (λ disk. refl) (ledger.disks disk) ∙ ap (λ q. blocks_in (ledger.disks q)) (sym (eqb-true q disk e)) ∙ there
    go false e = there

    whole : (b : Bool) → blocks_in ((cond b (changed_at disk written ledger.disks) ledger.disks) q) ≡ Some blocks
    whole true = go (q == disk) refl
    whole false = there
blocks_step q blocks ledger (WriteDone req) there may =
    kept_blocks (λ disk. record disk { items = λ block. map (item_with_mark Acknowledged req) (disk.items block) }) (λ disk. refl) (ledger.disks q) ∙ there
blocks_step q blocks ledger (WriteRefused req) there may =
    kept_blocks (λ disk. record disk { items = λ block. filter (λ item. not (is_item_of req item)) (disk.items block) }) (λ disk. refl) (ledger.disks q) ∙ there
blocks_step q blocks ledger (WriterLost req) there may =
    kept_blocks (λ disk. record disk { items = λ block. map (item_with_mark Lost req) (disk.items block) }) (λ disk. refl) (ledger.disks q) ∙ there
blocks_step q blocks ledger (Read disk block bytes) there may = there

pub blocks_stay : (events : List HistEvent) (ledger next : Ledger) (disk blocks : ℕ) → ledger_from ledger events ≡ Some next
    → blocks_in (ledger.disks disk) ≡ Some blocks → blocks_in (next.disks disk) ≡ Some blocks
blocks_stay events ledger next disk blocks reached there =
    kept_through (HasBlocks disk blocks) (blocks_step disk blocks) events ledger next there reached

-- ---- an item that isn't open is of a request that has ended

abbrev is_ended : (ℕ → WriteRequest) → Option ℕ → Bool
is_ended requests None = true
is_ended requests (Some req) = (requests req).ended

abbrev is_settled : (ℕ → WriteRequest) → Mark → Option ℕ → Bool
is_settled requests Open request = true
is_settled requests Acknowledged request = is_ended requests request
is_settled requests Lost request = is_ended requests request

abbrev SettledIn : (ℕ → WriteRequest) → Item → Type 0
SettledIn requests item = is_settled requests item.mark item.request ≡ true

abbrev AreSettled : (ℕ → WriteRequest) → List Item → Type 0
AreSettled requests items = All (SettledIn requests) items

abbrev IsSettled : Ledger → Type 0
IsSettled ledger = (disk block : ℕ) → AreSettled ledger.requests (items_in (ledger.disks disk) block)

settled_more : (requests next : ℕ → WriteRequest) → ((req : ℕ) → (requests req).ended ≡ true → (next req).ended ≡ true)
    → (mark : Mark) (request : Option ℕ) → is_settled requests mark request ≡ true → is_settled next mark request ≡ true
settled_more requests next more Open request e = refl
settled_more requests next more Acknowledged None e = refl
settled_more requests next more Acknowledged (Some req) e = more req e
settled_more requests next more Lost None e = refl
settled_more requests next more Lost (Some req) e = more req e

-- items of a disk that changes in its deletion alone
items_kept : (deleted : Bool) (found : Option Disk) (block : ℕ) → items_in (option_map (λ (disk : Disk). record disk { deleted = deleted }) found) block ≡ items_in found block
items_kept deleted None block = refl
items_kept deleted (Some disk) block = refl

items_ended : (change : List Item → List Item) → change [] ≡ [] → (found : Option Disk) (block : ℕ)
    → items_in (option_map (λ (disk : Disk). record disk { items = λ block. change (disk.items block) }) found) block ≡ change (items_in found block)
items_ended change empty None block = sym empty
items_ended change empty (Some disk) block = refl

more_ended : (requests : ℕ → WriteRequest) (req q : ℕ) → (requests q).ended ≡ true → (with_ended_request req requests q).ended ≡ true
more_ended requests req q e = go (q == req)
  where
    go : (b : Bool) → (cond b (record (requests req) { ended = true }) (requests q)).ended ≡ true
    go true = refl
    go false = e

marked_parts : (requests : ℕ → WriteRequest) (req : ℕ) (mark old : Mark) (request : Option ℕ) (bytes : List ℕ) (coded : Bool)
    → is_settled requests old request ≡ true
    → (let item : Item = record { request = request; bytes = bytes; coded = coded; mark = old } in
    is_settled (with_ended_request req requests) (item_with_mark mark req item).mark (item_with_mark mark req item).request ≡ true)
marked_parts requests req mark old None bytes coded e = settled_more requests (with_ended_request req requests) (more_ended requests req) old None e
marked_parts requests req mark old (Some number) bytes coded e = go (number == req) refl
  where
    item : Item
    item = record { request = Some number; bytes = bytes; coded = coded; mark = old }

    own : (mark : Mark) → (number == req) ≡ true → is_settled (with_ended_request req requests) mark (Some number) ≡ true
    own Open same = refl
    own Acknowledged same = ap (λ b. (cond b (record (requests req) { ended = true }) (requests number)).ended) same
    own Lost same = ap (λ b. (cond b (record (requests req) { ended = true }) (requests number)).ended) same

    go : (b : Bool) → (number == req) ≡ b
        → is_settled (with_ended_request req requests) (cond b (record item { mark = mark }) item).mark (cond b (record item { mark = mark }) item).request ≡ true
    go true same = own mark same
    go false same = settled_more requests (with_ended_request req requests) (more_ended requests req) old (Some number) e

marked_settled : (requests : ℕ → WriteRequest) (req : ℕ) (mark : Mark) (item : Item) → is_settled requests item.mark item.request ≡ true
    → is_settled (with_ended_request req requests) (item_with_mark mark req item).mark (item_with_mark mark req item).request ≡ true
marked_settled requests req mark item e = marked_parts requests req mark item.mark item.request item.bytes item.coded e

settled_step : (ledger : Ledger) (event : HistEvent) → IsSettled ledger → may_follow ledger event ≡ true → IsSettled (ledger_after ledger event)
settled_step ledger (Create disk blocks) settled may = λ q block. go q block (q == disk)
  where
    made : Option Disk
    made = Some (record { blocks = blocks; items = λ block. zeros_item ∷ []; deleted = false })

    go : (q block : ℕ) (b : Bool) → AreSettled ledger.requests (items_in (cond b made (ledger.disks q)) block)
    go q block true = All-cons (SettledIn ledger.requests) zeros_item [] refl (All-nil (SettledIn ledger.requests))
    go q block false = settled q block
settled_step ledger (Copy old new) settled may = λ q block. go q block (q == new)
  where
    go : (q block : ℕ) (b : Bool) → AreSettled ledger.requests (items_in (cond b (option_map (λ (disk : Disk). record disk { deleted = false }) (ledger.disks old)) (ledger.disks q)) block)
    go q block true = subst (AreSettled ledger.requests) (sym (items_kept false (ledger.disks old) block)) (settled old block)
    go q block false = settled q block
settled_step ledger (Delete disk) settled may = λ q block. go q block (q == disk)
  where
    go : (q block : ℕ) (b : Bool) → AreSettled ledger.requests (items_in (cond b (option_map (λ (disk : Disk). record disk { deleted = true }) (ledger.disks disk)) (ledger.disks q)) block)
    go q block true = subst (AreSettled ledger.requests) (sym (items_kept true (ledger.disks disk) block)) (settled disk block)
    go q block false = settled q block
settled_step ledger (WriteStart req disk at coded bytes) settled may = λ q block.
    All-weaker (SettledIn ledger.requests) (SettledIn (ledger_after ledger event).requests) (λ item. settled_more ledger.requests (ledger_after ledger event).requests more item.mark item.request)
    (items_in ((ledger_after ledger event).disks q) block) (whole q block (has_block (ledger.disks disk) at))
  where
    event : HistEvent
    event = WriteStart req disk at coded bytes

    item : Item
    item = record { request = Some req; bytes = bytes; coded = coded; mark = Open }

    written : Option Disk
    written = option_map (with_item at item) (ledger.disks disk)

    request : WriteRequest
    request = record {
      places = (ledger.requests req).places ++ (disk, at) ∷ [];
      stray = (ledger.requests req).stray || not (has_block (ledger.disks disk) at);
      ended = (ledger.requests req).ended;
    }

    more : (q : ℕ) → (ledger.requests q).ended ≡ true → ((ledger_after ledger event).requests q).ended ≡ true
    more q e = go (q == req) refl
      where
        go : (b : Bool) → (q == req) ≡ b → (cond b request (ledger.requests q)).ended ≡ true
        go true same = ap (λ q. (ledger.requests q).ended) (sym (eqb-true q req same)) ∙ e
        go false same = e

    one : (found : Option Disk) (block : ℕ) → AreSettled ledger.requests (items_in found at) → AreSettled ledger.requests (items_in found block)
        → AreSettled ledger.requests (items_in (option_map (with_item at item) found) block)
    one None block here there = All-nil (SettledIn ledger.requests)
    one (Some disk) block here there = pick (block == at)
      where
        pick : (b : Bool) → AreSettled ledger.requests (cond b (disk.items at ++ item ∷ []) (disk.items block))
        pick true = All-push (SettledIn ledger.requests) (disk.items at) item here refl
        pick false = there

    go : (q block : ℕ) (b : Bool) → AreSettled ledger.requests (items_in (cond b written (ledger.disks q)) block)
    go q block true = one (ledger.disks disk) block (settled disk at) (settled disk block)
    go q block false = settled q block

    whole : (q block : ℕ) (b : Bool) → AreSettled ledger.requests (items_in ((cond b (changed_at disk written ledger.disks) ledger.disks) q) block)
    whole q block true = go q block (q == disk)
    whole q block false = settled q block
settled_step ledger (WriteDone req) settled may = λ q block.
    subst (AreSettled (with_ended_request req ledger.requests)) (sym (items_ended (map (item_with_mark Acknowledged req)) refl (ledger.disks q) block))
    (All-map (SettledIn (with_ended_request req ledger.requests)) (item_with_mark Acknowledged req) (items_in (ledger.disks q) block)
    (All-weaker (SettledIn ledger.requests) (λ item. SettledIn (with_ended_request req ledger.requests) (item_with_mark Acknowledged req item)) (λ item. marked_settled ledger.requests req Acknowledged item) (items_in (ledger.disks q) block) (settled q block)))
settled_step ledger (WriteRefused req) settled may = λ q block.
    subst (AreSettled (with_ended_request req ledger.requests)) (sym (items_ended (filter (λ item. not (is_item_of req item))) refl (ledger.disks q) block))
    (All-filter (λ item. not (is_item_of req item)) (SettledIn (with_ended_request req ledger.requests)) (items_in (ledger.disks q) block)
    (All-weaker (SettledIn ledger.requests) (SettledIn (with_ended_request req ledger.requests))
    (λ item. settled_more ledger.requests (with_ended_request req ledger.requests) (more_ended ledger.requests req) item.mark item.request) (items_in (ledger.disks q) block) (settled q block)))
settled_step ledger (WriterLost req) settled may = λ q block.
    subst (AreSettled (with_ended_request req ledger.requests)) (sym (items_ended (map (item_with_mark Lost req)) refl (ledger.disks q) block))
    (All-map (SettledIn (with_ended_request req ledger.requests)) (item_with_mark Lost req) (items_in (ledger.disks q) block)
    (All-weaker (SettledIn ledger.requests) (λ item. SettledIn (with_ended_request req ledger.requests) (item_with_mark Lost req item)) (λ item. marked_settled ledger.requests req Lost item) (items_in (ledger.disks q) block) (settled q block)))
settled_step ledger (Read disk block bytes) settled may = settled

pub settled_all : (events : List HistEvent) (ledger : Ledger) → ledger_from empty_ledger events ≡ Some ledger → IsSettled ledger
settled_all events ledger reached = kept_through IsSettled settled_step events empty_ledger ledger (λ disk block. All-nil (SettledIn empty_ledger.requests)) reached

-- ---- an acknowledged item stays

-- an item that a change leaves alone is there after it
mapped_same : (f : Item → Item) (xs : List Item) (x : Item) → f x ≡ x → Contains xs x → Contains (map f xs) x
mapped_same f xs x same there = subst (Contains (map f xs)) same (Contains-map f xs x there)

-- an acknowledged item is none of a request that goes on
not_own : (requests : ℕ → WriteRequest) (req : ℕ) (mark : Mark) (request : Option ℕ) (bytes : List ℕ) (coded : Bool)
    → (requests req).ended ≡ false → is_settled requests mark request ≡ true
    → (let item : Item = record { request = request; bytes = bytes; coded = coded; mark = mark } in
    is_acknowledged item ≡ true → is_item_of req item ≡ false)
not_own requests req Open request bytes coded running settled acknowledged = absurd (false≢true acknowledged)
not_own requests req Lost request bytes coded running settled acknowledged = absurd (false≢true acknowledged)
not_own requests req Acknowledged None bytes coded running settled acknowledged = refl
not_own requests req Acknowledged (Some number) bytes coded running settled acknowledged = go (number == req) refl
  where
    go : (b : Bool) → (number == req) ≡ b → b ≡ false
    go true same = absurd (true≢false (sym settled ∙ ap (λ n. (requests n).ended) (eqb-true number req same) ∙ running))
    go false same = refl

no_items : (found : Option Disk) (block : ℕ) (item : Item) → is_none found ≡ true → Contains (items_in found block) item → ⊥
no_items None block item gone (k, below, at) = omega (arith, below)
no_items (Some disk) block item gone there = false≢true gone

-- the item is told nothing by the end of another request
end_keeps : (ledger : Ledger) (req disk block : ℕ) (item : Item) (change : List Item → List Item) → change [] ≡ []
    → (Contains (items_in (ledger.disks disk) block) item → Contains (change (items_in (ledger.disks disk) block)) item)
    → Contains (items_in (ledger.disks disk) block) item
    → Contains (items_in (with_items change ledger.disks disk) block) item
end_keeps ledger req disk block item change empty keeps there =
    subst (λ (items : List Item). Contains items item) (sym (items_ended change empty (ledger.disks disk) block)) (keeps there)

foreign : (ledger : Ledger) (req disk block : ℕ) (item : Item) → IsSettled ledger → (ledger.requests req).ended ≡ false → is_acknowledged item ≡ true
    → Contains (items_in (ledger.disks disk) block) item → is_item_of req item ≡ false
foreign ledger req disk block item settled running acknowledged there =
    not_own ledger.requests req item.mark item.request item.bytes item.coded running
    (All-contains (SettledIn ledger.requests) (items_in (ledger.disks disk) block) item (settled disk block) there) acknowledged

item_step : (q block : ℕ) (item : Item) → is_acknowledged item ≡ true → (ledger : Ledger) (event : HistEvent) → IsSettled ledger
    → Contains (items_in (ledger.disks q) block) item → may_follow ledger event ≡ true
    → Contains (items_in ((ledger_after ledger event).disks q) block) item
item_step q block item acknowledged ledger (Create disk many) settled there may = go (q == disk) refl
  where
    made : Option Disk
    made = Some (record { blocks = many; items = λ block. zeros_item ∷ []; deleted = false })

    go : (b : Bool) → (q == disk) ≡ b → Contains (items_in (cond b made (ledger.disks q)) block) item
    go true e = absurd (no_items (ledger.disks disk) block item may (subst (λ q. Contains (items_in (ledger.disks q) block) item) (eqb-true q disk e) there))
    go false e = there
item_step q block item acknowledged ledger (Copy old new) settled there may = go (q == new) refl
  where
    gone : is_none (ledger.disks new) ≡ true
    gone = (and_parts (is_some (ledger.disks old)) (is_none (ledger.disks new)) may).1

    go : (b : Bool) → (q == new) ≡ b → Contains (items_in (cond b (option_map (λ (disk : Disk). record disk { deleted = false }) (ledger.disks old)) (ledger.disks q)) block) item
    go true e = absurd (no_items (ledger.disks new) block item gone (subst (λ q. Contains (items_in (ledger.disks q) block) item) (eqb-true q new e) there))
    go false e = there
item_step q block item acknowledged ledger (Delete disk) settled there may = go (q == disk) refl
  where
    go : (b : Bool) → (q == disk) ≡ b → Contains (items_in (cond b (option_map (λ (disk : Disk). record disk { deleted = true }) (ledger.disks disk)) (ledger.disks q)) block) item
    go true e = subst (λ (items : List Item). Contains items item) (sym (items_kept true (ledger.disks disk) block))
        (subst (λ q. Contains (items_in (ledger.disks q) block) item) (eqb-true q disk e) there)
    go false e = there
item_step q block item acknowledged ledger (WriteStart req disk at coded bytes) settled there may = whole (has_block (ledger.disks disk) at)
  where
    new : Item
    new = record { request = Some req; bytes = bytes; coded = coded; mark = Open }

    one : (found : Option Disk) → Contains (items_in found block) item → Contains (items_in (option_map (with_item at new) found) block) item
    one None here = here
    one (Some disk) here = pick (block == at) refl
      where
        pick : (b : Bool) → (block == at) ≡ b → Contains (cond b (disk.items at ++ new ∷ []) (disk.items block)) item
        pick true e = Contains-append_left (disk.items at) (new ∷ []) item (subst (λ n. Contains (disk.items n) item) (eqb-true block at e) here)
        pick false e = here

    go : (b : Bool) → (q == disk) ≡ b → Contains (items_in (cond b (option_map (with_item at new) (ledger.disks disk)) (ledger.disks q)) block) item
    go true e = one (ledger.disks disk) (subst (λ q. Contains (items_in (ledger.disks q) block) item) (eqb-true q disk e) there)
    go false e = there

    whole : (b : Bool) → Contains (items_in ((cond b (changed_at disk (option_map (with_item at new) (ledger.disks disk)) ledger.disks) ledger.disks) q) block) item
    whole true = go (q == disk) refl
    whole false = there
item_step q block item acknowledged ledger (WriteDone req) settled there may =
    end_keeps ledger req q block item (map (item_with_mark Acknowledged req)) refl
    (mapped_same (item_with_mark Acknowledged req) (items_in (ledger.disks q) block) item
    (ap (λ b. cond b (record item { mark = Acknowledged }) item) (foreign ledger req q block item settled (open_by_done ledger req may) acknowledged there))) there
item_step q block item acknowledged ledger (WriteRefused req) settled there may =
    end_keeps ledger req q block item (filter (λ item. not (is_item_of req item))) refl
    (λ before. Contains-filter (λ item. not (is_item_of req item)) (items_in (ledger.disks q) block) item before
    (ap (λ b. not b) (foreign ledger req q block item settled (open_by_end ledger req may) acknowledged there))) there
item_step q block item acknowledged ledger (WriterLost req) settled there may =
    end_keeps ledger req q block item (map (item_with_mark Lost req)) refl
    (mapped_same (item_with_mark Lost req) (items_in (ledger.disks q) block) item
    (ap (λ b. cond b (record item { mark = Lost }) item) (foreign ledger req q block item settled (open_by_end ledger req may) acknowledged there))) there
item_step q block item acknowledged ledger (Read disk at bytes) settled there may = there

pub acknowledged_stays : (before later : List HistEvent) (ledger next : Ledger) (disk block : ℕ) (item : Item)
    → ledger_from empty_ledger before ≡ Some ledger → ledger_from ledger later ≡ Some next
    → Contains (items_in (ledger.disks disk) block) item → is_acknowledged item ≡ true
    → Contains (items_in (next.disks disk) block) item
acknowledged_stays before later ledger next disk block item reached on there acknowledged =
    (kept_through (λ ledger. IsSettled ledger × Contains (items_in (ledger.disks disk) block) item)
    (λ ledger event both may. (settled_step ledger event both.0 may, item_step disk block item acknowledged ledger event both.0 both.1 may))
    later ledger next (settled_all before ledger reached, there) on).1
