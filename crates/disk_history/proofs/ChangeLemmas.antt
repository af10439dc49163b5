-- What one event changes, and what stays through a legal history.
use Rattle.std.proofs.Common.{◌≡◌, ℕ, ◌≢◌, ◌==◌, Bool, true, false, not, List, [], ◌∷◌, ◌++◌, map, filter, Option, Some, None, refl, sym, ap, ◌∙◌, cond}
use Rattle.std.specs.Option.{option_map}
use Rattle.std.specs.List.{list_any}
use Rattle.std.proofs.lemmas.Bool.{eq-eqb, ne_eqb, or_parts}
use Rattle.disk_history.specs.declared.event.HistEvent.{HistEvent}
use Rattle.disk_history.specs.declared.event.HistEvent.TheVariants.{Create, Copy, Delete, WriteStart, WriteDone, WriteRefused, WriterLost, Read}
use Rattle.disk_history.specs.Ledger.{Mark, Item, Disk, Ledger, Open, Acknowledged, Lost, is_item_of, item_with_mark, ledger_after, changed_at, with_items, with_item, has_block}
use Rattle.disk_history.specs.Changes.{changed_disk, ended_request, named_request, items_in, blocks_in, is_deleted}

-- ---- one event

-- a change at one place is none at another
elsewhere : {X : Type 0} (place : ℕ) (new : X) (old : ℕ → X) (q : ℕ) → ¬ (Some place ≡ Some q) → changed_at place new old q ≡ old q
elsewhere place new old q apart = ap (λ b. cond b new (old q)) (ne_eqb q place (λ same. apart (ap Some (sym same))))

pub other_disks_stay : (ledger : Ledger) (event : HistEvent) (disk : ℕ) → ended_request event ≡ None → ¬ (changed_disk event ≡ Some disk)
    → (ledger_after ledger event).disks disk ≡ ledger.disks disk
other_disks_stay ledger (Create disk blocks) q running apart = elsewhere disk _ ledger.disks q apart
other_disks_stay ledger (Copy old new) q running apart = elsewhere new _ ledger.disks q apart
other_disks_stay ledger (Delete disk) q running apart = elsewhere disk _ ledger.disks q apart
other_disks_stay ledger (WriteStart req disk block coded bytes) q running apart = go (has_block (ledger.disks disk) block)
  where
    item : Item
    item = record { request = Some req; bytes = bytes; coded = coded; mark = Open }

    changed : ℕ → Option Disk
    changed = changed_at disk (option_map (with_item block item) (ledger.disks disk)) ledger.disks

    go : (b : Bool) → (cond b changed ledger.disks) q ≡ ledger.disks q
    go true = elsewhere disk (option_map (with_item block item) (ledger.disks disk)) ledger.disks q apart
    go false = refl
other_disks_stay ledger (WriteDone req) q running apart = absurd (let no_end : Some req ≡ None → ⊥ = λ e. cc in no_end running)
other_disks_stay ledger (WriteRefused req) q running apart = absurd (let no_end : Some req ≡ None → ⊥ = λ e. cc in no_end running)
other_disks_stay ledger (WriterLost req) q running apart = absurd (let no_end : Some req ≡ None → ⊥ = λ e. cc in no_end running)
other_disks_stay ledger (Read disk block bytes) q running apart = refl

pub other_requests_stay : (ledger : Ledger) (event : HistEvent) (req : ℕ) → ¬ (named_request event ≡ Some req)
    → (ledger_after ledger event).requests req ≡ ledger.requests req
other_requests_stay ledger (WriteStart req disk block coded bytes) q apart = elsewhere req _ ledger.requests q apart
other_requests_stay ledger (WriteDone req) q apart = elsewhere req _ ledger.requests q apart
other_requests_stay ledger (WriteRefused req) q apart = elsewhere req _ ledger.requests q apart
other_requests_stay ledger (WriterLost req) q apart = elsewhere req _ ledger.requests q apart
other_requests_stay ledger event q apart = refl

-- lists without an item of the request are told nothing
unmarked : (mark : Mark) (req : ℕ) (items : List Item) → list_any (is_item_of req) items ≡ false → map (item_with_mark mark req) items ≡ items
unmarked mark req [] none = refl
unmarked mark req (item ∷ items) none =
    let parts = or_parts (is_item_of req item) (list_any (is_item_of req) items) none in
    ap (λ b. (cond b (record item { mark = mark }) item) ∷ map (item_with_mark mark req) items) parts.0
    ∙ ap (λ (rest : List Item). item ∷ rest) (unmarked mark req items parts.1)

untaken : (req : ℕ) (items : List Item) → list_any (is_item_of req) items ≡ false → filter (λ item. not (is_item_of req item)) items ≡ items
untaken req [] none = refl
untaken req (item ∷ items) none =
    let parts = or_parts (is_item_of req item) (list_any (is_item_of req) items) none in
    let rest : List Item = filter (λ item. not (is_item_of req item)) items in
    ap (λ b. cond (not b) (item ∷ rest) rest) parts.0
    ∙ ap (λ (rest : List Item). item ∷ rest) (untaken req items parts.1)

items_changed : (change : List Item → List Item) (disks : ℕ → Option Disk) (disk block : ℕ) → change [] ≡ []
    → items_in (with_items change disks disk) block ≡ change (items_in (disks disk) block)
items_changed change disks disk block empty = go (disks disk)
  where
    go : (found : Option Disk) → items_in (option_map (λ (disk : Disk). record disk { items = λ block. change (disk.items block) }) found) block ≡ change (items_in found block)
    go None = sym empty
    go (Some disk) = refl

pub ends_keep_other_items : (ledger : Ledger) (event : HistEvent) (req disk block : ℕ) → ended_request event ≡ Some req
    → list_any (is_item_of req) (items_in (ledger.disks disk) block) ≡ false
    → items_in ((ledger_after ledger event).disks disk) block ≡ items_in (ledger.disks disk) block
ends_keep_other_items ledger (WriteDone number) req q block ends none =
    let same : number ≡ req = cc in
    items_changed (map (item_with_mark Acknowledged number)) ledger.disks q block refl
    ∙ unmarked Acknowledged number (items_in (ledger.disks q) block) (ap (λ n. list_any (is_item_of n) (items_in (ledger.disks q) block)) same ∙ none)
ends_keep_other_items ledger (WriteRefused number) req q block ends none =
    let same : number ≡ req = cc in
    items_changed (filter (λ item. not (is_item_of number item))) ledger.disks q block refl
    ∙ untaken number (items_in (ledger.disks q) block) (ap (λ n. list_any (is_item_of n) (items_in (ledger.disks q) block)) same ∙ none)
ends_keep_other_items ledger (WriterLost number) req q block ends none =
    let same : number ≡ req = cc in
    items_changed (map (item_with_mark Lost number)) ledger.disks q block refl
    ∙ unmarked Lost number (items_in (ledger.disks q) block) (ap (λ n. list_any (is_item_of n) (items_in (ledger.disks q) block)) same ∙ none)
ends_keep_other_items ledger event req q block ends none = absurd (let no_end : None ≡ Some req → ⊥ = λ e. cc in no_end ends)

-- an end changes no disk but for its items
end_blocks : (change : List Item → List Item) (found : Option Disk)
    → blocks_in (option_map (λ (disk : Disk). record disk { items = λ block. change (disk.items block) }) found) ≡ blocks_in found
end_blocks change None = refl
end_blocks change (Some disk) = refl

end_deleted : (change : List Item → List Item) (found : Option Disk)
    → is_deleted (option_map (λ (disk : Disk). record disk { items = λ block. change (disk.items block) }) found) ≡ is_deleted found
end_deleted change None = refl
end_deleted change (Some disk) = refl

pub ends_keep_disks : (ledger : Ledger) (event : HistEvent) (req disk : ℕ) → ended_request event ≡ Some req
    → (blocks_in ((ledger_after ledger event).disks disk) ≡ blocks_in (ledger.disks disk)) × (is_deleted ((ledger_after ledger event).disks disk) ≡ is_deleted (ledger.disks disk))
ends_keep_disks ledger (WriteDone number) req q ends = (end_blocks (map (item_with_mark Acknowledged number)) (ledger.disks q), end_deleted (map (item_with_mark Acknowledged number)) (ledger.disks q))
ends_keep_disks ledger (WriteRefused number) req q ends =
    (end_blocks (filter (λ item. not (is_item_of number item))) (ledger.disks q), end_deleted (filter (λ item. not (is_item_of number item))) (ledger.disks q))
ends_keep_disks ledger (WriterLost number) req q ends = (end_blocks (map (item_with_mark Lost number)) (ledger.disks q), end_deleted (map (item_with_mark Lost number)) (ledger.disks q))
ends_keep_disks ledger event req q ends = absurd (let no_end : None ≡ Some req → ⊥ = λ e. cc in no_end ends)

-- a write that begins changes the items of its block alone
pub starts_keep_other_blocks : (ledger : Ledger) (req disk block : ℕ) (coded : Bool) (bytes : List ℕ) (other : ℕ) → other ≢ block
    → items_in ((ledger_after ledger (WriteStart req disk block coded bytes)).disks disk) other ≡ items_in (ledger.disks disk) other
starts_keep_other_blocks ledger req disk block coded bytes other apart = go (has_block (ledger.disks disk) block)
  where
    item : Item
    item = record { request = Some req; bytes = bytes; coded = coded; mark = Open }

    written : Option Disk
    written = option_map (with_item block item) (ledger.disks disk)

    one : (found : Option Disk) → items_in (option_map (with_item block item) found) other ≡ items_in found other
    one None = refl
    one (Some disk) = ap (λ b. cond b (disk.items block ++ item ∷ []) (disk.items other)) (ne_eqb other block apart)

    here : (b : Bool) → items_in (cond b written (ledger.disks disk)) other ≡ items_in (ledger.disks disk) other
    here true = one (ledger.disks disk)
    here false = refl

    go : (b : Bool) → items_in ((cond b (changed_at disk written ledger.disks) ledger.disks) disk) other ≡ items_in (ledger.disks disk) other
    go true = here (disk == disk)
    go false = refl

here_is : {X : Type 0} (place : ℕ) (new : X) (old : ℕ → X) → changed_at place new old place ≡ new
here_is place new old = ap (λ b. cond b new (old place)) (eq-eqb place place refl)

pub copy_is_origin : (ledger : Ledger) (old new : ℕ) (origin : Disk) → ledger.disks old ≡ Some origin
    → (ledger_after ledger (Copy old new)).disks new ≡ Some (record origin { deleted = false })
copy_is_origin ledger old new origin is =
    here_is new (option_map (λ (disk : Disk). record disk { deleted = false }) (ledger.disks old)) ledger.disks ∙ ap (option_map (λ (disk : Disk). record disk { deleted = false })) is

pub deleted_keeps_items : (ledger : Ledger) (disk : ℕ) (found : Disk) → ledger.disks disk ≡ Some found
    → (ledger_after ledger (Delete disk)).disks disk ≡ Some (record found { deleted = true })
deleted_keeps_items ledger disk found is =
    here_is disk (option_map (λ (disk : Disk). record disk { deleted = true }) (ledger.disks disk)) ledger.disks ∙ ap (option_map (λ (disk : Disk). record disk { deleted = true })) is
