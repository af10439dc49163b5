-- The items of one block of a disk, event by event, where no event makes the disk anew.
use Rattle.std.proofs.Common.{◌≡◌, ⊎_elim, ℕ, ◌==◌, Bool, true, false, not, ◌&&◌, cond, List, [], ◌∷◌, ◌++◌, map, filter, fold, Contains}
use Rattle.std.proofs.Common.{Option, Some, None, option_map, refl, sym, ap, subst, ◌∙◌}
use Rattle.std.specs.Prelude.{nat_lt}
use Rattle.std.specs.List.{list_any}
use Rattle.std.specs.Option.{option_map_or}
use Rattle.std.proofs.lemmas.Bool.{eqb-true, eq-eqb, or_parts}
use Rattle.proof_tools.proofs.Lists.{Contains-nil, Contains-cons_cases}
use Rattle.disk_history.specs.declared.event.HistEvent.{HistEvent}
use Rattle.disk_history.specs.declared.event.HistEvent.TheVariants.{Create, Copy, Delete, WriteStart, WriteDone, WriteRefused, WriterLost}
use Rattle.disk_history.specs.declared.event.HistEvent.TheVariants.{Read}
use Rattle.disk_history.specs.Changes.{items_in, blocks_in}
use Rattle.disk_history.specs.Ledger.{Open, Acknowledged, Lost, Item, Disk, Ledger, is_item_of, item_with_mark, with_item, zeros_item}
use Rattle.disk_history.specs.Ledger.{changed_at, has_block, ledger_after}

-- what differs does so both ways
pub apart_back : (a b : ℕ) → (a == b) ≡ false → (b == a) ≡ false
apart_back a b apart = by_test (b == a) refl
  where
    by_test : (t : Bool) → (b == a) ≡ t → (b == a) ≡ false
    by_test false is = is
    by_test true is = let same = eq-eqb a b (sym (eqb-true b a is)) in absurd (cc (apart, same))

-- an item as it begins
abbrev pub new_item : ℕ → Bool → List ℕ → Item
new_item req coded bytes = record { request = Some req; bytes = bytes; coded = coded; mark = Open }

module _ (vid block : ℕ) where
  -- whether an event makes the disk
  abbrev pub makes_disk : HistEvent → Bool
  makes_disk (Create disk blocks) = disk == vid
  makes_disk (Copy old new) = new == vid
  makes_disk (Delete disk) = false
  makes_disk (WriteStart req disk at coded bytes) = false
  makes_disk (WriteDone req) = false
  makes_disk (WriteRefused req) = false
  makes_disk (WriterLost req) = false
  makes_disk (Read disk at bytes) = false

  -- the block's items behind an event
  abbrev pub items_then : HistEvent → List Item → List Item
  items_then (Create disk blocks) items = items
  items_then (Copy old new) items = items
  items_then (Delete disk) items = items
  items_then (WriteStart req disk at coded bytes) items = cond (vid == disk && block == at) (items ++ new_item req coded bytes ∷ []) items
  items_then (WriteDone req) items = map (item_with_mark Acknowledged req) items
  items_then (WriteRefused req) items = filter (λ item. not (is_item_of req item)) items
  items_then (WriterLost req) items = map (item_with_mark Lost req) items
  items_then (Read disk at bytes) items = items

  module _ (ledger : Ledger) where
    abbrev found : Option Disk
    found = ledger.disks vid

    abbrev items : List Item
    items = items_in (ledger.disks vid) block

    abbrev then : HistEvent → Option Disk
    then event = (ledger_after ledger event).disks vid

    -- ---- its blocks

    alike_blocks : (change : Disk → Disk) → ((disk : Disk) → (change disk).blocks ≡ disk.blocks) → (o : Option Disk)
        → blocks_in (option_map change o) ≡ blocks_in o
    alike_blocks change same None = refl
    alike_blocks change same (Some disk) = ap Some (same disk)

    -- one disk is another
    at_blocks : (place : ℕ) (new : Option Disk) → blocks_in new ≡ blocks_in (ledger.disks place)
        → blocks_in (changed_at place new ledger.disks vid) ≡ blocks_in (ledger.disks vid)
    at_blocks place new same = by_test (vid == place) refl
      where
        by_test : (b : Bool) → (vid == place) ≡ b → blocks_in (cond b new (ledger.disks vid)) ≡ blocks_in (ledger.disks vid)
        by_test true own = same ∙ ap (λ (k : ℕ). blocks_in (ledger.disks k)) (sym (eqb-true vid place own))
        by_test false apart = refl

    pub blocks_stay : (event : HistEvent) → makes_disk event ≡ false
        → blocks_in ((ledger_after ledger event).disks vid) ≡ blocks_in (ledger.disks vid)
    blocks_stay (Create disk blocks) other =
        ap (λ (b : Bool). blocks_in (cond b (Some (record { blocks = blocks; items = λ at. zeros_item ∷ []; deleted = false })) found))
        (apart_back disk vid other)
    blocks_stay (Copy old new) other =
        ap (λ (b : Bool). blocks_in (cond b (option_map (λ (disk : Disk). record disk { deleted = false }) (ledger.disks old)) found))
        (apart_back new vid other)
    blocks_stay (Delete disk) other =
        at_blocks disk (option_map (λ (d : Disk). record d { deleted = true }) (ledger.disks disk))
        (alike_blocks (λ (d : Disk). record d { deleted = true }) (λ d. refl) (ledger.disks disk))
    blocks_stay (WriteStart req disk at coded bytes) other = by_test (has_block (ledger.disks disk) at)
      where
        written : Option Disk
        written = option_map (with_item at (new_item req coded bytes)) (ledger.disks disk)

        by_test : (b : Bool) → blocks_in (cond b (changed_at disk written ledger.disks) ledger.disks vid) ≡ blocks_in (ledger.disks vid)
        by_test true = at_blocks disk written (alike_blocks (with_item at (new_item req coded bytes)) (λ d. refl) (ledger.disks disk))
        by_test false = refl
    blocks_stay (WriteDone req) other =
        alike_blocks (λ (d : Disk). record d { items = λ at. map (item_with_mark Acknowledged req) (d.items at) }) (λ d. refl) found
    blocks_stay (WriteRefused req) other =
        alike_blocks (λ (d : Disk). record d { items = λ at. filter (λ item. not (is_item_of req item)) (d.items at) }) (λ d. refl) found
    blocks_stay (WriterLost req) other =
        alike_blocks (λ (d : Disk). record d { items = λ at. map (item_with_mark Lost req) (d.items at) }) (λ d. refl) found
    blocks_stay (Read disk at bytes) other = refl

    -- ---- its items

    alike_items : (change : Disk → Disk) → ((disk : Disk) → (change disk).items ≡ disk.items) → (o : Option Disk)
        → items_in (option_map change o) block ≡ items_in o block
    alike_items change same None = refl
    alike_items change same (Some disk) = ap (λ (list : ℕ → List Item). list block) (same disk)

    each_item : (change : List Item → List Item) → change [] ≡ [] → (o : Option Disk)
        → items_in (option_map (λ (d : Disk). record d { items = λ at. change (d.items at) }) o) block ≡ change (items_in o block)
    each_item change none None = sym none
    each_item change none (Some disk) = refl

    -- a write begins on a disk that is there
    one_more : (at : ℕ) (item : Item) (o : Option Disk) → has_block o block ≡ true
        → items_in (option_map (with_item at item) o) block
        ≡ cond (block == at) (items_in o block ++ item ∷ []) (items_in o block)
    one_more at item None has = absurd (cc (has))
    one_more at item (Some disk) has = by_test (block == at) refl
      where
        by_test : (b : Bool) → (block == at) ≡ b
            → cond b (disk.items at ++ item ∷ []) (disk.items block) ≡ cond b (disk.items block ++ item ∷ []) (disk.items block)
        by_test true own = ap (λ (k : ℕ). disk.items k ++ item ∷ []) (sym (eqb-true block at own))
        by_test false apart = refl

    start_then : (req disk at : ℕ) (coded : Bool) (bytes : List ℕ) → has_block (ledger.disks vid) block ≡ true
        → items_in ((ledger_after ledger (WriteStart req disk at coded bytes)).disks vid) block
        ≡ items_then (WriteStart req disk at coded bytes) (items_in (ledger.disks vid) block)
    start_then req disk at coded bytes has = by_has (has_block (ledger.disks disk) at) refl
      where
        item : Item
        item = new_item req coded bytes

        written : Option Disk
        written = option_map (with_item at item) (ledger.disks disk)

        by_disk : (b : Bool) → (vid == disk) ≡ b
            → items_in (cond b written (ledger.disks vid)) block ≡ cond (b && block == at) (items ++ item ∷ []) items
        by_disk false apart = refl
        by_disk true own =
            let same : ledger.disks disk ≡ ledger.disks vid = ap ledger.disks (sym (eqb-true vid disk own)) in
            ap (λ (o : Option Disk). items_in (option_map (with_item at item) o) block) same ∙ one_more at item (ledger.disks vid) has

        no_block : has_block (ledger.disks disk) at ≡ false → (a b : Bool) → (vid == disk) ≡ a → (block == at) ≡ b
            → items ≡ cond (a && b) (items ++ item ∷ []) items
        no_block none false b own here = refl
        no_block none true false own here = refl
        no_block none true true own here =
            let there : has_block (ledger.disks disk) at ≡ true
            = ap (λ (k : ℕ). has_block (ledger.disks k) at) (sym (eqb-true vid disk own))
            ∙ ap (has_block (ledger.disks vid)) (sym (eqb-true block at here)) ∙ has in
            absurd (cc (none, there))

        by_has : (b : Bool) → has_block (ledger.disks disk) at ≡ b
            → items_in (cond b (changed_at disk written ledger.disks) ledger.disks vid) block
            ≡ cond (vid == disk && block == at) (items ++ item ∷ []) items
        by_has true is = by_disk (vid == disk) refl
        by_has false none = no_block none (vid == disk) (block == at) refl refl

    pub items_after : (event : HistEvent) → makes_disk event ≡ false → has_block (ledger.disks vid) block ≡ true
        → items_in ((ledger_after ledger event).disks vid) block ≡ items_then event (items_in (ledger.disks vid) block)
    items_after (Create disk blocks) other has =
        ap (λ (b : Bool).
        items_in (cond b (Some (record { blocks = blocks; items = λ at. zeros_item ∷ []; deleted = false })) found) block)
        (apart_back disk vid other)
    items_after (Copy old new) other has =
        ap (λ (b : Bool).
        items_in (cond b (option_map (λ (disk : Disk). record disk { deleted = false }) (ledger.disks old)) found) block)
        (apart_back new vid other)
    items_after (Delete disk) other has = by_test (vid == disk) refl
      where
        deleted : Option Disk
        deleted = option_map (λ (d : Disk). record d { deleted = true }) (ledger.disks disk)

        by_test : (b : Bool) → (vid == disk) ≡ b → items_in (cond b deleted (ledger.disks vid)) block ≡ items
        by_test false apart = refl
        by_test true own =
            alike_items (λ (d : Disk). record d { deleted = true }) (λ d. refl) (ledger.disks disk)
            ∙ ap (λ (k : ℕ). items_in (ledger.disks k) block) (sym (eqb-true vid disk own))
    items_after (WriteStart req disk at coded bytes) other has = start_then req disk at coded bytes has
    items_after (WriteDone req) other has = each_item (map (item_with_mark Acknowledged req)) refl found
    items_after (WriteRefused req) other has = each_item (filter (λ item. not (is_item_of req item))) refl found
    items_after (WriterLost req) other has = each_item (map (item_with_mark Lost req)) refl found
    items_after (Read disk at bytes) other has = refl

  -- a disk has a block as long as it has as many
  pub has_alike : (one two : Option Disk) → blocks_in one ≡ blocks_in two → has_block two block ≡ has_block one block
  has_alike one two same = by_blocks two ∙ ap (λ (o : Option ℕ). option_map_or (nat_lt block) o false) (sym same) ∙ sym (by_blocks one)
    where
      by_blocks : (o : Option Disk) → has_block o block ≡ option_map_or (nat_lt block) (blocks_in o) false
      by_blocks None = refl
      by_blocks (Some disk) = refl

  -- ---- along events

  pub blocks_along : (events : List HistEvent) (ledger : Ledger) → list_any makes_disk events ≡ false
      → blocks_in ((fold ledger_after ledger events).disks vid) ≡ blocks_in (ledger.disks vid)
  blocks_along [] ledger none = refl
  blocks_along (event ∷ later) ledger none =
      let parts = or_parts (makes_disk event) (list_any makes_disk later) none in
      blocks_along later (ledger_after ledger event) parts.1 ∙ blocks_stay ledger event parts.0

  -- what each harmless event keeps of the items all keep
  module _ (K : List Item → Type 0) (harms : HistEvent → Bool)
      (keeps : (event : HistEvent) (items : List Item) → harms event ≡ false → K items → K (items_then event items)) where
    pub kept_along : (events : List HistEvent) (ledger : Ledger) → list_any makes_disk events ≡ false → list_any harms events ≡ false
        → has_block (ledger.disks vid) block ≡ true → K (items_in (ledger.disks vid) block)
        → K (items_in ((fold ledger_after ledger events).disks vid) block)
    kept_along [] ledger none harmless has is = is
    kept_along (event ∷ later) ledger none harmless has is =
        let parts = or_parts (makes_disk event) (list_any makes_disk later) none in
        let harm = or_parts (harms event) (list_any harms later) harmless in
        kept_along later (ledger_after ledger event) parts.1 harm.1
        (has_alike (ledger.disks vid) ((ledger_after ledger event).disks vid) (sym (blocks_stay ledger event parts.0)) ∙ has)
        (subst K (sym (items_after ledger event parts.0 has)) (keeps event (items_in (ledger.disks vid) block) harm.0 is))

    -- and it holds where a write begins among them
    pub begun_along : (req : ℕ) (coded : Bool) (bytes : List ℕ) → ((items : List Item) → K (items ++ new_item req coded bytes ∷ []))
        → (events : List HistEvent) (ledger : Ledger) → list_any makes_disk events ≡ false → list_any harms events ≡ false
        → has_block (ledger.disks vid) block ≡ true → Contains events (WriteStart req vid block coded bytes)
        → K (items_in ((fold ledger_after ledger events).disks vid) block)
    begun_along req coded bytes begins [] ledger none harmless has there =
        absurd (Contains-nil (WriteStart req vid block coded bytes) there)
    begun_along req coded bytes begins (event ∷ later) ledger none harmless has there = ⊎_elim
        (λ (own : event ≡ WriteStart req vid block coded bytes).
        kept_along later (ledger_after ledger event) parts.1 harm.1 has_then
        (subst K (sym (items_after ledger event parts.0 has ∙ is own)) (begins (items_in (ledger.disks vid) block))))
        (λ (behind : Contains later (WriteStart req vid block coded bytes)).
        begun_along req coded bytes begins later (ledger_after ledger event) parts.1 harm.1 has_then behind)
        (Contains-cons_cases event later (WriteStart req vid block coded bytes) there)
      where
        parts : (makes_disk event ≡ false) × (list_any makes_disk later ≡ false)
        parts = or_parts (makes_disk event) (list_any makes_disk later) none

        harm : (harms event ≡ false) × (list_any harms later ≡ false)
        harm = or_parts (harms event) (list_any harms later) harmless

        has_then : has_block ((ledger_after ledger event).disks vid) block ≡ true
        has_then = has_alike (ledger.disks vid) ((ledger_after ledger event).disks vid) (sym (blocks_stay ledger event parts.0)) ∙ has

        is : event ≡ WriteStart req vid block coded bytes
            → items_then event (items_in (ledger.disks vid) block)
            ≡ items_in (ledger.disks vid) block ++ new_item req coded bytes ∷ []
        is own =
            ap (λ (e : HistEvent). items_then e (items_in (ledger.disks vid) block)) own
            ∙ (λ i.
            cond (eq-eqb vid vid refl i && eq-eqb block block refl i)
            (items_in (ledger.disks vid) block ++ new_item req coded bytes ∷ []) (items_in (ledger.disks vid) block))
