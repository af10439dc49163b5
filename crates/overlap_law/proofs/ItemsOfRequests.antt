-- Which requests may have items in a ledger: those that began a write, and weren't refused since.
use Rattle.std.proofs.Common.{◌≡◌, ◌⊎◌, inl, inr, ⊎_elim, ℕ, ◌==◌, Bool, true, false, not, ◌||◌, cond, List, [], ◌∷◌, ◌++◌, map, filter}
use Rattle.std.proofs.Common.{fold, Contains, Option, Some, None, refl, sym, ap, subst, ◌∙◌}
use Rattle.std.specs.Prelude.{flat_map}
use Rattle.std.specs.List.{list_any}
use Rattle.std.specs.Option.{option_map}
use Rattle.std.proofs.lemmas.Bool.{eqb-true, eq-eqb, or_parts}
use Rattle.std.proofs.lemmas.List.Folds.{list_any-append}
use Rattle.proof_tools.proofs.Lists.{Contains-nil, Contains-cons_cases}
use Rattle.disk_history.specs.declared.event.HistEvent.{HistEvent}
use Rattle.disk_history.specs.declared.event.HistEvent.TheVariants.{Create, Copy, Delete, WriteStart, WriteDone, WriteRefused, WriterLost}
use Rattle.disk_history.specs.declared.event.HistEvent.TheVariants.{Read}
use Rattle.disk_history.specs.Ledger.{Mark, Item, Disk, Ledger, Open, Acknowledged, Lost, zeros_item, is_item_of, item_with_mark}
use Rattle.disk_history.specs.Ledger.{empty_ledger, ledger_after, changed_at, with_item, has_block}
use Rattle.disk_history.specs.Changes.{items_in}

-- ---- a request without items

-- no block of a disk has an item of the request
abbrev HasNoneIn : ℕ → Option Disk → Type 0
HasNoneIn req disk = (block : ℕ) → list_any (is_item_of req) (items_in disk block) ≡ false

-- nor has one of any disk
abbrev pub HasNoItems : ℕ → Ledger → Type 0
HasNoItems req ledger = (disk : ℕ) → HasNoneIn req (ledger.disks disk)

-- whether an event begins a write of the request
abbrev pub begins_write_of : ℕ → HistEvent → Bool
begins_write_of req (Create disk blocks) = false
begins_write_of req (Copy old new) = false
begins_write_of req (Delete disk) = false
begins_write_of req (WriteStart other disk block coded bytes) = other == req
begins_write_of req (WriteDone other) = false
begins_write_of req (WriteRefused other) = false
begins_write_of req (WriterLost other) = false
begins_write_of req (Read disk block bytes) = false

-- whether it refuses the request
abbrev pub refuses_write_of : ℕ → HistEvent → Bool
refuses_write_of req (Create disk blocks) = false
refuses_write_of req (Copy old new) = false
refuses_write_of req (Delete disk) = false
refuses_write_of req (WriteStart other disk block coded bytes) = false
refuses_write_of req (WriteDone other) = false
refuses_write_of req (WriteRefused other) = other == req
refuses_write_of req (WriterLost other) = false
refuses_write_of req (Read disk block bytes) = false

-- whether the request may have items after an event, where this tells it of before
abbrev pub may_have_after : ℕ → Bool → HistEvent → Bool
may_have_after req may event = cond (refuses_write_of req event) false (may || begins_write_of req event)

-- whether it may have items by a history
abbrev pub may_have_items : ℕ → List HistEvent → Bool
may_have_items req history = fold (may_have_after req) false history

-- ---- one event

-- where one disk changes
changed_none : (req place : ℕ) (new : Option Disk) (disks : ℕ → Option Disk) → HasNoneIn req new → ((disk : ℕ) → HasNoneIn req (disks disk))
    → (disk : ℕ) → HasNoneIn req (changed_at place new disks disk)
changed_none req place new disks own none disk = by_test (disk == place)
  where
    by_test : (b : Bool) → HasNoneIn req (cond b new (disks disk))
    by_test true = own
    by_test false = none disk

new_none : (req blocks : ℕ) → HasNoneIn req (Some (record { blocks = blocks; items = λ block. zeros_item ∷ []; deleted = false }))
new_none req blocks block = refl

copied_none : (req : ℕ) (deleted : Bool) (found : Option Disk) → HasNoneIn req found
    → HasNoneIn req (option_map (λ (disk : Disk). record disk { deleted = deleted }) found)
copied_none req deleted None none = none
copied_none req deleted (Some disk) none = none

-- one item of another request
item_none : (req other block : ℕ) (bytes : List ℕ) (coded : Bool) (found : Option Disk) → (other == req) ≡ false → HasNoneIn req found
    → HasNoneIn req (option_map (with_item block (record { request = Some other; bytes = bytes; coded = coded; mark = Open })) found)
item_none req other block bytes coded None apart none = none
item_none req other block bytes coded (Some disk) apart none = λ at. by_test (at == block) at
  where
    item : Item
    item = record { request = Some other; bytes = bytes; coded = coded; mark = Open }

    at_end : list_any (is_item_of req) (disk.items block ++ item ∷ []) ≡ false
    at_end = list_any-append (is_item_of req) (disk.items block) (item ∷ []) ∙ (λ i. none block i || (apart i || false))

    by_test : (b : Bool) (at : ℕ) → list_any (is_item_of req) (cond b (disk.items block ++ item ∷ []) (disk.items at)) ≡ false
    by_test true at = at_end
    by_test false at = none at

-- marks are no items
marked_same : (mark : Mark) (other req : ℕ) (item : Item) → is_item_of req (item_with_mark mark other item) ≡ is_item_of req item
marked_same mark other req item = by_test (is_item_of other item)
  where
    by_test : (b : Bool) → is_item_of req (cond b (record item { mark = mark }) item) ≡ is_item_of req item
    by_test true = refl
    by_test false = refl

pub marked_none : (mark : Mark) (other req : ℕ) (items : List Item) → list_any (is_item_of req) items ≡ false
    → list_any (is_item_of req) (map (item_with_mark mark other) items) ≡ false
marked_none mark other req [] none = refl
marked_none mark other req (item ∷ items) none =
    let parts = or_parts (is_item_of req item) (list_any (is_item_of req) items) none in
    let rest : list_any (is_item_of req) (map (item_with_mark mark other) items) ≡ false = marked_none mark other req items parts.1 in
    λ i. (marked_same mark other req item ∙ parts.0) i || rest i

-- a list with less has none either
pub left_none : (keeps : Item → Bool) (req : ℕ) (items : List Item) → list_any (is_item_of req) items ≡ false
    → list_any (is_item_of req) (filter keeps items) ≡ false
left_none keeps req [] none = refl
left_none keeps req (item ∷ items) none =
    let parts = or_parts (is_item_of req item) (list_any (is_item_of req) items) none in
    by_test (keeps item) parts.0 (left_none keeps req items parts.1)
  where
    by_test : (b : Bool) → is_item_of req item ≡ false → list_any (is_item_of req) (filter keeps items) ≡ false
        → list_any (is_item_of req) (cond b (item ∷ filter keeps items) (filter keeps items)) ≡ false
    by_test true first rest = λ i. first i || rest i
    by_test false first rest = rest

-- and what is taken out isn't there
taken_none : (req : ℕ) (items : List Item) → list_any (is_item_of req) (filter (λ item. not (is_item_of req item)) items) ≡ false
taken_none req [] = refl
taken_none req (item ∷ items) = by_test (is_item_of req item) (filter (λ item. not (is_item_of req item)) items) refl (taken_none req items)
  where
    by_test : (b : Bool) (left : List Item) → is_item_of req item ≡ b → list_any (is_item_of req) left ≡ false
        → list_any (is_item_of req) (cond (not b) (item ∷ left) left) ≡ false
    by_test true left is rest = rest
    by_test false left is rest = λ i. is i || rest i

-- each disk's items change alike
each_none : (change : List Item → List Item) (req : ℕ) (found : Option Disk)
    → ((items : List Item) → list_any (is_item_of req) items ≡ false → list_any (is_item_of req) (change items) ≡ false)
    → HasNoneIn req found
    → HasNoneIn req (option_map (λ (disk : Disk). record disk { items = λ block. change (disk.items block) }) found)
each_none change req None keeps none = none
each_none change req (Some disk) keeps none = λ block. keeps (disk.items block) (none block)

-- a request without items has none after an event that doesn't begin a write of it
pub stays_none : (req : ℕ) (ledger : Ledger) (event : HistEvent) → begins_write_of req event ≡ false → HasNoItems req ledger
    → HasNoItems req (ledger_after ledger event)
stays_none req ledger (Create disk blocks) other none =
    changed_none req disk (Some (record { blocks = blocks; items = λ block. zeros_item ∷ []; deleted = false })) ledger.disks
    (new_none req blocks) none
stays_none req ledger (Copy old new) other none =
    changed_none req new (option_map (λ (disk : Disk). record disk { deleted = false }) (ledger.disks old)) ledger.disks
    (copied_none req false (ledger.disks old) (none old)) none
stays_none req ledger (Delete disk) other none =
    changed_none req disk (option_map (λ (disk : Disk). record disk { deleted = true }) (ledger.disks disk)) ledger.disks
    (copied_none req true (ledger.disks disk) (none disk)) none
stays_none req ledger (WriteStart writer disk block coded bytes) other none = by_test (has_block (ledger.disks disk) block)
  where
    written : Option Disk
    written = option_map (with_item block (record { request = Some writer; bytes = bytes; coded = coded; mark = Open })) (ledger.disks disk)

    by_test : (b : Bool) (at : ℕ) → HasNoneIn req (cond b (changed_at disk written ledger.disks) ledger.disks at)
    by_test true =
        changed_none req disk written ledger.disks (item_none req writer block bytes coded (ledger.disks disk) other (none disk)) none
    by_test false = none
stays_none req ledger (WriteDone ended) other none = λ disk.
    each_none (map (item_with_mark Acknowledged ended)) req (ledger.disks disk) (marked_none Acknowledged ended req) (none disk)
stays_none req ledger (WriteRefused ended) other none = λ disk.
    each_none (filter (λ item. not (is_item_of ended item))) req (ledger.disks disk) (left_none (λ item. not (is_item_of ended item)) req)
    (none disk)
stays_none req ledger (WriterLost ended) other none = λ disk.
    each_none (map (item_with_mark Lost ended)) req (ledger.disks disk) (marked_none Lost ended req) (none disk)
stays_none req ledger (Read disk block bytes) other none = none

all_taken : (req : ℕ) (found : Option Disk)
    → HasNoneIn req (option_map (λ (disk : Disk). record disk {
      items = λ block. filter (λ item. not (is_item_of req item))
          (disk.items block);
    }) found)
all_taken req None = λ block. refl
all_taken req (Some disk) = λ block. taken_none req (disk.items block)

-- a refusal takes all that the request had
pub refused_none : (req : ℕ) (ledger : Ledger) → HasNoItems req (ledger_after ledger (WriteRefused req))
refused_none req ledger = λ disk. all_taken req (ledger.disks disk)

refusal_is : (req : ℕ) (event : HistEvent) → refuses_write_of req event ≡ true → event ≡ WriteRefused req
refusal_is req (WriteRefused other) is = ap (λ (k : ℕ). WriteRefused k) (eqb-true other req is)
refusal_is req event is = absurd (cc (is))

-- ---- a history

-- who may have none has none
along : (req : ℕ) (events : List HistEvent) (may : Bool) (ledger : Ledger) → (may ≡ false → HasNoItems req ledger)
    → fold (may_have_after req) may events ≡ false → HasNoItems req (fold ledger_after ledger events)
along req [] may ledger holds is = holds is
along req (event ∷ later) may ledger holds is =
    along req later (may_have_after req may event) (ledger_after ledger event) (by_test (refuses_write_of req event) refl) is
  where
    by_test : (b : Bool) → refuses_write_of req event ≡ b → cond b false (may || begins_write_of req event) ≡ false
        → HasNoItems req (ledger_after ledger event)
    by_test true refuses after =
        subst (λ (e : HistEvent). HasNoItems req (ledger_after ledger e)) (sym (refusal_is req event refuses)) (refused_none req ledger)
    by_test false refuses after =
        let parts = or_parts may (begins_write_of req event) after in
        stays_none req ledger event parts.1 (holds parts.0)

pub none_by_history : (req : ℕ) (history : List HistEvent) → may_have_items req history ≡ false
    → HasNoItems req (fold ledger_after empty_ledger history)
none_by_history req history is = along req history false empty_ledger (λ same disk block. refl) is

-- ---- lists of events that begin no write of the request

abbrev pub BeginNone : ℕ → List HistEvent → Type 0
BeginNone req events = list_any (begins_write_of req) events ≡ false

-- who may have items behind them might before
pub might_before : (req : ℕ) (events : List HistEvent) (may : Bool) → BeginNone req events
    → fold (may_have_after req) may events ≡ true → may ≡ true
might_before req [] may none is = is
might_before req (event ∷ later) may none is =
    by_test (refuses_write_of req event) (might_before req later (may_have_after req may event) parts.1 is)
  where
    parts : (begins_write_of req event ≡ false) × (list_any (begins_write_of req) later ≡ false)
    parts = or_parts (begins_write_of req event) (list_any (begins_write_of req) later) none

    by_begin : (may begins : Bool) → begins ≡ false → (may || begins) ≡ true → may ≡ true
    by_begin true begins isnt is = refl
    by_begin false begins isnt is = absurd (cc (isnt, is))

    by_test : (b : Bool) → cond b false (may || begins_write_of req event) ≡ true → may ≡ true
    by_test true is = absurd (cc (is))
    by_test false is = by_begin may (begins_write_of req event) parts.0 is

-- so who might not may not
pub none_behind : (req : ℕ) (events : List HistEvent) (may : Bool) → BeginNone req events → may ≡ false
    → fold (may_have_after req) may events ≡ false
none_behind req events may none was = by_value (fold (may_have_after req) may events) refl
  where
    by_value : (b : Bool) → fold (may_have_after req) may events ≡ b → fold (may_have_after req) may events ≡ false
    by_value false is = is
    by_value true is = absurd (cc (was, might_before req events may none is))

-- who is refused among them may not
pub none_refused : (req : ℕ) (events : List HistEvent) (may : Bool) → BeginNone req events → Contains events (WriteRefused req)
    → fold (may_have_after req) may events ≡ false
none_refused req [] may none there = absurd (Contains-nil (WriteRefused req) there)
none_refused req (event ∷ later) may none there = ⊎_elim
    (λ (own : event ≡ WriteRefused req).
    let refuses : refuses_write_of req event ≡ true = ap (refuses_write_of req) own ∙ eq-eqb req req refl in
    none_behind req later (may_have_after req may event) parts.1
    (ap (λ (b : Bool). cond b false (may || begins_write_of req event)) refuses))
    (λ (behind : Contains later (WriteRefused req)). none_refused req later (may_have_after req may event) parts.1 behind)
    (Contains-cons_cases event later (WriteRefused req) there)
  where
    parts : (begins_write_of req event ≡ false) × (list_any (begins_write_of req) later ≡ false)
    parts = or_parts (begins_write_of req event) (list_any (begins_write_of req) later) none

-- who may have items behind any events might before, or they begin a write of it
pub might_or_begins : (req : ℕ) (events : List HistEvent) (may : Bool) → fold (may_have_after req) may events ≡ true
    → (may ≡ true) ⊎ (list_any (begins_write_of req) events ≡ true)
might_or_begins req events may is = by_value (list_any (begins_write_of req) events) refl
  where
    by_value : (b : Bool) → list_any (begins_write_of req) events ≡ b → (may ≡ true) ⊎ (list_any (begins_write_of req) events ≡ true)
    by_value true begins = inr begins
    by_value false none = inl (might_before req events may none is)

-- ---- lists of events that are made one by one

pub flat_none : {X : Type 0} (req : ℕ) (make : X → List HistEvent) → ((x : X) → BeginNone req (make x)) → (xs : List X)
    → BeginNone req (flat_map make xs)
flat_none req make none [] = refl
flat_none req make none (x ∷ xs) =
    let rest : list_any (begins_write_of req) (flat_map make xs) ≡ false = flat_none req make none xs in
    list_any-append (begins_write_of req) (make x) (flat_map make xs) ∙ (λ i. none x i || rest i)

pub map_none : {X : Type 0} (req : ℕ) (make : X → HistEvent) → ((x : X) → begins_write_of req (make x) ≡ false) → (xs : List X)
    → BeginNone req (map make xs)
map_none req make none [] = refl
map_none req make none (x ∷ xs) =
    let rest : list_any (begins_write_of req) (map make xs) ≡ false = map_none req make none xs in
    λ i. none x i || rest i
