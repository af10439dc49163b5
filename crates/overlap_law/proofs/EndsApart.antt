-- Two replies change different items, so what they leave of the disks is the same in either order: what a reply adds to the history may as
-- well stand behind what other replies add.
use Rattle.std.proofs.Common.{◌≡◌, ℕ, ◌==◌, ◌&&◌, not, Bool, true, false, cond, List, [], ◌∷◌, map, filter, fold, Option, Some, None}
use Rattle.std.proofs.Common.{option_map, refl, sym, ap, ◌∙◌}
use Rattle.std.specs.List.{list_all}
use Rattle.std.specs.Option.{option_map_or}
use Rattle.std.proofs.lemmas.Bool.{both_ways, and_parts, and_from}
use Rattle.disk_history.specs.declared.event.HistEvent.{HistEvent}
use Rattle.disk_history.specs.declared.event.HistEvent.TheVariants.{Create, Copy, Delete, WriteStart, WriteDone, WriteRefused, WriterLost}
use Rattle.disk_history.specs.declared.event.HistEvent.TheVariants.{Read}
use Rattle.disk_history.specs.Ledger.{Mark, Acknowledged, Lost, Item, Disk, Ledger, is_item_of, item_with_mark, ledger_after}
use Rattle.disk_history.specs.Changes.{ended_request}
use Rattle.overlap_law.specs.StayingBlocks.{ends_or_reads, are_two, are_apart}
use Rattle.overlap_law.proofs.ItemsStayOpen.{of_one, marked_request}

-- ---- items

-- two requests' marks
marks_commute : (m n : Mark) (p q : ℕ) (item : Item) → (p == q) ≡ false
    → item_with_mark m p (item_with_mark n q item) ≡ item_with_mark n q (item_with_mark m p item)
marks_commute m n p q item apart = by_tests (is_item_of p item) (is_item_of q item) refl refl
  where
    never : is_item_of p item ≡ true → is_item_of q item ≡ true → ⊥
    never own other = both_ways (is_item_of q item) (of_one p q item own apart) other

    by_tests : (a b : Bool) → is_item_of p item ≡ a → is_item_of q item ≡ b
        → item_with_mark m p (cond b (record item { mark = n }) item) ≡ item_with_mark n q (cond a (record item { mark = m }) item)
    by_tests true true own other = absurd (never own other)
    by_tests true false own other =
        ap (λ (c : Bool). cond c (record item { mark = m }) item) own
        ∙ sym (ap (λ (c : Bool). cond c (record item { mark = n }) (record item { mark = m })) other)
    by_tests false true own other =
        ap (λ (c : Bool). cond c (record item { mark = m }) (record item { mark = n })) own
        ∙ sym (ap (λ (c : Bool). cond c (record item { mark = n }) item) other)
    by_tests false false own other =
        ap (λ (c : Bool). cond c (record item { mark = m }) item) own
        ∙ sym (ap (λ (c : Bool). cond c (record item { mark = n }) item) other)

-- marks and what is taken out
kept_commute : (m : Mark) (p q : ℕ) (items : List Item)
    → filter (λ item. not (is_item_of p item)) (map (item_with_mark m q) items)
    ≡ map (item_with_mark m q) (filter (λ item. not (is_item_of p item)) items)
kept_commute m p q [] = refl
kept_commute m p q (item ∷ items) =
    ap (λ (b : Bool). cond (not b) (item_with_mark m q item ∷ rest) rest)
    (ap (λ (o : Option ℕ). option_map_or (λ number. number == p) o false) (marked_request m q item))
    ∙ by_test (is_item_of p item) (kept_commute m p q items)
  where
    rest : List Item
    rest = filter (λ item. not (is_item_of p item)) (map (item_with_mark m q) items)

    left : List Item
    left = filter (λ item. not (is_item_of p item)) items

    by_test : (b : Bool) → rest ≡ map (item_with_mark m q) left
        → cond (not b) (item_with_mark m q item ∷ rest) rest ≡ map (item_with_mark m q) (cond (not b) (item ∷ left) left)
    by_test true same = same
    by_test false same = ap (λ (list : List Item). item_with_mark m q item ∷ list) same

-- what two requests' refusals take out
left_commute : (f g : Item → Bool) (items : List Item) → filter f (filter g items) ≡ filter g (filter f items)
left_commute f g [] = refl
left_commute f g (item ∷ items) = by_tests (f item) (g item) refl refl (left_commute f g items)
  where
    by_tests : (a b : Bool) → f item ≡ a → g item ≡ b → filter f (filter g items) ≡ filter g (filter f items)
        → filter f (cond b (item ∷ filter g items) (filter g items)) ≡ filter g (cond a (item ∷ filter f items) (filter f items))
    by_tests true true own other rest =
        ap (λ (c : Bool). cond c (item ∷ filter f (filter g items)) (filter f (filter g items))) own
        ∙ ap (λ (list : List Item). item ∷ list) rest
        ∙ sym (ap (λ (c : Bool). cond c (item ∷ filter g (filter f items)) (filter g (filter f items))) other)
    by_tests true false own other rest =
        rest ∙ sym (ap (λ (c : Bool). cond c (item ∷ filter g (filter f items)) (filter g (filter f items))) other)
    by_tests false true own other rest =
        ap (λ (c : Bool). cond c (item ∷ filter f (filter g items)) (filter f (filter g items))) own ∙ rest
    by_tests false false own other rest = rest

both_commute : (m n : Mark) (p q : ℕ) → (p == q) ≡ false → (items : List Item)
    → map (item_with_mark m p) (map (item_with_mark n q) items) ≡ map (item_with_mark n q) (map (item_with_mark m p) items)
both_commute m n p q apart [] = refl
both_commute m n p q apart (item ∷ items) =
    ap (λ (one : Item). one ∷ map (item_with_mark m p) (map (item_with_mark n q) items)) (marks_commute m n p q item apart)
    ∙ ap (λ (list : List Item). item_with_mark n q (item_with_mark m p item) ∷ list) (both_commute m n p q apart items)

-- ---- what an event does to the items of each block

data Change : Type 0 where
  Marks : Mark → ℕ → Change
  Takes : ℕ → Change
  Leaves : Change

abbrev change_by : HistEvent → Change
change_by (Create disk blocks) = Leaves
change_by (Copy old new) = Leaves
change_by (Delete disk) = Leaves
change_by (WriteStart req disk block coded bytes) = Leaves
change_by (WriteDone req) = Marks Acknowledged req
change_by (WriteRefused req) = Takes req
change_by (WriterLost req) = Marks Lost req
change_by (Read disk block bytes) = Leaves

abbrev changed : Change → List Item → List Item
changed (Marks mark req) items = map (item_with_mark mark req) items
changed (Takes req) items = filter (λ item. not (is_item_of req item)) items
changed Leaves items = items

abbrev ended_by : Change → Option ℕ
ended_by (Marks mark req) = Some req
ended_by (Takes req) = Some req
ended_by Leaves = None

by_two : (p q : ℕ) → not (p == q) ≡ true → (p == q) ≡ false
by_two p q is = by_test (p == q) is
  where
    by_test : (b : Bool) → not b ≡ true → b ≡ false
    by_test true is = absurd (cc (is))
    by_test false is = refl

commute : (x y : Change) → are_two (ended_by x) (ended_by y) ≡ true → (items : List Item)
    → changed y (changed x items) ≡ changed x (changed y items)
commute (Marks m p) (Marks n q) two items = sym (both_commute m n p q (by_two p q two) items)
commute (Marks m p) (Takes q) two items = kept_commute m q p items
commute (Marks m p) Leaves two items = refl
commute (Takes p) (Marks n q) two items = sym (kept_commute n p q items)
commute (Takes p) (Takes q) two items = left_commute (λ item. not (is_item_of q item)) (λ item. not (is_item_of p item)) items
commute (Takes p) Leaves two items = refl
commute Leaves (Marks n q) two items = refl
commute Leaves (Takes q) two items = refl
commute Leaves Leaves two items = refl

ended_so : (event : HistEvent) → ends_or_reads event ≡ true → ended_by (change_by event) ≡ ended_request event
ended_so (Create disk blocks) is = absurd (cc (is))
ended_so (Copy old new) is = absurd (cc (is))
ended_so (Delete disk) is = absurd (cc (is))
ended_so (WriteStart req disk block coded bytes) is = absurd (cc (is))
ended_so (WriteDone req) is = refl
ended_so (WriteRefused req) is = refl
ended_so (WriterLost req) is = refl
ended_so (Read disk block bytes) is = refl

-- ---- disks

abbrev all_changed : (List Item → List Item) → Option Disk → Option Disk
all_changed change found = option_map (λ (disk : Disk). record disk { items = λ block. change (disk.items block) }) found

none_changed : (found : Option Disk) → found ≡ all_changed (λ items. items) found
none_changed None = refl
none_changed (Some disk) = refl

twice_changed : (f g : List Item → List Item) (found : Option Disk)
    → all_changed g (all_changed f found) ≡ all_changed (λ items. g (f items)) found
twice_changed f g None = refl
twice_changed f g (Some disk) = refl

alike_changed : (f g : List Item → List Item) → ((items : List Item) → f items ≡ g items) → (found : Option Disk)
    → all_changed f found ≡ all_changed g found
alike_changed f g same None = refl
alike_changed f g same (Some disk) = λ i. Some (record disk { items = λ block. same (disk.items block) i })

disks_so : (event : HistEvent) → ends_or_reads event ≡ true → (ledger : Ledger) (v : ℕ)
    → (ledger_after ledger event).disks v ≡ all_changed (changed (change_by event)) (ledger.disks v)
disks_so (Create disk blocks) is ledger v = absurd (cc (is))
disks_so (Copy old new) is ledger v = absurd (cc (is))
disks_so (Delete disk) is ledger v = absurd (cc (is))
disks_so (WriteStart req disk block coded bytes) is ledger v = absurd (cc (is))
disks_so (WriteDone req) is ledger v = refl
disks_so (WriteRefused req) is ledger v = refl
disks_so (WriterLost req) is ledger v = refl
disks_so (Read disk block bytes) is ledger v = none_changed (ledger.disks v)

-- ---- in either order

swapped : (one other : HistEvent) → are_apart one other ≡ true → (ledger : Ledger) (v : ℕ)
    → (ledger_after (ledger_after ledger one) other).disks v ≡ (ledger_after (ledger_after ledger other) one).disks v
swapped one other apart ledger v =
    disks_so other second (ledger_after ledger one) v
    ∙ ap (all_changed (changed (change_by other))) (disks_so one first ledger v)
    ∙ twice_changed (changed (change_by one)) (changed (change_by other)) (ledger.disks v)
    ∙ alike_changed (λ items. changed (change_by other) (changed (change_by one) items))
    (λ items. changed (change_by one) (changed (change_by other) items)) (commute (change_by one) (change_by other) two) (ledger.disks v)
    ∙ sym (disks_so one first (ledger_after ledger other) v
    ∙ ap (all_changed (changed (change_by one))) (disks_so other second ledger v)
    ∙ twice_changed (changed (change_by other)) (changed (change_by one)) (ledger.disks v))
  where
    parts : (ends_or_reads one ≡ true) × ((ends_or_reads other && are_two (ended_request one) (ended_request other)) ≡ true)
    parts = and_parts (ends_or_reads one) (ends_or_reads other && are_two (ended_request one) (ended_request other)) apart

    first : ends_or_reads one ≡ true
    first = parts.0

    second : ends_or_reads other ≡ true
    second = (and_parts (ends_or_reads other) (are_two (ended_request one) (ended_request other)) parts.1).0

    two : are_two (ended_by (change_by one)) (ended_by (change_by other)) ≡ true
    two =
        ap (λ (o : Option ℕ). are_two o (ended_by (change_by other))) (ended_so one first)
        ∙ ap (are_two (ended_request one)) (ended_so other second)
        ∙ (and_parts (ends_or_reads other) (are_two (ended_request one) (ended_request other)) parts.1).1

-- what is alike stays so
alike_after : (events : List HistEvent) → list_all ends_or_reads events ≡ true → (ledger later : Ledger) (v : ℕ)
    → ledger.disks v ≡ later.disks v
    → (fold ledger_after ledger events).disks v ≡ (fold ledger_after later events).disks v
alike_after [] all ledger later v same = same
alike_after (event ∷ events) all ledger later v same =
    let parts = and_parts (ends_or_reads event) (list_all ends_or_reads events) all in
    alike_after events parts.1 (ledger_after ledger event) (ledger_after later event) v
    (disks_so event parts.0 ledger v ∙ ap (all_changed (changed (change_by event))) same ∙ sym (disks_so event parts.0 later v))

ends : (one : HistEvent) (back : List HistEvent) → list_all (are_apart one) back ≡ true → list_all ends_or_reads back ≡ true
ends one [] apart = refl
ends one (other ∷ back) apart =
    let parts = and_parts (are_apart one other) (list_all (are_apart one) back) apart in
    let inner = and_parts (ends_or_reads one) (ends_or_reads other && are_two (ended_request one) (ended_request other)) parts.0 in
    and_from (ends_or_reads other) (list_all ends_or_reads back)
    (and_parts (ends_or_reads other) (are_two (ended_request one) (ended_request other)) inner.1).0 (ends one back parts.1)

one_behind : (one : HistEvent) (back : List HistEvent) → list_all (are_apart one) back ≡ true → (ledger : Ledger) (v : ℕ)
    → (fold ledger_after (ledger_after ledger one) back).disks v ≡ (ledger_after (fold ledger_after ledger back) one).disks v
one_behind one [] apart ledger v = refl
one_behind one (other ∷ back) apart ledger v =
    let parts = and_parts (are_apart one other) (list_all (are_apart one) back) apart in
    alike_after back (ends one back parts.1) (ledger_after (ledger_after ledger one) other) (ledger_after (ledger_after ledger other) one) v
    (swapped one other parts.0 ledger v)
    ∙ one_behind one back parts.1 (ledger_after ledger other) v

-- those before another one end or read
ends_before : (other : HistEvent) (back added : List HistEvent)
    → list_all (λ (one : HistEvent). list_all (are_apart one) (other ∷ back)) added ≡ true → list_all ends_or_reads added ≡ true
ends_before other back [] apart = refl
ends_before other back (one ∷ added) apart =
    let parts = and_parts (list_all (are_apart one) (other ∷ back))
    (list_all (λ (one : HistEvent). list_all (are_apart one) (other ∷ back)) added) apart in
    let here = and_parts (are_apart one other) (list_all (are_apart one) back) parts.0 in
    and_from (ends_or_reads one) (list_all ends_or_reads added)
    (and_parts (ends_or_reads one) (ends_or_reads other && are_two (ended_request one) (ended_request other)) here.0).0
    (ends_before other back added parts.1)

pub all_behind : (added back : List HistEvent) → list_all (λ (one : HistEvent). list_all (are_apart one) back) added ≡ true
    → (ledger : Ledger) (v : ℕ)
    → (fold ledger_after (fold ledger_after ledger added) back).disks v ≡ (fold ledger_after (fold ledger_after ledger back) added).disks v
all_behind [] back apart ledger v = refl
all_behind (one ∷ added) [] apart ledger v = refl
all_behind (one ∷ added) (other ∷ back) apart ledger v =
    let parts = and_parts (list_all (are_apart one) (other ∷ back))
    (list_all (λ (one : HistEvent). list_all (are_apart one) (other ∷ back)) added) apart in
    all_behind added (other ∷ back) parts.1 (ledger_after ledger one) v
    ∙ alike_after added (ends_before other back added parts.1) (fold ledger_after (ledger_after ledger one) (other ∷ back))
    (ledger_after (fold ledger_after ledger (other ∷ back)) one) v (one_behind one (other ∷ back) parts.0 ledger v)
