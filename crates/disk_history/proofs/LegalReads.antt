-- Each read of a legal history is of the last acknowledged write or a later one, and what such a read may give may come next.
use Rattle.std.proofs.Common.{◌≡◌, ℕ, ◌<◌, ◌==◌, ◌⊎◌, inl, inr, Bool, true, false, ◌&&◌, ◌||◌, List, [], ◌∷◌, ◌++◌, length, Option, Some, None, refl, sym, ap, ◌∙◌, subst, cond, rules, ◌↔◌}
use Rattle.std.specs.Prelude.{replicate, nat_lt, IsSome}
use Rattle.std.specs.Option.{option_and_then}
use Rattle.std.specs.Str.{bytes_eq}
use Rattle.std.specs.List.{list_any}
use Rattle.std.proofs.Math.Bool.{or-false}
use Rattle.std.proofs.lemmas.Bool.{true≢false, false≢true, eqb-true, eq-eqb, lt-ltb, ltb-true, and_parts, and_from, or_cases, or_left, or_right}
use Rattle.std.proofs.lemmas.List.{append-nil}
use Rattle.std.proofs.lemmas.List.Folds.{list_any-append}
use Rattle.std.proofs.lemmas.Slice.Eq.{bytes_eq-Decides}
use Rattle.disk_history.specs.declared.event.HistEvent.{HistEvent}
use Rattle.disk_history.specs.declared.event.HistEvent.TheVariants.{Read}
use Rattle.disk_history.specs.declared.requests.Fate.{Fate}
use Rattle.disk_history.specs.declared.requests.Fate.TheVariants.{Unanswered, Done, Refused, Abandoned}
use Rattle.disk_history.specs.Ledger.{Mark, Item, Disk, Ledger, Open, Acknowledged, Lost, empty_ledger, zeros_item, ledger_after, has_block}
use Rattle.disk_history.specs.Legal.{IsLegal, is_writer_lost, is_torn, may_follow, may_read, ledger_from, standing}
use Rattle.disk_history.specs.CheckerState.{items_by}
use Rattle.disk_history.specs.ReadableBytes.{BlockWrite, writes_of, was_done, was_refused, was_lost, was_deleted, NoneDone, IsLastOrLater, IsReadable, IsTornBlock, MayBeRead}
use Rattle.disk_history.specs.Changes.{blocks_in}
use Rattle.disk_history.proofs.ItemLemmas.{standing-push}
use Rattle.disk_history.proofs.LegalLemmas.{ledger_from-append}
use Rattle.disk_history.proofs.LedgerTells.{as_write, told, is_done_fate, is_refused_fate, is_lost_fate, TellsDisk, deleted_in}
use Rattle.disk_history.proofs.HistoryTells.{tells_all}

-- ---- what a read may give

-- an item that stands passes the test: that of the last acknowledged write or of a later one, or the zeros
abbrev Found : List HistEvent → (ℕ → Fate) → (Item → Bool) → List BlockWrite → Type 0
Found events fates test writes =
    ((write : BlockWrite) × IsLastOrLater events writes write × (list_any test (items_by (fates write.req) (as_write write)) ≡ true))
    ⊎ (NoneDone events writes × (test zeros_item ≡ true))

found_older : (events : List HistEvent) (fates : ℕ → Fate) (test : Item → Bool) (write : BlockWrite) (older : List BlockWrite)
    → was_done events write.req ≡ false → Found events fates test older → Found events fates test (write ∷ older)
found_older events fates test write older undone (inl found) = inl (
  found.0,
  record {
    later = write ∷ found.1.later;
    earlier = found.1.earlier;
    order = ap (λ (writes : List BlockWrite). write ∷ writes) found.1.order;
    none_done = (undone, found.1.none_done);
  },
  found.2,
)
found_older events fates test write older undone (inr zeros) = inr ((undone, zeros.0), zeros.1)

found_here : (events : List HistEvent) (fates : ℕ → Fate) (test : Item → Bool) (write : BlockWrite) (older : List BlockWrite)
    → list_any test (items_by (fates write.req) (as_write write)) ≡ true → Found events fates test (write ∷ older)
found_here events fates test write older passes = inl (write, record { later = []; earlier = older; order = refl; none_done = tt }, passes)

find_standing : (events : List HistEvent) (fates : ℕ → Fate) (test : Item → Bool)
    → ((req : ℕ) → was_done events req ≡ is_done_fate (fates req))
    → (writes : List BlockWrite) → list_any test (standing (told fates writes)) ≡ true → Found events fates test writes
find_standing events fates test done [] passes = inr (tt, sym (or-false (test zeros_item)) ∙ passes)
find_standing events fates test done (write ∷ older) passes =
    go (fates write.req) refl (find_standing events fates test done older)
  where
    item_of : Mark → Item
    item_of mark = record { request = Some write.req; bytes = write.bytes; coded = write.coded; mark = mark }

    here : (fate : Fate) → fates write.req ≡ fate → list_any test (items_by fate (as_write write)) ≡ true → Found events fates test (write ∷ older)
    here fate is found = found_here events fates test write older (ap (λ (f : Fate). list_any test (items_by f (as_write write))) is ∙ found)

    under : (fate : Fate) → fates write.req ≡ fate → is_done_fate fate ≡ false
        → (list_any test (standing (told fates older)) ≡ true → Found events fates test older)
        → list_any test (standing (told fates older)) ≡ true → Found events fates test (write ∷ older)
    under fate is undone rest found = found_older events fates test write older (done write.req ∙ ap is_done_fate is ∙ undone) (rest found)

    seen : (fate : Fate) → fates write.req ≡ fate → list_any test (standing (told fates older ++ items_by fate (as_write write))) ≡ true
    seen fate is = ap (λ (f : Fate). list_any test (standing (told fates older ++ items_by f (as_write write)))) (sym is) ∙ passes

    both : (mark : Mark) (fate : Fate) → fates write.req ≡ fate → is_done_fate fate ≡ false
        → items_by fate (as_write write) ≡ item_of mark ∷ []
        → (list_any test (standing (told fates older)) ≡ true → Found events fates test older)
        → (list_any test (standing (told fates older)) ≡ true) ⊎ (list_any test (item_of mark ∷ []) ≡ true) → Found events fates test (write ∷ older)
    both mark fate is undone own rest (inl found) = under fate is undone rest found
    both mark fate is undone own rest (inr found) = here fate is (ap (list_any test) own ∙ found)

    go : (fate : Fate) → fates write.req ≡ fate → (list_any test (standing (told fates older)) ≡ true → Found events fates test older)
        → Found events fates test (write ∷ older)
    go Unanswered is rest = both Open Unanswered is refl refl rest (or_cases _ _
        (sym (list_any-append test (standing (told fates older)) (item_of Open ∷ [])) ∙ sym (ap (list_any test) (standing-push (told fates older) (item_of Open))) ∙ seen Unanswered is))
    go Done is rest = here Done is (sym (ap (list_any test) (standing-push (told fates older) (item_of Acknowledged))) ∙ seen Done is)
    go Refused is rest = under Refused is refl rest (sym (ap (λ (items : List Item). list_any test (standing items)) (append-nil (told fates older))) ∙ seen Refused is)
    go Abandoned is rest = both Lost Abandoned is refl refl rest (or_cases _ _
        (sym (list_any-append test (standing (told fates older)) (item_of Lost ∷ [])) ∙ sym (ap (list_any test) (standing-push (told fates older) (item_of Lost))) ∙ seen Abandoned is))

torn_found : (events : List HistEvent) (fates : ℕ → Fate) (writes : List BlockWrite)
    → ((req : ℕ) → was_lost events req ≡ is_lost_fate (fates req))
    → Found events fates (λ item. item.coded && is_writer_lost item) writes → IsTornBlock events writes
torn_found events fates writes lost (inr zeros) = absurd (false≢true zeros.1)
torn_found events fates writes lost (inl found) = go (fates found.0.req) refl
  where
    test : Item → Bool
    test item = item.coded && is_writer_lost item

    seen : (fate : Fate) → fates found.0.req ≡ fate → list_any test (items_by fate (as_write found.0)) ≡ true
    seen fate is = ap (λ (f : Fate). list_any test (items_by f (as_write found.0))) (sym is) ∙ found.2

    never : (coded : Bool) → ((coded && false) || false) ≡ true → ⊥
    never true e = false≢true e
    never false e = false≢true e

    so : (coded : Bool) → ((coded && true) || false) ≡ true → coded ≡ true
    so true e = refl
    so false e = absurd (false≢true e)

    go : (fate : Fate) → fates found.0.req ≡ fate → IsTornBlock events writes
    go Unanswered is = absurd (never found.0.coded (seen Unanswered is))
    go Done is = absurd (never found.0.coded (seen Done is))
    go Refused is = absurd (false≢true (seen Refused is))
    go Abandoned is = (found.0, found.1, so found.0.coded (seen Abandoned is), lost found.0.req ∙ ap is_lost_fate is)

same_bytes : (xs ys : List ℕ) → bytes_eq xs ys ≡ true → xs ≡ ys
same_bytes xs ys e = (bytes_eq-Decides xs ys).0 e

read_found : (events : List HistEvent) (fates : ℕ → Fate) (writes : List BlockWrite) (bytes : List ℕ)
    → ((req : ℕ) → was_refused events req ≡ is_refused_fate (fates req))
    → Found events fates (λ item. bytes_eq item.bytes bytes) writes → IsReadable events writes bytes
read_found events fates writes bytes refused (inr zeros) = inr (zeros.0, sym (same_bytes (replicate 512 0) bytes zeros.1))
read_found events fates writes bytes refused (inl found) = inl (go (fates found.0.req) refl)
  where
    test : Item → Bool
    test item = bytes_eq item.bytes bytes

    seen : (fate : Fate) → fates found.0.req ≡ fate → list_any test (items_by fate (as_write found.0)) ≡ true
    seen fate is = ap (λ (f : Fate). list_any test (items_by f (as_write found.0))) (sym is) ∙ found.2

    here : (fate : Fate) → fates found.0.req ≡ fate → is_refused_fate fate ≡ false → (bytes_eq found.0.bytes bytes || false) ≡ true
        → (write : BlockWrite) × IsLastOrLater events writes write × (was_refused events write.req ≡ false) × (write.bytes ≡ bytes)
    here fate is unrefused e = (
      found.0,
      found.1,
      refused found.0.req ∙ ap is_refused_fate is ∙ unrefused,
      same_bytes found.0.bytes bytes (sym (or-false (bytes_eq found.0.bytes bytes)) ∙ e),
    )

    go : (fate : Fate) → fates found.0.req ≡ fate
        → (write : BlockWrite) × IsLastOrLater events writes write × (was_refused events write.req ≡ false) × (write.bytes ≡ bytes)
    go Unanswered is = here Unanswered is refl (seen Unanswered is)
    go Done is = here Done is refl (seen Done is)
    go Refused is = absurd (false≢true (seen Refused is))
    go Abandoned is = here Abandoned is refl (seen Abandoned is)

read_disk : (events : List HistEvent) (fates : ℕ → Fate) (writes : ℕ → List BlockWrite) (found : Option Disk) (block : ℕ) (bytes : List ℕ)
    → ((req : ℕ) → was_done events req ≡ is_done_fate (fates req))
    → ((req : ℕ) → was_refused events req ≡ is_refused_fate (fates req))
    → ((req : ℕ) → was_lost events req ≡ is_lost_fate (fates req))
    → TellsDisk fates writes found → deleted_in found ≡ false → has_block found block ≡ true → may_read found block bytes ≡ true
    → ¬ IsTornBlock events (writes block) → IsReadable events (writes block) bytes
read_disk events fates writes None block bytes done refused lost tells live there may whole = absurd (false≢true there)
read_disk events fates writes (Some disk) block bytes done refused lost tells live there may whole = go (or_cases _ _ may)
  where
    same : disk.items block ≡ told fates (writes block)
    same = tells block (ltb-true block disk.blocks there)

    find : (test : Item → Bool) → list_any test (standing (disk.items block)) ≡ true → Found events fates test (writes block)
    find test passes = find_standing events fates test done (writes block) (sym (ap (λ (items : List Item). list_any test (standing items)) same) ∙ passes)

    torn : ((disk.deleted ≡ true) ⊎ (is_torn (disk.items block) ≡ true)) → ⊥
    torn (inl gone) = true≢false (sym gone ∙ live)
    torn (inr e) = whole (torn_found events fates (writes block) lost (find (λ item. item.coded && is_writer_lost item) e))

    go : ((disk.deleted || is_torn (disk.items block)) ≡ true) ⊎ (list_any (λ item. bytes_eq item.bytes bytes) (standing (disk.items block)) ≡ true)
        → IsReadable events (writes block) bytes
    go (inl e) = absurd (torn (or_cases disk.deleted (is_torn (disk.items block)) e))
    go (inr e) = read_found events fates (writes block) bytes refused (find (λ item. bytes_eq item.bytes bytes) e)

-- a legal history reaches a ledger that its next event may follow
pub legal_split : (before : List HistEvent) (event : HistEvent) (later : List HistEvent) → IsLegal (before ++ event ∷ later)
    → (ledger : Ledger) × (ledger_from empty_ledger before ≡ Some ledger) × (may_follow ledger event ≡ true)
legal_split before event later legal =
    go (ledger_from empty_ledger before) refl (subst (λ (reached : Option Ledger). IsSome reached) (ledger_from-append empty_ledger before (event ∷ later)) legal)
  where
    none : IsSome {T = Ledger} None → ⊥
    none there = search rules

    may : (ledger : Ledger) (b : Bool) → may_follow ledger event ≡ b
        → IsSome (option_and_then (λ next. ledger_from next later) (cond b (Some (ledger_after ledger event)) None)) → b ≡ true
    may ledger true e there = refl
    may ledger false e there = absurd (none there)

    go : (reached : Option Ledger) → ledger_from empty_ledger before ≡ reached
        → IsSome (option_and_then (λ next. ledger_from next (event ∷ later)) reached)
        → (ledger : Ledger) × (ledger_from empty_ledger before ≡ Some ledger) × (may_follow ledger event ≡ true)
    go None is there = absurd (none there)
    go (Some ledger) is there = (ledger, is, may ledger (may_follow ledger event) refl there)

pub read_is_last_or_later : (before later : List HistEvent) (disk block : ℕ) (bytes : List ℕ)
    → IsLegal (before ++ Read disk block bytes ∷ later)
    → was_deleted before disk ≡ false
    → ¬ IsTornBlock before (writes_of before disk block)
    → IsReadable before (writes_of before disk block) bytes
read_is_last_or_later before later disk block bytes legal live whole =
    let split = legal_split before (Read disk block bytes) later legal in
    let tells = tells_all before split.0 split.1 in
    let may = split.2 in
    let parts = and_parts (has_block (split.0.disks disk) block && length bytes == 512) (may_read (split.0.disks disk) block bytes) may in
    read_disk before tells.fates (writes_of before disk) (split.0.disks disk) block bytes tells.done tells.refused tells.lost (tells.items disk)
    (tells.deleted disk ∙ live) (and_parts (has_block (split.0.disks disk) block) (length bytes == 512) parts.0).0 parts.1 whole

-- ---- which reads may come next

push_here : (test : Item → Bool) (items : List Item) (fate : Fate) (write : BlockWrite) → list_any test (items_by fate (as_write write)) ≡ true
    → list_any test (standing (items ++ items_by fate (as_write write))) ≡ true
push_here test items Unanswered write passes =
    let item : Item = record { request = Some write.req; bytes = write.bytes; coded = write.coded; mark = Open } in
    ap (list_any test) (standing-push items item) ∙ list_any-append test (standing items) (item ∷ [])
    ∙ or_right (list_any test (standing items)) (list_any test (item ∷ [])) passes
push_here test items Done write passes =
    let item : Item = record { request = Some write.req; bytes = write.bytes; coded = write.coded; mark = Acknowledged } in
    ap (list_any test) (standing-push items item) ∙ passes
push_here test items Refused write passes = absurd (false≢true passes)
push_here test items Abandoned write passes =
    let item : Item = record { request = Some write.req; bytes = write.bytes; coded = write.coded; mark = Lost } in
    ap (list_any test) (standing-push items item) ∙ list_any-append test (standing items) (item ∷ [])
    ∙ or_right (list_any test (standing items)) (list_any test (item ∷ [])) passes

push_over : (test : Item → Bool) (items : List Item) (fate : Fate) (write : BlockWrite) → is_done_fate fate ≡ false → list_any test (standing items) ≡ true
    → list_any test (standing (items ++ items_by fate (as_write write))) ≡ true
push_over test items Unanswered write undone passes =
    let item : Item = record { request = Some write.req; bytes = write.bytes; coded = write.coded; mark = Open } in
    ap (list_any test) (standing-push items item) ∙ list_any-append test (standing items) (item ∷ [])
    ∙ or_left (list_any test (standing items)) (list_any test (item ∷ [])) passes
push_over test items Done write undone passes = absurd (true≢false undone)
push_over test items Refused write undone passes = ap (λ (items : List Item). list_any test (standing items)) (append-nil items) ∙ passes
push_over test items Abandoned write undone passes =
    let item : Item = record { request = Some write.req; bytes = write.bytes; coded = write.coded; mark = Lost } in
    ap (list_any test) (standing-push items item) ∙ list_any-append test (standing items) (item ∷ [])
    ∙ or_left (list_any test (standing items)) (list_any test (item ∷ [])) passes

-- the last acknowledged write and later ones stand
stands : (events : List HistEvent) (fates : ℕ → Fate) (test : Item → Bool) → ((req : ℕ) → was_done events req ≡ is_done_fate (fates req))
    → (later : List BlockWrite) (write : BlockWrite) (earlier : List BlockWrite) → NoneDone events later
    → list_any test (items_by (fates write.req) (as_write write)) ≡ true
    → list_any test (standing (told fates (later ++ write ∷ earlier))) ≡ true
stands events fates test done [] write earlier none passes = push_here test (told fates earlier) (fates write.req) write passes
stands events fates test done (first ∷ later) write earlier none passes =
    push_over test (told fates (later ++ write ∷ earlier)) (fates first.req) first (sym (done first.req) ∙ none.0)
    (stands events fates test done later write earlier none.1 passes)

zeros_stand : (events : List HistEvent) (fates : ℕ → Fate) (test : Item → Bool) → ((req : ℕ) → was_done events req ≡ is_done_fate (fates req))
    → (writes : List BlockWrite) → NoneDone events writes → test zeros_item ≡ true → list_any test (standing (told fates writes)) ≡ true
zeros_stand events fates test done [] none passes = or-false (test zeros_item) ∙ passes
zeros_stand events fates test done (write ∷ older) none passes =
    push_over test (told fates older) (fates write.req) write (sym (done write.req) ∙ none.0) (zeros_stand events fates test done older none.1 passes)

torn_stands : (events : List HistEvent) (fates : ℕ → Fate) (writes : List BlockWrite) → ((req : ℕ) → was_done events req ≡ is_done_fate (fates req))
    → ((req : ℕ) → was_lost events req ≡ is_lost_fate (fates req)) → IsTornBlock events writes → is_torn (told fates writes) ≡ true
torn_stands events fates writes done lost torn =
    ap (λ (writes : List BlockWrite). is_torn (told fates writes)) torn.1.order
    ∙ stands events fates test done torn.1.later torn.0 torn.1.earlier torn.1.none_done (seen (fates torn.0.req) (sym (lost torn.0.req) ∙ torn.3))
  where
    test : Item → Bool
    test item = item.coded && is_writer_lost item

    seen : (fate : Fate) → is_lost_fate fate ≡ true → list_any test (items_by fate (as_write torn.0)) ≡ true
    seen Abandoned e = ap (λ coded. (coded && true) || false) torn.2
    seen fate e = absurd (false≢true e)

readable_stands : (events : List HistEvent) (fates : ℕ → Fate) (writes : List BlockWrite) (bytes : List ℕ)
    → ((req : ℕ) → was_done events req ≡ is_done_fate (fates req)) → ((req : ℕ) → was_refused events req ≡ is_refused_fate (fates req))
    → IsReadable events writes bytes → list_any (λ item. bytes_eq item.bytes bytes) (standing (told fates writes)) ≡ true
readable_stands events fates writes bytes done refused (inr zeros) =
    zeros_stand events fates (λ item. bytes_eq item.bytes bytes) done writes zeros.0 ((bytes_eq-Decides (replicate 512 0) bytes).1 (sym zeros.1))
readable_stands events fates writes bytes done refused (inl found) =
    ap (λ (writes : List BlockWrite). list_any test (standing (told fates writes))) found.1.order
    ∙ stands events fates test done found.1.later found.0 found.1.earlier found.1.none_done
    (seen (fates found.0.req) (sym (refused found.0.req) ∙ found.2) ((bytes_eq-Decides found.0.bytes bytes).1 found.3))
  where
    test : Item → Bool
    test item = bytes_eq item.bytes bytes

    seen : (fate : Fate) → is_refused_fate fate ≡ false → bytes_eq found.0.bytes bytes ≡ true → list_any test (items_by fate (as_write found.0)) ≡ true
    seen Refused kept e = absurd (true≢false kept)
    seen fate kept e = or-false (bytes_eq found.0.bytes bytes) ∙ e

read_allowed : (events : List HistEvent) (fates : ℕ → Fate) (writes : ℕ → List BlockWrite) (found : Option Disk) (block : ℕ) (bytes : List ℕ) (count : ℕ)
    → ((req : ℕ) → was_done events req ≡ is_done_fate (fates req))
    → ((req : ℕ) → was_refused events req ≡ is_refused_fate (fates req))
    → ((req : ℕ) → was_lost events req ≡ is_lost_fate (fates req))
    → TellsDisk fates writes found → blocks_in found ≡ Some count → block < count → length bytes ≡ 512
    → (deleted_in found ≡ true) ⊎ (IsTornBlock events (writes block) ⊎ IsReadable events (writes block) bytes)
    → (has_block found block && length bytes == 512 && may_read found block bytes) ≡ true
read_allowed events fates writes None block bytes count done refused lost tells there within whole given = absurd (never there)
  where
    never : None ≡ Some count → ⊥
    never e = cc
read_allowed events fates writes (Some disk) block bytes count done refused lost tells there within whole given =
    and_from (nat_lt block disk.blocks && length bytes == 512) (may_read (Some disk) block bytes)
    (and_from (nat_lt block disk.blocks) (length bytes == 512) (lt-ltb block disk.blocks below) (eq-eqb (length bytes) 512 whole)) (go given)
  where
    same_count : Some disk.blocks ≡ Some count → disk.blocks ≡ count
    same_count e = cc

    below : block < disk.blocks
    below = subst (λ n. block < n) (sym (same_count there)) within

    torn : Bool
    torn = is_torn (disk.items block)

    any : Bool
    any = list_any (λ item. bytes_eq item.bytes bytes) (standing (disk.items block))

    go : (deleted_in (Some disk) ≡ true) ⊎ (IsTornBlock events (writes block) ⊎ IsReadable events (writes block) bytes) → (disk.deleted || torn || any) ≡ true
    go (inl gone) = or_left (disk.deleted || torn) any (or_left disk.deleted torn gone)
    go (inr (inl broken)) = or_left (disk.deleted || torn) any (or_right disk.deleted torn
        (ap (λ (items : List Item). is_torn items) (tells block below) ∙ torn_stands events fates (writes block) done lost broken))
    go (inr (inr readable)) = or_right (disk.deleted || torn) any
        (ap (λ (items : List Item). list_any (λ item. bytes_eq item.bytes bytes) (standing items)) (tells block below)
        ∙ readable_stands events fates (writes block) bytes done refused readable)

read_told : (events : List HistEvent) (fates : ℕ → Fate) (writes : ℕ → List BlockWrite) (found : Option Disk) (block : ℕ) (bytes : List ℕ)
    → ((req : ℕ) → was_done events req ≡ is_done_fate (fates req))
    → ((req : ℕ) → was_refused events req ≡ is_refused_fate (fates req))
    → ((req : ℕ) → was_lost events req ≡ is_lost_fate (fates req))
    → TellsDisk fates writes found → has_block found block ≡ true → may_read found block bytes ≡ true
    → (count : ℕ) × (blocks_in found ≡ Some count) × (block < count)
    × ((deleted_in found ≡ true) ⊎ (IsTornBlock events (writes block) ⊎ IsReadable events (writes block) bytes))
read_told events fates writes None block bytes done refused lost tells there may = absurd (false≢true there)
read_told events fates writes (Some disk) block bytes done refused lost tells there may =
    (disk.blocks, refl, ltb-true block disk.blocks there, go (or_cases (disk.deleted || torn) any may))
  where
    torn : Bool
    torn = is_torn (disk.items block)

    any : Bool
    any = list_any (λ item. bytes_eq item.bytes bytes) (standing (disk.items block))

    find : (test : Item → Bool) → list_any test (standing (disk.items block)) ≡ true → Found events fates test (writes block)
    find test passes = find_standing events fates test done (writes block)
        (sym (ap (λ (items : List Item). list_any test (standing items)) (tells block (ltb-true block disk.blocks there))) ∙ passes)

    early : (disk.deleted ≡ true) ⊎ (torn ≡ true) → (disk.deleted ≡ true) ⊎ (IsTornBlock events (writes block) ⊎ IsReadable events (writes block) bytes)
    early (inl gone) = inl gone
    early (inr e) = inr (inl (torn_found events fates (writes block) lost (find (λ item. item.coded && is_writer_lost item) e)))

    go : ((disk.deleted || torn) ≡ true) ⊎ (any ≡ true) → (disk.deleted ≡ true) ⊎ (IsTornBlock events (writes block) ⊎ IsReadable events (writes block) bytes)
    go (inl e) = early (or_cases disk.deleted torn e)
    go (inr e) = inr (inr (read_found events fates (writes block) bytes refused (find (λ item. bytes_eq item.bytes bytes) e)))

reached_by : (events : List HistEvent) → IsLegal events → (ledger : Ledger) × (ledger_from empty_ledger events ≡ Some ledger)
reached_by events legal = go (ledger_from empty_ledger events) refl legal
  where
    none : IsSome {T = Ledger} None → ⊥
    none there = search rules

    go : (reached : Option Ledger) → ledger_from empty_ledger events ≡ reached → IsSome reached → (ledger : Ledger) × (ledger_from empty_ledger events ≡ Some ledger)
    go None is there = absurd (none there)
    go (Some ledger) is there = (ledger, is)

read_may_follow : (before : List HistEvent) (disk block : ℕ) (bytes : List ℕ) → IsLegal before → MayBeRead before disk block bytes
    → IsLegal (before ++ Read disk block bytes ∷ [])
read_may_follow before disk block bytes legal may =
    let reached = reached_by before legal in
    let tells = tells_all before reached.0 reached.1 in
    let follows : may_follow reached.0 (Read disk block bytes) ≡ true =
    read_allowed before tells.fates (writes_of before disk) (reached.0.disks disk) block bytes may.count tells.done tells.refused tells.lost
    (tells.items disk) (tells.counted disk ∙ may.there) may.within may.whole (given (deleted_in (reached.0.disks disk)) (tells.deleted disk) may.given) in
    subst (λ (at : Option Ledger). IsSome at)
    (sym (ledger_from-append empty_ledger before (Read disk block bytes ∷ [])
    ∙ ap (option_and_then (λ next. ledger_from next (Read disk block bytes ∷ []))) reached.1
    ∙ ap (λ b. option_and_then (λ (next : Ledger). Some next) (cond b (Some reached.0) None)) follows))
    (search rules)
  where
    given : (deleted : Bool) → deleted ≡ was_deleted before disk
        → (was_deleted before disk ≡ true) ⊎ (IsTornBlock before (writes_of before disk block) ⊎ IsReadable before (writes_of before disk block) bytes)
        → (deleted ≡ true) ⊎ (IsTornBlock before (writes_of before disk block) ⊎ IsReadable before (writes_of before disk block) bytes)
    given deleted same (inl gone) = inl (same ∙ gone)
    given deleted same (inr other) = inr other

followed_read : (before : List HistEvent) (disk block : ℕ) (bytes : List ℕ) → IsLegal (before ++ Read disk block bytes ∷ []) → MayBeRead before disk block bytes
followed_read before disk block bytes legal =
    let split = legal_split before (Read disk block bytes) [] legal in
    let tells = tells_all before split.0 split.1 in
    let parts = and_parts (has_block (split.0.disks disk) block && length bytes == 512) (may_read (split.0.disks disk) block bytes) split.2 in
    let there = and_parts (has_block (split.0.disks disk) block) (length bytes == 512) parts.0 in
    let seen = read_told before tells.fates (writes_of before disk) (split.0.disks disk) block bytes tells.done tells.refused tells.lost (tells.items disk) there.0 parts.1 in
    record {
      count = seen.0;
      there = sym (tells.counted disk) ∙ seen.1;
      within = seen.2;
      whole = eqb-true (length bytes) 512 there.1;
      given = given (deleted_in (split.0.disks disk)) (tells.deleted disk) seen.3;
    }
  where
    given : (deleted : Bool) → deleted ≡ was_deleted before disk
        → (deleted ≡ true) ⊎ (IsTornBlock before (writes_of before disk block) ⊎ IsReadable before (writes_of before disk block) bytes)
        → (was_deleted before disk ≡ true) ⊎ (IsTornBlock before (writes_of before disk block) ⊎ IsReadable before (writes_of before disk block) bytes)
    given deleted same (inl gone) = inl (sym same ∙ gone)
    given deleted same (inr other) = inr other

pub reads_exactly : (before : List HistEvent) (disk block : ℕ) (bytes : List ℕ) → IsLegal before
    → IsLegal (before ++ Read disk block bytes ∷ []) ↔ MayBeRead before disk block bytes
reads_exactly before disk block bytes legal = (followed_read before disk block bytes, read_may_follow before disk block bytes legal)
