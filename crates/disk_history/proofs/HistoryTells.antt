-- What the events tell of a legal history's ledger is so after a request begins or ends, and so of a whole history.
use Rattle.std.proofs.Common.{◌≡◌, ℕ, ◌<◌, ◌==◌, Bool, true, false, not, ◌&&◌, ◌||◌, List, [], ◌∷◌, ◌++◌, map, filter, length, Option, Some, None, refl, sym, ap, ◌∙◌, subst, cond, append_assoc}
use Rattle.std.specs.Option.{option_and_then, option_map}
use Rattle.std.proofs.Math.Bool.{or-false, and-true, and-false}
use Rattle.std.proofs.lemmas.Bool.{true≢false, not-true, eqb-true, ne_eqb, lt-ltb, and_parts}
use Rattle.std.proofs.lemmas.List.{append-nil}
use Rattle.std.proofs.lemmas.Option.{same_Some, none-some}
use Rattle.std.specs.Cmp.{nat_eq_equiv}
use Rattle.disk_history.specs.declared.event.HistEvent.{HistEvent}
use Rattle.disk_history.specs.declared.event.HistEvent.TheVariants.{Create, Copy, Delete, WriteStart, WriteDone, WriteRefused, WriterLost, Read}
use Rattle.disk_history.specs.declared.requests.Fate.{Fate}
use Rattle.disk_history.specs.declared.requests.Fate.TheVariants.{Unanswered, Done, Refused, Abandoned}
use Rattle.disk_history.specs.Ledger.{Item, Disk, WriteRequest, Ledger, Open, Acknowledged, Lost, empty_ledger, is_item_of, item_with_mark, ledger_after, changed_at, with_items, with_item, has_block}
use Rattle.disk_history.specs.Legal.{has_place, may_follow, ledger_from}
use Rattle.disk_history.specs.CheckerState.{is_answer, items_by}
use Rattle.disk_history.specs.ReadableBytes.{BlockWrite, blocks_after, block_count_of, writes_after, writes_of, is_acknowledgement, is_refusal_event, is_lost_writer, is_delete, was_done, was_refused, was_lost, was_deleted}
use Rattle.disk_history.specs.Changes.{blocks_in}
use Rattle.disk_history.proofs.ItemLemmas.{Turns, done_turns, refused_turns, lost_turns}
use Rattle.disk_history.proofs.CheckerViews.{unanswered_fate}
use Rattle.disk_history.proofs.LedgerTells.{as_write, told, is_done_fate, is_refused_fate, is_lost_fate, TellsDisk, deleted_in, Tells, any-push, any_same, writes-push, blocks-push, tells_create, tells_copy, tells_delete, tells_read}

-- ---- a write begins

started_disk : (fates : ℕ → Fate) (writes : ℕ → List BlockWrite) (req block : ℕ) (coded : Bool) (bytes : List ℕ) (found : Option Disk)
    → fates req ≡ Unanswered → TellsDisk fates writes found
    → (let item : Item = record { request = Some req; bytes = bytes; coded = coded; mark = Open } in
    let write : BlockWrite = record { req = req; coded = coded; bytes = bytes } in
    TellsDisk fates (changed_at block (write ∷ writes block) writes) (option_map (with_item block item) found))
started_disk fates writes req block coded bytes None unanswered tells = tt
started_disk fates writes req block coded bytes (Some disk) unanswered tells = λ q below. go q below (q == block) refl
  where
    item : Item
    item = record { request = Some req; bytes = bytes; coded = coded; mark = Open }

    write : BlockWrite
    write = record { req = req; coded = coded; bytes = bytes }

    go : (q : ℕ) → q < disk.blocks → (b : Bool) → (q == block) ≡ b
        → cond b (disk.items block ++ item ∷ []) (disk.items q) ≡ told fates (cond b (write ∷ writes block) (writes q))
    go q below true e =
        let here : block < disk.blocks = subst (λ q. q < disk.blocks) (eqb-true q block e) below in
        ap (λ (items : List Item). items ++ item ∷ []) (tells block here)
        ∙ ap (λ (fate : Fate). told fates (writes block) ++ items_by fate (as_write write)) (sym unanswered)
    go q below false e = tells q below

-- a write of a block that isn't there is none of the disk's
absent_disk : (fates : ℕ → Fate) (writes : ℕ → List BlockWrite) (block : ℕ) (write : BlockWrite) (found : Option Disk)
    → has_block found block ≡ false → TellsDisk fates writes found
    → TellsDisk fates (changed_at block (write ∷ writes block) writes) found
absent_disk fates writes block write None absent tells = tt
absent_disk fates writes block write (Some disk) absent tells = λ q below.
    let apart : (q == block) ≡ false = ne_eqb q block (λ same.
    true≢false (sym (lt-ltb block disk.blocks (subst (λ q. q < disk.blocks) same below)) ∙ absent)) in
    tells q below ∙ ap (λ b. told fates (cond b (write ∷ writes block) (writes q))) (sym apart)

tells_start : (events : List HistEvent) (ledger : Ledger) (req disk block : ℕ) (coded : Bool) (bytes : List ℕ) → Tells events ledger
    → may_follow ledger (WriteStart req disk block coded bytes) ≡ true
    → Tells (events ++ WriteStart req disk block coded bytes ∷ []) (ledger_after ledger (WriteStart req disk block coded bytes))
tells_start events ledger req disk block coded bytes tells may = record {
  fates = tells.fates;
  done = λ q. any_same (is_acknowledgement q) events event refl ∙ tells.done q;
  refused = λ q. any_same (is_refusal_event q) events event refl ∙ tells.refused q;
  lost = λ q. any_same (is_lost_writer q) events event refl ∙ tells.lost q;
  ended = λ q. ended q (q == req) refl;
  counted = λ q. counted q (has_block (ledger.disks disk) block) ∙ sym (blocks-push events event q);
  deleted = λ q. deleted q (has_block (ledger.disks disk) block) ∙ sym (any_same (is_delete q) events event refl);
  items = λ q. subst (λ (writes : ℕ → ℕ → List BlockWrite). TellsDisk tells.fates (writes q) ((ledger_after ledger event).disks q))
      (sym (writes-push events event)) (items q (has_block (ledger.disks disk) block) refl);
}
  where
    event : HistEvent
    event = WriteStart req disk block coded bytes

    item : Item
    item = record { request = Some req; bytes = bytes; coded = coded; mark = Open }

    write : BlockWrite
    write = record { req = req; coded = coded; bytes = bytes }

    grown : ℕ → List BlockWrite
    grown = changed_at block (write ∷ writes_of events disk block) (writes_of events disk)

    request : WriteRequest
    request = record {
      places = (ledger.requests req).places ++ (disk, block) ∷ [];
      stray = (ledger.requests req).stray || not (has_block (ledger.disks disk) block);
      ended = (ledger.requests req).ended;
    }

    unanswered : tells.fates req ≡ Unanswered
    unanswered = unanswered_fate (tells.fates req) (sym (tells.ended req)
        ∙ not-true (ledger.requests req).ended
        (and_parts (length bytes == 512) (not (ledger.requests req).ended)
        (and_parts (length bytes == 512 && not (ledger.requests req).ended) (not (has_place (ledger.requests req) disk block)) may).0).1)

    ended : (q : ℕ) (b : Bool) → (q == req) ≡ b → (cond b request (ledger.requests q)).ended ≡ is_answer (tells.fates q)
    ended q true e = tells.ended req ∙ ap (λ q. is_answer (tells.fates q)) (sym (eqb-true q req e))
    ended q false e = tells.ended q

    one_deleted : (found : Option Disk) → deleted_in (option_map (with_item block item) found) ≡ deleted_in found
    one_deleted None = refl
    one_deleted (Some disk) = refl

    here_deleted : (q : ℕ) (b : Bool) → (q == disk) ≡ b → deleted_in (cond b (option_map (with_item block item) (ledger.disks disk)) (ledger.disks q)) ≡ was_deleted events q
    here_deleted q true e = one_deleted (ledger.disks disk) ∙ tells.deleted disk ∙ ap (was_deleted events) (sym (eqb-true q disk e))
    here_deleted q false e = tells.deleted q

    changed : ℕ → Option Disk
    changed = changed_at disk (option_map (with_item block item) (ledger.disks disk)) ledger.disks

    deleted : (q : ℕ) (b : Bool) → deleted_in ((cond b changed ledger.disks) q) ≡ was_deleted events q
    deleted q true = here_deleted q (q == disk) refl
    deleted q false = tells.deleted q

    one_counted : (found : Option Disk) → blocks_in (option_map (with_item block item) found) ≡ blocks_in found
    one_counted None = refl
    one_counted (Some disk) = refl

    here_counted : (q : ℕ) (b : Bool) → (q == disk) ≡ b → blocks_in (cond b (option_map (with_item block item) (ledger.disks disk)) (ledger.disks q)) ≡ block_count_of events q
    here_counted q true e = one_counted (ledger.disks disk) ∙ tells.counted disk ∙ ap (block_count_of events) (sym (eqb-true q disk e))
    here_counted q false e = tells.counted q

    counted : (q : ℕ) (b : Bool) → blocks_in ((cond b changed ledger.disks) q) ≡ block_count_of events q
    counted q true = here_counted q (q == disk) refl
    counted q false = tells.counted q

    there : (q : ℕ) (b : Bool) → TellsDisk tells.fates (cond b grown (writes_of events q)) (cond b (option_map (with_item block item) (ledger.disks disk)) (ledger.disks q))
    there q true = started_disk tells.fates (writes_of events disk) req block coded bytes (ledger.disks disk) unanswered (tells.items disk)
    there q false = tells.items q

    absent : (q : ℕ) (b : Bool) → (q == disk) ≡ b → has_block (ledger.disks disk) block ≡ false → TellsDisk tells.fates (cond b grown (writes_of events q)) (ledger.disks q)
    absent q true e gone = subst (λ q. TellsDisk tells.fates grown (ledger.disks q)) (sym (eqb-true q disk e))
        (absent_disk tells.fates (writes_of events disk) block write (ledger.disks disk) gone (tells.items disk))
    absent q false e gone = tells.items q

    items : (q : ℕ) (b : Bool) → has_block (ledger.disks disk) block ≡ b
        → TellsDisk tells.fates (changed_at disk grown (writes_of events) q) ((cond (has_block (ledger.disks disk) block) changed ledger.disks) q)
    items q true e = subst (λ b. TellsDisk tells.fates (changed_at disk grown (writes_of events) q) ((cond b changed ledger.disks) q)) (sym e) (there q (q == disk))
    items q false e = subst (λ b. TellsDisk tells.fates (changed_at disk grown (writes_of events) q) ((cond b changed ledger.disks) q)) (sym e) (absent q (q == disk) refl e)

-- ---- a request ends

told_turned : (fates : ℕ → Fate) (req : ℕ) (fate : Fate) (change : List Item → List Item) → Turns change req fate → fates req ≡ Unanswered
    → (writes : List BlockWrite) → change (told fates writes) ≡ told (changed_at req fate fates) writes
told_turned fates req fate change turns unanswered [] = turns.zeros
told_turned fates req fate change turns unanswered (write ∷ older) =
    turns.append (told fates older) (items_by (fates write.req) (as_write write))
    ∙ ap (λ (items : List Item). items ++ change (items_by (fates write.req) (as_write write))) (told_turned fates req fate change turns unanswered older)
    ∙ ap (λ (items : List Item). told (changed_at req fate fates) older ++ items) (go (write.req == req) refl)
  where
    go : (b : Bool) → (write.req == req) ≡ b → change (items_by (fates write.req) (as_write write)) ≡ items_by (changed_at req fate fates write.req) (as_write write)
    go true e =
        ap (λ (f : Fate). change (items_by f (as_write write))) (ap fates (eqb-true write.req req e) ∙ unanswered)
        ∙ turns.own (as_write write) e
        ∙ ap (λ b. items_by (cond b fate (fates write.req)) (as_write write)) (sym e)
    go false e =
        turns.others (as_write write) (fates write.req) e
        ∙ ap (λ b. items_by (cond b fate (fates write.req)) (as_write write)) (sym e)

ended_disk : (fates : ℕ → Fate) (req : ℕ) (fate : Fate) (change : List Item → List Item) → Turns change req fate → fates req ≡ Unanswered
    → (writes : ℕ → List BlockWrite) (found : Option Disk) → TellsDisk fates writes found
    → TellsDisk (changed_at req fate fates) writes (option_map (λ (disk : Disk). record disk { items = λ block. change (disk.items block) }) found)
ended_disk fates req fate change turns unanswered writes None tells = tt
ended_disk fates req fate change turns unanswered writes (Some disk) tells = λ block below.
    ap change (tells block below) ∙ told_turned fates req fate change turns unanswered (writes block)

end_deleted : (change : List Item → List Item) (found : Option Disk)
    → deleted_in (option_map (λ (disk : Disk). record disk { items = λ block. change (disk.items block) }) found) ≡ deleted_in found
end_deleted change None = refl
end_deleted change (Some disk) = refl

-- what an end says of each request: the test finds the event for this request alone
end_told : (told_before : ℕ → Bool) (is_fate : Fate → Bool) (fates : ℕ → Fate) (req : ℕ) (fate : Fate) (found : ℕ → Bool)
    → ((q : ℕ) → told_before q ≡ is_fate (fates q)) → fates req ≡ Unanswered → is_fate Unanswered ≡ false
    → ((q : ℕ) → found q ≡ (req == q && is_fate fate))
    → (q : ℕ) → (told_before q || found q) ≡ is_fate (changed_at req fate fates q)
end_told told_before is_fate fates req fate found told_all unanswered open_none finds q =
    ap (λ b. told_before q || b) (finds q) ∙ go (q == req) refl
  where
    go : (b : Bool) → (q == req) ≡ b → (told_before q || (req == q && is_fate fate)) ≡ is_fate (cond b fate (fates q))
    go true e =
        ap (λ b. told_before q || (b && is_fate fate)) (nat_eq_equiv.symm req q ∙ e)
        ∙ ap (λ b. b || is_fate fate) (told_all q ∙ ap (λ q. is_fate (fates q)) (eqb-true q req e) ∙ ap is_fate unanswered ∙ open_none)
    go false e =
        ap (λ b. told_before q || (b && is_fate fate)) (nat_eq_equiv.symm req q ∙ e)
        ∙ or-false (told_before q) ∙ told_all q

end_counted : (change : List Item → List Item) (found : Option Disk)
    → blocks_in (option_map (λ (disk : Disk). record disk { items = λ block. change (disk.items block) }) found) ≡ blocks_in found
end_counted change None = refl
end_counted change (Some disk) = refl

tells_end : (events : List HistEvent) (ledger : Ledger) (req : ℕ) (fate : Fate) (event : HistEvent) (change : List Item → List Item)
    → Turns change req fate → Tells events ledger → (ledger.requests req).ended ≡ false → is_answer fate ≡ true
    → ((q : ℕ) → is_acknowledgement q event ≡ (req == q && is_done_fate fate))
    → ((q : ℕ) → is_refusal_event q event ≡ (req == q && is_refused_fate fate))
    → ((q : ℕ) → is_lost_writer q event ≡ (req == q && is_lost_fate fate))
    → ((q : ℕ) → is_delete q event ≡ false)
    → ((writes : ℕ → ℕ → List BlockWrite) → writes_after writes event ≡ writes)
    → ((blocks : ℕ → Option ℕ) → blocks_after blocks event ≡ blocks)
    → Tells (events ++ event ∷ []) (record {
      disks = with_items change ledger.disks;
      requests = changed_at req (record (ledger.requests req) { ended = true }) ledger.requests;
    })
tells_end events ledger req fate event change turns tells running answer dones refuses loses deletes writes blocks = record {
  fates = changed_at req fate tells.fates;
  done = λ q. any-push (is_acknowledgement q) events event ∙ end_told (was_done events) is_done_fate tells.fates req fate (λ q. is_acknowledgement q event) tells.done unanswered refl dones q;
  refused = λ q. any-push (is_refusal_event q) events event ∙ end_told (was_refused events) is_refused_fate tells.fates req fate (λ q. is_refusal_event q event) tells.refused unanswered refl refuses q;
  lost = λ q. any-push (is_lost_writer q) events event ∙ end_told (was_lost events) is_lost_fate tells.fates req fate (λ q. is_lost_writer q event) tells.lost unanswered refl loses q;
  ended = λ q. ended q (q == req);
  counted = λ q. end_counted change (ledger.disks q) ∙ tells.counted q ∙ sym (blocks-push events event q ∙ ap (λ (blocks : ℕ → Option ℕ). blocks q) (blocks (block_count_of events)));
  deleted = λ q. end_deleted change (ledger.disks q) ∙ tells.deleted q ∙ sym (any_same (is_delete q) events event (deletes q));
  items = λ q. subst (λ (all : ℕ → ℕ → List BlockWrite). TellsDisk (changed_at req fate tells.fates) (all q) (with_items change ledger.disks q))
      (sym (writes-push events event ∙ writes (writes_of events)))
      (ended_disk tells.fates req fate change turns unanswered (writes_of events q) (ledger.disks q) (tells.items q));
}
  where
    unanswered : tells.fates req ≡ Unanswered
    unanswered = unanswered_fate (tells.fates req) (sym (tells.ended req) ∙ running)

    ended : (q : ℕ) (b : Bool) → (cond b (record (ledger.requests req) { ended = true }) (ledger.requests q)).ended ≡ is_answer (cond b fate (tells.fates q))
    ended q true = sym answer
    ended q false = tells.ended q

pub tells_step : (events : List HistEvent) (ledger : Ledger) (event : HistEvent) → Tells events ledger → may_follow ledger event ≡ true
    → Tells (events ++ event ∷ []) (ledger_after ledger event)
tells_step events ledger (Create disk blocks) tells may = tells_create events ledger disk blocks tells may
tells_step events ledger (Copy old new) tells may = tells_copy events ledger old new tells may
tells_step events ledger (Delete disk) tells may = tells_delete events ledger disk tells may
tells_step events ledger (WriteStart req disk block coded bytes) tells may = tells_start events ledger req disk block coded bytes tells may
tells_step events ledger (WriteDone req) tells may =
    tells_end events ledger req Done (WriteDone req) (map (item_with_mark Acknowledged req)) (done_turns req) tells
    (not-true (ledger.requests req).ended (and_parts _ _ (and_parts _ _ may).0).1) refl
    (λ q. sym (and-true (req == q))) (λ q. sym (and-false (req == q))) (λ q. sym (and-false (req == q))) (λ q. refl) (λ writes. refl) (λ blocks. refl)
tells_step events ledger (WriteRefused req) tells may =
    tells_end events ledger req Refused (WriteRefused req) (filter (λ item. not (is_item_of req item))) (refused_turns req) tells
    (not-true (ledger.requests req).ended (and_parts _ _ may).1) refl
    (λ q. sym (and-false (req == q))) (λ q. sym (and-true (req == q))) (λ q. sym (and-false (req == q))) (λ q. refl) (λ writes. refl) (λ blocks. refl)
tells_step events ledger (WriterLost req) tells may =
    tells_end events ledger req Abandoned (WriterLost req) (map (item_with_mark Lost req)) (lost_turns req) tells
    (not-true (ledger.requests req).ended (and_parts _ _ may).1) refl
    (λ q. sym (and-false (req == q))) (λ q. sym (and-false (req == q))) (λ q. sym (and-true (req == q))) (λ q. refl) (λ writes. refl) (λ blocks. refl)
tells_step events ledger (Read disk block bytes) tells may = tells_read events ledger disk block bytes tells

-- ---- a whole history

tells_empty : Tells [] empty_ledger
tells_empty = record {
  fates = λ req. Unanswered;
  done = λ req. refl;
  refused = λ req. refl;
  lost = λ req. refl;
  ended = λ req. refl;
  counted = λ disk. refl;
  deleted = λ disk. refl;
  items = λ disk. tt;
}

tells_from : (before rest : List HistEvent) (ledger next : Ledger) → Tells before ledger → ledger_from ledger rest ≡ Some next → Tells (before ++ rest) next
tells_from before [] ledger next tells reached =
    subst (λ (events : List HistEvent). Tells events next) (sym (append-nil before)) (subst (λ (at : Ledger). Tells before at) (same_Some ledger next reached) tells)
tells_from before (event ∷ rest) ledger next tells reached =
    go (may_follow ledger event) refl (tells_from (before ++ event ∷ []) rest (ledger_after ledger event) next)
  where
    go : (b : Bool) → may_follow ledger event ≡ b
        → (Tells (before ++ event ∷ []) (ledger_after ledger event) → ledger_from (ledger_after ledger event) rest ≡ Some next → Tells ((before ++ event ∷ []) ++ rest) next)
        → Tells (before ++ event ∷ rest) next
    go true may later =
        subst (λ (events : List HistEvent). Tells events next) (append_assoc before (event ∷ []) rest)
        (later (tells_step before ledger event tells may)
        (sym (ap (λ b. option_and_then (λ next. ledger_from next rest) (cond b (Some (ledger_after ledger event)) None)) may) ∙ reached))
    go false may later =
        absurd (none-some next (sym (ap (λ b. option_and_then (λ next. ledger_from next rest) (cond b (Some (ledger_after ledger event)) None)) may) ∙ reached))

pub tells_all : (events : List HistEvent) (ledger : Ledger) → ledger_from empty_ledger events ≡ Some ledger → Tells events ledger
tells_all events ledger reached = tells_from [] events empty_ledger ledger tells_empty reached
