-- What the events tell of a legal history's ledger, and that it is so after one event more that begins and ends no request.
use Rattle.std.proofs.Common.{◌≡◌, ℕ, ◌<◌, ◌==◌, Bool, true, false, not, ◌||◌, List, [], ◌∷◌, ◌++◌, Option, Some, None, refl, sym, ap, ◌∙◌, subst, cond}
use Rattle.std.specs.Prelude.{is_some, is_none}
use Rattle.std.specs.Option.{option_map, option_map_or}
use Rattle.std.specs.List.{list_any}
use Rattle.std.proofs.Math.Bool.{or-false, or-true}
use Rattle.std.proofs.lemmas.Bool.{false≢true, eqb-true, and_parts}
use Rattle.std.proofs.lemmas.List.Folds.{list_any-append}
use Rattle.std.proofs.lemmas.List.Sums.{fold-append}
use Rattle.std.specs.Cmp.{nat_eq_equiv}
use Rattle.disk_history.specs.declared.event.HistEvent.{HistEvent}
use Rattle.disk_history.specs.declared.event.HistEvent.TheVariants.{Create, Copy, Delete, Read}
use Rattle.disk_history.specs.declared.requests.Fate.{Fate}
use Rattle.disk_history.specs.declared.requests.Fate.TheVariants.{Unanswered, Done, Refused, Abandoned}
use Rattle.disk_history.specs.declared.writes.Write.{Write}
use Rattle.disk_history.specs.Ledger.{Item, Disk, Ledger, zeros_item, ledger_after, changed_at}
use Rattle.disk_history.specs.Legal.{may_follow}
use Rattle.disk_history.specs.CheckerState.{is_answer, items_by}
use Rattle.disk_history.specs.ReadableBytes.{BlockWrite, blocks_after, block_count_of, writes_after, writes_of, is_acknowledgement, is_refusal_event, is_lost_writer, is_delete, was_done, was_refused, was_lost, was_deleted}
use Rattle.disk_history.specs.Changes.{blocks_in}

-- ---- what the events tell of a ledger

abbrev pub as_write : BlockWrite → Write
as_write write = record { req = write.req; coded = write.coded; bytes = record { ref_ptr = (0, 0); now = write.bytes }; earlier = None }

-- the items of a block, by its writes, the newest first
abbrev pub told : (ℕ → Fate) → List BlockWrite → List Item
told fates [] = zeros_item ∷ []
told fates (write ∷ older) = told fates older ++ items_by (fates write.req) (as_write write)

abbrev pub is_done_fate : Fate → Bool
is_done_fate Unanswered = false
is_done_fate Done = true
is_done_fate Refused = false
is_done_fate Abandoned = false

abbrev pub is_refused_fate : Fate → Bool
is_refused_fate Unanswered = false
is_refused_fate Done = false
is_refused_fate Refused = true
is_refused_fate Abandoned = false

abbrev pub is_lost_fate : Fate → Bool
is_lost_fate Unanswered = false
is_lost_fate Done = false
is_lost_fate Refused = false
is_lost_fate Abandoned = true

abbrev pub TellsDisk : (ℕ → Fate) → (ℕ → List BlockWrite) → Option Disk → Type 0
TellsDisk fates writes None = Unit {0}
TellsDisk fates writes (Some disk) = (block : ℕ) → block < disk.blocks → disk.items block ≡ told fates (writes block)

abbrev pub deleted_in : Option Disk → Bool
deleted_in None = false
deleted_in (Some disk) = disk.deleted

pub record Tells (events : List HistEvent) (ledger : Ledger) : Type 0 where
  pub fates : ℕ → Fate
  pub done : (req : ℕ) → was_done events req ≡ is_done_fate (fates req)
  pub refused : (req : ℕ) → was_refused events req ≡ is_refused_fate (fates req)
  pub lost : (req : ℕ) → was_lost events req ≡ is_lost_fate (fates req)
  pub ended : (req : ℕ) → (ledger.requests req).ended ≡ is_answer (fates req)
  pub deleted : (disk : ℕ) → deleted_in (ledger.disks disk) ≡ was_deleted events disk
  pub counted : (disk : ℕ) → blocks_in (ledger.disks disk) ≡ block_count_of events disk
  pub items : (disk : ℕ) → TellsDisk fates (writes_of events disk) (ledger.disks disk)

-- ---- one event more

pub any-push : (test : HistEvent → Bool) (events : List HistEvent) (event : HistEvent)
    → list_any test (events ++ event ∷ []) ≡ (list_any test events || test event)
any-push test events event =
    list_any-append test events (event ∷ []) ∙ ap (λ b. list_any test events || b) (or-false (test event))

pub any_same : (test : HistEvent → Bool) (events : List HistEvent) (event : HistEvent) → test event ≡ false
    → list_any test (events ++ event ∷ []) ≡ list_any test events
any_same test events event missed =
    any-push test events event ∙ ap (λ b. list_any test events || b) missed ∙ or-false (list_any test events)

pub writes-push : (events : List HistEvent) (event : HistEvent) → writes_of (events ++ event ∷ []) ≡ writes_after (writes_of events) event
writes-push events event = fold-append writes_after (λ disk block. []) events (event ∷ [])

pub blocks-push : (events : List HistEvent) (event : HistEvent) (disk : ℕ) → block_count_of (events ++ event ∷ []) disk ≡ blocks_after (block_count_of events) event disk
blocks-push events event disk = ap (λ (blocks : ℕ → Option ℕ). blocks disk) (fold-append blocks_after (λ disk. None) events (event ∷ []))

none_deleted : (found : Option Disk) → is_none found ≡ true → deleted_in found ≡ false
none_deleted None e = refl
none_deleted (Some disk) e = absurd (false≢true e)

pub tells_create : (events : List HistEvent) (ledger : Ledger) (disk blocks : ℕ) → Tells events ledger
    → may_follow ledger (Create disk blocks) ≡ true → Tells (events ++ Create disk blocks ∷ []) (ledger_after ledger (Create disk blocks))
tells_create events ledger disk blocks tells may = record {
  fates = tells.fates;
  done = λ req. any_same (is_acknowledgement req) events (Create disk blocks) refl ∙ tells.done req;
  refused = λ req. any_same (is_refusal_event req) events (Create disk blocks) refl ∙ tells.refused req;
  lost = λ req. any_same (is_lost_writer req) events (Create disk blocks) refl ∙ tells.lost req;
  ended = tells.ended;
  counted = λ q. counted q (q == disk) ∙ sym (blocks-push events (Create disk blocks) q);
  deleted = λ q. deleted q (q == disk) refl ∙ sym (any_same (is_delete q) events (Create disk blocks) refl);
  items = λ q. subst (λ (writes : ℕ → ℕ → List BlockWrite). TellsDisk tells.fates (writes q) (changed_at disk (Some made) ledger.disks q))
      (sym (writes-push events (Create disk blocks))) (items q (q == disk));
}
  where
    made : Disk
    made = record { blocks = blocks; items = λ block. zeros_item ∷ []; deleted = false }

    deleted : (q : ℕ) (b : Bool) → (q == disk) ≡ b → deleted_in (cond b (Some made) (ledger.disks q)) ≡ was_deleted events q
    deleted q true e = sym (none_deleted (ledger.disks disk) may) ∙ tells.deleted disk ∙ ap (was_deleted events) (sym (eqb-true q disk e))
    deleted q false e = tells.deleted q

    counted : (q : ℕ) (b : Bool) → blocks_in (cond b (Some made) (ledger.disks q)) ≡ cond b (Some blocks) (block_count_of events q)
    counted q true = refl
    counted q false = tells.counted q

    items : (q : ℕ) (b : Bool) → TellsDisk tells.fates (cond b (λ block. []) (writes_of events q)) (cond b (Some made) (ledger.disks q))
    items q true = λ block below. refl
    items q false = tells.items q

tells_kept : (fates : ℕ → Fate) (writes : ℕ → List BlockWrite) (deleted : Bool) (found : Option Disk) → TellsDisk fates writes found
    → TellsDisk fates writes (option_map (λ (disk : Disk). record disk { deleted = deleted }) found)
tells_kept fates writes deleted None tells = tt
tells_kept fates writes deleted (Some disk) tells = tells

deleted_set : (deleted : Bool) (found : Option Disk) → is_some found ≡ true → deleted_in (option_map (λ (disk : Disk). record disk { deleted = deleted }) found) ≡ deleted
deleted_set deleted None e = absurd (false≢true e)
deleted_set deleted (Some disk) e = refl

count_kept : (deleted : Bool) (found : Option Disk) → blocks_in (option_map (λ (disk : Disk). record disk { deleted = deleted }) found) ≡ blocks_in found
count_kept deleted None = refl
count_kept deleted (Some disk) = refl

pub tells_copy : (events : List HistEvent) (ledger : Ledger) (old new : ℕ) → Tells events ledger
    → may_follow ledger (Copy old new) ≡ true → Tells (events ++ Copy old new ∷ []) (ledger_after ledger (Copy old new))
tells_copy events ledger old new tells may = record {
  fates = tells.fates;
  done = λ req. any_same (is_acknowledgement req) events (Copy old new) refl ∙ tells.done req;
  refused = λ req. any_same (is_refusal_event req) events (Copy old new) refl ∙ tells.refused req;
  lost = λ req. any_same (is_lost_writer req) events (Copy old new) refl ∙ tells.lost req;
  ended = tells.ended;
  counted = λ q. counted q (q == new) ∙ sym (blocks-push events (Copy old new) q);
  deleted = λ q. deleted q (q == new) refl ∙ sym (any_same (is_delete q) events (Copy old new) refl);
  items = λ q. subst (λ (writes : ℕ → ℕ → List BlockWrite). TellsDisk tells.fates (writes q) (changed_at new copy ledger.disks q))
      (sym (writes-push events (Copy old new))) (items q (q == new));
}
  where
    copy : Option Disk
    copy = option_map (λ (disk : Disk). record disk { deleted = false }) (ledger.disks old)

    parts : (is_some (ledger.disks old) ≡ true) × (is_none (ledger.disks new) ≡ true)
    parts = and_parts (is_some (ledger.disks old)) (is_none (ledger.disks new)) may

    deleted : (q : ℕ) (b : Bool) → (q == new) ≡ b → deleted_in (cond b copy (ledger.disks q)) ≡ was_deleted events q
    deleted q true e = deleted_set false (ledger.disks old) parts.0 ∙ sym (none_deleted (ledger.disks new) parts.1) ∙ tells.deleted new
        ∙ ap (was_deleted events) (sym (eqb-true q new e))
    deleted q false e = tells.deleted q

    counted : (q : ℕ) (b : Bool) → blocks_in (cond b copy (ledger.disks q)) ≡ cond b (block_count_of events old) (block_count_of events q)
    counted q true = count_kept false (ledger.disks old) ∙ tells.counted old
    counted q false = tells.counted q

    items : (q : ℕ) (b : Bool) → TellsDisk tells.fates (cond b (writes_of events old) (writes_of events q)) (cond b copy (ledger.disks q))
    items q true = tells_kept tells.fates (writes_of events old) false (ledger.disks old) (tells.items old)
    items q false = tells.items q

live_some : (found : Option Disk) → option_map_or (λ (disk : Disk). not disk.deleted) found false ≡ true → is_some found ≡ true
live_some None e = absurd (false≢true e)
live_some (Some disk) e = refl

pub tells_delete : (events : List HistEvent) (ledger : Ledger) (disk : ℕ) → Tells events ledger
    → may_follow ledger (Delete disk) ≡ true → Tells (events ++ Delete disk ∷ []) (ledger_after ledger (Delete disk))
tells_delete events ledger disk tells may = record {
  fates = tells.fates;
  done = λ req. any_same (is_acknowledgement req) events (Delete disk) refl ∙ tells.done req;
  refused = λ req. any_same (is_refusal_event req) events (Delete disk) refl ∙ tells.refused req;
  lost = λ req. any_same (is_lost_writer req) events (Delete disk) refl ∙ tells.lost req;
  ended = tells.ended;
  counted = λ q. counted q (q == disk) refl ∙ sym (blocks-push events (Delete disk) q);
  deleted = λ q. deleted q (q == disk) refl ∙ sym (any-push (is_delete q) events (Delete disk));
  items = λ q. subst (λ (writes : ℕ → ℕ → List BlockWrite). TellsDisk tells.fates (writes q) (changed_at disk gone ledger.disks q))
      (sym (writes-push events (Delete disk))) (items q (q == disk) refl);
}
  where
    gone : Option Disk
    gone = option_map (λ (disk : Disk). record disk { deleted = true }) (ledger.disks disk)

    deleted : (q : ℕ) (b : Bool) → (q == disk) ≡ b → deleted_in (cond b gone (ledger.disks q)) ≡ (was_deleted events q || (disk == q))
    deleted q true e = deleted_set true (ledger.disks disk) (live_some (ledger.disks disk) may)
        ∙ sym (or-true (was_deleted events q)) ∙ ap (λ b. was_deleted events q || b) (sym (nat_eq_equiv.symm disk q ∙ e))
    deleted q false e = tells.deleted q ∙ sym (or-false (was_deleted events q)) ∙ ap (λ b. was_deleted events q || b) (sym (nat_eq_equiv.symm disk q ∙ e))

    counted : (q : ℕ) (b : Bool) → (q == disk) ≡ b → blocks_in (cond b gone (ledger.disks q)) ≡ block_count_of events q
    counted q true e = count_kept true (ledger.disks disk) ∙ tells.counted disk ∙ ap (block_count_of events) (sym (eqb-true q disk e))
    counted q false e = tells.counted q

    items : (q : ℕ) (b : Bool) → (q == disk) ≡ b → TellsDisk tells.fates (writes_of events q) (cond b gone (ledger.disks q))
    items q true e = subst (λ q. TellsDisk tells.fates (writes_of events q) gone) (sym (eqb-true q disk e))
        (tells_kept tells.fates (writes_of events disk) true (ledger.disks disk) (tells.items disk))
    items q false e = tells.items q

pub tells_read : (events : List HistEvent) (ledger : Ledger) (disk block : ℕ) (bytes : List ℕ) → Tells events ledger
    → Tells (events ++ Read disk block bytes ∷ []) (ledger_after ledger (Read disk block bytes))
tells_read events ledger disk block bytes tells = record {
  fates = tells.fates;
  done = λ req. any_same (is_acknowledgement req) events (Read disk block bytes) refl ∙ tells.done req;
  refused = λ req. any_same (is_refusal_event req) events (Read disk block bytes) refl ∙ tells.refused req;
  lost = λ req. any_same (is_lost_writer req) events (Read disk block bytes) refl ∙ tells.lost req;
  ended = tells.ended;
  counted = λ q. tells.counted q ∙ sym (blocks-push events (Read disk block bytes) q);
  deleted = λ q. tells.deleted q ∙ sym (any_same (is_delete q) events (Read disk block bytes) refl);
  items = λ q. subst (λ (writes : ℕ → ℕ → List BlockWrite). TellsDisk tells.fates (writes q) (ledger.disks q))
      (sym (writes-push events (Read disk block bytes))) (tells.items q);
}
