-- What comes of lists, and of a recovery that begins.
use Rattle.std.proofs.Common.{◌≡◌, ℕ, ◌==◌, Bool, true, false, cond, List, length, Some, None, refl}
use Rattle.object_id.specs.declared.node.NodeId.{NodeId}
use Rattle.object_list.specs.Gathered.{GatheredLists, gathered_of_none, gathered_with_answer}
use Rattle.recovery.specs.Shown.{NodeView, shown_with_unfinished_list, shown_with_pending}
use Rattle.recovery.specs.State.{Recovery, RecoveryState}
use Rattle.recovery.specs.Steps.{to_recover, when_listed, at_start, without_unanswered, with_list_of}
use Rattle.recovery.specs.Kept.{recovery_state, ids_to_recover, ids_when_listed, shown_with_list}

-- the state with the list of one node more
abbrev pub with_lists : ℕ → GatheredLists → Recovery → NodeView → RecoveryState
with_lists number lists old shown = record (without_unanswered number (recovery_state old shown)) {
  recovery = record (without_unanswered number (recovery_state old shown)).recovery { lists = lists };
}

by_lists : (number : ℕ) (lists : GatheredLists) (old : Recovery) (shown : NodeView) (b : Bool)
    → without_unanswered number (recovery_state (record old { lists = lists }) (shown_with_list (cond b (Some (ids_to_recover old.me old.epoch lists shown)) None) shown))
    ≡ cond b (record (with_lists number lists old shown) {
      shown = shown_with_pending (to_recover (with_lists number lists old shown)) (with_lists number lists old shown).shown;
    }) (with_lists number lists old shown)
by_lists number lists old shown true = refl
by_lists number lists old shown false = refl

pub list_added : (number : ℕ) (from : NodeId) (oids : List ℕ) (old : Recovery) (shown : NodeView)
    → without_unanswered number (recovery_state (record old { lists = gathered_with_answer from oids old.lists })
    (shown_with_list (ids_when_listed old.me old.epoch (gathered_with_answer from oids old.lists) shown) shown))
    ≡ with_list_of from oids (without_unanswered number (recovery_state old shown))
list_added number from oids old shown =
    by_lists number (gathered_with_answer from oids old.lists) old shown (length (gathered_with_answer from oids old.lists).waiting == 0)

pub recovery_begun : (epoch : ℕ) (members : List NodeId) (old : Recovery) (shown : NodeView)
    → recovery_state (at_start epoch members (recovery_state old shown)).recovery
    (shown_with_list (ids_when_listed old.me epoch (gathered_of_none old.me members) shown) (shown_with_unfinished_list shown))
    ≡ when_listed (at_start epoch members (recovery_state old shown))
recovery_begun epoch members old shown = by_lists (length (gathered_of_none old.me members).waiting == 0)
  where
    by_lists : (b : Bool)
        → recovery_state (at_start epoch members (recovery_state old shown)).recovery
        (shown_with_list (cond b (Some (ids_to_recover old.me epoch (gathered_of_none old.me members) shown)) None) (shown_with_unfinished_list shown))
        ≡ cond b (record (at_start epoch members (recovery_state old shown)) {
          shown = shown_with_pending (to_recover (at_start epoch members (recovery_state old shown))) (at_start epoch members (recovery_state old shown)).shown;
        }) (at_start epoch members (recovery_state old shown))
    by_lists true = refl
    by_lists false = refl
