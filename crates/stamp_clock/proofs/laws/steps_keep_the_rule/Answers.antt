use Rattle.std.proofs.Common.{◌∙◌, List, [], ◌∷◌, ◌++◌, subst}
use Rattle.atomic_table.proofs.Lists.{set_else, set_again}
use Rattle.stamp_clock.specs.declared.rule.View.{View}
use Rattle.stamp_clock.specs.Steps.{view_of_note, joined_view}
use Rattle.stamp_clock.specs.Stamps.{AreStamps}
use Rattle.stamp_clock.proofs.ViewLemmas.{found_at, up_to_at}
use Rattle.stamp_clock.proofs.StepLemmas.{draw_keeps, note_keeps, seat_keeps, join_keeps}
use Rattle.stamp_clock.proofs.laws.steps_keep_the_rule.Goals as goal

pub returns-clause-fetch_add : goal.returns-clause-fetch_add
returns-clause-fetch_add c = λ word views place view is some_room.
    (draw_keeps word views place view is.rule (found_at views place view is.stands) some_room).0

pub returns-clause-split_note : goal.returns-clause-split_note
returns-clause-split_note c = λ word views place view is.
    let here = found_at views place view is.stands in
    let P : List View → Type 0 = λ later. AreStamps word (later ++ view_of_note view ∷ []) in
    subst P (set_again views place view here) (note_keeps word views place view is.rule here)

pub returns-clause-split_seat : goal.returns-clause-split_seat
returns-clause-split_seat c = λ word views place view is some_room.
    seat_keeps word views place view is.rule (found_at views place view is.stands) some_room

pub returns-clause-join : goal.returns-clause-join
returns-clause-join c = λ word views place other_place view other is other_is apart.
    join_keeps word views place other_place view other is.rule (found_at views place view is.stands) apart
    (set_else views place other_place (joined_view view other) apart ∙ found_at views other_place other other_is.stands)

pub returns-clause-load : goal.returns-clause-load
returns-clause-load c = λ word views place view is. (up_to_at word views place view is.rule.each (found_at views place view is.stands)).seen
