use Rattle.std.proofs.Common.{T, ◌==◌, cond, ap, sym, subst, ◌∙◌}
use Rattle.std.specs.Ordering.{nat_cmp}
use Rattle.std.specs.Cmp.{nat_cmp_total}
use Rattle.std.specs.FinMap as tree
use Rattle.std.specs.FinMap.Entries.{is_sorted, is_sorted-put}
use Rattle.message_wire.specs.Entries.{IsFoundAt, IsMissingAt}
use Rattle.message_wire.specs.Senders.{messages_from, other_senders, senders_with, requests_among}
use Rattle.message_wire.proofs.SenderEdits.{messages-missing, empty-dropped, with-none, requests-empty}
use Rattle.message_wire.proofs.senders.drop_replies_to.Goals as goal

pub drop_replies_there-requires-clause-stands : goal.drop_replies_there-requires-clause-stands
drop_replies_there-requires-clause-stands c =
    subst (IsFoundAt c.args.sender c.in-Ok.place) c.as_slice.ensures.value c.in-Ok.ensures.stands

pub drop_empty-requires : goal.drop_empty-requires
drop_empty-requires c =
    let senders = c.args.senders.now.items in
    subst (λ all. T (is_sorted nat_cmp all)) (sym c.drop_replies_there.ensures)
    (is_sorted-put nat_cmp nat_cmp_total c.args.sender (requests_among c.args.sender (messages_from senders c.args.sender)) senders c.requires.0)

pub returns-in-Ok : goal.returns-in-Ok
returns-in-Ok c =
    let senders = c.args.senders.now.items in
    let sender = c.args.sender in
    c.drop_empty.ensures
    ∙ ap (λ all. cond (tree.len (messages_from all sender) == 0) (other_senders sender all) all) c.drop_replies_there.ensures
    ∙ empty-dropped sender (requests_among sender (messages_from senders sender)) senders

pub returns-in-Err : goal.returns-in-Err
returns-in-Err c =
    let senders = c.args.senders.now.items in
    let sender = c.args.sender in
    let missing = subst (IsMissingAt sender c.in-Err.field-0) c.as_slice.ensures.value c.in-Err.ensures.stands in
    sym (ap (λ messages. senders_with sender (requests_among sender messages) senders)
    (messages-missing sender c.in-Err.field-0 senders c.requires.0 missing)
    ∙ with-none sender c.in-Err.field-0 (requests_among sender tree.empty) senders c.requires.0 missing (requests-empty sender))
