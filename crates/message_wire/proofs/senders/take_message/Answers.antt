use Rattle.std.proofs.Common.{T, ◌==◌, cond, ap, sym, subst, ◌∙◌}
use Rattle.std.specs.Ordering.{nat_cmp}
use Rattle.std.specs.Cmp.{nat_cmp_total}
use Rattle.std.specs.FinMap as tree
use Rattle.std.specs.FinMap.Entries.{is_sorted, is_sorted-put}
use Rattle.message_wire.specs.Entries.{IsFoundAt, IsMissingAt}
use Rattle.message_wire.specs.Senders.{messages_from, other_senders, senders_with}
use Rattle.message_wire.proofs.SenderEdits.{messages-missing, empty-dropped, with-none, remove-empty}
use Rattle.message_wire.proofs.senders.take_message.Goals as goal

pub take_there-packet-requires-clause-stands : goal.take_there-packet-requires-clause-stands
take_there-packet-requires-clause-stands c =
    subst (IsFoundAt c.args.name.sender.0 c.in-Ok.place) c.as_slice.ensures.value c.in-Ok.ensures.stands

pub drop_empty-requires : goal.drop_empty-requires
drop_empty-requires c =
    let senders = c.args.senders.now.items in
    let sender = c.args.name.sender.0 in
    subst (λ all. T (is_sorted nat_cmp all)) (sym c.take_there-packet.ensures.others)
    (is_sorted-put nat_cmp nat_cmp_total sender (tree.remove (messages_from senders sender) c.args.name.number) senders c.requires.0)

pub returns-in-Ok-clause-others : goal.returns-in-Ok-clause-others
returns-in-Ok-clause-others c =
    let senders = c.args.senders.now.items in
    let sender = c.args.name.sender.0 in
    c.drop_empty.ensures
    ∙ ap (λ all. cond (tree.len (messages_from all sender) == 0) (other_senders sender all) all) c.take_there-packet.ensures.others
    ∙ empty-dropped sender (tree.remove (messages_from senders sender) c.args.name.number) senders

pub returns-in-Err-clause-value : goal.returns-in-Err-clause-value
returns-in-Err-clause-value c =
    let sender = c.args.name.sender.0 in
    sym (ap (λ messages. tree.get messages c.args.name.number)
    (messages-missing sender c.in-Err.field-0 c.args.senders.now.items c.requires.0
    (subst (IsMissingAt sender c.in-Err.field-0) c.as_slice.ensures.value c.in-Err.ensures.stands))
    ∙ tree.get-empty nat_cmp c.args.name.number)

pub returns-in-Err-clause-others : goal.returns-in-Err-clause-others
returns-in-Err-clause-others c =
    let senders = c.args.senders.now.items in
    let sender = c.args.name.sender.0 in
    let missing = subst (IsMissingAt sender c.in-Err.field-0) c.as_slice.ensures.value c.in-Err.ensures.stands in
    sym (ap (λ messages. senders_with sender (tree.remove messages c.args.name.number) senders)
    (messages-missing sender c.in-Err.field-0 senders c.requires.0 missing)
    ∙ with-none sender c.in-Err.field-0 (tree.remove tree.empty c.args.name.number) senders c.requires.0 missing (remove-empty c.args.name.number))
