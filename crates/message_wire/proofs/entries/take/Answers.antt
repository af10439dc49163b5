use Rattle.std.proofs.Common.{Some, ap, sym, subst, ◌∙◌}
use Rattle.message_wire.specs.Entries.{IsFoundAt, IsMissingAt}
use Rattle.message_wire.proofs.EntryLemmas.{found-find, find-missing, without-found, without-missing}
use Rattle.message_wire.proofs.entries.take.Goals as goal

pub returns-in-Ok-clause-value : goal.returns-in-Ok-clause-value
returns-in-Ok-clause-value g c =
    sym (found-find c.args.number c.remove-value.result c.in-Ok.place c.args.entries.now.items
    (subst (IsFoundAt c.args.number c.in-Ok.place) c.as_slice.ensures.value c.in-Ok.ensures.stands)
    ∙ ap (λ entry. Some entry.1) (sym c.remove-value.ensures.value))

pub returns-in-Ok-clause-others : goal.returns-in-Ok-clause-others
returns-in-Ok-clause-others g c =
    c.remove-value.ensures.items
    ∙ sym (without-found c.args.number c.in-Ok.place c.args.entries.now.items c.requires
    (subst (IsFoundAt c.args.number c.in-Ok.place) c.as_slice.ensures.value c.in-Ok.ensures.stands))

pub returns-in-Err-clause-value : goal.returns-in-Err-clause-value
returns-in-Err-clause-value g c =
    sym (find-missing c.args.number c.in-Err.field-0 c.args.entries.now.items c.requires
    (subst (IsMissingAt c.args.number c.in-Err.field-0) c.as_slice.ensures.value c.in-Err.ensures.stands))

pub returns-in-Err-clause-others : goal.returns-in-Err-clause-others
returns-in-Err-clause-others g c =
    sym (without-missing c.args.number c.in-Err.field-0 c.args.entries.now.items c.requires
    (subst (IsMissingAt c.args.number c.in-Err.field-0) c.as_slice.ensures.value c.in-Err.ensures.stands))
