use Rattle.std.proofs.Common.{rules}
use Rattle.std.proofs.lemmas.List.Sorted.{answers_always}
use Rattle.message_wire.proofs.EntryLemmas.{searched}
use Rattle.message_wire.proofs.entries.place_of.Goals as goal

pub returns-clause-stands : goal.returns-clause-stands
returns-clause-stands g c =
    let facts = c.binary_search_by_key.ensures in
    searched c.args.number c.args.entries.now c.requires c.binary_search_by_key.result facts.bound
    (facts.position (λ entry. entry.0) (answers_always _ _ _ (λ f a r h called. search rules)))
