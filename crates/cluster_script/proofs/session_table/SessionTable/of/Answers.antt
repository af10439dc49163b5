use Rattle.std.proofs.Common.{sym, subst, take, ◌++◌, ◌∷◌, []}
use Rattle.std.proofs.lemmas.List.{take_more}
use Rattle.cluster_script.specs.KeptIndex.{MayBeNoted, IsSessionTable}
use Rattle.cluster_script.proofs.ScriptPlaces.{noted-at}
use Rattle.cluster_script.proofs.SessionTables.{table-none, table-more}
use Rattle.cluster_script.proofs.session_table.SessionTable.of.Goals as goal

pub loop-s-init : goal.loop-s-init
loop-s-init c = table-none 65 64

pub note-requires-clause-numbers : goal.note-requires-clause-numbers
note-requires-clause-numbers c =
    subst MayBeNoted (sym c.s-item.is)
    (noted-at c.args.statements.now c.loop-s.s-index c.s-item.result c.requires.script c.loop-s-test.true)

pub loop-s-preserved : goal.loop-s-preserved
loop-s-preserved c =
    subst (λ before. IsSessionTable before c.note.new.self)
    (sym (take_more c.args.statements.now c.loop-s.s-index c.s-item.result c.loop-s-test.true))
    (subst (λ s. IsSessionTable (take c.loop-s.s-index c.args.statements.now ++ s ∷ []) c.note.new.self) c.s-item.is
    (table-more (take c.loop-s.s-index c.args.statements.now) c.loop-s.table c.note.new.self c.s-item.result
    c.loop-s.invariant c.note.ensures.sessions c.note.ensures.backs))
