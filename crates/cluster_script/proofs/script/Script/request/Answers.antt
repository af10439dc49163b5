use Rattle.std.proofs.Common.{◌≡◌, List, Some, None, sym, ap, ◌∙◌}
use Rattle.std.specs.Prelude.{slice_get}
use Rattle.std.specs.Option.{option_map, option_copied}
use Rattle.cluster_script.specs.declared.statement.Statement.{Statement}
use Rattle.cluster_script.specs.NumberedRequests.{request_at}
use Rattle.cluster_script.specs.Index.{request_seen}
use Rattle.cluster_script.specs.KeptIndex.{request_entries, entry_numbered}
use Rattle.cluster_script.proofs.IndexLemmas.{request-none}
use Rattle.cluster_script.proofs.RequestReaders.{entry-none, entry-place, entry-there}
use Rattle.cluster_script.proofs.script.Script.request.Goals as goal

pub returns-in_err-entry : goal.returns-in_err-entry
returns-in_err-entry c =
    let xs : List Statement = c.self.inside.statements in
    let none : entry_numbered (request_entries 0 0 xs) c.args.number ≡ None
    = ap (λ entries. entry_numbered entries c.args.number) (sym c.self.invariant.2.requests) ∙ sym c.entry_of.ensures ∙ c.in_err-entry.was in
    ap (option_map request_seen) c.from_residual.ensures
    ∙ rw (sym c.self.view_is) (sym (request-none xs c.args.number (entry-none xs c.args.number none)))

pub returns-in_err-statement : goal.returns-in_err-statement
returns-in_err-statement c =
    let xs : List Statement = c.self.inside.statements in
    let some : entry_numbered (request_entries 0 0 xs) c.args.number ≡ Some c.in_ok-entry.entry
    = ap (λ entries. entry_numbered entries c.args.number) (sym c.self.invariant.2.requests) ∙ sym c.entry_of.ensures ∙ c.in_ok-entry.was in
    let at : request_at xs c.args.number ≡ None
    = entry-place xs c.args.number c.in_ok-entry.entry some ∙ sym c.get.ensures ∙ ap option_copied c.in_err-statement.was in
    ap (option_map request_seen) c.from_residual-in_err-statement.ensures ∙ rw (sym c.self.view_is) (sym (request-none xs c.args.number at))

pub returns : goal.returns
returns c =
    let xs : List Statement = c.self.inside.statements in
    let some : entry_numbered (request_entries 0 0 xs) c.args.number ≡ Some c.in_ok-entry.entry
    = ap (λ entries. entry_numbered entries c.args.number) (sym c.self.invariant.2.requests) ∙ sym c.entry_of.ensures ∙ c.in_ok-entry.was in
    let there : slice_get xs c.in_ok-entry.entry.place ≡ Some c.in_ok-statement.statement.now
    = sym c.get.ensures ∙ ap option_copied c.in_ok-statement.was in
    rw (sym c.self.view_is) (sym (entry-there xs c.args.number c.in_ok-entry.entry c.in_ok-statement.statement.now some there))
