use Rattle.std.proofs.Common.{◌∙◌, true, ap, sym, subst}
use Rattle.std.specs.Map.{lookup, keys_of}
use Rattle.std.specs.BTreeMap.{is_at}
use Rattle.std.specs.Ordering.{nat_cmp}
use Rattle.page_store.specs.Pages.{KeptPages, has_page, KeepsPages}
use Rattle.page_store.proofs.PageLemmas.{has_page-keys_of, none_there, row_bytes_in-added, KeepsPages-added, has_page-added}
use Rattle.page_store.proofs.page_row.PageRow.add_page.Goals as goal

pub returns-then-contains_key-clause-ok : goal.returns-then-contains_key-clause-ok
returns-then-contains_key-clause-ok c =
    ap (λ (kept : KeptPages). has_page c.args.number kept.pages) (sym c.self.view_is)
    ∙ has_page-keys_of c.args.number c.self.inside.pages.entries ∙ sym c.contains_key.ensures ∙ c.if-contains_key.true

pub returns-clause-bytes : goal.returns-clause-bytes
returns-clause-bytes c =
    let none = none_there (lookup (is_at (nat_cmp c.args.number)) c.self.inside.pages.entries) (sym c.contains_key.ensures ∙ c.if-contains_key.false) in
    row_bytes_in-added c.self.inside.size c.args.number c.in_ok-page.page c.self.inside.pages.entries c.insert.new.self.entries c.in_ok-page.ensures none c.in_ok-insert.ensures.updates.0
    ∙ ap (λ (kept : KeptPages). kept.bytes) c.self.view_is

pub returns-clause-room : goal.returns-clause-room
returns-clause-room c =
    let none = none_there (lookup (is_at (nat_cmp c.args.number)) c.self.inside.pages.entries) (sym c.contains_key.ensures ∙ c.if-contains_key.false) in
    subst (λ (kept : KeptPages). KeepsPages kept.pages (keys_of c.insert.new.self.entries)) c.self.view_is
    (KeepsPages-added c.self.inside.size c.args.number c.in_ok-page.page c.self.inside.pages.entries c.insert.new.self.entries c.in_ok-page.ensures none c.in_ok-insert.ensures.updates.0)

pub returns-clause-ok : goal.returns-clause-ok
returns-clause-ok c =
    let none = none_there (lookup (is_at (nat_cmp c.args.number)) c.self.inside.pages.entries) (sym c.contains_key.ensures ∙ c.if-contains_key.false) in
    has_page-added c.self.inside.size c.args.number c.in_ok-page.page c.self.inside.pages.entries c.insert.new.self.entries c.in_ok-page.ensures none c.in_ok-insert.ensures.updates.0
