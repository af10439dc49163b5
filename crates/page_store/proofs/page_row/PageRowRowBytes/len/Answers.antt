use Rattle.std.proofs.Common.{length, ap, sym, ◌∙◌}
use Rattle.page_store.specs.Pages.{KeptPages}
use Rattle.page_store.proofs.PageLemmas.{length-row_bytes_in}
use Rattle.page_store.proofs.page_row.PageRowRowBytes.len.Goals as goal

pub returns : goal.returns
returns c = sym (length-row_bytes_in c.self.inside.size c.self.inside.pages.entries) ∙ ap (λ (kept : KeptPages). length kept.bytes) c.self.view_is
