use Rattle.std.proofs.Common.{◌≡◌, ◌∙◌, ◌+◌, ◌*◌, ◌≤◌, [], length, take, ap, sym, subst, arith}
use Rattle.std.proofs.lemmas.List.{take_all}
use Rattle.object_store.specs.Bytes.{trimmed_bytes}
use Rattle.object_store.proofs.ByteLemmas.{trimmed_bytes-zeros}
use Rattle.page_store.specs.declared.page.TheConstants.{PAGE_BYTES}
use Rattle.page_store.specs.Pages.{KeptPages}
use Rattle.page_store.proofs.PageLemmas.{length-row_bytes_in, row_bytes_in-none, none_kept, row_byte_at-past, trimmed_bytes-end}
use Rattle.page_store.proofs.page_row.PageRow.end_of_pages.Goals as goal

pub returns-then-last-size-clause-value : goal.returns-then-last-size-clause-value
returns-then-last-size-clause-value c =
    let size = c.self.inside.size in
    let es = c.self.inside.pages.entries in
    let last = c.in-Some.last.now in
    let within : (last + 1) * PAGE_BYTES ≤ size = omega (arith, c.if-last-size.true) in
    subst (λ (kept : KeptPages). trimmed_bytes (take ((last + 1) * PAGE_BYTES) kept.bytes) ≡ trimmed_bytes kept.bytes) c.self.view_is
    (trimmed_bytes-end size ((last + 1) * PAGE_BYTES) es within (λ k behind. row_byte_at-past es last k c.in-Some.ensures.greatest behind))

pub returns-then-last-size-clause-within : goal.returns-then-last-size-clause-within
returns-then-last-size-clause-within c =
    let size = c.self.inside.size in
    let last = c.in-Some.last.now in
    let long : length c.args.self.now.bytes ≡ size = sym (ap (λ (kept : KeptPages). length kept.bytes) c.self.view_is) ∙ length-row_bytes_in size c.self.inside.pages.entries in
    let within : (last + 1) * PAGE_BYTES ≤ size = omega (arith, c.if-last-size.true) in
    omega (arith, long, within)

pub returns-else-last-size-clause-value : goal.returns-else-last-size-clause-value
returns-else-last-size-clause-value c =
    let size = c.self.inside.size in
    let long : length c.args.self.now.bytes ≡ size = sym (ap (λ (kept : KeptPages). length kept.bytes) c.self.view_is) ∙ length-row_bytes_in size c.self.inside.pages.entries in
    ap trimmed_bytes (take_all size c.args.self.now.bytes (omega (arith, long)))

pub returns-else-last-size-clause-within : goal.returns-else-last-size-clause-within
returns-else-last-size-clause-within c =
    let size = c.self.inside.size in
    let long : length c.args.self.now.bytes ≡ size = sym (ap (λ (kept : KeptPages). length kept.bytes) c.self.view_is) ∙ length-row_bytes_in size c.self.inside.pages.entries in
    omega (arith, long)

pub returns-in_default-clause-value : goal.returns-in_default-clause-value
returns-in_default-clause-value c =
    let size = c.self.inside.size in
    let es = c.self.inside.pages.entries in
    let none : es ≡ [] = none_kept es c.last_key_value.result c.in_default.is c.last_key_value.ensures.variant.1 in
    sym (ap (λ (kept : KeptPages). trimmed_bytes kept.bytes) (sym c.self.view_is) ∙ ap trimmed_bytes (row_bytes_in-none size es none) ∙ trimmed_bytes-zeros size)
