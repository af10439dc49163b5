use Rattle.std.proofs.Common.{◌≡◌, ◌∙◌, ◌+◌, ◌-◌, ◌≤◌, ◌/◌, ◌%◌, Some, None, List, ℕ, length, take, drop, ap, sym, arith}
use Rattle.std.specs.Option.{option_copied}
use Rattle.std.specs.Map.{lookup}
use Rattle.std.specs.BTreeMap.{is_at}
use Rattle.std.specs.Ordering.{nat_cmp}
use Rattle.std.proofs.lemmas.List.{length-replicate, take-replicate, drop-replicate}
use Rattle.object_id.specs.Fields.{zeros}
use Rattle.object_store.specs.Bytes.{piece_at}
use Rattle.page_store.specs.declared.page.TheConstants.{PAGE_BYTES}
use Rattle.page_store.specs.Pages.{KeptPages, page_of}
use Rattle.page_store.proofs.PageLemmas.{length-row_bytes_in, page_of-found, page_of-none, piece_at-page}
use Rattle.page_store.proofs.page_row.PageRow.part.Goals as goal

pub returns-in-Some-clause-value : goal.returns-in-Some-clause-value
returns-in-Some-clause-value c =
    let size = c.self.inside.size in
    let es = c.self.inside.pages.entries in
    let place = c.args.place in
    let count = c.args.count in
    let number = place / PAGE_BYTES in
    let start = place % PAGE_BYTES in
    let page = c.in-Some.page.now in
    let found : lookup (is_at (nat_cmp number)) es ≡ Some page = sym c.get.ensures.value ∙ ap option_copied c.in-Some.is in
    let is : page_of es number ≡ page = page_of-found es number page found in
    let same : start + count - start ≡ count = omega arith in
    let long : length c.args.self.now.bytes ≡ size = sym (ap (λ (kept : KeptPages). length kept.bytes) c.self.view_is) ∙ length-row_bytes_in size es in
    let fits : place + count ≤ size = omega (arith, long, c.requires.within) in
    (λ i. take (same i) (drop start ((c.as_slice.ensures.value ∙ sym is) i)))
    ∙ piece_at-page size place count es fits c.requires.page (ap length is ∙ c.as_slice.ensures.len)
    ∙ ap (λ (kept : KeptPages). piece_at kept.bytes place count) c.self.view_is

pub returns-in-None-clause-value : goal.returns-in-None-clause-value
returns-in-None-clause-value c =
    let size = c.self.inside.size in
    let es = c.self.inside.pages.entries in
    let place = c.args.place in
    let count = c.args.count in
    let number = place / PAGE_BYTES in
    let start = place % PAGE_BYTES in
    let none : lookup (is_at (nat_cmp number)) es ≡ None = sym c.get.ensures.value ∙ ap option_copied c.in-None.is in
    let is : page_of es number ≡ zeros PAGE_BYTES = page_of-none es number none in
    let long : length c.args.self.now.bytes ≡ size = sym (ap (λ (kept : KeptPages). length kept.bytes) c.self.view_is) ∙ length-row_bytes_in size es in
    let fits : place + count ≤ size = omega (arith, long, c.requires.within) in
    let front : take count (zeros PAGE_BYTES) ≡ zeros count = take-replicate count PAGE_BYTES 0 (omega (arith, c.requires.page)) in
    let back : take count (drop start (zeros PAGE_BYTES)) ≡ zeros count = ap (take count) (drop-replicate start PAGE_BYTES 0) ∙ take-replicate count (PAGE_BYTES - start) 0 (omega (arith, c.requires.page)) in
    ap (take count) c.no_page.ensures ∙ front ∙ sym back ∙ ap (λ (bytes : List ℕ). piece_at bytes start count) (sym is)
    ∙ piece_at-page size place count es fits c.requires.page (ap length is ∙ length-replicate {A = ℕ} PAGE_BYTES 0)
    ∙ ap (λ (kept : KeptPages). piece_at kept.bytes place count) c.self.view_is
