use Rattle.std.proofs.Common.{refl, ◌≡◌, ◌∙◌, ◌+◌, ◌≤◌, ◌/◌, ◌%◌, true, Some, None, IsSome, cond, length, ap, sym, subst, arith}
use Rattle.std.specs.Option.{option_copied_mut}
use Rattle.std.specs.Map.{lookup}
use Rattle.std.specs.BTreeMap.{is_at}
use Rattle.std.specs.Ordering.{nat_cmp}
use Rattle.object_id.specs.Piece.{laid_over}
use Rattle.page_store.specs.declared.page.TheConstants.{PAGE_BYTES}
use Rattle.page_store.specs.Pages.{KeptPages, has_page, page_of}
use Rattle.page_store.proofs.PageLemmas.{length-row_bytes_in, has_page-keys_of, some_there, page_of-found, page_of-put, row_bytes_in-written}
use Rattle.page_store.proofs.page_row.PageRow.write_part.Goals as goal

pub returns-in_default-clause-bytes : goal.returns-in_default-clause-bytes
returns-in_default-clause-bytes c =
    let es = c.self.inside.pages.entries in
    let number = c.args.place / PAGE_BYTES in
    let none : lookup (is_at (nat_cmp number)) es ≡ None = sym c.get_mut.ensures.value ∙ ap option_copied_mut c.in_default.is in
    let there : has_page number c.args.self.now.pages ≡ true = c.requires.there in
    absurd (some_there (lookup (is_at (nat_cmp number)) es)
    (sym (has_page-keys_of number es) ∙ ap (λ (kept : KeptPages). has_page number kept.pages) c.self.view_is ∙ there) none)

pub returns-clause-bytes : goal.returns-clause-bytes
returns-clause-bytes c =
    let size = c.self.inside.size in
    let es = c.self.inside.pages.entries in
    let place = c.args.place in
    let piece = c.args.piece.now in
    let number = place / PAGE_BYTES in
    let page = c.in-Some.page.now in
    let new = c.write.new.self in
    let found : lookup (is_at (nat_cmp number)) es ≡ Some page = sym c.get_mut.ensures.value ∙ ap option_copied_mut c.in-Some.is in
    let is : page_of es number ≡ page = page_of-found es number page found in
    let laid : new ≡ laid_over (page_of es number) (place % PAGE_BYTES) piece = c.write.ensures.bytes ∙ ap (λ bytes. laid_over bytes (place % PAGE_BYTES) piece) (sym is) in
    let long : length c.args.self.now.bytes ≡ size = sym (ap (λ (kept : KeptPages). length kept.bytes) c.self.view_is) ∙ length-row_bytes_in size es in
    let fits : place + length piece ≤ size = omega (arith, long, c.requires.within) in
    row_bytes_in-written size place piece es (c.get_mut.follows.lender new).entries fits c.requires.page (ap length is ∙ c.write.ensures.len)
    (λ q. page_of-put es (c.get_mut.follows.lender new).entries number new ((c.get_mut.follows.holds new).3 (subst IsSome (sym found) refl)).0 q
    ∙ ap (λ bytes. cond (is_at (nat_cmp number) q) bytes (page_of es q)) laid)
    ∙ ap (λ (kept : KeptPages). laid_over kept.bytes place piece) c.self.view_is
