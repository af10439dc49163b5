use Rattle.std.proofs.Common.{◌/◌}
use Rattle.page_store.specs.declared.page.TheConstants.{PAGE_BYTES}
use Rattle.page_store.proofs.page_row.PageRowRowBytes.reserve.Goals as goal

pub returns-clause-room : goal.returns-clause-room
returns-clause-room c = λ offset n had place from upto. c.add_pages.ensures.room (place / PAGE_BYTES) (had place from upto)
