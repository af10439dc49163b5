use Rattle.page_store.proofs.PageLemmas.{row_bytes_in-none}
use Rattle.page_store.proofs.page_row.PageRow.zeros.Goals as goal

pub returns : goal.returns
returns c = row_bytes_in-none c.args.size c.new.result.entries c.new.ensures.empty
