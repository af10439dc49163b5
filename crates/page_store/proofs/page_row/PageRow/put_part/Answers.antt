use Rattle.page_store.proofs.ZeroLemmas.{zeros_laid}
use Rattle.page_store.proofs.page_row.PageRow.put_part.Goals as goal

pub returns-then-count-eq0 : goal.returns-then-count-eq0
returns-then-count-eq0 c =
    zeros_laid c.args.self.now.bytes c.args.place c.trimmed_len-count.result c.args.piece.now c.if-count-eq0.true c.trimmed_len-count.ensures.value c.requires.zeros
