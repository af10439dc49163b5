use Rattle.overlap_law.proofs.LackedChanges.{lacked_on_the_way}
use Rattle.overlap_law.proofs.objects.nothing_comes_to_be_lacked.Goals as goal

pub returns : goal.returns
returns c = λ script moves move start end before after range on first table_made published has lacked.
    lacked_on_the_way script range moves move start end before after on.run on.happens on.change first table_made published has lacked
