use Rattle.schedule.proofs.KeptLaws.{by_stamp, by_stamp-is, one-by_stamp, kept-run, kept-merge}
use Rattle.schedule.proofs.laws.what_is_kept_has_one_order.Goals as goal

pub returns : goal.returns
returns c = record { some = λ kept. (by_stamp kept, by_stamp-is kept); one = one-by_stamp; run = kept-run; merge = kept-merge }
