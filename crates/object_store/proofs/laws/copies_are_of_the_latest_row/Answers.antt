use Rattle.object_store.proofs.CopyLaws.{row_at-some, row_at-none, trimmed_bytes-padded, trimmed_bytes-last, row_bytes-copy_of, length-row_bytes}
use Rattle.object_store.proofs.laws.copies_are_of_the_latest_row.Goals as goal

pub returns : goal.returns
returns c = record { some = row_at-some; none = row_at-none; bytes = trimmed_bytes-padded; last = trimmed_bytes-last; whole = row_bytes-copy_of; cut = length-row_bytes }
