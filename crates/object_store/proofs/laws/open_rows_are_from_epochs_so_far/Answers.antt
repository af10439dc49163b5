use Rattle.object_store.proofs.StoreLaws.{OpenUpTo-empty, OpenUpTo-create, OpenUpTo-write, OpenUpTo-advance, OpenUpTo-close_all, OpenUpTo-purge, OpenUpTo-drop_vid, OpenBelow-next, OpenUpTo-later}
use Rattle.object_store.proofs.laws.open_rows_are_from_epochs_so_far.Goals as goal

pub returns : goal.returns
returns c = record {
  empty = OpenUpTo-empty;
  create = OpenUpTo-create;
  write = OpenUpTo-write;
  advance = OpenUpTo-advance;
  close_all = OpenUpTo-close_all;
  purge = OpenUpTo-purge;
  drop_vid = OpenUpTo-drop_vid;
  next = OpenBelow-next;
  later = OpenUpTo-later;
}
