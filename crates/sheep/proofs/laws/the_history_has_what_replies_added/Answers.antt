use Rattle.sheep.proofs.AddedByReplies.{given-added, write-done, write-refused, blocks-read}
use Rattle.sheep.proofs.laws.the_history_has_what_replies_added.Goals as goal

pub returns : goal.returns
returns c = record {
  added = given-added;
  done = write-done;
  refused = write-refused;
  read = blocks-read;
}
