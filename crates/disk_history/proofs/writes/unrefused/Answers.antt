-- Each step of the walk leads to an older write, past one that was refused.
use Rattle.disk_history.specs.CheckerState.{fate_of}
use Rattle.disk_history.proofs.ItemLemmas.{walk_falls, walk_within, walk_skips}
use Rattle.disk_history.proofs.writes.unrefused.Goals as goal

pub loop-at-smaller : goal.loop-at-smaller
loop-at-smaller c = walk_falls c.args.writes.now _ c.loop-at.at c.in-Some.place c.requires.linked c.loop-at.invariant.within c.in-Some.is

pub loop-at-preserved : goal.loop-at-preserved
loop-at-preserved c = record {
  within = walk_within c.args.writes.now _ c.loop-at.at c.in-Some.place c.requires.linked c.loop-at.invariant.within c.in-Some.is;
  same = walk_skips (fate_of c.args.requests.now) c.args.writes.now _ c.loop-at.at c.in-Some.place c.fate.result
      _ c.requires.linked c.loop-at.invariant.within c.in-Some.is c.fate.ensures c.in-Refused.is c.loop-at.invariant.same;
}
