-- Each step of the walk leads to an older write, and keeps the answer.
use Rattle.disk_history.specs.CheckerState.{fate_of}
use Rattle.disk_history.proofs.ItemLemmas.{walk_found, walk_goes_on, walk_falls, walk_within, walk_ends}
use Rattle.disk_history.proofs.writes.may_give.Goals as goal

pub returns-in-Some-says : goal.returns-in-Some-says
returns-in-Some-says c =
    walk_found (fate_of c.args.requests.now) c.args.writes.now _ c.loop-at.at c.in-Some.place c.args.bytes.now c.fate.result c.says.result
    c.in-Some-says.answer _ c.requires.linked c.loop-at.invariant.within c.in-Some.is c.fate.ensures c.says.ensures c.in-Some-says.is c.loop-at.invariant.same

pub loop-at-smaller : goal.loop-at-smaller
loop-at-smaller c = walk_falls c.args.writes.now _ c.loop-at.at c.in-Some.place c.requires.linked c.loop-at.invariant.within c.in-Some.is

pub loop-at-preserved : goal.loop-at-preserved
loop-at-preserved c = record {
  within = walk_within c.args.writes.now _ c.loop-at.at c.in-Some.place c.requires.linked c.loop-at.invariant.within c.in-Some.is;
  same = walk_goes_on (fate_of c.args.requests.now) c.args.writes.now _ c.loop-at.at c.in-Some.place c.args.bytes.now c.fate.result c.says.result
      _ c.requires.linked c.loop-at.invariant.within c.in-Some.is c.fate.ensures c.says.ensures c.in-None.is c.loop-at.invariant.same;
}

pub returns : goal.returns
returns c =
    walk_ends (fate_of c.args.requests.now) c.args.writes.now c.loop-at.at c.args.bytes.now c.is_zeros.result _ c.in_default.is c.is_zeros.ensures c.loop-at.invariant.same
