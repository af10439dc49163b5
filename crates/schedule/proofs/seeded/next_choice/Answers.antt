use Rattle.std.proofs.Common.{Some, None}
use Rattle.schedule.proofs.NextEvent.{choice-placed, choice-found}
use Rattle.schedule.proofs.seeded.next_choice.Goals as goal

pub returns-in-Some-enabled-clause-choice : goal.returns-in-Some-enabled-clause-choice
returns-in-Some-enabled-clause-choice c =
    choice-found c.args.script.now (record { world = c.args.world.now.world; rng = c.args.rng.now; taken = c.args.taken }) c.in-Some.place
    c.next_place.new.rng (Some c.in-Some-enabled.event)
    (choice-placed c.args.script.now (record { world = c.args.world.now.world; rng = c.args.rng.now; taken = c.args.taken }) c.limit.result
    c.in_ok-count.count (Some c.in-Some.place) c.next_place.new.rng c.in-Some.ensures.choice c.limit.ensures c.in_ok-count.ensures.ok)
    c.in-Some-enabled.ensures

pub returns-in-None-enabled-clause-choice : goal.returns-in-None-enabled-clause-choice
returns-in-None-enabled-clause-choice c =
    choice-found c.args.script.now (record { world = c.args.world.now.world; rng = c.args.rng.now; taken = c.args.taken }) c.in-Some.place
    c.next_place.new.rng None
    (choice-placed c.args.script.now (record { world = c.args.world.now.world; rng = c.args.rng.now; taken = c.args.taken }) c.limit.result
    c.in_ok-count.count (Some c.in-Some.place) c.next_place.new.rng c.in-Some.ensures.choice c.limit.ensures c.in_ok-count.ensures.ok)
    c.in-None-enabled.ensures

pub returns-in-None-clause-choice : goal.returns-in-None-clause-choice
returns-in-None-clause-choice c =
    choice-placed c.args.script.now (record { world = c.args.world.now.world; rng = c.args.rng.now; taken = c.args.taken }) c.limit.result
    c.in_ok-count.count None c.next_place.new.rng c.in-None.ensures.choice c.limit.ensures c.in_ok-count.ensures.ok
