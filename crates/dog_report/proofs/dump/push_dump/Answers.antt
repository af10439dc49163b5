use Rattle.std.proofs.Common.{List, [], ◌++◌, ap, arith}
use Rattle.std.specs.Option.{option_map_or}
use Rattle.std.specs.FinMap as tree
use Rattle.std.proofs.lemmas.Option.{slice_get_within}
use Rattle.dog_report.specs.Words.{Words}
use Rattle.dog_report.specs.Lists.{dump}
use Rattle.dog_report.specs.ListParts.{lines_text, rows_if_up}
use Rattle.dog_report.proofs.WorldLists.{dump-numbers, number-at, host-step, hosts-end}
use Rattle.dog_report.proofs.dump.push_dump.Goals as goal

pub loop-number-init : goal.loop-number-init
loop-number-init c =
    ap (λ (lines : List Words). c.args.text.now.items ++ lines_text lines) (dump-numbers c.args.world.now.world)

pub loop-number-smaller : goal.loop-number-smaller
loop-number-smaller c =
    let numbers = tree.keys c.args.world.now.world.hosts in
    let within = slice_get_within numbers c.loop-number.place c.in-Some.number.0
    (number-at numbers c.loop-number.place c.in-Some.number c.in-Some.ensures) in
    omega (arith, c.in_ok-place.ensures, within)

pub loop-number-preserved : goal.loop-number-preserved
loop-number-preserved c =
    let world = c.args.world.now.world in
    host-step (λ number. option_map_or (rows_if_up number) (tree.get world.hosts number) []) (tree.keys world.hosts) c.loop-number.place
    c.in_ok-place.place c.in-Some.number c.loop-number.text.items c.push_host.new.text.items
    (c.args.text.now.items ++ lines_text (dump world)) c.in-Some.ensures c.in_ok-push_host.ensures c.in_ok-place.ensures
    c.loop-number.invariant

pub returns : goal.returns
returns c =
    let world = c.args.world.now.world in
    hosts-end (λ number. option_map_or (rows_if_up number) (tree.get world.hosts number) []) (tree.keys world.hosts) c.loop-number.place
    c.loop-number.text.items (c.args.text.now.items ++ lines_text (dump world)) c.in_default.ensures c.loop-number.invariant
