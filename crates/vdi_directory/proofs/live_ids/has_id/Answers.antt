use Rattle.std.proofs.Common.{◌∙◌}
use Rattle.std.proofs.lemmas.Bool.{le-ltb}
use Rattle.vdi_directory.proofs.LiveLemmas.{has-last, has-nothing-low}
use Rattle.vdi_directory.proofs.live_ids.has_id.Goals as goal

pub returns-then-place-gt0 : goal.returns-then-place-gt0
returns-then-place-gt0 c =
    has-last c.args.vid.0 c.place_of-place.result c.args.live.now c.requires c.place_of-place.ensures.within c.place_of-place.ensures.before
    c.place_of-place.ensures.behind c.if-place-gt0.true

pub returns-else-place-gt0 : goal.returns-else-place-gt0
returns-else-place-gt0 c =
    le-ltb 0 c.place_of-place.result c.if-place-gt0.false
    ∙ has-nothing-low c.args.vid.0 c.place_of-place.result c.args.live.now c.requires c.place_of-place.ensures.within c.place_of-place.ensures.before
    c.place_of-place.ensures.behind c.if-place-gt0.false
