use Rattle.std.proofs.Common.{rules, ◌≡◌}
use Rattle.std.specs.Cmp.Lexicographic.{pointwise}
use Rattle.std.proofs.lemmas.Slice.Eq.{slice_eq-Decides}
use Rattle.object_id.specs.Same.{is_same_member}
use Rattle.object_id.proofs.SameLemmas.{members_decided}
use Rattle.object_id.proofs.same.same_members.Goals as goal

pub returns-clause-exact : goal.returns-clause-exact
returns-clause-exact c =
    let compared : c.eq.result ≡ pointwise is_same_member c.args.one.now c.args.other.now = search rules in
    slice_eq-Decides members_decided c.args.one.now c.args.other.now c.eq.result compared
