use Rattle.hash_ring.proofs.PointLaws.{points_more}
use Rattle.hash_ring.proofs.point.add_points.Goals as goal

pub loop-number-preserved : goal.loop-number-preserved
loop-number-preserved c =
    points_more c.args.points.now.items c.loop-number.points.items c.push.new.self.items c.args.member.now.node c.args.member.now.zone
    c.loop-number.number c.virtual_hash.result c.loop-number.invariant c.virtual_hash.ensures c.in_ok-push.ensures.items
