-- The requests that are touched, and the works by their requests.
use Rattle.std.proofs.Common.{◌≡◌, ◌≢◌, ℕ, ◌&&◌, ◌||◌, not, Bool, true, false, cond, Some, None, is_some, ap, ◌∙◌}
use Rattle.std.specs.Ordering.{is_eq, eq_by_cmp, nat_cmp}
use Rattle.std.specs.Cmp.{nat_cmp_total, tied_itself, unsigned_tied}
use Rattle.std.specs.FinMap as tree
use Rattle.std.specs.FinSet as set
use Rattle.std.proofs.lemmas.Bool.{and_from, or_right, ne_eqb}
use Rattle.proof_tools.proofs.FiniteMaps.{is_at-same, is_at-other, get-insert_same, get-insert_other, get-remove_same, get-remove_other}
use Rattle.peer_proto.specs.declared.work.ObjWork.{ObjWork}
use Rattle.gateway.specs.declared.message.Status.{Status}
use Rattle.gateway.specs.Work.{is_making}
use Rattle.gateway.specs.Attempt.{may_be_made}
use Rattle.gateway.specs.State.{Work, Gateway, is_touched, has_work}
use Rattle.gateway.specs.Step.{with_work, without_work, touched_by, without_touch}

pub touched-made : (req : ℕ) (work : ObjWork) (status : Status) (gateway : Gateway) → is_making work ≡ true → may_be_made status ≡ true
    → is_touched req (touched_by req work status gateway) ≡ true
touched-made req work status gateway makes made =
    ap (λ b. set.contains (cond b (set.insert gateway.touched req) gateway.touched) req)
    (and_from (is_making work) (may_be_made status) makes made)
    ∙ set.contains-insert nat_cmp_total gateway.touched req req
    ∙ ap (λ b. b || set.contains gateway.touched req) (is_at-same req)

stays_if : (q req : ℕ) (gateway : Gateway) (b : Bool) → is_touched q gateway ≡ true
    → set.contains (cond b (set.insert gateway.touched req) gateway.touched) q ≡ true
stays_if q req gateway true before =
    set.contains-insert nat_cmp_total gateway.touched req q ∙ or_right (eq_by_cmp nat_cmp q req) (set.contains gateway.touched q) before
stays_if q req gateway false before = before

pub touched-stays : (q req : ℕ) (work : ObjWork) (status : Status) (gateway : Gateway) → is_touched q gateway ≡ true
    → is_touched q (touched_by req work status gateway) ≡ true
touched-stays q req work status gateway before = stays_if q req gateway (is_making work && may_be_made status) before

pub without_touch-own : (req : ℕ) (gateway : Gateway) → is_touched req (without_touch req gateway) ≡ false
without_touch-own req gateway =
    set.contains-remove nat_cmp_total gateway.touched req req ∙ ap (λ b. not b && set.contains gateway.touched req) (is_at-same req)

pub without_touch-others : (q req : ℕ) (gateway : Gateway) → q ≢ req → is_touched q (without_touch req gateway) ≡ is_touched q gateway
without_touch-others q req gateway apart =
    set.contains-remove nat_cmp_total gateway.touched req q ∙ ap (λ b. not b && set.contains gateway.touched q) (is_at-other q req apart)

pub with_work-own : (req : ℕ) (work : Work) (gateway : Gateway) → tree.get (with_work req work gateway).works req ≡ Some work
with_work-own req work gateway =
    get-insert_same gateway.works req work

pub with_work-others : (q req : ℕ) (work : Work) (gateway : Gateway) → q ≢ req
    → tree.get (with_work req work gateway).works q ≡ tree.get gateway.works q
with_work-others q req work gateway apart =
    get-insert_other gateway.works req work q apart

pub without_work-own : (req : ℕ) (gateway : Gateway) → has_work req (without_work req gateway) ≡ false
without_work-own req gateway =
    ap is_some (get-remove_same gateway.works req)

pub without_work-others : (q req : ℕ) (gateway : Gateway) → q ≢ req
    → tree.get (without_work req gateway).works q ≡ tree.get gateway.works q
without_work-others q req gateway apart =
    get-remove_other gateway.works req q apart
