use Rattle.std.proofs.Common.{◌≡◌, ◌<◌, inl, inr, ℕ, List, Option, ap, sym, ◌∙◌, arith}
use Rattle.object_id.specs.Hash.{own_vid}
use Rattle.vdi_directory.specs.declared.vid_range.VidRange.{VidRange}
use Rattle.vdi_directory.specs.Vids.{VID_COUNT, first_unused, free_id, as_vid, is_in}
use Rattle.vdi_directory.proofs.VidLemmas.{range-same, own-found, next-found, first-found, behind-first-found, none-found}
use Rattle.vdi_directory.proofs.vid_range.free_vid.Goals as goal
use Rattle.vdi_directory.proofs.vid_range.free_vid.Goals.{then-place-used-via-then-place-used, then-place-used-via-else-place-used+then-own-used}

-- the answer, by the search from the name's own id
answer : (name : List ℕ) (ranges : List VidRange) (own : ℕ) (found : Option ℕ) → own ≡ own_vid name
    → first_unused (is_in ranges) own VID_COUNT ≡ found → as_vid found ≡ as_vid (free_id name (is_in ranges))
answer name ranges own found is by = ap as_vid (sym by ∙ ap (λ vid. first_unused (is_in ranges) vid VID_COUNT) is)

abbrev none : VidRange
none = record { first = 0; last = 0 }

pub returns-then-place-used : goal.returns-then-place-used
returns-then-place-used c =
    let e = c.own_vid-own.ensures in
    let p = c.place_of-place.ensures in
    let found = own-found c.args.used.now c.own_vid-own.result c.place_of-place.result none c.requires p.before p.behind e.first in
    answer c.args.name.now c.args.used.now c.own_vid-own.result _ e.value
    (elim c.then-place-used.branch [
      | then-place-used-via-then-place-used w ↦ found (inl (omega arith))
      | then-place-used-via-else-place-used+then-own-used w ↦ found (inr (λ other. range-same c.args.used.now c.place_of-place.result none other (λ r. c.own_vid-own.result < r.first) (omega arith) (omega arith)))
    ])

pub returns-then-used-place-lt-VID_MAX : goal.returns-then-used-place-lt-VID_MAX
returns-then-used-place-lt-VID_MAX c =
    let e = c.own_vid-own.ensures in
    let p = c.place_of-place.ensures in
    answer c.args.name.now c.args.used.now c.own_vid-own.result _ e.value
    (next-found c.args.used.now c.own_vid-own.result c.place_of-place.result none c.requires p.before p.behind (omega arith) (omega arith) (omega arith) e.first)

pub returns-then-used-gt1 : goal.returns-then-used-gt1
returns-then-used-gt1 c =
    let e = c.own_vid-own.ensures in
    let p = c.place_of-place.ensures in
    answer c.args.name.now c.args.used.now c.own_vid-own.result _ e.value
    (first-found c.args.used.now c.own_vid-own.result c.place_of-place.result none c.requires p.before p.behind (omega arith) (omega arith) (omega arith) e.first (omega arith))

pub returns-then-used-lt-VID_MAX : goal.returns-then-used-lt-VID_MAX
returns-then-used-lt-VID_MAX c =
    let e = c.own_vid-own.ensures in
    let p = c.place_of-place.ensures in
    answer c.args.name.now c.args.used.now c.own_vid-own.result _ e.value
    (behind-first-found c.args.used.now c.own_vid-own.result c.place_of-place.result none c.requires p.before p.behind (omega arith) (omega arith) (omega arith) e.first (omega arith) (omega arith))

pub returns-else-used-lt-VID_MAX : goal.returns-else-used-lt-VID_MAX
returns-else-used-lt-VID_MAX c =
    let e = c.own_vid-own.ensures in
    let p = c.place_of-place.ensures in
    answer c.args.name.now c.args.used.now c.own_vid-own.result _ e.value
    (none-found c.args.used.now c.own_vid-own.result c.place_of-place.result none c.requires p.before p.behind (omega arith) (omega arith) (omega arith) e.first e.last)
