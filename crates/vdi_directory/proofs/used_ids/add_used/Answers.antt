use Rattle.std.proofs.Common.{◌≡◌, ◌≢◌, ℕ, suc, ◌+◌, ◌-◌, ◌<◌, ◌≤◌, ◌++◌, List, length, get_or, take, drop, ap, sym, subst, ◌∙◌, arith}
use Rattle.std.proofs.lemmas.List.{get_or_default}
use Rattle.vdi_directory.specs.declared.vid_range.VidRange.{VidRange}
use Rattle.vdi_directory.specs.Vids.{ranges_with}
use Rattle.vdi_directory.proofs.VidLemmas.{with_vid-insert, with_vid-extend}
use Rattle.vdi_directory.proofs.used_ids.add_used.Goals as goal
use Rattle.vdi_directory.proofs.used_ids.add_used.Goals.{else-place-gt0-via-then-place-gt0+else-index-vid, else-place-gt0-via-else-place-gt0}

pub returns-then-index-vid : goal.returns-then-index-vid
returns-then-index-vid c =
    let items = c.args.used.now.items in
    let place = c.place_of-place.result in
    let r = c.index.result.now in
    let long : length c.as_slice.result.now ≡ length items = ap length c.as_slice.ensures.value in
    let up : place - 1 + 1 ≡ suc (place - 1) = omega arith in
    let here : (get_or items (place - 1) r).last + 1 ≡ c.args.vid.0 = ap (λ (x : VidRange). x.last + 1) (sym c.index.ensures) ∙ c.if-index-vid.true in
    c.extend.ensures r
    ∙ ap (λ n. take (place - 1) items ++ ranges_with (get_or items (place - 1) r).first c.args.vid.0 (drop n items)) up
    ∙ sym (with_vid-extend 1 c.args.vid.0 (place - 1) items r c.requires.ranges (omega (arith, c.place_of-place.ensures.within)) here)

pub returns-else-place-gt0 : goal.returns-else-place-gt0
returns-else-place-gt0 c =
    let items = c.args.used.now.items in
    let place = c.place_of-place.result in
    let seen : c.as_slice.result.now ≡ items = c.as_slice.ensures.value in
    let long : length c.as_slice.result.now ≡ length items = ap length seen in
    let before : (k : ℕ) (d : VidRange) → k < place → (get_or items k d).last < c.args.vid.0
    = subst (λ (all : List VidRange). (k : ℕ) (d : VidRange) → k < place → (get_or all k d).last < c.args.vid.0) seen c.place_of-place.ensures.before in
    let behind : (k : ℕ) (d : VidRange) → place ≤ k → k < length items → c.args.vid.0 ≤ (get_or items k d).last
    = subst (λ (all : List VidRange). (k : ℕ) (d : VidRange) → place ≤ k → k < length all → c.args.vid.0 ≤ (get_or all k d).last) seen c.place_of-place.ensures.behind in
    let within : place ≤ length items = omega (arith, c.place_of-place.ensures.within) in
    let apart : (d : VidRange) → 0 < place → (get_or items (place - 1) d).last + 1 ≢ c.args.vid.0
    = elim c.else-place-gt0.branch [
      | else-place-gt0-via-then-place-gt0+else-index-vid w ↦ λ d some touches.
          w.if-index-vid.false (ap (λ (x : VidRange). x.last + 1) (w.index.ensures ∙ get_or_default items (place - 1) w.index.result.now d (omega arith)) ∙ touches)
      | else-place-gt0-via-else-place-gt0 w ↦ λ d some touches. absurd (omega arith)
    ] in
    c.insert.ensures ∙ sym (with_vid-insert 1 c.args.vid.0 place items c.requires.ranges within before behind apart)
