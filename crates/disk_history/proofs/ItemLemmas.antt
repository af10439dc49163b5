-- Items of blocks: what one more item changes, and how the writes' links lead to them.
use Rattle.std.proofs.Common.{◌≡◌, ℕ, ◌+◌, ◌<◌, ◌≤◌, ◌≢◌, ◌==◌, Bool, true, false, not, ◌&&◌, ◌||◌, List, [], ◌∷◌, ◌++◌, map, filter, length, reverse, get_or, Option, Some, None, refl, sym, ap, ◌∙◌, subst, cond, arith}
use Rattle.std.specs.Option.{option_map_or}
use Rattle.std.specs.Prelude.{unwrap_or, replicate}
use Rattle.std.proofs.Math.Bool.{or-false}
use Rattle.std.specs.Str.{bytes_eq}
use Rattle.std.specs.List.{list_any}
use Rattle.std.proofs.lemmas.Bool.{ne_eqb, eqb-true, eqb-false}
use Rattle.std.proofs.lemmas.List.Elements.{filter-append}
use Rattle.std.proofs.lemmas.List.{append-nil, map-append, reverse-append, reverse-reverse, length-reverse}
use Rattle.std.proofs.lemmas.List.Folds.{list_any-append}
use Rattle.std.proofs.lemmas.List.Sums.{fold-append}
use Rattle.std.proofs.Math.ListN.{get_or-append}
use Rattle.std.proofs.Math.Seq.{get_or-append_seam}
use Rattle.disk_history.specs.declared.requests.Fate.{Fate}
use Rattle.disk_history.specs.declared.requests.Fate.TheVariants.{Unanswered, Done, Refused, Abandoned}
use Rattle.disk_history.specs.declared.writes.Write.{Write}
use Rattle.disk_history.specs.Ledger.{Mark, Open, Acknowledged, Lost, Item, zeros_item, is_item_of, item_with_mark}
use Rattle.disk_history.specs.Legal.{is_acknowledged, is_writer_lost, standing}
use Rattle.disk_history.specs.CheckerState.{items_by, items_from, IsWithin, IsLinked, may_give, says_of}

-- how many steps a walk from a place has at most
abbrev pub steps_left : Option ℕ → ℕ
steps_left None = 0
steps_left (Some place) = place + 1

-- one item more is either the last acknowledged one, or stands behind the others
pub standing-push : (items : List Item) (item : Item)
    → standing (items ++ item ∷ []) ≡ cond (is_acknowledged item) (item ∷ []) (standing items ++ item ∷ [])
standing-push items item =
    fold-append (λ kept item. cond (is_acknowledged item) (item ∷ []) (kept ++ item ∷ [])) [] items (item ∷ [])

-- two tests of a list with one element more
or_both : (a b c d : Bool) → ((a || (c || false)) || (b || (d || false))) ≡ ((c || d) || (a || b))
or_both true b c d = grind arith
or_both false true c d = grind arith
or_both false false true d = refl
or_both false false false true = refl
or_both false false false false = refl

gives-kept : (kept : List Item) (item : Item) (bytes : List ℕ)
    → (list_any (λ item. item.coded && is_writer_lost item) (kept ++ item ∷ []) || list_any (λ item. bytes_eq item.bytes bytes) (kept ++ item ∷ []))
    ≡ (((item.coded && is_writer_lost item) || bytes_eq item.bytes bytes)
    || (list_any (λ item. item.coded && is_writer_lost item) kept || list_any (λ item. bytes_eq item.bytes bytes) kept))
gives-kept kept item bytes =
    ap (λ b. b || list_any (λ item. bytes_eq item.bytes bytes) (kept ++ item ∷ [])) (list_any-append (λ item. item.coded && is_writer_lost item) kept (item ∷ []))
    ∙ ap (λ b. (list_any (λ item. item.coded && is_writer_lost item) kept || ((item.coded && is_writer_lost item) || false)) || b)
    (list_any-append (λ item. bytes_eq item.bytes bytes) kept (item ∷ []))
    ∙ or_both (list_any (λ item. item.coded && is_writer_lost item) kept) (list_any (λ item. bytes_eq item.bytes bytes) kept)
    (item.coded && is_writer_lost item) (bytes_eq item.bytes bytes)

open_says : (coded same rest : Bool) → (((coded && false) || same) || rest) ≡ unwrap_or (cond same (Some true) None) rest
open_says true true rest = refl
open_says true false rest = refl
open_says false true rest = refl
open_says false false rest = refl

done_says : (coded same : Bool) → (((coded && false) || false) || (same || false)) ≡ same
done_says true true = refl
done_says true false = refl
done_says false true = refl
done_says false false = refl

lost_says : (coded same rest : Bool) → (((coded && true) || same) || rest) ≡ unwrap_or (cond (same || coded) (Some true) None) rest
lost_says true true rest = refl
lost_says true false rest = refl
lost_says false true rest = refl
lost_says false false rest = refl

abbrev gives_of : List ℕ → List Item → Bool
gives_of bytes kept = list_any (λ item. item.coded && is_writer_lost item) kept || list_any (λ item. bytes_eq item.bytes bytes) kept

-- what a write says of a read, before the items under it are asked
pub gives-says : (items : List Item) (fate : Fate) (write : Write) (bytes : List ℕ)
    → may_give (items ++ items_by fate write) bytes ≡ unwrap_or (says_of fate (bytes_eq write.bytes.now bytes) write.coded) (may_give items bytes)
gives-says items Unanswered write bytes =
    let item : Item = record { request = Some write.req; bytes = write.bytes.now; coded = write.coded; mark = Open } in
    ap (gives_of bytes) (standing-push items item) ∙ gives-kept (standing items) item bytes
    ∙ open_says write.coded (bytes_eq write.bytes.now bytes) (may_give items bytes)
gives-says items Done write bytes =
    let item : Item = record { request = Some write.req; bytes = write.bytes.now; coded = write.coded; mark = Acknowledged } in
    ap (gives_of bytes) (standing-push items item) ∙ done_says write.coded (bytes_eq write.bytes.now bytes)
gives-says items Refused write bytes = ap (λ (items : List Item). may_give items bytes) (append-nil items)
gives-says items Abandoned write bytes =
    let item : Item = record { request = Some write.req; bytes = write.bytes.now; coded = write.coded; mark = Lost } in
    ap (gives_of bytes) (standing-push items item) ∙ gives-kept (standing items) item bytes
    ∙ lost_says write.coded (bytes_eq write.bytes.now bytes) (may_give items bytes)

-- the last of a list that was turned round
last_of : (write : Write) (older : List Write) → reverse (write ∷ older) ≡ reverse older ++ write ∷ []
last_of write older = reverse-append (write ∷ []) older

at_last : (write default : Write) (older : List Write) → get_or (reverse (write ∷ older)) (length older) default ≡ write
at_last write default older =
    ap (λ (writes : List Write). get_or writes (length older) default) (last_of write older)
    ∙ ap (λ n. get_or (reverse older ++ write ∷ []) n default) (sym (length-reverse older))
    ∙ get_or-append_seam (reverse older) write [] default

at_older : (write default : Write) (older : List Write) (place : ℕ) → place < length older
    → get_or (reverse (write ∷ older)) place default ≡ get_or (reverse older) place default
at_older write default older place below =
    ap (λ (writes : List Write). get_or writes place default) (last_of write older)
    ∙ get_or-append (reverse older) (write ∷ []) default place (let e : length (reverse older) ≡ length older = length-reverse older in omega (arith, below))

-- a newer write changes no block whose newest write is an older one
pub items_from-older : (fates : ℕ → Fate) (write : Write) (older : List Write) (newest : Option ℕ) → IsWithin newest (length older)
    → items_from fates (write ∷ older) newest ≡ items_from fates older newest
items_from-older fates write older None within = refl
items_from-older fates write older (Some place) within =
    ap (λ b. cond b (items_from fates older write.earlier ++ items_by (fates write.req) write) (items_from fates older (Some place)))
    (ne_eqb place (length older) (λ same. omega (arith, same, within)))

pub within_more : (place : Option ℕ) (m n : ℕ) → IsWithin place m → m ≤ n → IsWithin place n
within_more None m n within more = tt
within_more (Some place) m n within more = omega (arith, within, more)

below_last : (place n : ℕ) → place < n + 1 → (place == n) ≡ false → place < n
below_last place n below apart = let e : place ≢ n = eqb-false place n apart in omega (arith, below, e)

-- each link leads down
pub earlier_within : (writes : List Write) (default : Write) (place : ℕ) → IsLinked writes → place < length writes
    → IsWithin (get_or (reverse writes) place default).earlier place
earlier_within [] default place linked below = absurd (omega (arith, below))
earlier_within (write ∷ older) default place linked below =
    go (place == length older) refl (λ under. earlier_within older default place linked.1 under)
  where
    go : (b : Bool) → (place == length older) ≡ b
        → (place < length older → IsWithin (get_or (reverse older) place default).earlier place)
        → IsWithin (get_or (reverse (write ∷ older)) place default).earlier place
    go true e rest =
        let at : place ≡ length older = eqb-true place (length older) e in
        let same : get_or (reverse (write ∷ older)) place default ≡ write =
        ap (λ n. get_or (reverse (write ∷ older)) n default) at ∙ at_last write default older in
        subst (λ (w : Write). IsWithin w.earlier place) (sym same) (subst (λ n. IsWithin write.earlier n) (sym at) linked.0)
    go false e rest =
        let under : place < length older = below_last place (length older) (omega (arith, below)) e in
        subst (λ (w : Write). IsWithin w.earlier place) (sym (at_older write default older place under)) (rest under)

-- the items of a block are those under its newest write, and then that write's own
pub items_from-at : (fates : ℕ → Fate) (writes : List Write) (default : Write) (place : ℕ) → IsLinked writes → place < length writes
    → items_from fates writes (Some place)
    ≡ items_from fates writes (get_or (reverse writes) place default).earlier
    ++ items_by (fates (get_or (reverse writes) place default).req) (get_or (reverse writes) place default)
items_from-at fates [] default place linked below = absurd (omega (arith, below))
items_from-at fates (write ∷ older) default place linked below =
    go (place == length older) refl (λ under. items_from-at fates older default place linked.1 under)
  where
    top : List Item
    top = items_from fates older write.earlier ++ items_by (fates write.req) write

    both : Write → List Item
    both w = items_from fates (write ∷ older) w.earlier ++ items_by (fates w.req) w

    go : (b : Bool) → (place == length older) ≡ b
        → (place < length older → items_from fates older (Some place)
        ≡ items_from fates older (get_or (reverse older) place default).earlier
        ++ items_by (fates (get_or (reverse older) place default).req) (get_or (reverse older) place default))
        → items_from fates (write ∷ older) (Some place) ≡ both (get_or (reverse (write ∷ older)) place default)
    go true e rest =
        let at : place ≡ length older = eqb-true place (length older) e in
        let same : get_or (reverse (write ∷ older)) place default ≡ write =
        ap (λ n. get_or (reverse (write ∷ older)) n default) at ∙ at_last write default older in
        ap (λ b. cond b top (items_from fates older (Some place))) e
        ∙ ap (λ (items : List Item). items ++ items_by (fates write.req) write) (sym (items_from-older fates write older write.earlier linked.0))
        ∙ ap both (sym same)
    go false e rest =
        let under : place < length older = below_last place (length older) (omega (arith, below)) e in
        let w : Write = get_or (reverse older) place default in
        let within : IsWithin w.earlier (length older) =
        within_more w.earlier place (length older) (earlier_within older default place linked.1 under) (omega (arith, under)) in
        ap (λ b. cond b top (items_from fates older (Some place))) e
        ∙ rest under
        ∙ ap (λ (items : List Item). items ++ items_by (fates w.req) w) (sym (items_from-older fates write older w.earlier within))
        ∙ ap both (sym (at_older write default older place under))

-- ---- one step of a walk from newest to older writes, the writes as they were made

-- what the write at a place says of a read, and else what the items under it say
pub gives-at : (fates : ℕ → Fate) (writes : List Write) (default : Write) (place : ℕ) (bytes : List ℕ)
    → IsLinked (reverse writes) → place < length writes
    → may_give (items_from fates (reverse writes) (Some place)) bytes
    ≡ unwrap_or (says_of (fates (get_or writes place default).req) (bytes_eq (get_or writes place default).bytes.now bytes) (get_or writes place default).coded)
    (may_give (items_from fates (reverse writes) (get_or writes place default).earlier) bytes)
gives-at fates writes default place bytes linked below =
    ap (λ (items : List Item). may_give items bytes)
    (items_from-at fates (reverse writes) default place linked (let e : length (reverse writes) ≡ length writes = length-reverse writes in omega (arith, below, e))
    ∙ ap (λ (all : List Write). items_from fates (reverse writes) (get_or all place default).earlier ++ items_by (fates (get_or all place default).req) (get_or all place default))
    (reverse-reverse writes))
    ∙ gives-says (items_from fates (reverse writes) (get_or writes place default).earlier) (fates (get_or writes place default).req) (get_or writes place default) bytes

-- the step leads down
pub step_within : (writes : List Write) (default : Write) (place : ℕ) → IsLinked (reverse writes) → place < length writes
    → IsWithin (get_or writes place default).earlier place
step_within writes default place linked below =
    subst (λ (all : List Write). IsWithin (get_or all place default).earlier place) (reverse-reverse writes)
    (earlier_within (reverse writes) default place linked (let e : length (reverse writes) ≡ length writes = length-reverse writes in omega (arith, below, e)))

pub step_within_all : (writes : List Write) (default : Write) (place : ℕ) → IsLinked (reverse writes) → place < length writes
    → IsWithin (get_or writes place default).earlier (length writes)
step_within_all writes default place linked below =
    within_more _ place (length writes) (step_within writes default place linked below) (omega (arith, below))

pub steps_left_fall : (earlier : Option ℕ) (place : ℕ) → IsWithin earlier place → steps_left earlier < steps_left (Some place)
steps_left_fall None place within = omega arith
steps_left_fall (Some lower) place within = omega (arith, within)

-- the answer of a step is that of the whole walk
pub walk_told : (fates : ℕ → Fate) (writes : List Write) (default : Write) (at : Option ℕ) (place : ℕ) (bytes : List ℕ) (fate : Fate) (told : Option Bool)
    → IsLinked (reverse writes) → IsWithin at (length writes) → at ≡ Some place
    → fate ≡ fates (get_or writes place default).req
    → told ≡ says_of fate (bytes_eq (get_or writes place default).bytes.now bytes) (get_or writes place default).coded
    → may_give (items_from fates (reverse writes) at) bytes
    ≡ unwrap_or told (may_give (items_from fates (reverse writes) (get_or writes place default).earlier) bytes)
walk_told fates writes default at place bytes fate told linked within is fate_is told_is =
    let below : place < length writes = subst (λ (at : Option ℕ). IsWithin at (length writes)) is within in
    ap (λ (at : Option ℕ). may_give (items_from fates (reverse writes) at) bytes) is
    ∙ gives-at fates writes default place bytes linked below
    ∙ ap (λ (told : Option Bool). unwrap_or told (may_give (items_from fates (reverse writes) (get_or writes place default).earlier) bytes))
    (sym (told_is ∙ ap (λ (fate : Fate). says_of fate (bytes_eq (get_or writes place default).bytes.now bytes) (get_or writes place default).coded) fate_is))

pub walk_found : (fates : ℕ → Fate) (writes : List Write) (default : Write) (at : Option ℕ) (place : ℕ) (bytes : List ℕ) (fate : Fate) (told : Option Bool)
    (answer whole : Bool) → IsLinked (reverse writes) → IsWithin at (length writes) → at ≡ Some place
    → fate ≡ fates (get_or writes place default).req
    → told ≡ says_of fate (bytes_eq (get_or writes place default).bytes.now bytes) (get_or writes place default).coded
    → told ≡ Some answer → may_give (items_from fates (reverse writes) at) bytes ≡ whole → answer ≡ whole
walk_found fates writes default at place bytes fate told answer whole linked within is fate_is told_is found same =
    ap (λ (told : Option Bool). unwrap_or told (may_give (items_from fates (reverse writes) (get_or writes place default).earlier) bytes)) (sym found)
    ∙ sym (walk_told fates writes default at place bytes fate told linked within is fate_is told_is) ∙ same

pub walk_goes_on : (fates : ℕ → Fate) (writes : List Write) (default : Write) (at : Option ℕ) (place : ℕ) (bytes : List ℕ) (fate : Fate) (told : Option Bool)
    (whole : Bool) → IsLinked (reverse writes) → IsWithin at (length writes) → at ≡ Some place
    → fate ≡ fates (get_or writes place default).req
    → told ≡ says_of fate (bytes_eq (get_or writes place default).bytes.now bytes) (get_or writes place default).coded
    → told ≡ None → may_give (items_from fates (reverse writes) at) bytes ≡ whole
    → may_give (items_from fates (reverse writes) (get_or writes place default).earlier) bytes ≡ whole
walk_goes_on fates writes default at place bytes fate told whole linked within is fate_is told_is silent same =
    ap (λ (told : Option Bool). unwrap_or told (may_give (items_from fates (reverse writes) (get_or writes place default).earlier) bytes)) (sym silent)
    ∙ sym (walk_told fates writes default at place bytes fate told linked within is fate_is told_is) ∙ same

pub walk_falls : (writes : List Write) (default : Write) (at : Option ℕ) (place : ℕ) → IsLinked (reverse writes) → IsWithin at (length writes)
    → at ≡ Some place → steps_left (get_or writes place default).earlier < steps_left at
walk_falls writes default at place linked within is =
    let below : place < length writes = subst (λ (at : Option ℕ). IsWithin at (length writes)) is within in
    subst (λ (at : Option ℕ). steps_left (get_or writes place default).earlier < steps_left at) (sym is)
    (steps_left_fall (get_or writes place default).earlier place (step_within writes default place linked below))

pub walk_within : (writes : List Write) (default : Write) (at : Option ℕ) (place : ℕ) → IsLinked (reverse writes) → IsWithin at (length writes)
    → at ≡ Some place → IsWithin (get_or writes place default).earlier (length writes)
walk_within writes default at place linked within is =
    step_within_all writes default place linked (subst (λ (at : Option ℕ). IsWithin at (length writes)) is within)

-- a block without a write has its zeros
pub items_from-none : (fates : ℕ → Fate) (writes : List Write) → items_from fates writes None ≡ zeros_item ∷ []
items_from-none fates [] = refl
items_from-none fates (write ∷ older) = items_from-none fates older

pub walk_ends : (fates : ℕ → Fate) (writes : List Write) (at : Option ℕ) (bytes : List ℕ) (answer whole : Bool)
    → at ≡ None → answer ≡ bytes_eq (replicate 512 0) bytes → may_give (items_from fates (reverse writes) at) bytes ≡ whole → answer ≡ whole
walk_ends fates writes at bytes answer whole is answer_is same =
    answer_is ∙ sym (or-false (bytes_eq (replicate 512 0) bytes))
    ∙ sym (ap (λ (items : List Item). may_give items bytes) (ap (λ (at : Option ℕ). items_from fates (reverse writes) at) is ∙ items_from-none fates (reverse writes))) ∙ same

-- ---- refused writes are passed over

pub walk_skips : (fates : ℕ → Fate) (writes : List Write) (default : Write) (at : Option ℕ) (place : ℕ) (fate : Fate) (whole : List Item)
    → IsLinked (reverse writes) → IsWithin at (length writes) → at ≡ Some place
    → fate ≡ fates (get_or writes place default).req → fate ≡ Refused
    → items_from fates (reverse writes) at ≡ whole
    → items_from fates (reverse writes) (get_or writes place default).earlier ≡ whole
walk_skips fates writes default at place fate whole linked within is fate_is refused same =
    let below : place < length writes = subst (λ (at : Option ℕ). IsWithin at (length writes)) is within in
    let under : List Item = items_from fates (reverse writes) (get_or writes place default).earlier in
    let step : items_from fates (reverse writes) (Some place) ≡ under ++ items_by (fates (get_or writes place default).req) (get_or writes place default) =
    items_from-at fates (reverse writes) default place linked (let e : length (reverse writes) ≡ length writes = length-reverse writes in omega (arith, below, e))
    ∙ ap (λ (all : List Write). items_from fates (reverse writes) (get_or all place default).earlier ++ items_by (fates (get_or all place default).req) (get_or all place default))
    (reverse-reverse writes) in
    sym (append-nil under)
    ∙ ap (λ (fate : Fate). under ++ items_by fate (get_or writes place default)) (sym refused ∙ fate_is)
    ∙ sym step ∙ ap (λ (at : Option ℕ). items_from fates (reverse writes) at) (sym is) ∙ same

-- ---- a request's end, told to each of its items

pub items_from-turned : (fates turned : ℕ → Fate) (change : List Item → List Item)
    → ((xs ys : List Item) → change (xs ++ ys) ≡ change xs ++ change ys)
    → change (zeros_item ∷ []) ≡ zeros_item ∷ []
    → ((write : Write) → change (items_by (fates write.req) write) ≡ items_by (turned write.req) write)
    → (writes : List Write) (newest : Option ℕ) → items_from turned writes newest ≡ change (items_from fates writes newest)
items_from-turned fates turned change append zeros each [] newest = sym zeros
items_from-turned fates turned change append zeros each (write ∷ older) newest =
    go (option_map_or (λ place. place == length older) newest false)
    (items_from-turned fates turned change append zeros each older write.earlier)
    (items_from-turned fates turned change append zeros each older newest)
  where
    go : (b : Bool) → items_from turned older write.earlier ≡ change (items_from fates older write.earlier)
        → items_from turned older newest ≡ change (items_from fates older newest)
        → cond b (items_from turned older write.earlier ++ items_by (turned write.req) write) (items_from turned older newest)
        ≡ change (cond b (items_from fates older write.earlier ++ items_by (fates write.req) write) (items_from fates older newest))
    go true under other =
        ap (λ (items : List Item). items ++ items_by (turned write.req) write) under
        ∙ ap (λ (items : List Item). change (items_from fates older write.earlier) ++ items) (sym (each write))
        ∙ sym (append (items_from fates older write.earlier) (items_by (fates write.req) write))
    go false under other = other

-- how a request's end changes lists of items, where its fate becomes this one
pub record Turns (change : List Item → List Item) (req : ℕ) (fate : Fate) : Type 0 where
  pub append : (xs ys : List Item) → change (xs ++ ys) ≡ change xs ++ change ys
  pub zeros : change (zeros_item ∷ []) ≡ zeros_item ∷ []
  pub own : (write : Write) → (write.req == req) ≡ true → change (items_by Unanswered write) ≡ items_by fate write
  pub others : (write : Write) (other : Fate) → (write.req == req) ≡ false → change (items_by other write) ≡ items_by other write

marked_own : (mark : Mark) (req : ℕ) (write : Write) → (write.req == req) ≡ true
    → map (item_with_mark mark req) (items_by Unanswered write)
    ≡ (let item : Item = record { request = Some write.req; bytes = write.bytes.now; coded = write.coded; mark = mark } in item ∷ [])
marked_own mark req write e =
    let item : Item = record { request = Some write.req; bytes = write.bytes.now; coded = write.coded; mark = Open } in
    ap (λ b. (cond b (record item { mark = mark }) item) ∷ []) e

marked_others : (mark : Mark) (req : ℕ) (write : Write) (other : Fate) → (write.req == req) ≡ false
    → map (item_with_mark mark req) (items_by other write) ≡ items_by other write
marked_others mark req write Unanswered e =
    let item : Item = record { request = Some write.req; bytes = write.bytes.now; coded = write.coded; mark = Open } in
    ap (λ b. (cond b (record item { mark = mark }) item) ∷ []) e
marked_others mark req write Done e =
    let item : Item = record { request = Some write.req; bytes = write.bytes.now; coded = write.coded; mark = Acknowledged } in
    ap (λ b. (cond b (record item { mark = mark }) item) ∷ []) e
marked_others mark req write Refused e = refl
marked_others mark req write Abandoned e =
    let item : Item = record { request = Some write.req; bytes = write.bytes.now; coded = write.coded; mark = Lost } in
    ap (λ b. (cond b (record item { mark = mark }) item) ∷ []) e

taken_others : (req : ℕ) (write : Write) (other : Fate) → (write.req == req) ≡ false
    → filter (λ item. not (is_item_of req item)) (items_by other write) ≡ items_by other write
taken_others req write Unanswered e =
    let item : Item = record { request = Some write.req; bytes = write.bytes.now; coded = write.coded; mark = Open } in
    ap (λ b. cond (not b) (item ∷ []) []) e
taken_others req write Done e =
    let item : Item = record { request = Some write.req; bytes = write.bytes.now; coded = write.coded; mark = Acknowledged } in
    ap (λ b. cond (not b) (item ∷ []) []) e
taken_others req write Refused e = refl
taken_others req write Abandoned e =
    let item : Item = record { request = Some write.req; bytes = write.bytes.now; coded = write.coded; mark = Lost } in
    ap (λ b. cond (not b) (item ∷ []) []) e

pub done_turns : (req : ℕ) → Turns (map (item_with_mark Acknowledged req)) req Done
done_turns req = record {
  append = map-append (item_with_mark Acknowledged req);
  zeros = refl;
  own = marked_own Acknowledged req;
  others = marked_others Acknowledged req;
}

pub lost_turns : (req : ℕ) → Turns (map (item_with_mark Lost req)) req Abandoned
lost_turns req = record {
  append = map-append (item_with_mark Lost req);
  zeros = refl;
  own = marked_own Lost req;
  others = marked_others Lost req;
}

pub refused_turns : (req : ℕ) → Turns (filter (λ item. not (is_item_of req item))) req Refused
refused_turns req = record {
  append = filter-append (λ item. not (is_item_of req item));
  zeros = refl;
  own = λ write e.
      let item : Item = record { request = Some write.req; bytes = write.bytes.now; coded = write.coded; mark = Open } in
      ap (λ b. cond (not b) (item ∷ []) []) e;
  others = taken_others req;
}
