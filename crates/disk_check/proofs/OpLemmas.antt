-- What always holds of a check, and how each step keeps it.
use Rattle.std.proofs.Common.{◌≡◌, ℕ, zero, suc, ◌+◌, ◌-◌, ◌<◌, ◌≤◌, ◌==◌, not, Bool, true, false, cond, List, [], ◌∷◌, ◌++◌, length, get_or, slice_get, drop, count_by, All, Some, IfSome, refl, sym, ap, subst, ◌∙◌, arith}
use Rattle.std.specs.List.Sorted.{IsStrictlyIncreasing}
use Rattle.std.proofs.Math.Seq.{drop-cons}
use Rattle.std.proofs.lemmas.Bool.{eqb-true}
use Rattle.std.proofs.lemmas.List.Elements.{All-nil, All-cons, All-head, All-tail, All-append}
use Rattle.std.proofs.lemmas.List.Kept.{AllPairs-from_increasing}
use Rattle.std.proofs.lemmas.List.Sums.{count_by-le-length}
use Rattle.object_id.specs.declared.limits.TheConstants.{OBJECTS_MAX}
use Rattle.object_id.specs.declared.entry.VdiSpec.{VdiSpec}
use Rattle.object_id.specs.Oid.{IsVid, object_number}
use Rattle.object_id.specs.Spec.{IsSpec}
use Rattle.inode.specs.Layout.{Content}
use Rattle.peer_proto.specs.declared.guest.Checked.{Checked}
use Rattle.disk_check.specs.declared.stage.Stage.{Stage}
use Rattle.disk_check.specs.declared.stage.Stage.TheVariants as stages
use Rattle.disk_check.specs.Table.{own_indexes, inherited_count}
use Rattle.disk_check.specs.Value.{pieces_in}
use Rattle.disk_check.specs.Check.{CheckStage, Comparing, WritingBack, Check, with_object, later_of, left_of, IsCheck, memory_is_taken_at, check_on, begun_check, begin_check, write_back_step, check_done_at, check_on_done, bytes_at}
use Rattle.disk_check.specs.Stage.{check_stage}
use Rattle.disk_check.proofs.TableLemmas.{own_indexes-ascend, own_indexes-own, own_indexes-count}

-- the list that the code goes through is what is left behind the work
pub writing_back : (stage : Stage) (later : List ℕ) → check_stage stage later ≡ WritingBack (later_of (check_stage stage later))
    → check_stage stage later ≡ WritingBack later
writing_back (stages.Comparing index) later e = absurd (cc (e))
writing_back stages.WritingBack later e = refl
writing_back stages.Answered later e = absurd (cc (e))

pub comparing : (stage : Stage) (index : ℕ) (later : List ℕ)
    → check_stage stage later ≡ Comparing index (later_of (check_stage stage later))
    → check_stage stage later ≡ Comparing index later
comparing (stages.Comparing other) index later e = e
comparing stages.WritingBack index later e = absurd (cc (e))
comparing stages.Answered index later e = absurd (cc (e))

-- the element at a place is the first of those from there on
pub drop-place : (xs : List ℕ) (k x : ℕ) → k < length xs → x ≡ get_or xs k x → drop k xs ≡ x ∷ drop (k + 1) xs
drop-place xs k x within e =
    let more : suc k ≡ k + 1 = omega arith in
    drop-cons xs k x within ∙ ap (λ y. y ∷ drop (suc k) xs) (sym e) ∙ ap (λ n. x ∷ drop n xs) more

empty_list : (xs : List ℕ) (none : Bool) → (length xs == 0) ≡ none → not none ≡ false → xs ≡ []
empty_list [] none e n = refl
empty_list (x ∷ xs) true e n = let z : suc (length xs) ≡ 0 = eqb-true _ _ e in absurd (omega (arith, z))
empty_list (x ∷ xs) false e n = absurd (cc (n))

-- telling takes no memory only if no object differed
pub none_differed : (found : Checked) (stage : CheckStage) (later : List ℕ) → stage ≡ WritingBack later → later ≡ []
    → memory_is_taken_at found stage ≡ false → found.differed ≡ []
none_differed found stage later at none e =
    empty_list found.differed (length found.differed == 0) refl
    (ap (memory_is_taken_at found) (sym (at ∙ ap (λ (xs : List ℕ). WritingBack xs) none)) ∙ e)

-- what is left stays the same
pub with_left : (check : Check) (stage : CheckStage) → left_of stage ≡ left_of check.stage → IsCheck check
    → IsCheck (record check { stage = stage })
with_left check stage e is = record {
  vid = is.vid;
  spec = is.spec;
  ascending = subst IsStrictlyIncreasing (sym e) is.ascending;
  within = subst (All (λ index. index < OBJECTS_MAX)) (sym e) is.within;
  behind = subst (λ (left : List ℕ). All (λ oid. All (λ index. oid < object_number check.vid index) left) check.found.differed) (sym e) is.behind;
  count = subst (λ (left : List ℕ). check.found.objects + length left ≤ OBJECTS_MAX) (sym e) is.count;
}

tail-ascends : (x : ℕ) (xs : List ℕ) → IsStrictlyIncreasing (x ∷ xs) → IsStrictlyIncreasing xs
tail-ascends x xs ascend k within = AllPairs-from_increasing (x ∷ xs) ascend (suc k) (suc (k + 1)) 0 (omega arith) (omega (arith, within))

-- the object of the first of ascending indexes stands before the others
first-before : (vid x : ℕ) (xs : List ℕ) → IsStrictlyIncreasing (x ∷ xs) → All (λ index. object_number vid x < object_number vid index) xs
first-before vid x xs ascend k d within =
    let below : x < get_or xs k d = AllPairs-from_increasing (x ∷ xs) ascend zero (suc k) d (omega arith) (omega (arith, within)) in
    omega (arith, below)

-- an own object is compared
compared-behind : (vid index : ℕ) (later differed : List ℕ) (differs : Bool) → IsStrictlyIncreasing (index ∷ later)
    → All (λ oid. All (λ i. oid < object_number vid i) (index ∷ later)) differed
    → All (λ oid. All (λ i. oid < object_number vid i) later) (differed ++ cond differs (object_number vid index ∷ []) [])
compared-behind vid index later differed differs ascend behind =
    All-append (λ oid. All (λ i. oid < object_number vid i) later) differed (cond differs (object_number vid index ∷ []) [])
    (λ k d within. All-tail (λ i. get_or differed k d < object_number vid i) index later (behind k d within))
    (added differs)
  where
    added : (differs : Bool) → All (λ oid. All (λ i. oid < object_number vid i) later) (cond differs (object_number vid index ∷ []) [])
    added true =
        All-cons (λ oid. All (λ i. oid < object_number vid i) later) (object_number vid index) []
        (first-before vid index later ascend) (All-nil (λ oid. All (λ i. oid < object_number vid i) later))
    added false = All-nil (λ oid. All (λ i. oid < object_number vid i) later)

pub compared : (check : Check) (index : ℕ) (later : List ℕ) (found : Checked) (differs : Bool) → check.stage ≡ Comparing index later
    → found ≡ with_object (object_number check.vid index) differs check.found → IsCheck check
    → IsCheck (record check { found = found; stage = WritingBack later })
compared check index later found differs at e is =
    let left : left_of check.stage ≡ index ∷ later = ap left_of at in
    let ascend : IsStrictlyIncreasing (index ∷ later) = subst IsStrictlyIncreasing left is.ascending in
    let within : All (λ i. i < OBJECTS_MAX) (index ∷ later) = subst (All (λ i. i < OBJECTS_MAX)) left is.within in
    let behind : All (λ oid. All (λ i. oid < object_number check.vid i) (index ∷ later)) check.found.differed
    = subst (λ (xs : List ℕ). All (λ oid. All (λ i. oid < object_number check.vid i) xs) check.found.differed) left is.behind in
    let count : check.found.objects + suc (length later) ≤ OBJECTS_MAX
    = subst (λ (xs : List ℕ). check.found.objects + length xs ≤ OBJECTS_MAX) left is.count in
    subst (λ (f : Checked). IsCheck (record check { found = f; stage = WritingBack later })) (sym e) (record {
      vid = is.vid;
      spec = is.spec;
      ascending = tail-ascends index later ascend;
      within = All-tail (λ i. i < OBJECTS_MAX) index later within;
      behind = compared-behind check.vid index later check.found.differed differs ascend behind;
      count = omega (arith, count);
    })

-- the object that is compared stands behind the last one that differed
pub behind-last : (check : Check) (index : ℕ) (later : List ℕ) → check.stage ≡ Comparing index later → IsCheck check
    → IfSome (slice_get check.found.differed (length check.found.differed - 1)) (λ last. last < object_number check.vid index)
behind-last check index later at is =
    last check.found.differed (length check.found.differed - 1)
    (subst (λ (xs : List ℕ). All (λ oid. All (λ i. oid < object_number check.vid i) xs) check.found.differed) (ap left_of at) is.behind)
  where
    last : (xs : List ℕ) (k : ℕ) → All (λ oid. All (λ i. oid < object_number check.vid i) (index ∷ later)) xs
        → IfSome (slice_get xs k) (λ last. last < object_number check.vid index)
    last [] k behind = tt
    last (x ∷ xs) zero behind =
        All-head (λ i. x < object_number check.vid i) index later
        (All-head (λ oid. All (λ i. oid < object_number check.vid i) (index ∷ later)) x xs behind)
    last (x ∷ xs) (suc k) behind = last xs k (All-tail (λ oid. All (λ i. oid < object_number check.vid i) (index ∷ later)) x xs behind)

-- an own object's index is below the limit, and there is room to count it
pub index-within : (check : Check) (index : ℕ) (later : List ℕ) → check.stage ≡ Comparing index later → IsCheck check → index < OBJECTS_MAX
index-within check index later at is =
    All-head (λ i. i < OBJECTS_MAX) index later (subst (All (λ i. i < OBJECTS_MAX)) (ap left_of at) is.within)

-- ---- the steps

at_any_stage : (check : Check) (stage : CheckStage) (indexes : List ℕ) → check_on (record check { stage = stage }) indexes ≡ check_on check indexes
at_any_stage check stage [] = refl
at_any_stage check stage (index ∷ later) = refl

-- a check that begins
abbrev pub begun_with : ℕ → VdiSpec → ℕ → List ℕ → List ℕ → Check
begun_with vid spec inherited differed own = record {
  vid = vid;
  spec = spec;
  found = record { objects = 0; inherited = inherited; differed = differed };
  stage = WritingBack own;
}

pub check_on-begun : (inode : Content) (vid : ℕ) (spec : VdiSpec) (inherited : ℕ) (differed own : List ℕ) → vid ≡ inode.vid
    → spec ≡ inode.spec → inherited ≡ inherited_count inode → differed ≡ [] → own ≡ own_indexes inode
    → check_on (begun_with vid spec inherited differed own) own ≡ begin_check inode
unfolding begin_check
check_on-begun inode vid spec inherited differed own v s i d o =
    ap (λ vid. check_on (begun_with vid spec inherited differed own) own) v
    ∙ ap (λ spec. check_on (begun_with inode.vid spec inherited differed own) own) s
    ∙ ap (λ inherited. check_on (begun_with inode.vid inode.spec inherited differed own) own) i
    ∙ ap (λ differed. check_on (begun_with inode.vid inode.spec (inherited_count inode) differed own) own) d
    ∙ ap (λ own. check_on (begun_with inode.vid inode.spec (inherited_count inode) [] own) own) o
    ∙ at_any_stage (begun_check inode) (WritingBack (own_indexes inode)) (own_indexes inode)

pub begun-is : (inode : Content) (vid : ℕ) (spec : VdiSpec) (inherited : ℕ) (differed own : List ℕ) → IsVid vid → IsSpec spec
    → length inode.table ≤ OBJECTS_MAX → differed ≡ [] → own ≡ own_indexes inode → IsCheck (begun_with vid spec inherited differed own)
begun-is inode vid spec inherited differed own v s most none e = record {
  vid = v;
  spec = s;
  ascending = subst IsStrictlyIncreasing (sym e) (own_indexes-ascend inode);
  within = subst (All (λ index. index < OBJECTS_MAX)) (sym e) (λ k d inside. (below (own_indexes-own inode k d inside).0));
  behind = subst (All (λ oid. All (λ index. oid < object_number vid index) own)) (sym none) (All-nil (λ oid. All (λ index. oid < object_number vid index) own));
  count = subst (λ (xs : List ℕ). 0 + length xs ≤ OBJECTS_MAX) (sym e) few;
}
  where
    below : {n : ℕ} → n < length inode.table → n < OBJECTS_MAX
    below {n} less = omega (arith, less, most)

    few : 0 + length (own_indexes inode) ≤ OBJECTS_MAX
    few =
        let count : length (own_indexes inode) ≡ count_by (λ entry. entry == inode.vid) inode.table = own_indexes-count inode in
        let some : count_by (λ entry. entry == inode.vid) inode.table ≤ length inode.table = count_by-le-length (λ entry. entry == inode.vid) inode.table in
        omega (arith, count, some, most)

pub done-comparing : (check : Check) (bytes : List ℕ) (index : ℕ) (later : List ℕ) → check.stage ≡ Comparing index later
    → check_on_done bytes check ≡ Some (write_back_step check index (later_of check.stage) (pieces_in check.spec bytes))
unfolding check_on_done
done-comparing check bytes index later e =
    ap (check_done_at bytes check) e
    ∙ ap (λ (xs : List ℕ). Some (write_back_step check index xs (pieces_in check.spec bytes))) (sym (ap later_of e))

pub done-writing : (check : Check) (bytes : List ℕ) (later : List ℕ) → check.stage ≡ WritingBack later
    → check_on_done bytes check ≡ Some (check_on check (later_of check.stage))
unfolding check_on_done
done-writing check bytes later e = ap (check_done_at bytes check) e ∙ ap (λ (xs : List ℕ). Some (check_on check xs)) (sym (ap later_of e))

pub waits-writing : (stage : Stage) (later : List ℕ) (spec : VdiSpec) (n : ℕ) → ((index : ℕ) → stage ≡ stages.Comparing index → ⊥)
    → bytes_at spec (check_stage stage later) ≡ Some n → check_stage stage later ≡ WritingBack later
waits-writing (stages.Comparing index) later spec n other e = absurd (other index refl)
waits-writing stages.WritingBack later spec n other e = refl
waits-writing stages.Answered later spec n other e = absurd (cc (e))
