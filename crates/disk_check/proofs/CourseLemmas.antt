-- How a check goes: two works on each own object, and what it found in the end.
use Rattle.std.proofs.Common.{◌≡◌, ℕ, ◌+◌, Bool, true, false, cond, List, [], ◌∷◌, ◌++◌, length, map, filter, flat_map, Some, is_some, refl, sym, ap, ◌∙◌, append_assoc, append-nil, arith}
use Rattle.object_id.specs.Oid.{object_number}
use Rattle.inode.specs.Layout.{Content}
use Rattle.peer_proto.specs.declared.guest.Checked.{Checked}
use Rattle.disk_check.specs.declared.act.CheckAct.{CheckAct}
use Rattle.disk_check.specs.declared.act.CheckAct.TheVariants.{Reply}
use Rattle.disk_check.specs.Table.{own_indexes, inherited_count}
use Rattle.disk_check.specs.Value.{pieces_in, differ}
use Rattle.disk_check.specs.Check.{CheckStage, Comparing, WritingBack, Answered, Check, with_object, check_on, begun_check, begin_check, check_done_at, check_on_done, bytes_at, check_bytes_wanted}
use Rattle.disk_check.specs.Course.{check_acts_from, object_acts, object_answers, differed_among, findings}

-- a check of the inode's disk that found this so far
abbrev found_so_far : Content → Checked → CheckStage → Check
found_so_far inode found stage = record (begun_check inode) { found = found; stage = stage }

-- what is found with these own objects more
abbrev found_with : Content → (ℕ → List ℕ) → List ℕ → Checked → Checked
found_with inode given indexes found = record found {
  objects = found.objects + length indexes;
  differed = found.differed ++ differed_among inode given indexes;
}

same_checked : (inherited : ℕ) {m n : ℕ} {xs ys : List ℕ} → m ≡ n → xs ≡ ys
    → Reply (record { objects = m; inherited = inherited; differed = xs }) ≡ Reply (record { objects = n; inherited = inherited; differed = ys })
same_checked inherited {n = n} {xs = xs} counts objects =
    ap (λ k. Reply (record { objects = k; inherited = inherited; differed = xs })) counts
    ∙ ap (λ zs. Reply (record { objects = n; inherited = inherited; differed = zs })) objects

one_more : (inode : Content) (given : ℕ → List ℕ) (index : ℕ) (later before : List ℕ) (differs : Bool)
    → (before ++ cond differs (object_number inode.vid index ∷ []) []) ++ differed_among inode given later
    ≡ before ++ map (object_number inode.vid)
    (cond differs
    (index ∷ filter (λ index. differ inode.spec.policy (pieces_in inode.spec (given index))) later)
    (filter (λ index. differ inode.spec.policy (pieces_in inode.spec (given index))) later))
one_more inode given index later before true =
    append_assoc before (object_number inode.vid index ∷ []) (differed_among inode given later)
one_more inode given index later before false = ap (λ front. front ++ differed_among inode given later) (append-nil before)

acts_on : (inode : Content) (given : ℕ → List ℕ) (found : Checked) (stage : CheckStage) (indexes : List ℕ)
    → check_acts_from (Some (check_on (found_so_far inode found stage) indexes)) (flat_map (object_answers given) indexes)
    ≡ flat_map (object_acts inode given) indexes ++ Reply (found_with inode given indexes found) ∷ []
unfolding check_acts_from check_on_done
acts_on inode given found stage [] =
    ap (λ (act : CheckAct). act ∷ []) (same_checked found.inherited (omega arith) (sym (append-nil found.differed)))
acts_on inode given found stage (index ∷ later) =
    let differs : Bool = differ inode.spec.policy (pieces_in inode.spec (given index)) in
    ap (λ (acts : List CheckAct). object_acts inode given index ++ acts)
    (acts_on inode given (with_object (object_number inode.vid index) differs found) (WritingBack later) later
    ∙ ap (λ (act : CheckAct). flat_map (object_acts inode given) later ++ act ∷ [])
    (same_checked found.inherited (omega arith) (one_more inode given index later found.differed differs)))

pub check_acts-begin : (inode : Content) (given : ℕ → List ℕ)
    → check_acts_from (Some (begin_check inode)) (flat_map (object_answers given) (own_indexes inode))
    ≡ flat_map (object_acts inode given) (own_indexes inode) ++ Reply (findings inode given) ∷ []
unfolding begin_check
check_acts-begin inode given =
    acts_on inode given (begun_check inode).found Answered (own_indexes inode)
    ∙ ap (λ (act : CheckAct). flat_map (object_acts inode given) (own_indexes inode) ++ act ∷ [])
    (same_checked (inherited_count inode) (omega arith) refl)

done_waits : (bytes : List ℕ) (check : Check) (stage : CheckStage) → is_some (check_done_at bytes check stage) ≡ is_some (bytes_at check.spec stage)
done_waits bytes check (Comparing index later) = refl
done_waits bytes check (WritingBack later) = refl
done_waits bytes check Answered = refl

pub check_on_done-waits : (bytes : List ℕ) (check : Check) → is_some (check_on_done bytes check) ≡ is_some (check_bytes_wanted check)
unfolding check_on_done
check_on_done-waits bytes check = done_waits bytes check check.stage
