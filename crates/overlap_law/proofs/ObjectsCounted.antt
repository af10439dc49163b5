-- How many objects a script may make: no more than 2^14 + 1 for each of its requests, and an inode object for each id.
use Rattle.std.proofs.Common.{◌≡◌, ◌≢◌, ◌⊎◌, ⊎_elim, arith, ℕ, zero, suc, ◌+◌, ◌-◌, ◌*◌, ◌/◌, ◌^◌, ◌<◌, ◌≤◌, ◌==◌, Bool, true, false, cond}
use Rattle.std.proofs.Common.{T, List, [], ◌∷◌, ◌++◌, length, map, filter, flat_map, All, Contains, Some, refl, sym, ap, subst, ◌∙◌}
use Rattle.std.proofs.Common.{append-nil, append_assoc}
use Rattle.std.specs.Prelude.{nat_eq, count_by}
use Rattle.std.specs.declared.cmp.Ordering.TheVariants.{Less, Equal}
use Rattle.std.specs.Cmp.{nat_cmp_total, nat_eq_equiv}
use Rattle.std.specs.List.{AllByRecursion, IsDistinct, range_with_len}
use Rattle.std.specs.Ordering.{is_lt, nat_cmp}
use Rattle.std.specs.FinMap as tree
use Rattle.std.specs.FinMap.Entries.{below_all, is_sorted}
use Rattle.std.proofs.Math.Nat.{add-mul-div_right, pow-le-pow_right, div-mul-le_self}
use Rattle.std.proofs.lemmas.Nat.{le-div}
use Rattle.std.proofs.lemmas.Bool.{eqb-true, eq-eqb, ne_eqb, cases_eq}
use Rattle.std.proofs.lemmas.Cmp.{tied_itself}
use Rattle.std.proofs.lemmas.List.{length-append, length-map}
use Rattle.std.proofs.lemmas.List.FromFn.{length-range_with_len}
use Rattle.std.proofs.lemmas.List.Sums.{length-filter}
use Rattle.std.proofs.lemmas.List.Elements.{All-contains, All-weaker, Contains-append_left, Contains-append_right}
use Rattle.std.proofs.lemmas.Map.Made.{length-le_from_is_member, is_member-Decides}
use Rattle.std.proofs.lemmas.Option.{slice_get_within}
use Rattle.proof_tools.proofs.Booleans.{T_and_left, T_and_right}
use Rattle.proof_tools.proofs.FiniteMaps.{less_from_test}
use Rattle.proof_tools.proofs.Lists.{Contains-first, Contains-cons, Contains-map, Contains-flat_map}
use Rattle.object_id.specs.declared.limits.TheConstants.{REQUESTS_MAX, VID_MAX, WRITE_BYTES_MAX}
use Rattle.object_id.specs.Oid.{inode_number}
use Rattle.object_id.specs.Spec.{IsSpec}
use Rattle.cluster_script.specs.declared.statement.Statement.{Statement}
use Rattle.cluster_script.specs.declared.statement.Statement.TheVariants as lines
use Rattle.cluster_script.specs.Language.{MayStand, EachMayStand, IsScript}
use Rattle.cluster_script.specs.NumberedRequests.{request_at}
use Rattle.cluster_script.specs.Statements.{is_request, requests_of}
use Rattle.guest_driver.specs.Pieces.{pieces, piece_in, indexes, first_index, last_index}
use Rattle.inode.specs.Layout.{Content}
use Rattle.peer_proto.specs.declared.guest.DiskAsk.{DiskAsk}
use Rattle.peer_proto.specs.declared.guest.DiskAsk.TheVariants as disk_asks
use Rattle.overlap_law.proofs.ObjectsOfRequests.{own_object, objects_asked}

-- an object that was set apart for a request, or an inode object
abbrev pub IsSetApart : (ℕ → List ℕ) → ℕ → Type 0
IsSetApart made oid = ((req : ℕ) × Contains (made req) oid) ⊎ ((vid : ℕ) × (vid ≤ VID_MAX) × (oid ≡ inode_number vid))

-- ---- a list of distinct numbers in a list

apart_below : {X : Type 0} (x : ℕ) (es : List (ℕ × X)) → T (below_all nat_cmp x es)
    → AllByRecursion (λ y. nat_eq x y ≡ false) (map (λ (e : ℕ × X). e.0) es)
apart_below x [] below = tt
apart_below x (e ∷ es) below = (
  ne_eqb x e.0 (λ same.
      let less : nat_cmp x e.0 ≡ Less = less_from_test (nat_cmp x e.0)
      (T_and_left (is_lt (nat_cmp x e.0)) (below_all nat_cmp x es) below) in
      let tied : nat_cmp x x ≡ Equal = tied_itself nat_cmp_total x in
      let own : nat_cmp x x ≡ Less = ap (nat_cmp x) same ∙ less in
      absurd (cc (tied, own))),
  apart_below x es (T_and_right (is_lt (nat_cmp x e.0)) (below_all nat_cmp x es) below),
)

keys_apart : {X : Type 0} (es : List (ℕ × X)) → T (is_sorted nat_cmp es) → IsDistinct nat_eq (map (λ (e : ℕ × X). e.0) es)
unfolding IsDistinct
keys_apart [] sorted = tt
keys_apart (e ∷ es) sorted = (
  apart_below e.0 es (T_and_left (below_all nat_cmp e.0 es) (is_sorted nat_cmp es) sorted),
  keys_apart es (T_and_right (below_all nat_cmp e.0 es) (is_sorted nat_cmp es) sorted),
)

same_number : (a b : ℕ) → (nat_eq a b ≡ true → a ≡ b) × (a ≡ b → nat_eq a b ≡ true)
same_number a b = (eqb-true a b, eq-eqb a b)

keys_within : {X : Type 0} (m : tree.FinMap nat_cmp X) (all : List ℕ) → All (Contains all) (tree.keys m)
    → length (tree.keys m) ≤ length all
keys_within m all within =
    length-le_from_is_member nat_eq_equiv (tree.keys m) all (keys_apart (tree.entries m) (tree.entries_sorted m))
    (λ q member.
    (is_member-Decides same_number all q).1
    (All-contains (Contains all) (tree.keys m) q within ((is_member-Decides same_number (tree.keys m) q).0 member)))

-- ---- the list of all objects

module _ (made : ℕ → List ℕ) (requests ids : ℕ) where
  abbrev all_objects : List ℕ
  all_objects = flat_map made (range_with_len 1 requests) ++ map inode_number (range_with_len 0 ids)

  abbrev pub IsCounted : ℕ → Type 0
  IsCounted oid =
      ((req : ℕ) × (1 ≤ req) × (req < 1 + requests) × Contains (made req) oid) ⊎ ((vid : ℕ) × (vid < ids) × (oid ≡ inode_number vid))

  in_row : (first count k : ℕ) → first ≤ k → k < first + count → Contains (range_with_len first count) k
  in_row first zero k low high = absurd (omega (arith, low, high))
  in_row first (suc count) k low high = ⊎_elim
      (λ (own : k ≡ first). Contains-first first k (range_with_len (first + 1) count) (sym own))
      (λ (other : k ≢ first).
      let later : first + 1 ≤ k = above first k low other in
      Contains-cons first (range_with_len (first + 1) count) k (in_row (first + 1) count k later (omega (arith, high))))
      (cases_eq k first)
    where
      above : (a b : ℕ) → a ≤ b → b ≢ a → a + 1 ≤ b
      above a b low other = by_place (b == a) refl
        where
          by_place : (c : Bool) → (b == a) ≡ c → a + 1 ≤ b
          by_place true same = absurd (other (eqb-true b a same))
          by_place false apart = omega (arith, low, other)

  counted : (oid : ℕ) → IsCounted oid → Contains all_objects oid
  counted oid is = ⊎_elim
      (λ (of : (req : ℕ) × (1 ≤ req) × (req < 1 + requests) × Contains (made req) oid).
      let (req, low, high, there) = of in
      Contains-append_left (flat_map made (range_with_len 1 requests)) (map inode_number (range_with_len 0 ids)) oid
      (Contains-flat_map made (range_with_len 1 requests) req oid (in_row 1 requests req low high) there))
      (λ (of : (vid : ℕ) × (vid < ids) × (oid ≡ inode_number vid)).
      let (vid, high, same) = of in
      Contains-append_right (flat_map made (range_with_len 1 requests)) (map inode_number (range_with_len 0 ids)) oid
      (subst (Contains (map inode_number (range_with_len 0 ids))) (sym same)
      (Contains-map inode_number (range_with_len 0 ids) vid (in_row 0 ids vid (omega arith) (omega (arith, high))))))
      is

  made_length : (short : (req : ℕ) → length (made req) ≤ 16385) → (reqs : List ℕ) → length (flat_map made reqs) ≤ length reqs * 16385
  made_length short [] = omega arith
  made_length short (req ∷ reqs) =
      let one = short req in
      let rest = made_length short reqs in
      let both : length (made req ++ flat_map made reqs) ≡ length (made req) + length (flat_map made reqs)
      = length-append (made req) (flat_map made reqs) in
      omega (arith, one, rest, both)

  pub keys_few : {X : Type 0} (m : tree.FinMap nat_cmp X) → ((req : ℕ) → length (made req) ≤ 16385) → requests ≤ 10000 → ids ≤ 2 ^ 24
      → All IsCounted (tree.keys m) → length (tree.keys m) < 2 ^ 29
  keys_few m short few small all =
      let within : length (tree.keys m) ≤ length all_objects
      = keys_within m all_objects (All-weaker IsCounted (Contains all_objects) counted (tree.keys m) all) in
      let row : length (range_with_len 1 requests) ≡ requests = length-range_with_len 1 requests in
      let first = made_length short (range_with_len 1 requests) in
      let second : length (map inode_number (range_with_len 0 ids)) ≡ ids
      = length-map (range_with_len 0 ids) inode_number ∙ length-range_with_len 0 ids in
      let sum : length all_objects ≡ length (flat_map made (range_with_len 1 requests)) + length (map inode_number (range_with_len 0 ids))
      = length-append (flat_map made (range_with_len 1 requests)) (map inode_number (range_with_len 0 ids)) in
      omega (arith, within, row, first, second, sum, few, small)

-- ---- the requests of a script

fits : (first : List Statement) (s : Statement) → count_by is_request first ≤ REQUESTS_MAX → MayStand first s
    → count_by is_request first + cond (is_request s) 1 0 ≤ REQUESTS_MAX
fits first (lines.Create session policy shift name size) so_far may = let room = may.0.room in omega (arith, room)
fits first (lines.OpenDisk session name tag) so_far may = let room = may.0.room in omega (arith, room)
fits first (lines.Close session) so_far may = let room = may.room in omega (arith, room)
fits first (lines.Read session offset size) so_far may = let room = may.0.room in omega (arith, room)
fits first (lines.Write session offset size pattern) so_far may = let room = may.0.room in omega (arith, room)
fits first (lines.Snapshot session tag) so_far may = let room = may.0.room in omega (arith, room)
fits first (lines.Clone session base tag name) so_far may = let room = may.0.room in omega (arith, room)
fits first (lines.Delete session name tag) so_far may = let room = may.0.room in omega (arith, room)
fits first (lines.Check session) so_far may = let room = may.0.room in omega (arith, room)
fits first s so_far may = omega (arith, so_far)

requests_stay : (before rest : List Statement) → count_by is_request before ≤ REQUESTS_MAX → EachMayStand before rest
    → count_by is_request (before ++ rest) ≤ REQUESTS_MAX
requests_stay before [] so_far each =
    subst (λ (b : List Statement). count_by is_request b ≤ REQUESTS_MAX) (sym (append-nil before)) so_far
requests_stay before (s ∷ rest) so_far each =
    let one = fits before s so_far each.0 in
    let more : length (filter is_request (before ++ s ∷ [])) ≡ length (filter is_request before) + length (filter is_request (s ∷ []))
    = ap length (filter_append before (s ∷ [])) ∙ length-append (filter is_request before) (filter is_request (s ∷ [])) in
    subst (λ (b : List Statement). count_by is_request b ≤ REQUESTS_MAX) (append_assoc before (s ∷ []) rest)
    (requests_stay (before ++ s ∷ []) rest
    (let all = length-filter is_request (before ++ s ∷ []) in
    let first = length-filter is_request before in
    let last = length-filter is_request (s ∷ []) in
    omega (arith, one, more, all, first, last)) each.1)
  where
    filter_append : (xs ys : List Statement) → filter is_request (xs ++ ys) ≡ filter is_request xs ++ filter is_request ys
    filter_append [] ys = refl
    filter_append (x ∷ xs) ys = by_test (is_request x) (filter_append xs ys)
      where
        by_test : (b : Bool) → filter is_request (xs ++ ys) ≡ filter is_request xs ++ filter is_request ys
            → cond b (x ∷ filter is_request (xs ++ ys)) (filter is_request (xs ++ ys))
            ≡ cond b (x ∷ filter is_request xs) (filter is_request xs) ++ filter is_request ys
        by_test true rest = ap (λ (list : List Statement). x ∷ list) rest
        by_test false rest = rest

pub few_requests : (script : List Statement) → IsScript script → length (requests_of script) ≤ 10000
few_requests script is_script =
    let most : count_by is_request script ≤ REQUESTS_MAX = requests_stay [] script (omega arith) is_script in
    let same = length-filter is_request script in
    omega (arith, most, same)

-- a request's number is one of these
pub number_of_request : (script : List Statement) (req : ℕ) (line : Statement) → request_at script req ≡ Some line
    → (1 ≤ req) × (req < 1 + length (requests_of script))
number_of_request script zero line at = absurd (cc (at))
number_of_request script (suc place) line at =
    let within : place < length (requests_of script) = slice_get_within (requests_of script) place line at in
    (omega arith, omega (arith, within))

-- ---- the objects of a write

-- so many objects have bytes of a write in common: one more than it has whole ones
few_touched : (n offset size : ℕ) → 4096 ≤ n → size ≤ 2 ^ 26 → (offset + size - 1) / n + 1 - offset / n ≤ 16385
few_touched n offset size big small =
    let some : 0 < n = omega (arith, big) in
    let enough : offset + size - 1 ≤ offset + 16384 * n = omega (arith, big, small) in
    let least : (offset + size - 1) / n ≤ (offset + 16384 * n) / n
    = le-div ((offset + size - 1) / n) (offset + 16384 * n) n some (within_times enough) in
    let more : (offset + 16384 * n) / n ≡ offset / n + 16384 = add-mul-div_right offset 16384 some in
    omega (arith, least, more)
  where
    within_times : offset + size - 1 ≤ offset + 16384 * n → (offset + size - 1) / n * n ≤ offset + 16384 * n
    within_times enough =
        let down = div-mul-le_self (offset + size - 1) n in
        omega (arith, down, enough)

length-pieces : (shift offset size : ℕ) → length (pieces shift offset size) ≡ last_index shift offset size + 1 - first_index shift offset
unfolding pieces
length-pieces shift offset size =
    length-map (indexes shift offset size) (piece_in shift offset size)
    ∙ length-range_with_len (first_index shift offset) (last_index shift offset size + 1 - first_index shift offset)

-- how many bytes are written
abbrev pub bytes_written : DiskAsk → ℕ
bytes_written (disk_asks.Read offset size) = 0
bytes_written (disk_asks.Write offset payload) = length payload

pub few_asked : (inode : Content) (ask : DiskAsk) → IsSpec inode.spec → bytes_written ask ≤ WRITE_BYTES_MAX
    → length (objects_asked inode ask) ≤ 16385
few_asked inode (disk_asks.Read offset size) is small = omega arith
few_asked inode (disk_asks.Write offset payload) is small =
    let shift : 12 ≤ inode.spec.shift = is.shift.0 in
    let some : 0 < 2 = omega arith in
    let big : 2 ^ 12 ≤ 2 ^ inode.spec.shift = pow-le-pow_right some shift in
    let touched = few_touched (2 ^ inode.spec.shift) offset (length payload) (omega (arith, big)) (omega (arith, small)) in
    let long = length-map (pieces inode.spec.shift offset (length payload)) (own_object inode.vid) in
    let same = length-pieces inode.spec.shift offset (length payload) in
    omega (arith, touched, long, same)
