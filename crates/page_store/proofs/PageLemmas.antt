-- The bytes of a row, where its pages are read, added and written.
use Rattle.std.proofs.Common.{◌≡◌, ℕ, ◌+◌, ◌-◌, ◌*◌, ◌<◌, ◌≤◌, ◌/◌, ◌%◌, Bool, true, false, cond, ◌||◌, nat_lt, List, [], ◌∷◌, ◌++◌, length, take, drop, get_or, Option, Some, None, IsSome, is_some, unwrap_or, refl, ap, sym, ◌∙◌, subst, arith, div-add-mod'}
use Rattle.std.proofs.lemmas.Nat.{div-mul-add, mod-mul-add}
use Rattle.std.proofs.lemmas.Bool.Decides.{nat_tests}
use Rattle.std.proofs.lemmas.List.{length-replicate, get_or-replicate, ext_get_or, take-append-drop, length-drop, get_or-drop}
use Rattle.std.proofs.lemmas.List.FromFn.{length-map-range_with_len, get_or-map-range_with_len}
use Rattle.std.specs.Ordering.{is_lt, nat_cmp}
use Rattle.std.specs.Map.{lookup, keys_of}
use Rattle.std.proofs.lemmas.Map.Keys.{ge_from_not_lt}
use Rattle.std.specs.BTreeMap.{is_at}
use Rattle.proof_tools.proofs.FiniteMaps.{is_at-true, is_at-same, is_at-turned}
use Rattle.object_id.specs.Piece.{laid_over}
use Rattle.object_id.specs.Fields.{zeros}
use Rattle.object_store.specs.Bytes.{piece_at, trimmed_bytes}
use Rattle.object_store.proofs.ByteLemmas.{trimmed_bytes-append_zeros}
use Rattle.page_store.specs.declared.page.TheConstants.{PAGE_BYTES}
use Rattle.page_store.specs.Pages.{Pages, page_of, row_byte_at, row_bytes_in, has_page, HasPages, KeepsPages}
use Rattle.page_store.proofs.PieceLemmas.{length-piece_at, get_or-piece_at, length-laid_over, laid_over-inside, laid_over-before, laid_over-behind}

-- ---- places

-- a place by its page
pub place_is : (place : ℕ) → place / PAGE_BYTES * PAGE_BYTES + place % PAGE_BYTES ≡ place
place_is place = div-add-mod' place PAGE_BYTES

pub rest_is_small : (place : ℕ) → place % PAGE_BYTES < PAGE_BYTES
rest_is_small place = omega arith

-- places of one page
pub same_page : (place k : ℕ) → place % PAGE_BYTES + k < PAGE_BYTES → (place + k) / PAGE_BYTES ≡ place / PAGE_BYTES
same_page place k inside =
    let sum : place + k ≡ place / PAGE_BYTES * PAGE_BYTES + (place % PAGE_BYTES + k) = omega (arith, place_is place) in
    ap (λ n. n / PAGE_BYTES) sum ∙ div-mul-add (place / PAGE_BYTES) PAGE_BYTES (place % PAGE_BYTES + k) inside

pub same_page_rest : (place k : ℕ) → place % PAGE_BYTES + k < PAGE_BYTES → (place + k) % PAGE_BYTES ≡ place % PAGE_BYTES + k
same_page_rest place k inside =
    let sum : place + k ≡ place / PAGE_BYTES * PAGE_BYTES + (place % PAGE_BYTES + k) = omega (arith, place_is place) in
    ap (λ n. n % PAGE_BYTES) sum ∙ mod-mul-add (place / PAGE_BYTES) PAGE_BYTES (place % PAGE_BYTES + k) inside

-- ---- the bytes of a row

pub length-row_bytes_in : (size : ℕ) (pages : Pages) → length (row_bytes_in size pages) ≡ size
length-row_bytes_in size pages = length-map-range_with_len (row_byte_at pages) 0 size

pub get_or-row_bytes_in : (size : ℕ) (pages : Pages) (k : ℕ) → k < size → get_or (row_bytes_in size pages) k 0 ≡ row_byte_at pages k
get_or-row_bytes_in size pages k inside = get_or-map-range_with_len (row_byte_at pages) 0 size k k 0 inside (omega arith)

-- rows of one length whose places hold the same
pub same_bytes_in : (size : ℕ) (old new : Pages) → ((k : ℕ) → row_byte_at new k ≡ row_byte_at old k) → row_bytes_in size new ≡ row_bytes_in size old
same_bytes_in size old new same =
    ext_get_or 0 (row_bytes_in size new) (row_bytes_in size old) (length-row_bytes_in size new ∙ sym (length-row_bytes_in size old))
    (λ k below. let inside : k < size = omega (arith, length-row_bytes_in size new) in
    get_or-row_bytes_in size new k inside ∙ same k ∙ sym (get_or-row_bytes_in size old k inside))

zero_byte : (k : ℕ) → get_or (zeros PAGE_BYTES) (k % PAGE_BYTES) 0 ≡ 0
zero_byte k = get_or-replicate PAGE_BYTES (k % PAGE_BYTES) 0 0 (rest_is_small k)

pub row_bytes_in-none : (size : ℕ) (pages : Pages) → pages ≡ [] → row_bytes_in size pages ≡ zeros size
row_bytes_in-none size pages none =
    ap (row_bytes_in size) none
    ∙ ext_get_or 0 (row_bytes_in size []) (zeros size) (length-row_bytes_in size [] ∙ sym (length-replicate size 0))
    (λ k below. let inside : k < size = omega (arith, length-row_bytes_in size []) in
    get_or-row_bytes_in size [] k inside ∙ zero_byte k ∙ sym (get_or-replicate size k 0 0 inside))

-- a piece that ends in its page is the page's
pub piece_at-page : (size place n : ℕ) (pages : Pages) → place + n ≤ size → place % PAGE_BYTES + n ≤ PAGE_BYTES → length (page_of pages (place / PAGE_BYTES)) ≡ PAGE_BYTES
    → piece_at (page_of pages (place / PAGE_BYTES)) (place % PAGE_BYTES) n ≡ piece_at (row_bytes_in size pages) place n
piece_at-page size place n pages fits inside whole =
    ext_get_or 0 (piece_at page (place % PAGE_BYTES) n) (piece_at (row_bytes_in size pages) place n) (long ∙ sym (length-piece_at (row_bytes_in size pages) place n (omega (arith, length-row_bytes_in size pages)))) each_byte
  where
    page : List ℕ
    page = page_of pages (place / PAGE_BYTES)

    long : length (piece_at page (place % PAGE_BYTES) n) ≡ n
    long = length-piece_at page (place % PAGE_BYTES) n (omega (arith, whole))

    each_byte : (k : ℕ) → k < length (piece_at page (place % PAGE_BYTES) n) → get_or (piece_at page (place % PAGE_BYTES) n) k 0 ≡ get_or (piece_at (row_bytes_in size pages) place n) k 0
    each_byte k below =
        let small : k < n = omega (arith, long) in
        let near : place % PAGE_BYTES + k < PAGE_BYTES = omega arith in
        get_or-piece_at page (place % PAGE_BYTES) n k small
        ∙ sym (get_or-piece_at (row_bytes_in size pages) place n k small ∙ get_or-row_bytes_in size pages (place + k) (omega arith)
        ∙ ap (λ q. get_or (page_of pages q) ((place + k) % PAGE_BYTES) 0) (same_page place k near)
        ∙ ap (λ r. get_or page r 0) (same_page_rest place k near))

-- ---- a page is written

module _ (size place : ℕ) (piece : List ℕ) (old new : Pages) (fits : place + length piece ≤ size) (inside : place % PAGE_BYTES + length piece ≤ PAGE_BYTES)
    (whole : length (page_of old (place / PAGE_BYTES)) ≡ PAGE_BYTES)
    (step : (q : ℕ) → page_of new q ≡ cond (is_at (nat_cmp (place / PAGE_BYTES)) q) (laid_over (page_of old (place / PAGE_BYTES)) (place % PAGE_BYTES) piece) (page_of old q)) where
  start : ℕ
  start = place % PAGE_BYTES

  page : List ℕ
  page = page_of old (place / PAGE_BYTES)

  laid_in_page : start + length piece ≤ length page
  unfolding start page
  laid_in_page = omega (arith, whole, inside)

  written : (k : ℕ) → is_at (nat_cmp (place / PAGE_BYTES)) (k / PAGE_BYTES) ≡ true → row_byte_at new k ≡ get_or (laid_over page start piece) (k % PAGE_BYTES) 0
  unfolding start page
  written k at = ap (λ (bytes : List ℕ). get_or bytes (k % PAGE_BYTES) 0) (step (k / PAGE_BYTES) ∙ ap (λ b. cond b (laid_over page start piece) (page_of old (k / PAGE_BYTES))) at)

  elsewhere : (k : ℕ) → is_at (nat_cmp (place / PAGE_BYTES)) (k / PAGE_BYTES) ≡ false → row_byte_at new k ≡ row_byte_at old k
  unfolding start page
  elsewhere k other = ap (λ (bytes : List ℕ). get_or bytes (k % PAGE_BYTES) 0) (step (k / PAGE_BYTES) ∙ ap (λ b. cond b (laid_over page start piece) (page_of old (k / PAGE_BYTES))) other)

  -- a byte of the page beside the piece
  beside : (k : ℕ) → is_at (nat_cmp (place / PAGE_BYTES)) (k / PAGE_BYTES) ≡ true → get_or (laid_over page start piece) (k % PAGE_BYTES) 0 ≡ get_or page (k % PAGE_BYTES) 0
      → row_byte_at new k ≡ row_byte_at old k
  unfolding page
  beside k at same = written k at ∙ same ∙ ap (λ q. get_or (page_of old q) (k % PAGE_BYTES) 0) (is_at-true (place / PAGE_BYTES) (k / PAGE_BYTES) at)

  before : (k : ℕ) → k < place → row_byte_at new k ≡ row_byte_at old k
  unfolding start
  before k early = go (is_at (nat_cmp (place / PAGE_BYTES)) (k / PAGE_BYTES)) refl
    where
      go : (b : Bool) → is_at (nat_cmp (place / PAGE_BYTES)) (k / PAGE_BYTES) ≡ b → row_byte_at new k ≡ row_byte_at old k
      go false other = elsewhere k other
      go true at =
          let same = is_at-true (place / PAGE_BYTES) (k / PAGE_BYTES) at in
          beside k at (laid_over-before page start piece laid_in_page (k % PAGE_BYTES) (omega (arith, same, place_is k, place_is place)))

  behind : (k : ℕ) → place + length piece ≤ k → row_byte_at new k ≡ row_byte_at old k
  unfolding start
  behind k late = go (is_at (nat_cmp (place / PAGE_BYTES)) (k / PAGE_BYTES)) refl
    where
      go : (b : Bool) → is_at (nat_cmp (place / PAGE_BYTES)) (k / PAGE_BYTES) ≡ b → row_byte_at new k ≡ row_byte_at old k
      go false other = elsewhere k other
      go true at =
          let same = is_at-true (place / PAGE_BYTES) (k / PAGE_BYTES) at in
          beside k at (laid_over-behind page start piece laid_in_page (k % PAGE_BYTES) (omega (arith, same, place_is k, place_is place)))

  within : (i : ℕ) → i < length piece → row_byte_at new (place + i) ≡ get_or piece i 0
  unfolding start
  within i small =
      let near : place % PAGE_BYTES + i < PAGE_BYTES = omega (arith, inside) in
      written (place + i) (ap (is_at (nat_cmp (place / PAGE_BYTES))) (same_page place i near) ∙ is_at-same (place / PAGE_BYTES))
      ∙ ap (λ r. get_or (laid_over page start piece) r 0) (same_page_rest place i near)
      ∙ laid_over-inside page start piece laid_in_page i small

  -- then the piece is laid over the row's bytes
  pub row_bytes_in-written : row_bytes_in size new ≡ laid_over (row_bytes_in size old) place piece
  row_bytes_in-written =
      ext_get_or 0 (row_bytes_in size new) (laid_over (row_bytes_in size old) place piece)
      (length-row_bytes_in size new ∙ sym (length-laid_over (row_bytes_in size old) place piece laid_in ∙ length-row_bytes_in size old))
      (λ k below. get_or-row_bytes_in size new k (omega (arith, length-row_bytes_in size new))
      ∙ go k (omega (arith, length-row_bytes_in size new)) (nat_lt k place) refl (nat_lt k (place + length piece)) refl)
    where
      laid_in : place + length piece ≤ length (row_bytes_in size old)
      laid_in = omega (arith, fits, length-row_bytes_in size old)

      go : (k : ℕ) → k < size → (a : Bool) → nat_lt k place ≡ a → (b : Bool) → nat_lt k (place + length piece) ≡ b
          → row_byte_at new k ≡ get_or (laid_over (row_bytes_in size old) place piece) k 0
      go k small true early b e =
          let left : k < place = grind (arith, nat_tests) in
          before k left ∙ sym (laid_over-before (row_bytes_in size old) place piece laid_in k left ∙ get_or-row_bytes_in size old k small)
      go k small false from true upto =
          let at : place ≤ k = grind (arith, nat_tests) in
          let below : k < place + length piece = grind (arith, nat_tests) in
          let back : place + (k - place) ≡ k = omega arith in
          let inner : k - place < length piece = omega arith in
          ap (row_byte_at new) (sym back) ∙ within (k - place) inner
          ∙ sym (ap (λ n. get_or (laid_over (row_bytes_in size old) place piece) n 0) (sym back) ∙ laid_over-inside (row_bytes_in size old) place piece laid_in (k - place) inner)
      go k small false from false past =
          let late : place + length piece ≤ k = grind (arith, nat_tests) in
          behind k late ∙ sym (laid_over-behind (row_bytes_in size old) place piece laid_in k late ∙ get_or-row_bytes_in size old k small)

-- ---- pages that are there

-- a page is there where a lookup finds it
pub has_page-keys_of : (number : ℕ) (pages : Pages) → has_page number (keys_of pages) ≡ is_some (lookup (is_at (nat_cmp number)) pages)
has_page-keys_of number [] = refl
has_page-keys_of number (e ∷ pages) =
    ap (λ b. b || has_page number (keys_of pages)) (sym (is_at-turned number e.0))
    ∙ go (is_at (nat_cmp number) e.0) (has_page-keys_of number pages)
  where
    go : (b : Bool) → has_page number (keys_of pages) ≡ is_some (lookup (is_at (nat_cmp number)) pages)
        → (b || has_page number (keys_of pages)) ≡ is_some (cond b (Some e.1) (lookup (is_at (nat_cmp number)) pages))
    go true rest = refl
    go false rest = rest

-- a page takes the place of that of its number
abbrev pub IsPutIn : Pages → Pages → ℕ → List ℕ → Type 0
IsPutIn old new number page = (q : ℕ) → lookup (is_at (nat_cmp q)) new ≡ cond (is_at (nat_cmp number) q) (Some page) (lookup (is_at (nat_cmp q)) old)

pub page_of-put : (old new : Pages) (number : ℕ) (page : List ℕ) → IsPutIn old new number page
    → (q : ℕ) → page_of new q ≡ cond (is_at (nat_cmp number) q) page (page_of old q)
page_of-put old new number page put q = ap (λ o. unwrap_or o (zeros PAGE_BYTES)) (put q) ∙ go (is_at (nat_cmp number) q)
  where
    go : (b : Bool) → unwrap_or (cond b (Some page) (lookup (is_at (nat_cmp q)) old)) (zeros PAGE_BYTES) ≡ cond b page (page_of old q)
    go true = refl
    go false = refl

pub page_of-found : (pages : Pages) (number : ℕ) (bytes : List ℕ) → lookup (is_at (nat_cmp number)) pages ≡ Some bytes → page_of pages number ≡ bytes
page_of-found pages number bytes found = ap (λ o. unwrap_or o (zeros PAGE_BYTES)) found

pub page_of-none : (pages : Pages) (number : ℕ) → lookup (is_at (nat_cmp number)) pages ≡ None → page_of pages number ≡ zeros PAGE_BYTES
page_of-none pages number none = ap (λ o. unwrap_or o (zeros PAGE_BYTES)) none

pub none_there : {X : Type 0} (o : Option X) → is_some o ≡ false → o ≡ None
none_there None none = refl
none_there (Some x) none = absurd (cc)

pub some_there : {X : Type 0} (o : Option X) → is_some o ≡ true → o ≡ None → ⊥
some_there o some none = absurd (cc (some, none))

-- a page of zeros is added where none was
module _ (size number : ℕ) (page : List ℕ) (old new : Pages) (is_zeros : page ≡ zeros PAGE_BYTES) (none : lookup (is_at (nat_cmp number)) old ≡ None)
    (put : IsPutIn old new number page) where
  same_pages : (q : ℕ) → page_of new q ≡ page_of old q
  same_pages q = page_of-put old new number page put q ∙ go (is_at (nat_cmp number) q) refl
    where
      go : (b : Bool) → is_at (nat_cmp number) q ≡ b → cond b page (page_of old q) ≡ page_of old q
      go true at =
          is_zeros ∙ sym (page_of-none old number none) ∙ ap (page_of old) (is_at-true number q at)
      go false other = refl

  pub row_bytes_in-added : row_bytes_in size new ≡ row_bytes_in size old
  row_bytes_in-added = same_bytes_in size old new (λ k. ap (λ (bytes : List ℕ). get_or bytes (k % PAGE_BYTES) 0) (same_pages (k / PAGE_BYTES)))

  pub KeepsPages-added : KeepsPages (keys_of old) (keys_of new)
  KeepsPages-added q had =
      has_page-keys_of q new ∙ ap is_some (put q) ∙ go (is_at (nat_cmp number) q) (sym (has_page-keys_of q old) ∙ had)
    where
      go : (b : Bool) → is_some (lookup (is_at (nat_cmp q)) old) ≡ true → is_some (cond b (Some page) (lookup (is_at (nat_cmp q)) old)) ≡ true
      go true there = refl
      go false there = there

  pub has_page-added : has_page number (keys_of new) ≡ true
  has_page-added =
      has_page-keys_of number new ∙ ap is_some (put number)
      ∙ ap (λ b. is_some (cond b (Some page) (lookup (is_at (nat_cmp number)) old))) (is_at-same number)

-- the pages so far, and those of one page more
pub HasPages-more : (old new : List ℕ) (offset done n : ℕ) → HasPages old offset done → KeepsPages old new
    → has_page ((offset + done) / PAGE_BYTES) new ≡ true → (offset + done) % PAGE_BYTES + n ≤ PAGE_BYTES → HasPages new offset (done + n)
HasPages-more old new offset done n had keeps there inside place from upto = go (nat_lt place (offset + done)) refl
  where
    go : (b : Bool) → nat_lt place (offset + done) ≡ b → has_page (place / PAGE_BYTES) new ≡ true
    go true early = keeps (place / PAGE_BYTES) (had place from (grind (arith, nat_tests)))
    go false late =
        let behind : offset + done ≤ place = grind (arith, nat_tests) in
        let back : offset + done + (place - (offset + done)) ≡ place = omega arith in
        subst (λ q. has_page q new ≡ true) (sym (same_page (offset + done) (place - (offset + done)) (omega arith)) ∙ ap (λ n. n / PAGE_BYTES) back) there

-- behind the last page that is there all bytes are 0
pub row_byte_at-past : (pages : Pages) (last k : ℕ) → ((q : ℕ) → IsSome (lookup (is_at (nat_cmp q)) pages) → is_lt (nat_cmp last q) ≡ false)
    → (last + 1) * PAGE_BYTES ≤ k → row_byte_at pages k ≡ 0
row_byte_at-past pages last k greatest behind = go (lookup (is_at (nat_cmp (k / PAGE_BYTES))) pages) refl
  where
    go : (o : Option (List ℕ)) → lookup (is_at (nat_cmp (k / PAGE_BYTES))) pages ≡ o → row_byte_at pages k ≡ 0
    go None none = ap (λ (bytes : List ℕ). get_or bytes (k % PAGE_BYTES) 0) (page_of-none pages (k / PAGE_BYTES) none) ∙ zero_byte k
    go (Some bytes) found =
        let near : k / PAGE_BYTES ≤ last = ge_from_not_lt last (k / PAGE_BYTES) (greatest (k / PAGE_BYTES) (subst IsSome (sym found) refl)) in
        absurd (omega (arith, place_is k, rest_is_small k, near, behind))

pub none_kept : {X Y : Type 0} (xs : List X) (o : Option Y) → o ≡ None → (0 < length xs → IsSome o) → xs ≡ []
none_kept [] o none some = refl
none_kept (x ∷ xs) o none some = absurd (some_there o (some (omega arith)) none)

-- bytes that are 0 are left out at the end
pub trimmed_bytes-end : (size end : ℕ) (pages : Pages) → end ≤ size → ((k : ℕ) → end ≤ k → row_byte_at pages k ≡ 0)
    → trimmed_bytes (take end (row_bytes_in size pages)) ≡ trimmed_bytes (row_bytes_in size pages)
trimmed_bytes-end size end pages within zero =
    sym (ap trimmed_bytes (sym (take-append-drop end bytes) ∙ ap (λ (rest : List ℕ). take end bytes ++ rest) rest_is)
    ∙ trimmed_bytes-append_zeros (take end bytes) (size - end))
  where
    bytes : List ℕ
    bytes = row_bytes_in size pages

    long : length (drop end bytes) ≡ size - end
    long = length-drop end bytes ∙ ap (λ n. n - end) (length-row_bytes_in size pages)

    rest_is : drop end bytes ≡ zeros (size - end)
    rest_is =
        ext_get_or 0 (drop end bytes) (zeros (size - end)) (long ∙ sym (length-replicate (size - end) 0))
        (λ k below. let inside : k < size - end = omega (arith, long) in
        get_or-drop end bytes k 0 ∙ get_or-row_bytes_in size pages (end + k) (omega arith) ∙ zero (end + k) (omega arith) ∙ sym (get_or-replicate (size - end) k 0 0 inside))
