-- The pages of a row: a list by ascending number. One that isn't there is zeros.
use Rattle.std.specs.Prelude.{◌≡◌, ℕ, ◌+◌, ◌<◌, ◌≤◌, ◌/◌, ◌%◌, Bool, true, List, map, slice_index, unwrap_or, nat_eq}
use Rattle.std.specs.List.{list_any, range_with_len}
use Rattle.std.specs.Map.{lookup}
use Rattle.std.specs.BTreeMap.{is_at}
use Rattle.std.specs.Ordering.{nat_cmp}
use Rattle.object_id.specs.Fields.{zeros}
use Rattle.page_store.specs.declared.page.TheConstants.{PAGE_BYTES}

abbrev pub Pages : Type 0
Pages = List (ℕ × List ℕ)

-- the page of a number
abbrev pub page_of : Pages → ℕ → List ℕ
page_of pages number = unwrap_or (lookup (is_at (nat_cmp number)) pages) (zeros PAGE_BYTES)

-- the byte at a place: that of its page, at what is left of the place
abbrev pub row_byte_at : Pages → ℕ → ℕ
row_byte_at pages place = slice_index (page_of pages (place / PAGE_BYTES)) (place % PAGE_BYTES)

-- the bytes of a row of this length
abbrev pub row_bytes_in : ℕ → Pages → List ℕ
row_bytes_in size pages = map (row_byte_at pages) (range_with_len 0 size)

-- a row's bytes, and the numbers of the pages that are there
pub record KeptPages : Type 0 where
  pub bytes : List ℕ
  pub pages : List ℕ

-- whether the page of a number is among those
abbrev pub has_page : ℕ → List ℕ → Bool
has_page number pages = list_any (λ page. nat_eq page number) pages

-- each place of the n bytes from offset on is in a page that is there
abbrev pub HasPages : List ℕ → ℕ → ℕ → Type 0
HasPages pages offset n = (place : ℕ) → offset ≤ place → place < offset + n → has_page (place / PAGE_BYTES) pages ≡ true

-- each page that was there is there
abbrev pub KeepsPages : List ℕ → List ℕ → Type 0
KeepsPages old new = (number : ℕ) → has_page number old ≡ true → has_page number new ≡ true

abbrev pub page_bytes : KeptPages → List ℕ
page_bytes kept = kept.bytes

-- the pages of the n bytes from offset on are there
abbrev pub HasPagesKept : KeptPages → ℕ → ℕ → Type 0
HasPagesKept kept offset n = HasPages kept.pages offset n
