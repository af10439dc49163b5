-- What the checker keeps, and what it shows of the ledger.
use Rattle.std.specs.Prelude.{◌≡◌, ℕ, ◌==◌, ◌<◌, Bool, true, false, not, ◌||◌, List, [], ◌∷◌, ◌++◌, length, reverse, Option, Some, None}
use Rattle.std.specs.Prelude.{nat_lt, if◌then◌else◌}
use Rattle.std.specs.Option.{option_map, option_map_or}
use Rattle.std.specs.Ordering.{nat_cmp, ordering_then}
use Rattle.std.specs.declared.cmp.Ordering.{Ordering}
use Rattle.std.specs.Str.{bytes_eq}
use Rattle.std.specs.List.{list_any}
use Rattle.std.specs.BTreeMap.{get, is_at, Updates, BTreeMap}
use Rattle.disk_history.specs.declared.requests.Fate.{Fate}
use Rattle.disk_history.specs.declared.requests.Fate.TheVariants.{Unanswered, Done, Refused, Abandoned}
use Rattle.disk_history.specs.declared.requests.RequestState.{RequestState}
use Rattle.disk_history.specs.declared.requests.Requests.{Requests}
use Rattle.disk_history.specs.declared.requests.Place.{Place}
use Rattle.disk_history.specs.declared.writes.Write.{Write}
use Rattle.disk_history.specs.declared.disks.DiskState.{DiskState}
use Rattle.disk_history.specs.Ledger.{Open, Acknowledged, Lost, Item, Disk, WriteRequest, zeros_item}
use Rattle.disk_history.specs.Legal.{standing, is_torn, has_begun_to_write}

-- what became of each request; one that hasn't begun is unanswered
abbrev pub fate_of : Requests → ℕ → Fate
fate_of requests req = option_map_or (λ (state : RequestState). state.fate) (get nat_cmp requests.states req) Unanswered

-- whether a request has ended
abbrev pub is_answer : Fate → Bool
is_answer Unanswered = false
is_answer Done = true
is_answer Refused = true
is_answer Abandoned = true

-- whether a request has begun and not ended, by its state
abbrev pub may_end_in : Option RequestState → Bool
may_end_in found = option_map_or (λ (state : RequestState). not (is_answer state.fate)) found false

-- the item of a write by what became of its request; a refused write is none
abbrev pub items_by : Fate → Write → List Item
items_by Unanswered write = record { request = Some write.req; bytes = write.bytes.now; coded = write.coded; mark = Open } ∷ []
items_by Done write = record { request = Some write.req; bytes = write.bytes.now; coded = write.coded; mark = Acknowledged } ∷ []
items_by Refused write = []
items_by Abandoned write = record { request = Some write.req; bytes = write.bytes.now; coded = write.coded; mark = Lost } ∷ []

-- the items of a block, by the place of its newest write; of all writes, the newest is given first
abbrev pub items_from : (ℕ → Fate) → List Write → Option ℕ → List Item
items_from fates [] newest = zeros_item ∷ []
items_from fates (write ∷ older) newest =
    if option_map_or (λ place. place == length older) newest false
    then items_from fates older write.earlier ++ items_by (fates write.req) write
    else items_from fates older newest

-- a place is below the number
abbrev pub IsWithin : Option ℕ → ℕ → Type 0
IsWithin None number = Unit {0}
IsWithin (Some place) number = place < number

-- each write is linked to one before it; the newest is given first
abbrev pub IsLinked : List Write → Type 0
IsLinked [] = Unit {0}
IsLinked (write ∷ older) = IsWithin write.earlier (length older) × IsLinked older

-- whether a read of a live disk may give these bytes of a block with these items
abbrev pub may_give : List Item → List ℕ → Bool
may_give items bytes = is_torn items || list_any (λ item. bytes_eq item.bytes bytes) (standing items)

-- what a write says of a read of its block: that its bytes may be given, that they may not, or nothing
abbrev pub says_of : Fate → Bool → Bool → Option Bool
says_of Unanswered is_same coded = if is_same then Some true else None
says_of Done is_same coded = Some is_same
says_of Refused is_same coded = None
says_of Abandoned is_same coded = if is_same || coded then Some true else None

-- whether a block of the request wasn't there
abbrev pub stray_of : Requests → ℕ → Bool
stray_of requests req = option_map_or (λ (state : RequestState). state.stray) (get nat_cmp requests.states req) false

-- by request, then by disk, then by block
abbrev pub place_cmp : Place → Place → Ordering
place_cmp a b = ordering_then (nat_cmp a.req b.req) (ordering_then (nat_cmp a.disk b.disk) (nat_cmp a.block b.block))

-- whether a disk is there and has the block
abbrev pub has_block_in : Option DiskState → ℕ → Bool
has_block_in found block = option_map_or (λ (state : DiskState). nat_lt block state.blocks) found false

-- one disk deleted, and no other changed
abbrev pub DeletesOne : BTreeMap ℕ DiskState → BTreeMap ℕ DiskState → ℕ → Type 0
DeletesOne old new disk = (q : ℕ) → get nat_cmp new q
    ≡ (if is_at (nat_cmp disk) q then option_map (λ (state : DiskState). record state { deleted = true }) (get nat_cmp old disk)
    else get nat_cmp old q)

-- after the block's newest write is set: the same disk but for that
pub record IsWritten (old new : DiskState) (block place : ℕ) : Type 0 where
  pub blocks : new.blocks ≡ old.blocks
  pub deleted : new.deleted ≡ old.deleted
  pub newest : Updates nat_cmp old.newest new.newest block (Some place)

-- a disk changed, and no other
abbrev pub WritesOne : Option DiskState → BTreeMap ℕ DiskState → BTreeMap ℕ DiskState → ℕ → ℕ → ℕ → Type 0
WritesOne None old new disk block place = ⊥
WritesOne (Some state) old new disk block place = (written : DiskState) × Updates nat_cmp old new disk (Some written)
    × IsWritten state written block place

-- a disk as the ledger has it
abbrev pub shown_disk : (ℕ → Fate) → List Write → DiskState → Disk
shown_disk fates writes state = record {
  blocks = state.blocks;
  items = λ block. items_from fates (reverse writes) (get nat_cmp state.newest block);
  deleted = state.deleted;
}

-- a request's state is that of the ledger's; one that hasn't begun has none
abbrev pub ShowsRequest : Option RequestState → WriteRequest → Type 0
ShowsRequest None request = (has_begun_to_write request ≡ false) × (request.stray ≡ false) × (request.ended ≡ false)
ShowsRequest (Some state) request = (has_begun_to_write request ≡ true) × (request.stray ≡ state.stray)
    × (request.ended ≡ is_answer state.fate)

-- the newest write of each block of the disk is one of so many
abbrev pub AreWithin : Option DiskState → ℕ → Type 0
AreWithin None count = Unit {0}
AreWithin (Some state) count = (block : ℕ) → IsWithin (get nat_cmp state.newest block) count
