-- What of an event's addition to the history doesn't disturb a write's item in a block: requests of its session begin that wait for it, and
-- none of these is done.
use Rattle.std.proofs.Common.{◌≡◌, ◌≢◌, ⊎_elim, ℕ, zero, suc, ◌+◌, ◌/◌, ◌<◌, ◌==◌, Bool, true, false, not, ◌&&◌, ◌||◌, List, [], ◌∷◌, map}
use Rattle.std.proofs.Common.{length, Contains, Option, Some, None, refl, sym, ap, ◌∙◌, arith}
use Rattle.std.specs.Prelude.{flat_map, nat_le, nat_lt}
use Rattle.std.specs.List.{list_any, range_with_len}
use Rattle.std.specs.Option.{option_map_or}
use Rattle.std.proofs.lemmas.Bool.{and_from, eq-eqb, eqb-true, le-leb, lt-ltb, ne_eqb, or_parts}
use Rattle.proof_tools.proofs.Lists.{Contains-nil, Contains-cons_cases}
use Rattle.object_id.specs.declared.limits.TheConstants.{BLOCK_BYTES}
use Rattle.object_id.specs.declared.oid.Kind.TheVariants.{Block}
use Rattle.gf256.specs.Part.{is_in_strips}
use Rattle.object_id.specs.declared.entry.Entry.{Entry}
use Rattle.disk_history.specs.declared.event.HistEvent.{HistEvent}
use Rattle.disk_history.specs.declared.event.HistEvent.TheVariants.{Create, Copy, Delete, WriteStart, WriteDone, WriteRefused, WriterLost}
use Rattle.disk_history.specs.declared.event.HistEvent.TheVariants.{Read}
use Rattle.cluster_script.specs.declared.statement.Statement.{Statement}
use Rattle.cluster_script.specs.declared.statement.Statement.TheVariants as lines
use Rattle.cluster_script.specs.NumberedRequests.{payload_of, request_at}
use Rattle.cluster_script.specs.Statements.{is_check}
use Rattle.guest_driver.specs.declared.disk.Disk.{Disk}
use Rattle.peer_proto.specs.declared.guest.GuestRsp.{GuestRsp}
use Rattle.sheep_node.specs.declared.check_write.CheckWrite.{CheckWrite}
use Rattle.sheep_world.specs.Granted.{entry_adds}
use Rattle.sheep_world.specs.HistoryAdditions.{begins_on, block_in, check_write_grown, reply_grown}
use Rattle.sheep_world.specs.World.{World}
use Rattle.overlap_law.specs.DiskEvents.{begins_by_others, ends_write_of, is_asked_in}
use Rattle.overlap_law.specs.PastWords.{is_refusal}
use Rattle.overlap_law.proofs.BlockItems.{apart_back}
use Rattle.overlap_law.proofs.ClosedAdditions.{none_of, check_adds, replies_add, end_so, entry_add}
use Rattle.overlap_law.proofs.DiskEventsOfHolders.{HasNone, map_none_in}
use Rattle.overlap_law.proofs.StandingBefore.{disturbs}
use Rattle.overlap_law.proofs.StandingMeets.{touches, waits_for}

-- numbers in a row are below its end
below_end : (first count k : ℕ) → Contains (range_with_len first count) k → k < first + count
below_end first zero k there = absurd (Contains-nil k there)
below_end first (suc count) k there = ⊎_elim
    (λ (own : first ≡ k). omega (arith, own))
    (λ (later : Contains (range_with_len (first + 1) count) k). let less = below_end (first + 1) count k later in omega (arith, less))
    (Contains-cons_cases first (range_with_len (first + 1) count) k there)

module _ (script : List Statement) (req session block : ℕ) where
  -- which requests wait for the write
  abbrev pub waiting : ℕ → Bool
  waiting = waits_for script req session block

  -- the later requests of the session
  abbrev pub is_later : ℕ → Bool
  is_later other = nat_le req other && is_asked_in script session other

  -- whether a request may begin a write of the block
  abbrev touching : ℕ → Bool
  touching other = option_map_or (touches block) (request_at script other) false

  -- whether an event begins a write of the block for a request that doesn't ask for one, or ends the write, or one that waits
  abbrev pub strays : HistEvent → Bool
  strays (Create disk blocks) = false
  strays (Copy old new) = false
  strays (Delete disk) = false
  strays (WriteStart other disk at coded bytes) = block == at && not (touching other)
  strays (WriteDone other) = other == req || waiting other
  strays (WriteRefused other) = other == req
  strays (WriterLost other) = other == req
  strays (Read disk at bytes) = false

  -- ---- what begins nothing for others on the disk, and doesn't stray, disturbs nothing

  module _ (vid : ℕ) where
    start_calm : (a b c d e : Bool) → (a && not (c && d)) ≡ false → (b && not e) ≡ false → ((a && b) && not (c && (d && e))) ≡ false
    start_calm false b c d e begins untouched = refl
    start_calm true false c d e begins untouched = refl
    start_calm true true true true true begins untouched = refl
    start_calm true true true true false begins untouched = absurd (cc (untouched))
    start_calm true true true false e begins untouched = absurd (cc (begins))
    start_calm true true false d e begins untouched = absurd (cc (begins))

    same_test : (a b : ℕ) → (a == b) ≡ (b == a)
    same_test a b = by_test (a == b) refl
      where
        by_test : (t : Bool) → (a == b) ≡ t → (a == b) ≡ (b == a)
        by_test true is = is ∙ sym (eq-eqb b a (sym (eqb-true a b is)))
        by_test false is = is ∙ sym (apart_back a b is)

    one_calm : (event : HistEvent) → begins_by_others vid is_later event ≡ false → strays event ≡ false
        → disturbs req waiting vid block event ≡ false
    one_calm (Create disk blocks) begins untouched = refl
    one_calm (Copy old new) begins untouched = refl
    one_calm (Delete disk) begins untouched = refl
    one_calm (WriteStart other disk at coded bytes) begins untouched =
        start_calm (vid == disk) (block == at) (nat_le req other) (is_asked_in script session other) (touching other)
        (ap (λ (b : Bool). b && not (is_later other)) (same_test vid disk) ∙ begins) untouched
    one_calm (WriteDone other) begins untouched = untouched
    one_calm (WriteRefused other) begins untouched = untouched
    one_calm (WriterLost other) begins untouched = untouched
    one_calm (Read disk at bytes) begins untouched = refl

    pub all_calm : (events : List HistEvent) → HasNone (begins_by_others vid is_later) events → HasNone strays events
        → HasNone (disturbs req waiting vid block) events
    all_calm [] begins untouched = refl
    all_calm (event ∷ later) begins untouched =
        let one = or_parts (begins_by_others vid is_later event) (list_any (begins_by_others vid is_later) later) begins in
        let two = or_parts (strays event) (list_any strays later) untouched in
        let first = one_calm event one.0 two.0 in
        let rest = all_calm later one.1 two.1 in
        λ i. first i || rest i

  -- ---- what begins

  module _ (other : ℕ) where
    starts_here : (at : ℕ) → (at ≡ block → touching other ≡ true) → (block == at && not (touching other)) ≡ false
    starts_here at own = by_test (block == at) refl
      where
        by_test : (b : Bool) → (block == at) ≡ b → (b && not (touching other)) ≡ false
        by_test false is = refl
        by_test true is = ap not (own (sym (eqb-true block at is)))

    writes_calm : (disk : Option Disk) (s : Statement) → request_at script other ≡ Some s → HasNone strays (begins_on other disk s)
    writes_calm None (lines.Write number offset size pattern) stands = refl
    writes_calm (Some opened) (lines.Write number offset size pattern) stands =
        map_none_in strays
        (λ (place : ℕ).
        WriteStart other opened.inode.vid (offset / BLOCK_BYTES + place) (is_in_strips opened.inode.spec.policy Block)
        (block_in (payload_of pattern size) place))
        (range_with_len 0 (length (payload_of pattern size) / BLOCK_BYTES))
        (λ place among. starts_here (offset / BLOCK_BYTES + place) (λ same.
        let within = below_end 0 (length (payload_of pattern size) / BLOCK_BYTES) place among in
        ap (λ (o : Option Statement). option_map_or (touches block) o false) stands
        ∙ and_from (nat_le (offset / BLOCK_BYTES) block)
        (nat_lt block (offset / BLOCK_BYTES + length (payload_of pattern size) / BLOCK_BYTES))
        (le-leb (offset / BLOCK_BYTES) block (omega (arith, same)))
        (lt-ltb block (offset / BLOCK_BYTES + length (payload_of pattern size) / BLOCK_BYTES) (omega (arith, same, within)))))
    writes_calm disk s stands = refl

    pub asks_calm : (disk : Option Disk) → HasNone strays (option_map_or (begins_on other disk) (request_at script other) [])
    asks_calm disk = by_statement (request_at script other) refl
      where
        by_statement : (o : Option Statement) → request_at script other ≡ o → HasNone strays (option_map_or (begins_on other disk) o [])
        by_statement None stands = refl
        by_statement (Some s) stands = writes_calm disk s stands

  checks_touch : (other : ℕ) → option_map_or is_check (request_at script other) false ≡ true → touching other ≡ true
  checks_touch other = by_statement (request_at script other)
    where
      by_statement : (o : Option Statement) → option_map_or is_check o false ≡ true → option_map_or (touches block) o false ≡ true
      by_statement None is = absurd (cc (is))
      by_statement (Some (lines.Check number)) is = refl
      by_statement (Some s) is = absurd (cc (is))

  abbrev Calm : HistEvent → Type 0
  Calm event = strays event ≡ false

  pub check_calm : (write : Option CheckWrite) → HasNone strays (option_map_or (check_write_grown script) write [])
  check_calm None = refl
  check_calm (Some write) =
      none_of strays (check_write_grown script write)
      (check_adds Calm (λ disk at bytes. refl) script write
      (λ at coded bytes is. starts_here write.req at (λ same. checks_touch write.req is)))

  -- ---- what replies add

  -- replies to others, none of which says that one that waits is done
  abbrev pub AreCalm : List (ℕ × GuestRsp) → Type 0
  AreCalm replies = (reply : ℕ × GuestRsp) → Contains replies reply
      → (reply.0 ≢ req) × (is_refusal reply.1 ≡ false → waiting reply.0 ≡ false)

  pub replies_calm : (found : World) (write : Option CheckWrite) (replies : List (ℕ × GuestRsp)) → AreCalm replies
      → HasNone strays (flat_map (reply_grown script found write) replies)
  replies_calm found write replies calm =
      none_of strays (flat_map (reply_grown script found write) replies)
      (replies_add Calm (λ disk at bytes. refl) script found write replies
      (λ reply among.
      let apart = ne_eqb reply.0 req (calm reply among).0 in
      end_so Calm reply.0 reply.1 (λ is. let done = (calm reply among).1 is in λ i. apart i || done i) apart))

  -- ---- what else an event adds

  pub entry_calm : (log : List Entry) (entry : Entry) → HasNone strays (entry_adds log entry)
  entry_calm log entry =
      none_of strays (entry_adds log entry) (entry_add Calm (λ disk blocks. refl) (λ old new. refl) (λ disk. refl) log entry)

  pub lost_calm : (requests : List (ℕ × Statement))
      → HasNone (ends_write_of req) (map (λ (request : ℕ × Statement). WriterLost request.0) requests)
      → HasNone strays (map (λ (request : ℕ × Statement). WriterLost request.0) requests)
  lost_calm [] none = refl
  lost_calm (request ∷ later) none =
      let parts = or_parts (request.0 == req)
      (list_any (ends_write_of req) (map (λ (request : ℕ × Statement). WriterLost request.0) later)) none in
      let first = parts.0 in
      let rest = lost_calm later parts.1 in
      λ i. first i || rest i
