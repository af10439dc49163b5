-- What a node has that comes back.
use Rattle.std.proofs.Common.{◌≡◌, ℕ, ◌+◌, ◌==◌, Bool, true, false, cond, ◌&&◌, ◌||◌, List, [], ◌∷◌, ◌++◌, take, Option, Some, None, unwrap_or, refl, ap, ap₂, sym, ◌∙◌, subst, arith}
use Rattle.std.proofs.lemmas.Bool.Decides.{nat_tests}
use Rattle.std.proofs.lemmas.List.Folds.{list_any-append}
use Rattle.std.proofs.lemmas.List.Elements.{All-nil, All-cons}
use Rattle.std.specs.List.{All, Contains, list_any}
use Rattle.std.specs.Ordering.{nat_cmp}
use Rattle.std.specs.FinMap.{nat_cmp-IsAntisymmetric}
use Rattle.std.specs.FinMap as tree
use Rattle.proof_tools.proofs.FiniteMaps.{keys-contain}
use Rattle.proof_tools.proofs.Lists.{list_any-none}
use Rattle.object_id.specs.Oid.{vid_of}
use Rattle.object_id.specs.declared.oid.Vid.{Vid}
use Rattle.object_id.specs.declared.entry.Entry.{Entry}
use Rattle.object_id.specs.declared.entry.Entry.TheVariants.{Format, Join, Leave, Reweight, Recovered, Reserve, Publish, Clone, Snapshot, Delete, Lock, Unlock}
use Rattle.epoch_log.specs.Epochs.{epoch_of, settled_of}
use Rattle.epoch_log.specs.Appending.{IsReservable, AreAppended, IsLog}
use Rattle.object_store.specs.Rows.{closed_all, purged}
use Rattle.object_store.specs.Store.{AllRows, SeenRow, rows_of, each}
use Rattle.object_store.proofs.StoreLaws.{rows_of-each}
use Rattle.vdi_directory.specs.References.{has_vid}
use Rattle.vdi_directory.specs.Effects.{holder_of}
use Rattle.vdi_directory.specs.Decisions.{log_effects}
use Rattle.vdi_directory.specs.Dead.{is_dead}
use Rattle.vdi_directory.specs.DirectoryState.{AreLocks}
use Rattle.vdi_directory.proofs.StateLemmas.{log_effects-none}
use Rattle.peer_service.specs.State.{Peer}
use Rattle.peer_service.specs.LogReading.{rows_but, without_objects}
use Rattle.peer_service.specs.Epochs.{peer_settled_to}
use Rattle.peer_service.specs.Back.{closed_at_end, come_back}
use Rattle.peer_service.proofs.EpochLemmas.{but_none}
use Rattle.peer_service.proofs.RowLemmas.{each-alike}
use Rattle.peer_service.proofs.DropLemmas.{is_of_disk, peer_of}

-- ---- a directory that reads a log

-- at first nobody holds a disk
pub nothing_held : AreLocks (log_effects []) tree.empty
unfolding holder_of
nothing_held vid = tree.get-empty nat_cmp vid ∙ sym (ap (λ before. holder_of before vid) log_effects-none)

appended_reservable : (before later : List Entry) → AreAppended before later → All IsReservable later
appended_reservable before [] appended = All-nil IsReservable
appended_reservable before (entry ∷ later) appended =
    All-cons IsReservable entry later appended.0.reservable (appended_reservable (before ++ entry ∷ []) later appended.1)

pub log_reservable : (entries : List Entry) → IsLog entries → All IsReservable entries
log_reservable [] log = absurd log
log_reservable (Format members ∷ later) log =
    All-cons IsReservable (Format members) later tt (appended_reservable (Format members ∷ []) later log.1)
log_reservable (Join node zone vnodes ∷ later) log = absurd log
log_reservable (Leave node ∷ later) log = absurd log
log_reservable (Reweight node vnodes ∷ later) log = absurd log
log_reservable (Recovered node epoch ∷ later) log = absurd log
log_reservable (Reserve by session name origin ∷ later) log = absurd log
log_reservable (Publish by vid ∷ later) log = absurd log
log_reservable (Clone by vid ∷ later) log = absurd log
log_reservable (Snapshot by old vid ∷ later) log = absurd log
log_reservable (Delete by session name tag ∷ later) log = absurd log
log_reservable (Lock by session name tag ∷ later) log = absurd log
log_reservable (Unlock by session vid ∷ later) log = absurd log

-- ---- which disks are dead

abbrev pub is_disk_of : ℕ → List ℕ → Bool
is_disk_of vid oids = list_any (λ oid. vid_of oid == vid) oids

-- the dead disks of the objects so far
abbrev pub DeadSoFar : List Vid → List ℕ → (ℕ → Bool) → Type 0
DeadSoFar dead oids is_dead = (vid : ℕ) → has_vid vid dead ≡ (is_disk_of vid oids && is_dead vid)

pub dead_so_far : (old dead : List Vid) (oids : List ℕ) (first : ℕ) (is_dead : ℕ → Bool)
    → ((vid : ℕ) → has_vid vid dead ≡ (has_vid vid old || (vid_of first == vid && is_dead vid)))
    → DeadSoFar old oids is_dead → DeadSoFar dead (oids ++ first ∷ []) is_dead
dead_so_far old dead oids first is_dead new had vid =
    new vid ∙ ap (λ b. b || (vid_of first == vid && is_dead vid)) (had vid)
    ∙ go (is_disk_of vid oids) (vid_of first == vid) (is_dead vid)
    ∙ ap (λ b. b && is_dead vid) (sym (list_any-append (λ oid. vid_of oid == vid) oids (first ∷ [])))
  where
    go : (a b d : Bool) → ((a && d) || (b && d)) ≡ ((a || (b || false)) && d)
    go true true true = refl
    go true true false = refl
    go true false true = refl
    go true false false = refl
    go false true true = refl
    go false true false = refl
    go false false d = refl

found_disk : (oids : List ℕ) (oid : ℕ) → Contains oids oid → is_disk_of (vid_of oid) oids ≡ true
found_disk oids oid there = go (is_disk_of (vid_of oid) oids) refl
  where
    go : (b : Bool) → is_disk_of (vid_of oid) oids ≡ b → b ≡ true
    go true is = refl
    go false is =
        let no : (vid_of oid == vid_of oid) ≡ false = list_any-none (λ other. vid_of other == vid_of oid) oids oid is there in
        let yes : (vid_of oid == vid_of oid) ≡ true = grind (arith, nat_tests) in
        absurd (cc (no, yes))

-- of rows that are left of those of some objects, those of the dead disks among these are those of the dead objects
pub dead_rows_go : (dead : List Vid) (is_dead : ℕ → Bool) (all left : AllRows) → ((oid : ℕ) → rows_of all oid ≡ [] → rows_of left oid ≡ [])
    → DeadSoFar dead (tree.keys all) is_dead → each (rows_but (is_of_disk dead)) left ≡ each (rows_but (λ oid. is_dead (vid_of oid))) left
dead_rows_go dead is_dead all left none had =
    each-alike (rows_but (is_of_disk dead)) (rows_but of_dead) left (λ q. but_none (is_of_disk dead) q ∙ sym (but_none of_dead q))
    (λ q. go q (tree.get all q) refl)
  where
    of_dead : ℕ → Bool
    of_dead oid = is_dead (vid_of oid)

    go : (q : ℕ) (found : Option (List SeenRow)) → tree.get all q ≡ found
        → rows_but (is_of_disk dead) q (rows_of left q) ≡ rows_but (λ oid. is_dead (vid_of oid)) q (rows_of left q)
    go q None is =
        let none_there : rows_of left q ≡ [] = none q (ap (λ (o : Option (List SeenRow)). unwrap_or o []) is) in
        ap (rows_but (is_of_disk dead) q) none_there ∙ but_none (is_of_disk dead) q
        ∙ sym (ap (rows_but (λ oid. is_dead (vid_of oid)) q) none_there ∙ but_none (λ oid. is_dead (vid_of oid)) q)
    go q (Some rows) is =
        ap (λ b. cond b [] (rows_of left q))
        (had (vid_of q) ∙ ap (λ b. b && is_dead (vid_of q)) (found_disk (tree.keys all) q (keys-contain nat_cmp-IsAntisymmetric all q rows is)))

pub back_left : (settled last : ℕ) (all : AllRows) (oid : ℕ) → rows_of all oid ≡ []
    → rows_of (each (λ q. purged settled) (each (λ q. closed_all last) all)) oid ≡ []
back_left settled last all oid is =
    rows_of-each (λ q. purged settled) (each (λ q. closed_all last) all) oid refl
    ∙ ap (purged settled) (rows_of-each (λ q. closed_all last) all oid refl)
    ∙ ap (λ (rows : List SeenRow). purged settled (closed_all last rows)) is

pub dead_next : (oids : List ℕ) (k first : ℕ) (old dead : List Vid) (is_dead : ℕ → Bool) → take (k + 1) oids ≡ take k oids ++ first ∷ []
    → ((vid : ℕ) → has_vid vid dead ≡ (has_vid vid old || (vid_of first == vid && is_dead vid)))
    → DeadSoFar old (take k oids) is_dead → DeadSoFar dead (take (k + 1) oids) is_dead
dead_next oids k first old dead is_dead more new had =
    subst (λ (so_far : List ℕ). DeadSoFar dead so_far is_dead) (sym more) (dead_so_far old dead (take k oids) first is_dead new had)

pub back_made : (entries directory : List Entry) (peer : Peer) (dead : List Vid) (epoch settled : ℕ) (rows : AllRows) (pending : List ℕ)
    → epoch ≡ epoch_of entries → settled ≡ settled_of entries → directory ≡ entries → pending ≡ []
    → rows ≡ each (rows_but (is_of_disk dead)) (each (λ q. purged settled) (each (λ q. closed_all peer.epoch) peer.rows))
    → DeadSoFar dead (tree.keys peer.rows) (is_dead (log_effects directory))
    → peer_of epoch settled rows (Some pending) directory ≡ come_back entries peer
unfolding come_back without_objects peer_settled_to closed_at_end
back_made entries directory peer dead epoch settled rows pending at_epoch at_settled read none left had =
    let rows_are =
    left
    ∙ dead_rows_go dead (is_dead (log_effects directory)) peer.rows (each (λ q. purged settled) (each (λ q. closed_all peer.epoch) peer.rows))
    (back_left settled peer.epoch peer.rows) had
    ∙ ap₂ (λ (log : List Entry) (level : ℕ). each (rows_but (λ oid. is_dead (log_effects log) (vid_of oid))) (each (λ q. purged level) (each (λ q. closed_all peer.epoch) peer.rows))) read at_settled in
    λ i. peer_of (at_epoch i) (at_settled i) (rows_are i) (Some (none i)) (read i)
