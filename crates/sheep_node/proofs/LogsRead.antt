-- The entries of a whole log, read one after the other; the epochs of a log, entered one after the other.
use Rattle.std.proofs.Common.{◌≡◌, ℕ, zero, suc, ◌+◌, ◌<◌, ◌≤◌, List, [], ◌∷◌, length, take, drop, get_or, refl, sym, subst, arith}
use Rattle.std.proofs.lemmas.List.{take-append-drop, length-take-le, length-map, get_or-map, drop_more}
use Rattle.std.proofs.lemmas.List.Kept.{AllPairs-from_increasing}
use Rattle.object_id.specs.declared.entry.Member.{Member}
use Rattle.object_id.specs.declared.entry.Entry.{Entry}
use Rattle.object_id.specs.declared.entry.Entry.TheVariants.{Format, Join, Leave, Reweight, Recovered, Reserve, Publish, Clone, Snapshot}
use Rattle.object_id.specs.declared.entry.Entry.TheVariants.{Delete, Lock, Unlock}
use Rattle.epoch_log.specs.Members.{node_numbers}
use Rattle.epoch_log.specs.Epochs.{epoch_of, members_in}
use Rattle.epoch_log.specs.Appending.{IsLog, AreAppended, MayAppend}
use Rattle.epoch_log.proofs.MembersLemmas.{IsLog-members, IsLog-weights, IsLog-prefix}
use Rattle.hash_ring.specs.Placement.{AreWeighted}
use Rattle.sheep_node.specs.May.{MayRead}
use Rattle.sheep_node.specs.LogReading.{entered_in, epochs_up_to}
use Rattle.sheep_node.specs.StepFacts.{IsLogSoFar}
use Rattle.sheep_node.proofs.KeptLogs.{log_so_far}

read_behind : (entries : List Entry) (entry : Entry) → 1 ≤ length entries → MayAppend entries entry → MayRead entries entry
read_behind [] entry some may = absurd (omega arith)
read_behind (first ∷ later) entry some may = may

-- a log is cut at a place behind its first entry
cut_at : (entries : List Entry) (place : ℕ) → 1 ≤ place → place ≤ length entries → IsLog entries
    → IsLog (take place entries) × AreAppended (take place entries) (drop place entries)
cut_at entries place some within log =
    let long : length (take place entries) ≡ place = length-take-le place entries within in
    IsLog-prefix (take place entries) (drop place entries) (omega arith) (subst IsLog (sym (take-append-drop place entries)) log)

pub log_before : (entries : List Entry) (place : ℕ) → IsLog entries → place ≤ length entries → IsLogSoFar (take place entries)
log_before entries zero log within = tt
log_before entries (suc place) log within = log_so_far (take (suc place) entries) (cut_at entries (suc place) (omega arith) within log).0

first_read : (entries : List Entry) (d : Entry) → IsLog entries → MayRead [] (get_or entries 0 d)
first_read [] d log = absurd log
first_read (Format members ∷ later) d log = log.0
first_read (Join node zone vnodes ∷ later) d log = absurd log
first_read (Leave node ∷ later) d log = absurd log
first_read (Reweight node vnodes ∷ later) d log = absurd log
first_read (Recovered node epoch ∷ later) d log = absurd log
first_read (Reserve by session name origin ∷ later) d log = absurd log
first_read (Publish by vid ∷ later) d log = absurd log
first_read (Clone by vid ∷ later) d log = absurd log
first_read (Snapshot by old vid ∷ later) d log = absurd log
first_read (Delete by session name tag ∷ later) d log = absurd log
first_read (Lock by session name tag ∷ later) d log = absurd log
first_read (Unlock by session vid ∷ later) d log = absurd log

pub read_at : (entries : List Entry) (place : ℕ) (d : Entry) → IsLog entries → place < length entries → MayRead (take place entries) (get_or entries place d)
read_at entries zero d log within = first_read entries d log
read_at entries (suc place) d log within =
    let long : length (take (suc place) entries) ≡ suc place = length-take-le (suc place) entries (omega arith) in
    read_behind (take (suc place) entries) (get_or entries (suc place) d) (omega arith)
    (subst (AreAppended (take (suc place) entries)) (drop_more entries (suc place) d within)
    (cut_at entries (suc place) (omega arith) (omega arith) log).1).0

pub weighted : (entries : List Entry) (epoch : ℕ) → IsLog entries → epoch ≤ epoch_of entries → AreWeighted (members_in entries epoch)
weighted entries epoch log begun =
    let members : List Member = members_in entries epoch in
    let up = AllPairs-from_increasing (node_numbers members) (IsLog-members entries epoch log begun).0.ascending in
    let long : length (node_numbers members) ≡ length members = length-map members (λ (member : Member). member.node.0) in
    record {
      different = λ i j d before within same.
          let less : get_or (node_numbers members) i d.node.0 < get_or (node_numbers members) j d.node.0 = up i j d.node.0 before (omega arith) in
          let first : get_or (node_numbers members) i d.node.0 ≡ (get_or members i d).node.0
          = get_or-map (λ (member : Member). member.node.0) members i d d.node.0 (omega arith) in
          let second : get_or (node_numbers members) j d.node.0 ≡ (get_or members j d).node.0
          = get_or-map (λ (member : Member). member.node.0) members j d d.node.0 within in
          (omega arith);
      weights = IsLog-weights entries epoch log begun;
    }

epochs_at : (entries : List Entry) (begun : ℕ) → epochs_up_to entries (suc begun) ≡ entered_in entries (suc begun) ∷ epochs_up_to entries begun
unfolding epochs_up_to
epochs_at entries begun = refl

pub epochs_next : (entries : List Entry) (begun : ℕ) → epochs_up_to entries (begun + 1) ≡ entered_in entries (begun + 1) ∷ epochs_up_to entries begun
epochs_next entries begun =
    let same : suc begun ≡ begun + 1 = omega arith in
    subst (λ (next : ℕ). epochs_up_to entries next ≡ entered_in entries next ∷ epochs_up_to entries begun) same (epochs_at entries begun)
