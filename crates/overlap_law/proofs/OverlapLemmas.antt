-- What the invariant of the overlap gives at once.
use Rattle.std.proofs.Common.{◌≡◌, ◌⊎◌, inl, inr, ⊎_elim, ℕ, zero, suc, ◌<◌, ◌==◌, ◌||◌, not, Bool, true, false, cond, List, [], ◌∷◌}
use Rattle.std.proofs.Common.{length, filter, Option, Some, None, refl, subst, slice_get, Ok, arith}
use Rattle.std.specs.Option.{option_map_or}
use Rattle.std.specs.List.{last_or}
use Rattle.std.specs.FinMap as tree
use Rattle.std.proofs.lemmas.Bool.{eqb-true, or_left, or_cases}
use Rattle.object_id.specs.declared.node.NodeId.{NodeId}
use Rattle.object_id.specs.declared.entry.Entry.{Entry}
use Rattle.object_id.specs.declared.entry.Member.{Member}
use Rattle.epoch_log.specs.Members.{is_member_node, is_member}
use Rattle.epoch_log.specs.Epochs.{epoch_of, members_in, has_recovered, missing_in, is_settled, settled_of}
use Rattle.epoch_log.proofs.GreatestLemmas.{greatest-passes}
use Rattle.peer_proto.specs.declared.ask.PeerReq.{PeerReq}
use Rattle.peer_proto.specs.Ask.{ask_in}
use Rattle.message_wire.specs.declared.name.MessageName.{MessageName}
use Rattle.message_wire.specs.Message.{message_name}
use Rattle.message_wire.specs.declared.packet.Packet.TheVariants.{Request}
use Rattle.overlap_law.specs.Attempts.{AttemptRecord, object_of, attempts_on}
use Rattle.overlap_law.specs.Words.{is_made, base_of}
use Rattle.overlap_law.specs.Reached.{Hosts, is_putting_in}
use Rattle.overlap_law.specs.Past.{FinishedList, MomentWithPast}
use Rattle.overlap_law.specs.Lists.{ListsAreComplete}
use Rattle.overlap_law.specs.Facts.{CompleteLists, EachGood}
use Rattle.overlap_law.specs.Headline.{IsLegalWhereAvailable}
use Rattle.overlap_law.specs.Each.{EachHost}
use Rattle.overlap_law.specs.Grants.{leave_of}
use Rattle.overlap_law.specs.Packets.{Wire}
use Rattle.overlap_law.specs.Flight.{TheGoneAreFenced}
use Rattle.overlap_law.specs.NodeEpochs.{TheSettledHaveRecovered}
use Rattle.overlap_law.specs.Rows.{IsMadeBy}
use Rattle.overlap_law.specs.Overlap.{Overlap}

-- what the last of some attempts is stands among them
last-there : (first : Option AttemptRecord) (attempts : List AttemptRecord) (found : AttemptRecord) → last_or first attempts ≡ Some found
    → (first ≡ Some found) ⊎ ((k : ℕ) × (slice_get attempts k ≡ Some found))
last-there first [] found h = inl h
last-there first (attempt ∷ attempts) found h = ⊎_elim
    (λ (e : Some attempt ≡ Some found). inr (0, e))
    (λ (r : (k : ℕ) × (slice_get attempts k ≡ Some found)). inr (suc r.0, r.1))
    (last-there (Some attempt) attempts found h)

-- what a test lets through stands in the list, and passes
pub record IsPassed (passes : AttemptRecord → Bool) (attempts : List AttemptRecord) (found : AttemptRecord) : Type 0 where
  pub place : ℕ
  pub there : slice_get attempts place ≡ Some found
  pub passed : passes found ≡ true

passed_if : (passes : AttemptRecord → Bool) (attempt : AttemptRecord) (attempts : List AttemptRecord) (k : ℕ) (found : AttemptRecord)
    (b : Bool) → passes attempt ≡ b
    → ((i : ℕ) → slice_get (filter passes attempts) i ≡ Some found → IsPassed passes attempts found)
    → slice_get (cond b (attempt ∷ filter passes attempts) (filter passes attempts)) k ≡ Some found
    → IsPassed passes (attempt ∷ attempts) found
passed_if passes attempt attempts zero found true is later e = record { place = 0; there = e; passed = cc (is, e) }
passed_if passes attempt attempts (suc k) found true is later e =
    let rest = later k e in record { place = suc rest.place; there = rest.there; passed = rest.passed }
passed_if passes attempt attempts k found false is later e =
    let rest = later k e in record { place = suc rest.place; there = rest.there; passed = rest.passed }

pub filter-passed : (passes : AttemptRecord → Bool) (attempts : List AttemptRecord) (k : ℕ) (found : AttemptRecord)
    → slice_get (filter passes attempts) k ≡ Some found
    → IsPassed passes attempts found
filter-passed passes [] k found e = absurd (cc)
filter-passed passes (attempt ∷ attempts) k found e = passed_if
    passes attempt attempts k found (passes attempt) refl (λ (i : ℕ) (there : slice_get (filter passes attempts) i ≡ Some found).
    filter-passed passes attempts i found there) e

-- a base stands at a place among the attempts, on the object, and is made
pub record IsBaseAt (attempts : List AttemptRecord) (oid j : ℕ) (base : AttemptRecord) : Type 0 where
  pub there : slice_get attempts j ≡ Some base
  pub object : object_of base ≡ oid
  pub made : is_made base ≡ true

pub base-at : (oid : ℕ) (attempts : List AttemptRecord) (base : AttemptRecord) → base_of (attempts_on oid attempts) ≡ Some base
    → (j : ℕ) × IsBaseAt attempts oid j base
base-at oid attempts base h = ⊎_elim
    (λ (none : None ≡ Some base). absurd (cc (none)))
    (λ (r : (k : ℕ) × (slice_get (filter is_made (attempts_on oid attempts)) k ≡ Some base)).
    let made = filter-passed is_made (attempts_on oid attempts) r.0 base r.1 in
    let own = filter-passed (λ (attempt : AttemptRecord). object_of attempt == oid) attempts made.place base made.there in
    (own.place, record { there = own.there; object = eqb-true (object_of base) oid own.passed; made = made.passed }))
    (last-there None (filter is_made (attempts_on oid attempts)) base h)

-- so it is made by its own epoch
base-there : (oid : ℕ) (attempts : List AttemptRecord) (base : AttemptRecord) → base_of (attempts_on oid attempts) ≡ Some base
    → IsMadeBy attempts oid base.epoch
base-there oid attempts base h =
    let at = base-at oid attempts base h in
    record { place = at.0; attempt = base; there = at.1.there; object = at.1.object; made = at.1.made; before = omega arith }

pub gives-legal : (moment : MomentWithPast) → Overlap moment → IsLegalWhereAvailable moment.past
gives-legal moment o = o.legal

-- complete lists have the object where its base is of an earlier epoch
pub complete_lists : {good : ℕ → Bool} {listed : List FinishedList} {hosts : Hosts} {attempts : List AttemptRecord}
    → ListsAreComplete good listed hosts attempts → (oid : ℕ) → good oid ≡ true → CompleteLists listed hosts oid (attempts_on oid attempts)
complete_lists {good} {listed} {hosts} {attempts} complete oid is_good = record {
  each = λ base h n host there is_listed below.
      complete.each n host there oid base.epoch is_listed is_good below (base-there oid attempts base h);
}

pub gives-complete : (moment : MomentWithPast) → Overlap moment
    → EachGood moment.world moment.past (CompleteLists moment.past.listed moment.world.hosts)
gives-complete moment o = complete_lists o.searches.complete

pub gone-fenced : (log : List Entry) (hosts : Hosts) (wire : Wire) → TheGoneAreFenced log hosts wire
    → EachHost hosts (λ n host. (epoch : ℕ) (name : MessageName) (to : NodeId) (bytes : List ℕ) (request : PeerReq)
    → host.is_lost ≡ true → leave_of log n host.incarnation ≡ Some epoch → name.sender.0 ≡ n → tree.get wire name ≡ Some (Request to bytes)
    → ask_in bytes ≡ Ok request → request.epoch.0 < epoch)
gone-fenced log hosts wire gone n host there epoch name to bytes request lost left sender carried spelled =
    gone.each n host there name.number to request epoch lost left (record {
      bytes = bytes;
      there = subst (λ (k : ℕ). tree.get wire (message_name k name.number) ≡ Some (Request to bytes)) sender carried;
      spelled = spelled;
    })

-- where no member is missing each has recovered
none_missing_if : (recovered : ℕ → Bool) (node : ℕ) (member : Member) (members missing : List Member) (b c : Bool)
    → recovered member.node.0 ≡ b → is_member_node node member ≡ c → (length (cond (not b) (member ∷ missing) missing) == 0) ≡ true
    → (c || is_member node members) ≡ true → ((length missing == 0) ≡ true → is_member node members ≡ true → recovered node ≡ true)
    → recovered node ≡ true
none_missing_if recovered node member members missing true true is at none there rest =
    subst (λ (k : ℕ). recovered k ≡ true) (eqb-true member.node.0 node at) is
none_missing_if recovered node member members missing true false is at none there rest = rest none there
none_missing_if recovered node member members missing false c is at none there rest =
    absurd (grind (arith, eqb-true (length (member ∷ missing)) 0 none))

none-missing : (recovered : ℕ → Bool) (node : ℕ) (members : List Member)
    → (length (filter (λ (member : Member). not (recovered member.node.0)) members) == 0) ≡ true → is_member node members ≡ true
    → recovered node ≡ true
none-missing recovered node [] none there = absurd (cc)
none-missing recovered node (member ∷ members) none there = none_missing_if
    recovered node member members (filter (λ (other : Member). not (recovered other.node.0)) members) (recovered member.node.0)
    (is_member_node node member) refl refl none there
    (λ (fewer : (length (filter (λ (other : Member). not (recovered other.node.0)) members) == 0) ≡ true)
    (in' : is_member node members ≡ true).
    none-missing recovered node members fewer in')

settled-complete : (log : List Entry) (epoch : ℕ) → 1 < epoch → is_settled log epoch ≡ true → (length (missing_in log epoch) == 0) ≡ true
settled-complete log epoch above is = ⊎_elim
    (λ (first : (epoch == 1) ≡ true). absurd (let e : epoch ≡ 1 = eqb-true epoch 1 first in omega arith))
    (λ (all : (length (missing_in log epoch) == 0) ≡ true). all)
    (or_cases (epoch == 1) (length (missing_in log epoch) == 0) is)

-- who is a member of the settled epoch has recovered in it, by the log itself
pub settled-stands : (log : List Entry) (node : ℕ) → 1 < settled_of log → is_member node (members_in log (settled_of log)) ≡ true
    → has_recovered log (settled_of log) node ≡ true
settled-stands log node above there =
    none-missing (has_recovered log (settled_of log)) node (members_in log (settled_of log))
    (settled-complete log (settled_of log) above (greatest-passes (is_settled log) (epoch_of log) (omega arith))) there

pub settled-recovered : (log : List Entry) (hosts : Hosts) → TheSettledHaveRecovered log hosts
settled-recovered log hosts = record {
  each = λ node above there. or_left
      (has_recovered log (settled_of log) node.0)
      (option_map_or (is_putting_in (settled_of log) node.0) (tree.get hosts node.0) false)
      (none-missing (has_recovered log (settled_of log)) node.0 (members_in log (settled_of log))
      (settled-complete log (settled_of log) above (greatest-passes (is_settled log) (epoch_of log) (omega arith))) there);
}
