-- A create or write that was open and still is, is on another object than an attempt that begins: works are apart, and only the writer of
-- an id has one open on it.
use Rattle.std.proofs.Common.{◌≡◌, ◌≢◌, ⊎_elim, arith, ℕ, ◌+◌, ◌≤◌, ◌<◌, true, false, List, length, Option, Some, None, option_map}
use Rattle.std.proofs.Common.{slice_get, sym, ap, ◌∙◌}
use Rattle.std.specs.FinMap as tree
use Rattle.std.proofs.lemmas.Bool.{cases_eq}
use Rattle.std.proofs.lemmas.Option.{same_Some, slice_get-map, slice_get_within}
use Rattle.object_id.specs.declared.entry.Entry.{Entry}
use Rattle.object_id.specs.declared.node.NodeId.{NodeId}
use Rattle.object_id.specs.Oid.{vid_of}
use Rattle.disk_lock.specs.declared.holder.Holder.{Holder}
use Rattle.vdi_directory.specs.Decisions.{log_effects}
use Rattle.peer_proto.specs.declared.ask.PeerReq.{PeerReq}
use Rattle.peer_proto.specs.Work.{oid_of}
use Rattle.gateway.specs.declared.message.Message.{Message}
use Rattle.gateway.specs.Work.{is_making}
use Rattle.gateway.specs.Attempt as gateways
use Rattle.gateway.specs.State.{Work, Open}
use Rattle.sheep_world.specs.World.{Host}
use Rattle.overlap_law.specs.Attempts.{AttemptRecord, object_of}
use Rattle.overlap_law.specs.Reached.{Hosts}
use Rattle.overlap_law.specs.Packets.{Wire}
use Rattle.overlap_law.specs.Fates.{AttemptsAreOfIncarnations}
use Rattle.overlap_law.specs.OpenWorks.{IsTheSame}
use Rattle.overlap_law.specs.Sessions.{MakersAreApart}
use Rattle.overlap_law.specs.Writers.{WorksMayWrite}
use Rattle.overlap_law.specs.Grants.{writer_of}
use Rattle.overlap_law.specs.Traffic.{IsBegunBy, OpenAttemptsHaveMessages}
use Rattle.overlap_law.proofs.OpenAttempts.{WasOpen, open_of}

-- the number of the node of a holder
abbrev node_of_holder : Option Holder → ℕ
node_of_holder None = 0
node_of_holder (Some holder) = holder.node.0

module _ (log : List Entry) (hosts hosts_after : Hosts) (wire : Wire) (attempts : List AttemptRecord)
    (of_incarnations : AttemptsAreOfIncarnations hosts wire attempts) (have : OpenAttemptsHaveMessages hosts_after)
    (apart : MakersAreApart hosts_after)
    (writes : WorksMayWrite log hosts_after) where
  -- a create or write is open at a host that is up
  pub record IsOpenAt (n req : ℕ) (work : Work) (current : gateways.Attempt) : Type 0 where
    pub host : Host
    pub there : tree.get hosts_after n ≡ Some host
    pub up : host.is_lost ≡ false
    pub got : tree.get host.node.gateway.works req ≡ Some work
    pub making : is_making work.work ≡ true
    pub stage : work.stage ≡ Open current

  -- it was open before, where this attempt was its own
  pub record StaysOpen (n req : ℕ) (work : Work) (current : gateways.Attempt) : Type 0 where
    pub now : IsOpenAt n req work current
    pub old : Host
    pub was_there : tree.get hosts n ≡ Some old
    pub me : now.host.node.me ≡ old.node.me
    pub was_open : WasOpen old.node.gateway.works req work current
    pub place : ℕ
    pub attempt : AttemptRecord
    pub found : slice_get attempts place ≡ Some attempt
    pub same : IsTheSame old.node req was_open.was.work was_open.before attempt

  -- an attempt that begins is open
  begun_open : (k : ℕ) (sends : List (NodeId × PeerReq)) (new : AttemptRecord) → (begun : IsBegunBy hosts hosts_after k sends new)
      → IsOpenAt k new.req begun.work begun.current
  begun_open k sends new begun = record {
    host = begun.sent_by.after;
    there = begun.sent_by.there_after;
    up = begun.up;
    got = begun.opened.there;
    making = begun.opened.making;
    stage = begun.opened.stage;
  }

  -- two that are open on one object are so at one node
  one_node : (n req k other : ℕ) (work second : Work) (current another : gateways.Attempt) → IsOpenAt n req work current
      → IsOpenAt k other second another
      → oid_of work.work ≡ oid_of second.work → n ≡ k
  one_node n req k other work second current another one two same =
      let first = (writes.each n one.host one.there one.up req work one.got one.making).may.writer in
      let last = (writes.each k two.host two.there two.up other second two.got two.making).may.writer in
      ap node_of_holder (sym first ∙ ap (λ (oid : ℕ). writer_of (log_effects log) (vid_of oid)) same ∙ last)

  -- and of one request
  one_request : (n req other : ℕ) (work second : Work) (current another : gateways.Attempt) → (one : IsOpenAt n req work current)
      → tree.get one.host.node.gateway.works other ≡ Some second → is_making second.work ≡ true → oid_of work.work ≡ oid_of second.work
      → req ≢ other → ⊥
  one_request n req other work second current another one got making same differs =
      apart n one.host one.there one.up req other work second (record { first_one = one.got; second_one = got; apart = differs }) one.making
      making same

  -- what stays open has smaller numbers than what begins
  not_begun : (n req : ℕ) (work : Work) (current : gateways.Attempt) → (stays : StaysOpen n req work current) → (k : ℕ)
      (sends : List (NodeId × PeerReq)) (new : AttemptRecord) → (begun : IsBegunBy hosts hosts_after k sends new) → begun.sent_by.after
      ≡ stays.now.host
      → n ≡ k → req ≡ new.req → ⊥
  not_begun n req work current stays k sends new begun host_so node_so req_so =
      let work_so : begun.work ≡ work
      = same_Some begun.work work
      (sym begun.opened.there
      ∙ ap (λ (h : Host). tree.get h.node.gateway.works new.req) host_so
      ∙ ap (tree.get stays.now.host.node.gateway.works) (sym req_so)
      ∙ stays.now.got) in
      let current_so : begun.current ≡ current
      = open_of begun.current current (sym begun.opened.stage ∙ ap (λ (w : Work). w.stage) work_so ∙ stays.now.stage) in
      let (message, first) = have.each n stays.now.host stays.now.there stays.now.up req work current stays.now.got stays.now.making
      stays.now.stage in
      let number : message.number ≡ new.first + 0
      = begun.opened.same.numbers 0 message (ap (λ (a : gateways.Attempt). slice_get a.messages 0) current_so ∙ first) in
      let (was, was_first, is) = stays.was_open.numbers_so 0 message first in
      let number_so : message.number ≡ was.number = is in
      let was_number : was.number ≡ stays.attempt.first + 0 = stays.same.numbers 0 was was_first in
      let target : slice_get stays.attempt.targets 0 ≡ Some was.node
      = ap (λ (targets : List NodeId). slice_get targets 0) stays.same.targets
      ∙ slice_get-map (λ (m : Message). m.node) stays.was_open.before.messages 0
      ∙ ap (option_map (λ (m : Message). m.node)) was_first in
      let within : 0 < length stays.attempt.targets = slice_get_within stays.attempt.targets 0 was.node target in
      let gateway : stays.attempt.gateway.0 ≡ n
      = ap (λ (me : NodeId). me.0) (stays.same.gateway ∙ sym stays.me)
      ∙ ap (λ (h : Host). h.node.me.0) (sym host_so)
      ∙ ap (λ (me : NodeId). me.0) (sym begun.opened.same.gateway)
      ∙ begun.gateway ∙ sym node_so in
      let given : stays.attempt.first + length stays.attempt.targets ≤ stays.old.node.sends
      = of_incarnations.given stays.place stays.attempt stays.found stays.old (ap (tree.get hosts) gateway ∙ stays.was_there) in
      let sender : begun.sent_by.host ≡ stays.old
      = same_Some begun.sent_by.host stays.old (sym begun.sent_by.there ∙ ap (tree.get hosts) (sym node_so) ∙ stays.was_there) in
      let behind : new.first ≡ stays.old.node.sends = begun.first ∙ ap (λ (h : Host). h.node.sends) sender in
      omega (arith, number, number_so, was_number, within, given, behind)

  pub begins_alone : (n req : ℕ) (work : Work) (current : gateways.Attempt) → StaysOpen n req work current → (k : ℕ)
      (sends : List (NodeId × PeerReq)) (new : AttemptRecord) → IsBegunBy hosts hosts_after k sends new → object_of new ≢ oid_of work.work
  begins_alone n req work current stays k sends new begun object =
      let same : oid_of work.work ≡ oid_of begun.work.work = sym object ∙ ap oid_of begun.opened.same.work in
      let node_so = one_node n req k new.req work begun.work current begun.current stays.now (begun_open k sends new begun) same in
      let host_so : begun.sent_by.after ≡ stays.now.host
      = same_Some begun.sent_by.after stays.now.host
      (sym begun.sent_by.there_after ∙ ap (tree.get hosts_after) (sym node_so) ∙ stays.now.there) in
      ⊎_elim
      (λ (own : req ≡ new.req). not_begun n req work current stays k sends new begun host_so node_so own)
      (λ (other : req ≢ new.req). one_request n req new.req work begun.work current begun.current stays.now
      (ap (λ (h : Host). tree.get h.node.gateway.works new.req) (sym host_so) ∙ begun.opened.there) begun.opened.making same other)
      (cases_eq req new.req)
