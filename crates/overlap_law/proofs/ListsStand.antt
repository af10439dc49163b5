-- In each run in range, and in the middle of its steps, a list that a node told to a recovery has each object of which the node has a row
-- from before the recovery's epoch.
use Rattle.std.proofs.Common.{◌≡◌, ◌≢◌, ◌⊎◌, inl, inr, ⊎_elim, ℕ, ◌≤◌, ◌==◌, ◌&&◌, not, Bool, true, false, List, Contains, Some, refl, sym}
use Rattle.std.proofs.Common.{ap, subst, ◌∙◌}
use Rattle.std.specs.List.{list_any}
use Rattle.std.specs.FinMap as tree
use Rattle.std.proofs.lemmas.Bool.{eqb-true}
use Rattle.std.proofs.lemmas.Map.Views.{Contains-from_any}
use Rattle.object_id.specs.declared.node.NodeId.{NodeId}
use Rattle.object_list.specs.Gathered.{GatheredLists, has_node, is_same_node, nodes_without}
use Rattle.object_list.specs.Union.{union}
use Rattle.object_list.proofs.GatheredLemmas.{has_node-filter}
use Rattle.object_list.proofs.UnionLemmas.{union-has}
use Rattle.object_store.specs.Store.{rows_of}
use Rattle.cluster_script.specs.declared.statement.Statement.{Statement}
use Rattle.peer_service.specs.State.{Peer}
use Rattle.peer_service.specs.Serve.{tells_refusal}
use Rattle.recovery.specs.State.{Recovery}
use Rattle.sheep_world.specs.World.{Host, is_host_up}
use Rattle.sheep_world.specs.NodeCauses.{NodeCause, IsCause, input_of_cause}
use Rattle.sheep_world.specs.EventKinds.{log_after_return}
use Rattle.sheep_world.specs.Began.{Began}
use Rattle.sheep_world.proofs.NodesByTheLog.{knows_its_number}
use Rattle.overlap_law.specs.Reached.{Hosts}
use Rattle.overlap_law.specs.Each.{EachHost}
use Rattle.overlap_law.specs.Past.{MomentWithPast}
use Rattle.overlap_law.specs.MomentChanges.{MomentChange, RunsAreInRange, KeptByChanges}
use Rattle.overlap_law.proofs.AllAnswersInMoments.{reached_at}
use Rattle.overlap_law.proofs.AnswerersInMoments.{AnswersHold, opening_recovery, kept_answers}
use Rattle.overlap_law.proofs.AnswersInMoments.{not_lost}
use Rattle.overlap_law.proofs.HeardReplies.{IsHeardReply, heard_reply, heard_among, heard_from, heard_epoch, heard_reached}
use Rattle.overlap_law.proofs.KnownSteps.{together}
use Rattle.overlap_law.proofs.ListAnswers.{IsBegun, back_begun}
use Rattle.overlap_law.proofs.ListsReceived.{IsListHeard, ListsReceived, lists_received}
use Rattle.overlap_law.proofs.NodePartsInMoments.{PartsChange, PartsStay, PartsStep, PartsReturn, PartsAreNew, parts_change}
use Rattle.overlap_law.proofs.RowsInTurn.{all_weaker}
use Rattle.overlap_law.proofs.StandingAnswers.{ToldAndStand, kept_standing}
use Rattle.overlap_law.proofs.StandingRows.{AllStand, StandsFrom, rows-stand}
use Rattle.overlap_law.proofs.ToldOfRows.{IsListedBefore, ListTells, found_among, listed-closed, listed-begun, lists_told}

-- the objects that a recovery was told of have each one of which a node that it doesn't wait for has a row from before its epoch
pub record JoinedListsStand (hosts : Hosts) : Type 0 where
  pub each : EachHost hosts (λ n host. (from : NodeId) → from.0 ≢ n → has_node from host.node.recovery.members ≡ true
      → has_node from host.node.recovery.lists.waiting ≡ false → (other : Host) → tree.get hosts from.0 ≡ Some other
      → AllStand (IsListedBefore host.node.recovery.epoch host.node.recovery.lists.objects) other.node.peer)

pub record ListsHold (moment : MomentWithPast) : Type 0 where
  pub told : ToldAndStand ListTells moment
  pub answers : AnswersHold moment
  pub joined : JoinedListsStand moment.world.hosts

-- ---- objects among more

any_contains : (oids : List ℕ) (oid : ℕ) → list_any (λ other. other == oid) oids ≡ true → Contains oids oid
any_contains oids oid any = Contains-from_any {eq = λ (x y : ℕ). y == x} (λ x y same. sym (eqb-true y x same)) oid oids any

pub among_union : (oids others : List ℕ) (oid : ℕ)
    → (list_any (λ other. other == oid) oids ≡ true) ⊎ (list_any (λ other. other == oid) others ≡ true)
    → list_any (λ other. other == oid) (union oids others) ≡ true
among_union oids others oid either =
    found_among (union oids others) oid (union-has oids others oid (⊎_elim
    (λ (own : list_any (λ other. other == oid) oids ≡ true). inl (any_contains oids oid own))
    (λ (too : list_any (λ other. other == oid) others ≡ true). inr (any_contains others oid too))
    either))

-- what is listed among some objects is so among more
more_listed : (epoch : ℕ) (oids more : List ℕ)
    → ((oid : ℕ) → list_any (λ other. other == oid) oids ≡ true → list_any (λ other. other == oid) more ≡ true) → (peer : Peer)
    → AllStand (IsListedBefore epoch oids) peer → AllStand (IsListedBefore epoch more) peer
more_listed epoch oids more so peer all oid =
    all_weaker (IsListedBefore epoch oids oid) (IsListedBefore epoch more oid) (λ row is below. so oid (is below)) (rows_of peer.rows oid)
    (all oid)

listed_stands : (epoch : ℕ) (oids : List ℕ) → StandsFrom epoch (IsListedBefore epoch oids)
listed_stands epoch oids = record {
  ends = λ oid last row is. listed-closed epoch oids oid last row is;
  changes = λ oid row bytes is. is;
  begins = λ oid row come. listed-begun epoch oids oid row come;
}

-- ---- over a change of a moment

-- a node came to the recovery's epoch, and its rows from before are listed among its objects
abbrev IsListedIn : Recovery → Host → Type 0
IsListedIn recovery other =
    (recovery.epoch ≤ other.node.peer.epoch) × AllStand (IsListedBefore recovery.epoch recovery.lists.objects) other.node.peer

-- so does each that the recovery doesn't wait for
abbrev ListsIn : Recovery → NodeId → Host → Type 0
ListsIn recovery from other =
    has_node from recovery.members ≡ true → has_node from recovery.lists.waiting ≡ false → IsListedIn recovery other

module _ (script : List Statement) (range : RunsAreInRange script) (before : MomentWithPast) (holds : ListsHold before) where
  -- of a node before
  were_in : (n : ℕ) (was : Host) → tree.get before.world.hosts n ≡ Some was → (from : NodeId) → from.0 ≢ n → (other : Host)
      → tree.get before.world.hosts from.0 ≡ Some other → ListsIn was.node.recovery from other
  were_in n was there from apart other at member none = (
    reached_at before.world.hosts was.node.recovery.epoch from other at (holds.answers.answered.each n was there from member none),
    holds.joined.each n was there from apart member none other at,
  )

  -- where the recovery begins it waits for each other member
  begun_in : (me : NodeId) (n : ℕ) → me.0 ≡ n → (new : Recovery) → IsBegun me new → (from : NodeId) → from.0 ≢ n → (other : Host)
      → ListsIn new from other
  begun_in me n own new begun from apart other member none =
      by_node (has_node from new.members) (is_same_node me from) refl member
      (sym (has_node-filter (λ (q : NodeId). not (is_same_node me q)) from new.members) ∙ ap (has_node from) (sym begun.waiting) ∙ none)
    where
      by_node : (a b : Bool) → is_same_node me from ≡ b → a ≡ true → (a && not b) ≡ false → IsListedIn new other
      by_node true true same member waits = absurd (apart (eqb-true from.0 me.0 same ∙ own))
      by_node true false same member waits = absurd (cc (waits))
      by_node false b same member waits = absurd (cc (member))

  module _ (n : ℕ) (was : Host) (cause : NodeCause) (began : Began script before.world) (there : tree.get before.world.hosts n ≡ Some was)
      (up : is_host_up was ≡ true) (caused : IsCause script before.world n was cause) (from : NodeId) (apart : from.0 ≢ n) (other : Host)
      (at : tree.get before.world.hosts from.0 ≡ Some other) (new : Recovery) where
    -- a list joins the others
    module _ (heard : IsListHeard (input_of_cause cause) was.node.recovery new) where
      abbrev reply : IsHeardReply before.world n heard.message heard.rsp
      reply = heard_reply script range before.world began n was there cause caused heard.rsp heard.from heard.message heard.number_so

      -- of the node that told it
      of_teller : from.0 ≡ heard.message.to.0 → AllStand (IsListedBefore was.node.recovery.epoch heard.oids) other.node.peer
      of_teller same =
          let asks_in = heard_among script range before.world began n was there up holds.told.told heard.message heard.there heard.rsp
          reply in
          let asked = heard_from script range before.world began n was there up holds.told.told heard.message heard.there heard.rsp reply in
          let epoch = heard_epoch script range before.world began n was there up holds.told.told heard.message heard.there heard.rsp
          reply in
          let node : tree.get before.world.hosts reply.from.0 ≡ Some other
          = ap (λ (q : NodeId). tree.get before.world.hosts q.0) asked ∙ ap (tree.get before.world.hosts) (sym same) ∙ at in
          let all = holds.told.stand.each n was there (not_lost was up) heard.message asks_in reply.from heard.rsp reply.answering
          (ap tells_refusal heard.told) other node in
          subst (λ (k : ℕ). AllStand (IsListedBefore k heard.oids) other.node.peer) epoch
          (λ oid. all_weaker (ListTells heard.message.request heard.rsp.say oid)
          (IsListedBefore heard.message.request.epoch.0 heard.oids oid)
          (λ row is. is heard.oids heard.asked heard.told) (rows_of other.node.peer.rows oid) (all oid))

      teller_came : from.0 ≡ heard.message.to.0 → was.node.recovery.epoch ≤ other.node.peer.epoch
      teller_came same =
          reached_at before.world.hosts was.node.recovery.epoch heard.message.to other
          (ap (tree.get before.world.hosts) (sym same) ∙ at)
          (heard_reached script range before.world began n was there up holds.told.told heard.message heard.there heard.rsp reply
          (ap tells_refusal heard.told))

      abbrev objects : List ℕ
      objects = union was.node.recovery.lists.objects heard.oids

      joined_in : has_node from was.node.recovery.members ≡ true
          → has_node from (nodes_without heard.message.to was.node.recovery.lists.waiting) ≡ false
          → (was.node.recovery.epoch ≤ other.node.peer.epoch) × AllStand (IsListedBefore was.node.recovery.epoch objects) other.node.peer
      joined_in member none =
          by_node (has_node from was.node.recovery.lists.waiting) (is_same_node heard.message.to from) refl refl
          (sym (has_node-filter (λ (q : NodeId). not (is_same_node heard.message.to q)) from was.node.recovery.lists.waiting) ∙ none)
        where
          by_node : (a b : Bool) → has_node from was.node.recovery.lists.waiting ≡ a → is_same_node heard.message.to from ≡ b
              → (a && not b) ≡ false
              → (was.node.recovery.epoch ≤ other.node.peer.epoch)
              × AllStand (IsListedBefore was.node.recovery.epoch objects) other.node.peer
          by_node false b waits same so =
              let (come, all) = were_in n was there from apart other at member waits in (
                come,
                more_listed was.node.recovery.epoch was.node.recovery.lists.objects objects
                    (λ oid own. among_union was.node.recovery.lists.objects heard.oids oid (inl own)) other.node.peer all,
              )
          by_node true true waits same so =
              let own : from.0 ≡ heard.message.to.0 = eqb-true from.0 heard.message.to.0 same in (
                teller_came own,
                more_listed was.node.recovery.epoch heard.oids objects
                    (λ oid too. among_union was.node.recovery.lists.objects heard.oids oid (inr too)) other.node.peer (of_teller own),
              )
          by_node true false waits same so = absurd (cc (so))

    received_in : ListsReceived (input_of_cause cause) was.node new → ListsIn new from other
    received_in (inl on) = λ member none. ⊎_elim
        (λ (same : new.lists ≡ was.node.recovery.lists).
        subst (λ (k : ℕ). (k ≤ other.node.peer.epoch) × AllStand (IsListedBefore k new.lists.objects) other.node.peer) (sym on.epoch)
        (subst (λ (lists : GatheredLists). (was.node.recovery.epoch ≤ other.node.peer.epoch)
        × AllStand (IsListedBefore was.node.recovery.epoch lists.objects) other.node.peer) (sym same)
        (were_in n was there from apart other at (ap (has_node from) (sym on.members) ∙ member)
        (ap (λ (lists : GatheredLists). has_node from lists.waiting) (sym same) ∙ none))))
        (λ (heard : IsListHeard (input_of_cause cause) was.node.recovery new).
        subst (λ (k : ℕ). (k ≤ other.node.peer.epoch) × AllStand (IsListedBefore k new.lists.objects) other.node.peer) (sym on.epoch)
        (subst (λ (lists : GatheredLists). (was.node.recovery.epoch ≤ other.node.peer.epoch)
        × AllStand (IsListedBefore was.node.recovery.epoch lists.objects) other.node.peer) (sym heard.lists_so)
        (joined_in heard (ap (has_node from) (sym on.members) ∙ member)
        (ap (λ (lists : GatheredLists). has_node from lists.waiting) (sym heard.lists_so) ∙ none))))
        on.lists
    received_in (inr (inl begun)) =
        begun_in was.node.recovery.me n own new begun from apart other
      where
        own : was.node.recovery.me.0 ≡ n
        own =
            ap (λ (q : NodeId). q.0) ((together script range before.world began).recoveries n was there).own
            ∙ knows_its_number script before.world began n was there
    received_in (inr (inr begun)) =
        begun_in was.node.me n (knows_its_number script before.world began n was there) new begun from apart other

module _ (script : List Statement) (range : RunsAreInRange script) (start before after : MomentWithPast) (began : Began script start.world)
    (change : MomentChange script start before after) (holds : ListsHold before) where
  -- what the recovery of a node is to know of those that were there before
  by_node : (n : ℕ) (now : Host) → PartsChange script before n now → (from : NodeId) → from.0 ≢ n → (other : Host)
      → tree.get before.world.hosts from.0 ≡ Some other → ListsIn now.node.recovery from other
  by_node n now (PartsStay was there was_up parts) from apart other at =
      subst (λ (r : Recovery). ListsIn r from other) (sym parts.recovery)
      (were_in script range before holds n was there from apart other at)
  by_node n now (PartsStep was cause now_began there up caused parts) from apart other at =
      received_in script range before holds n was cause now_began there up caused from apart other at now.node.recovery
      (subst (ListsReceived (input_of_cause cause) was.node) (sym parts.recovery) (lists_received (input_of_cause cause) was.node))
  by_node n now (PartsReturn was now_began there lost parts) from apart other at =
      let log = log_after_return script n before.world in
      begun_in script range before holds was.node.me n (knows_its_number script before.world now_began n was there) now.node.recovery
      (subst (IsBegun was.node.me) (sym parts.recovery) (back_begun log was.node)) from apart other
  by_node n now (PartsAreNew none parts) from apart other at = λ member waits.
      let no : has_node from now.node.recovery.members ≡ false = ap (λ (r : Recovery). has_node from r.members) parts.recovery in
      absurd (cc (no, member))

  change_joined : JoinedListsStand after.world.hosts
  change_joined = record {
    each = λ n now there from apart member none other at.
        rows-stand now.node.recovery.epoch (IsListedBefore now.node.recovery.epoch now.node.recovery.lists.objects)
        (listed_stands now.node.recovery.epoch now.node.recovery.lists.objects) script range start began change from.0
        (λ was was_at.
        by_node n now (parts_change script range start began change n now there) from apart was was_at member none)
        other at;
  }

-- ---- every moment

pub kept_lists : (script : List Statement) → RunsAreInRange script → KeptByChanges script ListsHold
kept_lists script range = record {
  opens = record {
    told = (kept_standing ListTells lists_told script range).opens;
    answers = (kept_answers script range).opens;
    joined = record {
      each = λ n host there from apart member none other at.
          let (opened, is) = opening_recovery script n host there in
          let no : has_node from host.node.recovery.members ≡ false = ap (λ (r : Recovery). has_node from r.members) is in
          absurd (cc (no, member));
    };
  };
  keeps = λ start before after began change holds. record {
    told = (kept_standing ListTells lists_told script range).keeps start before after began change holds.told;
    answers = (kept_answers script range).keeps start before after began change holds.answers;
    joined = change_joined script range start before after began change holds;
  };
}
