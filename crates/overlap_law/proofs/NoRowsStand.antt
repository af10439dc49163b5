-- In each run in range, at each moment on the way of an event, a node that told that it has no row of a level has none, whether or not the
-- object is good: later rows begin in the epoch of the recovery that asked, or behind it.
use Rattle.std.proofs.Common.{◌≡◌, ⊎_elim, ℕ, ◌<◌, nat_le, ◌&&◌, ◌||◌, Bool, true, false, List, [], ◌∷◌, Contains, Option}
use Rattle.std.proofs.Common.{Some, None, refl, sym, ap, subst, ◌∙◌}
use Rattle.std.specs.Option.{IfSome}
use Rattle.std.specs.List.{AllByRecursion, list_any}
use Rattle.std.specs.FinMap as tree
use Rattle.std.proofs.lemmas.List.Elements.{Contains-append_left}
use Rattle.object_id.specs.declared.node.Epoch.{Epoch}
use Rattle.object_id.specs.declared.node.NodeId.{NodeId}
use Rattle.object_store.specs.Rows.{reaches, holds}
use Rattle.object_store.specs.Store.{SeenRow, rows_of}
use Rattle.cluster_script.specs.declared.statement.Statement.{Statement}
use Rattle.peer_proto.specs.declared.say.PeerSay.TheVariants as says
use Rattle.peer_service.specs.State.{Peer}
use Rattle.peer_service.specs.Serve.{row_or_none, tells_refusal}
use Rattle.recovery.specs.declared.search.RowAnswer.{RowAnswer}
use Rattle.recovery.specs.State.{Message, Search, Recovery}
use Rattle.sheep_node.specs.declared.input.Input.{Input}
use Rattle.sheep_node.specs.declared.input.Input.TheVariants as inputs
use Rattle.sheep_world.specs.World.{Host, is_host_up}
use Rattle.sheep_world.specs.NodeCauses.{NodeCause, IsCause, input_of_cause}
use Rattle.sheep_world.specs.EventKinds.{log_after_return}
use Rattle.sheep_world.specs.Began.{Began}
use Rattle.sheep_world.specs.RunsWithAsks.{Move}
use Rattle.overlap_law.specs.Reached.{Hosts}
use Rattle.overlap_law.specs.Each.{EachHost, end_of_row, row_covers, holds_level}
use Rattle.overlap_law.specs.Past.{MomentWithPast, run_with_past}
use Rattle.overlap_law.specs.MomentChanges.{MomentChange, MomentTrail, RunsAreInRange, KeptByChanges}
use Rattle.overlap_law.specs.Searches.{NoRowIsTrue}
use Rattle.overlap_law.specs.ToldRows.{IsRowUnderWay, IsRowKept}
use Rattle.overlap_law.proofs.AllAnswersInMoments.{reached_at}
use Rattle.overlap_law.proofs.AnswerersInMoments.{opening_recovery}
use Rattle.overlap_law.proofs.AnswersInMoments.{not_lost}
use Rattle.overlap_law.proofs.AttemptMessages.{contains_at}
use Rattle.overlap_law.proofs.FirstSearchesInRuns.{IsWithinLevels, levels-in_world}
use Rattle.overlap_law.proofs.HeardReplies.{IsHeardReply, heard_reply, at_level, heard_among, heard_from, heard_epoch}
use Rattle.overlap_law.proofs.NodePartsInMoments.{PartsChange, PartsStay, PartsStep, PartsReturn, PartsAreNew, parts_change}
use Rattle.overlap_law.proofs.PastLevels.{past-on_the_way}
use Rattle.overlap_law.proofs.RecoveriesInWorlds.{recoveries-on_the_way}
use Rattle.overlap_law.proofs.RowsInTurn.{all_weaker}
use Rattle.overlap_law.proofs.RunsByChanges.{on_the_way}
use Rattle.overlap_law.proofs.SearchAnswers.{AnswerCame, AnswersReceived, IsRowHeard, answers_received}
use Rattle.overlap_law.proofs.StandingAnswers.{ToldAndStand, kept_standing}
use Rattle.overlap_law.proofs.StandingRows.{AllStand, StandsFrom, rows-stand}
use Rattle.overlap_law.proofs.TellersInMoments.{TellersHold, answer_come, kept_tellers}
use Rattle.overlap_law.proofs.ToldOfRows.{LacksLevel, NoRowTells, lacks-closed, lacks-begun, no_rows_told}

-- a node whose answer that it has no row is kept has none that holds the search's level
pub record NoRowsKept (hosts : Hosts) : Type 0 where
  pub each : EachHost hosts (λ n host. (search : Search) → host.node.recovery.search ≡ Some search → (answer : RowAnswer)
      → Contains search.answers answer → answer.row ≡ None → (other : Host) → tree.get hosts answer.from.0 ≡ Some other
      → AllStand (LacksLevel host.node.recovery.epoch search.oid search.level) other.node.peer)

pub record NoRowsHold (moment : MomentWithPast) : Type 0 where
  pub told : ToldAndStand NoRowTells moment
  pub tellers : TellersHold moment
  pub none : NoRowsKept moment.world.hosts

lacks_stands : (epoch of level : ℕ) → StandsFrom epoch (LacksLevel epoch of level)
lacks_stands epoch of level = record {
  ends = λ oid last row is same below. lacks-closed level last row (is same below);
  changes = λ oid row bytes is. is;
  begins = λ oid row come same below. lacks-begun epoch level row below come;
}

-- ---- over a change of a moment

module _ (script : List Statement) (range : RunsAreInRange script) (before : MomentWithPast) (holds_before : NoRowsHold before) where
  -- an answer after an input tells of the rows that there were before
  received_none : (n : ℕ) (was : Host) (input : Input) → tree.get before.world.hosts n ≡ Some was → (new : Recovery) (search : Search)
      (answer : RowAnswer) → AnswerCame (IsRowHeard input was.node.recovery.unanswered) was.node.recovery new search answer
      → answer.row ≡ None → (other : Host) → tree.get before.world.hosts answer.from.0 ≡ Some other
      → ((one : Search) → was.node.recovery.search ≡ Some one → IsRowHeard input was.node.recovery.unanswered one answer
      → AllStand (LacksLevel was.node.recovery.epoch one.oid one.level) other.node.peer)
      → AllStand (LacksLevel new.epoch search.oid search.level) other.node.peer
  received_none n was input there new search answer came none other at by_heard =
      subst (λ (k : ℕ). AllStand (LacksLevel k search.oid search.level) other.node.peer) (sym came.epoch_so)
      (subst (λ (k : ℕ). AllStand (LacksLevel was.node.recovery.epoch search.oid k) other.node.peer) came.level_so
      (subst (λ (k : ℕ). AllStand (LacksLevel was.node.recovery.epoch k came.one.level) other.node.peer) came.oid_so
      (⊎_elim
      (λ (kept : Contains came.one.answers answer). holds_before.none.each n was there came.one came.was answer kept none other at)
      (λ (heard : IsRowHeard input was.node.recovery.unanswered came.one answer). by_heard came.one came.was heard)
      came.kept)))

  module _ (n : ℕ) (was : Host) (cause : NodeCause) (began : Began script before.world) (there : tree.get before.world.hosts n ≡ Some was)
      (up : is_host_up was ≡ true) (caused : IsCause script before.world n was cause) where
    heard_none : (one : Search) → was.node.recovery.search ≡ Some one → (answer : RowAnswer) → answer.row ≡ None → (other : Host)
        → tree.get before.world.hosts answer.from.0 ≡ Some other → IsRowHeard (input_of_cause cause) was.node.recovery.unanswered one answer
        → AllStand (LacksLevel was.node.recovery.epoch one.oid one.level) other.node.peer
    heard_none one searched answer none other at heard =
        let message : Message = heard.message in
        let reply : IsHeardReply before.world n message heard.rsp
        = heard_reply script range before.world began n was there cause caused heard.rsp heard.from message heard.number_so in
        let among = heard_among script range before.world began n was there up holds_before.told.told message heard.there heard.rsp reply in
        let asked = heard_from script range before.world began n was there up holds_before.told.told message heard.there heard.rsp reply in
        let epoch = heard_epoch script range before.world began n was there up holds_before.told.told message heard.there heard.rsp reply in
        let node : tree.get before.world.hosts reply.from.0 ≡ Some other
        = ap (λ (q : NodeId). tree.get before.world.hosts q.0) (asked ∙ sym heard.by) ∙ at in
        let said : heard.rsp.say ≡ says.NoRow = heard.told ∙ ap row_or_none none in
        let all = holds_before.told.stand.each n was there (not_lost was up) message among reply.from heard.rsp reply.answering
        (ap tells_refusal said) other node in
        let level : heard.level.0 ≡ one.level
        = at_level script range before.world began n was there one searched message heard.there heard.level heard.asked in
        subst (λ (k : ℕ). AllStand (LacksLevel was.node.recovery.epoch one.oid k) other.node.peer) level
        (subst (λ (k : ℕ). AllStand (LacksLevel k one.oid heard.level.0) other.node.peer) epoch
        (λ oid. all_weaker (NoRowTells message.request heard.rsp.say oid) (LacksLevel message.request.epoch.0 one.oid heard.level.0 oid)
        (λ row is. is one.oid heard.level heard.asked said) (rows_of other.node.peer.rows oid) (all oid)))

module _ (script : List Statement) (range : RunsAreInRange script) (start before after : MomentWithPast) (began : Began script start.world)
    (change : MomentChange script start before after) (holds_before : NoRowsHold before) where
  none_before : (n : ℕ) (now : Host) → PartsChange script before n now → (search : Search) → now.node.recovery.search ≡ Some search
      → (answer : RowAnswer) → Contains search.answers answer → answer.row ≡ None → (other : Host)
      → tree.get before.world.hosts answer.from.0 ≡ Some other
      → AllStand (LacksLevel now.node.recovery.epoch search.oid search.level) other.node.peer
  none_before n now (PartsStay was there was_up parts) search is answer among none other at =
      subst (λ (r : Recovery). AllStand (LacksLevel r.epoch search.oid search.level) other.node.peer) (sym parts.recovery)
      (holds_before.none.each n was there search (ap (λ (r : Recovery). r.search) (sym parts.recovery) ∙ is) answer among none other at)
  none_before n now (PartsStep was cause now_began there up caused parts) search is answer among none other at =
      received_none script range before holds_before n was (input_of_cause cause) there now.node.recovery search answer
      (subst (AnswersReceived (input_of_cause cause) was.node) (sym parts.recovery) (answers_received (input_of_cause cause) was.node)
      search is answer among)
      none other at
      (λ one searched heard.
      heard_none script range before holds_before n was cause now_began there up caused one searched answer none other at heard)
  none_before n now (PartsReturn was now_began there lost parts) search is answer among none other at =
      let input = inputs.Back (log_after_return script n before.world) in
      received_none script range before holds_before n was input there now.node.recovery search answer
      (subst (AnswersReceived input was.node) (sym parts.recovery) (answers_received input was.node) search is answer among)
      none other at (λ one searched heard. (let from = heard.from in absurd (cc (from))))
  none_before n now (PartsAreNew fresh parts) search is answer among none other at =
      let both : ◌≡◌ {A = Option Search} None (Some search) = ap (λ (r : Recovery). r.search) (sym parts.recovery) ∙ is in
      absurd (cc (both))

  change_none : NoRowsKept after.world.hosts
  change_none = record {
    each = λ n now there search is answer among none other at.
        let change_of = parts_change script range start began change n now there in
        rows-stand now.node.recovery.epoch (LacksLevel now.node.recovery.epoch search.oid search.level)
        (lacks_stands now.node.recovery.epoch search.oid search.level) script range start began change answer.from.0
        (λ was was_at. (
          reached_at before.world.hosts now.node.recovery.epoch answer.from was was_at
              (answer_come script range start before after began change holds_before.tellers n now search is answer among change_of),
          none_before n now change_of search is answer among none was was_at,
        ))
        other at;
  }

-- ---- every moment

pub kept_no_rows : (script : List Statement) → RunsAreInRange script → KeptByChanges script NoRowsHold
kept_no_rows script range = record {
  opens = record {
    told = (kept_standing NoRowTells no_rows_told script range).opens;
    tellers = (kept_tellers script range).opens;
    none = record {
      each = λ n host there search is answer among none other at.
          let (opened, same) = opening_recovery script n host there in
          let both : ◌≡◌ {A = Option Search} None (Some search) = ap (λ (r : Recovery). r.search) (sym same) ∙ is in
          absurd (cc (both));
    };
  };
  keeps = λ start before after began change holds. record {
    told = (kept_standing NoRowTells no_rows_told script range).keeps start before after began change holds.told;
    tellers = (kept_tellers script range).keeps start before after began change holds.tellers;
    none = change_none script range start before after began change holds;
  };
}

-- ---- what doesn't hold a level doesn't cover it

one_covers_not : (epoch level : ℕ) (row : SeenRow) → holds level row ≡ false → row_covers epoch level row ≡ false
one_covers_not epoch level row lacks = by_end row.to lacks
  where
    by_end : (to : Option Epoch) → (nat_le row.from.0 level && reaches level to) ≡ false
        → (nat_le row.from.0 level && nat_le level (end_of_row epoch to)) ≡ false
    by_end None lacks = by_from (nat_le row.from.0 level) lacks
      where
        by_from : (b : Bool) → (b && true) ≡ false → (b && nat_le level epoch) ≡ false
        by_from true none = absurd (cc (none))
        by_from false none = refl
    by_end (Some last) lacks = lacks

none_cover : (epoch level : ℕ) (rows : List SeenRow) → AllByRecursion (λ row. holds level row ≡ false) rows
    → list_any (row_covers epoch level) rows ≡ false
none_cover epoch level [] all = refl
none_cover epoch level (row ∷ rows) all =
    ap (λ (b : Bool). b || list_any (row_covers epoch level) rows) (one_covers_not epoch level row all.0)
    ∙ none_cover epoch level rows all.1

-- of a node that is there, or isn't
no_level : (o : Option Host) (oid level : ℕ) → ((host : Host) → o ≡ Some host
    → AllByRecursion (λ row. holds level row ≡ false) (rows_of host.node.peer.rows oid)) → holds_level o oid level ≡ false
no_level None oid level lacks = refl
no_level (Some host) oid level lacks = none_cover host.node.peer.epoch level (rows_of host.node.peer.rows oid) (lacks host refl)

-- the levels of a recovery's search
abbrev LevelsWithin : ℕ → Recovery → Peer → Type 0
LevelsWithin n recovery peer = IfSome recovery.search (IsWithinLevels recovery.epoch)

module _ (script : List Statement) (range : RunsAreInRange script) (events : List Move) (start moment : MomentWithPast)
    (is : run_with_past script events ≡ Some start) (trail : MomentTrail script start moment) where
  no_rows_hold : NoRowsHold moment
  no_rows_hold = on_the_way script NoRowsHold (kept_no_rows script range) events start moment is trail

  levels : (n : ℕ) (host : Host) → tree.get moment.world.hosts n ≡ Some host → LevelsWithin n host.node.recovery host.node.peer
  levels = recoveries-on_the_way script LevelsWithin (levels-in_world script range) events start moment is trail

  under_way : (n : ℕ) (host : Host) → tree.get moment.world.hosts n ≡ Some host → host.is_lost ≡ false → (from : NodeId)
      (epoch oid level : ℕ) → IsRowUnderWay moment.world.wire n host.node.recovery from epoch oid level None
      → holds_level (tree.get moment.world.hosts from.0) oid level ≡ false
  under_way n host there up from epoch oid level way = no_level (tree.get moment.world.hosts from.0) oid level (λ other at.
      let message : Message = way.message in
      let among = Contains-append_left host.node.recovery.unanswered host.node.recovery.older message
      (contains_at host.node.recovery.unanswered way.place message way.unanswered) in
      let below : level < message.request.epoch.0
      = past-on_the_way script range events start moment is trail n host there message among oid (record { 0 = level }) way.asked in
      all_weaker (NoRowTells message.request way.reply.say oid) (λ row. holds level row ≡ false)
      (λ row tells. tells oid (record { 0 = level }) way.asked way.said refl below) (rows_of other.node.peer.rows oid)
      (no_rows_hold.told.stand.each n host there up message among from way.reply way.answering (ap tells_refusal way.said) other at oid))

  kept_by : (n : ℕ) (host : Host) → tree.get moment.world.hosts n ≡ Some host → (from : NodeId) (epoch oid level : ℕ)
      → IsRowKept host.node from epoch oid level None → holds_level (tree.get moment.world.hosts from.0) oid level ≡ false
  kept_by n host there from epoch oid level kept =
      let search : Search = kept.search in
      let below : search.level < host.node.recovery.epoch
      = (subst (λ (o : Option Search). IfSome o (IsWithinLevels host.node.recovery.epoch)) kept.there (levels n host there)).1 in
      subst (λ (k : ℕ). holds_level (tree.get moment.world.hosts from.0) oid k ≡ false) kept.of_level
      (subst (λ (k : ℕ). holds_level (tree.get moment.world.hosts from.0) k search.level ≡ false) kept.of_object
      (no_level (tree.get moment.world.hosts from.0) search.oid search.level (λ other at.
      all_weaker (LacksLevel host.node.recovery.epoch search.oid search.level search.oid) (λ row. holds search.level row ≡ false)
      (λ row lacks. lacks refl below) (rows_of other.node.peer.rows search.oid)
      (no_rows_hold.none.each n host there search kept.there kept.answer
      (contains_at search.answers kept.place kept.answer kept.among) kept.told other
      (ap (λ (q : NodeId). tree.get moment.world.hosts q.0) kept.from_it ∙ at) search.oid))))

  pub no_rows_true-on_the_way : (good : ℕ → Bool) → NoRowIsTrue good moment.world.hosts moment.world.wire
  no_rows_true-on_the_way good = record {
    each = λ n host there up from epoch oid level told is_good. ⊎_elim
        (λ (way : IsRowUnderWay moment.world.wire n host.node.recovery from epoch oid level None).
        under_way n host there up from epoch oid level way)
        (λ (kept : IsRowKept host.node from epoch oid level None). kept_by n host there from epoch oid level kept)
        told;
  }
