-- The moment that a script opens with has the invariant: its nodes have read of themselves alone, and nobody has asked, written or
-- recovered anything.
use Rattle.std.proofs.Common.{◌≡◌, ⊎_elim, ℕ, true, false, List, [], ◌∷◌, All, Option, Some, None, slice_get, refl, sym, ap, subst, ◌∙◌}
use Rattle.std.specs.Ordering.{nat_cmp}
use Rattle.std.specs.FinMap as tree
use Rattle.std.proofs.lemmas.List.Elements.{All-nil, All-push}
use Rattle.proof_tools.proofs.Booleans.{cond_either}
use Rattle.object_id.specs.declared.entry.Entry.{Entry}
use Rattle.object_id.specs.declared.entry.Entry.TheVariants as entries
use Rattle.object_id.specs.declared.entry.Member.{Member}
use Rattle.object_id.specs.declared.node.NodeId.{NodeId}
use Rattle.object_store.specs.declared.row.RowCopy.{RowCopy}
use Rattle.object_store.specs.Store.{SeenRow, rows_of}
use Rattle.cluster_script.specs.declared.statement.Statement.{Statement}
use Rattle.cluster_script.specs.Settings.{tries_of}
use Rattle.vdi_directory.specs.Decisions.{log_effects}
use Rattle.vdi_directory.specs.States.{Unused, state_of, is_live_state}
use Rattle.peer_service.specs.LogReading.{decision_on}
use Rattle.peer_proto.specs.declared.work.ObjWork.{ObjWork}
use Rattle.gateway.specs.State as gateways
use Rattle.gateway.specs.State.{Work}
use Rattle.recovery.specs.State as recoveries
use Rattle.recovery.specs.State.{Recovery, Message, Search, all_unanswered, is_listed, search_on, still_on}
use Rattle.sheep_node.specs.declared.course.Request.{Request}
use Rattle.sheep_node.specs.declared.input.Input.TheVariants as inputs
use Rattle.sheep_node.specs.declared.session.Session.{Session}
use Rattle.sheep_node.specs.State as nodes
use Rattle.sheep_node.specs.State.{Node}
use Rattle.sheep_node.specs.StepState.{StepState, at_first, with_node}
use Rattle.sheep_node.specs.LogReading.{entry_read, asker_of, decision_told, on_log_entry}
use Rattle.sheep_node.specs.RecoveryView.{recovery_state_of}
use Rattle.sheep_node.specs.Step.{node_step, on_input, is_due, with_recovered, recovered_put}
use Rattle.sheep_world.specs.World.{Host}
use Rattle.sheep_world.specs.Opening.{initial_world}
use Rattle.cluster_script.specs.Settings.{opening_members}
use Rattle.sheep_world.proofs.ValidNodes.{got_is}
use Rattle.sheep_world.proofs.WireAtOpening.{opening_found, nobody_asks}
use Rattle.overlap_law.specs.Tables.{candidates, is_snapshot_effect}
use Rattle.overlap_law.specs.Drafts.{published_by}
use Rattle.overlap_law.specs.Past.{MomentWithPast, first_moment, run_with_past, run_on}
use Rattle.overlap_law.specs.ToldRows.{IsRowUnderWay, IsRowKept, ToldRow}
use Rattle.overlap_law.specs.MomentChanges.{RunsAreInRange}
use Rattle.overlap_law.specs.ToDo.{IsOpen, IsInLine, IsToDo}
use Rattle.overlap_law.specs.Overlap.{Overlap, OverlapOf}
use Rattle.overlap_law.proofs.BornInRuns.{born-in_run}
use Rattle.overlap_law.proofs.JoinsInRuns.{joins_in_run}
use Rattle.overlap_law.proofs.KeptByMoves.{IsKeptByMoves, kept_by_moves}

-- ---- the nodes

-- nobody has asked a node anything, and it has asked nothing; what it puts publishes nothing
record IsBare (me : NodeId) (tries : ℕ) (node : Node) : Type 0 where
  pub requests : node.requests ≡ tree.empty
  pub sessions : node.sessions ≡ tree.empty
  pub gateway : node.gateway ≡ gateways.initial_gateway me tries
  pub recovery : node.recovery ≡ recoveries.initial_recovery me
  pub publishes : All (λ (entry : Entry). published_by entry ≡ None) node.outbox

module _ (me : NodeId) (tries : ℕ) (members : List Member) where
  read_bare : IsBare me tries (entry_read (entries.Format members) (nodes.initial_node me tries))
  unfolding entry_read
  read_bare = record {
    requests = refl;
    sessions = refl;
    gateway = refl;
    recovery = refl;
    publishes = All-nil (λ (entry : Entry). published_by entry ≡ None);
  }

  recovered_bare : (so_far : StepState) → IsBare me tries so_far.node → IsBare me tries (with_recovered so_far).node
  recovered_bare so_far bare = record {
    requests = bare.requests;
    sessions = bare.sessions;
    gateway = bare.gateway;
    recovery = bare.recovery;
    publishes = All-push (λ (entry : Entry). published_by entry ≡ None) so_far.node.outbox
        (entries.Recovered so_far.node.me (record { 0 = so_far.node.recovery.epoch })) bare.publishes refl;
  }

  put_bare : (so_far : StepState) → IsBare me tries so_far.node → IsBare me tries (recovered_put so_far).node
  unfolding recovered_put
  put_bare so_far bare =
      cond_either (λ (so_far : StepState). IsBare me tries so_far.node) (is_due so_far.node) (with_recovered so_far) so_far
      (recovered_bare so_far bare) bare

  stepped_bare : IsBare me tries (node_step (inputs.LogEntry (entries.Format members)) (nodes.initial_node me tries)).node
  unfolding node_step on_input on_log_entry
  stepped_bare =
      let node = nodes.initial_node me tries in
      let so_far = with_node (entry_read (entries.Format members) node) (at_first node) in
      put_bare
      (decision_told (decision_on (entries.Format members) node.peer) (asker_of (entries.Format members) node) so_far)
      (subst (λ (o : Option (ℕ × Request)). IsBare me tries (decision_told (decision_on (entries.Format members) node.peer) o so_far).node)
      (sym (nobody_asks (entries.Format members) me tries)) read_bare)

-- without attempts nothing may be read of an inode
no_candidate : (vid index : ℕ) (read : List ℕ) → candidates [] vid index ≡ Some read → ⊥
unfolding candidates
no_candidate vid index read is = cc (is)

-- what a log of its opening alone has done to ids: nothing
pub unused_at_opening : (members : List Member) (vid : ℕ) → state_of (log_effects (entries.Format members ∷ [])) vid ≡ Unused
unfolding log_effects state_of
unused_at_opening members vid = refl

module _ (script : List Statement) where
  abbrev first : MomentWithPast
  first = first_moment script

  abbrev IsBareAt : Node → Type 0
  IsBareAt node = (me : NodeId) × IsBare me (tries_of script) node

  bare_at : (n : ℕ) (host : Host) → tree.get first.world.hosts n ≡ Some host → IsBareAt host.node
  unfolding initial_world
  bare_at n host got =
      let (member, own, same) = opening_found script n host got in (
        member.node,
        subst (λ (host : Host). IsBare member.node (tries_of script) host.node) same
            (stepped_bare member.node (tries_of script) (opening_members script)),
      )

  -- ---- what there isn't

  module _ (n : ℕ) (host : Host) (got : tree.get first.world.hosts n ≡ Some host) where
    pub no_request : {P : Type 0} (req : ℕ) (request : Request) → tree.get host.node.requests req ≡ Some request → P
    no_request req request there =
        let (me, bare) = bare_at n host got in
        let none = ap (λ (m : tree.FinMap nat_cmp Request). tree.get m req) bare.requests ∙ tree.get-empty {X = Request} nat_cmp req in
        absurd (cc (none, there))

    pub no_session : {P : Type 0} (number : ℕ) (session : Session) → tree.get host.node.sessions number ≡ Some session → P
    no_session number session there =
        let (me, bare) = bare_at n host got in
        let none = ap (λ (m : tree.FinMap nat_cmp Session). tree.get m number) bare.sessions
        ∙ tree.get-empty {X = Session} nat_cmp number in
        absurd (cc (none, there))

    no_work : {P : Type 0} (req : ℕ) (work : Work) → tree.get host.node.gateway.works req ≡ Some work → P
    no_work req work there =
        let (me, bare) = bare_at n host got in
        let none = ap (λ (gateway : gateways.Gateway). tree.get gateway.works req) bare.gateway ∙ tree.get-empty {X = Work} nat_cmp req in
        absurd (cc (none, there))

    nothing_to_do : {P : Type 0} (work : ObjWork) → IsToDo host.node work → P
    nothing_to_do {P} work = ⊎_elim
        (λ (opened : IsOpen host.node work). no_work opened.req opened.open_work opened.there)
        (λ (lined : IsInLine host.node work). no_session lined.number lined.session lined.there)

    nothing_unanswered : {P : Type 0} (place : ℕ) (message : Message) → slice_get (all_unanswered host.node.recovery) place ≡ Some message
        → P
    nothing_unanswered place message there =
        let (me, bare) = bare_at n host got in
        let none = ap (λ (recovery : Recovery). slice_get (all_unanswered recovery) place) bare.recovery in
        absurd (cc (none, there))

    nothing_own : {P : Type 0} (place : ℕ) (message : Message) → slice_get host.node.recovery.unanswered place ≡ Some message → P
    nothing_own place message there =
        let (me, bare) = bare_at n host got in
        let none = ap (λ (recovery : Recovery). slice_get recovery.unanswered place) bare.recovery in
        absurd (cc (none, there))

    no_search : {P : Type 0} (search : Search) → search_on (recovery_state_of host.node) ≡ Some search → P
    no_search search there =
        let (me, bare) = bare_at n host got in
        let none = ap (λ (recovery : Recovery). still_on host.node.peer.pending recovery.search) bare.recovery in
        absurd (cc (none, there))

    none_searched : {P : Type 0} (search : Search) → host.node.recovery.search ≡ Some search → P
    none_searched search there =
        let (me, bare) = bare_at n host got in
        let none = ap (λ (recovery : Recovery). recovery.search) bare.recovery in
        absurd (cc (none, there))

    is_finished_list : is_listed host.node.recovery ≡ true
    is_finished_list = let (me, bare) = bare_at n host got in ap is_listed bare.recovery

    nothing_told : {P : Type 0} (from : NodeId) (epoch oid level : ℕ) (row : Option RowCopy)
        → ToldRow first.world.wire n host.node from epoch oid level row → P
    nothing_told {P} from epoch oid level row = ⊎_elim
        (λ (on_its_way : IsRowUnderWay first.world.wire n host.node.recovery from epoch oid level row).
        nothing_own on_its_way.place on_its_way.message on_its_way.unanswered)
        (λ (kept : IsRowKept host.node from epoch oid level row). none_searched kept.search kept.there)

  module _ (range : RunsAreInRange script) where
    is_run : run_with_past script [] ≡ Some first
    unfolding run_with_past run_on
    is_run = refl

    of_run : IsKeptByMoves script first
    of_run = kept_by_moves script range [] first is_run

    no_row : {P : Type 0} (n : ℕ) (host : Host) → tree.get first.world.hosts n ≡ Some host → (oid i : ℕ) (row : SeenRow)
        → slice_get (rows_of host.node.peer.rows oid) i ≡ Some row → P
    no_row n host got oid i row there = absurd (cc ((born-in_run script range [] first is_run).rows n host got oid i row there))

    -- ---- the groups

    overlap_at_opening : Overlap first
    unfolding initial_world
    overlap_at_opening = record {
      flight = of_run.wire;
      attempts = record {
        fates = of_run.tied.fates;
        incarnations = of_run.tied.incarnations;
        reached = of_run.tied.reached;
        shape = of_run.shaped.shape;
        units = record { each = λ j attempt there. absurd (cc (there)) };
        known = of_run.shaped.known;
        ordered = record { each = λ j attempt there. absurd (cc (there)) };
        latest = record { each = λ n host got up req work current there. no_work n host got req work there };
        of_works = of_run.works;
        worked = of_run.fates;
        touched = of_run.touched;
        losers = of_run.losers;
        untouched = of_run.untouched;
        create_first = record { each = λ j attempt there. absurd (cc (there)) };
      };
      writers = of_run.writers;
      terms = of_run.epochs;
      rows = record {
        ends = of_run.ends;
        one_open = of_run.one_open;
        apart = of_run.rows_apart;
        row_shape = record { each = λ n host got oid i row there. no_row n host got oid i row there };
        placed = record { each = λ n host got oid i row there. no_row n host got oid i row there };
        begun = record { each = λ n host got oid i row there. no_row n host got oid i row there };
        stays = of_run.stays;
        since = record { each = λ n host got oid i row there. no_row n host got oid i row there };
        of_attempts = record { each = λ n host got oid i row there. no_row n host got oid i row there };
        kept = record { each = λ n host got oid epoch policy good. absurd (cc (good)) };
        carried = record { own = λ j attempt there. absurd (cc (there)); later = λ j attempt there. absurd (cc (there)) };
      };
      searches = record {
        listing = record {
          pending = λ n host got up unlisted. let listed = is_finished_list n host got in absurd (cc (listed, unlisted));
          search = λ n host got up unlisted. let listed = is_finished_list n host got in absurd (cc (listed, unlisted));
          missing = λ n host got up unlisted. let listed = is_finished_list n host got in absurd (cc (listed, unlisted));
        };
        told_beyond = record {
          lists = λ n host got up from epoch oids on_its_way.
              nothing_unanswered n host got on_its_way.place on_its_way.message on_its_way.unanswered;
          rows = λ n host got up from epoch oid level row told. nothing_told n host got from epoch oid level row told;
        };
        list_told = record { each = λ n host got up q teller there oids told oid live. absurd (cc (live)) };
        complete = record { each = λ n host got oid before listed good. absurd (cc (good)) };
        pending = record {
          target = λ n host got up oid policy pending live. absurd (cc (live));
          lacked = λ n host got up oid pending live. absurd (cc (live));
          known = λ n host got up oid pending live. absurd (cc (live));
        };
        has = record { each = λ n host got up oid index policy listed good. absurd (cc (good)) };
        search_first = record {
          first = λ n host got up search on. no_search n host got search on;
          below = λ n host got up search on. no_search n host got search on;
          above = λ n host got up search on. no_search n host got search on;
        };
        asked = record { each = λ n host got up search policy on. no_search n host got search on };
        row_told = record {
          each = λ n host got up from epoch oid level row policy told. nothing_told n host got from epoch oid level (Some row) told;
        };
        row_told_since = record {
          each = λ n host got up from epoch oid level row policy told. nothing_told n host got from epoch oid level (Some row) told;
        };
        told_of_attempts = record {
          each = λ n host got up from epoch oid level row policy told. nothing_told n host got from epoch oid level (Some row) told;
        };
        norow_told = record { each = λ n host got up from epoch oid level told. nothing_told n host got from epoch oid level None told };
        passed = record { each = λ n host got up search policy level on. no_search n host got search on };
        not_missing = record { each = λ n host got up oid before listed good. absurd (cc (good)) };
      };
      tables = record {
        entries = record { each = λ j attempt there. absurd (cc (there)) };
        own = record { each = λ j attempt there. absurd (cc (there)) };
        chains = record {
          chain = λ n host got up number index session disk there. no_session n host got number session there;
          own = λ n host got up number index session disk there. no_session n host got number session there;
        };
        published = record {
          each = λ vid live.
              let unused : is_live_state (state_of (log_effects first.world.log) vid) ≡ false
              = ap is_live_state (unused_at_opening (opening_members script) vid) in
              absurd (cc (unused, live));
        };
        table = record { each = λ n host got up number index session disk there. no_session n host got number session there };
        frozen = record {
          each = λ vid index spec snapshot.
              let unused : is_snapshot_effect (state_of (log_effects first.world.log) vid) ≡ false
              = ap is_snapshot_effect (unused_at_opening (opening_members script) vid) in
              absurd (cc (unused, snapshot));
        };
        table_made = record { each = λ n host got up number index session disk there. no_session n host got number session there };
      };
      written = record {
        written = record {
          entered = λ vid index unit disk spec block. absurd (cc (block.there));
          holes = λ vid index unit disk spec block. absurd (cc (block.there));
          made = λ vid index unit home disk spec block. absurd (cc (block.there));
          each = λ vid index unit home disk spec block. absurd (cc (block.there));
        };
        sound = record { each = λ vid index unit home place disk spec base later block. absurd (cc (block.there)) };
      };
      courses = record {
        waited_for = record {
          opened = λ n host got up req work there. no_work n host got req work there;
          lined = λ n host got up number place session waiting there. no_session n host got number session there;
        };
        granted = of_run.granted;
        drawn = record { each = λ vid index entry draft candidate. absurd (no_candidate vid index candidate.entries candidate.there) };
        created = record {
          created = λ n host got up place entry vid there published.
              let (me, bare) = bare_at n host got in
              let none = got_is (λ (entry : Entry). published_by entry ≡ None) host.node.outbox place entry bare.publishes there in
              absurd (cc (none, published));
          table = λ n host got up req index request op entry inode there. no_request n host got req request there;
        };
      };
      pieces = record {
        named = record {
          each = λ n host got up work vid index to_do. nothing_to_do n host got work to_do.to_do;
          own = λ n host got up work vid index to_do. nothing_to_do n host got work to_do.to_do;
        };
        to_make = record { each = λ n host got up work vid index unit disk spec to_do. nothing_to_do n host got work to_do };
        to_write = record {
          each = λ n host got up req place unit request opened disk piece on. no_request n host got req request on.there;
        };
        alone = record {
          entry = λ n host got up req index unit place request opened disk item payload stage piece rest on. no_request n host got req
              request on.there;
          bytes = λ n host got up req index unit place request opened disk item payload stage piece rest on. no_request n host got req
              request on.there;
        };
        read = record {
          long = λ n host got up req request told piece rest there. no_request n host got req request there;
          bytes = λ n host got up req offset size place unit request opened disk told piece rest before one on.
              no_request n host got req request on.there;
        };
        checks = record {
          writing = λ n host got up req index unit check value opened disk on. no_request n host got req on.request on.on.there;
          ahead = λ n host got up req index unit place check opened disk item on. no_request n host got req on.request on.on.there;
          behind = λ n host got up req index unit check opened disk on. no_request n host got req on.request on.on.there;
          alone = λ n host got up req index unit place check opened disk item on. no_request n host got req on.request on.on.there;
        };
      };
      lacked = record {
        known = λ n host got up vid message meant. no_work n host got meant.req meant.work meant.there;
        told = λ n host got up vid message from reply meant. no_work n host got meant.req meant.work meant.there;
      };
      legal = refl;
      no_items = λ req disk block refused. absurd (cc (refused));
      nothing_made = of_run.nothing_made;
    }

    pub overlap_opens : OverlapOf script first
    overlap_opens = record {
      overlap = overlap_at_opening;
      asked = record { each = λ n req host request got up there. no_request n host got req request there };
      began = of_run.scripts;
      answered = of_run.refused;
      joins = joins_in_run script range.is_script [] first is_run;
    }
