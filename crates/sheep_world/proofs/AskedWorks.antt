-- What the works of a step in the making wait for and ask, against the works before it, as one work comes in the place of another.
use Rattle.std.proofs.Common.{◌≡◌, ◌≢◌, ◌⊎◌, inl, inr, ℕ, ◌<◌, ◌≤◌, true, false, List, [], ◌++◌, map, Contains, Option, Some, None, refl, sym, ap, subst, ◌∙◌, ⊎_elim, append-nil}
use native.Mathlib.Omega.{arith}
use Rattle.std.specs.List.{list_any}
use Rattle.std.specs.FinMap as tree
use Rattle.std.proofs.lemmas.Bool.{cases_eq}
use Rattle.std.proofs.lemmas.Option.{same_Some}
use Rattle.std.proofs.lemmas.List.Elements.{Contains-append_left, Contains-append_right, Contains-append_cases}
use Rattle.proof_tools.proofs.FiniteMaps.{get-insert_same, get-insert_other, get-remove_same, get-remove_other}
use Rattle.proof_tools.proofs.Lists.{Contains-nil}
use Rattle.object_id.specs.declared.node.Epoch.{Epoch}
use Rattle.object_id.specs.declared.node.NodeId.{NodeId}
use Rattle.peer_proto.specs.declared.ask.PeerReq.{PeerReq}
use Rattle.gateway.specs.declared.message.Status.{Status}
use Rattle.gateway.specs.declared.message.Status.TheVariants.{Lost}
use Rattle.gateway.specs.Work as works_
use Rattle.gateway.specs.Attempt.{Attempt, is_unanswered, is_awaited_message, status_by, messages_with_status, messages_of, send_of, is_over}
use Rattle.gateway.specs.State.{WorkStage, Open, Ended, WaitsForMembers, Work, open_messages, is_awaited_in}
use Rattle.gateway.specs.Step.{next_attempt, attempt_with_status}
use Rattle.sheep_node.specs.declared.input.Input.{Input}
use Rattle.sheep_node.specs.declared.input.Input.TheVariants as inputs
use Rattle.sheep_node.specs.State.{Node}
use Rattle.sheep_node.specs.StepState.{StepState}
use Rattle.sheep_node.specs.Changes.{IsTold}
use Rattle.sheep_node.proofs.AwaitedWorks.{Works}
use Rattle.sheep_node.proofs.MessageNumbers.{Sends, all_before, fresh_apart}
use Rattle.sheep_world.specs.WireMatch.{unanswered_in}
use Rattle.sheep_world.proofs.AttemptSends.{fresh_awaited, unanswered_all, all_still, marked_sends, over_none}
use Rattle.sheep_world.proofs.RecoveryMessages.{Other}

-- which numbers a node waits for as before: all but the one of which it is told
abbrev pub StaysOn : Input → ℕ → Type 0
StaysOn (inputs.Reply rsp) number = Other rsp.number number
StaysOn (inputs.Lost lost) number = Other lost number
StaysOn _ number = Unit {0}

-- what is told of is a message that was sent
abbrev pub ToldIsBelow : Input → ℕ → Type 0
ToldIsBelow input count = (number : ℕ) (status : Status) → IsTold input number status → number < count

told_apart : (input : Input) (number q : ℕ) (status : Status) → IsTold input number status → StaysOn input q → q ≢ number
told_apart (inputs.Guest req session ask) number q status told stays = absurd told
told_apart (inputs.Request request) number q status told stays = absurd told
told_apart (inputs.Reply rsp) number q status told stays = λ same. stays (same ∙ sym told.0)
told_apart (inputs.Lost lost) number q status told stays = λ same. stays (same ∙ sym told.0)
told_apart (inputs.LogEntry entry) number q status told stays = absurd told
told_apart inputs.Put number q status told stays = absurd told
told_apart inputs.RecoverTick number q status told stays = absurd told
told_apart inputs.RetryTick number q status told stays = absurd told
told_apart (inputs.Back entries) number q status told stays = absurd told

stays_above : (input : Input) (count q : ℕ) → ToldIsBelow input count → count ≤ q → StaysOn input q
stays_above (inputs.Guest req session ask) count q below above = tt
stays_above (inputs.Request request) count q below above = tt
stays_above (inputs.Reply rsp) count q below above = λ same. let less = below rsp.number (status_by rsp.say) (refl, refl) in absurd (omega (arith, less, above, same))
stays_above (inputs.Lost lost) count q below above = λ same. let less = below lost Lost (refl, refl) in absurd (omega (arith, less, above, same))
stays_above (inputs.LogEntry entry) count q below above = tt
stays_above inputs.Put count q below above = tt
stays_above inputs.RecoverTick count q below above = tt
stays_above inputs.RetryTick count q below above = tt
stays_above (inputs.Back entries) count q below above = tt

module _ (input : Input) (old : Node) where
  -- a request's work waits for a number
  abbrev pub WaitsFor : ℕ → ℕ → Works → Type 0
  WaitsFor req q works = (work : Work) × (tree.get works req ≡ Some work) × (is_awaited_in q work ≡ true)

  -- a work that waits for a number did so before
  abbrev pub WaitedBefore : ℕ → ℕ → Work → Type 0
  WaitedBefore req q now =
      (work : Work) × (tree.get old.gateway.works req ≡ Some work) × (now.work ≡ work.work) × (is_awaited_in q work ≡ true)

  -- a request's work asked this before
  abbrev pub AskedBefore : ℕ → NodeId × PeerReq → Type 0
  AskedBefore req send = (work : Work) × (tree.get old.gateway.works req ≡ Some work) × Contains (unanswered_in old.me work work.stage) send

  -- the works of a step in the making, and its sends, against the works that its node had before
  pub record AsksOn (me : NodeId) (works : Works) (count : ℕ) (sends : Sends) : Type 0 where
    pub me_so : me ≡ old.me
    pub low : old.sends ≤ count
    pub above : (send : NodeId × PeerReq) → Contains sends send → old.sends ≤ send.1.number
    pub own : (send : NodeId × PeerReq) → Contains sends send → send.1.from ≡ old.me
    pub was : (req q : ℕ) (now : Work) → tree.get works req ≡ Some now → q < old.sends → is_awaited_in q now ≡ true → WaitedBefore req q now
    pub still : (req q : ℕ) → StaysOn input q → WaitsFor req q old.gateway.works → WaitsFor req q works
    pub asked : (req : ℕ) (now : Work) (send : NodeId × PeerReq) → tree.get works req ≡ Some now
        → Contains (unanswered_in old.me now now.stage) send → AskedBefore req send ⊎ Contains sends send
    pub new : (send : NodeId × PeerReq) → Contains sends send → (req : ℕ) × WaitsFor req send.1.number works

  abbrev pub StepAsksOn : StepState → Type 0
  StepAsksOn so_far = AsksOn so_far.node.me so_far.node.gateway.works so_far.node.sends so_far.outputs.sends

  pub asks_at_first : AsksOn old.me old.gateway.works old.sends []
  asks_at_first = record {
    me_so = refl;
    low = omega arith;
    above = λ send there. absurd (Contains-nil send there);
    own = λ send there. absurd (Contains-nil send there);
    was = λ req q now got less awaits. (now, got, refl, awaits);
    still = λ req q stays waits. waits;
    asked = λ req now send got asks. inl (now, got, asks);
    new = λ send there. absurd (Contains-nil send there);
  }

  -- ---- one work in the place of another

  pub record Turns (before now : Option Work) (more : Sends) : Type 0 where
    pub was : (q : ℕ) (w : Work) → now ≡ Some w → q < old.sends → is_awaited_in q w ≡ true
        → (work : Work) × (before ≡ Some work) × (w.work ≡ work.work) × (is_awaited_in q work ≡ true)
    pub still : (q : ℕ) (work : Work) → before ≡ Some work → StaysOn input q → is_awaited_in q work ≡ true
        → (w : Work) × (now ≡ Some w) × (is_awaited_in q w ≡ true)
    pub asked : (w : Work) (send : NodeId × PeerReq) → now ≡ Some w → Contains (unanswered_in old.me w w.stage) send
        → ((work : Work) × (before ≡ Some work) × Contains (unanswered_in old.me work work.stage) send) ⊎ Contains more send
    pub new : (send : NodeId × PeerReq) → Contains more send → (w : Work) × (now ≡ Some w) × (is_awaited_in send.1.number w ≡ true)

  module _ (below : ToldIsBelow input old.sends) (me : NodeId) (works after : Works) (count last : ℕ) (sends more : Sends) (req : ℕ) (before now : Option Work)
      (here : tree.get works req ≡ before) (there : tree.get after req ≡ now) (apart : (q : ℕ) → q ≢ req → tree.get after q ≡ tree.get works q)
      (higher : count ≤ last) (fresh : (send : NodeId × PeerReq) → Contains more send → (old.sends ≤ send.1.number) × (send.1.from ≡ old.me))
      (turns : Turns before now more) (asks : AsksOn me works count sends) where
    onward : (r q : ℕ) → StaysOn input q → WaitsFor r q works → WaitsFor r q after
    onward r q stays (work, got, awaits) = ⊎_elim
        (λ (own : r ≡ req).
        let (w, is, awaited) = turns.still q work (sym here ∙ ap (tree.get works) (sym own) ∙ got) stays awaits in
        (w, ap (tree.get after) own ∙ there ∙ is, awaited))
        (λ (other : r ≢ req). (work, apart r other ∙ got, awaits))
        (cases_eq r req)

    pub turned : AsksOn me after last (sends ++ more)
    turned =
        let first = asks.low in
        record {
          me_so = asks.me_so;
          low = omega (arith, first, higher);
          above = λ send in_all. ⊎_elim (λ (one : Contains sends send). asks.above send one) (λ (new : Contains more send). (fresh send new).0)
              (Contains-append_cases sends more send in_all);
          own = λ send in_all. ⊎_elim (λ (one : Contains sends send). asks.own send one) (λ (new : Contains more send). (fresh send new).1)
              (Contains-append_cases sends more send in_all);
          was = λ r q w got less awaits. ⊎_elim
              (λ (own : r ≡ req).
              let (work, had, same, awaited) = turns.was q w (sym there ∙ ap (tree.get after) (sym own) ∙ got) less awaits in
              let (first, at, alike, so) = asks.was req q work (here ∙ had) less awaited in
              (first, ap (tree.get old.gateway.works) own ∙ at, same ∙ alike, so))
              (λ (other : r ≢ req). asks.was r q w (sym (apart r other) ∙ got) less awaits)
              (cases_eq r req);
          still = λ r q stays waits. onward r q stays (asks.still r q stays waits);
          asked = λ r w send got asks_it. ⊎_elim
              (λ (own : r ≡ req). ⊎_elim
              (λ (was : (work : Work) × (before ≡ Some work) × Contains (unanswered_in old.me work work.stage) send).
              let (work, had, asks_too) = was in ⊎_elim
              (λ (one : AskedBefore req send). let (first, at, so) = one in inl (first, ap (tree.get old.gateway.works) own ∙ at, so))
              (λ (sent : Contains sends send). inr (Contains-append_left sends more send sent))
              (asks.asked req work send (here ∙ had) asks_too))
              (λ (new : Contains more send). inr (Contains-append_right sends more send new))
              (turns.asked w send (sym there ∙ ap (tree.get after) (sym own) ∙ got) asks_it))
              (λ (other : r ≢ req). ⊎_elim
              (λ (one : AskedBefore r send). inl one)
              (λ (sent : Contains sends send). inr (Contains-append_left sends more send sent))
              (asks.asked r w send (sym (apart r other) ∙ got) asks_it))
              (cases_eq r req);
          new = λ send in_all. ⊎_elim
              (λ (sent : Contains sends send).
              let (r, waits) = asks.new send sent in
              (r, onward r send.1.number (stays_above input old.sends send.1.number below (asks.above send sent)) waits))
              (λ (new : Contains more send). let (w, is, awaits) = turns.new send new in (req, (w, there ∙ is, awaits)))
              (Contains-append_cases sends more send in_all);
        }

  -- a message of the work is told
  module _ (number : ℕ) (status : Status) (settled : is_unanswered status ≡ false) (told : IsTold input number status) (work : Work) (attempt : Attempt)
      (open_so : work.stage ≡ Open attempt) where
    open_awaits : (q : ℕ) (w : Work) → work ≡ w → is_awaited_in q w ≡ true → list_any (is_awaited_message q) attempt.messages ≡ true
    open_awaits q w same awaits =
        ap (λ (stage : WorkStage). list_any (is_awaited_message q) (open_messages stage)) (sym open_so) ∙ ap (is_awaited_in q) same ∙ awaits

    pub turns_open : Turns (Some work) (Some (record work { stage = Open (attempt_with_status number status attempt) })) []
    turns_open =
        let now : Work = record work { stage = Open (attempt_with_status number status attempt) } in
        record {
          was = λ q w is less awaits. (
            work,
            refl,
            ap (λ (w : Work). w.work) (sym (same_Some now w is)),
            ap (λ (stage : WorkStage). list_any (is_awaited_message q) (open_messages stage)) open_so
                ∙ all_before number status settled q attempt.messages (ap (is_awaited_in q) (same_Some now w is) ∙ awaits),
          );
          still = λ q w is stays awaits. (
            now,
            refl,
            all_still number status settled q attempt.messages (told_apart input number q status told stays) (open_awaits q w (same_Some work w is) awaits),
          );
          asked = λ w send is asks. inl (
            work,
            refl,
            subst (λ (stage : WorkStage). Contains (unanswered_in old.me work stage) send) (sym open_so)
                (marked_sends number status settled old.me work attempt.epoch attempt.messages send
                (subst (λ (w : Work). Contains (unanswered_in old.me w w.stage) send) (sym (same_Some now w is)) asks)).0,
          );
          new = λ send none. absurd (Contains-nil send none);
        }

    -- which is the last of its attempt
    module _ (over : is_over (messages_with_status number status attempt.messages) ≡ true) where
      none_left : {P : Type 0} (q : ℕ) (w : Work) → work ≡ w → StaysOn input q → is_awaited_in q w ≡ true → P
      none_left q w same stays awaits =
          let still : list_any (is_awaited_message q) (messages_with_status number status attempt.messages) ≡ true
          = all_still number status settled q attempt.messages (told_apart input number q status told stays) (open_awaits q w same awaits) in
          let none = over_none q (messages_with_status number status attempt.messages) over in
          absurd (cc (still, none))

      pub turns_ended : (ended : ℕ) → Turns (Some work) (Some (record work { ended = ended; stage = Ended })) []
      turns_ended ended =
          let now : Work = record work { ended = ended; stage = Ended } in
          record {
            was = λ q w is less awaits. let never : is_awaited_in q now ≡ true = ap (is_awaited_in q) (same_Some now w is) ∙ awaits in absurd (cc (never));
            still = λ q w is stays awaits. none_left q w (same_Some work w is) stays awaits;
            asked = λ w send is asks. absurd (Contains-nil send (subst (λ (w : Work). Contains (unanswered_in old.me w w.stage) send) (sym (same_Some now w is)) asks));
            new = λ send none. absurd (Contains-nil send none);
          }

      pub turns_gone : Turns (Some work) None []
      turns_gone = record {
        was = λ q w is less awaits. absurd (cc (is));
        still = λ q w is stays awaits. none_left q w (same_Some work w is) stays awaits;
        asked = λ w send is asks. absurd (cc (is));
        new = λ send none. absurd (Contains-nil send none);
      }

  -- a work comes where none waits for a message
  module _ (before : Option Work) (idle : (q : ℕ) (w : Work) → before ≡ Some w → is_awaited_in q w ≡ false) where
    never : {P : Type 0} (q : ℕ) (w : Work) → before ≡ Some w → is_awaited_in q w ≡ true → P
    never q w is awaits = let none = idle q w is in absurd (cc (none, awaits))

    pub turns_begun : (me : NodeId) (same : me ≡ old.me) (asked : Work) (count : ℕ) (low : old.sends ≤ count) (epoch : Epoch) (targets : List NodeId)
        → Turns before (Some (record asked { stage = Open (next_attempt asked count epoch targets) }))
        (map (send_of me epoch asked.work) (messages_of asked.work asked.ended count targets))
    turns_begun me same asked count low epoch targets =
        let now : Work = record asked { stage = Open (next_attempt asked count epoch targets) } in
        let places = works_.targets_asked asked.work asked.ended targets in
        let messages = messages_of asked.work asked.ended count targets in
        record {
          was = λ q w is less awaits.
              let under : q < count = omega (arith, less, low) in
              let none = fresh_apart me epoch asked.work count places q under in
              let waits : is_awaited_in q now ≡ true = ap (is_awaited_in q) (same_Some now w is) ∙ awaits in
              absurd (cc (none, waits));
          still = λ q w is stays awaits. never q w is awaits;
          asked = λ w send is asks. inr (subst (λ (node : NodeId). Contains (map (send_of node epoch asked.work) messages) send) (sym same)
              (unanswered_all old.me epoch asked.work messages send
              (subst (λ (w : Work). Contains (unanswered_in old.me w w.stage) send) (sym (same_Some now w is)) asks)));
          new = λ send there. (now, refl, fresh_awaited me epoch asked.work count places send there);
        }

    pub turns_held : (asked : Work) (epoch : Epoch) → Turns before (Some (record asked { stage = WaitsForMembers epoch })) []
    turns_held asked epoch =
        let now : Work = record asked { stage = WaitsForMembers epoch } in
        record {
          was = λ q w is less awaits. let waits : is_awaited_in q now ≡ true = ap (is_awaited_in q) (same_Some now w is) ∙ awaits in absurd (cc (waits));
          still = λ q w is stays awaits. never q w is awaits;
          asked = λ w send is asks. absurd (Contains-nil send (subst (λ (w : Work). Contains (unanswered_in old.me w w.stage) send) (sym (same_Some now w is)) asks));
          new = λ send none. absurd (Contains-nil send none);
        }

    pub turns_denied : Turns before None []
    turns_denied = record {
      was = λ q w is less awaits. absurd (cc (is));
      still = λ q w is stays awaits. never q w is awaits;
      asked = λ w send is asks. absurd (cc (is));
      new = λ send none. absurd (Contains-nil send none);
    }

  module _ (below : ToldIsBelow input old.sends) (me : NodeId) (works : Works) (count : ℕ) (sends : Sends) (req : ℕ) (before : Option Work)
      (here : tree.get works req ≡ before) (asks : AsksOn me works count sends) where
    silent : (after : Works) (now : Option Work) → tree.get after req ≡ now → ((q : ℕ) → q ≢ req → tree.get after q ≡ tree.get works q)
        → Turns before now [] → AsksOn me after count sends
    silent after now there apart turns =
        subst (AsksOn me after count) (append-nil sends)
        (turned below me works after count count sends [] req before now here there apart (omega arith) (λ send none. absurd (Contains-nil send none)) turns asks)

    pub put_asks : (now : Work) → Turns before (Some now) [] → AsksOn me (tree.insert works req now) count sends
    put_asks now turns =
        silent (tree.insert works req now) (Some now) (get-insert_same works req now) (λ q other. get-insert_other works req now q other) turns

    pub gone_asks : Turns before None [] → AsksOn me (tree.remove works req) count sends
    gone_asks turns = silent (tree.remove works req) None (get-remove_same works req) (λ q other. get-remove_other works req q other) turns
