-- After a command's entry was put every event keeps where the command is; and once the command is refused, that its entry changed no disk
-- and that what it was given is given back.
use Rattle.std.proofs.Common.{◌≡◌, ◌≢◌, ◌⊎◌, inl, inr, ⊎_elim, ℕ, ◌+◌, ◌<◌, ◌≤◌, true, false, List, [], ◌∷◌, ◌++◌, Contains, length, Some}
use Rattle.std.proofs.Common.{sym, ap, subst, ◌∙◌, arith, append_assoc}
use Rattle.std.specs.FinMap as tree
use Rattle.std.proofs.lemmas.Option.{same_Some}
use Rattle.std.specs.List.{slice_get}
use Rattle.object_id.specs.declared.node.NodeId.{NodeId}
use Rattle.object_id.specs.declared.entry.Entry.{Entry}
use Rattle.cluster_script.specs.declared.statement.Statement.{Statement}
use Rattle.cluster_script.specs.Sessions.{ScriptSession}
use Rattle.vdi_directory.specs.declared.effect.Effect.{Effect}
use Rattle.peer_proto.specs.declared.guest.GuestRsp.{GuestRsp}
use Rattle.sheep_node.specs.declared.ask.Ask.{Ask}
use Rattle.sheep_node.specs.declared.event.Event.{Event}
use Rattle.sheep_node.specs.declared.input.Input.TheVariants as inputs
use Rattle.sheep_node.specs.declared.course.Request.{Request}
use Rattle.sheep_node.specs.State.{Node}
use Rattle.sheep_node.specs.Step.{node_step}
use Rattle.sheep_world.specs.Began.{Began}
use Rattle.sheep_world.specs.BegunRequests.{WasBegun}
use Rattle.sheep_world.specs.NodeCauses.{NodeCause, input_of_cause, IsCause}
use Rattle.sheep_world.specs.Step.{EventOutcome}
use Rattle.sheep_world.specs.World.{Host, World}
use Rattle.sheep_world.proofs.BegunRequestLaws.{Grows}
use Rattle.overlap_law.specs.AwaitedEntries.{IsCommandEntry, IsSessionsEntry}
use Rattle.overlap_law.specs.Holders.{is_object_among}
use Rattle.overlap_law.specs.MomentChanges.{RunsAreInRange}
use Rattle.overlap_law.specs.Past.{MomentWithPast, past_after_event, moment_after}
use Rattle.overlap_law.specs.PastWords.{is_refusal, refused_in}
use Rattle.overlap_law.specs.RefusedCommands.{effect_behind, changes_disks, giving_back, IsOver, IsFreedIn, IsGivenBack, StandsInTheLog}
use Rattle.overlap_law.specs.RefusedCommands.{IsToBePut, EndedBefore}
use Rattle.overlap_law.proofs.AttemptLists.{got_more}
use Rattle.overlap_law.proofs.FreshRequests.{guest_new}
use Rattle.overlap_law.proofs.RefusedCommandInSteps.{GoesOnAt}
use Rattle.overlap_law.proofs.RefusedInMoments.{refused_has, refusal_is, among_cases}
use Rattle.overlap_law.proofs.RefusedInRuns.{still_begun}
use Rattle.overlap_law.proofs.RepliesOnce.{all_here}
use Rattle.overlap_law.proofs.SessionsOfRequests.{IsAskedIn, of_asking, are_asked_by_line}

module _ (script : List Statement) (range : RunsAreInRange script) (earlier : List Entry) (entry : Entry) (node : NodeId)
    (command : IsCommandEntry node entry) (session req : ℕ) (known : List Effect) (mine : IsSessionsEntry known node session entry)
    (incarnation : ℕ) (asked : IsAskedIn script node.0 incarnation req session) where
  abbrev pub GoesOnHere : List Entry → Node → Type 0
  GoesOnHere = GoesOnAt script range earlier entry node command session req known mine

  -- what a refusal of the command leaves in a world
  abbrev pub HasUndone : World → List Entry → Type 0
  HasUndone world more =
      (changes_disks (effect_behind earlier entry) ≡ false)
      × ((unlock : Entry) → giving_back (effect_behind earlier entry) ≡ Some unlock → IsGivenBack world node incarnation (earlier ++ entry ∷ []) more unlock)

  -- the entry is in the log, and the request was begun; the command is where it may be, if its node is still in this incarnation; and if
  -- it is refused, it left nothing
  pub record Follows (moment : MomentWithPast) : Type 0 where
    pub more : List Entry
    pub log_so : moment.world.log ≡ earlier ++ entry ∷ more
    pub begun : WasBegun script moment.world.guests session req
    pub now : Host
    pub there : tree.get moment.world.hosts node.0 ≡ Some now
    pub since : incarnation ≤ now.incarnation
    pub going : now.incarnation ≡ incarnation → now.is_lost ≡ false → GoesOnHere moment.world.log now.node
    pub refused : is_object_among req moment.past.refused ≡ true → HasUndone moment.world more

  -- ---- who replies to the request

  module _ (world : World) (began : Began script world) (begun : WasBegun script world.guests session req) (k : ℕ) (host : Host)
      (there : tree.get world.hosts k ≡ Some host) where
    only_here : (request : Request) → tree.get host.node.requests req ≡ Some request → (k ≡ node.0) × (host.incarnation ≡ incarnation)
    only_here request got =
        let own = are_asked_by_line script world began k host there req request got (of_asking script req session asked.asking) in
        let number : request.session ≡ session = cc (own.asking, asked.asking) in
        let here = subst (IsAskedIn script k host.incarnation req) number own in
        let same : here.of ≡ asked.of = same_Some here.of asked.of (sym here.declared ∙ asked.declared) in (
          sym here.of_node ∙ ap (λ (s : ScriptSession). s.node) same ∙ asked.of_node,
          sym here.of_incarnation ∙ ap (λ (s : ScriptSession). s.incarnation) same ∙ asked.of_incarnation,
        )

    pub not_new : (cause : NodeCause) → IsCause script world k host cause → (number : ℕ) (ask : Ask)
        → input_of_cause cause ≡ inputs.Guest req number ask → ⊥
    not_new cause so number ask from =
        guest_new script world k host cause so req number ask from (session, begun)

    pub silent : (cause : NodeCause) → IsCause script world k host cause → (k ≡ node.0 → host.incarnation ≡ incarnation → ⊥)
        → (reply : ℕ × GuestRsp) → Contains (node_step (input_of_cause cause) host.node).outputs.replies reply → reply.0 ≢ req
    silent cause so apart reply among own =
        let (number, disk, here) = (all_here (input_of_cause cause) host.node).replied reply among in
        ⊎_elim
        (λ (had : (request : Request) × (tree.get host.node.requests reply.0 ≡ Some request)).
        let only = only_here had.0 (ap (tree.get host.node.requests) (sym own) ∙ had.1) in apart only.0 only.1)
        (λ (new : (number : ℕ) × (ask : Ask) × (input_of_cause cause ≡ inputs.Guest reply.0 number ask)).
        not_new cause so new.0 new.1 (new.2 ∙ ap (λ (q : ℕ). inputs.Guest q new.0 new.1) own))
        here

  -- ---- what is refused by an event

  pub refused_cases : (event : Event) (moment : MomentWithPast) (made : EventOutcome) (P : Type 0)
      → (is_object_among req moment.past.refused ≡ true → P)
      → ((reply : ℕ × GuestRsp) → Contains made.world.outputs.replies reply → reply.0 ≡ req → is_refusal reply.1 ≡ true → P)
      → is_object_among req (moment_after script event moment made).past.refused ≡ true → P
  unfolding past_after_event
  refused_cases event moment made P old new is = ⊎_elim
      (λ (before : is_object_among req moment.past.refused ≡ true). old before)
      (λ (now : is_object_among req (refused_in script made.world.outputs.replies) ≡ true).
      let (reply, among, refuses, same) = refused_has script req made.world.outputs.replies now in
      new reply among same (refusal_is script reply refuses))
      (among_cases req moment.past.refused (refused_in script made.world.outputs.replies) is)

  -- ---- the log grows

  -- by nothing, or by an entry that isn't this one
  abbrev pub GrowsBy : List Entry → List Entry → Type 0
  GrowsBy log after = (after ≡ log) ⊎ ((last : Entry) × (after ≡ log ++ last ∷ []) × (last ≢ entry))

  goes_on_more : (log after : List Entry) (at : Node) → GrowsBy log after → GoesOnHere log at → GoesOnHere after at
  goes_on_more log after at grown goes = record {
    course = goes.course;
    put_once = goes.put_once;
    one_place = λ request got waits q behind is. ⊎_elim
        (λ (same : after ≡ log).
        goes.one_place request got waits q behind (ap (λ (l : List Entry). slice_get l q) (sym same) ∙ is))
        (λ (more : (last : Entry) × (after ≡ log ++ last ∷ []) × (last ≢ entry)). ⊎_elim
        (λ (before : slice_get log q ≡ Some entry). goes.one_place request got waits q behind before)
        (λ (new : (q ≡ length log) × (more.0 ≡ entry)). absurd (more.2 new.1))
        (got_more log more.0 q entry (ap (λ (l : List Entry). slice_get l q) (sym more.1) ∙ is)))
        grown;
  }

  abbrev pub HasMore : List Entry → List Entry → Type 0
  HasMore more after = (later : List Entry) × (after ≡ earlier ++ entry ∷ later) × ((one : Entry) → IsFreedIn (earlier ++ entry ∷ []) more one
      → IsFreedIn (earlier ++ entry ∷ []) later one)

  pub push_more : (more : List Entry) (last : Entry) → (earlier ++ entry ∷ more) ++ last ∷ [] ≡ earlier ++ entry ∷ (more ++ last ∷ [])
  push_more more last = append_assoc earlier (entry ∷ more) (last ∷ [])

  -- what frees an id does so still
  pub more_freed : (more : List Entry) (last one : Entry) → IsFreedIn (earlier ++ entry ∷ []) more one
      → IsFreedIn (earlier ++ entry ∷ []) (more ++ last ∷ []) one
  more_freed more last one freed = record {
    front = freed.front;
    behind = freed.behind ++ last ∷ [];
    stands = ap (λ (l : List Entry). l ++ last ∷ []) freed.stands ∙ append_assoc freed.front (one ∷ freed.behind) (last ∷ []);
    frees = freed.frees;
  }

  pub has_more : (log after more : List Entry) → log ≡ earlier ++ entry ∷ more → GrowsBy log after → HasMore more after
  has_more log after more is (inl same) = (more, same ∙ is, λ one among. among)
  has_more log after more is (inr (last, grown, other)) = (
    more ++ last ∷ [],
    grown ∙ ap (λ (l : List Entry). l ++ last ∷ []) is ∙ push_more more last,
    λ one freed. more_freed more last one freed,
  )

  -- ---- an event that leaves the node's host

  module _ (moment : MomentWithPast) (f : Follows moment) (event : Event) (made : EventOutcome)
      (later : HasMore f.more made.world.log) (begun_more : Grows moment.world.guests made.world.guests)
      (others : (reply : ℕ × GuestRsp) → Contains made.world.outputs.replies reply → reply.0 ≢ req) where
    -- what was given back is so still, where the node was in no later incarnation, if it isn't lost then
    module _ (now : Host) (there : tree.get made.world.hosts node.0 ≡ Some now)
        (left_so : (one : Entry) → f.now.is_lost ≡ false → Contains f.now.node.outbox one
        → IsGivenBack made.world node incarnation (earlier ++ entry ∷ []) later.0 one)
        (over_so : IsOver incarnation f.now → IsOver incarnation now) where
      still_back : (one : Entry) → IsGivenBack moment.world node incarnation (earlier ++ entry ∷ []) f.more one → IsGivenBack made.world node incarnation (earlier ++ entry ∷ []) later.0
          one
      still_back one (StandsInTheLog among) = StandsInTheLog (later.2 one among)
      still_back one (IsToBePut host got up among) =
          let same : host ≡ f.now = same_Some host f.now (sym got ∙ f.there) in
          left_so one (ap (λ (h : Host). h.is_lost) (sym same) ∙ up) (subst (λ (h : Host). Contains h.node.outbox one) same among)
      still_back one (EndedBefore host got over) =
          let same : host ≡ f.now = same_Some host f.now (sym got ∙ f.there) in
          EndedBefore now there (over_so (subst (IsOver incarnation) same over))

      follows_so : incarnation ≤ now.incarnation
          → (now.incarnation ≡ incarnation → now.is_lost ≡ false → GoesOnHere made.world.log now.node)
          → Follows (moment_after script event moment made)
      follows_so since going = record {
        more = later.0;
        log_so = later.1;
        begun = still_begun script moment.world.guests made.world.guests begun_more session req f.begun;
        now = now;
        there = there;
        since = since;
        going = going;
        refused = refused_cases event moment made (HasUndone made.world later.0)
            (λ before. let undone = f.refused before in (undone.0, λ unlock gives. still_back unlock (undone.1 unlock gives)))
            (λ reply among own refuses. absurd (others reply among own));
      }

    -- it stays as it is
    pub host_stays : GrowsBy moment.world.log made.world.log → tree.get made.world.hosts node.0 ≡ Some f.now
        → Follows (moment_after script event moment made)
    host_stays grown there =
        follows_so f.now there (λ one up among. IsToBePut f.now there up among) (λ over. over) f.since
        (λ same up. goes_on_more moment.world.log made.world.log f.now.node grown (f.going same up))

    -- or is lost, or its node comes back, or is in a later incarnation
    pub host_ends : (now : Host) → tree.get made.world.hosts node.0 ≡ Some now → IsOver incarnation now → incarnation ≤ now.incarnation
        → Follows (moment_after script event moment made)
    host_ends now there over since =
        follows_so now there (λ one up among. EndedBefore now there over) (λ before. over) since
        (λ same up. absurd (⊎_elim
        (λ (less : incarnation < now.incarnation). omega (arith, less, same))
        (λ (lost : now.is_lost ≡ true). cc (lost, up))
        over))
