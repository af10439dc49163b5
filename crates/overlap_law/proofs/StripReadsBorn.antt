-- In the middle of a step that goes by changes, an attempt that some target has served was there as the step began: those that the step
-- began are all on their way. So what it creates was born then.
use Rattle.std.proofs.Common.{◌≡◌, ◌⊎◌, ⊎_elim, ℕ, zero, suc, ◌+◌, ◌-◌, ◌&&◌, ◌++◌, not, Bool, true, false, cond, List, [], ◌∷◌, map}
use Rattle.std.proofs.Common.{Option}
use Rattle.std.proofs.Common.{Some, None, option_map, slice_get, refl, sym, ap, subst, ◌∙◌}
use Rattle.std.specs.List.{cons_option, filter_map, list_any, range_with_len}
use Rattle.std.specs.FinMap as tree
use Rattle.std.specs.Option.{option_and_then}
use Rattle.std.proofs.lemmas.Option.{same_Some}
use Rattle.cluster_script.specs.declared.statement.Statement.{Statement}
use Rattle.peer_proto.specs.declared.work.ObjWork.{ObjWork}
use Rattle.gateway.specs.declared.message.Message.{Message}
use Rattle.gateway.specs.Attempt as gateways
use Rattle.gateway.specs.State.{Work, WorkStage, Open, Ended, WaitsForMembers, asker}
use Rattle.gateway.specs.Work.{is_making}
use Rattle.sheep_node.specs.declared.course.Request.{Request}
use Rattle.sheep_node.specs.StepState.{StepState}
use Rattle.sheep_world.specs.NodeCauses.{host_with_node}
use Rattle.sheep_world.specs.World.{Host}
use Rattle.overlap_law.specs.Attempts.{AttemptRecord, Flying, object_of, beginning, beginning_with, is_first, attempt_begun_with}
use Rattle.overlap_law.specs.Attempts.{attempts_begun_by}
use Rattle.overlap_law.specs.BornObjects.{IsBorn}
use Rattle.overlap_law.specs.Holders.{creates}
use Rattle.overlap_law.specs.Past.{MomentWithPast}
use Rattle.overlap_law.specs.StepMoments.{SteppingNode, IsStepping, StepsByChanges, attempts_at_cause, moment_in_step}
use Rattle.overlap_law.specs.Words.{is_mute, is_served}
use Rattle.overlap_law.proofs.AttemptsInSteps.{attempts-in_step}
use Rattle.overlap_law.proofs.BornStays.{born_among}
use Rattle.overlap_law.proofs.KnownFates.{got_either}
use Rattle.overlap_law.proofs.KnownFatesLater.{caused_was}

-- ---- what begins is mute

all_fly : (messages : List Message) → not (list_any is_served (map (λ (message : Message). Flying) messages)) ≡ true
all_fly [] = refl
all_fly (message ∷ messages) = all_fly messages

begun_mute : (host : Host) (number : ℕ) (attempt : AttemptRecord) → attempt_begun_with host number ≡ Some attempt → is_mute attempt ≡ true
begun_mute host number attempt = by_found (asker number host.node.gateway)
  where
    by_request : (req : ℕ) (work : ObjWork) (current : gateways.Attempt) (making first : Bool) (o : Option Request)
        → cond (making && first) (option_map (beginning host number req work current) o) None ≡ Some attempt → is_mute attempt ≡ true
    by_request req work current true true None is = absurd (cc (is))
    by_request req work current true true (Some request) is =
        let same = same_Some (beginning host number req work current request) attempt is in
        sym (ap (λ (a : AttemptRecord). is_mute a) same) ∙ all_fly current.messages
    by_request req work current true false o is = absurd (cc (is))
    by_request req work current false first o is = absurd (cc (is))

    by_stage : (req : ℕ) (work : ObjWork) (stage : WorkStage) → beginning_with host number req work stage ≡ Some attempt
        → is_mute attempt ≡ true
    by_stage req work (Open current) is =
        by_request req work current (is_making work) (is_first number current.messages) (tree.get host.node.requests req) is
    by_stage req work Ended is = absurd (cc (is))
    by_stage req work (WaitsForMembers epoch) is = absurd (cc (is))

    by_found : (o : Option (ℕ × Work))
        → option_and_then (λ (found : ℕ × Work). beginning_with host number found.0 found.1.work found.1.stage) o ≡ Some attempt
        → is_mute attempt ≡ true
    by_found None is = absurd (cc (is))
    by_found (Some found) is = by_stage found.0 found.1.work found.1.stage is

first_mute : (host : Host) (low : ℕ) (attempt : AttemptRecord) (rest : List AttemptRecord) (o : Option AttemptRecord)
    → attempt_begun_with host low ≡ o → ((k : ℕ) → slice_get rest k ≡ Some attempt → is_mute attempt ≡ true) → (k : ℕ)
    → slice_get (cons_option o rest) k ≡ Some attempt → is_mute attempt ≡ true
first_mute host low attempt rest None is later k got = later k got
first_mute host low attempt rest (Some first) is later zero got = begun_mute host low attempt (is ∙ got)
first_mute host low attempt rest (Some first) is later (suc k) got = later k got

got_mute : (host : Host) (low count k : ℕ) (attempt : AttemptRecord)
    → slice_get (filter_map (attempt_begun_with host) (range_with_len low count)) k ≡ Some attempt → is_mute attempt ≡ true
got_mute host low zero k attempt got = absurd (cc (got))
got_mute host low (suc count) k attempt got =
    first_mute host low attempt (filter_map (attempt_begun_with host) (range_with_len (low + 1) count)) (attempt_begun_with host low) refl
    (λ place here. got_mute host (low + 1) count place attempt here) k got

begun_by_mute : (old new : Host) (k : ℕ) (attempt : AttemptRecord) → slice_get (attempts_begun_by old new) k ≡ Some attempt
    → is_mute attempt ≡ true
unfolding attempts_begun_by
begun_by_mute old new k attempt got = got_mute new old.node.sends (new.node.sends - old.node.sends) k attempt got

-- ---- in a step

module _ (script : List Statement) (start : MomentWithPast) (stepping : SteppingNode) (is : IsStepping script start.world stepping)
    (by : StepsByChanges stepping.cause) (so_far : StepState) (j : ℕ) (attempt : AttemptRecord)
    (at : slice_get (moment_in_step script stepping start so_far).past.attempts j ≡ Some attempt) (creating : creates attempt ≡ true)
    (heard : is_mute attempt ≡ false) where
  pub born_at_start : IsBorn start.past.attempts (object_of attempt)
  born_at_start = ⊎_elim
      (λ (old : slice_get (attempts_at_cause stepping.host.node stepping.cause start.past.attempts) j ≡ Some attempt).
      let w = caused_was stepping.host.node stepping.cause start.past.attempts j attempt old in
      subst (λ (a : AttemptRecord). IsBorn start.past.attempts (object_of a)) w.same
      (born_among start.past.attempts j w.was w.at (subst (λ (a : AttemptRecord). creates a ≡ true) (sym w.same) creating)))
      (λ (new : (k : ℕ) × (slice_get (attempts_begun_by stepping.host (host_with_node stepping.host so_far.node)) k ≡ Some attempt)).
      let mute = begun_by_mute stepping.host (host_with_node stepping.host so_far.node) new.0 attempt new.1 in absurd (cc (mute, heard)))
      (got_either (attempts_at_cause stepping.host.node stepping.cause start.past.attempts)
      (attempts_begun_by stepping.host (host_with_node stepping.host so_far.node)) j attempt
      (ap (λ (all : List AttemptRecord). slice_get all j) (sym (attempts-in_step script start stepping is by so_far)) ∙ at))
