-- The parts in which the code tells what the replies of a step add are what the definition says.
use Rattle.std.proofs.Common.{◌≡◌, ℕ, ◌==◌, Bool, true, false, cond, ◌&&◌, ◌||◌, List, [], ◌∷◌, ◌++◌, map, Contains, Option, Some, None}
use Rattle.std.proofs.Common.{inl, inr, refl, sym, ap, ◌∙◌}
use Rattle.std.specs.Prelude.{is_some, find, flat_map, unwrap_or}
use Rattle.std.specs.List.{list_any}
use Rattle.std.specs.Option.{option_map, option_map_or, option_and_then}
use Rattle.std.specs.Ordering.{nat_cmp}
use Rattle.std.specs.FinMap as tree
use Rattle.std.proofs.Math.Bool.{and-true, or-true}
use Rattle.std.proofs.lemmas.Bool.{eqb-true, false≢true}
use Rattle.std.proofs.lemmas.List.Folds.{list_any-append}
use Rattle.std.proofs.lemmas.Map.Views.{any-filter_same}
use Rattle.proof_tools.proofs.FiniteMaps.{entries-contain}
use Rattle.proof_tools.proofs.Lists.{Contains-nil, Contains-cons_cases}
use Rattle.cluster_script.specs.declared.statement.Statement.{Statement}
use Rattle.cluster_script.specs.declared.statement.Statement.TheVariants as lines
use Rattle.cluster_script.specs.Statements.{is_check}
use Rattle.cluster_script.specs.NumberedRequests.{request_at}
use Rattle.disk_history.specs.declared.event.HistEvent.{HistEvent}
use Rattle.peer_proto.specs.declared.guest.GuestRsp.{GuestRsp}
use Rattle.sheep_node.specs.declared.check_write.CheckWrite.{CheckWrite}
use Rattle.sheep_world.specs.declared.progress.StartedRequest.{StartedRequest}
use Rattle.sheep_world.specs.declared.progress.SessionProgress.{SessionProgress}
use Rattle.sheep_world.specs.World.{World, no_progress}
use Rattle.sheep_world.specs.Asking.{session_asking}
use Rattle.sheep_world.specs.HistoryAdditions.{is_started_request, started_at, disk_of, reply_adds, added_by, is_write_of}
use Rattle.sheep_world.specs.HistoryAdditions.{has_begun_check_write, reply_grown}
use Rattle.sheep_world.specs.RepliesInParts.{is_check_request, checks_among, checks_of_session, unanswered_checks, is_written_check}
use Rattle.sheep_world.specs.RepliesInParts.{written_checks, is_writing_check, reply_events, AreRepliesAdded}

-- ---- the checks that have come to a write

-- a started request is found among the numbers
any-numbers : (req : ℕ) (unanswered : List StartedRequest)
    → list_any (λ other. other == req) (map (λ (started : StartedRequest). started.req) unanswered)
    ≡ is_some (find (is_started_request req) unanswered)
any-numbers req [] = refl
any-numbers req (started ∷ rest) = by_test (started.req == req) (any-numbers req rest)
  where
    by_test : (b : Bool)
        → list_any (λ other. other == req) (map (λ (started : StartedRequest). started.req) rest)
        ≡ is_some (find (is_started_request req) rest)
        → (b || list_any (λ other. other == req) (map (λ (started : StartedRequest). started.req) rest))
        ≡ is_some (cond b (Some started) (find (is_started_request req) rest))
    by_test true is = refl
    by_test false is = is

-- and, if it is a check, among those of the checks
any-checks : (statements : List Statement) (req : ℕ) (unanswered : List StartedRequest) → is_check_request statements req ≡ true
    → list_any (λ other. other == req) (checks_among statements unanswered) ≡ is_some (find (is_started_request req) unanswered)
any-checks statements req unanswered check =
    any-filter_same (λ other. other == req) (is_check_request statements) true
    (λ other tie. ap (is_check_request statements) (eqb-true other req tie) ∙ check)
    (map (λ (started : StartedRequest). started.req) unanswered)
    ∙ any-numbers req unanswered

-- what is found in a part is found in the whole
any-flat_map : {X Y : Type 0} (p : Y → Bool) (f : X → List Y) (xs : List X) (x : X) → Contains xs x → list_any p (f x) ≡ true
    → list_any p (flat_map f xs) ≡ true
any-flat_map p f [] x there passes = absurd (Contains-nil x there)
any-flat_map p f (first ∷ rest) x there passes =
    list_any-append p (f first) (flat_map f rest)
    ∙ elim (Contains-cons_cases first rest x there) [
      | inl same ↦ ap (λ b. b || list_any p (flat_map f rest)) (ap (λ y. list_any p (f y)) same ∙ passes)
      | inr later ↦ ap (λ b. list_any p (f first) || b) (any-flat_map p f rest x later passes) ∙ or-true (list_any p (f first))
    ]

-- a check that its session started, and that has no reply, is among the checks of all sessions
any-unanswered : (statements : List Statement) (req : ℕ) (guests : tree.FinMap nat_cmp SessionProgress) (asking : Option ℕ)
    → is_check_request statements req ≡ true
    → is_some (option_and_then
    (λ session. find (is_started_request req) (unwrap_or (tree.get guests session) no_progress).unanswered) asking) ≡ true
    → list_any (λ other. other == req) (unanswered_checks statements guests) ≡ true
any-unanswered statements req guests None check there = absurd (false≢true there)
any-unanswered statements req guests (Some session) check there = by_progress (tree.get guests session) refl there
  where
    by_progress : (progress : Option SessionProgress) → tree.get guests session ≡ progress
        → is_some (find (is_started_request req) (unwrap_or progress no_progress).unanswered) ≡ true
        → list_any (λ other. other == req) (unanswered_checks statements guests) ≡ true
    by_progress None at there = absurd (false≢true there)
    by_progress (Some progress) at there =
        any-flat_map (λ other. other == req) (checks_of_session statements) (tree.entries guests) (session, progress)
        (entries-contain tree.nat_cmp-IsAntisymmetric guests session progress at)
        (any-checks statements req progress.unanswered check ∙ there)

-- it is among those that have come to a write exactly if it has
pub any-written : (statements : List Statement) (req : ℕ) (world : World)
    → is_check_request statements req ≡ true → is_some (started_at statements req world) ≡ true
    → list_any (λ other. other == req) (written_checks statements world) ≡ is_written_check statements world req
any-written statements req world check there =
    any-filter_same (λ other. other == req) (is_written_check statements world) (is_written_check statements world req)
    (λ other tie. ap (is_written_check statements world) (eqb-true other req tie)) (unanswered_checks statements world.guests)
    ∙ ap (λ b. is_written_check statements world req && b)
    (any-unanswered statements req world.guests (session_asking statements req) check there)
    ∙ and-true (is_written_check statements world req)

-- ---- what a reply adds

-- at checks alone it matters whether they have begun a write
reply_adds-same : (a b : Bool) (req : ℕ) (rsp : GuestRsp) (disk : ℕ) (s : Statement) → (is_check s ≡ true → a ≡ b)
    → reply_adds a req rsp disk s ≡ reply_adds b req rsp disk s
reply_adds-same a b req rsp disk (lines.Cluster nodes) same = refl
reply_adds-same a b req rsp disk (lines.Vnodes vnodes) same = refl
reply_adds-same a b req rsp disk (lines.Tries tries) same = refl
reply_adds-same a b req rsp disk (lines.Limit limit) same = refl
reply_adds-same a b req rsp disk (lines.Session session node) same = refl
reply_adds-same a b req rsp disk (lines.Create session policy shift name size) same = refl
reply_adds-same a b req rsp disk (lines.OpenDisk session name tag) same = refl
reply_adds-same a b req rsp disk (lines.Close session) same = refl
reply_adds-same a b req rsp disk (lines.Read session offset length) same = refl
reply_adds-same a b req rsp disk (lines.Write session offset length pattern) same = refl
reply_adds-same a b req rsp disk (lines.Snapshot session tag) same = refl
reply_adds-same a b req rsp disk (lines.Clone session base tag name) same = refl
reply_adds-same a b req rsp disk (lines.Delete session name tag) same = refl
reply_adds-same a b req rsp disk (lines.Fail node) same = refl
reply_adds-same a b req rsp disk (lines.Join node) same = refl
reply_adds-same a b req rsp disk (lines.Lose count) same = refl
reply_adds-same a b req rsp disk lines.Settle same = refl
reply_adds-same a b req rsp disk lines.ListNodes same = refl
reply_adds-same a b req rsp disk lines.ListVdis same = refl
reply_adds-same a b req rsp disk lines.ClusterInfo same = refl
reply_adds-same a b req rsp disk lines.Dump same = refl
reply_adds-same a b req rsp disk (lines.Zone node zone) same = refl
reply_adds-same a b req rsp disk (lines.Reweight node vnodes) same = refl
reply_adds-same a b req rsp disk (lines.Back node) same = refl
reply_adds-same a b req rsp disk (lines.Check session) same =
    ap (λ written. reply_adds written req rsp disk (lines.Check session)) (same refl)

added_by-same : (a b : Bool) (req : ℕ) (rsp : GuestRsp) (disk : Option ℕ) (s : Option Statement)
    → (is_some disk ≡ true → option_map_or is_check s false ≡ true → a ≡ b) → added_by a req rsp disk s ≡ added_by b req rsp disk s
added_by-same a b req rsp None s same = refl
added_by-same a b req rsp (Some disk) None same = refl
added_by-same a b req rsp (Some disk) (Some s) same = reply_adds-same a b req rsp disk s (same refl)

-- a request that began on a disk was started
started-from_disk : (started : Option StartedRequest)
    → is_some (option_and_then (λ (started : StartedRequest). started.disk) started) ≡ true → is_some started ≡ true
started-from_disk None there = there
started-from_disk (Some started) there = refl

-- the write of a check, by its request
write-request : (req : ℕ) (made : Option CheckWrite)
    → option_map_or (λ number. number == req) (option_map (λ (made : CheckWrite). made.req) made) false
    ≡ option_map_or (is_write_of req) made false
write-request req None = refl
write-request req (Some made) = refl

reply-grown : (statements : List Statement) (world : World) (made : Option CheckWrite) (reply : ℕ × GuestRsp)
    → reply_events statements world.guests (written_checks statements world) (option_map (λ (made : CheckWrite). made.req) made) reply
    ≡ reply_grown statements world made reply
reply-grown statements world made reply =
    added_by-same (is_writing_check (written_checks statements world) (option_map (λ (made : CheckWrite). made.req) made) reply.0)
    (has_begun_check_write statements reply.0 world made) reply.0 reply.1 (disk_of statements reply.0 world) (request_at statements reply.0)
    (λ there check.
    ap (λ b. b || option_map_or (λ number. number == reply.0) (option_map (λ (made : CheckWrite). made.req) made) false)
    (any-written statements reply.0 world check (started-from_disk (started_at statements reply.0 world) there))
    ∙ ap (λ b. is_written_check statements world reply.0 || b) (write-request reply.0 made))

-- what the replies of a step add, once it is known which checks had come to a write before it
pub replies-added : (statements : List Statement) (before after : World) (guests : tree.FinMap nat_cmp SessionProgress) (written : List ℕ)
    (write : Option ℕ) (replies : List (ℕ × GuestRsp)) (earlier events : List HistEvent)
    → guests ≡ before.guests → written ≡ written_checks statements before → replies ≡ after.outputs.replies
    → events ≡ earlier ++ flat_map (reply_events statements guests written write) replies
    → AreRepliesAdded statements before write after earlier events
replies-added statements before after guests written write replies earlier events asked checks given is made of =
    let told : tree.FinMap nat_cmp SessionProgress → List ℕ → Option ℕ → List (ℕ × GuestRsp) → List HistEvent =
    λ guests written write replies. earlier ++ flat_map (reply_events statements guests written write) replies in
    is
    ∙ ap (λ guests. told guests written write replies) asked
    ∙ ap (λ written. told before.guests written write replies) checks
    ∙ ap (λ write. told before.guests (written_checks statements before) write replies) (sym of)
    ∙ ap (told before.guests (written_checks statements before) (option_map (λ (made : CheckWrite). made.req) made)) given
    ∙ ap (λ (f : ℕ × GuestRsp → List HistEvent). earlier ++ flat_map f after.outputs.replies)
    (λ i reply. reply-grown statements before made reply i)
