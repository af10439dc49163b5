-- No event ends the writes of a request that still has no reply behind it: a step replies to others, and a lost node's writers are its own.
use Rattle.std.proofs.Common.{flat_map}
use Rattle.std.proofs.Common.{subst}
use Rattle.std.proofs.Common.{◌≡◌, ◌≢◌, ℕ, suc, ◌+◌, ◌==◌, Bool, true, false, ◌&&◌, List, [], ◌∷◌, map, filter, Contains, Option, Some}
use Rattle.std.proofs.Common.{None, is_some, refl, sym, ap, ◌∙◌, arith, ⊎_elim}
use Rattle.std.specs.Prelude.{flat_map, slice_get}
use Rattle.std.specs.List.{enumerate_from}
use Rattle.std.specs.Option.{option_map_or, option_and_then}
use Rattle.std.proofs.lemmas.Bool.{and_parts, eqb-true, ne_eqb}
use Rattle.proof_tools.proofs.Lists.{Contains-nil, Contains-cons_cases, filter-contains}
use Rattle.object_id.specs.declared.entry.Entry.{Entry}
use Rattle.disk_history.specs.declared.event.HistEvent.{HistEvent}
use Rattle.disk_history.specs.declared.event.HistEvent.TheVariants.{WriterLost}
use Rattle.cluster_script.specs.declared.statement.Statement.{Statement}
use Rattle.cluster_script.specs.NumberedRequests.{request_at, session_of, numbered_requests}
use Rattle.cluster_script.specs.Sessions.{ScriptSession}
use Rattle.cluster_script.specs.Statements.{requests_of}
use Rattle.guest_driver.specs.declared.disk.Disk.{Disk}
use Rattle.peer_proto.specs.declared.guest.GuestRsp.{GuestRsp}
use Rattle.sheep_node.specs.declared.check_write.CheckWrite.{CheckWrite}
use Rattle.sheep_world.specs.HistoryAdditions.{has_begun_check_write}
use Rattle.sheep_world.specs.World.{Host, World}
use Rattle.sheep_world.specs.Effects.{open_disk_at, request_started}
use Rattle.sheep_world.specs.Granted.{entry_adds}
use Rattle.sheep_world.specs.HistoryAdditions.{added_by, begins_on, blocks_read, check_write_by, check_write_grown, disk_of, is_lost_write}
use Rattle.sheep_world.specs.HistoryAdditions.{is_of_incarnation, is_writing_request, replies_grown, reply_grown, request_grown}
use Rattle.sheep_world.specs.NodeCauses.{NodeCause, GuestAsks, RequestComes, ReplyComes, LossIsTold, EntryIsRead, EntryIsPut, RecoveryTicks}
use Rattle.sheep_world.specs.NodeCauses.{WorkIsRetried, ClientAsks, history_of_cause}
use Rattle.overlap_law.specs.DiskEvents.{ends_write_of}
use Rattle.overlap_law.proofs.ClosedAdditions.{none_of, reads_add, reply_add, end_so, asks_add, entry_add, checks_add, replies_add}
use Rattle.overlap_law.proofs.DiskEventsOfHolders.{HasNone, append_none, map_none_in}
use Rattle.overlap_law.proofs.SessionsOfRequests.{IsAskedIn}
use Rattle.std.proofs.lemmas.Bool.{cases_eq}

-- ---- what ends nothing

module _ (req : ℕ) where
  abbrev test : HistEvent → Bool
  test = ends_write_of req

  abbrev IsOther : HistEvent → Type 0
  IsOther event = ends_write_of req event ≡ false

  pub read_none : (disk offset : ℕ) (rsp : GuestRsp) → HasNone test (blocks_read disk offset rsp)
  read_none disk offset rsp = none_of test (blocks_read disk offset rsp) (reads_add IsOther (λ disk block bytes. refl) disk offset rsp)

  pub added_none : (written : Bool) (other : ℕ) (rsp : GuestRsp) (disk : Option ℕ) (s : Option Statement) → (other == req) ≡ false
      → HasNone test (added_by written other rsp disk s)
  added_none written other rsp disk s apart =
      none_of test (added_by written other rsp disk s)
      (reply_add IsOther (λ disk block bytes. refl) written other rsp (end_so IsOther other rsp (λ done. apart) apart) disk s)

  pub asks_none : (other : ℕ) (disk : Option Disk) (s : Option Statement) → HasNone test (option_map_or (begins_on other disk) s [])
  asks_none other disk s =
      none_of test (option_map_or (begins_on other disk) s []) (asks_add IsOther other disk s (λ opened block coded bytes is. refl))

  pub entry_none : (log : List Entry) (entry : Entry) → HasNone test (entry_adds log entry)
  entry_none log entry =
      none_of test (entry_adds log entry)
      (entry_add IsOther (λ disk blocks. refl) (λ old new. refl) (λ disk. refl) log entry)

  module _ (script : List Statement) where
    pub checks_none : (write : Option CheckWrite) → HasNone test (option_map_or (check_write_grown script) write [])
    checks_none write =
        none_of test (option_map_or (check_write_grown script) write [])
        (checks_add IsOther (λ disk block bytes. refl) script write (λ other disk block coded bytes. refl))

    pub replies_none : (before : World) (write : Option CheckWrite) (replies : List (ℕ × GuestRsp))
        → ((reply : ℕ × GuestRsp) → Contains replies reply → reply.0 ≢ req)
        → HasNone test (flat_map (reply_grown script before write) replies)
    replies_none before write replies apart =
        none_of test (flat_map (reply_grown script before write) replies)
        (replies_add IsOther (λ disk block bytes. refl) script before write replies
        (λ reply among.
        let other = ne_eqb reply.0 req (apart reply among) in end_so IsOther reply.0 reply.1 (λ done. other) other))

    -- ---- a step ends no write of a request to which it doesn't reply

    module _ (world after : World) (apart : (reply : ℕ × GuestRsp) → Contains after.outputs.replies reply → reply.0 ≢ req) where
      told_none : (found : World) (write : Option CheckWrite) → HasNone test (replies_grown script found write after)
      told_none found write = replies_none found write after.outputs.replies apart

      pub step_ends_none : (cause : NodeCause) → HasNone test (history_of_cause script cause world after)
      step_ends_none (GuestAsks session other ask) =
          append_none test (request_grown script world session (Some other))
          (replies_grown script (request_started session (Some other) world) None after)
          (asks_none other (open_disk_at session world) (request_at script other))
          (told_none (request_started session (Some other) world) None)
      step_ends_none (RequestComes name to request) =
          append_none test (option_map_or (check_write_grown script) (check_write_by name world after) [])
          (replies_grown script world (check_write_by name world after) after)
          (checks_none (check_write_by name world after)) (told_none world (check_write_by name world after))
      step_ends_none (ReplyComes name from rsp) =
          append_none test (option_map_or (check_write_grown script) (check_write_by name world after) [])
          (replies_grown script world (check_write_by name world after) after)
          (checks_none (check_write_by name world after)) (told_none world (check_write_by name world after))
      step_ends_none (LossIsTold name packet) = told_none world None
      step_ends_none (EntryIsRead entry) = told_none world None
      step_ends_none (EntryIsPut entry) = entry_none world.log entry
      step_ends_none RecoveryTicks = told_none world None
      step_ends_none WorkIsRetried = told_none world None
      step_ends_none (ClientAsks req ask) = told_none world None

    -- ---- nor one of a request that the script doesn't have

    module _ (world after : World) (none : request_at script req ≡ None) where
      pub untold_none : (before : World) (write : Option CheckWrite) (reply : ℕ × GuestRsp)
          → HasNone test (reply_grown script before write reply)
      untold_none before write reply = ⊎_elim
          (λ (own : reply.0 ≡ req).
          subst (λ (s : Option Statement). HasNone test (added_by written reply.0 reply.1 (disk_of script reply.0 before) s))
          (sym (ap (request_at script) own ∙ none)) (nothing (disk_of script reply.0 before)))
          (λ (other : reply.0 ≢ req).
          added_none written reply.0 reply.1 (disk_of script reply.0 before) (request_at script reply.0) (ne_eqb reply.0 req other))
          (cases_eq reply.0 req)
        where
          written : Bool
          written = has_begun_check_write script reply.0 before write

          nothing : (disk : Option ℕ) → HasNone test (added_by written reply.0 reply.1 disk None)
          nothing None = refl
          nothing (Some disk) = refl

      all_untold : (before : World) (write : Option CheckWrite) (replies : List (ℕ × GuestRsp))
          → HasNone test (flat_map (reply_grown script before write) replies)
      all_untold before write [] = refl
      all_untold before write (reply ∷ later) =
          append_none test (reply_grown script before write reply) (flat_map (reply_grown script before write) later)
          (untold_none before write reply) (all_untold before write later)

      pub unasked_ends_none : (cause : NodeCause) → HasNone test (history_of_cause script cause world after)
      unasked_ends_none (GuestAsks session other ask) =
          append_none test (request_grown script world session (Some other))
          (replies_grown script (request_started session (Some other) world) None after)
          (asks_none other (open_disk_at session world) (request_at script other))
          (all_untold (request_started session (Some other) world) None after.outputs.replies)
      unasked_ends_none (RequestComes name to request) =
          append_none test (option_map_or (check_write_grown script) (check_write_by name world after) [])
          (replies_grown script world (check_write_by name world after) after)
          (checks_none (check_write_by name world after)) (all_untold world (check_write_by name world after) after.outputs.replies)
      unasked_ends_none (ReplyComes name from rsp) =
          append_none test (option_map_or (check_write_grown script) (check_write_by name world after) [])
          (replies_grown script world (check_write_by name world after) after)
          (checks_none (check_write_by name world after)) (all_untold world (check_write_by name world after) after.outputs.replies)
      unasked_ends_none (LossIsTold name packet) = all_untold world None after.outputs.replies
      unasked_ends_none (EntryIsRead entry) = all_untold world None after.outputs.replies
      unasked_ends_none (EntryIsPut entry) = entry_none world.log entry
      unasked_ends_none RecoveryTicks = all_untold world None after.outputs.replies
      unasked_ends_none WorkIsRetried = all_untold world None after.outputs.replies
      unasked_ends_none (ClientAsks begins ask) = all_untold world None after.outputs.replies

    -- ---- nor does a lost node end one of another, or of another incarnation

    pub numbered_at : (first : ℕ) (list : List Statement) (k : ℕ) (s : Statement) → Contains (enumerate_from first list) (k, s)
        → (place : ℕ) × (k ≡ first + place) × (slice_get list place ≡ Some s)
    numbered_at first [] k s there = absurd (Contains-nil (k, s) there)
    numbered_at first (line ∷ later) k s there = ⊎_elim
        (λ (own : (first, line) ≡ (k, s)).
        let number : first ≡ k = ap (λ (one : ℕ × Statement). one.0) own in
        (0, omega (arith, number), ap (λ (one : ℕ × Statement). Some one.1) own))
        (λ (behind : Contains (enumerate_from (first + 1) later) (k, s)).
        let (place, is, got) = numbered_at (first + 1) later k s behind in
        (suc place, omega (arith, is), got))
        (Contains-cons_cases (first, line) (enumerate_from (first + 1) later) (k, s) there)

    pub stands_at : (k : ℕ) (s : Statement) → Contains (numbered_requests script) (k, s) → request_at script k ≡ Some s
    stands_at k s there =
        let (place, is, got) = numbered_at 1 (requests_of script) k s there in
        let number : k ≡ suc place = omega (arith, is) in
        ap (request_at script) number ∙ got

    pub loss_ends_none_of : (world : World) (lost : ℕ) (host : Host) (n incarnation session : ℕ)
        → (n ≡ lost → incarnation ≡ host.incarnation → ⊥) → IsAskedIn script n incarnation req session
        → HasNone test (map (λ (request : ℕ × Statement). WriterLost request.0)
        (filter (is_lost_write script world lost host) (numbered_requests script)))
    loss_ends_none_of world lost host n incarnation session apart asked =
        map_none_in test (λ (request : ℕ × Statement). WriterLost request.0)
        (filter (is_lost_write script world lost host) (numbered_requests script))
        (λ request among. ne_eqb request.0 req (λ (same : request.0 ≡ req). others request among same))
      where
        others : (request : ℕ × Statement) → Contains (filter (is_lost_write script world lost host) (numbered_requests script)) request
            → request.0 ≡ req → ⊥
        others request among same =
            let (there, passes) = filter-contains (is_lost_write script world lost host) (numbered_requests script) request among in
            let of_lost = option_map_or (is_of_incarnation script lost host.incarnation) (session_of request.1) false in
            let parts = and_parts (is_writing_request host.node request && of_lost) (is_some (disk_of script request.0 world)) passes in
            let lives : of_lost ≡ true = (and_parts (is_writing_request host.node request) of_lost parts.0).1 in
            let stands : request_at script request.0 ≡ Some request.1 = stands_at request.0 request.1 there in
            let asks : session_of request.1 ≡ Some session
            = sym (ap (option_and_then session_of) stands)
            ∙ ap (λ (k : ℕ). option_and_then session_of (request_at script k)) same ∙ asked.asking in
            let is : (asked.of.node == lost && asked.of.incarnation == host.incarnation) ≡ true
            = sym (ap (λ (o : Option ScriptSession).
            option_map_or (λ (of : ScriptSession). of.node == lost && of.incarnation == host.incarnation) o false) asked.declared)
            ∙ sym (ap (λ (o : Option ℕ). option_map_or (is_of_incarnation script lost host.incarnation) o false) asks) ∙ lives in
            let both = and_parts (asked.of.node == lost) (asked.of.incarnation == host.incarnation) is in
            apart (sym asked.of_node ∙ eqb-true asked.of.node lost both.0)
            (sym asked.of_incarnation ∙ eqb-true asked.of.incarnation host.incarnation both.1)

    pub loss_ends_none : (world : World) (lost : ℕ) (host : Host) (n incarnation session : ℕ) → n ≢ lost
        → IsAskedIn script n incarnation req session
        → HasNone test (map (λ (request : ℕ × Statement). WriterLost request.0)
        (filter (is_lost_write script world lost host) (numbered_requests script)))
    loss_ends_none world lost host n incarnation session apart asked =
        loss_ends_none_of world lost host n incarnation session (λ same lived. apart same) asked
