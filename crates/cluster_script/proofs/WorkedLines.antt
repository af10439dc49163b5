-- Lines of the whole language, worked out by computing: what each is read as behind the same statements, or its first cause.
use Rattle.std.proofs.Common.{◌≡◌, ℕ, List, [], ◌∷◌, Option, Some, None, Result, Ok, Err, refl}
use Rattle.std.specs.Prelude.{codes, map}
use Rattle.object_id.specs.declared.policy.Policy.TheVariants.{Copies, Coded}
use Rattle.cluster_script.specs.declared.statement.Pattern.TheVariants.{Step}
use Rattle.cluster_script.specs.declared.statement.Statement.{Statement}
use Rattle.cluster_script.specs.declared.statement.Statement.TheVariants as lines
use Rattle.cluster_script.specs.declared.fault.LineCause.{LineCause}
use Rattle.cluster_script.specs.declared.fault.LineCause.TheVariants as causes
use Rattle.cluster_script.specs.Words.{words_of, keyword_at, name_word_at}
use Rattle.cluster_script.specs.Numbers.{scaled_number, size_of_word, plain_number_at, blocks_at}
use Rattle.cluster_script.specs.Requests as requests
use Rattle.cluster_script.specs.ClusterLines as cluster
use Rattle.cluster_script.specs.Script.{asking_session, session_request_at, statement_behind_cluster, statement_at, statement_of_words}

-- a line, and what it is read as
abbrev Row : Type 0
Row = List ℕ × Result (Option Statement) LineCause

-- each line of a table is read behind these statements as the table says
abbrev AreRead : List Statement → List Row → Type 0
AreRead before table = map (λ (row : Row). statement_of_words statement_at before (words_of row.0)) table ≡ map (λ (row : Row). row.1) table

-- three nodes, of which one is failed, a fourth that joins, a session, and 9,000 losses of the phase
abbrev cluster_so_far : List Statement
cluster_so_far = lines.Cluster 3 ∷ lines.Session 1 0 ∷ lines.Fail 1 ∷ lines.Join 3 ∷ lines.Lose 9000 ∷ []

abbrev lines_of_a_cluster : List Row
lines_of_a_cluster =
    (codes "vnodes 8", Err causes.Word) ∷
    (codes "cluster info", Ok (Some lines.ClusterInfo)) ∷
    (codes "settle", Ok (Some lines.Settle)) ∷
    (codes "dump", Ok (Some lines.Dump)) ∷
    (codes "node list", Ok (Some lines.ListNodes)) ∷
    (codes "vdi list", Ok (Some lines.ListVdis)) ∷
    (codes "session 2 node 3", Ok (Some (lines.Session 2 3))) ∷
    (codes "fail 3", Ok (Some (lines.Fail 3))) ∷
    (codes "reweight 2 256", Ok (Some (lines.Reweight 2 256))) ∷
    (codes "back 1", Ok (Some (lines.Back 1))) ∷
    (codes "lose 1000", Ok (Some (lines.Lose 1000))) ∷
    (codes "zone 1 2", Err causes.Word) ∷
    (codes "1 vdi create gs 64M", Ok (Some (lines.Create 1 (Copies 3) 22 (codes "gs") 67108864))) ∷
    (codes "1 vdi create -c 4:2 -z 20 gs 64M", Ok (Some (lines.Create 1 (Coded 4 2) 20 (codes "gs") 67108864))) ∷
    (codes "1 vdi create -z 12 -c 2 gs 4K", Err causes.Word) ∷
    (codes "1 vdi open -s monday gs", Ok (Some (lines.OpenDisk 1 (codes "gs") (Some (codes "monday"))))) ∷
    (codes "1 vdi open gs", Ok (Some (lines.OpenDisk 1 (codes "gs") None))) ∷
    (codes "1 vdi close", Ok (Some (lines.Close 1))) ∷
    (codes "1 vdi read 1K 0512", Ok (Some (lines.Read 1 1024 512))) ∷
    (codes "1 vdi write 0 1M step 255", Ok (Some (lines.Write 1 0 1048576 (Step 255)))) ∷
    (codes "1 vdi snapshot -s monday", Ok (Some (lines.Snapshot 1 (codes "monday")))) ∷
    (codes "1 vdi clone -s monday gs hs", Ok (Some (lines.Clone 1 (codes "gs") (codes "monday") (codes "hs")))) ∷
    (codes "1 vdi delete gs", Ok (Some (lines.Delete 1 (codes "gs") None))) ∷
    (codes "1 vdi check", Ok (Some (lines.Check 1))) ∷
    (codes "1 vdi check gs", Err causes.Word) ∷
    (codes "1 vdi snapshot monday", Err causes.Word) ∷
    (codes "1 vdi open -gs", Err causes.Word) ∷
    (codes "1 vdi close now", Err causes.Word) ∷
    (codes "1 vdi raed 0 512", Err causes.Word) ∷
    (codes "1x vdi close", Err causes.Word) ∷
    (codes "1 vdi create -c 4:2:1 gs 64M", Err causes.Number) ∷
    (codes "1 vdi create -c 3:1 gs 64M", Err causes.Range) ∷
    (codes "1 vdi create -z 25 gs 64M", Err causes.Range) ∷
    (codes "1 vdi read 0 1k", Err causes.Number) ∷
    (codes "1 vdi read 17179869184G 512", Err causes.Number) ∷
    (codes "1 vdi create -z 12 gs 8G", Err causes.Range) ∷
    (codes "1 vdi read 0 513", Err causes.Unaligned) ∷
    (codes "1 vdi read 100 0", Err causes.Unaligned) ∷
    (codes "1 vdi write 0 512 fill 256", Err causes.Range) ∷
    (codes "18446744073709551616 vdi close", Err causes.Number) ∷
    (codes "65 vdi close", Err causes.Range) ∷
    (codes "2 vdi close", Err causes.Unknown) ∷
    (codes "session 65 node 0", Err causes.Range) ∷
    (codes "session 1 node 9", Err causes.Twice) ∷
    (codes "session 2 node 1", Err causes.Unknown) ∷
    (codes "session 2 node 64", Err causes.Range) ∷
    (codes "join 2", Err causes.Twice) ∷
    (codes "join 64", Err causes.Range) ∷
    (codes "fail 1", Err causes.Unknown) ∷
    (codes "fail 4", Err causes.Unknown) ∷
    (codes "reweight 1 0", Err causes.Unknown) ∷
    (codes "reweight 2 257", Err causes.Range) ∷
    (codes "back 0", Err causes.Unknown) ∷
    (codes "lose 1001", Err causes.TooMany) ∷
    (codes "node lists", Err causes.Word) ∷
    (codes "stop", Err causes.Word) ∷
    (codes "0 vdi close", Err causes.Range) ∷
    (codes "1", Err causes.Word) ∷
    (codes "1 vd close", Err causes.Word) ∷
    (codes "1 vdi", Err causes.Word) ∷
    (codes "1 vdi create -c gs 64M", Err causes.Number) ∷
    (codes "1 vdi create -c 32 gs 64M", Err causes.Range) ∷
    (codes "1 vdi create -c 2:16 gs 64M", Err causes.Range) ∷
    (codes "1 vdi create gs 511", Err causes.Range) ∷
    (codes "1 vdi create gs 513", Err causes.Unaligned) ∷
    (codes "1 vdi create gs", Err causes.Word) ∷
    (codes "1 vdi open -s gs", Err causes.Word) ∷
    (codes "1 vdi read 0 1048577", Err causes.Range) ∷
    (codes "1 vdi read 0 512 512", Err causes.Word) ∷
    (codes "1 vdi write 0 512 full 256", Err causes.Word) ∷
    (codes "1 vdi write 0 512 fill x", Err causes.Number) ∷
    (codes "1 vdi write 0 512 fill", Err causes.Word) ∷
    (codes "1 vdi clone -s monday gs", Err causes.Word) ∷
    (codes "session 0 node 0", Err causes.Range) ∷
    (codes "session 1 nod 9", Err causes.Twice) ∷
    (codes "session 2 node 0 0", Err causes.Word) ∷
    (codes "fail x", Err causes.Number) ∷
    (codes "fail 64", Err causes.Range) ∷
    (codes "fail", Err causes.Word) ∷
    (codes "join 2 3", Err causes.Twice) ∷
    (codes "reweight 2", Err causes.Word) ∷
    (codes "reweight 4 0", Err causes.Unknown) ∷
    (codes "back 64", Err causes.Range) ∷
    (codes "lose x", Err causes.Number) ∷
    (codes "lose 1001 2", Err causes.Word) ∷
    (codes "dump all", Err causes.Word) ∷
    []

abbrev lines_behind_settings : List Row
lines_behind_settings =
    (codes "vnodes 8", Ok (Some (lines.Vnodes 8))) ∷
    (codes "vnodes 257", Err causes.Range) ∷
    (codes "tries 1000", Ok (Some (lines.Tries 1000))) ∷
    (codes "limit 0", Err causes.Range) ∷
    (codes "zone 63 0", Ok (Some (lines.Zone 63 0))) ∷
    (codes "zone 0 8", Err causes.Twice) ∷
    (codes "zone 1 64", Err causes.Range) ∷
    (codes "cluster 3", Err causes.Word) ∷
    (codes "session 1 node 2", Ok (Some (lines.Session 1 2))) ∷
    (codes "session 1 node 3", Err causes.Unknown) ∷
    (codes "zone 64 0", Err causes.Range) ∷
    (codes "zone 1", Err causes.Word) ∷
    (codes "tries 1001", Err causes.Range) ∷
    (codes "limit 1000001", Err causes.Range) ∷
    (codes "cluster info", Ok (Some lines.ClusterInfo)) ∷
    []

abbrev first_lines : List Row
first_lines =
    (codes "cluster 64", Ok (Some (lines.Cluster 64))) ∷
    (codes "cluster 65", Err causes.Range) ∷
    (codes "cluster", Err causes.Word) ∷
    (codes "cluster x", Err causes.Number) ∷
    (codes "cluster info", Err causes.Word) ∷
    (codes "zone 5 5", Ok (Some (lines.Zone 5 5))) ∷
    (codes "limit 1000000", Ok (Some (lines.Limit 1000000))) ∷
    (codes "settle", Err causes.Word) ∷
    (codes "1 vdi close", Err causes.Word) ∷
    (codes "back 1", Err causes.Word) ∷
    (codes "cluster 65 x", Err causes.Range) ∷
    (codes "cluster 3 4", Err causes.Word) ∷
    (codes "cluster 0", Err causes.Range) ∷
    []

-- a script has four checks at most, and may go on otherwise
abbrev lines_behind_four_checks : List Row
lines_behind_four_checks =
    (codes "1 vdi check", Err causes.TooMany) ∷
    (codes "1 vdi check now", Err causes.Word) ∷
    (codes "1 vdi close", Ok (Some (lines.Close 1))) ∷
    []

abbrev four_checks : List Statement
four_checks = lines.Cluster 3 ∷ lines.Session 1 0 ∷ lines.Check 1 ∷ lines.Check 1 ∷ lines.Check 1 ∷ lines.Check 1 ∷ []

checks_are_counted : AreRead four_checks lines_behind_four_checks
unfolding statement_of_words statement_at statement_behind_cluster session_request_at asking_session keyword_at requests.vdi_request_at requests.verb_at requests.close_request_at requests.copy_verb_at requests.check_request_at scaled_number
checks_are_counted = refl

lines_are_read : AreRead cluster_so_far lines_of_a_cluster
unfolding statement_of_words statement_at cluster.setting_at statement_behind_cluster cluster.zone_at cluster.happening_at session_request_at cluster.barrier_at cluster.session_line_at cluster.fail_at cluster.reweight_at cluster.back_at cluster.lose_at asking_session cluster.join_at cluster.followed_at cluster.alone_at plain_number_at cluster.there_at scaled_number keyword_at requests.vdi_request_at requests.verb_at requests.create_request_at requests.open_request_at requests.close_request_at requests.read_request_at requests.write_request_at requests.copy_verb_at name_word_at requests.policy_option_at requests.disk_words_at requests.span_at requests.snapshot_request_at requests.clone_request_at requests.delete_request_at requests.check_request_at blocks_at requests.strips_in requests.tag_at size_of_word requests.pattern_at requests.named_pattern_at requests.pattern_byte_at requests.copies_in
lines_are_read = refl

settings_are_read : AreRead (lines.Cluster 3 ∷ lines.Zone 0 9 ∷ []) lines_behind_settings
unfolding statement_of_words statement_at cluster.setting_at cluster.zone_at statement_behind_cluster plain_number_at cluster.happening_at scaled_number cluster.session_line_at keyword_at cluster.there_at cluster.barrier_at cluster.followed_at cluster.alone_at
settings_are_read = refl

the_first_line_is_read : AreRead [] first_lines
unfolding statement_of_words statement_at cluster.setting_at statement_behind_cluster cluster.zone_at plain_number_at scaled_number
the_first_line_is_read = refl
