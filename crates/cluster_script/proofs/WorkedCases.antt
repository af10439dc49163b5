-- Cases that are worked out by computing.
use Rattle.std.proofs.Common.{◌≡◌, ℕ, List, [], ◌∷◌, Option, Some, None, refl}
use Rattle.std.specs.List.{slice_get}
use Rattle.object_id.specs.declared.policy.Policy.TheVariants.{Copies}
use Rattle.cluster_script.specs.declared.statement.Pattern.TheVariants.{Fill, Step}
use Rattle.cluster_script.specs.declared.statement.Statement.{Statement}
use Rattle.cluster_script.specs.declared.statement.Statement.TheVariants as lines
use Rattle.cluster_script.specs.Settings.{nodes_of, vnodes_of, tries_of, limit_of, zone_of, opening_members}
use Rattle.cluster_script.specs.NumberedRequests.{request_at, numbers_of_session, payload_of}
use Rattle.cluster_script.specs.Phases.{phases_of, phase_of_request}
use Rattle.cluster_script.specs.Sessions.{sessions_of}

-- Two nodes in one zone, and a third one that joins. The disk is written, a node fails and comes back, and a session of
-- its second incarnation reads; what stands behind the last barrier ends by settling.
abbrev script : List Statement
script =
    lines.Cluster 2 ∷ lines.Zone 1 0 ∷ lines.Vnodes 8
    ∷ lines.Session 2 1
    ∷ lines.Create 2 (Copies 1) 22 (97 ∷ []) 4096 ∷ lines.OpenDisk 2 (97 ∷ []) None ∷ lines.Write 2 512 1024 (Step 255) ∷ lines.ListNodes
    ∷ lines.Lose 2 ∷ lines.Fail 1 ∷ lines.Join 2 ∷ lines.Lose 3 ∷ lines.Settle
    ∷ lines.Back 1 ∷ lines.Session 1 1 ∷ lines.OpenDisk 1 (97 ∷ []) None ∷ lines.Read 1 0 512
    ∷ []

its_nodes : nodes_of script ≡ 2
its_nodes = refl

its_virtual_nodes : vnodes_of script ≡ 8
its_virtual_nodes = refl

no_tries_are_set : tries_of script ≡ 8
no_tries_are_set = refl

no_limit_is_set : limit_of script ≡ 1000000
no_limit_is_set = refl

-- a node without a zone of its own is in that of its number
a_joining_node_has_its_zone : zone_of script 2 ≡ 2
a_joining_node_has_its_zone = refl

it_opens_with_two_members : opening_members script
    ≡ record { node = record { 0 = 0 }; zone = 0; vnodes = 8 } ∷ record { node = record { 0 = 1 }; zone = 0; vnodes = 8 } ∷ []
it_opens_with_two_members = refl

its_phases : phases_of script
    ≡ record { controls = []; losses = 0; requests = 1 ∷ 2 ∷ 3 ∷ []; barrier = lines.ListNodes }
    ∷ record { controls = lines.Fail 1 ∷ lines.Join 2 ∷ []; losses = 5; requests = []; barrier = lines.Settle }
    ∷ record { controls = lines.Back 1 ∷ []; losses = 0; requests = 4 ∷ 5 ∷ []; barrier = lines.Settle }
    ∷ []
its_phases = refl

settings_are_of_no_phase : phases_of (lines.Cluster 2 ∷ lines.Tries 3 ∷ []) ≡ []
settings_are_of_no_phase = refl

a_session_opens_a_phase : phases_of (lines.Cluster 1 ∷ lines.Session 1 0 ∷ [])
    ≡ record { controls = []; losses = 0; requests = []; barrier = lines.Settle } ∷ []
a_session_opens_a_phase = refl

nothing_stands_behind_a_barrier : phases_of (lines.Cluster 1 ∷ lines.Dump ∷ [])
    ≡ record { controls = []; losses = 0; requests = []; barrier = lines.Dump } ∷ []
nothing_stands_behind_a_barrier = refl

the_third_request_is_of_the_first_phase : phase_of_request script 3 ≡ 0
the_third_request_is_of_the_first_phase = refl

the_fourth_is_of_the_third : phase_of_request script 4 ≡ 2
the_fourth_is_of_the_third = refl

-- session 1 is declared behind `back 1`, session 2 before it
its_sessions : sessions_of script
    ≡ record { number = 1; node = 1; incarnation = 2 } ∷ record { number = 2; node = 1; incarnation = 1 } ∷ []
its_sessions = refl

its_fourth_request : request_at script 4 ≡ Some (lines.OpenDisk 1 (97 ∷ []) None)
its_fourth_request = refl

no_request_is_number_0 : request_at script 0 ≡ None
no_request_is_number_0 = refl

nor_number_6 : request_at script 6 ≡ None
nor_number_6 = refl

requests_of_session_1 : numbers_of_session script 1 ≡ 4 ∷ 5 ∷ []
requests_of_session_1 = refl

-- blocks of 512 bytes
abbrev spots : List ℕ → List (Option ℕ)
spots bytes = slice_get bytes 0 ∷ slice_get bytes 511 ∷ slice_get bytes 512 ∷ slice_get bytes 1023 ∷ slice_get bytes 1024 ∷ []

steps_go_up_with_each_block : spots (payload_of (Step 255) 1024) ≡ Some 255 ∷ Some 255 ∷ Some 0 ∷ Some 0 ∷ None ∷ []
steps_go_up_with_each_block = refl

filling_stays : spots (payload_of (Fill 7) 1024) ≡ Some 7 ∷ Some 7 ∷ Some 7 ∷ Some 7 ∷ None ∷ []
filling_stays = refl
