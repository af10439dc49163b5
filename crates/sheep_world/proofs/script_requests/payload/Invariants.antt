use Rattle.std.proofs.Common.{◌≡◌, ◌≤◌, ◌-◌}
use Rattle.std.specs.Vec.{vec_len}
use Rattle.cluster_script.specs.NumberedRequests.{payload_of}
use Rattle.sheep_world.proofs.script_requests.payload.Given as goal

-- so many bytes stand
abbrev pub invariant-loop-done : goal.invariant-loop-done
invariant-loop-done l = record {
  stand : l.bytes.items ≡ payload_of l.pattern l.done;
  long : vec_len l.bytes ≡ l.done;
  within : l.done ≤ l.length;
}

abbrev pub decreases-loop-done : goal.decreases-loop-done
decreases-loop-done l = l.length - l.done
