-- In every run in range the attempts are tied to the wire: at its opening, and over each change of a moment.
use Rattle.std.proofs.Common.{◌≡◌, List, Some}
use Rattle.std.specs.FinMap as tree
use Rattle.cluster_script.specs.declared.statement.Statement.{Statement}
use Rattle.message_wire.specs.declared.name.MessageName.{MessageName}
use Rattle.message_wire.specs.declared.packet.Packet.{Packet}
use Rattle.message_wire.specs.Message.{name_cmp, message_name}
use Rattle.sheep_world.specs.Opening.{initial_world}
use Rattle.sheep_world.specs.Began.{Began}
use Rattle.sheep_world.proofs.WireAtOpening.{opening-wired}
use Rattle.overlap_law.specs.Past.{MomentWithPast, first_moment}
use Rattle.overlap_law.specs.MomentChanges.{MomentChange, RunsAreInRange, KeptByChanges}
use Rattle.overlap_law.specs.TiedAttempts.{IsTied}
use Rattle.overlap_law.proofs.ChangesKeepAttempts.{keeps_fates, keeps_told}
use Rattle.overlap_law.proofs.EpochsRise.{epochs_rise}
use Rattle.overlap_law.proofs.HostsInMoments.{hosts_stay, lost_were_lost}
use Rattle.overlap_law.proofs.GatewaysOfAttempts.{there_still, incarnations_still}
use Rattle.overlap_law.proofs.TrafficLost.{traffic_lost}
use Rattle.overlap_law.proofs.TrafficServers.{traffic_reached}
use Rattle.overlap_law.proofs.TrafficNumbers.{traffic_numbers}
use Rattle.overlap_law.proofs.TrafficOfChanges.{traffic}

-- before the first event nothing is in the wire, and there are no attempts
pub none_yet : (script : List Statement) (name : MessageName) (packet : Packet)
    → tree.get (first_moment script).world.wire name ≡ Some packet → ⊥
unfolding initial_world
none_yet script name packet got = let none = tree.get-empty {X = Packet} name_cmp name in cc (got, none)

pub opening_tied : (script : List Statement) → IsTied (first_moment script)
opening_tied script = record {
  numbers = record { given = (opening-wired script).given };
  no_reply_to_lost = record { each = λ n host there number packet lost got. absurd (none_yet script (message_name n number) packet got) };
  there = record { each = λ j attempt got. absurd (cc (got)) };
  incarnations = record {
    began = λ j attempt got. absurd (cc (got));
    earlier = λ j attempt got. absurd (cc (got));
    given = λ j attempt got. absurd (cc (got));
    apart = λ j attempt got. absurd (cc (got));
  };
  fates = record { whole = λ j attempt got. absurd (cc (got)); each = λ j attempt got. absurd (cc (got)) };
  told = record { each = λ j attempt got. absurd (cc (got)) };
  reached = record { each = λ j attempt got. absurd (cc (got)) };
}

module _ (script : List Statement) (range : RunsAreInRange script) where
  pub change_tied : (start before after : MomentWithPast) → Began script start.world → MomentChange script start before after
      → IsTied before → IsTied after
  change_tied start before after began change tied = record {
    numbers = record {
      given =
          traffic_numbers before.world.hosts after.world.hosts before.world.wire before.past.attempts
          (hosts_stay script range start began change) tied.numbers.given (traffic script range start began change);
    };
    no_reply_to_lost =
        traffic_lost before.world.hosts after.world.hosts before.world.wire after.world.wire before.past.attempts after.past.attempts
        (lost_were_lost script change) (traffic script range start began change) tied.no_reply_to_lost;
    there =
        there_still before.world.hosts after.world.hosts before.world.wire after.world.wire before.past.attempts after.past.attempts
        tied.incarnations tied.there (hosts_stay script range start began change) (traffic script range start began change);
    incarnations =
        incarnations_still before.world.hosts after.world.hosts before.world.wire after.world.wire before.past.attempts after.past.attempts
        tied.incarnations tied.there (hosts_stay script range start began change) (traffic script range start began change);
    fates = keeps_fates script range start before after began change tied.incarnations tied.fates;
    told = keeps_told script range start before after began change tied.incarnations tied.fates tied.told;
    reached =
        traffic_reached before.world.hosts after.world.hosts before.world.wire before.past.attempts
        (epochs_rise script range start began change) tied.reached tied.fates (traffic script range start began change);
  }

  pub kept_tied : KeptByChanges script IsTied
  kept_tied =
      record {
        opens = opening_tied script;
        keeps = λ start before after began change tied. change_tied start before after began change tied;
      }
