use Rattle.std.proofs.Common.{refl}
use Rattle.std.specs.Fmt.{digits}
use Rattle.trace_text.proofs.laws.events_spelled_out.Goals as goal

pub returns : goal.returns
unfolding digits
returns c = record {
  guest = refl;
  deliver = refl;
  lose_request = refl;
  lose_reply = refl;
  log = refl;
  put = refl;
  recover = refl;
  retry = refl;
  lost = refl;
  leave = refl;
  join = refl;
  reweight = refl;
  back = refl;
  phase = refl;
}
