use Rattle.gateway.specs.declared.message.Status.TheVariants.{Succeeded, Lost}
use Rattle.std.proofs.Common.{refl}
use Rattle.gateway.proofs.MapLaws.{touched-made, touched-stays, without_touch-own, without_touch-others}
use Rattle.gateway.proofs.laws.what_may_be_made_touches.Goals as goal

pub returns : goal.returns
returns c = record {
  made = touched-made;
  succeeded = λ req work bytes gateway makes. touched-made req work (Succeeded bytes) gateway makes refl;
  lost = λ req work gateway makes. touched-made req work Lost gateway makes refl;
  stays = touched-stays;
  forgotten = without_touch-own;
  others = without_touch-others;
}
