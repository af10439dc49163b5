use Rattle.sheep_world.proofs.EnabledParts.{joined-enabled_parts, enabled_count-length, enabled_at-slice_get}
use Rattle.sheep_world.proofs.laws.the_enabled_list_is_in_parts.Goals as goal

pub returns : goal.returns
returns c = record { whole = joined-enabled_parts; count = enabled_count-length; at = enabled_at-slice_get }
