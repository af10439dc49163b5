-- The laws are lemmas of ChosenLaws.
use Rattle.strip_coding.proofs.ChosenLaws.{distinct_first, distinct_complete, all_places_differ, own_strips}
use Rattle.strip_coding.proofs.laws.choice_laws.Goals as goal

pub returns : goal.returns
returns c = record {
  first = distinct_first;
  complete = distinct_complete;
  all_differ = all_places_differ;
  own_strips = own_strips;
}
