use Rattle.query_core.proofs.Linking.{added_one, components_joined}
use Rattle.query_core.proofs.links.links_are_one.Goals as goal

-- the predicates' links come first, and ascending TRUE links to the same tables are the same
pub returns : goal.returns
returns c = record {
  links = λ tables items preds links others are again. added_one _ _ links others are.in_order again.in_order;
  joined = λ tables items preds links are. components_joined _ _ links are.in_order;
}
