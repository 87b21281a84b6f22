use Rattle.xform_rules.proofs.Candidates.{AreSides, result_candidate}
use Rattle.xform_rules.proofs.Single.{result_one, few_results}
use Rattle.xform_rules.proofs.laws.results_are_candidates.Goals as goal

-- results are made from the sides of joins
pub returns : goal.returns
returns c =
    let known = c.sides_are_known.ensures in
    let sides : AreSides = record {
      turned = known.turned;
      outer = known.outer;
      cut = known.cut;
      tables = known.tables;
    } in
    record {
      candidates = result_candidate sides;
      one = result_one;
      few = few_results;
    }
