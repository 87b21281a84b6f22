use Rattle.request_props.proofs.Agreeing.{met_class, met_list, class_meets}
use Rattle.request_props.proofs.dists.classes_agree.Goals as goal

-- the distribution alone decides
pub returns : goal.returns
returns c = record {
  exact = λ dist asked. (
    λ met. (met_class dist asked met, met_list dist asked met),
    λ agree. class_meets dist asked agree.0 agree.1,
  );
  met = met_class;
  satisfied = λ q given wanted met. met_class given.dist wanted.dist met.dist;
}
