use Rattle.request_props.proofs.DistCodes.{code_small, code_one}
use Rattle.request_props.proofs.request.codes_are_one.Goals as goal

pub returns : goal.returns
returns c = record { few = code_small; one = code_one }
