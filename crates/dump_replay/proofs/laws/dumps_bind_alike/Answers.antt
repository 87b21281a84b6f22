use Rattle.dump_replay.proofs.Alike.{binding_alike, bound_over_all, bound_over_named}
use Rattle.dump_replay.proofs.laws.dumps_bind_alike.Goals as goal

pub returns : goal.returns
returns c = record {
  binding = binding_alike;
  bound = λ select catalog options query. (
    bound_over_all select catalog options query,
    bound_over_named select catalog options query,
  );
}
