use Rattle.query_core.proofs.CandidateLemmas.{candidate_packed, child_known}
use Rattle.query_core.proofs.Implementations.{shape_children}
use Rattle.query_core.proofs.candidates.candidates_are_known.Goals as goal

pub returns-clause-packed : goal.returns-clause-packed
returns-clause-packed c = candidate_packed

pub returns-clause-children : goal.returns-clause-children
returns-clause-children c q e g candidate child = child_known q e g candidate child

pub returns-clause-by_group : goal.returns-clause-by_group
returns-clause-by_group c q e candidate = shape_children q e.group e.operator candidate.shape
