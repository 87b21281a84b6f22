use Rattle.std.proofs.Common.{rules}
use Rattle.std.proofs.lemmas.List.Sorted.{IsNonDecreasingBy-from_sort_by_key}
use Rattle.goal_board.specs.declared.answers.Finished.{Finished}
use Rattle.job_outcome.proofs.lists.in_order.Goals as goal

-- the key of each is its goal
pub returns-clause-ascending : goal.returns-clause-ascending
returns-clause-ascending c =
    IsNonDecreasingBy-from_sort_by_key (λ (f : Finished). f.goal) c.sort_unstable_by_key.new.self.items
    c.sort_unstable_by_key.ensures.sorted (λ a r f called. search rules)
