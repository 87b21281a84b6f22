use Rattle.xform_rules.specs.Closure.{IsMember}
use Rattle.goal_space.specs.Children.{IsListedIn}
use Rattle.goal_space.proofs.Falling.{rank_falls}
use Rattle.goal_space.proofs.laws.ranks_fall.Goals as goal

pub returns : goal.returns
returns c =
    let fewer = c.results_are_known.ensures.fewer in
    let by_group = c.candidates_are_known.ensures.by_group in
    record {
      closure = λ q. rank_falls fewer by_group (IsMember q) q;
      listed = λ q words. rank_falls fewer by_group (IsListedIn q words) q;
    }
