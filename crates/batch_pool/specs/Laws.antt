-- What follows from the rule.
use Rattle.std.specs.Prelude.{◌≡◌, ℕ, List, [], All}
use mathlib.Core.Option.{some}
use lib.ListN.{get_elem?}
use Rattle.batch_pool.specs.declared.pass_view.PassView.{PassView}
use Rattle.batch_pool.specs.Views.{PassPushes}
use Rattle.batch_pool.specs.Rule.{KeepsItems}

-- where a pass pushes, no pass has taken a number yet
abbrev pub PushesComeFirst : Type 0
PushesComeFirst = (items : List ℕ) (views : List PassView) (pass : ℕ) (v : PassView) (number : ℕ) (w : PassView)
    → KeepsItems items views → get_elem? views pass ≡ some v → PassPushes v number w → All (λ u. u.taken ≡ []) views
