-- Workers of goals are among those that the seat names.
use Rattle.std.proofs.Common.{ℕ, ◌<◌, All, List, [], ◌∷◌, subst, inl, inr}
use Rattle.std.specs.List.{AllByRecursion}
use Rattle.std.proofs.lemmas.List.Elements.{All-from_recursion}
use Rattle.board_rule.specs.Records.{Ended}
use Rattle.board_rule.specs.Seats.{Among, Each}
use Rattle.job_outcome.specs.Outcomes.{AreFinishers, IsFinisher}

-- what holds of each holds of one
each_among : {A : Type 0} (Fact : A → Type 0) (xs : List A) (x : A) → Each Fact xs → Among xs x → Fact x
each_among Fact [] x each none = absurd none
each_among Fact (y ∷ ys) x each (inl same) = subst Fact same each.0
each_among Fact (y ∷ ys) x each (inr there) = each_among Fact ys x each.1 there

module _ (cell : ℕ → ℕ) (done : List Ended) (n : ℕ) (below : Each (λ (e : Ended). e.worker < n) done) where
  below_one : (goal worker : ℕ) → IsFinisher cell done goal worker → worker < n
  below_one goal worker is = subst (λ (w : ℕ). w < n) is.its_worker
      (each_among (λ (e : Ended). e.worker < n) done is.ended below is.among)

  each_below : (goals who : List ℕ) → AreFinishers cell done goals who → AllByRecursion (λ (w : ℕ). w < n) who
  each_below [] [] are = tt
  each_below [] (worker ∷ who) are = absurd are
  each_below (goal ∷ goals) [] are = absurd are
  each_below (goal ∷ goals) (worker ∷ who) are = (below_one goal worker are.0, each_below goals who are.1)

  pub workers_below : (goals who : List ℕ) → AreFinishers cell done goals who → All (λ (w : ℕ). w < n) who
  workers_below goals who are = All-from_recursion (λ (w : ℕ). w < n) who (each_below goals who are)
