-- A finished search has lists.
use Rattle.std.proofs.Common.{ℕ, map, filter, refl}
use Rattle.goal_board.specs.Closing.{cells_of, finished_of}
use Rattle.goal_board.specs.declared.answers.Finished.{Finished}
use Rattle.job_outcome.specs.Searched.{is_member_word, told_of, AreListsOf}
use Rattle.job_outcome.specs.declared.searched.Lists.{Lists}
use Rattle.job_outcome.specs.declared.searched.Searched.{Searched}
use Rattle.job_outcome.proofs.Places.{goal_in}
use Rattle.job_outcome.proofs.Sorting.{in_order}

-- its cells and its finished goals, in the order of words
pub some_lists : (searched : Searched) → (lists : Lists) × AreListsOf searched lists
some_lists searched =
    let (finished, same, rise) = in_order goal_in (finished_of searched.board) in
    let (members, same_members, rising) = in_order (λ (x : ℕ). x)
    (filter is_member_word (cells_of searched.board)) in (
      record {
        members = members;
        goals = map goal_in finished;
        answers = record { list = map told_of finished };
        who = map (λ (f : Finished). f.who) finished;
      },
      record {
        finished = finished;
        same = same;
        ascending = rise;
        same_members = same_members;
        rising = rising;
        goals_are = refl;
        answers_are = refl;
        who_are = refl;
      },
    )
