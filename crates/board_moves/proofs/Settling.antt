-- The double collection: where the second pass finds as many words as the first, both found the same ones, and these
-- are all members.
use Rattle.std.proofs.Common.{◌≡◌, ◌≢◌, ℕ, ◌≤◌, ◌++◌, refl, sym, subst, arith}
use Rattle.board_rule.specs.Meaning.{Meaning}
use Rattle.board_rule.specs.Looks.{Looked, ShowsFinished, child_of, ShowsEntry, seen_there, asked_by, ShowsPromise}
use Rattle.board_rule.specs.Words.{cell_word}
use Rattle.board_rule.specs.Seats.{Among}
use Rattle.board_rule.specs.declared.hands.Hands.{Hands}
use Rattle.goal_board.proofs.Seen.{looked_later}
use Rattle.board_moves.specs.Moves.{OnlyLooks}
use Rattle.board_moves.specs.Collects.{IsReached, from_origin, from_child, IsExploration, FindsMore}
use Rattle.board_moves.specs.Passes.{CountsAgain, CollectsAll}
use Rattle.board_moves.proofs.Shown.{Later, still_finished, still_shown, later_seen, seen_both, seen_twice}
use Rattle.board_moves.proofs.Counting.{Within, not_longer, same_words}

module _ {R : Type 0} (meaning : Meaning) (capacity : ℕ) (Has : ℕ → Type 0) (goal_of : ℕ → ℕ) (origin goal : ℕ)
    (laws : IsExploration meaning origin Has goal_of goal)
    (v u w : Hands R) (first second : ℕ) (collects : CollectsAll meaning capacity v Has goal_of first u)
    (again : CountsAgain meaning capacity u Has second w) where
  -- looks of both passes
  abbrev both_looks : OnlyLooks v w
  both_looks = record {
    more = again.more ++ collects.pass.more;
    looks = seen_both v u collects.pass.more again.more collects.pass.hands_are collects.pass.looks again.looks;
    hands_are = seen_twice v u w collects.pass.more again.more collects.pass.hands_are again.hands_are;
  }

  pub settles_looks : OnlyLooks v w
  settles_looks = both_looks

  on_first : Later v.looks u.looks
  on_first = later_seen collects.pass.more v u collects.pass.hands_are

  on_second : Later u.looks w.looks
  on_second = later_seen again.more u w again.hands_are

  -- what the first pass found is shown in a cell from then on
  shown_first : (word : ℕ) → Among collects.pass.counts.found word → ShowsEntry meaning capacity u.looks word
  shown_first word at =
      let t = collects.pass.counts.each word at in
      seen_there word t.1.0 t.1.1 (laws.some_word word t.0)
      (subst (λ (h : Hands R). Looked h.looks (cell_word t.1.0) word) (sym collects.pass.hands_are)
      (looked_later collects.pass.more v.looks (cell_word t.1.0) word t.1.2))

  within : Within collects.pass.counts.found again.counts.found
  within word at = again.knew word (collects.pass.counts.each word at).0 (shown_first word at)

  -- the second pass finds no fewer
  pub no_fewer : first ≤ second
  no_fewer =
      let longer = not_longer collects.pass.counts.found again.counts.found collects.pass.counts.falls
      again.counts.falls within in
      let one = collects.pass.counts.number_is in let other = again.counts.number_is in omega arith

  -- it finds more where it doesn't find as many
  pub settles_more : first ≢ second → FindsMore meaning capacity Has v first second w
  settles_more differ = record {
    more = both_looks.more;
    looks = both_looks.looks;
    hands_are = both_looks.hands_are;
    grows = record {
      earlier = collects.pass.more;
      later = again.more;
      split = refl;
      was = collects.pass.counts;
      is = again.counts;
      more = let fewer = no_fewer in omega arith;
    };
    knew = collects.pass.knew;
  }

  module _ (same : first ≡ second) (begins : ShowsEntry meaning capacity v.looks origin) where
    back : Within again.counts.found collects.pass.counts.found
    back = same_words collects.pass.counts.found again.counts.found collects.pass.counts.falls again.counts.falls within
        (let one = collects.pass.counts.number_is in let other = again.counts.number_is in omega arith)

    -- each word that is reached was found: where the first pass found one, its goal is finished, and so is what the
    -- children of the goal ask for in cells
    all_found : (word : ℕ) → IsReached meaning origin Has goal_of word → Among collects.pass.counts.found word
    all_found _ from_origin = back origin (again.knew origin laws.origin_has
        (still_shown meaning capacity v.looks u.looks on_first origin begins))
    all_found _ (from_child word child other reached is_child is_asked has) =
        back other (again.knew other has (asked_by child other
        (child_of (goal_of word) child (collects.finished word (all_found word reached)) is_child) is_asked))

    -- so the promise of the exploration is shown
    pub settles_promise : ShowsPromise meaning capacity w.looks goal
    settles_promise = record {
      children = λ child is_child.
          let t = laws.children child is_child in
          subst (ShowsFinished meaning capacity w.looks) (sym t.2)
          (still_finished meaning capacity u.looks w.looks on_second (goal_of t.0)
          (collects.finished t.0 (all_found t.0 (laws.members t.0 t.1).1)));
      asked = λ word is_asked. still_shown meaning capacity u.looks w.looks on_second word
          (shown_first word (all_found word (laws.members word is_asked).1));
    }
