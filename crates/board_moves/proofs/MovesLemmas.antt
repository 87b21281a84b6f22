-- How a turn proceeds by the moves of several calls, and how it finds the board full.
use Rattle.std.proofs.Common.{ℕ, ◌+◌, List, [], ◌++◌, ◌∙◌, refl, sym, ap, subst, arith}
use Rattle.board_rule.specs.Records.{Claimed}
use Rattle.board_rule.specs.Seats.{Each}
use Rattle.board_rule.specs.declared.hands.Hands.{Hands}
use Rattle.board_rule.proofs.Lists.{each_append, each_as}
use Rattle.goal_board.specs.declared.board.Right.{Right}
use Rattle.board_moves.proofs.Going.{goes_none}
use Rattle.board_moves.specs.Moves.{Moves, Proceeds, RunsOut}
use Rattle.board_moves.proofs.Shown.{Later}
use Rattle.board_moves.proofs.CallMoves.{moves_then, later_moved}
use Rattle.board_moves.proofs.WithWaits.{waits_none}

module _ {R : Type 0} (Adds : ℕ → Type 0) where
  -- no call was made
  pub proceeds_none : (v : Hands R) (before : Right) → Proceeds Adds v before v before
  proceeds_none v before = record {
    puts = [];
    adds = tt;
    waits = 0;
    moves = record {
      words = v.alone;
      more = [];
      quiet = λ value at. at;
      kept = λ some. goes_none before.place v.alone;
      hands_are = ap (λ (rights : List Claimed). let h : Hands R = record v { rights = rights } in h)
          (sym (waits_none before.place v.rights));
    };
    same_place = refl;
    same_goal = refl;
    more_waits = omega arith;
  }

  -- moves that leave the right as it is
  pub proceeds_moved : (v : Hands R) (before : Right) (w : Hands R) (puts : List ℕ) → Each Adds puts
      → Moves before.place v puts 0 w → Proceeds Adds v before w before
  proceeds_moved v before w puts adds moves =
      record {
        puts = puts;
        adds = adds;
        waits = 0;
        moves = moves;
        same_place = refl;
        same_goal = refl;
        more_waits = omega arith;
      }

  pub proceeds_then : (v : Hands R) (before : Right) (u : Hands R) (middle : Right) (w : Hands R) (after : Right)
      → Proceeds Adds v before u middle → Proceeds Adds u middle w after
      → Proceeds Adds v before w after
  proceeds_then v before u middle w after a b = record {
    puts = b.puts ++ a.puts;
    adds = each_append Adds b.puts a.puts b.adds a.adds;
    waits = a.waits + b.waits;
    moves = moves_then before.place v a.puts a.waits u b.puts b.waits w a.moves
        (subst (λ place. Moves place u b.puts b.waits w) a.same_place b.moves);
    same_place = b.same_place ∙ a.same_place;
    same_goal = b.same_goal ∙ a.same_goal;
    more_waits = let first = a.more_waits in let second = b.more_waits in omega arith;
  }

  pub later_proceeded : (v : Hands R) (before : Right) (w : Hands R) (after : Right) → Proceeds Adds v before w after
      → Later v.looks w.looks
  later_proceeded v before w after t = later_moved before.place v t.puts t.waits w t.moves

  pub runs_out_then : (capacity : ℕ) (v : Hands R) (before : Right) (u : Hands R) (middle : Right) (w : Hands R)
      (after : Right) → Proceeds Adds v before u middle → RunsOut Adds u middle capacity w after
      → RunsOut Adds v before capacity w after
  runs_out_then capacity v before u middle w after a b = record {
    middle = b.middle;
    proceeds = proceeds_then v before u middle b.middle after a b.proceeds;
    word = b.word;
    adds_it = b.adds_it;
    full = b.full;
  }

-- what may be put in by one measure may be by a wider one
pub proceeds_wider : {R : Type 0} → (Adds Wider : ℕ → Type 0) → ((word : ℕ) → Adds word → Wider word)
    → (v : Hands R) (before : Right) (w : Hands R) (after : Right)
    → Proceeds Adds v before w after → Proceeds Wider v before w after
proceeds_wider Adds Wider wider v before w after t = record {
  puts = t.puts;
  adds = each_as Adds Wider wider t.puts t.adds;
  waits = t.waits;
  moves = t.moves;
  same_place = t.same_place;
  same_goal = t.same_goal;
  more_waits = t.more_waits;
}

pub runs_out_wider : {R : Type 0} → (Adds Wider : ℕ → Type 0) → ((word : ℕ) → Adds word → Wider word)
    → (capacity : ℕ) (v : Hands R) (before : Right) (w : Hands R) (after : Right)
    → RunsOut Adds v before capacity w after → RunsOut Wider v before capacity w after
runs_out_wider Adds Wider wider capacity v before w after t = record {
  middle = t.middle;
  proceeds = proceeds_wider Adds Wider wider v before t.middle after t.proceeds;
  word = t.word;
  adds_it = wider t.word t.adds_it;
  full = t.full;
}
