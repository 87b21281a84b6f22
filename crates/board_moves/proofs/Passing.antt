-- One pass over the words that a group may have as members, word by word.
use Rattle.std.proofs.Common.{◌≡◌, ◌≢◌, ◌⊎◌, ℕ, ◌+◌, ◌^◌, ◌<◌, ◌≤◌, Option, None, Some, List, [], ◌∷◌, ◌++◌, length}
use Rattle.std.proofs.Common.{refl, sym, subst, inl, inr, ⊎_elim, arith}
use Rattle.board_rule.specs.Meaning.{Meaning}
use Rattle.board_rule.specs.Looks.{ShowsFinished, ShowsEntry}
use Rattle.board_rule.specs.Seats.{Among, Each}
use Rattle.board_rule.specs.declared.hands.Hands.{Hands}
use Rattle.goal_board.specs.Calls.{seen, IsSeen}
use Rattle.board_moves.specs.Words.{IsAbove, IsNextWord, IsNextOf}
use Rattle.board_moves.specs.Collects.{FoundIn, FoundNowhere, FoundOpen, Falls, FindsOpenGoal}
use Rattle.board_moves.specs.Passes.{SeesNone, SeesIn, CountsAgain, CollectsAll}
use Rattle.board_moves.proofs.Ascending.{IsUpTo, up_to_next, up_to_or_above}
use Rattle.board_moves.proofs.Shown.{Later, seen_both, seen_twice, still_finished, still_shown, later_seen, looks_none}
use Rattle.board_moves.proofs.Seeing.{found_later, found_earlier, nowhere_later, nowhere_earlier, open_later}
use Rattle.board_moves.proofs.Counting.{falls_short}

-- the words found so far, the last one first: all those up to a word that stand in cells
pub record FoundUpTo (Has : ℕ → Type 0) (before : Option ℕ) (found : List ℕ) (number : ℕ) : Type 0 where
  pub falls : Falls found
  pub number_is : number ≡ length found
  pub below : (word : ℕ) → Among found word → Has word × IsUpTo before word

-- at the start none was found
pub found_none : (Has : ℕ → Type 0) → FoundUpTo Has None [] 0
found_none Has = record { falls = tt; number_is = refl; below = λ word at. absurd at }

module _ (Has : ℕ → Type 0) (before : Option ℕ) (found : List ℕ) (number : ℕ)
    (so_far : FoundUpTo Has before found number) (word : ℕ) (next : IsNextWord Has before word) where
  up_to : (other : ℕ) → IsUpTo before other → other < word
  up_to other below = before_is before below next.above
    where
      before_is : (b : Option ℕ) → IsUpTo b other → IsAbove b word → other < word
      before_is None most above = absurd most
      before_is (Some b) most above = omega arith

  -- the next word isn't found
  pub found_past : FoundUpTo Has (Some word) found number
  found_past = record {
    falls = so_far.falls;
    number_is = so_far.number_is;
    below = λ other at. let old = so_far.below other at in (old.0, let less = up_to other old.1 in omega arith);
  }

  -- the next word is found
  pub found_next : FoundUpTo Has (Some word) (word ∷ found) (number + 1)
  found_next = record {
    falls = (each_below found (λ other at. up_to other (so_far.below other at).1), so_far.falls);
    number_is = let same = so_far.number_is in omega arith;
    below = λ other at. ⊎_elim (λ (e : word ≡ other).
        (subst Has e next.has, let most : other ≤ word = omega arith in most))
        (λ (t : Among found other). found_past.below other t) at;
  }
    where
      each_below : (words : List ℕ) → ((other : ℕ) → Among words other → other < word)
          → Each (λ other. other < word) words
      each_below [] less = tt
      each_below (x ∷ xs) less = (less x (inl refl), each_below xs (λ other at. less other (inr at)))

  -- their number fits 64 bits
  pub number_fits : ((other : ℕ) → Has other → other ≢ 0) → word < 2 ^ 64 → number + 1 < 2 ^ 64
  number_fits some fits =
      let t = found_next in
      let short = falls_short word found t.falls (λ other at. some other (t.below other at).0) in
      let same = t.number_is in omega arith

module _ {R : Type 0} (meaning : Meaning) (capacity : ℕ) (Has : ℕ → Type 0) (v : Hands R) where
  -- a pass has come to a word: what its looks found up to there
  pub record Passing (before : Option ℕ) (number : ℕ) (w : Hands R) : Type 0 where
    pub more : List (ℕ × ℕ)
    pub looks : IsSeen v more
    pub hands_are : w ≡ seen more v
    pub found : List ℕ
    pub so_far : FoundUpTo Has before found number
    pub each : (word : ℕ) → Among found word → FoundIn capacity more word
    pub rest : (word : ℕ) → Has word → IsUpTo before word → Among found word ⊎ FoundNowhere capacity more word
    pub knew : (word : ℕ) → Has word → IsUpTo before word → ShowsEntry meaning capacity v.looks word → Among found word

  abbrev pub passing_none : Passing None 0 v
  passing_none = let none = looks_none v in record {
    more = none.more;
    looks = none.looks;
    hands_are = none.hands_are;
    found = [];
    so_far = found_none Has;
    each = λ word at. absurd at;
    rest = λ word has most. absurd most;
    knew = λ word has most shown. absurd most;
  }

  module _ (before : Option ℕ) (number : ℕ) (u : Hands R) (pass : Passing before number u) (word : ℕ)
      (next : IsNextWord Has before word) (w : Hands R) where
    -- the next word was found in no cell
    abbrev pub passing_past : SeesNone meaning capacity u word w → Passing (Some word) number w
    passing_past t = record {
      more = t.more ++ pass.more;
      looks = seen_both v u pass.more t.more pass.hands_are pass.looks t.looks;
      hands_are = seen_twice v u w pass.more t.more pass.hands_are t.hands_are;
      found = pass.found;
      so_far = found_past Has before pass.found number pass.so_far word next;
      each = λ other at. found_earlier capacity t.more pass.more other (pass.each other at);
      rest = λ other has most. ⊎_elim
          (λ (e : other ≡ word). inr (subst (FoundNowhere capacity (t.more ++ pass.more)) (sym e)
          (nowhere_later capacity t.more pass.more word t.nowhere)))
          (λ (old : IsUpTo before other). ⊎_elim (λ (at : Among pass.found other). inl at)
          (λ (none : FoundNowhere capacity pass.more other). inr (nowhere_earlier capacity t.more pass.more other none))
          (pass.rest other has old))
          (up_to_next Has before word next other has most);
      knew = λ other has most shown. ⊎_elim
          (λ (e : other ≡ word). absurd (t.unknown
          (subst (ShowsEntry meaning capacity u.looks) e
          (still_shown meaning capacity v.looks u.looks (later_seen pass.more v u pass.hands_are) other shown))))
          (λ (old : IsUpTo before other). pass.knew other has old shown)
          (up_to_next Has before word next other has most);
    }

    -- the next word was found in a cell
    abbrev pub passing_next : SeesIn meaning capacity u word w → Passing (Some word) (number + 1) w
    passing_next t = record {
      more = t.more ++ pass.more;
      looks = seen_both v u pass.more t.more pass.hands_are pass.looks t.looks;
      hands_are = seen_twice v u w pass.more t.more pass.hands_are t.hands_are;
      found = word ∷ pass.found;
      so_far = found_next Has before pass.found number pass.so_far word next;
      each = λ other at. ⊎_elim (λ (e : word ≡ other).
          subst (FoundIn capacity (t.more ++ pass.more)) e (found_later capacity t.more pass.more word t.there))
          (λ (old : Among pass.found other). found_earlier capacity t.more pass.more other (pass.each other old)) at;
      rest = λ other has most. ⊎_elim (λ (e : other ≡ word). inl (inl (sym e)))
          (λ (old : IsUpTo before other). ⊎_elim (λ (at : Among pass.found other). inl (inr at))
          (λ (none : FoundNowhere capacity pass.more other). inr (nowhere_earlier capacity t.more pass.more other none))
          (pass.rest other has old))
          (up_to_next Has before word next other has most);
      knew = λ other has most shown. ⊎_elim (λ (e : other ≡ word). inl (sym e))
          (λ (old : IsUpTo before other). inr (pass.knew other has old shown))
          (up_to_next Has before word next other has most);
    }

  -- no word comes next
  abbrev pub passed : (before : Option ℕ) (number : ℕ) (w : Hands R) → Passing before number w
      → IsNextOf Has before None → CountsAgain meaning capacity v Has number w
  passed before number w pass none = record {
    more = pass.more;
    looks = pass.looks;
    hands_are = pass.hands_are;
    counts = record {
      found = pass.found;
      falls = pass.so_far.falls;
      number_is = pass.so_far.number_is;
      each = λ word at. ((pass.so_far.below word at).0, pass.each word at);
      rest = λ word has. pass.rest word has (all_up_to word has);
    };
    knew = λ word has shown. pass.knew word has (all_up_to word has) shown;
  }
    where
      all_up_to : (word : ℕ) → Has word → IsUpTo before word
      all_up_to word has = ⊎_elim (λ (most : IsUpTo before word). most)
          (λ (above : IsAbove before word). absurd (none word has above)) (up_to_or_above before word)

  module _ (goal_of : ℕ → ℕ) where
    -- a first pass has come to a word: the goals of those that it found are finished
    pub record Collecting (before : Option ℕ) (number : ℕ) (w : Hands R) : Type 0 where
      pub pass : Passing before number w
      pub finished : (word : ℕ) → Among pass.found word → ShowsFinished meaning capacity w.looks (goal_of word)

    pub collecting_none : Collecting None 0 v
    collecting_none = record { pass = passing_none; finished = λ word at. absurd at }

    module _ (before : Option ℕ) (number : ℕ) (u : Hands R) (so_far : Collecting before number u) (word : ℕ)
        (next : IsNextWord Has before word) (w : Hands R) where
      old_finished : Later u.looks w.looks → (other : ℕ) → Among so_far.pass.found other
          → ShowsFinished meaning capacity w.looks (goal_of other)
      old_finished on other at = still_finished meaning capacity u.looks w.looks on (goal_of other)
          (so_far.finished other at)

      pub collecting_past : SeesNone meaning capacity u word w → Collecting (Some word) number w
      collecting_past t = record {
        pass = passing_past before number u so_far.pass word next w t;
        finished = old_finished (later_seen t.more u w t.hands_are);
      }

      pub collecting_next : SeesIn meaning capacity u word w → ShowsFinished meaning capacity w.looks (goal_of word)
          → Collecting (Some word) (number + 1) w
      collecting_next t explored = record {
        pass = passing_next before number u so_far.pass word next w t;
        finished = λ other at. ⊎_elim (λ (e : word ≡ other).
            subst (λ x. ShowsFinished meaning capacity w.looks (goal_of x)) e explored)
            (λ (old : Among so_far.pass.found other). old_finished (later_seen t.more u w t.hands_are) other old) at;
      }

    pub collected : (before : Option ℕ) (number : ℕ) (w : Hands R) → Collecting before number w
        → IsNextOf Has before None → CollectsAll meaning capacity v Has goal_of number w
    collected before number w so_far none = record {
      pass = passed before number w so_far.pass none;
      finished = so_far.finished;
    }

    -- a goal that isn't finished was met in the middle of the pass
    pub meets_open : (before : Option ℕ) (number : ℕ) (u : Hands R) → Passing before number u → (goal : ℕ) (w : Hands R)
        → FindsOpenGoal meaning capacity Has goal_of u goal w → FindsOpenGoal meaning capacity Has goal_of v goal w
    meets_open before number u pass goal w t = record {
      word = t.word;
      has = t.has;
      is = t.is;
      more = t.more ++ pass.more;
      looks = seen_both v u pass.more t.more pass.hands_are pass.looks t.looks;
      hands_are = seen_twice v u w pass.more t.more pass.hands_are t.hands_are;
      there = found_later capacity t.more pass.more t.word t.there;
      not_finished = ⊎_elim (λ (none : FoundNowhere capacity t.more goal).
          inl (nowhere_later capacity t.more pass.more goal none))
          (λ (is_open : FoundOpen capacity t.more goal). inr (open_later capacity t.more pass.more goal is_open))
          t.not_finished;
      unknown = λ shown. t.unknown (still_finished meaning capacity v.looks u.looks
          (later_seen pass.more v u pass.hands_are) goal shown);
    }
