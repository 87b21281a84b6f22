-- The work of an exploration: each pass awaits the goals of all members that it finds, and from one round to the next
-- more are found.
use Rattle.std.proofs.Common.{◌≡◌, ◌≢◌, ℕ, ◌+◌, ◌<◌, ◌≤◌, false, IsTrue, Option, None, Some, List, [], ◌∷◌, length}
use Rattle.std.proofs.Common.{refl, sym, ap, subst, inl, inr, ⊎_elim, arith}
use Rattle.std.proofs.lemmas.Bool.{cases_lt, false≢true}
use Rattle.board_rule.specs.Meaning.{Meaning}
use Rattle.board_rule.specs.Words.{cell_word}
use Rattle.board_rule.specs.Looks.{Looked, ShowsFinished, ShowsEntry, seen_there}
use Rattle.board_rule.specs.Seats.{Among}
use Rattle.board_rule.specs.declared.hands.Hands.{Hands}
use Rattle.goal_board.specs.declared.board.Right.{Right}
use Rattle.goal_board.proofs.Seen.{looked_later}
use Rattle.goal_board.specs.Calls.{FindsAt, FindsNone}
use Rattle.board_moves.specs.declared.progress.Progress.{Progress}
use Rattle.board_moves.specs.declared.progress.Progress.TheVariants as progress
use Rattle.board_moves.specs.declared.settled.Settled.{Settled}
use Rattle.board_moves.specs.declared.settled.Settled.TheVariants as settled
use Rattle.board_moves.specs.Words.{IsAbove, IsNextWord, IsNextOf}
use Rattle.board_moves.specs.Moves.{OnlyLooks, Proceeds, RunsOut, Awaits}
use Rattle.board_moves.specs.Collects.{Falls, Settles}
use Rattle.board_moves.specs.Passes.{AwaitsAll}
use Rattle.board_moves.proofs.Ascending.{IsUpTo, up_to_next, up_to_or_above}
use Rattle.board_moves.proofs.Shown.{Later, later_seen, still_finished, still_shown}
use Rattle.board_moves.proofs.CallMoves.{moves_looks}
use Rattle.board_moves.proofs.MovesLemmas.{proceeds_none, proceeds_moved, proceeds_then, later_proceeded, runs_out_then}
use Rattle.board_moves.proofs.Putting.{only_looks_at, only_looks_none}
use Rattle.board_moves.proofs.OneChild.{stands_at}
use Rattle.board_moves.proofs.Passing.{FoundUpTo, found_none, found_past, found_next}
use Rattle.board_moves.proofs.Counting.{Within, not_longer, same_words}

-- looks alone, of a turn
pub proceeds_looked : {R : Type 0} → (Adds : ℕ → Type 0) (v : Hands R) (right : Right) (w : Hands R) → OnlyLooks v w
    → Proceeds Adds v right w right
proceeds_looked Adds v right w t = proceeds_moved Adds v right w [] tt (moves_looks right.place v w t)

-- a turn that then only looks
pub proceeds_on : {R : Type 0} {Adds : ℕ → Type 0} {v u w : Hands R} {start right : Right}
    → Proceeds Adds v start u right → OnlyLooks u w → Proceeds Adds v start w right
proceeds_on {Adds = Adds} {v} {u} {w} {start} {right} first looks =
    proceeds_then Adds v start u right w right first (proceeds_looked Adds u right w looks)

module _ {R : Type 0} (meaning : Meaning) (capacity : ℕ) (Has : ℕ → Type 0) (goal_of : ℕ → ℕ) (v : Hands R)
    (start : Right)
  where
    -- the pass has come to a word
    pub record Awaiting (before : Option ℕ) (number : ℕ) (w : Hands R) (after : Right) : Type 0 where
      pub proceeds : Proceeds (meaning.child start.goal) v start w after
      pub found : List ℕ
      pub so_far : FoundUpTo Has before found number
      pub shown : (word : ℕ) → Among found word → ShowsEntry meaning capacity w.looks word
      pub knew : (word : ℕ) → Has word → IsUpTo before word → ShowsEntry meaning capacity v.looks word
          → Among found word
      pub finished : after.waits ≡ 0 → (word : ℕ) → Among found word
          → ShowsFinished meaning capacity w.looks (goal_of word)

    pub awaiting_none : Awaiting None 0 v start
    awaiting_none = record {
      proceeds = proceeds_none (meaning.child start.goal) v start;
      found = [];
      so_far = found_none Has;
      shown = λ word at. absurd at;
      knew = λ word has most shown. absurd most;
      finished = λ none word at. absurd at;
    }

    module _ (before : Option ℕ) (number : ℕ) (u : Hands R) (right : Right) (so_far : Awaiting before number u right)
        (word : ℕ) (next : IsNextWord Has before word) where
      -- the next word is in no cell
      pub awaiting_past : (w : Hands R) → FindsNone capacity u word w → (ShowsEntry meaning capacity u.looks word → ⊥)
          → Awaiting (Some word) number w right
      awaiting_past w t unknown =
          let on : Later u.looks w.looks = later_seen t.more u w t.hands_are in
          record {
            proceeds = proceeds_on so_far.proceeds (only_looks_none capacity u word w t);
            found = so_far.found;
            so_far = found_past Has before so_far.found number so_far.so_far word next;
            shown = λ other at. still_shown meaning capacity u.looks w.looks on other (so_far.shown other at);
            knew = λ other has most shown. ⊎_elim
                (λ (e : other ≡ word). absurd (unknown (subst (ShowsEntry meaning capacity u.looks) e
                (still_shown meaning capacity v.looks u.looks
                (later_proceeded (meaning.child start.goal) v start u right so_far.proceeds) other shown))))
                (λ (old : IsUpTo before other). so_far.knew other has old shown)
                (up_to_next Has before word next other has most);
            finished = λ none other at. still_finished meaning capacity u.looks w.looks on (goal_of other)
                (so_far.finished none other at);
          }

      module _ (some_word : word ≢ 0) (at : ℕ) (x : Hands R) (found : FindsAt capacity u word at x) (w : Hands R)
          (after : Right) where
        -- what came of its goal, unless that found no cell
        child_proceeds : (answer : Progress) → answer ≢ progress.Full
            → Awaits meaning capacity x right (goal_of word) answer w after
            → Proceeds (meaning.child start.goal) x right w after
            × (after.waits ≡ 0 → ShowsFinished meaning capacity w.looks (goal_of word))
        child_proceeds (progress.Complete answer) fits t = (
          subst (λ g. Proceeds (meaning.child g) x right w after) so_far.proceeds.same_goal t.0,
          λ none. t.2.finished,
        )
        child_proceeds progress.Waiting fits t = (
          subst (λ g. Proceeds (meaning.child g) x right w after) so_far.proceeds.same_goal t.0,
          λ none. let some =
              t.1 in absurd (omega arith),
        )
        child_proceeds progress.Full fits t = absurd (fits refl)

        looked_up : Proceeds (meaning.child start.goal) v start x right
        looked_up = proceeds_on so_far.proceeds (only_looks_at capacity u word at x found)

        -- the next word is in a cell, and its goal was awaited
        pub awaiting_next : (answer : Progress) → answer ≢ progress.Full
            → Awaits meaning capacity x right (goal_of word) answer w after → Awaiting (Some word) (number + 1) w after
        awaiting_next answer fits awaits =
            let t = child_proceeds answer fits awaits in
            let here : Later u.looks x.looks = later_seen found.more u x found.hands_are in
            let then : Later x.looks w.looks = later_proceeded (meaning.child start.goal) x right w after t.0 in
            let on : Later u.looks w.looks = λ k found_then saw. then k found_then (here k found_then saw) in
            let stands : ShowsEntry meaning capacity x.looks word =
            seen_there word at found.near some_word (stands_at meaning capacity word some_word u at x found) in
            record {
              proceeds = proceeds_then (meaning.child start.goal) v start x right w after looked_up t.0;
              found = word ∷ so_far.found;
              so_far = found_next Has before so_far.found number so_far.so_far word next;
              shown = λ other among. ⊎_elim (λ (e : word ≡ other).
                  subst (ShowsEntry meaning capacity w.looks) e
                  (still_shown meaning capacity x.looks w.looks then word stands))
                  (λ (old : Among so_far.found other). still_shown meaning capacity u.looks w.looks on other
                  (so_far.shown other old)) among;
              knew = λ other has most shown. ⊎_elim (λ (e : other ≡ word). inl (sym e))
                  (λ (old : IsUpTo before other). inr (so_far.knew other has old shown))
                  (up_to_next Has before word next other has most);
              finished = λ none other among. ⊎_elim (λ (e : word ≡ other).
                  subst (λ k. ShowsFinished meaning capacity w.looks (goal_of k)) e (t.1 none))
                  (λ (old : Among so_far.found other). let more = t.0.more_waits in
                  still_finished meaning capacity u.looks w.looks on (goal_of other)
                  (so_far.finished (omega arith) other old)) among;
            }

        -- its goal found no cell
        pub awaiting_full : RunsOut (meaning.child right.goal) x right capacity w after
            → RunsOut (meaning.child start.goal) v start capacity w after
        awaiting_full t = runs_out_then (meaning.child start.goal) capacity v start x right w after looked_up
            (subst (λ g. RunsOut (meaning.child g) x right capacity w after) so_far.proceeds.same_goal t)

    -- no word comes next
    pub awaited_all : (before : Option ℕ) (number : ℕ) (w : Hands R) (after : Right) → Awaiting before number w after
        → IsNextOf Has before None → AwaitsAll meaning capacity v Has goal_of start number w after
    awaited_all before number w after t none = record {
      proceeds = t.proceeds;
      found = t.found;
      falls = t.so_far.falls;
      number_is = t.so_far.number_is;
      knew = λ word has shown. t.knew word has
          (⊎_elim (λ (most : IsUpTo before word). most) (λ (above : IsAbove before word). absurd (none word has above))
          (up_to_or_above before word)) shown;
      each = λ word at. ((t.so_far.below word at).0, t.shown word at);
      finished = t.finished;
    }

-- the members that a round knows: so many, all shown in cells, and their goals shown finished
pub record Knows (meaning : Meaning) (capacity : ℕ) (Has : ℕ → Type 0) (goal_of : ℕ → ℕ) (looks : List (ℕ × ℕ))
    (known : ℕ) : Type 0 where
  pub found : List ℕ
  pub falls : Falls found
  pub number_is : known ≡ length found
  pub each : (word : ℕ) → Among found word → Has word × ShowsEntry meaning capacity looks word
  pub finished : (word : ℕ) → Among found word → ShowsFinished meaning capacity looks (goal_of word)

pub knows_none : (meaning : Meaning) (capacity : ℕ) (Has : ℕ → Type 0) (goal_of : ℕ → ℕ) (looks : List (ℕ × ℕ))
    → Knows meaning capacity Has goal_of looks 0
knows_none meaning capacity Has goal_of looks =
    record { found = []; falls = tt; number_is = refl; each = λ word at. absurd at; finished = λ word at. absurd at }

module _ {R : Type 0} (meaning : Meaning) (capacity : ℕ) (Has : ℕ → Type 0) (goal_of : ℕ → ℕ) where
  -- after a pass without a wait
  pub knows_all : (v : Hands R) (start : Right) (number : ℕ) (w : Hands R) (after : Right)
      → AwaitsAll meaning capacity v Has goal_of start number w after → after.waits ≡ 0
      → Knows meaning capacity Has goal_of w.looks number
  knows_all v start number w after t none =
      record { found = t.found; falls = t.falls; number_is = t.number_is; each = t.each; finished = t.finished none }

  module _ (v : Hands R) (known : ℕ) (knows : Knows meaning capacity Has goal_of v.looks known) (explored : ℕ)
      (answer : Settled) (u : Hands R) (start : Right) (number : ℕ) (w : Hands R) (after : Right)
      (all : AwaitsAll meaning capacity u Has goal_of start number w after) where
    -- a list of words that the pass found too is no longer than what it found
    fewer_than : (on : Later v.looks u.looks) (word : ℕ) → Has word → ShowsEntry meaning capacity u.looks word
        → (Among knows.found word → ⊥) → known < number
    fewer_than on word has shown new =
        let within : Within knows.found all.found =
        λ other at. all.knew other (knows.each other at).0
        (still_shown meaning capacity v.looks u.looks on other (knows.each other at).1) in
        let longer = not_longer knows.found all.found knows.falls all.falls within in
        let one = knows.number_is in
        let other = all.number_is in
        ⊎_elim (λ (less : known < number). less)
        (λ (most : number ≤ known). absurd (new (same_words knows.found all.found knows.falls all.falls within
        (omega arith) word (all.knew word has shown))))
        (cases_lt known number)

    -- where the collection isn't settled, the next pass finds more
    pub knows_more : (some_word : (word : ℕ) → Has word → word ≢ 0) → answer ≢ settled.Yes
        → Settles meaning capacity Has goal_of v explored answer u → known < number
    knows_more some_word fits t = by answer fits t
      where
        by : (a : Settled) → a ≢ settled.Yes → Settles meaning capacity Has goal_of v explored a u → known < number
        by settled.Yes no_yes s = absurd (no_yes refl)
        by (settled.Open child) no_yes s =
            fewer_than (later_seen s.more v u s.hands_are) s.word s.has
            (seen_there s.word s.there.0 s.there.1 (some_word s.word s.has)
            (subst (λ (h : Hands R). Looked h.looks (cell_word s.there.0) s.word) (sym s.hands_are)
            (looked_later s.more v.looks (cell_word s.there.0) s.word s.there.2)))
            (λ at. s.unknown (subst (ShowsFinished meaning capacity v.looks) (sym s.is) (knows.finished s.word at)))
        by (settled.Grew first second) no_yes s =
            let within : Within knows.found s.grows.was.found =
            λ other at. s.knew other (knows.each other at).0 (knows.each other at).1 in
            let longer = not_longer knows.found s.grows.was.found knows.falls s.grows.was.falls within in
            let found_in : (word : ℕ) → Among s.grows.is.found word
            → ShowsEntry meaning capacity u.looks word = λ word at.
            let f = s.grows.is.each word at in
            seen_there word f.1.0 f.1.1 (some_word word f.0)
            (subst (λ (looks : List (ℕ × ℕ)). Looked looks (cell_word f.1.0) word)
            (sym (ap (λ (h : Hands R). h.looks) s.hands_are)) (looked_later s.more v.looks (cell_word f.1.0) word
            (subst (λ (looks : List (ℕ × ℕ)). Looked looks (cell_word f.1.0) word) (sym s.grows.split)
            (looked_later s.grows.later s.grows.earlier (cell_word f.1.0) word f.1.2)))) in
            let second_within : Within s.grows.is.found all.found =
            λ word at. all.knew word (s.grows.is.each word at).0 (found_in word at) in
            let second_longer = not_longer s.grows.is.found all.found s.grows.is.falls all.falls second_within in
            let a = knows.number_is in
            let b = s.grows.was.number_is in
            let d = s.grows.is.number_is in
            let e = all.number_is in
            let more = s.grows.more in
            omega arith

-- the double collection only looks
pub settles_only_looks : {R : Type 0} → (meaning : Meaning) (capacity : ℕ) (Has : ℕ → Type 0) (goal_of : ℕ → ℕ)
    (v : Hands R) (explored : ℕ) (answer : Settled) (w : Hands R)
    → Settles meaning capacity Has goal_of v explored answer w → OnlyLooks v w
settles_only_looks meaning capacity Has goal_of v explored settled.Yes w t = t.0
settles_only_looks meaning capacity Has goal_of v explored (settled.Open goal) w t =
    record { more = t.more; looks = t.looks; hands_are = t.hands_are }
settles_only_looks meaning capacity Has goal_of v explored (settled.Grew first second) w t =
    record { more = t.more; looks = t.looks; hands_are = t.hands_are }

-- where a right has no wait, none is there
pub no_waits : (waits : ℕ) → (1 ≤ waits → IsTrue false) → waits ≡ 0
no_waits waits none = ⊎_elim (λ (some : 0 < waits). absurd (false≢true (none (omega arith))))
    (λ (most : waits ≤ 0). omega arith) (cases_lt 0 waits)
