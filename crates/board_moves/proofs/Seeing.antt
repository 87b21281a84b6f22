-- What is seen of one word, and of its goal.
use Rattle.std.proofs.Common.{◌≡◌, ◌≢◌, ℕ, Option, None, Some, IsSome, List, [], ◌∷◌, ◌++◌, ◌∙◌, refl, sym, subst, inl}
use Rattle.std.proofs.Common.{inr, ⊎_elim}
use Rattle.std.proofs.lemmas.Bool.{false≢true}
use Rattle.word_table.specs.Probing.{home_of, steps_to}
use Rattle.board_rule.specs.Meaning.{Meaning}
use Rattle.board_rule.specs.Words.{cell_word, head_word}
use Rattle.board_rule.specs.Looks.{ShowsFinished, ShowsEntry, finished}
use Rattle.board_rule.specs.declared.hands.Hands.{Hands}
use Rattle.goal_board.specs.declared.answers.Answer.{Answer}
use Rattle.goal_board.specs.Calls.{SawAllOthers, EndsAtGap, FindsAt, FindsNone, ReadsAnswer, FindsOpen}
use Rattle.goal_board.proofs.Seen.{looked_later, looked_earlier, saw_later, saw_all_later}
use Rattle.board_moves.specs.Moves.{OnlyLooks}
use Rattle.board_moves.specs.Collects.{FoundIn, FoundNowhere, FoundOpen, FindsOpenGoal}
use Rattle.board_moves.specs.Passes.{SeesOpen, SeesGoal, SeesNone, SeesIn, Sees}
use Rattle.board_moves.specs.declared.settled.Seen.{Seen}
use Rattle.board_moves.specs.declared.settled.Seen.TheVariants.{Absent, Explored, Unexplored}
use Rattle.board_moves.proofs.Shown.{still_finished, seen_both, seen_twice, looks_then, later_seen}
use Rattle.board_moves.proofs.Putting.{only_looks_at}
use Rattle.board_moves.proofs.OneChild.{reads_looks, stands_at, answered}

-- what was found by some looks was found by these and others
pub found_later : (capacity : ℕ) (more looks : List (ℕ × ℕ)) (word : ℕ) → FoundIn capacity more word
    → FoundIn capacity (more ++ looks) word
found_later capacity more looks word t = (t.0, t.1, looked_later more looks (cell_word t.0) word t.2)

pub found_earlier : (capacity : ℕ) (more looks : List (ℕ × ℕ)) (word : ℕ) → FoundIn capacity looks word
    → FoundIn capacity (more ++ looks) word
found_earlier capacity more looks word t = (t.0, t.1, looked_earlier more looks (cell_word t.0) word t.2)

pub nowhere_later : (capacity : ℕ) (more looks : List (ℕ × ℕ)) (word : ℕ) → FoundNowhere capacity more word
    → FoundNowhere capacity (more ++ looks) word
nowhere_later capacity more looks word t =
    ⊎_elim (λ e. inl (
      e.0,
      e.1,
      looked_later more looks (cell_word e.0) 0 e.2,
      saw_all_later capacity more looks word (steps_to capacity (home_of word capacity) e.0) e.3,
    ))
    (λ (all : SawAllOthers capacity more word). inr (λ place near. saw_later more looks word place (all place near))) t

pub nowhere_earlier : (capacity : ℕ) (more looks : List (ℕ × ℕ)) (word : ℕ) → FoundNowhere capacity looks word
    → FoundNowhere capacity (more ++ looks) word
nowhere_earlier capacity [] looks word t = t
nowhere_earlier capacity (look ∷ more) looks word t =
    let rest = nowhere_earlier capacity more looks word t in
    ⊎_elim (λ e. inl (
      e.0,
      e.1,
      inr e.2,
      λ place near before. let other = e.3 place near before in
          (other.0, inr other.1, other.2, other.3),
    ))
    (λ (all : SawAllOthers capacity (more ++ looks) word).
    inr (λ place near. let other = all place near in (other.0, inr other.1, other.2, other.3))) rest

pub open_later : (capacity : ℕ) (more looks : List (ℕ × ℕ)) (goal : ℕ) → FoundOpen capacity more goal
    → FoundOpen capacity (more ++ looks) goal
open_later capacity more looks goal t = (
  t.0,
  t.1,
  looked_later more looks (cell_word t.0) goal t.2,
  (t.3.0, looked_later more looks (head_word t.0) t.3.0 t.3.1, t.3.2),
)

-- a word that was looked for in vain wasn't shown
pub not_shown : (meaning : Meaning) (capacity : ℕ) (looks : List (ℕ × ℕ)) (word : ℕ) (found : Option ℕ) → found ≡ None
    → (ShowsEntry meaning capacity looks word → IsSome found) → ShowsEntry meaning capacity looks word → ⊥
not_shown meaning capacity looks word (Some at) is shown entry = let bad : ⊥ = cc in bad
not_shown meaning capacity looks word None is shown entry = false≢true (shown entry)

module _ {R : Type 0} (meaning : Meaning) (capacity : ℕ) where
  -- a word that was looked for in vain
  pub nowhere : (v : Hands R) (word : ℕ) (w : Hands R) → (t : FindsNone capacity v word w)
      → FoundNowhere capacity t.more word
  nowhere v word w t = ⊎_elim (λ (e : EndsAtGap capacity v word t.more). inl (e.gap, e.near, e.empty, e.passed))
      (λ (all : SawAllOthers capacity t.more word). inr all) t.nowhere

  pub sees_none : (v : Hands R) (word : ℕ) (w : Hands R) → FindsNone capacity v word w
      → (ShowsEntry meaning capacity v.looks word → ⊥) → SeesNone meaning capacity v word w
  sees_none v word w t unknown = record {
    more = t.more;
    looks = t.looks;
    hands_are = t.hands_are;
    nowhere = nowhere v word w t;
    unknown = unknown;
  }

  pub sees_in : (v : Hands R) (word at : ℕ) (w : Hands R) → FindsAt capacity v word at w
      → SeesIn meaning capacity v word w
  sees_in v word at w t = record {
    more = t.more;
    looks = t.looks;
    hands_are = t.hands_are;
    there = (at, t.near, t.stands);
  }

  -- a goal that was found in a cell and then answered
  pub sees_explored : (v : Hands R) (goal at : ℕ) (u : Hands R) (answer : Answer) (w : Hands R) → goal ≢ 0
      → FindsAt capacity v goal at u → ReadsAnswer meaning capacity u at answer w
      → OnlyLooks v w × ShowsFinished meaning capacity w.looks goal
  sees_explored v goal at u answer w some_goal found read = (
    looks_then v u w (only_looks_at capacity v goal at u found) (reads_looks meaning capacity u at answer w read),
    (answered meaning capacity goal some_goal u at answer w found.near
        (stands_at meaning capacity goal some_goal v at u found)
        read).finished,
  )

  -- a goal that was found in a cell, and then open
  pub sees_open : (v : Hands R) (goal at : ℕ) (u w : Hands R) → goal ≢ 0 → FindsAt capacity v goal at u
      → FindsOpen meaning capacity u at w → SeesOpen meaning capacity v goal w
  sees_open v goal at u w some_goal found read =
      let stands = stands_at meaning capacity goal some_goal v at u found in
      record {
        more = (head_word at, read.head) ∷ found.more;
        looks = seen_both v u found.more ((head_word at, read.head) ∷ []) found.hands_are found.looks read.looks;
        hands_are = seen_twice v u w found.more ((head_word at, read.head) ∷ []) found.hands_are read.hands_are;
        not_finished = inr (at, found.near, inr found.stands, (read.head, inl (refl, refl), read.not_closed));
        unknown = λ shown. read.unfinished goal some_goal stands
            (still_finished meaning capacity v.looks u.looks (later_seen found.more v u found.hands_are) goal shown);
      }

  -- a goal that was found in no cell
  pub sees_absent : (v : Hands R) (goal : ℕ) (w : Hands R) → FindsNone capacity v goal w
      → (ShowsEntry meaning capacity v.looks goal → ⊥) → SeesOpen meaning capacity v goal w
  sees_absent v goal w t unknown = record {
    more = t.more;
    looks = t.looks;
    hands_are = t.hands_are;
    not_finished = inl (nowhere v goal w t);
    unknown = λ shown. unknown (finished goal shown);
  }

  -- a word that was found, and then its goal finished
  pub in_explored : (v : Hands R) (word : ℕ) (u w : Hands R) → SeesIn meaning capacity v word u → OnlyLooks u w
      → SeesIn meaning capacity v word w
  in_explored v word u w first then = record {
    more = then.more ++ first.more;
    looks = seen_both v u first.more then.more first.hands_are first.looks then.looks;
    hands_are = seen_twice v u w first.more then.more first.hands_are then.hands_are;
    there = found_earlier capacity then.more first.more word first.there;
  }

  -- a word that was found, and then its goal open
  pub in_open : (Has : ℕ → Type 0) (goal_of : ℕ → ℕ) (v : Hands R) (word goal : ℕ) (u w : Hands R) → Has word
      → goal ≡ goal_of word → SeesIn meaning capacity v word u → SeesOpen meaning capacity u goal w
      → FindsOpenGoal meaning capacity Has goal_of v goal w
  in_open Has goal_of v word goal u w has is first then = record {
    word = word;
    has = has;
    is = is;
    more = then.more ++ first.more;
    looks = seen_both v u first.more then.more first.hands_are first.looks then.looks;
    hands_are = seen_twice v u w first.more then.more first.hands_are then.hands_are;
    there = found_earlier capacity then.more first.more word first.there;
    not_finished = ⊎_elim (λ (none : FoundNowhere capacity then.more goal).
        inl (nowhere_later capacity then.more first.more goal none))
        (λ (is_open : FoundOpen capacity then.more goal). inr (open_later capacity then.more first.more goal is_open))
        then.not_finished;
    unknown = λ shown. then.unknown (still_finished meaning capacity v.looks u.looks
        (later_seen first.more v u first.hands_are) goal shown);
  }

  -- a word that was found, and what was seen of its goal
  pub sees_goal : (Has : ℕ → Type 0) (goal_of : ℕ → ℕ) (v : Hands R) (word goal : ℕ) (u : Hands R) (seen_so : Seen)
      (w : Hands R) → Has word → goal ≡ goal_of word → SeesIn meaning capacity v word u
      → SeesGoal meaning capacity u goal seen_so w → Sees meaning capacity v Has goal_of word seen_so w
  sees_goal Has goal_of v word goal u Absent w has is first t = absurd t
  sees_goal Has goal_of v word goal u Explored w has is first t =
      (in_explored v word u w first t.0, subst (ShowsFinished meaning capacity w.looks) is t.1)
  sees_goal Has goal_of v word goal u (Unexplored other) w has is first t =
      in_open Has goal_of v word other u w has (t.0 ∙ is) first
      (subst (λ x. SeesOpen meaning capacity u x w) (sym t.0) t.1)
