-- Members that were put in, one after the other.
use Rattle.std.proofs.Common.{◌≡◌, ◌≢◌, ◌⊎◌, ℕ, Bool, true, false, Option, None, Some, refl, sym, ap, subst, ◌∙◌, inl}
use Rattle.std.proofs.Common.{inr, ⊎_elim, arith}
use Rattle.word_table.specs.declared.outcome.Inserted.{Inserted}
use Rattle.word_table.specs.declared.outcome.Inserted.TheVariants.{Full}
use Rattle.query_core.specs.Expressions.{children_of, origin_of, word_of, IsChild}
use Rattle.query_core.specs.declared.query.Query.{Query}
use Rattle.query_core.specs.declared.words.KeyParts.{KeyParts}
use Rattle.query_core.specs.declared.expressions.ExprParts.{ExprParts}
use Rattle.query_core.proofs.ExpressionLemmas.{word_some}
use Rattle.board_rule.specs.Looks.{ShowsEntry}
use Rattle.board_rule.specs.declared.hands.Hands.{Hands}
use Rattle.goal_board.specs.declared.board.Right.{Right}
use Rattle.goal_board.specs.Calls.{Inserts, FindsFull}
use Rattle.board_moves.specs.Moves.{OnlyLooks, RunsOut}
use Rattle.board_moves.proofs.Shown.{still_shown, later_looked}
use Rattle.board_moves.proofs.Rounds.{proceeds_looked}
use Rattle.board_moves.proofs.MovesLemmas.{proceeds_none, proceeds_then, later_proceeded, runs_out_then}
use Rattle.board_moves.proofs.Working.{proceeds_put, runs_out_at, put_shown}
use Rattle.goal_space.specs.Entries.{IsEntry, IsAskedWord}
use Rattle.goal_space.specs.Asked.{IsBroughtBy}
use Rattle.goal_space.specs.OfMembers.{asked_are_members}
use Rattle.goal_rules.specs.Meaning.{meaning_of}
use Rattle.goal_rules.specs.declared.rules.Rules.{Rules}
use Rattle.job_turns.specs.Works.{HasPut, PutsMembers, IsAskedOf, IsOneOfGroups, IsOriginOf}

-- what the goal asks for is an entry, and may be put in
pub asked_enters : (q : Query) (word : ℕ) (e : ExprParts) → IsAskedOf q word e → IsEntry q (word_of e)
asked_enters q word e (goal, names, asks) = inl (e, asked_are_members q goal e names.is_goal asks, refl)

pub asked_word : (q : Query) (word : ℕ) (e : ExprParts) → IsAskedOf q word e → IsAskedWord q word (word_of e)
asked_word q word e (goal, names, asks) = record { goal = goal; member = e; names = names; asks = asks; number = refl }

module _ (q : Query) (capacity : ℕ) (right : Right) where
  pub put_none : (v : Hands Rules) (Wanted : ExprParts → Type 0) → ((e : ExprParts) → Wanted e → ⊥)
      → HasPut q capacity v right Wanted v
  put_none v Wanted none = record {
    proceeds = proceeds_none (IsAskedWord q right.goal) v right;
    shown = λ e is. absurd (none e is);
  }

  pub put_others : (v : Hands Rules) (Wanted Others : ExprParts → Type 0) → ((e : ExprParts) → Others e → Wanted e)
      → (w : Hands Rules) → HasPut q capacity v right Wanted w → HasPut q capacity v right Others w
  put_others v Wanted Others within w t = record { proceeds = t.proceeds; shown = λ e is. t.shown e (within e is) }

  pub put_both : (v : Hands Rules) (First Others : ExprParts → Type 0) (u w : Hands Rules)
      → HasPut q capacity v right First u → HasPut q capacity u right Others w
      → HasPut q capacity v right (λ e. First e ⊎ Others e) w
  put_both v First Others u w first second = record {
    proceeds = proceeds_then (IsAskedWord q right.goal) v right u right w right first.proceeds second.proceeds;
    shown = λ e is. ⊎_elim (λ (old : First e).
        still_shown (meaning_of q) capacity u.looks w.looks
        (later_proceeded (IsAskedWord q right.goal) u right w right second.proceeds) (word_of e) (first.shown e old))
        (λ (new : Others e). second.shown e new) is;
  }

  -- some members, and then others or one of them that found no cell
  pub puts_then : (v : Hands Rules) (First Others : ExprParts → Type 0) (u : Hands Rules) (fits : Bool)
      (w : Hands Rules) → HasPut q capacity v right First u → PutsMembers q capacity u right Others fits w
      → PutsMembers q capacity v right (λ e. First e ⊎ Others e) fits w
  puts_then v First Others u true w first t = put_both v First Others u w first t
  puts_then v First Others u false w first t =
      runs_out_then (IsAskedWord q right.goal) capacity v right u right w right first.proceeds t

  pub puts_others : (v : Hands Rules) (Wanted Others : ExprParts → Type 0) → ((e : ExprParts) → Others e → Wanted e)
      → (fits : Bool) (w : Hands Rules) → PutsMembers q capacity v right Wanted fits w
      → PutsMembers q capacity v right Others fits w
  puts_others v Wanted Others within true w t = put_others v Wanted Others within w t
  puts_others v Wanted Others within false w t = t

  -- one member
  pub put_one : (v : Hands Rules) (e : ExprParts) (word : ℕ) (answer : Inserted) (w : Hands Rules)
      → IsAskedOf q right.goal e → word ≡ word_of e → answer ≢ Full → Inserts capacity v word answer w
      → HasPut q capacity v right (λ other. other ≡ e) w
  put_one v e word answer w asked is fits t =
      let some : word ≢ 0 = λ none. let some_word = word_some e in absurd (omega arith) in
      record {
        proceeds = proceeds_put (meaning_of q) capacity (IsAskedWord q right.goal) v right word answer w
            (subst (IsAskedWord q right.goal) (sym is) (asked_word q right.goal e asked)) fits t;
        shown = λ other same. subst (λ x. ShowsEntry (meaning_of q) capacity w.looks (word_of x)) (sym same)
            (subst (ShowsEntry (meaning_of q) capacity w.looks) is
            (put_shown (meaning_of q) capacity (IsAskedWord q right.goal) v word answer w some fits t));
      }

  pub puts_full : (v : Hands Rules) (e : ExprParts) (word : ℕ) (w : Hands Rules) → IsAskedOf q right.goal e
      → word ≡ word_of e → FindsFull capacity v word w → RunsOut (IsAskedWord q right.goal) v right capacity w right
  puts_full v e word w asked is t = runs_out_at (meaning_of q) capacity (IsAskedWord q right.goal) v right word w
      (subst (IsAskedWord q right.goal) (sym is) (asked_word q right.goal e asked)) t

-- what a member brings: itself, and the origins of the groups on either side
pub brought : (q : Query) (e : ExprParts) (groups : Option KeyParts × Option KeyParts)
    → ((group : KeyParts) → IsChild (children_of e.operator) group → IsOneOfGroups groups group) → (other : ExprParts)
    → IsBroughtBy q e other
    → ((other ≡ e) ⊎ IsOriginOf q groups.0 other) ⊎ IsOriginOf q groups.1 other
brought q e groups below other (inl same) = inl (inl same)
brought q e groups below other (inr (group, child, is)) =
    ⊎_elim (λ left. inl (inr (group, left, is))) (λ right. inr (group, right, is)) (below group child)

-- the origin of a group that is there
pub origin_is : (q : Query) (found : Option KeyParts) (key : KeyParts) → found ≡ Some key → (e : ExprParts)
    → IsOriginOf q found e → e ≡ origin_of q key
origin_is q found key there e (group, also, is) = let same : group ≡ key =
    (let both : Some group ≡ Some key = sym also ∙ there in cc) in is ∙ ap (origin_of q) same

pub no_origin : (q : Query) (found : Option KeyParts) → found ≡ None → (e : ExprParts) → IsOriginOf q found e → ⊥
no_origin q found none_there e (group, also, is) = let bad : ⊥ = cc in bad

module _ (q : Query) (capacity : ℕ) (right : Right) (v : Hands Rules) (Wanted : ExprParts → Type 0) where
  -- what was put in is shown after looks too
  pub put_looked : (u w : Hands Rules) → OnlyLooks u w → HasPut q capacity v right Wanted u
      → HasPut q capacity v right Wanted w
  put_looked u w looks t = record {
    proceeds = proceeds_then (IsAskedWord q right.goal) v right u right w right t.proceeds
        (proceeds_looked (IsAskedWord q right.goal) u right w looks);
    shown = λ e is. still_shown (meaning_of q) capacity u.looks w.looks (later_looked u w looks) (word_of e)
        (t.shown e is);
  }

  -- what was shown before still is
  pub put_shown_from : (w : Hands Rules) → HasPut q capacity v right Wanted w → (word : ℕ)
      → ShowsEntry (meaning_of q) capacity v.looks word → ShowsEntry (meaning_of q) capacity w.looks word
  put_shown_from w t word = still_shown (meaning_of q) capacity v.looks w.looks
      (later_proceeded (IsAskedWord q right.goal) v right w right t.proceeds) word

  pub puts_run_out : (u w : Hands Rules) → HasPut q capacity v right Wanted u
      → RunsOut (IsAskedWord q right.goal) u right capacity w right
      → RunsOut (IsAskedWord q right.goal) v right capacity w right
  puts_run_out u w first t = runs_out_then (IsAskedWord q right.goal) capacity v right u right w right first.proceeds t
