-- Results with the members of a group bound, one after the other.
use Rattle.std.proofs.Common.{◌≡◌, ◌⊎◌, ℕ, Option, None, Some, refl, sym, subst, inl, inr, ⊎_elim}
use Rattle.query_core.specs.Expressions.{word_of, IsCandidate}
use Rattle.query_core.specs.declared.query.Query.{Query}
use Rattle.query_core.specs.declared.words.KeyParts.{KeyParts}
use Rattle.query_core.specs.declared.expressions.ExprParts.{ExprParts}
use Rattle.xform_rules.specs.Closure.{IsMember}
use Rattle.xform_rules.specs.declared.rules.Rule.{Rule}
use Rattle.goal_space.specs.Children.{IsLogicalIn}
use Rattle.goal_space.specs.Entries.{IsEntry}
use Rattle.goal_rules.specs.Known.{EntriesAreMembers}
use Rattle.goal_rules.specs.Explored.{IsLogicalWord}
use Rattle.goal_rules.specs.Meaning.{meaning_of}
use Rattle.board_moves.specs.Moves.{IsEntryOf}
use Rattle.board_moves.specs.Words.{IsAbove, IsNextWord, IsNextOf}
use Rattle.board_moves.proofs.Ascending.{IsUpTo, up_to_next, up_to_or_above}
use Rattle.job_turns.specs.Results.{IsBroughtWith, IsBroughtFrom}

-- with some logical member up to a word bound
abbrev pub IsBroughtUpTo : Query → Rule → ExprParts → KeyParts → Option ℕ → ExprParts → Type 0
IsBroughtUpTo q rule e group before other = (bound : ExprParts) × IsLogicalIn (IsMember q) group bound
    × IsUpTo before (word_of bound) × IsBroughtWith q rule e (Some bound) other

module _ (q : Query) (group : KeyParts) (members : EntriesAreMembers q) (candidates : (e : ExprParts) → IsMember q e
    → IsCandidate q e) where
  -- a logical member's word is that of an entry
  pub member_entry : (bound : ExprParts) → IsLogicalIn (IsMember q) group bound
      → IsEntryOf (meaning_of q) (IsLogicalWord q group) (word_of bound)
  member_entry bound is_in = (
    (
      bound,
      record {
        candidate = candidates bound is_in.member;
        of_group = is_in.of_group;
        logical = is_in.logical;
      },
      refl,
    ),
    inl (bound, is_in.member, refl),
  )

  -- and the other way round
  pub entry_member : (word : ℕ) → IsEntryOf (meaning_of q) (IsLogicalWord q group) word → (bound : ExprParts)
      × IsLogicalIn (IsMember q) group bound × (word_of bound ≡ word)
  entry_member word ((e, logical, is), enters) = (
    e,
    record {
      member = members e logical.candidate (subst (IsEntry q) (sym is) enters);
      of_group = logical.of_group;
      logical = logical.logical;
    },
    is,
  )

  -- one member more
  pub bound_more : (rule : Rule) (e : ExprParts) (before : Option ℕ) (word : ℕ)
      → IsNextWord (IsEntryOf (meaning_of q) (IsLogicalWord q group)) before word → (bound : ExprParts)
      → ((x : ExprParts) → IsLogicalIn (IsMember q) group x → word_of x ≡ word → x ≡ bound)
      → (other : ExprParts) → IsBroughtUpTo q rule e group (Some word) other → IsBroughtUpTo q rule e group before other
      ⊎ IsBroughtWith q rule e (Some bound) other
  bound_more rule e before word next bound only other (x, is_in, most, brought) =
      ⊎_elim (λ (same : word_of x ≡ word). inr
      (subst (λ k. IsBroughtWith q rule e (Some k) other) (only x is_in same) brought))
      (λ (old : IsUpTo before (word_of x)). inl (x, is_in, old, brought))
      (up_to_next (IsEntryOf (meaning_of q) (IsLogicalWord q group)) before word next (word_of x) (member_entry x is_in)
      most)

  -- none comes any more
  pub bound_all : (rule : Rule) (e : ExprParts) (before : Option ℕ)
      → IsNextOf (IsEntryOf (meaning_of q) (IsLogicalWord q group)) before None → (other : ExprParts)
      → IsBroughtFrom q rule e group other → IsBroughtUpTo q rule e group before other
  bound_all rule e before none other (x, is_in, brought) = (
    x,
    is_in,
    ⊎_elim (λ (most : IsUpTo before (word_of x)). most)
        (λ (above : IsAbove before (word_of x)). absurd (none (word_of x) (member_entry x is_in) above))
        (up_to_or_above before (word_of x)),
    brought,
  )
