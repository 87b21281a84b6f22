-- How the list of a group's members in their modes is made.
use Rattle.std.proofs.Common.{◌≡◌, ℕ, ◌<◌, ◌≤◌, ◌+◌, ◌*◌, subst, sym, ◌∙◌, ap, inl, inr, arith}
use Rattle.std.specs.Prelude.{◌^◌, List, [], ◌∷◌, ◌++◌, length, slice_index, slice_index_or, Some}
use Rattle.std.proofs.Math.ListN.{get_or-eq_default}
use Rattle.std.proofs.lemmas.Bool.{cases_eq, cases_lt}
use Rattle.std.specs.List.{Contains}
use Rattle.std.specs.List.Sorted.{IsStrictlyIncreasing}
use Rattle.std.proofs.lemmas.List.{append-nil, append_assoc, get_or_default}
use Rattle.query_core.specs.Goals.{EXPRS, FitsExpr}
use Rattle.query_core.specs.declared.query.Query.{Query}
use Rattle.query_core.specs.declared.words.KeyParts.{KeyParts}
use Rattle.query_core.specs.declared.expressions.PhysicalExpr.{PhysicalExpr}
use Rattle.query_core.specs.declared.expressions.ExprParts.{ExprParts}
use Rattle.query_core.specs.Expressions.{expr_of, word_of}
use Rattle.xform_rules.specs.Closure.{IsMember}
use Rattle.plan_space.specs.declared.lines.Line.{Line}
use Rattle.plan_space.specs.Lines.{line_of}
use Rattle.plan_tree.specs.Costs.{AreRowsOf}
use Rattle.plan_search.specs.declared.native.NativeNode.{NativeNode}
use Rattle.plan_search.specs.Natives.{IsNative, AreNative, RisesFrom, mode_number, HasMode, IsInMode, AreInModes}
use Rattle.plan_search.specs.Natives.{AddsModes, AreListed}
use Rattle.plan_search.proofs.Tried.{rises_less}
use Rattle.plan_search.proofs.RisingNumbers.{AreBelow, below_more, rises_push, below_push, in_front, in_behind}

-- an expression has lines in modes below 192 only
abbrev pub HasFewModes : Query → Type 0
HasFewModes q = (e : PhysicalExpr) (mode : ℕ) (line : Line) → line_of q e mode ≡ Some line → mode < 192

module _ (q : Query) (group : KeyParts) where
  are_push : (list : List NativeNode) (p : NativeNode) → IsNative q group p → AreNative q group list
      → AreNative q group (list ++ p ∷ [])
  are_push [] p is are = (is, tt)
  are_push (first ∷ others) p is are = (are.0, are_push others p is are.1)

  -- such members, whose numbers rise up to the bound
  pub record AreUpTo (bound : ℕ) (list : List NativeNode) : Type 0 where
    pub are : AreNative q group list
    pub rises : RisesFrom (2 ^ 56) list
    pub below : AreBelow bound list

  pub up_to_more : (bound more : ℕ) (list : List NativeNode) → bound ≤ more → AreUpTo bound list → AreUpTo more list
  up_to_more bound more list less up_to = record {
    are = up_to.are;
    rises = up_to.rises;
    below = below_more bound more list less up_to.below;
  }

  up_to_push : (bound : ℕ) (list : List NativeNode) (p : NativeNode) → 2 ^ 56 ≤ mode_number p → bound ≤ mode_number p
      → IsNative q group p → AreUpTo bound list
      → AreUpTo (mode_number p + 1) (list ++ p ∷ [])
  up_to_push bound list p least less is up_to = record {
    are = are_push list p is up_to.are;
    rises = rises_push (2 ^ 56) list p least up_to.rises (below_more bound (mode_number p) list less up_to.below);
    below = below_push (mode_number p + 1) list p (omega arith)
        (below_more bound (mode_number p + 1) list (omega (arith, less)) up_to.below);
  }

  -- an expression's modes come behind lesser ones
  module _ (e : PhysicalExpr) (member : IsMember q (expr_of e)) (of_group : e.group ≡ group)
      (small : FitsExpr (word_of (expr_of e))) where
    is_native_in : (p : NativeNode) → IsInMode q e 192 p → IsNative q group p
    is_native_in p is =
        let number : word_of (expr_of p.expr) ≡ word_of (expr_of e) = ap (λ x. word_of (expr_of x)) is.expr in
        record {
          member = subst (λ x. IsMember q (expr_of x)) (sym is.expr) member;
          of_group = ap (λ (x : PhysicalExpr). x.group) is.expr ∙ of_group;
          line = subst (λ x. line_of q x p.mode ≡ Some p.line) (sym is.expr) is.line;
          rows = subst (λ x. AreRowsOf q x p.rows) (sym is.expr) is.rows;
          few = is.below;
          small = omega (arith, number, small, is.below);
        }

    up_to_modes : (bound : ℕ) (list modes : List NativeNode) → 2 ^ 56 ≤ bound
        → bound ≤ 2 ^ 56 + word_of (expr_of e) * 2 ^ 8 + 192 → AreUpTo bound list → AreInModes q e 192 modes
        → RisesFrom bound modes
        → AreUpTo (2 ^ 56 + word_of (expr_of e) * 2 ^ 8 + 192) (list ++ modes)
    up_to_modes bound list [] least most up_to are rises =
        subst (λ l. AreUpTo (2 ^ 56 + word_of (expr_of e) * 2 ^ 8 + 192) l) (sym (append-nil list))
        (up_to_more bound (2 ^ 56 + word_of (expr_of e) * 2 ^ 8 + 192) list most up_to)
    up_to_modes bound list (p ∷ ps) least most up_to are rises =
        let is = are.0 in
        let number : word_of (expr_of p.expr) ≡ word_of (expr_of e) = ap (λ x. word_of (expr_of x)) is.expr in
        subst (λ l. AreUpTo (2 ^ 56 + word_of (expr_of e) * 2 ^ 8 + 192) l) (append_assoc list (p ∷ []) ps)
        (up_to_modes (mode_number p + 1) (list ++ p ∷ []) ps (omega (arith, least, rises.0))
        (omega (arith, number, is.below))
        (up_to_push bound list p (omega (arith, least, rises.0)) rises.0 (is_native_in p is) up_to) are.1 rises.1)

  -- the members with the first so many words, in all modes in which they have a line
  pub record AreMade (words : List ℕ) (i : ℕ) (list : List NativeNode) : Type 0 where
    pub up_to : AreUpTo (2 ^ 56 + slice_index_or words i EXPRS * 2 ^ 8) list
    pub complete : (k : ℕ) → k < i → (e : PhysicalExpr) (mode : ℕ) (line : Line) → IsMember q (expr_of e)
        → word_of (expr_of e) ≡ slice_index words k → line_of q e mode ≡ Some line
        → HasMode e mode list

  module _ (words : List ℕ) (ascending : IsStrictlyIncreasing words) where
    next_base : (i : ℕ) → i < length words → FitsExpr (slice_index words i)
        → slice_index words i + 1 ≤ slice_index_or words (i + 1) EXPRS
    next_base i within small = elim (cases_lt (i + 1) (length words)) [
      | inl more ↦ let same = get_or_default words (i + 1) 0 EXPRS more in omega (arith, ascending i more, same)
      | inr end ↦ let last = get_or-eq_default words EXPRS end in omega (arith, small, last)
    ]

    pub made_more : HasFewModes q → (i : ℕ) (e : PhysicalExpr) (list new : List NativeNode) → i < length words
        → IsMember q (expr_of e) → e.group ≡ group → FitsExpr (word_of (expr_of e))
        → word_of (expr_of e) ≡ slice_index words i
        → ((f : PhysicalExpr) → IsMember q (expr_of f) → word_of (expr_of f) ≡ word_of (expr_of e) → f ≡ e)
        → AreMade words i list → AddsModes q e list new → AreMade words (i + 1) new
    made_more few i e list new within member of_group small is one made (modes, of_expr, added) =
        let here : slice_index_or words i EXPRS ≡ word_of (expr_of e) = get_or_default words i EXPRS 0 within
        ∙ sym is in
        let before = subst (λ w. AreUpTo (2 ^ 56 + w * 2 ^ 8) list) here made.up_to in
        let rises : RisesFrom (2 ^ 56 + word_of (expr_of e) * 2 ^ 8) modes =
        rises_less (2 ^ 56 + word_of (expr_of e) * 2 ^ 8 + 0) (2 ^ 56 + word_of (expr_of e) * 2 ^ 8) modes
        (omega arith) of_expr.rises in
        let up_to = up_to_modes e member of_group small (2 ^ 56 + word_of (expr_of e) * 2 ^ 8) list modes (omega arith)
        (omega arith) before of_expr.are rises in
        subst (AreMade words (i + 1)) (sym added) (record {
          up_to = up_to_more (2 ^ 56 + word_of (expr_of e) * 2 ^ 8 + 192)
              (2 ^ 56 + slice_index_or words (i + 1) EXPRS * 2 ^ 8) (list ++ modes)
              (omega (arith, next_base i within (omega (arith, is, small)), is)) up_to;
          complete = λ k less f mode line is_member of_word has. elim (cases_eq k i) [
            | inl same ↦
                let equal : f ≡ e = one f is_member (of_word ∙ ap (λ n. slice_index words n) same ∙ sym is) in
                let here_too = of_expr.complete mode line (few f mode line has)
                (subst (λ x. line_of q x mode ≡ Some line) equal has) in
                (here_too.0, in_behind here_too.0 list modes here_too.1, here_too.2 ∙ sym equal, here_too.3)
            | inr other ↦
                let there = made.complete k (omega (arith, less, other)) f mode line is_member of_word has in
                (there.0, in_front there.0 list modes there.1, there.2, there.3)
          ];
        })

    -- a logical expression adds nothing
    pub made_past : (i : ℕ) (e : ExprParts) (list : List NativeNode) → i < length words → FitsExpr (word_of e)
        → word_of e ≡ slice_index words i
        → ((f : PhysicalExpr) → IsMember q (expr_of f) → word_of (expr_of f) ≡ word_of e → ⊥) → AreMade words i list
        → AreMade words (i + 1) list
    made_past i e list within small is never made = record {
      up_to = up_to_more (2 ^ 56 + slice_index_or words i EXPRS * 2 ^ 8)
          (2 ^ 56 + slice_index_or words (i + 1) EXPRS * 2 ^ 8) list
          (omega (arith, next_base i within (omega (arith, is, small)), get_or_default words i EXPRS 0 within))
          made.up_to;
      complete = λ k less f mode line is_member of_word has. elim (cases_eq k i) [
        | inl same ↦ absurd (never f is_member (of_word ∙ ap (λ n. slice_index words n) same ∙ sym is))
        | inr other ↦ made.complete k (omega (arith, less, other)) f mode line is_member of_word has
      ];
    }

    -- at the end they are all that the group has
    pub made_all : (i : ℕ) (list : List NativeNode) → length words ≤ i
        → ((e : ExprParts) → IsMember q e → e.group ≡ group → Contains words (word_of e)) → AreMade words i list
        → AreListed q group list
    made_all i list end all made = record {
      are = made.up_to.are;
      rises = made.up_to.rises;
      complete = λ e mode line member of_group has.
          let found = all (expr_of e) member of_group in
          made.complete found.0 (omega (arith, end, found.1)) e mode line member (sym found.2
          ∙ get_or_default words found.0 (word_of (expr_of e)) 0 found.1) has;
    }
