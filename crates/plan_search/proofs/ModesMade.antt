-- How the list of an expression's modes is made.
use Rattle.std.proofs.Common.{◌≡◌, ℕ, ◌≤◌, ◌+◌, subst, sym, ◌∙◌, ap, inl, inr, arith}
use Rattle.std.specs.Prelude.{List, [], ◌∷◌, ◌++◌, None, Some}
use Rattle.std.proofs.lemmas.Bool.{cases_eq, cases_lt}
use Rattle.query_core.specs.declared.query.Query.{Query}
use Rattle.query_core.specs.declared.expressions.PhysicalExpr.{PhysicalExpr}
use Rattle.query_core.specs.Expressions.{expr_of, word_of}
use Rattle.plan_space.specs.declared.nodes.NodeKind.TheVariants as nodes
use Rattle.plan_space.specs.Nodes.{node_number}
use Rattle.plan_space.specs.Lines.{line_of}
use Rattle.plan_tree.specs.Costs.{AreRowsOf}
use Rattle.plan_tree.specs.Walks.{AreNone}
use Rattle.plan_search.specs.declared.native.NativeNode.{NativeNode}
use Rattle.plan_search.specs.Natives.{mode_number, IsInMode, AreInModes, AreModesOf}
use Rattle.plan_search.proofs.RisingNumbers.{AreBelow, rises_push, in_front, in_end}

module _ (q : Query) (e : PhysicalExpr) where
  are_more : (bound more : ℕ) (list : List NativeNode) → bound ≤ more → AreInModes q e bound list
      → AreInModes q e more list
  are_more bound more [] less are = tt
  are_more bound more (p ∷ ps) less are = (
    record { expr = are.0.expr; below = omega (arith, are.0.below, less); line = are.0.line; rows = are.0.rows },
    are_more bound more ps less are.1,
  )

  are_behind : (bound : ℕ) (list : List NativeNode) (p : NativeNode) → AreInModes q e bound list → IsInMode q e bound p
      → AreInModes q e bound (list ++ p ∷ [])
  are_behind bound [] p are is = (is, tt)
  are_behind bound (first ∷ others) p are is = (are.0, are_behind bound others p are.1 is)

  numbers_below : (bound : ℕ) (list : List NativeNode) → AreInModes q e bound list
      → AreBelow (node_number (nodes.Native e bound)) list
  numbers_below bound [] are = tt
  numbers_below bound (p ∷ ps) are = let number : word_of (expr_of p.expr) ≡ word_of (expr_of e) =
      ap (λ x. word_of (expr_of x)) are.0.expr in (omega (arith, number, are.0.below), numbers_below bound ps are.1)

  module _ (m : ℕ) (modes : List NativeNode) (so_far : AreModesOf q e m modes) where
    -- a mode that has a line is added
    pub mode_pushed : (p : NativeNode) → p.expr ≡ e → p.mode ≡ m → line_of q e m ≡ Some p.line → AreRowsOf q e p.rows
        → AreModesOf q e (m + 1) (modes ++ p ∷ [])
    mode_pushed p is_expr is_mode is_line rows =
        let number : mode_number p ≡ node_number (nodes.Native e m) =
        ap (λ x. node_number (nodes.Native x p.mode)) is_expr
        ∙ ap (λ n. node_number (nodes.Native e n)) is_mode in
        record {
          are = are_behind (m + 1) modes p (are_more m (m + 1) modes (omega arith) so_far.are)
              (record {
                expr = is_expr;
                below = omega (arith, is_mode);
                line = ap (λ n. line_of q e n) is_mode ∙ is_line;
                rows = rows;
              });
          rises = rises_push (node_number (nodes.Native e 0)) modes p (omega (arith, number)) so_far.rises
              (subst (λ n. AreBelow n modes) (sym number) (numbers_below m modes so_far.are));
          complete = λ mode line less has. elim (cases_eq mode m) [
            | inl same ↦ (p, in_end modes p, is_expr, is_mode ∙ sym same)
            | inr other ↦ let there = so_far.complete mode line (omega (arith, less, other)) has in
                (there.0, in_front there.0 modes (p ∷ []) there.1, there.2, there.3)
          ];
        }

  -- modes without a line are passed over
  pub modes_passed : (from to : ℕ) (modes : List NativeNode) → from ≤ to → AreNone q e from to
      → AreModesOf q e from modes
      → AreModesOf q e to modes
  modes_passed from to modes later none so_far = record {
    are = are_more from to modes later so_far.are;
    rises = so_far.rises;
    complete = λ mode line less has. elim (cases_lt mode from) [
      | inl before ↦ so_far.complete mode line before has
      | inr after ↦ let never : None ≡ Some line = sym (none mode after less) ∙ has in cc
    ];
  }
