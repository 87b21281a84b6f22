use Rattle.std.proofs.Common.{◌≡◌, Some, ap, sym, ◌∙◌, subst, arith}
use Rattle.plan_space.specs.Nodes.{node_number}
use Rattle.plan_space.specs.declared.nodes.NodeKind.{NodeKind}
use Rattle.plan_space.specs.declared.nodes.NodeKind.TheVariants.{Native}
use Rattle.plan_tree.specs.Nodes.{IsNode, NativeInRange}
use Rattle.plan_tree.proofs.NodeNumbers.{no_kind}
use Rattle.plan_tree.proofs.node.Node.kind.Goals as goal

-- the number is that of the expression in the mode, and of no other node
pub returns-in-Some : goal.returns-in-Some
returns-in-Some c =
    let kind = Native c.in-Some.expr c.in-Some.mode in
    let number : c.args.self.0 ≡ node_number (Native c.in-Some.expr c.in-Some.mode) =
    rw (c.in-Some.expr-is, c.in-Some.mode-is) c.in-Some.ensures.number in
    let in_range : NativeInRange c.in-Some.expr c.in-Some.mode =
    rw (c.in-Some.expr-is, c.in-Some.mode-is) c.in-Some.ensures.in_range in
    let here : IsNode c.args.self (Native c.in-Some.expr c.in-Some.mode) =
    record { number = number; in_range = in_range } in
    record {
      exact = λ k. (
        λ names. ap Some (c.nodes_are_one.ensures kind k here.in_range names.in_range (sym here.number ∙ names.number)),
        λ is. let same : Native c.in-Some.expr c.in-Some.mode ≡ k = cc in
            subst (λ (k : NodeKind). IsNode c.args.self k) same here,
      );
    }

-- the number is beside the numbers of the nodes
pub returns-in-None : goal.returns-in-None
returns-in-None c = record {
  exact = λ k. (
    λ names. absurd (no_kind c.args.self.0 c.in-None.ensures.none (omega arith) (omega arith)
        (λ o some few is. grind arith) (λ o some few is. grind arith) (λ o few is. grind arith) k names.in_range
        names.number),
    λ is. cc,
  );
}
