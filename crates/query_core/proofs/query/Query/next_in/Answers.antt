use Rattle.std.proofs.Common.{◌⊎◌, inl, inr, subst, sym}
use Rattle.query_core.specs.Expressions.{children_of, IsChildrenOf}
use Rattle.query_core.specs.Finding.{FindsFrom, IsHeldBy, IsJoined, IsOver}
use Rattle.query_core.specs.declared.expressions.Children.TheVariants.{Zero, One}
use Rattle.query_core.specs.declared.words.KeyParts.TheVariants.{Join, Partial}
use Rattle.query_core.specs.Keys.{input_of}
use Rattle.query_core.proofs.Finding.{finds_held}
use Rattle.query_core.proofs.Least.{sooner_is}
use Rattle.query_core.proofs.query.Query.next_in.Goals as goal

-- an operator of a set of tables stands on no group or on two sides
pub returns-in-Join : goal.returns-in-Join
returns-in-Join c =
    let q = c.args.self.now in
    let set = c.in-Join.set in
    let found = c.sooner-in-Join.result in
    subst (λ g. FindsFrom (IsHeldBy q g) c.args.bound found) (sym c.in-Join.is)
    (finds_held q (Join set) (λ e. IsOver q (Join set) Zero e ⊎ IsJoined q set e) c.args.bound found
    (λ e either. elim either [ inl alone ↦ alone.0 | inr joined ↦ joined.0 ])
    (λ e held children. elim children [ inl none ↦ inl (held, none) | inr sides ↦ inr (held, sides) ])
    (sooner_is (IsOver q (Join set) Zero) (IsJoined q set) c.args.bound c.next_over-alone-in-Join.result
    c.next_join.result found c.sooner-in-Join.ensures c.next_over-alone-in-Join.ensures c.next_join.ensures))

-- an aggregation stands on all rows or on groups that are not complete
pub returns-in-Agg : goal.returns-in-Agg
returns-in-Agg c =
    let q = c.args.self.now in
    let group = c.args.group in
    finds_held q group (λ e. IsOver q group (One (input_of q)) e ⊎ IsOver q group (One Partial) e) c.args.bound
    c.sooner-in-Agg.result
    (λ e either. elim either [ inl whole ↦ whole.0 | inr parts ↦ parts.0 ])
    (λ e held children. elim (subst (λ g. IsChildrenOf q g (children_of e.operator)) c.in-Agg.is children) [
      | inl whole ↦ inl (held, whole)
      | inr parts ↦ inr (held, parts)
    ])
    (sooner_is (IsOver q group (One (input_of q))) (IsOver q group (One Partial)) c.args.bound
    c.next_over-whole.result c.next_over-in-Agg.result c.sooner-in-Agg.result c.sooner-in-Agg.ensures
    (subst (λ x. FindsFrom (IsOver q group (One x)) c.args.bound c.next_over-whole.result) c.input-in-Agg.ensures.value
    c.next_over-whole.ensures) c.next_over-in-Agg.ensures)
