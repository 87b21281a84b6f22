use Rattle.std.proofs.Common.{rules, arith, sym, ap, ◌∙◌, ◌≡◌, subst}
use Rattle.query_core.specs.Keys.{top_of, tables_of, key_number, IsGroupInRange}
use Rattle.query_core.specs.declared.words.KeyParts.TheVariants.{Join}
use Rattle.query_core.proofs.Splitting.{tables_top, top_in_range, number_top, tables_small}
use Rattle.query_core.proofs.query.Query.left_side.Goals as goal

-- no group in range has the number
pub returns-in_err-group : goal.returns-in_err-group
returns-in_err-group c =
    rw c.from_residual.ensures (λ a small some number.
    c.in_err-group.ensures (top_of c.args.self.now a) (top_in_range c.args.self.now a small)
    (omega (arith, number)))

-- the group of this number joins its tables
pub returns-then-eq : goal.returns-then-eq
returns-then-eq c =
    let q = c.args.self.now in
    let same : c.top_group.result ≡ c.in_ok-group.group = search rules in
    let joined : top_of q c.tables-set.result ≡ c.in_ok-group.group = sym c.top_group.ensures ∙ same in (
      subst (λ x. IsGroupInRange (Join x)) (sym c.tables-set.ensures)
          (tables_small c.in_ok-group.group c.in_ok-group.ensures.0),
      omega (arith, ap key_number joined, c.in_ok-group.ensures.1, c.if-number-eq0.false),
    )

-- the group of this number doesn't join its tables, so it joins no others either
pub returns-else-eq : goal.returns-else-eq
returns-else-eq c a small some number =
    let same = number_top c.args.self.now a _ c.in_ok-group.group c.in_ok-group.ensures.0 c.in_ok-group.ensures.1 small
    (omega (arith, number)) in
    let set : c.tables-set.result ≡ a = c.tables-set.ensures ∙ (ap tables_of same ∙ tables_top c.args.self.now a) in
    let joined : c.top_group.result ≡ c.in_ok-group.group = c.top_group.ensures
    ∙ (ap (top_of c.args.self.now) set ∙ sym same) in
    let never : c.top_group.result ≡ c.in_ok-group.group → ⊥ = search rules in
    never joined
