use Rattle.std.proofs.Common.{rules, ℕ, ◌≡◌, ◌-◌, ap, sym, subst, ◌∙◌}
use Rattle.std.proofs.lemmas.Bool.{false≢true}
use Rattle.query_core.specs.Sets.{bit}
use Rattle.query_core.specs.Keys.{top_of, tables_of}
use Rattle.query_core.specs.Expressions.{FallsInto}
use Rattle.query_core.proofs.Splitting.{tables_top, right_bit, right_one}
use Rattle.query_core.proofs.query.Query.are_sides.Goals as goal

-- the left group joins the left tables, and the right group what these leave of the set
pub returns-then-eq : goal.returns-then-eq
returns-then-eq c =
    let q = c.args.self.now in
    let set = c.args.set in
    let tables = c.tables-tables.result in
    let other = c.in-Some.other in
    let falls : FallsInto q set tables other = c.in-Some.ensures in
    let first : c.top_group.result ≡ c.args.left = search rules in (
      λ same.
          let second : c.top_group-then-eq.result ≡ c.args.right = search rules in
          (tables, other, falls, sym first ∙ c.top_group.ensures, sym second ∙ c.top_group-then-eq.ensures),
      λ (a, b, part, left, right).
          let own : tables ≡ a = c.tables-tables.ensures ∙ (ap tables_of left ∙ tables_top q a) in
          let rest : b ≡ other = right_one q set a b other part
          (subst (λ x. (t : ℕ) → bit other t ≡ bit set t - bit x t) own (right_bit q set tables other falls)) in
          let second : c.top_group-then-eq.result ≡ c.args.right = c.top_group-then-eq.ensures
          ∙ (ap (top_of q) (sym rest) ∙ sym right) in
          search rules,
    )

-- the left group doesn't join its tables, and no other tables are the left side
pub returns-else-eq : goal.returns-else-eq
returns-else-eq c =
    let q = c.args.self.now in
    let never : c.top_group.result ≡ c.args.left → ⊥ = search rules in (
      λ same. absurd (false≢true (sym c.if-eq.false ∙ same)),
      λ (a, b, part, left, right).
          let own : c.tables-tables.result ≡ a = c.tables-tables.ensures ∙ (ap tables_of left ∙ tables_top q a) in
          absurd (never (c.top_group.ensures ∙ (ap (top_of q) own ∙ sym left))),
    )

-- the set doesn't fall into the left group's tables and others
pub returns-in-None : goal.returns-in-None
returns-in-None c =
    let q = c.args.self.now in (
      λ same. absurd (false≢true same),
      λ (a, b, part, left, right).
          let own : a ≡ c.tables-tables.result = sym (c.tables-tables.ensures ∙ (ap tables_of left ∙ tables_top q a)) in
          absurd (c.in-None.ensures b (subst (λ x. FallsInto q c.args.set x b) own part)),
    )
