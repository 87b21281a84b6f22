use Rattle.std.proofs.Common.{◌≡◌, sym, subst, ap, ◌∙◌}
use Rattle.query_core.specs.Expressions.{HasWord}
use Rattle.query_core.specs.declared.expressions.ExprParts.{ExprParts}
use Rattle.query_core.specs.declared.expressions.Operator.{Operator}
use Rattle.query_core.specs.declared.words.KeyParts.{KeyParts}
use Rattle.query_core.proofs.ExpressionLemmas.{key_read, number_read, index_read, left_read, right_read, children_read}
use Rattle.query_core.proofs.words.Expr.known_parts.Goals as goal

-- each part is what the word has in its place
read : (c : goal.After-over-operator) → (e : ExprParts) → HasWord c.args.self.0 e
    → e ≡ record { group = c.known_parts-group.result; operator = c.over-operator.result }
read c e has =
    let word = c.args.self.0 in
    let group : e.group ≡ c.known_parts-group.result = c.known_parts-group.ensures e.group has.packed.group
    (sym (key_read e word has) ∙ sym c.key_field.ensures) in
    let operator : e.operator ≡ c.over-operator.result = c.over-operator.ensures e.operator
    (number_read e word has ∙ sym c.number_field.ensures) (index_read e word has ∙ sym c.field-3.ensures)
    (children_read _ _ _ has.packed.children
    (λ g in_g is. c.known_child-left.ensures g in_g (is ∙ left_read e word has ∙ sym c.field.ensures))
    (λ g in_g is. c.known_child-right.ensures g in_g (is ∙ right_read e word has ∙ sym c.field-2.ensures))) in
    let make : KeyParts → Operator → ExprParts = λ g o. record { group = g; operator = o } in
    ap (λ g. make g e.operator) group ∙ ap (make c.known_parts-group.result) operator

pub returns-clause-has : goal.returns-clause-has
returns-clause-has c = subst (HasWord c.args.self.0) (read c c.requires.0 c.requires.1) c.requires.1

pub returns-clause-only : goal.returns-clause-only
returns-clause-only c = read c
