-- The node that a line names is named so.
use Rattle.std.proofs.Common.{◌≡◌, ℕ, ◌≤◌, List, length, refl, sym, ap, ◌∙◌}
use Rattle.query_core.specs.Expressions.{implements, table_in}
use Rattle.query_core.specs.declared.query.Query.{Query}
use Rattle.query_core.specs.declared.words.KeyParts.TheVariants.{Get}
use Rattle.query_core.specs.declared.expressions.Physical.{Physical}
use Rattle.request_props.specs.Numbered.{lists_of}
use Rattle.plan_space.specs.Modes.{mode_at}
use Rattle.plan_space.specs.Ways.{way_of}
use Rattle.plan_space.specs.declared.modes.Mode.{Mode}
use Rattle.plan_space.specs.declared.seen.Kid.{Kid}
use Rattle.plan_reading.specs.Named.{named_of, HasForm, IsOperatorOf}
use Rattle.plan_reading.specs.NodeOver.{node_over, number_in, group_over, group_below, second_group, HasSmallMode}
use Rattle.plan_reading.specs.declared.named.Named.{Named}
use Rattle.plan_reading.specs.declared.named.Named.TheVariants as named
use Rattle.plan_reading.proofs.OperatorRows.{over_again, first_same, table_again}
use Rattle.plan_reading.proofs.SmallModes.{has_number, mode_small}

module _ (q : Query) (few_lists : length (lists_of q) ≤ 60) where
  -- the mode of a node that the query can name is small
  pub form_small : (n : Named) → HasForm q n → HasSmallMode n
  form_small (named.Native o t m) form = mode_small q few_lists (way_of o) t m form.has_mode
  form_small (named.Enforcer e) form = tt

  operator_named : (o : Physical) (t : ℕ) (m : Mode) (kids : List Kid) → IsOperatorOf q o t m
      → named_of (node_over (named.Native o t m) kids) ≡ named.Native o t m
  operator_named o t m kids form =
      let implemented = implements (Get t) o in
      let group = group_over implemented t kids in
      let back = (has_number m (mode_small q few_lists (way_of o) t m form.has_mode)).back in
      ap (λ x. named.Native x (table_in group) (mode_at (number_in m)))
      (over_again o (group_below implemented t kids) (second_group kids) ∙ first_same o form.over_none)
      ∙ ap (λ x. named.Native o x (mode_at (number_in m))) (table_again q o t kids form.has_table)
      ∙ ap (named.Native o t) (sym back)

  -- it is named as it was
  pub form_named : (n : Named) (kids : List Kid) → HasForm q n → named_of (node_over n kids) ≡ n
  form_named (named.Native o t m) kids form = operator_named o t m kids form
  form_named (named.Enforcer e) kids form = refl
