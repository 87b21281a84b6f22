use Rattle.std.proofs.Common.{◌≡◌, ℕ, List, ap, subst, sym, ◌∙◌, rules}
use Rattle.request_props.specs.Found.{elements_of}
use Rattle.request_props.specs.Numbered.{IsNumbered, order_of, order_among}
use Rattle.request_props.specs.Lying.{OrderLiesIn}
use Rattle.request_props.proofs.Keys.{keys_lie, lie_keys}
use Rattle.request_props.proofs.props.Props.keys_fit.Goals as goal

-- the keys are those of the order
pub returns-then-has_order : goal.returns-then-has_order
returns-then-has_order c =
    let q = c.args.query.now in
    let group = c.args.group in
    let keys = c.order.result.now in
    let lists = c.requires.order_lists in
    let same : elements_of keys ≡ order_of q c.args.order = c.order.ensures
    ∙ ap (λ orders. order_among orders c.args.order) lists in
    let numbered : IsNumbered q c.args.order = search rules in (
      λ yes. record {
        numbered = numbered;
        lies_in = subst (λ (order : List ℕ). OrderLiesIn q group order) same
            (keys_lie q group keys (c.keys_lie_in.ensures.0 yes));
      },
      λ fits. c.keys_lie_in.ensures.1 (lie_keys q group keys
          (subst (λ (order : List ℕ). OrderLiesIn q group order) (sym same) fits.lies_in)),
    )
