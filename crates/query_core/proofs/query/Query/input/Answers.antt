use Rattle.std.proofs.Common.{◌≡◌, ◌∙◌, ◌-◌, ◌^◌, ap, sym, subst}
use Rattle.query_core.specs.Keys.{IsGroup, top_of, input_of}
use Rattle.query_core.proofs.Whole.{input_group}
use Rattle.query_core.proofs.query.Query.input.Goals as goal

-- the links connect all tables
pub returns : goal.returns
returns c =
    let all = c.first.ensures ∙ ap (λ n. 2 ^ n - 1) c.len.ensures in
    let same : c.top_group.result ≡ input_of c.args.self.now = c.top_group.ensures ∙ ap (top_of c.args.self.now) all in
    record { value = same; known = subst (IsGroup c.args.self.now) (sym same) (input_group c.args.self.now) }
