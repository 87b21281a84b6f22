use Rattle.std.proofs.Common.{◌≡◌, ◌∙◌, ap, sym, subst, if◌then◌else◌}
use Rattle.query_core.specs.declared.words.KeyParts.TheVariants.{Agg}
use Rattle.query_core.specs.Keys.{IsGroup, key_number, input_of, root_of}
use Rattle.query_core.proofs.GroupLemmas.{group_in_range}
use Rattle.query_core.proofs.query.Query.root.Goals as goal

pub make-requires-2 : goal.make-requires-2
make-requires-2 c = group_in_range c.args.self.now c.input.result c.input.ensures.known

-- without grouping the root joins all tables
pub returns : goal.returns
returns c =
    let same : c.input.result ≡ root_of c.args.self.now =
    subst (λ b. c.input.result ≡ (if b then Agg else input_of c.args.self.now)) (sym c.if-self.false)
    c.input.ensures.value in
    record {
      number = c.make-2.ensures.number ∙ ap key_number same;
      known = subst (IsGroup c.args.self.now) same c.input.ensures.known;
    }
