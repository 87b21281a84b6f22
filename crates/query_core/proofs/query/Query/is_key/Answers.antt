use Rattle.std.proofs.lemmas.Bool.{false≢true}
use Rattle.query_core.proofs.GroupLemmas.{is_key-group, key_in_range}
use Rattle.query_core.proofs.query.Query.is_key.Goals as goal

-- the key's group is there exactly where the query has it
pub returns-in-Some : goal.returns-in-Some
returns-in-Some c =
    let same = is_key-group c.args.self.now c.args.key c.in-Some.group c.in-Some.ensures.0 c.in-Some.ensures.1 in
    (λ known. same.0 (c.has_group.ensures.0 known), λ found. c.has_group.ensures.1 (same.1 found))

-- no group in range has this number
pub returns-in-None : goal.returns-in-None
returns-in-None c = (
  λ never. absurd (false≢true never),
  λ found. absurd (key_in_range c.args.self.now c.args.key c.in-None.ensures found),
)
