use Rattle.std.proofs.Common.{◌≡◌, ◌++◌, ◌∷◌, [], true, false, sym, ◌∙◌, rules}
use Rattle.sql_reader.specs.Lexing.{is_open}
use Rattle.sql_reader.specs.Adding.{called_token}
use Rattle.sql_reader.proofs.Added.{added_plain, added_open}
use Rattle.sql_reader.proofs.lexer.add.Goals as goal

-- behind another token it is just added
pub returns-then-not-is_open_kind : goal.returns-then-not-is_open_kind
returns-then-not-is_open_kind c =
    let plain : is_open c.args.token.kind ≡ false = search rules in
    let pushed : c.push.new.self.items ≡ c.args.tokens.now.items ++ c.args.token ∷ [] = search rules in
    pushed ∙ sym (added_plain c.args.tokens.now.items c.args.token plain)

-- before `(` the last is what is called
pub returns-in-Some : goal.returns-in-Some
returns-in-Some c =
    let opens : is_open c.args.token.kind ≡ true = search rules in
    let parts : c.args.tokens.now.items ≡ c.pop.new.self.items ++ c.in-Some.last ∷ [] = search rules in
    let changed : c.push-in-Some.new.self.items ≡ c.pop.new.self.items ++ called_token c.in-Some.last ∷ [] =
    search rules in
    let pushed : c.push-in-Some-2.new.self.items ≡ c.push-in-Some.new.self.items ++ c.args.token ∷ [] = search rules in
    rw (pushed, changed, parts) (sym (added_open c.pop.new.self.items c.in-Some.last c.args.token opens))
