use Rattle.std.proofs.Common.{◌∙◌, ℕ, List, ◌++◌, ap, sym, subst, IsUtf8}
use Rattle.json.specs.Lex.{tokens}
use Rattle.json.specs.Print.{print}
use Rattle.json.specs.Token.{Token}
use Rattle.json.specs.Tree.{json_tokens}
use Rattle.catalog_text.specs.Text.{catalog_json}
use Rattle.catalog_text.proofs.Back.{read_back}
use Rattle.catalog_text.proofs.text.write_catalog.Goals as goal

-- the bytes are the text of these tokens
pub returns-clause-reads_back : goal.returns-clause-reads_back
returns-clause-reads_back c =
    let wrote = c.in_ok-write_value.ensures in
    let before = wrote.added.before ∙ c.new-out.ensures.before ∙ c.new.ensures.items in
    let same = c.into_inner.ensures.items ∙ ap (λ (front : List ℕ). front ++ print c.write_value.new.out.tokens)
    before in
    λ short. read_back c.args.version c.into_inner.result.items c.args.catalog.now c.requires.kept
    c.requires.said wrote.fits
    (ap tokens same ∙ c.into_inner.ensures.reads_back ∙ wrote.added.tokens
    ∙ ap (λ (ts : List Token). ts ++ json_tokens (catalog_json c.args.version c.args.catalog.now))
    c.new-out.ensures.tokens)
    (subst IsUtf8 (sym same) c.into_inner.ensures.utf8) short
