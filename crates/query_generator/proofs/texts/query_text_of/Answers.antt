use Rattle.query_generator.specs.Select.{select_of}
use Rattle.query_generator.proofs.SelectKept.{select_kept}
use Rattle.query_generator.proofs.TextsRead.{query_said}
use Rattle.query_generator.proofs.texts.query_text_of.Goals as goal

-- the query can be spelled, so its text is read again
pub returns : goal.returns
returns c = query_said (λ v. v.items) c.args.tables c.args.shape c.in_ok-select.select c.print_sql.result c.requires.0
    c.requires.1 c.in_ok-select.ensures
    (c.reads_again.ensures.read (select_of c.args.shape c.args.tables)
    (select_kept c.args.shape c.args.tables c.requires.0 c.requires.1)) c.print_sql.ensures
