-- The statement has what binding asks of one.
use Rattle.std.proofs.Common.{◌≡◌, refl, sym, subst, lit≤}
use Rattle.sql_reader.specs.Readable.{IsReadable}
use Rattle.sql_reader.specs.Spellable.{IsSpellable}
use Rattle.sql_reader.specs.Words.{word_of}
use Rattle.sql_reader.specs.declared.syntax.Select.{Select}
use Rattle.embedding.specs.Statement.{statement}

-- its names have the form of a name and are no reserved words
statement_spelled : IsSpellable statement
unfolding word_of
statement_spelled = record {
  items = ((((refl, refl, refl), (refl, refl, refl)), tt), ((tt, (refl, refl, refl)), tt));
  from = (((refl, refl, refl), tt), (((refl, refl, refl), tt), tt));
  preds = ((((refl, refl, refl), (refl, refl, refl)), ((refl, refl, refl), (refl, refl, refl))), tt);
  group_by = (((refl, refl, refl), (refl, refl, refl)), tt);
  order_by = tt;
}

-- there are few parts, and some elements and tables
statement_readable : IsReadable statement
statement_readable = record {
  some_items = lit≤ tt;
  few_items = lit≤ tt;
  items = refl;
  some_tables = lit≤ tt;
  few_tables = lit≤ tt;
  tables = refl;
  few_preds = lit≤ tt;
  few_columns = lit≤ tt;
  few_keys = lit≤ tt;
  spellable = statement_spelled;
}

pub made_readable : (made : Select) → made ≡ statement → IsReadable made
made_readable made same = subst IsReadable (sym same) statement_readable
