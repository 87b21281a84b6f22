-- How many columns the parts use before they are judged, and what the outcome of a binding rests on.
use Rattle.std.proofs.Common.{◌≡◌, ◌≢◌, ℕ, suc, ◌≤◌, ◌+◌, ◌&&◌, Bool, true, false, cond, List, [], ◌∷◌, length, nat_le}
use Rattle.std.proofs.Common.{◌*◌, length-append, Ok, Err, refl, arith}
use Rattle.std.specs.List.{AllByRecursion}
use Rattle.std.proofs.lemmas.Bool.Decides.{nat_tests}
use Rattle.std.proofs.lemmas.Bool.{and_parts}
use Rattle.query_core.specs.declared.catalog.Catalog.{Catalog}
use Rattle.query_core.specs.declared.options.Options.{Options}
use Rattle.sql_reader.specs.declared.syntax.Select.{Select}
use Rattle.sql_bind.specs.declared.fault.BindFault.{BindFault}
use Rattle.sql_bind.specs.declared.fault.BindFault.TheVariants.{Memory}
use Rattle.sql_bind.specs.declared.columns.Column.{Column}
use Rattle.sql_bind.specs.declared.parts.Parts.{Parts}
use Rattle.sql_bind.specs.Scope.{FromTable}
use Rattle.sql_bind.specs.Columns.{is_among}
use Rattle.sql_bind.specs.SelectList.{chosen_in}
use Rattle.sql_bind.specs.Parts.{parts_of}
use Rattle.sql_bind.specs.Used.{UsedColumn, used_by, used_from, wanted_by}
use Rattle.sql_bind.specs.Grouping.{judged}
use Rattle.sql_bind.specs.NamedParts.{AreNamed}
use Rattle.sql_bind.specs.Binding.{binding}
use Rattle.orca_base.proofs.Checked.{each_counts}
use Rattle.sql_bind.proofs.ScopeKept.{scope_counts, scope_kept}
use Rattle.query_core.specs.declared.catalog.ColumnInfo.{ColumnInfo}
use Rattle.sql_bind.specs.Used.{used_in}
use Rattle.sql_bind.specs.Columns.{column}
use Rattle.sql_bind.proofs.ItemsKept.{IsFromCatalogue}
use Rattle.sql_bind.proofs.Named.{parts_bound}
use Rattle.sql_bind.proofs.NamedThere.{all_used, used_is}
use Rattle.sql_bind.proofs.Valid.{IsValid, valid}

within_1000 : (n : ℕ) → (nat_le 1 n && nat_le n 1000) ≡ true → n ≤ 1000
within_1000 n e = let high = and_parts (nat_le 1 n) (nat_le n 1000) e in grind (arith, nat_tests)

shorter_case : (u : UsedColumn) (us : List UsedColumn) (n : ℕ) (b : Bool) → length us ≤ n
    → length (cond b (u ∷ us) us) ≤ suc n
shorter_case u us n true le = omega arith
shorter_case u us n false le = omega arith

in_count : (wanted : List Column) (table place : ℕ) (infos : List ColumnInfo)
    → length (used_in wanted table place infos) ≤ length infos
in_count wanted table place [] = omega arith
in_count wanted table place (info ∷ infos) =
    shorter_case (record { which = column table place; info = info }) (used_in wanted table (place + 1) infos)
    (length infos) (is_among wanted (column table place)) (in_count wanted table (place + 1) infos)

from_count : (wanted : List Column) (base : ℕ) (scope : List FromTable) → AllByRecursion IsFromCatalogue scope
    → length (used_from wanted base scope) ≤ 1000 * length scope
from_count wanted base [] from = omega arith
from_count wanted base (t ∷ ts) from =
    let wide : length t.info.columns ≤ 1000 = within_1000 (length t.info.columns) from.0.width in
    omega (
      arith,
      length-append (used_in wanted base 0 t.info.columns) (used_from wanted (base + 1) ts),
      in_count wanted base 0 t.info.columns,
      wide,
      from_count wanted (base + 1) ts from.1,
    )

-- ---- the outcome

pub at_least_1 : (n : ℕ) → (nat_le 1 n && nat_le n 1000) ≡ true → 1 ≤ n
at_least_1 n e = let low = and_parts (nat_le 1 n) (nat_le n 1000) e in grind (arith, nat_tests)

pub at_most_1000 : (n : ℕ) → (nat_le 1 n && nat_le n 1000) ≡ true → n ≤ 1000
at_most_1000 n e = within_1000 n e

-- a name is refused
pub no_parts : (select : Select) (catalog : Catalog) (fault raised : BindFault)
    → (fault ≢ Memory → parts_of select catalog ≡ Err fault) → raised ≡ fault → raised ≢ Memory
    → binding select catalog ≡ Err raised
unfolding binding
no_parts select catalog fault raised given same other = rw (same, given (rw (← same) other)) refl

module _ {select : Select} {catalog : Catalog} {options : Options} {p : Parts} (are : AreNamed select catalog options p)
  where
    pub bounded : (length (used_by p) ≤ 10000) × (length p.chosen ≤ 60)
    bounded =
        let bound = parts_bound select catalog p are.named in
        let count : length (all_used p) ≤ 1000 * length p.scope =
        from_count (wanted_by p) 0 p.scope (scope_kept catalog are.catalogue select.from p.scope are.readable.tables
        bound.scope).infos in
        let tables : length p.scope ≡ length select.from = scope_counts catalog select.from p.scope bound.scope in (
          rw (used_is p) (omega (arith, count, tables, are.readable.few_tables)),
          rw (each_counts (chosen_in p.scope) select.items p.chosen bound.chosen) are.readable.few_items,
        )

    -- the parts are refused
    pub is_refused : (fault raised : BindFault) → judged p ≡ Err fault → raised ≡ fault → raised ≢ Memory
        → binding select catalog ≡ Err raised
    unfolding binding
    is_refused fault raised refused same other = rw (same, are.named, refused) refl

    -- the parts are good
    pub is_bound : judged p ≡ Ok p → binding select catalog ≡ Ok p
    unfolding binding
    is_bound good = rw (are.named, good) refl

    -- and then their query is valid
    pub is_valid : judged p ≡ Ok p → IsValid p (used_by p)
    is_valid good = valid select catalog p are.readable are.catalogue (is_bound good)
