-- The text of a read tells its table, its index and its mode.
use Rattle.std.proofs.Common.{◌≡◌, ℕ, ◌<◌, ◌^◌, List, ◌∷◌, ◌++◌, length, drop, refl, sym, ap, ◌∙◌}
use Rattle.std.proofs.Common.{append_assoc, decimal, subst}
use Rattle.std.specs.Char.{is_ascii_digit}
use Rattle.std.specs.Prelude.{codes}
use Rattle.std.proofs.lemmas.List.{append_cancel_right}
use Rattle.std.proofs.lemmas.Fmt.{decimal_injective}
use Rattle.std.proofs.lemmas.Option.{slice_get_within}
use Rattle.orca_base.specs.Name.{continues_name}
use Rattle.query_core.specs.Expressions.{HasIndex}
use Rattle.query_core.specs.declared.expressions.Access.TheVariants.{Index}
use Rattle.query_core.specs.declared.query.Query.{Query}
use Rattle.query_text.specs.Columns.{table_text}
use Rattle.plan_space.specs.Lines.{is_replicated}
use Rattle.plan_space.specs.declared.modes.Mode.{Mode}
use Rattle.plan_lines.specs.Text.{place_text}
use Rattle.plan_reading.specs.Named.{HasReadForm}
use Rattle.plan_reading.proofs.BareWords.{decimal_digits}
use Rattle.plan_reading.proofs.Behind.{read_words}
use Rattle.plan_reading.proofs.Columns.{table_one, table_named, name_continues}
use Rattle.plan_reading.proofs.Cuts.{cut_once}
use Rattle.plan_reading.proofs.ReadTexts.{read_ends, read_one}

module _ (q : Query) where
  pub tables_one : (t u : ℕ) → t < length q.tables → u < length q.tables → table_text q t ++ codes ")" ≡ table_text q u ++ codes ")"
      → t ≡ u
  tables_one t u t_below u_below same =
      table_one q t u t_below u_below (append_cancel_right (table_text q t) (table_text q u) (codes ")") same)

  -- the rows of one table, read in one way
  pub record AreOneRead (t u : ℕ) (m n : Mode) : Type 0 where
    pub table : t ≡ u
    pub mode : m ≡ n

  -- a table, and a read of it, before a bracket
  abbrev read_end : ℕ → Mode → List ℕ
  read_end t m = read_words (is_replicated q t) m ++ codes ")"

  modes_one : (t u : ℕ) (m n : Mode) → HasReadForm q t m → HasReadForm q u n → t ≡ u → read_end t m ≡ read_end u n
      → m ≡ n
  modes_one t u m n in_m in_n table same =
      read_one q u m n (subst (λ x. HasReadForm q x m) table in_m) in_n (sym (ap (λ x. read_end x m) table) ∙ same)

  pub reads_one : (t u : ℕ) (m n : Mode) → t < length q.tables → u < length q.tables → HasReadForm q t m → HasReadForm q u n
      → table_text q t ++ read_words (is_replicated q t) m ++ codes ")" ≡ table_text q u ++ read_words (is_replicated q u) n ++ codes ")"
      → AreOneRead t u m n
  reads_one t u m n t_below u_below in_m in_n same =
      let turned : table_text q t ++ read_end t m ≡ table_text q u ++ read_end u n =
      sym (append_assoc (table_text q t) (read_words (is_replicated q t) m) (codes ")")) ∙ same
      ∙ append_assoc (table_text q u) (read_words (is_replicated q u) n) (codes ")") in
      let cut = cut_once continues_name (table_text q t) (table_text q u) (read_end t m) (read_end u n)
      (name_continues (table_text q t) (table_named q t t_below))
      (name_continues (table_text q u) (table_named q u u_below)) (read_ends continues_name refl refl q t m)
      (read_ends continues_name refl refl q u n) turned in
      let table = table_one q t u t_below u_below cut.0 in
      record { table = table; mode = modes_one t u m n in_m in_n table cut.1 }

  -- by one index of one table, in one way
  pub record AreOneIndex (t i u j : ℕ) (m n : Mode) : Type 0 where
    pub table : t ≡ u
    pub index : i ≡ j
    pub mode : m ≡ n

  -- what is behind the alias of an index's table
  abbrev index_end : ℕ → ℕ → Mode → List ℕ
  index_end t i m = 44 ∷ 32 ∷ 105 ∷ (decimal i ++ read_end t m)

  index_turned : (t i : ℕ) (m : Mode)
      → place_text q t (Index i) ++ read_words (is_replicated q t) m ++ codes ")" ≡ table_text q t ++ index_end t i m
  index_turned t i m =
      append_assoc (place_text q t (Index i)) (read_words (is_replicated q t) m) (codes ")")
      ∙ append_assoc (table_text q t ++ codes ", i") (decimal i) (read_end t m)
      ∙ append_assoc (table_text q t) (codes ", i") (decimal i ++ read_end t m)

  pub indexes_one : ((t i : ℕ) → HasIndex q t i → i < 2 ^ 64) → (t i u j : ℕ) (m n : Mode) → HasIndex q t i → HasIndex q u j → HasReadForm q t m → HasReadForm q u n
      → place_text q t (Index i) ++ read_words (is_replicated q t) m ++ codes ")" ≡ place_text q u (Index j) ++ read_words (is_replicated q u) n ++ codes ")"
      → AreOneIndex t i u j m n
  indexes_one index_few t i u j m n has has' in_m in_n same =
      let t_below = slice_get_within q.tables t has.0 has.1 in
      let u_below = slice_get_within q.tables u has'.0 has'.1 in
      let turned = sym (index_turned t i m) ∙ same ∙ index_turned u j n in
      let cut = cut_once continues_name (table_text q t) (table_text q u) (index_end t i m) (index_end u j n)
      (name_continues (table_text q t) (table_named q t t_below))
      (name_continues (table_text q u) (table_named q u u_below)) refl refl turned in
      let number = cut_once is_ascii_digit (decimal i) (decimal j) (read_end t m) (read_end u n) (decimal_digits i)
      (decimal_digits j) (read_ends is_ascii_digit refl refl q t m) (read_ends is_ascii_digit refl refl q u n)
      (ap (drop 3) cut.1) in
      let table = table_one q t u t_below u_below cut.0 in
      record {
        table = table;
        index = decimal_injective i j (index_few t i has) (index_few u j has') number.0;
        mode = modes_one t u m n in_m in_n table number.1;
      }
