-- The texts of tables and columns are cut and told apart in one way.
use Rattle.std.proofs.Common.{◌≡◌, ℕ, ◌<◌, true, List, [], ◌∷◌, ◌++◌, length, map, Some}
use Rattle.std.proofs.Common.{refl, sym, ap, ◌∙◌, arith, bytes_eq, append_assoc}
use Rattle.std.specs.Prelude.{slice_get, nat_lt, codes, ◌==◌}
use Rattle.std.specs.List.{list_all}
use Rattle.std.proofs.lemmas.Bool.{and_parts, and_from, ltb-true, eq-eqb}
use Rattle.std.proofs.lemmas.Bool.Decides.{nat_tests}
use Rattle.std.specs.Option.{option_map}
use Rattle.std.proofs.lemmas.Option.{slice_get-map}
use Rattle.std.proofs.lemmas.Slice.Eq.{bytes_eq-Decides}
use Rattle.orca_base.specs.Name.{begins_name, continues_name, has_name_form}
use Rattle.query_core.specs.Items.{same_column}
use Rattle.query_core.specs.declared.query.Query.{Query}
use Rattle.query_core.specs.declared.table.Item.{Item}
use Rattle.query_core.specs.declared.table.QueryTable.{QueryTable}
use Rattle.query_text.specs.Columns.{table_text, item_text}
use Rattle.plan_reading.proofs.Fronts.{EndsFront}
use Rattle.plan_reading.proofs.Cuts.{cut_once}
use Rattle.plan_reading.proofs.Places.{there, passed_at, one_place}

-- ---- names

continues : (byte : ℕ) → begins_name byte ≡ true → continues_name byte ≡ true
continues byte h = grind (arith, nat_tests)

pub name_continues : (text : List ℕ) → has_name_form text ≡ true → list_all continues_name text ≡ true
name_continues [] h = refl
name_continues (b ∷ text) h = let p = and_parts (begins_name b) (list_all continues_name text) h in
    rw (continues b p.0, p.1) refl

-- a name isn't empty
abbrev pub IsFilled : List ℕ → Type 0
IsFilled [] = ⊥
IsFilled (b ∷ text) = continues_name b ≡ true

pub name_filled : (text : List ℕ) → has_name_form text ≡ true → IsFilled text
name_filled [] h = absurd cc
name_filled (b ∷ text) h = continues b (and_parts (begins_name b) (list_all continues_name text) h).0

-- ---- tables

alias_named : (q : Query) (t : ℕ) (table : QueryTable) → slice_get q.tables t ≡ Some table
    → has_name_form table.alias ≡ true
alias_named q t table got = passed_at (λ x. has_name_form x.alias) q.tables t table q.tables_valid.named got

table_text_is : (q : Query) (t : ℕ) (table : QueryTable) → slice_get q.tables t ≡ Some table → table_text q t ≡ table.alias
table_text_is q t table got = rw got refl

-- an alias is a name
pub table_named : (q : Query) (t : ℕ) → t < length q.tables → has_name_form (table_text q t) ≡ true
table_named q t below = let found = there q.tables t below in
    rw (table_text_is q t found.0 found.1) (alias_named q t found.0 found.1)

alias_at : (q : Query) (t : ℕ) (table : QueryTable) → slice_get q.tables t ≡ Some table
    → slice_get (map (λ z. z.alias) q.tables) t ≡ Some table.alias
alias_at q t table got = slice_get-map (λ z. z.alias) q.tables t ∙ ap (option_map (λ z. z.alias)) got

-- and that of one table
pub table_one : (q : Query) (t u : ℕ) → t < length q.tables → u < length q.tables → table_text q t ≡ table_text q u → t ≡ u
table_one q t u t_below u_below same =
    let x = there q.tables t t_below in
    let y = there q.tables u u_below in
    let alias : x.0.alias ≡ y.0.alias = sym (table_text_is q t x.0 x.1) ∙ same ∙ table_text_is q u y.0 y.1 in
    one_place bytes_eq (map (λ z. z.alias) q.tables) t u x.0.alias y.0.alias q.tables_valid.apart
    (alias_at q t x.0 x.1) (alias_at q u y.0 y.1)
    ((bytes_eq-Decides x.0.alias y.0.alias).1 alias) ((bytes_eq-Decides y.0.alias x.0.alias).1 (sym alias))

-- ---- columns

item_named : (q : Query) (n : ℕ) (item : Item) → slice_get q.items n ≡ Some item → has_name_form item.name ≡ true
item_named q n item got = passed_at (λ x. has_name_form x.name) q.items n item q.items_valid.named got

pub item_placed : (q : Query) (n : ℕ) (item : Item) → slice_get q.items n ≡ Some item → item.table < length q.tables
item_placed q n item got = ltb-true item.table (length q.tables)
    (passed_at (λ x. nat_lt x.table (length q.tables)) q.items n item q.items_valid.placed got)

-- a column's text before another
pub dotted : (alias name r : List ℕ) → ((alias ++ codes ".") ++ name) ++ r ≡ alias ++ (46 ∷ (name ++ r))
dotted alias name r = append_assoc (alias ++ codes ".") name r ∙ append_assoc alias (codes ".") (name ++ r)

items_one : (q : Query) (m n : ℕ) (x y : Item) → slice_get q.items m ≡ Some x → slice_get q.items n ≡ Some y
    → x.table ≡ y.table → x.name ≡ y.name → m ≡ n
items_one q m n x y first second table name =
    one_place same_column q.items m n x y q.items_valid.apart first second
    (and_from (x.table == y.table) (bytes_eq x.name y.name) (eq-eqb x.table y.table table) ((bytes_eq-Decides x.name y.name).1 name))
    (and_from (y.table == x.table) (bytes_eq y.name x.name) (eq-eqb y.table x.table (sym table))
    ((bytes_eq-Decides y.name x.name).1 (sym name)))

-- two columns with equal texts before what can't go on with a name are one
pub columns_one : (q : Query) (m n : ℕ) (x y : Item) (r s : List ℕ) → slice_get q.items m ≡ Some x
    → slice_get q.items n ≡ Some y → EndsFront continues_name r → EndsFront continues_name s
    → item_text q x ++ r ≡ item_text q y ++ s → (m ≡ n) × (r ≡ s)
columns_one q m n x y r s first second r_ends s_ends same =
    let xt = item_placed q m x first in
    let yt = item_placed q n y second in
    let turned : table_text q x.table ++ (46 ∷ (x.name ++ r)) ≡ table_text q y.table ++ (46 ∷ (y.name ++ s)) =
    sym (dotted (table_text q x.table) x.name r) ∙ same ∙ dotted (table_text q y.table) y.name s in
    let alias = cut_once continues_name (table_text q x.table) (table_text q y.table) (46 ∷ (x.name ++ r)) (46 ∷ (y.name ++ s))
    (name_continues (table_text q x.table) (table_named q x.table xt))
    (name_continues (table_text q y.table) (table_named q y.table yt)) refl refl turned in
    let behind : x.name ++ r ≡ y.name ++ s = let e = alias.1 in cc in
    let name = cut_once continues_name x.name y.name r s (name_continues x.name (item_named q m x first))
    (name_continues y.name (item_named q n y second)) r_ends s_ends behind in
    (items_one q m n x y first second (table_one q x.table y.table xt yt alias.0) name.0, name.1)

-- no text of a column is empty
filled_before : (t r : List ℕ) → IsFilled t → IsFilled (t ++ r)
filled_before [] r fits = absurd fits
filled_before (b ∷ t) r fits = fits

pub item_text_filled : (q : Query) (n : ℕ) (item : Item) → slice_get q.items n ≡ Some item → IsFilled (item_text q item)
item_text_filled q n item got =
    filled_before (table_text q item.table ++ codes ".") item.name
    (filled_before (table_text q item.table) (codes ".")
    (name_filled (table_text q item.table) (table_named q item.table (item_placed q n item got))))
