-- The text that is written is that of the dump, and isn't too long to be read.
use Rattle.std.proofs.Common.{◌≡◌, ℕ, ◌+◌, ◌≤◌, ◌^◌, Bool, true, false, List, [], ◌∷◌, codes, decimal, length, Ok, sym}
use Rattle.std.proofs.Common.{ap, subst, ◌∙◌, arith}
use Rattle.std.proofs.lemmas.Fmt.{length-decimal-le}
use Rattle.std.proofs.lemmas.List.{length-append}
use Rattle.query_core.specs.declared.catalog.Catalog.{Catalog}
use Rattle.query_core.specs.declared.options.RootDist.{RootDist}
use Rattle.query_core.specs.declared.options.RootDist.TheVariants.{One, Spread}
use Rattle.sql_reader.specs.declared.syntax.Select.{Select}
use Rattle.catalog_json.specs.Outcome.{most_bytes, reading_of}
use Rattle.catalog_json.specs.declared.version.CatalogVersion.TheVariants.{Two}
use Rattle.catalog_text.specs.Text.{catalog_text}
use Rattle.command_line.specs.Numbers.{IsWithin}
use Rattle.dump_replay.specs.Lines.{capacity_line, catalog_line, lines_text, off_line, print_line, query_line, root_line}
use Rattle.dump_replay.specs.Lines.{version_line}
use Rattle.dump_replay.specs.Named.{dumped_catalog, named_catalog}
use Rattle.dump_replay.specs.Dumps.{AreDumpOptions, IsDumpOf, IsShort, text_of}
use Rattle.dump_replay.specs.declared.dump.DumpOptions.{DumpOptions}
use Rattle.dump_replay.proofs.OneLine.{catalog_one_line}
use Rattle.dump_replay.proofs.OffLines.{off_short}

-- ---- how long the lines are

capacity_short : (n : ℕ) → IsWithin 64 1048576 n → length (capacity_line n) ≤ 16
capacity_short n within = omega (
  arith,
  length-append (codes "capacity ") (decimal n),
  length-decimal-le 7 n (omega arith) (omega (arith, within.to)) (omega (arith, within.to)),
)

root_short : (root : RootDist) → length (root_line root) ≤ 11
root_short One = omega arith
root_short Spread = omega arith

print_short : (memo trace : Bool) → length (print_line memo trace) ≤ 16
print_short false false = omega arith
print_short true false = omega arith
print_short false true = omega arith
print_short true true = omega arith

-- a line more
line_longer : (line : List ℕ) (others : List (List ℕ)) (a b : ℕ) → length line ≤ a → length (lines_text others) ≤ b
    → length (lines_text (line ∷ others)) ≤ a + 1 + b
line_longer line others a b within rest = omega (arith, length-append line (10 ∷ lines_text others))

text_short : (options : DumpOptions) (catalog query : List ℕ) → AreDumpOptions options → length catalog ≤ most_bytes
    → length query ≤ 2 ^ 16 → IsShort (text_of options catalog query)
unfolding text_of
text_short options catalog query are few fewer =
    let from_query : List (List ℕ) = query_line query ∷ [] in
    let from_catalog : List (List ℕ) = catalog_line catalog ∷ from_query in
    let from_print : List (List ℕ) = print_line options.memo options.trace ∷ from_catalog in
    let from_off : List (List ℕ) = off_line options.options.off ∷ from_print in
    let from_root : List (List ℕ) = root_line options.options.root ∷ from_off in
    let of_query = line_longer (query_line query) [] 65542 0 (omega (arith, length-append (codes "query ") query))
    (omega arith) in
    let of_catalog = line_longer (catalog_line catalog) from_query 1048584 65543
    (omega (arith, length-append (codes "catalog ") catalog)) of_query in
    let of_print = line_longer (print_line options.memo options.trace) from_catalog 16 1114128
    (print_short options.memo options.trace) of_catalog in
    let of_off = line_longer (off_line options.options.off) from_print 1028 1114145 (off_short options.options.off)
    of_print in
    let of_root = line_longer (root_line options.options.root) from_off 11 1115174 (root_short options.options.root)
    of_off in
    let of_capacity = line_longer (capacity_line options.capacity) from_root 16 1115186
    (capacity_short options.capacity are.capacity) of_root in
    let whole = line_longer version_line (capacity_line options.capacity ∷ from_root) 11 1115203 (omega arith)
    of_capacity in
    at_most (length (lines_text (version_line ∷ capacity_line options.capacity ∷ from_root))) whole
  where
    at_most : (n : ℕ) → n ≤ 1115215 → n ≤ 1179648
    at_most n few_bytes = omega arith

-- ---- the dump

pub dumped : (select : Select) (catalog : Catalog) (query : List ℕ) (options : DumpOptions) (named : Catalog)
    (middle text : List ℕ) → length query ≤ 2 ^ 16 → AreDumpOptions options → named ≡ named_catalog select catalog
    → middle ≡ catalog_text Two named → length middle ≤ most_bytes → reading_of middle ≡ Ok named
    → text ≡ text_of options middle query
    → (length (dumped_catalog select catalog) ≤ most_bytes) × IsDumpOf select catalog query options text
dumped select catalog query options named middle text fewer are is_named is_middle few reads is_text =
    let same : middle ≡ dumped_catalog select catalog = is_middle ∙ ap (catalog_text Two) is_named in
    let within : length (dumped_catalog select catalog) ≤ most_bytes =
    subst (λ (m : List ℕ). length m ≤ most_bytes) same few in
    let written : text ≡ text_of options (dumped_catalog select catalog) query =
    is_text ∙ ap (λ (m : List ℕ). text_of options m query) same in (
      within,
      record {
        says = record {
          options = are;
          one_line = catalog_one_line Two (named_catalog select catalog);
          is_text = written;
        };
        short = subst IsShort (sym written) (text_short options (dumped_catalog select catalog) query are within fewer);
        catalogue = ap reading_of (sym same) ∙ reads ∙ ap Ok is_named;
      },
    )
