-- The text of a dump is of the form.
use Rattle.std.proofs.Common.{◌≡◌, ℕ, ◌==◌, Bool, true, false, cond, get_or, length, nat_le, List, [], ◌∷◌, ◌++◌, drop, refl, sym, ap, ◌∙◌}
use Rattle.std.proofs.Common.{arith}
use Rattle.std.proofs.lemmas.Fmt.{decimal_injective}
use Rattle.std.proofs.lemmas.List.{append_cancel_right}
use Rattle.query_core.specs.declared.options.RootDist.{RootDist}
use Rattle.query_core.specs.declared.options.RootDist.TheVariants.{One, Spread}
use Rattle.dump_replay.specs.Lines.{version_line, capacity_line, root_line, off_line, print_line, catalog_line, query_line}
use Rattle.dump_replay.specs.Lines.{all_lines, lines_text}
use Rattle.command_line.specs.Numbers.{IsWithin}
use Rattle.query_stage.specs.OffRules.{MayBeOff}
use Rattle.dump_replay.specs.Dumps.{AreDumpOptions, AreFirst, IsDump, text_of}
use Rattle.dump_replay.specs.declared.dump.DumpOptions.{DumpOptions}
use Rattle.dump_replay.specs.declared.dump.Dump.{Dump}
use Rattle.dump_replay.proofs.Cuts.{IsOneLine, one_cut}
use Rattle.dump_replay.proofs.OneLine.{decimal_one_line}
use Rattle.dump_replay.proofs.OffLines.{off_one_line, line_says, one_set}

-- ---- lines without a newline

capacity_one_line : (n : ℕ) → IsOneLine (capacity_line n)
capacity_one_line n = decimal_one_line n

root_one_line : (root : RootDist) → IsOneLine (root_line root)
root_one_line One = refl
root_one_line Spread = refl

print_one_line : (memo trace : Bool) → IsOneLine (print_line memo trace)
print_one_line false false = refl
print_one_line true false = refl
print_one_line false true = refl
print_one_line true true = refl

-- ---- the lines of a dump

-- the rules of a dump may be off
rules_may : (options : DumpOptions) → AreDumpOptions options → MayBeOff options.options.off
rules_may options are = record { below = are.options.below; expansion_on = are.options.expansion_on }

-- they stand in its text, one behind the other
pub lines_are_first : (text : List ℕ) (dump : Dump) → IsDump text dump → AreFirst all_lines text []
unfolding text_of
lines_are_first text dump is =
    let o = dump.options in
    let at_query : List ℕ = lines_text (query_line dump.query ∷ []) in
    let at_catalog : List ℕ = lines_text (catalog_line dump.catalog ∷ query_line dump.query ∷ []) in
    let at_print : List ℕ = print_line o.memo o.trace ++ (10 ∷ at_catalog) in
    let at_off : List ℕ = off_line o.options.off ++ (10 ∷ at_print) in
    let at_root : List ℕ = root_line o.options.root ++ (10 ∷ at_off) in
    let at_capacity : List ℕ = capacity_line o.capacity ++ (10 ∷ at_root) in (
      version_line,
      at_capacity,
      record { form = refl; ends = refl; begins = is.is_text },
      (
        capacity_line o.capacity,
        at_root,
        record {
          form = (o.capacity, is.options.capacity, refl);
          ends = capacity_one_line o.capacity;
          begins = refl;
        },
        (
          root_line o.options.root,
          at_off,
          record { form = (o.options.root, refl); ends = root_one_line o.options.root; begins = refl },
          (
            off_line o.options.off,
            at_print,
            record {
              form = (o.options.off, rules_may o is.options, refl);
              ends = off_one_line o.options.off;
              begins = refl;
            },
            (
              print_line o.memo o.trace,
              at_catalog,
              record { form = (o.memo, o.trace, refl); ends = print_one_line o.memo o.trace; begins = refl },
              (
                catalog_line dump.catalog,
                at_query,
                record { form = (dump.catalog, refl); ends = is.one_line; begins = refl },
                (
                  query_line dump.query,
                  [],
                  record { form = (dump.query, refl); ends = refl; begins = refl },
                  refl,
                ),
              ),
            ),
          ),
        ),
      ),
    )

-- ---- what lines say

root_said : (root : RootDist) → root ≡ cond (get_or (root_line root) 5 0 == 111) One Spread
root_said One = refl
root_said Spread = refl

memo_said : (memo trace : Bool) → memo ≡ (get_or (print_line memo trace) 6 0 == 109)
memo_said false false = refl
memo_said true false = refl
memo_said false true = refl
memo_said true true = refl

trace_said : (memo trace : Bool) → trace ≡ nat_le 11 (length (print_line memo trace))
trace_said false false = refl
trace_said true false = refl
trace_said false true = refl
trace_said true true = refl

same_root : (a b : RootDist) → root_line a ≡ root_line b → a ≡ b
same_root a b same = root_said a ∙ ap (λ (t : List ℕ). cond (get_or t 5 0 == 111) One Spread) same ∙ sym (root_said b)

same_memo : (a b c d : Bool) → print_line a b ≡ print_line c d → a ≡ c
same_memo a b c d same = memo_said a b ∙ ap (λ (t : List ℕ). get_or t 6 0 == 109) same ∙ sym (memo_said c d)

same_trace : (a b c d : Bool) → print_line a b ≡ print_line c d → b ≡ d
same_trace a b c d same = trace_said a b ∙ ap (λ (t : List ℕ). nat_le 11 (length t)) same ∙ sym (trace_said c d)

same_capacity : (a b : ℕ) → IsWithin 64 1048576 a → IsWithin 64 1048576 b → capacity_line a ≡ capacity_line b → a ≡ b
same_capacity a b in_a in_b same =
    decimal_injective a b (omega (arith, in_a.to)) (omega (arith, in_b.to)) (ap (drop 9) same)

same_off : (a b : ℕ) → MayBeOff a → MayBeOff b → off_line a ≡ off_line b → a ≡ b
same_off a b may_a may_b same = one_set (off_line a) a b (line_says (off_line a) a may_a refl)
    (line_says (off_line a) b may_b same)

-- ---- one dump

-- a dump of these parts
abbrev dump_with : ℕ → RootDist → ℕ → Bool → Bool → List ℕ → List ℕ → Dump
dump_with room dist set memo trace named asked = record {
  options = record { capacity = room; options = record { root = dist; off = set }; memo = memo; trace = trace };
  catalog = named;
  query = asked;
}

-- a dump that is made of the same parts is the same
same_made : (room room' : ℕ) (dist dist' : RootDist) (set set' : ℕ) (memo memo' trace trace' : Bool)
    (named named' asked asked' : List ℕ) → room ≡ room' → dist ≡ dist' → set ≡ set' → memo ≡ memo' → trace ≡ trace'
    → named ≡ named' → asked ≡ asked'
    → dump_with room dist set memo trace named asked ≡ dump_with room' dist' set' memo' trace' named' asked'
same_made room room' dist dist' set set' memo memo' trace trace' named named' asked asked' e f g h i j k =
    rw (e, f, g, h, i, j, k) refl

-- a text says one dump
pub same_dump : (text : List ℕ) (a b : Dump) → IsDump text a → IsDump text b → a ≡ b
unfolding text_of
same_dump text a b x y =
    let o = a.options in
    let p = b.options in
    let version = one_cut version_line version_line _ _ refl refl (sym x.is_text ∙ y.is_text) in
    let capacity = one_cut (capacity_line o.capacity) (capacity_line p.capacity) _ _ (capacity_one_line o.capacity)
    (capacity_one_line p.capacity) version.1 in
    let root = one_cut (root_line o.options.root) (root_line p.options.root) _ _ (root_one_line o.options.root)
    (root_one_line p.options.root) capacity.1 in
    let off = one_cut (off_line o.options.off) (off_line p.options.off) _ _ (off_one_line o.options.off)
    (off_one_line p.options.off) root.1 in
    let print = one_cut (print_line o.memo o.trace) (print_line p.memo p.trace) _ _ (print_one_line o.memo o.trace)
    (print_one_line p.memo p.trace) off.1 in
    let catalog = one_cut (catalog_line a.catalog) (catalog_line b.catalog) _ _ x.one_line y.one_line print.1 in
    let query_text : a.query ≡ b.query =
    ap (drop 6) (append_cancel_right (query_line a.query) (query_line b.query) (10 ∷ []) catalog.1) in
    let catalog_text : a.catalog ≡ b.catalog = ap (drop 8) catalog.0 in
    let same_room : o.capacity ≡ p.capacity =
    same_capacity o.capacity p.capacity x.options.capacity y.options.capacity capacity.0 in
    let roots : o.options.root ≡ p.options.root = same_root o.options.root p.options.root root.0 in
    let offs : o.options.off ≡ p.options.off = same_off o.options.off p.options.off (rules_may o x.options)
    (rules_may p y.options) off.0 in
    let memos : o.memo ≡ p.memo = same_memo o.memo o.trace p.memo p.trace print.0 in
    let traces : o.trace ≡ p.trace = same_trace o.memo o.trace p.memo p.trace print.0 in
    same_made o.capacity p.capacity o.options.root p.options.root o.options.off p.options.off o.memo p.memo o.trace
    p.trace a.catalog b.catalog a.query b.query same_room roots offs memos traces catalog_text query_text
