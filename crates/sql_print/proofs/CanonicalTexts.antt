-- The parts of a canonical text are pieces, which spell the part's kinds.
use Rattle.std.proofs.Common.{◌≡◌, ℕ, suc, Bool, true, false, cond, List, [], ◌∷◌, ◌++◌, Some, ℤ, pos}
use Rattle.std.proofs.Common.{negsuc, refl, ap, subst, ◌∙◌, append_assoc, arith}
use Rattle.std.specs.Prelude.{codes}
use Rattle.std.specs.List.{list_all, flat_map}
use Rattle.std.specs.Fmt.{decimal, signed_decimal}
use Rattle.std.proofs.lemmas.Int.{ints}
use Rattle.std.proofs.lemmas.Bool.{and_parts}
use Rattle.orca_base.specs.Name.{continues_name}
use Rattle.sql_reader.specs.declared.tokens.Mark.{Mark}
use Rattle.sql_reader.specs.declared.tokens.Mark.TheVariants as marks
use Rattle.sql_reader.specs.declared.tokens.Kind.{Kind}
use Rattle.sql_reader.specs.declared.tokens.Kind.TheVariants as kinds
use Rattle.sql_reader.specs.declared.syntax.SelOp.{SelOp}
use Rattle.sql_reader.specs.declared.syntax.SelOp.TheVariants as ops
use Rattle.sql_reader.specs.declared.syntax.SelOperand.{SelOperand}
use Rattle.sql_reader.specs.declared.syntax.SelOperand.TheVariants as operands
use Rattle.sql_reader.specs.declared.syntax.SelPred.{SelPred}
use Rattle.sql_reader.specs.declared.syntax.SelKey.{SelKey}
use Rattle.sql_reader.specs.declared.syntax.Select.{Select}
use Rattle.sql_reader.specs.Pieces.{integer, quoted, is_quote, doubled}
use Rattle.sql_reader.specs.Lexing.{signed}
use Rattle.sql_print.specs.Canonical.{column_text, item_text}
use Rattle.sql_print.specs.Canonical.{table_text, op_text, operand_text, pred_text, direction_text, key_text, listed}
use Rattle.sql_print.specs.Canonical.{clause, canonical_text}
use Rattle.sql_reader.proofs.Printable.{shown_plain}
use Rattle.sql_reader.specs.Spellable.{is_plain, IsSpellableNumber, IsSpellableColumn}
use Rattle.sql_reader.specs.Spellable.{IsSpellableItem, IsSpellableTable}
use Rattle.sql_reader.specs.Spellable.{IsSpellableOperand, IsSpellablePred, IsSpellableKey, Each, OneOrMore}
use Rattle.sql_reader.specs.Spellable.{IsSpellable}
use Rattle.sql_print.proofs.CanonicalKinds.{column_kinds, item_kinds, table_kinds}
use Rattle.sql_print.proofs.CanonicalKinds.{op_mark, operand_kinds, pred_kinds, direction_kinds, key_kinds}
use Rattle.sql_print.proofs.CanonicalKinds.{others_kinds, list_kinds, clause_kinds, group_words, order_words}
use Rattle.sql_print.proofs.CanonicalKinds.{query_kinds}
use Rattle.sql_print.proofs.DecimalTexts.{decimal_spells, digits_plain}
use Rattle.sql_print.proofs.Printed.{Safe, Any, Printed, joined, nothing, one_printed}
use Rattle.sql_print.proofs.CanonicalWords.{comma_printed}
use Rattle.sql_print.proofs.CanonicalWords.{and_printed, from_printed, where_printed, group_printed}
use Rattle.sql_print.proofs.CanonicalWords.{order_printed, select_printed, desc_printed, op_printed}
use Rattle.sql_print.proofs.CanonicalItemTexts.{column_printed, item_printed, table_printed}

-- ---- operands, predicates and keys

number_printed : (z : ℤ) → IsSpellableNumber z → Printed Safe (signed_decimal z) (kinds.Integer z ∷ [])
number_printed (pos n) g =
    let s = decimal_spells n (omega (arith, g)) in
    one_printed Safe (integer false (decimal n)) (kinds.Integer (pos n))
    (ap (λ (m : ℕ). Some (kinds.Integer (pos m))) s.number) refl
    (s.some, s.digits_are, (let k = s.number in omega (arith, k, g))) (λ rest m. m.0)
    (digits_plain (decimal n) s.digits_are)
number_printed (negsuc n) g =
    let s = decimal_spells (suc n) (omega (arith, g)) in
    let z : signed true (suc n) ≡ negsuc n = omega (arith, ints) in
    one_printed Safe (integer true (decimal (suc n))) (kinds.Integer (negsuc n))
    (ap (λ (m : ℕ). Some (kinds.Integer (signed true m))) s.number ∙ ap (λ (y : ℤ). Some (kinds.Integer y)) z) refl
    (s.some, s.digits_are, (let k = s.number in omega (arith, k, g))) (λ rest m. m.0)
    (digits_plain (decimal (suc n)) s.digits_are)

doubled_plain : (text : List ℕ) → list_all is_plain text ≡ true → list_all is_plain (doubled text ++ 39 ∷ []) ≡ true
doubled_plain [] h = refl
doubled_plain (b ∷ text) h =
    let p = and_parts (is_plain b) (list_all is_plain text) h in
    by (is_quote b) p.0 (doubled_plain text p.1)
  where
    by : (c : Bool) → is_plain b ≡ true → list_all is_plain (doubled text ++ 39 ∷ []) ≡ true
        → list_all is_plain (cond c (39 ∷ 39 ∷ doubled text) (b ∷ doubled text) ++ 39 ∷ []) ≡ true
    by true p q = q
    by false p q = rw (p, q) refl

operand_printed : (o : SelOperand) → IsSpellableOperand o → Printed Safe (operand_text o) (operand_kinds o)
operand_printed (operands.Column c) g = column_printed c g
operand_printed (operands.Int z) g = number_printed z g
operand_printed (operands.Str text) g =
    one_printed Safe (quoted text) (kinds.Quoted text)
    (ap (λ (t : List ℕ). Some (kinds.Quoted t)) (shown_plain text g)) refl tt (λ rest m. m.1) (doubled_plain text g)

op_safe : (op : SelOp) (rest : List ℕ) → Safe (op_text op ++ rest)
op_safe ops.Eq rest = (refl, refl)
op_safe ops.Ne rest = (refl, refl)
op_safe ops.Lt rest = (refl, refl)
op_safe ops.Le rest = (refl, refl)
op_safe ops.Gt rest = (refl, refl)
op_safe ops.Ge rest = (refl, refl)

pred_printed : (p : SelPred) → IsSpellablePred p → Printed Safe (pred_text p) (pred_kinds p)
pred_printed p g =
    subst (λ (ks : List Kind). Printed Safe (pred_text p) ks)
    (append_assoc (column_kinds p.left) (kinds.Mark (op_mark p.op) ∷ []) (operand_kinds p.right))
    (joined (joined (column_printed p.left g.0) (op_printed p.op) (λ rest m. op_safe p.op rest))
    (operand_printed p.right g.1) (λ rest m. tt))

direction_printed : (desc : Bool) → Printed Safe (direction_text desc) (direction_kinds desc)
direction_printed true = desc_printed
direction_printed false = nothing

direction_safe : (desc : Bool) (rest : List ℕ) → Safe rest → Safe (direction_text desc ++ rest)
direction_safe true rest m = (refl, refl)
direction_safe false rest m = m

key_printed : (k : SelKey) → IsSpellableKey k → Printed Safe (key_text k) (key_kinds k)
key_printed k g = joined (column_printed k.col g) (direction_printed k.desc) (direction_safe k.desc)

-- ---- lists and clauses

module _ {X : Type 0} (IsGood : X → Type 0) (text : X → List ℕ) (each : X → List Kind)
    (printed : (x : X) → IsGood x → Printed Safe (text x) (each x))
    (c : ℕ) (cs : List ℕ) (mark : Mark) (separator : Printed Any (c ∷ cs) (kinds.Mark mark ∷ []))
    (apart : continues_name c ≡ false) (unquoted : is_quote c ≡ false) where
  others_safe : (xs : List X) (rest : List ℕ) → Safe rest → Safe (flat_map (λ y. (c ∷ cs) ++ text y) xs ++ rest)
  others_safe [] rest m = m
  others_safe (x ∷ xs) rest m = (apart, unquoted)

  others_printed : (xs : List X) → Each IsGood xs
      → Printed Safe (flat_map (λ y. (c ∷ cs) ++ text y) xs) (others_kinds mark each xs)
  others_printed [] g = nothing
  others_printed (x ∷ xs) g = joined (joined separator (printed x g.0) (λ rest m. tt)) (others_printed xs g.1)
      (others_safe xs)

  list_printed : (xs : List X) → OneOrMore IsGood xs → Printed Safe (listed (c ∷ cs) text xs) (list_kinds mark each xs)
  list_printed [] g = absurd g
  list_printed (x ∷ xs) g = joined (printed x g.0) (others_printed xs g.1) (others_safe xs)

  clause_printed : (words : List ℕ) (ks : List Kind) → Printed Any words ks → (xs : List X) → Each IsGood xs
      → Printed Safe (clause words (c ∷ cs) text xs) (clause_kinds ks mark each xs)
  clause_printed words ks w [] g = nothing
  clause_printed words ks w (x ∷ xs) g = joined w (list_printed (x ∷ xs) g) (λ rest m. tt)

clause_safe : {X : Type 0} (ws separator : List ℕ) (text : X → List ℕ) (xs : List X) (rest : List ℕ) → Safe rest
    → Safe (clause (32 ∷ ws) separator text xs ++ rest)
clause_safe ws separator text [] rest m = m
clause_safe ws separator text (x ∷ xs) rest m = (refl, refl)

pub query_printed : (s : Select) → IsSpellable s → Printed Safe (canonical_text s) (query_kinds s)
query_printed s g =
    let items = list_printed IsSpellableItem item_text item_kinds item_printed 44 (32 ∷ []) marks.Comma comma_printed
    refl refl s.items g.items in
    let tables = list_printed IsSpellableTable table_text table_kinds table_printed 44 (32 ∷ []) marks.Comma
    comma_printed refl refl s.from g.from in
    let preds = clause_printed IsSpellablePred pred_text pred_kinds pred_printed 32 (codes "AND ") marks.And
    and_printed refl refl (codes " WHERE ") (kinds.Mark marks.Where ∷ []) where_printed s.preds g.preds in
    let groups = clause_printed IsSpellableColumn column_text column_kinds column_printed 44 (32 ∷ []) marks.Comma
    comma_printed refl refl (codes " GROUP BY ") group_words group_printed s.group_by g.group_by in
    let keys = clause_printed IsSpellableKey key_text key_kinds key_printed 44 (32 ∷ []) marks.Comma comma_printed
    refl refl (codes " ORDER BY ") order_words order_printed s.order_by g.order_by in
    joined (joined (joined (joined
    (joined (joined select_printed items (λ rest m. tt)) from_printed (λ rest m. (refl, refl))) tables
    (λ rest m. tt))
    preds (clause_safe (codes "WHERE ") (codes " AND ") pred_text s.preds)) groups
    (clause_safe (codes "GROUP BY ") (codes ", ") column_text s.group_by)) keys
    (clause_safe (codes "ORDER BY ") (codes ", ") key_text s.order_by)
