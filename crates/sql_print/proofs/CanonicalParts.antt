-- The tokens of a part of a canonical text are the part again, but for offsets.
use Rattle.std.proofs.Common.{◌≡◌, ℕ, Bool, true, false, List, [], ◌∷◌, ◌++◌, Option, Some, None, inl, inr, refl, sym}
use Rattle.std.proofs.Common.{ap, ◌∙◌}
use Rattle.std.proofs.lemmas.List.{append-nil}
use Rattle.sql_reader.specs.declared.tokens.Mark.TheVariants as marks
use Rattle.sql_reader.specs.declared.tokens.Kind.TheVariants as kinds
use Rattle.sql_reader.specs.declared.tokens.Token.{Token}
use Rattle.sql_reader.specs.declared.tokens.Name.{Name}
use Rattle.sql_reader.specs.declared.syntax.ColRef.{ColRef}
use Rattle.sql_reader.specs.declared.syntax.FromItem.{FromItem}
use Rattle.sql_reader.specs.declared.syntax.SelOp.{SelOp}
use Rattle.sql_reader.specs.declared.syntax.SelOp.TheVariants as ops
use Rattle.sql_reader.specs.declared.syntax.SelOperand.{SelOperand}
use Rattle.sql_reader.specs.declared.syntax.SelOperand.TheVariants as operands
use Rattle.sql_reader.specs.declared.syntax.SelPred.{SelPred}
use Rattle.sql_reader.specs.declared.syntax.SelKey.{SelKey}
use Rattle.sql_reader.specs.Tokens.{integer_in, quoted_in, op_in, op_of}
use Rattle.sql_reader.specs.Query.{plain_table}
use Rattle.sql_reader.specs.Query.{aliased_table, predicate, key, IsColumn}
use Rattle.sql_reader.specs.Query.{IsTable, IsOperand, IsPred, IsDirection, IsKey}
use Rattle.sql_print.specs.Unplaced.{unplaced_column, unplaced_table, unplaced_operand}
use Rattle.sql_print.specs.Unplaced.{unplaced_pred, unplaced_key}
use Rattle.sql_print.proofs.CanonicalKinds.{as_kinds, column_kinds, direction_kinds, halves}
use Rattle.sql_print.proofs.CanonicalKinds.{key_kinds, kinds_of, mark_is, name_is, op_mark, operand_kinds}
use Rattle.sql_print.proofs.CanonicalKinds.{pred_kinds, table_kinds}
use Rattle.sql_print.proofs.CanonicalItems.{column_again, as_column_again}

table_again_by : (table : List ℕ) (alias : Option (List ℕ)) (us : List Token)
    → kinds_of us ≡ kinds.Name table ∷ as_kinds alias
    → (x : FromItem) × IsTable us x × (unplaced_table x ≡ record { at = 0; table = table; alias_at = 0; alias = alias })
table_again_by table alias [] e = absurd cc
table_again_by table None (u ∷ []) e =
    let a : u.kind ≡ kinds.Name table = cc in
    let n : Name = record { at = u.at; text = table } in
    (plain_table n, (n, name_is u table a, inr (inr refl)), refl)
table_again_by table None (u ∷ v ∷ us) e = absurd cc
table_again_by table (Some alias) (u ∷ []) e = absurd cc
table_again_by table (Some alias) (u ∷ v ∷ []) e = absurd cc
table_again_by table (Some alias) (u ∷ v ∷ w ∷ []) e =
    let a : u.kind ≡ kinds.Name table = cc in
    let b : v.kind ≡ kinds.Mark marks.As = cc in
    let c : w.kind ≡ kinds.Name alias = cc in
    let n : Name = record { at = u.at; text = table } in
    let m : Name = record { at = w.at; text = alias } in
    (aliased_table n m, (n, name_is u table a, inl (v.at, mark_is v marks.As b, (m, name_is w alias c, refl))), refl)
table_again_by table (Some alias) (u ∷ v ∷ w ∷ x ∷ us) e = absurd cc

pub table_again : (t : FromItem) (us : List Token) → kinds_of us ≡ table_kinds t
    → (x : FromItem) × IsTable us x × (unplaced_table x ≡ unplaced_table t)
table_again t us e = table_again_by t.table t.alias us e

operand_again : (o : SelOperand) (us : List Token) → kinds_of us ≡ operand_kinds o
    → (x : SelOperand) × IsOperand us x × (unplaced_operand x ≡ unplaced_operand o)
operand_again (operands.Column c) us e = let d = as_column_again operands.Column c us e in
    (operands.Column d.0, inr (inr d.1), ap operands.Column d.2)
operand_again (operands.Int z) [] e = absurd cc
operand_again (operands.Int z) (u ∷ []) e = let a : u.kind ≡ kinds.Integer z = cc in
    (operands.Int z, inl (z, ap integer_in a, refl), refl)
operand_again (operands.Int z) (u ∷ v ∷ us) e = absurd cc
operand_again (operands.Str s) [] e = absurd cc
operand_again (operands.Str s) (u ∷ []) e = let a : u.kind ≡ kinds.Quoted s = cc in
    (operands.Str s, inr (inl (s, ap quoted_in a, refl)), refl)
operand_again (operands.Str s) (u ∷ v ∷ us) e = absurd cc

op_is : (u : Token) (op : SelOp) → u.kind ≡ kinds.Mark (op_mark op) → op_of u ≡ Some op
op_is u ops.Eq e = ap op_in e
op_is u ops.Ne e = ap op_in e
op_is u ops.Lt e = ap op_in e
op_is u ops.Le e = ap op_in e
op_is u ops.Gt e = ap op_in e
op_is u ops.Ge e = ap op_in e

pub pred_again : (p : SelPred) (us : List Token) → kinds_of us ≡ pred_kinds p
    → (x : SelPred) × IsPred us x × (unplaced_pred x ≡ unplaced_pred p)
pred_again p us e =
    let h = halves us (column_kinds p.left) (kinds.Mark (op_mark p.op) ∷ operand_kinds p.right) e in
    let c = column_again p.left h.front h.front_is in
    by c.0 c.2 h.front h.back h.whole c.1 h.back_is
  where
    by : (c : ColRef) → unplaced_column c ≡ unplaced_column p.left → (front back : List Token) → us ≡ front ++ back
        → IsColumn front c → kinds_of back ≡ kinds.Mark (op_mark p.op) ∷ operand_kinds p.right
        → (x : SelPred) × IsPred us x × (unplaced_pred x ≡ unplaced_pred p)
    by c same front [] w f k = absurd cc
    by c same front (u ∷ back) w f k =
        let a : u.kind ≡ kinds.Mark (op_mark p.op) = cc in
        let rest : kinds_of back ≡ operand_kinds p.right = cc in
        let o = operand_again p.right back rest in (
          predicate c p.op o.0,
          record {
            front = front;
            back = u ∷ back;
            value = c;
            whole = w;
            first = f;
            second = (
              p.op,
              op_is u p.op a,
              record {
                front = back;
                back = [];
                value = o.0;
                whole = sym (append-nil back);
                first = o.1;
                second = refl;
              },
            );
          },
          ap (λ (l : ColRef). record { left = l; op = p.op; right = unplaced_operand o.0 }) same
              ∙ ap (λ (r : SelOperand). record { left = unplaced_column p.left; op = p.op; right = r }) o.2,
        )

direction_again : (c : ColRef) (desc : Bool) (us : List Token) → kinds_of us ≡ direction_kinds desc
    → IsDirection c us (key c desc)
direction_again c true [] e = absurd cc
direction_again c true (u ∷ []) e = let a : u.kind ≡ kinds.Mark marks.Desc = cc in
    inr (inl (u.at, mark_is u marks.Desc a, refl))
direction_again c true (u ∷ v ∷ us) e = absurd cc
direction_again c false [] e = inr (inr refl)
direction_again c false (u ∷ us) e = absurd cc

pub key_again : (k : SelKey) (us : List Token) → kinds_of us ≡ key_kinds k
    → (x : SelKey) × IsKey us x × (unplaced_key x ≡ unplaced_key k)
key_again k us e =
    let h = halves us (column_kinds k.col) (direction_kinds k.desc) e in
    let c = column_again k.col h.front h.front_is in (
      key c.0 k.desc,
      record {
        front = h.front;
        back = h.back;
        value = c.0;
        whole = h.whole;
        first = c.1;
        second = direction_again c.0 k.desc h.back h.back_is;
      },
      ap (λ (l : ColRef). record { col = l; desc = k.desc }) c.2,
    )
