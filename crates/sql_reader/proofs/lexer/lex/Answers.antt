use Rattle.std.proofs.Common.{◌≡◌, Some, None, arith, rules}
use Rattle.std.specs.Option.{option_map}
use Rattle.sql_reader.specs.Cutting.{piece_cut, kind_cut}
use Rattle.sql_reader.proofs.PieceCuts.{found_stands, shorter}
use Rattle.sql_reader.proofs.Added.{lengths, one_more, all_so_far, found_none, found_some}
use Rattle.sql_reader.proofs.lexer.lex.Goals as goal

-- no piece begins here
pub returns-in-None : goal.returns-in-None
returns-in-None c =
    let e : None ≡ option_map kind_cut (piece_cut c.pieces.rest.now) = search rules in
    all_so_far c.args.text.now c.pieces.tokens.items c.pieces.rest.now c.pieces.invariant
    (found_none (piece_cut c.pieces.rest.now) e)

pub overflow_sub-text : goal.overflow_sub-text
overflow_sub-text c = let l = lengths c.pieces.invariant.pieces c.args.text.now c.pieces.rest.now
    c.pieces.invariant.are in omega arith

-- a piece has bytes
pub pieces-smaller : goal.pieces-smaller
pieces-smaller c =
    let e : Some (c.in-Some.kind, c.in-Some.more.now) ≡ option_map kind_cut (piece_cut c.pieces.rest.now) =
    search rules in
    let f = found_some (piece_cut c.pieces.rest.now) c.in-Some.kind c.in-Some.more.now e in
    shorter c.pieces.rest.now f.piece c.in-Some.more.now
    (found_stands c.pieces.rest.now f.piece c.in-Some.more.now f.is)

pub pieces-preserved : goal.pieces-preserved
pieces-preserved c =
    let e : Some (c.in-Some.kind, c.in-Some.more.now) ≡ option_map kind_cut (piece_cut c.pieces.rest.now) =
    search rules in
    let f = found_some (piece_cut c.pieces.rest.now) c.in-Some.kind c.in-Some.more.now e in
    let h = one_more c.args.text.now c.pieces.tokens.items c.pieces.rest.now f.piece c.in-Some.more.now
    c.pieces.invariant (found_stands c.pieces.rest.now f.piece c.in-Some.more.now f.is) in
    rw (c.in_ok-add_piece-in-Some.ensures, f.spells) h
