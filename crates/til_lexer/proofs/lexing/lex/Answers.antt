use Rattle.std.proofs.Common.{◌≡◌, take, drop, length, length-drop, ap, ◌∙◌, arith}
use Rattle.std.proofs.lemmas.List.{length-take-le}
use Rattle.tydi_base.specs.declared.place.Place.{Place}
use Rattle.std.specs.Str.{IsCharBoundary}
use Rattle.std.proofs.lemmas.Result.{err_from_is_err_and}
use Rattle.til_lexer.specs.Tokens.{length_of, tokens_of}
use Rattle.til_lexer.proofs.PlaceLemmas.{near_past, offset_past}
use Rattle.til_lexer.proofs.LexLemmas.{with_front-nil, more, at_end, nonempty, can_cut, fails, fault-of, piece-of}
use Rattle.til_lexer.proofs.lexing.lex.Goals as goal

pub pieces-init : goal.pieces-init
pieces-init c = rw (c.new-tokens.ensures, c.start-place.ensures) (c.utf8.text, with_front-nil (tokens_of c.args.text.now), omega arith, omega arith, omega arith)

pub returns-in_err-piece : goal.returns-in_err-piece
returns-in_err-piece c =
    let p = err_from_is_err_and c.from_residual.result c.from_residual.ensures.1 in
    let is = fault-of c.pieces.place c.pieces.rest.now _ c.in_err-piece.field-0.0 c.in_err-piece.ensures in
    rw (p.1, p.2) (record { gives = fails (tokens_of c.args.text.now) c.pieces.tokens c.pieces.place c.pieces.rest.now c.in_err-piece.field-0.0 c.pieces.invariant.1 (nonempty c.pieces.rest.now c.pieces-test.ensures) is })

pub push_token-requires : goal.push_token-requires
push_token-requires c =
    let is = piece-of c.pieces.place c.pieces.rest.now _ c.in_ok-piece.piece c.in_ok-piece.after c.in_ok-piece.ensures in
    let cut = can_cut c.pieces.place c.pieces.rest.now c.in_ok-piece.piece c.pieces.invariant.0 c.pieces-test.ensures is.0 in
    let within = cut.boundary.0 in
    omega arith

pub range_from-rest-requires : goal.range_from-rest-requires
range_from-rest-requires c =
    let is = piece-of c.pieces.place c.pieces.rest.now _ c.in_ok-piece.piece c.in_ok-piece.after c.in_ok-piece.ensures in
    let cut = can_cut c.pieces.place c.pieces.rest.now c.in_ok-piece.piece c.pieces.invariant.0 c.pieces-test.ensures is.0 in
    let boundary : IsCharBoundary c.pieces.rest.now c.len.result = rw c.len.ensures cut.boundary in
    λ _. boundary

pub pieces-smaller : goal.pieces-smaller
pieces-smaller c =
    let is = piece-of c.pieces.place c.pieces.rest.now _ c.in_ok-piece.piece c.in_ok-piece.after c.in_ok-piece.ensures in
    let cut = can_cut c.pieces.place c.pieces.rest.now c.in_ok-piece.piece c.pieces.invariant.0 c.pieces-test.ensures is.0 in
    let some = cut.some in
    omega arith

pub pieces-preserved : goal.pieces-preserved
pieces-preserved c =
    let is = piece-of c.pieces.place c.pieces.rest.now _ c.in_ok-piece.piece c.in_ok-piece.after c.in_ok-piece.ensures in
    let cut = can_cut c.pieces.place c.pieces.rest.now c.in_ok-piece.piece c.pieces.invariant.0 c.pieces-test.ensures is.0 in
    let within = cut.boundary.0 in
    let rest : c.range_from-rest.result.now ≡ drop (length_of c.in_ok-piece.piece) c.pieces.rest.now = c.range_from-rest.ensures.value ∙ ap (λ n. drop n c.pieces.rest.now) c.len.ensures in
    let front = take (length_of c.in_ok-piece.piece) c.pieces.rest.now in
    let offset = ap (λ (p : Place). p.offset) is.1 ∙ offset_past c.pieces.place front in
    let near = near_past c.pieces.place front (record { line = c.pieces.invariant.3; column = c.pieces.invariant.4 }) in
    let size = length-take-le (length_of c.in_ok-piece.piece) c.pieces.rest.now within in
    let left = ap length rest ∙ length-drop (length_of c.in_ok-piece.piece) c.pieces.rest.now in
    let all = c.pieces.invariant.2 in (
      c.range_from-rest.utf8,
      more (tokens_of c.args.text.now) c.pieces.tokens c.push_token.new.tokens c.pieces.place c.in_ok-piece.after c.pieces.rest.now c.range_from-rest.result.now
          c.in_ok-piece.piece c.pieces.invariant.1 (nonempty c.pieces.rest.now c.pieces-test.ensures) is.0 cut.some
          c.in_ok-push_token.ensures rest is.1,
      omega arith,
      rw is.1 near.line,
      rw is.1 near.column,
    )

pub returns : goal.returns
returns c = record { gives = at_end (tokens_of c.args.text.now) c.pieces.tokens c.pieces.place c.pieces.rest.now c.pieces.invariant.1 c.pieces-test.ensures }
