use Rattle.std.proofs.Common.{refl}
use Rattle.tydi_base.proofs.LevelLaws.{next-split, next-whole}
use Rattle.tydi_base.proofs.level.number_and_rest.Goals as goal

pub returns-in_err-piece_number-in-Some : goal.returns-in_err-piece_number-in-Some
returns-in_err-piece_number-in-Some c =
    rw (c.from_residual.ensures, next-split c.args.text.now c.in-Some.piece.now c.in-Some.rest.now c.in-Some.ensures.some, ← c.piece_number.ensures, c.in_err-piece_number-in-Some.was) refl

pub returns-in_err-piece_number-in-None : goal.returns-in_err-piece_number-in-None
returns-in_err-piece_number-in-None c =
    rw (c.from_residual-in_err-piece_number-in-None.ensures, next-whole c.args.text.now c.in-None.ensures.none, ← c.piece_number-in-None.ensures, c.in_err-piece_number-in-None.was) refl

pub returns-in_ok-piece_number-in-Some : goal.returns-in_ok-piece_number-in-Some
returns-in_ok-piece_number-in-Some c =
    rw (next-split c.args.text.now c.in-Some.piece.now c.in-Some.rest.now c.in-Some.ensures.some, ← c.piece_number.ensures, c.in_ok-piece_number-in-Some.was) refl

pub returns-in_ok-piece_number-in-None : goal.returns-in_ok-piece_number-in-None
returns-in_ok-piece_number-in-None c =
    rw (next-whole c.args.text.now c.in-None.ensures.none, ← c.piece_number-in-None.ensures, c.in_ok-piece_number-in-None.was) refl
