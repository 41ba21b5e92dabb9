use Rattle.std.proofs.Common.{arith}
use Rattle.til_lexer.specs.Places.{along}
use Rattle.til_lexer.specs.Spans.{IsMarked}
use Rattle.til_lexer.proofs.LineLemmas.{marked-room, placed-closed, placed-open}
use Rattle.til_lexer.proofs.marks.closed_token.Goals as goal

pub along-requires-in-Some-clause-fits : goal.along-requires-in-Some-clause-fits
along-requires-in-Some-clause-fits c =
    let marked : IsMarked c.args.mark (along c.args.place 1) c.args.after.now c.in-Some.span = rw c.along.ensures at c.in-Some.ensures in
    let room = marked-room _ _ _ _ marked (record { line = let l = c.requires.line in omega arith; column = let l = c.requires.column in omega arith }) in
    let less = room.0 in
    let fits = c.requires.fits in
    omega arith

pub along-requires-in-Some-clause-column : goal.along-requires-in-Some-clause-column
along-requires-in-Some-clause-column c =
    let marked : IsMarked c.args.mark (along c.args.place 1) c.args.after.now c.in-Some.span = rw c.along.ensures at c.in-Some.ensures in
    (marked-room _ _ _ _ marked (record { line = let l = c.requires.line in omega arith; column = let l = c.requires.column in omega arith })).1.column

pub returns-in-Some : goal.returns-in-Some
returns-in-Some c =
    let marked : IsMarked c.args.mark (along c.args.place 1) c.args.after.now c.in-Some.span = rw c.along.ensures at c.in-Some.ensures in
    rw c.along-in-Some.ensures (placed-closed c.args.kind c.args.fault c.args.mark c.args.place c.args.after.now c.in-Some.span c.requires.mark marked)

pub returns-in-None : goal.returns-in-None
returns-in-None c = placed-open c.args.kind c.args.fault c.args.mark c.args.place c.args.after.now c.in-None.ensures
