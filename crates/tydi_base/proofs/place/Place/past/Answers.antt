use Rattle.std.proofs.Common.{◌∙◌, ap, arith, sym, take, get_or}
use Rattle.std.proofs.lemmas.List.{length-take-le}
use Rattle.tydi_base.specs.declared.place.Place.{Place}
use Rattle.tydi_base.specs.Places.{place_after}
use Rattle.tydi_base.proofs.PlacePassing.{near_past, offset_past, past-suc}
use Rattle.tydi_base.proofs.place.Place.past.Goals as goal

pub after-place-requires-clause-fits : goal.after-place-requires-clause-fits
after-place-requires-clause-fits c =
    let front = take c.bytes.byte-index c.args.piece.now in
    let within = c.bytes-test.true in
    let offset = ap (λ (p : Place). p.offset) c.bytes.invariant ∙ offset_past c.args.self front in
    let size = length-take-le c.bytes.byte-index c.args.piece.now (omega arith) in
    let fits = c.requires.fits in
    omega arith

pub after-place-requires-clause-line : goal.after-place-requires-clause-line
after-place-requires-clause-line c =
    let near = near_past c.args.self (take c.bytes.byte-index c.args.piece.now) (record { line = c.requires.line; column = c.requires.column }) in
    rw c.bytes.invariant near.line

pub after-place-requires-clause-column : goal.after-place-requires-clause-column
after-place-requires-clause-column c =
    let near = near_past c.args.self (take c.bytes.byte-index c.args.piece.now) (record { line = c.requires.line; column = c.requires.column }) in
    rw c.bytes.invariant near.column

pub bytes-preserved : goal.bytes-preserved
bytes-preserved c =
    c.after-place.ensures
    ∙ ap (λ (p : Place). place_after p (get_or c.args.piece.now c.bytes.byte-index 0)) c.bytes.invariant
    ∙ sym (past-suc c.args.self c.args.piece.now c.bytes.byte-index c.bytes-test.true)
