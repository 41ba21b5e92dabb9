-- Statements of one line, by the steps of their reading.
use Rattle.std.proofs.Common.{◌≡◌, ℕ, ◌<◌, Bool, true, false, cond, List, length, slice_get, Option, Some, None, option_and_then, Result, Ok, Err, refl, sym, ap, ◌∙◌}
use Rattle.std.specs.Prelude.{codes}
use Rattle.std.specs.List.{list_any}
use Rattle.std.specs.Str.{bytes_eq}
use Rattle.std.proofs.lemmas.Option.{none-some, slice_get_within}
use Rattle.tydi_base.specs.Reading.{Gives}
use Rattle.tydi_reading.specs.declared.fault.Fault.{Fault}
use Rattle.tydi_reading.specs.declared.fault.Fault.TheVariants as faults
use Rattle.physical_stream.specs.declared.head.Head.{Head}
use Rattle.signal_layout.specs.Layout.{width_of}
use Rattle.signal_layout.specs.declared.signal.Signal.TheVariants as signals
use Rattle.vhdl_text.specs.declared.bench.Stmt.{Stmt}
use Rattle.vhdl_text.specs.declared.bench.Stmt.TheVariants as stmts
use Rattle.vhdl_text.specs.declared.place.Place.{Place}
use Rattle.vhdl_text.specs.declared.refusal.Refusal.{Refusal}
use Rattle.vhdl_text.specs.declared.refusal.Refusal.TheVariants.{SecondDriver}
use Rattle.vhdl_text.specs.Lines.{between, constant_at, paths_of, place_of, put_of, put_width, stmt_in, stmt_of}
use Rattle.vhdl_text.specs.Text.{quote_of}
use Rattle.vhdl_text.specs.WellFormed.{drives, is_signal}

pub put_width-within : (heads : List Head) (place : Place) (width : ℕ) → put_width heads place ≡ Some width → place.stream < length heads
unfolding put_width
put_width-within heads place width e = by_ready (is_signal place.signal signals.Ready) e
  where
    by_head : (found : Option Head) → slice_get heads place.stream ≡ found → option_and_then (λ head. width_of head.params place.signal) found ≡ Some width → place.stream < length heads
    by_head None is e = absurd (none-some width e)
    by_head (Some head) is e = slice_get_within heads place.stream head is

    by_ready : (ready : Bool) → cond ready None (option_and_then (λ head. width_of head.params place.signal) (slice_get heads place.stream)) ≡ Some width → place.stream < length heads
    by_ready true e = absurd (none-some width e)
    by_ready false e = by_head (slice_get heads place.stream) refl e

-- an assignment whose name, width and word are read
pub put_of-is : (heads : List Head) (whole : List (List Stmt)) (name back : List ℕ) (place : Place) (width mark : ℕ) (word : Option (List Bool)) (bits : List Bool) (driven : Bool) → place_of (paths_of heads) name ≡ Some place → put_width heads place ≡ Some width
    → mark ≡ quote_of place.signal → word ≡ constant_at mark width back → word ≡ Some bits → list_any (drives place.stream place.signal) whole ≡ driven
    → put_of heads whole name back ≡ cond driven (Err (faults.Unfit SecondDriver)) (Ok (stmts.Put place.stream place.signal bits))
unfolding put_of
put_of-is heads whole name back place width mark word bits driven at wide quote spelled is test =
    let constant : constant_at (quote_of place.signal) width back ≡ Some bits = ap (λ (m : ℕ). constant_at m width back) (sym quote) ∙ sym spelled ∙ is in
    rw (at, wide, constant, test) refl

-- a line that begins as an assignment
pub stmt_of-assigns : (heads : List Head) (whole : List (List Stmt)) (line front inside back : List ℕ) → Some (record { front = front; inside = inside; back = back }) ≡ between 92 line → bytes_eq front (codes "    ") ≡ true
    → stmt_of heads whole line ≡ put_of heads whole inside back
unfolding stmt_of
stmt_of-assigns heads whole line front inside back parts begins = ap (stmt_in heads whole) (sym parts) ∙ rw begins refl

pub stmt_of-gives : (heads : List Head) (whole : List (List Stmt)) (line front inside back : List ℕ) (fault : Fault Refusal → Option (Fault Refusal)) (result : Result Stmt (Fault Refusal))
    → Some (record { front = front; inside = inside; back = back }) ≡ between 92 line → bytes_eq front (codes "    ") ≡ true
    → Gives fault (λ stmt. stmt) result (put_of heads whole inside back) → Gives fault (λ stmt. stmt) result (stmt_of heads whole line)
stmt_of-gives heads whole line front inside back fault result parts begins gives = rw (stmt_of-assigns heads whole line front inside back parts begins) gives
