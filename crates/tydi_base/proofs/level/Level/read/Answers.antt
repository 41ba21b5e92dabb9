use Rattle.std.proofs.Common.{◌≡◌, false, None, Some, refl, sym, ◌∙◌}
use Rattle.std.specs.Option.{option_copied}
use Rattle.tydi_base.specs.Level.{next_number, pieces_left}
use Rattle.tydi_base.proofs.LevelLaws.{ends-there, fails-first, fails-fourth, fails-second, fails-third, left-there, none-left}
use Rattle.tydi_base.proofs.level.Level.read.Goals as goal

pub returns-in_err-first : goal.returns-in_err-first
returns-in_err-first c = c.from_residual.ensures ∙ sym (fails-first c.args.text.now (sym c.next_number.ensures ∙ rw c.in_err-first.was refl))

pub returns-in_err-second : goal.returns-in_err-second
returns-in_err-second c =
    let one : next_number (pieces_left (Some c.args.text.now)) ≡ Some (c.in_ok-first.first, pieces_left (option_copied c.in_ok-first.rest)) = sym c.next_number.ensures ∙ rw c.in_ok-first.was refl in
    c.from_residual-in_err-second.ensures ∙ sym (fails-second c.args.text.now _ one (sym c.next_number-2.ensures ∙ rw c.in_err-second.was refl))

pub returns-in_err-third : goal.returns-in_err-third
returns-in_err-third c =
    let one : next_number (pieces_left (Some c.args.text.now)) ≡ Some (c.in_ok-first.first, pieces_left (option_copied c.in_ok-first.rest)) = sym c.next_number.ensures ∙ rw c.in_ok-first.was refl in
    let two : next_number (pieces_left (option_copied c.in_ok-first.rest)) ≡ Some (c.in_ok-second.second, pieces_left (option_copied c.in_ok-second.rest)) = sym c.next_number-2.ensures ∙ rw c.in_ok-second.was refl in
    c.from_residual-in_err-third.ensures ∙ sym (fails-third c.args.text.now _ one _ two (sym c.next_number-3.ensures ∙ rw c.in_err-third.was refl))

pub returns-in_err-fourth : goal.returns-in_err-fourth
returns-in_err-fourth c =
    let one : next_number (pieces_left (Some c.args.text.now)) ≡ Some (c.in_ok-first.first, pieces_left (option_copied c.in_ok-first.rest)) = sym c.next_number.ensures ∙ rw c.in_ok-first.was refl in
    let two : next_number (pieces_left (option_copied c.in_ok-first.rest)) ≡ Some (c.in_ok-second.second, pieces_left (option_copied c.in_ok-second.rest)) = sym c.next_number-2.ensures ∙ rw c.in_ok-second.was refl in
    let three : next_number (pieces_left (option_copied c.in_ok-second.rest)) ≡ Some (c.in_ok-third.third, pieces_left (option_copied c.in_ok-third.rest)) = sym c.next_number-3.ensures ∙ rw c.in_ok-third.was refl in
    c.from_residual-in_err-fourth.ensures ∙ sym (fails-fourth c.args.text.now _ one _ two _ three (sym c.next_number-4.ensures ∙ rw c.in_err-fourth.was refl))

pub returns-in-None : goal.returns-in-None
returns-in-None c =
    let one : next_number (pieces_left (Some c.args.text.now)) ≡ Some (c.in_ok-first.first, pieces_left (option_copied c.in_ok-first.rest)) = sym c.next_number.ensures ∙ rw c.in_ok-first.was refl in
    let two : next_number (pieces_left (option_copied c.in_ok-first.rest)) ≡ Some (c.in_ok-second.second, pieces_left (option_copied c.in_ok-second.rest)) = sym c.next_number-2.ensures ∙ rw c.in_ok-second.was refl in
    let three : next_number (pieces_left (option_copied c.in_ok-second.rest)) ≡ Some (c.in_ok-third.third, pieces_left (option_copied c.in_ok-third.rest)) = sym c.next_number-3.ensures ∙ rw c.in_ok-third.was refl in
    let four : next_number (pieces_left (option_copied c.in_ok-third.rest)) ≡ Some (c.in_ok-fourth.fourth, pieces_left None) = sym c.next_number-4.ensures ∙ rw (c.in_ok-fourth.was, c.in-None.is) refl in
    c.made_of.ensures ∙ sym (ends-there c.args.text.now _ one _ two _ three _ four _ none-left)

pub returns-in-Some : goal.returns-in-Some
returns-in-Some c =
    let one : next_number (pieces_left (Some c.args.text.now)) ≡ Some (c.in_ok-first.first, pieces_left (option_copied c.in_ok-first.rest)) = sym c.next_number.ensures ∙ rw c.in_ok-first.was refl in
    let two : next_number (pieces_left (option_copied c.in_ok-first.rest)) ≡ Some (c.in_ok-second.second, pieces_left (option_copied c.in_ok-second.rest)) = sym c.next_number-2.ensures ∙ rw c.in_ok-second.was refl in
    let three : next_number (pieces_left (option_copied c.in_ok-second.rest)) ≡ Some (c.in_ok-third.third, pieces_left (option_copied c.in_ok-third.rest)) = sym c.next_number-3.ensures ∙ rw c.in_ok-third.was refl in
    let four : next_number (pieces_left (option_copied c.in_ok-third.rest)) ≡ Some (c.in_ok-fourth.fourth, pieces_left (option_copied c.in_ok-fourth.rest)) = sym c.next_number-4.ensures ∙ rw c.in_ok-fourth.was refl in
    sym (ends-there c.args.text.now _ one _ two _ three _ four false (rw c.in-Some.is (left-there _)))
