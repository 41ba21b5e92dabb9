use Rattle.std.proofs.Common.{◌≡◌, ◌∙◌, true, false, is_some, refl, sym, ap, arith}
use Rattle.vcd_read.proofs.samples.Samples.add.Goals as goal

pub returns-then-self-gt-MOST_CYCLES : goal.returns-then-self-gt-MOST_CYCLES
returns-then-self-gt-MOST_CYCLES c =
    let past = c.if-self-gt-MOST_CYCLES.true in
    record {
      many = λ few. absurd (omega (arith, few, past));
      full = λ more. refl;
      stays = λ place few is. is;
      rows = λ few none. absurd (omega (
        arith,
        few,
        past,
      ));
    }

pub returns-then-cycle-eq-MOST_CYCLES : goal.returns-then-cycle-eq-MOST_CYCLES
returns-then-cycle-eq-MOST_CYCLES c =
    let last = c.if-cycle-eq-MOST_CYCLES.true in let within = c.if-self-gt-MOST_CYCLES.false in
    record {
      many = λ few. refl;
      full = λ more. absurd (omega (arith, more, within));
      stays = λ place few is. is;
      rows = λ few none. absurd (omega (
        arith,
        few,
        last,
      ));
    }

pub returns-then-is_some : goal.returns-then-is_some
returns-then-is_some c =
    let within = c.if-self-gt-MOST_CYCLES.false in
    record {
      many = λ few. refl;
      full = λ more. absurd (omega (arith, more, within));
      stays = λ place few is. is;
      rows = λ few none. absurd (let e : false ≡ true = sym (c.is_some.ensures ∙ ap is_some none) ∙ c.if-is_some.true in cc);
    }

pub returns : goal.returns
returns c =
    let within = c.if-self-gt-MOST_CYCLES.false in
    record {
      many = λ few. refl;
      full = λ more. absurd (omega (arith, more, within));
      stays = λ place few is. absurd (let e : true ≡ false = sym (c.is_some.ensures ∙ ap is_some is) ∙ c.if-is_some.false in cc);
      rows = λ few none. c.in_ok-self.ensures;
    }
