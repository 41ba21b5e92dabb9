use Rattle.std.proofs.Common.{ℕ, ◌-◌, ◌<◌, ◌^◌, sym, subst, ap, ◌∙◌, arith}
use Rattle.physical_stream.specs.Params.{Parameters}
use Rattle.signal_layout.specs.Layout.{bits_of_signal}
use Rattle.vhdl_writer.proofs.WordLemmas.{last-fits}
use Rattle.vhdl_writer.proofs.defaults.default_word.Goals as goal

pub number_word-requires : goal.number_word-requires
number_word-requires c =
    subst (λ (width : ℕ). c.from.result - 1 < 2 ^ width) (sym (c.width_of-width.ensures ∙ ap (bits_of_signal c.args.params.now) c.in-Endi.is))
    (let below = last-fits c.args.params.now.lanes in omega (arith, below, c.from.ensures, ap (λ (p : Parameters). p.lanes) c.params.view_is))
