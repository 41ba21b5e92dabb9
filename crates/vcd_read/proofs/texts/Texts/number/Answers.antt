use Rattle.std.proofs.Common.{◌∙◌, ap}
use Rattle.vcd_read.specs.Numbers.{number_of}
use Rattle.vcd_read.proofs.NumberLemmas.{position-number}
use Rattle.vcd_read.proofs.texts.Texts.number.Goals as goal

pub returns : goal.returns
returns c = c.get_index_of.ensures.index ∙ position-number (λ text. text.items) c.args.text.now _
    ∙ ap (λ texts. number_of texts c.args.text.now) c.self.view_is
