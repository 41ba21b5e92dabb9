use Rattle.std.proofs.Common.{◌∙◌, sym, subst, ap}
use Rattle.physical_stream.specs.Signals.{Fits}
use Rattle.physical_stream.specs.declared.transfer.Transfer.{Transfer}
use Rattle.reshape.proofs.FilledLemmas.{elements-first, filled-front, front-fits}
use Rattle.reshape.proofs.filling.fill_front.Goals as goal

pub put_elements-requires-clause-some : goal.put_elements-requires-clause-some
put_elements-requires-clause-some c = elements-first c.args.p.now c.requires.some c.args.items.now.items c.requires.fits c.args.front c.requires.front

pub returns-clause-made : goal.returns-clause-made
returns-clause-made c =
    let clear = c.copy_from.ensures ∙ c.requires.blank in
    filled-front c.args.p.now c.requires.some c.args.items.now.items c.requires.fits c.args.front c.requires.front c.put_elements.new.content c.mark_run.new.last c.copy_from.new.self.stai c.last_active-into.result c.strobe_first-into.result
    c.from.result c.copy_from.new.self.user c.put_elements.ensures c.from.ensures c.mark_run.ensures (ap (λ (t : Transfer). t.stai) clear) c.last_active-into.ensures c.strobe_first-into.ensures (ap (λ (t : Transfer). t.user) clear)

pub returns-clause-fits : goal.returns-clause-fits
returns-clause-fits c =
    let clear = c.copy_from.ensures ∙ c.requires.blank in
    subst (Fits c.args.p.now)
    (sym (filled-front c.args.p.now c.requires.some c.args.items.now.items c.requires.fits c.args.front c.requires.front c.put_elements.new.content c.mark_run.new.last c.copy_from.new.self.stai c.last_active-into.result c.strobe_first-into.result
    c.from.result c.copy_from.new.self.user c.put_elements.ensures c.from.ensures c.mark_run.ensures (ap (λ (t : Transfer). t.stai) clear) c.last_active-into.ensures c.strobe_first-into.ensures (ap (λ (t : Transfer). t.user) clear)))
    (front-fits c.args.p.now c.requires.some c.args.items.now.items c.requires.fits)
