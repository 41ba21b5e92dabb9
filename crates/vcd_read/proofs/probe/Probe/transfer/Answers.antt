use Rattle.std.proofs.Common.{◌≤◌, ◌∙◌, ◌-◌, ◌^◌, ap, subst}
use Rattle.vcd_read.specs.Probes.{number_by, word_by, words_before}
use Rattle.vcd_read.proofs.ProbeLemmas.{short-endi, short-stai, short-strb, transfer-is}
use Rattle.vcd_read.proofs.probe.Probe.transfer.Goals as goal

pub index-stai-requires : goal.index-stai-requires
index-stai-requires c = short-stai (words_before c.args.wires.now) c.args.self.now c.requires.probed c.requires.fits (subst (λ n. n ≤ 128)
    c.lanes_of-lanes.ensures.value c.lanes_of-lanes.ensures.few)

pub index-endi-requires : goal.index-endi-requires
index-endi-requires c = short-endi (words_before c.args.wires.now) c.args.self.now c.requires.probed c.requires.fits (subst (λ n. n ≤ 128)
    c.lanes_of-lanes.ensures.value c.lanes_of-lanes.ensures.few)

pub strobe-strb-requires : goal.strobe-strb-requires
strobe-strb-requires c = short-strb (words_before c.args.wires.now) c.args.self.now c.requires.probed c.requires.fits (subst (λ n. n ≤ 128)
    c.lanes_of-lanes.ensures.value c.lanes_of-lanes.ensures.few)

pub returns : goal.returns
returns c =
    let words = words_before c.args.wires.now in let self = c.args.self.now in
    let lanes = c.lanes_of-lanes.ensures.value in
    transfer-is words self c.requires.probed c.requires.told c.in_ok-content.content c.in_ok-last.last c.in_ok-user.user c.index-stai.result
    c.index-endi.result c.strobe-strb.result
    c.in_ok-content.ensures c.in_ok-last.ensures c.in_ok-user.ensures c.index-stai.ensures
    (c.index-endi.ensures ∙ ap (λ n. number_by (word_by words self.endi) (n - 1)) lanes)
    (c.strobe-strb.ensures ∙ ap (number_by (word_by words self.strb)) (c.all_lanes.ensures ∙ ap (λ n. 2 ^ n - 1) lanes))
