use Rattle.std.proofs.Common.{◌≡◌, ◌∙◌, ◌+◌, ◌-◌, ◌/◌, arith, ap, drop, take}
use borrow.Rule.Slice.PartMut.{put_mid}
use Rattle.tydi_base.specs.Bits.{unpack}
use Rattle.tydi_base.proofs.SliceLemmas.{copied_whole}
use Rattle.tydi_base.proofs.slices.copy_whole.Goals as goal

pub returns-clause-copied : goal.returns-clause-copied
returns-clause-copied c =
    let number : c.args.at / 8 + c.args.count / 8 - c.args.at / 8 ≡ c.args.count / 8 = omega arith
    in let begun : c.args.from / 8 + c.args.count / 8 - c.args.from / 8 ≡ c.args.count / 8 = omega arith
    in ap (λ number. unpack (put_mid (c.args.at / 8) number c.args.bytes.now c.copy_bytes.new.bytes)) number
    ∙ copied_whole c.args.bytes.now c.args.source.now c.copy_bytes.new.bytes c.args.at c.args.from c.args.count (omega arith) (omega arith)
    c.requires.room c.requires.within (c.copy_bytes.ensures ∙ ap (λ number. take number (drop (c.args.from / 8) c.args.source.now)) begun)
