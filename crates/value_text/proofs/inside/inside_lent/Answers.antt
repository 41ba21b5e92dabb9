use Rattle.std.proofs.Common.{◌∙◌, refl, sym, ap}
use Rattle.logical_value.specs.Tree.{plain}
use Rattle.logical_value.proofs.PlainLemmas.{plain-Apart, plain-Null}
use Rattle.value_text.proofs.InsideLemmas.{inside-Group, inside-List, inside-Union, inside-Word}
use Rattle.value_text.proofs.inside.inside_lent.Goals as goal

pub returns-in-Null : goal.returns-in-Null
returns-in-Null c = sym (ap plain c.in-Null.is ∙ plain-Null)

pub returns-in-Word : goal.returns-in-Word
returns-in-Word c = inside-Word c.args.value.now c.in-Word.bits _ c.in-Word.is refl

pub returns-in-Group : goal.returns-in-Group
returns-in-Group c = inside-Group c.args.value.now c.in-Group.parts _ c.in-Group.is c.as_slice.ensures

pub returns-in-Union : goal.returns-in-Union
returns-in-Union c = inside-Union c.args.value.now c.in-Union.tag c.in-Union.part _ c.in-Union.is c.get.ensures

pub returns-in-List : goal.returns-in-List
returns-in-List c = inside-List c.args.value.now c.in-List.parts _ c.in-List.is c.as_slice-in-List.ensures

pub returns-in-Apart : goal.returns-in-Apart
returns-in-Apart c = sym (ap plain c.in-Apart.is ∙ plain-Apart)
