use Rattle.std.proofs.Common.{◌≡◌, ◌++◌, take}
use Rattle.std.specs.List.{flat_map}
use Rattle.tydi_base.proofs.writing.EachWritten.write_to.Given as goal

-- the texts so far stand behind what was there
abbrev pub invariant-things : goal.invariant-things
invariant-things g l = l.out ≡ l.initial.out ++ flat_map g.T.Written.text (take l.thing-index l.thing-items)
