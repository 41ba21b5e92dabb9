use Rattle.std.proofs.Common.{◌≡◌, ◌++◌, take}
use Rattle.std.specs.List.{flat_map}
use Rattle.vhdl_text.proofs.separated.MarkedWritten.write_to.Given as goal

-- the texts so far, each with its mark, stand behind what was there
abbrev pub invariant-things : goal.invariant-things
invariant-things g l = l.out ≡ l.initial.out ++ flat_map (λ one. l.self.0.now ++ g.F.Form.text one) (take l.thing-index l.thing-items)
