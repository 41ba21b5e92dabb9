use Rattle.std.proofs.Common.{◌≡◌, ◌++◌, take}
use Rattle.std.specs.List.{flat_map}
use Rattle.til_parser.proofs.written.EachAfterWritten.write_to.Given as goal

-- the texts so far stand behind what was there
abbrev pub invariant-things : goal.invariant-things
invariant-things g l = l.out ≡ l.initial.out ++ flat_map (λ thing. l.fn.self.0.now ++ g.T.Written.text thing) (take l.thing-index l.thing-items)
