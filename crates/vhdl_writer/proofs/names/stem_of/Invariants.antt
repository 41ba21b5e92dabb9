use Rattle.std.proofs.Common.{◌≡◌, ◌++◌, ◌∷◌, string_bytes, take}
use Rattle.std.specs.List.{flat_map}
use Rattle.vhdl_writer.proofs.names.stem_of.Given as goal

-- the port and the names so far
abbrev pub invariant-names : goal.invariant-names
invariant-names l = string_bytes l.string ≡ l.port ++ flat_map (λ name. 46 ∷ name) (take l.name-index l.name-items)
