-- The first port of a project of which two physical streams have one path, by its names (this project's own).
use Rattle.std.specs.Prelude.{◌≡◌, ℕ, List, [], ◌∷◌, Option, None, option_map}
use Rattle.std.specs.Option.{option_or}
use Rattle.til_resolve.specs.PlainProject.{PlainPort, PlainStreamlet}
use Rattle.type_split.specs.Streams.{clash_of}
use Rattle.vhdl_writer.specs.Clashes as reported
use Rattle.vhdl_writer.specs.declared.clash.Clash.{Clash}

-- the clash of a port of a streamlet of this path
abbrev pub clash_at : List (List ℕ) → PlainPort → Option Clash
clash_at streamlet port = option_map (λ path. record { streamlet = streamlet; port = port.name; path = path }) (clash_of port.ltype)

-- the first of these ports that has one
abbrev pub clash_in : List (List ℕ) → List PlainPort → Option Clash
clash_in streamlet [] = None
clash_in streamlet (port ∷ more) = option_or (clash_at streamlet port) (clash_in streamlet more)

-- the first clash of streamlets, whose ports stand in text order
abbrev pub first_clash : List PlainStreamlet → Option Clash
first_clash [] = None
first_clash (one ∷ more) = option_or (clash_in one.path one.ports) (first_clash more)

-- the path of a clash is the one that `architecture` reports
abbrev pub FirstClashIsReported : Type 0
FirstClashIsReported = (streamlets : List PlainStreamlet) → reported.first_clash streamlets ≡ option_map (λ (clash : Clash). clash.path) (first_clash streamlets)
