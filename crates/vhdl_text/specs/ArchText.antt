-- The text of an entity and of its architecture, in VHDL (IEEE 1076, design entities; the few forms that are written are this project's
-- own).
use Rattle.std.specs.Prelude.{ℕ, ◌-◌, Bool, true, false, List, [], ◌∷◌, ◌++◌, Option, Some, None, codes, decimal}
use Rattle.std.specs.List.{flat_map}
use Rattle.tydi_base.specs.Binary.{binary_of}
use Rattle.tydi_base.specs.Path.{path_text}
use Rattle.vhdl_text.specs.Text.{◌⁀◌}
use Rattle.vhdl_text.specs.declared.arch.Arch.{Arch}
use Rattle.vhdl_text.specs.declared.arch.ArchPort.{ArchPort}
use Rattle.vhdl_text.specs.declared.arch.ArchWire.{ArchWire}
use Rattle.vhdl_text.specs.declared.arch.ArchPart.{ArchPart}
use Rattle.vhdl_text.specs.declared.arch.ArchMap.{ArchMap}
use Rattle.vhdl_text.specs.declared.arch.ArchSet.{ArchSet}
use Rattle.vhdl_text.specs.declared.arch.ArchSource.{ArchSource}
use Rattle.vhdl_text.specs.declared.arch.ArchSource.TheVariants as sources

-- ---- parts

-- the texts of things with a mark between each two of them
abbrev pub separated : {A : Type 0} → List ℕ → (A → List ℕ) → List A → List ℕ
separated mark text [] = []
separated mark text (first ∷ others) = text first ⁀ flat_map (λ one. mark ⁀ text one) others

-- the name of the entity of a streamlet: its path, as an extended identifier
abbrev pub entity_name : List (List ℕ) → List ℕ
entity_name path = codes "\\" ⁀ path_text path ⁀ codes "\\"

-- the type of a port or a signal: a vector of so many bits, or one bit
abbrev pub type_text : Option ℕ → List ℕ
type_text None = codes "std_logic"
type_text (Some width) = codes "std_logic_vector(" ⁀ decimal (width - 1) ⁀ codes " downto 0)"

-- ---- the entity

-- the mode of a port
abbrev pub mode_text : Bool → List ℕ
mode_text true = codes "out "
mode_text false = codes "in "

-- the line of a port, without what ends it
abbrev pub port_line : ArchPort → List ℕ
port_line port = codes "    " ⁀ port.name ⁀ codes " : " ⁀ mode_text port.outward ⁀ type_text port.width

-- the entity, with the library and the package that it uses in front
abbrev pub entity_text : Arch → List ℕ
entity_text arch =
    codes "library ieee;\nuse ieee.std_logic_1164.all;\nentity " ⁀ entity_name arch.name ⁀ codes " is\n  port (\n"
    ⁀ separated (codes ";\n") port_line arch.ports ⁀ codes "\n  );\nend entity;\n"

-- ---- the architecture

-- the declaration of a signal
abbrev pub wire_line : ArchWire → List ℕ
wire_line wire = codes "  signal " ⁀ wire.name ⁀ codes " : " ⁀ type_text wire.width ⁀ codes ";\n"

-- a port of an instance and what it is connected to, without what ends the line
abbrev pub map_line : ArchMap → List ℕ
map_line one = codes "    " ⁀ one.port ⁀ codes " => " ⁀ one.wire

-- an instance with its port map
abbrev pub part_text : ArchPart → List ℕ
part_text part =
    codes "  \\" ⁀ part.name ⁀ codes "\\ : entity work." ⁀ entity_name part.entity ⁀ codes " port map (\n" ⁀ separated (codes ",\n") map_line part.maps ⁀ codes "\n  );\n"

-- the source of an assignment: a name, or a vector in quotation marks with the highest bit first
abbrev pub source_text : ArchSource → List ℕ
source_text (sources.Wire name) = name
source_text (sources.Constant bits) = codes "\"" ⁀ binary_of bits ⁀ codes "\""

-- an assignment
abbrev pub set_line : ArchSet → List ℕ
set_line set = codes "  " ⁀ set.target ⁀ codes " <= " ⁀ source_text set.source ⁀ codes ";\n"

-- the architecture: its signals, its instances and its assignments
abbrev pub body_text : Arch → List ℕ
body_text arch =
    codes "architecture structural of " ⁀ entity_name arch.name ⁀ codes " is\n" ⁀ flat_map wire_line arch.wires ⁀ codes "begin\n"
    ⁀ flat_map part_text arch.parts ⁀ flat_map set_line arch.sets ⁀ codes "end architecture;\n"

-- the architecture where there is one
abbrev pub body_where : Bool → Arch → List ℕ
body_where true arch = body_text arch
body_where false arch = []

-- the text of an entity, and of its architecture where it has one
abbrev pub arch_text : Arch → List ℕ
arch_text arch = entity_text arch ⁀ body_where arch.has_body arch
