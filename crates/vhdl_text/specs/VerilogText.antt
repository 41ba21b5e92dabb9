-- The text of an entity and of its architecture as a module, in Verilog (IEEE 1364-2001, modules; the few forms that are written are this
-- project's own).
use Rattle.std.specs.Prelude.{ℕ, ◌-◌, nat_eq, Bool, true, false, ◌||◌, List, [], ◌∷◌, length, take, Option, Some, None, codes, decimal, if◌then◌else◌}
use Rattle.std.specs.List.{flat_map}
use Rattle.std.specs.Str.{bytes_eq}
use Rattle.tydi_base.specs.Binary.{binary_of}
use Rattle.tydi_base.specs.Path.{path_text}
use Rattle.vhdl_text.specs.ArchText.{arch_text, separated}
use Rattle.vhdl_text.specs.Text.{◌⁀◌}
use Rattle.vhdl_text.specs.declared.arch.Arch.{Arch}
use Rattle.vhdl_text.specs.declared.arch.ArchPort.{ArchPort}
use Rattle.vhdl_text.specs.declared.arch.ArchWire.{ArchWire}
use Rattle.vhdl_text.specs.declared.arch.ArchPart.{ArchPart}
use Rattle.vhdl_text.specs.declared.arch.ArchMap.{ArchMap}
use Rattle.vhdl_text.specs.declared.arch.ArchSet.{ArchSet}
use Rattle.vhdl_text.specs.declared.arch.ArchSource.{ArchSource}
use Rattle.vhdl_text.specs.declared.arch.ArchSource.TheVariants as sources
use Rattle.vhdl_text.specs.declared.language.Language.{Language}
use Rattle.vhdl_text.specs.declared.language.Language.TheVariants as languages

-- ---- names

-- whether a VHDL identifier is an extended one, which stands between backslashes
abbrev pub is_extended : List ℕ → Bool
is_extended [] = false
is_extended (first ∷ others) = nat_eq first 92

-- a VHDL identifier in Verilog: an extended one is an escaped identifier of the same letters, which a space ends in the place of its last
-- backslash, and a plain one is the same
abbrev pub verilog_name : List ℕ → List ℕ
verilog_name name = if is_extended name then take (length name - 1) name ⁀ codes " " else name

-- the name of the module of a streamlet: its path, as an escaped identifier
abbrev pub module_name : List (List ℕ) → List ℕ
module_name path = codes "\\" ⁀ path_text path ⁀ codes " "

-- what stands behind the name of an instance: a point where it is that of the clock or the reset. In Verilog an escaped identifier is the
-- same as a plain one of its letters, and the instances, ports and wires of a module share their names. No other name there can be that of
-- the clock or the reset, or of such an instance: the name of a signal has a point inside it and a signal's word behind that, and no name of
-- an instance has a point of its own. The name of a module can be either, since modules have a space of names of their own.
abbrev pub point_after : List ℕ → List ℕ
point_after name = if bytes_eq name (codes "clk") || bytes_eq name (codes "rst") then codes "." else []

-- the name of an instance, as an escaped identifier
abbrev pub instance_name : List ℕ → List ℕ
instance_name name = codes "\\" ⁀ name ⁀ point_after name ⁀ codes " "

-- ---- ports and wires

-- the range of a vector of so many bits; nothing where there is one bit
abbrev pub range_text : Option ℕ → List ℕ
range_text None = []
range_text (Some width) = codes "[" ⁀ decimal (width - 1) ⁀ codes ":0] "

-- the direction of a port
abbrev pub direction_text : Bool → List ℕ
direction_text true = codes "output wire "
direction_text false = codes "input wire "

-- the line of a port, without what ends it
abbrev pub port_line : ArchPort → List ℕ
port_line port = codes "  " ⁀ direction_text port.outward ⁀ range_text port.width ⁀ verilog_name port.name

-- the declaration of a wire
abbrev pub wire_line : ArchWire → List ℕ
wire_line wire = codes "  wire " ⁀ range_text wire.width ⁀ verilog_name wire.name ⁀ codes ";\n"

-- ---- instances and assignments

-- a port of an instance and what it is connected to, without what ends the line
abbrev pub map_line : ArchMap → List ℕ
map_line one = codes "    ." ⁀ verilog_name one.port ⁀ codes "(" ⁀ verilog_name one.wire ⁀ codes ")"

-- an instance with its connections
abbrev pub part_text : ArchPart → List ℕ
part_text part =
    codes "  " ⁀ module_name part.entity ⁀ instance_name part.name ⁀ codes "(\n" ⁀ separated (codes ",\n") map_line part.maps ⁀ codes "\n  );\n"

-- a binary number of so many bits as the word has, the highest first
abbrev pub number_text : List Bool → List ℕ
number_text bits = decimal (length bits) ⁀ codes "'b" ⁀ binary_of bits

-- the source of an assignment
abbrev pub source_text : ArchSource → List ℕ
source_text (sources.Wire name) = verilog_name name
source_text (sources.Constant bits) = number_text bits

-- an assignment. The space that ends an escaped identifier stands in front of the equals sign.
abbrev pub set_line : ArchSet → List ℕ
set_line set = codes "  assign " ⁀ verilog_name set.target ⁀ codes "= " ⁀ source_text set.source ⁀ codes ";\n"

-- ---- modules

-- the wires, instances and assignments of an architecture
abbrev pub structure_text : Arch → List ℕ
structure_text arch = flat_map wire_line arch.wires ⁀ flat_map part_text arch.parts ⁀ flat_map set_line arch.sets

-- the line that takes the body of a module from a file of its name
abbrev pub include_line : List (List ℕ) → List ℕ
include_line path = codes "  `include \"" ⁀ path_text path ⁀ codes ".vh\"\n"

-- the body of a module: its architecture where there is one
abbrev pub module_body : Bool → Arch → List ℕ
module_body true arch = structure_text arch
module_body false arch = include_line arch.name

-- the text of an entity, and of its architecture where it has one, as a module
abbrev pub module_text : Arch → List ℕ
module_text arch =
    codes "module " ⁀ module_name arch.name ⁀ codes "(\n" ⁀ separated (codes ",\n") port_line arch.ports ⁀ codes "\n);\n"
    ⁀ module_body arch.has_body arch ⁀ codes "endmodule\n"

-- the text in a language
abbrev pub text_in : Language → Arch → List ℕ
text_in languages.Vhdl arch = arch_text arch
text_in languages.Verilog arch = module_text arch
