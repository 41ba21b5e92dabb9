-- The text of a module, by evaluation.
use Rattle.std.proofs.Common.{◌≡◌, refl, true, false, List, [], ◌∷◌, ◌++◌, Option, Some, None}
use Rattle.std.specs.Prelude.{ℕ, codes}
use Rattle.std.specs.Fmt.{digits}
use Rattle.tydi_base.specs.Binary.{binary_of}
use Rattle.vhdl_text.specs.VerilogText.{instance_name, module_text, source_text, verilog_name}
use Rattle.vhdl_text.specs.declared.arch.Arch.{Arch}
use Rattle.vhdl_text.specs.declared.arch.ArchMap.{ArchMap}
use Rattle.vhdl_text.specs.declared.arch.ArchPort.{ArchPort}
use Rattle.vhdl_text.specs.declared.arch.ArchSource.TheVariants as sources

-- a port of one bit
abbrev bit : List ℕ → Option ℕ → ArchPort
bit name width = record { name = name; outward = false; width = width }

-- the clock and the reset go through to an instance
abbrev through : List ℕ → ArchMap
through name = record { port = name; wire = name }

-- a streamlet with a stream and an instance
abbrev top : Arch
top = record {
  name = codes "video" ∷ codes "top" ∷ [];
  ports =
      bit (codes "clk") None ∷ bit (codes "rst") None ∷ bit (codes "\\a.valid\\") None
      ∷ record { name = codes "\\a.ready\\"; outward = true; width = None } ∷ bit (codes "\\a.data\\") (Some 48) ∷ [];
  has_body = true;
  wires = record { name = codes "\\i.a.valid\\"; width = None } ∷ [];
  parts = record {
    name = codes "i";
    entity = codes "video" ∷ codes "invert" ∷ [];
    maps = through (codes "clk") ∷ through (codes "rst") ∷ record { port = codes "\\a.valid\\"; wire = codes "\\i.a.valid\\" } ∷ [];
  } ∷ [];
  sets = record { target = codes "\\i.a.valid\\"; source = sources.Wire (codes "\\a.valid\\") } ∷ [];
}

a_module_has_these_lines : module_text top
    ≡ codes "module \\video.top (\n" ++ codes "  input wire clk,\n" ++ codes "  input wire rst,\n" ++ codes "  input wire \\a.valid ,\n" ++ codes "  output wire \\a.ready ,\n"
    ++ codes "  input wire [47:0] \\a.data \n" ++ codes ");\n" ++ codes "  wire \\i.a.valid ;\n" ++ codes "  \\video.invert \\i (\n" ++ codes "    .clk(clk),\n" ++ codes "    .rst(rst),\n"
    ++ codes "    .\\a.valid (\\i.a.valid )\n" ++ codes "  );\n" ++ codes "  assign \\i.a.valid = \\a.valid ;\n" ++ codes "endmodule\n"
unfolding digits
a_module_has_these_lines = refl

-- a streamlet without an architecture
abbrev leaf : Arch
leaf = record { name = codes "invert" ∷ []; ports = bit (codes "\\a.last\\") (Some 1) ∷ []; has_body = false; wires = []; parts = []; sets = [] }

a_leaf_includes_a_file : module_text leaf ≡ codes "module \\invert (\n" ++ codes "  input wire [0:0] \\a.last \n" ++ codes ");\n" ++ codes "  `include \"invert.vh\"\n" ++ codes "endmodule\n"
unfolding digits
a_leaf_includes_a_file = refl

-- the highest bit of a number stands first
a_number_has_these_digits : source_text (sources.Constant (true ∷ false ∷ false ∷ [])) ≡ codes "3'b001"
unfolding binary_of digits
a_number_has_these_digits = refl

-- an instance is not named as the clock is
an_instance_is_not_the_clock : instance_name (codes "clk") ≡ codes "\\clk. "
an_instance_is_not_the_clock = refl

-- a plain name is the same in both languages
a_plain_name_is_the_same : verilog_name (codes "clk") ≡ codes "clk"
a_plain_name_is_the_same = refl
