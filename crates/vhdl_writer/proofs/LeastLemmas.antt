-- How long the text of an architecture is at least.
use Rattle.std.proofs.Common.{◌≡◌, ℕ, ◌+◌, ◌*◌, ◌≤◌, Bool, true, false, List, [], ◌∷◌, ◌++◌, map, length, Option, Some, None, codes, refl, sym, subst, arith}
use Rattle.std.specs.List.{flat_map}
use Rattle.std.proofs.lemmas.Grind.{flat_map-append}
use Rattle.std.proofs.lemmas.List.{length-append}
use Rattle.std.proofs.lemmas.List.Sums.{sum_by-cons}
use Rattle.til_resolve.specs.PlainProject.{PlainStreamlet}
use Rattle.til_resolve.specs.SoundProject.{instances_inside}
use Rattle.til_resolve.specs.declared.project.Impl.{Impl}
use Rattle.til_resolve.specs.declared.project.Impl.TheVariants as impls
use Rattle.til_resolve.specs.declared.project.Instance.{Instance}
use Rattle.link_check.specs.Chains.{is_structural}
use Rattle.link_check.specs.declared.nets.ImplNets.{ImplNets}
use Rattle.vhdl_text.specs.ArchText as vhdl
use Rattle.vhdl_text.specs.ArchText.{separated}
use Rattle.vhdl_text.specs.Text.{◌⁀◌}
use Rattle.vhdl_text.specs.VerilogText as verilog
use Rattle.vhdl_text.specs.VerilogText.{text_in, verilog_name}
use Rattle.vhdl_text.specs.declared.arch.Arch.{Arch}
use Rattle.vhdl_text.specs.declared.arch.ArchMap.{ArchMap}
use Rattle.vhdl_text.specs.declared.arch.ArchPart.{ArchPart}
use Rattle.vhdl_text.specs.declared.arch.ArchWire.{ArchWire}
use Rattle.vhdl_text.specs.declared.language.Language.{Language}
use Rattle.vhdl_text.specs.declared.language.Language.TheVariants as languages
use Rattle.vhdl_text.proofs.VerilogLemmas.{length-verilog_name}
use Rattle.vhdl_writer.specs.Architecture.{arch_of, map_of, maps_of, part_of, signals_at, through, wire_of, wires_of}
use Rattle.vhdl_writer.specs.Least.{least_of_instance, least_of_instances, least_of_signal, least_of_signals}
use Rattle.vhdl_writer.specs.Names.{name_under, quoted}
use Rattle.vhdl_writer.specs.declared.component.Component.{Component}
use Rattle.vhdl_writer.specs.declared.component.PortSignal.{PortSignal}

-- ---- texts one after another

joined : (x y : List ℕ) (m n : ℕ) → m ≤ length x → n ≤ length y → m + n ≤ length (x ⁀ y)
joined x y m n one other = omega (arith, length-append x y, one, other)

in-front : (x y : List ℕ) (n : ℕ) → n ≤ length x → n ≤ length (x ⁀ y)
in-front x y n one = omega (arith, length-append x y, one)

behind : (x y : List ℕ) (n : ℕ) → n ≤ length y → n ≤ length (x ⁀ y)
behind x y n one = omega (arith, length-append x y, one)

le-self : (n : ℕ) → n ≤ n
le-self n = omega arith

-- ---- names

quoted-long : (name : List ℕ) → length name + 2 ≤ length (quoted name)
quoted-long name = omega (arith, length-append (codes "\\" ++ name) (codes "\\"), length-append (codes "\\") name)

under-long : (instance name : List ℕ) → length instance + length name + 3 ≤ length (quoted (name_under instance name))
under-long instance name = omega (arith, quoted-long (name_under instance name), length-append (instance ++ codes ".") name, length-append instance (codes "."))

-- the same in Verilog
quoted-long-verilog : (name : List ℕ) → length name + 2 ≤ length (verilog_name (quoted name))
quoted-long-verilog name = omega (arith, quoted-long name, length-verilog_name (quoted name))

under-long-verilog : (instance name : List ℕ) → length instance + length name + 3 ≤ length (verilog_name (quoted (name_under instance name)))
under-long-verilog instance name = omega (arith, under-long instance name, length-verilog_name (quoted (name_under instance name)))

-- ---- the lines for a signal of an instance

-- a line that declares a signal
abbrev IsWireLong : (ArchWire → List ℕ) → Type 0
IsWireLong line = (instance : List ℕ) (signal : PortSignal) → length instance + length signal.name + 12 ≤ length (line (wire_of instance signal))

-- a line that connects a port
abbrev IsMapLong : (ArchMap → List ℕ) → Type 0
IsMapLong line = (instance : List ℕ) (signal : PortSignal) → length instance + 2 * length signal.name + 12 ≤ length (line (map_of instance signal))

wire-vhdl : IsWireLong vhdl.wire_line
wire-vhdl instance signal =
    let name = quoted (name_under instance signal.name) in
    let others = codes " : " ⁀ vhdl.type_text signal.width ⁀ codes ";\n" in
    let named = in-front name others (length instance + length signal.name + 3) (under-long instance signal.name) in
    omega (arith, joined (codes "  signal ") (name ⁀ others) 9 (length instance + length signal.name + 3) (le-self 9) named)

map-vhdl : IsMapLong vhdl.map_line
map-vhdl instance signal =
    let wire = quoted (name_under instance signal.name) in
    let arrow = joined (codes " => ") wire 4 (length instance + length signal.name + 3) (le-self 4) (under-long instance signal.name) in
    let named = joined (quoted signal.name) (codes " => " ⁀ wire) (length signal.name + 2) (4 + (length instance + length signal.name + 3)) (quoted-long signal.name) arrow in
    omega (arith, joined (codes "    ") (quoted signal.name ⁀ codes " => " ⁀ wire) 4 (length signal.name + 2 + (4 + (length instance + length signal.name + 3))) (le-self 4) named)

wire-verilog : IsWireLong verilog.wire_line
wire-verilog instance signal =
    let name = verilog_name (quoted (name_under instance signal.name)) in
    let named = joined name (codes ";\n") (length instance + length signal.name + 3) 2 (under-long-verilog instance signal.name) (le-self 2) in
    let ranged = behind (verilog.range_text signal.width) (name ⁀ codes ";\n") (length instance + length signal.name + 3 + 2) named in
    omega (arith, joined (codes "  wire ") (verilog.range_text signal.width ⁀ name ⁀ codes ";\n") 7 (length instance + length signal.name + 3 + 2) (le-self 7) ranged)

map-verilog : IsMapLong verilog.map_line
map-verilog instance signal =
    let port = verilog_name (quoted signal.name) in
    let wire = verilog_name (quoted (name_under instance signal.name)) in
    let closed = joined wire (codes ")") (length instance + length signal.name + 3) 1 (under-long-verilog instance signal.name) (le-self 1) in
    let opened = joined (codes "(") (wire ⁀ codes ")") 1 (length instance + length signal.name + 3 + 1) (le-self 1) closed in
    let named = joined port (codes "(" ⁀ wire ⁀ codes ")") (length signal.name + 2) (1 + (length instance + length signal.name + 3 + 1)) (quoted-long-verilog signal.name) opened in
    omega (arith, joined (codes "    .") (port ⁀ codes "(" ⁀ wire ⁀ codes ")") 5 (length signal.name + 2 + (1 + (length instance + length signal.name + 3 + 1))) (le-self 5) named)

-- ---- those of all signals of an instance

-- the bytes of the lines that declare its signals
abbrev wires_long : List ℕ → List PortSignal → ℕ
wires_long instance [] = 0
wires_long instance (signal ∷ more) = length instance + length signal.name + 12 + wires_long instance more

-- and of those that map its ports
abbrev maps_long : List ℕ → List PortSignal → ℕ
maps_long instance [] = 0
maps_long instance (signal ∷ more) = length instance + 2 * length signal.name + 12 + maps_long instance more

all-wires-long : (line : ArchWire → List ℕ) → IsWireLong line → (instance : List ℕ) (signals : List PortSignal) → wires_long instance signals ≤ length (flat_map line (map (wire_of instance) signals))
all-wires-long line long instance [] = omega arith
all-wires-long line long instance (signal ∷ more) =
    joined (line (wire_of instance signal)) (flat_map line (map (wire_of instance) more)) (length instance + length signal.name + 12) (wires_long instance more)
    (long instance signal) (all-wires-long line long instance more)

all-maps-long : (line : ArchMap → List ℕ) → IsMapLong line → (instance : List ℕ) (signals : List PortSignal)
    → maps_long instance signals ≤ length (flat_map (λ (one : ArchMap). codes ",\n" ⁀ line one) (map (map_of instance) signals))
all-maps-long line long instance [] = omega arith
all-maps-long line long instance (signal ∷ more) =
    joined (codes ",\n" ⁀ line (map_of instance signal)) (flat_map (λ (one : ArchMap). codes ",\n" ⁀ line one) (map (map_of instance) more)) (length instance + 2 * length signal.name + 12)
    (maps_long instance more) (behind (codes ",\n") (line (map_of instance signal)) (length instance + 2 * length signal.name + 12) (long instance signal)) (all-maps-long line long instance more)

separated-long : (line : ArchMap → List ℕ) → IsMapLong line → (maps : List ArchMap) (instance : List ℕ) (signals : List PortSignal) → maps ≡ maps_of instance signals
    → maps_long instance signals ≤ length (separated (codes ",\n") line maps)
separated-long line long maps instance signals are =
    subst (λ (all : List ArchMap). maps_long instance signals ≤ length (separated (codes ",\n") line all)) (sym are)
    (behind (line (through (codes "clk"))) (flat_map (λ (one : ArchMap). codes ",\n" ⁀ line one) (through (codes "rst") ∷ map (map_of instance) signals)) (maps_long instance signals)
    (behind (codes ",\n" ⁀ line (through (codes "rst"))) (flat_map (λ (one : ArchMap). codes ",\n" ⁀ line one) (map (map_of instance) signals)) (maps_long instance signals)
    (all-maps-long line long instance signals)))

-- the text of an instance
abbrev IsPartLong : (ArchPart → List ℕ) → Type 0
IsPartLong text = (part : ArchPart) (instance : List ℕ) (signals : List PortSignal) → part.maps ≡ maps_of instance signals → maps_long instance signals ≤ length (text part)

part-vhdl : IsPartLong vhdl.part_text
part-vhdl part instance signals maps =
    let least = maps_long instance signals in
    let all = separated (codes ",\n") vhdl.map_line part.maps ⁀ codes "\n  );\n" in
    behind (codes "  \\") (part.name ⁀ codes "\\ : entity work." ⁀ vhdl.entity_name part.entity ⁀ codes " port map (\n" ⁀ all) least
    (behind part.name (codes "\\ : entity work." ⁀ vhdl.entity_name part.entity ⁀ codes " port map (\n" ⁀ all) least
    (behind (codes "\\ : entity work.") (vhdl.entity_name part.entity ⁀ codes " port map (\n" ⁀ all) least
    (behind (vhdl.entity_name part.entity) (codes " port map (\n" ⁀ all) least
    (behind (codes " port map (\n") all least
    (in-front (separated (codes ",\n") vhdl.map_line part.maps) (codes "\n  );\n") least (separated-long vhdl.map_line map-vhdl part.maps instance signals maps))))))

part-verilog : IsPartLong verilog.part_text
part-verilog part instance signals maps =
    let least = maps_long instance signals in
    let all = separated (codes ",\n") verilog.map_line part.maps ⁀ codes "\n  );\n" in
    behind (codes "  ") (verilog.module_name part.entity ⁀ verilog.instance_name part.name ⁀ codes "(\n" ⁀ all) least
    (behind (verilog.module_name part.entity) (verilog.instance_name part.name ⁀ codes "(\n" ⁀ all) least
    (behind (verilog.instance_name part.name) (codes "(\n" ⁀ all) least
    (behind (codes "(\n") all least
    (in-front (separated (codes ",\n") verilog.map_line part.maps) (codes "\n  );\n") least (separated-long verilog.map_line map-verilog part.maps instance signals maps)))))

-- ---- those of all instances

both-long : (instance : List ℕ) (signals : List PortSignal) → least_of_signals instance signals ≡ wires_long instance signals + maps_long instance signals
both-long instance [] = refl
both-long instance (signal ∷ more) =
    let rest = both-long instance more in let cons = sum_by-cons (least_of_signal instance) signal more in omega (arith, rest, cons)

abbrev wires_of_all : List Component → List Instance → ℕ
wires_of_all components [] = 0
wires_of_all components (one ∷ more) = wires_long one.name (signals_at components one.streamlet) + wires_of_all components more

abbrev maps_of_all : List Component → List Instance → ℕ
maps_of_all components [] = 0
maps_of_all components (one ∷ more) = maps_long one.name (signals_at components one.streamlet) + maps_of_all components more

all-long : (components : List Component) (instances : List Instance) → least_of_instances components instances ≡ wires_of_all components instances + maps_of_all components instances
all-long components [] = refl
all-long components (one ∷ more) =
    let rest = all-long components more in
    let cons = sum_by-cons (least_of_instance components) one more in
    let first = both-long one.name (signals_at components one.streamlet) in omega (arith, rest, cons, first)

instances-wires : (line : ArchWire → List ℕ) → IsWireLong line → (components : List Component) (instances : List Instance)
    → wires_of_all components instances ≤ length (flat_map line (flat_map (wires_of components) instances))
instances-wires line long components [] = omega arith
instances-wires line long components (one ∷ more) =
    subst (λ (text : List ℕ). wires_of_all components (one ∷ more) ≤ length text) (sym (flat_map-append line (wires_of components one) (flat_map (wires_of components) more)))
    (joined (flat_map line (wires_of components one)) (flat_map line (flat_map (wires_of components) more)) (wires_long one.name (signals_at components one.streamlet)) (wires_of_all components more)
    (all-wires-long line long one.name (signals_at components one.streamlet)) (instances-wires line long components more))

instances-maps : (text : ArchPart → List ℕ) → IsPartLong text → (streamlets : List PlainStreamlet) (components : List Component) (instances : List Instance)
    → maps_of_all components instances ≤ length (flat_map text (map (part_of streamlets components) instances))
instances-maps text long streamlets components [] = omega arith
instances-maps text long streamlets components (one ∷ more) =
    joined (text (part_of streamlets components one)) (flat_map text (map (part_of streamlets components) more)) (maps_long one.name (signals_at components one.streamlet)) (maps_of_all components more)
    (long (part_of streamlets components one) one.name (signals_at components one.streamlet) refl) (instances-maps text long streamlets components more)

-- ---- the text of an architecture

-- it has at least so many bytes, where its wires and parts have them
abbrev IsBodyLong : (ArchWire → List ℕ) → (ArchPart → List ℕ) → (Arch → List ℕ) → Type 0
IsBodyLong line part body =
    (arch : Arch) (wires parts : ℕ) → wires ≤ length (flat_map line arch.wires) → parts ≤ length (flat_map part arch.parts) → wires + parts ≤ length (body arch)

body-vhdl : IsBodyLong vhdl.wire_line vhdl.part_text vhdl.body_text
body-vhdl arch wires parts one other =
    let sets = flat_map vhdl.set_line arch.sets ⁀ codes "end architecture;\n" in
    let inside = flat_map vhdl.wire_line arch.wires ⁀ codes "begin\n" ⁀ flat_map vhdl.part_text arch.parts ⁀ sets in
    behind (codes "architecture structural of ") (vhdl.entity_name arch.name ⁀ codes " is\n" ⁀ inside) (wires + parts)
    (behind (vhdl.entity_name arch.name) (codes " is\n" ⁀ inside) (wires + parts)
    (behind (codes " is\n") inside (wires + parts)
    (joined (flat_map vhdl.wire_line arch.wires) (codes "begin\n" ⁀ flat_map vhdl.part_text arch.parts ⁀ sets) wires parts one
    (behind (codes "begin\n") (flat_map vhdl.part_text arch.parts ⁀ sets) parts (in-front (flat_map vhdl.part_text arch.parts) sets parts other)))))

body-verilog : IsBodyLong verilog.wire_line verilog.part_text verilog.structure_text
body-verilog arch wires parts one other =
    let sets = flat_map verilog.set_line arch.sets in
    joined (flat_map verilog.wire_line arch.wires) (flat_map verilog.part_text arch.parts ⁀ sets) wires parts one (in-front (flat_map verilog.part_text arch.parts) sets parts other)

least-in-body : (line : ArchWire → List ℕ) (part : ArchPart → List ℕ) (body : Arch → List ℕ) → IsWireLong line → IsPartLong part → IsBodyLong line part body
    → (streamlets : List PlainStreamlet) (components : List Component) (impls : List ImplNets) (number : ℕ) (one : PlainStreamlet)
    → least_of_instances components (instances_inside one.body) ≤ length (body (arch_of streamlets components impls number one))
least-in-body line part body wires parts long streamlets components impls number one =
    subst (λ (least : ℕ). least ≤ length (body (arch_of streamlets components impls number one))) (sym (all-long components (instances_inside one.body)))
    (long (arch_of streamlets components impls number one) (wires_of_all components (instances_inside one.body)) (maps_of_all components (instances_inside one.body))
    (instances-wires line wires components (instances_inside one.body)) (instances-maps part parts streamlets components (instances_inside one.body)))

-- a streamlet has instances only where it has an architecture
body-where : (text : Bool → Arch → List ℕ) (arch : Arch) (has : Bool) (least : ℕ) → (has ≡ false → least ≡ 0) → least ≤ length (text true arch) → least ≤ length (text has arch)
body-where text arch true least none some = some
body-where text arch false least none some = omega (arith, none refl)

no-instances : (components : List Component) (body : Option Impl) → is_structural body ≡ false → least_of_instances components (instances_inside body) ≡ 0
no-instances components None is = refl
no-instances components (Some (impls.Linked text)) is = refl
no-instances components (Some (impls.Structural place instances links)) is = absurd cc

pub least-in-text : (language : Language) (streamlets : List PlainStreamlet) (components : List Component) (impls : List ImplNets) (number : ℕ) (one : PlainStreamlet)
    → least_of_instances components (instances_inside one.body) ≤ length (text_in language (arch_of streamlets components impls number one))
least-in-text languages.Vhdl streamlets components impls number one =
    let arch = arch_of streamlets components impls number one in
    let least = least_of_instances components (instances_inside one.body) in
    behind (vhdl.entity_text arch) (vhdl.body_where (is_structural one.body) arch) least
    (body-where vhdl.body_where arch (is_structural one.body) least (no-instances components one.body)
    (least-in-body vhdl.wire_line vhdl.part_text vhdl.body_text wire-vhdl part-vhdl body-vhdl streamlets components impls number one))
least-in-text languages.Verilog streamlets components impls number one =
    let arch = arch_of streamlets components impls number one in
    let least = least_of_instances components (instances_inside one.body) in
    let body = verilog.module_body (is_structural one.body) arch ⁀ codes "endmodule\n" in
    let ports = separated (codes ",\n") verilog.port_line arch.ports in
    behind (codes "module ") (verilog.module_name arch.name ⁀ codes "(\n" ⁀ ports ⁀ codes "\n);\n" ⁀ body) least
    (behind (verilog.module_name arch.name) (codes "(\n" ⁀ ports ⁀ codes "\n);\n" ⁀ body) least
    (behind (codes "(\n") (ports ⁀ codes "\n);\n" ⁀ body) least
    (behind ports (codes "\n);\n" ⁀ body) least
    (behind (codes "\n);\n") body least
    (in-front (verilog.module_body (is_structural one.body) arch) (codes "endmodule\n") least
    (body-where verilog.module_body arch (is_structural one.body) least (no-instances components one.body)
    (least-in-body verilog.wire_line verilog.part_text verilog.structure_text wire-verilog part-verilog body-verilog streamlets components impls number one)))))))
