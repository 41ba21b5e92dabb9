-- The nets of a project as a text (this project's own): for each implementation a line with the path of its streamlet, and then a line
-- for each net, the end that gives the data first.
use Rattle.std.specs.Prelude.{ℕ, List, [], ◌++◌, length, slice_get, nat_lt, Option, Some, None, codes, if◌then◌else◌}
use Rattle.std.specs.List.{flat_map}
use Rattle.tydi_base.specs.Path.{colon_text}
use Rattle.til_resolve.specs.PlainProject.{PlainStreamlet}
use Rattle.til_resolve.specs.declared.project.LinkEnd.{LinkEnd}
use Rattle.link_check.specs.declared.nets.ImplNets.{ImplNets}
use Rattle.link_check.specs.declared.nets.Net.{Net}
use Rattle.link_check.specs.declared.nets.Nets.{Nets}

-- the name of an instance in front of a port's
abbrev pub instance_text : Option (List ℕ) → List ℕ
instance_text None = []
instance_text (Some name) = name ++ codes "."

-- an end: the name of a port, behind that of its instance if it has one
abbrev pub end_text : LinkEnd → List ℕ
end_text end = instance_text end.instance ++ end.port

abbrev pub net_line : Net → List ℕ
net_line net = codes "net " ++ end_text net.source ++ codes " " ++ end_text net.sink ++ codes "\n"

-- the streamlet that an implementation is of
abbrev pub impl_line : Option PlainStreamlet → List ℕ
impl_line None = []
impl_line (Some streamlet) = codes "impl " ++ colon_text streamlet.path ++ codes "\n"

abbrev pub impl_text : List PlainStreamlet → ImplNets → List ℕ
impl_text streamlets impl = impl_line (slice_get streamlets impl.streamlet) ++ flat_map net_line impl.nets

abbrev pub nets_text : List PlainStreamlet → Nets → List ℕ
nets_text streamlets nets = flat_map (impl_text streamlets) nets.impls

-- a text of at most so many bytes; none where it is longer
abbrev pub within : ℕ → List ℕ → Option (List ℕ)
within limit text = if nat_lt limit (length text) then None else Some text
