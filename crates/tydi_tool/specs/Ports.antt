-- Ports of projects that words name, and their splits (this project's own).
use Rattle.std.specs.Prelude.{ℕ, true, List, [], ◌∷◌, ◌++◌, Option, Some, None, option_and_then, Result, Ok, Err, if◌then◌else◌}
use Rattle.std.specs.List.{join_with_byte}
use Rattle.tydi_base.specs.Name.{is_name}
use Rattle.tydi_base.specs.Path.{path_at}
use Rattle.tydi_base.specs.Pieces.{pieces_of}
use Rattle.logical_types.specs.Tree.{Ltype}
use Rattle.til_resolve.specs.PlainProject.{PlainPort, PlainProject, plain_port_at}
use Rattle.type_split.specs.Streams.{PlainSplit, clash_of, split_of}
use Rattle.tydi_tool.specs.Refusals.{Refusal, name_clash, no_port}

-- ---- the words of ports

-- a path with a name behind it, where the text is one
abbrev pub with_name : Option (List (List ℕ)) → List ℕ → Option (List (List ℕ))
with_name None name = None
with_name (Some names) name = if is_name name then Some (names ++ name ∷ []) else None

-- the path of a port whose word has these pieces between points: what stands before the first point is the path of a streamlet, with
-- `::` between its names, and what stands behind it the name of the port
abbrev pub path_by : List (List ℕ) → Option (List (List ℕ))
path_by [] = None
path_by (front ∷ []) = None
path_by (front ∷ next ∷ more) = with_name (path_at true front) (join_with_byte 46 (next ∷ more))

-- the path that a word of a port is
abbrev pub port_path : List ℕ → Option (List (List ℕ))
port_path word = path_by (pieces_of 46 word)

-- the port of a project that a word names
abbrev pub port_named : PlainProject → List ℕ → Option PlainPort
port_named project word = option_and_then (plain_port_at project.streamlets) (port_path word)

-- ---- the split of a port

-- the split of a type, unless two of its physical streams clash on this path
abbrev pub split_unless : Ltype → Option (List (List ℕ)) → Result PlainSplit Refusal
split_unless ltype None = Ok (split_of ltype)
split_unless ltype (Some path) = Err (name_clash path)

-- the split of the port that a word names, if it names one
abbrev pub split_found : List ℕ → Option PlainPort → Result PlainSplit Refusal
split_found word None = Err (no_port word)
split_found word (Some port) = split_unless port.ltype (clash_of port.ltype)

-- the split of the port of a project that a word names, or why there is none
abbrev pub split_at : PlainProject → List ℕ → Result PlainSplit Refusal
split_at project word = split_found word (port_named project word)
