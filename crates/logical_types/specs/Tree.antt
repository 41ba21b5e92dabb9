-- A logical type as plain data. This project's own.
use Rattle.std.specs.Prelude.{ℕ, suc, Bool, false, true, ◌||◌, List, [], ◌∷◌}
use Rattle.tydi_base.specs.Frac.{Fraction}
use Rattle.tydi_base.specs.Level.{LevelNumbers}
use Rattle.logical_types.specs.declared.ltype.LType.{LType}
use Rattle.logical_types.specs.declared.ltype.LType.TheOpen.{LType-F, Part-F, StreamType-F}
use Rattle.logical_types.specs.declared.ltype.LType.TheFolds.{fold-LType}
use Rattle.logical_types.specs.declared.ltype.Part.{Part}
use Rattle.logical_types.specs.declared.ltype.StreamType.{StreamType}
use Rattle.logical_types.specs.declared.ltype.Sync.{Sync}

-- the arguments of a Stream that hold no type
pub record Settings : Type 0 where
  pub throughput : Fraction
  pub dims : ℕ
  pub sync : Sync
  pub level : LevelNumbers
  pub reverse : Bool
  pub keep : Bool

-- a type, and the parts of a Group or a Union; a Stream's data type stands before its user type
mutual
  pub data Ltype : Type 0 where
    null : Ltype
    bits : ℕ → Ltype
    group : Parts → Ltype
    union : Parts → Ltype
    stream : Ltype → Ltype → Settings → Ltype

  pub data Parts : Type 0 where
    no_parts : Parts
    part : List ℕ → Ltype → Parts → Parts

-- ---- the plain data of a type

-- a part
pub record PlainPart : Type 0 where
  pub name : List ℕ
  pub ltype : Ltype

-- the arguments of a Stream
pub record PlainStream : Type 0 where
  pub element : Ltype
  pub user : Ltype
  pub settings : Settings

-- the type that is a Stream with these arguments
abbrev pub stream_type : PlainStream → Ltype
stream_type one = stream one.element one.user one.settings

-- parts as plain data, of a list of them
abbrev pub parts_of : List PlainPart → Parts
parts_of [] = no_parts
parts_of (first ∷ more) = part first.name first.ltype (parts_of more)

-- one layer of a type, with plain data in place of what it holds
abbrev pub plain_type : LType-F Ltype PlainPart PlainStream → Ltype
plain_type LType-F.Null = null
plain_type (LType-F.Bits width) = bits width
plain_type (LType-F.Group parts) = group (parts_of parts)
plain_type (LType-F.Union parts) = union (parts_of parts)
plain_type (LType-F.Stream inside) = stream_type inside

-- one layer of a part
abbrev pub plain_part : Part-F Ltype PlainPart PlainStream → PlainPart
plain_part one = record { name = one.name; ltype = one.ltype }

-- one layer of a Stream
abbrev pub plain_stream : StreamType-F Ltype PlainPart PlainStream → PlainStream
plain_stream one = record {
  element = one.element;
  user = one.user;
  settings = record { throughput = one.throughput; dims = one.dims; sync = one.sync; level = one.level; reverse = one.reverse; keep = one.keep };
}

-- the plain data of a type
abbrev pub plain : LType → Ltype
plain = fold-LType Ltype PlainPart PlainStream plain_type plain_part plain_stream

-- the arguments of a Stream that hold no type
abbrev pub settings_of : StreamType → Settings
settings_of one = record {
  throughput = one.throughput;
  dims = one.dims;
  sync = one.sync;
  level = one.level;
  reverse = one.reverse;
  keep = one.keep;
}

-- the plain data of a Stream
abbrev pub plain_of_stream : StreamType → Ltype
plain_of_stream one = stream (plain one.element) (plain one.user) (settings_of one)

-- the plain data of parts
abbrev pub plain_parts : List Part → Parts
plain_parts [] = no_parts
plain_parts (first ∷ more) = part first.name (plain first.ltype) (plain_parts more)

-- ---- the parts of a type

-- how many parts there are
abbrev pub number_of_parts : Parts → ℕ
number_of_parts no_parts = 0
number_of_parts (part name ltype more) = suc (number_of_parts more)

-- the names of parts
abbrev pub names_of : Parts → List (List ℕ)
names_of no_parts = []
names_of (part name ltype more) = name ∷ names_of more

-- a Stream stands in the type, or is it
abbrev mutual
  pub has_stream : Ltype → Bool
  has_stream null = false
  has_stream (bits width) = false
  has_stream (group parts) = have_stream parts
  has_stream (union parts) = have_stream parts
  has_stream (stream element user settings) = true

  pub have_stream : Parts → Bool
  have_stream no_parts = false
  have_stream (part name ltype more) = has_stream ltype || have_stream more
