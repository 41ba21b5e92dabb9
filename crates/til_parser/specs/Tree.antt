-- The tree of a type as plain data. This project's own.
use Rattle.std.specs.Prelude.{ℕ, suc, max, Bool, List, [], ◌∷◌}
use Rattle.tydi_base.specs.Frac.{Fraction}
use Rattle.tydi_base.specs.Level.{LevelNumbers}
use Rattle.til_parser.specs.declared.ltype.AstType.{AstType}
use Rattle.til_parser.specs.declared.ltype.AstType.TheOpen.{AstType-F, AstPart-F, AstStream-F}
use Rattle.til_parser.specs.declared.ltype.AstType.TheFolds.{fold-AstType}
use Rattle.til_parser.specs.declared.ltype.AstStream.{AstStream}
use Rattle.til_parser.specs.declared.ltype.AstSync.{AstSync}
use Rattle.til_parser.specs.declared.tree.AstName.{AstName}

-- the arguments of a Stream that hold no type
pub record Settings : Type 0 where
  pub throughput : Fraction
  pub dims : ℕ
  pub sync : AstSync
  pub level : LevelNumbers
  pub reverse : Bool
  pub keep : Bool

-- those of a Stream
abbrev pub settings_of : AstStream → Settings
settings_of one = record {
  throughput = one.throughput;
  dims = one.dims;
  sync = one.sync;
  level = one.level;
  reverse = one.reverse;
  keep = one.keep;
}

-- a type, and the parts of a Group or a Union; a Stream's data type stands before its user type
mutual
  pub data Ltype : Type 0 where
    null : Ltype
    bits : ℕ → Ltype
    group : Parts → Ltype
    union : Parts → Ltype
    stream : Ltype → Ltype → Settings → Ltype
    path : List AstName → Ltype

  pub data Parts : Type 0 where
    no_parts : Parts
    part : AstName → Ltype → Parts → Parts

-- ---- the plain data of a tree

-- a part
pub record PlainPart : Type 0 where
  pub name : AstName
  pub ltype : Ltype

-- the arguments of a Stream
pub record PlainStream : Type 0 where
  pub element : Ltype
  pub user : Ltype
  pub settings : Settings

-- parts as plain data, of a list of them
abbrev pub parts_of : List PlainPart → Parts
parts_of [] = no_parts
parts_of (first ∷ more) = part first.name first.ltype (parts_of more)

-- one layer of a tree, with plain data in place of what it holds
abbrev pub plain_type : AstType-F Ltype PlainPart PlainStream → Ltype
plain_type AstType-F.Null = null
plain_type (AstType-F.Bits width) = bits width
plain_type (AstType-F.Group parts) = group (parts_of parts)
plain_type (AstType-F.Union parts) = union (parts_of parts)
plain_type (AstType-F.Stream inside) = stream inside.element inside.user inside.settings
plain_type (AstType-F.Path names) = path names.names

-- one layer of a part
abbrev pub plain_part : AstPart-F Ltype PlainPart PlainStream → PlainPart
plain_part one = record { name = one.name; ltype = one.ltype }

-- one layer of a Stream
abbrev pub plain_stream : AstStream-F Ltype PlainPart PlainStream → PlainStream
plain_stream one = record {
  element = one.element;
  user = one.user;
  settings = record { throughput = one.throughput; dims = one.dims; sync = one.sync; level = one.level; reverse = one.reverse; keep = one.keep };
}

-- the plain data of a type
abbrev pub plain : AstType → Ltype
plain = fold-AstType Ltype PlainPart PlainStream plain_type plain_part plain_stream

-- ---- how deep types nest: one for a type with none in it

abbrev mutual
  pub depth : Ltype → ℕ
  depth null = 1
  depth (bits width) = 1
  depth (group parts) = suc (depth_of_parts parts)
  depth (union parts) = suc (depth_of_parts parts)
  depth (stream element user settings) = suc (max (depth element) (depth user))
  depth (path names) = 1

  pub depth_of_parts : Parts → ℕ
  depth_of_parts no_parts = 0
  depth_of_parts (part name ltype more) = max (depth ltype) (depth_of_parts more)
