-- The type that a written type stands for, the names in it replaced.
use Rattle.std.specs.Prelude.{ℕ, zero, suc, Bool, false, true, List, length, Option, Some, None}
use Rattle.til_parser.specs.declared.ltype.AstSync.{AstSync}
use Rattle.til_parser.specs.declared.ltype.AstSync.TheVariants as written
use Rattle.til_parser.specs.declared.tree.AstKind.{AstKind}
use Rattle.til_parser.specs.declared.tree.AstKind.TheVariants as decls
use Rattle.til_parser.specs.declared.tree.AstName.{AstName}
use Rattle.til_parser.specs.Tree as tree
use Rattle.til_parser.specs.Tree.{plain}
use Rattle.logical_types.specs.declared.ltype.Sync.{Sync}
use Rattle.logical_types.specs.declared.ltype.Sync.TheVariants as syncs
use Rattle.logical_types.specs.Tree.{Ltype, null, bits, group, union, stream, Parts, no_parts, part, Settings}
use Rattle.til_resolve.specs.Declarations.{Declaration, declaration, named}

-- a synchronicity, as types have it
abbrev pub sync_of : AstSync → Sync
sync_of written.Sync = syncs.Sync
sync_of written.Flatten = syncs.Flatten
sync_of written.Desync = syncs.Desync
sync_of written.FlatDesync = syncs.FlatDesync

-- the arguments of a Stream that hold no type
abbrev pub settings_of : tree.Settings → Settings
settings_of one = record {
  throughput = one.throughput;
  dims = one.dims;
  sync = sync_of one.sync;
  level = one.level;
  reverse = one.reverse;
  keep = one.keep;
}

-- a written type with each path in it replaced
abbrev mutual
  pub replaced : (List AstName → Ltype) → tree.Ltype → Ltype
  replaced meaning tree.null = null
  replaced meaning (tree.bits width) = bits width
  replaced meaning (tree.group parts) = group (replaced_parts meaning parts)
  replaced meaning (tree.union parts) = union (replaced_parts meaning parts)
  replaced meaning (tree.stream element user settings) = stream (replaced meaning element) (replaced meaning user) (settings_of settings)
  replaced meaning (tree.path names) = meaning names

  pub replaced_parts : (List AstName → Ltype) → tree.Parts → Parts
  replaced_parts meaning tree.no_parts = no_parts
  replaced_parts meaning (tree.part name ltype more) = part name.name (replaced meaning ltype) (replaced_parts meaning more)

-- the type that a declaration gives a name to, where paths in a namespace mean such types; Null where it is no type
abbrev pub type_by : (List (List ℕ) → List AstName → Ltype) → Declaration → Ltype
type_by meaning one = of_kind one.kind
  where
    of_kind : AstKind → Ltype
    of_kind (decls.Alias ltype) = replaced (meaning one.space) (plain ltype)
    of_kind (decls.Interface listed) = null
    of_kind (decls.Streamlet listed) = null
    of_kind (decls.Impl target body) = null
    of_kind (decls.Test target port value plan) = null

-- the type that the declaration of a number gives a name to; Null where there is no number
abbrev pub type_of_number : (List (List ℕ) → List AstName → Ltype) → List Declaration → Option ℕ → Ltype
type_of_number meaning all None = null
type_of_number meaning all (Some number) = type_by meaning (declaration all number)

-- the type that a path means in a namespace, with so many names replaced inside one another at most. As many as there are
-- declarations are enough where no type leads to itself; Null stands where a path names no type. Both errors are reported before.
abbrev pub meaning_of : List Declaration → ℕ → List (List ℕ) → List AstName → Ltype
meaning_of all zero space names = null
meaning_of all (suc less) space names = type_of_number (λ inner. meaning_of all less inner) all (named all space (record { names = names }))

-- the type that a written type stands for in a namespace
abbrev pub type_of : List Declaration → List (List ℕ) → tree.Ltype → Ltype
type_of all space written_type = replaced (meaning_of all (length all) space) written_type

-- a type that is a Stream
abbrev pub is_stream : Ltype → Bool
is_stream null = false
is_stream (bits width) = false
is_stream (group parts) = false
is_stream (union parts) = false
is_stream (stream element user settings) = true
