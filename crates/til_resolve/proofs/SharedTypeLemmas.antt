-- Written types that are made by a table of the types of declarations, and such tables: of a round more, and of ranks that fall.
use Rattle.std.proofs.Common.{◌≡◌, ℕ, ◌+◌, ◌<◌, ◌⊎◌, inl, inr, List, [], ◌∷◌, ◌++◌, length, get_or, take, false, refl, sym, ap, ◌∙◌}
use Rattle.std.proofs.lemmas.List.{take_more}
use Rattle.til_parser.specs.declared.ltype.AstPart.{AstPart}
use Rattle.til_parser.specs.declared.ltype.AstStream.{AstStream}
use Rattle.til_parser.specs.declared.ltype.AstType.{AstType}
use Rattle.til_parser.specs.declared.ltype.AstType.TheVariants as written
use Rattle.til_parser.specs.declared.tree.AstName.{AstName}
use Rattle.til_parser.specs.declared.tree.AstPath.{AstPath}
use Rattle.til_parser.specs.Tree as tree
use Rattle.til_parser.proofs.PlainLemmas as tree_plain
use Rattle.logical_types.specs.declared.ltype.LType.{LType}
use Rattle.logical_types.specs.declared.ltype.LType.TheVariants as types
use Rattle.logical_types.specs.declared.ltype.Part.{Part}
use Rattle.logical_types.specs.declared.ltype.StreamType.{StreamType}
use Rattle.logical_types.specs.Tree.{Ltype, null, bits, group, union, stream, Parts, no_parts, part, plain, plain_parts, plain_of_stream}
use Rattle.logical_types.proofs.PlainLemmas.{plain-Null, plain-Bits, plain-Group, plain-Union, plain-Stream}
use Rattle.til_resolve.specs.Declarations.{Declaration}
use Rattle.til_resolve.specs.Names.{paths_in}
use Rattle.til_resolve.specs.SharedTypes.{type_named, replaced_list, AreTypes, IsTypeOf}
use Rattle.til_resolve.specs.Tables.{IsMadeOf, IsReady}
use Rattle.til_resolve.proofs.EntryLemmas.{entry-meant, IsReady-all}
use Rattle.til_resolve.specs.Types.{replaced, replaced_parts, settings_of, is_stream, meaning_of, type_of}
use Rattle.til_resolve.proofs.MeaningLemmas.{replaced-same}

-- ---- written types as plain data, their names replaced

listed : (meaning : List AstName → Ltype) (parts : List AstPart) → replaced_parts meaning (tree_plain.plain_parts parts) ≡ replaced_list meaning parts
listed meaning [] = refl
listed meaning (first ∷ more) = ap (λ (ps : Parts). part first.name.name (replaced meaning (tree.plain first.ltype)) ps) (listed meaning more)

module _ (meaning : List AstName → Ltype) (ltype : AstType) where
  pub replaced-Null : ltype ≡ written.Null → replaced meaning (tree.plain ltype) ≡ null
  replaced-Null is = ap (λ (t : AstType). replaced meaning (tree.plain t)) is ∙ ap (replaced meaning) tree_plain.plain-Null

  pub replaced-Bits : (width : ℕ) → ltype ≡ written.Bits width → replaced meaning (tree.plain ltype) ≡ bits width
  replaced-Bits width is = ap (λ (t : AstType). replaced meaning (tree.plain t)) is ∙ ap (replaced meaning) (tree_plain.plain-Bits width)

  pub replaced-Group : (parts : List AstPart) → ltype ≡ written.Group parts → replaced meaning (tree.plain ltype) ≡ group (replaced_list meaning parts)
  replaced-Group parts is = ap (λ (t : AstType). replaced meaning (tree.plain t)) is ∙ ap (replaced meaning) (tree_plain.plain-Group parts) ∙ ap group (listed meaning parts)

  pub replaced-Union : (parts : List AstPart) → ltype ≡ written.Union parts → replaced meaning (tree.plain ltype) ≡ union (replaced_list meaning parts)
  replaced-Union parts is = ap (λ (t : AstType). replaced meaning (tree.plain t)) is ∙ ap (replaced meaning) (tree_plain.plain-Union parts) ∙ ap union (listed meaning parts)

  pub replaced-Stream : (one : AstStream) → ltype ≡ written.Stream one
      → replaced meaning (tree.plain ltype) ≡ stream (replaced meaning (tree.plain one.element)) (replaced meaning (tree.plain one.user)) (settings_of (tree.settings_of one))
  replaced-Stream one is = ap (λ (t : AstType). replaced meaning (tree.plain t)) is ∙ ap (replaced meaning) (tree_plain.plain-Stream one)

  pub replaced-Path : (path : AstPath) → ltype ≡ written.Path path → replaced meaning (tree.plain ltype) ≡ meaning path.names
  replaced-Path path is = ap (λ (t : AstType). replaced meaning (tree.plain t)) is ∙ ap (replaced meaning) (tree_plain.plain-Path path)

  -- the type that is made of parts
  pub made-Group : (parts slice : List AstPart) (made shared : List Part) → ltype ≡ written.Group parts → slice ≡ parts → plain_parts made ≡ replaced_list meaning slice → shared ≡ made
      → plain (types.Group shared) ≡ replaced meaning (tree.plain ltype)
  made-Group parts slice made shared is same so shares =
      ap (λ (l : List Part). plain (types.Group l)) shares ∙ plain-Group made ∙ ap group (so ∙ ap (replaced_list meaning) same) ∙ sym (replaced-Group parts is)

  pub made-Union : (parts slice : List AstPart) (made shared : List Part) → ltype ≡ written.Union parts → slice ≡ parts → plain_parts made ≡ replaced_list meaning slice → shared ≡ made
      → plain (types.Union shared) ≡ replaced meaning (tree.plain ltype)
  made-Union parts slice made shared is same so shares =
      ap (λ (l : List Part). plain (types.Union l)) shares ∙ plain-Union made ∙ ap union (so ∙ ap (replaced_list meaning) same) ∙ sym (replaced-Union parts is)

-- ---- parts and one more

abbrev pub pushed : Parts → List ℕ → Ltype → Parts
pushed no_parts name ltype = part name ltype no_parts
pushed (part first here more) name ltype = part first here (pushed more name ltype)

pub plain_parts-push : (parts : List Part) (one : Part) → plain_parts (parts ++ one ∷ []) ≡ pushed (plain_parts parts) one.name (plain one.ltype)
plain_parts-push [] one = refl
plain_parts-push (first ∷ more) one = ap (λ (ps : Parts). part first.name (plain first.ltype) ps) (plain_parts-push more one)

replaced_list-push : (meaning : List AstName → Ltype) (parts : List AstPart) (one : AstPart)
    → replaced_list meaning (parts ++ one ∷ []) ≡ pushed (replaced_list meaning parts) one.name.name (replaced meaning (tree.plain one.ltype))
replaced_list-push meaning [] one = refl
replaced_list-push meaning (first ∷ more) one = ap (λ (ps : Parts). part first.name.name (replaced meaning (tree.plain first.ltype)) ps) (replaced_list-push meaning more one)

pub replaced_list-more : (meaning : List AstName → Ltype) (parts : List AstPart) (i : ℕ) (one : AstPart) → i < length parts → one ≡ get_or parts i one
    → replaced_list meaning (take (i + 1) parts) ≡ pushed (replaced_list meaning (take i parts)) one.name.name (replaced meaning (tree.plain one.ltype))
replaced_list-more meaning parts i one within is =
    ap (replaced_list meaning) (take_more parts i one within ∙ ap (λ (p : AstPart). take i parts ++ p ∷ []) (sym is)) ∙ replaced_list-push meaning (take i parts) one

pub made-more : (meaning : List AstName → Ltype) (parts : List AstPart) (i : ℕ) (one : AstPart) (made new : List Part) (last : Part) → i < length parts → one ≡ get_or parts i one
    → new ≡ made ++ last ∷ [] → last.name ≡ one.name.name → plain last.ltype ≡ replaced meaning (tree.plain one.ltype)
    → plain_parts made ≡ replaced_list meaning (take i parts) → plain_parts new ≡ replaced_list meaning (take (i + 1) parts)
made-more meaning parts i one made new last within is pushes name ltype so =
    ap plain_parts pushes ∙ plain_parts-push made last ∙ ap (λ (ps : Parts). pushed ps last.name (plain last.ltype)) so
    ∙ ap (λ (n : List ℕ). pushed (replaced_list meaning (take i parts)) n (plain last.ltype)) name
    ∙ ap (pushed (replaced_list meaning (take i parts)) one.name.name) ltype ∙ sym (replaced_list-more meaning parts i one within is)

-- ---- the meaning of a path

-- a written type is right by a table that is ready for it
type-written : (all : List Declaration) (space : List (List ℕ)) (t : tree.Ltype) (table : List LType) (depth : ℕ) → IsReady types.Null IsTypeOf all space (paths_in t) table depth
    → replaced (type_named all table space) t ≡ replaced (meaning_of all depth space) t
type-written all space t table depth ready =
    replaced-same (type_named all table space) (meaning_of all depth space) t
    (λ path there. entry-meant types.Null IsTypeOf all space (paths_in t) table depth path there plain-Null ready)

pub type-made : (all : List Declaration) (space : List (List ℕ)) (t : tree.Ltype) (table : List LType) (made : LType) → plain made ≡ replaced (type_named all table space) t
    → IsMadeOf types.Null IsTypeOf all space t table made
type-made all space t table made is = λ depth ready. is ∙ type-written all space t table depth ready

-- a written type by a table of all
pub type-by_table : (all : List Declaration) (table : List LType) (space : List (List ℕ)) (t : tree.Ltype) → AreTypes all (length all) table
    → replaced (type_named all table space) t ≡ type_of all space t
type-by_table all table space t so = type-written all space t table (length all) (IsReady-all types.Null IsTypeOf all space (paths_in t) table (length all) so)

-- ---- the types of ports

-- a type that is made and is a Stream
pub made-Stream : (all : List Declaration) (table : List LType) (space : List (List ℕ)) (t : tree.Ltype) (made : LType) (one value : StreamType) → AreTypes all (length all) table
    → plain made ≡ replaced (type_named all table space) t → made ≡ types.Stream one → value ≡ one → plain_of_stream value ≡ type_of all space t
made-Stream all table space t made one value so made_is is value_is =
    ap plain_of_stream value_is ∙ sym (plain-Stream one) ∙ ap plain (sym is) ∙ made_is ∙ type-by_table all table space t so

-- a type that is none
pub no_stream : (made : LType) → (made ≡ types.Null) ⊎ (((width : ℕ) × (made ≡ types.Bits width)) ⊎ (((parts : List Part) × (made ≡ types.Group parts)) ⊎ ((parts : List Part) × (made ≡ types.Union parts))))
    → is_stream (plain made) ≡ false
no_stream made (inl is) = ap (λ (t : LType). is_stream (plain t)) is ∙ ap is_stream plain-Null
no_stream made (inr (inl is)) = ap (λ (t : LType). is_stream (plain t)) is.1 ∙ ap is_stream (plain-Bits is.0)
no_stream made (inr (inr (inl is))) = ap (λ (t : LType). is_stream (plain t)) is.1 ∙ ap is_stream (plain-Group is.0)
no_stream made (inr (inr (inr is))) = ap (λ (t : LType). is_stream (plain t)) is.1 ∙ ap is_stream (plain-Union is.0)
