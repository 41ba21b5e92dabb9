-- The plain data of a type: its equations at each made value, and a type that has it.
use Rattle.std.proofs.Common.{◌≡◌, ℕ, List, [], ◌∷◌, map, refl, sym, ap, ◌∙◌}
use Rattle.til_parser.specs.declared.ltype.AstType.{AstType, roll-AstType, map-AstType, TheOpen.AstType-F, TheOpen.AstStream-F, TheViews.out-AstType, TheViews.roll-out-AstType}
use Rattle.til_parser.specs.declared.tree.AstPath.{AstPath}
use Rattle.til_parser.specs.declared.ltype.AstType.TheVariants as types
use Rattle.til_parser.specs.declared.ltype.AstType.TheFolds.{fold-AstPart, fold-AstStream, fold-roll-AstType, fold-roll-AstPart, fold-roll-AstStream}
use Rattle.til_parser.specs.declared.ltype.{AstPart.AstPart, AstPart.roll-AstPart, AstStream.AstStream, AstStream.roll-AstStream}
use Rattle.til_parser.specs.Tree.{Ltype, null, bits, group, union, stream, path, Parts, no_parts, part, PlainPart, PlainStream, Settings, settings_of, parts_of, plain_type}
use Rattle.til_parser.specs.Tree.{plain_part, plain_stream, plain}

-- ---- the plain data of a made value

-- the parts of a list of parts
abbrev pub plain_parts : List AstPart → Parts
plain_parts [] = no_parts
plain_parts (first ∷ more) = part first.name (plain first.ltype) (plain_parts more)

abbrev part_fold : AstPart → PlainPart
part_fold = fold-AstPart Ltype PlainPart PlainStream plain_type plain_part plain_stream

abbrev stream_fold : AstStream → PlainStream
stream_fold = fold-AstStream Ltype PlainPart PlainStream plain_type plain_part plain_stream

plain-roll : (y : AstType-F AstType AstPart AstStream) → plain (roll-AstType y) ≡ plain_type (map-AstType _ _ _ _ _ _ plain part_fold stream_fold y)
plain-roll = fold-roll-AstType Ltype PlainPart PlainStream plain_type plain_part plain_stream

-- one layer of a Stream
abbrev layer_of : AstType → AstType → Settings → AstStream-F AstType AstPart AstStream
layer_of element user s =
    record { element = element; throughput = s.throughput; dims = s.dims; sync = s.sync; level = s.level; reverse = s.reverse; user = user; keep = s.keep }

parts_of-map : (parts : List AstPart) → parts_of (map part_fold parts) ≡ plain_parts parts
parts_of-map [] = refl
parts_of-map (first ∷ more) =
    let is : part_fold first ≡ record { name = first.name; ltype = plain first.ltype } =
    fold-roll-AstPart Ltype PlainPart PlainStream plain_type plain_part plain_stream (record { name = first.name; ltype = first.ltype }) in
    λ i. part (is i).name (is i).ltype (parts_of-map more i)

pub plain-Null : plain types.Null ≡ null
plain-Null = ap plain (sym types.rolls-Null) ∙ plain-roll AstType-F.Null

pub plain-Bits : (width : ℕ) → plain (types.Bits width) ≡ bits width
plain-Bits width = ap plain (sym (types.rolls-Bits width)) ∙ plain-roll (AstType-F.Bits width)

pub plain-Group : (parts : List AstPart) → plain (types.Group parts) ≡ group (plain_parts parts)
plain-Group parts = ap plain (sym (types.rolls-Group parts)) ∙ plain-roll (AstType-F.Group parts) ∙ ap group (parts_of-map parts)

pub plain-Union : (parts : List AstPart) → plain (types.Union parts) ≡ union (plain_parts parts)
plain-Union parts = ap plain (sym (types.rolls-Union parts)) ∙ plain-roll (AstType-F.Union parts) ∙ ap union (parts_of-map parts)

pub plain-Stream : (one : AstStream) → plain (types.Stream one) ≡ stream (plain one.element) (plain one.user) (settings_of one)
plain-Stream one = ap plain (sym (types.rolls-Stream one)) ∙ plain-roll (AstType-F.Stream one)
    ∙ ap (λ (s : PlainStream). stream s.element s.user s.settings)
    (fold-roll-AstStream Ltype PlainPart PlainStream plain_type plain_part plain_stream (layer_of one.element one.user (settings_of one)))

pub plain-Path : (names : AstPath) → plain (types.Path names) ≡ path names.names
plain-Path names = ap plain (sym (types.rolls-Path names)) ∙ plain-roll (AstType-F.Path names)

-- ---- a type that has this plain data

mutual
  pub with_plain : (tree : Ltype) → (one : AstType) × (plain one ≡ tree)
  with_plain null = (types.Null, plain-Null)
  with_plain (bits width) = (types.Bits width, plain-Bits width)
  with_plain (group parts) = let ps = with_parts parts in (types.Group ps.0, plain-Group ps.0 ∙ ap group ps.1)
  with_plain (union parts) = let ps = with_parts parts in (types.Union ps.0, plain-Union ps.0 ∙ ap union ps.1)
  with_plain (stream element user settings) = let e = with_plain element in let u = with_plain user in
      (types.Stream (roll-AstStream (layer_of e.0 u.0 settings)), plain-Stream _ ∙ (λ i. stream (e.1 i) (u.1 i) settings))
  with_plain (path names) = (types.Path (record { names = names }), plain-Path (record { names = names }))

  with_parts : (parts : Parts) → (ones : List AstPart) × (plain_parts ones ≡ parts)
  with_parts no_parts = ([], refl)
  with_parts (part name ltype more) = let t = with_plain ltype in let ps = with_parts more in
      (roll-AstPart (record { name = name; ltype = t.0 }) ∷ ps.0, λ i. part name (t.1 i) (ps.1 i))

-- ---- a type that is Null

pub plain-null : (one : AstType) → plain one ≡ null → one ≡ types.Null
plain-null one is = sym (roll-out-AstType one) ∙ of_layer (out-AstType one) (ap plain (roll-out-AstType one) ∙ is)
  where
    of_layer : (y : AstType-F AstType AstPart AstStream) → plain (roll-AstType y) ≡ null → roll-AstType y ≡ types.Null
    of_layer AstType-F.Null is = types.rolls-Null
    of_layer y is = absurd (let other = sym (plain-roll y) ∙ is in cc)
