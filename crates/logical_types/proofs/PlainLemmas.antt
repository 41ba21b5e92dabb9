-- The plain data of a type: its equations at each made value, and at the parts of a list from an index on.
use Rattle.std.proofs.Common.{◌≡◌, ℕ, suc, ◌+◌, ◌<◌, ◌≤◌, List, [], ◌∷◌, map, length, get_or, drop, refl, sym, ap, ◌∙◌}
use Rattle.std.proofs.lemmas.List.{drop_more, drop_all}
use Rattle.logical_types.specs.declared.ltype.LType.TheVariants as types
use Rattle.logical_types.specs.declared.ltype.LType.TheOpen.{LType-F}
use Rattle.logical_types.specs.declared.ltype.LType.TheFolds.{fold-Part, fold-StreamType, fold-roll-LType, fold-roll-Part, fold-roll-StreamType}
use Rattle.logical_types.specs.declared.ltype.Part.{Part}
use Rattle.logical_types.specs.declared.ltype.StreamType.{StreamType}
use Rattle.logical_types.specs.Tree.{Ltype, null, bits, group, union, no_parts, part, PlainPart, PlainStream, stream_type, parts_of, plain_type, plain_part, plain_stream, plain, plain_parts, settings_of, plain_of_stream, number_of_parts, names_of}
use Rattle.logical_types.specs.Names.{part_names}

-- ---- the plain data of a made value

abbrev part_fold : Part → PlainPart
part_fold = fold-Part Ltype PlainPart PlainStream plain_type plain_part plain_stream

abbrev stream_fold : StreamType → PlainStream
stream_fold = fold-StreamType Ltype PlainPart PlainStream plain_type plain_part plain_stream

part_fold-is : (one : Part) → part_fold one ≡ record { name = one.name; ltype = plain one.ltype }
part_fold-is one = fold-roll-Part Ltype PlainPart PlainStream plain_type plain_part plain_stream (record { name = one.name; ltype = one.ltype })

stream_fold-is : (one : StreamType) → stream_fold one ≡ record { element = plain one.element; user = plain one.user; settings = settings_of one }
stream_fold-is one = fold-roll-StreamType Ltype PlainPart PlainStream plain_type plain_part plain_stream (record {
  element = one.element;
  throughput = one.throughput;
  dims = one.dims;
  sync = one.sync;
  level = one.level;
  reverse = one.reverse;
  user = one.user;
  keep = one.keep;
})

parts_of-map : (parts : List Part) → parts_of (map part_fold parts) ≡ plain_parts parts
parts_of-map [] = refl
parts_of-map (first ∷ more) = ap (λ (p : PlainPart). part p.name p.ltype (parts_of (map part_fold more))) (part_fold-is first)
    ∙ ap (part first.name (plain first.ltype)) (parts_of-map more)

pub plain-Null : plain types.Null ≡ null
plain-Null = ap plain (sym types.rolls-Null) ∙ fold-roll-LType Ltype PlainPart PlainStream plain_type plain_part plain_stream LType-F.Null

pub plain-Bits : (width : ℕ) → plain (types.Bits width) ≡ bits width
plain-Bits width = ap plain (sym (types.rolls-Bits width))
    ∙ fold-roll-LType Ltype PlainPart PlainStream plain_type plain_part plain_stream (LType-F.Bits width)

pub plain-Group : (parts : List Part) → plain (types.Group parts) ≡ group (plain_parts parts)
plain-Group parts = ap plain (sym (types.rolls-Group parts))
    ∙ fold-roll-LType Ltype PlainPart PlainStream plain_type plain_part plain_stream (LType-F.Group parts) ∙ ap group (parts_of-map parts)

pub plain-Union : (parts : List Part) → plain (types.Union parts) ≡ union (plain_parts parts)
plain-Union parts = ap plain (sym (types.rolls-Union parts))
    ∙ fold-roll-LType Ltype PlainPart PlainStream plain_type plain_part plain_stream (LType-F.Union parts) ∙ ap union (parts_of-map parts)

pub plain-Stream : (one : StreamType) → plain (types.Stream one) ≡ plain_of_stream one
plain-Stream one = ap plain (sym (types.rolls-Stream one))
    ∙ fold-roll-LType Ltype PlainPart PlainStream plain_type plain_part plain_stream (LType-F.Stream one)
    ∙ ap stream_type (stream_fold-is one)

-- ---- parts of a list from an index on

-- the part at an index, and the parts behind it
pub plain_parts-at : (parts : List Part) (at : ℕ) (one : Part) → at < length parts → one ≡ get_or parts at one
    → plain_parts (drop at parts) ≡ part one.name (plain one.ltype) (plain_parts (drop (at + 1) parts))
plain_parts-at parts at one within is = ap plain_parts (drop_more parts at one within ∙ ap (λ x. x ∷ drop (at + 1) parts) (sym is))

-- no parts stand behind the last
pub plain_parts-past : (parts : List Part) (at : ℕ) → length parts ≤ at → plain_parts (drop at parts) ≡ no_parts
plain_parts-past parts at done = ap plain_parts (drop_all at parts done)

-- as many parts, under the same names
pub number_of_parts-plain : (parts : List Part) → number_of_parts (plain_parts parts) ≡ length parts
number_of_parts-plain [] = refl
number_of_parts-plain (first ∷ more) = ap (λ (n : ℕ). suc n) (number_of_parts-plain more)

pub names_of-plain : (parts : List Part) → names_of (plain_parts parts) ≡ part_names parts
names_of-plain [] = refl
names_of-plain (first ∷ more) = ap (λ names. first.name ∷ names) (names_of-plain more)
