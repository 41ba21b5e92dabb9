-- Types in form, and the heads of their physical streams (this project's own).
use Rattle.std.specs.Prelude.{◌≤◌, IsTrue}
use Rattle.tydi_base.specs.Level.{IsLevel}
use Rattle.tydi_base.specs.Name.{is_name}
use Rattle.logical_types.specs.Faults.{IsValid}
use Rattle.logical_types.specs.Tree.{Ltype, null, bits, group, union, stream, Parts, no_parts, part, Settings}
use Rattle.type_split.specs.Streams.{split_of}
use Rattle.port_drive.specs.Text.{AreHeadsInForm}

-- a throughput is a fraction, and a level a level
pub record AreInForm (settings : Settings) : Type 0 where
  pub throughput : 1 ≤ settings.throughput.den
  pub level : IsLevel settings.level

-- the names in a type are names, user types aside, and the arguments of its Streams are in form: so they are in each type that a text spells
abbrev mutual
  pub IsTypeInForm : Ltype → Type 0
  IsTypeInForm null = Unit {0}
  IsTypeInForm (bits width) = Unit {0}
  IsTypeInForm (group parts) = ArePartsInForm parts
  IsTypeInForm (union parts) = ArePartsInForm parts
  IsTypeInForm (stream element user settings) = IsTypeInForm element × AreInForm settings

  pub ArePartsInForm : Parts → Type 0
  ArePartsInForm no_parts = Unit {0}
  ArePartsInForm (part name ltype more) = IsTrue (is_name name) × IsTypeInForm ltype × ArePartsInForm more

-- the physical streams of a valid type in form have heads in form
abbrev pub TypesInFormHaveHeads : Type 0
TypesInFormHaveHeads = (ltype : Ltype) → IsValid ltype → IsTypeInForm ltype → AreHeadsInForm (split_of ltype)
