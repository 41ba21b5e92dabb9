-- How the series of a port's nodes stand in a value, by recursion on its type. It serves proofs, and no public clause. This project's own.
use Rattle.std.specs.Prelude.{◌≡◌, ℕ, zero, suc, ◌+◌, true, false, List, [], ◌∷◌, map, length}
use Rattle.std.specs.List.{filter_map, flat_map}
use Rattle.logical_types.specs.Faults.{dims_taken_over}
use Rattle.logical_types.specs.Synchronicity.{is_apart}
use Rattle.logical_types.specs.Tree.{Ltype, Parts}
use Rattle.logical_types.specs.Tree as types
use Rattle.type_split.specs.Nodes.{number_of_streams}
use Rattle.logical_value.specs.Element.{IsElement, set_apart}
use Rattle.logical_value.specs.Tree.{Tree, apart, members}
use Rattle.value_views.specs.Comparing.{tied_series}
use Rattle.value_views.specs.Series.{listed, leaves, replaced, dims_inside, first_part, other_parts}
use Rattle.value_views.specs.Words.{in_nest}

-- each of these is a list
abbrev pub AreLists : List Tree → Type 0
AreLists [] = Unit {0}
AreLists (value ∷ more) = (listed (members value) ≡ value) × AreLists more

-- each of these is a nest of this depth
abbrev pub AreNests : ℕ → List Tree → Type 0
AreNests zero series = Unit {0}
AreNests (suc dims) series = AreLists series × AreNests dims (flat_map members series)

-- each of these has the property
abbrev pub Each : (Tree → Type 0) → List Tree → Type 0
Each P [] = Unit {0}
Each P (value ∷ more) = P value × Each P more

abbrev pub Elements : Ltype → List Tree → Type 0
Elements ltype values = Each (IsElement ltype) values

-- values of elements with whatever stands for Streams apart, as words stand for
pub record ArePlain (ltype : Ltype) (values : List Tree) : Type 0 where
  pub elements : Elements ltype values
  pub plain : map (set_apart ltype) values ≡ values

-- the Streams in these values of a type, the first of which has this number, have these nests, with whatever stands in other Streams apart
abbrev mutual
  pub Nests : (ℕ → List Tree) → ℕ → ℕ → Ltype → List Tree → Type 0
  Nests nests number dims types.null values = Unit {0}
  Nests nests number dims (types.bits width) values = Unit {0}
  Nests nests number dims (types.group parts) values = NestsOfParts nests number dims parts values
  Nests nests number dims (types.union parts) values = NestsOfParts nests number dims parts values
  Nests nests number dims (types.stream element user settings) values =
      (is_apart settings.sync ≡ true → values ≡ map (λ (value : Tree). apart) values)
      × (is_apart settings.sync ≡ false → AreNests settings.dims values × (leaves (dims_taken_over settings.sync dims) (nests number) ≡ map (in_nest (set_apart element) settings.dims) values)
      × Elements element (leaves settings.dims values) × Nests nests (suc number) (dims_inside settings.sync dims settings.dims) element (leaves settings.dims values))

  pub NestsOfParts : (ℕ → List Tree) → ℕ → ℕ → Parts → List Tree → Type 0
  NestsOfParts nests number dims types.no_parts values = Unit {0}
  NestsOfParts nests number dims (types.part name ltype more) values =
      Nests nests number dims ltype (filter_map first_part values) × NestsOfParts nests (number_of_streams ltype + number) dims more (filter_map other_parts values)

-- there are as many nests as values that select their Stream
abbrev mutual
  pub Counts : (ℕ → List Tree) → ℕ → ℕ → Ltype → List Tree → Type 0
  Counts nests number dims types.null values = Unit {0}
  Counts nests number dims (types.bits width) values = Unit {0}
  Counts nests number dims (types.group parts) values = CountsOfParts nests number dims parts values
  Counts nests number dims (types.union parts) values = CountsOfParts nests number dims parts values
  Counts nests number dims (types.stream element user settings) values = is_apart settings.sync ≡ false
      → AreNests settings.dims (leaves (dims_taken_over settings.sync dims) (nests number)) × (length values ≡ length (leaves (dims_taken_over settings.sync dims) (nests number))) × ArePlain element (leaves settings.dims (leaves (dims_taken_over settings.sync dims) (nests number)))
      × Counts nests (suc number) (dims_inside settings.sync dims settings.dims) element (leaves settings.dims (leaves (dims_taken_over settings.sync dims) (nests number)))

  pub CountsOfParts : (ℕ → List Tree) → ℕ → ℕ → Parts → List Tree → Type 0
  CountsOfParts nests number dims types.no_parts values = Unit {0}
  CountsOfParts nests number dims (types.part name ltype more) values =
      Counts nests number dims ltype (filter_map first_part values) × CountsOfParts nests (number_of_streams ltype + number) dims more (filter_map other_parts values)

-- ---- series

-- the Streams in these values, which stand in a series of this dimensionality, have these series
abbrev mutual
  pub Shows : (ℕ → List Tree) → ℕ → ℕ → Ltype → List Tree → Type 0
  Shows given number dims types.null series = Unit {0}
  Shows given number dims (types.bits width) series = Unit {0}
  Shows given number dims (types.group parts) series = ShowsParts given number dims parts series
  Shows given number dims (types.union parts) series = ShowsParts given number dims parts series
  Shows given number dims (types.stream element user settings) series =
      (is_apart settings.sync ≡ true → leaves dims series ≡ map (λ (value : Tree). apart) (leaves dims series))
      × (is_apart settings.sync ≡ false → AreNests (dims_inside settings.sync dims settings.dims) (tied_series settings.sync dims series)
      × (given number ≡ map (in_nest (set_apart element) (dims_inside settings.sync dims settings.dims)) (tied_series settings.sync dims series))
      × Elements element (leaves (dims_inside settings.sync dims settings.dims) (tied_series settings.sync dims series))
      × Shows given (suc number) (dims_inside settings.sync dims settings.dims) element (tied_series settings.sync dims series))

  pub ShowsParts : (ℕ → List Tree) → ℕ → ℕ → Parts → List Tree → Type 0
  ShowsParts given number dims types.no_parts series = Unit {0}
  ShowsParts given number dims (types.part name ltype more) series =
      Shows given number dims ltype (replaced first_part dims series) × ShowsParts given (number_of_streams ltype + number) dims more (replaced other_parts dims series)

-- each child agrees with its parent
abbrev mutual
  pub Agree : (ℕ → List Tree) → ℕ → ℕ → Ltype → List Tree → Type 0
  Agree given number dims types.null series = Unit {0}
  Agree given number dims (types.bits width) series = Unit {0}
  Agree given number dims (types.group parts) series = AgreeParts given number dims parts series
  Agree given number dims (types.union parts) series = AgreeParts given number dims parts series
  Agree given number dims (types.stream element user settings) series = is_apart settings.sync ≡ false
      → AreNests (dims_inside settings.sync dims settings.dims) (given number)
      × ArePlain element (leaves (dims_inside settings.sync dims settings.dims) (given number))
      × (map (in_nest (λ (value : Tree). apart) (dims_taken_over settings.sync dims)) (tied_series settings.sync dims series)
      ≡ map (in_nest (λ (value : Tree). apart) (dims_taken_over settings.sync dims)) (given number))
      × Agree given (suc number) (dims_inside settings.sync dims settings.dims) element (given number)

  pub AgreeParts : (ℕ → List Tree) → ℕ → ℕ → Parts → List Tree → Type 0
  AgreeParts given number dims types.no_parts series = Unit {0}
  AgreeParts given number dims (types.part name ltype more) series =
      Agree given number dims ltype (replaced first_part dims series) × AgreeParts given (number_of_streams ltype + number) dims more (replaced other_parts dims series)

-- ---- roots

-- a root of this number and dimensionality has this series, and the nodes tied to it have the given series
pub record IsShown (given : ℕ → List Tree) (number : ℕ) (element : Ltype) (dims : ℕ) (series : List Tree) : Type 0 where
  pub nests : AreNests dims series
  pub root : given number ≡ map (in_nest (set_apart element) dims) series
  pub elements : Elements element (leaves dims series)
  pub inside : Shows given (suc number) dims element series

-- the given series of a root and of the nodes tied to it agree
pub record DoAgree (given : ℕ → List Tree) (number : ℕ) (element : Ltype) (dims : ℕ) : Type 0 where
  pub nests : AreNests dims (given number)
  pub plain : ArePlain element (leaves dims (given number))
  pub inside : Agree given (suc number) dims element (given number)

-- the given series of each root in a type agree
abbrev mutual
  pub RootsAgree : (ℕ → List Tree) → ℕ → ℕ → Ltype → Type 0
  RootsAgree given number dims types.null = Unit {0}
  RootsAgree given number dims (types.bits width) = Unit {0}
  RootsAgree given number dims (types.group parts) = RootsOfPartsAgree given number dims parts
  RootsAgree given number dims (types.union parts) = RootsOfPartsAgree given number dims parts
  RootsAgree given number dims (types.stream element user settings) =
      (is_apart settings.sync ≡ true → DoAgree given number element (dims_inside settings.sync dims settings.dims))
      × RootsAgree given (suc number) (dims_inside settings.sync dims settings.dims) element

  pub RootsOfPartsAgree : (ℕ → List Tree) → ℕ → ℕ → Parts → Type 0
  RootsOfPartsAgree given number dims types.no_parts = Unit {0}
  RootsOfPartsAgree given number dims (types.part name ltype more) =
      RootsAgree given number dims ltype × RootsOfPartsAgree given (number_of_streams ltype + number) dims more

-- ---- series that views give

-- the given series of the Streams in a type are nests of their dimensions, whose leaves are values of words
abbrev mutual
  pub AreSeries : (ℕ → List Tree) → ℕ → ℕ → Ltype → Type 0
  AreSeries given number dims types.null = Unit {0}
  AreSeries given number dims (types.bits width) = Unit {0}
  AreSeries given number dims (types.group parts) = AreSeriesOfParts given number dims parts
  AreSeries given number dims (types.union parts) = AreSeriesOfParts given number dims parts
  AreSeries given number dims (types.stream element user settings) =
      AreNests (dims_inside settings.sync dims settings.dims) (given number)
      × ArePlain element (leaves (dims_inside settings.sync dims settings.dims) (given number))
      × AreSeries given (suc number) (dims_inside settings.sync dims settings.dims) element

  pub AreSeriesOfParts : (ℕ → List Tree) → ℕ → ℕ → Parts → Type 0
  AreSeriesOfParts given number dims types.no_parts = Unit {0}
  AreSeriesOfParts given number dims (types.part name ltype more) =
      AreSeries given number dims ltype × AreSeriesOfParts given (number_of_streams ltype + number) dims more

-- ---- the roots of a port

-- the first of these is the series of a root, and the others have a property
pub record RootFirst (given : ℕ → List Tree) (number : ℕ) (element : Ltype) (dims : ℕ) (roots : List (List Tree)) (Others : List (List Tree) → Type 0) : Type 0 where
  pub series : List Tree
  pub more : List (List Tree)
  pub whole : roots ≡ series ∷ more
  pub shown_as : IsShown given number element dims series
  pub others : Others more

pub record Through (First Second : List (List Tree) → Type 0) : Type 0 where
  pub mid : List (List Tree)
  pub first : First mid
  pub second : Second mid

-- the series before the rest are those of the roots in a type
abbrev mutual
  pub RootsShow : (ℕ → List Tree) → ℕ → ℕ → Ltype → List (List Tree) → List (List Tree) → Type 0
  RootsShow given number dims types.null roots rest = roots ≡ rest
  RootsShow given number dims (types.bits width) roots rest = roots ≡ rest
  RootsShow given number dims (types.group parts) roots rest = RootsOfPartsShow given number dims parts roots rest
  RootsShow given number dims (types.union parts) roots rest = RootsOfPartsShow given number dims parts roots rest
  RootsShow given number dims (types.stream element user settings) roots rest =
      (is_apart settings.sync ≡ true → RootFirst given number element (dims_inside settings.sync dims settings.dims) roots
      (λ more. RootsShow given (suc number) (dims_inside settings.sync dims settings.dims) element more rest))
      × (is_apart settings.sync ≡ false → RootsShow given (suc number) (dims_inside settings.sync dims settings.dims) element roots rest)

  pub RootsOfPartsShow : (ℕ → List Tree) → ℕ → ℕ → Parts → List (List Tree) → List (List Tree) → Type 0
  RootsOfPartsShow given number dims types.no_parts roots rest = roots ≡ rest
  RootsOfPartsShow given number dims (types.part name ltype more) roots rest =
      Through (λ mid. RootsShow given number dims ltype roots mid) (λ mid. RootsOfPartsShow given (number_of_streams ltype + number) dims more mid rest)

-- the value with these roots has these series, of the port whose outermost Stream has such elements and dimensions
abbrev pub PortShows : (ℕ → List Tree) → Ltype → ℕ → List (List Tree) → Type 0
PortShows given element dims roots = RootFirst given 0 element dims roots (λ more. RootsShow given 1 dims element more [])
