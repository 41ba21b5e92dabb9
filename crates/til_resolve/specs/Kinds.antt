-- The kind of declaration that the place of a path needs. It serves the look-ups, and no public clause.
use Rattle.std.specs.Prelude.{Bool}
use Rattle.til_resolve.specs.declared.kinds.Asked.{Asked}
use Rattle.til_resolve.specs.declared.kinds.Asked.TheVariants as asked
use Rattle.til_resolve.specs.Declarations.{Declaration, is_type, is_interface, is_streamlet}

abbrev pub asks : Asked → Declaration → Bool
asks asked.Type = is_type
asks asked.Interface = is_interface
asks asked.Streamlet = is_streamlet
