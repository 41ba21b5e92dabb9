-- The cycles of one stream (this project's own, after the Tydi specification's handshake).
use Rattle.std.specs.Prelude.{Bool, if◌then◌else◌, List, [], ◌∷◌, Option, None, IfSome}
use Rattle.std.specs.Option.{option_to_list, option_copied}
use Rattle.std.specs.List.{flat_map, All}
use Rattle.physical_stream.specs.Params.{Parameters}
use Rattle.physical_stream.specs.Signals.{Shows}
use Rattle.physical_stream.specs.Items.{items_of_all}
use Rattle.physical_stream.specs.declared.row.Row.{Row}
use Rattle.physical_stream.specs.declared.transfer.Transfer.{Transfer}
use Rattle.physical_stream.specs.declared.item.Item.{Item}

-- a cycle: the ready bit, and the transfer that is shown where valid is 1
pub record Cycle : Type 0 where
  pub ready : Bool
  pub shown : Option Transfer

-- the cycle that a row says
abbrev pub cycle_in : Row → Cycle
cycle_in row = record { ready = row.ready; shown = option_copied row.shown }

-- a transfer is done in a cycle with valid and ready
abbrev pub done_in : Cycle → List Transfer
done_in c = if c.ready then option_to_list c.shown else []

-- the transfers done in these cycles
abbrev pub done_of : List Cycle → List Transfer
done_of cycles = flat_map done_in cycles

-- the items of the transfers done in these cycles
abbrev pub items_done : Parameters → List Cycle → List Item
items_done p cycles = items_of_all p (done_of cycles)

-- the transfer that a cycle offered and that was not taken
abbrev pub refused_in : Cycle → Option Transfer
refused_in c = if c.ready then None else c.shown

-- the transfer that is still offered after these cycles: the last one had valid and no ready
abbrev pub waiting_of : List Cycle → Option Transfer
waiting_of [] = None
waiting_of (c ∷ []) = refused_in c
waiting_of (c ∷ d ∷ more) = waiting_of (d ∷ more)

-- one stream of a trace: its parameters, and its cycles
pub record StreamTrace : Type 0 where
  pub params : Parameters
  pub cycles : List Cycle

-- each shown transfer is one that the stream can show
abbrev pub IsShownBy : Parameters → List Cycle → Type 0
IsShownBy p cycles = All (λ c. IfSome c.shown (Shows p)) cycles
