-- The lines of a run text so far, as the code keeps them (this project's own).
use Rattle.vhdl_meaning.specs.declared.draft.Draft.{Draft}
use Rattle.vhdl_meaning.specs.RunText.{Given}

-- a draft as plain data
abbrev pub given_in : Draft → Given
given_in draft = record { ready = draft.ready.items; orders = draft.orders }
