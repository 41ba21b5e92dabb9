-- Lines that are some values show what a row of these values shows.
use Rattle.std.proofs.Common.{◌≡◌, ◌∙◌, ℕ, Bool, false, if◌then◌else◌, List, get_or, Some, None, ap}
use Rattle.physical_stream.specs.Params.{Parameters}
use Rattle.physical_stream.specs.declared.transfer.Transfer.{Transfer}
use Rattle.vhdl_meaning.specs.declared.lines.Lines.{Lines}
use Rattle.vhdl_meaning.specs.Meaning.{Values, cycle_at, transfer_in}
use Rattle.vhdl_meaning.specs.Lines.{Has, row_in}

pub row-is : (p : Parameters) (lines : Lines) (values : Values) (ready : List Bool) (stream : ℕ) → Has p lines (values stream) →
    row_in lines (get_or ready stream false) ≡ cycle_at p stream (record { values = values; ready = ready })
row-is p lines values ready stream has =
    ap (λ (t : Transfer). record { ready = get_or ready stream false; shown = if lines.valid then Some t else None }) has.held
    ∙ ap (λ (b : Bool). record { ready = get_or ready stream false; shown = if b then Some (transfer_in p (values stream)) else None }) has.valid
