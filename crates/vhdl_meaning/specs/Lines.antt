-- The signals of a stream as they are kept, and assignments to them (this project's own).
use Rattle.std.specs.Prelude.{◌≡◌, ◌-◌, ◌^◌, ◌≤◌, Bool, true, false, if◌then◌else◌, List, [], ◌∷◌, length, get_or, slice_get, slice_set, Option, Some, None}
use Rattle.tydi_base.specs.Bits.{number_of_bits}
use Rattle.physical_stream.specs.Cycles.{Cycle}
use Rattle.physical_stream.specs.Params.{Parameters}
use Rattle.physical_stream.specs.Signals.{zero_transfer, has_endi, has_strb}
use Rattle.signal_layout.specs.declared.signal.Signal.{Signal}
use Rattle.signal_layout.specs.declared.signal.Signal.TheVariants as signals
use Rattle.vhdl_text.specs.WellFormed.{Assigned}
use Rattle.vhdl_text.specs.declared.bench.Stmt.{Stmt}
use Rattle.vhdl_text.specs.declared.bench.Stmt.TheVariants as stmts
use Rattle.vhdl_meaning.specs.declared.lines.Lines.{Lines}
use Rattle.vhdl_meaning.specs.Meaning.{transfer_in}

-- the kept signals of a stream have these values
pub record Has (p : Parameters) (lines : Lines) (values : Signal → List Bool) : Type 0 where
  pub valid : lines.valid ≡ get_or (values signals.Valid) 0 false
  pub held : lines.held ≡ transfer_in p values

-- the signals with all their bits 0; endi and strb stand at their defaults where the stream lacks them
abbrev pub zero_lines : Parameters → Lines
zero_lines p = record {
  valid = false;
  held = record (zero_transfer p) { endi = if has_endi p then 0 else p.lanes - 1; strb = if has_strb p then 0 else 2 ^ p.lanes - 1 };
}

-- the word is as long as the place in which its signal is kept, or short enough for the number there
abbrev pub CanPut : Signal → List Bool → Lines → Type 0
CanPut signals.Valid bits lines = length bits ≡ 1
CanPut signals.Ready bits lines = Unit {0}
CanPut signals.Content bits lines = length lines.held.content ≡ length bits
CanPut signals.Last bits lines = length lines.held.last ≡ length bits
CanPut signals.Stai bits lines = length bits ≤ 16
CanPut signals.Endi bits lines = length bits ≤ 16
CanPut signals.Strb bits lines = length bits ≤ 128
CanPut signals.User bits lines = length lines.held.user ≡ length bits

-- the signals once the word is assigned
abbrev pub put_line : Signal → List Bool → Lines → Lines
put_line signals.Valid bits lines = record { valid = get_or bits 0 false; held = lines.held }
put_line signals.Ready bits lines = lines
put_line signals.Content bits lines = record { valid = lines.valid; held = record lines.held { content = bits } }
put_line signals.Last bits lines = record { valid = lines.valid; held = record lines.held { last = bits } }
put_line signals.Stai bits lines = record { valid = lines.valid; held = record lines.held { stai = number_of_bits bits } }
put_line signals.Endi bits lines = record { valid = lines.valid; held = record lines.held { endi = number_of_bits bits } }
put_line signals.Strb bits lines = record { valid = lines.valid; held = record lines.held { strb = number_of_bits bits } }
put_line signals.User bits lines = record { valid = lines.valid; held = record lines.held { user = bits } }

-- the signals of all streams after an assignment to the stream whose signals are found
abbrev pub put_where : Assigned → List Lines → Option Lines → List Lines
put_where a all None = all
put_where a all (Some lines) = slice_set all a.stream (put_line a.signal a.bits lines)

-- the signals of all streams after an assignment
abbrev pub put_among : Assigned → List Lines → List Lines
put_among a all = put_where a all (slice_get all a.stream)

-- the stream of an assignment is there, and can take the word
abbrev pub CanPutWhere : Assigned → Option Lines → Type 0
CanPutWhere a None = ⊥
CanPutWhere a (Some lines) = CanPut a.signal a.bits lines

-- an assignment can be made
abbrev pub CanPutAmong : Assigned → List Lines → Type 0
CanPutAmong a all = CanPutWhere a (slice_get all a.stream)

-- the signals of all streams after these assignments, one after another
abbrev pub put_all : List Assigned → List Lines → List Lines
put_all [] all = all
put_all (a ∷ more) all = put_all more (put_among a all)

-- these assignments can be made, one after another
abbrev pub CanPutAll : List Assigned → List Lines → Type 0
CanPutAll [] all = Unit {0}
CanPutAll (a ∷ more) all = CanPutAmong a all × CanPutAll more (put_among a all)

-- the statement is an assignment
abbrev pub is_put : Stmt → Bool
is_put (stmts.Put stream signal bits) = true
is_put (stmts.Pause edges) = false
is_put (stmts.Await stream) = false
is_put stmts.Stop = false

-- the cycle of a stream with these signals and this ready bit
abbrev pub row_in : Lines → Bool → Cycle
row_in lines ready = record { ready = ready; shown = if lines.valid then Some lines.held else None }
