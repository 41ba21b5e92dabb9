-- The text that is left of a driving bench, which is made process by process and transfer by transfer (this project's own).
use Rattle.std.specs.Prelude.{◌≡◌, ℕ, suc, ◌+◌, ◌-◌, ◌<◌, ◌≤◌, Bool, true, false, if◌then◌else◌, List, [], ◌∷◌, ◌++◌, length, map, drop, Result, Ok, Err}
use Rattle.std.specs.List.{flat_map}
use Rattle.physical_stream.specs.Params.{Parameters}
use Rattle.physical_stream.specs.declared.head.Head.{Head}
use Rattle.physical_stream.specs.declared.transfer.Transfer.{Transfer}
use Rattle.handshake.specs.Run.{gap_of}
use Rattle.handshake.specs.declared.cursor.Cursor.{Cursor}
use Rattle.handshake.specs.declared.feed.TransferFeed.{Ghosts}
use Rattle.vhdl_text.specs.Parts.{process_back, process_front}
use Rattle.vhdl_text.specs.Text.{stmt_text}
use Rattle.vhdl_text.specs.declared.bench.Stmt.{Stmt}
use Rattle.testbench.specs.Driving.{Driven, pausing, process_from, showing}
use Rattle.testbench.specs.declared.spot.Spot.{Spot}

-- a process up to some transfer: the parameters of its stream, all transfers and their gaps, and the transfers that are left
pub record Writing : Type 0 where
  pub params : Parameters
  pub transfers : List Transfer
  pub gaps : List ℕ
  pub left : List Transfer

-- the number of the transfer that comes next
abbrev pub number_in : Writing → ℕ
number_in w = length w.transfers - length w.left

-- the statements that are left of a process of the stream of this number
abbrev pub stmts_left : ℕ → Writing → List Stmt
stmts_left stream w = process_from w.params stream w.transfers w.gaps (number_in w) w.left

-- the lines that are left of a process that was begun
abbrev pub rest_text : List Head → ℕ → Writing → List ℕ
rest_text heads stream w = flat_map (stmt_text heads) (stmts_left stream w) ++ process_back

-- the lines that are left of a process, begun or not
abbrev pub process_left : List Head → ℕ → Bool → Writing → List ℕ
process_left heads stream true w = rest_text heads stream w
process_left heads stream false w = process_front ++ rest_text heads stream w

-- the lines of processes, of which the first is of the stream of this number and is begun or not
abbrev pub processes_left : List Head → ℕ → Bool → List Writing → List ℕ
processes_left heads stream begun [] = []
processes_left heads stream begun (w ∷ more) = process_left heads stream begun w ++ processes_left heads (suc stream) false more

-- the lines that are left behind a spot
abbrev pub lines_left : List Head → Spot → List Writing → List ℕ
lines_left heads spot all = processes_left heads spot.stream spot.begun (drop spot.stream all)

-- how many parts are left: the begin of each process, its transfers, and its end
abbrev pub parts_of : Bool → List Writing → ℕ
parts_of begun [] = 0
parts_of begun (w ∷ more) = (if begun then 1 else 2) + (length w.left + parts_of false more)

abbrev pub parts_left : Spot → List Writing → ℕ
parts_left spot all = parts_of spot.begun (drop spot.stream all)

-- ---- one transfer

-- the statements of the next transfer were written, and it is left no more
pub record WroteTransfer (heads : List Head) (stream : ℕ) (old new : Writing) (before after : List ℕ) : Type 0 where
  pub transfer : Transfer
  pub left : old.left ≡ transfer ∷ new.left
  pub text : after ≡ before ++ flat_map (stmt_text heads) (pausing stream (gap_of old.params old.transfers old.gaps (number_in old)) ++ showing old.params stream transfer)

-- so it is; or no transfer is left, and nothing was written; want of memory says nothing
abbrev pub WritesTransfer : {E : Type 0} → List Head → ℕ → (old new : Writing) → (before after : List ℕ) → Result Bool E → Type 0
WritesTransfer heads stream old new before after (Ok true) = WroteTransfer heads stream old new before after
WritesTransfer heads stream old new before after (Ok false) = (old.left ≡ []) × ((new.left ≡ []) × (after ≡ before))
WritesTransfer heads stream old new before after (Err e) = Unit {0}

-- ---- one part

-- a part of the lines that are left was written, and fewer parts are left
pub record WrotePart (heads : List Head) (spot next : Spot) (old new : List Writing) (before after : List ℕ) : Type 0 where
  pub part : List ℕ
  pub added : after ≡ before ++ part
  pub rest : lines_left heads spot old ≡ part ++ lines_left heads next new
  pub fewer : parts_left next new < parts_left spot old

-- so it is; or nothing is left, and nothing was written; want of memory says nothing
abbrev pub WritesPart : {E : Type 0} → List Head → (spot next : Spot) → (old new : List Writing) → (before after : List ℕ) → Result Bool E → Type 0
WritesPart heads spot next old new before after (Ok true) = WrotePart heads spot next old new before after
WritesPart heads spot next old new before after (Ok false) = (lines_left heads next new ≡ []) × ((lines_left heads spot old ≡ []) × (after ≡ before))
WritesPart heads spot next old new before after (Err e) = Unit {0}

module _ {F : Type 0} {T : Ghosts F} (rest whole : F → List Transfer) where
  -- the process of the stream of a cursor
  abbrev pub writing_of : Cursor F T → Writing
  writing_of c = record { params = c.params; transfers = whole c.feed; gaps = c.gaps; left = rest c.feed }

  abbrev pub writings_of : List (Cursor F T) → List Writing
  writings_of cursors = map writing_of cursors

-- the streams with these heads, and the transfers and gaps of their cursors
abbrev pub driven_in : {F : Type 0} {T : Ghosts F} → (F → List Transfer) → List Head → List (Cursor F T) → List Driven
driven_in whole [] cursors = []
driven_in whole (head ∷ heads) [] = []
driven_in whole (head ∷ heads) (c ∷ cursors) = record { head = head; transfers = whole c.feed; gaps = c.gaps } ∷ driven_in whole heads cursors
