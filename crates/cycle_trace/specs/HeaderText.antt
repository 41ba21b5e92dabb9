-- The header of a trace text (this project's own): the line `tydi-trace 1` or `tydi-trace 2`, the line `cycles N`, and the line
-- of each stream, whose level has one number in the first version, and one to four in the second. Lines are numbered from 1.
use Rattle.std.specs.Prelude.{ℕ, suc, Bool, not, ◌&&◌, nat_lt, nat_eq, if◌then◌else◌, List, [], ◌∷◌, length, drop, Result, Ok, Err, codes}
use Rattle.std.specs.List.{starts_with, list_any}
use Rattle.std.specs.Str.{bytes_eq}
use Rattle.tydi_base.specs.Reading.{◌>>=◌}
use Rattle.tydi_base.specs.Path.{path_text}
use Rattle.physical_stream.specs.StreamLine.{head_of, header_number}
use Rattle.physical_stream.specs.declared.head.Head.{Head}
use Rattle.cycle_trace.specs.declared.version.Version.{Version}
use Rattle.cycle_trace.specs.declared.version.Version.TheVariants.{One, Two}
use Rattle.cycle_trace.specs.Version.{may_have_level}
use Rattle.cycle_trace.specs.declared.fault.TraceFault.{TraceFault}
use Rattle.cycle_trace.specs.declared.fault.TraceFault.TheVariants.{BadHeader}

-- the head that a stream line of a text of this version spells after stream lines of these paths: not one of these, and not one
-- too many
unfoldable pub head_after : Version → List (List ℕ) → List ℕ → Result Head (Unit {0})
head_after version paths line = head_of line >>= λ head.
    if may_have_level version head.params.level && nat_lt (length paths) 65536 && not (list_any (bytes_eq (path_text head.path)) paths) then Ok head else Err tt

-- a line that begins with `stream` and a space
abbrev pub is_head_line : List ℕ → Bool
is_head_line line = starts_with nat_eq line (codes "stream ")

-- the result of a reading as that of the line of this number: the value, or the error at that line
abbrev pub in_header : {A : Type 0} → ℕ → Result A (Unit {0}) → Result A TraceFault
in_header line (Ok x) = Ok x
in_header line (Err e) = Err (BadHeader line)

-- the heads of the stream lines that the lines begin with, and the lines after them. The first of the lines has this number, and
-- the streams before it have these paths. The last of the lines has no LF: it is no header line, and one that is begun as a
-- stream line is cut off.
abbrev pub heads_from : Version → ℕ → List (List ℕ) → List (List ℕ) → Result (List Head × List (List ℕ)) TraceFault
heads_from version number paths [] = Ok ([], [])
heads_from version number paths (last ∷ []) = if is_head_line last then Err (BadHeader number) else Ok ([], last ∷ [])
heads_from version number paths (line ∷ next ∷ lines) =
    if is_head_line line then
    (in_header number (head_after version paths line) >>= λ head. heads_from version (suc number) (path_text head.path ∷ paths) (next ∷ lines) >>= λ rest. Ok (head ∷ rest.0, rest.1))
    else Ok ([], line ∷ next ∷ lines)

-- the number of cycles that the second line spells
unfoldable pub count_of_cycles : List ℕ → Result ℕ (Unit {0})
count_of_cycles line = if starts_with nat_eq line (codes "cycles ") then header_number (drop 7 line) else Err tt

-- the header that lines start with, and the lines after it
pub record HeaderStart : Type 0 where
  pub cycles : ℕ
  pub heads : List Head
  pub lines : List (List ℕ)

-- the version that the first line spells
unfoldable pub title_of : List ℕ → Result Version (Unit {0})
title_of line = if bytes_eq line (codes "tydi-trace 1") then Ok One else (if bytes_eq line (codes "tydi-trace 2") then Ok Two else Err tt)

-- the header of a text of this version, that goes on after its first line. The last of the lines has no LF.
unfoldable pub header_start_after : Version → List (List ℕ) → Result HeaderStart TraceFault
header_start_after version [] = Err (BadHeader 2)
header_start_after version (last ∷ []) = Err (BadHeader 2)
header_start_after version (second ∷ next ∷ lines) =
    in_header 2 (count_of_cycles second) >>= λ cycles. heads_from version 3 [] (next ∷ lines) >>= λ found. Ok (record { cycles = cycles; heads = found.0; lines = found.1 })

-- the header that the lines of a text begin with, or the first line that is not as it should be
unfoldable pub header_start_of : List (List ℕ) → Result HeaderStart TraceFault
header_start_of [] = Err (BadHeader 1)
header_start_of (last ∷ []) = Err (BadHeader 1)
header_start_of (first ∷ next ∷ lines) = in_header 1 (title_of first) >>= λ version. header_start_after version (next ∷ lines)
