-- The header of a trace, read.
use Rattle.std.proofs.Common.{◌≡◌, ℕ, suc, ◌<◌, true, false, List, [], ◌∷◌, length, Ok, Err, refl, arith}
use Rattle.tydi_base.specs.Reading.{◌>>=◌}
use Rattle.tydi_base.specs.Path.{path_text}
use Rattle.cycle_trace.specs.declared.fault.TraceFault.TheVariants.{BadHeader}
use Rattle.cycle_trace.specs.declared.version.Version.{Version}
use Rattle.cycle_trace.specs.HeaderText.{head_after, is_head_line, in_header, heads_from, title_of, count_of_cycles, header_start_after, header_start_of}

-- ---- the lines of the heads

-- a line with others after it
pub heads_from-head : (version : Version) (number : ℕ) (paths : List (List ℕ)) (line : List ℕ) (lines : List (List ℕ)) → 0 < length lines → is_head_line line ≡ true
    → heads_from version number paths (line ∷ lines) ≡ (in_header number (head_after version paths line) >>= λ head. heads_from version (suc number) (path_text head.path ∷ paths) lines >>= λ rest. Ok (head ∷ rest.0, rest.1))
heads_from-head version number paths line [] some e = absurd (omega arith)
heads_from-head version number paths line (next ∷ lines) some e = rw e refl

pub heads_from-other : (version : Version) (number : ℕ) (paths : List (List ℕ)) (line : List ℕ) (lines : List (List ℕ)) → 0 < length lines → is_head_line line ≡ false → heads_from version number paths (line ∷ lines) ≡ Ok ([], line ∷ lines)
heads_from-other version number paths line [] some e = absurd (omega arith)
heads_from-other version number paths line (next ∷ lines) some e = rw e refl

-- ---- the first two lines

pub of_title : (first : List ℕ) (lines : List (List ℕ)) → 0 < length lines → header_start_of (first ∷ lines) ≡ (in_header 1 (title_of first) >>= λ version. header_start_after version lines)
unfolding header_start_of
of_title first [] some = absurd (omega arith)
of_title first (next ∷ lines) some = refl

pub after_cycles : (version : Version) (second : List ℕ) (lines : List (List ℕ)) → 0 < length lines
    → header_start_after version (second ∷ lines) ≡ (in_header 2 (count_of_cycles second) >>= λ cycles. heads_from version 3 [] lines >>= λ found. Ok (record { cycles = cycles; heads = found.0; lines = found.1 }))
unfolding header_start_after
after_cycles version second [] some = absurd (omega arith)
after_cycles version second (next ∷ lines) some = refl

pub header_start_of-one : (line : List ℕ) → header_start_of (line ∷ []) ≡ Err (BadHeader 1)
unfolding header_start_of
header_start_of-one line = refl

pub header_start_after-one : (version : Version) (line : List ℕ) → header_start_after version (line ∷ []) ≡ Err (BadHeader 2)
unfolding header_start_after
header_start_after-one version line = refl
