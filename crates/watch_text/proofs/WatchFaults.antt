-- The error of a monitor's text is never want of memory.
use Rattle.std.proofs.Common.{◌≡◌, ℕ, ◌+◌, ◌==◌, Bool, true, false, cond, List, [], ◌∷◌, length, Option, Some, None, Result, Ok, Err}
use Rattle.tydi_base.specs.Pieces.{pieces_of}
use Rattle.tydi_reading.specs.Reading.{Outcome, took, stopped}
use Rattle.vhdl_text.specs.declared.refusal.Refusal.{Refusal}
use Rattle.vhdl_text.specs.Lines.{Cut, cut_last}
use Rattle.watch_text.specs.declared.fault.WatchFault.{WatchFault}
use Rattle.watch_text.specs.declared.fault.WatchFault.TheVariants as faults
use Rattle.watch_text.specs.Reading.{watch_from, watch_in, watch_of, whole}
use Rattle.watch_text.specs.Statements.{PlainWatch}

not-memory : (offset : ℕ) → ◌≡◌ {A = Result PlainWatch WatchFault} (Err (faults.NotForm offset)) (Err faults.Memory) → ⊥
not-memory offset is = cc

whole-free : (end : ℕ) (cut_off : List ℕ) (outcome : Outcome Refusal (List ℕ) PlainWatch) → whole end cut_off outcome ≡ Err faults.Memory → ⊥
whole-free end cut_off (took watch []) is = by (length cut_off == 0) is
  where
    by : (test : Bool) → cond {A = Result PlainWatch WatchFault} test (Ok watch) (Err (faults.NotForm end)) ≡ Err faults.Memory → ⊥
    by true is = cc
    by false is = not-memory end is
whole-free end cut_off (took watch (line ∷ lines)) is = not-memory _ is
whole-free end cut_off (stopped fault lines) is = not-memory _ is

pub monitors_free : (text : List ℕ) → watch_of text ≡ Err faults.Memory → ⊥
unfolding watch_of
monitors_free text is = by (cut_last 10 text) is
  where
    by : (cut : Option Cut) → watch_in cut ≡ Err faults.Memory → ⊥
    by None is = not-memory 0 is
    by (Some cut) is = whole-free (length cut.front + 1) cut.back (watch_from (pieces_of 10 cut.front)) is
