-- Monitors, by the steps of their reading.
use Rattle.std.proofs.Common.{◌≡◌, ◌≢◌, ℕ, ◌+◌, List, length, Some, None, Result, Err, sym, ap, ◌∙◌, subst}
use Rattle.tydi_base.specs.Pieces.{pieces_of}
use Rattle.tydi_base.specs.Reading.{Gives}
use Rattle.tydi_reading.specs.Reading.{Outcome, took, stopped}
use Rattle.tydi_reading.specs.declared.fault.Fault.{Fault}
use Rattle.tydi_reading.specs.declared.fault.Fault.TheVariants as refusals
use Rattle.vhdl_text.specs.declared.refusal.Refusal.{Refusal}
use Rattle.vhdl_text.specs.Lines.{cut_last}
use Rattle.vhdl_text.specs.Reading.{offset_of}
use Rattle.watch_text.specs.declared.fault.WatchFault.{WatchFault}
use Rattle.watch_text.specs.declared.fault.WatchFault.TheVariants as faults
use Rattle.watch_text.specs.declared.watch.Watch.{Watch}
use Rattle.watch_text.specs.Reading.{fault_in, told_at, watch_from, watch_in, watch_of, whole}
use Rattle.watch_text.specs.Statements.{PlainWatch, plain_watch}

pub watch_of-none : (text : List ℕ) → None ≡ cut_last 10 text → watch_of text ≡ Err (faults.NotForm 0)
unfolding watch_of
watch_of-none text none = ap watch_in (sym none)

watch_of-cut : (text front back : List ℕ) → Some (record { front = front; back = back }) ≡ cut_last 10 text → watch_of text ≡ whole (length front + 1) back (watch_from (pieces_of 10 front))
unfolding watch_of
watch_of-cut text front back cut = ap watch_in (sym cut)

watch_of-is : (text front back : List ℕ) (lines : List (List ℕ)) (outcome : Outcome Refusal (List ℕ) PlainWatch) → Some (record { front = front; back = back }) ≡ cut_last 10 text → lines ≡ pieces_of 10 front → watch_from lines ≡ outcome
    → watch_of text ≡ whole (length front + 1) back outcome
watch_of-is text front back lines outcome cut are read =
    watch_of-cut text front back cut ∙ ap (λ (ls : List (List ℕ)). whole (length front + 1) back (watch_from ls)) (sym are) ∙ ap (whole (length front + 1) back) read

pub watch_of-took : (text front back : List ℕ) (lines rest : List (List ℕ)) (watch : Watch) (result : Result Watch WatchFault) → Some (record { front = front; back = back }) ≡ cut_last 10 text → lines ≡ pieces_of 10 front
    → watch_from lines ≡ took (plain_watch watch) rest → Gives fault_in plain_watch result (whole (length front + 1) back (took (plain_watch watch) rest)) → Gives fault_in plain_watch result (watch_of text)
watch_of-took text front back lines rest watch result cut are read gives =
    subst (λ (reading : Result PlainWatch WatchFault). Gives fault_in plain_watch result reading) (sym (watch_of-is text front back lines (took (plain_watch watch) rest) cut are read)) gives

pub watch_of-stopped : (text front back : List ℕ) (lines rest : List (List ℕ)) (e : Fault Refusal) (offset : ℕ) → Some (record { front = front; back = back }) ≡ cut_last 10 text → lines ≡ pieces_of 10 front
    → (e ≢ refusals.Memory → watch_from lines ≡ stopped e rest) → offset ≡ offset_of (length front + 1) rest → Gives {X = Watch} fault_in plain_watch (Err (told_at offset e)) (watch_of text)
watch_of-stopped text front back lines rest e offset cut are stops at = rw at (by_fault e stops)
  where
    by_fault : (e : Fault Refusal) → (e ≢ refusals.Memory → watch_from lines ≡ stopped e rest) → Gives {X = Watch} fault_in plain_watch (Err (told_at (offset_of (length front + 1) rest) e)) (watch_of text)
    by_fault refusals.Refused stops = watch_of-is text front back lines (stopped refusals.Refused rest) cut are (stops (λ same. absurd cc))
    by_fault (refusals.Unfit why) stops = watch_of-is text front back lines (stopped (refusals.Unfit why) rest) cut are (stops (λ same. absurd cc))
    by_fault refusals.Memory stops = tt
