-- What is told of the rows at the end of a text.
use Rattle.std.proofs.Common.{◌≡◌, ◌∙◌, ◌⊎◌, inl, inr, ℕ, ◌<◌, ◌≤◌, nat_lt, Bool, true, false, List, ◌++◌, length, option_map, Option, Some, None}
use Rattle.std.proofs.Common.{Ok, Err, if◌then◌else◌, sym, ap, arith}
use Rattle.std.proofs.lemmas.Bool.Decides.{nat_tests}
use Rattle.std.specs.List.{flat_map}
use Rattle.cycle_trace.specs.Spelling.{header_text}
use Rattle.cycle_trace.specs.Trace.{most_cycles}
use Rattle.cycle_trace.specs.Version.{version_of}
use Rattle.physical_stream.specs.declared.head.Head.{Head}
use Rattle.vcd_read.specs.History.{Part}
use Rattle.vcd_read.specs.Kept.{IsKept, bytes_of, if_kept, kept_bytes, kept_text}
use Rattle.vcd_read.specs.Sampled.{not_bit, sampled}
use Rattle.vcd_read.specs.Samples.{AreSamples, edge_text}
use Rattle.vcd_read.specs.Shown.{edges_shown, rows_shown}
use Rattle.vcd_read.specs.Wanted.{Codes}
use Rattle.vcd_read.specs.declared.dump_text.DumpText.{DumpText}
use Rattle.vcd_read.specs.declared.fault.VcdFault.TheVariants as faults
use Rattle.vcd_read.specs.declared.place.Place.{Place}
use Rattle.vcd_read.specs.declared.samples.Samples.{Samples}
use Rattle.vcd_read.proofs.SampleLemmas.{rows-text-all}

module _ (codes : Codes) (heads : List Head) (rising : List (List Part)) (samples : Samples) (are : AreSamples codes heads rising samples) where
  few-or-many : (n m : ℕ) → (n ≤ m) ⊎ (m < n)
  few-or-many n m = grind (arith, nat_tests)

  few : samples.cycles ≤ most_cycles → length rising ≤ most_cycles
  few within = by (few-or-many (length rising) most_cycles)
    where
      by : (length rising ≤ most_cycles) ⊎ (most_cycles < length rising) → length rising ≤ most_cycles
      by (inl less) = less
      by (inr more) = absurd (let over = are.over more in omega (arith, within, over))

  many : most_cycles < samples.cycles → most_cycles < length rising
  many past = by (few-or-many (length rising) most_cycles)
    where
      by : (length rising ≤ most_cycles) ⊎ (most_cycles < length rising) → most_cycles < length rising
      by (inl less) = absurd (let count = are.many less in omega (arith, past, count, less))
      by (inr more) = more

  -- there are too many edges
  pub too-many : most_cycles < samples.cycles → kept_text (edges_shown codes heads rising) ≡ Err faults.TooManyCycles
  unfolding edges_shown kept_text
  too-many past =
      let more = many past in
      let test : nat_lt most_cycles (length rising) ≡ true = grind (arith, nat_tests, more) in
      ap (λ (b : Bool). kept_text (if b then Err faults.TooManyCycles else rows_shown (sampled codes heads rising) (not_bit codes heads 0 rising))) test

  -- they are not too many
  within : samples.cycles ≤ most_cycles → edges_shown codes heads rising ≡ rows_shown (sampled codes heads rising) (not_bit codes heads 0 rising)
  unfolding edges_shown
  within less =
      let count = few less in
      let test : nat_lt most_cycles (length rising) ≡ false = grind (arith, nat_tests, count) in
      ap (λ (b : Bool). if b then Err faults.TooManyCycles else rows_shown (sampled codes heads rising) (not_bit codes heads 0 rising)) test

  -- a row is not of bits
  pub row-wrong : samples.cycles ≤ most_cycles → (place : Place) → samples.not_bit ≡ Some place
      → kept_text (edges_shown codes heads rising) ≡ Err (faults.NotBit place.cycle place.stream)
  unfolding rows_shown kept_text
  row-wrong less place is =
      ap kept_text (within less ∙ ap (rows_shown (sampled codes heads rising)) (sym (are.first (few less)) ∙ is))

  -- each row is of bits
  pub all-shown : samples.cycles ≤ most_cycles → samples.not_bit ≡ None → (made : Option DumpText)
      → ((text : List ℕ) → IsKept samples.rows text → option_map bytes_of made ≡ if_kept (header_text (version_of heads) samples.cycles heads ++ text))
      → kept_text (edges_shown codes heads rising) ≡ Ok (kept_bytes made)
  unfolding rows_shown kept_text
  all-shown less is made text =
      let none : not_bit codes heads 0 rising ≡ None = sym (are.first (few less)) ∙ is in
      ap kept_text (within less ∙ ap (rows_shown (sampled codes heads rising)) none)
      ∙ ap (λ (l : List ℕ). Ok (if_kept (header_text (version_of heads) (length rising) heads ++ l))) (rows-text-all codes heads rising)
      ∙ ap (λ n. Ok (if_kept (header_text (version_of heads) n heads ++ flat_map (edge_text codes heads) rising))) (sym (are.many (few less)))
      ∙ ap Ok (sym (text (flat_map (edge_text codes heads) rising) (are.rows (few less) none)))
