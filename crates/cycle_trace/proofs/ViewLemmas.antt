-- The rows of a trace, by their cycle and stream.
use Rattle.std.proofs.Common.{◌≡◌, ℕ, ◌+◌, ◌*◌, ◌<◌, List, [], ◌∷◌, length, get_or, Option, Some, None, IfSome, refl, sym, ap, ◌∙◌, arith}
use Rattle.std.specs.List.{slice_get}
use Rattle.std.specs.Option.{option_map, option_to_list}
use Rattle.std.proofs.lemmas.List.{length-map}
use Rattle.std.proofs.lemmas.Nat.{mul-add-lt}
use Rattle.std.proofs.lemmas.Option.{slice_get-get_or, slice_get-map}
use Rattle.physical_stream.specs.Signals.{Shows}
use Rattle.physical_stream.specs.declared.head.Head.{Head}
use Rattle.physical_stream.specs.declared.head.Header.{Header}
use Rattle.physical_stream.specs.declared.transfer.Transfer.{Transfer}
use Rattle.cycle_trace.specs.declared.trace.OwnRow.{OwnRow}
use Rattle.cycle_trace.specs.Trace.{IsTrace, cycle_of, cycles_of, row_in, text_of}
use Rattle.cycle_trace.specs.TraceView.{IsShownIn}
use Rattle.cycle_trace.proofs.RowsLemmas.{length-owed_heads, owed_at}

module _ (header : Header) (rows : List OwnRow) (whole : IsTrace (text_of header rows)) where
  -- there is a row for each cycle and stream
  pub length-rows : length rows ≡ header.cycles * length header.heads
  length-rows = sym (length-map rows cycle_of) ∙ whole.shown.many ∙ length-owed_heads (text_of header rows)

  module _ (cycle stream : ℕ) (cycle_in : cycle < header.cycles) (stream_in : stream < length header.heads) where
    pub row_within : cycle * length header.heads + stream < length rows
    row_within = omega (arith, length-rows, mul-add-lt cycle (length header.heads) stream header.cycles cycle_in stream_in)

    module _ (row : OwnRow) (is : row ≡ get_or rows (cycle * length header.heads + stream) row) where
      row_there : slice_get (cycles_of rows) (cycle * length header.heads + stream) ≡ Some (cycle_of row)
      row_there =
          slice_get-map cycle_of rows (cycle * length header.heads + stream)
          ∙ ap (option_map cycle_of) (slice_get-get_or rows (cycle * length header.heads + stream) row row_within ∙ ap Some (sym is))

      pub row_in-row : row_in (text_of header rows) stream cycle ≡ cycle_of row ∷ []
      row_in-row = ap option_to_list row_there

      shown_by : (t : Transfer) → row.shown ≡ Some t → (found : Option Head) → slice_get header.heads stream ≡ found → IfSome found (λ head. Shows head.params t)
      shown_by t shown None e = tt
      shown_by t shown (Some head) e = whole.shown.each (cycle * length header.heads + stream) head.params (cycle_of row) t (owed_at header.heads header.cycles cycle stream head e cycle_in) row_there shown

      any_shown : (shown : Option Transfer) → row.shown ≡ shown → IfSome shown (λ t. IfSome (slice_get header.heads stream) (λ head. Shows head.params t))
      any_shown None e = tt
      any_shown (Some t) e = shown_by t e (slice_get header.heads stream) refl

      pub row-shown : IsShownIn (text_of header rows) stream (cycle_of row)
      row-shown = any_shown row.shown refl
