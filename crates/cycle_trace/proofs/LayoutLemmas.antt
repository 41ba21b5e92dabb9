-- The facts about a stream that the reader of its rows uses.
use Rattle.std.proofs.Common.{Bool, true, false, is_some, ◌≡◌, ℕ, refl, ap, ◌∙◌}
use Rattle.physical_stream.specs.Params.{Parameters}
use Rattle.physical_stream.specs.Signals.{has_content, has_last, has_stai, has_endi, has_strb, has_user}
use Rattle.signal_layout.specs.declared.signal.Signal.{Signal}
use Rattle.signal_layout.specs.declared.signal.Signal.TheVariants as signals
use Rattle.signal_layout.specs.declared.layout.Signals.{Signals}
use Rattle.signal_layout.specs.Layout.{is_present, bits_of_signal, where_present, width_of, width_in}
use Rattle.cycle_trace.specs.RowText.{has_payload}
use Rattle.cycle_trace.specs.RowLayout.{IsWord, has_payload_in}
use Rattle.cycle_trace.specs.declared.row.layout.WordSignal.{WordSignal}

some_where : (present : Bool) (width : ℕ) → is_some (where_present present width) ≡ present
some_where true width = refl
some_where false width = refl

-- the signals that have a width are those of the stream
module _ (p : Parameters) (layout : Signals) (h : (s : Signal) → width_in layout s ≡ width_of p s) where
  pub there : (s : Signal) → is_some (width_in layout s) ≡ is_present p s
  there s = ap is_some (h s) ∙ some_where (is_present p s) (bits_of_signal p s)

  pub payload_there : has_payload_in layout ≡ has_payload p
  payload_there =
      let content : is_some layout.content ≡ has_content p = there signals.Content in
      let last : is_some layout.last ≡ has_last p = there signals.Last in
      let stai : is_some layout.stai ≡ has_stai p = there signals.Stai in
      let endi : is_some layout.endi ≡ has_endi p = there signals.Endi in
      let strb : is_some layout.strb ≡ has_strb p = there signals.Strb in
      let user : is_some layout.user ≡ has_user p = there signals.User in
      rw (content, last, stai, endi, strb, user) refl

-- a word signal of a stream, as it was made
pub word : {signal : WordSignal} {present there_is : Bool} {width wide_is : ℕ} → IsWord signal present width → present ≡ there_is → width ≡ wide_is → IsWord signal there_is wide_is
word is same wide = record { there = is.there ∙ same; wide = is.wide ∙ wide; many = is.many }
