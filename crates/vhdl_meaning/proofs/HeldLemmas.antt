-- Assignments that are made at once, one after another, leave the values that are current after all of them.
use Rattle.std.proofs.Common.{◌≡◌, ◌∙◌, ℕ, ◌<◌, ◌≤◌, ◌^◌, ◌⊎◌, inl, inr, Bool, true, false, ◌==◌, ◌&&◌, if◌then◌else◌, List, [], ◌∷◌, length, slice_get, Some, refl, sym, ap, subst, arith}
use Rattle.std.proofs.Math.Path.{fun_ext}
use Rattle.std.proofs.lemmas.Bool.{cases_eq, eq-eqb}
use Rattle.std.proofs.lemmas.Bool.Decides.{nat_tests}
use Rattle.std.proofs.lemmas.Option.{slice_get_within}
use Rattle.tydi_base.specs.Bits.{number_of_bits, bits_of}
use Rattle.tydi_base.specs.Width.{index_width}
use Rattle.tydi_base.proofs.BitsLemmas.{number_of_bits-below}
use Rattle.tydi_base.proofs.WidthLaws.{index_width-least}
use Rattle.tydi_base.proofs.PlaceLemmas.{slice_get-there, slice_get-set_same, slice_get-set_other}
use Rattle.std.proofs.Math.ListN.{set}
use Rattle.std.proofs.lemmas.List.{length-set}
use Rattle.physical_stream.specs.Params.{Parameters}
use Rattle.physical_stream.specs.Signals.{Fits}
use Rattle.physical_stream.specs.declared.head.Head.{Head}
use Rattle.physical_stream.specs.declared.transfer.Transfer.{Transfer}
use Rattle.signal_layout.specs.Layout.{is_present, bits_of_signal, default_of, default_number}
use Rattle.signal_layout.specs.declared.signal.Signal.{Signal}
use Rattle.signal_layout.specs.declared.signal.Signal.TheVariants as signals
use Rattle.vhdl_meaning.specs.declared.lines.Lines.{Lines}
use Rattle.vhdl_meaning.specs.Meaning.{Values, words_for, last_of, current, transfer_in}
use Rattle.vhdl_text.specs.WellFormed.{Assigned, IsPut, is_signal}
use Rattle.vhdl_meaning.specs.Lines.{Has, CanPut, put_line, put_where, put_among, CanPutWhere, CanPutAmong, put_all, CanPutAll}
use Rattle.vhdl_meaning.specs.Held.{LinesFit, LinesHave}
use Rattle.vhdl_meaning.proofs.ProcessLemmas.{words_for-append, last_of-append}

-- ---- one assignment to one stream

abbrev set_word : Signal → List Bool → (Signal → List Bool) → Signal → List Bool
set_word signal bits values k = if is_signal signal k then bits else values k

module _ (p : Parameters) (bits : List Bool) (one : Lines) (values : Signal → List Bool) where
  abbrev dflt : Signal → List Bool
  dflt signal = bits_of (bits_of_signal p signal) (default_number p (default_of signal))

  has-put : (signal : Signal) → is_signal signal signals.Ready ≡ false → is_present p signal ≡ true → Has p one values → Has p (put_line signal bits one) (set_word signal bits values)
  has-put signals.Valid driven present has = record { valid = refl; held = has.held }
  has-put signals.Ready driven present has = absurd (let e : true ≡ false = driven in cc)
  has-put signals.Content driven present has = record {
    valid = has.valid;
    held = ap (λ (h : Transfer). record h { content = bits }) has.held ∙ ap (λ (b : Bool). record (transfer_in p values) { content = if b then bits else dflt signals.Content }) (sym present);
  }
  has-put signals.Last driven present has = record {
    valid = has.valid;
    held = ap (λ (h : Transfer). record h { last = bits }) has.held ∙ ap (λ (b : Bool). record (transfer_in p values) { last = if b then bits else dflt signals.Last }) (sym present);
  }
  has-put signals.Stai driven present has = record {
    valid = has.valid;
    held = ap (λ (h : Transfer). record h { stai = number_of_bits bits }) has.held ∙ ap (λ (b : Bool). record (transfer_in p values) { stai = number_of_bits (if b then bits else dflt signals.Stai) }) (sym present);
  }
  has-put signals.Endi driven present has = record {
    valid = has.valid;
    held = ap (λ (h : Transfer). record h { endi = number_of_bits bits }) has.held ∙ ap (λ (b : Bool). record (transfer_in p values) { endi = number_of_bits (if b then bits else dflt signals.Endi) }) (sym present);
  }
  has-put signals.Strb driven present has = record {
    valid = has.valid;
    held = ap (λ (h : Transfer). record h { strb = number_of_bits bits }) has.held ∙ ap (λ (b : Bool). record (transfer_in p values) { strb = number_of_bits (if b then bits else dflt signals.Strb) }) (sym present);
  }
  has-put signals.User driven present has = record {
    valid = has.valid;
    held = ap (λ (h : Transfer). record h { user = bits }) has.held ∙ ap (λ (b : Bool). record (transfer_in p values) { user = if b then bits else dflt signals.User }) (sym present);
  }

module _ (p : Parameters) (bits : List Bool) (one : Lines) where
  below : (width : ℕ) → length bits ≡ width → number_of_bits bits < 2 ^ width
  below width long = subst (λ w. number_of_bits bits < 2 ^ w) long (number_of_bits-below bits)

  fits-put : (signal : Signal) → length bits ≡ bits_of_signal p signal → Fits p one.held → Fits p (put_line signal bits one).held
  fits-put signals.Valid long fits = fits
  fits-put signals.Ready long fits = fits
  fits-put signals.Content long fits = record { content = long; last = fits.last; stai = fits.stai; endi = fits.endi; strb = fits.strb; user = fits.user }
  fits-put signals.Last long fits = record { content = fits.content; last = long; stai = fits.stai; endi = fits.endi; strb = fits.strb; user = fits.user }
  fits-put signals.Stai long fits = record { content = fits.content; last = fits.last; stai = below (index_width p.lanes) long; endi = fits.endi; strb = fits.strb; user = fits.user }
  fits-put signals.Endi long fits = record { content = fits.content; last = fits.last; stai = fits.stai; endi = below (index_width p.lanes) long; strb = fits.strb; user = fits.user }
  fits-put signals.Strb long fits = record { content = fits.content; last = fits.last; stai = fits.stai; endi = fits.endi; strb = below p.lanes long; user = fits.user }
  fits-put signals.User long fits = record { content = fits.content; last = fits.last; stai = fits.stai; endi = fits.endi; strb = fits.strb; user = long }

  can-put : (signal : Signal) → length bits ≡ bits_of_signal p signal → p.lanes ≤ 128 → index_width p.lanes ≤ 16 → Fits p one.held → CanPut signal bits one
  can-put signals.Valid long lanes width fits = long
  can-put signals.Ready long lanes width fits = tt
  can-put signals.Content long lanes width fits = fits.content ∙ sym long
  can-put signals.Last long lanes width fits = fits.last ∙ sym long
  can-put signals.Stai long lanes width fits = omega (arith, long, width)
  can-put signals.Endi long lanes width fits = omega (arith, long, width)
  can-put signals.Strb long lanes width fits = omega (arith, long, lanes)
  can-put signals.User long lanes width fits = fits.user ∙ sym long

-- ---- the values after one assignment, and after more

pub current-first : (a : Assigned) (more : List Assigned) (values : Values) → current (a ∷ more) values ≡ current more (current (a ∷ []) values)
current-first a more values = fun_ext (λ stream. fun_ext (λ signal.
    ap (last_of (values stream signal)) (words_for-append stream signal (a ∷ []) more)
    ∙ last_of-append (values stream signal) (words_for stream signal (a ∷ [])) (words_for stream signal more)))

current-own : (a : Assigned) (values : Values) (stream : ℕ) → (a.stream == stream) ≡ true → current (a ∷ []) values stream ≡ set_word a.signal a.bits (values stream)
current-own a values stream same = fun_ext (λ signal.
    ap (λ (b : Bool). last_of (values stream signal) (if b && is_signal a.signal signal then a.bits ∷ [] else [])) same
    ∙ by_code signal (is_signal a.signal signal))
  where
    by_code : (signal : Signal) (test : Bool) → last_of (values stream signal) (if true && test then a.bits ∷ [] else []) ≡ (if test then a.bits else values stream signal)
    by_code signal true = refl
    by_code signal false = refl

current-other : (a : Assigned) (values : Values) (stream : ℕ) → (a.stream == stream) ≡ false → current (a ∷ []) values stream ≡ values stream
current-other a values stream other = fun_ext (λ signal.
    ap (λ (b : Bool). last_of (values stream signal) (if b && is_signal a.signal signal then a.bits ∷ [] else [])) other)

-- ---- one assignment among the signals of all streams

-- each stream has no more lanes than a transfer has room for
abbrev pub AreNarrow : List Head → Type 0
AreNarrow heads = (stream : ℕ) (head : Head) → slice_get heads stream ≡ Some head → head.params.lanes ≤ 128

index_width-narrow : (lanes : ℕ) → lanes ≤ 128 → index_width lanes ≤ 16
index_width-narrow lanes few = let e : index_width lanes ≤ 7 = (index_width-least lanes).least 7 (omega (arith, few)) in omega (arith, e)

module _ (heads : List Head) (narrow : AreNarrow heads) (a : Assigned) (all : List Lines) (put : IsPut heads a.stream a.signal a.bits) (fit : LinesFit heads all) where
  there : (one : Lines) × (slice_get all a.stream ≡ Some one)
  there =
      let long = fit.long in
      let within = slice_get_within heads a.stream put.head put.stands in
      slice_get-there all a.stream (omega (arith, within, long))

  among-can : CanPutAmong a all
  among-can =
      let few = narrow a.stream put.head put.stands in
      subst (CanPutWhere a) (sym there.1)
      (can-put put.head.params a.bits there.0 a.signal put.width few (index_width-narrow put.head.params.lanes few) (fit.fits a.stream put.head there.0 put.stands there.1))

  abbrev after : Lines
  after = put_line a.signal a.bits there.0

  among-is : put_among a all ≡ set all a.stream after
  among-is = ap (put_where a all) there.1

  -- a fact of the stream that is assigned to, and of each other one, is one of each stream after the assignment
  put-each : (Q : ℕ → Head → Lines → Type 0) → Q a.stream put.head after →
      ((stream : ℕ) (head : Head) (one : Lines) → (a.stream ≡ stream → ⊥) → slice_get heads stream ≡ Some head → slice_get all stream ≡ Some one → Q stream head one) →
      (stream : ℕ) (head : Head) (one : Lines) → slice_get heads stream ≡ Some head → slice_get (put_among a all) stream ≡ Some one → Q stream head one
  put-each Q own other stream head one h g = by_place (cases_eq a.stream stream)
    where
      by_place : (a.stream ≡ stream) ⊎ (a.stream ≡ stream → ⊥) → Q stream head one
      by_place (inl same) =
          let got1 : slice_get (put_among a all) a.stream ≡ Some after =
          ap (λ l. slice_get l a.stream) among-is ∙ slice_get-set_same all a.stream after (slice_get_within all a.stream there.0 there.1) in
          let got2 : slice_get (put_among a all) a.stream ≡ Some one = ap (slice_get (put_among a all)) same ∙ g in
          let e : after ≡ one = let s = sym got1 ∙ got2 in cc in
          let heads2 : slice_get heads a.stream ≡ Some head = ap (slice_get heads) same ∙ h in
          let f : put.head ≡ head = let s = sym put.stands ∙ heads2 in cc in
          subst (λ s. Q s head one) same (subst (λ x. Q a.stream x one) f (subst (λ l. Q a.stream put.head l) e own))
      by_place (inr apart) = other stream head one apart h (sym (ap (λ l. slice_get l stream) among-is ∙ slice_get-set_other all a.stream stream after apart) ∙ g)

  among-fit : LinesFit heads (put_among a all)
  among-fit = record {
    long = ap length among-is ∙ length-set all a.stream after ∙ fit.long;
    fits = put-each (λ stream head one. Fits head.params one.held)
        (fits-put put.head.params a.bits there.0 a.signal put.width (fit.fits a.stream put.head there.0 put.stands there.1)) (λ stream head one apart. fit.fits stream head one);
  }

  among-have : (values : Values) → LinesHave heads all values → LinesHave heads (put_among a all) (current (a ∷ []) values)
  among-have values have = put-each (λ stream head one. Has head.params one (current (a ∷ []) values stream))
      (subst (Has put.head.params after) (sym (current-own a values a.stream (eq-eqb a.stream a.stream refl)))
      (has-put put.head.params a.bits there.0 (values a.stream) a.signal put.driven put.present (have a.stream put.head there.0 put.stands there.1)))
      (λ stream head one apart h g.
      let away : (a.stream == stream) ≡ false = grind (arith, nat_tests) in
      subst (Has head.params one) (sym (current-other a values stream away)) (have stream head one h g))

-- ---- the assignments of a process

-- each of these assignments can be made to its stream
abbrev pub ArePuts : List Head → List Assigned → Type 0
ArePuts heads [] = Unit {0}
ArePuts heads (a ∷ more) = IsPut heads a.stream a.signal a.bits × ArePuts heads more

pub all-fit : (heads : List Head) (assigned : List Assigned) (all : List Lines) → AreNarrow heads → ArePuts heads assigned → LinesFit heads all →
    CanPutAll assigned all × LinesFit heads (put_all assigned all)
all-fit heads [] all narrow puts fit = (tt, fit)
all-fit heads (a ∷ more) all narrow puts fit =
    let rest = all-fit heads more (put_among a all) narrow puts.1 (among-fit heads narrow a all puts.0 fit) in
    ((among-can heads narrow a all puts.0 fit, rest.0), rest.1)

pub all-have : (heads : List Head) (assigned : List Assigned) (all : List Lines) (values : Values) → AreNarrow heads → ArePuts heads assigned → LinesFit heads all → LinesHave heads all values →
    LinesHave heads (put_all assigned all) (current assigned values)
all-have heads [] all values narrow puts fit have = have
all-have heads (a ∷ more) all values narrow puts fit have =
    subst (LinesHave heads (put_all more (put_among a all))) (sym (current-first a more values))
    (all-have heads more (put_among a all) (current (a ∷ []) values) narrow puts.1 (among-fit heads narrow a all puts.0 fit) (among-have heads narrow a all puts.0 fit values have))
