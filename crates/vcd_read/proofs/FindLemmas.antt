-- The search for the clock and the signals of the streams.
use Rattle.std.proofs.Common.{◌≡◌, ◌∙◌, ℕ, suc, ◌+◌, ◌<◌, Bool, true, false, List, [], ◌∷◌, ◌++◌, drop, get_or, length, take, slice_get, Option, Some, None}
use Rattle.std.proofs.Common.{Result, Ok, Err, if◌then◌else◌, refl, sym, ap, subst, arith}
use Rattle.std.proofs.Math.Seq.{drop-cons}
use Rattle.std.proofs.lemmas.Bool.{eqb-true}
use Rattle.std.proofs.lemmas.List.{take_more}
use Rattle.std.proofs.lemmas.Grind.{flat_map-append}
use Rattle.std.specs.List.{flat_map}
use Rattle.std.specs.Option.{MatchOption}
use Rattle.physical_stream.specs.declared.head.Head.{Head}
use Rattle.signal_layout.specs.Layout.{bits_of_signal, is_present, where_present, width_of}
use Rattle.signal_layout.specs.declared.signal.Signal.{Signal}
use Rattle.vhdl_text.specs.Text.{plain_name}
use Rattle.std.specs.Result.{IsErrAnd}
use Rattle.vcd_read.specs.Finding.{AreProbes, FindsProbe, IsContact, IsFirst, IsHarness, IsProbe}
use Rattle.vcd_read.specs.History.{Part, declared_width, signal_in}
use Rattle.vcd_read.specs.Profile.{may_have_width}
use Rattle.vcd_read.specs.Shown.{fault_in}
use Rattle.vcd_read.specs.Variables.{HasNumber}
use Rattle.vcd_read.specs.Wanted.{Codes, Widths, clock_faults, code_faults, codes_in, faults_from, first_fault, signal_faults, stream_faults, width_faults}
use Rattle.vcd_read.specs.Wanted.{widths_in, wiring_fault}
use Rattle.vcd_read.specs.Wires.{AreWires, width_in}
use Rattle.vcd_read.specs.declared.fault.VcdFault.{VcdFault}
use Rattle.vcd_read.specs.declared.fault.VcdFault.TheVariants as faults
use Rattle.vcd_read.specs.declared.finder.Finder.{Finder}
use Rattle.vcd_read.specs.declared.probe.Probe.{Probe}
use Rattle.vcd_read.specs.declared.wire.Wire.{Wire}
use Rattle.vcd_read.proofs.WireLemmas.{kept-at, width-at}

-- ---- the first of several faults

first-here : (o : Option VcdFault) (xs ys : List VcdFault) → MatchOption o (Unit {0}) (λ f. first_fault xs ≡ Some f)
    → MatchOption o (Unit {0}) (λ f. first_fault (xs ++ ys) ≡ Some f)
unfolding first_fault
first-here None xs ys is = tt
first-here (Some f) [] ys is = absurd (let e = is in cc)
first-here (Some f) (x ∷ xs) ys is = is

-- it is among these
pub among : (xs ys : List VcdFault) (fault : VcdFault) → IsFirst xs fault → IsFirst (xs ++ ys) fault
among xs ys fault is = first-here (fault_in fault) xs ys is

-- nothing is wrong before
pub behind : (xs ys : List VcdFault) (fault : VcdFault) → xs ≡ [] → IsFirst ys fault → IsFirst (xs ++ ys) fault
behind xs ys fault none is = subst (λ (l : List VcdFault). IsFirst (l ++ ys) fault) (sym none) is

-- ---- the signals of a stream

-- nothing is wrong with one signal more
pub none-more : (f : Signal → List VcdFault) (signal : Signal) (rest : List Signal) → f signal ≡ [] → flat_map f rest ≡ [] → flat_map f (signal ∷ rest) ≡ []
none-more f signal rest one others = λ i. one i ++ others i

-- something is wrong with this signal, and nothing with those before it
pub at-signal : (f : Signal → List VcdFault) (before : List Signal) (signal : Signal) (after : List Signal) (fault : VcdFault) → flat_map f before ≡ []
    → IsFirst (f signal) fault → IsFirst (flat_map f (before ++ signal ∷ after)) fault
at-signal f before signal after fault none is =
    subst (λ (l : List VcdFault). IsFirst l fault) (sym (flat_map-append f before (signal ∷ after)))
    (behind (flat_map f before) (f signal ++ flat_map f after) fault none (among (f signal) (flat_map f after) fault is))

-- the error of a step
pub finds-err : (scope : List (List ℕ)) (parts : List Part) (finder : Finder) (stream : ℕ) (head : Head) (result : Result Probe VcdFault)
    (fault : VcdFault) → IsErrAnd result (λ e. e ≡ fault)
    → IsFirst (stream_faults (codes_in scope parts) (widths_in parts) stream head) fault → FindsProbe scope parts finder stream head result
finds-err scope parts finder stream head (Ok probe) fault is wrong = absurd is
finds-err scope parts finder stream head (Err e) fault is wrong = subst (IsFirst (stream_faults (codes_in scope parts) (widths_in parts) stream head))
    (sym is) wrong

-- ---- the clock

pub no-clock : (codes : Codes) (widths : Widths) (clock : Option (List ℕ)) (heads : List Head) → clock ≡ None
    → wiring_fault codes widths clock heads ≡ Some faults.NoClock
unfolding clock_faults first_fault
no-clock codes widths clock heads is = ap (λ (o : Option (List ℕ)). first_fault (clock_faults o ++ faults_from codes widths 0 heads)) is

-- there is a clock, so that the faults are those of the streams
pub with-clock : (codes : Codes) (widths : Widths) (clock : Option (List ℕ)) (code : List ℕ) (heads : List Head) → clock ≡ Some code
    → wiring_fault codes widths clock heads ≡ first_fault (faults_from codes widths 0 heads)
unfolding clock_faults
with-clock codes widths clock code heads is = ap (λ (o : Option (List ℕ)). first_fault (clock_faults o ++ faults_from codes widths 0 heads)) is

pub harness-found : (kept : List (List ℕ)) (widths : Widths) (codes : Codes) (clock : Option (List ℕ)) (heads : List Head) (number : ℕ)
    (probes : List Probe) → HasNumber kept clock number
    → faults_from codes widths 0 heads ≡ [] → AreProbes kept widths codes heads probes → IsHarness kept widths codes clock heads (record {
      clock = number;
      probes = probes;
    })
unfolding first_fault
harness-found kept widths codes clock heads number probes has none each =
    record { right = with-clock codes widths clock has.code heads has.found_is ∙ ap first_fault none; clock_is = has; probes_are = each }

pub harness-wrong : (kept : List (List ℕ)) (widths : Widths) (codes : Codes) (clock : Option (List ℕ)) (heads : List Head) (number : ℕ)
    (fault : VcdFault) → HasNumber kept clock number
    → IsFirst (faults_from codes widths 0 heads) fault → MatchOption (fault_in fault) (Unit {0}) (λ f. wiring_fault codes widths clock heads ≡ Some f)
harness-wrong kept widths codes clock heads number fault has wrong =
    subst (λ (o : Option VcdFault). MatchOption (fault_in fault) (Unit {0}) (λ f. o ≡ Some f))
    (sym (with-clock codes widths clock has.code heads has.found_is)) wrong

-- ---- one signal

absent : (present : Bool) (bits : ℕ) → where_present present bits ≡ None → present ≡ false
absent true bits is = absurd (let e = is in cc)
absent false bits is = refl

present-so : (present : Bool) (bits width : ℕ) → where_present present bits ≡ Some width → (present ≡ true) × (bits ≡ width)
present-so true bits width is = (refl, let e = is in cc)
present-so false bits width is = absurd (let e = is in cc)

module _ (scope : List (List ℕ)) (parts : List Part) (stream : ℕ) (head : Head) (signal : Signal) where
  abbrev codes : Codes
  codes = codes_in scope parts

  abbrev widths : Widths
  widths = widths_in parts

  -- the stream lacks the signal
  pub lacks : width_of head.params signal ≡ None → (signal_faults codes widths stream head signal ≡ []) × (is_present head.params signal ≡ false)
  unfolding width_faults
  lacks none = (
    ap (λ (o : Option ℕ). width_faults widths stream signal o (codes head signal)) none,
    absent (is_present head.params signal)
        (bits_of_signal head.params signal) none,
  )

  module _ (width : ℕ) (has : width_of head.params signal ≡ Some width) where
    there : (is_present head.params signal ≡ true) × (bits_of_signal head.params signal ≡ width)
    there = present-so (is_present head.params signal) (bits_of_signal head.params signal) width has

    code-is : (found : Option (List ℕ)) → signal_in scope (plain_name head signal) parts ≡ found → codes head signal ≡ found
    code-is found is = ap (λ (test : Bool). if test then signal_in scope (plain_name head signal) parts else None) there.0 ∙ is

    faults-are : (found : Option (List ℕ)) → signal_in scope (plain_name head signal) parts ≡ found
        → signal_faults codes widths stream head signal ≡ code_faults widths stream signal width found
    unfolding width_faults
    faults-are found is =
        ap (λ (o : Option ℕ). width_faults widths stream signal o (codes head signal)) has ∙ ap (code_faults widths stream signal width) (code-is found is)

    pub missing : signal_in scope (plain_name head signal) parts ≡ None → IsFirst (signal_faults codes widths stream head signal)
        (faults.NoSignal stream signal)
    unfolding code_faults first_fault
    missing none = ap first_fault (faults-are None none)

    module _ (kept : List (List ℕ)) (all : List Wire) (block : ℕ) (are : AreWires kept all block parts) (number : ℕ)
        (found : HasNumber kept (signal_in scope (plain_name head signal) parts) number) where
      width-is : declared_width found.code parts ≡ width_in (slice_get all number)
      width-is = width-at kept all block number found.code parts are found.numbered

      by-code : (test : Bool) → may_have_width (width_in (slice_get all number)) width ≡ test
          → signal_faults codes widths stream head signal ≡ (if test then [] else faults.OtherWidth stream signal ∷ [])
      unfolding code_faults
      by-code test is =
          faults-are (Some found.code) found.found_is ∙ ap (λ (o : Option ℕ). if may_have_width o width then [] else faults.OtherWidth stream signal ∷ [])
          width-is
          ∙ ap (λ (b : Bool). if b then [] else faults.OtherWidth stream signal ∷ []) is

      pub other-width : may_have_width (width_in (slice_get all number)) width ≡ false → IsFirst (signal_faults codes widths stream head signal)
          (faults.OtherWidth stream signal)
      unfolding first_fault
      other-width is = ap first_fault (by-code false is)

      pub is-found : may_have_width (width_in (slice_get all number)) width ≡ true → (signal_faults codes widths stream head signal ≡ []) × IsContact kept
          widths codes head signal (Some number)
      is-found is =
          let wire = kept-at kept all block number found.code parts are found.numbered in
          let may : may_have_width (Some wire.0.width) width ≡ true = ap (λ (o : Option ℕ). may_have_width o width) (sym wire.1.1.width ∙ width-is) ∙ is in
          let same : wire.0.width ≡ width = eqb-true wire.0.width width may in (
            by-code true is,
            (
              there.0,
              record {
                code = found.code;
                found_is = code-is (Some found.code) found.found_is;
                number_is = record { code = found.code; found_is = code-is (Some found.code) found.found_is; numbered = found.numbered };
                wide = wire.1.1.width ∙ ap (λ (n : ℕ). Some n) (same ∙ sym there.1);
              },
            ),
          )

-- ---- all streams

module _ (kept : List (List ℕ)) (widths : Widths) (codes : Codes) where
  -- one stream more
  pub probes-push : (heads : List Head) (probes : List Probe) (head : Head) (probe : Probe) → AreProbes kept widths codes heads probes
      → IsProbe kept widths codes head probe
      → AreProbes kept widths codes (heads ++ head ∷ []) (probes ++ probe ∷ [])
  probes-push [] [] head probe each is = (is, tt)
  probes-push [] (one ∷ probes) head probe each is = absurd each
  probes-push (one ∷ heads) [] head probe each is = absurd each
  probes-push (one ∷ heads) (other ∷ probes) head probe each is = (each.0, probes-push heads probes head probe each.1 is)

  pub probes-next : (heads : List Head) (stream : ℕ) (probes new : List Probe) (head : Head) (probe : Probe) → stream < length heads
      → head ≡ get_or heads stream head → AreProbes kept widths codes (take stream heads) probes
      → IsProbe kept widths codes head probe → new ≡ probes ++ probe ∷ [] → AreProbes kept widths codes (take (suc stream) heads) new
  probes-next heads stream probes new head probe within is each one pushed =
      subst (AreProbes kept widths codes (take (suc stream) heads)) (sym pushed)
      (subst (λ (l : List Head). AreProbes kept widths codes l (probes ++ probe ∷ [])) (sym taken)
      (probes-push (take stream heads) probes head probe each one))
    where
      taken : take (suc stream) heads ≡ take stream heads ++ head ∷ []
      taken = ap (λ n. take n heads) (let e : suc stream ≡ stream + 1 = omega arith in e) ∙ take_more heads stream head within
          ∙ ap (λ (h : Head). take stream heads ++ h ∷ []) (sym is)

  faults-cons : (heads : List Head) (stream : ℕ) (head : Head) → stream < length heads → head ≡ get_or heads stream head
      → faults_from codes widths stream (drop stream heads) ≡ stream_faults codes widths stream head ++ faults_from codes widths (suc stream)
      (drop (suc stream) heads)
  faults-cons heads stream head within is =
      ap (faults_from codes widths stream) (drop-cons heads stream head within ∙ ap (λ (h : Head). h ∷ drop (suc stream) heads) (sym is))

  -- nothing is wrong with this stream
  pub faults-next : (heads : List Head) (stream : ℕ) (head : Head) → stream < length heads → head ≡ get_or heads stream head
      → stream_faults codes widths stream head ≡ []
      → faults_from codes widths stream (drop stream heads) ≡ faults_from codes widths (suc stream) (drop (suc stream) heads)
  faults-next heads stream head within is none = faults-cons heads stream head within is ∙ ap (λ (l : List VcdFault). l ++ faults_from codes widths (suc
      stream) (drop (suc stream) heads)) none

  -- the same of the streams so far
  pub streams-next : (heads : List Head) (stream : ℕ) (probes new : List Probe) (head : Head) (probe : Probe) → stream < length heads
      → head ≡ get_or heads stream head
      → faults_from codes widths 0 heads ≡ faults_from codes widths stream (drop stream heads) → AreProbes kept widths codes (take stream heads) probes
      → stream_faults codes widths stream head ≡ [] → IsProbe kept widths codes head probe → new ≡ probes ++ probe ∷ []
      → (faults_from codes widths 0 heads ≡ faults_from codes widths (stream + 1) (drop (stream + 1) heads)) × AreProbes kept widths codes (take (stream + 1)
      heads) new
  streams-next heads stream probes new head probe within is before each none one pushed =
      let plus : suc stream ≡ stream + 1 = omega arith in (
        subst (λ n. faults_from codes widths 0 heads ≡ faults_from codes widths n (drop n heads)) plus (before
            ∙ faults-next heads stream head within is none),
        subst (λ n. AreProbes kept widths codes (take n heads) new) plus (probes-next heads stream probes new head probe within is each one pushed),
      )

  -- something is
  pub faults-here : (heads : List Head) (stream : ℕ) (head : Head) (fault : VcdFault) → stream < length heads → head ≡ get_or heads stream head
      → IsFirst (stream_faults codes widths stream head) fault
      → IsFirst (faults_from codes widths stream (drop stream heads)) fault
  faults-here heads stream head fault within is wrong =
      subst (λ (l : List VcdFault). IsFirst l fault) (sym (faults-cons heads stream head within is))
      (among (stream_faults codes widths stream head) (faults_from codes widths (suc stream) (drop (suc stream) heads)) fault wrong)
