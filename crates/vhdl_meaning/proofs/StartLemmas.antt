-- The start of a simulation: all signals at zero, and each process at its first wait.
use Rattle.std.proofs.Common.{◌≡◌, ◌∙◌, ℕ, zero, suc, ◌+◌, ◌-◌, ◌*◌, ◌^◌, ◌<◌, ◌≤◌, ◌⊎◌, inl, inr, Bool, true, false, if◌then◌else◌, List, [], ◌∷◌, ◌++◌, length, map, get_or, slice_get, Option, Some, None, refl, sym, ap, subst, arith}
use Rattle.std.specs.List.{flat_map}
use Rattle.std.proofs.lemmas.List.{append-nil, length-append, length-map, length-replicate, map_push, get_or_push, get_or_append_left}
use Rattle.std.proofs.lemmas.Grind.{flat_map-append}
use Rattle.std.proofs.lemmas.Nat.{pow_pos}
use Rattle.std.proofs.Math.Pow.{pow-sub-lt}
use Rattle.std.specs.Option.{option_map}
use Rattle.std.proofs.lemmas.Option.{slice_get-map, slice_get_within, get_or_from_slice_get, none-some}
use Rattle.tydi_base.specs.Bits.{bits_of, number_of_bits, zero_bits}
use Rattle.tydi_base.proofs.BitsLemmas.{bits_of-zero, number_of_bits-bits_of}
use Rattle.tydi_base.proofs.NumberLemmas.{number_of_bits-zeros}
use Rattle.tydi_base.specs.Width.{index_width}
use Rattle.tydi_base.proofs.WidthLaws.{index_width-least}
use Rattle.tydi_base.proofs.PlaceLemmas.{same_or_other}
use Rattle.physical_stream.specs.Params.{Parameters}
use Rattle.physical_stream.specs.Signals.{Fits, has_content, has_last, has_stai, has_endi, has_strb, has_user}
use Rattle.physical_stream.specs.declared.head.Head.{Head}
use Rattle.physical_stream.specs.declared.transfer.Transfer.{Transfer}
use Rattle.signal_layout.specs.Layout.{where_present, bits_of_signal}
use Rattle.signal_layout.specs.declared.signal.Signal.{Signal}
use Rattle.vhdl_text.specs.WellFormed.{IsStmt, IsPut, IsWellFormed}
use Rattle.vhdl_text.specs.declared.bench.Stmt.{Stmt}
use Rattle.vhdl_text.specs.declared.bench.Stmt.TheVariants as stmts
use Rattle.vhdl_text.specs.declared.bench.Bench.{Bench}
use Rattle.vhdl_meaning.specs.declared.lines.Lines.{Lines}
use Rattle.vhdl_meaning.specs.declared.process.Process.{Process}
use Rattle.vhdl_meaning.specs.Meaning.{Values, zeros, zeros_in, assigned_by, waits_at, current, started}
use Rattle.vhdl_meaning.specs.Lines.{Has, zero_lines, CanPutAll, put_all}
use Rattle.vhdl_meaning.specs.Held.{LinesFit, LinesHave}
use Rattle.vhdl_meaning.specs.Place.{left_of}
use Rattle.vhdl_meaning.specs.Sound.{CanTake, ArePutsSound}
use Rattle.vhdl_meaning.specs.Turns.{lefts, at_start, ArePlaces}
use Rattle.vhdl_meaning.specs.Standing.{StandsAt}
use Rattle.vhdl_meaning.specs.Started.{AreBegun}
use Rattle.vhdl_meaning.proofs.HeldLemmas.{ArePuts, all-fit, all-have}
use Rattle.vhdl_meaning.proofs.TurnLemmas.{assignable-sound, puts-ahead, values-more}

-- ---- the signals at zero

-- a signal that has a width is present, and one that has none is not
pub present-some : (present : Bool) (width found : ℕ) → where_present present width ≡ Some found → present ≡ true
present-some true width found is = refl
present-some false width found is = absurd (none-some found is)

pub absent-none : (present : Bool) (width : ℕ) → where_present present width ≡ None → present ≡ false
absent-none true width is = absurd (none-some width (sym is))
absent-none false width is = refl

zero_word : (present : Bool) (count : ℕ) → zero_bits count ≡ if present then zero_bits count else bits_of count 0
zero_word true count = refl
zero_word false count = sym (bits_of-zero count)

zero_or : (present : Bool) (count default : ℕ) → default < 2 ^ count → (if present then 0 else default) ≡ number_of_bits (if present then zero_bits count else bits_of count default)
unfolding number_of_bits
zero_or true count default below = sym (number_of_bits-zeros [] count)
zero_or false count default below = sym (number_of_bits-bits_of count default below)

zero_number : (present : Bool) (count : ℕ) → 0 ≡ number_of_bits (if present then zero_bits count else bits_of count 0)
unfolding number_of_bits
zero_number true count = sym (number_of_bits-zeros [] count)
zero_number false count = sym (ap number_of_bits (bits_of-zero count) ∙ number_of_bits-zeros [] count)

same_transfer : {content content' last last' user user' : List Bool} {stai stai' endi endi' strb strb' : ℕ}
    → content ≡ content' → last ≡ last' → stai ≡ stai' → endi ≡ endi' → strb ≡ strb' → user ≡ user'
    → ◌≡◌ {A = Transfer} (record { content = content; last = last; stai = stai; endi = endi; strb = strb; user = user })
    (record { content = content'; last = last'; stai = stai'; endi = endi'; strb = strb'; user = user' })
same_transfer c l s e b u = cc

module _ (p : Parameters) where
  pub few : p.lanes - 1 < 2 ^ index_width p.lanes
  few = let enough = (index_width-least p.lanes).enough in let some : 0 < 2 ^ index_width p.lanes = pow_pos (index_width p.lanes) in omega (arith, enough, some)

  pub all_ones : 2 ^ p.lanes - 1 < 2 ^ p.lanes
  all_ones = pow-sub-lt p.lanes (omega arith)

  zero-has : Has p (zero_lines p) (λ signal. zero_bits (bits_of_signal p signal))
  zero-has = record {
    valid = refl;
    held = same_transfer (zero_word (has_content p) (p.lanes * p.element)) (zero_word (has_last p) (p.lanes * p.dims)) (zero_number (has_stai p) (index_width p.lanes))
        (zero_or (has_endi p) (index_width p.lanes) (p.lanes - 1) few) (zero_or (has_strb p) p.lanes (2 ^ p.lanes - 1) all_ones) (zero_word (has_user p) p.user);
  }

  below : (present : Bool) (most limit : ℕ) → most < limit → (if present then 0 else most) < limit
  below true most limit less = omega (arith, less)
  below false most limit less = less

  pub zero-fits : Fits p (zero_lines p).held
  zero-fits = record {
    content = length-replicate (p.lanes * p.element) false;
    last = length-replicate (p.lanes * p.dims) false;
    stai = pow_pos (index_width p.lanes);
    endi = below (has_endi p) (p.lanes - 1) (2 ^ index_width p.lanes) few;
    strb = below (has_strb p) (2 ^ p.lanes - 1) (2 ^ p.lanes) all_ones;
    user = length-replicate p.user false;
  }

-- the signals of a stream with this head, all at zero
abbrev pub zero_of : Head → Lines
zero_of head = zero_lines head.params

zero-one : (heads : List Head) (stream : ℕ) (head : Head) (one : Lines) → slice_get heads stream ≡ Some head → slice_get (map zero_of heads) stream ≡ Some one → zero_of head ≡ one
zero-one heads stream head one h g = let e : Some (zero_of head) ≡ Some one = ap (option_map zero_of) (sym h) ∙ sym (slice_get-map zero_of heads stream) ∙ g in cc

pub zero-fit : (heads : List Head) → LinesFit heads (map zero_of heads)
zero-fit heads = record {
  long = length-map heads zero_of;
  fits = λ stream head one h g. subst (λ (l : Lines). Fits head.params l.held) (zero-one heads stream head one h g) (zero-fits head.params);
}

pub zero-have : (heads : List Head) → LinesHave heads (map zero_of heads) (zeros heads)
zero-have heads stream head one h g =
    subst (λ l. Has head.params l (zeros heads stream)) (zero-one heads stream head one h g)
    (subst (λ (found : Option Head). Has head.params (zero_of head) (zeros_in found)) (sym h) (zero-has head.params))

-- ---- statements of a well-formed bench

number-within : (procs : List (List Stmt)) (number index : ℕ) (stmt : Stmt) → slice_get (get_or procs number []) index ≡ Some stmt → number < length procs
number-within [] number index stmt is = absurd (none-some stmt is)
number-within (left ∷ procs) zero index stmt is = omega arith
number-within (left ∷ procs) (suc number) index stmt is = let less = number-within procs number index stmt is in omega (arith, less)

stmt-at : (bench : Bench) (number index : ℕ) (stmt : Stmt) → IsWellFormed bench → slice_get (get_or bench.procs number []) index ≡ Some stmt → IsStmt bench.heads stmt
stmt-at bench number index stmt well is =
    subst (IsStmt bench.heads) (get_or_from_slice_get (get_or bench.procs number []) index stmt stmt is)
    (well.stmts number [] (number-within bench.procs number index stmt is) index stmt (slice_get_within (get_or bench.procs number []) index stmt is))

pub puts-sound : (bench : Bench) → IsWellFormed bench → ArePutsSound bench.heads bench.procs
puts-sound bench well = record {
  narrow = λ stream head h. subst (λ (head : Head). head.params.lanes ≤ 128) (get_or_from_slice_get bench.heads stream head head h)
      (well.heads.each stream head (slice_get_within bench.heads stream head h)).range.lanes_most;
  within = λ number index stream signal bits is. let put = put-at number index stream signal bits is in slice_get_within bench.heads stream put.head put.stands;
  takes = λ number index stream signal bits head is h.
      let put = put-at number index stream signal bits is in
      subst (λ x. CanTake x signal bits) (same-head put h) (record { driven = put.driven; present = put.present; width = put.width });
}
  where
    put-at : (number index stream : ℕ) (signal : Signal) (bits : List Bool) → slice_get (get_or bench.procs number []) index ≡ Some (stmts.Put stream signal bits) → IsPut bench.heads stream signal bits
    put-at number index stream signal bits is = stmt-at bench number index (stmts.Put stream signal bits) well is

    same-head : {stream : ℕ} {signal : Signal} {bits : List Bool} {head : Head} (put : IsPut bench.heads stream signal bits) → slice_get bench.heads stream ≡ Some head → put.head ≡ head
    same-head put h = let e = sym put.stands ∙ h in cc

-- ---- one process more

lefts-push : (programs : List (List Stmt)) (program : List Stmt) (places : List Process) (place : Process) → length places ≡ length programs →
    lefts (programs ++ program ∷ []) (places ++ place ∷ []) ≡ lefts programs places ++ left_of program place ∷ []
lefts-push [] program [] place same = refl
lefts-push [] program (other ∷ places) place same = cc
lefts-push (other ∷ programs) program [] place same = cc
lefts-push (other ∷ programs) program (first ∷ places) place same = ap (λ l. left_of other first ∷ l) (lefts-push programs program places place (omega (arith, same)))

places-push : (programs : List (List Stmt)) (program : List Stmt) (places : List Process) (place : Process) → ArePlaces programs places → place.place ≤ length program →
    ArePlaces (programs ++ program ∷ []) (places ++ place ∷ [])
places-push programs program places place are within = record {
  count = length-append places (place ∷ []) ∙ ap (λ n. n + 1) are.count ∙ sym (length-append programs (program ∷ []));
  within = λ number less. by_place number less (same_or_other number (length places));
}
  where
    by_place : (number : ℕ) → number < length (places ++ place ∷ []) → (number ≡ length places) ⊎ (number ≡ length places → ⊥) →
        (get_or (places ++ place ∷ []) number at_start).place ≤ length (get_or (programs ++ program ∷ []) number [])
    by_place number less (inl last) =
        subst (λ (l : List Stmt). (get_or (places ++ place ∷ []) number at_start).place ≤ length l) (sym (get_or_push programs program [] number (sym are.count ∙ sym last)))
        (subst (λ (x : Process). x.place ≤ length program) (sym (get_or_push places place at_start number (sym last))) within)
    by_place number less (inr other) =
        let long = length-append places (place ∷ []) in
        let before : number < length places = omega (arith, less, other, long) in
        subst (λ (l : List Stmt). (get_or (places ++ place ∷ []) number at_start).place ≤ length l) (sym (get_or_append_left programs (program ∷ []) [] number (let c = are.count in omega (arith, before, c))))
        (subst (λ (x : Process). x.place ≤ length (get_or programs number [])) (sym (get_or_append_left places (place ∷ []) at_start number before)) (are.within number before))

pub begun-none : (heads : List Head) (lines : List Lines) → LinesFit heads lines → AreBegun heads [] lines [] lines
begun-none heads lines fit = record { within = record { count = refl; within = λ number less. absurd (omega (arith, less)) }; left = refl; fit = fit; values = λ now have. have }

module _ (heads : List Head) (procs : List (List Stmt)) (sound : ArePutsSound heads procs) (index : ℕ) (program : List Stmt) (is : program ≡ get_or procs index []) where
  puts : ArePuts heads (assigned_by program)
  puts = subst (λ l. ArePuts heads (assigned_by l)) (sym is) (puts-ahead heads (get_or procs index []) (assignable-sound heads procs index sound))

  pub begin-can : (lines : List Lines) → LinesFit heads lines → CanPutAll (assigned_by program) lines
  begin-can lines fit = (all-fit heads (assigned_by program) lines sound.narrow puts fit).0

  pub begun-more : (done : List (List Stmt)) (before lines after : List Lines) (places : List Process) (place : Process) → AreBegun heads done before places lines →
      left_of program place ≡ waits_at program → place.place ≤ length program → after ≡ put_all (assigned_by program) lines →
      AreBegun heads (done ++ program ∷ []) before (places ++ place ∷ []) after
  begun-more done before lines after places place so left within put = record {
    within = places-push done program places place so.within within;
    left = lefts-push done program places place so.within.count ∙ ap (λ l. lefts done places ++ l ∷ []) left ∙ ap (λ l. l ++ waits_at program ∷ []) so.left ∙ sym (map_push waits_at done program);
    fit = subst (LinesFit heads) (sym put) (all-fit heads (assigned_by program) lines sound.narrow puts so.fit).1;
    values = λ now have. subst (λ v. LinesHave heads after v) (sym (values-are now)) (subst (λ l. LinesHave heads l (current (assigned_by program) (current (flat_map assigned_by done) now))) (sym put)
        (all-have heads (assigned_by program) lines (current (flat_map assigned_by done) now) sound.narrow puts so.fit (so.values now have)));
  }
    where
      values-are : (now : Values) → current (flat_map assigned_by (done ++ program ∷ [])) now ≡ current (assigned_by program) (current (flat_map assigned_by done) now)
      values-are now =
          ap (λ l. current l now) (flat_map-append assigned_by done (program ∷ []) ∙ ap (λ l. flat_map assigned_by done ++ l) (append-nil (assigned_by program)))
          ∙ values-more (flat_map assigned_by done) (assigned_by program) now

-- after all of them have begun the bench is started
pub begun-stand : (bench : Bench) (lines after : List Lines) (places : List Process) → LinesHave bench.heads lines (zeros bench.heads) → AreBegun bench.heads bench.procs lines places after →
    StandsAt bench.heads bench.procs places after (started bench)
begun-stand bench lines after places have begun = record { procs = begun.left; values = begun.values (zeros bench.heads) have }
