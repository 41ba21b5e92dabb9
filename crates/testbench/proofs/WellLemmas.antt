-- A driving bench is well formed.
use Rattle.std.proofs.Common.{◌≡◌, ◌∙◌, ℕ, zero, suc, ◌<◌, ◌≤◌, Bool, true, false, if◌then◌else◌, List, [], ◌∷◌, ◌++◌, length, map, get_or, slice_get, Some, refl, sym, ap, subst, arith}
use Rattle.std.specs.List.{All, flat_map}
use Rattle.std.proofs.lemmas.List.{length-map}
use Rattle.std.proofs.lemmas.List.Elements.{All-cons, All-tail}
use Rattle.std.proofs.lemmas.List.{get_or_default}
use Rattle.std.proofs.lemmas.Option.{get_or_from_slice_get}
use Rattle.tydi_base.proofs.PlaceLemmas.{slice_get-there}
use Rattle.tydi_base.proofs.BitsLemmas.{length-bits_of}
use Rattle.physical_stream.specs.Signals.{Shows}
use Rattle.physical_stream.specs.declared.head.Head.{Head}
use Rattle.physical_stream.specs.declared.transfer.Transfer.{Transfer}
use Rattle.signal_layout.specs.Layout.{is_present, bits_of_signal}
use Rattle.signal_layout.specs.declared.signal.Signal.{Signal}
use Rattle.signal_layout.specs.declared.signal.Signal.TheVariants as signals
use Rattle.handshake.specs.Run.{gap_of}
use Rattle.vhdl_text.specs.declared.bench.Stmt.{Stmt}
use Rattle.vhdl_text.specs.declared.bench.Stmt.TheVariants as stmts
use Rattle.vhdl_text.specs.WellFormed.{IsPut, IsStmt, EndsInStop, AreHeads, IsWellFormed, is_signal}
use Rattle.testbench.specs.Driving.{Driven, word_of, put_valid, put_present, put_payload, pausing, showing, process_from, processes_from, driving, AreShown}
use Rattle.testbench.specs.Laws.{AreShort, DrivingIsWellFormed}
use Rattle.testbench.proofs.OwnLemmas.{only-own, get-process, length-processes}

-- statements that are none of them a stop, and well formed
abbrev Are : List Head → List Stmt → Type 0
Are heads [] = Unit {0}
Are heads (stmts.Stop ∷ more) = ⊥
Are heads (stmts.Put stream signal bits ∷ more) = IsPut heads stream signal bits × Are heads more
Are heads (stmts.Pause edges ∷ more) = ((1 ≤ edges) × (edges ≤ 1000000)) × Are heads more
Are heads (stmts.Await stream ∷ more) = (stream < length heads) × Are heads more

record Ends (heads : List Head) (left : List Stmt) : Type 0 where
  all : All (IsStmt heads) left
  ends : EndsInStop left

behind : (heads : List Head) (xs ys : List Stmt) → Are heads xs → Ends heads ys → Ends heads (xs ++ ys)
behind heads [] ys are e = e
behind heads (stmts.Stop ∷ xs) ys are e = absurd are
behind heads (stmts.Put stream signal bits ∷ xs) ys are e =
    let rest = behind heads xs ys are.1 e in record { all = All-cons (IsStmt heads) (stmts.Put stream signal bits) (xs ++ ys) are.0 rest.all; ends = rest.ends }
behind heads (stmts.Pause edges ∷ xs) ys are e =
    let rest = behind heads xs ys are.1 e in record { all = All-cons (IsStmt heads) (stmts.Pause edges) (xs ++ ys) are.0 rest.all; ends = rest.ends }
behind heads (stmts.Await stream ∷ xs) ys are e =
    let rest = behind heads xs ys are.1 e in record { all = All-cons (IsStmt heads) (stmts.Await stream) (xs ++ ys) are.0 rest.all; ends = rest.ends }

are-append : (heads : List Head) (xs ys : List Stmt) → Are heads xs → Are heads ys → Are heads (xs ++ ys)
are-append heads [] ys a b = b
are-append heads (stmts.Stop ∷ xs) ys a b = absurd a
are-append heads (stmts.Put stream signal bits ∷ xs) ys a b = (a.0, are-append heads xs ys a.1 b)
are-append heads (stmts.Pause edges ∷ xs) ys a b = (a.0, are-append heads xs ys a.1 b)
are-append heads (stmts.Await stream ∷ xs) ys a b = (a.0, are-append heads xs ys a.1 b)

module _ (heads : List Head) (stream : ℕ) (head : Head) (found : slice_get heads stream ≡ Some head) (within : stream < length heads) where
  is-put : (signal : Signal) (bits : List Bool) → is_signal signal signals.Ready ≡ false → is_present head.params signal ≡ true → length bits ≡ bits_of_signal head.params signal → IsPut heads stream signal bits
  is-put signal bits driven present width = record { head = head; stands = found; driven = driven; present = present; width = width }

  valid-put : (bit : Bool) → IsPut heads stream signals.Valid (bit ∷ [])
  valid-put bit = is-put signals.Valid (bit ∷ []) refl refl refl

  present-put : (t : Transfer) (signal : Signal) → is_signal signal signals.Ready ≡ false → length (word_of head.params t signal) ≡ bits_of_signal head.params signal → Are heads (put_present head.params stream t signal)
  present-put t signal driven long = by_test (is_present head.params signal) refl
    where
      by_test : (test : Bool) → is_present head.params signal ≡ test → Are heads (if test then stmts.Put stream signal (word_of head.params t signal) ∷ [] else [])
      by_test true is = (is-put signal (word_of head.params t signal) driven is long, tt)
      by_test false is = tt

  are-payload : (t : Transfer) → Shows head.params t → Are heads (put_payload head.params stream t)
  are-payload t shows =
      are-append heads (put_present head.params stream t signals.Content) (flat_map (put_present head.params stream t) (signals.Last ∷ signals.Stai ∷ signals.Endi ∷ signals.Strb ∷ signals.User ∷ []))
      (present-put t signals.Content refl shows.fits.content)
      (are-append heads (put_present head.params stream t signals.Last) (flat_map (put_present head.params stream t) (signals.Stai ∷ signals.Endi ∷ signals.Strb ∷ signals.User ∷ []))
      (present-put t signals.Last refl shows.fits.last)
      (are-append heads (put_present head.params stream t signals.Stai) (flat_map (put_present head.params stream t) (signals.Endi ∷ signals.Strb ∷ signals.User ∷ []))
      (present-put t signals.Stai refl (length-bits_of (bits_of_signal head.params signals.Stai) t.stai))
      (are-append heads (put_present head.params stream t signals.Endi) (flat_map (put_present head.params stream t) (signals.Strb ∷ signals.User ∷ []))
      (present-put t signals.Endi refl (length-bits_of (bits_of_signal head.params signals.Endi) t.endi))
      (are-append heads (put_present head.params stream t signals.Strb) (flat_map (put_present head.params stream t) (signals.User ∷ []))
      (present-put t signals.Strb refl (length-bits_of (bits_of_signal head.params signals.Strb) t.strb))
      (are-append heads (put_present head.params stream t signals.User) [] (present-put t signals.User refl shows.fits.user) tt)))))

  are-pausing : (gap : ℕ) → gap ≤ 1000000 → Are heads (pausing stream gap)
  are-pausing zero few = tt
  are-pausing (suc edges) few = (valid-put false, ((omega arith, few), tt))

  process-ends : (ts : List Transfer) (gaps : List ℕ) (number : ℕ) (rest : List Transfer) → ((n : ℕ) → gap_of head.params ts gaps n ≤ 1000000) → All (Shows head.params) rest →
      Ends heads (process_from head.params stream ts gaps number rest)
  process-ends ts gaps number [] few shows = record {
    all = All-cons (IsStmt heads) (put_valid stream false) (stmts.Stop ∷ []) (valid-put false) (All-cons (IsStmt heads) stmts.Stop [] tt (λ k d less. absurd (omega (arith, less))));
    ends = refl;
  }
  process-ends ts gaps number (t ∷ more) few shows =
      behind heads (pausing stream (gap_of head.params ts gaps number)) (showing head.params stream t ++ process_from head.params stream ts gaps (suc number) more)
      (are-pausing (gap_of head.params ts gaps number) (few number))
      (behind heads (showing head.params stream t) (process_from head.params stream ts gaps (suc number) more)
      (are-append heads (put_payload head.params stream t) (put_valid stream true ∷ stmts.Await stream ∷ []) (are-payload t (shows 0 t (omega arith))) (valid-put true, (within, tt)))
      (process-ends ts gaps (suc number) more few (All-tail (Shows head.params) t more shows)))

get-head : (streams : List Driven) (stream : ℕ) (d : Driven) → slice_get streams stream ≡ Some d → slice_get (map (λ (x : Driven). x.head) streams) stream ≡ Some d.head
get-head [] stream d is = cc
get-head (x ∷ streams) zero d is = let e : x ≡ d = cc in ap (λ (y : Driven). Some y.head) e
get-head (x ∷ streams) (suc stream) d is = get-head streams stream d is

module _ (streams : List Driven) (short : AreShort streams) (shown : All AreShown streams) where
  ends-at : (k : ℕ) → k < length streams → Ends (map (λ (x : Driven). x.head) streams) (get_or (processes_from 0 streams) k [])
  ends-at k less =
      let there = slice_get-there streams k less in
      let d : Driven = there.0 in
      let shows : All (Shows d.head.params) d.transfers = subst AreShown (get_or_from_slice_get streams k d d there.1) (shown k d less) in
      let long : length (map (λ (x : Driven). x.head) streams) ≡ length streams = length-map streams (λ (x : Driven). x.head) in
      subst (Ends (map (λ (x : Driven). x.head) streams)) (sym (get-process 0 streams k d k there.1 (omega arith)))
      (process-ends (map (λ (x : Driven). x.head) streams) k d.head (get-head streams k d there.1) (omega (arith, less, long)) d.transfers d.gaps 0 d.transfers (short k d there.1) shows)

  pub driving-well : AreHeads (map (λ (x : Driven). x.head) streams) → IsWellFormed (driving streams)
  driving-well heads =
      let long : length (map (λ (x : Driven). x.head) streams) ≡ length streams = length-map streams (λ (x : Driven). x.head) in
      let procs : length (processes_from 0 streams) ≡ length streams = length-processes 0 streams in
      record {
        heads = heads;
        count = omega (arith, long, procs);
        stmts = λ k d less. subst (All (IsStmt (map (λ (x : Driven). x.head) streams))) (get_or_default (processes_from 0 streams) k [] d less) (ends-at k (omega (arith, less, procs))).all;
        ends = λ k d less. subst EndsInStop (get_or_default (processes_from 0 streams) k [] d less) (ends-at k (omega (arith, less, procs))).ends;
        once = λ stream signal a b one other. only-own streams stream signal a one ∙ sym (only-own streams stream signal b other);
      }

pub driving_is_well_formed : DrivingIsWellFormed
driving_is_well_formed streams heads shown short = driving-well streams short shown heads
