-- Each process of a driving bench drives its own stream alone.
use Rattle.std.proofs.Common.{◌≡◌, ◌∙◌, ℕ, zero, suc, ◌+◌, Bool, true, false, ◌==◌, ◌&&◌, ◌||◌, if◌then◌else◌, List, [], ◌∷◌, ◌++◌, length, get_or, slice_get, Some, refl, ap, arith}
use Rattle.std.specs.List.{flat_map}
use Rattle.std.proofs.lemmas.Bool.Decides.{nat_tests}
use Rattle.physical_stream.specs.Params.{Parameters}
use Rattle.physical_stream.specs.declared.transfer.Transfer.{Transfer}
use Rattle.signal_layout.specs.Layout.{is_present}
use Rattle.signal_layout.specs.declared.signal.Signal.{Signal}
use Rattle.signal_layout.specs.declared.signal.Signal.TheVariants as signals
use Rattle.handshake.specs.Run.{gap_of}
use Rattle.vhdl_text.specs.declared.bench.Stmt.{Stmt}
use Rattle.vhdl_text.specs.declared.bench.Stmt.TheVariants as stmts
use Rattle.vhdl_text.specs.WellFormed.{is_signal, puts, drives}
use Rattle.testbench.specs.Driving.{Driven, word_of, payload, put_valid, put_present, put_payload, pausing, showing, process_from, process_of, processes_from}
use Rattle.vhdl_meaning.proofs.ProcessLemmas.{or-second}
use Rattle.vhdl_meaning.proofs.OrderLemmas.{Only}

-- these statements drive this stream alone
abbrev pub Own : ℕ → List Stmt → Type 0
Own own left = (stream : ℕ) (signal : Signal) → drives stream signal left ≡ true → stream ≡ own

own-nil : (own : ℕ) → Own own []
own-nil own stream signal is = let e : false ≡ true = is in cc

own-put : (own : ℕ) (which : Signal) (bits : List Bool) (more : List Stmt) → Own own more → Own own (stmts.Put own which bits ∷ more)
own-put own which bits more rest stream signal is = by_test (own == stream) refl (is_signal which signal) is
  where
    by_test : (test : Bool) → (own == stream) ≡ test → (same : Bool) → (test && same || drives stream signal more) ≡ true → stream ≡ own
    by_test true e same so = grind (arith, nat_tests)
    by_test false e same so = rest stream signal so

own-append : (own : ℕ) (xs ys : List Stmt) → Own own xs → Own own ys → Own own (xs ++ ys)
own-append own [] ys one other stream signal is = other stream signal is
own-append own (x ∷ xs) ys one other stream signal is =
    by_test (puts stream signal x) refl (own-append own xs ys (λ s k so. one s k (or-second (puts s k x) (drives s k xs) so)) other stream signal) is
  where
    by_test : (test : Bool) → puts stream signal x ≡ test → (drives stream signal (xs ++ ys) ≡ true → stream ≡ own) → (test || drives stream signal (xs ++ ys)) ≡ true → stream ≡ own
    by_test true e rest so = one stream signal (ap (λ (b : Bool). b || drives stream signal xs) e)
    by_test false e rest so = rest so

module _ (p : Parameters) (own : ℕ) where
  own-present : (t : Transfer) (signal : Signal) → Own own (put_present p own t signal)
  own-present t signal = by_test (is_present p signal)
    where
      by_test : (test : Bool) → Own own (if test then stmts.Put own signal (word_of p t signal) ∷ [] else [])
      by_test true = own-put own signal (word_of p t signal) [] (own-nil own)
      by_test false = own-nil own

  own-flat : (t : Transfer) (signals' : List Signal) → Own own (flat_map (put_present p own t) signals')
  own-flat t [] = own-nil own
  own-flat t (signal ∷ more) = own-append own (put_present p own t signal) (flat_map (put_present p own t) more) (own-present t signal) (own-flat t more)

  own-pausing : (edges : ℕ) → Own own (pausing own edges)
  own-pausing zero = own-nil own
  own-pausing (suc edges) = own-put own signals.Valid (false ∷ []) (stmts.Pause (suc edges) ∷ []) (λ stream signal is. let e : false ≡ true = is in cc)

  pub own-process : (ts : List Transfer) (gaps : List ℕ) (number : ℕ) (rest : List Transfer) → Own own (process_from p own ts gaps number rest)
  own-process ts gaps number [] = own-put own signals.Valid (false ∷ []) (stmts.Stop ∷ []) (λ stream signal is. let e : false ≡ true = is in cc)
  own-process ts gaps number (t ∷ more) =
      own-append own (pausing own (gap_of p ts gaps number)) (showing p own t ++ process_from p own ts gaps (suc number) more) (own-pausing (gap_of p ts gaps number))
      (own-append own (showing p own t) (process_from p own ts gaps (suc number) more)
      (own-append own (put_payload p own t) (put_valid own true ∷ stmts.Await own ∷ []) (own-flat t payload)
      (own-put own signals.Valid (true ∷ []) (stmts.Await own ∷ []) (λ stream signal is. let e : false ≡ true = is in cc)))
      (own-process ts gaps (suc number) more))

-- ---- all processes

own-number : (first : ℕ) (streams : List Driven) (stream : ℕ) (signal : Signal) (number : ℕ) → drives stream signal (get_or (processes_from first streams) number []) ≡ true → stream ≡ first + number
own-number first [] stream signal number is = let e : false ≡ true = is in cc
own-number first (d ∷ streams) stream signal zero is = let e = own-process d.head.params first d.transfers d.gaps 0 d.transfers stream signal is in omega (arith, e)
own-number first (d ∷ streams) stream signal (suc number) is = let e = own-number (suc first) streams stream signal number is in omega (arith, e)

pub only-own : (streams : List Driven) (stream : ℕ) (signal : Signal) → Only stream signal stream (processes_from 0 streams)
only-own streams stream signal number is = let e = own-number 0 streams stream signal number is in omega (arith, e)

pub get-process : (first : ℕ) (streams : List Driven) (stream : ℕ) (d : Driven) (number : ℕ) → slice_get streams stream ≡ Some d → number ≡ first + stream →
    get_or (processes_from first streams) stream [] ≡ process_of number d
get-process first [] stream d number is same = cc
get-process first (x ∷ streams) zero d number is same =
    let e : x ≡ d = cc in
    let n : first ≡ number = omega (arith, same) in
    ap (process_of first) e ∙ ap (λ m. process_of m d) n
get-process first (x ∷ streams) (suc stream) d number is same = get-process (suc first) streams stream d number is (omega (arith, same))

pub length-processes : (first : ℕ) (streams : List Driven) → length (processes_from first streams) ≡ length streams
length-processes first [] = refl
length-processes first (d ∷ streams) = ap suc (length-processes (suc first) streams)
