-- The words of a transfer, as its process assigns them and as a row has them.
use Rattle.std.proofs.Common.{◌≡◌, ◌∙◌, ℕ, suc, ◌*◌, Bool, true, false, ◌==◌, ◌&&◌, ◌||◌, nat_lt, if◌then◌else◌, List, [], ◌∷◌, ◌++◌, length, get_or, Some, None, refl, sym, ap, append_assoc, arith}
use Rattle.std.specs.List.{flat_map}
use Rattle.std.proofs.lemmas.Bool.{eq-eqb}
use Rattle.std.proofs.lemmas.Bool.Decides.{nat_tests}
use Rattle.tydi_base.specs.Bits.{bits_of, number_of_bits}
use Rattle.tydi_base.specs.Width.{index_width}
use Rattle.tydi_base.proofs.BitsLemmas.{number_of_bits-bits_of}
use Rattle.physical_stream.specs.Params.{Parameters}
use Rattle.physical_stream.specs.Signals.{Shows}
use Rattle.physical_stream.specs.declared.transfer.Transfer.{Transfer}
use Rattle.signal_layout.specs.Layout.{is_present, bits_of_signal, default_of, default_number}
use Rattle.signal_layout.specs.declared.signal.Signal.{Signal}
use Rattle.signal_layout.specs.declared.signal.Signal.TheVariants as signals
use Rattle.vhdl_text.specs.declared.bench.Stmt.{Stmt}
use Rattle.vhdl_text.specs.declared.bench.Stmt.TheVariants as stmts
use Rattle.vhdl_meaning.specs.Meaning.{words_for, last_of, assigned_by, waits_at, word_in, transfer_in, shown_in}
use Rattle.vhdl_text.specs.WellFormed.{is_signal}
use Rattle.testbench.specs.Driving.{word_of, payload, put_valid, put_present, put_payload, showing}

-- ---- the assignments of a process before it shows a transfer

abbrev pub among : Signal → List Signal → Bool
among signal [] = false
among signal (one ∷ more) = is_signal one signal || among signal more

and-false : (a b : Bool) → b ≡ false → (a && b) ≡ false
and-false true b is = is
and-false false b is = refl

both : (a b : Bool) → a ≡ true → b ≡ true → (a && b) ≡ true
both true b one other = other
both false b one other = one

either : (a b : Bool) → (a || b) ≡ false → (a ≡ false) × (b ≡ false)
either true b is = absurd (let e : true ≡ false = is in cc)
either false b is = (refl, is)

-- the values of a stream's signals once a process has run to its next wait
abbrev pub lines_of : ℕ → (Signal → List Bool) → List Stmt → Signal → List Bool
lines_of stream lines left signal = last_of (lines signal) (words_for stream signal (assigned_by left))

no-lanes : (lanes bits : ℕ) → bits ≡ 0 → lanes * bits ≡ 0
no-lanes lanes bits none = ap (λ n. lanes * n) none ∙ omega arith

no-bits : (width : ℕ) (word : List Bool) → length word ≡ width → width ≡ 0 → bits_of width 0 ≡ word
unfolding bits_of
no-bits width [] long none = ap (λ w. bits_of w 0) none
no-bits width (b ∷ word) long none = absurd (let e : suc (length word) ≡ 0 = long ∙ none in cc)

module _ (stream : ℕ) where
  -- an assignment to another signal, and one to this signal
  put-other : (one signal : Signal) (bits : List Bool) (more : List Stmt) → (is_signal one signal) ≡ false →
      words_for stream signal (assigned_by (stmts.Put stream one bits ∷ more)) ≡ words_for stream signal (assigned_by more)
  put-other one signal bits more other =
      ap (λ (b : Bool). if b then bits ∷ words_for stream signal (assigned_by more) else words_for stream signal (assigned_by more)) (and-false (stream == stream) (is_signal one signal) other)

  pub put-same : (one signal : Signal) (bits : List Bool) (more : List Stmt) → (is_signal one signal) ≡ true →
      words_for stream signal (assigned_by (stmts.Put stream one bits ∷ more)) ≡ bits ∷ words_for stream signal (assigned_by more)
  put-same one signal bits more same =
      ap (λ (b : Bool). if b then bits ∷ words_for stream signal (assigned_by more) else words_for stream signal (assigned_by more))
      (both (stream == stream) (is_signal one signal) (eq-eqb stream stream refl) same)

module _ (p : Parameters) (stream : ℕ) (t : Transfer) where
  waits-present : (signal : Signal) (more : List Stmt) → waits_at (put_present p stream t signal ++ more) ≡ waits_at more
  waits-present signal more = by_test (is_present p signal)
    where
      by_test : (test : Bool) → waits_at ((if test then stmts.Put stream signal (word_of p t signal) ∷ [] else []) ++ more) ≡ waits_at more
      by_test true = refl
      by_test false = refl

  waits-flat : (chosen : List Signal) (more : List Stmt) → waits_at (flat_map (put_present p stream t) chosen ++ more) ≡ waits_at more
  waits-flat [] more = refl
  waits-flat (signal ∷ chosen) more =
      ap waits_at (append_assoc (put_present p stream t signal) (flat_map (put_present p stream t) chosen) more)
      ∙ waits-present signal (flat_map (put_present p stream t) chosen ++ more)
      ∙ waits-flat chosen more

  present-other : (one signal : Signal) (more : List Stmt) → (is_signal one signal) ≡ false →
      words_for stream signal (assigned_by (put_present p stream t one ++ more)) ≡ words_for stream signal (assigned_by more)
  present-other one signal more other = by_test (is_present p one)
    where
      by_test : (test : Bool) → words_for stream signal (assigned_by ((if test then stmts.Put stream one (word_of p t one) ∷ [] else []) ++ more)) ≡ words_for stream signal (assigned_by more)
      by_test true = put-other stream one signal (word_of p t one) more other
      by_test false = refl

  flat-other : (signal : Signal) (chosen : List Signal) (more : List Stmt) → among signal chosen ≡ false →
      words_for stream signal (assigned_by (flat_map (put_present p stream t) chosen ++ more)) ≡ words_for stream signal (assigned_by more)
  flat-other signal [] more none = refl
  flat-other signal (one ∷ chosen) more none =
      let n = either (is_signal one signal) (among signal chosen) none in
      ap (λ l. words_for stream signal (assigned_by l)) (append_assoc (put_present p stream t one) (flat_map (put_present p stream t) chosen) more)
      ∙ present-other one signal (flat_map (put_present p stream t) chosen ++ more) n.0
      ∙ flat-other signal chosen more n.1

  -- a signal that is present, among others
  flat-same : (signal : Signal) (front back : List Signal) (more : List Stmt) → among signal front ≡ false → among signal back ≡ false → (is_signal signal signal) ≡ true →
      is_present p signal ≡ true →
      words_for stream signal (assigned_by (flat_map (put_present p stream t) (front ++ signal ∷ back) ++ more)) ≡ word_of p t signal ∷ words_for stream signal (assigned_by more)
  flat-same signal [] back more none1 none2 same present =
      ap (λ l. words_for stream signal (assigned_by l)) (append_assoc (put_present p stream t signal) (flat_map (put_present p stream t) back) more)
      ∙ ap (λ (b : Bool). words_for stream signal (assigned_by ((if b then stmts.Put stream signal (word_of p t signal) ∷ [] else []) ++ (flat_map (put_present p stream t) back ++ more)))) present
      ∙ put-same stream signal signal (word_of p t signal) (flat_map (put_present p stream t) back ++ more) same
      ∙ ap (λ l. word_of p t signal ∷ l) (flat-other signal back more none2)
  flat-same signal (one ∷ front) back more none1 none2 same present =
      let n = either (is_signal one signal) (among signal front) none1 in
      ap (λ l. words_for stream signal (assigned_by l)) (append_assoc (put_present p stream t one) (flat_map (put_present p stream t) (front ++ signal ∷ back)) more)
      ∙ present-other one signal (flat_map (put_present p stream t) (front ++ signal ∷ back) ++ more) n.0
      ∙ flat-same signal front back more n.1 none2 same present

  -- ---- the whole of it

  pub waits-showing : (more : List Stmt) → waits_at (showing p stream t ++ more) ≡ stmts.Await stream ∷ more
  waits-showing more =
      ap waits_at (append_assoc (put_payload p stream t) (put_valid stream true ∷ stmts.Await stream ∷ []) more)
      ∙ waits-flat payload (put_valid stream true ∷ stmts.Await stream ∷ more)

  pub valid-showing : (more : List Stmt) → words_for stream signals.Valid (assigned_by (showing p stream t ++ more)) ≡ (true ∷ []) ∷ []
  valid-showing more =
      ap (λ l. words_for stream signals.Valid (assigned_by l)) (append_assoc (put_payload p stream t) (put_valid stream true ∷ stmts.Await stream ∷ []) more)
      ∙ flat-other signals.Valid payload (put_valid stream true ∷ stmts.Await stream ∷ more) refl
      ∙ put-same stream signals.Valid signals.Valid (true ∷ []) (stmts.Await stream ∷ more) refl

  payload-showing : (signal : Signal) (front back : List Signal) (more : List Stmt) → payload ≡ front ++ signal ∷ back → among signal front ≡ false → among signal back ≡ false →
      (is_signal signal signal) ≡ true → (is_signal signals.Valid signal) ≡ false → is_present p signal ≡ true →
      words_for stream signal (assigned_by (showing p stream t ++ more)) ≡ word_of p t signal ∷ []
  payload-showing signal front back more split none1 none2 same other present =
      ap (λ l. words_for stream signal (assigned_by l)) (append_assoc (put_payload p stream t) (put_valid stream true ∷ stmts.Await stream ∷ []) more)
      ∙ ap (λ l. words_for stream signal (assigned_by (flat_map (put_present p stream t) l ++ put_valid stream true ∷ stmts.Await stream ∷ more))) split
      ∙ flat-same signal front back (put_valid stream true ∷ stmts.Await stream ∷ more) none1 none2 same present
      ∙ ap (λ l. word_of p t signal ∷ l) (put-other stream signals.Valid signal (true ∷ []) (stmts.Await stream ∷ more) other)

  -- ---- and what the row has of it

  -- each word of the payload is that of the transfer, or the default
  record HasWords (lines : Signal → List Bool) : Type 0 where
    content : is_present p signals.Content ≡ true → lines signals.Content ≡ word_of p t signals.Content
    last : is_present p signals.Last ≡ true → lines signals.Last ≡ word_of p t signals.Last
    stai : is_present p signals.Stai ≡ true → lines signals.Stai ≡ word_of p t signals.Stai
    endi : is_present p signals.Endi ≡ true → lines signals.Endi ≡ word_of p t signals.Endi
    strb : is_present p signals.Strb ≡ true → lines signals.Strb ≡ word_of p t signals.Strb
    user : is_present p signals.User ≡ true → lines signals.User ≡ word_of p t signals.User

  has-words : (lines : Signal → List Bool) (more : List Stmt) → HasWords (lines_of stream lines (showing p stream t ++ more))
  has-words lines more = record {
    content = λ is. ap (last_of (lines signals.Content)) (payload-showing signals.Content [] (signals.Last ∷ signals.Stai ∷ signals.Endi ∷ signals.Strb ∷ signals.User ∷ []) more refl refl refl refl refl is);
    last = λ is. ap (last_of (lines signals.Last)) (payload-showing signals.Last (signals.Content ∷ []) (signals.Stai ∷ signals.Endi ∷ signals.Strb ∷ signals.User ∷ []) more refl refl refl refl refl is);
    stai = λ is. ap (last_of (lines signals.Stai)) (payload-showing signals.Stai (signals.Content ∷ signals.Last ∷ []) (signals.Endi ∷ signals.Strb ∷ signals.User ∷ []) more refl refl refl refl refl is);
    endi = λ is. ap (last_of (lines signals.Endi)) (payload-showing signals.Endi (signals.Content ∷ signals.Last ∷ signals.Stai ∷ []) (signals.Strb ∷ signals.User ∷ []) more refl refl refl refl refl is);
    strb = λ is. ap (last_of (lines signals.Strb)) (payload-showing signals.Strb (signals.Content ∷ signals.Last ∷ signals.Stai ∷ signals.Endi ∷ []) (signals.User ∷ []) more refl refl refl refl refl is);
    user = λ is. ap (last_of (lines signals.User)) (payload-showing signals.User (signals.Content ∷ signals.Last ∷ signals.Stai ∷ signals.Endi ∷ signals.Strb ∷ []) [] more refl refl refl refl refl is);
  }

  -- a word, present or at its default
  word-is : (lines : Signal → List Bool) (signal : Signal) → (is_present p signal ≡ true → lines signal ≡ word_of p t signal) →
      (is_present p signal ≡ false → bits_of (bits_of_signal p signal) (default_number p (default_of signal)) ≡ word_of p t signal) → word_in p lines signal ≡ word_of p t signal
  word-is lines signal here away = by_test (is_present p signal) here away
    where
      by_test : (test : Bool) → (test ≡ true → lines signal ≡ word_of p t signal) → (test ≡ false → bits_of (bits_of_signal p signal) (default_number p (default_of signal)) ≡ word_of p t signal) →
          (if test then lines signal else bits_of (bits_of_signal p signal) (default_number p (default_of signal))) ≡ word_of p t signal
      by_test true h a = h refl
      by_test false h a = a refl

  not-positive : (n : ℕ) → nat_lt 0 n ≡ false → n ≡ 0
  not-positive n is = grind (arith, nat_tests)

  same-transfer : (a b : Transfer) → a.content ≡ b.content → a.last ≡ b.last → a.stai ≡ b.stai → a.endi ≡ b.endi → a.strb ≡ b.strb → a.user ≡ b.user → a ≡ b
  same-transfer a b e1 e2 e3 e4 e5 e6 =
      ap (λ x. record { content = x; last = a.last; stai = a.stai; endi = a.endi; strb = a.strb; user = a.user }) e1
      ∙ ap (λ x. record { content = b.content; last = x; stai = a.stai; endi = a.endi; strb = a.strb; user = a.user }) e2
      ∙ ap (λ x. record { content = b.content; last = b.last; stai = x; endi = a.endi; strb = a.strb; user = a.user }) e3
      ∙ ap (λ x. record { content = b.content; last = b.last; stai = b.stai; endi = x; strb = a.strb; user = a.user }) e4
      ∙ ap (λ x. record { content = b.content; last = b.last; stai = b.stai; endi = b.endi; strb = x; user = a.user }) e5
      ∙ ap (λ x. record { content = b.content; last = b.last; stai = b.stai; endi = b.endi; strb = b.strb; user = x }) e6

  transfer-is : (lines : Signal → List Bool) → Shows p t → HasWords lines → transfer_in p lines ≡ t
  transfer-is lines shows has = same-transfer (transfer_in p lines) t
      (word-is lines signals.Content has.content (λ is. no-bits (p.lanes * p.element) t.content shows.fits.content (no-lanes p.lanes p.element (not-positive p.element is))))
      (word-is lines signals.Last has.last (λ is. no-bits (p.lanes * p.dims) t.last shows.fits.last (no-lanes p.lanes p.dims (not-positive p.dims is))))
      (ap number_of_bits (word-is lines signals.Stai has.stai (λ is. ap (bits_of (bits_of_signal p signals.Stai)) (sym (shows.defaults.stai is))))
      ∙ number_of_bits-bits_of (index_width p.lanes) t.stai shows.fits.stai)
      (ap number_of_bits (word-is lines signals.Endi has.endi (λ is. ap (bits_of (bits_of_signal p signals.Endi)) (sym (shows.defaults.endi is))))
      ∙ number_of_bits-bits_of (index_width p.lanes) t.endi shows.fits.endi)
      (ap number_of_bits (word-is lines signals.Strb has.strb (λ is. ap (bits_of (bits_of_signal p signals.Strb)) (sym (shows.defaults.strb is))))
      ∙ number_of_bits-bits_of p.lanes t.strb shows.fits.strb)
      (word-is lines signals.User has.user (λ is. no-bits p.user t.user shows.fits.user (not-positive p.user is)))

  -- once a process has run to the wait behind a transfer, its stream shows that transfer
  pub shown-showing : (lines : Signal → List Bool) (more : List Stmt) → Shows p t → shown_in p (lines_of stream lines (showing p stream t ++ more)) ≡ Some t
  shown-showing lines more shows =
      ap (λ words. if get_or (last_of (lines signals.Valid) words) 0 false then Some (transfer_in p (lines_of stream lines (showing p stream t ++ more))) else None) (valid-showing more)
      ∙ ap Some (transfer-is (lines_of stream lines (showing p stream t ++ more)) shows (has-words lines more))
