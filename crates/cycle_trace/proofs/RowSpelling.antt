-- A row of a trace text: each spelling is read, and each text that is read is a spelling.
use Rattle.std.proofs.Common.{◌≡◌, ℕ, ◌-◌, ◌*◌, ◌^◌, ◌<◌, ◌≤◌, Bool, true, false, ◌||◌, nat_lt, List, [], ◌∷◌, ◌++◌, Option, Some, None, Result, Ok, Err, append_assoc, refl, sym, ap, ◌∙◌, arith}
use Rattle.std.specs.List.{join_with_byte}
use Rattle.std.proofs.Math.Pow.{pow_mono}
use Rattle.std.specs.Option.{is_some}
use Rattle.std.proofs.lemmas.Bool.Decides.{nat_tests}
use Rattle.std.proofs.lemmas.List.{append-nil}
use Rattle.std.proofs.lemmas.Nat.{pow_pos}
use Rattle.std.proofs.lemmas.Slice.Eq.{bytes_eq-Decides}
use Rattle.tydi_base.specs.Bits.{bits_of}
use Rattle.tydi_base.specs.Hex.{hex_of}
use Rattle.tydi_base.specs.Pieces.{words_of}
use Rattle.tydi_base.specs.Reading.{◌>>=◌}
use Rattle.tydi_base.proofs.PieceLaws.{join-pieces_of}
use Rattle.tydi_base.proofs.ReadingLaws.{bind_ok, ok_is}
use Rattle.tydi_base.proofs.TestLemmas.{kept, two-some}
use Rattle.physical_stream.specs.Params.{Parameters}
use Rattle.physical_stream.specs.Signals.{has_content, has_last, has_stai, has_endi, has_strb, has_user, Shows}
use Rattle.physical_stream.specs.Cycles.{Cycle}
use Rattle.physical_stream.specs.declared.transfer.Transfer.{Transfer}
use Rattle.tydi_base.specs.Width.{index_width}
use Rattle.tydi_base.proofs.WidthLaws.{index_width-enough}
use Rattle.std.specs.Fmt.{decimal}
use Rattle.cycle_trace.specs.RowText.{word_field, index_field, strobe_field, no_more, transfer_of, has_payload, is_dash, payload_of, shown_of, bit_of, cycle_of_words, row_of, row_at}
use Rattle.cycle_trace.specs.Spelling.{signal_words, transfer_words, or_dash, payload_words, bit_text, row_line}
use Rattle.tydi_base.proofs.PlainWords.{is_plain, are_plain, both, are_plain-append, decimal-plain, hex_of-plain, words_of-plain}
use Rattle.cycle_trace.proofs.SignalSpelling.{index_width-most, word_field-spelled, word_field-some, index_field-spelled, index_field-some, strobe_field-spelled, strobe_field-some}

-- ---- a transfer

absent_product : (lanes part : ℕ) → nat_lt 0 part ≡ false → lanes * part ≡ 0
absent_product lanes part absent = let none : part ≡ 0 = grind (arith, nat_tests) in rw none (omega arith)

absent_word : (part : ℕ) → nat_lt 0 part ≡ false → part ≡ 0
absent_word part absent = grind (arith, nat_tests)

flat : (a b c d e f : List (List ℕ)) → ((((a ++ b) ++ c) ++ d) ++ e) ++ f ≡ a ++ (b ++ (c ++ (d ++ (e ++ f))))
flat a b c d e f = simp append_assoc

abbrev content_of : Parameters → Transfer → List (List ℕ)
content_of p t = signal_words (has_content p) 100 (hex_of t.content)

abbrev last_of : Parameters → Transfer → List (List ℕ)
last_of p t = signal_words (has_last p) 108 (hex_of t.last)

abbrev stai_of : Parameters → Transfer → List (List ℕ)
stai_of p t = signal_words (has_stai p) 115 (decimal t.stai)

abbrev endi_of : Parameters → Transfer → List (List ℕ)
endi_of p t = signal_words (has_endi p) 101 (decimal t.endi)

abbrev strb_of : Parameters → Transfer → List (List ℕ)
strb_of p t = signal_words (has_strb p) 98 (hex_of (bits_of p.lanes t.strb))

abbrev user_of : Parameters → Transfer → List (List ℕ)
user_of p t = signal_words (has_user p) 117 (hex_of t.user)

-- the signals one after another
transfer_words-flat : (p : Parameters) (t : Transfer) → transfer_words p t ≡ content_of p t ++ (last_of p t ++ (stai_of p t ++ (endi_of p t ++ (strb_of p t ++ user_of p t))))
transfer_words-flat p t = flat (content_of p t) (last_of p t) (stai_of p t) (endi_of p t) (strb_of p t) (user_of p t)

pub transfer_of-spelled : (p : Parameters) (t : Transfer) → p.lanes ≤ 128 → Shows p t → transfer_of p (transfer_words p t) ≡ Ok t
unfolding transfer_of no_more
transfer_of-spelled p t few s =
    let narrow = index_width-most p.lanes few in
    let user = user_of p t in
    let strb = strb_of p t ++ user in
    let endi = endi_of p t ++ strb in
    let stai = stai_of p t ++ endi in
    let last = last_of p t ++ stai in
    let content_read = word_field-spelled (has_content p) 100 (p.lanes * p.element) t.content (transfer_words p t) last s.fits.content (absent_product p.lanes p.element) (transfer_words-flat p t) in
    let last_read = word_field-spelled (has_last p) 108 (p.lanes * p.dims) t.last last stai s.fits.last (absent_product p.lanes p.dims) refl in
    let stai_read = index_field-spelled (has_stai p) 115 (index_width p.lanes) 0 t.stai stai endi s.fits.stai narrow s.defaults.stai refl in
    let endi_read = index_field-spelled (has_endi p) 101 (index_width p.lanes) (p.lanes - 1) t.endi endi strb s.fits.endi narrow s.defaults.endi refl in
    let strb_read = strobe_field-spelled (has_strb p) p.lanes t.strb strb user s.fits.strb s.defaults.strb refl in
    let user_read = word_field-spelled (has_user p) 117 p.user t.user user [] s.fits.user (absent_word p.user) (sym (append-nil user)) in
    rw (content_read, last_read, stai_read, endi_read, strb_read, user_read) refl

no_more-some : (words : List (List ℕ)) (x : Unit {0}) → no_more words ≡ Ok x → words ≡ []
unfolding no_more
no_more-some [] x e = refl
no_more-some (word ∷ words) x e = absurd cc

chain : (a b c d e f u v w x y z end : List (List ℕ)) → u ≡ a ++ v → v ≡ b ++ w → w ≡ c ++ x → x ≡ d ++ y → y ≡ e ++ z → z ≡ f ++ end → end ≡ [] → u ≡ ((((a ++ b) ++ c) ++ d) ++ e) ++ f
chain a b c d e f u v w x y z end p q r s t l none =
    let last : z ≡ f = l ∙ ap (λ (rest : List (List ℕ)). f ++ rest) none ∙ append-nil f in
    rw (p, q, r, s, t, last) (sym (flat a b c d e f))

abbrev transfer_with : (content last : List Bool) (stai endi strb : ℕ) (user : List Bool) → Transfer
transfer_with content last stai endi strb user = record { content = content; last = last; stai = stai; endi = endi; strb = strb; user = user }

-- the transfer that was read of words
pub record TransferRead (p : Parameters) (words : List (List ℕ)) (t : Transfer) : Type 0 where
  pub spelled : words ≡ transfer_words p t
  pub shows : Shows p t

pub transfer_of-some : (p : Parameters) (words : List (List ℕ)) (t : Transfer) → transfer_of p words ≡ Ok t → TransferRead p words t
unfolding transfer_of
transfer_of-some p words t e =
    let content = bind_ok (word_field (has_content p) 100 (p.lanes * p.element) words) _ t e in
    let last = bind_ok (word_field (has_last p) 108 (p.lanes * p.dims) content.0.1) _ t content.2 in
    let stai = bind_ok (index_field (has_stai p) 115 (index_width p.lanes) 0 last.0.1) _ t last.2 in
    let endi = bind_ok (index_field (has_endi p) 101 (index_width p.lanes) (p.lanes - 1) stai.0.1) _ t stai.2 in
    let strb = bind_ok (strobe_field (has_strb p) p.lanes endi.0.1) _ t endi.2 in
    let with_user = λ (x : List Bool). transfer_with content.0.0 last.0.0 stai.0.0 endi.0.0 strb.0.0 x in
    let user = bind_ok (word_field (has_user p) 117 p.user strb.0.1) (λ x. no_more x.1 >>= λ nothing. Ok (with_user x.0)) t strb.2 in
    let found = with_user user.0.0 in
    let nothing = bind_ok (no_more user.0.1) (λ nothing. Ok found) t user.2 in
    let same = ok_is found t nothing.2 in
    let fits : p.lanes - 1 < 2 ^ index_width p.lanes = omega (arith, index_width-enough p.lanes, pow_pos (index_width p.lanes)) in
    let content_read = word_field-some (has_content p) 100 (p.lanes * p.element) words content.0 content.1 in
    let last_read = word_field-some (has_last p) 108 (p.lanes * p.dims) content.0.1 last.0 last.1 in
    let stai_read = index_field-some (has_stai p) 115 (index_width p.lanes) 0 last.0.1 stai.0 (pow_pos (index_width p.lanes)) stai.1 in
    let endi_read = index_field-some (has_endi p) 101 (index_width p.lanes) (p.lanes - 1) stai.0.1 endi.0 fits endi.1 in
    let strb_read = strobe_field-some (has_strb p) p.lanes endi.0.1 strb.0 strb.1 in
    let user_read = word_field-some (has_user p) 117 p.user strb.0.1 user.0 user.1 in
    rw (← same) (record {
      spelled = chain (content_of p found) (last_of p found) (stai_of p found) (endi_of p found) (strb_of p found) (user_of p found) words content.0.1 last.0.1 stai.0.1 endi.0.1 strb.0.1 user.0.1
          content_read.spelled last_read.spelled stai_read.spelled endi_read.spelled strb_read.spelled user_read.spelled (no_more-some user.0.1 nothing.0 nothing.1);
      shows = record {
        fits = record { content = content_read.wide; last = last_read.wide; stai = stai_read.below; endi = endi_read.below; strb = strb_read.below; user = user_read.wide };
        defaults = record { stai = stai_read.absent; endi = endi_read.absent; strb = strb_read.absent };
      };
    })

-- ---- the words of a transfer, or `-`

is_dash-some : (words : List (List ℕ)) → is_dash words ≡ true → words ≡ (45 ∷ []) ∷ []
is_dash-some [] e = absurd cc
is_dash-some (word ∷ []) e = ap (λ (w : List ℕ). w ∷ []) ((bytes_eq-Decides word (45 ∷ [])).0 e)
is_dash-some (word ∷ next ∷ words) e = absurd cc

-- the words of six signals: some where one is present, else none
six_words : (a b c d e f : Bool) (u v w x y z : List ℕ) →
    let words = signal_words a 100 u ++ signal_words b 108 v ++ signal_words c 115 w ++ signal_words d 101 x ++ signal_words e 98 y ++ signal_words f 117 z in
    ((a || b || c || d || e || f) ≡ true → or_dash words ≡ words) × ((a || b || c || d || e || f) ≡ false → words ≡ [])
six_words true b c d e f u v w x y z = (λ _. refl, λ none. absurd cc)
six_words false true c d e f u v w x y z = (λ _. refl, λ none. absurd cc)
six_words false false true d e f u v w x y z = (λ _. refl, λ none. absurd cc)
six_words false false false true e f u v w x y z = (λ _. refl, λ none. absurd cc)
six_words false false false false true f u v w x y z = (λ _. refl, λ none. absurd cc)
six_words false false false false false true u v w x y z = (λ _. refl, λ none. absurd cc)
six_words false false false false false false u v w x y z = (λ some. absurd cc, λ _. refl)

signals : (p : Parameters) (t : Transfer) → (has_payload p ≡ true → or_dash (transfer_words p t) ≡ transfer_words p t) × (has_payload p ≡ false → transfer_words p t ≡ [])
signals p t = six_words (has_content p) (has_last p) (has_stai p) (has_endi p) (has_strb p) (has_user p) _ _ _ _ _ _

payload_of-by : (p : Parameters) (t : Transfer) (payload : Bool) → has_payload p ≡ payload → payload_of p (or_dash (transfer_words p t)) ≡ Ok (transfer_words p t)
unfolding payload_of
payload_of-by p t true some = rw (some, (signals p t).0 some) refl
payload_of-by p t false none = rw (none, (signals p t).1 none) refl

payload_of-none : (p : Parameters) (words found : List (List ℕ)) (t : Transfer) (payload : Bool) → has_payload p ≡ payload → payload_of p words ≡ Ok found → found ≡ transfer_words p t
    → words ≡ or_dash (transfer_words p t)
unfolding payload_of
payload_of-none p words found t true some e is =
    let same : words ≡ found = ok_is words found (rw some at e) in
    same ∙ is ∙ sym ((signals p t).0 some)
payload_of-none p words found t false none e is =
    let dash = kept (is_dash words) (Ok []) tt found (rw none at e) in
    is_dash-some words dash.0 ∙ ap or_dash (sym ((signals p t).1 none))

-- ---- the transfer that a cycle shows

pub shown_of-spelled : (p : Parameters) (shown : Option Transfer) → p.lanes ≤ 128 → ((t : Transfer) → shown ≡ Some t → Shows p t) → shown_of p (is_some shown) (payload_words p shown) ≡ Ok shown
unfolding shown_of
shown_of-spelled p None few each = refl
shown_of-spelled p (Some t) few each = rw (payload_of-by p t (has_payload p) refl, transfer_of-spelled p t few (each t refl)) refl

-- the shown transfer that was read of words, where there is one
pub record ShownRead (p : Parameters) (valid : Bool) (words : List (List ℕ)) (shown : Option Transfer) : Type 0 where
  pub spelled : words ≡ payload_words p shown
  pub valid_is : is_some shown ≡ valid
  pub shows : (t : Transfer) → shown ≡ Some t → Shows p t

pub shown_of-some : (p : Parameters) (valid : Bool) (words : List (List ℕ)) (shown : Option Transfer) → shown_of p valid words ≡ Ok shown → ShownRead p valid words shown
unfolding shown_of
shown_of-some p false words shown e =
    let dash = kept (is_dash words) (Ok None) tt shown e in
    let same = ok_is None shown dash.1 in
    rw (← same) (record { spelled = is_dash-some words dash.0; valid_is = refl; shows = λ t none. absurd cc })
shown_of-some p true words shown e =
    let payload = bind_ok (payload_of p words) _ shown e in
    let read = bind_ok (transfer_of p payload.0) _ shown payload.2 in
    let same = ok_is (Some read.0) shown read.2 in
    let found = transfer_of-some p payload.0 read.0 read.1 in
    rw (← same) (record {
      spelled = payload_of-none p words payload.0 read.0 (has_payload p) refl payload.1 found.spelled;
      valid_is = refl;
      shows = λ t is. let one : read.0 ≡ t = cc in rw (← one) found.shows;
    })

-- ---- a row

bit_of-spelled : (bit : Bool) → bit_of (bit_text bit) ≡ Ok bit
unfolding bit_of
bit_of-spelled true = refl
bit_of-spelled false = refl

bit_of-some : (word : List ℕ) (bit : Bool) → bit_of word ≡ Ok bit → word ≡ bit_text bit
unfolding bit_of
bit_of-some word bit e = two-some bit_text true tt word bit e

-- the words of a row
abbrev pub row_words : Parameters → Cycle → List (List ℕ)
row_words p cycle = bit_text (is_some cycle.shown) ∷ bit_text cycle.ready ∷ payload_words p cycle.shown

cycle_of_words-spelled : (p : Parameters) (cycle : Cycle) → p.lanes ≤ 128 → ((t : Transfer) → cycle.shown ≡ Some t → Shows p t) → cycle_of_words p (row_words p cycle) ≡ Ok cycle
unfolding cycle_of_words
cycle_of_words-spelled p cycle few each = rw (bit_of-spelled (is_some cycle.shown), bit_of-spelled cycle.ready, shown_of-spelled p cycle.shown few each) refl

-- the cycle that was read of the words of a row
pub record RowRead (p : Parameters) (words : List (List ℕ)) (cycle : Cycle) : Type 0 where
  pub spelled : words ≡ row_words p cycle
  pub shows : (t : Transfer) → cycle.shown ≡ Some t → Shows p t

three : (a b x y : List ℕ) (c z : List (List ℕ)) → a ≡ x → b ≡ y → c ≡ z → a ∷ b ∷ c ≡ x ∷ y ∷ z
three a b x y c z p q r = cc

cycle_of_words-some : (p : Parameters) (words : List (List ℕ)) (cycle : Cycle) → cycle_of_words p words ≡ Ok cycle → RowRead p words cycle
unfolding cycle_of_words
cycle_of_words-some p [] cycle e = absurd cc
cycle_of_words-some p (valid ∷ []) cycle e = absurd cc
cycle_of_words-some p (valid ∷ ready ∷ payload) cycle e =
    let v = bind_ok (bit_of valid) _ cycle e in
    let r = bind_ok (bit_of ready) _ cycle v.2 in
    let shown = bind_ok (shown_of p v.0 payload) _ cycle r.2 in
    let same = ok_is (record { ready = r.0; shown = shown.0 }) cycle shown.2 in
    let read = shown_of-some p v.0 payload shown.0 shown.1 in
    let valid_is : valid ≡ bit_text (is_some shown.0) = bit_of-some valid v.0 v.1 ∙ ap bit_text (sym (read.valid_is)) in
    rw (← same) (record {
      spelled = three valid ready _ _ payload _ valid_is (bit_of-some ready r.0 r.1) read.spelled;
      shows = read.shows;
    })

-- ---- the line of a row

signal_words-plain : (present : Bool) (key : ℕ) (value : List ℕ) → nat_lt 32 key ≡ true → is_plain value ≡ true → are_plain (signal_words present key value) ≡ true
signal_words-plain false key value after e = refl
signal_words-plain true key value after e = both (is_plain (key ∷ 61 ∷ value)) true (both (nat_lt 32 key) (is_plain (61 ∷ value)) after e) refl

narrow_number : (width n : ℕ) → n < 2 ^ width → width ≤ 7 → is_plain (decimal n) ≡ true
narrow_number width n below few = let grows : 2 ^ width ≤ 2 ^ 7 = pow_mono few in decimal-plain n (omega arith)

transfer_words-plain : (p : Parameters) (t : Transfer) → p.lanes ≤ 128 → Shows p t → are_plain (transfer_words p t) ≡ true
transfer_words-plain p t few s =
    let narrow = index_width-most p.lanes few in
    rw (transfer_words-flat p t)
    (are_plain-append (content_of p t) (last_of p t ++ (stai_of p t ++ (endi_of p t ++ (strb_of p t ++ user_of p t)))) (signal_words-plain (has_content p) 100 (hex_of t.content) refl (hex_of-plain t.content))
    (are_plain-append (last_of p t) (stai_of p t ++ (endi_of p t ++ (strb_of p t ++ user_of p t))) (signal_words-plain (has_last p) 108 (hex_of t.last) refl (hex_of-plain t.last))
    (are_plain-append (stai_of p t) (endi_of p t ++ (strb_of p t ++ user_of p t)) (signal_words-plain (has_stai p) 115 (decimal t.stai) refl (narrow_number (index_width p.lanes) t.stai s.fits.stai narrow))
    (are_plain-append (endi_of p t) (strb_of p t ++ user_of p t) (signal_words-plain (has_endi p) 101 (decimal t.endi) refl (narrow_number (index_width p.lanes) t.endi s.fits.endi narrow))
    (are_plain-append (strb_of p t) (user_of p t) (signal_words-plain (has_strb p) 98 (hex_of (bits_of p.lanes t.strb)) refl (hex_of-plain (bits_of p.lanes t.strb)))
    (signal_words-plain (has_user p) 117 (hex_of t.user) refl (hex_of-plain t.user)))))))

or_dash-plain : (words : List (List ℕ)) → are_plain words ≡ true → are_plain (or_dash words) ≡ true
or_dash-plain [] e = refl
or_dash-plain (word ∷ words) e = e

payload_words-plain : (p : Parameters) (shown : Option Transfer) → p.lanes ≤ 128 → ((t : Transfer) → shown ≡ Some t → Shows p t) → are_plain (payload_words p shown) ≡ true
payload_words-plain p None few each = refl
payload_words-plain p (Some t) few each = or_dash-plain (transfer_words p t) (transfer_words-plain p t few (each t refl))

bit_text-plain : (bit : Bool) → is_plain (bit_text bit) ≡ true
bit_text-plain true = refl
bit_text-plain false = refl

pub row_words-plain : (p : Parameters) (cycle : Cycle) → p.lanes ≤ 128 → ((t : Transfer) → cycle.shown ≡ Some t → Shows p t) → are_plain (row_words p cycle) ≡ true
row_words-plain p cycle few each =
    both (is_plain (bit_text (is_some cycle.shown))) _ (bit_text-plain (is_some cycle.shown))
    (both (is_plain (bit_text cycle.ready)) _ (bit_text-plain cycle.ready) (payload_words-plain p cycle.shown few each))

pub row_at-spelled : (number : ℕ) (p : Parameters) (cycle : Cycle) → p.lanes ≤ 128 → ((t : Transfer) → cycle.shown ≡ Some t → Shows p t) → row_at number p (row_line p cycle) ≡ Ok cycle
unfolding row_at row_of
row_at-spelled number p cycle few each =
    rw (words_of-plain (row_words p cycle) (omega arith) (row_words-plain p cycle few each), cycle_of_words-spelled p cycle few each) refl

-- the cycle that was read of a line
pub record LineRead (p : Parameters) (line : List ℕ) (cycle : Cycle) : Type 0 where
  pub spelled : line ≡ row_line p cycle
  pub shows : (t : Transfer) → cycle.shown ≡ Some t → Shows p t

row_read : (number : ℕ) (p : Parameters) (line : List ℕ) (cycle : Cycle) (read : Result Cycle (Unit {0})) → row_of p line ≡ read → row_at number p line ≡ Ok cycle → row_of p line ≡ Ok cycle
unfolding row_at
row_read number p line cycle (Ok found) is e = is ∙ ap Ok (ok_is found cycle (rw is at e))
row_read number p line cycle (Err d) is e = absurd (cc (rw is at e))

pub row_at-some : (number : ℕ) (p : Parameters) (line : List ℕ) (cycle : Cycle) → row_at number p line ≡ Ok cycle → LineRead p line cycle
unfolding row_of
row_at-some number p line cycle e =
    let read = cycle_of_words-some p (words_of line) cycle (row_read number p line cycle (row_of p line) refl e) in
    record {
      spelled = sym (join-pieces_of 32 line) ∙ ap (join_with_byte 32) (read.spelled);
      shows = read.shows;
    }
