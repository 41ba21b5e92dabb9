-- Statements: what is spelled is read, and what is read is spelled so.
use Rattle.std.proofs.Common.{◌≡◌, ℕ, zero, suc, ◌≤◌, Bool, true, false, ◌&&◌, ◌==◌, nat_le, nat_eq, cond, List, [], ◌∷◌, ◌++◌, length, drop, slice_get, Option, Some, None, option_and_then, Result, Ok, Err, All, refl, sym, ap, ◌∙◌, arith}
use Rattle.std.specs.Prelude.{codes}
use Rattle.std.specs.Fmt.{decimal}
use Rattle.std.specs.List.{join_with_byte, list_any, starts_with}
use Rattle.std.specs.Str.{bytes_eq}
use Rattle.std.proofs.lemmas.Bool.{eqb-true}
use Rattle.std.proofs.lemmas.Bool.Decides.{nat_tests, Decides-eqb}
use Rattle.std.proofs.lemmas.Option.{none-some, same_Some, slice_get_within}
use Rattle.std.proofs.lemmas.Slice.Eq.{bytes_eq-Decides, starts_is}
use Rattle.tydi_base.specs.Pieces.{pieces_of}
use Rattle.tydi_base.proofs.PieceLaws.{join-pieces_of, pieces_of-append, pieces_of-lacks}
use Rattle.tydi_base.proofs.PlainWords.{and_parts, both}
use Rattle.tydi_base.proofs.ReadingLaws.{ok_is}
use Rattle.tydi_reading.specs.declared.fault.Fault.{Fault}
use Rattle.tydi_reading.specs.declared.fault.Fault.TheVariants as faults
use Rattle.physical_stream.specs.StreamLine.{IsHead, header_number}
use Rattle.physical_stream.specs.declared.head.Head.{Head}
use Rattle.physical_stream.proofs.HeadSpelling.{header_number-some, header_number-spelled}
use Rattle.signal_layout.specs.Layout.{bits_of_signal, is_present, where_present, width_of}
use Rattle.signal_layout.specs.declared.signal.Signal.{Signal}
use Rattle.signal_layout.specs.declared.signal.Signal.TheVariants as signals
use Rattle.vhdl_text.specs.declared.bench.Stmt.{Stmt}
use Rattle.vhdl_text.specs.declared.bench.Stmt.TheVariants as stmts
use Rattle.vhdl_text.specs.declared.refusal.Refusal.{Refusal}
use Rattle.vhdl_text.specs.declared.refusal.Refusal.TheVariants.{UnknownSignal, SecondDriver}
use Rattle.vhdl_text.specs.declared.place.Place.{Place}
use Rattle.vhdl_text.specs.Lines.{Between, await_in, await_of, between, constant_at, edges_before, edges_in, edges_of, is_constant, no_port, paths_of, place_of, put_at, put_in, put_of, put_width, put_word, stmt_in, stmt_of}
use Rattle.vhdl_text.specs.Text.{await_line, pause_line, plain_name, put_line, quote_of, stmt_text}
use Rattle.vhdl_text.specs.WellFormed.{AreApart, IsPut, IsStmt, drives, is_signal, puts, signal_number}
use Rattle.vhdl_text.proofs.CutLemmas.{between-some, decimal-lacks_space, lacks-by}
use Rattle.vhdl_text.proofs.LineLemmas.{assigned, await_line-flat, between-await, between-put, constant_at-some, constant_at-spelled, place_of-some, place_of-spelled, put_line-flat, quote_of-is}

-- ---- widths

put_width-put : (heads : List Head) (stream : ℕ) (signal : Signal) (bits : List Bool) → (put : IsPut heads stream signal bits) → put_width heads (record { stream = stream; signal = signal }) ≡ Some (bits_of_signal put.head.params signal)
unfolding put_width
put_width-put heads stream signal bits put = rw (put.driven, put.stands, put.present) refl

where_present-some : (present : Bool) (bits width : ℕ) → where_present present bits ≡ Some width → (present ≡ true) × (bits ≡ width)
where_present-some true bits width e = (refl, same_Some bits width e)
where_present-some false bits width e = absurd (none-some width e)

put_width-some : (heads : List Head) (place : Place) (width : ℕ) (bits : List Bool) → put_width heads place ≡ Some width → length bits ≡ width → IsPut heads place.stream place.signal bits
unfolding put_width
put_width-some heads place width bits e wide = by_ready (is_signal place.signal signals.Ready) refl e
  where
    by_head : is_signal place.signal signals.Ready ≡ false → (found : Option Head) → slice_get heads place.stream ≡ found → option_and_then (λ head. width_of head.params place.signal) found ≡ Some width
        → IsPut heads place.stream place.signal bits
    by_head driven None is e = absurd (none-some width e)
    by_head driven (Some head) is e =
        let parts = where_present-some (is_present head.params place.signal) (bits_of_signal head.params place.signal) width e in
        record { head = head; stands = is; driven = driven; present = parts.0; width = wide ∙ sym parts.1 }

    by_ready : (ready : Bool) → is_signal place.signal signals.Ready ≡ ready → cond ready None (option_and_then (λ head. width_of head.params place.signal) (slice_get heads place.stream)) ≡ Some width
        → IsPut heads place.stream place.signal bits
    by_ready true is e = absurd (none-some width e)
    by_ready false is e = by_head is (slice_get heads place.stream) refl e

-- ---- an assignment and a wait that are spelled

pub stmt_of-put : (heads : List Head) (earlier : List (List Stmt)) (stream : ℕ) (signal : Signal) (bits : List Bool) → All IsHead heads → AreApart heads → (put : IsPut heads stream signal bits) → IsHead put.head
    → list_any (drives stream signal) earlier ≡ false → stmt_of heads earlier (put_line put.head signal bits) ≡ Ok (stmts.Put stream signal bits)
unfolding stmt_of put_of
stmt_of-put heads earlier stream signal bits each apart put h new =
    let place : Place = record { stream = stream; signal = signal } in
    ap (stmt_in heads earlier) (between-put put.head signal bits h)
    ∙ rw (place_of-spelled heads stream put.head signal apart put.stands, put_width-put heads stream signal bits put, constant_at-spelled (quote_of signal) bits (bits_of_signal put.head.params signal) (quote_of-is signal) put.width, new) refl

pub stmt_of-await : (heads : List Head) (earlier : List (List Stmt)) (stream : ℕ) (head : Head) → AreApart heads → slice_get heads stream ≡ Some head → IsHead head → stmt_of heads earlier (await_line head) ≡ Ok (stmts.Await stream)
unfolding stmt_of await_of
stmt_of-await heads earlier stream head apart there h =
    ap (stmt_in heads earlier) (between-await head h) ∙ rw (place_of-spelled heads stream head signals.Ready apart there) refl

-- ---- a statement that is read

-- a process goes on after the statement
abbrev pub goes_past : Stmt → Bool
goes_past (stmts.Put stream signal bits) = true
goes_past (stmts.Pause edges) = true
goes_past (stmts.Await stream) = true
goes_past stmts.Stop = false

-- the reading of a line with a name, after these processes
pub record StmtRead (heads : List Head) (earlier : List (List Stmt)) (line : List ℕ) (stmt : Stmt) : Type 0 where
  pub spelled : line ++ 10 ∷ [] ≡ stmt_text heads stmt
  pub is : IsStmt heads stmt
  pub past : goes_past stmt ≡ true
  pub new : (stream : ℕ) (signal : Signal) → puts stream signal stmt ≡ true → list_any (drives stream signal) earlier ≡ false

pub is_signal-same : (one other : Signal) → is_signal one other ≡ true → one ≡ other
is_signal-same one other e = same one other (eqb-true (signal_number one) (signal_number other) e)
  where
    -- the signal of a number
    numbered : ℕ → Signal
    numbered zero = signals.Valid
    numbered (suc zero) = signals.Ready
    numbered (suc (suc zero)) = signals.Content
    numbered (suc (suc (suc zero))) = signals.Last
    numbered (suc (suc (suc (suc zero)))) = signals.Stai
    numbered (suc (suc (suc (suc (suc zero))))) = signals.Endi
    numbered (suc (suc (suc (suc (suc (suc zero)))))) = signals.Strb
    numbered (suc (suc (suc (suc (suc (suc (suc n))))))) = signals.User

    back : (s : Signal) → numbered (signal_number s) ≡ s
    back signals.Valid = refl
    back signals.Ready = refl
    back signals.Content = refl
    back signals.Last = refl
    back signals.Stai = refl
    back signals.Endi = refl
    back signals.Strb = refl
    back signals.User = refl

    same : (one other : Signal) → signal_number one ≡ signal_number other → one ≡ other
    same one other e = sym (back one) ∙ ap numbered e ∙ back other

no_port-none : (back : List ℕ) (stmt : Stmt) → no_port back ≡ Ok stmt → ⊥
no_port-none back stmt e = by_test (is_constant back) e
  where
    by_test : (test : Bool) → cond {A = Result Stmt (Fault Refusal)} test (Err (faults.Unfit UnknownSignal)) (Err faults.Refused) ≡ Ok stmt → ⊥
    by_test true e = absurd cc
    by_test false e = absurd cc

-- the reading of an assignment to this place
record PutRead (heads : List Head) (earlier : List (List Stmt)) (back : List ℕ) (place : Place) (stmt : Stmt) : Type 0 where
  bits : List Bool
  text : back ≡ assigned (quote_of place.signal) bits
  put : IsPut heads place.stream place.signal bits
  new : list_any (drives place.stream place.signal) earlier ≡ false
  made : stmts.Put place.stream place.signal bits ≡ stmt

put_word-some : (earlier : List (List Stmt)) (place : Place) (found : Option (List Bool)) (stmt : Stmt) → put_word earlier place found ≡ Ok stmt
    → (bits : List Bool) × (found ≡ Some bits) × (list_any (drives place.stream place.signal) earlier ≡ false) × (stmts.Put place.stream place.signal bits ≡ stmt)
put_word-some earlier place None stmt e = absurd cc
put_word-some earlier place (Some bits) stmt e = by_test (list_any (drives place.stream place.signal) earlier) refl e
  where
    by_test : (test : Bool) → list_any (drives place.stream place.signal) earlier ≡ test → cond {A = Result Stmt (Fault Refusal)} test (Err (faults.Unfit SecondDriver)) (Ok (stmts.Put place.stream place.signal bits)) ≡ Ok stmt
        → (word : List Bool) × (◌≡◌ {A = Option (List Bool)} (Some bits) (Some word)) × (list_any (drives place.stream place.signal) earlier ≡ false) × (stmts.Put place.stream place.signal word ≡ stmt)
    by_test true is e = absurd cc
    by_test false is e = (bits, refl, is, ok_is (stmts.Put place.stream place.signal bits) stmt e)

put_at-some : (heads : List Head) (earlier : List (List Stmt)) (back : List ℕ) (place : Place) (found : Option ℕ) (stmt : Stmt) → put_width heads place ≡ found → put_at earlier back place found ≡ Ok stmt → PutRead heads earlier back place stmt
put_at-some heads earlier back place None stmt is e = absurd (no_port-none back stmt e)
put_at-some heads earlier back place (Some width) stmt is e =
    let word = put_word-some earlier place (constant_at (quote_of place.signal) width back) stmt e in
    let read = constant_at-some (quote_of place.signal) width back word.0 word.1 in
    record { bits = word.0; text = read.0; put = put_width-some heads place width word.0 is read.1; new = word.2; made = word.3 }

put_in-some : (heads : List Head) (earlier : List (List Stmt)) (back : List ℕ) (found : Option Place) (stmt : Stmt) → put_in heads earlier back found ≡ Ok stmt → (place : Place) × (found ≡ Some place) × PutRead heads earlier back place stmt
put_in-some heads earlier back None stmt e = absurd (no_port-none back stmt e)
put_in-some heads earlier back (Some place) stmt e = (place, refl, put_at-some heads earlier back place (put_width heads place) stmt refl e)

put-there : (heads : List Head) (stream : ℕ) (signal : Signal) (bits : List Bool) (head : Head) → slice_get heads stream ≡ Some head → stmt_text heads (stmts.Put stream signal bits) ≡ put_line head signal bits ++ 10 ∷ []
put-there heads stream signal bits head there = rw there refl

-- an assignment puts its own signal alone
put-new : (stream : ℕ) (signal : Signal) (bits : List Bool) (earlier : List (List Stmt)) → list_any (drives stream signal) earlier ≡ false
    → (s : ℕ) (g : Signal) → puts s g (stmts.Put stream signal bits) ≡ true → list_any (drives s g) earlier ≡ false
put-new stream signal bits earlier new s g e =
    let parts = and_parts (stream == s) (is_signal signal g) e in
    rw (← eqb-true stream s parts.0, ← is_signal-same signal g parts.1) new

put_of-some : (heads : List Head) (earlier : List (List Stmt)) (name back line : List ℕ) (stmt : Stmt) → line ≡ codes "    " ++ 92 ∷ (name ++ 92 ∷ back) → put_of heads earlier name back ≡ Ok stmt → StmtRead heads earlier line stmt
unfolding put_of
put_of-some heads earlier name back line stmt is e =
    let found = put_in-some heads earlier back (place_of (paths_of heads) name) stmt e in
    let place = found.0 in
    let read = found.2 in
    let named = place_of-some heads name place found.1 in
    let text : line ≡ put_line named.head place.signal read.bits =
    is ∙ ap (λ (n : List ℕ). codes "    " ++ 92 ∷ (n ++ 92 ∷ back)) named.spelled ∙ ap (λ (b : List ℕ). codes "    " ++ 92 ∷ (plain_name named.head place.signal ++ 92 ∷ b)) read.text ∙ sym (put_line-flat named.head place.signal read.bits) in
    rw (← read.made) (record {
      spelled = ap (λ (l : List ℕ). l ++ 10 ∷ []) text ∙ sym (put-there heads place.stream place.signal read.bits named.head named.there);
      is = read.put;
      past = refl;
      new = put-new place.stream place.signal read.bits earlier read.new;
    })

await_in-some : (found : Option Place) (stmt : Stmt) → await_in found ≡ Ok stmt → (place : Place) × (found ≡ Some place) × (place.signal ≡ signals.Ready) × (stmts.Await place.stream ≡ stmt)
await_in-some None stmt e = absurd cc
await_in-some (Some place) stmt e = by_test (is_signal place.signal signals.Ready) refl e
  where
    by_test : (test : Bool) → is_signal place.signal signals.Ready ≡ test → cond {A = Result Stmt (Fault Refusal)} test (Ok (stmts.Await place.stream)) (Err (faults.Unfit UnknownSignal)) ≡ Ok stmt
        → (at : Place) × (◌≡◌ {A = Option Place} (Some place) (Some at)) × (at.signal ≡ signals.Ready) × (stmts.Await at.stream ≡ stmt)
    by_test false is e = absurd cc
    by_test true is e = (place, refl, is_signal-same place.signal signals.Ready is, ok_is (stmts.Await place.stream) stmt e)

await-there : (heads : List Head) (stream : ℕ) (head : Head) → slice_get heads stream ≡ Some head → stmt_text heads (stmts.Await stream) ≡ await_line head ++ 10 ∷ []
await-there heads stream head there = rw there refl

await_of-some : (heads : List Head) (earlier : List (List Stmt)) (name back line : List ℕ) (stmt : Stmt) → line ≡ codes "    wait until rising_edge(clk) and " ++ 92 ∷ (name ++ 92 ∷ back) → await_of (paths_of heads) name back ≡ Ok stmt
    → StmtRead heads earlier line stmt
unfolding await_of
await_of-some heads earlier name back line stmt is e = by_test (bytes_eq back (codes " = '1';")) refl e
  where
    by_test : (test : Bool) → bytes_eq back (codes " = '1';") ≡ test → cond {A = Result Stmt (Fault Refusal)} test (await_in (place_of (paths_of heads) name)) (Err faults.Refused) ≡ Ok stmt → StmtRead heads earlier line stmt
    by_test false wrong e = absurd cc
    by_test true ends e =
        let found = await_in-some (place_of (paths_of heads) name) stmt e in
        let place = found.0 in
        let named = place_of-some heads name place found.1 in
        let back_is = (bytes_eq-Decides back (codes " = '1';")).0 ends in
        let text : line ≡ await_line named.head =
        is ∙ ap (λ (b : List ℕ). codes "    wait until rising_edge(clk) and " ++ 92 ∷ (name ++ 92 ∷ b)) back_is
        ∙ ap (λ (n : List ℕ). codes "    wait until rising_edge(clk) and " ++ 92 ∷ (n ++ 92 ∷ codes " = '1';")) (named.spelled ∙ ap (λ (s : Signal). plain_name named.head s) found.2) ∙ sym (await_line-flat named.head) in
        rw (← found.3) (record {
          spelled = ap (λ (l : List ℕ). l ++ 10 ∷ []) text ∙ sym (await-there heads place.stream named.head named.there);
          is = slice_get_within heads place.stream named.head named.there;
          past = refl;
          new = λ stream signal no_put. absurd cc;
        })

pub stmt_of-some : (heads : List Head) (earlier : List (List Stmt)) (line : List ℕ) (stmt : Stmt) → stmt_of heads earlier line ≡ Ok stmt → StmtRead heads earlier line stmt
unfolding stmt_of
stmt_of-some heads earlier line stmt e = by_parts (between 92 line) refl e
  where
    fronted : (front inside back wanted : List ℕ) → line ≡ front ++ 92 ∷ (inside ++ 92 ∷ back) → bytes_eq front wanted ≡ true → line ≡ wanted ++ 92 ∷ (inside ++ 92 ∷ back)
    fronted front inside back wanted is same = is ∙ ap (λ (f : List ℕ). f ++ 92 ∷ (inside ++ 92 ∷ back)) ((bytes_eq-Decides front wanted).0 same)

    by_tests : (parts : Between) → line ≡ parts.front ++ 92 ∷ (parts.inside ++ 92 ∷ parts.back) → (one other : Bool) → bytes_eq parts.front (codes "    ") ≡ one → bytes_eq parts.front (codes "    wait until rising_edge(clk) and ") ≡ other
        → cond {A = Result Stmt (Fault Refusal)} one (put_of heads earlier parts.inside parts.back) (cond other (await_of (paths_of heads) parts.inside parts.back) (Err faults.Refused)) ≡ Ok stmt → StmtRead heads earlier line stmt
    by_tests parts is true other one_is other_is e = put_of-some heads earlier parts.inside parts.back line stmt (fronted parts.front parts.inside parts.back (codes "    ") is one_is) e
    by_tests parts is false true one_is other_is e = await_of-some heads earlier parts.inside parts.back line stmt (fronted parts.front parts.inside parts.back (codes "    wait until rising_edge(clk) and ") is other_is) e
    by_tests parts is false false one_is other_is e = absurd cc

    by_parts : (found : Option Between) → between 92 line ≡ found → stmt_in heads earlier found ≡ Ok stmt → StmtRead heads earlier line stmt
    by_parts None is e = absurd cc
    by_parts (Some parts) is e = by_tests parts (between-some 92 line parts is) (bytes_eq parts.front (codes "    ")) (bytes_eq parts.front (codes "    wait until rising_edge(clk) and ")) refl refl e

-- ---- pauses

pub edges_of-spelled : (edges : ℕ) → 1 ≤ edges → edges ≤ 1000000 → edges_of (pause_line edges) ≡ Some edges
unfolding edges_of
edges_of-spelled edges some few =
    let digits = decimal edges in
    let words = pieces_of-append 32 digits (codes "loop") (decimal-lacks_space edges (omega arith)) ∙ ap (λ (l : List (List ℕ)). digits ∷ l) (pieces_of-lacks 32 (codes "loop") (lacks-by 32 (codes "loop") refl)) in
    let least : nat_le 1 edges ≡ true = grind (arith, nat_tests) in
    let most : nat_le edges 1000000 ≡ true = grind (arith, nat_tests) in
    ap edges_before words ∙ rw (header_number-spelled edges (omega arith), least, most) refl

-- a pause that was read
pub record PauseRead (line : List ℕ) (edges : ℕ) : Type 0 where
  pub spelled : line ≡ pause_line edges
  pub some : 1 ≤ edges
  pub few : edges ≤ 1000000

edges_in-some : (digits : List ℕ) (found : Result ℕ (Unit {0})) (edges : ℕ) → header_number digits ≡ found → edges_in found ≡ Some edges → (digits ≡ decimal edges) × (1 ≤ edges) × (edges ≤ 1000000)
edges_in-some digits (Err e) edges is read = absurd (none-some edges read)
edges_in-some digits (Ok n) edges is read = by_test (nat_le 1 n && nat_le n 1000000) refl read
  where
    by_test : (test : Bool) → (nat_le 1 n && nat_le n 1000000) ≡ test → cond test (Some n) None ≡ Some edges → (digits ≡ decimal edges) × (1 ≤ edges) × (edges ≤ 1000000)
    by_test false out read = absurd (none-some edges read)
    by_test true within read =
        let same = same_Some n edges read in
        let parts = and_parts (nat_le 1 n) (nat_le n 1000000) within in
        rw (← same) (header_number-some digits n is, grind (arith, nat_tests), grind (arith, nat_tests))

edges_before-some : (words : List (List ℕ)) (edges : ℕ) → edges_before words ≡ Some edges → (words ≡ decimal edges ∷ codes "loop" ∷ []) × (1 ≤ edges) × (edges ≤ 1000000)
edges_before-some [] edges e = absurd (none-some edges e)
edges_before-some (a ∷ []) edges e = absurd (none-some edges e)
edges_before-some (a ∷ b ∷ c ∷ more) edges e = absurd (none-some edges e)
edges_before-some (digits ∷ word ∷ []) edges e = by_test (bytes_eq word (codes "loop")) refl e
  where
    by_test : (test : Bool) → bytes_eq word (codes "loop") ≡ test → cond test (edges_in (header_number digits)) None ≡ Some edges → (digits ∷ word ∷ [] ≡ decimal edges ∷ codes "loop" ∷ []) × (1 ≤ edges) × (edges ≤ 1000000)
    by_test false is e = absurd (none-some edges e)
    by_test true is e =
        let read = edges_in-some digits (header_number digits) edges refl e in
        let word_is = (bytes_eq-Decides word (codes "loop")).0 is in
        (ap (λ (d : List ℕ). d ∷ word ∷ []) read.0 ∙ ap (λ (w : List ℕ). decimal edges ∷ w ∷ []) word_is, read.1, read.2)

pub edges_of-some : (line : List ℕ) (edges : ℕ) → edges_of line ≡ Some edges → PauseRead line edges
unfolding edges_of
edges_of-some line edges e = by_test (starts_with nat_eq line (codes "    for i in 1 to ")) refl e
  where
    by_test : (test : Bool) → starts_with nat_eq line (codes "    for i in 1 to ") ≡ test → cond test (edges_before (pieces_of 32 (drop 18 line))) None ≡ Some edges → PauseRead line edges
    by_test false is e = absurd (none-some edges e)
    by_test true is e =
        let read = edges_before-some (pieces_of 32 (drop 18 line)) edges e in
        let rest : drop 18 line ≡ decimal edges ++ 32 ∷ codes "loop" = sym (join-pieces_of 32 (drop 18 line)) ∙ ap (join_with_byte 32) read.0 in
        record {
          spelled = (starts_is Decides-eqb line (codes "    for i in 1 to ") (starts_with nat_eq line (codes "    for i in 1 to ")) refl).0 is ∙ ap (λ (t : List ℕ). codes "    for i in 1 to " ++ t) rest;
          some = read.1;
          few = read.2;
        }

-- a signal of a stream is its own
pub is_signal-own : (stream : ℕ) (signal : Signal) → (stream == stream && is_signal signal signal) ≡ true
is_signal-own stream signal = let one : (stream == stream) ≡ true = grind (arith, nat_tests) in let other : (signal_number signal == signal_number signal) ≡ true = grind (arith, nat_tests) in both (stream == stream) (is_signal signal signal) one other
