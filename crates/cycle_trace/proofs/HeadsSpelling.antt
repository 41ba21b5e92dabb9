-- The stream lines of a trace text: each spelling is read, and each text that is read is a spelling.
use Rattle.std.proofs.Common.{◌≡◌, ℕ, suc, ◌+◌, ◌<◌, ◌≤◌, true, not, nat_lt, ◌&&◌, List, [], ◌∷◌, ◌++◌, length, map, Result, Ok, Err, append_assoc, All, refl, sym, ap, ◌∙◌, inl, inr, arith}
use Rattle.std.specs.List.{list_any, flat_map, join_with_byte}
use Rattle.std.specs.Str.{bytes_eq}
use Rattle.std.proofs.lemmas.List.Elements.{All-nil, All-cons, All-head, All-tail}
use Rattle.tydi_base.specs.Path.{path_text}
use Rattle.tydi_base.specs.Pieces.{lines_of}
use Rattle.tydi_base.specs.Reading.{◌>>=◌}
use Rattle.tydi_base.proofs.ReadingLaws.{bind_ok, chosen, ok_is}
use Rattle.tydi_base.proofs.TestLemmas.{kept}
use Rattle.std.proofs.lemmas.Bool.Decides.{nat_tests}
use Rattle.physical_stream.specs.declared.head.Head.{Head}
use Rattle.tydi_base.proofs.SetLemmas.{are_new, are_new-more}
use Rattle.cycle_trace.specs.declared.fault.TraceFault.{TraceFault}
use Rattle.cycle_trace.specs.declared.fault.TraceFault.TheVariants.{BadHeader}
use Rattle.cycle_trace.specs.declared.version.Version.{Version}
use Rattle.cycle_trace.specs.Version.{may_have, may_have_level}
use Rattle.cycle_trace.specs.HeaderText.{is_head_line, in_header, head_after, heads_from}
use Rattle.physical_stream.specs.StreamLine.{IsHead, head_of, head_text, head_words, words_text}
use Rattle.physical_stream.proofs.HeadSpelling.{head_of-some, head_of-spelled, head_words-plain}
use Rattle.cycle_trace.specs.Trace.{all_distinct}
use Rattle.tydi_base.proofs.PlainWords.{and_parts, both, lines_of-plain, some_line}
use Rattle.cycle_trace.proofs.HeaderLemmas.{heads_from-head}

-- the texts of the paths
abbrev pub paths_of : List Head → List (List ℕ)
paths_of heads = map (λ head. path_text head.path) heads

-- ---- a head after others

pub head_after-spelled : (version : Version) (paths : List (List ℕ)) (head : Head) → IsHead head → may_have_level version head.params.level ≡ true → length paths < 65536 → not (list_any (bytes_eq (path_text head.path)) paths) ≡ true
    → head_after version paths (words_text (head_words head)) ≡ Ok head
unfolding head_after
head_after-spelled version paths head h fits room new =
    let few : nat_lt (length paths) 65536 ≡ true = grind (arith, nat_tests) in
    rw (head_of-spelled head h, fits, few, new) refl

-- the head that was read of a stream line after others
pub record HeadAfter (version : Version) (paths : List (List ℕ)) (line : List ℕ) (head : Head) : Type 0 where
  pub spelled : line ≡ words_text (head_words head)
  pub is_head : IsHead head
  pub fits : may_have_level version head.params.level ≡ true
  pub room : length paths < 65536
  pub new : not (list_any (bytes_eq (path_text head.path)) paths) ≡ true

pub head_after-some : (version : Version) (paths : List (List ℕ)) (line : List ℕ) (head : Head) → head_after version paths line ≡ Ok head → HeadAfter version paths line head
unfolding head_after
head_after-some version paths line head e =
    let found = bind_ok (head_of line) _ head e in
    let read = head_of-some line found.0 found.1 in
    let other = not (list_any (bytes_eq (path_text found.0.path)) paths) in
    let may = may_have_level version found.0.params.level in
    let test = kept (may && nat_lt (length paths) 65536 && other) (Ok found.0) tt head found.2 in
    let parts = and_parts (may && nat_lt (length paths) 65536) other test.0 in
    let both_first = and_parts may (nat_lt (length paths) 65536) parts.0 in
    let few = both_first.1 in
    let same = ok_is found.0 head test.1 in
    rw (← same) (record { spelled = read.0; is_head = read.1; fits = both_first.0; room = grind (arith, nat_tests); new = parts.1 })

pub in_header-some : {A : Type 0} (number : ℕ) (read : Result A (Unit {0})) (x : A) → in_header number read ≡ Ok x → read ≡ Ok x
in_header-some number (Ok y) x e = ap Ok (ok_is y x e)
in_header-some number (Err d) x e = absurd cc

-- ---- all stream lines

-- heads that stand after stream lines of these paths
pub record MayFollow (version : Version) (paths : List (List ℕ)) (heads : List Head) : Type 0 where
  pub each : All IsHead heads
  pub fits : may_have version heads ≡ true
  pub room : length paths + length heads ≤ 65536
  pub distinct : all_distinct (paths_of heads) ≡ true
  pub new : are_new paths (paths_of heads) ≡ true

MayFollow-rest : (version : Version) (paths : List (List ℕ)) (head : Head) (heads : List Head) → MayFollow version paths (head ∷ heads) → MayFollow version (path_text head.path ∷ paths) heads
MayFollow-rest version paths head heads h =
    let path = path_text head.path in
    let apart = and_parts (not (list_any (bytes_eq path) (paths_of heads))) (all_distinct (paths_of heads)) h.distinct in
    let new = and_parts (not (list_any (bytes_eq path) paths)) (are_new paths (paths_of heads)) h.new in
    let room = h.room in
    record {
      each = All-tail IsHead head heads h.each;
      fits = (and_parts (may_have_level version head.params.level) (may_have version heads) h.fits).1;
      room = omega arith;
      distinct = apart.1;
      new = are_new-more paths path (paths_of heads) ∙ both (not (list_any (bytes_eq path) (paths_of heads))) (are_new paths (paths_of heads)) apart.0 new.1;
    }

MayFollow-more : (version : Version) (paths : List (List ℕ)) (head : Head) (heads : List Head) → IsHead head → may_have_level version head.params.level ≡ true → not (list_any (bytes_eq (path_text head.path)) paths) ≡ true
    → MayFollow version (path_text head.path ∷ paths) heads → MayFollow version paths (head ∷ heads)
MayFollow-more version paths head heads first fits other h =
    let path = path_text head.path in
    let parts = and_parts (not (list_any (bytes_eq path) (paths_of heads))) (are_new paths (paths_of heads)) (sym (are_new-more paths path (paths_of heads)) ∙ h.new) in
    let room = h.room in
    record {
      each = All-cons IsHead head heads first h.each;
      fits = both (may_have_level version head.params.level) (may_have version heads) fits h.fits;
      room = omega arith;
      distinct = both (not (list_any (bytes_eq path) (paths_of heads))) (all_distinct (paths_of heads)) parts.0 h.distinct;
      new = both (not (list_any (bytes_eq path) paths)) (are_new paths (paths_of heads)) other parts.1;
    }

line_then : (a b c : List ℕ) → ((a ++ 10 ∷ []) ++ b) ++ c ≡ a ++ 10 ∷ (b ++ c)
line_then a b c = append_assoc (a ++ 10 ∷ []) b c ∙ append_assoc a (10 ∷ []) (b ++ c)

-- the rest begins with no stream line
abbrev pub EndsHeads : List ℕ → Type 0
EndsHeads rest = (version : Version) (number : ℕ) (paths : List (List ℕ)) → heads_from version number paths (lines_of rest) ≡ Ok ([], lines_of rest)

pub heads_from-spelled : (version : Version) (number : ℕ) (paths : List (List ℕ)) (heads : List Head) (rest : List ℕ) → MayFollow version paths heads → EndsHeads rest
    → heads_from version number paths (lines_of (flat_map head_text heads ++ rest)) ≡ Ok (heads, lines_of rest)
heads_from-spelled version number paths [] rest may end = end version number paths
heads_from-spelled version number paths (head ∷ heads) rest may end =
    let line = words_text (head_words head) in
    let after = flat_map head_text heads ++ rest in
    let first = All-head IsHead head heads may.each in
    let new = and_parts (not (list_any (bytes_eq (path_text head.path)) paths)) (are_new paths (paths_of heads)) may.new in
    let room = may.room in
    let fits = and_parts (may_have_level version head.params.level) (may_have version heads) may.fits in
    let later = heads_from-spelled version (suc number) (path_text head.path ∷ paths) heads rest (MayFollow-rest version paths head heads may) end in
    ap (λ (text : List ℕ). heads_from version number paths (lines_of text)) (line_then line (flat_map head_text heads) rest)
    ∙ ap (heads_from version number paths) (lines_of-plain (head_words head) after (head_words-plain head first))
    ∙ heads_from-head version number paths line (lines_of after) (some_line after) refl
    ∙ rw (head_after-spelled version paths head first fits.0 (omega arith) new.0, later) refl

-- the heads that were read of lines
pub record HeadsRead (version : Version) (paths lines : List (List ℕ)) (x : List Head × List (List ℕ)) : Type 0 where
  pub spelled : join_with_byte 10 lines ≡ flat_map head_text x.0 ++ join_with_byte 10 x.1
  pub some : 0 < length x.1
  pub may : MayFollow version paths x.0

no_heads : (version : Version) (paths lines : List (List ℕ)) (x : List Head × List (List ℕ)) → length paths ≤ 65536 → 0 < length lines → ◌≡◌ {A = Result (List Head × List (List ℕ)) TraceFault} (Ok ([], lines)) (Ok x) → HeadsRead version paths lines x
no_heads version paths lines x few some e =
    let same = ok_is {A = List Head × List (List ℕ)} {F = TraceFault} ([], lines) x e in
    rw (← same) (record { spelled = refl; some = some; may = record { each = All-nil IsHead; fits = refl; room = omega arith; distinct = refl; new = refl } })

joined : (a b c d e : List ℕ) → a ≡ b → c ≡ d ++ e → a ++ 10 ∷ c ≡ ((b ++ 10 ∷ []) ++ d) ++ e
joined a b c d e p q = rw (p, q) (sym (line_then b d e))

pub heads_from-some : (version : Version) (number : ℕ) (paths lines : List (List ℕ)) (x : List Head × List (List ℕ)) → length paths ≤ 65536 → 0 < length lines → heads_from version number paths lines ≡ Ok x
    → HeadsRead version paths lines x
heads_from-some version number paths [] x few some e = absurd (omega arith)
heads_from-some version number paths (last ∷ []) x few some e = elim (chosen (is_head_line last) (Err (BadHeader number)) (Ok ([], last ∷ [])) (Ok x) e) [
  | inl h ↦ absurd (cc (h.1))
  | inr h ↦ no_heads version paths (last ∷ []) x few some h.1
]
heads_from-some version number paths (line ∷ next ∷ lines) x few some e = elim (chosen (is_head_line line)
    (in_header number (head_after version paths line) >>= λ head. heads_from version (suc number) (path_text head.path ∷ paths) (next ∷ lines) >>= λ rest. Ok (head ∷ rest.0, rest.1)) (Ok ([], line ∷ next ∷ lines)) (Ok x) e) [
      | inl h ↦ (
          let head = bind_ok (in_header number (head_after version paths line)) _ x h.1 in
          let first = head_after-some version paths line head.0 (in_header-some number (head_after version paths line) head.0 head.1) in
          let rest = bind_ok (heads_from version (suc number) (path_text head.0.path ∷ paths) (next ∷ lines)) _ x head.2 in
          let room = first.room in
          let later = heads_from-some version (suc number) (path_text head.0.path ∷ paths) (next ∷ lines) rest.0 (omega arith) (omega arith) rest.1 in
          let same = ok_is {A = List Head × List (List ℕ)} {F = TraceFault} (head.0 ∷ rest.0.0, rest.0.1) x rest.2 in
          rw (← same) (record {
            spelled = joined line (words_text (head_words head.0)) (join_with_byte 10 (next ∷ lines)) (flat_map head_text rest.0.0) (join_with_byte 10 rest.0.1) first.spelled later.spelled;
            some = later.some;
            may = MayFollow-more version paths head.0 rest.0.0 first.is_head first.fits first.new later.may;
          }))
      | inr h ↦ no_heads version paths (line ∷ next ∷ lines) x few some h.1
    ]
