use Rattle.std.proofs.Common.{◌≡◌, ◌∙◌, ◌∷◌, ◌≤◌, ℕ, List, Option, IfSome, length, slice_get, refl, sym, ap, subst, arith}
use Rattle.vcd_read.specs.History.{Changes, known}
use Rattle.vcd_read.specs.Profile.{Beginning}
use Rattle.vcd_read.specs.Words.{filled, word_of}
use Rattle.vcd_read.specs.Wires.{IsWide, width_in, width_or_none}
use Rattle.vcd_read.proofs.ParserLemmas.{room-le}
use Rattle.vcd_read.proofs.WordLemmas.{length-filled, length-letters, word-wide}
use Rattle.vcd_read.proofs.parser.Parser.change_vector.Goals as goal

pub vector_word-requires : goal.vector_word-requires
vector_word-requires c =
    let le = room-le (width_in (slice_get c.args.self.now.dump.wires.wires c.args.number)) (length c.args.self.now.vector) c.requires.room in
    subst (λ n. length c.as_slice-letters.result.now ≤ n) (sym c.width-width.ensures) (subst (λ (l : List ℕ). length l ≤ width_or_none (width_in (slice_get
    c.args.self.now.dump.wires.wires c.args.number))) (sym c.as_slice-letters.ensures) le)

pub returns-clause-takes : goal.returns-clause-takes
unfolding known
returns-clause-takes c wanted parts states code width is letters at kept declared =
    let le = room-le (width_in (slice_get c.args.self.now.dump.wires.wires c.args.number)) (length c.args.self.now.vector) c.requires.room in
    let found = ap width_or_none kept in
    let long = ap length letters ∙ length-letters states in
    let few : length states ≤ width = omega arith in
    let word = subst (λ n. c.in-Ok.word ≡ word_of (filled n states)) (c.width-width.ensures ∙ found) (c.in-Ok.ensures states (c.as_slice-letters.ensures
    ∙ letters)) in
    let wide = subst (IsWide width) (sym word) (subst (λ n. IsWide n (word_of (filled width states))) (length-filled width states few)
    (word-wide (filled width states))) in (
      record { awaited = Beginning; parts = Changes code (filled width states) ∷ parts },
      (
        refl,
        record {
          dump_is = c.change.ensures.stands wanted parts code (filled width states) is at (subst (λ (one : Option ℕ). IfSome one (λ n. IsWide n
              c.in-Ok.word)) (sym declared) wide) word;
          awaited_is = refl;
        },
      ),
    )
