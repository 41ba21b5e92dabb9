use Rattle.std.proofs.Common.{sym, ap, ◌∙◌}
use Rattle.std.specs.Str.{bytes_eq}
use Rattle.vhdl_text.proofs.StreamLemmas.{stands-at}
use Rattle.vhdl_text.proofs.streams.is_at.Goals as goal

pub returns-in-Some : goal.returns-in-Some
returns-in-Some c = λ same.
    stands-at c.args.paths.now c.args.path.now c.in-Some.other.now c.args.place c.in-Some.ensures.lookup.0 c.in-Some.ensures.lookup.1
    (sym (c.is_same.ensures ∙ ap (bytes_eq c.args.path.now) c.as_slice.ensures) ∙ same)
