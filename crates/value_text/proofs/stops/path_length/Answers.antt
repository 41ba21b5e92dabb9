use Rattle.std.proofs.Common.{◌≡◌, ◌+◌, ◌∷◌, length, length-append, sym, ap, ◌∙◌, arith}
use Rattle.value_text.specs.Stops.{path_length}
use Rattle.value_text.proofs.StopLemmas.{path-name}
use Rattle.value_text.proofs.stops.path_length.Goals as goal

pub names-preserved : goal.names-preserved
names-preserved c =
    let name = c.in-Some.name.now in
    let more = c.in-Some.more.now in
    let goes : path_length c.names.rest.now ≡ length name + 1 + path_length more =
    path-name name more c.names.rest.now (sym c.is_name.ensures ∙ c.if-not-is_name.false) c.in-Some.ensures.some in
    record {
      all = omega (arith, c.names.invariant.all, goes);
      counted = omega (arith, c.names.invariant.counted, ap length c.in-Some.ensures.whole, length-append name (46 ∷ more));
    }
