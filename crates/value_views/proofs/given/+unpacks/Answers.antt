use Rattle.std.proofs.Common.{◌∙◌, ap, arith, length, refl}
use Rattle.std.proofs.lemmas.List.{length_push}
use Rattle.logical_types.specs.Tree.{plain}
use Rattle.nest_shape.specs.Tree as nests
use Rattle.value_views.specs.Words.{unpacked}
use Rattle.value_views.proofs.GivingLemmas.{all-taken, list-nest, list-size, list-unpacked, made-done, made-next, next-taken, part-size, words-at, words-list}
use Rattle.value_views.proofs.given.+unpacks.Goals as goal

pub unpack_nests-returns : goal.unpack_nests-returns
unpack_nests-returns t c =
    let gives = c.into_iter-nest-iterator.ensures.into_iter_gives in
    let all = all-taken c.args.words c.into_iter-nest-iterator.result c.words.nest-iterator c.next.new.self c.words.yielded (gives.0 ∙ c.into_vec-nest-items.ensures)
    (gives.1 ∙ c.into_vec-nest-items.result.ok.0 ∙ ap length c.into_vec-nest-items.ensures) c.words.yielded_by c.next.result c.next.ensures.steps c.in-None.is in
    made-done (unpacked (plain c.args.element.now)) nests.plain c.args.words (length c.words.yielded) c.words.some _ all c.words.invariant.done

pub unpack_nests-words-preserved : goal.unpack_nests-words-preserved
unpack_nests-words-preserved t c =
    let gives = c.into_iter-nest-iterator.ensures.into_iter_gives in
    let there = next-taken c.args.words c.into_iter-nest-iterator.result c.words.nest-iterator c.next.new.self c.words.yielded (gives.0 ∙ c.into_vec-nest-items.ensures)
    (gives.1 ∙ c.into_vec-nest-items.result.ok.0 ∙ ap length c.into_vec-nest-items.ensures) c.words.yielded_by c.next.result c.next.ensures.steps c.in-Some.nest c.in-Some.is in
    rw (length_push c.words.yielded c.in-Some.nest)
    record {
      words = (words-at (plain c.args.element.now) c.args.words (length c.words.yielded) c.in-Some.nest there.0 there.1 c.words.invariant.words).1;
      done = made-next (unpacked (plain c.args.element.now)) nests.plain c.args.words (length c.words.yielded) c.in-Some.nest c.words.some c.push.new.self c.in_ok-value.value _
          there.0 there.1 c.in_ok-push.ensures.ok c.in_ok-value.ensures c.words.invariant.done;
    }

pub unpack_nest-returns-in_ok-some-in-List : goal.unpack_nest-returns-in_ok-some-in-List
unpack_nest-returns-in_ok-some-in-List t c =
    list-unpacked (plain c.args.element.now) (nests.plain c.args.nest) c.in-List.parts c.in_ok-some-in-List.some (list-nest c.args.nest c.in-List.parts c.in-List.parts c.in-List.is refl) c.in_ok-some-in-List.ensures

pub unpack_nest-unpack_nests-requires : goal.unpack_nest-unpack_nests-requires
unpack_nest-unpack_nests-requires t c =
    let is = list-nest c.args.nest c.in-List.parts c.in-List.parts c.in-List.is refl in
    let size = list-size (nests.plain c.args.nest) c.in-List.parts is in (
      omega (arith, size, c.decreases),
      record {
        plain = c.requires.plain;
        few = c.requires.few;
        words = words-list (plain c.args.element.now) (nests.plain c.args.nest) c.in-List.parts c.in-List.parts is refl c.requires.words;
      },
    )

pub unpack_nests-unpack_nest-requires : goal.unpack_nests-unpack_nest-requires
unpack_nests-unpack_nest-requires t c =
    let gives = c.into_iter-nest-iterator.ensures.into_iter_gives in
    let there = next-taken c.args.words c.into_iter-nest-iterator.result c.words.nest-iterator c.next.new.self c.words.yielded (gives.0 ∙ c.into_vec-nest-items.ensures)
    (gives.1 ∙ c.into_vec-nest-items.result.ok.0 ∙ ap length c.into_vec-nest-items.ensures) c.words.yielded_by c.next.result c.next.ensures.steps c.in-Some.nest c.in-Some.is in
    let size = part-size c.args.words (length c.words.yielded) c.in-Some.nest there.0 there.1 in (
      omega (arith, size, c.decreases),
      record {
        plain = c.requires.plain;
        few = c.requires.few;
        words = (words-at (plain c.args.element.now) c.args.words (length c.words.yielded) c.in-Some.nest there.0 there.1 c.words.invariant.words).0;
      },
    )
