use Rattle.std.proofs.Common.{◌&&◌, nat_eq, cond, Some, None, Option, ℕ, List, ap, sym, ◌∙◌}
use Rattle.std.specs.BTreeMap.{get}
use Rattle.std.specs.Option.{option_or}
use Rattle.std.specs.Str.{bytes_eq}
use Rattle.til_resolve.specs.Ordered.{by_key, is_same_key}
use Rattle.til_resolve.proofs.ScopeLemmas.{first_at-more}
use Rattle.til_resolve.proofs.firsts.first_of_each.Goals as goal

pub declared-preserved : goal.declared-preserved
declared-preserved c = λ key.
    let one = c.index-declared-number.result in
    c.in_ok-keep_first.ensures key
    ∙ ap (λ (name : List ℕ). option_or (get by_key c.declared.firsts key) (cond (is_same_key (one.home, name) key) (Some c.declared.number) None)) c.new.ensures
    ∙ ap (λ (o : Option ℕ). option_or o (cond (nat_eq one.home key.0 && bytes_eq one.name.now.name key.1) (Some c.declared.number) None)) (c.declared.invariant key)
    ∙ sym (first_at-more c.args.declared.now c.declared.number one key.0 key.1 c.declared-test.true c.index-declared-number.is)
