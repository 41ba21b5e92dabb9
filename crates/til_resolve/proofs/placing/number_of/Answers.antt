use Rattle.std.proofs.Common.{ℕ, List, Some, None, option_copied, cond, subst, sym, ap, ◌∙◌}
use Rattle.std.specs.Borrow.{Bor}
use Rattle.std.specs.BTreeMap.{get}
use Rattle.std.specs.Option.{option_or}
use Rattle.til_parser.specs.declared.tree.AstName.{AstName}
use Rattle.til_resolve.specs.Ordered.{by_path}
use Rattle.til_resolve.specs.Paths.{is_same_path, texts_of}
use Rattle.til_resolve.specs.Scope.{FindsSpaces, home_of}
use Rattle.til_resolve.proofs.ScopeLemmas.{FindsSpaces-more, space-found, space-put}
use Rattle.til_resolve.proofs.placing.number_of.Goals as goal

pub returns-in-Some-clause-keys : goal.returns-in-Some-clause-keys
returns-in-Some-clause-keys c =
    let keys = c.args.spaces.now.keys in
    (space-found keys c.args.path c.in-Some.home.now
    (ap (home_of keys) (sym c.new.ensures) ∙ sym (c.requires c.new.result) ∙ sym c.get.ensures.value ∙ ap option_copied c.in-Some.is)).0

pub returns-clause-keys : goal.returns-clause-keys
returns-clause-keys c =
    let keys = c.args.spaces.now.keys in
    c.in_ok-push.ensures.ok ∙ (space-put keys c.args.path
    (ap (home_of keys) (sym c.new.ensures) ∙ sym (c.requires c.new.result) ∙ sym c.get.ensures.value ∙ ap option_copied c.in_default.is)).0

pub returns-clause-finds : goal.returns-clause-finds
returns-clause-finds c =
    let keys = c.args.spaces.now.keys in
    let old = get by_path c.args.spaces.now.numbers in
    let new = get by_path c.keep_first.new.table in
    subst (λ (ks : List (Bor (List AstName))). FindsSpaces new ks) (sym c.in_ok-push.ensures.ok)
    (FindsSpaces-more keys c.args.path old new c.requires
    (λ path. c.in_ok-keep_first.ensures path
    ∙ ap (λ (key : List (List ℕ)). option_or (old path) (cond (is_same_path key path) (Some c.len-home.result) None)) c.new-2.ensures
    ∙ ap (λ (n : ℕ). option_or (old path) (cond (is_same_path (texts_of c.args.path.now) path) (Some n) None)) c.len-home.ensures))

pub returns-clause-index : goal.returns-clause-index
returns-clause-index c =
    let keys = c.args.spaces.now.keys in
    c.len-home.ensures ∙ (space-put keys c.args.path
    (ap (home_of keys) (sym c.new.ensures) ∙ sym (c.requires c.new.result) ∙ sym c.get.ensures.value ∙ ap option_copied c.in_default.is)).1
