-- The canonical text of a value is read as that value.
use Rattle.std.proofs.Common.{◌≡◌, ◌∙◌, ℕ, zero, suc, ◌≤◌, List, [], ◌∷◌, length, None, Ok, refl, sym, ap, subst, arith}
use Rattle.std.specs.List.{filter}
use Rattle.std.proofs.lemmas.List.{length-map}
use Rattle.logical_value.specs.Tree.{plain, plain_port}
use Rattle.logical_value.specs.declared.value.PortValue.{PortValue}
use Rattle.logical_value.specs.declared.value.Value.{Value}
use Rattle.logical_value.proofs.PlainLemmas.{plain_is_one_to_one}
use Rattle.type_split.specs.Streams.{PlainSplit}
use Rattle.value_text.specs.Canonical.{canonical, users_text}
use Rattle.value_text.specs.Laws.{ValuesAreReadAsPrinted}
use Rattle.value_text.specs.Leaves.{begins_leaf, behind, leaves_of, most_leaves, surplus}
use Rattle.value_text.specs.Port.{no_more, port, value_in}
use Rattle.value_text.specs.Grammar.{Text}
use Rattle.value_text.specs.Tokens.{PlainToken, tokens_of}
use Rattle.value_text.proofs.printed.PrintedMembers.{count}
use Rattle.value_text.proofs.printed.PrintedPaths.{users-none}
use Rattle.value_text.proofs.printed.PrintedRoots.{AreRoots, all_roots}

-- no place stands behind so many, where there are no more
behind-none : (most : ℕ) (places : List ℕ) → length places ≤ most → behind most places ≡ None
behind-none most [] few = refl
behind-none zero (one ∷ more) few = absurd (omega (arith, few))
behind-none (suc most) (one ∷ more) few = behind-none most more (omega (arith, few))

few-leaves : (tokens : List PlainToken) → count tokens ≤ most_leaves → surplus most_leaves tokens ≡ None
few-leaves tokens few =
    behind-none most_leaves (leaves_of tokens) (let long = length-map (filter begins_leaf tokens) (λ (token : PlainToken). token.left) in omega (arith, long, few))

port-read : (split : PlainSplit) (value : List (List Value)) (text : List ℕ) (trees : List (List Rattle.logical_value.specs.Tree.Tree)) → (r : AreRoots split.nodes split.roots trees [] text)
    → value_in split (tokens_of text) ≡ Ok r.made
unfolding port no_more
port-read split value text trees r = rw (r.lexed, r.reads []) refl

pub values_read : ValuesAreReadAsPrinted
values_read split value users named fits small =
    let rest : List ℕ = users_text split.streams users in
    let text : List ℕ = canonical split (plain_port value) users in
    let r = all_roots split.nodes split.roots (plain_port value) [] rest named.nodes fits refl (λ other blank. users-none other split.streams users blank named.streams) in
    let made : PortValue = record { roots = r.made } in
    let same : made ≡ value = plain_is_one_to_one.0 made value r.same in
    record {
      well_formed = record {
        form = subst Text (sym r.lexed) (r.spelled small.shallow);
        few = ap (surplus most_leaves) r.lexed ∙ few-leaves r.tokens (let counts = r.counts in let few = small.few in omega (arith, counts, few));
      };
      is = port-read split r.made text (plain_port value) r ∙ ap (λ (v : PortValue). Ok v.roots) same;
    }
