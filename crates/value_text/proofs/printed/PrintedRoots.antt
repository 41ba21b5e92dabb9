-- The lines of roots that are printed: their tokens have the form of a text, and are read as the series.
use Rattle.std.proofs.Common.{◌≡◌, ◌∙◌, ℕ, ◌≤◌, Bool, true, false, List, [], ◌∷◌, ◌++◌, All, map, slice_get, Option, Some, None, refl, sym, ap, subst, append_assoc, append-nil, arith, codes}
use Rattle.std.proofs.lemmas.Bool.{and_parts}
use Rattle.std.proofs.lemmas.List.Elements.{All-get_or}
use Rattle.std.proofs.lemmas.Option.{get_or_from_slice_get, slice_get_within}
use Rattle.tydi_base.specs.Path.{path_text}
use Rattle.tydi_reading.specs.Lists.{Beginning, Each, repeated, repeated_turn}
use Rattle.tydi_reading.specs.Reading.{Shrinks, loop, took, tells}
use Rattle.logical_value.specs.Fits.{all_pass, fit_roots, fits_element, fits_series, is_nest}
use Rattle.logical_value.specs.Tree.{Tree, Trees, no_trees, tree, trees_of, list_of, plain, plain_values}
use Rattle.logical_value.specs.declared.value.Value.{Value}
use Rattle.logical_value.proofs.PlainLemmas.{list_of-plain_values, list_of-trees_of}
use Rattle.type_split.specs.Nodes.{StreamNode}
use Rattle.value_text.specs.Canonical.{element_text, nest_text, nests_text, root_text, roots_text}
use Rattle.value_text.specs.Grammar.{Member, Root, Series, most_levels}
use Rattle.value_text.specs.Port.{next_root, root_line, roots_from, series_values}
use Rattle.value_text.specs.Printable.{IsNamedNode, depth_of, depth_of_port, greatest_depth, leaves_in_all, leaves_of_port}
use Rattle.value_text.specs.Syntax.{Reader}
use Rattle.value_text.specs.Tokens.{PlainToken, tokens_of}
use Rattle.value_text.specs.Typed.{element, nest, shaped}
use Rattle.value_text.specs.Words.{is_byte, is_spaced, root_path}
use Rattle.value_text.specs.declared.token.TokenKind.TheVariants as kinds
use Rattle.value_text.proofs.SyntaxRules.{IsApart, member-byte}
use Rattle.value_text.proofs.TypedLemmas.{less-element, less-nest}
use Rattle.value_text.proofs.printed.LexedTexts.{Ends, IsBare, IsEnd, IsSign, ends-byte, ends-space, is_blank, one_byte, run, tokens-sign, tokens-word}
use Rattle.value_text.proofs.printed.PrintedElements.{prints-element}
use Rattle.value_text.proofs.printed.PrintedFields.{same-bytes}
use Rattle.value_text.proofs.printed.PrintedMembers.{Lexes, Prints, count, count-append, front-assoc, lexes-both, prints-nest, turn-goes, turn-stops}
use Rattle.value_text.proofs.printed.PrintedPaths.{IsPathToken, path-begins, path-token, path_text-is}

bare-semicolon : IsBare 59
bare-semicolon = record { space = refl; slash = refl }

sign-semicolon : IsSign 59
sign-semicolon = record { bare = bare-semicolon; word = refl; dash = refl; brace = refl }

end-semicolon : IsEnd 59
end-semicolon = record { bare = bare-semicolon; word = refl; key = refl; call = refl; path = refl }

apart-semicolon : IsApart 59
apart-semicolon = record { list = refl; group = refl; name = refl; leaf = refl }

-- ---- series

-- values, each with a space before it
record AreSpaced (read : Reader Value) (some : Trees) (text rest : List ℕ) : Type 0 where
  tokens : List PlainToken
  made : List Value
  lexed : Lexes text rest tokens
  ends : Ends (text ++ rest)
  same : plain_values made ≡ some
  reads : (found : List Value) (ts : List PlainToken) → tells (is_byte 59) false ts ≡ true → loop (repeated_turn (is_byte 59) false read) found (tokens ++ ts) ≡ took (found ++ made) ts
  spelled : (levels : ℕ) → greatest_depth some ≤ levels → (items : List (Unit {0})) × Each (Beginning is_spaced (λ (_ : Unit {0}). Member levels)) items tokens
  counts : count tokens ≡ leaves_in_all some

-- the series of a root behind its `=`, and its semicolon
record IsSeries (read : Reader Value) (some : Trees) (text rest : List ℕ) : Type 0 where
  tokens : List PlainToken
  made : List Value
  lexed : tokens_of (32 ∷ (text ++ 59 ∷ rest)) ≡ tokens ++ tokens_of rest
  same : plain_values made ≡ some
  reads : (ts : List PlainToken) → series_values read (tokens ++ ts) ≡ took made ts
  spelled : (levels : ℕ) → greatest_depth some ≤ levels → Series (Member levels) tokens
  counts : count tokens ≡ leaves_in_all some

-- the semicolon of a series
abbrev semicolon : List ℕ → List ℕ → PlainToken
semicolon gap rest = one_byte kinds.Sign gap 59 rest

module _ (test : Tree → Bool) (text : Tree → List ℕ) (read : Reader Value) (prints : Prints test text read) (shrinks : Shrinks read) where
  spaced_values : (some : Trees) → all_pass test some ≡ true → (rest : List ℕ) → Ends rest → AreSpaced read some (nests_text text (codes " ") (codes " ") some) rest
  spaced_values no_trees pass rest ends = record {
    tokens = [];
    made = [];
    lexed = refl;
    ends = ends;
    same = refl;
    reads = λ found ts stop. turn-stops (is_byte 59) read shrinks found ts stop ∙ ap (λ (l : List Value). took l ts) (sym (append-nil found));
    spelled = λ levels less. ([], refl);
    counts = refl;
  }
  spaced_values (tree value others) pass rest ends =
      let both = and_parts (test value) (all_pass test others) pass in
      let tail = spaced_values others both.1 rest ends in
      let behind : List ℕ = nests_text text (codes " ") (codes " ") others in
      let one = prints value both.0 (32 ∷ []) (behind ++ rest) refl tail.ends in
      let member = one.spelled (depth_of value) (omega arith) in
      record {
        tokens = one.tokens ++ tail.tokens;
        made = one.made ∷ tail.made;
        lexed = lexes-both (32 ∷ text value) behind rest one.tokens tail.tokens one.lexed tail.lexed;
        ends = subst Ends (ap (λ (l : List ℕ). 32 ∷ l) (sym (append_assoc (text value) behind rest))) (ends-space (text value) (behind ++ rest) one.begins);
        same = cc (one.same, tail.same);
        reads = λ found ts stop.
            turn-goes (is_byte 59) read shrinks found ((one.tokens ++ tail.tokens) ++ ts) (tail.tokens ++ ts) one.made
            (ap (tells (is_byte 59) false) (append_assoc one.tokens tail.tokens ts) ∙ member-byte (depth_of value) 59 one.tokens (tail.tokens ++ ts) apart-semicolon member)
            (front-assoc read one.tokens tail.tokens ts (tail.tokens ++ ts) one.made (one.reads (tail.tokens ++ ts)))
            ∙ tail.reads (found ++ one.made ∷ []) ts stop ∙ ap (λ (l : List Value). took l ts) (append_assoc found (one.made ∷ []) tail.made);
        spelled = λ levels less.
            let next = tail.spelled levels (omega (arith, less)) in
            (tt ∷ next.0, record { front = one.tokens; back = tail.tokens; all = refl; begins = (one.spelled levels (omega (arith, less)), one.spaced); ends = next.1 });
        counts = omega (arith, count-append one.tokens tail.tokens, one.counts, tail.counts);
      }

  series : (some : Trees) → all_pass test some ≡ true → (rest : List ℕ) → IsSeries read some (nests_text text (codes " ") [] some) rest
  unfolding series_values repeated shaped
  series no_trees pass rest = record {
    tokens = semicolon (32 ∷ []) rest ∷ [];
    made = [];
    lexed = tokens-sign (32 ∷ []) 59 rest refl sign-semicolon;
    same = refl;
    reads = λ ts. rw (turn-stops (is_byte 59) read shrinks [] (semicolon (32 ∷ []) rest ∷ ts) refl) refl;
    spelled = λ levels less. record { front = []; back = semicolon (32 ∷ []) rest ∷ []; all = refl; begins = ([], refl); ends = (semicolon (32 ∷ []) rest, refl, refl) };
    counts = refl;
  }
  series (tree value others) pass rest =
      let both = and_parts (test value) (all_pass test others) pass in
      let tail = spaced_values others both.1 (59 ∷ rest) (ends-byte 59 rest end-semicolon) in
      let behind : List ℕ = nests_text text (codes " ") (codes " ") others in
      let one = prints value both.0 (32 ∷ []) (behind ++ 59 ∷ rest) refl tail.ends in
      let member = one.spelled (depth_of value) (omega arith) in
      let end : PlainToken = semicolon [] rest in
      record {
        tokens = (one.tokens ++ tail.tokens) ++ end ∷ [];
        made = one.made ∷ tail.made;
        lexed = lexes-both (32 ∷ text value) behind (59 ∷ rest) one.tokens tail.tokens one.lexed tail.lexed
            ∙ ap (λ (ts : List PlainToken). (one.tokens ++ tail.tokens) ++ ts) (tokens-sign [] 59 rest refl sign-semicolon) ∙ sym (append_assoc (one.tokens ++ tail.tokens) (end ∷ []) (tokens_of rest));
        same = cc (one.same, tail.same);
        reads = λ ts.
            let all : ((one.tokens ++ tail.tokens) ++ end ∷ []) ++ ts ≡ one.tokens ++ (tail.tokens ++ end ∷ ts) =
            append_assoc (one.tokens ++ tail.tokens) (end ∷ []) ts ∙ append_assoc one.tokens tail.tokens (end ∷ ts) in
            let turns : loop (repeated_turn (is_byte 59) false read) [] (one.tokens ++ (tail.tokens ++ end ∷ ts)) ≡ took (one.made ∷ tail.made) (end ∷ ts) =
            turn-goes (is_byte 59) read shrinks [] (one.tokens ++ (tail.tokens ++ end ∷ ts)) (tail.tokens ++ end ∷ ts) one.made
            (member-byte (depth_of value) 59 one.tokens (tail.tokens ++ end ∷ ts) apart-semicolon member) (one.reads (tail.tokens ++ end ∷ ts))
            ∙ tail.reads (one.made ∷ []) (end ∷ ts) refl in
            rw (all, turns) refl;
        spelled = λ levels less.
            let next = tail.spelled levels (omega (arith, less)) in
            record {
              front = one.tokens ++ tail.tokens;
              back = end ∷ [];
              all = refl;
              begins = (tt ∷ next.0, record { front = one.tokens; back = tail.tokens; all = refl; begins = one.spelled levels (omega (arith, less)); ends = next.1 });
              ends = (end, refl, refl);
            };
        counts = omega (arith, count-append (one.tokens ++ tail.tokens) (end ∷ []), count-append one.tokens tail.tokens, one.counts, tail.counts);
      }

-- ---- the line of a root

-- the line of a root behind white space
record IsLine (node : StreamNode) (some : List Tree) (gap rest : List ℕ) : Type 0 where
  tokens : List PlainToken
  made : List Value
  lexed : tokens_of (gap ++ (root_text (Some node) some ++ rest)) ≡ tokens ++ tokens_of (10 ∷ rest)
  same : map plain made ≡ some
  reads : (ts : List PlainToken) → root_line node (tokens ++ ts) ≡ took made ts
  spelled : greatest_depth (trees_of some) ≤ most_levels → Root tokens
  counts : count tokens ≡ leaves_in_all (trees_of some)

series-same : (made : List Value) (some : List Tree) → plain_values made ≡ trees_of some → map plain made ≡ some
series-same made some same = sym (list_of-plain_values made) ∙ ap list_of same ∙ list_of-trees_of some

line : (node : StreamNode) (some : List Tree) (gap rest : List ℕ) → IsNamedNode node → fits_series (Some node) some ≡ true → is_blank gap ≡ true → IsLine node some gap rest
unfolding root_line shaped
line node some gap rest named fits blank = record {
  tokens = word ∷ path.token ∷ values.tokens;
  made = values.made;
  lexed = ap (λ (l : List ℕ). tokens_of (gap ++ l)) all ∙ tokens-word gap (codes "root") (32 ∷ (path_text node.path ++ 32 ∷ 61 ∷ behind)) blank (record { some = omega arith; each = refl })
      (ends-space (path_text node.path) (32 ∷ 61 ∷ behind) (path-begins node.path named.path))
      ∙ ap (λ (ts : List PlainToken). word ∷ ts) (path.lexed ∙ ap (λ (ts : List PlainToken). path.token ∷ ts) values.lexed);
  same = series-same values.made some values.same;
  reads = λ ts. rw (path.kind, path.text, same-bytes (path_text node.path), values.reads ts) refl;
  spelled = λ shallow. record {
    front = word ∷ [];
    back = path.token ∷ values.tokens;
    all = refl;
    begins = (word, refl, refl);
    ends = record { front = path.token ∷ []; back = values.tokens; all = refl; begins = (path.token, refl, path_is); ends = values.spelled most_levels shallow };
  };
  counts = no_leaf ∙ values.counts;
}
  where
    depth : ℕ
    depth = node.params.dims

    text : List ℕ
    text = nests_text (nest_text (element_text node.element) depth) (codes " ") [] (trees_of some)

    behind : List ℕ
    behind = 32 ∷ (text ++ 59 ∷ 10 ∷ rest)

    all : root_text (Some node) some ++ rest ≡ codes "root" ++ 32 ∷ (path_text node.path ++ 32 ∷ 61 ∷ behind)
    all = ap (λ (l : List ℕ). codes "root " ++ l) (append_assoc (path_text node.path ++ codes " = ") (text ++ codes ";\n") rest ∙ append_assoc (path_text node.path) (codes " = ") ((text ++ codes ";\n") ++ rest)
        ∙ ap (λ (l : List ℕ). path_text node.path ++ 32 ∷ 61 ∷ 32 ∷ l) (append_assoc text (codes ";\n") rest))

    word : PlainToken
    word = run kinds.Word gap (codes "root") (32 ∷ (path_text node.path ++ 32 ∷ 61 ∷ behind))

    path : IsPathToken node.path (32 ∷ []) behind
    path = path-token node.path named.path (32 ∷ []) behind refl

    values : IsSeries (nest (element node.element) depth) (trees_of some) text (10 ∷ rest)
    values = series (is_nest (fits_element node.element) depth) (nest_text (element_text node.element) depth) (nest (element node.element) depth)
        (prints-nest (fits_element node.element) (element_text node.element) (element node.element) (prints-element node.element named.element) (less-element node.element) depth)
        (less-nest (element node.element) depth (less-element node.element)) (trees_of some) fits (10 ∷ rest)

    path_is : root_path path.token ≡ true
    path_is = rw (path.kind, path.text) (path_text-is node.path named.path)

    no_leaf : count (word ∷ path.token ∷ values.tokens) ≡ count values.tokens
    no_leaf = rw path.kind refl

-- ---- all roots

-- the lines of roots behind white space, and a text without tokens
pub record AreRoots (nodes : List StreamNode) (roots : List ℕ) (value : List (List Tree)) (gap text : List ℕ) : Type 0 where
  pub tokens : List PlainToken
  pub made : List (List Value)
  pub lexed : tokens_of (gap ++ text) ≡ tokens
  pub same : map (map plain) made ≡ value
  pub reads : (found : List (List Value)) → roots_from nodes roots found tokens ≡ took (found ++ made) []
  pub spelled : depth_of_port value ≤ most_levels → (items : List (Unit {0})) × Each (λ (_ : Unit {0}). Root) items tokens
  pub counts : count tokens ≡ leaves_of_port value

one-root : (nodes : List StreamNode) (root : ℕ) (roots : List ℕ) (node : StreamNode) (some : List Tree) (more : List (List Tree)) (gap rest : List ℕ) → slice_get nodes root ≡ Some node
    → IsLine node some gap (roots_text nodes roots more ++ rest) → AreRoots nodes roots more (10 ∷ []) (roots_text nodes roots more ++ rest)
    → AreRoots nodes (root ∷ roots) (some ∷ more) gap (roots_text nodes (root ∷ roots) (some ∷ more) ++ rest)
unfolding next_root
one-root nodes root roots node some more gap rest there one others = record {
  tokens = one.tokens ++ others.tokens;
  made = one.made ∷ others.made;
  lexed = ap (λ (l : List ℕ). tokens_of (gap ++ l)) (ap (λ o. (root_text o some ++ roots_text nodes roots more) ++ rest) there ∙ append_assoc (root_text (Some node) some) (roots_text nodes roots more) rest)
      ∙ one.lexed ∙ ap (λ (ts : List PlainToken). one.tokens ++ ts) others.lexed;
  same = cc (one.same, others.same);
  reads = λ found. rw (there, one.reads others.tokens) (others.reads (found ++ one.made ∷ []) ∙ ap (λ (l : List (List Value)). took l []) (append_assoc found (one.made ∷ []) others.made));
  spelled = λ shallow.
      let next = others.spelled (omega (arith, shallow)) in
      (tt ∷ next.0, record { front = one.tokens; back = others.tokens; all = refl; begins = one.spelled (omega (arith, shallow)); ends = next.1 });
  counts = omega (arith, count-append one.tokens others.tokens, one.counts, others.counts);
}

pub all_roots : (nodes : List StreamNode) (roots : List ℕ) (value : List (List Tree)) (gap rest : List ℕ) → All IsNamedNode nodes → fit_roots nodes roots value ≡ true → is_blank gap ≡ true
    → ((other : List ℕ) → is_blank other ≡ true → tokens_of (other ++ rest) ≡ []) → AreRoots nodes roots value gap (roots_text nodes roots value ++ rest)
all_roots nodes [] [] gap rest named fits blank none = record {
  tokens = [];
  made = [];
  lexed = none gap blank;
  same = refl;
  reads = λ found. ap (λ (l : List (List Value)). took l []) (sym (append-nil found));
  spelled = λ shallow. ([], refl);
  counts = refl;
}
all_roots nodes [] (some ∷ more) gap rest named fits blank none = absurd cc
all_roots nodes (root ∷ roots) [] gap rest named fits blank none = absurd cc
all_roots nodes (root ∷ roots) (some ∷ more) gap rest named fits blank none =
    let both = and_parts (fits_series (slice_get nodes root) some) (fit_roots nodes roots more) fits in
    by_node (slice_get nodes root) refl both.0 (all_roots nodes roots more (10 ∷ []) rest named both.1 refl none)
  where
    by_node : (node : Option StreamNode) → slice_get nodes root ≡ node → fits_series node some ≡ true → AreRoots nodes roots more (10 ∷ []) (roots_text nodes roots more ++ rest)
        → AreRoots nodes (root ∷ roots) (some ∷ more) gap (roots_text nodes (root ∷ roots) (some ∷ more) ++ rest)
    by_node None there passes others = absurd cc
    by_node (Some node) there passes others =
        let is : IsNamedNode node = subst IsNamedNode (get_or_from_slice_get nodes root node node there) (All-get_or IsNamedNode nodes root node (slice_get_within nodes root node there) named) in
        one-root nodes root roots node some more gap rest there (line node some gap (roots_text nodes roots more ++ rest) is passes blank) others
