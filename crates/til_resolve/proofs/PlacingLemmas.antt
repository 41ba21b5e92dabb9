-- The declarations of one namespace more.
use Rattle.std.proofs.Common.{◌≡◌, ℕ, List, [], ◌∷◌, ◌++◌, map, All, refl, sym, ap, subst, ◌∙◌}
use Rattle.std.specs.Borrow.{Bor}
use Rattle.std.specs.BTreeMap.{get}
use Rattle.std.proofs.lemmas.List.{map-append}
use Rattle.std.proofs.lemmas.List.Elements.{All-map}
use Rattle.til_parser.specs.declared.tree.AstDecl.{AstDecl}
use Rattle.til_parser.specs.declared.tree.AstName.{AstName}
use Rattle.til_parser.specs.declared.tree.AstNamespace.{AstNamespace}
use Rattle.til_resolve.specs.declared.declared.Declared.{Declared}
use Rattle.til_resolve.specs.declared.placing.Placing.{Placing}
use Rattle.til_resolve.specs.Declarations.{Declaration, declared_in, names_of}
use Rattle.til_resolve.specs.Paths.{texts_of}
use Rattle.til_resolve.specs.Scope.{Placed, placed, placed_at, declarations_in, declarations_of, AreHome, FindsSpaces}
use Rattle.til_resolve.specs.Ordered.{by_path}
use Rattle.til_resolve.specs.Placing.{IsPlaced, place_in, with_space}
use Rattle.til_resolve.proofs.ScopeLemmas.{AreHome-more}

declarations_in-placed_at : (home : ℕ) (all : List Declaration) → declarations_in (map (placed_at home) all) ≡ all
declarations_in-placed_at home [] = refl
declarations_in-placed_at home (x ∷ xs) = ap (λ (l : List Declaration). x ∷ l) (declarations_in-placed_at home xs)

pub IsPlaced-more : (placing : Placing) (spaces : List (Bor (List AstName))) (space : Bor (List AstName)) (old : List Declared) (namespace : AstNamespace) (home : ℕ)
    → FindsSpaces (get by_path placing.spaces.numbers) placing.spaces.keys → placing.spaces.keys ≡ with_space spaces space → home ≡ place_in spaces space
    → AreHome spaces (placed old) → space.now ≡ namespace.path.names → placed placing.declared ≡ placed old ++ map (placed_at home) (declared_in namespace)
    → IsPlaced placing (declarations_of old ++ declared_in namespace)
IsPlaced-more placing spaces space old namespace home finds keys is homes names added = record {
  finds = finds;
  declarations = ap declarations_in added ∙ map-append (λ (one : Placed). one.declaration) (placed old) (map (placed_at home) (declared_in namespace))
      ∙ ap (λ (l : List Declaration). declarations_of old ++ l) (declarations_in-placed_at home (declared_in namespace));
  homes = subst (λ (l : List Placed). AreHome placing.spaces.keys l) (sym added)
      (subst (λ (ks : List (Bor (List AstName))). AreHome ks (placed old ++ map (placed_at home) (declared_in namespace))) (sym keys)
      (AreHome-more spaces space (placed old) (declared_in namespace) home is homes own));
}
  where
    own : All (λ one. one.space ≡ texts_of space.now) (declared_in namespace)
    own = All-map (λ one. one.space ≡ texts_of space.now) (λ (decl : AstDecl). record { space = names_of namespace.path; name = decl.name; kind = decl.kind }) namespace.decls
        (λ k d within. ap texts_of (sym names))
