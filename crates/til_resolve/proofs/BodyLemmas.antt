-- The implementation of a streamlet is the first `impl` of it.
use Rattle.std.proofs.Common.{◌≡◌, ℕ, suc, ◌+◌, ◌<◌, Bool, true, false, cond, List, [], ◌∷◌, length, take, get_or, position, option_map, Option, Some, None, refl, sym, ap, ◌∙◌, arith}
use Rattle.std.specs.List.{filter_map, cons_option}
use Rattle.std.specs.Option.{option_or}
use Rattle.std.proofs.lemmas.Bool.{false≢true}
use Rattle.std.proofs.lemmas.List.{length-take-le, take_all}
use Rattle.std.proofs.lemmas.List.Quantifiers.{position-Some}
use Rattle.til_parser.specs.declared.tree.AstKind.{AstKind}
use Rattle.til_parser.specs.declared.tree.AstKind.TheVariants as decls
use Rattle.til_parser.specs.declared.tree.AstName.{AstName}
use Rattle.til_resolve.specs.declared.project.Impl.{Impl}
use Rattle.til_resolve.specs.Declarations.{Declaration, declaration}
use Rattle.til_resolve.specs.Making.{FindsFirstImpl, written_impl}
use Rattle.til_resolve.specs.Names.{is_impl_of}
use Rattle.til_resolve.specs.Project.{impl_of, impl_by, first_of, body_of}
use Rattle.til_resolve.proofs.MakingLemmas.{taken-more}
use Rattle.til_resolve.proofs.PositionLemmas.{position-cons, position-push}

-- ---- the first that is kept of a list, by where the first one stands of which a test holds

module _ {X Y : Type 0} (p : X → Bool) (f : X → Option Y) (never : (x : X) → p x ≡ false → f x ≡ None) (always : (x : X) → p x ≡ true → (y : Y) × (f x ≡ Some y)) where
  first_of-none : (xs : List X) → position p xs ≡ None → first_of (filter_map f xs) ≡ None
  first_of-none [] is = refl
  first_of-none (x ∷ xs) is = by (p x) refl (sym (position-cons p x xs) ∙ is) (first_of-none xs)
    where
      lowered : (o : Option ℕ) → option_map suc o ≡ None → o ≡ None
      lowered None same = refl
      lowered (Some k) same = cc

      by : (b : Bool) → p x ≡ b → cond b (Some 0) (option_map suc (position p xs)) ≡ None → (position p xs ≡ None → first_of (filter_map f xs) ≡ None)
          → first_of (cons_option (f x) (filter_map f xs)) ≡ None
      by true test at rest = cc
      by false test at rest = ap (λ (o : Option Y). first_of (cons_option o (filter_map f xs))) (never x test) ∙ rest (lowered (position p xs) at)

  first_of-some : (xs : List X) (n : ℕ) (d : X) → position p xs ≡ Some n → first_of (filter_map f xs) ≡ f (get_or xs n d)
  first_of-some [] n d is = cc
  first_of-some (x ∷ xs) n d is = by (p x) refl (sym (position-cons p x xs) ∙ is) (first_of-some xs)
    where
      here : (y : Y) × (f x ≡ Some y) → first_of (cons_option (f x) (filter_map f xs)) ≡ f x
      here kept = ap (λ (o : Option Y). first_of (cons_option o (filter_map f xs))) kept.1 ∙ sym kept.1

      later : (o : Option ℕ) → position p xs ≡ o → option_map suc o ≡ Some n → ((m : ℕ) (e : X) → position p xs ≡ Some m → first_of (filter_map f xs) ≡ f (get_or xs m e))
          → first_of (filter_map f xs) ≡ f (get_or (x ∷ xs) n d)
      later None at same rest = cc
      later (Some k) at same rest =
          let number : suc k ≡ n = cc in
          rest k d at ∙ ap (λ m. f (get_or (x ∷ xs) m d)) number

      by : (b : Bool) → p x ≡ b → cond b (Some 0) (option_map suc (position p xs)) ≡ Some n → ((m : ℕ) (e : X) → position p xs ≡ Some m → first_of (filter_map f xs) ≡ f (get_or xs m e))
          → first_of (cons_option (f x) (filter_map f xs)) ≡ f (get_or (x ∷ xs) n d)
      by true test at rest =
          let number : 0 ≡ n = cc in
          here (always x test) ∙ ap (λ m. f (get_or (x ∷ xs) m d)) number
      by false test at rest = ap (λ (o : Option Y). first_of (cons_option o (filter_map f xs))) (never x test) ∙ later (position p xs) refl at rest

-- ---- an `impl` of a streamlet

module _ (all : List Declaration) (streamlet : ℕ) where
  impl_by-not : (space : List (List ℕ)) (name : AstName) (kind : AstKind)
      → is_impl_of all streamlet (record { space = space; name = name; kind = kind }) ≡ false → impl_by all streamlet (record { space = space; name = name; kind = kind }) ≡ None
  impl_by-not space name (decls.Alias ltype) is = refl
  impl_by-not space name (decls.Interface listed) is = refl
  impl_by-not space name (decls.Streamlet listed) is = refl
  impl_by-not space name (decls.Impl target body) is = ap (λ b. cond b (Some (impl_of all space target body)) None) is
  impl_by-not space name (decls.Test target port value plan) is = refl

  impl_by-is : (space : List (List ℕ)) (name : AstName) (kind : AstKind)
      → is_impl_of all streamlet (record { space = space; name = name; kind = kind }) ≡ true
      → impl_by all streamlet (record { space = space; name = name; kind = kind }) ≡ written_impl all (record { space = space; name = name; kind = kind })
  impl_by-is space name (decls.Alias ltype) is = refl
  impl_by-is space name (decls.Interface listed) is = refl
  impl_by-is space name (decls.Streamlet listed) is = refl
  impl_by-is space name (decls.Impl target body) is = ap (λ b. cond b (Some (impl_of all space target body)) None) is
  impl_by-is space name (decls.Test target port value plan) is = refl

  impl_by-some : (space : List (List ℕ)) (name : AstName) (kind : AstKind)
      → is_impl_of all streamlet (record { space = space; name = name; kind = kind }) ≡ true → (one : Impl) × (impl_by all streamlet (record { space = space; name = name; kind = kind }) ≡ Some one)
  impl_by-some space name (decls.Alias ltype) is = absurd (false≢true is)
  impl_by-some space name (decls.Interface listed) is = absurd (false≢true is)
  impl_by-some space name (decls.Streamlet listed) is = absurd (false≢true is)
  impl_by-some space name (decls.Impl target body) is = (impl_of all space target body, ap (λ b. cond b (Some (impl_of all space target body)) None) is)
  impl_by-some space name (decls.Test target port value plan) is = absurd (false≢true is)

  pub body_of-none : position (is_impl_of all streamlet) all ≡ None → body_of all streamlet ≡ None
  body_of-none is = first_of-none (is_impl_of all streamlet) (impl_by all streamlet) (λ one. impl_by-not one.space one.name one.kind) (λ one. impl_by-some one.space one.name one.kind) all is

  pub body_of-written : (number : ℕ) → position (is_impl_of all streamlet) all ≡ Some number → body_of all streamlet ≡ written_impl all (declaration all number)
  body_of-written number is =
      let one = declaration all number in
      first_of-some (is_impl_of all streamlet) (impl_by all streamlet) (λ it. impl_by-not it.space it.name it.kind) (λ it. impl_by-some it.space it.name it.kind) all number _ is
      ∙ impl_by-is one.space one.name one.kind (position-Some (is_impl_of all streamlet) all number _ is).1

  pub impl-within : (number : ℕ) → position (is_impl_of all streamlet) all ≡ Some number → number < length all
  impl-within number is = (position-Some (is_impl_of all streamlet) all number (declaration all number) is).0

  -- a declaration more
  pub impls-more : (number : ℕ) → number < length all
      → position (is_impl_of all streamlet) (take (number + 1) all)
      ≡ option_or (position (is_impl_of all streamlet) (take number all)) (cond (is_impl_of all streamlet (declaration all number)) (Some number) None)
  impls-more number within =
      let long : length (take number all) ≡ number = length-take-le number all (omega (arith, within)) in
      ap (position (is_impl_of all streamlet)) (taken-more all number within) ∙ position-push (is_impl_of all streamlet) (take number all) (declaration all number)
      ∙ ap (λ n. option_or (position (is_impl_of all streamlet) (take number all)) (cond (is_impl_of all streamlet (declaration all number)) (Some n) None)) long

  -- the result of a look-up among all declarations
  pub impl-found : (find : ℕ → Option ℕ) → FindsFirstImpl find all (length all) → find streamlet ≡ position (is_impl_of all streamlet) all
  impl-found find finds = finds streamlet ∙ ap (position (is_impl_of all streamlet)) (take_all (length all) all (omega arith))
