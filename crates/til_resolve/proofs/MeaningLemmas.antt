-- The meaning of a path is the type of the declaration that it names. Meanings that agree on the paths in a written type give one
-- type.
use Rattle.std.proofs.Common.{◌≡◌, ℕ, zero, suc, Bool, true, false, cond, List, [], Option, Some, None, Contains, refl, sym, ap, ◌∙◌}
use Rattle.std.proofs.lemmas.List.Elements.{Contains-append_left, Contains-append_right, Contains-push}
use Rattle.til_parser.specs.declared.ltype.AstType.{AstType}
use Rattle.til_parser.specs.declared.tree.AstKind.{AstKind}
use Rattle.til_parser.specs.declared.tree.AstKind.TheVariants as decls
use Rattle.til_parser.specs.declared.tree.AstName.{AstName}
use Rattle.til_parser.specs.declared.tree.AstPath.{AstPath}
use Rattle.til_parser.specs.Tree as tree
use Rattle.logical_types.specs.Tree.{Ltype, null, group, union, stream, Parts, part}
use Rattle.til_resolve.specs.Declarations.{Declaration, declaration, named, named_as, is_type, is_type_kind, kept_as}
use Rattle.til_resolve.specs.Names.{paths_in, paths_in_parts}
use Rattle.til_resolve.specs.Shapes.{type_at}
use Rattle.til_resolve.specs.Types.{replaced, replaced_parts, settings_of, type_by, type_of_number, meaning_of}

-- ---- meanings that agree

mutual
  pub replaced-same : (one other : List AstName → Ltype) (t : tree.Ltype) → ((path : AstPath) → Contains (paths_in t) path → one path.names ≡ other path.names) → replaced one t ≡ replaced other t
  replaced-same one other tree.null same = refl
  replaced-same one other (tree.bits width) same = refl
  replaced-same one other (tree.group parts) same = ap group (replaced_parts-same one other parts same)
  replaced-same one other (tree.union parts) same = ap union (replaced_parts-same one other parts same)
  replaced-same one other (tree.stream element user settings) same =
      ap (λ (t : Ltype). stream t (replaced one user) (settings_of settings))
      (replaced-same one other element (λ path there. same path (Contains-append_left (paths_in element) (paths_in user) path there)))
      ∙ ap (λ (t : Ltype). stream (replaced other element) t (settings_of settings))
      (replaced-same one other user (λ path there. same path (Contains-append_right (paths_in element) (paths_in user) path there)))
  replaced-same one other (tree.path names) same = same (record { names = names }) (Contains-push [] (record { names = names }))

  replaced_parts-same : (one other : List AstName → Ltype) (parts : tree.Parts) → ((path : AstPath) → Contains (paths_in_parts parts) path → one path.names ≡ other path.names)
      → replaced_parts one parts ≡ replaced_parts other parts
  replaced_parts-same one other tree.no_parts same = refl
  replaced_parts-same one other (tree.part name ltype more) same =
      ap (λ (t : Ltype). part name.name t (replaced_parts one more))
      (replaced-same one other ltype (λ path there. same path (Contains-append_left (paths_in ltype) (paths_in_parts more) path there)))
      ∙ ap (λ (ps : Parts). part name.name (replaced other ltype) ps)
      (replaced_parts-same one other more (λ path there. same path (Contains-append_right (paths_in ltype) (paths_in_parts more) path there)))

-- ---- the meaning of a path

-- the type of the declaration of a number; Null where there is no number
abbrev pub type_of_named : List Declaration → ℕ → Option ℕ → Ltype
type_of_named all less None = null
type_of_named all less (Some one) = type_at all less one

-- a declaration that is no type gives a name to none
pub no_alias : (meaning : List (List ℕ) → List AstName → Ltype) (space : List (List ℕ)) (name : AstName) (kind : AstKind) → ((ltype : AstType) → kind ≡ decls.Alias ltype → ⊥)
    → type_by meaning (record { space = space; name = name; kind = kind }) ≡ null
no_alias meaning space name (decls.Alias ltype) other = absurd (other ltype refl)
no_alias meaning space name (decls.Interface listed) other = refl
no_alias meaning space name (decls.Streamlet listed) other = refl
no_alias meaning space name (decls.Impl target body) other = refl
no_alias meaning space name (decls.Test target port value plan) other = refl

no_type : (meaning : List (List ℕ) → List AstName → Ltype) (space : List (List ℕ)) (name : AstName) (kind : AstKind) → is_type_kind kind ≡ false
    → type_by meaning (record { space = space; name = name; kind = kind }) ≡ null
no_type meaning space name kind is = no_alias meaning space name kind (λ ltype alias. let clash : true ≡ false = sym (ap is_type_kind alias) ∙ is in absurd cc)

pub meant-named : (all : List Declaration) (less : ℕ) (space : List (List ℕ)) (path : AstPath) → meaning_of all less space path.names ≡ type_of_named all less (named_as is_type all space path)
meant-named all zero space path = by (named_as is_type all space path)
  where
    by : (o : Option ℕ) → null ≡ type_of_named all zero o
    by None = refl
    by (Some n) = refl
meant-named all (suc less) space path = by (named all space path)
  where
    by : (o : Option ℕ) → type_of_number (meaning_of all less) all o ≡ type_of_named all (suc less) (kept_as is_type all o)
    by None = refl
    by (Some n) = tested (is_type (declaration all n)) refl
      where
        tested : (b : Bool) → is_type (declaration all n) ≡ b → type_by (meaning_of all less) (declaration all n) ≡ type_of_named all (suc less) (cond b (Some n) None)
        tested true test = refl
        tested false test = let d = declaration all n in no_type (meaning_of all less) d.space d.name d.kind test

-- a path means one type with one number of names as with another, where the declaration does that it names
pub meant-same : (all : List Declaration) (one other : ℕ) (space : List (List ℕ)) (path : AstPath)
    → ((n : ℕ) → named_as is_type all space path ≡ Some n → type_at all one n ≡ type_at all other n) → meaning_of all one space path.names ≡ meaning_of all other space path.names
meant-same all one other space path same = meant-named all one space path ∙ by (named_as is_type all space path) same ∙ sym (meant-named all other space path)
  where
    by : (o : Option ℕ) → ((n : ℕ) → o ≡ Some n → type_at all one n ≡ type_at all other n) → type_of_named all one o ≡ type_of_named all other o
    by None agree = refl
    by (Some n) agree = agree n refl

-- the type that a declaration of a kind gives a name to
pub declared-is : (all : List Declaration) (names number : ℕ) (ltype : AstType) → (declaration all number).kind ≡ decls.Alias ltype
    → type_at all (suc names) number ≡ replaced (meaning_of all names (declaration all number).space) (tree.plain ltype)
declared-is all names number ltype is =
    let d = declaration all number in
    ap (λ (kind : AstKind). type_by (meaning_of all names) (record { space = d.space; name = d.name; kind = kind })) is
