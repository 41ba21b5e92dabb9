-- Paths that are added one after another.
use Rattle.std.proofs.Common.{◌≡◌, ℕ, ◌+◌, ◌<◌, List, [], ◌∷◌, ◌++◌, length, map, get_or, take, refl, sym, ap, ◌∙◌, append_assoc}
use Rattle.std.specs.Borrow.{Bor}
use Rattle.std.specs.List.{flat_map, filter_map}
use Rattle.std.proofs.lemmas.Grind.{flat_map-append}
use Rattle.std.proofs.lemmas.List.{take_more, map-append}
use Rattle.std.proofs.lemmas.List.Elements.{filter_map-append}
use Rattle.til_parser.specs.declared.ltype.AstPart.{AstPart}
use Rattle.til_parser.specs.declared.tree.AstPath.{AstPath}
use Rattle.til_parser.specs.declared.tree.AstPort.{AstPort}
use Rattle.til_parser.specs.declared.tree.AstStmt.{AstStmt}
use Rattle.til_parser.specs.Tree.{plain}
use Rattle.til_parser.proofs.PlainLemmas.{plain_parts}
use Rattle.til_resolve.specs.Names.{WrittenInstance, paths_in, paths_in_parts, paths_in_ports, instance_at}
use Rattle.til_resolve.specs.PathsWritten.{AddsPaths, seen, paths_in_list, paths_of_statements}
use Rattle.til_resolve.proofs.AgainLemmas.{append_nil}

pub paths_in-parts : (parts : List AstPart) → paths_in_parts (plain_parts parts) ≡ paths_in_list parts
paths_in-parts [] = refl
paths_in-parts (first ∷ more) = ap (λ (l : List AstPath). paths_in (plain first.ltype) ++ l) (paths_in-parts more)

pub paths_of_statements-append : (front back : List AstStmt) → paths_of_statements (front ++ back) ≡ paths_of_statements front ++ paths_of_statements back
paths_of_statements-append front back =
    let streamlet : WrittenInstance → AstPath = λ one. one.streamlet in
    ap (map streamlet) (filter_map-append instance_at front back) ∙ map-append streamlet (filter_map instance_at front) (filter_map instance_at back)

pub AddsPaths-none : (old : List (Bor AstPath)) → AddsPaths old old []
AddsPaths-none old = record { paths = sym (append_nil (seen old)) }

pub AddsPaths-push : (old new : List (Bor AstPath)) (one : Bor AstPath) → new ≡ old ++ one ∷ [] → AddsPaths old new (one.now ∷ [])
AddsPaths-push old new one is = record { paths = ap seen is ∙ map-append (λ (path : Bor AstPath). path.now) old (one ∷ []) }

pub AddsPaths-then : (old mid new : List (Bor AstPath)) (one other : List AstPath) → AddsPaths old mid one → AddsPaths mid new other → AddsPaths old new (one ++ other)
AddsPaths-then old mid new one other first second = record { paths = second.paths ∙ ap (λ (l : List AstPath). l ++ other) first.paths ∙ append_assoc (seen old) one other }

-- other paths, which are the same
pub AddsPaths-same : (old new : List (Bor AstPath)) (one other : List AstPath) → one ≡ other → AddsPaths old new one → AddsPaths old new other
AddsPaths-same old new one other same so = record { paths = so.paths ∙ ap (λ (l : List AstPath). seen old ++ l) same }

-- the paths of one thing more
grown : {X : Type 0} (of : List X → List AstPath) (xs : List X) (i : ℕ) (x : X) (old mid new : List (Bor AstPath)) → ((front back : List X) → of (front ++ back) ≡ of front ++ of back)
    → i < length xs → x ≡ get_or xs i x → AddsPaths old mid (of (take i xs)) → AddsPaths mid new (of (x ∷ [])) → AddsPaths old new (of (take (i + 1) xs))
grown {X} of xs i x old mid new splits within is so here =
    AddsPaths-same old new (of (take i xs) ++ of (x ∷ [])) (of (take (i + 1) xs))
    (sym (splits (take i xs) (x ∷ [])) ∙ ap of (sym (take_more xs i x within ∙ ap (λ (y : X). take i xs ++ y ∷ []) (sym is))))
    (AddsPaths-then old mid new (of (take i xs)) (of (x ∷ [])) so here)

more : {X : Type 0} (paths : X → List AstPath) (xs : List X) (i : ℕ) (x : X) (old mid new : List (Bor AstPath)) → i < length xs → x ≡ get_or xs i x
    → AddsPaths old mid (flat_map paths (take i xs)) → AddsPaths mid new (paths x) → AddsPaths old new (flat_map paths (take (i + 1) xs))
more paths xs i x old mid new within is so here =
    grown (flat_map paths) xs i x old mid new (flat_map-append paths) within is so
    (AddsPaths-same mid new (paths x) (flat_map paths (x ∷ [])) (sym (append_nil (paths x))) here)

pub AddsPaths-part : (parts : List AstPart) (i : ℕ) (part : AstPart) (old mid new : List (Bor AstPath)) → i < length parts → part ≡ get_or parts i part
    → AddsPaths mid new (paths_in (plain part.ltype)) → AddsPaths old mid (paths_in_list (take i parts)) → AddsPaths old new (paths_in_list (take (i + 1) parts))
AddsPaths-part parts i part old mid new within is here so = more (λ (one : AstPart). paths_in (plain one.ltype)) parts i part old mid new within is so here

pub AddsPaths-port : (ports : List AstPort) (i : ℕ) (port : AstPort) (old mid new : List (Bor AstPath)) → i < length ports → port ≡ get_or ports i port
    → AddsPaths mid new (paths_in (plain port.ltype)) → AddsPaths old mid (paths_in_ports (take i ports)) → AddsPaths old new (paths_in_ports (take (i + 1) ports))
AddsPaths-port ports i port old mid new within is here so = more (λ (one : AstPort). paths_in (plain one.ltype)) ports i port old mid new within is so here

pub AddsPaths-statement : (stmts : List AstStmt) (i : ℕ) (stmt : AstStmt) (old mid new : List (Bor AstPath)) → i < length stmts → stmt ≡ get_or stmts i stmt
    → AddsPaths mid new (paths_of_statements (stmt ∷ [])) → AddsPaths old mid (paths_of_statements (take i stmts)) → AddsPaths old new (paths_of_statements (take (i + 1) stmts))
AddsPaths-statement stmts i stmt old mid new within is here so = grown paths_of_statements stmts i stmt old mid new paths_of_statements-append within is so here
