-- The ports of a streamlet are those of the declaration that writes them.
use Rattle.std.proofs.Common.{◌≡◌, ℕ, ◌<◌, nat_lt, ◌&&◌, ◌||◌, List, [], ◌∷◌, length, map, Option, Some, refl, ap, ◌∙◌}
use Rattle.std.specs.Str.{bytes_eq}
use Rattle.std.proofs.lemmas.Bool.{lt-ltb}
use Rattle.til_parser.specs.declared.tree.AstKind.{AstKind}
use Rattle.til_parser.specs.declared.tree.AstKind.TheVariants as decls
use Rattle.til_parser.specs.declared.tree.AstName.{AstName}
use Rattle.til_parser.specs.declared.tree.AstPort.{AstPort}
use Rattle.til_parser.specs.declared.tree.AstPorts.TheVariants as ports
use Rattle.til_resolve.specs.Declarations.{Declaration, declaration, own_ports, ports_of, ports_of_number}
use Rattle.til_resolve.specs.Names.{has_port}
use Rattle.til_resolve.specs.Ports.{is_port_name, owner_by, owner_of}

-- ports by their names, whatever namespace they stand in
named_ports : (space : List (List ℕ)) (listed : List AstPort) (name : List ℕ) → is_port_name listed name ≡ has_port (map (λ port. record { space = space; port = port }) listed) name
named_ports space [] name = refl
named_ports space (x ∷ xs) name = ap (λ b. bytes_eq x.name.name name || b) (named_ports space xs name)

owned : (all : List Declaration) (number owner : ℕ) (name : List ℕ) (space : List (List ℕ)) (own : AstName) (kind : AstKind)
    → declaration all number ≡ record { space = space; name = own; kind = kind } → Some owner ≡ owner_by all number space kind
    → is_port_name (own_ports (declaration all owner).kind) name ≡ has_port (ports_of all (record { space = space; name = own; kind = kind })) name
owned all number owner name space own (decls.Alias ltype) is of = cc
owned all number owner name space own (decls.Interface listed) is of = cc
owned all number owner name space own (decls.Streamlet (ports.Own listed)) is of =
    let same : owner ≡ number = cc in
    ap (λ n. is_port_name (own_ports (declaration all n).kind) name) same ∙ ap (λ (d : Declaration). is_port_name (own_ports d.kind) name) is ∙ named_ports space listed name
owned all number owner name space own (decls.Streamlet (ports.Named path)) is of =
    named_ports (declaration all owner).space (own_ports (declaration all owner).kind) name ∙ ap (λ (o : Option ℕ). has_port (ports_of_number all o) name) of
owned all number owner name space own (decls.Impl target body) is of = cc
owned all number owner name space own (decls.Test target port value plan) is of = cc

pub has_port-owner : (all : List Declaration) (number owner : ℕ) (name : List ℕ) → Some owner ≡ owner_of all number → owner < length all
    → (nat_lt owner (length all) && is_port_name (own_ports (declaration all owner).kind) name) ≡ has_port (ports_of all (declaration all number)) name
has_port-owner all number owner name of within =
    let one = declaration all number in
    ap (λ b. b && is_port_name (own_ports (declaration all owner).kind) name) (lt-ltb owner (length all) within)
    ∙ owned all number owner name one.space one.name one.kind refl of
