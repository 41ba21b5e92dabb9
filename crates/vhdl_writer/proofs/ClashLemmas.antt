-- The clash that is reported.
use Rattle.std.proofs.Common.{◌≡◌, ◌∙◌, ℕ, List, [], ◌∷◌, Option, None, Some, option_map, refl, sym, ap}
use Rattle.std.specs.Option.{option_or}
use Rattle.til_resolve.specs.PlainProject.{PlainPort}
use Rattle.type_split.specs.Streams.{clash_of}
use Rattle.vhdl_writer.specs.Clashes as reported
use Rattle.vhdl_writer.specs.PortClashes.{FirstClashIsReported, clash_in, first_clash}
use Rattle.vhdl_writer.specs.declared.clash.Clash.{Clash}

mapped-or : {A B : Type 0} (change : A → B) (one other : Option A) → option_map change (option_or one other) ≡ option_or (option_map change one) (option_map change other)
mapped-or change None other = refl
mapped-or change (Some one) other = refl

in-reported : (streamlet : List (List ℕ)) (ports : List PlainPort) → reported.clash_in ports ≡ option_map (λ (clash : Clash). clash.path) (clash_in streamlet ports)
in-reported streamlet [] = refl
in-reported streamlet (port ∷ more) = by (clash_of port.ltype) (in-reported streamlet more)
  where
    by : (found : Option (List (List ℕ))) → reported.clash_in more ≡ option_map (λ (clash : Clash). clash.path) (clash_in streamlet more) → option_or found (reported.clash_in more)
        ≡ option_map (λ (clash : Clash). clash.path) (option_or (option_map (λ path. record { streamlet = streamlet; port = port.name; path = path }) found) (clash_in streamlet more))
    by None rest = rest
    by (Some path) rest = refl

pub first-reported : FirstClashIsReported
first-reported [] = refl
first-reported (one ∷ more) =
    ap (λ (o : Option (List (List ℕ))). option_or o (reported.first_clash more)) (in-reported one.path one.ports)
    ∙ ap (option_or (option_map (λ (clash : Clash). clash.path) (clash_in one.path one.ports))) (first-reported more)
    ∙ sym (mapped-or (λ (clash : Clash). clash.path) (clash_in one.path one.ports) (first_clash more))
