-- The first port of a project of which two physical streams have one path (this project's own): its type is not split.
use Rattle.std.specs.Prelude.{◌≡◌, ⊤, ℕ, List, [], ◌∷◌, Option, Some, None, Result, Ok, Err}
use Rattle.std.specs.Option.{option_or}
use Rattle.til_resolve.specs.PlainProject.{PlainPort, PlainStreamlet}
use Rattle.type_split.specs.Streams.{clash_of}
use Rattle.link_check.specs.declared.nets.ImplNets.{ImplNets}
use Rattle.vhdl_text.specs.declared.arch.Arch.{Arch}
use Rattle.vhdl_writer.specs.Architecture.{architectures}
use Rattle.vhdl_writer.specs.declared.fault.ArchFault.{ArchFault}
use Rattle.vhdl_writer.specs.declared.fault.ArchFault.TheVariants as faults

-- the path on which streams of the first of these ports clash that has such
abbrev pub clash_in : List PlainPort → Option (List (List ℕ))
clash_in [] = None
clash_in (port ∷ more) = option_or (clash_of port.ltype) (clash_in more)

-- the same of streamlets, whose ports stand in text order
abbrev pub first_clash : List PlainStreamlet → Option (List (List ℕ))
first_clash [] = None
first_clash (one ∷ more) = option_or (clash_in one.ports) (first_clash more)

-- where there is a clash it is reported, and else the value is good. Want of memory says nothing.
abbrev pub Splits : {A : Type 0} → Option (List (List ℕ)) → (A → Type 0) → Result A ArchFault → Type 0
Splits clash Good (Ok value) = (clash ≡ None) × Good value
Splits clash Good (Err (faults.NameClash path)) = clash ≡ Some path
Splits clash Good (Err faults.Memory) = ⊤

-- the architectures of a project with these nets, or the path of the first clash
abbrev pub AreArchitectures : List PlainStreamlet → List ImplNets → Result (List Arch) ArchFault → Type 0
AreArchitectures streamlets impls = Splits (first_clash streamlets) (λ archs. archs ≡ architectures streamlets impls)
