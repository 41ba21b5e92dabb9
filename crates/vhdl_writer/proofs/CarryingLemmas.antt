-- Under the assignments of an architecture, the trace at the receiving ends of a net is the carried one.
use Rattle.std.proofs.Common.{◌≡◌, ℕ, ◌<◌, List, [], ◌∷◌, ◌++◌, length, map, Contains, slice_get, slice_index_or, Some, refl, sym, ap, ◌∙◌}
use Rattle.std.specs.List.{All, flat_map}
use Rattle.std.proofs.lemmas.List.Elements.{All-contains, All-head, All-tail, Contains-get_or}
use Rattle.physical_stream.specs.Cycles.{Cycle}
use Rattle.physical_stream.specs.declared.head.Head.{Head}
use Rattle.cycle_trace.specs.Trace.{TraceText}
use Rattle.til_resolve.specs.PlainProject.{PlainStreamlet}
use Rattle.til_resolve.specs.SoundProject.{instances_inside}
use Rattle.link_check.specs.Checked.{AreNets}
use Rattle.link_check.specs.declared.nets.Net.{Net}
use Rattle.link_check.specs.declared.nets.Nets.{Nets}
use Rattle.vhdl_text.specs.declared.arch.ArchSet.{ArchSet}
use Rattle.vhdl_writer.specs.Architecture.{Channel, EndStream, channels_in, nets_of, sets_of_channel, sets_of_net}
use Rattle.vhdl_writer.specs.Components.{component_of}
use Rattle.vhdl_writer.specs.Laws.{IsKept, MayDrive, Words, cycle_at}
use Rattle.vhdl_writer.specs.WiringLaws.{CheckedNetsCarry, rows_at, sets_inside}
use Rattle.vhdl_writer.proofs.ApartLemmas.{Contains-first, Contains-flat_in, Contains-later}
use Rattle.vhdl_writer.proofs.CarriedLemmas.{carried}
use Rattle.vhdl_writer.proofs.ChannelLemmas.{nets-driven}

-- a fact of all things of a list, from that of each
all-from : {A : Type 0} (P : A → Type 0) (xs : List A) → ((x : A) → Contains xs x → P x) → All P xs
all-from P xs each = λ k d within. each (slice_index_or xs k d) (Contains-get_or xs k d within)

mapped-same : {A B : Type 0} (f g : A → B) (xs : List A) → ((x : A) → Contains xs x → f x ≡ g x) → map f xs ≡ map g xs
mapped-same f g [] same = refl
mapped-same {A} {B} f g (x ∷ xs) same =
    ap (λ (y : B). y ∷ map f xs) (same x (Contains-first x xs)) ∙ ap (λ (l : List B). g x ∷ l) (mapped-same f g xs (λ y there. same y (Contains-later x xs y there)))

mapped-twice : {A B C : Type 0} (f : B → C) (g : A → B) (xs : List A) → map f (map g xs) ≡ map (λ x. f (g x)) xs
mapped-twice f g [] = refl
mapped-twice f g (x ∷ xs) = ap (λ l. f (g x) ∷ l) (mapped-twice f g xs)

module _ (streamlets : List PlainStreamlet) (nets : Nets) (are : AreNets streamlets nets) (number : ℕ) (one : PlainStreamlet) (at : slice_get streamlets number ≡ Some one)
    (net : Net) (there : Contains (nets_of nets.impls number) net) where
  -- a cycle of one stream
  cycle-arrives : (words : Words) → All (IsKept words) (sets_inside streamlets nets.impls number one) → (channel : Channel)
      → Contains (channels_in (map component_of streamlets) number (instances_inside one.body) net) channel → cycle_at words channel.receiving ≡ cycle_at words channel.sending
  cycle-arrives words kept channel inside =
      carried words channel
      (All-contains (λ (c : Channel). MayDrive c.sending.stream.params c.receiving.stream.params) (channels_in (map component_of streamlets) number (instances_inside one.body) net) channel
      (nets-driven streamlets nets are number one at net there).may inside)
      (all-from (IsKept words) (sets_of_channel channel) (λ set here.
      All-contains (IsKept words) (sets_inside streamlets nets.impls number one) set kept
      (Contains-flat_in (sets_of_net (map component_of streamlets) number (instances_inside one.body)) (nets_of nets.impls number) net set there
      (Contains-flat_in sets_of_channel (channels_in (map component_of streamlets) number (instances_inside one.body) net) channel set inside here))))

  -- the rows of all
  rows-arrive : (steps : List Words) → All (λ (words : Words). All (IsKept words) (sets_inside streamlets nets.impls number one)) steps
      → rows_at (map (λ (c : Channel). c.receiving) (channels_in (map component_of streamlets) number (instances_inside one.body) net)) steps
      ≡ rows_at (map (λ (c : Channel). c.sending) (channels_in (map component_of streamlets) number (instances_inside one.body) net)) steps
  rows-arrive [] kept = refl
  rows-arrive (words ∷ more) kept = both
      (mapped-twice (cycle_at words) (λ (c : Channel). c.receiving) (channels_in (map component_of streamlets) number (instances_inside one.body) net)
      ∙ mapped-same (λ (c : Channel). cycle_at words c.receiving) (λ (c : Channel). cycle_at words c.sending) (channels_in (map component_of streamlets) number (instances_inside one.body) net)
      (cycle-arrives words (All-head (λ (w : Words). All (IsKept w) (sets_inside streamlets nets.impls number one)) words more kept))
      ∙ sym (mapped-twice (cycle_at words) (λ (c : Channel). c.sending) (channels_in (map component_of streamlets) number (instances_inside one.body) net)))
      (rows-arrive more (All-tail (λ (w : Words). All (IsKept w) (sets_inside streamlets nets.impls number one)) words more kept))
    where
      both : {a b c d : List Cycle} → a ≡ b → c ≡ d → a ++ c ≡ b ++ d
      both {a} {b} {c} {d} e f = ap (λ l. l ++ c) e ∙ ap (λ l. b ++ l) f

pub nets-carry : CheckedNetsCarry
nets-carry streamlets nets are number one at net there steps kept from to =
    ap (λ (rows : List Cycle). record { cycles = length steps; heads = to; rows = rows }) (rows-arrive streamlets nets are number one at net there steps kept)
