-- The heads of a trace between two leaf ports that words name: there are some, or a line that refuses the words, and only one of these.
use Rattle.std.proofs.Common.{◌≡◌, ◌≢◌, ◌∙◌, ℕ, zero, suc, inl, inr, List, [], ◌∷◌, ◌++◌, Option, Some, None, option_and_then}
use Rattle.std.proofs.Common.{option_map, Result, Ok, Err, Contains, refl, sym, ap, subst, arith}
use Rattle.std.specs.List.{slice_get}
use Rattle.physical_stream.specs.declared.head.Head.{Head}
use Rattle.std.specs.Str.{bytes_eq}
use Rattle.til_resolve.specs.PlainProject.{PlainPort, PlainProject, PlainStreamlet}
use Rattle.til_resolve.specs.PortTypes.{IsPortType}
use Rattle.til_resolve.proofs.PortTypeLemmas.{Contains-found}
use Rattle.til_resolve.specs.SoundProject.{IsSoundProject}
use Rattle.type_split.specs.Streams.{clash_of}
use Rattle.link_check.specs.Carriers.{CanRise}
use Rattle.link_check.specs.Carry.{heads_from, heads_of_port, heads_to}
use Rattle.link_check.specs.CarryLaws.{ChainsKeepTypes, CompatiblePortsRise, HaveTypes, port_at}
use Rattle.link_check.specs.Chains.{streamlet_under}
use Rattle.link_check.specs.Ends.{port_named, ports_at, ports_found}
use Rattle.link_check.specs.Checked.{linked}
use Rattle.link_check.specs.Laws.{AnswersAreOfTheProject}
use Rattle.link_check.specs.declared.end_heads.EndHeads.{EndHeads}
use Rattle.link_check.specs.declared.fault.LinkFault.{LinkFault}
use Rattle.link_check.specs.declared.fault.LinkFault.TheVariants as linking
use Rattle.link_check.specs.declared.leaf.LeafPort.{LeafPort}
use Rattle.link_check.specs.declared.nets.Nets.{Nets}
use Rattle.tydi_tool.specs.Designs.{AreJoined, DesignWords, FindsHeads, HasClash, HasHeads, HasNoClash, HeadsByNets, HeadsByTop, HeadsUnder, ReadsDesign}
use Rattle.tydi_tool.specs.Designs.{further_down, leaf_at, leaf_by, no_path, no_streamlet, top_at}
use Rattle.tydi_tool.specs.Laws.{HasSome, ReadsOnce}
use Rattle.tydi_tool.specs.Links.{refusal_of_linking}
use Rattle.tydi_tool.specs.Projects.{ReadsProject}
use Rattle.tydi_tool.specs.Reading.{RefusesBy}
use Rattle.tydi_tool.specs.Refusals.{name_clash, refusal_line}
use Rattle.tydi_tool.proofs.AnswerLemmas.{RefusesBy-line, not_read}
use Rattle.tydi_tool.proofs.FormLemmas.{IsPortFormed}
use Rattle.tydi_tool.proofs.ProjectLemmas.{ReadsBy-once, ReadsBy-some, ReadsProject-once, ReadsProject-some, StepsOnce}

-- ---- words

pub leaf-last : (top : ℕ) (outer : List (List ℕ)) (name : List ℕ)
    → leaf_by top (outer ++ name ∷ []) ≡ Some (record { top = top; instances = outer; port = name })
leaf-last top [] name = refl
leaf-last top (first ∷ []) name = refl
leaf-last top (first ∷ next ∷ more) name = ap (option_map (further_down first)) (leaf-last top (next ∷ more) name)

-- ---- one

some-same : {A : Type 0} (one other : A) → ◌≡◌ {A = Option A} (Some one) (Some other) → one ≡ other
some-same one other e = cc

ok-line : {A : Type 0} (a : A) (line : List ℕ) → ◌≡◌ {A = Result A (List ℕ)} (Ok a) (Err line) → ⊥
ok-line a line e = cc

err-same : {A : Type 0} (one other : List ℕ) → ◌≡◌ {A = Result A (List ℕ)} (Err one) (Err other) → one ≡ other
err-same one other e = cc

abbrev ends_made : (from to : List Head) → EndHeads
ends_made from to = record { from = from; to = to }

heads-made : (one other : EndHeads) → one.from ≡ other.from → one.to ≡ other.to → one ≡ other
heads-made one other from to = ap (λ (l : List Head). ends_made l one.to) from ∙ ap (ends_made other.from) to

module _ (streamlets : List PlainStreamlet) where
  -- the ports at two leaf ports that are found by one name are one
  same-port : (one other : LeafPort) (a b : PlainPort) → one ≡ other → port_at streamlets one ≡ Some a → port_at streamlets other ≡ Some b → a ≡ b
  same-port one other a b same here there = some-same a b (sym here ∙ ap (port_at streamlets) same ∙ there)

  same-clash : (leaf : Option LeafPort) (one other : List (List ℕ)) → HasClash streamlets leaf one → HasClash streamlets leaf other → one ≡ other
  same-clash leaf one other x y =
      let source : x.source ≡ y.source = some-same x.source y.source (sym x.named ∙ y.named) in
      let port : x.port ≡ y.port = same-port x.source y.source x.port y.port source x.there y.there in
      some-same one other (sym x.clash ∙ ap (λ (p : PlainPort). clash_of p.ltype) port ∙ y.clash)

  same-heads : (nets : Nets) (from to : Option LeafPort) (one other : EndHeads) → HasHeads streamlets nets from to one
      → HasHeads streamlets nets from to other → one ≡ other
  same-heads nets from to one other x y =
      let source : x.joined.source ≡ y.joined.source = some-same x.joined.source y.joined.source (sym x.joined.source_is ∙ y.joined.source_is) in
      let sink : x.joined.sink ≡ y.joined.sink = some-same x.joined.sink y.joined.sink (sym x.joined.sink_is ∙ y.joined.sink_is) in
      let first : x.types.one ≡ y.types.one = same-port x.joined.source y.joined.source x.types.one y.types.one source x.types.here y.types.here in
      let last : x.types.other ≡ y.types.other = same-port x.joined.sink y.joined.sink x.types.other y.types.other sink x.types.there y.types.there in
      heads-made one other (x.between.from ∙ alike first last (λ (a b : PlainPort). heads_from (heads_of_port a.ltype) (heads_of_port b.ltype))
      ∙ sym y.between.from)
      (x.between.to ∙ alike first last (λ (a b : PlainPort). heads_to (heads_of_port a.ltype) (heads_of_port b.ltype)) ∙ sym y.between.to)
    where
      alike : {a b c d : PlainPort} → a ≡ b → c ≡ d → (make : PlainPort → PlainPort → List Head) → make a c ≡ make b d
      alike {a} {b} {c} {d} x y make = ap (λ (p : PlainPort). make p c) x ∙ ap (make b) y

module _ (words : DesignWords) (streamlets : List PlainStreamlet) where
  nets-same : (top : ℕ) (found : Result Nets LinkFault) (one other : EndHeads) → HeadsByNets words streamlets top found (Ok one)
      → HeadsByNets words streamlets top found (Ok other) → one ≡ other
  nets-same top (Ok nets) one other x y = same-heads streamlets nets (leaf_at top words.from) (leaf_at top words.to) one other x y
  nets-same top (Err fault) one other x y = absurd (not_read (refusal_of_linking words.project fault) one x)

  nets-apart : (top : ℕ) (found : Result Nets LinkFault) (one : EndHeads) (line : List ℕ) → HeadsByNets words streamlets top found (Ok one)
      → HeadsByNets words streamlets top found (Err line) → ⊥
  nets-apart top (Ok nets) one line x y = y.0 x.joined
  nets-apart top (Err fault) one line x y = not_read (refusal_of_linking words.project fault) one x

  nets-lines : (top : ℕ) (found : Result Nets LinkFault) (one other : List ℕ) → HeadsByNets words streamlets top found (Err one)
      → HeadsByNets words streamlets top found (Err other) → one ≡ other
  nets-lines top (Ok nets) one other x y = x.1 ∙ sym y.1
  nets-lines top (Err fault) one other x y = RefusesBy-line EndHeads (refusal_of_linking words.project fault) one other x y

  top-same : (top : Option ℕ) (one other : EndHeads) → HeadsByTop words streamlets top (Ok one) → HeadsByTop words streamlets top (Ok other) → one ≡ other
  top-same None one other x y = absurd (ok-line one _ x)
  top-same (Some top) one other x y = nets-same top (linked streamlets) one other x.1 y.1

  top-apart : (top : Option ℕ) (one : EndHeads) (line : List ℕ) → HeadsByTop words streamlets top (Ok one) → HeadsByTop words streamlets top (Err line) → ⊥
  top-apart None one line x y = ok-line one _ x
  top-apart (Some top) one line x (inl clash) = x.0 clash.path clash.clash
  top-apart (Some top) one line x (inr y) = nets-apart top (linked streamlets) one line x.1 y.1

  top-lines : (top : Option ℕ) (one other : List ℕ) → HeadsByTop words streamlets top (Err one) → HeadsByTop words streamlets top (Err other) → one ≡ other
  top-lines None one other x y = err-same {A = EndHeads} one other (x ∙ sym y)
  top-lines (Some top) one other (inl x) (inl y) =
      x.is ∙ ap (λ (path : List (List ℕ)). refusal_line (name_clash path)) (same-clash streamlets (leaf_at top words.from) x.path y.path x.clash y.clash)
      ∙ sym y.is
  top-lines (Some top) one other (inl x) (inr y) = absurd (y.0 x.path x.clash)
  top-lines (Some top) one other (inr x) (inl y) = absurd (x.0 y.path y.clash)
  top-lines (Some top) one other (inr x) (inr y) = nets-lines top (linked streamlets) one other x.1 y.1

finds-once : (words : DesignWords) → StepsOnce (ReadsProject words.project) (FindsHeads words)
finds-once words = record {
  same = λ bytes read one other reads x y. top-same words read.streamlets (top_at read.streamlets words.top) one other x y;
  apart = λ bytes read one line reads x y. top-apart words read.streamlets (top_at read.streamlets words.top) one line x y;
  lines = λ bytes read one other reads x y. top-lines words read.streamlets (top_at read.streamlets words.top) one other x y;
}

pub ReadsDesign-once : (words : DesignWords) → ReadsOnce (ReadsDesign words)
ReadsDesign-once words = ReadsBy-once (ReadsProject words.project) (FindsHeads words) (ReadsProject-once words.project) (finds-once words)

-- ---- some

link-refusal : (word : List ℕ) (fault : LinkFault) → fault ≢ linking.Memory
    → (line : List ℕ) × RefusesBy {X = EndHeads} (refusal_of_linking word fault) (Err line)
link-refusal word (linking.UnknownEnd place) real = (_, refl)
link-refusal word (linking.SameSide place) real = (_, refl)
link-refusal word (linking.NotCompatible place difference) real = (_, refl)
link-refusal word (linking.LinkedTwice place) real = (_, refl)
link-refusal word (linking.Unlinked place) real = (_, refl)
link-refusal word linking.DesignTooLarge real = (_, refl)
link-refusal word linking.Memory real = absurd (real refl)

module _ (checks : AnswersAreOfTheProject) (chains : ChainsKeepTypes) (words : DesignWords) (streamlets : List PlainStreamlet) where
  heads-there : (nets : Nets) (from to : Option LeafPort) → linked streamlets ≡ Ok nets → AreJoined streamlets nets from to
      → (heads : EndHeads) × HasHeads streamlets nets from to heads
  heads-there nets from to are joined =
      let types : HaveTypes streamlets joined.source joined.sink = chains streamlets nets are joined.source joined.sink joined.leads in
      let source = heads_of_port types.one.ltype in
      let sink = heads_of_port types.other.ltype in (
        record { from = heads_from source sink; to = heads_to source sink },
        record {
          joined = joined;
          types = types;
          between = record
              { from = refl; to = refl };
        },
      )

  nets-some : (top : ℕ) (found : Result Nets LinkFault) → linked streamlets ≡ found
      → HasSome (Result EndHeads (List ℕ)) (HeadsByNets words streamlets top found)
  nets-some top (Ok nets) is none = none (Err (refusal_line (no_path words.from words.to))) (not_joined, refl)
    where
      not_joined : AreJoined streamlets nets (leaf_at top words.from) (leaf_at top words.to) → ⊥
      not_joined joined = let there = heads-there nets (leaf_at top words.from) (leaf_at top words.to) is joined in none (Ok there.0) there.1
  nets-some top (Err fault) is none = let refusal = link-refusal words.project fault (λ same. checks streamlets (is
      ∙ ap Err same)) in none (Err refusal.0) refusal.1

  under-some : (top : ℕ) → HasSome (Result EndHeads (List ℕ)) (HeadsUnder words streamlets top)
  under-some top none = nets-some top (linked streamlets) refl by
    where
      apart : HasNoClash streamlets (leaf_at top words.from)
      apart path clash = none (Err (refusal_line (name_clash path))) (inl (record { path = path; clash = clash; is = refl }))

      by : (read : Result EndHeads (List ℕ)) → HeadsByNets words streamlets top (linked streamlets) read → ⊥
      by (Ok heads) x = none (Ok heads) (apart, x)
      by (Err line) x = none (Err line) (inr (apart, x))

  top-some : (top : Option ℕ) → HasSome (Result EndHeads (List ℕ)) (HeadsByTop words streamlets top)
  top-some None none = none (Err (refusal_line (no_streamlet words.top))) refl
  top-some (Some top) none = under-some top none

pub ReadsDesign-some : AnswersAreOfTheProject → ChainsKeepTypes → (words : DesignWords) (bytes : List ℕ)
    → HasSome (Result EndHeads (List ℕ)) (ReadsDesign words bytes)
ReadsDesign-some checks chains words bytes =
    ReadsBy-some (ReadsProject words.project) (FindsHeads words) bytes (ReadsProject-some words.project bytes)
    (λ read reads. top-some checks chains words read.streamlets (top_at read.streamlets words.top))

-- ---- the heads of a design that is read

-- between leaf ports that are joined no level falls
rise-between : CompatiblePortsRise → (streamlets : List PlainStreamlet) (nets : Nets) (from to : Option LeafPort) (heads : EndHeads)
    → HasHeads streamlets nets from to heads → CanRise heads.from heads.to
rise-between ports streamlets nets from to heads has =
    let rise = ports has.types.one.ltype has.types.other.ltype has.types.compatible in
    let source = heads_of_port has.types.one.ltype in
    let sink = heads_of_port has.types.other.ltype in
    subst (λ (l : List Head). CanRise l heads.to) (sym has.between.from)
    (subst (CanRise (heads_from source sink)) (sym has.between.to) (record { alike = rise.alike; rise = rise.rise }))

-- the leaf ports that are joined are found
pub found-heads : (words : DesignWords) (read : PlainProject) (heads : EndHeads) → FindsHeads words read (Ok heads)
    → (top : ℕ) × ((nets : Nets) × ((top_at read.streamlets words.top ≡ Some top) × ((linked read.streamlets ≡ Ok nets) × HasHeads read.streamlets nets
    (leaf_at top words.from) (leaf_at top words.to) heads)))
found-heads words read heads finds = by_top (top_at read.streamlets words.top) refl finds
  where
    by_nets : (top : ℕ) (found : Result Nets LinkFault) → top_at read.streamlets words.top ≡ Some top → linked read.streamlets ≡ found
        → HeadsByNets words read.streamlets top found (Ok heads)
        → (top : ℕ) × ((nets : Nets) × ((top_at read.streamlets words.top ≡ Some top) × ((linked read.streamlets ≡ Ok nets) × HasHeads read.streamlets nets
        (leaf_at top words.from) (leaf_at top words.to) heads)))
    by_nets top (Ok nets) named is has = (top, (nets, (named, (is, has))))
    by_nets top (Err fault) named is has = absurd (not_read (refusal_of_linking words.project fault) heads has)

    by_top : (top : Option ℕ) → top_at read.streamlets words.top ≡ top → HeadsByTop words read.streamlets top (Ok heads)
        → (top : ℕ) × ((nets : Nets) × ((top_at read.streamlets words.top ≡ Some top) × ((linked read.streamlets ≡ Ok nets) × HasHeads read.streamlets nets
        (leaf_at top words.from) (leaf_at top words.to) heads)))
    by_top None named finds = absurd (ok-line heads _ finds)
    by_top (Some top) named finds = by_nets top (linked read.streamlets) named refl finds.1

pub design-rises : CompatiblePortsRise → (words : DesignWords) (bytes : List ℕ) (heads : EndHeads) → ReadsDesign words bytes (Ok heads)
    → CanRise heads.from heads.to
design-rises ports words bytes heads reads =
    let found = found-heads words reads.0 heads reads.1.1 in
    rise-between ports reads.0.streamlets found.1.0 (leaf_at found.0 words.from) (leaf_at found.0 words.to) heads found.1.1.1.1

-- ---- the port at a leaf port

slice_get-contains : {A : Type 0} (xs : List A) (i : ℕ) (x : A) → slice_get xs i ≡ Some x → Contains xs x
slice_get-contains [] i x is = absurd cc
slice_get-contains (y ∷ xs) zero x is = let same : y ≡ x = cc in (0, omega arith, same)
slice_get-contains (y ∷ xs) (suc i) x is = let there = slice_get-contains xs i x is in (suc there.0, omega (arith, there.1), there.2)

name-found : (name : List ℕ) (ports : List PlainPort) (port : PlainPort) → port_named ports name ≡ Some port → Contains ports port
name-found name ports port found = Contains-found (λ (one : PlainPort). bytes_eq one.name name) ports port found

-- what holds of each port of a project holds of it
pub leaf-holds : (P : PlainPort → Type 0) (streamlets : List PlainStreamlet) (leaf : LeafPort) (port : PlainPort)
    → ((streamlet : PlainStreamlet) (one : PlainPort) → Contains streamlets streamlet → Contains streamlet.ports one → P one)
    → port_at streamlets leaf ≡ Some port → P port
leaf-holds P streamlets leaf port each there = by_number (streamlet_under streamlets leaf.top leaf.instances) there
  where
    by_streamlet : (number : ℕ) (found : Option PlainStreamlet) → slice_get streamlets number ≡ found → port_named (ports_found found) leaf.port ≡ Some port
        → P port
    by_streamlet number None is named = absurd cc
    by_streamlet number (Some streamlet) is named = each streamlet port (slice_get-contains streamlets number streamlet is)
        (name-found leaf.port streamlet.ports port named)

    by_number : (number : Option ℕ) → option_and_then (λ n. port_named (ports_at streamlets n) leaf.port) number ≡ Some port → P port
    by_number None named = absurd cc
    by_number (Some number) named = by_streamlet number (slice_get streamlets number) refl named

pub leaf-formed : (streamlets : List PlainStreamlet) (leaf : LeafPort) (port : PlainPort)
    → ((streamlet : PlainStreamlet) (one : PlainPort) → Contains streamlets streamlet → Contains streamlet.ports one → IsPortFormed one.ltype)
    → port_at streamlets leaf ≡ Some port → IsPortFormed port.ltype
leaf-formed streamlets leaf port each there = leaf-holds (λ (one : PlainPort). IsPortFormed one.ltype) streamlets leaf port each there

pub leaf-typed : (project : PlainProject) → IsSoundProject project → (leaf : LeafPort) (port : PlainPort) → port_at project.streamlets leaf ≡ Some port
    → IsPortType port.ltype
leaf-typed project sound leaf port there = leaf-holds (λ (one : PlainPort). IsPortType one.ltype) project.streamlets leaf port sound.types.each there
