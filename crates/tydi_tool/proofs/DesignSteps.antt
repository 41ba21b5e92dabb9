-- The steps that lead to the heads between two leaf ports, as the code takes them.
use Rattle.std.proofs.Common.{◌≡◌, ◌≢◌, ◌∙◌, ℕ, suc, ◌+◌, ◌++◌, inl, inr, Bool, true, false, cond, not, ◌&&◌, nat_eq, nat_lt, Decides, List, [], ◌∷◌, length, map, Option, Some, None, Result, Ok, Err, IfOk, refl, sym, ap, subst}
use Rattle.std.specs.Cmp.{unsigned_Decides}
use Rattle.std.specs.Cmp.Lexicographic.{bytes_decides, pointwise_decides}
use Rattle.std.specs.List.{position, position_or_len}
use Rattle.std.specs.Prelude.{option_and_then}
use Rattle.std.specs.Str.{bytes_eq}
use Rattle.tydi_base.specs.Path.{path_at}
use Rattle.til_resolve.specs.Paths.{is_same_path}
use Rattle.logical_types.specs.Tree.{Ltype}
use Rattle.til_resolve.specs.PlainProject.{PlainPort, PlainProject, PlainStreamlet}
use Rattle.type_split.specs.Streams.{PlainSplit, clash_of, split_of}
use Rattle.link_check.specs.Carriers.{AreBetween}
use Rattle.link_check.specs.Carry.{heads_of_port}
use Rattle.link_check.specs.CarryLaws.{HaveTypes, port_at}
use Rattle.link_check.specs.Compatible.{Compatible}
use Rattle.link_check.specs.Chains.{IsLeafSource, IsSinkOf, LeadsToSink}
use Rattle.link_check.specs.Checked.{AreNets, linked}
use Rattle.link_check.specs.Laws.{ChainsEndInOneSink}
use Rattle.link_check.specs.declared.end_heads.EndHeads.{EndHeads}
use Rattle.link_check.specs.declared.fault.LinkFault.{LinkFault}
use Rattle.link_check.specs.declared.fault.LinkFault.TheVariants as linking
use Rattle.link_check.specs.declared.leaf.LeafPort.{LeafPort}
use Rattle.link_check.specs.declared.nets.Nets.{Nets}
use Rattle.tydi_tool.specs.declared.answer.Answer.TheVariants as answers
use Rattle.tydi_tool.specs.declared.answer.Reply.{Reply}
use Rattle.tydi_tool.specs.declared.answer.Reply.TheVariants as replies
use Rattle.tydi_tool.specs.Designs.{AreJoined, ClashRead, DesignWords, FindsHeads, HasClash, HasHeads, HasNoClash, HeadsBetween, HeadsByNets, HeadsByTop, HeadsOfStreams, HeadsOfTypes, HeadsUnder, ReadsDesign, TellsClash, is_same_leaf, leaf_at, leaf_by, no_path, no_streamlet, top_at}
use Rattle.tydi_tool.specs.Links.{refusal_of_linking}
use Rattle.tydi_tool.specs.Ports.{split_unless}
use Rattle.tydi_tool.specs.Projects.{ReadsProject}
use Rattle.tydi_tool.specs.Reading.{IsRefusedBy, ReadsAs, RefusesBy, refusal_in}
use Rattle.tydi_tool.specs.Refusals.{Refusal, name_clash, refusal_line}
use Rattle.tydi_tool.proofs.DesignLemmas.{leaf-last}

-- ---- places and names

length-over : {A B : Type 0} (f : A → B) (xs : List A) → length (map f xs) ≡ length xs
length-over f [] = refl
length-over f (x ∷ xs) = ap suc (length-over f xs)

first-over : {A B : Type 0} (f : A → B) (p : B → Bool) (xs : List A) → position_or_len p (map f xs) ≡ position_or_len (λ x. p (f x)) xs
first-over f p [] = refl
first-over f p (x ∷ xs) = ap (λ (n : ℕ). cond (not (p (f x))) (1 + n) 0) (first-over f p xs)

pub position-over : {A B : Type 0} (f : A → B) (p : B → Bool) (xs : List A) → position p (map f xs) ≡ position (λ x. p (f x)) xs
position-over f p xs =
    ap (λ (n : ℕ). cond (nat_lt n (length (map f xs))) (Some n) None) (first-over f p xs)
    ∙ ap (λ (n : ℕ). cond (nat_lt (position_or_len (λ x. p (f x)) xs) n) (Some (position_or_len (λ x. p (f x)) xs)) None) (length-over f xs)

both : (a b : Bool) → (a && b) ≡ true → (a ≡ true) × (b ≡ true)
both true true is = (refl, refl)
both true false is = absurd cc
both false b is = absurd cc

abbrev pub leaf_made : ℕ → List (List ℕ) → List ℕ → LeafPort
leaf_made top instances port = record { top = top; instances = instances; port = port }

one-leaf : (one other : LeafPort) → one.top ≡ other.top → one.instances ≡ other.instances → one.port ≡ other.port → one ≡ other
one-leaf one other top instances port =
    ap (λ (n : ℕ). leaf_made n one.instances one.port) top ∙ ap (λ (l : List (List ℕ)). leaf_made other.top l one.port) instances ∙ ap (leaf_made other.top other.instances) port

leaves-are : (one other : LeafPort) → is_same_leaf one other ≡ true → one ≡ other
leaves-are one other is =
    let outer = both (nat_eq one.top other.top && is_same_path one.instances other.instances) (bytes_eq one.port other.port) is in
    let inner = both (nat_eq one.top other.top) (is_same_path one.instances other.instances) outer.0 in
    one-leaf one other ((unsigned_Decides one.top other.top).0 inner.0) ((pointwise_decides bytes_decides one.instances other.instances).0 inner.1)
    ((bytes_decides one.port other.port).0 outer.1)

and : (a b : Bool) → a ≡ true → b ≡ true → (a && b) ≡ true
and true true x y = refl
and true false x y = absurd cc
and false b x y = absurd cc

leaf-itself : (one : LeafPort) → is_same_leaf one one ≡ true
leaf-itself one =
    and (nat_eq one.top one.top && is_same_path one.instances one.instances) (bytes_eq one.port one.port)
    (and (nat_eq one.top one.top) (is_same_path one.instances one.instances) ((unsigned_Decides one.top one.top).1 refl) ((pointwise_decides bytes_decides one.instances one.instances).1 refl))
    ((bytes_decides one.port one.port).1 refl)

pub not-true : (b : Bool) → b ≡ false → b ≡ true → ⊥
not-true b off on = cc

-- what a result gives where it is read
pub given : {A E : Type 0} (P : A → Type 0) (result : Result A E) (a b : A) → result ≡ Ok a → a ≡ b → IfOk result P → P b
given P result a b was is holds = subst P is (subst (λ (r : Result _ _). IfOk r P) was holds)

-- the leaf sink that was found is this one, or the nets do not lead to this one
pub joined-as : {E : Type 0} → ChainsEndInOneSink → (streamlets : List PlainStreamlet) (nets : Nets) → AreNets streamlets nets → (source end sink : LeafPort) (b : Bool)
    (result : Result (Option LeafPort) E) (found : Option LeafPort) → result ≡ Ok found → found ≡ Some end → IfOk result (IsSinkOf streamlets nets.impls source)
    → b ≡ is_same_leaf end sink → Decides b (LeadsToSink streamlets nets.impls source sink)
joined-as once streamlets nets are source end sink b result found was is sink_of same =
    let leads : LeadsToSink streamlets nets.impls source end = given (IsSinkOf streamlets nets.impls source) result found (Some end) was is sink_of in (
      λ yes. subst (LeadsToSink streamlets nets.impls source) (leaves-are end sink (sym same ∙ yes)) leads,
      λ led. same ∙ subst (λ (s : LeafPort). is_same_leaf s sink ≡ true) (once streamlets nets are source sink end led leads) (leaf-itself sink),
    )

-- the number of the streamlet of a path that was read
pub top-by : {E F : Type 0} (streamlets all : List PlainStreamlet) (word bytes : List ℕ) (path : List (List ℕ)) (read : Result (Option (List (List ℕ))) E)
    (found : Option (List (List ℕ))) (number : Result (Option ℕ) F) → all ≡ streamlets → bytes ≡ word → read ≡ Ok found → found ≡ Some path
    → IfOk read (λ f. f ≡ path_at true bytes)
    → IfOk number (λ n. n ≡ position (λ (one : PlainStreamlet). is_same_path one.path path) all) → IfOk number (λ n. n ≡ top_at streamlets word)
top-by streamlets all word bytes path read found (Ok n) whole spelled was is reads numbered =
    let one : Some path ≡ path_at true bytes = given (λ f. f ≡ path_at true bytes) read found (Some path) was is reads in
    numbered ∙ ap (λ (l : List PlainStreamlet). position (λ (one : PlainStreamlet). is_same_path one.path path) l) whole
    ∙ ap (λ (o : Option (List (List ℕ))). option_and_then (λ p. position (λ (one : PlainStreamlet). is_same_path one.path p) streamlets) o) (one ∙ ap (path_at true) spelled)
top-by streamlets all word bytes path read found (Err e) whole spelled was is reads numbered = tt

some-inside : {A : Type 0} (one other : A) → ◌≡◌ {A = Option A} (Some one) (Some other) → one ≡ other
some-inside one other e = cc

-- ---- a reading that holds of each outcome holds of this one

-- a reading that gives another
pub reads-over : {X : Type 0} (Reads Others : Result X (List ℕ) → Type 0) → ((read : Result X (List ℕ)) → Reads read → Others read) → (result : Result X Reply) → ReadsAs Reads result → ReadsAs Others result
reads-over Reads Others over (Ok x) reads = over (Ok x) reads
reads-over Reads Others over (Err (replies.Says (answers.Refused line))) reads = over (Err line) reads
reads-over Reads Others over (Err (replies.Says (answers.Verdict line))) reads = reads
reads-over Reads Others over (Err (replies.Says (answers.Done text))) reads = reads
reads-over Reads Others over (Err (replies.ReadFault line)) reads = reads
reads-over Reads Others over (Err replies.Memory) reads = tt

-- an error of one reading as an error of another, of another thing
pub error-over : {X Y : Type 0} (Reads : Result X (List ℕ) → Type 0) (Others : Result Y (List ℕ) → Type 0) → ((line : List ℕ) → Reads (Err line) → Others (Err line)) → (reply : Reply)
    → ReadsAs {X = X} Reads (Err reply) → ReadsAs {X = Y} Others (Err reply)
error-over Reads Others over (replies.Says (answers.Refused line)) reads = over line reads
error-over Reads Others over (replies.Says (answers.Verdict line)) reads = reads
error-over Reads Others over (replies.Says (answers.Done text)) reads = reads
error-over Reads Others over (replies.ReadFault line) reads = reads
error-over Reads Others over replies.Memory reads = tt

-- a refusal
pub refused-over : {X : Type 0} (Reads : Result X (List ℕ) → Type 0) (refusal : Refusal) (reply : Reply) → Reads (Err (refusal_line refusal)) → IsRefusedBy (Some refusal) reply → ReadsAs {X = X} Reads (Err reply)
refused-over {X} Reads refusal reply reads (inl says) = subst (λ (r : Reply). ReadsAs {X = X} Reads (Err r)) (sym says) reads
refused-over {X} Reads refusal reply reads (inr memory) = subst (λ (r : Reply). ReadsAs {X = X} Reads (Err r)) (sym memory) tt

pub wanted-over : {X : Type 0} (Reads : Result X (List ℕ) → Type 0) (reply : Reply) → reply ≡ replies.Memory → ReadsAs {X = X} Reads (Err reply)
wanted-over {X} Reads reply memory = subst (λ (r : Reply). ReadsAs {X = X} Reads (Err r)) (sym memory) tt

-- ---- the text of the project

pub design-read : (words : DesignWords) (bytes : List ℕ) (project : PlainProject) (result : Result EndHeads Reply) → ReadsProject words.project bytes (Ok project) → ReadsAs (FindsHeads words project) result
    → ReadsAs (ReadsDesign words bytes) result
design-read words bytes project result reads finds = reads-over (FindsHeads words project) (ReadsDesign words bytes) by result finds
  where
    by : (read : Result EndHeads (List ℕ)) → FindsHeads words project read → ReadsDesign words bytes read
    by (Ok heads) found = (project, (reads, found))
    by (Err line) found = inr (project, (reads, found))

pub design-unread : (words : DesignWords) (bytes : List ℕ) (reply : Reply) → ReadsAs {X = PlainProject} (ReadsProject words.project bytes) (Err reply) → ReadsAs {X = EndHeads} (ReadsDesign words bytes) (Err reply)
design-unread words bytes reply reads = error-over (ReadsProject words.project bytes) (ReadsDesign words bytes) (λ line refused. inl refused) reply reads

-- ---- the top

pub top-found : (words : DesignWords) (project : PlainProject) (found : Option ℕ) (result : Result EndHeads Reply) → found ≡ top_at project.streamlets words.top
    → ReadsAs (HeadsByTop words project.streamlets found) result → ReadsAs (FindsHeads words project) result
top-found words project found result is reads = subst (λ (top : Option ℕ). ReadsAs (HeadsByTop words project.streamlets top) result) is reads

pub top-missing : (words : DesignWords) (project : PlainProject) (reply : Reply) → None ≡ top_at project.streamlets words.top → IsRefusedBy (Some (no_streamlet words.top)) reply
    → ReadsAs {X = EndHeads} (FindsHeads words project) (Err reply)
top-missing words project reply none refused =
    top-found words project None (Err reply) none (refused-over {X = EndHeads} (HeadsByTop words project.streamlets None) (no_streamlet words.top) reply refl refused)

-- ---- a clash at the source

module _ (streamlets : List PlainStreamlet) where
  pub no-leaf : HasNoClash streamlets None
  no-leaf path clash = let named = clash.named in absurd cc

  pub no-source : (leaf : LeafPort) → (IsLeafSource streamlets leaf → ⊥) → HasNoClash streamlets (Some leaf)
  no-source leaf not path clash = not (subst (IsLeafSource streamlets) (sym (some-inside leaf clash.source clash.named)) clash.is_source)

  pub no-port : (leaf : LeafPort) → port_at streamlets leaf ≡ None → HasNoClash streamlets (Some leaf)
  no-port leaf none path clash = let there = clash.there in let same = ap (port_at streamlets) (some-inside leaf clash.source clash.named) in absurd cc

  same-port : (leaf : LeafPort) (port : PlainPort) → port_at streamlets leaf ≡ Some port → (path : List (List ℕ)) (clash : HasClash streamlets (Some leaf) path) → clash_of port.ltype ≡ Some path
  same-port leaf port there path clash =
      ap (λ (p : PlainPort). clash_of p.ltype) (some-inside port clash.port (sym there ∙ ap (port_at streamlets) (some-inside leaf clash.source clash.named) ∙ clash.there)) ∙ clash.clash

  pub no-two : (leaf : LeafPort) (port : PlainPort) → port_at streamlets leaf ≡ Some port → clash_of port.ltype ≡ None → HasNoClash streamlets (Some leaf)
  no-two leaf port there none path clash = let two = same-port leaf port there path clash in absurd cc

  -- what is not so at a leaf source
  pub none-at : (leaf : LeafPort) (port : PlainPort) → IsLeafSource streamlets leaf → port_at streamlets leaf ≡ Some port → HasNoClash streamlets (Some leaf) → clash_of port.ltype ≡ None
  none-at leaf port source there apart = by (clash_of port.ltype) refl
    where
      by : (found : Option (List (List ℕ))) → clash_of port.ltype ≡ found → clash_of port.ltype ≡ None
      by None is = is
      by (Some path) is = absurd (apart path (record { source = leaf; named = refl; is_source = source; port = port; there = there; clash = is }))

  pub two-told : (leaf : LeafPort) (port : PlainPort) (reply : Reply) → IsLeafSource streamlets leaf → port_at streamlets leaf ≡ Some port
      → IsRefusedBy (refusal_in (split_unless port.ltype (clash_of port.ltype))) reply → ReadsAs {X = Unit {0}} (ClashRead streamlets (Some leaf)) (Err reply)
  two-told leaf port reply source there refused = by (clash_of port.ltype) refl refused
    where
      by : (found : Option (List (List ℕ))) → clash_of port.ltype ≡ found → IsRefusedBy (refusal_in (split_unless port.ltype found)) reply → ReadsAs {X = Unit {0}} (ClashRead streamlets (Some leaf)) (Err reply)
      by None is memory = wanted-over {X = Unit {0}} (ClashRead streamlets (Some leaf)) reply memory
      by (Some path) is refused = refused-over {X = Unit {0}} (ClashRead streamlets (Some leaf)) (name_clash path) reply
          (record { path = path; clash = record { source = leaf; named = refl; is_source = source; port = port; there = there; clash = is }; is = refl }) refused

-- a split that was made has no clash
pub split-apart : (ltype : Ltype) (split : PlainSplit) → split_unless ltype (clash_of ltype) ≡ Ok split → clash_of ltype ≡ None
split-apart ltype split is = by (clash_of ltype) refl is
  where
    by : (found : Option (List (List ℕ))) → clash_of ltype ≡ found → split_unless ltype found ≡ Ok split → clash_of ltype ≡ None
    by None none made = none
    by (Some path) some made = absurd cc

-- and is that of the type
pub split-is : (ltype : Ltype) (split : PlainSplit) → split_unless ltype (clash_of ltype) ≡ Ok split → split ≡ split_of ltype
split-is ltype split is = by (clash_of ltype) is
  where
    by : (found : Option (List (List ℕ))) → split_unless ltype found ≡ Ok split → split ≡ split_of ltype
    by None made = cc
    by (Some path) made = absurd cc

-- a type without a clash is not refused for one
pub split-wanted : (ltype : Ltype) (reply : Reply) → clash_of ltype ≡ None → IsRefusedBy (refusal_in (split_unless ltype (clash_of ltype))) reply → reply ≡ replies.Memory
split-wanted ltype reply none refused = subst (λ (found : Option (List (List ℕ))). IsRefusedBy (refusal_in (split_unless ltype found)) reply) none refused

-- ---- under a top

module _ (words : DesignWords) (streamlets : List PlainStreamlet) (top : ℕ) where
  pub under-apart : (leaf : Option LeafPort) (result : Result EndHeads Reply) → leaf ≡ leaf_at top words.from → HasNoClash streamlets leaf → ReadsAs (HeadsByNets words streamlets top (linked streamlets)) result
      → ReadsAs (HeadsUnder words streamlets top) result
  under-apart leaf result is apart reads = reads-over (HeadsByNets words streamlets top (linked streamlets)) (HeadsUnder words streamlets top) by result reads
    where
      here : HasNoClash streamlets (leaf_at top words.from)
      here = subst (HasNoClash streamlets) is apart

      by : (read : Result EndHeads (List ℕ)) → HeadsByNets words streamlets top (linked streamlets) read → HeadsUnder words streamlets top read
      by (Ok heads) found = (here, found)
      by (Err line) found = inr (here, found)

  pub under-clash : (leaf : Option LeafPort) (reply : Reply) → leaf ≡ leaf_at top words.from → ReadsAs {X = Unit {0}} (ClashRead streamlets leaf) (Err reply)
      → ReadsAs {X = EndHeads} (HeadsUnder words streamlets top) (Err reply)
  under-clash leaf reply is reads = error-over (ClashRead streamlets leaf) (HeadsUnder words streamlets top)
      (λ line tells. inl (subst (λ (l : Option LeafPort). TellsClash streamlets l line) is tells)) reply reads

  -- the links have an error
  pub nets-refused : (fault : LinkFault) (reply : Reply) → (fault ≢ linking.Memory → linked streamlets ≡ Err fault) → IsRefusedBy (refusal_of_linking words.project fault) reply
      → ReadsAs {X = EndHeads} (HeadsByNets words streamlets top (linked streamlets)) (Err reply)
  nets-refused fault reply is refused = by (refusal_of_linking words.project fault) refl refused
    where
      real : (refusal : Refusal) → refusal_of_linking words.project fault ≡ Some refusal → fault ≢ linking.Memory
      real refusal some same = let none = ap (refusal_of_linking words.project) same in absurd cc

      by : (refusal : Option Refusal) → refusal_of_linking words.project fault ≡ refusal → IsRefusedBy refusal reply → ReadsAs {X = EndHeads} (HeadsByNets words streamlets top (linked streamlets)) (Err reply)
      by None none memory = wanted-over {X = EndHeads} (HeadsByNets words streamlets top (linked streamlets)) reply memory
      by (Some refusal) some told =
          refused-over {X = EndHeads} (HeadsByNets words streamlets top (linked streamlets)) refusal reply
          (subst (λ (found : Result Nets LinkFault). HeadsByNets words streamlets top found (Err (refusal_line refusal))) (sym (is (real refusal some)))
          (subst (λ (o : Option Refusal). RefusesBy {X = EndHeads} o (Err (refusal_line refusal))) (sym some) refl)) told

  pub nets-found : (nets : Nets) (result : Result EndHeads Reply) → linked streamlets ≡ Ok nets → ReadsAs (HeadsByNets words streamlets top (Ok nets)) result
      → ReadsAs (HeadsByNets words streamlets top (linked streamlets)) result
  nets-found nets result is reads = subst (λ (found : Result Nets LinkFault). ReadsAs (HeadsByNets words streamlets top found) result) (sym is) reads

  module _ (nets : Nets) (from to : Option LeafPort) (from_is : from ≡ leaf_at top words.from) (to_is : to ≡ leaf_at top words.to) where
    over-ends : (P : (from to : Option LeafPort) → Type 0) → P from to → P (leaf_at top words.from) (leaf_at top words.to)
    over-ends P p = subst (λ (f : Option LeafPort). P f (leaf_at top words.to)) from_is (subst (P from) to_is p)

    -- the nets do not lead from the one to the other
    pub not-joined : (reply : Reply) → (AreJoined streamlets nets from to → ⊥) → IsRefusedBy (Some (no_path words.from words.to)) reply
        → ReadsAs {X = EndHeads} (HeadsByNets words streamlets top (Ok nets)) (Err reply)
    not-joined reply not refused =
        refused-over {X = EndHeads} (HeadsByNets words streamlets top (Ok nets)) (no_path words.from words.to) reply
        (over-ends (λ f t. AreJoined streamlets nets f t → ⊥) not, refl) refused

    -- or they do
    pub joined-heads : (result : Result EndHeads Reply) → ReadsAs (HeadsBetween streamlets nets from to) result → ReadsAs (HeadsByNets words streamlets top (Ok nets)) result
    joined-heads result reads = reads-over (HeadsBetween streamlets nets from to) (HeadsByNets words streamlets top (Ok nets)) by result reads
      where
        by : (read : Result EndHeads (List ℕ)) → HeadsBetween streamlets nets from to read → HeadsByNets words streamlets top (Ok nets) read
        by (Ok heads) has = over-ends (λ f t. HasHeads streamlets nets f t heads) has
        by (Err line) none = absurd none

-- ---- two leaf ports

module _ (streamlets : List PlainStreamlet) (nets : Nets) where
  pub none-from : (to : Option LeafPort) → AreJoined streamlets nets None to → ⊥
  none-from to joined = let named = joined.source_is in absurd cc

  pub none-to : (from : Option LeafPort) → AreJoined streamlets nets from None → ⊥
  none-to from joined = let named = joined.sink_is in absurd cc

  pub not-led : (source sink : LeafPort) → (LeadsToSink streamlets nets.impls source sink → ⊥) → AreJoined streamlets nets (Some source) (Some sink) → ⊥
  not-led source sink not joined =
      not (subst (λ (s : LeafPort). LeadsToSink streamlets nets.impls s sink) (sym (some-inside source joined.source joined.source_is))
      (subst (LeadsToSink streamlets nets.impls joined.source) (sym (some-inside sink joined.sink joined.sink_is)) joined.leads))

  -- the heads between their ports
  pub heads-between : (source sink : LeafPort) (types : HaveTypes streamlets source sink) (one other : PlainPort) (result : Result EndHeads Reply) → LeadsToSink streamlets nets.impls source sink
      → port_at streamlets source ≡ Some one → port_at streamlets sink ≡ Some other → ReadsAs (HeadsOfTypes one.ltype other.ltype) result → ReadsAs (HeadsBetween streamlets nets (Some source) (Some sink)) result
  heads-between source sink types one other result leads here there reads =
      reads-over (HeadsOfTypes one.ltype other.ltype) (HeadsBetween streamlets nets (Some source) (Some sink)) by result reads
    where
      first : types.one ≡ one
      first = some-inside types.one one (sym types.here ∙ here)

      last : types.other ≡ other
      last = some-inside types.other other (sym types.there ∙ there)

      by : (read : Result EndHeads (List ℕ)) → HeadsOfTypes one.ltype other.ltype read → HeadsBetween streamlets nets (Some source) (Some sink) read
      by (Ok heads) between = record {
        joined = record { source = source; source_is = refl; sink = sink; sink_is = refl; leads = leads };
        types = types;
        between = subst (λ (p : PlainPort). AreBetween (heads_of_port p.ltype) (heads_of_port types.other.ltype) heads) (sym first)
            (subst (λ (p : PlainPort). AreBetween (heads_of_port one.ltype) (heads_of_port p.ltype) heads) (sym last) between);
      }
      by (Err line) none = absurd none

-- ---- the heads between two ports

module _ (one other : Ltype) (alike : clash_of other ≡ clash_of one) (apart : clash_of one ≡ None) where
  pub types-heads : (source sink : PlainSplit) (result : Result EndHeads Reply) → split_unless one (clash_of one) ≡ Ok source → split_unless other (clash_of other) ≡ Ok sink
      → ReadsAs (HeadsOfStreams source.streams sink.streams) result → ReadsAs (HeadsOfTypes one other) result
  types-heads source sink result first last reads =
      subst (λ (s : PlainSplit). ReadsAs (HeadsOfStreams s.streams (split_of other).streams) result) (split-is one source first)
      (subst (λ (s : PlainSplit). ReadsAs (HeadsOfStreams source.streams s.streams) result) (split-is other sink last) reads)

  pub first-wanted : (reply : Reply) → IsRefusedBy (refusal_in (split_unless one (clash_of one))) reply → ReadsAs {X = EndHeads} (HeadsOfTypes one other) (Err reply)
  first-wanted reply refused = wanted-over {X = EndHeads} (HeadsOfTypes one other) reply (split-wanted one reply apart refused)

  pub last-wanted : (reply : Reply) → IsRefusedBy (refusal_in (split_unless other (clash_of other))) reply → ReadsAs {X = EndHeads} (HeadsOfTypes one other) (Err reply)
  last-wanted reply refused = wanted-over {X = EndHeads} (HeadsOfTypes one other) reply (split-wanted other reply (alike ∙ apart) refused)

-- the types at two leaf ports that are joined
pub compatible-at : (streamlets : List PlainStreamlet) (source sink : LeafPort) (types : HaveTypes streamlets source sink) (one other : PlainPort)
    → port_at streamlets source ≡ Some one → port_at streamlets sink ≡ Some other → Compatible false one.ltype other.ltype
compatible-at streamlets source sink types one other here there =
    subst (λ (p : PlainPort). Compatible false p.ltype other.ltype) (some-inside types.one one (sym types.here ∙ here))
    (subst (λ (p : PlainPort). Compatible false types.one.ltype p.ltype) (some-inside types.other other (sym types.there ∙ there)) types.compatible)

-- the leaf port that names spell, the last of which is its own
pub leaf-by-last : (top : ℕ) (names outer copied : List (List ℕ)) (name port : List ℕ) → names ≡ outer ++ name ∷ [] → copied ≡ outer → port ≡ name
    → ◌≡◌ {A = Option LeafPort} (Some (leaf_made top copied port)) (leaf_by top names)
leaf-by-last top names outer copied name port whole outer_is port_is =
    ap (λ (l : List (List ℕ)). Some (leaf_made top l port)) outer_is ∙ ap (λ (n : List ℕ). Some (leaf_made top outer n)) port_is ∙ sym (leaf-last top outer name)
    ∙ ap (leaf_by top) (sym whole)
