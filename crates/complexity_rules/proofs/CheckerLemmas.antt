-- The state that a checker keeps of the cycles of a stream, when one more cycle comes.
use Rattle.std.proofs.Common.{◌≡◌, ◌∙◌, ℕ, ◌+◌, ◌<◌, ◌≤◌, Bool, true, false, List, [], ◌∷◌, ◌++◌, length, count_by, cond, Option, None, Some, is_some, not, zero, suc, refl, sym, ap, subst, if◌then◌else◌, arith}
use Rattle.std.proofs.lemmas.List.{append-nil, length-append}
use Rattle.std.proofs.lemmas.Grind.{flat_map-append}
use Rattle.std.proofs.lemmas.List.Sums.{sum_by-append}
use Rattle.physical_stream.specs.Params.{Parameters}
use Rattle.physical_stream.specs.Cycles.{Cycle, done_in, done_of, items_done, refused_in, waiting_of}
use Rattle.physical_stream.specs.Counts.{ends_packet, packets_of}
use Rattle.physical_stream.specs.Items.{items_of, items_of_all, lane_items, lane_closes, last_bit, lane_word, is_active, parts_below}
use Rattle.physical_stream.specs.Shape.{tail_of, tail_over}
use Rattle.physical_stream.specs.declared.item.Item.{Item}
use Rattle.physical_stream.specs.declared.item.Item.TheVariants as items
use Rattle.physical_stream.specs.declared.item.Tail.{Tail}
use Rattle.physical_stream.specs.declared.item.Tail.TheVariants as tails
use Rattle.physical_stream.specs.declared.transfer.Transfer.{Transfer}
use Rattle.physical_stream.specs.declared.rule.Rule.{Rule}
use Rattle.physical_stream.specs.declared.rule.Rule.TheVariants.{Hold}
use Rattle.physical_stream.proofs.ShapeLemmas.{tail_of-over}
use Rattle.complexity_rules.specs.Checking.{Keeps, IsLowestBroken, IsStep, Sees, StandsFor, params_in}
use Rattle.complexity_rules.specs.Waiting.{IsJudged, IsLowestShown}
use Rattle.complexity_rules.specs.declared.checker.Checker.{Checker}
use Rattle.complexity_rules.specs.Tails.{IsTailIn}
use Rattle.complexity_rules.specs.Effect.{IsEffect}
use Rattle.complexity_rules.specs.declared.effect.Effect.{Effect}

length-one_more : (cycles : List Cycle) (now : Cycle) → length (cycles ++ now ∷ []) ≡ length cycles + 1
length-one_more cycles now = length-append cycles (now ∷ [])

pub waiting_of-one_more : (cycles : List Cycle) (now : Cycle) → waiting_of (cycles ++ now ∷ []) ≡ refused_in now
waiting_of-one_more [] now = refl
waiting_of-one_more (c ∷ []) now = refl
waiting_of-one_more (c ∷ d ∷ more) now = waiting_of-one_more (d ∷ more) now

pub done_of-one_more : (cycles : List Cycle) (now : Cycle) → done_of (cycles ++ now ∷ []) ≡ done_of cycles ++ done_in now
done_of-one_more cycles now = flat_map-append done_in cycles (now ∷ []) ∙ ap (λ (ts : List Transfer). done_of cycles ++ ts) (append-nil (done_in now))

pub items_done-one_more : (p : Parameters) (cycles : List Cycle) (now : Cycle) → items_done p (cycles ++ now ∷ []) ≡ items_done p cycles ++ items_of_all p (done_in now)
items_done-one_more p cycles now = ap (items_of_all p) (done_of-one_more cycles now) ∙ flat_map-append (items_of p) (done_of cycles) (done_in now)

-- ---- a cycle in which nothing is done

done_of-nothing : (cycles : List Cycle) (now : Cycle) → done_in now ≡ [] → done_of (cycles ++ now ∷ []) ≡ done_of cycles
done_of-nothing cycles now nothing = done_of-one_more cycles now ∙ ap (λ (ts : List Transfer). done_of cycles ++ ts) nothing ∙ append-nil (done_of cycles)

pub Keeps-nothing : (p : Parameters) (cycles : List Cycle) (now : Cycle) (seen next : ℕ) (waiting offered : Option Transfer) (tail : Option Tail) (transfers packets : ℕ) →
    done_in now ≡ [] → next ≡ seen + 1 → offered ≡ refused_in now → Keeps p cycles seen waiting tail transfers packets →
    Keeps p (cycles ++ now ∷ []) next offered tail transfers packets
Keeps-nothing p cycles now seen next waiting offered tail transfers packets nothing one_more refused k =
    let done = done_of-nothing cycles now nothing in record {
      seen = one_more ∙ ap (λ (n : ℕ). n + 1) k.seen ∙ sym (length-one_more cycles now);
      waiting = refused ∙ sym (waiting_of-one_more cycles now);
      tail = k.tail ∙ ap (λ (ts : List Transfer). tail_of (items_of_all p ts)) (sym done);
      transfers = k.transfers ∙ ap length (sym done);
      packets = k.packets ∙ ap (λ (ts : List Transfer). count_by (ends_packet p.dims) (items_of_all p ts)) (sym done);
    }

-- a cycle that shows nothing, ready or not
pub Keeps-pause : (p : Parameters) (cycles : List Cycle) (ready : Bool) (seen next : ℕ) (waiting offered : Option Transfer) (tail : Option Tail) (transfers packets : ℕ) → offered ≡ None → next ≡ seen + 1 →
    Keeps p cycles seen waiting tail transfers packets → Keeps p (cycles ++ record { ready = ready; shown = None } ∷ []) next offered tail transfers packets
Keeps-pause p cycles false seen next waiting offered tail transfers packets none one_more k = Keeps-nothing p cycles _ seen next waiting offered tail transfers packets refl one_more none k
Keeps-pause p cycles true seen next waiting offered tail transfers packets none one_more k = Keeps-nothing p cycles _ seen next waiting offered tail transfers packets refl one_more none k

-- a cycle that offers a transfer, which is not taken
pub Keeps-offered : (p : Parameters) (cycles : List Cycle) (ready : Bool) (t : Transfer) (seen next : ℕ) (waiting offered : Option Transfer) (tail : Option Tail) (transfers packets : ℕ) →
    ready ≡ false → offered ≡ Some t → next ≡ seen + 1 → Keeps p cycles seen waiting tail transfers packets →
    Keeps p (cycles ++ record { ready = ready; shown = Some t } ∷ []) next offered tail transfers packets
Keeps-offered p cycles false t seen next waiting offered tail transfers packets not_taken is one_more k = Keeps-nothing p cycles _ seen next waiting offered tail transfers packets refl one_more is k
Keeps-offered p cycles true t seen next waiting offered tail transfers packets not_taken is one_more k = cc

-- ---- a cycle in which a transfer is done

abbrev taken : Transfer → Cycle
taken t = record { ready = true; shown = Some t }

items_done-taken : (p : Parameters) (cycles : List Cycle) (t : Transfer) → items_done p (cycles ++ taken t ∷ []) ≡ items_done p cycles ++ items_of p t
items_done-taken p cycles t = items_done-one_more p cycles (taken t) ∙ ap (λ (is : List Item). items_done p cycles ++ is) (append-nil (items_of p t))

pub Keeps-taken : (p : Parameters) (cycles : List Cycle) (t : Transfer) (seen next : ℕ) (waiting : Option Transfer) (tail : Option Tail) (transfers done packets packed : ℕ) (effect : Effect) →
    next ≡ seen + 1 → done ≡ transfers + 1 → packed ≡ packets + effect.packets → IsEffect p.dims tail (items_of p t) effect → Keeps p cycles seen waiting tail transfers packets →
    Keeps p (cycles ++ taken t ∷ []) next None effect.tail done packed
Keeps-taken p cycles t seen next waiting tail transfers done packets packed effect one_more one_done all_packed found k = record {
  seen = one_more ∙ ap (λ (n : ℕ). n + 1) k.seen ∙ sym (length-one_more cycles (taken t));
  waiting = sym (waiting_of-one_more cycles (taken t));
  tail =
      found.last ∙ ap (λ (o : Option Tail). tail_over o (items_of p t)) k.tail ∙ sym (tail_of-over (items_done p cycles) (items_of p t)) ∙ ap tail_of (sym (items_done-taken p cycles t));
  transfers = one_done ∙ ap (λ (n : ℕ). n + 1) k.transfers ∙ sym (ap length (done_of-one_more cycles (taken t)) ∙ length-append (done_of cycles) (t ∷ []));
  packets =
      all_packed ∙ ap (λ (n : ℕ). n + effect.packets) k.packets ∙ ap (λ (n : ℕ). packets_of p cycles + n) found.packets
      ∙ sym (sum_by-append (λ i. cond (ends_packet p.dims i) 1 0) (items_done p cycles) (items_of p t)) ∙ ap (count_by (ends_packet p.dims)) (sym (items_done-taken p cycles t));
}

-- ---- the dimension of a tail

-- each Close of these items is of one of so many dimensions
abbrev AreIn : ℕ → List Item → Type 0
AreIn dims [] = Unit {0}
AreIn dims (items.Elem word ∷ more) = AreIn dims more
AreIn dims (items.Close dim ∷ more) = (dim < dims) × AreIn dims more

AreIn-append : (dims : ℕ) (a b : List Item) → AreIn dims a → AreIn dims b → AreIn dims (a ++ b)
AreIn-append dims [] b first second = second
AreIn-append dims (items.Elem word ∷ a) b first second = AreIn-append dims a b first second
AreIn-append dims (items.Close dim ∷ a) b first second = (first.0, AreIn-append dims a b first.1 second)

AreIn-parts : (dims n : ℕ) (f : ℕ → List Item) → ((k : ℕ) → k < n → AreIn dims (f k)) → AreIn dims (parts_below f n)
AreIn-parts dims zero f each = tt
AreIn-parts dims (suc n) f each = AreIn-append dims (parts_below f n) (f n) (AreIn-parts dims n f (λ k within. each k (omega arith))) (each n (omega arith))

AreIn-lane : (p : Parameters) (t : Transfer) (lane : ℕ) → AreIn p.dims (lane_items p t lane)
AreIn-lane p t lane =
    AreIn-append p.dims (if is_active t lane then items.Elem (lane_word p t lane) ∷ [] else []) (lane_closes p t lane) (of_element (is_active t lane))
    (AreIn-parts p.dims p.dims _ (λ dim within. of_close dim (last_bit p t lane dim) within))
  where
    of_element : (active : Bool) → AreIn p.dims (if active then items.Elem (lane_word p t lane) ∷ [] else [])
    of_element false = tt
    of_element true = tt

    of_close : (dim : ℕ) (bit : Bool) → dim < p.dims → AreIn p.dims (if bit then items.Close dim ∷ [] else [])
    of_close dim false within = tt
    of_close dim true within = (within, tt)

tail_over-in : (dims : ℕ) (tail : Option Tail) (is : List Item) → AreIn dims is → IsTailIn dims tail → IsTailIn dims (tail_over tail is)
tail_over-in dims tail [] each inside = inside
tail_over-in dims tail (items.Elem word ∷ more) each inside = tail_over-in dims (Some tails.Elem) more each (λ dim is. cc)
tail_over-in dims tail (items.Close d ∷ more) each inside = tail_over-in dims (Some (tails.Close d)) more each.1 (λ dim is. let same : d ≡ dim = cc in omega (arith, each.0))

pub IsTailIn-effect : (p : Parameters) (t : Transfer) (tail : Option Tail) (effect : Effect) → IsEffect p.dims tail (items_of p t) effect → IsTailIn p.dims tail → IsTailIn p.dims effect.tail
IsTailIn-effect p t tail effect found inside =
    subst (IsTailIn p.dims) (sym found.last) (tail_over-in p.dims tail (items_of p t) (AreIn-parts p.dims p.lanes (lane_items p t) (λ lane within. AreIn-lane p t lane)) inside)

-- ---- a step

-- no rule is broken, and the cycle is seen
pub IsStep-seen : (old new : Checker) (now : Cycle) (broken : Option Rule) (none : Bool) → is_some broken ≡ not none → none ≡ true →
    ((before : List Cycle) → StandsFor old before → IsLowestBroken (params_in old) before now broken) → Sees old new now → IsStep old new now broken
IsStep-seen old new now None none tells is lowest sees = record { params = sees.params; steps = λ before stands. (lowest before stands, sees.stands before stands); kept = tt; seen = sees.seen }
IsStep-seen old new now (Some rule) none tells is lowest sees = cc

-- a rule is broken, and the checker is as before
pub IsStep-kept : (old : Checker) (now : Cycle) (broken : Option Rule) (none : Bool) → is_some broken ≡ not none → none ≡ false →
    ((before : List Cycle) → StandsFor old before → IsLowestBroken (params_in old) before now broken) → IsStep old old now broken
IsStep-kept old now None none tells is lowest = cc
IsStep-kept old now (Some rule) none tells is lowest = record { params = refl; steps = λ before stands. (lowest before stands, refl); kept = refl; seen = refl }

-- the rule that is broken is this one
pub IsStep-hold : (old : Checker) (now : Cycle) (rule : Rule) → rule ≡ Hold →
    ((before : List Cycle) → StandsFor old before → IsLowestBroken (params_in old) before now (Some Hold)) → IsStep old old now (Some rule)
IsStep-hold old now rule is lowest = IsStep-kept old now (Some rule) false refl refl (λ before stands. subst (λ (r : Rule). IsLowestBroken (params_in old) before now (Some r)) (sym is) (lowest before stands))

-- ---- the transfer that waits

pub waiting_none : (old : Checker) (before : List Cycle) → old.waits ≡ false → StandsFor old before → waiting_of before ≡ None
waiting_none old before free stands = sym stands.waiting ∙ ap (λ (waits : Bool). if waits then Some old.offered else None) free

pub waiting_some : (old : Checker) (before : List Cycle) → old.waits ≡ true → StandsFor old before → waiting_of before ≡ Some old.offered
waiting_some old before waits stands = sym stands.waiting ∙ ap (λ (waits : Bool). if waits then Some old.offered else None) waits

-- a transfer that did not wait is offered
pub IsJudged-offered : (p : Parameters) (offered t : Transfer) (tail : Option Tail) (effect : Effect) → offered ≡ t → IsEffect p.dims tail (items_of p t) effect → effect.packets ≤ 4224 →
    IsLowestShown p tail t None → IsJudged p true offered tail effect
IsJudged-offered p offered t tail effect is changes few kept =
    subst (λ (o : Transfer). IsJudged p true o tail effect) (sym is) (record { changes = λ waits. changes; few = λ waits. few; kept = λ waits. kept })

-- no rule from the second on is broken
pub IsLowestShown-none : (p : Parameters) (tail : Option Tail) (t : Transfer) (broken : Option Rule) (none : Bool) → is_some broken ≡ not none → none ≡ true → IsLowestShown p tail t broken → IsLowestShown p tail t None
IsLowestShown-none p tail t None none tells is lowest = lowest
IsLowestShown-none p tail t (Some rule) none tells is lowest = cc

pub IsJudged-none : (p : Parameters) (waits : Bool) (offered : Transfer) (tail : Option Tail) (effect : Effect) → waits ≡ false → IsJudged p waits offered tail effect
IsJudged-none p waits offered tail effect free = record {
  changes = λ on. let clash : false ≡ true = sym free ∙ on in cc;
  few = λ on. let clash : false ≡ true = sym free ∙ on in cc;
  kept = λ on. let clash : false ≡ true = sym free ∙ on in cc;
}
