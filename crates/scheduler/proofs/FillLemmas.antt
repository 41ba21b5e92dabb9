-- Lanes written one after another into a clear signal.
use Rattle.std.proofs.Common.{◌≡◌, ◌∙◌, ℕ, zero, suc, ◌+◌, ◌-◌, ◌*◌, ◌<◌, ◌≤◌, Bool, true, false, List, [], ◌∷◌, ◌++◌, length, take, drop, Option, is_some, subst, refl, sym, ap, append_assoc, arith, get_or}
use Rattle.std.proofs.Math.Nat.{suc-mul}
use Rattle.std.proofs.lemmas.List.{length-append, length-take-le, length-drop}
use Rattle.scheduler.specs.Lanes.{word_or}
use Rattle.scheduler.proofs.PartLemmas.{before-next}
use Rattle.std.proofs.Math.Seq.{take-append_seam, drop-append-add}
use Rattle.scheduler.specs.Filling.{behind_word, taken_word}
use Rattle.scheduler.proofs.LoadLemmas.{AreItems-drop}
use Rattle.tydi_base.specs.Bits.{zero_bits}
use Rattle.physical_stream.specs.Params.{Parameters}
use Rattle.physical_stream.specs.declared.item.Item.{Item}
use Rattle.physical_stream.specs.declared.item.Item.TheVariants.{Elem, Close}
use Rattle.scheduler.specs.Planned.{first_word}
use Rattle.scheduler.specs.Laws.{AreItems}

zeros-split : (a b : ℕ) → zero_bits (a + b) ≡ zero_bits a ++ zero_bits b
zeros-split zero b = ap zero_bits (omega arith)
zeros-split (suc a) b = let e : suc a + b ≡ suc (a + b) = omega arith in ap zero_bits e ∙ ap (λ (l : List Bool). false ∷ l) (zeros-split a b)

zeros-drop : (a b : ℕ) → drop a (zero_bits (a + b)) ≡ zero_bits b
zeros-drop zero b = ap zero_bits (omega arith)
zeros-drop (suc a) b = let e : suc a + b ≡ suc (a + b) = omega arith in ap (λ (n : ℕ). drop (suc a) (zero_bits n)) e ∙ zeros-drop a b

pub lane-room : (lanes lane width : ℕ) → lane < lanes → (lanes - lane) * width ≡ width + (lanes - (lane + 1)) * width
lane-room lanes lane width less =
    let e : lanes - lane ≡ suc (lanes - (lane + 1)) = omega arith in
    ap (λ (n : ℕ). n * width) e ∙ suc-mul (lanes - (lane + 1)) width ∙ omega arith

pub lane-left : (parts : List Bool) (lanes lane width : ℕ) (old : List Bool) → lane < lanes → old ≡ parts ++ zero_bits ((lanes - lane) * width) →
    old ≡ (parts ++ zero_bits width) ++ zero_bits ((lanes - (lane + 1)) * width)
lane-left parts lanes lane width old less is =
    is ∙ ap (λ (n : ℕ). parts ++ zero_bits n) (lane-room lanes lane width less) ∙ ap (λ (l : List Bool). parts ++ l) (zeros-split width ((lanes - (lane + 1)) * width))
    ∙ sym (append_assoc parts (zero_bits width) (zero_bits ((lanes - (lane + 1)) * width)))

pub lane-written : (parts word : List Bool) (lanes lane width : ℕ) (old new : List Bool) → lane < lanes → length parts ≡ lane * width → length word ≡ width → old ≡ parts ++ zero_bits ((lanes - lane) * width) →
    new ≡ take (lane * width) old ++ word ++ drop (lane * width + length word) old → new ≡ (parts ++ word) ++ zero_bits ((lanes - (lane + 1)) * width)
lane-written parts word lanes lane width old new less long wide is written =
    let zeros = (lanes - (lane + 1)) * width in
    let whole : old ≡ parts ++ zero_bits (width + (lanes - (lane + 1)) * width) = is ∙ ap (λ (n : ℕ). parts ++ zero_bits n) (lane-room lanes lane width less) in
    let front : take (lane * width) old ≡ parts = ap (λ (n : ℕ). take n old) (sym long) ∙ ap (take (length parts)) whole ∙ take-append_seam parts (zero_bits (width + (lanes - (lane + 1)) * width)) in
    let behind : drop (lane * width + length word) old ≡ zero_bits ((lanes - (lane + 1)) * width) =
    ap (λ (n : ℕ). drop n old) (omega (arith, long, wide)) ∙ ap (drop (length parts + width)) whole ∙ drop-append-add parts (zero_bits (width + (lanes - (lane + 1)) * width)) width ∙ zeros-drop width ((lanes - (lane + 1)) * width) in
    written ∙ ap (λ (l : List Bool). l ++ word ++ drop (lane * width + length word) old) front ∙ ap (λ (l : List Bool). parts ++ word ++ l) behind

-- the item at a place
pub drop-at : (items : List Item) (place : ℕ) (d : Item) → place < length items → drop place items ≡ get_or items place d ∷ drop (place + 1) items
drop-at [] place d less = absurd (omega (arith, less))
drop-at (item ∷ more) zero d less = refl
drop-at (item ∷ more) (suc place) d less = drop-at more place d (omega (arith, less)) ∙ ap (λ (n : ℕ). get_or more place d ∷ drop n (item ∷ more)) (let e : suc (place + 1) ≡ suc place + 1 = omega arith in e)

-- one element, where the code's numbers are those of the definitions
module _ (p : Parameters) (items : List Item) (place lane : ℕ) (from width : ℕ) (item : Item) (less : lane < p.lanes) (there : place < length items) (fit : AreItems p items)
    (at : item ≡ get_or items place item) where
  here : drop place items ≡ item ∷ drop (place + 1) items
  here = drop-at items place item there ∙ ap (λ (i : Item). i ∷ drop (place + 1) items) (sym at)

  module _ (word : List Bool) (is : item ≡ Elem word) where
    here-word : drop place items ≡ Elem word ∷ drop (place + 1) items
    here-word = here ∙ ap (λ (i : Item). i ∷ drop (place + 1) items) is

    pub element-some : is_some (first_word (drop place items)) ≡ true
    element-some = ap (λ (l : List Item). is_some (first_word l)) here-word

    pub element-behind : behind_word (drop place items) ≡ drop (place + 1) items
    element-behind = ap behind_word here-word

    wide : length word ≡ p.element
    wide = (subst (AreItems p) here-word (AreItems-drop p place items fit)).0

    module _ (from_is : from ≡ lane) (width_is : width ≡ p.element) (old : List Bool) (total : length old ≡ p.lanes * p.element) where
      offset-is : from * width ≡ lane * p.element
      offset-is = ap (λ (n : ℕ). n * width) from_is ∙ ap (λ (n : ℕ). lane * n) width_is

      pub element-fits : from * width + length word ≤ length old
      element-fits = let o = offset-is in let w = wide in omega (arith, o, w, total, before-next lane p.lanes p.element less)

      module _ (new : List Bool) (written : new ≡ take (from * width) old ++ word ++ drop (from * width + length word) old) where
        pub element-length : length new ≡ p.lanes * p.element
        element-length =
            let room = element-fits in
            omega (
              arith,
              room,
              total,
              ap length written,
              length-append (take (from * width) old ++ word) (drop (from * width + length word) old),
              length-append (take (from * width) old) word,
              length-take-le (from * width) old (omega (arith, room)),
              length-drop (from * width + length word) old,
            )

        pub element-written : (parts : List Bool) → length parts ≡ lane * p.element → old ≡ parts ++ zero_bits ((p.lanes - lane) * p.element) →
            new ≡ (parts ++ word_or p.element (first_word (drop place items))) ++ zero_bits ((p.lanes - (lane + 1)) * p.element)
        element-written parts long start =
            lane-written parts word p.lanes lane p.element old new less long wide start (written ∙ ap (λ (o : ℕ). take o old ++ word ++ drop (o + length word) old) offset-is)
            ∙ ap (λ (w : Option (List Bool)). (parts ++ word_or p.element w) ++ zero_bits ((p.lanes - (lane + 1)) * p.element)) (sym (ap first_word here-word))

  module _ (dim : ℕ) (is : item ≡ Close dim) where
    here-close : drop place items ≡ Close dim ∷ drop (place + 1) items
    here-close = here ∙ ap (λ (i : Item). i ∷ drop (place + 1) items) is

    pub close-none : is_some (first_word (drop place items)) ≡ false
    close-none = ap (λ (l : List Item). is_some (first_word l)) here-close

    pub close-behind : behind_word (drop place items) ≡ drop place items
    close-behind = ap behind_word here-close ∙ sym here-close

    pub close-written : (old parts : List Bool) → old ≡ parts ++ zero_bits ((p.lanes - lane) * p.element) →
        old ≡ (parts ++ word_or p.element (first_word (drop place items))) ++ zero_bits ((p.lanes - (lane + 1)) * p.element)
    close-written old parts start =
        lane-left parts p.lanes lane p.element old less start
        ∙ ap (λ (w : Option (List Bool)). (parts ++ word_or p.element w) ++ zero_bits ((p.lanes - (lane + 1)) * p.element)) (sym (ap first_word here-close))

-- a lane that takes none
pub not-taken : (p : Parameters) (lane : ℕ) → lane < p.lanes → (takes : Bool) (left : List Item) (old parts : List Bool) → takes ≡ false → old ≡ parts ++ zero_bits ((p.lanes - lane) * p.element) →
    old ≡ (parts ++ word_or p.element (taken_word takes left)) ++ zero_bits ((p.lanes - (lane + 1)) * p.element)
not-taken p lane less takes left old parts never start = rw never (lane-left parts p.lanes lane p.element old less start)
