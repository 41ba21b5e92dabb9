-- Pieces that a sink takes one after another.
use Rattle.std.proofs.Common.{◌≡◌, ℕ, suc, ◌+◌, ◌-◌, ◌<◌, ◌≤◌, inl, inr, List, [], ◌∷◌, ◌++◌, length, take, drop, Option, None, Some, option_map, refl, sym, ap, ◌∙◌, arith, append_assoc, length-drop, length-append, subst, Err}
use Rattle.std.proofs.Math.Seq.{take-add}
use Rattle.std.proofs.lemmas.List.{take_all, append-nil}
use Rattle.tydi_io.specs.Faults.{Rose}
use Rattle.tydi_tool.specs.declared.delivery.WriteError.{WriteError}
use Rattle.tydi_tool.specs.declared.delivery.WriteError.TheVariants as errors
use Rattle.tydi_tool.specs.Delivery.{Adds, AddsFront, AddsPart, Writes, WritesPiece}

-- the bytes from one place on, as the code's slice reads them
rest_of : (bytes : List ℕ) (at : ℕ) → take (length bytes - at) (drop at bytes) ≡ drop at bytes
rest_of bytes at = take_all _ _ (omega (arith, length-drop at bytes))

-- a front was added, and then the next bytes of the rest
pub Adds-more : (old mid new : Option (List ℕ)) (bytes : List ℕ) (at n : ℕ) → Adds old mid (take at bytes) →
    new ≡ option_map (λ taken. taken ++ take n (take (length bytes - at) (drop at bytes))) mid → Adds old new (take (at + n) bytes)
Adds-more None mid new bytes at n h e = e ∙ ap (option_map (λ taken. taken ++ take n (take (length bytes - at) (drop at bytes)))) h
Adds-more (Some b) mid new bytes at n h e =
    let joined : take at bytes ++ take n (take (length bytes - at) (drop at bytes)) ≡ take (at + n) bytes
    = ap (λ rest. take at bytes ++ take n rest) (rest_of bytes at) ∙ sym (take-add at n bytes) in
    e ∙ ap (option_map (λ taken. taken ++ take n (take (length bytes - at) (drop at bytes)))) h ∙ ap Some (append_assoc b (take at bytes) _ ∙ ap (λ x. b ++ x) joined)

-- nothing is added to a sink that is as before
pub Adds-none : (old : Option (List ℕ)) → Adds old old []
Adds-none None = refl
Adds-none (Some b) = ap Some (sym (append-nil b))

-- some bytes, and then some more
pub Adds-then : (old mid new : Option (List ℕ)) (bytes more : List ℕ) → Adds old mid bytes → Adds mid new more → Adds old new (bytes ++ more)
Adds-then None mid new bytes more h e = e ∙ ap (option_map (λ taken. taken ++ more)) h
Adds-then (Some b) mid new bytes more h e = e ∙ ap (option_map (λ taken. taken ++ more)) h ∙ ap Some (append_assoc b bytes more)

-- all is a front
pub AddsFront-all : (old new : Option (List ℕ)) (whole : List ℕ) → Adds old new whole → AddsFront old new whole
AddsFront-all old new whole adds = record {
  count = length whole;
  within = omega arith;
  added = subst (λ (bytes : List ℕ). Adds old new bytes) (sym (take_all (length whole) whole (omega arith))) adds;
}

-- a part that is shorter than a text is a front of it
pub AddsFront-part : (old new : Option (List ℕ)) (whole : List ℕ) → AddsPart old new whole → AddsFront old new whole
AddsFront-part old new whole part = record { count = part.count; within = omega (arith, part.shorter); added = part.added }

-- and what it is a front of is not empty
pub AddsPart-some : (old new : Option (List ℕ)) (whole : List ℕ) → AddsPart old new whole → 0 < length whole
AddsPart-some old new whole part = omega (arith, part.shorter)

take_past : (done text : List ℕ) (n : ℕ) → take (length done + n) (done ++ text) ≡ done ++ take n text
take_past [] text n = let e : 0 + n ≡ n = omega arith in ap (λ k. take k text) e
take_past (byte ∷ done) text n =
    let e : length (byte ∷ done) + n ≡ suc (length done + n) = omega arith in
    ap (λ k. take k (byte ∷ done ++ text)) e ∙ ap (λ (l : List ℕ). byte ∷ l) (take_past done text n)

-- a front of the rest is, with what came before it, a front of all
AddsFront-then : (old mid new : Option (List ℕ)) (text done left : List ℕ) → text ≡ done ++ left → Adds old mid done → AddsFront mid new left → AddsFront old new text
AddsFront-then old mid new text done left is adds front = record {
  count = length done + front.count;
  within = omega (arith, ap length is, length-append done left, front.within);
  added = subst (λ (l : List ℕ). Adds old new l) (sym (ap (take (length done + front.count)) is ∙ take_past done left front.count))
      (Adds-then old mid new done (take front.count left) adds front.added);
}

-- ---- a text that is written as it is made

-- the sink has all of the text but what is left
pub record WrittenFrom (old new : Option (List ℕ)) (text left : List ℕ) : Type 0 where
  done : List ℕ
  is : text ≡ done ++ left
  added : Adds old new done

pub WrittenFrom-start : (old : Option (List ℕ)) (text : List ℕ) → WrittenFrom old old text text
WrittenFrom-start old text = record { done = []; is = refl; added = Adds-none old }

pub WrittenFrom-piece : (old mid new : Option (List ℕ)) (text left rest : List ℕ) → WrittenFrom old mid text left →
    (piece : List ℕ) × ((left ≡ piece ++ rest) × ((0 < length piece) × Adds mid new piece)) → WrittenFrom old new text rest
WrittenFrom-piece old mid new text left rest w p = record {
  done = w.done ++ p.0;
  is = w.is ∙ ap (λ (l : List ℕ). w.done ++ l) p.1.0 ∙ sym (append_assoc w.done p.0 rest);
  added = Adds-then old mid new w.done p.0 w.added p.1.1.1;
}

pub Writes-all : (old new : Option (List ℕ)) (text left : List ℕ) → WrittenFrom old new text left → length left ≡ 0 → Adds old new text
Writes-all old new text [] w none = subst (λ (l : List ℕ). Adds old new l) (sym (w.is ∙ append-nil w.done)) w.added
Writes-all old new text (byte ∷ left) w none = absurd (omega (arith, none))

Rose-since : (a b c : ℕ) → a ≤ b → Rose b c → Rose a c
Rose-since a b c le (inl more) = inl (omega (arith, le, more))
Rose-since a b c le (inr most) = inr most

pub Writes-error : (T U : Type 0) (a b c : ℕ) (old mid new : Option (List ℕ)) (text left rest : List ℕ) (error : WriteError) → a ≤ b → 0 < length left → WrittenFrom old mid text left →
    WritesPiece {T = T} (Rose b c) (Err error) mid new left rest → Writes {T = U} (Rose a c) (Err error) old new text
unfolding AddsFront-then
Writes-error T U a b c old mid new text left rest errors.Failed le some w p = (
  Rose-since a b c le p.0,
  (omega (arith, some, ap length w.is, length-append w.done left), AddsFront-then old mid new text w.done left w.is w.added p.1),
)
Writes-error T U a b c old mid new text left rest errors.Memory le some w p = record {
  count = length w.done + 0;
  shorter = omega (arith, some, ap length w.is, length-append w.done left);
  added = (AddsFront-then old mid new text w.done left w.is w.added (record { count = 0; within = omega arith; added = p })).added;
}
