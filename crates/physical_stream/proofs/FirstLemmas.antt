-- The first offence is one.
use Rattle.std.proofs.Common.{◌≡◌, ℕ, Option, None, Some, refl, sym, ap, ◌∙◌, arith, ◌==◌, if◌then◌else◌}
use Rattle.physical_stream.specs.Rules.{number_of_rule}
use Rattle.physical_stream.specs.First.{Offence, IsNotAfter, IsFirst}
use Rattle.physical_stream.specs.declared.rule.Rule.{Rule}
use Rattle.physical_stream.specs.declared.rule.Rule.TheVariants.{Hold, Index, LaneLast, Strobe, Start, End, Empty, InnerPause, OuterPause, Nest, Tag}

-- the rule of a number, and Tag for all others
rule_numbered : ℕ → Rule
rule_numbered n =
    if n == 1 then Hold else (if n == 2 then Index else (if n == 3 then LaneLast else (if n == 4 then Strobe else (if n == 5 then Start else
    (if n == 6 then End else (if n == 7 then Empty else (if n == 8 then InnerPause else (if n == 9 then OuterPause else (if n == 10 then Nest else Tag)))))))))

rule_numbered-number_of_rule : (rule : Rule) → rule_numbered (number_of_rule rule) ≡ rule
unfolding rule_numbered
rule_numbered-number_of_rule Hold = refl
rule_numbered-number_of_rule Index = refl
rule_numbered-number_of_rule LaneLast = refl
rule_numbered-number_of_rule Strobe = refl
rule_numbered-number_of_rule Start = refl
rule_numbered-number_of_rule End = refl
rule_numbered-number_of_rule Empty = refl
rule_numbered-number_of_rule InnerPause = refl
rule_numbered-number_of_rule OuterPause = refl
rule_numbered-number_of_rule Nest = refl
rule_numbered-number_of_rule Tag = refl

-- no two rules have one number
pub same_rule : (a b : Rule) → number_of_rule a ≡ number_of_rule b → a ≡ b
same_rule a b e = sym (rule_numbered-number_of_rule a) ∙ ap rule_numbered e ∙ rule_numbered-number_of_rule b

-- two offences, each not after the other, are one
same_offence : (a b : Offence) → IsNotAfter a b → IsNotAfter b a → a ≡ b
same_offence a b ab ba = same_parts a b (same_cycle a b ab ba) (same_stream a b ab ba) (same_rule a.rule b.rule (same_number a b ab ba))
  where
    same_cycle : (a b : Offence) → IsNotAfter a b → IsNotAfter b a → a.cycle ≡ b.cycle
    same_cycle a b ab ba = grind arith

    same_stream : (a b : Offence) → IsNotAfter a b → IsNotAfter b a → a.stream ≡ b.stream
    same_stream a b ab ba = grind arith

    same_number : (a b : Offence) → IsNotAfter a b → IsNotAfter b a → number_of_rule a.rule ≡ number_of_rule b.rule
    same_number a b ab ba = grind arith

    same_parts : (a b : Offence) → a.cycle ≡ b.cycle → a.stream ≡ b.stream → a.rule ≡ b.rule → a ≡ b
    same_parts a b c s r =
        ap (λ (n : ℕ). record { cycle = n; stream = a.stream; rule = a.rule }) c ∙ ap (λ (n : ℕ). record { cycle = b.cycle; stream = n; rule = a.rule }) s
        ∙ ap (λ (x : Rule). record { cycle = b.cycle; stream = b.stream; rule = x }) r

-- there is one first offence, or none
pub IsFirst-one : (Offends : Offence → Type 0) (x y : Option Offence) → IsFirst Offends x → IsFirst Offends y → x ≡ y
IsFirst-one Offends None None p q = refl
IsFirst-one Offends None (Some b) p q = absurd (p b q.0)
IsFirst-one Offends (Some a) None p q = absurd (q a p.0)
IsFirst-one Offends (Some a) (Some b) p q = ap Some (same_offence a b (p.1 b q.0) (q.1 a p.0))
