-- Any offences have a first one, or there are none: the two cannot both be false.
use Rattle.std.proofs.Common.{◌≡◌, ℕ, zero, suc, ◌<◌, ◌⊎◌, inl, inr, Option, None, Some, arith, ⊎_elim}
use Rattle.physical_stream.specs.Rules.{number_of_rule}
use Rattle.physical_stream.specs.First.{Offence, IsNotAfter, IsFirst}

-- one number is below another, the same, or above it
compared : (a b : ℕ) → (a < b) ⊎ ((a ≡ b) ⊎ (b < a))
compared a b = grind arith

below_suc : (a b : ℕ) → a < suc b → (a < b) ⊎ (a ≡ b)
below_suc a b h = grind arith

module _ (Offends : Offence → Type 0) (none : (first : Option Offence) → IsFirst Offends first → ⊥) where
  -- no offence with these two and a rule below this number, none of this cycle and an earlier stream, and none of an earlier cycle
  abbrev NoRule : ℕ → ℕ → ℕ → Type 0
  NoRule c s r = (o : Offence) → o.cycle ≡ c → o.stream ≡ s → number_of_rule o.rule < r → Offends o → ⊥

  abbrev NoStream : ℕ → ℕ → Type 0
  NoStream c s = (o : Offence) → o.cycle ≡ c → o.stream < s → Offends o → ⊥

  abbrev NoCycle : ℕ → Type 0
  NoCycle c = (o : Offence) → o.cycle < c → Offends o → ⊥

  not_after : (o other : Offence) (c s r : ℕ) → o.cycle ≡ c → o.stream ≡ s → number_of_rule o.rule ≡ r → NoCycle c → NoStream c s → NoRule c s r → Offends other → IsNotAfter o other
  not_after o other c s r at_c at_s at_r cycles streams rules offends = by_cycle (compared o.cycle other.cycle)
    where
      by_rule : o.cycle ≡ other.cycle → o.stream ≡ other.stream → (number_of_rule o.rule < number_of_rule other.rule) ⊎ ((number_of_rule o.rule ≡ number_of_rule other.rule) ⊎ (number_of_rule other.rule < number_of_rule o.rule)) → IsNotAfter o other
      by_rule e f (inl less) = inr (e, inr (f, omega (arith, less)))
      by_rule e f (inr (inl same)) = inr (e, inr (f, omega (arith, same)))
      by_rule e f (inr (inr more)) = absurd (rules other (omega (arith, e, at_c)) (omega (arith, f, at_s)) (omega (arith, more, at_r)) offends)

      by_stream : o.cycle ≡ other.cycle → (o.stream < other.stream) ⊎ ((o.stream ≡ other.stream) ⊎ (other.stream < o.stream)) → IsNotAfter o other
      by_stream e (inl less) = inr (e, inl less)
      by_stream e (inr (inl same)) = by_rule e same (compared (number_of_rule o.rule) (number_of_rule other.rule))
      by_stream e (inr (inr more)) = absurd (streams other (omega (arith, e, at_c)) (omega (arith, more, at_s)) offends)

      by_cycle : (o.cycle < other.cycle) ⊎ ((o.cycle ≡ other.cycle) ⊎ (other.cycle < o.cycle)) → IsNotAfter o other
      by_cycle (inl less) = inl less
      by_cycle (inr (inl same)) = by_stream same (compared o.stream other.stream)
      by_cycle (inr (inr more)) = absurd (cycles other (omega (arith, more, at_c)) offends)

  no_rule : (c s r : ℕ) → NoCycle c → NoStream c s → NoRule c s r
  no_rule c s zero cycles streams = λ o at_c at_s below offends. absurd (omega (arith, below))
  no_rule c s (suc r) cycles streams =
      let before = no_rule c s r cycles streams in
      λ o at_c at_s below offends. ⊎_elim (λ less. before o at_c at_s less offends)
      (λ same. none (Some o) (offends, λ other other_offends. not_after o other c s r at_c at_s same cycles streams before other_offends))
      (below_suc (number_of_rule o.rule) r below)

  no_stream : (c s : ℕ) → NoCycle c → NoStream c s
  no_stream c zero cycles = λ o at_c below offends. absurd (omega (arith, below))
  no_stream c (suc s) cycles =
      let before = no_stream c s cycles in
      λ o at_c below offends. ⊎_elim (λ less. before o at_c less offends)
      (λ same. no_rule c s (suc (number_of_rule o.rule)) cycles before o at_c same (omega arith) offends)
      (below_suc o.stream s below)

  no_cycle : (c : ℕ) → NoCycle c
  no_cycle zero = λ o below offends. absurd (omega (arith, below))
  no_cycle (suc c) =
      let before = no_cycle c in
      λ o below offends. ⊎_elim (λ less. before o less offends)
      (λ same. no_stream c (suc o.stream) before o same (omega arith) offends)
      (below_suc o.cycle c below)

  -- so there are none
  no_offence : (o : Offence) → Offends o → ⊥
  no_offence o offends = no_cycle (suc o.cycle) o (omega arith) offends

pub first_of_all : (Offends : Offence → Type 0) → ((first : Option Offence) → IsFirst Offends first → ⊥) → ⊥
first_of_all Offends none = none None (no_offence Offends none)
