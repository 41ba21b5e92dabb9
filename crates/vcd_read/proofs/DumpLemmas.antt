-- What is kept of a dump, part by part.
use Rattle.std.proofs.Common.{◌≡◌, ◌∙◌, ℕ, ◌-◌, Bool, true, false, List, [], ◌∷◌, ◌++◌, take, length, Option, Some, None, if◌then◌else◌, refl, sym, ap, subst}
use Rattle.std.specs.Cmp.Lexicographic.{pointwise}
use Rattle.std.specs.Option.{option_or}
use Rattle.std.specs.Str.{bytes_eq}
use Rattle.vcd_read.specs.Dump.{IsKept}
use Rattle.vcd_read.specs.History.{Part, Opens, Closes, Declares, Ends, Stamps, Changes, back_at, before_block, clock_in, declared_width, is_back}
use Rattle.vcd_read.specs.History.{is_inside, is_same_time, known, signal_in, states_at, time_back, time_of, edge, edges, edges_before, has_ended}
use Rattle.vcd_read.specs.Numbers.{number_of}
use Rattle.vcd_read.specs.Sampling as sampling
use Rattle.vcd_read.specs.Variables as variables
use Rattle.vcd_read.specs.Variables.{AreVariables, IsNumbered, IsSignal}
use Rattle.vcd_read.specs.Wires as wires
use Rattle.vcd_read.specs.Wires.{AreWires, IsUndeclared, IsWire}
use Rattle.vcd_read.specs.Wanted.{Wanted}
use Rattle.vcd_read.specs.declared.sampler.Sampler.{Sampler}
use Rattle.vcd_read.specs.declared.state.State.{State}
use Rattle.vcd_read.specs.declared.scopes.Scopes.{Scopes}
use Rattle.vcd_read.specs.declared.times.Times.{Times}
use Rattle.vcd_read.specs.declared.variables.Variables.{Variables}
use Rattle.vcd_read.specs.declared.wire.Wire.{Wire}
use Rattle.vcd_read.specs.declared.wires.Wires.{Wires}
use Rattle.vcd_read.proofs.SamplerLemmas.{declares-sampler, same-sampler, stamp-edges}

-- codes that are the same after other parts
module _ (codes : List (List ℕ)) (kept : List Wire) (block : ℕ) (parts other : List Part) (widths : (code : List ℕ)
    → declared_width code other ≡ declared_width code parts)
    (states : (code : List ℕ) → states_at code other ≡ states_at code parts) (before : (code : List ℕ)
    → states_at code (before_block other) ≡ states_at code (before_block parts)) where
  same-kept : (code : List ℕ) (place : Option ℕ) → wires.IsKept kept block code parts place → wires.IsKept kept block code other place
  same-kept code None is = record { width = widths code ∙ is.width; current = states code ∙ is.current; earlier = before code ∙ is.earlier }
  same-kept code (Some n) is = (
    is.0,
    (
      is.1.0,
      record {
        width = widths code ∙ is.1.1.width;
        current = is.1.1.current ∙ ap known (sym (states code));
        earlier = is.1.1.earlier ∙ ap known (sym (before code));
        past = is.1.1.past;
        current_wide = is.1.1.current_wide;
        earlier_wide = is.1.1.earlier_wide;
      },
    ),
  )

  pub same-wires : AreWires codes kept block parts → AreWires codes kept block other
  same-wires are = record { long = are.long; each = λ code. same-kept code (number_of codes code) (are.each code) }

-- signals that are the same after other parts
pub same-variables : (codes scope names : List (List ℕ)) (numbers : List ℕ) (clock : Option ℕ) (parts other : List Part) → ((name : List ℕ)
    → signal_in scope name other ≡ signal_in scope name parts)
    → clock_in scope other ≡ clock_in scope parts → AreVariables codes scope names numbers clock parts → AreVariables codes scope names numbers clock other
same-variables codes scope names numbers clock parts other signals clocks are = record {
  long = are.long;
  each = λ name. subst (λ (o : Option (List ℕ)). IsSignal codes numbers o (number_of names name)) (sym (signals name)) (are.each name);
  clock_is = subst (λ (o : Option (List ℕ)). IsNumbered codes o clock) (sym clocks) are.clock_is;
}

module _ (wanted : Wanted) (scopes : Scopes) (ended : Bool) (kept : Wires) (named : Variables) (times : Times) (sampler : Sampler) (parts : List Part)
    (is : IsKept wanted scopes ended kept named times sampler parts) where
  -- a scope opens
  pub after-opens : (name : List ℕ) (new : Scopes) → new.open ≡ scopes.open ++ name ∷ [] → new.wanted ≡ scopes.wanted
      → IsKept wanted new ended kept named times sampler (Opens name ∷ parts)
  after-opens name new opened same = record {
    open_are = opened ∙ ap (λ (l : List (List ℕ)). l ++ name ∷ []) is.open_are;
    wanted_is = same ∙ is.wanted_is;
    ended_is = is.ended_is;
    wires_are = same-wires kept.codes kept.wires kept.block parts (Opens name ∷ parts) (λ code. refl) (λ code. refl) (λ code. refl) is.wires_are;
    variables_are = same-variables kept.codes wanted.scope named.names named.numbers named.clock parts (Opens name ∷ parts) (λ n. refl) refl is.variables_are;
    last = is.last;
    back = is.back;
    sampled = same-sampler wanted kept.codes parts (Opens name ∷ parts) (λ clock. edges_before clock parts)
        (λ clock. edges_before clock (Opens name ∷ parts)) refl refl refl refl (λ clock. refl) sampler is.sampled;
  }

  -- a scope closes
  pub after-closes : (new : Scopes) → new.open ≡ take (length scopes.open - 1) scopes.open → new.wanted ≡ scopes.wanted
      → IsKept wanted new ended kept named times sampler (Closes ∷ parts)
  after-closes new closed same = record {
    open_are = closed ∙ ap (λ (l : List (List ℕ)). take (length l - 1) l) is.open_are;
    wanted_is = same ∙ is.wanted_is;
    ended_is = is.ended_is;
    wires_are = same-wires kept.codes kept.wires kept.block parts (Closes ∷ parts) (λ code. refl) (λ code. refl) (λ code. refl) is.wires_are;
    variables_are = same-variables kept.codes wanted.scope named.names named.numbers named.clock parts (Closes ∷ parts) (λ n. refl) refl is.variables_are;
    last = is.last;
    back = is.back;
    sampled = same-sampler wanted kept.codes parts (Closes ∷ parts) (λ clock. edges_before clock parts)
        (λ clock. edges_before clock (Closes ∷ parts)) refl refl refl refl (λ clock. refl) sampler is.sampled;
  }

  -- the declarations end
  pub after-ends : (new : Sampler) → sampling.StandsFor wanted kept.codes new (Ends ∷ parts) → IsKept wanted scopes true kept named times new (Ends ∷ parts)
  after-ends new sampled = record {
    open_are = is.open_are;
    wanted_is = is.wanted_is;
    ended_is = refl;
    wires_are = same-wires kept.codes kept.wires kept.block parts (Ends ∷ parts) (λ code. refl) (λ code. refl) (λ code. refl) is.wires_are;
    variables_are = same-variables kept.codes wanted.scope named.names named.numbers named.clock parts (Ends ∷ parts) (λ n. refl) refl is.variables_are;
    last = is.last;
    back = is.back;
    sampled = sampled;
  }

  -- a code changes
  pub after-changes : (code : List ℕ) (states : List State) (new : Wires) → new.codes ≡ kept.codes → wires.StandFor new (Changes code states ∷ parts)
      → IsKept wanted scopes ended new named times sampler (Changes code states ∷ parts)
  after-changes code states new codes are = record {
    open_are = is.open_are;
    wanted_is = is.wanted_is;
    ended_is = is.ended_is;
    wires_are = are;
    variables_are = subst (λ (cs : List (List ℕ)). AreVariables cs wanted.scope named.names named.numbers named.clock (Changes code states ∷ parts))
        (sym codes)
        (same-variables kept.codes wanted.scope named.names named.numbers named.clock parts (Changes code states ∷ parts) (λ n. refl) refl is.variables_are);
    last = is.last;
    back = is.back;
    sampled = subst (λ (cs : List (List ℕ)). sampling.StandsFor wanted cs sampler (Changes code states ∷ parts)) (sym codes)
        (same-sampler wanted kept.codes parts (Changes code states ∷ parts) (λ clock. edges_before clock parts)
        (λ clock. edges_before clock (Changes code states ∷ parts)) refl refl refl refl (λ clock. refl) sampler is.sampled);
  }

  -- whether the wanted scope is open
  pub inside-is : is_inside wanted.scope parts ≡ pointwise bytes_eq scopes.open scopes.wanted
  inside-is = λ i. pointwise bytes_eq (sym is.open_are i) (sym is.wanted_is i)

  -- a signal is declared
  pub after-declares : (width : ℕ) (code name : List ℕ) (new : Wires) (signals : Variables) → wires.StandFor new (Declares width code name ∷ parts)
      → variables.StandFor new.codes wanted.scope signals (Declares width code name ∷ parts)
      → has_ended parts ≡ false → IsKept wanted scopes ended new signals times sampler (Declares width code name ∷ parts)
  after-declares width code name new signals are also open_yet = record {
    open_are = is.open_are;
    wanted_is = is.wanted_is;
    ended_is = is.ended_is;
    wires_are = are;
    variables_are = also;
    last = is.last;
    back = is.back;
    sampled = declares-sampler wanted kept.codes new.codes parts width code name open_yet sampler is.sampled;
  }

  -- a time stamp
  module _ (offset time : ℕ) (after : Times) (last : after.last ≡ Some time) (back : after.back ≡ option_or times.back (back_at (is_back times.last time)
      offset)) where
    back-is : after.back ≡ option_or (time_back parts) (back_at (is_back (time_of parts) time) offset)
    back-is = back ∙ (λ i. option_or (is.back i) (back_at (is_back (is.last i) time) offset))

    pub after-same : is_same_time times.last time ≡ true → IsKept wanted scopes ended kept named after sampler (Stamps offset time ∷ parts)
    after-same same = record {
      open_are = is.open_are;
      wanted_is = is.wanted_is;
      ended_is = is.ended_is;
      wires_are = same-wires kept.codes kept.wires kept.block parts (Stamps offset time ∷ parts) (λ code. refl) (λ code. refl)
          (λ code. ap (λ test. states_at code (if test then before_block parts else parts)) (ap (λ (o : Option ℕ). is_same_time o time) (sym is.last)
          ∙ same)) is.wires_are;
      variables_are = same-variables kept.codes wanted.scope named.names named.numbers named.clock parts (Stamps offset time ∷ parts)
          (λ n. refl) refl is.variables_are;
      last = last;
      back = back-is;
      sampled = same-sampler wanted kept.codes parts (Stamps offset time ∷ parts) (λ clock. edges_before clock parts)
          (λ clock. edges_before clock (Stamps offset time ∷ parts)) refl refl refl refl
          (λ clock. ap (λ (test : Bool). if test then edges_before clock parts else edges_before clock parts ++ edge clock parts)
          (ap (λ (o : Option ℕ). is_same_time o time) (sym is.last) ∙ same)) sampler is.sampled;
    }

    pub after-new : (new : Wires) (later : Sampler) → is_same_time times.last time ≡ false → new.codes ≡ kept.codes
        → wires.StandFor new (Stamps offset time ∷ parts)
        → sampling.StandsAt wanted kept.codes later parts (λ clock. edges clock parts) → IsKept wanted scopes ended new named after later (Stamps offset time
        ∷ parts)
    after-new new later other codes are at = record {
      open_are = is.open_are;
      wanted_is = is.wanted_is;
      ended_is = is.ended_is;
      wires_are = are;
      variables_are = subst (λ (cs : List (List ℕ)). AreVariables cs wanted.scope named.names named.numbers named.clock (Stamps offset time ∷ parts))
          (sym codes)
          (same-variables kept.codes wanted.scope named.names named.numbers named.clock parts (Stamps offset time ∷ parts) (λ n. refl) refl is.variables_are);
      last = last;
      back = back-is;
      sampled = subst (λ (cs : List (List ℕ)). sampling.StandsFor wanted cs later (Stamps offset time ∷ parts)) (sym codes)
          (same-sampler wanted kept.codes parts (Stamps offset time ∷ parts) (λ clock. edges clock parts)
          (λ clock. edges_before clock (Stamps offset time ∷ parts)) refl refl refl refl
          (λ clock. stamp-edges wanted parts offset time clock (ap (λ (o : Option ℕ). is_same_time o time) (sym is.last) ∙ other)) later at);
    }
