-- The reader of projects: what it reads, and why it stops.
use Rattle.til_parser.proofs.rules.Common.{◌≡◌, ◌≢◌, ℕ, zero, suc, ◌<◌, ⊎_elim, inl, inr, true, false, List, [], ◌∷◌, All, length, Err, refl, sym, ap, ◌∙◌, subst}
use Rattle.til_parser.proofs.rules.Common.{repeated, Outcome, took, stopped, and_then, meant, repeated-all, took-both, Ast, AstNamespace, Spells, IsWithin, Lexeme}
use Rattle.til_parser.proofs.rules.Common.{IsFormed, ProjectTo, namespace, project_of, project}
use Rattle.tydi_reading.specs.declared.fault.Fault.{Fault}
use Rattle.tydi_reading.specs.declared.fault.Fault.TheVariants as reading
use Rattle.tydi_reading.specs.Faults.{Stop, refused, cut_off, unfit, IsStop, stop_at}
use Rattle.tydi_reading.proofs.StopLemmas as all
use Rattle.til_parser.specs.declared.fault.ParseFault.{ParseFault}
use Rattle.til_parser.specs.declared.fault.ParseFault.TheVariants as faults
use Rattle.til_parser.specs.Faults.{NamesToken, fault_at, IsFaultOf, IsTold, TreeOrFault}
use Rattle.til_parser.proofs.rules.ProjectRules.{project-rule}
use Rattle.til_parser.specs.declared.refusal.TooDeep.{TooDeep}

-- ---- the tree that is read

project-ends : (n : ℕ) (ts rest : List Lexeme) (ast : Ast) → project n ts ≡ took ast rest → rest ≡ []
unfolding project
project-ends n ts rest ast is = ends (repeated (λ _. false) true (namespace n) ts) refl is
  where
    ends : (made : Outcome TooDeep Lexeme (List AstNamespace)) → repeated (λ _. false) true (namespace n) ts ≡ made
        → and_then made (λ all. λ us. meant (project_of all) us us) ≡ took ast rest → rest ≡ []
    ends (took (x ∷ all) middle) made is = sym (took-both (record { namespaces = x ∷ all }) ast middle rest is).1 ∙ repeated-all (namespace n) (x ∷ all) ts middle made
    ends _ made is = absurd cc

pub project_sound : (n : ℕ) (ts rest : List Lexeme) (ast : Ast) → project n ts ≡ took ast rest → Spells ast ts × IsWithin n ast
project_sound n = all.all-sound _ _ _ _ _ _ (project-rule n) (λ x. refl) (project-ends n)

pub project_complete : (n : ℕ) (ts : List Lexeme) (ast : Ast) → All IsFormed ts → IsWithin n ast → Spells ast ts → project n ts ≡ took ast []
project_complete n = all.all-complete _ _ _ _ _ _ (project-rule n) (λ x. refl) (project-ends n)

-- ---- why it stops

abbrev fault_of : Stop → ParseFault
fault_of (refused k) = faults.Unexpected k
fault_of cut_off = faults.EndOfText
fault_of (unfit k) = faults.TooDeep k

fault-is : (ts : List Lexeme) (stop : Stop) → IsStop IsFormed Spells (ProjectTo 64) ts stop → IsFaultOf ts (fault_of stop)
fault-is ts cut_off s = s
fault-is ts _ s = s

stop-is : (ts : List Lexeme) (fault : ParseFault) → IsFaultOf ts fault → (stop : Stop) × (fault ≡ fault_of stop) × IsStop IsFormed Spells (ProjectTo 64) ts stop
stop-is ts (faults.Unexpected k) f = (refused k, refl, f)
stop-is ts faults.EndOfText f = (cut_off, refl, f)
stop-is ts (faults.TooDeep k) f = (unfit k, refl, f)
stop-is ts faults.Memory f = absurd f

same_at : (e : Fault TooDeep) (count left : ℕ) → e ≢ reading.Memory → fault_of (stop_at e count left) ≡ fault_at e count left
same_at reading.Refused count zero other = refl
same_at reading.Refused count (suc left) other = refl
same_at (reading.Unfit _) count left other = refl
same_at reading.Memory count left other = absurd (other refl)

pub tree_or_fault : (ts : List Lexeme) → All IsFormed ts → TreeOrFault ts
tree_or_fault ts formed = record {
  either = ⊎_elim (λ tree. inl tree) (λ s. inr (fault_of s.0, fault-is ts s.0 s.1)) (all.spelled-or _ _ _ _ _ _ (project-rule 64) (λ x. refl) (project-ends 64) ts formed);
  apart = λ fault f. let s = stop-is ts fault f in all.stop-none _ _ _ _ _ _ (project-rule 64) (λ x. refl) (project-ends 64) ts formed s.0 s.2;
  one = λ fault other f g. let s = stop-is ts fault f in let o = stop-is ts other g in
      s.1 ∙ ap fault_of (all.stop-one IsFormed Spells (ProjectTo 64) ts formed s.0 o.0 s.2 o.2) ∙ sym o.1;
}

-- ---- the clauses of `parse`

-- the error of so many tokens, where so many are left
pub said : (ts left : List Lexeme) (count some : ℕ) (e : Fault TooDeep) (fault : ParseFault) → All IsFormed ts → (e ≢ reading.Memory → project 64 ts ≡ stopped e left)
    → fault ≡ fault_at e count some → count ≡ length ts → some ≡ length left → fault ≢ faults.Memory → IsFaultOf ts fault
said ts left count some e fault formed reads is every rest other =
    let apart : e ≢ reading.Memory = λ memory. other (is ∙ ap (λ f. fault_at f count some) memory) in
    rw (is, every, rest, ← same_at e (length ts) (length left) apart) (fault-is ts (stop_at e (length ts) (length left))
    (all.exact _ _ _ _ _ _ (project-rule 64) (λ x. refl) (project-ends 64) ts left e formed (reads apart)))

pub named : (ts : List Lexeme) (count : ℕ) (fault : ParseFault) → count ≡ length ts → (fault ≢ faults.Memory → IsFaultOf ts fault) → NamesToken count fault
named ts count (faults.Unexpected k) every is = subst (λ n. k < n) (sym every) (is (λ e. absurd cc)).there
named ts count (faults.TooDeep k) every is = subst (λ n. k < n) (sym every) (is (λ e. absurd cc)).there
named ts count _ every is = tt

-- parsing tokens with an error reports it, or want of memory
pub told : (ts : List Lexeme) → All IsFormed ts → (fault : ParseFault) → (fault ≢ faults.Memory → IsFaultOf ts fault) → IsTold ts (Err fault)
told ts formed faults.Memory is other f = inr refl
told ts formed fault is other f = inl (ap Err ((tree_or_fault ts formed).one fault other (is (λ e. absurd cc)) f))
