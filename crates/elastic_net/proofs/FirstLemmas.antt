-- A chain before its first step.
use Rattle.std.proofs.Common.{◌≡◌, ◌∙◌, ℕ, zero, suc, ◌+◌, ◌^◌, ◌<◌, false, List, length, take, drop, sum, replicate, slice_index, None, refl, sym, ap, arith}
use Rattle.std.proofs.lemmas.List.{get_or-replicate, length-replicate}
use Rattle.physical_stream.specs.Params.{Parameters}
use Rattle.physical_stream.specs.Items.{items_of_all}
use Rattle.physical_stream.specs.Shape.{tail_of}
use Rattle.physical_stream.specs.declared.transfer.Transfer.{Transfer}
use Rattle.elastic_net.specs.Orders.{how_many}
use Rattle.elastic_net.specs.States.{beyond, first_state}
use Rattle.elastic_net.specs.Standing.{KeepsChain, KeepsShown}
use Rattle.elastic_net.proofs.NumberLemmas.{beyond-zeros, falling-zeros, many-same}

pub many-zeros : (i many : ℕ) → how_many (suc i) (replicate many 0) ≡ 0
many-zeros i zero = refl
many-zeros i (suc many) = many-same (suc i) 0 (replicate many 0) (λ is. omega (arith, is)) ∙ many-zeros i many

pub first-chain : (p : Parameters) (ts : List Transfer) (gaps stages past : List ℕ) (places rest : List Transfer) (pause total : ℕ) → past ≡ replicate (length stages + 1) 0 → sum stages + 1 < length places → total ≡ length ts → total < 2 ^ 64 →
    rest ≡ ts → KeepsChain p ts gaps stages (first_state ts) past false places rest pause None total
first-chain p ts gaps stages past places rest pause total zeros size all few same =
    let none : beyond 0 (replicate (length ts) 0) ≡ 0 = beyond-zeros 0 (length ts) in
    record {
      numbers = record {
        many = length-replicate (length ts) 0;
        falling = falling-zeros (suc (length stages)) (length ts);
        room = λ stage less. omega (arith, many-zeros stage (length ts));
        counts = λ component upto. ap (λ (l : List ℕ). slice_index l component) zeros ∙ get_or-replicate (length stages + 1) component 0 0 (omega (arith, upto)) ∙ sym (beyond-zeros component (length ts));
      };
      ring = record {
        size = size;
        within = omega (arith, none);
        left = ap (λ (n : ℕ). drop n ts) none ∙ sym same;
        held = λ t upto less. absurd (omega (arith, less, none));
      };
      source = record {
        tail_is = sym (ap (λ (n : ℕ). tail_of (items_of_all p (take n ts))) none);
        gap = λ sure. cc;
        fresh = λ free some. refl;
      };
      all = all;
      few = few;
    }

pub first-shown : (ts : List Transfer) (stages : List ℕ) (number : ℕ) → KeepsShown stages ts (first_state ts) false false number
first-shown ts stages number = record { is = refl; there = λ sure. cc }
