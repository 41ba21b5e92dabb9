-- Links of small designs, by evaluation: the definitions say what a reader of the text expects.
use Rattle.std.proofs.Common.{◌≡◌, inl, inr, ℕ, Bool, true, false, List, [], ◌∷◌, Some, None, refl, ap, codes, arith}
use Rattle.tydi_base.specs.Level.{LevelNumbers, whole_level, at_most, are_at_most}
use Rattle.tydi_base.specs.declared.place.Place.{Place}
use Rattle.logical_types.specs.declared.ltype.Sync.TheVariants as syncs
use Rattle.logical_types.specs.Tree.{Ltype, null, bits, group, stream, no_parts, part, Settings}
use Rattle.til_resolve.specs.PlainProject.{PlainPort, PlainStreamlet}
use Rattle.til_resolve.specs.declared.project.Impl.TheVariants as impls
use Rattle.til_resolve.specs.declared.project.Instance.{Instance}
use Rattle.til_resolve.specs.declared.project.Link.{Link}
use Rattle.til_resolve.specs.declared.project.LinkEnd.{LinkEnd}
use Rattle.link_check.specs.Chains.{LeadsToSink}
use Rattle.link_check.specs.Differences.{first_difference, why_of_streams}
use Rattle.link_check.specs.Kinds.{is_same_kind}
use Rattle.link_check.specs.Links.{Body, fault_of_body, nets_of}
use Rattle.link_check.specs.Order.{bodies_from}
use Rattle.link_check.specs.SameTypes.{is_same_sync}
use Rattle.link_check.specs.Checked.{AreNets, impl_of}
use Rattle.link_check.specs.Sizes.{instances_down}
use Rattle.link_check.specs.Text.{nets_text}
use Rattle.link_check.specs.declared.difference.Why.TheVariants as whys
use Rattle.link_check.specs.declared.fault.LinkFault.TheVariants as faults
use Rattle.link_check.specs.declared.leaf.LeafPort.{LeafPort}
use Rattle.link_check.proofs.ChainLemmas.{chains_end_in_one_sink}

-- ---- types

abbrev settings : LevelNumbers → Bool → Settings
settings level reverse = record { throughput = record { num = 1; den = 1 }; dims = 0; sync = syncs.Sync; level = level; reverse = reverse; keep = false }

-- a Stream of bytes of this level
abbrev bytes_at : LevelNumbers → Ltype
bytes_at level = stream (bits 8) null (settings level false)

abbrev reversed_at : LevelNumbers → Ltype
reversed_at level = stream (bits 8) null (settings level true)

abbrev dotted : ℕ → ℕ → LevelNumbers
dotted first second = record { first = first; second = second; third = 0; fourth = 0 }

-- a source of level 5 may not drive a sink of level 3
high_to_low : first_difference false (bytes_at (whole_level 5)) (bytes_at (whole_level 3)) ≡ Some (record { path = []; why = whys.Level })
unfolding at_most are_at_most why_of_streams is_same_kind is_same_sync
high_to_low = refl

-- where both are reversed, it may
high_to_low_reversed : first_difference false (reversed_at (whole_level 5)) (reversed_at (whole_level 3)) ≡ None
unfolding at_most are_at_most why_of_streams is_same_kind is_same_sync
high_to_low_reversed = refl

-- 4.9 is below 4.10, and 4.0 is 4
by_number : first_difference false (bytes_at (dotted 4 9)) (bytes_at (dotted 4 10)) ≡ None
unfolding at_most are_at_most why_of_streams is_same_kind is_same_sync
by_number = refl

not_by_digit : first_difference false (bytes_at (dotted 4 10)) (bytes_at (dotted 4 9)) ≡ Some (record { path = []; why = whys.Level })
unfolding at_most are_at_most why_of_streams is_same_kind is_same_sync
not_by_digit = refl

-- a Stream inside a field, reversed, in a Stream that flows forward
abbrev with_answer : LevelNumbers → Ltype
with_answer level = stream (group (part (codes "ask") (bits 8) (part (codes "answer") (reversed_at level) no_parts))) null (settings (whole_level 4) false)

-- the answer flows from the sink to the source, so the sink's level may not be the higher one
answer_may_rise : first_difference false (with_answer (whole_level 7)) (with_answer (whole_level 2)) ≡ None
unfolding at_most are_at_most why_of_streams is_same_kind is_same_sync
answer_may_rise = refl

answer_may_not_fall : first_difference false (with_answer (whole_level 2)) (with_answer (whole_level 7)) ≡ Some (record { path = codes "answer" ∷ []; why = whys.Level })
unfolding at_most are_at_most why_of_streams is_same_kind is_same_sync
answer_may_not_fall = refl

-- other names of parts are reported at the Group
other_names : first_difference false (stream (group (part (codes "a") null no_parts)) null (settings (whole_level 4) false))
    (stream (group (part (codes "b") null no_parts)) null (settings (whole_level 4) false)) ≡ Some (record { path = []; why = whys.Shape })
unfolding at_most are_at_most why_of_streams is_same_kind is_same_sync
other_names = refl

-- the level is looked for before the direction, by the source's direction
level_before_direction : first_difference false (reversed_at (whole_level 2)) (bytes_at (whole_level 3)) ≡ Some (record { path = []; why = whys.Level })
unfolding at_most are_at_most why_of_streams is_same_kind is_same_sync
level_before_direction = refl

-- ---- a design

abbrev at : ℕ → Place
at offset = record { offset = offset; line = 1; column = 1 }

abbrev port : List ℕ → Bool → PlainPort
port name inward = record { name = name; inward = inward; ltype = bytes_at (whole_level 4) }

abbrev own : List ℕ → LinkEnd
own name = record { instance = None; port = name }

abbrev of : List ℕ → List ℕ → LinkEnd
of instance name = record { instance = Some instance; port = name }

abbrev link : LinkEnd → LinkEnd → ℕ → Link
link first second offset = record { first = first; second = second; place = at offset }

-- streamlet invert = (a: in bytes, b: out bytes); streamlet top = (a: in bytes, b: out bytes);
-- impl wiring of top = { i = invert; LINKS };
abbrev ports : List PlainPort
ports = port (codes "a") true ∷ port (codes "b") false ∷ []

abbrev instances : List Instance
instances = record { name = codes "i"; streamlet = 0 } ∷ []

abbrev design : List Link → List PlainStreamlet
design links = record { path = codes "invert" ∷ []; ports = ports; body = None }
    ∷ record { path = codes "top" ∷ []; ports = ports; body = Some (impls.Structural (at 9) instances links) } ∷ []

abbrev wiring : List Link → Body
wiring links = record { streamlet = 1; place = at 9; inside = record { own = ports; instances = instances }; links = links }

its_body : (links : List Link) → bodies_from 0 (design links) ≡ wiring links ∷ []
its_body links = refl

abbrev in_link : Link
in_link = link (own (codes "a")) (of (codes "i") (codes "a")) 10

abbrev out_link : Link
out_link = link (own (codes "b")) (of (codes "i") (codes "b")) 20

-- a -- i.a; b -- i.b;
it_stands : fault_of_body (design (in_link ∷ out_link ∷ [])) (wiring (in_link ∷ out_link ∷ [])) ≡ None
unfolding at_most are_at_most why_of_streams is_same_kind is_same_sync
it_stands = refl

-- the end that gives the data comes first, in whatever order the link names the two
its_nets : nets_of (design (in_link ∷ out_link ∷ [])) (wiring (in_link ∷ out_link ∷ []))
    ≡ record { source = own (codes "a"); sink = of (codes "i") (codes "a") } ∷ record { source = of (codes "i") (codes "b"); sink = own (codes "b") } ∷ []
its_nets = refl

-- a -- i.a; and no more: the own port `b` is not linked
not_linked : fault_of_body (design (in_link ∷ [])) (wiring (in_link ∷ [])) ≡ Some (faults.Unlinked (at 9))
unfolding at_most are_at_most why_of_streams is_same_kind is_same_sync
not_linked = refl

-- a -- i.c;
unknown : fault_of_body (design []) (wiring (link (own (codes "a")) (of (codes "i") (codes "c")) 10 ∷ [])) ≡ Some (faults.UnknownEnd (at 10))
unknown = refl

-- a -- a;
to_itself : fault_of_body (design []) (wiring (link (own (codes "a")) (own (codes "a")) 10 ∷ [])) ≡ Some (faults.SameSide (at 10))
to_itself = refl

-- a -- i.a; a -- b; the later link is reported
linked_again : fault_of_body (design []) (wiring (in_link ∷ link (own (codes "a")) (own (codes "b")) 20 ∷ [])) ≡ Some (faults.LinkedTwice (at 20))
unfolding at_most are_at_most why_of_streams is_same_kind is_same_sync
linked_again = refl

-- ---- sizes

-- streamlets each with two instances of the next, the last with none
abbrev tower : ℕ → PlainStreamlet
tower next = record { path = []; ports = []; body = Some (impls.Structural (at 0) (record { name = codes "i"; streamlet = next } ∷ record { name = codes "k"; streamlet = next } ∷ []) []) }

-- two, and two in each of them, and two in each of those
three_levels : instances_down (tower 1 ∷ tower 2 ∷ tower 3 ∷ record { path = []; ports = []; body = None } ∷ []) 9 0 ≡ 14
three_levels = refl

-- ---- the text of nets

its_text : nets_text (design (in_link ∷ out_link ∷ [])) (record { impls = impl_of (design (in_link ∷ out_link ∷ [])) (wiring (in_link ∷ out_link ∷ [])) ∷ [] })
    ≡ codes "impl top\nnet a i.a\nnet i.b b\n"
its_text = refl

-- ---- chains

-- its port `a` leads to the port `a` of its instance, and not to its own port `b`
abbrev its_streamlets : List PlainStreamlet
its_streamlets = design (in_link ∷ out_link ∷ [])

abbrev leaf : List (List ℕ) → List ℕ → LeafPort
leaf those name = record { top = 1; instances = those; port = name }

it_leads : LeadsToSink its_streamlets (impl_of its_streamlets (wiring (in_link ∷ out_link ∷ [])) ∷ []) (leaf [] (codes "a")) (leaf (codes "i" ∷ []) (codes "a"))
it_leads = record {
  is_source = inl (refl, record { number = 1; under = refl; design_is = refl; port = port (codes "a") true; named = refl; inward_is = refl });
  is_sink = inr (λ empty. absurd cc, record { number = 0; under = refl; design_is = refl; port = port (codes "a") true; named = refl; inward_is = refl });
  way = (
    [],
    record {
      instances = [];
      number = 1;
      under = refl;
      impl = impl_of its_streamlets (wiring (in_link ∷ out_link ∷ []));
      among = (0, omega arith, refl);
      its = refl;
      net = record { source = own (codes "a"); sink = of (codes "i") (codes "a") };
      inside = (0, omega arith, refl);
      from = refl;
      to = refl;
    },
  );
}

-- so it leads to no other sink, its own port `b` among them
no_path : AreNets its_streamlets (record { impls = impl_of its_streamlets (wiring (in_link ∷ out_link ∷ [])) ∷ [] })
    → LeadsToSink its_streamlets (impl_of its_streamlets (wiring (in_link ∷ out_link ∷ [])) ∷ []) (leaf [] (codes "a")) (leaf [] (codes "b")) → ⊥
no_path are leads =
    let same : ◌≡◌ {A = List (List ℕ)} (codes "i" ∷ []) [] = ap (λ (l : LeafPort). l.instances)
    (chains_end_in_one_sink its_streamlets (record { impls = impl_of its_streamlets (wiring (in_link ∷ out_link ∷ [])) ∷ [] }) are (leaf [] (codes "a"))
    (leaf (codes "i" ∷ []) (codes "a")) (leaf [] (codes "b")) it_leads leads) in
    absurd cc
