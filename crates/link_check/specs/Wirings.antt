-- The ends inside an implementation, as the code holds them. No public clause names them. This project's own.
use Rattle.std.specs.Prelude.{◌≡◌, ℕ, true, List, map, Option, Some, is_none, IfSome}
use Rattle.til_resolve.specs.PlainProject.{PlainStreamlet, plain_streamlet}
use Rattle.logical_types.specs.Tree.{Ltype, plain_of_stream}
use Rattle.til_resolve.specs.NumberedTypes.{HasTypeBy, HaveTypesBy}
use Rattle.til_resolve.specs.declared.project.Port.{Port}
use Rattle.til_resolve.specs.declared.project.Streamlet.{Streamlet}
use Rattle.link_check.specs.Ends as ends
use Rattle.link_check.specs.Links.{difference_of}
use Rattle.link_check.specs.Ends.{Inside, ports_at}
use Rattle.link_check.specs.declared.ends.Side.{Side}
use Rattle.link_check.specs.declared.wiring.Wiring.{Wiring}

abbrev pub side_lent : Side → ends.Side
side_lent side = record { is_source = side.is_source; ltype = plain_of_stream side.ltype.now }

abbrev pub streamlets_lent : Wiring → List PlainStreamlet
streamlets_lent wiring = map plain_streamlet wiring.streamlets.now

abbrev pub inside_lent : Wiring → Inside
inside_lent wiring = record { own = ports_at (streamlets_lent wiring) wiring.home; instances = wiring.instances.now }

-- an end whose port names the declaration of a number has the type of this number
abbrev pub IsTypedBy : (ℕ → Ltype) → Side → Type 0
IsTypedBy types side = IfSome side.declared (λ number. (side_lent side).ltype ≡ types number)

-- so it is for a port, and for an end, of these streamlets, whatever types their ports have by their numbers
abbrev pub HasTypeIn : List Streamlet → Port → Type 0
HasTypeIn streamlets port = (types : ℕ → Ltype) → HaveTypesBy types streamlets → HasTypeBy types port

abbrev pub IsTypedIn : List Streamlet → Side → Type 0
IsTypedIn streamlets side = (types : ℕ → Ltype) → HaveTypesBy types streamlets → IsTypedBy types side

-- two ends whose ports name one declaration do not differ
abbrev pub AreAlike : Side → Side → Type 0
AreAlike one other = (number : ℕ) → one.declared ≡ Some number → other.declared ≡ Some number → is_none (difference_of (side_lent one) (side_lent other)) ≡ true

-- two ends name one declaration
abbrev pub NameOneType : Side → Side → Type 0
NameOneType one other = (number : ℕ) × (one.declared ≡ Some number) × (other.declared ≡ Some number)
