-- The text of a bench, part after part.
use Rattle.std.proofs.Common.{◌≡◌, ℕ, Option, refl}
use Rattle.physical_stream.specs.declared.head.Head.{Head}
use Rattle.signal_layout.specs.declared.signal.Signal.{Signal}
use Rattle.signal_layout.specs.declared.signal.Signal.TheVariants as signals
use Rattle.vhdl_text.specs.Text.{ports_of}

-- the ports depend on the widths of the payload signals alone
pub ports_of-same : (head : Head) (w v : Signal → Option ℕ) → ((s : Signal) → w s ≡ v s) → ports_of head w ≡ ports_of head v
ports_of-same head w v same = rw (same signals.Content, same signals.Last, same signals.Stai, same signals.Endi, same signals.Strb, same signals.User) refl
