-- Names are ASCII, and so UTF-8.
use Rattle.std.proofs.Common.{◌≡◌, ℕ, zero, suc, ◌<◌, Bool, true, false, ◌&&◌, not, List, [], ◌∷◌, get_or, refl, arith}
use Rattle.std.specs.Prelude.{IsTrue}
use Rattle.std.specs.List.{list_all}
use Rattle.std.specs.Str.{IsUtf8}
use Rattle.std.proofs.lemmas.Bool.Decides.{nat_tests}
use Rattle.std.proofs.lemmas.Str.{IsUtf8-from_ascii}
use Rattle.tydi_base.specs.Name.{begins_with_letter, ends_in_underscore, has_double_underscore, is_name, is_name_byte, is_reserved}

byte-ascii : (byte : ℕ) → is_name_byte byte ≡ true → byte < 128
byte-ascii byte is = grind (arith, nat_tests)

byte_at : (bytes : List ℕ) (at : ℕ) → list_all is_name_byte bytes ≡ true → get_or bytes at 0 < 128
byte_at [] at all = omega arith
byte_at (byte ∷ bytes) at all = by (is_name_byte byte) at refl all (byte_at bytes)
  where
    by : (is : Bool) (at : ℕ) → is_name_byte byte ≡ is → (is && list_all is_name_byte bytes) ≡ true → ((at : ℕ) → list_all is_name_byte bytes ≡ true → get_or bytes at 0 < 128) → get_or (byte ∷ bytes) at 0 < 128
    by true zero is all further = byte-ascii byte is
    by true (suc at) is all further = further at all
    by false at is all further = absurd cc

name_bytes : (name : List ℕ) → is_name name ≡ true → list_all is_name_byte name ≡ true
name_bytes name is = by (begins_with_letter name) (list_all is_name_byte name) (has_double_underscore name) (ends_in_underscore name) (is_reserved name) is
  where
    by : (letter all double last reserved : Bool) → ((letter && all && not double && not last) && not reserved) ≡ true → all ≡ true
    by true true double last reserved is = refl
    by true false double last reserved is = absurd cc
    by false all double last reserved is = absurd cc

pub name-utf8 : (name : List ℕ) → IsTrue (is_name name) → IsUtf8 name
name-utf8 name is = IsUtf8-from_ascii name (λ at. byte_at name at (name_bytes name is))
