use Rattle.std.proofs.Common.{◌≡◌, ◌≤◌, length, map, take}
use Rattle.std.specs.List.{flat_map}
use Rattle.til_resolve.specs.PlainProject.{plain_streamlet}
use Rattle.link_check.specs.Text.{impl_text}
use Rattle.link_check.proofs.text.nets_text.Given as goal

-- the text of the implementations so far, which is within the limit
abbrev pub invariant-impls : goal.invariant-impls
invariant-impls l = record {
  text : l.text ≡ flat_map (impl_text (map plain_streamlet l.streamlets)) (take l.one-index l.one-items);
  within : length l.text ≤ l.limit;
}
