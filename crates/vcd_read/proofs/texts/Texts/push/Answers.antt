use Rattle.std.proofs.Common.{◌∙◌, ◌++◌, ◌∷◌, [], map, if◌then◌else◌, ap}
use Rattle.std.proofs.lemmas.List.{map-append}
use Rattle.vcd_read.specs.Numbers.{number_of}
use Rattle.vcd_read.proofs.NumberLemmas.{none-number}
use Rattle.vcd_read.proofs.texts.Texts.push.Goals as goal

pub returns : goal.returns
returns c =
    let keys = c.self.inside.texts.keys in
    let owned = c.in_ok-owned.owned in
    let none = none-number (λ text. text.items) owned.items keys
    (ap (number_of (map (λ text. text.items) keys)) c.in_ok-owned.ensures.items ∙ ap (λ texts. number_of texts c.args.text.now) c.self.view_is
    ∙ c.requires) in
    ap (map (λ text. text.items)) (c.in_ok-insert.ensures.keys ∙ ap (λ test. if test then keys else keys ++ owned ∷ []) none)
    ∙ map-append (λ text. text.items) keys (owned ∷ []) ∙ (λ i. c.self.view_is i ++ c.in_ok-owned.ensures.items i ∷ [])
