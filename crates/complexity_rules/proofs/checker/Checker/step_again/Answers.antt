use Rattle.std.proofs.Common.{◌≡◌, ◌∙◌, Some, None, true, refl, ap, sym, subst}
use Rattle.physical_stream.specs.declared.transfer.Transfer.{Transfer}
use Rattle.complexity_rules.specs.Checking.{Sees}
use Rattle.complexity_rules.specs.Waiting.{IsLowestShown}
use Rattle.complexity_rules.proofs.CheckerLemmas.{IsStep-seen, IsStep-hold, waiting_some}
use Rattle.complexity_rules.proofs.LowestLemmas.{lowest_again, lowest_held}
use Rattle.complexity_rules.proofs.checker.Checker.step_again.Goals as goal

pub returns-then-not-has_offered : goal.returns-then-not-has_offered
returns-then-not-has_offered c =
    IsStep-hold c.args.self.now _ c.hold.result c.hold.ensures.rule
    (λ before stands.
    lowest_held c.args.self.now.params before c.args.ready (Some c.args.transfer.now) c.args.self.now.offered c.hold.ensures.binds
    (waiting_some c.args.self.now before c.requires.waits stands) (λ same. let is : c.args.transfer.now ≡ c.args.self.now.offered = cc in let on = c.has_offered.ensures.1 is in cc))

pub returns : goal.returns
returns c =
    let is : c.args.transfer.now ≡ c.args.self.now.offered = c.has_offered.ensures.0 c.if-not-has_offered.false in
    IsStep-seen c.args.self.now c.see_again.new.self _ None true refl refl
    (λ before stands.
    lowest_again c.args.self.now.params before c.args.ready c.args.transfer.now c.args.self.now.tail (waiting_some c.args.self.now before c.requires.waits stands ∙ ap Some (sym is)) stands.tail
    (subst (λ (t : Transfer). IsLowestShown c.args.self.now.params c.args.self.now.tail t None) (sym is) (c.args.self.now.judged.kept c.requires.waits)))
    (subst (λ (t : Transfer). Sees c.args.self.now c.see_again.new.self (record { ready = c.args.ready; shown = Some t })) (sym is) c.see_again.ensures)
