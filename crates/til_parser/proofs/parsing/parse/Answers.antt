use Rattle.til_parser.proofs.rules.Common.{sym, ap, ◌∙◌, lexemes_of, project}
use Rattle.til_parser.proofs.LawLemmas.{formed_of}
use Rattle.til_parser.proofs.LexemeLemmas.{length-lexemes}
use Rattle.til_parser.proofs.rules.ParseLemmas.{project_sound, tree_or_fault, said, named, told}
use Rattle.til_parser.proofs.parsing.parse.Goals as goal

pub new-parser-requires-clause-each : goal.new-parser-requires-clause-each
new-parser-requires-clause-each c = c.tokens_are_of_the_text.ensures c.args.text.now c.args.tokens.now c.utf8.text c.requires

pub returns-in-Ok : goal.returns-in-Ok
returns-in-Ok c =
    let ts = lexemes_of c.args.text.now c.args.tokens.now in
    let tree = project_sound 64 ts c.project.new.self c.in-Ok.ast (ap (project 64) (sym c.new-parser.ensures) ∙ c.in-Ok.ensures {u = tt}) in
    let law = tree_or_fault ts (formed_of c.args.text.now c.args.tokens.now c.utf8.text c.requires) in
    record { spelled = tree.0; within = tree.1; none = tt; named = tt; exact = tt; told = λ fault is. absurd (law.apart fault is c.in-Ok.ast tree.0 tree.1) }

pub returns-in-Err : goal.returns-in-Err
returns-in-Err c =
    let ts = lexemes_of c.args.text.now c.args.tokens.now in
    let formed = formed_of c.args.text.now c.args.tokens.now c.utf8.text c.requires in
    let count = sym (length-lexemes c.args.text.now c.args.tokens.now) in
    let is = said ts c.project.new.self _ _ c.in-Err.fault _ formed (λ other. ap (project 64) (sym c.new-parser.ensures) ∙ c.in-Err.ensures {u = tt} other)
    c.fault_at.ensures count c.left.ensures in
    let fault = c.fault_at.result in
    let law = tree_or_fault ts formed in
    record { spelled = tt; within = tt; none = λ other. law.apart fault (is other); named = named ts _ fault count is; exact = is; told = told ts formed fault is }
