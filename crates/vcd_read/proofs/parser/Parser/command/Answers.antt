use Rattle.std.proofs.Common.{refl, ap}
use Rattle.vcd_read.specs.Profile.{Beginning, SectionEnd, command}
use Rattle.vcd_read.specs.declared.parser.Stage.TheVariants as stages
use Rattle.vcd_read.proofs.ParserLemmas.{waits-takes}
use Rattle.vcd_read.proofs.parser.Parser.command.Goals as goal

pub returns-in-Section-clause-takes : goal.returns-in-Section-clause-takes
unfolding command
returns-in-Section-clause-takes c wanted parts is = waits-takes wanted parts c.await_token.result c.args.self.now c.await_token.new.self stages.SectionEnd
    SectionEnd (command parts c.args.offset c.args.keyword) c.await_token.ensures is refl (ap (command parts c.args.offset) c.in-Section.is)

pub returns-in-Dump-clause-takes : goal.returns-in-Dump-clause-takes
unfolding command
returns-in-Dump-clause-takes c wanted parts is = waits-takes wanted parts c.await_token-in-Dump.result c.args.self.now c.await_token-in-Dump.new.self
    stages.Beginning Beginning (command parts c.args.offset c.args.keyword) c.await_token-in-Dump.ensures is refl (ap (command parts c.args.offset)
    c.in-Dump.is)

pub returns-in-End-clause-takes : goal.returns-in-End-clause-takes
unfolding command
returns-in-End-clause-takes c wanted parts is = waits-takes wanted parts c.await_token-in-End.result c.args.self.now c.await_token-in-End.new.self
    stages.Beginning Beginning (command parts c.args.offset c.args.keyword) c.await_token-in-End.ensures is refl (ap (command parts c.args.offset)
    c.in-End.is)

pub returns-in-Scope-clause-takes : goal.returns-in-Scope-clause-takes
unfolding command
returns-in-Scope-clause-takes c wanted parts is = ap (command parts c.args.offset) c.in-Scope.is

pub returns-in-Upscope-clause-takes : goal.returns-in-Upscope-clause-takes
unfolding command
returns-in-Upscope-clause-takes c wanted parts is = ap (command parts c.args.offset) c.in-Upscope.is

pub returns-in-Var-clause-takes : goal.returns-in-Var-clause-takes
unfolding command
returns-in-Var-clause-takes c wanted parts is = ap (command parts c.args.offset) c.in-Var.is

pub returns-in-EndDefinitions-clause-takes : goal.returns-in-EndDefinitions-clause-takes
unfolding command
returns-in-EndDefinitions-clause-takes c wanted parts is = ap (command parts c.args.offset) c.in-EndDefinitions.is

pub returns-in-Other-clause-takes : goal.returns-in-Other-clause-takes
unfolding command
returns-in-Other-clause-takes c wanted parts is = ap (command parts c.args.offset) c.in-Other.is
