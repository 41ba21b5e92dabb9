-- The commands of the tool by name, and what the help says of each (this project's own).
use Rattle.std.specs.Prelude.{ℕ, List, [], ◌∷◌, Option, codes}
use Rattle.std.specs.List.{find}
use Rattle.std.specs.Str.{bytes_eq}
use Rattle.tydi_help.specs.declared.command.Command.{Command}
use Rattle.tydi_help.specs.declared.command.Command.TheVariants as commands
use Rattle.tydi_help.specs.declared.of_benches.TheConstants.{BENCH, GEN, SIM, TESTBENCH}
use Rattle.tydi_help.specs.declared.of_designs.TheConstants.{CARRY, LINK, VERILOG, VHDL}
use Rattle.tydi_help.specs.declared.of_itself.TheConstants.{HELP, VERSION}
use Rattle.tydi_help.specs.declared.of_monitors.TheConstants.{COMPARE, EXPECT, WATCH}
use Rattle.tydi_help.specs.declared.of_traces.TheConstants.{CHECK, READ, SPLIT, VCD}
use Rattle.tydi_help.specs.declared.of_values.TheConstants.{DECODE, DRIVE, ELASTIC, RESHAPE}

-- the word that spells a command
abbrev pub name_of : Command → List ℕ
name_of commands.Check = codes "check"
name_of commands.Vcd = codes "vcd"
name_of commands.Split = codes "split"
name_of commands.Read = codes "read"
name_of commands.Drive = codes "drive"
name_of commands.Reshape = codes "reshape"
name_of commands.Elastic = codes "elastic"
name_of commands.Decode = codes "decode"
name_of commands.Compare = codes "compare"
name_of commands.Expect = codes "expect"
name_of commands.Watch = codes "watch"
name_of commands.Link = codes "link"
name_of commands.Carry = codes "carry"
name_of commands.Vhdl = codes "vhdl"
name_of commands.Verilog = codes "verilog"
name_of commands.Bench = codes "bench"
name_of commands.Testbench = codes "testbench"
name_of commands.Sim = codes "sim"
name_of commands.Gen = codes "gen"
name_of commands.Help = codes "help"
name_of commands.Version = codes "version"

-- all commands, in the order of the help
abbrev pub all_commands : List Command
all_commands =
    commands.Check ∷ commands.Vcd ∷ commands.Split ∷ commands.Read ∷ commands.Drive ∷ commands.Reshape ∷ commands.Elastic
    ∷ commands.Decode ∷ commands.Compare ∷ commands.Expect ∷ commands.Watch ∷ commands.Link ∷ commands.Carry ∷ commands.Vhdl
    ∷ commands.Verilog ∷ commands.Bench ∷ commands.Testbench ∷ commands.Sim ∷ commands.Gen ∷ commands.Help ∷ commands.Version ∷ []

-- the first of some commands that has the name
abbrev pub command_among : List Command → List ℕ → Option Command
command_among commands name = find (λ (command : Command). bytes_eq (name_of command) name) commands

-- the command of a name
abbrev pub command_named : List ℕ → Option Command
command_named name = command_among all_commands name

-- a command as it is written
abbrev pub words_of : Command → List ℕ
words_of commands.Check = codes "check TRACE"
words_of commands.Vcd = codes "vcd PROJECT PORT SCOPE FILE"
words_of commands.Split = codes "split PROJECT PORT"
words_of commands.Read = codes "read PROJECT"
words_of commands.Drive = codes "drive PROJECT PORT VALUE PLAN"
words_of commands.Reshape = codes "reshape PROJECT PORT LANES LEVEL VALUE PLAN"
words_of commands.Elastic = codes "elastic PROJECT PORT VALUE PLAN NET"
words_of commands.Decode = codes "decode PROJECT PORT TRACE"
words_of commands.Compare = codes "compare PROJECT PORT VALUE TRACE"
words_of commands.Expect = codes "expect PROJECT PORT VALUE"
words_of commands.Watch = codes "watch MONITOR TRACE"
words_of commands.Link = codes "link PROJECT"
words_of commands.Carry = codes "carry PROJECT TOP FROM TO TRACE"
words_of commands.Vhdl = codes "vhdl PROJECT"
words_of commands.Verilog = codes "verilog PROJECT"
words_of commands.Bench = codes "bench PROJECT PORT VALUE PLAN"
words_of commands.Testbench = codes "testbench PROJECT TEST"
words_of commands.Sim = codes "sim BENCH RUN"
words_of commands.Gen = codes "gen PROJECT PORT SEED COUNT"
words_of commands.Help = codes "help [NAME]"
words_of commands.Version = codes "version"

-- what a command does, in one line
abbrev pub sentence_of : Command → List ℕ
sentence_of commands.Check = codes "finds the first violation in a trace, or says that it is legal"
sentence_of commands.Vcd = codes "writes the trace of a port that a value change dump shows"
sentence_of commands.Split = codes "writes the physical streams of a port, with their signals and widths"
sentence_of commands.Read = codes "writes a project in its canonical layout, or its first error"
sentence_of commands.Drive = codes "writes the trace of a source that sends a value"
sentence_of commands.Reshape = codes "writes the trace behind a converter of a stream's lanes and level"
sentence_of commands.Elastic = codes "writes the trace behind the register slices and queues of a port"
sentence_of commands.Decode = codes "writes the value that a trace of a port carries"
sentence_of commands.Compare = codes "says whether a trace carries a value, or where it first differs"
sentence_of commands.Expect = codes "writes a monitor in VHDL, which raises a fault at the first wrong item"
sentence_of commands.Watch = codes "says when a monitor raises its faults over a trace"
sentence_of commands.Link = codes "checks that the components of a design understand each other"
sentence_of commands.Carry = codes "writes the trace that arrives at the other end of a chain of links"
sentence_of commands.Vhdl = codes "writes a project in VHDL: entities, and the architectures that wire them"
sentence_of commands.Verilog = codes "writes the same in Verilog: a module for each streamlet"
sentence_of commands.Bench = codes "writes a VHDL testbench that sends a value"
sentence_of commands.Testbench = codes "writes the testbench of a test that the project declares"
sentence_of commands.Sim = codes "runs such a testbench without a simulator, and writes its trace"
sentence_of commands.Gen = codes "makes a value from a seed, sends it, reads it back, and writes a summary"
sentence_of commands.Help = codes "writes what commands there are, or what one takes and answers"
sentence_of commands.Version = codes "writes the version of tydi, and the kit that proves it"

-- what it takes, answers and writes, with an example
abbrev pub page_of : Command → List ℕ
page_of commands.Check = CHECK.now
page_of commands.Vcd = VCD.now
page_of commands.Split = SPLIT.now
page_of commands.Read = READ.now
page_of commands.Drive = DRIVE.now
page_of commands.Reshape = RESHAPE.now
page_of commands.Elastic = ELASTIC.now
page_of commands.Decode = DECODE.now
page_of commands.Compare = COMPARE.now
page_of commands.Expect = EXPECT.now
page_of commands.Watch = WATCH.now
page_of commands.Link = LINK.now
page_of commands.Carry = CARRY.now
page_of commands.Vhdl = VHDL.now
page_of commands.Verilog = VERILOG.now
page_of commands.Bench = BENCH.now
page_of commands.Testbench = TESTBENCH.now
page_of commands.Sim = SIM.now
page_of commands.Gen = GEN.now
page_of commands.Help = HELP.now
page_of commands.Version = VERSION.now
