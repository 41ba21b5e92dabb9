use Rattle.std.proofs.Common.{sym, subst}
use Rattle.tydi_io.specs.Faults.{Rose}
use Rattle.tydi_tool.specs.declared.words.Command.{Command}
use Rattle.tydi_tool.specs.Ask.{Decides}
use Rattle.tydi_tool.specs.Commands.{ask_of}
use Rattle.tydi_tool.specs.Words.{request_from}
use Rattle.tydi_tool.proofs.commands.reply_to.Goals as goal

-- src/commands.rt:33:1
pub returns-in-Split : goal.returns-in-Split
returns-in-Split g c = record {
  decided = subst (λ (command : Command). Decides
      (g.S.Store.files c.args.store.now) (g.S.Store.started c.args.store.now) (g.S.Store.started c.split.new.store)
      (Rose (g.S.Store.faults c.args.store.now) (g.S.Store.faults c.split.new.store)) (ask_of (request_from command)) c.split.result)
      (sym c.in-Split.is) c.split.ensures.decided;
}

pub returns-in-Drive : goal.returns-in-Drive
returns-in-Drive g c = record {
  decided = subst (λ (command : Command). Decides
      (g.S.Store.files c.args.store.now) (g.S.Store.started c.args.store.now) (g.S.Store.started c.drive.new.store)
      (Rose (g.S.Store.faults c.args.store.now) (g.S.Store.faults c.drive.new.store)) (ask_of (request_from command)) c.drive.result)
      (sym c.in-Drive.is) c.drive.ensures.decided;
}

pub returns-in-Sim : goal.returns-in-Sim
returns-in-Sim g c = record {
  decided = subst (λ (command : Command). Decides
      (g.S.Store.files c.args.store.now) (g.S.Store.started c.args.store.now) (g.S.Store.started c.sim.new.store)
      (Rose (g.S.Store.faults c.args.store.now) (g.S.Store.faults c.sim.new.store)) (ask_of (request_from command)) c.sim.result)
      (sym c.in-Sim.is) c.sim.ensures.decided;
}

pub returns-in-Link : goal.returns-in-Link
returns-in-Link g c = record {
  decided = subst (λ (command : Command). Decides
      (g.S.Store.files c.args.store.now) (g.S.Store.started c.args.store.now) (g.S.Store.started c.link.new.store)
      (Rose (g.S.Store.faults c.args.store.now) (g.S.Store.faults c.link.new.store)) (ask_of (request_from command)) c.link.result)
      (sym c.in-Link.is) c.link.ensures.decided;
}

pub returns-in-Decode : goal.returns-in-Decode
returns-in-Decode g c = record {
  decided = subst (λ (command : Command). Decides
      (g.S.Store.files c.args.store.now) (g.S.Store.started c.args.store.now) (g.S.Store.started c.decode.new.store)
      (Rose (g.S.Store.faults c.args.store.now) (g.S.Store.faults c.decode.new.store)) (ask_of (request_from command)) c.decode.result)
      (sym c.in-Decode.is) c.decode.ensures.decided;
}

pub returns-in-Carry : goal.returns-in-Carry
returns-in-Carry g c = record {
  decided = subst (λ (command : Command). Decides
      (g.S.Store.files c.args.store.now) (g.S.Store.started c.args.store.now) (g.S.Store.started c.carry.new.store)
      (Rose (g.S.Store.faults c.args.store.now) (g.S.Store.faults c.carry.new.store)) (ask_of (request_from command)) c.carry.result)
      (sym c.in-Carry.is) c.carry.ensures.decided;
}

pub returns-in-Vhdl : goal.returns-in-Vhdl
returns-in-Vhdl g c = record {
  decided = subst (λ (command : Command). Decides
      (g.S.Store.files c.args.store.now) (g.S.Store.started c.args.store.now) (g.S.Store.started c.design.new.store)
      (Rose (g.S.Store.faults c.args.store.now) (g.S.Store.faults c.design.new.store)) (ask_of (request_from command)) c.design.result)
      (sym c.in-Vhdl.is) c.design.ensures.decided;
}

pub returns-in-Verilog : goal.returns-in-Verilog
returns-in-Verilog g c = record {
  decided = subst (λ (command : Command). Decides
      (g.S.Store.files c.args.store.now) (g.S.Store.started c.args.store.now) (g.S.Store.started c.design-in-Verilog.new.store)
      (Rose (g.S.Store.faults c.args.store.now) (g.S.Store.faults c.design-in-Verilog.new.store)) (ask_of (request_from command)) c.design-in-Verilog.result)
      (sym c.in-Verilog.is) c.design-in-Verilog.ensures.decided;
}

pub returns-in-Bench : goal.returns-in-Bench
returns-in-Bench g c = record {
  decided = subst (λ (command : Command). Decides
      (g.S.Store.files c.args.store.now) (g.S.Store.started c.args.store.now) (g.S.Store.started c.bench.new.store)
      (Rose (g.S.Store.faults c.args.store.now) (g.S.Store.faults c.bench.new.store)) (ask_of (request_from command)) c.bench.result)
      (sym c.in-Bench.is) c.bench.ensures.decided;
}

pub returns-in-Testbench : goal.returns-in-Testbench
returns-in-Testbench g c = record {
  decided = subst (λ (command : Command). Decides
      (g.S.Store.files c.args.store.now) (g.S.Store.started c.args.store.now) (g.S.Store.started c.testbench.new.store)
      (Rose (g.S.Store.faults c.args.store.now) (g.S.Store.faults c.testbench.new.store)) (ask_of (request_from command)) c.testbench.result)
      (sym c.in-Testbench.is) c.testbench.ensures.decided;
}

pub returns-in-Vcd : goal.returns-in-Vcd
returns-in-Vcd g c = record {
  decided = subst (λ (command : Command). Decides
      (g.S.Store.files c.args.store.now) (g.S.Store.started c.args.store.now) (g.S.Store.started c.vcd.new.store)
      (Rose (g.S.Store.faults c.args.store.now) (g.S.Store.faults c.vcd.new.store)) (ask_of (request_from command)) c.vcd.result)
      (sym c.in-Vcd.is) c.vcd.ensures.decided;
}

pub returns-in-Gen : goal.returns-in-Gen
returns-in-Gen g c = record {
  decided = subst (λ (command : Command). Decides
      (g.S.Store.files c.args.store.now) (g.S.Store.started c.args.store.now) (g.S.Store.started c.generate.new.store)
      (Rose (g.S.Store.faults c.args.store.now) (g.S.Store.faults c.generate.new.store)) (ask_of (request_from command)) c.generate.result)
      (sym c.in-Gen.is) c.generate.ensures.decided;
}

pub returns-in-Compare : goal.returns-in-Compare
returns-in-Compare g c = record {
  decided = subst (λ (command : Command). Decides
      (g.S.Store.files c.args.store.now) (g.S.Store.started c.args.store.now) (g.S.Store.started c.compare.new.store)
      (Rose (g.S.Store.faults c.args.store.now) (g.S.Store.faults c.compare.new.store)) (ask_of (request_from command)) c.compare.result)
      (sym c.in-Compare.is) c.compare.ensures.decided;
}

pub returns-in-Expect : goal.returns-in-Expect
returns-in-Expect g c = record {
  decided = subst (λ (command : Command). Decides
      (g.S.Store.files c.args.store.now) (g.S.Store.started c.args.store.now) (g.S.Store.started c.expect.new.store)
      (Rose (g.S.Store.faults c.args.store.now) (g.S.Store.faults c.expect.new.store)) (ask_of (request_from command)) c.expect.result)
      (sym c.in-Expect.is) c.expect.ensures.decided;
}

pub returns-in-Watch : goal.returns-in-Watch
returns-in-Watch g c = record {
  decided = subst (λ (command : Command). Decides
      (g.S.Store.files c.args.store.now) (g.S.Store.started c.args.store.now) (g.S.Store.started c.watch.new.store)
      (Rose (g.S.Store.faults c.args.store.now) (g.S.Store.faults c.watch.new.store)) (ask_of (request_from command)) c.watch.result)
      (sym c.in-Watch.is) c.watch.ensures.decided;
}
