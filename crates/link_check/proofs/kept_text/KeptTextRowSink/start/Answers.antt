use Rattle.std.proofs.Common.{◌∙◌, ◌++◌, sym, ap, arith}
use Rattle.cycle_trace.specs.Spelling.{header_text}
use Rattle.cycle_trace.specs.Version.{version_of}
use Rattle.link_check.proofs.KeptTextLemmas.{kept-first, text-begun}
use Rattle.link_check.proofs.kept_text.KeptTextRowSink.start.Goals as goal

pub returns-clause-started : goal.returns-clause-started
returns-clause-started c = record {
  heads = c.in_ok-self.ensures;
  cycle = 0;
  next = record { place = omega arith; within = λ some. some };
  text = kept-first c.write_header.new.out _ c.len.result
      (c.in_ok-write_header.ensures.ok ∙ ap (λ l. l ++ header_text (version_of c.args.header.now.heads) c.args.header.now.cycles c.args.header.now.heads) c.new.ensures ∙ sym (text-begun c.args.header.now)) c.len.ensures;
}
