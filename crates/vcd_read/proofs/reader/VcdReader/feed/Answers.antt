use Rattle.vcd_read.proofs.ReaderLemmas.{fed-all, fed-nothing, fed-word, room-word}
use Rattle.vcd_read.proofs.reader.VcdReader.feed.Goals as goal

pub words-init : goal.words-init
words-init c = fed-nothing c.args.piece.now c.args.self.now

pub end_word-requires-clause-room : goal.end_word-requires-clause-room
end_word-requires-clause-room c = room-word c.args.piece.now c.words.rest.now c.in-Some.word.now c.in-Some.after.now c.args.self.now c.words.self
    c.words.invariant c.in-Some.ensures.some c.requires

pub words-preserved : goal.words-preserved
words-preserved c = fed-word c.args.piece.now c.words.rest.now c.in-Some.word.now c.in-Some.after.now c.args.self.now c.words.self c.end_word.new.self
    c.words.invariant c.in-Some.ensures.some c.end_word.ensures

pub returns-clause-stands : goal.returns-clause-stands
returns-clause-stands c = fed-all c.args.piece.now c.words.rest.now c.args.self.now c.words.self c.go_on.new.self c.words.invariant c.go_on.ensures
