use Rattle.std.specs.Prelude.{Ok}
use Rattle.packing.proofs.Packed.{words_written}
use Rattle.reader.specs.Answer.{answer_of}
use Rattle.packing.proofs.write_answer.Goals as goal

pub returns : goal.returns
returns c =
    words_written c.args.answer.now (answer_of (Ok c.args.read)) c.requires.1 c.requires.0
    c.write_list.new.answer c.write_list-2.new.answer c.write_list-3.new.answer c.write_list-4.new.answer
    c.write_list.ensures c.write_list-2.ensures c.write_list-3.ensures c.write_list-4.ensures
