use Rattle.test_calls.proofs.Told.{answered}
use Rattle.test_calls.proofs.values.answer_line.Goals as goal

pub returns : goal.returns
returns c = λ out. answered c.args.v c.number_of-number.result c.place_of-place.result c.unwrap_or.result out c.number_of-number.ensures c.place_of-place.ensures c.unwrap_or.ensures c.put_line.ensures
