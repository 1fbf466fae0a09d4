use Rattle.test_networks.proofs.Told.{told}
use Rattle.test_networks.proofs.answer_lines.Goals as goal

pub returns : goal.returns
returns c =
    let a = c.args in
    told a.net.now c.read-answer.result c.number_of-number.result c.place_of-place.result c.unwrap_or-told.result c.read-answer.ensures.answers c.number_of-number.ensures c.place_of-place.ensures
    c.unwrap_or-told.ensures c.put_line_at-a.ensures c.put_list-b.ensures c.put_list-c.ensures c.put_list.ensures
