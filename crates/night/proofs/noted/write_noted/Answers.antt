-- `night::noted::write_noted` meets its contract.
use Rattle.std.proofs.Common.{◌∙◌}
use Rattle.std.proofs.lemmas.Result.{err_from_is_err_and}
use Rattle.night.proofs.AnswerLaws.{write_none, write_done}
use Rattle.night.proofs.noted.write_noted.Goals as goal

pub returns-in_err-answer_at : goal.returns-in_err-answer_at
returns-in_err-answer_at c =
    let p = err_from_is_err_and c.from_residual.result c.from_residual.ensures.1 in
    rw (p.1, p.2)
    (write_none c.args.observation c.requires.0 c.args.list.now c.is_radar.result c.is_radar.ensures c.in_err-answer_at.ensures)

pub returns : goal.returns
returns c =
    let written = write_done c.args.observation c.requires.0 c.args.list.now c.is_radar.result c.is_radar.ensures c.requires.1 c.in_ok-answer_at.ensures in
    (written.0, c.write_at.ensures ∙ written.1)
