-- `check` meets its contract: empty rooms stay empty.
use Rattle.judge.proofs.Documents.{empty_kept}
use Rattle.judge.proofs.whole.check.Goals as goal

pub returns : goal.returns
returns c =
    let s = c.args in
    let p = c.pass in
    record {
      checked = p.ensures.checked;
      rows_unchanged = (empty_kept s.rows.now p.new.rows p.auto.rows, empty_kept s.text.now p.new.text p.auto.text);
      logged = p.ensures.logged;
    }
